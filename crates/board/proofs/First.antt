-- What the first entries of a board show.
use Rattle.std.proofs.Common.{◌≡◌, ℕ, ◌≤◌, Bool, true, false, cond, nat_lt, List, [], ◌∷◌, ◌++◌, map, take, length, refl, sym, ap, subst, ◌∙◌, arith}
use Rattle.std.proofs.lemmas.Bool.Decides.{nat_tests}
use Rattle.std.proofs.lemmas.List.{append-nil}
use Rattle.units.specs.declared.writes.Install.{Install}
use Rattle.versions.specs.Arranged.{arranged}
use Rattle.versions.specs.Headed.{Headed}
use Rattle.versions.specs.Places.{SameFrom}
use Rattle.versions.proofs.Same.{same-from, same-higher}
use Rattle.board.specs.declared.entry.BoardEntry.{BoardEntry}
use Rattle.board.specs.declared.entry.BoardEntry.TheVariants.{Installed, Safe, Horizon}
use Rattle.board.specs.Board.{versions_on, safe_from, safe_on, horizon_on, horizon_entries, first_entries, AreInOrder, MatchesEntries}
use Rattle.board.proofs.Longer.{safe_from-safe, safe_from-horizon, horizon_on-more, versions_on-more}

-- the versions as entries
abbrev pub as_entries : List Install → List BoardEntry
as_entries installs = map (λ i. Installed i) installs

pub versions_on-entries : (xs : List Install) → versions_on (as_entries xs) ≡ xs
versions_on-entries [] = refl
versions_on-entries (i ∷ xs) = ap (λ is. i ∷ is) (versions_on-entries xs)

pub horizon_on-entries : (xs : List Install) → horizon_on (as_entries xs) ≡ 0
horizon_on-entries [] = refl
horizon_on-entries (i ∷ xs) = horizon_on-entries xs

pub safe_from-entries : (low : ℕ) (xs : List Install) → safe_from low (as_entries xs) ≡ low
safe_from-entries low [] = refl
safe_from-entries low (i ∷ xs) = safe_from-entries low xs

-- a horizon that is there, or none
module _ (h : ℕ) where
  pub no_versions : versions_on (horizon_entries h) ≡ []
  no_versions = by_test (nat_lt 0 h)
    where
      by_test : (b : Bool) → versions_on (cond b (Horizon h ∷ []) []) ≡ []
      by_test true = refl
      by_test false = refl

  pub that_horizon : horizon_on (horizon_entries h) ≡ h
  that_horizon = by_test (nat_lt 0 h) refl
    where
      by_test : (b : Bool) → nat_lt 0 h ≡ b → horizon_on (cond b (Horizon h ∷ []) []) ≡ h
      by_test true is = omega arith
      by_test false is = let low : h ≤ 0 = grind (arith, nat_tests) in omega (arith, low)

  pub safe_behind : (xs : List BoardEntry) → safe_on (xs ++ horizon_entries h) ≡ safe_on xs
  safe_behind xs = by_test (nat_lt 0 h)
    where
      by_test : (b : Bool) → safe_on (xs ++ cond b (Horizon h ∷ []) []) ≡ safe_on xs
      by_test true = safe_from-horizon 0 xs h
      by_test false = ap safe_on (append-nil xs)

-- and that is its horizon
pub opening_horizon : (installs : List Install) (t h : ℕ) → horizon_on (first_entries installs t h) ≡ h
opening_horizon installs t h =
    omega (
      arith,
      horizon_on-more (as_entries installs ++ horizon_entries h) (Safe t ∷ []),
      horizon_on-more (as_entries installs) (horizon_entries h),
      horizon_on-entries installs,
      that_horizon h,
    )

-- and those are its versions
pub opening_versions : (installs : List Install) (t h : ℕ) → versions_on (first_entries installs t h) ≡ installs
opening_versions installs t h =
    versions_on-more (as_entries installs ++ horizon_entries h) (Safe t ∷ []) ∙ append-nil (versions_on (as_entries installs ++ horizon_entries h))
    ∙ versions_on-more (as_entries installs) (horizon_entries h) ∙ (λ i. versions_on-entries installs i ++ no_versions h i) ∙ append-nil installs

-- and that is its served time
opening_safe : (installs : List Install) (t h : ℕ) → safe_on (first_entries installs t h) ≡ t
opening_safe installs t h = safe_from-safe 0 (as_entries installs ++ horizon_entries h) t

whole : (xs : List Install) → take (length xs) xs ≡ xs
whole [] = refl
whole (x ∷ xs) = ap (λ ys. x ∷ ys) (whole xs)

-- versions in order show the first entries
pub first_shows : (installs versions : List Install) (places : Headed) (safe horizon : ℕ) → AreInOrder installs horizon places
    → versions ≡ arranged installs places.places
    → MatchesEntries versions safe horizon (first_entries installs safe horizon)
first_shows installs versions places safe horizon order are =
    let all = first_entries installs safe horizon in
    let same = same-from horizon (arranged installs places.places) (take (length installs) installs)
    (same-higher order.0 horizon _ _ order.1 order.2.same) in
    record {
      same =
          subst (λ (h : ℕ). SameFrom h versions (versions_on all)) (sym (opening_horizon installs safe horizon))
          (subst (λ (is : List Install). SameFrom horizon is (versions_on all)) (sym are)
          (subst (SameFrom horizon (arranged installs places.places)) (whole installs ∙ sym (opening_versions installs safe horizon)) same));
      served = sym (opening_safe installs safe horizon);
      since = sym (opening_horizon installs safe horizon);
    }
