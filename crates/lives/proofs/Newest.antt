-- The newest version up to a time, by where it stands.
use Rattle.std.proofs.Common.{◌≡◌, ◌≢◌, ◌<◌, ℕ, zero, suc, Bool, true, false, cond, ◌&&◌, nat_le, nat_lt, List, [], ◌∷◌, length, get_or, filter}
use Rattle.std.proofs.Common.{Option, Some, None, refl, sym, ap, ◌∙◌, subst, arith}
use Rattle.std.proofs.lemmas.Bool.Decides.{nat_tests}
use Rattle.units.specs.Keys.{Bytes, same_key}
use Rattle.units.specs.Newer.{newest_upto}
use Rattle.units.specs.Versions.{newest, of_key}
use Rattle.units.specs.declared.writes.Install.{Install}
use Rattle.lives.specs.Spots.{no_install}

-- none, or one of an earlier time
abbrev IsEarlier : ℕ → Option Install → Type 0
IsEarlier n None = Unit {0}
IsEarlier n (Some i) = i.at < n

-- the later of the two, the first where they are of one time
abbrev later : Install → Option Install → Option Install
later x found = elim found [ None ↦ Some x | Some j ↦ cond (nat_lt x.at j.at) (Some j) (Some x) ]

later_first : (x : Install) (found : Option Install) → IsEarlier x.at found → later x found ≡ Some x
later_first x None h = refl
later_first x (Some j) h = let e : nat_lt x.at j.at ≡ false = grind (arith, nat_tests) in ap (λ b. cond b (Some j) (Some x)) e

later_earlier : (n : ℕ) (x : Install) (found : Option Install) → x.at < n → IsEarlier n found → IsEarlier n (later x found)
later_earlier n x None lt h = lt
later_earlier n x (Some j) lt h = by (nat_lt x.at j.at)
  where
    by : (b : Bool) → IsEarlier n (cond b (Some j) (Some x))
    by true = h
    by false = lt

module _ (k : Bytes) (at : ℕ) where
  -- a version of the key, up to the time
  abbrev pub fits : Install → Bool
  fits i = nat_le i.at at && same_key i.key k

  one_more : (x : Install) (xs : List Install) → newest_upto (x ∷ xs) k at ≡ cond (fits x) (later x (newest_upto xs k at)) (newest_upto xs k at)
  one_more x xs = by_time (nat_le x.at at)
    where
      upto : List Install
      upto = filter (λ (i : Install). nat_le i.at at) xs

      own : List Install
      own = of_key upto k

      by_key : (b : Bool) → newest (cond b (x ∷ own) own) ≡ cond b (later x (newest own)) (newest own)
      by_key true = refl
      by_key false = refl

      by_time : (a : Bool) → newest (of_key (cond a (x ∷ upto) upto) k) ≡ cond (a && same_key x.key k) (later x (newest own)) (newest own)
      by_time false = refl
      by_time true = by_key (same_key x.key k)

  -- none where none fits
  pub none_newest : (xs : List Install) → ((q : ℕ) → q < length xs → fits (get_or xs q no_install) ≡ false) → newest_upto xs k at ≡ None
  none_newest [] none = refl
  none_newest (x ∷ xs) none =
      one_more x xs ∙ ap (λ b. cond b (later x (newest_upto xs k at)) (newest_upto xs k at)) (none 0 (omega arith))
      ∙ none_newest xs (λ q lt. none (suc q) (omega (arith, lt)))

  earlier : (n : ℕ) (xs : List Install) → ((q : ℕ) → q < length xs → fits (get_or xs q no_install) ≡ true → (get_or xs q no_install).at < n)
      → IsEarlier n (newest_upto xs k at)
  earlier n [] all = tt
  earlier n (x ∷ xs) all =
      subst (IsEarlier n) (sym (one_more x xs)) (by (fits x) (all 0 (omega arith)) (earlier n xs (λ q lt. all (suc q) (omega (arith, lt)))))
    where
      by : (b : Bool) → (b ≡ true → x.at < n) → IsEarlier n (newest_upto xs k at) → IsEarlier n (cond b (later x (newest_upto xs k at)) (newest_upto xs k at))
      by true first rest = later_earlier n x (newest_upto xs k at) (first refl) rest
      by false first rest = rest

  -- one that fits, where all others that fit are of earlier times
  pub one_newest : (xs : List Install) (p : ℕ) → p < length xs → fits (get_or xs p no_install) ≡ true
      → ((q : ℕ) → q < length xs → q ≢ p → fits (get_or xs q no_install) ≡ true → (get_or xs q no_install).at < (get_or xs p no_install).at)
      → newest_upto xs k at ≡ Some (get_or xs p no_install)
  one_newest [] p lt here all = absurd (omega arith)
  one_newest (x ∷ xs) zero lt here all =
      one_more x xs ∙ ap (λ b. cond b (later x (newest_upto xs k at)) (newest_upto xs k at)) here
      ∙ later_first x (newest_upto xs k at) (earlier x.at xs (λ q less. all (suc q) (omega (arith, less)) (omega arith)))
  one_newest (x ∷ xs) (suc p) lt here all =
      one_more x xs
      ∙ ap (λ o. cond (fits x) (later x o) o)
      (one_newest xs p (omega (arith, lt)) here (λ q less other. all (suc q) (omega (arith, less)) (omega (arith, other))))
      ∙ by (fits x) (all 0 (omega arith) (omega arith))
    where
      y : Install
      y = get_or xs p no_install

      by : (b : Bool) → (b ≡ true → x.at < y.at) → cond b (cond (nat_lt x.at y.at) (Some y) (Some x)) (Some y) ≡ Some y
      by false less = refl
      by true less = ap (λ b. cond b (Some y) (Some x)) (up (less refl))
        where
          up : x.at < y.at → nat_lt x.at y.at ≡ true
          up h = grind (arith, nat_tests)
