-- Where the versions of a key stand, once there is one more.
use Rattle.std.proofs.Common.{◌≡◌, ◌⊎◌, inl, inr, ◌≤◌, ◌<◌, ◌+◌, ◌-◌, ℕ, Bool, true, false, cond, nat_lt, List, []}
use Rattle.std.proofs.Common.{◌∷◌, ◌++◌, length, get_or, Some, None, refl, sym, ap, ◌∙◌, subst, arith}
use Rattle.std.proofs.lemmas.Bool.{cases_lt, false≢true}
use Rattle.std.proofs.lemmas.Bool.Decides.{nat_tests}
use Rattle.std.proofs.lemmas.List.{get_or_append_left, length-append}
use Rattle.std.proofs.lemmas.Option.{slice_get-get_or, slice_get_past}
use Rattle.std.specs.Map.{lookup}
use Rattle.std.specs.declared.vec.Vec.{Vec}
use Rattle.std.proofs.Math.Seq.{get_or-append_seam}
use Rattle.units.specs.Keys.{Bytes, same_key}
use Rattle.units.proofs.KeyLaws.{same_key-is}
use Rattle.units.specs.declared.writes.Install.{Install}
use Rattle.lives.specs.Spots.{AreOf, AreSpots, IsAhead, IsOf, line, no_install, no_spot, since_behind, since_of, spots_in}
use Rattle.lives.specs.declared.spots.Spot.{Spot}

-- what stands at a place, once there is one more
at_last : {A : Type 0} (xs : List A) (x d : A) (p : ℕ) → p < length (xs ++ x ∷ [])
    → ((p < length xs) × (get_or (xs ++ x ∷ []) p d ≡ get_or xs p d)) ⊎ ((p ≡ length xs) × (get_or (xs ++ x ∷ []) p d ≡ x))
at_last xs x d p lt = elim (cases_lt p (length xs)) [
  | inl less ↦ inl (less, get_or_append_left xs (x ∷ []) d p less)
  | inr more ↦
      let e : p ≡ length xs = omega (arith, more, lt, length-append xs (x ∷ [])) in
      inr (e, ap (λ n. get_or (xs ++ x ∷ []) n d) e ∙ get_or-append_seam xs x [] d)
]

still_of : (is : List Install) (i : Install) (k : Bytes) (s : Spot) → IsOf is k s → IsOf (is ++ i ∷ []) k s
still_of is i k s h =
    let same : get_or (is ++ i ∷ []) s.place no_install ≡ get_or is s.place no_install = get_or_append_left is (i ∷ []) no_install s.place h.within in
    record {
      within = omega (arith, h.within, length-append is (i ∷ []));
      key = ap (λ x. same_key x.key k) same ∙ h.key;
      at = ap (λ x. x.at) same ∙ h.at;
      since = h.since;
    }

-- one of another key
pub of_other : (is : List Install) (i : Install) (k : Bytes) (spots : List Spot) → same_key i.key k ≡ false → AreOf is k spots
    → AreOf (is ++ i ∷ []) k spots
of_other is i k spots other h = record {
  each = λ j lt. still_of is i k (get_or spots j no_spot) (h.each j lt);
  all = λ p lt same. elim (at_last is i no_install p lt) [
    | inl old ↦ h.all p old.0 (sym (ap (λ x. same_key x.key k) old.1) ∙ same)
    | inr new ↦ absurd (false≢true (sym other ∙ sym (ap (λ x. same_key x.key k) new.1) ∙ same))
  ];
  up = h.up;
}

-- a spot is ahead of what comes behind those that it is ahead of
ahead_too : (a b c : Spot) → IsAhead a b → IsAhead b c → IsAhead a c
ahead_too a b c h k = record {
  place = omega (arith, h.place, k.place);
  since = omega (arith, h.since, k.since);
  at = λ e. omega (arith, h.at (omega (arith, h.since, k.since, e)), k.at (omega (arith, h.since, k.since, e)));
}

module _ (is : List Install) (i : Install) (k : Bytes) (spots : List Spot) (h : AreOf is k spots) where
  abbrev new_since : ℕ → Spot
  new_since since = record { place = length is; at = i.at; since = since }

  abbrev new : Spot
  new = new_since (since_of spots (length is) i.at)

  module _ (some : 0 < length spots) where
    abbrev last : Spot
    last = get_or spots (length spots - 1) no_spot

    of_last : IsOf is k last
    of_last = h.each (length spots - 1) (omega (arith, some))

    by_last : (b : Bool) → nat_lt last.at i.at ≡ b
        → IsAhead last (new_since (cond b last.since (length is))) × (cond b last.since (length is) ≤ length is)
    by_last true e = (
      record { place = of_last.within; since = omega arith; at = λ same. less_of last.at i.at e },
      omega (arith, of_last.since, of_last.within),
    )
      where
        less_of : (a b : ℕ) → nat_lt a b ≡ true → a < b
        less_of a b e = grind (arith, nat_tests)
    by_last false e = (
      record {
        place = of_last.within;
        since = omega (arith, of_last.since, of_last.within);
        at = λ same. absurd (omega (arith, of_last.since, of_last.within, same));
      },
      omega arith,
    )

    -- the last one is ahead of it
    behind_last : IsAhead last new × (new.since ≤ length is)
    behind_last = subst (λ n. IsAhead last (new_since n) × (n ≤ length is))
        (sym (ap (λ o. since_behind o (length is) i.at) (slice_get-get_or spots (length spots - 1) no_spot (omega (arith, some)))))
        (by_last (nat_lt last.at i.at) refl)

  -- so are all
  all_ahead : (j : ℕ) → j < length spots → IsAhead (get_or spots j no_spot) new
  all_ahead j lt =
      let some : 0 < length spots = omega (arith, lt) in
      elim (cases_lt j (length spots - 1)) [
        | inl less ↦ ahead_too (get_or spots j no_spot) (last some) new (h.up j (length spots - 1) less (omega (arith, lt))) (behind_last some).0
        | inr more ↦
            let e : length spots - 1 ≡ j = omega (arith, lt, more) in
            subst (λ n. IsAhead (get_or spots n no_spot) new) e (behind_last some).0
      ]

  -- where its timestamps begin to ascend is no later place
  since_within : new.since ≤ length is
  since_within = elim (cases_lt 0 (length spots)) [
    | inl some ↦ (behind_last some).1
    | inr none ↦ subst (λ o. since_behind o (length is) i.at ≤ length is) (sym (slice_get_past spots (length spots - 1) (omega (arith, none)))) (omega arith)
  ]

  -- its own spot
  new_of : same_key i.key k ≡ true → IsOf (is ++ i ∷ []) k new
  new_of seen =
      let here : get_or (is ++ i ∷ []) (length is) no_install ≡ i = get_or-append_seam is i [] no_install in
      record {
        within = omega (arith, length-append is (i ∷ []));
        key = ap (λ x. same_key x.key k) here ∙ seen;
        at = ap (λ x. x.at) here;
        since = since_within;
      }

  -- one of the key
  pub of_own : same_key i.key k ≡ true → AreOf (is ++ i ∷ []) k (spots ++ new ∷ [])
  of_own seen = record {
    each = λ j lt. elim (at_last spots new no_spot j lt) [
      | inl old ↦ subst (IsOf (is ++ i ∷ []) k) (sym old.1) (still_of is i k (get_or spots j no_spot) (h.each j old.0))
      | inr here ↦ subst (IsOf (is ++ i ∷ []) k) (sym here.1) (new_of seen)
    ];
    all = λ p lt same. elim (at_last is i no_install p lt) [
      | inl old ↦
          let found = h.all p old.0 (sym (ap (λ x. same_key x.key k) old.1) ∙ same) in (
            found.0,
            omega (arith, found.1, length-append spots (new ∷ [])),
            ap (λ s. s.place) (get_or_append_left spots (new ∷ []) no_spot found.0 found.1) ∙ found.2,
          )
      | inr here ↦ (length spots, omega (arith, length-append spots (new ∷ [])), ap (λ s. s.place) (get_or-append_seam spots new [] no_spot) ∙ sym here.0)
    ];
    up = λ j l less lt. elim (at_last spots new no_spot l lt) [
      | inl old ↦
          subst (λ s. IsAhead s (get_or (spots ++ new ∷ []) l no_spot)) (sym (get_or_append_left spots (new ∷ []) no_spot j (omega (arith, less, old.0))))
          (subst (IsAhead (get_or spots j no_spot)) (sym old.1) (h.up j l less old.0))
      | inr here ↦
          subst (λ s. IsAhead s (get_or (spots ++ new ∷ []) l no_spot)) (sym (get_or_append_left spots (new ∷ []) no_spot j (omega (arith, less, here.0))))
          (subst (IsAhead (get_or spots j no_spot)) (sym here.1) (all_ahead j (omega (arith, less, here.0))))
    ];
  }

-- the spots of every key, where one key's were taken out and put in again with the new one
pub one_added : {A : Type 0} (is : List Install) (i : Install) (old mid new : List (Bytes × Vec Spot A)) (was now : Vec Spot A)
    → ((q : Bytes) → lookup (same_key q) mid ≡ cond (same_key i.key q) None (lookup (same_key q) old))
    → ((q : Bytes) → lookup (same_key q) new ≡ cond (same_key i.key q) (Some now) (lookup (same_key q) mid))
    → was.items ≡ line old i.key
    → now.items ≡ was.items ++ record { place = length is; at = i.at; since = since_of was.items (length is) i.at } ∷ []
    → AreSpots is old → AreSpots (is ++ i ∷ []) new
one_added is i old mid new was now out put had more h k = by_key (same_key i.key k) refl
  where
    by_key : (b : Bool) → same_key i.key k ≡ b → AreOf (is ++ i ∷ []) k (line new k)
    by_key true own =
        let items : line new k ≡ now.items = ap spots_in
        (put k ∙ ap (λ b. cond b (Some now) (lookup (same_key k) mid)) own) in
        subst (AreOf (is ++ i ∷ []) k) (sym (items ∙ more))
        (of_own is i k was.items (subst (AreOf is k) (ap (line old) (sym (same_key-is i.key k own)) ∙ sym had) (h k)) own)
    by_key false other =
        let items : line new k ≡ line old k = ap spots_in
        (put k ∙ ap (λ b. cond b (Some now) (lookup (same_key k) mid)) other ∙ out k ∙ ap (λ b. cond b None (lookup (same_key k) old)) other) in
        subst (AreOf (is ++ i ∷ []) k) (sym items) (of_other is i k (line old k) other (h k))
