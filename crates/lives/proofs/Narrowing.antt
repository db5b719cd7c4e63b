-- A key's spots that stand in a view, and the one among them that shows its value.
use Rattle.std.proofs.Common.{◌≡◌, ◌≢◌, inl, inr, ◌≤◌, ◌<◌, ◌+◌, ◌-◌, ℕ, Bool, true, false, ◌&&◌, nat_le, List, [], ◌∷◌, length, take, drop}
use Rattle.std.proofs.Common.{get_or, Some, refl, sym, ap, ◌∙◌, subst, arith}
use Rattle.std.proofs.lemmas.Bool.{and_parts, cases_lt}
use Rattle.std.proofs.lemmas.Bool.Decides.{nat_tests}
use Rattle.std.proofs.lemmas.List.{get_or-drop, get_or-take, get_or_default, length-drop, length-take, length-take-le}
use Rattle.std.proofs.Math.Nat.{eq-or-lt_of_le}
use Rattle.std.proofs.Math.Seq.{drop-cons}
use Rattle.units.specs.Keys.{Bytes, same_key}
use Rattle.units.specs.Lists.{follow}
use Rattle.units.specs.Versions.{at_time}
use Rattle.units.specs.declared.writes.Install.{Install}
use Rattle.units.proofs.Latest.{value_of}
use Rattle.lives.specs.Spots.{AreIn, AreOf, IsAhead, IsBefore, IsOf, IsPast, no_install, no_spot}
use Rattle.lives.specs.declared.spots.Spot.{Spot}
use Rattle.lives.proofs.Newest.{fits, none_newest, one_newest}

-- of two spots the one that is not behind stands at no later place
no_later : (is : List Install) (k : Bytes) (spots : List Spot) (h : AreOf is k spots) (j l : ℕ) → j ≤ l → l < length spots
    → (get_or spots j no_spot).place ≤ (get_or spots l no_spot).place
no_later is k spots h j l le lt = elim (eq-or-lt_of_le le) [
  | inl same ↦ subst (λ n. (get_or spots j no_spot).place ≤ (get_or spots n no_spot).place) same (omega arith)
  | inr less ↦ omega (arith, (h.up j l less lt).place)
]

-- what a search behind a place, and one behind it before another place, leave
module _ (is : List Install) (k : Bytes) (spots : List Spot) (h : AreOf is k spots) (from end n m : ℕ) where
  abbrev pub rest : List Spot
  rest = take (length spots - n) (drop n spots)

  abbrev pub own : List Spot
  own = take m rest

  pub are_in : n ≤ length spots → (0 < n → IsBefore (from + 0) 4611686018427387903 (get_or spots (n - 1) no_spot))
      → (n < length spots → IsPast (from + 0) 4611686018427387903 (get_or spots n no_spot))
      → m ≤ length rest → (0 < m → IsBefore end 4611686018427387903 (get_or rest (m - 1) no_spot))
      → (m < length rest → IsPast end 4611686018427387903 (get_or rest m no_spot)) → AreIn is k from end own
  are_in n_in front first m_in last past = record {
    each = λ j lt. subst (IsOf is k) (sym (at_own j (omega (arith, lt, many)))) (h.each (n + j) (omega (arith, lt, many, all)));
    behind = λ j lt. subst (λ s. from ≤ s.place) (sym (at_own j (omega (arith, lt, many))))
        (omega (arith, low n (first (omega (arith, lt, many, all))), no_later is k spots h n (n + j) (omega arith) (omega (arith, lt, many, all))));
    before = λ j lt. subst (λ s. s.place < end) (sym (at_own j (omega (arith, lt, many))))
        (omega (
          arith,
          (subst (IsBefore end 4611686018427387903) (at_rest (m - 1) (omega (arith, lt, many, m_in))) (last (omega (arith, lt, many)))).0,
          no_later is k spots h (n + j) (n + (m - 1)) (omega (arith, lt, many)) (omega (arith, lt, many, m_in, all)),
        ));
    all = λ p behind before within own_key. let found = h.all p within own_key in by_place p behind before found.0 found.1 found.2;
    up = λ j l less lt. subst (λ s. IsAhead s (get_or own l no_spot)) (sym (at_own j (omega (arith, less, lt, many))))
        (subst (IsAhead (get_or spots (n + j) no_spot)) (sym (at_own l (omega (arith, lt, many))))
        (h.up (n + j) (n + l) (omega (arith, less)) (omega (arith, lt, many, all))));
  }
    where
      all : length rest ≡ length spots - n
      all = length-take-le (length spots - n) (drop n spots) (omega (arith, length-drop n spots))

      many : length own ≡ m
      many = length-take-le m rest m_in

      at_rest : (j : ℕ) → j < length rest → get_or rest j no_spot ≡ get_or spots (n + j) no_spot
      at_rest j lt = get_or-take (length spots - n) (drop n spots) j no_spot (omega (arith, lt, all)) ∙ get_or-drop n spots j no_spot

      at_own : (j : ℕ) → j < m → get_or own j no_spot ≡ get_or spots (n + j) no_spot
      at_own j lt = get_or-take m rest j no_spot lt ∙ at_rest j (omega (arith, lt, m_in))

      low : (j : ℕ) {place : ℕ} → IsPast place 4611686018427387903 (get_or spots j no_spot) → place ≤ (get_or spots j no_spot).place
      low j (inl le) = le
      low j (inr late) = absurd (omega (arith, late.0, late.1))

      by_place : (p : ℕ) → from ≤ p → p < end → (j : ℕ) → j < length spots → (get_or spots j no_spot).place ≡ p
          → (l : ℕ) × (l < length own) × ((get_or own l no_spot).place ≡ p)
      by_place p behind before j lt here = elim (cases_lt j n) [
        | inl less ↦ absurd (omega (
          arith,
          here,
          behind,
          less,
          n_in,
          (front (omega (arith, less))).0,
          no_later is k spots h j (n - 1) (omega (arith, less)) (omega (arith, less, n_in)),
        ))
        | inr more ↦ elim (cases_lt (j - n) m) [
          | inl inside ↦
              let e : n + (j - n) ≡ j = omega (arith, more) in
              (j - n, omega (arith, inside, many), ap (λ s. s.place) (at_own (j - n) inside ∙ ap (λ x. get_or spots x no_spot) e) ∙ here)
          | inr later ↦ absurd (omega (
            arith,
            here,
            before,
            more,
            later,
            lt,
            all,
            low (n + m) (subst (IsPast end 4611686018427387903) (at_rest m (omega (arith, more, later, lt, all)))
                (past (omega (arith, more, later, lt, all)))),
            no_later is k spots h (n + m) j (omega (arith, more, later)) lt,
          ))
        ]
      ]

-- of a key without versions there is none
pub none_in : (is : List Install) (k : Bytes) (from end : ℕ) → AreOf is k [] → AreIn is k from end []
none_in is k from end h = record {
  each = λ j lt. absurd (omega (arith, lt));
  behind = λ j lt. absurd (omega (arith, lt));
  before = λ j lt. absurd (omega (arith, lt));
  all = λ p low high lt own_key. h.all p lt own_key;
  up = λ j l less lt. absurd (omega (arith, lt));
}

-- where timestamps begin to ascend is read at any default
pub level_of : (own : List Spot) (a b : Spot) → 0 < length own → (get_or own 0 a).since ≡ (get_or own (length own - 1) b).since
    → (get_or own 0 no_spot).since ≡ (get_or own (length own - 1) no_spot).since
level_of own a b some same =
    ap (λ s. s.since) (get_or_default own 0 no_spot a some) ∙ same ∙ ap (λ s. s.since) (get_or_default own (length own - 1) b no_spot (omega (arith, some)))

-- what is seen of the key in a view
module _ (is : List Install) (k : Bytes) (from count at : ℕ) (own : List Spot) (h : AreIn is k from (from + count) own) where
  abbrev seen : List Install
  seen = take count (drop from is)

  abbrev at_place : ℕ → Install
  at_place p = get_or is p no_install

  -- a version that is seen and fits stands at a spot of its time
  module _ (q : ℕ) (lt : q < length seen) where
    inside : (q < count) × (from + q < length is)
    inside = (omega (arith, lt, length-take count (drop from is)), omega (arith, lt, length-take count (drop from is), length-drop from is))

    here : get_or seen q no_install ≡ at_place (from + q)
    here = get_or-take count (drop from is) q no_install inside.0 ∙ get_or-drop from is q no_install

    spot_of : fits k at (get_or seen q no_install) ≡ true
        → (j : ℕ) × (j < length own) × ((get_or own j no_spot).place ≡ from + q) × ((get_or own j no_spot).at ≡ (get_or seen q no_install).at)
        × ((get_or own j no_spot).at ≤ at)
    spot_of fit =
        let found = h.all (from + q) (omega arith) (omega (arith, inside.0)) inside.1 (ap (λ i. same_key i.key k) (sym here) ∙ fit_parts.1) in
        let time : (get_or own found.0 no_spot).at ≡ (get_or seen q no_install).at =
        sym (h.each found.0 found.1).at ∙ ap (λ p. (at_place p).at) found.2 ∙ ap (λ i. i.at) (sym here) in
        (found.0, found.1, found.2, time, omega (arith, time, upto (get_or seen q no_install).at fit_parts.0))
      where
        fit_parts : (nat_le (get_or seen q no_install).at at ≡ true) × (same_key (get_or seen q no_install).key k ≡ true)
        fit_parts = and_parts _ _ fit

        upto : (n : ℕ) → nat_le n at ≡ true → n ≤ at
        upto n e = grind (arith, nat_tests)

  -- none where all spots are of later times
  pub none_shown : ((j : ℕ) → j < length own → at < (get_or own j no_spot).at) → at_time [] k at ≡ at_time seen k at
  none_shown late =
      value_of [] k at ∙ ap (λ o. follow o (λ i. i.value)) (sym (none_newest k at seen (λ q lt. by q lt (fits k at (get_or seen q no_install)) refl)))
      ∙ sym (value_of seen k at)
    where
      by : (q : ℕ) → q < length seen → (b : Bool) → fits k at (get_or seen q no_install) ≡ b → b ≡ false
      by q lt false fit = refl
      by q lt true fit = let found = spot_of q lt fit in absurd (omega (arith, found.4, late found.0 found.1))

  -- one, where all others are of earlier times or later ones
  pub one_shown : (c : ℕ) → c < length own → (get_or own c no_spot).at ≤ at
      → ((j : ℕ) → j < length own → j ≢ c → (get_or own j no_spot).at ≤ at → (get_or own j no_spot).at < (get_or own c no_spot).at)
      → at_time (take 1 (drop (get_or own c no_spot).place is)) k at ≡ at_time seen k at
  one_shown c lt up others =
      ap (λ is. at_time is k at) alone ∙ value_of (shown ∷ []) k at
      ∙ ap (λ o. follow o (λ i. i.value)) (one_newest k at (shown ∷ []) 0 (omega arith) shown_fits (λ q less other. absurd (omega (arith, less, other)))
      ∙ ap Some (sym seen_here) ∙ sym (one_newest k at seen q inside_q (ap (fits k at) seen_here ∙ shown_fits) earlier))
      ∙ sym (value_of seen k at)
    where
      spot : Spot
      spot = get_or own c no_spot

      shown : Install
      shown = at_place spot.place

      of_spot : IsOf is k spot
      of_spot = h.each c lt

      alone : take 1 (drop spot.place is) ≡ shown ∷ []
      alone = ap (take 1) (drop-cons is spot.place no_install of_spot.within)

      shown_fits : fits k at shown ≡ true
      shown_fits = λ i. in_time (omega (arith, of_spot.at, up)) i && of_spot.key i
        where
          in_time : shown.at ≤ at → nat_le shown.at at ≡ true
          in_time le = grind (arith, nat_tests)

      q : ℕ
      q = spot.place - from

      inside_q : q < length seen
      inside_q = omega (arith, h.behind c lt, h.before c lt, of_spot.within, length-take count (drop from is), length-drop from is)

      seen_here : get_or seen q no_install ≡ shown
      seen_here = here q inside_q ∙ ap at_place (omega (arith, h.behind c lt))

      earlier : (r : ℕ) → r < length seen → r ≢ q → fits k at (get_or seen r no_install) ≡ true → (get_or seen r no_install).at < (get_or seen q no_install).at
      earlier r lt_r other fit =
          let found = spot_of r lt_r fit in
          let less : (get_or own found.0 no_spot).at < spot.at =
          others found.0 found.1 (λ e. other (omega (arith, ap (λ n. (get_or own n no_spot).place) e, found.2))) found.4 in
          omega (arith, less, found.3, of_spot.at, ap (λ i. i.at) seen_here)

  -- where timestamps ascend over all of them
  module _ (level : (get_or own 0 no_spot).since ≡ (get_or own (length own - 1) no_spot).since) where
    no_earlier : (j l : ℕ) → j ≤ l → l < length own → (get_or own j no_spot).since ≤ (get_or own l no_spot).since
    no_earlier j l le lt = elim (eq-or-lt_of_le le) [
      | inl same ↦ subst (λ n. (get_or own j no_spot).since ≤ (get_or own n no_spot).since) same (omega arith)
      | inr less ↦ omega (arith, (h.up j l less lt).since)
    ]

    ascend : (j l : ℕ) → j < l → l < length own → (get_or own j no_spot).at < (get_or own l no_spot).at
    ascend j l less lt = (h.up j l less lt).at
        (omega (
          arith,
          level,
          no_earlier 0 j (omega arith) (omega (arith, less, lt)),
          no_earlier j l (omega (arith, less)) lt,
          no_earlier l (length own - 1) (omega (arith, lt)) (omega (arith, lt)),
        ))

    ascend_to : (j l : ℕ) → j ≤ l → l < length own → (get_or own j no_spot).at ≤ (get_or own l no_spot).at
    ascend_to j l le lt = elim (eq-or-lt_of_le le) [
      | inl same ↦ subst (λ n. (get_or own j no_spot).at ≤ (get_or own n no_spot).at) same (omega arith)
      | inr less ↦ omega (arith, ascend j l less lt)
    ]

    -- what a search up to the time leaves is later
    later : (f until : ℕ) → until ≡ at → (f < length own → IsPast (from + count) until (get_or own f no_spot)) → (j : ℕ) → f ≤ j → j < length own
        → at < (get_or own j no_spot).at
    later f until same past j le lt = by (past (omega (arith, le, lt)))
      where
        by : IsPast (from + count) until (get_or own f no_spot) → at < (get_or own j no_spot).at
        by (inl out) = absurd (omega (arith, out, h.before f (omega (arith, le, lt))))
        by (inr late) = omega (arith, late.0, same, ascend_to f j le lt)

    pub found_none : (until : ℕ) → until ≡ at → (0 < length own → IsPast (from + count) until (get_or own 0 no_spot)) → at_time [] k at ≡ at_time seen k at
    found_none until same past = none_shown (λ j lt. later 0 until same past j (omega arith) lt)

    pub found_one : (f until : ℕ) → until ≡ at → 0 < f → f ≤ length own → IsBefore (from + count) until (get_or own (f - 1) no_spot)
        → (f < length own → IsPast (from + count) until (get_or own f no_spot))
        → at_time (take 1 (drop (get_or own (f - 1) no_spot).place is)) k at ≡ at_time seen k at
    found_one f until same some f_in before past = one_shown (f - 1) (omega (arith, some, f_in)) (omega (arith, before.1, same)) others
      where
        others : (j : ℕ) → j < length own → j ≢ f - 1 → (get_or own j no_spot).at ≤ at → (get_or own j no_spot).at < (get_or own (f - 1) no_spot).at
        others j lt other up = elim (cases_lt j (f - 1)) [
          | inl less ↦ ascend j (f - 1) less (omega (arith, some, f_in))
          | inr more ↦ absurd (omega (arith, up, later f until same past j (omega (arith, more, other, some)) lt))
        ]
