-- A version is brought to where it comes in order, and the one that stands there goes where that stood.
use Rattle.std.proofs.Common.{◌≡◌, ◌≢◌, ℕ, zero, suc, ◌+◌, ◌<◌, ◌≤◌, Bool, true, false, nat_eq, nat_lt, List, [], ◌∷◌, length, get_or, set}
use Rattle.std.proofs.Common.{refl, sym, ap, ◌∙◌, arith}
use Rattle.std.specs.List.{SwappedAt}
use Rattle.std.proofs.lemmas.Bool.{false≢true}
use Rattle.std.proofs.lemmas.Bool.Decides.{nat_tests}
use Rattle.std.proofs.lemmas.Grind.{get_or-set_at}
use Rattle.std.proofs.lemmas.List.{length-set, get_or-map, get_or-set_other, same_lists}
use Rattle.units.specs.declared.writes.Install.{Install}
use Rattle.units.proofs.KeyLaws.{same_key-refl, key_before-irreflexive}
use Rattle.versions.specs.Arranged.{arranged, no_install, AreWithin}
use Rattle.versions.specs.Gathered.{AreSettled, IsRedirected}
use Rattle.versions.specs.Halves.{AllUpTo, AllAfter}
use Rattle.versions.specs.Ordered.{is_not_after, version_before, AscendsByVersion}
use Rattle.versions.proofs.Arranged.{place_within, length_arranged}
use Rattle.versions.proofs.Halves.{each_at}
use Rattle.versions.proofs.Heads.{not_back, apart}
use Rattle.versions.proofs.Shorter.{within_each}

-- of two in order the first is before the second
before_at : (t : List Install) (i j : ℕ) (d : Install) → AscendsByVersion t → i < j → j < length t → version_before (get_or t i d) (get_or t j d) ≡ true
before_at [] i j d up lt within = absurd (omega (arith, within))
before_at (x ∷ t) zero zero d up lt within = absurd (omega (arith, lt))
before_at (x ∷ t) zero (suc j) d up lt within = each_at (λ next. version_before x next ≡ true) t j d up.0 (omega (arith, within))
before_at (x ∷ t) (suc i) zero d up lt within = absurd (omega (arith, lt))
before_at (x ∷ t) (suc i) (suc j) d up lt within = before_at t i j d up.1 (omega (arith, lt)) (omega (arith, within))

not_before_itself : (x : Install) → version_before x x ≡ false
not_before_itself x = grind (arith, nat_tests, key_before-irreflexive x.key)

not_after_itself : (x : Install) → is_not_after x.key x.at x ≡ true
not_after_itself x = grind (arith, nat_tests, same_key-refl x.key)

behind_is_after : (x y : Install) → version_before x y ≡ true → is_not_after x.key x.at y ≡ false
behind_is_after x y before = grind (arith, nat_tests, not_back x.key y.key, apart x.key y.key, apart y.key x.key)

module _ (installs : List Install) (places : List ℕ) (up : AscendsByVersion (arranged installs places)) where
  -- what is read in order is what stands at the place
  read : (k : ℕ) → k < length places → get_or (arranged installs places) k no_install ≡ get_or installs (get_or places k 0) no_install
  read k lt = get_or-map (λ p. get_or installs p no_install) places k 0 no_install lt

  long : length (arranged installs places) ≡ length places
  long = length_arranged installs places

  apart_from : (i j : ℕ) → i < j → j < length places → get_or places i 0 ≡ get_or places j 0 → ⊥
  apart_from i j lt within same =
      let one : get_or (arranged installs places) i no_install ≡ get_or (arranged installs places) j no_install =
      read i (omega (arith, lt, within)) ∙ ap (λ (p : ℕ). get_or installs p no_install) same ∙ sym (read j within) in
      let before = before_at (arranged installs places) i j no_install up lt (omega (arith, within, long)) in
      false≢true (sym (not_before_itself (get_or (arranged installs places) j no_install))
      ∙ ap (λ (x : Install). version_before x (get_or (arranged installs places) j no_install)) (sym one) ∙ before)

  -- a version stands at one place
  pub one_place : (i j : ℕ) → i < length places → j < length places → get_or places i 0 ≡ get_or places j 0 → i ≡ j
  one_place i j lt within same = by_tests (nat_lt i j) (nat_lt j i) refl refl
    where
      by_tests : (a b : Bool) → nat_lt i j ≡ a → nat_lt j i ≡ b → i ≡ j
      by_tests true b k m = absurd (apart_from i j (grind (arith, nat_tests)) within same)
      by_tests false true k m = absurd (apart_from j i (grind (arith, nat_tests)) lt (sym same))
      by_tests false false k m = grind (arith, nat_tests)

  -- and where it has one, it is the last that is not after its key and timestamp
  pub found_there : (y : Install) (at count k : ℕ) → y ≡ get_or installs at no_install → count ≤ length places
      → AllUpTo y.key y.at (arranged installs places) count → AllAfter y.key y.at (arranged installs places) count
      → k < length places → get_or places k 0 ≡ at → count ≡ k + 1
  found_there y at count k is bound before after lt there = by_tests (nat_lt k count) (nat_lt (k + 1) count) refl refl
    where
      here : get_or (arranged installs places) k no_install ≡ y
      here = read k lt ∙ ap (λ (p : ℕ). get_or installs p no_install) there ∙ sym is

      by_tests : (a b : Bool) → nat_lt k count ≡ a → nat_lt (k + 1) count ≡ b → count ≡ k + 1
      by_tests false b e f =
          let le : count ≤ k = grind (arith, nat_tests) in
          absurd (false≢true (sym (after k no_install le (omega (arith, lt, long))) ∙ ap (is_not_after y.key y.at) here ∙ not_after_itself y))
      by_tests true true e f =
          let more : k + 1 < count = grind (arith, nat_tests) in
          let next = before_at (arranged installs places) k (k + 1) no_install up (omega arith) (omega (arith, more, bound, long)) in
          let behind : version_before y (get_or (arranged installs places) (k + 1) no_install) ≡ true =
          ap (λ (x : Install). version_before x (get_or (arranged installs places) (k + 1) no_install)) (sym here) ∙ next in
          absurd (false≢true (sym (behind_is_after y (get_or (arranged installs places) (k + 1) no_install) behind) ∙ before (k + 1) no_install more))
      by_tests true false e f = grind (arith, nat_tests)

  -- the place of that version is written over
  pub redirected : (q at from : ℕ) → q < length places → get_or places q 0 ≡ at → IsRedirected places (set places q from) at from
  redirected q at from lt there = record {
    len = length-set places q from;
    moved = λ k within is. get_or-set_at places q k from 0 (one_place k q within lt (is ∙ sym there)) lt;
    others = λ k within other. get_or-set_other places q k from 0 (λ same. other (ap (λ (i : ℕ). get_or places i 0) same ∙ there));
  }

  -- it has none
  pub redirected_nowhere : (at from : ℕ) → ((k : ℕ) → k < length places → get_or places k 0 ≡ at → ⊥) → IsRedirected places places at from
  redirected_nowhere at from none = record {
    len = refl;
    moved = λ k within is. absurd (none k within is);
    others = λ k within other. refl;
  }

  -- behind that, the version of a place is swapped to where it comes in order
  module _ (new : List Install) (after : List ℕ) (at from : ℕ) (lt : at < length places) (from_is : from ≡ get_or places at 0)
      (r : IsRedirected places after at from) where
    at_there : get_or (set after at at) at 0 ≡ at
    at_there = get_or-set_at after at at at 0 refl (omega (arith, lt, r.len))

    elsewhere : (k : ℕ) → k ≢ at → get_or (set after at at) k 0 ≡ get_or after k 0
    elsewhere k other = get_or-set_other after at k at 0 other

    pub brought : SwappedAt installs new at from → arranged new (set after at at) ≡ arranged installs places
    brought swapped =
        same_lists (arranged new (set after at at)) (arranged installs places)
        (length_arranged new (set after at at) ∙ length-set after at at ∙ r.len ∙ sym long)
        (λ k d less. each k d (omega (arith, less, length_arranged new (set after at at), length-set after at at, r.len)))
      where
        core : (k : ℕ) → k < length places → get_or new (get_or (set after at at) k 0) no_install ≡ get_or installs (get_or places k 0) no_install
        core k within = by_tests (nat_eq k at) (nat_eq (get_or places k 0) at) refl refl
          where
            by_tests : (a b : Bool) → nat_eq k at ≡ a → nat_eq (get_or places k 0) at ≡ b
                → get_or new (get_or (set after at at) k 0) no_install ≡ get_or installs (get_or places k 0) no_install
            by_tests true b e f =
                let here : k ≡ at = grind (arith, nat_tests) in
                ap (λ (i : ℕ). get_or new (get_or (set after at at) i 0) no_install) here
                ∙ ap (λ (p : ℕ). get_or new p no_install) at_there ∙ swapped.0 no_install
                ∙ ap (λ (p : ℕ). get_or installs p no_install) from_is ∙ ap (λ (i : ℕ). get_or installs (get_or places i 0) no_install) (sym here)
            by_tests false true e f =
                let other : k ≢ at = λ (same : k ≡ at). absurd (grind (arith, nat_tests)) in
                let there : get_or places k 0 ≡ at = grind (arith, nat_tests) in
                ap (λ (p : ℕ). get_or new p no_install) (elsewhere k other ∙ r.moved k within there) ∙ swapped.1 no_install
                ∙ ap (λ (p : ℕ). get_or installs p no_install) (sym there)
            by_tests false false e f =
                let other : k ≢ at = λ (same : k ≡ at). absurd (grind (arith, nat_tests)) in
                let not_at : get_or places k 0 ≢ at = λ (same : get_or places k 0 ≡ at). absurd (grind (arith, nat_tests)) in
                ap (λ (p : ℕ). get_or new p no_install) (elsewhere k other ∙ r.others k within not_at)
                ∙ swapped.2 (get_or places k 0) no_install not_at (λ same. other (one_place k at within lt (same ∙ from_is)))

        each : (k : ℕ) (d : Install) → k < length places → get_or (arranged new (set after at at)) k d ≡ get_or (arranged installs places) k d
        each k d within =
            get_or-map (λ p. get_or new p no_install) (set after at at) k 0 d (omega (arith, within, length-set after at at, r.len))
            ∙ core k within ∙ sym (get_or-map (λ p. get_or installs p no_install) places k 0 d within)

    pub one_settled : AreSettled places at → AreSettled (set after at at) (at + 1)
    one_settled settled k less = by_test (nat_eq k at) refl
      where
        by_test : (b : Bool) → nat_eq k at ≡ b → get_or (set after at at) k 0 ≡ k
        by_test true e =
            let here : k ≡ at = grind (arith, nat_tests) in
            ap (λ (i : ℕ). get_or (set after at at) i 0) here ∙ at_there ∙ sym here
        by_test false e =
            let below : k < at = grind (arith, nat_tests) in
            let is = settled k below in
            elsewhere k (λ (same : k ≡ at). absurd (omega (arith, below, same)))
            ∙ r.others k (omega (arith, below, lt)) (λ same. absurd (omega (arith, below, same, is))) ∙ is

    pub still_within : (len : ℕ) → at < len → AreWithin places len → AreWithin (set after at at) len
    still_within len fits within = within_each (set after at at) len (λ k less. each k (omega (arith, less, length-set after at at, r.len)))
      where
        each : (k : ℕ) → k < length places → get_or (set after at at) k 0 < len
        each k less = by_tests (nat_eq k at) (nat_eq (get_or places k 0) at) refl refl
          where
            by_tests : (a b : Bool) → nat_eq k at ≡ a → nat_eq (get_or places k 0) at ≡ b → get_or (set after at at) k 0 < len
            by_tests true b e f =
                let here : k ≡ at = grind (arith, nat_tests) in
                omega (arith, ap (λ (i : ℕ). get_or (set after at at) i 0) here, at_there, fits)
            by_tests false true e f =
                let other : k ≢ at = λ (same : k ≡ at). absurd (grind (arith, nat_tests)) in
                let there : get_or places k 0 ≡ at = grind (arith, nat_tests) in
                omega (arith, elsewhere k other, r.moved k less there, from_is, place_within places len at 0 within lt)
            by_tests false false e f =
                let other : k ≢ at = λ (same : k ≡ at). absurd (grind (arith, nat_tests)) in
                let not_at : get_or places k 0 ≢ at = λ (same : get_or places k 0 ≡ at). absurd (grind (arith, nat_tests)) in
                omega (arith, elsewhere k other, r.others k less not_at, place_within places len k 0 within less)

-- it stands there already
pub settled_here : (places : List ℕ) (at : ℕ) → at ≡ get_or places at 0 → AreSettled places at → AreSettled places (at + 1)
settled_here places at here settled k less = by_test (nat_eq k at) refl
  where
    by_test : (b : Bool) → nat_eq k at ≡ b → get_or places k 0 ≡ k
    by_test true e =
        let is : k ≡ at = grind (arith, nat_tests) in
        ap (λ (i : ℕ). get_or places i 0) is ∙ sym here ∙ sym is
    by_test false e =
        let below : k < at = grind (arith, nat_tests) in
        settled k below
