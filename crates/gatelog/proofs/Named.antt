-- The area that the slots name, in files whose slots say the same, and in one whose next slot is open.
use Rattle.std.proofs.Common.{◌≡◌, ◌≢◌, ◌⊎◌, inl, inr, ℕ, zero, suc, ◌+◌, ◌*◌, ◌<◌, ◌≤◌, ◌||◌, Bool, true, false, cond, leb, eqb, List, get_or, drop}
use Rattle.std.proofs.Common.{Result, Ok}
use Rattle.std.proofs.Common.{Err, refl, sym, ap, ◌∙◌, arith}
use Rattle.std.proofs.lemmas.Bool.{le-leb, leb-true, eqb-true, eq-eqb, ne_eqb, true≢false}
use Rattle.std.proofs.lemmas.Bool.Decides.{nat_tests}
use Rattle.units.specs.declared.fault.Fault.{Fault}
use Rattle.units.specs.declared.fault.Fault.TheVariants.{Damaged}
use Rattle.frames.specs.Gate.{open_gate}
use Rattle.gatelog.specs.Slots.{offset_in, named}

-- ---- one slot

-- a slot is open and names an area, or it is closed
pub data AtSlot (left at area : ℕ) (shut : Bool) (size : ℕ) (xs : List ℕ) (a : ℕ) : Type 0 where
  is_open : get_or xs 0 0 ≡ open_gate → shut ≡ false → area < offset_in xs → offset_in xs < size
      → named left (at + 9) (offset_in xs) false size (drop 9 xs) ≡ Ok a → AtSlot left at area shut size xs a
  is_closed : get_or xs 0 0 ≢ open_gate → named left (at + 9) area true size (drop 9 xs) ≡ Ok a → AtSlot left at area shut size xs a

never : (f : Fault) (a : ℕ) → ◌≡◌ {A = Result ℕ Fault} (Err f) (Ok a) → ⊥
never f a e = cc

none_of : (x y z : Bool) → (x || y || z) ≡ false → (x ≡ false) × (y ≡ false) × (z ≡ false)
none_of true y z e = cc
none_of false true z e = cc
none_of false false z e = (refl, refl, e)

leb-false : (a b : ℕ) → leb a b ≡ false → b < a
leb-false a b h = grind (arith, nat_tests)

pub at_slot : (left at area : ℕ) (shut : Bool) (size : ℕ) (xs : List ℕ) (a : ℕ) → named (suc left) at area shut size xs ≡ Ok a
    → (at + 9 ≤ size) × AtSlot left at area shut size xs a
unfolding named
at_slot left at area shut size xs a h =
    by_tests (leb (at + 9) size) (eqb (get_or xs 0 0) open_gate) (shut || leb (offset_in xs) area || leb size (offset_in xs)) refl refl refl h
  where
    by_tests : (b c d : Bool) → leb (at + 9) size ≡ b → eqb (get_or xs 0 0) open_gate ≡ c → (shut || leb (offset_in xs) area || leb size (offset_in xs)) ≡ d
        → cond b (cond c (cond d (Err (Damaged at)) (named left (at + 9) (offset_in xs) false size (drop 9 xs)))
        (named left (at + 9) area true size (drop 9 xs))) (Err (Damaged at)) ≡ Ok a
        → (at + 9 ≤ size) × AtSlot left at area shut size xs a
    by_tests false c d k l m h = absurd (never (Damaged at) a h)
    by_tests true true true k l m h = absurd (never (Damaged at) a h)
    by_tests true true false k l m h =
        let parts = none_of shut (leb (offset_in xs) area) (leb size (offset_in xs)) m in
        (leb-true _ _ k, is_open (eqb-true _ _ l) parts.0 (leb-false _ _ parts.1) (leb-false _ _ parts.2) h)
    by_tests true false d k l m h =
        (leb-true _ _ k, is_closed (λ same. true≢false (sym (eq-eqb (get_or xs 0 0) open_gate same) ∙ l)) h)

lt-leb : (a b : ℕ) → a < b → leb b a ≡ false
lt-leb a b h = by_test (leb b a) refl
  where
    by_test : (c : Bool) → leb b a ≡ c → c ≡ false
    by_test true k = absurd (grind (arith, nat_tests))
    by_test false k = refl

pub open_named : (left at area size : ℕ) (ys : List ℕ) → at + 9 ≤ size → get_or ys 0 0 ≡ open_gate → area < offset_in ys → offset_in ys < size
    → named (suc left) at area false size ys ≡ named left (at + 9) (offset_in ys) false size (drop 9 ys)
unfolding named
open_named left at area size ys long opened above within =
    let a : leb (at + 9) size ≡ true = le-leb _ _ long in
    let b : eqb (get_or ys 0 0) open_gate ≡ true = eq-eqb _ _ opened in
    let c : leb (offset_in ys) area ≡ false = lt-leb _ _ above in
    let d : leb size (offset_in ys) ≡ false = lt-leb _ _ within in
    rw (a, b, c, d) refl

pub closed_named : (left at area : ℕ) (shut : Bool) (size : ℕ) (ys : List ℕ) → at + 9 ≤ size → get_or ys 0 0 ≢ open_gate
    → named (suc left) at area shut size ys ≡ named left (at + 9) area true size (drop 9 ys)
unfolding named
closed_named left at area shut size ys long closed =
    let a : leb (at + 9) size ≡ true = le-leb _ _ long in
    let b : eqb (get_or ys 0 0) open_gate ≡ false = ne_eqb _ _ closed in
    rw (a, b) refl

pub none_left : (at area : ℕ) (shut : Bool) (size : ℕ) (xs : List ℕ) → named zero at area shut size xs ≡ Ok area
unfolding named
none_left at area shut size xs = refl

ok_is : (a b : ℕ) → ◌≡◌ {A = Result ℕ Fault} (Ok a) (Ok b) → a ≡ b
ok_is a b e = cc

-- ---- slots that say the same

abbrev pub IsSameSlot : List ℕ → List ℕ → Type 0
IsSameSlot xs ys =
    (get_or xs 0 0 ≡ open_gate → (get_or ys 0 0 ≡ open_gate) × (offset_in ys ≡ offset_in xs)) × (get_or xs 0 0 ≢ open_gate → get_or ys 0 0 ≢ open_gate)

abbrev pub SameSlots : ℕ → List ℕ → List ℕ → Type 0
SameSlots zero xs ys = Unit {0}
SameSlots (suc left) xs ys = IsSameSlot xs ys × SameSlots left (drop 9 xs) (drop 9 ys)

-- what is named is no earlier than what was named before
pub named-above : (left at area : ℕ) (shut : Bool) (size : ℕ) (xs : List ℕ) (a : ℕ) → named left at area shut size xs ≡ Ok a → area ≤ a
named-above zero at area shut size xs a h = omega (arith, ok_is area a (sym (none_left at area shut size xs) ∙ h))
named-above (suc left) at area shut size xs a h =
    elim (at_slot left at area shut size xs a h).1 [
      | is_open opened not_shut above within rest ↦ omega (arith, above, named-above left (at + 9) (offset_in xs) false size (drop 9 xs) a rest)
      | is_closed closed rest ↦ named-above left (at + 9) area true size (drop 9 xs) a rest
    ]

pub same-named : (left at area : ℕ) (shut : Bool) (size more : ℕ) (xs ys : List ℕ) (a : ℕ) → named left at area shut size xs ≡ Ok a → SameSlots left xs ys
    → at + 9 * left ≤ more → a < more → named left at area shut more ys ≡ Ok a
same-named zero at area shut size more xs ys a h same long lt = none_left at area shut more ys ∙ sym (none_left at area shut size xs) ∙ h
same-named (suc left) at area shut size more xs ys a h same long lt =
    let p = at_slot left at area shut size xs a h in
    elim p.1 [
      | is_open opened not_shut above within rest ↦
          let q = same.0.0 opened in
          ap (λ b. named (suc left) at area b more ys) not_shut
          ∙ open_named left at area more ys (omega (arith, long)) q.0 (omega (arith, above, q.1))
          (omega (arith, q.1, lt, named-above left (at + 9) (offset_in xs) false size (drop 9 xs) a rest))
          ∙ ap (λ n. named left (at + 9) n false more (drop 9 ys)) q.1
          ∙ same-named left (at + 9) (offset_in xs) false size more (drop 9 xs) (drop 9 ys) a rest same.1 (omega (arith, long)) lt
      | is_closed closed rest ↦
          closed_named left at area shut more ys (omega (arith, long)) (same.0.1 closed)
          ∙ same-named left (at + 9) area true size more (drop 9 xs) (drop 9 ys) a rest same.1 (omega (arith, long)) lt
    ]

-- behind a closed slot there are closed ones alone, whatever was named
pub closed-all : (left at area other size more : ℕ) (shut : Bool) (xs ys : List ℕ) (a : ℕ) → named left at area true size xs ≡ Ok a → SameSlots left xs ys
    → at + 9 * left ≤ more → (a ≡ area) × (named left at other shut more ys ≡ Ok other)
closed-all zero at area other size more shut xs ys a h same long = (
  sym (ok_is area a (sym (none_left at area true size xs) ∙ h)),
  none_left at other shut more ys,
)
closed-all (suc left) at area other size more shut xs ys a h same long =
    let p = at_slot left at area true size xs a h in
    elim p.1 [
      | is_open opened not_shut above within rest ↦ absurd (true≢false not_shut)
      | is_closed closed rest ↦
          let q = closed-all left (at + 9) area other size more true (drop 9 xs) (drop 9 ys) a rest same.1 (omega (arith, long)) in
          (q.0, closed_named left at other shut more ys (omega (arith, long)) (same.0.1 closed) ∙ q.1)
    ]

-- ---- the next slot is opened

-- the first slots say the same and are open, and the next one, which was closed, is open and names an offset
abbrev pub Turned : ℕ → ℕ → List ℕ → List ℕ → ℕ → Type 0
Turned j zero xs ys o = ⊥
Turned zero (suc left) xs ys o =
    (get_or xs 0 0 ≢ open_gate) × (get_or ys 0 0 ≡ open_gate) × (offset_in ys ≡ o) × SameSlots left (drop 9 xs) (drop 9 ys)
Turned (suc j) (suc left) xs ys o = (get_or xs 0 0 ≡ open_gate) × IsSameSlot xs ys × Turned j left (drop 9 xs) (drop 9 ys) o

pub turned-named : (j left at area size more o : ℕ) (xs ys : List ℕ) (a : ℕ) → named left at area false size xs ≡ Ok a → Turned j left xs ys o
    → at + 9 * left ≤ more → size ≤ more → a < o → o < more → named left at area false more ys ≡ Ok o
turned-named zero zero at area size more o xs ys a h t long le above within = absurd t
turned-named (suc j) zero at area size more o xs ys a h t long le above within = absurd t
turned-named zero (suc left) at area size more o xs ys a h t long le above within =
    let p = at_slot left at area false size xs a h in
    elim p.1 [
      | is_open opened not_shut over inside rest ↦ absurd (t.0 opened)
      | is_closed closed rest ↦
          let q = closed-all left (at + 9) area o size more false (drop 9 xs) (drop 9 ys) a rest t.3 (omega (arith, long)) in
          open_named left at area more ys (omega (arith, long)) t.1 (omega (arith, above, q.0, t.2)) (omega (arith, within, t.2))
          ∙ ap (λ n. named left (at + 9) n false more (drop 9 ys)) t.2
          ∙ q.1
    ]
turned-named (suc j) (suc left) at area size more o xs ys a h t long le above within =
    let p = at_slot left at area false size xs a h in
    elim p.1 [
      | is_open opened not_shut over inside rest ↦
          let q = t.1.0 opened in
          open_named left at area more ys (omega (arith, long)) q.0 (omega (arith, over, q.1)) (omega (arith, inside, q.1, le))
          ∙ ap (λ n. named left (at + 9) n false more (drop 9 ys)) q.1
          ∙ turned-named j left (at + 9) (offset_in xs) size more o (drop 9 xs) (drop 9 ys) a rest t.2 (omega (arith, long)) le above within
      | is_closed closed rest ↦ absurd (closed t.0)
    ]

-- ---- damage

-- a slot that the file does not hold whole
pub short_named : (left at area : ℕ) (shut : Bool) (size : ℕ) (ys : List ℕ) → size < at + 9 → named (suc left) at area shut size ys ≡ Err (Damaged at)
unfolding named
short_named left at area shut size ys short =
    let a : leb (at + 9) size ≡ false = lt-leb _ _ short in
    rw a refl

-- an open slot that names no area behind the former one's
abbrev pub IsWrong : ℕ → Bool → ℕ → ℕ → Type 0
IsWrong area shut size offset = (shut ≡ true) ⊎ ((offset ≤ area) ⊎ (size ≤ offset))

wrong : (area size offset : ℕ) (shut : Bool) → IsWrong area shut size offset → (shut || leb offset area || leb size offset) ≡ true
wrong area size offset shut (inl closed) = ap (λ b. b || leb offset area || leb size offset) closed
wrong area size offset true (inr rest) = refl
wrong area size offset false (inr (inl low)) = ap (λ b. b || leb size offset) (le-leb _ _ low)
wrong area size offset false (inr (inr high)) = or_true (leb offset area) (leb size offset) (le-leb _ _ high)
  where
    or_true : (a b : Bool) → b ≡ true → (a || b) ≡ true
    or_true true b e = refl
    or_true false b e = e

pub wrong_named : (left at area : ℕ) (shut : Bool) (size : ℕ) (ys : List ℕ) → at + 9 ≤ size → get_or ys 0 0 ≡ open_gate
    → IsWrong area shut size (offset_in ys) → named (suc left) at area shut size ys ≡ Err (Damaged at)
unfolding named
wrong_named left at area shut size ys long opened is =
    let a : leb (at + 9) size ≡ true = le-leb _ _ long in
    let b : eqb (get_or ys 0 0) open_gate ≡ true = eq-eqb _ _ opened in
    let c : (shut || leb (offset_in ys) area || leb size (offset_in ys)) ≡ true = wrong area size (offset_in ys) shut is in
    rw (a, b, c) refl
