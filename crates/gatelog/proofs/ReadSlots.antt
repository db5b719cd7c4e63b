-- The slots, read one behind the other, as a loop does.
use Rattle.std.proofs.Common.{◌≡◌, ◌≢◌, ◌⊎◌, inl, inr, ℕ, suc, ◌+◌, ◌-◌, ◌*◌, ◌<◌, ◌≤◌, Bool, true, false, List, ◌++◌, length, get_or, take, drop, Result}
use Rattle.std.proofs.Common.{Ok, Err, Option, Some, None, not, sym, ap, subst, ◌∙◌, arith}
use Rattle.std.specs.Prelude.{IfSome, IfNone, is_some}
use Rattle.std.specs.Option.{unwrap_or}
use Rattle.std.proofs.lemmas.Bool.{false≢true}
use Rattle.std.specs.Int.{w64, from_be_bytes}
use Rattle.std.proofs.lemmas.List.{length-drop, take-take, drop-take, take-append-le, drop-append-le, get_or-take, get_or_append_left}
use Rattle.units.specs.declared.fault.Fault.TheVariants.{Damaged}
use Rattle.units.specs.declared.fault.Fault.{Fault}
use Rattle.frames.specs.Ahead.{Ahead, IsAhead, read_to}
use Rattle.frames.specs.Gate.{open_gate}
use Rattle.gatelog.specs.Gates.{first_gate}
use Rattle.gatelog.specs.Slots.{slot_count, offset_in, named, area_of}
use Rattle.frames.proofs.Ahead.{ahead_there}
use Rattle.gatelog.proofs.Named.{open_named, closed_named, short_named, wrong_named, IsWrong, none_left}

-- a slot at the front of bytes, all that is behind it, and bytes that were not read
module _ (rest beyond slot behind : List ℕ) (long : 9 ≤ length rest) (front : slot ≡ take 9 rest) (back : behind ≡ drop 9 rest) where
  gate-there : get_or (rest ++ beyond) 0 0 ≡ get_or slot 0 0
  gate-there =
      get_or_append_left rest beyond 0 0 (omega (arith, long)) ∙ sym (get_or-take 9 rest 0 0 (omega arith))
      ∙ ap (λ (l : List ℕ). get_or l 0 0) (sym front)

  offset-there : offset_in (rest ++ beyond) ≡ offset_in slot
  offset-there =
      ap (from_be_bytes w64)
      (ap (take 8) (drop-append-le 1 rest beyond (omega (arith, long)))
      ∙ take-append-le 8 (drop 1 rest) beyond (omega (arith, long, length-drop 1 rest))
      ∙ sym (take-take 8 8 (drop 1 rest) (omega arith))
      ∙ ap (take 8) (sym (drop-take 1 8 rest))
      ∙ ap (λ (l : List ℕ). take 8 (drop 1 l)) (sym front))

  behind-there : drop 9 (rest ++ beyond) ≡ behind ++ beyond
  behind-there = drop-append-le 9 rest beyond long ∙ ap (λ (l : List ℕ). l ++ beyond) (sym back)

  module _ (left area len : ℕ) (shut : Bool) (some : 0 < left) (few : left ≤ 1024) (inside : (9224 - 9 * left) + 9 ≤ len) where
    one-less : left ≡ suc (left - 1)
    one-less = omega (arith, some)

    further : (9224 - 9 * left) + 9 ≡ 9224 - 9 * (left - 1)
    further = omega (arith, some, few)

    pub past-open : (offset : ℕ) → get_or slot 0 0 ≡ open_gate → shut ≡ false → area < offset → offset < len → offset_in slot ≡ offset
        → named (left - 1) (9224 - 9 * (left - 1)) offset shut len (behind ++ beyond) ≡ named left (9224 - 9 * left) area shut len (rest ++ beyond)
    past-open offset opened not_shut above within is =
        let at : ℕ = 9224 - 9 * left in
        sym (
        ap (λ (n : ℕ). named n at area shut len (rest ++ beyond)) one-less
        ∙ ap (λ (b : Bool). named (suc (left - 1)) at area b len (rest ++ beyond)) not_shut
        ∙ open_named (left - 1) at area len (rest ++ beyond) inside (gate-there ∙ opened) (omega (arith, above, is, offset-there))
        (omega (arith, within, is, offset-there))
        ∙ ap (λ (n : ℕ). named (left - 1) (at + 9) n false len (drop 9 (rest ++ beyond))) (offset-there ∙ is)
        ∙ ap (λ (n : ℕ). named (left - 1) n offset false len (drop 9 (rest ++ beyond))) further
        ∙ ap (λ (l : List ℕ). named (left - 1) (9224 - 9 * (left - 1)) offset false len l) behind-there
        ∙ ap (λ (b : Bool). named (left - 1) (9224 - 9 * (left - 1)) offset b len (behind ++ beyond)) (sym not_shut)
        )

    pub past-closed : get_or slot 0 0 ≢ open_gate
        → named (left - 1) (9224 - 9 * (left - 1)) area true len (behind ++ beyond) ≡ named left (9224 - 9 * left) area shut len (rest ++ beyond)
    past-closed closed =
        let at : ℕ = 9224 - 9 * left in
        sym (
        ap (λ (n : ℕ). named n at area shut len (rest ++ beyond)) one-less
        ∙ closed_named (left - 1) at area shut len (rest ++ beyond) inside (λ e. closed (sym gate-there ∙ e))
        ∙ ap (λ (n : ℕ). named (left - 1) n area true len (drop 9 (rest ++ beyond))) further
        ∙ ap (λ (l : List ℕ). named (left - 1) (9224 - 9 * (left - 1)) area true len l) behind-there
        )

    pub at-wrong : get_or slot 0 0 ≡ open_gate → IsWrong area shut len (offset_in slot)
        → named left (9224 - 9 * left) area shut len (rest ++ beyond) ≡ Err (Damaged (9224 - 9 * left))
    at-wrong opened is =
        let at : ℕ = 9224 - 9 * left in
        ap (λ (n : ℕ). named n at area shut len (rest ++ beyond)) one-less
        ∙ wrong_named (left - 1) at area shut len (rest ++ beyond) inside (gate-there ∙ opened) (of_slot is)
      where
        of_slot : IsWrong area shut len (offset_in slot) → IsWrong area shut len (offset_in (rest ++ beyond))
        of_slot (inl closed) = inl closed
        of_slot (inr (inl low)) = inr (inl (omega (arith, low, offset-there)))
        of_slot (inr (inr high)) = inr (inr (omega (arith, high, offset-there)))

    -- whatever it says
    pub past-said : (said : Option ℕ) (area' : ℕ) (shut' : Bool) → area' ≡ unwrap_or said area → is_some said ≡ not shut'
        → IfSome said (λ offset. (get_or slot 0 0 ≡ open_gate) × (shut ≡ false) × (area < offset) × (offset < len) × (offset_in slot ≡ offset))
        → IfNone said (get_or slot 0 0 ≢ open_gate)
        → named (left - 1) (9224 - 9 * (left - 1)) area' shut' len (behind ++ beyond) ≡ named left (9224 - 9 * left) area shut len (rest ++ beyond)
    past-said (Some offset) area' true is shut-is opened closed = absurd (false≢true (sym shut-is))
    past-said (Some offset) area' false is shut-is opened closed =
        ap (λ (n : ℕ). named (left - 1) (9224 - 9 * (left - 1)) n false len (behind ++ beyond)) is
        ∙ ap (λ (b : Bool). named (left - 1) (9224 - 9 * (left - 1)) offset b len (behind ++ beyond)) (sym opened.1)
        ∙ past-open offset opened.0 opened.1 opened.2 opened.3 opened.4
    past-said None area' true is shut-is opened closed =
        ap (λ (n : ℕ). named (left - 1) (9224 - 9 * (left - 1)) n true len (behind ++ beyond)) is ∙ past-closed closed
    past-said None area' false is shut-is opened closed = absurd (false≢true shut-is)

-- where the area lies that is named
abbrev pub IsPlaced : ℕ → ℕ → Type 0
IsPlaced area len = (area ≡ first_gate) ⊎ ((first_gate < area) × (area < len))

pub placed-said : (area len : ℕ) (said : Option ℕ) (area' : ℕ) (P : ℕ → Type 0) (Q : Type 0) (R : ℕ → Type 0) → IsPlaced area len → area' ≡ unwrap_or said area
    → IfSome said (λ offset. P offset × Q × (area < offset) × (offset < len) × R offset) → IsPlaced area' len
placed-said area len (Some offset) area' P Q R at is opened = inr (by_place at, omega (arith, is, opened.3))
  where
    by_place : IsPlaced area len → first_gate < area'
    by_place (inl first) = omega (arith, is, first, opened.2)
    by_place (inr behind) = omega (arith, is, behind.0, opened.2)
placed-said area len None area' P Q R at is opened = subst (λ n. IsPlaced n len) (sym is) at

-- the slot is not whole
pub at-end : (left at area len : ℕ) (shut : Bool) (xs : List ℕ) → 0 < left → len < at + 9 → named left at area shut len xs ≡ Err (Damaged at)
at-end left at area len shut xs some short =
    let one : left ≡ suc (left - 1) = omega (arith, some) in
    ap (λ (n : ℕ). named n at area shut len xs) one ∙ short_named (left - 1) at area shut len xs short

-- no slot is left
pub all-read : (left at area len : ℕ) (shut : Bool) (xs : List ℕ) → left ≡ 0 → named left at area shut len xs ≡ Ok area
all-read left at area len shut xs none = ap (λ (n : ℕ). named n at area shut len xs) none ∙ none_left at area shut len xs

-- what the slots in the front of a file name, by what was read ahead behind its header
module _ (image : List ℕ) (a : Ahead) (ahead : IsAhead image a) (at : a.at ≡ 8) (bytes : List ℕ) (len : ℕ) (is : bytes ≡ a.bytes)
    (long : len ≡ a.at + length a.bytes + a.left) (found : Result ℕ Fault)
    (named-is : (beyond : List ℕ) → 8 + length bytes + length beyond ≡ len → named slot_count 8 first_gate false len (bytes ++ beyond) ≡ found) where
  pub area-is : area_of image ≡ found
  area-is =
      let beyond = drop (read_to a) image in
      ap (λ (n : ℕ). named slot_count 8 first_gate false n (drop 8 image)) (omega (arith, ahead.size, long))
      ∙ ap (λ (l : List ℕ). named slot_count 8 first_gate false len l)
      (ap (λ (n : ℕ). drop n image) (sym at) ∙ sym ahead.bytes ∙ ap (λ (l : List ℕ). l ++ beyond) (sym is))
      ∙ named-is beyond (omega (arith, at, long, ap length is, ahead_there image a ahead))
