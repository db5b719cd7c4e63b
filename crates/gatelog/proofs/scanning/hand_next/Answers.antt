use Rattle.std.proofs.Common.{◌≡◌, inr, ◌∙◌, ℕ, ◌+◌, List, [], ◌∷◌, ◌++◌, length, drop, Ok, Err, refl, sym, ap, arith}
use Rattle.std.proofs.lemmas.List.{length-drop}
use Rattle.disk.specs.File.{surface}
use Rattle.frames.specs.Placed.{Placed}
use Rattle.frames.specs.Entries.{entries_at, with_entries}
use Rattle.frames.specs.declared.front.Front.TheVariants.{Closed, Whole, Part, Broken}
use Rattle.units.specs.declared.fault.Fault.TheVariants.{Damaged}
use Rattle.gatelog.proofs.Handing.{told, in_any, in_file, entry_then}
use Rattle.frames.proofs.Ahead.{passed}
use Rattle.gatelog.proofs.Loop.{placed_next}
use Rattle.gatelog.proofs.Reading.{one_more}
use Rattle.gatelog.proofs.scanning.hand_next.Goals as goal

pub front_of-requires : goal.front_of-requires
front_of-requires g c = omega (arith, ap length c.bytes.ensures, c.left.ensures.value, c.left.ensures.small)

pub pass-requires : goal.pass-requires
pass-requires g c =
    let a = c.args.ahead.now in
    (in_any a (Whole c.in-Ok-Whole.item c.in-Ok-Whole.size)
    (told a c.bytes.result.now c.left.result _ c.in-Ok-Whole.field-0 c.bytes.ensures c.left.ensures.value c.in-Ok-Whole.field-0-is
    c.in-Ok-Whole.ensures.front)).0

pub more-requires-clause-left : goal.more-requires-clause-left
more-requires-clause-left g c =
    let a = c.args.ahead.now in
    in_any a Part
    (told a c.bytes.result.now c.left.result _ c.in-Ok-Part.field-0 c.bytes.ensures c.left.ensures.value c.in-Ok-Part.field-0-is c.in-Ok-Part.ensures.front)

pub returns-in-Ok-Closed-clause-closed : goal.returns-in-Ok-Closed-clause-closed
returns-in-Ok-Closed-clause-closed g c = (
  c.at-at.ensures,
  refl,
  λ keeps.
      let a = c.args.ahead.now in
      in_file (surface (g.D.Disk.file c.args.disk.now)).seen a Closed (c.requires.there keeps)
      (told a c.bytes.result.now c.left.result _ c.in-Ok-Closed.field-0 c.bytes.ensures c.left.ensures.value c.in-Ok-Closed.field-0-is
      c.in-Ok-Closed.ensures.front) a.at
      ∙ ap (λ (n : ℕ). Ok ([], n)) (sym c.at-at.ensures),
)

pub returns-in_ok-take-in-Ok-Whole-clause-there : goal.returns-in_ok-take-in-Ok-Whole-clause-there
returns-in_ok-take-in-Ok-Whole-clause-there g c keeps =
    let a = c.args.ahead.now in
    let front = told a c.bytes.result.now c.left.result _ c.in-Ok-Whole.field-0 c.bytes.ensures c.left.ensures.value c.in-Ok-Whole.field-0-is
    c.in-Ok-Whole.ensures.front in
    passed (surface (g.D.Disk.file c.args.disk.now)).seen a c.in-Ok-Whole.size c.pass.new.self (c.requires.there keeps)
    (in_any a (Whole c.in-Ok-Whole.item c.in-Ok-Whole.size) front).0 c.pass.ensures.at c.pass.ensures.bytes c.pass.ensures.left

pub returns-in_ok-take-in-Ok-Whole-clause-less : goal.returns-in_ok-take-in-Ok-Whole-clause-less
returns-in_ok-take-in-Ok-Whole-clause-less g c =
    let a = c.args.ahead.now in
    let size = in_any a (Whole c.in-Ok-Whole.item c.in-Ok-Whole.size) (told a c.bytes.result.now c.left.result _ c.in-Ok-Whole.field-0 c.bytes.ensures
    c.left.ensures.value c.in-Ok-Whole.field-0-is c.in-Ok-Whole.ensures.front) in
    omega (arith, size.0, size.1, c.pass.ensures.left, ap length c.pass.ensures.bytes, length-drop c.in-Ok-Whole.size a.bytes)

pub returns-in_ok-take-in-Ok-Whole-clause-goes_on : goal.returns-in_ok-take-in-Ok-Whole-clause-goes_on
returns-in_ok-take-in-Ok-Whole-clause-goes_on g c keeps total so_far =
    let a = c.args.ahead.now in
    let image = (surface (g.D.Disk.file c.args.disk.now)).seen in
    let entry : Placed = record { offset = a.at; item = c.in-Ok-Whole.item } in
    let rest = entries_at (a.at + c.in-Ok-Whole.size) 0 (drop (a.at + c.in-Ok-Whole.size) image) in
    let front = told a c.bytes.result.now c.left.result _ c.in-Ok-Whole.field-0 c.bytes.ensures c.left.ensures.value c.in-Ok-Whole.field-0-is
    c.in-Ok-Whole.ensures.front in
    let taken : g.S.Sink.taken c.take.new.self ≡ g.S.Sink.taken c.args.sink.now ++ entry ∷ [] = c.in_ok-take-in-Ok-Whole.ensures.taken
    ∙ ap (λ (e : Placed). g.S.Sink.taken c.args.sink.now ++ e ∷ [])
    (c.new.ensures ∙ ap (λ (n : ℕ). record { offset = n; item = c.in-Ok-Whole.item }) c.at-at.ensures) in
    ap (λ (n : ℕ). with_entries (g.S.Sink.taken c.take.new.self) (entries_at n 0 (drop n image))) c.pass.ensures.at
    ∙ ap (λ (l : List Placed). with_entries l rest) taken
    ∙ sym (one_more (g.S.Sink.taken c.args.sink.now) entry rest)
    ∙ ap (with_entries (g.S.Sink.taken c.args.sink.now)) (sym (entry_then image a c.in-Ok-Whole.item c.in-Ok-Whole.size (c.requires.there keeps) front))
    ∙ so_far

pub returns-in_ok-take-in-Ok-Whole-clause-placed : goal.returns-in_ok-take-in-Ok-Whole-clause-placed
returns-in_ok-take-in-Ok-Whole-clause-placed g c begins so_far =
    let a = c.args.ahead.now in
    let entry : Placed = record { offset = a.at; item = c.in-Ok-Whole.item } in
    let front = in_any a (Whole c.in-Ok-Whole.item c.in-Ok-Whole.size) (told a c.bytes.result.now c.left.result _ c.in-Ok-Whole.field-0 c.bytes.ensures
    c.left.ensures.value c.in-Ok-Whole.field-0-is c.in-Ok-Whole.ensures.front) in
    let taken : g.S.Sink.taken c.take.new.self ≡ g.S.Sink.taken c.args.sink.now ++ entry ∷ [] = c.in_ok-take-in-Ok-Whole.ensures.taken
    ∙ ap (λ (e : Placed). g.S.Sink.taken c.args.sink.now ++ e ∷ [])
    (c.new.ensures ∙ ap (λ (n : ℕ). record { offset = n; item = c.in-Ok-Whole.item }) c.at-at.ensures) in
    placed_next begins (g.S.Sink.taken c.args.sink.now) a.at c.in-Ok-Whole.item c.in-Ok-Whole.size (g.S.Sink.taken c.take.new.self) c.pass.new.self.at
    so_far taken c.pass.ensures.at front.1

pub returns-in_ok-more-in-Ok-Part-clause-less : goal.returns-in_ok-more-in-Ok-Part-clause-less
returns-in_ok-more-in-Ok-Part-clause-less g c =
    omega (arith, c.in_ok-more-in-Ok-Part.ensures.less, c.in_ok-more-in-Ok-Part.ensures.total)

pub returns-in-Ok-Broken-clause-cause : goal.returns-in-Ok-Broken-clause-cause
returns-in-Ok-Broken-clause-cause g c = inr (inr (
  ap Damaged c.at-at.ensures,
  λ keeps.
      let a = c.args.ahead.now in
      in_file (surface (g.D.Disk.file c.args.disk.now)).seen a Broken (c.requires.there keeps)
      (told a c.bytes.result.now c.left.result _ c.in-Ok-Broken.field-0 c.bytes.ensures c.left.ensures.value c.in-Ok-Broken.field-0-is
      c.in-Ok-Broken.ensures.front) a.at
      ∙ ap (λ (n : ℕ). Err (Damaged n)) (sym c.at-at.ensures),
))
