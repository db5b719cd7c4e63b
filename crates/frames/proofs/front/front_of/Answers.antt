use Rattle.std.proofs.Common.{rules, ◌≡◌, ◌∙◌, ◌+◌, ◌≤◌, [], ◌++◌, length, take, drop, Some, None, sym, ap, subst, arith}
use Rattle.std.specs.Int.{w32, from_be_bytes}
use Rattle.std.proofs.lemmas.List.{length-drop, nil_from_length}
use Rattle.frames.specs.Front.{IsFront}
use Rattle.frames.specs.Entries.{framed, entries_at, with_entry}
use Rattle.spelling.specs.Reading.{read_record}
use Rattle.frames.proofs.Scan.{closed_step, damaged_step, end_step}
use Rattle.frames.proofs.Fronts.{none-short, none-least, none-most, none-long, none-record, some-record, whole-length, count-read, body-read, behind_frame}
use Rattle.frames.proofs.front.front_of.Goals.{then-left-eq0, else-left-eq0, then-is_short, else-is_short, then-count-lt1-via-then-count-lt1}
use Rattle.frames.proofs.front.front_of.Goals.{then-count-lt1-via-else-count-lt1+then-count}
use Rattle.frames.proofs.front.front_of.Goals.{then-count-lt1-via-else-count-lt1+else-count+then-behind-left}
use Rattle.frames.proofs.front.front_of.Goals as goal

pub returns-then-gate-clause-front : goal.returns-then-gate-clause-front
returns-then-gate-clause-front c beyond long at =
    ap (λ l. entries_at at 0 (l ++ beyond)) c.in-Some.ensures.cases.0
    ∙ closed_step at c.in-Some.gate.now (c.in-Some.rest.now ++ beyond) c.if-gate.true

pub returns-in_default-clause-front : goal.returns-in_default-clause-front
returns-in_default-clause-front c beyond long =
    let empty : c.args.bytes.now ≡ [] = nil_from_length c.args.bytes.now c.in_default.ensures.cases in
    elim c.if-left-eq0.branch [
      | then-left-eq0 w ↦
          let none : beyond ≡ [] = nil_from_length beyond (long ∙ (search rules)) in
          subst (IsFront (c.args.bytes.now ++ beyond) (length c.args.bytes.now) c.args.left) (sym w.result-is)
          (λ at. ap (entries_at at 0) (ap (λ l. l ++ beyond) empty ∙ none) ∙ end_step at)
      | else-left-eq0 w ↦
          subst (IsFront (c.args.bytes.now ++ beyond) (length c.args.bytes.now) c.args.left) (sym w.result-is) (search rules)
    ]

pub returns-then-rest-lt4-clause-front : goal.returns-then-rest-lt4-clause-front
returns-then-rest-lt4-clause-front c beyond long =
    let rest = c.in-Some.rest.now in
    elim c.if-is_short.branch [
      | then-is_short w ↦
          subst (IsFront (c.args.bytes.now ++ beyond) (length c.args.bytes.now) c.args.left) (sym w.result-is)
          (λ at. ap (λ l. entries_at at 0 (l ++ beyond)) c.in-Some.ensures.cases.0
          ∙ damaged_step at c.in-Some.gate.now (rest ++ beyond) c.if-gate.false
          (none-short (rest ++ beyond) (omega (arith, whole-length rest beyond, long, w.if-is_short.true))))
      | else-is_short w ↦
          subst (IsFront (c.args.bytes.now ++ beyond) (length c.args.bytes.now) c.args.left) (sym w.result-is)
          (omega (arith, c.if-rest-lt4.true, w.if-is_short.false))
    ]

pub returns-then-count-lt1-clause-front : goal.returns-then-count-lt1-clause-front
returns-then-count-lt1-clause-front c beyond long at =
    let rest = c.in-Some.rest.now in
    let n = c.read_u32-count.result in
    let four : 4 ≤ length rest = (search rules) in
    let is : from_be_bytes w32 (take 4 (rest ++ beyond)) ≡ n = count-read rest beyond four ∙ (search rules) in
    let none : framed (rest ++ beyond) ≡ None = elim c.then-count-lt1.branch [
      | then-count-lt1-via-then-count-lt1 w ↦ none-least (rest ++ beyond) n is w.if-count-lt1.true
      | then-count-lt1-via-else-count-lt1+then-count w ↦ none-most (rest ++ beyond) n is w.if-count.true
      | then-count-lt1-via-else-count-lt1+else-count+then-behind-left w ↦ none-long (rest ++ beyond) n is
          (omega (arith, whole-length rest beyond, long, w.if-behind-left.true, four, ap length c.split_at.ensures.back, length-drop 4 rest))
    ] in
    ap (λ l. entries_at at 0 (l ++ beyond)) c.in-Some.ensures.cases.0
    ∙ damaged_step at c.in-Some.gate.now (rest ++ beyond) c.if-gate.false none

pub returns-in-Ok-Some-clause-front : goal.returns-in-Ok-Some-clause-front
returns-in-Ok-Some-clause-front c beyond long =
    let rest = c.in-Some.rest.now in
    let n = c.read_u32-count.result in
    let item = c.in-Ok-Some.item in
    let four : 4 ≤ length rest = (search rules) in
    let back = ap length c.split_at.ensures.back in
    let enough : n ≤ length (drop 4 rest) = omega (arith, back, c.if-behind-count.false) in
    let is : from_be_bytes w32 (take 4 (rest ++ beyond)) ≡ n = count-read rest beyond four ∙ (search rules) in
    let body : take n (drop 4 (rest ++ beyond)) ≡ c.split_at-2.result.0.now =
    body-read rest beyond n four enough ∙ ap (take n) (sym c.split_at.ensures.back) ∙ sym c.split_at-2.ensures.front in
    let reads : read_record (take n (drop 4 (rest ++ beyond))) ≡ Some item = ap read_record body ∙ c.in-Ok-Some.ensures.read ∙ c.in-Ok-Some.field-0-is in
    let long : 4 + n ≤ length (rest ++ beyond) = omega (arith, whole-length rest beyond, length-drop 4 rest, enough, four) in
    let found : framed (rest ++ beyond) ≡ Some (item, 4 + n) = some-record (rest ++ beyond) n is item
    (omega (arith, c.if-count-lt1.false)) c.if-count.false long reads in (
      omega (arith, c.in-Some.ensures.cases.1, length-drop 4 rest, enough, four),
      (search rules),
      λ at.
          ap (λ l. entries_at at 0 (l ++ beyond)) c.in-Some.ensures.cases.0
          ∙ behind_frame at c.in-Some.gate.now (rest ++ beyond) item (4 + n) (5 + n) c.if-gate.false found long (omega arith)
          ∙ ap (λ l. with_entry (record { offset = at; item = item }) (entries_at (at + (5 + n)) 0 (drop (5 + n) (l ++ beyond))))
          (sym c.in-Some.ensures.cases.0),
    )

pub returns-in-Ok-None-clause-front : goal.returns-in-Ok-None-clause-front
returns-in-Ok-None-clause-front c beyond long at =
    let rest = c.in-Some.rest.now in
    let n = c.read_u32-count.result in
    let four : 4 ≤ length rest = (search rules) in
    let back = ap length c.split_at.ensures.back in
    let enough : n ≤ length (drop 4 rest) = omega (arith, back, c.if-behind-count.false) in
    let is : from_be_bytes w32 (take 4 (rest ++ beyond)) ≡ n = count-read rest beyond four ∙ (search rules) in
    let body : take n (drop 4 (rest ++ beyond)) ≡ c.split_at-2.result.0.now =
    body-read rest beyond n four enough ∙ ap (take n) (sym c.split_at.ensures.back) ∙ sym c.split_at-2.ensures.front in
    ap (λ l. entries_at at 0 (l ++ beyond)) c.in-Some.ensures.cases.0
    ∙ damaged_step at c.in-Some.gate.now (rest ++ beyond) c.if-gate.false
    (none-record (rest ++ beyond) n is (ap read_record body ∙ c.in-Ok-None.ensures.read ∙ c.in-Ok-None.field-0-is))
