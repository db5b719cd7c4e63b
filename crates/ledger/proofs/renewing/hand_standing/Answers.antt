use Rattle.std.proofs.Common.{◌≡◌, ◌+◌, ◌++◌, ◌∙◌, List, drop, ap, sym}
use Rattle.std.proofs.lemmas.List.{append-nil, drop_all}
use Rattle.units.specs.Ids.{Id}
use Rattle.units.specs.Lists.{gather}
use Rattle.record.specs.Records.{Status}
use Rattle.record.specs.declared.record.Record.{Record}
use Rattle.ledger.specs.Handed.{standing_of}
use Rattle.ledger.specs.Turned.{standing_item}
use Rattle.ledger.proofs.Renewed.{handed_none, handed_one, made_none, made_one}
use Rattle.ledger.proofs.renewing.hand_standing.Goals.{in-Some+in_ok-hand, in_default}
use Rattle.ledger.proofs.renewing.hand_standing.Goals as goal

pub returns-clause-added : goal.returns-clause-added
returns-clause-added g c =
    let facts = c.args.facts.now.facts in
    let before = g.R.Recorder.records c.args.recorder.now in
    let after = g.R.Recorder.records c.loop-txn.recorder in
    sym (append-nil after)
    ∙ ap (λ (ids : List Id). after ++ gather (standing_of facts) ids) (sym (drop_all c.loop-txn.txn-index c.args.ids.now c.loop-txn-test.false))
    ∙ c.loop-txn.invariant
    ∙ ap (λ (items : List Record). before ++ items) c.requires

pub loop-txn-preserved : goal.loop-txn-preserved
loop-txn-preserved g c =
    let facts = c.args.facts.now.facts in
    let make = standing_of facts in
    let ids = c.args.ids.now in
    let at = c.loop-txn.txn-index in
    let t = c.txn-item.result in
    let taken = g.R.Recorder.records c.loop-txn.recorder in
    let new = g.R.Recorder.records c.match-branch-2.recorder in
    let before = g.R.Recorder.records c.args.recorder.now in
    let made : make t ≡ c.in_ok-item.field-0 =
    ap (λ (s : Status). standing_item (record { txn = t; status = s })) (sym c.status.ensures) ∙ sym (c.in_ok-item.ensures.item t) in
    elim c.match-branch-2.branch [
      | in-Some+in_ok-hand w ↦
          handed_one taken new w.in-Some.item (gather make (drop at ids)) (gather make (drop (at + 1) ids)) (before ++ gather make ids)
          (ap g.R.Recorder.records w.recorder-is ∙ w.in_ok-hand.ensures.added)
          (made_one make ids at t c.loop-txn-test.true c.txn-item.is w.in-Some.item (made ∙ w.in-Some.is)) c.loop-txn.invariant
      | in_default w ↦
          handed_none taken new (gather make (drop at ids)) (gather make (drop (at + 1) ids)) (before ++ gather make ids)
          (ap g.R.Recorder.records w.recorder-is) (made_none make ids at t c.loop-txn-test.true c.txn-item.is (made ∙ w.in_default.is)) c.loop-txn.invariant
    ]
