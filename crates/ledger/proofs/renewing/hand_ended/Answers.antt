use Rattle.std.proofs.Common.{◌≡◌, ◌+◌, ◌++◌, ◌∙◌, List, drop, ap, subst, sym}
use Rattle.std.proofs.lemmas.List.{append-nil, drop_all}
use Rattle.units.specs.ById.{IsById}
use Rattle.units.specs.Ids.{Id}
use Rattle.units.specs.Lists.{gather}
use Rattle.record.specs.Records.{Status}
use Rattle.record.specs.declared.record.Record.{Record}
use Rattle.ledger.specs.Handed.{standing_of}
use Rattle.ledger.specs.Turned.{ended_item, standing_item}
use Rattle.ledger.proofs.Renewed.{by_ids, ended_not_standing, handed_none, handed_one, known_of, listed_none, listed_one, made_none, made_of_ids, made_one}
use Rattle.ledger.proofs.renewing.hand_ended.Goals.{in-Some+in_ok-hand-in-Some, in-None+in_ok-push-in-None}
use Rattle.ledger.proofs.renewing.hand_ended.Goals as goal

pub returns-clause-added : goal.returns-clause-added
returns-clause-added g c =
    let facts = c.args.facts.now.facts in
    let before = g.R.Recorder.records c.args.recorder.now in
    let after = g.R.Recorder.records c.loop-txn.recorder in
    sym (append-nil after)
    ∙ ap (λ (ids : List Id). after ++ gather (λ t. ended_item (known_of facts t)) ids)
    (sym (drop_all c.loop-txn.txn-index c.args.ids.now c.loop-txn-test.false))
    ∙ c.loop-txn.invariant.0
    ∙ ap (λ (ids : List Id). before ++ gather (λ t. ended_item (known_of facts t)) ids) c.requires.ids
    ∙ ap (λ (items : List Record). before ++ items) (made_of_ids ended_item facts
    (by_ids facts.entries (subst (IsById (λ t. t)) c.requires.ids c.requires.order)))

pub returns-clause-rest : goal.returns-clause-rest
returns-clause-rest g c =
    let facts = c.args.facts.now.facts in
    let rest = gather (standing_of facts) c.loop-txn.rest.items in
    sym (append-nil rest)
    ∙ ap (λ (ids : List Id). rest ++ gather (standing_of facts) ids) (sym (drop_all c.loop-txn.txn-index c.args.ids.now c.loop-txn-test.false))
    ∙ c.loop-txn.invariant.1
    ∙ ap (gather (standing_of facts)) c.requires.ids
    ∙ made_of_ids standing_item facts (by_ids facts.entries (subst (IsById (λ t. t)) c.requires.ids c.requires.order))

pub loop-txn-preserved : goal.loop-txn-preserved
loop-txn-preserved g c =
    let facts = c.args.facts.now.facts in
    let make = λ (t : Id). ended_item (known_of facts t) in
    let keep = standing_of facts in
    let ids = c.args.ids.now in
    let at = c.loop-txn.txn-index in
    let t = c.txn-item.result in
    let taken = g.R.Recorder.records c.loop-txn.recorder in
    let new = g.R.Recorder.records c.match-ended.recorder in
    let before = g.R.Recorder.records c.args.recorder.now in
    let made : make t ≡ c.ended.result =
    sym (c.ended.ensures ∙ ap (λ (s : Status). ended_item (record { txn = t; status = s })) c.status.ensures) in
    elim c.match-ended.branch [
      | in-Some+in_ok-hand-in-Some w ↦ (
        handed_one taken new w.in-Some.item (gather make (drop at ids)) (gather make (drop (at + 1) ids)) (before ++ gather make ids)
            (ap g.R.Recorder.records w.recorder-is ∙ w.in_ok-hand-in-Some.ensures.added)
            (made_one make ids at t c.loop-txn-test.true c.txn-item.is w.in-Some.item (made ∙ w.in-Some.is)) c.loop-txn.invariant.0,
        ap (λ (l : List Id). gather keep l ++ gather keep (drop (at + 1) ids)) (ap (λ v. v.items) w.rest-is)
            ∙ listed_none keep ids at t c.loop-txn-test.true c.txn-item.is c.loop-txn.rest.items (gather keep ids)
            (ended_not_standing (known_of facts t) w.in-Some.item (made ∙ w.in-Some.is)) c.loop-txn.invariant.1,
      )
      | in-None+in_ok-push-in-None w ↦ (
        handed_none taken new (gather make (drop at ids)) (gather make (drop (at + 1) ids)) (before ++ gather make ids)
            (ap g.R.Recorder.records w.recorder-is) (made_none make ids at t c.loop-txn-test.true c.txn-item.is (made ∙ w.in-None.is)) c.loop-txn.invariant.0,
        ap (λ (l : List Id). gather keep l ++ gather keep (drop (at + 1) ids))
            (ap (λ v. v.items) w.rest-is ∙ w.in_ok-push-in-None.ensures.items)
            ∙ listed_one keep ids at t c.loop-txn-test.true c.txn-item.is c.loop-txn.rest.items (gather keep ids) c.loop-txn.invariant.1,
      )
    ]
