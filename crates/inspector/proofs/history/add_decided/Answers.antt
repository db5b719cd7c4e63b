use Rattle.std.specs.Prelude.{option_to_list}
use Rattle.std.proofs.Common.{◌≡◌, ◌∙◌, ◌++◌, ◌∷◌, ◌+◌, ℕ, true, false, cond, List, [], Option, Some, None, ap, append-nil, drop, nat_eq, rules, sym}
use Rattle.std.proofs.lemmas.Bool.{eq-eqb, ne_eqb}
use Rattle.std.proofs.lemmas.List.{at_drop_all}
use Rattle.units.specs.Lists.{gather, head, when}
use Rattle.record.specs.History.{Txn}
use Rattle.record.specs.Records.{as_committed}
use Rattle.record.specs.declared.record.Committed.{Committed}
use Rattle.record.specs.declared.record.Record.{Record}
use Rattle.inspector.specs.Decided.{decided_in, decision_in, whole_in}
use Rattle.inspector.specs.Entries.{About, of_txn}
use Rattle.inspector.proofs.Steps.{at_member, gather_step, put_all, put_more}
use Rattle.inspector.proofs.history.add_decided.Goals as goal
use Rattle.inspector.proofs.history.add_decided.Goals.{in-Some+then-shard-number+in_ok-whole+in_ok-push, in-Some+else-shard-number, in_default}

passed : (about : List About) (n : ℕ) (r : Record) (log : List Record) → as_committed r ≡ None → decided_in about (n, r ∷ log) ≡ decided_in about (n, log)
passed about n r log is = ap (λ (cs : List Committed). gather (decision_in about n) cs) (gather_step as_committed r log None is)

decided : (about : List About) (n : ℕ) (r : Record) (log : List Record) (d : Committed) (o : Option Txn) → as_committed r ≡ Some d → decision_in about n d ≡ o
    → decided_in about (n, r ∷ log) ≡ option_to_list o ++ decided_in about (n, log)
decided about n r log d o is made =
    ap (λ (cs : List Committed). gather (decision_in about n) cs) (gather_step as_committed r log (Some d) is)
    ∙ gather_step (decision_in about n) d (gather as_committed log) o made

pub loop-item-preserved : goal.loop-item-preserved
loop-item-preserved c =
    let about = c.args.about.now in
    let n = c.args.shard in
    let log = c.args.log.now in
    let i = c.loop-item.item-index in
    let r = c.item-item.result in
    let left = drop (i + 1) log in
    let had = c.loop-item.found.items in
    let all = c.args.found.now.items ++ decided_in about (n, log) in
    let from = λ (l : List Record). decided_in about (n, l) in
    let parts = λ (d : Committed). head d.parts in
    elim c.match-decision_of.branch [
      | in-Some+then-shard-number+in_ok-whole+in_ok-push w ↦
          let d : Committed = w.in-Some.decision in
          let t : Txn = whole_in n d (of_txn d.txn about) in
          let here : when (nat_eq n) (head d.parts) ≡ true = ap (λ o. when (nat_eq n) o) (ap parts (sym w.decision.view_is) ∙ w.least.ensures)
          ∙ eq-eqb n w.least.result (w.if-shard-number.true ∙ w.number.ensures.same) in
          let made : decision_in about n d ≡ Some t = ap (λ b. cond b (Some t) None) here in
          let whole : w.in_ok-whole.field-0 ≡ t = search rules in
          put_more had (t ∷ []) _ (from (drop i log)) (from left) all (rw w.found-is (w.in_ok-push.ensures.items ∙ ap (λ (u : Txn). had ++ u ∷ []) whole))
          (at_member from log i r c.loop-item-test.true c.item-item.is ∙ decided about n r left d (Some t) (sym c.decision_of.ensures ∙ w.in-Some.is) made)
          c.loop-item.invariant
      | in-Some+else-shard-number w ↦
          let d : Committed = w.in-Some.decision in
          let elsewhere : when (nat_eq n) (head d.parts) ≡ false = ap (λ o. when (nat_eq n) o) (ap parts (sym w.decision.view_is) ∙ w.least.ensures)
          ∙ ne_eqb n w.least.result (λ same. w.if-shard-number.false (same ∙ sym w.number.ensures.same)) in
          let made : decision_in about n d ≡ None = ap (λ b. cond b (Some (whole_in n d (of_txn d.txn about))) None) elsewhere in
          put_more had [] _ (from (drop i log)) (from left) all (rw w.found-is (sym (append-nil had)))
          (at_member from log i r c.loop-item-test.true c.item-item.is ∙ decided about n r left d None (sym c.decision_of.ensures ∙ w.in-Some.is) made)
          c.loop-item.invariant
      | in_default w ↦
          put_more had [] _ (from (drop i log)) (from left) all (rw w.found-is (sym (append-nil had)))
          (at_member from log i r c.loop-item-test.true c.item-item.is ∙ passed about n r left (sym c.decision_of.ensures ∙ w.in_default.is))
          c.loop-item.invariant
    ]

pub returns-clause-found : goal.returns-clause-found
returns-clause-found c =
    let log = c.args.log.now in
    put_all c.loop-item.found.items _ (c.args.found.now.items ++ decided_in c.args.about.now (c.args.shard, log))
    (at_drop_all (λ l. decided_in c.args.about.now (c.args.shard, l)) log c.loop-item.item-index c.loop-item-test.false) c.loop-item.invariant
