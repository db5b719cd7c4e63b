use Rattle.std.proofs.Common.{◌≡◌, ◌∙◌, ◌++◌, ◌∷◌, ◌+◌, ℕ, true, false, cond, List, [], Option, Some, None, ap, append-nil, drop, flat_map}
use Rattle.std.proofs.Common.{nat_eq, rules, sym, tests}
use Rattle.std.proofs.lemmas.List.{at_drop_all}
use Rattle.units.specs.declared.writes.Write.{Write}
use Rattle.record.specs.Records.{as_prepared}
use Rattle.record.specs.declared.record.Prepared.{Prepared}
use Rattle.inspector.specs.Decided.{promised_in}
use Rattle.inspector.specs.Entries.{About}
use Rattle.inspector.proofs.Steps.{at_member, gather_step, put_all, put_more}
use Rattle.inspector.proofs.history.add_promised.Goals as goal
use Rattle.inspector.proofs.history.add_promised.Goals.{then-entry-shard+in-Prepare+in_ok-add_copies, then-entry-shard+in_default, else-entry-shard}

-- the promise of a record of another shard
abbrev promise : ℕ → About → Option Prepared
promise shard e = cond (nat_eq e.shard shard) None (as_prepared e.item)

abbrev writes_of : Option Prepared → List Write
writes_of None = []
writes_of (Some p) = p.writes

-- what some records promise
abbrev promises : ℕ → List About → List Write
promises shard es = flat_map (λ p. p.writes) (promised_in shard es)

promised_step : (shard : ℕ) (e : About) (es : List About) (o : Option Prepared) → promise shard e ≡ o
    → promises shard (e ∷ es) ≡ writes_of o ++ promises shard es
promised_step shard e es None made = ap (λ (ps : List Prepared). flat_map (λ p. p.writes) ps) (gather_step (promise shard) e es None made)
promised_step shard e es (Some p) made = ap (λ (ps : List Prepared). flat_map (λ p. p.writes) ps) (gather_step (promise shard) e es (Some p) made)

pub loop-entry-preserved : goal.loop-entry-preserved
loop-entry-preserved c =
    let n = c.args.shard in
    let run = c.args.run.now in
    let i = c.loop-entry.entry-index in
    let e = c.entry-item.result in
    let had = c.loop-entry.writes.items in
    let all = c.args.writes.now.items ++ promises n run in
    let seen = λ (x : About). promise n x in
    elim c.if-entry-shard.branch [
      | then-entry-shard+in-Prepare+in_ok-add_copies w ↦
          let other : nat_eq c.entry.inside.shard n ≡ false = search (rules, tests) in
          let made : promise n e ≡ Some w.in-Prepare.prepared = ap seen (sym c.entry.view_is)
          ∙ ap (λ b. cond b None (as_prepared c.entry.inside.item.now)) other ∙ ap (λ r. as_prepared r) w.in-Prepare.is in
          put_more had (w.in-Prepare.prepared.writes) _ (promises n (drop i run)) (promises n (drop (i + 1) run)) all
          (rw w.writes-is (w.in_ok-add_copies.ensures.writes ∙ ap (λ (ws : List Write). had ++ ws) w.as_slice.ensures.same))
          (at_member (promises n) run i e c.loop-entry-test.true c.entry-item.is ∙ promised_step n e (drop (i + 1) run) (Some w.in-Prepare.prepared) made)
          c.loop-entry.invariant
      | then-entry-shard+in_default w ↦
          let other : nat_eq c.entry.inside.shard n ≡ false = search (rules, tests) in
          let item = c.entry.inside.item.now in
          let none : writes_of (as_prepared item) ≡ [] = search rules in
          let made : promise n e ≡ as_prepared item = ap seen (sym c.entry.view_is) ∙ ap (λ b. cond b None (as_prepared item)) other in
          put_more had [] _ (promises n (drop i run)) (promises n (drop (i + 1) run)) all (rw w.writes-is (sym (append-nil had)))
          (at_member (promises n) run i e c.loop-entry-test.true c.entry-item.is ∙ promised_step n e (drop (i + 1) run) (as_prepared item) made
          ∙ ap (λ (ws : List Write). ws ++ promises n (drop (i + 1) run)) none)
          c.loop-entry.invariant
      | else-entry-shard w ↦
          let here : nat_eq c.entry.inside.shard n ≡ true = search (rules, tests) in
          let made : promise n e ≡ None = ap seen (sym c.entry.view_is) ∙ ap (λ b. cond b None (as_prepared c.entry.inside.item.now)) here in
          put_more had [] _ (promises n (drop i run)) (promises n (drop (i + 1) run)) all (rw w.writes-is (sym (append-nil had)))
          (at_member (promises n) run i e c.loop-entry-test.true c.entry-item.is ∙ promised_step n e (drop (i + 1) run) None made)
          c.loop-entry.invariant
    ]

pub returns-clause-writes : goal.returns-clause-writes
returns-clause-writes c =
    let n = c.args.shard in
    let run = c.args.run.now in
    put_all c.loop-entry.writes.items _ (c.args.writes.now.items ++ promises n run)
    (at_drop_all (λ es. promises n es) run c.loop-entry.entry-index c.loop-entry-test.false) c.loop-entry.invariant
