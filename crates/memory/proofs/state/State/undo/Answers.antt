use Rattle.std.proofs.Common.{◌≡◌, ◌∙◌, sym, ap, subst, true}
use Rattle.protocol.specs.Rows.{Memory}
use Rattle.rows.specs.CodeRows.{is_reading}
use Rattle.rows.specs.RowTable.{has_phase}
use Rattle.memory.specs.Carry.{asker}
use Rattle.memory.specs.Kept.{Kept}
use Rattle.memory.proofs.Carried.{undo_reads, undone, none_held, reading_holds_none, holding_left}
use Rattle.memory.proofs.state.State.undo.Goals as goal

pub end-requires : goal.end-requires
end-requires c =
    subst (λ (k : Kept). has_phase is_reading k.memory.rows c.in-Some.txn ≡ true) (sym c.self.view_is)
    (undo_reads c.args.self.now.memory.rows (asker c.args.plan.now.change) c.args.ready.admitted c.in-Some.txn
    (sym c.asker.ensures ∙ c.in-Some.is) c.if-admitted.true c.requires)

pub invariant_of-self : goal.invariant_of-self
invariant_of-self c =
    let reads : has_phase is_reading c.self.inside.rows.rows c.in-Some.txn ≡ true =
    subst (λ (k : Kept). has_phase is_reading k.memory.rows c.in-Some.txn ≡ true) (sym c.self.view_is)
    (undo_reads c.args.self.now.memory.rows (asker c.args.plan.now.change) c.args.ready.admitted c.in-Some.txn
    (sym c.asker.ensures ∙ c.in-Some.is) c.if-admitted.true c.requires) in (
      c.self.invariant.0,
      c.self.invariant.1,
      holding_left c.self.inside.times.holds c.self.inside.rows.rows c.end.new.self.rows c.in-Some.txn c.laws.ensures.order c.self.invariant.2
          (none_held is_reading reading_holds_none c.self.inside.rows.rows c.in-Some.txn reads) c.end.ensures.rows,
    )

pub returns-in-Some-clause-memory : goal.returns-in-Some-clause-memory
returns-in-Some-clause-memory c m admits is =
    let now : Memory = record { last = c.self.inside.times.last; rows = c.self.inside.rows.rows; ended = c.self.inside.ended.ids } in
    undone m now c.end.new.self.rows (asker c.args.plan.now.change) c.args.ready.admitted c.in-Some.txn
    (sym c.asker.ensures ∙ c.in-Some.is) c.if-admitted.true admits
    (ap (λ (k : Kept). k.memory) c.self.view_is ∙ is) c.end.ensures.rows
