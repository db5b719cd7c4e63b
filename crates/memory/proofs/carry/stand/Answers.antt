use Rattle.std.proofs.Common.{◌≡◌, ◌∙◌, sym, ap, subst, true, arith}
use Rattle.std.proofs.lemmas.Bool.Decides.{nat_tests}
use Rattle.record.specs.declared.record.Record.{Record}
use Rattle.record.specs.declared.record.Record.TheVariants.{Prepare, Commit}
use Rattle.units.specs.Ids.{Id, same_id}
use Rattle.protocol.specs.Rows.{held_stamp}
use Rattle.safetime.specs.Safe.{Times}
use Rattle.rows.specs.CodeRows.{is_idle, may_decide}
use Rattle.rows.specs.RowTable.{phase_by}
use Rattle.rows.specs.States.{is_prepare_of, is_commit_of}
use Rattle.memory.specs.Carry.{CanStand}
use Rattle.memory.specs.Served.{IsHolding}
use Rattle.memory.proofs.Carried.{space_to_hold, holding_stands, idle_holds_none, deciding_holds_none}
use Rattle.memory.proofs.carry.stand.Goals as goal

-- an id is itself
same_self : (t : Id) → same_id t t ≡ true
same_self t = grind (arith, nat_tests)

pub hold-requires-clause-room : goal.hold-requires-clause-room
hold-requires-clause-room c =
    let can : CanStand c.args.rows.now.rows c.args.txn (Prepare c.in-Prepare.prepared) = subst (CanStand c.args.rows.now.rows c.args.txn)
    (sym c.item.ensures ∙ c.in-Prepare.is) c.requires.stands in
    space_to_hold is_idle idle_holds_none c.args.times.now.holds c.args.rows.now.rows c.args.txn c.laws.ensures.order c.requires.holding can.1
    c.laws.ensures.few

pub hold-requires-in-Commit-clause-room : goal.hold-requires-in-Commit-clause-room
hold-requires-in-Commit-clause-room c =
    let can : CanStand c.args.rows.now.rows c.args.txn (Commit c.in-Commit.committed) = subst (CanStand c.args.rows.now.rows c.args.txn)
    (sym c.item.ensures ∙ c.in-Commit.is) c.requires.stands in
    space_to_hold may_decide deciding_holds_none c.args.times.now.holds c.args.rows.now.rows c.args.txn c.laws.ensures.order c.requires.holding can.1
    c.laws.ensures.few

pub returns-in-Prepare-clause-holding : goal.returns-in-Prepare-clause-holding
returns-in-Prepare-clause-holding c =
    let is : c.args.logged ≡ Prepare c.in-Prepare.prepared = sym c.item.ensures ∙ c.in-Prepare.is in
    let can : CanStand c.args.rows.now.rows c.args.txn (Prepare c.in-Prepare.prepared) = subst
    (CanStand c.args.rows.now.rows c.args.txn) is c.requires.stands in
    subst (λ (times : Times). IsHolding times.holds c.prepare.new.self.rows) (sym c.hold.ensures)
    (holding_stands is_idle idle_holds_none c.args.times.now.holds c.args.rows.now.rows c.prepare.new.self.rows c.args.txn _ _ c.in-Prepare.prepared.at
    c.laws.ensures.order c.requires.holding can.1 (ap (λ (r : Record). held_stamp (phase_by r)) is) c.prepare.ensures.rows)

pub returns-in-Commit-clause-holding : goal.returns-in-Commit-clause-holding
returns-in-Commit-clause-holding c =
    let is : c.args.logged ≡ Commit c.in-Commit.committed = sym c.item.ensures ∙ c.in-Commit.is in
    let can : CanStand c.args.rows.now.rows c.args.txn (Commit c.in-Commit.committed) = subst (CanStand c.args.rows.now.rows c.args.txn) is c.requires.stands in
    subst (λ (times : Times). IsHolding times.holds c.decide.new.self.rows) (sym c.hold-in-Commit.ensures)
    (holding_stands may_decide deciding_holds_none c.args.times.now.holds c.args.rows.now.rows c.decide.new.self.rows c.args.txn _ _ c.in-Commit.committed.at
    c.laws.ensures.order c.requires.holding can.1 (ap (λ (r : Record). held_stamp (phase_by r)) is) c.decide.ensures.rows)

pub prepare-requires-clause-mine : goal.prepare-requires-clause-mine
prepare-requires-clause-mine c =
    let is : c.args.logged ≡ Prepare c.in-Prepare.prepared = sym c.item.ensures ∙ c.in-Prepare.is in
    let can : CanStand c.args.rows.now.rows c.args.txn (Prepare c.in-Prepare.prepared) =
    subst (CanStand c.args.rows.now.rows c.args.txn) is c.requires.stands in
    subst (λ (r : Record). is_prepare_of c.args.txn r ≡ true) (sym is)
    (subst (λ (t : Id). same_id c.in-Prepare.prepared.txn t ≡ true) can.0 (same_self c.in-Prepare.prepared.txn))

pub decide-requires-clause-mine : goal.decide-requires-clause-mine
decide-requires-clause-mine c =
    let is : c.args.logged ≡ Commit c.in-Commit.committed = sym c.item.ensures ∙ c.in-Commit.is in
    let can : CanStand c.args.rows.now.rows c.args.txn (Commit c.in-Commit.committed) = subst (CanStand c.args.rows.now.rows c.args.txn) is c.requires.stands in
    subst (λ (r : Record). is_commit_of c.args.txn r ≡ true) (sym is)
    (subst (λ (t : Id). same_id c.in-Commit.committed.txn t ≡ true) can.0 (same_self c.in-Commit.committed.txn))
