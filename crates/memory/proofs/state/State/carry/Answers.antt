use Rattle.std.proofs.Common.{◌≡◌, ◌≤◌, ◌∙◌, List, sym, ap, subst, length, ℕ, Option}
use Rattle.units.specs.Ids.{Id}
use Rattle.units.specs.declared.lock.Lock.{Lock}
use Rattle.safetime.specs.Safe.{Times}
use Rattle.protocol.specs.Rows.{Memory, without_rows}
use Rattle.protocol.specs.Plan.{carried, after_change, ended_by, with_ids}
use Rattle.record.specs.declared.record.Record.{Record}
use Rattle.memory.specs.Carry.{FitsRows, AskerHasRoom, MayFollow, MayInstall, asker, admitted, table_in}
use Rattle.memory.specs.Kept.{Kept}
use Rattle.memory.specs.Plans.{change_of, plan_of}
use Rattle.memory.specs.declared.plan.Step.{Step}
use Rattle.memory.proofs.Logged.{dated, carried_is, raised_to}
use Rattle.memory.proofs.state.State.carry.Goals as goal

pub make_change-item-requires-clause-fits : goal.make_change-item-requires-clause-fits
make_change-item-requires-clause-fits c =
    let p = c.args.plan in
    subst (λ (k : Kept). FitsRows k.memory.rows c.as_slice.result.now c.deref.result.now c.args.logged p.change) (sym c.self.view_is)
    (subst (λ (ts : List Id). FitsRows c.args.self.now.memory.rows ts c.deref.result.now c.args.logged p.change) (sym c.as_slice.ensures)
    (subst (λ (ls : List Lock). FitsRows c.args.self.now.memory.rows p.wounded ls c.args.logged p.change) (sym c.deref.ensures.value)
    c.requires.ready.fit.0))

pub make_change-item-requires-clause-there : goal.make_change-item-requires-clause-there
make_change-item-requires-clause-there c =
    subst (λ (k : Kept). admitted k.memory.rows (asker c.args.plan.change) ≡ k.memory.rows) (sym c.self.view_is) c.requires.ready.there

pub make_change-item-requires-clause-locks : goal.make_change-item-requires-clause-locks
make_change-item-requires-clause-locks c =
    subst (λ (k : Kept). AskerHasRoom (table_in k) (asker c.args.plan.change) (length c.deref.result.now)) (sym c.self.view_is)
    (subst (λ (ls : List Lock). AskerHasRoom (table_in c.args.self.now) (asker c.args.plan.change) (length ls)) (sym c.deref.ensures.value)
    c.requires.ready.locks)

pub learn-requires-clause-follows : goal.learn-requires-clause-follows
learn-requires-clause-follows c =
    subst (λ (o : Option Record). MayFollow c.self.inside.ledger.shard c.self.inside.ledger.facts o) (sym c.make_change-item.ensures.record)
    (subst (λ (shard : ℕ). MayFollow shard c.self.inside.ledger.facts c.args.logged) (sym c.self.invariant.1)
    (subst (λ (k : Kept). MayFollow k.setup.shard k.facts c.args.logged) (sym c.self.view_is) c.requires.ready.follows))

pub learn-requires-clause-installs : goal.learn-requires-clause-installs
learn-requires-clause-installs c =
    subst (λ (o : Option Record). MayInstall c.self.inside.ledger.facts o) (sym c.make_change-item.ensures.record)
    (subst (λ (k : Kept). MayInstall k.facts c.args.logged) (sym c.self.view_is) c.requires.ready.installs)

pub make_change-item-requires-clause-dated : goal.make_change-item-requires-clause-dated
make_change-item-requires-clause-dated c =
    dated c.args.self.now.setup.shard c.args.self.now.facts c.args.logged c.requires.ready.follows

pub returns-clause-memory : goal.returns-clause-memory
returns-clause-memory c =
    let s : Step = record { plan = c.args.plan; logged = c.args.logged } in
    let p = c.args.plan in
    let m : Memory = record { last = c.self.inside.times.last; rows = c.self.inside.rows.rows; ended = c.self.inside.ended.ids } in
    let next : Memory = record {
      last = c.make_change-item.new.times.last;
      rows = c.make_change-item.new.rows.rows;
      ended =
          c.make_change-item.new.ended.ids;
    } in
    let low : m.last ≤ p.last = subst (λ (k : Kept). k.memory.last ≤ p.last) (sym c.self.view_is) c.requires.ready.fit.1 in
    let last : next.last ≡ p.last = c.make_change-item.ensures.last ∙ ap (λ (t : Times). t.last) c.raise.ensures ∙ raised_to m.last p.last low in
    let us : List Id = c.as_slice.result.now in
    let needs : List Lock = c.deref.result.now in
    let rows : next.rows ≡ after_change (change_of m.rows p.needs.items s.logged p.change) (without_rows m.rows p.wounded) =
    c.make_change-item.ensures.rows
    ∙ ap (λ (ts : List Id). after_change (change_of m.rows needs c.args.logged p.change) (without_rows m.rows ts)) c.as_slice.ensures
    ∙ ap (λ (ls : List Lock). after_change (change_of m.rows ls c.args.logged p.change) (without_rows m.rows p.wounded)) c.deref.ensures.value in
    let ended : next.ended ≡ ended_by (change_of m.rows p.needs.items s.logged p.change) (with_ids m.ended p.wounded) =
    c.make_change-item.ensures.ended
    ∙ ap (λ (ts : List Id). ended_by (change_of m.rows needs c.args.logged p.change) (with_ids m.ended ts)) c.as_slice.ensures
    ∙ ap (λ (ls : List Lock). ended_by (change_of m.rows ls c.args.logged p.change) (with_ids m.ended p.wounded)) c.deref.ensures.value in
    subst (λ (k : Kept). next ≡ carried (plan_of k.memory.rows s) k.memory) c.self.view_is (carried_is m next s last rows ended)
