use Rattle.std.proofs.Common.{◌≡◌, ◌<◌, ◌∙◌, ℕ, List, Option, length, ap, subst, arith}
use Rattle.units.specs.Ids.{Id}
use Rattle.protocol.specs.Rows.{Memory}
use Rattle.memory.specs.Carry.{AskerHasRoom, admitted, admitted_to, asker}
use Rattle.memory.specs.Kept.{Kept}
use Rattle.memory.proofs.state.State.make_ready.Goals as goal

pub returns-clause-ready : goal.returns-clause-ready
returns-clause-ready c =
    let plan = c.args.plan.now in
    let rows = c.admit_asker.new.rows in
    let memory : Memory = record { last = c.self.inside.times.last; rows = c.self.inside.rows.rows; ended = c.self.inside.ended.ids } in
    let next : Memory = record { last = c.self.inside.times.last; rows = rows.rows; ended = c.reserve-2.new.self.ids } in
    let taken : next ≡ admitted_to memory (asker plan.change) =
    λ i. record {
      last = c.self.inside.times.last;
      rows = (c.in_ok-admitted.ensures.rows ∙ ap (admitted c.self.inside.rows.rows) c.asker.ensures) i;
      ended = c.reserve-2.ensures.ids i;
    } in
    let ends : length c.as_slice.result.now < c.reserve-2.new.self.room = omega (arith, c.in_ok-reserve-2.ensures.room) in
    let more : c.len.result ≡ length plan.needs.items = omega (arith, c.len.ensures, plan.needs.ok.0) in
    record {
      setup = ap (λ (k : Kept). k.setup) c.self.view_is;
      facts = c.reserve.ensures.same.0 ∙ ap (λ (k : Kept). k.facts) c.self.view_is;
      stage = c.reserve.ensures.same.2 ∙ ap (λ (k : Kept). k.stage) c.self.view_is;
      memory = taken ∙ ap (λ (k : Kept). admitted_to k.memory (asker plan.change)) c.self.view_is;
      records = c.in_ok-reserve.ensures.room;
      ends = subst (λ (us : List Id). length us < c.reserve-2.new.self.room) c.as_slice.ensures ends;
      locks = subst (λ (n : ℕ). AskerHasRoom rows (asker plan.change) n) more
          (subst (λ (o : Option Id). AskerHasRoom rows o c.len.result) c.asker.ensures c.in_ok-admitted.ensures.room);
    }
