use Rattle.std.proofs.Common.{◌∙◌, ◌&&◌, ◌+◌, ap, sym, drop, arith, subst, List}
use Rattle.std.proofs.lemmas.List.{at_drop_all}
use Rattle.units.specs.ById.{IsById}
use Rattle.units.specs.Locks.{exclusive}
use Rattle.units.specs.declared.writes.Write.{Write}
use Rattle.protocol.specs.Plan.{opens}
use Rattle.memory.specs.Kept.{Kept, start_of}
use Rattle.memory.proofs.States.{opens_next, opens_no_writes}
use Rattle.memory.proofs.state.State.opens_writes.Goals as goal

pub returns-then-not-opens : goal.returns-then-not-opens
returns-then-not-opens c =
    let b = start_of c.args.self.now in
    let t = c.args.txn in
    let ws = c.as_slice-write-items.result.now in
    let i = c.loop-write.write-index in
    let up = subst (λ (k : Kept). IsById (λ r. r.txn) k.memory.rows) c.self.view_is c.laws.ensures.order in
    ap (λ a. a && opens b t (exclusive (drop (i + 1) ws))) (sym c.if-not-opens.true ∙ c.opens.ensures)
    ∙ sym (opens_next b t ws i c.write-item.result up c.loop-write-test.true c.write-item.is)
    ∙ sym c.loop-write.invariant
    ∙ ap (λ (vs : List Write). opens b t (exclusive vs)) c.as_slice-write-items.ensures.same

pub loop-write-preserved : goal.loop-write-preserved
loop-write-preserved c =
    let b = start_of c.args.self.now in
    let t = c.args.txn in
    let ws = c.as_slice-write-items.result.now in
    let i = c.loop-write.write-index in
    let up = subst (λ (k : Kept). IsById (λ r. r.txn) k.memory.rows) c.self.view_is c.laws.ensures.order in
    c.loop-write.invariant
    ∙ opens_next b t ws i c.write-item.result up c.loop-write-test.true c.write-item.is
    ∙ ap (λ a. a && opens b t (exclusive (drop (i + 1) ws))) (sym c.opens.ensures ∙ c.if-not-opens.false)

pub returns : goal.returns
returns c =
    let b = start_of c.args.self.now in
    let t = c.args.txn in
    let ws = c.as_slice-write-items.result.now in
    let up = subst (λ (k : Kept). IsById (λ r. r.txn) k.memory.rows) c.self.view_is c.laws.ensures.order in
    sym (opens_no_writes b t up)
    ∙ sym (at_drop_all (λ (vs : List Write). opens b t (exclusive vs)) ws c.loop-write.write-index (omega arith))
    ∙ sym c.loop-write.invariant
    ∙ ap (λ (vs : List Write). opens b t (exclusive vs)) c.as_slice-write-items.ensures.same
