use Rattle.std.proofs.Common.{◌≡◌, ◌∙◌, ℕ, true, false, List, [], None, Err, ap, refl, sym, subst}
use Rattle.units.specs.Ids.{Id}
use Rattle.units.specs.declared.fault.Fault.{Fault}
use Rattle.protocol.specs.Rows.{WaitsRead}
use Rattle.protocol.specs.Plan.{in_way, opens, puts}
use Rattle.protocol.specs.Cells.{to_read}
use Rattle.memory.specs.Kept.{start_of}
use Rattle.memory.specs.Standings.{MakesPlan}
use Rattle.memory.proofs.States.{planned-by, refused-by}
use Rattle.participant.specs.ByMessage.{MakesGrantedRead}
use Rattle.participant.proofs.Planned.{read_crowded, read_roomy, read_granted, read_shut}
use Rattle.participant.proofs.reads.read_now.Goals as goal

pub returns-then-is_crowded-clause-planned : goal.returns-then-is_crowded-clause-planned
returns-then-is_crowded-clause-planned c =
    refused-by _ _ (read_crowded (start_of c.args.state.now) c.args.txn c.args.key.now (sym c.is_crowded.ensures.crowded ∙ c.if-is_crowded.true))

pub returns-in_default-clause-planned : goal.returns-in_default-clause-planned
returns-in_default-clause-planned c =
    let k = c.args.state.now in
    planned-by k _ _ (Err Fault.Memory)
    (read_roomy (start_of k) c.args.txn c.args.key.now (sym c.is_crowded.ensures.crowded ∙ c.if-is_crowded.false)) tt refl

pub returns-in_default-in_way-clause-planned : goal.returns-in_default-in_way-clause-planned
returns-in_default-in_way-clause-planned c =
    let k = c.args.state.now in
    planned-by k _ _ (Err Fault.Memory)
    (read_roomy (start_of k) c.args.txn c.args.key.now (sym c.is_crowded.ensures.crowded ∙ c.if-is_crowded.false)) tt refl

pub returns-then-opens-clause-planned : goal.returns-then-opens-clause-planned
returns-then-opens-clause-planned c =
    let k = c.args.state.now in
    let t = c.args.txn in
    let key = c.args.key.now in
    let asked : in_way (start_of k) t c.deref.result.now ≡ in_way (start_of k) t (to_read key) =
    ap (in_way (start_of k) t) (c.deref.ensures.value ∙ c.in-Ok.ensures.lock) in
    let free : opens (start_of k) t (to_read key) ≡ true =
    ap (opens (start_of k) t) (sym (c.deref-2.ensures.value ∙ c.in-Ok.ensures.lock)) ∙ sym c.opens.ensures ∙ c.if-opens.true in
    planned-by k _ _ c.grant.result (read_granted (start_of k) t key (sym c.is_crowded.ensures.crowded ∙ c.if-is_crowded.false) free)
    (subst (λ (ended : List Id). MakesGrantedRead k ended t key c.grant.result) (c.in-Ok-in_way.ensures.ids ∙ asked) c.grant.ensures.plan)
    c.grant.ensures.memory

pub returns-clause-planned : goal.returns-clause-planned
returns-clause-planned c =
    let k = c.args.state.now in
    let t = c.args.txn in
    let key = c.args.key.now in
    let asked : in_way (start_of k) t c.deref.result.now ≡ in_way (start_of k) t (to_read key) =
    ap (in_way (start_of k) t) (c.deref.ensures.value ∙ c.in-Ok.ensures.lock) in
    let shut : opens (start_of k) t (to_read key) ≡ false =
    ap (opens (start_of k) t) (sym (c.deref-2.ensures.value ∙ c.in-Ok.ensures.lock)) ∙ sym c.opens.ensures ∙ c.if-opens.false in
    planned-by k _ _ c.puts.result (read_shut (start_of k) t key (sym c.is_crowded.ensures.crowded ∙ c.if-is_crowded.false) shut)
    (subst (λ (ended : List Id). MakesPlan k (puts (start_of k) ended t [] (WaitsRead key) None k.memory.last []) c.puts.result)
    (c.in-Ok-in_way.ensures.ids ∙ asked)
    (subst (λ (last : ℕ). MakesPlan k (puts (start_of k) c.in-Ok-in_way.wounded t [] (WaitsRead key) None last []) c.puts.result) c.last.ensures
    c.puts.ensures.plan)) c.puts.ensures.memory
