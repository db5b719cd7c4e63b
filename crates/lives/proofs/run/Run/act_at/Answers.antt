use Rattle.std.proofs.Common.{◌≡◌, ◌≤◌, ◌<◌, length, set, slice_get, Some, refl, sym, ap, ◌∙◌, subst, arith}
use Rattle.std.proofs.lemmas.Option.{slice_get_read}
use Rattle.std.specs.Vec.{with_item}
use Rattle.world.specs.World.{setup_of}
use Rattle.lives.specs.Fleet.{ActsAt}
use Rattle.lives.specs.declared.fleet.Shards.{Shards}
use Rattle.lives.specs.declared.run.Run.{Run}
use Rattle.lives.proofs.Fleets.{acts_there, none_past}
use Rattle.lives.proofs.Replying.{none_acts, shard_comes}
use Rattle.lives.proofs.run.Run.act_at.Goals as goal

pub returns-then-at-len : goal.returns-then-at-len
returns-then-at-len c w h steady =
    let r : Run = c.args.self.now in
    let s = r.shards in
    let over : length s.shards.items ≤ c.args.shard = omega (arith, c.if-at-len.true, c.number-at.ensures.same, c.len.ensures, s.shards.ok.0) in
    none_acts w r r h c.args.shard c.args.call c.args.doing.now (none_past w.config s w.shards c.args.shard h.shards over)

pub returns : goal.returns
returns c w h steady =
    let old : Run = c.args.self.now in
    let s = old.shards in
    let after = c.act-done.new.self in
    let shards : Shards = record { splits = s.splits; shards = with_item s.shards c.number-at.result after } in
    let new : Run = record { sessions = old.sessions; shards = shards; output = c.reply.new.self; time = old.time } in
    let before = c.index_mut.result.now in
    let lt : c.number-at.result < length s.shards.items = omega (arith, c.if-at-len.false, c.len.ensures, s.shards.ok.0) in
    let there : slice_get s.shards.items c.args.shard ≡ Some before =
    ap (λ n. slice_get s.shards.items n) (sym c.number-at.ensures.same)
    ∙ slice_get_read s.shards.items _ c.number-at.result before refl lt c.index_mut.ensures.value in
    shard_comes w old new h c.args.shard c.args.call c.args.doing.now c.act-done.result c.reply.result steady
    (subst (λ bag. ActsAt w.config bag w.shards c.args.shard c.args.call c.args.doing.now new.shards c.act-done.result)
    (c.as_slice-bag.ensures ∙ h.output.bag)
    (acts_there w.config w.shards c.args.shard s shards before after h.shards refl (ap (λ n. set s.shards.items n after) c.number-at.ensures.same) there
    c.as_slice-bag.result.now c.args.call c.args.doing.now c.act-done.result (λ t is. c.act-done.ensures (setup_of w.config c.args.shard) t is)))
    c.reply.ensures refl refl
