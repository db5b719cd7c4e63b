use Rattle.std.proofs.Common.{◌≡◌, ◌≤◌, ◌<◌, length, set, slice_get, Some, refl, sym, ap, ◌∙◌, arith}
use Rattle.std.proofs.lemmas.Option.{slice_get_read}
use Rattle.std.specs.Vec.{with_item}
use Rattle.world.specs.World.{setup_of}
use Rattle.lives.specs.Fleet.{crash_within}
use Rattle.lives.specs.declared.fleet.Shards.{Shards}
use Rattle.lives.proofs.Fleets.{crash_there, nothing_crashes}
use Rattle.lives.proofs.fleet.Shards.crash.Goals as goal

pub returns-then-at-len : goal.returns-then-at-len
returns-then-at-len c config ss h orderly =
    let s = c.args.self.now in
    let over : length s.shards.items ≤ c.args.shard = omega (arith, c.if-at-len.true, c.number-at.ensures.same, c.len.ensures, s.shards.ok.0) in
    nothing_crashes config s ss c.args.shard (crash_within config c.args.bag.now c.args.shard c.args.within c.args.fate) h over

pub returns : goal.returns
returns c config ss h orderly =
    let s = c.args.self.now in
    let new : Shards = record { splits = s.splits; shards = with_item s.shards c.number-at.result c.crash.new.self } in
    let before = c.index_mut.result.now in
    let lt : c.number-at.result < length s.shards.items = omega (arith, c.if-at-len.false, c.len.ensures, s.shards.ok.0) in
    let there : slice_get s.shards.items c.args.shard ≡ Some before =
    ap (λ n. slice_get s.shards.items n) (sym c.number-at.ensures.same)
    ∙ slice_get_read s.shards.items _ c.number-at.result before refl lt c.index_mut.ensures.value in
    crash_there config ss c.args.shard s new before c.crash.new.self h refl
    (ap (λ n. set s.shards.items n c.crash.new.self) c.number-at.ensures.same) there
    (crash_within config c.args.bag.now c.args.shard c.args.within c.args.fate) c.crash.result
    (λ t is k. c.crash.ensures.crashed (setup_of config c.args.shard) t k (λ call doing within. orderly call doing within t is))
    c.crash.ensures.reply c.crash.ensures.memory
