use Rattle.std.proofs.Common.{◌≡◌, ◌≤◌, not, length, slice_get, Some, refl, sym, ap, ◌∙◌, arith}
use Rattle.std.proofs.lemmas.Option.{slice_get_read}
use Rattle.world.specs.World.{setup_of}
use Rattle.lives.proofs.Fleets.{known_there, known_nowhere}
use Rattle.lives.proofs.fleet.Shards.known.Goals as goal

pub returns-in-Some : goal.returns-in-Some
returns-in-Some c config ss h =
    let s = c.args.self.now in
    let r = c.in-Some.one.now in
    let found = c.in-Some.ensures.lookup in
    let there : slice_get s.shards.items c.args.shard ≡ Some r =
    ap (λ n. slice_get s.shards.items n) (sym c.number.ensures.same) ∙ ap (λ rs. slice_get rs c.number.result) (sym c.deref.ensures.value)
    ∙ slice_get_read c.deref.result.now _ c.number.result r refl found.3.0 found.1 in
    let setup = setup_of config c.args.shard in
    known_there config s ss c.args.shard r (not c.is_up.result) (not c.is_down.result) c.views.result h there
    (λ t is. (ap not (c.is_up.ensures setup t is), ap not (c.is_down.ensures setup t is), c.views.ensures setup t is))

pub returns-in-None : goal.returns-in-None
returns-in-None c config ss h =
    let s = c.args.self.now in
    let over : length s.shards.items ≤ c.args.shard = omega (arith, c.number.ensures.same, ap length c.deref.ensures.value, c.in-None.ensures.lookup.3) in
    known_nowhere config s ss c.args.shard h over
