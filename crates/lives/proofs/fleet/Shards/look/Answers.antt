use Rattle.std.proofs.Common.{◌≡◌, ◌≤◌, length, nat_eq, slice_get, Some, Ok, refl, sym, ap, ◌∙◌, subst, arith}
use Rattle.std.proofs.lemmas.Option.{slice_get_read}
use Rattle.units.specs.Keys.{shard_of}
use Rattle.units.specs.declared.fault.Fault.TheVariants.{Stranger}
use Rattle.world.specs.Comes.{Notes}
use Rattle.world.specs.declared.event.Reply.{Reply}
use Rattle.world.specs.World.{setup_of}
use Rattle.lives.specs.Shows.{look_by}
use Rattle.lives.proofs.Fleets.{looks_nowhere, looks_there}
use Rattle.lives.proofs.fleet.Shards.look.Goals as goal

pub returns-in-Ok : goal.returns-in-Ok
returns-in-Ok c w h output =
    let s = c.args.self.now in
    let ss = w.shards in
    let config = w.config in
    let r = c.in-Some.one.now in
    let n = c.number-3.result in
    let found = c.in-Some.ensures.lookup in
    let there : slice_get s.shards.items c.args.shard ≡ Some r =
    ap (λ m. slice_get s.shards.items m) (sym c.number-3.ensures.same) ∙ ap (λ rs. slice_get rs n) (sym c.deref.ensures.value)
    ∙ slice_get_read c.deref.result.now _ n r refl found.3.0 found.1 in
    let place : c.number.result ≡ shard_of config.splits c.args.key.now = c.number.ensures.same ∙ c.shard_of.ensures
    ∙ ap (λ ks. shard_of ks c.args.key.now) h.splits_are in
    let here : nat_eq c.number.result c.number-2.result ≡ nat_eq (shard_of config.splits c.args.key.now) c.args.shard =
    λ i. nat_eq (place i) (c.number-2.ensures.same i) in
    subst (λ x. Notes w c.args.key.now c.args.at x c.note_look.new.self c.note_look.result)
    (looks_there config s ss c.args.shard r (Ok c.in-Ok.reply) (λ t. look_by (setup_of config c.args.shard) t c.args.view c.args.key.now c.args.at) h there
    (λ t is. c.in-Ok.ensures.shown (setup_of config c.args.shard) t is here))
    (c.note_look.ensures w output)

pub returns-in-None : goal.returns-in-None
returns-in-None c w h output =
    let s = c.args.self.now in
    let over : length s.shards.items ≤ c.args.shard = omega (arith, c.number-3.ensures.same, ap length c.deref.ensures.value, c.in-None.ensures.lookup.3) in
    subst (λ x. Notes w c.args.key.now c.args.at x c.args.output.now (Ok (Reply.Refused Stranger)))
    (looks_nowhere w.config s w.shards c.args.shard (λ t. look_by (setup_of w.config c.args.shard) t c.args.view c.args.key.now c.args.at) h over)
    (refl, output)
