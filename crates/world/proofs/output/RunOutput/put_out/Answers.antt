use Rattle.std.proofs.Common.{◌++◌, ◌||◌, refl, ◌∙◌, flat_map}
use Rattle.world.specs.Among.{is_among}
use Rattle.world.specs.Told.{ack_in, told_in}
use Rattle.world.proofs.Puts.{on_ok, puts}
use Rattle.world.proofs.output.RunOutput.put_out.Goals as goal

pub returns-in-Ok-note_told-clause-put : goal.returns-in-Ok-note_told-clause-put
returns-in-Ok-note_told-clause-put c w h =
    let p = c.args.self.now in
    on_ok c.put_all.result c.put_all.ensures.all
    (λ all. puts p w (record { bag = c.put_all.new.bag; told = c.note_told.new.told; lines = c.push_acknowledged.new.lines; event = p.event }) c.args.out h all
    (λ t. c.in-Ok-note_told.ensures.told t ∙ (λ i. is_among p.told.keys t || is_among (flat_map told_in (c.as_slice-in-Ok.ensures i)) t))
    (c.in-Ok.ensures.lines ∙ (λ i. p.lines.items ++ flat_map (ack_in p.told.keys p.event) (c.as_slice.ensures i))) refl)
