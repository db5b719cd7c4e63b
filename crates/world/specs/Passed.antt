-- How what a run in the code has put out stands for that of the definitions.
use Rattle.std.specs.Prelude.{◌≡◌, flat_map}
use Rattle.units.specs.Ids.{Id}
use Rattle.world.specs.Among.{is_among}
use Rattle.world.specs.Told.{told_in}
use Rattle.world.specs.World.{World}
use Rattle.world.specs.declared.output.RunOutput.{RunOutput}

-- the same messages, lines and number; whose commit was told is read off the messages
pub record IsOutput (p : RunOutput) (w : World) : Type 0 where
  pub bag : p.bag ≡ w.bag
  pub told : (t : Id) → is_among p.told.keys t ≡ is_among (flat_map told_in w.bag) t
  pub lines : p.lines.items ≡ w.lines
  pub event : p.event ≡ w.event
