use Rattle.std.proofs.Common.{ap}
use Rattle.gatelog.specs.Groups.{Group}
use Rattle.shard.proofs.Groups.{ahead_begun}
use Rattle.shard.proofs.machine.Machine.lead.Goals as goal

pub invariant_of-result : goal.invariant_of-result
invariant_of-result g c = record {
  running = c.requires.running;
  placed = ap (λ (x : Group). x.gate) c.group-group.ensures;
  stands = c.requires.stands;
  agrees = λ keeps. ahead_begun _ _ _ _ c.requires.running (ap (λ (x : Group). x.items) c.group-group.ensures) (c.args.self.agrees keeps);
  sound = c.args.self.sound;
  showable = c.args.self.showable;
  lasting = c.args.self.lasting;
}

pub returns-clause-none : goal.returns-clause-none
returns-clause-none g c = ap (λ (x : Group). x.items) c.group-group.ensures
