-- What a contract sees of a core that gathers a group, and of one that a failing group has stopped.
use Rattle.std.specs.Prelude.{take}
use Rattle.gatelog.specs.Shown.{disk_of, gate_at, next_slot, is_stopped}
use Rattle.shard.specs.Groups.{AheadView, HaltedView}
use Rattle.shard.specs.On.{CoreView}
use Rattle.shard.specs.declared.lead.Lead.{Lead}
use Rattle.shard.specs.declared.ahead.Ahead.{Ahead}
use Rattle.shard.specs.declared.halted.Halted.{Halted}

abbrev pub seen_lead : {D : Type 0} {g : _} → Lead D g → CoreView D
seen_lead lead = record {
  disk = disk_of lead.gate_log;
  gate = gate_at lead.gate_log;
  slot = next_slot lead.gate_log;
  stopped = is_stopped lead.gate_log;
  setup = lead.state.setup;
  facts = lead.state.facts;
  memory = lead.state.memory;
}

abbrev pub seen_ahead : {D : Type 0} {g : _} → Ahead D g → AheadView D
seen_ahead ahead = record {
  core = seen_lead ahead.lead;
  records = ahead.lead.group.items;
  outboxes = ahead.outboxes.items;
  served = ahead.served;
  versions = ahead.versions;
  shown = take ahead.versions ahead.lead.state.facts.installs;
}

abbrev pub seen_halted : {D : Type 0} {g : _} → Halted D g → HaltedView D
seen_halted halted = record {
  disk = disk_of halted.gate_log;
  looks = record {
    setup = halted.state.setup;
    horizon = halted.state.facts.horizon;
    served = halted.served;
    installs = take halted.versions halted.state.facts.installs;
  };
}
