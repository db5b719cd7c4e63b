-- What a contract sees of a core.
use Rattle.std.specs.Prelude.{Option}
use Rattle.gatelog.specs.Shown.{disk_of, gate_at, next_slot, is_stopped}
use Rattle.book.specs.Books.{BookView}
use Rattle.shard.specs.declared.machine.Machine.{Machine}
use Rattle.shard.specs.declared.shard_core.Core.{Core}
use Rattle.shard.specs.On.{CoreView}
use Rattle.shard.specs.declared.begun.Begun.{Begun}

-- its disk, its log's end, its log's next free slot, whether it is stopped, its setup, its facts and its memory
abbrev pub seen_machine : {D : Type 0} {g : _} → Machine D g → CoreView D
seen_machine machine = record {
  disk = disk_of machine.gate_log;
  gate = gate_at machine.gate_log;
  slot = next_slot machine.gate_log;
  stopped = is_stopped machine.gate_log;
  setup = machine.state.setup;
  facts = machine.state.facts;
  memory = machine.state.memory;
}

abbrev pub seen : {D : Type 0} {g : _} → Core D g → CoreView D
seen core = seen_machine core.machine

-- its book, where it keeps one
abbrev pub book_of : {D : Type 0} {g : _} → Core D g → Option BookView
book_of core = core.book

-- where its log began when it was opened
abbrev pub begun_of : {D : Type 0} {g : _} → Core D g → Begun
begun_of core = core.begun
