-- A turnover of the core's log keeps its desk in step.
use Rattle.std.proofs.Common.{◌≡◌, ℕ, List, sym, subst}
use Rattle.record.specs.Facts.{Facts}
use Rattle.protocol.specs.Rows.{Memory, safe}
use Rattle.shard.specs.On.{CoreView}
use Rattle.shard.specs.Look.{safe_at}
use Rattle.board.specs.declared.entry.BoardEntry.{BoardEntry}
use Rattle.node.specs.InStep.{InStep}

pub still_in_step : {D : Type 0} (old new : CoreView D) (handed : ℕ) (entries : List BoardEntry) → new.facts ≡ old.facts → new.memory ≡ old.memory
    → InStep old.facts.installs (safe_at old) handed old.facts.horizon entries → InStep new.facts.installs (safe_at new) handed new.facts.horizon entries
still_in_step old new handed entries facts memory step =
    subst (λ (f : Facts). InStep f.installs (safe new.memory) handed f.horizon entries) (sym facts)
    (subst (λ (m : Memory). InStep old.facts.installs (safe m) handed old.facts.horizon entries) (sym memory) step)
