-- The memory of a running shard is that of its log.
use Rattle.std.proofs.Common.{◌≡◌, ℕ, List, Some, slice_get, refl, subst}
use Rattle.record.specs.Facts.{facts_of}
use Rattle.record.specs.declared.record.Record.{Record}
use Rattle.record.proofs.Statuses.{recorded_is}
use Rattle.protocol.specs.Rows.{Memory}
use Rattle.protocol.specs.Sound.{IsSound}
use Rattle.world.specs.World.{World, ShardNow, View, State, Area, Unsure, Runs, IsStopped, IsDown, setup_of}
use Rattle.world.proofs.EveryRun.{WellShard, WellWorld, shard_with}
use Rattle.law.specs.Passes.{IsOfItsLog}

pub memory_is : (a b : Memory) → Runs a ≡ Runs b → a ≡ b
memory_is a b e = cc

pub of_its_log : (w : World) → WellWorld w → (n : ℕ) (s : ShardNow) (m : Memory) → slice_get w.shards n ≡ Some s → s.state ≡ Runs m → IsOfItsLog n s m
unfolding facts_of
of_its_log w well n s m there runs = by_state s.log s.area s.unsure s.state s.views runs (well n s there)
  where
    by_state : (log : List Record) (area : Area) (unsure : Unsure) (st : State) (views : List View) → st ≡ Runs m →
        WellShard (setup_of w.config n) (shard_with log area unsure st views) → IsOfItsLog n (shard_with log area unsure st views) m
    by_state log area unsure (Runs q) views is k = record {
      sound = subst (IsSound n (facts_of log)) (memory_is q m is) k.state.0.sound;
      statuses = λ t. recorded_is log t;
      versions = refl;
      surely = k.state.1;
    }
    by_state log area unsure (IsStopped q) views is k = cc
    by_state log area unsure IsDown views is k = cc
