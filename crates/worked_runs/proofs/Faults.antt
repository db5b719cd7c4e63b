-- A transaction over three shards, stopped at each device call of each step that logs: it always ends committed, at this timestamp.
use Rattle.std.specs.List.{list_all}
use Rattle.std.proofs.Common.{refl}
use Rattle.std.specs.Prelude.{ℕ, ◌≡◌, Bool, true, false, List, [], ◌∷◌, ◌++◌, length, map, Option, Some}
use Rattle.units.specs.Keys.{Bytes}
use Rattle.record.specs.Verdict.{verdict}
use Rattle.units.specs.declared.line.Verdict.{Verdict}
use Rattle.units.specs.declared.line.Verdict.TheVariants.{Yes}
use Rattle.world.specs.World.{World, run, logs_of, counted_lines, happens}
use Rattle.record.specs.declared.record.Record.{Record}
use Rattle.world.specs.declared.event.Act.{Act}
use Rattle.disk.specs.declared.plan.Fate.{Fate}
use Rattle.world.specs.declared.event.Config.{Config}
use Rattle.world.specs.declared.event.Doing.{Doing}
use Rattle.world.specs.declared.event.Event.{Event}
use Rattle.world.specs.Computing.{computing}
use Rattle.protocol.proofs.Samples.{a, m, one, two, txn, clock}
use Rattle.worked_runs.proofs.Events.{on}
use Rattle.std.specs.Prelude.{zero, suc, ◌+◌, take, nat_lt, nat_eq, ◌&&◌, cond}
use Rattle.units.specs.Lists.{when, follow}
use Rattle.record.specs.Records.{ended_of}

-- the keys `n`, `t` and the split `s`
abbrev pub n_key : Bytes
n_key = 110 ∷ []

abbrev pub t_key : Bytes
t_key = 116 ∷ []

abbrev pub three_shards : Config
three_shards = record { splits = m ∷ (115 ∷ []) ∷ []; stride = 0 }

abbrev pub three_writes : List Event
three_writes =
    on 100 (Act.Begin (txn 1)) ∷ on 100 (Act.Write (txn 1) a (Some one)) ∷ on 100 (Act.Write (txn 1) n_key (Some two))
    ∷ on 100 (Act.Write (txn 1) t_key (Some (51 ∷ []))) ∷ on 100 (Act.Close (txn 1)) ∷ []

-- a delivery to a shard at the middle of a reading of ten
abbrev pub delivered : ℕ → ℕ → Event
delivered at n = on (at + 5) (Act.Deliver n (clock at (at + 10)))

-- the whole run without a fault, up to a place
abbrev pub all_events : List Event
all_events =
    three_writes ++ delivered 100 0 ∷ delivered 200 1 ∷ delivered 210 2 ∷ delivered 220 3 ∷ delivered 230 4
    ∷ on 245 (Act.At 0 (Doing.Settle (txn 1) (clock 240 250)))
    ∷ delivered 250 6 ∷ delivered 260 7 ∷ []

-- the doing at a place of that run, with its shard and its time
pub record Place : Type 0 where
  pub number : ℕ
  pub time : ℕ
  pub shard : ℕ
  pub doing : Doing

abbrev pub taking : ℕ → ℕ → ℕ → ℕ → Place
taking number at n message = record { number = number; time = at + 5; shard = n; doing = Doing.Take message (clock at (at + 10)) }

abbrev pub settling : Place
settling = record { number = 10; time = 245; shard = 0; doing = Doing.Settle (txn 1) (clock 240 250) }

-- all messages are delivered once in order, those put out meanwhile too; the fuel bounds how many
abbrev pub sweep : ℕ → ℕ → ℕ → World → World
sweep zero i at w = w
sweep (suc fuel) i at w =
    let next : World = sweep fuel (suc i) at ((happens w (delivered at i)).0) in cond (nat_lt i (length w.bag)) next w

-- the shard is opened, all is delivered, the coordinator settles, all is delivered again
abbrev pub tail_of : ℕ → World → World
tail_of n w =
    sweep 60 0 500
    ((happens (sweep 60 0 300 ((happens w (on 299 (Act.At n Doing.Open))).0))
    (on 405 (Act.At 0 (Doing.Settle (txn 1) (clock 400 410))))).0)

-- the run up to a place, a fault there, and the tail
abbrev pub with_fault : Place → Act → World
with_fault p act = tail_of p.shard ((happens (run three_shards (take p.number all_events)) (on p.time act)).0)

-- the outcome of the transaction in each log, with the verdict
abbrev pub outcomes : List (List Record) → List (Option ℕ)
outcomes logs = map (λ l. follow (ended_of l (txn 1)) (λ e. e.outcome)) logs

abbrev pub all_at : ℕ → List (Option ℕ) → Bool
all_at s os = list_all (λ o. when (nat_eq s) o) os

abbrev pub is_yes : Verdict → Bool
is_yes Yes = true
is_yes _ = false

unfoldable pub ends_at : ℕ → World → Bool
unfolding computing
ends_at s w = all_at s (outcomes (logs_of w)) && is_yes (verdict (logs_of w) (counted_lines (logs_of w) w.lines))

-- the twelve crashes and the four failing calls at a place. The record is kept where the gate was left open
abbrev pub crash_ends : Place → ℕ → ℕ → ℕ → Bool
crash_ends p kept lost call =
    ends_at lost (with_fault p (Act.CrashIn p.shard call Fate.Old p.shard p.doing))
    && ends_at lost (with_fault p (Act.CrashIn p.shard call (Fate.Filled 55) p.shard p.doing))
    && ends_at (cond (nat_lt call 2) lost kept) (with_fault p (Act.CrashIn p.shard call Fate.New p.shard p.doing))

abbrev pub failure_ends : Place → ℕ → ℕ → ℕ → Bool
failure_ends p kept lost call =
    ends_at (cond (nat_eq call 3) kept lost) (with_fault p (Act.FailIn p.shard call p.shard p.doing))

abbrev pub calls : List ℕ
calls = 0 ∷ 1 ∷ 2 ∷ 3 ∷ []

abbrev pub all_end : Place → ℕ → ℕ → Bool
all_end p kept lost = list_all (crash_ends p kept lost) calls && list_all (failure_ends p kept lost) calls

pub without_a_fault : ends_at 210 (run three_shards all_events) ≡ true
unfolding computing ends_at
without_a_fault = refl

pub the_first_promise : all_end (taking 6 200 1 1) 300 300 ≡ true
unfolding computing ends_at
the_first_promise = refl

pub the_second_promise : all_end (taking 7 210 2 2) 210 300 ≡ true
unfolding computing ends_at
the_second_promise = refl

pub the_decision : all_end (taking 9 230 0 4) 210 311 ≡ true
unfolding computing ends_at
the_decision = refl

pub the_settling : all_end (settling) 210 210 ≡ true
unfolding computing ends_at
the_settling = refl

pub the_first_outcome : all_end (taking 11 250 1 6) 210 210 ≡ true
unfolding computing ends_at
the_first_outcome = refl

pub the_second_outcome : all_end (taking 12 260 2 7) 210 210 ≡ true
unfolding computing ends_at
the_second_outcome = refl
