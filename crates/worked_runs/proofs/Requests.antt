-- What decisions rest on, in whole runs: what asked for them, remembered until it is decided. None that counts is a delivery that was refused, one
-- of what is remembered already, or one that a crash undid.
use Rattle.std.proofs.Common.{◌⊎◌, ap, arith, inl, inr, sym, subst, ◌∙◌}
use Rattle.std.specs.Prelude.{ℕ, ◌≡◌, refl, true, List, [], ◌∷◌, ◌++◌, take, drop, slice_get, Option, Some, None}
use Rattle.units.specs.declared.fault.Fault.TheVariants.{Stopped}
use Rattle.record.specs.declared.record.Committed.{Committed}
use Rattle.record.specs.declared.record.Record.{Record}
use Rattle.protocol.specs.Rows.{Memory, Row}
use Rattle.world.specs.Headline.{IsUnsure}
use Rattle.world.specs.World.{ShardNow, State, Runs, IsDown, Nothing, logs_of, read_log, replies_of_run, run}
use Rattle.world.specs.Lawful.{lawful}
use Rattle.world.specs.declared.event.Act.{Act}
use Rattle.world.specs.declared.event.Doing.{Doing}
use Rattle.world.specs.declared.event.Event.{Event}
use Rattle.world.specs.declared.event.Reply.{Reply}
use Rattle.world.specs.Computing.{computing}
use Rattle.protocol.proofs.Samples.{a, one, txn, clock, sets}
use Rattle.law.specs.Among.{IsAmong}
use Rattle.law.specs.Requests.{IsAboveArrival, CommitWanted, RemembersUntil, act_asks, request_for, row_remembers}
use Rattle.worked_runs.proofs.Events.{two_shards, on}
use Rattle.worked_runs.proofs.OneShardRun as one_shard
use Rattle.worked_runs.proofs.TwoShardRun as two_shard

-- ---- decided at once

abbrev at_once : Committed
at_once = record { txn = txn 1; at = 111; parts = 0 ∷ []; reads = []; writes = sets a one ∷ [] }

pub asks : act_asks (run two_shards (take 3 one_shard.events)) (Act.Deliver 0 (clock 100 110)) ≡ Some (request_for 0 at_once 110)
unfolding computing
asks = refl

pub chore_asks_nothing : act_asks (run two_shards (take 4 one_shard.events)) (Act.At 0 (Doing.Settle (txn 1) (clock 105 112))) ≡ None
unfolding computing
chore_asks_nothing = refl

pub rests_at_once : IsAboveArrival two_shards one_shard.events 0 at_once
unfolding computing
rests_at_once = record {
  front = take 3 one_shard.events;
  event = on 105 (Act.Deliver 0 (clock 100 110));
  back = drop 4 one_shard.events;
  listed = refl;
  latest = 110;
  asks = refl;
  until = inl (record { before = _; there = refl; memory = _; runs = refl; after = _; there_now = refl; appended = inl refl });
  honest = omega arith;
  above = omega arith;
}

-- ---- decided with the last vote, two events later

abbrev with_votes : Committed
with_votes = record { txn = txn 2; at = 200; parts = 0 ∷ 1 ∷ []; reads = []; writes = sets a one ∷ [] }

pub rests_on_votes : IsAboveArrival two_shards two_shard.events 0 with_votes
unfolding computing
rests_on_votes = record {
  front = take 4 two_shard.events;
  event = on 105 (Act.Deliver 0 (clock 100 110));
  back = drop 5 two_shard.events;
  listed = refl;
  latest = 110;
  asks = refl;
  until = inr (
    record { shard = _; there = refl; memory = _; runs = refl; row = _; among = inl refl; same = refl },
    inr (
      record { shard = _; there = refl; memory = _; runs = refl; row = _; among = inl refl; same = refl },
      inl (record { before = _; there = refl; memory = _; runs = refl; after = _; there_now = refl; appended = inl refl }),
    ),
  );
  honest = omega arith;
  above = omega arith;
}

-- ---- what does not count

some_same : (x y : ShardNow) → Some x ≡ Some y → x ≡ y
some_same x y e = cc

-- ---- refused first, by a shard that is down

abbrev pub events : List Event
events =
    on 100 (Act.Begin (txn 1)) ∷ on 100 (Act.Write (txn 1) a (Some one)) ∷ on 100 (Act.Close (txn 1)) ∷ on 101 (Act.Crash 0)
    ∷ on 102 (Act.Deliver 0 (clock 100 104)) ∷ on 104 (Act.At 0 Doing.Open) ∷ on 105 (Act.Deliver 0 (clock 100 110))
    ∷ []

pub is_lawful : lawful two_shards events ≡ true
unfolding computing
is_lawful = refl

pub replies_are : replies_of_run two_shards events
    ≡ Reply.Done ∷ Reply.Done ∷ Reply.Done ∷ Reply.Crashed ∷ Reply.Refused Stopped ∷ Reply.Done ∷ Reply.Done ∷ []
unfolding computing
replies_are = refl

pub logs_are : logs_of (run two_shards events)
    ≡ (Record.Opened 1 ∷ Record.Opened 2 ∷ Record.Commit at_once ∷ []) ∷ (Record.Opened 1 ∷ []) ∷ []
unfolding computing
logs_are = refl

-- both deliveries ask for it
pub first_asks : act_asks (run two_shards (take 4 events)) (Act.Deliver 0 (clock 100 104)) ≡ Some (request_for 0 at_once 104)
unfolding computing
first_asks = refl

pub second_asks : act_asks (run two_shards (take 6 events)) (Act.Deliver 0 (clock 100 110)) ≡ Some (request_for 0 at_once 110)
unfolding computing
second_asks = refl

-- a shard that is down remembers nothing, and nothing comes to its log
down_runs : (o : Option ShardNow) (d : ShardNow) → o ≡ Some d → d.state ≡ IsDown → (s : ShardNow) → o ≡ Some s → (m : Memory) → s.state ≡ Runs m → ⊥
down_runs o d is down s there m runs = apart (d.state) down (subst (λ z. z.state ≡ Runs m) (some_same s d (sym there ∙ is)) runs)
  where
    apart : (st : State) → st ≡ IsDown → st ≡ Runs m → ⊥
    apart st e f = cc

-- and the first is not what the decision rests on
pub first_counts_not : RemembersUntil (request_for 0 at_once 104) (Record.Commit at_once) (run two_shards (take 4 events)) (drop 4 events) → ⊥
unfolding computing
first_counts_not (inl h) = down_runs _ _ refl refl h.before h.there h.memory h.runs
first_counts_not (inr h) = down_runs _ _ refl refl h.0.shard h.0.there h.0.memory h.0.runs

pub rests_on_the_second : IsAboveArrival two_shards events 0 at_once
unfolding computing
rests_on_the_second = record {
  front = take 6 events;
  event = on 105 (Act.Deliver 0 (clock 100 110));
  back = [];
  listed = refl;
  latest = 110;
  asks = refl;
  until = inl (record { before = _; there = refl; memory = _; runs = refl; after = _; there_now = refl; appended = inl refl });
  honest = omega arith;
  above = omega arith;
}

-- ---- delivered again, while the votes are awaited

abbrev pub twice : List Event
twice = take 5 two_shard.events ++ on 105 (Act.Deliver 0 (clock 100 120)) ∷ drop 5 two_shard.events

pub twice_is_lawful : lawful two_shards twice ≡ true
unfolding computing
twice_is_lawful = refl

pub same_logs : logs_of (run two_shards twice) ≡ two_shard.logs
unfolding computing
same_logs = refl

pub again_asks : act_asks (run two_shards (take 5 twice)) (Act.Deliver 0 (clock 100 120)) ≡ Some (request_for 0 with_votes 120)
unfolding computing
again_asks = refl

-- the log is as it was
nothing_came : (o p : Option ShardNow) (r c : Record) (q d : ShardNow) → o ≡ Some q → read_log q ≡ r ∷ [] → p ≡ Some d → d.log ≡ r ∷ [] → d.unsure ≡ Nothing →
    (s z : ShardNow) → o ≡ Some s → p ≡ Some z → (z.log ≡ read_log s ++ c ∷ []) ⊎ ((z.log ≡ read_log s) × IsUnsure z.unsure c) → ⊥
nothing_came o p r c q d is short now short_now sure s z there there_now (inl longer) =
    apart (sym short_now ∙ subst (λ x. x.log ≡ r ∷ c ∷ []) (some_same z d (sym there_now ∙ now))
    (longer ∙ subst (λ x. read_log x ++ c ∷ [] ≡ r ∷ c ∷ []) (some_same q s (sym is ∙ there)) (ap (λ l. l ++ c ∷ []) short)))
  where
    apart : r ∷ [] ≡ r ∷ c ∷ [] → ⊥
    apart e = cc
nothing_came o p r c q d is short now short_now sure s z there there_now (inr unsure) =
    subst (λ u. IsUnsure u c) sure (subst (λ x. IsUnsure x.unsure c) (some_same z d (sym there_now ∙ now)) unsure.1)

-- the one row remembers what asked first
other_row : (p : Option ShardNow) (d : ShardNow) (m : Memory) (only : Row) → p ≡ Some d → d.state ≡ Runs m → m.rows ≡ only ∷ [] →
    row_remembers 0 only ≡ Some (request_for 0 with_votes 110) → (s : ShardNow) (n : Memory) (row : Row) → p ≡ Some s → s.state ≡ Runs n →
    IsAmong n.rows row → row_remembers 0 row ≡ Some (request_for 0 with_votes 120) → ⊥
other_row p d m only is runs alone first s n row there runs_now among second =
    by_place (subst (λ l. IsAmong l row) alone (subst (λ x. IsAmong x.rows row) (same_memory n m
    (sym runs_now ∙ subst (λ x. x.state ≡ Runs m) (some_same d s (sym is ∙ there)) runs)) among))
  where
    same_memory : (x y : Memory) → Runs x ≡ Runs y → x ≡ y
    same_memory x y e = cc

    apart : Some (request_for 0 with_votes 110) ≡ Some (request_for 0 with_votes 120) → ⊥
    apart e = let same : 110 ≡ 120 = ap (λ (o : Option CommitWanted). elim o as (λ x. ℕ) [ None ↦ 0 | Some x ↦ x.latest ]) e in absurd (omega (arith, same))

    by_place : IsAmong (only ∷ []) row → ⊥
    by_place (inl same) = apart (sym first ∙ ap (row_remembers 0) same ∙ second)
    by_place (inr none) = none

pub again_counts_not : RemembersUntil (request_for 0 with_votes 120) (Record.Commit with_votes) (run two_shards (take 5 twice)) (drop 5 twice) → ⊥
unfolding computing
again_counts_not (inl h) = nothing_came _ _ _ _ _ _ refl refl refl refl refl h.before h.after h.there h.there_now h.appended
again_counts_not (inr h) = other_row _ _ _ _ refl refl refl refl h.0.shard h.0.memory h.0.row h.0.there h.0.runs h.0.among h.0.same

-- ---- undone by a crash, and delivered again

abbrev pub undone : List Event
undone = take 5 two_shard.events
    ++ on 105 (Act.Crash 0) ∷ on 105 (Act.At 0 Doing.Open) ∷ on 105 (Act.Deliver 0 (clock 100 130)) ∷ drop 5 two_shard.events

pub undone_is_lawful : lawful two_shards undone ≡ true
unfolding computing
undone_is_lawful = refl

pub undone_log : slice_get (logs_of (run two_shards undone)) 0
    ≡ Some (Record.Opened 1 ∷ Record.Opened 2 ∷ Record.Commit with_votes ∷ Record.Outcome (txn 2) (Some 200) ∷ [])
unfolding computing
undone_log = refl

pub undone_asks : act_asks (run two_shards (take 4 undone)) (Act.Deliver 0 (clock 100 110)) ≡ Some (request_for 0 with_votes 110)
unfolding computing
undone_asks = refl

pub undone_counts_not : RemembersUntil (request_for 0 with_votes 110) (Record.Commit with_votes) (run two_shards (take 4 undone)) (drop 4 undone) → ⊥
unfolding computing
undone_counts_not (inl h) = nothing_came _ _ _ _ _ _ refl refl refl refl refl h.before h.after h.there h.there_now h.appended
undone_counts_not (inr (k, inl h)) = nothing_came _ _ _ _ _ _ refl refl refl refl refl h.before h.after h.there h.there_now h.appended
undone_counts_not (inr (k, inr h)) = down_runs _ _ refl refl h.0.shard h.0.there h.0.memory h.0.runs

pub rests_on_the_next : IsAboveArrival two_shards undone 0 with_votes
unfolding computing
rests_on_the_next = record {
  front = take 7 undone;
  event = on 105 (Act.Deliver 0 (clock 100 130));
  back = drop 8 undone;
  listed = refl;
  latest = 130;
  asks = refl;
  until = inr (
    record { shard = _; there = refl; memory = _; runs = refl; row = _; among = inl refl; same = refl },
    inr (
      record { shard = _; there = refl; memory = _; runs = refl; row = _; among = inl refl; same = refl },
      inl (record { before = _; there = refl; memory = _; runs = refl; after = _; there_now = refl; appended = inl refl }),
    ),
  );
  honest = omega arith;
  above = omega arith;
}
