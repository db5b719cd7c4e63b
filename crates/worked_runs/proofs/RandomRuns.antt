-- Long runs whose events are drawn by a plain generator of numbers: reads, writes, deliveries in any order and again, chores,
-- looks, crashes between and within events, failing calls and openings. The verdict on each is yes.
use Rattle.std.specs.List.{list_all}
use Rattle.std.proofs.Common.{refl}
use Rattle.std.specs.Prelude.{ℕ, Bool, ◌&&◌, ◌||◌, ◌++◌, not, nat_le, zero, suc, ◌+◌, ◌-◌, ◌*◌, ◌/◌, ◌%◌, ◌≡◌, true, false, cond, nat_eq, nat_lt}
use Rattle.std.specs.Prelude.{List, [], ◌∷◌, length, map, slice_get, Some, None}
use Rattle.units.specs.Lists.{count, when}
use Rattle.units.specs.LockLaws.{keeps_lock_law, keeps_wait_law}
use Rattle.record.specs.Records.{floor_of, horizon_of, retired_of}
use Rattle.protocol.specs.Rows.{claims}
use Rattle.protocol.specs.Step.{Stepped, Does}
use Rattle.units.specs.Ids.{Id}
use Rattle.units.specs.Keys.{Bytes}
use Rattle.world.specs.Headline.{doing_of}
use Rattle.law.specs.TimeLaws.{installed_before}
use Rattle.record.specs.Verdict.{verdict}
use Rattle.record.specs.Accepted.{Taken, Accepted, taken}
use Rattle.record.specs.Facts.{Facts, facts_of, learn}
use Rattle.world.specs.World.{World, ShardNow, effect, start, Runs, happens, logs_of, counted_lines, setup_of}
use Rattle.record.specs.declared.record.Record.{Record}
use Rattle.world.specs.Lawful.{may_happen, is_in, is_up}
use Rattle.units.specs.declared.line.Line.{Line}
use Rattle.units.specs.declared.line.Verdict.{Verdict}
use Rattle.units.specs.declared.line.Verdict.TheVariants.{Yes}
use Rattle.world.specs.declared.event.Act.{Act}
use Rattle.disk.specs.declared.plan.Fate.{Fate}
use Rattle.world.specs.declared.event.Config.{Config}
use Rattle.world.specs.declared.event.Doing.{Doing}
use Rattle.world.specs.declared.event.Event.{Event}
use Rattle.world.specs.Computing.{computing}
use Rattle.protocol.proofs.Samples.{m, txn, clock}

abbrev pub three : Config
three = record { splits = m ∷ (115 ∷ []) ∷ []; stride = 7 }

-- the next number
abbrev pub next : ℕ → ℕ
next r = (r * 1103515245 + 12345) % 2147483648

-- a fate of n from a number
abbrev pub pick : ℕ → ℕ → ℕ
pick r n = (r / 4096) % n

-- six keys over the three shards
abbrev pub key : ℕ → Bytes
key r = (97 + 5 * pick r 6) ∷ []

-- one of the ids that began last
abbrev pub someone : ℕ → World → Id
someone r w = txn ((length w.clients - 1) - pick r 5)

-- any message, or one of the last
abbrev pub some_message : ℕ → World → ℕ
some_message r w = cond (nat_eq (pick (next r) 4) 0) (pick r (suc (length w.bag))) (length w.bag - suc (pick r 8))

-- the id of some row of a shard
abbrev pub some_row : ℕ → World → ℕ → Id
some_row r w n =
    elim (slice_get w.shards n) [
      | None ↦ someone r w
      | Some s ↦ elim s.state [
        | Runs memory ↦ elim (slice_get memory.rows (pick r (length memory.rows))) [
          | None ↦ someone r w
          | Some q ↦
              q.txn
        ]
        | _ ↦ someone r w
      ]
    ]

-- what a shard may do
abbrev pub doing : ℕ → ℕ → ℕ → World → ℕ → Doing
doing kind r t w n =
    elim kind [
      | zero ↦ Doing.Resume (clock (t - 20) (t + 20))
      | suc k ↦ elim k [
        | zero ↦ Doing.Settle (some_row r w n) (clock (t - 20) (t + 20))
        | suc j ↦ elim j [
          | zero ↦ Doing.Advance (t + 20) (clock (t - 20) (t + 20))
          | suc i ↦ elim i [
            | zero ↦ Doing.Nudge (some_row r w n) (clock (t - 20) (t + 20))
            | suc h ↦ elim h [ zero ↦ Doing.Open | suc g ↦ Doing.Take (some_message r w) (clock (t - 20) (t + 20)) ]
          ]
        ]
      ]
    ]

-- a chore of a shard that runs, or its opening
abbrev pub chore : ℕ → ℕ → ℕ → World → ℕ → Act
chore kind r t w n = cond (is_in w n is_up) (Act.At n (doing (pick r 4) r t w n)) (Act.At n Doing.Open)

abbrev pub fate : ℕ → Fate
fate r = elim (pick r 4) [ zero ↦ Fate.Old | suc k ↦ elim k [ zero ↦ Fate.New | suc j ↦ elim j [ zero ↦ Fate.Filled 165 | suc i ↦ Fate.Filled 55 ] ] ]

-- the act of some kind
abbrev pub act : ℕ → ℕ → ℕ → World → Act
act kind r t w =
    cond (nat_lt kind 6) (Act.Begin (txn (length w.clients)))
    (cond (nat_lt kind 26) (Act.Read (someone r w) (key (next r)))
    (cond (nat_lt kind 48) (Act.Write (someone r w) (key (next r)) (cond (nat_eq (pick r 5) 0) None (Some ((pick r 50) ∷ []))))
    (cond (nat_lt kind 76) (Act.Close (someone r w))
    (cond (nat_lt kind 150) (Act.Deliver (some_message r w) (clock (t - 20) (t + 20)))
    (cond (nat_lt kind 186) (chore (pick (next r) 5) (next (next r)) t w (pick r 3))
    (cond (nat_lt kind 194) (Act.Look (pick r 3) (key (next r)) (t - pick (next r) 400))
    (cond (nat_lt kind 195) (Act.Quit (someone r w))
    (cond (nat_lt kind 197) (Act.CrashIn (pick r 3) (pick (next r) 6) (fate (next (next r))) (pick r 3)
    (doing (pick (next (next r)) 6) r t w (pick r 3)))
    (cond (nat_lt kind 198) (Act.FailIn (pick r 3) (pick (next r) 5) (pick r 3) (doing (pick (next (next r)) 6) r t w (pick r 3)))
    (cond (nat_lt kind 199) (Act.View (pick r 3) (pick (next r) 4) (key (next r)) (t - pick (next r) 60)) (Act.Crash (pick r 3))))))))))))

-- the world after an event, where it may happen
abbrev pub try_event : World → Event → World
try_event w e = cond (may_happen w e) ((happens w e).0) w

-- some events, drawn one after another
abbrev pub drive : (ℕ → ℕ → ℕ → World → Act) → ℕ → ℕ → World → World
drive draw zero r w = w
drive draw (suc n) r w =
    let r1 : ℕ = next r in
    let r2 : ℕ = next r1 in
    let t : ℕ = w.time + pick r2 9 in
    drive draw n (next r2) (try_event w (record { time = t; act = draw (pick r1 200) (next (next r2)) t w }))

abbrev pub begun_world : World
begun_world = try_event (start three) (record { time = 100; act = Act.Begin (txn 0) })

abbrev pub played : ℕ → ℕ → World
played n seed = drive act n seed begun_world

-- how much was acknowledged, read by committed transactions and looked at
abbrev pub tally : List Line → ℕ
tally lines =
    10000 * count (λ l. elim l [ Line.Ack t s n ↦ true | _ ↦ false ]) lines
    + 100 * count (λ l. elim l [ Line.Read t k x ↦ true | _ ↦ false ]) lines
    + count (λ l. elim l [ Line.Look k t x ↦ true | _ ↦ false ]) lines

abbrev pub judged : World → Verdict × ℕ
judged w = (verdict (logs_of w) (counted_lines (logs_of w) w.lines), tally (counted_lines (logs_of w) w.lines))

-- the facts of a log, learnt record by record
abbrev pub learnt : Facts → List Record → Facts
learnt facts [] = facts
learnt facts (r ∷ rs) = learnt (learn facts r) rs

-- what each shard's log is taken for
abbrev pub taken_by : ℕ → List (List Record) → List Taken
taken_by n [] = []
taken_by n (l ∷ ls) = taken (setup_of three n) l ∷ taken_by (suc n) ls

pub the_first_run : judged (played 1000 7919) ≡ (Yes, 40107)
unfolding computing
the_first_run = refl

pub the_first_facts : map (learnt (facts_of [])) (logs_of (played 1000 7919)) ≡ map facts_of (logs_of (played 1000 7919))
unfolding computing
the_first_facts = refl

pub the_first_logs : taken_by 0 (logs_of (played 1000 7919)) ≡ Accepted ∷ Accepted ∷ Accepted ∷ []
unfolding computing
the_first_logs = refl

pub the_second_run : judged (played 1000 15838) ≡ (Yes, 30108)
unfolding computing
the_second_run = refl

pub the_second_facts : map (learnt (facts_of [])) (logs_of (played 1000 15838)) ≡ map facts_of (logs_of (played 1000 15838))
unfolding computing
the_second_facts = refl

pub the_second_logs : taken_by 0 (logs_of (played 1000 15838)) ≡ Accepted ∷ Accepted ∷ Accepted ∷ []
unfolding computing
the_second_logs = refl

pub the_third_run : judged (played 1000 23757) ≡ (Yes, 10004)
unfolding computing
the_third_run = refl

pub the_third_facts : map (learnt (facts_of [])) (logs_of (played 1000 23757)) ≡ map facts_of (logs_of (played 1000 23757))
unfolding computing
the_third_facts = refl

pub the_third_logs : taken_by 0 (logs_of (played 1000 23757)) ≡ Accepted ∷ Accepted ∷ Accepted ∷ []
unfolding computing
the_third_logs = refl

pub the_fourth_run : judged (played 1000 31676) ≡ (Yes, 30107)
unfolding computing
the_fourth_run = refl

pub the_fourth_facts : map (learnt (facts_of [])) (logs_of (played 1000 31676)) ≡ map facts_of (logs_of (played 1000 31676))
unfolding computing
the_fourth_facts = refl

pub the_fourth_logs : taken_by 0 (logs_of (played 1000 31676)) ≡ Accepted ∷ Accepted ∷ Accepted ∷ []
unfolding computing
the_fourth_logs = refl

pub the_fifth_run : judged (played 1000 39595) ≡ (Yes, 50007)
unfolding computing
the_fifth_run = refl

pub the_fifth_facts : map (learnt (facts_of [])) (logs_of (played 1000 39595)) ≡ map facts_of (logs_of (played 1000 39595))
unfolding computing
the_fifth_facts = refl

pub the_fifth_logs : taken_by 0 (logs_of (played 1000 39595)) ≡ Accepted ∷ Accepted ∷ Accepted ∷ []
unfolding computing
the_fifth_logs = refl

pub the_sixth_run : judged (played 1000 47514) ≡ (Yes, 30105)
unfolding computing
the_sixth_run = refl

pub the_sixth_facts : map (learnt (facts_of [])) (logs_of (played 1000 47514)) ≡ map facts_of (logs_of (played 1000 47514))
unfolding computing
the_sixth_facts = refl

pub the_sixth_logs : taken_by 0 (logs_of (played 1000 47514)) ≡ Accepted ∷ Accepted ∷ Accepted ∷ []
unfolding computing
the_sixth_logs = refl

pub the_seventh_run : judged (played 1000 55433) ≡ (Yes, 30000)
unfolding computing
the_seventh_run = refl

pub the_seventh_facts : map (learnt (facts_of [])) (logs_of (played 1000 55433)) ≡ map facts_of (logs_of (played 1000 55433))
unfolding computing
the_seventh_facts = refl

pub the_seventh_logs : taken_by 0 (logs_of (played 1000 55433)) ≡ Accepted ∷ Accepted ∷ Accepted ∷ []
unfolding computing
the_seventh_logs = refl

pub the_eighth_run : judged (played 1000 63352) ≡ (Yes, 10103)
unfolding computing
the_eighth_run = refl

pub the_eighth_facts : map (learnt (facts_of [])) (logs_of (played 1000 63352)) ≡ map facts_of (logs_of (played 1000 63352))
unfolding computing
the_eighth_facts = refl

pub the_eighth_logs : taken_by 0 (logs_of (played 1000 63352)) ≡ Accepted ∷ Accepted ∷ Accepted ∷ []
unfolding computing
the_eighth_logs = refl

-- the lock law and the wait law hold at each running shard, and the greatest timestamp is under the floor
abbrev pub shard_keeps : ShardNow → Bool
shard_keeps s =
    elim s.state [
      | Runs memory ↦ keeps_lock_law (claims memory.rows) && keeps_wait_law (claims memory.rows) && nat_le memory.last (floor_of s.log)
      | _ ↦ true
    ]

-- at each moment of a run
abbrev pub always_kept : ℕ → ℕ → World → Bool
always_kept zero r w = list_all shard_keeps w.shards
always_kept (suc n) r w =
    let r1 : ℕ = next r in
    let r2 : ℕ = next r1 in
    let t : ℕ = w.time + pick r2 9 in
    list_all shard_keeps w.shards && always_kept n (next r2) (try_event w (record { time = t; act = act (pick r1 200) (next (next r2)) t w }))

pub the_first_tables : always_kept 1000 7919 begun_world ≡ true
unfolding computing
the_first_tables = refl

pub the_second_tables : always_kept 1000 15838 begun_world ≡ true
unfolding computing
the_second_tables = refl

-- ---- the law at every moment, also within an event

-- the log is taken by an opening
abbrev pub is_accepted : Taken → Bool
is_accepted Accepted = true
is_accepted _ = false

-- openings take the logs, and the verdict on them and the lines so far is yes
abbrev pub is_consistent : List (List Record) → List Line → Bool
is_consistent logs lines =
    list_all is_accepted (taken_by 0 logs) && elim (verdict logs (counted_lines logs lines)) [ Yes ↦ true | _ ↦ false ]

-- the logs with one more record at a shard
abbrev pub with_record : List (List Record) → ℕ → Record → List (List Record)
with_record [] n r = []
with_record (l ∷ ls) zero r = (l ++ r ∷ []) ∷ ls
with_record (l ∷ ls) (suc n) r = l ∷ with_record ls n r

-- the step of an event is cut short behind its record
abbrev pub cut_short : World → ℕ → Stepped → Bool
cut_short w n (Does (Some r) memory out) = is_consistent (with_record (logs_of w) n r) w.lines
cut_short w n _ = true

abbrev pub consistent_within : World → Event → Bool
consistent_within w e =
    elim (doing_of w e.act) [
      | None ↦ true
      | Some p ↦ elim (slice_get w.shards p.0) [ None ↦ true | Some s ↦ cut_short w p.0 (effect (setup_of three p.0) w.bag s p.1) ]
    ]

-- at each moment the surely kept logs and those that a read gives are consistent, what is installed is past, and so is it
-- within the next event
abbrev pub consistent_now : World → Bool
consistent_now w =
    is_consistent (logs_of w) w.lines && is_consistent (map (λ s. s.log) w.shards) w.lines && list_all (installed_before w.time) w.shards

abbrev pub always_consistent : (ℕ → ℕ → ℕ → World → Act) → ℕ → ℕ → World → Bool
always_consistent draw zero r w = consistent_now w
always_consistent draw (suc n) r w =
    let r1 : ℕ = next r in
    let r2 : ℕ = next r1 in
    let t : ℕ = w.time + pick r2 9 in
    let e : Event = record { time = t; act = draw (pick r1 200) (next (next r2)) t w } in
    consistent_now w && (not (may_happen w e) || consistent_within w e) && always_consistent draw n (next r2) (try_event w e)

pub the_first_moments : always_consistent act 400 7919 begun_world ≡ true
unfolding computing
the_first_moments = refl

pub the_second_moments : always_consistent act 400 31676 begun_world ≡ true
unfolding computing
the_second_moments = refl

-- ---- so where shards forget what they served

-- the acts above, and now and then a horizon at some time before
abbrev pub forgetful : ℕ → ℕ → ℕ → World → Act
forgetful kind r t w =
    cond (nat_eq (pick (next (next (next r))) 15) 0)
    (Act.At (pick r 3) (Doing.Forget (t - pick (next r) 400) (clock (t - 20) (t + 20)))) (act kind r t w)

pub the_forgetful_moments : always_consistent forgetful 400 31676 begun_world ≡ true
unfolding computing
the_forgetful_moments = refl

-- each shard did
pub what_is_forgotten : map (λ log. nat_lt 0 (horizon_of log)) (logs_of (drive forgetful 400 31676 begun_world)) ≡ true ∷ true ∷ true ∷ []
unfolding computing
what_is_forgotten = refl

-- ---- so where shards retire ids

-- the acts above, and now and then all ids below one of those that began last are retired
abbrev pub retiring : ℕ → ℕ → ℕ → World → Act
retiring kind r t w =
    cond (nat_eq (pick (next (next (next r))) 15) 0)
    (Act.At (pick r 3) (Doing.Retire (txn (length w.clients - pick (next r) 20)) (clock (t - 20) (t + 20)))) (act kind r t w)

pub the_retiring_moments : always_consistent retiring 400 31676 begun_world ≡ true
unfolding computing
the_retiring_moments = refl

-- each shard did
pub what_is_retired : map (λ log. when (λ t. true) (retired_of log)) (logs_of (drive retiring 400 31676 begun_world)) ≡ true ∷ true ∷ true ∷ []
unfolding computing
what_is_retired = refl

-- and the facts, learnt record by record, are those of the logs
pub the_retiring_facts : map (learnt (facts_of [])) (logs_of (drive retiring 400 31676 begun_world)) ≡
    map facts_of (logs_of (drive retiring 400 31676 begun_world))
unfolding computing
the_retiring_facts = refl
