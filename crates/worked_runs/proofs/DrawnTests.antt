-- What is kept of looks and reads, told as tests and tried at moments of four drawn runs: promises and decisions are above all
-- that ended before them, answers are the latest values while they are held, views show what their logs show.
use Rattle.std.specs.List.{list_any, list_all}
use Rattle.std.proofs.Common.{refl}
use Rattle.std.specs.Prelude.{ℕ, Bool, ◌&&◌, ◌||◌, ◌++◌, not, nat_le, zero, suc, ◌+◌, ◌%◌, ◌≡◌, true, false, nat_eq, nat_lt, List, [], ◌∷◌, length}
use Rattle.std.specs.Prelude.{slice_get, Option, Some, None, filter}
use Rattle.units.specs.Lists.{count, gather, numbered}
use Rattle.units.specs.Ids.{Id, same_id, has_id}
use Rattle.units.specs.Keys.{Bytes, same_key, has_key, shard_of}
use Rattle.units.specs.Locks.{holds}
use Rattle.units.specs.Versions.{latest}
use Rattle.record.specs.Installs.{installs_of}
use Rattle.record.specs.Records.{as_ended, epoch_of}
use Rattle.record.specs.Accepted.{is_new}
use Rattle.record.specs.Verdict.{same_value}
use Rattle.protocol.specs.Sound.{is_open}
use Rattle.protocol.specs.Rows.{find_row}
use Rattle.message.specs.declared.message.Envelope.{Envelope}
use Rattle.message.specs.declared.message.Message.{Message}
use Rattle.message.specs.declared.message.Answer.TheVariants.{Holds}
use Rattle.message.specs.declared.message.Address.TheVariants.{Shard, Session}
use Rattle.world.specs.World.{World, ShardNow, View, Runs, read_log, client_of}
use Rattle.record.specs.declared.record.Record.{Record}
use Rattle.units.specs.declared.line.Line.{Line}
use Rattle.world.specs.declared.event.Event.{Event}
use Rattle.world.specs.Computing.{computing}
use Rattle.worked_runs.proofs.RandomRuns.{begun_world, next, pick, act, try_event, played}

-- each place of a list: what stands before it, and the member
abbrev pub places : {A : Type 0} → List A → List A → List (List A × A)
places front [] = []
places front (x ∷ xs) = (front, x) ∷ places (front ++ x ∷ []) xs

-- a promise's or a decision's id, timestamp and reads
pub record Claimed : Type 0 where
  pub txn : Id
  pub at : ℕ
  pub reads : List Bytes

abbrev pub claimed : Record → Option Claimed
claimed (Record.Prepare p) = Some (record { txn = p.txn; at = p.at; reads = p.reads })
claimed (Record.Commit c) = Some (record { txn = c.txn; at = c.at; reads = c.reads })
claimed (Record.Opened epoch) = None
claimed (Record.Ceiling at) = None
claimed (Record.Horizon at) = None
claimed (Record.Retired below) = None
claimed (Record.Base _ _ _) = None
claimed (Record.Version _) = None
claimed (Record.Settled _ _ _) = None
claimed (Record.Closed _ _ _) = None
claimed (Record.Abort t) = None
claimed (Record.Outcome t outcome) = None

-- the timestamps of the outcomes
abbrev pub ended_at : List Record → List ℕ
ended_at log = gather (λ e. e.outcome) (gather as_ended log)

-- each promise and each decision is above all outcomes before it
abbrev pub is_stamped : List Record → Bool
is_stamped log = list_all (λ p. elim (claimed p.1) [ None ↦ true | Some c ↦ list_all (λ s. nat_lt s c.at) (ended_at p.0) ]) (places [] log)

-- the answer to a read
pub record Told : Type 0 where
  pub from : ℕ
  pub txn : Id
  pub key : Bytes
  pub epoch : ℕ
  pub value : Option Bytes

abbrev pub told_of : Envelope → Option Told
told_of e = elim e.message [
  | Message.ReadAnswer a ↦ elim a.answer [
    | Holds x ↦
        Some (record { from = a.from; txn = a.txn; key = a.key; epoch = a.epoch; value = x })
    | _ ↦ None
  ]
  | _ ↦ None
]

-- where its transaction's promise or decision of that epoch has read the key, the value is the latest before it
abbrev pub reads_right : Told → List Record → Bool
reads_right a log =
    list_all (λ p. elim (claimed p.1) [
      | None ↦ true
      | Some c ↦ not (same_id c.txn a.txn && has_key c.reads a.key && nat_eq
          (epoch_of p.0) a.epoch) || same_value (latest (installs_of p.0) a.key) a.value
    ]) (places [] log)

-- in its epoch: a row without a record holds the key, whose latest value it is; who has no row is ended or recorded
abbrev pub is_held : Told → ShardNow → Bool
is_held a s =
    elim s.state [
      | Runs memory ↦
          not (nat_eq (epoch_of s.log) a.epoch)
          || elim (find_row memory.rows a.txn) [
            | None ↦ has_id memory.ended a.txn || not (is_new s.log a.txn)
            | Some r ↦ not (is_open r.phase) || (holds r.held a.key && same_value (latest (installs_of s.log) a.key) a.value)
          ]
      | _ ↦ true
    ]

abbrev pub told_right : World → Told → Bool
told_right w a =
    nat_eq (shard_of w.config.splits a.key) a.from
    && elim (slice_get w.shards a.from) [
      | None ↦ false
      | Some s ↦ nat_le a.epoch (epoch_of (read_log s)) && reads_right a s.log && reads_right a
          (read_log s) && is_held a s
    ]

-- the request behind a promise or a decision has the epoch in which it is logged
abbrev pub asks : ℕ → Id → List Bytes → ℕ → Envelope → Bool
asks n t ks epoch e =
    elim e.to [
      | Shard m ↦ nat_eq m n && elim e.message [
        | Message.Prepare p ↦ same_id p.txn t && nat_eq p.reads.epoch epoch && list_all (λ k. has_key p.reads.keys k) ks
        | Message.Commit c ↦ same_id c.txn t && nat_eq c.reads.epoch epoch && list_all (λ k. has_key c.reads.keys k) ks
        | _ ↦ false
      ]
      | Session t ↦ false
    ]

abbrev pub was_asked : World → ℕ → List Record → Bool
was_asked w n log =
    list_all (λ p. elim (claimed p.1) [
      | None ↦ true
      | Some c ↦ elim c.reads [
        | [] ↦ true
        | k ∷ ks ↦
            list_any (asks n c.txn (k ∷ ks) (epoch_of p.0)) w.bag
      ]
    ]) (places [] log)

-- a line of a read is of an answer that its session took
abbrev pub line_told : World → Line → Bool
line_told w (Line.Read t k x) =
    list_any (λ a. same_id a.txn t && same_key a.key k && same_value a.value x && elim (client_of w t) [
      | None ↦ false
      | Some c ↦
          list_any (λ q. same_key q.key k && nat_eq q.shard a.from && nat_eq q.epoch a.epoch && same_value q.value x) c.taken
    ]) (gather told_of w.bag)
line_told w _ = true

-- what a shard shows is what each later log shows
abbrev pub view_stands : List Record → View → Bool
view_stands log v =
    list_all (λ p. elim (claimed p) [ None ↦ true | Some c ↦ nat_lt v.safe c.at || list_any (λ e. same_id e.txn c.txn) (gather as_ended log) ]) log
    && nat_eq (length (filter (λ i. nat_le i.at v.safe) (installs_of log))) (length (filter (λ i. nat_le i.at v.safe) v.installs))

abbrev pub shard_right : World → ℕ × ShardNow → Bool
shard_right w p =
    is_stamped (p.1).log && is_stamped (read_log p.1) && was_asked w p.0 (p.1).log && was_asked w p.0 (read_log p.1)
    && list_all (view_stands (p.1).log) (p.1).views && list_all (view_stands (read_log p.1)) (p.1).views

abbrev pub right_now : World → Bool
right_now w = list_all (shard_right w) (numbered 0 w.shards) && list_all (told_right w) (gather told_of w.bag) && list_all (line_told w) w.lines

abbrev pub always_right : ℕ → ℕ → World → Bool
always_right zero r w = right_now w
always_right (suc n) r w =
    let r1 : ℕ = next r in
    let r2 : ℕ = next r1 in
    let t : ℕ = w.time + pick r2 9 in
    let e : Event = record { time = t; act = act (pick r1 200) (next (next r2)) t w } in
    (not (nat_eq (n % 20) 0) || right_now w) && always_right n (next r2) (try_event w e)

pub the_first_stand : always_right 1000 7919 begun_world ≡ true
unfolding computing
the_first_stand = refl

pub the_second_stand : always_right 1000 15838 begun_world ≡ true
unfolding computing
the_second_stand = refl

pub the_fourth_stand : always_right 1000 31676 begun_world ≡ true
unfolding computing
the_fourth_stand = refl

pub the_fifth_stand : always_right 1000 39595 begun_world ≡ true
unfolding computing
the_fifth_stand = refl

-- how many answers and how many lines of reads there are
pub how_many : ◌≡◌ {A = ℕ × ℕ} (
  length (gather told_of (played 1000 39595).bag),
  count (λ l. elim l [ Line.Read t k x ↦ true | _ ↦ false ])
      (played 1000 39595).lines,
) (52, 20)
unfolding computing
how_many = refl
