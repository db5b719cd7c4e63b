-- The passes on which the law rests, each by itself.
use Rattle.std.proofs.Common.{◌≡◌, inl, inr, ℕ, true, nat_le, List, Option, Some, None, slice_get, refl, sym, ap, subst, ◌∙◌, arith}
use Rattle.std.proofs.lemmas.Bool.{and_parts}
use Rattle.units.specs.Ids.{Id}
use Rattle.units.specs.Keys.{Bytes}
use Rattle.units.specs.Locks.{holds}
use Rattle.units.specs.declared.writes.Write.{Write}
use Rattle.record.specs.Facts.{facts_of}
use Rattle.record.specs.declared.record.Record.{Record}
use Rattle.record.specs.declared.record.Record.TheVariants.{Prepare, Commit, Abort, Outcome}
use Rattle.message.specs.declared.message.Address.{Address}
use Rattle.message.specs.declared.message.Address.TheVariants.{Shard}
use Rattle.message.specs.declared.message.Envelope.{Envelope}
use Rattle.message.specs.declared.message.Input.{Input}
use Rattle.message.specs.declared.message.Message.{Message}
use Rattle.message.specs.declared.message.ReadAnswer.{ReadAnswer}
use Rattle.protocol.specs.Rows.{Memory, Row, find_row}
use Rattle.world.specs.Headline.{MayBeLeft}
use Rattle.world.specs.Lawful.{lawful, may_act}
use Rattle.world.specs.World.{World, View, State, Area, Unsure, Runs, IsStopped, IsDown, setup_of, start, run}
use Rattle.world.specs.declared.event.Config.{Config}
use Rattle.world.specs.declared.event.Event.{Event}
use Rattle.world.proofs.EveryRun.{always_well, is_steady, shard_with}
use Rattle.world.proofs.Sounds.{SoundShard}
use Rattle.law.specs.Among.{IsAmong}
use Rattle.law.specs.Evidence.{Scene, HasOutcome, MessageEvidence, SaidBySome, VoteEvidence, log_at}
use Rattle.law.specs.Passes.{AllAreWhole, CommitsAreAboveArrival, HasItsRecord, HeldReadsAreLatest}
use Rattle.law.specs.Passes.{HeldWhileOpen, IsClaim, IsHeld, OutcomesHavePassed, PutOutIsLogged}
use Rattle.law.specs.Passes.{ShardsAreOfTheirLogs, UndisturbedOnceLogged, WasTaken}
use Rattle.law.proofs.Answering.{open_unrecorded}
use Rattle.law.proofs.Every.{every_run_holds}
use Rattle.law.proofs.Fair.{IsFairInput}
use Rattle.law.proofs.HeldRead.{HeldIs, Reads, IsLogged, WasGone, IsPast}
use Rattle.law.proofs.Instants.{Moment, all_or_nothing, moment}
use Rattle.law.proofs.KeptRead.{IsAllowed, KeptRead, Tells, Told as Right, tells_keeps, tells_opens, told_follows, told_logs, told_opens}
use Rattle.law.proofs.LeftGood.{all_logged, left_is_good, recovered}
use Rattle.law.proofs.LooksHold.{start_kept}
use Rattle.law.proofs.OfLogs.{memory_is, of_its_log}
use Rattle.law.proofs.ReadBefore.{Claims}
use Rattle.law.proofs.ReadsEqual.{asked_fairly}
use Rattle.law.proofs.ReadsHold.{act_allowed, always_spoken, run_keeps_read}
use Rattle.law.proofs.Rests.{every_decision_rests}
use Rattle.law.proofs.Said.{AllOneEpoch, OwnIds, Took, answer_env}
use Rattle.law.proofs.Stamps.{left_stamped}
use Rattle.law.proofs.Undisturbed.{undisturbed}

-- ---- records, rows, versions and statuses

pub shards_are_of_their_logs : ShardsAreOfTheirLogs
shards_are_of_their_logs config es fair n s m there runs = of_its_log (run config es) (always_well config es fair) n s m there runs

-- ---- what was put out

module _ (sc : Scene) (time : sc.world.time ≡ sc.now) where
  passed : (log : List Record) (t : Id) (s : ℕ) → HasOutcome log sc.now t s → HasOutcome log sc.world.time t s
  passed log t s h = subst (λ now. HasOutcome log now t s) (sym time) h

  said : (to : Address) (m : Message) → SaidBySome sc to m → HasItsRecord sc.world m
  said to (Message.Vote v) e = by_vote v.vote e.told
    where
      by_vote : (o : Option ℕ) → (elim o as (λ x. Type 0) [
        | None ↦ Unit {0}
        | Some at ↦ (v.from ≡ e.shard)
            × VoteEvidence (log_at sc.world e.shard) v.txn at
      ]) →
          elim o as (λ x. Type 0) [ None ↦ Unit {0} | Some at ↦ VoteEvidence (log_at sc.world v.from) v.txn at ]
      by_vote None k = tt
      by_vote (Some at) k = subst (λ n. VoteEvidence (log_at sc.world n) v.txn at) (sym k.0) k.1
  said to (Message.Outcome o) e = by_outcome o.outcome e.told
    where
      by_outcome : (x : Option ℕ) → (elim x as (λ y. Type 0) [
        | None ↦ (o.from ≡ e.shard) × IsAmong (log_at sc.world e.shard) (Abort o.txn)
        | Some s ↦ (o.from ≡ e.shard) × HasOutcome (log_at sc.world e.shard) sc.now o.txn s
      ]) →
          elim x as (λ y. Type 0) [
            | None ↦ IsAmong (log_at sc.world o.from) (Abort o.txn)
            | Some s ↦ HasOutcome (log_at sc.world o.from) sc.world.time o.txn s
          ]
      by_outcome None k = subst (λ n. IsAmong (log_at sc.world n) (Abort o.txn)) (sym k.0) k.1
      by_outcome (Some s) k = passed (log_at sc.world o.from) o.txn s (subst (λ n. HasOutcome (log_at sc.world n) sc.now o.txn s) (sym k.0) k.1)
  said to (Message.Done d) e = (e.shard, by_done d.outcome e.told)
    where
      by_done : (x : Option ℕ) → (elim x as (λ y. Type 0) [
        | None ↦ IsAmong (log_at sc.world e.shard) (Abort d.txn)
        | Some s ↦ HasOutcome (log_at sc.world e.shard) sc.now d.txn s
      ]) →
          elim x as (λ y. Type 0) [
            | None ↦ IsAmong (log_at sc.world e.shard) (Abort d.txn)
            | Some s ↦ HasOutcome (log_at sc.world e.shard) sc.world.time d.txn s
          ]
      by_done None k = k
      by_done (Some s) k = passed (log_at sc.world e.shard) d.txn s k
  said to _ e = tt

  has_record : (to : Address) (m : Message) → MessageEvidence sc to m → HasItsRecord sc.world m
  has_record to (Message.Vote v) e = said to (Message.Vote v) e
  has_record to (Message.Outcome o) e = said to (Message.Outcome o) e
  has_record to (Message.Done d) e = said to (Message.Done d) e
  has_record to _ e = tt

pub put_out_is_logged : PutOutIsLogged
put_out_is_logged config es fair e there =
    let r = every_run_holds is_steady config es fair in
    subst (λ (w : World). HasItsRecord w e.message) r.same
    (has_record r.scene r.clock.time e.to e.message (r.holds.messages e (subst (λ (w : World). IsAmong w.bag e) (sym r.same) there)))

-- ---- whole

pub all_are_whole : AllAreWhole
all_are_whole config es logs fair may t = (all_or_nothing config es logs fair may t).0

-- ---- true time

pub outcomes_have_passed : OutcomesHavePassed
outcomes_have_passed config es fair n s there t at logged =
    let r = every_run_holds is_steady config es fair in
    let of = r.holds.shards n s (subst (λ (w : World). slice_get w.shards n ≡ Some s) (sym r.same) there) in
    let time = r.clock.time in
    let same : r.scene.world.time ≡ (run config es).time = ap (λ (w : World). w.time) r.same in
    elim logged [
      | inl sure ↦ let passed_then = (of.records (Outcome t (Some at)) sure).0 in omega (arith, passed_then, time, same)
      | inr unsure ↦ let passed_then = (of.unsure (Outcome t (Some at)) unsure).0 in omega (arith, passed_then, time, same)
    ]

pub commits_are_above_arrival : CommitsAreAboveArrival
commits_are_above_arrival config es fair n s there c logged =
    every_decision_rests config es fair n c (record { shard = s; there = there; is = logged })

-- ---- held reads

with_writes : (r : Record) (t : Id) (at : ℕ) (ks : List Bytes) → IsClaim r t at ks → (ws : List Write) × Claims r t at ks ws
with_writes (Prepare p) t at ks c = (p.writes, (c.0, c.1, c.2, refl))
with_writes (Commit p) t at ks c = (p.writes, (c.0, c.1, c.2, refl))
with_writes _ t at ks c = absurd c

module _ (config : Config) (es : List Event) (ls : List (List Record)) (fair : lawful config es ≡ true) (may : MayBeLeft config es ls) (a : ReadAnswer)
    (x : Option Bytes) (read : WasTaken (run config es) a x) where
  m : Moment (run config es) ls
  m = moment config es ls fair may

  nothing_told : (e : Envelope) → IsAmong (start config).bag e → ⊥
  unfolding start
  nothing_told e none = none

  fairly : (z : Message) → IsAmong (run config es).bag (record { to = Shard a.from; message = z }) → IsFairInput a.txn a.key a.epoch (Input.Deliver z)
  fairly z h =
      let spoken = always_spoken config es fair in
      let own : OwnIds m.scene.world = subst OwnIds (sym m.same) spoken.own in
      let epochs : AllOneEpoch m.scene.world = subst AllOneEpoch (sym m.same) spoken.epochs in
      let took : Took m.scene.world a x = subst (λ (w : World). Took w a x) (sym m.same)
      (record { client = read.client; there = read.there; txn = read.txn; taken = read.taken }) in
      asked_fairly m.scene m.holds own epochs a x took z (subst (λ (v : World). IsAmong v.bag (record { to = Shard a.from; message = z })) (sym m.same) h)

  kept : KeptRead a.from a.txn a.key a.epoch x (run config es)
  unfolding run lawful
  kept =
      run_keeps_read read.to a x read.answer (run config es).bag fairly config (start config) es fair (start_kept config) (λ z h. h)
      (λ h. absurd (nothing_told (answer_env read.to a) h)) read.sent

  right : (log : List Record) → slice_get ls a.from ≡ Some log → Right a.from a.txn a.key a.epoch x (setup_of (run config es).config a.from) log
  right log is =
      left_is_good (IsAllowed a.from a.txn a.key a.epoch x) (Tells a.from a.txn a.key a.epoch x) (Right a.from a.txn a.key a.epoch x)
      (tells_keeps a.from a.txn a.key a.epoch x) (tells_opens a.from a.txn a.key a.epoch x)
      (told_follows a.from a.txn a.key a.epoch x) (told_logs a.from a.txn a.key a.epoch x) (told_opens a.from a.txn a.key a.epoch x) config es ls may kept
      (λ z ok. act_allowed read.to a x read.answer (run config es).bag fairly (run config es) z.time z.act (λ v h. h)
      (and_parts (nat_le (run config es).time z.time) (may_act (run config es) z.time z.act) ok).1) a.from log is

  some_row : (p q : Row) → Some p ≡ Some q → p ≡ q
  some_row p q e = cc

  while_open : HeldWhileOpen (run config es) a x
  unfolding facts_of
  while_open s q row there runs epoch found opened = by_state s.log s.area s.unsure s.state s.views runs epoch (kept a.from s there)
    where
      by_state : (log : List Record) (area : Area) (unsure : Unsure) (st : State) (views : List View) → st ≡ Runs q → (facts_of log).epoch ≡ a.epoch →
          SoundShard (IsAllowed a.from a.txn a.key a.epoch x) (Tells a.from a.txn a.key a.epoch x) (Right a.from a.txn a.key a.epoch x)
          (tells_keeps a.from a.txn a.key a.epoch x) (tells_opens a.from a.txn a.key a.epoch x)
          (told_follows a.from a.txn a.key a.epoch x) (told_logs a.from a.txn a.key a.epoch x) (told_opens a.from a.txn a.key a.epoch x)
          (setup_of (run config es).config a.from) (shard_with log area unsure st views) → IsHeld (shard_with log area unsure st views) row a.key x
      by_state log area unsure (IsStopped z) views is now h = cc
      by_state log area unsure IsDown views is now h = cc
      by_state log area unsure (Runs z) views is now h = by_held (h.state.0.held refl).held
        where
          found_there : find_row z.rows a.txn ≡ Some row
          found_there = ap (λ (y : Memory). find_row y.rows a.txn) (memory_is z q is) ∙ found

          by_held : ((facts_of log).epoch ≡ a.epoch → HeldIs a.txn a.key a.epoch x (facts_of log) z)
              → IsHeld (shard_with log area unsure (Runs z) views) row a.key x
          by_held told = by_case (told now)
            where
              by_case : HeldIs a.txn a.key a.epoch x (facts_of log) z → IsHeld (shard_with log area unsure (Runs z) views) row a.key x
              by_case (Reads r at open_there holding value) = record {
                held = subst (λ (y : Row). holds y.held a.key ≡ true) (some_row r row (sym at ∙ found_there)) holding;
                value = value;
              }
              by_case (IsLogged recorded_there) =
                  absurd (recorded_there (open_unrecorded a.from (facts_of log) z a.txn row h.state.0.well.sound found_there opened))
              by_case (IsPast gone past) = absurd (none_some row (sym gone ∙ found_there))
                where
                  none_some : (y : Row) → None ≡ Some y → ⊥
                  none_some y e = cc
              by_case (WasGone gone ended) = absurd (none_some row (sym gone ∙ found_there))
                where
                  none_some : (y : Row) → None ≡ Some y → ⊥
                  none_some y e = cc

  once_logged : (log : List Record) → slice_get ls a.from ≡ Some log → UndisturbedOnceLogged log a x
  once_logged log is front r back at ks split claim reads =
      let c = with_writes r a.txn at ks claim in
      let stamped = left_stamped config es ls fair may a.from log is in
      record {
        value = (right log is).right refl front r back at ks c.0 split c.1 reads;
        above = (stamped front r back a.txn at ks c.0 split c.1).versions;
        between = undisturbed (setup_of config a.from) log (recovered config es ls fair may a.from log is)
            (all_logged config es ls fair may a.from log is) stamped
            front r back split a.txn at ks c.0 c.1 a.key reads;
      }

pub held_reads_are_latest : HeldReadsAreLatest
held_reads_are_latest config es logs fair may a x read = (while_open config es logs fair may a x read, once_logged config es logs fair may a x read)
