-- Every act is made of a few kinds of changes. What holds after each kind holds after each act.
use Rattle.std.proofs.Common.{◌≡◌, ℕ, inl, Bool, true, false, cond, not, ◌&&◌, nat_lt, List, [], ◌∷◌, ◌++◌, Option, Some, None, slice_get, refl}
use Rattle.units.specs.Ids.{Id, same_id}
use Rattle.units.specs.Keys.{Bytes}
use Rattle.units.specs.declared.fault.Fault.{Fault}
use Rattle.units.specs.declared.fault.Fault.TheVariants.{Device, Stranger}
use Rattle.units.specs.declared.setup.Setup.{Setup}
use Rattle.units.specs.declared.writes.Write.{Write}
use Rattle.units.proofs.ByIdLaws.{first_passes}
use Rattle.units.proofs.IdLaws.{same_id-is}
use Rattle.truetime.specs.Interval.{Interval}
use Rattle.disk.specs.declared.plan.Fate.{Fate}
use Rattle.record.specs.declared.record.Record.{Record}
use Rattle.message.specs.declared.message.Address.{Address}
use Rattle.message.specs.declared.message.Address.TheVariants.{Shard, Session}
use Rattle.message.specs.declared.message.Envelope.{Envelope}
use Rattle.message.specs.declared.message.Message.{Message}
use Rattle.message.specs.declared.message.ReadAnswer.{ReadAnswer}
use Rattle.protocol.specs.Rows.{Memory}
use Rattle.protocol.specs.Step.{Stepped, Refuses, Does}
use Rattle.session.specs.Sessions.{Client, Stage, IsOpen, IsClosing, IsOver, Moved, reads, buffers, closes, gives_up, finishes}
use Rattle.world.specs.Lawful.{may_act, has_begun}
use Rattle.gatelog.specs.Gates.{is_left}
use Rattle.world.specs.World.{World, After, ShardNow, State, Runs, IsStopped, IsDown, Area, read_area, read_log, setup_of, effect, finished, crashed}
use Rattle.world.specs.World.{crashed_in}
use Rattle.world.specs.World.{area_left_in, left_area, left_by_refused, left_log, turns, with_records, failed_in, failed_turn, set_shard, client_of}
use Rattle.world.specs.World.{put_out, moved, refused, if_open, if_not_over, if_closing}
use Rattle.world.specs.World.{if_hearing, answered, to_session, refused_doing, did, did_with_failure, at_shard, do_at, deliver_to, look_noted}
use Rattle.world.specs.World.{look_shard, look_at_view, begin, acts}
use Rattle.world.specs.declared.event.Act.{Act}
use Rattle.world.specs.declared.event.Doing.{Doing}
use Rattle.world.specs.declared.event.Reply.{Reply}
use Rattle.law.specs.Among.{IsAmong}
use Rattle.law.proofs.Areas.{IsLeft, left_may_leave, none_left, read_may_leave, some_left}
use Rattle.law.proofs.Doings.{get_among}
use Rattle.law.proofs.Recorded.{among_first}

-- the steps of a session that its client takes, and its end
pub data Step : Type 0 where
  Reads : Bytes → Step
  Buffers : Write → Step
  Closes : Step
  GivesUp : Step
  Finishes : Step

abbrev pub step_of : List Bytes → Step → Client → Moved
step_of splits (Reads k) = reads splits k
step_of splits (Buffers v) = buffers v
step_of splits Closes = closes splits
step_of splits GivesUp = gives_up splits
step_of splits Finishes = finishes

module _ (w : World) (C : World → Type 0) (same : C w)
    (begins : (t : Id) → not (has_begun w t) ≡ true → C (begin t w))
    (steps : (c : Client) (s : Step) → IsAmong w.clients c → C (moved w (step_of w.config.splits s c)).0)
    (hears : (c : Client) (to : Address) (a : ReadAnswer) → IsAmong w.clients c → c.txn ≡ a.txn →
    IsAmong w.bag (record { to = to; message = Message.ReadAnswer a }) → C (answered w c a).0)
    (crashes : (n : ℕ) (s : ShardNow) → slice_get w.shards n ≡ Some s → (log : List Record) (area : Area) → IsLeft w n s log area →
    C (set_shard n (crashed s log area) w))
    (does : (n : ℕ) (s : ShardNow) → slice_get w.shards n ≡ Some s → (doing : Doing) (logged : Option Record) (memory : Memory) (out : List Envelope) →
    effect (setup_of w.config n) w.bag s doing ≡ Does logged memory out → C (put_out out (set_shard n (finished s doing logged memory) w)))
    (fails : (n : ℕ) (s : ShardNow) → slice_get w.shards n ≡ Some s → (call : ℕ) (doing : Doing) (r : Record) (memory : Memory) (out : List Envelope) →
    effect (setup_of w.config n) w.bag s doing ≡ Does (Some r) memory out → C (set_shard n (failed_in s call r) w))
    (turn_fails : (n : ℕ) (s : ShardNow) → slice_get w.shards n ≡ Some s → (call : ℕ) (doing : Doing) (memory : Memory) (out : List Envelope) →
    turns doing ≡ true → effect (setup_of w.config n) w.bag s doing ≡ Does None memory out → C (set_shard n (failed_turn s call) w))
    (looks : (n : ℕ) (s : ShardNow) → slice_get w.shards n ≡ Some s → (k : Bytes) (at : ℕ) → C (look_noted w k at (look_shard (setup_of w.config n) s k at)).0)
    (views : (n : ℕ) (s : ShardNow) → slice_get w.shards n ≡ Some s → (i : ℕ) (k : Bytes) (at : ℕ) →
    C (look_noted w k at (look_at_view (setup_of w.config n) (slice_get s.views i) k at)).0) where
  -- ---- sessions

  there : (t : Id) (c : Client) → client_of w t ≡ Some c → IsAmong w.clients c
  there t c e = among_first (λ (d : Client). same_id d.txn t) w.clients c e

  open_goes : (o : Option Client) (s : Step) → ((c : Client) → o ≡ Some c → IsAmong w.clients c) → C (if_open w o (step_of w.config.splits s)).0
  open_goes None s among = same
  open_goes (Some c) s among = by_stage c.stage
    where
      by_stage : (z : Stage) → C ((elim z as (λ x. After) [ IsOpen ↦ moved w (step_of w.config.splits s c) | _ ↦ refused w Stranger ]).0)
      by_stage IsOpen = steps c s (among c refl)
      by_stage IsClosing = same
      by_stage IsOver = same

  not_over_goes : (o : Option Client) (s : Step) → ((c : Client) → o ≡ Some c → IsAmong w.clients c) → C (if_not_over w o (step_of w.config.splits s)).0
  not_over_goes None s among = same
  not_over_goes (Some c) s among = by_stage c.stage
    where
      by_stage : (z : Stage) → C ((elim z as (λ x. After) [ IsOver ↦ refused w Stranger | _ ↦ moved w (step_of w.config.splits s c) ]).0)
      by_stage IsOpen = steps c s (among c refl)
      by_stage IsClosing = steps c s (among c refl)
      by_stage IsOver = same

  closing_goes : (o : Option Client) → ((c : Client) → o ≡ Some c → IsAmong w.clients c) → C (if_closing w o).0
  closing_goes None among = same
  closing_goes (Some c) among = by_stage c.stage
    where
      by_stage : (z : Stage) → C ((elim z as (λ x. After) [ IsClosing ↦ moved w (finishes c) | _ ↦ refused w Stranger ]).0)
      by_stage IsOpen = same
      by_stage IsClosing = steps c Finishes (among c refl)
      by_stage IsOver = same

  hearing_goes : (o : Option Client) (to : Address) (a : ReadAnswer) → client_of w a.txn ≡ o →
      IsAmong w.bag (record { to = to; message = Message.ReadAnswer a }) → C (if_hearing w o a).0
  hearing_goes None to a is told = same
  hearing_goes (Some c) to a is told = by_stage c.stage
    where
      by_stage : (z : Stage) → C ((elim z as (λ x. After) [ IsOpen ↦ answered w c a | _ ↦ refused w Stranger ]).0)
      by_stage IsOpen = hears c to a (there a.txn c is) (same_id-is c.txn a.txn (first_passes (λ (d : Client). same_id d.txn a.txn) w.clients c is)) told
      by_stage IsClosing = same
      by_stage IsOver = same

  session_goes : (to : Address) (m : Message) → IsAmong w.bag (record { to = to; message = m }) → C (to_session w m).0
  unfolding to_session
  session_goes to (Message.ReadAnswer a) told = hearing_goes (client_of w a.txn) to a refl told
  session_goes to (Message.Done d) told = closing_goes (client_of w d.txn) (there d.txn)
  session_goes to _ told = same

  -- ---- shards

  module _ (n : ℕ) (s : ShardNow) (is : slice_get w.shards n ≡ Some s) where
    refused_goes : (doing : Doing) (f : Fault) → C (refused_doing w n s doing f).0
    refused_goes Doing.Open f = by_state s.state
      where
        by_state : (st : State) → C ((elim st as (λ x. After)
            [ Runs m ↦ refused w f | _ ↦ (set_shard n (crashed s (read_log s) (read_area s)) w, Reply.Refused f) ]).0)
        by_state (Runs m) = same
        by_state (IsStopped m) = crashes n s is (read_log s) (read_area s) (inl (read_may_leave s))
        by_state IsDown = crashes n s is (read_log s) (read_area s) (inl (read_may_leave s))
    refused_goes _ f = same

    did_goes : (doing : Doing) (st : Stepped) → effect (setup_of w.config n) w.bag s doing ≡ st → C (did w n s doing st).0
    unfolding did
    did_goes doing (Refuses f) e = refused_goes doing f
    did_goes doing (Does logged memory out) e = does n s is doing logged memory out e

    failing_goes : (call : ℕ) (doing : Doing) (st : Stepped) → effect (setup_of w.config n) w.bag s doing ≡ st → C (did_with_failure w n s call doing st).0
    unfolding did_with_failure
    failing_goes call doing (Refuses f) e = did_goes doing (Refuses f) e
    failing_goes call doing (Does None memory out) e = by_tests (turns doing) (nat_lt call 5) refl
      where
        by_tests : (a b : Bool) → turns doing ≡ a → C ((cond {A = After} (a && b) (set_shard n (failed_turn s call) w, Reply.Refused Device)
            (did w n s doing (Does None memory out))).0)
        by_tests true true k = turn_fails n s is call doing memory out k e
        by_tests true false k = did_goes doing (Does None memory out) e
        by_tests false b k = did_goes doing (Does None memory out) e
    failing_goes call doing (Does (Some r) memory out) e = by_test (nat_lt call 4)
      where
        by_test : (b : Bool) → C ((cond {A = After} b (set_shard n (failed_in s call r) w, Reply.Refused Device)
            (did w n s doing (Does (Some r) memory out))).0)
        by_test true = fails n s is call doing r memory out e
        by_test false = did_goes doing (Does (Some r) memory out) e

    refused_left_goes : (fate : Fate) (doing : Doing) → C (set_shard n (left_by_refused s fate doing) w)
    refused_left_goes fate Doing.Open = crashes n s is (read_log s) (read_area s) (inl (read_may_leave s))
    refused_left_goes fate _ = crashes n s is (left_log fate s) (left_area fate s) (inl (left_may_leave s fate))

    crash_within_goes : (call : ℕ) (fate : Fate) (doing : Doing) (st : Stepped) → effect (setup_of w.config n) w.bag s doing ≡ st →
        C (set_shard n (crashed_in s call fate doing st) w)
    unfolding crashed_in
    crash_within_goes call fate doing (Refuses f) e = refused_left_goes fate doing
    crash_within_goes call fate doing (Does None memory out) e =
        crashes n s is (read_log s) (area_left_in call fate doing s) (none_left w n s doing call fate memory out e)
    crash_within_goes call fate doing (Does (Some r) memory out) e =
        let more : List Record = cond (is_left call fate) (r ∷ []) [] in
        crashes n s is (read_log s ++ more) (with_records (read_area s) more) (some_left w n s doing r memory out e (is_left call fate))

  at_shard_goes : (n : ℕ) (f : Setup → ShardNow → After) → ((s : ShardNow) → slice_get w.shards n ≡ Some s → C (f (setup_of w.config n) s).0) →
      C (at_shard w n f).0
  at_shard_goes n f each = by_value (slice_get w.shards n) refl
    where
      by_value : (o : Option ShardNow) → slice_get w.shards n ≡ o →
          C ((elim o as (λ x. After) [ None ↦ refused w Stranger | Some s ↦ f (setup_of w.config n) s ]).0)
      by_value None e = same
      by_value (Some s) e = each s e

  do_at_goes : (n : ℕ) (doing : Doing) → C (do_at w n doing).0
  do_at_goes n doing = at_shard_goes n (λ setup s. did w n s doing (effect setup w.bag s doing))
      (λ s is. did_goes n s is doing (effect (setup_of w.config n) w.bag s doing) refl)

  deliver_goes : (m : ℕ) (now : Interval) (o : Option Envelope) → slice_get w.bag m ≡ o → C (deliver_to w m now o).0
  unfolding deliver_to
  deliver_goes m now None e = same
  deliver_goes m now (Some z) e = by_address z.to
    where
      by_address : (a : Address) → C ((elim a as (λ x. After) [ Shard n ↦ do_at w n (Doing.Take m now) | Session t ↦ to_session w z.message ]).0)
      by_address (Shard n) = do_at_goes n (Doing.Take m now)
      by_address (Session t) = session_goes z.to z.message (get_among w.bag m z e)

  -- ---- each act

  pub acts_go : (time : ℕ) (a : Act) → may_act w time a ≡ true → C (acts w a).0
  unfolding acts may_act
  acts_go time (Act.Begin t) may = begins t may
  acts_go time (Act.Read t k) may = open_goes (client_of w t) (Reads k) (there t)
  acts_go time (Act.Write t k x) may = open_goes (client_of w t) (Buffers (record { key = k; value = x })) (there t)
  acts_go time (Act.Close t) may = open_goes (client_of w t) Closes (there t)
  acts_go time (Act.Quit t) may = not_over_goes (client_of w t) GivesUp (there t)
  acts_go time (Act.Deliver m now) may = deliver_goes m now (slice_get w.bag m) refl
  acts_go time (Act.At n doing) may = do_at_goes n doing
  acts_go time (Act.Look n k at) may = at_shard_goes n (λ setup s. look_noted w k at (look_shard setup s k at)) (λ s is. looks n s is k at)
  acts_go time (Act.View n v k at) may = at_shard_goes n (λ setup s. look_noted w k at (look_at_view setup (slice_get s.views v) k at))
      (λ s is. views n s is v k at)
  acts_go time (Act.Crash n) may = at_shard_goes n (λ setup s. (set_shard n (crashed s s.log s.area) w, Reply.Crashed))
      (λ s is. crashes n s is s.log s.area (inl (inl (refl, refl))))
  acts_go time (Act.CrashIn n call fate named doing) may =
      at_shard_goes n (λ setup s. (set_shard n (crashed_in s call fate doing (effect setup w.bag s doing)) w, Reply.Crashed))
      (λ s is. crash_within_goes n s is call fate doing (effect (setup_of w.config n) w.bag s doing) refl)
  acts_go time (Act.FailIn n call named doing) may =
      at_shard_goes n (λ setup s. did_with_failure w n s call doing (effect setup w.bag s doing))
      (λ s is. failing_goes n s is call doing (effect (setup_of w.config n) w.bag s doing) refl)
