-- Sessions and looks touch no shard, and nothing touches the settings.
use Rattle.std.proofs.Common.{◌≡◌, ℕ, suc, Bool, true, false, cond, ◌&&◌, nat_lt, List, [], ◌∷◌, Option, Some, None, slice_get, refl, ap, ◌∙◌}
use Rattle.units.specs.Keys.{Bytes}
use Rattle.units.specs.declared.fault.Fault.{Fault}
use Rattle.units.specs.declared.fault.Fault.TheVariants.{Stranger, Device}
use Rattle.units.specs.declared.setup.Setup.{Setup}
use Rattle.truetime.specs.Interval.{Interval}
use Rattle.message.specs.declared.message.Address.{Address}
use Rattle.message.specs.declared.message.Address.TheVariants.{Shard, Session}
use Rattle.message.specs.declared.message.Envelope.{Envelope}
use Rattle.message.specs.declared.message.Message.{Message}
use Rattle.message.specs.declared.message.ReadAnswer.{ReadAnswer}
use Rattle.session.specs.Sessions.{Client, Stage, IsOpen, IsClosing, IsOver, Moved, Denies, Goes, reads, buffers, closes, gives_up, finishes}
use Rattle.protocol.specs.Step.{Stepped, Refuses, Does}
use Rattle.world.specs.World.{World, After, client_of, put_out, moved, refused, if_open, if_not_over, if_closing, if_hearing, answered, to_session}
use Rattle.world.specs.World.{look_noted, ShardNow, State, Runs, IsStopped, IsDown, setup_of, read_log, read_area, effect, crashed, crashed_in, failed_in}
use Rattle.world.specs.World.{set_shard, refused_doing, did, did_with_failure, at_shard, do_at, deliver_to, look_shard, look_at_view, acts, happens}
use Rattle.world.specs.World.{start, run, run_from, failed_turn, turns}
use Rattle.world.specs.declared.event.Act.{Act}
use Rattle.world.specs.declared.event.Config.{Config}
use Rattle.world.specs.declared.event.Doing.{Doing}
use Rattle.world.specs.declared.event.Event.{Event}
use Rattle.world.specs.declared.event.Reply.{Reply}

-- the shards, the settings and the number of the event are the same
abbrev pub Kept : World → World → Type 0
Kept w v = (v.shards ≡ w.shards) × (v.config ≡ w.config) × (v.event ≡ w.event)

-- the settings and the number are
abbrev Fixed : World → World → Type 0
Fixed w v = (v.config ≡ w.config) × (v.event ≡ w.event)

module _ (w : World) where
  moved_keeps : (m : Moved) → Kept w ((moved w m).0)
  unfolding put_out
  moved_keeps (Denies f) = (refl, refl, refl)
  moved_keeps (Goes c out) = (refl, refl, refl)

  pub if_open_keeps : (o : Option Client) (f : Client → Moved) → Kept w ((if_open w o f).0)
  if_open_keeps None f = (refl, refl, refl)
  if_open_keeps (Some c) f = by_stage c.stage
    where
      by_stage : (s : Stage) → Kept w ((elim s as (λ x. After) [ IsOpen ↦ moved w (f c) | _ ↦ refused w Stranger ]).0)
      by_stage IsOpen = moved_keeps (f c)
      by_stage IsClosing = (refl, refl, refl)
      by_stage IsOver = (refl, refl, refl)

  pub if_not_over_keeps : (o : Option Client) (f : Client → Moved) → Kept w ((if_not_over w o f).0)
  if_not_over_keeps None f = (refl, refl, refl)
  if_not_over_keeps (Some c) f = by_stage c.stage
    where
      by_stage : (s : Stage) → Kept w ((elim s as (λ x. After) [ IsOver ↦ refused w Stranger | _ ↦ moved w (f c) ]).0)
      by_stage IsOpen = moved_keeps (f c)
      by_stage IsClosing = moved_keeps (f c)
      by_stage IsOver = (refl, refl, refl)

  if_closing_keeps : (o : Option Client) → Kept w ((if_closing w o).0)
  if_closing_keeps None = (refl, refl, refl)
  if_closing_keeps (Some c) = by_stage c.stage
    where
      by_stage : (s : Stage) → Kept w ((elim s as (λ x. After) [ IsClosing ↦ moved w (finishes c) | _ ↦ refused w Stranger ]).0)
      by_stage IsOpen = (refl, refl, refl)
      by_stage IsClosing = moved_keeps (finishes c)
      by_stage IsOver = (refl, refl, refl)

  if_hearing_keeps : (o : Option Client) (a : ReadAnswer) → Kept w ((if_hearing w o a).0)
  if_hearing_keeps None a = (refl, refl, refl)
  if_hearing_keeps (Some c) a = by_stage c.stage
    where
      by_stage : (s : Stage) → Kept w ((elim s as (λ x. After) [ IsOpen ↦ answered w c a | _ ↦ refused w Stranger ]).0)
      by_stage IsOpen = (refl, refl, refl)
      by_stage _ = (refl, refl, refl)

  pub to_session_keeps : (m : Message) → Kept w ((to_session w m).0)
  unfolding to_session
  to_session_keeps (Message.ReadAnswer a) = if_hearing_keeps (client_of w a.txn) a
  to_session_keeps (Message.Done d) = if_closing_keeps (client_of w d.txn)
  to_session_keeps _ = (refl, refl, refl)

  pub noted_keeps : (k : Bytes) (at : ℕ) (r : Reply) → Kept w ((look_noted w k at r).0)
  noted_keeps k at (Reply.Shows x) = (refl, refl, refl)
  noted_keeps k at _ = (refl, refl, refl)

  -- ---- no act touches the settings or the number

  refused_settings : (n : ℕ) (s : ShardNow) (doing : Doing) (f : Fault) → Fixed w (refused_doing w n s doing f).0
  refused_settings n s Doing.Open f = by_state s.state
    where
      by_state : (st : State) → Fixed w ((elim st as (λ x. After)
          [ Runs m ↦ refused w f | _ ↦ (set_shard n (crashed s (read_log s) (read_area s)) w, Reply.Refused f) ]).0)
      by_state (Runs m) = (refl, refl)
      by_state (IsStopped m) = (refl, refl)
      by_state IsDown = (refl, refl)
  refused_settings n s (Doing.Take m now) f = (refl, refl)
  refused_settings n s (Doing.Resume now) f = (refl, refl)
  refused_settings n s (Doing.Settle t now) f = (refl, refl)
  refused_settings n s (Doing.Advance at now) f = (refl, refl)
  refused_settings n s (Doing.Forget at now) f = (refl, refl)
  refused_settings n s (Doing.Retire below now) f = (refl, refl)
  refused_settings n s (Doing.Nudge t now) f = (refl, refl)
  refused_settings n s Doing.Turn f = (refl, refl)

  did_settings : (n : ℕ) (s : ShardNow) (doing : Doing) (st : Stepped) → Fixed w (did w n s doing st).0
  unfolding did put_out
  did_settings n s doing (Refuses f) = refused_settings n s doing f
  did_settings n s doing (Does logged memory out) = (refl, refl)

  failing_settings : (n : ℕ) (s : ShardNow) (call : ℕ) (doing : Doing) (st : Stepped) → Fixed w (did_with_failure w n s call doing st).0
  unfolding did_with_failure
  failing_settings n s call doing (Refuses f) = did_settings n s doing (Refuses f)
  failing_settings n s call doing (Does None memory out) = by_test (turns doing && nat_lt call 5)
    where
      by_test : (b : Bool) → Fixed w ((cond {A = After} b (set_shard n (failed_turn s call) w, Reply.Refused Device)
          (did w n s doing (Does None memory out))).0)
      by_test true = (refl, refl)
      by_test false = did_settings n s doing (Does None memory out)
  failing_settings n s call doing (Does (Some r) memory out) = by_test (nat_lt call 4)
    where
      by_test : (b : Bool) → Fixed w ((cond {A = After} b (set_shard n (failed_in s call r) w, Reply.Refused Device)
          (did w n s doing (Does (Some r) memory out))).0)
      by_test true = (refl, refl)
      by_test false = did_settings n s doing (Does (Some r) memory out)

  at_shard_settings : (n : ℕ) (f : Setup → ShardNow → After) → ((s : ShardNow) → Fixed w ((f (setup_of w.config n) s).0)) → Fixed w ((at_shard w n f).0)
  at_shard_settings n f each = by_value (slice_get w.shards n)
    where
      by_value : (o : Option ShardNow) → Fixed w ((elim o as (λ x. After) [ None ↦ refused w Stranger | Some s ↦ f (setup_of w.config n) s ]).0)
      by_value None = (refl, refl)
      by_value (Some s) = each s

  do_at_settings : (n : ℕ) (doing : Doing) → Fixed w ((do_at w n doing).0)
  do_at_settings n doing = at_shard_settings n (λ setup s. did w n s doing (effect setup w.bag s doing))
      (λ s. did_settings n s doing (effect (setup_of w.config n) w.bag s doing))

  deliver_settings : (m : ℕ) (now : Interval) (o : Option Envelope) → Fixed w ((deliver_to w m now o).0)
  unfolding deliver_to
  deliver_settings m now None = (refl, refl)
  deliver_settings m now (Some e) = by_address e.to
    where
      by_address : (a : Address) → Fixed w ((elim a as (λ x. After) [ Shard n ↦ do_at w n (Doing.Take m now) | Session t ↦ to_session w e.message ]).0)
      by_address (Shard n) = do_at_settings n (Doing.Take m now)
      by_address (Session t) = let k = to_session_keeps e.message in (k.1, k.2)

  acts_settings : (a : Act) → Fixed w ((acts w a).0)
  unfolding acts
  acts_settings (Act.Begin t) = (refl, refl)
  acts_settings (Act.Read t k) = let k = if_open_keeps (client_of w t) (reads w.config.splits k) in (k.1, k.2)
  acts_settings (Act.Write t k x) = let k = if_open_keeps (client_of w t) (buffers (record { key = k; value = x })) in (k.1, k.2)
  acts_settings (Act.Close t) = let k = if_open_keeps (client_of w t) (closes w.config.splits) in (k.1, k.2)
  acts_settings (Act.Quit t) = let k = if_not_over_keeps (client_of w t) (gives_up w.config.splits) in (k.1, k.2)
  acts_settings (Act.Deliver m now) = deliver_settings m now (slice_get w.bag m)
  acts_settings (Act.At n doing) = do_at_settings n doing
  acts_settings (Act.Look n k at) = at_shard_settings n (λ setup s. look_noted w k at (look_shard setup s k at))
      (λ s. let k = noted_keeps k at (look_shard (setup_of w.config n) s k at) in (k.1, k.2))
  acts_settings (Act.View n v k at) =
      at_shard_settings n (λ setup s. look_noted w k at (look_at_view setup (slice_get s.views v) k at))
      (λ s. let k = noted_keeps k at (look_at_view (setup_of w.config n) (slice_get s.views v) k at) in (k.1, k.2))
  acts_settings (Act.Crash n) = at_shard_settings n (λ setup s. (set_shard n (crashed s s.log s.area) w, Reply.Crashed)) (λ s. (refl, refl))
  acts_settings (Act.CrashIn n call fate named doing) =
      at_shard_settings n (λ setup s. (set_shard n (crashed_in s call fate doing (effect setup w.bag s doing)) w, Reply.Crashed)) (λ s. (refl, refl))
  acts_settings (Act.FailIn n call named doing) =
      at_shard_settings n (λ setup s. did_with_failure w n s call doing (effect setup w.bag s doing))
      (λ s. failing_settings n s call doing (effect (setup_of w.config n) w.bag s doing))

-- nor does a run
run_from_settings : (w : World) (es : List Event) → (run_from w es).config ≡ w.config
unfolding happens
run_from_settings w [] = refl
run_from_settings w (e ∷ es) = run_from_settings ((happens w e).0) es ∙ (acts_settings w e.act).0

pub run_settings : (config : Config) (es : List Event) → (run config es).config ≡ config
unfolding run start
run_settings config es = run_from_settings (start config) es

-- and each event counts
pub counts_one : (w : World) (e : Event) → (happens w e).0.event ≡ suc w.event
unfolding happens
counts_one w e = ap suc (acts_settings w e.act).1

pub same_event : (w : World) (a : Act) → (acts w a).0.event ≡ w.event
same_event w a = (acts_settings w a).1
