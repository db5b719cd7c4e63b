-- What the parts of a run answer is what the event comes to.
use Rattle.std.proofs.Common.{◌≡◌, ◌⊎◌, inl, inr, ℕ, zero, suc, Bool, true, false, cond, ◌&&◌, nat_lt, List, [], ◌∷◌, slice_get, Option}
use Rattle.std.proofs.Common.{Some, None, Result, Ok, Err}
use Rattle.std.proofs.Common.{refl, sym, ap, ◌∙◌, subst}
use Rattle.units.specs.Ids.{Id}
use Rattle.units.specs.Keys.{Bytes}
use Rattle.units.specs.Lists.{replaced}
use Rattle.units.specs.declared.fault.Fault.{Fault}
use Rattle.units.specs.declared.fault.Fault.TheVariants.{Device, Memory, Stranger}
use Rattle.units.specs.declared.line.Line.{Line}
use Rattle.disk.specs.declared.plan.Fate.{Fate as Left}
use Rattle.truetime.specs.Interval.{Interval}
use Rattle.message.specs.declared.message.Address.TheVariants.{Shard, Session}
use Rattle.message.specs.declared.message.Envelope.{Envelope}
use Rattle.message.specs.declared.message.Message.{Message}
use Rattle.protocol.specs.Step.{Stepped, Refuses, Does}
use Rattle.world.specs.World.{World, After, ShardNow, State, Runs, IsStopped, IsDown, at_shard, crashed, crashed_in, deliver_to, did}
use Rattle.world.specs.World.{did_with_failure, do_at}
use Rattle.world.specs.World.{effect, failed_in, failed_turn, finished, look_noted, put_out, read_area, read_log, refused, refused_doing, turns}
use Rattle.world.specs.World.{set_client, set_shard, setup_of, to_session}
use Rattle.world.specs.Hosts.{Hosts}
use Rattle.world.specs.Passed.{IsOutput}
use Rattle.world.specs.Comes.{ComesOf, HasHeard, HasReplied, Notes, TakesMessage}
use Rattle.world.specs.declared.event.Config.{Config}
use Rattle.world.specs.declared.event.Doing.{Doing}
use Rattle.world.specs.declared.event.Reply.{Reply}
use Rattle.lives.specs.Carries.{answer_of, left_by_refusal, unopened}
use Rattle.lives.specs.Fleet.{ActsAt, AreShards, CrashesAt, IsOrderlyAt, crash_within, looked, shards_by}
use Rattle.lives.specs.Runs.{ComesAfter, IsRun, KeepsLaws, act_at}
use Rattle.lives.specs.Shows.{done_by, look_by}
use Rattle.lives.proofs.Crashing.{crash_is_old, none_below}
use Rattle.lives.specs.declared.run.Run.{Run}

-- the same shard put back leaves all
replaced_same : (ss : List ShardNow) (n : ℕ) (s : ShardNow) → slice_get ss n ≡ Some s → replaced ss n s ≡ ss
replaced_same [] n s there = refl
replaced_same (t ∷ ss) zero s there = ap (λ u. u ∷ ss) (sym (some_same t s there))
  where
    some_same : (x y : ShardNow) → Some x ≡ Some y → x ≡ y
    some_same x y e = ap (λ o. elim o as (λ p. ShardNow) [ None ↦ x | Some z ↦ z ]) e
replaced_same (t ∷ ss) (suc n) s there = ap (λ l. t ∷ l) (replaced_same ss n s there)

-- ---- a run after an event

module _ (w : World) (old new : Run) (h : IsRun old w) where
  same_shards : new.shards ≡ old.shards → AreShards w.config new.shards w.shards
  same_shards e = subst (λ s. AreShards w.config s w.shards) (sym e) h.shards

  -- nothing happens
  pub nobody_comes : (m : ℕ) (now : Interval) (o : Option Envelope) → o ≡ None → ComesAfter (deliver_to w m now o) old (Ok (Reply.Refused Stranger))
  unfolding deliver_to
  nobody_comes m now o none = subst (λ x. ComesAfter (deliver_to w m now x) old (Ok (Reply.Refused Stranger))) (sym none) (refl, h)

  -- the act of a session
  pub acts_come : (after : After) (result : Result Reply Fault) → ComesOf w after new.sessions new.output result → new.shards ≡ old.shards
      → new.time ≡ old.time → ComesAfter after new result
  acts_come after (Err fault) comes shards time = comes
  acts_come after (Ok reply) comes shards time = (
    comes.0,
    record {
      sessions = subst (λ (c : Config). Hosts c.splits new.sessions after.0.clients) (sym comes.3) comes.1;
      shards = subst (λ ss. AreShards after.0.config new.shards ss) (sym comes.4)
          (subst (λ (c : Config). AreShards c new.shards w.shards) (sym comes.3) (same_shards shards));
      output = comes.2;
      time = time ∙ h.time ∙ sym comes.5;
    },
  )

  -- a message that comes to one
  pub message_comes : (m : Message) (answer : Result (Option Line) Fault) (result : Result Reply Fault) → TakesMessage w m new.sessions answer
      → ((v : World) → IsOutput old.output v → HasHeard v answer new.output result) → new.shards ≡ old.shards → new.time ≡ old.time →
      ComesAfter (to_session w m) new result
  message_comes m (Ok line) (Ok reply) takes heard shards time =
      let r = heard (set_client takes.0 w) (record { bag = h.output.bag; told = h.output.told; lines = h.output.lines; event = h.output.event }) in
      subst (λ a. ComesAfter a new (Ok reply)) (sym takes.1)
      (r.0, record { sessions = takes.2; shards = same_shards shards; output = r.1; time = time ∙ h.time })
  message_comes m (Ok line) (Err fault) takes heard shards time = heard w h.output
  message_comes m (Err why) (Ok reply) (inl memory) heard shards time = absurd ((heard w h.output).0 memory)
  message_comes m (Err why) (Ok reply) (inr takes) heard shards time =
      let r = heard w h.output in
      subst (λ a. ComesAfter a new (Ok reply)) (sym takes.0)
      (r.1, record { sessions = takes.1; shards = same_shards shards; output = r.2; time = time ∙ h.time })
  message_comes m (Err why) (Err fault) takes heard shards time = heard w h.output

  -- a look
  pub look_comes : (k : Bytes) (at : ℕ) (shows : Reply) (result : Result Reply Fault)
      → Notes w k at shows new.output result
      → new.sessions ≡ old.sessions → new.shards ≡ old.shards → new.time ≡ old.time → ComesAfter (look_noted w k at shows) new result
  look_comes k at shows (Err fault) notes sessions shards time = notes
  look_comes k at (Reply.Shows x) (Ok reply) notes sessions shards time =
      let r = notes in (
        r.0,
        record {
          sessions = subst (λ s. Hosts w.config.splits s w.clients) (sym sessions) h.sessions;
          shards = same_shards shards;
          output = r.1;
          time = time ∙ h.time;
        },
      )
  look_comes k at _ (Ok reply) notes sessions shards time =
      let r = notes in (
        r.0,
        record {
          sessions = subst (λ s. Hosts w.config.splits s w.clients) (sym sessions) h.sessions;
          shards = same_shards shards;
          output = r.1;
          time = time ∙ h.time;
        },
      )

  -- a step of a shard
  abbrev by_shards : Result (List Envelope) Fault × List ShardNow → After
  by_shards p =
      elim p.0 as (λ x. After) [ Ok out ↦ (put_out out (record w { shards = p.1 }), Reply.Done) | Err fault ↦ (record w { shards = p.1 }, Reply.Refused fault) ]

  -- where a refusal changes nothing
  same_there : (n : ℕ) (s : ShardNow) (fault : Fault) → slice_get w.shards n ≡ Some s
      → ◌≡◌ {A = After} (w, Reply.Refused fault) (record w { shards = replaced w.shards n s }, Reply.Refused fault)
  same_there n s fault there = λ i. (record w { shards = sym (replaced_same w.shards n s there) i }, Reply.Refused fault)

  refused_is : (n : ℕ) (s : ShardNow) (doing : Doing) (fault : Fault) → slice_get w.shards n ≡ Some s
      → refused_doing w n s doing fault ≡ (record w { shards = replaced w.shards n (left_by_refusal s doing) }, Reply.Refused fault)
  refused_is n s Doing.Open fault there = by_state s.state
    where
      by_state : (st : State) → elim st as (λ x. After) [
        | Runs m ↦ refused w fault
        | _
            ↦ (set_shard n (crashed s (read_log s) (read_area s)) w, Reply.Refused fault)
      ]
          ≡ (record w { shards = replaced w.shards n (unopened s st) }, Reply.Refused fault)
      by_state (Runs m) = same_there n s fault there
      by_state (IsStopped m) = refl
      by_state IsDown = refl
  refused_is n s _ fault there = same_there n s fault there

  -- what a step comes to, with a call that fails or with none
  abbrev did_by : ℕ → ShardNow → Option ℕ → Doing → Stepped → After
  did_by n s None doing st = did w n s doing st
  did_by n s (Some call) doing st = did_with_failure w n s call doing st

  abbrev stood_by : ℕ → ShardNow → Option ℕ → Doing → Stepped → After
  stood_by n s call doing st = by_shards (answer_of call doing st, replaced w.shards n (done_by s call doing st))

  did_is : (n : ℕ) (s : ShardNow) (call : Option ℕ) (doing : Doing) (st : Stepped) → slice_get w.shards n ≡ Some s
      → did_by n s call doing st ≡ stood_by n s call doing st
  unfolding did did_with_failure
  did_is n s None doing (Refuses fault) there = refused_is n s doing fault there
  did_is n s (Some call) doing (Refuses fault) there = refused_is n s doing fault there
  did_is n s None doing (Does None memory out) there = refl
  did_is n s None doing (Does (Some r) memory out) there = refl
  did_is n s (Some call) doing (Does None memory out) there = by_turn (turns doing)
    where
      by_test : (b : Bool) → cond {A = After} b (set_shard n (failed_turn s call) w, Reply.Refused Device)
          (put_out out (set_shard n (finished s doing None memory) w), Reply.Done)
          ≡ by_shards (
            cond {A = Result (List Envelope) Fault} b (Err Device)
                (Ok out),
            replaced w.shards n (cond b (failed_turn s call) (finished s doing None memory)),
          )
      by_test true = refl
      by_test false = refl

      by_turn : (t : Bool) → cond {A = After} (t && nat_lt call 5) (set_shard n (failed_turn s call) w, Reply.Refused Device)
          (put_out out (set_shard n (finished s doing None memory) w), Reply.Done)
          ≡ by_shards (
            cond {A = Result (List Envelope) Fault} (nat_lt call (cond t 5 0)) (Err Device)
                (Ok out),
            replaced w.shards n (cond (nat_lt call (cond t 5 0)) (failed_turn s call) (finished s doing None memory)),
          )
      by_turn true = by_test (nat_lt call 5)
      by_turn false = ap (λ b. by_shards (
        cond {A = Result (List Envelope) Fault} b (Err Device) (Ok out),
        replaced w.shards n (cond b (failed_turn s call) (finished s doing None memory)),
      )) (sym (none_below call))
  did_is n s (Some call) doing (Does (Some r) memory out) there = by_test (nat_lt call 4)
    where
      by_test : (b : Bool) → cond {A = After} b (set_shard n (failed_in s call r) w, Reply.Refused Device)
          (put_out out (set_shard n (finished s doing (Some r) memory) w), Reply.Done)
          ≡ by_shards (
            cond {A = Result (List Envelope) Fault} b (Err Device)
                (Ok out),
            replaced w.shards n (cond b (failed_in s call r) (finished s doing (Some r) memory)),
          )
      by_test true = refl
      by_test false = refl

  done_at : (n : ℕ) (call : Option ℕ) (doing : Doing) → act_at w n call doing ≡ by_shards (shards_by w.config w.bag w.shards n call doing)
  done_at n call doing = by_call call ∙ by_place (slice_get w.shards n) refl
    where
      by_call : (c : Option ℕ) → act_at w n c doing ≡ elim (slice_get w.shards n) as (λ x. After) [
        | None ↦ refused w Stranger
        | Some s ↦
            did_by n s c doing (effect (setup_of w.config n) w.bag s doing)
      ]
      by_call None = refl
      by_call (Some c) = refl

      by_place : (o : Option ShardNow) → slice_get w.shards n ≡ o
          → elim o as (λ x. After) [ None ↦ refused w Stranger | Some s ↦ did_by n s call doing (effect (setup_of w.config n) w.bag s doing) ]
          ≡ by_shards (elim o as (λ x. Result (List Envelope) Fault × List ShardNow) [
            | None ↦ (Err Stranger, w.shards)
            | Some s ↦ (
              answer_of call doing (effect (setup_of w.config n) w.bag s doing),
              replaced w.shards n (done_by s call doing (effect (setup_of w.config n) w.bag s doing)),
            )
          ])
      by_place None there = refl
      by_place (Some s) there = did_is n s call doing (effect (setup_of w.config n) w.bag s doing) there

  -- its log is taken, and what it logs follows
  pub orderly_at : (n : ℕ) (doing : Doing) → KeepsLaws w → IsOrderlyAt w.config w.bag w.shards n doing
  orderly_at n doing laws s there = record {
    unbooked = refl;
    takes = laws.1.takes n s there;
    alike = laws.1.alike n s there;
    lasting = laws.1.lasting n s there;
    follows = λ r memory out is. laws.0.logged n s doing r memory out there is;
  }

  -- with other shards
  output_with : (ss : List ShardNow) → IsOutput old.output (record w { shards = ss })
  output_with ss = record { bag = h.output.bag; told = h.output.told; lines = h.output.lines; event = h.output.event }

  hosts_in : new.sessions ≡ old.sessions → Hosts w.config.splits new.sessions w.clients
  hosts_in sessions = subst (λ s. Hosts w.config.splits s w.clients) (sym sessions) h.sessions

  answered_so : (p : Result (List Envelope) Fault × List ShardNow) (result : Result Reply Fault) → AreShards w.config new.shards p.1
      → HasReplied (record w { shards = p.1 }) p.0 new.output result → new.sessions ≡ old.sessions → new.time ≡ old.time → ComesAfter (by_shards p) new result
  unfolding put_out
  answered_so (Ok out, ss) (Ok reply) shards r sessions time =
      (r.0, record { sessions = hosts_in sessions; shards = shards; output = r.1; time = time ∙ h.time })
  answered_so (Ok out, ss) (Err fault) shards r sessions time = r
  answered_so (Err why, ss) (Ok reply) shards r sessions time =
      (r.1, record { sessions = hosts_in sessions; shards = shards; output = r.2; time = time ∙ h.time })
  answered_so (Err why, ss) (Err fault) shards r sessions time = r

  pub shard_comes : (n : ℕ) (call : Option ℕ) (doing : Doing) (answer : Result (List Envelope) Fault) (result : Result Reply Fault) → KeepsLaws w
      → ActsAt w.config w.bag w.shards n call doing new.shards answer → ((v : World) → IsOutput old.output v → HasReplied v answer new.output result)
      → new.sessions ≡ old.sessions → new.time ≡ old.time → ComesAfter (act_at w n call doing) new result
  shard_comes n call doing answer result steady acts replies sessions time = by_answer (acts (orderly_at n doing steady))
    where
      p : Result (List Envelope) Fault × List ShardNow
      p = shards_by w.config w.bag w.shards n call doing

      no_memory : (r : Result Reply Fault) → HasReplied w (Err Memory) new.output r → ComesAfter (act_at w n call doing) new r
      no_memory (Ok reply) k = absurd (k.0 refl)
      no_memory (Err fault) k = k

      by_answer : (answer ≡ Err Memory) ⊎ ((answer ≡ p.0) × AreShards w.config new.shards p.1) → ComesAfter (act_at w n call doing) new result
      by_answer (inl memory) = no_memory result (subst (λ a. HasReplied w a new.output result) memory (replies w h.output))
      by_answer (inr (same, shards)) =
          subst (λ x. ComesAfter x new result) (sym (done_at n call doing))
          (answered_so p result shards (subst (λ a. HasReplied (record w { shards = p.1 }) a new.output result) same (replies (record w { shards = p.1 })
          (output_with p.1))) sessions time)

  -- there is no shard to do it
  pub none_acts : (n : ℕ) (call : Option ℕ) (doing : Doing) → slice_get w.shards n ≡ None → ComesAfter (act_at w n call doing) old (Ok (Reply.Refused Stranger))
  none_acts n None doing none = subst (λ o. ComesAfter (elim o as (λ x. After) [
    | None ↦ refused w Stranger
    | Some s ↦ did w n s doing (effect (setup_of w.config n) w.bag s doing)
  ]) old (Ok (Reply.Refused Stranger))) (sym none) (refl, h)
  none_acts n (Some call) doing none = subst (λ o. ComesAfter (elim o as (λ x. After) [
    | None ↦ refused w Stranger
    | Some s ↦ did_with_failure w n s call doing (effect (setup_of w.config n) w.bag s doing)
  ]) old (Ok (Reply.Refused Stranger))) (sym none) (refl, h)

  -- a crash, where the shard exists
  crashes : (n : ℕ) (f : ShardNow → ShardNow) (result : Result Reply Fault) → CrashesAt w.config f w.shards n new.shards result
      → new.sessions ≡ old.sessions → new.output ≡ old.output → new.time ≡ old.time
      → ComesAfter (at_shard w n (λ setup s. (set_shard n (f s) w, Reply.Crashed))) new result
  crashes n f (Err fault) c sessions output time = c
  crashes n f (Ok reply) c sessions output time = by_place (slice_get w.shards n) c
    where
      by_place : (o : Option ShardNow)
          → (reply ≡ elim o as (λ x. Reply) [ None ↦ Reply.Refused Stranger | Some s ↦ Reply.Crashed ])
          × AreShards w.config new.shards (elim o as (λ x. List ShardNow) [ None ↦ w.shards | Some s ↦ replaced w.shards n (f s) ])
          → ComesAfter (elim o as (λ x. After) [ None ↦ refused w Stranger | Some s ↦ (set_shard n (f s) w, Reply.Crashed) ]) new (Ok reply)
      by_place None k = (
        k.0,
        record {
          sessions = hosts_in sessions;
          shards = k.1;
          output = subst (λ p. IsOutput p w) (sym output) h.output;
          time = time ∙ h.time;
        },
      )
      by_place (Some s) k = (
        k.0,
        record {
          sessions = hosts_in sessions;
          shards = k.1;
          output = subst (λ p. IsOutput p (record w { shards = replaced w.shards n (f s) })) (sym output) (output_with (replaced w.shards n (f s)));
          time = time ∙ h.time;
        },
      )

  pub crash_comes : (n : ℕ) (result : Result Reply Fault) → CrashesAt w.config (crash_within w.config w.bag n None Left.Old) w.shards n new.shards result
      → new.sessions ≡ old.sessions → new.output ≡ old.output → new.time ≡ old.time
      → ComesAfter (at_shard w n (λ setup s. (set_shard n (crashed s s.log s.area) w, Reply.Crashed))) new result
  crash_comes n result c =
      crashes n (λ s. crashed s s.log s.area) result (subst (λ f. CrashesAt w.config f w.shards n new.shards result) (λ i s. crash_is_old s i) c)

  pub crash_in_comes : (n call : ℕ) (fate : Left) (doing : Doing) (result : Result Reply Fault)
      → CrashesAt w.config (crash_within w.config w.bag n (Some (call, doing)) fate) w.shards n new.shards result
      → new.sessions ≡ old.sessions → new.output ≡ old.output → new.time ≡ old.time
      → ComesAfter (at_shard w n (λ setup s. (set_shard n (crashed_in s call fate doing (effect setup w.bag s doing)) w, Reply.Crashed))) new result
  crash_in_comes n call fate doing result c = crashes n (crash_within w.config w.bag n (Some (call, doing)) fate) result c

-- a message to a shard, and one to a session
pub for_shard : (w : World) (m n : ℕ) (now : Interval) (e : Envelope) → slice_get w.bag m ≡ Some e → e.to ≡ Shard n →
    deliver_to w m now (slice_get w.bag m) ≡ do_at w n (Doing.Take m now)
unfolding deliver_to
for_shard w m n now e there to =
    ap (deliver_to w m now) there ∙ ap (λ a. elim a as (λ x. After) [ Shard k ↦ do_at w k (Doing.Take m now) | Session t ↦ to_session w e.message ]) to

pub for_session : (w : World) (m : ℕ) (t : Id) (now : Interval) (e : Envelope) → slice_get w.bag m ≡ Some e → e.to ≡ Session t →
    deliver_to w m now (slice_get w.bag m) ≡ to_session w e.message
unfolding deliver_to
for_session w m t now e there to =
    ap (deliver_to w m now) there ∙ ap (λ a. elim a as (λ x. After) [ Shard k ↦ do_at w k (Doing.Take m now) | Session u ↦ to_session w e.message ]) to

-- a look at a shard, or at a view of it
pub looks : (w : World) (n : ℕ) (view : Option ℕ) (k : Bytes) (at : ℕ) → at_shard w n (λ setup s. look_noted w k at (look_by setup s view k at)) ≡
    look_noted w k at (looked w.config w.shards n view k at)
looks w n view k at = by_place (slice_get w.shards n)
  where
    by_place : (o : Option ShardNow) → elim o as (λ x. After) [
      | None ↦ refused w Stranger
      | Some s ↦
          look_noted w k at (look_by (setup_of w.config n) s view k at)
    ]
        ≡ look_noted w k at (elim o as (λ x. Reply) [ None ↦ Reply.Refused Stranger | Some s ↦ look_by (setup_of w.config n) s view k at ])
    by_place None = refl
    by_place (Some s) = refl
