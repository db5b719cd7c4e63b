-- What a call of a core answers is what the run puts out at that event.
use Rattle.std.proofs.Common.{◌≡◌, ℕ, ◌≤◌, false, IsTrue, List, [], ◌∷◌, ◌++◌, Option, Some, None, Result, Ok, Err}
use Rattle.std.proofs.Common.{slice_get, refl, sym, ap, ◌∙◌, subst}
use Rattle.std.proofs.lemmas.List.{append-nil}
use Rattle.std.specs.Prelude.{IfOk}
use Rattle.units.specs.declared.fault.Fault.{Fault}
use Rattle.units.specs.declared.fault.Fault.TheVariants.{Stranger}
use Rattle.truetime.specs.Interval.{Interval}
use Rattle.disk.specs.declared.plan.FailurePlan.{FailurePlan}
use Rattle.disk.specs.File.{File, surface}
use Rattle.disk.specs.Image.{MayLeave}
use Rattle.message.specs.declared.message.Address.{Address}
use Rattle.message.specs.declared.message.Address.TheVariants.{Shard, Session}
use Rattle.message.specs.declared.message.Envelope.{Envelope}
use Rattle.message.specs.declared.message.Input.{Input}
use Rattle.protocol.specs.Rows.{Memory}
use Rattle.protocol.specs.Step.{Stepped, Refuses, Does}
use Rattle.record.specs.Accepted.{followed}
use Rattle.record.specs.Facts.{facts_of}
use Rattle.record.specs.declared.record.Record.{Record}
use Rattle.ledger.specs.Keeps.{IsLasting}
use Rattle.lives.specs.On.{step_of}
use Rattle.lives.proofs.Living.{asks_the_resting, not_up_opens, turns_as}
use Rattle.lives.specs.Carries.{opens_as, turns_in}
use Rattle.world.specs.Headline.{doing_of}
use Rattle.world.specs.Lawful.{is_up}
use Rattle.world.specs.World.{World, After, ShardNow, State, Runs, IsStopped, IsDown, acts, crashed, deliver_to, did, do_at, effect, happens}
use Rattle.world.specs.World.{input_of, put_out, read_area, read_log, refused, set_shard, setup_of, to_session}
use Rattle.world.specs.declared.event.Act.{Act}
use Rattle.world.specs.declared.event.Config.{Config}
use Rattle.world.specs.declared.event.Doing.{Doing}
use Rattle.world.specs.declared.event.Event.{Event}
use Rattle.world.specs.declared.event.Reply.{Reply}
use Rattle.images.specs.Answers.{IsAnswered, IsPlain, reply_of, sent}
use Rattle.images.specs.Images.{Calls, IsOwnAnswer, Life, Up, Down, OpensTo, Takes, TakesWhat, TurnsOver}
use Rattle.images.proofs.Called.{IsKnown, answer_in, not_opened, not_opened_spent, opens, steps_answer, stopped_answers, stopped_turn_answers}
use Rattle.images.proofs.Called.{turn_answers}
use Rattle.images.proofs.Held.{HoldsLog, LivesAs, LivesIn}
use Rattle.images.proofs.Placed.{IsInput, given, input_whole, rests_holds}

-- ---- the event

-- what a doing comes to
pub record ComesSo (w : World) (after : After) (result : Result (List Envelope) Fault) : Type 0 where
  pub reply : after.1 ≡ reply_of result
  pub bag : after.0.bag ≡ w.bag ++ sent result

none-more : (bag : List Envelope) → bag ≡ bag ++ []
none-more bag = sym (append-nil bag)

refused_so : (w : World) (n : ℕ) (s : ShardNow) (doing : Doing) (fault : Fault) → ComesSo w (did w n s doing (Refuses fault)) (Err fault)
unfolding did
refused_so w n s Doing.Open fault = by_state s.state
  where
    by_state : (st : State) → ComesSo w (elim st as (λ x. After) [
      | Runs m ↦ refused w fault
      | _ ↦ (set_shard n (crashed s (read_log s) (read_area s)) w, Reply.Refused fault)
    ]) (Err fault)
    by_state (Runs m) = record { reply = refl; bag = none-more w.bag }
    by_state (IsStopped m) = record { reply = refl; bag = none-more w.bag }
    by_state IsDown = record { reply = refl; bag = none-more w.bag }
refused_so w n s Doing.Turn fault = record { reply = refl; bag = none-more w.bag }
refused_so w n s (Doing.Take m now) fault = record { reply = refl; bag = none-more w.bag }
refused_so w n s (Doing.Resume now) fault = record { reply = refl; bag = none-more w.bag }
refused_so w n s (Doing.Settle t now) fault = record { reply = refl; bag = none-more w.bag }
refused_so w n s (Doing.Advance at now) fault = record { reply = refl; bag = none-more w.bag }
refused_so w n s (Doing.Forget at now) fault = record { reply = refl; bag = none-more w.bag }
refused_so w n s (Doing.Retire below now) fault = record { reply = refl; bag = none-more w.bag }
refused_so w n s (Doing.Nudge t now) fault = record { reply = refl; bag = none-more w.bag }

did_so : (w : World) (n : ℕ) (s : ShardNow) (doing : Doing) (st : Stepped) → ComesSo w (did w n s doing st) (answer_in st)
unfolding did put_out
did_so w n s doing (Refuses fault) = refused_so w n s doing fault
did_so w n s doing (Does logged memory out) = record { reply = refl; bag = refl }

do_so : (w : World) (n : ℕ) (s : ShardNow) (doing : Doing) → slice_get w.shards n ≡ Some s →
    ComesSo w (do_at w n doing) (answer_in (effect (setup_of w.config n) w.bag s doing))
do_so w n s doing there = subst (λ (a : After). ComesSo w a (answer_in (effect (setup_of w.config n) w.bag s doing)))
    (sym (ap (λ (o : Option ShardNow). elim o as (λ x. After) [
      | None ↦ refused w Stranger
      | Some t ↦ did w n t doing (effect (setup_of w.config n) w.bag t doing)
    ]) there))
    (did_so w n s doing (effect (setup_of w.config n) w.bag s doing))

-- which doing a plain act is
pair_is : (p q : ℕ × Doing) → ◌≡◌ {A = Option (ℕ × Doing)} (Some p) (Some q) → p ≡ q
pair_is p q e = cc

no_pair : (q : ℕ × Doing) → ◌≡◌ {A = Option (ℕ × Doing)} None (Some q) → ⊥
no_pair q e = cc

delivered_is : (w : World) (m : ℕ) (now : Interval) (o : Option Envelope) (n : ℕ) (doing : Doing) →
    ◌≡◌ {A = Option (ℕ × Doing)} (elim o as (λ x. Option (ℕ × Doing)) [
      | None ↦ None
      | Some e ↦ elim e.to as (λ x. Option (ℕ × Doing)) [ Shard k ↦ Some (k, Doing.Take m now) | Session t ↦ None ]
    ]) (Some (n, doing)) → deliver_to w m now o ≡ do_at w n doing
unfolding deliver_to
delivered_is w m now None n doing e = absurd (no_pair (n, doing) e)
delivered_is w m now (Some x) n doing e = by_address x.to e
  where
    by_address : (to : Address) →
        ◌≡◌ {A = Option (ℕ × Doing)} (elim to as (λ y. Option (ℕ × Doing)) [ Shard k ↦ Some (k, Doing.Take m now) | Session t ↦ None ]) (Some (n, doing)) →
        elim to as (λ y. After) [ Shard k ↦ do_at w k (Doing.Take m now) | Session t ↦ to_session w x.message ] ≡ do_at w n doing
    by_address (Shard k) is = ap (λ (p : ℕ × Doing). do_at w p.0 p.1) (pair_is (k, Doing.Take m now) (n, doing) is)
    by_address (Session t) is = absurd (no_pair (n, doing) is)

pub act_is : (w : World) (a : Act) (n : ℕ) (doing : Doing) → IsPlain a → doing_of w a ≡ Some (n, doing) → acts w a ≡ do_at w n doing
unfolding acts
act_is w (Act.At k d) n doing plain is = ap (λ (p : ℕ × Doing). do_at w p.0 p.1) (pair_is (k, d) (n, doing) is)
act_is w (Act.Deliver m now) n doing plain is = delivered_is w m now (slice_get w.bag m) n doing is
act_is w _ n doing plain is = absurd plain

-- the event comes to what its doing does
pub event_so : (w : World) (e : Event) (n : ℕ) (doing : Doing) (s : ShardNow) (result : Result (List Envelope) Fault) → IsPlain e.act →
    doing_of w e.act ≡ Some (n, doing) → slice_get w.shards n ≡ Some s → result ≡ answer_in (effect (setup_of w.config n) w.bag s doing) →
    IsAnswered w e result
unfolding happens
event_so w e n doing s result plain of there is =
    let so : ComesSo w (acts w e.act) result =
    subst (λ (r : Result (List Envelope) Fault). ComesSo w (acts w e.act) r) (sym is)
    (subst (λ (a : After). ComesSo w a (answer_in (effect (setup_of w.config n) w.bag s doing))) (sym (act_is w e.act n doing plain of))
    (do_so w n s doing there)) in
    record { reply = so.reply; put_out = so.bag }

-- ---- the call

module _ {D : Type 0} (keeps obeys : Type 0) (file : D → File) (clock : D → ℕ) (since : D → ℕ → List ℕ → Type 0) (failures : D → ℕ)
    (plan : D → FailurePlan)
    (counts : (disk : D) (moment : ℕ) (image : List ℕ) → moment ≤ clock disk → MayLeave (surface (file disk)) image → since disk moment image)
    (kept : keeps) (config : Config) (bag : List Envelope) (n : ℕ) (s : ShardNow) (known : IsKnown (setup_of config n) s)
    (lasting : IsLasting (facts_of (read_log s)))
    (follows : (doing : Doing) (r : Record) (memory : Memory) (out : List Envelope) →
    effect (setup_of config n) bag s doing ≡ Does (Some r) memory out → IsTrue (followed n (read_log s ++ r ∷ []))) where
  abbrev What : Doing → Stepped
  What doing = effect (setup_of config n) bag s doing

  takes_answer : (doing : Doing) (p : Interval × Input) (old new : Life D) (result : Result (List Envelope) Fault) → IsInput doing →
      input_of bag doing ≡ Some p → Takes keeps obeys file clock since failures plan p.0 p.1 old new result → IsOwnAnswer result →
      LivesAs file (setup_of config n) s old → result ≡ answer_in (What doing)
  takes_answer doing p (Up old) (Up new) result i is k own h = by_state s.state refl h
    where
      by_state : (st : State) → s.state ≡ st → LivesIn file (setup_of config n) s (Up old) st → result ≡ answer_in (What doing)
      by_state (Runs m) runs l =
          steps_answer keeps obeys file clock since failures plan counts kept (setup_of config n) s m old new l (step_of old p.0 p.1) result k own
          ∙ sym (ap answer_in (input_whole keeps obeys file clock since failures plan counts kept config bag n s known lasting follows
          doing p m old i.has is runs l))
      by_state (IsStopped m) stops l =
          stopped_answers keeps obeys file clock since failures plan counts kept (setup_of config n) s old new l.0 l.1 (step_of old p.0 p.1) result k
          ∙ sym (ap answer_in (asks_the_resting (setup_of config n) bag s doing i.goes (ap is_up stops)))
      by_state IsDown down l = absurd l
  takes_answer doing p (Up old) (Down back) result i is k own h = absurd k
  takes_answer doing p (Down disk) (Up new) result i is k own h = absurd k
  takes_answer doing p (Down disk) (Down back) result i is k own h = absurd k

  what_answer : (doing : Doing) (o : Option (Interval × Input)) (old new : Life D) (result : Result (List Envelope) Fault) → IsInput doing →
      input_of bag doing ≡ o → TakesWhat keeps obeys file clock since failures plan o old new result → IsOwnAnswer result →
      LivesAs file (setup_of config n) s old → result ≡ answer_in (What doing)
  what_answer doing None old new result i is k own h = absurd k
  what_answer doing (Some p) old new result i is k own h = takes_answer doing p old new result i is k own h

  turns_answer : (old new : Life D) (result : Result (List Envelope) Fault) → TurnsOver keeps obeys file clock since failures plan old new result →
      IsOwnAnswer result → LivesAs file (setup_of config n) s old → result ≡ answer_in (What Doing.Turn)
  turns_answer (Up old) (Up new) result k own h = by_state s.state refl h
    where
      by_state : (st : State) → s.state ≡ st → LivesIn file (setup_of config n) s (Up old) st → result ≡ answer_in (What Doing.Turn)
      by_state (Runs m) runs l =
          turn_answers keeps obeys file clock since failures plan counts kept (setup_of config n) s m old new l lasting result k.0 k.1 own
          ∙ sym (ap answer_in (turns_as (setup_of config n) bag s ∙ ap (turns_in s) runs))
      by_state (IsStopped m) stops l =
          stopped_turn_answers keeps obeys file clock since failures plan counts kept (setup_of config n) s old new l.0 l.1 result k.0
          ∙ sym (ap answer_in (asks_the_resting (setup_of config n) bag s Doing.Turn refl (ap is_up stops)))
      by_state IsDown down l = absurd l
  turns_answer (Up old) (Down back) result k own h = absurd k
  turns_answer (Down disk) (Up new) result k own h = absurd k
  turns_answer (Down disk) (Down back) result k own h = absurd k

  opens_answer : (new : Life D) (result : Result (List Envelope) Fault) (disk : D) →
      OpensTo keeps obeys file clock since failures plan disk (setup_of config n) new result → IfOk result (λ out. out ≡ []) → is_up s.state ≡ false →
      HoldsLog file s disk → IsOwnAnswer result → result ≡ answer_in (opens_as s)
  opens_answer (Up core) (Ok out) disk k quiet down h own =
      ap (λ o. Ok o) quiet ∙ sym (ap answer_in (opens keeps obeys file clock since failures plan counts kept (setup_of config n) s disk h
      (read_area s).records h.read.0 (k.epoch (read_area s).records kept h.read.0) (k.gate (read_area s).records kept h.read.0).1 known))
  opens_answer (Down back) (Err fault) disk k quiet down h own =
      ap (λ f. Err f) (not_opened_spent keeps obeys file clock since failures plan counts kept (setup_of config n) s disk h fault back k own known)
      ∙ sym (ap answer_in (not_opened keeps obeys file clock since failures plan counts kept (setup_of config n) s disk h fault back k own known).0)
  opens_answer (Up core) (Err fault) disk k quiet down h own = absurd k
  opens_answer (Down back) (Ok out) disk k quiet down h own = absurd k

  pub calls_answer : (doing : Doing) (old new : Life D) (result : Result (List Envelope) Fault) →
      Calls keeps obeys file clock since failures plan (setup_of config n) bag doing old new result → IsOwnAnswer result →
      (doing ≡ Doing.Open → IfOk result (λ out. out ≡ [])) → LivesAs file (setup_of config n) s old → result ≡ answer_in (What doing)
  calls_answer Doing.Open old new result k own quiet h =
      let rests = rests_holds keeps obeys file clock since failures plan counts kept (setup_of config n) s old k.disk k.rests s.state h in
      opens_answer new result k.disk k.opened (quiet refl) rests.0 rests.1 own ∙ sym (ap answer_in (not_up_opens (setup_of config n) bag s rests.0).0)
  calls_answer Doing.Turn old new result k own quiet h = turns_answer old new result k own h
  calls_answer (Doing.Take m now) old new result k own quiet h =
      what_answer (Doing.Take m now) (input_of bag (Doing.Take m now)) old new result (given (Doing.Take m now) refl) refl k own h
  calls_answer (Doing.Resume now) old new result k own quiet h =
      what_answer (Doing.Resume now) (input_of bag (Doing.Resume now)) old new result (given (Doing.Resume now) refl) refl k own h
  calls_answer (Doing.Settle t now) old new result k own quiet h =
      what_answer (Doing.Settle t now) (input_of bag (Doing.Settle t now)) old new result (given (Doing.Settle t now) refl) refl k own h
  calls_answer (Doing.Advance at now) old new result k own quiet h =
      what_answer (Doing.Advance at now) (input_of bag (Doing.Advance at now)) old new result (given (Doing.Advance at now) refl) refl k own h
  calls_answer (Doing.Forget at now) old new result k own quiet h =
      what_answer (Doing.Forget at now) (input_of bag (Doing.Forget at now)) old new result (given (Doing.Forget at now) refl) refl k own h
  calls_answer (Doing.Retire below now) old new result k own quiet h =
      what_answer (Doing.Retire below now) (input_of bag (Doing.Retire below now)) old new result (given (Doing.Retire below now) refl) refl k own h
  calls_answer (Doing.Nudge t now) old new result k own quiet h =
      what_answer (Doing.Nudge t now) (input_of bag (Doing.Nudge t now)) old new result (given (Doing.Nudge t now) refl) refl k own h
