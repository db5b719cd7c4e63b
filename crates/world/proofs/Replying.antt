-- What a step of a session or a message to it is, in the definitions.
use Rattle.std.proofs.Common.{◌≡◌, inl, inr, ℕ, true, not, List, [], ◌∷◌, ◌++◌, Option, Some, None, Result, Ok, Err}
use Rattle.std.proofs.Common.{refl, sym, ap, ◌∙◌, subst}
use Rattle.units.specs.Keys.{Bytes}
use Rattle.std.proofs.lemmas.List.{append-nil}
use Rattle.units.specs.Ids.{Id}
use Rattle.units.specs.Lists.{when}
use Rattle.units.specs.declared.fault.Fault.{Fault}
use Rattle.units.specs.declared.fault.Fault.TheVariants.{Stranger}
use Rattle.units.specs.declared.line.Line.{Line}
use Rattle.message.specs.Ends.{End}
use Rattle.message.specs.declared.message.Envelope.{Envelope}
use Rattle.message.specs.declared.message.Message.{Message}
use Rattle.message.specs.declared.message.ReadAnswer.{ReadAnswer}
use Rattle.session.specs.Sessions.{Client, Stage, IsOpen, IsClosing, IsOver, Moved, Denies, Goes, begun, finishes}
use Rattle.world.specs.World.{World, After, answered, begin, client_of, if_closing, if_hearing, if_not_over, if_open, moved, note, put_out, read_lines, refused}
use Rattle.world.specs.World.{set_client, to_session}
use Rattle.world.specs.Lawful.{may_act}
use Rattle.world.specs.Held.{when_closing, when_not_over, when_open}
use Rattle.world.specs.Hosts.{HearsIn, Hosts, MovesIn, session_step, with_client}
use Rattle.world.specs.Comes.{ComesOf, HasHeard, HasReplied, TakesMessage, is_of_session, no_line, with_line}
use Rattle.world.specs.Passed.{IsOutput}
use Rattle.world.specs.declared.event.Act.{Act}
use Rattle.world.specs.declared.event.Reply.{Reply}
use Rattle.world.specs.declared.hosting.Sessions.{Sessions}
use Rattle.world.specs.declared.output.RunOutput.{RunOutput}

-- ---- steps of sessions

pub open_moves : (w : World) (o : Option Client) (f : Client → Moved) → if_open w o f ≡ moved w (session_step (when_open f) o)
open_moves w None f = refl
open_moves w (Some c) f = by_stage c.stage
  where
    by_stage : (s : Stage) → elim s as (λ x. After) [ IsOpen ↦ moved w (f c) | _ ↦ refused w Stranger ] ≡
        moved w (elim s as (λ x. Moved) [ IsOpen ↦ f c | _ ↦ Denies Stranger ])
    by_stage IsOpen = refl
    by_stage _ = refl

pub not_over_moves : (w : World) (o : Option Client) (f : Client → Moved) → if_not_over w o f ≡ moved w (session_step (when_not_over f) o)
not_over_moves w None f = refl
not_over_moves w (Some c) f = by_stage c.stage
  where
    by_stage : (s : Stage) → elim s as (λ x. After) [ IsOver ↦ refused w Stranger | _ ↦ moved w (f c) ] ≡
        moved w (elim s as (λ x. Moved) [ IsOver ↦ Denies Stranger | _ ↦ f c ])
    by_stage IsOpen = refl
    by_stage _ = refl

pub closing_moves : (w : World) (o : Option Client) → if_closing w o ≡ moved w (session_step when_closing o)
closing_moves w None = refl
closing_moves w (Some c) = by_stage c.stage
  where
    by_stage : (s : Stage) → elim s as (λ x. After) [ IsClosing ↦ moved w (finishes c) | _ ↦ refused w Stranger ] ≡
        moved w (elim s as (λ x. Moved) [ IsClosing ↦ finishes c | _ ↦ Denies Stranger ])
    by_stage IsOpen = refl
    by_stage _ = refl

-- an open session hears the answer
pub open_hears : (w : World) (c : Client) (a : ReadAnswer) → c.stage ≡ IsOpen → if_hearing w (Some c) a ≡ answered w c a
open_hears w c a is = ap (λ s. elim s as (λ x. After) [ IsOpen ↦ answered w c a | _ ↦ refused w Stranger ]) is

-- any other is a stranger
pub others_hear_not : (w : World) (o : Option Client) (a : ReadAnswer) → session_step (when_open finishes) o ≡ Denies Stranger →
    if_hearing w o a ≡ refused w Stranger
others_hear_not w None a h = refl
others_hear_not w (Some c) a h = by_stage c.stage h
  where
    by_stage : (s : Stage) → elim s as (λ x. Moved) [ IsOpen ↦ finishes c | _ ↦ Denies Stranger ] ≡ Denies Stranger →
        elim s as (λ x. After) [ IsOpen ↦ answered w c a | _ ↦ refused w Stranger ] ≡ refused w Stranger
    by_stage IsOpen e = absurd (cc)
    by_stage IsClosing e = refl
    by_stage IsOver e = refl

-- a session that may begin has not begun
pub is_new : (w : World) (time : ℕ) (t : Id) → may_act w time (Act.Begin t) ≡ true → client_of w t ≡ None
unfolding may_act
is_new w time t may = by_value (client_of w t) may
  where
    by_value : (o : Option Client) → not (when (λ c. true) o) ≡ true → o ≡ None
    by_value None e = refl
    by_value (Some c) e = absurd (cc)

-- ---- messages to sessions

module _ (w : World) (new : Sessions) where
  nothing_put : (d : Client) → put_out [] (set_client d w) ≡ with_line None (set_client d w)
  unfolding put_out
  nothing_put d = ap (λ bag. record w { clients = with_client d w.clients; bag = bag; lines = w.lines ++ [] }) (append-nil w.bag)

  end_taken : (o : Option Client) (d : Client) (out : List Envelope) → session_step when_closing o ≡ Goes d out →
      moved w (Goes d out) ≡ (with_line None (set_client d w), Reply.Done)
  end_taken None d out h = absurd (cc)
  end_taken (Some c) d out h = by_stage c.stage h
    where
      by_stage : (s : Stage) → elim s as (λ x. Moved) [ IsClosing ↦ finishes c | _ ↦ Denies Stranger ] ≡ Goes d out →
          moved w (Goes d out) ≡ (with_line None (set_client d w), Reply.Done)
      by_stage IsOpen e = absurd (cc)
      by_stage IsOver e = absurd (cc)
      by_stage IsClosing e =
          let none : out ≡ [] = cc in
          (λ i. (put_out (none i) (set_client d w), Reply.Done)) ∙ (λ i. (nothing_put d i, Reply.Done))

  -- the end of a transaction
  pub takes_end : (e : End) (answer : Result (List Envelope) Fault) → MovesIn w.config.splits
      (session_step when_closing (client_of w e.txn)) new w.clients answer → TakesMessage w (Message.Done e) new (no_line answer)
  unfolding to_session
  takes_end e (Ok out) moves = (
    moves.0,
    closing_moves w (client_of w e.txn) ∙ ap (moved w) moves.1
        ∙ end_taken (client_of w e.txn) moves.0 out moves.1,
    moves.2,
  )
  takes_end e (Err fault) (inl memory) = inl memory
  takes_end e (Err fault) (inr moves) = inr (closing_moves w (client_of w e.txn) ∙ ap (moved w) moves.0, moves.1)

  -- an answer
  pub takes_answer : (a : ReadAnswer) (answer : Result (Option Line) Fault) → HearsIn w.config.splits a new w.clients (client_of w a.txn) answer →
      TakesMessage w (Message.ReadAnswer a) new answer
  unfolding to_session
  takes_answer a (Ok line) hears =
      let d = hears.3 in (
        d.0,
        ap (λ o. if_hearing w o a) hears.1 ∙ open_hears w hears.0 a hears.2
            ∙ (λ i. (record w { clients = with_client (sym d.1 i) w.clients; lines = w.lines ++ read_lines hears.0 (sym d.1 i) a.key a.answer }, Reply.Done))
            ∙ (λ i. (record w { clients = with_client d.0 w.clients; lines = w.lines ++ sym d.2 i }, Reply.Done)),
        d.3,
      )
  takes_answer a (Err fault) (inl memory) = inl memory
  takes_answer a (Err fault) (inr hears) = inr (others_hear_not w (client_of w a.txn) a hears.1 ∙ ap (λ f. refused w f) (sym hears.0), hears.2)

  -- no other message is for a session
  pub no_others : (m : Message) → ((x : ReadAnswer) → m ≡ Message.ReadAnswer x → ⊥) → ((x : End) → m ≡ Message.Done x → ⊥) →
      to_session w m ≡ refused w Stranger
  unfolding to_session
  no_others (Message.ReadAnswer x) answer end = absurd (answer x refl)
  no_others (Message.Done x) answer end = absurd (end x refl)
  no_others _ answer end = refl

-- ---- acts of sessions

module _ (w : World) (old new : RunOutput) (s : Sessions) (h : IsOutput old w) where
  -- a session begins
  pub begin_comes : (t : Id) (number : ℕ) (result : Result Reply Fault) → number ≡ w.event
      → Hosts w.config.splits s (w.clients ++ begun t ∷ [])
      → ((v : World) → IsOutput old v → HasHeard v (Ok (Some (Line.Begin t number))) new result)
      → ComesOf w (begin t w, Reply.Done) s new result
  begin_comes t number (Err fault) is hosts heard = heard w h
  begin_comes t number (Ok reply) is hosts heard =
      let r = heard (record w { clients = w.clients ++ begun t ∷ [] }) (record { bag = h.bag; told = h.told; lines = h.lines; event = h.event }) in (
        r.0,
        hosts,
        subst (λ n. IsOutput new (note (Line.Begin t n) (record w { clients = w.clients ++ begun t ∷ [] }))) is r.1,
        refl,
        refl,
        refl,
      )

  -- a session takes a step
  pub step_comes : (m : Moved) (answer : Result (List Envelope) Fault) (result : Result Reply Fault) → MovesIn w.config.splits m s w.clients answer
      → ((v : World) → IsOutput old v → HasReplied v answer new result) → ComesOf w (moved w m) s new result
  unfolding put_out
  step_comes m (Ok out) (Ok reply) moves replies =
      let r = replies (set_client moves.0 w) (record { bag = h.bag; told = h.told; lines = h.lines; event = h.event }) in
      subst (λ n. ComesOf w (moved w n) s new (Ok reply)) (sym moves.1) (r.0, moves.2, r.1, refl, refl, refl)
  step_comes m (Ok out) (Err fault) moves replies = replies w h
  step_comes m (Err why) (Ok reply) (inl memory) replies = absurd ((replies w h).0 memory)
  step_comes m (Err why) (Ok reply) (inr moves) replies =
      let r = replies w h in
      subst (λ n. ComesOf w (moved w n) s new (Ok reply)) (sym moves.0) (r.1, moves.1, r.2, refl, refl, refl)
  step_comes m (Err why) (Err fault) moves replies = replies w h

-- an act that is none of these is of no session
pub no_session : (a : Act) → is_of_session a ≡ true → ((t : Id) → a ≡ Act.Begin t → ⊥) → ((t : Id) (k : Bytes) → a ≡ Act.Read t k → ⊥)
    → ((t : Id) (k : Bytes) (x : Option Bytes) → a ≡ Act.Write t k x → ⊥) → ((t : Id) → a ≡ Act.Close t → ⊥) → ((t : Id) → a ≡ Act.Quit t → ⊥) → ⊥
no_session (Act.Begin t) is begin read write close quit = begin t refl
no_session (Act.Read t k) is begin read write close quit = read t k refl
no_session (Act.Write t k x) is begin read write close quit = write t k x refl
no_session (Act.Close t) is begin read write close quit = close t refl
no_session (Act.Quit t) is begin read write close quit = quit t refl
no_session _ is begin read write close quit = cc
