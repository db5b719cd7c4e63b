-- The steps of sessions keep something behind all that there is.
use Rattle.std.proofs.Common.{◌≡◌, inl, inr, ℕ, Bool, true, false, not, cond, ◌&&◌, nat_le, length, List, [], ◌∷◌, ◌++◌, Option, Some, None}
use Rattle.std.proofs.Common.{slice_get, refl, sym, subst, map}
use Rattle.std.specs.List.{AllByRecursion}
use Rattle.std.proofs.lemmas.List.{append-nil}
use Rattle.units.specs.Ids.{Id}
use Rattle.units.specs.Keys.{Bytes, has_key, shard_of, writes_key}
use Rattle.units.specs.declared.fault.Fault.TheVariants.{Stranger}
use Rattle.units.specs.declared.fault.Reason.{Reason}
use Rattle.units.specs.declared.fault.Reason.TheVariants.{Many, Nothing, Again, Awaited, Doomed}
use Rattle.units.specs.declared.line.Line.{Line}
use Rattle.units.specs.declared.writes.Write.{Write}
use Rattle.units.proofs.IdLaws.{same_id-is}
use Rattle.units.proofs.ByIdLaws.{found_is}
use Rattle.message.specs.declared.message.Answer.{Answer}
use Rattle.message.specs.declared.message.Answer.TheVariants as answer
use Rattle.message.specs.declared.message.Address.TheVariants.{Shard}
use Rattle.message.specs.declared.message.Envelope.{Envelope}
use Rattle.message.specs.declared.message.Message.{Message}
use Rattle.message.specs.declared.message.ReadAnswer.{ReadAnswer}
use Rattle.session.specs.Sessions.{Client, Stage, IsOpen, IsClosing, IsOver, Moved, Denies, Goes, unless, closing_messages, messages_for, prepare_for}
use Rattle.session.specs.Sessions.{parts_of, shards_told, reads, buffers, closes, gives_up, finishes, hears, take_answer, is_doomed, epochs_agree}
use Rattle.session.specs.Sessions.{was_taken, asked_keys, was_answered, with_write, is_none, without_key, doomed_by}
use Rattle.world.specs.World.{After, client_of, set_client, moved, refused, if_open, if_not_over, if_closing, if_hearing, answered, read_lines}
use Rattle.world.specs.World.{to_session, look_noted}
use Rattle.world.specs.declared.event.Reply.{Reply}
use Rattle.law.specs.Among.{IsAmong}
use Rattle.law.specs.Evidence.{Scene, ClosedOver, IsOfClosing, MessageEvidence, LineEvidence, is_past_open, Holds}
use Rattle.law.proofs.Changes.{with_world}
use Rattle.law.proofs.Says.{put_out_holds, said_holds, lined, IsNoBegin}
use Rattle.law.proofs.Sessions.{KeepsClosing, client_holds, set_there}

-- something stands behind all that there is after an event
abbrev pub AfterHolds : Scene → After → Type 0
AfterHolds sc after = Holds (with_world sc after.0)

module _ (sc : Scene) (h : Holds sc) (present : slice_get sc.times sc.world.event ≡ Some sc.now) where
  -- what a step of a session may come to
  record MoveEvidence (c d : Client) (out : List Envelope) : Type 0 where
    pub same : d.txn ≡ c.txn
    pub keeps : is_past_open c.stage ≡ true → KeepsClosing sc.world.config.splits c d
    pub told : AllByRecursion (λ (e : Envelope). MessageEvidence (with_world sc (set_client d sc.world)) e.to e.message) out

  abbrev MovedEvidence : Client → Moved → Type 0
  MovedEvidence c (Denies f) = Unit {0}
  MovedEvidence c (Goes d out) = MoveEvidence c d out

  found_txn : (t : Id) (c : Client) → client_of sc.world t ≡ Some c → client_of sc.world c.txn ≡ Some c
  found_txn t c e = subst (λ u. client_of sc.world u ≡ Some c) (sym (same_id-is c.txn t (found_is (λ (d : Client). d.txn) sc.world.clients t c e))) e

  moved_holds : (t : Id) (c : Client) → client_of sc.world t ≡ Some c → (m : Moved) → MovedEvidence c m → AfterHolds sc (moved sc.world m)
  moved_holds t c e (Denies f) evidence = h
  moved_holds t c e (Goes d out) evidence =
      let there : client_of sc.world d.txn ≡ Some c = subst (λ u. client_of sc.world u ≡ Some c) (sym evidence.same) (found_txn t c e) in
      put_out_holds (with_world sc (set_client d sc.world)) out present evidence.told (client_holds sc c d there evidence.keeps h)

  -- refused for a reason, or the step
  unless_evidence : (c : Client) (rs : List (Bool × Reason)) (m : Moved) → MovedEvidence c m → MovedEvidence c (unless rs m)
  unless_evidence c [] m e = e
  unless_evidence c (r ∷ rs) m e = by_test r.0 (unless_evidence c rs m e)
    where
      by_test : (b : Bool) → MovedEvidence c (unless rs m) → MovedEvidence c (cond b (unless ((true, r.1) ∷ []) m) (unless rs m))
      by_test true k = tt
      by_test false k = k

  -- an open session has closed nothing
  open_keeps : (c d : Client) → c.stage ≡ IsOpen → is_past_open c.stage ≡ true → KeepsClosing sc.world.config.splits c d
  open_keeps c d e past = absurd (not_open c.stage e past)
    where
      not_open : (s : Stage) → s ≡ IsOpen → is_past_open s ≡ true → ⊥
      not_open IsOpen k p = cc
      not_open IsClosing k p = cc
      not_open IsOver k p = cc

  reading : (k : Bytes) (c : Client) → c.stage ≡ IsOpen → MovedEvidence c (reads sc.world.config.splits k c)
  unfolding reads
  reading k c e =
      let d : Client = record c { awaited = c.awaited ++ k ∷ [] } in
      let out : List Envelope = record { to = Shard (shard_of sc.world.config.splits k); message = Message.Read (record { txn = c.txn; key = k }) } ∷ [] in
      unless_evidence c ((nat_le 128 (length (asked_keys c)), Many) ∷ (was_answered c k, Again) ∷ (has_key c.awaited k, Awaited) ∷
      (is_doomed c, Doomed) ∷ []) (Goes d out)
      (record { same = refl; keeps = open_keeps c d e; told = (tt, tt) })

  buffering : (w : Write) (c : Client) → c.stage ≡ IsOpen → MovedEvidence c (buffers w c)
  unfolding buffers
  buffering w c e =
      let d : Client = record c { writes = with_write c.writes w } in
      unless_evidence c ((nat_le 128 (length c.writes) && not (writes_key c.writes w.key), Many) ∷ (is_doomed c, Doomed) ∷ []) (Goes d [])
      (record { same = refl; keeps = open_keeps c d e; told = tt })

  -- the messages of a closing, each among them
  prepares_told : (sc2 : Scene) (c : Client) (n : ℕ) (ns : List ℕ) →
      ((e : Envelope) → IsAmong (map (prepare_for sc.world.config.splits c n) ns) e → IsOfClosing sc2.world c.txn e) →
      AllByRecursion (λ (e : Envelope). MessageEvidence sc2 e.to e.message) (map (prepare_for sc.world.config.splits c n) ns)
  prepares_told sc2 c n [] all = tt
  prepares_told sc2 c n (m ∷ ms) all = (all _ (inl refl), prepares_told sc2 c n ms (λ e k. all e (inr k)))

  closing_told : (sc2 : Scene) (c : Client) (ps : List ℕ) →
      ((e : Envelope) → IsAmong (messages_for sc.world.config.splits c ps) e → IsOfClosing sc2.world c.txn e) →
      AllByRecursion (λ (e : Envelope). MessageEvidence sc2 e.to e.message) (messages_for sc.world.config.splits c ps)
  closing_told sc2 c [] all = tt
  closing_told sc2 c (n ∷ ns) all = (all _ (inl refl), prepares_told sc2 c n ns (λ e k. all e (inr k)))

  closing : (c : Client) → client_of sc.world c.txn ≡ Some c → c.stage ≡ IsOpen → MovedEvidence c (closes sc.world.config.splits c)
  unfolding closes closing_messages
  closing c there e =
      let closed : Client = record c { stage = IsClosing } in
      let sc2 = with_world sc (set_client closed sc.world) in
      let over : ClosedOver sc2.world c.txn (closing_messages sc.world.config.splits c) = record {
        client = closed;
        there = set_there sc c closed there (open_keeps c closed e);
        closed = refl;
        same = refl;
      } in
      unless_evidence c ((is_none (asked_keys c) && is_none c.writes, Nothing) ∷ (not (is_none c.awaited), Awaited) ∷ (is_doomed c, Doomed) ∷ [])
      (Goes closed (closing_messages sc.world.config.splits c)) (record {
        same = refl;
        keeps = open_keeps c closed e;
        told = closing_told sc2 c (parts_of sc.world.config.splits c)
            (λ x k. record { messages = closing_messages sc.world.config.splits c; over = over; among = k });
      })

  give_ups_told : (sc2 : Scene) (t : Id) (ns : List ℕ) →
      AllByRecursion (λ (e : Envelope). MessageEvidence sc2 e.to e.message)
      (map (λ n. record { to = Shard n; message = Message.GiveUp (record { txn = t }) }) ns)
  give_ups_told sc2 t [] = tt
  give_ups_told sc2 t (n ∷ ns) = (tt, give_ups_told sc2 t ns)

  giving_up : (c : Client) → MovedEvidence c (gives_up sc.world.config.splits c)
  unfolding gives_up closing_messages
  giving_up c = record {
    same = refl;
    keeps = λ past. record { closed = λ p. refl; messages = refl };
    told = give_ups_told (with_world sc (set_client (record c { stage = IsOver }) sc.world)) c.txn (shards_told sc.world.config.splits c);
  }

  finishing : (c : Client) → MovedEvidence c (finishes c)
  unfolding closing_messages
  finishing c = record { same = refl; keeps = λ past. record { closed = λ p. refl; messages = refl }; told = tt }

  -- ---- by the session of an id

  if_open_holds : (f : Client → Moved) → ((c : Client) → client_of sc.world c.txn ≡ Some c → c.stage ≡ IsOpen → MovedEvidence c (f c)) →
      (t : Id) (o : Option Client) → client_of sc.world t ≡ o → AfterHolds sc (if_open sc.world o f)
  if_open_holds f steps t None e = h
  if_open_holds f steps t (Some c) e = by_stage c.stage refl
    where
      by_stage : (s : Stage) → c.stage ≡ s → AfterHolds sc (elim s as (λ x. After) [ IsOpen ↦ moved sc.world (f c) | _ ↦ refused sc.world Stranger ])
      by_stage IsOpen is = moved_holds t c e (f c) (steps c (found_txn t c e) is)
      by_stage IsClosing is = h
      by_stage IsOver is = h

  pub reads_hold : (t : Id) (k : Bytes) → AfterHolds sc (if_open sc.world (client_of sc.world t) (reads sc.world.config.splits k))
  reads_hold t k = if_open_holds (reads sc.world.config.splits k) (λ c there open_now. reading k c open_now) t (client_of sc.world t) refl

  pub writes_hold : (t : Id) (w : Write) → AfterHolds sc (if_open sc.world (client_of sc.world t) (buffers w))
  writes_hold t w = if_open_holds (buffers w) (λ c there open_now. buffering w c open_now) t (client_of sc.world t) refl

  pub closes_hold : (t : Id) → AfterHolds sc (if_open sc.world (client_of sc.world t) (closes sc.world.config.splits))
  closes_hold t = if_open_holds (closes sc.world.config.splits) closing t (client_of sc.world t) refl

  pub quits_hold : (t : Id) (o : Option Client) → client_of sc.world t ≡ o → AfterHolds sc (if_not_over sc.world o (gives_up sc.world.config.splits))
  quits_hold t None e = h
  quits_hold t (Some c) e = by_stage c.stage
    where
      by_stage : (s : Stage) → AfterHolds sc (elim s as (λ x. After) [
        | IsOver ↦ refused sc.world Stranger
        | _ ↦
            moved sc.world (gives_up sc.world.config.splits c)
      ])
      by_stage IsOver = h
      by_stage IsOpen = moved_holds t c e (gives_up sc.world.config.splits c) (giving_up c)
      by_stage IsClosing = moved_holds t c e (gives_up sc.world.config.splits c) (giving_up c)

  if_closing_holds : (t : Id) (o : Option Client) → client_of sc.world t ≡ o → AfterHolds sc (if_closing sc.world o)
  if_closing_holds t None e = h
  if_closing_holds t (Some c) e = by_stage c.stage
    where
      by_stage : (s : Stage) → AfterHolds sc (elim s as (λ x. After) [ IsClosing ↦ moved sc.world (finishes c) | _ ↦ refused sc.world Stranger ])
      by_stage IsOver = h
      by_stage IsOpen = h
      by_stage IsClosing = moved_holds t c e (finishes c) (finishing c)

  -- ---- an answer

  taken_txn : (c : Client) (n : ℕ) (k : Bytes) (epoch : ℕ) (a : Answer) → (take_answer c n k epoch a).txn ≡ c.txn
  taken_txn c n k epoch answer.Refused = refl
  taken_txn c n k epoch (answer.Holds x) = by_test (epochs_agree c.taken n epoch)
    where
      by_test : (b : Bool) → (cond b (record c {
        taken = c.taken ++ record { key = k; shard = n; epoch = epoch; value = x } ∷ [];
        awaited =
            without_key c.awaited k;
      }) (doomed_by k c)).txn ≡ c.txn
      by_test true = refl
      by_test false = refl

  heard_txn : (c : Client) (n : ℕ) (k : Bytes) (epoch : ℕ) (a : Answer) → (hears n k epoch a c).txn ≡ c.txn
  unfolding hears
  heard_txn c n k epoch a = by_test (has_key c.awaited k && not (is_doomed c))
    where
      by_test : (b : Bool) → (cond b (take_answer c n k epoch a) c).txn ≡ c.txn
      by_test true = taken_txn c n k epoch a
      by_test false = refl

  lines_told : (sc2 : Scene) (c d : Client) (k : Bytes) (a : Answer) → AllByRecursion (λ l. IsNoBegin l × LineEvidence sc2 l) (read_lines c d k a)
  lines_told sc2 c d k answer.Refused = tt
  lines_told sc2 c d k (answer.Holds x) = by_test (was_taken d k && not (was_taken c k))
    where
      by_test : (b : Bool) → AllByRecursion (λ l. IsNoBegin l × LineEvidence sc2 l) (cond b (Line.Read c.txn k x ∷ []) [])
      by_test true = ((tt, tt), tt)
      by_test false = tt

  -- lines alone
  lines_hold : (sc2 : Scene) (ls : List Line) → ((sc3 : Scene) → AllByRecursion (λ l. IsNoBegin l × LineEvidence sc3 l) ls) → Holds sc2 →
      Holds (with_world sc2 (lined ls sc2.world))
  lines_hold sc2 ls written k =
      subst (λ bag. Holds (with_world sc2 (record (sc2.world) { bag = bag; lines = sc2.world.lines ++ ls }))) (append-nil sc2.world.bag)
      (said_holds sc2 [] ls tt (written _) k)

  if_hearing_holds : (t : Id) (a : ReadAnswer) (o : Option Client) → client_of sc.world t ≡ o → AfterHolds sc (if_hearing sc.world o a)
  if_hearing_holds t a None e = h
  if_hearing_holds t a (Some c) e = by_stage c.stage refl
    where
      by_stage : (s : Stage) → c.stage ≡ s → AfterHolds sc (elim s as (λ x. After) [ IsOpen ↦ answered sc.world c a | _ ↦ refused sc.world Stranger ])
      by_stage IsOver is = h
      by_stage IsClosing is = h
      by_stage IsOpen is =
          let d = hears a.from a.key a.epoch a.answer c in
          let there : client_of sc.world d.txn ≡ Some c = subst (λ u. client_of sc.world u ≡ Some c)
          (sym (heard_txn c a.from a.key a.epoch a.answer)) (found_txn t c e) in
          lines_hold (with_world sc (set_client d sc.world)) (read_lines c d a.key a.answer) (λ sc3. lines_told sc3 c d a.key a.answer)
          (client_holds sc c d there (open_keeps c d is) h)

  -- a message comes to a session
  pub to_session_holds : (m : Message) → AfterHolds sc (to_session sc.world m)
  unfolding to_session
  to_session_holds (Message.ReadAnswer a) = if_hearing_holds a.txn a (client_of sc.world a.txn) refl
  to_session_holds (Message.Done d) = if_closing_holds d.txn (client_of sc.world d.txn) refl
  to_session_holds _ = h

-- an answered look is written down
pub look_holds : (sc : Scene) (k : Bytes) (at : ℕ) (r : Reply) → Holds sc → AfterHolds sc (look_noted sc.world k at r)
look_holds sc k at (Reply.Shows x) h =
    subst (λ bag. Holds (with_world sc (record (sc.world) { bag = bag; lines = sc.world.lines ++ Line.Look k at x ∷ [] }))) (append-nil sc.world.bag)
    (said_holds sc [] (Line.Look k at x ∷ []) tt ((tt, tt), tt) h)
look_holds sc k at _ h = h
