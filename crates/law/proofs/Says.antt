-- Messages that are put out and lines that are written keep something behind all that there is.
use Rattle.std.proofs.Common.{◌≡◌, inl, inr, ℕ, Bool, true, false, cond, List, [], ◌∷◌, ◌++◌, Option, Some, None, slice_get, refl, arith, flat_map}
use Rattle.std.specs.List.{AllByRecursion, list_any}
use Rattle.units.specs.Lists.{when}
use Rattle.units.specs.Ids.{Id}
use Rattle.units.specs.declared.line.Line.{Line}
use Rattle.message.specs.declared.message.Address.{Address}
use Rattle.message.specs.declared.message.Envelope.{Envelope}
use Rattle.message.specs.declared.message.Message.{Message}
use Rattle.world.specs.World.{World, put_out, acks_of, ack_of, commit_told}
use Rattle.law.specs.Among.{IsAmong}
use Rattle.law.specs.Evidence.{Scene, MessageEvidence, AckEvidence, LineEvidence, Holds}
use Rattle.law.proofs.Members.{among_left, among_right, among_cases, all_append, all_at}
use Rattle.law.proofs.Grows.{Grows, message_stays, line_stays, began_stays}
use Rattle.law.proofs.Changes.{with_world, shard_stays}

-- more messages
abbrev pub bagged : List Envelope → World → World
bagged out w = record w { bag = w.bag ++ out }

-- more lines
abbrev pub lined : List Line → World → World
lined ls w = record w { lines = w.lines ++ ls }

-- a line that tells of no beginning
abbrev pub IsNoBegin : Line → Type 0
IsNoBegin (Line.Begin t event) = ⊥
IsNoBegin _ = Unit {0}

-- a scene with the same sessions and shards, and more messages and lines
module _ (sc : Scene) (out : List Envelope) (ls : List Line) where
  pub said_grows : Grows sc (with_world sc (lined ls (bagged out sc.world)))
  said_grows = record {
    sent = λ e h. among_left sc.world.bag out e h;
    lines = λ l h. among_left sc.world.lines ls l h;
    times = λ i time h. h;
    asked = λ r h. h;
    decided = λ n c h. h;
    now = omega arith;
    closed = λ t messages h. record { client = h.client; there = h.there; closed = h.closed; same = h.same };
    logs = λ n r h. h;
  }

  pub said_holds : AllByRecursion (λ (e : Envelope). MessageEvidence sc e.to e.message) out →
      AllByRecursion (λ l. IsNoBegin l × LineEvidence (with_world sc (lined ls (bagged out sc.world))) l) ls →
      Holds sc → Holds (with_world sc (lined ls (bagged out sc.world)))
  said_holds told written h = record {
    counted = h.counted;
    messages = λ e k. elim (among_cases sc.world.bag out e k) [
      | inl old ↦ message_stays sc _ said_grows e.to e.message (h.messages e old)
      | inr new ↦ message_stays sc _ said_grows e.to e.message (all_at (λ (x : Envelope). MessageEvidence sc x.to x.message) out e told new)
    ];
    shards = λ n s e. shard_stays sc _ said_grows n s (h.shards n s e);
    lines = λ l k. elim (among_cases sc.world.lines ls l k) [
      | inl old ↦ line_stays sc _ said_grows l (h.lines l old)
      | inr new ↦ (all_at (λ x. IsNoBegin x × LineEvidence (with_world sc (lined ls (bagged out sc.world))) x) ls l written new).1
    ];
    clients = λ t c e. began_stays sc _ said_grows t sc.now (h.clients t c e);
    begun = λ t event k. h.begun t event (old_begin t event k);
    once = λ t event other k l. h.once t event other (old_begin t event k) (old_begin t other l);
  }
    where
      old_begin : (t : Id) (event : ℕ) → IsAmong (sc.world.lines ++ ls) (Line.Begin t event) → IsAmong sc.world.lines (Line.Begin t event)
      old_begin t event k = elim (among_cases sc.world.lines ls (Line.Begin t event) k) [
        | inl old ↦ old
        | inr new ↦ absurd ((all_at (λ x. IsNoBegin x × LineEvidence (with_world sc (lined ls (bagged out sc.world))) x) ls (Line.Begin t event) written new).0)
      ]

-- the lines of the acknowledgements among new messages rest on these
module _ (sc : Scene) (out : List Envelope) (ls : List Line) (present : slice_get sc.times sc.world.event ≡ Some sc.now) where
  ack_written : (to : Address) (t : Id) (o : Option ℕ) → IsAmong out (record { to = to; message = Message.Done (record { txn = t; outcome = o }) }) →
      MessageEvidence sc to (Message.Done (record { txn = t; outcome = o })) →
      AllByRecursion (λ l. IsNoBegin l × LineEvidence (with_world sc (lined ls (bagged out sc.world))) l) (ack_of sc.world t o)
  ack_written to t None there told = tt
  ack_written to t (Some s) there told =
      by_test (list_any (λ e. when (λ x. true) (commit_told t e)) sc.world.bag) (record {
        to = to;
        sent = among_right sc.world.bag out _ there;
        time = sc.now;
        timed = present;
        above = told.told.passed;
      })
    where
      by_test : (c : Bool) → AckEvidence (with_world sc (lined ls (bagged out sc.world))) t s sc.world.event →
          AllByRecursion (λ l. IsNoBegin l × LineEvidence (with_world sc (lined ls (bagged out sc.world))) l) (cond c [] (Line.Ack t s sc.world.event ∷ []))
      by_test true e = tt
      by_test false e = ((tt, e), tt)

  of_message : (to : Address) (m : Message) → IsAmong out (record { to = to; message = m }) → MessageEvidence sc to m →
      AllByRecursion (λ l. IsNoBegin l × LineEvidence (with_world sc (lined ls (bagged out sc.world))) l) (acks_of sc.world (record { to = to; message = m }))
  of_message to (Message.Done d) there told = ack_written to d.txn d.outcome there told
  of_message to _ there told = tt

  pub acks_written : (some : List Envelope) → ((e : Envelope) → IsAmong some e → IsAmong out e) →
      AllByRecursion (λ (e : Envelope). MessageEvidence sc e.to e.message) some →
      AllByRecursion (λ l. IsNoBegin l × LineEvidence (with_world sc (lined ls (bagged out sc.world))) l) (flat_map (acks_of sc.world) some)
  acks_written [] among told = tt
  acks_written (e ∷ es) among told =
      all_append (λ l. IsNoBegin l × LineEvidence (with_world sc (lined ls (bagged out sc.world))) l) (acks_of sc.world e) (flat_map (acks_of sc.world) es)
      (of_message e.to e.message (among e (inl refl)) told.0) (acks_written es (λ x k. among x (inr k)) told.1)

-- messages are put out
pub put_out_holds : (sc : Scene) (out : List Envelope) → slice_get sc.times sc.world.event ≡ Some sc.now →
    AllByRecursion (λ (e : Envelope). MessageEvidence sc e.to e.message) out → Holds sc → Holds (with_world sc (put_out out sc.world))
unfolding put_out
put_out_holds sc out present told h =
    said_holds sc out (flat_map (acks_of sc.world) out) told (acks_written sc out (flat_map (acks_of sc.world) out) present out (λ e k. k) told) h
