-- What sessions do keeps something behind all that there is: each transaction has one set of closing messages.
use Rattle.std.proofs.Common.{◌≡◌, ◌⊎◌, inl, inr, ℕ, Bool, true, false, cond, List, [], ◌∷◌, ◌++◌, Option, Some, None, slice_get, refl, sym, ap}
use Rattle.std.proofs.Common.{subst, ◌∙◌, arith, option_map}
use Rattle.units.specs.Lists.{first, head}
use Rattle.units.specs.Ids.{Id, same_id}
use Rattle.units.specs.Keys.{Bytes}
use Rattle.units.specs.declared.line.Line.{Line}
use Rattle.units.proofs.IdLaws.{same_id-is, same_id-refl}
use Rattle.units.proofs.ByIdLaws.{found_is, find-map}
use Rattle.units.proofs.Folds.{or_else, first_append}
use Rattle.message.specs.declared.message.Envelope.{Envelope}
use Rattle.session.specs.Sessions.{Client, begun, closing_messages}
use Rattle.world.specs.World.{World, client_of, set_client, begin}
use Rattle.law.specs.Among.{IsAmong}
use Rattle.law.specs.Evidence.{Scene, ClosedOver, BeganBy, LineEvidence, is_past_open, Holds}
use Rattle.law.proofs.Members.{among_left, among_last, among_cases}
use Rattle.law.proofs.Grows.{Grows, message_stays, line_stays, began_stays}
use Rattle.law.proofs.Changes.{with_world, shard_stays}
use Rattle.law.proofs.Picked.{some_same}

-- ---- another session in the place of one

chosen_txn : (c d : Client) → (cond (same_id d.txn c.txn) c d).txn ≡ d.txn
chosen_txn c d = by_test (same_id d.txn c.txn) refl
  where
    by_test : (b : Bool) → same_id d.txn c.txn ≡ b → (cond b c d).txn ≡ d.txn
    by_test true e = sym (same_id-is d.txn c.txn e)
    by_test false e = refl

pub client_set : (w : World) (c : Client) (t : Id) → client_of (set_client c w) t ≡ option_map (λ d. cond (same_id d.txn c.txn) c d) (client_of w t)
client_set w c t = find-map (λ (d : Client). d.txn) (λ (d : Client). d.txn) (λ d. cond (same_id d.txn c.txn) c d) (chosen_txn c) w.clients t

-- a session that is not open keeps its closing
pub record KeepsClosing (splits : List Bytes) (old new : Client) : Type 0 where
  pub closed : is_past_open old.stage ≡ true → is_past_open new.stage ≡ true
  pub messages : closing_messages splits new ≡ closing_messages splits old

module _ (sc : Scene) (old new : Client) (there : client_of sc.world new.txn ≡ Some old) (keeps : is_past_open old.stage ≡ true →
    KeepsClosing sc.world.config.splits old new) where
  closed_stays : (t : Id) (messages : List Envelope) → ClosedOver sc.world t messages → ClosedOver (set_client new sc.world) t messages
  closed_stays t messages h = by_test (same_id h.client.txn new.txn) refl (client_set sc.world new t
      ∙ ap (option_map (λ d. cond (same_id d.txn new.txn) new d)) h.there)
    where
      by_test : (b : Bool) → same_id h.client.txn new.txn ≡ b → client_of (set_client new sc.world) t ≡ Some (cond b new h.client) →
          ClosedOver (set_client new sc.world) t messages
      by_test false e now_there = record { client = h.client; there = now_there; closed = h.closed; same = h.same }
      by_test true e now_there =
          let txn : t ≡ new.txn = sym (same_id-is h.client.txn t (found_is (λ (d : Client). d.txn) sc.world.clients t h.client h.there))
          ∙ same_id-is h.client.txn new.txn e in
          let one : h.client ≡ old = some_same h.client old (sym h.there ∙ ap (client_of sc.world) txn ∙ there) in
          let past : is_past_open old.stage ≡ true = subst (λ (d : Client). is_past_open d.stage ≡ true) one h.closed in
          record {
            client = new;
            there = now_there;
            closed = (keeps past).closed past;
            same = (keeps past).messages ∙ ap (closing_messages sc.world.config.splits) (sym one) ∙ h.same;
          }

  pub client_grows : Grows sc (with_world sc (set_client new sc.world))
  client_grows = record {
    sent = λ e h. h;
    lines = λ l h. h;
    times = λ i time h. h;
    asked = λ r h. h;
    decided = λ n c h. h;
    now = omega arith;
    closed = closed_stays;
    logs = λ n r h. h;
  }

  was_there : (t : Id) (c : Client) → client_of (set_client new sc.world) t ≡ Some c → (d : Client) × (client_of sc.world t ≡ Some d)
  was_there t c e = by_value (client_of sc.world t) refl (sym (client_set sc.world new t) ∙ e)
    where
      by_value : (o : Option Client) → client_of sc.world t ≡ o → option_map (λ d. cond (same_id d.txn new.txn) new d) o ≡ Some c → (d : Client)
          × (client_of sc.world t ≡ Some d)
      by_value None is k = absurd (cc)
      by_value (Some d) is k = (d, is)

  still_there : (t : Id) (d : Client) → client_of sc.world t ≡ Some d → (c : Client) × (client_of (set_client new sc.world) t ≡ Some c)
  still_there t d e = (cond (same_id d.txn new.txn) new d, client_set sc.world new t ∙ ap (option_map (λ x. cond (same_id x.txn new.txn) new x)) e)

  pub client_holds : Holds sc → Holds (with_world sc (set_client new sc.world))
  client_holds h = record {
    counted = h.counted;
    messages = λ e k. message_stays sc _ client_grows e.to e.message (h.messages e k);
    shards = λ n s e. shard_stays sc _ client_grows n s (h.shards n s e);
    lines = λ l k. line_stays sc _ client_grows l (h.lines l k);
    clients = λ t c e. let w = was_there t c e in began_stays sc _ client_grows t sc.now (h.clients t w.0 w.1);
    begun = λ t event k. let b = h.begun t event k in still_there t b.0 b.1;
    once = λ t event other k l. h.once t event other k l;
  }

  -- the session is there now
  pub set_there : client_of (set_client new sc.world) new.txn ≡ Some new
  set_there =
      let same : same_id old.txn new.txn ≡ true = found_is (λ (d : Client). d.txn) sc.world.clients new.txn old there in
      client_set sc.world new new.txn ∙ ap (option_map (λ d. cond (same_id d.txn new.txn) new d)) there ∙ ap (λ b. Some (cond b new old)) same

-- ---- a session begins

-- whose beginning a line tells, and at which event
abbrev line_id : Line → Option Id
line_id (Line.Begin u event) = Some u
line_id _ = None

abbrev line_event : Line → ℕ
line_event (Line.Begin u event) = event
line_event _ = 0

module _ (sc : Scene) (t : Id) (fresh : client_of sc.world t ≡ None) (present : slice_get sc.times sc.world.event ≡ Some sc.now) where
  client_begun : (u : Id) → client_of (begin t sc.world) u ≡ or_else (client_of sc.world u) (first (λ c. same_id c.txn u) (begun t ∷ []))
  client_begun u = first_append (λ c. same_id c.txn u) sc.world.clients (begun t ∷ [])

  stays_begun : (u : Id) (c : Client) → client_of sc.world u ≡ Some c → client_of (begin t sc.world) u ≡ Some c
  stays_begun u c e = client_begun u ∙ ap (λ o. or_else o (first (λ d. same_id d.txn u) (begun t ∷ []))) e

  pub begin_grows : Grows sc (with_world sc (begin t sc.world))
  begin_grows = record {
    sent = λ e h. h;
    lines = λ l h. among_left sc.world.lines (Line.Begin t sc.world.event ∷ []) l h;
    times = λ i time h. h;
    asked = λ r h. h;
    decided = λ n c h. h;
    now = omega arith;
    closed = λ u messages h. record { client = h.client; there = stays_begun u h.client h.there; closed = h.closed; same = h.same };
    logs = λ n r h. h;
  }

  new_begun : BeganBy (with_world sc (begin t sc.world)) t sc.now
  new_begun = record {
    event = sc.world.event;
    time = sc.now;
    line = among_last sc.world.lines (Line.Begin t sc.world.event);
    timed = present;
    below = omega arith;
  }

  began_now : (u : Id) (c : Client) (h : Holds sc) → client_of (begin t sc.world) u ≡ Some c → BeganBy (with_world sc (begin t sc.world)) u sc.now
  began_now u c h e = by_value (client_of sc.world u) refl (same_id t u) refl (sym (client_begun u) ∙ e)
    where
      by_value : (o : Option Client) → client_of sc.world u ≡ o → (b : Bool) → same_id t u ≡ b → or_else o (head (cond b (begun t ∷ []) [])) ≡ Some c →
          BeganBy (with_world sc (begin t sc.world)) u sc.now
      by_value (Some d) is b same k = began_stays sc _ begin_grows u sc.now (h.clients u d is)
      by_value None is true same k = subst (λ x. BeganBy (with_world sc (begin t sc.world)) x sc.now) (same_id-is t u same) new_begun
      by_value None is false same k = absurd (cc)

  now_there : client_of (begin t sc.world) t ≡ Some (begun t)
  now_there =
      client_begun t ∙ ap (λ o. or_else o (first (λ c. same_id c.txn t) (begun t ∷ []))) fresh ∙ ap (λ b. head (cond b (begun t ∷ []) [])) (same_id-refl t)

  begin_cases : (u : Id) (event : ℕ) → IsAmong (sc.world.lines ++ Line.Begin t sc.world.event ∷ []) (Line.Begin u event) →
      IsAmong sc.world.lines (Line.Begin u event) ⊎ ((t ≡ u) × (sc.world.event ≡ event))
  begin_cases u event k = elim (among_cases sc.world.lines (Line.Begin t sc.world.event ∷ []) (Line.Begin u event) k) [
    | inl old ↦ inl old
    | inr new ↦ elim new [ inl same ↦ inr (some_same t u (ap line_id same), ap line_event same) | inr none ↦ absurd none ]
  ]

  not_before : (h : Holds sc) (event : ℕ) → IsAmong sc.world.lines (Line.Begin t event) → ⊥
  not_before h event k = let b = h.begun t event k in no_value (client_of sc.world t) fresh b.0 b.1
    where
      no_value : (o : Option Client) → o ≡ None → (c : Client) → o ≡ Some c → ⊥
      no_value None e c k2 = cc
      no_value (Some d) e c k2 = cc

  pub begin_holds : Holds sc → Holds (with_world sc (begin t sc.world))
  begin_holds h = record {
    counted = h.counted;
    messages = λ e k. message_stays sc _ begin_grows e.to e.message (h.messages e k);
    shards = λ n s e. shard_stays sc _ begin_grows n s (h.shards n s e);
    lines = λ l k. elim (among_cases sc.world.lines (Line.Begin t sc.world.event ∷ []) l k) [
      | inl old ↦ line_stays sc _ begin_grows l (h.lines l old)
      | inr new ↦ elim new [ inl same ↦ subst (λ x. LineEvidence (with_world sc (begin t sc.world)) x) same tt | inr none ↦ absurd none ]
    ];
    clients = λ u c e. began_now u c h e;
    begun = λ u event k. elim (begin_cases u event k) [
      | inl old ↦ let b = h.begun u event old in (b.0, stays_begun u b.0 b.1)
      | inr new ↦ (begun t, subst (λ x. client_of (begin t sc.world) x ≡ Some (begun t)) new.0 now_there)
    ];
    once = λ u event other k l. elim (begin_cases u event k) [
      | inl old ↦ elim (begin_cases u other l) [
        | inl also ↦ h.once u event other old also
        | inr new ↦ absurd (not_before h event (subst (λ x. IsAmong sc.world.lines (Line.Begin x event)) (sym new.0) old))
      ]
      | inr new ↦ elim (begin_cases u other l) [
        | inl old ↦ absurd (not_before h other (subst (λ x. IsAmong sc.world.lines (Line.Begin x other)) (sym new.0) old))
        | inr also ↦ sym new.1 ∙ also.1
      ]
    ];
  }
