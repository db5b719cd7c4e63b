-- The writes of each session ascend by key, so those of each record of a run do.
use Rattle.std.specs.List.{list_all}
use Rattle.std.proofs.Common.{◌≡◌, inl, inr, ℕ, Bool, true, false, cond, not, ◌&&◌, nat_le, List, [], ◌∷◌, ◌++◌, length, map, slice_get, Some, filter}
use Rattle.std.proofs.Common.{refl, sym, subst, ap, ◌∙◌, true≢false}
use Rattle.std.proofs.lemmas.Bool.{and_from, and_parts}
use Rattle.units.specs.Lists.{ascends}
use Rattle.units.specs.Ids.{Id, same_id}
use Rattle.units.specs.Keys.{Bytes, key_before, same_key, shard_of, write_before, has_key, writes_key}
use Rattle.units.specs.declared.fault.Fault.{Fault}
use Rattle.units.specs.declared.fault.Reason.{Reason}
use Rattle.units.specs.declared.fault.Reason.TheVariants.{Many, Nothing, Again, Awaited, Doomed}
use Rattle.units.specs.declared.writes.Write.{Write}
use Rattle.units.proofs.KeyLaws.{key_before-irreflexive, key_before-trans}
use Rattle.record.specs.declared.record.Record.{Record}
use Rattle.message.specs.declared.message.Address.TheVariants.{Shard}
use Rattle.message.specs.declared.message.Envelope.{Envelope}
use Rattle.message.specs.declared.message.Message.{Message}
use Rattle.protocol.specs.Showable.{record_ascends}
use Rattle.session.proofs.Kept.{ascends_insert, ascends_keep, keyed_others}
use Rattle.session.specs.Sessions.{Client, IsClosing, Moved, Denies, Goes, asked_keys, begun, buffers, closes, closing_messages, gives_up, hears, is_doomed}
use Rattle.session.specs.Sessions.{is_none, messages_for, parts_of, prepare_for, reads, unless, was_answered, with_write}
use Rattle.world.specs.Lawful.{lawful, may_act, may_happen}
use Rattle.world.specs.World.{World, ShardNow, Unsure, Nothing, Shown, acts, begin, happens, look_at_view, look_noted}
use Rattle.world.specs.World.{look_shard, moved, put_out, read_log, run, set_client, setup_of, shown_records, start}
use Rattle.world.specs.Headline.{IsUnsure}
use Rattle.world.specs.declared.event.Act.{Act}
use Rattle.world.specs.declared.event.Config.{Config}
use Rattle.world.specs.declared.event.Event.{Event}
use Rattle.world.specs.declared.event.Reply.{Reply}
use Rattle.world.proofs.Along.{along}
use Rattle.law.specs.Among.{IsAmong}
use Rattle.law.specs.Evidence.{Scene, Holds, IsOfClosing, RecordEvidence}
use Rattle.law.proofs.Accepts.{WritesOnce}
use Rattle.law.proofs.Acts.{Step, Reads, Buffers, Closes, GivesUp, Finishes, acts_go, step_of}
use Rattle.law.proofs.Changed.{heard_writes}
use Rattle.law.proofs.Members.{among_cases}
use Rattle.law.proofs.Picked.{among_map}
use Rattle.law.proofs.Recorded.{among_first}

-- they ascend by key
abbrev pub Ascend : List Write → Type 0
Ascend ws = ascends write_before ws ≡ true

-- a key before another is not that one
not_before : (a b : Bytes) → key_before a b ≡ true → a ≡ b → ⊥
not_before a b first same = true≢false (sym first ∙ ap (λ z. key_before z b) same ∙ key_before-irreflexive b)

later_keys : (w : Write) (ws : List Write) → Ascend (w ∷ ws) → (v : Write) → IsAmong ws v → key_before w.key v.key ≡ true
later_keys w [] up v none = absurd none
later_keys w (u ∷ us) up v (inl same) = subst (λ (z : Write). key_before w.key z.key ≡ true) same (and_parts _ _ up).0
later_keys w (u ∷ us) up v (inr later) =
    key_before-trans w.key u.key v.key (and_parts _ _ up).0 (later_keys u us (and_parts _ _ up).1 v later)

rest_ascends : (w : Write) (ws : List Write) → Ascend (w ∷ ws) → Ascend ws
rest_ascends w [] up = refl
rest_ascends w (v ∷ vs) up = (and_parts _ _ up).1

-- so a key is written once
pub writes_once : (ws : List Write) → Ascend ws → WritesOnce ws
writes_once [] up a b ha hb key = absurd ha
writes_once (w ∷ ws) up a b (inl x) (inl y) key = ap (λ (z : Write). z.value) (sym x ∙ y)
writes_once (w ∷ ws) up a b (inl x) (inr y) key = absurd (not_before w.key b.key (later_keys w ws up b y) (ap (λ (z : Write). z.key) x ∙ key))
writes_once (w ∷ ws) up a b (inr x) (inl y) key = absurd (not_before w.key a.key (later_keys w ws up a x) (ap (λ (z : Write). z.key) y ∙ sym key))
writes_once (w ∷ ws) up a b (inr x) (inr y) key = writes_once ws (rest_ascends w ws up) a b x y key

-- so do those of each session
abbrev pub AllAscend : World → Type 0
AllAscend w = (c : Client) → IsAmong w.clients c → Ascend c.writes

-- ---- a step of a session

abbrev AscendMoved : Moved → Type 0
AscendMoved (Denies f) = Unit {0}
AscendMoved (Goes c out) = Ascend c.writes

unless_ascend : (rs : List (Bool × Reason)) (m : Moved) → AscendMoved m → AscendMoved (unless rs m)
unless_ascend [] m h = h
unless_ascend (r ∷ rs) m h = by_test r.0 (unless_ascend rs m h)
  where
    by_test : (b : Bool) → AscendMoved (unless rs m) → AscendMoved (cond b (Denies (Fault.BadRequest r.1)) (unless rs m))
    by_test true k = tt
    by_test false k = k

with_write_ascends : (ws : List Write) (w : Write) → Ascend ws → Ascend (with_write ws w)
with_write_ascends ws w up =
    let key : Write → Bytes = λ (v : Write). v.key in
    ascends_insert key w (filter (λ v. not (same_key v.key w.key)) ws) (keyed_others key ws w.key) (ascends_keep key (λ v. not (same_key v.key w.key)) ws up)

reads_ascend : (splits : List Bytes) (k : Bytes) (c : Client) → Ascend c.writes → AscendMoved (reads splits k c)
unfolding reads
reads_ascend splits k c h =
    unless_ascend ((nat_le 128 (length (asked_keys c)), Many) ∷ (was_answered c k, Again) ∷ (has_key c.awaited k, Awaited) ∷ (is_doomed c, Doomed) ∷ [])
    (Goes (record c { awaited = c.awaited ++ k ∷ [] }) (record {
      to = Shard (shard_of splits k);
      message =
          Message.Read (record { txn = c.txn; key = k });
    } ∷ [])) h

buffers_ascend : (v : Write) (c : Client) → Ascend c.writes → AscendMoved (buffers v c)
unfolding buffers
buffers_ascend v c h = unless_ascend ((nat_le 128 (length c.writes) && not (writes_key c.writes v.key), Many) ∷ (is_doomed c, Doomed) ∷ [])
    (Goes (record c { writes = with_write c.writes v }) []) (with_write_ascends c.writes v h)

closes_ascend : (splits : List Bytes) (c : Client) → Ascend c.writes → AscendMoved (closes splits c)
unfolding closes
closes_ascend splits c h =
    unless_ascend ((is_none (asked_keys c) && is_none c.writes, Nothing) ∷ (not (is_none c.awaited), Awaited) ∷ (is_doomed c, Doomed) ∷ [])
    (Goes (record c { stage = IsClosing }) (closing_messages splits c)) h

gives_up_ascend : (splits : List Bytes) (c : Client) → Ascend c.writes → AscendMoved (gives_up splits c)
unfolding gives_up
gives_up_ascend splits c h = h

stepped_ascend : (splits : List Bytes) (s : Step) (c : Client) → Ascend c.writes → AscendMoved (step_of splits s c)
stepped_ascend splits (Reads k) c h = reads_ascend splits k c h
stepped_ascend splits (Buffers v) c h = buffers_ascend v c h
stepped_ascend splits Closes c h = closes_ascend splits c h
stepped_ascend splits GivesUp c h = gives_up_ascend splits c h
stepped_ascend splits Finishes c h = h

-- ---- an act

module _ (w : World) (all : AllAscend w) where
  set_client_ascends : (c : Client) → Ascend c.writes → AllAscend (set_client c w)
  set_client_ascends c new d h =
      let m = among_map (λ (e : Client). cond (same_id e.txn c.txn) c e) w.clients d h in
      subst (λ (z : Client). Ascend z.writes) m.is (by_test (same_id m.from.txn c.txn) m.from (all m.from m.among))
    where
      by_test : (b : Bool) (d : Client) → Ascend d.writes → Ascend (cond {A = Client} b c d).writes
      by_test true d h = new
      by_test false d h = h

  moved_ascends : (m : Moved) → AscendMoved m → AllAscend (moved w m).0
  unfolding put_out
  moved_ascends (Denies f) h = all
  moved_ascends (Goes c out) h = set_client_ascends c h

  begin_ascends : (t : Id) → AllAscend (begin t w)
  begin_ascends t c h = elim (among_cases w.clients (begun t ∷ []) c h) [
    | inl old ↦ all c old
    | inr (inl same) ↦ subst (λ (z : Client). Ascend z.writes) same refl
    | inr (inr none) ↦ absurd none
  ]

  noted_ascends : (k : Bytes) (at : ℕ) (r : Reply) → AllAscend (look_noted w k at r).0
  noted_ascends k at (Reply.Shows x) = all
  noted_ascends k at Reply.Done = all
  noted_ascends k at (Reply.Refused f) = all
  noted_ascends k at Reply.Crashed = all

  acts_ascend : (time : ℕ) (a : Act) → may_act w time a ≡ true → AllAscend (acts w a).0
  unfolding put_out
  acts_ascend =
      acts_go w AllAscend all (λ t new. begin_ascends t)
      (λ c s there. moved_ascends (step_of w.config.splits s c) (stepped_ascend w.config.splits s c (all c there)))
      (λ c to a there named told. set_client_ascends (hears a.from a.key a.epoch a.answer c)
      (subst Ascend (sym (heard_writes a.from a.key a.epoch a.answer c)) (all c there)))
      (λ n s there log area left. all)
      (λ n s there doing logged memory out is. all)
      (λ n s there call doing r memory out is. all)
      (λ n s there call doing memory out turning is. all)
      (λ n s there k at. noted_ascends k at (look_shard (setup_of w.config n) s k at))
      (λ n s there i k at. noted_ascends k at (look_at_view (setup_of w.config n) (slice_get s.views i) k at))

event_ascends : (w : World) (e : Event) → may_happen w e ≡ true → AllAscend w → AllAscend (happens w e).0
unfolding happens
event_ascends w e may all = acts_ascend w all e.time e.act (and_parts (nat_le w.time e.time) (may_act w e.time e.act) may).1

pub always_ascend : (config : Config) (es : List Event) → lawful config es ≡ true → AllAscend (run config es)
unfolding run lawful start
always_ascend config es fair = along AllAscend event_ascends (start config) es fair (λ c none. absurd none)

-- ---- the records

abbrev pub MessageAscends : Message → Type 0
MessageAscends (Message.Prepare p) = Ascend p.writes
MessageAscends (Message.Commit c) = Ascend c.writes
MessageAscends _ = Unit {0}

keep_ascends : (test : Write → Bool) (ws : List Write) → Ascend ws → Ascend (filter test ws)
keep_ascends test ws up = ascends_keep (λ (v : Write). v.key) test ws up

prepares_ascend : (splits : List Bytes) (c : Client) (n : ℕ) (ns : List ℕ) (e : Envelope) → Ascend c.writes →
    IsAmong (map (prepare_for splits c n) ns) e → MessageAscends e.message
prepares_ascend splits c n [] e up h = absurd h
prepares_ascend splits c n (m ∷ ms) e up (inl same) = subst (λ (z : Envelope). MessageAscends z.message) same (keep_ascends _ c.writes up)
prepares_ascend splits c n (m ∷ ms) e up (inr later) = prepares_ascend splits c n ms e up later

messages_ascend : (splits : List Bytes) (c : Client) (ns : List ℕ) (e : Envelope) → Ascend c.writes → IsAmong (messages_for splits c ns) e →
    MessageAscends e.message
messages_ascend splits c [] e up h = absurd h
messages_ascend splits c (n ∷ ns) e up (inl same) = subst (λ (z : Envelope). MessageAscends z.message) same (keep_ascends _ c.writes up)
messages_ascend splits c (n ∷ ns) e up (inr later) = prepares_ascend splits c n ns e up later

module _ (sc : Scene) (h : Holds sc) (all : AllAscend sc.world) where
  pub sent_ascends : (t : Id) (e : Envelope) → IsOfClosing sc.world t e → MessageAscends e.message
  unfolding closing_messages
  sent_ascends t e c =
      messages_ascend sc.world.config.splits c.over.client (parts_of sc.world.config.splits c.over.client) e
      (all c.over.client (among_first (λ (d : Client). same_id d.txn t) sc.world.clients c.over.client c.over.there))
      (subst (λ l. IsAmong l e) (sym c.over.same) c.among)

module _ (sc : Scene) (h : Holds sc) (all : AllAscend sc.world) (n : ℕ) (s : ShardNow) (there : slice_get sc.world.shards n ≡ Some s) where
  backed_ascends : (r : Record) → RecordEvidence sc s.log n r → record_ascends r ≡ true
  backed_ascends (Record.Prepare p) e = sent_ascends sc h all p.txn _ (h.messages _ e.sent)
  backed_ascends (Record.Commit c) e = sent_ascends sc h all c.txn _ (h.messages _ e.asked.sent)
  backed_ascends _ e = refl

  each_ascends : (log : List Record) → ((r : Record) → IsAmong log r → record_ascends r ≡ true) → list_all record_ascends log ≡ true
  each_ascends [] each = refl
  each_ascends (r ∷ rs) each = and_from _ _ (each r (inl refl)) (each_ascends rs (λ q k. each q (inr k)))

  is_unsure : (u : Unsure) (r : Record) → IsAmong (shown_records u) r → IsUnsure u r
  is_unsure Nothing r none = none
  is_unsure (Shown q) r (inl same) = same
  is_unsure (Shown q) r (inr none) = absurd none
  is_unsure _ r none = absurd none

  -- of each record that a read of the disk gives
  pub read_ascends : list_all record_ascends (read_log s) ≡ true
  read_ascends = each_ascends (read_log s) (λ r k. elim (among_cases s.log (shown_records s.unsure) r k) [
    | inl old ↦ backed_ascends r ((h.shards n s there).records r old)
    | inr new ↦ backed_ascends r ((h.shards n s there).unsure r (is_unsure s.unsure r new))
  ])
