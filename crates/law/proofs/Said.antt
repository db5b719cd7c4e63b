-- What one act adds to the answers of reads, to what sessions took and to the lines of reads.
use Rattle.std.specs.List.{list_any}
use Rattle.std.proofs.Common.{◌≡◌, ◌⊎◌, inl, inr, ℕ, Bool, true, false, not, cond, ◌&&◌, ◌||◌, nat_eq, nat_le, List, [], ◌∷◌, ◌++◌, length, map}
use Rattle.std.proofs.Common.{Option, Some, slice_get, refl, sym, ap, subst, ◌∙◌, arith, flat_map}
use Rattle.std.proofs.lemmas.Bool.{false≢true}
use Rattle.std.proofs.lemmas.Bool.Decides.{nat_tests}
use Rattle.units.specs.Ids.{Id, same_id}
use Rattle.protocol.specs.Step.{Does}
use Rattle.world.proofs.Places.{get-replaced_same}
use Rattle.world.proofs.EveryRun.{WellWorld}
use Rattle.units.specs.Keys.{Bytes, same_key, has_key, writes_key, shard_of}
use Rattle.units.specs.Lists.{first, replaced, when}
use Rattle.units.specs.declared.fault.Fault.TheVariants.{BadRequest}
use Rattle.units.specs.declared.fault.Reason.{Reason}
use Rattle.units.specs.declared.fault.Reason.TheVariants.{Many, Nothing, Again, Awaited, Doomed}
use Rattle.units.specs.declared.line.Line.{Line}
use Rattle.units.specs.declared.writes.Write.{Write}
use Rattle.units.proofs.IdLaws.{same_id-is, same_id-refl}
use Rattle.record.specs.declared.record.Record.{Record}
use Rattle.message.specs.declared.message.Address.{Address}
use Rattle.message.specs.declared.message.Address.TheVariants.{Shard}
use Rattle.message.specs.declared.message.Answer.{Answer}
use Rattle.message.specs.declared.message.Answer.TheVariants.{Holds, Refused}
use Rattle.message.specs.declared.message.Envelope.{Envelope}
use Rattle.message.specs.declared.message.Message.{Message}
use Rattle.message.specs.declared.message.ReadAnswer.{ReadAnswer}
use Rattle.protocol.specs.Rows.{Memory}
use Rattle.session.specs.Sessions.{Client, IsClosing, Moved, Denies, Goes, unless, reads, buffers, hears, take_answer, doomed_by, without_key}
use Rattle.session.specs.Sessions.{epochs_agree, closes, gives_up, with_write, was_taken, was_answered, asked_keys, is_doomed, is_none}
use Rattle.session.specs.Sessions.{closing_messages, messages_for, prepare_for, parts_of, shards_told, begun}
use Rattle.session.specs.declared.answered.Answered.{Answered as Taken}
use Rattle.law.specs.Among.{IsAmong}
use Rattle.world.specs.World.{World, ShardNow, setup_of, effect, finished, crashed, failed_in, failed_turn, set_shard, client_of, set_client, put_out, acks_of}
use Rattle.world.specs.World.{moved, answered, read_lines, look_noted, look_shard, look_at_view, begin, acts}
use Rattle.world.specs.declared.event.Act.{Act}
use Rattle.world.specs.declared.event.Doing.{Doing}
use Rattle.world.specs.declared.event.Reply.{Reply}
use Rattle.law.proofs.Members.{among_left, among_cases, among_last}
use Rattle.units.proofs.Folds.{there_first}
use Rattle.world.specs.Lawful.{may_act}
use Rattle.law.proofs.Picked.{among_map, any_of, map_among}
use Rattle.law.proofs.Accepts.{each_at}
use Rattle.law.proofs.Acts.{Step, Reads, Buffers, Closes, GivesUp, Finishes, acts_go, step_of}
use Rattle.law.proofs.Changed.{acks_alone}
use Rattle.law.proofs.Spoken.{HoldsRead, doing_holds}

abbrev pub answer_env : Address → ReadAnswer → Envelope
answer_env to a = record { to = to; message = Message.ReadAnswer a }

-- a shard runs and holds a read that it told
pub record HoldsNow (w : World) (a : ReadAnswer) (x : Option Bytes) : Type 0 where
  pub shard : ShardNow
  pub there : slice_get w.shards a.from ≡ Some shard
  pub holds : HoldsRead shard a x

-- a session took an answer
pub record Took (w : World) (a : ReadAnswer) (x : Option Bytes) : Type 0 where
  pub client : Client
  pub there : IsAmong w.clients client
  pub txn : client.txn ≡ a.txn
  pub taken : IsAmong client.taken (record { key = a.key; shard = a.from; epoch = a.epoch; value = x })

-- a line of a read is of an answer that was told and taken
pub record ReadOf (w : World) (t : Id) (k : Bytes) (x : Option Bytes) : Type 0 where
  pub answer : ReadAnswer
  pub to : Address
  pub told : IsAmong w.bag (answer_env to answer)
  pub holds : answer.answer ≡ Holds x
  pub txn : answer.txn ≡ t
  pub key : answer.key ≡ k
  pub took : Took w answer x

-- the answers that a session took of one shard are of one epoch
abbrev pub OneEpoch : Client → Type 0
OneEpoch c = (p q : Taken) → IsAmong c.taken p → IsAmong c.taken q → p.shard ≡ q.shard → p.epoch ≡ q.epoch

abbrev pub AllOneEpoch : World → Type 0
AllOneEpoch w = (c : Client) → IsAmong w.clients c → OneEpoch c

-- each session has its own id
abbrev pub OwnIds : World → Type 0
OwnIds w = (y z : Client) → IsAmong w.clients y → IsAmong w.clients z → y.txn ≡ z.txn → y ≡ z

pub record Says (w v : World) : Type 0 where
  pub bag : (e : Envelope) → IsAmong w.bag e → IsAmong v.bag e
  pub told : (to : Address) (a : ReadAnswer) (x : Option Bytes) → a.answer ≡ Holds x → IsAmong v.bag (answer_env to a) →
      IsAmong w.bag (answer_env to a) ⊎ HoldsNow v a x
  pub took : OwnIds w → (a : ReadAnswer) (x : Option Bytes) → Took w a x → Took v a x
  pub read : (t : Id) (k : Bytes) (x : Option Bytes) → IsAmong v.lines (Line.Read t k x) → IsAmong w.lines (Line.Read t k x) ⊎ ReadOf v t k x
  pub epochs : AllOneEpoch w → AllOneEpoch v
  pub own : OwnIds w → OwnIds v

silent : (w : World) → Says w w
silent w = record { bag = λ e h. h; told = λ to a x is h. inl h; took = λ own a x h. h; read = λ t k x h. inl h; epochs = λ h. h; own = λ h. h }

-- ---- messages

acks_no_read : (w : World) (es : List Envelope) (u : Id) (k : Bytes) (x : Option Bytes) → IsAmong (flat_map (acks_of w) es) (Line.Read u k x) → ⊥
acks_no_read w es u k x h = false≢true (acks_alone w es (Line.Read u k x) h)

-- each value among new messages is held
abbrev TellsHeld : World → List Envelope → Type 0
TellsHeld v out = (to : Address) (a : ReadAnswer) (x : Option Bytes) → a.answer ≡ Holds x → IsAmong out (answer_env to a) → HoldsNow v a x

put_says : (w v : World) (out : List Envelope) → Says w v → TellsHeld v out → Says w (put_out out v)
unfolding put_out
put_says w v out s tells = record {
  bag = λ e h. among_left v.bag out e (s.bag e h);
  told = λ to a x is h. elim (among_cases v.bag out (answer_env to a) h) [
    | inl old ↦ elim (s.told to a x is old) [ inl before ↦ inl before | inr now ↦ inr (record { shard = now.shard; there = now.there; holds = now.holds }) ]
    | inr new ↦ let now = tells to a x is new in inr (record { shard = now.shard; there = now.there; holds = now.holds })
  ];
  took = λ own a x h. let z = s.took own a x h in record { client = z.client; there = z.there; txn = z.txn; taken = z.taken };
  read = λ t k x h. elim (among_cases v.lines (flat_map (acks_of v) out) (Line.Read t k x) h) [
    | inl old ↦ elim (s.read t k x old) [
      | inl before ↦ inl before
      | inr r ↦ inr (record {
        answer = r.answer;
        to = r.to;
        told = among_left v.bag out (answer_env r.to r.answer) r.told;
        holds = r.holds;
        txn = r.txn;
        key = r.key;
        took = record { client = r.took.client; there = r.took.there; txn = r.took.txn; taken = r.took.taken };
      })
    ]
    | inr new ↦ absurd (acks_no_read v out t k x new)
  ];
  epochs = λ h. s.epochs h;
  own = λ h. s.own h;
}

-- ---- sessions

-- a session in the place of one that took no more
abbrev TakesMore : Client → Client → Type 0
TakesMore c d = (d.txn ≡ c.txn) × ((q : Taken) → IsAmong c.taken q → IsAmong d.taken q) × (OneEpoch c → OneEpoch d)

set_client_says : (w : World) (c d : Client) → IsAmong w.clients c → TakesMore c d → Says w (set_client d w)
set_client_says w c d there more = record {
  bag = λ e h. h;
  told = λ to a x is h. inl h;
  took = λ own a x h. by_client own a x h;
  read = λ t k x h. inl h;
  epochs = λ all z h.
      let m = among_map (λ (q : Client). cond (same_id q.txn d.txn) d q) w.clients z h in
      subst OneEpoch m.is (by_test (same_id m.from.txn d.txn) m.from (all m.from m.among) (more.2 (all c there)));
  own = λ own y z hy hz same.
      let a = among_map (λ (q : Client). cond (same_id q.txn d.txn) d q) w.clients y hy in
      let b = among_map (λ (q : Client). cond (same_id q.txn d.txn) d q) w.clients z hz in
      let one : a.from ≡ b.from = own a.from b.from a.among b.among (sym (kept_id (same_id a.from.txn d.txn) a.from refl)
      ∙ ap (λ (q : Client). q.txn) a.is ∙ same ∙ sym (ap (λ (q : Client). q.txn) b.is) ∙ kept_id (same_id b.from.txn d.txn) b.from refl) in
      sym a.is ∙ ap (λ (q : Client). cond (same_id q.txn d.txn) d q) one ∙ b.is;
}
  where
    by_test : (b : Bool) (q : Client) → OneEpoch q → OneEpoch d → OneEpoch (cond {A = Client} b d q)
    by_test true q h k = k
    by_test false q h k = h

    kept_id : (b : Bool) (q : Client) → same_id q.txn d.txn ≡ b → (cond {A = Client} b d q).txn ≡ q.txn
    kept_id true q e = sym (same_id-is q.txn d.txn e)
    kept_id false q e = refl

    by_client : OwnIds w → (a : ReadAnswer) (x : Option Bytes) → Took w a x → Took (set_client d w) a x
    by_client own a x h = by_same (same_id h.client.txn d.txn) refl
      where
        mapped_there : IsAmong (map (λ (q : Client). cond (same_id q.txn d.txn) d q) w.clients) (cond (same_id h.client.txn d.txn) d h.client)
        mapped_there = map_among (λ (q : Client). cond (same_id q.txn d.txn) d q) w.clients h.client h.there

        by_same : (b : Bool) → same_id h.client.txn d.txn ≡ b → Took (set_client d w) a x
        by_same true e =
            let is : h.client ≡ c = own h.client c h.there there (same_id-is h.client.txn d.txn e ∙ more.0) in
            record {
              client = d;
              there = subst (λ b. IsAmong (map (λ (q : Client). cond (same_id q.txn d.txn) d q) w.clients) (cond b d h.client)) e mapped_there;
              txn = more.0 ∙ ap (λ (z : Client). z.txn) (sym is) ∙ h.txn;
              taken = more.1 _ (subst (λ (z : Client). IsAmong z.taken (record { key = a.key; shard = a.from; epoch = a.epoch; value = x })) is h.taken);
            }
        by_same false e = record {
          client = h.client;
          there = subst (λ b. IsAmong (map (λ (q : Client). cond (same_id q.txn d.txn) d q) w.clients)
              (cond b d h.client)) e mapped_there;
          txn = h.txn;
          taken = h.taken;
        }

-- a step of a session takes no answer, and tells no value
record StepSays (c : Client) (d : Client) (out : List Envelope) : Type 0 where
  txn : d.txn ≡ c.txn
  taken : d.taken ≡ c.taken
  mute : (to : Address) (a : ReadAnswer) → IsAmong out (answer_env to a) → ⊥

abbrev MovedSays : Client → Moved → Type 0
MovedSays c (Denies f) = Unit {0}
MovedSays c (Goes d out) = StepSays c d out

more_of : (c d : Client) → d.txn ≡ c.txn → d.taken ≡ c.taken → TakesMore c d
more_of c d txn taken = (
  txn,
  (λ q h. subst (λ l. IsAmong l q) (sym taken) h),
  λ h p q a b. h p q (subst (λ l. IsAmong l p) taken a)
      (subst (λ l. IsAmong l q) taken b),
)

moved_says : (w : World) (c : Client) (m : Moved) → IsAmong w.clients c → MovedSays c m → Says w (moved w m).0
moved_says w c (Denies f) there s = silent w
moved_says w c (Goes d out) there s = put_says w (set_client d w) out (set_client_says w c d there (more_of c d s.txn s.taken))
    (λ to a x is h. absurd (s.mute to a h))

unless_says : (c : Client) (rs : List (Bool × Reason)) (m : Moved) → MovedSays c m → MovedSays c (unless rs m)
unless_says c [] m h = h
unless_says c (r ∷ rs) m h = by_test r.0 (unless_says c rs m h)
  where
    by_test : (b : Bool) → MovedSays c (unless rs m) → MovedSays c (cond b (Denies (BadRequest r.1)) (unless rs m))
    by_test true k = tt
    by_test false k = k

reads_say : (splits : List Bytes) (k : Bytes) (c : Client) → MovedSays c (reads splits k c)
unfolding reads
reads_say splits k c =
    unless_says c ((nat_le 128 (length (asked_keys c)), Many) ∷ (was_answered c k, Again) ∷ (has_key c.awaited k, Awaited) ∷ (is_doomed c, Doomed) ∷ [])
    (Goes (record c { awaited = c.awaited ++ k ∷ [] }) (record {
      to = Shard (shard_of splits k);
      message =
          Message.Read (record { txn = c.txn; key = k });
    } ∷ []))
    (record { txn = refl; taken = refl; mute = mute })
  where
    mute : (to : Address) (a : ReadAnswer) → IsAmong (record {
      to = Shard (shard_of splits k);
      message =
          Message.Read (record { txn = c.txn; key = k });
    } ∷ []) (answer_env to a) → ⊥
    mute to a (inl same) = let m : Message.Read (record { txn = c.txn; key = k }) ≡ Message.ReadAnswer a = ap (λ (e : Envelope). e.message) same in cc
    mute to a (inr none) = none

buffers_say : (v : Write) (c : Client) → MovedSays c (buffers v c)
unfolding buffers
buffers_say v c = unless_says c ((nat_le 128 (length c.writes) && not (writes_key c.writes v.key), Many) ∷ (is_doomed c, Doomed) ∷ [])
    (Goes (record c { writes = with_write c.writes v }) []) (record { txn = refl; taken = refl; mute = λ to a h. h })

prepares_mute : (splits : List Bytes) (c : Client) (n : ℕ) (ns : List ℕ) (to : Address) (a : ReadAnswer) →
    IsAmong (map (prepare_for splits c n) ns) (answer_env to a) → ⊥
prepares_mute splits c n [] to a h = h
prepares_mute splits c n (m ∷ ms) to a (inl same) = is_prepare (ap (λ (e : Envelope). e.message) same)
  where
    is_prepare : (prepare_for splits c n m).message ≡ Message.ReadAnswer a → ⊥
    is_prepare e = cc
prepares_mute splits c n (m ∷ ms) to a (inr later) = prepares_mute splits c n ms to a later

messages_mute : (splits : List Bytes) (c : Client) (ns : List ℕ) (to : Address) (a : ReadAnswer) → IsAmong (messages_for splits c ns) (answer_env to a) → ⊥
messages_mute splits c [] to a h = h
messages_mute splits c (n ∷ ns) to a (inl same) = is_commit _ (ap (λ (e : Envelope). e.message) same)
  where
    is_commit : (z : _) → Message.Commit z ≡ Message.ReadAnswer a → ⊥
    is_commit z e = cc
messages_mute splits c (n ∷ ns) to a (inr later) = prepares_mute splits c n ns to a later

closes_say : (splits : List Bytes) (c : Client) → MovedSays c (closes splits c)
unfolding closes closing_messages
closes_say splits c =
    unless_says c ((is_none (asked_keys c) && is_none c.writes, Nothing) ∷ (not (is_none c.awaited), Awaited) ∷ (is_doomed c, Doomed) ∷ [])
    (Goes (record c { stage = IsClosing }) (messages_for splits c (parts_of splits c)))
    (record { txn = refl; taken = refl; mute = messages_mute splits c (parts_of splits c) })

gives_up_say : (splits : List Bytes) (c : Client) → MovedSays c (gives_up splits c)
unfolding gives_up
gives_up_say splits c = record { txn = refl; taken = refl; mute = mute (shards_told splits c) }
  where
    mute : (ns : List ℕ) (to : Address) (a : ReadAnswer) → IsAmong
        (map (λ n. record { to = Shard n; message = Message.GiveUp (record { txn = c.txn }) }) ns) (answer_env to a) → ⊥
    mute [] to a h = h
    mute (n ∷ ns) to a (inl same) = let m : Message.GiveUp (record { txn = c.txn }) ≡ Message.ReadAnswer a = ap (λ (e : Envelope). e.message) same in cc
    mute (n ∷ ns) to a (inr later) = mute ns to a later

stepped_says : (splits : List Bytes) (s : Step) (c : Client) → MovedSays c (step_of splits s c)
stepped_says splits (Reads k) c = reads_say splits k c
stepped_says splits (Buffers v) c = buffers_say v c
stepped_says splits Closes c = closes_say splits c
stepped_says splits GivesUp c = gives_up_say splits c
stepped_says splits Finishes c = record { txn = refl; taken = refl; mute = λ to a h. h }

-- ---- answers that come

-- what a session took of an answer: nothing, or its value
data Heard (n : ℕ) (k : Bytes) (epoch : ℕ) (z : Answer) (c d : Client) : Type 0 where
  AsBefore : d.taken ≡ c.taken → Heard n k epoch z c d
  TookOne : (x : Option Bytes) → z ≡ Holds x → d.taken ≡ c.taken ++ record { key = k; shard = n; epoch = epoch; value = x } ∷ [] →
      epochs_agree c.taken n epoch ≡ true → Heard n k epoch z c d

heard : (n : ℕ) (k : Bytes) (epoch : ℕ) (z : Answer) (c : Client) → ((hears n k epoch z c).txn ≡ c.txn) × Heard n k epoch z c (hears n k epoch z c)
unfolding hears
heard n k epoch z c = by_test (has_key c.awaited k && not (is_doomed c))
  where
    by_epochs : (x : Option Bytes) (b : Bool) → epochs_agree c.taken n epoch ≡ b →
        ((cond {A = Client} b (record c {
          taken = c.taken ++ record { key = k; shard = n; epoch = epoch; value = x } ∷ [];
          awaited =
              without_key c.awaited k;
        }) (doomed_by k c)).txn ≡ c.txn)
        × Heard n k epoch (Holds x) c (cond {A = Client} b (record c {
          taken = c.taken ++
              record { key = k; shard = n; epoch = epoch; value = x } ∷ [];
          awaited = without_key c.awaited k;
        }) (doomed_by k c))
    by_epochs x true e = (refl, TookOne x refl refl e)
    by_epochs x false e = (refl, AsBefore refl)

    by_answer : (y : Answer) → ((take_answer c n k epoch y).txn ≡ c.txn) × Heard n k epoch y c (take_answer c n k epoch y)
    by_answer Refused = (refl, AsBefore refl)
    by_answer (Holds x) = by_epochs x (epochs_agree c.taken n epoch) refl

    by_test : (b : Bool) → ((cond {A = Client} b (take_answer c n k epoch z) c).txn ≡ c.txn)
        × Heard n k epoch z c (cond {A = Client} b (take_answer c n k epoch z) c)
    by_test true = by_answer z
    by_test false = (refl, AsBefore refl)

heard_more : (n : ℕ) (k : Bytes) (epoch : ℕ) (z : Answer) (c d : Client) → d.txn ≡ c.txn → Heard n k epoch z c d → TakesMore c d
heard_more n k epoch z c d txn (AsBefore taken) = more_of c d txn taken
heard_more n k epoch z c d txn (TookOne x is taken agree) = (
  txn,
  (λ q h. subst (λ l. IsAmong l q) (sym taken) (among_left c.taken (new ∷ []) q h)),
  λ one p q hp hq same.
      elim (among_cases c.taken (new ∷ []) p (subst (λ l. IsAmong l p) taken hp)) [
        | inl a ↦ elim (among_cases c.taken (new ∷ []) q (subst (λ l. IsAmong l q) taken hq)) [
          | inl b ↦ one p q a b same
          | inr b ↦ old_new p q a b same
        ]
        | inr a ↦ elim (among_cases c.taken (new ∷ []) q (subst (λ l. IsAmong l q) taken hq)) [
          | inl b ↦ sym (old_new q p b a (sym same))
          | inr b ↦ ap (λ (r : Taken). r.epoch) (sym (is_new p a) ∙ is_new q b)
        ]
      ],
)
  where
    new : Taken
    new = record { key = k; shard = n; epoch = epoch; value = x }

    is_new : (p : Taken) → IsAmong (record { key = k; shard = n; epoch = epoch; value = x } ∷ []) p →
        record { key = k; shard = n; epoch = epoch; value = x } ≡ p
    is_new p (inl same) = same
    is_new p (inr none) = absurd none

    agreed : (a b m e : ℕ) → (not (nat_eq a m) || nat_eq b e) ≡ true → a ≡ m → b ≡ e
    agreed a b m e f same = grind (arith, nat_tests)

    old_new : (p q : Taken) → IsAmong c.taken p → IsAmong (record { key = k; shard = n; epoch = epoch; value = x } ∷ []) q → p.shard ≡ q.shard →
        p.epoch ≡ q.epoch
    old_new p q a b same =
        agreed p.shard p.epoch n epoch (each_at (λ (r : Taken). not (nat_eq r.shard n) || nat_eq r.epoch epoch) c.taken p agree a)
        (same ∙ ap (λ (r : Taken). r.shard) (sym (is_new q b)))
        ∙ ap (λ (r : Taken). r.epoch) (is_new q b)

answered_says : (w : World) (c : Client) (to : Address) (a : ReadAnswer) → IsAmong w.clients c → c.txn ≡ a.txn → IsAmong w.bag (answer_env to a) →
    Says w (answered w c a).0
answered_says w c to a there named told = record {
  bag = λ e h. h;
  told = λ u b x is h. inl h;
  took = λ own b x h. let z = s.took own b x h in record { client = z.client; there = z.there; txn = z.txn; taken = z.taken };
  read = λ t k x h. elim (among_cases w.lines (read_lines c (hears a.from a.key a.epoch a.answer c) a.key a.answer) (Line.Read t k x) h) [
    | inl old ↦ inl old
    | inr new ↦ inr (by_answer t k x a.answer refl new)
  ];
  epochs = λ h. s.epochs h;
  own = λ h. s.own h;
}
  where
    hs : ((hears a.from a.key a.epoch a.answer c).txn ≡ c.txn) × Heard a.from a.key a.epoch a.answer c (hears a.from a.key a.epoch a.answer c)
    hs = heard a.from a.key a.epoch a.answer c

    s : Says w (set_client (hears a.from a.key a.epoch a.answer c) w)
    s = set_client_says w c (hears a.from a.key a.epoch a.answer c) there (heard_more a.from a.key a.epoch a.answer c
        (hears a.from a.key a.epoch a.answer c) hs.0 hs.1)

    mine : IsAmong (map (λ (q : Client). cond (same_id q.txn (hears a.from a.key a.epoch a.answer c).txn) (hears a.from a.key a.epoch a.answer c) q)
        w.clients) (hears a.from a.key a.epoch a.answer c)
    mine = subst (λ b. IsAmong (map (λ (q : Client). cond (same_id q.txn (hears a.from a.key a.epoch a.answer c).txn)
        (hears a.from a.key a.epoch a.answer c) q) w.clients) (cond b (hears a.from a.key a.epoch a.answer c) c))
        (subst (λ u. same_id c.txn u ≡ true) (sym hs.0) (same_id-refl c.txn))
        (map_among (λ (q : Client). cond (same_id q.txn (hears a.from a.key a.epoch a.answer c).txn) (hears a.from a.key a.epoch a.answer c) q)
        w.clients c there)

    line_is : (t u : Id) (k j : Bytes) (x y : Option Bytes) → Line.Read t k x ≡ Line.Read u j y → (t ≡ u) × (k ≡ j) × (x ≡ y)
    line_is t u k j x y e = (cc, cc, cc)

    not_both : (b : Bool) → (b && not b) ≡ true → ⊥
    not_both true e = cc
    not_both false e = cc

    value_is : (x y : Option Bytes) → Holds x ≡ Holds y → x ≡ y
    value_is x y e = cc

    took_of : (y : Option Bytes) → a.answer ≡ Holds y → (was_taken (hears a.from a.key a.epoch a.answer c) a.key && not (was_taken c a.key)) ≡ true →
        Heard a.from a.key a.epoch a.answer c (hears a.from a.key a.epoch a.answer c) →
        IsAmong (hears a.from a.key a.epoch a.answer c).taken (record { key = a.key; shard = a.from; epoch = a.epoch; value = y })
    took_of y is new (AsBefore taken) = absurd (not_both (was_taken c a.key)
        (ap (λ l. list_any (λ (q : Taken). same_key q.key a.key) l && not (was_taken c a.key)) (sym taken) ∙ new))
    took_of y is new (TookOne x holds taken agree) =
        subst (λ l. IsAmong l (record { key = a.key; shard = a.from; epoch = a.epoch; value = y })) (sym taken)
        (subst (λ z. IsAmong (c.taken ++ record { key = a.key; shard = a.from; epoch = a.epoch; value = x } ∷ [])
        (record { key = a.key; shard = a.from; epoch = a.epoch; value = z })) (value_is x y (sym holds ∙ is)) (among_last c.taken _))

    by_line : (t : Id) (k : Bytes) (x y : Option Bytes) → a.answer ≡ Holds y → (b : Bool) →
        (was_taken (hears a.from a.key a.epoch a.answer c) a.key && not (was_taken c a.key)) ≡ b →
        IsAmong (cond b (Line.Read c.txn a.key y ∷ []) []) (Line.Read t k x) → ReadOf (answered w c a).0 t k x
    by_line t k x y is true new (inl same) =
        let p = line_is c.txn t a.key k y x same in
        record {
          answer = a;
          to = to;
          told = told;
          holds = is ∙ ap Holds p.2;
          txn = sym named ∙ p.0;
          key = p.1;
          took = record {
            client = hears a.from a.key a.epoch a.answer c;
            there = mine;
            txn = hs.0 ∙ named;
            taken = took_of x (is ∙ ap Holds p.2) new hs.1;
          };
        }
    by_line t k x y is true new (inr none) = absurd none
    by_line t k x y is false new none = absurd none

    by_answer : (t : Id) (k : Bytes) (x : Option Bytes) (z : Answer) → a.answer ≡ z → IsAmong
        (read_lines c (hears a.from a.key a.epoch a.answer c) a.key z) (Line.Read t k x) → ReadOf (answered w c a).0 t k x
    by_answer t k x Refused is none = absurd none
    by_answer t k x (Holds y) is new = by_line t k x y is (was_taken (hears a.from a.key a.epoch a.answer c) a.key && not (was_taken c a.key)) refl new

-- ---- shards

set_says : (w : World) (n : ℕ) (s : ShardNow) → Says w (set_shard n s w)
set_says w n s = record {
  bag = λ e h. h;
  told = λ to a x is h. inl h;
  took = λ own a x h. record { client = h.client; there = h.there; txn = h.txn; taken = h.taken };
  read = λ t k x h. inl h;
  epochs = λ h. h;
  own = λ h. h;
}

does_says : (w : World) → WellWorld w → (n : ℕ) (s : ShardNow) → slice_get w.shards n ≡ Some s →
    (doing : Doing) (logged : Option Record) (memory : Memory) (out : List Envelope) →
    effect (setup_of w.config n) w.bag s doing ≡ Does logged memory out → Says w (put_out out (set_shard n (finished s doing logged memory) w))
does_says w well n s there doing logged memory out is = put_says w (set_shard n (finished s doing logged memory) w) out
    (set_says w n (finished s doing logged memory)) tells
  where
    tells : TellsHeld (set_shard n (finished s doing logged memory) w) out
    tells to a x holds h =
        let k = doing_holds (setup_of w.config n) w.bag s doing logged memory out to a x (well n s there) is h holds in
        record {
          shard = finished s doing logged memory;
          there = subst (λ j. slice_get (replaced w.shards n (finished s doing logged memory)) j ≡ Some (finished s doing logged memory)) (sym k.0)
              (get-replaced_same w.shards n s (finished s doing logged memory) there);
          holds = k.1;
        }

-- ---- all acts

begin_says : (w : World) (t : Id) → not (when (λ c. true) (client_of w t)) ≡ true → Says w (begin t w)
begin_says w t new = record {
  bag = λ e h. h;
  told = λ to a x is h. inl h;
  took = λ own a x h. record { client = h.client; there = among_left w.clients (begun t ∷ []) h.client h.there; txn = h.txn; taken = h.taken };
  read = λ u k x h. elim (among_cases w.lines (Line.Begin t w.event ∷ []) (Line.Read u k x) h) [ inl old ↦ inl old | inr later ↦ absurd (apart u k x later) ];
  epochs = λ all c h. elim (among_cases w.clients (begun t ∷ []) c h) [
    | inl old ↦ all c old
    | inr later ↦ elim later [ inl same ↦ subst OneEpoch same (λ p q hp hq e. absurd hp) | inr none ↦ absurd none ]
  ];
  own = λ own y z hy hz same. elim (among_cases w.clients (begun t ∷ []) y hy) [
    | inl a ↦ elim (among_cases w.clients (begun t ∷ []) z hz) [
      | inl b ↦ own y z a b same
      | inr b ↦ absurd (not_there y a (same ∙ ap (λ (c : Client). c.txn) (sym (is_begun z b))))
    ]
    | inr a ↦ elim (among_cases w.clients (begun t ∷ []) z hz) [
      | inl b ↦ absurd (not_there z b (sym same ∙ ap (λ (c : Client). c.txn) (sym (is_begun y a))))
      | inr b ↦ sym (is_begun y a) ∙ is_begun z b
    ]
  ];
}
  where
    apart : (u : Id) (k : Bytes) (x : Option Bytes) → IsAmong (Line.Begin t w.event ∷ []) (Line.Read u k x) → ⊥
    apart u k x (inl same) = cc
    apart u k x (inr none) = none

    is_begun : (c : Client) → IsAmong (begun t ∷ []) c → begun t ≡ c
    is_begun c (inl same) = same
    is_begun c (inr none) = absurd none

    found : (cs : List Client) (c : Client) → IsAmong cs c → c.txn ≡ t → when (λ z. true) (first (λ (d : Client). same_id d.txn t) cs) ≡ true
    found cs c h e = there_first (λ (d : Client). same_id d.txn t) cs ∙ any_of (λ (d : Client). same_id d.txn t) cs c h
        (subst (λ u. same_id u t ≡ true) (sym e) (same_id-refl t))

    not_there : (c : Client) → IsAmong w.clients c → c.txn ≡ t → ⊥
    not_there c h e = both_ways (when (λ z. true) (client_of w t)) (found w.clients c h e) new
      where
        both_ways : (b : Bool) → b ≡ true → not b ≡ true → ⊥
        both_ways true p q = cc
        both_ways false p q = cc

noted_says : (w : World) (k : Bytes) (at : ℕ) (r : Reply) → Says w (look_noted w k at r).0
noted_says w k at (Reply.Shows y) = record {
  bag = λ e h. h;
  told = λ to a x is h. inl h;
  took = λ own a x h. record { client = h.client; there = h.there; txn = h.txn; taken = h.taken };
  read = λ u j x h. elim (among_cases w.lines (Line.Look k at y ∷ []) (Line.Read u j x) h) [ inl old ↦ inl old | inr later ↦ absurd (apart u j x later) ];
  epochs = λ h. h;
  own = λ h. h;
}
  where
    apart : (u : Id) (j : Bytes) (x : Option Bytes) → IsAmong (Line.Look k at y ∷ []) (Line.Read u j x) → ⊥
    apart u j x (inl same) = cc
    apart u j x (inr none) = none
noted_says w k at _ = silent w

pub acts_say : (w : World) → WellWorld w → (time : ℕ) (a : Act) → may_act w time a ≡ true → Says w (acts w a).0
acts_say w well =
    acts_go w (Says w) (silent w) (begin_says w)
    (λ c s there. moved_says w c (step_of w.config.splits s c) there (stepped_says w.config.splits s c))
    (answered_says w)
    (λ n s there log area left. set_says w n (crashed s log area)) (does_says w well)
    (λ n s there call doing r memory out is. set_says w n (failed_in s call r))
    (λ n s there call doing memory out turning is. set_says w n (failed_turn s call))
    (λ n s there k at. noted_says w k at (look_shard (setup_of w.config n) s k at))
    (λ n s there i k at. noted_says w k at (look_at_view (setup_of w.config n) (slice_get s.views i) k at))
