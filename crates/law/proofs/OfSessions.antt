-- What stands in the logs is what sessions wrote.
use Rattle.std.proofs.Common.{◌≡◌, ◌≢◌, ◌⊎◌, inl, inr, ℕ, Bool, true, false, not, ◌&&◌, nat_eq, nat_lt, List, [], ◌∷◌, ◌++◌, map, Option, Some, None}
use Rattle.std.proofs.Common.{refl, sym, ap, subst, ◌∙◌, arith, flat_map, filter}
use Rattle.std.proofs.lemmas.Bool.{cases_eq, eqb-true, and_from}
use Rattle.std.proofs.lemmas.Bool.Decides.{nat_tests}
use Rattle.units.specs.Ids.{Id, same_id}
use Rattle.units.specs.Keys.{Bytes, same_key, shard_of}
use Rattle.units.specs.Lists.{gather, has, once}
use Rattle.units.specs.declared.writes.Write.{Write}
use Rattle.units.proofs.IdLaws.{same_id-refl}
use Rattle.units.proofs.KeyLaws.{same_key-is, same_key-refl}
use Rattle.record.specs.History.{Txn, Map, history, put_all, whole_txn, promised_elsewhere, by_shard}
use Rattle.record.specs.Records.{as_prepared}
use Rattle.record.specs.Accepted.{belongs}
use Rattle.record.specs.declared.record.Prepared.{Prepared}
use Rattle.record.specs.declared.record.Record.{Record}
use Rattle.record.specs.declared.record.Record.TheVariants.{Prepare, Commit}
use Rattle.message.specs.declared.message.Address.TheVariants.{Shard}
use Rattle.message.specs.declared.message.Envelope.{Envelope}
use Rattle.message.specs.declared.message.Message.{Message}
use Rattle.session.specs.Sessions.{Client, closing_messages, messages_for, prepare_for, parts_of, writes_at_shard}
use Rattle.session.specs.declared.answered.Answered.{Answered as Taken}
use Rattle.law.specs.Among.{IsAmong}
use Rattle.law.specs.Evidence.{Scene, CommitAsked, Holds, IsOfClosing}
use Rattle.law.specs.Left.{AreLeft}
use Rattle.world.specs.World.{World, client_of, run, setup_of}
use Rattle.law.proofs.Decisions.{left_logged, number_there}
use Rattle.law.proofs.Homes.{log_in, evidence, decision_home, promised}
use Rattle.law.proofs.Instants.{Moment, moment}
use Rattle.law.proofs.Members.{among_left, among_right}
use Rattle.law.proofs.Picked.{any_of, gather_among, join_among, keep_among, map_among, some_same}
use Rattle.law.proofs.Recorded.{among_first, among_keep}
use Rattle.law.proofs.Accepts.{WritesOnce}
use Rattle.law.proofs.AreasAscend.{AllAscend, always_ascend, writes_once}
use Rattle.law.proofs.LooksHold.{always_kept, owns}
use Rattle.law.proofs.Serial.{put_untouched, put_written}
use Rattle.law.proofs.SortedParts.{has_of, once_has, shard_in, sorted_has}
use Rattle.law.proofs.InHistory.{InHistory, from_history}
use Rattle.law.proofs.Standing.{Wrote, write_home}
use Rattle.law.specs.Written.{IsOfSession, asks_to_commit, WrittenBySessions}

-- ---- the requests of a session have its writes

-- what a message of a closing writes
abbrev writes_in : Message → Option (List Write)
writes_in (Message.Prepare p) = Some p.writes
writes_in (Message.Commit c) = Some c.writes
writes_in _ = None

prepares_write : (splits : List Bytes) (c : Client) (k : ℕ) (ns : List ℕ) (n : ℕ) (e : Envelope) (s : List Write) →
    IsAmong (map (prepare_for splits c k) ns) e → shard_in e.to ≡ Some n → writes_in e.message ≡ Some s → s ≡ writes_at_shard splits c n
prepares_write splits c k [] n e s h to is = absurd h
prepares_write splits c k (m ∷ ms) n e s (inl same) to is =
    some_same s (writes_at_shard splits c n) (sym is ∙ ap (λ (z : Envelope). writes_in z.message) (sym same)
    ∙ ap (λ j. Some (writes_at_shard splits c j)) (some_same m n (ap (λ (z : Envelope). shard_in z.to) same ∙ to)))
prepares_write splits c k (m ∷ ms) n e s (inr later) to is = prepares_write splits c k ms n e s later to is

closing_writes : (splits : List Bytes) (c : Client) (ns : List ℕ) (n : ℕ) (e : Envelope) (s : List Write) → IsAmong (messages_for splits c ns) e →
    shard_in e.to ≡ Some n → writes_in e.message ≡ Some s → s ≡ writes_at_shard splits c n
closing_writes splits c [] n e s h to is = absurd h
closing_writes splits c (m ∷ ms) n e s (inl same) to is =
    some_same s (writes_at_shard splits c n) (sym is ∙ ap (λ (z : Envelope). writes_in z.message) (sym same)
    ∙ ap (λ j. Some (writes_at_shard splits c j)) (some_same m n (ap (λ (z : Envelope). shard_in z.to) same ∙ to)))
closing_writes splits c (m ∷ ms) n e s (inr later) to is = prepares_write splits c m ms n e s later to is

-- ---- the value that is written last

-- two lists of writes with the same members, each key once, do the same to a map
same_puts : (us ws : List Write) (m : Map) (k : Bytes) → WritesOnce ws → ((w : Write) → IsAmong us w → IsAmong ws w) →
    ((w : Write) → IsAmong ws w → IsAmong us w) → put_all us m k ≡ put_all ws m k
same_puts us ws m k one into from = by_some (find ws)
  where
    -- a write of the key, or none
    find : (vs : List Write) → ((w : Write) × IsAmong vs w × (w.key ≡ k)) ⊎ ((w : Write) → IsAmong vs w → w.key ≡ k → ⊥)
    find [] = inr (λ w h e. h)
    find (v ∷ vs) = by_test (same_key v.key k) refl (find vs)
      where
        not_true : (b : Bool) → b ≡ false → b ≡ true → ⊥
        not_true b e f = cc

        by_test : (b : Bool) → same_key v.key k ≡ b → ((w : Write) × IsAmong vs w × (w.key ≡ k)) ⊎ ((w : Write) → IsAmong vs w → w.key ≡ k → ⊥) →
            ((w : Write) × IsAmong (v ∷ vs) w × (w.key ≡ k)) ⊎ ((w : Write) → IsAmong (v ∷ vs) w → w.key ≡ k → ⊥)
        by_test true e rest = inl (v, inl refl, same_key-is v.key k e)
        by_test false e (inl p) = inl (p.0, inr p.1, p.2)
        by_test false e (inr none) = inr (λ w h is. elim h [
          | inl same ↦ not_true (same_key v.key k) e (subst (λ (z : Write). same_key z.key k ≡ true) (sym same)
              (subst (λ j. same_key w.key j ≡ true) is (key_refl w.key)))
          | inr later ↦ none w later is
        ])
          where
            key_refl : (j : Bytes) → same_key j j ≡ true
            key_refl j = same_key-refl j

    by_some : ((w : Write) × IsAmong ws w × (w.key ≡ k)) ⊎ ((w : Write) → IsAmong ws w → w.key ≡ k → ⊥) → put_all us m k ≡ put_all ws m k
    by_some (inl p) =
        put_written us m k (p.0).value p.0 (λ v h is. one v p.0 (into v h) p.1 (is ∙ sym p.2)) (from p.0 p.1) p.2
        ∙ sym (put_written ws m k (p.0).value p.0 (λ v h is. one v p.0 h p.1 (is ∙ sym p.2)) p.1 p.2)
    by_some (inr none) = put_untouched us m k (λ w h is. none w (into w h) is) ∙ sym (put_untouched ws m k none)

module _ (sc : Scene) (h : Holds sc) (logs : List (List Record)) (left : AreLeft sc logs)
    (own : (n : ℕ) (r : Record) → IsAmong (log_in logs n) r → belongs (setup_of sc.world.config n) r ≡ true)
    (all : AllAscend sc.world) (u : Txn) (there : IsAmong (history logs) u) where
  abbrev splits : List Bytes
  splits = sc.world.config.splits

  abbrev d : InHistory logs u
  d = from_history logs (left_logged sc h logs left) u there

  txn_is : d.commit.txn ≡ u.txn
  txn_is = ap (λ (z : Txn). z.txn) d.is

  abbrev request : CommitAsked sc.world d.shard d.commit.txn d.commit.parts d.commit.reads d.commit.writes
  request = (evidence sc h logs left d.shard (Commit d.commit) d.among).asked

  abbrev message : Message
  message = Message.Commit (record {
    txn = d.commit.txn;
    parts = d.commit.parts;
    reads = record { epoch = request.epoch; keys = d.commit.reads };
    writes = d.commit.writes;
  })

  abbrev asked : IsOfClosing sc.world d.commit.txn (record { to = Shard d.shard; message = message })
  asked = h.messages (record { to = Shard d.shard; message = message }) request.sent

  abbrev c : Client
  c = asked.over.client

  c_there : client_of sc.world u.txn ≡ Some c
  c_there = subst (λ t. client_of sc.world t ≡ Some c) txn_is asked.over.there

  -- a message of the closing has the session's writes
  closing_set : (t : Id) (n : ℕ) (m : Message) (s : List Write) → t ≡ u.txn → IsOfClosing sc.world t (record { to = Shard n; message = m }) →
      writes_in m ≡ Some s → s ≡ writes_at_shard splits c n
  unfolding closing_messages
  closing_set t n m s named k is =
      let e : Envelope = record { to = Shard n; message = m } in
      let mine : k.over.client ≡ c = some_same k.over.client c (sym k.over.there ∙ ap (λ i. client_of sc.world i) named ∙ c_there) in
      subst (λ (z : Client). s ≡ writes_at_shard splits z n) mine
      (closing_writes splits k.over.client (parts_of splits k.over.client) n e s (subst (λ l. IsAmong l e) (sym k.over.same) k.among) refl is)

  at_home : (n : ℕ) (r : Record) (w : Write) → IsAmong (log_in logs n) r → Wrote r u w → IsAmong c.writes w
  at_home n (Prepare p) w k wrote =
      let sent = evidence sc h logs left n (Prepare p) k in
      among_keep (λ (v : Write). nat_eq (shard_of splits v.key) n) c.writes w (subst (λ l. IsAmong l w)
      (closing_set p.txn n _ _ wrote.0 (h.messages _ sent.sent) refl) wrote.2)
  at_home n (Commit q) w k wrote =
      let sent = (evidence sc h logs left n (Commit q) k).asked in
      among_keep (λ (v : Write). nat_eq (shard_of splits v.key) n) c.writes w (subst (λ l. IsAmong l w)
      (closing_set q.txn n _ _ wrote.0 (h.messages _ sent.sent) refl) wrote.2)
  at_home n _ w k wrote = absurd wrote

  -- nothing else is written
  into : (w : Write) → IsAmong u.writes w → IsAmong c.writes w
  into w k =
      let home = write_home sc h logs left sc.world.config own u w there k in
      at_home home.shard home.claim w home.among home.wrote

  same_number : (n : ℕ) → nat_eq n n ≡ true
  same_number n = grind (arith, nat_tests)

  -- and all of it
  from : (w : Write) → IsAmong c.writes w → IsAmong u.writes w
  from w k = subst (λ (z : Txn). IsAmong z.writes w) d.is (elim (cases_eq n d.shard) [ inl same ↦ decides same | inr other ↦ promises other ])
    where
      n : ℕ
      n = shard_of splits w.key

      at_shard : IsAmong (writes_at_shard splits c n) w
      at_shard = keep_among (λ (v : Write). nat_eq (shard_of splits v.key) n) c.writes w k (same_number n)

      decides : n ≡ d.shard → IsAmong (whole_txn logs d.shard d.commit).writes w
      decides same =
          among_left d.commit.writes (flat_map (λ p. p.writes) (promised_elsewhere logs d.commit.txn d.shard)) w
          (subst (λ l. IsAmong l w) (ap (writes_at_shard splits c) same
          ∙ sym (closing_set d.commit.txn d.shard message d.commit.writes txn_is asked refl)) at_shard)

      part : has d.commit.parts n ≡ true
      part =
          let over = (decision_home sc h logs left d.shard d.commit d.among).0 in
          let mine : over.client ≡ c = some_same over.client c (sym over.there ∙ asked.over.there) in
          subst (λ ps. has ps n ≡ true) (ap (parts_of splits) (sym mine) ∙ over.same)
          (has_of (parts_of splits c) n (sorted_has nat_lt (once (map (λ (a : Taken). a.shard) c.taken ++
          map (λ (v : Write). shard_of splits v.key) c.writes)) n
          (once_has (map (λ (a : Taken). a.shard) c.taken ++ map (λ (v : Write). shard_of splits v.key) c.writes) n
          (among_right (map (λ (a : Taken). a.shard) c.taken) (map (λ (v : Write). shard_of splits v.key) c.writes) n
          (map_among (λ (v : Write). shard_of splits v.key) c.writes w k)))))

      apart : (a b : ℕ) → a ≢ b → not (nat_eq a b) ≡ true
      apart a b e = by_value (nat_eq a b) refl
        where
          by_value : (x : Bool) → nat_eq a b ≡ x → not x ≡ true
          by_value false is = refl
          by_value true is = absurd (e (eqb-true a b is))

      promises : n ≢ d.shard → IsAmong (whole_txn logs d.shard d.commit).writes w
      promises other =
          let p = promised sc h logs left d.shard n d.commit d.among part other in
          let sent = evidence sc h logs left n (Prepare p.promise) p.among in
          let has_it : IsAmong p.promise.writes w = subst (λ l. IsAmong l w)
          (sym (closing_set p.promise.txn n _ p.promise.writes (p.named ∙ txn_is) (h.messages _ sent.sent) refl)) at_shard in
          among_right d.commit.writes (flat_map (λ q. q.writes) (promised_elsewhere logs d.commit.txn d.shard)) w
          (join_among (λ (q : Prepared). q.writes) (promised_elsewhere logs d.commit.txn d.shard) p.promise w
          (join_among (λ (z : ℕ × List Record). filter (λ q. same_id q.txn d.commit.txn && not (nat_eq z.0 d.shard)) (gather as_prepared z.1))
          (by_shard logs) (n, log_in logs n) p.promise (number_there logs n (Prepare p.promise) p.among)
          (keep_among (λ q. same_id q.txn d.commit.txn && not (nat_eq n d.shard)) (gather as_prepared (log_in logs n)) p.promise
          (gather_among as_prepared (log_in logs n) (Prepare p.promise) p.promise p.among refl)
          (and_from (same_id p.promise.txn d.commit.txn) (not (nat_eq n d.shard)) (subst (λ i. same_id i d.commit.txn ≡ true) (sym p.named)
          (same_id-refl d.commit.txn)) (apart n d.shard other)))) has_it)

  pub of_session : IsOfSession sc.world u
  of_session = record {
    client = c;
    there = c_there;
    closed = any_of (asks_to_commit u.txn) sc.world.bag (record { to = Shard d.shard; message = message }) request.sent
        (subst (λ t. same_id d.commit.txn t ≡ true) txn_is (same_id-refl d.commit.txn));
    same = λ m k.
        same_puts u.writes c.writes m k
        (writes_once c.writes (all c (among_first (λ (z : Client). same_id z.txn u.txn) sc.world.clients c c_there))) into from;
  }

pub written_by_sessions : WrittenBySessions
written_by_sessions config es ls fair may u there =
    let m : Moment (run config es) ls = moment config es ls fair may in
    let all : AllAscend m.scene.world = subst AllAscend (sym m.same) (always_ascend config es fair) in
    let is_config : m.scene.world.config ≡ config = ap (λ (w : World). w.config) m.same ∙ (always_kept config es fair).settings in
    subst (λ (w : World). IsOfSession w u) m.same
    (of_session m.scene m.holds ls m.left (λ n r k. subst (λ g. belongs (setup_of g n) r ≡ true) (sym is_config) (owns config es ls fair may n r k))
    all u there)
