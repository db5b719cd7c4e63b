-- Every answered read of a committed transaction equals the serial run before it, in each log that a crash may leave.
use Rattle.std.proofs.Common.{◌≡◌, ◌≢◌, inl, inr, ℕ, ◌≤◌, true, nat_eq, nat_le, nat_lt, List, [], ◌∷◌, ◌++◌, map, Option, Some, None, refl, sym, ap}
use Rattle.std.proofs.Common.{subst, ◌∙◌, arith, filter}
use Rattle.std.proofs.lemmas.Bool.{cases_eq, eqb-true, and_parts}
use Rattle.std.proofs.lemmas.Bool.Decides.{nat_tests}
use Rattle.units.specs.Ids.{Id, same_id}
use Rattle.units.specs.Keys.{Bytes, key_before, shard_of}
use Rattle.units.specs.Lists.{first, has, once}
use Rattle.units.specs.declared.line.Line.{Line}
use Rattle.units.specs.declared.writes.Write.{Write}
use Rattle.units.proofs.ByIdLaws.{first_passes}
use Rattle.units.proofs.Folds.{is_there, there_first}
use Rattle.units.proofs.IdLaws.{same_id-is}
use Rattle.record.specs.Accepted.{belongs}
use Rattle.record.specs.History.{Txn, history, before, find_txn}
use Rattle.record.specs.Serially.{ReadsSerially}
use Rattle.record.specs.declared.record.Record.{Record}
use Rattle.record.specs.declared.record.Record.TheVariants.{Prepare, Commit}
use Rattle.message.specs.ReadSet.{ReadSet}
use Rattle.message.specs.declared.message.Address.TheVariants.{Shard}
use Rattle.message.specs.declared.message.Envelope.{Envelope}
use Rattle.message.specs.declared.message.Input.{Input}
use Rattle.message.specs.declared.message.Message.{Message}
use Rattle.message.specs.declared.message.ReadAnswer.{ReadAnswer}
use Rattle.session.specs.Sessions.{Client, closing_messages, messages_for, prepare_for, parts_of, epoch_read_at, epoch_or_none, reads_at, read_set}
use Rattle.session.specs.declared.answered.Answered.{Answered as Taken}
use Rattle.law.specs.Among.{IsAmong}
use Rattle.law.specs.Evidence.{Scene, Holds, IsOfClosing}
use Rattle.world.specs.Headline.{AllAccepted, MayBeLeft}
use Rattle.world.specs.Lawful.{lawful, may_act}
use Rattle.law.specs.Left.{AreLeft}
use Rattle.world.specs.World.{World, setup_of, start, run}
use Rattle.world.specs.declared.event.Config.{Config}
use Rattle.world.specs.declared.event.Event.{Event}
use Rattle.law.proofs.Decisions.{left_logged, there_in}
use Rattle.law.proofs.Doings.{get_among}
use Rattle.law.proofs.Homes.{log_in, evidence, decision_home, promised}
use Rattle.law.proofs.Instants.{Moment, moment}
use Rattle.law.proofs.Members.{among_left}
use Rattle.law.proofs.Picked.{any_of, keep_among, map_among, some_same}
use Rattle.law.proofs.Recorded.{among_first}
use Rattle.law.proofs.Accepts.{each_at, place_of}
use Rattle.law.proofs.AreasAscend.{AllAscend, always_ascend}
use Rattle.law.proofs.Fair.{IsFairInput}
use Rattle.law.proofs.KeptRead.{IsAllowed, KeptRead, Tells, Told, tells_keeps, tells_opens, told_follows, told_logs, told_opens}
use Rattle.law.proofs.LooksHold.{all_write_once, owns, start_kept}
use Rattle.law.proofs.ReadBefore.{Claims, read_serially}
use Rattle.law.proofs.ReadsHold.{act_allowed, always_spoken, run_keeps_read}
use Rattle.law.proofs.Said.{AllOneEpoch, OneEpoch, OwnIds, ReadOf, Took, answer_env}
use Rattle.law.proofs.LeftGood.{left_is_good, recovered}
use Rattle.law.proofs.SortedParts.{has_of, once_has, shard_in, sorted_has}
use Rattle.law.proofs.Stamps.{left_stamped}
use Rattle.law.proofs.InHistory.{InHistory, from_history}

-- ---- the requests of a session ask for what it took

module _ (c : Client) (q : Taken) (there : IsAmong c.taken q) where
  part : (splits : List Bytes) → has (parts_of splits c) q.shard ≡ true
  part splits =
      has_of (parts_of splits c) q.shard (sorted_has nat_lt (once (map (λ (a : Taken). a.shard) c.taken ++
      map (λ (w : Write). shard_of splits w.key) c.writes)) q.shard
      (once_has (map (λ (a : Taken). a.shard) c.taken ++ map (λ (w : Write). shard_of splits w.key) c.writes) q.shard
      (among_left (map (λ (a : Taken). a.shard) c.taken) (map (λ (w : Write). shard_of splits w.key) c.writes) q.shard
      (map_among (λ (a : Taken). a.shard) c.taken q there))))

  same_number : (n : ℕ) → nat_eq n n ≡ true
  same_number n = grind (arith, nat_tests)

  read_there : IsAmong (reads_at c q.shard) q.key
  read_there =
      sorted_has key_before (map (λ (a : Taken). a.key) (filter (λ (a : Taken). nat_eq a.shard q.shard) c.taken)) q.key
      (map_among (λ (a : Taken). a.key) (filter (λ (a : Taken). nat_eq a.shard q.shard) c.taken) q
      (keep_among (λ (a : Taken). nat_eq a.shard q.shard) c.taken q there (same_number q.shard)))

  epoch_is : OneEpoch c → epoch_read_at c q.shard ≡ q.epoch
  epoch_is one = by_value (first (λ (a : Taken). nat_eq a.shard q.shard) c.taken) refl
    where
      none_there : {A : Type 0} (o : Option A) → o ≡ None → is_there o ≡ true → ⊥
      none_there None e k = cc
      none_there (Some x) e k = cc

      by_value : (o : Option Taken) → first (λ (a : Taken). nat_eq a.shard q.shard) c.taken ≡ o → epoch_or_none o ≡ q.epoch
      by_value None e = absurd (none_there (first (λ (a : Taken). nat_eq a.shard q.shard) c.taken) e
          (there_first (λ (a : Taken). nat_eq a.shard q.shard) c.taken ∙ any_of (λ (a : Taken). nat_eq a.shard q.shard) c.taken q there (same_number q.shard)))
      by_value (Some z) e = one z q (among_first (λ (a : Taken). nat_eq a.shard q.shard) c.taken z e) there
          (eqb-true z.shard q.shard (first_passes (λ (a : Taken). nat_eq a.shard q.shard) c.taken z e))

-- what a message of a closing reads
abbrev reads_in : Message → Option ReadSet
reads_in (Message.Prepare p) = Some p.reads
reads_in (Message.Commit c) = Some c.reads
reads_in _ = None

prepares_read : (splits : List Bytes) (c : Client) (k : ℕ) (ns : List ℕ) (n : ℕ) (e : Envelope) (s : ReadSet) →
    IsAmong (map (prepare_for splits c k) ns) e → shard_in e.to ≡ Some n → reads_in e.message ≡ Some s → s ≡ read_set c n
prepares_read splits c k [] n e s h to is = absurd h
prepares_read splits c k (m ∷ ms) n e s (inl same) to is =
    some_same s (read_set c n) (sym is ∙ ap (λ (z : Envelope). reads_in z.message) (sym same)
    ∙ ap (λ j. Some (read_set c j)) (some_same m n (ap (λ (z : Envelope). shard_in z.to) same ∙ to)))
prepares_read splits c k (m ∷ ms) n e s (inr later) to is = prepares_read splits c k ms n e s later to is

closing_reads : (splits : List Bytes) (c : Client) (ns : List ℕ) (n : ℕ) (e : Envelope) (s : ReadSet) → IsAmong (messages_for splits c ns) e →
    shard_in e.to ≡ Some n → reads_in e.message ≡ Some s → s ≡ read_set c n
closing_reads splits c [] n e s h to is = absurd h
closing_reads splits c (m ∷ ms) n e s (inl same) to is =
    some_same s (read_set c n) (sym is ∙ ap (λ (z : Envelope). reads_in z.message) (sym same)
    ∙ ap (λ j. Some (read_set c j)) (some_same m n (ap (λ (z : Envelope). shard_in z.to) same ∙ to)))
closing_reads splits c (m ∷ ms) n e s (inr later) to is = prepares_read splits c m ms n e s later to is

module _ (sc : Scene) (h : Holds sc) (own : OwnIds sc.world) (epochs : AllOneEpoch sc.world) (a : ReadAnswer) (x : Option Bytes)
    (took : Took sc.world a x) where
  abbrev q : Taken
  q = record { key = a.key; shard = a.from; epoch = a.epoch; value = x }

  -- the closing of the reader is that of the session that took the answer
  closing_set : (t : Id) (n : ℕ) (m : Message) (s : ReadSet) → t ≡ a.txn → IsOfClosing sc.world t (record { to = Shard n; message = m }) →
      reads_in m ≡ Some s → s ≡ read_set took.client n
  unfolding closing_messages
  closing_set t n m s named c is =
      let e : Envelope = record { to = Shard n; message = m } in
      let client = c.over.client in
      let mine : client ≡ took.client = own client took.client (among_first (λ (d : Client). same_id d.txn t) sc.world.clients client c.over.there) took.there
      (same_id-is client.txn t (first_passes (λ (d : Client). same_id d.txn t) sc.world.clients client c.over.there) ∙ named ∙ sym took.txn) in
      subst (λ (z : Client). s ≡ read_set z n) mine (closing_reads sc.world.config.splits client (parts_of sc.world.config.splits client) n e s
      (subst (λ l. IsAmong l e) (sym c.over.same) c.among) refl is)

  pub asked_fairly : (m : Message) → IsAmong sc.world.bag (record { to = Shard a.from; message = m }) → IsFairInput a.txn a.key a.epoch (Input.Deliver m)
  asked_fairly (Message.Prepare p) sent = λ same there. ap (λ (z : ReadSet). z.epoch) (closing_set p.txn a.from (Message.Prepare p) p.reads same
      (h.messages _ sent) refl) ∙ epoch_is took.client q took.taken (epochs took.client took.there)
  asked_fairly (Message.Commit c) sent = λ same there. ap (λ (z : ReadSet). z.epoch) (closing_set c.txn a.from (Message.Commit c) c.reads same
      (h.messages _ sent) refl) ∙ epoch_is took.client q took.taken (epochs took.client took.there)
  asked_fairly _ sent = tt

  -- the record of the reader at the shard that answered
  pub record ReaderLogged (logs : List (List Record)) (u : Txn) : Type 0 where
    pub claim : Record
    pub among : IsAmong (log_in logs a.from) claim
    pub at : ℕ
    pub reads : List Bytes
    pub writes : List Write
    pub claims : Claims claim u.txn at reads writes
    pub low : at ≤ u.at
    pub within : IsAmong reads a.key

  read_at : (rs : List Bytes) (n : ℕ) → rs ≡ reads_at took.client n → n ≡ a.from → IsAmong rs a.key
  read_at rs n is here = subst (λ l. IsAmong l a.key) (sym (is ∙ ap (reads_at took.client) here)) (read_there took.client q took.taken)

  pub reader_logged : (logs : List (List Record)) → AreLeft sc logs → (u : Txn) → IsAmong (history logs) u → u.txn ≡ a.txn → ReaderLogged logs u
  reader_logged logs left u there named = elim (cases_eq a.from d.shard) [ inl same ↦ decides same | inr other ↦ promises other ]
    where
      d : InHistory logs u
      d = from_history logs (left_logged sc h logs left) u there

      txn_is : d.commit.txn ≡ u.txn
      txn_is = ap (λ (z : Txn). z.txn) d.is

      low_is : d.commit.at ≡ u.at
      low_is = ap (λ (z : Txn). z.at) d.is

      decides : a.from ≡ d.shard → ReaderLogged logs u
      decides same =
          let asked = (evidence sc h logs left d.shard (Commit d.commit) d.among).asked in
          let set = closing_set d.commit.txn d.shard _ _ (txn_is ∙ named) (h.messages _ asked.sent) refl in
          record {
            claim = Commit d.commit;
            among = subst (λ n. IsAmong (log_in logs n) (Commit d.commit)) (sym same) d.among;
            at = d.commit.at;
            reads = d.commit.reads;
            writes = d.commit.writes;
            claims = (txn_is, refl, refl, refl);
            low = omega (arith, low_is);
            within = read_at d.commit.reads d.shard (ap (λ (z : ReadSet). z.keys) set) (sym same);
          }

      has_part : has d.commit.parts a.from ≡ true
      has_part =
          let over = (decision_home sc h logs left d.shard d.commit d.among).0 in
          let mine : over.client ≡ took.client = own over.client took.client (among_first
          (λ (z : Client). same_id z.txn d.commit.txn) sc.world.clients over.client over.there) took.there
          (same_id-is over.client.txn d.commit.txn (first_passes (λ (z : Client). same_id z.txn d.commit.txn) sc.world.clients over.client
          over.there) ∙ txn_is ∙ named ∙ sym took.txn) in
          subst (λ ps. has ps a.from ≡ true) (ap (parts_of sc.world.config.splits) (sym mine) ∙ over.same)
          (part took.client q took.taken sc.world.config.splits)

      promises : a.from ≢ d.shard → ReaderLogged logs u
      promises other =
          let p = promised sc h logs left d.shard a.from d.commit d.among has_part other in
          let asked = evidence sc h logs left a.from (Prepare p.promise) p.among in
          let set = closing_set p.promise.txn a.from _ _ (p.named ∙ txn_is ∙ named) (h.messages _ asked.sent) refl in
          let below = p.below in
          record {
            claim = Prepare p.promise;
            among = p.among;
            at = p.promise.at;
            reads = p.promise.reads;
            writes = p.promise.writes;
            claims = (p.named ∙ txn_is, refl, refl, refl);
            low = omega (arith, low_is, below);
            within = read_at p.promise.reads a.from (ap (λ (z : ReadSet). z.keys) set) refl;
          }

-- ---- the logs that a crash may leave

own_read : (config : Config) (n : ℕ) (r : Record) (t : Id) (at : ℕ) (ks : List Bytes) (ws : List Write) (k : Bytes) → Claims r t at ks ws →
    belongs (setup_of config n) r ≡ true → IsAmong ks k → shard_of config.splits k ≡ n
unfolding belongs
own_read config n (Prepare p) t at ks ws k c b there = eqb-true _ _ (each_at (λ j. nat_eq (shard_of config.splits j) n) p.reads k (and_parts _ _ b).0
    (subst (λ l. IsAmong l k) (sym c.2) there))
own_read config n (Commit p) t at ks ws k c b there = eqb-true _ _ (each_at (λ j. nat_eq (shard_of config.splits j) n) p.reads k (and_parts _ _ b).0
    (subst (λ l. IsAmong l k) (sym c.2) there))
own_read config n _ t at ks ws k c b there = absurd c

module _ (config : Config) (es : List Event) (ls : List (List Record)) (fair : lawful config es ≡ true) (may : MayBeLeft config es ls) where
  m : Moment (run config es) ls
  m = moment config es ls fair may

  accepted : AllAccepted config ls
  accepted = recovered config es ls fair may

  nothing_told : (e : Envelope) → IsAmong (start config).bag e → ⊥
  unfolding start
  nothing_told e none = none

  by_read : (t : Id) (k : Bytes) (x : Option Bytes) (u : Txn) → ReadOf (run config es) t k x → find_txn (history ls) t ≡ Some u → before (history ls) u k ≡ x
  unfolding run lawful
  by_read t k x u r found =
      let spoken = always_spoken config es fair in
      let a = r.answer in
      let n = a.from in
      let own : OwnIds m.scene.world = subst OwnIds (sym m.same) spoken.own in
      let epochs : AllOneEpoch m.scene.world = subst AllOneEpoch (sym m.same) spoken.epochs in
      let took : Took m.scene.world a x = subst (λ (z : World). Took z a x) (sym m.same) r.took in
      let fairly : (z : Message) → IsAmong (run config es).bag (record { to = Shard n; message = z }) → IsFairInput a.txn a.key a.epoch (Input.Deliver z) =
      λ z h. asked_fairly m.scene m.holds own epochs a x took z (subst (λ (v : World). IsAmong v.bag (record { to = Shard n; message = z })) (sym m.same) h) in
      let kept : KeptRead n a.txn a.key a.epoch x (run config es) =
      run_keeps_read r.to a x r.holds (run config es).bag fairly config (start config) es fair (start_kept config) (λ z h. h)
      (λ h. absurd (nothing_told (answer_env r.to a) h)) r.told in
      let there = among_first (λ (y : Txn). same_id y.txn t) (history ls) u found in
      let named : u.txn ≡ a.txn = same_id-is u.txn t (first_passes (λ (y : Txn). same_id y.txn t) (history ls) u found) ∙ sym r.txn in
      let logged = reader_logged m.scene m.holds own epochs a x took ls m.left u there named in
      let place = place_of (log_in ls n) logged.claim logged.among in
      let is_there = there_in ls n logged.claim logged.among in
      let told : Told n a.txn a.key a.epoch x (setup_of (run config es).config n) (log_in ls n) =
      left_is_good (IsAllowed n a.txn a.key a.epoch x) (Tells n a.txn a.key a.epoch x) (Told n a.txn a.key a.epoch x)
      (tells_keeps n a.txn a.key a.epoch x) (tells_opens n a.txn a.key a.epoch x)
      (told_follows n a.txn a.key a.epoch x) (told_logs n a.txn a.key a.epoch x) (told_opens n a.txn a.key a.epoch x) config es ls may kept
      (λ z ok. act_allowed r.to a x r.holds (run config es).bag fairly (run config es) z.time z.act (λ v h. h)
      (and_parts (nat_le (run config es).time z.time) (may_act (run config es) z.time z.act) ok).1) n (log_in ls n) is_there in
      let value = told.right refl place.front logged.claim place.back logged.at logged.reads logged.writes place.same
      (subst (λ v. Claims logged.claim v logged.at logged.reads logged.writes) named logged.claims) logged.within in
      let shard_is = own_read config n logged.claim u.txn logged.at logged.reads logged.writes a.key logged.claims
      (owns config es ls fair may n logged.claim logged.among) logged.within in
      let all : AllAscend m.scene.world = subst AllAscend (sym m.same) (always_ascend config es fair) in
      subst (λ j. before (history ls) u j ≡ x) r.key
      (read_serially m.scene m.holds ls m.left config (owns config es ls fair may) n (accepted n (log_in ls n) is_there)
      (all_write_once m.scene m.holds ls m.left all n)
      (left_stamped config es ls fair may n (log_in ls n) is_there) u there place.front logged.claim place.back place.same logged.at logged.reads
      logged.writes logged.claims logged.low a.key shard_is logged.within
      ∙ value)

  -- every answered read of a committed transaction equals the serial run before it
  pub reads_serially : ReadsSerially ls (run config es).lines
  reads_serially t k x u line found = by_read t k x u ((always_spoken config es fair).reads t k x
      (get_among (run config es).lines line.0 (Line.Read t k x) line.1)) found
