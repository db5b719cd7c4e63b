-- Where the records of a transaction stand: all follow from its one closing.
use Rattle.std.proofs.Common.{◌≡◌, ◌≢◌, inl, inr, ℕ, ◌≤◌, Bool, true, false, not, cond, ◌||◌, nat_eq, List, [], ◌∷◌, Option, Some, None, slice_get}
use Rattle.std.proofs.Common.{refl, sym, ap, subst, ◌∙◌, map, arith}
use Rattle.std.proofs.lemmas.Bool.Decides.{nat_tests}
use Rattle.units.specs.Lists.{has, head}
use Rattle.units.specs.Ids.{Id}
use Rattle.units.specs.Keys.{Bytes}
use Rattle.units.specs.declared.writes.Write.{Write}
use Rattle.record.specs.declared.record.Committed.{Committed}
use Rattle.record.specs.declared.record.Prepared.{Prepared}
use Rattle.record.specs.declared.record.Record.{Record}
use Rattle.message.specs.declared.message.Address.TheVariants.{Shard, Session}
use Rattle.message.specs.declared.message.Envelope.{Envelope}
use Rattle.message.specs.declared.message.Message.{Message}
use Rattle.protocol.specs.Cells.{other_parts}
use Rattle.session.specs.Sessions.{Client, closing_messages, messages_for, prepare_for, parts_of}
use Rattle.world.specs.World.{World, ShardNow, client_of}
use Rattle.law.specs.Among.{IsAmong}
use Rattle.law.specs.Evidence.{Scene, log_at, IsOfClosing, CommitAsked, PrepareAsked, HasDecision, WasTold, WasAsked, WasQuestioned}
use Rattle.law.specs.Evidence.{RecordEvidence, Holds}
use Rattle.law.specs.Left.{IsLeftLog, AreLeft}
use Rattle.law.proofs.Logged.{AreLogged, rests_logged}
use Rattle.law.proofs.Orderly.{IsOrderly, orderly, one_decision, decided_not_aborted}
use Rattle.law.proofs.Picked.{some_same}

-- ---- the closing of a transaction

-- a session takes part at these shards
pub record ClosesOver (w : World) (t : Id) (parts : List ℕ) : Type 0 where
  pub client : Client
  pub there : client_of w t ≡ Some client
  pub same : parts_of w.config.splits client ≡ parts

-- what an envelope says of the closing
abbrev shard_in : Envelope → Option ℕ
shard_in e = elim e.to [ Shard n ↦ Some n | Session t ↦ None ]

abbrev parts_in : Envelope → Option (List ℕ)
parts_in e = elim e.message [ Message.Commit c ↦ Some c.parts | _ ↦ None ]

abbrev coordinator_in : Envelope → Option ℕ
coordinator_in e = elim e.message [ Message.Prepare p ↦ Some p.coordinator | _ ↦ None ]

not_prepare : (splits : List Bytes) (c : Client) (n : ℕ) (ns : List ℕ) (e : Envelope) (ps : List ℕ) → parts_in e ≡ Some ps →
    IsAmong (map (prepare_for splits c n) ns) e → ⊥
not_prepare splits c n [] e ps k h = absurd h
not_prepare splits c n (m ∷ ms) e ps k (inl same) = none_some (ap parts_in same ∙ k)
  where
    none_some : None ≡ Some ps → ⊥
    none_some j = cc
not_prepare splits c n (m ∷ ms) e ps k (inr later) = not_prepare splits c n ms e ps k later

commit_in : (splits : List Bytes) (c : Client) (all : List ℕ) (n : ℕ) (ps : List ℕ) (e : Envelope) → shard_in e ≡ Some n → parts_in e ≡ Some ps →
    IsAmong (messages_for splits c all) e → (all ≡ ps) × (head all ≡ Some n)
commit_in splits c [] n ps e to parts h = absurd h
commit_in splits c (m ∷ ms) n ps e to parts (inl same) = (some_same _ ps (ap parts_in same ∙ parts), ap shard_in same ∙ to)
commit_in splits c (m ∷ ms) n ps e to parts (inr later) = absurd (not_prepare splits c m ms e ps parts later)

prepare_in : (splits : List Bytes) (c : Client) (k : ℕ) (ns : List ℕ) (n : ℕ) (e : Envelope) (coordinator : ℕ) → shard_in e ≡ Some n →
    coordinator_in e ≡ Some coordinator →
    IsAmong (map (prepare_for splits c k) ns) e → (k ≡ coordinator) × (has ns n ≡ true)
prepare_in splits c k [] n e coordinator to by h = absurd h
prepare_in splits c k (m ∷ ms) n e coordinator to by (inl same) =
    (some_same k coordinator (ap coordinator_in same ∙ by), here (some_same m n (ap shard_in same ∙ to)))
  where
    here : m ≡ n → (nat_eq n m || has ms n) ≡ true
    here s = grind (arith, nat_tests)
prepare_in splits c k (m ∷ ms) n e coordinator to by (inr later) =
    let ih = prepare_in splits c k ms n e coordinator to by later in (ih.0, further ih.1)
  where
    further : has ms n ≡ true → (nat_eq n m || has ms n) ≡ true
    further s = grind (arith, nat_tests)

-- the coordinator of a closing, and that a shard takes part
pub record TakesPart (w : World) (t : Id) (coordinator n : ℕ) : Type 0 where
  pub parts : List ℕ
  pub over : ClosesOver w t parts
  pub least : head parts ≡ Some coordinator
  pub part : has parts n ≡ true

prepare_among : (splits : List Bytes) (c : Client) (all : List ℕ) (n : ℕ) (e : Envelope) (coordinator : ℕ) → shard_in e ≡ Some n →
    coordinator_in e ≡ Some coordinator →
    IsAmong (messages_for splits c all) e → (head all ≡ Some coordinator) × (has all n ≡ true)
prepare_among splits c [] n e coordinator to by h = absurd h
prepare_among splits c (m ∷ ms) n e coordinator to by (inl same) = absurd (none_some (ap coordinator_in same ∙ by))
  where
    none_some : None ≡ Some coordinator → ⊥
    none_some j = cc
prepare_among splits c (m ∷ ms) n e coordinator to by (inr later) =
    let p = prepare_in splits c m ms n e coordinator to by later in (ap (λ x. Some x) p.0, further p.1)
  where
    further : has ms n ≡ true → (nat_eq n m || has ms n) ≡ true
    further s = grind (arith, nat_tests)

module _ (sc : Scene) (h : Holds sc) where
  -- one closing of each transaction
  pub same_parts : (t : Id) (ps qs : List ℕ) → ClosesOver sc.world t ps → ClosesOver sc.world t qs → ps ≡ qs
  same_parts t ps qs a b =
      sym a.same ∙ ap (parts_of sc.world.config.splits) (some_same a.client b.client (sym a.there ∙ b.there)) ∙ b.same

  pub commit_home : (n : ℕ) (t : Id) (ps : List ℕ) (rs : List Bytes) (ws : List Write) → CommitAsked sc.world n t ps rs ws → ClosesOver sc.world t ps
      × (head ps ≡ Some n)
  unfolding closing_messages
  commit_home n t ps rs ws asked =
      let e : Envelope = record {
        to = Shard n;
        message = Message.Commit
            (record { txn = t; parts = ps; reads = record { epoch = asked.epoch; keys = rs }; writes = ws });
      } in
      let closing : IsOfClosing sc.world t e = h.messages e asked.sent in
      let client = closing.over.client in
      let among = subst (λ l. IsAmong l e) (sym closing.over.same) closing.among in
      let k = commit_in sc.world.config.splits client (parts_of sc.world.config.splits client) n ps e refl refl among in
      (record { client = client; there = closing.over.there; same = k.0 }, ap head (sym k.0) ∙ k.1)

  pub prepare_home : (n : ℕ) (t : Id) (c : ℕ) (rs : List Bytes) (ws : List Write) → PrepareAsked sc.world n t c rs ws → TakesPart sc.world t c n
  unfolding closing_messages
  prepare_home n t c rs ws asked =
      let e : Envelope = record {
        to = Shard n;
        message = Message.Prepare
            (record { txn = t; coordinator = c; reads = record { epoch = asked.epoch; keys = rs }; writes = ws });
      } in
      let closing : IsOfClosing sc.world t e = h.messages e asked.sent in
      let client = closing.over.client in
      let among = subst (λ l. IsAmong l e) (sym closing.over.same) closing.among in
      let k = prepare_among sc.world.config.splits client (parts_of sc.world.config.splits client) n e c refl refl among in
      record {
        parts = parts_of sc.world.config.splits client;
        over = record { client = client; there = closing.over.there; same = refl };
        least =
            k.0;
        part = k.1;
      }

-- ---- logs that a crash may leave

-- the log of a shard
abbrev pub log_in : List (List Record) → ℕ → List Record
log_in logs n = elim (slice_get logs n) [ None ↦ [] | Some log ↦ log ]

module _ (sc : Scene) (h : Holds sc) (logs : List (List Record)) (left : AreLeft sc logs) where
  left_log : (n : ℕ) (r : Record) → IsAmong (log_in logs n) r → IsLeftLog sc n (log_in logs n)
  left_log n r k = by_value (slice_get logs n) refl k
    where
      by_value : (o : Option (List Record)) → slice_get logs n ≡ o → IsAmong (elim o as (λ x. List Record) [ None ↦ [] | Some log ↦ log ]) r →
          IsLeftLog sc n (elim o as (λ x. List Record) [ None ↦ [] | Some log ↦ log ])
      by_value None e j = absurd j
      by_value (Some log) e j = left.each n log e

  pub evidence : (n : ℕ) (r : Record) → IsAmong (log_in logs n) r → RecordEvidence sc (log_in logs n) n r
  evidence n r k = (left_log n r k).records r k

  -- it is of the kinds that steps log
  pub log_logged : (n : ℕ) → AreLogged (log_in logs n)
  log_logged n r k = rests_logged sc (log_in logs n) n r (evidence n r k)

  pub is_orderly : (n : ℕ) (r : Record) → IsAmong (log_in logs n) r → IsOrderly (log_in logs n)
  is_orderly n r k = orderly n (log_in logs n) (left_log n r k).follows (log_logged n)

  -- what is surely logged is in the log
  pub kept : (n : ℕ) (r : Record) → IsAmong (log_at sc.world n) r → IsAmong (log_in logs n) r
  kept n r k = by_value (slice_get sc.world.shards n) refl k
    where
      by_log : (s : ShardNow) → slice_get sc.world.shards n ≡ Some s → IsAmong s.log r → (log : List Record) → slice_get logs n ≡ Some log → IsAmong log r
      by_log s e j log is =
          let l = left.each n log is in
          l.whole r (subst (λ (x : ShardNow). IsAmong x.log r) (some_same s l.shard (sym e ∙ l.there)) j)

      by_value : (o : Option ShardNow) → slice_get sc.world.shards n ≡ o → IsAmong (elim o as (λ x. List Record) [ None ↦ [] | Some s ↦ s.log ]) r →
          IsAmong (log_in logs n) r
      by_value None e j = absurd j
      by_value (Some s) e j =
          let l = left.all n s e in
          subst (λ o. IsAmong (elim o as (λ x. List Record) [ None ↦ [] | Some log ↦ log ]) r) (sym l.1) (by_log s e j l.0 l.1)

  -- ---- decisions and aborts stand at the coordinator

  pub decision_home : (n : ℕ) (c : Committed) → IsAmong (log_in logs n) (Record.Commit c) → ClosesOver sc.world c.txn c.parts × (head c.parts ≡ Some n)
  decision_home n c k = commit_home sc h n c.txn c.parts c.reads c.writes (evidence n (Record.Commit c) k).asked

  pub promise_home : (n : ℕ) (p : Prepared) → IsAmong (log_in logs n) (Record.Prepare p) → TakesPart sc.world p.txn p.coordinator n
  promise_home n p k = prepare_home sc h n p.txn p.coordinator p.reads p.writes (evidence n (Record.Prepare p) k)

  -- the shard is the least of the parts of a closing
  record IsCoordinator (t : Id) (n : ℕ) : Type 0 where
    pub parts : List ℕ
    pub over : ClosesOver sc.world t parts
    pub least : head parts ≡ Some n

  same_shard : (a b : ℕ) → Shard a ≡ Shard b → a ≡ b
  same_shard a b e = cc

  abort_home : (n : ℕ) (t : Id) → IsAmong (log_in logs n) (Record.Abort t) → IsCoordinator t n
  abort_home n t k = elim (evidence n (Record.Abort t) k) [
    | inl asked ↦ by_request asked
    | inr question ↦ by_question question
  ]
    where
      by_request : WasAsked sc.world n t → IsCoordinator t n
      by_request a = let home = commit_home sc h n t a.parts a.reads a.writes a.asked in record { parts = a.parts; over = home.0; least = home.1 }

      by_question : WasQuestioned sc.world n t → IsCoordinator t n
      by_question q =
          let said = h.messages _ q.sent in
          let promised = said.told.1.promised in
          let home = promise_home said.shard _ (kept said.shard _ promised.among) in
          record {
            parts = home.parts;
            over = home.over;
            least = home.least ∙ ap (λ x. Some x)
                (sym (same_shard n said.told.1.coordinator said.told.1.receiver));
          }

  -- two shards that are the least of a closing are one
  pub one_home : (t : Id) (n m : ℕ) (ps qs : List ℕ) → ClosesOver sc.world t ps → head ps ≡ Some n → ClosesOver sc.world t qs → head qs ≡ Some m → n ≡ m
  one_home t n m ps qs a k b l = some_same n m (sym k ∙ ap head (same_parts sc h t ps qs a b) ∙ l)

  pub not_both : (n m : ℕ) (c : Committed) → IsAmong (log_in logs n) (Record.Commit c) → IsAmong (log_in logs m) (Record.Abort c.txn) → ⊥
  not_both n m c k l =
      let a = decision_home n c k in
      let b = abort_home m c.txn l in
      let same : m ≡ n = one_home c.txn m n b.parts c.parts b.over b.least a.0 a.1 in
      decided_not_aborted (log_in logs n) (is_orderly n (Record.Commit c) k) c k (subst (λ j. IsAmong (log_in logs j) (Record.Abort c.txn)) same l)

  -- one decision over all logs
  pub one_place : (n m : ℕ) (c d : Committed) → IsAmong (log_in logs n) (Record.Commit c) → IsAmong (log_in logs m) (Record.Commit d) →
      d.txn ≡ c.txn → (n ≡ m) × (c ≡ d)
  one_place n m c d k l e =
      let a = decision_home n c k in
      let b = decision_home m d l in
      let same : m ≡ n = one_home c.txn m n d.parts c.parts (subst (λ t. ClosesOver sc.world t d.parts) e b.0) b.1 a.0 a.1 in
      (sym same, one_decision (log_in logs n) (is_orderly n (Record.Commit c) k) c d k (subst (λ j. IsAmong (log_in logs j) (Record.Commit d)) same l) e)

  -- what a coordinator told stands in its log
  pub no_aborted : (n m : ℕ) (c : Committed) → IsAmong (log_in logs n) (Record.Commit c) → IsAmong (log_in logs m) (Record.Outcome c.txn None) → ⊥
  no_aborted n m c k l =
      let e : WasTold sc.world (log_in logs m) m c.txn None = evidence m (Record.Outcome c.txn None) l in
      let said = h.messages _ e.sent in
      not_both n said.shard c k (kept said.shard _ said.told.1)

  -- a decision that an outcome rests on
  pub record DecidedAt (t : Id) (s : ℕ) : Type 0 where
    pub shard : ℕ
    pub commit : Committed
    pub among : IsAmong (log_in logs shard) (Record.Commit commit)
    pub named : commit.txn ≡ t
    pub stamp : commit.at ≡ s

  pub outcome_decided : (m : ℕ) (t : Id) (s : ℕ) → IsAmong (log_in logs m) (Record.Outcome t (Some s)) → DecidedAt t s
  outcome_decided m t s l = elim ((evidence m (Record.Outcome t (Some s)) l).1) [
    | inl d ↦ here d
    | inr w ↦ told w
  ]
    where
      here : HasDecision (log_in logs m) t s → DecidedAt t s
      here d = record { shard = m; commit = _; among = d.among; named = refl; stamp = refl }

      told : WasTold sc.world (log_in logs m) m t (Some s) → DecidedAt t s
      told w =
          let said = h.messages _ w.sent in
          record { shard = said.shard; commit = _; among = kept said.shard _ said.told.1.decided.among; named = refl; stamp = refl }

  pub outcome_stamp : (n m : ℕ) (c : Committed) (s : ℕ) → IsAmong (log_in logs n) (Record.Commit c) →
      IsAmong (log_in logs m) (Record.Outcome c.txn (Some s)) → c.at ≡ s
  outcome_stamp n m c s k l =
      let d = outcome_decided m c.txn s l in
      ap (λ (x : Committed). x.at) (one_place n d.shard c d.commit k d.among d.named).1 ∙ d.stamp

  -- ---- promises

  other_has : (ps : List ℕ) (n m : ℕ) → has ps m ≡ true → m ≢ n → has (other_parts n ps) m ≡ true
  other_has [] n m e ne = e
  other_has (x ∷ xs) n m e ne = by_test (nat_eq x n) refl (other_has xs n m)
    where
      by_test : (b : Bool) → nat_eq x n ≡ b → (has xs m ≡ true → m ≢ n → has (other_parts n xs) m ≡ true) →
          has (cond (not b) (x ∷ other_parts n xs) (other_parts n xs)) m ≡ true
      by_test true is rest = rest (grind (arith, nat_tests)) ne
      by_test false is rest = let ih = rest in grind (arith, nat_tests)

  pub record PromisedBelow (t : Id) (coordinator at m : ℕ) : Type 0 where
    pub promise : Prepared
    pub among : IsAmong (log_in logs m) (Record.Prepare promise)
    pub named : promise.txn ≡ t
    pub by : promise.coordinator ≡ coordinator
    pub below : promise.at ≤ at

  -- each other part promised, at most at the commit's timestamp
  pub promised : (n m : ℕ) (c : Committed) → IsAmong (log_in logs n) (Record.Commit c) → has c.parts m ≡ true → m ≢ n → PromisedBelow c.txn n c.at m
  promised n m c k part other =
      let vote = (evidence n (Record.Commit c) k).voted m (other_has c.parts n m part other) in
      let said = h.messages _ vote.sent in
      let stands = said.told.1.promised in
      let p : Prepared = record { txn = c.txn; coordinator = said.told.1.coordinator; at = vote.stamp; reads = stands.reads; writes = stands.writes } in
      let there = subst (λ j. IsAmong (log_in logs j) (Record.Prepare p)) (sym said.told.0) (kept said.shard (Record.Prepare p) stands.among) in
      let home = promise_home m p there in
      let a = decision_home n c k in
      record {
        promise = p;
        among = there;
        named = refl;
        by = one_home c.txn said.told.1.coordinator n home.parts c.parts home.over home.least a.0
            a.1;
        below = vote.below;
      }

  -- and nobody else
  pub promise_of_part : (n m : ℕ) (c : Committed) (p : Prepared) → IsAmong (log_in logs n) (Record.Commit c) →
      IsAmong (log_in logs m) (Record.Prepare p) → p.txn ≡ c.txn →
      has c.parts m ≡ true
  promise_of_part n m c p k l e =
      let home = promise_home m p l in
      let a = decision_home n c k in
      subst (λ ps. has ps m ≡ true) (same_parts sc h c.txn home.parts c.parts (subst (λ t. ClosesOver sc.world t home.parts) e home.over) a.0) home.part
