-- What the history writes of a key is what the key's shard installed.
use Rattle.std.proofs.Common.{◌≡◌, inl, inr, ℕ, ◌≤◌, Bool, true, false, not, ◌&&◌, nat_eq, List, Option, Some, None, refl, sym, ap, subst, ◌∙◌, arith}
use Rattle.std.proofs.Common.{filter, flat_map}
use Rattle.std.proofs.lemmas.Bool.{eqb-true, and_from, and_parts}
use Rattle.std.proofs.lemmas.Bool.Decides.{nat_tests}
use Rattle.units.specs.Ids.{Id, same_id}
use Rattle.units.specs.Keys.{Bytes, shard_of}
use Rattle.units.specs.Lists.{gather}
use Rattle.units.specs.declared.writes.Install.{Install}
use Rattle.units.specs.declared.writes.Write.{Write}
use Rattle.units.proofs.IdLaws.{same_id-is, same_id-refl}
use Rattle.record.specs.Accepted.{belongs}
use Rattle.record.specs.History.{Txn, history, whole_txn, by_shard, promised_elsewhere}
use Rattle.record.specs.Installs.{installs_of, writes_by}
use Rattle.record.specs.Records.{as_prepared, committed_of, prepared_of}
use Rattle.record.specs.declared.record.Committed.{Committed}
use Rattle.record.specs.declared.record.Prepared.{Prepared}
use Rattle.record.specs.declared.record.Record.{Record}
use Rattle.record.specs.declared.record.Record.TheVariants.{Prepare, Commit, Outcome}
use Rattle.world.specs.World.{setup_of}
use Rattle.world.specs.declared.event.Config.{Config}
use Rattle.law.specs.Among.{IsAmong}
use Rattle.law.specs.Evidence.{Scene, Holds}
use Rattle.law.specs.Left.{AreLeft}
use Rattle.law.proofs.Members.{among_left, among_right, among_cases}
use Rattle.law.proofs.Orderly.{IsOrderly, one_decision, one_promise, decided_not_promised}
use Rattle.law.proofs.Picked.{keep_among, kept_passes, gather_among, join_among, among_join}
use Rattle.law.proofs.Recorded.{among_keep, promise_among}
use Rattle.law.proofs.InHistory.{InHistory, from_history, history_has}
use Rattle.law.proofs.Resolved.{committed_is, prepared_is, not_committed, not_prepared}
use Rattle.law.proofs.Homes.{log_in, decision_home, one_place, no_aborted, outcome_decided, outcome_stamp, promise_of_part, promised, is_orderly}
use Rattle.law.proofs.Decisions.{left_logged, log_of_number, log_in-is, number_there}
use Rattle.law.proofs.Quiet.{HasEnd}
use Rattle.law.proofs.Accepts.{each_at, installed_from, installs_have}
use Rattle.law.proofs.Serial.{Writes, IsInstalled}

-- ---- writes of one log

-- the record promises or decides a write of the transaction
abbrev pub Wrote : Record → Txn → Write → Type 0
Wrote (Prepare p) x w = (p.txn ≡ x.txn) × (p.at ≤ x.at) × IsAmong p.writes w
Wrote (Commit c) x w = (c.txn ≡ x.txn) × (c.at ≡ x.at) × IsAmong c.writes w
Wrote _ x w = ⊥

-- in an orderly log it is the one that counts
wrote_by : (log : List Record) → IsOrderly log → (r : Record) (x : Txn) (w : Write) → IsAmong log r → Wrote r x w →
    IsAmong (writes_by (committed_of log x.txn) (prepared_of log x.txn)) w
wrote_by log o (Commit c) x w k wrote = by_value (committed_of log x.txn) refl
  where
    by_value : (q : Option Committed) → committed_of log x.txn ≡ q → IsAmong (writes_by q (prepared_of log x.txn)) w
    by_value None e = absurd (not_committed log x.txn c e k wrote.0)
    by_value (Some d) e =
        let i = committed_is log o.1 x.txn d e in
        subst (λ (z : Committed). IsAmong z.writes w) (one_decision log o c d k i.0 (i.1 ∙ sym wrote.0)) wrote.2
wrote_by log o (Prepare p) x w k wrote = by_value (committed_of log x.txn) refl (prepared_of log x.txn) refl
  where
    by_value : (q : Option Committed) → committed_of log x.txn ≡ q → (m : Option Prepared) → prepared_of log x.txn ≡ m → IsAmong (writes_by q m) w
    by_value (Some d) e m f =
        let i = committed_is log o.1 x.txn d e in
        absurd (decided_not_promised log o d p i.0 k (wrote.0 ∙ sym i.1))
    by_value None e None f = absurd (not_prepared log x.txn p f k wrote.0)
    by_value None e (Some q) f =
        let i = prepared_is log o.1 x.txn q f in
        subst (λ (z : Prepared). IsAmong z.writes w) (one_promise log o p q k i.0 (i.1 ∙ sym wrote.0)) wrote.2
wrote_by log o _ x w k wrote = absurd wrote

-- ---- over all logs

module _ (sc : Scene) (h : Holds sc) (logs : List (List Record)) (left : AreLeft sc logs) (config : Config)
    (owns : (n : ℕ) (r : Record) → IsAmong (log_in logs n) r → belongs (setup_of config n) r ≡ true) where
  own_decision : (n : ℕ) (c : Committed) (w : Write) → IsAmong (log_in logs n) (Commit c) → IsAmong c.writes w → shard_of config.splits w.key ≡ n
  unfolding belongs
  own_decision n c w k j = eqb-true _ _ (each_at (λ (v : Write). nat_eq (shard_of config.splits v.key) n) c.writes w (and_parts _ _ (owns n (Commit c) k)).1 j)

  own_promise : (n : ℕ) (p : Prepared) (w : Write) → IsAmong (log_in logs n) (Prepare p) → IsAmong p.writes w → shard_of config.splits w.key ≡ n
  unfolding belongs
  own_promise n p w k j = eqb-true _ _ (each_at (λ (v : Write). nat_eq (shard_of config.splits v.key) n) p.writes w (and_parts _ _ (owns n (Prepare p) k)).1 j)

  -- the record in which a write of a transaction stands, at the shard of its key
  pub record WriteHome (x : Txn) (w : Write) : Type 0 where
    pub shard : ℕ
    pub claim : Record
    pub among : IsAmong (log_in logs shard) claim
    pub wrote : Wrote claim x w
    pub own : shard_of config.splits w.key ≡ shard

  -- a promise elsewhere
  elsewhere_home : (n : ℕ) (c : Committed) (p : Prepared) (w : Write) → IsAmong (log_in logs n) (Commit c) →
      IsAmong (promised_elsewhere logs c.txn n) p → IsAmong p.writes w → WriteHome (whole_txn logs n c) w
  elsewhere_home n c p w k e j =
      let m = among_join (λ (l : ℕ × List Record). filter (λ q. same_id q.txn c.txn && not (nat_eq l.0 n)) (gather as_prepared l.1)) (by_shard logs) p e in
      let passes = and_parts (same_id p.txn c.txn) (not (nat_eq m.from.0 n)) (kept_passes (λ q. same_id q.txn c.txn && not (nat_eq m.from.0 n))
      (gather as_prepared m.from.1) p m.within) in
      let there : IsAmong (log_in logs m.from.0) (Prepare p) = subst (λ l. IsAmong l (Prepare p))
      (sym (log_in-is logs m.from.0 m.from.1 (log_of_number logs m.from m.among)))
      (promise_among m.from.1 (left_logged sc h logs left m.from.0 m.from.1 (log_of_number logs m.from m.among)) p
      (among_keep (λ q. same_id q.txn c.txn && not (nat_eq m.from.0 n)) (gather as_prepared m.from.1) p m.within)) in
      let named : p.txn ≡ c.txn = same_id-is p.txn c.txn passes.0 in
      let part = promise_of_part sc h logs left n m.from.0 c p k there named in
      let below = promised sc h logs left n m.from.0 c k part (λ same. apart m.from.0 n passes.1 same) in
      let same : below.promise ≡ p = one_promise (log_in logs m.from.0) (is_orderly sc h logs left m.from.0 (Prepare p) there) below.promise p
      below.among there (named ∙ sym below.named) in
      record {
        shard = m.from.0;
        claim = Prepare p;
        among = there;
        wrote = (named, subst (λ (z : Prepared). z.at ≤ c.at) same below.below, j);
        own = own_promise m.from.0 p w there j;
      }
    where
      apart : (a b : ℕ) → not (nat_eq a b) ≡ true → a ≡ b → ⊥
      apart a b t e = grind (arith, nat_tests)

  pub write_home : (x : Txn) (w : Write) → IsAmong (history logs) x → IsAmong x.writes w → WriteHome x w
  write_home x w k j =
      let d = from_history logs (left_logged sc h logs left) x k in
      subst (λ z. WriteHome z w) d.is
      (elim (among_cases d.commit.writes (flat_map (λ p. p.writes) (promised_elsewhere logs d.commit.txn d.shard)) w
      (subst (λ (z : Txn). IsAmong z.writes w) (sym d.is) j)) [
        | inl here ↦ record {
          shard = d.shard;
          claim = Commit d.commit;
          among = d.among;
          wrote = (refl, refl, here);
          own =
              own_decision d.shard d.commit w d.among here;
        }
        | inr there ↦ let p = among_join (λ (q : Prepared). q.writes) (promised_elsewhere logs d.commit.txn d.shard) w there in
            elsewhere_home d.shard d.commit p.from w d.among p.among p.within
      ])

  -- some first records of a shard's log
  module _ (n : ℕ) (front : List Record) (within : (r : Record) → IsAmong front r → IsAmong (log_in logs n) r) (orderly : IsOrderly front) where
    -- a write whose record and end are among them is installed
    pub installed : (x : Txn) (w : Write) (k : Bytes) → IsAmong (history logs) x → IsAmong x.writes w → w.key ≡ k → shard_of config.splits k ≡ n →
        ((r : Record) → IsAmong (log_in logs n) r → Wrote r x w → IsAmong front r × HasEnd front x.txn) → IsInstalled (installs_of front) k x.at w.value
    installed x w k there j key own ends =
        let home = write_home x w there j in
        let same : home.shard ≡ n = sym home.own ∙ ap (shard_of config.splits) key ∙ own in
        let e = ends home.claim (subst (λ m. IsAmong (log_in logs m) home.claim) same home.among) home.wrote in
        let by = wrote_by front orderly home.claim x w e.0 home.wrote in
        by_outcome (e.1).outcome (e.1).among by
      where
        d : InHistory logs x
        d = from_history logs (left_logged sc h logs left) x there

        by_outcome : (o : Option ℕ) → IsAmong front (Outcome x.txn o) → IsAmong (writes_by (committed_of front x.txn) (prepared_of front x.txn)) w →
            IsInstalled (installs_of front) k x.at w.value
        by_outcome None ended by =
            absurd (no_aborted sc h logs left d.shard n d.commit d.among (subst (λ (z : Txn). IsAmong (log_in logs n) (Outcome z.txn None))
            (sym d.is) (within (Outcome x.txn None) ended)))
        by_outcome (Some s) ended by =
            let stamp : d.commit.at ≡ s = outcome_stamp sc h logs left d.shard n d.commit s d.among
            (subst (λ (z : Txn). IsAmong (log_in logs n) (Outcome z.txn (Some s))) (sym d.is) (within (Outcome x.txn (Some s)) ended)) in
            record {
              install = record { key = w.key; at = s; value = w.value };
              among = installs_have front x.txn s w ended by;
              key = key;
              stamp = sym stamp ∙ ap (λ (z : Txn). z.at) d.is;
              value = refl;
            }

    -- and what is installed was written
    pub written : (i : Install) (k : Bytes) (test : Txn → Bool) → IsAmong (installs_of front) i → i.key ≡ k →
        ((x : Txn) → x.at ≡ i.at → test x ≡ true) → Writes (history logs) test k i.at
    written i k test j key passes =
        let by = installed_from front orderly.1 i j in
        let d = outcome_decided sc h logs left n by.txn by.stamp (within (Outcome by.txn (Some by.stamp)) by.ended) in
        let x : Txn = whole_txn logs d.shard d.commit in
        let stamp : x.at ≡ i.at = d.stamp ∙ sym by.at in
        record {
          txn = x;
          among = history_has logs d.shard d.commit d.among (decision_home sc h logs left d.shard d.commit d.among).1;
          passes = passes x stamp;
          stamp = stamp;
          write = by.write;
          within = of_this d.shard d.commit by.txn by.write d.among d.named (committed_of front by.txn) refl (prepared_of front by.txn) refl by.among;
          key = sym by.key ∙ key;
        }
      where
        -- its writes are among those of the transaction
        of_this : (m : ℕ) (c : Committed) (t : Id) (w : Write) → IsAmong (log_in logs m) (Commit c) → c.txn ≡ t → (o : Option Committed) →
            committed_of front t ≡ o → (q : Option Prepared) → prepared_of front t ≡ q →
            IsAmong (writes_by o q) w → IsAmong (whole_txn logs m c).writes w
        of_this m c t w stands named (Some e) f q g l =
            let is = committed_is front orderly.1 t e f in
            let one = one_place sc h logs left m n c e stands (within (Commit e) is.0) (is.1 ∙ sym named) in
            among_left c.writes (flat_map (λ p. p.writes) (promised_elsewhere logs c.txn m)) w (subst (λ (z : Committed). IsAmong z.writes w) (sym one.1) l)
        of_this m c t w stands named None f None g l = absurd l
        of_this m c t w stands named None f (Some p) g l =
            let is = prepared_is front orderly.1 t p g in
            let there = within (Prepare p) is.0 in
            let same : p.txn ≡ c.txn = is.1 ∙ sym named in
            among_right c.writes (flat_map (λ q. q.writes) (promised_elsewhere logs c.txn m)) w
            (join_among (λ (q : Prepared). q.writes) (promised_elsewhere logs c.txn m) p w
            (join_among (λ (z : ℕ × List Record). filter (λ q. same_id q.txn c.txn && not (nat_eq z.0 m)) (gather as_prepared z.1)) (by_shard logs)
            (n, log_in logs n) p (number_there logs n (Prepare p) there)
            (keep_among (λ q. same_id q.txn c.txn && not (nat_eq n m)) (gather as_prepared (log_in logs n)) p
            (gather_among as_prepared (log_in logs n) (Prepare p) p there refl)
            (and_from (same_id p.txn c.txn) (not (nat_eq n m)) (subst (λ u. same_id u c.txn ≡ true) (sym same) (same_id-refl c.txn))
            (by_place (nat_eq n m) refl)))) l)
          where
            by_place : (b : Bool) → nat_eq n m ≡ b → not b ≡ true
            by_place false e = refl
            by_place true e =
                let here : IsAmong (log_in logs n) (Commit c) = subst (λ z. IsAmong (log_in logs z) (Commit c)) (sym (eqb-true n m e)) stands in
                absurd (decided_not_promised (log_in logs n) (is_orderly sc h logs left n (Commit c) here) c p here
                (within (Prepare p) (prepared_is front orderly.1 t p g).0) ((prepared_is front orderly.1 t p g).1 ∙ sym named))
