-- From where a transaction that read a key is logged on, no other version of the key is made before its outcome, nor one below its
-- timestamp.
use Rattle.std.proofs.Common.{◌≡◌, ◌⊎◌, inl, inr, ℕ, ◌≤◌, Bool, true, false, not, ◌||◌, nat_le, List, [], ◌∷◌, ◌++◌, Option, Some, None}
use Rattle.std.proofs.Common.{refl, sym, ap, subst, ◌∙◌, arith, append_assoc}
use Rattle.std.proofs.lemmas.Bool.{leb-true, eqb-true, and_parts}
use Rattle.std.proofs.lemmas.List.{append-nil}
use Rattle.units.specs.Ids.{Id}
use Rattle.units.specs.Keys.{Bytes}
use Rattle.units.specs.Lists.{when}
use Rattle.units.specs.Locks.{locks_of}
use Rattle.units.specs.declared.setup.Setup.{Setup}
use Rattle.units.specs.declared.writes.Install.{Install}
use Rattle.units.specs.declared.writes.Write.{Write}
use Rattle.record.specs.Accepted.{Accepted, taken, follows, outcome_fits}
use Rattle.record.specs.Installs.{installs_of, writes_by}
use Rattle.record.specs.Records.{committed_of, prepared_of, ended_of}
use Rattle.record.specs.declared.record.Committed.{Committed}
use Rattle.record.specs.declared.record.Prepared.{Prepared}
use Rattle.record.specs.declared.record.Record.{Record}
use Rattle.record.specs.declared.record.Record.TheVariants.{Prepare, Commit, Outcome}
use Rattle.record.proofs.LearnAgrees.{accepted_follows}
use Rattle.locks.proofs.Clashes.{clash_comm}
use Rattle.law.specs.Among.{IsAmong}
use Rattle.law.specs.Passes.{IsPastEnd}
use Rattle.law.proofs.Accepts.{IsNew, Place, each_taken, front_taken, installs_by, installs_more, new_from, place_of}
use Rattle.law.proofs.Members.{among_cases, among_left, among_right}
use Rattle.law.proofs.Logged.{AreLogged}
use Rattle.law.proofs.Orderly.{IsOrderly, orderly, decided_not_promised}
use Rattle.law.proofs.Picked.{some_same}
use Rattle.law.proofs.Quiet.{not_ended}
use Rattle.law.proofs.ReadBefore.{Claims, EndIs, IsStamped, Order, IsSame, IsEarlier, IsLater, ended_between, order, read_clashes, same_claim_id}
use Rattle.law.proofs.Resolved.{committed_is, prepared_is}

-- the promise or the decision behind a write that an outcome installs
record ClaimOf (log : List Record) (u : Id) (at : ℕ) (w : Write) : Type 0 where
  claim : Record
  among : IsAmong log claim
  stamp : ℕ
  reads : List Bytes
  writes : List Write
  claims : Claims claim u stamp reads writes
  within : IsAmong writes w
  below : stamp ≤ at

claim_of : (log : List Record) (u : Id) (at : ℕ) (w : Write) → IsOrderly log → outcome_fits (prepared_of log u) (committed_of log u) (Some at) ≡ true →
    IsAmong (writes_by (committed_of log u) (prepared_of log u)) w → ClaimOf log u at w
claim_of log u at w o = by_parts (committed_of log u) refl (prepared_of log u) refl
  where
    left_only : (b : Bool) → (b || false) ≡ true → b ≡ true
    left_only true e = refl
    left_only false e = cc

    by_parts : (c : Option Committed) → committed_of log u ≡ c → (p : Option Prepared) → prepared_of log u ≡ p → outcome_fits p c (Some at) ≡ true →
        IsAmong (writes_by c p) w → ClaimOf log u at w
    by_parts (Some c) hc (Some p) hp fits h =
        let d = committed_is log o.1 u c hc in
        let q = prepared_is log o.1 u p hp in
        absurd (decided_not_promised log o c p d.0 q.0 (q.1 ∙ sym d.1))
    by_parts (Some c) hc None hp fits h =
        let d = committed_is log o.1 u c hc in
        let same = eqb-true c.at at fits in
        record {
          claim = Commit c;
          among = d.0;
          stamp = c.at;
          reads = c.reads;
          writes = c.writes;
          claims = (d.1, refl, refl, refl);
          within = h;
          below = omega (arith, same);
        }
    by_parts None hc (Some p) hp fits h =
        let q = prepared_is log o.1 u p hp in
        let low = leb-true p.at at (left_only (nat_le p.at at) fits) in
        record {
          claim = Prepare p;
          among = q.0;
          stamp = p.at;
          reads = p.reads;
          writes = p.writes;
          claims = (q.1, refl, refl, refl);
          within = h;
          below = low;
        }
    by_parts None hc None hp fits h = cc

module _ (setup : Setup) (log : List Record) (accepted : taken setup log ≡ Accepted) (of_steps : AreLogged log) (stamped : IsStamped log)
    -- a promise or a decision of a transaction that read a key
    (front : List Record) (r : Record) (back : List Record) (same : log ≡ front ++ r ∷ back) (t : Id) (at : ℕ) (ks : List Bytes) (ws : List Write)
    (claims : Claims r t at ks ws) (k : Bytes) (reads : IsAmong ks k) where
  front_takes : (before rest : List Record) → log ≡ before ++ rest → taken setup before ≡ Accepted
  front_takes before rest e = front_taken setup before rest (subst (λ l. taken setup l ≡ Accepted) e accepted)

  front_orderly : (before rest : List Record) → log ≡ before ++ rest → IsOrderly before
  front_orderly before rest e = orderly setup.shard before (accepted_follows setup before (front_takes before rest e))
      (λ q h. of_steps q (subst (λ l. IsAmong l q) (sym e) (among_left before rest q h)))

  within : (before rest : List Record) → log ≡ before ++ rest → (q : Record) → IsAmong before q → IsAmong log q
  within before rest e q h = subst (λ l. IsAmong l q) (sym e) (among_left before rest q h)

  -- an outcome that installs the key behind it is that of the transaction itself, or of one that came once it had ended
  module _ (mid : List Record) (q : Record) (rest : List Record) (split : log ≡ (front ++ r ∷ mid) ++ q ∷ rest) (i : Install)
      (new : IsNew (front ++ r ∷ mid) q i) (key : i.key ≡ k) where
    abbrev before : List Record
    before = front ++ r ∷ mid

    logged : IsAmong log (Outcome new.txn (Some new.stamp))
    logged = subst (λ z. IsAmong log z) new.is (subst (λ l. IsAmong l q) (sym split) (among_right before (q ∷ rest) q (inl refl)))

    may_follow : (not (when (λ e. true) (ended_of before new.txn)) ≡ true)
        × (outcome_fits (prepared_of before new.txn) (committed_of before new.txn) (Some new.stamp) ≡ true)
    unfolding follows
    may_follow =
        and_parts _ _ (and_parts _ _ (subst (λ z. follows setup.shard before z ≡ true) new.is
        (each_taken setup before q rest (subst (λ l. taken setup l ≡ Accepted) split accepted)).follows)).0

    c : ClaimOf before new.txn new.stamp new.write
    c = claim_of before new.txn new.stamp new.write (front_orderly before (q ∷ rest) split) may_follow.1 new.among

    p : Place before c.claim
    p = place_of before c.claim c.among

    itself : new.txn ≡ t → IsPastEnd log t i.at
    itself e = record {
      outcome = Some new.stamp;
      among = subst (λ u. IsAmong log (Outcome u (Some new.stamp))) e logged;
      below = λ s is. let stamp = new.at in let one = some_same new.stamp s is in omega (arith, stamp, one);
    }

    -- one that had been logged before it had ended before it
    earlier : (m : List Record) → front ≡ p.front ++ c.claim ∷ m → ⊥
    earlier m e =
        let end = ended_between setup log accepted of_steps p.front m back c.claim r new.txn t c.stamp at c.reads ks c.writes ws
        (same ∙ ap (λ l. l ++ r ∷ back) e) c.claims claims
        (read_clashes ks c.reads ws c.writes k new.write reads c.within (sym new.key ∙ key)) in
        not_ended before new.txn (record {
          outcome = end.ended.outcome;
          among = among_left front (r ∷ mid) (Outcome new.txn end.ended.outcome)
              (subst (λ l. IsAmong l (Outcome new.txn end.ended.outcome)) (sym e) end.among);
        }) may_follow.0

    whole : log ≡ p.front ++ c.claim ∷ (p.back ++ q ∷ rest)
    whole = split ∙ ap (λ l. l ++ q ∷ rest) p.same ∙ append_assoc p.front (c.claim ∷ p.back) (q ∷ rest)

    -- one that was logged later came once it had ended
    later : (m : List Record) → p.front ≡ front ++ r ∷ m → IsPastEnd log t i.at
    later m e = record {
      outcome = end.ended.outcome;
      among = within (front ++ r ∷ m) (c.claim ∷ (p.back ++ q ∷ rest)) place (Outcome t end.ended.outcome) end.among;
      below = λ s is.
          let stamp = subst (λ o. IsAmong (front ++ r ∷ m) (Outcome t o)) is end.among in
          let above = (stamped (front ++ r ∷ m) c.claim (p.back ++ q ∷ rest) new.txn c.stamp c.reads c.writes place c.claims).ends t s stamp in
          let up = c.below in
          let at_stamp = new.at in
          omega (arith, above, up, at_stamp);
    }
      where
        place : log ≡ (front ++ r ∷ m) ++ c.claim ∷ (p.back ++ q ∷ rest)
        place = whole ∙ ap (λ l. l ++ c.claim ∷ (p.back ++ q ∷ rest)) e

        end : EndIs (front ++ r ∷ m) t
        end = ended_between setup log accepted of_steps front m (p.back ++ q ∷ rest) r c.claim t new.txn at c.stamp ks c.reads ws c.writes place claims c.claims
            (clash_comm (locks_of c.reads c.writes) (locks_of ks ws)
            ∙ read_clashes ks c.reads ws c.writes k new.write reads c.within (sym new.key ∙ key))

    new_is_past : IsPastEnd log t i.at
    new_is_past = by_order (order front r mid p.front c.claim p.back p.same)
      where
        by_order : Order front r p.front c.claim → IsPastEnd log t i.at
        by_order (IsSame e f) = itself (same_claim_id r new.txn t c.stamp at c.reads ks c.writes ws
            (subst (λ z. Claims z new.txn c.stamp c.reads c.writes) (sym e) c.claims) claims)
        by_order (IsEarlier m e) = absurd (earlier m e)
        by_order (IsLater m e) = later m e

  abbrev SoFar : List Record → Type 0
  SoFar before = (i : Install) → IsAmong (installs_of before) i → i.key ≡ k → IsAmong (installs_of front) i ⊎ IsPastEnd log t i.at

  one_more : (mid : List Record) (q : Record) (rest : List Record) → log ≡ (front ++ r ∷ mid) ++ q ∷ rest → SoFar (front ++ r ∷ mid) →
      SoFar ((front ++ r ∷ mid) ++ q ∷ [])
  one_more mid q rest split old i h key =
      let assoc : log ≡ ((front ++ r ∷ mid) ++ q ∷ []) ++ rest = split ∙ sym (append_assoc (front ++ r ∷ mid) (q ∷ []) rest) in
      elim (among_cases (installs_of (front ++ r ∷ mid)) (installs_by (front ++ r ∷ mid) q) i
      (subst (λ l. IsAmong l i) (installs_more setup.shard (front ++ r ∷ mid) q
      (accepted_follows setup ((front ++ r ∷ mid) ++ q ∷ []) (front_takes ((front ++ r ∷ mid) ++ q ∷ []) rest assoc))) h)) [
        | inl there ↦ old i there key
        | inr new ↦ inr (new_is_past mid q rest split i (new_from (front ++ r ∷ mid) q i (of_steps q
            (subst (λ l. IsAmong l q) (sym split) (among_right (front ++ r ∷ mid) (q ∷ rest) q (inl refl)))) new) key)
      ]

  -- the claim installs nothing
  at_claim : SoFar (front ++ r ∷ [])
  at_claim i h key =
      let assoc : log ≡ (front ++ r ∷ []) ++ back = same ∙ sym (append_assoc front (r ∷ []) back) in
      elim (among_cases (installs_of front) (installs_by front r) i (subst (λ l. IsAmong l i) (installs_more setup.shard front r
      (accepted_follows setup (front ++ r ∷ []) (front_takes (front ++ r ∷ []) back assoc))) h)) [
        | inl there ↦ inl there
        | inr new ↦ absurd (nothing r claims new)
      ]
    where
      nothing : (q : Record) → Claims q t at ks ws → IsAmong (installs_by front q) i → ⊥
      nothing (Prepare x) c h2 = h2
      nothing (Commit x) c h2 = h2
      nothing _ c h2 = absurd c

  all_more : (mid rest : List Record) → log ≡ (front ++ r ∷ mid) ++ rest → SoFar (front ++ r ∷ mid) → SoFar log
  all_more mid [] e old = subst SoFar (sym (e ∙ append-nil (front ++ r ∷ mid))) old
  all_more mid (q ∷ rest) e old =
      let joined : (front ++ r ∷ mid) ++ q ∷ [] ≡ front ++ r ∷ (mid ++ q ∷ []) = append_assoc front (r ∷ mid) (q ∷ []) in
      all_more (mid ++ q ∷ []) rest
      (e ∙ sym (append_assoc (front ++ r ∷ mid) (q ∷ []) rest) ∙ ap (λ l. l ++ rest) joined)
      (subst SoFar joined (one_more mid q rest e old))

  pub undisturbed : (i : Install) → IsAmong (installs_of log) i → i.key ≡ k → IsAmong (installs_of front) i ⊎ IsPastEnd log t i.at
  undisturbed = all_more [] back (same ∙ sym (append_assoc front (r ∷ []) back)) at_claim
