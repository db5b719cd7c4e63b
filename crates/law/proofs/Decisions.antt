-- The decisions of an id over all logs: at most one.
use Rattle.std.proofs.Common.{◌≡◌, ℕ, Bool, true, false, cond, List, [], ◌∷◌, Option, Some, None, slice_get, refl, sym, ap, subst, ◌∙◌, map, zero-add, filter}
use Rattle.units.specs.Lists.{gather}
use Rattle.units.specs.Ids.{Id, same_id}
use Rattle.units.proofs.IdLaws.{same_id-is, same_id_comm, same_id-refl}
use Rattle.record.specs.History.{by_shard}
use Rattle.record.specs.Records.{as_committed, as_prepared, closed_promise, settled_decision}
use Rattle.record.specs.Whole.{Decision, decisions, promises_of}
use Rattle.record.specs.declared.record.Committed.{Committed}
use Rattle.record.specs.declared.record.Prepared.{Prepared}
use Rattle.record.specs.declared.record.Record.{Record}
use Rattle.record.specs.declared.record.Record.TheVariants.{Prepare, Commit, Abort, Settled, Closed}
use Rattle.law.specs.Among.{IsAmong}
use Rattle.law.specs.Evidence.{Scene, Holds}
use Rattle.law.specs.Left.{AreLeft}
use Rattle.law.proofs.Logged.{AreLogged, rests_logged}
use Rattle.law.proofs.Orderly.{IsOrderly, IsOne, claims_of, orderly}
use Rattle.law.proofs.Recorded.{among_keep, decision_among}
use Rattle.law.proofs.Homes.{log_in, one_place}
use Rattle.law.proofs.Picked.{keep_among, kept_passes, gather_among, map_among, among_map, join_among, among_join, AtMostOne, numbered_place}
use Rattle.law.proofs.Picked.{place_numbered, one_of_numbered}

-- ---- of one log

skipped : {B : Type 0} (f : Record → Option B) (b : Bool) (r : Record) (rest : List Record) → f r ≡ None → gather f (cond b (r ∷ rest) rest) ≡ gather f rest
skipped {B} f true r rest e = ap (λ o. elim o as (λ q. List B) [ None ↦ gather f rest | Some y ↦ y ∷ gather f rest ]) e
skipped f false r rest e = refl

-- one that gives something
taken_in : {B : Type 0} (f : Record → Option B) (b : Bool) (r : Record) (y : B) (rest : List Record) (ys : List B) → f r ≡ Some y → ys ≡ gather f rest →
    cond b (y ∷ ys) ys ≡ gather f (cond b (r ∷ rest) rest)
taken_in {B} f true r y rest ys e same =
    ap (λ l. y ∷ l) same ∙ sym (ap (λ o. elim o as (λ q. List B) [ None ↦ gather f rest | Some z ↦ z ∷ gather f rest ]) e)
taken_in f false r y rest ys e same = same

a_commit : (t : Id) (r : Record) (c : Committed) (rs : List Record) → as_committed r ≡ Some c →
    filter (λ d. same_id t d.txn) (gather as_committed rs) ≡ gather as_committed (claims_of rs t) →
    cond (same_id t c.txn) (c ∷ filter (λ d. same_id t d.txn) (gather as_committed rs)) (filter (λ d. same_id t d.txn) (gather as_committed rs)) ≡
    gather as_committed (cond (same_id c.txn t) (r ∷ claims_of rs t) (claims_of rs t))
a_commit t r c rs is rest =
    ap (λ b. cond b (c ∷ filter (λ d. same_id t d.txn) (gather as_committed rs)) (filter (λ d. same_id t d.txn) (gather as_committed rs)))
    (same_id_comm t c.txn)
    ∙ taken_in as_committed (same_id c.txn t) r c (claims_of rs t) (filter (λ d. same_id t d.txn) (gather as_committed rs)) is rest

a_promise : (t : Id) (r : Record) (p : Prepared) (rs : List Record) → as_prepared r ≡ Some p → promises_of rs t ≡ gather as_prepared (claims_of rs t) →
    cond (same_id p.txn t) (p ∷ promises_of rs t) (promises_of rs t) ≡ gather as_prepared (cond (same_id p.txn t) (r ∷ claims_of rs t) (claims_of rs t))
a_promise t r p rs is rest = taken_in as_prepared (same_id p.txn t) r p (claims_of rs t) (promises_of rs t) is rest

-- its decisions of an id are among the claims of that id
commits_claimed : (t : Id) (log : List Record) → filter (λ c. same_id t c.txn) (gather as_committed log) ≡ gather as_committed (claims_of log t)
commits_claimed t [] = refl
commits_claimed t (Closed u k o ∷ rs) = commits_claimed t rs ∙ sym (skipped as_committed (same_id u t) (Closed u k o) (claims_of rs t) refl)
commits_claimed t (Settled u at ps ∷ rs) = a_commit t (Settled u at ps) (settled_decision u at ps) rs refl (commits_claimed t rs)
commits_claimed t (Prepare p ∷ rs) = commits_claimed t rs ∙ sym (skipped as_committed (same_id p.txn t) (Prepare p) (claims_of rs t) refl)
commits_claimed t (Abort u ∷ rs) = commits_claimed t rs ∙ sym (skipped as_committed (same_id t u) (Abort u) (claims_of rs t) refl)
commits_claimed t (Commit c ∷ rs) = a_commit t (Commit c) c rs refl (commits_claimed t rs)
commits_claimed t (_ ∷ rs) = commits_claimed t rs

promises_claimed : (t : Id) (log : List Record) → promises_of log t ≡ gather as_prepared (claims_of log t)
promises_claimed t [] = refl
promises_claimed t (Settled u at ps ∷ rs) = promises_claimed t rs ∙ sym (skipped as_prepared (same_id u t) (Settled u at ps) (claims_of rs t) refl)
promises_claimed t (Closed u k o ∷ rs) = a_promise t (Closed u k o) (closed_promise u k o) rs refl (promises_claimed t rs)
promises_claimed t (Commit c ∷ rs) = promises_claimed t rs ∙ sym (skipped as_prepared (same_id c.txn t) (Commit c) (claims_of rs t) refl)
promises_claimed t (Abort u ∷ rs) = promises_claimed t rs ∙ sym (skipped as_prepared (same_id t u) (Abort u) (claims_of rs t) refl)
promises_claimed t (Prepare p ∷ rs) = a_promise t (Prepare p) p rs refl (promises_claimed t rs)
promises_claimed t (_ ∷ rs) = promises_claimed t rs

one_gathered : {B : Type 0} (f : Record → Option B) (xs : List Record) → IsOne xs → AtMostOne (gather f xs)
one_gathered f [] one = tt
one_gathered {B} f (x ∷ []) one = by_value (f x)
  where
    by_value : (o : Option B) → AtMostOne (elim o as (λ q. List B) [ None ↦ [] | Some y ↦ y ∷ [] ])
    by_value None = tt
    by_value (Some y) = tt
one_gathered f (x ∷ y ∷ rest) one = absurd one

pub one_promise_in : (log : List Record) (t : Id) → IsOrderly log → AtMostOne (promises_of log t)
one_promise_in log t o = subst AtMostOne (sym (promises_claimed t log)) (one_gathered as_prepared (claims_of log t) (o.0 t))

one_commit_in : (log : List Record) (t : Id) → IsOrderly log → AtMostOne (filter (λ c. same_id t c.txn) (gather as_committed log))
one_commit_in log t o = subst AtMostOne (sym (commits_claimed t log)) (one_gathered as_committed (claims_of log t) (o.0 t))

one_mapped : {A B : Type 0} (f : A → B) (xs : List A) → AtMostOne xs → AtMostOne (map f xs)
one_mapped f [] one = tt
one_mapped f (x ∷ []) one = tt
one_mapped f (x ∷ y ∷ rest) one = absurd one

-- ---- of all logs

-- the decisions of an id in one log
abbrev pub decided_in : Id → ℕ × List Record → List Decision
decided_in t l = map (λ c. record { shard = l.0; commit = c }) (filter (λ c. same_id t c.txn) (gather as_committed l.1))

-- a member of the numbered logs is the log of its number
pub log_of_number : (logs : List (List Record)) (p : ℕ × List Record) → IsAmong (by_shard logs) p → slice_get logs p.0 ≡ Some p.1
log_of_number logs p h =
    let n = numbered_place 0 logs p h in
    subst (λ i. slice_get logs i ≡ Some p.1) (sym (n.number ∙ zero-add n.place)) n.there

pub log_in-is : (logs : List (List Record)) (n : ℕ) (log : List Record) → slice_get logs n ≡ Some log → log_in logs n ≡ log
log_in-is logs n log e = ap (λ o. elim o as (λ x. List Record) [ None ↦ [] | Some l ↦ l ]) e

-- a log that has a record is there
pub there_in : (logs : List (List Record)) (n : ℕ) (r : Record) → IsAmong (log_in logs n) r → slice_get logs n ≡ Some (log_in logs n)
there_in logs n r h = by_value (slice_get logs n) refl h
  where
    by_value : (o : Option (List Record)) → slice_get logs n ≡ o → IsAmong (elim o as (λ x. List Record) [ None ↦ [] | Some l ↦ l ]) r →
        o ≡ Some (elim o as (λ x. List Record) [ None ↦ [] | Some l ↦ l ])
    by_value None e k = absurd k
    by_value (Some log) e k = refl

pub number_there : (logs : List (List Record)) (n : ℕ) (r : Record) → IsAmong (log_in logs n) r → IsAmong (by_shard logs) (n, log_in logs n)
number_there logs n r h = subst (λ m. IsAmong (by_shard logs) (m, log_in logs n)) (zero-add n) (place_numbered 0 logs n (log_in logs n) (there_in logs n r h))

-- a decision over all logs stands in the log of its shard
pub record Decided (logs : List (List Record)) (t : Id) (d : Decision) : Type 0 where
  pub among : IsAmong (log_in logs d.shard) (Commit d.commit)
  pub named : d.commit.txn ≡ t

pub decision_stands : (logs : List (List Record)) → ((n : ℕ) (log : List Record) → slice_get logs n ≡ Some log → AreLogged log) → (t : Id) (d : Decision) →
    IsAmong (decisions logs t) d → Decided logs t d
decision_stands logs logged t d h =
    let j = among_join (decided_in t) (by_shard logs) d h in
    let m = among_map (λ c. record { shard = j.from.0; commit = c }) (filter (λ c. same_id t c.txn) (gather as_committed j.from.1)) d j.within in
    let here : IsAmong j.from.1 (Commit m.from) = decision_among j.from.1 (logged j.from.0 j.from.1 (log_of_number logs j.from j.among)) m.from
    (among_keep (λ c. same_id t c.txn)
    (gather as_committed j.from.1) m.from m.among) in
    let named : t ≡ m.from.txn = same_id-is t m.from.txn (kept_passes (λ c. same_id t c.txn) (gather as_committed j.from.1) m.from m.among) in
    let stands : Decided logs t (record { shard = j.from.0; commit = m.from }) = record {
      among = subst (λ l. IsAmong l (Commit m.from)) (sym (log_in-is logs j.from.0 j.from.1 (log_of_number logs j.from j.among))) here;
      named = sym named;
    } in
    subst (Decided logs t) m.is stands

pub stands_decided : (logs : List (List Record)) (n : ℕ) (c : Committed) → IsAmong (log_in logs n) (Commit c) →
    IsAmong (decisions logs c.txn) (record { shard = n; commit = c })
stands_decided logs n c h =
    join_among (decided_in c.txn) (by_shard logs) (n, log_in logs n) (record { shard = n; commit = c }) (number_there logs n (Commit c) h)
    (map_among (λ x. record { shard = n; commit = x }) (filter (λ x. same_id c.txn x.txn) (gather as_committed (log_in logs n))) c
    (keep_among (λ x. same_id c.txn x.txn) (gather as_committed (log_in logs n)) c (gather_among as_committed (log_in logs n) (Commit c) c h refl)
    (same_id-refl c.txn)))

module _ (sc : Scene) (h : Holds sc) (logs : List (List Record)) (left : AreLeft sc logs) where
  pub left_logged : (n : ℕ) (log : List Record) → slice_get logs n ≡ Some log → AreLogged log
  left_logged n log e r k = rests_logged sc log n r ((left.each n log e).records r k)

  pub one_decided : (t : Id) → AtMostOne (decisions logs t)
  one_decided t = one_of_numbered (decided_in t) 0 logs
      (λ p k. one_mapped (λ c. record { shard = p.0; commit = c }) (filter (λ c. same_id t c.txn) (gather as_committed p.1))
      (one_commit_in p.1 t (orderly p.0 p.1 (left.each p.0 p.1 (log_of_number logs p k)).follows (left_logged p.0 p.1 (log_of_number logs p k)))))
      same_number
    where
      by : (p : ℕ × List Record) (d : Decision) → IsAmong (by_shard logs) p → IsAmong (decided_in t p) d → Decided logs t d × (d.shard ≡ p.0)
      by p d k l =
          let m = among_map (λ c. record { shard = p.0; commit = c }) (filter (λ c. same_id t c.txn) (gather as_committed p.1)) d l in
          (decision_stands logs left_logged t d (join_among (decided_in t) (by_shard logs) p d k l), sym (ap (λ (x : Decision). x.shard) m.is))

      same_number : (p q : ℕ × List Record) (x y : Decision) → IsAmong (by_shard logs) p → IsAmong (by_shard logs) q → IsAmong (decided_in t p) x →
          IsAmong (decided_in t q) y → p.0 ≡ q.0
      same_number p q x y hp hq hx hy =
          let a = by p x hp hx in
          let b = by q y hq hy in
          sym a.1 ∙ (one_place sc h logs left x.shard y.shard x.commit y.commit a.0.among b.0.among (b.0.named ∙ sym a.0.named)).0 ∙ b.1
