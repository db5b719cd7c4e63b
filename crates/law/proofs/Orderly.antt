-- A log whose records follow one another has of each id one promise, decision or abort at most.
use Rattle.std.specs.List.{list_any}
use Rattle.std.proofs.Common.{◌≡◌, ◌⊎◌, inl, inr, ℕ, Bool, true, false, cond, List, [], ◌∷◌, ◌++◌, Option, Some, None, refl, sym, ap, subst}
use Rattle.std.proofs.Common.{◌∙◌, append_assoc, filter}
use Rattle.std.proofs.lemmas.Bool.{and_parts, or_parts}
use Rattle.std.proofs.lemmas.List.{append-nil}
use Rattle.units.specs.Lists.{gather}
use Rattle.units.specs.Ids.{Id, same_id}
use Rattle.units.proofs.IdLaws.{same_id-is, same_id-refl}
use Rattle.units.proofs.Folds.{is_there, there_first}
use Rattle.record.specs.Accepted.{followed, followed_from, follows, is_new, is_unrecorded}
use Rattle.record.specs.Records.{Ended, as_committed, as_prepared, status_by, status_written, is_aborted, committed_of, prepared_of}
use Rattle.record.specs.Records.{ended_of}
use Rattle.record.specs.declared.record.Committed.{Committed}
use Rattle.record.specs.declared.record.Prepared.{Prepared}
use Rattle.record.specs.declared.record.Record.{Record}
use Rattle.record.specs.declared.record.Record.TheVariants.{Prepare, Commit, Abort, Settled, Closed}
use Rattle.law.specs.Among.{IsAmong}
use Rattle.law.proofs.Logged.{AreLogged}
use Rattle.law.proofs.Picked.{some_same}

-- the record is a promise, a decision or an abort of the id, or what is left of one
abbrev pub is_claim : Id → Record → Bool
is_claim t (Prepare p) = same_id p.txn t
is_claim t (Commit c) = same_id c.txn t
is_claim t (Abort u) = same_id t u
is_claim t (Settled u at parts) = same_id u t
is_claim t (Closed u coordinator outcome) = same_id u t
is_claim t _ = false

-- those of an id
abbrev pub claims_of : List Record → Id → List Record
claims_of log t = filter (is_claim t) log

-- at most one
abbrev pub IsOne : List Record → Type 0
IsOne (x ∷ y ∷ rest) = ⊥
IsOne _ = Unit {0}

-- of each id
abbrev pub HasOneEach : List Record → Type 0
HasOneEach log = (t : Id) → IsOne (claims_of log t)

-- and all records are of the kinds that steps log
abbrev pub IsOrderly : List Record → Type 0
IsOrderly log = HasOneEach log × AreLogged log

-- ---- an id that is new has none

dropped : (b : Bool) (r : Record) (rest : List Record) → b ≡ false → rest ≡ [] → cond b (r ∷ rest) rest ≡ []
dropped true r rest e f = cc
dropped false r rest e f = f

none_of : (t : Id) (log : List Record) → is_aborted log t ≡ false → list_any (λ c. same_id c.txn t) (gather as_committed log) ≡ false →
    list_any (λ p. same_id p.txn t) (gather as_prepared log) ≡ false → claims_of log t ≡ []
none_of t [] a c p = refl
none_of t (Settled u at parts ∷ rs) a c p =
    dropped (same_id u t) (Settled u at parts) (claims_of rs t) (or_parts _ _ c).0 (none_of t rs a (or_parts _ _ c).1 p)
none_of t (Closed u k outcome ∷ rs) a c p =
    dropped (same_id u t) (Closed u k outcome) (claims_of rs t) (or_parts _ _ p).0 (none_of t rs a c (or_parts _ _ p).1)
none_of t (Prepare q ∷ rs) a c p = dropped (same_id q.txn t) (Prepare q) (claims_of rs t) (or_parts _ _ p).0 (none_of t rs a c (or_parts _ _ p).1)
none_of t (Commit q ∷ rs) a c p = dropped (same_id q.txn t) (Commit q) (claims_of rs t) (or_parts _ _ c).0 (none_of t rs a (or_parts _ _ c).1 p)
none_of t (Abort u ∷ rs) a c p = dropped (same_id t u) (Abort u) (claims_of rs t) (or_parts _ _ a).0 (none_of t rs (or_parts _ _ a).1 c p)
none_of t (_ ∷ rs) a c p = none_of t rs a c p

by_status : (a : Bool) (c : Option Committed) (p : Option Prepared) (e : Option Ended) → is_unrecorded (status_by a c p e) ≡ true → (a ≡ false)
    × (c ≡ None) × (p ≡ None)
by_status true c p e h = cc
by_status false (Some c) p (Some e) h = cc
by_status false (Some c) p None h = cc
by_status false None (Some p) (Some e) h = cc
by_status false None (Some p) None h = cc
by_status false None None e h = (refl, refl, refl)

new_none : (log : List Record) (t : Id) → is_new log t ≡ true → claims_of log t ≡ []
unfolding status_written
new_none log t h =
    let k = by_status (is_aborted log t) (committed_of log t) (prepared_of log t) (ended_of log t) (and_parts _ _ h).0 in
    none_of t log k.0
    (sym (there_first (λ (c : Committed). same_id c.txn t) (gather as_committed log)) ∙ ap is_there k.1)
    (sym (there_first (λ (p : Prepared). same_id p.txn t) (gather as_prepared log)) ∙ ap is_there k.2)

-- ---- one more record

claims_append : (t : Id) (xs ys : List Record) → claims_of (xs ++ ys) t ≡ claims_of xs t ++ claims_of ys t
claims_append t [] ys = refl
claims_append t (x ∷ xs) ys = by_test (is_claim t x) (claims_append t xs ys)
  where
    by_test : (b : Bool) → claims_of (xs ++ ys) t ≡ claims_of xs t ++ claims_of ys t →
        cond b (x ∷ claims_of (xs ++ ys) t) (claims_of (xs ++ ys) t) ≡ cond b (x ∷ claims_of xs t) (claims_of xs t) ++ claims_of ys t
    by_test true e = ap (λ l. x ∷ l) e
    by_test false e = e

-- a record that follows claims an id that is new
claims_new : (shard : ℕ) (before : List Record) (r : Record) (t : Id) → follows shard before r ≡ true → is_claim t r ≡ true → is_new before t ≡ true
unfolding follows
claims_new shard before (Prepare p) t h k = subst (λ u. is_new before u ≡ true) (same_id-is p.txn t k) (and_parts _ _ (and_parts _ _ h).0).1
claims_new shard before (Commit c) t h k = subst (λ u. is_new before u ≡ true) (same_id-is c.txn t k) (and_parts _ _ (and_parts _ _ h).0).1
claims_new shard before (Abort u) t h k = subst (λ v. is_new before v ≡ true) (sym (same_id-is t u k)) h
claims_new shard before (Settled u at parts) t h k =
    subst (λ v. is_new before v ≡ true) (same_id-is u t k) (and_parts _ _ (and_parts _ _ h).0).1
claims_new shard before (Closed u coordinator outcome) t h k =
    subst (λ v. is_new before v ≡ true) (same_id-is u t k) (and_parts _ _ (and_parts _ _ h).0).1
claims_new shard before _ t h k = cc

one_more : (shard : ℕ) (before : List Record) (r : Record) (t : Id) → follows shard before r ≡ true → IsOne (claims_of before t) →
    IsOne (claims_of (before ++ r ∷ []) t)
one_more shard before r t h one = subst IsOne (sym (claims_append t before (r ∷ []))) (by_test (is_claim t r) refl)
  where
    by_test : (b : Bool) → is_claim t r ≡ b → IsOne (claims_of before t ++ cond b (r ∷ []) [])
    by_test true k = subst (λ l. IsOne (l ++ r ∷ [])) (sym (new_none before t (claims_new shard before r t h k))) tt
    by_test false k = subst IsOne (sym (append-nil (claims_of before t))) one

orderly_from : (shard : ℕ) (before rest : List Record) → followed_from shard before rest ≡ true → HasOneEach before → HasOneEach (before ++ rest)
orderly_from shard before [] h o t = subst (λ l. IsOne (claims_of l t)) (sym (append-nil before)) (o t)
orderly_from shard before (r ∷ rs) h o t =
    let p = and_parts _ _ h in
    subst (λ l. IsOne (claims_of l t)) (append_assoc before (r ∷ []) rs)
    (orderly_from shard (before ++ r ∷ []) rs p.1 (λ u. one_more shard before r u (and_parts _ _ p.0).1 (o u)) t)

pub orderly : (shard : ℕ) (log : List Record) → followed shard log ≡ true → AreLogged log → IsOrderly log
unfolding followed
orderly shard log h logged = (orderly_from shard [] log h (λ t. tt), logged)

-- ---- what it means

among_kept : (t : Id) (log : List Record) (r : Record) → IsAmong log r → is_claim t r ≡ true → IsAmong (claims_of log t) r
among_kept t [] r h k = absurd h
among_kept t (x ∷ xs) r h k = by_test (is_claim t x) refl h (λ l. among_kept t xs r l k)
  where
    by_test : (b : Bool) → is_claim t x ≡ b → (x ≡ r) ⊎ IsAmong xs r → (IsAmong xs r → IsAmong (claims_of xs t) r) →
        IsAmong (cond b (x ∷ claims_of xs t) (claims_of xs t)) r
    by_test true e (inl same) rest = inl same
    by_test true e (inr later) rest = inr (rest later)
    by_test false e (inl same) rest = let f : is_claim t r ≡ false = sym (ap (is_claim t) same) ∙ e in cc
    by_test false e (inr later) rest = rest later

one_same : (xs : List Record) (a b : Record) → IsOne xs → IsAmong xs a → IsAmong xs b → a ≡ b
one_same [] a b o h k = absurd h
one_same (x ∷ []) a b o (inl h) (inl k) = sym h ∙ k
one_same (x ∷ []) a b o (inr h) k = absurd h
one_same (x ∷ []) a b o (inl h) (inr k) = absurd k
one_same (x ∷ y ∷ rest) a b o h k = absurd o

-- two claims of one id are one record
pub same_claim : (log : List Record) → IsOrderly log → (t : Id) (a b : Record) → IsAmong log a → IsAmong log b → is_claim t a ≡ true →
    is_claim t b ≡ true → a ≡ b
same_claim log o t a b h k p q = one_same (claims_of log t) a b (o.0 t) (among_kept t log a h p) (among_kept t log b k q)

module _ (log : List Record) (o : IsOrderly log) where
  pub one_decision : (c d : Committed) → IsAmong log (Commit c) → IsAmong log (Commit d) → d.txn ≡ c.txn → c ≡ d
  one_decision c d h k e =
      some_same c d (ap as_committed (same_claim log o c.txn (Commit c) (Commit d) h k (same_id-refl c.txn)
      (subst (λ u. same_id u c.txn ≡ true) (sym e) (same_id-refl c.txn))))

  pub one_promise : (p q : Prepared) → IsAmong log (Prepare p) → IsAmong log (Prepare q) → q.txn ≡ p.txn → p ≡ q
  one_promise p q h k e =
      some_same p q (ap as_prepared (same_claim log o p.txn (Prepare p) (Prepare q) h k (same_id-refl p.txn)
      (subst (λ u. same_id u p.txn ≡ true) (sym e) (same_id-refl p.txn))))

  pub decided_not_promised : (c : Committed) (p : Prepared) → IsAmong log (Commit c) → IsAmong log (Prepare p) → p.txn ≡ c.txn → ⊥
  decided_not_promised c p h k e =
      let same = same_claim log o c.txn (Commit c) (Prepare p) h k (same_id-refl c.txn) (subst (λ u. same_id u c.txn ≡ true) (sym e) (same_id-refl c.txn)) in cc

  pub decided_not_aborted : (c : Committed) → IsAmong log (Commit c) → IsAmong log (Abort c.txn) → ⊥
  decided_not_aborted c h k =
      let same = same_claim log o c.txn (Commit c) (Abort c.txn) h k (same_id-refl c.txn) (same_id-refl c.txn) in cc
