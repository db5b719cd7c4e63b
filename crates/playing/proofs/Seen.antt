-- What a log whose records follow one another has of an id is told from the id's written status: at most one of an abort, a decision and a
-- promise, and an outcome behind the latter two alone.
use Rattle.std.specs.List.{list_any}
use Rattle.std.proofs.Common.{◌≡◌, ℕ, Bool, true, false, not, cond, ◌||◌, nat_eq, nat_le, IsTrue, List, [], ◌∷◌, ◌++◌, filter}
use Rattle.std.proofs.Common.{Option, Some, None, refl, sym, ap, ◌∙◌, subst, arith, append_assoc}
use Rattle.std.proofs.lemmas.Bool.{and_parts}
use Rattle.std.proofs.lemmas.Bool.Decides.{nat_tests}
use Rattle.std.proofs.lemmas.List.{append-nil}
use Rattle.std.proofs.lemmas.List.Elements.{filter-append}
use Rattle.std.proofs.Math.Bool.{or-false}
use Rattle.units.specs.Ids.{Id, same_id}
use Rattle.units.specs.Lists.{gather, head, when}
use Rattle.units.proofs.Folds.{gather_append}
use Rattle.units.proofs.IdLaws.{same_id-is, same_id-refl, same_id_comm}
use Rattle.record.specs.Accepted.{followed, followed_from, follows, is_new, is_unrecorded, outcome_fits}
use Rattle.record.specs.Records.{Ended, Status, Unrecorded, StandsPrepared, StandsDecided, HasAborted, HasSettled, HasClosed, as_committed, as_ended}
use Rattle.record.specs.Records.{as_prepared, closed_promise, id_in, is_aborted, or_least, settled_decision, status_by}
use Rattle.record.specs.Records.{status_written}
use Rattle.record.specs.Whole.{promises_of}
use Rattle.record.specs.declared.record.Committed.{Committed}
use Rattle.record.specs.declared.record.Prepared.{Prepared}
use Rattle.record.specs.declared.record.Record.{Record}
use Rattle.record.specs.declared.record.Record.TheVariants.{Prepare, Commit, Abort, Outcome, Settled, Closed}
use Rattle.record.proofs.Sound.{abort_new, aborted_more, closed_new, commit_new, outcome_follows, prepare_new, settled_new}

-- an abort or none, the decisions, the promises and the outcomes
pub record Seen : Type 0 where
  pub aborted : Bool
  pub decided : List Committed
  pub promised : List Prepared
  pub ended : List Ended

abbrev pub with_seen : Bool → List Committed → List Prepared → List Ended → Seen
with_seen a cs ps es = record { aborted = a; decided = cs; promised = ps; ended = es }

-- those of an id
abbrev pub seen : List Record → Id → Seen
seen log t =
    with_seen (is_aborted log t) (filter (λ c. same_id c.txn t) (gather as_committed log)) (promises_of log t)
    (filter (λ e. same_id e.txn t) (gather as_ended log))

abbrev pub status_by_seen : Seen → Status
status_by_seen x = status_by x.aborted (head x.decided) (head x.promised) (head x.ended)

abbrev pub end_of : Id → Option ℕ → Ended
end_of t outcome = record { txn = t; outcome = outcome }

-- what a status says of them
abbrev pub seen_by : Id → Status → Seen
seen_by t Unrecorded = with_seen false [] [] []
seen_by t (StandsPrepared p) = with_seen false [] (p ∷ []) []
seen_by t (StandsDecided c) = with_seen false (c ∷ []) [] []
seen_by t HasAborted = with_seen true [] [] []
seen_by t (HasSettled at parts) = with_seen false (settled_decision t at parts ∷ []) [] (end_of t (Some at) ∷ [])
seen_by t (HasClosed coordinator outcome) = with_seen false [] (closed_promise t coordinator outcome ∷ []) (end_of t outcome ∷ [])

-- an outcome at a timestamp is not below its promise
abbrev pub IsNotBelow : ℕ → Option ℕ → Type 0
IsNotBelow at None = Unit {0}
IsNotBelow at (Some s) = IsTrue (nat_le at s)

-- they are what the status says, with the decision or the promise of before where there is an outcome
abbrev pub IsToldBy : Id → Status → Seen → Type 0
IsToldBy t Unrecorded x = x ≡ seen_by t Unrecorded
IsToldBy t (StandsPrepared p) x = x ≡ seen_by t (StandsPrepared p)
IsToldBy t (StandsDecided c) x = x ≡ seen_by t (StandsDecided c)
IsToldBy t HasAborted x = x ≡ seen_by t HasAborted
IsToldBy t (HasSettled at parts) x =
    (c : Committed) × (c.at ≡ at) × (c.parts ≡ parts) × (x ≡ with_seen false (c ∷ []) [] (end_of t (Some at) ∷ []))
IsToldBy t (HasClosed coordinator outcome) x =
    (p : Prepared) × (p.coordinator ≡ coordinator) × IsNotBelow p.at outcome × (x ≡ with_seen false [] (p ∷ []) (end_of t outcome ∷ []))

abbrev pub IsTold : Id → Seen → Type 0
IsTold t x = IsToldBy t (status_by_seen x) x

-- ---- one more record

abbrev together : Seen → Seen → Seen
together x y = with_seen (x.aborted || y.aborted) (x.decided ++ y.decided) (x.promised ++ y.promised) (x.ended ++ y.ended)

seen_more : (log : List Record) (r : Record) (t : Id) → seen (log ++ r ∷ []) t ≡ together (seen log t) (seen (r ∷ []) t)
seen_more log r t = λ i. with_seen (aborted_more log r t i) (both as_committed (λ c. same_id c.txn t) i) (both as_prepared (λ p. same_id p.txn t) i)
    (both as_ended (λ e. same_id e.txn t) i)
  where
    both : {A : Type 0} (read : Record → Option A) (test : A → Bool) →
        filter test (gather read (log ++ r ∷ [])) ≡ filter test (gather read log) ++ filter test (gather read (r ∷ []))
    both read test = ap (filter test) (gather_append read log (r ∷ [])) ∙ filter-append test (gather read log) (gather read (r ∷ []))

-- none of another id
no_more : (x : Seen) → together x (with_seen false [] [] []) ≡ x
no_more x = λ i. with_seen (or-false x.aborted i) (append-nil x.decided i) (append-nil x.promised i) (append-nil x.ended i)

one_if : {A : Type 0} (b c : Bool) (x : A) → b ≡ c → cond b (x ∷ []) [] ≡ cond c (x ∷ []) []
one_if b c x e = ap (λ d. cond d (x ∷ []) []) e

-- ---- a record of another id

apart : (t u : Id) → (same_id t u || false) ≡ false → same_id u t ≡ false
apart t u e = same_id_comm u t ∙ sym (or-false (same_id t u)) ∙ e

of_another : (r : Record) (t : Id) → list_any (same_id t) (gather id_in (r ∷ [])) ≡ false → seen (r ∷ []) t ≡ with_seen false [] [] []
of_another (Prepare p) t e = ap (λ l. with_seen false [] l []) (one_if (same_id p.txn t) false p (apart t p.txn e))
of_another (Commit c) t e = ap (λ l. with_seen false l [] []) (one_if (same_id c.txn t) false c (apart t c.txn e))
of_another (Abort u) t e = ap (λ b. with_seen b [] [] []) e
of_another (Outcome u o) t e = ap (λ l. with_seen false [] [] l) (one_if (same_id u t) false (end_of u o) (apart t u e))
of_another (Settled u at parts) t e =
    λ i. with_seen false (one_if (same_id u t) false (settled_decision u at parts) (apart t u e) i) []
    (one_if (same_id u t) false (end_of u (Some at)) (apart t u e) i)
of_another (Closed u coordinator o) t e =
    λ i. with_seen false [] (one_if (same_id u t) false (closed_promise u coordinator o) (apart t u e) i)
    (one_if (same_id u t) false (end_of u o) (apart t u e) i)
of_another _ t e = refl

-- ---- a record of this id

-- an id that is new has none
new_none : (t : Id) (s : Status) (x : Seen) → is_unrecorded s ≡ true → IsToldBy t s x → x ≡ with_seen false [] [] []
new_none t Unrecorded x e h = h
new_none t _ x e h = cc

no_fit : (o : Option ℕ) → ¬ (outcome_fits None None o ≡ true)
no_fit None e = cc
no_fit (Some at) e = cc

not_below : (p : Prepared) (o : Option ℕ) → outcome_fits (Some p) None o ≡ true → IsNotBelow p.at o
not_below p None e = tt
not_below p (Some at) e = sym (or-false (nat_le p.at at)) ∙ e

at_its_own : (c : Committed) (o : Option ℕ) → outcome_fits None (Some c) o ≡ true → o ≡ Some c.at
at_its_own c None e = cc
at_its_own c (Some at) e = ap Some (same c.at at e)
  where
    same : (a b : ℕ) → nat_eq a b ≡ true → b ≡ a
    same a b k = grind (arith, nat_tests)

clash : ¬ (false ≡ true)
clash e = cc

-- an outcome behind a promise or a decision
ends : (t : Id) (o : Option ℕ) (s : Status) (x : Seen) → IsToldBy t s x → not (when (λ e. true) (head x.ended)) ≡ true →
    outcome_fits (head x.promised) (head x.decided) o ≡ true → IsTold t (together x (with_seen false [] [] (end_of t o ∷ [])))
ends t o s x h none fits = by_status s h
  where
    one : Seen
    one = with_seen false [] [] (end_of t o ∷ [])

    fits_so : (y : Seen) → x ≡ y → outcome_fits (head y.promised) (head y.decided) o ≡ true
    fits_so y e = subst (λ z. outcome_fits (head z.promised) (head z.decided) o ≡ true) e fits

    is_open : (y : Seen) → x ≡ y → not (when (λ e. true) (head y.ended)) ≡ true
    is_open y e = subst (λ z. not (when (λ e. true) (head z.ended)) ≡ true) e none

    by_status : (u : Status) → IsToldBy t u x → IsTold t (together x one)
    by_status Unrecorded k = absurd (no_fit o (fits_so (with_seen false [] [] []) k))
    by_status HasAborted k = absurd (no_fit o (fits_so (with_seen true [] [] []) k))
    by_status (StandsPrepared p) k =
        subst (λ y. IsTold t (together y one)) (sym k) (p, refl, not_below p o (fits_so (with_seen false [] (p ∷ []) []) k), refl)
    by_status (StandsDecided c) k =
        subst (λ y. IsTold t (together y one)) (sym k)
        (c, refl, refl, ap (λ q. with_seen false (c ∷ []) [] (end_of t q ∷ [])) (at_its_own c o (fits_so (with_seen false (c ∷ []) [] []) k)))
    by_status (HasSettled at parts) k = absurd (clash (is_open _ k.3))
    by_status (HasClosed coordinator outcome) k = absurd (clash (is_open _ k.3))

module _ (shard : ℕ) (log : List Record) (t : Id) (told_before : IsTold t (seen log t)) where
  this : (u : Id) → (same_id t u || false) ≡ true → u ≡ t
  this u e = sym (same_id-is t u (sym (or-false (same_id t u)) ∙ e))

  mine : (u : Id) → (same_id t u || false) ≡ true → same_id u t ≡ true
  mine u e = subst (λ v. same_id v t ≡ true) (sym (this u e)) (same_id-refl t)

  -- the first one
  starts : (u : Id) (x y : Seen) → (same_id t u || false) ≡ true → is_new log u ≡ true → x ≡ y → IsTold t y → IsTold t (together (seen log t) x)
  unfolding status_written
  starts u x y e new same told =
      let none : seen log t ≡ with_seen false [] [] [] =
      new_none t (status_by_seen (seen log t)) (seen log t) (and_parts _ _ (subst (λ v. is_new log v ≡ true) (this u e) new)).0 told_before in
      subst (λ z. IsTold t (together z x)) (sym none) (subst (IsTold t) (sym same) told)

  ends_it : (u : Id) (o : Option ℕ) → (same_id t u || false) ≡ true → follows shard log (Outcome u o) ≡ true →
      IsTold t (together (seen log t) (seen (Outcome u o ∷ []) t))
  ends_it u o e g =
      let fits = subst (λ v. follows shard log (Outcome v o) ≡ true) (this u e) g in
      let its = outcome_follows shard log t o fits in
      let one : seen (Outcome u o ∷ []) t ≡ with_seen false [] [] (end_of t o ∷ []) =
      ap (λ l. with_seen false [] [] l) (one_if (same_id u t) true (end_of u o) (mine u e) ∙ ap (λ v. end_of v o ∷ []) (this u e)) in
      subst (λ z. IsTold t (together (seen log t) z)) (sym one) (ends t o (status_by_seen (seen log t)) (seen log t) told_before its.0 its.1)

  of_this : (r : Record) → follows shard log r ≡ true → list_any (same_id t) (gather id_in (r ∷ [])) ≡ true →
      IsTold t (together (seen log t) (seen (r ∷ []) t))
  of_this (Prepare p) g e =
      starts p.txn _ (with_seen false [] (p ∷ []) []) e (prepare_new shard log p g)
      (ap (λ l. with_seen false [] l []) (one_if (same_id p.txn t) true p (mine p.txn e))) refl
  of_this (Commit c) g e =
      starts c.txn _ (with_seen false (c ∷ []) [] []) e (commit_new shard log c g)
      (ap (λ l. with_seen false l [] []) (one_if (same_id c.txn t) true c (mine c.txn e))) refl
  of_this (Abort u) g e = starts u _ (with_seen true [] [] []) e (abort_new shard log u g) (ap (λ b. with_seen b [] [] []) e) refl
  of_this (Outcome u o) g e = ends_it u o e g
  of_this (Settled u at parts) g e =
      let c : Committed = settled_decision u at parts in
      starts u _ (with_seen false (c ∷ []) [] (end_of t (Some at) ∷ [])) e (settled_new shard log u at parts g)
      (λ i. with_seen false (one_if (same_id u t) true c (mine u e) i) []
      ((one_if (same_id u t) true (end_of u (Some at)) (mine u e) ∙ ap (λ v. end_of v (Some at) ∷ []) (this u e)) i))
      (c, refl, refl, refl)
  of_this (Closed u coordinator o) g e =
      let p : Prepared = closed_promise u coordinator o in
      starts u _ (with_seen false [] (p ∷ []) (end_of t o ∷ [])) e (closed_new shard log u coordinator o g)
      (λ i. with_seen false [] (one_if (same_id u t) true p (mine u e) i)
      ((one_if (same_id u t) true (end_of u o) (mine u e) ∙ ap (λ v. end_of v o ∷ []) (this u e)) i))
      (p, refl, itself o, refl)
    where
      itself : (q : Option ℕ) → IsNotBelow (or_least q) q
      itself None = tt
      itself (Some at) = le_refl at
        where
          le_refl : (n : ℕ) → nat_le n n ≡ true
          le_refl n = grind (arith, nat_tests)
  of_this _ g e = cc

  one_more : (r : Record) → follows shard log r ≡ true → IsTold t (seen (log ++ r ∷ []) t)
  one_more r h = subst (IsTold t) (sym (seen_more log r t)) (by_id (list_any (same_id t) (gather id_in (r ∷ []))) refl)
    where
      by_id : (b : Bool) → list_any (same_id t) (gather id_in (r ∷ [])) ≡ b → IsTold t (together (seen log t) (seen (r ∷ []) t))
      by_id true e = of_this r h e
      by_id false e = subst (IsTold t) (sym (ap (together (seen log t)) (of_another r t e) ∙ no_more (seen log t))) told_before

told_from : (shard : ℕ) (before rest : List Record) (t : Id) → followed_from shard before rest ≡ true → IsTold t (seen before t) →
    IsTold t (seen (before ++ rest) t)
told_from shard before [] t h k = subst (λ l. IsTold t (seen l t)) (sym (append-nil before)) k
told_from shard before (r ∷ rs) t h k =
    let p = and_parts _ _ h in
    subst (λ l. IsTold t (seen l t)) (append_assoc before (r ∷ []) rs)
    (told_from shard (before ++ r ∷ []) rs t p.1 (one_more shard before t k r (and_parts _ _ p.0).1))

-- so it is where each record follows those before it
pub told : (shard : ℕ) (log : List Record) (t : Id) → IsTrue (followed shard log) → IsToldBy t (status_written log t) (seen log t)
unfolding followed status_written
told shard log t h = told_from shard [] log t h refl
