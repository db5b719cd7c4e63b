-- The statuses after one more record, and what the outcome of a row that stands leaves.
use Rattle.std.proofs.Common.{◌≡◌, ℕ, Bool, true, false, cond, List, [], ◌∷◌, filter, Option, Some, None, refl, sym, ap, subst, ◌∙◌}
use Rattle.std.specs.Prelude.{IsTrue}
use Rattle.std.proofs.lemmas.Bool.{and_parts, and_from}
use Rattle.units.specs.Lists.{first, ascends}
use Rattle.units.specs.Ids.{Id, same_id, older, with_id}
use Rattle.units.specs.ById.{IsById, with_member}
use Rattle.units.specs.Versions.{versions}
use Rattle.units.specs.declared.lock.Lock.{Lock}
use Rattle.units.specs.declared.writes.Install.{Install}
use Rattle.units.specs.declared.writes.Write.{Write}
use Rattle.units.proofs.IdLaws.{older-trans, older_total}
use Rattle.units.proofs.ByIdLaws.{find-with_same, find-with_other, by_id-with}
use Rattle.record.specs.Records.{Status, StandsPrepared}
use Rattle.record.specs.Facts.{TxnStatus, or_unrecorded, recorded, with_status, after_outcome, installs_at}
use Rattle.protocol.specs.Rows.{Row, IsPrepared, IsDecided, find_row}
use Rattle.protocol.specs.Plan.{Before, with_ids}
use Rattle.protocol.specs.Sound.{Agrees, holds_writes}
use Rattle.protocol.proofs.Agreement.{Sound, PromiseOf, promise_of, DecisionOf, decision_of}
use Rattle.protocol.proofs.RowChanges.{row_as}

-- ---- one status given anew

entry_of : Id → Status → TxnStatus
entry_of t s = record { txn = t; status = s }

with_status-is : (es : List TxnStatus) (t : Id) (s : Status) → with_status es t s ≡ with_member (λ e. e.txn) es (entry_of t s)
unfolding entry_of
with_status-is [] t s = refl
with_status-is (e ∷ es) t s =
    ap (λ rest. cond (same_id e.txn t) (entry_of t s ∷ es) (cond (older e.txn t) (e ∷ rest) (entry_of t s ∷ e ∷ es))) (with_status-is es t s)

-- the status of an id among some entries
abbrev pub status_in : List TxnStatus → Id → Status
status_in es t = or_unrecorded (first (λ e. same_id e.txn t) es)

pub entry_same : (es : List TxnStatus) (t : Id) (s : Status) → first (λ e. same_id e.txn t) (with_status es t s) ≡ Some (record { txn = t; status = s })
unfolding entry_of
entry_same es t s = ap (first (λ (e : TxnStatus). same_id e.txn t)) (with_status-is es t s) ∙ find-with_same (λ (e : TxnStatus). e.txn) es (entry_of t s)

pub entry_other : (es : List TxnStatus) (t u : Id) (s : Status) → same_id t u ≡ false → first (λ e. same_id e.txn u) (with_status es t s) ≡
    first (λ e. same_id e.txn u) es
unfolding entry_of
entry_other es t u s differ = ap (first (λ (e : TxnStatus). same_id e.txn u)) (with_status-is es t s)
    ∙ find-with_other (λ (e : TxnStatus). e.txn) es (entry_of t s) u differ

pub status_same : (es : List TxnStatus) (t : Id) (s : Status) → status_in (with_status es t s) t ≡ s
status_same es t s = ap or_unrecorded (entry_same es t s)

pub status_other : (es : List TxnStatus) (t u : Id) (s : Status) → same_id t u ≡ false → status_in (with_status es t s) u ≡ status_in es u
status_other es t u s differ = ap or_unrecorded (entry_other es t u s differ)

pub by_id-status : (es : List TxnStatus) (t : Id) (s : Status) → IsById (λ e. e.txn) es → IsById (λ e. e.txn) (with_status es t s)
by_id-status es t s up = subst (IsById (λ (e : TxnStatus). e.txn)) (sym (with_status-is es t s)) (by_id-with (λ (e : TxnStatus). e.txn) es (entry_of t s) up)

-- ---- ids in order

-- one more behind an older one
ascends-behind : (u : Id) (us : List Id) (t : Id) → ascends older (u ∷ us) ≡ true → older u t ≡ true → ascends older (u ∷ with_id us t) ≡ true
ascends-behind u [] t up e = and_from _ _ e refl
ascends-behind u (v ∷ vs) t up e = by_tests (same_id v t) (older v t) refl refl (λ k. ascends-behind v vs t ((and_parts _ _ up).1) k)
  where
    by_tests : (a b : Bool) → same_id v t ≡ a → older v t ≡ b → (older v t ≡ true → ascends older (v ∷ with_id vs t) ≡ true)
        → ascends older (u ∷ cond a (v ∷ vs) (cond b (v ∷ with_id vs t) (t ∷ v ∷ vs))) ≡ true
    by_tests true b s o rest = up
    by_tests false true s o rest = and_from _ _ ((and_parts _ _ up).0) (rest o)
    by_tests false false s o rest = and_from _ _ e (and_from _ _ (older_total v t s o) ((and_parts _ _ up).1))

pub ascends-with_id : (us : List Id) (t : Id) → ascends older us ≡ true → ascends older (with_id us t) ≡ true
ascends-with_id [] t up = refl
ascends-with_id (u ∷ us) t up = by_tests (same_id u t) (older u t) refl refl
  where
    by_tests : (a b : Bool) → same_id u t ≡ a → older u t ≡ b → ascends older (cond a (u ∷ us) (cond b (u ∷ with_id us t) (t ∷ u ∷ us))) ≡ true
    by_tests true b s o = up
    by_tests false true s o = ascends-behind u us t up o
    by_tests false false s o = and_from _ _ (older_total u t s o) up

pub ascends-with_ids : (us ts : List Id) → ascends older us ≡ true → ascends older (with_ids us ts) ≡ true
ascends-with_ids us [] up = up
ascends-with_ids us (t ∷ ts) up = ascends-with_ids (with_id us t) ts (ascends-with_id us t up)

-- some fewer
ascends-past : (u v : Id) (us : List Id) → ascends older (u ∷ v ∷ us) ≡ true → ascends older (u ∷ us) ≡ true
ascends-past u v [] up = refl
ascends-past u v (w ∷ us) up =
    let first = and_parts _ _ up in
    let second = and_parts _ _ first.1 in
    and_from _ _ (older-trans u v w first.0 second.0) second.1

keep-behind : (left : Id → Bool) (u : Id) (us : List Id) → ascends older (u ∷ us) ≡ true → ascends older (u ∷ filter left us) ≡ true
keep-behind left u [] up = refl
keep-behind left u (v ∷ us) up =
    by_test (left v) (keep-behind left v us ((and_parts _ _ up).1)) (keep-behind left u us (ascends-past u v us up))
  where
    by_test : (b : Bool) → ascends older (v ∷ filter left us) ≡ true → ascends older (u ∷ filter left us) ≡ true
        → ascends older (u ∷ cond b (v ∷ filter left us) (filter left us)) ≡ true
    by_test true with_it rest = and_from _ _ ((and_parts _ _ up).0) with_it
    by_test false with_it rest = rest

pub ascends-keep : (left : Id → Bool) (us : List Id) → ascends older us ≡ true → ascends older (filter left us) ≡ true
ascends-keep left [] up = refl
ascends-keep left (u ∷ us) up = by_test (left u) (keep-behind left u us up) (ascends-keep left us (behind us up))
  where
    behind : (vs : List Id) → ascends older (u ∷ vs) ≡ true → ascends older vs ≡ true
    behind [] h = refl
    behind (v ∷ vs) h = (and_parts _ _ h).1

    by_test : (b : Bool) → ascends older (u ∷ filter left us) ≡ true → ascends older (filter left us) ≡ true
        → ascends older (cond b (u ∷ filter left us) (filter left us)) ≡ true
    by_test true with_it rest = with_it
    by_test false with_it rest = rest

-- ---- the outcome of a row that stands

-- what an outcome installs of some writes
abbrev pub installs_by : List Write → Option ℕ → List Install
installs_by ws None = []
installs_by ws (Some s) = versions ws s

-- a row that stands, and what its outcome installs and leaves
pub record Closing (b : Before) (t : Id) (outcome : Option ℕ) : Type 0 where
  pub row : Row
  pub found : find_row b.memory.rows t ≡ Some row
  pub writes : List Write
  pub held : IsTrue (holds_writes row.held writes)
  pub installs : installs_at (recorded b.facts t) outcome ≡ installs_by writes outcome
  pub leaves : (installs : List Install) (last : ℕ) → Agrees installs last (after_outcome (recorded b.facts t) outcome) None

pub closing : (b : Before) (t : Id) (c at : ℕ) (held : List Lock) (outcome : Option ℕ) → Sound b
    → find_row b.memory.rows t ≡ Some (row_as t held (IsPrepared c at)) → Closing b t outcome
closing b t c at held outcome sound found =
    let made : PromiseOf b t held c at = promise_of b t held c at sound found in record {
      row = row_as t held (IsPrepared c at);
      found = found;
      writes = made.promise.writes;
      held = made.stands_by.held;
      installs = ap (λ s. installs_at s outcome) made.is ∙ by_outcome outcome;
      leaves = λ is last. subst (λ s. Agrees is last (after_outcome s outcome) None) (sym made.is) tt;
    }
  where
    by_outcome : (o : Option ℕ) → installs_at (StandsPrepared ((promise_of b t held c at sound found).promise)) o ≡
        installs_by ((promise_of b t held c at sound found).promise.writes) o
    by_outcome None = refl
    by_outcome (Some s) = refl

pub settling : (b : Before) (t : Id) (at : ℕ) (ps : List ℕ) (held : List Lock) → Sound b → find_row b.memory.rows t ≡ Some (row_as t held (IsDecided at ps))
    → Closing b t (Some at)
settling b t at ps held sound found =
    let made : DecisionOf b t held at ps = decision_of b t held at ps sound found in record {
      row = row_as t held (IsDecided at ps);
      found = found;
      writes = made.decision.writes;
      held = made.stands_by.held;
      installs = ap (λ s. installs_at s (Some at)) made.is;
      leaves = λ is last. subst (λ s. Agrees is last (after_outcome s (Some at)) None) (sym made.is) tt;
    }
