-- The transactions of one id.
use Rattle.std.specs.List.{list_any}
use Rattle.std.specs.List.Sorted.{IsStableBy}
use Rattle.std.proofs.Common.{◌≡◌, ◌∙◌, ℕ, Bool, true, false, cond, ◌&&◌, ◌||◌, List, [], ◌∷◌, filter, nat_eq, refl, sym, ap}
use Rattle.units.specs.Ids.{Id, same_id}
use Rattle.units.proofs.IdLaws.{same_id_comm}
use Rattle.record.specs.History.{Txn}
use Rattle.record.specs.Lines.{is_in_at}
use Rattle.inspector.specs.Known.{HaveSame, of_id}
use Rattle.inspector.proofs.IdRuns.{is_less, stable_by_id}

-- some transaction of an id
abbrev pub sample : Id → Txn
sample t = record { txn = t; at = 0; writes = [] }

pub of_id_is : (t : Id) (us : List Txn) → filter (λ u. same_id t u.txn) us ≡ of_id t us
of_id_is t us = ap (λ test. filter test us) (λ i u. same_id_comm t u.txn i)

pub stays_same : (us vs : List Txn) → IsStableBy (is_less (λ (u : Txn). u.txn)) us vs → HaveSame vs us
stays_same us vs stable t = sym (of_id_is t vs) ∙ stable_by_id (λ (u : Txn). u.txn) (sample t) us vs stable ∙ of_id_is t us

-- one at a timestamp, among those of the id
pub any_of_id : (us : List Txn) (t : Id) (at : ℕ) → is_in_at us t at ≡ list_any (λ u. nat_eq u.at at) (of_id t us)
any_of_id [] t at = refl
any_of_id (u ∷ us) t at = by_test (same_id u.txn t) (any_of_id us t at)
  where
    by_test : (b : Bool) → is_in_at us t at ≡ list_any (λ v. nat_eq v.at at) (of_id t us)
        → ((b && nat_eq u.at at) || is_in_at us t at) ≡ list_any (λ v. nat_eq v.at at) (cond b (u ∷ of_id t us) (of_id t us))
    by_test true rest = ap (λ c. nat_eq u.at at || c) rest
    by_test false rest = rest
