-- What a log says of its ids is of its shard, behind each record that is taken.
use Rattle.std.specs.List.{AllByRecursion}
use Rattle.std.proofs.Common.{◌≡◌, ◌⊎◌, inl, inr, ℕ, true, not, nat_le, nat_lt, arith, List, Option, Some, None, refl, sym, subst}
use Rattle.std.proofs.lemmas.Bool.{and_parts, false≢true}
use Rattle.std.proofs.lemmas.Bool.Decides.{nat_tests}
use Rattle.units.specs.Lists.{first}
use Rattle.units.specs.Ids.{Id, same_id}
use Rattle.units.proofs.ByIdLaws.{all-with, first_all}
use Rattle.units.proofs.ListLaws.{all-keep}
use Rattle.record.specs.Records.{is_below, Status, Unrecorded, StandsPrepared, StandsDecided, HasAborted}
use Rattle.record.specs.Facts.{Facts, TxnStatus, learn, recorded, or_unrecorded, with_status, after_outcome}
use Rattle.record.specs.declared.record.Record.{Record}
use Rattle.record.specs.declared.record.Record.TheVariants.{Opened, Ceiling, Prepare, Commit, Abort, Outcome, Horizon, Retired}
use Rattle.facts.specs.Rules.{allows, id_follows}
use Rattle.ledger.specs.Keeps.{IsOfShard}
use Rattle.ledger.specs.Laws.{OfShardStays}
use Rattle.ledger.specs.Rules.{takes}
use Rattle.ledger.proofs.Entries.{entry, id_of, with_status-is}
use Rattle.ledger.proofs.Bounded.{step-of}

-- what is not below a timestamp above 0 is above 0
later : (at s : ℕ) → nat_lt 0 at ≡ true → nat_le at s ≡ true → nat_lt 0 s ≡ true
later at s above le = grind (arith, nat_tests)

module _ (shard : ℕ) where
  pub put : (es : List TxnStatus) (t : Id) (s : Status) → IsOfShard shard (entry t s) → AllByRecursion (IsOfShard shard) es
      → AllByRecursion (IsOfShard shard) (with_status es t s)
  put es t s p all = subst (AllByRecursion (IsOfShard shard)) (sym (with_status-is es t s)) (all-with (IsOfShard shard) id_of es (entry t s) p all)

  -- where something is recorded of an id, it is of the shard
  known : (f : Facts) (t : Id) → AllByRecursion (IsOfShard shard) f.entries
      → (recorded f t ≡ Unrecorded) ⊎ ((u : Id) → IsOfShard shard (entry u (recorded f t)))
  known f t all = by_found (first (λ e. same_id e.txn t) f.entries) refl
    where
      by_status : (s : Status) (u : Id) → IsOfShard shard (entry u s) → (v : Id) → IsOfShard shard (entry v s)
      by_status HasAborted u p v = tt
      by_status _ u p v = p

      by_found : (found : Option TxnStatus) → first (λ e. same_id e.txn t) f.entries ≡ found
          → (or_unrecorded found ≡ Unrecorded) ⊎ ((u : Id) → IsOfShard shard (entry u (or_unrecorded found)))
      by_found None e = inl refl
      by_found (Some x) e = inr (by_status x.status x.txn (first_all (IsOfShard shard) (λ e. same_id e.txn t) f.entries x all e))

  ended : (t : Id) (s : Status) (o : Option ℕ) → (s ≡ Unrecorded) ⊎ ((u : Id) → IsOfShard shard (entry u s)) → allows s o ≡ true
      → IsOfShard shard (entry t (after_outcome s o))
  ended t (StandsPrepared p) None (inl e) a = cc
  ended t (StandsPrepared p) None (inr k) a = (refl, (k t).1)
  ended t (StandsPrepared p) (Some at) (inl e) a = cc
  ended t (StandsPrepared p) (Some at) (inr k) a = (later p.at at ((k t).0) a, (k t).1)
  ended t (StandsDecided c) None k a = cc
  ended t (StandsDecided c) (Some at) (inl e) a = cc
  ended t (StandsDecided c) (Some at) (inr k) a = k t
  ended t _ o k a = cc

pub step-of-shard : (shard : ℕ) (facts : Facts) (r : Record) → AllByRecursion (IsOfShard shard) facts.entries → id_follows shard facts r ≡ true
    → AllByRecursion (IsOfShard shard) (learn facts r).entries
unfolding learn
step-of-shard shard facts (Opened e) all f = all
step-of-shard shard facts (Ceiling at) all f = all
step-of-shard shard facts (Horizon at) all f = all
step-of-shard shard facts (Retired below) all f = all-keep (IsOfShard shard) (λ e. not (is_below (Some below) e.txn)) facts.entries all
step-of-shard shard facts (Prepare p) all f =
    let g = and_parts _ _ f in put shard facts.entries p.txn (StandsPrepared p) ((and_parts _ _ g.0).0, g.1) all
step-of-shard shard facts (Commit c) all f =
    let g = and_parts _ _ f in put shard facts.entries c.txn (StandsDecided c) ((and_parts _ _ g.0).0, g.1) all
step-of-shard shard facts (Abort t) all f = put shard facts.entries t HasAborted tt all
step-of-shard shard facts (Outcome t o) all f =
    put shard facts.entries t (after_outcome (recorded facts t) o) (ended shard t (recorded facts t) o (known shard facts t all) f) all
step-of-shard shard facts _ all f = absurd (false≢true f)

pub of-shard-stays : OfShardStays
unfolding takes
of-shard-stays setup facts r all h =
    step-of-shard setup.shard facts r all (step-of setup.shard facts r ((and_parts _ _ ((and_parts _ _ h).0)).1))
