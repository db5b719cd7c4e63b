-- What the record of a transaction is where its row stands by one, and where it has none.
use Rattle.std.specs.List.{list_any}
use Rattle.std.proofs.Common.{◌≡◌, ℕ, ◌≤◌, Bool, true, List, Option, Some, None, refl, sym, ap, subst, ◌∙◌, arith}
use Rattle.std.proofs.lemmas.Bool.{false≢true}
use Rattle.std.proofs.lemmas.Bool.Decides.{nat_tests}
use Rattle.units.specs.Ids.{Id, same_id}
use Rattle.units.specs.declared.lock.Lock.{Lock}
use Rattle.units.specs.declared.writes.Install.{Install}
use Rattle.record.specs.Records.{Status, Unrecorded, StandsPrepared, StandsDecided, HasAborted, HasSettled, HasClosed}
use Rattle.record.specs.Facts.{recorded}
use Rattle.record.specs.declared.record.Committed.{Committed}
use Rattle.record.specs.declared.record.Prepared.{Prepared}
use Rattle.protocol.specs.Rows.{Row, IsPrepared, IsDecided, standing_by, find_row}
use Rattle.protocol.specs.Plan.{Before, stands}
use Rattle.protocol.specs.Cells.{is_outcome_for}
use Rattle.protocol.specs.Sound.{Agrees, StandsBy, IsSound, is_open}
use Rattle.protocol.proofs.RowChanges.{row_as}
use Rattle.protocol.proofs.Shapes.{is_undecided, not_retired, stands_kept}

-- a state that is sound
abbrev pub Sound : Before → Type 0
Sound b = IsSound b.shard b.facts b.memory

by_parts : (installs : List Install) (last : ℕ) (s : Status) (o : Option Row) (ended : Bool) → Agrees installs last s o
    → is_undecided (standing_by o s ended) ≡ true → s ≡ Unrecorded
by_parts installs last Unrecorded o ended a e = refl
by_parts installs last (StandsPrepared p) (Some r) ended a e = absurd (false≢true (sym (ap is_open a.phase) ∙ e))
by_parts installs last (StandsPrepared p) None ended a e = absurd a
by_parts installs last (StandsDecided c) (Some r) ended a e = absurd (false≢true (sym (ap is_open a.phase) ∙ e))
by_parts installs last (StandsDecided c) None ended a e = absurd a
by_parts installs last HasAborted (Some r) ended a e = absurd a
by_parts installs last HasAborted None ended a e = absurd (false≢true e)
by_parts installs last (HasSettled at ps) (Some r) ended a e = absurd a
by_parts installs last (HasSettled at ps) None ended a e = absurd (false≢true e)
by_parts installs last (HasClosed c o) (Some r) ended a e = absurd a
by_parts installs last (HasClosed c o) None ended a e = absurd (false≢true e)

-- who is undecided has no record
pub unrecorded : (b : Before) (t : Id) → Sound b → is_undecided (stands b t) ≡ true → recorded b.facts t ≡ Unrecorded
unrecorded b t sound e =
    by_parts b.facts.installs b.memory.last (recorded b.facts t) (find_row b.memory.rows t) (list_any (same_id t) b.memory.ended) (sound.agrees t)
    (ap is_undecided (sym (stands_kept b t (not_retired b t e))) ∙ e)

-- the promise by which a row stands
pub record PromiseOf (b : Before) (t : Id) (held : List Lock) (c at : ℕ) : Type 0 where
  pub promise : Prepared
  pub is : recorded b.facts t ≡ StandsPrepared promise
  pub stands_by : StandsBy b.facts.installs b.memory.last (row_as t held (IsPrepared c at))
      (IsPrepared promise.coordinator promise.at) promise.txn promise.at promise.reads promise.writes
  pub stamp : promise.at ≡ at

pub promise_of : (b : Before) (t : Id) (held : List Lock) (c at : ℕ) → Sound b → find_row b.memory.rows t ≡ Some (row_as t held (IsPrepared c at))
    → PromiseOf b t held c at
promise_of b t held c at sound found =
    by_status (recorded b.facts t) refl (subst (Agrees b.facts.installs b.memory.last (recorded b.facts t)) found (sound.agrees t))
  where
    by_status : (s : Status) → recorded b.facts t ≡ s → Agrees b.facts.installs b.memory.last s (Some (row_as t held (IsPrepared c at))) →
        PromiseOf b t held c at
    by_status (StandsPrepared p) e a =
        let phase : IsPrepared c at ≡ IsPrepared p.coordinator p.at = a.phase in
        let stamp : p.at ≡ at = cc in
        record { promise = p; is = e; stands_by = a; stamp = stamp }
    by_status (StandsDecided d) e a = let phase : IsPrepared c at ≡ IsDecided d.at d.parts = a.phase in cc
    by_status Unrecorded e a = absurd (false≢true a)
    by_status _ e a = absurd a

-- the decision by which a row stands
pub record DecisionOf (b : Before) (t : Id) (held : List Lock) (at : ℕ) (ps : List ℕ) : Type 0 where
  pub decision : Committed
  pub is : recorded b.facts t ≡ StandsDecided decision
  pub stands_by : StandsBy b.facts.installs b.memory.last (row_as t held (IsDecided at ps))
      (IsDecided decision.at decision.parts) decision.txn decision.at decision.reads decision.writes
  pub stamp : decision.at ≡ at

pub decision_of : (b : Before) (t : Id) (held : List Lock) (at : ℕ) (ps : List ℕ) → Sound b → find_row b.memory.rows t ≡ Some (row_as t held (IsDecided at ps))
    → DecisionOf b t held at ps
decision_of b t held at ps sound found =
    by_status (recorded b.facts t) refl (subst (Agrees b.facts.installs b.memory.last (recorded b.facts t)) found (sound.agrees t))
  where
    by_status : (s : Status) → recorded b.facts t ≡ s → Agrees b.facts.installs b.memory.last s (Some (row_as t held (IsDecided at ps))) →
        DecisionOf b t held at ps
    by_status (StandsDecided d) e a =
        let phase : IsDecided at ps ≡ IsDecided d.at d.parts = a.phase in
        let stamp : d.at ≡ at = cc in
        record { decision = d; is = e; stands_by = a; stamp = stamp }
    by_status (StandsPrepared p) e a = let phase : IsDecided at ps ≡ IsPrepared p.coordinator p.at = a.phase in cc
    by_status Unrecorded e a = absurd (false≢true a)
    by_status _ e a = absurd a

-- an outcome that a promise allows is not below it
pub not_below : (n c at s : ℕ) → is_outcome_for n c at (Some s) ≡ true → at ≤ s
not_below n c at s e = grind (arith, nat_tests)
