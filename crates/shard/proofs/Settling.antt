-- A settling that is taken: the decision that it settles is in the log.
use Rattle.std.proofs.Common.{◌≡◌, ◌∙◌, ℕ, Bool, true, false, cond, nat_lt, List, ◌∷◌, Option, Some, Result, Ok, Err, IfOk, OnOk, refl, sym, ap, subst}
use Rattle.std.proofs.Math.Logic.{∥∥₁_elim}
use Rattle.std.proofs.Props.{props}
use Rattle.std.proofs.lemmas.Bool.{false≢true}
use Rattle.units.specs.Ids.{Id}
use Rattle.units.specs.declared.fault.Fault.{Fault}
use Rattle.units.specs.declared.lock.Lock.{Lock}
use Rattle.units.specs.declared.writes.Install.{Install}
use Rattle.disk.specs.Image.{Surface}
use Rattle.truetime.specs.Interval.{Interval}
use Rattle.message.specs.declared.message.Envelope.{Envelope}
use Rattle.message.specs.declared.message.Input.{Input}
use Rattle.record.specs.declared.record.Committed.{Committed}
use Rattle.record.specs.declared.record.Record.{Record}
use Rattle.record.specs.Records.{Status, Unrecorded, StandsPrepared, StandsDecided, HasAborted, HasSettled, HasClosed}
use Rattle.record.specs.Facts.{recorded}
use Rattle.record.specs.declared.record.Prepared.{Prepared}
use Rattle.protocol.specs.Rows.{Row, IsPrepared, IsDecided, Standing}
use Rattle.protocol.specs.Rows.{HasRow, find_row}
use Rattle.protocol.specs.Outputs.{done_to}
use Rattle.protocol.specs.Plan.{Before, Plan, stands}
use Rattle.protocol.specs.Cells.{plan_cell}
use Rattle.protocol.specs.Table.{settle_cell}
use Rattle.protocol.specs.Step.{plan_input}
use Rattle.protocol.specs.Sound.{IsSound, Agrees}
use Rattle.protocol.proofs.InWay.{row_at}
use Rattle.protocol.proofs.RowChanges.{row_as}
use Rattle.memory.specs.Kept.{Kept, start_of}
use Rattle.memory.specs.Plans.{plan_of}
use Rattle.memory.specs.declared.plan.Step.{Step}
use Rattle.shard.specs.Logs.{and_logged, KeepsRecords}
use Rattle.shard.specs.Settled.{HasCommit, IsDurablySettled}
use Rattle.shard.proofs.Agrees.{IsKnown}
use Rattle.shard.proofs.Commitments.{has-commit}

-- what a plan that settles a transaction does
record Settles (b : Before) (t : Id) (p : Plan) : Type 0 where
  at : ℕ
  parts : List ℕ
  held : List Lock
  others : List Envelope
  row : find_row b.memory.rows t ≡ Some (row_as t held (IsDecided at parts))
  told : p.outbox ≡ done_to t (Some at) ∷ others
  logged : p.logged ≡ Some (Record.Outcome t (Some at))

by_test : (passed : Bool) (q p : Plan) (fault : Fault) → cond passed (Ok q) (Err fault) ≡ Ok p → q ≡ p
by_test true q p fault e = cc
by_test false q p fault e = absurd (cc)

settles : (b : Before) (earliest : ℕ) (t : Id) (p : Plan) (s : Standing) → stands b t ≡ s → plan_cell b (settle_cell earliest t s) ≡ Ok p → Settles b t p
settles b earliest t p (HasRow held (IsDecided at parts)) is e =
    let same = by_test (nat_lt at earliest) _ p _ e in
    record {
      at = at;
      parts = parts;
      held = held;
      others = _;
      row = row_at b t held (IsDecided at parts) is;
      told = sym (ap (λ (q : Plan). q.outbox) same);
      logged = sym (ap (λ (q : Plan). q.logged) same);
    }
settles b earliest t p _ is e = absurd (cc)

-- a row that is decided stands by its decision
decided-stands : (installs : List Install) (last : ℕ) (status : Status) (t : Id) (held : List Lock) (at : ℕ) (parts : List ℕ) (o : Option Row)
    → o ≡ Some (row_as t held (IsDecided at parts)) → Agrees installs last status o → (c : Committed) × (status ≡ StandsDecided c) × (c.at ≡ at)
decided-stands installs last status t held at parts o is agrees = by_status status (subst (Agrees installs last status) is agrees)
  where
    by_status : (s : Status) → Agrees installs last s (Some (row_as t held (IsDecided at parts))) → (c : Committed) × (s ≡ StandsDecided c) × (c.at ≡ at)
    by_status (StandsDecided c) stands = (c, refl, same c stands.phase)
      where
        same : (c : Committed) → IsDecided at parts ≡ IsDecided c.at c.parts → c.at ≡ at
        same c e = cc
    by_status (StandsPrepared p) stands = absurd (other p stands.phase)
      where
        other : (p : Prepared) → IsDecided at parts ≡ IsPrepared p.coordinator p.at → ⊥
        other p e = cc
    by_status Unrecorded open_row = absurd (false≢true open_row)
    by_status HasAborted none = absurd none
    by_status (HasSettled s ps) none = absurd none
    by_status (HasClosed c o) none = absurd none

HasCommit-prop : (records : Result (List Record) Fault) (t : Id) (at : ℕ) → IsProp (HasCommit records t at)
HasCommit-prop (Ok records) t at = hlevel props
HasCommit-prop (Err fault) t at = hlevel props

module _ (k : Kept) (now : Interval) (p : Step) (sound : ∥ IsSound k.setup.shard k.facts k.memory ∥₁) where
  -- its decision is in the log, and in one with a record more
  decision_there : (records : Result (List Record) Fault) (r : Record) (t : Id) (done : Settles (start_of k) t (plan_of k.memory.rows p))
      → ∥ IsKnown records k.facts ∥₁ → HasCommit (and_logged records (Some r)) t done.at
  decision_there records r t done known =
      ∥∥₁_elim sound (HasCommit-prop (and_logged records (Some r)) t done.at) (λ s.
      ∥∥₁_elim known (HasCommit-prop (and_logged records (Some r)) t done.at) (λ h.
      let there = decided-stands k.facts.installs k.memory.last (recorded k.facts t) t done.held done.at done.parts
      (find_row k.memory.rows t) done.row (s.agrees t) in
      subst (HasCommit (and_logged records (Some r)) t) there.2 (has-commit t there.0 records k.facts r h there.1)))

  durably : (keeps : Type 0) (disk : Surface) (records : Result (List Record) Fault) (t : Id) (result : Result (List Envelope) Fault)
      → Settles (start_of k) t (plan_of k.memory.rows p) → IfOk result (λ out. out ≡ p.plan.outbox) →
      OnOk result (keeps → KeepsRecords disk (and_logged records p.logged))
      → (keeps → ∥ IsKnown records k.facts ∥₁) → IsDurablySettled keeps disk (Input.Settle t) result
  durably keeps disk records t (Err fault) done out durable known = tt
  durably keeps disk records t (Ok out) done is durable known = (
    done.at,
    done.others,
    is ∙ done.told,
    λ keep image may.
        subst (λ r. HasCommit r t done.at) (sym (durable keep image may ∙ ap (and_logged records) done.logged))
        (decision_there records (Record.Outcome t (Some done.at)) t done (known keep)),
  )

  -- what an input that is taken puts out and leaves on the disk
  pub durably_settled : (keeps : Type 0) (disk : Surface) (records : Result (List Record) Fault) (i : Input) (result : Result (List Envelope) Fault)
      → plan_input k.setup (start_of k) now i ≡ Ok (plan_of k.memory.rows p) → IfOk result (λ out. out ≡ p.plan.outbox)
      → OnOk result (keeps → KeepsRecords disk (and_logged records p.logged)) → (keeps → ∥ IsKnown records k.facts ∥₁)
      → IsDurablySettled keeps disk i result
  unfolding plan_input
  durably_settled keeps disk records (Input.Settle t) result planned out durable known =
      durably keeps disk records t result (settles (start_of k) now.earliest t (plan_of k.memory.rows p) (stands (start_of k) t) refl planned) out durable known
  durably_settled keeps disk records _ result planned out durable known = tt
