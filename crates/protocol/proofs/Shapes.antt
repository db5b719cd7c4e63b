-- The few shapes that the plan of a step can have, with what each of them promises of the state that it is made from.
use Rattle.std.specs.Prelude.{ℕ, ◌≡◌, ◌<◌, ◌≤◌, Bool, true, false, not, cond, ◌||◌, max, List, [], Option, Some, None, nat_eq, nat_lt}
use Rattle.std.proofs.Common.{refl, ap}
use Rattle.std.proofs.lemmas.Bool.{false≢true}
use Rattle.std.specs.List.{AllByRecursion, list_all, list_any}
use Rattle.units.specs.Lists.{head, when}
use Rattle.units.specs.Ids.{Id, same_id, older}
use Rattle.units.specs.Keys.{Bytes}
use Rattle.units.specs.Locks.{holds, exclusive, is_free, with_locks}
use Rattle.units.specs.declared.lock.Lock.{Lock}
use Rattle.units.specs.declared.writes.Write.{Write}
use Rattle.record.specs.Accepted.{rises}
use Rattle.record.specs.Records.{is_below}
use Rattle.record.specs.declared.record.Record.{Record}
use Rattle.message.specs.declared.message.Envelope.{Envelope}
use Rattle.message.specs.declared.message.Input.{Input}
use Rattle.protocol.specs.Rows.{Row, Phase, IsPrepared, IsDecided, Standing, IsUnknown, WasEnded, HasRow, claims, find_row, is_firm, needs_of, held_in, safe}
use Rattle.protocol.specs.Rows.{WasRetired, standing, standing_kept, without_rows}
use Rattle.protocol.specs.Outputs.{promise, decision}
use Rattle.protocol.specs.Plan.{Plan, Planned, Before, stands, replies, serves, ends, drops, puts, retires, in_way, is_crowded}
use Rattle.protocol.specs.Cells.{is_outcome_for, raised, ceiling_for}
use Rattle.protocol.specs.Sound.{is_open, fits, holds_writes}
use Rattle.protocol.proofs.Each.{Each}
use Rattle.protocol.proofs.RowChanges.{row_as}

-- no promise, decision or abort is recorded: the transaction is not known, was ended, or has a row without a record
abbrev pub is_undecided : Standing → Bool
is_undecided IsUnknown = true
is_undecided WasEnded = true
is_undecided (HasRow held phase) = is_open phase
is_undecided _ = false

-- the transaction is not known, or has a row that may be ended
abbrev pub is_loose : Standing → Bool
is_loose IsUnknown = true
is_loose (HasRow held phase) = not (is_firm phase)
is_loose _ = false

-- who is undecided or loose is not retired
undecided_by : (c : Bool) (s : Standing) → is_undecided (cond c WasRetired s) ≡ true → c ≡ false
undecided_by true s e = absurd (false≢true e)
undecided_by false s e = refl

pub not_retired : (b : Before) (t : Id) → is_undecided (stands b t) ≡ true → is_below b.facts.retired t ≡ false
unfolding standing
not_retired b t e = undecided_by (is_below b.facts.retired t) (standing_kept b.facts b.memory t) e

-- and stands as what is not retired does
pub stands_kept : (b : Before) (t : Id) → is_below b.facts.retired t ≡ false → stands b t ≡ standing_kept b.facts b.memory t
unfolding standing
stands_kept b t kept = ap (λ c. cond c WasRetired (standing_kept b.facts b.memory t)) kept

-- another transaction, whose row may be ended
pub record IsLooseOther (rows : List Row) (t u : Id) : Type 0 where
  pub other : same_id u t ≡ false
  pub loose : (r : Row) → find_row rows u ≡ Some r → is_firm r.phase ≡ false

-- those in the way may be ended, and nobody is in the way then
pub record IsCleared (rows : List Row) (t : Id) (ended : List Id) (needs : List Lock) : Type 0 where
  pub gone : AllByRecursion (IsLooseOther rows t) ended
  pub free : is_free (claims (without_rows rows ended)) t needs ≡ true

-- the locks that a transaction holds once some needs are granted
abbrev pub granted_to : Before → Id → List Id → List Lock → List Lock
granted_to b t ended needs = with_locks (held_in (without_rows b.memory.rows ended) t) needs

-- a transaction holds these keys
abbrev pub reads_held : Before → Id → List Bytes → Type 0
reads_held b t rs = list_all (holds (held_in b.memory.rows t)) rs ≡ true

-- each row fits the shard
abbrev pub all_fit : Before → Type 0
all_fit b = list_all (fits b.shard) b.memory.rows ≡ true

-- a row that is put without a record: it reads on, or it collects votes
pub record IsLocked (b : Before) (t : Id) (ended : List Id) (needs : List Lock) (phase : Phase) : Type 0 where
  pub cleared : IsCleared b.memory.rows t ended needs
  pub undecided : is_undecided (stands b t) ≡ true
  pub firmer : (is_firm phase || is_loose (stands b t)) ≡ true
  pub opened : is_open phase ≡ true
  pub quiet : needs_of phase ≡ []
  pub fit : all_fit b → fits b.shard (row_as t (granted_to b t ended needs) phase) ≡ true
  pub room : is_crowded b t ≡ false

-- a row that is put to wait
pub record IsWaiting (b : Before) (t : Id) (needs : List Lock) (phase : Phase) : Type 0 where
  pub loose : is_loose (stands b t) ≡ true
  pub slack : is_firm phase ≡ false
  pub wants : needs_of phase ≡ needs
  pub fit : fits b.shard (row_as t (granted_to b t (in_way b t needs) []) phase) ≡ true
  pub gone : AllByRecursion (IsLooseOther b.memory.rows t) (in_way b t needs)
  pub room : is_crowded b t ≡ false

-- a promise
pub record IsPromised (b : Before) (t : Id) (ended : List Id) (c at : ℕ) (rs : List Bytes) (ws : List Write) : Type 0 where
  pub cleared : IsCleared b.memory.rows t ended (exclusive ws)
  pub undecided : is_undecided (stands b t) ≡ true
  pub above : b.memory.last < at
  pub lower : all_fit b → nat_lt c b.shard ≡ true
  pub read : all_fit b → list_all (holds (granted_to b t ended (exclusive ws))) rs ≡ true
  pub room : is_crowded b t ≡ false

-- a decision
pub record IsResolved (b : Before) (t : Id) (ended : List Id) (needs : List Lock) (at : ℕ) (ps : List ℕ) (rs : List Bytes) (ws : List Write) : Type 0 where
  pub cleared : IsCleared b.memory.rows t ended needs
  pub undecided : is_undecided (stands b t) ≡ true
  pub above : b.memory.last < at
  pub first : all_fit b → when (nat_eq b.shard) (head ps) ≡ true
  pub read : all_fit b → list_all (holds (granted_to b t ended needs)) rs ≡ true
  pub alone : all_fit b → holds_writes (granted_to b t ended needs) ws ≡ true
  pub room : is_crowded b t ≡ false

-- the shape of a plan
pub data Shape (b : Before) (p : Plan) : Type 0 where
  Answers : (out : List Envelope) → p ≡ replies b out → Shape b p
  IsEnd : (t : Id) → (out : List Envelope) → is_undecided (stands b t) ≡ true → p ≡ ends b t out → Shape b p
  IsAbort : (t : Id) → (out : List Envelope) → is_undecided (stands b t) ≡ true → p ≡ drops t (Record.Abort t) b.memory.last out → Shape b p
  IsClose : (t : Id) → (n c at : ℕ) → (held : List Lock) → (outcome : Option ℕ) → (out : List Envelope)
      → find_row b.memory.rows t ≡ Some (row_as t held (IsPrepared c at)) → is_outcome_for n c at outcome ≡ true
      → p ≡ drops t (Record.Outcome t outcome) (raised b.memory.last outcome) out → Shape b p
  IsSettle : (t : Id) → (at : ℕ) → (ps : List ℕ) → (held : List Lock) → (out : List Envelope)
      → find_row b.memory.rows t ≡ Some (row_as t held (IsDecided at ps))
      → p ≡ drops t (Record.Outcome t (Some at)) b.memory.last out → Shape b p
  IsLock : (t : Id) → (ended : List Id) → (needs : List Lock) → (phase : Phase) → (out : List Envelope) → IsLocked b t ended needs phase
      → p ≡ puts b ended t needs phase None b.memory.last out → Shape b p
  IsWait : (t : Id) → (needs : List Lock) → (phase : Phase) → (out : List Envelope) → IsWaiting b t needs phase
      → p ≡ puts b (in_way b t needs) t [] phase None b.memory.last out → Shape b p
  IsPromise : (t : Id) → (ended : List Id) → (c at : ℕ) → (rs : List Bytes) → (ws : List Write) → (out : List Envelope) → IsPromised b t ended c at rs ws
      → p ≡ puts b ended t (exclusive ws) (IsPrepared c at) (Some (promise t c at rs ws)) (max b.memory.last at) out → Shape b p
  IsDecision : (t : Id) → (ended : List Id) → (needs : List Lock) → (at : ℕ) → (ps : List ℕ) → (rs : List Bytes) → (ws : List Write) → (out : List Envelope)
      → IsResolved b t ended needs at ps rs ws
      → p ≡ puts b ended t needs (IsDecided at ps) (Some (decision t at ps rs ws)) (max b.memory.last at) out → Shape b p

-- the shape of the plan of an input: served time alone is advanced, a horizon or a retirement is logged, or it is one of those above
pub data ShapeOf (b : Before) (i : Input) (p : Plan) : Type 0 where
  Acts : Shape b p → ShapeOf b i p
  IsAdvance : (stride at : ℕ) → i ≡ Input.Advance at
      → p ≡ serves (ceiling_for b.facts.floor stride at) (max b.memory.last at)
      → ShapeOf b i p
  IsForget : (at : ℕ) → i ≡ Input.Forget at → at ≤ safe b.memory → b.facts.horizon < at
      → p ≡ serves (Some (Record.Horizon at)) b.memory.last
      → ShapeOf b i p
  IsRetire : (below : Id) → i ≡ Input.Retire below → list_any (λ r. older r.txn below) b.memory.rows ≡ false → rises b.facts.retired below ≡ true
      → p ≡ retires below b.memory.last
      → ShapeOf b i p

-- where a plan is not refused, it has a shape
abbrev pub Shaped : Before → Planned → Type 0
Shaped b = Each (Shape b) (λ fault. Unit {0})

abbrev pub ShapedBy : Before → Input → Planned → Type 0
ShapedBy b i = Each (ShapeOf b i) (λ fault. Unit {0})
