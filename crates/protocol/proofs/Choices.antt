-- The shape of a plan that is chosen by tests, and what the standing of a transaction says of its row.
use Rattle.std.proofs.Common.{refl, ap, ◌∙◌, arith}
use Rattle.std.specs.Prelude.{ℕ, ◌≡◌, Bool, true, false, cond, nat_eq, List, [], ◌∷◌, Option, Some, None, Ok, Err}
use Rattle.std.specs.List.{AllByRecursion, list_any, list_all}
use Rattle.std.proofs.lemmas.Bool.Decides.{nat_tests}
use Rattle.std.proofs.lemmas.Bool.{false≢true, and_parts}
use Rattle.units.specs.Ids.{Id, same_id}
use Rattle.units.specs.ById.{IsById}
use Rattle.units.specs.Keys.{Bytes}
use Rattle.units.specs.Locks.{holds, is_free, with_lock, with_locks}
use Rattle.units.specs.declared.lock.Lock.{Lock}
use Rattle.units.proofs.ByIdLaws.{found_all}
use Rattle.units.proofs.ListLaws.{all_of_each, all_gives}
use Rattle.record.specs.Facts.{recorded}
use Rattle.record.specs.Records.{is_below}
use Rattle.message.specs.declared.message.Envelope.{Envelope}
use Rattle.protocol.specs.Rows.{Row, Phase, IsPrepared, IsDecided, Standing, IsUnknown, HasRow, WasAborted, WasSettled, WasClosed, claims, find_row, standing}
use Rattle.protocol.specs.Rows.{WasRetired, standing_by, standing_kept, held_by, held_in, without_rows}
use Rattle.protocol.specs.Plan.{Planned, Before, stands, replies, roomed, in_way, opens}
use Rattle.protocol.specs.Cells.{still_stand}
use Rattle.protocol.specs.Sound.{fits}
use Rattle.protocol.proofs.Each.{planned, refused}
use Rattle.protocol.proofs.RowChanges.{row_as, find-without_rows_other}
use Rattle.protocol.proofs.AboveVersions.{each_gives}
use Rattle.protocol.proofs.InWay.{row_at, in_way_gone}
use Rattle.protocol.proofs.Shapes.{Shaped, Answers, IsCleared, is_undecided, is_loose, all_fit, IsLooseOther, reads_held, granted_to}

-- the rows of a state ascend by id
abbrev pub Ascends : Before → Type 0
Ascends b = IsById (λ r. r.txn) b.memory.rows

-- ---- choices

pub shaped_roomed : (b : Before) (crowded : Bool) (plan : Planned) → (crowded ≡ false → Shaped b plan) → Shaped b (roomed crowded plan)
shaped_roomed b true (Ok p) h = refused _ tt
shaped_roomed b true (Err fault) h = refused _ tt
shaped_roomed b false plan h = h refl

pub shaped_reply : (b : Before) (out : List Envelope) → Shaped b (Ok (replies b out))
shaped_reply b out = planned _ (Answers out refl)

-- ---- what the standing says

pub undecided_of_loose : (s : Standing) → is_loose s ≡ true → is_undecided s ≡ true
undecided_of_loose (HasRow held (IsPrepared c p)) e = absurd (false≢true e)
undecided_of_loose (HasRow held (IsDecided s ps)) e = absurd (false≢true e)
undecided_of_loose WasAborted e = absurd (false≢true e)
undecided_of_loose (WasSettled s ps) e = absurd (false≢true e)
undecided_of_loose (WasClosed o) e = absurd (false≢true e)
undecided_of_loose WasRetired e = absurd (false≢true e)
undecided_of_loose _ e = refl

pub undecided : (b : Before) (t : Id) → is_loose (stands b t) ≡ true → is_undecided (stands b t) ≡ true
undecided b t e = undecided_of_loose (stands b t) e

-- a row fits, where each does
pub fits_at : (b : Before) (t : Id) (held : List Lock) (phase : Phase) → stands b t ≡ HasRow held phase → all_fit b → fits b.shard (row_as t held phase) ≡ true
fits_at b t held phase e fit =
    found_all (λ r. fits b.shard r ≡ true) (λ (r : Row). r.txn) b.memory.rows t (row_as t held phase) (all_of_each (fits b.shard) b.memory.rows fit)
    (row_at b t held phase e)

-- those in the way gone, and nobody else there
pub cleared : (b : Before) (t : Id) (needs : List Lock) → Ascends b → opens b t needs ≡ true → IsCleared b.memory.rows t (in_way b t needs) needs
cleared b t needs up e = record { gone = in_way_gone b t needs up; free = e }

-- nobody is in the way
pub clear : (b : Before) (t : Id) (needs : List Lock) → is_free (claims b.memory.rows) t needs ≡ true → IsCleared b.memory.rows t [] needs
clear b t needs e = record { gone = tt; free = e }

-- ---- what was read is held

-- who is ended is another
pub others_gone : (rows : List Row) (t : Id) (us : List Id) → AllByRecursion (IsLooseOther rows t) us → AllByRecursion (λ u. same_id u t ≡ false) us
others_gone rows t us gone = all_gives (IsLooseOther rows t) (λ u. same_id u t ≡ false) (λ u l. l.other) us gone

-- what a transaction holds, by its standing
pub held_at : (b : Before) (t : Id) (held : List Lock) (phase : Phase) → stands b t ≡ HasRow held phase → held_in b.memory.rows t ≡ held
held_at b t held phase e = ap held_by (row_at b t held phase e)

pub held_unknown : (b : Before) (t : Id) → stands b t ≡ IsUnknown → held_in b.memory.rows t ≡ []
unfolding standing
held_unknown b t e = by_row (find_row b.memory.rows t) (by_cond (is_below b.facts.retired t) (standing_kept b.facts b.memory t) e)
  where
    by_cond : (c : Bool) (s : Standing) → cond c WasRetired s ≡ IsUnknown → s ≡ IsUnknown
    by_cond true s e = cc
    by_cond false s e = e

    by_row : (o : Option Row) → standing_by o (recorded b.facts t) (list_any (same_id t) b.memory.ended) ≡ IsUnknown → held_by o ≡ []
    by_row None e = refl
    by_row (Some r) e = cc

-- reads that still stand are held
pub reads_still : (b : Before) (t : Id) (epoch : ℕ) (rs : List Bytes) (held : List Lock) → held_in b.memory.rows t ≡ held → still_stand b epoch rs held ≡ true
    → reads_held b t rs
reads_still b t epoch [] held same e = refl
reads_still b t epoch (k ∷ ks) held same e = ap (λ ls. list_all (holds ls) (k ∷ ks)) same
    ∙ (and_parts (nat_eq epoch b.facts.epoch) (list_all (holds held) (k ∷ ks)) e).1

-- a key that is held stays so with one lock more
holds_still : (held : List Lock) (l : Lock) (k : Bytes) → holds held k ≡ true → holds (with_lock held l) k ≡ true
holds_still [] l k e = absurd (false≢true e)
holds_still (h ∷ hs) l k e = grind (arith, nat_tests, holds_still hs l k)

pub holds_later : (ls held : List Lock) (k : Bytes) → holds held k ≡ true → holds (with_locks held ls) k ≡ true
holds_later [] held k e = e
holds_later (l ∷ ls) held k e = holds_later ls (with_lock held l) k (holds_still held l k e)

-- and once those in the way are gone and some needs are granted
pub reads_granted : (b : Before) (t : Id) (ended : List Id) (needs : List Lock) (rs : List Bytes) →
    AllByRecursion (IsLooseOther b.memory.rows t) ended → reads_held b t rs
    → list_all (holds (granted_to b t ended needs)) rs ≡ true
reads_granted b t ended needs rs gone e =
    let same : find_row (without_rows b.memory.rows ended) t ≡ find_row b.memory.rows t =
    find-without_rows_other b.memory.rows ended t (others_gone b.memory.rows t ended gone) in
    each_gives (holds (held_in b.memory.rows t)) (holds (granted_to b t ended needs))
    (λ k h. holds_later needs (held_in (without_rows b.memory.rows ended) t) k (ap (λ o. holds (held_by o) k) same ∙ h)) rs e
