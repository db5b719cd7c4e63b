-- Each transaction's record and its row agree after a step.
use Rattle.std.proofs.Common.{◌≡◌, ℕ, ◌<◌, ◌≤◌, max, Bool, true, false, not, cond, nat_lt, List, [], ◌∷◌, ◌++◌, Option, Some, None, refl, sym, ap, subst, ◌∙◌}
use Rattle.std.proofs.Common.{arith, ◌⊎◌, inl, inr}
use Rattle.std.proofs.Math.Nat.{le-max_left, le-max_right}
use Rattle.std.specs.Prelude.{IsTrue}
use Rattle.std.specs.List.{AllByRecursion, list_all, list_any}
use Rattle.std.proofs.lemmas.Bool.{false≢true, or_parts}
use Rattle.std.proofs.lemmas.List.{append-nil}
use Rattle.units.specs.Ids.{Id, same_id, older}
use Rattle.units.specs.Keys.{Bytes}
use Rattle.units.specs.Locks.{holds, exclusive}
use Rattle.units.specs.Versions.{above_versions}
use Rattle.units.specs.declared.lock.Lock.{Lock}
use Rattle.units.specs.declared.writes.Install.{Install}
use Rattle.units.specs.declared.writes.Write.{Write}
use Rattle.units.proofs.ByIdLaws.{found_all, found_is}
use Rattle.units.proofs.IdLaws.{same_id-is}
use Rattle.record.proofs.Statuses.{first_kept}
use Rattle.record.specs.Records.{Status, Unrecorded, StandsPrepared, StandsDecided, HasAborted, HasSettled, HasClosed}
use Rattle.record.specs.Facts.{TxnStatus, learn, recorded, installs_at, with_status}
use Rattle.record.specs.declared.record.Record.{Record}
use Rattle.message.specs.declared.message.Input.{Input}
use Rattle.protocol.specs.Rows.{Row, Phase, IsPrepared, IsDecided, find_row, is_firm}
use Rattle.protocol.specs.Rows.{with_row, without_row, without_rows}
use Rattle.protocol.specs.Plan.{Plan, Before, carried, after_change, stands, in_way}
use Rattle.protocol.specs.Step.{facts_after}
use Rattle.protocol.specs.Sound.{Agrees, StandsBy, is_open, holds_writes}
use Rattle.protocol.proofs.AboveVersions.{above_all, above_more, rows_apart, writes_apart}
use Rattle.protocol.proofs.Agreement.{Sound, unrecorded}
use Rattle.protocol.proofs.InWay.{holds_exclusive}
use Rattle.protocol.proofs.KeptFacts.{raised_up}
use Rattle.protocol.proofs.Choices.{undecided_of_loose}
use Rattle.protocol.proofs.RowChanges.{row_as, find-with_row_same, find-with_row_other, find-without_row_same, find-without_row_other, find-without_rows}
use Rattle.protocol.proofs.StatusChanges.{Closing, closing, settling, installs_by, status_in, status_same, status_other}
use Rattle.protocol.proofs.Shapes.{Shape, Answers, IsEnd, IsAbort, IsClose, IsSettle, IsLock, IsWait, IsPromise, IsDecision, ShapeOf, Acts, IsAdvance, IsForget, IsRetire}
use Rattle.protocol.proofs.Shapes.{IsLooseOther, is_undecided, granted_to}

-- each transaction's record and its row agree
abbrev pub AllAgree : List Install → ℕ → List TxnStatus → List Row → Type 0
AllAgree installs last es rows = (t : Id) → Agrees installs last (status_in es t) (find_row rows t)

unfoldable pub KeepsAgreement : Before → Plan → Type 0
KeepsAgreement b p =
    AllAgree (facts_after b.facts p.logged).installs (carried p b.memory).last (facts_after b.facts p.logged).entries (carried p b.memory).rows

-- ---- one transaction

-- what is above the versions stays so, where a row holds it alone
abbrev Stays : List Install → List Install → Option Row → Type 0
Stays old new o =
    (r : Row) (at : ℕ) (ws : List Write) → o ≡ Some r → IsTrue (holds_writes r.held ws) → IsTrue (above_versions old at ws) → IsTrue (above_versions new at ws)

stands_later : (old new : List Install) (last later : ℕ) (r : Row) (phase : Phase) (t : Id) (at : ℕ) (rs : List Bytes) (ws : List Write) →
    last ≤ later → Stays old new (Some r)
    → StandsBy old last r phase t at rs ws → StandsBy new later r phase t at rs ws
stands_later old new last later r phase t at rs ws h stays a =
    let low : at ≤ last = a.assigned in
    record {
      phase = a.phase;
      own = a.own;
      read = a.read;
      above_zero = a.above_zero;
      assigned = omega (arith, low, h);
      held = a.held;
      above =
          stays r at ws refl a.held a.above;
    }

-- a record and its row agree later
agrees_later : (old new : List Install) (last later : ℕ) (s : Status) (o : Option Row) → last ≤ later → Stays old new o → Agrees old last s o →
    Agrees new later s o
agrees_later old new last later (StandsPrepared p) (Some r) h stays a = stands_later old new last later r _ p.txn p.at p.reads p.writes h stays a
agrees_later old new last later (StandsPrepared p) None h stays a = a
agrees_later old new last later (StandsDecided c) (Some r) h stays a = stands_later old new last later r _ c.txn c.at c.reads c.writes h stays a
agrees_later old new last later (StandsDecided c) None h stays a = a
agrees_later old new last later Unrecorded (Some r) h stays a = a
agrees_later old new last later Unrecorded None h stays a = tt
agrees_later old new last later HasAborted (Some r) h stays a = a
agrees_later old new last later HasAborted None h stays a = tt
agrees_later old new last later (HasSettled at ps) (Some r) h stays a = a
agrees_later old new last later (HasSettled at ps) None h stays a = tt
agrees_later old new last later (HasClosed c o) (Some r) h stays a = a
agrees_later old new last later (HasClosed c o) None h stays a = tt

-- and where a row goes that may be ended
agrees_gone : (old new : List Install) (last later : ℕ) (s : Status) (r : Row) → is_firm r.phase ≡ false → Agrees old last s (Some r) → Agrees new later s None
agrees_gone old new last later (StandsPrepared p) r loose a = absurd (false≢true (sym loose ∙ ap is_firm a.phase))
agrees_gone old new last later (StandsDecided c) r loose a = absurd (false≢true (sym loose ∙ ap is_firm a.phase))
agrees_gone old new last later _ r loose a = tt

-- what is left of a transaction once those in the way are gone
left_agrees : (b : Before) (t v : Id) (ended : List Id) (new : List Install) (later : ℕ) → Sound b → AllByRecursion (IsLooseOther b.memory.rows t) ended
    → b.memory.last ≤ later → Stays b.facts.installs new (find_row b.memory.rows v) → Agrees new later (recorded b.facts v)
    (find_row (without_rows b.memory.rows ended) v)
left_agrees b t v ended new later sound gone h stays =
    by_way (find-without_rows (IsLooseOther b.memory.rows t) b.memory.rows ended v gone)
  where
    by_row : (o : Option Row) → find_row b.memory.rows v ≡ o → IsLooseOther b.memory.rows t v → Agrees b.facts.installs b.memory.last (recorded b.facts v) o
        → Stays b.facts.installs new o → Agrees new later (recorded b.facts v) None
    by_row (Some r) found l a stays = agrees_gone b.facts.installs new b.memory.last later (recorded b.facts v) r (l.loose r found) a
    by_row None found l a stays = agrees_later b.facts.installs new b.memory.last later (recorded b.facts v) None h stays a

    by_way : (find_row (without_rows b.memory.rows ended) v ≡ find_row b.memory.rows v) ⊎
        ((find_row (without_rows b.memory.rows ended) v ≡ None) × IsLooseOther b.memory.rows t v)
        → Agrees new later (recorded b.facts v) (find_row (without_rows b.memory.rows ended) v)
    by_way (inl same) =
        subst (Agrees new later (recorded b.facts v)) (sym same)
        (agrees_later b.facts.installs new b.memory.last later (recorded b.facts v) (find_row b.memory.rows v) h stays (sound.agrees v))
    by_way (inr p) =
        subst (Agrees new later (recorded b.facts v)) (sym p.0) (by_row (find_row b.memory.rows v) refl p.1 (sound.agrees v) stays)

-- ---- all transactions

-- a fact of one id and of all others
by_own : (P : Id → Type 0) (t : Id) → P t → ((v : Id) → same_id t v ≡ false → P v) → (v : Id) → P v
by_own P t own others v = by_test (same_id t v) refl
  where
    by_test : (b : Bool) → same_id t v ≡ b → P v
    by_test true e = subst P (same_id-is t v e) own
    by_test false e = others v e

-- the statuses of all but one are as they were
abbrev OthersKept : Before → Id → List TxnStatus → Type 0
OthersKept b t es = (v : Id) → same_id t v ≡ false → status_in es v ≡ recorded b.facts v

-- a row is put
put_agrees : (b : Before) (t : Id) (ended : List Id) (held : List Lock) (phase : Phase) (later : ℕ) (es : List TxnStatus) → Sound b
    → AllByRecursion (IsLooseOther b.memory.rows t) ended → b.memory.last ≤ later → OthersKept b t es
    → Agrees b.facts.installs later (status_in es t) (Some (row_as t held phase))
    → AllAgree b.facts.installs later es (with_row (without_rows b.memory.rows ended) (row_as t held phase))
put_agrees b t ended held phase later es sound gone h others own =
    let left : List Row = without_rows b.memory.rows ended in
    let r : Row = row_as t held phase in
    by_own (λ v. Agrees b.facts.installs later (status_in es v) (find_row (with_row left r) v)) t
    (subst (Agrees b.facts.installs later (status_in es t)) (sym (find-with_row_same left r)) own)
    (λ v differ.
    subst (Agrees b.facts.installs later (status_in es v)) (sym (find-with_row_other left r v differ))
    (subst (λ s. Agrees b.facts.installs later s (find_row left v)) (sym (others v differ))
    (left_agrees b t v ended b.facts.installs later sound gone h (λ r at ws e k a. a))))

-- a row goes
drop_agrees : (b : Before) (t : Id) (new : List Install) (later : ℕ) (es : List TxnStatus) → Sound b → b.memory.last ≤ later → OthersKept b t es
    → ((v : Id) → same_id t v ≡ false → Stays b.facts.installs new (find_row b.memory.rows v)) → Agrees new later (status_in es t) None
    → AllAgree new later es (without_row b.memory.rows t)
drop_agrees b t new later es sound h others stays own =
    by_own (λ v. Agrees new later (status_in es v) (find_row (without_row b.memory.rows t) v)) t
    (subst (Agrees new later (status_in es t)) (sym (find-without_row_same b.memory.rows t)) own)
    (λ v differ.
    subst (Agrees new later (status_in es v)) (sym (find-without_row_other b.memory.rows v t differ))
    (subst (λ s. Agrees new later s (find_row b.memory.rows v)) (sym (others v differ))
    (left_agrees b t v [] new later sound tt h (stays v differ))))

same_still : (b : Before) (t : Id) → OthersKept b t b.facts.entries
same_still b t v differ = refl

with_one : (b : Before) (t : Id) (s : Status) → OthersKept b t (with_status b.facts.entries t s)
with_one b t s v differ = status_other b.facts.entries t v s differ

-- ---- by shape

-- the outcome of a row leaves the others above the versions
stays_apart : (b : Before) (t : Id) (outcome : Option ℕ) → Sound b → Closing b t outcome
    → (v : Id) → same_id t v ≡ false → Stays b.facts.installs (b.facts.installs ++ installs_at (recorded b.facts t) outcome) (find_row b.memory.rows v)
stays_apart b t outcome sound made v differ r at ws e holds a =
    subst (λ more. IsTrue (above_versions (b.facts.installs ++ more) at ws)) (sym made.installs) (by_outcome outcome)
  where
    by_outcome : (o : Option ℕ) → IsTrue (above_versions (b.facts.installs ++ installs_by made.writes o) at ws)
    by_outcome None = subst (λ is. IsTrue (above_versions is at ws)) (sym (append-nil b.facts.installs)) a
    by_outcome (Some s) =
        above_more b.facts.installs at s ws made.writes
        (writes_apart r.held made.row.held ws made.writes (rows_apart b.memory.rows v t r made.row sound.table e made.found differ) holds made.held) a

close_agrees : (b : Before) (t : Id) (outcome : Option ℕ) (later : ℕ) → Sound b → Closing b t outcome → b.memory.last ≤ later
    → AllAgree (learn b.facts (Record.Outcome t outcome)).installs later (learn b.facts (Record.Outcome t outcome)).entries (without_row b.memory.rows t)
unfolding learn
close_agrees b t outcome later sound made h =
    let new : List Install = b.facts.installs ++ installs_at (recorded b.facts t) outcome in
    drop_agrees b t new later _ sound h (with_one b t _) (stays_apart b t outcome sound made)
    (subst (λ s. Agrees new later s None) (sym (status_same b.facts.entries t _)) (made.leaves new later))

open_of_slack : (phase : Phase) → is_firm phase ≡ false → is_open phase ≡ true
open_of_slack (IsPrepared c p) e = absurd (false≢true (sym e))
open_of_slack (IsDecided s ps) e = absurd (false≢true (sym e))
open_of_slack _ e = refl

-- a row without a record is put
open_agrees : (b : Before) (t : Id) (ended : List Id) (held : List Lock) (phase : Phase) → Sound b → AllByRecursion (IsLooseOther b.memory.rows t) ended
    → is_undecided (stands b t) ≡ true → is_open phase ≡ true
    → AllAgree b.facts.installs b.memory.last b.facts.entries (with_row (without_rows b.memory.rows ended) (row_as t held phase))
open_agrees b t ended held phase sound gone fresh opened =
    put_agrees b t ended held phase b.memory.last b.facts.entries sound gone (omega arith) (same_still b t)
    (subst (λ s. Agrees b.facts.installs b.memory.last s (Some (row_as t held phase))) (sym (unrecorded b t sound fresh)) opened)

-- a row that is put with its record stands by it
stands_now : (b : Before) (t : Id) (held : List Lock) (phase : Phase) (at : ℕ) (rs : List Bytes) (ws : List Write) → Sound b → b.memory.last < at
    → list_all (holds held) rs ≡ true → holds_writes held ws ≡ true
    → StandsBy b.facts.installs (max b.memory.last at) (row_as t held phase) phase t at rs ws
stands_now b t held phase at rs ws sound above read alone = record {
  phase = refl;
  own = refl;
  read = read;
  above_zero = omega (arith, above);
  assigned = le-max_right b.memory.last at;
  held = alone;
  above = above_all b.facts.installs b.memory.last at ws above sound.installed;
}

-- a row is put with its record
recorded_agrees : (b : Before) (t : Id) (ended : List Id) (held : List Lock) (phase : Phase) (at : ℕ) (ws : List Write) (s : Status) → Sound b
    → AllByRecursion (IsLooseOther b.memory.rows t) ended → Agrees b.facts.installs (max b.memory.last at) s (Some (row_as t held phase))
    → AllAgree b.facts.installs (max b.memory.last at) (with_status b.facts.entries t s) (with_row (without_rows b.memory.rows ended) (row_as t held phase))
recorded_agrees b t ended held phase at ws s sound gone own =
    put_agrees b t ended held phase (max b.memory.last at) (with_status b.facts.entries t s) sound gone (le-max_left b.memory.last at) (with_one b t s)
    (subst (λ r. Agrees b.facts.installs (max b.memory.last at) r (Some (row_as t held phase))) (sym (status_same b.facts.entries t s)) own)

agreeing : (b : Before) (p : Plan) → Sound b → Shape b p → KeepsAgreement b p
unfolding KeepsAgreement carried after_change learn
agreeing b p sound (Answers out e) = subst (KeepsAgreement b) (sym e) sound.agrees
agreeing b p sound (IsEnd t out fresh e) =
    subst (KeepsAgreement b) (sym e)
    (drop_agrees b t b.facts.installs b.memory.last b.facts.entries sound (omega arith) (same_still b t) (λ v differ r at ws f k a. a)
    (subst (λ s. Agrees b.facts.installs b.memory.last s None) (sym (unrecorded b t sound fresh)) tt))
agreeing b p sound (IsAbort t out fresh e) =
    subst (KeepsAgreement b) (sym e)
    (drop_agrees b t b.facts.installs b.memory.last _ sound (omega arith) (with_one b t HasAborted) (λ v differ r at ws f k a. a)
    (subst (λ s. Agrees b.facts.installs b.memory.last s None) (sym (status_same b.facts.entries t HasAborted)) tt))
agreeing b p sound (IsClose t n c at held outcome out found k e) =
    subst (KeepsAgreement b) (sym e) (close_agrees b t outcome _ sound (closing b t c at held outcome sound found) (raised_up b.memory.last outcome))
agreeing b p sound (IsSettle t at ps held out found e) =
    subst (KeepsAgreement b) (sym e) (close_agrees b t (Some at) b.memory.last sound (settling b t at ps held sound found) (omega arith))
agreeing b p sound (IsLock t ended needs phase out l e) =
    subst (KeepsAgreement b) (sym e) (open_agrees b t ended _ phase sound l.cleared.gone l.undecided l.opened)
agreeing b p sound (IsWait t needs phase out w e) =
    subst (KeepsAgreement b) (sym e)
    (open_agrees b t (in_way b t needs) _ phase sound w.gone (undecided_of_loose (stands b t) w.loose) (open_of_slack phase w.slack))
agreeing b p sound (IsPromise t ended c at rs ws out l e) =
    subst (KeepsAgreement b) (sym e)
    (recorded_agrees b t ended (granted_to b t ended (exclusive ws)) (IsPrepared c at) at ws
    (StandsPrepared (record { txn = t; coordinator = c; at = at; reads = rs; writes = ws }))
    sound l.cleared.gone (stands_now b t _ (IsPrepared c at) at rs ws sound l.above (l.read sound.fit) (holds_exclusive ws _)))
agreeing b p sound (IsDecision t ended needs at ps rs ws out l e) =
    subst (KeepsAgreement b) (sym e)
    (recorded_agrees b t ended (granted_to b t ended needs) (IsDecided at ps) at ws (StandsDecided
    (record { txn = t; at = at; parts = ps; reads = rs; writes = ws }))
    sound l.cleared.gone (stands_now b t _ (IsDecided at ps) at rs ws sound l.above (l.read sound.fit) (l.alone sound.fit)))

-- the facts that agreement speaks of are those before a ceiling
later_agrees : (b : Before) (later : ℕ) (high : Bool) (at : ℕ) → Sound b → b.memory.last ≤ later
    → AllAgree (facts_after b.facts (cond high (Some (Record.Ceiling at)) None)).installs later
    (facts_after b.facts (cond high (Some (Record.Ceiling at)) None)).entries b.memory.rows
unfolding learn
later_agrees b later true at sound h v = left_agrees b v v [] b.facts.installs later sound tt h (λ r at ws e k a. a)
later_agrees b later false at sound h v = left_agrees b v v [] b.facts.installs later sound tt h (λ r at ws e k a. a)

-- and before a horizon
forgotten_agrees : (b : Before) (at : ℕ) → Sound b
    → AllAgree (learn b.facts (Record.Horizon at)).installs b.memory.last (learn b.facts (Record.Horizon at)).entries b.memory.rows
unfolding learn
forgotten_agrees b at sound v = left_agrees b v v [] b.facts.installs b.memory.last sound tt (omega arith) (λ r at ws e k a. a)

-- none of some pass where any does not
pub each_false : {A : Type 0} (test : A → Bool) (xs : List A) → list_any test xs ≡ false → AllByRecursion (λ x. test x ≡ false) xs
each_false test [] e = tt
each_false test (x ∷ xs) e = let p = or_parts (test x) (list_any test xs) e in (p.0, each_false test xs p.1)

-- what goes with a retirement has no row
retired_agrees : (b : Before) (below : Id) → Sound b → list_any (λ r. older r.txn below) b.memory.rows ≡ false
    → AllAgree (learn b.facts (Record.Retired below)).installs b.memory.last (learn b.facts (Record.Retired below)).entries b.memory.rows
unfolding learn
retired_agrees b below sound none v =
    subst (λ s. Agrees b.facts.installs b.memory.last s (find_row b.memory.rows v)) (sym (first_kept (λ t. not (older t below)) v b.facts.entries))
    (by_test (older v below) refl)
  where
    gone : (o : Option Row) → find_row b.memory.rows v ≡ o → older v below ≡ true → Agrees b.facts.installs b.memory.last Unrecorded o
    gone None found below_it = tt
    gone (Some r) found below_it =
        let own : r.txn ≡ v = same_id-is r.txn v (found_is (λ (q : Row). q.txn) b.memory.rows v r found) in
        let apart : older r.txn below ≡ false =
        found_all (λ (q : Row). older q.txn below ≡ false) (λ (q : Row). q.txn) b.memory.rows v r (each_false (λ (q : Row). older q.txn below) b.memory.rows none) found in
        absurd (false≢true (sym apart ∙ ap (λ (t : Id). older t below) own ∙ below_it))

    by_test : (c : Bool) → older v below ≡ c → Agrees b.facts.installs b.memory.last (cond (not c) (status_in b.facts.entries v) Unrecorded) (find_row b.memory.rows v)
    by_test true e = gone (find_row b.memory.rows v) refl e
    by_test false e = sound.agrees v

pub agreeing_of : (b : Before) (i : Input) (p : Plan) → Sound b → ShapeOf b i p → KeepsAgreement b p
unfolding KeepsAgreement carried after_change
agreeing_of b i p sound (Acts shape) = agreeing b p sound shape
agreeing_of b i p sound (IsAdvance stride at k e) =
    subst (KeepsAgreement b) (sym e) (later_agrees b (max b.memory.last at) (nat_lt b.facts.floor at) _ sound (le-max_left b.memory.last at))
agreeing_of b i p sound (IsForget at k low high e) = subst (KeepsAgreement b) (sym e) (forgotten_agrees b at sound)
agreeing_of b i p sound (IsRetire below k none up e) = subst (KeepsAgreement b) (sym e) (retired_agrees b below sound none)
