-- An opening keeps a shard sound: the rows that the log holds are a lawful table, and agree with the records.
use Rattle.std.proofs.Common.{◌≡◌, ℕ, ◌+◌, ◌<◌, ◌≤◌, true, false, List, [], ◌∷◌, Option, Some, None, refl, sym, ap, subst, ◌∙◌, arith}
use Rattle.std.specs.List.{AllByRecursion, list_all}
use Rattle.std.specs.Prelude.{IsTrue}
use Rattle.std.proofs.lemmas.Bool.{false≢true}
use Rattle.units.specs.Lists.{follow, gather}
use Rattle.units.specs.Ids.{Id}
use Rattle.units.specs.ById.{IsById, find_member}
use Rattle.units.specs.Keys.{Bytes}
use Rattle.units.specs.Locks.{Claim, clash, holds, locks_of, exclusive, shared, with_locks}
use Rattle.units.specs.LockLaws.{IsLawfulTable}
use Rattle.units.specs.declared.lock.Lock.{Lock}
use Rattle.units.specs.declared.writes.Install.{Install}
use Rattle.units.specs.declared.writes.Write.{Write}
use Rattle.units.proofs.IdLaws.{same_id-is}
use Rattle.units.proofs.ListLaws.{all_gives, each_of_all}
use Rattle.units.proofs.ByIdLaws.{found_all, found_is}
use Rattle.locks.proofs.Clashes.{ascends-with_locks, clash_comm, clash_nil}
use Rattle.locks.proofs.Pairs.{HoldsByKey, LockPair, WaitPair, from_pairs}
use Rattle.locks.proofs.TableLaws.{all_of_any}
use Rattle.record.specs.Records.{Status, Unrecorded, StandsPrepared, StandsDecided, HasAborted, HasSettled, HasClosed}
use Rattle.record.specs.Facts.{TxnStatus, Facts, learn, or_unrecorded, recorded}
use Rattle.record.specs.declared.record.Record.{Record}
use Rattle.protocol.specs.Rows.{Memory, Row, Phase, IsPrepared, IsDecided, claim_of, claims, find_row, held_stamp, rebuilt, safe, standing_row}
use Rattle.protocol.specs.Sound.{Agrees, IsSound, OpeningKeepsSound, StandsBy, fits, holds_writes}
use Rattle.protocol.proofs.AboveVersions.{rows_apart}
use Rattle.protocol.proofs.InWay.{holds_exclusive}
use Rattle.protocol.proofs.KeptFacts.{covered_later}
use Rattle.protocol.proofs.OpenedRows.{IsOwn, all-gather, by_id-gather, find-gather}
use Rattle.protocol.proofs.RecordLocks.{holds_reads, record_free}
use Rattle.protocol.proofs.RowChanges.{find_members}
use Rattle.protocol.proofs.RowTable.{claims-by_id}
use Rattle.protocol.proofs.Serves.{AllOver, Over, over_less, safe_last, safe_over, under_safe}

-- an entry agrees with the row that its id had before the crash
abbrev Known : Facts → Memory → TxnStatus → Type 0
Known facts memory e = Agrees facts.installs memory.last e.status (find_row memory.rows e.txn)

all_known : (shard : ℕ) (facts : Facts) (memory : Memory) → IsSound shard facts memory → AllByRecursion (Known facts memory) facts.entries
all_known shard facts memory sound =
    all_gives (λ (e : TxnStatus). find_member (λ e. e.txn) facts.entries e.txn ≡ Some e) (Known facts memory)
    (λ e found. subst (λ s. Agrees facts.installs memory.last s (find_row memory.rows e.txn)) (ap or_unrecorded found) (sound.agrees e.txn))
    facts.entries (find_members (λ (e : TxnStatus). e.txn) facts.entries sound.entries)

-- ---- a row from its entry

-- a row that the log holds, beside the one that its id had: the log's locks conflict with no more
pub record Backed (memory : Memory) (r : Row) : Type 0 where
  pub row : Row
  pub found : find_row memory.rows r.txn ≡ Some row
  pub less : (ms : List Lock) → clash row.held ms ≡ false → clash r.held ms ≡ false
  pub keys : HoldsByKey (claim_of r)
  pub still : (claim_of r).needs ≡ []

keys_of_record : (rs : List Bytes) (ws : List Write) (c : Claim) → c.held ≡ locks_of rs ws → HoldsByKey c
keys_of_record rs ws c same =
    subst (λ ls. HoldsByKey (record c { held = ls })) (sym same) (ascends-with_locks (with_locks [] (shared rs)) (exclusive ws)
    (ascends-with_locks [] (shared rs) refl))

-- what an entry's agreement says of the row that it leaves
record Left (facts : Facts) (memory : Memory) (e : TxnStatus) (r : Row) : Type 0 where
  own : r.txn ≡ e.txn
  backed : Backed memory r
  agrees : (last : ℕ) → memory.last ≤ last → Agrees facts.installs last e.status (Some r)
  fit : (shard : ℕ) → fits shard r ≡ true
  over : Over (safe memory) (held_stamp r.phase)

backed_by : (memory : Memory) (last : ℕ) (installs : List Install) (t : Id) (q : Row) (phase : Phase) (u : Id) (at : ℕ) (rs : List Bytes)
    (ws : List Write) (r : Row)
    → find_row memory.rows t ≡ Some q → StandsBy installs last q phase u at rs ws → r.txn ≡ t → r.held ≡ locks_of rs ws → (claim_of r).needs ≡ [] →
    Backed memory r
backed_by memory last installs t q phase u at rs ws r found a own locks still = record {
  row = q;
  found = ap (find_row memory.rows) own ∙ found;
  less = λ ms free. ap (λ ls. clash ls ms) locks ∙ record_free rs ws q.held ms a.read a.held free;
  keys = keys_of_record rs ws (claim_of r) locks;
  still = still;
}

stands_again : (installs : List Install) (last later : ℕ) (q r : Row) (phase : Phase) (u : Id) (at : ℕ) (rs : List Bytes) (ws : List Write) → last ≤ later
    → StandsBy installs last q phase u at rs ws → r.phase ≡ phase → r.txn ≡ u → r.held ≡ locks_of rs ws → StandsBy installs later r phase u at rs ws
stands_again installs last later q r phase u at rs ws h a phased own locks =
    let low : at ≤ last = a.assigned in
    record {
      phase = phased;
      own = own;
      above_zero = a.above_zero;
      assigned = omega (arith, low, h);
      read = ap (λ ls. list_all (holds ls) rs) locks ∙ holds_reads rs ws;
      held = ap (λ ls. holds_writes ls ws) locks ∙ holds_exclusive ws (with_locks [] (shared rs));
      above = a.above;
    }

-- what is served is below the timestamp of each row
pub row_over : (memory : Memory) (t : Id) (q : Row) (phase : Phase) → find_row memory.rows t ≡ Some q → q.phase ≡ phase →
    Over (safe memory) (held_stamp phase)
row_over memory t q phase found phased =
    subst (λ p. Over (safe memory) (held_stamp p)) phased
    (found_all (λ (r : Row). Over (safe memory) (held_stamp r.phase)) (λ (r : Row). r.txn) memory.rows t q (safe_over memory) found)

left_by : (facts : Facts) (memory : Memory) (t : Id) (s : Status) (o : Option Row) (r : Row) → find_row memory.rows t ≡ o →
    Agrees facts.installs memory.last s o
    → standing_row (record { txn = t; status = s }) ≡ Some r → Left facts memory (record { txn = t; status = s }) r
left_by facts memory t (StandsPrepared p) (Some q) r found a e =
    let is : record { txn = p.txn; held = locks_of p.reads p.writes; phase = IsPrepared p.coordinator p.at } ≡ r = cc in
    let mine : p.txn ≡ t = sym a.own ∙ same_id-is q.txn t (found_is (λ (z : Row). z.txn) memory.rows t q found) in
    subst (Left facts memory (record { txn = t; status = StandsPrepared p })) is (record {
      own = mine;
      backed = backed_by memory memory.last facts.installs t q _ p.txn p.at p.reads p.writes _ found a mine refl refl;
      agrees = λ last h. stands_again facts.installs memory.last last q _ _ p.txn p.at p.reads p.writes h a refl refl refl;
      fit = λ shard. refl;
      over = row_over memory t q _ found a.phase;
    })
left_by facts memory t (StandsDecided c) (Some q) r found a e =
    let is : record { txn = c.txn; held = locks_of c.reads c.writes; phase = IsDecided c.at c.parts } ≡ r = cc in
    let mine : c.txn ≡ t = sym a.own ∙ same_id-is q.txn t (found_is (λ (z : Row). z.txn) memory.rows t q found) in
    subst (Left facts memory (record { txn = t; status = StandsDecided c })) is (record {
      own = mine;
      backed = backed_by memory memory.last facts.installs t q _ c.txn c.at c.reads c.writes _ found a mine refl refl;
      agrees = λ last h. stands_again facts.installs memory.last last q _ _ c.txn c.at c.reads c.writes h a refl refl refl;
      fit = λ shard. refl;
      over = row_over memory t q _ found a.phase;
    })
left_by facts memory t (StandsPrepared p) None r found a e = absurd a
left_by facts memory t (StandsDecided c) None r found a e = absurd a
left_by facts memory t _ o r found a e = cc

left_of : (facts : Facts) (memory : Memory) (e : TxnStatus) (r : Row) → standing_row e ≡ Some r → Known facts memory e → Left facts memory e r
left_of facts memory e r k a = left_by facts memory e.txn e.status (find_row memory.rows e.txn) r refl a k

-- ---- the lock table

all_claims : (P : Claim → Type 0) (Q : Row → Type 0) → ((r : Row) → Q r → P (claim_of r)) → (rows : List Row) → AllByRecursion Q rows →
    AllByRecursion P (claims rows)
all_claims P Q h [] all = tt
all_claims P Q h (r ∷ rs) all = (h r all.0, all_claims P Q h rs all.1)

pair_of : (memory : Memory) (a b : Row) → IsLawfulTable (claims memory.rows) → Backed memory a → Backed memory b → LockPair (claim_of a) (claim_of b)
pair_of memory a b lawful x y differ =
    let free : clash x.row.held y.row.held ≡ false = rows_apart memory.rows a.txn b.txn x.row y.row lawful x.found y.found differ in
    clash_comm a.held b.held ∙ y.less a.held (clash_comm y.row.held a.held ∙ x.less y.row.held free)

lawful_again : (memory : Memory) (rows : List Row) → IsLawfulTable (claims memory.rows) → IsById (λ r. r.txn) rows → AllByRecursion (Backed memory) rows
    → IsLawfulTable (claims rows)
lawful_again memory rows lawful up backed = from_pairs (claims rows) (record {
  order = claims-by_id rows up;
  keys = all_claims HoldsByKey (Backed memory) (λ r x. x.keys) rows backed;
  locks = all_claims (λ a. AllByRecursion (LockPair a) (claims rows)) (Backed memory)
      (λ a x. all_claims (LockPair (claim_of a)) (Backed memory) (λ b y. pair_of memory a b lawful x y) rows backed) rows backed;
  waits = all_claims (λ w. AllByRecursion (WaitPair w) (claims rows)) (Backed memory)
      (λ w x. all_of_any (WaitPair (claim_of w)) (λ c d k. absurd (false≢true (sym (ap (clash c.held) x.still ∙ clash_nil c.held) ∙ k)))
      (claims rows)) rows backed;
})

-- ---- an opening

agrees_again : (facts : Facts) (memory : Memory) (last : ℕ) (t : Id) (o : Option TxnStatus) → memory.last ≤ last → find_member (λ e. e.txn) facts.entries t ≡ o
    → AllByRecursion (Known facts memory) facts.entries → Agrees facts.installs last (or_unrecorded o) (follow o standing_row)
agrees_again facts memory last t None h found known = tt
agrees_again facts memory last t (Some e) h found known =
    by_status e.status refl (standing_row e) refl
  where
    mine : Known facts memory e
    mine = found_all (Known facts memory) (λ (f : TxnStatus). f.txn) facts.entries t e known found

    by_status : (s : Status) → e.status ≡ s → (q : Option Row) → standing_row e ≡ q → Agrees facts.installs last e.status q
    by_status s k (Some r) there = (left_of facts memory e r there mine).agrees last h
    by_status (StandsPrepared p) k None there = cc
    by_status (StandsDecided c) k None there = cc
    by_status Unrecorded k None there = subst (λ s. Agrees facts.installs last s None) (sym k) tt
    by_status HasAborted k None there = subst (λ s. Agrees facts.installs last s None) (sym k) tt
    by_status (HasSettled at ps) k None there = subst (λ s. Agrees facts.installs last s None) (sym k) tt
    by_status (HasClosed c o) k None there = subst (λ s. Agrees facts.installs last s None) (sym k) tt

next_opened : (epoch : ℕ) → 0 < epoch + 1
next_opened epoch = omega arith

-- what an opening finds of a sound shard
module _ (shard : ℕ) (facts : Facts) (memory : Memory) (sound : IsSound shard facts memory) where
  known : AllByRecursion (Known facts memory) facts.entries
  known = all_known shard facts memory sound

  -- each entry leaves a row of its own id
  pub entries_own : AllByRecursion IsOwn facts.entries
  entries_own = all_gives (Known facts memory) IsOwn (λ e a r k. (left_of facts memory e r k a).own) facts.entries known

  -- the rows ascend by id
  pub opened_up : IsById (λ r. r.txn) (gather standing_row facts.entries)
  opened_up = by_id-gather facts.entries sound.entries entries_own

  -- each was there before
  pub opened_backed : AllByRecursion (Backed memory) (gather standing_row facts.entries)
  opened_backed = all-gather (Known facts memory) (Backed memory) (λ e r k a. (left_of facts memory e r k a).backed) facts.entries known

  -- and they are a lawful table
  pub opened_lawful : IsLawfulTable (claims (gather standing_row facts.entries))
  opened_lawful = lawful_again memory (gather standing_row facts.entries) sound.table opened_up opened_backed

  -- what was served is below the timestamp of each
  pub opened_over : (n : ℕ) → n ≤ safe memory → AllOver n (gather standing_row facts.entries)
  opened_over n low = all-gather (Known facts memory) (λ r. Over n (held_stamp r.phase))
      (λ e r k a. over_less n (safe memory) (held_stamp r.phase) low (left_of facts memory e r k a).over) facts.entries known

  opened_fit : IsTrue (list_all (fits shard) (gather standing_row facts.entries))
  opened_fit =
      each_of_all (fits shard) (gather standing_row facts.entries)
      (all-gather (Known facts memory) (λ r. fits shard r ≡ true) (λ e r k a. (left_of facts memory e r k a).fit shard) facts.entries known)

  opened_agrees : (t : Id) → Agrees facts.installs facts.floor (recorded facts t) (find_row (gather standing_row facts.entries) t)
  opened_agrees t =
      subst (Agrees facts.installs facts.floor (recorded facts t)) (sym (find-gather facts.entries t sound.entries entries_own))
      (agrees_again facts memory facts.floor t (find_member (λ (e : TxnStatus). e.txn) facts.entries t) sound.under refl known)

pub opening_keeps_sound : OpeningKeepsSound
unfolding learn rebuilt
opening_keeps_sound shard facts memory sound = record {
  opened = next_opened facts.epoch;
  table = opened_lawful shard facts memory sound;
  entries = sound.entries;
  ended = refl;
  under = omega arith;
  installed = covered_later memory.last facts.floor facts.installs sound.under sound.installed;
  fit = opened_fit shard facts memory sound;
  agrees = opened_agrees shard facts memory sound;
  horizon = under_safe facts.horizon (rebuilt (learn facts (Record.Opened (facts.epoch + 1)))) (omega (arith, sound.horizon, safe_last memory, sound.under))
      (opened_over shard facts memory sound facts.horizon sound.horizon);
}
