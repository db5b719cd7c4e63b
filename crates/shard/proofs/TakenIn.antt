-- The row that is taken in for who asks for locks, before the step's record is logged: a sound shard stays sound with it.
use Rattle.std.proofs.Common.{◌≡◌, ◌∙◌, ℕ, ◌≤◌, Bool, true, false, List, [], ◌∷◌, Option, Some, None, refl, sym, ap, subst, arith}
use Rattle.std.specs.Prelude.{IfSome}
use Rattle.std.specs.List.{AllByRecursion, list_all}
use Rattle.std.proofs.lemmas.Bool.{false≢true, and_parts}
use Rattle.std.proofs.Math.Logic.{∥∥₁_elim, ∥∥₁_map, ∥∥₁_prop}
use Rattle.units.specs.Ids.{Id, same_id}
use Rattle.units.specs.Keys.{write_before}
use Rattle.units.specs.Lists.{ascends}
use Rattle.units.specs.LockLaws.{IsLawfulTable}
use Rattle.units.specs.Locks.{Claim, clash, with_locks}
use Rattle.units.specs.declared.lock.Lock.{Lock}
use Rattle.units.specs.declared.writes.Install.{Install}
use Rattle.units.proofs.IdLaws.{same_id-is}
use Rattle.units.proofs.ByIdLaws.{all-with}
use Rattle.units.proofs.ListLaws.{all_of_each, each_of_all}
use Rattle.record.specs.Facts.{Facts, recorded}
use Rattle.record.specs.Records.{Status, Unrecorded, StandsPrepared, StandsDecided}
use Rattle.record.specs.declared.record.Record.{Record}
use Rattle.facts.specs.Rules.{follows_facts}
use Rattle.protocol.specs.Rows.{Memory, Phase, Row, Idle, claim_of, claims, find_row, held_in, held_stamp, safe, with_row, without_rows}
use Rattle.protocol.specs.Plan.{after_change, carried}
use Rattle.protocol.specs.Showable.{IsShowable, writes_in}
use Rattle.protocol.specs.Sound.{Agrees, IsSound, fits, is_open}
use Rattle.protocol.specs.Step.{facts_after}
use Rattle.protocol.proofs.ClaimsBeside.{IsBeside, lawful_put}
use Rattle.protocol.proofs.FitsBeside.{unrecorded_is}
use Rattle.protocol.proofs.RowChanges.{row_as, find-with_row_same, find-with_row_other}
use Rattle.protocol.proofs.RowTable.{claims-with_row, with_row-is}
use Rattle.protocol.proofs.Serves.{AllOver, Over, safe_last, safe_over, under_safe}
use Rattle.memory.specs.CodeRows.{phase_of_wait}
use Rattle.memory.specs.RowTable.{put_row}
use Rattle.memory.specs.wait.Wait.{Wait}
use Rattle.memory.specs.Carry.{FitsRows, MayFollow, MayStand, admitted_to, asker}
use Rattle.memory.specs.Kept.{Kept}
use Rattle.memory.specs.Plans.{change_of, collecting, plan_of}
use Rattle.memory.specs.declared.plan.Step.{Step}
use Rattle.memory.specs.declared.plan.Change.{Change}
use Rattle.memory.specs.declared.plan.Change.TheVariants.{Reads, Waits, Collects, Stands}

-- ---- an idle row without locks, of a transaction that has no record

no-clash : (ls : List Lock) → clash ls [] ≡ false
no-clash [] = refl
no-clash (l ∷ ls) = no-clash ls

module _ (m : Memory) (t : Id) where
  abbrev with_entrant : Memory
  with_entrant = record m { rows = with_row m.rows (row_as t [] Idle) }

  agrees-in : (facts : Facts) → recorded facts t ≡ Unrecorded
      → ((u : Id) → Agrees facts.installs m.last (recorded facts u) (find_row m.rows u))
      → (u : Id) → Agrees facts.installs m.last (recorded facts u) (find_row (with_row m.rows (row_as t [] Idle)) u)
  agrees-in facts fresh before u = by_test (same_id t u) refl
    where
      by_test : (b : Bool) → same_id t u ≡ b → Agrees facts.installs m.last (recorded facts u) (find_row (with_row m.rows (row_as t [] Idle)) u)
      by_test true e =
          subst (λ (v : Id). Agrees facts.installs m.last (recorded facts v) (find_row (with_row m.rows (row_as t [] Idle)) v)) (same_id-is t u e)
          (subst (λ (s : Status). Agrees facts.installs m.last s (find_row (with_row m.rows (row_as t [] Idle)) t)) (sym fresh)
          (subst (Agrees facts.installs m.last Unrecorded) (sym (find-with_row_same m.rows (row_as t [] Idle))) refl))
      by_test false e =
          subst (Agrees facts.installs m.last (recorded facts u)) (sym (find-with_row_other m.rows (row_as t [] Idle) u e)) (before u)

  -- it holds nothing back
  safe-in : safe m ≤ safe with_entrant
  safe-in =
      under_safe (safe m) with_entrant (safe_last m)
      (subst (AllOver (safe m)) (sym (with_row-is m.rows (row_as t [] Idle)))
      (all-with (λ (q : Row). Over (safe m) (held_stamp q.phase)) (λ (q : Row). q.txn) m.rows (row_as t [] Idle) tt (safe_over m)))

  each-in : (test : Row → Bool) → test (row_as t [] Idle) ≡ true → list_all test m.rows ≡ true → list_all test (with_row m.rows (row_as t [] Idle)) ≡ true
  each-in test own all =
      ap (list_all test) (with_row-is m.rows (row_as t [] Idle))
      ∙ each_of_all test _ (all-with (λ (q : Row). test q ≡ true) (λ (q : Row). q.txn) m.rows (row_as t [] Idle) own (all_of_each test m.rows all))

  -- it holds and wants nothing that another does
  beside-each : (cs : List Claim) → AllByRecursion (IsBeside (claim_of (row_as t [] Idle))) cs
  beside-each [] = tt
  beside-each (a ∷ cs) = (
    record {
      apart = λ other. refl;
      for_other = λ other way. absurd (false≢true (sym (no-clash a.held) ∙ way));
      for_it = λ other way. absurd (false≢true way);
    },
    beside-each cs,
  )

  sound-in : (shard : ℕ) (facts : Facts) → recorded facts t ≡ Unrecorded → IsSound shard facts m → IsSound shard facts with_entrant
  sound-in shard facts fresh s = record {
    opened = s.opened;
    table = subst IsLawfulTable (sym (claims-with_row m.rows (row_as t [] Idle)))
        (lawful_put (claims m.rows) (claim_of (row_as t [] Idle)) s.table refl (beside-each (claims m.rows)));
    entries = s.entries;
    ended = s.ended;
    under = s.under;
    installed = s.installed;
    fit = each-in (fits shard) refl s.fit;
    agrees = agrees-in facts fresh s.agrees;
    horizon = omega (arith, s.horizon, safe-in);
  }

-- ---- who asks for locks is taken in where it has no row

-- who asks has no record
abbrev IsFresh : Facts → Option Id → Type 0
IsFresh facts who = IfSome who (λ t. recorded facts t ≡ Unrecorded)

sound-admitted : (shard : ℕ) (facts : Facts) (m : Memory) (who : Option Id) → IsFresh facts who → IsSound shard facts m
    → IsSound shard facts (admitted_to m who)
sound-admitted shard facts m None fresh sound = sound
sound-admitted shard facts m (Some t) fresh sound = by_row (find_row m.rows t)
  where
    by_row : (o : Option Row) → IsSound shard facts (record m { rows = elim o as (λ _. List Row) [ None ↦ put_row m.rows t [] Idle | Some r ↦ m.rows ] })
    by_row None = sound-in m t shard facts fresh sound
    by_row (Some r) = sound

pub showable-admitted : (facts : Facts) (m : Memory) (who : Option Id) → IsShowable facts m → IsShowable facts (admitted_to m who)
showable-admitted facts m None showable = showable
showable-admitted facts m (Some t) showable = by_row (find_row m.rows t)
  where
    by_row : (o : Option Row) → IsShowable facts (record m { rows = elim o as (λ _. List Row) [ None ↦ put_row m.rows t [] Idle | Some r ↦ m.rows ] })
    by_row None = record {
      entries = showable.entries;
      rows = each-in m t (λ (r : Row). ascends write_before (writes_in r.phase)) refl showable.rows;
      installs = showable.installs;
    }
    by_row (Some r) = showable

-- ---- who asks by a step that leaves a sound shard has no record

-- nor has who has an open row
open-unrecorded : (installs : List Install) (last : ℕ) (s : Status) (r : Row) → is_open r.phase ≡ true → Agrees installs last s (Some r) → s ≡ Unrecorded
open-unrecorded installs last Unrecorded r opened a = refl
open-unrecorded installs last (StandsPrepared p) r opened a = absurd (false≢true (sym (ap is_open a.phase) ∙ opened))
open-unrecorded installs last (StandsDecided c) r opened a = absurd (false≢true (sym (ap is_open a.phase) ∙ opened))
open-unrecorded installs last _ r opened a = absurd a

wait-is-open : (w : Wait) → is_open (phase_of_wait (Some w)) ≡ true
wait-is-open (Wait.Read key) = refl
wait-is-open (Wait.Prepare p) = refl
wait-is-open (Wait.Commit c) = refl

-- it gets an open row, and nothing is logged
put-fresh : (shard : ℕ) (facts : Facts) (logged : Option Record) (after : Memory) (left : List Row) (t : Id) (held : List Lock) (phase : Phase)
    → logged ≡ None → after.rows ≡ with_row left (row_as t held phase) → is_open phase ≡ true → IsSound shard (facts_after facts logged) after
    → recorded facts t ≡ Unrecorded
put-fresh shard facts logged after left t held phase none is opened sound =
    let own : Agrees (facts_after facts logged).installs after.last (recorded (facts_after facts logged) t) (Some (row_as t held phase)) =
    subst (Agrees (facts_after facts logged).installs after.last (recorded (facts_after facts logged) t))
    (ap (λ (rows : List Row). find_row rows t) is ∙ find-with_row_same left (row_as t held phase)) (sound.agrees t) in
    ap (λ (l : Option Record). recorded (facts_after facts l) t) (sym none)
    ∙ open-unrecorded (facts_after facts logged).installs after.last _ (row_as t held phase) opened own

-- it stands by its record
stands-fresh : (shard : ℕ) (facts : Facts) (t : Id) (logged : Option Record) → MayStand t logged → MayFollow shard facts logged
    → recorded facts t ≡ Unrecorded
unfolding follows_facts
stands-fresh shard facts t (Some (Record.Prepare p)) is follows =
    subst (λ (u : Id). recorded facts u ≡ Unrecorded) is
    (unrecorded_is (recorded facts p.txn) (and_parts _ _ (and_parts _ _ (and_parts _ _ (and_parts _ _ follows).1).0).1).0)
stands-fresh shard facts t (Some (Record.Commit c)) is follows =
    subst (λ (u : Id). recorded facts u ≡ Unrecorded) is
    (unrecorded_is (recorded facts c.txn) (and_parts _ _ (and_parts _ _ (and_parts _ _ (and_parts _ _ follows).1).0).1).0)
stands-fresh shard facts t _ is follows = absurd is

fresh-by : (shard : ℕ) (facts : Facts) (rows : List Row) (us : List Id) (needs : List Lock) (logged : Option Record) (h : Change) (after : Memory)
    → FitsRows rows us needs logged h → MayFollow shard facts logged → after.rows ≡ after_change (change_of rows needs logged h) (without_rows rows us)
    → IsSound shard (facts_after facts logged) after → IsFresh facts (asker h)
unfolding after_change
fresh-by shard facts rows us needs logged (Reads t) after fits follows is sound =
    put-fresh shard facts logged after (without_rows rows us) t (with_locks (held_in (without_rows rows us) t) needs) Idle fits.1 is refl sound
fresh-by shard facts rows us needs logged (Waits t w) after fits follows is sound =
    put-fresh shard facts logged after (without_rows rows us) t (with_locks (held_in (without_rows rows us) t) []) (phase_of_wait (Some w)) fits.2 is
    (wait-is-open w) sound
fresh-by shard facts rows us needs logged (Collects t c) after fits follows is sound =
    put-fresh shard facts logged after (without_rows rows us) t (with_locks (held_in (without_rows rows us) t) needs) (collecting c []) fits.1 is refl sound
fresh-by shard facts rows us needs logged (Stands t) after fits follows is sound = stands-fresh shard facts t logged fits.1 follows
fresh-by shard facts rows us needs logged _ after fits follows is sound = tt

-- ---- a step

rows-then : (k : Kept) (s : Step) → (carried (plan_of k.memory.rows s) k.memory).rows
    ≡ after_change (change_of k.memory.rows s.plan.needs.items s.logged s.plan.change) (without_rows k.memory.rows s.plan.wounded)
unfolding carried
rows-then k s = refl

-- a shard that is sound before a step and after it is sound with who asks by it taken in
pub sound-taken-in : (k : Kept) (s : Step) → FitsRows k.memory.rows s.plan.wounded s.plan.needs.items s.logged s.plan.change
    → MayFollow k.setup.shard k.facts s.logged
    → ∥ IsSound k.setup.shard (facts_after k.facts s.logged) (carried (plan_of k.memory.rows s) k.memory) ∥₁
    → ∥ IsSound k.setup.shard k.facts k.memory ∥₁ → ∥ IsSound k.setup.shard k.facts (admitted_to k.memory (asker s.plan.change)) ∥₁
sound-taken-in k s fits follows then before =
    ∥∥₁_elim then ∥∥₁_prop (λ after.
    ∥∥₁_map before (λ sound.
    sound-admitted k.setup.shard k.facts k.memory (asker s.plan.change)
    (fresh-by k.setup.shard k.facts k.memory.rows s.plan.wounded s.plan.needs.items s.logged s.plan.change (carried (plan_of k.memory.rows s) k.memory)
    fits follows (rows-then k s) after) sound))
