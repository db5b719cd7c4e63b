-- What a disk holds behind a call of a core.
use Rattle.std.proofs.Common.{◌≡◌, inl, inr, subst, ℕ, zero, suc, Bool, true, false, nat_lt, cond, List, [], ◌∷◌, ◌++◌, get_or, Ok, refl, sym}
use Rattle.std.proofs.Common.{ap, ◌∙◌, arith}
use Rattle.std.proofs.lemmas.Bool.Decides.{nat_tests}
use Rattle.std.proofs.lemmas.List.{append-nil}
use Rattle.disk.specs.File.{surface, crash_leaves}
use Rattle.disk.specs.declared.plan.FailurePlan.{FailurePlan}
use Rattle.disk.specs.declared.plan.Fate.{Fate}
use Rattle.disk.specs.Image.{MayLeave, Surface}
use Rattle.disk.specs.Moments.{LeavesOnly}
use Rattle.disk.proofs.Crashes.{crashed_may, seen_may}
use Rattle.gatelog.specs.ArmedTurn.{is_left_turn, is_read_turn}
use Rattle.gatelog.specs.Crash.{Begins}
use Rattle.gatelog.specs.Gates.{is_left, is_read}
use Rattle.gatelog.specs.Slots.{Beginning, begins_in}
use Rattle.record.specs.declared.record.Record.{Record}
use Rattle.shard.specs.Armed.{AreArmed, records_with_if}
use Rattle.shard.specs.Logs.{BeginsAsBefore, KeepsRecords}
use Rattle.shard.specs.Turned.{AreArmedTurn, IsTurnedIf, turned_to}
use Rattle.simdisk.specs.State.{LeftSince, disk_clock, disk_file, disk_plan}
use Rattle.simdisk.specs.declared.simdisk.SimDisk.{SimDisk}
use Rattle.world.specs.World.{Area, ShardNow, Nothing, failed_in, failed_turn, left_area, left_area_of, left_of, left_unsure, new_area}
use Rattle.world.specs.World.{read_area, shown_area, turn_unsure, with_records}
use Rattle.lives.specs.Held.{HoldsArea, beginning_of}
use Rattle.lives.specs.Lives.{HoldsLog, disk_log}

-- with a record where a test holds
with_is : (b : Bool) (log : List Record) (r : Record) → records_with_if b (Ok log) r ≡ Ok (log ++ cond b (r ∷ []) [])
with_is true log r = refl
with_is false log r = ap (λ l. Ok l) (sym (append-nil log))

past_four : (more : ℕ) → nat_lt (suc (suc (suc (suc more)))) 4 ≡ true → ⊥
past_four more is = grind (arith, nat_tests)

past_five : (more : ℕ) → nat_lt (suc (suc (suc (suc (suc more))))) 5 ≡ true → ⊥
past_five more is = grind (arith, nat_tests)

-- an area with nothing more
pub none_more : (area : Area) → with_records area [] ≡ area
none_more area = λ i. record { begins = area.begins; slot = area.slot; records = append-nil area.records i }

-- what a failing call leaves unsure: what a read gives of it
pub unsure_shown : (call : ℕ) (r : Record) (area : Area) → nat_lt call 4 ≡ true
    → shown_area area (left_unsure call r) ≡ with_records area (cond (is_read call) (r ∷ []) [])
unsure_shown zero r area is = sym (none_more area)
unsure_shown (suc zero) r area is = sym (none_more area)
unsure_shown (suc (suc zero)) r area is = sym (none_more area)
unsure_shown (suc (suc (suc zero))) r area is = refl
unsure_shown (suc (suc (suc (suc more)))) r area is = absurd (past_four more is)

-- and what a crash makes of it, of the records
pub unsure_left : (call : ℕ) (fate : Fate) (r : Record) → nat_lt call 4 ≡ true → left_of fate (left_unsure call r) ≡ cond (is_left call fate) (r ∷ []) []
unsure_left zero fate r is = refl
unsure_left (suc (suc (suc (suc more)))) fate r is = absurd (past_four more is)
unsure_left _ fate r is = refl

-- and of the area
pub area_left : (call : ℕ) (fate : Fate) (r : Record) (area : Area) → nat_lt call 4 ≡ true
    → left_area_of fate area (left_unsure call r) ≡ with_records area (cond (is_left call fate) (r ∷ []) [])
area_left zero fate r area is = sym (none_more area)
area_left (suc zero) fate r area is = sym (none_more area)
area_left (suc (suc zero)) fate r area is = refl
area_left (suc (suc (suc zero))) fate r area is = refl
area_left (suc (suc (suc (suc more)))) fate r area is = absurd (past_four more is)

-- what a failing call of a turnover leaves unsure: what a read gives of it
turn_shown : (call : ℕ) (area other : Area) → nat_lt call 5 ≡ true → shown_area area (turn_unsure call other) ≡ cond (is_read_turn call) other area
turn_shown zero area other is = refl
turn_shown (suc (suc (suc (suc (suc more))))) area other is = absurd (past_five more is)
turn_shown _ area other is = refl

-- and what a crash makes of it
pub turn_left : (call : ℕ) (fate : Fate) (area other : Area) → nat_lt call 5 ≡ true
    → left_area_of fate area (turn_unsure call other) ≡ cond (is_left_turn call fate) other area
turn_left zero fate area other is = refl
turn_left (suc (suc (suc (suc (suc more))))) fate area other is = absurd (past_five more is)
turn_left _ fate area other is = refl

-- of the records since the formatting a failing turnover leaves all, whatever a crash does
pub turn_leaves : (call : ℕ) (fate : Fate) (other : Area) → nat_lt call 5 ≡ true → left_of fate (turn_unsure call other) ≡ []
turn_leaves zero fate other is = refl
turn_leaves (suc (suc (suc (suc (suc more))))) fate other is = absurd (past_five more is)
turn_leaves _ fate other is = refl

-- the log begins where it began, behind a call of a core on a disk with the same file, and before another one
pub begins_kept : (at : Beginning) (old before after new : SimDisk) → disk_file before ≡ disk_file old
    → LeavesOnly disk_clock LeftSince before after (BeginsAsBefore (surface (disk_file before))) → disk_file new ≡ disk_file after
    → Begins (surface (disk_file old)) at → Begins (surface (disk_file new)) at
begins_kept at old before after new first run last begins image may =
    by_run (run.each image (inl (run.later, subst (λ f. MayLeave (surface f) image) last may)))
  where
    was : Begins (surface (disk_file before)) at
    was = subst (λ f. Begins (surface f) at) (sym first) begins

    by_run : BeginsAsBefore (surface (disk_file before)) image → begins_in image ≡ at
    by_run (inl left) = was image left
    by_run (inr same) = same ∙ was (surface (disk_file before)).seen (seen_may (disk_file before))

-- behind a call of an append that failed
pub holds_failed : (s : ShardNow) (call : ℕ) (r : Record) (disk : SimDisk) → disk_plan disk ≡ FailurePlan.Never → nat_lt call 4 ≡ true
    → AreArmed call (Ok (disk_log s)) r (disk_file disk) → Begins (surface (disk_file disk)) (beginning_of (read_area s)) → HoldsLog (failed_in s call r) disk
unfolding failed_in
holds_failed s call r disk never is armed begins = record {
  never = never;
  read = subst (λ a. HoldsArea a (surface (disk_file disk)).seen) (sym (unsure_shown call r (read_area s) is))
      (armed.read ∙ with_is (is_read call) (disk_log s) r, begins (surface (disk_file disk)).seen (seen_may (disk_file disk)));
  left = λ fates.
      let fate : Fate = get_or fates 0 Fate.Old in
      subst (λ a. HoldsArea a (crash_leaves fates (disk_file disk))) (sym (area_left call fate r (read_area s) is))
      (armed.left fates ∙ with_is (is_left call fate) (disk_log s) r, begins (crash_leaves fates (disk_file disk)) (crashed_may fates (disk_file disk)));
}

-- by a test, the new area or the one that was read
turned_area : (b : Bool) (disk : Surface) (area other : Area) (image : List ℕ) (gate slot : ℕ) → HoldsArea area disk.seen
    → beginning_of other ≡ turned_to gate slot
    → IsTurnedIf b disk gate slot other.records image → HoldsArea (cond b other area) image
turned_area true disk area other image gate slot was begins h = (h.0, h.1 ∙ sym begins)
turned_area false disk area other image gate slot was begins h = (h.0 ∙ was.0, h.1 ∙ was.1)

-- behind a call of a turnover that failed
pub holds_turned : (s : ShardNow) (call gate slot : ℕ) (before : Surface) (disk : SimDisk) → disk_plan disk ≡ FailurePlan.Never → nat_lt call 5 ≡ true
    → HoldsArea (read_area s) before.seen → beginning_of (new_area s) ≡ turned_to gate slot
    → AreArmedTurn call before gate slot (new_area s).records (disk_file disk) → HoldsLog (failed_turn s call) disk
unfolding failed_turn
holds_turned s call gate slot before disk never is was begins armed = record {
  never = never;
  read = subst (λ a. HoldsArea a (surface (disk_file disk)).seen) (sym (turn_shown call (read_area s) (new_area s) is))
      (turned_area (is_read_turn call) before (read_area s) (new_area s) (surface (disk_file disk)).seen gate slot was begins armed.read);
  left = λ fates.
      let fate : Fate = get_or fates 0 Fate.Old in
      subst (λ a. HoldsArea a (crash_leaves fates (disk_file disk))) (sym (turn_left call fate (read_area s) (new_area s) is))
      (turned_area (is_left_turn call fate) before (read_area s) (new_area s) (crash_leaves fates (disk_file disk)) gate slot was begins (armed.left fates));
}

-- where nothing is unsure
pub sure_read : (s : ShardNow) → s.unsure ≡ Nothing → read_area s ≡ s.area
sure_read s sure = ap (shown_area s.area) sure

sure_left : (s : ShardNow) (fate : Fate) → s.unsure ≡ Nothing → left_area fate s ≡ s.area
sure_left s fate sure = ap (left_area_of fate s.area) sure

-- where every image has the records, and begins where they do
pub holds_kept : (s : ShardNow) (disk : SimDisk) → disk_plan disk ≡ FailurePlan.Never → s.unsure ≡ Nothing
    → KeepsRecords (surface (disk_file disk)) (Ok s.area.records) → Begins (surface (disk_file disk)) (beginning_of s.area) → HoldsLog s disk
holds_kept s disk never sure kept begins = record {
  never = never;
  read =
      let may = seen_may (disk_file disk) in
      subst (λ a. HoldsArea a (surface (disk_file disk)).seen) (sym (sure_read s sure))
      (kept (surface (disk_file disk)).seen may, begins (surface (disk_file disk)).seen may);
  left = λ fates.
      let may = crashed_may fates (disk_file disk) in
      subst (λ a. HoldsArea a (crash_leaves fates (disk_file disk))) (sym (sure_left s (get_or fates 0 Fate.Old) sure))
      (kept (crash_leaves fates (disk_file disk)) may, begins (crash_leaves fates (disk_file disk)) may);
}

-- the same file on a disk that is not to fail
pub holds_same : (s : ShardNow) (old new : SimDisk) → disk_plan new ≡ FailurePlan.Never → disk_file new ≡ disk_file old → HoldsLog s old → HoldsLog s new
holds_same s old new never same h = record {
  never = never;
  read = subst (λ f. HoldsArea (read_area s) (surface f).seen) (sym same) h.read;
  left = λ fates. subst (λ f. HoldsArea (left_area (get_or fates 0 Fate.Old) s) (crash_leaves fates f)) (sym same) (h.left fates);
}
