-- A crash in a call is that call's failure, and then a crash.
use Rattle.std.proofs.Common.{◌≡◌, ℕ, Bool, true, false, cond, ◌&&◌, nat_le, nat_lt, [], ◌∷◌, ◌++◌, Some, None, refl, sym, ap}
use Rattle.std.proofs.Common.{◌∙◌, subst, arith}
use Rattle.std.proofs.lemmas.Bool.Decides.{nat_tests}
use Rattle.std.proofs.lemmas.List.{append-nil}
use Rattle.disk.specs.File.{surface, crash_leaves}
use Rattle.disk.specs.declared.plan.FailurePlan.{FailurePlan}
use Rattle.disk.specs.declared.plan.Fate.{Fate}
use Rattle.gatelog.specs.ArmedTurn.{is_left_turn}
use Rattle.gatelog.specs.Gates.{is_left}
use Rattle.message.specs.declared.message.Envelope.{Envelope}
use Rattle.protocol.specs.Rows.{Memory}
use Rattle.protocol.specs.Step.{Stepped, Refuses, Does}
use Rattle.record.specs.declared.record.Record.{Record}
use Rattle.std.specs.Prelude.{List}
use Rattle.simdisk.specs.Replay.{settled}
use Rattle.simdisk.specs.State.{disk_file, disk_plan}
use Rattle.simdisk.specs.declared.simdisk.SimDisk.{SimDisk}
use Rattle.world.specs.World.{ShardNow, State, Runs, IsStopped, IsDown, Unsure, Nothing, Shown, Hidden, TurnShown, TurnHidden, crashed, crashed_in}
use Rattle.world.specs.World.{failed_in, failed_turn, left_area, left_area_of, left_by_refused, left_of, new_area, read_area, read_log, shown_area}
use Rattle.world.specs.World.{shown_records, turns, with_records}
use Rattle.world.specs.declared.event.Doing.{Doing}
use Rattle.lives.specs.Held.{HoldsArea}
use Rattle.lives.specs.Lives.{HoldsLog, crash_by}
use Rattle.lives.specs.Carries.{left_by, left_by_refusal, stepped_shard, unopened}
use Rattle.lives.proofs.Holding.{area_left, none_more, turn_leaves, turn_left, unsure_left}

-- nothing is unsure where the shard runs
abbrev pub IsSure : ShardNow → Type 0
IsSure s = (m : Memory) → s.state ≡ Runs m → s.unsure ≡ Nothing

-- a turnover logs nothing
abbrev pub LogsNone : Doing → Stepped → Type 0
LogsNone doing st = turns doing ≡ true → (r : Record) (memory : Memory) (out : List Envelope) → st ≡ Does (Some r) memory out → ⊥

-- behind the last call the record is there
late_left : (call : ℕ) (fate : Fate) → nat_lt call 4 ≡ false → is_left call fate ≡ true
late_left call fate is =
    let one : nat_le call 1 ≡ false = grind (arith, nat_tests) in
    let three : nat_le call 3 ≡ false = grind (arith, nat_tests) in
    rw (one, three) refl

-- or the new area
late_turn : (call : ℕ) (fate : Fate) → nat_lt call 5 ≡ false → is_left_turn call fate ≡ true
late_turn call fate is =
    let two : nat_le call 2 ≡ false = grind (arith, nat_tests) in
    let four : nat_le call 4 ≡ false = grind (arith, nat_tests) in
    rw (two, four) refl

pub none_below : (call : ℕ) → nat_lt call 0 ≡ false
none_below call = grind (arith, nat_tests)

-- a crash between events undoes what is not synced
pub crash_is_old : (s : ShardNow) → crash_by Fate.Old s ≡ crashed s s.log s.area
crash_is_old s = by_unsure s.unsure refl
  where
    left_as : (u : Unsure) → s.unsure ≡ u → crash_by Fate.Old s ≡ crashed s (s.log ++ left_of Fate.Old u) (left_area_of Fate.Old s.area u)
    left_as u is = ap (λ x. crashed s (s.log ++ left_of Fate.Old x) (left_area_of Fate.Old s.area x)) is

    by_unsure : (u : Unsure) → s.unsure ≡ u → crash_by Fate.Old s ≡ crashed s s.log s.area
    by_unsure Nothing is = left_as Nothing is ∙ (λ i. crashed s (append-nil s.log i) s.area)
    by_unsure (Shown r) is = left_as (Shown r) is ∙ (λ i. crashed s (append-nil s.log i) (none_more s.area i))
    by_unsure (Hidden r) is = left_as (Hidden r) is ∙ (λ i. crashed s (append-nil s.log i) (none_more s.area i))
    by_unsure (TurnShown other) is = left_as (TurnShown other) is ∙ (λ i. crashed s (append-nil s.log i) s.area)
    by_unsure (TurnHidden other) is = left_as (TurnHidden other) is ∙ (λ i. crashed s (append-nil s.log i) s.area)

module _ (s : ShardNow) (fate : Fate) (sure : IsSure s) where
  refused_is : (doing : Doing) → crash_by fate (left_by_refusal s doing) ≡ left_by_refused s fate doing
  refused_is Doing.Open = by_state s.state refl
    where
      by_state : (st : State) → s.state ≡ st → crash_by fate (unopened s st) ≡ crashed s (read_log s) (read_area s)
      by_state (Runs m) is =
          (λ i. crashed s (s.log ++ left_of fate (sure m is i)) (left_area_of fate s.area (sure m is i)))
          ∙ sym (λ i. crashed s (s.log ++ shown_records (sure m is i)) (shown_area s.area (sure m is i)))
      by_state (IsStopped m) is = λ i. crashed s (append-nil (read_log s) i) (read_area s)
      by_state IsDown is = λ i. crashed s (append-nil (read_log s) i) (read_area s)
  refused_is _ = refl

  -- what is done without a record, by whether it is a turnover
  abbrev idle_shard : Memory → Bool → ShardNow
  idle_shard memory b = record {
    log = read_log s ++ [];
    area = cond b (new_area s) (with_records (read_area s) []);
    unsure = Nothing;
    state = Runs memory;
    views = s.views;
  }

  idle_crash : (call : ℕ) (memory : Memory) (b : Bool)
      → crash_by fate (cond (nat_lt call (cond b 5 0)) (failed_turn s call) (idle_shard memory b))
      ≡ crashed s (read_log s) (cond (b && is_left_turn call fate) (new_area s) (read_area s))
  unfolding failed_turn
  idle_crash call memory false =
      ap (λ x. crash_by fate (cond x (failed_turn s call) (idle_shard memory false))) (none_below call)
      ∙ (λ i. crashed s ((append-nil (read_log s ++ []) ∙ append-nil (read_log s)) i) (none_more (read_area s) i))
  idle_crash call memory true = by_test (nat_lt call 5) refl
    where
      by_test : (b : Bool) → nat_lt call 5 ≡ b
          → crash_by fate (cond b (failed_turn s call) (idle_shard memory true))
          ≡ crashed s (read_log s) (cond (is_left_turn call fate) (new_area s) (read_area s))
      by_test true is =
          λ i. crashed s ((ap (λ l. read_log s ++ l) (turn_leaves call fate (new_area s) is) ∙ append-nil (read_log s)) i)
          (turn_left call fate (read_area s) (new_area s) is i)
      by_test false is =
          (λ i. crashed s ((append-nil (read_log s ++ []) ∙ append-nil (read_log s)) i) (new_area s))
          ∙ sym (ap (λ x. crashed s (read_log s) (cond x (new_area s) (read_area s))) (late_turn call fate is))

  -- a crash in a call of a doing is the doing with that call armed, and then a crash
  pub crash_is : (call : ℕ) (doing : Doing) (st : Stepped) → LogsNone doing st
      → crash_by fate (left_by s (Some call) doing st) ≡ crashed_in s call fate doing st
  unfolding crashed_in failed_in
  crash_is call doing (Refuses fault) none = refused_is doing
  crash_is call doing (Does None memory out) none = idle_crash call memory (turns doing)
  crash_is call doing (Does (Some r) memory out) none = by_turn (turns doing) refl
    where
      by_test : turns doing ≡ false → (b : Bool) → nat_lt call 4 ≡ b
          → crash_by fate (cond b (failed_in s call r) (stepped_shard s doing (Some r) memory)) ≡ crashed s
          (read_log s ++ cond (is_left call fate) (r ∷ []) []) (with_records (read_area s) (cond (is_left call fate) (r ∷ []) []))
      by_test plain true is = λ i. crashed s (read_log s ++ unsure_left call fate r is i) (area_left call fate r (read_area s) is i)
      by_test plain false is =
          (λ i. crashed s (append-nil (read_log s ++ r ∷ []) i) (cond (plain i) (new_area s) (with_records (read_area s) (r ∷ []))))
          ∙ sym (ap (λ x. crashed s (read_log s ++ cond x (r ∷ []) []) (with_records (read_area s) (cond x (r ∷ []) []))) (late_left call fate is))

      by_turn : (b : Bool) → turns doing ≡ b
          → crash_by fate (cond (nat_lt call 4) (failed_in s call r) (stepped_shard s doing (Some r) memory))
          ≡ crashed s (read_log s ++ cond (is_left call fate) (r ∷ []) []) (with_records (read_area s) (cond (is_left call fate) (r ∷ []) []))
      by_turn true is = absurd (none is r memory out refl)
      by_turn false is = by_test is (nat_lt call 4) refl

-- what a disk holds behind a crash
pub holds_crashed : (s : ShardNow) (fate : Fate) (old new : SimDisk) → disk_plan new ≡ FailurePlan.Never
    → disk_file new ≡ settled (crash_leaves (fate ∷ []) (disk_file old))
    → HoldsLog s old → HoldsLog (crash_by fate s) new
holds_crashed s fate old new never file h =
    let image : HoldsArea (left_area fate s) (crash_leaves (fate ∷ []) (disk_file old)) = h.left (fate ∷ []) in
    record {
      never = never;
      read = subst (λ f. HoldsArea (left_area fate s) (surface f).seen) (sym file) image;
      left = λ fates. subst (λ f. HoldsArea (left_area fate s) (crash_leaves fates f)) (sym file) image;
    }
