-- How what there is of a shard stands for a shard of the definitions.
use Rattle.std.proofs.Common.{◌≡◌, ◌⊎◌, inl, inr, ℕ, zero, suc, Bool, true, false, cond, nat_le, nat_lt, List, [], ◌∷◌, ◌++◌, Option, Some, Ok}
use Rattle.std.proofs.Common.{refl, sym, ap, ◌∙◌, subst, arith, option_to_list}
use Rattle.std.proofs.lemmas.Bool.Decides.{nat_tests}
use Rattle.std.proofs.lemmas.List.{append-nil}
use Rattle.units.specs.declared.setup.Setup.{Setup}
use Rattle.disk.specs.File.{File, surface}
use Rattle.disk.specs.Image.{MayLeave}
use Rattle.disk.proofs.Crashes.{seen_may}
use Rattle.gatelog.specs.Slots.{begins_in}
use Rattle.record.specs.Facts.{facts_of}
use Rattle.record.specs.declared.record.Record.{Record}
use Rattle.ledger.specs.Keeps.{Alike}
use Rattle.protocol.specs.Rows.{Memory}
use Rattle.lives.specs.Logs.{HoldsOldOrWith, records_in}
use Rattle.lives.specs.On.{CoreView}
use Rattle.world.specs.Areas.{IsBeside, MayLeaveArea}
use Rattle.world.specs.World.{Area, ShardNow, State, Runs, IsStopped, IsDown, Nothing, Shown, Hidden, failed_in}
use Rattle.world.specs.World.{failed_turn, gate_of, left_unsure, new_area, read_area, read_log, shown_area, shown_records, turn_unsure, with_records}
use Rattle.lives.specs.Held.{HoldsArea, beginning_of}
use Rattle.lives.proofs.Stepping.{with_logged}
use Rattle.images.specs.Images.{HoldsSurely, Life, Up, Down, disk_of}

-- an image holds an area beside some records, and these are allowed
pub record ReadsAs (allowed : List Record → Area → Type 0) (image : List ℕ) : Type 0 where
  pub log : List Record
  pub area : Area
  pub holds : HoldsArea area image
  pub fits : allowed log area

-- ---- areas

-- an image holds this area, or this with what a step logs
abbrev pub HoldsOr : Area → Option Record → List ℕ → Type 0
HoldsOr area logged image = HoldsArea area image ⊎ HoldsArea (with_records area (option_to_list logged)) image

pub holds_or : (area : Area) (logged : Option Record) (image : List ℕ) → HoldsOldOrWith (Ok area.records) logged image →
    begins_in image ≡ beginning_of area → HoldsOr area logged image
holds_or area logged image (inl old) at = inl (old, at)
holds_or area logged image (inr with) at = inr (with ∙ with_logged area.records logged, at)

-- ---- what is sure

-- where nothing is unsure, a read gives the log and the area
pub sure_log : (s : ShardNow) → s.unsure ≡ Nothing → read_log s ≡ s.log
sure_log s sure = ap (λ u. s.log ++ shown_records u) sure ∙ append-nil s.log

pub sure_area : (s : ShardNow) → s.unsure ≡ Nothing → read_area s ≡ s.area
sure_area s sure = ap (shown_area s.area) sure

-- where nothing is unsure a crash leaves that alone
pub sure_only : (s : ShardNow) (image : List ℕ) → s.unsure ≡ Nothing → ReadsAs (MayLeaveArea s) image → HoldsArea (read_area s) image
sure_only s image sure reads = by_fits reads.fits
  where
    by_fits : MayLeaveArea s reads.log reads.area → HoldsArea (read_area s) image
    by_fits (inl same) = subst (λ a. HoldsArea a image) (same.1 ∙ sym (sure_area s sure)) reads.holds
    by_fits (inr beside) = absurd (subst (λ u. IsBeside s u reads.log reads.area) sure beside)

-- ---- what is unsure behind a call that failed

past_four : (more : ℕ) → nat_lt (suc (suc (suc (suc more)))) 4 ≡ true → ⊥
past_four more is = grind (arith, nat_tests)

past_five : (more : ℕ) → nat_lt (suc (suc (suc (suc (suc more))))) 5 ≡ true → ⊥
past_five more is = grind (arith, nat_tests)

-- one of the two calls behind which a crash may leave the record
record_there : (t : ShardNow) (call : ℕ) (r : Record) → nat_lt call 4 ≡ true → nat_le 2 call ≡ true →
    IsBeside t (left_unsure call r) (t.log ++ r ∷ []) (with_records t.area (r ∷ []))
record_there t zero r lt le = cc
record_there t (suc zero) r lt le = cc
record_there t (suc (suc zero)) r lt le = (refl, refl)
record_there t (suc (suc (suc zero))) r lt le = (refl, refl)
record_there t (suc (suc (suc (suc more)))) r lt le = absurd (past_four more lt)

-- of the two behind which it may leave the new area
area_there : (t : ShardNow) (call : ℕ) (other : Area) → nat_lt call 5 ≡ true → nat_le 3 call ≡ true → IsBeside t (turn_unsure call other) t.log other
area_there t zero other lt le = cc
area_there t (suc zero) other lt le = cc
area_there t (suc (suc zero)) other lt le = cc
area_there t (suc (suc (suc zero))) other lt le = (refl, refl)
area_there t (suc (suc (suc (suc zero)))) other lt le = (refl, refl)
area_there t (suc (suc (suc (suc (suc more))))) other lt le = absurd (past_five more lt)

-- with the record or without it the area begins where it began
unsure_begins : (area : Area) (r : Record) (shown hidden : Bool) →
    beginning_of (shown_area area (cond shown (Shown r) (cond hidden (Hidden r) Nothing))) ≡ beginning_of area
unsure_begins area r true hidden = refl
unsure_begins area r false true = refl
unsure_begins area r false false = refl

failed_begins : (s : ShardNow) (call : ℕ) (r : Record) → beginning_of (read_area (failed_in s call r)) ≡ beginning_of (read_area s)
unfolding failed_in
failed_begins s call r = unsure_begins (read_area s) r _ _

module _ {D : Type 0} (file : D → File) where
  -- the disk of a shard: a read gives what the definitions read, and a crash now leaves what they leave
  pub record HoldsLog (s : ShardNow) (disk : D) : Type 0 where
    pub read : HoldsArea (read_area s) (surface (file disk)).seen
    pub left : (image : List ℕ) → MayLeave (surface (file disk)) image → ReadsAs (MayLeaveArea s) image

  -- a core that runs
  pub record IsRunning (setup : Setup) (s : ShardNow) (m : Memory) (core : CoreView D) : Type 0 where
    pub setup_is : core.setup ≡ setup
    pub knows : Alike core.facts (facts_of s.log)
    pub memory : core.memory ≡ m
    pub disk : HoldsLog s core.disk
    pub runs : core.stopped ≡ false
    pub sure : s.unsure ≡ Nothing
    pub gate : core.gate ≡ gate_of (read_area s)
    pub slot : core.slot ≡ (read_area s).slot

  -- a core knows what a shard's records say, and keeps this memory
  pub record StillKnows (setup : Setup) (s : ShardNow) (m : Memory) (core : CoreView D) : Type 0 where
    pub setup_is : core.setup ≡ setup
    pub knows : Alike core.facts (facts_of s.log)
    pub memory : core.memory ≡ m

  -- what there is of a shard in this state; of one that is stopped maybe the disk alone
  abbrev pub LivesIn : Setup → ShardNow → Life D → State → Type 0
  LivesIn setup s (Up core) (Runs m) = IsRunning setup s m core
  LivesIn setup s (Up core) (IsStopped m) = (core.stopped ≡ true) × HoldsLog s core.disk × StillKnows setup s m core
  LivesIn setup s (Up core) IsDown = ⊥
  LivesIn setup s (Down disk) (Runs m) = ⊥
  LivesIn setup s (Down disk) (IsStopped m) = HoldsLog s disk
  LivesIn setup s (Down disk) IsDown = HoldsLog s disk

  abbrev pub LivesAs : Setup → ShardNow → Life D → Type 0
  LivesAs setup s life = LivesIn setup s life s.state

  -- its disk holds its log
  pub life_holds : (setup : Setup) (s : ShardNow) (life : Life D) (state : State) → LivesIn setup s life state → HoldsLog s (disk_of life)
  life_holds setup s (Up core) (Runs m) h = h.disk
  life_holds setup s (Up core) (IsStopped m) h = h.1
  life_holds setup s (Up core) IsDown h = absurd h
  life_holds setup s (Down disk) (Runs m) h = absurd h
  life_holds setup s (Down disk) (IsStopped m) h = h
  life_holds setup s (Down disk) IsDown h = h

  -- a disk that surely holds an area
  pub surely_holds : (s : ShardNow) (disk : D) → s.unsure ≡ Nothing → HoldsSurely file disk s.area → HoldsLog s disk
  surely_holds s disk sure kept = record {
    read = subst (λ a. HoldsArea a (surface (file disk)).seen) (sym (sure_area s sure)) (kept (surface (file disk)).seen (seen_may (file disk)));
    left = λ image may. record { log = s.log; area = s.area; holds = kept image may; fits = inl (refl, refl) };
  }

  -- a disk that reads as another, and of which a crash leaves no more
  pub within_holds : (s : ShardNow) (old new : D) → records_in (surface (file new)).seen ≡ records_in (surface (file old)).seen →
      begins_in (surface (file new)).seen ≡ begins_in (surface (file old)).seen →
      ((image : List ℕ) → MayLeave (surface (file new)) image → MayLeave (surface (file old)) image) → HoldsLog s old → HoldsLog s new
  within_holds s old new same at within h = record {
    read = (same ∙ h.read.0, at ∙ h.read.1);
    left = λ image may. h.left image (within image may);
  }

  -- the same file
  pub same_holds : (s : ShardNow) (old new : D) → file new ≡ file old → HoldsLog s old → HoldsLog s new
  same_holds s old new same h = within_holds s old new (ap (λ f. records_in (surface f).seen) same) (ap (λ f. begins_in (surface f).seen) same)
      (λ image may. subst (λ f. MayLeave (surface f) image) same may) h

  -- an append failed, and the event tells what a read gives and what a crash may leave
  pub failed_holds : (s : ShardNow) (call : ℕ) (r : Record) (new : D) → nat_lt call 4 ≡ true →
      records_in (surface (file new)).seen ≡ Ok (read_area (failed_in s call r)).records →
      ((image : List ℕ) → MayLeave (surface (file new)) image → HoldsOr (read_area s) (Some r) image) → nat_le 2 call ≡ true →
      HoldsLog (failed_in s call r) new
  unfolding failed_in
  failed_holds s call r new lt read images le = record {
    read = (read, began (images (surface (file new)).seen (seen_may (file new))) ∙ sym (failed_begins s call r));
    left = λ image may. by_image image (images image may);
  }
    where
      began : HoldsOr (read_area s) (Some r) (surface (file new)).seen → begins_in (surface (file new)).seen ≡ beginning_of (read_area s)
      began (inl old) = old.1
      began (inr with) = with.1

      by_image : (image : List ℕ) → HoldsOr (read_area s) (Some r) image → ReadsAs (MayLeaveArea (failed_in s call r)) image
      by_image image (inl old) = record { log = read_log s; area = read_area s; holds = old; fits = inl (refl, refl) }
      by_image image (inr with) = record {
        log = read_log s ++ r ∷ [];
        area = with_records (read_area s) (r ∷ []);
        holds = with;
        fits = inr (record_there (failed_in s call r) call r lt le);
      }

  -- or that the record is surely not there
  pub without_holds : (s : ShardNow) (call : ℕ) (r : Record) (new : D) →
      records_in (surface (file new)).seen ≡ Ok (read_area (failed_in s call r)).records → HoldsSurely file new (read_area s) →
      HoldsLog (failed_in s call r) new
  unfolding failed_in
  without_holds s call r new read kept = record {
    read = (read, (kept (surface (file new)).seen (seen_may (file new))).1 ∙ sym (failed_begins s call r));
    left = λ image may. record { log = read_log s; area = read_area s; holds = kept image may; fits = inl (refl, refl) };
  }

  -- a turnover failed, and the event tells it
  pub turn_failed_holds : (s : ShardNow) (call : ℕ) (new : D) → nat_lt call 5 ≡ true →
      HoldsArea (read_area (failed_turn s call)) (surface (file new)).seen →
      ((image : List ℕ) → MayLeave (surface (file new)) image → HoldsArea (read_area s) image ⊎ HoldsArea (new_area s) image) →
      nat_le 3 call ≡ true → HoldsLog (failed_turn s call) new
  unfolding failed_turn
  turn_failed_holds s call new lt read images le = record { read = read; left = λ image may. by_image image (images image may) }
    where
      by_image : (image : List ℕ) → HoldsArea (read_area s) image ⊎ HoldsArea (new_area s) image → ReadsAs (MayLeaveArea (failed_turn s call)) image
      by_image image (inl old) = record { log = read_log s; area = read_area s; holds = old; fits = inl (refl, refl) }
      by_image image (inr other) =
          record { log = read_log s; area = new_area s; holds = other; fits = inr (area_there (failed_turn s call) call (new_area s) lt le) }

  -- or that the new area is surely not there
  pub turn_without_holds : (s : ShardNow) (call : ℕ) (new : D) → HoldsArea (read_area (failed_turn s call)) (surface (file new)).seen →
      HoldsSurely file new (read_area s) → HoldsLog (failed_turn s call) new
  unfolding failed_turn
  turn_without_holds s call new read kept = record {
    read = read;
    left = λ image may. record { log = read_log s; area = read_area s; holds = kept image may; fits = inl (refl, refl) };
  }
