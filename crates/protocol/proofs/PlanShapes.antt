-- Each plan of a step has one of the shapes.
use Rattle.std.specs.List.{list_all}
use Rattle.std.proofs.Common.{refl, sym, subst, ap, ◌∙◌, ltb-false, leb-false}
use Rattle.std.specs.Prelude.{ℕ, ◌≡◌, Bool, true, false, not, cond, ◌&&◌, nat_eq, nat_lt, nat_le, List, [], Option, Some, None, Ok, Err}
use Rattle.std.proofs.lemmas.Bool.{and_parts, and_from}
use Rattle.units.specs.Lists.{head, when}
use Rattle.std.specs.List.{list_any}
use Rattle.units.specs.Ids.{Id, older}
use Rattle.record.specs.Accepted.{rises}
use Rattle.units.specs.ById.{IsById}
use Rattle.units.specs.Keys.{Bytes}
use Rattle.units.specs.Locks.{holds, is_free}
use Rattle.units.specs.declared.fault.Fault.TheVariants.{NotYet}
use Rattle.units.specs.declared.setup.Setup.{Setup}
use Rattle.units.specs.declared.writes.Write.{Write}
use Rattle.record.specs.declared.record.Record.{Record}
use Rattle.truetime.specs.Interval.{Interval}
use Rattle.record.specs.Facts.{Facts}
use Rattle.message.specs.declared.message.Commit.{Commit}
use Rattle.message.specs.declared.message.Message.{Message}
use Rattle.message.specs.declared.message.Prepare.{Prepare}
use Rattle.message.specs.declared.message.Input.{Input}
use Rattle.protocol.specs.Rows.{Memory, Phase, Collecting, IsPrepared, IsDecided, Voted, claims, held_in, needs_of, safe, with_vote}
use Rattle.protocol.specs.Plan.{idles, retires, serves, Plan, Planned, Before, start_of_step, is_crowded}
use Rattle.protocol.specs.Cells.{Cell, ToRefuse, ToRest, ToReply, Provided, ToRead, ToPrepare, ToCommit, ToEnd, ToAbort, ToAbortFor, ToCount, ToClose, ToGoOn}
use Rattle.protocol.specs.Cells.{ToSettle, ToServe, ToForget, ToRetire, plan_count, plan_advance, plan_forget, plan_retire, plan_cell}
use Rattle.protocol.specs.Sound.{fits, holds_writes}
use Rattle.protocol.specs.Step.{is_for, cell, plan_input}
use Rattle.protocol.proofs.CellsFrom.{IsIn, IsNext, IsFrom, cell_is_from}
use Rattle.protocol.proofs.Each.{planned, refused, told_plan, tested, either}
use Rattle.protocol.proofs.RowChanges.{row_as}
use Rattle.protocol.proofs.InWay.{row_at, room_at, free_of_nothing, free_when_ready}
use Rattle.protocol.proofs.Shapes.{Shaped, Answers, IsEnd, IsAbort, IsClose, IsSettle, IsLock, IsCleared, ShapeOf, Acts, IsAdvance, IsForget, IsRetire, ShapedBy}
use Rattle.protocol.proofs.Shapes.{is_undecided, is_loose, reads_held, all_fit, granted_to}
use Rattle.protocol.proofs.Choices.{Ascends, shaped_reply, fits_at, clear, held_at}
use Rattle.protocol.proofs.RequestShapes.{shaped_read_row, shaped_prepare_fresh, shaped_abort, shaped_decide, shaped_granted, shaped_commit_fresh}

-- ---- what a row says

row_fits : (b : Before) (t : Id) (phase : Phase) (in_row : IsIn b t phase) → all_fit b → fits b.shard (row_as t in_row.held phase) ≡ true
row_fits b t phase in_row = fits_at b t in_row.held phase in_row.row

row_room : (b : Before) (t : Id) (phase : Phase) → IsIn b t phase → is_crowded b t ≡ false
row_room b t phase in_row = room_at b t _ (row_at b t in_row.held phase in_row.row)

-- what the row waits for is free, where it is the one that is ready
row_free : (b : Before) (t : Id) (phase : Phase) → Ascends b → IsNext b t phase → is_free (claims b.memory.rows) t (needs_of phase) ≡ true
row_free b t phase up ready = free_when_ready b.memory.rows t (row_as t ready.waits.held phase) up ready.next
    (row_at b t ready.waits.held phase ready.waits.row)

-- ---- cells of rows

shaped_count : (b : Before) (n : ℕ) (t : Id) (vote : Option ℕ) (latest : ℕ) (ps : List ℕ) (rs : List Bytes) (ws : List Write) (votes : List Voted)
    → IsIn b t (Collecting latest ps rs ws votes) → Shaped b (plan_count b n t vote latest ps rs ws votes)
unfolding plan_count
shaped_count b n t None latest ps rs ws votes in_row = shaped_abort b t ps (ap is_undecided in_row.row)
shaped_count b n t (Some p) latest ps rs ws votes in_row =
    let phase : Phase = Collecting latest ps rs ws votes in
    let same : held_in b.memory.rows t ≡ in_row.held = held_at b t in_row.held phase in_row.row in
    let fitting : all_fit b → (when (nat_eq b.shard) (head ps) && (list_all (holds in_row.held) rs && holds_writes in_row.held ws)) ≡ true =
    row_fits b t phase in_row in
    let first : all_fit b → when (nat_eq b.shard) (head ps) ≡ true = λ f. (and_parts _ _ (fitting f)).0 in
    let read : all_fit b → reads_held b t rs = λ f. ap (λ ls. list_all (holds ls) rs) same ∙ (and_parts _ _ (and_parts _ _ (fitting f)).1).0 in
    let alone : all_fit b → holds_writes (granted_to b t [] []) ws ≡ true =
    λ f. ap (λ ls. holds_writes ls ws) same ∙ (and_parts _ _ (and_parts _ _ (fitting f)).1).1 in
    let room : is_crowded b t ≡ false = row_room b t phase in_row in
    let nobody : IsCleared b.memory.rows t [] [] = clear b t [] (free_of_nothing (claims b.memory.rows) t) in
    either _ _ _
    (shaped_decide b [] t latest ps rs ws [] (with_vote n p votes) nobody (ap is_undecided in_row.row) first read alone room)
    (planned _ (IsLock t [] [] (Collecting latest ps rs ws (with_vote n p votes)) [] (record {
      cleared = nobody;
      undecided = ap is_undecided in_row.row;
      firmer = refl;
      opened = refl;
      quiet = refl;
      fit = λ f. and_from _ _ (first f) (and_from _ _ (read f) (alone f));
      room = room;
    }) refl))

shaped_advance : (b : Before) (latest stride at : ℕ) → ShapedBy b (Input.Advance at) (plan_advance b latest stride at)
unfolding plan_advance
shaped_advance b latest stride at = either _ _ _ (refused _ tt) (planned _ (IsAdvance stride at refl refl))

shaped_forget : (b : Before) (at : ℕ) → ShapedBy b (Input.Forget at) (plan_forget b at)
unfolding plan_forget
shaped_forget b at = by_tests (nat_lt (safe b.memory) at) refl (nat_le at b.facts.horizon) refl
  where
    by_tests : (late : Bool) → nat_lt (safe b.memory) at ≡ late → (known : Bool) → nat_le at b.facts.horizon ≡ known →
        ShapedBy b (Input.Forget at) (cond late (Err NotYet) (cond known (Ok (idles b)) (Ok (serves (Some (Record.Horizon at)) b.memory.last))))
    by_tests true k known h = refused _ tt
    by_tests false k true h = planned _ (Acts (Answers [] refl))
    by_tests false k false h = planned _ (IsForget at refl (ltb-false (safe b.memory) at k) (leb-false at b.facts.horizon h) refl)

shaped_retire : (b : Before) (below : Id) → ShapedBy b (Input.Retire below) (plan_retire b below)
unfolding plan_retire
shaped_retire b below = by_tests (list_any (λ r. older r.txn below) b.memory.rows) refl (rises b.facts.retired below) refl
  where
    by_tests : (stand : Bool) → list_any (λ r. older r.txn below) b.memory.rows ≡ stand → (up : Bool) → rises b.facts.retired below ≡ up →
        ShapedBy b (Input.Retire below) (cond stand (Err NotYet) (cond up (Ok (retires below b.memory.last)) (Ok (idles b))))
    by_tests true k up h = refused _ tt
    by_tests false k true h = planned _ (IsRetire below refl k h refl)
    by_tests false k false h = planned _ (Acts (Answers [] refl))

-- ---- all cells

-- the coordinator of a prepare that is for this shard is below it
lower : (setup : Setup) (m : Prepare) → is_for setup (Message.Prepare m) ≡ true → nat_lt m.coordinator setup.shard ≡ true
unfolding is_for
lower setup m own = (and_parts _ _ own).1

-- the first part of a commit that is for this shard is it
first_part : (setup : Setup) (m : Commit) → is_for setup (Message.Commit m) ≡ true → when (nat_eq setup.shard) (head m.parts) ≡ true
unfolding is_for
first_part setup m own = (and_parts _ _ own).1

module _ (rows : ℕ) (setup : Setup) (facts : Facts) (memory : Memory) (now : Interval) (i : Input) (up : IsById (λ r. r.txn) memory.rows) where
  abbrev b : Before
  b = start_of_step rows setup facts memory

  acts : (plan : Planned) → Shaped b plan → ShapedBy b i plan
  acts (Ok p) h = planned _ (Acts h.each)
  acts (Err fault) h = refused _ tt

  shaped : (c : Cell) → IsFrom setup b now i c → ShapedBy b i (plan_cell b c)
  shaped ToRefuse from = refused _ tt
  shaped ToRest from = acts _ (shaped_reply b [])
  shaped (ToReply e) from = acts _ (shaped_reply b _)
  shaped (Provided test c) from = tested test _ _ (λ e. shaped c (from e)) (refused _ tt)
  shaped (ToRead t k held waits) from = acts _ (shaped_read_row b t k held waits up from.loose)
  shaped (ToPrepare earliest m held) from =
      acts _ (shaped_prepare_fresh b earliest m held up from.1.loose (lower setup m from.0.own) from.1.holds)
  shaped (ToCommit latest m held) from =
      acts _ (shaped_commit_fresh b latest m held up from.1.0.loose (first_part setup m from.0.own) from.1.0.holds)
  shaped (ToEnd t cs) from = acts _ (planned _ (IsEnd t _ from refl))
  shaped (ToAbort t ps) from = acts _ (shaped_abort b t ps from.0)
  shaped (ToAbortFor n t) from = acts _ (planned _ (IsAbort t _ from.0 refl))
  shaped (ToCount n t vote l ps rs ws votes) from = acts _ (shaped_count b n t vote l ps rs ws votes from.1)
  shaped (ToClose t outcome) from =
      let promised = IsPrepared from.coordinator from.at in
      acts _ (planned _ (IsClose t from.from from.coordinator from.at from.promised.held outcome []
      (row_at b t from.promised.held promised from.promised.row) from.allowed refl))
  shaped (ToGoOn earliest t wait) from =
      acts _ (shaped_granted b [] earliest t wait (clear b t (needs_of wait) (row_free b t wait up from))
      (λ slack. ap is_loose from.waits.row ∙ ap not slack)
      (λ f. ap (λ ls. fits b.shard (row_as t ls wait)) (held_at b t from.waits.held wait from.waits.row) ∙ row_fits b t wait from.waits f)
      (row_room b t wait from.waits))
  shaped (ToSettle earliest t s ps) from =
      acts _ (either _ _ _ (planned _ (IsSettle t s ps from.0.held _ (row_at b t from.0.held (IsDecided s ps) from.0.row) refl)) (refused _ tt))
  shaped (ToServe latest stride at) from =
      subst (λ j. ShapedBy b j (plan_advance b latest stride at)) (sym from) (shaped_advance b latest stride at)
  shaped (ToForget at) from = subst (λ j. ShapedBy b j (plan_forget b at)) (sym from) (shaped_forget b at)
  shaped (ToRetire below) from = subst (λ j. ShapedBy b j (plan_retire b below)) (sym from) (shaped_retire b below)

-- each plan of a step has a shape
pub shape_of : (rows : ℕ) (setup : Setup) (facts : Facts) (memory : Memory) (now : Interval) (i : Input) (p : Plan) → IsById (λ r. r.txn) memory.rows
    → plan_input setup (start_of_step rows setup facts memory) now i ≡ Ok p → ShapeOf (start_of_step rows setup facts memory) i p
unfolding plan_input
shape_of rows setup facts memory now i p up e =
    let b : Before = start_of_step rows setup facts memory in
    told_plan (shaped rows setup facts memory now i up (cell setup b now i) (cell_is_from setup b now i)) e
