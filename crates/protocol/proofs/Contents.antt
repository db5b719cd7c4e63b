-- Reads and writes that a plan puts into a row or a record are those of the message or of a row that stands, so what is
-- told of them is told of these too; and a step refuses for reasons of its own.
use Rattle.std.proofs.Common.{refl, sym, subst, ◌∙◌}
use Rattle.std.specs.Prelude.{ℕ, ◌+◌, ◌≡◌, Bool, true, false, not, cond, max, nat_lt, List, [], ◌∷◌, Option, Some, None, Ok}
use Rattle.std.specs.List.{AllByRecursion, list_all}
use Rattle.units.specs.Ids.{Id, same_id}
use Rattle.units.specs.Keys.{Bytes}
use Rattle.units.specs.declared.fault.Fault.TheVariants.{TimeSpent, Future, NotYet, Early, Stranger}
use Rattle.units.specs.declared.lock.Lock.{Lock}
use Rattle.units.specs.declared.setup.Setup.{Setup}
use Rattle.units.specs.declared.writes.Write.{Write}
use Rattle.units.proofs.ByIdLaws.{all-with, found_all}
use Rattle.units.proofs.ListLaws.{all_of_each, each_of_all, all-keep}
use Rattle.truetime.specs.Interval.{Interval}
use Rattle.record.specs.declared.record.Record.{Record}
use Rattle.message.specs.declared.message.Commit.{Commit}
use Rattle.message.specs.declared.message.Input.{Input}
use Rattle.message.specs.declared.message.Message.{Message}
use Rattle.message.specs.declared.message.Prepare.{Prepare}
use Rattle.protocol.specs.Outputs.{promise, decision}
use Rattle.protocol.specs.Refusals.{is_own}
use Rattle.protocol.specs.Rows.{Memory, Row, Phase, Idle, WaitsRead, WaitsPrepare, WaitsCommit, Collecting, IsPrepared, IsDecided, Voted, with_vote}
use Rattle.protocol.specs.Rows.{without_row, without_rows}
use Rattle.protocol.specs.Plan.{Before, Change, Keeps, Ends, Drops, Puts, Retires, Plan, Planned, carried, after_change}
use Rattle.protocol.specs.Cells.{Cell, ToRefuse, ToRest, ToReply, Provided, ToRead, ToPrepare, ToCommit, ToEnd, ToAbort, ToAbortFor, ToCount, ToClose, ToGoOn}
use Rattle.protocol.specs.Cells.{ToSettle, ToServe, ToForget, ToRetire, commit_stamp, other_parts, plan_abort, plan_advance, plan_asks, plan_cell, plan_commit_fresh}
use Rattle.protocol.specs.Cells.{plan_commit_granted, plan_count, plan_decide, plan_forget, plan_retire, plan_granted, plan_prepare_fresh, plan_promise, plan_read_row}
use Rattle.protocol.specs.Step.{is_for, cell, plan_input}
use Rattle.protocol.proofs.CellsFrom.{IsHeard, IsIn, IsFrom, cell_is_from}
use Rattle.protocol.proofs.Each.{Each, planned, refused, tested, either, within_room}
use Rattle.protocol.proofs.InWay.{row_at}
use Rattle.protocol.proofs.RowChanges.{row_as}
use Rattle.protocol.proofs.RowTable.{with_row-is}

-- What is told of rows and of records is what is told of the reads and writes in them, and nothing where there are none.
pub record Fits (P : List Bytes → List Write → Bool) (named : Phase → Bool) (noted : Record → Bool) : Type 0 where
  pub idle : named Idle ≡ true
  pub reading : (k : Bytes) → named (WaitsRead k) ≡ true
  pub preparing : (c : ℕ) (rs : List Bytes) (ws : List Write) → named (WaitsPrepare c rs ws) ≡ P rs ws
  pub committing : (l : ℕ) (ps : List ℕ) (rs : List Bytes) (ws : List Write) → named (WaitsCommit l ps rs ws) ≡ P rs ws
  pub collecting : (l : ℕ) (ps : List ℕ) (rs : List Bytes) (ws : List Write) (votes : List Voted) → named (Collecting l ps rs ws votes) ≡ P rs ws
  pub prepared : (c p : ℕ) → named (IsPrepared c p) ≡ true
  pub decided : (s : ℕ) (ps : List ℕ) → named (IsDecided s ps) ≡ true
  pub promised : (t : Id) (c p : ℕ) (rs : List Bytes) (ws : List Write) → noted (promise t c p rs ws) ≡ P rs ws
  pub decides : (t : Id) (s : ℕ) (ps : List ℕ) (rs : List Bytes) (ws : List Write) → noted (decision t s ps rs ws) ≡ P rs ws
  pub aborted : (t : Id) → noted (Record.Abort t) ≡ true
  pub outcomes : (t : Id) (outcome : Option ℕ) → noted (Record.Outcome t outcome) ≡ true
  pub ceilings : (at : ℕ) → noted (Record.Ceiling at) ≡ true
  pub horizons : (at : ℕ) → noted (Record.Horizon at) ≡ true
  pub retirements : (below : Id) → noted (Record.Retired below) ≡ true

-- so of what a message brings
abbrev pub Brings : (List Bytes → List Write → Bool) → Message → Type 0
Brings P (Message.Prepare p) = P p.reads.keys p.writes ≡ true
Brings P (Message.Commit c) = P c.reads.keys c.writes ≡ true
Brings P _ = Unit {0}

module _ (P : List Bytes → List Write → Bool) (named : Phase → Bool) (noted : Record → Bool) (fits : Fits P named noted) where
  -- ---- plans

  -- the row that is put
  abbrev pub change_told : Change → Bool
  change_told (Puts t needs phase) = named phase
  change_told _ = true

  -- and the record that is logged
  abbrev pub logged_told : Option Record → Bool
  logged_told None = true
  logged_told (Some r) = noted r

  -- each row
  abbrev pub all_told : List Row → Bool
  all_told rows = list_all (λ r. named r.phase) rows

  -- so of a plan; and a refusal is for a reason of the step's own
  abbrev pub Told : Planned → Type 0
  Told = Each (λ p. (change_told p.change ≡ true) × (logged_told p.logged ≡ true)) (λ fault. is_own fault ≡ true)

  told : (p : Plan) → change_told p.change ≡ true → logged_told p.logged ≡ true → Told (Ok p)
  told p c l = planned p (c, l)

  -- ---- requests

  walk_promise : (b : Before) (ended : List Id) (earliest : ℕ) (t : Id) (c : ℕ) (rs : List Bytes) (ws : List Write) → P rs ws ≡ true
      → Told (plan_promise b ended earliest t c rs ws)
  unfolding plan_promise
  walk_promise b ended earliest t c rs ws own =
      let p : ℕ = max (b.memory.last + 1) earliest in
      either _ _ _ (told _ (fits.prepared c p) (fits.promised t c p rs ws ∙ own)) (refused TimeSpent refl)

  walk_abort : (b : Before) (t : Id) (ps : List ℕ) → Told (Ok (plan_abort b t ps))
  unfolding plan_abort
  walk_abort b t ps = told _ refl (fits.aborted t)

  walk_decide : (b : Before) (ended : List Id) (t : Id) (latest : ℕ) (ps : List ℕ) (rs : List Bytes) (ws : List Write) (needs : List Lock) (votes : List Voted)
      → P rs ws ≡ true → Told (plan_decide b ended t latest ps rs ws needs votes)
  unfolding plan_decide
  walk_decide b ended t latest ps rs ws needs votes own =
      let s : ℕ = commit_stamp b.memory.last latest votes in
      either _ _ _ (told _ (fits.decided s ps) (fits.decides t s ps rs ws ∙ own)) (refused TimeSpent refl)

  walk_commit_granted : (b : Before) (ended : List Id) (t : Id) (latest : ℕ) (ps : List ℕ) (rs : List Bytes) (ws : List Write) (ns : List ℕ) →
      P rs ws ≡ true
      → Told (plan_commit_granted b ended t latest ps rs ws ns)
  unfolding plan_commit_granted
  walk_commit_granted b ended t latest ps rs ws [] own = walk_decide b ended t latest ps rs ws _ [] own
  walk_commit_granted b ended t latest ps rs ws (n ∷ ns) own = told _ (fits.collecting latest ps rs ws [] ∙ own) refl

  walk_granted : (b : Before) (ended : List Id) (earliest : ℕ) (t : Id) (wait : Phase) → named wait ≡ true → Told (plan_granted b ended earliest t wait)
  unfolding plan_granted
  walk_granted b ended earliest t (WaitsRead k) own = told _ fits.idle refl
  walk_granted b ended earliest t (WaitsPrepare c rs ws) own = walk_promise b ended earliest t c rs ws (sym (fits.preparing c rs ws) ∙ own)
  walk_granted b ended earliest t (WaitsCommit l ps rs ws) own =
      walk_commit_granted b ended t l ps rs ws (other_parts b.shard ps) (sym (fits.committing l ps rs ws) ∙ own)
  walk_granted b ended earliest t _ own = told _ refl refl

  walk_asks : (b : Before) (earliest : ℕ) (t : Id) (wait : Phase) → named wait ≡ true → Told (plan_asks b earliest t wait)
  unfolding plan_asks
  walk_asks b earliest t wait own = within_room _ _ refl (either _ _ _ (walk_granted b _ earliest t wait own) (told _ own refl))

  walk_read_row : (b : Before) (t : Id) (k : Bytes) (held : List Lock) (waits : Bool) → Told (plan_read_row b t k held waits)
  unfolding plan_read_row
  walk_read_row b t k held waits = either _ _ _ (told _ refl refl) (either waits _ _ (told _ refl refl) (walk_asks b 0 t (WaitsRead k) (fits.reading k)))

  walk_prepare_fresh : (b : Before) (earliest : ℕ) (m : Prepare) (held : List Lock) → P m.reads.keys m.writes ≡ true
      → Told (plan_prepare_fresh b earliest m held)
  unfolding plan_prepare_fresh
  walk_prepare_fresh b earliest m held own =
      either _ _ _ (walk_asks b earliest m.txn _ (fits.preparing m.coordinator m.reads.keys m.writes ∙ own)) (told _ refl refl)

  walk_commit_fresh : (b : Before) (latest : ℕ) (m : Commit) (held : List Lock) → P m.reads.keys m.writes ≡ true
      → Told (plan_commit_fresh b latest m held)
  unfolding plan_commit_fresh
  walk_commit_fresh b latest m held own =
      either _ _ _ (either _ _ _ (walk_asks b 0 m.txn _ (fits.committing latest m.parts m.reads.keys m.writes ∙ own)) (refused TimeSpent refl))
      (walk_abort b m.txn m.parts)

  -- ---- votes, served time

  walk_count : (b : Before) (n : ℕ) (t : Id) (vote : Option ℕ) (latest : ℕ) (ps : List ℕ) (rs : List Bytes) (ws : List Write) (votes : List Voted)
      → P rs ws ≡ true → Told (plan_count b n t vote latest ps rs ws votes)
  unfolding plan_count
  walk_count b n t None latest ps rs ws votes own = walk_abort b t ps
  walk_count b n t (Some p) latest ps rs ws votes own =
      either _ _ _ (walk_decide b [] t latest ps rs ws [] _ own) (told _ (fits.collecting latest ps rs ws (with_vote n p votes) ∙ own) refl)

  walk_advance : (b : Before) (latest stride at : ℕ) → Told (plan_advance b latest stride at)
  unfolding plan_advance
  walk_advance b latest stride at = either _ _ _ (refused Future refl) (told _ refl (by_test (nat_lt b.facts.floor at) _))
    where
      by_test : (high : Bool) (n : ℕ) → logged_told (cond high (Some (Record.Ceiling n)) None) ≡ true
      by_test true n = fits.ceilings n
      by_test false n = refl

  walk_forget : (b : Before) (at : ℕ) → Told (plan_forget b at)
  unfolding plan_forget
  walk_forget b at = either _ _ _ (refused NotYet refl) (either _ _ _ (told _ refl refl) (told _ refl (fits.horizons at)))

  walk_retire : (b : Before) (below : Id) → Told (plan_retire b below)
  unfolding plan_retire
  walk_retire b below = either _ _ _ (refused NotYet refl) (either _ _ _ (told _ refl (fits.retirements below)) (told _ refl refl))

  -- ---- all cells

  module _ (setup : Setup) (b : Before) (now : Interval) (i : Input) (rows : all_told b.memory.rows ≡ true)
      (brought : (m : Message) → i ≡ Input.Deliver m → is_for setup m ≡ true → Brings P m) where
    -- the phase of a row that stands is told
    in_row : (t : Id) (phase : Phase) → IsIn b t phase → named phase ≡ true
    in_row t phase row =
        found_all (λ r. named r.phase ≡ true) (λ (r : Row). r.txn) b.memory.rows t (row_as t row.held phase)
        (all_of_each (λ (r : Row). named r.phase) b.memory.rows rows) (row_at b t row.held phase row.row)

    -- and what a message brings that is for this shard
    heard : (m : Message) → IsHeard setup i m → Brings P m
    heard m h = brought m h.input h.own

    walk : (c : Cell) → IsFrom setup b now i c → Told (plan_cell b c)
    walk ToRefuse from = refused Stranger refl
    walk ToRest from = told _ refl refl
    walk (ToReply e) from = told _ refl refl
    walk (Provided test c) from = tested test _ _ (λ e. walk c (from e)) (refused Stranger refl)
    walk (ToRead t k held waits) from = walk_read_row b t k held waits
    walk (ToPrepare earliest m held) from = walk_prepare_fresh b earliest m held (heard (Message.Prepare m) from.0)
    walk (ToCommit latest m held) from = walk_commit_fresh b latest m held (heard (Message.Commit m) from.0)
    walk (ToEnd t cs) from = told _ refl refl
    walk (ToAbort t ps) from = walk_abort b t ps
    walk (ToAbortFor n t) from = told _ refl (fits.aborted t)
    walk (ToCount n t vote l ps rs ws votes) from =
        walk_count b n t vote l ps rs ws votes (sym (fits.collecting l ps rs ws votes) ∙ in_row t _ from.1)
    walk (ToClose t outcome) from = told _ refl (fits.outcomes t outcome)
    walk (ToGoOn earliest t wait) from = walk_granted b [] earliest t wait (in_row t wait from.waits)
    walk (ToSettle earliest t s ps) from = either _ _ _ (told _ refl (fits.outcomes t (Some s))) (refused Early refl)
    walk (ToServe latest stride at) from = walk_advance b latest stride at
    walk (ToForget at) from = walk_forget b at
    walk (ToRetire below) from = walk_retire b below

  -- each input, where a message that is for this shard brings what is told
  pub walked : (setup : Setup) (b : Before) (now : Interval) (i : Input) → all_told b.memory.rows ≡ true
      → ((m : Message) → i ≡ Input.Deliver m → is_for setup m ≡ true → Brings P m) → Told (plan_input setup b now i)
  unfolding plan_input
  walked setup b now i rows brought = walk setup b now i rows brought (cell setup b now i) (cell_is_from setup b now i)

  -- ---- the rows after a plan

  -- each row is told
  abbrev AllTold : List Row → Type 0
  AllTold rows = AllByRecursion (λ (r : Row). named r.phase ≡ true) rows

  rows-without_row : (rows : List Row) (t : Id) → AllTold rows → AllTold (without_row rows t)
  rows-without_row rows t own = all-keep (λ (r : Row). named r.phase ≡ true) (λ (r : Row). not (same_id r.txn t)) rows own

  rows-without_rows : (rows : List Row) (us : List Id) → AllTold rows → AllTold (without_rows rows us)
  rows-without_rows rows [] own = own
  rows-without_rows rows (u ∷ us) own = rows-without_rows (without_row rows u) us (rows-without_row rows u own)

  rows-changed : (c : Change) (rows : List Row) → change_told c ≡ true → AllTold rows → AllTold (after_change c rows)
  unfolding after_change
  rows-changed Keeps rows e own = own
  rows-changed (Ends t) rows e own = rows-without_row rows t own
  rows-changed (Drops t) rows e own = rows-without_row rows t own
  rows-changed (Retires below) rows e own = own
  rows-changed (Puts t needs phase) rows e own =
      subst AllTold (sym (with_row-is rows _)) (all-with (λ (r : Row). named r.phase ≡ true) (λ (r : Row). r.txn) rows _ e own)

  pub rows-carried : (p : Plan) (m : Memory) → change_told p.change ≡ true → all_told m.rows ≡ true → all_told (carried p m).rows ≡ true
  unfolding carried
  rows-carried p m e own =
      each_of_all (λ (r : Row). named r.phase) _
      (rows-changed p.change (without_rows m.rows p.wounded) e (rows-without_rows m.rows p.wounded
      (all_of_each (λ (r : Row). named r.phase) m.rows own)))
