-- Steps over logs that are alike are the same: a step reads versions by the latest value of a key alone.
use Rattle.std.proofs.Common.{◌≡◌, ℕ, cond, List, [], ◌∷◌, Option, None, refl, sym, ap, ◌∙◌}
use Rattle.std.specs.Prelude.{Ok, Err}
use Rattle.units.specs.Lists.{follow}
use Rattle.units.specs.Ids.{Id}
use Rattle.units.specs.Keys.{Bytes}
use Rattle.units.specs.Locks.{holds}
use Rattle.units.specs.Versions.{latest}
use Rattle.units.specs.declared.fault.Fault.TheVariants.{Stranger}
use Rattle.units.specs.declared.lock.Lock.{Lock}
use Rattle.units.specs.declared.setup.Setup.{Setup}
use Rattle.units.specs.declared.writes.Install.{Install}
use Rattle.record.specs.Facts.{TxnStatus, facts_with}
use Rattle.truetime.specs.Interval.{Interval}
use Rattle.message.specs.declared.message.Answer.TheVariants.{Holds}
use Rattle.message.specs.declared.message.Input.{Input}
use Rattle.protocol.specs.Rows.{Memory, Phase, Idle, WaitsRead, needs_of, standing}
use Rattle.protocol.specs.Outputs.{answer_to}
use Rattle.protocol.specs.Step.{stepped, step_within, cell, plan_input}
use Rattle.protocol.specs.Plan.{Before, Plan, start_of_step, in_way, opens, is_crowded, roomed, puts, replies, idles}
use Rattle.protocol.specs.Cells.{Cell, Provided, ToRead, ToGoOn, answers, to_read, plan_read_row, plan_prepare_fresh, plan_promise, plan_abort, plan_decide}
use Rattle.protocol.specs.Cells.{plan_commit_granted, plan_commit_fresh, plan_count, plan_advance, plan_forget, plan_retire, plan_granted, plan_asks, plan_cell}
use Rattle.versions.proofs.Newest.{latest_is}
use Rattle.versions.specs.Places.{SameVersions}
use Rattle.ledger.specs.Laws.{AlikeSteps}

module _ (rows shard epoch floor : ℕ) (es : List TxnStatus) (is js : List Install) (horizon : ℕ) (retired : Option Id) (memory : Memory)
    (same : (k : Bytes) → latest is k ≡ latest js k) where
  abbrev one : Before
  one = record { capacity = rows; shard = shard; facts = facts_with epoch floor es is horizon retired; memory = memory }

  abbrev other : Before
  other = record { capacity = rows; shard = shard; facts = facts_with epoch floor es js horizon retired; memory = memory }

  same-answer : (t : Id) (k : Bytes) → answers one t k ≡ answers other t k
  same-answer t k = ap (λ v. answer_to shard t k epoch (Holds v)) (same k)

  same-granted : (ended : List Id) (earliest : ℕ) (t : Id) (wait : Phase) → plan_granted one ended earliest t wait ≡ plan_granted other ended earliest t wait
  unfolding plan_granted plan_promise plan_commit_granted plan_decide
  same-granted ended earliest t (WaitsRead k) = λ i. Ok (puts one ended t (to_read k) Idle None memory.last (same-answer t k i ∷ []))
  same-granted ended earliest t _ = refl

  same-asks : (earliest : ℕ) (t : Id) (wait : Phase) → plan_asks one earliest t wait ≡ plan_asks other earliest t wait
  unfolding plan_asks
  same-asks earliest t wait =
      let needs : List Lock = needs_of wait in
      let waits : Plan = puts one (in_way one t needs) t [] wait None memory.last [] in
      λ i. roomed (is_crowded one t) (cond (opens one t needs) (same-granted (in_way one t needs) earliest t wait i) (Ok waits))

  same-plan : (c : Cell) → plan_cell one c ≡ plan_cell other c
  unfolding plan_read_row plan_prepare_fresh plan_promise plan_commit_fresh plan_commit_granted plan_decide plan_abort plan_asks plan_granted plan_count
      plan_advance plan_forget plan_retire
  same-plan (Provided test c) = λ i. cond test (same-plan c i) (Err Stranger)
  same-plan (ToRead t k held waits) =
      λ i. cond (holds held k) (Ok (replies one (same-answer t k i ∷ []))) (cond waits (Ok (idles one)) (same-asks 0 t (WaitsRead k) i))
  same-plan (ToGoOn earliest t wait) = same-granted [] earliest t wait
  same-plan _ = refl

  -- the cells are the same: they are told from the rows and the statuses
  same-cell : (setup : Setup) (now : Interval) (i : Input) → cell setup one now i ≡ cell setup other now i
  unfolding standing
  same-cell setup now (Input.Deliver m) = refl
  same-cell setup now _ = refl

  same-input : (setup : Setup) (now : Interval) (i : Input) → plan_input setup one now i ≡ plan_input setup other now i
  unfolding plan_input
  same-input setup now i = same-plan (cell setup one now i) ∙ ap (plan_cell other) (same-cell setup now i)

same-latest : (h : ℕ) (a b : List Install) → SameVersions h a b → (k : Bytes) → latest a k ≡ latest b k
same-latest h a b same k = latest_is k a ∙ ap (λ found. follow found (λ i. i.value)) (same.now k) ∙ sym (latest_is k b)

pub same-step : AlikeSteps
unfolding step_within
same-step rows setup a b memory now i h =
    ap (stepped memory)
    ((λ j. plan_input setup
    (start_of_step rows setup (facts_with (h.epoch j) (h.floor j) (h.entries j) a.installs (h.horizon j) (h.retired j)) memory) now i)
    ∙ same-input rows setup.shard b.epoch b.floor b.entries a.installs b.installs b.horizon b.retired memory
    (same-latest a.horizon a.installs b.installs h.versions) setup now i)
