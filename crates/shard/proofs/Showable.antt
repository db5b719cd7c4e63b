-- The versions of a core may be put on a board, also once a plan is carried out, and behind an opening.
use Rattle.std.proofs.Common.{◌≡◌, ℕ, ◌&&◌, true, refl, List, [], ◌∷◌, Ok, sym, ap, subst, ◌∙◌}
use Rattle.std.proofs.Math.Logic.{∥∥₁_elim, ∥∥₁_map}
use Rattle.std.proofs.Props.{props}
use Rattle.std.specs.List.{list_all}
use Rattle.units.specs.Limits.{most_rows}
use Rattle.units.specs.declared.setup.Setup.{Setup}
use Rattle.truetime.specs.Interval.{Interval}
use Rattle.record.specs.Accepted.{Accepted, taken}
use Rattle.record.specs.Facts.{Facts, facts_of, learn}
use Rattle.record.specs.declared.record.Record.{Record}
use Rattle.message.specs.declared.message.Input.{Input}
use Rattle.frames.specs.Placed.{Placed}
use Rattle.protocol.specs.Rows.{Memory, rebuilt}
use Rattle.protocol.specs.Plan.{carried}
use Rattle.protocol.specs.Sound.{IsSound}
use Rattle.protocol.specs.Step.{IsInLimit, facts_after, plan_input}
use Rattle.memory.specs.Kept.{Kept, start_of}
use Rattle.memory.specs.Plans.{plan_of}
use Rattle.memory.specs.declared.plan.Step.{Step}
use Rattle.recovery.specs.Recovered.{items}
use Rattle.ledger.specs.Keeps.{IsLasting}
use Rattle.ledger.specs.Laws.{TakenLasts}
use Rattle.protocol.specs.Showable.{IsShowable, KeepsShowable, StepKeepsShowable, TakenIsShowable, WritesAscend, record_ascends}

pub as-showable : (facts given : Facts) (memory held : Memory) → facts ≡ given → memory ≡ held → IsShowable given held → IsShowable facts memory
as-showable facts given memory held same also showable =
    subst (λ (f : Facts). IsShowable f memory) (sym same) (subst (λ (m : Memory). IsShowable given m) (sym also) showable)

-- a plan of an input leaves it so
module _ (k : Kept) (now : Interval) (i : Input) (p : Step) (limit : IsInLimit i) (ordered : WritesAscend i)
    (planned : plan_input k.setup (start_of k) now i ≡ Ok (plan_of k.memory.rows p)) where
  pub showable_then : StepKeepsShowable → ∥ IsSound k.setup.shard k.facts k.memory ∥₁ → IsShowable k.facts k.memory
      → IsShowable (facts_after k.facts p.logged) (carried (plan_of k.memory.rows p) k.memory)
  showable_then law sound showable =
      let kept : ∥ KeepsShowable k.facts k.memory p.logged (carried (plan_of k.memory.rows p) k.memory) ∥₁ =
      ∥∥₁_map sound (λ s. law most_rows k.setup k.facts k.memory now i (plan_of k.memory.rows p) limit ordered s showable planned) in
      record {
        entries = ∥∥₁_elim kept (hlevel props) (λ x. x.orderly.entries);
        rows = ∥∥₁_elim kept (hlevel props) (λ x. x.orderly.rows);
        installs = ∥∥₁_elim kept (hlevel props) (λ x. x.orderly.installs);
      }

-- the records of some entries
each_item : (entries : List Placed) → list_all record_ascends (items entries) ≡ list_all (λ e. record_ascends e.item) entries
each_item [] = refl
each_item (e ∷ es) = ap (λ b. record_ascends e.item && b) (each_item es)

-- so does a log that is taken
pub taken-showable : TakenIsShowable → (setup : Setup) (entries : List Placed) (k : Kept) → taken setup (items entries) ≡ Accepted
    → list_all (λ e. record_ascends e.item) entries ≡ true → k.facts ≡ facts_of (items entries) → k.memory ≡ rebuilt (facts_of (items entries))
    → IsShowable k.facts k.memory
taken-showable law setup entries k accepted up facts memory =
    as-showable k.facts _ k.memory _ facts memory (law setup (items entries) accepted (each_item entries ∙ up))

-- and what it tells may be renewed
pub taken-lasting : TakenLasts → (setup : Setup) (entries : List Placed) (facts : Facts) → taken setup (items entries) ≡ Accepted
    → list_all (λ e. record_ascends e.item) entries ≡ true → facts ≡ facts_of (items entries) → IsLasting facts
taken-lasting law setup entries facts accepted up is =
    subst IsLasting (sym is) (law setup (items entries) accepted (each_item entries ∙ up))

-- an opening changes no version and no row
pub opening-showable : (facts : Facts) (epoch : ℕ) → IsShowable facts (rebuilt facts)
    → IsShowable (learn facts (Record.Opened epoch)) (rebuilt (learn facts (Record.Opened epoch)))
unfolding learn rebuilt
opening-showable facts epoch showable = record { entries = showable.entries; rows = showable.rows; installs = showable.installs }
