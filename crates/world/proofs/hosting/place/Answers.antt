use Rattle.std.proofs.Common.{◌≡◌, true, false, sym, ◌∙◌, arith}
use Rattle.world.specs.declared.begun.Begun.{Begun}
use Rattle.world.specs.declared.begun.Held.{Held}
use Rattle.world.proofs.Hosted.{not_placed, placed_by}
use Rattle.world.proofs.hosting.place.Goals.{else-at-begun-via-then-at-begun+else-eq, else-at-begun-via-else-at-begun}
use Rattle.world.proofs.hosting.place.Goals as goal

pub returns-in_default-clause-place : goal.returns-in_default-clause-place
returns-in_default-clause-place c same =
    not_placed c.args.begun.now c.args.ids.now.keys c.args.txn same (sym c.get_index_of.ensures.index ∙ c.in_default.is)

pub returns-then-eq-clause-place : goal.returns-then-eq-clause-place
returns-then-eq-clause-place c same =
    (placed_by c.args.begun.now c.args.ids.now.keys c.args.txn c.in-Some.at c.index-begun-at.result same (sym c.get_index_of.ensures.index ∙ c.in-Some.is)).0

pub returns-else-at-begun-clause-place : goal.returns-else-at-begun-clause-place
returns-else-at-begun-clause-place c same = elim c.else-at-begun.branch [
  | else-at-begun-via-then-at-begun+else-eq w ↦
      let p = placed_by c.args.begun.now c.args.ids.now.keys c.args.txn c.in-Some.at w.index-begun-at.result same
      (sym c.get_index_of.ensures.index ∙ c.in-Some.is) in
      let clash : true ≡ false = sym p.2 ∙ sym w.if-eq.ensures in
      cc
  | else-at-begun-via-else-at-begun w ↦
      let over : Begun = record { txn = c.args.txn; held = Held.Over } in
      let p = placed_by c.args.begun.now c.args.ids.now.keys c.args.txn c.in-Some.at over same (sym c.get_index_of.ensures.index ∙ c.in-Some.is) in
      absurd (omega (arith, p.1, w.if-at-begun.false))
]
