use Rattle.std.proofs.Common.{◌∙◌, ◌<◌, ◌^◌, ap, ap₂, arith, length, length-take-le, subst, sym, take}
use Rattle.std.proofs.lemmas.List.{length-map}
use Rattle.frames.specs.Placed.{Placed}
use Rattle.recovery.specs.Recovered.{items}
use Rattle.showing.specs.Counting.{all_kinds, kinds_of, with_kind}
use Rattle.showing.specs.declared.kinds.Kinds.{Kinds}
use Rattle.showing.proofs.Accepting.{next_items}
use Rattle.showing.proofs.Counted.{kinds_few, kinds_more}
use Rattle.showing.proofs.kinds.kinds_of.Goals as goal

pub count-requires : goal.count-requires
count-requires c =
    let es = c.args.entries.now in
    let i = c.loop-entry.entry-index in
    let few : length (items (take i es)) < 2 ^ 63 =
    omega (arith, length-map (take i es) (λ (e : Placed). e.item), length-take-le i es (omega arith)) in
    subst (λ (k : Kinds). all_kinds k < 2 ^ 63) (sym c.loop-entry.invariant) (kinds_few (items (take i es)) (2 ^ 63) few)

pub loop-entry-preserved : goal.loop-entry-preserved
loop-entry-preserved c =
    c.count.ensures ∙ ap₂ with_kind c.loop-entry.invariant c.item.ensures
    ∙ sym (kinds_more (items (take c.loop-entry.entry-index c.args.entries.now)) c.entry-item.result.item)
    ∙ sym (ap kinds_of (next_items c.args.entries.now c.loop-entry.entry-index c.entry-item.result c.loop-entry-test.true c.entry-item.is))
