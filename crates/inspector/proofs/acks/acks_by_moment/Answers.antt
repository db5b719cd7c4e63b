use Rattle.std.specs.List.{list_any}
use Rattle.std.proofs.Common.{◌∙◌, List, ap, rules, subst, sym}
use Rattle.std.proofs.lemmas.List.Sorted.{answers_always, list_any-IsPermutation}
use Rattle.std.proofs.lemmas.Result.{IfOk-weaker}
use Rattle.inspector.specs.Acks.{AscendsByMoment, is_late_by}
use Rattle.inspector.specs.declared.acks.Ack.{Ack}
use Rattle.inspector.proofs.AckLaws.{is_late, late_is, late_lines, raised_ascends, sorted_ascends}
use Rattle.inspector.proofs.acks.acks_by_moment.Goals as goal

pub returns-clause-order : goal.returns-clause-order
returns-clause-order c =
    let up : AscendsByMoment c.deref.result.now = subst AscendsByMoment (sym c.deref.ensures.value)
    (sorted_ascends _ (c.in_ok-sort_by_key.ensures.sorted (λ a. a.moment) (answers_always _ _ _ (λ f a r g h. search rules)))) in
    IfOk-weaker c.raised.result _ _ (λ acks is. subst AscendsByMoment (sym is) (raised_ascends 0 c.deref.result.now up)) c.raised.ensures.raised

pub returns-clause-late : goal.returns-clause-late
returns-clause-late c =
    let up : AscendsByMoment c.deref.result.now = subst AscendsByMoment (sym c.deref.ensures.value)
    (sorted_ascends _ (c.in_ok-sort_by_key.ensures.sorted (λ a. a.moment) (answers_always _ _ _ (λ f a r g h. search rules)))) in
    IfOk-weaker c.raised.result _ _ (λ acks is moment at.
    ap (is_late_by moment at) is
    ∙ late_is moment at c.deref.result.now up
    ∙ ap (λ (l : List Ack). list_any (is_late moment at) l) c.deref.ensures.value
    ∙ sym (list_any-IsPermutation (is_late moment at) _ _ c.sort_by_key.ensures.permutation)
    ∙ ap (λ (l : List Ack). list_any (is_late moment at) l) c.in_ok-acks.ensures.acks
    ∙ late_lines moment at c.args.lines.now) c.raised.ensures.raised
