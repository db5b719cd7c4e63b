use Rattle.std.proofs.Common.{◌≡◌, true, ◌++◌, [], ◌∷◌, sym, ap, ◌∙◌, subst}
use Rattle.units.specs.Keys.{has_key}
use Rattle.session.specs.declared.answered.Answered.{Answered}
use Rattle.session.specs.Shown.{Session, IsWithinLimits}
use Rattle.session.proofs.Kept.{kept_taken}
use Rattle.session.proofs.taking.Tx+Open.take_value.Goals as goal

pub invariant_of-self-2 : goal.invariant_of-self-2
invariant_of-self-2 c =
    let i = c.self.inside in
    let a = c.args.answer.now in
    let kept : Answered = record { key = a.key; shard = a.from; epoch = a.epoch; value = c.in_ok-kept.kept } in
    let awaited : has_key i.awaited.items a.key ≡ true =
    subst (λ (t : Session). has_key t.client.awaited a.key ≡ true) (sym c.self.view_is) c.requires.awaited in
    let pushed : c.push_reserved.new.self.items ≡ i.taken.items ++ kept ∷ [] =
    c.push_reserved.ensures.items ∙ ap (λ l. l ++ kept ∷ []) c.in_ok-reserve.ensures.items in
    subst (λ taken. IsWithinLimits taken c.drop_key.new.keys.items i.writes.items) (sym pushed)
    (subst (λ aw. IsWithinLimits (i.taken.items ++ kept ∷ []) aw i.writes.items) (sym c.drop_key.ensures.same)
    (kept_taken i.taken.items i.awaited.items i.writes.items kept c.self.invariant awaited))
