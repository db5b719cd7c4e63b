use Rattle.std.proofs.Common.{◌≡◌, ◌∙◌, ◌+◌, ◌||◌, ◌∷◌, List, drop, ap, sym}
use Rattle.std.proofs.lemmas.List.{drop_more}
use Rattle.units.specs.Keys.{writes_key}
use Rattle.units.specs.declared.writes.Write.{Write}
use Rattle.units.proofs.writes.Writes.writes_key.Goals as goal

pub loop-write-preserved : goal.loop-write-preserved
loop-write-preserved c =
    let items = c.deref-write-items.result.now in
    let at = c.loop-write.write-index in
    let rest = drop (at + 1) items in
    let there : drop at items ≡ c.write-item.result ∷ rest =
    drop_more items at c.write-item.result c.loop-write-test.true ∙ ap (λ (w : Write). w ∷ rest) (sym c.write-item.is) in
    sym (ap (λ (l : List Write). writes_key l c.args.key.now) there
    ∙ ap (λ b. b || writes_key rest c.args.key.now) (sym c.eq.ensures ∙ c.if-eq.false))
    ∙ c.loop-write.invariant
