use Rattle.std.proofs.Common.{◌≡◌, ◌+◌, ◌==◌, ◌∙◌, ℕ, List, ◌∷◌, cond, not, drop, ap, sym, arith}
use Rattle.std.specs.List.{position_or_len}
use Rattle.std.proofs.lemmas.List.{drop_more}
use Rattle.safetime.proofs.place.Goals as goal

pub loop-place-preserved : goal.loop-place-preserved
loop-place-preserved c =
    let holds = c.args.holds.now in
    let at = c.loop-place.place in
    let x = c.index-holds-place.result in
    let rest = drop (at + 1) holds in
    let first = λ (l : List ℕ). position_or_len (λ hold. hold == c.args.at) l in
    let there : drop at holds ≡ x ∷ rest =
    drop_more holds at x c.loop-place-test.true ∙ ap (λ (h : ℕ). h ∷ rest) (sym c.index-holds-place.is) in
    let other = ap (λ b. cond (not b) (1 + first rest) 0) (sym c.eq.ensures ∙ c.if-eq.false) in
    omega (arith, ap first there ∙ other, c.loop-place.invariant)
