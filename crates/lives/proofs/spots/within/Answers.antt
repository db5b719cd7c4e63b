use Rattle.std.proofs.Common.{◌≡◌, ◌+◌, ap, sym, ◌∙◌, subst}
use Rattle.lives.specs.Spots.{AreOf, line, spots_in}
use Rattle.lives.proofs.Narrowing.{are_in, none_in}
use Rattle.lives.proofs.spots.within.Goals as goal

pub returns : goal.returns
returns c is h =
    let k = c.args.key.now in
    let spots = c.as_slice-line.result.now in
    let same : line c.args.spots.now.entries k ≡ spots = ap spots_in (sym c.in-Some.ensures.value) ∙ sym c.as_slice-line.ensures.value in
    are_in is k spots (subst (AreOf is k) same (h k)) c.args.from (c.args.from + c.args.count) c.passed.result c.passed-2.result
    c.passed.ensures.within c.passed.ensures.before c.passed.ensures.past c.passed-2.ensures.within c.passed-2.ensures.before c.passed-2.ensures.past

pub returns-in_default : goal.returns-in_default
returns-in_default c is h =
    let k = c.args.key.now in
    none_in is k c.args.from (c.args.from + c.args.count) (subst (AreOf is k) (ap spots_in (sym c.in_default.ensures.value)) (h k))
