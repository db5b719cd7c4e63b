use Rattle.std.proofs.Common.{◌≡◌, ◌<◌, ◌+◌, ◌-◌, length, take, drop, get_or, sym, ap, subst, arith}
use Rattle.std.proofs.lemmas.Grind.{common_steps}
use Rattle.std.proofs.lemmas.List.{get_or_default}
use Rattle.units.specs.Versions.{at_time}
use Rattle.lives.specs.Spots.{IsPast, no_spot}
use Rattle.lives.proofs.Narrowing.{found_none, found_one, level_of, none_shown}
use Rattle.lives.proofs.spots.narrowed.Goals as goal

pub returns-then-is_empty : goal.returns-then-is_empty
returns-then-is_empty c is h =
    let own = c.within-line.result.now in
    let none : length own ≡ 0 = grind (arith, common_steps) in
    none_shown is c.args.key.now c.args.from c.args.count c.args.at own (c.within-line.ensures is h) (λ j lt. absurd (omega (arith, none, lt)))

pub returns-then-found-eq0 : goal.returns-then-found-eq0
returns-then-found-eq0 c is h =
    let a = c.args in
    let own = c.within-line.result.now in
    let some : 0 < length own = grind (arith, common_steps) in
    found_none is a.key.now a.from a.count a.at own (c.within-line.ensures is h)
    (level_of own c.index-line-0.result c.index-line-line.result some c.if-line.false) c.micros.result c.micros.ensures.same
    (subst (λ f. f < length own → IsPast (a.from + a.count) c.micros.result (get_or own f no_spot)) c.if-found-eq0.true c.passed-found.ensures.past)

pub returns : goal.returns
returns c is h =
    let a = c.args in
    let f = c.passed-found.result in
    let own = c.within-line.result.now in
    let some : 0 < f = omega arith in
    let place : (get_or own (f - 1) c.index-line-found.result).place ≡ (get_or own (f - 1) no_spot).place =
    ap (λ s. s.place) (get_or_default own (f - 1) c.index-line-found.result no_spot (omega (arith, c.passed-found.ensures.within))) in
    subst (λ p. at_time (take 1 (drop p is)) a.key.now a.at ≡ at_time (take a.count (drop a.from is)) a.key.now a.at) (sym place)
    (found_one is a.key.now a.from a.count a.at own (c.within-line.ensures is h)
    (level_of own c.index-line-0.result c.index-line-line.result (omega (arith, c.passed-found.ensures.within)) c.if-line.false) f c.micros.result
    c.micros.ensures.same some c.passed-found.ensures.within (c.passed-found.ensures.before some) c.passed-found.ensures.past)
