use Rattle.std.proofs.Common.{ℕ, get_or, ◌∙◌, ◌-◌, ◌<◌, length, sym, ap, arith, cond, Option, Some, None}
use Rattle.units.specs.declared.writes.Install.{Install}
use Rattle.versions.specs.Arranged.{arranged}
use Rattle.versions.proofs.Arranged.{arranged_at, length_arranged}
use Rattle.versions.proofs.Newest.{newest_at, newest_none}
use Rattle.versions.proofs.search.newest_in.Goals as goal

pub returns-then-count-eq0 : goal.returns-then-count-eq0
returns-then-count-eq0 c =
    sym (newest_none c.args.key.now c.args.at (arranged c.args.installs.now c.args.places.now.places)
    (λ k d le lt. c.requires.after k d (omega (arith, c.if-count-eq0.true)) lt))

pub returns-then-eq : goal.returns-then-eq
returns-then-eq c =
    let found = c.args.count in
    let last = c.index-installs-place.result in
    let t = arranged c.args.installs.now c.args.places.now.places in
    let long = length_arranged c.args.installs.now c.args.places.now.places in
    let lt : found - 1 < length c.args.places.now.places = omega (arith, c.requires.bound, c.if-count-eq0.false) in
    sym (newest_at c.args.key.now c.args.at t (found - 1) last c.requires.order (omega (arith, lt, long))
    (sym (arranged_at c.args.installs.now c.args.places.now.places (found - 1) last last c.requires.within lt
    (c.index-installs-place.is ∙ ap (λ (p : ℕ). get_or c.args.installs.now p last) c.get-place.ensures)))
    (λ k d lt. c.requires.before k d (omega (arith, c.if-count-eq0.false))) (λ k d le lt. c.requires.after k d
    (omega (arith, c.if-count-eq0.false)) lt)
    ∙ ap (λ b. cond {A = Option Install} b (Some last) None) (sym c.eq.ensures ∙ c.if-eq.true))

pub returns-else-eq : goal.returns-else-eq
returns-else-eq c =
    let found = c.args.count in
    let last = c.index-installs-place.result in
    let t = arranged c.args.installs.now c.args.places.now.places in
    let long = length_arranged c.args.installs.now c.args.places.now.places in
    let lt : found - 1 < length c.args.places.now.places = omega (arith, c.requires.bound, c.if-count-eq0.false) in
    sym (newest_at c.args.key.now c.args.at t (found - 1) last c.requires.order (omega (arith, lt, long))
    (sym (arranged_at c.args.installs.now c.args.places.now.places (found - 1) last last c.requires.within lt
    (c.index-installs-place.is ∙ ap (λ (p : ℕ). get_or c.args.installs.now p last) c.get-place.ensures)))
    (λ k d lt. c.requires.before k d (omega (arith, c.if-count-eq0.false))) (λ k d le lt. c.requires.after k d
    (omega (arith, c.if-count-eq0.false)) lt)
    ∙ ap (λ b. cond {A = Option Install} b (Some last) None) (sym c.eq.ensures ∙ c.if-eq.false))
