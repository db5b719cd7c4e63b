use Rattle.std.proofs.Common.{◌≡◌, ◌<◌, ℕ, false, length, get_or, ◌∙◌, sym, ap, subst, arith}
use Rattle.units.specs.declared.writes.Install.{Install}
use Rattle.versions.specs.Arranged.{arranged}
use Rattle.versions.specs.Halves.{AllUpTo, AllAfter}
use Rattle.versions.proofs.Arranged.{arranged_at, length_arranged}
use Rattle.units.specs.Keys.{same_key}
use Rattle.units.proofs.KeyLaws.{same_key-is}
use Rattle.versions.proofs.Next.{same_value, other_key, next_is}
use Rattle.versions.proofs.search.next_version.Goals as goal

pub returns-then-count-len : goal.returns-then-count-len
returns-then-count-len c = λ later le.
    let t = arranged c.args.installs.now c.args.places.now.places in
    let long = length_arranged c.args.installs.now c.args.places.now.places in
    same_value c.args.key.now c.args.at later c.count-count.result t le
    (subst (λ (n : ℕ). AllUpTo c.args.key.now n t c.count-count.result) c.micros.ensures.same c.count-count.ensures.before)
    (λ j d from lt. absurd (omega (arith, from, lt, long, c.if-count-len.true, c.len.ensures)))
    (subst (λ (n : ℕ). AllAfter c.args.key.now n t c.count-count.result) c.micros.ensures.same c.count-count.ensures.after)

pub returns-then-eq : goal.returns-then-eq
returns-then-eq c =
    let t = arranged c.args.installs.now c.args.places.now.places in
    let long = length_arranged c.args.installs.now c.args.places.now.places in
    let found = c.count-count.result in
    let next = c.index-installs-get.result in
    let lt : found < length c.args.places.now.places = omega (arith, c.if-count-len.false, c.len.ensures) in
    let is : get_or t found next ≡ next =
    arranged_at c.args.installs.now c.args.places.now.places found next next c.requires.within lt
    (c.index-installs-get.is ∙ ap (λ (p : ℕ). get_or c.args.installs.now p next) c.get.ensures) in
    let stands : found < length t = omega (arith, lt, long) in
    let own : next.key ≡ c.args.key.now = same_key-is next.key c.args.key.now (sym c.eq.ensures ∙ c.if-eq.true) in
    next_is c.args.key.now c.args.at found t next c.requires.order stands is own
    (subst (λ (n : ℕ). AllUpTo c.args.key.now n t found) c.micros.ensures.same c.count-count.ensures.before)
    (subst (λ (n : ℕ). AllAfter c.args.key.now n t found) c.micros.ensures.same c.count-count.ensures.after)

pub returns-else-eq : goal.returns-else-eq
returns-else-eq c = λ later le.
    let t = arranged c.args.installs.now c.args.places.now.places in
    let long = length_arranged c.args.installs.now c.args.places.now.places in
    let found = c.count-count.result in
    let next = c.index-installs-get.result in
    let lt : found < length c.args.places.now.places = omega (arith, c.if-count-len.false, c.len.ensures) in
    let is : get_or t found next ≡ next =
    arranged_at c.args.installs.now c.args.places.now.places found next next c.requires.within lt
    (c.index-installs-get.is ∙ ap (λ (p : ℕ). get_or c.args.installs.now p next) c.get.ensures) in
    let stands : found < length t = omega (arith, lt, long) in
    let other : same_key (get_or t found next).key c.args.key.now ≡ false =
    ap (λ (x : Install). same_key x.key c.args.key.now) is ∙ sym c.eq.ensures ∙ c.if-eq.false in
    let after = subst (λ (n : ℕ). AllAfter c.args.key.now n t found) c.micros.ensures.same c.count-count.ensures.after in
    same_value c.args.key.now c.args.at later found t le
    (subst (λ (n : ℕ). AllUpTo c.args.key.now n t found) c.micros.ensures.same c.count-count.ensures.before)
    (λ j e from within. other_key c.args.key.now c.args.at later found j t next e c.requires.order stands after other from within) after
