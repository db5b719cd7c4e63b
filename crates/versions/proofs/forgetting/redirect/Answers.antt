use Rattle.std.proofs.Common.{◌≡◌, ◌∙◌, ◌-◌, ℕ, List, get_or, sym, ap, subst, arith}
use Rattle.std.proofs.lemmas.List.{get_or_default}
use Rattle.versions.specs.Arranged.{arranged, no_install}
use Rattle.versions.specs.Gathered.{IsRedirected}
use Rattle.versions.specs.Halves.{AllUpTo, AllAfter}
use Rattle.versions.proofs.Gathered.{found_there, redirected, redirected_nowhere}
use Rattle.versions.proofs.forgetting.redirect.Goals as goal

pub returns-then-count-eq0-clause-places : goal.returns-then-count-eq0-clause-places
returns-then-count-eq0-clause-places c =
    let installs = c.args.installs.now in
    let places = c.args.places.now.places in
    let y = c.index-installs-at.result in
    let t = arranged installs places in
    let count = c.find-count.result.0 in
    let is : y ≡ get_or installs c.args.at no_install = c.index-installs-at.is ∙ get_or_default installs c.args.at y no_install c.requires.at in
    let before = subst (λ (n : ℕ). AllUpTo y.key n t count) c.micros-until.ensures.same c.find-count.ensures.before in
    let after = subst (λ (n : ℕ). AllAfter y.key n t count) c.micros-until.ensures.same c.find-count.ensures.after in
    redirected_nowhere installs places c.requires.order c.args.at c.args.from (λ k lt there.
    let found = found_there installs places c.requires.order y c.args.at count k is c.find-count.ensures.bound before after lt there in
    absurd (omega (arith, found, c.if-count-eq0.true)))

pub returns-then-get-at-clause-places : goal.returns-then-get-at-clause-places
returns-then-get-at-clause-places c =
    let installs = c.args.installs.now in
    let places = c.args.places.now.places in
    let y = c.index-installs-at.result in
    let t = arranged installs places in
    let count = c.find-count.result.0 in
    let is : y ≡ get_or installs c.args.at no_install = c.index-installs-at.is ∙ get_or_default installs c.args.at y no_install c.requires.at in
    let before = subst (λ (n : ℕ). AllUpTo y.key n t count) c.micros-until.ensures.same c.find-count.ensures.before in
    let after = subst (λ (n : ℕ). AllAfter y.key n t count) c.micros-until.ensures.same c.find-count.ensures.after in
    redirected_nowhere installs places c.requires.order c.args.at c.args.from (λ k lt there.
    let found = found_there installs places c.requires.order y c.args.at count k is c.find-count.ensures.bound before after lt there in
    let last : count - 1 ≡ k = omega (arith, found) in
    absurd (c.if-get-at.true (c.get.ensures ∙ ap (λ (n : ℕ). get_or places n 0) last ∙ there)))

pub returns-clause-places : goal.returns-clause-places
returns-clause-places c =
    let places = c.args.places.now.places in
    let last = c.find-count.result.0 - 1 in
    subst (λ (p : List ℕ). IsRedirected places p c.args.at c.args.from) (sym c.set_place.ensures.places)
    (redirected c.args.installs.now places c.requires.order last c.args.at c.args.from (omega (arith, c.find-count.ensures.bound, c.if-count-eq0.false))
    (sym c.get.ensures ∙ c.if-get-at.false))
