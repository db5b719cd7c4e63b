use Rattle.std.proofs.Common.{◌≡◌, ◌<◌, ◌-◌, ◌^◌, ℕ, true, nat_le, length, get_or, ◌∙◌, sym, ap, subst, arith}
use Rattle.units.specs.Keys.{key_before}
use Rattle.units.specs.declared.writes.Install.{Install}
use Rattle.versions.specs.Arranged.{arranged}
use Rattle.versions.specs.Ordered.{is_not_after}
use Rattle.versions.proofs.Arranged.{arranged_at, length_arranged}
use Rattle.versions.proofs.Halves.{each_at}
use Rattle.versions.proofs.Next.{none_later, none_between, is_later}
use Rattle.versions.proofs.search.next_key.Goals as goal

pub returns-then-count-len : goal.returns-then-count-len
returns-then-count-len c = λ later at above.
    let t = arranged c.args.installs.now c.args.places.now.places in
    let long = length_arranged c.args.installs.now c.args.places.now.places in
    none_later c.args.key.now later (2 ^ 62 - 1) at t
    (λ k d lt. c.count-count.ensures.before k d (omega (arith, lt, long, c.if-count-len.true, c.len.ensures))) above

pub returns : goal.returns
returns c =
    let t = arranged c.args.installs.now c.args.places.now.places in
    let long = length_arranged c.args.installs.now c.args.places.now.places in
    let next = c.index-installs-get.result in
    let lt : c.count-count.result < length c.args.places.now.places = omega (arith, c.if-count-len.false, c.len.ensures) in
    let is : get_or t c.count-count.result next ≡ next =
    arranged_at c.args.installs.now c.args.places.now.places c.count-count.result next next c.requires.within lt
    (c.index-installs-get.is ∙ ap (λ (p : ℕ). get_or c.args.installs.now p next) c.get.ensures) in
    let stands : c.count-count.result < length t = omega (arith, lt, long) in (
      ap (λ (x : Install). key_before c.args.key.now x.key) (sym c.index-installs-get.is) ∙ is_later c.args.key.now (2 ^ 62 - 1) next
          (ap (λ (x : Install). is_not_after c.args.key.now (2 ^ 62 - 1) x) (sym is) ∙ c.count-count.ensures.after c.count-count.result next (omega arith) stands)
          (subst (λ (x : Install). nat_le x.at (2 ^ 62 - 1) ≡ true) is
          (each_at (λ i. nat_le i.at (2 ^ 62 - 1) ≡ true) t c.count-count.result next c.requires.kept.in_time stands)),
      λ later at above below. none_between c.args.key.now later (2 ^ 62 - 1) at c.count-count.result t next c.requires.kept.order stands
          c.count-count.ensures.before above (ap (λ (x : Install). key_before later x.key) (is ∙ c.index-installs-get.is) ∙ below),
    )
