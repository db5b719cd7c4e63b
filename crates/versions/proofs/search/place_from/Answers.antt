use Rattle.std.proofs.Common.{◌≡◌, ◌∙◌, inr, ℕ, ◌+◌, ◌-◌, ◌++◌, List, get_or, take, drop, ap, subst, sym, arith}
use Rattle.std.specs.List.{insert}
use Rattle.std.proofs.lemmas.List.{get_or_default}
use Rattle.units.specs.declared.writes.Install.{Install}
use Rattle.versions.specs.Arranged.{arranged, no_install, AreWithin}
use Rattle.versions.specs.Halves.{AllUpTo, AllAfter}
use Rattle.versions.specs.Heads.{AreHeads}
use Rattle.versions.proofs.Arranged.{within_more}
use Rattle.versions.proofs.TakenIn.{gap, one_shifted, shifted_heads, shifted_is_installed, shifted_within}
use Rattle.versions.proofs.search.place_from.Goals as goal

pub returns-in-Some-clause-items : goal.returns-in-Some-clause-items
returns-in-Some-clause-items c =
    let installs = c.args.installs.now in
    let places = c.args.places.now.places in
    let count = c.count-count.result in
    let new = c.index-installs-at.result in
    let t = arranged installs places in
    let is : new ≡ get_or installs c.args.at no_install = c.index-installs-at.is ∙ get_or_default installs c.args.at new no_install c.requires.there in
    inr (
      c.in-Some.first,
      c.in-Some.ensures.1,
      ap (arranged installs) c.shift.ensures.places
          ∙ shifted_is_installed installs places c.in-Some.first count c.args.at c.in-Some.ensures.0 c.count-count.ensures.bound
          (subst (λ (y : Install). AllUpTo y.key y.at t count) is
          (subst (λ (n : ℕ). AllUpTo new.key n t count) c.micros.ensures.same c.count-count.ensures.before))
          (subst (λ (y : Install). AllAfter y.key y.at t count) is
          (subst (λ (n : ℕ). AllAfter new.key n t count) c.micros.ensures.same c.count-count.ensures.after)),
    )

pub returns-in-Some-clause-within : goal.returns-in-Some-clause-within
returns-in-Some-clause-within c =
    let places = c.args.places.now.places in
    subst (λ (p : List ℕ). AreWithin p (c.args.at + 1)) (sym c.shift.ensures.places)
    (shifted_within places (c.args.at + 1) c.in-Some.first (c.count-count.result - 1) c.args.at (omega arith)
    (within_more places c.args.at (c.args.at + 1) (omega arith) c.requires.within))

pub returns-in-Some-clause-heads : goal.returns-in-Some-clause-heads
returns-in-Some-clause-heads c =
    let installs = c.args.installs.now in
    let places = c.args.places.now.places in
    let heads = c.args.places.now.heads in
    let prefix = c.args.places.now.prefix in
    let to = c.count-count.result - 1 in
    let first = c.in-Some.first in
    let new = c.index-installs-at.result in
    let t = arranged installs places in
    let is : new ≡ get_or installs c.args.at no_install = c.index-installs-at.is ∙ get_or_default installs c.args.at new no_install c.requires.there in
    let listed : arranged installs c.shift.new.self.places ≡ insert (gap first t) to new =
    ap (arranged installs) c.shift.ensures.places ∙ one_shifted installs places first to c.args.at ∙ ap (insert (gap first t) to) (sym is) in
    subst (λ (p : List ℕ). AreHeads p (arranged installs c.shift.new.self.places) c.shift.new.self.heads) (sym c.shift.ensures.prefix)
    (subst (λ (r : List Install). AreHeads prefix r c.shift.new.self.heads) (sym listed)
    (subst (AreHeads prefix (insert (gap first t) to new))
    (sym (c.shift.ensures.heads ∙ ap (insert (take first heads ++ drop (first + 1) heads) to) c.head_of-key_head.ensures.head))
    (shifted_heads prefix t heads first to new c.head_of-key_head.ensures.bytes c.requires.heads)))
