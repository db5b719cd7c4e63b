use Rattle.std.proofs.Common.{◌≡◌, ◌∙◌, inr, ℕ, ◌+◌, ◌-◌, ◌++◌, List, set, take, drop, ap, subst, sym, arith}
use Rattle.std.specs.List.{insert}
use Rattle.units.specs.declared.writes.Install.{Install}
use Rattle.versions.specs.Arranged.{arranged}
use Rattle.versions.specs.Halves.{AllUpTo, AllAfter}
use Rattle.versions.specs.Heads.{AreHeads}
use Rattle.versions.specs.TakenIn.{IsPassedAt}
use Rattle.versions.proofs.TakenIn.{gap, replaced, replaced_is_installed, shifted_heads}
use Rattle.versions.proofs.search.install_from.Goals as goal

pub returns-clause-items : goal.returns-clause-items
returns-clause-items c =
    let items = c.args.installs.now.items in
    let places = c.args.places.now.places in
    let count = c.count-count.result in
    let new = c.args.new in
    let freed = c.get-freed.result in
    let first = c.in-Some.first in
    inr (
      first,
      subst (λ (t : List Install). IsPassedAt c.args.horizon (arranged t places) first) c.deref-2.ensures.value c.in-Some.ensures.1,
      ap (arranged (set items freed new)) c.shift.ensures.places
          ∙ replaced_is_installed items places first count freed new c.requires.order c.requires.within c.in-Some.ensures.0 c.count-count.ensures.bound
          c.get-freed.ensures
          (subst (λ (t : List Install). AllUpTo new.key new.at (arranged t places) count) c.deref.ensures.value
          (subst (λ (n : ℕ). AllUpTo new.key n (arranged c.deref.result.now places) count) c.micros.ensures.same c.count-count.ensures.before))
          (subst (λ (t : List Install). AllAfter new.key new.at (arranged t places) count) c.deref.ensures.value
          (subst (λ (n : ℕ). AllAfter new.key n (arranged c.deref.result.now places) count) c.micros.ensures.same c.count-count.ensures.after)),
    )

pub returns-clause-heads : goal.returns-clause-heads
returns-clause-heads c =
    let items = c.args.installs.now.items in
    let places = c.args.places.now.places in
    let heads = c.args.places.now.heads in
    let prefix = c.args.places.now.prefix in
    let to = c.count-count.result - 1 in
    let new = c.args.new in
    let freed = c.get-freed.result in
    let first = c.in-Some.first in
    let t = arranged items places in
    let listed : arranged (set items freed new) c.shift.new.self.places ≡ insert (gap first t) to new =
    ap (arranged (set items freed new)) c.shift.ensures.places
    ∙ replaced items places first to freed new c.requires.order c.requires.within (omega (arith, c.in-Some.ensures.0, c.count-count.ensures.bound))
    c.get-freed.ensures in
    subst (λ (p : List ℕ). AreHeads p (arranged (set items freed new) c.shift.new.self.places) c.shift.new.self.heads) (sym c.shift.ensures.prefix)
    (subst (λ (r : List Install). AreHeads prefix r c.shift.new.self.heads) (sym listed)
    (subst (AreHeads prefix (insert (gap first t) to new))
    (sym (c.shift.ensures.heads ∙ ap (insert (take first heads ++ drop (first + 1) heads) to) c.head_of-key_head.ensures.head))
    (shifted_heads prefix t heads first to new c.head_of-key_head.ensures.bytes c.requires.heads)))
