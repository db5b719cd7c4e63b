use Rattle.std.proofs.Common.{◌≡◌, ◌∙◌, true, List, [], length, sym, ap, subst}
use Rattle.units.specs.declared.writes.Install.{Install}
use Rattle.record.specs.Facts.{Facts}
use Rattle.facts.specs.Known.{Known}
use Rattle.protocol.specs.Showable.{rises_by_key}
use Rattle.versions.specs.Arranged.{arranged}
use Rattle.versions.specs.Ordered.{AscendsByVersion}
use Rattle.versions.specs.Orders.{Orders}
use Rattle.versions.specs.Pruned.{pruned}
use Rattle.versions.proofs.Orders.{same_by}
use Rattle.ledger.specs.Ledger.{head_ascends}
use Rattle.ledger.specs.Turned.{held_facts, versions_held}
use Rattle.ledger.proofs.Again.{sorted-rises}
use Rattle.ledger.proofs.Held.{in-head}
use Rattle.ledger.proofs.One.{held-in_order, pruned-ascends}
use Rattle.ledger.proofs.ledger.Ledger.let_go.Goals as goal

pub invariant_of-self : goal.invariant_of-self
invariant_of-self c =
    let f = c.self.inside.facts.facts in
    let places = c.self.inside.places in
    let items = c.in_ok-installs.installs.items in
    let new = c.replace_installs.new.self.facts in
    let list : items ≡ new.installs = sym (ap (λ (g : Facts). g.installs) c.replace_installs.ensures.facts) in
    let held : items ≡ pruned f.horizon (arranged f.installs places.places) =
    c.in_ok-installs.ensures.held ∙ (λ i. pruned (c.horizon-horizon.ensures i) (arranged (c.installs.ensures i) places.places)) in
    let up : AscendsByVersion items =
    subst AscendsByVersion (sym held) (pruned-ascends f.horizon (arranged f.installs places.places) c.self.invariant.0.kept.order) in (
      subst (λ (t : List Install). Orders new.horizon t (length t) c.in_ok-installs.places) list (c.in_ok-installs.ensures.orders new.horizon),
      subst (λ (t : List Install). head_ascends c.replace_installs.new.self.stage t ≡ true) list (in-head c.replace_installs.new.self.stage items up),
      subst (λ (t : List Install). rises_by_key [] t ≡ true) list (sorted-rises items up),
    )

pub returns-clause-facts : goal.returns-clause-facts
returns-clause-facts c =
    let f = c.self.inside.facts.facts in
    let places = c.self.inside.places in
    let held : c.in_ok-installs.installs.items ≡ versions_held f =
    c.in_ok-installs.ensures.held
    ∙ (λ i. pruned (c.horizon-horizon.ensures i) (arranged (c.installs.ensures i) places.places))
    ∙ held-in_order f (arranged f.installs places.places) c.self.invariant.2 c.self.invariant.0.kept.order
    (same_by f.horizon f.installs places c.self.invariant.0) in
    c.replace_installs.ensures.facts
    ∙ ap (λ (t : List Install). record f { installs = t }) held
    ∙ ap (λ (k : Known). held_facts k.facts) c.self.view_is
