use Rattle.std.proofs.Common.{◌≡◌, true, List, [], length, max, sym, ap, subst, ◌∙◌}
use Rattle.units.specs.declared.writes.Install.{Install}
use Rattle.record.specs.Facts.{Facts}
use Rattle.versions.specs.Orders.{Orders}
use Rattle.record.specs.declared.record.Record.{Record}
use Rattle.protocol.specs.Showable.{rises_by_key}
use Rattle.facts.specs.Known.{Known}
use Rattle.facts.specs.Stages.{follows_next, stage_after}
use Rattle.facts.specs.declared.stage.Stage.{Stage}
use Rattle.ledger.specs.Ledger.{head_ascends}
use Rattle.ledger.proofs.Learns.{still_rising, forgotten_horizon, forgotten_installs, same_orders}
use Rattle.ledger.proofs.ledger.Ledger.forget.Goals as goal

pub forget_if_due-requires : goal.forget_if_due-requires
forget_if_due-requires c =
    let f = c.self.inside.facts.facts in (
      f.horizon,
      same_orders f.horizon f.installs c.installs.result.now c.self.inside.places
          (c.installs.ensures ∙ ap (λ (g : Facts). g.installs) c.learn_next.ensures.facts ∙ forgotten_installs f c.args.at) c.self.invariant.0,
    )

pub invariant_of-self : goal.invariant_of-self
invariant_of-self c =
    let f = c.self.inside.facts.facts in
    let may : follows_next c.self.inside.facts.shard c.self.inside.facts.stage f (Record.Horizon c.args.at) ≡ true =
    subst (λ (k : Known). follows_next k.shard k.stage k.facts (Record.Horizon c.args.at) ≡ true) (sym c.self.view_is) c.requires.follows in (
      subst (λ h. Orders h c.learn_next.new.self.facts.installs (length c.learn_next.new.self.facts.installs) c.forget_if_due.new.self)
          (sym (ap (λ (g : Facts). g.horizon) c.learn_next.ensures.facts ∙ forgotten_horizon f c.args.at))
          (subst (λ (t : List Install). Orders (max f.horizon c.args.at) t (length t) c.forget_if_due.new.self) c.installs.ensures
          (c.forget_if_due.ensures.orders f.horizon (same_orders f.horizon f.installs c.installs.result.now
          c.self.inside.places (c.installs.ensures ∙ ap (λ (g : Facts). g.installs) c.learn_next.ensures.facts ∙ forgotten_installs f c.args.at)
          c.self.invariant.0))),
      subst (λ (s : Stage). head_ascends s c.learn_next.new.self.facts.installs ≡ true) (sym c.learn_next.ensures.stage)
          (subst (λ (g : Facts). head_ascends (stage_after c.self.inside.facts.stage (Record.Horizon c.args.at)) g.installs ≡ true)
          (sym c.learn_next.ensures.facts)
          (still_rising c.self.inside.facts.shard c.self.inside.facts.stage f (Record.Horizon c.args.at) c.self.invariant.1 may)),
      subst (λ (t : List Install). rises_by_key [] t ≡ true)
          (sym (ap (λ (g : Facts). g.installs) c.learn_next.ensures.facts ∙ forgotten_installs f c.args.at)) c.self.invariant.2,
    )
