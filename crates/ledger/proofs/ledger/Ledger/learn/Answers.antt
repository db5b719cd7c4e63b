use Rattle.std.proofs.Common.{◌≡◌, ◌∙◌, ◌≤◌, ℕ, true, List, [], length, min, ◌/◌, sym, ap, subst, arith}
use Rattle.units.specs.declared.writes.Install.{Install}
use Rattle.record.specs.Facts.{Facts, learn}
use Rattle.protocol.specs.Showable.{rises_by_key}
use Rattle.facts.specs.Known.{Known}
use Rattle.versions.specs.Orders.{Orders, AreBehind}
use Rattle.facts.specs.Stages.{follows_next, stage_after}
use Rattle.facts.specs.declared.stage.Stage.{Stage}
use Rattle.ledger.specs.Ledger.{CanInstall, head_ascends}
use Rattle.ledger.proofs.Learns.{Installs, installs, still_rising, still_orders, risen_orders, are_behind, as_many_more, still_rise}
use Rattle.ledger.proofs.ledger.Ledger.learn.Goals as goal

pub follow-requires-clause-known : goal.follow-requires-clause-known
follow-requires-clause-known c =
    let f = c.self.inside.facts.facts in
    let places = c.self.inside.places in
    let can : CanInstall f c.args.item = subst (λ (k : Known). CanInstall k.facts c.args.item) (sym c.self.view_is) c.requires.installs in
    let may : follows_next c.self.inside.facts.shard c.self.inside.facts.stage f c.args.item ≡ true =
    subst (λ (k : Known). follows_next k.shard k.stage k.facts c.args.item ≡ true) (sym c.self.view_is) c.requires.follows in
    let new : Installs f c.args.item = installs c.self.inside.facts.shard c.self.inside.facts.stage f c.args.item c.self.invariant.1 may can in
    let known : length c.installs-known.result.now ≡ length f.installs = ap length c.installs-known.ensures in
    let h = (learn f c.args.item).horizon in
    subst (λ (n : ℕ). Orders n c.installs.result.now (length c.installs-known.result.now) places)
    (sym (c.horizon-horizon.ensures ∙ ap (λ (g : Facts). g.horizon) c.learn_next.ensures.facts))
    (subst (λ (t : List Install). Orders h t (length c.installs-known.result.now) places)
    (sym (c.installs.ensures ∙ ap (λ (g : Facts). g.installs) c.learn_next.ensures.facts))
    (subst (λ (n : ℕ). Orders h (learn f c.args.item).installs n places) (sym known)
    (risen_orders f c.args.item (learn f c.args.item).installs (length f.installs) places
    (still_orders f c.args.item new f.horizon places c.self.invariant.0))))

pub follow-requires-clause-behind : goal.follow-requires-clause-behind
follow-requires-clause-behind c =
    let f = c.self.inside.facts.facts in
    let can : CanInstall f c.args.item = subst (λ (k : Known). CanInstall k.facts c.args.item) (sym c.self.view_is) c.requires.installs in
    let may : follows_next c.self.inside.facts.shard c.self.inside.facts.stage f c.args.item ≡ true =
    subst (λ (k : Known). follows_next k.shard k.stage k.facts c.args.item ≡ true) (sym c.self.view_is) c.requires.follows in
    let new : Installs f c.args.item = installs c.self.inside.facts.shard c.self.inside.facts.stage f c.args.item c.self.invariant.1 may can in
    let known : length c.installs-known.result.now ≡ length f.installs = ap length c.installs-known.ensures in
    subst (λ (t : List Install). AreBehind t (length c.installs-known.result.now))
    (sym (c.installs.ensures ∙ ap (λ (g : Facts). g.installs) c.learn_next.ensures.facts))
    (subst (AreBehind (learn f c.args.item).installs) (sym known) (are_behind f c.args.item new c.learn_next.ensures.up))

pub follow-requires-clause-longer : goal.follow-requires-clause-longer
follow-requires-clause-longer c =
    let f = c.self.inside.facts.facts in
    let can : CanInstall f c.args.item = subst (λ (k : Known). CanInstall k.facts c.args.item) (sym c.self.view_is) c.requires.installs in
    let may : follows_next c.self.inside.facts.shard c.self.inside.facts.stage f c.args.item ≡ true =
    subst (λ (k : Known). follows_next k.shard k.stage k.facts c.args.item ≡ true) (sym c.self.view_is) c.requires.follows in
    let new : Installs f c.args.item = installs c.self.inside.facts.shard c.self.inside.facts.stage f c.args.item c.self.invariant.1 may can in
    let long = ap length (c.installs.ensures ∙ ap (λ (g : Facts). g.installs) c.learn_next.ensures.facts) ∙ as_many_more f c.args.item new in
    let known : length c.installs-known.result.now ≡ length f.installs = ap length c.installs-known.ensures in
    omega (arith, long, known)

pub follow-requires-clause-room : goal.follow-requires-clause-room
follow-requires-clause-room c =
    let f = c.self.inside.facts.facts in
    let can : CanInstall f c.args.item = subst (λ (k : Known). CanInstall k.facts c.args.item) (sym c.self.view_is) c.requires.installs in
    let may : follows_next c.self.inside.facts.shard c.self.inside.facts.stage f c.args.item ≡ true =
    subst (λ (k : Known). follows_next k.shard k.stage k.facts c.args.item ≡ true) (sym c.self.view_is) c.requires.follows in
    let new : Installs f c.args.item = installs c.self.inside.facts.shard c.self.inside.facts.stage f c.args.item c.self.invariant.1 may can in
    let long = ap length (c.installs.ensures ∙ ap (λ (g : Facts). g.installs) c.learn_next.ensures.facts) ∙ as_many_more f c.args.item new in
    let known : length c.installs-known.result.now ≡ length f.installs = ap length c.installs-known.ensures in
    let room : 1 ≤ min c.self.inside.facts.room (c.self.inside.places.room / 128) = subst (λ (k : Known). 1 ≤ k.room) (sym c.self.view_is) c.requires.room in
    omega (arith, long, known, c.learn_next.ensures.few, room)

pub invariant_of-self : goal.invariant_of-self
invariant_of-self c =
    let f = c.self.inside.facts.facts in
    let places = c.self.inside.places in
    let can : CanInstall f c.args.item = subst (λ (k : Known). CanInstall k.facts c.args.item) (sym c.self.view_is) c.requires.installs in
    let may : follows_next c.self.inside.facts.shard c.self.inside.facts.stage f c.args.item ≡ true =
    subst (λ (k : Known). follows_next k.shard k.stage k.facts c.args.item ≡ true) (sym c.self.view_is) c.requires.follows in
    let new : Installs f c.args.item = installs c.self.inside.facts.shard c.self.inside.facts.stage f c.args.item c.self.invariant.1 may can in
    let facts = c.learn_next.new.self.facts in (
      subst (λ (n : ℕ). Orders n facts.installs (length facts.installs) c.follow.new.self) c.horizon-horizon.ensures
          (subst (λ (t : List Install). Orders c.horizon-horizon.result t (length t) c.follow.new.self) c.installs.ensures c.follow.ensures.all),
      subst (λ (s : Stage). head_ascends s c.learn_next.new.self.facts.installs ≡ true) (sym c.learn_next.ensures.stage)
          (subst (λ (g : Facts). head_ascends (stage_after c.self.inside.facts.stage c.args.item) g.installs ≡ true) (sym c.learn_next.ensures.facts)
          (still_rising c.self.inside.facts.shard c.self.inside.facts.stage f c.args.item c.self.invariant.1 may)),
      subst (λ (g : Facts). rises_by_key [] g.installs ≡ true) (sym c.learn_next.ensures.facts)
          (still_rise f c.args.item new c.self.invariant.2 c.learn_next.ensures.up),
    )
