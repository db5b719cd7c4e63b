use Rattle.std.proofs.Common.{◌≡◌, true, sym, subst, arith}
use Rattle.versions.specs.Arranged.{arranged}
use Rattle.versions.specs.Ordered.{is_above}
use Rattle.versions.specs.Places.{SameFrom}
use Rattle.versions.specs.Store.{Store}
use Rattle.versions.proofs.TakenIn.{kept-taken, same-taken}
use Rattle.versions.proofs.store.Versions.install_from.Goals as goal

pub invariant_of-self : goal.invariant_of-self
invariant_of-self c =
    let above = subst (λ (s : Store). is_above s.installs c.args.key c.args.at ≡ true) (sym c.self.view_is) c.requires.above in
    record {
      within = c.install_from.ensures.within;
      all = omega (arith, c.install_from.ensures.len, c.self.invariant.all);
      kept =
          kept-taken 4611686018427387903 c.args.horizon (arranged c.self.inside.installs.items c.self.inside.places.places)
          (record { key = c.args.key; at = c.args.at; value = c.args.value })
          (arranged c.install_from.new.installs.items c.install_from.new.places.places) c.install_from.ensures.items above
          (omega (arith, c.install_from.ensures.in_time)) c.self.invariant.kept;
      headed = c.install_from.ensures.heads;
      installs_fit = omega (arith, c.install_from.ensures.len, c.install_from.ensures.capacity, c.self.invariant.installs_fit);
      places_fit = omega (arith, c.install_from.ensures.len, c.install_from.ensures.capacity, c.self.invariant.places_fit);
    }

pub returns-clause-same : goal.returns-clause-same
returns-clause-same c = λ log same.
    let above = subst (λ (s : Store). is_above s.installs c.args.key c.args.at ≡ true) (sym c.self.view_is) c.requires.above in
    same-taken c.args.horizon (arranged c.self.inside.installs.items c.self.inside.places.places)
    (record { key = c.args.key; at = c.args.at; value = c.args.value })
    (arranged c.install_from.new.installs.items c.install_from.new.places.places) c.install_from.ensures.items c.self.invariant.kept.order above log
    (subst (λ (s : Store). SameFrom c.args.horizon s.installs log) (sym c.self.view_is) same)
