use Rattle.std.proofs.Common.{◌≡◌, true, sym, subst, arith}
use Rattle.versions.specs.Arranged.{arranged}
use Rattle.versions.specs.Ordered.{is_above, IsInOrder}
use Rattle.versions.specs.Store.{Store}
use Rattle.versions.proofs.Kept.{kept-installed}
use Rattle.versions.proofs.store.Versions.install.Goals as goal

pub invariant_of-self : goal.invariant_of-self
invariant_of-self c =
    let above = subst (λ (s : Store). is_above s.installs c.args.key c.args.at ≡ true) (sym c.self.view_is) c.requires.above in
    record {
      within = c.install.ensures.within;
      all = omega (arith, c.install.ensures.len, c.self.invariant.all);
      kept =
          subst (IsInOrder 4611686018427387903) (sym c.install.ensures.items)
          (kept-installed _ (record { key = c.args.key; at = c.args.at; value = c.args.value })
          (arranged c.self.inside.installs.items c.self.inside.places.places) above (omega (arith, c.install.ensures.in_time)) c.self.invariant.kept);
      headed = c.install.ensures.heads;
      installs_fit = omega (arith, c.install.ensures.len, c.install.ensures.capacity, c.self.invariant.installs_fit);
      places_fit = omega (arith, c.install.ensures.len, c.install.ensures.capacity, c.self.invariant.places_fit);
    }
