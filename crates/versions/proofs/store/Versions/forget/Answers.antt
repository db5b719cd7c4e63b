use Rattle.std.proofs.Common.{◌≡◌, List, ◌∙◌, ap, sym, subst, length, arith}
use Rattle.units.specs.declared.writes.Install.{Install}
use Rattle.versions.specs.Arranged.{arranged}
use Rattle.versions.specs.Ordered.{IsInOrder}
use Rattle.versions.specs.Pruned.{pruned}
use Rattle.versions.specs.Store.{Store}
use Rattle.versions.proofs.Arranged.{length_arranged}
use Rattle.versions.proofs.InPlace.{orders_held, stands}
use Rattle.versions.proofs.Pruned.{kept-pruned}
use Rattle.versions.proofs.store.Versions.forget.Goals as goal

pub overflow_sub-self : goal.overflow_sub-self
overflow_sub-self c = omega (arith, c.len.ensures, c.len-2.ensures, c.in-Ok.ensures.fewer, c.in-Ok.ensures.order.all)

pub invariant_of-self : goal.invariant_of-self
invariant_of-self c =
    let items = c.self.inside.installs.items in
    let places = c.self.inside.places.places in
    let held = c.in-Ok.ensures in
    let left : c.in-Ok.installs.items ≡ pruned c.args.horizon (arranged items places) =
    held.held ∙ ap (λ (s : List Install). pruned c.args.horizon (arranged s places)) c.deref.ensures.value in
    let orders = orders_held c.in-Ok.installs.items c.in-Ok.places held.order
    (subst (IsInOrder 4611686018427387903) (sym left) (kept-pruned 4611686018427387903 c.args.horizon (arranged items places) c.self.invariant.kept)) 0 in
    record {
      within = orders.within;
      all = held.order.all;
      kept = orders.kept;
      headed = orders.headed;
      installs_fit = omega (arith, held.room, held.order.all, held.fewer, c.len.ensures, c.len-2.ensures);
      places_fit = omega (arith, held.room, held.order.all, held.fewer, c.len.ensures, c.len-2.ensures);
    }

pub returns-clause-installs : goal.returns-clause-installs
returns-clause-installs c =
    stands c.in-Ok.installs.items c.in-Ok.places c.in-Ok.ensures.order ∙ c.in-Ok.ensures.held
    ∙ ap (λ (s : List Install). pruned c.args.horizon (arranged s c.self.inside.places.places)) c.deref.ensures.value
    ∙ ap (λ (s : Store). pruned c.args.horizon s.installs) c.self.view_is

pub returns-clause-freed : goal.returns-clause-freed
returns-clause-freed c =
    let is = ap length (stands c.in-Ok.installs.items c.in-Ok.places c.in-Ok.ensures.order) in
    let installs = ap (λ (s : Store). length s.installs) c.self.view_is in
    let room = ap (λ (s : Store). s.room) c.self.view_is in
    omega (arith, is, installs, room, length_arranged c.self.inside.installs.items c.self.inside.places.places, c.in-Ok.ensures.order.all, c.in-Ok.ensures.fewer, c.len.ensures, c.len-2.ensures)
