use Rattle.std.proofs.Common.{◌≡◌, ◌∙◌, List, length, sym, subst, arith}
use Rattle.units.specs.Keys.{Bytes}
use Rattle.units.specs.declared.writes.Install.{Install}
use Rattle.versions.specs.Arranged.{arranged}
use Rattle.versions.specs.Heads.{AreHeads}
use Rattle.versions.specs.Ordered.{AscendsByVersion, IsInOrder}
use Rattle.versions.specs.Pruned.{pruned}
use Rattle.versions.proofs.Pruned.{kept-pruned}
use Rattle.versions.proofs.store.Versions.forget_in_place.Goals as goal

pub gather-requires-clause-within : goal.gather-requires-clause-within
gather-requires-clause-within c =
    c.forget.ensures.within (length c.self.inside.installs.items) c.self.invariant.within

pub gather-requires-clause-order : goal.gather-requires-clause-order
gather-requires-clause-order c =
    let items = c.self.inside.installs.items in
    let places = c.self.inside.places.places in
    let left : arranged items c.forget.new.places.places ≡ pruned c.args.horizon (arranged items places) =
    subst (λ (s : List Install). arranged s c.forget.new.places.places ≡ pruned c.args.horizon (arranged s places)) c.deref.ensures.value
    c.forget.ensures.items in
    subst AscendsByVersion (sym left) (kept-pruned 4611686018427387903 c.args.horizon (arranged items places) c.self.invariant.kept).order

pub invariant_of-self : goal.invariant_of-self
invariant_of-self c =
    let items = c.self.inside.installs.items in
    let places = c.self.inside.places in
    let forgot = c.forget.new.places in
    let new = c.gather.new.places in
    let together = c.gather.ensures in
    let left : arranged items forgot.places ≡ pruned c.args.horizon (arranged items places.places) =
    subst (λ (s : List Install). arranged s forgot.places ≡ pruned c.args.horizon (arranged s places.places)) c.deref.ensures.value c.forget.ensures.items in
    let heads = subst (λ (s : List Install). AreHeads forgot.prefix (arranged s forgot.places) forgot.heads) c.deref.ensures.value c.forget.ensures.heads in
    let in_place = subst (λ (t : List Install). AreHeads forgot.prefix t forgot.heads) (sym together.items) heads in
    let prefixed = subst (λ (p : Bytes). AreHeads p (arranged c.gather.new.installs.items new.places) forgot.heads) (sym together.prefix) in_place in
    record {
      within = together.within;
      all = omega (arith, together.all);
      kept =
          subst (IsInOrder 4611686018427387903) (sym (together.items ∙ left))
          (kept-pruned 4611686018427387903 c.args.horizon (arranged items places.places) c.self.invariant.kept);
      headed = subst (AreHeads new.prefix (arranged c.gather.new.installs.items new.places)) (sym together.heads) prefixed;
      installs_fit =
          omega (arith, c.len-before.ensures, c.len.ensures, c.self.invariant.all, c.self.invariant.installs_fit, c.forget.ensures.freed, together.all, together.len, together.capacity);
      places_fit = omega (arith, c.len-before.ensures, c.len.ensures, c.self.invariant.places_fit, c.forget.ensures.freed, together.len, together.room);
    }
