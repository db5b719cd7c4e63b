use Rattle.std.proofs.Common.{◌≡◌, ◌∙◌, ◌+◌, ℕ, List, length, sym, ap, subst, arith}
use Rattle.std.proofs.lemmas.List.{length-set}
use Rattle.units.specs.declared.writes.Install.{Install}
use Rattle.versions.specs.Arranged.{arranged, AreWithin}
use Rattle.versions.specs.Gathered.{AreSettled}
use Rattle.versions.specs.Heads.{AreHeads}
use Rattle.versions.specs.Ordered.{AscendsByVersion}
use Rattle.versions.proofs.Gathered.{brought, one_settled, still_within, settled_here}
use Rattle.versions.proofs.forgetting.settle.Goals as goal

pub redirect-requires-clause-within : goal.redirect-requires-clause-within
redirect-requires-clause-within c = subst (λ (s : List Install). AreWithin c.args.places.now.places (length s)) (sym c.deref.ensures.value) c.requires.within

pub redirect-requires-clause-order : goal.redirect-requires-clause-order
redirect-requires-clause-order c =
    subst (λ (s : List Install). AscendsByVersion (arranged s c.args.places.now.places)) (sym c.deref.ensures.value) c.requires.order

pub redirect-requires-clause-heads : goal.redirect-requires-clause-heads
redirect-requires-clause-heads c =
    let places = c.args.places.now in
    subst (λ (s : List Install). AreHeads places.prefix (arranged s places.places) places.heads) (sym c.deref.ensures.value) c.requires.heads

pub returns-then-from-at-clause-settled : goal.returns-then-from-at-clause-settled
returns-then-from-at-clause-settled c =
    settled_here c.args.places.now.places c.args.at (sym c.if-from-at.true ∙ c.get-from.ensures) c.requires.settled

pub returns-clause-items : goal.returns-clause-items
returns-clause-items c =
    ap (arranged c.swap.new.self.items) c.set_place.ensures.places
    ∙ brought c.args.installs.now.items c.args.places.now.places c.requires.order c.swap.new.self.items c.redirect.new.places.places c.args.at
    c.get-from.result c.requires.at c.get-from.ensures c.redirect.ensures.places c.swap.ensures.by_index

pub returns-clause-within : goal.returns-clause-within
returns-clause-within c =
    let long : length c.args.installs.now.items ≡ length c.swap.new.self.items = omega (arith, c.swap.ensures.len) in
    subst (AreWithin c.set_place.new.self.places) long
    (subst (λ (p : List ℕ). AreWithin p (length c.args.installs.now.items)) (sym c.set_place.ensures.places)
    (still_within c.args.installs.now.items c.args.places.now.places c.requires.order c.swap.new.self.items c.redirect.new.places.places c.args.at
    c.get-from.result c.requires.at c.get-from.ensures c.redirect.ensures.places (length c.args.installs.now.items)
    (omega (arith, c.requires.at, c.requires.few)) c.requires.within))

pub returns-clause-settled : goal.returns-clause-settled
returns-clause-settled c =
    subst (λ (p : List ℕ). AreSettled p (c.args.at + 1)) (sym c.set_place.ensures.places)
    (one_settled c.args.installs.now.items c.args.places.now.places c.requires.order c.swap.new.self.items c.redirect.new.places.places c.args.at
    c.get-from.result c.requires.at c.get-from.ensures c.redirect.ensures.places c.requires.settled)

pub returns-clause-places : goal.returns-clause-places
returns-clause-places c = ap length c.set_place.ensures.places ∙ length-set c.redirect.new.places.places c.args.at c.args.at ∙ c.redirect.ensures.places.len
