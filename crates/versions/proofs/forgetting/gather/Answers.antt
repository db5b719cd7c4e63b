use Rattle.std.proofs.Common.{◌∙◌, ℕ, List, length, sym, ap, subst, arith}
use Rattle.units.specs.declared.writes.Install.{Install}
use Rattle.versions.specs.Arranged.{arranged, AreWithin}
use Rattle.versions.specs.Heads.{AreHeads}
use Rattle.versions.specs.Ordered.{AscendsByVersion}
use Rattle.versions.proofs.Shorter.{within_each, arranged_of_taken}
use Rattle.versions.proofs.forgetting.gather.Goals as goal

pub settle-requires-clause-order : goal.settle-requires-clause-order
settle-requires-clause-order c = subst AscendsByVersion (sym c.loop-at.invariant.items) c.requires.order

pub settle-requires-clause-heads : goal.settle-requires-clause-heads
settle-requires-clause-heads c =
    let i = c.loop-at.invariant in
    subst (λ (p : List ℕ). AreHeads p (arranged c.loop-at.installs.items c.loop-at.places.places) c.loop-at.places.heads) (sym i.prefix)
    (subst (λ (a : List ℕ). AreHeads c.args.places.now.prefix (arranged c.loop-at.installs.items c.loop-at.places.places) a) (sym i.heads)
    (subst (λ (s : List Install). AreHeads c.args.places.now.prefix s c.args.places.now.heads) (sym i.items) c.requires.heads))

pub returns-clause-items : goal.returns-clause-items
returns-clause-items c =
    let i = c.loop-at.invariant in
    let places = c.loop-at.places.places in
    let below : AreWithin places c.len-len.result = within_each places c.len-len.result (λ k lt.
    let is = i.settled k (omega (arith, lt, i.places, c.len-len.ensures, c.loop-at-test.false)) in
    omega (arith, is, lt, i.places, c.len-len.ensures)) in
    ap (λ (s : List Install). arranged s places) c.truncate.ensures.items ∙ arranged_of_taken c.len-len.result c.loop-at.installs.items places below ∙ i.items

pub returns-clause-within : goal.returns-clause-within
returns-clause-within c =
    let i = c.loop-at.invariant in
    let places = c.loop-at.places.places in
    within_each places (length c.truncate.new.self.items) (λ k lt.
    let is = i.settled k (omega (arith, lt, i.places, c.len-len.ensures, c.loop-at-test.false)) in
    omega (arith, is, lt, i.places, i.len, c.len-len.ensures, c.requires.few, c.truncate.ensures.len))
