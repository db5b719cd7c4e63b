use Rattle.std.proofs.Common.{◌∙◌, ◌<◌, ℕ, List, length, get_or, sym, ap, subst, arith}
use Rattle.std.proofs.lemmas.List.{length-set}
use Rattle.units.specs.declared.writes.Install.{Install}
use Rattle.versions.specs.Arranged.{arranged, no_install}
use Rattle.versions.specs.Heads.{AreHeads, head}
use Rattle.versions.proofs.Arranged.{arranged_at, length_arranged}
use Rattle.versions.proofs.Heads.{written_more, written_all}
use Rattle.versions.proofs.search.renew.Goals as goal

pub loop-at-preserved : goal.loop-at-preserved
loop-at-preserved c =
    let i = c.loop-at.invariant in
    let installs = c.args.installs.now in
    let places = c.args.places.now.places in
    let prefix = c.loop-at.places.prefix in
    let at = c.loop-at.at in
    let one = c.index-installs-get-in-loop-at.result in
    let lt : at < length places = omega (arith, c.loop-at-test.true, i.len) in
    let is = arranged_at installs places at one no_install c.requires.within lt
    (c.index-installs-get-in-loop-at.is
    ∙ ap (λ (p : ℕ). get_or installs p one) (c.get-in-loop-at.ensures ∙ ap (λ (l : List ℕ). get_or l at 0) i.places)) in
    record {
      places = c.set_head.ensures.places ∙ i.places;
      room = c.set_head.ensures.room ∙ i.room;
      len = i.len;
      long = ap length c.set_head.ensures.heads ∙ length-set c.loop-at.places.heads at c.head_of-key_head.result ∙ i.long;
      done = written_more prefix c.set_head.new.self.prefix (arranged installs places) c.loop-at.places.heads c.set_head.new.self.heads at
          c.head_of-key_head.result c.set_head.ensures.prefix c.set_head.ensures.heads (omega (arith, lt, i.long))
          (c.head_of-key_head.ensures.head
          ∙ ap (λ (x : Install). head prefix x.key) (sym c.index-installs-get-in-loop-at.is ∙ sym is)) i.done;
    }

pub returns-clause-heads : goal.returns-clause-heads
returns-clause-heads c =
    let i = c.loop-at.invariant in
    let installs = c.args.installs.now in
    let places = c.args.places.now.places in
    let prefix = c.loop-at.places.prefix in
    let long = length_arranged installs places in
    subst (λ (l : List ℕ). AreHeads prefix (arranged installs l) c.loop-at.places.heads) (sym i.places)
    (written_all prefix (arranged installs places) c.loop-at.places.heads c.requires.heads.bytes (i.long ∙ sym long)
    (λ k lt. i.done k (omega (arith, lt, long, c.loop-at-test.false, i.len))))
