use Rattle.std.proofs.Common.{◌≡◌, [], ◌∷◌, ◌++◌, ◌∙◌, Option, sym, subst, arith}
use Rattle.units.specs.Keys.{Bytes}
use Rattle.units.specs.declared.writes.Install.{Install}
use Rattle.lives.specs.Spots.{AreSpots}
use Rattle.lives.proofs.Copies.{added}
use Rattle.lives.proofs.run_shard.push_copies.Goals as goal

pub loop-install-preserved : goal.loop-install-preserved
loop-install-preserved c =
    let one = c.install-item.result in
    let of : Option Bytes → Install = λ value. record { key = one.key; at = one.at; value = value } in
    let before = c.loop-install.installs.items in
    let more : c.push_reserved.new.self.items ≡ before ++ one ∷ [] =
    c.push_reserved.ensures.items ∙ (λ i. c.in_ok-reserve.ensures.items i ++ of (c.in_ok-value.ensures.same i) ∷ []) in
    record {
      all = added c.args.more.now c.loop-install.install-index one c.args.installs.now.items before c.push_reserved.new.self.items c.loop-install-test.true
          c.install-item.is c.loop-install.invariant.all more;
      spots = λ h. subst (λ is. AreSpots is c.add.new.spots.entries) (sym more)
          (c.in_ok-add.ensures.added before (omega (arith, c.len.ensures, c.loop-install.installs.ok.0)) (c.loop-install.invariant.spots h));
    }
