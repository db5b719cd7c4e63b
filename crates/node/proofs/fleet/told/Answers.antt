use Rattle.std.proofs.Common.{rules, ◌≡◌, ◌+◌, ◌∷◌, List, length, refl, sym, subst, arith, ℕ}
use Rattle.units.specs.declared.setup.Setup.{Setup}
use Rattle.node.specs.Together.{AreSetups}
use Rattle.node.specs.Setups.{IsSetupOf}
use Rattle.node.proofs.Together.{setups_on, told_on}
use Rattle.node.proofs.fleet.told.Goals as goal

pub loop-disk-preserved : goal.loop-disk-preserved
loop-disk-preserved g c =
    let told = c.loop-disk.told.items in
    let setup = c.in_ok-setup.setup in
    let next : c.loop-disk.disk-iterator.rest.items ≡ c.in-Some.disk ∷ c.next.new.self.rest.items = search rules in
    let place : c.len.result ≡ 0 + length told = omega (arith, c.len.ensures, c.loop-disk.told.ok.0) in
    let fits = c.in_ok-setup.ensures.few refl in
    record {
      disks = told_on told c.push.new.self.items (c.in-Some.disk, setup) c.loop-disk.disk-iterator.rest.items c.next.new.self.rest.items c.args.disks.items
          c.in_ok-push.ensures.items next c.loop-disk.invariant.disks;
      setups = subst (λ (l : List (g.row.D.Denot × Setup)). AreSetups c.args.splits.now c.args.stride 0 l) (sym c.in_ok-push.ensures.items)
          (setups_on c.args.splits.now c.args.stride 0 told (c.in-Some.disk, setup) c.loop-disk.invariant.setups
          (subst (λ (k : ℕ). IsSetupOf c.args.splits.now c.args.stride k setup) place c.in_ok-setup.ensures.setup));
      few = omega (arith, fits, place, c.in_ok-push.ensures.len, c.push.new.self.ok.0, c.loop-disk.told.ok.0);
    }
