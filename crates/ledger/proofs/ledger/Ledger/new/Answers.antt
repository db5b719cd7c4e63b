use Rattle.std.proofs.Common.{◌≡◌, true, List, [], length, sym, subst}
use Rattle.units.specs.declared.writes.Install.{Install}
use Rattle.record.specs.Facts.{Facts, facts_of}
use Rattle.versions.specs.Orders.{Orders}
use Rattle.protocol.specs.Showable.{rises_by_key}
use Rattle.facts.specs.declared.stage.Stage.{Stage}
use Rattle.ledger.specs.Ledger.{head_ascends}
use Rattle.ledger.proofs.Learns.{no_horizon, no_installs, none_rise, none_rising}
use Rattle.ledger.proofs.ledger.Ledger.new.Goals as goal

pub invariant_of-result : goal.invariant_of-result
invariant_of-result c = (
  subst (λ (f : Facts). Orders f.horizon f.installs (length f.installs) c.none.result) (sym c.new.ensures.facts)
      (subst (λ h. Orders h (facts_of []).installs (length (facts_of []).installs) c.none.result) (sym no_horizon)
      (subst (λ (t : List Install). Orders 0 t (length t) c.none.result) (sym no_installs) c.none.ensures.orders)),
  subst (λ (f : Facts). head_ascends c.new.result.stage f.installs ≡ true) (sym c.new.ensures.facts)
      (subst (λ (s : Stage). head_ascends s (facts_of []).installs ≡ true) (sym c.new.ensures.stage) none_rising),
  subst (λ (f : Facts). rises_by_key [] f.installs ≡ true) (sym c.new.ensures.facts) none_rise,
)
