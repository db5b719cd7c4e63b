use Rattle.std.proofs.Common.{sym, subst}
use Rattle.std.proofs.Math.Logic.{∥∥₁_elim, ∥∥₁_map}
use Rattle.units.specs.declared.setup.Setup.{Setup}
use Rattle.disk.specs.File.{surface}
use Rattle.gatelog.specs.Shown.{disk_of, is_stopped}
use Rattle.record.specs.Facts.{Facts}
use Rattle.ledger.specs.Keeps.{IsLasting}
use Rattle.ledger.specs.Turned.{held_facts}
use Rattle.ledger.proofs.Again.{held-lasting}
use Rattle.ledger.proofs.Held.{held-showable, held-sound}
use Rattle.ledger.proofs.Props.{lasting-prop}
use Rattle.protocol.specs.Rows.{Memory}
use Rattle.protocol.specs.Showable.{IsShowable}
use Rattle.protocol.specs.Sound.{IsSound}
use Rattle.shard.specs.Agrees.{AgreesWithLog}
use Rattle.shard.proofs.Agrees.{agrees_held}
use Rattle.shard.proofs.Gone.{gone_or_not}
use Rattle.shard.proofs.machine.Machine.let_go.Goals as goal

pub invariant_of-self : goal.invariant_of-self
invariant_of-self g c =
    let m = c.args.self.now in
    let old = m.state in
    let new = c.let_go.new.self in
    let lasting : IsLasting old.facts = ∥∥₁_elim m.lasting (lasting-prop old.facts) (λ l. l) in
    let stopped = is_stopped m.gate_log in
    let disk = surface (g.D.Disk.file (disk_of m.gate_log)) in
    let by : (P : Facts → Type 0) → P (held_facts old.facts) → P old.facts → P new.facts =
    λ P. gone_or_not P old.facts new.facts c.let_go.result c.let_go.ensures.facts c.let_go.ensures.refused in
    record {
      agrees = λ keeps. by (λ (f : Facts). ∥ AgreesWithLog stopped disk f ∥₁)
          (∥∥₁_map (m.agrees keeps) (agrees_held stopped disk old.facts lasting)) (m.agrees keeps);
      sound =
          subst (λ (s : Setup). ∥ IsSound s.shard new.facts new.memory ∥₁) (sym c.let_go.ensures.setup)
          (subst (λ (kept : Memory). ∥ IsSound old.setup.shard new.facts kept ∥₁) (sym c.let_go.ensures.memory)
          (by (λ (f : Facts). ∥ IsSound old.setup.shard f old.memory ∥₁)
          (∥∥₁_map m.sound (held-sound old.setup.shard old.facts old.memory lasting.regular)) m.sound));
      showable =
          subst (λ (kept : Memory). IsShowable new.facts kept) (sym c.let_go.ensures.memory)
          (by (λ (f : Facts). IsShowable f old.memory) (held-showable old.facts old.memory lasting m.showable) m.showable);
      lasting = by (λ (f : Facts). ∥ IsLasting f ∥₁) (∥∥₁_map m.lasting (held-lasting old.facts)) m.lasting;
    }
