use Rattle.std.proofs.Common.{◌++◌, ◌∷◌, [], reverse, refl}
use Rattle.std.proofs.Math.Logic.{∥∥₁_elim, ∥∥₁_map}
use Rattle.recovery.proofs.Props.{state-prop}
use Rattle.recovery.proofs.Progress.{of_going, on_refused, on_ok, on_err, newest_last}
use Rattle.recovery.proofs.rebuilding.Rebuild.take_over.Goals as goal

pub invariant_of-self : goal.invariant_of-self
invariant_of-self c =
    let old = c.args.self.now in
    record {
      progress = ∥∥₁_map old.progress (on_refused old.setup (reverse old.entries.entries) (reverse c.add.new.self.entries) c.args.entry
          (newest_last c.args.entry old.entries.entries c.add.new.self.entries c.add.ensures) old.state old.state old.refused c.if-is_some.ensures);
    }

pub go_on-requires : goal.go_on-requires
go_on-requires c =
    let old = c.args.self.now in
    ∥∥₁_elim old.progress (state-prop old.setup old.state)
    (λ h. (of_going old.setup (reverse old.entries.entries) (reverse old.entries.entries ++ c.args.entry ∷ []) c.args.entry refl old.state old.state old.refused
    c.if-is_some.ensures h).state_of)

pub invariant_of-self-in-Ok : goal.invariant_of-self-in-Ok
invariant_of-self-in-Ok c =
    let old = c.args.self.now in
    record {
      progress = ∥∥₁_map old.progress (on_ok old.setup (reverse old.entries.entries) (reverse c.add.new.self.entries) c.args.entry
          (newest_last c.args.entry old.entries.entries c.add.new.self.entries c.add.ensures) old.state c.go_on.new.state old.refused
          c.if-is_some.ensures c.in-Ok.ensures.next c.in-Ok.ensures.there c.in-Ok.ensures.state_of c.in-Ok.ensures.stage c.in-Ok.ensures.known);
    }

pub invariant_of-self-in-Err : goal.invariant_of-self-in-Err
invariant_of-self-in-Err c =
    let old = c.args.self.now in
    record {
      progress = ∥∥₁_map old.progress (on_err old.setup (reverse old.entries.entries) (reverse c.add.new.self.entries) c.args.entry
          (newest_last c.args.entry old.entries.entries c.add.new.self.entries c.add.ensures) old.state c.go_on.new.state old.refused c.in-Err.fault
          c.if-is_some.ensures c.in-Err.ensures.refused);
    }
