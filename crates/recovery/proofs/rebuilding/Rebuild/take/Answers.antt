use Rattle.std.proofs.Common.{inl, reverse}
use Rattle.std.proofs.Math.Logic.{∥∥₁_map}
use Rattle.recovery.proofs.Progress.{on_refused, on_err, newest_last}
use Rattle.recovery.proofs.rebuilding.Rebuild.take.Goals as goal

pub invariant_of-self : goal.invariant_of-self
invariant_of-self c =
    let old = c.args.self.now in
    record {
      progress = ∥∥₁_map old.progress (on_refused old.setup (reverse old.entries.entries) (reverse c.add.new.self.entries) c.args.entry.now
          (newest_last c.args.entry.now old.entries.entries c.add.new.self.entries c.add.ensures) old.state old.state old.refused c.if-is_some.ensures);
    }

pub invariant_of-self-in-Err : goal.invariant_of-self-in-Err
invariant_of-self-in-Err c =
    let old = c.args.self.now in
    record {
      progress = ∥∥₁_map old.progress (on_err old.setup (reverse old.entries.entries) (reverse c.add-in-Err.new.self.entries) c.args.entry.now
          (newest_last c.args.entry.now old.entries.entries c.add-in-Err.new.self.entries c.add-in-Err.ensures) old.state old.state old.refused c.in-Err.fault
          c.if-is_some.ensures (inl c.in-Err.ensures.memory));
    }
