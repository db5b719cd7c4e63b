use Rattle.std.proofs.Common.{ℕ, subst}
use Rattle.board.specs.State.{AddsVersion}
use Rattle.board.proofs.Longer.{takes_install, takes_safe, takes_horizon}
use Rattle.board.proofs.board_copy.BoardCopy.prepare.Goals as goal

pub invariant_of-self-in-Installed : goal.invariant_of-self-in-Installed
invariant_of-self-in-Installed c =
    let inv = c.self.invariant in
    let s = c.self.inside in
    let taken = takes_install s.versions.installs c.add_version.new.versions.installs s.list.entries s.ahead.entries c.add.new.self.entries c.args.entry.now
    c.in-Installed.install s.prepared_safe s.prepared_horizon
    c.in-Installed.is c.add.ensures.0 inv.1 inv.2
    (subst (λ (h : ℕ). AddsVersion h s.versions.installs c.add_version.new.versions.installs c.in-Installed.install) inv.5
    c.in_ok-add_version-in-Installed.ensures.added) inv.4 inv.6 in
    (inv.0, taken.0, taken.1, inv.3, taken.2, inv.5, taken.3)

pub invariant_of-self-in-Safe : goal.invariant_of-self-in-Safe
invariant_of-self-in-Safe c =
    let inv = c.self.invariant in
    let s = c.self.inside in
    let taken = takes_safe s.versions.installs s.list.entries s.ahead.entries c.add-in-Safe.new.self.entries c.args.entry.now c.in-Safe.at s.prepared_horizon
    c.in-Safe.is c.add-in-Safe.ensures.0 inv.1 inv.2 inv.6 in
    (inv.0, taken.0.0, taken.0.1, inv.3, taken.1, inv.5, taken.2)

pub invariant_of-self-in-Horizon : goal.invariant_of-self-in-Horizon
invariant_of-self-in-Horizon c =
    let inv = c.self.invariant in
    let s = c.self.inside in
    let taken = takes_horizon s.versions.installs s.list.entries s.ahead.entries c.add-in-Horizon.new.self.entries c.args.entry.now c.in-Horizon.at
    s.prepared_safe s.prepared_horizon c.later-self-inside.result c.in-Horizon.is c.add-in-Horizon.ensures.0 inv.1 inv.2 inv.4 inv.6
    c.later-self-inside.ensures in
    (inv.0, taken.0.0, taken.0.1, inv.3, taken.1, inv.5, taken.2)
