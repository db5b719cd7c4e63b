use Rattle.std.proofs.Common.{◌++◌, ◌∷◌, [], ap, ◌∙◌}
use Rattle.units.specs.declared.writes.Install.{Install}
use Rattle.units.specs.Versions.{at_time}
use Rattle.board.proofs.Continuing.{steps}
use Rattle.board.proofs.history.note.Goals as goal

pub returns-clause-history : goal.returns-clause-history
returns-clause-history c =
    steps (at_time c.args.versions.now.installs c.args.key.now) c.args.key.now c.args.to c.in-Some.at c.args.history.now.next c.next_time-history.result
    c.args.history.now.versions.items c.push.new.self.items c.in-Some.is c.next_time-history.ensures
    (c.in_ok-push.ensures.items ∙ ap (λ (i : Install). c.args.history.now.versions.items ++ i ∷ []) c.in_ok-version_at.ensures.version)
