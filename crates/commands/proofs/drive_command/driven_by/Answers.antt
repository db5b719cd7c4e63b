use Rattle.commands.proofs.Refusals.{driven_by, refused_by}
use Rattle.commands.proofs.drive_command.driven_by.Goals as goal

pub returns-clause-driven : goal.returns-clause-driven
returns-clause-driven g c = driven_by (goal.D-post g c.args.system.now.drive.run c.args.alloc) _ c.run.result c.run.ensures

pub returns-clause-refused : goal.returns-clause-refused
returns-clause-refused g c = refused_by (goal.D-post g c.args.system.now.drive.run c.args.alloc) _ c.run.result c.run.ensures
