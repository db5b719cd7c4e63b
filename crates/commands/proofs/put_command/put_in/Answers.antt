use Rattle.commands.proofs.Refusals.{unput_by}
use Rattle.commands.proofs.put_command.put_in.Goals as goal

pub returns-clause-refused : goal.returns-clause-refused
returns-clause-refused g c = unput_by (goal.P-post g c.args.system.now.drive.put c.args.alloc) _ c.put-ended.result c.put-ended.ensures
