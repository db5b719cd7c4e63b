use Rattle.service.proofs.Statuses.{one_of_three}
use Rattle.service.proofs.running.carried_out.Goals as goal

pub returns-in-Import : goal.returns-in-Import
returns-in-Import g c = one_of_three c.import_folder.result c.import_folder.ensures
