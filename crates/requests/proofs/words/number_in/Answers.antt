use Rattle.requests.proofs.Clients.{no_number}
use Rattle.requests.proofs.words.number_in.Goals as goal

pub returns-in-Err : goal.returns-in-Err
returns-in-Err c = no_number c.args.word.now c.in-Err.ensures.cases.0
