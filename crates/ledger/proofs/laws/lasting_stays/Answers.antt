use Rattle.ledger.proofs.Stays as laws
use Rattle.ledger.proofs.laws.lasting_stays.Goals as goal

pub returns : goal.returns
returns c = laws.lasting-stays
