use Rattle.facts.proofs.Known as laws
use Rattle.facts.proofs.laws.says_of_records.Goals as goal

pub returns : goal.returns
returns c = laws.says_of_records
