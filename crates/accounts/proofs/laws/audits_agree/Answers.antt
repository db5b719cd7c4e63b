use Rattle.accounts.proofs.Sums.{audits_agree}
use Rattle.accounts.proofs.laws.audits_agree.Goals as goal

pub returns : goal.returns
returns c = audits_agree
