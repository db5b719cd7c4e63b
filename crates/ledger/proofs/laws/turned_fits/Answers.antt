use Rattle.ledger.proofs.Fits as laws
use Rattle.ledger.proofs.laws.turned_fits.Goals as goal

pub returns : goal.returns
returns c = laws.turned-fits
