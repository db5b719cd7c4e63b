use Rattle.protocol.proofs.FitsBeside as laws
use Rattle.protocol.proofs.laws.logged_fits_beside.Goals as goal

pub returns : goal.returns
returns c = laws.logged_fits_beside
