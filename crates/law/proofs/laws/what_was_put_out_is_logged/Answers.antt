use Rattle.law.proofs.Passing.{put_out_is_logged}
use Rattle.law.proofs.laws.what_was_put_out_is_logged.Goals as goal

pub returns : goal.returns
returns c = put_out_is_logged
