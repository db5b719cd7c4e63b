use Rattle.book.proofs.Replays.{page_is_step}
use Rattle.book.proofs.laws.a_page_is_a_step.Goals as goal

pub returns : goal.returns
returns c = page_is_step
