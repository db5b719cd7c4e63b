use Rattle.versions.proofs.OneMore.{place_does_not_matter_from}
use Rattle.versions.proofs.Pruned as law
use Rattle.versions.proofs.laws.forgotten_is_not_missed.Goals as goal

pub returns-clause-once : goal.returns-clause-once
returns-clause-once c = law.pruned_is_not_missed

pub returns-clause-again : goal.returns-clause-again
returns-clause-again c = law.pruned_again_is_not_missed

pub returns-clause-stays : goal.returns-clause-stays
returns-clause-stays c = law.staying_is_not_missed

pub returns-clause-one : goal.returns-clause-one
returns-clause-one c = place_does_not_matter_from

pub returns-clause-whole : goal.returns-clause-whole
returns-clause-whole c = law.all_from_the_beginning

pub returns-clause-part : goal.returns-clause-part
returns-clause-part c = law.all_from_any_time
