use Rattle.versions.proofs.AtOnce.{places_do_not_matter}
use Rattle.versions.proofs.OneMore as places
use Rattle.versions.proofs.laws.place_does_not_matter.Goals as goal

pub returns-clause-one : goal.returns-clause-one
returns-clause-one c = places.place_does_not_matter

pub returns-clause-all : goal.returns-clause-all
returns-clause-all c = places_do_not_matter
