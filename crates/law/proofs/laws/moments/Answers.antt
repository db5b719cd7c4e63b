use Rattle.law.proofs.HasAreas.{areas_keep}
use Rattle.law.proofs.OfSessions.{written_by_sessions}
use Rattle.law.proofs.WholeLaw.{commits_are_lines, externally_consistent, in_the_past, looks_show_acknowledged}
use Rattle.law.proofs.laws.moments.Goals as goal

pub returns-clause-consistent : goal.returns-clause-consistent
returns-clause-consistent c = externally_consistent

pub returns-clause-areas : goal.returns-clause-areas
returns-clause-areas c = areas_keep

pub returns-clause-written : goal.returns-clause-written
returns-clause-written c = written_by_sessions

pub returns-clause-past : goal.returns-clause-past
returns-clause-past c = in_the_past

pub returns-clause-looks : goal.returns-clause-looks
returns-clause-looks c = looks_show_acknowledged

pub returns-clause-acknowledged : goal.returns-clause-acknowledged
returns-clause-acknowledged c = commits_are_lines
