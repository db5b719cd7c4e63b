use Rattle.gatelog.proofs.migrating.is_old.Goals as goal

pub returns-clause-whole : goal.returns-clause-whole
returns-clause-whole g c keeps = (c.in_ok-copy_of.ensures.spelled.0, c.in_ok-copy_of.ensures.spelled.2 keeps)
