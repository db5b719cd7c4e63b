use Rattle.moving.proofs.renewing.renew_next.Goals as goal

pub place-requires-clause-whole : goal.place-requires-clause-whole
place-requires-clause-whole g c keeps = (_, (c.in-Ok.ensures.renewed keeps).2)
