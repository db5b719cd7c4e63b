use Rattle.store.proofs.serving.work_with.Goals as goal

pub returns-clause-clients : goal.returns-clause-clients
returns-clause-clients g c = (c.in_ok-clients.clients, c.work.ensures, λ k d lt. (c.in_ok-clients.ensures.clients k d lt).0)
