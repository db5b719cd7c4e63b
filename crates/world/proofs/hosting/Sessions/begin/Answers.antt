use Rattle.std.proofs.Common.{[], ◌∷◌, ◌++◌, ap, ◌∙◌, subst}
use Rattle.session.specs.Sessions.{begun}
use Rattle.world.specs.Held.{IsBegun}
use Rattle.world.proofs.Hosted.{begins}
use Rattle.world.proofs.hosting.Sessions.begin.Goals as goal

pub returns-clause-begun : goal.returns-clause-begun
returns-clause-begun c splits cs h none =
    let s = c.args.self.now in
    begins splits s (record { splits = s.splits; ids = c.insert.new.self; begun = c.push_reserved.new.self }) cs c.new.result c.args.txn h none
    (subst (λ ks. IsBegun ks c.new.result (begun c.args.txn)) h.splits_are c.new.ensures) h.splits_are c.in-Ok-insert.ensures.keys
    (c.push_reserved.ensures.items ∙ ap (λ bs. bs ++ c.new.result ∷ []) c.in-Ok.ensures.items)
