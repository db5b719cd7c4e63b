use Rattle.std.proofs.Common.{◌∷◌, ◌+◌, ◌++◌, [], drop}
use Rattle.std.proofs.lemmas.List.{at_drop_all}
use Rattle.inspector.specs.Versions.{placed_at}
use Rattle.inspector.proofs.Steps.{at_member, put_all, put_more}
use Rattle.inspector.proofs.versions.add_writes.Goals as goal

pub loop-write-preserved : goal.loop-write-preserved
loop-write-preserved c =
    let ws = c.args.writes.now in
    let i = c.loop-write.write-index in
    let w = c.write-item.result in
    put_more c.loop-write.found.items (placed_at c.args.place (w ∷ [])) _ (placed_at c.args.place (drop i ws))
    (placed_at c.args.place (drop (i + 1) ws)) (c.args.found.now.items ++ placed_at c.args.place ws) c.in_ok-push.ensures.items
    (at_member (λ l. placed_at c.args.place l) ws i w c.loop-write-test.true c.write-item.is) c.loop-write.invariant

pub returns-clause-found : goal.returns-clause-found
returns-clause-found c =
    let ws = c.args.writes.now in
    put_all c.loop-write.found.items _ (c.args.found.now.items ++ placed_at c.args.place ws)
    (at_drop_all (λ l. placed_at c.args.place l) ws c.loop-write.write-index c.loop-write-test.false) c.loop-write.invariant
