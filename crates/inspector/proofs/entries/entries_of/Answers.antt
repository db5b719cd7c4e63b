use Rattle.std.proofs.Common.{◌∙◌, ◌+◌, ◌++◌, ℕ, List, add-one, ap, drop, flat_map, map, sym}
use Rattle.std.proofs.lemmas.List.{at_drop_all}
use Rattle.units.specs.Lists.{gather, numbered}
use Rattle.record.specs.declared.record.Record.{Record}
use Rattle.inspector.specs.Entries.{About, about_in, entries}
use Rattle.inspector.proofs.Steps.{at_member, put_all, put_more}
use Rattle.inspector.proofs.entries.entries_of.Goals as goal

-- those of some logs, from a number on
abbrev of_logs : ℕ → List (List Record) → List About
of_logs n logs = flat_map (λ q. gather (about_in q.0) q.1) (numbered n logs)

pub loop-shard-preserved : goal.loop-shard-preserved
loop-shard-preserved c =
    let logs = c.args.logs.now in
    let n = c.loop-shard.shard in
    let log = c.index-logs-shard.result in
    let left = map (λ log. log.items) (drop (n + 1) logs) in
    put_more c.loop-shard.found.items (gather (about_in n) log.items) _ (of_logs n (map (λ log. log.items) (drop n logs))) (of_logs (n + 1) left)
    (entries (map (λ log. log.items) logs))
    (c.in_ok-add_entries.ensures.found
    ∙ ap (λ (l : List Record). c.loop-shard.found.items ++ gather (about_in n) l) c.deref.ensures.value)
    (at_member (λ ls. of_logs n (map (λ log. log.items) ls)) logs n log c.loop-shard-test.true c.index-logs-shard.is
    ∙ ap (λ k. gather (about_in n) log.items ++ of_logs k left) (sym (add-one n)))
    c.loop-shard.invariant

pub returns-clause-found : goal.returns-clause-found
returns-clause-found c =
    let logs = c.args.logs.now in
    let n = c.loop-shard.shard in
    put_all c.loop-shard.found.items _ (entries (map (λ log. log.items) logs))
    (at_drop_all (λ ls. of_logs n (map (λ log. log.items) ls)) logs n c.loop-shard-test.false) c.loop-shard.invariant
