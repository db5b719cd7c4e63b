use Rattle.std.proofs.Common.{◌∙◌, ◌+◌, ◌++◌, ℕ, List, add-one, ap, drop, flat_map, map, rules, sym}
use Rattle.std.proofs.lemmas.List.{at_drop_all}
use Rattle.units.specs.Lists.{numbered}
use Rattle.record.specs.History.{Txn, history}
use Rattle.record.specs.declared.record.Record.{Record}
use Rattle.inspector.specs.Decided.{decided_in}
use Rattle.inspector.specs.Entries.{About}
use Rattle.inspector.proofs.HistoryByEntries.{history_is}
use Rattle.inspector.proofs.Steps.{at_member, put_all, put_more}
use Rattle.inspector.proofs.history.history_of.Goals as goal

-- the transactions of some logs, from a number on
abbrev of_logs : List About → ℕ → List (List Record) → List Txn
of_logs about n logs = flat_map (decided_in about) (numbered n logs)

pub loop-shard-init : goal.loop-shard-init
loop-shard-init c = search (rules, history_is (map (λ log. log.items) c.args.logs.now) c.args.about.now c.requires.same)

pub loop-shard-preserved : goal.loop-shard-preserved
loop-shard-preserved c =
    let about = c.args.about.now in
    let logs = c.args.logs.now in
    let n = c.loop-shard.shard in
    let log = c.index-logs-shard.result in
    let left = map (λ log. log.items) (drop (n + 1) logs) in
    put_more c.loop-shard.found.items (decided_in about (n, log.items)) _ (of_logs about n (map (λ log. log.items) (drop n logs)))
    (of_logs about (n + 1) left) (history (map (λ log. log.items) logs))
    (c.in_ok-add_decided.ensures.found
    ∙ ap (λ (l : List Record). c.loop-shard.found.items ++ decided_in about (n, l)) c.deref.ensures.value)
    (at_member (λ ls. of_logs about n (map (λ log. log.items) ls)) logs n log c.loop-shard-test.true c.index-logs-shard.is
    ∙ ap (λ k. decided_in about (n, log.items) ++ of_logs about k left) (sym (add-one n)))
    c.loop-shard.invariant

pub returns-clause-history : goal.returns-clause-history
returns-clause-history c =
    let about = c.args.about.now in
    let logs = c.args.logs.now in
    let n = c.loop-shard.shard in
    put_all c.loop-shard.found.items _ (history (map (λ log. log.items) logs))
    (at_drop_all (λ ls. of_logs about n (map (λ log. log.items) ls)) logs n c.loop-shard-test.false) c.loop-shard.invariant
