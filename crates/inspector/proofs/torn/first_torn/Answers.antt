use Rattle.std.proofs.Common.{◌≡◌, ◌∙◌, ◌&&◌, ℕ, IfOk, List, Option, ap, map, not, subst, sym}
use Rattle.std.proofs.lemmas.List.{length-map}
use Rattle.units.specs.Ids.{Id}
use Rattle.units.specs.Lists.{first}
use Rattle.record.specs.Accepted.{is_kept}
use Rattle.record.specs.Whole.{all_ids, is_whole}
use Rattle.record.specs.declared.record.Record.{Record}
use Rattle.inspector.specs.Entries.{logs_from, of_txn}
use Rattle.inspector.proofs.TornLaws.{torn_is}
use Rattle.inspector.proofs.torn.first_torn.Goals as goal

pub returns-clause-found : goal.returns-clause-found
returns-clause-found c =
    let logs : List (List Record) = map (λ log. log.items) c.args.logs.now in
    let es = c.args.found.now in
    let retired : Option Id = c.args.retired.now in
    let torn_over : ℕ → Option Id =
    λ n. first (λ t. is_kept retired t && not (is_whole t (logs_from n 0 (of_txn t es)))) (map (λ e. e.txn) es) in
    subst (λ (o : Option Id). IfOk c.first_among.result (λ torn. torn ≡ o))
    (ap torn_over (sym (length-map c.args.logs.now (λ log. log.items)))
    ∙ torn_is retired logs es c.requires.order c.requires.same
    ∙ ap (λ (r : Option Id). first (λ t. is_kept r t && not (is_whole t logs)) (all_ids logs)) c.requires.retired)
    c.first_among.ensures.torn
