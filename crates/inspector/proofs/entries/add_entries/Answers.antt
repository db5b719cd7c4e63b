use Rattle.std.specs.Prelude.{option_map}
use Rattle.std.proofs.Common.{◌≡◌, ◌∙◌, ◌++◌, Option, Some, None, ap, append-nil, rules, sym}
use Rattle.std.proofs.lemmas.List.{at_drop_all}
use Rattle.units.specs.Ids.{Id}
use Rattle.units.specs.Lists.{gather}
use Rattle.inspector.specs.Entries.{About, about_in}
use Rattle.inspector.proofs.Steps.{put_all, put_made}
use Rattle.inspector.proofs.entries.add_entries.Goals as goal
use Rattle.inspector.proofs.entries.add_entries.Goals.{in-Some+in_ok-push, in_default}

pub loop-item-preserved : goal.loop-item-preserved
loop-item-preserved c =
    let n = c.args.shard in
    let log = c.args.log.now in
    let item = c.item-item.result in
    let found = c.loop-item.found.items in
    let all = c.args.found.now.items ++ gather (about_in n) log in
    elim c.match-id_of.branch [
      | in-Some+in_ok-push w ↦
          put_made (about_in n) log c.loop-item.item-index item (Some (record { txn = w.in-Some.txn; shard = n; item = item })) found _ all
          c.loop-item-test.true c.item-item.is
          (ap (λ (o : Option Id). option_map {U = About} (λ t. record { txn = t; shard = n; item = item }) o) (sym c.id_of.ensures ∙ w.in-Some.is))
          (rw w.found-is w.in_ok-push.ensures.items) c.loop-item.invariant
      | in_default w ↦
          let none : c.id_of.result ≡ None = search rules in
          put_made (about_in n) log c.loop-item.item-index item None found _ all c.loop-item-test.true c.item-item.is
          (ap (λ (o : Option Id). option_map {U = About} (λ t. record { txn = t; shard = n; item = item }) o) (sym c.id_of.ensures ∙ none))
          (rw w.found-is (sym (append-nil found))) c.loop-item.invariant
    ]

pub returns-clause-found : goal.returns-clause-found
returns-clause-found c =
    let log = c.args.log.now in
    put_all c.loop-item.found.items _ (c.args.found.now.items ++ gather (about_in c.args.shard) log)
    (at_drop_all (λ l. gather (about_in c.args.shard) l) log c.loop-item.item-index c.loop-item-test.false) c.loop-item.invariant
