use Rattle.std.proofs.Common.{◌≡◌, ◌∙◌, List, None, nat_le, sym, ap}
use Rattle.std.specs.Option.{option_copied}
use Rattle.units.specs.Lists.{when}
use Rattle.record.specs.History.{Txn, before, serial_before, upto}
use Rattle.record.specs.Verdict.{line_reads_right, same_value}
use Rattle.inspector.specs.Versions.{shown}
use Rattle.inspector.proofs.FoldLaws.{before_is, upto_is}
use Rattle.inspector.proofs.lines.reads_right.Goals as goal

pub returns-in-Some : goal.returns-in-Some
returns-in-Some c =
    let h = c.args.history.now in
    let reader = c.in-Some.reader.now in
    let value : option_copied c.value_before.result ≡ before h reader c.in-Read.key =
    c.value_before.ensures ∙ ap (λ (ts : List Txn). shown (λ t. serial_before t reader) ts c.in-Read.key None) c.requires.serial
    ∙ sym (before_is h reader c.in-Read.key) in
    c.is_same.ensures
    ∙ (λ i. same_value (value i) (c.as_ref.ensures.value i))
    ∙ ap (λ o. when (λ u. same_value (before h u c.in-Read.key) c.in-Read.value) o) c.in-Some.ensures
    ∙ ap (λ l. line_reads_right h l) (sym c.in-Read.is)

pub returns-in-Look : goal.returns-in-Look
returns-in-Look c =
    let h = c.args.history.now in
    let value : option_copied c.value_up_to.result ≡ upto h c.in-Look.at c.in-Look.key =
    c.value_up_to.ensures ∙ ap (λ (ts : List Txn). shown (λ t. nat_le t.at c.in-Look.at) ts c.in-Look.key None) c.requires.serial
    ∙ sym (upto_is h c.in-Look.at c.in-Look.key) in
    c.is_same-in-Look.ensures
    ∙ (λ i. same_value (value i) (c.as_ref-in-Look.ensures.value i))
    ∙ ap (λ l. line_reads_right h l) (sym c.in-Look.is)
