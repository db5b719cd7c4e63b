use Rattle.std.proofs.Common.{◌∙◌, IsSome, IsTrue, None, ap, refl, subst, sym}
use Rattle.record.specs.Facts.{after_outcome, with_status}
use Rattle.facts.specs.Rules.{allows}
use Rattle.facts.specs.Shown.{by_id, meaning, meant, shown_entries}
use Rattle.facts.proofs.Entries.{found_is, shown_put}
use Rattle.facts.proofs.table.close.Goals as goal

pub after-ended-requires : goal.after-ended-requires
after-ended-requires c =
    subst (λ s. IsTrue (allows s c.args.outcome)) (sym (found_is c.args.statuses.now.entries c.args.txn _ c.in-Some.ensures.value)) c.requires

pub unreachable-requires : goal.unreachable-requires
unreachable-requires c =
    let none : IsTrue (allows (meant None) c.args.outcome) =
    subst (λ s. IsTrue (allows s c.args.outcome)) (sym (found_is c.args.statuses.now.entries c.args.txn None c.in-None.ensures.value)) c.requires in
    cc

pub returns-clause-entries : goal.returns-clause-entries
returns-clause-entries c =
    let old = c.args.statuses.now.entries in
    let found = c.in-Some.ensures.value in
    shown_put old _ c.args.txn c.replace.new.dest ((c.get_mut.follows.holds _).3 (subst IsSome found refl)).0
    ∙ ap (with_status (shown_entries (by_id old)) c.args.txn)
    (ap meaning c.replace.ensures.after ∙ c.after-ended.ensures ∙ ap (λ s. after_outcome s c.args.outcome) (found_is old c.args.txn _ found))

pub returns-clause-former : goal.returns-clause-former
returns-clause-former c =
    ap meaning c.replace.ensures.value ∙ found_is c.args.statuses.now.entries c.args.txn _ c.in-Some.ensures.value
