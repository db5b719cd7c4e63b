use Rattle.std.proofs.Common.{◌≡◌, ◌∙◌, true, false, ap, sym, subst}
use Rattle.record.specs.declared.record.Record.{Record}
use Rattle.facts.specs.Rules.{follows_facts}
use Rattle.facts.specs.Stages.{follows_head}
use Rattle.recovery.proofs.Beside.{of_head}
use Rattle.recovery.proofs.rebuilding.take.Goals as goal

pub keep-requires-clause-follows : goal.keep-requires-clause-follows
keep-requires-clause-follows c =
    let k = c.args.state.now in
    let none : follows_facts k.setup.shard k.facts c.args.entry.item ≡ false =
    ap (follows_facts k.setup.shard k.facts) (sym c.item.ensures) ∙ sym c.follows.ensures ∙ c.if-follows.false in
    subst (λ (r : Record). follows_head k.setup.shard k.stage k.facts r ≡ true) (sym (c.note-else-follows.ensures ∙ c.into_logged-else-follows.ensures))
    (of_head k.setup.shard k.stage k.facts c.args.entry.item c.in-Ok.ensures.follows none)
