use Rattle.units.specs.Limits.{most_rows}
use Rattle.std.proofs.Common.{◌∙◌, ap, sym, refl, nat_le, length}
use Rattle.memory.specs.Kept.{Kept, start_of}
use Rattle.memory.proofs.Fits.{may_ask_roomy, may_ask_below}
use Rattle.memory.proofs.States.{crowded-search}
use Rattle.memory.proofs.state.State.is_crowded.Goals as goal

pub returns-then-is_full-clause-crowded : goal.returns-then-is_full-clause-crowded
returns-then-is_full-clause-crowded c =
    crowded-search (start_of c.args.self.now) c.args.txn c.row.result c.is_none.result _ c.row.ensures c.is_none.ensures
    (c.if-is_full.ensures ∙ ap (λ (k : Kept). nat_le most_rows (length k.memory.rows)) c.self.view_is)

pub returns-then-is_full-clause-asks : goal.returns-then-is_full-clause-asks
returns-then-is_full-clause-asks c roomy may =
    may_ask_roomy (start_of c.args.self.now) c.args.txn refl
    (sym (returns-then-is_full-clause-crowded c) ∙ roomy) may

pub returns-else-is_full-clause-asks : goal.returns-else-is_full-clause-asks
returns-else-is_full-clause-asks c roomy may =
    may_ask_below c.args.self.now.memory.rows c.args.txn
    (sym (ap (λ (k : Kept). nat_le most_rows (length k.memory.rows)) c.self.view_is) ∙ sym c.is_full.ensures ∙ c.if-is_full.false) may
