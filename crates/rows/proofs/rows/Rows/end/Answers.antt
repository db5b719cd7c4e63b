use Rattle.std.proofs.Common.{◌∙◌, ap, map}
use Rattle.rows.specs.CodeRows.{is_reading, token_of}
use Rattle.rows.specs.RowTable.{RowTable, without_token}
use Rattle.rows.proofs.Ties.{passes_seen}
use Rattle.rows.proofs.Steps.{left, tokens-without}
use Rattle.rows.proofs.rows.Rows.end.Goals as goal

pub take_reading-state-requires : goal.take_reading-state-requires
take_reading-state-requires c = passes_seen is_reading c.self.inside.rows c.self.inside.locks c.args.txn c.self.view_is c.requires

pub invariant_of-self : goal.invariant_of-self
invariant_of-self c = (left c.self.inside.locks c.end.new.table c.take_reading-state.ensures c.self.invariant c.self.view_is c.end.ensures).tied

pub returns-clause-rows : goal.returns-clause-rows
returns-clause-rows c = (left c.self.inside.locks c.end.new.table c.take_reading-state.ensures c.self.invariant c.self.view_is c.end.ensures).rows_are

pub returns-clause-tokens : goal.returns-clause-tokens
returns-clause-tokens c =
    ap (map token_of) c.take_reading-state.ensures.rest ∙ tokens-without c.self.inside.rows c.args.txn
    ∙ ap (λ (t : RowTable). without_token t.tokens c.args.txn) c.self.view_is
