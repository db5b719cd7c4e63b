use Rattle.std.proofs.Common.{◌∙◌, ap, length, List, Some}
use Rattle.units.specs.Locks.{wounded}
use Rattle.units.specs.declared.lock.Lock.{Lock}
use Rattle.protocol.specs.Rows.{Row, claims}
use Rattle.rows.specs.CodeRows.{phase_of_wait}
use Rattle.rows.proofs.Wounds.{may_end_wounded, made_way, then_quiet}
use Rattle.rows.proofs.rows.Rows.wait.Goals as goal

pub end_each-requires : goal.end_each-requires
end_each-requires c = may_end_wounded c.args.self.now.rows c.args.txn c.args.needs.now c.args.ended.now c.laws.ensures.order c.requires.ended

pub block-requires-clause-reading : goal.block-requires-clause-reading
block-requires-clause-reading c = (made_way c.args.self.now c.end_each.new.self c.args.txn c.args.needs.now c.args.ended.now c.requires.ended
    c.end_each.ensures.rows c.end_each.ensures.tokens).reading c.requires.reading

pub block-requires-clause-room : goal.block-requires-clause-room
block-requires-clause-room c = (made_way c.args.self.now c.end_each.new.self c.args.txn c.args.needs.now c.args.ended.now c.requires.ended
    c.end_each.ensures.rows c.end_each.ensures.tokens).fits (length c.args.needs.now) c.requires.room

pub block-requires-clause-quiet : goal.block-requires-clause-quiet
block-requires-clause-quiet c =
    ap (λ (l : List Row). wounded (claims l) c.args.txn c.args.needs.now) c.end_each.ensures.rows
    ∙ then_quiet c.args.self.now.rows c.args.txn c.args.needs.now c.args.ended.now c.requires.ended

pub returns : goal.returns
returns c = c.block.ensures ∙ (made_way c.args.self.now c.end_each.new.self c.args.txn c.args.needs.now c.args.ended.now c.requires.ended
    c.end_each.ensures.rows c.end_each.ensures.tokens).given (λ (held : List Lock). held) (phase_of_wait (Some c.args.wait))
