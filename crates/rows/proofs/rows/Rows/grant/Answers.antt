use Rattle.std.proofs.Common.{◌∙◌, length, List}
use Rattle.units.specs.Locks.{with_locks}
use Rattle.units.specs.declared.lock.Lock.{Lock}
use Rattle.protocol.specs.Rows.{Idle}
use Rattle.rows.proofs.Wounds.{may_end_wounded, made_way}
use Rattle.rows.proofs.rows.Rows.grant.Goals as goal

pub end_each-requires : goal.end_each-requires
end_each-requires c = may_end_wounded c.args.self.now.rows c.args.txn c.args.needs.now c.args.ended.now c.laws.ensures.order c.requires.ended

pub grant_free-requires-clause-reading : goal.grant_free-requires-clause-reading
grant_free-requires-clause-reading c = (made_way c.args.self.now c.end_each.new.self c.args.txn c.args.needs.now c.args.ended.now c.requires.ended
    c.end_each.ensures.rows c.end_each.ensures.tokens).reading c.requires.reading

pub grant_free-requires-clause-room : goal.grant_free-requires-clause-room
grant_free-requires-clause-room c = (made_way c.args.self.now c.end_each.new.self c.args.txn c.args.needs.now c.args.ended.now c.requires.ended
    c.end_each.ensures.rows c.end_each.ensures.tokens).fits (length c.args.needs.now) c.requires.room

pub returns : goal.returns
returns c = c.grant_free.ensures ∙ (made_way c.args.self.now c.end_each.new.self c.args.txn c.args.needs.now c.args.ended.now c.requires.ended
    c.end_each.ensures.rows c.end_each.ensures.tokens).given (λ (held : List Lock). with_locks held c.args.needs.now) Idle
