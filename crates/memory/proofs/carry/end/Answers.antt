use Rattle.std.proofs.Common.{◌∙◌, sym}
use Rattle.memory.proofs.Carried.{none_found, some_found, gone_already, ends_reading}
use Rattle.memory.proofs.carry.end.Goals as goal

pub returns-else-is_some : goal.returns-else-is_some
returns-else-is_some c =
    sym (gone_already c.args.rows.now.rows c.args.txn (none_found c.find.result _ _ c.find.ensures (sym c.is_some.ensures ∙ c.if-is_some.false)))

pub end-requires : goal.end-requires
end-requires c =
    let there = some_found c.find.result _ _ c.find.ensures (sym c.is_some.ensures ∙ c.if-is_some.true) in
    ends_reading c.args.rows.now.rows c.args.txn _ there.1 c.requires
