use Rattle.std.proofs.Common.{rules, nat_le}
use Rattle.std.proofs.lemmas.Fn.{filter_same}
use Rattle.units.specs.declared.writes.Install.{Install}
use Rattle.store.proofs.histories.cut_off.Goals as goal

pub returns : goal.returns
returns c = filter_same _ (λ (v : Install). nat_le v.at c.args.to) _ (λ x b f' k. search rules) _ _ c.retain.ensures.filtered
