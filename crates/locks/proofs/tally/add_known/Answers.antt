use Rattle.std.proofs.Common.{Some, sym, refl}
use Rattle.indexmap.specs.IndexMap.{set_value_at}
use Rattle.locks.specs.Tally.{numbers}
use Rattle.locks.proofs.Known.{set_adds, set_at}
use Rattle.locks.proofs.tally.add_known.Goals as goal

pub returns-clause-known : goal.returns-clause-known
returns-clause-known c = λ yes whole.
    let l = c.args.lock.now in
    let m = c.args.map.now in
    let old = c.in-Some.uses.now in
    let new = c.more-uses.result in
    set_adds c.args.asked l (numbers whole m.entries) (numbers whole (set_value_at m.entries c.in-Some.at new)) (Some old) (Some new)
    (sym c.in-Some.ensures.value)
    (set_at m c.in-Some.at l.key c.in-Some.field-0-1.now old new c.pair_mut-known.ensures.unique (sym c.in-Some.ensures.key) c.in-Some.ensures.entry)
    refl c.more-uses.ensures
