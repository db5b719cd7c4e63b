use Rattle.std.proofs.Common.{◌∙◌, Some, None, true, sym, subst, refl}
use Rattle.locks.specs.Tally.{IsMoved, numbers, number_in, on_side, clashing}
use Rattle.locks.proofs.Known.{set_adds, set_twice}
use Rattle.locks.proofs.tally.add_one.Goals as goal

pub returns-in-Some : goal.returns-in-Some
returns-in-Some c =
    let l = c.args.lock.now in
    set_adds c.args.asked l (numbers true c.args.map.now.entries) (numbers true c.set.new.map.entries) (Some c.in-Some.uses) (Some c.more.result)
    (sym c.put.ensures.had ∙ c.in-Some.is)
    (set_twice l.key c.args.map.now.entries c.put.new.map.entries c.set.new.map.entries (Some c.more-first.result) (Some c.more.result) c.put.ensures.put
    c.set.ensures)
    refl c.more.ensures

pub returns-in_default : goal.returns-in_default
returns-in_default c =
    let l = c.args.lock.now in
    set_adds c.args.asked l (numbers true c.args.map.now.entries) (numbers true c.put.new.map.entries) None (Some c.more-first.result)
    (sym c.put.ensures.had ∙ c.in_default.is) c.put.ensures.put refl
    (λ a m. subst (λ n. IsMoved 0 (on_side c.args.asked a (clashing l.mode m)) n (number_in a m c.more-first.result)) (c.none.ensures a m)
    (c.more-first.ensures a m))
