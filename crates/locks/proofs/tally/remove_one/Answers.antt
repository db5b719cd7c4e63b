use Rattle.std.proofs.Common.{◌∙◌, Some, None, sym, subst, refl, IfSome}
use Rattle.indexmap.specs.IndexMap.{Updates, set_value_at}
use Rattle.units.specs.Keys.{same_key}
use Rattle.locks.specs.Tally.{numbers, on_side, clashing}
use Rattle.locks.proofs.Known.{set_removes, stays_none, none_moved, last_moved, set_at, taken_out}
use Rattle.locks.proofs.tally.remove_one.Goals as goal

pub returns-then-is_none : goal.returns-then-is_none
returns-then-is_none c = λ whole.
    let l = c.args.lock.now in
    let m = c.args.map.now in
    let old = c.in-Some.uses.now in
    let left = c.swap_remove_index.new.self in
    let out = subst (λ o. IfSome o (λ p. Updates same_key m left p.0 None)) (c.swap_remove_index.ensures.entry ∙ c.in-Some.ensures.entry)
    c.swap_remove_index.ensures.updates in
    set_removes c.args.asked l (numbers whole m.entries) (numbers whole left.entries) (Some old) None (sym c.in-Some.ensures.value)
    (taken_out l.key c.in-Some.field-0-1.now m.entries left.entries (sym c.in-Some.ensures.key) out.0) refl
    (λ a n. last_moved whole (on_side c.args.asked a (clashing l.mode n)) a n old c.fewer-uses.result (c.fewer-uses.ensures a n)
    (c.is_none.ensures c.if-is_none.true a n))

pub returns-else-is_none : goal.returns-else-is_none
returns-else-is_none c = λ whole.
    let l = c.args.lock.now in
    let m = c.args.map.now in
    let old = c.in-Some.uses.now in
    let new = c.fewer-uses.result in
    set_removes c.args.asked l (numbers whole m.entries) (numbers whole (set_value_at m.entries c.in-Some.at new)) (Some old) (Some new)
    (sym c.in-Some.ensures.value)
    (set_at m c.in-Some.at l.key c.in-Some.field-0-1.now old new c.pair_mut-known.ensures.unique (sym c.in-Some.ensures.key) c.in-Some.ensures.entry)
    refl c.fewer-uses.ensures

pub returns-in_default : goal.returns-in_default
returns-in_default c = λ whole.
    let l = c.args.lock.now in
    let m = c.args.map.now in
    let found = sym c.in_default.ensures.value in
    set_removes c.args.asked l (numbers whole m.entries) (numbers whole m.entries) None None found (stays_none l.key (numbers whole m.entries) found) refl
    (λ a n. none_moved whole (on_side c.args.asked a (clashing l.mode n)) a n)
