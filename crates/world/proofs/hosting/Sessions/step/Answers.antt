use Rattle.std.proofs.Common.{refl, ◌<◌, ◌≤◌, length, ap, ◌∙◌, arith}
use Rattle.std.specs.Vec.{with_item}
use Rattle.world.specs.Held.{asks}
use Rattle.world.proofs.Hosted.{ids_in, moves_in, none_moves, place_of}
use Rattle.world.proofs.hosting.Sessions.step.Goals as goal

pub returns-then-at-len : goal.returns-then-at-len
returns-then-at-len c splits cs h =
    let s = c.args.self.now in
    let over : length s.begun.items ≤ c.place-at.result = omega (
      arith,
      c.if-at-len.true,
      c.len.ensures,
      c.deref.ensures.len,
      ap length c.deref.ensures.value,
    ) in
    none_moves splits s cs c.args.txn c.place-at.result (asks splits c.args.step.now) h
    (c.place-at.ensures.place (ids_in splits s cs c.deref.result.now h c.deref.ensures.value)
    ∙ ap (λ bs. place_of bs c.args.txn) c.deref.ensures.value) over

pub returns : goal.returns
returns c splits cs h =
    let s = c.args.self.now in
    let within : c.place-at.result < length s.begun.items = omega (
      arith,
      c.if-at-len.false,
      c.len.ensures,
      c.deref.ensures.len,
      ap length c.deref.ensures.value,
    ) in
    moves_in splits s (record { splits = s.splits; ids = s.ids; begun = with_item s.begun c.place-at.result c.step.new.self }) cs c.args.txn
    c.place-at.result c.index_mut.result.now c.step.new.self h
    (c.place-at.ensures.place (ids_in splits s cs c.deref.result.now h c.deref.ensures.value)
    ∙ ap (λ bs. place_of bs c.args.txn) c.deref.ensures.value) within c.index_mut.ensures.value h.splits_are refl refl (asks splits c.args.step.now)
    c.step.result (λ d begun. c.step.ensures splits d begun)
