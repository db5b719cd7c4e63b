use Rattle.std.proofs.Common.{refl, ◌<◌, ◌≤◌, length, ap, ◌∙◌, arith}
use Rattle.std.specs.Vec.{with_item}
use Rattle.world.proofs.Hosted.{ids_in, hears_in, id_there, none_hears, place_of}
use Rattle.world.proofs.hosting.Sessions.hear.Goals as goal

pub returns-then-at-len : goal.returns-then-at-len
returns-then-at-len c splits cs h =
    let s = c.args.self.now in
    let t = c.args.answer.now.txn in
    let over : length s.begun.items ≤ c.place-at.result = omega (
      arith,
      c.if-at-len.true,
      c.len.ensures,
      c.deref.ensures.len,
      ap length c.deref.ensures.value,
    ) in
    none_hears splits s cs c.args.answer.now c.place-at.result h (c.place-at.ensures.place
    (ids_in splits s cs c.deref.result.now h c.deref.ensures.value) ∙ ap (λ bs. place_of bs t) c.deref.ensures.value) over

pub hear-requires : goal.hear-requires
hear-requires c =
    let s = c.args.self.now in
    let t = c.args.answer.now.txn in
    let within : c.place-at.result < length s.begun.items = omega (
      arith,
      c.if-at-len.false,
      c.len.ensures,
      c.deref.ensures.len,
      ap length c.deref.ensures.value,
    ) in
    id_there s.begun.items c.deref.result.now t c.place-at.result c.index_mut.result.now c.deref.ensures.value c.place-at.ensures.there within
    c.index_mut.ensures.value

pub returns : goal.returns
returns c splits cs h =
    let s = c.args.self.now in
    let t = c.args.answer.now.txn in
    let within : c.place-at.result < length s.begun.items = omega (
      arith,
      c.if-at-len.false,
      c.len.ensures,
      c.deref.ensures.len,
      ap length c.deref.ensures.value,
    ) in
    hears_in splits s (record { splits = s.splits; ids = s.ids; begun = with_item s.begun c.place-at.result c.hear.new.self }) cs t
    c.place-at.result c.index_mut.result.now c.hear.new.self h
    (c.place-at.ensures.place (ids_in splits s cs c.deref.result.now h c.deref.ensures.value)
    ∙ ap (λ bs. place_of bs t) c.deref.ensures.value) within c.index_mut.ensures.value h.splits_are refl refl
    c.args.answer.now c.hear.result (λ d begun. c.hear.ensures splits d begun)
