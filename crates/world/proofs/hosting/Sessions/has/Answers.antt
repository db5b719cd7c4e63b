use Rattle.std.proofs.Common.{◌≡◌, length, sym, ap, ◌∙◌}
use Rattle.world.proofs.Hosted.{ids_in, has_place, is_below, place_of}
use Rattle.world.proofs.hosting.Sessions.has.Goals as goal

pub returns : goal.returns
returns c splits cs h =
    let s = c.args.self.now in
    let p = has_place splits s.begun.items cs c.args.txn c.place.result h.begun (c.place.ensures.place
    (ids_in splits s cs c.deref.result.now h c.deref.ensures.value) ∙ ap (λ bs. place_of bs c.args.txn) c.deref.ensures.value) in
    let n : c.len.result ≡ length s.begun.items = c.len.ensures ∙ sym c.deref.ensures.len ∙ ap length c.deref.ensures.value in
    is_below c.place.result c.len.result _ (λ lt. p.0 (rw (← n) lt)) (λ le. p.1 (rw (← n) le))
