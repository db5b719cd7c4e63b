use Rattle.std.proofs.Common.{◌≡◌, length, ◌+◌, max, refl, sym, ap, ◌∙◌, arith}
use Rattle.disk.specs.File.{File, surface}
use Rattle.simdisk.specs.declared.change.Change.{Change}
use Rattle.simdisk.specs.declared.change.Change.TheVariants.{Tried}
use Rattle.simdisk.specs.Replay.{History, kept, pushed, file_of, furthest, with_made}
use Rattle.simdisk.proofs.Histories.{then_pushed, stored_new, file_new, furthest-push}
use Rattle.simdisk.proofs.buffers.Buffers.try_write.Goals as goal

pub invariant_of-self : goal.invariant_of-self
invariant_of-self c =
    let ready = c.make_ready.new.self in
    let h = kept ready.durable.items ready.changes.items ready.store.items in
    let bytes = c.args.bytes.now in
    let change : Change = Tried c.args.at (length bytes) in
    let new = kept h.base c.keep.new.changes.items c.keep.new.store.items in
    let is : new ≡ pushed h change bytes = then_pushed h new.changes new.store change bytes c.keep.ensures.changes c.keep.ensures.store in
    let file = file_new h new change bytes ready.stored refl is in
    let far : furthest new.changes ≡ max (furthest h.changes) (c.args.at + length bytes) = ap furthest c.keep.ensures.changes
    ∙ furthest-push h.changes change in
    let fits = c.in_ok-make_ready.ensures.ready in
    record {
      stored = stored_new h new change bytes ready.stored refl is;
      replayed = ready.replayed ∙ ap (λ (f : File). (surface f).seen) (sym file);
      durable_fits = omega (arith, far, ready.durable_fits, fits.durable);
      seen_fits = omega (arith, far, ready.seen_fits, fits.seen);
      copy_fits = omega (arith, ready.copy_fits);
    }

pub returns-clause-ok : goal.returns-clause-ok
returns-clause-ok c =
    let ready = c.make_ready.new.self in
    let h = kept ready.durable.items ready.changes.items ready.store.items in
    let bytes = c.args.bytes.now in
    let change : Change = Tried c.args.at (length bytes) in
    let new = kept h.base c.keep.new.changes.items c.keep.new.store.items in
    file_new h new change bytes ready.stored refl (then_pushed h new.changes new.store change bytes c.keep.ensures.changes c.keep.ensures.store)
    ∙ ap (λ (was : History). with_made change bytes (file_of was)) c.make_ready.ensures.same.0

pub returns-clause-room : goal.returns-clause-room
returns-clause-room c calls more room =
    let was = (c.make_ready.ensures.room calls more room).1 in (
      refl,
      record {
        changes = omega (arith, was.changes, c.keep.ensures.changes_len, c.keep.ensures.changes_capacity);
        store = omega (arith, was.store, c.keep.ensures.store_len, c.keep.ensures.store_capacity);
        seen = omega (arith, was.seen);
        durable = omega (arith, was.durable);
      },
    )
