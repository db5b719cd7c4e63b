use Rattle.std.proofs.Common.{◌≡◌, ℕ, List, length, ◌≤◌, ◌+◌, max, refl, sym, ap, ◌∙◌, arith}
use Rattle.disk.specs.Image.{with_bytes}
use Rattle.disk.specs.File.{File, surface}
use Rattle.disk.proofs.Crashes.{laid_is}
use Rattle.simdisk.specs.declared.change.Change.{Change}
use Rattle.simdisk.specs.declared.change.Change.TheVariants.{Write}
use Rattle.simdisk.specs.Replay.{History, kept, pushed, file_of, furthest, with_made}
use Rattle.simdisk.proofs.Histories.{then_pushed, stored_new, file_new, furthest-push}
use Rattle.simdisk.proofs.buffers.Buffers.write.Goals as goal

pub invariant_of-self : goal.invariant_of-self
invariant_of-self c =
    let ready = c.make_ready.new.self in
    let h = kept ready.durable.items ready.changes.items ready.store.items in
    let bytes = c.args.bytes.now in
    let change : Change = Write c.args.at (length bytes) in
    let new = kept h.base c.keep.new.changes.items c.keep.new.store.items in
    let is : new ≡ pushed h change bytes = then_pushed h new.changes new.store change bytes c.keep.ensures.changes c.keep.ensures.store in
    let file = file_new h new change bytes ready.stored refl is in
    let far : furthest new.changes ≡ max (furthest h.changes) (c.args.at + length bytes) = ap furthest c.keep.ensures.changes
    ∙ furthest-push h.changes change in
    let fits = c.in_ok-make_ready.ensures.ready in
    let inside : c.args.at ≤ length (surface (file_of h)).seen = omega (arith, c.requires, ap length ready.replayed, ap length c.make_ready.ensures.same.1) in
    record {
      stored = stored_new h new change bytes ready.stored refl is;
      replayed = c.put.ensures.items ∙ ap (λ (l : List ℕ). with_bytes c.args.at bytes l) ready.replayed
          ∙ sym (laid_is c.args.at bytes (surface (file_of h)).seen inside) ∙ ap (λ (f : File). (surface f).seen) (sym file);
      durable_fits = omega (arith, far, ready.durable_fits, fits.durable);
      seen_fits = omega (arith, far, ready.seen_fits, fits.seen, c.put.ensures.capacity);
      copy_fits = omega (arith, ready.copy_fits, c.put.ensures.capacity);
    }

pub returns-clause-ok : goal.returns-clause-ok
returns-clause-ok c =
    let ready = c.make_ready.new.self in
    let h = kept ready.durable.items ready.changes.items ready.store.items in
    let bytes = c.args.bytes.now in
    let change : Change = Write c.args.at (length bytes) in
    let new = kept h.base c.keep.new.changes.items c.keep.new.store.items in
    file_new h new change bytes ready.stored refl (then_pushed h new.changes new.store change bytes c.keep.ensures.changes c.keep.ensures.store)
    ∙ ap (λ (was : History). with_made change bytes (file_of was)) c.make_ready.ensures.same.0

pub returns-clause-room : goal.returns-clause-room
returns-clause-room c calls more room =
    let was = (c.make_ready.ensures.room calls more room).1 in (
      refl,
      record {
        changes = omega (arith, was.changes, c.keep.ensures.changes_len, c.keep.ensures.changes_capacity);
        store = omega (arith, was.store, c.keep.ensures.store_len, c.keep.ensures.store_capacity);
        seen = omega (arith, was.seen, c.put.ensures.len, c.put.ensures.capacity, c.requires, ap length c.make_ready.ensures.same.1);
        durable = omega (arith, was.durable, c.put.ensures.len, c.requires, ap length c.make_ready.ensures.same.1);
      },
    )
