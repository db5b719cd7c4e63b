use Rattle.std.proofs.Common.{◌≡◌, ℕ, List, [], ◌∷◌, ◌++◌, take, max, refl, sym, ap, ◌∙◌, arith}
use Rattle.disk.specs.File.{File, surface}
use Rattle.simdisk.specs.declared.change.Change.{Change}
use Rattle.simdisk.specs.declared.change.Change.TheVariants.{Cut}
use Rattle.simdisk.specs.Replay.{kept, pushed, furthest}
use Rattle.simdisk.proofs.Histories.{then_pushed, stored_new, file_new, furthest-push}
use Rattle.simdisk.proofs.buffers.Buffers.cut.Goals as goal

pub invariant_of-self-2 : goal.invariant_of-self-2
invariant_of-self-2 c =
    let old = c.args.self.now in
    let h = kept old.durable.items old.changes.items old.store.items in
    let change : Change = Cut c.args.len in
    let new = kept h.base c.keep.new.changes.items c.keep.new.store.items in
    let added : new.changes ≡ h.changes ++ change ∷ [] = c.keep.ensures.changes ∙ ap (λ (cs : List Change). cs ++ change ∷ []) c.reserve.ensures.items in
    let is : new ≡ pushed h change [] = then_pushed h new.changes new.store change [] added c.keep.ensures.store in
    let far : furthest new.changes ≡ max (furthest h.changes) 0 = ap furthest added ∙ furthest-push h.changes change in
    record {
      stored = stored_new h new change [] old.stored refl is;
      replayed = c.truncate.ensures.items ∙ ap (λ (l : List ℕ). take c.args.len l) old.replayed
          ∙ ap (λ (f : File). (surface f).seen) (sym (file_new h new change [] old.stored refl is));
      durable_fits = omega (arith, far, old.durable_fits);
      seen_fits = omega (arith, far, old.seen_fits, c.truncate.ensures.capacity);
      copy_fits = omega (arith, old.copy_fits, c.truncate.ensures.capacity);
    }

pub returns-clause-ok : goal.returns-clause-ok
returns-clause-ok c =
    let old = c.args.self.now in
    let h = kept old.durable.items old.changes.items old.store.items in
    let change : Change = Cut c.args.len in
    let new = kept h.base c.keep.new.changes.items c.keep.new.store.items in
    let added : new.changes ≡ h.changes ++ change ∷ [] = c.keep.ensures.changes ∙ ap (λ (cs : List Change). cs ++ change ∷ []) c.reserve.ensures.items in
    file_new h new change [] old.stored refl (then_pushed h new.changes new.store change [] added c.keep.ensures.store)
