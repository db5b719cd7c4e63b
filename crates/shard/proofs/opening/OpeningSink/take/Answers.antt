use Rattle.std.proofs.Common.{◌≡◌, ◌∙◌, ◌&&◌, true, [], ◌∷◌, sym, ap}
use Rattle.std.specs.List.{list_all}
use Rattle.frames.specs.Placed.{Placed}
use Rattle.protocol.proofs.AboveVersions.{each_append}
use Rattle.protocol.specs.Showable.{record_ascends}
use Rattle.recovery.specs.Taken.{taken_by}
use Rattle.shard.specs.Beginnings.{and_found, found_in}
use Rattle.shard.specs.declared.begun.Found.{Found}
use Rattle.shard.proofs.Beginnings.{found_behind}
use Rattle.shard.proofs.opening.OpeningSink.take.Goals as goal

pub invariant_of-self-2-clause-ascends : goal.invariant_of-self-2-clause-ascends
invariant_of-self-2-clause-ascends c =
    let old = c.args.self.now in
    let one : record_ascends c.args.entry.item ≡ true = sym (ap record_ascends c.item.ensures) ∙ c.record_ascends.ensures in
    ap (list_all (λ (e : Placed). record_ascends e.item)) c.take_over.ensures.taken
    ∙ each_append (λ (e : Placed). record_ascends e.item) (taken_by old.rebuild) (c.args.entry ∷ []) old.ascends (ap (λ b. b && true) one)

pub invariant_of-self-2-clause-begins : goal.invariant_of-self-2-clause-begins
invariant_of-self-2-clause-begins c =
    let old = c.args.self.now in
    c.and-begun.ensures ∙ ap (λ (f : Found). and_found f c.args.entry) old.begins ∙ sym (found_behind (taken_by old.rebuild) c.args.entry)
    ∙ ap found_in (sym c.take_over.ensures.taken)
