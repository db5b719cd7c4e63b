use Rattle.std.proofs.Common.{◌∙◌, sym, []}
use Rattle.moving.proofs.Copying.{whole_by}
use Rattle.moving.proofs.copied.Whole.of.Goals as goal

pub invariant_of-result : goal.invariant_of-result
invariant_of-result g c = record {
  whole = λ keeps.
      let judged = c.in_ok-verdict.ensures.verdict keeps in
      whole_by _ c.in_ok-verdict.logs.items judged.0 judged.1
      (λ t. (c.a_yes_is_sound.ensures judged.0 [] (sym judged.2 ∙ c.in-Yes.is)).whole t);
}
