use Rattle.std.proofs.Common.{◌∙◌, ◌++◌, ◌∷◌, [], sym, ap, rules, inl, inr, append_assoc}
use Rattle.disk.specs.File.{surface}
use Rattle.inspection.proofs.Reading.{among, at_turn, refuses}
use Rattle.inspection.proofs.judging.read_logs.Goals as goal

pub loop-disk-preserved : goal.loop-disk-preserved
loop-disk-preserved g c =
    let done = c.loop-disk.yielded in
    let steps = c.in-Some.ensures.steps.0 in
    record {
      whole = append_assoc done (c.in-Some.disk ∷ []) c.next.new.self.rest.items ∙ ap (λ r. done ++ r) (sym steps) ∙ c.loop-disk.invariant.whole;
      rest = λ keeps. at_turn (λ d. (surface (g.D.Disk.file d)).seen) _ _ _ _ c.in-Some.disk _ (c.loop-disk.invariant.rest keeps) steps
          (c.in_ok-read_next.ensures.read keeps _);
    }

pub returns-in_err-read_next-clause-refused : goal.returns-in_err-read_next-clause-refused
returns-in_err-read_next-clause-refused g c =
    let done = c.loop-disk.yielded in
    let steps = c.in-Some.ensures.steps.0 in
    refuses c.from_residual.result c.in_err-read_next.field-0.0 _ (search rules) (elim c.in_err-read_next.ensures.refused [
      | inl memory ↦ inl memory
      | inr (inl failed) ↦ inr (inl (
        failed.0,
        record {
          disk = c.in-Some.disk;
          among = among done c.in-Some.disk _ _ (ap (λ r. done ++ r) (sym steps) ∙ c.loop-disk.invariant.whole);
          back = failed.1.0;
          rises = failed.1.1;
        },
      ))
      | inr (inr refused) ↦ inr (inr (
        refused.0,
        λ keeps. at_turn (λ d. (surface (g.D.Disk.file d)).seen) _ _ _ _ c.in-Some.disk _ (c.loop-disk.invariant.rest keeps) steps (refused.1 keeps _),
      ))
    ])
