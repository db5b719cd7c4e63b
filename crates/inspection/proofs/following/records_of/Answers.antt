use Rattle.std.proofs.Common.{◌≡◌, ◌∙◌, ◌++◌, ◌∷◌, ◌+◌, ◌<◌, [], List, length, refl, sym, ap, subst, rules, inl, inr, Err, IsTrue, IsFalse, drop}
use Rattle.std.proofs.lemmas.List.{drop_more}
use Rattle.units.specs.declared.fault.Fault.{Fault}
use Rattle.frames.specs.Placed.{Placed}
use Rattle.record.specs.Accepted.{followed}
use Rattle.record.specs.Facts.{facts_of}
use Rattle.facts.specs.Stages.{stage_of}
use Rattle.record.specs.declared.record.Record.{Record}
use Rattle.inspection.specs.Files.{records_behind}
use Rattle.inspection.proofs.Reading.{refused_with, stopped_at}
use Rattle.inspection.proofs.following.records_of.Goals as goal

pub loop-entry-init : goal.loop-entry-init
unfolding followed
loop-entry-init c =
    let none = sym c.new-records.ensures.items in
    record {
      shard = c.new-facts.ensures.shard;
      known = c.new-facts.ensures.facts ∙ ap facts_of none;
      stage = c.new-facts.ensures.stage ∙ ap stage_of none;
      followed = subst (λ (rs : List Record). IsTrue (followed c.args.shard rs)) none refl;
      rest = ap (λ (rs : List Record). records_behind c.args.shard rs c.args.entries.now) none;
    }

pub returns-in_err-take : goal.returns-in_err-take
returns-in_err-take c =
    let e = c.entry-item.result in
    let i = c.loop-entry.entry-index in
    let lt : i < length c.args.entries.now = c.loop-entry-test.true in
    let turn : drop i c.args.entries.now ≡ e ∷ drop (i + 1) c.args.entries.now =
    drop_more c.args.entries.now i e lt ∙ ap (λ (x : Placed). x ∷ drop (i + 1) c.args.entries.now) (sym c.entry-item.is) in
    let next : records_behind c.args.shard [] c.args.entries.now
    ≡ records_behind c.args.shard c.loop-entry.records.items (e ∷ drop (i + 1) c.args.entries.now) =
    c.loop-entry.invariant.rest ∙ ap (records_behind c.args.shard c.loop-entry.records.items) turn in
    refused_with c.from_residual.result c.in_err-take.field-0.0 _ _ (search rules) (elim c.in_err-take.ensures.refused [
      | inl memory ↦ inl memory
      | inr strange ↦ inr (
          next
          ∙ stopped_at c.args.shard c.loop-entry.records.items e _ (subst (λ n. IsFalse (followed n (c.loop-entry.records.items ++ e.item ∷ [])))
          c.loop-entry.invariant.shard strange.1)
          ∙ ap (λ (f : Fault). Err f) (sym strange.0))
    ])
