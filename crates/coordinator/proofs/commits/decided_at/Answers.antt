use Rattle.std.specs.List.{list_any}
use Rattle.std.proofs.Common.{◌∙◌, not, nat_eq, ap, refl, sym}
use Rattle.units.specs.declared.setup.Setup.{Setup}
use Rattle.coordinator.proofs.commits.decided_at.Goals as goal

pub returns-then-has_others : goal.returns-then-has_others
returns-then-has_others c =
    ap (λ (s : Setup). list_any (λ n. not (nat_eq n s.shard)) c.args.parts) (sym c.setup.ensures) ∙ sym c.has_others.ensures ∙ c.if-has_others.true

pub returns-in-Ok : goal.returns-in-Ok
returns-in-Ok c = (
  ap (λ (s : Setup). list_any (λ n. not (nat_eq n s.shard)) c.args.parts) (sym c.setup.ensures) ∙ sym c.has_others.ensures ∙ c.if-has_others.false,
  c.in-Ok.ensures.0,
  c.in-Ok.ensures.1,
)

pub returns-in-Err : goal.returns-in-Err
returns-in-Err c = (
  refl,
  (
    ap (λ (s : Setup). list_any (λ n. not (nat_eq n s.shard)) c.args.parts) (sym c.setup.ensures) ∙ sym c.has_others.ensures ∙ c.if-has_others.false,
    c.in-Err.ensures.1,
  ),
)
