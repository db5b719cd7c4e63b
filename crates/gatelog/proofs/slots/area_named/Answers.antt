use Rattle.std.proofs.Common.{rules, ◌≡◌, ◌⊎◌, inl, inr, ◌≤◌, ◌<◌, ◌+◌, ◌-◌, ◌*◌, ◌++◌, ◌∙◌, length, Err, sym, ap, arith}
use Rattle.std.proofs.lemmas.List.{length-drop}
use Rattle.gatelog.proofs.ReadSlots.{past-said, placed-said, at-wrong, at-end, all-read}
use Rattle.gatelog.proofs.slots.area_named.Goals as goal

pub returns-then-rest-lt9-clause-named : goal.returns-then-rest-lt9-clause-named
returns-then-rest-lt9-clause-named c beyond long =
    let i = c.loop-left.invariant in
    sym (i.says beyond long)
    ∙ at-end c.loop-left.left (9224 - 9 * c.loop-left.left) c.loop-left.area c.args.len c.loop-left.shut (c.loop-left.rest.now ++ beyond) c.loop-left-test.true
    (by_size c.requires.enough)
  where
    by_size : (9216 ≤ length c.args.bytes.now) ⊎ (8 + length c.args.bytes.now ≡ c.args.len) → c.args.len < (9224 - 9 * c.loop-left.left) + 9
    by_size (inl enough) = absurd (omega (arith, enough, c.loop-left.invariant.few, c.loop-left.invariant.size, c.loop-left-test.true, c.if-rest-lt9.true))
    by_size (inr whole) = omega (arith, whole, c.loop-left.invariant.size, c.if-rest-lt9.true)

pub returns-clause-named : goal.returns-clause-named
returns-clause-named c beyond long =
    let none : c.loop-left.left ≡ 0 = omega (arith, c.loop-left-test.false) in
    sym (c.loop-left.invariant.says beyond long)
    ∙ all-read c.loop-left.left (9224 - 9 * c.loop-left.left) c.loop-left.area c.args.len c.loop-left.shut (c.loop-left.rest.now ++ beyond) none

pub returns-in_err-said-clause-named : goal.returns-in_err-said-clause-named
returns-in_err-said-clause-named c beyond long =
    let i = c.loop-left.invariant in
    let nine : 9 ≤ length c.loop-left.rest.now = c.if-rest-lt9.false in
    let wrong = c.in_err-said.ensures.damaged in
    let refused : c.from_residual.result ≡ Err c.in_err-said.field-0.0 = (search rules) in
    sym (i.says beyond long)
    ∙ at-wrong c.loop-left.rest.now beyond c.split_at.result.0.now c.split_at.result.1.now nine c.split_at.ensures.front c.split_at.ensures.back
    c.loop-left.left c.loop-left.area c.args.len c.loop-left.shut c.loop-left-test.true i.few (omega (arith, i.size, c.requires.inside, nine))
    wrong.1 wrong.2
    ∙ ap (λ f. Err f) (sym wrong.0) ∙ sym refused

pub loop-left-preserved : goal.loop-left-preserved
loop-left-preserved c =
    let i = c.loop-left.invariant in
    let nine : 9 ≤ length c.loop-left.rest.now = c.if-rest-lt9.false in
    record {
      few = omega (arith, i.few);
      size = omega (arith, i.size, i.few, c.loop-left-test.true, nine, ap length c.split_at.ensures.back, length-drop 9 c.loop-left.rest.now);
      above = placed-said c.loop-left.area c.args.len c.in_ok-said.said c.unwrap_or-area.result _ _ _ i.above c.unwrap_or-area.ensures
          c.in_ok-said.ensures.opened;
      says = λ beyond long. past-said c.loop-left.rest.now beyond c.split_at.result.0.now c.split_at.result.1.now nine
          c.split_at.ensures.front c.split_at.ensures.back c.loop-left.left c.loop-left.area c.args.len c.loop-left.shut c.loop-left-test.true i.few
          (omega (arith, i.size, c.requires.inside, nine)) c.in_ok-said.said c.unwrap_or-area.result c.is_none-shut.result c.unwrap_or-area.ensures
          c.is_none-shut.ensures c.in_ok-said.ensures.opened c.in_ok-said.ensures.closed
          ∙ i.says beyond long;
    }
