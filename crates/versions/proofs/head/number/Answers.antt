use Rattle.std.proofs.Common.{sym, ◌∙◌, arith}
use Rattle.versions.proofs.Heads.{digits_more, digits_fit, one_digit_more, no_digit_left}
use Rattle.versions.proofs.head.number.Goals as goal

pub overflow_mul-number : goal.overflow_mul-number
overflow_mul-number c = omega (arith, digits_fit c.loop-i.number 0 c.loop-i.i (omega arith) c.loop-i.invariant.in_range (omega arith))

pub overflow_add-number : goal.overflow_add-number
overflow_add-number c =
    omega (arith, digits_fit c.loop-i.number c.digit.result c.loop-i.i (omega arith) c.loop-i.invariant.in_range c.digit.ensures.small)

pub loop-i-preserved : goal.loop-i-preserved
loop-i-preserved c = record {
  in_range = digits_more c.loop-i.number c.digit.result c.loop-i.i c.loop-i.invariant.in_range c.digit.ensures.small;
  so_far =
      one_digit_more c.loop-i.number c.digit.result c.loop-i.i c.args.bytes.now (omega arith) c.digit.ensures.digit ∙ c.loop-i.invariant.so_far;
}

pub returns-clause-number : goal.returns-clause-number
returns-clause-number c = sym (no_digit_left c.loop-i.number c.loop-i.i c.args.bytes.now (omega arith)) ∙ c.loop-i.invariant.so_far
