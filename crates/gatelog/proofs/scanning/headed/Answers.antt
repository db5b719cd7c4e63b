use Rattle.std.proofs.Common.{◌≡◌, ◌≤◌, ◌<◌, ◌-◌, inl, inr, ◌∙◌, length, ap, arith}
use Rattle.std.specs.Prelude.{nat_lt}
use Rattle.std.proofs.lemmas.Bool.{cases_Bool}
use Rattle.std.proofs.lemmas.Bool.Decides.{nat_tests}
use Rattle.std.proofs.lemmas.List.{length-drop}
use Rattle.gatelog.proofs.scanning.headed.Goals as goal

pub split_at-requires : goal.split_at-requires
split_at-requires g c =
    let eight : 8 ≤ length c.more.new.self.bytes =
    c.in_ok-more.ensures.piece 8 (omega arith) (omega (arith, c.of-ahead.ensures.left, c.if-len-lt8.false)) in
    omega (arith, eight, ap length c.bytes.ensures)

pub returns-clause-enough : goal.returns-clause-enough
returns-clause-enough g c =
    let total = c.in_ok-more.ensures.total in
    let none : length c.of-ahead.result.bytes ≡ 0 = ap length c.of-ahead.ensures.bytes in
    let passed : length c.pass.new.self.bytes ≡ length c.more.new.self.bytes - 8 = ap length c.pass.ensures.bytes ∙ length-drop 8 c.more.new.self.bytes in
    elim (cases_Bool (nat_lt c.len-len.result 9224)) [
      | inl short ↦
          let lt : c.len-len.result < 9224 = grind (arith, nat_tests) in
          let all : c.len-len.result ≤ length c.more.new.self.bytes =
          c.in_ok-more.ensures.piece c.len-len.result (omega (arith, lt)) (omega (arith, c.of-ahead.ensures.left)) in
          inr (omega (arith, c.pass.ensures.left, total, none, c.of-ahead.ensures.left, all))
      | inr long ↦
          let le : 9224 ≤ c.len-len.result = grind (arith, nat_tests) in
          let all : 9224 ≤ length c.more.new.self.bytes =
          c.in_ok-more.ensures.piece 9224 (omega arith) (omega (arith, c.of-ahead.ensures.left, le)) in
          inl (omega (arith, passed, all))
    ]
