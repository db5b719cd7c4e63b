use Rattle.std.proofs.Common.{◌∙◌}
use Rattle.texts.proofs.NumberLemmas.{decimal_long}
use Rattle.texts.proofs.numbers.is_decimal_word.Goals as goal

pub returns-then-first-ne48 : goal.returns-then-first-ne48
returns-then-first-ne48 c = c.are_digits.ensures ∙ decimal_long c.args.word.now c.in-len1-up.len_at_least c.if-first-ne48.true
