use Rattle.std.proofs.Common.{◌∙◌, sym, ap}
use Rattle.std.specs.Prelude.{is_err}
use Rattle.texts.specs.Numbers.{is_decimal}
use Rattle.texts.proofs.NumberLemmas.{too_great}
use Rattle.texts.proofs.numbers.number.Goals as goal

pub returns-in-Err : goal.returns-in-Err
returns-in-Err c =
    too_great c.args.word.now c.parse.result c.parse.ensures.value.0
    (ap is_decimal (sym c.as_bytes.ensures.value) ∙ sym c.is_decimal_word.ensures ∙ c.if-not-is_decimal_word.false)
    (ap is_err c.in-Err.is)
