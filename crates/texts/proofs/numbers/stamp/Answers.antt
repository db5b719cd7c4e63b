use Rattle.std.proofs.Common.{◌≡◌, ◌∙◌, sym, rules}
use Rattle.std.specs.Prelude.{Err}
use Rattle.texts.proofs.NumberLemmas.{refused_too}
use Rattle.texts.proofs.numbers.stamp.Goals as goal

pub returns-in_err-number : goal.returns-in_err-number
returns-in_err-number c =
    let same : c.from_residual.result ≡ Err (c.in_err-number.field-0.0) = search rules in
    same ∙ refused_too c.args.word.now c.in_err-number.field-0.0 (sym c.in_err-number.ensures)
