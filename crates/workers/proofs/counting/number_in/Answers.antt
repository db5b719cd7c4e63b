use Rattle.std.proofs.Common.{ap, ◌∙◌, sym, subst}
use Rattle.std.specs.Result.{result_unwrap_or}
use Rattle.std.proofs.lemmas.Fmt.{parse-decimal, IsAscii-decimal}
use Rattle.std.proofs.lemmas.Str.{IsUtf8-from_ascii}
use Rattle.std.specs.Str.{IsUtf8}
use Rattle.std.specs.Fmt.{decimal}
use Rattle.workers.proofs.counting.number_in.Goals as goal

pub returns-in-Ok : goal.returns-in-Ok
returns-in-Ok c = λ n fits is.
    let spelled = c.in-Ok.ensures.cases.0 ∙ (c.as_bytes.ensures.same ∙ is) in
    c.unwrap_or.ensures ∙ ap (λ r. result_unwrap_or r 0) (parse-decimal 64 n c.in-Ok.word.now c.parse.result fits fits spelled c.parse.ensures.value.0)

pub returns-in-Err : goal.returns-in-Err
returns-in-Err c = λ n fits is.
    absurd (c.in-Err.ensures.cases.0 (subst IsUtf8 (sym (c.as_bytes.ensures.same ∙ is)) (IsUtf8-from_ascii (decimal n) (IsAscii-decimal n fits))))
