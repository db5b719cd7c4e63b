use Rattle.std.proofs.Common.{arith, length, ◌≤◌, ◌≡◌, ap, ◌∙◌}
use Rattle.std.proofs.lemmas.Fmt.{length-decimal-le}
use Rattle.std.specs.Fmt.{decimal}
use Rattle.workers.proofs.Values.{only_memory}
use Rattle.workers.proofs.counting.value_of.Goals as goal

pub returns-clause-memory : goal.returns-clause-memory
returns-clause-memory c =
    let short : length (decimal c.args.count) ≤ 20 =
    length-decimal-le 20 c.args.count (omega arith) (omega (arith, c.ranges.count.fits)) (omega (arith, c.ranges.count.fits)) in
    let same : length c.as_bytes.result.now ≡ length (decimal c.args.count) = ap length (c.as_bytes.ensures.value ∙ c.in_ok-text.ensures.ok) in
    only_memory _ (length c.as_bytes.result.now) c.new.result (omega (arith, same, short)) c.new.ensures
