use Rattle.std.proofs.Common.{sym, ◌∙◌, ap}
use Rattle.units.specs.declared.fault.Fault.TheVariants.{BadRequest}
use Rattle.playing.proofs.Playings.{not_fair}
use Rattle.playing.proofs.plays.lawful.Goals as goal

pub returns-in-Err-BadRequest-Unlawful-clause-answer : goal.returns-in-Err-BadRequest-Unlawful-clause-answer
returns-in-Err-BadRequest-Unlawful-clause-answer c =
    let k = c.in-Err-BadRequest-Unlawful in
    sym (not_fair c.args.config.now c.args.events.now k.field-0 k.field-0-0-0 k.ensures.refused (k.field-0-is ∙ ap (λ r. BadRequest r) k.field-0-0-is))
