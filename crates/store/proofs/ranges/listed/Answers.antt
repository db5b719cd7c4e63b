use Rattle.std.proofs.Common.{Err, ap, inl, inr, refl, ◌∙◌}
use Rattle.std.specs.Option.{option_copied}
use Rattle.units.specs.declared.fault.Fault.TheVariants.{NotYet}
use Rattle.store.proofs.Shown.{later_of, waits_of}
use Rattle.store.proofs.Waiting.{listed_by, is_no_end, unlisted, not_served}
use Rattle.store.proofs.ranges.listed.Goals as goal

pub loop-try-init : goal.loop-try-init
loop-try-init g c = inl (refl, refl)

pub returns-in-Ok-clause-listed : goal.returns-in-Ok-clause-listed
returns-in-Ok-clause-listed g c =
    let old = c.args.viewer.now in
    let first = c.args.from.now in
    let waits = waits_of old c.loop-try.viewer first c.args.at c.loop-try.invariant in
    listed_by old c.loop-try.viewer c.keys.new.self first (option_copied c.args.to) c.args.at c.in-Ok.page
    (later_of old c.loop-try.viewer first c.args.at waits) c.keys.ensures.same (c.in-Ok.ensures.answer (is_no_end c.in-Ok.page))

pub loop-try-preserved : goal.loop-try-preserved
loop-try-preserved g c =
    let old = c.args.viewer.now in
    let first = c.args.from.now in
    let waits = waits_of old c.loop-try.viewer first c.args.at c.loop-try.invariant in
    inr (not_served old c.keys.new.self first c.args.at (
    unlisted old c.loop-try.viewer c.keys.new.self first (option_copied c.args.to) c.args.at c.keys.result NotYet
    waits c.keys.ensures.same c.keys.ensures.stopped c.keys.ensures.answer (c.in-Err-NotYet.is ∙ ap Err c.in-Err-NotYet.field-0-is)))

pub returns-then-has_stopped : goal.returns-then-has_stopped
returns-then-has_stopped g c =
    let old = c.args.viewer.now in
    let first = c.args.from.now in
    let waits = waits_of old c.loop-try.viewer first c.args.at c.loop-try.invariant in
    record {
      listed = tt;
      refused =
          inr (inr (
            refl,
            inl (not_served old c.keys.new.self first c.args.at (
                unlisted old c.loop-try.viewer c.keys.new.self first (option_copied c.args.to) c.args.at c.keys.result NotYet
                waits c.keys.ensures.same c.keys.ensures.stopped c.keys.ensures.answer (c.in-Err-NotYet.is ∙ ap Err c.in-Err-NotYet.field-0-is))),
          ));
    }

pub returns-in-Err : goal.returns-in-Err
returns-in-Err g c =
    let old = c.args.viewer.now in
    let first = c.args.from.now in
    let waits = waits_of old c.loop-try.viewer first c.args.at c.loop-try.invariant in
    record {
      listed = tt;
      refused =
          unlisted old c.loop-try.viewer c.keys.new.self first (option_copied c.args.to) c.args.at c.keys.result
          c.in-Err.fault waits c.keys.ensures.same c.keys.ensures.stopped c.keys.ensures.answer c.in-Err.is;
    }
