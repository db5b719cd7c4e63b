use Rattle.std.proofs.Common.{Err, ap, inl, inr, refl, ◌∙◌}
use Rattle.units.specs.declared.fault.Fault.TheVariants.{NotYet}
use Rattle.store.proofs.Telling.{is_no_end, later, still_early, told_by, told_no_more, untold, waited_of}
use Rattle.store.proofs.histories.told.Goals as goal

pub loop-try-init : goal.loop-try-init
loop-try-init g c = inl (refl, refl)

pub returns-in-Ok-clause-told : goal.returns-in-Ok-clause-told
returns-in-Ok-clause-told g c =
    let old = c.args.viewer.now in
    let key = c.args.key.now in
    let waited = waited_of old c.loop-try.viewer key c.args.from c.args.to c.loop-try.invariant in
    told_by old c.loop-try.viewer c.history.new.self key c.args.from c.args.to c.in-Ok.history c.cut_off.new.versions.items
    (later old c.loop-try.viewer key c.args.from c.args.to waited) c.history.ensures.same (c.in-Ok.ensures.answer (is_no_end c.in-Ok.history))
    c.cut_off.ensures

pub loop-try-preserved : goal.loop-try-preserved
loop-try-preserved g c =
    let old = c.args.viewer.now in
    let key = c.args.key.now in
    let waited = waited_of old c.loop-try.viewer key c.args.from c.args.to c.loop-try.invariant in
    inr (still_early old c.history.new.self key c.args.from c.args.to (
    untold old c.loop-try.viewer c.history.new.self key c.args.from c.args.to c.history.result NotYet
    waited c.history.ensures.same c.history.ensures.stopped c.history.ensures.answer (c.in-Err-NotYet.is ∙ ap Err c.in-Err-NotYet.field-0-is)))

pub returns-then-has_stopped : goal.returns-then-has_stopped
returns-then-has_stopped g c =
    let old = c.args.viewer.now in
    let key = c.args.key.now in
    let waited = waited_of old c.loop-try.viewer key c.args.from c.args.to c.loop-try.invariant in
    record {
      told = tt;
      refused =
          told_no_more old c.history.new.self key c.args.from c.args.to (still_early old c.history.new.self key c.args.from c.args.to (
          untold old c.loop-try.viewer c.history.new.self key c.args.from c.args.to c.history.result NotYet
          waited c.history.ensures.same c.history.ensures.stopped c.history.ensures.answer (c.in-Err-NotYet.is ∙ ap Err c.in-Err-NotYet.field-0-is)));
    }

pub returns-in-Err : goal.returns-in-Err
returns-in-Err g c =
    let old = c.args.viewer.now in
    let key = c.args.key.now in
    let waited = waited_of old c.loop-try.viewer key c.args.from c.args.to c.loop-try.invariant in
    record {
      told = tt;
      refused =
          untold old c.loop-try.viewer c.history.new.self key c.args.from c.args.to c.history.result
          c.in-Err.fault waited c.history.ensures.same c.history.ensures.stopped c.history.ensures.answer c.in-Err.is;
    }
