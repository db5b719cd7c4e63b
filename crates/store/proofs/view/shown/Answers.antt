use Rattle.std.proofs.Common.{Err, ap, inl, inr, refl, rules, ◌∙◌}
use Rattle.units.specs.declared.fault.Fault.TheVariants.{NotYet, Stopped}
use Rattle.store.proofs.Shown.{if_shown, later_of, not_refused, too_much, unseen, unserved, waits_of}
use Rattle.store.proofs.view.shown.Goals as goal

pub loop-try-init : goal.loop-try-init
loop-try-init g c = inl (refl, refl)

pub returns-in-Ok-clause-shown : goal.returns-in-Ok-clause-shown
returns-in-Ok-clause-shown g c =
    let old = c.args.viewer.now in
    let key = c.args.key.now in
    let waits = waits_of old c.loop-try.viewer key c.args.at c.loop-try.invariant in
    if_shown old c.loop-try.viewer c.look.new.self key c.args.at c.loop-try.room c.look.new.buffer c.in-Ok.seen
    c.value_seen.result (later_of old c.loop-try.viewer key c.args.at waits) c.look.ensures.same
    (c.in-Ok.ensures.answer (not_refused c.in-Ok.seen Stopped)) c.value_seen.ensures.value

pub returns-in-Ok-clause-refused : goal.returns-in-Ok-clause-refused
returns-in-Ok-clause-refused g c =
    let old = c.args.viewer.now in
    let key = c.args.key.now in
    let waits = waits_of old c.loop-try.viewer key c.args.at c.loop-try.invariant in
    too_much old c.loop-try.viewer c.look.new.self key c.args.at c.loop-try.room c.look.new.buffer c.in-Ok.seen
    c.value_seen.result (later_of old c.loop-try.viewer key c.args.at waits) c.look.ensures.same
    (c.in-Ok.ensures.answer (not_refused c.in-Ok.seen Stopped)) (c.value_seen.ensures.refused (search rules))

pub loop-try-preserved : goal.loop-try-preserved
loop-try-preserved g c =
    let old = c.args.viewer.now in
    let key = c.args.key.now in
    let waits = waits_of old c.loop-try.viewer key c.args.at c.loop-try.invariant in
    inr (unserved old c.look.new.self key c.args.at (
    unseen old c.loop-try.viewer c.look.new.self key c.args.at c.loop-try.room c.look.new.buffer c.look.result NotYet
    waits c.look.ensures.same c.look.ensures.stopped c.look.ensures.answer
    (c.in-Err-NotYet.is ∙ ap Err c.in-Err-NotYet.field-0-is)))

pub returns-then-has_stopped : goal.returns-then-has_stopped
returns-then-has_stopped g c =
    let old = c.args.viewer.now in
    let key = c.args.key.now in
    let waits = waits_of old c.loop-try.viewer key c.args.at c.loop-try.invariant in
    record {
      shown = tt;
      refused =
          inr (
            refl,
            inl (unserved old c.look.new.self key c.args.at (
                unseen old c.loop-try.viewer c.look.new.self key c.args.at c.loop-try.room c.look.new.buffer c.look.result NotYet
                waits c.look.ensures.same c.look.ensures.stopped c.look.ensures.answer
                (c.in-Err-NotYet.is ∙ ap Err c.in-Err-NotYet.field-0-is))),
          );
    }

pub returns-in-Err : goal.returns-in-Err
returns-in-Err g c =
    let old = c.args.viewer.now in
    let key = c.args.key.now in
    let waits = waits_of old c.loop-try.viewer key c.args.at c.loop-try.invariant in
    record {
      shown = tt;
      refused =
          unseen old c.loop-try.viewer c.look.new.self key c.args.at c.loop-try.room c.look.new.buffer c.look.result
          c.in-Err.fault waits c.look.ensures.same c.look.ensures.stopped c.look.ensures.answer c.in-Err.is;
    }
