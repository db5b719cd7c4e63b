use Rattle.std.proofs.Common.{◌++◌, ◌∙◌, refl, ap, subst, arith}
use Rattle.record.specs.declared.record.Record.{Record}
use Rattle.spelling.specs.Limits.{IsRecord}
use Rattle.gatelog.specs.Areas.{whole_frame, without_header}
use Rattle.gatelog.proofs.Copies.{items, spelled-none, spelled-more, fit-more, spelled-all}
use Rattle.gatelog.proofs.migrating.spelled.Goals as goal

pub loop-entry-init : goal.loop-entry-init
loop-entry-init c = record {
  so_far = spelled-none (items c.args.entries.now) c.in-Ok.bytes.items (c.in-Ok.ensures.items_if_clones_equal (λ y same. same));
  fit = λ all. all;
}

pub loop-entry-preserved : goal.loop-entry-preserved
loop-entry-preserved c =
    let es = c.args.entries.now in
    let e = c.entry-item.result in
    record {
      so_far = spelled-more es c.loop-entry.entry-index e c.loop-entry.bytes.items c.put_whole.new.bytes.items (without_header (items es))
          c.loop-entry-test.true c.entry-item.is
          (c.if-not-put_whole.ensures.bytes refl ∙ ap (λ (r : Record). c.loop-entry.bytes.items ++ whole_frame r) c.item.ensures)
          c.loop-entry.invariant.so_far;
      fit = fit-more es c.loop-entry.entry-index e _ c.loop-entry-test.true c.entry-item.is
          (subst IsRecord c.item.ensures (c.if-not-put_whole.ensures.fits refl)) c.loop-entry.invariant.fit;
    }

pub returns-clause-spelled : goal.returns-clause-spelled
returns-clause-spelled c =
    spelled-all c.args.entries.now c.args.gate c.loop-entry.entry-index c.loop-entry.bytes.items c.push.new.self.items c.loop-entry-test.false
    c.requires (omega (arith, c.if-gate.false)) c.loop-entry.invariant.so_far c.loop-entry.invariant.fit c.in-Ok-push.ensures.items
