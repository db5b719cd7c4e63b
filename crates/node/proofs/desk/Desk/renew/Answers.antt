use Rattle.std.proofs.Common.{rules, ◌≡◌, true, false, Ok, Err}
use Rattle.shard.specs.Core.{seen}
use Rattle.node.specs.Renewed.{has_grown}
use Rattle.node.specs.SeenDesk.{seen_desk}
use Rattle.node.proofs.Renewed.{goes_no_further, goes_as_it_is, goes_over}
use Rattle.node.proofs.desk.Desk.renew.Goals as goal

pub returns-in_err-keep_for-clause-renewed : goal.returns-in_err-keep_for-clause-renewed
returns-in_err-keep_for-clause-renewed g c =
    let fault = c.in_err-keep_for.field-0.0 in
    let was : c.keep_for.result ≡ Err fault = (search rules) in
    let is : c.from_residual.result ≡ Err fault = (search rules) in
    record {
      between = seen_desk c.keep_for.new.self;
      kept = c.keep_for.result;
      horizon = c.keep_for.ensures.kept;
      goes_on = goes_no_further g.D.Disk.keeps_model g.D.Disk.obeys g.D.Disk.file g.D.Disk.clock g.D.Disk.since g.D.Disk.failures g.D.Disk.plan
          (seen_desk c.keep_for.new.self) c.args.least fault c.keep_for.result c.from_residual.result was is;
    }

pub returns-then-not-has_grown-clause-renewed : goal.returns-then-not-has_grown-clause-renewed
returns-then-not-has_grown-clause-renewed g c =
    let desk = c.keep_for.new.self in
    let was : c.keep_for.result ≡ Ok tt = (search rules) in
    let short : has_grown desk.measure (seen desk.core).gate c.args.least ≡ false = (search rules) in
    record {
      between = seen_desk desk;
      kept = c.keep_for.result;
      horizon = c.keep_for.ensures.kept;
      goes_on = goes_as_it_is g.D.Disk.keeps_model g.D.Disk.obeys g.D.Disk.file g.D.Disk.clock g.D.Disk.since g.D.Disk.failures g.D.Disk.plan
          (seen_desk desk) c.args.least c.keep_for.result tt was short;
    }

pub returns-clause-renewed : goal.returns-clause-renewed
returns-clause-renewed g c =
    let desk = c.keep_for.new.self in
    let was : c.keep_for.result ≡ Ok tt = (search rules) in
    let long : has_grown desk.measure (seen desk.core).gate c.args.least ≡ true = (search rules) in
    record {
      between = seen_desk desk;
      kept = c.keep_for.result;
      horizon = c.keep_for.ensures.kept;
      goes_on = goes_over g.D.Disk.keeps_model g.D.Disk.obeys g.D.Disk.file g.D.Disk.clock g.D.Disk.since g.D.Disk.failures g.D.Disk.plan
          (seen_desk desk) (seen_desk c.turn_over.new.self) c.args.least c.keep_for.result c.turn_over.result tt was long c.turn_over.ensures.turned;
    }
