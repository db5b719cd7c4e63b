use Rattle.std.proofs.Common.{◌∙◌, ℕ, List, map, sym, ap}
use Rattle.disk.specs.File.{surface}
use Rattle.frames.specs.Placed.{Placed}
use Rattle.gatelog.specs.Slots.{begins_in}
use Rattle.gatelog.proofs.Counted.{counted}
use Rattle.gatelog.proofs.Fresh.{placed-end}
use Rattle.gatelog.proofs.gatelog.GateLog.scan.Goals as goal

pub returns-in-Ok-clause-end : goal.returns-in-Ok-clause-end
returns-in-Ok-clause-end g c keeps =
    sym (ap (λ (p : List Placed × ℕ). p.1) (c.in-Ok.ensures.placed keeps))
    ∙ placed-end (map (λ (e : Placed). e.item) (g.S.Sink.taken c.scan_synced.new.sink)) (begins_in (surface (g.D.Disk.file c.args.disk)).seen).at

pub returns-in-Ok-clause-slot : goal.returns-in-Ok-clause-slot
returns-in-Ok-clause-slot g c keeps =
    sym (counted (surface (g.D.Disk.file c.args.disk)).seen _ (c.in-Ok.ensures.next keeps))
