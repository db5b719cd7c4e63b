use Rattle.std.proofs.Common.{◌≡◌, true, drop}
use Rattle.disk.specs.File.{surface}
use Rattle.disk.specs.Moments.{Elapses}
use Rattle.frames.specs.Ahead.{IsAhead}
use Rattle.frames.specs.Calls.{waits}
use Rattle.frames.specs.Entries.{entries_at}
use Rattle.gatelog.proofs.Loop.{IsHanded, IsPlaced, to_go}
use Rattle.gatelog.proofs.scanning.hand_on.Given as goal

abbrev pub invariant-loop-gate : goal.invariant-loop-gate
invariant-loop-gate g l = record {
  told : g.S.Sink.told l.sink ≡ g.S.Sink.told l.fn.sink;
  same : g.D.Disk.file l.disk ≡ g.D.Disk.file l.fn.disk;
  time : Elapses g.D.Disk.file g.D.Disk.clock g.D.Disk.since g.D.Disk.failures l.fn.disk l.disk;
  there : g.D.Disk.keeps_model → IsAhead (surface (g.D.Disk.file l.fn.disk)).seen l.ahead;
  so_far : g.D.Disk.keeps_model → IsHanded (surface (g.D.Disk.file l.fn.disk)).seen
      (entries_at l.fn.ahead.at 0 (drop l.fn.ahead.at (surface (g.D.Disk.file l.fn.disk)).seen)) (g.S.Sink.taken l.sink) l.ahead l.gate;
  placed : IsPlaced l.fn.ahead.at (g.S.Sink.taken l.sink) l.ahead l.gate;
  plan : g.D.Disk.obeys → waits (g.D.Disk.plan l.fn.disk) ≡ true → g.D.Disk.plan l.disk ≡ g.D.Disk.plan l.fn.disk;
}

abbrev pub decreases-loop-gate : goal.decreases-loop-gate
decreases-loop-gate g l = to_go l.ahead l.gate
