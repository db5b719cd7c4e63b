-- The new files are renewals of the logs that were taken.
use Rattle.std.proofs.Common.{◌≡◌, ◌++◌, map, length}
use Rattle.disk.specs.File.{surface}
use Rattle.moving.specs.Renewals.{AreRenewals}
use Rattle.moving.proofs.renewing.renew_logs.Given as goal

abbrev pub invariant-loop-log : goal.invariant-loop-log
invariant-loop-log g l =
    (l.yielded ++ l.log-iterator.rest.items ≡ l.fn.logs.items)
    × (length l.sizes.items ≡ length l.yielded)
    × (length (g.P.Places.placed l.places) ≡ length l.yielded)
    × (g.P.Log.Disk.keeps_model
    → AreRenewals l.past g.P.Log.Disk.file (map (λ log. (surface (g.P.Log.Disk.file log)).seen) l.yielded) (g.P.Places.placed l.places))
