-- What contracts see of an open store, and of the clocks of its clients.
use Rattle.std.specs.Prelude.{ℕ, List}
use Rattle.truetime.specs.Interval.{Interval}
use Rattle.units.specs.Keys.{Bytes}
use Rattle.board.specs.Views.{Viewing}

-- the run of its ids, its splits, how many shards it has and for how many clients, and of its clock the epsilon and the timestamp from which it
-- goes on; and the viewers that its opening dealt, a list for each client
pub record Standing : Type 0 where
  pub run : ℕ
  pub splits : List Bytes
  pub shards : ℕ
  pub clients : ℕ
  pub epsilon : ℕ
  pub last : ℕ
  pub dealt : List (List Viewing)

-- the clock of a client: its epsilon, the timestamp from which it goes on, and all that it has told, the newest first
pub record Ticking : Type 0 where
  pub epsilon : ℕ
  pub from : ℕ
  pub readings : List Interval
