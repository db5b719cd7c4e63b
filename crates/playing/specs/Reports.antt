-- What a report of a run says, and why there is none.
use Rattle.std.specs.Prelude.{ℕ, ◌≡◌, ◌⊎◌, IsTrue, List, [], ◌∷◌, length, map, Some, Result, Ok, Err}
use Rattle.units.specs.declared.fault.Fault.{Fault}
use Rattle.units.specs.declared.fault.Fault.TheVariants.{Memory, BadRequest}
use Rattle.units.specs.declared.fault.Reason.TheVariants.{Unlawful}
use Rattle.world.specs.World.{World, areas_of, counted_lines, happens, replies_of_run, run, start}
use Rattle.lives.specs.Fleet.{AreOn}
use Rattle.lives.specs.Runs.{IsRun}
use Rattle.world.specs.Lawful.{first_unlawful_from, lawful}
use Rattle.world.specs.declared.event.Config.{Config}
use Rattle.world.specs.declared.event.Event.{Event}
use Rattle.world.specs.declared.event.Reply.{Reply}
use Rattle.playing.specs.declared.plays.Report.{Report}
use Rattle.lives.specs.declared.run.Run.{Run}

-- how many messages had been put out behind each event
abbrev pub counts_from : World → List Event → List ℕ
counts_from w [] = []
counts_from w (e ∷ es) = length ((happens w e).0).bag ∷ counts_from ((happens w e).0) es

-- so of a whole run
unfoldable pub counts_of_run : Config → List Event → List ℕ
counts_of_run config es = counts_from (start config) es

-- the events are lawful, and the report has the replies, the messages, the logs and the lines of their run; the logs are what
-- reads of its disks give
pub record IsReport (config : Config) (es : List Event) (r : Report) : Type 0 where
  pub fair : IsTrue (lawful config es)
  pub replies : r.replies.items ≡ replies_of_run config es
  pub counts : r.counts.items ≡ counts_of_run config es
  pub bag : r.bag ≡ (run config es).bag
  pub disks : AreOn r.disks.items (map (λ log. log.items) r.logs.items)
  pub logs : map (λ log. log.items) r.logs.items ≡ areas_of (run config es)
  pub lines : r.lines.items ≡ counted_lines (areas_of (run config es)) (run config es).lines

-- the first event that may not happen is the one of that number
abbrev pub IsUnlawful : Config → List Event → Fault → Type 0
IsUnlawful config es fault = (n : ℕ) × (fault ≡ BadRequest (Unlawful n)) × (first_unlawful_from (start config) es ≡ Some n)

-- memory was refused, or they are not lawful
abbrev pub IsNoReport : Config → List Event → Fault → Type 0
IsNoReport config es fault = (fault ≡ Memory) ⊎ IsUnlawful config es fault

-- all events were played; or one of them may not happen; or memory was refused
abbrev pub Plays : Config → List Event → Run → List Reply → List ℕ → Result (Unit {0}) Fault → Type 0
Plays config es new answers counts (Ok done) =
    IsTrue (lawful config es) × (answers ≡ replies_of_run config es) × (counts ≡ counts_of_run config es) × IsRun new (run config es)
Plays config es new answers counts (Err fault) = (fault ≡ Memory) ⊎ IsUnlawful config es fault

-- the report of a world, with some replies and counts
pub record Reports (w : World) (answers : List Reply) (counts : List ℕ) (r : Report) : Type 0 where
  pub replies : r.replies.items ≡ answers
  pub counted : r.counts.items ≡ counts
  pub bag : r.bag ≡ w.bag
  pub disks : AreOn r.disks.items (map (λ log. log.items) r.logs.items)
  pub logs : map (λ log. log.items) r.logs.items ≡ areas_of w
  pub lines : r.lines.items ≡ counted_lines (areas_of w) w.lines
