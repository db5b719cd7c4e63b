-- How a shard of a run in the code stands for one of the definitions, with its views.
use Rattle.std.specs.List.{list_all}
use Rattle.std.specs.Prelude.{◌≡◌, ◌≤◌, ℕ, ◌+◌, ◌-◌, Bool, true, false, cond, nat_le, List, [], ◌∷◌, ◌++◌, length, take, drop, Option, Some}
use Rattle.std.specs.Prelude.{None, Result, slice_get}
use Rattle.units.specs.Keys.{Bytes}
use Rattle.units.specs.Versions.{at_time}
use Rattle.units.specs.declared.fault.Fault.{Fault}
use Rattle.units.specs.declared.setup.Setup.{Setup}
use Rattle.units.specs.declared.writes.Install.{Install}
use Rattle.disk.specs.declared.plan.Fate.{Fate}
use Rattle.message.specs.declared.message.Envelope.{Envelope}
use Rattle.protocol.specs.Step.{Stepped, Refuses, Does}
use Rattle.shard.specs.Core.{seen}
use Rattle.shard.specs.Look.{safe_at}
use Rattle.shard.specs.On.{CoreView}
use Rattle.simdisk.specs.declared.simdisk.SimDisk.{SimDisk}
use Rattle.world.specs.World.{ShardNow, View, crashed_in, effect, finished, look_at_view, look_shard, makes_view}
use Rattle.lives.specs.Inputs.{goes_on}
use Rattle.world.specs.declared.event.Doing.{Doing}
use Rattle.world.specs.declared.event.Reply.{Reply}
use Rattle.lives.specs.Carries.{Comes, IsOrderly, by_call, calls_of, failed_by, left_by_refusal}
use Rattle.lives.specs.Lives.{LivesAs, crash_by}
use Rattle.lives.specs.Spots.{AreSpots}
use Rattle.lives.specs.declared.life.Life.{Life}
use Rattle.lives.specs.declared.life.Life.TheVariants.{Up, Down}
use Rattle.lives.specs.declared.run_shard.RunShard.{RunShard}
use Rattle.lives.specs.declared.view.View.{View as CodeView}

-- the versions of a view, among all that its shard ever showed
abbrev pub versions_of : List Install → CodeView → List Install
versions_of installs v = take v.count (drop v.from installs)

-- a view shows what one of the definitions does: the same value of each key at each time from its horizon up
pub record IsView (installs : List Install) (v : CodeView) (w : View) : Type 0 where
  pub safe : v.safe ≡ w.safe
  pub horizon : v.horizon ≡ w.horizon
  pub values : (k : Bytes) (at : ℕ) → v.horizon ≤ at → at_time (versions_of installs v) k at ≡ at_time w.installs k at

-- so each view
abbrev pub AreViews : List Install → List CodeView → List View → Type 0
AreViews installs [] [] = Unit {0}
AreViews installs (v ∷ vs) (w ∷ ws) = IsView installs v w × AreViews installs vs ws
AreViews installs _ _ = ⊥

-- all of its versions are among these
abbrev pub is_within : List Install → CodeView → Bool
is_within installs v = nat_le (v.from + v.count) (length installs)

-- while there is a core, the last versions are those that it shows
abbrev pub ShowsLife : List Install → ℕ → Life → Type 0
ShowsLife installs from (Up core) = (from ≤ length installs) × (drop from installs ≡ (seen core).facts.installs)
ShowsLife installs from (Down disk) = Unit {0}

-- what lives of it, and its views
pub record StandsFor (setup : Setup) (r : RunShard) (s : ShardNow) : Type 0 where
  pub setup_is : r.setup ≡ setup
  pub lives : LivesAs setup s r.life
  pub views : AreViews r.installs.items r.views.items s.views
  pub within : list_all (is_within r.installs.items) r.views.items ≡ true
  pub spots : AreSpots r.installs.items r.spots.entries
  pub shows : ShowsLife r.installs.items r.from r.life

-- what a call of it leaves, but for what lives
pub record IsKept (old new : RunShard) : Type 0 where
  pub setup : new.setup ≡ old.setup
  pub installs : new.installs.items ≡ old.installs.items
  pub from : new.from ≡ old.from
  pub views : new.views.items ≡ old.views.items
  pub spots : new.spots ≡ old.spots

-- a shard after a doing, with the view that it makes, where a refusal leaves that other one
abbrev pub leads_to : ShardNow → ShardNow → Option ℕ → Doing → Stepped → ShardNow
leads_to s refused call doing (Refuses fault) = refused
leads_to s refused call doing (Does logged memory out) =
    by_call (calls_of doing logged) call (failed_by s logged) (finished s doing logged memory)

-- a shard after a doing, with a call armed or with none
abbrev pub done_by : ShardNow → Option ℕ → Doing → Stepped → ShardNow
done_by s call doing st = leads_to s (left_by_refusal s doing) call doing st

-- a doing is carried out, with the view that it makes
abbrev pub Acts : Setup → List Envelope → ShardNow → Option ℕ → Doing → RunShard → Result (List Envelope) Fault → Type 0
Acts setup bag s call doing new result =
    IsOrderly setup s (effect setup bag s doing)
    → Comes call doing (effect setup bag s doing) result (StandsFor setup new (done_by s call doing (effect setup bag s doing)))

-- ---- what is kept of a core behind a doing

-- all versions behind a place are the first that a core shows
abbrev pub AreShared : List Install → List Install → ℕ → Type 0
AreShared installs shown place = (place ≤ length installs) × (take (length installs - place) shown ≡ drop place installs)

-- where the versions of the core begin: an opened one shares all that stand behind that place, or none
pub record BeginsAt (doing : Doing) (from : ℕ) (installs shown : List Install) (place : ℕ) : Type 0 where
  pub goes : goes_on doing ≡ true → place ≡ from
  pub opens : goes_on doing ≡ false → AreShared installs shown place

-- what a core shows now, as a view
abbrev pub view_now : ℕ → CoreView SimDisk → CodeView
view_now from core = record { from = from; count = length core.facts.installs; safe = safe_at core; horizon = core.facts.horizon }

-- what the core shows more than before is kept, and the view that the doing makes
pub record HasNoted (doing : Doing) (core : CoreView SimDisk) (old new : RunShard) : Type 0 where
  pub setup : new.setup ≡ old.setup
  pub life : new.life ≡ old.life
  pub from : BeginsAt doing old.from old.installs.items core.facts.installs new.from
  pub installs : new.installs.items ≡ old.installs.items ++ drop (length old.installs.items - new.from) core.facts.installs
  pub views : new.views.items ≡ old.views.items ++ cond (makes_view doing) (view_now new.from core ∷ []) []
  pub spots : AreSpots old.installs.items old.spots.entries → AreSpots new.installs.items new.spots.entries

-- of a core; there is nothing to keep of a shard that is down
abbrev pub NotesOfLife : Doing → RunShard → RunShard → Life → Type 0
NotesOfLife doing old new (Up core) = HasNoted doing (seen core) old new
NotesOfLife doing old new (Down disk) = Unit {0}

-- ---- crashes and looks

-- a shard behind a crash in a call of a doing, or in none
abbrev pub crashed_within : Setup → List Envelope → Option (ℕ × Doing) → Fate → ShardNow → ShardNow
crashed_within setup bag None fate s = crash_by fate s
crashed_within setup bag (Some (call, doing)) fate s = crashed_in s call fate doing (effect setup bag s doing)

-- the reply to a look at a view, by its number, or at what the shard shows now
abbrev pub look_by : Setup → ShardNow → Option ℕ → Bytes → ℕ → Reply
look_by setup s None k at = look_shard setup s k at
look_by setup s (Some n) k at = look_at_view setup (slice_get s.views n) k at
