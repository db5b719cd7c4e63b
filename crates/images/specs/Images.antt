-- From bytes to history. Beside a run of the definitions stand cores on disks that keep the disk model, call by call: of each call there
-- is what the contract of `Core::on`, of `Core::turn_over` or of `Core::open` says, and where the device failed in it also which call of
-- the device that was. Whatever images a crash then leaves of these disks, between two calls or within one, each is read as an area that
-- keeps what all records of its shard say that were logged since it was formatted; and these records are some that the law of the store
-- speaks of.
use Rattle.std.specs.Prelude.{ℕ, ◌≡◌, ◌≢◌, ◌⊎◌, ◌≤◌, false, cond, ◌&&◌, nat_le, nat_lt, IsTrue, IsFalse, List, [], ◌∷◌, ◌++◌, length, map, slice_get}
use Rattle.std.specs.Prelude.{Option, Some, None, Result, Ok, Err, IfOk}
use Rattle.units.specs.declared.fault.Fault.{Fault}
use Rattle.units.specs.declared.fault.Fault.TheVariants.{Memory, Device}
use Rattle.units.specs.declared.setup.Setup.{Setup}
use Rattle.truetime.specs.Interval.{Interval}
use Rattle.disk.specs.declared.plan.FailurePlan.{FailurePlan}
use Rattle.disk.specs.declared.plan.Fate.{Fate}
use Rattle.disk.specs.File.{File, surface}
use Rattle.disk.specs.Image.{MayLeave}
use Rattle.gatelog.specs.Slots.{begins_in}
use Rattle.record.specs.Facts.{facts_of}
use Rattle.record.specs.declared.record.Record.{Record}
use Rattle.ledger.specs.Keeps.{Alike}
use Rattle.message.specs.declared.message.Envelope.{Envelope}
use Rattle.message.specs.declared.message.Input.{Input}
use Rattle.protocol.specs.Rows.{Memory as Kept}
use Rattle.protocol.specs.Step.{Stepped, Refuses, Does}
use Rattle.lives.specs.Logs.{records_in}
use Rattle.lives.specs.On.{CoreView, HasStepped, step_of}
use Rattle.lives.specs.Opened.{HasNotOpened, HasOpened}
use Rattle.lives.specs.Turned.{HasTurned}
use Rattle.world.specs.Areas.{KeepsWhatIsSaid, MayBeLeftAt}
use Rattle.world.specs.Headline.{IsExternallyConsistent, MayBeLeft, doing_of}
use Rattle.world.specs.Lawful.{is_down, lawful, may_happen}
use Rattle.world.specs.World.{World, ShardNow, Area, Runs, Nothing, crashed_in, effect, failed_in, failed_turn, happens, input_of, read_area, run}
use Rattle.world.specs.World.{setup_of, start, turns, with_records}
use Rattle.world.specs.declared.event.Act.{Act}
use Rattle.world.specs.declared.event.Config.{Config}
use Rattle.world.specs.declared.event.Doing.{Doing}
use Rattle.world.specs.declared.event.Event.{Event}
use Rattle.lives.specs.Held.{HoldsArea}
use Rattle.lives.specs.Unopened.{unopened_area}

-- what there is of a shard: its core, or the disk of one that is down
pub data Life (D : Type 0) : Type 0 where
  Up : CoreView D → Life D
  Down : D → Life D

-- its disk
abbrev pub disk_of : {D : Type 0} → Life D → D
disk_of (Up core) = core.disk
disk_of (Down disk) = disk

-- it does not run, and this disk may be opened: that of one that is down, or what `Core::stop` gives back of one that is stopped
abbrev pub RestsOn : {D : Type 0} → Life D → D → Type 0
RestsOn (Up core) disk = IsTrue core.stopped × (core.disk ≡ disk)
RestsOn (Down old) disk = old ≡ disk

-- `Core::stop` ended a core that ran
abbrev pub WasEnded : {D : Type 0} → Life D → Life D → Type 0
WasEnded (Up core) (Down disk) = IsFalse core.stopped × (core.disk ≡ disk)
WasEnded _ _ = ⊥

-- there is no core that takes an input
abbrev pub IsDisk : {D : Type 0} → Life D → Type 0
IsDisk (Up core) = ⊥
IsDisk (Down disk) = Unit {0}

-- all shards but one are as they were
abbrev pub AreElsewhere : {D : Type 0} → ℕ → (ℕ → Life D) → (ℕ → Life D) → Type 0
AreElsewhere n old new = (m : ℕ) → n ≢ m → new m ≡ old m

-- all shards are
abbrev pub AreSame : {D : Type 0} → (ℕ → Life D) → (ℕ → Life D) → Type 0
AreSame old new = (m : ℕ) → new m ≡ old m

-- what comes next: an event of the run, or a call of which the run has nothing
pub data Turn : Type 0 where
  Happens : Event → Turn
  Starves : ℕ → Doing → Turn

-- the events of the run
abbrev pub events_of : List Turn → List Event
events_of [] = []
events_of (Happens e ∷ ts) = e ∷ events_of ts
events_of (Starves n doing ∷ ts) = events_of ts

-- a refusal that the definitions have: for no want of memory, and no device failed
abbrev pub IsOwn : Fault → Type 0
IsOwn fault = (fault ≢ Memory) × (fault ≢ Device)

-- an answer that they have
abbrev pub IsOwnAnswer : {T : Type 0} → Result T Fault → Type 0
IsOwnAnswer (Ok done) = Unit {0}
IsOwnAnswer (Err fault) = IsOwn fault

-- what the call of some number fails in: the append of a record, a turnover, or nothing
pub data Failing : Type 0 where
  NoCall : Failing
  AnAppend : Record → Failing
  ATurnover : Failing

-- so in a doing: where it is one of the four of its append, or one of the five of its turnover
abbrev pub failing : ℕ → Doing → Stepped → Failing
failing call doing (Refuses fault) = NoCall
failing call doing (Does None memory out) = cond (turns doing && nat_lt call 5) ATurnover NoCall
failing call doing (Does (Some r) memory out) = cond (nat_lt call 4) (AnAppend r) NoCall

-- a crash within a call of a shard
abbrev pub IsWithinCall : Event → Type 0
IsWithinCall e = (n : ℕ) × (call : ℕ) × (fate : Fate) × (doing : Doing) × (e.act ≡ Act.CrashIn n call fate n doing)

-- so each
abbrev pub AreWithinCalls : List Event → Type 0
AreWithinCalls [] = Unit {0}
AreWithinCalls (e ∷ es) = IsWithinCall e × AreWithinCalls es

-- one image of each shard's disk
pub record AreImages (w : World) (leaves : ℕ → List ℕ → Type 0) (images : List (List ℕ)) : Type 0 where
  pub count : length images ≡ length w.shards
  pub each : (n : ℕ) (image : List ℕ) → slice_get images n ≡ Some image → leaves n image

-- a crash may leave an image of a shard's disk: it holds this area, beside these records that the shard has logged since it was formatted,
-- and the area keeps what they say
pub record IsLeftAs (config : Config) (es : List Event) (n : ℕ) (image : List ℕ) (log : List Record) (area : Area) : Type 0 where
  pub holds : HoldsArea area image
  pub left : MayBeLeftAt config es n log area
  pub keeps : KeepsWhatIsSaid config n log area

-- each image is left so, a crash may leave these logs, and the law holds of them
pub record HaveLogs (config : Config) (es : List Event) (images : List (List ℕ)) : Type 0 where
  pub logs : List (List Record)
  pub areas : List Area
  pub read : map records_in images ≡ map (λ area. Ok area.records) areas
  pub each : (n : ℕ) (image : List ℕ) (log : List Record) (area : Area) → slice_get images n ≡ Some image → slice_get logs n ≡ Some log →
      slice_get areas n ≡ Some area → IsLeftAs config es n image log area
  pub left : MayBeLeft config es logs
  pub consistent : IsExternallyConsistent config logs (run config es).lines

-- Crashes within calls tell what was left: they may come next, no line of the run is another, and behind them each image has such logs
pub record AreTold (config : Config) (es : List Event) (images : List (List ℕ)) : Type 0 where
  pub crashes : List Event
  pub within : AreWithinCalls crashes
  pub may : IsTrue (lawful config (es ++ crashes))
  pub lines : (run config (es ++ crashes)).lines ≡ (run config es).lines
  pub logs : HaveLogs config (es ++ crashes) images

-- A core that runs, knows what says the same as the records of a shard of the run, and keeps what that shard does: so what it puts out and
-- how it is looked at is as the run has it
pub record KnowsShard {D : Type 0} (s : ShardNow) (m : Kept) (life : Life D) : Type 0 where
  pub core : CoreView D
  pub is : life ≡ Up core
  pub runs : IsFalse core.stopped
  pub facts : Alike core.facts (facts_of s.log)
  pub memory : core.memory ≡ m

module _ {D : Type 0} (file : D → File) where
  -- what a crash now may leave of a shard's disk
  abbrev pub LeavesNow : Life D → List ℕ → Type 0
  LeavesNow life image = MayLeave (surface (file (disk_of life))) image

  -- each image that a crash now may leave holds this area, and no other
  abbrev pub HoldsSurely : D → Area → Type 0
  HoldsSurely disk area = (image : List ℕ) → MayLeave (surface (file disk)) image → HoldsArea area image

  -- a shard is down, on a disk that surely holds this area
  abbrev pub RestartsWith : Area → Life D → Type 0
  RestartsWith area (Up core) = ⊥
  RestartsWith area (Down disk) = HoldsSurely disk area

  -- it is down, on a disk of which each image that a crash now may leave is read as this one
  abbrev pub RestartsFrom : List ℕ → Life D → Type 0
  RestartsFrom image (Up core) = ⊥
  RestartsFrom image (Down disk) = (later : List ℕ) → MayLeave (surface (file disk)) later →
      (records_in later ≡ records_in image) × (begins_in later ≡ begins_in image)

  -- each shard goes on from its image, and there are no others
  abbrev pub AllRestart : List (List ℕ) → (ℕ → Life D) → (ℕ → Life D) → Type 0
  AllRestart images lives new =
      ((n : ℕ) (image : List ℕ) → slice_get images n ≡ Some image → RestartsFrom image (new n))
      × ((n : ℕ) → slice_get images n ≡ None → new n ≡ lives n)

module _ {D : Type 0} (keeps obeys : Type 0) (file : D → File) (clock : D → ℕ) (since : D → ℕ → List ℕ → Type 0) (failures : D → ℕ)
    (plan : D → FailurePlan) where
  -- ---- one call

  -- a core takes an input, by the contract of `Core::on`
  abbrev pub Takes : Interval → Input → Life D → Life D → Result (List Envelope) Fault → Type 0
  Takes now i (Up old) (Up new) result = HasStepped keeps obeys file clock since failures plan old new (step_of old now i) result
  Takes now i _ _ result = ⊥

  -- so it takes what a doing stands for
  abbrev pub TakesWhat : Option (Interval × Input) → Life D → Life D → Result (List Envelope) Fault → Type 0
  TakesWhat None old new result = ⊥
  TakesWhat (Some p) old new result = Takes p.0 p.1 old new result

  -- a core's log is turned over, by the contract of `Core::turn_over`, which puts nothing out
  abbrev pub TurnsOver : Life D → Life D → Result (List Envelope) Fault → Type 0
  TurnsOver (Up old) (Up new) result = HasTurned keeps obeys file clock since failures plan old new result × IfOk result (λ out. out ≡ [])
  TurnsOver _ _ result = ⊥

  -- a disk was opened, or was not, by the contract of `Core::open`
  abbrev pub OpensTo : D → Setup → Life D → Result (List Envelope) Fault → Type 0
  OpensTo disk setup (Up core) (Ok out) = HasOpened keeps obeys file clock since failures plan disk setup core
  OpensTo disk setup (Down back) (Err fault) = HasNotOpened keeps obeys file clock since failures plan disk setup fault back
  OpensTo disk setup _ _ = ⊥

  -- so was the disk of a shard
  pub record Opens (setup : Setup) (old new : Life D) (result : Result (List Envelope) Fault) : Type 0 where
    pub disk : D
    pub rests : RestsOn old disk
    pub opened : OpensTo disk setup new result

  -- the call of a doing
  abbrev pub Calls : Setup → List Envelope → Doing → Life D → Life D → Result (List Envelope) Fault → Type 0
  Calls setup bag Doing.Open old new result = Opens setup old new result
  Calls setup bag Doing.Turn old new result = TurnsOver old new result
  Calls setup bag doing old new result = TakesWhat (input_of bag doing) old new result

  -- ---- one event, at one shard

  -- a doing is done, or refused as the definitions refuse
  pub record Answers (setup : Setup) (bag : List Envelope) (doing : Doing) (old new : Life D) : Type 0 where
    pub result : Result (List Envelope) Fault
    pub own : IsOwnAnswer result
    pub called : Calls setup bag doing old new result

  -- so it is; or there is no core to take its input
  abbrev pub GoesOn : Setup → List Envelope → Doing → Life D → Life D → Type 0
  GoesOn setup bag doing old new = Answers setup bag doing old new ⊎ ((doing ≢ Doing.Open) × IsDisk old × (new ≡ old))

  -- The device fails in the append of a record, or an opening was refused for memory. The event has the number of a call that tells what
  -- is then read, and whether a crash may leave the record; an opening fails in its append, and not in the sync that comes before it
  pub record Fails (setup : Setup) (bag : List Envelope) (s : ShardNow) (doing : Doing) (call : ℕ) (r : Record) (old new : Life D) : Type 0 where
    pub fault : Fault
    pub called : Calls setup bag doing old new (Err fault)
    pub failed : (fault ≡ Device) ⊎ ((doing ≡ Doing.Open) × (fault ≡ Memory))
    pub read : records_in (surface (file (disk_of new))).seen ≡ Ok (read_area (failed_in s call r)).records
    pub told : IsTrue (nat_le 2 call) ⊎ HoldsSurely file (disk_of new) (read_area s)
    pub behind : (s.unsure ≡ Nothing) ⊎ ((image : List ℕ) → LeavesNow file new image →
        HoldsArea (read_area s) image ⊎ HoldsArea (with_records (read_area s) (r ∷ [])) image)

  -- The device fails in a turnover. The event has the number of a call that tells which area is then read, and whether a crash may leave
  -- the new one
  pub record FailsToTurn (setup : Setup) (bag : List Envelope) (s : ShardNow) (call : ℕ) (old new : Life D) : Type 0 where
    pub called : Calls setup bag Doing.Turn old new (Err Device)
    pub read : HoldsArea (read_area (failed_turn s call)) (surface (file (disk_of new))).seen
    pub told : IsTrue (nat_le 3 call) ⊎ HoldsSurely file (disk_of new) (read_area s)

  abbrev pub FailsOr : Setup → List Envelope → ShardNow → Doing → ℕ → Failing → Life D → Life D → Type 0
  FailsOr setup bag s doing call NoCall old new = GoesOn setup bag doing old new
  FailsOr setup bag s doing call (AnAppend r) old new = Fails setup bag s doing call r old new
  FailsOr setup bag s doing call ATurnover old new = FailsToTurn setup bag s call old new

  -- at one shard, where it exists
  pub record AtShard (w : World) (n : ℕ) (old new : ℕ → Life D) (P : Setup → ShardNow → Life D → Life D → Type 0) : Type 0 where
    pub elsewhere : AreElsewhere n old new
    pub here : (s : ShardNow) → slice_get w.shards n ≡ Some s → P (setup_of w.config n) s (old n) (new n)

  -- where there is a doing
  abbrev pub AtDoing : World → Option (ℕ × Doing) → (ℕ → Life D) → (ℕ → Life D) → Type 0
  AtDoing w None old new = AreSame old new
  AtDoing w (Some p) old new = AtShard w p.0 old new (λ setup s before after. GoesOn setup w.bag p.1 before after)

  -- What an act is at the shards. A crash leaves disks that surely hold what the run tells of them, or a core that ran was ended
  abbrev pub Turns : World → Act → (ℕ → Life D) → (ℕ → Life D) → Type 0
  Turns w (Act.Crash n) old new =
      AtShard w n old new (λ setup s before after. RestartsWith file s.area after ⊎ WasEnded before after)
  Turns w (Act.CrashIn n call fate named doing) old new =
      AtShard w n old new (λ setup s before after. RestartsWith file (crashed_in s call fate doing (effect setup w.bag s doing)).area after)
  Turns w (Act.FailIn n call named doing) old new =
      AtShard w n old new (λ setup s before after. FailsOr setup w.bag s doing call (failing call doing (effect setup w.bag s doing)) before after)
  Turns w act old new = AtDoing w (doing_of w act) old new

  -- ---- calls of which the run has nothing

  -- an opening that is refused for memory, or by its device, before its append leaves no more than a crash might have left before it
  pub record FailsEarly (setup : Setup) (old new : Life D) : Type 0 where
    pub fault : Fault
    pub called : Opens setup old new (Err fault)
    pub failed : (fault ≡ Memory) ⊎ (fault ≡ Device)
    pub read : records_in (surface (file (disk_of new))).seen ≡ records_in (surface (file (disk_of old))).seen
    pub begins : begins_in (surface (file (disk_of new))).seen ≡ begins_in (surface (file (disk_of old))).seen
    pub within : (image : List ℕ) → LeavesNow file new image → LeavesNow file old image

  -- memory is refused
  abbrev pub StarvesIn : Setup → List Envelope → Doing → Life D → Life D → Type 0
  StarvesIn setup bag Doing.Open old new = FailsEarly setup old new
  StarvesIn setup bag doing old new = Calls setup bag doing old new (Err Memory)

  -- ---- a whole run

  -- an empty log in the first area was opened
  pub record IsFresh (setup : Setup) (life : Life D) : Type 0 where
    pub disk : D
    pub empty : HoldsSurely file disk unopened_area
    pub opened : OpensTo disk setup life (Ok [])

  abbrev pub AreFresh : Config → (ℕ → Life D) → Type 0
  AreFresh config lives = (n : ℕ) (s : ShardNow) → slice_get (start config).shards n ≡ Some s → IsFresh (setup_of config n) (lives n)

  -- turn by turn
  abbrev pub Leads : World → List Turn → (ℕ → Life D) → (ℕ → Life D) → Type 0
  Leads w [] old new = AreSame old new
  Leads w (Happens e ∷ ts) old new = (between : ℕ → Life D) × Turns w e.act old between × Leads (happens w e).0 ts between new
  Leads w (Starves n doing ∷ ts) old new =
      (between : ℕ → Life D) × AtShard w n old between (λ setup s before after. StarvesIn setup w.bag doing before after) × Leads w ts between new

  -- ---- crashes

  -- A call is under way, of an event that may come next, whatever it will answer
  pub record IsUnderWay (config : Config) (es : List Event) (lives : ℕ → Life D) (n : ℕ) (after : Life D) : Type 0 where
    pub event : Event
    pub doing : Doing
    pub may : IsTrue (lawful config (es ++ event ∷ []))
    pub of : doing_of (run config es) event.act ≡ Some (n, doing)
    pub shard : ShardNow
    pub there : slice_get (run config es).shards n ≡ Some shard
    pub result : Result (List Envelope) Fault
    pub called : Calls (setup_of config n) (run config es).bag doing (lives n) after result

  -- of its disk a crash leaves what it may leave at some moment since the call began; of each other what it may leave now
  abbrev pub LeavesWithin : (ℕ → Life D) → ℕ → Life D → ℕ → List ℕ → Type 0
  LeavesWithin lives n after m image = ((n ≡ m) × since (disk_of after) (clock (disk_of (lives n))) image) ⊎ ((n ≢ m) × LeavesNow file (lives m) image)

  -- within a call
  pub record AreLeftWithin (config : Config) (es : List Event) (lives : ℕ → Life D) (images : List (List ℕ)) : Type 0 where
    pub n : ℕ
    pub after : Life D
    pub under_way : IsUnderWay config es lives n after
    pub leaves : AreImages (run config es) (LeavesWithin lives n after) images

  -- so there, or between two calls
  abbrev pub AreLeft : Config → List Event → (ℕ → Life D) → List (List ℕ) → Type 0
  AreLeft config es lives images = AreImages (run config es) (λ n image. LeavesNow file (lives n) image) images ⊎ AreLeftWithin config es lives images

  abbrev pub ImagesHaveLogs : Type 0
  ImagesHaveLogs =
      keeps → (config : Config) (turns : List Turn) (first lives : ℕ → Life D) → IsTrue (lawful config (events_of turns)) → AreFresh config first →
      Leads (start config) turns first lives → (images : List (List ℕ)) → AreLeft config (events_of turns) lives images →
      HaveLogs config (events_of turns) images

  -- ---- what cores know

  abbrev pub CoresKnowTheRun : Type 0
  CoresKnowTheRun =
      keeps → (config : Config) (turns : List Turn) (first lives : ℕ → Life D) → IsTrue (lawful config (events_of turns)) → AreFresh config first →
      Leads (start config) turns first lives → (n : ℕ) (s : ShardNow) (m : Kept) → slice_get (run config (events_of turns)).shards n ≡ Some s →
      s.state ≡ Runs m → KnowsShard s m (lives n)

  -- ---- every crash is told

  -- an event tells that a crash left this image of a shard's disk: it may come next, and whoever goes on from what was left is beside the run
  pub record IsTold (config : Config) (es : List Event) (lives : ℕ → Life D) (n : ℕ) (image : List ℕ) : Type 0 where
    pub event : Event
    pub may : IsTrue (may_happen (run config es) event)
    pub tells : (new : ℕ → Life D) → AreElsewhere n lives new → RestartsFrom file image (new n) → Turns (run config es) event.act lives new

  -- a crash leaves this image of a shard's disk, between two calls or within one
  abbrev pub LeavesImage : Config → List Event → (ℕ → Life D) → ℕ → List ℕ → Type 0
  LeavesImage config es lives n image =
      LeavesNow file (lives n) image
      ⊎ ((after : Life D) × IsUnderWay config es lives n after × since (disk_of after) (clock (disk_of (lives n))) image)

  -- the shard is not down, or nothing on its disk is unsure
  abbrev pub CrashesAreTold : Type 0
  CrashesAreTold =
      keeps → (config : Config) (turns : List Turn) (first lives : ℕ → Life D) → IsTrue (lawful config (events_of turns)) → AreFresh config first →
      Leads (start config) turns first lives → (n : ℕ) (s : ShardNow) → slice_get (run config (events_of turns)).shards n ≡ Some s →
      (is_down s.state ≡ false) ⊎ (s.unsure ≡ Nothing) → (image : List ℕ) → LeavesImage config (events_of turns) lives n image →
      IsTold config (events_of turns) lives n image

  -- ---- a crash of all shards at once

  -- a call that is under way
  pub record Call (config : Config) (es : List Event) (lives : ℕ → Life D) : Type 0 where
    pub n : ℕ
    pub after : Life D
    pub under_way : IsUnderWay config es lives n after

  -- some calls are at other shards than this one, and of no earlier events
  abbrev pub AreBeside : (config : Config) (es : List Event) (lives : ℕ → Life D) → Call config es lives → List (Call config es lives) → Type 0
  AreBeside config es lives c [] = Unit {0}
  AreBeside config es lives c (d ∷ ds) =
      (c.n ≢ d.n) × (c.under_way.event.time ≤ d.under_way.event.time) × AreBeside config es lives c ds

  -- calls at a shard each, in the order of their events' times
  abbrev pub AreInOrder : (config : Config) (es : List Event) (lives : ℕ → Life D) → List (Call config es lives) → Type 0
  AreInOrder config es lives [] = Unit {0}
  AreInOrder config es lives (c ∷ cs) = AreBeside config es lives c cs × AreInOrder config es lives cs

  -- of the disk of a shard that is in one of them a crash leaves what it may leave at some moment since the call began; of each other what it
  -- may leave now
  abbrev pub LeavesInCalls : (config : Config) (es : List Event) (lives : ℕ → Life D) → List (Call config es lives) → ℕ → List ℕ → Type 0
  LeavesInCalls config es lives [] n image = LeavesNow file (lives n) image
  LeavesInCalls config es lives (c ∷ cs) n image =
      ((c.n ≡ n) × since (disk_of c.after) (clock (disk_of (lives n))) image) ⊎ ((c.n ≢ n) × LeavesInCalls config es lives cs n image)

  abbrev pub AllCrashAtOnce : Type 0
  AllCrashAtOnce =
      keeps → (config : Config) (turns : List Turn) (first lives : ℕ → Life D) → IsTrue (lawful config (events_of turns)) → AreFresh config first →
      Leads (start config) turns first lives → (calls : List (Call config (events_of turns) lives)) → AreInOrder config (events_of turns) lives calls →
      (images : List (List ℕ)) → AreImages (run config (events_of turns)) (LeavesInCalls config (events_of turns) lives calls) images →
      AreTold config (events_of turns) images

  -- and where each shard is up or stopped, or is down with nothing unsure on its disk, whoever goes on from what was left is beside the run
  pub record IsBesideThen (config : Config) (es : List Event) (lives new : ℕ → Life D) : Type 0 where
    pub crashes : List Event
    pub within : AreWithinCalls crashes
    pub may : IsTrue (lawful config (es ++ crashes))
    pub leads : Leads (run config es) (map Happens crashes) lives new

  abbrev pub AllGoOn : Type 0
  AllGoOn =
      keeps → (config : Config) (turns : List Turn) (first lives new : ℕ → Life D) → IsTrue (lawful config (events_of turns)) → AreFresh config first →
      Leads (start config) turns first lives → (calls : List (Call config (events_of turns) lives)) → AreInOrder config (events_of turns) lives calls →
      ((n : ℕ) (s : ShardNow) → slice_get (run config (events_of turns)).shards n ≡ Some s → (is_down s.state ≡ false) ⊎ (s.unsure ≡ Nothing)) →
      (images : List (List ℕ)) → AreImages (run config (events_of turns)) (LeavesInCalls config (events_of turns) lives calls) images →
      AllRestart file images lives new → IsBesideThen config (events_of turns) lives new

  -- ---- every failure of a device is told, or none of the run's events: that of an opening before its append

  -- an event tells how a call ended in which the device failed: it may come next, and what there is behind the call is beside the run
  pub record IsToldFailure (config : Config) (es : List Event) (lives : ℕ → Life D) (n : ℕ) (after : Life D) : Type 0 where
    pub event : Event
    pub may : IsTrue (may_happen (run config es) event)
    pub tells : (new : ℕ → Life D) → AreElsewhere n lives new → new n ≡ after → Turns (run config es) event.act lives new

  -- the device failed in a call of a shard of which nothing was unsure
  pub record HasFailed (config : Config) (es : List Event) (lives : ℕ → Life D) (n : ℕ) (after : Life D) : Type 0 where
    pub under_way : IsUnderWay config es lives n after
    pub device : under_way.result ≡ Err Device
    pub sure : under_way.shard.unsure ≡ Nothing

  abbrev pub FailuresAreTold : Type 0
  FailuresAreTold =
      keeps → (config : Config) (turns : List Turn) (first lives : ℕ → Life D) → IsTrue (lawful config (events_of turns)) → AreFresh config first →
      Leads (start config) turns first lives → (n : ℕ) (after : Life D) → (f : HasFailed config (events_of turns) lives n after) →
      IsToldFailure config (events_of turns) lives n after
      ⊎ StarvesIn (setup_of config n) (run config (events_of turns)).bag f.under_way.doing (lives n) after
