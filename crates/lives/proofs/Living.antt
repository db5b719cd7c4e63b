-- What lives of a shard does what its doing comes to.
use Rattle.std.proofs.Common.{◌≡◌, inl, inr, ℕ, Bool, true, false, not, cond, List, [], Option, Some, None, Result, Ok, Err, refl, sym, ap, ◌∙◌, subst}
use Rattle.std.proofs.lemmas.Bool.{false≢true}
use Rattle.units.specs.declared.fault.Fault.{Fault}
use Rattle.units.specs.declared.fault.Fault.TheVariants.{Stopped, TimeSpent}
use Rattle.units.specs.declared.setup.Setup.{Setup}
use Rattle.truetime.specs.Interval.{Interval}
use Rattle.record.specs.Facts.{facts_of}
use Rattle.message.specs.declared.message.Envelope.{Envelope}
use Rattle.message.specs.declared.message.Input.{Input}
use Rattle.protocol.specs.Rows.{Memory}
use Rattle.protocol.specs.Step.{Stepped, Refuses, Does}
use Rattle.shard.specs.On.{CoreView}
use Rattle.simdisk.specs.declared.simdisk.SimDisk.{SimDisk}
use Rattle.world.specs.World.{ShardNow, State, Runs, IsStopped, IsDown, crashed, effect, gate_of, has_place, input_of, new_area, read_area, read_log}
use Rattle.world.specs.World.{step_of_opening, step_of_turnover, step_with, turns, wanted, where_room}
use Rattle.lives.specs.Inputs.{IsNoInput, goes_on, has_input}
use Rattle.world.specs.Lawful.{is_up}
use Rattle.world.specs.declared.event.Doing.{Doing}
use Rattle.lives.specs.Lives.{HoldsLog, IsCoreIn, IsDiskIn, LivesAs, LivesIn}
use Rattle.lives.specs.Carries.{Carries, Comes, CoreComes, DoesInput, IsOpened, IsOrderly, OpensDisk, ShowsFrom, ShowsMore, ShowsOn, TakesInput, TurnsOver}
use Rattle.lives.specs.Carries.{asked_if_room, asked_in, comes_to, left_by, left_by_refusal, opened_by, opens_as, turns_in, unopened}
use Rattle.lives.specs.declared.life.Life.{Life}
use Rattle.lives.specs.declared.life.Life.TheVariants.{Up, Down}
use Rattle.lives.proofs.Crashing.{LogsNone}

-- ---- the disk of what lives

pub core_disk : (setup : Setup) (s : ShardNow) (core : CoreView SimDisk) (state : State) → IsCoreIn setup s core state → HoldsLog s core.disk
core_disk setup s core (Runs m) h = h.core_of.disk
core_disk setup s core (IsStopped m) h = h.core_of.disk
core_disk setup s core IsDown h = absurd h

pub down_disk : (s : ShardNow) (disk : SimDisk) (state : State) → IsDiskIn s disk state → HoldsLog s disk
down_disk s disk (Runs m) h = absurd h
down_disk s disk (IsStopped m) h = absurd h
down_disk s disk IsDown h = h

-- ---- what is no opening

pub goes_so : (b : Bool) → not b ≡ false → b ≡ true
goes_so true e = refl
goes_so false e = absurd (false≢true (sym e))

-- what is neither an opening nor a turnover takes an input
pub input_so : (doing : Doing) → goes_on doing ≡ true → turns doing ≡ false → has_input doing ≡ true
input_so Doing.Turn g t = absurd (false≢true (sym t))
input_so Doing.Open g t = absurd (false≢true g)
input_so _ g t = refl

is_turn : (doing : Doing) → turns doing ≡ true → doing ≡ Doing.Turn
is_turn Doing.Turn t = refl
is_turn _ t = absurd (false≢true t)

module _ (setup : Setup) (bag : List Envelope) (s : ShardNow) where
  -- what it asks for
  pub goes_as : (doing : Doing) → has_input doing ≡ true
      → effect setup bag s doing
      ≡ where_room (gate_of (read_area s))
      (elim s.state as (λ x. Stepped) [ Runs m ↦ step_with setup (facts_of s.log) m (input_of bag doing) | _ ↦ Refuses Stopped ])
  unfolding effect wanted
  goes_as Doing.Turn g = absurd (false≢true g)
  goes_as Doing.Open g = absurd (false≢true g)
  goes_as _ g = refl

  -- with an input it is the step
  pub asks : (doing : Doing) (now : Interval) (i : Input) → has_input doing ≡ true → input_of bag doing ≡ Some (now, i)
      → effect setup bag s doing ≡ asked_if_room setup s now i
  asks doing now i g is = goes_as doing g ∙ ap (where_room (gate_of (read_area s))) (by_state s.state)
    where
      by_state : (st : State)
          → elim st as (λ x. Stepped) [ Runs m ↦ step_with setup (facts_of s.log) m (input_of bag doing) | _ ↦ Refuses Stopped ] ≡ asked_in setup s now i st
      by_state (Runs m) = ap (step_with setup (facts_of s.log) m) is
      by_state (IsStopped m) = refl
      by_state IsDown = refl

  -- with none it is refused
  asks_nothing : (doing : Doing) → has_input doing ≡ true → input_of bag doing ≡ None → effect setup bag s doing ≡ Refuses Stopped
  asks_nothing doing g is = goes_as doing g ∙ ap (where_room (gate_of (read_area s))) (by_state s.state)
    where
      by_state : (st : State)
          → elim st as (λ x. Stepped) [ Runs m ↦ step_with setup (facts_of s.log) m (input_of bag doing) | _ ↦ Refuses Stopped ] ≡ Refuses Stopped
      by_state (Runs m) = ap (step_with setup (facts_of s.log) m) is
      by_state (IsStopped m) = refl
      by_state IsDown = refl

  -- a turnover logs nothing, so its room is its own
  pub turns_as : effect setup bag s Doing.Turn ≡ turns_in s s.state
  unfolding effect wanted
  turns_as = by_state s.state
    where
      by_place : (m : Memory) (b : Bool)
          → where_room (gate_of (read_area s)) (cond b (Does None m []) (Refuses TimeSpent)) ≡ cond b (Does None m []) (Refuses TimeSpent)
      by_place m true = refl
      by_place m false = refl

      by_state : (st : State)
          → where_room (gate_of (read_area s)) (elim st as (λ x. Stepped) [ Runs m ↦ step_of_turnover s m | _ ↦ Refuses Stopped ]) ≡ turns_in s st
      by_state (Runs m) = by_place m (has_place (read_area s).slot (new_area s))
      by_state (IsStopped m) = refl
      by_state IsDown = refl

  -- nor does a shard do one that does not run
  pub asks_the_resting : (doing : Doing) → goes_on doing ≡ true → is_up s.state ≡ false → effect setup bag s doing ≡ Refuses Stopped
  asks_the_resting doing goes rests = by_turn (turns doing) refl
    where
      by_state : (st : State) → is_up st ≡ false
          → where_room (gate_of (read_area s))
          (elim st as (λ x. Stepped) [ Runs m ↦ step_with setup (facts_of s.log) m (input_of bag doing) | _ ↦ Refuses Stopped ]) ≡ Refuses Stopped
      by_state (Runs m) k = absurd (false≢true (sym k))
      by_state (IsStopped m) k = refl
      by_state IsDown k = refl

      turned : (st : State) → is_up st ≡ false → turns_in s st ≡ Refuses Stopped
      turned (Runs m) k = absurd (false≢true (sym k))
      turned (IsStopped m) k = refl
      turned IsDown k = refl

      by_turn : (b : Bool) → turns doing ≡ b → effect setup bag s doing ≡ Refuses Stopped
      by_turn true t = ap (effect setup bag s) (is_turn doing t) ∙ turns_as ∙ turned s.state rests
      by_turn false t = goes_as doing (input_so doing goes t) ∙ by_state s.state rests

-- a core takes the input of a doing
pub does_input : (old new : CoreView SimDisk) (bag : List Envelope) (call : Option ℕ) (doing : Doing) (now : Interval) (i : Input)
    (r : Result (List Envelope) Fault) → has_input doing ≡ true
    → input_of bag doing ≡ Some (now, i) → TakesInput old new call doing now i r → DoesInput old new bag call doing r
does_input old new bag call doing now i r g is takes = λ setup s h order.
    let same = asks setup bag s doing now i g is in
    subst (λ x. CoreComes setup s old new call doing x r) (sym same) (takes setup s h (subst (IsOrderly setup s) same order))

-- or has none
pub does_nothing : (old : CoreView SimDisk) (bag : List Envelope) (call : Option ℕ) (doing : Doing) (fault : Fault) → has_input doing ≡ true
    → IsNoInput (input_of bag doing) fault → DoesInput old old bag call doing (Err fault)
does_nothing old bag call doing fault g (inl memory) = λ setup s h order. inl (ap (λ x. Err x) memory)
does_nothing old bag call doing fault g (inr none) = λ setup s h order.
    let same = asks_nothing setup bag s doing g none.1 in
    subst (λ x. CoreComes setup s old old call doing x (Err fault)) (sym same) (inr (ap (λ x. Err x) none.0, (h, refl)))

-- or turns its log over
pub does_turn : (old new : CoreView SimDisk) (bag : List Envelope) (call : Option ℕ) (doing : Doing) (r : Result (List Envelope) Fault)
    → turns doing ≡ true → TurnsOver old new call r → DoesInput old new bag call doing r
does_turn old new bag call doing r t over =
    subst (λ d. DoesInput old new bag call d r) (sym (is_turn doing t)) (λ setup s h order.
    let same = turns_as setup bag s in
    subst (λ x. CoreComes setup s old new call Doing.Turn x r) (sym same) (over setup s h order.lasting))

-- a refusal of what is no opening leaves all as it was
refused_same : (s : ShardNow) (doing : Doing) → goes_on doing ≡ true → left_by_refusal s doing ≡ s
refused_same s Doing.Open g = absurd (false≢true g)
refused_same s _ g = refl

module _ (setup : Setup) (bag : List Envelope) (s : ShardNow) (call : Option ℕ) (doing : Doing) where
  -- a core carries it out
  pub core_carries : (core before : CoreView SimDisk) (old life : Life)
      → ((t : ShardNow) (state : State) → IsCoreIn setup t core state → LivesIn setup t life state)
      → (r : Result (List Envelope) Fault) → (ShowsFrom (goes_on doing) before.facts.installs core.facts.installs r → ShowsOn doing old life r)
      → goes_on doing ≡ true → IsCoreIn setup s before s.state → DoesInput before core bag call doing r
      → Carries setup bag s call doing old life r
  core_carries core before old life lifts r shows g h does = λ order. by_answer (does setup s h order)
    where
      left_is : (st : Stepped) → comes_to s s call doing st ≡ left_by s call doing st
      left_is st = ap (λ t. comes_to s t call doing st) (sym (refused_same s doing g))

      shows_on : (x : Result (List Envelope) Fault) → ShowsMore before.facts.installs core.facts.installs x
          → ShowsFrom (goes_on doing) before.facts.installs core.facts.installs x
      shows_on (Ok out) more = λ goes. more
      shows_on (Err fault) more = more

      by_answer : CoreComes setup s before core call doing (effect setup bag s doing) r
          → Comes call doing (effect setup bag s doing) r
          (LivesAs setup (left_by s call doing (effect setup bag s doing)) life × ShowsOn doing old life r)
      by_answer (inl memory) = inl memory
      by_answer (inr (answer, (k, more))) =
          let t : ShardNow = comes_to s s call doing (effect setup bag s doing) in
          inr (answer, (subst (λ u. LivesAs setup u life) (left_is (effect setup bag s doing)) (lifts t t.state k), shows (shows_on r more)))

  -- a disk does not
  pub down_carries : (disk : SimDisk) → goes_on doing ≡ true → IsDiskIn s disk s.state → Carries setup bag s call doing (Down disk) (Down disk) (Err Stopped)
  down_carries disk g h =
      λ order. subst Left (sym (asks_the_resting setup bag s doing g (ap is_up (is_down s.state h))))
      (inr (refl, (subst (λ t. LivesAs setup t (Down disk)) (sym (refused_same s doing g)) h, tt)))
    where
      Left : Stepped → Type 0
      Left x = Comes call doing x (Err Stopped) (LivesAs setup (left_by s call doing x) (Down disk) × ShowsOn doing (Down disk) (Down disk) (Err Stopped))

      is_down : (st : State) → IsDiskIn s disk st → st ≡ IsDown
      is_down (Runs m) k = absurd k
      is_down (IsStopped m) k = absurd k
      is_down IsDown k = refl

-- ---- an opening

is_open : (doing : Doing) → goes_on doing ≡ false → doing ≡ Doing.Open
is_open Doing.Open g = refl
is_open _ g = absurd (false≢true (sym g))

module _ (setup : Setup) (bag : List Envelope) (s : ShardNow) where
  effect_opens : effect setup bag s Doing.Open ≡ where_room (gate_of (read_area s))
      (elim s.state as (λ x. Stepped) [ Runs m ↦ Refuses Stopped | _ ↦ step_of_opening (facts_of (read_log s)) ])
  unfolding effect wanted
  effect_opens = refl

  by_opening : (st : State) → s.state ≡ st → effect setup bag s Doing.Open ≡ where_room (gate_of (read_area s))
      (elim st as (λ y. Stepped) [ Runs m ↦ Refuses Stopped | _ ↦ step_of_opening (facts_of (read_log s)) ])
  by_opening st is = effect_opens ∙ ap (λ x. where_room (gate_of (read_area s))
      (elim x as (λ y. Stepped) [ Runs m ↦ Refuses Stopped | _ ↦ step_of_opening (facts_of (read_log s)) ])) is

  -- a shard that runs is not opened
  up_refuses : is_up s.state ≡ true → (effect setup bag s Doing.Open ≡ Refuses Stopped) × (left_by_refusal s Doing.Open ≡ s)
  up_refuses up = by_state s.state refl up
    where
      by_state : (st : State) → s.state ≡ st → is_up st ≡ true → (effect setup bag s Doing.Open ≡ Refuses Stopped) × (unopened s s.state ≡ s)
      by_state (Runs m) is u = (by_opening (Runs m) is, ap (unopened s) is)
      by_state (IsStopped m) is u = absurd (false≢true u)
      by_state IsDown is u = absurd (false≢true u)

  -- any other is
  pub not_up_opens : is_up s.state ≡ false → (effect setup bag s Doing.Open ≡ opens_as s)
      × (left_by_refusal s Doing.Open ≡ crashed s (read_log s) (read_area s))
  not_up_opens down = by_state s.state refl down
    where
      by_state : (st : State) → s.state ≡ st → is_up st ≡ false
          → (effect setup bag s Doing.Open ≡ opens_as s) × (unopened s s.state ≡ crashed s (read_log s) (read_area s))
      by_state (Runs m) is u = absurd (false≢true (sym u))
      by_state (IsStopped m) is u = (by_opening (IsStopped m) is, ap (unopened s) is)
      by_state IsDown is u = (by_opening IsDown is, ap (unopened s) is)

module _ (setup : Setup) (bag : List Envelope) (s : ShardNow) (call : Option ℕ) (doing : Doing) (opens : not (goes_on doing) ≡ true) where
  no_more : goes_on doing ≡ false
  no_more = by_test (goes_on doing) opens
    where
      by_test : (b : Bool) → not b ≡ true → b ≡ false
      by_test true e = absurd (false≢true e)
      by_test false e = refl

  open_is : doing ≡ Doing.Open
  open_is = is_open doing no_more

  -- what it then shows is the same, or none
  same_shown : (life : Life) (fault : Fault) → ShowsOn Doing.Open life life (Err fault)
  same_shown (Up core) fault = refl
  same_shown (Down disk) fault = tt

  pub up_carries : (life : Life) → is_up s.state ≡ true → LivesAs setup s life → Carries setup bag s call doing life life (Err Stopped)
  up_carries life up h = subst (λ d. Carries setup bag s call d life life (Err Stopped)) (sym open_is) (λ order.
      let p = up_refuses setup bag s up in
      subst (λ x. Comes call Doing.Open x (Err Stopped) (LivesAs setup (left_by s call Doing.Open x) life × ShowsOn Doing.Open life life (Err Stopped)))
      (sym p.0)
      (inr (refl, (subst (λ t. LivesAs setup t life) (sym p.1) h, same_shown life Stopped))))

  pub open_carries : (disk : SimDisk) (old life : Life) (r : Result (List Envelope) Fault) → is_up s.state ≡ false → HoldsLog s disk
      → OpensDisk disk setup call life r
      → Carries setup bag s call doing old life r
  open_carries disk old life r down h opens = subst (λ d. Carries setup bag s call d old life r) (sym open_is) (λ order.
      let p = not_up_opens setup bag s down in
      subst (λ x. Comes call Doing.Open x r (LivesAs setup (left_by s call Doing.Open x) life × ShowsOn Doing.Open old life r)) (sym p.0)
      (subst (λ t. Comes call Doing.Open (opens_as s) r (LivesAs setup (comes_to s t call Doing.Open (opens_as s)) life × ShowsOn Doing.Open old life r))
      (sym p.1)
      (by_answer (opens s h down (subst (IsOrderly setup s) p.0 order)))))
    where
      -- a core that was opened may show others; there is none where the opening is refused
      shown_so : (x : Result (List Envelope) Fault) (before new : Life) → IsOpened x new → ShowsOn Doing.Open before new x
      shown_so x before (Down back) k = tt
      shown_so (Ok out) (Up was) (Up core) k = λ goes. absurd (false≢true goes)
      shown_so (Ok out) (Down was) (Up core) k = refl
      shown_so (Err fault) before (Up core) k = absurd k

      by_answer : Comes call Doing.Open (opens_as s) r (LivesAs setup (opened_by s call) life × IsOpened r life)
          → Comes call Doing.Open (opens_as s) r (LivesAs setup (opened_by s call) life × ShowsOn Doing.Open old life r)
      by_answer (inl memory) = inl memory
      by_answer (inr (answer, (k, shown))) = inr (answer, (k, shown_so r old life shown))

-- a turnover logs nothing
pub turn_logs_none : (setup : Setup) (bag : List Envelope) (s : ShardNow) (doing : Doing) → LogsNone doing (effect setup bag s doing)
turn_logs_none setup bag s doing t r memory out is =
    none s.state (sym (ap (effect setup bag s) (is_turn doing t) ∙ turns_as setup bag s) ∙ is)
  where
    by_place : (m : Memory) (b : Bool) → cond b (Does None m []) (Refuses TimeSpent) ≡ Does (Some r) memory out → ⊥
    by_place m true e = cc
    by_place m false e = cc

    none : (st : State) → turns_in s st ≡ Does (Some r) memory out → ⊥
    none (Runs m) e = by_place m (has_place (read_area s).slot (new_area s)) e
    none (IsStopped m) e = cc
    none IsDown e = cc
