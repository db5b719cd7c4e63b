-- Where no log is turned over, each area is the first of its file, and has all records.
use Rattle.std.specs.List.{AllByRecursion}
use Rattle.std.proofs.Common.{◌≡◌, inl, inr, ℕ, suc, Bool, true, false, cond, ◌&&◌, nat_lt, IsFalse, List, [], ◌∷◌, ◌++◌, length, Option, Some, None}
use Rattle.std.proofs.Common.{slice_get, refl, sym, ap, ◌∙◌, subst, option_to_list}
use Rattle.std.proofs.lemmas.Bool.{cases_eq}
use Rattle.std.proofs.lemmas.List.{append-nil}
use Rattle.units.specs.Keys.{Bytes}
use Rattle.units.specs.Lists.{replaced}
use Rattle.units.specs.declared.fault.Fault.{Fault}
use Rattle.units.specs.declared.fault.Fault.TheVariants.{Device, Stranger}
use Rattle.units.specs.declared.setup.Setup.{Setup}
use Rattle.truetime.specs.Interval.{Interval}
use Rattle.disk.specs.declared.plan.Fate.{Fate}
use Rattle.gatelog.specs.ArmedTurn.{is_left_turn}
use Rattle.gatelog.specs.Gates.{is_left}
use Rattle.message.specs.declared.message.Address.{Address}
use Rattle.message.specs.declared.message.Address.TheVariants.{Shard, Session}
use Rattle.message.specs.declared.message.Envelope.{Envelope}
use Rattle.protocol.specs.Rows.{Memory}
use Rattle.protocol.specs.Step.{Stepped, Refuses, Does}
use Rattle.record.specs.declared.record.Record.{Record}
use Rattle.session.specs.Sessions.{buffers, closes, gives_up, reads}
use Rattle.world.specs.Areas.{IsBeside, MayLeaveArea}
use Rattle.world.specs.World.{World, After, Area, ShardNow, State, Runs, IsStopped, IsDown, Unsure, Nothing, Shown, Hidden, TurnShown, TurnHidden, acts}
use Rattle.world.specs.World.{area_behind, area_left_in, at_shard, client_of, crashed, crashed_in, deliver_to, did, did_with_failure, do_at, effect, failed_in}
use Rattle.world.specs.World.{failed_turn, finished, happens, left_area, left_area_of, left_by_refused, left_log, left_of, look_at_view}
use Rattle.world.specs.World.{look_noted, look_shard, new_area, put_out, read_area, read_log, refused, refused_doing, run, run_from, set_shard, setup_of}
use Rattle.world.specs.World.{shown_area, shown_records, start, to_session, turns, with_records}
use Rattle.world.specs.declared.event.Act.{Act}
use Rattle.world.specs.declared.event.Config.{Config}
use Rattle.world.specs.declared.event.Doing.{Doing}
use Rattle.world.specs.declared.event.Event.{Event}
use Rattle.world.specs.declared.event.Reply.{Reply}
use Rattle.world.proofs.Places.{get-replaced_other, get-replaced_same, replicated}
use Rattle.world.proofs.Untouched.{Kept, if_not_over_keeps, if_open_keeps, noted_keeps, to_session_keeps}
use Rattle.images.specs.Unturned.{AreasAreLogs, first_area, is_turnover}

-- ---- one shard

-- no other area may be there beside
abbrev HasNoArea : Unsure → Type 0
HasNoArea Nothing = Unit {0}
HasNoArea (Shown r) = Unit {0}
HasNoArea (Hidden r) = Unit {0}
HasNoArea (TurnShown other) = ⊥
HasNoArea (TurnHidden other) = ⊥

record IsFirst (s : ShardNow) : Type 0 where
  area : s.area ≡ first_area s.log
  unsure : HasNoArea s.unsure

none_more : (s : ShardNow) → IsFirst s → s.area ≡ first_area (s.log ++ [])
none_more s h = h.area ∙ ap first_area (sym (append-nil s.log))

-- a read gives it
read_first : (s : ShardNow) → IsFirst s → read_area s ≡ first_area (read_log s)
read_first s h = by_unsure s.unsure h.unsure
  where
    by_unsure : (u : Unsure) → HasNoArea u → shown_area s.area u ≡ first_area (s.log ++ shown_records u)
    by_unsure Nothing k = none_more s h
    by_unsure (Shown r) k = ap (λ a. with_records a (r ∷ [])) h.area
    by_unsure (Hidden r) k = none_more s h
    by_unsure (TurnShown other) k = absurd k
    by_unsure (TurnHidden other) k = absurd k

-- a crash leaves it
left_first : (s : ShardNow) (fate : Fate) → IsFirst s → left_area fate s ≡ first_area (left_log fate s)
left_first s fate h = by_unsure s.unsure h.unsure
  where
    by_unsure : (u : Unsure) → HasNoArea u → left_area_of fate s.area u ≡ first_area (s.log ++ left_of fate u)
    by_unsure Nothing k = none_more s h
    by_unsure (Shown r) k = ap (λ a. with_records a (left_of fate (Shown r))) h.area
    by_unsure (Hidden r) k = ap (λ a. with_records a (left_of fate (Hidden r))) h.area
    by_unsure (TurnShown other) k = absurd k
    by_unsure (TurnHidden other) k = absurd k

may_leave : (s : ShardNow) → IsFirst s → (log : List Record) (area : Area) → MayLeaveArea s log area → area ≡ first_area log
may_leave s h log area (inl same) = same.1 ∙ h.area ∙ ap first_area (sym same.0)
may_leave s h log area (inr beside) = by_unsure s.unsure h.unsure beside
  where
    by_record : (r : Record) → (log ≡ s.log ++ r ∷ []) × (area ≡ with_records s.area (r ∷ [])) → area ≡ first_area log
    by_record r is = is.1 ∙ ap (λ a. with_records a (r ∷ [])) h.area ∙ ap first_area (sym is.0)

    by_unsure : (u : Unsure) → HasNoArea u → IsBeside s u log area → area ≡ first_area log
    by_unsure Nothing k is = absurd is
    by_unsure (Shown r) k is = by_record r is
    by_unsure (Hidden r) k is = by_record r is
    by_unsure (TurnShown other) k is = absurd k
    by_unsure (TurnHidden other) k is = absurd k

behind_first : (s : ShardNow) → IsFirst s → (doing : Doing) (logged : Option Record) → turns doing ≡ false →
    area_behind s doing logged ≡ first_area (read_log s ++ option_to_list logged)
behind_first s h doing logged never =
    ap (λ b. cond b (new_area s) (with_records (read_area s) (option_to_list logged))) never
    ∙ ap (λ a. with_records a (option_to_list logged)) (read_first s h)

-- ---- what an event leaves of it

crashed_first : (s : ShardNow) (log : List Record) (area : Area) → area ≡ first_area log → IsFirst (crashed s log area)
crashed_first s log area is = record { area = is; unsure = tt }

read_crashed : (s : ShardNow) → IsFirst s → IsFirst (crashed s (read_log s) (read_area s))
read_crashed s h = crashed_first s (read_log s) (read_area s) (read_first s h)

left_crashed : (s : ShardNow) (fate : Fate) → IsFirst s → IsFirst (crashed s (left_log fate s) (left_area fate s))
left_crashed s fate h = crashed_first s (left_log fate s) (left_area fate s) (left_first s fate h)

refused_first : (s : ShardNow) (fate : Fate) (doing : Doing) → IsFirst s → IsFirst (left_by_refused s fate doing)
refused_first s fate Doing.Open h = read_crashed s h
refused_first s fate Doing.Turn h = left_crashed s fate h
refused_first s fate (Doing.Take m now) h = left_crashed s fate h
refused_first s fate (Doing.Resume now) h = left_crashed s fate h
refused_first s fate (Doing.Settle t now) h = left_crashed s fate h
refused_first s fate (Doing.Advance at now) h = left_crashed s fate h
refused_first s fate (Doing.Forget at now) h = left_crashed s fate h
refused_first s fate (Doing.Retire below now) h = left_crashed s fate h
refused_first s fate (Doing.Nudge t now) h = left_crashed s fate h

crashed_in_first : (s : ShardNow) (call : ℕ) (fate : Fate) (doing : Doing) (st : Stepped) → turns doing ≡ false → IsFirst s →
    IsFirst (crashed_in s call fate doing st)
unfolding crashed_in
crashed_in_first s call fate doing (Refuses f) never h = refused_first s fate doing h
crashed_in_first s call fate doing (Does None memory out) never h = crashed_first s (read_log s) (area_left_in call fate doing s)
    (ap (λ b. cond (b && is_left_turn call fate) (new_area s) (read_area s)) never ∙ read_first s h)
crashed_in_first s call fate doing (Does (Some r) memory out) never h =
    let more : List Record = cond (is_left call fate) (r ∷ []) [] in
    crashed_first s (read_log s ++ more) (with_records (read_area s) more) (ap (λ a. with_records a more) (read_first s h))

finished_first : (s : ShardNow) (doing : Doing) (logged : Option Record) (memory : Memory) → turns doing ≡ false → IsFirst s →
    IsFirst (finished s doing logged memory)
unfolding finished
finished_first s doing logged memory never h = record { area = behind_first s h doing logged never; unsure = tt }

no_area : (r : Record) (shown hidden : Bool) → HasNoArea (cond shown (Shown r) (cond hidden (Hidden r) Nothing))
no_area r true hidden = tt
no_area r false true = tt
no_area r false false = tt

failed_first : (s : ShardNow) (call : ℕ) (r : Record) → IsFirst s → IsFirst (failed_in s call r)
unfolding failed_in
failed_first s call r h = record { area = read_first s h; unsure = no_area r _ _ }

-- ---- all shards

some_same : (a b : ShardNow) → Some a ≡ Some b → a ≡ b
some_same a b e = cc

abbrev AreFirst : World → Type 0
AreFirst w = (n : ℕ) (s : ShardNow) → slice_get w.shards n ≡ Some s → IsFirst s

module _ (w : World) (h : AreFirst w) where
  kept_first : (v : World) → Kept w v → AreFirst v
  kept_first v k n s there = h n s (ap (λ ss. slice_get ss n) (sym k.0) ∙ there)

  module _ (n : ℕ) (s : ShardNow) (there : slice_get w.shards n ≡ Some s) where
    set_first : (x : ShardNow) → IsFirst x → AreFirst (set_shard n x w)
    set_first x first m t e = elim (cases_eq n m) [
      | inl same ↦
          let here = subst (λ k. slice_get (replaced w.shards n x) k ≡ Some t) (sym same) e in
          subst IsFirst (some_same x t (sym (get-replaced_same w.shards n s x there) ∙ here)) first
      | inr ne ↦ h m t (sym (get-replaced_other w.shards n m x ne) ∙ e)
    ]

    refused_all : (doing : Doing) (fault : Fault) → AreFirst (refused_doing w n s doing fault).0
    refused_all Doing.Open fault = by_state s.state
      where
        by_state : (st : State) → AreFirst ((elim st as (λ x. After) [
          | Runs m ↦ refused w fault
          | _ ↦ (set_shard n (crashed s (read_log s) (read_area s)) w, Reply.Refused fault)
        ]).0)
        by_state (Runs m) = h
        by_state (IsStopped m) = set_first (crashed s (read_log s) (read_area s)) (read_crashed s (h n s there))
        by_state IsDown = set_first (crashed s (read_log s) (read_area s)) (read_crashed s (h n s there))
    refused_all Doing.Turn fault = h
    refused_all (Doing.Take m now) fault = h
    refused_all (Doing.Resume now) fault = h
    refused_all (Doing.Settle t now) fault = h
    refused_all (Doing.Advance at now) fault = h
    refused_all (Doing.Forget at now) fault = h
    refused_all (Doing.Retire below now) fault = h
    refused_all (Doing.Nudge t now) fault = h

    did_all : (doing : Doing) (st : Stepped) → turns doing ≡ false → AreFirst (did w n s doing st).0
    unfolding did put_out
    did_all doing (Refuses fault) never = refused_all doing fault
    did_all doing (Does logged memory out) never = set_first (finished s doing logged memory) (finished_first s doing logged memory never (h n s there))

    failing_all : (call : ℕ) (doing : Doing) (st : Stepped) → turns doing ≡ false → AreFirst (did_with_failure w n s call doing st).0
    unfolding did_with_failure
    failing_all call doing (Refuses fault) never = did_all doing (Refuses fault) never
    failing_all call doing (Does None memory out) never =
        subst (λ b. AreFirst ((cond {A = After} (b && nat_lt call 5) (set_shard n (failed_turn s call) w, Reply.Refused Device)
        (did w n s doing (Does None memory out))).0)) (sym never) (did_all doing (Does None memory out) never)
    failing_all call doing (Does (Some r) memory out) never = by_test (nat_lt call 4)
      where
        by_test : (b : Bool) → AreFirst ((cond {A = After} b (set_shard n (failed_in s call r) w, Reply.Refused Device)
            (did w n s doing (Does (Some r) memory out))).0)
        by_test true = set_first (failed_in s call r) (failed_first s call r (h n s there))
        by_test false = did_all doing (Does (Some r) memory out) never

  -- at a shard that exists, or at none
  shard_all : (n : ℕ) (f : Setup → ShardNow → After) → ((s : ShardNow) → slice_get w.shards n ≡ Some s → AreFirst (f (setup_of w.config n) s).0) →
      AreFirst (at_shard w n f).0
  shard_all n f each = by_value (slice_get w.shards n) refl
    where
      by_value : (o : Option ShardNow) → slice_get w.shards n ≡ o →
          AreFirst ((elim o as (λ x. After) [ None ↦ refused w Stranger | Some s ↦ f (setup_of w.config n) s ]).0)
      by_value None none = h
      by_value (Some s) there = each s there

  do_all : (n : ℕ) (doing : Doing) → turns doing ≡ false → AreFirst (do_at w n doing).0
  do_all n doing never = shard_all n (λ setup s. did w n s doing (effect setup w.bag s doing))
      (λ s there. did_all n s there doing (effect (setup_of w.config n) w.bag s doing) never)

  deliver_all : (m : ℕ) (now : Interval) (o : Option Envelope) → AreFirst (deliver_to w m now o).0
  unfolding deliver_to
  deliver_all m now None = h
  deliver_all m now (Some e) = by_address e.to
    where
      by_address : (to : Address) →
          AreFirst ((elim to as (λ x. After) [ Shard n ↦ do_at w n (Doing.Take m now) | Session t ↦ to_session w e.message ]).0)
      by_address (Shard n) = do_all n (Doing.Take m now) refl
      by_address (Session t) = kept_first (to_session w e.message).0 (to_session_keeps w e.message)

  look_all : (n : ℕ) (f : Setup → ShardNow → Reply) (k : Bytes) (at : ℕ) → AreFirst (at_shard w n (λ setup s. look_noted w k at (f setup s))).0
  look_all n f k at = shard_all n (λ setup s. look_noted w k at (f setup s))
      (λ s there. kept_first (look_noted w k at (f (setup_of w.config n) s)).0 (noted_keeps w k at (f (setup_of w.config n) s)))

  acts_all : (a : Act) → is_turnover a ≡ false → AreFirst (acts w a).0
  unfolding acts
  acts_all (Act.Begin t) never = h
  acts_all (Act.Read t j) never = kept_first (acts w (Act.Read t j)).0 (if_open_keeps w (client_of w t) (reads w.config.splits j))
  acts_all (Act.Write t j x) never =
      kept_first (acts w (Act.Write t j x)).0 (if_open_keeps w (client_of w t) (buffers (record { key = j; value = x })))
  acts_all (Act.Close t) never = kept_first (acts w (Act.Close t)).0 (if_open_keeps w (client_of w t) (closes w.config.splits))
  acts_all (Act.Quit t) never = kept_first (acts w (Act.Quit t)).0 (if_not_over_keeps w (client_of w t) (gives_up w.config.splits))
  acts_all (Act.Deliver m now) never = deliver_all m now (slice_get w.bag m)
  acts_all (Act.At n doing) never = do_all n doing never
  acts_all (Act.Look n j at) never = look_all n (λ setup s. look_shard setup s j at) j at
  acts_all (Act.View n v j at) never = look_all n (λ setup s. look_at_view setup (slice_get s.views v) j at) j at
  acts_all (Act.Crash n) never = shard_all n (λ setup s. (set_shard n (crashed s s.log s.area) w, Reply.Crashed))
      (λ s there. set_first n s there (crashed s s.log s.area) (crashed_first s s.log s.area (h n s there).area))
  acts_all (Act.CrashIn n call fate named doing) never = shard_all n
      (λ setup s. (set_shard n (crashed_in s call fate doing (effect setup w.bag s doing)) w, Reply.Crashed))
      (λ s there. set_first n s there (crashed_in s call fate doing (effect (setup_of w.config n) w.bag s doing))
      (crashed_in_first s call fate doing (effect (setup_of w.config n) w.bag s doing) never (h n s there)))
  acts_all (Act.FailIn n call named doing) never = shard_all n (λ setup s. did_with_failure w n s call doing (effect setup w.bag s doing))
      (λ s there. failing_all n s there call doing (effect (setup_of w.config n) w.bag s doing) never)

  happens_all : (e : Event) → is_turnover e.act ≡ false → AreFirst (happens w e).0
  unfolding happens
  happens_all e never = acts_all e.act never

-- ---- whole runs

runs_all : (w : World) (es : List Event) → AreFirst w → AllByRecursion (λ (e : Event). IsFalse (is_turnover e.act)) es → AreFirst (run_from w es)
runs_all w [] h never = h
runs_all w (e ∷ es) h never = runs_all (happens w e).0 es (happens_all w h e never.0) never.1

started : (config : Config) → AreFirst (start config)
unfolding start
started config n s there = subst IsFirst (replicated (suc (length config.splits)) n s there) (record { area = refl; unsure = tt })

pub areas_are_logs : AreasAreLogs
unfolding run
areas_are_logs config es never n s there =
    let h : IsFirst s = runs_all (start config) es (started config) never n s there in
    record { left = may_leave s h; behind = behind_first s h }
