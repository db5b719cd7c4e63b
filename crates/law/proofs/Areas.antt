-- What a crash may leave of a shard, between two events and within a doing: its records, and its area.
use Rattle.std.proofs.Common.{◌≡◌, ◌⊎◌, inl, inr, ℕ, Bool, true, false, cond, ◌&&◌, List, [], ◌∷◌, ◌++◌, Option, Some, None, refl, sym, ap, subst}
use Rattle.std.proofs.Common.{option_to_list}
use Rattle.std.proofs.lemmas.List.{append-nil}
use Rattle.units.specs.declared.fault.Fault.TheVariants.{Stopped, TimeSpent}
use Rattle.units.specs.declared.setup.Setup.{Setup}
use Rattle.disk.specs.declared.plan.Fate.{Fate}
use Rattle.gatelog.specs.Gates.{opens_gate}
use Rattle.message.specs.declared.message.Envelope.{Envelope}
use Rattle.protocol.specs.Rows.{Memory}
use Rattle.protocol.specs.Step.{Stepped, Refuses, Does}
use Rattle.record.specs.declared.record.Record.{Record}
use Rattle.world.specs.Areas.{IsBeside, MayHaveDone, MayLeaveArea}
use Rattle.world.specs.World.{is_left_turn}
use Rattle.world.specs.World.{World, ShardNow, State, Runs, IsStopped, IsDown, Area, Unsure, Nothing, Shown, Hidden, TurnShown, TurnHidden, shown_records}
use Rattle.world.specs.World.{area_behind, area_left_in, effect, gate_of, has_place, left_area, left_area_of, left_log, left_of, new_area, read_area, read_log}
use Rattle.world.specs.World.{setup_of, shown_area, step_of_turnover, turns, wanted, with_records}
use Rattle.world.specs.declared.event.Doing.{Doing}
use Rattle.world.proofs.Rooms.{done_wanted}

-- what a crash may leave of a shard, by these records and this area: between two events, or within a doing
abbrev pub IsLeft : World → ℕ → ShardNow → List Record → Area → Type 0
IsLeft w n s log area = MayLeaveArea s log area ⊎ ((doing : Doing) × MayHaveDone w s n doing log area)

pub no_more : (area : Area) → with_records area [] ≡ area
no_more area = ap (λ rs. record { begins = area.begins; slot = area.slot; records = rs }) (append-nil area.records)

-- ---- between two events

module _ (s : ShardNow) where
  beside : (u : Unsure) (log : List Record) (area : Area) → s.unsure ≡ u → IsBeside s u log area → MayLeaveArea s log area
  beside u log area is h = inr (subst (λ v. IsBeside s v log area) (sym is) h)

  -- a read of the disk gives such records and area
  pub read_may_leave : MayLeaveArea s (read_log s) (read_area s)
  read_may_leave = by_unsure s.unsure refl
    where
      by_unsure : (u : Unsure) → s.unsure ≡ u → MayLeaveArea s (s.log ++ shown_records u) (shown_area s.area u)
      by_unsure (Shown r) is = beside (Shown r) _ _ is (refl, refl)
      by_unsure (TurnShown other) is = beside (TurnShown other) _ _ is (append-nil s.log, refl)
      by_unsure _ is = inl (append-nil s.log, refl)

  -- so does a crash without a call
  pub left_may_leave : (fate : Fate) → MayLeaveArea s (left_log fate s) (left_area fate s)
  left_may_leave fate = by_unsure s.unsure refl
    where
      by_record : (u : Unsure) (r : Record) → s.unsure ≡ u → IsBeside s u (s.log ++ r ∷ []) (with_records s.area (r ∷ [])) → (b : Bool) →
          MayLeaveArea s (s.log ++ cond b (r ∷ []) []) (with_records s.area (cond b (r ∷ []) []))
      by_record u r is k true = beside u _ _ is k
      by_record u r is k false = inl (append-nil s.log, no_more s.area)

      by_area : (u : Unsure) (other : Area) → s.unsure ≡ u → IsBeside s u (s.log ++ []) other → (b : Bool) → MayLeaveArea s (s.log ++ []) (cond b other s.area)
      by_area u other is k true = beside u _ _ is k
      by_area u other is k false = inl (append-nil s.log, refl)

      by_unsure : (u : Unsure) → s.unsure ≡ u → MayLeaveArea s (s.log ++ left_of fate u) (left_area_of fate s.area u)
      by_unsure Nothing is = inl (append-nil s.log, refl)
      by_unsure (Shown r) is = by_record (Shown r) r is (refl, refl) (opens_gate fate)
      by_unsure (Hidden r) is = by_record (Hidden r) r is (refl, refl) (opens_gate fate)
      by_unsure (TurnShown other) is = by_area (TurnShown other) other is (append-nil s.log, refl) (opens_gate fate)
      by_unsure (TurnHidden other) is = by_area (TurnHidden other) other is (append-nil s.log, refl) (opens_gate fate)

-- ---- within a doing

-- a turnover logs nothing
turn_logs_none : (setup : Setup) (bag : List Envelope) (s : ShardNow) (r : Record) (memory : Memory) (out : List Envelope) →
    wanted setup bag s Doing.Turn ≡ Does (Some r) memory out → ⊥
unfolding wanted
turn_logs_none setup bag s r memory out e = by_state s.state e
  where
    by_place : (m : Memory) (b : Bool) → cond b (Does None m []) (Refuses TimeSpent) ≡ Does (Some r) memory out → ⊥
    by_place m true k = cc
    by_place m false k = cc

    by_state : (st : State) → (elim st as (λ x. Stepped) [ Runs m ↦ step_of_turnover s m | _ ↦ Refuses Stopped ]) ≡ Does (Some r) memory out → ⊥
    by_state (Runs m) k = by_place m (has_place (read_area s).slot (new_area s)) k
    by_state (IsStopped m) k = cc
    by_state IsDown k = cc

-- so what logs is none
pub logs_no_turn : (setup : Setup) (bag : List Envelope) (s : ShardNow) (doing : Doing) (r : Record) (memory : Memory) (out : List Envelope) →
    effect setup bag s doing ≡ Does (Some r) memory out → turns doing ≡ false
unfolding effect
logs_no_turn setup bag s Doing.Turn r memory out e =
    absurd (turn_logs_none setup bag s r memory out (done_wanted (gate_of (read_area s)) (wanted setup bag s Doing.Turn) (Some r) memory out e))
logs_no_turn setup bag s _ r memory out e = refl

module _ (w : World) (n : ℕ) (s : ShardNow) (doing : Doing) where
  -- it is done
  pub done_may : (logged : Option Record) (memory : Memory) (out : List Envelope) → effect (setup_of w.config n) w.bag s doing ≡ Does logged memory out →
      MayHaveDone w s n doing (read_log s ++ option_to_list logged) (area_behind s doing logged)
  done_may logged memory out e = record { logged = logged; memory = memory; out = out; does = e; log_is = refl; area_is = refl }

  pub read_left : IsLeft w n s (read_log s) (read_area s)
  read_left = inl (read_may_leave s)

  -- the area of a crash in a call of what logs nothing
  pub none_left : (call : ℕ) (fate : Fate) (memory : Memory) (out : List Envelope) → effect (setup_of w.config n) w.bag s doing ≡ Does None memory out →
      IsLeft w n s (read_log s) (area_left_in call fate doing s)
  none_left call fate memory out e = by_tests (turns doing) (is_left_turn call fate) refl
    where
      by_tests : (a b : Bool) → turns doing ≡ a → IsLeft w n s (read_log s) (cond (a && b) (new_area s) (read_area s))
      by_tests false b is = read_left
      by_tests true false is = read_left
      by_tests true true is = inr (
        doing,
        record {
          logged = None;
          memory = memory;
          out = out;
          does = e;
          log_is = sym (append-nil (read_log s));
          area_is = ap (λ b. cond b (new_area s) (with_records (read_area s) [])) (sym is);
        },
      )

  -- and of what logs a record
  pub some_left : (r : Record) (memory : Memory) (out : List Envelope) → effect (setup_of w.config n) w.bag s doing ≡ Does (Some r) memory out → (b : Bool) →
      IsLeft w n s (read_log s ++ cond b (r ∷ []) []) (with_records (read_area s) (cond b (r ∷ []) []))
  some_left r memory out e true = inr (
    doing,
    record {
      logged = Some r;
      memory = memory;
      out = out;
      does = e;
      log_is = refl;
      area_is = ap (λ b. cond b (new_area s) (with_records (read_area s) (r ∷ [])))
          (sym (logs_no_turn (setup_of w.config n) w.bag s doing r memory out e));
    },
  )
  some_left r memory out e false =
      subst (λ l. IsLeft w n s l (with_records (read_area s) [])) (sym (append-nil (read_log s)))
      (subst (IsLeft w n s (read_log s)) (sym (no_more (read_area s))) read_left)
