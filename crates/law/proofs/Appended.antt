-- A decision that stands at a shard behind an act stood there before, or the act appended it.
use Rattle.std.proofs.Common.{◌≡◌, ◌⊎◌, inl, inr, ℕ, Bool, true, false, cond, nat_lt, ◌+◌, List, [], ◌∷◌, ◌++◌, Option, Some, None, slice_get, refl, sym, ap}
use Rattle.std.proofs.Common.{subst, ◌∙◌, option_to_list}
use Rattle.std.proofs.lemmas.Bool.{cases_eq}
use Rattle.units.specs.Lists.{replaced}
use Rattle.units.specs.Keys.{Bytes}
use Rattle.units.specs.declared.fault.Fault.TheVariants.{Stopped, TimeSpent}
use Rattle.units.specs.declared.setup.Setup.{Setup}
use Rattle.disk.specs.declared.plan.Fate.{Fate}
use Rattle.gatelog.specs.Gates.{is_left, is_read}
use Rattle.message.specs.declared.message.Envelope.{Envelope}
use Rattle.record.specs.Facts.{Facts, facts_of}
use Rattle.record.specs.declared.record.Committed.{Committed}
use Rattle.record.specs.declared.record.Record.{Record}
use Rattle.protocol.specs.Plan.{time_limit}
use Rattle.protocol.specs.Rows.{Memory, rebuilt}
use Rattle.protocol.specs.Step.{Stepped, Refuses, Does}
use Rattle.session.specs.Sessions.{Moved, Denies, Goes}
use Rattle.world.specs.Areas.{IsBeside}
use Rattle.world.specs.Headline.{IsUnsure}
use Rattle.world.specs.Lawful.{may_act}
use Rattle.world.specs.World.{World, ShardNow, State, Runs, IsStopped, IsDown, Area, Unsure, Nothing, Shown, Hidden, TurnShown, TurnHidden, shown_records}
use Rattle.world.specs.World.{acts, crashed, effect, failed_in, failed_turn, finished, gate_of, is_left_turn, is_read_turn, look_at_view}
use Rattle.world.specs.World.{look_noted, look_shard, moved, new_area, put_out, read_area, read_log, set_shard, setup_of, step_of_opening, wanted}
use Rattle.world.specs.declared.event.Act.{Act}
use Rattle.world.specs.declared.event.Doing.{Doing}
use Rattle.world.specs.declared.event.Reply.{Reply}
use Rattle.world.proofs.Places.{get-replaced_other, get-replaced_same}
use Rattle.world.proofs.Rooms.{done_wanted}
use Rattle.law.specs.Among.{IsAmong}
use Rattle.law.specs.Requests.{IsAppended}
use Rattle.law.proofs.Acts.{acts_go, step_of}
use Rattle.law.proofs.Areas.{IsLeft}
use Rattle.law.proofs.Members.{among_cases}
use Rattle.law.proofs.Picked.{some_same}
use Rattle.law.proofs.Anew.{MayStand}

-- a shard that runs
abbrev IsUp : ShardNow → Type 0
IsUp s = (m : Memory) × (s.state ≡ Runs m)

-- only a shard that runs logs a decision
module _ (setup : Setup) (bag : List Envelope) (s : ShardNow) (c : Committed) (memory : Memory) (out : List Envelope) where
  abbrev Decides : Stepped → Type 0
  Decides st = st ≡ Does (Some (Record.Commit c)) memory out

  up_if : (st : State) → s.state ≡ st → (f : Memory → Stepped) → Decides (elim st as (λ x. Stepped) [ Runs m ↦ f m | _ ↦ Refuses Stopped ]) → IsUp s
  up_if (Runs m) is f e = (m, is)
  up_if (IsStopped m) is f e = cc
  up_if IsDown is f e = cc

  opening_decides_none : Decides (step_of_opening (facts_of (read_log s))) → IsUp s
  unfolding step_of_opening
  opening_decides_none e = by_test (nat_lt (facts_of (read_log s)).epoch time_limit) (facts_of (read_log s)) e
    where
      by_test : (b : Bool) (f : Facts) → Decides (cond b (Does (Some (Record.Opened (f.epoch + 1))) (rebuilt f) []) (Refuses TimeSpent)) → IsUp s
      by_test true f k = cc
      by_test false f k = cc

  up_if_wanted : (doing : Doing) → Decides (wanted setup bag s doing) → IsUp s
  unfolding wanted
  up_if_wanted Doing.Open e = by_state s.state e
    where
      by_state : (st : State) → Decides (elim st as (λ x. Stepped) [ Runs m ↦ Refuses Stopped | _ ↦ step_of_opening (facts_of (read_log s)) ]) → IsUp s
      by_state (Runs m) k = cc
      by_state (IsStopped m) k = opening_decides_none k
      by_state IsDown k = opening_decides_none k
  up_if_wanted Doing.Turn e = up_if s.state refl _ e
  up_if_wanted (Doing.Take i now) e = up_if s.state refl _ e
  up_if_wanted (Doing.Resume now) e = up_if s.state refl _ e
  up_if_wanted (Doing.Settle t now) e = up_if s.state refl _ e
  up_if_wanted (Doing.Advance at now) e = up_if s.state refl _ e
  up_if_wanted (Doing.Nudge t now) e = up_if s.state refl _ e
  up_if_wanted (Doing.Forget at now) e = up_if s.state refl _ e
  up_if_wanted (Doing.Retire below now) e = up_if s.state refl _ e

  up_if_effect : (doing : Doing) → Decides (effect setup bag s doing) → IsUp s
  unfolding effect
  up_if_effect doing e = up_if_wanted doing (done_wanted (gate_of (read_area s)) (wanted setup bag s doing) (Some (Record.Commit c)) memory out e)

module _ (w : World) where
  -- each decision that stands in another world stood here, or came
  abbrev Explained : World → Type 0
  Explained v = (n : ℕ) (c : Committed) → MayStand v n (Record.Commit c) → MayStand w n (Record.Commit c) ⊎ IsAppended w v n (Record.Commit c)

  same_shards : (v : World) → v.shards ≡ w.shards → Explained v
  same_shards v same n c h = inl (record { shard = h.shard; there = ap (λ ss. slice_get ss n) (sym same) ∙ h.there; is = h.is })

  -- ---- one shard

  module _ (n : ℕ) (s : ShardNow) (there : slice_get w.shards n ≡ Some s) where
    abbrev Has : ShardNow → Record → Type 0
    Has z r = IsAmong z.log r ⊎ IsUnsure z.unsure r

    -- what stands in another shard stood in this one, or this one ran and it was put behind its log
    abbrev Follows : ShardNow → Type 0
    Follows new = (c : Committed) → Has new (Record.Commit c) →
        Has s (Record.Commit c) ⊎ (IsUp s × ((new.log ≡ read_log s ++ Record.Commit c ∷ []) ⊎ ((new.log ≡ read_log s) × IsUnsure new.unsure (Record.Commit c))))

    placed : (new : ShardNow) (v : World) → v.shards ≡ replaced w.shards n new → Follows new → Explained v
    placed new v is follows m c h = elim (cases_eq n m) [
      | inl same ↦ subst (λ k. MayStand w k (Record.Commit c) ⊎ IsAppended w v k (Record.Commit c)) same
          (here (subst (λ k. slice_get v.shards k ≡ Some h.shard) (sym same) h.there))
      | inr other ↦ inl (record {
        shard = h.shard;
        there = sym (get-replaced_other w.shards n m new other) ∙ ap (λ ss. slice_get ss m) (sym is) ∙ h.there;
        is = h.is;
      })
    ]
      where
        new_there : slice_get v.shards n ≡ Some new
        new_there = ap (λ ss. slice_get ss n) is ∙ get-replaced_same w.shards n s new there

        here : slice_get v.shards n ≡ Some h.shard → MayStand w n (Record.Commit c) ⊎ IsAppended w v n (Record.Commit c)
        here e = elim (follows c (subst (λ z. Has z (Record.Commit c)) (some_same h.shard new (sym e ∙ new_there)) h.is)) [
          | inl old ↦ inl (record { shard = s; there = there; is = old })
          | inr came ↦ inr (record {
            before = s;
            there = there;
            memory = came.0.0;
            runs = came.0.1;
            after = new;
            there_now = new_there;
            appended = came.1;
          })
        ]

    read_has : (r : Record) → IsAmong (read_log s) r → Has s r
    read_has r k = elim (among_cases s.log (shown_records s.unsure) r k) [ inl old ↦ inl old | inr shown ↦ inr (by_unsure s.unsure shown) ]
      where
        by_unsure : (u : Unsure) → IsAmong (shown_records u) r → IsUnsure u r
        by_unsure (Shown q) (inl same) = same
        by_unsure (Shown q) (inr none) = absurd none
        by_unsure _ none = absurd none

    -- a log that is read, with what a doing logs
    with_logged : (doing : Doing) (logged : Option Record) (memory : Memory) (out : List Envelope) → effect (setup_of w.config n) w.bag s doing
        ≡ Does logged memory out → (log : List Record) → log ≡ read_log s ++ option_to_list logged → (c : Committed) → IsAmong log (Record.Commit c) →
        Has s (Record.Commit c) ⊎ (IsUp s × (log ≡ read_log s ++ Record.Commit c ∷ []))
    with_logged doing logged memory out e log is c k = elim (among_cases (read_log s) (option_to_list logged) (Record.Commit c)
        (subst (λ l. IsAmong l (Record.Commit c)) is k)) [ inl old ↦ inl (read_has (Record.Commit c) old) | inr new ↦ by_record logged e is new ]
      where
        by_record : (o : Option Record) → effect (setup_of w.config n) w.bag s doing ≡ Does o memory out → log ≡ read_log s ++ option_to_list o →
            IsAmong (option_to_list o) (Record.Commit c) → Has s (Record.Commit c) ⊎ (IsUp s × (log ≡ read_log s ++ Record.Commit c ∷ []))
        by_record None f same none = absurd none
        by_record (Some q) f same (inl q_is) = inr (
          up_if_effect (setup_of w.config n) w.bag s c memory out doing (f ∙ ap (λ r. Does (Some r) memory out) q_is),
          same ∙ ap (λ r. read_log s ++ r ∷ []) q_is,
        )
        by_record (Some q) f same (inr none) = absurd none

    crash_follows : (log : List Record) (area : Area) → IsLeft w n s log area → Follows (crashed s log area)
    crash_follows log area left c (inr none) = absurd none
    crash_follows log area (inl (inl same)) c (inl k) = inl (inl (subst (λ l. IsAmong l (Record.Commit c)) same.0 k))
    crash_follows log area (inr done) c (inl k) = elim (with_logged done.0 done.1.logged done.1.memory done.1.out done.1.does log done.1.log_is c k) [
      | inl old ↦ inl old
      | inr new ↦ inr (new.0, inl new.1)
    ]
    crash_follows log area (inl (inr beside)) c (inl k) = by_unsure s.unsure refl beside
      where
        unsure_too : (q : Record) → log ≡ s.log ++ q ∷ [] → (u : Unsure) → s.unsure ≡ u → ((r : Record) → q ≡ r → IsUnsure u r) → Has s (Record.Commit c)
        unsure_too q is u unsure tells = elim (among_cases s.log (q ∷ []) (Record.Commit c) (subst (λ l. IsAmong l (Record.Commit c)) is k)) [
          | inl old ↦ inl old
          | inr new ↦ elim new [
            | inl same ↦ inr (subst (λ z. IsUnsure z (Record.Commit c)) (sym unsure) (tells (Record.Commit c) same))
            | inr none ↦ absurd none
          ]
        ]

        by_unsure : (u : Unsure) → s.unsure ≡ u → IsBeside s u log area → Has s (Record.Commit c)
            ⊎ (IsUp s × ((log ≡ read_log s ++ Record.Commit c ∷ []) ⊎ ((log ≡ read_log s) × ⊥)))
        by_unsure Nothing is none = absurd none
        by_unsure (Shown q) is p = inl (unsure_too q p.0 (Shown q) is (λ r e. e))
        by_unsure (Hidden q) is p = inl (unsure_too q p.0 (Hidden q) is (λ r e. e))
        by_unsure (TurnShown other) is p = inl (inl (subst (λ l. IsAmong l (Record.Commit c)) p.0 k))
        by_unsure (TurnHidden other) is p = inl (inl (subst (λ l. IsAmong l (Record.Commit c)) p.0 k))

    done_follows : (doing : Doing) (logged : Option Record) (memory : Memory) (out : List Envelope) → effect (setup_of w.config n) w.bag s doing
        ≡ Does logged memory out → Follows (finished s doing logged memory)
    unfolding finished
    done_follows doing logged memory out e c (inr none) = absurd none
    done_follows doing logged memory out e c (inl k) = elim (with_logged doing logged memory out e _ refl c k) [
      | inl old ↦ inl old
      | inr new ↦ inr (new.0, inl new.1)
    ]

    fail_follows : (call : ℕ) (doing : Doing) (r : Record) (memory : Memory) (out : List Envelope) → effect (setup_of w.config n) w.bag s doing
        ≡ Does (Some r) memory out → Follows (failed_in s call r)
    unfolding failed_in
    fail_follows call doing r memory out e c (inl k) = inl (read_has (Record.Commit c) k)
    fail_follows call doing r memory out e c (inr unsure) = inr (
      up_if_effect (setup_of w.config n) w.bag s c memory out doing
          (e ∙ ap (λ q. Does (Some q) memory out) (by_tests (is_read call) (is_left call Fate.New) unsure)),
      inr (refl, unsure),
    )
      where
        by_tests : (a b : Bool) → IsUnsure (cond a (Shown r) (cond b (Hidden r) Nothing)) (Record.Commit c) → r ≡ Record.Commit c
        by_tests true b j = j
        by_tests false true j = j
        by_tests false false j = absurd j

    turn_fail_follows : (call : ℕ) → Follows (failed_turn s call)
    unfolding failed_turn
    turn_fail_follows call c (inl k) = inl (read_has (Record.Commit c) k)
    turn_fail_follows call c (inr unsure) = absurd (by_tests (is_read_turn call) (is_left_turn call Fate.New) unsure)
      where
        by_tests : (a b : Bool) → IsUnsure (cond a (TurnShown (new_area s)) (cond b (TurnHidden (new_area s)) Nothing)) (Record.Commit c) → ⊥
        by_tests true b j = j
        by_tests false true j = j
        by_tests false false j = j

  -- ---- each act

  moved_explained : (m : Moved) → Explained (moved w m).0
  unfolding put_out
  moved_explained (Denies f) = same_shards w refl
  moved_explained (Goes c out) = same_shards _ refl

  noted_explained : (k : Bytes) (at : ℕ) (r : Reply) → Explained (look_noted w k at r).0
  noted_explained k at (Reply.Shows x) = same_shards _ refl
  noted_explained k at _ = same_shards w refl

  done_explained : (n : ℕ) (s : ShardNow) → slice_get w.shards n ≡ Some s → (doing : Doing) (logged : Option Record) (memory : Memory)
      (out : List Envelope) → effect (setup_of w.config n) w.bag s doing ≡ Does logged memory out →
      Explained (put_out out (set_shard n (finished s doing logged memory) w))
  unfolding put_out
  done_explained n s there doing logged memory out e =
      placed n s there (finished s doing logged memory) _ refl (done_follows n s there doing logged memory out e)

  pub acts_explained : (time : ℕ) (a : Act) → may_act w time a ≡ true → Explained (acts w a).0
  acts_explained =
      acts_go w Explained (same_shards w refl) (λ t new. same_shards _ refl) (λ c s there. moved_explained (step_of w.config.splits s c))
      (λ c to a there named told. same_shards _ refl)
      (λ n s there log area left. placed n s there (crashed s log area) _ refl (crash_follows n s there log area left))
      done_explained
      (λ n s there call doing r memory out e. placed n s there (failed_in s call r) _ refl (fail_follows n s there call doing r memory out e))
      (λ n s there call doing memory out turning e. placed n s there (failed_turn s call) _ refl (turn_fail_follows n s there call))
      (λ n s there k at. noted_explained k at (look_shard (setup_of w.config n) s k at))
      (λ n s there i k at. noted_explained k at (look_at_view (setup_of w.config n) (slice_get s.views i) k at))
