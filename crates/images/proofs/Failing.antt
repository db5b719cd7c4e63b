-- However a device fails in a call, some event of the run tells it.
use Rattle.std.proofs.Common.{◌≡◌, ◌⊎◌, inl, inr, ℕ, ◌≤◌, true, false, cond, ◌&&◌, nat_eq, nat_le, nat_lt, IsTrue, List, [], ◌∷◌, ◌++◌, length}
use Rattle.std.proofs.Common.{Option, Some, None, slice_get, Ok, Err, refl, sym, ap, ◌∙◌, subst}
use Rattle.std.proofs.lemmas.Bool.{and_from, and_parts}
use Rattle.std.proofs.lemmas.Option.{slice_get_within}
use Rattle.units.specs.declared.fault.Fault.TheVariants.{Device}
use Rattle.units.specs.declared.setup.Setup.{Setup}
use Rattle.truetime.specs.Interval.{Interval}
use Rattle.disk.specs.declared.plan.FailurePlan.{FailurePlan}
use Rattle.disk.specs.File.{File, surface}
use Rattle.disk.specs.Image.{MayLeave}
use Rattle.disk.specs.Moments.{LeavesOnly}
use Rattle.disk.proofs.Crashes.{seen_may}
use Rattle.message.specs.declared.message.Envelope.{Envelope}
use Rattle.message.specs.declared.message.Input.{Input}
use Rattle.protocol.specs.Rows.{Memory, rebuilt}
use Rattle.protocol.specs.Step.{Stepped, Does}
use Rattle.record.specs.Accepted.{followed}
use Rattle.record.specs.Facts.{facts_of}
use Rattle.record.specs.declared.record.Record.{Record}
use Rattle.lives.specs.Logs.{records_in}
use Rattle.lives.specs.On.{record_of, step_of}
use Rattle.lives.specs.Opened.{HasRoom}
use Rattle.world.specs.Lawful.{is_up, lawful, may_act, may_do, may_happen}
use Rattle.world.specs.Steady.{HasAreas, IsSteady}
use Rattle.world.specs.World.{ShardNow, State, Runs, IsStopped, IsDown, Nothing, effect, failed_in, failed_turn, input_of, new_area, read_area}
use Rattle.world.specs.World.{read_log, run, setup_of, turns}
use Rattle.world.specs.declared.event.Act.{Act}
use Rattle.world.specs.declared.event.Config.{Config}
use Rattle.world.specs.declared.event.Doing.{Doing}
use Rattle.world.specs.declared.event.Event.{Event}
use Rattle.world.proofs.EveryRun.{is_steady}
use Rattle.world.proofs.Rooms.{done_wanted}
use Rattle.world.proofs.Untouched.{run_settings}
use Rattle.lives.specs.Carries.{turns_in}
use Rattle.lives.proofs.Living.{asks_the_resting, not_up_opens, turns_as}
use Rattle.law.proofs.HasAreas.{always_has_areas}
use Rattle.lives.specs.Held.{HoldsArea}
use Rattle.images.specs.Images.{Calls, FailsOr, FailuresAreTold, HasFailed, IsToldFailure, LeavesNow, Life, Opens, OpensTo, Takes, TakesWhat, TurnsOver}
use Rattle.images.specs.Images.{AnAppend, ATurnover, FailsEarly, StarvesIn, NoCall, Up, Down, disk_of, events_of, failing}
use Rattle.images.proofs.Called.{IsKnown, fails_logging, left_now, not_opened_now, opening_now, opens, stopped_fails_not, stopped_turns_not, turn_fails_doing}
use Rattle.images.proofs.Called.{turned_now}
use Rattle.images.proofs.Held.{HoldsLog, HoldsOr, LivesAs, LivesIn, sure_only}
use Rattle.images.proofs.Placed.{IsInput, given, input_whole, no_input, opening_is, rests_holds, some_shard}
use Rattle.images.proofs.Told.{below, last_of, may_be_done, same_number}
use Rattle.images.proofs.Turned.{HoldRun, holds, same_disk}

module _ {D : Type 0} (keeps obeys : Type 0) (file : D → File) (clock : D → ℕ) (since : D → ℕ → List ℕ → Type 0) (failures : D → ℕ)
    (plan : D → FailurePlan)
    (counts : (disk : D) (moment : ℕ) (image : List ℕ) → moment ≤ clock disk → MayLeave (surface (file disk)) image → since disk moment image)
    (kept : keeps) (config : Config) (es : List Event) (fair : lawful config es ≡ true) (lives : ℕ → Life D)
    (h : HoldRun keeps obeys file clock since failures plan counts kept config es lives) (n : ℕ) (s : ShardNow)
    (there : slice_get (run config es).shards n ≡ Some s) where
  abbrev Told : Life D → Type 0
  Told after = IsToldFailure keeps obeys file clock since failures plan config es lives n after

  abbrev setup : Setup
  setup = setup_of (run config es).config n

  abbrev bag : List Envelope
  bag = (run config es).bag

  abbrev What : Doing → Stepped
  What doing = effect setup bag s doing

  steady : IsSteady (run config es)
  steady = is_steady config es fair

  areas : HasAreas (run config es)
  areas = always_has_areas config es fair

  known : IsKnown setup s
  known = record { takes = steady.takes n s there; takes_area = areas.takes n s there; alike = areas.alike n s there }

  follows : (doing : Doing) (r : Record) (memory : Memory) (out : List Envelope) → What doing ≡ Does (Some r) memory out →
      IsTrue (followed n (read_log s ++ r ∷ []))
  follows doing r memory out e = steady.logged n s doing r memory out there e

  -- ---- what a crash leaves behind a call that failed

  -- of a step that logs a record
  takes_leave : (doing : Doing) (p : Interval × Input) (old new : Life D) → IsInput doing → input_of bag doing ≡ Some p → (r : Record) (memory : Memory)
      (out : List Envelope) → What doing ≡ Does (Some r) memory out → Takes keeps obeys file clock since failures plan p.0 p.1 old new (Err Device) →
      LivesAs file setup s old → (image : List ℕ) → LeavesNow file new image → HoldsOr (read_area s) (Some r) image
  takes_leave doing p (Up old) (Up new) i is r memory out does k l image may = by_state s.state refl l
    where
      by_state : (st : State) → s.state ≡ st → LivesIn file setup s (Up old) st → HoldsOr (read_area s) (Some r) image
      by_state (Runs m) runs l =
          let step_is : step_of old p.0 p.1 ≡ Does (Some r) memory out =
          done_wanted old.gate (step_of old p.0 p.1) (Some r) memory out
          (sym (input_whole keeps obeys file clock since failures plan counts kept (run config es).config bag n s known (areas.lasting n s there) follows
          doing p m old i.has is runs l) ∙ does) in
          subst (λ st. HoldsOr (read_area s) (record_of st) image) step_is
          (left_now keeps obeys file clock since failures plan counts kept setup s m old new l (step_of old p.0 p.1) (Err Device) k image may)
      by_state (IsStopped m) stops l =
          absurd (no_input setup bag s doing (Some r) memory out does (asks_the_resting setup bag s doing i.goes (ap is_up stops)))
      by_state IsDown down l = absurd l
  takes_leave doing p (Up old) (Down back) i is r memory out does k l image may = absurd k
  takes_leave doing p (Down disk) (Up new) i is r memory out does k l image may = absurd k
  takes_leave doing p (Down disk) (Down back) i is r memory out does k l image may = absurd k

  -- of an opening of a disk on which nothing was unsure
  opens_leave : (old new : Life D) → s.unsure ≡ Nothing → (r : Record) (memory : Memory) (out : List Envelope) → What Doing.Open ≡ Does (Some r) memory out →
      Opens keeps obeys file clock since failures plan setup old new (Err Device) → LivesAs file setup s old → (image : List ℕ) → LeavesNow file new image →
      HoldsOr (read_area s) (Some r) image
  opens_leave old new sure r memory out does k l image may = by_new new k.opened may
    where
      rests : (is_up s.state ≡ false) × HoldsLog file s k.disk
      rests = rests_holds keeps obeys file clock since failures plan counts kept setup s old k.disk k.rests s.state l

      by_new : (x : Life D) → OpensTo keeps obeys file clock since failures plan k.disk setup x (Err Device) → LeavesNow file x image →
          HoldsOr (read_area s) (Some r) image
      by_new (Up core) o left = absurd o
      by_new (Down back) o left = subst (λ q. HoldsOr (read_area s) q image)
          (opening_is s known.alike (Some r) memory out (sym (not_up_opens setup bag s rests.0).0 ∙ does))
          (not_opened_now keeps obeys file clock since failures plan counts kept setup s k.disk rests.1 Device back o sure image left)

  -- of a turnover
  turn_leaves : (old new : Life D) (memory : Memory) (out : List Envelope) → What Doing.Turn ≡ Does None memory out →
      TurnsOver keeps obeys file clock since failures plan old new (Err Device) → LivesAs file setup s old → (image : List ℕ) → LeavesNow file new image →
      HoldsArea (read_area s) image ⊎ HoldsArea (new_area s) image
  turn_leaves (Up old) (Up new) memory out does k l image may = by_state s.state refl l
    where
      by_state : (st : State) → s.state ≡ st → LivesIn file setup s (Up old) st → HoldsArea (read_area s) image ⊎ HoldsArea (new_area s) image
      by_state (Runs m) runs l =
          turned_now keeps obeys file clock since failures plan counts kept setup s m old new l (areas.lasting n s there) (Err Device) k.0 image may
      by_state (IsStopped m) stops l =
          absurd (no_input setup bag s Doing.Turn None memory out does (asks_the_resting setup bag s Doing.Turn refl (ap is_up stops)))
      by_state IsDown down l = absurd l
  turn_leaves (Up old) (Down back) memory out does k l image may = absurd k
  turn_leaves (Down disk) (Up new) memory out does k l image may = absurd k
  turn_leaves (Down disk) (Down back) memory out does k l image may = absurd k

  -- ---- the event

  module _ (after : Life D) (time : ℕ) (later : nat_le (run config es).time time ≡ true) where
    -- it fails in the call of this number
    by_call : (call : ℕ) (doing : Doing) → may_do (run config es) time n doing ≡ true →
        FailsOr keeps obeys file clock since failures plan setup bag s doing call (failing call doing (What doing)) (lives n) after → Told after
    unfolding may_act
    by_call call doing may fails = record {
      event = record { time = time; act = Act.FailIn n call n doing };
      may = and_from (nat_le (run config es).time time) (nat_lt n (length (run config es).shards) && nat_eq n n && may_do (run config es) time n doing) later
          (and_from (nat_lt n (length (run config es).shards) && nat_eq n n) (may_do (run config es) time n doing)
          (and_from (nat_lt n (length (run config es).shards)) (nat_eq n n)
          (below n (length (run config es).shards) (slice_get_within (run config es).shards n s there)) (same_number n)) may);
      tells = λ new elsewhere is. record {
        elsewhere = elsewhere;
        here = λ t e. subst
            (λ (x : ShardNow). FailsOr keeps obeys file clock since failures plan setup bag x doing call (failing call doing (effect setup bag x doing))
            (lives n) (new n))
            (some_shard s t (sym there ∙ e))
            (subst (λ l. FailsOr keeps obeys file clock since failures plan setup bag s doing call (failing call doing (What doing)) (lives n) l)
            (sym is) fails);
      };
    }

    -- in an append: the third where a read does not give the record, and the fourth where it does
    append_told : (doing : Doing) (r : Record) (memory : Memory) (out : List Envelope) → may_do (run config es) time n doing ≡ true →
        s.unsure ≡ Nothing → What doing ≡ Does (Some r) memory out →
        Calls keeps obeys file clock since failures plan setup bag doing (lives n) after (Err Device) →
        ((image : List ℕ) → LeavesNow file after image → HoldsOr (read_area s) (Some r) image) → Told after
    unfolding failed_in
    append_told doing r memory out may sure does called images = by_seen (images (surface (file (disk_of after))).seen (seen_may (file (disk_of after))))
      where
        fails : (call : ℕ) → nat_lt call 4 ≡ true → nat_le 2 call ≡ true →
            records_in (surface (file (disk_of after))).seen ≡ Ok (read_area (failed_in s call r)).records → Told after
        fails call lt le read = by_call call doing may
            (subst (λ f. FailsOr keeps obeys file clock since failures plan setup bag s doing call f (lives n) after)
            (sym (ap (failing call doing) does ∙ ap (λ b. cond b (AnAppend r) NoCall) lt))
            (record { fault = Device; called = called; failed = inl refl; read = read; told = inl le; behind = inl sure }))

        by_seen : HoldsOr (read_area s) (Some r) (surface (file (disk_of after))).seen → Told after
        by_seen (inl old) = fails 2 refl refl old.0
        by_seen (inr with) = fails 3 refl refl with.0

    -- in a turnover: the fourth, or the fifth
    turn_told : (memory : Memory) (out : List Envelope) → What Doing.Turn ≡ Does None memory out →
        TurnsOver keeps obeys file clock since failures plan (lives n) after (Err Device) → Told after
    unfolding failed_turn
    turn_told memory out does called = by_seen (turn_leaves (lives n) after memory out does called (h n s there)
        (surface (file (disk_of after))).seen (seen_may (file (disk_of after))))
      where
        fails : (call : ℕ) → nat_lt call 5 ≡ true → nat_le 3 call ≡ true →
            HoldsArea (read_area (failed_turn s call)) (surface (file (disk_of after))).seen → Told after
        fails call lt le read = by_call call Doing.Turn refl
            (subst (λ f. FailsOr keeps obeys file clock since failures plan setup bag s Doing.Turn call f (lives n) after)
            (sym (ap (failing call Doing.Turn) does ∙ ap (λ b. cond (true && b) ATurnover NoCall) lt))
            (record { called = called; read = read; told = inl le }))

        by_seen : HoldsArea (read_area s) (surface (file (disk_of after))).seen ⊎ HoldsArea (new_area s) (surface (file (disk_of after))).seen → Told after
        by_seen (inl old) = fails 3 refl refl old
        by_seen (inr other) = fails 4 refl refl other

    module _ (sure : s.unsure ≡ Nothing) where
      -- in a step, which logs a record
      input_told : (doing : Doing) → IsInput doing → may_do (run config es) time n doing ≡ true →
          TakesWhat keeps obeys file clock since failures plan (input_of bag doing) (lives n) after (Err Device) →
          Calls keeps obeys file clock since failures plan setup bag doing (lives n) after (Err Device) → Told after
      input_told doing i may k called = by_input (input_of bag doing) refl k
        where
          Logs : Type 0
          Logs = (r : Record) × ((memory : Memory) × ((out : List Envelope) × (What doing ≡ Does (Some r) memory out)))

          logs : (p : Interval × Input) → input_of bag doing ≡ Some p → (old new : Life D) →
              Takes keeps obeys file clock since failures plan p.0 p.1 old new (Err Device) → LivesAs file setup s old → Logs
          logs p is (Up old) (Up new) takes l = by_state s.state refl l
            where
              by_state : (st : State) → s.state ≡ st → LivesIn file setup s (Up old) st → Logs
              by_state (Runs m) runs r = fails_logging keeps obeys file clock since failures plan counts kept setup s m old new r (step_of old p.0 p.1) takes
                  (What doing) (input_whole keeps obeys file clock since failures plan counts kept (run config es).config bag n s known
                  (areas.lasting n s there) follows doing p m old i.has is runs r)
              by_state (IsStopped m) stops r =
                  absurd (stopped_fails_not keeps obeys file clock since failures plan counts kept setup s old new r.0 r.1 (step_of old p.0 p.1) takes)
              by_state IsDown down r = absurd r
          logs p is (Up old) (Down back) takes l = absurd takes
          logs p is (Down disk) (Up new) takes l = absurd takes
          logs p is (Down disk) (Down back) takes l = absurd takes

          by_input : (o : Option (Interval × Input)) → input_of bag doing ≡ o →
              TakesWhat keeps obeys file clock since failures plan o (lives n) after (Err Device) → Told after
          by_input None is takes = absurd takes
          by_input (Some p) is takes =
              let it : Logs = logs p is (lives n) after takes (h n s there) in
              append_told doing it.0 it.1.0 it.1.1.0 may sure it.1.1.1 called
              (λ image left. takes_leave doing p (lives n) after i is it.0 it.1.0 it.1.1.0 it.1.1.1 takes (h n s there) image left)

      -- in a turnover
      turnover_told : (old new : Life D) → TurnsOver keeps obeys file clock since failures plan old new (Err Device) → LivesAs file setup s old →
          (memory : Memory) × ((out : List Envelope) × (What Doing.Turn ≡ Does None memory out))
      turnover_told (Up old) (Up new) k l = by_state s.state refl l
        where
          by_state : (st : State) → s.state ≡ st → LivesIn file setup s (Up old) st →
              (memory : Memory) × ((out : List Envelope) × (What Doing.Turn ≡ Does None memory out))
          by_state (Runs m) runs r = (
            m,
            (
              [],
              turns_as setup bag s ∙ ap (turns_in s) runs
                  ∙ turn_fails_doing keeps obeys file clock since failures plan counts kept setup s m old new r (areas.lasting n s there) k.0,
            ),
          )
          by_state (IsStopped m) stops r =
              absurd (stopped_turns_not keeps obeys file clock since failures plan counts kept setup s old new r.0 r.1 k.0)
          by_state IsDown down r = absurd r
      turnover_told (Up old) (Down back) k l = absurd k
      turnover_told (Down disk) (Up new) k l = absurd k
      turnover_told (Down disk) (Down back) k l = absurd k

      -- in an opening: in its append, or before it
      opening_told : may_do (run config es) time n Doing.Open ≡ true → Opens keeps obeys file clock since failures plan setup (lives n) after (Err Device) →
          Told after ⊎ FailsEarly keeps obeys file clock since failures plan setup (lives n) after
      opening_told may k = by_new after refl k.opened
        where
          rests : (is_up s.state ≡ false) × HoldsLog file s k.disk
          rests = rests_holds keeps obeys file clock since failures plan counts kept setup s (lives n) k.disk k.rests s.state (h n s there)

          same : disk_of (lives n) ≡ k.disk
          same = same_disk keeps obeys file clock since failures plan counts kept (run config es) steady areas n s there (lives n) k.disk k.rests

          by_new : (x : Life D) → after ≡ x → OpensTo keeps obeys file clock since failures plan k.disk setup x (Err Device) →
              Told after ⊎ FailsEarly keeps obeys file clock since failures plan setup (lives n) after
          by_new (Up core) is o = absurd o
          by_new (Down back) is o = by_tried o.tried
            where
              by_tried : ((Device ≡ Device) × (keeps → HasRoom setup (surface (file k.disk))))
                  ⊎ (keeps → LeavesOnly clock since k.disk back (MayLeave (surface (file k.disk)))) →
                  Told after ⊎ FailsEarly keeps obeys file clock since failures plan setup (lives n) after
              by_tried (inl tried) =
                  let room = tried.1 kept in
                  let does : What Doing.Open ≡ Does (Some (opening_now s)) (rebuilt (facts_of (read_log s))) [] =
                  (not_up_opens setup bag s rests.0).0
                  ∙ opens keeps obeys file clock since failures plan counts kept setup s k.disk rests.1 room.0 room.1.read room.1.epoch room.1.place known in
                  inl (append_told Doing.Open (opening_now s) (rebuilt (facts_of (read_log s))) [] may sure does k
                  (λ image left. opens_leave (lives n) after sure (opening_now s) (rebuilt (facts_of (read_log s))) [] does k (h n s there) image left))
              by_tried (inr it) =
                  let only : (image : List ℕ) → MayLeave (surface (file back)) image → MayLeave (surface (file k.disk)) image =
                  λ image may. (it kept).each image (counts back (clock k.disk) image (it kept).later may) in
                  let seen : HoldsArea (read_area s) (surface (file back)).seen = sure_only s (surface (file back)).seen sure
                  (rests.1.left (surface (file back)).seen (only (surface (file back)).seen (seen_may (file back)))) in
                  let was : HoldsArea (read_area s) (surface (file (disk_of (lives n)))).seen =
                  subst (λ d. HoldsArea (read_area s) (surface (file d)).seen) (sym same) rests.1.read in
                  inr (subst (λ x. Opens keeps obeys file clock since failures plan setup (lives n) x (Err Device) →
                  FailsEarly keeps obeys file clock since failures plan setup (lives n) x) (sym is) (λ called. record {
                    fault = Device;
                    called = called;
                    failed = inr refl;
                    read = seen.0 ∙ sym was.0;
                    begins = seen.1 ∙ sym was.1;
                    within = λ image may. subst (λ d. MayLeave (surface (file d)) image) (sym same) (only image may);
                  }) k)

      -- in any call
      doing_told : (doing : Doing) → may_do (run config es) time n doing ≡ true →
          Calls keeps obeys file clock since failures plan setup bag doing (lives n) after (Err Device) →
          Told after ⊎ StarvesIn keeps obeys file clock since failures plan setup bag doing (lives n) after
      doing_told Doing.Open may k = opening_told may k
      doing_told Doing.Turn may k = let it = turnover_told (lives n) after k (h n s there) in inl (turn_told it.0 it.1.0 it.1.1 k)
      doing_told (Doing.Take m now) may k = inl (input_told (Doing.Take m now) (given (Doing.Take m now) refl) may k k)
      doing_told (Doing.Resume now) may k = inl (input_told (Doing.Resume now) (given (Doing.Resume now) refl) may k k)
      doing_told (Doing.Settle t now) may k = inl (input_told (Doing.Settle t now) (given (Doing.Settle t now) refl) may k k)
      doing_told (Doing.Advance at now) may k = inl (input_told (Doing.Advance at now) (given (Doing.Advance at now) refl) may k k)
      doing_told (Doing.Forget at now) may k = inl (input_told (Doing.Forget at now) (given (Doing.Forget at now) refl) may k k)
      doing_told (Doing.Retire below now) may k = inl (input_told (Doing.Retire below now) (given (Doing.Retire below now) refl) may k k)
      doing_told (Doing.Nudge t now) may k = inl (input_told (Doing.Nudge t now) (given (Doing.Nudge t now) refl) may k k)

module _ {D : Type 0} (keeps obeys : Type 0) (file : D → File) (clock : D → ℕ) (since : D → ℕ → List ℕ → Type 0) (failures : D → ℕ)
    (plan : D → FailurePlan)
    (counts : (disk : D) (moment : ℕ) (image : List ℕ) → moment ≤ clock disk → MayLeave (surface (file disk)) image → since disk moment image)
    (kept : keeps) where
  told_in : (config : Config) (es : List Event) → lawful config es ≡ true → (lives : ℕ → Life D) →
      HoldRun keeps obeys file clock since failures plan counts kept config es lives → (n : ℕ) (after : Life D) →
      (f : HasFailed keeps obeys file clock since failures plan config es lives n after) →
      IsToldFailure keeps obeys file clock since failures plan config es lives n after
      ⊎ StarvesIn keeps obeys file clock since failures plan (setup_of config n) (run config es).bag f.under_way.doing (lives n) after
  told_in config es fair lives h n after f =
      let u = f.under_way in
      let config_is : (run config es).config ≡ config = run_settings config es in
      let may : may_happen (run config es) u.event ≡ true = last_of config es u.event u.may in
      let parts = and_parts (nat_le (run config es).time u.event.time) (may_act (run config es) u.event.time u.event.act) may in
      subst (λ c. IsToldFailure keeps obeys file clock since failures plan config es lives n after
      ⊎ StarvesIn keeps obeys file clock since failures plan (setup_of c n) (run config es).bag u.doing (lives n) after) config_is
      (doing_told keeps obeys file clock since failures plan counts kept config es fair lives h n u.shard u.there after u.event.time parts.0
      f.sure u.doing (may_be_done (run config es) u.event.time n u.doing u.event.act u.of parts.1)
      (subst (λ r. Calls keeps obeys file clock since failures plan (setup_of (run config es).config n) (run config es).bag u.doing (lives n) after r) f.device
      (subst (λ c. Calls keeps obeys file clock since failures plan (setup_of c n) (run config es).bag u.doing (lives n) after u.result)
      (sym config_is) u.called)))

  pub failures_are_told : FailuresAreTold keeps obeys file clock since failures plan
  failures_are_told keep config turns first lives fair fresh leads n after f =
      told_in config (events_of turns) fair lives
      (holds keeps obeys file clock since failures plan counts kept config turns first lives fair fresh leads) n after f
