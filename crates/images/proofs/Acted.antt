-- What an event of a run leaves of what there is of its shards.
use Rattle.std.proofs.Common.{◌≡◌, ◌≢◌, inl, inr, ℕ, ◌≤◌, Bool, true, false, cond, ◌&&◌, nat_lt, IsTrue, List, [], ◌∷◌, ◌++◌, Option, Some, None}
use Rattle.std.proofs.Common.{slice_get, refl, sym, ◌∙◌, subst}
use Rattle.std.proofs.lemmas.Bool.{and_parts, cases_eq}
use Rattle.units.specs.Keys.{Bytes}
use Rattle.units.specs.Lists.{replaced}
use Rattle.units.specs.declared.fault.Fault.{Fault}
use Rattle.units.specs.declared.fault.Fault.TheVariants.{Device, Stranger}
use Rattle.units.specs.declared.setup.Setup.{Setup}
use Rattle.truetime.specs.Interval.{Interval}
use Rattle.disk.specs.declared.plan.FailurePlan.{FailurePlan}
use Rattle.disk.specs.File.{File, surface}
use Rattle.disk.specs.Image.{MayLeave}
use Rattle.message.specs.declared.message.Address.{Address}
use Rattle.message.specs.declared.message.Address.TheVariants.{Shard, Session}
use Rattle.message.specs.declared.message.Envelope.{Envelope}
use Rattle.protocol.specs.Rows.{Memory}
use Rattle.protocol.specs.Step.{Stepped, Refuses, Does}
use Rattle.record.specs.Accepted.{followed}
use Rattle.record.specs.declared.record.Record.{Record}
use Rattle.session.specs.Sessions.{buffers, closes, gives_up, reads}
use Rattle.world.specs.Steady.{HasAreas, IsSteady}
use Rattle.world.specs.World.{World, After, ShardNow, State, Runs, IsStopped, IsDown, acts, at_shard, client_of, crashed, crashed_in, deliver_to, did}
use Rattle.world.specs.World.{did_with_failure, do_at, effect, failed_in, failed_turn, finished, look_at_view, look_noted, look_shard, put_out, read_area}
use Rattle.world.specs.World.{read_log, refused}
use Rattle.world.specs.World.{refused_doing, set_shard, setup_of, to_session, turns}
use Rattle.world.specs.declared.event.Act.{Act}
use Rattle.world.specs.declared.event.Doing.{Doing}
use Rattle.world.specs.declared.event.Reply.{Reply}
use Rattle.world.proofs.Places.{get-replaced_other, get-replaced_same}
use Rattle.world.proofs.Untouched.{Kept, if_not_over_keeps, if_open_keeps, noted_keeps, to_session_keeps}
use Rattle.lives.specs.Carries.{left_by_refusal, unopened}
use Rattle.images.specs.Images.{AreElsewhere, AreSame, AtDoing, AtShard, FailsOr, GoesOn, Life, StarvesIn, Turns, Failing, NoCall, AnAppend, ATurnover, failing}
use Rattle.images.proofs.Called.{Comes, IsKnown}
use Rattle.images.proofs.Held.{LivesAs}
use Rattle.images.proofs.Turnovers.{turn_of}
use Rattle.images.proofs.Placed.{Hold, crash_lives, crashed_down, fails_lives, goes_comes, no_shard, restarts_lives, some_shard, starves_lives, turn_lives}

module _ {D : Type 0} (keeps obeys : Type 0) (file : D → File) (clock : D → ℕ) (since : D → ℕ → List ℕ → Type 0) (failures : D → ℕ)
    (plan : D → FailurePlan)
    (counts : (disk : D) (moment : ℕ) (image : List ℕ) → moment ≤ clock disk → MayLeave (surface (file disk)) image → since disk moment image)
    (kept : keeps) (w : World) (steady : IsSteady w) (areas : HasAreas w) (old new : ℕ → Life D)
    (h : Hold keeps obeys file clock since failures plan counts kept w.config w.shards old) where
  -- a world whose shards are these
  abbrev HoldsIn : World → Type 0
  HoldsIn v = Hold keeps obeys file clock since failures plan counts kept v.config v.shards new

  follows : (n : ℕ) (s : ShardNow) → slice_get w.shards n ≡ Some s → (doing : Doing) (r : Record) (memory : Memory) (out : List Envelope) →
      effect (setup_of w.config n) w.bag s doing ≡ Does (Some r) memory out → IsTrue (followed n (read_log s ++ r ∷ []))
  follows n s there doing r memory out e = steady.logged n s doing r memory out there e

  known : (n : ℕ) (s : ShardNow) → slice_get w.shards n ≡ Some s → IsKnown (setup_of w.config n) s
  known n s there = record { takes = steady.takes n s there; takes_area = areas.takes n s there; alike = areas.alike n s there }

  -- ---- no shard changes

  same_hold : AreSame old new → HoldsIn w
  same_hold same n s there = subst (LivesAs file (setup_of w.config n) s) (sym (same n)) (h n s there)

  kept_hold : AreSame old new → (v : World) → Kept w v → HoldsIn v
  kept_hold same v k = subst (λ c. Hold keeps obeys file clock since failures plan counts kept c v.shards new) (sym k.1)
      (subst (λ ss. Hold keeps obeys file clock since failures plan counts kept w.config ss new) (sym k.0) (same_hold same))

  -- ---- one does

  module _ (n : ℕ) (elsewhere : AreElsewhere n old new) where
    other : (m : ℕ) (t : ShardNow) → n ≢ m → slice_get w.shards m ≡ Some t → LivesAs file (setup_of w.config m) t (new m)
    other m t ne e = subst (LivesAs file (setup_of w.config m) t) (sym (elsewhere m ne)) (h m t e)

    none_hold : slice_get w.shards n ≡ None → HoldsIn w
    none_hold none m t e = elim (cases_eq n m) [
      | inl same ↦ absurd (no_shard t (sym none ∙ subst (λ k. slice_get w.shards k ≡ Some t) (sym same) e))
      | inr ne ↦ other m t ne e
    ]

    module _ (s : ShardNow) (there : slice_get w.shards n ≡ Some s) where
      at_place : (x : ShardNow) → LivesAs file (setup_of w.config n) x (new n) → (ss : List ShardNow) → slice_get ss n ≡ Some x →
          (m : ℕ) (t : ShardNow) → n ≡ m → slice_get ss m ≡ Some t → LivesAs file (setup_of w.config m) t (new m)
      at_place x l ss is m t same e =
          let one : x ≡ t = some_shard x t (sym is ∙ subst (λ k. slice_get ss k ≡ Some t) (sym same) e) in
          subst (λ k. LivesAs file (setup_of w.config k) t (new k)) same (subst (λ y. LivesAs file (setup_of w.config n) y (new n)) one l)

      stay_hold : LivesAs file (setup_of w.config n) s (new n) → HoldsIn w
      stay_hold l m t e = elim (cases_eq n m) [
        | inl same ↦ at_place s l w.shards there m t same e
        | inr ne ↦ other m t ne e
      ]

      set_hold : (x : ShardNow) → LivesAs file (setup_of w.config n) x (new n) → HoldsIn (set_shard n x w)
      set_hold x l m t e = elim (cases_eq n m) [
        | inl same ↦ at_place x l (replaced w.shards n x) (get-replaced_same w.shards n s x there) m t same e
        | inr ne ↦ other m t ne (sym (get-replaced_other w.shards n m x ne) ∙ e)
      ]

      refused_hold : (doing : Doing) (fault : Fault) → LivesAs file (setup_of w.config n) (left_by_refusal s doing) (new n) →
          HoldsIn (refused_doing w n s doing fault).0
      refused_hold Doing.Open fault l = by_state s.state l
        where
          by_state : (st : State) → LivesAs file (setup_of w.config n) (unopened s st) (new n) →
              HoldsIn ((elim st as (λ x. After) [
                | Runs m ↦ refused w fault
                | _ ↦ (set_shard n (crashed s (read_log s) (read_area s)) w, Reply.Refused fault)
              ]).0)
          by_state (Runs m) k = stay_hold k
          by_state (IsStopped m) k = set_hold (crashed s (read_log s) (read_area s)) k
          by_state IsDown k = set_hold (crashed s (read_log s) (read_area s)) k
      refused_hold Doing.Turn fault l = stay_hold l
      refused_hold (Doing.Take m now) fault l = stay_hold l
      refused_hold (Doing.Resume now) fault l = stay_hold l
      refused_hold (Doing.Settle t now) fault l = stay_hold l
      refused_hold (Doing.Advance at now) fault l = stay_hold l
      refused_hold (Doing.Forget at now) fault l = stay_hold l
      refused_hold (Doing.Retire below now) fault l = stay_hold l
      refused_hold (Doing.Nudge t now) fault l = stay_hold l

      did_hold : (doing : Doing) (st : Stepped) →
          Comes keeps obeys file clock since failures plan counts kept (setup_of w.config n) s doing (new n) st → HoldsIn (did w n s doing st).0
      unfolding did put_out finished
      did_hold doing (Refuses fault) c = refused_hold doing fault c
      did_hold doing (Does logged memory out) c = set_hold (finished s doing logged memory) c

      -- what the doing comes to
      goes_so : (doing : Doing) → GoesOn keeps obeys file clock since failures plan (setup_of w.config n) w.bag doing (old n) (new n) →
          Comes keeps obeys file clock since failures plan counts kept (setup_of w.config n) s doing (new n) (effect (setup_of w.config n) w.bag s doing)
      goes_so doing g = goes_comes keeps obeys file clock since failures plan counts kept w.config w.bag n s (known n s there) (areas.lasting n s there)
          (follows n s there) doing (old n) (new n) g (h n s there)

      -- where no call of it fails
      goes_on_hold : (doing : Doing) (st : Stepped) → effect (setup_of w.config n) w.bag s doing ≡ st →
          GoesOn keeps obeys file clock since failures plan (setup_of w.config n) w.bag doing (old n) (new n) → HoldsIn (did w n s doing st).0
      goes_on_hold doing st is g = did_hold doing st
          (subst (Comes keeps obeys file clock since failures plan counts kept (setup_of w.config n) s doing (new n)) is (goes_so doing g))

      abbrev Fail : Doing → ℕ → Failing → Type 0
      Fail doing call failing' = FailsOr keeps obeys file clock since failures plan (setup_of w.config n) w.bag s doing call failing' (old n) (new n)

      fail_hold : (call : ℕ) (doing : Doing) (st : Stepped) → effect (setup_of w.config n) w.bag s doing ≡ st → Fail doing call (failing call doing st) →
          HoldsIn (did_with_failure w n s call doing st).0
      unfolding did_with_failure
      fail_hold call doing (Refuses fault) is f = goes_on_hold doing (Refuses fault) is f
      fail_hold call doing (Does None memory out) is f = by_test (turns doing && nat_lt call 5) refl f
        where
          by_test : (b : Bool) → (turns doing && nat_lt call 5) ≡ b → Fail doing call (cond b ATurnover NoCall) →
              HoldsIn ((cond {A = After} b (set_shard n (failed_turn s call) w, Reply.Refused Device) (did w n s doing (Does None memory out))).0)
          by_test true both k =
              let p = and_parts (turns doing) (nat_lt call 5) both in
              set_hold (failed_turn s call)
              (turn_lives keeps obeys file clock since failures plan counts kept w.config w.bag n s (known n s there) (areas.lasting n s there)
              (follows n s there) call p.1 (old n) (new n) memory out
              (subst (λ d. effect (setup_of w.config n) w.bag s d ≡ Does None memory out) (turn_of doing p.0) is) k (h n s there))
          by_test false both k = goes_on_hold doing (Does None memory out) is k
      fail_hold call doing (Does (Some r) memory out) is f = by_test (nat_lt call 4) refl f
        where
          by_test : (b : Bool) → nat_lt call 4 ≡ b → Fail doing call (cond b (AnAppend r) NoCall) →
              HoldsIn ((cond {A = After} b (set_shard n (failed_in s call r) w, Reply.Refused Device) (did w n s doing (Does (Some r) memory out))).0)
          by_test true lt k = set_hold (failed_in s call r)
              (fails_lives keeps obeys file clock since failures plan counts kept w.config w.bag n s (known n s there) (areas.lasting n s there)
              (follows n s there) call r lt doing (old n) (new n) memory out is k (h n s there))
          by_test false lt k = goes_on_hold doing (Does (Some r) memory out) is k

    -- at a shard that exists, or at none
    shard_hold : (f : Setup → ShardNow → After) → ((s : ShardNow) → slice_get w.shards n ≡ Some s → HoldsIn (f (setup_of w.config n) s).0) →
        HoldsIn (at_shard w n f).0
    shard_hold f each = by_value (slice_get w.shards n) refl
      where
        by_value : (o : Option ShardNow) → slice_get w.shards n ≡ o →
            HoldsIn ((elim o as (λ x. After) [ None ↦ refused w Stranger | Some s ↦ f (setup_of w.config n) s ]).0)
        by_value None none = none_hold none
        by_value (Some s) there = each s there

  -- ---- each act

  do_hold : (n : ℕ) (doing : Doing) →
      AtShard keeps obeys file clock since failures plan w n old new
      (λ setup s before after. GoesOn keeps obeys file clock since failures plan setup w.bag doing before after) → HoldsIn (do_at w n doing).0
  do_hold n doing a = shard_hold n a.elsewhere (λ setup s. did w n s doing (effect setup w.bag s doing))
      (λ s there. did_hold n a.elsewhere s there doing (effect (setup_of w.config n) w.bag s doing) (goes_so n a.elsewhere s there doing (a.here s there)))

  deliver_hold : (m : ℕ) (now : Interval) (o : Option Envelope) →
      AtDoing keeps obeys file clock since failures plan w (elim o as (λ x. Option (ℕ × Doing)) [
        | None ↦ None
        | Some e ↦ elim e.to as (λ x. Option (ℕ × Doing)) [ Shard n ↦ Some (n, Doing.Take m now) | Session t ↦ None ]
      ]) old new → HoldsIn (deliver_to w m now o).0
  unfolding deliver_to
  deliver_hold m now None a = same_hold a
  deliver_hold m now (Some e) a = by_address e.to a
    where
      by_address : (to : Address) →
          AtDoing keeps obeys file clock since failures plan w
          (elim to as (λ x. Option (ℕ × Doing)) [ Shard n ↦ Some (n, Doing.Take m now) | Session t ↦ None ]) old new →
          HoldsIn ((elim to as (λ x. After) [ Shard n ↦ do_at w n (Doing.Take m now) | Session t ↦ to_session w e.message ]).0)
      by_address (Shard n) k = do_hold n (Doing.Take m now) k
      by_address (Session t) k = kept_hold k (to_session w e.message).0 (to_session_keeps w e.message)

  -- a look notes a line
  look_hold : (n : ℕ) (f : Setup → ShardNow → Reply) (k : Bytes) (at : ℕ) → AreSame old new →
      HoldsIn (at_shard w n (λ setup s. look_noted w k at (f setup s))).0
  look_hold n f k at same = shard_hold n (λ m ne. same m) (λ setup s. look_noted w k at (f setup s))
      (λ s there. kept_hold same (look_noted w k at (f (setup_of w.config n) s)).0 (noted_keeps w k at (f (setup_of w.config n) s)))

  pub acts_hold : (a : Act) → Turns keeps obeys file clock since failures plan w a old new → HoldsIn (acts w a).0
  unfolding acts
  acts_hold (Act.Begin t) k = same_hold k
  acts_hold (Act.Read t j) k = kept_hold k (acts w (Act.Read t j)).0 (if_open_keeps w (client_of w t) (reads w.config.splits j))
  acts_hold (Act.Write t j x) k =
      kept_hold k (acts w (Act.Write t j x)).0 (if_open_keeps w (client_of w t) (buffers (record { key = j; value = x })))
  acts_hold (Act.Close t) k = kept_hold k (acts w (Act.Close t)).0 (if_open_keeps w (client_of w t) (closes w.config.splits))
  acts_hold (Act.Quit t) k = kept_hold k (acts w (Act.Quit t)).0 (if_not_over_keeps w (client_of w t) (gives_up w.config.splits))
  acts_hold (Act.Deliver m now) k = deliver_hold m now (slice_get w.bag m) k
  acts_hold (Act.At n doing) k = do_hold n doing k
  acts_hold (Act.Look n j at) k = look_hold n (λ setup s. look_shard setup s j at) j at k
  acts_hold (Act.View n v j at) k = look_hold n (λ setup s. look_at_view setup (slice_get s.views v) j at) j at k
  acts_hold (Act.Crash n) k = shard_hold n k.elsewhere (λ setup s. (set_shard n (crashed s s.log s.area) w, Reply.Crashed))
      (λ s there. set_hold n k.elsewhere s there (crashed s s.log s.area)
      (crash_lives keeps obeys file clock since failures plan counts kept w.config w.bag n s (known n s there) (areas.lasting n s there) (follows n s there)
      (old n) (new n) (k.here s there) (h n s there)))
  acts_hold (Act.CrashIn n call fate named doing) k = shard_hold n k.elsewhere
      (λ setup s. (set_shard n (crashed_in s call fate doing (effect setup w.bag s doing)) w, Reply.Crashed))
      (λ s there. let t = crashed_in s call fate doing (effect (setup_of w.config n) w.bag s doing) in
      let down = crashed_down s call fate doing (effect (setup_of w.config n) w.bag s doing) in
      set_hold n k.elsewhere s there t
      (restarts_lives keeps obeys file clock since failures plan counts kept w.config w.bag n s (known n s there) (areas.lasting n s there) (follows n s there)
      t (new n) down.0 down.1 (k.here s there)))
  acts_hold (Act.FailIn n call named doing) k = shard_hold n k.elsewhere
      (λ setup s. did_with_failure w n s call doing (effect setup w.bag s doing))
      (λ s there. fail_hold n k.elsewhere s there call doing (effect (setup_of w.config n) w.bag s doing) refl (k.here s there))

  -- a call of which the run has nothing
  pub starves_hold : (n : ℕ) (doing : Doing) →
      AtShard keeps obeys file clock since failures plan w n old new
      (λ setup s before after. StarvesIn keeps obeys file clock since failures plan setup w.bag doing before after) → HoldsIn w
  starves_hold n doing a = by_value (slice_get w.shards n) refl
    where
      by_value : (o : Option ShardNow) → slice_get w.shards n ≡ o → HoldsIn w
      by_value None none = none_hold n a.elsewhere none
      by_value (Some s) there = stay_hold n a.elsewhere s there
          (starves_lives keeps obeys file clock since failures plan counts kept w.config w.bag n s (known n s there) (areas.lasting n s there)
          (follows n s there) doing (old n) (new n) (a.here s there) (h n s there))
