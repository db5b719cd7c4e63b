-- An area that begins with no base has all records that were logged since its disk was formatted.
use Rattle.std.specs.List.{list_any}
use Rattle.std.proofs.Common.{◌≡◌, ◌⊎◌, inl, inr, ℕ, suc, Bool, true, false, cond, ◌||◌, nat_le, List, [], ◌∷◌, ◌++◌, length, map, Option}
use Rattle.std.proofs.Common.{Some, None, slice_get, refl, sym, ap, ◌∙◌, subst, option_to_list}
use Rattle.std.proofs.lemmas.Bool.{and_parts, cases_eq, false≢true}
use Rattle.std.proofs.lemmas.List.{append-nil}
use Rattle.units.specs.Keys.{Bytes}
use Rattle.units.specs.Lists.{replaced}
use Rattle.units.proofs.Folds.{any_append}
use Rattle.disk.specs.declared.plan.Fate.{Fate}
use Rattle.gatelog.specs.ArmedTurn.{is_left_turn, is_read_turn}
use Rattle.gatelog.specs.Gates.{is_left, is_read}
use Rattle.message.specs.declared.message.Envelope.{Envelope}
use Rattle.protocol.specs.Rows.{Memory}
use Rattle.protocol.specs.Step.{Does}
use Rattle.record.specs.Accepted.{is_base}
use Rattle.record.specs.Verdict.{are_renewed, has_base}
use Rattle.record.specs.declared.record.Record.{Record}
use Rattle.ledger.specs.Turned.{turned}
use Rattle.session.specs.Sessions.{Moved, Denies, Goes}
use Rattle.world.specs.Areas.{IsBeside, MayLeaveArea}
use Rattle.world.specs.Lawful.{lawful, may_act, may_happen}
use Rattle.world.specs.World.{World, ShardNow, Area, Nothing, Shown, Hidden, TurnShown, TurnHidden, acts, area_behind, areas_of, crashed, effect, failed_in}
use Rattle.world.specs.World.{failed_turn, finished, fresh_log, fresh_shard, happens, logs_of, look_at_view, look_noted, look_shard, moved, new_area, put_out}
use Rattle.world.specs.World.{read_area, read_log, run, run_from, set_shard, setup_of, start, turns, with_records}
use Rattle.world.specs.declared.event.Act.{Act}
use Rattle.world.specs.declared.event.Config.{Config}
use Rattle.world.specs.declared.event.Doing.{Doing}
use Rattle.world.specs.declared.event.Event.{Event}
use Rattle.world.specs.declared.event.Reply.{Reply}
use Rattle.world.proofs.Along.{along}
use Rattle.world.proofs.Places.{get-replaced_other, get-replaced_same, replicated}
use Rattle.law.proofs.Acts.{acts_go, step_of}
use Rattle.law.proofs.Areas.{IsLeft, no_more, read_may_leave}
use Rattle.law.proofs.Picked.{some_same}

-- it has all of them, or it has a base
abbrev pub IsPlain : List Record → Area → Type 0
IsPlain log area = (area.records ≡ log) ⊎ (has_base area.records ≡ true)

-- a new area has one
renewed : (log : List Record) (s : ShardNow) → IsPlain log (new_area s)
unfolding turned
renewed log s = inr refl

-- one more record in both
one_more : (log : List Record) (area : Area) (r : Record) → IsPlain log area → IsPlain (log ++ r ∷ []) (with_records area (r ∷ []))
one_more log area r (inl same) = inl (ap (λ l. l ++ r ∷ []) same)
one_more log area r (inr base) = inr (any_append is_base area.records (r ∷ []) ∙ ap (λ b. b || list_any is_base (r ∷ [])) base)

-- whatever a crash leaves of a shard is so
abbrev ArePlain : World → Type 0
ArePlain w = (n : ℕ) (s : ShardNow) → slice_get w.shards n ≡ Some s → (log : List Record) (area : Area) → MayLeaveArea s log area → IsPlain log area

-- the same records and the same area
so_too : (l log : List Record) (a area : Area) → IsPlain log area → (l ≡ log) × (a ≡ area) → IsPlain l a
so_too l log a area k same = subst (λ x. IsPlain x a) (sym same.0) (subst (IsPlain log) (sym same.1) k)

module _ (w : World) (plain : ArePlain w) where
  module _ (n : ℕ) (s : ShardNow) (there : slice_get w.shards n ≡ Some s) where
    read_plain : IsPlain (read_log s) (read_area s)
    read_plain = plain n s there (read_log s) (read_area s) (read_may_leave s)

    step_plain : (doing : Doing) (logged : Option Record) (memory : Memory) (out : List Envelope) →
        effect (setup_of w.config n) w.bag s doing ≡ Does logged memory out →
        IsPlain (read_log s ++ option_to_list logged) (area_behind s doing logged)
    step_plain doing logged memory out e = by_case logged (turns doing) refl e
      where
        by_case : (o : Option Record) (b : Bool) → turns doing ≡ b → effect (setup_of w.config n) w.bag s doing ≡ Does o memory out →
            IsPlain (read_log s ++ option_to_list o) (cond b (new_area s) (with_records (read_area s) (option_to_list o)))
        by_case None true is k = renewed (read_log s ++ []) s
        by_case None false is k =
            subst (λ l. IsPlain l (with_records (read_area s) [])) (sym (append-nil (read_log s)))
            (subst (IsPlain (read_log s)) (sym (no_more (read_area s))) read_plain)
        by_case (Some r) true is k = renewed (read_log s ++ r ∷ []) s
        by_case (Some r) false is k = one_more (read_log s) (read_area s) r read_plain

    left_plain : (log : List Record) (area : Area) → IsLeft w n s log area → IsPlain log area
    left_plain log area (inl between) = plain n s there log area between
    left_plain log area (inr within) =
        let m = within.1 in
        so_too log (read_log s ++ option_to_list m.logged) area (area_behind s within.0 m.logged) (step_plain within.0 m.logged m.memory m.out m.does)
        (m.log_is, m.area_is)

  set_plain : (n : ℕ) (old new : ShardNow) → slice_get w.shards n ≡ Some old →
      ((log : List Record) (area : Area) → MayLeaveArea new log area → IsPlain log area) → ArePlain (set_shard n new w)
  set_plain n old new there new_plain m s e = elim (cases_eq n m)
      [ inl same ↦ by_place same | inr ne ↦ plain m s (sym (get-replaced_other w.shards n m new ne) ∙ e) ]
    where
      by_place : n ≡ m → (log : List Record) (area : Area) → MayLeaveArea s log area → IsPlain log area
      by_place same =
          let is : new ≡ s = some_same new s (sym (get-replaced_same w.shards n old new there)
          ∙ subst (λ k. slice_get (replaced w.shards n new) k ≡ Some s) (sym same) e) in
          subst (λ (x : ShardNow). (log : List Record) (area : Area) → MayLeaveArea x log area → IsPlain log area) is new_plain

  module _ (n : ℕ) (s : ShardNow) (there : slice_get w.shards n ≡ Some s) where
    crash_plain : (log : List Record) (area : Area) → IsLeft w n s log area → ArePlain (set_shard n (crashed s log area) w)
    crash_plain log area left = set_plain n s (crashed s log area) there by_left
      where
        by_left : (l : List Record) (a : Area) → MayLeaveArea (crashed s log area) l a → IsPlain l a
        by_left l a (inl same) = so_too l log a area (left_plain n s there log area left) same
        by_left l a (inr none) = absurd none

    finish_plain : (doing : Doing) (logged : Option Record) (memory : Memory) (out : List Envelope) →
        effect (setup_of w.config n) w.bag s doing ≡ Does logged memory out → ArePlain (put_out out (set_shard n (finished s doing logged memory) w))
    unfolding put_out finished
    finish_plain doing logged memory out e = set_plain n s (finished s doing logged memory) there by_left
      where
        by_left : (l : List Record) (a : Area) → MayLeaveArea (finished s doing logged memory) l a → IsPlain l a
        by_left l a (inl same) =
            so_too l (read_log s ++ option_to_list logged) a (area_behind s doing logged) (step_plain n s there doing logged memory out e) same
        by_left l a (inr none) = absurd none

    fail_plain : (call : ℕ) (doing : Doing) (r : Record) (memory : Memory) (out : List Envelope) →
        effect (setup_of w.config n) w.bag s doing ≡ Does (Some r) memory out → ArePlain (set_shard n (failed_in s call r) w)
    unfolding failed_in
    fail_plain call doing r memory out e = set_plain n s (failed_in s call r) there by_left
      where
        with_it : IsPlain (read_log s ++ r ∷ []) (with_records (read_area s) (r ∷ []))
        with_it = one_more (read_log s) (read_area s) r (read_plain n s there)

        by_unsure : (b c : Bool) (l : List Record) (a : Area) → IsBeside (failed_in s call r) (cond b (Shown r) (cond c (Hidden r) Nothing)) l a → IsPlain l a
        by_unsure true c l a same = so_too l _ a _ with_it same
        by_unsure false true l a same = so_too l _ a _ with_it same
        by_unsure false false l a none = absurd none

        by_left : (l : List Record) (a : Area) → MayLeaveArea (failed_in s call r) l a → IsPlain l a
        by_left l a (inl same) = so_too l _ a _ (read_plain n s there) same
        by_left l a (inr beside) = by_unsure (is_read call) (is_left call Fate.New) l a beside

    turn_fail_plain : (call : ℕ) (doing : Doing) (memory : Memory) (out : List Envelope) → turns doing ≡ true →
        effect (setup_of w.config n) w.bag s doing ≡ Does None memory out → ArePlain (set_shard n (failed_turn s call) w)
    unfolding failed_turn
    turn_fail_plain call doing memory out turning e = set_plain n s (failed_turn s call) there by_left
      where
        by_unsure : (b c : Bool) (l : List Record) (a : Area) →
            IsBeside (failed_turn s call) (cond b (TurnShown (new_area s)) (cond c (TurnHidden (new_area s)) Nothing)) l a → IsPlain l a
        by_unsure true c l a same = so_too l _ a _ (renewed (read_log s) s) same
        by_unsure false true l a same = so_too l _ a _ (renewed (read_log s) s) same
        by_unsure false false l a none = absurd none

        by_left : (l : List Record) (a : Area) → MayLeaveArea (failed_turn s call) l a → IsPlain l a
        by_left l a (inl same) = so_too l _ a _ (read_plain n s there) same
        by_left l a (inr beside) = by_unsure (is_read_turn call) (is_left_turn call Fate.New) l a beside

  moved_plain : (m : Moved) → ArePlain (moved w m).0
  unfolding put_out
  moved_plain (Denies f) = plain
  moved_plain (Goes c out) = plain

  noted_plain : (k : Bytes) (at : ℕ) (r : Reply) → ArePlain (look_noted w k at r).0
  noted_plain k at (Reply.Shows x) = plain
  noted_plain k at Reply.Done = plain
  noted_plain k at (Reply.Refused f) = plain
  noted_plain k at Reply.Crashed = plain

  acts_plain : (time : ℕ) (a : Act) → may_act w time a ≡ true → ArePlain (acts w a).0
  acts_plain =
      acts_go w ArePlain plain (λ t new. plain) (λ c s there. moved_plain (step_of w.config.splits s c)) (λ c to a there named told. plain)
      crash_plain finish_plain fail_plain turn_fail_plain
      (λ n s there k at. noted_plain k at (look_shard (setup_of w.config n) s k at))
      (λ n s there i k at. noted_plain k at (look_at_view (setup_of w.config n) (slice_get s.views i) k at))

event_plain : (w : World) (e : Event) → may_happen w e ≡ true → ArePlain w → ArePlain (happens w e).0
unfolding happens
event_plain w e may plain = acts_plain w plain e.time e.act (and_parts (nat_le w.time e.time) (may_act w e.time e.act) may).1

start_plain : (config : Config) → ArePlain (start config)
unfolding start
start_plain config n s e =
    subst (λ (x : ShardNow). (log : List Record) (area : Area) → MayLeaveArea x log area → IsPlain log area)
    (replicated (suc (length config.splits)) n s e) by_left
  where
    by_left : (log : List Record) (area : Area) → MayLeaveArea fresh_shard log area → IsPlain log area
    by_left log area (inl same) = so_too log fresh_log area _ (inl refl) same
    by_left log area (inr none) = absurd none

pub always_plain : (config : Config) (es : List Event) → lawful config es ≡ true → (n : ℕ) (s : ShardNow) → slice_get (run config es).shards n ≡ Some s →
    IsPlain (read_log s) (read_area s)
unfolding run lawful
always_plain config es fair = read_plain (run_from (start config) es) (along ArePlain event_plain (start config) es fair (start_plain config))

or_parts : (a b : Bool) → (a || b) ≡ false → (a ≡ false) × (b ≡ false)
or_parts true b e = absurd (false≢true (sym e))
or_parts false b e = (refl, e)

-- where none has a base, they are the same
plain_areas : (ss : List ShardNow) → ((n : ℕ) (s : ShardNow) → slice_get ss n ≡ Some s → IsPlain (read_log s) (read_area s))
    → are_renewed (map (λ (s : ShardNow). (read_area s).records) ss) ≡ false → map (λ (s : ShardNow). (read_area s).records) ss ≡ map read_log ss
plain_areas [] each none = refl
plain_areas (s ∷ ss) each none =
    let p = or_parts (has_base (read_area s).records) (are_renewed (map (λ (x : ShardNow). (read_area x).records) ss)) none in
    λ i. by_plain p.0 (each 0 s refl) i ∷ plain_areas ss (λ n x there. each (suc n) x there) p.1 i
  where
    by_plain : has_base (read_area s).records ≡ false → IsPlain (read_log s) (read_area s) → (read_area s).records ≡ read_log s
    by_plain none (inl same) = same
    by_plain none (inr base) = absurd (false≢true (sym none ∙ base))

pub plain_logs : (config : Config) (es : List Event) → lawful config es ≡ true → are_renewed (areas_of (run config es)) ≡ false
    → areas_of (run config es) ≡ logs_of (run config es)
unfolding areas_of logs_of
plain_logs config es fair none = plain_areas (run config es).shards (always_plain config es fair) none
