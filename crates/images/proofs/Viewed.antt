-- A list of a board that shows a core is a view of the run, and stays one.
use Rattle.std.proofs.Common.{◌≡◌, inl, inr, ℕ, zero, suc, ◌≤◌, ◌<◌, Bool, true, false, not, cond, nat_le, nat_lt, IsTrue, List, [], ◌∷◌, ◌++◌}
use Rattle.std.proofs.Common.{Option, Some, None, Result, Ok, Err, drop, length, slice_get, refl, sym, ap, ◌∙◌, subst, arith}
use Rattle.std.proofs.lemmas.Bool.{and_parts, cases_eq}
use Rattle.std.proofs.lemmas.Bool.Decides.{nat_tests}
use Rattle.std.specs.Prelude.{if◌then◌else◌}
use Rattle.units.specs.Keys.{Bytes}
use Rattle.units.specs.Lists.{replaced}
use Rattle.units.specs.Looks.{buffer_filled, value_seen}
use Rattle.units.specs.Versions.{at_time}
use Rattle.units.specs.declared.fault.Fault.{Fault}
use Rattle.units.specs.declared.fault.Fault.TheVariants.{NotYet, Room, Stranger, TooOld}
use Rattle.units.specs.declared.line.Line.{Line}
use Rattle.units.specs.declared.line.Seen.{Seen}
use Rattle.units.specs.declared.setup.Setup.{Setup}
use Rattle.disk.specs.declared.plan.FailurePlan.{FailurePlan}
use Rattle.disk.specs.File.{File, surface}
use Rattle.disk.specs.Image.{MayLeave}
use Rattle.record.specs.Facts.{Facts, facts_of}
use Rattle.ledger.specs.Keeps.{Alike}
use Rattle.ledger.proofs.Alike.{alike-keeps}
use Rattle.message.specs.declared.message.Envelope.{Envelope}
use Rattle.protocol.specs.Rows.{Memory, safe}
use Rattle.protocol.specs.Step.{Stepped, Refuses, Does}
use Rattle.session.specs.Sessions.{Moved, Denies, Goes}
use Rattle.board.specs.Board.{horizon_on, safe_on, versions_on}
use Rattle.board.specs.declared.entry.BoardEntry.{BoardEntry}
use Rattle.board.proofs.Longer.{safe_from-safe}
use Rattle.shard.specs.Look.{owns, safe_at}
use Rattle.lives.specs.On.{CoreView}
use Rattle.world.specs.Headline.{doing_of}
use Rattle.world.specs.Lawful.{lawful, lawful_from, may_happen}
use Rattle.world.specs.World.{World, After, ShardNow, Runs, View, acts, did, do_at, effect, failed_in, failed_turn, finished, happens, look_at_view}
use Rattle.world.specs.World.{look_noted}
use Rattle.world.specs.World.{look_view, makes_view, moved, put_out, refused, run, run_from, set_shard, setup_of, start, view_of}
use Rattle.world.specs.declared.event.Act.{Act}
use Rattle.world.specs.declared.event.Config.{Config}
use Rattle.world.specs.declared.event.Doing.{Doing}
use Rattle.world.specs.declared.event.Event.{Event}
use Rattle.world.specs.declared.event.Reply.{Reply}
use Rattle.world.proofs.Places.{get-replaced_other, get-replaced_same}
use Rattle.world.proofs.Untouched.{run_settings}
use Rattle.law.specs.Among.{IsAmong}
use Rattle.law.proofs.Acts.{acts_go}
use Rattle.law.proofs.Members.{among_last}
use Rattle.law.proofs.WholeLaw.{lawful_on, run_on}
use Rattle.images.specs.Answers.{IsCall, IsLookAt, IsPlain, IsViewOf, ListsAreViews, RepliesAs, ShowsTo, StandBeside, ViewedIsSerial}
use Rattle.images.specs.Images.{Life, Up, Turn, Happens, events_of}
use Rattle.images.proofs.Answered.{act_is}
use Rattle.images.proofs.Called.{answer_in}
use Rattle.images.proofs.Held.{LivesAs, LivesIn}
use Rattle.images.proofs.Placed.{some_shard}
use Rattle.images.proofs.Shown.{called_answer, events_more, live_as, picked, serial}

-- ---- looks at a list

le_is : (a b : ℕ) → nat_le a b ≡ not (nat_lt b a)
le_is a b = by_test (nat_lt b a) refl
  where
    by_test : (x : Bool) → nat_lt b a ≡ x → nat_le a b ≡ not x
    by_test true is = grind (arith, nat_tests)
    by_test false is = grind (arith, nat_tests)

small : (a b : ℕ) → nat_lt a b ≡ true → a < b
small a b is = grind (arith, nat_tests)

-- what is answered, and what it leaves in the buffer, by the tests of a look
abbrev answer_by : Bool → Bool → Bool → Option Bytes → ℕ → Result Seen Fault
answer_by here forgotten late value room =
    if here then (if forgotten then Err TooOld else (if late then Err NotYet else value_seen value room)) else Err Stranger

abbrev buffer_by : Bool → Bool → Bool → Option Bytes → List ℕ → List ℕ
buffer_by here forgotten late value buffer =
    if here then (if forgotten then buffer else (if late then buffer else buffer_filled value buffer)) else buffer

value_replies : (value : Option Bytes) (old : List ℕ) → RepliesAs (Reply.Shows value) old (buffer_filled value old) (value_seen value (length old))
value_replies None old = (None, refl, (refl, refl))
value_replies (Some x) old = by_test (nat_lt (length old) (length x)) refl
  where
    by_test : (b : Bool) → nat_lt (length old) (length x) ≡ b → RepliesAs (Reply.Shows (Some x)) old
        (if b then old else x ++ drop (length x) old) (if b then Err Room else Ok (Seen.Value (length x)))
    by_test true is = (Some x, refl, small (length old) (length x) is)
    by_test false is = (Some x, refl, (refl, refl))

list_replies : (here forgotten late : Bool) (value : Option Bytes) (old : List ℕ) → RepliesAs (picked here forgotten (not late) (Reply.Shows value)) old
    (buffer_by here forgotten late value old) (answer_by here forgotten late value (length old))
list_replies false forgotten late value old = refl
list_replies true true late value old = refl
list_replies true false true value old = refl
list_replies true false false value old = value_replies value old

-- where the time is not forgotten the value may be told otherwise
same_value : (here forgotten served : Bool) (x y : Option Bytes) (old new : List ℕ) (result : Result Seen Fault) → (forgotten ≡ false → x ≡ y) →
    RepliesAs (picked here forgotten served (Reply.Shows x)) old new result → RepliesAs (picked here forgotten served (Reply.Shows y)) old new result
same_value false forgotten served x y old new result is h = h
same_value true true served x y old new result is h = h
same_value true false served x y old new result is h = subst (λ v. RepliesAs (picked true false served (Reply.Shows v)) old new result) (is refl) h

reaches : (at horizon : ℕ) → nat_lt at horizon ≡ false → horizon ≤ at
reaches at horizon is = grind (arith, nat_tests)

module _ {D : Type 0} (core : CoreView D) (setup : Setup) (f : Facts) (m : Memory) (alike : Alike core.facts f) (memory : core.memory ≡ m)
    (entries : List BoardEntry) (s : ShowsTo entries core.facts.installs core.facts.horizon (safe_at core)) where
  served_is : safe_on entries ≡ safe m
  served_is = ap safe_on s.ends ∙ safe_from-safe 0 s.before (safe_at core) ∙ ap safe memory

  horizon_same : horizon_on entries ≡ f.horizon
  horizon_same = s.horizon_is ∙ alike.horizon

  value_is : (k : Bytes) (at : ℕ) → nat_lt at f.horizon ≡ false → at_time (versions_on entries) k at ≡ at_time f.installs k at
  value_is k at is = ap (λ (is' : List _). at_time is' k at) s.versions
      ∙ (alike-keeps core.facts f alike).values k at (subst (λ h. h ≤ at) (sym alike.horizon) (reaches at f.horizon is))

  look_replies : (k : Bytes) (at : ℕ) (old new : List ℕ) (result : Result Seen Fault) → IsLookAt setup entries k at old new result →
      RepliesAs (look_view setup (view_of f m) k at) old new result
  look_replies k at old new result l =
      let here : Bool = owns setup k in
      let value : Option Bytes = at_time (versions_on entries) k at in
      let one : RepliesAs (picked here (nat_lt at (horizon_on entries)) (not (nat_lt (safe_on entries) at)) (Reply.Shows value)) old new result =
      subst (λ r. RepliesAs (picked here (nat_lt at (horizon_on entries)) (not (nat_lt (safe_on entries) at)) (Reply.Shows value)) old new r)
      (sym l.answered)
      (subst (λ b. RepliesAs (picked here (nat_lt at (horizon_on entries)) (not (nat_lt (safe_on entries) at)) (Reply.Shows value)) old b
      (answer_by here (nat_lt at (horizon_on entries)) (nat_lt (safe_on entries) at) value (length old))) (sym l.filled)
      (list_replies here (nat_lt at (horizon_on entries)) (nat_lt (safe_on entries) at) value old)) in
      let two : RepliesAs (picked here (nat_lt at f.horizon) (not (nat_lt (safe m) at)) (Reply.Shows value)) old new result =
      subst (λ x. x) (λ j. RepliesAs (picked here (nat_lt at (horizon_same j)) (not (nat_lt (served_is j) at)) (Reply.Shows value)) old new result) one in
      let three : RepliesAs (picked here (nat_lt at f.horizon) (nat_le at (safe m)) (Reply.Shows value)) old new result =
      subst (λ b. RepliesAs (picked here (nat_lt at f.horizon) b (Reply.Shows value)) old new result) (sym (le_is at (safe m))) two in
      same_value here (nat_lt at f.horizon) (nat_le at (safe m)) value (at_time f.installs k at) old new result (value_is k at) three

-- ---- views stay

get_front : {A : Type 0} (xs ys : List A) (i : ℕ) (x : A) → slice_get xs i ≡ Some x → slice_get (xs ++ ys) i ≡ Some x
get_front [] ys zero x e = cc
get_front [] ys (suc i) x e = cc
get_front (z ∷ xs) ys zero x e = e
get_front (z ∷ xs) ys (suc i) x e = get_front xs ys i x e

get_behind : {A : Type 0} (xs : List A) (x : A) → slice_get (xs ++ x ∷ []) (length xs) ≡ Some x
get_behind [] x = refl
get_behind (z ∷ xs) x = get_behind xs x

-- a shard of the world has this view
pub record HasView (n i : ℕ) (v : View) (w : World) : Type 0 where
  pub shard : ShardNow
  pub there : slice_get w.shards n ≡ Some shard
  pub has : slice_get shard.views i ≡ Some v

module _ (n i : ℕ) (v : View) (w : World) (h : HasView n i v w) where
  set_has : (m : ℕ) (s t : ShardNow) → slice_get w.shards m ≡ Some s → (slice_get s.views i ≡ Some v → slice_get t.views i ≡ Some v) →
      HasView n i v (set_shard m t w)
  set_has m s t is goes = elim (cases_eq m n) [
    | inl same ↦
        let one : s ≡ h.shard = some_shard s h.shard (sym is ∙ subst (λ k. slice_get w.shards k ≡ Some h.shard) (sym same) h.there) in
        record {
          shard = t;
          there = subst (λ k. slice_get (replaced w.shards m t) k ≡ Some t) same (get-replaced_same w.shards m s t is);
          has = goes (subst (λ (x : ShardNow). slice_get x.views i ≡ Some v) (sym one) h.has);
        }
    | inr other ↦
        record { shard = h.shard; there = get-replaced_other w.shards m n t other ∙ h.there; has = h.has }
  ]

  moved_has : (x : Moved) → HasView n i v (moved w x).0
  unfolding put_out
  moved_has (Denies f) = h
  moved_has (Goes c out) = record { shard = h.shard; there = h.there; has = h.has }

  noted_has : (k : Bytes) (at : ℕ) (r : Reply) → HasView n i v (look_noted w k at r).0
  noted_has k at (Reply.Shows x) = record { shard = h.shard; there = h.there; has = h.has }
  noted_has k at _ = h

  acts_have : (time : ℕ) (a : Act) → may_happen w (record { time = time; act = a }) ≡ true → HasView n i v (acts w a).0
  unfolding put_out finished failed_in failed_turn
  acts_have time a may = acts_go w (HasView n i v) h
      (λ t begun. record { shard = h.shard; there = h.there; has = h.has })
      (λ c s among. moved_has _)
      (λ c to x among same told. record { shard = h.shard; there = h.there; has = h.has })
      (λ m s is log area left. set_has m s _ is (λ e. e))
      (λ m s is doing logged memory out does.
      let one = set_has m s (finished s doing logged memory) is (λ e. get_front s.views _ i v e) in
      record { shard = one.shard; there = one.there; has = one.has })
      (λ m s is call doing r memory out does. set_has m s _ is (λ e. e))
      (λ m s is call doing memory out turn does. set_has m s _ is (λ e. e))
      (λ m s is k at. noted_has k at _)
      (λ m s is j k at. noted_has k at _)
      time a (and_parts _ _ may).1

event_has : (n i : ℕ) (v : View) (w : World) (e : Event) → may_happen w e ≡ true → HasView n i v w → HasView n i v (happens w e).0
unfolding happens
event_has n i v w e may h =
    let one = acts_have n i v w h e.time e.act may in record { shard = one.shard; there = one.there; has = one.has }

views_stay : (n i : ℕ) (v : View) (w : World) (es : List Event) → lawful_from w es ≡ true → HasView n i v w → HasView n i v (run_from w es)
views_stay n i v w [] may h = h
views_stay n i v w (e ∷ es) may h =
    let p = and_parts (may_happen w e) (lawful_from ((happens w e).0) es) may in
    views_stay n i v ((happens w e).0) es p.1 (event_has n i v w e p.0 h)

-- ---- the view that an event makes

-- what the world has behind it: a shard that runs, and its last view
pub record HasMade (n : ℕ) (w v : World) : Type 0 where
  pub shard : ShardNow
  pub there : slice_get v.shards n ≡ Some shard
  pub memory : Memory
  pub runs : shard.state ≡ Runs memory
  pub number : ℕ
  pub has : slice_get shard.views number ≡ Some (view_of (facts_of shard.log) memory)

makes : (w : World) (n : ℕ) (s : ShardNow) (doing : Doing) (st : Stepped) (out : List Envelope) → slice_get w.shards n ≡ Some s → makes_view doing ≡ true →
    ◌≡◌ {A = Result (List Envelope) Fault} (Ok out) (answer_in st) → HasMade n w (did w n s doing st).0
unfolding did put_out finished
makes w n s doing (Refuses fault) out there view is = cc
makes w n s doing (Does logged memory sent) out there view is =
    let t : ShardNow = finished s doing logged memory in
    record {
      shard = t;
      there = get-replaced_same w.shards n s t there;
      memory = memory;
      runs = refl;
      number = length s.views;
      has = subst (λ b. slice_get (s.views ++ cond b (view_of (facts_of t.log) memory ∷ []) []) (length s.views) ≡ Some (view_of (facts_of t.log) memory))
          (sym view) (get_behind s.views (view_of (facts_of t.log) memory));
    }

event_makes : (w : World) (e : Event) (n : ℕ) (doing : Doing) (s : ShardNow) (out : List Envelope) → IsPlain e.act → doing_of w e.act ≡ Some (n, doing) →
    slice_get w.shards n ≡ Some s → makes_view doing ≡ true →
    ◌≡◌ {A = Result (List Envelope) Fault} (Ok out) (answer_in (effect (setup_of w.config n) w.bag s doing)) → HasMade n w (happens w e).0
unfolding happens
event_makes w e n doing s out plain of there view is =
    let st : Stepped = effect (setup_of w.config n) w.bag s doing in
    let done : HasMade n w (do_at w n doing).0 = subst (λ (a : After). HasMade n w a.0)
    (sym (ap (λ (o : Option ShardNow). elim o as (λ x. After) [
      | None ↦ refused w Stranger
      | Some t ↦ did w n t doing (effect (setup_of w.config n) w.bag t doing)
    ]) there)) (makes w n s doing st out there view is) in
    let it : HasMade n w (acts w e.act).0 = subst (λ (a : After). HasMade n w a.0) (sym (act_is w e.act n doing plain of)) done in
    record { shard = it.shard; there = it.there; memory = it.memory; runs = it.runs; number = it.number; has = it.has }

-- ---- a whole run

module _ {D : Type 0} (keeps obeys : Type 0) (file : D → File) (clock : D → ℕ) (since : D → ℕ → List ℕ → Type 0) (failures : D → ℕ)
    (plan : D → FailurePlan)
    (counts : (disk : D) (moment : ℕ) (image : List ℕ) → moment ≤ clock disk → MayLeave (surface (file disk)) image → since disk moment image) where
  running : (setup : Setup) (s : ShardNow) (core : CoreView D) (m : Memory) → s.state ≡ Runs m → LivesAs file setup s (Up core) →
      Alike core.facts (facts_of s.log) × (core.memory ≡ m)
  running setup s core m is l = let r = subst (LivesIn file setup s (Up core)) is l in (r.knows, r.memory)

  module _ (keep : keeps) (config : Config) (turns : List Turn) (lives : ℕ → Life D)
      (b : StandBeside keeps obeys file clock since failures plan config turns lives) (e : Event) (n : ℕ) (doing : Doing) (plain : IsPlain e.act)
      (of : doing_of (run config (events_of turns)) e.act ≡ Some (n, doing)) (view : IsTrue (makes_view doing)) (out : List Envelope)
      (c : IsCall keeps obeys file clock since failures plan config turns lives n doing (Ok out)) where
    abbrev es : List Event
    es = events_of turns

    made : HasMade n (run config es) (happens (run config es) e).0
    made = event_makes (run config es) e n doing c.shard out plain of c.there view
        (called_answer keeps obeys file clock since failures plan counts keep config turns lives b n doing (Ok out) c)

    behind_it : run config (events_of (turns ++ Happens e ∷ [])) ≡ (happens (run config es) e).0
    unfolding run
    behind_it = ap (λ l. run_from (start config) l) (events_more turns e []) ∙ run_on (start config) es (e ∷ [])

    is_view : (next : ℕ → Life D) → StandBeside keeps obeys file clock since failures plan config (turns ++ Happens e ∷ []) next → (core : CoreView D) →
        next n ≡ Up core → (entries : List BoardEntry) → ShowsTo entries core.facts.installs core.facts.horizon (safe_at core) →
        (later : List Turn) (now : ℕ → Life D) → StandBeside keeps obeys file clock since failures plan config (turns ++ Happens e ∷ later) now →
        IsViewOf config (events_of (turns ++ Happens e ∷ later)) n entries
    unfolding run lawful
    is_view next d core is entries shows later now f =
        let all = events_more turns e later in
        let fair = subst (λ l. lawful_from (start config) l ≡ true) all f.fair in
        let rest = lawful_on (start config) es (e ∷ events_of later) fair in
        let p = and_parts (may_happen (run_from (start config) es) e) (lawful_from ((happens (run_from (start config) es) e).0) (events_of later)) rest in
        let v : View = view_of (facts_of made.shard.log) made.memory in
        let stays : HasView n made.number v (run_from ((happens (run_from (start config) es) e).0) (events_of later)) =
        views_stay n made.number v ((happens (run_from (start config) es) e).0) (events_of later) p.1
        (record { shard = made.shard; there = made.there; has = made.has }) in
        let there : HasView n made.number v (run_from (start config) (events_of (turns ++ Happens e ∷ later))) =
        subst (HasView n made.number v) (sym (ap (λ l. run_from (start config) l) all ∙ run_on (start config) es (e ∷ events_of later))) stays in
        let known = running (setup_of config n) made.shard core made.memory made.runs
        (subst (λ l. LivesAs file (setup_of config n) made.shard l) is
        (live_as keeps obeys file clock since failures plan counts keep config (turns ++ Happens e ∷ []) next d n made.shard
        (subst (λ (w : World). slice_get w.shards n ≡ Some made.shard) (sym behind_it) made.there))) in
        record {
          shard = there.shard;
          there = there.there;
          number = made.number;
          looks = λ k at old new result l.
              subst (λ (o : Option View). RepliesAs (look_at_view (setup_of config n) o k at) old new result) (sym there.has)
              (look_replies core (setup_of config n) (facts_of made.shard.log) made.memory known.0 known.1 entries shows k at old new result l);
        }

  pub lists_are_views : ListsAreViews keeps obeys file clock since failures plan
  lists_are_views keep config turns lives b e n doing plain of view out c = is_view keep config turns lives b e n doing plain of view out c

  -- a look at a view that shows a value is a line
  view_line : (w : World) (time n v : ℕ) (s : ShardNow) (k : Bytes) (at : ℕ) (x : Option Bytes) → slice_get w.shards n ≡ Some s →
      look_at_view (setup_of w.config n) (slice_get s.views v) k at ≡ Reply.Shows x →
      IsAmong (happens w (record { time = time; act = Act.View n v k at })).0.lines (Line.Look k at x)
  unfolding happens acts
  view_line w time n v s k at x there shows =
      subst (λ (a : After). IsAmong a.0.lines (Line.Look k at x))
      (sym (ap (λ (o : Option ShardNow). elim o as (λ y. After) [
        | None ↦ refused w Stranger
        | Some t ↦ look_noted w k at (look_at_view (setup_of w.config n) (slice_get t.views v) k at)
      ]) there))
      (subst (λ (r : Reply). IsAmong (look_noted w k at r).0.lines (Line.Look k at x)) (sym shows) (among_last w.lines (Line.Look k at x)))

  pub viewed_is_serial : ViewedIsSerial keeps obeys file clock since failures plan
  viewed_is_serial keep config turns lives b n entries v k at old new seen look time later now d images left =
      let r = v.looks k at old new (Ok seen) look in (
        r.0,
        r.2,
        serial keeps obeys file clock since failures plan counts keep config turns lives b (record { time = time; act = Act.View n v.number k at }) later now
            d images left k at r.0 (view_line (run config (events_of turns)) time n v.number v.shard k at r.0 v.there
            (subst (λ c. look_at_view (setup_of c n) (slice_get v.shard.views v.number) k at ≡ Reply.Shows r.0)
            (sym (run_settings config (events_of turns))) r.1)),
      )
