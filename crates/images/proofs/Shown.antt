-- How a core is looked at is how the run's shard is looked at, and what is told and shown stays.
use Rattle.std.proofs.Common.{◌≡◌, inl, inr, ℕ, suc, ◌≤◌, ◌<◌, Bool, true, false, not, cond, nat_le, nat_lt, List, [], ◌∷◌, ◌++◌, length}
use Rattle.std.proofs.Common.{Option, Some, None, Result, Ok, Err, slice_get, refl, sym, ap, subst, append_assoc, arith}
use Rattle.std.proofs.lemmas.Bool.{and_parts, false≢true}
use Rattle.std.proofs.lemmas.Bool.Decides.{nat_tests}
use Rattle.units.specs.Ids.{Id}
use Rattle.units.specs.Keys.{Bytes}
use Rattle.units.specs.Versions.{at_time}
use Rattle.units.specs.declared.fault.Fault.{Fault}
use Rattle.units.specs.declared.fault.Fault.TheVariants.{NotYet, Room, Stopped, Stranger, TooOld}
use Rattle.units.specs.declared.line.Line.{Line}
use Rattle.units.specs.declared.line.Seen.{Seen}
use Rattle.units.specs.declared.setup.Setup.{Setup}
use Rattle.disk.specs.declared.plan.FailurePlan.{FailurePlan}
use Rattle.disk.specs.File.{File, surface}
use Rattle.disk.specs.Image.{MayLeave}
use Rattle.record.specs.Facts.{Facts, facts_of}
use Rattle.record.specs.Lines.{IsLine}
use Rattle.ledger.specs.Keeps.{Alike}
use Rattle.ledger.proofs.Alike.{alike-keeps}
use Rattle.message.specs.declared.message.Address.{Address}
use Rattle.message.specs.declared.message.Envelope.{Envelope}
use Rattle.protocol.specs.Rows.{Memory, safe}
use Rattle.shard.specs.Look.{IsLook, IsLookBy, IsOver, IsSeen, looks_of, owns}
use Rattle.lives.specs.On.{CoreView}
use Rattle.world.specs.Headline.{doing_of}
use Rattle.world.specs.Lawful.{lawful, lawful_from, may_happen}
use Rattle.world.specs.World.{World, After, ShardNow, State, Runs, IsStopped, IsDown, acts, effect, happens, look_noted, look_shard, look_view}
use Rattle.world.specs.World.{refused, run, setup_of, start, view_of}
use Rattle.world.specs.declared.event.Act.{Act}
use Rattle.world.specs.declared.event.Config.{Config}
use Rattle.world.specs.declared.event.Doing.{Doing}
use Rattle.world.specs.declared.event.Event.{Event}
use Rattle.world.specs.declared.event.Reply.{Reply}
use Rattle.world.proofs.EveryRun.{is_steady}
use Rattle.world.proofs.Untouched.{run_settings}
use Rattle.law.specs.Acknowledged.{committed_to}
use Rattle.law.specs.Among.{IsAmong}
use Rattle.law.proofs.Doings.{get_among}
use Rattle.law.proofs.HasAreas.{always_has_areas}
use Rattle.law.proofs.Instants.{lawful_front}
use Rattle.law.proofs.LooksHold.{always_kept, event_keeps, lines_stay}
use Rattle.law.proofs.Members.{among_last, among_right}
use Rattle.law.proofs.WholeLaw.{commits_are_lines, run_on, lawful_on}
use Rattle.images.specs.Answers.{HaveCommitted, HaveValue, IsAnswered, IsCall, IsPlain, LooksAreTheRuns, OutboxesAreTheRuns, RepliesAs, ShownIsSerial}
use Rattle.images.specs.Answers.{StandBeside, ToldIsThere}
use Rattle.images.specs.Images.{AreLeft, Calls, HaveLogs, Life, Up, Turn, Happens, Starves, events_of}
use Rattle.images.proofs.Answered.{calls_answer, event_so}
use Rattle.images.proofs.Called.{answer_in}
use Rattle.images.proofs.Held.{LivesAs, LivesIn}
use Rattle.images.proofs.Turned.{HoldRun, follows, holds, images_have_logs, known}

-- ---- one look

-- by where the key belongs, whether the time is forgotten, and whether it is served
abbrev pub picked : Bool → Bool → Bool → Reply → Reply
picked here forgotten served shows =
    cond (not here) (Reply.Refused Stranger) (cond forgotten (Reply.Refused TooOld) (cond served shows (Reply.Refused NotYet)))

shows_so : (a b c : Bool) (x : Reply) → a ≡ true → b ≡ false → c ≡ true → picked a b c x ≡ x
shows_so true false true x p q r = refl
shows_so true false false x p q r = absurd (false≢true r)
shows_so true true c x p q r = absurd (false≢true (sym q))
shows_so false b c x p q r = absurd (false≢true p)

stranger_so : (a b c : Bool) (x : Reply) → a ≡ false → picked a b c x ≡ Reply.Refused Stranger
stranger_so false b c x p = refl
stranger_so true b c x p = absurd (false≢true (sym p))

old_so : (a b c : Bool) (x : Reply) → a ≡ true → b ≡ true → picked a b c x ≡ Reply.Refused TooOld
old_so true true c x p q = refl
old_so true false c x p q = absurd (false≢true q)
old_so false b c x p q = absurd (false≢true p)

later_so : (a b c : Bool) (x : Reply) → a ≡ true → b ≡ false → c ≡ false → picked a b c x ≡ Reply.Refused NotYet
later_so true false false x p q r = refl
later_so true false true x p q r = absurd (false≢true (sym r))
later_so true true c x p q r = absurd (false≢true (sym q))
later_so false b c x p q r = absurd (false≢true p)

not_below : (a b : ℕ) → b ≤ a → nat_lt a b ≡ false
not_below a b h = grind (arith, nat_tests)

below : (a b : ℕ) → a < b → nat_lt a b ≡ true
below a b h = grind (arith, nat_tests)

at_most : (a b : ℕ) → a ≤ b → nat_le a b ≡ true
at_most a b h = grind (arith, nat_tests)

above : (a b : ℕ) → b < a → nat_le a b ≡ false
above a b h = grind (arith, nat_tests)

module _ {D : Type 0} (core : CoreView D) (setup : Setup) (f : Facts) (m : Memory) (same : core.setup ≡ setup) (alike : Alike core.facts f)
    (memory : core.memory ≡ m) (k : Bytes) (at : ℕ) (old new : List ℕ) where
  here_is : (b : Bool) → owns core.setup k ≡ b → owns setup k ≡ b
  here_is b = subst (λ s. owns s k ≡ b) same

  low : core.facts.horizon ≤ at → nat_lt at f.horizon ≡ false
  low h = not_below at f.horizon (subst (λ z. z ≤ at) alike.horizon h)

  high : at ≤ safe core.memory → nat_le at (safe m) ≡ true
  high h = at_most at (safe m) (subst (λ z. at ≤ safe z) memory h)

  value : core.facts.horizon ≤ at → at_time core.facts.installs k at ≡ at_time f.installs k at
  value h = (alike-keeps core.facts f alike).values k at h

  abbrev shows : Reply
  shows = Reply.Shows (at_time f.installs k at)

  replies : (result : Result Seen Fault) → IsLookBy (looks_of core) k at old new result → RepliesAs (look_view setup (view_of f m) k at) old new result
  replies (Ok seen) l = (
    at_time f.installs k at,
    shows_so (owns setup k) (nat_lt at f.horizon) (nat_le at (safe m)) shows (here_is true l.0) (low l.1) (high l.2),
    subst (λ x. IsSeen x old new seen) (value l.1) l.3,
  )
  replies (Err Stranger) l = stranger_so (owns setup k) (nat_lt at f.horizon) (nat_le at (safe m)) shows (here_is false l.0)
  replies (Err TooOld) l =
      old_so (owns setup k) (nat_lt at f.horizon) (nat_le at (safe m)) shows (here_is true l.0)
      (below at f.horizon (subst (λ z. at < z) alike.horizon l.1))
  replies (Err NotYet) l =
      later_so (owns setup k) (nat_lt at f.horizon) (nat_le at (safe m)) shows (here_is true l.0) (low l.1)
      (above at (safe m) (subst (λ z. safe z < at) memory l.2))
  replies (Err Room) l = (
    at_time f.installs k at,
    shows_so (owns setup k) (nat_lt at f.horizon) (nat_le at (safe m)) shows (here_is true l.0) (low l.1) (high l.2),
    subst (λ x. IsOver x (length old)) (value l.1) l.3,
  )
  replies (Err _) l = absurd l

-- ---- more turns

pub events_more : (ts : List Turn) (e : Event) (later : List Turn) → events_of (ts ++ Happens e ∷ later) ≡ events_of ts ++ e ∷ events_of later
events_more [] e later = refl
events_more (Happens x ∷ ts) e later = ap (λ es. x ∷ es) (events_more ts e later)
events_more (Starves n doing ∷ ts) e later = events_more ts e later

line_of : (ls : List Line) (l : Line) → IsAmong ls l → IsLine ls l
line_of [] l h = absurd h
line_of (x ∷ xs) l (inl same) = (0, ap (λ y. Some y) same)
line_of (x ∷ xs) l (inr later) = let p = line_of xs l later in (suc p.0, p.1)

module _ (config : Config) (es later : List Event) (e : Event) (fair : lawful config (es ++ e ∷ later) ≡ true) where
  front : lawful config es ≡ true
  unfolding lawful
  front = lawful_front (start config) es (e ∷ later) fair

  with_it : lawful config (es ++ e ∷ []) ≡ true
  unfolding lawful
  with_it = lawful_front (start config) (es ++ e ∷ []) later (subst (λ l. lawful_from (start config) l ≡ true) (sym (append_assoc es (e ∷ []) later)) fair)

  rest : lawful_from (run config es) (e ∷ later) ≡ true
  unfolding run lawful
  rest = lawful_on (start config) es (e ∷ later) fair

  pub behind : run config (es ++ e ∷ []) ≡ (happens (run config es) e).0
  unfolding run
  behind = run_on (start config) es (e ∷ [])

  -- the lines behind the event are lines of the whole run
  own_line : (l : Line) → IsAmong (happens (run config es) e).0.lines l → IsLine (run config (es ++ e ∷ later)).lines l
  unfolding run
  own_line l h =
      let p = and_parts (may_happen (run config es) e) (lawful_from ((happens (run config es) e).0) later) rest in
      line_of (run config (es ++ e ∷ later)).lines l (subst (λ (w : World). IsAmong w.lines l) (sym (run_on (start config) es (e ∷ later)))
      (lines_stay config (happens (run config es) e).0 later p.1 (event_keeps config (run config es) e p.0 (always_kept config es front)) l h))

  -- a commit that is told behind the event has its line
  told_line : (to : Address) (t : Id) (at : ℕ) → IsAmong (happens (run config es) e).0.bag (committed_to to t at) →
      (i : ℕ) × IsLine (run config (es ++ e ∷ later)).lines (Line.Ack t at i)
  told_line to t at h =
      let ack = commits_are_lines config (es ++ e ∷ []) with_it to t at (subst (λ (w : World). IsAmong w.bag (committed_to to t at)) (sym behind) h) in
      let line = get_among (run config (es ++ e ∷ [])).lines ack.1.0 (Line.Ack t at ack.0) ack.1.1 in
      (ack.0, own_line (Line.Ack t at ack.0) (subst (λ (w : World). IsAmong w.lines (Line.Ack t at ack.0)) behind line))

-- a look that shows a value is a line
look_line : (w : World) (time n : ℕ) (s : ShardNow) (k : Bytes) (at : ℕ) (x : Option Bytes) → slice_get w.shards n ≡ Some s →
    look_shard (setup_of w.config n) s k at ≡ Reply.Shows x →
    IsAmong (happens w (record { time = time; act = Act.Look n k at })).0.lines (Line.Look k at x)
unfolding happens acts
look_line w time n s k at x there shows =
    subst (λ (a : After). IsAmong a.0.lines (Line.Look k at x))
    (sym (ap (λ (o : Option ShardNow). elim o as (λ y. After) [
      | None ↦ refused w Stranger
      | Some t ↦ look_noted w k at (look_shard (setup_of w.config n) t k at)
    ]) there))
    (subst (λ (r : Reply). IsAmong (look_noted w k at r).0.lines (Line.Look k at x)) (sym shows) (among_last w.lines (Line.Look k at x)))

-- ---- a whole run

module _ {D : Type 0} (keeps obeys : Type 0) (file : D → File) (clock : D → ℕ) (since : D → ℕ → List ℕ → Type 0) (failures : D → ℕ)
    (plan : D → FailurePlan)
    (counts : (disk : D) (moment : ℕ) (image : List ℕ) → moment ≤ clock disk → MayLeave (surface (file disk)) image → since disk moment image)
    (kept : keeps) (config : Config) (turns : List Turn) (lives : ℕ → Life D)
    (b : StandBeside keeps obeys file clock since failures plan config turns lives) where
  abbrev es : List Event
  es = events_of turns

  hold : HoldRun keeps obeys file clock since failures plan counts kept config es lives
  hold = holds keeps obeys file clock since failures plan counts kept config turns b.first lives b.fair b.fresh b.leads

  pub settings : (run config es).config ≡ config
  settings = run_settings config es

  pub live_as : (n : ℕ) (s : ShardNow) → slice_get (run config es).shards n ≡ Some s → LivesAs file (setup_of config n) s (lives n)
  live_as n s there = subst (λ c. LivesAs file (setup_of c n) s (lives n)) settings (hold n s there)

  -- what a call answers
  pub called_answer : (n : ℕ) (doing : Doing) (result : Result (List Envelope) Fault) →
      (c : IsCall keeps obeys file clock since failures plan config turns lives n doing result) →
      result ≡ answer_in (effect (setup_of (run config es).config n) (run config es).bag c.shard doing)
  called_answer n doing result c =
      let w : World = run config es in
      let steady = is_steady config es b.fair in
      let areas = always_has_areas config es b.fair in
      calls_answer keeps obeys file clock since failures plan counts kept w.config w.bag n c.shard
      (known keeps obeys file clock since failures plan counts kept w steady areas n c.shard c.there) (areas.lasting n c.shard c.there)
      (follows keeps obeys file clock since failures plan counts kept w steady areas n c.shard c.there) doing (lives n) c.after result
      (subst (λ (x : Config). Calls keeps obeys file clock since failures plan (setup_of x n) w.bag doing (lives n) c.after result) (sym settings)
      c.called)
      c.own c.quiet (hold n c.shard c.there)

  -- and what the run has of it
  pub answered : (e : Event) (n : ℕ) (doing : Doing) → IsPlain e.act → doing_of (run config es) e.act ≡ Some (n, doing) →
      (result : Result (List Envelope) Fault) → IsCall keeps obeys file clock since failures plan config turns lives n doing result →
      IsAnswered (run config es) e result
  answered e n doing plain of result c = event_so (run config es) e n doing c.shard result plain of c.there (called_answer n doing result c)

  -- what a look does
  pub looked : (n : ℕ) (core : CoreView D) → lives n ≡ Up core → (s : ShardNow) → slice_get (run config es).shards n ≡ Some s → (k : Bytes) (at : ℕ)
      (old new : List ℕ) (result : Result Seen Fault) → IsLook core k at old new result → RepliesAs (look_shard (setup_of config n) s k at) old new result
  looked n core is s there k at old new result look =
      by_state s.state (subst (λ l. LivesAs file (setup_of config n) s l) is (live_as n s there))
    where
      by_state : (st : State) → LivesIn file (setup_of config n) s (Up core) st → RepliesAs (elim st as (λ x. Reply) [
        | Runs m ↦ look_view (setup_of config n) (view_of (facts_of s.log) m) k at
        | IsStopped m ↦ look_view (setup_of config n) (view_of (facts_of s.log) m) k at
        | IsDown ↦ Reply.Refused Stopped
      ]) old new result
      by_state (Runs m) l = replies core (setup_of config n) (facts_of s.log) m l.setup_is l.knows l.memory k at old new result look
      by_state (IsStopped m) l = replies core (setup_of config n) (facts_of s.log) m l.2.setup_is l.2.knows l.2.memory k at old new result look
      by_state IsDown l = absurd l

  -- the logs of later images
  module _ (e : Event) (later : List Turn) (now : ℕ → Life D)
      (c : StandBeside keeps obeys file clock since failures plan config (turns ++ Happens e ∷ later) now) (images : List (List ℕ))
      (left : AreLeft keeps obeys file clock since failures plan config (events_of (turns ++ Happens e ∷ later)) now images) where
    all : events_of (turns ++ Happens e ∷ later) ≡ es ++ e ∷ events_of later
    all = events_more turns e later

    fair_all : lawful config (es ++ e ∷ events_of later) ≡ true
    fair_all = subst (λ l. lawful config l ≡ true) all c.fair

    logs : HaveLogs config (events_of (turns ++ Happens e ∷ later)) images
    logs = images_have_logs keeps obeys file clock since failures plan counts kept kept config (turns ++ Happens e ∷ later) c.first now c.fair c.fresh
        c.leads images left

    line_there : (l : Line) → IsLine (run config (es ++ e ∷ events_of later)).lines l →
        IsLine (run config (events_of (turns ++ Happens e ∷ later))).lines l
    line_there l = subst (λ x. IsLine (run config x).lines l) (sym all)

    pub committed : (to : Address) (t : Id) (at : ℕ) (out : List Envelope) → IsAnswered (run config es) e (Ok out) →
        IsAmong out (committed_to to t at) → HaveCommitted config (events_of (turns ++ Happens e ∷ later)) images t at
    committed to t at out so among =
        let line = told_line config es (events_of later) e fair_all to t at
        (subst (λ x. IsAmong x (committed_to to t at)) (sym so.put_out) (among_right (run config es).bag out (committed_to to t at) among)) in
        let it = logs.consistent.acknowledged t at line.0 (line_there (Line.Ack t at line.0) line.1) in
        record { logs = logs; there = it.0; whole = it.1 }

    pub serial : (k : Bytes) (at : ℕ) (x : Option Bytes) → IsAmong (happens (run config es) e).0.lines (Line.Look k at x) →
        HaveValue config (events_of (turns ++ Happens e ∷ later)) images k at x
    serial k at x among = record {
      logs = logs;
      serial = logs.consistent.looks k at x
          (line_there (Line.Look k at x) (own_line config es (events_of later) e fair_all (Line.Look k at x) among));
    }

module _ {D : Type 0} (keeps obeys : Type 0) (file : D → File) (clock : D → ℕ) (since : D → ℕ → List ℕ → Type 0) (failures : D → ℕ)
    (plan : D → FailurePlan)
    (counts : (disk : D) (moment : ℕ) (image : List ℕ) → moment ≤ clock disk → MayLeave (surface (file disk)) image → since disk moment image) where
  pub outboxes_are_the_runs : OutboxesAreTheRuns keeps obeys file clock since failures plan
  outboxes_are_the_runs keep config turns lives b = answered keeps obeys file clock since failures plan counts keep config turns lives b

  pub looks_are_the_runs : LooksAreTheRuns keeps obeys file clock since failures plan
  looks_are_the_runs keep config turns lives b = looked keeps obeys file clock since failures plan counts keep config turns lives b

  pub told_is_there : ToldIsThere keeps obeys file clock since failures plan
  told_is_there keep config turns lives b e n doing plain of out c to t at among later now d images left =
      committed keeps obeys file clock since failures plan counts keep config turns lives b e later now d images left to t at out
      (answered keeps obeys file clock since failures plan counts keep config turns lives b e n doing plain of (Ok out) c) among

  pub shown_is_serial : ShownIsSerial keeps obeys file clock since failures plan
  shown_is_serial keep config turns lives b n core is s there k at old new seen look time later now d images left =
      let r = looked keeps obeys file clock since failures plan counts keep config turns lives b n core is s there k at old new (Ok seen) look in (
        r.0,
        r.2,
        serial keeps obeys file clock since failures plan counts keep config turns lives b (record { time = time; act = Act.Look n k at }) later now d
            images left k at r.0 (look_line (run config (events_of turns)) time n s k at r.0 there
            (subst (λ c. look_shard (setup_of c n) s k at ≡ Reply.Shows r.0) (sym (run_settings config (events_of turns))) r.1)),
      )
