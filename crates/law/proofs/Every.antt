-- Something stands behind all that there is, at every moment of every lawful run.
use Rattle.std.proofs.Common.{◌≡◌, ◌⊎◌, inl, inr, ℕ, zero, suc, ◌<◌, ◌≤◌, true, not, ◌&&◌, nat_le, List, [], ◌∷◌, ◌++◌, length, Option, Some, None}
use Rattle.std.proofs.Common.{slice_get, refl, sym, ap, subst, ◌∙◌, arith}
use Rattle.std.proofs.lemmas.Bool.{leb-true, and_parts}
use Rattle.units.specs.Lists.{when}
use Rattle.units.specs.Ids.{Id}
use Rattle.units.specs.declared.fault.Fault.TheVariants.{Stranger}
use Rattle.units.specs.declared.setup.Setup.{Setup}
use Rattle.truetime.specs.Interval.{Interval}
use Rattle.truetime.specs.Reading.{is_honest}
use Rattle.message.specs.declared.message.Address.{Address}
use Rattle.message.specs.declared.message.Address.TheVariants.{Shard, Session}
use Rattle.message.specs.declared.message.Envelope.{Envelope}
use Rattle.session.specs.Sessions.{Client}
use Rattle.world.specs.World.{World, After, ShardNow, client_of, input_of, at_shard, do_at, deliver_to, acts, happens, ticked, start, run, run_from}
use Rattle.world.specs.World.{setup_of, did, effect, did_with_failure, crashed, crashed_in, set_shard, to_session, refused, look_noted, look_shard}
use Rattle.world.specs.World.{look_at_view, fresh_shard, fresh_log}
use Rattle.world.specs.Lawful.{has_begun, may_act, may_happen, can_come, lawful_from, lawful}
use Rattle.world.specs.declared.event.Act.{Act}
use Rattle.world.specs.declared.event.Config.{Config}
use Rattle.world.specs.declared.event.Doing.{Doing}
use Rattle.world.specs.declared.event.Event.{Event}
use Rattle.world.specs.declared.event.Reply.{Reply}
use Rattle.law.specs.Requests.{CommitWanted, act_asks, input_asks}
use Rattle.law.specs.Evidence.{Scene, RecordEvidence, Holds, ShardEvidence}
use Rattle.world.specs.Steady.{IsSteady, AlwaysSteady}
use Rattle.world.proofs.Places.{replicated}
use Rattle.law.proofs.Grows.{Grows, message_stays, line_stays, began_stays}
use Rattle.law.proofs.Changes.{with_world, shard_stays}
use Rattle.law.proofs.Sessions.{begin_holds}
use Rattle.law.proofs.Closings.{AfterHolds, reads_hold, writes_hold, closes_hold, quits_hold, to_session_holds, look_holds}
use Rattle.law.proofs.Logged.{each_logged}
use Rattle.law.proofs.Recorded.{rebuilt_rows}
use Rattle.law.proofs.Doings.{Given, IsAskedBy, delivered, given}
use Rattle.law.proofs.Shards.{doing_holds, plain_crash_holds, crash_within_holds, failure_holds}

-- ---- one event

module _ (sc : Scene) (h : Holds sc) (steady : IsSteady sc.world) (present : slice_get sc.times sc.world.event ≡ Some sc.now) where
  -- an event at a shard, where there is one
  at_shard_holds : (n : ℕ) (f : Setup → ShardNow → After) → ((s : ShardNow) → slice_get sc.world.shards n ≡ Some s →
      AfterHolds sc (f (setup_of sc.world.config n) s)) →
      AfterHolds sc (at_shard sc.world n f)
  at_shard_holds n f each = by_value (slice_get sc.world.shards n) refl
    where
      by_value : (o : Option ShardNow) → slice_get sc.world.shards n ≡ o →
          AfterHolds sc (elim o as (λ x. After) [ None ↦ refused sc.world Stranger | Some s ↦ f (setup_of sc.world.config n) s ])
      by_value None e = h
      by_value (Some s) e = each s e

  do_at_holds : (n : ℕ) (doing : Doing) → Given sc n (input_of sc.world.bag doing) → AfterHolds sc (do_at sc.world n doing)
  do_at_holds n doing heard = at_shard_holds n (λ setup s. did sc.world n s doing (effect setup sc.world.bag s doing))
      (λ s there. doing_holds sc h steady present n s there doing heard)

  begins : (t : Id) → not (has_begun sc.world t) ≡ true → AfterHolds sc (acts sc.world (Act.Begin t))
  unfolding acts
  begins t new = begin_holds sc t (by_value (client_of sc.world t) new) present h
    where
      by_value : (o : Option Client) → not (when (λ c. true) o) ≡ true → o ≡ None
      by_value None e = refl
      by_value (Some c) e = cc

  delivers : (m : ℕ) (now : Interval) → (is_honest sc.now now && when (can_come sc.world) (slice_get sc.world.bag m)) ≡ true →
      IsAskedBy sc (Act.Deliver m now) → AfterHolds sc (deliver_to sc.world m now (slice_get sc.world.bag m))
  unfolding deliver_to
  delivers m now lawful_now asks = by_message (slice_get sc.world.bag m) refl
    where
      times : (now.earliest ≤ sc.now) × (sc.now ≤ now.latest)
      times = let p = and_parts (nat_le now.earliest sc.now) (nat_le sc.now now.latest) ((and_parts _ _ lawful_now).0) in (leb-true _ _ p.0, leb-true _ _ p.1)

      by_address : (e : Envelope) → slice_get sc.world.bag m ≡ Some e → (a : Address) → e.to ≡ a →
          AfterHolds sc (elim a as (λ x. After) [ Shard n ↦ do_at sc.world n (Doing.Take m now) | Session t ↦ to_session sc.world e.message ])
      by_address e is (Shard n) goes = do_at_holds n (Doing.Take m now) (delivered sc m now e n is goes (times.1, times.0) asks)
      by_address e is (Session t) goes = to_session_holds sc h present e.message

      by_message : (o : Option Envelope) → slice_get sc.world.bag m ≡ o → AfterHolds sc (deliver_to sc.world m now o)
      by_message None is = h
      by_message (Some e) is = by_address e is e.to refl

  -- each act that may happen
  acts_hold : (a : Act) → may_act sc.world sc.now a ≡ true → IsAskedBy sc a → AfterHolds sc (acts sc.world a)
  unfolding acts may_act
  acts_hold (Act.Begin t) may asks = begins t may
  acts_hold (Act.Read t k) may asks = reads_hold sc h present t k
  acts_hold (Act.Write t k x) may asks = writes_hold sc h present t (record { key = k; value = x })
  acts_hold (Act.Close t) may asks = closes_hold sc h present t
  acts_hold (Act.Quit t) may asks = quits_hold sc h present t (client_of sc.world t) refl
  acts_hold (Act.Deliver m now) may asks = delivers m now may asks
  acts_hold (Act.At n doing) may asks = do_at_holds n doing (given sc n doing (and_parts _ _ may).1 (asks n doing refl))
  acts_hold (Act.Look n k at) may asks = at_shard_holds n (λ setup s. look_noted sc.world k at (look_shard setup s k at))
      (λ s there. look_holds sc k at (look_shard (setup_of sc.world.config n) s k at) h)
  acts_hold (Act.View n v k at) may asks = at_shard_holds n (λ setup s. look_noted sc.world k at (look_at_view setup (slice_get s.views v) k at))
      (λ s there. look_holds sc k at (look_at_view (setup_of sc.world.config n) (slice_get s.views v) k at) h)
  acts_hold (Act.Crash n) may asks = at_shard_holds n (λ setup s. (set_shard n (crashed s s.log s.area) sc.world, Reply.Crashed))
      (λ s there. plain_crash_holds sc h steady present n s there)
  acts_hold (Act.CrashIn n call fate named doing) may asks =
      at_shard_holds n (λ setup s. (set_shard n (crashed_in s call fate doing (effect setup sc.world.bag s doing)) sc.world, Reply.Crashed))
      (λ s there. crash_within_holds sc h steady present n s there call fate doing
      (given sc n doing (and_parts _ _ (and_parts _ _ may).0).1 (asks n doing refl)))
  acts_hold (Act.FailIn n call named doing) may asks =
      at_shard_holds n (λ setup s. did_with_failure sc.world n s call doing (effect setup sc.world.bag s doing))
      (λ s there. failure_holds sc h steady present n s there call doing (given sc n doing (and_parts _ _ may).1 (asks n doing refl)))

-- ---- time

-- the times of the events so far: one for each, none falls, and the last is the present
pub record Clock (sc : Scene) : Type 0 where
  pub count : length sc.times ≡ sc.event
  pub time : sc.world.time ≡ sc.now
  pub below : (i time : ℕ) → slice_get sc.times i ≡ Some time → time ≤ sc.now
  pub rises : (i j a b : ℕ) → i ≤ j → slice_get sc.times i ≡ Some a → slice_get sc.times j ≡ Some b → a ≤ b

get_more : (xs ys : List ℕ) (i x : ℕ) → slice_get xs i ≡ Some x → slice_get (xs ++ ys) i ≡ Some x
get_more [] ys i x e = cc
get_more (y ∷ xs) ys zero x e = e
get_more (y ∷ xs) ys (suc i) x e = get_more xs ys i x e

get_last : (xs : List ℕ) (x : ℕ) → slice_get (xs ++ x ∷ []) (length xs) ≡ Some x
get_last [] x = refl
get_last (y ∷ xs) x = get_last xs x

-- a place of the longer list is one of the shorter, or the last
get_cases : (xs : List ℕ) (x i y : ℕ) → slice_get (xs ++ x ∷ []) i ≡ Some y → (slice_get xs i ≡ Some y) ⊎ ((i ≡ length xs) × (y ≡ x))
get_cases [] x zero y e = inr (refl, some_is e)
  where
    some_is : Some x ≡ Some y → y ≡ x
    some_is k = cc
get_cases [] x (suc i) y e = cc
get_cases (z ∷ xs) x zero y e = inl e
get_cases (z ∷ xs) x (suc i) y e = elim (get_cases xs x i y e) [ inl old ↦ inl old | inr new ↦ inr (ap suc new.0, new.1) ]

get_within : (xs : List ℕ) (i x : ℕ) → slice_get xs i ≡ Some x → i < length xs
get_within [] i x e = cc
get_within (y ∷ xs) zero x e = omega arith
get_within (y ∷ xs) (suc i) x e = let ih = get_within xs i x e in omega arith

length_push : (xs : List ℕ) (x : ℕ) → length (xs ++ x ∷ []) ≡ suc (length xs)
length_push [] x = refl
length_push (y ∷ xs) x = ap suc (length_push xs x)

-- a scene at the next event, which asks for more
abbrev pub ticking : Scene → ℕ → (CommitWanted → Type 0) → Scene
ticking sc time more = record sc { times = sc.times ++ time ∷ []; asked = λ r. sc.asked r ⊎ more r; now = time }

module _ (sc : Scene) (time : ℕ) (more : CommitWanted → Type 0) (h : Holds sc) (c : Clock sc) (later : sc.now ≤ time) where
  -- the next event begins
  tick_grows : Grows sc (ticking sc time more)
  tick_grows = record {
    sent = λ e k. k;
    lines = λ l k. k;
    times = λ i x e. get_more sc.times (time ∷ []) i x e;
    asked = λ r k. inl k;
    decided = λ n x k. k;
    now = later;
    closed = λ t messages k. k;
    logs = λ n r k. k;
  }

  pub tick_holds : Holds (ticking sc time more)
  tick_holds = record {
    counted = h.counted;
    messages = λ e k. message_stays sc _ tick_grows e.to e.message (h.messages e k);
    shards = λ n s e. shard_stays sc _ tick_grows n s (h.shards n s e);
    lines = λ l k. line_stays sc _ tick_grows l (h.lines l k);
    clients = λ t x e. let b = began_stays sc _ tick_grows t sc.now (h.clients t x e) in let below = b.below in
        record { event = b.event; time = b.time; line = b.line; timed = b.timed; below = omega (arith, below, later) };
    begun = h.begun;
    once = h.once;
  }

  pub present_now : slice_get (sc.times ++ time ∷ []) sc.world.event ≡ Some time
  present_now = subst (λ n. slice_get (sc.times ++ time ∷ []) n ≡ Some time) (c.count ∙ sym h.counted) (get_last sc.times time)

  pub below_now : (i x : ℕ) → slice_get (sc.times ++ time ∷ []) i ≡ Some x → x ≤ time
  below_now i x e = elim (get_cases sc.times time i x e) [
    | inl old ↦ let b = c.below i x old in omega (arith, b, later)
    | inr new ↦ let same = new.1 in omega (arith, same)
  ]

  pub rises_now : (i j a b : ℕ) → i ≤ j → slice_get (sc.times ++ time ∷ []) i ≡ Some a → slice_get (sc.times ++ time ∷ []) j ≡ Some b → a ≤ b
  rises_now i j a b up e k = elim (get_cases sc.times time j b k) [
    | inr last ↦ let below = below_now i a e in let same = last.1 in omega (arith, below, same)
    | inl old ↦ elim (get_cases sc.times time i a e) [
      | inl also ↦ c.rises i j a b up also old
      | inr new ↦ let inside = get_within sc.times j b old in let same = new.0 in absurd (omega (arith, inside, same, up))
    ]
  ]

-- the event is over
module _ (sc : Scene) (time : ℕ) (h : Holds sc) where
  over_grows : Grows sc (record sc { world = ticked sc.world time; event = suc sc.event })
  over_grows = record {
    sent = λ e k. k;
    lines = λ l k. k;
    times = λ i x e. e;
    asked = λ r k. k;
    decided = λ n x k. k;
    now = omega arith;
    closed = λ t messages k. record { client = k.client; there = k.there; closed = k.closed; same = k.same };
    logs = λ n r k. k;
  }

  pub over_holds : Holds (record sc { world = ticked sc.world time; event = suc sc.event })
  over_holds = record {
    counted = ap suc h.counted;
    messages = λ e k. message_stays sc _ over_grows e.to e.message (h.messages e k);
    shards = λ n s e. shard_stays sc _ over_grows n s (h.shards n s e);
    lines = λ l k. line_stays sc _ over_grows l (h.lines l k);
    clients = λ t x e. began_stays sc _ over_grows t sc.now (h.clients t x e);
    begun = h.begun;
    once = h.once;
  }

-- ---- a whole run

-- a scene of a world, in which something stands behind all that there is
pub record RunEvidence (w : World) : Type 1 where
  pub scene : Scene
  pub same : scene.world ≡ w
  pub holds : Holds scene
  pub clock : Clock scene

-- an event asks a shard for something, at most at the latest time of its reading
pub record AsksFor (w : World) (e : Event) (r : CommitWanted) : Type 0 where
  pub asks : act_asks w e.act ≡ Some r
  pub honest : e.time ≤ r.latest

-- an event is under way
abbrev pub begun_at : Scene → Event → Scene
begun_at sc e = ticking sc e.time (AsksFor sc.world e)

-- the world after it, with its time
abbrev pub next : Scene → Event → Scene
next sc e = record (begun_at sc e) { world = ticked ((acts sc.world e.act).0) e.time; event = suc sc.event }

-- what it asks of a shard counts as asked
pub asked_now : (sc : Scene) (e : Event) → IsAskedBy (begun_at sc e) e.act
asked_now sc e n doing is p given_now r asks honest = inr (record {
  asks =
      ap
      (λ o. elim o as (λ x. Option CommitWanted) [
        | None ↦ None
        | Some q ↦ elim (input_of sc.world.bag q.1) as (λ x. Option CommitWanted) [ None ↦ None | Some z ↦ input_asks q.0 z.0 z.1 ]
      ])
      is
      ∙ ap (λ o. elim o as (λ x. Option CommitWanted) [ None ↦ None | Some z ↦ input_asks n z.0 z.1 ]) given_now
      ∙ asks;
  honest = honest;
})

pub next_holds : (sc : Scene) (e : Event) → Holds sc → Clock sc → IsSteady sc.world → may_happen sc.world e ≡ true → Holds (next sc e) × Clock (next sc e)
next_holds sc e h c steady may =
    let p = and_parts (nat_le sc.world.time e.time) (may_act sc.world e.time e.act) may in
    let from : sc.world.time ≤ e.time = leb-true _ _ p.0 in
    let same = c.time in
    let later : sc.now ≤ e.time = omega (arith, from, same) in
    let more = AsksFor sc.world e in
    let begun = tick_holds sc e.time more h c later in
    let after = acts_hold (begun_at sc e) begun steady (present_now sc e.time more h c later) e.act p.1 (asked_now sc e) in (
      over_holds (with_world (begun_at sc e) (acts sc.world e.act).0) e.time after,
      record {
        count = length_push sc.times e.time ∙ ap suc c.count;
        time = refl;
        below = below_now sc e.time more h c later;
        rises = rises_now sc e.time more h c later;
      },
    )

holds_from : (sc : Scene) → Holds sc → Clock sc → (es : List Event) → lawful_from sc.world es ≡ true →
    ((ds : List Event) → lawful_from sc.world ds ≡ true → IsSteady (run_from sc.world ds)) → RunEvidence (run_from sc.world es)
unfolding happens
holds_from sc h c [] e steady = record { scene = sc; same = refl; holds = h; clock = c }
holds_from sc h c (x ∷ xs) e steady =
    let p = and_parts (may_happen sc.world x) (lawful_from ((happens sc.world x).0) xs) e in
    let after = next_holds sc x h c (steady [] refl) p.0 in
    holds_from (next sc x) after.0 after.1 xs p.1
    (λ ds l. steady (x ∷ ds) (ap (λ b. b && lawful_from ((happens sc.world x).0) ds) p.0 ∙ l))

-- ---- the beginning

fresh_evidence : (sc : Scene) (n : ℕ) → ShardEvidence sc n fresh_shard
fresh_evidence sc n = record {
  records = λ r k. elim k [ inl same ↦ subst (λ x. RecordEvidence sc fresh_log n x) same tt | inr none ↦ absurd none ];
  unsure = λ r none. absurd none;
  state = (rebuilt_rows fresh_log (each_logged fresh_log refl) sc n, refl);
}

abbrev pub first_scene : Config → Scene
first_scene config =
    record { world = start config; times = []; asked = λ r. ⊥; decided = λ n c. ⊥; event = 0; now = 0 }

pub start_holds : (config : Config) → Holds (first_scene config)
unfolding start
start_holds config = record {
  counted = refl;
  messages = λ e none. absurd none;
  shards = λ n s e. subst (λ x. ShardEvidence (first_scene config) n x) (replicated (suc (length config.splits)) n s e) (fresh_evidence (first_scene config) n);
  lines = λ l none. absurd none;
  clients = λ t c e. cc;
  begun = λ t event none. absurd none;
  once = λ t event other none l. absurd none;
}

start_clock : (config : Config) → Clock (first_scene config)
unfolding start
start_clock config = record { count = refl; time = refl; below = λ i time e. cc; rises = λ i j a b up e k. cc }

-- every lawful run
pub every_run_holds : AlwaysSteady → (config : Config) (es : List Event) → lawful config es ≡ true → RunEvidence (run config es)
unfolding run lawful
every_run_holds steady config es e =
    holds_from (first_scene config) (start_holds config) (start_clock config) es e (λ ds l. steady config ds l)
