-- Each decision rests on an event that asked for it, and its shard remembered that from there on.
use Rattle.std.proofs.Common.{◌≡◌, ◌⊎◌, inl, inr, ℕ, ◌<◌, true, nat_le, List, [], ◌∷◌, ◌++◌, append_assoc, refl, sym, ap, subst, ◌∙◌}
use Rattle.std.proofs.lemmas.Bool.{and_parts}
use Rattle.std.proofs.lemmas.List.{append-nil}
use Rattle.record.specs.declared.record.Committed.{Committed}
use Rattle.record.specs.declared.record.Record.{Record}
use Rattle.world.specs.Lawful.{lawful, may_act, may_happen}
use Rattle.world.specs.Steady.{IsSteady}
use Rattle.world.specs.World.{World, happens, start, run, run_from}
use Rattle.world.specs.declared.event.Config.{Config}
use Rattle.world.specs.declared.event.Event.{Event}
use Rattle.world.proofs.EveryRun.{is_steady}
use Rattle.law.specs.Requests.{CommitWanted, IsAboveArrival, IsAppended, IsRemembered, RemembersUntil, request_for}
use Rattle.law.specs.Evidence.{Scene, Holds}
use Rattle.law.proofs.Appended.{acts_explained}
use Rattle.law.proofs.Every.{AsksFor, Clock, RunEvidence, every_run_holds, first_scene, next, next_holds, start_holds}
use Rattle.law.proofs.Instants.{last_may, lawful_front}
use Rattle.law.proofs.Anew.{MayStand, asked_if_remembered, anew, anew_clock, anew_holds, rests_if_decided}
use Rattle.law.proofs.WholeLaw.{run_on}

-- ---- one event

-- what is remembered before an event, or asked by it, is below the decision
record WasWanted (w : World) (e : Event) (n : ℕ) (c : Committed) : Type 0 where
  pub latest : ℕ
  pub asked : IsRemembered w (request_for n c latest) ⊎ AsksFor w e (request_for n c latest)
  pub above : latest < c.at

-- what an event leaves remembered was so before, or is asked by it; and what it leaves decided was so before, or is appended by it, and was wanted
record Explains (w : World) (e : Event) : Type 0 where
  pub remembered : (r : CommitWanted) → IsRemembered (happens w e).0 r → IsRemembered w r ⊎ AsksFor w e r
  pub decided : (n : ℕ) (c : Committed) → MayStand (happens w e).0 n (Record.Commit c) →
      MayStand w n (Record.Commit c) ⊎ (IsAppended w (happens w e).0 n (Record.Commit c) × WasWanted w e n c)

module _ (sc : Scene) (h : Holds sc) (clock : Clock sc) (steady : IsSteady sc.world) (e : Event) (may : may_happen sc.world e ≡ true) where
  after : Holds (next (anew sc) e)
  after = (next_holds (anew sc) e (anew_holds sc h) (anew_clock sc clock) steady may).0

  scene_explains : Explains sc.world e
  unfolding happens
  scene_explains = record {
    remembered = λ r k. asked_if_remembered (next (anew sc) e) after r k;
    decided = λ n c k. elim (rests_if_decided (next (anew sc) e) after n c k) [
      | inl old ↦ inl old
      | inr rests ↦ elim (acts_explained sc.world e.time e.act (and_parts (nat_le sc.world.time e.time) (may_act sc.world e.time e.act) may).1 n c
          (record { shard = k.shard; there = k.there; is = k.is })) [
            | inl old ↦ inl old
            | inr new ↦ inr (
              record {
                before = new.before;
                there = new.there;
                memory = new.memory;
                runs = new.runs;
                after = new.after;
                there_now = new.there_now;
                appended = new.appended;
              },
              record { latest = rests.latest; asked = rests.asked; above = rests.above },
            )
          ]
    ];
  }

explains : (w : World) → RunEvidence w → IsSteady w → (e : Event) → may_happen w e ≡ true → Explains w e
explains w r steady e may =
    subst (λ v. Explains v e) r.same
    (scene_explains r.scene r.holds r.clock (subst IsSteady (sym r.same) steady) e (subst (λ v. may_happen v e ≡ true) (sym r.same) may))

-- ---- some events

-- behind each of some events the shard remembers the request
abbrev RemembersThrough : CommitWanted → World → List Event → Type 0
RemembersThrough r w [] = Unit {0}
RemembersThrough r w (e ∷ es) = let v : World = (happens w e).0 in IsRemembered v r × RemembersThrough r v es

through_more : (r : CommitWanted) (w : World) (es : List Event) (e : Event) → RemembersThrough r w es → IsRemembered (happens (run_from w es) e).0 r →
    RemembersThrough r w (es ++ e ∷ [])
through_more r w [] e all now = (now, tt)
through_more r w (x ∷ es) e all now = (all.0, through_more r (happens w x).0 es e all.1 now)

until_now : (r : CommitWanted) (d : Record) (w : World) (es : List Event) (e : Event) → RemembersThrough r w es →
    IsAppended (run_from w es) (happens (run_from w es) e).0 r.shard d → RemembersUntil r d w (es ++ e ∷ [])
until_now r d w [] e all now = inl now
until_now r d w (x ∷ es) e all now = inr (all.0, until_now r d (happens w x).0 es e all.1 now)

until_more : (r : CommitWanted) (d : Record) (w : World) (es : List Event) (e : Event) → RemembersUntil r d w es → RemembersUntil r d w (es ++ e ∷ [])
until_more r d w [] e none = absurd none
until_more r d w (x ∷ es) e (inl now) = inl now
until_more r d w (x ∷ es) e (inr later) = inr (later.0, until_more r d (happens w x).0 es e later.1)

-- ---- a whole run

-- a request was asked for at an event, and is remembered since
record IsSince (config : Config) (es : List Event) (r : CommitWanted) : Type 0 where
  pub front : List Event
  pub event : Event
  pub back : List Event
  pub listed : es ≡ front ++ event ∷ back
  pub asks : AsksFor (run config front) event r
  pub through : RemembersThrough r (run config front) (event ∷ back)

-- of all that is remembered and decided behind some events: since when, and what it rests on
record History (config : Config) (es : List Event) : Type 0 where
  pub remembered : (r : CommitWanted) → IsRemembered (run config es) r → IsSince config es r
  pub decided : (n : ℕ) (c : Committed) → MayStand (run config es) n (Record.Commit c) → IsAboveArrival config es n c

no_history : (config : Config) → History config []
unfolding run
no_history config = record {
  remembered = λ r k. absurd (asked_if_remembered (first_scene config) (start_holds config) r k);
  decided = λ n c k. absurd (elim (rests_if_decided (first_scene config) (start_holds config) n c k) as (λ x. ⊥) [ inl none ↦ none | inr rests ↦ rests.asked ]);
}

front_is_fair : (config : Config) (es more : List Event) → lawful config (es ++ more) ≡ true → lawful config es ≡ true
unfolding lawful
front_is_fair config es more k = lawful_front (start config) es more k

module _ (config : Config) (es : List Event) (e : Event) (fair : lawful config (es ++ e ∷ []) ≡ true) (h : History config es) where
  before : lawful config es ≡ true
  before = front_is_fair config es (e ∷ []) fair

  behind : run config (es ++ e ∷ []) ≡ (happens (run config es) e).0
  unfolding run
  behind = run_on (start config) es (e ∷ [])

  at_it : Explains (run config es) e
  unfolding run lawful
  at_it = explains (run config es) (every_run_holds is_steady config es before) (is_steady config es before) e (last_may (start config) es e fair)

  listed_more : (front : List Event) (x : Event) (back : List Event) → es ≡ front ++ x ∷ back → es ++ e ∷ [] ≡ front ++ x ∷ (back ++ e ∷ [])
  listed_more front x back is = ap (λ l. l ++ e ∷ []) is ∙ append_assoc front (x ∷ back) (e ∷ [])

  -- the world before the event, from an event before it
  from_there : (front : List Event) (x : Event) (back : List Event) → es ≡ front ++ x ∷ back → run config es ≡ run_from (run config front) (x ∷ back)
  unfolding run
  from_there front x back is = ap (run_from (start config)) is ∙ run_on (start config) front (x ∷ back)

  remembered_now : (r : CommitWanted) → IsRemembered (happens (run config es) e).0 r → IsSince config (es ++ e ∷ []) r
  remembered_now r k = elim (at_it.remembered r k) [
    | inl old ↦ let s = h.remembered r old in record {
      front = s.front;
      event = s.event;
      back = s.back ++ e ∷ [];
      listed = listed_more s.front s.event s.back s.listed;
      asks = s.asks;
      through = through_more r (run config s.front) (s.event ∷ s.back) e s.through
          (subst (λ v. IsRemembered (happens v e).0 r) (from_there s.front s.event s.back s.listed) k);
    }
    | inr new ↦ record { front = es; event = e; back = []; listed = refl; asks = new; through = (k, tt) }
  ]

  decided_now : (n : ℕ) (c : Committed) → MayStand (happens (run config es) e).0 n (Record.Commit c) → IsAboveArrival config (es ++ e ∷ []) n c
  decided_now n c k = elim (at_it.decided n c k) [
    | inl old ↦ let a = h.decided n c old in record {
      front = a.front;
      event = a.event;
      back = a.back ++ e ∷ [];
      listed = listed_more a.front a.event a.back a.listed;
      latest = a.latest;
      asks = a.asks;
      until = until_more (request_for n c a.latest) (Record.Commit c) (run config a.front) (a.event ∷ a.back) e a.until;
      honest = a.honest;
      above = a.above;
    }
    | inr new ↦ elim new.1.asked [
      | inl old ↦ let s = h.remembered (request_for n c new.1.latest) old in record {
        front = s.front;
        event = s.event;
        back = s.back ++ e ∷ [];
        listed = listed_more s.front s.event s.back s.listed;
        latest = new.1.latest;
        asks = s.asks.asks;
        until = until_now (request_for n c new.1.latest) (Record.Commit c) (run config s.front) (s.event ∷ s.back) e s.through
            (subst (λ v. IsAppended v (happens v e).0 n (Record.Commit c)) (from_there s.front s.event s.back s.listed) new.0);
        honest = s.asks.honest;
        above = new.1.above;
      }
      | inr asks ↦ record {
        front = es;
        event = e;
        back = [];
        listed = refl;
        latest = new.1.latest;
        asks = asks.asks;
        until = inl new.0;
        honest = asks.honest;
        above = new.1.above;
      }
    ]
  ]

  one_more : History config (es ++ e ∷ [])
  one_more = record {
    remembered = λ r k. remembered_now r (subst (λ v. IsRemembered v r) behind k);
    decided = λ n c k. decided_now n c (subst (λ v. MayStand v n (Record.Commit c)) behind k);
  }

grows : (config : Config) (es more : List Event) → lawful config (es ++ more) ≡ true → History config es → History config (es ++ more)
grows config es [] fair h = subst (History config) (sym (append-nil es)) h
grows config es (e ∷ more) fair h =
    let same = append_assoc es (e ∷ []) more in
    let fair_so : lawful config ((es ++ e ∷ []) ++ more) ≡ true = subst (λ l. lawful config l ≡ true) (sym same) fair in
    subst (History config) same (grows config (es ++ e ∷ []) more fair_so (one_more config es e (front_is_fair config (es ++ e ∷ []) more fair_so) h))

pub every_decision_rests : (config : Config) (es : List Event) → lawful config es ≡ true → (n : ℕ) (c : Committed) →
    MayStand (run config es) n (Record.Commit c) → IsAboveArrival config es n c
every_decision_rests config es fair = (grows config [] es fair (no_history config)).decided
