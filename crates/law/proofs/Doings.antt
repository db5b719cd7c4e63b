-- What a shard does rests on something.
use Rattle.std.proofs.Common.{◌≡◌, inl, inr, ℕ, zero, suc, nat_le, ◌+◌, ◌<◌, ◌≤◌, Bool, true, false, cond, ◌&&◌, nat_eq, nat_lt, List, [], ◌∷◌, Option, Some}
use Rattle.std.proofs.Common.{None, slice_get, refl, sym, ap, subst, ◌∙◌, arith}
use Rattle.std.specs.Prelude.{Ok, Err, option_map}
use Rattle.std.specs.List.{AllByRecursion}
use Rattle.std.proofs.lemmas.Bool.{leb-true, eqb-true, and_parts}
use Rattle.units.specs.Limits.{most_rows}
use Rattle.units.specs.Lists.{when}
use Rattle.units.specs.Ids.{Id}
use Rattle.units.specs.Keys.{Bytes}
use Rattle.units.specs.declared.fault.Fault.TheVariants.{TimeSpent}
use Rattle.units.specs.declared.writes.Write.{Write}
use Rattle.units.proofs.ByIdLaws.{all-with}
use Rattle.units.proofs.ListLaws.{all-keep}
use Rattle.truetime.specs.Interval.{Interval}
use Rattle.record.specs.Facts.{facts_of}
use Rattle.record.specs.declared.record.Record.{Record}
use Rattle.message.specs.declared.message.Address.{Address}
use Rattle.message.specs.declared.message.Address.TheVariants.{Shard, Session}
use Rattle.message.specs.declared.message.Envelope.{Envelope}
use Rattle.message.specs.declared.message.Input.{Input}
use Rattle.message.specs.declared.message.Message.{Message}
use Rattle.protocol.specs.Rows.{Memory, Row, rebuilt, without_row, without_rows}
use Rattle.protocol.specs.Plan.{time_limit, start_of_step, Plan, Planned, Change, Keeps, Retires, Ends, Drops, Puts, carried, after_change}
use Rattle.protocol.specs.Step.{step_within, Stepped, Refuses, Does, plan_input, stepped}
use Rattle.protocol.proofs.RowTable.{with_row-is}
use Rattle.world.specs.World.{ShardNow, Runs, Unsure, Nothing, Shown, read_log, shown_records, setup_of, step_of_opening, input_of, step_with}
use Rattle.world.specs.Lawful.{goes_to, may_do}
use Rattle.world.specs.declared.event.Act.{Act}
use Rattle.world.specs.declared.event.Doing.{Doing}
use Rattle.law.specs.Among.{IsAmong}
use Rattle.law.specs.Evidence.{Scene, Sent, CommitAsked, BeganBy, PhaseEvidence, RowsEvidence, AllTold, StateEvidence, Holds}
use Rattle.world.specs.Headline.{IsUnsure, doing_of}
use Rattle.law.proofs.Logged.{AreLogged, rests_logged}
use Rattle.law.proofs.Members.{among_cases, among_left}
use Rattle.world.proofs.Places.{with_record}
use Rattle.law.proofs.Moves.{LoggedEvidence, ChangeEvidence, PlannedEvidence}
use Rattle.law.proofs.Picked.{some_same}
use Rattle.law.proofs.Steps.{Knows, Heard, IsAsked, planned}
use Rattle.law.proofs.Grows.{Within, Grows, rows_stay}
use Rattle.law.proofs.Orderly.{IsOrderly}
use Rattle.law.proofs.Recorded.{rebuilt_rows, statuses}

-- what a step that is done rests on
pub record DoesEvidence (sc : Scene) (n : ℕ) (log : List Record) (logged : Option Record) (memory : Memory) (out : List Envelope) : Type 0 where
  pub rests : LoggedEvidence sc log n logged
  pub rows : RowsEvidence sc (with_record log logged) n memory.rows
  pub told : AllTold (with_record log logged) sc.now n out

abbrev pub SteppedEvidence : Scene → ℕ → List Record → Stepped → Type 0
SteppedEvidence sc n log (Refuses f) = Unit {0}
SteppedEvidence sc n log (Does logged memory out) = DoesEvidence sc n log logged memory out

-- the same scene
pub grows_same : (sc : Scene) → Grows sc sc
grows_same sc = record {
  sent = λ e h. h;
  lines = λ l h. h;
  times = λ i time h. h;
  asked = λ r h. h;
  decided = λ n c h. h;
  now = omega arith;
  closed = λ t messages h. h;
  logs = λ n r h. h;
}

pub within_record : (log : List Record) (o : Option Record) → Within log (with_record log o)
within_record log None r h = h
within_record log (Some q) r h = among_left log (q ∷ []) r h

-- ---- the rows after a plan

module _ (sc : Scene) (log : List Record) (n : ℕ) where
  abbrev Fits : Row → Type 0
  Fits r = PhaseEvidence sc log n r.txn r.phase

  rows_without : (rows : List Row) (ts : List Id) → RowsEvidence sc log n rows → RowsEvidence sc log n (without_rows rows ts)
  rows_without rows [] h = h
  rows_without rows (t ∷ ts) h = rows_without (without_row rows t) ts (all-keep Fits _ rows h)

  rows_changed : (c : Change) (rows : List Row) → ChangeEvidence sc log n c → RowsEvidence sc log n rows → RowsEvidence sc log n (after_change c rows)
  unfolding after_change
  rows_changed Keeps rows e h = h
  rows_changed (Retires below) rows e h = h
  rows_changed (Ends t) rows e h = all-keep Fits _ rows h
  rows_changed (Drops t) rows e h = all-keep Fits _ rows h
  rows_changed (Puts t needs phase) rows e h =
      subst (AllByRecursion Fits) (sym (with_row-is rows _)) (all-with Fits (λ (q : Row). q.txn) rows _ e h)

  pub rows_carried : (p : Plan) (m : Memory) → ChangeEvidence sc log n p.change → RowsEvidence sc log n m.rows → RowsEvidence sc log n (carried p m).rows
  unfolding carried
  rows_carried p m e h = rows_changed p.change (without_rows m.rows p.wounded) e (rows_without m.rows p.wounded h)

-- a plan with evidence is a step with evidence
stepped_evidence : (sc : Scene) (log : List Record) (n : ℕ) (m : Memory) → RowsEvidence sc log n m.rows → (p : Planned) → PlannedEvidence sc log n p →
    SteppedEvidence sc n log (stepped m p)
stepped_evidence sc log n m rows (Err f) e = tt
stepped_evidence sc log n m rows (Ok p) e = record {
  rests = e.each.logged;
  rows = rows_carried sc (with_record log p.logged) n p m e.each.change (rows_stay sc sc (grows_same sc) log (with_record log p.logged)
      (within_record log p.logged) n m.rows rows);
  told = e.each.told;
}

-- ---- what is given to a shard

pub get_among : {A : Type 0} (xs : List A) (i : ℕ) (x : A) → slice_get xs i ≡ Some x → IsAmong xs x
get_among [] i x e = cc
get_among (y ∷ ys) zero x e = inl (some_same y x e)
get_among (y ∷ ys) (suc i) x e = inr (get_among ys i x e)

-- a reading and an input were honestly given
abbrev pub Given : Scene → ℕ → Option (Interval × Input) → Type 0
Given sc n None = Unit {0}
Given sc n (Some p) = Heard sc n p.0 p.1 × (p.0.earliest ≤ sc.now) × (sc.now ≤ p.0.latest)

pub sent_to : (sc : Scene) (n m : ℕ) (e : Envelope) → slice_get sc.world.bag m ≡ Some e → goes_to n e ≡ true → Sent sc.world n e.message
sent_to sc n m e is goes = by_address e.to refl goes
  where
    by_address : (a : Address) → e.to ≡ a → (elim a as (λ x. Bool) [ Shard k ↦ nat_eq k n | Session t ↦ false ]) ≡ true → Sent sc.world n e.message
    by_address (Shard k) same h =
        subst (λ (x : Address). IsAmong sc.world.bag (record { to = x; message = e.message })) (same ∙ ap Shard (eqb-true k n h))
        (get_among sc.world.bag m e is)
    by_address (Session t) same h = cc

honest_given : (sc : Scene) (now : Interval) → (nat_le now.earliest sc.now && nat_le sc.now now.latest) ≡ true → (now.earliest ≤ sc.now) × (sc.now ≤ now.latest)
honest_given sc now h = let p = and_parts _ _ h in (leb-true _ _ p.0, leb-true _ _ p.1)

-- what a doing asks of its shard is asked now
abbrev pub IsAskedNow : Scene → ℕ → Doing → Type 0
IsAskedNow sc n doing = (p : Interval × Input) → input_of sc.world.bag doing ≡ Some p → IsAsked sc n p.0 p.1

-- and so is what an act asks of one
abbrev pub IsAskedBy : Scene → Act → Type 0
IsAskedBy sc a = (n : ℕ) (doing : Doing) → doing_of sc.world a ≡ Some (n, doing) → IsAskedNow sc n doing

-- a delivery to a shard is a doing of it
pub delivers_to : (sc : Scene) (m : ℕ) (now : Interval) (e : Envelope) (n : ℕ) → slice_get sc.world.bag m ≡ Some e → e.to ≡ Shard n →
    doing_of sc.world (Act.Deliver m now) ≡ Some (n, Doing.Take m now)
delivers_to sc m now e n is goes =
    ap
    (λ o. elim o as (λ x. Option (ℕ × Doing)) [
      | None ↦ None
      | Some x ↦ elim x.to as (λ y. Option (ℕ × Doing)) [ Shard k ↦ Some (k, Doing.Take m now) | Session t ↦ None ]
    ]) is
    ∙ ap (λ a. elim a as (λ y. Option (ℕ × Doing)) [ Shard k ↦ Some (k, Doing.Take m now) | Session t ↦ None ]) goes

-- a message that was put out for a shard is honestly given to it
pub delivered : (sc : Scene) (m : ℕ) (now : Interval) (e : Envelope) (n : ℕ) → slice_get sc.world.bag m ≡ Some e → e.to ≡ Shard n →
    (sc.now ≤ now.latest) × (now.earliest ≤ sc.now) → IsAskedBy sc (Act.Deliver m now) → Given sc n (input_of sc.world.bag (Doing.Take m now))
delivered sc m now e n is goes honest asks =
    let hand = ap (option_map (λ x. (now, Input.Deliver x.message))) is in
    let sent : Sent sc.world n e.message = subst (λ (a : Address). IsAmong sc.world.bag (record { to = a; message = e.message })) goes
    (get_among sc.world.bag m e is) in
    subst (Given sc n) (sym hand)
    ((sent, asks n (Doing.Take m now) (delivers_to sc m now e n is goes) (now, Input.Deliver e.message) hand), honest.1, honest.0)

pub given : (sc : Scene) (n : ℕ) (doing : Doing) → may_do sc.world sc.now n doing ≡ true → IsAskedNow sc n doing → Given sc n (input_of sc.world.bag doing)
given sc n (Doing.Take m now) h asks =
    by_message (slice_get sc.world.bag m) refl (honest_given sc now (and_parts _ _ h).0) (and_parts _ _ h).1
  where
    by_message : (o : Option Envelope) → slice_get sc.world.bag m ≡ o → (now.earliest ≤ sc.now) × (sc.now ≤ now.latest) → when (goes_to n) o ≡ true →
        Given sc n (option_map (λ e. (now, Input.Deliver e.message)) o)
    by_message None is honest goes = tt
    by_message (Some e) is honest goes =
        ((sent_to sc n m e is goes, asks (now, Input.Deliver e.message) (ap (option_map (λ x. (now, Input.Deliver x.message))) is)), honest.0, honest.1)
given sc n (Doing.Resume now) h asks = let p = honest_given sc now h in (tt, p.0, p.1)
given sc n (Doing.Settle t now) h asks = let p = honest_given sc now h in (tt, p.0, p.1)
given sc n (Doing.Advance at now) h asks = let p = honest_given sc now (and_parts _ _ h).0 in (tt, p.0, p.1)
given sc n (Doing.Forget at now) h asks = let p = honest_given sc now (and_parts _ _ h).0 in (tt, p.0, p.1)
given sc n (Doing.Retire below now) h asks = let p = honest_given sc now h in (tt, p.0, p.1)
given sc n (Doing.Nudge t now) h asks = let p = honest_given sc now h in (tt, p.0, p.1)
given sc n Doing.Turn h asks = tt
given sc n Doing.Open h asks = tt

-- ---- a doing of a shard

module _ (sc : Scene) (h : Holds sc) (n : ℕ) (s : ShardNow) (there : slice_get sc.world.shards n ≡ Some s) where
  began_by : (latest : ℕ) → sc.now ≤ latest → (t : Id) (ps : List ℕ) (rs : List Bytes) (ws : List Write) → CommitAsked sc.world n t ps rs ws →
      BeganBy sc t latest
  began_by latest later t ps rs ws asked =
      let closing = h.messages _ asked.sent in
      let began = h.clients t closing.over.client closing.over.there in
      let below = began.below in
      record { event = began.event; time = began.time; line = began.line; timed = began.timed; below = omega (arith, below, later) }

  passed_by : (from : ℕ) (t : Id) (at : ℕ) → Sent sc.world n (Message.Outcome (record { from = from; txn = t; outcome = Some at })) → at < sc.now
  passed_by from t at sent = (h.messages _ sent).told.1.passed

  -- the step of a running shard
  pub step_evidence : (m : Memory) → s.state ≡ Runs m → IsOrderly s.log → (o : Option (Interval × Input)) → Given sc n o →
      SteppedEvidence sc n s.log (step_with (setup_of sc.world.config n) (facts_of s.log) m o)
  unfolding step_within
  step_evidence m runs orderly None given_none = tt
  step_evidence m runs orderly (Some p) heard =
      let setup = setup_of sc.world.config n in
      let start = start_of_step most_rows setup (facts_of s.log) m in
      let evidence = h.shards n s there in
      let state : StateEvidence sc s n (Runs m) = subst (λ x. StateEvidence sc s n x) runs evidence.state in
      let knows : Knows sc s.log start p.0 = record {
        rows = state.0;
        statuses = statuses sc s.log n orderly evidence.records;
        honest = heard.1;
        later = heard.2;
        began = began_by p.0.latest heard.2;
        passed = passed_by;
      } in
      stepped_evidence sc s.log n m state.0 (plan_input setup start p.0 p.1) (planned sc s.log start p.0 knows setup p.1 heard.0)

  -- a read of the disk gives the kinds that steps log
  read_logged : AreLogged (read_log s)
  read_logged r k = elim (among_cases s.log (shown_records s.unsure) r k) [
    | inl sure ↦ rests_logged sc s.log n r ((h.shards n s there).records r sure)
    | inr shown ↦ rests_logged sc s.log n r ((h.shards n s there).unsure r (is_unsure s.unsure shown))
  ]
    where
      is_unsure : (u : Unsure) → IsAmong (shown_records u) r → IsUnsure u r
      is_unsure Nothing none = none
      is_unsure (Shown q) (inl same) = same
      is_unsure (Shown q) (inr none) = absurd none
      is_unsure _ none = absurd none

  -- an opening
  pub opening_evidence : SteppedEvidence sc n (read_log s) (step_of_opening (facts_of (read_log s)))
  unfolding step_of_opening
  opening_evidence = by_test (nat_lt (facts_of (read_log s)).epoch time_limit)
    where
      by_test : (b : Bool) → SteppedEvidence sc n (read_log s)
          (cond b (Does (Some (Record.Opened ((facts_of (read_log s)).epoch + 1))) (rebuilt (facts_of (read_log s))) []) (Refuses TimeSpent))
      by_test false = tt
      by_test true = record {
        rests = tt;
        rows = rows_stay sc sc (grows_same sc) (read_log s) _ (within_record (read_log s) (Some (Record.Opened ((facts_of (read_log s)).epoch + 1))))
            n _ (rebuilt_rows (read_log s) read_logged sc n);
        told = tt;
      }
