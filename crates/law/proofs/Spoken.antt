-- What one act says: new answers to reads are held at that moment, and new lines of reads are of answers that were taken.
use Rattle.std.proofs.Common.{◌≡◌, ℕ, suc, ◌+◌, Bool, true, false, cond, nat_lt, List, [], ◌++◌, Option, Some, None, refl, sym, ap, subst, ◌∙◌, arith}
use Rattle.std.specs.Prelude.{Ok, Err, option_to_list}
use Rattle.std.proofs.lemmas.List.{append-nil}
use Rattle.units.specs.Limits.{most_rows}
use Rattle.units.specs.Ids.{Id}
use Rattle.units.specs.Keys.{Bytes}
use Rattle.units.specs.declared.fault.Fault.TheVariants.{Stopped, TimeSpent}
use Rattle.units.specs.declared.setup.Setup.{Setup}
use Rattle.truetime.specs.Interval.{Interval}
use Rattle.record.specs.Facts.{Facts, facts_of}
use Rattle.record.specs.Records.{is_below}
use Rattle.record.specs.declared.record.Record.{Record}
use Rattle.message.specs.declared.message.Address.{Address}
use Rattle.message.specs.declared.message.Answer.TheVariants.{Holds, Refused}
use Rattle.message.specs.declared.message.Envelope.{Envelope}
use Rattle.message.specs.declared.message.Input.{Input}
use Rattle.message.specs.declared.message.Message.{Message}
use Rattle.message.specs.declared.message.ReadAnswer.{ReadAnswer}
use Rattle.protocol.specs.Plan.{time_limit, Plan, Planned, start_of_step, carried}
use Rattle.world.proofs.EveryRun.{WellShard, shard_with}
use Rattle.world.proofs.Rooms.{done_wanted}
use Rattle.protocol.specs.Rows.{Memory, Row, find_row, rebuilt}
use Rattle.protocol.specs.Step.{step_within, Stepped, Refuses, Does, plan_input, stepped, facts_after}
use Rattle.protocol.proofs.Each.{told_plan}
use Rattle.law.specs.Among.{IsAmong}
use Rattle.world.specs.World.{ShardNow, State, View, Area, Unsure, Runs, IsStopped, IsDown, read_log, shown_records, step_of_opening, input_of, step_with}
use Rattle.world.specs.World.{effect, wanted, finished, gate_of, has_place, new_area, read_area, step_of_turnover}
use Rattle.world.specs.declared.event.Doing.{Doing}
use Rattle.law.proofs.Members.{all_at}
use Rattle.protocol.specs.Sound.{is_open}
use Rattle.law.proofs.Answering.{told_is_held, told_row}
use Rattle.law.proofs.Fair.{AnswerFair, IsFairInput, MessageFair, PlanFair, fairly}
use Rattle.law.proofs.HeldRead.{Held}

-- ---- what a step tells

-- a transaction that no input is of
away : Input → Id
away (Input.Deliver (Message.Prepare p)) = record { run = suc (p.txn).run; number = 0 }
away (Input.Deliver (Message.Commit c)) = record { run = suc (c.txn).run; number = 0 }
away _ = record { run = 0; number = 0 }

not_itself : (t : Id) → t ≡ record { run = suc t.run; number = 0 } → ⊥
not_itself t e = let r : t.run ≡ suc t.run = ap (λ (z : Id). z.run) e in omega (arith, r)

away_fair : (k : Bytes) (e : ℕ) (i : Input) → IsFairInput (away i) k e i
unfolding away
away_fair k e (Input.Deliver (Message.Prepare p)) = λ same there. absurd (not_itself p.txn same)
away_fair k e (Input.Deliver (Message.Commit c)) = λ same there. absurd (not_itself c.txn same)
away_fair k e _ = tt

-- each value in the outbox of a plan is told fairly
told_fairly : (setup : Setup) (f : Facts) (m : Memory) (now : Interval) (i : Input) (p : Plan) (to : Address) (a : ReadAnswer) (x : Option Bytes) →
    plan_input setup (start_of_step most_rows setup f m) now i ≡ Ok p →
    IsAmong p.outbox (record { to = to; message = Message.ReadAnswer a }) → a.answer ≡ Holds x → AnswerFair (start_of_step most_rows setup f m) p a x
told_fairly setup f m now i p to a x is there holds =
    let fair : PlanFair (away i) [] f.epoch (start_of_step most_rows setup f m) p =
    told_plan (fairly (away i) [] f.epoch (start_of_step most_rows setup f m) (λ u held phase st same in_it. refl) setup now i (away_fair [] f.epoch i)) is in
    subst (λ z. elim z as (λ q. Type 0) [ Holds y ↦ AnswerFair (start_of_step most_rows setup f m) p a y | Refused ↦ Unit {0} ]) holds
    (all_at (λ (e : Envelope). MessageFair (start_of_step most_rows setup f m) p e.message) p.outbox
    (record { to = to; message = Message.ReadAnswer a }) fair.told there)

-- a shard that runs holds a read, by an open row of the reader, which is not retired
pub record HoldsRead (s : ShardNow) (a : ReadAnswer) (x : Option Bytes) : Type 0 where
  pub memory : Memory
  pub runs : s.state ≡ Runs memory
  pub held : Held a.txn a.key a.epoch x (facts_of s.log) memory
  pub row : Row
  pub found : find_row memory.rows a.txn ≡ Some row
  pub opened : is_open row.phase ≡ true
  pub kept : is_below (facts_of s.log).retired a.txn ≡ false

parts_of_does : (l1 l2 : Option Record) (m1 m2 : Memory) (o1 o2 : List Envelope) → Does l1 m1 o1 ≡ Does l2 m2 o2 → (l1 ≡ l2) × (m1 ≡ m2) × (o1 ≡ o2)
parts_of_does l1 l2 m1 m2 o1 o2 e = (cc, cc, cc)

-- what a running shard tells it holds after the step
step_holds : (setup : Setup) (log : List Record) (area : Area) (unsure : Unsure) (st : State) (views : List View) (o : Option (Interval × Input))
    (doing : Doing)
    (logged : Option Record) (memory : Memory) (out : List Envelope) (to : Address) (a : ReadAnswer) (x : Option Bytes) →
    WellShard setup (shard_with log area unsure st views) → (elim st as (λ z. Stepped) [
      | Runs m ↦ step_with setup (facts_of log) m o
      | _ ↦
          Refuses Stopped
    ]) ≡ Does logged memory out →
    IsAmong out (record { to = to; message = Message.ReadAnswer a }) → a.answer ≡ Holds x → (a.from ≡ setup.shard)
    × HoldsRead (finished (shard_with log area unsure st views) doing logged memory) a x
unfolding finished step_within
step_holds setup log area unsure (IsStopped m) views o doing logged memory out to a x well e there holds = cc
step_holds setup log area unsure IsDown views o doing logged memory out to a x well e there holds = cc
step_holds setup log area unsure (Runs m) views None doing logged memory out to a x well e there holds = cc
step_holds setup log area unsure (Runs m) views (Some q) doing logged memory out to a x well e there holds =
    by_plan (plan_input setup (start_of_step most_rows setup (facts_of log) m) q.0 q.1) refl e
  where
    by_plan : (pl : Planned) → plan_input setup (start_of_step most_rows setup (facts_of log) m) q.0 q.1 ≡ pl → stepped m pl ≡ Does logged memory out →
        (a.from ≡ setup.shard) × HoldsRead (finished (shard_with log area unsure (Runs m) views) doing logged memory) a x
    by_plan (Err f) is k = cc
    by_plan (Ok p) is k =
        let same = parts_of_does p.logged logged (carried p m) memory p.outbox out k in
        let fair : AnswerFair (start_of_step most_rows setup (facts_of log) m) p a x = told_fairly setup (facts_of log) m q.0 q.1 p to a x is
        (subst (λ l. IsAmong l (record { to = to; message = Message.ReadAnswer a })) (sym same.2) there) holds in
        let row = told_row setup (facts_of log) m p a x fair in
        let none : logged ≡ None = sym same.0 ∙ row.3 in
        let log_is : (log ++ shown_records unsure) ++ option_to_list logged ≡ log = ap (λ z. (log ++ shown_records unsure) ++ option_to_list z) none
        ∙ append-nil (log ++ shown_records unsure) ∙ ap (λ z. log ++ shown_records z) well.state.1 ∙ append-nil log in
        let facts_is : facts_after (facts_of log) p.logged ≡ facts_of ((log ++ shown_records unsure) ++ option_to_list logged) =
        ap (facts_after (facts_of log)) row.3 ∙ sym (ap facts_of log_is) in (
          fair.from,
          record {
            memory = memory;
            runs = refl;
            held = subst (λ z. Held a.txn a.key a.epoch x (facts_of ((log ++ shown_records unsure) ++ option_to_list logged)) z) same.1
                (subst (λ z. Held a.txn a.key a.epoch x z (carried p m)) facts_is (told_is_held setup (facts_of log) m p a x fair));
            row = row.0;
            found = subst (λ z. find_row z.rows a.txn ≡ Some row.0) same.1 row.1;
            opened = row.2;
            kept = subst (λ (z : Facts). is_below z.retired a.txn ≡ false) (sym (ap facts_of log_is)) fair.kept;
          },
        )

opening_tells : (f : Facts) (logged : Option Record) (memory : Memory) (out : List Envelope) (e : Envelope) →
    step_of_opening f ≡ Does logged memory out → IsAmong out e → ⊥
unfolding step_of_opening
opening_tells f logged memory out e is there = by_test (nat_lt f.epoch time_limit) is
  where
    by_test : (b : Bool) → cond b (Does (Some (Record.Opened (f.epoch + 1))) (rebuilt f) []) (Refuses TimeSpent) ≡ Does logged memory out → ⊥
    by_test true k = subst (λ l. IsAmong l e) (sym (parts_of_does (Some (Record.Opened (f.epoch + 1))) logged (rebuilt f) memory [] out k).2) there
    by_test false k = cc

wanted_holds : (setup : Setup) (bag : List Envelope) (s : ShardNow) (doing : Doing) (logged : Option Record) (memory : Memory)
    (out : List Envelope) (to : Address) (a : ReadAnswer) (x : Option Bytes) →
    WellShard setup s → wanted setup bag s doing ≡ Does logged memory out → IsAmong out (record { to = to; message = Message.ReadAnswer a }) →
    a.answer ≡ Holds x → (a.from ≡ setup.shard) × HoldsRead (finished s doing logged memory) a x
unfolding wanted
wanted_holds setup bag s Doing.Open logged memory out to a x well e there holds = absurd (by_state s.state e)
  where
    by_state : (st : State) → (elim st as (λ z. Stepped) [ Runs m ↦ Refuses Stopped | _ ↦ step_of_opening (facts_of (read_log s)) ]) ≡
        Does logged memory out → ⊥
    by_state (Runs m) k = cc
    by_state (IsStopped m) k = opening_tells (facts_of (read_log s)) logged memory out (record { to = to; message = Message.ReadAnswer a }) k there
    by_state IsDown k = opening_tells (facts_of (read_log s)) logged memory out (record { to = to; message = Message.ReadAnswer a }) k there
wanted_holds setup bag s (Doing.Take m now) logged memory out to a x well e there holds = step_holds setup s.log s.area s.unsure s.state s.views
    (input_of bag (Doing.Take m now)) (Doing.Take m now) logged memory out to a x well e there holds
wanted_holds setup bag s (Doing.Resume now) logged memory out to a x well e there holds = step_holds setup s.log s.area s.unsure s.state s.views
    (input_of bag (Doing.Resume now)) (Doing.Resume now) logged memory out to a x well e there holds
wanted_holds setup bag s (Doing.Settle t now) logged memory out to a x well e there holds =
    step_holds setup s.log s.area s.unsure s.state s.views (input_of bag (Doing.Settle t now)) (Doing.Settle t now) logged memory out to a x well e there holds
wanted_holds setup bag s (Doing.Advance at now) logged memory out to a x well e there holds =
    step_holds setup s.log s.area s.unsure s.state s.views (input_of bag (Doing.Advance at now)) (Doing.Advance at now) logged memory out to a x well e
    there holds
wanted_holds setup bag s (Doing.Forget at now) logged memory out to a x well e there holds =
    step_holds setup s.log s.area s.unsure s.state s.views (input_of bag (Doing.Forget at now)) (Doing.Forget at now) logged memory out to a x well e
    there holds
wanted_holds setup bag s (Doing.Retire below now) logged memory out to a x well e there holds =
    step_holds setup s.log s.area s.unsure s.state s.views (input_of bag (Doing.Retire below now)) (Doing.Retire below now) logged memory out to a x well e
    there holds
wanted_holds setup bag s (Doing.Nudge t now) logged memory out to a x well e there holds =
    step_holds setup s.log s.area s.unsure s.state s.views (input_of bag (Doing.Nudge t now)) (Doing.Nudge t now) logged memory out to a x well e there holds
wanted_holds setup bag s Doing.Turn logged memory out to a x well e there holds = absurd (by_state s.state e)
  where
    told : Envelope
    told = record { to = to; message = Message.ReadAnswer a }

    by_place : (m : Memory) (b : Bool) → cond b (Does None m []) (Refuses TimeSpent) ≡ Does logged memory out → ⊥
    by_place m true k = subst (λ es. IsAmong es told) (sym (parts_of_does None logged m memory [] out k).2) there
    by_place m false k = cc

    by_state : (st : State) → (elim st as (λ z. Stepped) [ Runs m ↦ step_of_turnover s m | _ ↦ Refuses Stopped ]) ≡ Does logged memory out → ⊥
    by_state (Runs m) k = by_place m (has_place (read_area s).slot (new_area s)) k
    by_state (IsStopped m) k = cc
    by_state IsDown k = cc

pub doing_holds : (setup : Setup) (bag : List Envelope) (s : ShardNow) (doing : Doing) (logged : Option Record) (memory : Memory)
    (out : List Envelope) (to : Address) (a : ReadAnswer) (x : Option Bytes) →
    WellShard setup s → effect setup bag s doing ≡ Does logged memory out → IsAmong out (record { to = to; message = Message.ReadAnswer a }) →
    a.answer ≡ Holds x → (a.from ≡ setup.shard) × HoldsRead (finished s doing logged memory) a x
unfolding effect
doing_holds setup bag s doing logged memory out to a x well e there holds =
    wanted_holds setup bag s doing logged memory out to a x well
    (done_wanted (gate_of (read_area s)) (wanted setup bag s doing) logged memory out e) there holds
