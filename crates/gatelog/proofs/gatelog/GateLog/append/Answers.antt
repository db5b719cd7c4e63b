use Rattle.std.proofs.Common.{◌≡◌, inl, inr, ◌+◌, ℕ, List, Bool, true, false, Ok, length, sym, ◌∙◌, ap, subst, refl, arith}
use Rattle.std.specs.Prelude.{IsTrue, nat_lt}
use Rattle.std.proofs.lemmas.Bool.{false≢true}
use Rattle.units.specs.declared.fault.Fault.{Fault}
use Rattle.disk.specs.File.{surface}
use Rattle.disk.specs.Planned.{IsAsPlanned}
use Rattle.record.specs.declared.record.Record.{Record}
use Rattle.frames.specs.Placed.{Placed}
use Rattle.frames.specs.Calls.{fails_in_append}
use Rattle.gatelog.specs.Frames.{next_gate, staged_bytes}
use Rattle.gatelog.specs.Log.{log, ends_at}
use Rattle.frames.proofs.Calls.{planned_err, as_err}
use Rattle.gatelog.proofs.Images.{bytes-size}
use Rattle.gatelog.proofs.gatelog.GateLog.append.Goals as goal

-- what went well as planned did so whatever it gives
still_ok : {T S : Type 0} (failed : Bool) (value : T) (other : S) → IsAsPlanned {T = T} {E = Fault} failed (Ok value)
    → IsAsPlanned {T = S} {E = Fault} failed (Ok other)
still_ok true value other is = is
still_ok false value other is = is

pub write_frame-requires-clause-synced : goal.write_frame-requires-clause-synced
write_frame-requires-clause-synced g c keeps = c.args.self.now.synced c.if-self.false keeps

pub write_frame-requires-clause-whole : goal.write_frame-requires-clause-whole
write_frame-requires-clause-whole g c keeps =
    subst (λ (n : ℕ). IsTrue (ends_at (surface (g.D.Disk.file c.args.self.now.disk)).seen n)) (sym c.requires)
    (c.args.self.now.whole c.if-self.false keeps)

-- where the next gate is
next-is : (gate count : ℕ) (item : Record) (bytes : List ℕ) (staged : Placed) → bytes ≡ staged_bytes item → count ≡ length bytes →
    ◌≡◌ {A = Placed} (record { offset = gate; item = item }) staged → gate + count ≡ next_gate staged.offset staged.item
next-is gate count item bytes staged bytes-are len is =
    let here : gate + count ≡ next_gate gate item = omega (arith, bytes-size gate item, ap length bytes-are, len) in
    here ∙ ap (λ (e : Placed). next_gate e.offset e.item) is

pub overflow_add-self : goal.overflow_add-self
overflow_add-self g c =
    let inside = c.staged.inside in
    omega (arith, bytes-size inside.gate inside.item, ap length c.staged.invariant.0, c.len.ensures, c.staged.invariant.2)

pub invariant_of-self : goal.invariant_of-self
invariant_of-self g c =
    let inside = c.staged.inside in
    let old = c.args.self.now in
    let next = next-is inside.gate c.len.result inside.item inside.bytes.items c.args.staged c.staged.invariant.0
    (omega (arith, c.len.ensures)) c.staged.view_is in
    record {
      small = omega (arith, bytes-size inside.gate inside.item, ap length c.staged.invariant.0, c.len.ensures, c.staged.invariant.2);
      synced = λ running keeps. (c.in-Ok.ensures.done keeps).0;
      whole = λ running keeps. subst (λ (n : ℕ). IsTrue (ends_at (surface (g.D.Disk.file c.write_frame.new.disk)).seen n))
          (sym next)
          (c.in-Ok.ensures.done keeps).1;
      next = λ running keeps. c.in-Ok.ensures.next old.slot keeps (old.next c.if-self.false keeps);
    }

-- no log that is stopped runs
pub returns-then-self-clause-any_moment : goal.returns-then-self-clause-any_moment
returns-then-self-clause-any_moment g c running = absurd (false≢true (sym running ∙ c.if-self.true))

pub returns-then-self-clause-begins : goal.returns-then-self-clause-begins
returns-then-self-clause-begins g c running = absurd (false≢true (sym running ∙ c.if-self.true))

pub returns-then-self-clause-read_either : goal.returns-then-self-clause-read_either
returns-then-self-clause-read_either g c running = absurd (false≢true (sym running ∙ c.if-self.true))

pub returns-then-self-clause-armed : goal.returns-then-self-clause-armed
returns-then-self-clause-armed g c call running = absurd (false≢true (sym running ∙ c.if-self.true))

pub returns-then-self-clause-planned : goal.returns-then-self-clause-planned
returns-then-self-clause-planned g c running = absurd (false≢true (sym running ∙ c.if-self.true))

pub returns-then-self-clause-cause : goal.returns-then-self-clause-cause
returns-then-self-clause-cause g c = inl (refl, c.if-self.true, refl)

pub returns-in-Ok-clause-gate : goal.returns-in-Ok-clause-gate
returns-in-Ok-clause-gate g c =
    let inside = c.staged.inside in
    next-is inside.gate c.len.result inside.item inside.bytes.items c.args.staged c.staged.invariant.0 (omega (arith, c.len.ensures)) c.staged.view_is

pub returns-in-Ok-clause-begins : goal.returns-in-Ok-clause-begins
returns-in-Ok-clause-begins g c running = c.write_frame.ensures.begins

pub returns-in-Ok-clause-durable : goal.returns-in-Ok-clause-durable
returns-in-Ok-clause-durable g c keeps image may =
    let done = c.in-Ok.ensures.done keeps in
    ap log (may.unchanged done.0.synced) ∙ done.2

pub returns-in-Ok-clause-read_either : goal.returns-in-Ok-clause-read_either
returns-in-Ok-clause-read_either g c running keeps = inr (c.in-Ok.ensures.done keeps).2

pub returns-in-Ok-clause-names : goal.returns-in-Ok-clause-names
returns-in-Ok-clause-names g c = (c.new.ensures ∙ ap (λ (e : Placed). e.item) c.staged.view_is, c.if-self.false, refl)

pub returns-in-Ok-clause-armed : goal.returns-in-Ok-clause-armed
returns-in-Ok-clause-armed g c call running keeps room plan-is =
    let told = c.in-Ok.ensures.armed call keeps room plan-is in
    (still_ok (nat_lt call 4) tt c.new.result told.0, told.1)

pub returns-in-Ok-clause-planned : goal.returns-in-Ok-clause-planned
returns-in-Ok-clause-planned g c running room =
    let told = c.in-Ok.ensures.planned room in
    (still_ok (fails_in_append (g.D.Disk.plan c.args.self.now.disk)) tt c.new.result told.0, told.1)

pub returns-in-Err-clause-begins : goal.returns-in-Err-clause-begins
returns-in-Err-clause-begins g c running = c.write_frame.ensures.begins

pub returns-in-Err-clause-read_either : goal.returns-in-Err-clause-read_either
returns-in-Err-clause-read_either g c running keeps =
    let old = c.args.self.now.disk in
    let new = c.write_frame.new.disk in
    let run = c.write_frame.ensures.any_moment keeps in
    run.each (surface (g.D.Disk.file new)).seen
    (g.met.D.Disk.counts_now new (g.D.Disk.clock old) (surface (g.D.Disk.file new)).seen run.later (g.met.D.Disk.reads_now new))

pub invariant_of-self-in-Err-1 : goal.invariant_of-self-in-Err-1
invariant_of-self-in-Err-1 g c = record {
  small = c.args.self.now.small;
  synced = λ running. absurd (false≢true (sym running));
  whole = λ running. absurd (false≢true (sym running));
  next = λ running. absurd (false≢true (sym running));
}

pub returns-in-Err-clause-armed : goal.returns-in-Err-clause-armed
returns-in-Err-clause-armed g c call running keeps room plan-is =
    let told = c.in-Err.ensures.armed call keeps room plan-is in
    (as_err _ (nat_lt call 4) (planned_err (Unit {0}) (nat_lt call 4) c.in-Err.fault told.0) refl, told.1)

pub returns-in-Err-clause-cause : goal.returns-in-Err-clause-cause
returns-in-Err-clause-cause g c = inr (c.in-Err.ensures.cause.0, c.if-self.false, c.in-Err.ensures.cause.1, refl)
