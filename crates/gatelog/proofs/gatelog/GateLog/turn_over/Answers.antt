use Rattle.std.proofs.Common.{inl, inr, ◌+◌, ◌∙◌, ℕ, refl, sym, subst, ap, arith}
use Rattle.std.specs.Prelude.{IsTrue, nat_lt}
use Rattle.std.proofs.lemmas.Bool.{false≢true}
use Rattle.disk.specs.File.{surface}
use Rattle.gatelog.specs.Log.{log, entries_of, ends_at}
use Rattle.gatelog.specs.Slots.{begins_in}
use Rattle.gatelog.specs.Turns.{IsNextOrNone}
use Rattle.frames.proofs.Calls.{planned_err, as_err}
use Rattle.gatelog.proofs.gatelog.GateLog.turn_over.Goals as goal

-- no log that is stopped runs
pub returns-then-self-clause-any_moment : goal.returns-then-self-clause-any_moment
returns-then-self-clause-any_moment g c running = absurd (false≢true (sym running ∙ c.if-self.true))

pub returns-then-self-clause-read_either : goal.returns-then-self-clause-read_either
returns-then-self-clause-read_either g c running = absurd (false≢true (sym running ∙ c.if-self.true))

pub returns-then-self-clause-armed : goal.returns-then-self-clause-armed
returns-then-self-clause-armed g c call running = absurd (false≢true (sym running ∙ c.if-self.true))

pub returns-then-self-clause-planned : goal.returns-then-self-clause-planned
returns-then-self-clause-planned g c running = absurd (false≢true (sym running ∙ c.if-self.true))

pub returns-then-self-clause-cause : goal.returns-then-self-clause-cause
returns-then-self-clause-cause g c = inl (refl, c.if-self.true, refl)

pub write_area-requires-clause-whole : goal.write_area-requires-clause-whole
write_area-requires-clause-whole g c keeps =
    let old = c.args.self.now in
    subst (λ (n : ℕ). IsTrue (ends_at (surface (g.D.Disk.file old.disk)).seen n)) (sym c.requires.gate) (old.whole c.if-self.false keeps)

pub write_area-requires-clause-next : goal.write_area-requires-clause-next
write_area-requires-clause-next g c keeps =
    let old = c.args.self.now in
    subst (λ (n : ℕ). IsNextOrNone (surface (g.D.Disk.file old.disk)).seen n) (sym c.requires.slot) (old.next c.if-self.false keeps)

pub invariant_of-self : goal.invariant_of-self
invariant_of-self g c =
    let seen = (surface (g.D.Disk.file c.write_area.new.disk)).seen in
    record {
      small = omega (arith, c.end-self.ensures.small);
      synced = λ running keeps. (c.in-Ok.ensures.done keeps).0;
      whole = λ running keeps. subst (λ (n : ℕ). IsTrue (ends_at seen n)) (sym c.end-self.ensures.end) (c.in-Ok.ensures.done keeps).2;
      next = λ running keeps. subst (λ (n : ℕ). IsNextOrNone seen (n + 1)) c.requires.slot (c.in-Ok.ensures.done keeps).1;
    }

pub returns-in-Ok-clause-durable : goal.returns-in-Ok-clause-durable
returns-in-Ok-clause-durable g c keeps image left =
    let done = c.in-Ok.ensures.done keeps in
    ap log (left.unchanged done.0.synced) ∙ ap entries_of done.3.read

pub returns-in-Ok-clause-read : goal.returns-in-Ok-clause-read
returns-in-Ok-clause-read g c keeps = ap entries_of (c.in-Ok.ensures.done keeps).3.read

pub returns-in-Ok-clause-begins : goal.returns-in-Ok-clause-begins
returns-in-Ok-clause-begins g c keeps image left =
    let done = c.in-Ok.ensures.done keeps in
    ap begins_in (left.unchanged done.0.synced) ∙ done.3.begins

pub returns-in-Ok-clause-read_either : goal.returns-in-Ok-clause-read_either
returns-in-Ok-clause-read_either g c running keeps =
    let is = (c.in-Ok.ensures.done keeps).3 in
    inr (ap entries_of is.read, is.begins)

pub invariant_of-self-in-Err-1 : goal.invariant_of-self-in-Err-1
invariant_of-self-in-Err-1 g c = record {
  small = c.args.self.now.small;
  synced = λ running. absurd (false≢true (sym running));
  whole = λ running. absurd (false≢true (sym running));
  next = λ running. absurd (false≢true (sym running));
}

pub returns-in-Err-clause-cause : goal.returns-in-Err-clause-cause
returns-in-Err-clause-cause g c = inr (c.in-Err.ensures.cause.0, c.if-self.false, c.in-Err.ensures.cause.1, refl)

pub returns-in-Err-clause-read_either : goal.returns-in-Err-clause-read_either
returns-in-Err-clause-read_either g c running keeps =
    let new = c.write_area.new.disk in
    let seen = (surface (g.D.Disk.file new)).seen in
    let run = c.in-Err.ensures.any_moment keeps in
    run.each seen (g.met.D.Disk.counts_now new (g.D.Disk.clock c.args.self.now.disk) seen run.later (g.met.D.Disk.reads_now new))

pub returns-in-Err-clause-armed : goal.returns-in-Err-clause-armed
returns-in-Err-clause-armed g c call running keeps room plan-is =
    let told = c.in-Err.ensures.armed call keeps room plan-is in
    (as_err _ (nat_lt call 5) (planned_err (Unit {0}) (nat_lt call 5) c.in-Err.fault told.0) refl, told.1)
