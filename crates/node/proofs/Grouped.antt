-- Inputs that are taken as a group, one after another, and the desk that they keep in step.
use Rattle.std.proofs.Common.{◌≡◌, ◌≤◌, ℕ, true, ◌&&◌, List, [], ◌∷◌, ◌++◌, take, drop, length, Option, Some, None, IfSome, refl, ap, sym, subst, ◌∙◌, arith}
use Rattle.std.proofs.Common.{append_assoc, Bor, false, ◌<◌, ◌+◌, get_or}
use mathlib.Core.Bool.{true≢false}
use Rattle.std.specs.Option.{option_copied}
use Rattle.std.specs.Prelude.{is_some}
use Rattle.std.proofs.Math.Logic.{∥∥₁_elim}
use Rattle.std.proofs.Props.{props}
use Rattle.std.proofs.lemmas.List.{append-nil, length-take-le, take_more}
use Rattle.std.proofs.lemmas.Bool.Decides.{nat_tests}
use Rattle.std.specs.List.{AllByRecursion}
use Rattle.units.specs.Keys.{Bytes}
use Rattle.units.specs.declared.fault.Fault.{Fault}
use Rattle.units.specs.declared.setup.Setup.{Setup}
use Rattle.units.specs.declared.writes.Install.{Install}
use Rattle.disk.specs.File.{File}
use Rattle.message.specs.declared.message.Input.{Input}
use Rattle.message.specs.declared.message.Envelope.{Envelope}
use Rattle.truetime.specs.Interval.{Interval}
use Rattle.protocol.specs.Showable.{IsShowable, rises_by_key}
use Rattle.protocol.specs.Step.{Stepped, Refuses, Does, step}
use Rattle.protocol.proofs.Rising.{below, below_more, rise_parts}
use Rattle.board.specs.declared.entry.BoardEntry.{BoardEntry}
use Rattle.shard.specs.Groups.{AheadView, Arrival, Batch, HasSteppedAll, IsAdded, IsAheadOf, IsLeftOut, LeadsTo, batch_of}
use Rattle.shard.specs.Look.{safe_at}
use Rattle.shard.specs.On.{CoreView, step_of}
use Rattle.node.specs.Grouped.{AreLeftOut, IsAheadWith, IsDueAt, IsOutAfter, and_unless, arrival, taken_of}
use Rattle.node.specs.InStep.{InStep}
use Rattle.node.proofs.Follow.{rise_alike, take_drop}
use Rattle.node.proofs.InStep.{count_kept, lawful_kept, same_kept}
use Rattle.node.proofs.Kept.{horizon_rises}

-- what is not there is not there as a copy
pub copied_none : {T : Type 0} (o : Option (Bor T)) → is_some o ≡ false → option_copied o ≡ None
copied_none None none = refl
copied_none (Some x) none = absurd (true≢false none)

-- ---- inputs, one after another

and_first : (a : Arrival) (rest : List Arrival) (now : Interval) (i : Input) (why : Option Fault)
    → a ∷ and_unless rest now i why ≡ and_unless (a ∷ rest) now i why
and_first a rest now i None = refl
and_first a rest now i (Some why) = refl

-- one more is taken, or refused
pub taken_more : (now : Interval) (is : List Input) (whys : List (Option Fault)) (i : Input) (why : Option Fault) → length whys ≡ length is
    → taken_of now (is ++ i ∷ []) (whys ++ why ∷ []) ≡ and_unless (taken_of now is whys) now i why
taken_more now [] [] i None same = refl
taken_more now [] [] i (Some f) same = refl
taken_more now [] (w ∷ whys) i why same = absurd (omega (arith, same))
taken_more now (x ∷ is) [] i why same = absurd (omega (arith, same))
taken_more now (x ∷ is) (None ∷ whys) i why same =
    ap (λ (l : List Arrival). arrival now x ∷ l) (taken_more now is whys i why (omega (arith, same)))
    ∙ and_first (arrival now x) (taken_of now is whys) now i why
taken_more now (x ∷ is) (Some f ∷ whys) i why same = taken_more now is whys i why (omega (arith, same))

pub left_more : {D : Type 0} (core : CoreView D) (before : List Arrival) (now : Interval) (is : List Input) (whys : List (Option Fault)) (i : Input)
    (why : Option Fault) → length whys ≡ length is → AreLeftOut core before now is whys
    → IfSome why (IsOutAfter core (before ++ taken_of now is whys) (arrival now i)) → AreLeftOut core before now (is ++ i ∷ []) (whys ++ why ∷ [])
left_more core before now [] [] i None same left out = tt
left_more core before now [] [] i (Some f) same left out =
    (subst (λ (l : List Arrival). IsOutAfter core l (arrival now i) f) (append-nil before) out, tt)
left_more core before now [] (w ∷ whys) i why same left out = absurd (omega (arith, same))
left_more core before now (x ∷ is) [] i why same left out = absurd (omega (arith, same))
left_more core before now (x ∷ is) (None ∷ whys) i why same left out =
    left_more core (before ++ arrival now x ∷ []) now is whys i why (omega (arith, same)) left
    (subst (λ (l : List Arrival). IfSome why (IsOutAfter core l (arrival now i)))
    (sym (append_assoc before (arrival now x ∷ []) (taken_of now is whys))) out)
left_more core before now (x ∷ is) (Some f ∷ whys) i why same left out =
    (left.0, left_more core before now is whys i why (omega (arith, same)) left.1 out)

-- one step more that was due
pub due_more : (now : Interval) (dues : List Arrival) (a : Arrival) → AllByRecursion (IsDueAt now) dues → IsDueAt now a
    → AllByRecursion (IsDueAt now) (dues ++ a ∷ [])
due_more now [] a all due = (due, tt)
due_more now (x ∷ dues) a all due = (all.0, due_more now dues a all.1 due)

module _ {D : Type 0} (file : D → File) (clock : D → ℕ) (since : D → ℕ → List ℕ → Type 0) (failures : D → ℕ) where
  -- why an input is refused behind those that were taken
  pub out_after : (from : CoreView D) (ahead : AheadView D) (arrivals : List Arrival) (now : Interval) (i : Input) (why : Option Fault)
      → IsAheadOf file clock since failures from ahead arrivals
      → IfSome why (IsLeftOut ahead.core.gate ahead.records (step_of ahead.core now i)) → IfSome why (IsOutAfter from arrivals (arrival now i))
  out_after from ahead arrivals now i None h left = tt
  out_after from ahead arrivals now i (Some f) h left = (
    batch_of ahead,
    h.run,
    subst (λ (s : Setup). IsLeftOut from.gate ahead.records (step s ahead.core.facts ahead.core.memory now i) f) h.grown.setup
        (subst (λ (gate : ℕ). IsLeftOut gate ahead.records (step ahead.core.setup ahead.core.facts ahead.core.memory now i) f) h.grown.gate left),
  )

  -- the next of some inputs is taken, or refused
  pub next_input : (from : CoreView D) (old new : AheadView D) (now : Interval) (inputs : List Input) (at : ℕ) (i : Input)
      (whys next : List (Option Fault)) (why : Option Fault) → at < length inputs → i ≡ get_or inputs at i → length whys ≡ at
      → next ≡ whys ++ why ∷ []
      → ((arrivals : List Arrival) → IsAheadOf file clock since failures from old arrivals → IsAheadOf file clock since failures from new
      (and_unless arrivals now i why))
      → IfSome why (IsLeftOut old.core.gate old.records (step_of old.core now i))
      → IsAheadOf file clock since failures from old (taken_of now (take at inputs) whys) × AreLeftOut from [] now (take at inputs) whys
      → IsAheadOf file clock since failures from new (taken_of now (take (at + 1) inputs) next) × AreLeftOut from [] now (take (at + 1) inputs) next
  next_input from old new now inputs at i whys next why here is many more goes out h =
      let before = take at inputs in
      let longer : take (at + 1) inputs ≡ before ++ i ∷ [] = take_more inputs at i here ∙ ap (λ (x : Input). before ++ x ∷ []) (sym is) in
      let same : length whys ≡ length before = many ∙ sym (length-take-le at inputs (omega (arith, here))) in
      let P : List Input → List (Option Fault) → Type 0 =
      λ is whys. IsAheadOf file clock since failures from new (taken_of now is whys) × AreLeftOut from [] now is whys in
      subst (λ (l : List Input). P l next) (sym longer) (subst (P (before ++ i ∷ [])) (sym more) (
        subst (IsAheadOf file clock since failures from new) (sym (taken_more now before whys i why same)) (goes (taken_of now before whys) h.0),
        left_more from [] now before whys i why same h.1 (out_after from old (taken_of now before whys) now i why h.0 out),
      ))

  pub with_none : (from : CoreView D) (ahead : AheadView D) (now : Interval) (arrivals : List Arrival)
      → IsAheadOf file clock since failures from ahead arrivals → IsAheadWith file clock since failures from ahead now arrivals
  with_none from ahead now arrivals h =
      ([], tt, subst (IsAheadOf file clock since failures from ahead) (sym (append-nil arrivals)) h)

  pub with_one : (from : CoreView D) (old new : AheadView D) (now : Interval) (arrivals : List Arrival) (i : Input) (why : Option Fault)
      → IsDueAt now (arrival now i)
      → ((before : List Arrival) → IsAheadOf file clock since failures from old before → IsAheadOf file clock since failures from new
      (and_unless before now i why)) → IsAheadWith file clock since failures from old now arrivals
      → IsAheadWith file clock since failures from new now arrivals
  with_one from old new now arrivals i None due goes h = (
    h.0 ++ arrival now i ∷ [],
    due_more now h.0 (arrival now i) h.1 due,
    subst (IsAheadOf file clock since failures from new) (append_assoc arrivals h.0 (arrival now i ∷ [])) (goes (arrivals ++ h.0) h.2),
  )
  with_one from old new now arrivals i (Some f) due goes h = (h.0, h.1, goes (arrivals ++ h.0) h.2)

-- ---- the horizon

horizon_added : (s : Stepped) (b next : Batch) → IsAdded s b next → b.facts.horizon ≤ next.facts.horizon
horizon_added (Refuses why) b next is = absurd is
horizon_added (Does logged memory outbox) b next is =
    omega (arith, horizon_rises b.facts logged, ap (λ (x : Batch). x.facts.horizon) is)

horizon_over : (setup : Setup) (b last : Batch) (arrivals : List Arrival) → LeadsTo setup b arrivals last → b.facts.horizon ≤ last.facts.horizon
horizon_over setup b last [] run = omega (arith, ap (λ (x : Batch). x.facts.horizon) run)
horizon_over setup b last (a ∷ arrivals) run =
    omega (arith, horizon_added _ b run.0 run.1, horizon_over setup run.0 last arrivals run.2)

-- ---- versions that came

-- the versions of a list before others, the last first
abbrev stacked : List Install → List Install → List Install
stacked acc [] = acc
stacked acc (i ∷ is) = stacked (i ∷ acc) is

below_stacked : (acc xs : List Install) (key : Bytes) (at : ℕ) → below (stacked acc xs) key at ≡ (below acc key at && below xs key at)
below_stacked acc [] key at = grind (arith, nat_tests)
below_stacked acc (i ∷ xs) key at = below_stacked (i ∷ acc) xs key at ∙ below_more acc i key at xs

rise_behind : (acc xs ys : List Install) → rises_by_key acc (xs ++ ys) ≡ true → rises_by_key (stacked acc xs) ys ≡ true
rise_behind acc [] ys h = h
rise_behind acc (i ∷ xs) ys h = rise_behind (i ∷ acc) xs ys ((rise_parts acc i (xs ++ ys) h).1)

-- those that come behind others are above these
news_rise : (xs ys : List Install) → rises_by_key [] (xs ++ ys) ≡ true → rises_by_key xs ys ≡ true
news_rise xs ys h = rise_alike (stacked [] xs) xs ys (λ key at. below_stacked [] xs key at) (rise_behind [] xs ys h)

-- ---- the desk

module _ {D : Type 0} (keeps : Type 0) (file : D → File) (clock : D → ℕ) (since : D → ℕ → List ℕ → Type 0) (failures : D → ℕ)
    (old new : CoreView D) (arrivals : List Arrival) (out : List (List Envelope))
    (h : HasSteppedAll keeps file clock since failures old new arrivals out) (orderly : IsShowable new.facts new.memory) where
  pub group_in_step : (handed : ℕ) (es : List BoardEntry) → InStep old.facts.installs (safe_at old) handed old.facts.horizon es
      → InStep new.facts.installs (safe_at new) handed new.facts.horizon es
  group_in_step handed es step =
      let n = length old.facts.installs in
      let news = drop n new.facts.installs in
      let behind : new.facts.installs ≡ old.facts.installs ++ news =
      sym (take_drop n new.facts.installs) ∙ ap (λ (l : List Install). l ++ news) h.shown in
      let raised : old.facts.horizon ≤ new.facts.horizon =
      omega (arith, horizon_over old.setup _ h.batch arrivals h.run, ap (λ f. f.horizon) h.facts) in
      record {
        count = count_kept old.facts.installs news new.facts.installs handed old.facts.horizon es behind step.count step.same;
        same = same_kept old.facts.installs news new.facts.installs handed old.facts.horizon es behind step.count step.same new.facts.horizon raised;
        lawful = lawful_kept old.facts.installs news new.facts.installs handed old.facts.horizon es behind step.count step.same (safe_at old) step.lawful step.safe
            (∥∥₁_elim h.grew (hlevel props) (λ s. s.above))
            (news_rise old.facts.installs news (ap (rises_by_key []) (sym behind) ∙ orderly.installs));
        safe = omega (arith, step.safe, ∥∥₁_elim h.grew (hlevel props) (λ s. s.rises));
        horizon = omega (arith, step.horizon, raised);
      }
