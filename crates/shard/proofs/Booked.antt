-- What a core whose book is full makes of an input, and what a book with a page more says of its core.
use Rattle.std.proofs.Common.{◌≡◌, ◌⊎◌, inl, inr, ⊎_elim, ℕ, ◌≤◌, ◌<◌, ◌∙◌, ◌∷◌, [], ◌++◌, Bool, true, false, IsFalse, List, length, Option}
use Rattle.std.proofs.Common.{Some, None, Result, Ok, Err, IfOk, IfErr, refl, sym, ap, subst, arith}
use Rattle.std.proofs.Math.Logic.{∥∥₁_elim}
use Rattle.std.proofs.Props.{props}
use Rattle.std.proofs.lemmas.Bool.{cases_lt, false≢true}
use Rattle.units.specs.declared.fault.Fault.{Fault}
use Rattle.units.specs.declared.fault.Fault.TheVariants.{Memory as WantsMemory, Stopped, TimeSpent}
use Rattle.units.specs.declared.setup.Setup.{Setup}
use Rattle.units.specs.declared.setup.Book.{Book}
use Rattle.units.specs.declared.setup.Book.TheVariants.{Off, On}
use Rattle.disk.specs.declared.plan.FailurePlan.{FailurePlan}
use Rattle.disk.specs.File.{File}
use Rattle.message.specs.declared.message.Envelope.{Envelope}
use Rattle.message.specs.declared.message.Input.{Input}
use Rattle.record.specs.Facts.{Facts, facts_of}
use Rattle.record.specs.declared.record.Record.{Record}
use Rattle.truetime.specs.Interval.{Interval}
use Rattle.protocol.specs.Rows.{Memory, rebuilt}
use Rattle.protocol.specs.Replay.{Stand}
use Rattle.protocol.specs.Step.{Stepped, Does, facts_after, stepped}
use Rattle.book.specs.Books.{BookView, HasBookRoom, IsBookFull, IsBookOf, PageIsStep, Replays, new_book, with_page}
use Rattle.gatelog.specs.Frames.{IsNearLimit}
use Rattle.protocol.specs.Plan.{Planned}
use Rattle.protocol.specs.Refusals.{Owns, is_own}
use Rattle.shard.specs.Armed.{HasPlace}
use Rattle.shard.specs.Booked.{IsCrowded, IsFirst, IsFullCause, stand_of}
use Rattle.shard.specs.On.{CoreView, HasStepped, IsCause, IsDone, IsLogFull, StandsAsBefore, record_of, step_of}
use Rattle.shard.specs.Opened.{next_opening}

-- ---- where a book is full

not-full : (gate : ℕ) (logged : Option Record) → (IsNearLimit gate → ⊥) → IsLogFull gate logged → ⊥
not-full gate None far full = full
not-full gate (Some r) far full = far full.1

has-place : (gate : ℕ) (logged : Option Record) → HasPlace gate logged → IsLogFull gate logged → ⊥
has-place gate None place full = full
has-place gate (Some r) place full = absurd (omega (arith, place, full.0))

-- what is answered where the plan of an input was refused
first-cause : (memory : Memory) (stopped : Bool) (gate : ℕ) (p : Planned) (Failed : Type 0) (planned fault : Fault) → Owns p → (Failed → ⊥)
    → IsCause stopped (stepped memory p) planned (IsLogFull gate (record_of (stepped memory p))) Failed → IsFirst gate planned fault
    → IsFullCause stopped gate (stepped memory p) fault
first-cause memory true gate p Failed planned fault own runs because (inl first) = absurd (other because first.0)
  where
    other : planned ≡ Stopped → planned ≡ WantsMemory → ⊥
    other stopped want = cc
first-cause memory true gate p Failed planned fault own runs because (inr same) = same.0 ∙ because
first-cause memory false gate (Err why) Failed planned fault own runs because (inl first) =
    absurd (false≢true (subst (λ (f : Fault). is_own f ≡ true) (sym because ∙ first.0) own))
first-cause memory false gate (Err why) Failed planned fault own runs because (inr same) = same.0 ∙ because
first-cause memory false gate (Ok p) Failed planned fault own runs (inl want) (inl first) = inr (inr (first.1, not-full gate p.logged first.2))
first-cause memory false gate (Ok p) Failed planned fault own runs (inl want) (inr same) = inl (same.0 ∙ want, same.1 want)
first-cause memory false gate (Ok p) Failed planned fault own runs (inr (inl spent)) (inl first) = absurd (other spent.0 first.0)
  where
    other : planned ≡ TimeSpent → planned ≡ WantsMemory → ⊥
    other spent want = cc
first-cause memory false gate (Ok p) Failed planned fault own runs (inr (inl spent)) (inr same) = inr (inl (same.0 ∙ spent.0, spent.1))
first-cause memory false gate (Ok p) Failed planned fault own runs (inr (inr device)) first = absurd (runs device.1)

module _ {D : Type 0} (keeps obeys : Type 0) (file : D → File) (clock : D → ℕ) (since : D → ℕ → List ℕ → Type 0) (failures : D → ℕ)
    (plan : D → FailurePlan) where
  -- what is refused before anything is done
  pub crowded-refused : (core : CoreView D) (memory : Memory) (p : Planned) (planned fault : Fault) → Owns p
      → HasStepped keeps obeys file clock since failures plan core core (stepped memory p) (Err planned) → IsFirst core.gate planned fault
      → IsCrowded core core (stepped memory p) (Err fault)
  crowded-refused core memory p planned fault own h first =
      (refl, first-cause memory core.stopped core.gate p _ planned fault own (λ failed. absurd (omega (arith, failed.0))) h.cause first)

-- ---- room, as its setup tells it

pub room-in : (setup : Setup) (book : Option BookView) (b : BookView) (here : Stand) → ∥ IsBookOf setup book here ∥₁ → book ≡ Some b
    → HasBookRoom setup.book book
    → length b.pages < b.capacity
room-in setup book b here h is room =
    ∥∥₁_elim h (hlevel props) (λ x.
    subst (λ s. HasBookRoom s (Some b)) (subst (λ o. IsBookOf setup o here) is x).0 (subst (HasBookRoom setup.book) is room))

pub full-in : (setup : Setup) (book : Option BookView) (b : BookView) (here : Stand) → ∥ IsBookOf setup book here ∥₁ → book ≡ Some b
    → IsBookFull setup.book book
    → b.capacity ≤ length b.pages
full-in setup book b here h is full =
    ∥∥₁_elim h (hlevel props) (λ x.
    subst (λ s. IsBookFull s (Some b)) (subst (λ o. IsBookOf setup o here) is x).0 (subst (IsBookFull setup.book) is full))

-- a core that was told to keep no book always has room
pub no-book : (setting : Book) (book : Option BookView) → setting ≡ Off → HasBookRoom setting book
no-book setting book told = subst (λ s. HasBookRoom s book) (sym told) tt

-- a book has room, or it is full
pub room-or-full : (setting : Book) (book : Option BookView) → HasBookRoom setting book ⊎ IsBookFull setting book
room-or-full Off book = inl tt
room-or-full (On capacity) None = inl tt
room-or-full (On capacity) (Some b) = cases_lt (length b.pages) capacity

-- where a book had room for a page, or none is kept, there was room, as its setup tells it
pub roomy : (setup : Setup) (book : Option BookView) (b : BookView) (here : Stand) → ∥ IsBookOf setup book here ∥₁ → book ≡ Some b
    → length b.pages < b.capacity
    → HasBookRoom setup.book book
roomy setup book b here h is room =
    ⊎_elim (λ has. has) (λ full. absurd (omega (arith, room, full-in setup book b here h is full))) (room-or-full setup.book book)

pub roomy-without : (setting : Book) (book : Option BookView) → book ≡ None → HasBookRoom setting book
roomy-without Off book is = tt
roomy-without (On capacity) book is = subst (HasBookRoom (On capacity)) (sym is) tt

-- want of memory was answered where this was so, and so was that
pub in-order : (result : Result (List Envelope) Fault) (Had Has : Type 0) → (Had → Has) → IfErr result (λ fault. fault ≡ WantsMemory → Had)
    → IfErr result (λ fault. fault ≡ WantsMemory → Has)
in-order (Ok out) Had Has from order = tt
in-order (Err fault) Had Has from order = λ want. from (order want)

module _ {D : Type 0} (keeps obeys : Type 0) (file : D → File) (clock : D → ℕ) (since : D → ℕ → List ℕ → Type 0) (failures : D → ℕ) (plan : D → FailurePlan)
    (old new : CoreView D) (step : Stepped) where
  -- whether there is room or not: the step was done, or all stands as before
  pub went : (Room Full : Type 0) → Room ⊎ Full → (result : Result (List Envelope) Fault)
      → (Room → HasStepped keeps obeys file clock since failures plan old new step result) → (Full → IsCrowded old new step result)
      → IfOk result (λ out. IsFalse old.stopped × IsFalse new.stopped × IsDone step old new out) × IfErr result (StandsAsBefore file old new)
      × (new.setup ≡ old.setup)
  went Room Full either (Ok out) stepped crowded =
      ⊎_elim (λ room. ((stepped room).done, tt, (stepped room).written.setup)) (λ full. absurd (crowded full)) either
  went Room Full either (Err fault) stepped crowded =
      ⊎_elim (λ room. (tt, (stepped room).written.kept, (stepped room).written.setup))
      (λ full. (tt, stands (crowded full).0, ap (λ (c : CoreView D). c.setup) (crowded full).0)) either
    where
      stands : new ≡ old → StandsAsBefore file old new fault
      stands same = (
        ap (λ (c : CoreView D). c.facts) same,
        ap (λ (c : CoreView D). c.memory) same,
        inr (ap (λ (c : CoreView D). c.stopped) same, ap (λ (c : CoreView D). c.gate) same, ap (λ (c : CoreView D). file c.disk) same),
      )

-- ---- a new book

pub begun : (setup : Setup) (found : List Record) (book : Option BookView) (here : Stand) → book ≡ new_book setup.book found
    → here ≡ record { facts = facts_of (found ++ next_opening found ∷ []); memory = rebuilt (facts_of (found ++ next_opening found ∷ [])) }
    → IsBookOf setup book here
begun setup found book here is stands = by_setting setup.book refl
  where
    by_setting : (s : Book) → setup.book ≡ s → IsBookOf setup book here
    by_setting Off told = subst (λ b. IsBookOf setup b here) (sym (is ∙ ap (λ s. new_book s found) told)) told
    by_setting (On capacity) told =
        subst (λ b. IsBookOf setup b here) (sym (is ∙ ap (λ s. new_book s found) told))
        (told, record { leads = sym stands; accepted = tt })

-- an opening that found these leaves the shard here
pub stands-at : (found : List Record) (facts : Facts) (memory : Memory) → facts ≡ facts_of (found ++ next_opening found ∷ []) → memory ≡ rebuilt facts
    → ◌≡◌ {A = Stand} (record { facts = facts; memory = memory })
    (record { facts = facts_of (found ++ next_opening found ∷ []); memory = rebuilt (facts_of (found ++ next_opening found ∷ [])) })
stands-at found facts memory is_facts is_memory =
    let again : memory ≡ rebuilt (facts_of (found ++ next_opening found ∷ [])) = is_memory ∙ ap rebuilt is_facts in
    λ j. record { facts = is_facts j; memory = again j }

-- ---- what stands after an input

-- it is refused
pub still-of : (setup told : Setup) (b book : Option BookView) (facts known : Facts) (memory kept : Memory) → setup ≡ told → b ≡ book → facts ≡ known
    → memory ≡ kept
    → IsBookOf told book (record { facts = known; memory = kept }) → IsBookOf setup b (record { facts = facts; memory = memory })
still-of setup told b book facts known memory kept same also is_facts is_memory h =
    subst (λ s. IsBookOf s b (record { facts = facts; memory = memory })) (sym same)
    (subst (λ x. IsBookOf told x (record { facts = facts; memory = memory })) (sym also)
    (subst (λ f. IsBookOf told book (record { facts = f; memory = memory })) (sym is_facts)
    (subst (λ m. IsBookOf told book (record { facts = known; memory = m })) (sym is_memory) h)))

-- it is taken
pub page-of : PageIsStep → {D : Type 0} (old new : CoreView D) (b : BookView) (now : Interval) (i : Input) (logged : Option Record) (memory : Memory)
    (out : List Envelope) → step_of old now i ≡ Does logged memory out → new.setup ≡ old.setup → new.facts ≡ facts_after old.facts logged → new.memory ≡ memory
    → IsBookOf old.setup (Some b) (stand_of old)
    → IsBookOf new.setup (Some (with_page b (record { input = i; now = now; outbox = out }))) (stand_of new)
page-of law old new b now i logged memory out does same facts after h =
    subst (λ s. IsBookOf s (Some (with_page b (record { input = i; now = now; outbox = out }))) (stand_of new)) (sym same) (
      h.0,
      subst (Replays old.setup (with_page b (record { input = i; now = now; outbox = out }))) (λ j. record { facts = sym facts j; memory = sym after j })
          (law old.setup b (stand_of old) (record { input = i; now = now; outbox = out }) logged memory h.1 does),
    )

-- it is taken, or refused
pub kept-book : PageIsStep → {D : Type 0} (file : D → File) (old new : CoreView D) (b after : BookView) (now : Interval) (i : Input) (logged : Option Record)
    (memory : Memory) (outbox : List Envelope) (result : Result (List Envelope) Fault) → step_of old now i ≡ Does logged memory outbox
    → IfOk result (λ out. IsFalse old.stopped × IsFalse new.stopped × IsDone (Does logged memory outbox) old new out)
    → IfErr result (StandsAsBefore file old new) → new.setup ≡ old.setup
    → IfOk result (λ out. after ≡ with_page b (record { input = i; now = now; outbox = out })) → IfErr result (λ fault. after ≡ b)
    → IsBookOf old.setup (Some b) (stand_of old) → IsBookOf new.setup (Some after) (stand_of new)
kept-book law file old new b after now i logged memory outbox (Ok out) does done kept same page stays h =
    subst (λ (x : BookView). IsBookOf new.setup (Some x) (stand_of new)) (sym page)
    (page-of law old new b now i logged memory out (does ∙ ap (Does logged memory) (sym done.2.2)) same done.2.0 done.2.1 h)
kept-book law file old new b after now i logged memory outbox (Err fault) does done kept same page stays h =
    still-of new.setup old.setup (Some after) (Some b) new.facts old.facts new.memory old.memory same (ap (λ (x : BookView). Some x) stays) kept.0 kept.1 h

-- ---- a machine that was made, with its book

pub through : {C M E : Type 0} (made : Result M E) (result : Result C E) (machine : C → M) (B : C → Type 0) (Z : M → Type 0)
    → IfOk result (λ core. (made ≡ Ok (machine core)) × B core) → IfOk made Z → IfOk result (λ core. Z (machine core))
through made (Ok core) machine B Z is h = subst (λ r. IfOk r Z) is.0 h
through made (Err e) machine B Z is h = tt

pub not-through : {C M E : Type 0} (made : Result M E) (result : Result C E) (Z : E → Type 0) → IfErr result (λ e. made ≡ Err e) → IfErr made Z → IfErr result Z
not-through made (Ok core) Z is h = tt
not-through made (Err e) Z is h = subst (λ r. IfErr r Z) is h

-- the records of a disk are those that were found
pub found-in : (setup : Setup) (found : List Record) (book : Option BookView) (read : Result (List Record) Fault) → read ≡ Ok found
    → book ≡ new_book setup.book found → (records : List Record) → read ≡ Ok records → book ≡ new_book setup.book records
found-in setup found book read these is records those =
    let both : Ok found ≡ Ok records = sym these ∙ those in
    let same : found ≡ records = cc in
    is ∙ ap (new_book setup.book) same
