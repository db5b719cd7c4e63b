-- A core that gathers a group: what it knows, what it answers, and what its group comes to.
use Rattle.std.proofs.Common.{◌≡◌, ◌≤◌, ◌<◌, ◌∙◌, ◌&&◌, inl, inr, ℕ, Bool, true, false, cond, IsFalse, List, [], ◌∷◌, ◌++◌, map, length}
use Rattle.std.proofs.Common.{Option, Some, None, Result, Ok, Err, refl, sym, ap, subst, append_assoc, arith}
use Rattle.std.proofs.Math.Logic.{∥∥₁_elim, ∥∥₁_map, ∥∥₁_prop}
use Rattle.std.proofs.Props.{props}
use Rattle.std.specs.Prelude.{drop, filter, is_some, nat_le, nat_lt, take}
use mathlib.Core.Bool.{true≢false}
use Rattle.std.specs.List.{list_all}
use Rattle.std.proofs.lemmas.Bool.{lt-leb, lt-ltb, ltb-true, and_parts}
use Rattle.std.proofs.lemmas.List.{append-nil, drop_all, take_all, take-append-drop, take-append-le, drop-append-le, map-append, length-append}
use Rattle.std.proofs.lemmas.List.Elements.{filter-append}
use Rattle.units.specs.Keys.{Bytes}
use Rattle.units.specs.Versions.{latest, at_time}
use Rattle.units.specs.declared.fault.Fault.{Fault}
use Rattle.units.specs.declared.setup.Setup.{Setup}
use Rattle.units.specs.declared.setup.Book.TheVariants.{Off}
use Rattle.book.specs.Books.{BookView, IsBookOf}
use Rattle.protocol.specs.Replay.{Stand}
use Rattle.units.specs.declared.writes.Install.{Install}
use Rattle.disk.specs.Image.{Surface, MayLeave}
use Rattle.disk.specs.File.{File, surface}
use Rattle.disk.specs.Moments.{LeavesOnly}
use Rattle.disk.proofs.Runs.{and_then}
use Rattle.record.specs.declared.record.Record.{Record}
use Rattle.record.specs.Facts.{Facts, learn, no_facts}
use Rattle.message.specs.declared.message.Envelope.{Envelope}
use Rattle.frames.specs.Placed.{Placed}
use Rattle.protocol.specs.Rows.{Memory, safe}
use Rattle.protocol.specs.Showable.{KeepsShowable, added}
use Rattle.protocol.specs.Plan.{Planned}
use Rattle.protocol.specs.Step.{facts_after, stepped}
use Rattle.memory.specs.Kept.{IsRefusal}
use Rattle.protocol.proofs.Serves.{grows}
use Rattle.gatelog.specs.Frames.{end_from}
use Rattle.gatelog.specs.Groups.{Group, IsOldOrWithAll, and_entries, joined}
use Rattle.gatelog.specs.Log.{log}
use Rattle.gatelog.proofs.Fresh.{placed-items}
use Rattle.ledger.specs.Keeps.{Alike}
use Rattle.ledger.specs.Laws.{AlikeStays}
use Rattle.shard.specs.Agrees.{AgreesWithLog, AreHeld}
use Rattle.shard.specs.Groups.{AheadView, Arrival, Batch, HaltedView, IsAheadOfLog, IsSince, LeadsTo, IsAdded, IsLeftOut, and_logged_all, batch_of, begun, step_in}
use Rattle.shard.specs.Groups.{HoldsOldOrWithAll, HasGrown, IsAheadOf, HasWrittenAll, HasSteppedAll, HasHalted}
use Rattle.shard.specs.Logs.{items_of, records_in, learned, KeepsRecords, BeginsAsBefore}
use Rattle.shard.specs.On.{CoreView, step_of}
use Rattle.shard.proofs.Agrees.{learned-append}
use Rattle.shard.proofs.Appends.{no-time}

-- ---- a group in a log, by its records

items-and_entries : (entries : Result (List Placed) Fault) (g : Group) → items_of (and_entries entries (joined g)) ≡ and_logged_all (items_of entries) g.items
items-and_entries (Ok es) g =
    ap (λ (rs : List Record). Ok rs)
    (map-append (λ (e : Placed). e.item) es (joined g) ∙ ap (λ (rs : List Record). map (λ (e : Placed). e.item) es ++ rs) (placed-items g.items g.gate))
items-and_entries (Err fault) g = refl

module _ (before : File) (g : Group) where
  pub group-is : (image : List ℕ) → log image ≡ and_entries (log (surface before).seen) (joined g)
      → records_in image ≡ and_logged_all (records_in (surface before).seen) g.items
  group-is image is = ap items_of is ∙ items-and_entries (log (surface before).seen) g

  pub old_or_with_all : (image : List ℕ) → IsOldOrWithAll (log (surface before).seen) (joined g) image
      → HoldsOldOrWithAll (records_in (surface before).seen) g.items image
  old_or_with_all image (inl old) = inl (ap items_of old)
  old_or_with_all image (inr with) = inr (group-is image with)

-- ---- what is known

pub ahead_begun : (stopped : Bool) (disk : Surface) (more : List Record) (facts : Facts) → IsFalse stopped → more ≡ []
    → ∥ AgreesWithLog stopped disk facts ∥₁ → ∥ IsAheadOfLog disk more facts ∥₁
ahead_begun stopped disk more facts running none agrees =
    ∥∥₁_map agrees (λ a.
    let is : a.records ++ more ≡ a.records = ap (λ (l : List Record). a.records ++ l) none ∙ append-nil a.records in
    record {
      records = a.records;
      learnt = subst (λ (l : List Record). Alike facts (learned l)) (sym is) a.learnt;
      held = subst (λ b. AreHeld b disk facts a.records) running a.held;
    })

-- nothing is gathered
pub ahead_still : (before disk : Surface) (old more : List Record) (known facts : Facts) → disk ≡ before → more ≡ old → facts ≡ known
    → ∥ IsAheadOfLog before old known ∥₁ → ∥ IsAheadOfLog disk more facts ∥₁
ahead_still before disk old more known facts same as_many is agrees =
    subst (λ d. ∥ IsAheadOfLog d more facts ∥₁) (sym same)
    (subst (λ l. ∥ IsAheadOfLog before l facts ∥₁) (sym as_many)
    (subst (λ f. ∥ IsAheadOfLog before old f ∥₁) (sym is) agrees))

-- one record more is
pub ahead_more : AlikeStays → (before disk : Surface) (old more : List Record) (known facts : Facts) (r : Record) → disk ≡ before
    → more ≡ old ++ r ∷ [] → facts ≡ learn known r → ∥ IsAheadOfLog before old known ∥₁ → ∥ IsAheadOfLog disk more facts ∥₁
ahead_more law before disk old more known facts r same one_more is agrees =
    ahead_still before disk (old ++ r ∷ []) more (learn known r) facts same one_more is
    (∥∥₁_map agrees (λ a.
    let learnt_is : learned (a.records ++ (old ++ r ∷ [])) ≡ learn (learned (a.records ++ old)) r =
    ap learned (sym (append_assoc a.records old (r ∷ []))) ∙ learned-append no_facts (a.records ++ old) r in
    record {
      records = a.records;
      learnt = subst (Alike (learn known r)) (sym learnt_is) (law known (learned (a.records ++ old)) r a.learnt);
      held = a.held;
    }))

-- the group stands in the log
pub ahead_landed : (stopped : Bool) (before disk : Surface) (more : List Record) (facts : Facts) → IsFalse stopped → MayLeave before before.seen
    → KeepsRecords disk (and_logged_all (records_in before.seen) more) → ∥ IsAheadOfLog before more facts ∥₁ → ∥ AgreesWithLog stopped disk facts ∥₁
ahead_landed stopped before disk more facts running now keeps agrees =
    ∥∥₁_map agrees (λ a. record {
      records = a.records ++ more;
      learnt = a.learnt;
      held = subst (λ b. AreHeld b disk facts (a.records ++ more)) (sym running)
          (subst (λ (r : Result (List Record) Fault). KeepsRecords disk (and_logged_all r more)) (a.held before.seen now) keeps);
    })

-- no book is kept
pub bookless : (setup : Setup) (book : Option BookView) (here : Stand) → is_some book ≡ false → IsBookOf setup book here → setup.book ≡ Off
bookless setup None here none h = h
bookless setup (Some b) here none h = absurd (true≢false none)

-- ---- what came since

abbrev is_above : ℕ → Install → Bool
is_above served i = nat_lt served i.at

all_append : (test : Install → Bool) (xs ys : List Install) → list_all test xs ≡ true → list_all test ys ≡ true → list_all test (xs ++ ys) ≡ true
all_append test [] ys first second = second
all_append test (x ∷ xs) ys first second =
    let parts = and_parts (test x) (list_all test xs) first in
    ap (λ (b : Bool). b && list_all test (xs ++ ys)) parts.0 ∙ all_append test xs ys parts.1 second

-- what is above a later time is above an earlier one
above_less : (served later : ℕ) (xs : List Install) → served ≤ later → list_all (is_above later) xs ≡ true → list_all (is_above served) xs ≡ true
above_less served later [] le above = refl
above_less served later (x ∷ xs) le above =
    let parts = and_parts (is_above later x) (list_all (is_above later) xs) above in
    ap (λ (b : Bool). b && list_all (is_above served) xs) (lt-ltb served x.at (omega (arith, le, ltb-true later x.at parts.0)))
    ∙ above_less served later xs le parts.1

keep_none : (served at : ℕ) (xs : List Install) → at ≤ served → list_all (is_above served) xs ≡ true → filter (λ (i : Install). nat_le i.at at) xs ≡ []
keep_none served at [] le above = refl
keep_none served at (x ∷ xs) le above =
    let parts = and_parts (is_above served x) (list_all (is_above served) xs) above in
    let no : nat_le x.at at ≡ false = lt-leb x.at at (omega (arith, le, ltb-true served x.at parts.0)) in
    ap (λ (b : Bool). cond b (x ∷ filter (λ (i : Install). nat_le i.at at) xs) (filter (λ (i : Install). nat_le i.at at) xs)) no
    ∙ keep_none served at xs le parts.1

-- up to what was served before, looks go by the versions of before
pub looks_stay : (served at versions : ℕ) (installs : List Install) (key : Bytes) → at ≤ served → list_all (is_above served) (drop versions installs) ≡ true
    → at_time installs key at ≡ at_time (take versions installs) key at
unfolding at_time
looks_stay served at versions installs key le above =
    let kept : Install → Bool = λ i. nat_le i.at at in
    ap (λ (l : List Install). latest l key) (
    ap (filter kept) (sym (take-append-drop versions installs))
    ∙ filter-append kept (take versions installs) (drop versions installs)
    ∙ ap (λ (l : List Install). filter kept (take versions installs) ++ l) (keep_none served at (drop versions installs) le above)
    ∙ append-nil (filter kept (take versions installs)))

pub since_begun : (facts : Facts) (memory : Memory) (served versions : ℕ) → served ≡ safe memory → versions ≡ length facts.installs
    → IsSince served versions facts memory
since_begun facts memory served versions safe_is all = record {
  there = omega (arith, all);
  rises = omega (arith, safe_is);
  above = ap (list_all (is_above served)) (drop_all versions facts.installs (omega (arith, all)));
}

module _ (served versions : ℕ) (facts : Facts) (memory : Memory) (logged : Option Record) (after : Memory) (shows : KeepsShowable facts memory logged after)
  where
    since_step : IsSince served versions facts memory → IsSince served versions (facts_after facts logged) after
    since_step since =
        let is : (facts_after facts logged).installs ≡ facts.installs ++ added facts logged = grows facts logged in
        let long : length (facts_after facts logged).installs ≡ length (facts.installs ++ added facts logged) = ap length is in
        record {
          there = omega (arith, since.there, long, length-append facts.installs (added facts logged));
          rises = omega (arith, since.rises, shows.rises);
          above = ap (λ (l : List Install). list_all (is_above served) (drop versions l)) is
              ∙ ap (list_all (is_above served)) (drop-append-le versions facts.installs (added facts logged) since.there)
              ∙ all_append (is_above served) (drop versions facts.installs) (added facts logged) since.above
              (above_less served (safe memory) (added facts logged) since.rises shows.above);
        }

pub since_more : (served versions : ℕ) (facts now : Facts) (memory held : Memory) (logged : Option Record) (after : Memory)
    → ∥ KeepsShowable facts memory logged after ∥₁ → now ≡ facts_after facts logged → held ≡ after → ∥ IsSince served versions facts memory ∥₁
    → ∥ IsSince served versions now held ∥₁
since_more served versions facts now memory held logged after shows is_facts is_memory since =
    subst (λ f. ∥ IsSince served versions f held ∥₁) (sym is_facts)
    (subst (λ m. ∥ IsSince served versions (facts_after facts logged) m ∥₁) (sym is_memory)
    (∥∥₁_elim shows ∥∥₁_prop (λ k. ∥∥₁_map since (since_step served versions facts memory logged after k))))

pub since_still : (served versions : ℕ) (facts now : Facts) (memory held : Memory) → now ≡ facts → held ≡ memory → ∥ IsSince served versions facts memory ∥₁
    → ∥ IsSince served versions now held ∥₁
since_still served versions facts now memory held is_facts is_memory since =
    subst (λ f. ∥ IsSince served versions f held ∥₁) (sym is_facts) (subst (λ m. ∥ IsSince served versions facts m ∥₁) (sym is_memory) since)

-- the versions of before stay
pub shown_stays : (served versions : ℕ) (facts now : Facts) (memory : Memory) (logged : Option Record) → now ≡ facts_after facts logged
    → ∥ IsSince served versions facts memory ∥₁ → take versions now.installs ≡ take versions facts.installs
shown_stays served versions facts now memory logged is since =
    ap (λ (f : Facts). take versions f.installs) is
    ∙ ap (take versions) (grows facts logged)
    ∙ take-append-le versions facts.installs (added facts logged) (∥∥₁_elim since (hlevel props) (λ s. s.there))

-- ---- inputs, one after another

leads_more : (setup : Setup) (b mid last : Batch) (xs : List Arrival) (a : Arrival) → LeadsTo setup b xs mid → IsAdded (step_in setup mid a) mid last
    → LeadsTo setup b (xs ++ a ∷ []) last
leads_more setup b mid last [] a is added = (last, subst (λ (m : Batch). IsAdded (step_in setup m a) m last) is added, refl)
leads_more setup b mid last (x ∷ xs) a run added = (run.0, run.1, leads_more setup run.0 mid last xs a run.2 added)

module _ {D : Type 0} (file : D → File) (clock : D → ℕ) (since : D → ℕ → List ℕ → Type 0) (failures : D → ℕ)
    (only_now : (d : D) (image : List ℕ) → since d (clock d) image → MayLeave (surface (file d)) image) where
  -- nothing was done to the disk
  pub not_grown : (old new : CoreView D) → new.disk ≡ old.disk → new.setup ≡ old.setup → new.gate ≡ old.gate → new.slot ≡ old.slot
      → new.stopped ≡ old.stopped → HasGrown file clock since failures old new
  not_grown old new disk setup gate slot stopped = record {
    setup = setup;
    gate = gate;
    slot = slot;
    stopped = stopped;
    file_same = ap file disk;
    failures_stay = omega (arith, ap failures disk);
    time = subst (λ (d : D). LeavesOnly clock since old.disk d (MayLeave (surface (file old.disk)))) (sym disk) (no-time file clock since only_now old.disk);
  }

-- why an input is refused whose plan is not made
pub left_out : (memory : Memory) (planned : Planned) (gate : ℕ) (records : List Record) (fault : Fault) → IsRefusal planned fault
    → IsLeftOut gate records (stepped memory planned) fault
left_out memory (Ok p) gate records fault want = inl want
left_out memory (Err why) gate records fault own = own

-- the first group begins where the core stands
pub versions_all : (versions : ℕ) (installs : List Install) → versions ≡ length installs → take versions installs ≡ installs
versions_all versions installs all = take_all versions installs (omega (arith, all))

module _ {D : Type 0} (file : D → File) (clock : D → ℕ) (since : D → ℕ → List ℕ → Type 0) (failures : D → ℕ) where
  grown_on : (a b c : CoreView D) → HasGrown file clock since failures a b → HasGrown file clock since failures b c → HasGrown file clock since failures a c
  grown_on a b c first second = record {
    setup = second.setup ∙ first.setup;
    gate = second.gate ∙ first.gate;
    slot = second.slot ∙ first.slot;
    stopped = second.stopped ∙ first.stopped;
    file_same = second.file_same ∙ first.file_same;
    failures_stay = omega (arith, first.failures_stay, second.failures_stay);
    time = and_then clock since a.disk b.disk c.disk (MayLeave (surface (file a.disk))) (MayLeave (surface (file b.disk))) (MayLeave (surface (file a.disk)))
        first.time second.time (λ image left. left) (λ image left. subst (λ (f : File). MayLeave (surface f) image) first.file_same left);
  }

  -- an input was refused
  pub still_ahead : (from : CoreView D) (old new : AheadView D) (arrivals : List Arrival) → IsAheadOf file clock since failures from old arrivals
      → HasGrown file clock since failures old.core new.core → new.served ≡ old.served → new.versions ≡ old.versions → new.shown ≡ old.shown
      → batch_of new ≡ batch_of old → IsAheadOf file clock since failures from new arrivals
  still_ahead from old new arrivals h grown served versions shown same = record {
    running = h.running;
    run = subst (LeadsTo from.setup (begun from.facts from.memory) arrivals) (sym same) h.run;
    grown = grown_on from old.core new.core h.grown grown;
    served = served ∙ h.served;
    versions = versions ∙ h.versions;
    shown = shown ∙ h.shown;
  }

  -- an input was taken
  pub more_ahead : (from : CoreView D) (old new : AheadView D) (arrivals : List Arrival) (a : Arrival) → IsAheadOf file clock since failures from old arrivals
      → HasGrown file clock since failures old.core new.core → new.served ≡ old.served → new.versions ≡ old.versions → new.shown ≡ old.shown
      → IsAdded (step_of old.core a.now a.input) (batch_of old) (batch_of new) → IsAheadOf file clock since failures from new (arrivals ++ a ∷ [])
  more_ahead from old new arrivals a h grown served versions shown added = record {
    running = h.running;
    run = leads_more from.setup (begun from.facts from.memory) (batch_of old) (batch_of new) arrivals a h.run
        (subst (λ (s : Setup). IsAdded (step_in s (batch_of old) a) (batch_of old) (batch_of new)) h.grown.setup added);
    grown = grown_on from old.core new.core h.grown grown;
    served = served ∙ h.served;
    versions = versions ∙ h.versions;
    shown = shown ∙ h.shown;
  }

-- ---- the group is appended

module _ {D : Type 0} (keeps : Type 0) (file : D → File) (clock : D → ℕ) (since : D → ℕ → List ℕ → Type 0) (failures : D → ℕ)
    (from : CoreView D) (ahead : AheadView D) (arrivals : List Arrival) (h : IsAheadOf file clock since failures from ahead arrivals)
    (stands : keeps → KeepsRecords (surface (file ahead.core.disk)) (records_in (surface (file ahead.core.disk)).seen)) where
  written_over : (disk : D) → HasWrittenAll keeps file clock since failures ahead.core ahead.records disk
      → HasWrittenAll keeps file clock since failures from ahead.records disk
  written_over disk w = record {
    failures_stay = omega (arith, h.grown.failures_stay, w.failures_stay);
    any_moment = λ keep.
        and_then clock since from.disk ahead.core.disk disk (MayLeave (surface (file from.disk)))
        (HoldsOldOrWithAll (records_in (surface (file ahead.core.disk)).seen) ahead.records)
        (HoldsOldOrWithAll (records_in (surface (file from.disk)).seen) ahead.records) h.grown.time (w.any_moment keep)
        (λ image left. inl (subst (λ (f : File). KeepsRecords (surface f) (records_in (surface f).seen)) h.grown.file_same (stands keep) image left))
        (λ image held. subst (λ (f : File). HoldsOldOrWithAll (records_in (surface f).seen) ahead.records image) h.grown.file_same held);
    begins = λ keep.
        and_then clock since from.disk ahead.core.disk disk (MayLeave (surface (file from.disk))) (BeginsAsBefore (surface (file ahead.core.disk)))
        (BeginsAsBefore (surface (file from.disk))) h.grown.time (w.begins keep) (λ image left. inl left)
        (λ image begun. subst (λ (f : File). BeginsAsBefore (surface f) image) h.grown.file_same begun);
  }

  pub stepped_all : (new : CoreView D) (outboxes : List (List Envelope)) → HasWrittenAll keeps file clock since failures ahead.core ahead.records new.disk
      → (keeps → KeepsRecords (surface (file new.disk)) (and_logged_all (records_in (surface (file ahead.core.disk)).seen) ahead.records))
      → (keeps → records_in (surface (file new.disk)).seen ≡ and_logged_all (records_in (surface (file ahead.core.disk)).seen) ahead.records)
      → new.setup ≡ ahead.core.setup → new.facts ≡ ahead.core.facts → new.memory ≡ ahead.core.memory → IsFalse new.stopped
      → new.gate ≡ end_from ahead.core.gate ahead.records → new.slot ≡ ahead.core.slot → outboxes ≡ ahead.outboxes
      → ∥ IsSince ahead.served ahead.versions ahead.core.facts ahead.core.memory ∥₁ → ahead.shown ≡ take ahead.versions ahead.core.facts.installs
      → HasSteppedAll keeps file clock since failures from new arrivals outboxes
  stepped_all new outboxes written durable read setup facts memory runs gate slot out since' shown = record {
    batch = batch_of ahead;
    run = h.run;
    written = written_over new.disk written;
    durable = λ keep. subst (λ (f : File). KeepsRecords (surface (file new.disk)) (and_logged_all (records_in (surface f).seen) ahead.records))
        h.grown.file_same (durable keep);
    read = λ keep. read keep ∙ ap (λ (f : File). and_logged_all (records_in (surface f).seen) ahead.records) h.grown.file_same;
    running = (h.running, runs);
    setup = setup ∙ h.grown.setup;
    facts = facts;
    memory = memory;
    out = out;
    grew = subst (λ n. ∥ IsSince n (length from.facts.installs) new.facts new.memory ∥₁) h.served
        (subst (λ n. ∥ IsSince ahead.served n new.facts new.memory ∥₁) h.versions
        (since_still ahead.served ahead.versions ahead.core.facts new.facts ahead.core.memory new.memory facts memory since'));
    shown = ap (λ (n : ℕ). take n new.facts.installs) (sym h.versions)
        ∙ ap (λ (f : Facts). take ahead.versions f.installs) facts ∙ sym shown ∙ h.shown;
    gate = gate ∙ ap (λ (at : ℕ). end_from at ahead.records) h.grown.gate;
    slot = slot ∙ h.grown.slot;
  }

  pub halted_all : (halted : HaltedView D) → HasWrittenAll keeps file clock since failures ahead.core ahead.records halted.disk
      → failures ahead.core.disk < failures halted.disk → halted.looks.setup ≡ ahead.core.setup → halted.looks.horizon ≡ ahead.core.facts.horizon
      → halted.looks.served ≡ ahead.served → halted.looks.installs ≡ ahead.shown
      → HasHalted keeps file clock since failures from halted arrivals
  halted_all halted written failed setup horizon served installs = record {
    batch = batch_of ahead;
    run = h.run;
    written = written_over halted.disk written;
    failed = omega (arith, h.grown.failures_stay, failed);
    setup = setup ∙ h.grown.setup;
    horizon = horizon;
    served = served ∙ h.served;
    installs = installs ∙ h.shown;
  }
