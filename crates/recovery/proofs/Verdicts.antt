-- The verdict on a whole log, told record by record from the facts.
use Rattle.std.proofs.Common.{◌≡◌, ℕ, suc, ◌+◌, ◌<◌, Bool, true, false, not, cond, ◌&&◌, List, [], ◌∷◌, ◌++◌, length, take, drop, get_or}
use Rattle.std.proofs.Common.{Some, None, refl, sym, ap, subst, ◌∙◌, arith}
use Rattle.std.specs.Prelude.{slice_get}
use Rattle.std.proofs.lemmas.List.{append_assoc, drop_more, length-append, take_more}
use Rattle.units.specs.Lists.{follow}
use Rattle.units.specs.declared.fault.Fault.{Fault}
use Rattle.units.specs.declared.setup.Setup.{Setup}
use Rattle.record.specs.Accepted.{Taken, Accepted, DamagedAt, StrangerAt, begins, belongs, fits_beside, followed, follows, may_stand}
use Rattle.record.specs.Accepted.{taken, taken_from}
use Rattle.record.specs.Facts.{Facts, facts_of, learn}
use Rattle.record.specs.declared.record.Record.{Record}
use Rattle.record.proofs.LearnAgrees.{learn_agrees}
use Rattle.facts.specs.Stages.{follows_next, stage_after, stage_of}
use Rattle.facts.specs.declared.stage.Stage.{Stage}
use Rattle.facts.proofs.Known.{follows_as_known, stage_agrees}
use Rattle.frames.specs.Placed.{Placed}
pub use Rattle.recovery.specs.Rebuilding.{Stands}
use Rattle.protocol.specs.Beside.{fits_facts}
use Rattle.protocol.proofs.BesideFacts.{beside_is, follows_is}
use Rattle.recovery.specs.Recovered.{fault_in, fault_next, items}

-- a record follows and has its place by the log where it does by the facts
place_is : (shard : ℕ) (log : List Record) (r : Record) → followed shard log ≡ true
    → (begins log r && follows shard log r && fits_beside log r) ≡ (follows_next shard (stage_of log) (facts_of log) r && fits_facts (facts_of log) r)
place_is shard log r before = ap (λ b. b && fits_beside log r) (follows_is shard log r before)
    ∙ by_test (follows_next shard (stage_of log) (facts_of log) r) refl
  where
    by_test : (b : Bool) → follows_next shard (stage_of log) (facts_of log) r ≡ b → (b && fits_beside log r) ≡ (b && fits_facts (facts_of log) r)
    by_test true k = beside_is shard log r k
    by_test false k = refl

-- ---- a log of which some records were taken

pub at_start : (setup : Setup) (entries : List Placed) → Stands setup entries [] entries (stage_of []) (facts_of [])
unfolding taken followed
at_start setup entries = record { whole = refl; before = refl; known = refl; staged = refl; verdict = refl }

pub items-append : (a b : List Placed) → items (a ++ b) ≡ items a ++ items b
items-append [] b = refl
items-append (e ∷ es) b = ap (λ rs. e.item ∷ rs) (items-append es b)

-- where one is and what is known, of a log of which some records were taken
known_both : {setup : Setup} {entries done left : List Placed} {stage : Stage} {facts : Facts} → Stands setup entries done left stage facts
    → ◌≡◌ {A = Stage × Facts} (stage_of (items done), facts_of (items done)) (stage, facts)
known_both s = λ i. (sym s.staged i, sym s.known i)

-- the verdict there, by the facts
verdict_here : (setup : Setup) (entries done : List Placed) (e : Placed) (left : List Placed) (stage : Stage) (facts : Facts) →
    Stands setup entries done (e ∷ left) stage facts
    → taken setup (items entries)
    ≡ cond (not (belongs setup e.item)) (StrangerAt (length done))
    (cond (follows_next setup.shard stage facts e.item && fits_facts facts e.item) (taken_from setup (items done ++ e.item ∷ []) (length done + 1)
    (items left)) (DamagedAt (length done)))
verdict_here setup entries done e left stage facts may_stand =
    may_stand.verdict
    ∙ ap (λ b. cond (not (belongs setup e.item)) (StrangerAt (length done))
    (cond b (taken_from setup (items done ++ e.item ∷ []) (length done + 1) (items left)) (DamagedAt (length done))))
    (place_is setup.shard (items done) e.item may_stand.before
    ∙ ap (λ (q : Stage × Facts). follows_next setup.shard q.0 q.1 e.item && fits_facts q.1 e.item) (known_both may_stand))

-- a record that is not refused belongs here, follows and has its place
record Fits (setup : Setup) (stage : Stage) (facts : Facts) (e : Placed) : Type 0 where
  own : belongs setup e.item ≡ true
  follows : follows_next setup.shard stage facts e.item ≡ true
  fits : fits_facts facts e.item ≡ true

not_refused : (setup : Setup) (stage : Stage) (facts : Facts) (e : Placed) → fault_next setup stage facts e ≡ None → Fits setup stage facts e
not_refused setup stage facts e none =
    by_tests (belongs setup e.item) (follows_next setup.shard stage facts e.item) (fits_facts facts e.item) refl refl refl none
  where
    by_tests : (a b c : Bool) → belongs setup e.item ≡ a → follows_next setup.shard stage facts e.item ≡ b → fits_facts facts e.item ≡ c
        → cond (not a) (Some Fault.Stranger) (cond (b && c) None (Some (Fault.Damaged e.offset))) ≡ None → Fits setup stage facts e
    by_tests true true true i j k none = record { own = i; follows = j; fits = k }
    by_tests true true false i j k none = cc
    by_tests true false c i j k none = cc
    by_tests false b c i j k none = cc

-- one more
pub at_next : (setup : Setup) (entries done : List Placed) (e : Placed) (left : List Placed) (stage : Stage) (facts : Facts) →
    Stands setup entries done (e ∷ left) stage facts
    → fault_next setup stage facts e ≡ None → Stands setup entries (done ++ e ∷ []) left (stage_after stage e.item) (learn facts e.item)
at_next setup entries done e left stage facts may_stand none = record {
  whole = may_stand.whole ∙ sym (append_assoc done (e ∷ []) left);
  before = ap (followed setup.shard) (items-append done (e ∷ [])) ∙ more;
  known =
      ap (λ f. learn f e.item) may_stand.known ∙ sym (learn_agrees setup.shard (items done) e.item more)
      ∙ ap facts_of (sym (items-append done (e ∷ [])));
  staged =
      ap (λ s. stage_after s e.item) may_stand.staged ∙ sym (stage_agrees (items done) e.item) ∙ ap stage_of (sym (items-append done (e ∷ [])));
  verdict =
      verdict_here setup entries done e left stage facts may_stand
      ∙ ap (λ b. cond (not b) (StrangerAt (length done)) (cond (follows_next setup.shard stage facts e.item && fits_facts facts e.item) rest
      (DamagedAt (length done)))) fit.own
      ∙ ap (λ b. cond (b && fits_facts facts e.item) rest (DamagedAt (length done))) fit.follows
      ∙ ap (λ b. cond b rest (DamagedAt (length done))) fit.fits
      ∙ ap (λ rs. taken_from setup rs (length done + 1) (items left)) (sym (items-append done (e ∷ [])))
      ∙ ap (λ n. taken_from setup (items (done ++ e ∷ [])) n (items left)) (sym (length-append done (e ∷ [])));
}
  where
    fit : Fits setup stage facts e
    fit = not_refused setup stage facts e none

    rest : Taken
    rest = taken_from setup (items done ++ e.item ∷ []) (length done + 1) (items left)

    more : followed setup.shard (items done ++ e.item ∷ []) ≡ true
    more = follows_as_known setup.shard (items done) e.item may_stand.before
        ∙ ap (λ (q : Stage × Facts). follows_next setup.shard q.0 q.1 e.item) (known_both may_stand) ∙ fit.follows

get_there : (done : List Placed) (e : Placed) (left : List Placed) → slice_get (done ++ e ∷ left) (length done) ≡ Some e
get_there [] e left = refl
get_there (d ∷ ds) e left = get_there ds e left

-- a refused one is the verdict
pub at_fault : (setup : Setup) (entries done : List Placed) (e : Placed) (left : List Placed) (stage : Stage) (facts : Facts) (fault : Fault) →
    Stands setup entries done (e ∷ left) stage facts
    → fault_next setup stage facts e ≡ Some fault → fault_in (taken setup (items entries)) entries ≡ Some fault
at_fault setup entries done e left stage facts fault may_stand refused =
    ap (λ v. fault_in v entries) (verdict_here setup entries done e left stage facts may_stand)
    ∙ by_tests (belongs setup e.item) (follows_next setup.shard stage facts e.item && fits_facts facts e.item) refused
  where
    by_tests : (a b : Bool) → cond (not a) (Some Fault.Stranger) (cond b None (Some (Fault.Damaged e.offset))) ≡ Some fault
        → fault_in (cond (not a) (StrangerAt (length done)) (cond b (taken_from setup (items done ++ e.item ∷ []) (length done + 1) (items left))
        (DamagedAt (length done)))) entries ≡ Some fault
    by_tests false b k = k
    by_tests true false k =
        ap (λ es. follow (slice_get es (length done)) (λ q. Some (Fault.Damaged q.offset))) may_stand.whole
        ∙ ap (λ o. follow o (λ q. Some (Fault.Damaged q.offset))) (get_there done e left) ∙ k
    by_tests true true k = cc

-- where none is left, all were taken
pub at_end : (setup : Setup) (entries done : List Placed) (stage : Stage) (facts : Facts) → Stands setup entries done [] stage facts →
    taken setup (items entries) ≡ Accepted
at_end setup entries done stage facts may_stand = may_stand.verdict

pub all_known : (setup : Setup) (entries done : List Placed) (stage : Stage) (facts : Facts) → Stands setup entries done [] stage facts → facts
    ≡ facts_of (items entries)
all_known setup entries done stage facts may_stand = may_stand.known ∙ ap (λ es. facts_of (items es)) (sym (all_done done) ∙ sym may_stand.whole)
  where
    all_done : (es : List Placed) → es ++ [] ≡ es
    all_done [] = refl
    all_done (e ∷ es) = ap (λ ds. e ∷ ds) (all_done es)

-- ---- along the entries behind the first

-- the first was taken
pub after_first : (setup : Setup) (entries : List Placed) (first : Placed) (rest : List Placed) (stage : Stage) (facts : Facts) → entries ≡ first ∷ rest
    → fault_next setup (stage_of []) (facts_of []) first ≡ None → stage ≡ stage_after (stage_of []) first.item → facts ≡ learn (facts_of []) first.item
    → Stands setup entries (take 1 entries) rest stage facts
after_first setup entries first rest stage facts whole none staged learnt =
    subst (λ (q : Stage × Facts). Stands setup entries (take 1 entries) rest q.0 q.1) (λ i. (sym staged i, sym learnt i))
    (subst (λ done. Stands setup entries done rest (stage_after (stage_of []) first.item) (learn (facts_of []) first.item)) (sym (ap (take 1) whole))
    (at_next setup entries [] first rest (stage_of []) (facts_of [])
    (subst (λ left. Stands setup entries [] left (stage_of []) (facts_of [])) whole (at_start setup entries)) none))

module _ (setup : Setup) (entries : List Placed) (first : Placed) (rest : List Placed) (i : ℕ) (e : Placed) (stage : Stage) (facts : Facts)
    (whole : entries ≡ first ∷ rest) (lt : i < length rest) (is : e ≡ get_or rest i e) (may_stand : Stands setup entries (take (i + 1) entries)
    (drop i rest) stage facts) where
  here : Stands setup entries (take (i + 1) entries) (e ∷ drop (i + 1) rest) stage facts
  here = subst (λ left. Stands setup entries (take (i + 1) entries) left stage facts) (drop_more rest i e lt
      ∙ ap (λ q. q ∷ drop (i + 1) rest) (sym is)) may_stand

  long : length entries ≡ suc (length rest)
  long = ap length whole

  there : get_or entries (i + 1) e ≡ e
  there = ap (λ es. get_or es (i + 1) e) whole ∙ behind i ∙ sym is
    where
      behind : (n : ℕ) → get_or (first ∷ rest) (n + 1) e ≡ get_or rest n e
      behind n = let on : n + 1 ≡ suc n = omega arith in ap (λ m. get_or (first ∷ rest) m e) on

  -- the next one was taken
  pub after_next : (next : Stage) (later : Facts) → fault_next setup stage facts e ≡ None → next ≡ stage_after stage e.item → later ≡ learn facts e.item →
      Stands setup entries (take (i + 1 + 1) entries) (drop (i + 1) rest) next later
  after_next next later none staged learnt =
      subst (λ (q : Stage × Facts). Stands setup entries (take (i + 1 + 1) entries) (drop (i + 1) rest) q.0 q.1) (λ j. (sym staged j, sym learnt j))
      (subst (λ done. Stands setup entries done (drop (i + 1) rest) (stage_after stage e.item) (learn facts e.item))
      (sym (take_more entries (i + 1) e (omega (arith, long, lt)) ∙ ap (λ q. take (i + 1) entries ++ q ∷ []) there))
      (at_next setup entries (take (i + 1) entries) e (drop (i + 1) rest) stage facts here none))

  -- or it is refused
  pub fault_there : (fault : Fault) → fault_next setup stage facts e ≡ Some fault → fault_in (taken setup (items entries)) entries ≡ Some fault
  fault_there fault refused = at_fault setup entries (take (i + 1) entries) e (drop (i + 1) rest) stage facts fault here refused

-- ---- the ends

-- no entry at all
pub none_taken : (setup : Setup) (entries : List Placed) → length entries ≡ 0 → taken setup (items entries) ≡ Accepted
none_taken setup [] none = at_end setup [] [] (stage_of []) (facts_of []) (at_start setup [])
none_taken setup (e ∷ es) none = absurd (omega (arith, none))
