-- A log fits a decision exactly where all its records do, one after another.
use Rattle.std.specs.List.{list_any}
use Rattle.std.proofs.Common.{◌≡◌, ◌∙◌, ℕ, Bool, true, false, not, cond, ◌&&◌, ◌||◌, nat_eq, nat_le, List, [], ◌∷◌, length, map}
use Rattle.std.proofs.Common.{Some, None, refl, sym, ap, arith}
use Rattle.std.proofs.lemmas.Bool.Decides.{nat_tests}
use Rattle.units.specs.Ids.{Id, same_id}
use Rattle.units.specs.Lists.{gather, has, when}
use Rattle.record.specs.Records.{as_ended, closed_promise, is_aborted}
use Rattle.record.specs.Whole.{Decision, fits_decision, is_promise_for, outcomes_fit, promises_of, turns_down}
use Rattle.record.specs.declared.record.Prepared.{Prepared}
use Rattle.record.specs.declared.record.Record.{Record}
use Rattle.record.specs.declared.record.Record.TheVariants.{Opened, Ceiling, Prepare, Commit, Abort, Outcome, Horizon, Base, Version, Settled, Closed, Retired}
use Rattle.inspector.specs.declared.whole.Stand.TheVariants.{Nothing, Otherwise, Promised}
use Rattle.inspector.specs.Tallies.{all_fit, stand_of}

-- there is none
abbrev is_none : List Prepared → Bool
is_none [] = true
is_none (p ∷ ps) = false

no_length : (ps : List Prepared) → nat_eq (length ps) 0 ≡ is_none ps
no_length [] = refl
no_length (p ∷ ps) = grind (arith, nat_tests)

-- the promises fit, where one was found before or not
abbrev promises_fit : Bool → Bool → Bool → Decision → List Prepared → Bool
promises_fit own part found d ps = cond own true (cond part (cond found (is_none ps) (is_promise_for d ps)) (is_none ps))

-- the outcomes aborted
abbrev is_ended_aborted : List Record → Id → Bool
is_ended_aborted log t = list_any (λ e. same_id e.txn t && not (when (λ s. true) e.outcome)) (gather as_ended log)

never : (a b : Bool) → false ≡ (a && b && false)
never true true = refl
never true false = refl
never false b = refl

never_first : (a b : Bool) → false ≡ (a && false && b)
never_first true b = refl
never_first false b = refl

turned : (a b c : Bool) → false ≡ (not (a || true) && b && c)
turned true b c = refl
turned false b c = refl

-- one more promise
one_promise : (own part found up fit : Bool) (d : Decision) (p : Prepared) (ps : List Prepared) (rest found_rest : Bool)
    → rest ≡ (up && fit && promises_fit own part found d ps) → found_rest ≡ (up && fit && promises_fit own part true d ps)
    → cond own rest (cond (part && not found && (nat_eq p.coordinator d.shard && nat_le p.at d.commit.at)) found_rest false)
    ≡ (up && fit && promises_fit own part found d (p ∷ ps))
one_promise true part found up fit d p ps rest found_rest r f = r
one_promise false false found up fit d p ps rest found_rest r f = never up fit
one_promise false true true up fit d p ps rest found_rest r f = never up fit
one_promise false true false up fit d p ps rest found_rest r f = by_fits (nat_eq p.coordinator d.shard && nat_le p.at d.commit.at) refl ps f
  where
    by_fits : (b : Bool) → (nat_eq p.coordinator d.shard && nat_le p.at d.commit.at) ≡ b → (qs : List Prepared)
        → found_rest ≡ (up && fit && is_none qs) → cond b found_rest false ≡ (up && fit && is_promise_for d (p ∷ qs))
    by_fits true is [] f = f ∙ ap (λ b. up && fit && b) (sym is)
    by_fits true is (q ∷ qs) f = f
    by_fits false is [] f = never up fit ∙ ap (λ b. up && fit && b) (sym is)
    by_fits false is (q ∷ qs) f = never up fit

none_left : (own part found : Bool) (d : Decision) → cond own true (cond part found true) ≡ promises_fit own part found d []
none_left true part found d = refl
none_left false true true d = refl
none_left false true false d = refl
none_left false false found d = refl

-- an outcome at a timestamp more
ended_fits : (own part found : Bool) (t : Id) (d : Decision) (log : List Record) (b c at : Bool)
    → all_fit own part found (map (stand_of t d) log)
    ≡ (not (turns_down log t) && outcomes_fit log t (nat_eq d.commit.at) && promises_fit own part found d (promises_of log t))
    → all_fit own part found (cond (c && not at) Otherwise Nothing ∷ map (stand_of t d) log)
    ≡ (not (is_aborted log t || ((b && false) || is_ended_aborted log t)) && ((not c || at) && outcomes_fit log t (nat_eq d.commit.at))
    && promises_fit own part found d (promises_of log t))
ended_fits own part found t d log true true true rest = rest
ended_fits own part found t d log false true true rest = rest
ended_fits own part found t d log b true false rest = never_first (not (is_aborted log t || ((b && false) || is_ended_aborted log t)))
    (promises_fit own part found d (promises_of log t))
ended_fits own part found t d log true false at rest = rest
ended_fits own part found t d log false false at rest = rest

pub each_fits : (own part found : Bool) (t : Id) (d : Decision) (log : List Record)
    → all_fit own part found (map (stand_of t d) log)
    ≡ (not (turns_down log t) && outcomes_fit log t (nat_eq d.commit.at) && promises_fit own part found d (promises_of log t))
each_fits own part found t d [] = none_left own part found d
each_fits own part found t d (Opened e ∷ log) = each_fits own part found t d log
each_fits own part found t d (Ceiling a ∷ log) = each_fits own part found t d log
each_fits own part found t d (Horizon a ∷ log) = each_fits own part found t d log
each_fits own part found t d (Retired b ∷ log) = each_fits own part found t d log
each_fits own part found t d (Base e f h ∷ log) = each_fits own part found t d log
each_fits own part found t d (Version v ∷ log) = each_fits own part found t d log
each_fits own part found t d (Commit c ∷ log) = each_fits own part found t d log
each_fits own part found t d (Prepare p ∷ log) = by_test (same_id p.txn t) (each_fits own part found t d log) (each_fits own part true t d log)
  where
    by_test : (b : Bool)
        → all_fit own part found (map (stand_of t d) log)
        ≡ (not (turns_down log t) && outcomes_fit log t (nat_eq d.commit.at) && promises_fit own part found d (promises_of log t))
        → all_fit own part true (map (stand_of t d) log)
        ≡ (not (turns_down log t) && outcomes_fit log t (nat_eq d.commit.at) && promises_fit own part true d (promises_of log t))
        → all_fit own part found (cond b (Promised (nat_eq p.coordinator d.shard && nat_le p.at d.commit.at)) Nothing ∷ map (stand_of t d) log)
        ≡ (not (turns_down log t) && outcomes_fit log t (nat_eq d.commit.at)
        && promises_fit own part found d (cond b (p ∷ promises_of log t) (promises_of log t)))
    by_test true rest found_rest =
        one_promise own part found (not (turns_down log t)) (outcomes_fit log t (nat_eq d.commit.at)) d p (promises_of log t)
        (all_fit own part found (map (stand_of t d) log)) (all_fit own part true (map (stand_of t d) log)) rest found_rest
    by_test false rest found_rest = rest
each_fits own part found t d (Abort u ∷ log) = by_test (same_id t u) (each_fits own part found t d log)
  where
    by_test : (b : Bool)
        → all_fit own part found (map (stand_of t d) log)
        ≡ (not (turns_down log t) && outcomes_fit log t (nat_eq d.commit.at) && promises_fit own part found d (promises_of log t))
        → all_fit own part found (cond b Otherwise Nothing ∷ map (stand_of t d) log)
        ≡ (not ((b || is_aborted log t) || is_ended_aborted log t) && outcomes_fit log t (nat_eq d.commit.at)
        && promises_fit own part found d (promises_of log t))
    by_test true rest = refl
    by_test false rest = rest
each_fits own part found t d (Outcome u None ∷ log) = by_test (same_id u t) (same_id t u) (each_fits own part found t d log)
  where
    by_test : (b c : Bool)
        → all_fit own part found (map (stand_of t d) log)
        ≡ (not (turns_down log t) && outcomes_fit log t (nat_eq d.commit.at) && promises_fit own part found d (promises_of log t))
        → all_fit own part found (cond b Otherwise Nothing ∷ map (stand_of t d) log)
        ≡ (not (is_aborted log t || ((b && true) || is_ended_aborted log t)) && ((not c || true) && outcomes_fit log t (nat_eq d.commit.at))
        && promises_fit own part found d (promises_of log t))
    by_test true c rest = turned (is_aborted log t) ((not c || true) && outcomes_fit log t (nat_eq d.commit.at))
        (promises_fit own part found d (promises_of log t))
    by_test false true rest = rest
    by_test false false rest = rest
each_fits own part found t d (Outcome u (Some s) ∷ log) =
    ended_fits own part found t d log (same_id u t) (same_id t u) (nat_eq d.commit.at s) (each_fits own part found t d log)
each_fits own part found t d (Settled u s parts ∷ log) =
    ended_fits own part found t d log (same_id u t) (same_id t u) (nat_eq d.commit.at s) (each_fits own part found t d log)
each_fits own part found t d (Closed u k None ∷ log) = by_test (same_id u t) (same_id t u) (each_fits own part found t d log)
  where
    by_test : (b c : Bool)
        → all_fit own part found (map (stand_of t d) log)
        ≡ (not (turns_down log t) && outcomes_fit log t (nat_eq d.commit.at) && promises_fit own part found d (promises_of log t))
        → all_fit own part found (cond b Otherwise Nothing ∷ map (stand_of t d) log)
        ≡ (not (is_aborted log t || ((b && true) || is_ended_aborted log t)) && ((not c || true) && outcomes_fit log t (nat_eq d.commit.at))
        && promises_fit own part found d (cond b (closed_promise u k None ∷ promises_of log t) (promises_of log t)))
    by_test true c rest = turned (is_aborted log t) ((not c || true) && outcomes_fit log t (nat_eq d.commit.at))
        (promises_fit own part found d (closed_promise u k None ∷ promises_of log t))
    by_test false true rest = rest
    by_test false false rest = rest
each_fits own part found t d (Closed u k (Some s) ∷ log) =
    by_test (same_id u t) (same_id t u) (nat_eq d.commit.at s) (each_fits own part found t d log) (each_fits own part true t d log)
  where
    fits : Bool
    fits = nat_eq k d.shard && nat_le s d.commit.at

    by_test : (b c at : Bool)
        → all_fit own part found (map (stand_of t d) log)
        ≡ (not (turns_down log t) && outcomes_fit log t (nat_eq d.commit.at) && promises_fit own part found d (promises_of log t))
        → all_fit own part true (map (stand_of t d) log)
        ≡ (not (turns_down log t) && outcomes_fit log t (nat_eq d.commit.at) && promises_fit own part true d (promises_of log t))
        → all_fit own part found (cond (c && not at) Otherwise (cond b (Promised fits) Nothing) ∷ map (stand_of t d) log)
        ≡ (not (is_aborted log t || ((b && false) || is_ended_aborted log t)) && ((not c || at) && outcomes_fit log t (nat_eq d.commit.at))
        && promises_fit own part found d (cond b (closed_promise u k (Some s) ∷ promises_of log t) (promises_of log t)))
    by_test b true false rest found_rest = never_first (not (is_aborted log t || ((b && false) || is_ended_aborted log t)))
        (promises_fit own part found d (cond b (closed_promise u k (Some s) ∷ promises_of log t) (promises_of log t)))
    by_test true true true rest found_rest =
        one_promise own part found (not (turns_down log t)) (outcomes_fit log t (nat_eq d.commit.at)) d (closed_promise u k (Some s)) (promises_of log t)
        (all_fit own part found (map (stand_of t d) log)) (all_fit own part true (map (stand_of t d) log)) rest found_rest
    by_test true false at rest found_rest =
        one_promise own part found (not (turns_down log t)) (outcomes_fit log t (nat_eq d.commit.at)) d (closed_promise u k (Some s)) (promises_of log t)
        (all_fit own part found (map (stand_of t d) log)) (all_fit own part true (map (stand_of t d) log)) rest found_rest
    by_test false true true rest found_rest = rest
    by_test false false at rest found_rest = rest

pub log_by_records : (t : Id) (d : Decision) (n : ℕ) (log : List Record)
    → fits_decision t d (n, log) ≡ all_fit (nat_eq n d.shard) (has d.commit.parts n) false (map (stand_of t d) log)
log_by_records t d n log =
    ap (λ none. not (turns_down log t) && outcomes_fit log t (nat_eq d.commit.at) && cond (nat_eq n d.shard) true
    (cond (has d.commit.parts n) (is_promise_for d (promises_of log t)) none)) (no_length (promises_of log t))
    ∙ sym (each_fits (nat_eq n d.shard) (has d.commit.parts n) false t d log)
