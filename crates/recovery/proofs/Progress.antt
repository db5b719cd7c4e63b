-- A log that is taken record by record: what is known behind one record more.
use Rattle.std.proofs.Common.{◌≡◌, ℕ, zero, suc, ◌+◌, Bool, true, false, not, cond, ◌&&◌, List, []}
use Rattle.std.proofs.Common.{◌∷◌, ◌++◌, length, Option, Some, None, refl, sym, ap, subst, ◌∙◌, append_assoc, append-nil, arith}
use Rattle.std.proofs.lemmas.Bool.{false≢true}
use Rattle.std.specs.Prelude.{slice_get, is_some, IsSome}
use Rattle.std.proofs.Common.{◌⊎◌, inl, inr, reverse}
use Rattle.std.proofs.lemmas.List.{reverse-append}
use Rattle.memory.specs.Kept.{Kept}
use Rattle.units.specs.declared.fault.Fault.TheVariants.{Memory}
use Rattle.recovery.specs.Rebuilding.{Goes, IsStateOf, Progresses, known_of, stage_known}
use Rattle.facts.specs.Stages.{stage_after, stage_of}
use Rattle.facts.specs.declared.stage.Stage.{Stage}
use Rattle.units.specs.Lists.{follow}
use Rattle.units.specs.declared.fault.Fault.{Fault}
use Rattle.units.specs.declared.setup.Setup.{Setup}
use Rattle.record.specs.Accepted.{Taken, Accepted, DamagedAt, StrangerAt, begins, belongs, fits_beside, follows, taken, taken_from}
use Rattle.record.specs.Facts.{Facts, facts_of, learn}
use Rattle.record.specs.declared.record.Record.{Record}
use Rattle.frames.specs.Placed.{Placed}
use Rattle.recovery.specs.Recovered.{fault_in, fault_next, items}
use Rattle.recovery.specs.Rebuilding.{AllStand, Stands}
use Rattle.recovery.proofs.Verdicts.{at_start, at_fault, at_next, items-append}

-- the verdict goes on behind records that are accepted
taken_behind : (setup : Setup) (before : List Record) (place : ℕ) (xs ys : List Record) → taken_from setup before place xs ≡ Accepted
    → taken_from setup before place (xs ++ ys) ≡ taken_from setup (before ++ xs) (place + length xs) ys
taken_behind setup before place [] ys accepted =
    ap (λ l. taken_from setup l place ys) (sym (append-nil before)) ∙ ap (λ n. taken_from setup (before ++ []) n ys) (plus_none place)
  where
    plus_none : (n : ℕ) → n ≡ n + 0
    plus_none n = omega arith
taken_behind setup before place (r ∷ xs) ys accepted =
    by_tests (belongs setup r) (begins before r && follows setup.shard before r && fits_beside before r) accepted
    (taken_behind setup (before ++ r ∷ []) (place + 1) xs ys)
    ∙ ap (λ l. taken_from setup l (place + 1 + length xs) ys) (append_assoc before (r ∷ []) xs)
    ∙ ap (λ n. taken_from setup (before ++ r ∷ xs) n ys) (one_more place (length xs))
  where
    one_more : (n m : ℕ) → n + 1 + m ≡ n + suc m
    one_more n m = omega arith

    by_tests : (a b : Bool) → cond (not a) (StrangerAt place) (cond b (taken_from setup (before ++ r ∷ []) (place + 1) xs) (DamagedAt place)) ≡ Accepted
        → (taken_from setup (before ++ r ∷ []) (place + 1) xs ≡ Accepted
        → taken_from setup (before ++ r ∷ []) (place + 1) (xs ++ ys) ≡ taken_from setup ((before ++ r ∷ []) ++ xs) (place + 1 + length xs) ys)
        → cond (not a) (StrangerAt place) (cond b (taken_from setup (before ++ r ∷ []) (place + 1) (xs ++ ys)) (DamagedAt place))
        ≡ taken_from setup ((before ++ r ∷ []) ++ xs) (place + 1 + length xs) ys
    by_tests true true h rest = rest h
    by_tests true false h rest = cc
    by_tests false b h rest = cc

-- and where one is refused, it counts
abbrev is_refused : Taken → Bool
is_refused Accepted = false
is_refused (DamagedAt place) = true
is_refused (StrangerAt place) = true

taken_stays : (setup : Setup) (before : List Record) (place : ℕ) (xs ys : List Record) → is_refused (taken_from setup before place xs) ≡ true
    → taken_from setup before place (xs ++ ys) ≡ taken_from setup before place xs
taken_stays setup before place [] ys refused = absurd (false≢true refused)
taken_stays setup before place (r ∷ xs) ys refused =
    by_tests (belongs setup r) (begins before r && follows setup.shard before r && fits_beside before r) refused
    (taken_stays setup (before ++ r ∷ []) (place + 1) xs ys)
  where
    by_tests : (a b : Bool) →
        is_refused (cond (not a) (StrangerAt place) (cond b (taken_from setup (before ++ r ∷ []) (place + 1) xs) (DamagedAt place))) ≡ true
        → (is_refused (taken_from setup (before ++ r ∷ []) (place + 1) xs) ≡ true
        → taken_from setup (before ++ r ∷ []) (place + 1) (xs ++ ys) ≡ taken_from setup (before ++ r ∷ []) (place + 1) xs)
        → cond (not a) (StrangerAt place) (cond b (taken_from setup (before ++ r ∷ []) (place + 1) (xs ++ ys)) (DamagedAt place))
        ≡ cond (not a) (StrangerAt place) (cond b (taken_from setup (before ++ r ∷ []) (place + 1) xs) (DamagedAt place))
    by_tests true true h rest = rest h
    by_tests true false h rest = refl
    by_tests false b h rest = refl

-- ---- by what was taken

one_left : (setup : Setup) (ts : List Placed) (e : Placed) (stage : Stage) (facts : Facts) → AllStand setup ts stage facts →
    Stands setup (ts ++ e ∷ []) ts (e ∷ []) stage facts
unfolding taken
one_left setup ts e stage facts may_stand = record {
  whole = refl;
  before = may_stand.before;
  known = may_stand.known;
  staged = may_stand.staged;
  verdict =
      ap (taken setup) (items-append ts (e ∷ []))
      ∙ taken_behind setup [] 0 (items ts) (e.item ∷ []) may_stand.verdict
      ∙ ap (λ n. taken_from setup (items ts) n (e.item ∷ [])) (length-items ts);
}
  where
    length-items : (ts : List Placed) → 0 + length (items ts) ≡ length ts
    length-items [] = refl
    length-items (t ∷ ts) = let more = length-items ts in omega (arith, more)

-- one more is taken
pub stands_more : (setup : Setup) (ts : List Placed) (e : Placed) (stage : Stage) (facts : Facts) → AllStand setup ts stage facts →
    fault_next setup stage facts e ≡ None
    → AllStand setup (ts ++ e ∷ []) (stage_after stage e.item) (learn facts e.item)
stands_more setup ts e stage facts may_stand none = at_next setup (ts ++ e ∷ []) ts e [] stage facts (one_left setup ts e stage facts may_stand) none

-- one more is refused
pub refused_more : (setup : Setup) (ts : List Placed) (e : Placed) (stage : Stage) (facts : Facts) (fault : Fault) → AllStand setup ts stage facts →
    fault_next setup stage facts e ≡ Some fault
    → fault_in (taken setup (items (ts ++ e ∷ []))) (ts ++ e ∷ []) ≡ Some fault
refused_more setup ts e stage facts fault may_stand refused =
    at_fault setup (ts ++ e ∷ []) ts e [] stage facts fault (one_left setup ts e stage facts may_stand) refused

-- one was refused before
pub refused_stays : (setup : Setup) (ts : List Placed) (e : Placed) (fault : Fault) → fault_in (taken setup (items ts)) ts ≡ Some fault
    → fault_in (taken setup (items (ts ++ e ∷ []))) (ts ++ e ∷ []) ≡ Some fault
unfolding taken
refused_stays setup ts e fault refused =
    ap (λ rs. fault_in (taken_from setup [] 0 rs) (ts ++ e ∷ [])) (items-append ts (e ∷ []))
    ∙ ap (λ v. fault_in v (ts ++ e ∷ [])) (taken_stays setup [] 0 (items ts) (e.item ∷ []) (by_verdict (taken_from setup [] 0 (items ts)) refused))
    ∙ in_longer (taken_from setup [] 0 (items ts)) refused
  where
    by_verdict : (v : Taken) → fault_in v ts ≡ Some fault → is_refused v ≡ true
    by_verdict Accepted h = cc
    by_verdict (DamagedAt place) h = refl
    by_verdict (StrangerAt place) h = refl

    still : (es : List Placed) (place : ℕ) → follow (slice_get es place) (λ q. Some (Fault.Damaged q.offset)) ≡ Some fault
        → follow (slice_get (es ++ e ∷ []) place) (λ q. Some (Fault.Damaged q.offset)) ≡ Some fault
    still [] place h = cc
    still (d ∷ es) zero h = h
    still (d ∷ es) (suc place) h = still es place h

    in_longer : (v : Taken) → fault_in v ts ≡ Some fault → fault_in v (ts ++ e ∷ []) ≡ Some fault
    in_longer Accepted h = cc
    in_longer (DamagedAt place) h = still ts place h
    in_longer (StrangerAt place) h = h

-- ---- what a rebuild keeps

-- one more is taken
goes_more : (setup : Setup) (ts : List Placed) (e : Placed) (state state' : Option Kept) → fault_next setup (stage_known state) (known_of state) e
    ≡ None → IsSome state'
    → IsStateOf setup state' → stage_known state' ≡ stage_after (stage_known state) e.item → known_of state' ≡ learn (known_of state) e.item →
    Goes setup ts state → Goes setup (ts ++ e ∷ []) state'
goes_more setup ts e state None none there of staged known goes = absurd (false≢true there)
goes_more setup ts e state (Some k) none there of staged known goes = record {
  begun = tt;
  state_of = of;
  stands = subst (λ (q : Stage × Facts). AllStand setup (ts ++ e ∷ []) q.0 q.1) (λ i. (sym staged i, sym known i))
      (stands_more setup ts e (stage_known state) (known_of state) goes.stands none);
}

module _ (setup : Setup) (ts ts' : List Placed) (e : Placed) (more : ts' ≡ ts ++ e ∷ []) (state state' : Option Kept) where
  pub of_going : (o : Option Fault) → false ≡ is_some o → Progresses setup ts state o → Goes setup ts state
  of_going None none goes = goes
  of_going (Some fault) none goes = absurd (false≢true none)

  pub on_refused : (o : Option Fault) → true ≡ is_some o → Progresses setup ts state o → Progresses setup ts' state o
  on_refused None some h = absurd (false≢true (sym some))
  on_refused (Some fault) some refused = λ other.
      subst (λ l. fault_in (taken setup (items l)) l ≡ Some fault) (sym more) (refused_stays setup ts e fault (refused other))

  pub on_ok : (o : Option Fault) → false ≡ is_some o → fault_next setup (stage_known state) (known_of state) e ≡ None → IsSome state' → IsStateOf setup state'
      → stage_known state' ≡ stage_after (stage_known state) e.item → known_of state' ≡ learn (known_of state) e.item → Progresses setup ts state o →
      Progresses setup ts' state' o
  on_ok None none next there of staged known goes =
      subst (λ l. Goes setup l state') (sym more) (goes_more setup ts e state state' next there of staged known goes)
  on_ok (Some fault) none next there of staged known goes = absurd (false≢true none)

  pub on_err : (o : Option Fault) (fault : Fault) → false ≡ is_some o →
      (fault ≡ Memory) ⊎ (fault_next setup (stage_known state) (known_of state) e ≡ Some fault)
      → Progresses setup ts state o → Progresses setup ts' state' (Some fault)
  on_err None fault none (inl memory) goes = λ other. absurd (other memory)
  on_err None fault none (inr next) goes = λ other.
      subst (λ l. fault_in (taken setup (items l)) l
      ≡ Some fault) (sym more) (refused_more setup ts e (stage_known state) (known_of state) fault goes.stands next)
  on_err (Some former) fault none cause goes = absurd (false≢true none)

-- the entries that were taken, the newest last
pub newest_last : (e : Placed) (es now : List Placed) → now ≡ e ∷ es → reverse now ≡ reverse es ++ e ∷ []
newest_last e es now is = ap reverse is ∙ reverse-append (e ∷ []) es

-- it is for memory, or it is not
abbrev is_memory : Fault → Bool
is_memory Memory = true
is_memory _ = false

memory_is : (fault : Fault) → is_memory fault ≡ true → fault ≡ Memory
memory_is Memory h = refl
memory_is _ h = absurd (false≢true h)

pub memory_or : (fault : Fault) (X : Type 0) → ((fault ≡ Memory → ⊥) → X) → (fault ≡ Memory) ⊎ X
memory_or fault X other = by_test (is_memory fault) refl
  where
    by_test : (b : Bool) → is_memory fault ≡ b → (fault ≡ Memory) ⊎ X
    by_test true is = inl (memory_is fault is)
    by_test false is = inr (other (λ memory. absurd (false≢true (sym is ∙ ap is_memory memory))))

-- nothing was taken yet
pub at_none : (setup : Setup) (ts : List Placed) → ts ≡ [] → Progresses setup ts None None
at_none setup ts none = record {
  begun = none;
  state_of = tt;
  stands = subst (λ l. AllStand setup l (stage_of []) (facts_of [])) (sym none) (at_start setup []);
}
