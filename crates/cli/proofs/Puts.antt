-- Attempts to put a value at a key, and what they come to.
use Rattle.std.proofs.Common.{◌≡◌, ◌⊎◌, inl, inr, ℕ, Bool, true, false, true≢false, ◌&&◌, List, [], ◌∷◌, ◌++◌, length, Result, Ok, Err, Some}
use Rattle.std.proofs.Common.{refl, ap, sym, ◌∙◌, subst, arith, ◌+◌, ◌≤◌}
use Rattle.std.specs.Prelude.{MatchResult}
use Rattle.std.specs.List.{All, FoldsTo, list_all}
use Rattle.std.specs.Fn.{Mut, Called}
use Rattle.std.specs.Borrow.{MutBor}
use Rattle.std.proofs.lemmas.List.Elements.{All-cons, All-nil, All-pop}
use Rattle.units.specs.Ids.{Id, same_id}
use Rattle.units.specs.Keys.{Bytes}
use Rattle.units.specs.declared.fault.Fault.{Fault}
use Rattle.units.specs.declared.fault.Fault.TheVariants.{Memory}
use Rattle.units.specs.declared.writes.Write.{Write}
use Rattle.units.proofs.IdLaws.{same_id-refl}
use Rattle.session.specs.Sessions.{Client, Moved, Denies, Goes, begun, buffers, closes}
use Rattle.session.specs.Shown.{IsDenied, is_made}
use Rattle.client.specs.Ends.{halt_for, left}
use Rattle.client.specs.declared.ended.Ended.{Ended}
use Rattle.client.specs.declared.ended.Ended.TheVariants as finish
use Rattle.client.specs.declared.ended.Halt.{Halt as Halted}
use Rattle.store.specs.Attempts.{AreAborted, AreAttempts, CannotBegin, ComesTo, Doing, Ends, HasTried, IsAttempt, IsOver, IsToldAs, Runs, Worker, beginning}
use Rattle.store.specs.Attempts.{id_in, kept, narrowed, ran_of, runs_again, widened}
use Rattle.store.specs.declared.ended.Halt.TheVariants as halt
use Rattle.cli.specs.Written.{Attempt, EndAs, Halt, IsAborted, IsPut, IsLast, IsPutting, IsUnwritten, Puts, Told, end_told, one_write}

-- ---- one attempt

-- a step that is made leaves the session that it says
client_after : Moved → Client → Client
client_after (Goes c es) d = c
client_after (Denies f) d = d

-- a write into a new session leaves one write
wrote_one : (key value : Bytes) (t : Id) (c : Client) → buffers (record { key = key; value = Some value }) (begun t) ≡ Goes c [] → c ≡ one_write key value t
unfolding client_after buffers
wrote_one key value t c e = sym (ap (λ m. client_after m c) e)

-- and it is refused for want of memory alone
not_denied : (w : Write) (t : Id) (fault : Fault) → buffers w (begun t) ≡ Denies fault → ⊥
unfolding buffers
not_denied w t fault e = true≢false (ap is_made e)

wants_memory : (w : Write) (t : Id) (fault : Fault) → IsDenied (buffers w (begun t)) fault → fault ≡ Memory
wants_memory w t fault (inl is) = absurd (not_denied w t fault is)
wants_memory w t fault (inr is) = is.0

-- a session with one write may close
may_close : (splits : List Bytes) (key value : Bytes) (t : Id) (fault : Fault) → closes splits (one_write key value t) ≡ Denies fault → ⊥
unfolding closes
may_close splits key value t fault e = true≢false (ap is_made e)

by_id : (t u : Id) (ran r : Result (Unit {0}) Halt) → u ≡ t → ran ≡ kept (same_id t u) r → ran ≡ r
by_id t u ran r same is = is ∙ ap (λ b. kept b r) (ap (λ (v : Id). same_id t v) same ∙ same_id-refl t)

putting : (run : ℕ) (splits : List Bytes) (key value : Bytes) (a : Attempt) (r : Result (Unit {0}) Halt) → IsAttempt run a
    → Puts key value (beginning splits (id_in run a)) r a.left → a.ran ≡ kept (same_id (id_in run a) a.left.session.client.txn) r
    → IsPutting run key value a
putting run splits key value a (Ok done) is puts ran =
    let its = wrote_one key value (id_in run a) a.left.session.client puts in
    let same = by_id (id_in run a) a.left.session.client.txn a.ran (Ok done) (ap (λ (c : Client). c.txn) its) ran in
    record {
      attempt = is;
      wrote =
          subst (λ (x : Result (Unit {0}) Halt). MatchResult x (λ _. a.left.session.client ≡ one_write key value (id_in run a))
          (λ why. why ≡ halt.Refused Memory)) (sym same) its;
    }
putting run splits key value a (Err why) is puts ran =
    let same = by_id (id_in run a) a.left.session.client.txn a.ran (Err why) (ap (λ (d : Doing). d.session.client.txn) puts.0) ran in
    record {
      attempt = is;
      wrote =
          subst (λ (x : Result (Unit {0}) Halt). MatchResult x (λ _. a.left.session.client ≡ one_write key value (id_in run a))
          (λ why. why ≡ halt.Refused Memory)) (sym same) (by_cause puts.1);
    }
  where
    by_cause : (why ≡ halt.Refused Memory) ⊎ ((call : Halted) × (why ≡ widened call) × ((fault : Fault) × (call ≡ halt_for fault)
        × IsDenied (buffers (record { key = key; value = Some value }) (begun (id_in run a))) fault)) → why ≡ halt.Refused Memory
    by_cause (inl memory) = memory
    by_cause (inr told) =
        told.1 ∙ ap (λ (h : Halted). widened h) (told.2.1 ∙ ap halt_for (wants_memory (record { key = key; value = Some value }) (id_in run a) told.2.0 told.2.2))

-- ---- some attempts, by what the code does that runs in each

module _ {F : Type 0} (g : Mut F (MutBor Doing × Unit {0}) (Result (Unit {0}) Halt × (MutBor Doing × Unit {0}))) where
  each_puts : (key value : Bytes) (f : F)
      → ((p : MutBor Doing) (r : Result (Unit {0}) Halt) (q : MutBor Doing) (f' : F) → Called g f (p, tt) (r, (q, tt)) f'
      → Puts key value p.now r q.now × (f' ≡ f))
      → (w : Worker) (h f' : F) (made : List Attempt) → h ≡ f → AreAttempts w.run made → FoldsTo (Runs g w) h made f'
      → All (IsPutting w.run key value) made
  each_puts key value f says w h f' [] same are folds = All-nil (IsPutting w.run key value)
  each_puts key value f says w h f' (a ∷ rest) same are folds =
      let call = folds.1.1 in
      let said =
      says call.shown folds.1.0 call.left folds.0
      (subst (λ (x : F). Called g x (call.shown, tt) (folds.1.0, (call.left, tt)) folds.0) same call.called) in
      let puts =
      subst (λ (d : Doing). Puts key value d folds.1.0 a.left) call.shows
      (subst (λ (d : Doing). Puts key value call.shown.now folds.1.0 d) call.leaves said.0) in
      All-cons (IsPutting w.run key value) a rest (putting w.run w.splits key value a folds.1.0 are.0 puts folds.1.2)
      (each_puts key value f says w folds.0 f' rest said.1 are.1 folds.2)

-- ---- what they come to

abbrev is_answer : Result Ended Fault → Bool
is_answer (Ok e) = true
is_answer (Err fault) = false

-- what an answer tells, and why it tells nothing
abbrev fault_of : Result Ended Fault → Fault → Fault
fault_of (Ok e) f = f
fault_of (Err fault) f = fault

abbrev is_told : Result Told Fault → Bool
is_told (Ok e) = true
is_told (Err fault) = false

abbrev told_in : Result Told Fault → Told → Told
told_in (Ok e) d = e
told_in (Err fault) d = d

abbrev fault_told : Result Told Fault → Fault → Fault
fault_told (Ok e) f = f
fault_told (Err fault) f = fault

abbrev is_abandon : Halt → Bool
is_abandon (halt.Abandon why) = true
is_abandon why = false

-- what is told as a fault ended for it
told_fault : (id : Id) (ran : Result (Unit {0}) Halt) (end : Result Ended Fault) (fault : Fault) → IsToldAs id ran end (Err fault) → end ≡ Err fault
told_fault id ran (Err f) fault told = ap Err (sym (ap (λ r. fault_told r f) told))
told_fault id (Ok done) (Ok (finish.Committed at)) fault told = absurd (true≢false (sym (ap is_told told)))
told_fault id (Ok done) (Ok (finish.Unknown txn)) fault told = absurd (true≢false (sym (ap is_told told)))
told_fault id (Ok done) (Ok finish.Aborted) fault told = absurd told
told_fault id (Err (halt.Abandon why)) (Ok end) fault told = absurd (true≢false (sym (ap is_told told)))
told_fault id (Err halt.Again) (Ok end) fault told = absurd told
told_fault id (Err (halt.Refused why)) (Ok end) fault told = absurd told
told_fault id (Err (halt.Unserved shard why)) (Ok end) fault told = absurd told

-- what is run again was aborted
again_is : (ran : Result (Unit {0}) Halt) (end : Result Ended Fault) → runs_again ran end ≡ true → end ≡ Ok finish.Aborted
again_is ran (Ok finish.Aborted) is = refl
again_is (Err (halt.Abandon why)) end is = absurd (true≢false (sym is))
again_is ran end is = absurd (true≢false (sym is))

all_aborted : (made : List Attempt) → AreAborted made → All IsAborted made
all_aborted [] are = All-nil IsAborted
all_aborted (a ∷ rest) are = by_test (runs_again a.ran a.ended) refl are (all_aborted rest)
  where
    by_test : (b : Bool) → runs_again a.ran a.ended ≡ b → (b && list_all (λ c. runs_again c.ran c.ended) rest) ≡ true
        → (AreAborted rest → All IsAborted rest) → All IsAborted (a ∷ rest)
    by_test true is more so = All-cons IsAborted a rest (again_is a.ran a.ended is) (so more)
    by_test false is more so = absurd (true≢false (sym more))

-- an attempt whose code wanted memory ends for that
no_memory : (why : Halt) (end : Result Ended Fault) → why ≡ halt.Refused Memory → (end ≡ left (narrowed why)) ⊎ (end ≡ Err Memory) → end ≡ Err Memory
no_memory why end is (inl left_so) = left_so ∙ ap (λ (h : Halt). left (narrowed h)) is
no_memory why end is (inr memory) = memory

-- the code of an attempt that ended went to its end
went : (run : ℕ) (key value : Bytes) (a : Attempt) (e : Ended) → IsPutting run key value a → a.ended ≡ Ok e → a.ran ≡ Ok tt
went run key value a e is told = by_ran a.ran is.wrote is.attempt.ends
  where
    by_ran : (ran : Result (Unit {0}) Halt)
        → MatchResult ran (λ _. a.left.session.client ≡ one_write key value (id_in run a)) (λ why. why ≡ halt.Refused Memory)
        → Ends a.left.session (ran_of ran) a.sent a.heard a.ended → ran ≡ Ok tt
    by_ran (Ok done) wrote ends = refl
    by_ran (Err why) wrote ends = absurd (true≢false (ap is_answer (sym told ∙ no_memory why a.ended wrote ends.1)))

-- and one that did not end wanted memory
failed : (run : ℕ) (key value : Bytes) (a : Attempt) (fault : Fault) → IsPutting run key value a → a.ended ≡ Err fault → fault ≡ Memory
failed run key value a fault is told = by_ran a.ran is.wrote (subst (Ends a.left.session (ran_of a.ran) a.sent a.heard) told is.attempt.ends)
  where
    by_ran : (ran : Result (Unit {0}) Halt)
        → MatchResult ran (λ _. a.left.session.client ≡ one_write key value (id_in run a)) (λ why. why ≡ halt.Refused Memory)
        → Ends a.left.session (ran_of ran) a.sent a.heard (Err fault) → fault ≡ Memory
    by_ran (Ok done) wrote ends = by_why wrote ends.0
      where
        by_why : a.left.session.client ≡ one_write key value (id_in run a)
            → (closes a.left.session.splits a.left.session.client ≡ Denies fault) ⊎ (fault ≡ Memory) → fault ≡ Memory
        by_why wrote (inl denied) =
            absurd (may_close a.left.session.splits key value (id_in run a) fault
            (subst (λ (c : Client). closes a.left.session.splits c ≡ Denies fault) wrote denied))
        by_why wrote (inr memory) = memory
    by_ran (Err why) wrote ends = ap (λ r. fault_of r fault) (no_memory why (Err fault) wrote ends.1)

module _ (run : ℕ) (key value : Bytes) (made : List Attempt) (each : All (IsPutting run key value) made) where
  last_of : (before : List Attempt) (last : Attempt) → made ≡ before ++ last ∷ [] → IsPutting run key value last
  last_of before last whole = (All-pop (IsPutting run key value) made before (Some last) whole each).1

  end_of : (w : Worker) (e : Told) → IsOver w.run made (Ok e) → EndAs made (end_told e)
  end_of w e over = by_told over.last.ran over.last.ended (last_of over.before over.last over.whole).wrote refl refl over.told
    where
      is_last : (end : Ended) → over.last.ran ≡ Ok tt → over.last.ended ≡ Ok end → IsLast made end
      is_last end ran told = record {
        before = over.before;
        last = over.last;
        whole = over.whole;
        aborted = all_aborted over.before over.aborted;
        ran = ran;
        told = told;
      }

      by_told : (ran : Result (Unit {0}) Halt) (end : Result Ended Fault)
          → MatchResult ran (λ _. over.last.left.session.client ≡ one_write key value (id_in run over.last)) (λ why. why ≡ halt.Refused Memory)
          → over.last.ran ≡ ran → over.last.ended ≡ end
          → IsToldAs (id_in w.run over.last) ran end (Ok e) → EndAs made (end_told e)
      by_told (Ok done) (Ok (finish.Committed at)) wrote ran_is end_is told =
          subst (λ (x : Told). EndAs made (end_told x)) (sym (ap (λ r. told_in r e) told)) (is_last (finish.Committed at) ran_is end_is)
      by_told (Ok done) (Ok (finish.Unknown txn)) wrote ran_is end_is told =
          subst (λ (x : Told). EndAs made (end_told x)) (sym (ap (λ r. told_in r e) told)) (is_last (finish.Unknown txn) ran_is end_is)
      by_told (Ok done) (Ok finish.Aborted) wrote ran_is end_is told = absurd told
      by_told (Err (halt.Abandon why)) (Ok end) wrote ran_is end_is told = absurd (true≢false (ap is_abandon wrote))
      by_told (Err halt.Again) (Ok end) wrote ran_is end_is told = absurd told
      by_told (Err (halt.Refused fault)) (Ok end) wrote ran_is end_is told = absurd told
      by_told (Err (halt.Unserved shard fault)) (Ok end) wrote ran_is end_is told = absurd told
      by_told (Ok done) (Err fault) wrote ran_is end_is told = absurd (true≢false (ap is_told told))
      by_told (Err why) (Err fault) wrote ran_is end_is told = absurd (true≢false (ap is_told told))

  ends_as : (w : Worker) (e : Told) → ComesTo 5 w made (Ok e) → (length made ≤ 5) × EndAs made (end_told e)
  ends_as w e (inl are) = (
    omega (arith, are.1),
    subst (λ (x : Told). EndAs made (end_told x)) (sym (ap (λ r. told_in r e) are.2)) (omega (arith, are.1), all_aborted made are.0),
  )
  ends_as w e (inr (inl cannot)) = absurd (true≢false (ap is_told cannot.2.1))
  ends_as w e (inr (inr over)) = (over.1, end_of w e over.0)

  unwritten : (w : Worker) (fault : Fault) → ComesTo 5 w made (Err fault) → IsUnwritten fault
  unwritten w fault (inl are) = absurd (true≢false (sym (ap is_told are.2)))
  unwritten w fault (inr (inl cannot)) = by_cause cannot.2.2
    where
      same : cannot.2.0 ≡ fault
      same = sym (ap (λ r. fault_told r fault) cannot.2.1)

      by_cause : CannotBegin w cannot.2.0 → IsUnwritten fault
      by_cause (inl memory) = inl (inl (sym same ∙ memory))
      by_cause (inr spent) = inr (inr (inl (sym same ∙ spent.0)))
  unwritten w fault (inr (inr over)) =
      inl (inl (failed run key value over.0.last fault (last_of over.0.before over.0.last over.0.whole)
      (told_fault (id_in w.run over.0.last) over.0.last.ran over.0.last.ended fault over.0.told)))

  -- what a put comes to, or why it comes to nothing
  comes : (w : Worker) (result : Result Told Fault) → ComesTo 5 w made result → MatchResult result (λ e. IsPut key value (end_told e)) IsUnwritten
  comes w (Ok e) is = let ends = ends_as w e is in record { run = run; made = made; few = ends.0; each = each; end = ends.1 }
  comes w (Err fault) is = unwritten w fault is

-- what a client comes to by code that puts a value at a key
pub put_by : {F : Type 0} (g : Mut F (MutBor Doing × Unit {0}) (Result (Unit {0}) Halt × (MutBor Doing × Unit {0}))) (key value : Bytes) (f : F)
    → ((p : MutBor Doing) (r : Result (Unit {0}) Halt) (q : MutBor Doing) (f' : F) → Called g f (p, tt) (r, (q, tt)) f'
    → Puts key value p.now r q.now × (f' ≡ f))
    → (old new : Worker) (result : Result Told Fault)
    → ((made : List Attempt) × ((last : F) × HasTried g old f made new last) × ComesTo 5 new made result)
    → MatchResult result (λ e. IsPut key value (end_told e)) IsUnwritten
put_by g key value f says old new result tried =
    comes old.run key value tried.0
    (each_puts g key value f says old f tried.1.0 tried.0 refl tried.1.1.attempts tried.1.1.ran) new result tried.2
