-- What a transaction does while its code runs, and what attempts come to.
use Rattle.std.proofs.Common.{◌≡◌, ◌⊎◌, inl, inr, ℕ, Bool, true, false, true≢false, cond, not, ◌&&◌, nat_le, List, [], ◌∷◌, ◌++◌, length, Result, Err}
use Rattle.std.proofs.Common.{refl, ap, sym, ◌∙◌, subst, length-append, arith, ◌+◌, ◌<◌, ◌≤◌}
use Rattle.std.specs.Prelude.{Option, IsSome}
use Rattle.std.specs.List.{FoldsTo, list_all}
use Rattle.std.specs.Fn.{Mut, CalledAtMut}
use Rattle.std.specs.Borrow.{MutBor}
use Rattle.units.specs.Ids.{Id, same_id}
use Rattle.units.specs.Keys.{Bytes, writes_key}
use Rattle.units.specs.declared.fault.Fault.{Fault}
use Rattle.units.specs.declared.fault.Fault.TheVariants.{BadRequest, Stranger}
use Rattle.units.specs.declared.fault.Reason.{Reason}
use Rattle.units.specs.declared.fault.Reason.TheVariants.{Many, Doomed}
use Rattle.units.specs.declared.writes.Write.{Write}
use Rattle.message.specs.Ends.{End}
use Rattle.message.specs.declared.message.Envelope.{Envelope}
use Rattle.tickets.specs.Draws.{Drawing}
use Rattle.session.specs.Sessions.{Client, Moved, Denies, Goes, begun, buffers, is_doomed, unless, with_write}
use Rattle.session.specs.Shown.{Session, is_made}
use Rattle.client.specs.Readings.{AreReads, HasRead, is_read}
use Rattle.client.specs.Traffic.{Traffic}
use Rattle.client.specs.declared.ended.Ended.{Ended as Finish}
use Rattle.client.specs.declared.ended.Halt.{Halt as Halted}
use Rattle.store.specs.declared.ended.Ended.{Ended}
use Rattle.store.specs.declared.ended.Halt.{Halt}
use Rattle.store.specs.declared.ended.Halt.TheVariants as halt
use Rattle.store.specs.Attempts.{AreAborted, Act, Reads, Writes, IsAct, AreActs, HasDone, Doing, IsAtWork, Attempt, Worker, AreAttempts, HasTried}
use Rattle.store.specs.Attempts.{IsAttempt, Runs}
use Rattle.store.specs.Attempts.{Ends, IsToldAs, beginning, drew, id_in, kept, ran_of, runs_again, traffic_of, worked, worked_all}

-- a step that is made leaves the session that it says
client_after : Moved → Client → Client
client_after (Goes c es) d = c
client_after (Denies f) d = d

made : (rs : List (Bool × Reason)) (c d : Client) (es fs : List Envelope) → unless rs (Goes c es) ≡ Goes d fs → d ≡ c
unfolding client_after
made [] c d es fs e = sym (ap (λ m. client_after m d) e)
made (r ∷ rs) c d es fs e = by_test (made rs c d es fs) r.0 e
  where
    by_test : (unless rs (Goes c es) ≡ Goes d fs → d ≡ c) → (b : Bool) → cond b (Denies (BadRequest r.1)) (unless rs (Goes c es)) ≡ Goes d fs → d ≡ c
    by_test more true e = absurd (true≢false (sym (ap is_made e)))
    by_test more false e = more e

pub all_both : {A : Type 0} (p : A → Bool) (xs ys : List A) → list_all p xs ≡ true → list_all p ys ≡ true → list_all p (xs ++ ys) ≡ true
all_both p [] ys a b = b
all_both p (x ∷ xs) ys a b = by_test (p x) a (λ rest. all_both p xs ys rest b)
  where
    by_test : (t : Bool) → (t && list_all p xs) ≡ true → (list_all p xs ≡ true → list_all p (xs ++ ys) ≡ true) → (t && list_all p (xs ++ ys)) ≡ true
    by_test true a more = more a
    by_test false a more = a

acts_on : (splits : List Bytes) (xs ys : List Act) (c m d : Client) → AreActs splits xs c m → AreActs splits ys m d → AreActs splits (xs ++ ys) c d
acts_on splits [] ys c m d same more = subst (λ (x : Client). AreActs splits ys x d) same more
acts_on splits (x ∷ xs) ys c m d are more = (are.0, are.1, acts_on splits xs ys are.0 m d are.2 more)

-- what was done, and one act more
done_on : (splits : List Bytes) (a : Act) (c m d : Client) → HasDone splits c m → IsAct splits a m d → HasDone splits c d
done_on splits a c m d done is = (done.0 ++ a ∷ [], acts_on splits done.0 (a ∷ []) c m d done.1 (d, is, refl))

at_work : (old new : Doing) (a : Act) → IsAtWork old → new.session.splits ≡ old.session.splits → new.session.client.txn ≡ old.session.client.txn
    → IsAct old.session.splits a old.session.client new.session.client
    → AreReads old.session.client.txn new.traffic.sent → IsAtWork new
at_work old new a is splits txn act reads = record {
  did = subst (λ (t : Id). HasDone new.session.splits (begun t) new.session.client) (sym txn)
      (subst (λ (s : List Bytes). HasDone s (begun old.session.client.txn) new.session.client) (sym splits)
      (done_on old.session.splits a (begun old.session.client.txn) old.session.client new.session.client is.did act));
  reads = subst (λ (t : Id). AreReads t new.traffic.sent) (sym txn) reads;
}

-- a transaction that has read
pub read_on : (old new : Doing) → IsAtWork old → new.session.splits ≡ old.session.splits → new.session.client.txn ≡ old.session.client.txn
    → HasRead old.session.splits old.session.client new.session.client
    → ((sent : List Envelope) × (new.traffic.sent ≡ old.traffic.sent ++ sent) × AreReads old.session.client.txn sent) → IsAtWork new
read_on old new is splits txn read sent =
    at_work old new Reads is splits txn read
    (subst (λ (l : List Envelope). AreReads old.session.client.txn l) (sym sent.1)
    (all_both (is_read old.session.client.txn) old.traffic.sent sent.0 is.reads sent.2))

-- a write that is made leaves the session with it
pub wrote : (w : Write) (c d : Client) → buffers w c ≡ Goes d [] → d ≡ record c { writes = with_write c.writes w }
unfolding buffers
wrote w c d e =
    made ((nat_le 128 (length c.writes) && not (writes_key c.writes w.key), Many) ∷ (is_doomed c, Doomed) ∷ [])
    (record c { writes = with_write c.writes w }) d [] [] e

-- a transaction that has written
pub wrote_on : (old new : Doing) (w : Write) → IsAtWork old → new.session.splits ≡ old.session.splits
    → buffers w old.session.client ≡ Goes new.session.client [] → new.traffic ≡ old.traffic → IsAtWork new
wrote_on old new w is splits step traffic =
    at_work old new (Writes w) is splits (ap (λ (x : Client). x.txn) (wrote w old.session.client new.session.client step)) step
    (subst (λ (t : Traffic). AreReads old.session.client.txn t.sent) (sym traffic) is.reads)

-- ---- attempts, one behind the other

pub worked_on : {T E : Type 0} (w : Worker) (xs : List (Attempt T E)) (a : Attempt T E) → worked_all w (xs ++ a ∷ []) ≡ worked (worked_all w xs) a
worked_on w [] a = refl
worked_on w (x ∷ xs) a = worked_on (worked w x) xs a

pub same_run : {T E : Type 0} (w : Worker) (xs : List (Attempt T E)) → (worked_all w xs).run ≡ w.run
same_run w [] = refl
same_run w (x ∷ xs) = same_run (worked w x) xs

pub same_splits : {T E : Type 0} (w : Worker) (xs : List (Attempt T E)) → (worked_all w xs).splits ≡ w.splits
same_splits w [] = refl
same_splits w (x ∷ xs) = same_splits (worked w x) xs

pub folds_on : {P A : Type 0} (R : P → A → P → Type 0) (p q r : P) (xs : List A) (x : A) → FoldsTo R p xs q → R q x r → FoldsTo R p (xs ++ x ∷ []) r
folds_on {P} R p q r [] x same is = (r, subst (λ (s : P). R s x r) (sym same) is, refl)
folds_on R p q r (y ∷ ys) x folds is = (folds.0, folds.1, folds_on R folds.0 q r ys x folds.2 is)

pub attempts_on : {T E : Type 0} (run : ℕ) (xs : List (Attempt T E)) (a : Attempt T E) → AreAttempts run xs → IsAttempt run a → AreAttempts run (xs ++ a ∷ [])
attempts_on run [] a are is = (is, tt)
attempts_on run (x ∷ xs) a are is = (are.0, attempts_on run xs a are.1 is)

module _ {F T E : Type 0} (g : Mut F (MutBor Doing × Unit {0}) (Result T (Halt E) × (MutBor Doing × Unit {0}))) where
  -- nothing was tried yet
  pub untried : (w : Worker) (f : F) → HasTried g w f [] w f
  untried w f = record { whole = refl; attempts = tt; ran = refl }

  runs_of : (w v : Worker) (f f' : F) (a : Attempt T E) → w.run ≡ v.run → w.splits ≡ v.splits → Runs g w f a f' → Runs g v f a f'
  runs_of w v f f' a run splits is =
      subst (λ (n : ℕ). Runs g (record v { run = n }) f a f') run
      (subst (λ (s : List Bytes). Runs g (record v { run = w.run; splits = s }) f a f') splits is)

  -- one attempt more
  pub tried_on : (old m new : Worker) (f f' f'' : F) (made : List (Attempt T E)) (a : Attempt T E) → HasTried g old f made m f'
      → new ≡ worked m a → IsAttempt m.run a → Runs g m f' a f'' → HasTried g old f (made ++ a ∷ []) new f''
  tried_on old m new f f' f'' made a tried one is ran =
      let run : m.run ≡ old.run = ap (λ (w : Worker). w.run) tried.whole ∙ same_run old made in
      let splits : m.splits ≡ old.splits = ap (λ (w : Worker). w.splits) tried.whole ∙ same_splits old made in
      record {
        whole = one ∙ (ap (λ (w : Worker). worked w a) tried.whole ∙ sym (worked_on old made a));
        attempts = attempts_on old.run made a tried.attempts (subst (λ (n : ℕ). IsAttempt n a) run is);
        ran = folds_on (Runs g old) f f' f'' made a tried.ran (runs_of m old f' f'' a run splits ran);
      }

  -- what one attempt came to
  pub record Attempted (m new : Worker) (f f' : F) (own : Id) (ran : Result T (Halt E)) (ended : Result Finish Fault) : Type 0 where
    pub attempt : Attempt T E
    pub whole : new ≡ worked m attempt
    pub is : IsAttempt m.run attempt
    pub runs : Runs g m f attempt f'
    pub id_is : own ≡ id_in m.run attempt
    pub ran_is : attempt.ran ≡ ran
    pub ended_is : attempt.ended ≡ ended

  pub attempted : (m mid new : Worker) (t left : Doing) (f f' : F) (r ran : Result T (Halt E)) (came : Result (Unit {0}) Halted)
      (own last : Id) (b : Bool) (ended : Result Finish Fault)
      → ((n : ℕ) × (t ≡ beginning m.splits (record { run = m.run; number = n })) × (mid ≡ drew m n))
      → CalledAtMut g f t r f' left
      → own ≡ t.session.client.txn → last ≡ left.session.client.txn → b ≡ same_id own last → ran ≡ kept b r → came ≡ ran_of ran
      → IsAtWork left
      → ((sent : List Envelope) × (heard : List End)
      × (new ≡ record mid { traffics = mid.traffics ++ (record { sent = left.traffic.sent ++ sent; heard = left.traffic.heard ++ heard }) ∷ [] })
      × Ends left.session came sent heard ended)
      → Attempted m new f f' own ran ended
  attempted m mid new t left f f' r ran came own last b ended begins called own_is last_is same ran_is came_is work ends =
      let a : Attempt T E = record { number = begins.0; left = left; ran = ran; sent = ends.0; heard = ends.1; ended = ended } in
      let its : own ≡ id_in m.run a = own_is ∙ ap (λ (d : Doing). d.session.client.txn) begins.1 in
      let test : b ≡ same_id (id_in m.run a) left.session.client.txn = same ∙ (λ i. same_id (its i) (last_is i)) in
      record {
        attempt = a;
        whole = ends.2 ∙ ap (λ (w : Worker). record w { traffics = w.traffics ++ traffic_of a ∷ [] }) begins.2;
        is = record {
          work = work;
          own = by_own a b test ran_is;
          ends = subst (λ (c : Result (Unit {0}) Halted). Ends left.session c ends.0 ends.1 ended) came_is ends.3;
        };
        runs = (r, subst (λ (d : Doing). CalledAtMut g f d r f' left) begins.1 called, ran_is ∙ ap (λ x. kept x r) test);
        id_is = its;
        ran_is = refl;
        ended_is = refl;
      }
    where
      by_own : (a : Attempt T E) (x : Bool) → x ≡ same_id (id_in m.run a) a.left.session.client.txn → a.ran ≡ kept x r
          → (same_id (id_in m.run a) a.left.session.client.txn ≡ true) ⊎ (a.ran ≡ Err (halt.Refused Stranger))
      by_own a true test ran = inl (sym test)
      by_own a false test ran = inr ran

-- what is told of what an attempt came to is told of the attempt
pub told_on : {T E : Type 0} (own id : Id) (ran of : Result T (Halt E)) (ended as_of : Result Finish Fault) (told : Result (Ended T E) Fault)
    → own ≡ id → of ≡ ran → as_of ≡ ended → IsToldAs own ran ended told → IsToldAs id of as_of told
told_on {T} {E} own id ran of ended as_of told same ran_is ended_is is =
    subst (λ (t : Id). IsToldAs t of as_of told) same
    (subst (λ (r : Result T (Halt E)). IsToldAs own r as_of told) (sym ran_is)
    (subst (λ (e : Result Finish Fault). IsToldAs own ran e told) (sym ended_is) is))

pub one_longer : {T E : Type 0} (made : List (Attempt T E)) (a : Attempt T E) (k : ℕ) → length made ≡ k → length (made ++ a ∷ []) ≡ k + 1
one_longer made a k is = length-append made (a ∷ []) ∙ ap (λ (n : ℕ). n + 1) is

pub one_more : {T E : Type 0} (made : List (Attempt T E)) (a : Attempt T E) (k n : ℕ) → length made ≡ k → k < n → length (made ++ a ∷ []) ≤ n
one_more made a k n is below = let longer = one_longer made a k is in omega (arith, longer, below)

pub one_at_least : {T E : Type 0} (made : List (Attempt T E)) (a : Attempt T E) (k : ℕ) → length made ≡ k → 0 < length (made ++ a ∷ [])
one_at_least made a k is = let longer = one_longer made a k is in omega (arith, longer)

-- with no deadline they are not cut short
pub never_cut : {A B : Type 0} → A ⊎ ((false ≡ true) × B) → A
never_cut (inl came) = came
never_cut (inr cut) = absurd (true≢false (sym cut.0))

-- with a deadline they may be
pub may_be_cut : {X A B : Type 0} (d : Option X) → A ⊎ (IsSome d × B) → A ⊎ B
may_be_cut d (inl came) = inl came
may_be_cut d (inr cut) = inr cut.1

pub aborted_on : {T E : Type 0} (made : List (Attempt T E)) (a : Attempt T E) → AreAborted made → runs_again a.ran a.ended ≡ true → AreAborted (made ++ a ∷ [])
aborted_on {T} {E} made a were is = all_both (λ (b : Attempt T E). runs_again b.ran b.ended) made (a ∷ []) were (and_true (runs_again a.ran a.ended) is)
  where
    and_true : (b : Bool) → b ≡ true → (b && true) ≡ true
    and_true true e = refl
    and_true false e = e

-- ---- a new transaction

pub begins : (v w : Worker) (new : Drawing) (tx : Session) (first wire : Traffic) → v ≡ w
    → first.sent ≡ [] → first.heard ≡ [] → wire ≡ first
    → tx.splits ≡ v.splits → tx.client ≡ begun (record { run = v.run; number = tx.client.txn.number })
    → new.source ≡ v.drawing.source → new.drawn ≡ v.drawing.drawn ++ tx.client.txn.number ∷ []
    → (n : ℕ) × (record { session = tx; traffic = wire } ≡ beginning w.splits (record { run = w.run; number = n })) × (record v { drawing = new } ≡ drew w n)
begins v w new tx first wire is sent heard same splits client source drawn =
    let n = tx.client.txn.number in
    let its_splits : tx.splits ≡ w.splits = splits ∙ ap (λ (x : Worker). x.splits) is in
    let its_client : tx.client ≡ begun (record { run = w.run; number = n }) = client ∙ ap (λ (x : Worker). begun (record { run = x.run; number = n })) is in
    let put_out : wire.sent ≡ [] = ap (λ (t : Traffic). t.sent) same ∙ sent in
    let was_heard : wire.heard ≡ [] = ap (λ (t : Traffic). t.heard) same ∙ heard in
    let draws : record v { drawing = new } ≡ drew v n = λ i. record v { drawing = record { source = source i; drawn = drawn i } } in (
      n,
      λ i. record { session = record { splits = its_splits i; client = its_client i }; traffic = record { sent = put_out i; heard = was_heard i } },
      draws ∙ ap (λ (x : Worker). drew x n) is,
    )
