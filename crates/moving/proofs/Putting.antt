-- Attempts whose code puts pairs, and what they come to.
use Rattle.std.proofs.Common.{◌≡◌, inl, inr, ◌∙◌, refl, sym, subst, ap, true≢false, ℕ, ◌+◌, ◌<◌, Bool, true, false, List, [], ◌∷◌, ◌++◌, length, take, get_or, append_assoc, Result, Ok, Err, Some}
use Rattle.std.specs.Prelude.{MatchResult, OnOk}
use Rattle.std.specs.List.{All, FoldsTo}
use Rattle.std.specs.Fn.{Mut, Called}
use Rattle.std.specs.Borrow.{MutBor}
use Rattle.std.proofs.lemmas.Grind.{flat_map-append}
use Rattle.std.proofs.lemmas.List.{append-nil, length-append}
use Rattle.std.proofs.lemmas.List.Elements.{All-append, All-cons, All-nil, All-pop}
use Rattle.units.specs.Ids.{same_id}
use Rattle.units.specs.Keys.{Bytes}
use Rattle.units.specs.declared.fault.Fault.{Fault}
use Rattle.session.specs.Sessions.{Client, Goes, begun, buffers}
use Rattle.client.specs.declared.ended.Ended.{Ended as Finish}
use Rattle.client.specs.declared.ended.Ended.TheVariants as finish
use Rattle.store.specs.Attempts.{Attempt, AreAttempts, ComesTo, Doing, HasTried, IsAttempt, IsOver, IsToldAs, Runs, Worker, id_in, kept, worked_all}
use Rattle.store.specs.declared.ended.Ended.{Ended}
use Rattle.store.specs.declared.ended.Halt.{Halt}
use Rattle.store.specs.declared.ended.Halt.TheVariants as halt
use Rattle.pairs.specs.declared.pair.Pair.{Pair}
use Rattle.moving.specs.Imports.{HasPut, IsPut, is_committed, pairs_in}
use Rattle.moving.proofs.Lists.{next}

-- one more pair is put
put_next : (before middle after : Client) (pairs : List Pair) (pair : Pair) → HasPut pairs before middle
    → buffers (record { key = pair.key; value = Some pair.value }) middle ≡ Goes after [] → HasPut (pairs ++ pair ∷ []) before after
put_next before middle after [] pair has goes =
    (after, subst (λ (c : Client). buffers (record { key = pair.key; value = Some pair.value }) c ≡ Goes after []) has goes, refl)
put_next before middle after (first ∷ pairs) pair has goes = (has.0, has.1, put_next has.0 middle after pairs pair has.2 goes)

-- the same of a list that is read
pub put_on : (all : List Pair) (i : ℕ) (pair : Pair) (value : Bytes) (before middle after : Client) → i < length all → pair ≡ get_or all i pair
    → value ≡ pair.value → HasPut (take i all) before middle
    → buffers (record { key = pair.key; value = Some value }) middle ≡ Goes after [] → HasPut (take (i + 1) all) before after
put_on all i pair value before middle after here is same has goes =
    subst (λ (ps : List Pair). HasPut ps before after) (sym (next all i pair here is))
    (put_next before middle after (take i all) pair has
    (subst (λ (v : Bytes). buffers (record { key = pair.key; value = Some v }) middle ≡ Goes after []) same goes))

abbrev Tried : Type 0
Tried = Attempt (Unit {0}) (Unit {0})

abbrev Ran : Type 0
Ran = Result (Unit {0}) (Halt (Unit {0}))

abbrev Told : Type 0
Told = Ended (Unit {0}) (Unit {0})

-- an attempt whose code puts pairs
record Puts (run : ℕ) (pairs : List Pair) (a : Tried) : Type 0 where
  is : IsAttempt run a
  put : MatchResult a.ran (λ _. HasPut pairs (begun (id_in run a)) a.left.session.client) (λ _. Unit {0})

-- what an answer says only if it is one
from_on : (r : Ran) (A : Type 0) → OnOk r A → MatchResult r (λ _. A) (λ _. Unit {0})
from_on (Ok done) A is = is
from_on (Err why) A is = tt

-- what the code did in it
puts_in : (pairs : List Pair) (before after : Client) (own : Bool) (ran r : Ran) → MatchResult r (λ _. HasPut pairs before after) (λ _. Unit {0})
    → ran ≡ kept own r → MatchResult ran (λ _. HasPut pairs before after) (λ _. Unit {0})
puts_in pairs before after true ran r put is =
    subst (λ (x : Ran). MatchResult x (λ _. HasPut pairs before after) (λ _. Unit {0})) (sym is) put
puts_in pairs before after false ran r put is =
    subst (λ (x : Ran). MatchResult x (λ _. HasPut pairs before after) (λ _. Unit {0})) (sym is) tt

module _ {F : Type 0} (g : Mut F (MutBor Doing × Unit {0}) (Ran × (MutBor Doing × Unit {0}))) where
  each_puts : (pairs : List Pair) (f : F)
      → ((p : MutBor Doing) (r : Ran) (q : MutBor Doing) (f' : F) → Called g f (p, tt) (r, (q, tt)) f'
      → OnOk r (HasPut pairs p.now.session.client q.now.session.client) × (f' ≡ f))
      → (w : Worker) (h f' : F) (made : List Tried) → h ≡ f → AreAttempts w.run made → FoldsTo (Runs g w) h made f'
      → All (Puts w.run pairs) made
  each_puts pairs f says w h f' [] same are folds = All-nil (Puts w.run pairs)
  each_puts pairs f says w h f' (a ∷ rest) same are folds =
      let call = folds.1.1 in
      let said =
      says call.shown folds.1.0 call.left folds.0
      (subst (λ (x : F). Called g x (call.shown, tt) (folds.1.0, (call.left, tt)) folds.0) same call.called) in
      let put =
      subst (λ (d : Doing). MatchResult folds.1.0 (λ _. HasPut pairs d.session.client a.left.session.client) (λ _. Unit {0})) call.shows
      (subst (λ (d : Doing). MatchResult folds.1.0 (λ _. HasPut pairs call.shown.now.session.client d.session.client) (λ _. Unit {0})) call.leaves (from_on folds.1.0 _ said.0)) in
      All-cons (Puts w.run pairs) a rest
      (record {
        is = are.0;
        put =
            puts_in pairs (begun (id_in w.run a)) a.left.session.client (same_id (id_in w.run a) a.left.session.client.txn) a.ran folds.1.0 put folds.1.2;
      })
      (each_puts pairs f says w folds.0 f' rest said.1 are.1 folds.2)

-- ---- what they come to

abbrev stands : Result Told Fault → Bool
stands (Ok told) = is_committed told
stands (Err fault) = false

-- what was told of the last attempt, if it is committed
told_committed : (run : ℕ) (pairs : List Pair) (a : Tried) (told : Result Told Fault) → stands told ≡ true → Puts run pairs a
    → IsToldAs (id_in run a) a.ran a.ended told → IsPut run pairs
told_committed run pairs a told is puts said = by_end a.ran a.ended puts.put refl refl said
  where
    by_end : (ran : Ran) (end : Result Finish Fault)
        → MatchResult ran (λ _. HasPut pairs (begun (id_in run a)) a.left.session.client) (λ _. Unit {0}) → a.ran ≡ ran → a.ended ≡ end
        → IsToldAs (id_in run a) ran end told → IsPut run pairs
    by_end (Ok done) (Ok (finish.Committed at)) put ran_is end_is said =
        record { attempt = a; is = puts.is; put = put; ran = ran_is; at = at; told = end_is }
    by_end (Ok done) (Ok (finish.Unknown txn)) put ran_is end_is said = absurd (true≢false (sym is ∙ ap stands said))
    by_end (Ok done) (Ok finish.Aborted) put ran_is end_is said = absurd said
    by_end (Err (halt.Abandon why)) (Ok end) put ran_is end_is said = absurd (true≢false (sym is ∙ ap stands said))
    by_end (Err halt.Again) (Ok end) put ran_is end_is said = absurd said
    by_end (Err (halt.Refused fault)) (Ok end) put ran_is end_is said = absurd said
    by_end (Err (halt.Unserved shard fault)) (Ok end) put ran_is end_is said = absurd said
    by_end (Ok done) (Err fault) put ran_is end_is said = absurd (true≢false (sym is ∙ ap stands said))
    by_end (Err why) (Err fault) put ran_is end_is said = absurd (true≢false (sym is ∙ ap stands said))

committed_by : (run tries : ℕ) (pairs : List Pair) (w : Worker) (made : List Tried) (told : Result Told Fault) → w.run ≡ run → stands told ≡ true
    → All (Puts run pairs) made → ComesTo tries w made told → IsPut run pairs
committed_by run tries pairs w made told same is each (inl are) = absurd (true≢false (sym is ∙ ap stands are.2))
committed_by run tries pairs w made told same is each (inr (inl cannot)) = absurd (true≢false (sym is ∙ ap stands cannot.2.1))
committed_by run tries pairs w made told same is each (inr (inr over)) =
    let its = subst (λ (n : ℕ). IsOver n made told) same over.0 in
    told_committed run pairs its.last told is (All-pop (Puts run pairs) made its.before (Some its.last) its.whole each).1 its.told

-- a client's run stays
run_stays : (w : Worker) (made : List Tried) → (worked_all w made).run ≡ w.run
run_stays w [] = refl
run_stays w (a ∷ rest) = run_stays _ rest

pub run_kept : {F : Type 0} (g : Mut F (MutBor Doing × Unit {0}) (Ran × (MutBor Doing × Unit {0}))) (f last : F) (old new : Worker) (made : List Tried)
    → HasTried g old f made new last → new.run ≡ old.run
run_kept g f last old new made tried = ap (λ (w : Worker). w.run) tried.whole ∙ run_stays old made

-- what a client comes to by code that puts pairs: if it is told as committed, a transaction of its run has put them
pub put_by : {F : Type 0} (g : Mut F (MutBor Doing × Unit {0}) (Ran × (MutBor Doing × Unit {0}))) (tries : ℕ) (pairs : List Pair) (f : F)
    → ((p : MutBor Doing) (r : Ran) (q : MutBor Doing) (f' : F) → Called g f (p, tt) (r, (q, tt)) f'
    → OnOk r (HasPut pairs p.now.session.client q.now.session.client) × (f' ≡ f))
    → (old new : Worker) (told : Told) → is_committed told ≡ true
    → ((made : List Tried) × ((last : F) × HasTried g old f made new last) × ComesTo tries new made (Ok told)) → IsPut old.run pairs
put_by g tries pairs f says old new told is tried =
    committed_by old.run tries pairs new tried.0 (Ok told) (run_kept g f tried.1.0 old new tried.0 tried.1.1) is
    (each_puts g pairs f says old f tried.1.0 tried.0 refl tried.1.1.attempts tried.1.1.ran) tried.2

-- what follows from what an answer says
pub on_ok : {X Y A B : Type 0} (r : Result X Y) → OnOk r A → (A → B) → OnOk r B
on_ok (Ok done) is so = so is
on_ok (Err why) is so = tt

-- ---- batches, one after the other

pub pairs_more : (batches : List (List Pair)) (batch : List Pair) → pairs_in (batches ++ batch ∷ []) ≡ pairs_in batches ++ batch
pairs_more batches batch =
    flat_map-append (λ (ps : List Pair). ps) batches (batch ∷ []) ∙ ap (λ (rest : List Pair). pairs_in batches ++ rest) (append-nil batch)

pub counted_on : (batches : List (List Pair)) (batch : List Pair) → length (pairs_in (batches ++ batch ∷ [])) ≡ length (pairs_in batches) + length batch
counted_on batches batch = ap (λ (ps : List Pair). length ps) (pairs_more batches batch) ∙ length-append (pairs_in batches) batch

pub given_on : (start before after : List Pair) (batches : List (List Pair)) (batch : List Pair) → before ≡ start ++ pairs_in batches → after ≡ before ++ batch
    → after ≡ start ++ pairs_in (batches ++ batch ∷ [])
given_on start before after batches batch so more =
    more ∙ ap (λ (ps : List Pair). ps ++ batch) so ∙ append_assoc start (pairs_in batches) batch
    ∙ ap (λ (ps : List Pair). start ++ ps) (sym (pairs_more batches batch))

pub put_more : (run its : ℕ) (batches : List (List Pair)) (batch put : List Pair) → its ≡ run → put ≡ batch → All (IsPut run) batches → IsPut its put
    → All (IsPut run) (batches ++ batch ∷ [])
put_more run its batches batch put same is all one =
    All-append (IsPut run) batches (batch ∷ []) all
    (All-cons (IsPut run) batch [] (subst (λ (n : ℕ). IsPut n batch) same (subst (IsPut its) is one)) (All-nil (IsPut run)))
