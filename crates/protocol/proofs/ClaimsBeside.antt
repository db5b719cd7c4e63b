-- A claim that is put beside the others of a table keeps its laws: where its locks are granted, and where it waits.
use Rattle.std.proofs.Common.{◌≡◌, Bool, true, false, not, ◌||◌, List, [], ◌∷◌, Option, Some, None, refl, sym, ap, ◌∙◌, inl, inr, option_map}
use Rattle.std.specs.List.{AllByRecursion}
use Rattle.std.proofs.lemmas.Bool.{false≢true}
use Rattle.units.specs.Lists.{ascends}
use Rattle.units.specs.Ids.{Id, same_id, older}
use Rattle.units.specs.ById.{find_member}
use Rattle.units.specs.Locks.{Claim, clash, lock_before, with_locks}
use Rattle.units.specs.LockLaws.{IsLawfulTable}
use Rattle.units.specs.declared.lock.Lock.{Lock}
use Rattle.units.proofs.IdLaws.{same_id-is, same_id-refl, same_id_comm, older_total}
use Rattle.units.proofs.ByIdLaws.{all-with, by_id-with, found_all, found_is}
use Rattle.units.proofs.ListLaws.{all_gives}
use Rattle.locks.specs.Table.{with_claim}
use Rattle.locks.specs.Ways.{gives_way, stands_in_way}
use Rattle.locks.proofs.Clashes.{clash_nil, clash_comm, clash-with_locks}
use Rattle.locks.proofs.Pairs.{EachPair, LockPair, WaitPair, HoldsByKey, by_pairs, from_pairs}
use Rattle.locks.proofs.TableLaws.{all_of_any, free_of, not_older_waiter, older_or_firm, true_or_false}
use Rattle.protocol.specs.Rows.{Row, claim_of, claims, find_row, is_firm, held_by}
use Rattle.protocol.proofs.RowTable.{claims-find_row}

-- ---- a claim is put

-- a claim stands beside another: neither holds what the other does, and who waits for the other does so by the wait law
pub record IsBeside (e a : Claim) : Type 0 where
  pub apart : LockPair e a
  pub for_other : WaitPair e a
  pub for_it : WaitPair a e

pub all_both : (P Q R : Claim → Type 0) → ((a : Claim) → P a → Q a → R a) → (t : List Claim) → AllByRecursion P t → AllByRecursion Q t → AllByRecursion R t
all_both P Q R h [] ps qs = tt
all_both P Q R h (a ∷ t) ps qs = (h a ps.0 qs.0, all_both P Q R h t ps.1 qs.1)

-- a law of pairs with one claim more
each_pair_put : (P : Claim → Claim → Type 0) (e : Claim) (t : List Claim) → P e e → AllByRecursion (λ a. P a e) t → AllByRecursion (P e) t → EachPair P t
    → EachPair P (with_claim t e)
each_pair_put P e t own left right pairs =
    all-with (λ a. AllByRecursion (P a) (with_claim t e)) (λ (c : Claim). c.txn) t e
    (all-with (P e) (λ (c : Claim). c.txn) t e own right)
    (all_both (λ a. AllByRecursion (P a) t) (λ a. P a e) (λ a. AllByRecursion (P a) (with_claim t e))
    (λ a row l. all-with (P a) (λ (c : Claim). c.txn) t e l row) t pairs left)

lock_pair_turned : (e a : Claim) → LockPair e a → LockPair a e
lock_pair_turned e a p d = clash_comm a.held e.held ∙ p (same_id_comm a.txn e.txn ∙ d)

-- a table with a claim put that stands beside each
pub lawful_put : (t : List Claim) (e : Claim) → IsLawfulTable t → HoldsByKey e → AllByRecursion (IsBeside e) t → IsLawfulTable (with_claim t e)
lawful_put t e lawful keys beside =
    let laws = by_pairs t lawful in
    let right : AllByRecursion (LockPair e) t = all_gives (IsBeside e) (LockPair e) (λ a s. s.apart) t beside in
    let left : AllByRecursion (λ a. LockPair a e) t = all_gives (LockPair e) (λ a. LockPair a e) (λ a p. lock_pair_turned e a p) t right in
    from_pairs (with_claim t e) (record {
      order = by_id-with (λ (c : Claim). c.txn) t e laws.order;
      keys = all-with HoldsByKey (λ (c : Claim). c.txn) t e keys laws.keys;
      locks = each_pair_put LockPair e t (λ d. absurd (false≢true (sym d ∙ same_id-refl e.txn))) left right laws.locks;
      waits = each_pair_put WaitPair e t (λ d c. absurd (false≢true (sym d ∙ same_id-refl e.txn)))
          (all_gives (IsBeside e) (λ a. WaitPair a e) (λ a s. s.for_it) t beside)
          (all_gives (IsBeside e) (WaitPair e) (λ a s. s.for_other) t beside) laws.waits;
    })

-- ---- what a transaction held before

-- what it held stands beside another's claim
pub record OwnApart (t : Id) (held : List Lock) (firm : Bool) (a : Claim) : Type 0 where
  pub apart : same_id a.txn t ≡ false → clash held a.held ≡ false
  pub for_it : same_id t a.txn ≡ false → clash held a.needs ≡ true → (older t a.txn || firm) ≡ true

firmer : (o was now : Bool) → (now || not was) ≡ true → (o || was) ≡ true → (o || now) ≡ true
firmer true was now h k = refl
firmer false false now h k = absurd (false≢true k)
firmer false true true h k = refl
firmer false true false h k = h

-- a transaction becomes firm, or was not firm before
abbrev pub Firms : List Row → Id → Bool → Type 0
Firms rows t firm = (r : Row) → find_row rows t ≡ Some r → (firm || not (is_firm r.phase)) ≡ true

pub own_of : (rows : List Row) (t : Id) (firm : Bool) (o : Option Row) → IsLawfulTable (claims rows) → find_row rows t ≡ o → Firms rows t firm
    → AllByRecursion (OwnApart t (held_by o) firm) (claims rows)
own_of rows t firm None lawful found firms =
    all_of_any (OwnApart t [] firm) (λ a. record { apart = λ d. refl; for_it = λ d c. absurd (false≢true c) }) (claims rows)
own_of rows t firm (Some r) lawful found firms =
    let laws = by_pairs (claims rows) lawful in
    let there : find_member (λ (c : Claim). c.txn) (claims rows) t ≡ Some (claim_of r) = claims-find_row rows t ∙ ap (option_map claim_of) found in
    let own : r.txn ≡ t = same_id-is r.txn t (found_is (λ (q : Row). q.txn) rows t r found) in
    let locks : AllByRecursion (LockPair (claim_of r)) (claims rows) =
    found_all (λ a. AllByRecursion (LockPair a) (claims rows)) (λ (c : Claim). c.txn) (claims rows) t (claim_of r) laws.locks there in
    let waits : AllByRecursion (λ w. WaitPair w (claim_of r)) (claims rows) =
    all_gives (λ w. AllByRecursion (WaitPair w) (claims rows)) (λ w. WaitPair w (claim_of r))
    (λ w row. found_all (WaitPair w) (λ (c : Claim). c.txn) (claims rows) t (claim_of r) row there) (claims rows) laws.waits in
    all_both (LockPair (claim_of r)) (λ w. WaitPair w (claim_of r)) (OwnApart t r.held firm)
    (λ a p w. record {
      apart = λ d. p (ap (same_id a.txn) own ∙ d);
      for_it = λ d c. firmer (older t a.txn) (is_firm r.phase) firm (firms r found)
          (ap (λ u. older u a.txn || is_firm r.phase) (sym own) ∙ w (ap (λ u. same_id u a.txn) own ∙ d) c);
    }) (claims rows) locks waits

-- what a row holds ascends by key
pub keys_of : (rows : List Row) (t : Id) (o : Option Row) → IsLawfulTable (claims rows) → find_row rows t ≡ o → ascends lock_before (held_by o) ≡ true
keys_of rows t None lawful found = refl
keys_of rows t (Some r) lawful found =
    found_all HoldsByKey (λ (c : Claim). c.txn) (claims rows) t (claim_of r) ((by_pairs (claims rows) lawful).keys)
    (claims-find_row rows t ∙ ap (option_map claim_of) found)

-- ---- a grant and a wait

-- some locks more, where nobody is in the way
pub grant_beside : (t : Id) (held needs : List Lock) (e a : Claim) → e.txn ≡ t → e.held ≡ with_locks held needs → e.needs ≡ [] → OwnApart t held e.firm a
    → stands_in_way t needs a ≡ false → IsBeside e a
grant_beside t held needs e a own locks quiet before free = record {
  apart = λ d.
      ap (λ ls. clash ls a.held) locks
      ∙ clash-with_locks held needs a.held (clash_comm needs a.held ∙ free_of t needs a (away d) free) (before.apart (away d));
  for_other = λ d c. absurd (false≢true (sym (ap (clash a.held) quiet ∙ clash_nil a.held) ∙ c));
  for_it = λ d c. ap (λ u. older u a.txn || e.firm) own ∙ by_held (clash held a.needs) refl (ap (λ u. same_id u a.txn) (sym own) ∙ d)
      (ap (λ ls. clash ls a.needs) (sym locks) ∙ c);
}
  where
    away : same_id a.txn e.txn ≡ false → same_id a.txn t ≡ false
    away d = ap (same_id a.txn) (sym own) ∙ d

    by_held : (b : Bool) → clash held a.needs ≡ b → same_id t a.txn ≡ false → clash (with_locks held needs) a.needs ≡ true → (older t a.txn || e.firm) ≡ true
    by_held true k d c = before.for_it d k
    by_held false k d c =
        elim (true_or_false (clash a.needs needs)) [
          | inl waits ↦
              let other : same_id a.txn t ≡ false = same_id_comm a.txn t ∙ d in
              ap (λ o. o || e.firm) (older_total a.txn t other (not_older_waiter t needs a other free waits))
          | inr none ↦ absurd (false≢true (sym (clash-with_locks held needs a.needs (clash_comm needs a.needs ∙ none) k) ∙ c))
        ]

-- a wait for some locks, where nobody in the way may be ended
pub wait_beside : (t : Id) (held needs : List Lock) (e a : Claim) → e.txn ≡ t → e.held ≡ held → e.needs ≡ needs → OwnApart t held e.firm a
    → gives_way t needs a ≡ false → IsBeside e a
wait_beside t held needs e a own locks wants before stays = record {
  apart = λ d. ap (λ ls. clash ls a.held) locks ∙ before.apart (ap (same_id a.txn) (sym own) ∙ d);
  for_other = λ d c. older_or_firm t needs e a (ap (λ u. same_id u t) own ∙ same_id-refl t) stays d (ap (clash a.held) (sym wants) ∙ c);
  for_it = λ d c. ap (λ u. older u a.txn || e.firm) own ∙ before.for_it (ap (λ u. same_id u a.txn) (sym own) ∙ d) (ap (λ ls. clash ls a.needs) (sym locks) ∙ c);
}
