-- Versions that a horizon lets go are not missed from it up.
use Rattle.std.proofs.Common.{◌≡◌, ℕ, ◌≤◌, Bool, true, false, ◌&&◌, nat_le, List, [], ◌∷◌, cond, max, filter, refl, sym, ap, ◌∙◌, arith}
use Rattle.std.proofs.lemmas.Bool.{and_parts}
use Rattle.std.proofs.lemmas.Bool.Decides.{nat_tests}
use Rattle.units.specs.Keys.{Bytes, same_key}
use Rattle.units.specs.Versions.{newest}
use Rattle.units.specs.declared.writes.Install.{Install}
use Rattle.units.proofs.KeyLaws.{same_key-is}
use Rattle.units.proofs.ListLaws.{keep-keep, keep-alike, all-keep}
use Rattle.versions.specs.Ordered.{is_by, version_before, AscendsByVersion, IsInOrder}
use Rattle.versions.specs.Places.{SameFrom, SameVersions, AllFromTheBeginning, AllFromAnyTime}
use Rattle.versions.specs.Due.{StayingIsNotMissed}
use Rattle.versions.specs.Pruned.{kept_from, pruned, PrunedIsNotMissed, PrunedAgainIsNotMissed}
use Rattle.versions.proofs.Found.{from_on, newest-from, newest-wider, found-from}
use Rattle.versions.proofs.Same.{same-from, same-higher, same-then}

-- by a test that versions of the key alone pass
pub pruned-part : (h : ℕ) (a : List Install) (k : Bytes) (test : Install → Bool) → ((x : Install) → test x ≡ true → same_key x.key k ≡ true)
    → newest (filter test (pruned h a)) ≡ from_on (kept_from h a k) (newest (filter test a))
unfolding pruned
pruned-part h a k test only =
    ap newest (keep-keep test (λ i. nat_le (kept_from h a i.key) i.at) a ∙ keep-alike _ _ alike a ∙ sym (keep-keep (λ i. nat_le (kept_from h a k) i.at) test a))
    ∙ newest-from (kept_from h a k) (filter test a)
  where
    alike : (x : Install) → (nat_le (kept_from h a x.key) x.at && test x) ≡ (test x && nat_le (kept_from h a k) x.at)
    alike x = by_test (test x) refl
      where
        swap : (b : Bool) → (b && true) ≡ b
        swap true = refl
        swap false = refl

        none : (b : Bool) → (b && false) ≡ false
        none true = refl
        none false = refl

        by_test : (c : Bool) → test x ≡ c → (nat_le (kept_from h a x.key) x.at && c) ≡ (c && nat_le (kept_from h a k) x.at)
        by_test true e = swap _ ∙ ap (λ (z : Bytes). nat_le (kept_from h a z) x.at) (same_key-is x.key k (only x e))
        by_test false e = none _

-- and by one that all up to the horizon pass too
pruned-by : (h : ℕ) (a : List Install) (k : Bytes) (test : Install → Bool) → ((x : Install) → test x ≡ true → same_key x.key k ≡ true)
    → ((x : Install) → is_by k h x ≡ true → test x ≡ true) → newest (filter test (pruned h a)) ≡ newest (filter test a)
pruned-by h a k test only wide =
    pruned-part h a k test only ∙ found-from (kept_from h a k) (newest (filter test a)) (newest-wider (is_by k h) test wide a)

-- so the newest version of a key is the same, and that at each time from the horizon up
pub same-pruned : (h : ℕ) (a : List Install) → SameVersions h (pruned h a) a
same-pruned h a = record {
  now = λ k. pruned-by h a k (λ x. same_key x.key k) (λ x e. e) (λ x e. (and_parts _ _ e).0);
  at = λ k t le. pruned-by h a k (is_by k t) (λ x e. (and_parts _ _ e).0) (λ x e. grind (arith, nat_tests));
}

pub pruned_is_not_missed : PrunedIsNotMissed
pruned_is_not_missed h a = same-from h (pruned h a) a (same-pruned h a)

-- what is the same from a time up is so from a later one up
same_later : (before h : ℕ) (a b : List Install) → before ≤ h → SameFrom before a b → SameFrom h a b
same_later before h a b le same = record {
  now = same.now;
  at = λ k t from. same.at k t (omega (arith, le, from));
  above = same.above;
}

pub same_trans : (h : ℕ) (a b c : List Install) → SameFrom h a b → SameFrom h b c → SameFrom h a c
same_trans h a b c one other = record {
  now = λ k. one.now k ∙ other.now k;
  at = λ k t le. one.at k t le ∙ other.at k t le;
  above = λ k t. one.above k t ∙ other.above k t;
}

pub pruned_again_is_not_missed : PrunedAgainIsNotMissed
pruned_again_is_not_missed before h kept log le same =
    same_trans h (pruned h kept) kept log (pruned_is_not_missed h kept) (same_later before h kept log le same)

pub staying_is_not_missed : StayingIsNotMissed
staying_is_not_missed before h kept log le same = same_later before h kept log le same

-- whichever of two horizons is the later one
pub pruned_after : (before h : ℕ) (kept log : List Install) → SameVersions before kept log → SameVersions (max before h) (pruned h kept) log
pruned_after before h kept log same =
    same-then (max before h) (pruned h kept) kept log (same-higher h (max before h) (pruned h kept) kept (omega arith) (same-pruned h kept))
    (same-higher before (max before h) kept log (omega arith) same)

pub all_from_the_beginning : AllFromTheBeginning
all_from_the_beginning a b same = record {
  now = same.now;
  at = λ k t. same.at k t (omega arith);
  above = same.above;
}

pub all_from_any_time : AllFromAnyTime
all_from_any_time h a b same = record {
  now = same.now;
  at = λ k t le. same.at k t;
  above = same.above;
}

-- what is kept stays in order
pub ascending-keep : (keeps : Install → Bool) (t : List Install) → AscendsByVersion t → AscendsByVersion (filter keeps t)
ascending-keep keeps [] up = tt
ascending-keep keeps (x ∷ t) up = elim (keeps x) as (λ b. AscendsByVersion (cond b (x ∷ filter keeps t) (filter keeps t))) [
  | true ↦ (all-keep (λ next. version_before x next ≡ true) keeps t up.0, ascending-keep keeps t up.1)
  | false ↦ ascending-keep keeps t up.1
]

pub kept-pruned : (greatest h : ℕ) (t : List Install) → IsInOrder greatest t → IsInOrder greatest (pruned h t)
unfolding pruned
kept-pruned greatest h t kept = record {
  order = ascending-keep (λ i. nat_le (kept_from h t i.key) i.at) t kept.order;
  in_time = all-keep (λ i. nat_le i.at greatest ≡ true) (λ i. nat_le (kept_from h t i.key) i.at) t kept.in_time;
}
