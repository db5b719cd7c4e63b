-- A timestamp above the versions of what is written: it is so where all versions are lower, and stays so where versions of
-- other keys come. What two rows hold alone are different keys.
use Rattle.std.proofs.Common.{◌≡◌, ℕ, ◌<◌, ◌≤◌, Bool, true, false, not, ◌&&◌, ◌||◌, nat_lt, nat_le, List, [], ◌∷◌, ◌++◌, Some, refl, sym, ap, ◌∙◌, arith}
use Rattle.std.specs.Prelude.{IsTrue, option_map}
use Rattle.std.specs.List.{AllByRecursion, list_any, list_all}
use Rattle.std.proofs.lemmas.Bool.{false≢true, and_parts, or_left, or_right, or_parts}
use Rattle.std.proofs.lemmas.Bool.Decides.{nat_tests}
use Rattle.units.specs.Ids.{Id, same_id}
use Rattle.units.specs.ById.{find_member}
use Rattle.units.specs.Keys.{Bytes, same_key}
use Rattle.units.specs.Locks.{Claim, clash, locks_clash, modes_clash}
use Rattle.units.specs.LockLaws.{IsLawfulTable}
use Rattle.units.specs.Versions.{above_versions, of_key, versions}
use Rattle.units.specs.declared.lock.Lock.{Lock}
use Rattle.units.specs.declared.lock.Mode.{Mode}
use Rattle.units.specs.declared.lock.Mode.TheVariants.{Shared, Exclusive}
use Rattle.units.specs.declared.writes.Install.{Install}
use Rattle.units.specs.declared.writes.Write.{Write}
use Rattle.units.proofs.ByIdLaws.{found_all, found_is}
use Rattle.units.proofs.IdLaws.{same_id-is}
use Rattle.units.proofs.KeyLaws.{same_key-is, same_key-refl}
use Rattle.units.proofs.ListLaws.{all_of_each, each_of_all, all_gives, each-keep}
use Rattle.locks.proofs.Pairs.{LockPair, by_pairs}
use Rattle.protocol.specs.Rows.{Row, claim_of, claims, find_row}
use Rattle.protocol.specs.Sound.{holds_alone, holds_writes, is_exclusive}
use Rattle.protocol.proofs.RowTable.{claims-find_row}

-- a test that gives another
pub each_gives : {A : Type 0} (p q : A → Bool) → ((x : A) → p x ≡ true → q x ≡ true) → (xs : List A) → list_all p xs ≡ true → list_all q xs ≡ true
each_gives p q h xs e = each_of_all q xs (all_gives (λ x. p x ≡ true) (λ x. q x ≡ true) h xs (all_of_each p xs e))

-- ---- timestamps and versions

-- a version of a key is below a timestamp
abbrev lower : ℕ → Bytes → Install → Bool
lower at k i = not (same_key i.key k) || nat_lt i.at at

above_key : (installs : List Install) (at : ℕ) (k : Bytes) → list_all (λ i. nat_lt i.at at) (of_key installs k) ≡ list_all (lower at k) installs
above_key installs at k = each-keep (λ (i : Install). nat_lt i.at at) (λ (i : Install). same_key i.key k) installs

lower_later : (at s : ℕ) (i : Install) → at ≤ s → nat_lt i.at at ≡ true → nat_lt i.at s ≡ true
lower_later at s i h e = grind (arith, nat_tests)

-- a later timestamp is above too
pub above_later : (installs : List Install) (at s : ℕ) (ws : List Write) → at ≤ s → IsTrue (above_versions installs at ws) →
    IsTrue (above_versions installs s ws)
above_later installs at s ws h e =
    each_gives (λ (w : Write). list_all (λ i. nat_lt i.at at) (of_key installs w.key)) (λ (w : Write). list_all (λ i. nat_lt i.at s) (of_key installs w.key))
    (λ w. each_gives (λ (i : Install). nat_lt i.at at) (λ (i : Install). nat_lt i.at s) (λ i. lower_later at s i h) (of_key installs w.key)) ws e

below_last : (last at n : ℕ) → last < at → nat_le n last ≡ true → nat_lt n at ≡ true
below_last last at n h e = grind (arith, nat_tests)

each_of_any : {A : Type 0} (p : A → Bool) → ((x : A) → p x ≡ true) → (xs : List A) → list_all p xs ≡ true
each_of_any p h [] = refl
each_of_any p h (x ∷ xs) = ap (λ b. b && list_all p xs) (h x) ∙ each_of_any p h xs

-- a timestamp above all versions is above those of each key
pub above_all : (installs : List Install) (last at : ℕ) (ws : List Write) → last < at → IsTrue (list_all (λ i. nat_le i.at last) installs)
    → IsTrue (above_versions installs at ws)
above_all installs last at ws h e =
    each_of_any (λ (w : Write). list_all (λ i. nat_lt i.at at) (of_key installs w.key))
    (λ w. above_key installs at w.key
    ∙ each_gives (λ (i : Install). nat_le i.at last) (lower at w.key) (λ i k. or_right (not (same_key i.key w.key)) (nat_lt i.at at)
    (below_last last at i.at h k)) installs e) ws

-- no write is of the key
abbrev none_of_key : List Write → Bytes → Bool
none_of_key ws k = list_all (λ w. not (same_key w.key k)) ws

pub each_append : {A : Type 0} (p : A → Bool) (xs ys : List A) → list_all p xs ≡ true → list_all p ys ≡ true → list_all p (xs ++ ys) ≡ true
each_append p [] ys e f = f
each_append p (x ∷ xs) ys e f = grind (arith, nat_tests, each_append p xs ys)

others_lower : (ws : List Write) (s at : ℕ) (k : Bytes) → none_of_key ws k ≡ true → list_all (lower at k) (versions ws s) ≡ true
others_lower [] s at k e = refl
others_lower (w ∷ ws) s at k e =
    let p = and_parts (not (same_key w.key k)) (none_of_key ws k) e in
    ap (λ b. b && list_all (lower at k) (versions ws s)) (or_left (not (same_key w.key k)) (nat_lt s at) p.0) ∙ others_lower ws s at k p.1

-- versions of other keys leave it above
pub above_more : (installs : List Install) (at s : ℕ) (ws others : List Write) → list_all (λ w. none_of_key others w.key) ws ≡ true
    → IsTrue (above_versions installs at ws) → IsTrue (above_versions (installs ++ versions others s) at ws)
above_more installs at s [] others differ e = refl
above_more installs at s (w ∷ ws) others differ e =
    let d = and_parts (none_of_key others w.key) (list_all (λ w. none_of_key others w.key) ws) differ in
    let p = and_parts (list_all (λ i. nat_lt i.at at) (of_key installs w.key)) (above_versions installs at ws) e in
    let now : list_all (λ i. nat_lt i.at at) (of_key (installs ++ versions others s) w.key) ≡ true =
    above_key (installs ++ versions others s) at w.key
    ∙ each_append (lower at w.key) installs (versions others s) (sym (above_key installs at w.key) ∙ p.0) (others_lower others s at w.key d.0) in
    ap (λ b. b && above_versions (installs ++ versions others s) at ws) now ∙ above_more installs at s ws others d.1 p.1

-- ---- keys that are held alone

-- a lock of a key held alone is in conflict with each of that key
alone_clashes : (l : Lock) (held : List Lock) (k : Bytes) → same_key l.key k ≡ true → is_exclusive l.mode ≡ true → holds_alone held k ≡ true
    → list_any (locks_clash l) held ≡ true
alone_clashes l [] k e x h = absurd (false≢true h)
alone_clashes l (m ∷ ms) k e x h = by_test (same_key m.key k) refl h (λ g. alone_clashes l ms k e x g)
  where
    conflict : (o : Mode) → is_exclusive o ≡ true → modes_clash o m.mode ≡ true
    conflict Exclusive g = refl
    conflict Shared g = absurd (false≢true g)

    one_key : same_key m.key k ≡ true → same_key l.key m.key ≡ true
    one_key f = ap (λ z. same_key z m.key) (same_key-is l.key k e) ∙ ap (same_key k) (same_key-is m.key k f) ∙ same_key-refl k

    by_test : (b : Bool) → same_key m.key k ≡ b → ((b && is_exclusive m.mode) || holds_alone ms k) ≡ true
        → (holds_alone ms k ≡ true → list_any (locks_clash l) ms ≡ true) → list_any (locks_clash l) (m ∷ ms) ≡ true
    by_test true f g rest = ap (λ b. (b && modes_clash l.mode m.mode) || list_any (locks_clash l) ms) (one_key f) ∙ or_left _ _ (conflict l.mode x)
    by_test false f g rest = or_right (locks_clash l m) _ (rest g)

-- what two hold alone without conflict are different keys
alone_differs : (held others : List Lock) (k : Bytes) → clash held others ≡ false → holds_alone held k ≡ true → holds_alone others k ≡ true → false ≡ true
alone_differs [] others k free h o = h
alone_differs (l ∷ ls) others k free h o =
    by_test (same_key l.key k && is_exclusive l.mode) refl h (λ f g. alone_differs ls others k f g o)
  where
    by_test : (b : Bool) → (same_key l.key k && is_exclusive l.mode) ≡ b → (b || holds_alone ls k) ≡ true
        → (clash ls others ≡ false → holds_alone ls k ≡ true → false ≡ true) → false ≡ true
    by_test true f g rest =
        let p = and_parts (same_key l.key k) (is_exclusive l.mode) f in
        sym ((or_parts (list_any (locks_clash l) others) (clash ls others) free).0) ∙ alone_clashes l others k p.0 p.1 o
    by_test false f g rest = rest ((or_parts (list_any (locks_clash l) others) (clash ls others) free).1) g

one_apart : (held others : List Lock) (ws : List Write) (k : Bytes) → clash held others ≡ false → holds_alone held k ≡ true → holds_writes others ws ≡ true
    → none_of_key ws k ≡ true
one_apart held others [] k free h o = refl
one_apart held others (w ∷ ws) k free h o =
    by_test (same_key w.key k) refl (one_apart held others ws k free h ((and_parts (holds_alone others w.key) (holds_writes others ws) o).1))
  where
    p : (holds_alone others w.key ≡ true) × (holds_writes others ws ≡ true)
    p = and_parts (holds_alone others w.key) (holds_writes others ws) o

    by_test : (b : Bool) → same_key w.key k ≡ b → none_of_key ws k ≡ true → (not b && none_of_key ws k) ≡ true
    by_test true e rest = alone_differs held others k free h (ap (holds_alone others) (sym (same_key-is w.key k e)) ∙ p.0)
    by_test false e rest = rest

-- what two write without conflict are different keys
pub writes_apart : (held others : List Lock) (ws vs : List Write) → clash held others ≡ false → holds_writes held ws ≡ true → holds_writes others vs ≡ true
    → list_all (λ w. none_of_key vs w.key) ws ≡ true
writes_apart held others ws vs free h o =
    each_gives (λ (w : Write). holds_alone held w.key) (λ (w : Write). none_of_key vs w.key) (λ w a. one_apart held others vs w.key free a o) ws h

-- two rows of different ids hold nothing in conflict
pub rows_apart : (rows : List Row) (t u : Id) (r q : Row) → IsLawfulTable (claims rows) → find_row rows t ≡ Some r → find_row rows u ≡ Some q →
    same_id u t ≡ false
    → clash r.held q.held ≡ false
rows_apart rows t u r q lawful found other differ =
    let there : find_member (λ (c : Claim). c.txn) (claims rows) t ≡ Some (claim_of r) = claims-find_row rows t ∙ ap (option_map claim_of) found in
    let others : find_member (λ (c : Claim). c.txn) (claims rows) u ≡ Some (claim_of q) = claims-find_row rows u ∙ ap (option_map claim_of) other in
    let row : AllByRecursion (LockPair (claim_of r)) (claims rows) =
    found_all (λ a. AllByRecursion (LockPair a) (claims rows)) (λ (c : Claim). c.txn) (claims rows) t (claim_of r)
    ((by_pairs (claims rows) lawful).locks) there in
    let pair : LockPair (claim_of r) (claim_of q) = found_all (LockPair (claim_of r)) (λ (c : Claim). c.txn) (claims rows) u (claim_of q) row others in
    let own : r.txn ≡ t = same_id-is r.txn t (found_is (λ (z : Row). z.txn) rows t r found) in
    let theirs : q.txn ≡ u = same_id-is q.txn u (found_is (λ (z : Row). z.txn) rows u q other) in
    pair (ap (λ v. same_id v r.txn) theirs ∙ ap (same_id u) own ∙ differ)
