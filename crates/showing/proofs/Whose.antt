-- Whose log some records are.
use Rattle.std.proofs.Common.{◌≡◌, ◌∙◌, ◌&&◌, ◌++◌, ◌∷◌, ◌<◌, ◌≤◌, [], ℕ, true, false, Option, Some, None, List, IsTrue, arith, refl, sym, ap, ap₂, subst}
use Rattle.std.specs.Prelude.{nat_eq, nat_lt}
use Rattle.std.proofs.lemmas.Bool.{eqb-true, lt-ltb, ltb-true}
use Rattle.units.specs.Lists.{gather, head, when}
use Rattle.record.specs.Accepted.{begins, followed, followed_from, follows}
use Rattle.record.specs.declared.record.Record.{Record}
use Rattle.record.specs.declared.record.Record.TheVariants.{Prepare, Commit, Settled, Closed}
use Rattle.showing.specs.Stats.{decided_by, or_last, parts_in, shard_told}
use Rattle.showing.specs.Whose.{TellsItsShard}
use Rattle.showing.proofs.Accepting.{both}

abbrev decided : Record → Option ℕ
decided r = decided_by (parts_in r)

never : false ≡ true → ⊥
never e = cc

-- what a shard takes that is no decision is taken by each later shard
taken_later : (s n : ℕ) (before : List Record) (r : Record) → s ≤ n → decided r ≡ None → follows s before r ≡ true → follows n before r ≡ true
unfolding follows
taken_later s n before (Prepare p) less none takes =
    let parts = both _ (nat_lt p.coordinator s) takes in
    let below : p.coordinator < s = ltb-true p.coordinator s parts.1 in
    ap₂ (λ a b. a && b) parts.0 (lt-ltb p.coordinator n (omega (arith, below, less)))
taken_later s n before (Commit c) less none takes =
    absurd (never (sym (ap (when (nat_eq s)) none) ∙ (both _ (when (nat_eq s) (head c.parts)) takes).1))
taken_later s n before (Settled t at parts) less none takes =
    absurd (never (sym (ap (when (nat_eq s)) none) ∙ (both _ (when (nat_eq s) (head parts)) takes).1))
taken_later s n before (Closed t coordinator outcome) less none takes =
    let parts = both _ (nat_lt coordinator s) takes in
    let below : coordinator < s = ltb-true coordinator s parts.1 in
    ap₂ (λ a b. a && b) parts.0 (lt-ltb coordinator n (omega (arith, below, less)))
taken_later s n before _ less none takes = takes

-- a decision is that of the shard that takes it
its_own : (s y : ℕ) (before : List Record) (r : Record) → decided r ≡ Some y → follows s before r ≡ true → y ≡ s
unfolding follows
its_own s y before (Commit c) is takes =
    sym (eqb-true s y (sym (ap (when (nat_eq s)) is) ∙ (both _ (when (nat_eq s) (head c.parts)) takes).1))
its_own s y before (Settled t at parts) is takes =
    sym (eqb-true s y (sym (ap (when (nat_eq s)) is) ∙ (both _ (when (nat_eq s) (head parts)) takes).1))
its_own s y before _ is takes = cc

each_later : (s n : ℕ) (before rs : List Record) → s ≤ n → gather decided rs ≡ [] → followed_from s before rs ≡ true
    → followed_from n before rs ≡ true
each_later s n before [] less none takes = refl
each_later s n before (r ∷ rs) less none takes =
    let parts = both (begins before r && follows s before r) (followed_from s (before ++ r ∷ []) rs) takes in
    let one = both (begins before r) (follows s before r) parts.0 in
    let apart = split (decided r) none in
    ap₂ (λ a b. a && b) (ap₂ (λ a b. a && b) one.0 (taken_later s n before r less apart.0 one.1))
    (each_later s n (before ++ r ∷ []) rs less apart.1 parts.1)
  where
    split : (o : Option ℕ) → (elim o as (λ q. List ℕ) [ None ↦ gather decided rs | Some y ↦ y ∷ gather decided rs ]) ≡ []
        → (o ≡ None) × (gather decided rs ≡ [])
    split None e = (refl, e)
    split (Some y) e = absurd cc

first_is : (s : ℕ) (before rs : List Record) (m : ℕ) (ms : List ℕ) → gather decided rs ≡ m ∷ ms → followed_from s before rs ≡ true → m ≡ s
first_is s before [] m ms e takes = cc
first_is s before (r ∷ rs) m ms e takes =
    let parts = both (begins before r && follows s before r) (followed_from s (before ++ r ∷ []) rs) takes in
    let one = both (begins before r) (follows s before r) parts.0 in
    by (decided r) refl e (λ rest. first_is s (before ++ r ∷ []) rs m ms rest parts.1) one.1
  where
    by : (o : Option ℕ) → decided r ≡ o → (elim o as (λ q. List ℕ) [ None ↦ gather decided rs | Some y ↦ y ∷ gather decided rs ]) ≡ m ∷ ms
        → (gather decided rs ≡ m ∷ ms → m ≡ s) → follows s before r ≡ true → m ≡ s
    by None is e later takes = later e
    by (Some y) is e later takes =
        let same : y ≡ m = cc in
        sym same ∙ its_own s y before r is takes

pub tells : TellsItsShard
unfolding followed
tells shard log small takes = by (gather decided log) refl
  where
    by : (ys : List ℕ) → gather decided log ≡ ys → IsTrue (followed (shard_told log) log)
    by [] none =
        let told : shard_told log ≡ 15 = ap (λ (ys : List ℕ). or_last (head ys)) none in
        subst (λ n. IsTrue (followed n log)) (sym told) (each_later shard 15 [] log small none takes)
    by (m ∷ ms) some =
        let told : shard_told log ≡ m = ap (λ (ys : List ℕ). or_last (head ys)) some in
        subst (λ n. IsTrue (followed n log)) (sym (told ∙ first_is shard [] log m ms some takes)) takes
