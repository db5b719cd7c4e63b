-- Votes of each shard once are sixteen at most.
use Rattle.std.specs.List.{list_any, list_all}
use Rattle.std.proofs.Common.{◌≡◌, ℕ, zero, suc, ◌<◌, ◌≤◌, Bool, true, false, cond, ◌&&◌, ◌||◌, nat_eq, nat_lt, List, [], ◌∷◌, ◌++◌, map, length}
use Rattle.std.proofs.Common.{refl, sym, ap, ◌∙◌, arith}
use Rattle.std.proofs.lemmas.Bool.Decides.{nat_tests}
use Rattle.std.proofs.lemmas.Bool.{or_parts}
use Rattle.units.specs.Lists.{has, once, insert, sorted}
use Rattle.units.specs.Masks.{marked}
use Rattle.units.proofs.Marked.{sorted_once}
use Rattle.protocol.specs.Rows.{with_vote}
use Rattle.rows.specs.States.{voted_of, has_voted, AreVotes, most_votes}
use Rattle.rows.specs.declared.votes.Voted.{Voted as CastVote}

-- the shards of votes
abbrev shards : List CastVote → List ℕ
shards vs = map (λ v. v.shard) vs

-- ---- how long sorted numbers and marked numbers are

length-insert : (x : ℕ) (ys : List ℕ) → length (insert nat_lt x ys) ≡ suc (length ys)
length-insert x [] = refl
length-insert x (y ∷ ys) = by_test (nat_lt y x) (length-insert x ys)
  where
    by_test : (b : Bool) → length (insert nat_lt x ys) ≡ suc (length ys) → length (cond b (y ∷ insert nat_lt x ys) (x ∷ y ∷ ys)) ≡ suc (length (y ∷ ys))
    by_test true e = ap suc e
    by_test false e = refl

length-sorted : (xs : List ℕ) → length (sorted nat_lt xs) ≡ length xs
length-sorted [] = refl
length-sorted (x ∷ xs) = length-insert x (sorted nat_lt xs) ∙ ap suc (length-sorted xs)

length-marked : (test : ℕ → Bool) (bits n : ℕ) → length (marked test bits n) ≤ bits
length-marked test zero n = omega arith
length-marked test (suc bits) n = by_test (test n) (length-marked test bits (suc n))
  where
    by_test : (b : Bool) → length (marked test bits (suc n)) ≤ bits → length (cond b (n ∷ marked test bits (suc n)) (marked test bits (suc n))) ≤ suc bits
    by_test true e = omega (arith, e)
    by_test false e = omega (arith, e)

-- ---- the shards of votes stand once

turned : (a b : ℕ) → nat_eq a b ≡ nat_eq b a
turned a b = grind (arith, nat_tests)

has-shards : (n : ℕ) (vs : List CastVote) → has (shards vs) n ≡ has_voted n vs
has-shards n [] = refl
has-shards n (v ∷ vs) = ap (λ b. b || has (shards vs) n) (turned n v.shard) ∙ ap (λ b. nat_eq v.shard n || b) (has-shards n vs)

once-shards : (vs : List CastVote) → AreVotes vs → once (shards vs) ≡ shards vs
once-shards [] are = refl
once-shards (v ∷ vs) are =
    ap (λ b. cond b (once (shards vs)) (v.shard ∷ once (shards vs))) (has-shards v.shard vs ∙ are.1) ∙ ap (λ l. v.shard ∷ l) (once-shards vs are.2)

small-shards : (vs : List CastVote) → AreVotes vs → list_all (λ n. nat_lt n 16) (shards vs) ≡ true
small-shards [] are = refl
small-shards (v ∷ vs) are = ap (λ b. b && list_all (λ n. nat_lt n 16) (shards vs)) are.0 ∙ small-shards vs are.2

length-shards : (vs : List CastVote) → length (shards vs) ≡ length vs
length-shards [] = refl
length-shards (v ∷ vs) = ap suc (length-shards vs)

few_votes : (vs : List CastVote) → AreVotes vs → length vs ≤ 16
few_votes vs are =
    let same : length vs ≡ length (marked (has (shards vs)) 16 0) =
    sym (length-shards vs) ∙ sym (length-sorted (shards vs)) ∙ ap (λ l. length (sorted nat_lt l)) (sym (once-shards vs are))
    ∙ ap length (sorted_once (shards vs) (small-shards vs are)) in
    omega (arith, same, length-marked (has (shards vs)) 16 0)

-- where a shard has not voted there is space for its vote
pub space_for_vote : (v : CastVote) (vs : List CastVote) → v.shard < 16 → has_voted v.shard vs ≡ false → AreVotes vs → length vs < most_votes
space_for_vote v vs small new are = omega (arith, few_votes (v ∷ vs) (grind (arith, nat_tests), new, are))

-- ---- one vote more

has_voted-append : (n : ℕ) (vs : List CastVote) (v : CastVote) → has_voted n (vs ++ v ∷ []) ≡ (has_voted n vs || (nat_eq v.shard n || false))
has_voted-append n [] v = refl
has_voted-append n (w ∷ vs) v = ap (λ b. nat_eq w.shard n || b) (has_voted-append n vs v)
    ∙ sym (grouped (nat_eq w.shard n) (has_voted n vs) (nat_eq v.shard n || false))
  where
    grouped : (a b c : Bool) → ((a || b) || c) ≡ (a || (b || c))
    grouped true b c = refl
    grouped false b c = refl

pub votes-append : (vs : List CastVote) (v : CastVote) → v.shard < 16 → has_voted v.shard vs ≡ false → AreVotes vs → AreVotes (vs ++ v ∷ [])
votes-append [] v small new are = (grind (arith, nat_tests), refl, tt)
votes-append (w ∷ vs) v small new are =
    let parts = or_parts (nat_eq w.shard v.shard) (has_voted v.shard vs) new in
    let other : (nat_eq v.shard w.shard || false) ≡ false = ap (λ b. b || false) (turned v.shard w.shard ∙ parts.0) in
    (are.0, has_voted-append w.shard vs v ∙ ap (λ b. b || (nat_eq v.shard w.shard || false)) are.1 ∙ other, votes-append vs v small parts.1 are.2)

-- ---- as the protocol sees it

voted-map : (n : ℕ) (vs : List CastVote) → list_any (λ v. nat_eq v.shard n) (map voted_of vs) ≡ has_voted n vs
voted-map n [] = refl
voted-map n (v ∷ vs) = ap (λ b. nat_eq v.shard n || b) (voted-map n vs)

map-append : (vs : List CastVote) (v : CastVote) → map voted_of (vs ++ v ∷ []) ≡ map voted_of vs ++ voted_of v ∷ []
map-append [] v = refl
map-append (w ∷ vs) v = ap (λ l. voted_of w ∷ l) (map-append vs v)

pub vote_again : (n p : ℕ) (vs : List CastVote) → has_voted n vs ≡ true → map voted_of vs ≡ with_vote n p (map voted_of vs)
vote_again n p vs e =
    sym (ap (λ b. cond b (map voted_of vs) (map voted_of vs ++ record { shard = n; at = p } ∷ [])) (voted-map n vs ∙ e))

pub vote_added : (n p : ℕ) (vs : List CastVote) → has_voted n vs ≡ false → map voted_of (vs ++ record { shard = n; at = p } ∷ []) ≡
    with_vote n p (map voted_of vs)
vote_added n p vs e =
    map-append vs (record { shard = n; at = p })
    ∙ sym (ap (λ b. cond b (map voted_of vs) (map voted_of vs ++ record { shard = n; at = p } ∷ [])) (voted-map n vs ∙ e))
