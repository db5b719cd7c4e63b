-- One vote more: who has voted then, and the timestamp of the decision.
use Rattle.std.specs.List.{list_any}
use Rattle.std.proofs.Common.{◌≡◌, ◌∙◌, ℕ, zero, suc, ◌+◌, ◌-◌, ◌<◌, ◌≤◌, ◌^◌, ◌/◌, ◌%◌, max, Bool, true, false, not, cond, ◌&&◌, ◌||◌, nat_eq, List}
use Rattle.std.proofs.Common.{[], ◌∷◌, ◌++◌, map, Option, Some, None, Ok, Err, refl, sym, ap, arith}
use Rattle.std.proofs.lemmas.Bool.Decides.{nat_tests}
use Rattle.units.specs.Lists.{greatest}
use Rattle.units.specs.Ids.{Id}
use Rattle.units.specs.Keys.{Bytes}
use Rattle.units.specs.Masks.{shards_from}
use Rattle.units.specs.declared.fault.Fault.TheVariants.{TimeSpent}
use Rattle.units.specs.declared.lock.Lock.{Lock}
use Rattle.units.specs.declared.writes.Write.{Write}
use Rattle.protocol.specs.Rows.{Row, Voted, Collecting, find_row, with_vote}
use Rattle.protocol.specs.Plan.{Before, puts}
use Rattle.protocol.specs.Cells.{other_parts, all_voted, commit_stamp, plan_decide, plan_count}
use Rattle.memory.specs.States.{voted_of}
use Rattle.memory.specs.votes.Voted.{Voted as CastVote}
use Rattle.memory.specs.Plans.{counted}
use Rattle.coordinator.specs.Granted.{decides, more_votes}
use Rattle.coordinator.proofs.Granting.{decide_late, decide_made}

-- ---- votes as the rows keep them

any_cast : (votes : List CastVote) (m : ℕ) → list_any (λ v. nat_eq v.shard m) (map voted_of votes) ≡ list_any (λ v. nat_eq v.shard m) votes
any_cast [] m = refl
any_cast (v ∷ vs) m = ap (λ b. nat_eq v.shard m || b) (any_cast vs m)

greatest_cast : (votes : List CastVote) → greatest (map (λ v. v.at) (map voted_of votes)) ≡ greatest (map (λ v. v.at) votes)
greatest_cast [] = refl
greatest_cast (v ∷ vs) = ap (max v.at) (greatest_cast vs)

-- ---- one vote more

-- a test of the last member, or of those before it
any_last : (test : Voted → Bool) (votes : List Voted) (v : Voted) → list_any test (votes ++ v ∷ []) ≡ (list_any test votes || test v)
any_last test [] v = elim (test v) as (λ b. (b || false) ≡ b) [ true ↦ refl | false ↦ refl ]
any_last test (u ∷ us) v =
    elim (test u) as (λ b. (b || list_any test (us ++ v ∷ [])) ≡ ((b || list_any test us) || test v)) [ true ↦ refl | false ↦ any_last test us v ]

-- where a shard is one that has voted, so is the shard of its number
same_shard : (votes : List Voted) (n m : ℕ) → list_any (λ v. nat_eq v.shard n) votes ≡ true → nat_eq n m ≡ true → list_any (λ v. nat_eq v.shard m) votes ≡ true
same_shard votes n m there e =
    let same : n ≡ m = grind (arith, nat_tests) in ap (λ k. list_any (λ v. nat_eq v.shard k) votes) (sym same) ∙ there

voted-with : (votes : List Voted) (vote : Voted) (m : ℕ) → list_any (λ v. nat_eq v.shard m) (with_vote vote.shard vote.at votes)
    ≡ (list_any (λ v. nat_eq v.shard m) votes || nat_eq vote.shard m)
voted-with votes vote m = by_test (list_any (λ v. nat_eq v.shard vote.shard) votes) refl
  where
    or_none : (a b : Bool) → (b ≡ true → a ≡ true) → a ≡ (a || b)
    or_none true b h = refl
    or_none false true h = h refl
    or_none false false h = refl

    by_test : (b : Bool) → list_any (λ v. nat_eq v.shard vote.shard) votes ≡ b
        → list_any (λ v. nat_eq v.shard m) (cond b votes (votes ++ vote ∷ [])) ≡ (list_any (λ v. nat_eq v.shard m) votes || nat_eq vote.shard m)
    by_test true e = or_none (list_any (λ v. nat_eq v.shard m) votes) (nat_eq vote.shard m) (same_shard votes vote.shard m e)
    by_test false e = any_last (λ v. nat_eq v.shard m) votes vote

-- the greatest of some votes and of one more
greatest_last : (votes : List Voted) (v : Voted) → greatest (map (λ u. u.at) (votes ++ v ∷ [])) ≡ max (greatest (map (λ u. u.at) votes)) v.at
greatest_last [] v = turned v.at
  where
    turned : (n : ℕ) → max n 0 ≡ max 0 n
    turned n = omega arith
greatest_last (u ∷ us) v = ap (λ n. max u.at n) (greatest_last us v) ∙ grouped u.at (greatest (map (λ x. x.at) us)) v.at
  where
    grouped : (a b c : ℕ) → max a (max b c) ≡ max (max a b) c
    grouped a b c = omega arith

-- ---- the timestamp

-- no vote makes it less
pub stamp_late : (last latest : ℕ) (votes : List Voted) → 2 ^ 62 ≤ commit_stamp last latest [] → 2 ^ 62 ≤ commit_stamp last latest votes
stamp_late last latest votes late = more (greatest (map (λ v. v.at) votes)) (max (latest + 1) (last + 1)) late
  where
    more : (g n : ℕ) → 2 ^ 62 ≤ max 0 n → 2 ^ 62 ≤ max g n
    more g n h = omega (arith, h)

-- the vote of a shard that has voted changes nothing
pub stamp_again : (last latest : ℕ) (votes : List CastVote) (n p : ℕ) → list_any (λ v. nat_eq v.shard n) votes ≡ true
    → max (commit_stamp last latest []) (greatest (map (λ v. v.at) votes)) ≡ commit_stamp last latest (with_vote n p (map voted_of votes))
stamp_again last latest votes n p e =
    ap (λ g. max (commit_stamp last latest []) g) (sym (greatest_cast votes))
    ∙ turned (greatest (map (λ v. v.at) (map voted_of votes))) (max (latest + 1) (last + 1))
    ∙ ap (λ b. commit_stamp last latest (cond b (map voted_of votes) (map voted_of votes ++ record { shard = n; at = p } ∷ []))) (sym (any_cast votes n ∙ e))
  where
    turned : (g m : ℕ) → max (max 0 m) g ≡ max g m
    turned g m = omega arith

-- another vote may raise the timestamp
pub stamp_with : (last latest : ℕ) (votes : List CastVote) (n p : ℕ) → list_any (λ v. nat_eq v.shard n) votes ≡ false
    → max (max (commit_stamp last latest []) (greatest (map (λ v. v.at) votes))) p ≡ commit_stamp last latest (with_vote n p (map voted_of votes))
stamp_with last latest votes n p e =
    ap (λ g. max (max (commit_stamp last latest []) g) p) (sym (greatest_cast votes))
    ∙ turned (greatest (map (λ v. v.at) (map voted_of votes))) p (max (latest + 1) (last + 1))
    ∙ ap (λ g. max g (max (latest + 1) (last + 1))) (sym (greatest_last (map voted_of votes) (record { shard = n; at = p })))
    ∙ ap (λ b. commit_stamp last latest (cond b (map voted_of votes) (map voted_of votes ++ record { shard = n; at = p } ∷ []))) (sym (any_cast votes n ∙ e))
  where
    turned : (g q m : ℕ) → max (max (max 0 m) g) q ≡ max (max g q) m
    turned g q m = omega arith

-- ---- the shards of a mask other than one, bit by bit

-- the shard of the first bit, where it is set, and those of the bits behind it
first_bit : (bits n mask : ℕ) → 0 < bits
    → shards_from bits n mask
    ≡ cond (nat_eq (mask % 2) 1) (n ∷ shards_from (bits - 1) (n + 1) (mask / 2)) (shards_from (bits - 1) (n + 1) (mask / 2))
first_bit zero n mask h = absurd (omega (arith, h))
first_bit (suc bits) n mask h =
    let one : suc n ≡ n + 1 = omega arith in
    let less : bits ≡ suc bits - 1 = omega arith in
    ap (λ m. cond (nat_eq (mask % 2) 1) (n ∷ shards_from bits m (mask / 2)) (shards_from bits m (mask / 2))) one
    ∙ ap (λ k. cond (nat_eq (mask % 2) 1) (n ∷ shards_from k (n + 1) (mask / 2)) (shards_from k (n + 1) (mask / 2))) less

-- each of them has voted
pub marked_each : (votes : List Voted) (except bits n mask : ℕ) → 0 < bits
    → all_voted (other_parts except (shards_from bits n mask)) votes
    ≡ ((not (nat_eq (mask % 2) 1 && not (nat_eq n except)) || list_any (λ v. nat_eq v.shard n) votes)
    && all_voted (other_parts except (shards_from (bits - 1) (n + 1) (mask / 2))) votes)
marked_each votes except bits n mask h =
    ap (λ ns. all_voted (other_parts except ns) votes) (first_bit bits n mask h)
    ∙ by_test (nat_eq (mask % 2) 1) (shards_from (bits - 1) (n + 1) (mask / 2))
  where
    by_test : (a : Bool) (ns : List ℕ) → all_voted (other_parts except (cond a (n ∷ ns) ns)) votes
        ≡ ((not (a && not (nat_eq n except)) || list_any (λ v. nat_eq v.shard n) votes) && all_voted (other_parts except ns) votes)
    by_test true ns =
        elim (nat_eq n except) as (λ c. all_voted (cond (not c) (n ∷ other_parts except ns) (other_parts except ns)) votes
        ≡ ((not (not c) || list_any (λ (v : Voted). nat_eq v.shard n) votes) && all_voted (other_parts except ns) votes)) [ true ↦ refl | false ↦ refl ]
    by_test false ns = refl

-- with one vote more
voted_more : (votes : List CastVote) (p q n : ℕ) → list_any (λ v. nat_eq v.shard n) (more_votes p q votes) ≡
    (list_any (λ v. nat_eq v.shard n) votes || nat_eq p n)
unfolding more_votes
voted_more votes p q n = voted-with (map voted_of votes) (record { shard = p; at = q }) n ∙ ap (λ b. b || nat_eq p n) (any_cast votes n)

-- of a shard that voted before, and of one that did not
pub voted_before : (votes : List CastVote) (p q n : ℕ) → list_any (λ v. nat_eq v.shard n) votes ≡ true →
    true ≡ list_any (λ v. nat_eq v.shard n) (more_votes p q votes)
voted_before votes p q n e = sym (voted_more votes p q n ∙ ap (λ b. b || nat_eq p n) e)

pub voted_last : (votes : List CastVote) (p q n : ℕ) → list_any (λ v. nat_eq v.shard n) votes ≡ false →
    nat_eq p n ≡ list_any (λ v. nat_eq v.shard n) (more_votes p q votes)
voted_last votes p q n e = sym (voted_more votes p q n ∙ ap (λ b. b || nat_eq p n) e)

-- ---- plans

-- a yes that is not the last: the row keeps it
pub count_kept : (b : Before) (n : ℕ) (t : Id) (p latest : ℕ) (ps : List ℕ) (rs : List Bytes) (ws : List Write) (votes : List Voted) (held : List Lock)
    → find_row b.memory.rows t ≡ Some (record { txn = t; held = held; phase = Collecting latest ps rs ws votes })
    → all_voted (other_parts b.shard ps) (with_vote n p votes) ≡ false
    → plan_count b n t (Some p) latest ps rs ws votes ≡ Ok (puts b [] t [] (counted n p (find_row b.memory.rows t)) None b.memory.last [])
unfolding plan_count
count_kept b n t p latest ps rs ws votes held row e =
    ap (λ a. cond a (plan_decide b [] t latest ps rs ws [] (with_vote n p votes))
    (Ok (puts b [] t [] (Collecting latest ps rs ws (with_vote n p votes)) None b.memory.last []))) e
    ∙ ap (λ (o : Option Row). Ok (puts b [] t [] (counted n p o) None b.memory.last [])) (sym row)

-- the last yes
count_last : (b : Before) (n : ℕ) (t : Id) (p latest : ℕ) (ps : List ℕ) (rs : List Bytes) (ws : List Write) (votes : List Voted)
    → all_voted (other_parts b.shard ps) (with_vote n p votes) ≡ true
    → plan_count b n t (Some p) latest ps rs ws votes ≡ plan_decide b [] t latest ps rs ws [] (with_vote n p votes)
unfolding plan_count
count_last b n t p latest ps rs ws votes e =
    ap (λ a. cond a (plan_decide b [] t latest ps rs ws [] (with_vote n p votes))
    (Ok (puts b [] t [] (Collecting latest ps rs ws (with_vote n p votes)) None b.memory.last []))) e

pub count_late : (b : Before) (n : ℕ) (t : Id) (p latest : ℕ) (ps : List ℕ) (rs : List Bytes) (ws : List Write) (votes : List Voted)
    → all_voted (other_parts b.shard ps) (with_vote n p votes) ≡ true → 2 ^ 62 ≤ commit_stamp b.memory.last latest (with_vote n p votes)
    → plan_count b n t (Some p) latest ps rs ws votes ≡ Err TimeSpent
count_late b n t p latest ps rs ws votes all late =
    count_last b n t p latest ps rs ws votes all ∙ decide_late b [] t latest ps rs ws [] (with_vote n p votes) late

pub count_decided : (b : Before) (n : ℕ) (t : Id) (p latest : ℕ) (ps : List ℕ) (rs : List Bytes) (ws : List Write) (votes : List Voted) (at : ℕ)
    → all_voted (other_parts b.shard ps) (with_vote n p votes) ≡ true → at ≡ commit_stamp b.memory.last latest (with_vote n p votes) → at < 2 ^ 62
    → plan_count b n t (Some p) latest ps rs ws votes ≡ Ok (decides b [] t [] at ps rs ws)
count_decided b n t p latest ps rs ws votes at all is small =
    count_last b n t p latest ps rs ws votes all ∙ decide_made b [] t latest ps rs ws [] (with_vote n p votes) at is small
