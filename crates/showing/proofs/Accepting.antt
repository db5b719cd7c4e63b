-- What follows from a list of records that its shard takes.
use Rattle.std.proofs.Common.{◌≡◌, ◌∙◌, ◌&&◌, ◌++◌, ◌∷◌, ◌+◌, ◌<◌, [], ℕ, zero, suc, arith, Bool, true, false, List, length, refl, sym, ap, ap₂}
use Rattle.std.proofs.Common.{subst, take, IsTrue, slice_index_or}
use Rattle.std.proofs.lemmas.List.{map-append}
use Rattle.std.proofs.Math.Seq.{take-suc}
use Rattle.units.specs.declared.setup.Setup.{Setup}
use Rattle.record.specs.Accepted.{Accepted, followed, followed_from, taken}
use Rattle.record.specs.FactLaws.{AcceptedFollows, LearnAgrees}
use Rattle.record.specs.Facts.{facts_of, learn}
use Rattle.record.specs.declared.record.Record.{Record}
use Rattle.facts.specs.Laws.{FollowsAsKnown}
use Rattle.facts.specs.Stages.{follows_next, stage_of}
use Rattle.frames.specs.Placed.{Placed}
use Rattle.recovery.specs.Recovered.{items}

pub both : (a b : Bool) → (a && b) ≡ true → (a ≡ true) × (b ≡ true)
both true b e = (refl, e)
both false b e = absurd cc

-- each record of a beginning follows those before it
followed_part : (shard : ℕ) (before : List Record) (es : List Placed) (n : ℕ) → followed_from shard before (items es) ≡ true
    → followed_from shard before (items (take n es)) ≡ true
followed_part shard before [] zero e = refl
followed_part shard before [] (suc n) e = refl
followed_part shard before (x ∷ es) zero e = refl
followed_part shard before (x ∷ es) (suc n) e =
    let p = both _ (followed_from shard (before ++ x.item ∷ []) (items es)) e in
    ap₂ (λ a b. a && b) p.0 (followed_part shard (before ++ x.item ∷ []) es n p.1)

-- one entry more
pub next_items : (es : List Placed) (i : ℕ) (e : Placed) → i < length es → e ≡ slice_index_or es i e
    → items (take (i + 1) es) ≡ items (take i es) ++ e.item ∷ []
next_items es i e small is =
    let next : i + 1 ≡ suc i = omega arith in
    ap (λ n. items (take n es)) next
    ∙ ap items (take-suc es i e small)
    ∙ ap (λ (x : Placed). items (take i es ++ x ∷ [])) (sym is)
    ∙ map-append (λ (x : Placed). x.item) (take i es) (e ∷ [])

-- a beginning of a list that is taken is followed
pub upto_followed : AcceptedFollows → (setup : Setup) (es : List Placed) → taken setup (items es) ≡ Accepted → (n : ℕ)
    → IsTrue (followed setup.shard (items (take n es)))
unfolding followed
upto_followed law setup es accepted n = followed_part setup.shard [] es n (law setup (items es) accepted)

-- the next entry may come next
pub next_follows : AcceptedFollows → FollowsAsKnown → (setup : Setup) (es : List Placed) (i : ℕ) (e : Placed)
    → taken setup (items es) ≡ Accepted → i < length es → e ≡ slice_index_or es i e
    → IsTrue (follows_next setup.shard (stage_of (items (take i es))) (facts_of (items (take i es))) e.item)
next_follows law known setup es i e accepted small is =
    let now : IsTrue (followed setup.shard (items (take i es))) = upto_followed law setup es accepted i in
    let then : IsTrue (followed setup.shard (items (take i es) ++ e.item ∷ [])) =
    subst (λ (rs : List Record). IsTrue (followed setup.shard rs)) (next_items es i e small is) (upto_followed law setup es accepted (i + 1)) in
    sym (known setup.shard (items (take i es)) e.item now) ∙ then

-- and then the facts are those with it learnt
pub next_learnt : AcceptedFollows → LearnAgrees → (setup : Setup) (es : List Placed) (i : ℕ) (e : Placed)
    → taken setup (items es) ≡ Accepted → i < length es → e ≡ slice_index_or es i e
    → facts_of (items (take (i + 1) es)) ≡ learn (facts_of (items (take i es))) e.item
next_learnt law agrees setup es i e accepted small is =
    let then : IsTrue (followed setup.shard (items (take i es) ++ e.item ∷ [])) =
    subst (λ (rs : List Record). IsTrue (followed setup.shard rs)) (next_items es i e small is) (upto_followed law setup es accepted (i + 1)) in
    ap facts_of (next_items es i e small is) ∙ agrees setup.shard (items (take i es)) e.item then
