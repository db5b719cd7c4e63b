-- Whether a log is taken is told from what it says: record by record, and of one more record.
use Rattle.std.specs.List.{list_all}
use Rattle.std.proofs.Common.{◌≡◌, ℕ, ◌+◌, Bool, true, false, not, cond, ◌&&◌, List, [], ◌∷◌, ◌++◌, refl, sym, ap, subst}
use Rattle.std.proofs.Common.{◌∙◌, append_assoc}
use Rattle.std.proofs.lemmas.Bool.{and_from, and_parts}
use Rattle.std.proofs.lemmas.List.{append-nil}
use Rattle.std.proofs.Math.Bool.{or-false}
use Rattle.units.specs.declared.setup.Setup.{Setup}
use Rattle.record.specs.Accepted.{Taken, Accepted, DamagedAt, StrangerAt, begins, belongs, fits_beside, followed, followed_from, follows}
use Rattle.record.specs.Accepted.{taken, taken_from}
use Rattle.record.specs.Facts.{facts_of, no_facts}
use Rattle.record.specs.Installs.{installs_of}
use Rattle.record.specs.declared.record.Record.{Record}
use Rattle.record.proofs.LearnAgrees.{followed_more, learn_agrees}
use Rattle.facts.specs.Rules.{follows_facts}
use Rattle.facts.specs.Stages.{follows_head, follows_next, stage_of}
use Rattle.protocol.specs.Beside.{fits_facts}
use Rattle.protocol.proofs.BesideFacts.{beside_is, follows_is}
use Rattle.ledger.specs.Rules.{AllFit, takes}
use Rattle.world.proofs.Openings.{IsNext}
use Rattle.world.proofs.StepKinds.{is_logged}

-- a log that is followed, with one more record
with_next : (shard : ℕ) (log : List Record) (r : Record) → followed shard log ≡ true → (begins log r && follows shard log r) ≡ true →
    followed shard (log ++ r ∷ []) ≡ true
with_next shard log r before h = followed_more shard log r ∙ and_from _ _ before h

-- ---- a whole list

-- a list is taken whose records follow, have their places and are of the shard
from_facts : (setup : Setup) (before : List Record) (place : ℕ) (log : List Record) → followed setup.shard before ≡ true →
    followed_from setup.shard before log ≡ true → AllFit (facts_of before) log → list_all (belongs setup) log ≡ true
    → taken_from setup before place log ≡ Accepted
from_facts setup before place [] known h fits own = refl
from_facts setup before place (r ∷ rs) known h fits own =
    let come = and_parts (begins before r && follows setup.shard before r) (followed_from setup.shard (before ++ r ∷ []) rs) h in
    let mine = and_parts (belongs setup r) (list_all (belongs setup) rs) own in
    let more = with_next setup.shard before r known come.0 in
    let beside : fits_beside before r ≡ true = beside_is setup.shard before r (sym (follows_is setup.shard before r known) ∙ come.0) ∙ fits.0 in
    ap (λ b. cond (not b) (StrangerAt place) (cond (begins before r && follows setup.shard before r && fits_beside before r) rest (DamagedAt place))) mine.0
    ∙ ap (λ b. cond b rest (DamagedAt place)) (and_from (begins before r && follows setup.shard before r) (fits_beside before r) come.0 beside)
    ∙ from_facts setup (before ++ r ∷ []) (place + 1) rs more come.1
    (subst (λ f. AllFit f rs) (sym (learn_agrees setup.shard before r more)) fits.1) mine.1
  where
    rest : Taken
    rest = taken_from setup (before ++ r ∷ []) (place + 1) rs

nothing_known : facts_of [] ≡ no_facts
unfolding facts_of installs_of
nothing_known = refl

nothing_followed : (shard : ℕ) → followed shard [] ≡ true
unfolding followed
nothing_followed shard = refl

-- so a log is taken that follows, fits and is of the shard
pub taken_by_facts : (setup : Setup) (log : List Record) → followed setup.shard log ≡ true → AllFit no_facts log → list_all (belongs setup) log ≡ true →
    taken setup log ≡ Accepted
unfolding taken followed
taken_by_facts setup log h fits own =
    from_facts setup [] 0 log (nothing_followed setup.shard) h (subst (λ f. AllFit f log) (sym nothing_known) fits) own

-- ---- one more record

-- the last of a list that is taken was next to come
last_is_next : (setup : Setup) (before : List Record) (place : ℕ) (log : List Record) (r : Record) →
    taken_from setup before place (log ++ r ∷ []) ≡ Accepted → IsNext setup (before ++ log) r
last_is_next setup before place [] r h = subst (λ l. IsNext setup l r) (sym (append-nil before)) (by_tests (belongs setup r) _ refl refl h)
  where
    by_tests : (a b : Bool) → belongs setup r ≡ a → (begins before r && follows setup.shard before r && fits_beside before r) ≡ b →
        cond (not a) (StrangerAt place) (cond b Accepted (DamagedAt place)) ≡ Accepted → IsNext setup before r
    by_tests false b i j k = cc
    by_tests true false i j k = cc
    by_tests true true i j k = record { own = i; fits = j }
last_is_next setup before place (q ∷ qs) r h =
    subst (λ l. IsNext setup l r) (append_assoc before (q ∷ []) qs)
    (last_is_next setup (before ++ q ∷ []) (place + 1) qs r (rest (belongs setup q) _ h))
  where
    rest : (a b : Bool) → cond (not a) (StrangerAt place) (cond b (taken_from setup (before ++ q ∷ []) (place + 1) (qs ++ r ∷ [])) (DamagedAt place))
        ≡ Accepted →
        taken_from setup (before ++ q ∷ []) (place + 1) (qs ++ r ∷ []) ≡ Accepted
    rest false b k = cc
    rest true false k = cc
    rest true true k = k

pub was_next : (setup : Setup) (log : List Record) (r : Record) → taken setup (log ++ r ∷ []) ≡ Accepted → IsNext setup log r
unfolding taken
was_next setup log r h = last_is_next setup [] 0 log r h

-- what a step logs is none of a head
no_head : (shard : ℕ) (log : List Record) (r : Record) → is_logged r ≡ true → follows_next shard (stage_of log) (facts_of log) r ≡
    follows_facts shard (facts_of log) r
unfolding follows_next follows_head
no_head shard log (Record.Base epoch floor horizon) h = cc
no_head shard log (Record.Version install) h = cc
no_head shard log (Record.Settled t at parts) h = cc
no_head shard log (Record.Closed t coordinator outcome) h = cc
no_head shard log _ h = or-false _

-- it may come next where the facts take it, and the other way round
pub next_takes : (setup : Setup) (log : List Record) (r : Record) → followed setup.shard log ≡ true → is_logged r ≡ true → IsNext setup log r →
    takes setup (facts_of log) r ≡ true
unfolding takes
next_takes setup log r known kind next =
    let q = and_parts (begins log r && follows setup.shard log r) (fits_beside log r) next.fits in
    let may : follows_next setup.shard (stage_of log) (facts_of log) r ≡ true = sym (follows_is setup.shard log r known) ∙ q.0 in
    and_from _ _ (and_from _ _ next.own (sym (no_head setup.shard log r kind) ∙ may)) (sym (beside_is setup.shard log r may) ∙ q.1)

pub takes_next : (setup : Setup) (log : List Record) (r : Record) → followed setup.shard log ≡ true → is_logged r ≡ true →
    takes setup (facts_of log) r ≡ true → IsNext setup log r
unfolding takes
takes_next setup log r known kind h =
    let q = and_parts (belongs setup r && follows_facts setup.shard (facts_of log) r) (fits_facts (facts_of log) r) h in
    let o = and_parts (belongs setup r) (follows_facts setup.shard (facts_of log) r) q.0 in
    let may : follows_next setup.shard (stage_of log) (facts_of log) r ≡ true = no_head setup.shard log r kind ∙ o.1 in
    record { own = o.0; fits = and_from _ _ (follows_is setup.shard log r known ∙ may) (beside_is setup.shard log r may ∙ q.1) }
