-- A log with one more record is taken, and an opening may always come next.
use Rattle.std.proofs.Common.{◌≡◌, ℕ, ◌+◌, Bool, true, false, not, cond, ◌&&◌, nat_eq, List, [], ◌∷◌, ◌++◌, refl, sym, subst, ◌∙◌, arith, append_assoc}
use Rattle.std.proofs.lemmas.Bool.{and_from, not_from_true}
use Rattle.std.proofs.lemmas.Bool.Decides.{nat_tests}
use Rattle.std.proofs.lemmas.List.{append-nil}
use Rattle.units.specs.declared.setup.Setup.{Setup}
use Rattle.record.specs.Accepted.{Taken, Accepted, DamagedAt, StrangerAt, taken, taken_from, belongs, begins, follows, fits_beside, followed}
use Rattle.record.specs.Facts.{facts_of}
use Rattle.record.proofs.LearnAgrees.{followed_more}
use Rattle.record.specs.declared.record.Record.{Record}

same_number : (k : ℕ) → nat_eq k k ≡ true
same_number k = grind (arith, nat_tests)

first_begins : (log : List Record) (epoch : ℕ) → begins log (Record.Opened epoch) ≡ true
first_begins [] epoch = refl
first_begins (r ∷ rs) epoch = refl

-- an opening may always come next
pub opening_follows : (shard : ℕ) (log : List Record) → followed shard log ≡ true → followed shard (log ++ Record.Opened ((facts_of log).epoch + 1) ∷ []) ≡ true
unfolding follows facts_of
opening_follows shard log h =
    followed_more shard log (Record.Opened ((facts_of log).epoch + 1))
    ∙ and_from _ _ h (and_from _ _ (first_begins log ((facts_of log).epoch + 1)) (same_number ((facts_of log).epoch + 1)))

-- ---- what is taken

-- a record may come next in a list that is taken
pub record IsNext (setup : Setup) (log : List Record) (r : Record) : Type 0 where
  pub own : belongs setup r ≡ true
  pub fits : (begins log r && follows setup.shard log r && fits_beside log r) ≡ true

taken_step : (a b : Bool) (place : ℕ) (rest : Taken) → cond a (StrangerAt place) (cond b rest (DamagedAt place)) ≡ Accepted → (a ≡ false)
    × (b ≡ true) × (rest ≡ Accepted)
taken_step true b place rest e = cc
taken_step false true place rest e = (refl, refl, e)
taken_step false false place rest e = cc

taken_again : (a b : Bool) (place : ℕ) (rest : Taken) → a ≡ false → b ≡ true → rest ≡ Accepted →
    cond a (StrangerAt place) (cond b rest (DamagedAt place)) ≡ Accepted
taken_again true b place rest e f k = cc
taken_again false true place rest e f k = k
taken_again false false place rest e f k = cc

more_from : (setup : Setup) (before : List Record) (place : ℕ) (log : List Record) (r : Record) → taken_from setup before place log ≡ Accepted →
    IsNext setup (before ++ log) r →
    taken_from setup before place (log ++ r ∷ []) ≡ Accepted
more_from setup before place [] r h next =
    let n = subst (λ l. IsNext setup l r) (append-nil before) next in
    taken_again (not (belongs setup r)) _ place _ (not_from_true (belongs setup r) n.own) n.fits refl
more_from setup before place (q ∷ qs) r h next =
    let p = taken_step (not (belongs setup q)) (begins before q && follows setup.shard before q && fits_beside before q) place
    (taken_from setup (before ++ q ∷ []) (place + 1) qs) h in
    taken_again (not (belongs setup q)) _ place _ p.0 p.1
    (more_from setup (before ++ q ∷ []) (place + 1) qs r p.2 (subst (λ l. IsNext setup l r) (sym (append_assoc before (q ∷ []) qs)) next))

-- a list with one more record is taken, where it may come next
pub taken_more : (setup : Setup) (log : List Record) (r : Record) → taken setup log ≡ Accepted → IsNext setup log r → taken setup (log ++ r ∷ []) ≡ Accepted
unfolding taken
taken_more setup log r h next = more_from setup [] 0 log r h next

-- an opening is always taken
pub opening_taken : (setup : Setup) (log : List Record) → taken setup log ≡ Accepted → taken setup
    (log ++ Record.Opened ((facts_of log).epoch + 1) ∷ []) ≡ Accepted
unfolding follows facts_of belongs fits_beside
opening_taken setup log h = taken_more setup log (Record.Opened ((facts_of log).epoch + 1)) h (record {
  own = refl;
  fits = and_from _ _ (and_from _ _ (first_begins log ((facts_of log).epoch + 1)) (same_number ((facts_of log).epoch + 1))) refl;
})
