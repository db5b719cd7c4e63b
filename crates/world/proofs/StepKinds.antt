-- The kinds of record that steps and openings log: all but those of a renewed log's head.
use Rattle.std.specs.List.{list_all}
use Rattle.std.proofs.Common.{◌≡◌, ℕ, Bool, true, false, ◌&&◌, List, [], ◌∷◌, ◌++◌, refl, ap}
use Rattle.facts.specs.Rules.{follows_facts}
use Rattle.record.specs.Facts.{Facts}
use Rattle.record.specs.declared.record.Record.{Record}
use Rattle.record.specs.declared.record.Record.TheVariants.{Opened, Ceiling, Prepare, Commit, Abort, Outcome, Horizon, Base, Version, Settled, Closed, Retired}

-- the record is of such a kind
abbrev pub is_logged : Record → Bool
is_logged (Opened epoch) = true
is_logged (Ceiling at) = true
is_logged (Horizon at) = true
is_logged (Retired below) = true
is_logged (Prepare p) = true
is_logged (Commit c) = true
is_logged (Abort t) = true
is_logged (Outcome t outcome) = true
is_logged (Base epoch floor horizon) = false
is_logged (Version install) = false
is_logged (Settled t at parts) = false
is_logged (Closed t coordinator outcome) = false

-- so is each of a log
abbrev pub are_logged : List Record → Bool
are_logged log = list_all is_logged log

-- what a step logs is
pub follows_logged : (shard : ℕ) (f : Facts) (r : Record) → follows_facts shard f r ≡ true → is_logged r ≡ true
unfolding follows_facts
follows_logged shard f (Base epoch floor horizon) h = h
follows_logged shard f (Version install) h = h
follows_logged shard f (Settled t at parts) h = h
follows_logged shard f (Closed t coordinator outcome) h = h
follows_logged shard f _ h = refl

pub logged_more : (log : List Record) (r : Record) → are_logged log ≡ true → is_logged r ≡ true → are_logged (log ++ r ∷ []) ≡ true
logged_more [] r all one = ap (λ b. b && true) one
logged_more (q ∷ qs) r all one = by_first (is_logged q) all (λ rest. logged_more qs r rest one)
  where
    by_first : (b : Bool) → (b && are_logged qs) ≡ true → (are_logged qs ≡ true → are_logged (qs ++ r ∷ []) ≡ true) → (b && are_logged (qs ++ r ∷ [])) ≡ true
    by_first true rest more = more rest
    by_first false rest more = cc
