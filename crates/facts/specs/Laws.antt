-- What the facts alone tell of a log.
use Rattle.std.specs.Prelude.{◌≡◌, ℕ, IsTrue, cond, List, [], ◌∷◌, ◌++◌, Option, Some, None, option_map}
use Rattle.units.specs.Ids.{Id}
use Rattle.record.specs.Accepted.{followed, is_kept}
use Rattle.record.specs.Facts.{Facts, facts_of, learn, recorded}
use Rattle.record.specs.Records.{prepared_of, committed_of, is_aborted, ended_of, retired_of}
use Rattle.record.specs.declared.record.Record.{Record}
use Rattle.facts.specs.Readers.{standing_promise, standing_decision, has_abort, outcome_in}
use Rattle.facts.specs.Stages.{follows_next, stage_of, stage_after}
use Rattle.facts.specs.declared.stage.Stage.{Stage}

-- whether one more record may come next is told from the facts, and from where in the log one is
abbrev pub FollowsAsKnown : Type 0
FollowsAsKnown =
    (shard : ℕ) (log : List Record) (r : Record) → IsTrue (followed shard log) →
    followed shard (log ++ r ∷ []) ≡ follows_next shard (stage_of log) (facts_of log) r

-- so is where one is behind it
abbrev pub StageAgrees : Type 0
StageAgrees = (log : List Record) (r : Record) → stage_of (log ++ r ∷ []) ≡ stage_after (stage_of log) r

-- some records learnt one after another, where each may come next
abbrev pub learnt_from : ℕ → Stage → Facts → List Record → Option Facts
learnt_from shard stage facts [] = Some facts
learnt_from shard stage facts (r ∷ rs) =
    cond (follows_next shard stage facts r) (learnt_from shard (stage_after stage r) (learn facts r) rs) None

-- a list is learnt to its end exactly where each record follows those before it, and what is known then is its facts
abbrev pub LearntAsFollowed : Type 0
LearntAsFollowed =
    (shard : ℕ) (log : List Record) →
    learnt_from shard (stage_of []) (facts_of []) log ≡ cond (followed shard log) (Some (facts_of log)) None

-- what the facts still say of an id is what its records say: a promise and a decision until the outcome, the rest for good
pub record SaysOf (log : List Record) (t : Id) : Type 0 where
  pub promise : ended_of log t ≡ None → standing_promise (recorded (facts_of log) t) ≡ prepared_of log t
  pub decision : ended_of log t ≡ None → standing_decision (recorded (facts_of log) t) ≡ committed_of log t
  pub abort : has_abort (recorded (facts_of log) t) ≡ is_aborted log t
  pub outcome : outcome_in (recorded (facts_of log) t) ≡ option_map (λ e. e.outcome) (ended_of log t)

-- so of each id that is not retired, in a list whose records each follow those before it
abbrev pub SaysOfRecords : Type 0
SaysOfRecords = (shard : ℕ) (log : List Record) → IsTrue (followed shard log) → (t : Id) → IsTrue (is_kept (retired_of log) t) → SaysOf log t
