-- What follows of a record that may come next, and the memory once a plan is carried out.
use Rattle.std.proofs.Common.{◌≡◌, ℕ, ◌<◌, ◌≤◌, true, Option, Some, [], refl, ap, max, arith}
use Rattle.std.specs.Prelude.{nat_lt, ◌||◌}
use Rattle.std.proofs.lemmas.Bool.{and_from, and_parts, false≢true, le-leb, lt-ltb, ltb-true, or_right}
use Rattle.std.proofs.lemmas.Bool.Decides.{nat_tests}
use Rattle.record.specs.Facts.{Facts, facts_of, learn}
use Rattle.record.specs.declared.record.Record.{Record}
use Rattle.record.specs.declared.record.Record.TheVariants.{Opened, Prepare, Commit, Outcome, Base, Version, Settled, Closed}
use Rattle.facts.specs.Rules.{follows_facts}
use Rattle.facts.specs.Stages.{follows_head, follows_next, stage_of}
use Rattle.facts.specs.declared.stage.Stage.TheVariants.{Head}
use Rattle.facts.specs.declared.stage.Stage.{Stage}
use Rattle.ledger.specs.Ledger.{CanInstall}
use Rattle.protocol.specs.Rows.{Memory, without_rows}
use Rattle.protocol.specs.Plan.{carried, after_change, ended_by, with_ids}
use Rattle.memory.specs.Carry.{MayFollow, IsDated}
use Rattle.memory.specs.Plans.{change_of, plan_of}
use Rattle.memory.specs.declared.plan.Step.{Step}

-- a promise or a decision that may come next is above 0
pub dated : (shard : ℕ) (facts : Facts) (o : Option Record) → MayFollow shard facts o → IsDated o
unfolding follows_facts
dated shard facts (Some (Prepare p)) follows = grind (arith, nat_tests)
dated shard facts (Some (Commit c)) follows = grind (arith, nat_tests)
dated shard facts _ follows = tt

-- a log that was opened stays so
pub stays_opened : (shard : ℕ) (facts : Facts) (r : Record) → 0 < facts.epoch → follows_facts shard facts r ≡ true → 0 < (learn facts r).epoch
unfolding follows_facts learn
stays_opened shard facts (Opened e) opened follows = grind (arith, nat_tests)
stays_opened shard facts (Base e f n) opened follows = absurd (false≢true follows)
stays_opened shard facts (Version i) opened follows = absurd (false≢true follows)
stays_opened shard facts (Settled t at parts) opened follows = absurd (false≢true follows)
stays_opened shard facts (Closed t coordinator outcome) opened follows = absurd (false≢true follows)
stays_opened shard facts _ opened follows = opened

-- so behind a record of a head
pub stays_begun : (shard : ℕ) (stage : Stage) (facts : Facts) (r : Record) → 0 < facts.epoch → follows_head shard stage facts r ≡ true
    → 0 < (learn facts r).epoch
unfolding follows_head learn
stays_begun shard stage facts (Opened e) opened follows = absurd (false≢true follows)
stays_begun shard stage facts (Base e f n) opened follows =
    let above : nat_lt 0 e ≡ true = (and_parts _ _ ((and_parts _ _ follows).0)).1 in ltb-true 0 e above
stays_begun shard stage facts _ opened follows = opened

-- a record that a step may log may come next, and so may one of a head
pub next_of : (shard : ℕ) (stage : Stage) (facts : Facts) (r : Record) → follows_facts shard facts r ≡ true → follows_next shard stage facts r ≡ true
unfolding follows_next
next_of shard stage facts r follows = ap (λ b. b || follows_head shard stage facts r) follows

pub next_in_head : (shard : ℕ) (stage : Stage) (facts : Facts) (r : Record) → follows_head shard stage facts r ≡ true
    → follows_next shard stage facts r ≡ true
unfolding follows_next
next_in_head shard stage facts r follows = or_right (follows_facts shard facts r) _ follows

-- what it installs is told from the order of the versions
pub can_in_head : (shard : ℕ) (stage : Stage) (facts : Facts) (r : Record) → follows_head shard stage facts r ≡ true → CanInstall facts r
unfolding follows_head
can_in_head shard stage facts (Outcome t (Some s)) follows = absurd (false≢true follows)
can_in_head shard stage facts _ follows = tt

-- the memory by its parts
pub carried_is : (m next : Memory) (s : Step) → next.last ≡ s.plan.last
    → next.rows ≡ after_change (change_of m.rows s.plan.needs.items s.logged s.plan.change) (without_rows m.rows s.plan.wounded)
    → next.ended ≡ ended_by (change_of m.rows s.plan.needs.items s.logged s.plan.change) (with_ids m.ended s.plan.wounded)
    → next ≡ carried (plan_of m.rows s) m
unfolding carried
carried_is m next s last rows ended = λ i. record { last = last i; rows = rows i; ended = ended i }

-- the greatest timestamp that is raised
pub raised_to : (last at : ℕ) → last ≤ at → max last at ≡ at
raised_to last at h = omega (arith, h)

-- a base is the first record
pub base_begins : (shard e f n : ℕ) → 0 < e → n ≤ f → follows_next shard (stage_of []) (facts_of []) (Base e f n) ≡ true
unfolding follows_next follows_facts follows_head facts_of
base_begins shard e f n above low = and_from _ _ (lt-ltb 0 e above) (le-leb n f low)

pub base_epoch : (e f n : ℕ) → (learn (facts_of []) (Base e f n)).epoch ≡ e
unfolding learn
base_epoch e f n = refl

pub none_stage : stage_of [] ≡ Head
unfolding stage_of
none_stage = refl
