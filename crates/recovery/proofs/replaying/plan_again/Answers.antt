use Rattle.std.proofs.Common.{◌≡◌, ◌∙◌, ◌≤◌, ◌++◌, ℕ, true, max, Option, Some, None, [], refl, sym, ap, subst, List, arith}
use Rattle.units.specs.Ids.{Id}
use Rattle.units.specs.Locks.{shared, exclusive}
use Rattle.units.specs.declared.lock.Lock.{Lock}
use Rattle.record.specs.declared.record.Record.{Record}
use Rattle.record.specs.Facts.{learn, or_floor}
use Rattle.facts.specs.Rules.{follows_facts}
use Rattle.protocol.specs.Rows.{rebuilt}
use Rattle.protocol.specs.Plan as protocol
use Rattle.protocol.specs.Plan.{carried}
use Rattle.memory.specs.Carry.{Asks, IsFit, MayDrop, MayRetire, MayStand}
use Rattle.memory.specs.Plans.{plan_of}
use Rattle.memory.specs.declared.plan.Plan.{Plan}
use Rattle.memory.specs.RowTable.{phase_by}
use Rattle.protocol.specs.Beside.{fits_facts}
use Rattle.recovery.proofs.Again.{abort_again, absent_before, decision_again, may_abort_again, may_close_again, opens_again, outcome_again}
use Rattle.recovery.proofs.Again.{forgets_again, promise_again, retires_again, serves_again}
use Rattle.recovery.proofs.Beside.{asks_are}
use Rattle.recovery.proofs.Replayed.{with_record}
use Rattle.recovery.proofs.replaying.plan_again.Goals as goal

-- the plan of a row that stands with these locks by a record, which is logged
abbrev stands_by : Id → List Lock → Record → Record → ℕ → protocol.Plan
stands_by t needs by logged last = record { wounded = []; change = protocol.Puts t needs (phase_by by); logged = Some logged; last = last; outbox = [] }

-- an outcome lowers nothing
raised : (last : ℕ) (o : Option ℕ) → last ≤ or_floor last o
raised last None = omega (arith)
raised last (Some at) = omega (arith)

pub returns-in-Opened-clause-memory_after : goal.returns-in-Opened-clause-memory_after
returns-in-Opened-clause-memory_after c =
    let k = c.args.state.now in
    let item = c.args.item.now in
    subst (λ r. carried (plan_of k.memory.rows (with_record c.quiet.result item)) k.memory ≡ rebuilt (learn k.facts r)) (sym c.in-Opened.is)
    (opens_again k c.in-Opened.epoch c.last-last.result (Some item) _ c.requires.recovered c.last-last.ensures
    (ap (λ (p : Plan). plan_of k.memory.rows (with_record p item)) c.quiet.ensures))

pub returns-in-Ceiling-clause-memory_after : goal.returns-in-Ceiling-clause-memory_after
returns-in-Ceiling-clause-memory_after c =
    let k = c.args.state.now in
    let item = c.args.item.now in
    subst (λ r. carried (plan_of k.memory.rows (with_record c.quiet-in-Ceiling.result item)) k.memory ≡ rebuilt (learn k.facts r)) (sym c.in-Ceiling.is)
    (serves_again k c.in-Ceiling.at c.later-last.result (Some item) _ c.requires.recovered
    (c.later-last.ensures ∙ ap (λ n. max n c.in-Ceiling.at) c.last-last.ensures)
    (ap (λ (p : Plan). plan_of k.memory.rows (with_record p item)) c.quiet-in-Ceiling.ensures))

pub returns-in-Horizon-clause-memory_after : goal.returns-in-Horizon-clause-memory_after
returns-in-Horizon-clause-memory_after c =
    let k = c.args.state.now in
    let item = c.args.item.now in
    subst (λ r. carried (plan_of k.memory.rows (with_record c.quiet-in-Horizon.result item)) k.memory ≡ rebuilt (learn k.facts r)) (sym c.in-Horizon.is)
    (forgets_again k c.in-Horizon.at c.last-last.result (Some item) _ c.requires.recovered c.last-last.ensures
    (ap (λ (p : Plan). plan_of k.memory.rows (with_record p item)) c.quiet-in-Horizon.ensures))

pub returns-in-Retired-clause-fit : goal.returns-in-Retired-clause-fit
returns-in-Retired-clause-fit c =
    let k = c.args.state.now in
    subst (λ (p : Plan). IsFit k (with_record p c.args.item.now)) (sym c.quiet-in-Retired.ensures) (
      (refl, subst (λ r. MayRetire c.in-Retired.below (Some r)) (sym c.in-Retired.is) refl),
      omega (arith, c.last-last.ensures),
    )

pub returns-in-Retired-clause-memory_after : goal.returns-in-Retired-clause-memory_after
returns-in-Retired-clause-memory_after c =
    let k = c.args.state.now in
    let item = c.args.item.now in
    subst (λ r. carried (plan_of k.memory.rows (with_record c.quiet-in-Retired.result item)) k.memory ≡ rebuilt (learn k.facts r)) (sym c.in-Retired.is)
    (retires_again k c.in-Retired.below c.last-last.result (Some item) _ c.requires.recovered c.last-last.ensures
    (subst (λ r. fits_facts k.facts r ≡ true) c.in-Retired.is c.requires.fits)
    (ap (λ (p : Plan). plan_of k.memory.rows (with_record p item)) c.quiet-in-Retired.ensures))

pub returns-in-Abort-clause-fit : goal.returns-in-Abort-clause-fit
returns-in-Abort-clause-fit c =
    let k = c.args.state.now in
    subst (λ (p : Plan). IsFit k (with_record p c.args.item.now)) (sym c.quiet-in-Abort.ensures) (
      (
        refl,
        subst (λ r. MayDrop k.memory.rows c.in-Abort.txn (Some r)) (sym c.in-Abort.is)
            (may_abort_again k k.setup.shard c.in-Abort.txn c.requires.recovered
            (subst (λ r. follows_facts k.setup.shard k.facts r ≡ true) c.in-Abort.is c.requires.follows)),
      ),
      omega (arith, c.last-last.ensures),
    )

pub returns-in-Abort-clause-memory_after : goal.returns-in-Abort-clause-memory_after
returns-in-Abort-clause-memory_after c =
    let k = c.args.state.now in
    let item = c.args.item.now in
    subst (λ r. carried (plan_of k.memory.rows (with_record c.quiet-in-Abort.result item)) k.memory ≡ rebuilt (learn k.facts r)) (sym c.in-Abort.is)
    (abort_again k c.in-Abort.txn c.last-last.result item _ _ c.requires.recovered c.last-last.ensures
    (ap (λ (p : Plan). plan_of k.memory.rows (with_record p item)) c.quiet-in-Abort.ensures))

pub returns-in-Outcome-clause-fit : goal.returns-in-Outcome-clause-fit
returns-in-Outcome-clause-fit c =
    let k = c.args.state.now in
    subst (λ (p : Plan). IsFit k (with_record p c.args.item.now)) (sym c.quiet-in-Outcome.ensures) (
      (
        refl,
        subst (λ r. MayDrop k.memory.rows c.in-Outcome.txn (Some r)) (sym c.in-Outcome.is)
            (may_close_again k k.setup.shard c.in-Outcome.txn c.in-Outcome.outcome c.requires.recovered
            (subst (λ r. follows_facts k.setup.shard k.facts r ≡ true) c.in-Outcome.is c.requires.follows)),
      ),
      omega (arith, c.last-last.ensures, c.raised_by-last.ensures, raised c.last-last.result c.in-Outcome.outcome),
    )

pub returns-in-Outcome-clause-memory_after : goal.returns-in-Outcome-clause-memory_after
returns-in-Outcome-clause-memory_after c =
    let k = c.args.state.now in
    let item = c.args.item.now in
    subst (λ r. carried (plan_of k.memory.rows (with_record c.quiet-in-Outcome.result item)) k.memory ≡ rebuilt (learn k.facts r)) (sym c.in-Outcome.is)
    (outcome_again k k.setup.shard c.in-Outcome.txn c.in-Outcome.outcome c.raised_by-last.result item _ _ c.requires.recovered
    (subst (λ r. follows_facts k.setup.shard k.facts r ≡ true) c.in-Outcome.is c.requires.follows)
    (c.raised_by-last.ensures ∙ ap (λ n. or_floor n c.in-Outcome.outcome) c.last-last.ensures)
    (ap (λ (p : Plan). plan_of k.memory.rows (with_record p item)) c.quiet-in-Outcome.ensures))

pub returns-in_ok-needs-in-Prepare-clause-fit : goal.returns-in_ok-needs-in-Prepare-clause-fit
returns-in_ok-needs-in-Prepare-clause-fit c =
    let k = c.args.state.now in
    let p = c.in-Prepare.p in
    let follows = subst (λ r. follows_facts k.setup.shard k.facts r ≡ true) c.in-Prepare.is c.requires.follows in
    subst (λ (q : Plan). IsFit k (with_record q c.args.item.now)) (sym c.quiet-in-Prepare.ensures) (
      (
        subst (λ (ls : List Lock). Asks k.memory.rows p.txn [] ls true) (sym c.in_ok-needs-in-Prepare.ensures.locks)
            (asks_are k p.txn p.at p.reads p.writes c.requires.recovered
            (absent_before k k.setup.shard (Record.Prepare p) p.txn c.requires.recovered follows refl)
            (subst (λ r. fits_facts k.facts r ≡ true) c.in-Prepare.is c.requires.fits)),
        subst (λ r. MayStand p.txn (Some r)) (sym c.in-Prepare.is) refl,
      ),
      omega (arith, c.last-last.ensures, c.later.ensures),
    )

pub returns-in_ok-needs-in-Prepare-clause-memory_after : goal.returns-in_ok-needs-in-Prepare-clause-memory_after
returns-in_ok-needs-in-Prepare-clause-memory_after c =
    let k = c.args.state.now in
    let item = c.args.item.now in
    let p = c.in-Prepare.p in
    subst (λ r. carried (plan_of k.memory.rows (with_record c.quiet-in-Prepare.result item)) k.memory ≡ rebuilt (learn k.facts r)) (sym c.in-Prepare.is)
    (promise_again k k.setup.shard p (Some item) c.later.result _ c.requires.recovered
    (subst (λ r. follows_facts k.setup.shard k.facts r ≡ true) c.in-Prepare.is c.requires.follows)
    (c.later.ensures ∙ ap (λ n. max n p.at) c.last-last.ensures)
    (ap (λ (q : Plan). plan_of k.memory.rows (with_record q item)) c.quiet-in-Prepare.ensures
    ∙ ap (λ (ls : List Lock). stands_by p.txn ls item item c.later.result) c.in_ok-needs-in-Prepare.ensures.locks
    ∙ ap (λ r. stands_by p.txn (shared p.reads ++ exclusive p.writes) r item c.later.result) c.in-Prepare.is))

pub returns-in_ok-needs-in-Commit-clause-fit : goal.returns-in_ok-needs-in-Commit-clause-fit
returns-in_ok-needs-in-Commit-clause-fit c =
    let k = c.args.state.now in
    let p = c.in-Commit.c in
    let follows = subst (λ r. follows_facts k.setup.shard k.facts r ≡ true) c.in-Commit.is c.requires.follows in
    subst (λ (q : Plan). IsFit k (with_record q c.args.item.now)) (sym c.quiet-in-Commit.ensures) (
      (
        subst (λ (ls : List Lock). Asks k.memory.rows p.txn [] ls true) (sym c.in_ok-needs-in-Commit.ensures.locks)
            (asks_are k p.txn p.at p.reads p.writes c.requires.recovered
            (absent_before k k.setup.shard (Record.Commit p) p.txn c.requires.recovered follows refl)
            (subst (λ r. fits_facts k.facts r ≡ true) c.in-Commit.is c.requires.fits)),
        subst (λ r. MayStand p.txn (Some r)) (sym c.in-Commit.is) refl,
      ),
      omega (arith, c.last-last.ensures, c.later-in-Commit.ensures),
    )

pub returns-in_ok-needs-in-Commit-clause-memory_after : goal.returns-in_ok-needs-in-Commit-clause-memory_after
returns-in_ok-needs-in-Commit-clause-memory_after c =
    let k = c.args.state.now in
    let item = c.args.item.now in
    let p = c.in-Commit.c in
    subst (λ r. carried (plan_of k.memory.rows (with_record c.quiet-in-Commit.result item)) k.memory ≡ rebuilt (learn k.facts r)) (sym c.in-Commit.is)
    (decision_again k k.setup.shard p (Some item) c.later-in-Commit.result _ c.requires.recovered
    (subst (λ r. follows_facts k.setup.shard k.facts r ≡ true) c.in-Commit.is c.requires.follows)
    (c.later-in-Commit.ensures ∙ ap (λ n. max n p.at) c.last-last.ensures)
    (ap (λ (q : Plan). plan_of k.memory.rows (with_record q item)) c.quiet-in-Commit.ensures
    ∙ ap (λ (ls : List Lock). stands_by p.txn ls item item c.later-in-Commit.result) c.in_ok-needs-in-Commit.ensures.locks
    ∙ ap (λ r. stands_by p.txn (shared p.reads ++ exclusive p.writes) r item c.later-in-Commit.result) c.in-Commit.is))
