-- What a step logs may come next.
use Rattle.std.proofs.Common.{◌≡◌, ℕ, ◌<◌, ◌≤◌, Bool, true, false, cond, ◌&&◌, nat_lt, nat_le, nat_eq, List, Option, Some, None, refl, sym, ap, subst}
use Rattle.std.proofs.Common.{◌∙◌, arith, not}
use Rattle.std.specs.Prelude.{IsTrue}
use Rattle.std.proofs.lemmas.Bool.{and_from, eq-eqb, lt-ltb, le-leb}
use Rattle.units.specs.Ids.{Id}
use Rattle.units.specs.declared.lock.Lock.{Lock}
use Rattle.record.specs.Records.{StandsPrepared}
use Rattle.record.specs.declared.record.Prepared.{Prepared}
use Rattle.record.specs.declared.record.Record.{Record}
use Rattle.facts.specs.Rules.{allows, is_free, is_unrecorded, follows_facts}
use Rattle.record.specs.Accepted.{rises}
use Rattle.message.specs.declared.message.Input.{Input}
use Rattle.protocol.specs.Rows.{IsPrepared, IsDecided, find_row, safe}
use Rattle.protocol.specs.Plan.{Plan, Before, start_of_step, stands}
use Rattle.protocol.specs.Cells.{is_outcome_for, ceiling_for}
use Rattle.protocol.specs.Sound.{LoggedFollows}
use Rattle.protocol.proofs.RowChanges.{row_as, by_id-claims}
use Rattle.protocol.proofs.PlanShapes.{shape_of}
use Rattle.protocol.proofs.Shapes.{Shape, Answers, IsEnd, IsAbort, IsClose, IsSettle, IsLock, IsWait, IsPromise, IsDecision, ShapeOf, Acts, IsAdvance, IsForget, IsRetire}
use Rattle.protocol.proofs.Serves.{safe_last}
use Rattle.protocol.proofs.Shapes.{is_undecided, not_retired}
use Rattle.protocol.proofs.Agreement.{Sound, unrecorded, PromiseOf, promise_of, DecisionOf, decision_of, not_below}

-- where something is logged, it may come next
abbrev LogFollows : Before → Option Record → Type 0
LogFollows b None = Unit {0}
LogFollows b (Some r) = IsTrue (follows_facts b.shard b.facts r)

Follows : Before → Plan → Type 0
Follows b p = LogFollows b p.logged

all_three : (x y z : Bool) → x ≡ true → y ≡ true → z ≡ true → (x && y && z) ≡ true
all_three true y z e f g = and_from y z f g
all_three false y z e f g = e

opened : (b : Before) → Sound b → nat_lt 0 b.facts.epoch ≡ true
opened b sound = lt-ltb 0 b.facts.epoch sound.opened

stamped : (last at : ℕ) → last < at → nat_lt 0 at ≡ true
stamped last at h = lt-ltb 0 at (omega (arith, h))

-- of who is undecided nothing is recorded, and it is not retired
free : (b : Before) (t : Id) → Sound b → is_undecided (stands b t) ≡ true → is_free b.facts t ≡ true
free b t sound fresh = and_from _ _ (ap is_unrecorded (unrecorded b t sound fresh)) (ap not (not_retired b t fresh))

follows_abort : (b : Before) (t : Id) → Sound b → is_undecided (stands b t) ≡ true → IsTrue (follows_facts b.shard b.facts (Record.Abort t))
unfolding follows_facts
follows_abort b t sound fresh = and_from _ _ (opened b sound) (free b t sound fresh)

follows_close : (b : Before) (t : Id) (n c at : ℕ) (held : List Lock) (outcome : Option ℕ) → Sound b
    → find_row b.memory.rows t ≡ Some (row_as t held (IsPrepared c at)) → is_outcome_for n c at outcome ≡ true
    → IsTrue (follows_facts b.shard b.facts (Record.Outcome t outcome))
unfolding follows_facts
follows_close b t n c at held outcome sound found k =
    let made : PromiseOf b t held c at = promise_of b t held c at sound found in
    and_from _ _ (opened b sound) (ap (λ s. allows s outcome) made.is ∙ by_outcome made.promise made.stamp outcome k)
  where
    by_outcome : (p : Prepared) → p.at ≡ at → (o : Option ℕ) → is_outcome_for n c at o ≡ true → allows (StandsPrepared p) o ≡ true
    by_outcome p same None k = refl
    by_outcome p same (Some s) k = ap (λ m. nat_le m s) same ∙ le-leb at s (not_below n c at s k)

follows_settle : (b : Before) (t : Id) (at : ℕ) (ps : List ℕ) (held : List Lock) → Sound b
    → find_row b.memory.rows t ≡ Some (row_as t held (IsDecided at ps)) → IsTrue (follows_facts b.shard b.facts (Record.Outcome t (Some at)))
unfolding follows_facts
follows_settle b t at ps held sound found =
    let made : DecisionOf b t held at ps = decision_of b t held at ps sound found in
    and_from _ _ (opened b sound) (ap (λ s. allows s (Some at)) made.is ∙ ap (λ m. nat_eq m at) made.stamp ∙ eq-eqb at at refl)

follows : (b : Before) (p : Plan) → Sound b → Shape b p → Follows b p
unfolding Follows follows_facts
follows b p sound (Answers out e) = subst (Follows b) (sym e) tt
follows b p sound (IsEnd t out s e) = subst (Follows b) (sym e) tt
follows b p sound (IsAbort t out fresh e) = subst (Follows b) (sym e) (follows_abort b t sound fresh)
follows b p sound (IsClose t n c at held outcome out found k e) = subst (Follows b) (sym e) (follows_close b t n c at held outcome sound found k)
follows b p sound (IsSettle t at ps held out found e) = subst (Follows b) (sym e) (follows_settle b t at ps held sound found)
follows b p sound (IsLock t ended needs phase out l e) = subst (Follows b) (sym e) tt
follows b p sound (IsWait t needs phase out w e) = subst (Follows b) (sym e) tt
follows b p sound (IsPromise t ended c at rs ws out l e) =
    subst (Follows b) (sym e)
    (and_from _ _ (opened b sound) (all_three _ _ _ (stamped b.memory.last at l.above) (free b t sound l.undecided)
    (l.lower sound.fit)))
follows b p sound (IsDecision t ended needs at ps rs ws out l e) =
    subst (Follows b) (sym e)
    (and_from _ _ (opened b sound) (all_three _ _ _ (stamped b.memory.last at l.above) (free b t sound l.undecided)
    (l.first sound.fit)))

follows_ceiling : (b : Before) (stride at : ℕ) → Sound b → LogFollows b (ceiling_for b.facts.floor stride at)
unfolding follows_facts
follows_ceiling b stride at sound = by_test (nat_lt b.facts.floor at) _
  where
    by_test : (high : Bool) (n : ℕ) → LogFollows b (cond high (Some (Record.Ceiling n)) None)
    by_test true n = and_from _ _ (opened b sound) refl
    by_test false n = tt

follows_horizon : (b : Before) (at : ℕ) → Sound b → at ≤ safe b.memory → b.facts.horizon < at
    → IsTrue (follows_facts b.shard b.facts (Record.Horizon at))
unfolding follows_facts
follows_horizon b at sound low high =
    let below : at ≤ b.facts.floor = omega (arith, low, safe_last b.memory, sound.under) in
    and_from _ _ (opened b sound) (and_from _ _ (lt-ltb b.facts.horizon at high) (le-leb at b.facts.floor below))

follows_retired : (b : Before) (below : Id) → Sound b → rises b.facts.retired below ≡ true → IsTrue (follows_facts b.shard b.facts (Record.Retired below))
unfolding follows_facts
follows_retired b below sound up = and_from _ _ (opened b sound) up

follows_of : (b : Before) (i : Input) (p : Plan) → Sound b → ShapeOf b i p → Follows b p
unfolding Follows
follows_of b i p sound (Acts shape) = follows b p sound shape
follows_of b i p sound (IsAdvance stride at k e) = subst (Follows b) (sym e) (follows_ceiling b stride at sound)
follows_of b i p sound (IsForget at k low high e) = subst (Follows b) (sym e) (follows_horizon b at sound low high)
follows_of b i p sound (IsRetire below k none up e) = subst (Follows b) (sym e) (follows_retired b below sound up)

pub logged_follows : LoggedFollows
unfolding Follows
logged_follows rows setup facts memory now i p r sound e logged =
    let b : Before = start_of_step rows setup facts memory in
    subst (LogFollows b) logged
    (follows_of b i p sound (shape_of rows setup facts memory now i p (by_id-claims memory.rows sound.table.order) e))
