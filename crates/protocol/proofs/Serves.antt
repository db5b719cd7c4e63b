-- What a step leaves of the served time, and that what it installs is above it.
use Rattle.std.proofs.Common.{◌≡◌, ℕ, filter, ◌-◌, ◌<◌, ◌≤◌, Bool, true, false, not, cond, nat_lt, List, [], ◌∷◌, ◌++◌, map, Option, Some, None, refl}
use Rattle.std.proofs.Common.{ap, sym, ◌∙◌, subst, arith}
use mathlib.Core.Bool.{true≢false}
use Rattle.std.specs.List.{AllByRecursion}
use Rattle.std.proofs.lemmas.Bool.{and_parts, and_from}
use Rattle.std.proofs.lemmas.Bool.Decides.{nat_tests}
use Rattle.std.proofs.lemmas.List.{append-nil}
use Rattle.units.specs.Ids.{Id, same_id}
use Rattle.units.specs.Keys.{same_key, key_before, write_before}
use Rattle.std.specs.List.{list_all}
use Rattle.units.specs.Lists.{first, head, gather, ascends, least_with}
use Rattle.units.specs.Versions.{of_key, versions, above_versions}
use Rattle.units.specs.declared.lock.Lock.{Lock}
use Rattle.units.specs.declared.writes.Install.{Install}
use Rattle.units.specs.declared.writes.Write.{Write}
use Rattle.units.proofs.KeyLaws.{same_key-is, key_before-trans, key_before-irreflexive}
use Rattle.units.proofs.ListLaws.{all-keep}
use Rattle.units.proofs.ByIdLaws.{all-with, found_all}
use Rattle.record.specs.Facts.{Facts, TxnStatus, or_unrecorded, recorded, learn, installs_at}
use Rattle.record.specs.declared.record.Record.{Record}
use Rattle.message.specs.declared.message.Input.{Input}
use Rattle.protocol.specs.Rows.{Row, Phase, Collecting, IsPrepared, IsDecided, Memory, held_stamp, safe}
use Rattle.protocol.specs.Rows.{find_row, with_row, without_row, without_rows, is_firm}
use Rattle.protocol.specs.Sound.{is_open, writes_standing}
use Rattle.protocol.specs.Step.{facts_after}
use Rattle.protocol.specs.Cells.{is_outcome_for}
use Rattle.protocol.specs.Plan.{Plan, Before, Change, Keeps, Ends, Drops, Puts, Retires, after_change, carried}
use Rattle.protocol.proofs.Agreement.{Sound, PromiseOf, promise_of, DecisionOf, decision_of, not_below}
use Rattle.protocol.proofs.AboveVersions.{above_later}
use Rattle.protocol.proofs.KeptFacts.{raised_up}
use Rattle.protocol.proofs.RowChanges.{row_as}
use Rattle.protocol.proofs.RowTable.{with_row-is}
use Rattle.protocol.proofs.Shapes.{Shape, Answers, IsEnd, IsAbort, IsClose, IsSettle, IsLock, IsWait, IsPromise, IsDecision, ShapeOf, Acts, IsAdvance, IsForget, IsRetire}
use Rattle.protocol.specs.Showable.{rises_by_key, added}
use Rattle.protocol.proofs.Rising.{rise_one, rise_none}

-- ---- the served time by its bounds

-- what holds the served time is above a number
abbrev pub Over : ℕ → Option ℕ → Type 0
Over n None = Unit {0}
Over n (Some s) = n ≤ s - 1

abbrev pub AllOver : ℕ → List Row → Type 0
AllOver n rows = AllByRecursion (λ r. Over n (held_stamp r.phase)) rows

under_least : (n last : ℕ) (rows : List Row) → n ≤ last → AllOver n rows → n ≤ least_with last (map (λ s. s - 1) (gather (λ r. held_stamp r.phase) rows))
under_least n last [] low all = low
under_least n last (r ∷ rows) low all = by_phase (held_stamp r.phase) all.0 (under_least n last rows low all.1)
  where
    by_phase : (o : Option ℕ) → Over n o → n ≤ least_with last (map (λ s. s - 1) (gather (λ q. held_stamp q.phase) rows))
        → n ≤ least_with last (map (λ s. s - 1) (elim o [ None ↦ gather (λ q. held_stamp q.phase) rows | Some y ↦ y ∷ gather (λ q. held_stamp q.phase) rows ]))
    by_phase None over rest = rest
    by_phase (Some s) over rest = (let a : n ≤ s - 1 = over in omega (arith, a, rest))

least_under : (last : ℕ) (xs : List ℕ) → least_with last xs ≤ last
least_under last [] = omega arith
least_under last (x ∷ xs) = omega (arith, least_under last xs)

pub over_less : (n m : ℕ) (o : Option ℕ) → n ≤ m → Over m o → Over n o
over_less n m None low over = tt
over_less n m (Some s) low over = (let a : m ≤ s - 1 = over in omega (arith, low, a))

abbrev holds_of : List Row → List ℕ
holds_of rows = map (λ s. s - 1) (gather (λ r. held_stamp r.phase) rows)

-- one more that holds it, where there is one
abbrev with_hold : Option ℕ → List Row → List ℕ
with_hold o rows = map (λ s. s - 1) (elim o [ None ↦ gather (λ q. held_stamp q.phase) rows | Some y ↦ y ∷ gather (λ q. held_stamp q.phase) rows ])

over_first : (n last : ℕ) (rows : List Row) (o : Option ℕ) → n ≤ least_with last (with_hold o rows) → Over n o
over_first n last rows None h = tt
over_first n last rows (Some s) h = omega (arith, h)

over_rest : (n last : ℕ) (rows : List Row) (o : Option ℕ) → n ≤ least_with last (with_hold o rows) → n ≤ least_with last (holds_of rows)
over_rest n last rows None h = h
over_rest n last rows (Some s) h = omega (arith, h)

all_over : (n last : ℕ) (rows : List Row) → n ≤ least_with last (holds_of rows) → AllOver n rows
all_over n last [] low = tt
all_over n last (r ∷ rows) low = (over_first n last rows (held_stamp r.phase) low, all_over n last rows (over_rest n last rows (held_stamp r.phase) low))

pub safe_last : (m : Memory) → safe m ≤ m.last
unfolding safe
safe_last m = least_under m.last _

pub safe_over : (m : Memory) → AllOver (safe m) m.rows
unfolding safe
safe_over m = all_over (safe m) m.last m.rows (omega arith)

pub under_safe : (n : ℕ) (m : Memory) → n ≤ m.last → AllOver n m.rows → n ≤ safe m
unfolding safe
under_safe n m low all = under_least n m.last m.rows low all

-- ---- the rows after a plan

over_without : (n : ℕ) (rows : List Row) (t : Id) → AllOver n rows → AllOver n (without_row rows t)
over_without n rows t all = all-keep (λ (r : Row). Over n (held_stamp r.phase)) (λ r. not (same_id r.txn t)) rows all

over_without_rows : (n : ℕ) (rows : List Row) (ts : List Id) → AllOver n rows → AllOver n (without_rows rows ts)
over_without_rows n rows [] all = all
over_without_rows n rows (t ∷ ts) all = over_without_rows n (without_row rows t) ts (over_without n rows t all)

over_with : (n : ℕ) (rows : List Row) (r : Row) → Over n (held_stamp r.phase) → AllOver n rows → AllOver n (with_row rows r)
over_with n rows r one all = subst (AllOver n) (sym (with_row-is rows r)) (all-with (λ (q : Row). Over n (held_stamp q.phase)) (λ q. q.txn) rows r one all)

-- what a change puts in is over it
abbrev Puts_over : ℕ → Change → Type 0
Puts_over n (Puts t needs phase) = Over n (held_stamp phase)
Puts_over n _ = Unit {0}

over_changed : (n : ℕ) (rows : List Row) (c : Change) → Puts_over n c → AllOver n rows → AllOver n (after_change c rows)
unfolding after_change
over_changed n rows Keeps one all = all
over_changed n rows (Ends t) one all = over_without n rows t all
over_changed n rows (Drops t) one all = over_without n rows t all
over_changed n rows (Retires below) one all = all
over_changed n rows (Puts t needs phase) one all = over_with n rows _ one all

-- the served time does not fall
abbrev pub Rises : Before → Plan → Type 0
Rises b p = safe b.memory ≤ safe (carried p b.memory)

rises_by : (b : Before) (p : Plan) → b.memory.last ≤ p.last → Puts_over (safe b.memory) p.change → Rises b p
unfolding carried
rises_by b p up one =
    under_safe (safe b.memory) _ (omega (arith, up, safe_last b.memory))
    (over_changed (safe b.memory) _ p.change one (over_without_rows (safe b.memory) b.memory.rows p.wounded (safe_over b.memory)))

open_over : (n : ℕ) (phase : Phase) → is_open phase ≡ true → Over n (held_stamp phase)
open_over n (IsPrepared c p) h = absurd (true≢false (sym h))
open_over n (IsDecided s ps) h = absurd (true≢false (sym h))
open_over n _ h = tt

slack_over : (n : ℕ) (phase : Phase) → is_firm phase ≡ false → Over n (held_stamp phase)
slack_over n (IsPrepared c p) h = absurd (true≢false h)
slack_over n (IsDecided s ps) h = absurd (true≢false h)
slack_over n (Collecting l ps rs ws votes) h = absurd (true≢false h)
slack_over n _ h = tt

pub rises : (b : Before) (p : Plan) → Shape b p → Rises b p
rises b p (Answers out e) = subst (Rises b) (sym e) (rises_by b _ (omega arith) tt)
rises b p (IsEnd t out s e) = subst (Rises b) (sym e) (rises_by b _ (omega arith) tt)
rises b p (IsAbort t out s e) = subst (Rises b) (sym e) (rises_by b _ (omega arith) tt)
rises b p (IsClose t n c at held outcome out found k e) = subst (Rises b) (sym e) (rises_by b _ (raised_up b.memory.last outcome) tt)
rises b p (IsSettle t at ps held out found e) = subst (Rises b) (sym e) (rises_by b _ (omega arith) tt)
rises b p (IsLock t ended needs phase out l e) = subst (Rises b) (sym e) (rises_by b _ (omega arith) (open_over (safe b.memory) phase l.opened))
rises b p (IsWait t needs phase out w e) = subst (Rises b) (sym e) (rises_by b _ (omega arith) (slack_over (safe b.memory) phase w.slack))
rises b p (IsPromise t ended c at rs ws out l e) = subst (Rises b) (sym e) (rises_by b _ (omega arith) (omega (arith, l.above, safe_last b.memory)))
rises b p (IsDecision t ended needs at ps rs ws out l e) = subst (Rises b) (sym e) (rises_by b _ (omega arith) (omega (arith, l.above, safe_last b.memory)))

pub rises_of : (b : Before) (i : Input) (p : Plan) → ShapeOf b i p → Rises b p
rises_of b i p (Acts shape) = rises b p shape
rises_of b i p (IsAdvance stride at k e) = subst (Rises b) (sym e) (rises_by b _ (omega arith) tt)
rises_of b i p (IsForget at k low high e) = subst (Rises b) (sym e) (rises_by b _ (omega arith) tt)
rises_of b i p (IsRetire below k none up e) = subst (Rises b) (sym e) (rises_by b _ (omega arith) tt)

-- ---- the horizon stays at or below it

Below : Before → Plan → Type 0
Below b p = (facts_after b.facts p.logged).horizon ≤ safe b.memory

below : (b : Before) (p : Plan) → Sound b → Shape b p → Below b p
unfolding Below learn
below b p sound (Answers out e) = subst (Below b) (sym e) sound.horizon
below b p sound (IsEnd t out s e) = subst (Below b) (sym e) sound.horizon
below b p sound (IsAbort t out s e) = subst (Below b) (sym e) sound.horizon
below b p sound (IsClose t n c at held outcome out found k e) = subst (Below b) (sym e) sound.horizon
below b p sound (IsSettle t at ps held out found e) = subst (Below b) (sym e) sound.horizon
below b p sound (IsLock t ended needs phase out l e) = subst (Below b) (sym e) sound.horizon
below b p sound (IsWait t needs phase out w e) = subst (Below b) (sym e) sound.horizon
below b p sound (IsPromise t ended c at rs ws out l e) = subst (Below b) (sym e) sound.horizon
below b p sound (IsDecision t ended needs at ps rs ws out l e) = subst (Below b) (sym e) sound.horizon

below_ceiling : (b : Before) (high : Bool) (n : ℕ) → Sound b → (facts_after b.facts (cond high (Some (Record.Ceiling n)) None)).horizon ≤ safe b.memory
unfolding learn
below_ceiling b true n sound = sound.horizon
below_ceiling b false n sound = sound.horizon

below_horizon : (b : Before) (at : ℕ) → Sound b → at ≤ safe b.memory → (learn b.facts (Record.Horizon at)).horizon ≤ safe b.memory
unfolding learn
below_horizon b at sound low = omega (arith, low, sound.horizon)

below_retired : (b : Before) (below : Id) → Sound b → (learn b.facts (Record.Retired below)).horizon ≤ safe b.memory
unfolding learn
below_retired b below sound = sound.horizon

below_of : (b : Before) (i : Input) (p : Plan) → Sound b → ShapeOf b i p → Below b p
unfolding Below
below_of b i p sound (Acts shape) = below b p sound shape
below_of b i p sound (IsAdvance stride at k e) = subst (Below b) (sym e) (below_ceiling b (nat_lt b.facts.floor at) _ sound)
below_of b i p sound (IsForget at k low high e) = subst (Below b) (sym e) (below_horizon b at sound low)
below_of b i p sound (IsRetire below k none up e) = subst (Below b) (sym e) (below_retired b below sound)

-- after a step it is below what is served then
pub kept_horizon_of : (b : Before) (i : Input) (p : Plan) → Sound b → ShapeOf b i p → (facts_after b.facts p.logged).horizon ≤ safe (carried p b.memory)
unfolding Below
kept_horizon_of b i p sound shape =
    let before : (facts_after b.facts p.logged).horizon ≤ safe b.memory = below_of b i p sound shape in
    let up : safe b.memory ≤ safe (carried p b.memory) = rises_of b i p shape in
    omega (arith, before, up)

-- ---- what is installed

-- a key that is before another is not that one
differs : (a b : List ℕ) → key_before a b ≡ true → same_key a b ≡ false
differs a b h = by_test (same_key a b) refl
  where
    by_test : (c : Bool) → same_key a b ≡ c → c ≡ false
    by_test true k = absurd (true≢false (sym h ∙ (ap (λ z. key_before z b) (same_key-is a b k) ∙ key_before-irreflexive b)))
    by_test false k = refl

rest_ascends : (w : Write) (ws : List Write) → ascends write_before (w ∷ ws) ≡ true → ascends write_before ws ≡ true
rest_ascends w [] h = refl
rest_ascends w (v ∷ ws) h = (and_parts _ _ h).1

skipped : (w v : Write) (ws : List Write) → ascends write_before (w ∷ v ∷ ws) ≡ true → ascends write_before (w ∷ ws) ≡ true
skipped w v [] h = refl
skipped w v (u ∷ ws) h = and_from _ _ (key_before-trans w.key v.key u.key ((and_parts _ _ h).0) ((and_parts _ _ ((and_parts _ _ h).1)).0))
    ((and_parts _ _ ((and_parts _ _ h).1)).1)

-- a version of an earlier key leaves what the later keys take
still_above : (w : Write) (at : ℕ) (acc : List Install) (ws : List Write) → ascends write_before (w ∷ ws) ≡ true → above_versions acc at ws ≡ true
    → above_versions (record { key = w.key; at = at; value = w.value } ∷ acc) at ws ≡ true
still_above w at acc [] up above = refl
still_above w at acc (v ∷ ws) up above =
    and_from _ _ (ap (λ c. list_all (λ i. nat_lt i.at at)
    (cond c (record { key = w.key; at = at; value = w.value } ∷ of_key acc v.key) (of_key acc v.key)))
    (differs w.key v.key ((and_parts _ _ up).0)) ∙ (and_parts _ _ above).0)
    (still_above w at acc ws (skipped w v ws up) ((and_parts _ _ above).1))

-- the writes of a transaction follow as versions
pub versions_follow : (acc : List Install) (at : ℕ) (ws : List Write) → ascends write_before ws ≡ true → above_versions acc at ws ≡ true
    → rises_by_key acc (versions ws at) ≡ true
versions_follow acc at [] up above = rise_none acc
versions_follow acc at (w ∷ ws) up above =
    rise_one acc (record { key = w.key; at = at; value = w.value }) (versions ws at) ((and_parts _ _ above).0)
    (versions_follow (record { key = w.key; at = at; value = w.value } ∷ acc) at ws (rest_ascends w ws up)
    (still_above w at acc ws up ((and_parts _ _ above).1)))

versions_later : (served at : ℕ) (ws : List Write) → served < at → list_all (λ i. nat_lt served i.at) (versions ws at) ≡ true
versions_later served at [] later = refl
versions_later served at (w ∷ ws) later = and_from _ _ (grind (arith, nat_tests, later)) (versions_later served at ws later)

-- what a plan installs is above the served time, and follows the versions that there are
abbrev pub Adds : Before → Option Record → Type 0
Adds b logged = (list_all (λ i. nat_lt (safe b.memory) i.at) (added b.facts logged) ≡ true) ×
    (rises_by_key b.facts.installs (added b.facts logged) ≡ true)

adds_versions : (b : Before) (at : ℕ) (ws : List Write) → safe b.memory < at → ascends write_before ws ≡ true → above_versions b.facts.installs at ws ≡ true
    → (list_all (λ i. nat_lt (safe b.memory) i.at) (versions ws at) ≡ true) × (rises_by_key b.facts.installs (versions ws at) ≡ true)
adds_versions b at ws later up above = (versions_later (safe b.memory) at ws later, versions_follow b.facts.installs at ws up above)

adds_none : (b : Before) → (list_all (λ (i : Install). nat_lt (safe b.memory) i.at) [] ≡ true) × (rises_by_key b.facts.installs [] ≡ true)
adds_none b = (refl, rise_none b.facts.installs)

-- the writes of what stands ascend
abbrev pub Ascend : Before → Type 0
Ascend b = (t : Id) → ascends write_before (writes_standing (recorded b.facts t)) ≡ true

held_back : (b : Before) (t : Id) (held : List Lock) (phase : Phase) (at : ℕ) → find_row b.memory.rows t ≡ Some (row_as t held phase)
    → held_stamp phase ≡ Some at → safe b.memory ≤ at - 1
held_back b t held phase at found stamp =
    subst (Over (safe b.memory)) stamp (found_all (λ (r : Row). Over (safe b.memory) (held_stamp r.phase)) (λ r. r.txn) b.memory.rows t
    (row_as t held phase) (safe_over b.memory) found)

adds_close : (b : Before) (t : Id) (n c at : ℕ) (held : List Lock) (outcome : Option ℕ) → Sound b → Ascend b
    → find_row b.memory.rows t ≡ Some (row_as t held (IsPrepared c at)) → is_outcome_for n c at outcome ≡ true → Adds b (Some (Record.Outcome t outcome))
adds_close b t n c at held None sound up found k =
    let made : PromiseOf b t held c at = promise_of b t held c at sound found in
    subst (λ (is : List Install). (list_all (λ i. nat_lt (safe b.memory) i.at) is ≡ true) × (rises_by_key b.facts.installs is ≡ true))
    (ap (λ st. installs_at st None) (sym made.is)) (adds_none b)
adds_close b t n c at held (Some s) sound up found k =
    let made : PromiseOf b t held c at = promise_of b t held c at sound found in
    let h : at ≤ s = not_below n c at s k in
    let e : made.promise.at ≡ at = made.stamp in
    let later : safe b.memory < s = omega (arith, held_back b t held (IsPrepared c at) at found refl, made.stands_by.above_zero, e, h) in
    subst (λ (is : List Install). (list_all (λ i. nat_lt (safe b.memory) i.at) is ≡ true) × (rises_by_key b.facts.installs is ≡ true))
    (ap (λ st. installs_at st (Some s)) (sym made.is))
    (adds_versions b s made.promise.writes later (ap (λ st. ascends write_before (writes_standing st)) (sym made.is) ∙ up t)
    (above_later b.facts.installs made.promise.at s made.promise.writes (omega (arith, h, e)) made.stands_by.above))

adds_settle : (b : Before) (t : Id) (at : ℕ) (ps : List ℕ) (held : List Lock) → Sound b → Ascend b → find_row b.memory.rows t ≡ Some
    (row_as t held (IsDecided at ps))
    → Adds b (Some (Record.Outcome t (Some at)))
adds_settle b t at ps held sound up found =
    let made : DecisionOf b t held at ps = decision_of b t held at ps sound found in
    let e : made.decision.at ≡ at = made.stamp in
    let later : safe b.memory < at = omega (arith, held_back b t held (IsDecided at ps) at found refl, made.stands_by.above_zero, e) in
    subst (λ (is : List Install). (list_all (λ i. nat_lt (safe b.memory) i.at) is ≡ true) × (rises_by_key b.facts.installs is ≡ true))
    (ap (λ st. installs_at st (Some at)) (sym made.is))
    (adds_versions b at made.decision.writes later (ap (λ st. ascends write_before (writes_standing st)) (sym made.is) ∙ up t)
    (above_later b.facts.installs made.decision.at at made.decision.writes (omega (arith, e)) made.stands_by.above))

unfoldable pub AddsBy : Before → Plan → Type 0
AddsBy b p = Adds b p.logged

pub adds : (b : Before) (p : Plan) → Sound b → Ascend b → Shape b p → AddsBy b p
unfolding AddsBy
adds b p sound up (Answers out e) = subst (AddsBy b) (sym e) (adds_none b)
adds b p sound up (IsEnd t out s e) = subst (AddsBy b) (sym e) (adds_none b)
adds b p sound up (IsAbort t out s e) = subst (AddsBy b) (sym e) (adds_none b)
adds b p sound up (IsClose t n c at held outcome out found k e) = subst (AddsBy b) (sym e) (adds_close b t n c at held outcome sound up found k)
adds b p sound up (IsSettle t at ps held out found e) = subst (AddsBy b) (sym e) (adds_settle b t at ps held sound up found)
adds b p sound up (IsLock t ended needs phase out l e) = subst (AddsBy b) (sym e) (adds_none b)
adds b p sound up (IsWait t needs phase out w e) = subst (AddsBy b) (sym e) (adds_none b)
adds b p sound up (IsPromise t ended c at rs ws out l e) = subst (AddsBy b) (sym e) (adds_none b)
adds b p sound up (IsDecision t ended needs at ps rs ws out l e) = subst (AddsBy b) (sym e) (adds_none b)

adds_ceiling : (b : Before) (high : Bool) (r : Record) → added b.facts (Some r) ≡ [] → Adds b (cond high (Some r) None)
adds_ceiling b true r e = subst (λ (is : List Install). (list_all (λ i. nat_lt (safe b.memory) i.at) is ≡ true) ×
    (rises_by_key b.facts.installs is ≡ true)) (sym e) (adds_none b)
adds_ceiling b false r e = adds_none b

pub adds_of : (b : Before) (i : Input) (p : Plan) → Sound b → Ascend b → ShapeOf b i p → AddsBy b p
unfolding AddsBy
adds_of b i p sound up (Acts shape) = adds b p sound up shape
adds_of b i p sound up (IsAdvance stride at k e) = subst (AddsBy b) (sym e) (adds_ceiling b (nat_lt b.facts.floor at) _ refl)
adds_of b i p sound up (IsForget at k low high e) = subst (AddsBy b) (sym e) (adds_none b)
adds_of b i p sound up (IsRetire below k none rising e) = subst (AddsBy b) (sym e) (adds_none b)

-- ---- the versions stay, and new ones come behind them

pub grows : (facts : Facts) (logged : Option Record) → (facts_after facts logged).installs ≡ facts.installs ++ added facts logged
unfolding learn
grows facts (Some (Record.Outcome t outcome)) = refl
grows facts (Some (Record.Version install)) = refl
grows facts _ = sym (append-nil facts.installs)

-- what holds of list_all status holds of that of an id
abbrev ascends_in : TxnStatus → Bool
ascends_in e = ascends write_before (writes_standing e.status)

ascend_by : (es : List TxnStatus) (e : TxnStatus) (c : Bool) → ascends_in e ≡ true → ascends write_before (writes_standing (or_unrecorded (head es))) ≡ true
    → ascends write_before (writes_standing (or_unrecorded (head (cond c (e ∷ es) es)))) ≡ true
ascend_by es e true one rest = one
ascend_by es e false one rest = rest

pub ascend_in : (es : List TxnStatus) (t : Id) → list_all ascends_in es ≡ true → ascends write_before
    (writes_standing (or_unrecorded (first (λ e. same_id e.txn t) es))) ≡ true
ascend_in [] t h = refl
ascend_in (e ∷ es) t h = ascend_by (filter (λ d. same_id d.txn t) es) e (same_id e.txn t) ((and_parts _ _ h).0) (ascend_in es t ((and_parts _ _ h).1))

pub ascend_of : (b : Before) → list_all (λ e. ascends write_before (writes_standing e.status)) b.facts.entries ≡ true → Ascend b
ascend_of b all t = ascend_in b.facts.entries t all
