-- The places of the versions, as a record is learnt.
use Rattle.std.proofs.Common.{◌≡◌, ℕ, ◌+◌, ◌≤◌, arith, max, Bool, true, not, ◌||◌, List, [], ◌++◌, Some, None, length, take, refl, sym, ap, subst, ◌∙◌}
use Rattle.std.proofs.lemmas.Bool.{and_from, and_parts, or_right}
use Rattle.std.proofs.lemmas.List.{append-nil, length-append, length-map}
use Rattle.units.specs.Versions.{versions, above_versions, version_before}
use Rattle.units.specs.Keys.{write_before}
use Rattle.units.specs.Lists.{ascends}
use Rattle.units.specs.declared.writes.Install.{Install}
use Rattle.record.specs.Facts.{Facts, facts_of, learn, recorded, installs_at}
use Rattle.record.specs.Installs.{installs_of}
use Rattle.record.specs.Records.{Status, Unrecorded, StandsPrepared, StandsDecided, HasAborted, HasSettled, HasClosed}
use Rattle.record.specs.declared.record.Record.{Record}
use Rattle.record.specs.declared.record.Record.TheVariants.{Opened, Ceiling, Prepare, Commit, Abort, Outcome, Horizon, Base, Version, Settled, Closed, Retired}
use Rattle.versions.specs.Headed.{Headed}
use Rattle.versions.specs.Orders.{Orders, AreBehind}
use Rattle.versions.proofs.Orders.{orders_more, behind_written}
use Rattle.versions.proofs.Same.{same-higher}
use Rattle.versions.specs.Arranged.{arranged}
use Rattle.protocol.specs.Showable.{rises_by_key}
use Rattle.protocol.specs.Sound.{writes_standing}
use Rattle.protocol.proofs.Rising.{installs_rise, rise_none}
use Rattle.protocol.proofs.Serves.{versions_follow}
use Rattle.facts.specs.Stages.{comes_behind, follows_head, follows_next, is_head, past_head, stage_after, stage_of}
use Rattle.facts.specs.Rules.{follows_facts}
use Rattle.facts.specs.declared.stage.Stage.{Stage}
use Rattle.facts.specs.declared.stage.Stage.TheVariants.{Head, Early, Open}
use Rattle.facts.proofs.Heads.{ascends_more, behind_above}
use Rattle.facts.specs.Given.{writes_given}
use Rattle.ledger.specs.Ledger.{CanInstall, head_ascends}

pub no_installs : (facts_of []).installs ≡ []
unfolding facts_of installs_of
no_installs = refl

pub no_horizon : (facts_of []).horizon ≡ 0
unfolding facts_of
no_horizon = refl

-- an outcome at a timestamp installs the writes that stand
installs_standing : (status : Status) (s : ℕ) → installs_at status (Some s) ≡ versions (writes_standing status) s
installs_standing Unrecorded s = refl
installs_standing (StandsPrepared p) s = refl
installs_standing (StandsDecided c) s = refl
installs_standing HasAborted s = refl
installs_standing (HasSettled at parts) s = refl
installs_standing (HasClosed c o) s = refl

installs_none : (status : Status) → installs_at status None ≡ []
installs_none Unrecorded = refl
installs_none (StandsPrepared p) = refl
installs_none (StandsDecided c) = refl
installs_none HasAborted = refl
installs_none (HasSettled at parts) = refl
installs_none (HasClosed c o) = refl

-- what a record installs: writes at a timestamp, above the versions of their keys
pub record Installs (facts : Facts) (item : Record) : Type 0 where
  at : ℕ
  all : (learn facts item).installs ≡ facts.installs ++ versions (writes_given facts item) at
  above : above_versions facts.installs at (writes_given facts item) ≡ true

nothing : (facts : Facts) (item : Record) → (learn facts item).installs ≡ facts.installs → writes_given facts item ≡ [] → Installs facts item
nothing facts item same none = record {
  at = 0;
  all = same ∙ sym (append-nil facts.installs) ∙ ap (λ ws. facts.installs ++ versions ws 0) (sym none);
  above = ap (above_versions facts.installs 0) none;
}

-- a version of a head is above those of its key, since they are in order
listed : (shard : ℕ) (stage : Stage) (facts : Facts) (i : Install) → head_ascends stage facts.installs ≡ true
    → follows_next shard stage facts (Version i) ≡ true → (is_head stage ≡ true) × (ascends version_before facts.installs ≡ true)
    × (comes_behind facts.installs i ≡ true)
unfolding follows_next follows_facts follows_head
listed shard stage facts i rising may =
    let p = and_parts _ _ may in
    let heads : is_head stage ≡ true = (and_parts _ _ p.0).1 in
    (heads, sym (ap (λ b. not b || ascends version_before facts.installs) heads) ∙ rising, p.1)

pub installs : (shard : ℕ) (stage : Stage) (facts : Facts) (item : Record) → head_ascends stage facts.installs ≡ true
    → follows_next shard stage facts item ≡ true → CanInstall facts item → Installs facts item
unfolding learn
installs shard stage facts (Opened e) rising may can = nothing facts (Opened e) refl refl
installs shard stage facts (Ceiling at) rising may can = nothing facts (Ceiling at) refl refl
installs shard stage facts (Retired below) rising may can = nothing facts (Retired below) refl refl
installs shard stage facts (Horizon at) rising may can = nothing facts (Horizon at) refl refl
installs shard stage facts (Prepare p) rising may can = nothing facts (Prepare p) refl refl
installs shard stage facts (Commit c) rising may can = nothing facts (Commit c) refl refl
installs shard stage facts (Abort t) rising may can = nothing facts (Abort t) refl refl
installs shard stage facts (Outcome t None) rising may can =
    nothing facts (Outcome t None) (ap (λ is. facts.installs ++ is) (installs_none (recorded facts t)) ∙ append-nil facts.installs) refl
installs shard stage facts (Outcome t (Some s)) rising may can = record {
  at = s;
  all = ap (λ is. facts.installs ++ is) (installs_standing (recorded facts t) s);
  above = can;
}
installs shard stage facts (Base e f n) rising may can = nothing facts (Base e f n) refl refl
installs shard stage facts (Version i) rising may can =
    let is = listed shard stage facts i rising may in
    record {
      at = i.at;
      all = refl;
      above = and_from _ _ (behind_above facts.installs i is.1 is.2) refl;
    }
installs shard stage facts (Settled t at parts) rising may can = nothing facts (Settled t at parts) refl refl
installs shard stage facts (Closed t coordinator outcome) rising may can = nothing facts (Closed t coordinator outcome) refl refl

-- ---- the order of a head's versions

past_head_rises : (stage : Stage) (b : Bool) → (not (is_head (past_head stage)) || b) ≡ true
past_head_rises Head b = refl
past_head_rises Early b = refl
past_head_rises Open b = refl

pub still_rising : (shard : ℕ) (stage : Stage) (facts : Facts) (item : Record) → head_ascends stage facts.installs ≡ true
    → follows_next shard stage facts item ≡ true → head_ascends (stage_after stage item) (learn facts item).installs ≡ true
unfolding learn
still_rising shard stage facts (Opened e) rising may = refl
still_rising shard stage facts (Ceiling at) rising may = past_head_rises stage _
still_rising shard stage facts (Retired below) rising may = past_head_rises stage _
still_rising shard stage facts (Horizon at) rising may = past_head_rises stage _
still_rising shard stage facts (Prepare p) rising may = past_head_rises stage _
still_rising shard stage facts (Commit c) rising may = past_head_rises stage _
still_rising shard stage facts (Abort t) rising may = past_head_rises stage _
still_rising shard stage facts (Outcome t o) rising may = past_head_rises stage _
still_rising shard stage facts (Base e f n) rising may = rising
still_rising shard stage facts (Version i) rising may =
    let is = listed shard stage facts i rising may in
    or_right (not (is_head stage)) _ (ascends_more facts.installs i is.1 is.2)
still_rising shard stage facts (Settled t at parts) rising may = past_head_rises stage _
still_rising shard stage facts (Closed t coordinator outcome) rising may = past_head_rises stage _

pub none_rising : head_ascends (stage_of []) (facts_of []).installs ≡ true
unfolding stage_of facts_of installs_of
none_rising = refl

pub none_rise : rises_by_key [] (facts_of []).installs ≡ true
unfolding facts_of installs_of
none_rise = rise_none []

-- ---- the horizon

-- what is read from a horizon up is read from a later one up
later_orders : (h n : ℕ) (t : List Install) (known : ℕ) (p : Headed) → h ≤ n → Orders h t known p → Orders n t known p
later_orders h n t known p up o = record {
  within = o.within;
  few = o.few;
  kept = o.kept;
  headed = o.headed;
  same = same-higher h n (arranged t p.places) (take known t) up o.same;
}

-- no record lowers it
horizon_rises : (facts : Facts) (item : Record) → facts.horizon ≤ (learn facts item).horizon
unfolding learn
horizon_rises facts (Opened e) = omega arith
horizon_rises facts (Ceiling at) = omega arith
horizon_rises facts (Retired below) = omega arith
horizon_rises facts (Prepare p) = omega arith
horizon_rises facts (Commit c) = omega arith
horizon_rises facts (Abort t) = omega arith
horizon_rises facts (Outcome t o) = omega arith
horizon_rises facts (Horizon at) = omega arith
horizon_rises facts (Base e f n) = omega arith
horizon_rises facts (Version i) = omega arith
horizon_rises facts (Settled t at parts) = omega arith
horizon_rises facts (Closed t coordinator outcome) = omega arith

pub risen_orders : (facts : Facts) (item : Record) (t : List Install) (known : ℕ) (p : Headed) → Orders facts.horizon t known p
    → Orders (learn facts item).horizon t known p
risen_orders facts item t known p o = later_orders facts.horizon (learn facts item).horizon t known p (horizon_rises facts item) o

-- the places of a list are those of an equal one
pub same_orders : (h : ℕ) (t u : List Install) (p : Headed) → u ≡ t → Orders h t (length t) p → Orders h u (length u) p
same_orders h t u p same o = subst (λ v. Orders h v (length v) p) (sym same) o

-- a horizon that is learnt installs nothing
pub forgotten_installs : (facts : Facts) (at : ℕ) → (learn facts (Horizon at)).installs ≡ facts.installs
unfolding learn
forgotten_installs facts at = refl

pub forgotten_horizon : (facts : Facts) (at : ℕ) → (learn facts (Horizon at)).horizon ≡ max facts.horizon at
unfolding learn
forgotten_horizon facts at = refl

-- what is installed comes behind the versions whose places are known
module _ (facts : Facts) (item : Record) (i : Installs facts item) where
  pub still_orders : (h : ℕ) (p : Headed) → Orders h facts.installs (length facts.installs) p → Orders h (learn facts item).installs (length facts.installs) p
  still_orders h p o =
      subst (λ t. Orders h t (length facts.installs) p) (sym i.all) (orders_more h facts.installs (versions (writes_given facts item) i.at) p o)

  pub are_behind : ascends write_before (writes_given facts item) ≡ true → AreBehind (learn facts item).installs (length facts.installs)
  are_behind up =
      subst (λ t. AreBehind t (length facts.installs)) (sym i.all) (behind_written facts.installs (writes_given facts item) i.at up i.above)

  pub as_many_more : length (learn facts item).installs ≡ length facts.installs + length (writes_given facts item)
  as_many_more =
      ap length i.all ∙ length-append facts.installs (versions (writes_given facts item) i.at)
      ∙ ap (λ n. length facts.installs + n) (length-map (writes_given facts item) (λ w. record { key = w.key; at = i.at; value = w.value }))

  -- and the versions of each key rise
  pub still_rise : rises_by_key [] facts.installs ≡ true → ascends write_before (writes_given facts item) ≡ true
      → rises_by_key [] (learn facts item).installs ≡ true
  still_rise rise up =
      subst (λ t. rises_by_key [] t ≡ true) (sym i.all)
      (installs_rise facts.installs (versions (writes_given facts item) i.at) rise
      (versions_follow facts.installs i.at (writes_given facts item) up i.above))
