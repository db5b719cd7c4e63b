-- What a step keeps of the facts and of the greatest timestamp: the epoch, the order of the entries and of the ended ids, the
-- floor above what was served, and no version above it.
use Rattle.std.specs.List.{list_all}
use Rattle.std.proofs.Common.{filter, ◌≡◌, ℕ, ◌+◌, ◌-◌, ◌^◌, ◌<◌, ◌≤◌, max, min, Bool, true, false, cond, ◌&&◌, nat_lt, nat_le, List, [], ◌∷◌, ◌++◌, Option}
use Rattle.std.proofs.Common.{Some, None, not, refl, sym, ap, subst, ◌∙◌, arith, ltb-false}
use Rattle.std.proofs.Math.Nat.{le-max_left}
use Rattle.std.proofs.lemmas.Bool.{le-leb}
use Rattle.std.specs.Prelude.{IsTrue}
use Rattle.std.proofs.lemmas.Bool.Decides.{nat_tests}
use Rattle.units.specs.Lists.{ascends}
use Rattle.units.specs.Ids.{Id, older}
use Rattle.units.specs.ById.{IsById}
use Rattle.units.proofs.ByIdLaws.{by_id-keep}
use Rattle.units.specs.Versions.{versions}
use Rattle.units.specs.declared.writes.Install.{Install}
use Rattle.units.specs.declared.writes.Write.{Write}
use Rattle.record.specs.Facts.{TxnStatus, Facts, learn, installs_at, recorded}
use Rattle.record.specs.declared.record.Record.{Record}
use Rattle.message.specs.declared.message.Input.{Input}
use Rattle.protocol.specs.Rows.{Memory}
use Rattle.protocol.specs.Plan.{time_limit, Plan, Before, carried, ended_by, in_way}
use Rattle.protocol.specs.Cells.{raised}
use Rattle.protocol.specs.Step.{facts_after, IsInLimit}
use Rattle.protocol.proofs.AboveVersions.{each_append, each_gives}
use Rattle.protocol.proofs.Agreement.{Sound, decision_of, DecisionOf}
use Rattle.protocol.proofs.StatusChanges.{ascends-keep, Closing, closing, settling, installs_by, by_id-status, ascends-with_id, ascends-with_ids}
use Rattle.protocol.proofs.Shapes.{Shape, Answers, IsEnd, IsAbort, IsClose, IsSettle, IsLock, IsWait, IsPromise, IsDecision, ShapeOf, Acts, IsAdvance, IsForget, IsRetire}

under_ceiling : (last floor at stride : ℕ) → last ≤ floor → at ≤ 2 ^ 62 - 1 → max last at ≤ max floor (min (at + stride) (2 ^ 62 - 1))
under_ceiling last floor at stride h fits = omega (arith, h, fits)

-- no version is above a timestamp
abbrev Covered : ℕ → List Install → Type 0
Covered last installs = IsTrue (list_all (λ i. nat_le i.at last) installs)

-- what is kept by the facts and the memory that a plan leaves
pub record KeptFacts (facts : Facts) (memory : Memory) : Type 0 where
  pub opened : 0 < facts.epoch
  pub entries : IsById (λ e. e.txn) facts.entries
  pub ended : IsTrue (ascends older memory.ended)
  pub under : memory.last ≤ facts.floor
  pub installed : Covered memory.last facts.installs

unfoldable pub KeepsFacts : Before → Plan → Type 0
KeepsFacts b p = KeptFacts (facts_after b.facts p.logged) (carried p b.memory)

-- ---- versions

not_above : (n last later : ℕ) → last ≤ later → nat_le n last ≡ true → nat_le n later ≡ true
not_above n last later h e = grind (arith, nat_tests)

pub covered_later : (last later : ℕ) (installs : List Install) → last ≤ later → Covered last installs → Covered later installs
covered_later last later installs h e =
    each_gives (λ (i : Install). nat_le i.at last) (λ (i : Install). nat_le i.at later) (λ i k. not_above i.at last later h k) installs e

pub covered_versions : (ws : List Write) (s last : ℕ) → s ≤ last → Covered last (versions ws s)
covered_versions [] s last h = refl
covered_versions (w ∷ ws) s last h = ap (λ b. b && list_all (λ (i : Install). nat_le i.at last) (versions ws s)) (le-leb s last h)
    ∙ covered_versions ws s last h

-- the versions after an outcome
covered_after : (b : Before) (t : Id) (outcome : Option ℕ) (last : ℕ) → Closing b t outcome → b.memory.last ≤ last → ((s : ℕ) → outcome ≡ Some s → s ≤ last)
    → Covered b.memory.last b.facts.installs → Covered last (b.facts.installs ++ installs_at (recorded b.facts t) outcome)
covered_after b t outcome last made h stamp e =
    each_append (λ (i : Install). nat_le i.at last) b.facts.installs _ (covered_later b.memory.last last b.facts.installs h e)
    (subst (Covered last) (sym made.installs) (by_outcome outcome stamp))
  where
    by_outcome : (o : Option ℕ) → ((s : ℕ) → o ≡ Some s → s ≤ last) → Covered last (installs_by made.writes o)
    by_outcome None stamp = refl
    by_outcome (Some s) stamp = covered_versions made.writes s last (stamp s refl)

-- ---- the timestamps

pub raised_up : (last : ℕ) (outcome : Option ℕ) → last ≤ raised last outcome
raised_up last None = omega arith
raised_up last (Some s) = omega arith

raised_stamp : (last : ℕ) (outcome : Option ℕ) (s : ℕ) → outcome ≡ Some s → s ≤ raised last outcome
raised_stamp last None s e = cc
raised_stamp last (Some n) s e = let same : n ≡ s = cc in omega (arith, same)

both_up : (last floor at : ℕ) → last ≤ floor → max last at ≤ max floor at
both_up last floor at h = omega (arith, h)

floor_up : (last floor at : ℕ) → last ≤ floor → last ≤ max floor at
floor_up last floor at h = omega (arith, h)

-- ---- by shape

kept_close : (b : Before) (t : Id) (outcome : Option ℕ) → Sound b → Closing b t outcome
    → KeptFacts (learn b.facts (Record.Outcome t outcome)) (record { last = raised b.memory.last outcome; rows = []; ended = b.memory.ended })
unfolding learn
kept_close b t outcome sound made = record {
  opened = sound.opened;
  entries = by_id-status b.facts.entries t _ sound.entries;
  ended = sound.ended;
  under = by_outcome outcome;
  installed = covered_after b t outcome _ made (raised_up b.memory.last outcome) (raised_stamp b.memory.last outcome) sound.installed;
}
  where
    by_outcome : (o : Option ℕ) → raised b.memory.last o ≤ (learn b.facts (Record.Outcome t o)).floor
    by_outcome None = sound.under
    by_outcome (Some s) = both_up b.memory.last b.facts.floor s sound.under

stamp_is : (at last n : ℕ) → n ≡ at → n ≤ last → (s : ℕ) → Some at ≡ Some s → s ≤ last
stamp_is at last n e h s k = let same : at ≡ s = cc in omega (arith, same, e, h)

kept_settle : (b : Before) (t : Id) (at : ℕ) → Sound b → Closing b t (Some at) → at ≤ b.memory.last
    → KeptFacts (learn b.facts (Record.Outcome t (Some at))) (record { last = b.memory.last; rows = []; ended = b.memory.ended })
unfolding learn
kept_settle b t at sound made low = record {
  opened = sound.opened;
  entries = by_id-status b.facts.entries t _ sound.entries;
  ended = sound.ended;
  under = floor_up b.memory.last b.facts.floor at sound.under;
  installed = covered_after b t (Some at) _ made (omega arith) (stamp_is at b.memory.last at refl low) sound.installed;
}

-- the facts stay, and some ids are ended
kept_same : (b : Before) (ended : List Id) → Sound b → IsTrue (ascends older ended)
    → KeptFacts b.facts (record { last = b.memory.last; rows = []; ended = ended })
kept_same b ended sound up = record { opened = sound.opened; entries = sound.entries; ended = up; under = sound.under; installed = sound.installed }

-- other rows change nothing of it
other_rows : (facts : Facts) (m n : Memory) → m.last ≡ n.last → m.ended ≡ n.ended → KeptFacts facts m → KeptFacts facts n
other_rows facts m n e f k = record {
  opened = k.opened;
  entries = k.entries;
  ended = subst (λ us. IsTrue (ascends older us)) f k.ended;
  under = subst (λ at. at ≤ facts.floor) e k.under;
  installed = subst (λ at. Covered at facts.installs) e k.installed;
}

kept_abort : (b : Before) (t : Id) → Sound b → KeptFacts (learn b.facts (Record.Abort t)) (record { last = b.memory.last; rows = []; ended = b.memory.ended })
unfolding learn
kept_abort b t sound = record {
  opened = sound.opened;
  entries = by_id-status b.facts.entries t _ sound.entries;
  ended = sound.ended;
  under = sound.under;
  installed = sound.installed;
}

pub kept_facts : (b : Before) (p : Plan) → Sound b → Shape b p → KeepsFacts b p
unfolding KeepsFacts carried ended_by learn
kept_facts b p sound (Answers out e) = subst (KeepsFacts b) (sym e) (other_rows _ _ _ refl refl (kept_same b b.memory.ended sound sound.ended))
kept_facts b p sound (IsEnd t out s e) =
    subst (KeepsFacts b) (sym e) (other_rows _ _ _ refl refl (kept_same b _ sound (ascends-with_id b.memory.ended t sound.ended)))
kept_facts b p sound (IsAbort t out s e) = subst (KeepsFacts b) (sym e) (other_rows _ _ _ refl refl (kept_abort b t sound))
kept_facts b p sound (IsClose t n c at held outcome out found k e) =
    subst (KeepsFacts b) (sym e) (other_rows _ _ _ refl refl (kept_close b t outcome sound (closing b t c at held outcome sound found)))
kept_facts b p sound (IsSettle t at ps held out found e) =
    let made : DecisionOf b t held at ps = decision_of b t held at ps sound found in
    let low : at ≤ b.memory.last = omega (arith, made.stands_by.assigned, made.stamp) in
    subst (KeepsFacts b) (sym e) (other_rows _ _ _ refl refl (kept_settle b t at sound (settling b t at ps held sound found) low))
kept_facts b p sound (IsLock t ended needs phase out l e) =
    subst (KeepsFacts b) (sym e) (other_rows _ _ _ refl refl (kept_same b _ sound (ascends-with_ids b.memory.ended ended sound.ended)))
kept_facts b p sound (IsWait t needs phase out w e) =
    subst (KeepsFacts b) (sym e) (other_rows _ _ _ refl refl (kept_same b _ sound (ascends-with_ids b.memory.ended (in_way b t needs) sound.ended)))
kept_facts b p sound (IsPromise t ended c at rs ws out l e) = subst (KeepsFacts b) (sym e) (record {
  opened = sound.opened;
  entries = by_id-status b.facts.entries t _ sound.entries;
  ended = ascends-with_ids b.memory.ended ended sound.ended;
  under = both_up b.memory.last b.facts.floor at sound.under;
  installed = covered_later b.memory.last _ b.facts.installs (le-max_left b.memory.last at) sound.installed;
})
kept_facts b p sound (IsDecision t ended needs at ps rs ws out l e) = subst (KeepsFacts b) (sym e) (record {
  opened = sound.opened;
  entries = by_id-status b.facts.entries t _ sound.entries;
  ended = ascends-with_ids b.memory.ended ended sound.ended;
  under = both_up b.memory.last b.facts.floor at sound.under;
  installed = covered_later b.memory.last _ b.facts.installs (le-max_left b.memory.last at) sound.installed;
})

-- ---- an advance

kept_ceiling : (b : Before) (stride at : ℕ) (rest : Memory) (high : Bool) → Sound b → at ≤ 2 ^ 62 - 1 → nat_lt b.facts.floor at ≡ high
    → rest.last ≡ max b.memory.last at → rest.ended ≡ b.memory.ended
    → KeptFacts (facts_after b.facts (cond high (Some (Record.Ceiling (min (at + stride) time_limit))) None)) rest
unfolding learn
kept_ceiling b stride at rest true sound fits e same others =
    other_rows _ (record { last = max b.memory.last at; rows = []; ended = b.memory.ended }) rest (sym same) (sym others) (record {
      opened = sound.opened;
      entries = sound.entries;
      ended = sound.ended;
      under = under_ceiling b.memory.last b.facts.floor at stride sound.under fits;
      installed = covered_later b.memory.last _ b.facts.installs (le-max_left b.memory.last at) sound.installed;
    })
kept_ceiling b stride at rest false sound fits e same others =
    let below : at ≤ b.facts.floor = ltb-false b.facts.floor at e in
    let under : b.memory.last ≤ b.facts.floor = sound.under in
    other_rows _ (record { last = max b.memory.last at; rows = []; ended = b.memory.ended }) rest (sym same) (sym others) (record {
      opened = sound.opened;
      entries = sound.entries;
      ended = sound.ended;
      under = omega (arith, below, under);
      installed = covered_later b.memory.last _ b.facts.installs (le-max_left b.memory.last at) sound.installed;
    })

-- ---- a horizon

kept_horizon : (b : Before) (at : ℕ) (rest : Memory) → Sound b → rest.last ≡ b.memory.last → rest.ended ≡ b.memory.ended
    → KeptFacts (learn b.facts (Record.Horizon at)) rest
unfolding learn
kept_horizon b at rest sound same others =
    other_rows _ (record { last = b.memory.last; rows = []; ended = b.memory.ended }) rest (sym same) (sym others) (record {
      opened = sound.opened;
      entries = sound.entries;
      ended = sound.ended;
      under = sound.under;
      installed = sound.installed;
    })

-- ---- a retirement

kept_retired : (b : Before) (below : Id) (rest : Memory) → Sound b → rest.last ≡ b.memory.last
    → rest.ended ≡ filter (λ t. not (older t below)) b.memory.ended
    → KeptFacts (learn b.facts (Record.Retired below)) rest
unfolding learn
kept_retired b below rest sound same others =
    let left = filter (λ t. not (older t below)) b.memory.ended in
    other_rows _ (record { last = b.memory.last; rows = []; ended = left }) rest (sym same) (sym others) (record {
      opened = sound.opened;
      entries = by_id-keep (λ (e : TxnStatus). e.txn) (λ e. not (older e.txn below)) b.facts.entries sound.entries;
      ended = ascends-keep (λ t. not (older t below)) b.memory.ended sound.ended;
      under = sound.under;
      installed = sound.installed;
    })

pub kept_facts_of : (b : Before) (i : Input) (p : Plan) → IsInLimit i → Sound b → ShapeOf b i p → KeepsFacts b p
unfolding KeepsFacts carried ended_by
kept_facts_of b i p fits sound (Acts shape) = kept_facts b p sound shape
kept_facts_of b i p fits sound (IsAdvance stride at k e) =
    subst (KeepsFacts b) (sym e) (kept_ceiling b stride at _ (nat_lt b.facts.floor at) sound (subst IsInLimit k fits) refl refl refl)
kept_facts_of b i p fits sound (IsForget at k low high e) = subst (KeepsFacts b) (sym e) (kept_horizon b at _ sound refl refl)
kept_facts_of b i p fits sound (IsRetire below k none up e) = subst (KeepsFacts b) (sym e) (kept_retired b below _ sound refl refl)
