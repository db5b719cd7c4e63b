-- What a log answers up to a time stays, once no promise and no decision up to it stands and all later ones are above it.
use Rattle.std.proofs.Common.{◌≡◌, ◌⊎◌, inl, inr, ℕ, ◌<◌, ◌≤◌, Bool, true, false, not, cond, ◌||◌, nat_eq, nat_le, List, [], ◌∷◌, ◌++◌, Option, Some}
use Rattle.std.proofs.Common.{None, refl, sym, ap, subst, ◌∙◌, arith, filter}
use Rattle.std.proofs.lemmas.List.Elements.{filter-append}
use Rattle.std.proofs.lemmas.Bool.{leb-true, eqb-true, cases_lt, and_parts}
use Rattle.std.proofs.lemmas.Bool.Decides.{nat_tests}
use Rattle.std.proofs.lemmas.List.{append-nil}
use Rattle.units.specs.Ids.{Id, same_id}
use Rattle.units.specs.Keys.{Bytes}
use Rattle.units.specs.Lists.{gather, when}
use Rattle.units.specs.Versions.{versions, at_time, latest}
use Rattle.units.specs.declared.writes.Install.{Install}
use Rattle.units.specs.declared.writes.Write.{Write}
use Rattle.units.proofs.Folds.{there_first}
use Rattle.units.proofs.IdLaws.{same_id-refl}
use Rattle.record.specs.Accepted.{followed, follows, outcome_fits}
use Rattle.record.specs.Facts.{Facts, facts_of, learn, recorded, installs_at}
use Rattle.record.specs.Installs.{installs_of}
use Rattle.record.specs.Records.{Ended, Status, Unrecorded, StandsPrepared, StandsDecided, HasAborted, HasSettled, HasClosed, as_ended, ended_of}
use Rattle.record.specs.Records.{prepared_of, committed_of}
use Rattle.record.proofs.LearnAgrees.{learn_agrees, followed_more}
use Rattle.record.specs.declared.record.Committed.{Committed}
use Rattle.record.specs.declared.record.Prepared.{Prepared}
use Rattle.record.specs.declared.record.Record.{Record}
use Rattle.record.specs.declared.record.Record.TheVariants.{Prepare, Commit, Outcome, Base, Version, Settled, Closed}
use Rattle.law.specs.Among.{IsAmong}
use Rattle.law.proofs.Members.{among_left, among_cases}
use Rattle.law.proofs.Picked.{any_of, gather_among}
use Rattle.world.proofs.StepKinds.{is_logged}
use Rattle.law.proofs.Logged.{AreLogged}
use Rattle.law.proofs.Resolved.{committed_is, prepared_is}

-- the log has an outcome of the id
pub record HasEnd (log : List Record) (t : Id) : Type 0 where
  pub outcome : Option ℕ
  pub among : IsAmong log (Outcome t outcome)

-- no promise and no decision up to a time stands
pub record IsQuiet (log : List Record) (at : ℕ) : Type 0 where
  pub promises : (p : Prepared) → IsAmong log (Prepare p) → p.at ≤ at → HasEnd log p.txn
  pub decisions : (c : Committed) → IsAmong log (Commit c) → c.at ≤ at → HasEnd log c.txn

-- a promise and a decision are above a time; steps and openings log no records of a renewed log's head
abbrev pub IsAbove : ℕ → Record → Type 0
IsAbove at (Prepare p) = at < p.at
IsAbove at (Commit c) = at < c.at
IsAbove at (Record.Base _ _ _) = ⊥
IsAbove at (Record.Version _) = ⊥
IsAbove at (Record.Settled _ _ _) = ⊥
IsAbove at (Record.Closed _ _ _) = ⊥
IsAbove at _ = Unit {0}

pub above_logged : (at : ℕ) (r : Record) → IsAbove at r → is_logged r ≡ true
above_logged at (Base _ _ _) h = absurd h
above_logged at (Version _) h = absurd h
above_logged at (Settled _ _ _) h = absurd h
above_logged at (Closed _ _ _) h = absurd h
above_logged at _ h = refl

-- ---- one more record keeps the quiet

end_stays : (log : List Record) (r : Record) (t : Id) → HasEnd log t → HasEnd (log ++ r ∷ []) t
end_stays log r t e = record { outcome = e.outcome; among = among_left log (r ∷ []) (Outcome t e.outcome) e.among }

pub quiet_stays : (log : List Record) (r : Record) (at : ℕ) → IsQuiet log at → IsAbove at r → IsQuiet (log ++ r ∷ []) at
quiet_stays log r at q above = record {
  promises = λ p k low. elim (among_cases log (r ∷ []) (Prepare p) k) [
    | inl old ↦ end_stays log r p.txn (q.promises p old low)
    | inr new ↦ elim new [ inl same ↦ absurd (let high : at < p.at = subst (IsAbove at) same above in omega (arith, high, low)) | inr none ↦ absurd none ]
  ];
  decisions = λ c k low. elim (among_cases log (r ∷ []) (Commit c) k) [
    | inl old ↦ end_stays log r c.txn (q.decisions c old low)
    | inr new ↦ elim new [ inl same ↦ absurd (let high : at < c.at = subst (IsAbove at) same above in omega (arith, high, low)) | inr none ↦ absurd none ]
  ];
}

-- ---- an outcome that follows is above the time

pub not_ended : (log : List Record) (t : Id) → HasEnd log t → not (when (λ e. true) (ended_of log t)) ≡ true → ⊥
not_ended log t e h = both_ways (when (λ x. true) (ended_of log t)) h
    (there_first (λ (x : Ended). same_id x.txn t) (gather as_ended log)
    ∙ any_of (λ (x : Ended). same_id x.txn t) (gather as_ended log) (record { txn = t; outcome = e.outcome })
    (gather_among as_ended log (Outcome t e.outcome) (record { txn = t; outcome = e.outcome }) e.among refl) (same_id-refl t))
  where
    both_ways : (b : Bool) → not b ≡ true → b ≡ true → ⊥
    both_ways true k l = cc
    both_ways false k l = cc

pub outcome_above : (log : List Record) → AreLogged log → (at : ℕ) (t : Id) (s : ℕ) → IsQuiet log at → not (when (λ e. true) (ended_of log t)) ≡ true →
    (p : Option Prepared) → prepared_of log t ≡ p → (c : Option Committed) → committed_of log t ≡ c → outcome_fits p c (Some s) ≡ true → at < s
outcome_above log logged at t s q fresh p hp c hc fits = elim (cases_lt at s) [
  | inl above ↦ above
  | inr below ↦ absurd (by_parts p hp c hc fits below)
]
  where
    promised : (x : Prepared) → prepared_of log t ≡ Some x → x.at ≤ at → ⊥
    promised x is low = let k = prepared_is log logged t x is in not_ended log t (subst (HasEnd log) k.1 (q.promises x k.0 low)) fresh

    decided : (x : Committed) → committed_of log t ≡ Some x → x.at ≤ at → ⊥
    decided x is low = let k = committed_is log logged t x is in not_ended log t (subst (HasEnd log) k.1 (q.decisions x k.0 low)) fresh

    one_of : (a b : Bool) → (a || b) ≡ true → (a ≡ true) ⊎ (b ≡ true)
    one_of true b e = inl refl
    one_of false b e = inr e

    by_parts : (o : Option Prepared) → prepared_of log t ≡ o → (d : Option Committed) → committed_of log t ≡ d → outcome_fits o d (Some s) ≡ true → s ≤ at → ⊥
    by_parts (Some x) ho (Some y) hd e low = elim (one_of (nat_le x.at s) (nat_eq y.at s) e) [
      | inl k ↦ promised x ho (let l = leb-true x.at s k in omega (arith, l, low))
      | inr k ↦ decided y hd (let l = eqb-true y.at s k in omega (arith, l, low))
    ]
    by_parts (Some x) ho None hd e low = elim (one_of (nat_le x.at s) false e) [
      | inl k ↦ promised x ho (let l = leb-true x.at s k in omega (arith, l, low))
      | inr k ↦ absurd (cc)
    ]
    by_parts None ho (Some y) hd e low = decided y hd (let l = eqb-true y.at s e in omega (arith, l, low))
    by_parts None ho None hd e low = cc

-- ---- what it installs is not seen up to the time

unseen : (ws : List Write) (at s : ℕ) → at < s → filter (λ (i : Install). nat_le i.at at) (versions ws s) ≡ []
unseen [] at s h = refl
unseen (w ∷ ws) at s h = ap (λ b. cond b (record { key = w.key; at = s; value = w.value } ∷ filter (λ (i : Install). nat_le i.at at) (versions ws s))
    (filter (λ (i : Install). nat_le i.at at) (versions ws s))) (later at s h) ∙ unseen ws at s h
  where
    later : (a b : ℕ) → a < b → nat_le b a ≡ false
    later a b k = grind (arith, nat_tests)

installed_unseen : (st : Status) (at s : ℕ) → at < s → filter (λ (i : Install). nat_le i.at at) (installs_at st (Some s)) ≡ []
installed_unseen (StandsPrepared p) at s h = unseen p.writes at s h
installed_unseen (StandsDecided c) at s h = unseen c.writes at s h
installed_unseen _ at s h = refl

same_answer : (is more : List Install) (k : Bytes) (at : ℕ) → filter (λ (i : Install). nat_le i.at at) more ≡ [] → at_time (is ++ more) k at ≡ at_time is k at
unfolding at_time
same_answer is more k at none =
    ap (λ l. latest l k) (filter-append (λ (i : Install). nat_le i.at at) is more ∙ ap (λ l. filter (λ (i : Install). nat_le i.at at) is ++ l) none
    ∙ append-nil (filter (λ (i : Install). nat_le i.at at) is))

-- the answer of a log at a time, after one more record that follows
pub answer_stays : (shard : ℕ) (log : List Record) (r : Record) (k : Bytes) (at : ℕ) → AreLogged log → is_logged r ≡ true
    → followed shard (log ++ r ∷ []) ≡ true → IsQuiet log at →
    at_time (installs_of (log ++ r ∷ [])) k at ≡ at_time (installs_of log) k at
unfolding facts_of learn follows
answer_stays shard log r k at logged of_step h q =
    ap (λ (f : Facts). at_time f.installs k at) (learn_agrees shard log r h)
    ∙ by_kind r of_step (and_parts _ _ (and_parts _ _ (sym (followed_more shard log r) ∙ h)).1).1
  where
    by_kind : (x : Record) → is_logged x ≡ true → follows shard log x ≡ true → at_time (learn (facts_of log) x).installs k at ≡ at_time (installs_of log) k at
    by_kind (Base _ _ _) l e = cc
    by_kind (Version _) l e = cc
    by_kind (Settled _ _ _) l e = cc
    by_kind (Closed _ _ _) l e = cc
    by_kind (Outcome t None) l e = same_answer (installs_of log) (installs_at (recorded (facts_of log) t) None) k at
        (none_installed (recorded (facts_of log) t))
      where
        none_installed : (st : Status) → filter (λ (i : Install). nat_le i.at at) (installs_at st None) ≡ []
        none_installed (StandsPrepared p) = refl
        none_installed (StandsDecided c) = refl
        none_installed Unrecorded = refl
        none_installed HasAborted = refl
        none_installed (HasSettled x ps) = refl
        none_installed (HasClosed c o) = refl
    by_kind (Outcome t (Some s)) l e =
        let fits = and_parts (not (when (λ x. true) (ended_of log t))) (outcome_fits (prepared_of log t) (committed_of log t) (Some s))
        (and_parts _ _ e).0 in
        same_answer (installs_of log) (installs_at (recorded (facts_of log) t) (Some s)) k at
        (installed_unseen (recorded (facts_of log) t) at s
        (outcome_above log logged at t s q fits.0 (prepared_of log t) refl (committed_of log t) refl fits.1))
    by_kind _ l e = refl
