-- Where the inspector finds no torn id, every id is whole: those that no log is about as well.
use Rattle.std.specs.List.{list_any, list_all}
use Rattle.std.proofs.Common.{refl, sym, ◌∙◌, ap, subst, inl, inr}
use Rattle.std.specs.Prelude.{ℕ, suc, ◌≡◌, Bool, true, false, not, cond, ◌&&◌, ◌||◌, ◌⊎◌, List, [], ◌∷◌, ◌++◌, map, Option, None, filter, flat_map}
use Rattle.std.proofs.lemmas.Bool.{or_parts}
use Rattle.units.specs.Lists.{gather, numbered}
use Rattle.units.specs.Ids.{Id, same_id}
use Rattle.units.proofs.Folds.{any_append}
use Rattle.units.proofs.IdLaws.{same_id-is}
use Rattle.units.proofs.IdOrder.{any_once}
use Rattle.record.specs.Records.{id_in, as_committed}
use Rattle.record.specs.Whole.{is_whole, is_whole_by, Decision, outcomes_fit, all_ids}
use Rattle.record.specs.Accepted.{is_kept}
use Rattle.record.specs.Verdict.{verdict, first_torn, retired_in}
use Rattle.record.specs.VerdictLaws.{YesIsSound}
use Rattle.record.specs.declared.record.Record.{Record}
use Rattle.record.specs.declared.record.Record.TheVariants.{Opened, Ceiling, Prepare, Commit, Abort, Outcome, Horizon, Base, Version, Settled, Closed, Retired}
use Rattle.record.proofs.VerdictMeans.{head_none, kept_step, not_false, no_fault, acknowledged, looks, reads, order}

-- ---- ids

one_of : (a b : Bool) → (a || b) ≡ true → (a ≡ true) ⊎ (b ≡ true)
one_of true b e = inl refl
one_of false b e = inr e

-- ---- an id that no record of a log is about

kept_if : {A : Type 0} (b : Bool) (x : A) (rest : List A) → b ≡ false → rest ≡ [] → cond b (x ∷ rest) rest ≡ []
kept_if true x rest e f = cc
kept_if false x rest e f = f

passes : (b c d : Bool) → b ≡ false → d ≡ true → ((not b || c) && d) ≡ true
passes true c d e f = cc
passes false c d e f = f

no_commit : (t : Id) (log : List Record) → list_any (same_id t) (gather id_in log) ≡ false → filter (λ c. same_id t c.txn) (gather as_committed log) ≡ []
no_commit t [] e = refl
no_commit t (Opened epoch ∷ rs) e = no_commit t rs e
no_commit t (Ceiling at ∷ rs) e = no_commit t rs e
no_commit t (Retired least ∷ rs) e = no_commit t rs e
no_commit t (Horizon at ∷ rs) e = no_commit t rs e
no_commit t (Base epoch floor horizon ∷ rs) e = no_commit t rs e
no_commit t (Version install ∷ rs) e = no_commit t rs e
no_commit t (Settled u at parts ∷ rs) e = kept_if (same_id t u) _ _ ((or_parts _ _ e).0) (no_commit t rs ((or_parts _ _ e).1))
no_commit t (Closed u coordinator outcome ∷ rs) e = no_commit t rs ((or_parts _ _ e).1)
no_commit t (Prepare p ∷ rs) e = no_commit t rs ((or_parts _ _ e).1)
no_commit t (Commit c ∷ rs) e = kept_if (same_id t c.txn) c _ ((or_parts _ _ e).0) (no_commit t rs ((or_parts _ _ e).1))
no_commit t (Abort u ∷ rs) e = no_commit t rs ((or_parts _ _ e).1)
no_commit t (Outcome u o ∷ rs) e = no_commit t rs ((or_parts _ _ e).1)

no_end : (t : Id) (fits : ℕ → Bool) (log : List Record) → list_any (same_id t) (gather id_in log) ≡ false → outcomes_fit log t fits ≡ true
no_end t fits [] e = refl
no_end t fits (Opened epoch ∷ rs) e = no_end t fits rs e
no_end t fits (Ceiling at ∷ rs) e = no_end t fits rs e
no_end t fits (Retired least ∷ rs) e = no_end t fits rs e
no_end t fits (Horizon at ∷ rs) e = no_end t fits rs e
no_end t fits (Base epoch floor horizon ∷ rs) e = no_end t fits rs e
no_end t fits (Version install ∷ rs) e = no_end t fits rs e
no_end t fits (Settled u at parts ∷ rs) e = passes (same_id t u) _ _ ((or_parts _ _ e).0) (no_end t fits rs ((or_parts _ _ e).1))
no_end t fits (Closed u coordinator outcome ∷ rs) e = passes (same_id t u) _ _ ((or_parts _ _ e).0) (no_end t fits rs ((or_parts _ _ e).1))
no_end t fits (Prepare p ∷ rs) e = no_end t fits rs ((or_parts _ _ e).1)
no_end t fits (Commit c ∷ rs) e = no_end t fits rs ((or_parts _ _ e).1)
no_end t fits (Abort u ∷ rs) e = no_end t fits rs ((or_parts _ _ e).1)
no_end t fits (Outcome u o ∷ rs) e = passes (same_id t u) _ _ ((or_parts _ _ e).0) (no_end t fits rs ((or_parts _ _ e).1))

-- its place in a log among others
apart : (t : Id) (log : List Record) (logs : List (List Record)) → list_any (same_id t) (flat_map (gather id_in) (log ∷ logs)) ≡ false →
    (list_any (same_id t) (gather id_in log) ≡ false) × (list_any (same_id t) (flat_map (gather id_in) logs) ≡ false)
apart t log logs e = or_parts _ _ (sym (any_append (same_id t) (gather id_in log) (flat_map (gather id_in) logs)) ∙ e)

decisions_of : Id → ℕ × List Record → List Decision
decisions_of t l = map (λ c. record { shard = l.0; commit = c }) (filter (λ c. same_id t c.txn) (gather as_committed l.1))

no_decision : (t : Id) (n : ℕ) (logs : List (List Record)) → list_any (same_id t) (flat_map (gather id_in) logs) ≡ false →
    flat_map (decisions_of t) (numbered n logs) ≡ []
unfolding decisions_of
no_decision t n [] e = refl
no_decision t n (log ∷ logs) e =
    let p : (list_any (same_id t) (gather id_in log) ≡ false) × (list_any (same_id t) (flat_map (gather id_in) logs) ≡ false) = apart t log logs e in
    ap (λ cs. map (λ c. let d : Decision = record { shard = n; commit = c } in d) cs ++ flat_map (decisions_of t) (numbered (suc n) logs)) (no_commit t log p.0)
    ∙ no_decision t (suc n) logs p.1

no_ends : (t : Id) (logs : List (List Record)) → list_any (same_id t) (flat_map (gather id_in) logs) ≡ false →
    list_all (λ l. outcomes_fit l t (λ s. false)) logs ≡ true
no_ends t [] e = refl
no_ends t (log ∷ logs) e =
    let p : (list_any (same_id t) (gather id_in log) ≡ false) × (list_any (same_id t) (flat_map (gather id_in) logs) ≡ false) = apart t log logs e in
    ap (λ b. b && list_all (λ l. outcomes_fit l t (λ s. false)) logs) (no_end t (λ s. false) log p.0) ∙ no_ends t logs p.1

unmentioned : (t : Id) (logs : List (List Record)) → list_any (same_id t) (flat_map (gather id_in) logs) ≡ false → is_whole t logs ≡ true
unfolding is_whole decisions_of
unmentioned t logs e = ap (λ ds. is_whole_by logs t ds) (no_decision t 0 logs e) ∙ no_ends t logs e

-- ---- all ids

kept_whole : (kept whole : Bool) → (kept && not whole) ≡ false → kept ≡ true → whole ≡ true
kept_whole true whole e kept = not_false whole e
kept_whole false whole e kept = cc

mentioned : (retired : Option Id) (t : Id) (logs : List (List Record)) (ids : List Id) →
    filter (λ u. is_kept retired u && not (is_whole u logs)) ids ≡ [] → list_any (same_id t) ids ≡ true → is_kept retired t ≡ true →
    is_whole t logs ≡ true
mentioned retired t logs [] e there kept = cc
mentioned retired t logs (u ∷ us) e there kept =
    let p : ((is_kept retired u && not (is_whole u logs)) ≡ false) × (filter (λ v. is_kept retired v && not (is_whole v logs)) us ≡ []) =
    kept_step (is_kept retired u && not (is_whole u logs)) u (filter (λ v. is_kept retired v && not (is_whole v logs)) us) e in
    here_or_later (one_of (same_id t u) (list_any (same_id t) us) there) p.0 (λ later. mentioned retired t logs us p.1 later kept)
  where
    here_or_later : (same_id t u ≡ true) ⊎ (list_any (same_id t) us ≡ true) → (is_kept retired u && not (is_whole u logs)) ≡ false →
        (list_any (same_id t) us ≡ true → is_whole t logs ≡ true) → is_whole t logs ≡ true
    here_or_later (inl same) good later =
        kept_whole (is_kept retired t) _ (subst (λ v. (is_kept retired v && not (is_whole v logs)) ≡ false) (sym (same_id-is t u same)) good) kept
    here_or_later (inr more) good later = later more

by_mention : (b : Bool) (t : Id) (logs : List (List Record)) → list_any (same_id t) (all_ids logs) ≡ b → first_torn logs ≡ None →
    is_kept (retired_in logs) t ≡ true → is_whole t logs ≡ true
by_mention true t logs e none kept = mentioned (retired_in logs) t logs (all_ids logs) (head_none _ none) e kept
by_mention false t logs e none kept = unmentioned t logs (sym (any_once t (flat_map (gather id_in) logs)) ∙ e)

pub whole_for_all : (logs : List (List Record)) → first_torn logs ≡ None → (t : Id) → is_kept (retired_in logs) t ≡ true → is_whole t logs ≡ true
whole_for_all logs none t kept = by_mention (list_any (same_id t) (all_ids logs)) t logs refl none kept

-- ---- what a yes means

pub yes_is_sound : YesIsSound
unfolding verdict
yes_is_sound logs lines told =
    record {
      whole = whole_for_all logs ((no_fault _ _ _ _ told).0);
      acknowledged = acknowledged logs lines told;
      looks = looks logs lines told;
      reads = reads logs lines told;
      order = order logs lines told;
    }
