-- What the loops over decisions compute is what the definitions say.
use Rattle.std.specs.List.{list_all}
use Rattle.std.specs.Prelude.{flat_map}
use Rattle.std.proofs.Common.{◌≡◌, ℕ, suc, Bool, false, List, [], ◌∷◌, ◌++◌, refl, sym, ap, ◌∙◌}
use Rattle.units.specs.Ids.{Id}
use Rattle.units.specs.Lists.{numbered}
use Rattle.record.specs.Whole.{Decision, is_whole_by, outcomes_fit}
use Rattle.record.specs.declared.record.Record.{Record}
use Rattle.inspector.specs.declared.whole.Tally.{Tally}
use Rattle.inspector.specs.declared.whole.Tally.TheVariants.{Never, Again}
use Rattle.inspector.specs.Tallies.{after, decisions_here, fits_all, with_decision, settled_tally}

pub after_append : (fits : Decision → Bool) (found : Tally) (ds es : List Decision) → after fits found (ds ++ es) ≡ after fits (after fits found ds) es
after_append fits found [] es = refl
after_append fits found (d ∷ ds) es = after_append fits (with_decision fits found d) ds es

stays_again : (fits : Decision → Bool) (ds : List Decision) → after fits Again ds ≡ Again
stays_again fits [] = refl
stays_again fits (d ∷ ds) = stays_again fits ds

pub whole_is_settled : (logs : List (List Record)) (t : Id) (ds : List Decision)
    → is_whole_by logs t ds ≡ settled_tally (list_all (λ l. outcomes_fit l t (λ s. false)) logs) (after (fits_all logs t) Never ds)
whole_is_settled logs t [] = refl
whole_is_settled logs t (d ∷ []) = refl
whole_is_settled logs t (d ∷ e ∷ ds) = sym (ap (settled_tally (list_all (λ l. outcomes_fit l t (λ s. false)) logs)) (stays_again (fits_all logs t) ds))

-- ---- steps from one log to the next

pub tally_step : (fits : Decision → Bool) (found : Tally) (t : Id) (n m : ℕ) (log : List Record) (logs : List (List Record)) → m ≡ suc n →
    after fits (after fits found (decisions_here t n log)) (flat_map (λ q. decisions_here t q.0 q.1) (numbered m logs))
    ≡ after fits found (flat_map (λ q. decisions_here t q.0 q.1) (numbered n (log ∷ logs)))
tally_step fits found t n m log logs e =
    ap (λ k. after fits (after fits found (decisions_here t n log)) (flat_map (λ q. decisions_here t q.0 q.1) (numbered k logs))) e
    ∙ sym (after_append fits found (decisions_here t n log) (flat_map (λ q. decisions_here t q.0 q.1) (numbered (suc n) logs)))
