-- What is in doubt in a log.
use Rattle.std.proofs.Common.{◌≡◌, ◌∙◌, ◌++◌, ◌∷◌, ◌+◌, ◌<◌, [], ℕ, List, length, ap, take, slice_index_or, Option}
use Rattle.units.specs.Ids.{Id}
use Rattle.units.specs.Lists.{gather}
use Rattle.units.proofs.Folds.{gather_append}
use Rattle.record.specs.declared.record.Record.{Record}
use Rattle.frames.specs.Placed.{Placed}
use Rattle.recovery.specs.Recovered.{items}
use Rattle.showing.specs.Histories.{end_in}
use Rattle.showing.specs.Stats.{as_begun, doubt_of, doubts_in}
use Rattle.showing.proofs.Accepting.{next_items}

-- one entry more
pub gathered_more : {B : Type 0} (f : Record → Option B) (es : List Placed) (i : ℕ) (e : Placed) → i < length es → e ≡ slice_index_or es i e
    → gather f (items (take (i + 1) es)) ≡ gather f (items (take i es)) ++ gather f (e.item ∷ [])
gathered_more f es i e small is = ap (gather f) (next_items es i e small is) ∙ gather_append f (items (take i es)) (e.item ∷ [])

-- what is in doubt by the ends that were found is in doubt by those of the records
pub doubts_of_records : (records : List Record) (ends : Id → Option (Option ℕ)) → ((t : Id) → ends t ≡ end_in records t)
    → gather (λ r. doubt_of ends (as_begun r)) records ≡ doubts_in records
doubts_of_records records ends same =
    λ i. gather (λ r. doubt_of (λ t. same t i) (as_begun r)) records
