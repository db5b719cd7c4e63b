-- How transactions ended, one record more at a time.
use Rattle.std.proofs.Common.{◌≡◌, ◌∙◌, ◌++◌, ◌∷◌, [], List, Option, Some, None, refl, ap}
use Rattle.std.specs.Prelude.{option_map}
use Rattle.std.specs.Option.{option_or}
use Rattle.units.specs.Ids.{Id}
use Rattle.units.proofs.Folds.{or_else}
use Rattle.record.specs.Records.{Ended, ended_of}
use Rattle.record.specs.declared.record.Record.{Record}
use Rattle.record.proofs.Sound.{ended_more}
use Rattle.showing.specs.Histories.{end_in}

pub ends_more : (rs : List Record) (r : Record) (t : Id) → end_in (rs ++ r ∷ []) t ≡ option_or (end_in rs t) (end_in (r ∷ []) t)
ends_more rs r t =
    ap (option_map (λ e. e.outcome)) (ended_more rs r t) ∙ mapped (ended_of rs t) (ended_of (r ∷ []) t)
  where
    mapped : (a b : Option Ended) → option_map (λ e. e.outcome) (or_else a b) ≡ option_or (option_map (λ e. e.outcome) a) (option_map (λ e. e.outcome) b)
    mapped None b = refl
    mapped (Some e) b = refl
