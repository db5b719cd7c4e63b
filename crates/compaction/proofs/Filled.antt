-- What an empty log that is turned over to an area leaves.
use Rattle.std.proofs.Common.{◌≡◌, inl, inr, ◌+◌, ◌∙◌, ℕ, List, [], Result, Ok, ap, subst, sym}
use Rattle.units.specs.declared.fault.Fault.{Fault}
use Rattle.disk.specs.File.{File}
use Rattle.disk.specs.Moments.{LeavesOnly}
use Rattle.disk.proofs.Runs.{and_then}
use Rattle.record.specs.declared.record.Record.{Record}
use Rattle.gatelog.specs.Areas.{placed_from, without_header}
use Rattle.gatelog.specs.Crash.{IsOldOrNew}
use Rattle.gatelog.specs.Laid.{HasNoneOr, WasLaid}
use Rattle.gatelog.specs.Log.{log}
use Rattle.gatelog.proofs.Fresh.{placed-items}
use Rattle.compaction.specs.Compacted.{HasNoneOrThese, WasFilled, items_of, records_in}

-- the entries of an area have its records
pub area-records : (image : List ℕ) (at : ℕ) (items area : List Record) → items ≡ area → log image ≡ Ok (placed_from at items).0
    → records_in image ≡ Ok area
area-records image at items area is read = ap items_of read ∙ ap (λ (l : List Record). Ok l) (placed-items items at ∙ is)

-- the empty log, or these records
pub none-or-area : (old : List ℕ) (gate slot : ℕ) (items area : List Record) (image : List ℕ) → items ≡ area → log old ≡ Ok []
    → IsOldOrNew old gate slot items image → HasNoneOrThese (Ok area) image
none-or-area old gate slot items area image is empty (inl same) = inr (inl (same.0 ∙ empty))
none-or-area old gate slot items area image is empty (inr new) = inr (inr (area-records image (gate + 1) items area is new.0))

-- a log that was laid out empty, and then left no more than these
module _ {D : Type 0} (file : D → File) (clock : D → ℕ) (since : D → ℕ → List ℕ → Type 0) where
  pub since-laid : (records : Result (List Record) Fault) (area : List Record) (old made new : D) → records ≡ Ok area
      → WasLaid file clock since (without_header []) (HasNoneOr []) old made → LeavesOnly clock since made new (HasNoneOrThese (Ok area))
      → WasFilled file clock since records old new
  since-laid records area old made new is laid run =
      let at = laid.1 in (
        laid.0,
        record {
          within = at.within;
          synced = at.synced;
          bare = at.bare;
          from_then_on = and_then clock since laid.0 made new (HasNoneOr []) (HasNoneOrThese (Ok area)) (HasNoneOrThese records) at.from_then_on run
              (λ image. none-or-these records image) (λ image. subst (λ (r : Result (List Record) Fault). HasNoneOrThese r image) (sym is));
        },
      )
    where
      none-or-these : (records : Result (List Record) Fault) (image : List ℕ) → HasNoneOr [] image → HasNoneOrThese records image
      none-or-these records image (inl none) = inl none
      none-or-these records image (inr empty) = inr (inl empty)
