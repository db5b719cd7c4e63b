-- The keys found, with those of the items that are left, are those of all.
use Rattle.std.proofs.Common.{◌≡◌, drop}
use Rattle.toml.specs.View.{items_view}
use Rattle.settings.specs.Documents.{keys_in}
use Rattle.settings.proofs.Documents.{after}
use Rattle.settings.proofs.split_keys.split_keys.Given as goal

abbrev pub invariant-loop-item : goal.invariant-loop-item
invariant-loop-item l =
    after l.found.items (keys_in (items_view (drop l.item-index l.item-items))) ≡ keys_in (items_view l.item-items)
