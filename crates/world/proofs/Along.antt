-- What each event keeps, a lawful run keeps.
use Rattle.std.proofs.Common.{◌≡◌, true, List, [], ◌∷◌}
use Rattle.std.proofs.lemmas.Bool.{and_parts}
use Rattle.world.specs.Lawful.{lawful_from, may_happen}
use Rattle.world.specs.World.{World, happens, run_from}
use Rattle.world.specs.declared.event.Event.{Event}

module _ (P : World → Type 0) (keeps : (w : World) (e : Event) → may_happen w e ≡ true → P w → P (happens w e).0) where
  pub along : (w : World) (es : List Event) → lawful_from w es ≡ true → P w → P (run_from w es)
  along w [] fair held = held
  along w (e ∷ es) fair held =
      let p = and_parts (may_happen w e) (lawful_from ((happens w e).0) es) fair in along ((happens w e).0) es p.1 (keeps w e p.0 held)
