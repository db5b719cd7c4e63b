-- Where a log ends, and what a scan of it says.
use Rattle.std.proofs.Common.{◌≡◌, ℕ, refl, ap, List, [], ◌∷◌, map}

-- offsets, beside texts by their bytes
pub offsets_seen : {X : Type 0} (bytes : X → List ℕ) (told : List (ℕ × X))
    → map (λ (t : ℕ × List ℕ). t.0) (map (λ (t : ℕ × X). (t.0, bytes t.1)) told) ≡ map (λ (t : ℕ × X). t.0) told
offsets_seen bytes [] = refl
offsets_seen bytes (t ∷ told) = ap (λ (ns : List ℕ). t.0 ∷ ns) (offsets_seen bytes told)
