-- A list in pieces of at most 1,024, each half full at least where a later one holds anything.
use Rattle.std.specs.Prelude.{ℕ, zero, suc, ◌+◌, ◌-◌, ◌<◌, ◌≤◌, List, [], ◌∷◌, ◌++◌, length, map, take, drop, slice_index_or}
use Rattle.versions.specs.declared.chunk.Spot.{Spot}

-- the places in order, each with its head, and for how many more there is room
pub record Laid : Type 0 where
  pub spots : List Spot
  pub room : ℕ

-- the heads of these places
abbrev pub heads_of : List Spot → List ℕ
heads_of spots = map (λ s. s.head) spots

-- the head of the last of them, 0 where there is none
abbrev pub last_head : List Spot → ℕ
last_head spots = slice_index_or (heads_of spots) (length spots - 1) 0

-- the pieces one after another
abbrev pub joined : List (List Spot) → List Spot
joined [] = []
joined (p ∷ ps) = p ++ joined ps

-- how many places there are up to the end of each piece, where so many come before the first
abbrev pub ends_from : ℕ → List (List Spot) → List ℕ
ends_from n [] = []
ends_from n (p ∷ ps) = (length p + n) ∷ ends_from (length p + n) ps

-- where a piece starts, told from the ends: where the one before it ends
abbrev pub start_by : List ℕ → ℕ → ℕ
start_by ends zero = 0
start_by ends (suc n) = slice_index_or ends n 0

-- the same ends, each from one place up to another one more
abbrev pub raised : ℕ → ℕ → List ℕ → List ℕ
raised from to [] = []
raised (suc from) (suc to) (e ∷ es) = e ∷ raised from to es
raised zero (suc to) (e ∷ es) = suc e ∷ raised zero to es
raised from zero (e ∷ es) = e ∷ es

-- a piece in two, at the 512th of its places
abbrev pub divided : ℕ → List (List Spot) → List (List Spot)
divided n [] = []
divided zero (p ∷ ps) = take 512 p ∷ drop 512 p ∷ ps
divided (suc n) (p ∷ ps) = p ∷ divided n ps

-- a piece holds something, and half of what it may if a later one is there
pub record IsFilled (p rest : List Spot) : Type 0 where
  pub some : 0 < length p
  pub few : length p ≤ 1024
  pub half : 0 < length rest → 512 ≤ length p

abbrev pub IsLaid : List (List Spot) → Type 0
IsLaid [] = Unit {0}
IsLaid (p ∷ ps) = IsFilled p (joined ps) × IsLaid ps

-- a place is in a piece, or right after its last one
pub record IsWithin (ps : List (List Spot)) (number at : ℕ) : Type 0 where
  pub from : start_by (ends_from 0 ps) number ≤ at
  pub to : at ≤ start_by (ends_from 0 ps) number + length (slice_index_or ps number [])
