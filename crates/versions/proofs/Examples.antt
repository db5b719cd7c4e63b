-- What a horizon leaves of a few versions.
use Rattle.std.proofs.Common.{◌≡◌, ℕ, [], ◌∷◌, Option, Some, None, refl}
use Rattle.units.specs.Keys.{Bytes}
use Rattle.units.specs.Versions.{at_time, latest}
use Rattle.units.specs.declared.writes.Install.{Install}
use Rattle.versions.specs.Pruned.{pruned}

abbrev a : ℕ → Option Bytes → Install
a at value = record { key = 97 ∷ []; at = at; value = value }

abbrev z : ℕ → Option Bytes → Install
z at value = record { key = 122 ∷ []; at = at; value = value }

abbrev one : Option Bytes
one = Some (49 ∷ [])

abbrev two : Option Bytes
two = Some (50 ∷ [])

-- the older one goes once the horizon reaches the newer one
newer_at : pruned 300 (z 200 one ∷ z 300 two ∷ []) ≡ z 300 two ∷ []
unfolding pruned
newer_at = refl

before_newer : pruned 299 (z 200 one ∷ z 300 two ∷ []) ≡ z 200 one ∷ z 300 two ∷ []
unfolding pruned
before_newer = refl

at_horizon : at_time (pruned 300 (z 200 one ∷ z 300 two ∷ [])) (122 ∷ []) 300 ≡ two
unfolding pruned at_time latest
at_horizon = refl

below_horizon : at_time (pruned 300 (z 200 one ∷ z 300 two ∷ [])) (122 ∷ []) 299 ≡ None
unfolding pruned at_time latest
below_horizon = refl

-- an erasure that is the newest stays
erased : pruned 250 (a 111 one ∷ a 200 None ∷ a 300 two ∷ []) ≡ a 200 None ∷ a 300 two ∷ []
unfolding pruned
erased = refl

-- each key by itself, in any order
each_key : pruned 20 (a 10 one ∷ z 5 one ∷ a 20 two ∷ z 25 two ∷ a 30 one ∷ []) ≡ z 5 one ∷ a 20 two ∷ z 25 two ∷ a 30 one ∷ []
unfolding pruned
each_key = refl

-- at the beginning of time nothing goes
nothing : pruned 0 (a 10 one ∷ a 20 two ∷ []) ≡ a 10 one ∷ a 20 two ∷ []
unfolding pruned
nothing = refl
