-- Where a key or a write comes in an ascending list.
use Rattle.std.specs.Prelude.{ℕ, suc, cond, List, [], ◌∷◌}
use Rattle.units.specs.Keys.{Bytes, key_before}
use Rattle.units.specs.declared.writes.Write.{Write}

-- how many keys at the front come before a key
abbrev pub place_among : List Bytes → Bytes → ℕ
place_among [] k = 0
place_among (j ∷ js) k = cond (key_before j k) (suc (place_among js k)) 0

-- how many writes at the front come before a key
abbrev pub write_place : List Write → Bytes → ℕ
write_place [] k = 0
write_place (w ∷ ws) k = cond (key_before w.key k) (suc (write_place ws k)) 0
