-- Filters, and where a member comes in an ascending list.
use Rattle.std.proofs.Common.{◌≡◌, suc, Bool, true, false, cond, List, [], ◌∷◌, insert, refl, ap}
use Rattle.units.specs.Lists.{insert as put}
use Rattle.units.specs.Keys.{Bytes, key_before, write_before}
use Rattle.units.specs.declared.writes.Write.{Write}
use Rattle.session.specs.Places.{place_among, write_place}

pub insert_key : (ks : List Bytes) (k : Bytes) → insert ks (place_among ks k) k ≡ put key_before k ks
insert_key [] k = refl
insert_key (j ∷ js) k = by_test (key_before j k) (insert_key js k)
  where
    by_test : (b : Bool) → insert js (place_among js k) k ≡ put key_before k js →
        insert (j ∷ js) (cond b (suc (place_among js k)) 0) k ≡ cond b (j ∷ put key_before k js) (k ∷ j ∷ js)
    by_test true e = ap (λ l. j ∷ l) e
    by_test false e = refl

pub insert_write : (ws : List Write) (w : Write) → insert ws (write_place ws w.key) w ≡ put write_before w ws
insert_write [] w = refl
insert_write (v ∷ vs) w = by_test (key_before v.key w.key) (insert_write vs w)
  where
    by_test : (b : Bool) → insert vs (write_place vs w.key) w ≡ put write_before w vs →
        insert (v ∷ vs) (cond b (suc (write_place vs w.key)) 0) w ≡ cond b (v ∷ put write_before w vs) (w ∷ v ∷ vs)
    by_test true e = ap (λ l. v ∷ l) e
    by_test false e = refl
