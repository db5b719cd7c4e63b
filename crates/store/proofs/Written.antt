-- A transaction sees what it has written.
use Rattle.std.proofs.Common.{◌≡◌, Bool, true, false, true≢false, cond, not, List, [], ◌∷◌, Some, refl, ap, sym, ◌∙◌}
use Rattle.std.specs.Prelude.{filter, option_map}
use Rattle.units.specs.Keys.{Bytes, same_key, write_before}
use Rattle.units.specs.Lists.{head, insert}
use Rattle.units.specs.declared.writes.Write.{Write}
use Rattle.units.proofs.KeyLaws.{same_key-is, same_key-refl}
use Rattle.session.specs.Sessions.{Client, with_write}
use Rattle.client.specs.Readings.{answered, or_else, seen, written}
use Rattle.store.specs.Writing.{WritesAreSeen}
use Rattle.store.proofs.Attempts.{wrote}

module _ {A : Type 0} (p : A → Bool) (less : A → A → Bool) (x : A) where
  -- of a list where none passed, the one that was put in passes
  put_in : (ys : List A) → p x ≡ true → filter p ys ≡ [] → filter p (insert less x ys) ≡ x ∷ []
  put_in [] has none = ap (λ b. cond b (x ∷ []) []) has
  put_in (y ∷ ys) has none = by_less (less y x) (out (p y) none) (put_in ys has)
    where
      out : (b : Bool) → cond b (y ∷ filter p ys) (filter p ys) ≡ [] → (b ≡ false) × (filter p ys ≡ [])
      out true e = absurd (cc e)
      out false e = (refl, e)

      by_less : (l : Bool) → (p y ≡ false) × (filter p ys ≡ []) → (filter p ys ≡ [] → filter p (insert less x ys) ≡ x ∷ [])
          → filter p (cond l (y ∷ insert less x ys) (x ∷ y ∷ ys)) ≡ x ∷ []
      by_less true is more = ap (λ b. cond b (y ∷ filter p (insert less x ys)) (filter p (insert less x ys))) is.0 ∙ more is.1
      by_less false is more = ap (λ b. cond b (x ∷ filter p (y ∷ ys)) (filter p (y ∷ ys))) has ∙ ap (λ l. x ∷ l) none

  -- one that does not pass may be put in
  passed_by : (ys : List A) → p x ≡ false → filter p (insert less x ys) ≡ filter p ys
  passed_by [] out = ap (λ b. cond b (x ∷ []) []) out
  passed_by (y ∷ ys) out = by_less (less y x) (passed_by ys out)
    where
      by_less : (l : Bool) → filter p (insert less x ys) ≡ filter p ys → filter p (cond l (y ∷ insert less x ys) (x ∷ y ∷ ys)) ≡ filter p (y ∷ ys)
      by_less true more = ap (λ l. cond (p y) (y ∷ l) l) more
      by_less false more = ap (λ b. cond b (x ∷ filter p (y ∷ ys)) (filter p (y ∷ ys))) out

module _ {A : Type 0} (p q : A → Bool) where
  none_left : (ys : List A) → filter q (filter (λ y. not (q y)) ys) ≡ []
  none_left [] = refl
  none_left (y ∷ ys) = by_test (q y) refl (none_left ys)
    where
      by_test : (b : Bool) → q y ≡ b → filter q (filter (λ z. not (q z)) ys) ≡ []
          → filter q (cond (not b) (y ∷ filter (λ z. not (q z)) ys) (filter (λ z. not (q z)) ys)) ≡ []
      by_test true e more = more
      by_test false e more =
          ap (λ b. cond b (y ∷ filter q (filter (λ z. not (q z)) ys)) (filter q (filter (λ z. not (q z)) ys))) e ∙ more

  -- those that pass stay where none of them is taken out
  others_stay : (ys : List A) → ((y : A) → p y ≡ true → q y ≡ false) → filter p (filter (λ y. not (q y)) ys) ≡ filter p ys
  others_stay [] apart = refl
  others_stay (y ∷ ys) apart = by_test (q y) refl (others_stay ys apart)
    where
      fails : q y ≡ true → (b : Bool) → p y ≡ b → b ≡ false
      fails e true h = absurd (true≢false (sym e ∙ apart y h))
      fails e false h = refl

      by_test : (b : Bool) → q y ≡ b → filter p (filter (λ z. not (q z)) ys) ≡ filter p ys
          → filter p (cond (not b) (y ∷ filter (λ z. not (q z)) ys) (filter (λ z. not (q z)) ys)) ≡ filter p (y ∷ ys)
      by_test true e more = more ∙ sym (ap (λ b. cond b (y ∷ filter p ys) (filter p ys)) (fails e (p y) refl))
      by_test false e more = ap (λ l. cond (p y) (y ∷ l) l) more

own_written : (ws : List Write) (w : Write) → written (with_write ws w) w.key ≡ Some w.value
own_written ws w =
    ap (λ (l : List Write). option_map (λ v. v.value) (head l))
    (put_in (λ v. same_key v.key w.key) write_before w (filter (λ v. not (same_key v.key w.key)) ws) (same_key-refl w.key)
    (none_left (λ v. same_key v.key w.key) (λ v. same_key v.key w.key) ws))

other_written : (ws : List Write) (w : Write) (k : Bytes) → same_key w.key k ≡ false → written (with_write ws w) k ≡ written ws k
other_written ws w k other =
    ap (λ (l : List Write). option_map (λ v. v.value) (head l))
    (passed_by (λ v. same_key v.key k) write_before w (filter (λ v. not (same_key v.key w.key)) ws) other
    ∙ others_stay (λ v. same_key v.key k) (λ v. same_key v.key w.key) ws (λ v same. apart v same (same_key v.key w.key) refl))
  where
    apart : (v : Write) → same_key v.key k ≡ true → (b : Bool) → same_key v.key w.key ≡ b → b ≡ false
    apart v same true e = absurd (true≢false (sym same ∙ (ap (λ (j : Bytes). same_key j k) (same_key-is v.key w.key e) ∙ other)))
    apart v same false e = refl

pub writes_are_seen : WritesAreSeen
writes_are_seen = record {
  own = λ w c d e.
      ap (λ (x : Client). seen x w.key) (wrote w c d e) ∙ ap (λ o. or_else o (answered c.taken w.key)) (own_written c.writes w);
  others = λ w c d k e other.
      ap (λ (x : Client). seen x k) (wrote w c d e) ∙ ap (λ o. or_else o (answered c.taken k)) (other_written c.writes w k other);
}
