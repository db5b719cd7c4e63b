-- A set of bits and the list of its shards are one.
use Rattle.std.specs.Prelude.{◌≡◌, ℕ, zero, suc, ◌+◌, ◌*◌, ◌/◌, ◌%◌, ◌^◌, ◌<◌, nat_eq, Bool, true, false, List, [], ◌∷◌, cond, refl}
use Rattle.std.proofs.Common.{sym, ap, ◌∙◌, subst, arith, add-zero, zero-add}
use Rattle.std.proofs.lemmas.Bool.Decides.{nat_tests}
use Rattle.units.specs.Masks.{mask_of, shards_from, shards_of_mask}
use Rattle.std.proofs.Math.Nat.{pow-suc, div-add-mod, mul-add, mul_assoc, mul-one, one-mul, mul-zero, mul-mod_left, mul-div_cancel}

-- a set bit, or one that is not set, above the bits of a half
with_bit : (power half bit whole others : ℕ) → 2 * half + bit ≡ whole → others ≡ power * 2 * half → others + power * bit ≡ power * whole
with_bit power half bit whole others sum is =
    is-sum ∙ sym (mul-add power (2 * half) bit) ∙ ap (λ n. power * n) sum
  where
    is-sum : others + power * bit ≡ power * (2 * half) + power * bit
    is-sum = ap (λ n. n + power * bit) (is ∙ mul_assoc power 2 half)

by_bit : (power half bit whole place : ℕ) (test : Bool) (shards : List ℕ) → power ≡ 2 ^ place → test ≡ nat_eq bit 1 → bit < 2
    → mask_of shards + power * bit ≡ power * whole → mask_of (cond test (place ∷ shards) shards) ≡ power * whole
by_bit power half bit whole place true shards is tested small sum =
    let one : bit ≡ 1 = grind (arith, nat_tests) in
    let same : power * bit ≡ power = ap (λ n. power * n) one ∙ mul-one power in
    omega (arith, is, same, sum)
by_bit power half bit whole place false shards is tested small sum =
    let none : bit ≡ 0 = grind (arith, nat_tests) in
    let same : power * bit ≡ 0 = ap (λ n. power * n) none ∙ mul-zero power in
    omega (arith, same, sum)

-- the mask of the shards of a mask is that mask, as far as its bits go
pub mask_from : (bits n mask : ℕ) → mask < 2 ^ bits → mask_of (shards_from bits n mask) ≡ 2 ^ n * mask
mask_from zero n mask h =
    let none : mask ≡ 0 = omega (arith, h) in
    sym (ap (λ k. 2 ^ n * k) none ∙ mul-zero (2 ^ n))
mask_from (suc bits) n mask h =
    let half : mask / 2 < 2 ^ bits = half_below mask (2 ^ bits) (subst (λ p. mask < p) (pow-suc 2 bits) h) in
    let rest : mask_of (shards_from bits (suc n) (mask / 2)) ≡ 2 ^ n * 2 * (mask / 2) =
    mask_from bits (suc n) (mask / 2) half ∙ ap (λ p. p * (mask / 2)) (pow-suc 2 n) in
    by_bit (2 ^ n) (mask / 2) (mask % 2) mask n (nat_eq (mask % 2) 1) (shards_from bits (suc n) (mask / 2)) refl refl (mod-lt mask)
    (with_bit (2 ^ n) (mask / 2) (mask % 2) mask (mask_of (shards_from bits (suc n) (mask / 2))) (div-add-mod mask 2) rest)
  where
    mod-lt : (k : ℕ) → k % 2 < 2
    mod-lt k = omega arith

    half_below : (k power : ℕ) → k < power * 2 → k / 2 < power
    half_below k power less = omega (arith, less)

-- the mask of the shards of 16 bits
pub mask_again : (mask : ℕ) → mask < 2 ^ 16 → mask_of (shards_of_mask mask) ≡ mask
mask_again mask h = mask_from 16 0 mask h ∙ one-mul mask

-- no bit is set in 0
pub no_shards : (bits n : ℕ) → shards_from bits n 0 ≡ []
no_shards zero n = refl
no_shards (suc bits) n = no_shards bits (suc n)

-- one bit is one shard
pub shards_from-bit : (bits n k : ℕ) → k < bits → shards_from bits n (2 ^ k) ≡ (n + k) ∷ []
shards_from-bit zero n k h = absurd (omega (arith, h))
shards_from-bit (suc bits) n zero h = ap (λ rest. n ∷ rest) (no_shards bits (suc n)) ∙ ap (λ m. m ∷ []) (sym (add-zero n))
shards_from-bit (suc bits) n (suc k) h =
    let bit : 2 ^ suc k % 2 ≡ 0 = ap (λ p. p % 2) (pow-suc 2 k) ∙ mul-mod_left (2 ^ k) 2 in
    let half : 2 ^ suc k / 2 ≡ 2 ^ k = ap (λ p. p / 2) (pow-suc 2 k) ∙ mul-div_cancel (2 ^ k) (omega arith) in
    rw (bit, half) (shards_from-bit bits (suc n) k (omega (arith, h)) ∙ ap (λ m. m ∷ []) (omega arith))

-- the shard of one bit of 16
pub shards_of-bit : (k : ℕ) → k < 16 → shards_of_mask (2 ^ k) ≡ k ∷ []
shards_of-bit k h = shards_from-bit 16 0 k h ∙ ap (λ m. m ∷ []) (zero-add k)
