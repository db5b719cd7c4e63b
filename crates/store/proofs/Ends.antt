-- Where the keys of a shard end.
use Rattle.std.proofs.Common.{◌≡◌, Bool, true, false, cond, not, ◌&&◌, suc, length, arith, List, [], ◌∷◌, Option, Some, None, refl, sym, ap, ◌∙◌}
use Rattle.std.proofs.lemmas.Bool.{false≢true, and_parts}
use Rattle.units.specs.Keys.{Bytes, same_key, key_before, shard_of}
use Rattle.units.proofs.KeyLaws.{same_key-is, key_before-trans, key_before-total}
use Rattle.board.specs.Pages.{is_before, IsWithin}
use Rattle.store.specs.Ranges.{IsShardEnd}

-- a key is before another, it is that, or it comes after it
by_keys : {R : Type 0} (a b : Bytes) → (key_before a b ≡ true → R) → (a ≡ b → R) → (key_before b a ≡ true → R) → R
by_keys {R = R} a b before here after = by_tests (key_before a b) (same_key a b) refl refl
  where
    by_tests : (x y : Bool) → key_before a b ≡ x → same_key a b ≡ y → R
    by_tests true y k l = before k
    by_tests false true k l = here (same_key-is a b l)
    by_tests false false k l = after (key_before-total a b l k)

-- a key that is not before the first comes before all that is after that
from_before : (first key next : Bytes) → key_before key first ≡ false → key_before key next ≡ true → key_before first next ≡ true
from_before first key next least lt =
    by_keys first key (λ less. key_before-trans first key next less lt) (λ (is : first ≡ key). ap (λ k. key_before k next) is ∙ lt)
    (λ more. absurd (false≢true (sym least ∙ more)))

pub before_both : (a b : Bytes) (to : Option Bytes) → key_before a b ≡ true → is_before b to ≡ true → is_before a to ≡ true
before_both a b None lt most = refl
before_both a b (Some end) lt most = key_before-trans a b end lt most

-- a key before the end is before each key that is not
before_beyond : (x n : Bytes) (to : Option Bytes) → is_before x to ≡ true → is_before n to ≡ false → key_before x n ≡ true
before_beyond x n None lt out = absurd (false≢true (sym out))
before_beyond x n (Some end) lt out = by_keys x n (λ less. less) (λ (is : x ≡ n). absurd (false≢true (sym out ∙ ap (λ k. key_before k end) (sym is) ∙ lt)))
    (λ more. absurd (false≢true (sym out ∙ key_before-trans n x end more lt)))

one_more : (split : Bytes) (splits : List Bytes) (a b : Bytes) → key_before a split ≡ key_before b split → shard_of splits a ≡ shard_of splits b →
    shard_of (split ∷ splits) a ≡ shard_of (split ∷ splits) b
unfolding shard_of
one_more split splits a b same rest = λ i. cond (not (same i)) (suc (rest i)) (rest i)

pub no_split : (first : Bytes) (to : Option Bytes) → IsShardEnd [] first to None
unfolding shard_of
no_split first to = record { same = λ key w. refl; ahead = λ key is. cc }

module _ (split : Bytes) (splits : List Bytes) (first : Bytes) (to nearest : Option Bytes) (rest : IsShardEnd splits first to nearest) where
  pub nearer : (key_before first split && is_before split to && is_before split nearest) ≡ true → IsShardEnd (split ∷ splits) first to (Some split)
  nearer h =
      let outer = and_parts (key_before first split && is_before split to) (is_before split nearest) h in
      let inner = and_parts (key_before first split) (is_before split to) outer.0 in
      let after : key_before first split ≡ true = inner.0 in
      let until : is_before split to ≡ true = inner.1 in
      let near : is_before split nearest ≡ true = outer.1 in
      record {
        same = λ key w. one_more split splits key first (w.earlier ∙ sym after)
            (rest.same key (record { since = w.since; until = w.until; earlier = before_both key split nearest w.earlier near }));
        ahead = λ key is. (let one : split ≡ key = cc in (ap (key_before first) (sym one) ∙ after, ap (λ k. is_before k to) (sym one) ∙ until));
      }

  pub farther : (key_before first split && is_before split to && is_before split nearest) ≡ false → IsShardEnd (split ∷ splits) first to nearest
  farther h = record {
    same = λ key w. one_more split splits key first (by_first key w (key_before first split) refl) (rest.same key w);
    ahead = rest.ahead;
  }
    where
      by_first : (key : Bytes) → IsWithin first to nearest key → (a : Bool) → key_before first split ≡ a → key_before key split ≡ key_before first split
      by_first key w false is = by_key (key_before key split) refl
        where
          by_key : (b : Bool) → key_before key split ≡ b → key_before key split ≡ key_before first split
          by_key false k = k ∙ sym is
          by_key true k = absurd (false≢true (sym is ∙ from_before first key split w.since k))
      by_first key w true is = by_ends (is_before split to) (is_before split nearest) refl refl ∙ sym is
        where
          by_ends : (b c : Bool) → is_before split to ≡ b → is_before split nearest ≡ c → key_before key split ≡ true
          by_ends false c k l = before_beyond key split to w.until k
          by_ends true false k l = before_beyond key split nearest w.earlier l
          by_ends true true k l = absurd (false≢true (sym h ∙ (λ i. is i && k i && l i)))

pub none_of : (splits : List Bytes) → length splits ≡ 0 → splits ≡ []
none_of [] h = refl
none_of (x ∷ xs) h = absurd (omega (arith, h))
