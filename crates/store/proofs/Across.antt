-- A page of one shard as a page of the whole range.
use Rattle.std.proofs.Common.{◌≡◌, ℕ, true, List, Option, Some, None, IsSome, All, refl, sym, ap, ◌∙◌}
use Rattle.std.specs.Borrow.{Bor}
use Rattle.std.specs.Option.{option_copied, option_or}
use Rattle.std.proofs.lemmas.List.Elements.{All-weaker}
use Rattle.units.specs.Keys.{Bytes, key_before, shard_of}
use Rattle.units.proofs.KeyLaws.{key_before-trans}
use Rattle.board.specs.Pages.{is_before, IsWithin, AreListed, IsPage, value_at_home}
use Rattle.board.specs.Views.{Viewing}
use Rattle.store.specs.Ranges.{IsShardEnd, IsListing, IsListedBy}
use Rattle.store.proofs.Ends.{before_both}

-- the first if it is there, else the second
abbrev pub either : Option Bytes → Option Bytes → Option Bytes
either (Some a) b = Some a
either None b = b

pub is_either : (a b : Option Bytes) → option_or a b ≡ either a b
is_either None b = refl
is_either (Some a) b = refl

pub copied_either : (a b : Option (Bor Bytes)) → option_copied (option_or a b) ≡ either (option_copied a) (option_copied b)
copied_either None b = refl
copied_either (Some a) b = refl

module _ (splits : List Bytes) (first s : Bytes) (to : Option Bytes) (end : IsShardEnd splits first to (Some s)) where
  -- a key before the next page is before the split
  before_split : (next : Option Bytes) → ((key : Bytes) → next ≡ Some key → (key_before first key ≡ true) × (is_before key (Some s) ≡ true))
      → (key : Bytes) → is_before key (either next (Some s)) ≡ true → key_before key s ≡ true
  before_split None onward key h = h
  before_split (Some n) onward key h = key_before-trans key n s h (onward n refl).1

  earlier_still : (next : Option Bytes) (key : Bytes) → is_before key (either next (Some s)) ≡ true → is_before key next ≡ true
  earlier_still None key h = refl
  earlier_still (Some n) key h = h

  earlier_too : (next : Option Bytes) (key : Bytes) → key_before key s ≡ true → is_before key next ≡ true → is_before key (either next (Some s)) ≡ true
  earlier_too None key lt h = lt
  earlier_too (Some n) key lt h = h

  before_to : (key : Bytes) → key_before key s ≡ true → is_before key to ≡ true
  before_to key lt = before_both key s to lt (end.ahead s refl).1

  goes_on : (next : Option Bytes) → ((key : Bytes) → next ≡ Some key → (key_before first key ≡ true) × (is_before key (Some s) ≡ true))
      → (key : Bytes) → either next (Some s) ≡ Some key → (key_before first key ≡ true) × (is_before key to ≡ true)
  goes_on None onward key is = end.ahead key is
  goes_on (Some n) onward key is = let there = onward key is in (there.0, before_to key there.1)

  wider : (values : Bytes → Option Bytes) (keys : List Bytes) (next : Option Bytes) → IsPage values first (Some s) keys next
      → IsPage values first to keys (either next (Some s))
  wider values keys next page = record {
    listed = record {
      valued = page.listed.valued;
      within = All-weaker (IsWithin first (Some s) next) (IsWithin first to (either next (Some s)))
          (λ key w. record { since = w.since; until = before_to key w.until; earlier = earlier_too next key w.until w.earlier }) keys page.listed.within;
      order = page.listed.order;
      whole = λ key w some. page.listed.whole key
          (record { since = w.since; until = before_split next page.onward key w.earlier; earlier = earlier_still next key w.earlier }) some;
    };
    onward = goes_on next page.onward;
  }

  pub across_split : (viewer after : Viewing) (at : ℕ) (keys : List Bytes) (next : Option Bytes) → IsListing viewer after first (Some s) at keys next
      → IsListedBy splits viewer after first to at keys (either next (Some s))
  across_split viewer after at keys next listing = record {
    listing = record {
      newest = listing.newest;
      served = listing.served;
      page = wider (value_at_home viewer.home after.seen at) keys next listing.page;
      stays = listing.stays;
    };
    same = λ key w. end.same key
        (record { since = w.since; until = w.until; earlier = before_split next listing.page.onward key w.earlier });
  }

pub across : (splits : List Bytes) (first : Bytes) (to split : Option Bytes) (viewer after : Viewing) (at : ℕ) (keys : List Bytes) (next : Option Bytes)
    → IsShardEnd splits first to split → IsListing viewer after first (either split to) at keys next
    → IsListedBy splits viewer after first to at keys (either next split)
across splits first to (Some s) viewer after at keys next end listing = across_split splits first s to end viewer after at keys next listing
across splits first to None viewer after at keys None end listing =
    record { listing = listing; same = λ key w. end.same key (record { since = w.since; until = w.until; earlier = refl }) }
across splits first to None viewer after at keys (Some n) end listing =
    record { listing = listing; same = λ key w. end.same key (record { since = w.since; until = w.until; earlier = refl }) }
