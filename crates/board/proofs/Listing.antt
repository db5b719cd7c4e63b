-- How pages of keys grow.
use Rattle.std.proofs.Common.{◌≡◌, ℕ, ◌<◌, ◌≤◌, Bool, true, false, cond, ◌||◌, List, [], ◌∷◌, ◌++◌, Option, Some, None, IsSome, All}
use Rattle.std.proofs.Common.{refl, sym, ap, subst, ◌∙◌, arith, is_some}
use Rattle.std.proofs.lemmas.Bool.{false≢true, and_parts}
use Rattle.std.proofs.lemmas.List.Elements.{All-nil, All-head, All-tail, All-push, All-weaker}
use Rattle.std.proofs.lemmas.List.Folds.{list_any-append}
use Rattle.units.specs.Keys.{Bytes, same_key, key_before, has_key}
use Rattle.units.proofs.KeyLaws.{same_key-refl, same_key-is, key_before-trans, key_before-irreflexive, key_before-total}
use Rattle.units.specs.Lists.{ascends}
use Rattle.units.specs.Versions.{at_time}
use Rattle.units.specs.declared.writes.Install.{Install}
use Rattle.versions.specs.Next.{IsNextKey}
use Rattle.board.specs.declared.home.Home.{Home}
use mathlib.Core.List.{IsPrefix}
use Rattle.versions.specs.Places.{SameFrom}
use Rattle.board.specs.declared.entry.BoardEntry.{BoardEntry}
use Rattle.board.specs.Board.{is_board, has_safe, safe_on, horizon_on, versions_on}
use Rattle.board.specs.Look.{is_at_home}
use Rattle.board.proofs.Longer.{same_value, stays, safe_on-more}
use Rattle.std.proofs.Common.{Result, Err, IsOk, IfOk, IfErr, inl, inr}
use Rattle.units.specs.declared.fault.Fault.{Fault}
use Rattle.units.specs.declared.fault.Fault.TheVariants.{NotYet}
use Rattle.board.specs.declared.pages.KeyPage.{KeyPage}
use Rattle.board.specs.State.{Page, board_state}
use Rattle.board.specs.OneList.{SeenStates, IsFair}
use Rattle.board.specs.Views.{Viewing, newest_of}
use Rattle.board.specs.Pages.{is_before, cut_off, IsWithin, AreListed, IsPage, GoesOn, IsServed, IsUnlisted, ListedBy, value_by, value_at_home}

-- a key is before another, it is that, or it comes after it
by_keys : {R : Type 0} (a b : Bytes) → (key_before a b ≡ true → R) → (a ≡ b → R) → (key_before b a ≡ true → R) → R
by_keys {R = R} a b before here after = by_tests (key_before a b) (same_key a b) refl refl
  where
    by_tests : (x y : Bool) → key_before a b ≡ x → same_key a b ≡ y → R
    by_tests true y k l = before k
    by_tests false true k l = here (same_key-is a b l)
    by_tests false false k l = after (key_before-total a b l k)

never : {R : Type 0} (a : Bytes) → key_before a a ≡ true → R
never a h = absurd (false≢true (sym (key_before-irreflexive a) ∙ h))

-- a key that is not before another comes before all that is after that
from_before : (from key next : Bytes) → key_before key from ≡ false → key_before key next ≡ true → key_before from next ≡ true
from_before from key next least lt =
    by_keys from key (λ less. key_before-trans from key next less lt) (λ (is : from ≡ key). ap (λ k. key_before k next) is ∙ lt)
    (λ more. absurd (false≢true (sym least ∙ more)))

before_end : (from key : Bytes) (to : Option Bytes) → key_before key from ≡ false → is_before key to ≡ true → is_before from to ≡ true
before_end from key None least most = refl
before_end from key (Some end) least most = from_before from key end least most

before_both : (a b : Bytes) (to : Option Bytes) → key_before a b ≡ true → is_before b to ≡ true → is_before a to ≡ true
before_both a b None lt most = refl
before_both a b (Some end) lt most = key_before-trans a b end lt most

ascends_push : (keys : List Bytes) (k : Bytes) → ascends key_before keys ≡ true → All (λ key. key_before key k ≡ true) keys →
    ascends key_before (keys ++ k ∷ []) ≡ true
ascends_push [] k up before = refl
ascends_push (x ∷ []) k up before = rw (All-head (λ key. key_before key k ≡ true) x [] before) refl
ascends_push (x ∷ y ∷ rest) k up before =
    let parts = and_parts _ _ up in
    let first : key_before x y ≡ true = parts.0 in
    rw first (ascends_push (y ∷ rest) k parts.1 (All-tail (λ key. key_before key k ≡ true) x (y ∷ rest) before))

either : (a b : Bool) → b ≡ true → (a || b) ≡ true
either true b h = refl
either false b h = h

-- a key that was listed, and one that is listed now
listed_before : (keys : List Bytes) (k key : Bytes) → has_key keys key ≡ true → has_key (keys ++ k ∷ []) key ≡ true
listed_before keys k key h = list_any-append (same_key key) keys (k ∷ []) ∙ rw h refl

listed_now : (keys : List Bytes) (k : Bytes) → has_key (keys ++ k ∷ []) k ≡ true
listed_now keys k = list_any-append (same_key k) keys (k ∷ []) ∙ either (has_key keys k) (same_key k k || false) (rw (same_key-refl k) refl)

no_value : {R : Type 0} (value : Option Bytes) → value ≡ None → IsSome value → R
no_value value none some = absurd (false≢true (subst IsSome none some))

module _ (values : Bytes → Option Bytes) (from : Bytes) (to next : Option Bytes) (keys : List Bytes) (k : Bytes) (listed : AreListed values from to (Some k) keys)
    (least : key_before k from ≡ false) (most : is_before k to ≡ true)
    (rises : (x : Bytes) → next ≡ Some x → (key_before k x ≡ true) × (is_before x to ≡ true))
    (gap : (x : Bytes) → key_before k x ≡ true → is_before x to ≡ true → is_before x next ≡ true → values x ≡ None) where
  is_up : (n : Option Bytes) → next ≡ n → is_before k next ≡ true
  is_up None is = ap (is_before k) is
  is_up (Some x) is = ap (is_before k) is ∙ (rises x is).0

  goes_up : (key : Bytes) → IsWithin from to (Some k) key → IsWithin from to next key
  goes_up key w = record { since = w.since; until = w.until; earlier = before_both key k next w.earlier (is_up next refl) }

  onward : (x : Bytes) → next ≡ Some x → (key_before from x ≡ true) × (is_before x to ≡ true)
  onward x is = let r = rises x is in (from_before from k x least r.0, r.1)

  -- the key has a value, and is listed
  pub pushed : IsSome (values k) → IsPage values from to (keys ++ k ∷ []) next
  pushed has = record {
    listed = record {
      valued = All-push (λ key. IsSome (values key)) keys k listed.valued has;
      within = All-push (IsWithin from to next) keys k (All-weaker (IsWithin from to (Some k)) (IsWithin from to next) goes_up keys listed.within)
          (record { since = least; until = most; earlier = is_up next refl });
      order = ascends_push keys k listed.order
          (All-weaker (IsWithin from to (Some k)) (λ key. key_before key k ≡ true) (λ key w. w.earlier) keys listed.within);
      whole = λ key w some. by_keys key k (λ lt. listed_before keys k key (listed.whole key (record { since = w.since; until = w.until; earlier = lt }) some))
          (λ (is : key ≡ k). subst (λ (x : Bytes). has_key (keys ++ k ∷ []) x ≡ true) (sym is) (listed_now keys k))
          (λ gt. no_value (values key) (gap key gt w.until w.earlier) some);
    };
    onward = onward;
  }

  -- the key has no value
  pub passed : values k ≡ None → IsPage values from to keys next
  passed none = record {
    listed = record {
      valued = listed.valued;
      within = All-weaker (IsWithin from to (Some k)) (IsWithin from to next) goes_up keys listed.within;
      order = listed.order;
      whole = λ key w some. by_keys key k (λ lt. listed.whole key (record { since = w.since; until = w.until; earlier = lt }) some)
          (λ (is : key ≡ k). no_value (values key) (ap values is ∙ none) some) (λ gt. no_value (values key) (gap key gt w.until w.earlier) some);
    };
    onward = onward;
  }

-- no page is before the first key of a range
pub begins : (values : Bytes → Option Bytes) (from : Bytes) (to : Option Bytes) → AreListed values from to (cut_off (Some from) to) []
begins values from to = record {
  valued = All-nil (λ key. IsSome (values key));
  within = All-nil (IsWithin from to (cut_off (Some from) to));
  order = refl;
  whole = λ key w some. by_end key w (is_before from to) refl;
}
  where
    by_end : (key : Bytes) → IsWithin from to (cut_off (Some from) to) key → (b : Bool) → is_before from to ≡ b → has_key [] key ≡ true
    by_end key w true is = absurd (false≢true (sym w.since ∙ ap (λ b. is_before key (cond b (Some from) None)) (sym is) ∙ w.earlier))
    by_end key w false is = absurd (false≢true (sym is ∙ before_end from key to w.since w.until))

-- and a range begins with its first key, if that is before its end
pub begun : (from : Bytes) (to : Option Bytes) (key : Bytes) → cut_off (Some from) to ≡ Some key → (key_before key from ≡ false) × (is_before key to ≡ true)
begun from to key is = by_end (is_before from to) refl
  where
    by_end : (b : Bool) → is_before from to ≡ b → (key_before key from ≡ false) × (is_before key to ≡ true)
    by_end true k =
        let same : Some from ≡ Some key = ap (λ b. cond b (Some from) None) (sym k) ∙ is in
        let one : from ≡ key = cc in
        (ap (λ x. key_before x from) (sym one) ∙ key_before-irreflexive from, ap (λ x. is_before x to) (sym one) ∙ k)
    by_end false k = let none : None ≡ Some key = ap (λ b. cond b (Some from) None) (sym k) ∙ is in cc

-- a key before the end is before each key that is not
before_beyond : (x n : Bytes) (to : Option Bytes) → is_before x to ≡ true → is_before n to ≡ false → key_before x n ≡ true
before_beyond x n None lt out = absurd (false≢true (sym out))
before_beyond x n (Some end) lt out = by_keys x n (λ less. less) (λ (is : x ≡ n). absurd (false≢true (sym out ∙ ap (λ k. key_before k end) (sym is) ∙ lt)))
    (λ more. absurd (false≢true (sym out ∙ key_before-trans n x end more lt)))

module _ (home : Home) (installs : List Install) (at : ℕ) (to : Option Bytes) (k : Bytes) where
  no_value_here : (x : Bytes) → at_time installs x at ≡ None → value_by home installs at x ≡ None
  no_value_here x none = ap (λ value. cond (is_at_home home x) value None) none ∙ each (is_at_home home x)
    where
      each : (b : Bool) → cond {A = Option Bytes} b None None ≡ None
      each true = refl
      each false = refl

  gap : (r : Option Bytes) → IsNextKey installs k r → (x : Bytes) → key_before k x ≡ true → is_before x to ≡ true → is_before x (cut_off r to) ≡ true →
      value_by home installs at x ≡ None
  gap None h x after until earlier = no_value_here x (h x at after)
  gap (Some n) h x after until earlier = by_end (is_before n to) refl
    where
      by_end : (b : Bool) → is_before n to ≡ b → value_by home installs at x ≡ None
      by_end true is = no_value_here x (h.1 x at after (ap (λ b. is_before x (cond b (Some n) None)) (sym is) ∙ earlier))
      by_end false is = no_value_here x (h.1 x at after (before_beyond x n to until is))

  rises : (r : Option Bytes) → IsNextKey installs k r → (y : Bytes) → cut_off r to ≡ Some y → (key_before k y ≡ true) × (is_before y to ≡ true)
  rises None h y is = cc
  rises (Some n) h y is = by_end (is_before n to) refl
    where
      by_end : (b : Bool) → is_before n to ≡ b → (key_before k y ≡ true) × (is_before y to ≡ true)
      by_end true m =
          let same : Some n ≡ Some y = ap (λ b. cond b (Some n) None) (sym m) ∙ is in
          let one : n ≡ y = cc in
          (ap (key_before k) (sym one) ∙ h.0, ap (λ x. is_before x to) (sym one) ∙ m)
      by_end false m = let none : None ≡ Some y = ap (λ b. cond b (Some n) None) (sym m) ∙ is in cc

  -- one step of a page
  module _ (r next next' : Option Bytes) (keys : List Bytes) (is : next ≡ Some k) (h : IsNextKey installs k r) (cut : next' ≡ cut_off r to) where
    step_listed : (from : Bytes) → AreListed (value_by home installs at) from to next keys → AreListed (value_by home installs at) from to (Some k) keys
    step_listed from listed = subst (λ (n : Option Bytes). AreListed (value_by home installs at) from to n keys) is listed

    pub steps_to : (keys' : List Bytes) → keys' ≡ keys ++ k ∷ [] → IsSome (value_by home installs at k) →
        GoesOn (value_by home installs at) to keys next keys' next'
    steps_to keys' grown has from listed in_range =
        let within = in_range k is in
        subst (λ (ks : List Bytes). IsPage (value_by home installs at) from to ks next') (sym grown)
        (subst (λ (n : Option Bytes). IsPage (value_by home installs at) from to (keys ++ k ∷ []) n) (sym cut)
        (pushed (value_by home installs at) from to (cut_off r to) keys k (step_listed from listed) within.0 within.1 (rises r h) (gap r h) has))

    pub steps_past : (keys' : List Bytes) → keys' ≡ keys → value_by home installs at k ≡ None → GoesOn (value_by home installs at) to keys next keys' next'
    steps_past keys' same none from listed in_range =
        let within = in_range k is in
        subst (λ (ks : List Bytes). IsPage (value_by home installs at) from to ks next') (sym same)
        (subst (λ (n : Option Bytes). IsPage (value_by home installs at) from to keys n) (sym cut)
        (passed (value_by home installs at) from to (cut_off r to) keys k (step_listed from listed) within.0 within.1 (rises r h) (gap r h) none))

-- a page that is done stays as it is
pub stays_done : (values : Bytes → Option Bytes) (to next : Option Bytes) (keys : List Bytes) → next ≡ None → GoesOn values to keys next keys next
stays_done values to next keys is from listed in_range =
    record { listed = listed; onward = λ key some. (let never : None ≡ Some key = sym is ∙ some in cc) }

pub none_of : (value : Option Bytes) → is_some value ≡ false → value ≡ None
none_of None h = refl
none_of (Some x) h = absurd (false≢true (sym h))

-- the first step of a page
pub first_step : (values : Bytes → Option Bytes) (from : Bytes) (to next next' : Option Bytes) (keys keys' : List Bytes) → keys ≡ [] →
    next ≡ cut_off (Some from) to → GoesOn values to keys next keys' next' → IsPage values from to keys' next'
first_step values from to next next' keys keys' none is step =
    step from (subst (λ (n : Option Bytes). AreListed values from to n keys) (sym is)
    (subst (λ (ks : List Bytes). AreListed values from to (cut_off (Some from) to) ks) (sym none) (begins values from to)))
    (λ key at. begun from to key (sym is ∙ at))

-- a later one
pub later_step : (values : Bytes → Option Bytes) (from : Bytes) (to next next' : Option Bytes) (keys keys' : List Bytes) → IsPage values from to keys next →
    GoesOn values to keys next keys' next' → IsPage values from to keys' next'
later_step values from to next next' keys keys' page step =
    step from page.listed (λ key at. let ahead = page.onward key at in (not_yet from key ahead.0, ahead.1))
  where
    not_yet : (a b : Bytes) → key_before a b ≡ true → key_before b a ≡ false
    not_yet a b lt = by_test (key_before b a) refl
      where
        by_test : (c : Bool) → key_before b a ≡ c → key_before b a ≡ false
        by_test true back = never a (key_before-trans a b a lt back)
        by_test false is = is

-- the versions of a list with what is prepared give each key the value that it has at home, from the horizon up to a safe timestamp
pub same_values : (home : Home) (list ahead : List BoardEntry) (installs : List Install) (at : ℕ) → SameFrom (horizon_on list) installs (versions_on ahead)
    → IsPrefix list ahead → is_board ahead ≡ true → has_safe list ≡ true → horizon_on list ≤ at → at ≤ safe_on list
    → value_by home installs at ≡ value_at_home home list at
same_values home list ahead installs at same front lawful has recent le =
    λ i key. cond (is_at_home home key) (same_value list ahead installs key at same front lawful has recent le i) None

-- what a copy of a board answers to a range of keys
abbrev pub AnswersRange : Home → List BoardEntry → Bytes → Option Bytes → ℕ → Result KeyPage Fault → Type 0
AnswersRange home list from to at result = IfOk result (λ page. IsPage (value_at_home home list at) from to page.keys.items page.next)
    × (IsOk result → IsServed home list from at) × IfErr result (IsUnlisted home list from at)

pub too_early : (home : Home) (list : List BoardEntry) (from : Bytes) (at : ℕ) → IsUnlisted home list from at NotYet → safe_on list < at
too_early home list from at (inl is) = cc
too_early home list from at (inr (inl is)) = let other = is.0 in cc
too_early home list from at (inr (inr (inl is))) = let other = is.0 in cc
too_early home list from at (inr (inr (inr is))) = is.3

module _ (viewer : Viewing) (page : Page) (from : Bytes) (to : Option Bytes) (at : ℕ) (result : Result KeyPage Fault) where
  pub listed_by : (known : SeenStates) → known ≡ board_state page ∷ [] → IsPrefix viewer.seen page.list → IsPrefix viewer.told page.list → IsFair page
      → AnswersRange viewer.home page.list from to at result → ListedBy viewer from to at result (record viewer { seen = newest_of known })
  listed_by known is later told fair answers =
      subst (λ (list : List BoardEntry). ListedBy viewer from to at result (record viewer { seen = list })) (sym (ap newest_of is)) record {
        later = later;
        told = told;
        lawful = fair.list;
        page = answers.0;
        served = answers.1;
        refused = answers.2;
        stays = λ ok key. stays key at page.list fair.safe (answers.1 ok).until;
      }

  pub listed_late : IsPrefix viewer.told page.list → is_board page.list ≡ true → AnswersRange viewer.home page.list from to at result
      → at ≤ safe_on viewer.told → result ≡ Err NotYet → ⊥
  listed_late told lawful answers in_time late =
      let refused : IsUnlisted viewer.home page.list from at NotYet = subst (λ r. IfErr r (IsUnlisted viewer.home page.list from at)) late answers.2 in
      let less = too_early viewer.home page.list from at refused in
      let more = safe_on-more viewer.told told.0 (ap is_board told.1 ∙ lawful) in
      let same = ap safe_on told.1 in
      absurd (omega (arith, less, more, same, in_time))
