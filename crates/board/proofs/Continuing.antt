-- How the history of a key grows.
use Rattle.std.proofs.Common.{◌≡◌, ℕ, ◌<◌, ◌≤◌, Bool, true, false, cond, ◌&&◌, nat_lt, nat_le, List, [], ◌∷◌, ◌++◌, Option, Some, None, All, filter}
use Rattle.std.proofs.Common.{refl, sym, ap, subst, ◌∙◌, arith}
use Rattle.std.specs.List.{list_all}
use Rattle.std.proofs.lemmas.Bool.{and_parts}
use Rattle.std.proofs.lemmas.Bool.Decides.{nat_tests}
use Rattle.std.proofs.lemmas.List.Elements.{All-nil, All-head, All-tail, All-push, All-weaker}
use Rattle.units.specs.Keys.{Bytes}
use Rattle.units.proofs.KeyLaws.{same_key-refl}
use Rattle.units.specs.Lists.{ascends, follow}
use Rattle.units.specs.Versions.{at_time, newest}
use Rattle.units.specs.declared.writes.Install.{Install}
use Rattle.versions.specs.Next.{IsNextVersion}
use Rattle.versions.specs.Ordered.{is_by}
use Rattle.versions.proofs.Newest.{at_time_is}
use Rattle.versions.proofs.OneMore.{newest-last, keep-last}
use mathlib.Core.List.{IsPrefix}
use Rattle.std.proofs.Common.{Result, Err, IfErr, ◌⊎◌, ⊎_elim}
use Rattle.units.specs.declared.fault.Fault.{Fault}
use Rattle.units.specs.declared.fault.Fault.TheVariants.{NotYet}
use Rattle.versions.specs.Places.{SameFrom}
use Rattle.board.specs.declared.entry.BoardEntry.{BoardEntry}
use Rattle.board.specs.declared.home.Home.{Home}
use Rattle.board.specs.declared.history.History.{History}
use Rattle.board.specs.Board.{is_board, has_safe, safe_on, horizon_on, versions_on, shown_at}
use Rattle.board.specs.Pages.{IsUnlisted}
use Rattle.board.specs.State.{Page, board_state}
use Rattle.board.specs.OneList.{SeenStates, IsFair}
use Rattle.board.specs.Views.{Viewing, newest_of}
use Rattle.board.proofs.Longer.{same_value, safe_on-more}
use Rattle.board.proofs.Longer.{stays as stays_at}
use Rattle.board.proofs.Listing.{too_early}
use Rattle.board.specs.Histories.{TellsHistory, ToldBy, is_earlier, earlier_version, IsNextTime, IsListed, AreVersions, IsHistory, Continues}

ascends_push : (versions : List Install) (i : Install) → ascends earlier_version versions ≡ true → All (λ v. nat_lt v.at i.at ≡ true) versions →
    ascends earlier_version (versions ++ i ∷ []) ≡ true
ascends_push [] i up before = refl
ascends_push (x ∷ []) i up before =
    let first : nat_lt x.at i.at ≡ true = All-head (λ v. nat_lt v.at i.at ≡ true) x [] before in rw first refl
ascends_push (x ∷ y ∷ rest) i up before =
    let parts = and_parts _ _ up in
    let first : nat_lt x.at y.at ≡ true = parts.0 in
    rw first (ascends_push (y ∷ rest) i parts.1 (All-tail (λ v. nat_lt v.at i.at ≡ true) x (y ∷ rest) before))

all_below : (test : Install → Bool) (n : ℕ) (versions : List Install) → All (λ v. nat_lt v.at n ≡ true) versions →
    list_all (λ x. nat_lt x.at n) (filter test versions) ≡ true
all_below test n [] before = refl
all_below test n (x ∷ rest) before =
    by_test (test x) (All-head (λ v. nat_lt v.at n ≡ true) x rest before) (all_below test n rest (All-tail (λ v. nat_lt v.at n ≡ true) x rest before))
  where
    by_test : (b : Bool) → nat_lt x.at n ≡ true → list_all (λ y. nat_lt y.at n) (filter test rest) ≡ true →
        list_all (λ y. nat_lt y.at n) (cond b (x ∷ filter test rest) (filter test rest)) ≡ true
    by_test true first others = rw first others
    by_test false first others = others

module _ (values : ℕ → Option Bytes) (key : Bytes) (from to n : ℕ) (next : Option ℕ) (versions : List Install)
    (listed : AreVersions values key from to (Some n) versions) (least : from ≤ n) (most : n ≤ to) (h : IsNextTime values n to next) where
  abbrev new : Install
  new = record { key = key; at = n; value = values n }

  rises : (m : Option ℕ) → IsNextTime values n to m → is_earlier n m ≡ true
  rises None is = refl
  rises (Some m) is = let lt : n < m = is.0 in grind (arith, nat_tests)

  goes_up : (m : Option ℕ) → IsNextTime values n to m → (v : Install) → IsListed key (Some n) v → IsListed key m v
  goes_up None is v was = record { own = was.own; earlier = refl }
  goes_up (Some m) is v was =
      let lt : n < m = is.0 in
      let before : nat_lt v.at n ≡ true = was.earlier in
      record { own = was.own; earlier = grind (arith, nat_tests) }

  -- from the new version's time on its value stays up to what is next
  stays : (m : Option ℕ) → IsNextTime values n to m → (at : ℕ) → n ≤ at → at ≤ to → is_earlier at m ≡ true → values at ≡ values n
  stays None is at since until earlier = is at since until
  stays (Some m) is at since until earlier = is.2 at since (grind (arith, nat_tests))

  is_after : (m : Option ℕ) → IsNextTime values n to m → (at : ℕ) → m ≡ Some at → (from < at) × (at ≤ to)
  is_after None is at some = cc
  is_after (Some m) is at some =
      let one : m ≡ at = cc in
      let lt : n < m = is.0 in
      let le : m ≤ to = is.1 in
      (omega (arith, one, lt, least), omega (arith, one, le))

  before_new : All (λ v. nat_lt v.at n ≡ true) versions
  before_new = All-weaker (IsListed key (Some n)) (λ v. nat_lt v.at n ≡ true) (λ v was. was.earlier) versions listed.each

  same : (at : ℕ) → from ≤ at → at ≤ to → is_earlier at next ≡ true → at_time (versions ++ new ∷ []) key at ≡ values at
  same at since until earlier = by_test (nat_lt at n) refl
    where
      by_test : (b : Bool) → nat_lt at n ≡ b → at_time (versions ++ new ∷ []) key at ≡ values at
      by_test true before =
          let late : nat_le n at ≡ false = grind (arith, nat_tests) in
          let other : is_by key at new ≡ false = (λ i. same_key-refl key i && late i) in
          at_time_is key at (versions ++ new ∷ []) ∙ ap (λ r. follow (newest r) (λ i. i.value)) (keep-last (is_by key at) new versions other)
          ∙ sym (at_time_is key at versions) ∙ listed.same at since until before
      by_test false not_before =
          let le : nat_le n at ≡ true = grind (arith, nat_tests) in
          let passes : is_by key at new ≡ true = (λ i. same_key-refl key i && le i) in
          at_time_is key at (versions ++ new ∷ [])
          ∙ ap (λ found. follow found (λ i. i.value)) (newest-last (is_by key at) new versions passes (all_below (is_by key at) n versions before_new))
          ∙ sym (stays next h at (grind (arith, nat_tests)) until earlier)

  pub grown : IsHistory values key from to (versions ++ record { key = key; at = n; value = values n } ∷ []) next
  grown = record {
    listed = record {
      each = All-push (IsListed key next) versions new (All-weaker (IsListed key (Some n)) (IsListed key next) (goes_up next h) versions listed.each)
          (record { own = refl; earlier = rises next h });
      order = ascends_push versions new listed.order before_new;
      same = same;
    };
    onward = is_after next h;
  }

-- one step
pub steps : (values : ℕ → Option Bytes) (key : Bytes) (to n : ℕ) (next next' : Option ℕ) (versions versions' : List Install) → next ≡ Some n →
    IsNextTime values n to next' → versions' ≡ versions ++ record { key = key; at = n; value = values n } ∷ [] →
    Continues values key to versions next versions' next'
steps values key to n next next' versions versions' is h more from listed in_range =
    let range = in_range n is in
    subst (λ (vs : List Install). IsHistory values key from to vs next') (sym more)
    (grown values key from to n next' versions (subst (λ (m : Option ℕ). AreVersions values key from to m versions) is listed) range.0 range.1 h)

-- the first step
pub first_step : (values : ℕ → Option Bytes) (key : Bytes) (from to : ℕ) (next next' : Option ℕ) (versions versions' : List Install) → versions ≡ [] →
    next ≡ cond (nat_le from to) (Some from) None → Continues values key to versions next versions' next' → IsHistory values key from to versions' next'
first_step values key from to next next' versions versions' none is step =
    step from (subst (λ (vs : List Install). AreVersions values key from to next vs) (sym none)
    (subst (λ (m : Option ℕ). AreVersions values key from to m []) (sym is) (begins (nat_le from to) refl)))
    (λ at some. begun at (nat_le from to) refl (sym is ∙ some))
  where
    begins : (b : Bool) → nat_le from to ≡ b → AreVersions values key from to (cond b (Some from) None) []
    begins true le = record {
      each = All-nil (IsListed key (Some from));
      order = refl;
      same = λ at since until earlier. absurd (grind (arith, nat_tests));
    }
    begins false gt = record {
      each = All-nil (IsListed key None);
      order = refl;
      same = λ at since until earlier. absurd (grind (arith, nat_tests));
    }

    begun : (at : ℕ) (b : Bool) → nat_le from to ≡ b → cond b (Some from) None ≡ Some at → (from ≤ at) × (at ≤ to)
    begun at true le some = let one : from ≡ at = cc in (omega (arith, one), grind (arith, nat_tests))
    begun at false gt some = cc

-- a later one
pub later_step : (values : ℕ → Option Bytes) (key : Bytes) (from to : ℕ) (next next' : Option ℕ) (versions versions' : List Install) →
    IsHistory values key from to versions next → Continues values key to versions next versions' next' → IsHistory values key from to versions' next'
later_step values key from to next next' versions versions' history step =
    step from history.listed (λ at some. let ahead = history.onward at some in (omega (arith, ahead.0), ahead.1))

-- the same where the values in the range are the same
pub history_alike : (values others : ℕ → Option Bytes) (key : Bytes) (from to : ℕ) (versions : List Install) (next : Option ℕ) →
    ((at : ℕ) → from ≤ at → at ≤ to → values at ≡ others at) → IsHistory values key from to versions next → IsHistory others key from to versions next
history_alike values others key from to versions next alike history = record {
  listed = record {
    each = history.listed.each;
    order = history.listed.order;
    same = λ at since until earlier. history.listed.same at since until earlier ∙ alike at since until;
  };
  onward = history.onward;
}

-- what the next version tells of the next time
module _ (installs : List Install) (key : Bytes) (at to : ℕ) where
  pub no_version : IsNextVersion installs key at None → IsNextTime (at_time installs key) at to None
  no_version h time since until = h time since

  pub within : (next : Install) → next.at ≤ to → IsNextVersion installs key at (Some next) → IsNextTime (at_time installs key) at to (Some next.at)
  within next le h = (h.1, le, h.3)

  pub beyond : (next : Install) → to < next.at → IsNextVersion installs key at (Some next) → IsNextTime (at_time installs key) at to None
  beyond next gt h time since until = h.3 time since (omega (arith, gt, until))

-- what a copy of a board tells is that of its list
pub tells : (home : Home) (list ahead : List BoardEntry) (installs : List Install) (key : Bytes) (from to : ℕ) (versions : List Install) (next : Option ℕ)
    → SameFrom (horizon_on list) installs (versions_on ahead) → IsPrefix list ahead → is_board ahead ≡ true → has_safe list ≡ true
    → horizon_on list ≤ from → to ≤ safe_on list
    → IsHistory (at_time installs key) key from to versions next → IsHistory (shown_at list key) key from to versions next
tells home list ahead installs key from to versions next same front lawful has recent le history =
    history_alike (at_time installs key) (shown_at list key) key from to versions next
    (λ at since until. same_value list ahead installs key at same front lawful has (omega (arith, recent, since)) (omega (arith, le, until))) history

module _ (viewer : Viewing) (page : Page) (key : Bytes) (from to : ℕ) (result : Result History Fault) where
  pub told_by : (known : SeenStates) → known ≡ board_state page ∷ [] → IsPrefix viewer.seen page.list → IsPrefix viewer.told page.list → IsFair page
      → TellsHistory viewer.home page.list key from to result → ToldBy viewer key from to result (record viewer { seen = newest_of known })
  told_by known is later told fair answers =
      subst (λ (list : List BoardEntry). ToldBy viewer key from to result (record viewer { seen = list })) (sym (ap newest_of is)) record {
        later = later;
        told = told;
        lawful = fair.list;
        answered = answers;
        stays = λ ok at le. (let last : to ≤ safe_on page.list = (answers.served ok).1.until in
            stays_at key at page.list fair.safe (omega (arith, le, last)));
      }

  pub told_late : IsPrefix viewer.told page.list → is_board page.list ≡ true → TellsHistory viewer.home page.list key from to result
      → (from ≤ safe_on viewer.told) × (to ≤ safe_on viewer.told) → result ≡ Err NotYet → ⊥
  told_late told lawful answers in_time late =
      let refused : IsUnlisted viewer.home page.list key from NotYet ⊎ IsUnlisted viewer.home page.list key to NotYet =
      subst (λ r. IfErr r (λ fault. IsUnlisted viewer.home page.list key from fault ⊎ IsUnlisted viewer.home page.list key to fault)) late answers.refused in
      let more = safe_on-more viewer.told told.0 (ap is_board told.1 ∙ lawful) in
      let same = ap safe_on told.1 in
      ⊎_elim
      (λ (r : IsUnlisted viewer.home page.list key from NotYet).
      (let less = too_early viewer.home page.list key from r in absurd (omega (arith, less, more, same, in_time.0))))
      (λ (r : IsUnlisted viewer.home page.list key to NotYet).
      (let less = too_early viewer.home page.list key to r in absurd (omega (arith, less, more, same, in_time.1)))) refused
