-- What a viewer lists once its shard serves a timestamp.
use Rattle.std.proofs.Common.{◌≡◌, ℕ, ◌⊎◌, inl, inr, Bool, true, false, true≢false, List, Option, Result, Ok, Err, refl, sym, ap, ◌∙◌, subst}
use Rattle.std.specs.Prelude.{IfErr}
use mathlib.Core.List.{IsPrefix}
use Rattle.units.specs.Keys.{Bytes}
use Rattle.units.specs.Looks.{IsRefusedLook}
use Rattle.units.specs.declared.fault.Fault.{Fault}
use Rattle.units.specs.declared.fault.Fault.TheVariants.{Memory, NotYet, Stopped}
use Rattle.board.specs.declared.entry.BoardEntry.{BoardEntry}
use Rattle.board.specs.declared.home.Home.{Home}
use Rattle.board.specs.declared.pages.KeyPage.{KeyPage}
use Rattle.board.specs.Board.{horizon_on, safe_on}
use Rattle.board.specs.Look.{is_at_home}
use Rattle.board.specs.Pages.{IsPage, IsServed, IsUnlisted, ListedBy, value_at_home}
use Rattle.board.specs.Views.{Viewing}
use Rattle.store.specs.Views.{IsLater, IsNewest, IsUnserved, IsUnseenBy}
use Rattle.store.specs.Ranges.{IsListing, IsUnlistedBy}
use Rattle.store.proofs.Shown.{Stays, Waits, prefix_trans, later_of, not_yet, unserved}

newest : (old now after : Viewing) (first : Bytes) (to : Option Bytes) (at : ℕ) (result : Result KeyPage Fault)
    → IsLater old now → Stays now after → ListedBy now first to at result after → IsNewest old after
newest old now after first to at result later same listed = record {
  later = record {
    board = same.0 ∙ later.board;
    home = same.1 ∙ later.home;
    told = same.2 ∙ later.told;
    seen = prefix_trans old.seen now.seen after.seen later.seen listed.later;
  };
  told = subst (λ (l : List BoardEntry). IsPrefix l after.seen) later.told listed.told;
  lawful = listed.lawful;
}

-- a page that is given
pub listed_by : (old now after : Viewing) (first : Bytes) (to : Option Bytes) (at : ℕ) (page : KeyPage)
    → IsLater old now → Stays now after → ListedBy now first to at (Ok page) after → IsListing old after first to at page.keys.items page.next
listed_by old now after first to at page later same listed = record {
  newest = newest old now after first to at (Ok page) later same listed;
  served = subst (λ (h : Home). IsServed h after.seen first at) later.home (listed.served refl);
  page = subst (λ (h : Home). IsPage (value_at_home h after.seen at) first to page.keys.items page.next) later.home listed.page;
  stays = listed.stays refl;
}

abbrev pub is_stopped : Fault → Bool
is_stopped Stopped = true
is_stopped _ = false

pub stopped_is : (fault : Fault) → is_stopped fault ≡ true → fault ≡ Stopped
stopped_is Stopped is = refl
stopped_is _ is = absurd (true≢false (sym is))

abbrev stops : Result KeyPage Fault → Bool
stops (Ok page) = false
stops (Err fault) = is_stopped fault

-- a refusal, after the viewer has only waited
pub unlisted : (old now after : Viewing) (first : Bytes) (to : Option Bytes) (at : ℕ) (result : Result KeyPage Fault) (fault : Fault)
    → Waits old now first at → Stays now after → (result ≡ Err Stopped → after ≡ now)
    → ((result ≡ Err Stopped → ⊥) → ListedBy now first to at result after) → result ≡ Err fault → IsUnlistedBy old after first at fault
unlisted old now after first to at result fault waits same stopped listed refused = by_kind (is_stopped fault) refl
  where
    later : IsLater old now
    later = later_of old now first at waits

    as_before : after ≡ now → Waits old now first at → IsUnserved old after first at ⊎ (after ≡ old)
    as_before stays (inl same) = inr (stays ∙ same)
    as_before stays (inr is) = inl (subst (λ (v : Viewing). IsUnserved old v first at) (sym stays) is)

    by_cause : IsNewest old after → IsUnlisted now.home after.seen first at fault → IsUnlistedBy old after first at fault
    by_cause list (inl is) = inl is
    by_cause list (inr is) =
        inr (inl (list, inl (subst (λ (h : Home). IsRefusedLook (is_at_home h first) (horizon_on after.seen) (safe_on after.seen) at fault) later.home is)))

    by_kind : (b : Bool) → is_stopped fault ≡ b → IsUnlistedBy old after first at fault
    by_kind true is =
        let fault_is = stopped_is fault is in
        inr (inr (fault_is, as_before (stopped (refused ∙ ap Err fault_is)) waits))
    by_kind false is =
        let by = listed (λ ended. true≢false (sym (ap stops ended) ∙ (ap stops refused ∙ is))) in
        by_cause (newest old now after first to at result later same by)
        (subst (λ (r : Result KeyPage Fault). IfErr r (IsUnlisted now.home after.seen first at)) refused by.refused)

abbrev is_memory : Fault → Bool
is_memory Memory = true
is_memory _ = false

-- what is refused as not served yet is not served
pub not_served : (old after : Viewing) (first : Bytes) (at : ℕ) → IsUnlistedBy old after first at NotYet → IsUnserved old after first at
not_served old after first at (inl is) = absurd (true≢false (sym (ap is_memory is)))
not_served old after first at (inr is) = unserved old after first at is

pub is_no_end : (page : KeyPage) → Ok page ≡ Err Stopped → ⊥
is_no_end page is = true≢false (sym (ap stops is))

-- a view that waits no more
pub still_not_served : (old after : Viewing) (first : Bytes) (at : ℕ) → IsUnserved old after first at → IsUnlistedBy old after first at NotYet
still_not_served old after first at is = inr (not_yet old after first at is)
