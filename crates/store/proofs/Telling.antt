-- What a viewer tells of a key's versions once its shard serves two timestamps.
use Rattle.std.proofs.Common.{◌≡◌, ℕ, ◌⊎◌, inl, inr, Bool, true, false, true≢false, Result, Ok, Err, refl, sym, ap, ◌∙◌, subst}
use Rattle.std.specs.Prelude.{IfErr, filter, nat_le, List}
use Rattle.units.specs.declared.writes.Install.{Install}
use mathlib.Core.List.{IsPrefix}
use Rattle.units.specs.Keys.{Bytes}
use Rattle.units.specs.Looks.{IsRefusedLook}
use Rattle.units.specs.declared.fault.Fault.{Fault}
use Rattle.units.specs.declared.fault.Fault.TheVariants.{NotYet, Stopped}
use Rattle.board.specs.declared.home.Home.{Home}
use Rattle.board.specs.declared.history.History.{History}
use Rattle.board.specs.Board.{horizon_on, safe_on}
use Rattle.board.specs.Look.{is_at_home}
use Rattle.board.specs.Histories.{ToldBy}
use Rattle.board.specs.Pages.{IsServed, IsUnlisted}
use Rattle.board.specs.Views.{Viewing}
use Rattle.store.specs.Views.{IsLater, IsNewest}
use Rattle.store.specs.Ranges.{IsUnlistedBy}
use Rattle.store.specs.Histories.{IsEarly, IsToldBy, IsUntoldBy}
use Rattle.store.proofs.Shown.{Stays, not_later, prefix_trans}
use Rattle.store.proofs.Waiting.{is_stopped, not_served, still_not_served, stopped_is}

-- a viewer that has only waited: it has seen nothing, or a list that does not serve both times
abbrev pub Waited : Viewing → Viewing → Bytes → ℕ → ℕ → Type 0
Waited old now key from to = (now ≡ old) ⊎ IsEarly old now key from to

pub waited_of : {A : Type 0} (old now : Viewing) (key : Bytes) (from to : ℕ) → (A × (now ≡ old)) ⊎ IsEarly old now key from to → Waited old now key from to
waited_of old now key from to (inl is) = inl is.1
waited_of old now key from to (inr is) = inr is

pub later : (old now : Viewing) (key : Bytes) (from to : ℕ) → Waited old now key from to → IsLater old now
later old now key from to (inl same) = subst (λ (v : Viewing). IsLater old v) (sym same) (not_later old)
later old now key from to (inr (inl is)) = is.0.later
later old now key from to (inr (inr is)) = is.0.later

newest : (old now after : Viewing) (key : Bytes) (from to : ℕ) (result : Result History Fault)
    → IsLater old now → Stays now after → ToldBy now key from to result after → IsNewest old after
newest old now after key from to result later same told = record {
  later = record {
    board = same.0 ∙ later.board;
    home = same.1 ∙ later.home;
    told = same.2 ∙ later.told;
    seen = prefix_trans old.seen now.seen after.seen later.seen told.later;
  };
  told = subst (λ (l : _). IsPrefix l after.seen) later.told told.told;
  lawful = told.lawful;
}

-- a history that is given, up to the last time
pub told_by : (old now after : Viewing) (key : Bytes) (from to : ℕ) (history : History) (versions : List Install)
    → IsLater old now → Stays now after → ToldBy now key from to (Ok history) after → versions ≡ filter (λ version. nat_le version.at to) history.versions.items
    → IsToldBy old after key from to versions history.next
told_by old now after key from to history versions later same told cut = record {
  newest = newest old now after key from to (Ok history) later same told;
  first = subst (λ (h : Home). IsServed h after.seen key from) later.home (told.answered.served refl).0;
  last = subst (λ (h : Home). IsServed h after.seen key to) later.home (told.answered.served refl).1;
  history = (history.versions.items, cut, told.answered.history);
  stays = told.stays refl;
}

abbrev stops : Result History Fault → Bool
stops (Ok history) = false
stops (Err fault) = is_stopped fault

pub is_no_end : (history : History) → Ok history ≡ Err Stopped → ⊥
is_no_end history is = true≢false (sym (ap stops is))

-- a refusal, after the viewer has only waited
pub untold : (old now after : Viewing) (key : Bytes) (from to : ℕ) (result : Result History Fault) (fault : Fault)
    → Waited old now key from to → Stays now after → (result ≡ Err Stopped → after ≡ now)
    → ((result ≡ Err Stopped → ⊥) → ToldBy now key from to result after) → result ≡ Err fault → IsUntoldBy old after key from to fault
untold old now after key from to result fault waited same stopped told refused = by_kind (is_stopped fault) refl
  where
    behind : IsLater old now
    behind = later old now key from to waited

    as_before : fault ≡ Stopped → after ≡ now → Waited old now key from to → IsUntoldBy old after key from to fault
    as_before ends stays (inl is) = inl (inr (inr (ends, inr (stays ∙ is))))
    as_before ends stays (inr is) = early (subst (λ (v : Viewing). IsEarly old v key from to) (sym stays) is)
      where
        early : IsEarly old after key from to → IsUntoldBy old after key from to fault
        early (inl is) = inl (inr (inr (ends, inl is)))
        early (inr is) = inr (inr (inr (ends, inl is)))

    at_time : (at : ℕ) → IsNewest old after → IsUnlisted now.home after.seen key at fault → IsUnlistedBy old after key at fault
    at_time at list (inl is) = inl is
    at_time at list (inr is) =
        inr (inl (list, inl (subst (λ (h : Home). IsRefusedLook (is_at_home h key) (horizon_on after.seen) (safe_on after.seen) at fault) behind.home is)))

    by_cause : IsNewest old after → IsUnlisted now.home after.seen key from fault ⊎ IsUnlisted now.home after.seen key to fault
        → IsUntoldBy old after key from to fault
    by_cause list (inl is) = inl (at_time from list is)
    by_cause list (inr is) = inr (at_time to list is)

    by_kind : (b : Bool) → is_stopped fault ≡ b → IsUntoldBy old after key from to fault
    by_kind true is =
        let ends = stopped_is fault is in
        as_before ends (stopped (refused ∙ ap Err ends)) waited
    by_kind false is =
        let by = told (λ ended. true≢false (sym (ap stops ended) ∙ (ap stops refused ∙ is))) in
        by_cause (newest old now after key from to result behind same by)
        (subst (λ (r : Result History Fault). IfErr r (λ f. IsUnlisted now.home after.seen key from f ⊎ IsUnlisted now.home after.seen key to f)) refused by.answered.refused)

-- what is refused as not served yet is not served
pub still_early : (old after : Viewing) (key : Bytes) (from to : ℕ) → IsUntoldBy old after key from to NotYet → IsEarly old after key from to
still_early old after key from to (inl is) = inl (not_served old after key from is)
still_early old after key from to (inr is) = inr (not_served old after key to is)

-- a view that waits no more
pub not_told_yet : (old after : Viewing) (key : Bytes) (from to : ℕ) → IsEarly old after key from to → IsUntoldBy old after key from to NotYet
not_told_yet old after key from to (inl is) = inl (still_not_served old after key from is)
not_told_yet old after key from to (inr is) = inr (still_not_served old after key to is)

-- a shard that has stopped
pub told_no_more : (old after : Viewing) (key : Bytes) (from to : ℕ) → IsEarly old after key from to → IsUntoldBy old after key from to Stopped
told_no_more old after key from to (inl is) = inl (inr (inr (refl, inl is)))
told_no_more old after key from to (inr is) = inr (inr (inr (refl, inl is)))
