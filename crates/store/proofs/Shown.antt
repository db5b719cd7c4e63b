-- What a look that is answered shows.
use Rattle.std.proofs.Common.{◌≡◌, ℕ, Bool, true, false, true≢false, nat_lt, List, [], ◌++◌, length, take, drop, Option, Some, None, Result, Ok, Err}
use Rattle.std.proofs.Common.{refl, ap, sym, ◌∙◌, subst, append_assoc, append-nil, inl, inr, ◌⊎◌, ◌≤◌}
use Rattle.std.specs.Prelude.{if◌then◌else◌, is_some, IfOk, IfErr, IsSome, IsTrue}
use mathlib.Core.List.{IsPrefix}
use Rattle.std.proofs.lemmas.Bool.{ltb-true, ltb-false}
use Rattle.std.proofs.lemmas.List.{take_at}
use Rattle.units.specs.Keys.{Bytes}
use Rattle.units.specs.Looks.{IsRefusedLook, buffer_filled, look_answer_with, value_seen}
use Rattle.units.specs.declared.fault.Fault.{Fault}
use Rattle.units.specs.declared.fault.Fault.TheVariants.{Memory, NotYet, Room, Stopped, Stranger, TooOld}
use Rattle.units.specs.declared.line.Seen.{Seen}
use Rattle.units.specs.declared.line.Seen.TheVariants.{Value}
use Rattle.board.specs.Board.{horizon_on, safe_on, shown_at}
use Rattle.board.specs.Look.{is_at_home}
use Rattle.board.specs.Views.{LookedBy, Viewing}
use Rattle.board.specs.declared.entry.BoardEntry.{BoardEntry}
use Rattle.board.specs.declared.home.Home.{Home}
use Rattle.store.specs.Views.{IsLater, IsNewest, IsShown, IsUnseenBy, IsUnserved, seen_in}

prefix_self : {A : Type 0} (xs : List A) → IsPrefix xs xs
prefix_self xs = ([], append-nil xs)

pub prefix_trans : {A : Type 0} (xs ys zs : List A) → IsPrefix xs ys → IsPrefix ys zs → IsPrefix xs zs
prefix_trans xs ys zs p q = (p.0 ++ q.0, sym (append_assoc xs p.0 q.0) ∙ (ap (λ w. w ++ q.0) p.1 ∙ q.1))

abbrev is_ok : {A B : Type 0} → Result A B → Bool
is_ok (Ok x) = true
is_ok (Err e) = false

-- what an answer of a look tells: the key is at home, the timestamp is not below the horizon and is served, and the value is in the buffer
record Tells (here old late : Bool) (value : Option Bytes) (seen : Seen) (new : List ℕ) : Type 0 where
  here_is : here ≡ true
  recent : old ≡ false
  in_time : late ≡ false
  same : value ≡ seen_in seen new

abbrev got : Result Seen Fault → Seen → Seen
got (Ok s) t = s
got (Err e) t = t

by_value : (value : Option Bytes) (seen : Seen) (buffer new : List ℕ) → Ok seen ≡ value_seen value (length buffer)
    → new ≡ buffer_filled value buffer → value ≡ seen_in seen new
by_value None seen buffer new is filled = sym (ap (λ s. seen_in s new) (ap (λ r. got r seen) is))
by_value (Some value) seen buffer new is filled = by_room (nat_lt (length buffer) (length value)) is filled
  where
    by_room : (b : Bool) → Ok seen ≡ (if b then Err Room else Ok (Value (length value)))
        → new ≡ (if b then buffer else value ++ drop (length value) buffer) → Some value ≡ seen_in seen new
    by_room true is filled = absurd (true≢false (ap is_ok is))
    by_room false is filled =
        sym (ap (λ s. seen_in s new) (ap (λ r. got r seen) is)
        ∙ (ap (λ (l : List ℕ). Some (take (length value) l)) filled ∙ ap Some (take_at value (drop (length value) buffer) (length value) refl)))

tells : (here old late : Bool) (value : Option Bytes) (seen : Seen) (buffer new : List ℕ)
    → Ok seen ≡ (if here then (if old then Err TooOld else (if late then Err NotYet else value_seen value (length buffer))) else Err Stranger)
    → new ≡ (if here then (if old then buffer else (if late then buffer else buffer_filled value buffer)) else buffer) → Tells here old late value seen new
tells true true late value seen buffer new is filled = absurd (true≢false (ap is_ok is))
tells true false true value seen buffer new is filled = absurd (true≢false (ap is_ok is))
tells true false false value seen buffer new is filled =
    record { here_is = refl; recent = refl; in_time = refl; same = by_value value seen buffer new is filled }
tells false old late value seen buffer new is filled = absurd (true≢false (ap is_ok is))

pub not_later : (viewer : Viewing) → IsLater viewer viewer
not_later viewer = record { board = refl; home = refl; told = refl; seen = prefix_self viewer.seen }

pub not_refused : {A B : Type 0} (x : A) (e : B) → Ok x ≡ Err e → ⊥
not_refused x e is = true≢false (ap is_ok is)

-- a viewer behind one look more
abbrev pub Stays : Viewing → Viewing → Type 0
Stays now after = (after.board ≡ now.board) × (after.home ≡ now.home) × (after.told ≡ now.told)

newest : (old now after : Viewing) (key : Bytes) (at : ℕ) (buffer new : List ℕ) (result : Result Seen Fault)
    → IsLater old now → Stays now after → LookedBy now key at buffer result after new → IsNewest old after
newest old now after key at buffer new result later same looked = record {
  later = record {
    board = same.0 ∙ later.board;
    home = same.1 ∙ later.home;
    told = same.2 ∙ later.told;
    seen = prefix_trans old.seen now.seen after.seen later.seen looked.later;
  };
  told = subst (λ (l : List BoardEntry). IsPrefix l after.seen) later.told looked.told;
  lawful = looked.lawful;
}

-- what the viewer shows by an answered look
shown_by : (old now after : Viewing) (key : Bytes) (at : ℕ) (buffer new : List ℕ) (seen : Seen) (value : Option Bytes)
    → IsLater old now → Stays now after → LookedBy now key at buffer (Ok seen) after new → value ≡ seen_in seen new → IsShown old after key at value
shown_by old now after key at buffer new seen value later same looked is =
    let told =
    tells (is_at_home now.home key) (nat_lt at (horizon_on after.seen)) (nat_lt (safe_on after.seen) at) (shown_at after.seen key at) seen buffer new
    looked.answered looked.filled in
    record {
      newest = newest old now after key at buffer new (Ok seen) later same looked;
      home = subst (λ (h : Home). is_at_home h key ≡ true) later.home told.here_is;
      recent = told.recent;
      served = told.in_time;
      shows = told.same ∙ sym is;
      stays = looked.stays refl;
    }

pub if_shown : (old now after : Viewing) (key : Bytes) (at : ℕ) (buffer new : List ℕ) (seen : Seen) (r : Result (Option Bytes) Fault)
    → IsLater old now → Stays now after → LookedBy now key at buffer (Ok seen) after new → IfOk r (λ value. value ≡ seen_in seen new)
    → IfOk r (IsShown old after key at)
if_shown old now after key at buffer new seen (Ok value) later same looked is =
    shown_by old now after key at buffer new seen value later same looked is
if_shown old now after key at buffer new seen (Err e) later same looked is = tt

-- why a look is refused
abbrev fault_of : {A : Type 0} → Result A Fault → Fault → Fault
fault_of (Ok x) f = f
fault_of (Err e) f = e

-- there is a value at a timestamp that is served
record IsHeld (here : Bool) (horizon safe at : ℕ) (value : Option Bytes) : Type 0 where
  home : IsTrue here
  recent : horizon ≤ at
  served : at ≤ safe
  some : IsSome value

refused_for : (here : Bool) (horizon safe at : ℕ) (value : Option Bytes) (room : ℕ) (fault : Fault)
    → Err fault ≡ look_answer_with here horizon safe value at room
    → IsRefusedLook here horizon safe at fault ⊎ ((fault ≡ Room) × IsHeld here horizon safe at value)
refused_for false horizon safe at value room fault is = inl (inl (ap (λ r. fault_of r fault) is, refl))
refused_for true horizon safe at value room fault is = by_old (nat_lt at horizon) refl is
  where
    Is : Type 0
    Is = IsRefusedLook true horizon safe at fault ⊎ ((fault ≡ Room) × IsHeld true horizon safe at value)

    by_length : (v : Option Bytes) → value ≡ v → horizon ≤ at → at ≤ safe → Err fault ≡ value_seen v room → Is
    by_length None none recent served is = absurd (true≢false (sym (ap is_ok is)))
    by_length (Some v) some recent served is = by_room (nat_lt room (length v)) is
      where
        by_room : (b : Bool) → Err fault ≡ (if b then Err Room else Ok (Value (length v))) → Is
        by_room true is = inr (ap (λ r. fault_of r fault) is, record { home = refl; recent = recent; served = served; some = ap is_some some })
        by_room false is = absurd (true≢false (sym (ap is_ok is)))

    by_late : (b : Bool) → nat_lt safe at ≡ b → horizon ≤ at → Err fault ≡ (if b then Err NotYet else value_seen value room) → Is
    by_late true late recent is = inl (inr (inr (ap (λ r. fault_of r fault) is, refl, recent, ltb-true safe at late)))
    by_late false late recent is = by_length value refl recent (ltb-false safe at late) is

    by_old : (b : Bool) → nat_lt at horizon ≡ b
        → Err fault ≡ (if b then Err TooOld else (if nat_lt safe at then Err NotYet else value_seen value room)) → Is
    by_old true old is = inl (inr (inl (ap (λ r. fault_of r fault) is, refl, ltb-true at horizon old)))
    by_old false old is = by_late (nat_lt safe at) refl (ltb-false at horizon old) is

abbrev is_stopped : {A : Type 0} → Result A Fault → Bool
is_stopped (Err Stopped) = true
is_stopped _ = false

stopped_is : (fault : Fault) → is_stopped {A = Seen} (Err fault) ≡ true → fault ≡ Stopped
stopped_is Stopped is = refl
stopped_is _ is = absurd (true≢false (sym is))

-- a viewer that has only waited: it has seen nothing, or a list that does not serve the timestamp
abbrev pub Waits : Viewing → Viewing → Bytes → ℕ → Type 0
Waits old now key at = (now ≡ old) ⊎ IsUnserved old now key at

pub later_of : (old now : Viewing) (key : Bytes) (at : ℕ) → Waits old now key at → IsLater old now
later_of old now key at (inl same) = subst (λ (v : Viewing). IsLater old v) (sym same) (not_later old)
later_of old now key at (inr is) = is.0.later

pub waits_of : {A : Type 0} (old now : Viewing) (key : Bytes) (at : ℕ) → (A × (now ≡ old)) ⊎ IsUnserved old now key at → Waits old now key at
waits_of old now key at (inl is) = inl is.1
waits_of old now key at (inr is) = inr is

-- a viewer behind a look that is refused, which has only waited till then
pub unseen : (old now after : Viewing) (key : Bytes) (at : ℕ) (buffer new : List ℕ) (result : Result Seen Fault) (fault : Fault)
    → Waits old now key at → Stays now after → (result ≡ Err Stopped → (after ≡ now) × (new ≡ buffer))
    → ((result ≡ Err Stopped → ⊥) → LookedBy now key at buffer result after new) → result ≡ Err fault → IsUnseenBy old after key at fault
unseen old now after key at buffer new result fault waits same stopped looked refused = by_kind (is_stopped {A = Seen} (Err fault)) refl
  where
    later : IsLater old now
    later = later_of old now key at waits

    by_cause : IsNewest old after
        → IsRefusedLook (is_at_home now.home key) (horizon_on after.seen) (safe_on after.seen) at fault
        ⊎ ((fault ≡ Room) × IsHeld (is_at_home now.home key) (horizon_on after.seen) (safe_on after.seen) at (shown_at after.seen key at))
        → IsUnseenBy old after key at fault
    by_cause list (inl is) =
        inl (list, inl (subst (λ (h : Home). IsRefusedLook (is_at_home h key) (horizon_on after.seen) (safe_on after.seen) at fault) later.home is))
    by_cause list (inr is) =
        inl (list, inr (inl is.0, subst (λ (h : Home). IsTrue (is_at_home h key)) later.home is.1.home, is.1.recent, is.1.served, is.1.some))

    as_before : after ≡ now → Waits old now key at → IsUnserved old after key at ⊎ (after ≡ old)
    as_before stays (inl same) = inr (stays ∙ same)
    as_before stays (inr is) = inl (subst (λ (v : Viewing). IsUnserved old v key at) (sym stays) is)

    by_kind : (b : Bool) → is_stopped {A = Seen} (Err fault) ≡ b → IsUnseenBy old after key at fault
    by_kind true is =
        let fault_is = stopped_is fault is in
        inr (fault_is, as_before (stopped (refused ∙ ap Err fault_is)).0 waits)
    by_kind false is =
        let by = looked (λ stopped. true≢false (sym (ap is_stopped stopped) ∙ (ap is_stopped refused ∙ is))) in
        by_cause (newest old now after key at buffer new result later same by)
        (refused_for (is_at_home now.home key) (horizon_on after.seen) (safe_on after.seen) at (shown_at after.seen key at) (length buffer) fault
        (sym refused ∙ by.answered))

abbrev is_not_yet : Fault → Bool
is_not_yet NotYet = true
is_not_yet _ = false

-- what is refused as not served yet is not served
pub unserved : (old after : Viewing) (key : Bytes) (at : ℕ) → IsUnseenBy old after key at NotYet → IsUnserved old after key at
unserved old after key at (inl (list, inl (inl is))) = absurd (true≢false (ap is_not_yet is.0))
unserved old after key at (inl (list, inl (inr (inl is)))) = absurd (true≢false (ap is_not_yet is.0))
unserved old after key at (inl (list, inl (inr (inr is)))) = (list, is.1, is.2, is.3)
unserved old after key at (inl (list, inr is)) = absurd (no_room is.0)
  where
    no_room : (NotYet ≡ Room) ⊎ (NotYet ≡ Memory) → ⊥
    no_room (inl is) = true≢false (ap is_not_yet is)
    no_room (inr is) = true≢false (ap is_not_yet is)
unserved old after key at (inr is) = absurd (true≢false (ap is_not_yet is.0))

pub not_yet : (old after : Viewing) (key : Bytes) (at : ℕ) → IsUnserved old after key at → IsUnseenBy old after key at NotYet
not_yet old after key at is = inl (is.0, inl (inr (inr (refl, is.1, is.2, is.3))))

-- a value that a look has found, and that is not handed on
pub too_much : (old now after : Viewing) (key : Bytes) (at : ℕ) (buffer new : List ℕ) (seen : Seen) (r : Result (Option Bytes) Fault)
    → IsLater old now → Stays now after → LookedBy now key at buffer (Ok seen) after new
    → IfErr r (λ fault. IsSome (seen_in seen new) × ((fault ≡ Memory) ⊎ (fault ≡ Room))) → IfErr r (IsUnseenBy old after key at)
too_much old now after key at buffer new seen (Ok value) later same looked is = tt
too_much old now after key at buffer new seen (Err fault) later same looked is =
    let told =
    tells (is_at_home now.home key) (nat_lt at (horizon_on after.seen)) (nat_lt (safe_on after.seen) at) (shown_at after.seen key at) seen buffer new
    looked.answered looked.filled in
    inl (
      newest old now after key at buffer new (Ok seen) later same looked,
      inr (
        by_fault is.1,
        subst (λ (h : Home). IsTrue (is_at_home h key)) later.home told.here_is,
        ltb-false at (horizon_on after.seen) told.recent,
        ltb-false (safe_on after.seen) at told.in_time,
        ap is_some told.same ∙ is.0,
      ),
    )
  where
    by_fault : (fault ≡ Memory) ⊎ (fault ≡ Room) → (fault ≡ Room) ⊎ (fault ≡ Memory)
    by_fault (inl e) = inr e
    by_fault (inr e) = inl e
