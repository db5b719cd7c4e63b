-- What more entries leave as it is.
use mathlib.Core.List.{IsPrefix}
use mathlib.Core.Bool.{true≢false}
use Rattle.std.proofs.Common.{Result, Ok, Err, IsOk, length, max, ◌≡◌, ℕ, ◌<◌, ◌≤◌, Bool, true, false, cond, filter, List, [], ◌∷◌, ◌++◌, Option, Some}
use Rattle.std.proofs.Common.{None, refl, ap, sym, subst, if◌then◌else◌, ◌∙◌, ◌⊎◌, inl, inr, arith, nat_lt, nat_le}
use Rattle.std.proofs.lemmas.Bool.Decides.{nat_tests}
use Rattle.std.proofs.lemmas.Bool.{and_parts}
use Rattle.std.proofs.lemmas.List.{append-nil}
use Rattle.units.proofs.Folds.{gather_append, greatest_append}
use Rattle.units.specs.Lists.{gather, greatest}
use Rattle.std.specs.List.{list_all}
use Rattle.units.specs.Keys.{Bytes}
use Rattle.units.specs.Versions.{of_key, at_time, latest}
use Rattle.units.specs.declared.writes.Install.{Install}
use Rattle.units.specs.declared.fault.Fault.{Fault}
use Rattle.units.specs.declared.fault.Fault.TheVariants.{NotYet, Room, Stranger, TooOld}
use Rattle.units.specs.declared.line.Seen.{Seen}
use Rattle.units.specs.declared.line.Seen.TheVariants.{Value}
use Rattle.versions.specs.Places.{SameFrom}
use Rattle.board.specs.declared.entry.BoardEntry.{BoardEntry}
use Rattle.board.specs.declared.entry.BoardEntry.TheVariants.{Installed, Safe, Horizon}
use Rattle.board.specs.declared.home.Home.{Home}
use Rattle.board.specs.Board.{version_of, versions_on, safe_from, safe_on, has_safe, horizon_in, horizon_on, horizon_entries, shown_at, is_past, is_rising}
use Rattle.board.specs.Board.{may_follow, is_board}
use Rattle.units.specs.Looks.{value_seen, buffer_filled}
use Rattle.board.specs.Look.{AnswerStays, look_answer, look_buffer, is_at_home}
use Rattle.board.specs.State.{AddsVersion, Forgets}
use Rattle.growing.proofs.Prefixes.{prefix_trans}

-- what a lawful install tells
pub follows_install : (installs : List Install) (safe : Option ℕ) (horizon : ℕ) (i : Install) (es : List BoardEntry)
    → may_follow installs safe horizon (Installed i ∷ es) ≡ true
    → (is_past safe i.at ≡ true) × (list_all (λ j. nat_lt j.at i.at) (of_key installs i.key) ≡ true) × (may_follow (i ∷ installs) safe horizon es ≡ true)
unfolding may_follow
follows_install installs safe horizon i es h =
    let outer = and_parts _ _ h in
    let inner = and_parts _ _ outer.0 in
    (inner.0, inner.1, outer.1)

-- what a lawful safe timestamp tells
pub follows_safe : (installs : List Install) (safe : Option ℕ) (horizon t : ℕ) (es : List BoardEntry) → may_follow installs safe horizon (Safe t ∷ es) ≡ true
    → (is_rising safe t ≡ true) × (may_follow installs (Some t) horizon es ≡ true)
unfolding may_follow
follows_safe installs safe horizon t es h = and_parts _ _ h

-- what a lawful horizon tells
pub follows_horizon : (installs : List Install) (safe : Option ℕ) (horizon t : ℕ) (es : List BoardEntry)
    → may_follow installs safe horizon (Horizon t ∷ es) ≡ true
    → (nat_le horizon t ≡ true) × (may_follow installs safe t es ≡ true)
unfolding may_follow
follows_horizon installs safe horizon t es h = and_parts _ _ h

-- entries that follow a safe timestamp have no version at or below it
none_later : (t safe horizon : ℕ) (installs : List Install) (more : List BoardEntry) → t ≤ safe → may_follow installs (Some safe) horizon more ≡ true
    → filter (λ i. nat_le i.at t) (versions_on more) ≡ []
none_later t safe horizon installs [] le h = refl
none_later t safe horizon installs (Installed i ∷ es) le h =
    let parts = follows_install installs (Some safe) horizon i es h in
    let late : nat_le i.at t ≡ false = (let past : nat_lt safe i.at ≡ true = parts.0 in grind (arith, nat_tests)) in
    rw late (none_later t safe horizon (i ∷ installs) es le parts.2)
none_later t safe horizon installs (Safe u ∷ es) le h =
    let parts = follows_safe installs (Some safe) horizon u es h in
    let le' : t ≤ u = (let up : nat_le safe u ≡ true = parts.0 in grind (arith, nat_tests)) in
    none_later t u horizon installs es le' parts.1
none_later t safe horizon installs (Horizon u ∷ es) le h = none_later t safe u installs es le (follows_horizon installs (Some safe) horizon u es h).1

kept_longer : (t low horizon : ℕ) (installs : List Install) (safe : Option ℕ) (es more : List BoardEntry)
    → (safe ≡ Some low) ⊎ (has_safe es ≡ true) → t ≤ safe_from low es → may_follow installs safe horizon (es ++ more) ≡ true
    → filter (λ i. nat_le i.at t) (versions_on (es ++ more)) ≡ filter (λ i. nat_le i.at t) (versions_on es)
kept_longer t low horizon installs safe [] more (inl is) le h =
    none_later t low horizon installs more le (subst (λ s. may_follow installs s horizon more ≡ true) is h)
kept_longer t low horizon installs safe [] more (inr none) le h = absurd (true≢false (sym none))
kept_longer t low horizon installs safe (Installed i ∷ es) more has le h =
    ap (λ (is : List Install). cond (nat_le i.at t) (i ∷ is) is)
    (kept_longer t low horizon (i ∷ installs) safe es more has le (follows_install installs safe horizon i (es ++ more) h).2)
kept_longer t low horizon installs safe (Safe u ∷ es) more has le h =
    kept_longer t u horizon installs (Some u) es more (inl refl) le (follows_safe installs safe horizon u (es ++ more) h).1
kept_longer t low horizon installs safe (Horizon u ∷ es) more has le h =
    kept_longer t low u installs safe es more has le (follows_horizon installs safe horizon u (es ++ more) h).1

pub stays : (key : Bytes) (t : ℕ) (entries : List BoardEntry) → has_safe entries ≡ true → t ≤ safe_on entries → AnswerStays key t entries
unfolding at_time
stays key t entries has le more h = ap (λ is. latest is key) (kept_longer t 0 0 [] None entries more (inr has) le h)

pub has_safe-more : (xs ys : List BoardEntry) → has_safe xs ≡ true → has_safe (xs ++ ys) ≡ true
has_safe-more [] ys h = absurd (true≢false (sym h))
has_safe-more (Installed i ∷ xs) ys h = has_safe-more xs ys h
has_safe-more (Safe t ∷ xs) ys h = refl
has_safe-more (Horizon t ∷ xs) ys h = has_safe-more xs ys h

pub has_safe-snoc : (xs : List BoardEntry) (t : ℕ) → has_safe (xs ++ Safe t ∷ []) ≡ true
has_safe-snoc [] t = refl
has_safe-snoc (Installed i ∷ xs) t = has_safe-snoc xs t
has_safe-snoc (Safe u ∷ xs) t = refl
has_safe-snoc (Horizon u ∷ xs) t = has_safe-snoc xs t

-- the first entries of a board have a safe timestamp
pub has_safe-first : (xs : List BoardEntry) (horizon safe : ℕ) → has_safe (xs ++ horizon_entries horizon ++ Safe safe ∷ []) ≡ true
has_safe-first xs horizon safe = has_safe-snoc (xs ++ horizon_entries horizon) safe

-- a lawful list's beginning is lawful
front_follows : (installs : List Install) (safe : Option ℕ) (horizon : ℕ) (xs ys : List BoardEntry) → may_follow installs safe horizon (xs ++ ys) ≡ true
    → may_follow installs safe horizon xs ≡ true
unfolding may_follow
front_follows installs safe horizon [] ys h = refl
front_follows installs safe horizon (Installed i ∷ xs) ys h =
    let parts = follows_install installs safe horizon i (xs ++ ys) h in rw (parts.0, parts.1) (front_follows (i ∷ installs) safe horizon xs ys parts.2)
front_follows installs safe horizon (Safe t ∷ xs) ys h =
    let parts = follows_safe installs safe horizon t (xs ++ ys) h in rw parts.0 (front_follows installs (Some t) horizon xs ys parts.1)
front_follows installs safe horizon (Horizon t ∷ xs) ys h =
    let parts = follows_horizon installs safe horizon t (xs ++ ys) h in rw parts.0 (front_follows installs safe t xs ys parts.1)

pub front_is_board : (xs ys : List BoardEntry) → is_board (xs ++ ys) ≡ true → is_board xs ≡ true
front_is_board xs ys h = front_follows [] None 0 xs ys h

pub versions_on-more : (xs ys : List BoardEntry) → versions_on (xs ++ ys) ≡ versions_on xs ++ versions_on ys
versions_on-more xs ys = gather_append version_of xs ys

pub horizon_on-more : (xs ys : List BoardEntry) → horizon_on (xs ++ ys) ≡ max (horizon_on xs) (horizon_on ys)
horizon_on-more xs ys = ap greatest (gather_append horizon_in xs ys) ∙ greatest_append (gather horizon_in xs) (gather horizon_in ys)

-- a longer list has no lower horizon
pub horizon_up : (xs ys : List BoardEntry) → IsPrefix xs ys → max (horizon_on xs) (horizon_on ys) ≡ horizon_on ys
horizon_up xs ys front =
    let all : horizon_on ys ≡ max (horizon_on xs) (horizon_on front.0) = ap horizon_on (sym front.1) ∙ horizon_on-more xs front.0 in omega (arith, all)

-- one more entry
pub safe_from-install : (low : ℕ) (xs : List BoardEntry) (i : Install) → safe_from low (xs ++ Installed i ∷ []) ≡ safe_from low xs
safe_from-install low [] i = refl
safe_from-install low (Installed j ∷ xs) i = safe_from-install low xs i
safe_from-install low (Safe t ∷ xs) i = safe_from-install t xs i
safe_from-install low (Horizon t ∷ xs) i = safe_from-install low xs i

pub safe_from-safe : (low : ℕ) (xs : List BoardEntry) (t : ℕ) → safe_from low (xs ++ Safe t ∷ []) ≡ t
safe_from-safe low [] t = refl
safe_from-safe low (Installed j ∷ xs) t = safe_from-safe low xs t
safe_from-safe low (Safe u ∷ xs) t = safe_from-safe u xs t
safe_from-safe low (Horizon u ∷ xs) t = safe_from-safe low xs t

pub safe_from-horizon : (low : ℕ) (xs : List BoardEntry) (t : ℕ) → safe_from low (xs ++ Horizon t ∷ []) ≡ safe_from low xs
safe_from-horizon low [] t = refl
safe_from-horizon low (Installed j ∷ xs) t = safe_from-horizon low xs t
safe_from-horizon low (Safe u ∷ xs) t = safe_from-horizon u xs t
safe_from-horizon low (Horizon u ∷ xs) t = safe_from-horizon low xs t

-- safe timestamps never fall
safe_rises : (installs : List Install) (low horizon : ℕ) (more : List BoardEntry) → may_follow installs (Some low) horizon more ≡ true
    → low ≤ safe_from low more
safe_rises installs low horizon [] h = omega arith
safe_rises installs low horizon (Installed i ∷ es) h = safe_rises (i ∷ installs) low horizon es (follows_install installs (Some low) horizon i es h).2
safe_rises installs low horizon (Horizon u ∷ es) h = safe_rises installs low u es (follows_horizon installs (Some low) horizon u es h).1
safe_rises installs low horizon (Safe u ∷ es) h =
    let parts = follows_safe installs (Some low) horizon u es h in
    let rest : u ≤ safe_from u es = safe_rises installs u horizon es parts.1 in
    let le : low ≤ u = (let up : nat_le low u ≡ true = parts.0 in grind (arith, nat_tests)) in
    omega (arith, le, rest)

rises_from : (installs : List Install) (safe : Option ℕ) (low horizon : ℕ) (xs more : List BoardEntry) → (safe ≡ Some low) ⊎ (low ≡ 0)
    → may_follow installs safe horizon (xs ++ more) ≡ true → safe_from low xs ≤ safe_from low (xs ++ more)
rises_from installs safe low horizon [] more (inl is) h =
    safe_rises installs low horizon more (subst (λ s. may_follow installs s horizon more ≡ true) is h)
rises_from installs safe low horizon [] more (inr is) h = omega (arith, is)
rises_from installs safe low horizon (Installed i ∷ xs) more has h =
    rises_from (i ∷ installs) safe low horizon xs more has (follows_install installs safe horizon i (xs ++ more) h).2
rises_from installs safe low horizon (Safe u ∷ xs) more has h =
    rises_from installs (Some u) u horizon xs more (inl refl) (follows_safe installs safe horizon u (xs ++ more) h).1
rises_from installs safe low horizon (Horizon u ∷ xs) more has h =
    rises_from installs safe low u xs more has (follows_horizon installs safe horizon u (xs ++ more) h).1

-- a longer list of a board has no lower safe timestamp
pub safe_on-more : (xs more : List BoardEntry) → is_board (xs ++ more) ≡ true → safe_on xs ≤ safe_on (xs ++ more)
safe_on-more xs more h = rises_from [] None 0 0 xs more (inr refl) h

-- the versions of a list with what is prepared answer a look from the horizon up to a safe timestamp as those of the list
pub same_value : (list ahead : List BoardEntry) (installs : List Install) (key : Bytes) (at : ℕ)
    → SameFrom (horizon_on list) installs (versions_on ahead)
    → IsPrefix list ahead → is_board ahead ≡ true → has_safe list ≡ true → horizon_on list ≤ at → at ≤ safe_on list
    → at_time installs key at ≡ shown_at list key at
same_value list ahead installs key at same front lawful has recent le =
    same.at key at recent ∙ (ap (λ (es : List BoardEntry). shown_at es key at) (sym front.1) ∙ stays key at list has le front.0 (ap is_board front.1 ∙ lawful))

abbrev is_not_yet : Result Seen Fault → Bool
is_not_yet (Err NotYet) = true
is_not_yet _ = false

late_value : (here old late : Bool) (value : Option Bytes) (room : ℕ) → is_not_yet
    (if here then (if old then Err TooOld else (if late then Err NotYet else value_seen value room)) else Err Stranger) ≡ true → late ≡ true
late_value true true late value room h = absurd (true≢false (sym h))
late_value true false true value room h = refl
late_value true false false None room h = absurd (true≢false (sym h))
late_value true false false (Some v) room h = by_room (nat_lt room (length v)) h
  where
    by_room : (short : Bool) → is_not_yet (if short then Err Room else Ok (Value (length v))) ≡ true → false ≡ true
    by_room true h = h
    by_room false h = h
late_value false old late value room h = absurd (true≢false (sym h))

ok_by : (here old late : Bool) (rest : Result Seen Fault)
    → IsOk (if here then (if old then Err TooOld else (if late then Err NotYet else rest)) else Err Stranger) → late ≡ false
ok_by true true late rest h = absurd (true≢false (sym h))
ok_by true false true rest h = absurd (true≢false (sym h))
ok_by true false false rest h = refl
ok_by false old late rest h = absurd (true≢false (sym h))

-- what the answer to a look tells
module _ (home : Home) (entries : List BoardEntry) (key : Bytes) (t room : ℕ) where
  pub ok_in_time : IsOk (look_answer home entries key t room) → t ≤ safe_on entries
  ok_in_time h =
      let late : nat_lt (safe_on entries) t ≡ false = ok_by (is_at_home home key) (nat_lt t (horizon_on entries)) (nat_lt (safe_on entries) t)
      (value_seen (shown_at entries key t) room) h in
      grind (arith, nat_tests)

  pub not_yet_late : look_answer home entries key t room ≡ Err NotYet → safe_on entries < t
  not_yet_late h =
      let late : nat_lt (safe_on entries) t ≡ true = late_value (is_at_home home key) (nat_lt t (horizon_on entries)) (nat_lt (safe_on entries) t)
      (shown_at entries key t) room (ap is_not_yet h) in
      grind (arith, nat_tests)

-- a version is prepared
pub takes_install : (old new : List Install) (list log log' : List BoardEntry) (e : BoardEntry) (i : Install) (prepared horizon : ℕ) → e ≡ Installed i
    → log' ≡ log ++ e ∷ []
    → IsPrefix list log → SameFrom (horizon_on list) old (versions_on log) → AddsVersion (horizon_on list) old new i
    → prepared ≡ safe_on log → horizon ≡ horizon_on log
    → IsPrefix list log' × SameFrom (horizon_on list) new (versions_on log') × (prepared ≡ safe_on log') × (horizon ≡ horizon_on log')
takes_install old new list log log' e i prepared horizon is grown front same adds at below =
    let all : log' ≡ log ++ Installed i ∷ [] = grown ∙ ap (λ (x : BoardEntry). log ++ x ∷ []) is in (
      subst (IsPrefix list) (sym all) (prefix_trans list log (log ++ Installed i ∷ []) front (Installed i ∷ [], refl)),
      subst (λ (es : List BoardEntry). SameFrom (horizon_on list) new (versions_on es)) (sym all)
          (subst (SameFrom (horizon_on list) new) (sym (versions_on-more log (Installed i ∷ []))) (adds (versions_on log) same)),
      at ∙ (sym (safe_from-install 0 log i) ∙ ap safe_on (sym all)),
      omega (arith, below, ap horizon_on all, horizon_on-more log (Installed i ∷ [])),
    )

-- an entry is prepared that is no version
takes_mark : (installs : List Install) (list log log' : List BoardEntry) (e : BoardEntry) → versions_on (e ∷ []) ≡ [] → log' ≡ log ++ e ∷ []
    → IsPrefix list log → SameFrom (horizon_on list) installs (versions_on log)
    → IsPrefix list log' × SameFrom (horizon_on list) installs (versions_on log')
takes_mark installs list log log' e none grown front same = (
  subst (IsPrefix list) (sym grown) (prefix_trans list log (log ++ e ∷ []) front (e ∷ [], refl)),
  subst (λ (es : List BoardEntry). SameFrom (horizon_on list) installs (versions_on es)) (sym grown)
      (subst (SameFrom (horizon_on list) installs) (sym (versions_on-more log (e ∷ [])
      ∙ (ap (λ is. versions_on log ++ is) none ∙ append-nil (versions_on log)))) same),
)

-- a safe timestamp is prepared
pub takes_safe : (installs : List Install) (list log log' : List BoardEntry) (e : BoardEntry) (t horizon : ℕ) → e ≡ Safe t → log' ≡ log ++ e ∷ []
    → IsPrefix list log → SameFrom (horizon_on list) installs (versions_on log) → horizon ≡ horizon_on log
    → (IsPrefix list log' × SameFrom (horizon_on list) installs (versions_on log')) × (t ≡ safe_on log') × (horizon ≡ horizon_on log')
takes_safe installs list log log' e t horizon is grown front same below =
    let all : log' ≡ log ++ Safe t ∷ [] = grown ∙ ap (λ (x : BoardEntry). log ++ x ∷ []) is in (
      takes_mark installs list log log' (Safe t) refl all front same,
      sym (safe_from-safe 0 log t) ∙ ap safe_on (sym all),
      omega (arith, below, ap horizon_on all, horizon_on-more log (Safe t ∷ [])),
    )

-- a horizon is prepared
pub takes_horizon : (installs : List Install) (list log log' : List BoardEntry) (e : BoardEntry) (t prepared horizon horizon' : ℕ) → e ≡ Horizon t
    → log' ≡ log ++ e ∷ []
    → IsPrefix list log → SameFrom (horizon_on list) installs (versions_on log) → prepared ≡ safe_on log → horizon ≡ horizon_on log
    → horizon' ≡ max horizon t
    → (IsPrefix list log' × SameFrom (horizon_on list) installs (versions_on log')) × (prepared ≡ safe_on log') × (horizon' ≡ horizon_on log')
takes_horizon installs list log log' e t prepared horizon horizon' is grown front same at below later =
    let all : log' ≡ log ++ Horizon t ∷ [] = grown ∙ ap (λ (x : BoardEntry). log ++ x ∷ []) is in (
      takes_mark installs list log log' (Horizon t) refl all front same,
      at ∙ (sym (safe_from-horizon 0 log t) ∙ ap safe_on (sym all)),
      omega (arith, below, later, ap horizon_on all, horizon_on-more log (Horizon t ∷ [])),
    )

-- what is prepared is shown, and the versions below its horizon are forgotten
pub shows_ahead : (old new : List Install) (list log : List BoardEntry) (before horizon : ℕ) → IsPrefix list log → before ≡ horizon_on list
    → horizon ≡ horizon_on log → SameFrom (horizon_on list) old (versions_on log) → Forgets old new before horizon
    → SameFrom (horizon_on log) new (versions_on log)
shows_ahead old new list log before horizon front is now same forgets =
    subst (λ (h : ℕ). SameFrom h new (versions_on log)) ((λ i. max (is i) (now i)) ∙ horizon_up list log front)
    (forgets (versions_on log) (subst (λ (h : ℕ). SameFrom h old (versions_on log)) (sym is) same))

-- what is answered of a key that is at home, at a timestamp that is served and not below the horizon
module _ (home : Home) (list : List BoardEntry) (key : Bytes) (at : ℕ) (value : Option Bytes) (here : is_at_home home key ≡ true)
    (recent : horizon_on list ≤ at) (in_time : at ≤ safe_on list) (same : value ≡ shown_at list key at) where
  not_old : nat_lt at (horizon_on list) ≡ false
  not_old = grind (arith, nat_tests)

  not_late : nat_lt (safe_on list) at ≡ false
  not_late = grind (arith, nat_tests)

  pub answers_at : (room : ℕ) (r : Result Seen Fault) → r ≡ value_seen value room → r ≡ look_answer home list key at room
  answers_at room r is = is ∙ (ap (λ v. value_seen v room) same ∙ rw (here, not_old, not_late) refl)

  pub fills_at : (old new : List ℕ) → new ≡ buffer_filled value old → new ≡ look_buffer home list key at old
  fills_at old new is = is ∙ (ap (λ v. buffer_filled v old) same ∙ rw (here, not_old, not_late) refl)
