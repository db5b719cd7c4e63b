-- What may follow on a board.
use Rattle.std.proofs.Common.{◌≡◌, ℕ, zero, suc, ◌≤◌, true, ◌&&◌, List, [], ◌∷◌, ◌++◌, take, drop, Option, Some, None, nat_lt, refl, ap, ◌∙◌, subst}
use Rattle.std.proofs.Common.{arith, sym, ◌⊎◌, inl, inr, max, Bool, false, cond, nat_le}
use Rattle.std.proofs.lemmas.Bool.{and_parts}
use Rattle.std.proofs.lemmas.List.{append-nil}
use Rattle.std.proofs.lemmas.Bool.Decides.{nat_tests}
use Rattle.units.specs.Keys.{Bytes}
use Rattle.std.specs.List.{list_all}
use Rattle.units.specs.declared.writes.Install.{Install}
use Rattle.board.specs.declared.entry.BoardEntry.{BoardEntry}
use Rattle.board.specs.declared.entry.BoardEntry.TheVariants.{Installed, Safe, Horizon}
use Rattle.board.specs.Board.{versions_on, safe_from, safe_on, horizon_on, horizon_entries, is_past, is_rising, may_follow, is_board, first_entries}
use Rattle.board.proofs.First.{horizon_on-entries, safe_from-entries, safe_behind}
use Rattle.board.proofs.Longer.{follows_install, follows_safe, follows_horizon}
use Rattle.protocol.specs.Showable.{rises_by_key}
use Rattle.protocol.proofs.Rising.{Alike, alike_more, below, below_more, rise_none, rise_one, rise_parts}
use Rattle.node.specs.InStep.{as_entries}

-- the versions before some entries and those among them, the last first
abbrev stacked : List Install → List BoardEntry → List Install
stacked acc [] = acc
stacked acc (Installed i ∷ es) = stacked (i ∷ acc) es
stacked acc (Safe t ∷ es) = stacked acc es
stacked acc (Horizon t ∷ es) = stacked acc es

-- the last served time, by one before the entries
abbrev last_from : Option ℕ → List BoardEntry → Option ℕ
last_from s [] = s
last_from s (Installed i ∷ es) = last_from s es
last_from s (Safe t ∷ es) = last_from (Some t) es
last_from s (Horizon t ∷ es) = last_from s es

-- the last horizon, by one before the entries
abbrev last_horizon : ℕ → List BoardEntry → ℕ
last_horizon h [] = h
last_horizon h (Installed i ∷ es) = last_horizon h es
last_horizon h (Safe t ∷ es) = last_horizon h es
last_horizon h (Horizon t ∷ es) = last_horizon t es

-- it is none above the greatest
low_horizon : (h : ℕ) (xs : List BoardEntry) → last_horizon h xs ≤ max h (horizon_on xs)
low_horizon h [] = omega arith
low_horizon h (Installed i ∷ xs) = low_horizon h xs
low_horizon h (Safe t ∷ xs) = low_horizon h xs
low_horizon h (Horizon t ∷ xs) = omega (arith, low_horizon t xs)

pub follow_installed : (acc : List Install) (s : Option ℕ) (from : ℕ) (i : Install) (es : List BoardEntry) → is_past s i.at ≡ true
    → below acc i.key i.at ≡ true → may_follow (i ∷ acc) s from es ≡ true → may_follow acc s from (Installed i ∷ es) ≡ true
unfolding may_follow
follow_installed acc s from i es past above rest = rw (past, above) rest

follow_safe : (acc : List Install) (s : Option ℕ) (from t : ℕ) (es : List BoardEntry) → is_rising s t ≡ true → may_follow acc (Some t) from es ≡ true
    → may_follow acc s from (Safe t ∷ es) ≡ true
unfolding may_follow
follow_safe acc s from t es up rest = rw up rest

follow_horizon : (acc : List Install) (s : Option ℕ) (from t : ℕ) (es : List BoardEntry) → nat_le from t ≡ true → may_follow acc s t es ≡ true
    → may_follow acc s from (Horizon t ∷ es) ≡ true
unfolding may_follow
follow_horizon acc s from t es up rest = rw up rest

pub follow_none : (acc : List Install) (s : Option ℕ) (from : ℕ) → may_follow acc s from [] ≡ true
unfolding may_follow
follow_none acc s from = refl

-- what may follow at the end may follow the whole
follow_end : (acc : List Install) (s : Option ℕ) (from : ℕ) (xs ys : List BoardEntry) → may_follow acc s from xs ≡ true
    → may_follow (stacked acc xs) (last_from s xs) (last_horizon from xs) ys ≡ true → may_follow acc s from (xs ++ ys) ≡ true
follow_end acc s from [] ys h k = k
follow_end acc s from (Installed i ∷ xs) ys h k =
    let parts = follows_install acc s from i xs h in
    follow_installed acc s from i (xs ++ ys) parts.0 parts.1 (follow_end (i ∷ acc) s from xs ys parts.2 k)
follow_end acc s from (Safe t ∷ xs) ys h k =
    let parts = follows_safe acc s from t xs h in follow_safe acc s from t (xs ++ ys) parts.0 (follow_end acc (Some t) from xs ys parts.1 k)
follow_end acc s from (Horizon t ∷ xs) ys h k =
    let parts = follows_horizon acc s from t xs h in follow_horizon acc s from t (xs ++ ys) parts.0 (follow_end acc s t xs ys parts.1 k)

below_stacked : (acc : List Install) (xs : List BoardEntry) (key : Bytes) (at : ℕ) → below (stacked acc xs) key at ≡
    (below acc key at && below (versions_on xs) key at)
below_stacked acc [] key at = grind (arith, nat_tests)
below_stacked acc (Installed i ∷ xs) key at = below_stacked (i ∷ acc) xs key at ∙ below_more acc i key at (versions_on xs)
below_stacked acc (Safe t ∷ xs) key at = below_stacked acc xs key at
below_stacked acc (Horizon t ∷ xs) key at = below_stacked acc xs key at

stacked_alike : (xs : List BoardEntry) → Alike (stacked [] xs) (versions_on xs)
stacked_alike xs key at = below_stacked [] xs key at

past_last : (low : ℕ) (s : Option ℕ) (xs : List BoardEntry) (at : ℕ) → (s ≡ Some low) ⊎ (s ≡ None) → nat_lt (safe_from low xs) at ≡ true → is_past
    (last_from s xs) at ≡ true
past_last low s [] at (inl is) h = ap (λ o. is_past o at) is ∙ h
past_last low s [] at (inr is) h = ap (λ o. is_past o at) is
past_last low s (Installed i ∷ xs) at is h = past_last low s xs at is h
past_last low s (Safe t ∷ xs) at is h = past_last t (Some t) xs at (inl refl) h
past_last low s (Horizon t ∷ xs) at is h = past_last low s xs at is h

rising_last : (low : ℕ) (s : Option ℕ) (xs : List BoardEntry) (t : ℕ) → (s ≡ Some low) ⊎ (s ≡ None) → safe_from low xs ≤ t → is_rising (last_from s xs) t ≡ true
rising_last low s [] t (inl is) h = ap (λ o. is_rising o t) is ∙ grind (arith, nat_tests)
rising_last low s [] t (inr is) h = ap (λ o. is_rising o t) is
rising_last low s (Installed i ∷ xs) t is h = rising_last low s xs t is h
rising_last low s (Safe u ∷ xs) t is h = rising_last u (Some u) xs t (inl refl) h
rising_last low s (Horizon u ∷ xs) t is h = rising_last low s xs t is h

-- new versions follow where the same ones do, by versions that are alike, and above a served time
news_follow : (a b : List Install) (s : Option ℕ) (from served : ℕ) (news : List Install) → Alike a b
    → ((at : ℕ) → nat_lt served at ≡ true → is_past s at ≡ true)
    → list_all (λ i. nat_lt served i.at) news ≡ true → may_follow b None 0 (as_entries news) ≡ true → may_follow a s from (as_entries news) ≡ true
news_follow a b s from served [] alike past above h = follow_none a s from
news_follow a b s from served (i ∷ news) alike past above h =
    let parts = follows_install b None 0 i (as_entries news) h in
    follow_installed a s from i (as_entries news) (past i.at ((and_parts _ _ above).0)) (alike i.key i.at ∙ parts.1)
    (news_follow (i ∷ a) (i ∷ b) s from served news (alike_more a b i alike) past ((and_parts _ _ above).1) parts.2)

-- new versions come on a board that has the others
pub board_news : (xs : List BoardEntry) (installs news : List Install) (served : ℕ) → is_board xs ≡ true → versions_on xs ≡ installs → safe_on xs ≤ served
    → list_all (λ i. nat_lt served i.at) news ≡ true → may_follow installs None 0 (as_entries news) ≡ true → is_board (xs ++ as_entries news) ≡ true
board_news xs installs news served lawful same low above order =
    follow_end [] None 0 xs (as_entries news) lawful
    (news_follow (stacked [] xs) installs (last_from None xs) (last_horizon 0 xs) served news (subst (Alike (stacked [] xs)) same (stacked_alike xs))
    (λ at later. past_last 0 None xs at (inr refl) (grind (arith, nat_tests, low))) above order)

-- a served time comes on a board that has none above it
pub board_safe : (xs : List BoardEntry) (t : ℕ) → is_board xs ≡ true → safe_on xs ≤ t → is_board (xs ++ Safe t ∷ []) ≡ true
board_safe xs t lawful low =
    follow_end [] None 0 xs (Safe t ∷ []) lawful (follow_safe (stacked [] xs) (last_from None xs) (last_horizon 0 xs) t []
    (rising_last 0 None xs t (inr refl) low) (follow_none (stacked [] xs) (Some t) (last_horizon 0 xs)))

-- a horizon comes on a board that has none above it
pub board_horizon : (xs : List BoardEntry) (t : ℕ) → is_board xs ≡ true → horizon_on xs ≤ t → is_board (xs ++ Horizon t ∷ []) ≡ true
board_horizon xs t lawful low =
    let up : nat_le (last_horizon 0 xs) t ≡ true = (let last : last_horizon 0 xs ≤ t = omega (arith, low, low_horizon 0 xs) in grind (arith, nat_tests)) in
    follow_end [] None 0 xs (Horizon t ∷ []) lawful (follow_horizon (stacked [] xs) (last_from None xs) (last_horizon 0 xs) t [] up
    (follow_none (stacked [] xs) (last_from None xs) t))

pub as_entries-more : (xs ys : List Install) → as_entries (xs ++ ys) ≡ as_entries xs ++ as_entries ys
as_entries-more [] ys = refl
as_entries-more (i ∷ xs) ys = ap (λ es. Installed i ∷ es) (as_entries-more xs ys)

pub take_drop : (n : ℕ) (xs : List Install) → take n xs ++ drop n xs ≡ xs
take_drop zero xs = refl
take_drop (suc n) [] = refl
take_drop (suc n) (x ∷ xs) = ap (λ ys. x ∷ ys) (take_drop n xs)

pub safe_from-more_entries : (low : ℕ) (xs : List BoardEntry) (ys : List Install) → safe_from low (xs ++ as_entries ys) ≡ safe_from low xs
safe_from-more_entries low [] ys = safe_from-entries low ys
safe_from-more_entries low (Installed i ∷ xs) ys = safe_from-more_entries low xs ys
safe_from-more_entries low (Safe t ∷ xs) ys = safe_from-more_entries t xs ys
safe_from-more_entries low (Horizon t ∷ xs) ys = safe_from-more_entries low xs ys

lawful_behind : (h : ℕ) (xs : List BoardEntry) → is_board xs ≡ true → horizon_on xs ≤ h → is_board (xs ++ horizon_entries h) ≡ true
lawful_behind h xs lawful low = by_test (nat_lt 0 h)
  where
    by_test : (b : Bool) → is_board (xs ++ cond b (Horizon h ∷ []) []) ≡ true
    by_test true = board_horizon xs h lawful low
    by_test false = ap is_board (append-nil xs) ∙ lawful

-- the versions of the core, its horizon and its served time are a board
pub opening_is_board : (installs : List Install) (t h : ℕ) → may_follow [] None 0 (as_entries installs) ≡ true → is_board (first_entries installs t h) ≡ true
opening_is_board installs t h order =
    board_safe (as_entries installs ++ horizon_entries h) t (lawful_behind h (as_entries installs) order (omega (arith, horizon_on-entries installs)))
    (omega (arith, safe_behind h (as_entries installs), safe_from-entries 0 installs))

-- versions that rise follow as entries
pub entries_follow : (before installs : List Install) → rises_by_key before installs ≡ true → may_follow before None 0 (as_entries installs) ≡ true
entries_follow before [] h = follow_none before None 0
entries_follow before (i ∷ is) h =
    let parts = rise_parts before i is h in follow_installed before None 0 i (as_entries is) refl parts.0 (entries_follow (i ∷ before) is parts.1)

-- what rises above some versions rises above others that are below the same timestamps
pub rise_alike : (a b news : List Install) → Alike a b → rises_by_key a news ≡ true → rises_by_key b news ≡ true
rise_alike a b [] alike h = rise_none b
rise_alike a b (i ∷ news) alike h =
    let parts = rise_parts a i news h in
    rise_one b i news (sym (alike i.key i.at) ∙ parts.0) (rise_alike (i ∷ a) (i ∷ b) news (alike_more a b i alike) parts.1)
