-- The locks of a record: they hold what it read and alone what it wrote, and conflict with nothing that a row which holds as
-- much does not conflict with.
use Rattle.std.specs.List.{list_any, list_all}
use Rattle.std.proofs.Common.{◌≡◌, Bool, true, false, ◌&&◌, ◌||◌, List, [], ◌∷◌, refl, sym, ap, ◌∙◌, arith}
use Rattle.std.proofs.lemmas.Bool.{false≢true, and_from, and_parts, or_parts}
use Rattle.std.proofs.lemmas.Bool.Decides.{nat_tests}
use Rattle.units.specs.Keys.{Bytes, same_key}
use Rattle.units.specs.Locks.{clash, exclusive, holds, locks_clash, locks_of, modes_clash, shared, with_lock, with_locks}
use Rattle.units.specs.declared.lock.Lock.{Lock}
use Rattle.units.specs.declared.lock.Mode.{Mode}
use Rattle.units.specs.declared.lock.Mode.TheVariants.{Shared, Exclusive}
use Rattle.units.specs.declared.writes.Write.{Write}
use Rattle.units.proofs.KeyLaws.{same_key-is, same_key-refl}
use Rattle.locks.proofs.Clashes.{clash-with_locks}
use Rattle.protocol.specs.Sound.{holds_alone, holds_writes, is_exclusive}
use Rattle.protocol.proofs.AboveVersions.{each_gives}
use Rattle.protocol.proofs.Choices.{holds_later}

abbrev lock : Bytes → Mode → Lock
lock k m = record { key = k; mode = m }

-- ---- what they hold

holds_now : (held : List Lock) (k : Bytes) (m : Mode) → holds (with_lock held (lock k m)) k ≡ true
holds_now [] k m = rw (same_key-refl k) refl
holds_now (h ∷ hs) k m = grind (arith, nat_tests, holds_now hs k m, same_key-refl k)

holds_shared : (rs : List Bytes) (held : List Lock) → list_all (holds (with_locks held (shared rs))) rs ≡ true
holds_shared [] held = refl
holds_shared (k ∷ ks) held =
    and_from _ _ (holds_later (shared ks) (with_lock held (lock k Shared)) k (holds_now held k Shared)) (holds_shared ks (with_lock held (lock k Shared)))

pub holds_reads : (rs : List Bytes) (ws : List Write) → list_all (holds (locks_of rs ws)) rs ≡ true
holds_reads rs ws =
    each_gives (holds (with_locks [] (shared rs))) (holds (locks_of rs ws)) (λ k h. holds_later (exclusive ws) (with_locks [] (shared rs)) k h) rs
    (holds_shared rs [])

-- ---- what they conflict with

-- a weaker lock of the same key conflicts with less
weaker : (l h : Lock) → same_key h.key l.key ≡ true → ((m : Mode) → modes_clash h.mode m ≡ false → modes_clash l.mode m ≡ false)
    → (ms : List Lock) → list_any (locks_clash h) ms ≡ false → list_any (locks_clash l) ms ≡ false
weaker l h same less [] free = refl
weaker l h same less (m ∷ ms) free =
    let p = or_parts (locks_clash h m) (list_any (locks_clash h) ms) free in
    ap (λ b. b || list_any (locks_clash l) ms) (one (same_key l.key m.key) refl p.0) ∙ weaker l h same less ms p.1
  where
    one : (b : Bool) → same_key l.key m.key ≡ b → (same_key h.key m.key && modes_clash h.mode m.mode) ≡ false →
        (same_key l.key m.key && modes_clash l.mode m.mode) ≡ false
    one false e free = ap (λ b. b && modes_clash l.mode m.mode) e
    one true e free =
        let also : same_key h.key m.key ≡ true = ap (λ k. same_key k m.key) (same_key-is h.key l.key same) ∙ e in
        ap (λ b. b && modes_clash l.mode m.mode) e ∙ less m.mode (sym (ap (λ b. b && modes_clash h.mode m.mode) also) ∙ free)

shared_less : (h m : Mode) → modes_clash h m ≡ false → modes_clash Shared m ≡ false
shared_less Shared Shared e = refl
shared_less Shared Exclusive e = e
shared_less Exclusive m e = absurd (false≢true (sym e))

exclusive_less : (h m : Mode) → is_exclusive h ≡ true → modes_clash h m ≡ false → modes_clash Exclusive m ≡ false
exclusive_less Exclusive m x e = e
exclusive_less Shared m x e = absurd (false≢true x)

-- a shared lock of a key that is held conflicts with nothing that was not in conflict
shared_free : (held ms : List Lock) (k : Bytes) → holds held k ≡ true → clash held ms ≡ false → list_any (locks_clash (lock k Shared)) ms ≡ false
shared_free [] ms k h free = absurd (false≢true h)
shared_free (l ∷ ls) ms k h free =
    let p = or_parts (list_any (locks_clash l) ms) (clash ls ms) free in
    by_test (same_key l.key k) refl h p.0 (λ g. shared_free ls ms k g p.1)
  where
    by_test : (b : Bool) → same_key l.key k ≡ b → (b || holds ls k) ≡ true → list_any (locks_clash l) ms ≡ false
        → (holds ls k ≡ true → list_any (locks_clash (lock k Shared)) ms ≡ false) → list_any (locks_clash (lock k Shared)) ms ≡ false
    by_test true e g first rest = weaker (lock k Shared) l e (shared_less l.mode) ms first
    by_test false e g first rest = rest g

-- nor does an exclusive lock of a key that is held alone
exclusive_free : (held ms : List Lock) (k : Bytes) → holds_alone held k ≡ true → clash held ms ≡ false → list_any (locks_clash (lock k Exclusive)) ms ≡ false
exclusive_free [] ms k h free = absurd (false≢true h)
exclusive_free (l ∷ ls) ms k h free =
    let p = or_parts (list_any (locks_clash l) ms) (clash ls ms) free in
    by_test (same_key l.key k && is_exclusive l.mode) refl h p.0 (λ g. exclusive_free ls ms k g p.1)
  where
    by_test : (b : Bool) → (same_key l.key k && is_exclusive l.mode) ≡ b → (b || holds_alone ls k) ≡ true → list_any (locks_clash l) ms ≡ false
        → (holds_alone ls k ≡ true → list_any (locks_clash (lock k Exclusive)) ms ≡ false) → list_any (locks_clash (lock k Exclusive)) ms ≡ false
    by_test true e g first rest =
        let q = and_parts (same_key l.key k) (is_exclusive l.mode) e in
        weaker (lock k Exclusive) l q.0 (λ m. exclusive_less l.mode m q.1) ms first
    by_test false e g first rest = rest g

pub reads_free : (rs : List Bytes) (held ms : List Lock) → list_all (holds held) rs ≡ true → clash held ms ≡ false → clash (shared rs) ms ≡ false
reads_free [] held ms h free = refl
reads_free (k ∷ ks) held ms h free =
    let p = and_parts (holds held k) (list_all (holds held) ks) h in
    ap (λ b. b || clash (shared ks) ms) (shared_free held ms k p.0 free) ∙ reads_free ks held ms p.1 free

pub writes_free : (ws : List Write) (held ms : List Lock) → holds_writes held ws ≡ true → clash held ms ≡ false → clash (exclusive ws) ms ≡ false
writes_free [] held ms h free = refl
writes_free (w ∷ ws) held ms h free =
    let p = and_parts (holds_alone held w.key) (holds_writes held ws) h in
    ap (λ b. b || clash (exclusive ws) ms) (exclusive_free held ms w.key p.0 free) ∙ writes_free ws held ms p.1 free

pub record_free : (rs : List Bytes) (ws : List Write) (held ms : List Lock) → list_all (holds held) rs ≡ true → holds_writes held ws ≡ true →
    clash held ms ≡ false
    → clash (locks_of rs ws) ms ≡ false
record_free rs ws held ms read alone free =
    clash-with_locks (with_locks [] (shared rs)) (exclusive ws) ms (writes_free ws held ms alone free)
    (clash-with_locks [] (shared rs) ms (reads_free rs held ms read free) refl)
