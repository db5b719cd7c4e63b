-- What the latest version was when a reading transaction was logged is its value in the serial run before it.
use Rattle.std.specs.List.{list_any}
use Rattle.std.proofs.Common.{◌≡◌, ◌⊎◌, inl, inr, ℕ, ◌<◌, ◌≤◌, Bool, true, false, not, ◌&&◌, ◌||◌, nat_eq, nat_lt, List, [], ◌∷◌, ◌++◌, length}
use Rattle.std.proofs.Common.{Option, Some, None, refl, sym, ap, subst, ◌∙◌, arith}
use Rattle.std.proofs.lemmas.Bool.{and_parts, or_right, or_left}
use Rattle.std.proofs.lemmas.Bool.Decides.{nat_tests}
use Rattle.units.specs.Limits.{most_rows}
use Rattle.units.specs.Ids.{Id, same_id, older, ids_once}
use Rattle.units.specs.Keys.{Bytes, same_key, shard_of}
use Rattle.units.specs.Lists.{gather}
use Rattle.units.specs.Locks.{clash, exclusive, holds, locks_clash, locks_of, modes_clash, shared, with_locks}
use Rattle.units.specs.Versions.{latest}
use Rattle.units.specs.declared.lock.Lock.{Lock}
use Rattle.units.specs.declared.lock.Mode.{Mode}
use Rattle.units.specs.declared.lock.Mode.TheVariants.{Shared, Exclusive}
use Rattle.units.specs.declared.setup.Setup.{Setup}
use Rattle.units.specs.declared.writes.Install.{Install}
use Rattle.units.specs.declared.writes.Write.{Write}
use Rattle.units.proofs.IdLaws.{same_id-is, same_id-refl}
use Rattle.units.proofs.IdOrder.{any_once}
use Rattle.units.proofs.KeyLaws.{same_key-is}
use Rattle.units.proofs.ByIdLaws.{first_passes}
use Rattle.locks.proofs.Clashes.{clash_comm}
use Rattle.record.specs.Accepted.{Accepted, taken, belongs, fits_beside, locks_standing, standing_locks}
use Rattle.record.specs.History.{Txn, history, before, serial_before}
use Rattle.record.specs.Installs.{installs_of}
use Rattle.record.specs.Records.{Ended, Status, as_ended, id_in, ids_of, is_aborted, committed_of, prepared_of, ended_of}
use Rattle.record.specs.Records.{StandsPrepared, StandsDecided, is_below, retired_of, status_by, status_of, status_written, horizon_of}
use Rattle.record.specs.declared.record.Committed.{Committed}
use Rattle.record.specs.declared.record.Prepared.{Prepared}
use Rattle.record.specs.declared.record.Record.{Record}
use Rattle.record.specs.declared.record.Record.TheVariants.{Prepare, Commit, Abort, Outcome}
use Rattle.record.proofs.LearnAgrees.{accepted_follows}
use Rattle.protocol.specs.Sound.{holds_alone, is_exclusive}
use Rattle.protocol.proofs.RecordLocks.{holds_reads}
use Rattle.world.specs.World.{setup_of}
use Rattle.world.specs.declared.event.Config.{Config}
use Rattle.law.specs.Among.{IsAmong}
use Rattle.law.specs.Evidence.{Scene, Holds}
use Rattle.law.specs.Left.{AreLeft}
use Rattle.law.proofs.Members.{among_left, among_right, some_passes}
use Rattle.law.proofs.Orderly.{IsOrderly, orderly, same_claim, one_decision, one_promise, decided_not_promised}
use Rattle.law.proofs.Picked.{any_of, gather_among}
use Rattle.law.proofs.Logged.{AreLogged}
use Rattle.law.proofs.Retired.{NoneStand, is_standing, none_stand, written_is}
use Rattle.law.proofs.Recorded.{among_first, is_aborted_among, outcome_among}
use Rattle.law.proofs.Resolved.{committed_is, prepared_is, not_committed, not_prepared}
use Rattle.law.proofs.Decisions.{left_logged}
use Rattle.law.proofs.Homes.{log_in, log_logged, no_aborted, one_place, outcome_stamp}
use Rattle.law.proofs.Quiet.{HasEnd}
use Rattle.protocol.proofs.InWay.{holds_exclusive}
use Rattle.law.proofs.Accepts.{AllWriteOnce, Place, place_of, each_at, each_taken, front_taken, one_value}
use Rattle.law.proofs.Serial.{Agree, serial_value}
use Rattle.law.proofs.InHistory.{InHistory, from_history}
use Rattle.law.proofs.Standing.{Wrote, installed, written}

-- ---- promises and decisions

-- the record promises or decides a transaction, at a timestamp, with these reads and writes
abbrev pub Claims : Record → Id → ℕ → List Bytes → List Write → Type 0
Claims (Prepare p) t at ks ws = (p.txn ≡ t) × (p.at ≡ at) × (p.reads ≡ ks) × (p.writes ≡ ws)
Claims (Commit c) t at ks ws = (c.txn ≡ t) × (c.at ≡ at) × (c.reads ≡ ks) × (c.writes ≡ ws)
Claims _ t at ks ws = ⊥

-- a timestamp is above the versions of a log and above the outcomes that it has
pub record IsAboveAll (log : List Record) (at : ℕ) : Type 0 where
  pub versions : (i : Install) → IsAmong (installs_of log) i → i.at < at
  pub ends : (u : Id) (s : ℕ) → IsAmong log (Outcome u (Some s)) → s < at

-- each promise and each decision is above what is before it
abbrev pub IsStamped : List Record → Type 0
IsStamped log = (front : List Record) (r : Record) (back : List Record) (t : Id) (at : ℕ) (ks : List Bytes) (ws : List Write) →
    log ≡ front ++ r ∷ back → Claims r t at ks ws → IsAboveAll front at

-- ---- one place and another

-- a member stands at the place of another, before it or behind it
pub data Order (front : List Record) (r : Record) (f : List Record) (q : Record) : Type 0 where
  IsSame : r ≡ q → front ≡ f → Order front r f q
  IsEarlier : (mid : List Record) → front ≡ f ++ q ∷ mid → Order front r f q
  IsLater : (mid : List Record) → f ≡ front ++ r ∷ mid → Order front r f q

first_same : (x y : Record) (xs ys : List Record) → ◌≡◌ {A = List Record} (x ∷ xs) (y ∷ ys) → (x ≡ y) × (xs ≡ ys)
first_same x y xs ys e = (cc, cc)

pub order : (front : List Record) (r : Record) (back f : List Record) (q : Record) (b : List Record) → front ++ r ∷ back ≡ f ++ q ∷ b → Order front r f q
order [] r back [] q b e = IsSame (first_same r q back b e).0 refl
order [] r back (x ∷ f) q b e = IsLater f (ap (λ z. z ∷ f) (sym (first_same r x back (f ++ q ∷ b) e).0))
order (x ∷ front) r back [] q b e = IsEarlier front (ap (λ z. z ∷ front) (first_same x q (front ++ r ∷ back) b e).0)
order (x ∷ front) r back (y ∷ f) q b e = by_order (order front r back f q b (first_same x y (front ++ r ∷ back) (f ++ q ∷ b) e).1)
  where
    same : x ≡ y
    same = (first_same x y (front ++ r ∷ back) (f ++ q ∷ b) e).0

    cons : (xs ys : List Record) → xs ≡ ys → x ∷ xs ≡ y ∷ ys
    cons xs ys k = ap (λ z. z ∷ xs) same ∙ ap (λ l. y ∷ l) k

    by_order : Order front r f q → Order (x ∷ front) r (y ∷ f) q
    by_order (IsSame k l) = IsSame k (cons front f l)
    by_order (IsEarlier mid k) = IsEarlier mid (cons front (f ++ q ∷ mid) k)
    by_order (IsLater mid k) = IsLater mid (sym (cons (front ++ r ∷ mid) f (sym k)))

-- ---- locks of what is read and of what is written

-- who holds a key is in conflict with who holds it alone
held_clashes : (l : Lock) (others : List Lock) (k : Bytes) → same_key l.key k ≡ true → holds_alone others k ≡ true → list_any (locks_clash l) others ≡ true
held_clashes l [] k e h = cc
held_clashes l (m ∷ ms) k e h = by_test (same_key m.key k && is_exclusive m.mode) refl h (λ g. held_clashes l ms k e g)
  where
    in_conflict : (a b : Mode) → is_exclusive b ≡ true → modes_clash a b ≡ true
    in_conflict Shared Shared f = cc
    in_conflict Shared Exclusive f = refl
    in_conflict Exclusive b f = refl

    tested : (a b c : Bool) → a ≡ true → b ≡ true → ((a && b) || c) ≡ true
    tested true true c f g = refl
    tested true false c f g = cc
    tested false b c f g = cc

    by_test : (b : Bool) → (same_key m.key k && is_exclusive m.mode) ≡ b → (b || holds_alone ms k) ≡ true →
        (holds_alone ms k ≡ true → list_any (locks_clash l) ms ≡ true) → list_any (locks_clash l) (m ∷ ms) ≡ true
    by_test true f g rest =
        let p = and_parts (same_key m.key k) (is_exclusive m.mode) f in
        tested (same_key l.key m.key) (modes_clash l.mode m.mode) (list_any (locks_clash l) ms)
        (subst (λ z. same_key l.key z ≡ true) (sym (same_key-is m.key k p.0)) e) (in_conflict l.mode m.mode p.1)
    by_test false f g rest = or_right (locks_clash l m) _ (rest g)

pub reader_clashes : (held others : List Lock) (k : Bytes) → holds held k ≡ true → holds_alone others k ≡ true → clash held others ≡ true
reader_clashes [] others k h a = cc
reader_clashes (l ∷ ls) others k h a = by_test (same_key l.key k) refl h (λ g. reader_clashes ls others k g a)
  where
    by_test : (b : Bool) → same_key l.key k ≡ b → (b || holds ls k) ≡ true → (holds ls k ≡ true → clash ls others ≡ true) → clash (l ∷ ls) others ≡ true
    by_test true e g rest = or_left (list_any (locks_clash l) others) _ (held_clashes l others k e a)
    by_test false e g rest = or_right (list_any (locks_clash l) others) _ (rest g)

-- what is read is in conflict with what is written
pub read_clashes : (rs ks : List Bytes) (vs ws : List Write) (k : Bytes) (w : Write) → IsAmong rs k → IsAmong ws w → w.key ≡ k →
    clash (locks_of rs vs) (locks_of ks ws) ≡ true
read_clashes rs ks vs ws k w reads writes key =
    reader_clashes (locks_of rs vs) (locks_of ks ws) k (each_at (holds (locks_of rs vs)) rs k (holds_reads rs vs) reads)
    (subst (λ z. holds_alone (locks_of ks ws) z ≡ true) key (each_at (λ (v : Write). holds_alone
    (with_locks (with_locks [] (shared ks)) (exclusive ws)) v.key) ws w (holds_exclusive ws (with_locks [] (shared ks))) writes))

-- ---- what stands keeps out what is in conflict with it

-- the outcome that counts
pub record EndIs (log : List Record) (t : Id) : Type 0 where
  pub ended : Ended
  pub is : ended_of log t ≡ Some ended
  pub among : IsAmong log (Outcome t ended.outcome)

has_end : (log : List Record) (t : Id) → EndIs log t → HasEnd log t
has_end log t x = record { outcome = x.ended.outcome; among = x.among }

-- the log has an outcome of an id, or none
end_or_none : (log : List Record) → AreLogged log → (t : Id) → EndIs log t ⊎ (ended_of log t ≡ None)
end_or_none log logged t = by_value (ended_of log t) refl
  where
    by_value : (o : Option Ended) → ended_of log t ≡ o → EndIs log t ⊎ (o ≡ None)
    by_value None e = inr refl
    by_value (Some x) e = inl (record {
      ended = x;
      is = e;
      among = subst (λ u. IsAmong log (Outcome u x.outcome)) (same_id-is x.txn t (first_passes (λ (y : Ended). same_id y.txn t) (gather as_ended log) x e))
          (outcome_among log logged x (among_first (λ (y : Ended). same_id y.txn t) (gather as_ended log) x e));
    })

-- a promise or a decision without outcome stands, unless it is retired
stands_there : (log : List Record) → IsOrderly log → (r : Record) (t : Id) (at : ℕ) (ks : List Bytes) (ws : List Write) → IsAmong log r →
    Claims r t at ks ws → ended_of log t ≡ None →
    standing_locks (status_written log t) ≡ Some (locks_of ks ws)
unfolding status_written
stands_there log o (Prepare p) t at ks ws h c none = by_parts (is_aborted log t) refl (committed_of log t) refl (prepared_of log t) refl (ended_of log t) none
  where
    by_parts : (a : Bool) → is_aborted log t ≡ a → (d : Option Committed) → committed_of log t ≡ d → (q : Option Prepared) → prepared_of log t ≡ q →
        (e : Option Ended) → e ≡ None → standing_locks (status_by a d q e) ≡ Some (locks_of ks ws)
    by_parts a ha d hd q hq (Some e) he = cc
    by_parts true ha d hd q hq None he =
        absurd (let same = same_claim log o t (Prepare p) (Abort t) h (is_aborted_among log t ha)
        (subst (λ u. same_id u t ≡ true) (sym c.0) (same_id-refl t)) (same_id-refl t) in cc)
    by_parts false ha (Some d) hd q hq None he = let i = committed_is log o.1 t d hd in absurd (decided_not_promised log o d p i.0 h (c.0 ∙ sym i.1))
    by_parts false ha None hd None hq None he = absurd (not_prepared log t p hq h c.0)
    by_parts false ha None hd (Some q) hq None he =
        let i = prepared_is log o.1 t q hq in
        let same : p ≡ q = one_promise log o p q h i.0 (i.1 ∙ sym c.0) in
        ap (λ (z : Prepared). Some (locks_of z.reads z.writes)) (sym same) ∙ ap (λ l. Some (locks_of l p.writes)) c.2 ∙ ap (λ l. Some (locks_of ks l)) c.3
stands_there log o (Commit p) t at ks ws h c none = by_parts (is_aborted log t) refl (committed_of log t) refl (prepared_of log t) refl (ended_of log t) none
  where
    by_parts : (a : Bool) → is_aborted log t ≡ a → (d : Option Committed) → committed_of log t ≡ d → (q : Option Prepared) → prepared_of log t ≡ q →
        (e : Option Ended) → e ≡ None → standing_locks (status_by a d q e) ≡ Some (locks_of ks ws)
    by_parts a ha d hd q hq (Some e) he = cc
    by_parts true ha d hd q hq None he =
        absurd (let same = same_claim log o t (Commit p) (Abort t) h (is_aborted_among log t ha)
        (subst (λ u. same_id u t ≡ true) (sym c.0) (same_id-refl t)) (same_id-refl t) in cc)
    by_parts false ha None hd q hq None he = absurd (not_committed log t p hd h c.0)
    by_parts false ha (Some d) hd q hq None he =
        let i = committed_is log o.1 t d hd in
        let same : p ≡ d = one_decision log o p d h i.0 (i.1 ∙ sym c.0) in
        ap (λ (z : Committed). Some (locks_of z.reads z.writes)) (sym same) ∙ ap (λ l. Some (locks_of l p.writes)) c.2 ∙ ap (λ l. Some (locks_of ks l)) c.3
stands_there log o _ t at ks ws h c none = absurd c

claim_id : (r : Record) (t : Id) (at : ℕ) (ks : List Bytes) (ws : List Write) → Claims r t at ks ws → id_in r ≡ Some t
claim_id (Prepare p) t at ks ws c = ap (λ u. Some u) c.0
claim_id (Commit p) t at ks ws c = ap (λ u. Some u) c.0
claim_id _ t at ks ws c = absurd c

-- so it is not retired, where nothing of a retired id stands
kept_there : (log : List Record) → IsOrderly log → NoneStand log → (r : Record) (t : Id) (at : ℕ) (ks : List Bytes) (ws : List Write) → IsAmong log r →
    Claims r t at ks ws → ended_of log t ≡ None → is_below (retired_of log) t ≡ false
kept_there log o gone r t at ks ws h c none = by_test (is_below (retired_of log) t) refl
  where
    not_standing : (s : Status) → standing_locks s ≡ Some (locks_of ks ws) → is_standing s ≡ false → ⊥
    not_standing (StandsPrepared p) e f = cc
    not_standing (StandsDecided d) e f = cc
    not_standing _ e f = cc

    by_test : (b : Bool) → is_below (retired_of log) t ≡ b → b ≡ false
    by_test true below = absurd (not_standing (status_written log t) (stands_there log o r t at ks ws h c none) (gone t below))
    by_test false below = refl

-- and its locks are among those that stand
locks_stand : (log : List Record) → IsOrderly log → NoneStand log → (r : Record) (t : Id) (at : ℕ) (ks : List Bytes) (ws : List Write) → IsAmong log r →
    Claims r t at ks ws → ended_of log t ≡ None → IsAmong (locks_standing log) (locks_of ks ws)
locks_stand log o gone r t at ks ws h c none =
    gather_among (λ u. standing_locks (status_of log u)) (ids_of log) t (locks_of ks ws) id_there
    (ap standing_locks (written_is log t (kept_there log o gone r t at ks ws h c none)) ∙ stands_there log o r t at ks ws h c none)
  where
    id_there : IsAmong (ids_of log) t
    id_there =
        let there = gather_among id_in log r t h (claim_id r t at ks ws c) in
        let p = some_passes (ids_once (gather id_in log)) (same_id t) (any_once t (gather id_in log)
        ∙ any_of (same_id t) (gather id_in log) t there (same_id-refl t)) in
        subst (λ u. IsAmong (ids_of log) u) (sym (same_id-is t p.member p.passes)) p.among

clashes_none : (held : List Lock) (all : List (List Lock)) (other : List Lock) → list_any (clash held) all ≡ false → IsAmong all other →
    clash held other ≡ true → ⊥
clashes_none held [] other e h k = h
clashes_none held (x ∷ xs) other e (inl same) k = by_test (clash held x) (ap (clash held) same ∙ k) e
  where
    by_test : (b : Bool) → b ≡ true → (b || list_any (clash held) xs) ≡ false → ⊥
    by_test true f g = cc
    by_test false f g = cc
clashes_none held (x ∷ xs) other e (inr later) k = clashes_none held xs other (rest (clash held x) (list_any (clash held) xs) e) later k
  where
    rest : (a b : Bool) → (a || b) ≡ false → b ≡ false
    rest true b f = cc
    rest false b f = f

not_any : (b : Bool) → not b ≡ true → b ≡ false
not_any true e = cc
not_any false e = refl

-- a promise or a decision that is taken is in no conflict with what stands
free_beside : (front : List Record) (q : Record) (t : Id) (at : ℕ) (ks : List Bytes) (ws : List Write) → Claims q t at ks ws →
    fits_beside front q ≡ true → list_any (clash (locks_of ks ws)) (locks_standing front) ≡ false
unfolding fits_beside
free_beside front (Prepare p) t at ks ws c e =
    let a = and_parts (nat_lt (length (locks_standing front)) most_rows && not (list_any (clash (locks_of p.reads p.writes)) (locks_standing front))
    && nat_lt (horizon_of front) p.at) _ e in
    subst (λ l. list_any (clash (locks_of ks l)) (locks_standing front) ≡ false) c.3 (subst
    (λ l. list_any (clash (locks_of l p.writes)) (locks_standing front) ≡ false) c.2 (not_any _ (and_parts _ _ (and_parts _ _ a.0).0).1))
free_beside front (Commit p) t at ks ws c e =
    let a = and_parts (nat_lt (length (locks_standing front)) most_rows && not (list_any (clash (locks_of p.reads p.writes)) (locks_standing front))
    && nat_lt (horizon_of front) p.at) _ e in
    subst (λ l. list_any (clash (locks_of ks l)) (locks_standing front) ≡ false) c.3 (subst
    (λ l. list_any (clash (locks_of l p.writes)) (locks_standing front) ≡ false) c.2 (not_any _ (and_parts _ _ (and_parts _ _ a.0).0).1))
free_beside front _ t at ks ws c e = absurd c

module _ (setup : Setup) (log : List Record) (accepted : taken setup log ≡ Accepted) (logged : AreLogged log) where
  front_orderly : (front back : List Record) → log ≡ front ++ back → IsOrderly front
  front_orderly front back same = orderly setup.shard front (accepted_follows setup front
      (front_taken setup front back (subst (λ l. taken setup l ≡ Accepted) same accepted)))
      (λ r h. logged r (subst (λ l. IsAmong l r) (sym same) (among_left front back r h)))

  front_none : (front back : List Record) → log ≡ front ++ back → NoneStand front
  front_none front back same = none_stand setup front (front_taken setup front back (subst (λ l. taken setup l ≡ Accepted) same accepted))
      (front_orderly front back same).1

  -- of two in conflict the first has its outcome before the second is logged
  pub ended_between : (f mid b : List Record) (r q : Record) (t u : Id) (at bt : ℕ) (rs ks : List Bytes) (vs ws : List Write) →
      log ≡ (f ++ r ∷ mid) ++ q ∷ b → Claims r t at rs vs → Claims q u bt ks ws →
      clash (locks_of ks ws) (locks_of rs vs) ≡ true → EndIs (f ++ r ∷ mid) t
  ended_between f mid b r q t u at bt rs ks vs ws same cr cq clashes = elim (end_or_none (f ++ r ∷ mid) (front_orderly (f ++ r ∷ mid) (q ∷ b) same).1 t) [
    | inl end ↦ end
    | inr none ↦ absurd (clashes_none (locks_of ks ws) (locks_standing (f ++ r ∷ mid)) (locks_of rs vs)
        (free_beside (f ++ r ∷ mid) q u bt ks ws cq (each_taken setup (f ++ r ∷ mid) q b (subst (λ l. taken setup l ≡ Accepted) same accepted)).fits)
        (locks_stand (f ++ r ∷ mid) (front_orderly (f ++ r ∷ mid) (q ∷ b) same) (front_none (f ++ r ∷ mid) (q ∷ b) same) r t at rs vs
        (among_right f (r ∷ mid) r (inl refl)) cr none) clashes)
  ]

-- ---- a read

claim_of_wrote : (q : Record) (v : Txn) (w : Write) → Wrote q v w → (at : ℕ) × (ks : List Bytes) × (ws : List Write) × Claims q v.txn at ks ws
    × (at ≤ v.at) × IsAmong ws w
claim_of_wrote (Prepare p) v w h = (p.at, p.reads, p.writes, (h.0, refl, refl, refl), h.1, h.2)
claim_of_wrote (Commit c) v w h = (c.at, c.reads, c.writes, (h.0, refl, refl, refl), (let e = h.1 in omega (arith, e)), h.2)
claim_of_wrote _ v w h = absurd h

pub same_claim_id : (q : Record) (t u : Id) (at bt : ℕ) (ks js : List Bytes) (ws vs : List Write) → Claims q t at ks ws → Claims q u bt js vs → t ≡ u
same_claim_id (Prepare p) t u at bt ks js ws vs a b = sym a.0 ∙ b.0
same_claim_id (Commit c) t u at bt ks js ws vs a b = sym a.0 ∙ b.0
same_claim_id _ t u at bt ks js ws vs a b = absurd a

before_itself : (v u : Txn) → v.at ≡ u.at → v.txn ≡ u.txn → serial_before v u ≡ true → ⊥
before_itself v u at txn e = itself u.at u.txn (subst (λ t. (nat_lt u.at u.at || (nat_eq u.at u.at && older t u.txn)) ≡ true) txn
    (subst (λ s. (nat_lt s u.at || (nat_eq s u.at && older v.txn u.txn)) ≡ true) at e))
  where
    itself : (s : ℕ) (t : Id) → (nat_lt s s || (nat_eq s s && older t t)) ≡ true → ⊥
    itself s t f = grind (arith, nat_tests)

before_above : (v u : Txn) → u.at < v.at → serial_before v u ≡ true → ⊥
before_above v u above e = by_numbers v.at u.at (older v.txn u.txn) above e
  where
    by_numbers : (a b : ℕ) (c : Bool) → b < a → (nat_lt a b || (nat_eq a b && c)) ≡ true → ⊥
    by_numbers a b c less f = grind (arith, nat_tests)

before_lower : (x u : Txn) → x.at < u.at → serial_before x u ≡ true
before_lower x u less = by_numbers x.at u.at (older x.txn u.txn) less
  where
    by_numbers : (a b : ℕ) (c : Bool) → a < b → (nat_lt a b || (nat_eq a b && c)) ≡ true
    by_numbers a b c f = grind (arith, nat_tests)

module _ (sc : Scene) (h : Holds sc) (logs : List (List Record)) (left : AreLeft sc logs) (config : Config)
    (owns : (n : ℕ) (r : Record) → IsAmong (log_in logs n) r → belongs (setup_of config n) r ≡ true)
    (n : ℕ) (accepted : taken (setup_of config n) (log_in logs n) ≡ Accepted) (once : AllWriteOnce (log_in logs n)) (stamped : IsStamped (log_in logs n))
    -- the promise or the decision of a transaction of the history, which read a key of this shard
    (u : Txn) (there : IsAmong (history logs) u) (front : List Record) (r : Record) (back : List Record) (same : log_in logs n ≡ front ++ r ∷ back)
    (at : ℕ) (ks : List Bytes) (ws : List Write)
    (claims : Claims r u.txn at ks ws) (low : at ≤ u.at) (k : Bytes) (own : shard_of config.splits k ≡ n) (reads : IsAmong ks k) where
  d : InHistory logs u
  d = from_history logs (left_logged sc h logs left) u there

  -- its outcome has its timestamp
  outcome_is : (o : Option ℕ) → IsAmong (log_in logs n) (Outcome u.txn o) → o ≡ Some u.at
  outcome_is None e = absurd (no_aborted sc h logs left d.shard n d.commit d.among (subst (λ (z : Txn). IsAmong (log_in logs n) (Outcome z.txn None))
      (sym d.is) e))
  outcome_is (Some s) e =
      ap (λ z. Some z) (sym (outcome_stamp sc h logs left d.shard n d.commit s d.among (subst
      (λ (z : Txn). IsAmong (log_in logs n) (Outcome z.txn (Some s))) (sym d.is) e)) ∙ ap (λ (z : Txn). z.at) d.is)

  front_within : (q : Record) → IsAmong front q → IsAmong (log_in logs n) q
  front_within q j = subst (λ l. IsAmong l q) (sym same) (among_left front (r ∷ back) q j)

  front_is_orderly : IsOrderly front
  front_is_orderly = front_orderly (setup_of config n) (log_in logs n) accepted (log_logged sc h logs left n) front (r ∷ back) same

  -- who wrote the key and comes before it has its outcome before the record
  ends_before : (v : Txn) (w : Write) → IsAmong (history logs) v → serial_before v u ≡ true → w.key ≡ k → (q : Record) → IsAmong (log_in logs n) q →
      Wrote q v w → IsAmong front q × HasEnd front v.txn
  ends_before v w in_it earlier key q j wrote = by_order (order front r back p.front q p.back (sym same ∙ p.same))
    where
      p : Place (log_in logs n) q
      p = place_of (log_in logs n) q j

      c : (bt : ℕ) × (js : List Bytes) × (vs : List Write) × Claims q v.txn bt js vs × (bt ≤ v.at) × IsAmong vs w
      c = claim_of_wrote q v w wrote

      one_txn : r ≡ q → ⊥
      one_txn e =
          let ids : u.txn ≡ v.txn = same_claim_id q u.txn v.txn at c.0 ks c.1 ws c.2 (subst (λ z. Claims z u.txn at ks ws) e claims) c.3 in
          let f = from_history logs (left_logged sc h logs left) v in_it in
          let one = one_place sc h logs left d.shard f.shard d.commit f.commit d.among f.among
          (ap (λ (z : Txn). z.txn) f.is ∙ sym ids ∙ sym (ap (λ (z : Txn). z.txn) d.is)) in
          before_itself v u (sym (ap (λ (z : Txn). z.at) f.is) ∙ sym (ap (λ (z : Committed). z.at) one.1) ∙ ap (λ (z : Txn). z.at) d.is) (sym ids) earlier

      later_end : (mid : List Record) → p.front ≡ front ++ r ∷ mid → EndIs (front ++ r ∷ mid) u.txn → ⊥
      later_end mid is end =
          let split : log_in logs n ≡ (front ++ r ∷ mid) ++ q ∷ p.back = p.same ∙ ap (λ l. l ++ q ∷ p.back) is in
          let o : end.ended.outcome ≡ Some u.at = outcome_is end.ended.outcome (subst (λ l. IsAmong l (Outcome u.txn end.ended.outcome)) (sym split)
          (among_left (front ++ r ∷ mid) (q ∷ p.back) (Outcome u.txn end.ended.outcome) end.among)) in
          let stamp = subst (λ z. IsAmong (front ++ r ∷ mid) (Outcome u.txn z)) o end.among in
          let above = (stamped (front ++ r ∷ mid) q p.back v.txn c.0 c.1 c.2 split c.3).ends u.txn u.at stamp in
          let below = c.4 in
          before_above v u (omega (arith, above, below)) earlier

      by_order : Order front r p.front q → IsAmong front q × HasEnd front v.txn
      by_order (IsSame e f) = absurd (one_txn e)
      by_order (IsEarlier mid e) = (
        subst (λ l. IsAmong l q) (sym e) (among_right p.front (q ∷ mid) q (inl refl)),
        subst (λ l. HasEnd l v.txn) (sym e) (has_end (p.front ++ q ∷ mid) v.txn (ended_between (setup_of config n)
            (log_in logs n) accepted (log_logged sc h logs left n) p.front mid back q r v.txn u.txn c.0 at c.1 ks c.2 ws
            (same ∙ ap (λ l. l ++ r ∷ back) e) c.3 claims
            (read_clashes ks c.1 ws c.2 k w reads c.5 key))),
      )
      by_order (IsLater mid e) = absurd (later_end mid e
          (ended_between (setup_of config n) (log_in logs n) accepted (log_logged sc h logs left n) front mid p.back r q u.txn v.txn at c.0 ks c.1 ws c.2
          (p.same ∙ ap (λ l. l ++ q ∷ p.back) e) claims c.3
          (clash_comm (locks_of c.1 c.2) (locks_of ks ws) ∙ read_clashes ks c.1 ws c.2 k w reads c.5 key)))

  agree : Agree (history logs) (λ v. serial_before v u) (installs_of front) k
  agree = record {
    installed = λ v w in_it earlier j key. installed sc h logs left config owns n front front_within front_is_orderly v w k in_it j key own
        (ends_before v w in_it earlier key);
    written = λ i j key.
        let above = (stamped front r back u.txn at ks ws same claims).versions i j in
        written sc h logs left config owns n front front_within front_is_orderly i k (λ v. serial_before v u) j key
        (λ x e. before_lower x u (omega (arith, above, low, e)));
    once = λ i j hi hj ki kj stamp.
        one_value (setup_of config n) front (front_taken (setup_of config n) front (r ∷ back)
        (subst (λ l. taken (setup_of config n) l ≡ Accepted) same accepted))
        (record {
          promises = λ p e. once.promises p (front_within (Prepare p) e);
          decisions = λ c e. once.decisions c (front_within (Commit c) e);
          logged = λ q e. once.logged q (front_within q e);
        })
        i j hi hj (ki ∙ sym kj) stamp;
  }

  -- its value in the serial run before it is the latest when it was logged
  pub read_serially : before (history logs) u k ≡ latest (installs_of front) k
  unfolding before
  read_serially = serial_value (history logs) (λ v. serial_before v u) (installs_of front) k agree
