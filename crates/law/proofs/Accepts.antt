-- What a log that is taken says of its versions: each comes of an outcome, and one key has one value at one time.
use Rattle.std.specs.List.{list_all}
use Rattle.std.proofs.Common.{◌≡◌, inl, inr, ℕ, ◌+◌, ◌<◌, Bool, true, false, not, cond, ◌&&◌, nat_lt, List, [], ◌∷◌, ◌++◌, Option, Some, None, refl}
use Rattle.std.proofs.Common.{sym, ap, subst, ◌∙◌, arith, append_assoc, flat_map}
use Rattle.std.proofs.lemmas.Bool.{and_parts}
use Rattle.std.proofs.lemmas.Bool.Decides.{nat_tests}
use Rattle.std.proofs.lemmas.List.{append-nil}
use Rattle.units.specs.Ids.{Id, same_id}
use Rattle.units.specs.Keys.{same_key}
use Rattle.units.specs.Lists.{gather}
use Rattle.units.specs.Versions.{versions, above_versions, of_key}
use Rattle.units.specs.declared.setup.Setup.{Setup}
use Rattle.units.specs.declared.writes.Install.{Install}
use Rattle.units.specs.declared.writes.Write.{Write}
use Rattle.units.proofs.KeyLaws.{same_key-refl}
use Rattle.record.specs.Accepted.{Taken, Accepted, DamagedAt, StrangerAt, taken, taken_from, belongs, begins, follows, fits_beside, followed}
use Rattle.record.specs.Facts.{Facts, facts_of, learn, recorded, installs_at}
use Rattle.record.specs.Installs.{installs_of, installed_by, writes_by}
use Rattle.record.specs.Records.{Ended, Unrecorded, as_ended, as_version, as_committed, as_prepared, status_by, status_of, status_written, is_aborted}
use Rattle.record.specs.Records.{committed_of, prepared_of, ended_of, is_below, retired_of}
use Rattle.record.specs.declared.record.Committed.{Committed}
use Rattle.record.specs.declared.record.Prepared.{Prepared}
use Rattle.record.specs.declared.record.Record.{Record}
use Rattle.record.specs.declared.record.Record.TheVariants.{Prepare, Commit, Outcome, Version}
use Rattle.record.proofs.LearnAgrees.{learn_agrees, followed_more}
use Rattle.record.proofs.Statuses.{recorded_is}
use Rattle.law.specs.Among.{IsAmong}
use Rattle.law.proofs.Members.{among_left, among_right, among_cases}
use Rattle.law.proofs.Picked.{among_map, map_among, among_join, join_among, keep_among, gather_among}
use Rattle.world.proofs.StepKinds.{is_logged}
use Rattle.law.proofs.Logged.{AreLogged}
use Rattle.law.proofs.Recorded.{among_first, none_listed, outcome_among, promise_among, decision_among}

-- a member passes the test of all
pub each_at : {A : Type 0} (test : A → Bool) (xs : List A) (x : A) → list_all test xs ≡ true → IsAmong xs x → test x ≡ true
each_at test [] x e h = absurd h
each_at test (y ∷ ys) x e (inl same) = ap test (sym same) ∙ (and_parts (test y) (list_all test ys) e).0
each_at test (y ∷ ys) x e (inr later) = each_at test ys x (and_parts (test y) (list_all test ys) e).1 later

-- ---- each record is taken after those before it

-- a record that is taken after others
pub record IsTakenAfter (setup : Setup) (before : List Record) (r : Record) : Type 0 where
  pub own : belongs setup r ≡ true
  pub follows : follows setup.shard before r ≡ true
  pub begins : begins before r ≡ true
  pub fits : fits_beside before r ≡ true

taken_step : (a b : Bool) (place : ℕ) (rest : Taken) → cond a (StrangerAt place) (cond b rest (DamagedAt place)) ≡ Accepted → (a ≡ false)
    × (b ≡ true) × (rest ≡ Accepted)
taken_step true b place rest e = cc
taken_step false true place rest e = (refl, refl, e)
taken_step false false place rest e = cc

not_not : (b : Bool) → not b ≡ false → b ≡ true
not_not true e = refl
not_not false e = cc

first_taken : (setup : Setup) (before : List Record) (r : Record) (rest : List Record) (place : ℕ) → taken_from setup before place (r ∷ rest) ≡ Accepted →
    IsTakenAfter setup before r × (taken_from setup (before ++ r ∷ []) (place + 1) rest ≡ Accepted)
first_taken setup before r rest place e =
    let p = taken_step (not (belongs setup r)) (begins before r && follows setup.shard before r && fits_beside before r) place
    (taken_from setup (before ++ r ∷ []) (place + 1) rest) e in
    let q = and_parts (begins before r && follows setup.shard before r) (fits_beside before r) p.1 in
    let b = and_parts (begins before r) (follows setup.shard before r) q.0 in
    (record { own = not_not (belongs setup r) p.0; follows = b.1; begins = b.0; fits = q.1 }, p.2)

each_taken_from : (setup : Setup) (before front : List Record) (r : Record) (back : List Record) (place : ℕ) →
    taken_from setup before place (front ++ r ∷ back) ≡ Accepted → IsTakenAfter setup (before ++ front) r
each_taken_from setup before [] r back place e = subst (λ l. IsTakenAfter setup l r) (sym (append-nil before)) (first_taken setup before r back place e).0
each_taken_from setup before (q ∷ qs) r back place e =
    subst (λ l. IsTakenAfter setup l r) (append_assoc before (q ∷ []) qs)
    (each_taken_from setup (before ++ q ∷ []) qs r back (place + 1) (first_taken setup before q (qs ++ r ∷ back) place e).1)

pub each_taken : (setup : Setup) (front : List Record) (r : Record) (back : List Record) → taken setup (front ++ r ∷ back) ≡ Accepted →
    IsTakenAfter setup front r
unfolding taken
each_taken setup front r back e = each_taken_from setup [] front r back 0 e

-- a beginning of what is taken is taken
front_taken_from : (setup : Setup) (before front back : List Record) (place : ℕ) → taken_from setup before place (front ++ back) ≡ Accepted →
    taken_from setup before place front ≡ Accepted
front_taken_from setup before [] back place e = refl
front_taken_from setup before (q ∷ qs) back place e =
    let p = taken_step (not (belongs setup q)) (begins before q && follows setup.shard before q && fits_beside before q) place
    (taken_from setup (before ++ q ∷ []) (place + 1) (qs ++ back)) e in
    again (not (belongs setup q)) (begins before q && follows setup.shard before q && fits_beside before q)
    (taken_from setup (before ++ q ∷ []) (place + 1) qs) p.0 p.1
    (front_taken_from setup (before ++ q ∷ []) qs back (place + 1) p.2)
  where
    again : (a b : Bool) (rest : Taken) → a ≡ false → b ≡ true → rest ≡ Accepted → cond a (StrangerAt place) (cond b rest (DamagedAt place)) ≡ Accepted
    again true b rest e f k = cc
    again false true rest e f k = k
    again false false rest e f k = cc

pub front_taken : (setup : Setup) (front back : List Record) → taken setup (front ++ back) ≡ Accepted → taken setup front ≡ Accepted
unfolding taken
front_taken setup front back e = front_taken_from setup [] front back 0 e

-- where a record stands
pub record Place (log : List Record) (r : Record) : Type 0 where
  pub front : List Record
  pub back : List Record
  pub same : log ≡ front ++ r ∷ back

pub place_of : (log : List Record) (r : Record) → IsAmong log r → Place log r
place_of [] r h = absurd h
place_of (q ∷ qs) r (inl same) = record { front = []; back = qs; same = ap (λ x. x ∷ qs) same }
place_of (q ∷ qs) r (inr later) = let p = place_of qs r later in record { front = q ∷ p.front; back = p.back; same = ap (λ l. q ∷ l) p.same }

pub member_taken : (setup : Setup) (log : List Record) (r : Record) → taken setup log ≡ Accepted → IsAmong log r → belongs setup r ≡ true
member_taken setup log r e h = let p = place_of log r h in (each_taken setup p.front r p.back (subst (λ l. taken setup l ≡ Accepted) p.same e)).own

-- ---- where a version comes from

-- a write is installed by an outcome
pub record InstalledBy (log : List Record) (i : Install) : Type 0 where
  pub txn : Id
  pub stamp : ℕ
  pub ended : IsAmong log (Outcome txn (Some stamp))
  pub write : Write
  pub among : IsAmong (writes_by (committed_of log txn) (prepared_of log txn)) write
  pub key : i.key ≡ write.key
  pub at : i.at ≡ stamp
  pub value : i.value ≡ write.value

pub installed_from : (log : List Record) → AreLogged log → (i : Install) → IsAmong (installs_of log) i → InstalledBy log i
unfolding installs_of
installed_from log logged i h = elim (among_cases (gather as_version log) (flat_map (installed_by log) (gather as_ended log)) i h) [
  | inl listed ↦ absurd (none_listed log logged i listed)
  | inr made ↦
      let j = among_join (installed_by log) (gather as_ended log) i made in
      by_outcome j.from.txn j.from.outcome (outcome_among log logged j.from j.among) j.within
]
  where
    by_outcome : (t : Id) (o : Option ℕ) → IsAmong log (Outcome t o) →
        IsAmong (elim o as (λ x. List Install) [ None ↦ [] | Some s ↦ versions (writes_by (committed_of log t) (prepared_of log t)) s ]) i → InstalledBy log i
    by_outcome t None k l = absurd l
    by_outcome t (Some s) k l =
        let m = among_map (λ (w : Write). record { key = w.key; at = s; value = w.value }) (writes_by (committed_of log t) (prepared_of log t)) i l in
        record {
          txn = t;
          stamp = s;
          ended = k;
          write = m.from;
          among = m.among;
          key = ap (λ (q : Install). q.key) (sym m.is);
          at = ap (λ (q : Install). q.at) (sym m.is);
          value = ap (λ (q : Install). q.value) (sym m.is);
        }

pub installs_have : (log : List Record) (t : Id) (s : ℕ) (w : Write) → IsAmong log (Outcome t (Some s)) →
    IsAmong (writes_by (committed_of log t) (prepared_of log t)) w →
    IsAmong (installs_of log) (record { key = w.key; at = s; value = w.value })
unfolding installs_of
installs_have log t s w ended among =
    among_right (gather as_version log) (flat_map (installed_by log) (gather as_ended log)) (record { key = w.key; at = s; value = w.value })
    (join_among (installed_by log) (gather as_ended log) (record { txn = t; outcome = Some s }) (record { key = w.key; at = s; value = w.value })
    (gather_among as_ended log (Outcome t (Some s)) (record { txn = t; outcome = Some s }) ended refl)
    (map_among (λ (v : Write). record { key = v.key; at = s; value = v.value }) (writes_by (committed_of log t) (prepared_of log t)) w among))

-- ---- one value of a key at a time

-- a list of writes has one value of each key
abbrev pub WritesOnce : List Write → Type 0
WritesOnce ws = (v w : Write) → IsAmong ws v → IsAmong ws w → v.key ≡ w.key → v.value ≡ w.value

-- so has each promise and decision of a log
pub record AllWriteOnce (log : List Record) : Type 0 where
  pub promises : (p : Prepared) → IsAmong log (Prepare p) → WritesOnce p.writes
  pub decisions : (c : Committed) → IsAmong log (Commit c) → WritesOnce c.writes
  pub logged : AreLogged log

-- versions of one key and time have one value
abbrev pub OneValue : List Install → Type 0
OneValue is = (i j : Install) → IsAmong is i → IsAmong is j → i.key ≡ j.key → i.at ≡ j.at → i.value ≡ j.value

-- what one more record installs
abbrev pub installs_by : List Record → Record → List Install
installs_by log (Outcome t o) = installs_at (recorded (facts_of log) t) o
installs_by log (Record.Version install) = install ∷ []
installs_by log _ = []

pub installs_more : (shard : ℕ) (log : List Record) (r : Record) → followed shard (log ++ r ∷ []) ≡ true →
    installs_of (log ++ r ∷ []) ≡ installs_of log ++ installs_by log r
unfolding facts_of learn
installs_more shard log r h = ap (λ (f : Facts). f.installs) (learn_agrees shard log r h) ∙ by_kind r
  where
    by_kind : (q : Record) → (learn (facts_of log) q).installs ≡ installs_of log ++ installs_by log q
    by_kind (Version install) = refl
    by_kind (Outcome t o) = refl
    by_kind _ = sym (append-nil (installs_of log))

-- a new version is of the writes of its id
pub record IsNew (log : List Record) (r : Record) (i : Install) : Type 0 where
  pub txn : Id
  pub stamp : ℕ
  pub is : r ≡ Outcome txn (Some stamp)
  pub write : Write
  pub among : IsAmong (writes_by (committed_of log txn) (prepared_of log txn)) write
  pub key : i.key ≡ write.key
  pub at : i.at ≡ stamp
  pub value : i.value ≡ write.value

pub new_from : (log : List Record) (r : Record) (i : Install) → is_logged r ≡ true → IsAmong (installs_by log r) i → IsNew log r i
unfolding status_of status_written
new_from log (Version _) i l h = cc
new_from log (Outcome t o) i l h =
    by_outcome o (subst (λ st. IsAmong (installs_at st o) i) (recorded_is log t) h)
  where
    of_versions : (s : ℕ) → IsAmong (versions (writes_by (committed_of log t) (prepared_of log t)) s) i → IsNew log (Outcome t (Some s)) i
    of_versions s k =
        let m = among_map (λ (w : Write). record { key = w.key; at = s; value = w.value }) (writes_by (committed_of log t) (prepared_of log t)) i k in
        record {
          txn = t;
          stamp = s;
          is = refl;
          write = m.from;
          among = m.among;
          key = ap (λ (q : Install). q.key) (sym m.is);
          at = ap (λ (q : Install). q.at) (sym m.is);
          value = ap (λ (q : Install). q.value) (sym m.is);
        }

    to_versions : (a : Bool) (c : Option Committed) (p : Option Prepared) (e : Option Ended) (s : ℕ) →
        IsAmong (installs_at (status_by a c p e) (Some s)) i → IsAmong (versions (writes_by c p) s) i
    to_versions true c p e s k = absurd k
    to_versions false (Some c) p (Some e) s k = absurd k
    to_versions false (Some c) p None s k = k
    to_versions false None (Some p) (Some e) s k = absurd k
    to_versions false None (Some p) None s k = k
    to_versions false None None e s k = absurd k

    none_installed : (a : Bool) (c : Option Committed) (p : Option Prepared) (e : Option Ended) → IsAmong (installs_at (status_by a c p e) None) i → ⊥
    none_installed true c p e k = k
    none_installed false (Some c) p (Some e) k = k
    none_installed false (Some c) p None k = k
    none_installed false None (Some p) (Some e) k = k
    none_installed false None (Some p) None k = k
    none_installed false None None e k = k

    by_written : (q : Option ℕ) → IsAmong (installs_at (status_written log t) q) i → IsNew log (Outcome t q) i
    by_written None k = absurd (none_installed (is_aborted log t) (committed_of log t) (prepared_of log t) (ended_of log t) k)
    by_written (Some s) k = of_versions s (to_versions (is_aborted log t) (committed_of log t) (prepared_of log t) (ended_of log t) s k)

    by_outcome : (q : Option ℕ) → IsAmong (installs_at (status_of log t) q) i → IsNew log (Outcome t q) i
    by_outcome q k = by_test (is_below (retired_of log) t) k
      where
        by_test : (b : Bool) → IsAmong (installs_at (cond b Unrecorded (status_written log t)) q) i → IsNew log (Outcome t q) i
        by_test true n = absurd n
        by_test false n = by_written q n
new_from log _ i l h = absurd h

-- the writes of an id have one value of each key
once_by : (log : List Record) (t : Id) → AllWriteOnce log → WritesOnce (writes_by (committed_of log t) (prepared_of log t))
once_by log t once = by_parts (committed_of log t) refl (prepared_of log t) refl
  where
    by_parts : (c : Option Committed) → committed_of log t ≡ c → (p : Option Prepared) → prepared_of log t ≡ p → WritesOnce (writes_by c p)
    by_parts (Some c) hc p hp = once.decisions c (decision_among log once.logged c
        (among_first (λ (x : Committed). same_id x.txn t) (gather as_committed log) c hc))
    by_parts None hc (Some p) hp = once.promises p (promise_among log once.logged p
        (among_first (λ (x : Prepared). same_id x.txn t) (gather as_prepared log) p hp))
    by_parts None hc None hp = λ v w h k e. absurd h

-- a timestamp above the versions of what is written is above each of them
above_each : (is : List Install) (s : ℕ) (ws : List Write) (w : Write) (i : Install) → above_versions is s ws ≡ true → IsAmong ws w → IsAmong is i →
    i.key ≡ w.key → i.at < s
above_each is s ws w i above among there key =
    let one = each_at (λ (v : Write). list_all (λ (j : Install). nat_lt j.at s) (of_key is v.key)) ws w above among in
    less i.at s (each_at (λ (j : Install). nat_lt j.at s) (of_key is w.key) i one
    (keep_among (λ (j : Install). same_key j.key w.key) is i there (subst (λ k. same_key k w.key ≡ true) (sym key) (same_key-refl w.key))))
  where
    less : (a b : ℕ) → nat_lt a b ≡ true → a < b
    less a b e = grind (arith, nat_tests)

outcome_above : (log : List Record) (t : Id) (s : ℕ) → fits_beside log (Outcome t (Some s)) ≡ true →
    above_versions (installs_of log) s (writes_by (committed_of log t) (prepared_of log t)) ≡ true
unfolding fits_beside
outcome_above log t s e = e

one_more : (shard : ℕ) (log : List Record) (r : Record) → is_logged r ≡ true → followed shard (log ++ r ∷ []) ≡ true → fits_beside log r ≡ true
    → AllWriteOnce log →
    OneValue (installs_of log) → OneValue (installs_of (log ++ r ∷ []))
one_more shard log r logged h fits once one =
    subst OneValue (sym (installs_more shard log r h)) (λ i j hi hj key at.
    elim (among_cases (installs_of log) (installs_by log r) i hi) [
      | inl old ↦ elim (among_cases (installs_of log) (installs_by log r) j hj) [
        | inl also ↦ one i j old also key at
        | inr new ↦ absurd (apart i j old (new_from log r j logged new) key at)
      ]
      | inr new ↦ elim (among_cases (installs_of log) (installs_by log r) j hj) [
        | inl old ↦ absurd (apart j i old (new_from log r i logged new) (sym key) (sym at))
        | inr also ↦ same_new i j (new_from log r i logged new) (new_from log r j logged also) key
      ]
    ])
  where
    apart : (i j : Install) → IsAmong (installs_of log) i → IsNew log r j → i.key ≡ j.key → i.at ≡ j.at → ⊥
    apart i j old n key at =
        let low = above_each (installs_of log) n.stamp (writes_by (committed_of log n.txn) (prepared_of log n.txn)) n.write i
        (outcome_above log n.txn n.stamp (subst (λ q. fits_beside log q ≡ true) n.is fits)) n.among old (key ∙ n.key) in
        let stamp = n.at in
        omega (arith, low, at, stamp)

    same_txn : (t u : Id) (s x : ℕ) → Outcome t (Some s) ≡ Outcome u (Some x) → u ≡ t
    same_txn t u s x e = cc

    same_new : (i j : Install) → IsNew log r i → IsNew log r j → i.key ≡ j.key → i.value ≡ j.value
    same_new i j a b key =
        let one_id : b.txn ≡ a.txn = same_txn a.txn b.txn a.stamp b.stamp (sym a.is ∙ b.is) in
        a.value
        ∙ once_by log a.txn once a.write b.write a.among (subst (λ t. IsAmong (writes_by (committed_of log t) (prepared_of log t)) b.write) one_id
        b.among) (sym a.key ∙ key ∙ b.key)
        ∙ sym b.value

one_from : (setup : Setup) (before rest : List Record) (place : ℕ) → taken_from setup before place rest ≡ Accepted →
    followed setup.shard before ≡ true → AllWriteOnce (before ++ rest) →
    OneValue (installs_of before) → OneValue (installs_of (before ++ rest))
one_from setup before [] place e f once one = subst (λ l. OneValue (installs_of l)) (sym (append-nil before)) one
one_from setup before (r ∷ rest) place e f once one =
    let p = first_taken setup before r rest place e in
    let more : followed setup.shard (before ++ r ∷ []) ≡ true = followed_more setup.shard before r
    ∙ all_three (followed setup.shard before) (begins before r) (follows setup.shard before r) f p.0.begins p.0.follows in
    let assoc = append_assoc before (r ∷ []) rest in
    subst (λ l. OneValue (installs_of l)) assoc
    (one_from setup (before ++ r ∷ []) rest (place + 1) p.1 more (subst AllWriteOnce (sym assoc) once)
    (one_more setup.shard before r (once.logged r (among_right before (r ∷ rest) r (inl refl))) more p.0.fits (front_once before (r ∷ rest) once) one))
  where
    all_three : (a b c : Bool) → a ≡ true → b ≡ true → c ≡ true → (a && (b && c)) ≡ true
    all_three true true true x y z = refl
    all_three false b c x y z = cc
    all_three true false c x y z = cc
    all_three true true false x y z = cc

    front_once : (front back : List Record) → AllWriteOnce (front ++ back) → AllWriteOnce front
    front_once front back all = record {
      promises = λ p h. all.promises p (among_left front back (Prepare p) h);
      decisions =
          λ c h. all.decisions c (among_left front back (Commit c) h);
      logged = λ r h. all.logged r (among_left front back r h);
    }

-- one value of each key at each time
pub one_value : (setup : Setup) (log : List Record) → taken setup log ≡ Accepted → AllWriteOnce log → OneValue (installs_of log)
unfolding taken followed installs_of
one_value setup log e once = one_from setup [] log 0 e refl once (λ i j h k key at. absurd h)
