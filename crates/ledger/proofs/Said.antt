-- A renewed log says what the log said, with the versions that were held.
use Rattle.std.proofs.Common.{◌≡◌, ℕ, ◌≤◌, Bool, true, false, not, cond, max, List, [], ◌∷◌, ◌++◌, map, filter, Option, Some, None, refl, sym, ap, subst, ◌∙◌}
use Rattle.std.proofs.Common.{arith}
use Rattle.std.specs.List.{AllByRecursion}
use Rattle.std.proofs.lemmas.List.{append-nil}
use Rattle.units.specs.Lists.{gather}
use Rattle.units.specs.Ids.{Id}
use Rattle.units.specs.ById.{with_member}
use Rattle.units.specs.declared.writes.Install.{Install}
use Rattle.record.specs.Records.{Status, Unrecorded, StandsPrepared, StandsDecided, HasAborted, HasSettled, HasClosed}
use Rattle.record.specs.FactLaws.{learnt}
use Rattle.record.specs.Facts.{Facts, TxnStatus, no_facts, facts_with, learn, with_status}
use Rattle.record.specs.declared.record.Record.{Record}
use Rattle.record.specs.declared.record.Record.TheVariants.{Base, Version}
use Rattle.versions.specs.Ordered.{is_not_after, installed, all_installed}
use Rattle.versions.specs.Pruned.{pruned}
use Rattle.ledger.specs.Keeps.{Alike, IsPlaced, IsRegular}
use Rattle.ledger.specs.Laws.{TurnedKeeps, TurnedSays}
use Rattle.ledger.specs.Turned.{held_facts, versions_held, ended_item, retired_item, standing_item, turned}
use Rattle.versions.proofs.Pruned.{same-pruned}
use Rattle.versions.proofs.Same.{same-back, same-higher, same-then}
use Rattle.ledger.proofs.Entries.{entry, is_ended, put_all, together, with_status-is}
use Rattle.ledger.proofs.InOrder.{append_one, same-in_order}
use Rattle.ledger.proofs.One.{held-covered, held-rises}

pub max-covers : (n m : ℕ) → m ≤ n → max n m ≡ n
max-covers n m h = omega (arith, h)

max-none : (n : ℕ) → max 0 n ≡ n
max-none n = omega arith

-- ---- lists of records

pub learnt-append : (x : Facts) (a b : List Record) → learnt x (a ++ b) ≡ learnt (learnt x a) b
learnt-append x [] b = refl
learnt-append x (i ∷ a) b = learnt-append (learn x i) a b

-- ---- versions

version-one : (e f : ℕ) (es : List TxnStatus) (is : List Install) (h : ℕ) (rt : Option Id) (i : Install) → i.at ≤ f
    → learn (facts_with e f es is h rt) (Version i) ≡ facts_with e f es (is ++ i ∷ []) h rt
unfolding learn
version-one e f es is h rt i le = ap (λ n. facts_with e n es (is ++ i ∷ []) h rt) (max-covers f i.at le)

pub versions-all : (e f : ℕ) (es : List TxnStatus) (is : List Install) (h : ℕ) (rt : Option Id) (vs : List Install) → AllByRecursion (λ i. i.at ≤ f) vs
    → learnt (facts_with e f es is h rt) (map Version vs) ≡ facts_with e f es (is ++ vs) h rt
versions-all e f es is h rt [] all = ap (λ l. facts_with e f es l h rt) (sym (append-nil is))
versions-all e f es is h rt (i ∷ vs) all =
    ap (λ x. learnt x (map Version vs)) (version-one e f es is h rt i all.0)
    ∙ versions-all e f es (is ++ i ∷ []) h rt vs all.1
    ∙ ap (λ l. facts_with e f es l h rt) (append_one is i vs)

all-installed : (P : Install → Type 0) (i : Install) (t : List Install) → P i → AllByRecursion P t → AllByRecursion P (installed t i)
all-installed P i [] e all = (e, tt)
all-installed P i (x ∷ t) e all = by_test (is_not_after i.key i.at x) (all-installed P i t e all.1)
  where
    by_test : (b : Bool) → AllByRecursion P (installed t i) → AllByRecursion P (cond b (x ∷ installed t i) (i ∷ x ∷ t))
    by_test true rest = (all.0, rest)
    by_test false rest = (e, all)

pub all-in_order : (P : Install → Type 0) (t xs : List Install) → AllByRecursion P t → AllByRecursion P xs → AllByRecursion P (all_installed t xs)
all-in_order P t [] all more = all
all-in_order P t (x ∷ xs) all more = all-in_order P (installed t x) xs (all-installed P x t more.0 all) more.1

-- ---- entries

-- one status more, under a floor that covers it
put-one : (e f : ℕ) (acc : List TxnStatus) (is : List Install) (h : ℕ) (rt : Option Id) (t : Id) (s : Status) (floor : ℕ) (items : List Record) (es : List TxnStatus)
    → floor ≡ f
    → learnt (facts_with e f (with_member (λ x. x.txn) acc (entry t s)) is h rt) items
    ≡ facts_with e f (put_all (with_member (λ x. x.txn) acc (entry t s)) es) is h rt
    → learnt (facts_with e floor (with_status acc t s) is h rt) items ≡ facts_with e f (put_all (with_member (λ x. x.txn) acc (entry t s)) es) is h rt
put-one e f acc is h rt t s floor items es same rest =
    (λ i. learnt (facts_with e (same i) (with_status-is acc t s i) is h rt) items) ∙ rest

pub ended-all : (e f : ℕ) (acc : List TxnStatus) (is : List Install) (h : ℕ) (rt : Option Id) (es : List TxnStatus) → AllByRecursion (IsPlaced f) es
    → learnt (facts_with e f acc is h rt) (gather ended_item es) ≡ facts_with e f (put_all acc (filter is_ended es)) is h rt
unfolding learn
ended-all e f acc is h rt [] all = refl
ended-all e f acc is h rt (x ∷ es) all = by_status x.txn x.status all.0 (λ more. ended-all e f more is h rt es all.1)
  where
    by_status : (t : Id) (s : Status) → IsPlaced f (entry t s)
        → ((more : List TxnStatus) → learnt (facts_with e f more is h rt) (gather ended_item es) ≡ facts_with e f (put_all more (filter is_ended es)) is h rt)
        → learnt (facts_with e f acc is h rt) (gather ended_item (entry t s ∷ es)) ≡ facts_with e f (put_all acc (filter is_ended (entry t s ∷ es))) is h rt
    by_status t Unrecorded p rest = absurd p
    by_status t (StandsPrepared q) p rest = rest acc
    by_status t (StandsDecided c) p rest = rest acc
    by_status t HasAborted p rest =
        put-one e f acc is h rt t HasAborted f (gather ended_item es) (filter is_ended es) refl (rest (with_member (λ x. x.txn) acc (entry t HasAborted)))
    by_status t (HasSettled at ps) p rest =
        put-one e f acc is h rt t (HasSettled at ps) (max f at) (gather ended_item es) (filter is_ended es) (max-covers f at p) (rest (with_member
        (λ x. x.txn) acc (entry t (HasSettled at ps))))
    by_status t (HasClosed c None) p rest =
        put-one e f acc is h rt t (HasClosed c None) f (gather ended_item es) (filter is_ended es) refl (rest (with_member (λ x. x.txn) acc (entry t
        (HasClosed c None))))
    by_status t (HasClosed c (Some at)) p rest =
        put-one e f acc is h rt t (HasClosed c (Some at)) (max f at) (gather ended_item es) (filter is_ended es) (max-covers f at p) (rest (with_member
        (λ x. x.txn) acc (entry t (HasClosed c (Some at)))))

standing-all : (e f : ℕ) (acc : List TxnStatus) (is : List Install) (h : ℕ) (rt : Option Id) (es : List TxnStatus) → AllByRecursion (IsPlaced f) es
    → learnt (facts_with e f acc is h rt) (gather standing_item es) ≡ facts_with e f (put_all acc (filter (λ x. not (is_ended x)) es)) is h rt
unfolding learn
standing-all e f acc is h rt [] all = refl
standing-all e f acc is h rt (x ∷ es) all = by_status x.txn x.status all.0 (λ more. standing-all e f more is h rt es all.1)
  where
    by_status : (t : Id) (s : Status) → IsPlaced f (entry t s)
        → ((more : List TxnStatus) → learnt (facts_with e f more is h rt) (gather standing_item es)
        ≡ facts_with e f (put_all more (filter (λ x. not (is_ended x)) es)) is h rt)
        → learnt (facts_with e f acc is h rt) (gather standing_item (entry t s ∷ es))
        ≡ facts_with e f (put_all acc (filter (λ x. not (is_ended x)) (entry t s ∷ es))) is h rt
    by_status t Unrecorded p rest = absurd p
    by_status t (StandsPrepared q) p rest =
        ap (λ u. learnt (facts_with e (max f q.at) (with_status acc u (StandsPrepared q)) is h rt) (gather standing_item es)) p.0
        ∙ put-one e f acc is h rt t (StandsPrepared q) (max f q.at) (gather standing_item es) (filter (λ x. not (is_ended x)) es) (max-covers f q.at p.1) (rest
        (with_member (λ x. x.txn) acc (entry t (StandsPrepared q))))
    by_status t (StandsDecided c) p rest =
        ap (λ u. learnt (facts_with e (max f c.at) (with_status acc u (StandsDecided c)) is h rt) (gather standing_item es)) p.0
        ∙ put-one e f acc is h rt t (StandsDecided c) (max f c.at) (gather standing_item es) (filter (λ x. not (is_ended x)) es) (max-covers f c.at p.1) (rest
        (with_member (λ x. x.txn) acc (entry t (StandsDecided c))))
    by_status t _ p rest = rest acc

-- ---- all of it

pub based : (e f h : ℕ) → learn no_facts (Base e f h) ≡ facts_with e f [] [] h None
unfolding learn
based e f h = λ i. facts_with e (max-none f i) [] [] (max-none h i) None

pub retired-one : (e f : ℕ) (is : List Install) (h : ℕ) (rt : Option Id)
    → learnt (facts_with e f [] is h None) (retired_item rt) ≡ facts_with e f [] is h rt
unfolding learn
retired-one e f is h None = refl
retired-one e f is h (Some below) = refl

-- the versions that are held are covered
pub covered-held : (facts : Facts) → IsRegular facts → AllByRecursion (λ i. i.at ≤ facts.floor) (versions_held facts)
covered-held facts r = all-in_order (λ i. i.at ≤ facts.floor) [] (pruned facts.horizon facts.installs) tt (held-covered facts r)

pub turned-says : TurnedSays
unfolding turned
turned-says facts r =
    let e = facts.epoch in
    let f = facts.floor in
    let h = facts.horizon in
    let rt = facts.retired in
    let es = facts.entries in
    let vs = versions_held facts in
    let ids = gather ended_item es ++ gather standing_item es in
    ap (λ x. learnt x (map Version vs ++ (retired_item rt ++ ids))) (based e f h)
    ∙ learnt-append (facts_with e f [] [] h None) (map Version vs) (retired_item rt ++ ids)
    ∙ ap (λ x. learnt x (retired_item rt ++ ids)) (versions-all e f [] [] h None vs (covered-held facts r))
    ∙ learnt-append (facts_with e f [] vs h None) (retired_item rt) ids
    ∙ ap (λ x. learnt x ids) (retired-one e f vs h rt)
    ∙ learnt-append (facts_with e f [] vs h rt) (gather ended_item es) (gather standing_item es)
    ∙ ap (λ x. learnt x (gather standing_item es)) (ended-all e f [] vs h rt es r.placed)
    ∙ standing-all e f (put_all [] (filter is_ended es)) vs h rt es r.placed
    ∙ ap (λ l. facts_with e f l vs h rt) (together es r.order)

-- the versions that are held are alike to all
pub held-keeps : (facts : Facts) → IsRegular facts → Alike facts (held_facts facts)
held-keeps facts r = record {
  epoch = refl;
  floor = refl;
  horizon = refl;
  retired = refl;
  entries = refl;
  versions =
      same-back facts.horizon (versions_held facts) facts.installs
      (same-then facts.horizon (versions_held facts) (pruned facts.horizon facts.installs) facts.installs
      (same-higher 0 facts.horizon _ _ (omega arith) (same-in_order (pruned facts.horizon facts.installs) (held-rises facts r)))
      (same-pruned facts.horizon facts.installs));
}

pub turned-keeps : TurnedKeeps
turned-keeps facts r = subst (Alike facts) (sym (turned-says facts r)) (held-keeps facts r)
