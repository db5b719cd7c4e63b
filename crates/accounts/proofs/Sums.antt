-- The laws of accounts.
use Rattle.std.proofs.Common.{◌≡◌, inl, inr, ℕ, ◌+◌, ◌<◌, ◌≤◌, Bool, true, false, not, cond, ◌||◌, List, [], ◌∷◌, refl, sym, ap, subst, ◌∙◌, IsTrue}
use Rattle.std.proofs.Common.{arith, filter}
use Rattle.std.proofs.lemmas.Bool.{or_parts}
use Rattle.units.specs.Ids.{Id}
use Rattle.units.specs.Keys.{Bytes, same_key, writes_key}
use Rattle.units.specs.declared.writes.Write.{Write}
use Rattle.units.specs.declared.line.Line.{Line}
use Rattle.units.proofs.KeyLaws.{same_key_comm}
use Rattle.record.specs.History.{Txn, Map, history, put, put_all, empty, upto}
use Rattle.law.specs.Among.{IsAmong}
use Rattle.record.specs.declared.record.Record.{Record}
use Rattle.world.specs.Headline.{MayBeLeft}
use Rattle.world.specs.Lawful.{lawful}
use Rattle.world.specs.declared.event.Config.{Config}
use Rattle.world.specs.declared.event.Event.{Event}
use Rattle.world.specs.World.{run}
use Rattle.law.proofs.Picked.{keep_among, kept_passes}
use Rattle.law.proofs.WholeLaw.{externally_consistent}
use Rattle.accounts.specs.Keeping.{KeptBetween, KeptFromTheStart}
use Rattle.accounts.specs.Bank.{Bank, sum_of, total, accounts_of, IsTransfer, TotalStays, AuditsAgree, LeavesEnough, NeverBelow}
use Rattle.accounts.proofs.Induction.{Keeps, kept_between as between, kept_always as always}

-- ---- writes on a map

-- two maps that say the same of a key do so after the same writes
put_alike : (ws : List Write) (m n : Map) (k : Bytes) → m k ≡ n k → put_all ws m k ≡ put_all ws n k
put_alike [] m n k e = e
put_alike (w ∷ ws) m n k e = put_alike ws (put w m) (put w n) k (ap (λ x. cond (same_key k w.key) w.value x) e)

-- an unwritten key keeps its value
pub put_elsewhere : (ws : List Write) (m : Map) (k : Bytes) → writes_key ws k ≡ false → put_all ws m k ≡ m k
put_elsewhere [] m k e = refl
put_elsewhere (w ∷ ws) m k e =
    let p = or_parts (same_key w.key k) (writes_key ws k) e in
    put_elsewhere ws (put w m) k p.1 ∙ ap (λ b. cond b w.value (m k)) (same_key_comm k w.key ∙ p.0)

-- a written key has a value that the map does not matter to
put_over : (ws : List Write) (m n : Map) (k : Bytes) → writes_key ws k ≡ true → put_all ws m k ≡ put_all ws n k
put_over [] m n k e = cc
put_over (w ∷ ws) m n k e = by_test (same_key w.key k) refl e (λ g. put_over ws (put w m) (put w n) k g)
  where
    by_test : (b : Bool) → same_key w.key k ≡ b → (b || writes_key ws k) ≡ true → (writes_key ws k ≡ true →
        put_all ws (put w m) k ≡ put_all ws (put w n) k) → put_all ws (put w m) k ≡ put_all ws (put w n) k
    by_test true f g rest = put_alike ws (put w m) (put w n) k (ap (λ b. cond b w.value (m k)) (same_key_comm k w.key ∙ f)
        ∙ sym (ap (λ b. cond b w.value (n k)) (same_key_comm k w.key ∙ f)))
    by_test false f g rest = rest g

-- ---- sums

pub sum_alike : (b : Bank) (ks : List Bytes) (m n : Map) → ((k : Bytes) → IsAmong ks k → m k ≡ n k) → sum_of b ks m ≡ sum_of b ks n
sum_alike b [] m n h = refl
sum_alike b (k ∷ ks) m n h =
    let here : b.amount (m k) ≡ b.amount (n k) = ap (λ x. b.amount x) (h k (inl refl)) in
    let rest = sum_alike b ks m n (λ j l. h j (inr l)) in
    omega (arith, here, rest)

sum_splits : (b : Bank) (test : Bytes → Bool) (ks : List Bytes) (m : Map) → sum_of b ks m ≡
    sum_of b (filter test ks) m + sum_of b (filter (λ k. not (test k)) ks) m
sum_splits b test [] m = refl
sum_splits b test (k ∷ ks) m = by_test (test k) (sum_splits b test ks m)
  where
    by_test : (c : Bool) → sum_of b ks m ≡ sum_of b (filter test ks) m + sum_of b (filter (λ j. not (test j)) ks) m →
        b.amount (m k) + sum_of b ks m ≡ sum_of b (cond c (k ∷ filter test ks) (filter test ks)) m + sum_of b
        (cond (not c) (k ∷ filter (λ j. not (test j)) ks) (filter (λ j. not (test j)) ks)) m
    by_test true e = omega (arith, e)
    by_test false e = omega (arith, e)

-- ---- a transfer keeps the total

pub transfer_keeps : (b : Bank) (n : ℕ) (lines : List Line) (i : Id) (ws : List Write) → IsTransfer b lines i ws → Keeps (λ m. total b m ≡ n) lines i ws
transfer_keeps b n lines i ws t m says e =
    let after = sum_splits b test b.accounts (put_all ws m) in
    let before = sum_splits b test b.accounts m in
    let new = sum_alike b (accounts_of b ws) (put_all ws m) (put_all ws t.found) (λ k h. put_over ws m t.found k (kept_passes test b.accounts k h)) in
    let old = sum_alike b (accounts_of b ws) m t.found (λ k h. says k (t.found k) (t.read k h)) in
    let others = sum_alike b (filter (λ k. not (test k)) b.accounts) (put_all ws m) m (λ k h. put_elsewhere ws m k
    (turned (test k) (kept_passes (λ j. not (test j)) b.accounts k h))) in
    let even = t.even in
    add _ _ _ _ _ _ _ _ _ after before new old others even e
  where
    test : Bytes → Bool
    test = writes_key ws

    turned : (c : Bool) → not c ≡ true → c ≡ false
    turned false e = refl
    turned true e = cc

    add : (a aw ao c cw co fw f n : ℕ) → a ≡ aw + ao → c ≡ cw + co → aw ≡ fw → cw ≡ f → ao ≡ co → fw ≡ f → c ≡ n → a ≡ n
    add a aw ao c cw co fw f n h1 h2 h3 h4 h5 h6 h7 = omega (arith, h1, h2, h3, h4, h5, h6, h7)

pub from_the_start : (P : Map → Type 0) (config : Config) (es : List Event) (logs : List (List Record)) (at : ℕ) → IsTrue (lawful config es) →
    MayBeLeft config es logs →
    P empty → ((u : Txn) → IsAmong (history logs) u → u.at ≤ at → Keeps P (run config es).lines u.txn u.writes) → P (upto (history logs) at)
from_the_start P config es logs at fair may start keeps = always P config logs (run config es).lines
    (externally_consistent config es logs fair may) at start keeps

from_one_time : (P : Map → Type 0) (config : Config) (es : List Event) (logs : List (List Record)) (from at : ℕ) → IsTrue (lawful config es) →
    MayBeLeft config es logs →
    from ≤ at → P (upto (history logs) from) → ((u : Txn) → IsAmong (history logs) u → from < u.at → u.at ≤ at →
    Keeps P (run config es).lines u.txn u.writes) → P (upto (history logs) at)
from_one_time P config es logs from at fair may le then keeps = between P config logs (run config es).lines
    (externally_consistent config es logs fair may) from at le then keeps

pub kept_from_the_start : KeptFromTheStart
kept_from_the_start test = from_the_start (λ m. IsTrue (test m))

pub kept_between : KeptBetween
kept_between test = from_one_time (λ m. IsTrue (test m))

pub total_stays : TotalStays
total_stays = record {
  later = λ b config es logs from at fair may le all.
      from_one_time (λ m. total b m ≡ total b (upto (history logs) from)) config es logs from at fair may le refl
      (λ u h above below. transfer_keeps b (total b (upto (history logs) from)) (run config es).lines u.txn u.writes (all u h above below));
  always = λ b config es logs at fair may all.
      from_the_start (λ m. total b m ≡ total b empty) config es logs at fair may refl
      (λ u h below. transfer_keeps b (total b empty) (run config es).lines u.txn u.writes (all u h below));
}

pub audits_agree : AuditsAgree
audits_agree b config es logs from at first second fair may le all one two =
    let law = externally_consistent config es logs fair may in
    sum_alike b b.accounts second (upto (history logs) at) (λ k h. sym (law.looks k at (second k) (two k h)))
    ∙ total_stays.later b config es logs from at fair may le all
    ∙ sum_alike b b.accounts (upto (history logs) from) first (λ k h. law.looks k from (first k) (one k h))

-- ---- no account below

abbrev pub NoneBelow : Bank → ℕ → Map → Type 0
NoneBelow b least m = (k : Bytes) → IsAmong b.accounts k → least ≤ b.amount (m k)

pub enough_keeps : (b : Bank) (least : ℕ) (lines : List Line) (i : Id) (ws : List Write) →
    ((k : Bytes) → IsAmong (accounts_of b ws) k → LeavesEnough b least lines i ws k) → Keeps (NoneBelow b least) lines i ws
enough_keeps b least lines i ws all m says was k j = by_test (writes_key ws k) refl
  where
    enough : put_all ws m k ≡ put_all ws empty k → LeavesEnough b least lines i ws k → least ≤ b.amount (put_all ws m k)
    enough same (inl high) = subst (λ y. least ≤ b.amount y) (sym same) high
    enough same (inr p) =
        let read : b.amount (m k) ≡ b.amount p.0 = ap (λ y. b.amount y) (says k p.0 p.1) in
        let old = was k j in
        let up = p.2 in
        subst (λ y. least ≤ b.amount y) (sym same) (omega (arith, read, old, up))

    by_test : (c : Bool) → writes_key ws k ≡ c → least ≤ b.amount (put_all ws m k)
    by_test false e = subst (λ y. least ≤ b.amount y) (sym (put_elsewhere ws m k e)) (was k j)
    by_test true e = enough (put_over ws m empty k e) (all k (keep_among (writes_key ws) b.accounts k j e))

pub never_below : NeverBelow
never_below b least config es logs at fair may start all =
    from_the_start (NoneBelow b least) config es logs at fair may start (λ u h below. enough_keeps b least (run config es).lines u.txn u.writes
    (λ k j. all u k h below j))
