-- A transfer keeps the total.
use Rattle.std.proofs.Common.{◌≡◌, ◌≢◌, inl, inr, ℕ, ◌+◌, ◌-◌, ◌≤◌, Bool, true, false, cond, nat_le, List, [], ◌∷◌, map, Some, refl, sym, ap, subst, ◌∙◌, arith, IsTrue}
use Rattle.std.proofs.lemmas.Bool.Decides.{nat_tests}
use Rattle.units.specs.Keys.{Bytes, same_key}
use Rattle.units.specs.declared.writes.Write.{Write}
use Rattle.units.proofs.KeyLaws.{same_key-is, same_key-refl}
use Rattle.record.specs.History.{Txn, Map, put, put_all, empty, history, upto}
use Rattle.record.specs.declared.record.Record.{Record}
use Rattle.law.specs.Among.{IsAmong}
use Rattle.world.specs.Headline.{MayBeLeft}
use Rattle.world.specs.Lawful.{lawful}
use Rattle.world.specs.World.{ShardNow, run}
use Rattle.world.specs.declared.event.Config.{Config}
use Rattle.world.specs.declared.event.Event.{Event}
use Rattle.law.proofs.WholeLaw.{externally_consistent, as_they_are}
use Rattle.accounts.specs.Bank.{Bank, sum_of, total}
use Rattle.accounts.specs.Sessions.{AllClosed}
use Rattle.accounts.specs.Transfers.{AllKeep, KeysOnce, IsSpelt, Leaves, transfer, TransfersConserve, TransfersKeep}
use Rattle.accounts.proofs.Sums.{put_elsewhere, sum_alike}
use Rattle.accounts.proofs.BySessions.{keep_behind, keep_by_sessions}
use Rattle.accounts.proofs.Induction.{Keeps}

put_here : (w : Write) (m : Map) → put w m w.key ≡ w.value
put_here w m = ap (λ b. cond b w.value (m w.key)) (same_key-refl w.key)

put_there : (w : Write) (m : Map) (k : Bytes) → (k ≡ w.key → ⊥) → put w m k ≡ m k
put_there w m k other = by_test (same_key k w.key) refl
  where
    by_test : (b : Bool) → same_key k w.key ≡ b → cond b w.value (m k) ≡ m k
    by_test true e = absurd (other (same_key-is k w.key e))
    by_test false e = refl

-- one write changes the sum by what it puts in the place of what was there
put_sum : (b : Bank) (w : Write) (m : Map) (ks : List Bytes) → KeysOnce ks → IsAmong ks w.key →
    sum_of b ks (put w m) + b.amount (m w.key) ≡ sum_of b ks m + b.amount w.value
put_sum b w m [] once among = absurd among
put_sum b w m (k ∷ ks) once (inl same) =
    let rest = sum_alike b ks (put w m) m (λ j h. put_there w m j (λ e. once.0 (subst (λ z. IsAmong ks z) (e ∙ sym same) h))) in
    let here : b.amount (put w m k) ≡ b.amount w.value = ap (λ x. b.amount x) (subst (λ z. put w m z ≡ w.value) (sym same) (put_here w m)) in
    let old : b.amount (m k) ≡ b.amount (m w.key) = ap (λ z. b.amount (m z)) same in
    omega (arith, rest, here, old)
put_sum b w m (k ∷ ks) once (inr later) =
    let ih = put_sum b w m ks once.1 later in
    let here : b.amount (put w m k) ≡ b.amount (m k) = ap (λ x. b.amount x) (put_there w m k (λ e. once.0 (subst (λ z. IsAmong ks z) (sym e) later))) in
    omega (arith, ih, here)

pub transfer_is_even : (b : Bank) (spell : ℕ → Bytes) (from to : Bytes) (n : ℕ) (m : Map) → IsSpelt b spell → IsAmong b.accounts from →
    IsAmong b.accounts to → from ≢ to →
    total b (put_all (transfer b spell from to n m) m) ≡ total b m
transfer_is_even b spell from to n m is from_in to_in apart = by_test (nat_le n (b.amount (m from))) refl
  where
    add : (s s1 s2 a c n x y o : ℕ) → s1 + a ≡ s + x → s2 + o ≡ s1 + y → x ≡ a - n → y ≡ c + n → o ≡ c → n ≤ a → s2 ≡ s
    add s s1 s2 a c n x y o h1 h2 h3 h4 h5 h6 = omega (arith, h1, h2, h3, h4, h5, h6)

    le : (a c : ℕ) → nat_le a c ≡ true → a ≤ c
    le a c e = grind (arith, nat_tests)

    moved : (l g : Write) → l.key ≡ from → g.key ≡ to → b.amount l.value ≡ b.amount (m from) - n → b.amount g.value ≡ b.amount (m to) + n →
        n ≤ b.amount (m from) → total b (put g (put l m)) ≡ total b m
    moved l g lk gk lv gv enough =
        let first = put_sum b l m b.accounts is.once (subst (λ z. IsAmong b.accounts z) (sym lk) from_in) in
        let second = put_sum b g (put l m) b.accounts is.once (subst (λ z. IsAmong b.accounts z) (sym gk) to_in) in
        let untouched : b.amount (put l m g.key) ≡ b.amount (m to) = ap (λ x. b.amount x) (put_there l m g.key (λ e. apart (sym lk ∙ sym e ∙ gk)) ∙ ap m gk) in
        let was : b.amount (m l.key) ≡ b.amount (m from) = ap (λ z. b.amount (m z)) lk in
        add (total b m) (total b (put l m)) (total b (put g (put l m))) (b.amount (m from)) (b.amount (m to)) n (b.amount l.value) (b.amount g.value)
        (b.amount (put l m g.key)) (omega (arith, first, was)) second lv gv untouched enough

    by_test : (c : Bool) → nat_le n (b.amount (m from)) ≡ c →
        total b (put_all (cond c (record { key = from; value = Some (spell (b.amount (m from) - n)) } ∷ record {
          key = to;
          value =
              Some (spell (b.amount (m to) + n));
        } ∷ []) []) m) ≡ total b m
    by_test true e = moved (record { key = from; value = Some (spell (b.amount (m from) - n)) })
        (record { key = to; value = Some (spell (b.amount (m to) + n)) }) refl refl (is.reads_back (b.amount (m from) - n))
        (is.reads_back (b.amount (m to) + n)) (le n (b.amount (m from)) e)
    by_test false e = refl

-- a transfer, a session that writes no account and one that leaves the total keep it
kept : (b : Bank) (spell : ℕ → Bytes) (sum : ℕ) (config : Config) (es : List Event) → IsSpelt b spell → AllKeep b spell sum (run config es)
    → AllClosed (run config es) (λ c. Keeps (λ m. total b m ≡ sum) (run config es).lines c.txn c.writes)
kept b spell sum config es is all c there closed m says p = elim (all c there closed) [
  | inl t ↦ subst (λ ws. total b (put_all ws m) ≡ sum) (t.follows m says)
      (transfer_is_even b spell t.from t.to t.amount m is t.from_account t.to_account t.apart ∙ p)
  | inr (inl none) ↦ sum_alike b b.accounts (put_all c.writes m) m (λ k h. put_elsewhere c.writes m k (none k h)) ∙ p
  | inr (inr leaves) ↦ leaves m says
]

pub transfers_keep : TransfersKeep
transfers_keep = record {
  snapshots = snapshot;
  audits = λ b spell sum config es logs opening at seen is fair may among leaves all le audit.
      sum_alike b b.accounts seen (upto (history logs) at) (λ k h. sym ((externally_consistent config es logs fair may).looks k at (seen k) (audit k h)))
      ∙ snapshot b spell sum config es logs opening at is fair may among leaves all le;
}
  where
    snapshot : (b : Bank) (spell : ℕ → Bytes) (sum : ℕ) (config : Config) (es : List Event) (logs : List (List Record)) (opening : Txn) (at : ℕ) →
        IsSpelt b spell → IsTrue (lawful config es) → MayBeLeft config es logs →
        IsAmong (history logs) opening → Leaves b sum (run config es).lines opening.txn opening.writes →
        AllKeep b spell sum (run config es) → opening.at ≤ at → total b (upto (history logs) at) ≡ sum
    snapshot b spell sum config es logs opening at is fair may among leaves all le =
        keep_behind (λ m. total b m ≡ sum) config es logs opening at fair may among le leaves (kept b spell sum config es is all)

pub transfers_conserve : TransfersConserve
transfers_conserve b spell config es at seen is fair all audit =
    let logs : List (List Record) = map (λ (s : ShardNow). s.log) (run config es).shards in
    let may : MayBeLeft config es logs = inl (as_they_are (run config es).shards) in
    sum_alike b b.accounts seen (upto (history logs) at) (λ k h. sym ((externally_consistent config es logs fair may).looks k at (seen k) (audit k h)))
    ∙ keep_by_sessions (λ m. total b m ≡ total b empty) config es logs at fair may refl
    (λ c there closed m says p. elim (all c there closed) [
      | inl t ↦ subst (λ ws. total b (put_all ws m) ≡ total b empty) (t.follows m says)
          (transfer_is_even b spell t.from t.to t.amount m is t.from_account t.to_account t.apart ∙ p)
      | inr none ↦ sum_alike b b.accounts (put_all c.writes m) m (λ k h. put_elsewhere c.writes m k (none k h)) ∙ p
    ])
