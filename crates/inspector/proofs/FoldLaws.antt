-- What the transactions before one, and those up to a timestamp, show of a key.
use Rattle.std.specs.Prelude.{filter}
use Rattle.std.proofs.Common.{◌≡◌, ℕ, Bool, true, false, cond, List, [], ◌∷◌, None, nat_le, ap, ◌∙◌, refl}
use Rattle.units.specs.Keys.{Bytes}
use Rattle.units.specs.declared.writes.Write.{Write}
use Rattle.record.specs.History.{Map, Txn, applied, put_all, put, serial, before, upto, serial_before, empty}
use Rattle.inspector.specs.Versions.{shown, written}

written_all : (ws : List Write) (m : Map) (k : Bytes) → put_all ws m k ≡ written ws k (m k)
written_all [] m k = refl
written_all (w ∷ ws) m k = written_all ws (put w m) k

shown_kept : (test : Txn → Bool) (ts : List Txn) (m : Map) (k : Bytes) → applied (filter test ts) m k ≡ shown test ts k (m k)
shown_kept test [] m k = refl
shown_kept test (t ∷ ts) m k = by_test (λ (n : Map). shown_kept test ts n k) (test t)
  where
    by_test : ((n : Map) → applied (filter test ts) n k ≡ shown test ts k (n k)) → (b : Bool)
        → applied (cond b (t ∷ filter test ts) (filter test ts)) m k ≡ shown test ts k (cond b (written t.writes k (m k)) (m k))
    by_test rest true = rest (put_all t.writes m) ∙ ap (shown test ts k) (written_all t.writes m k)
    by_test rest false = rest m

pub before_is : (h : List Txn) (t : Txn) (k : Bytes) → before h t k ≡ shown (λ u. serial_before u t) (serial h) k None
unfolding before
before_is h t k = shown_kept (λ u. serial_before u t) (serial h) empty k

pub upto_is : (h : List Txn) (at : ℕ) (k : Bytes) → upto h at k ≡ shown (λ u. nat_le u.at at) (serial h) k None
unfolding upto
upto_is h at k = shown_kept (λ u. nat_le u.at at) (serial h) empty k
