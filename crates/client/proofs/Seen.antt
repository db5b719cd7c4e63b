-- What a transaction sees stays while it reads.
use Rattle.std.proofs.Common.{◌≡◌, ℕ, Bool, true, false, cond, not, ◌&&◌, nat_le, List, [], ◌∷◌, ◌++◌, length, Option, Some, None, IfNone, IfSome}
use Rattle.std.proofs.Common.{refl, ap, sym, ◌∙◌, append_assoc, append-nil}
use Rattle.std.specs.List.{find}
use Rattle.std.specs.Prelude.{filter, option_map}
use Rattle.units.specs.Keys.{Bytes, has_key, same_key, shard_of}
use Rattle.units.specs.Lists.{first, head}
use Rattle.units.proofs.ListLaws.{find-is}
use Rattle.units.specs.declared.writes.Write.{Write}
use Rattle.units.specs.declared.fault.Reason.TheVariants.{Many, Again, Awaited, Doomed}
use Rattle.message.specs.declared.message.Answer.{Answer}
use Rattle.message.specs.declared.message.Answer.TheVariants.{Holds, Refused}
use Rattle.message.specs.declared.message.Address.TheVariants.{Shard}
use Rattle.message.specs.declared.message.Envelope.{Envelope}
use Rattle.message.specs.declared.message.Message.{Message}
use Rattle.session.specs.Sessions.{Client, Goes, asked_keys, doomed_by, epochs_agree, hears, is_doomed, reads, take_answer, was_answered, without_key}
use Rattle.session.specs.declared.answered.Answered.{Answered}
use Rattle.client.specs.Readings.{Step, Asks, Hears, IsStep, AreSteps, SeenStays, answered, or_else, seen, written}
use Rattle.client.proofs.Steps.{made}

-- a session that has the same writes, and more answers behind those that it had
record Grows (c d : Client) : Type 0 where
  writes : d.writes ≡ c.writes
  more : List Answered
  taken : d.taken ≡ c.taken ++ more

grows_by : (c m d : Client) → Grows c m → Grows m d → Grows c d
grows_by c m d one two = record {
  writes = two.writes ∙ one.writes;
  more = one.more ++ two.more;
  taken = two.taken ∙ (ap (λ (l : List Answered). l ++ two.more) one.taken ∙ append_assoc c.taken one.more two.more);
}

same_grows : (c d : Client) → d ≡ c → Grows c d
same_grows c d e = record {
  writes = ap (λ (x : Client). x.writes) e;
  more = [];
  taken = ap (λ (x : Client). x.taken) e ∙ sym (append-nil c.taken);
}

asks_grows : (splits : List Bytes) (k : Bytes) (c d : Client) (es : List Envelope) → reads splits k c ≡ Goes d es → Grows c d
unfolding reads
asks_grows splits k c d es e =
    let same : d ≡ record c { awaited = c.awaited ++ k ∷ [] } =
    made ((nat_le 128 (length (asked_keys c)), Many) ∷ (was_answered c k, Again) ∷ (has_key c.awaited k, Awaited) ∷ (is_doomed c, Doomed) ∷ [])
    (record c { awaited = c.awaited ++ k ∷ [] }) d
    (record { to = Shard (shard_of splits k); message = Message.Read (record { txn = c.txn; key = k }) } ∷ []) es e in
    record {
      writes = ap (λ (x : Client). x.writes) same;
      more = [];
      taken = ap (λ (x : Client). x.taken) same ∙ sym (append-nil c.taken);
    }

hears_grows : (n : ℕ) (k : Bytes) (epoch : ℕ) (a : Answer) (c : Client) → Grows c (hears n k epoch a c)
unfolding hears
hears_grows n k epoch a c = by_test (has_key c.awaited k && not (is_doomed c))
  where
    by_agree : (x : Option Bytes) (b : Bool)
        → Grows c (cond b (record c { taken = c.taken ++ record { key = k; shard = n; epoch = epoch; value = x } ∷ []; awaited = without_key c.awaited k })
        (doomed_by k c))
    by_agree x true = record { writes = refl; more = record { key = k; shard = n; epoch = epoch; value = x } ∷ []; taken = refl }
    by_agree x false = record { writes = refl; more = []; taken = sym (append-nil c.taken) }

    by_answer : (b : Answer) → Grows c (take_answer c n k epoch b)
    by_answer Refused = record { writes = refl; more = []; taken = sym (append-nil c.taken) }
    by_answer (Holds x) = by_agree x (epochs_agree c.taken n epoch)

    by_test : (b : Bool) → Grows c (cond b (take_answer c n k epoch a) c)
    by_test true = by_answer a
    by_test false = same_grows c c refl

step_grows : (splits : List Bytes) (s : Step) (c d : Client) → IsStep splits s c d → Grows c d
step_grows splits (Asks k) c d is = asks_grows splits k c d is.0 is.1
step_grows splits (Hears n k epoch a) c d is = grows_by c (hears n k epoch a c) d (hears_grows n k epoch a c) (same_grows (hears n k epoch a c) d is)

steps_grow : (splits : List Bytes) (ss : List Step) (c d : Client) → AreSteps splits ss c d → Grows c d
steps_grow splits [] c d is = same_grows c d is
steps_grow splits (s ∷ ss) c d is = grows_by c is.0 d (step_grows splits s c is.0 is.1) (steps_grow splits ss is.0 d is.2)

-- the first answer for a key stays the first
answered_on : (k : Bytes) (xs ys : List Answered) (v : Option Bytes) → answered xs k ≡ Some v → answered (xs ++ ys) k ≡ Some v
answered_on k [] ys v e = cc
answered_on k (a ∷ rest) ys v e = by_test (same_key a.key k) e (answered_on k rest ys v)
  where
    by_test : (b : Bool) → option_map (λ x. x.value) (head (cond b (a ∷ filter (λ x. same_key x.key k) rest) (filter (λ x. same_key x.key k) rest))) ≡ Some v
        → (answered rest k ≡ Some v → answered (rest ++ ys) k ≡ Some v)
        → option_map (λ x. x.value) (head (cond b (a ∷ filter (λ x. same_key x.key k) (rest ++ ys)) (filter (λ x. same_key x.key k) (rest ++ ys)))) ≡ Some v
    by_test true e more = e
    by_test false e more = more e

seen_on : (c d : Client) (k : Bytes) (v : Option Bytes) → Grows c d → seen c k ≡ Some v → seen d k ≡ Some v
seen_on c d k v grows e =
    ap (λ (ws : List Write). or_else (written ws k) (answered d.taken k)) grows.writes
    ∙ (ap (λ (l : List Answered). or_else (written c.writes k) (answered l k)) grows.taken ∙ by_write (written c.writes k) e)
  where
    by_write : (o : Option (Option Bytes)) → or_else o (answered c.taken k) ≡ Some v → or_else o (answered (c.taken ++ grows.more) k) ≡ Some v
    by_write (Some x) e = e
    by_write None e = answered_on k c.taken grows.more v e

pub seen_stays : SeenStays
seen_stays splits c d k v read e = seen_on c d k v (steps_grow splits read.0 c d read.1) e

-- what a look for the first that passes says of what it finds, and of nothing
pub found_none : {A B : Type 0} (p : B → Bool) (xs : List B) (v : A → B) (r : Option A) → option_map v r ≡ find p xs → IfNone r (first p xs ≡ None)
found_none p xs v None e = sym (e ∙ find-is p xs)
found_none p xs v (Some x) e = tt

pub found_some : {A B : Type 0} (p : B → Bool) (xs : List B) (v : A → B) (r : Option A) → option_map v r ≡ find p xs →
    IfSome r (λ x. first p xs ≡ Some (v x))
found_some p xs v None e = tt
found_some p xs v (Some x) e = sym (e ∙ find-is p xs)
