-- A session that reads writes nothing.
use Rattle.std.proofs.Common.{◌≡◌, ℕ, Bool, true, false, cond, not, ◌&&◌, nat_le, List, [], ◌∷◌, ◌++◌, length, Option, refl, ap, ◌∙◌}
use Rattle.units.specs.Keys.{Bytes, has_key, shard_of}
use Rattle.units.specs.declared.fault.Reason.TheVariants.{Many, Again, Awaited, Doomed}
use Rattle.message.specs.declared.message.Answer.{Answer}
use Rattle.message.specs.declared.message.Answer.TheVariants.{Holds, Refused}
use Rattle.message.specs.declared.message.Address.TheVariants.{Shard}
use Rattle.message.specs.declared.message.Envelope.{Envelope}
use Rattle.message.specs.declared.message.Message.{Message}
use Rattle.session.specs.Sessions.{Client, Goes, asked_keys, doomed_by, epochs_agree, hears, is_doomed, reads, take_answer, was_answered, without_key}
use Rattle.client.specs.Readings.{Step, Asks, Hears, IsStep, AreSteps, HasRead}
use Rattle.client.proofs.Steps.{made}

asks_only : (splits : List Bytes) (k : Bytes) (c d : Client) (es : List Envelope) → reads splits k c ≡ Goes d es → d.writes ≡ c.writes
unfolding reads
asks_only splits k c d es e =
    ap (λ (x : Client). x.writes)
    (made ((nat_le 128 (length (asked_keys c)), Many) ∷ (was_answered c k, Again) ∷ (has_key c.awaited k, Awaited) ∷ (is_doomed c, Doomed) ∷ [])
    (record c { awaited = c.awaited ++ k ∷ [] }) d
    (record { to = Shard (shard_of splits k); message = Message.Read (record { txn = c.txn; key = k }) } ∷ []) es e)

hears_only : (n : ℕ) (k : Bytes) (epoch : ℕ) (a : Answer) (c : Client) → (hears n k epoch a c).writes ≡ c.writes
unfolding hears
hears_only n k epoch a c = by_test (has_key c.awaited k && not (is_doomed c))
  where
    by_agree : (x : Option Bytes) (b : Bool)
        → (cond b (record c { taken = c.taken ++ record { key = k; shard = n; epoch = epoch; value = x } ∷ []; awaited = without_key c.awaited k })
        (doomed_by k c)).writes ≡ c.writes
    by_agree x true = refl
    by_agree x false = refl

    by_answer : (b : Answer) → (take_answer c n k epoch b).writes ≡ c.writes
    by_answer Refused = refl
    by_answer (Holds x) = by_agree x (epochs_agree c.taken n epoch)

    by_test : (b : Bool) → (cond b (take_answer c n k epoch a) c).writes ≡ c.writes
    by_test true = by_answer a
    by_test false = refl

step_only : (splits : List Bytes) (s : Step) (c d : Client) → IsStep splits s c d → d.writes ≡ c.writes
step_only splits (Asks k) c d is = asks_only splits k c d is.0 is.1
step_only splits (Hears n k epoch a) c d is = ap (λ (x : Client). x.writes) is ∙ hears_only n k epoch a c

steps_only : (splits : List Bytes) (ss : List Step) (c d : Client) → AreSteps splits ss c d → d.writes ≡ c.writes
steps_only splits [] c d is = ap (λ (x : Client). x.writes) is
steps_only splits (s ∷ ss) c d is = steps_only splits ss is.0 d is.2 ∙ step_only splits s c is.0 is.1

pub writes_stay : (splits : List Bytes) (c d : Client) → HasRead splits c d → d.writes ≡ c.writes
writes_stay splits c d read = steps_only splits read.0 c d read.1
