-- What a session refuses ends the code of its transaction.
use Rattle.std.proofs.Common.{◌≡◌, inl, inr, Bool, true, false, true≢false, cond, not, ◌&&◌, nat_le, List, [], ◌∷◌, ◌++◌, length, Result, Ok, Err}
use Rattle.std.proofs.Common.{IfErr, refl, ap, sym, subst}
use Rattle.std.specs.Prelude.{IsTrue, MatchResult}
use Rattle.units.specs.Keys.{Bytes, has_key, shard_of, writes_key}
use Rattle.units.specs.declared.fault.Fault.{Fault}
use Rattle.units.specs.declared.fault.Fault.TheVariants.{BadRequest, Memory}
use Rattle.units.specs.declared.fault.Reason.{Reason}
use Rattle.units.specs.declared.fault.Reason.TheVariants as reason
use Rattle.units.specs.declared.writes.Write.{Write}
use Rattle.message.specs.declared.message.Address.TheVariants.{Shard}
use Rattle.message.specs.declared.message.Envelope.{Envelope}
use Rattle.message.specs.declared.message.Message.{Message}
use Rattle.session.specs.Sessions.{Client, IsClosing, Moved, Denies, Goes, unless, asked_keys, was_answered, is_doomed, is_none, with_write, reads}
use Rattle.session.specs.Sessions.{buffers, closes, closing_messages}
use Rattle.session.specs.Shown.{IsDenied, is_made}
use Rattle.client.specs.Ends.{IsRefused, halt_for}
use Rattle.client.specs.declared.ended.Ended.{Ended}
use Rattle.client.specs.Refusals.{IsReadHalt, IsStepFault, is_step_reason}

-- each of some reasons is one for which a session refuses a step
abbrev AreReasons : List (Bool × Reason) → Type 0
AreReasons [] = Unit {0}
AreReasons (r ∷ rs) = IsTrue (is_step_reason r.1) × AreReasons rs

why_of : Moved → Fault
why_of (Denies f) = f
why_of (Goes c es) = Memory

-- a step that is refused for one of some reasons
denied_for : (rs : List (Bool × Reason)) (c : Client) (es : List Envelope) (f : Fault) → AreReasons rs → unless rs (Goes c es) ≡ Denies f
    → IsStepFault f
unfolding why_of
denied_for [] c es f each e = absurd (true≢false (ap is_made e))
denied_for (r ∷ rs) c es f each e = by_test (denied_for rs c es f each.1) r.0 e
  where
    by_test : (unless rs (Goes c es) ≡ Denies f → IsStepFault f) → (b : Bool) → cond b (Denies (BadRequest r.1)) (unless rs (Goes c es)) ≡ Denies f
        → IsStepFault f
    by_test more true e = inr (r.1, sym (ap why_of e), each.0)
    by_test more false e = more e

pub reads_denied : (splits : List Bytes) (k : Bytes) (c : Client) (f : Fault) → IsDenied (reads splits k c) f → IsStepFault f
unfolding reads
reads_denied splits k c f (inr memory) = inl memory.0
reads_denied splits k c f (inl is) =
    denied_for
    ((nat_le 128 (length (asked_keys c)), reason.Many) ∷ (was_answered c k, reason.Again) ∷ (has_key c.awaited k, reason.Awaited)
    ∷ (is_doomed c, reason.Doomed) ∷ [])
    (record c { awaited = c.awaited ++ k ∷ [] })
    (record { to = Shard (shard_of splits k); message = Message.Read (record { txn = c.txn; key = k }) } ∷ []) f
    (refl, (refl, (refl, (refl, tt)))) is

pub buffers_denied : (w : Write) (c : Client) (f : Fault) → IsDenied (buffers w c) f → IsStepFault f
unfolding buffers
buffers_denied w c f (inr memory) = inl memory.0
buffers_denied w c f (inl is) =
    denied_for ((nat_le 128 (length c.writes) && not (writes_key c.writes w.key), reason.Many) ∷ (is_doomed c, reason.Doomed) ∷ [])
    (record c { writes = with_write c.writes w }) [] f (refl, (refl, tt)) is

closes_denied : (splits : List Bytes) (c : Client) (f : Fault) → IsDenied (closes splits c) f → IsStepFault f
unfolding closes
closes_denied splits c f (inr memory) = inl memory.0
closes_denied splits c f (inl is) =
    denied_for
    ((is_none (asked_keys c) && is_none c.writes, reason.Nothing) ∷ (not (is_none c.awaited), reason.Awaited) ∷ (is_doomed c, reason.Doomed) ∷ [])
    (record c { stage = IsClosing }) (closing_messages splits c) f (refl, (refl, (refl, tt))) is

-- why a session is not closed
pub not_closed : (splits : List Bytes) (c : Client) (sent : List Envelope) (P : Ended → Type 0) (r : Result Ended Fault)
    → MatchResult r P (λ fault. IsRefused splits c fault sent) → IfErr r IsStepFault
not_closed splits c sent P (Ok ended) is = tt
not_closed splits c sent P (Err fault) (inl denied, given_up) = closes_denied splits c fault (inl denied)
not_closed splits c sent P (Err fault) (inr memory, given_up) = inl memory

-- a step that is refused ends the code
pub halts_for : (f : Fault) → IsStepFault f → IsReadHalt (halt_for f)
halts_for f (inl memory) = subst (λ (g : Fault). IsReadHalt (halt_for g)) (sym memory) (inl refl)
halts_for f (inr why) = subst (λ (g : Fault). IsReadHalt (halt_for g)) (sym why.1) (by_reason why.0 why.2)
  where
    by_reason : (w : Reason) → IsTrue (is_step_reason w) → IsReadHalt (halt_for (BadRequest w))
    by_reason reason.Doomed among = tt
    by_reason reason.Many among = inr (reason.Many, refl, among)
    by_reason reason.Nothing among = inr (reason.Nothing, refl, among)
    by_reason reason.Again among = inr (reason.Again, refl, among)
    by_reason reason.Awaited among = inr (reason.Awaited, refl, among)
    by_reason reason.Key among = inr (reason.Key, refl, among)
    by_reason reason.Value among = inr (reason.Value, refl, among)
    by_reason reason.Stamp among = inr (reason.Stamp, refl, among)
    by_reason reason.Splits among = inr (reason.Splits, refl, among)
    by_reason reason.Settings among = inr (reason.Settings, refl, among)
    by_reason reason.Command among = inr (reason.Command, refl, among)
    by_reason reason.State among = inr (reason.State, refl, among)
    by_reason (reason.Syntax n) among = inr (reason.Syntax n, refl, among)
    by_reason (reason.Unlawful n) among = inr (reason.Unlawful n, refl, among)

-- a key that may not be asked for ends the code
pub reads_halted : (splits : List Bytes) (k : Bytes) (c : Client) (f : Fault) → IsDenied (reads splits k c) f → IsReadHalt (halt_for f)
reads_halted splits k c f is = halts_for f (reads_denied splits k c f is)
