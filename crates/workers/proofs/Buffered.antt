-- What a transaction buffers.
use Rattle.std.proofs.Common.{◌≡◌, not, ◌&&◌, nat_le, [], ◌∷◌, length, Some, ap}
use Rattle.units.specs.Keys.{Bytes, writes_key}
use Rattle.units.specs.declared.fault.Reason.TheVariants.{Many, Doomed}
use Rattle.units.specs.declared.writes.Write.{Write}
use Rattle.session.specs.Sessions.{Client, Goes, buffers, with_write, is_doomed}
use Rattle.client.proofs.Steps.{made}
use Rattle.workers.specs.Turns.{IsNext, IsNextOf}
use Rattle.workers.specs.declared.reads.Asked.{Asked}

buffered : (w : Write) (c d : Client) → buffers w c ≡ Goes d [] → d.writes ≡ with_write c.writes w
unfolding buffers
buffered w c d e =
    ap (λ (k : Client). k.writes)
    (made ((nat_le 128 (length c.writes) && not (writes_key c.writes w.key), Many) ∷ (is_doomed c, Doomed) ∷ [])
    (record c { writes = with_write c.writes w }) d [] [] e)

-- what follows an answer is buffered
pub next_follows : (a : Asked) (next : Bytes) (c d : Client) → IsNext a.value next → buffers (record { key = a.key; value = Some next }) c ≡ Goes d []
    → IsNextOf a c.writes d.writes
next_follows a next c d follows goes = (next, follows, buffered (record { key = a.key; value = Some next }) c d goes)
