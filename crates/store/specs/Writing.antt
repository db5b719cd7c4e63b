-- What a transaction sees of what it has written.
use Rattle.std.specs.Prelude.{◌≡◌, false, [], Some}
use Rattle.units.specs.Keys.{Bytes, same_key}
use Rattle.units.specs.declared.writes.Write.{Write}
use Rattle.session.specs.Sessions.{Client, Goes, buffers}
use Rattle.client.specs.Readings.{seen}

-- a transaction sees what it has written last to a key, and what it sees of another key stays
pub record WritesAreSeen : Type 0 where
  pub own : (w : Write) (c d : Client) → buffers w c ≡ Goes d [] → seen d w.key ≡ Some w.value
  pub others : (w : Write) (c d : Client) (k : Bytes) → buffers w c ≡ Goes d [] → same_key w.key k ≡ false → seen d k ≡ seen c k
