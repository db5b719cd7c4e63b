-- What a shard is told.
use Rattle.std.specs.Prelude.{◌≡◌, ℕ, List}
use Rattle.units.specs.Keys.{Bytes}
use Rattle.units.specs.declared.setup.Book.TheVariants.{Off}
use Rattle.units.specs.declared.setup.Setup.{Setup}

-- its number, these splits and this stride, and no book
pub record IsSetupOf (keys : List Bytes) (ahead number : ℕ) (setup : Setup) : Type 0 where
  pub shard : setup.shard ≡ number
  pub splits : setup.splits ≡ keys
  pub stride : setup.stride ≡ ahead
  pub book : setup.book ≡ Off
