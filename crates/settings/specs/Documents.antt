-- The documents that give settings.
use Rattle.std.specs.Prelude.{◌≡◌, ◌⊎◌, ℕ, ℤ, pos, Bool, ◌==◌, ◌&&◌, ◌||◌, ◌-◌, true, false, List, [], ◌∷◌, Option, Some, None}
use Rattle.std.specs.Prelude.{codes, length, if◌then◌else◌, nat_le, option_and_then, option_map}
use Rattle.std.specs.Str.{bytes_eq}
use Rattle.toml.specs.Data.{Data, Items, no_items, item, Members, no_members, member, as_array, as_integer, as_str, get_member}
use Rattle.toml.specs.Parse.{parse_document}
use Rattle.units.specs.Keys.{Bytes, key_before}
use Rattle.units.specs.Lists.{ascends}
use Rattle.units.specs.declared.fault.Fault.{Fault}
use Rattle.units.specs.declared.fault.Fault.TheVariants.{BadRequest, Memory}
use Rattle.units.specs.declared.fault.Reason.TheVariants as reason
use Rattle.settings.specs.declared.wrong.Setting.{Setting}
use Rattle.settings.specs.declared.wrong.Setting.TheVariants as setting
use Rattle.settings.specs.declared.wrong.Unread.{Unread}
use Rattle.settings.specs.declared.wrong.Unread.TheVariants as unread
use Rattle.settings.specs.declared.wrong.Wrong.{Wrong}
use Rattle.settings.specs.declared.wrong.Wrong.TheVariants as wrong

pub record DriveSettings : Type 0 where
  pub splits : List Bytes
  pub stride : ℕ
  pub epsilon : ℕ
  pub workers : ℕ
  pub transactions : ℕ
  pub keys : ℕ
  pub dir : Option Bytes

-- there is nothing to give
abbrev pub GivesNothing : {A : Type 0} → Fault → Option A → Type 0
GivesNothing fault o = (fault ≡ BadRequest reason.Settings) × (o ≡ None)

-- there was no memory, or there is nothing to give
abbrev pub Refuses : {A : Type 0} → Fault → Option A → Type 0
Refuses fault o = (fault ≡ Memory) ⊎ GivesNothing fault o

-- how a key is written
abbrev pub name_of : Setting → Bytes
name_of setting.Shards = codes "shards"
name_of setting.Splits = codes "splits"
name_of setting.Stride = codes "stride"
name_of setting.Epsilon = codes "epsilon"
name_of setting.Workers = codes "workers"
name_of setting.Transactions = codes "transactions"
name_of setting.Keys = codes "keys"
name_of setting.Dir = codes "dir"

-- the fault of it
abbrev pub fault_of : Unread → Fault
fault_of unread.Memory = Memory
fault_of (unread.Wrong wrong) = BadRequest reason.Settings

-- there was no memory, or something is wrong, and there is nothing to give
abbrev pub IsUnread : {A : Type 0} → Unread → Option A → Type 0
IsUnread unread.Memory o = Unit {0}
IsUnread (unread.Wrong wrong) o = o ≡ None

-- a key is missing
abbrev pub is_missing : Wrong → Bool
is_missing (wrong.Missing key) = true
is_missing _ = false

-- the value, where it passes the test
abbrev pub if_passes : {A : Type 0} → Bool → A → Option A
if_passes test a = if test then Some a else None

abbrev pub is_known : Bytes → Bool
is_known key = bytes_eq key (codes "shards") || (bytes_eq key (codes "splits") || (bytes_eq key (codes "stride")
    || (bytes_eq key (codes "epsilon") || (bytes_eq key (codes "workers") || (bytes_eq key (codes "transactions")
    || (bytes_eq key (codes "keys") || bytes_eq key (codes "dir")))))))

-- no key is unknown
abbrev pub knows : Members → Bool
knows no_members = true
knows (member key d rest) = is_known key && knows rest

-- the whole number, from least to most
abbrev pub number_in : ℕ → ℕ → Option ℤ → Option ℕ
number_in least most (Some (pos n)) = if_passes (nat_le least n && nat_le n most) n
number_in least most _ = None

abbrev pub number_member : Bytes → ℕ → ℕ → Members → Option ℕ
number_member key least most ms = number_in least most (option_and_then as_integer (get_member key ms))

-- a text of 1 to 64 bytes
abbrev pub key_in : Data → Option Bytes
key_in d = option_and_then (λ s. if_passes (nat_le 1 (length s) && nat_le (length s) 64) s) (as_str d)

-- the keys of a list that has nothing else
abbrev pub keys_in : Items → Option (List Bytes)
keys_in no_items = Some []
keys_in (item d rest) = option_and_then (λ k. option_map (λ ks. k ∷ ks) (keys_in rest)) (key_in d)

-- the keys, where they are one less than the shards and each is before the next one
abbrev pub parted : ℕ → List Bytes → Option (List Bytes)
parted shards keys = if_passes ((length keys == shards - 1) && ascends key_before keys) keys

abbrev pub splits_in : ℕ → Members → Option (List Bytes)
splits_in shards ms = option_and_then (parted shards)
    (option_and_then keys_in (option_and_then as_array (get_member (codes "splits") ms)))

-- a text that is not empty, or nothing
abbrev pub text_or_none : Option Data → Option (Option Bytes)
text_or_none None = Some None
text_or_none (Some d) = option_and_then (λ s. if_passes (nat_le 1 (length s)) (Some s)) (as_str d)

abbrev pub dir_in : Members → Option (Option Bytes)
dir_in ms = text_or_none (get_member (codes "dir") ms)

-- the settings that a table gives
abbrev pub settings_in : Members → Option DriveSettings
settings_in ms = if knows ms
    then option_and_then (λ shards. option_and_then (λ stride. option_and_then (λ epsilon.
    option_and_then (λ workers. option_and_then (λ transactions. option_and_then (λ keys.
    option_and_then (λ splits. option_map (λ dir. record {
      splits = splits;
      stride = stride;
      epsilon = epsilon;
      workers = workers;
      transactions = transactions;
      keys = keys;
      dir = dir;
    }) (dir_in ms))
    (splits_in shards ms)) (number_member (codes "keys") 1 10000 ms)) (number_member (codes "transactions") 1 100000 ms))
    (number_member (codes "workers") 1 64 ms)) (number_member (codes "epsilon") 0 1000000 ms))
    (number_member (codes "stride") 0 10000000 ms)) (number_member (codes "shards") 1 16 ms)
    else None

-- the settings that a text gives: it is a document, and that gives them
abbrev pub settings_of : List ℕ → Option DriveSettings
settings_of text = option_and_then settings_in (parse_document text)
