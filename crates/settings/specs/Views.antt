-- Settings of the code, as those that a document gives.
use Rattle.std.specs.Prelude.{option_map, string_bytes}
use Rattle.settings.specs.Documents.{DriveSettings}
use Rattle.settings.specs.declared.Settings.{Settings}

abbrev pub settings_view : Settings → DriveSettings
settings_view s = record {
  splits = s.splits;
  stride = s.stride;
  epsilon = s.epsilon;
  workers = s.workers;
  transactions = s.transactions;
  keys = s.keys;
  dir = option_map string_bytes s.dir;
}
