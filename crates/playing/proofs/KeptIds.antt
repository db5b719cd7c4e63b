-- An id that no log retired: it is not below the greatest id below which one of the logs retired all, so each log keeps it.
use Rattle.std.proofs.Common.{◌≡◌, Bool, true, false, cond, List, [], ◌∷◌, Option, Some, None, refl, sym, ap, ◌∙◌, arith}
use Rattle.std.proofs.lemmas.Bool.Decides.{nat_tests}
use Rattle.std.specs.List.{AllByRecursion}
use Rattle.units.specs.Ids.{Id, older}
use Rattle.record.specs.Records.{is_below, retired_of}
use Rattle.record.specs.Verdict.{later_id, latest_retired}
use Rattle.record.specs.declared.record.Record.{Record}

-- who is not below the later of two is below neither
below_later : (a b : Option Id) (t : Id) → is_below (later_id a b) t ≡ false → (is_below a t ≡ false) × (is_below b t ≡ false)
below_later None b t h = (refl, h)
below_later (Some a) None t h = (h, refl)
below_later (Some a) (Some b) t h = by_test (older a b) refl h
  where
    by_test : (c : Bool) → older a b ≡ c → is_below (cond c (Some b) (Some a)) t ≡ false → (older t a ≡ false) × (older t b ≡ false)
    by_test true e k = (grind (arith, nat_tests), k)
    by_test false e k = (k, grind (arith, nat_tests))

-- a log that has not retired the id
abbrev pub NotRetired : Id → List Record → Type 0
NotRetired t log = is_below (retired_of log) t ≡ false

pub kept_in_each : (found : Option Id) (logs : List (List Record)) (t : Id) → is_below (latest_retired found logs) t ≡ false →
    (is_below found t ≡ false) × AllByRecursion (NotRetired t) logs
kept_in_each found [] t h = (h, tt)
kept_in_each found (log ∷ logs) t h =
    let rest = kept_in_each (later_id found (retired_of log)) logs t h in
    let two = below_later found (retired_of log) t rest.0 in
    (two.0, (two.1, rest.1))
