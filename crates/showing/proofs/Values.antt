-- What is read of a log that its shard takes.
use Rattle.std.proofs.Common.{◌≡◌, ◌∙◌, ℕ, Bool, false, List, [], Option, Some, None, Result, Ok, Err, refl, sym, ap, subst}
use Rattle.units.specs.Keys.{Bytes}
use Rattle.units.specs.Versions.{at_time, latest}
use Rattle.units.specs.declared.fault.Fault.{Fault}
use Rattle.units.specs.declared.setup.Setup.{Setup}
use Rattle.record.specs.Facts.{Facts, facts_of}
use Rattle.record.specs.Installs.{installs_of}
use Rattle.record.specs.Records.{floor_of}
use Rattle.record.specs.declared.record.Record.{Record}
use Rattle.recovery.specs.Kept.{Kept}
use Rattle.recovery.specs.Recovered.{IsRebuilt}
use Rattle.texts.specs.Numbers.{and_then}
use Rattle.showing.specs.declared.told.Told.{Told}
use Rattle.showing.specs.Histories.{as_found, found_by, history, history_in, is_below, is_settled, is_settled_at, log_in, settled_by, unless_below, value_by, value_in, value_told, value_with}
use Rattle.showing.specs.Histories.{whole_from}

-- what a log of no record leaves
pub rebuilt_none : (setup : Setup) (records : List Record) (state : Option Kept) → IsRebuilt setup records state → state ≡ None → records ≡ []
rebuilt_none setup records state rebuilt is = subst (λ (s : Option Kept). IsRebuilt setup records s) is rebuilt

-- the facts of what another log leaves
pub rebuilt_facts : (setup : Setup) (records : List Record) (state : Option Kept) (kept : Kept) → IsRebuilt setup records state → state ≡ Some kept
    → kept.facts ≡ facts_of records
rebuilt_facts setup records state kept rebuilt is = (subst (λ (s : Option Kept). IsRebuilt setup records s) is rebuilt).1

-- there is no value in a log of no record
none_there : (k : Bytes) (at : Option ℕ) → value_by [] k at ≡ None
unfolding installs_of latest at_time
none_there k None = refl
none_there k (Some at) = refl

none_below : (at : Option ℕ) → is_below at None ≡ false
none_below None = refl
none_below (Some at) = refl

pub nothing_told : (k : Bytes) (at : Option ℕ) (records : List Record) → records ≡ [] → value_told records k at ≡ Ok None
nothing_told k at records empty =
    ap (λ (rs : List Record). value_told rs k at) empty
    ∙ ap (λ (b : Bool). unless_below b (value_by [] k at)) (none_below at) ∙ ap (λ (v : Option Bytes). Ok v) (none_there k at)

-- the versions of what a log leaves are its own
installs_same : (records : List Record) (kept : Kept) → kept.facts ≡ facts_of records → kept.facts.installs ≡ installs_of records
unfolding facts_of
installs_same records kept same = ap (λ f. f.installs) same

pub value_kept : (k : Bytes) (at from : Option ℕ) (records : List Record) (kept : Kept) (value : Result (Option Bytes) Fault)
    → kept.facts ≡ facts_of records → from ≡ whole_from records
    → unless_below (is_below at from) (value_with kept.facts.installs k at) ≡ value → value_told records k at ≡ value
value_kept k at from records kept value same begun found =
    ap (λ (f : Option ℕ). unless_below (is_below at f) (value_by records k at)) (sym begun)
    ∙ ap (λ is. unless_below (is_below at from) (value_with is k at)) (sym (installs_same records kept same)) ∙ found

-- what is settled, by what was learnt of the log
pub settled_is : (k : Bytes) (at floor : ℕ) (records : List Record) (facts : Facts) (told : List Told) (b : Bool) → facts ≡ facts_of records
    → floor ≡ facts.floor → told ≡ history records k → b ≡ settled_by floor told at → b ≡ is_settled_at records k at
unfolding facts_of
settled_is k at floor records facts told b known of_floor of_told is =
    is ∙ ap (λ (f : ℕ). settled_by f told at) (of_floor ∙ ap (λ (f : Facts). f.floor) known)
    ∙ ap (λ (t : List Told). settled_by (floor_of records) t at) of_told

-- what is found in a file, and why nothing is
pub found_in : (setup : Setup) (image : List ℕ) (k : Bytes) (at : Option ℕ) (records : List Record) (value : Option Bytes) (settled : Bool)
    → log_in setup image ≡ Ok records → value_told records k at ≡ Ok value → settled ≡ is_settled records k at
    → value_in setup k at image ≡ Ok (as_found settled value)
found_in setup image k at records value settled is told same =
    ap (λ (r : Result (List Record) Fault). and_then r (λ rs. found_by rs k at)) is
    ∙ ap (λ (r : Result (Option Bytes) Fault). and_then r (λ v. Ok (as_found (is_settled records k at) v))) told
    ∙ ap (λ (b : Bool). Ok (as_found b value)) (sym same)

pub refused_in : (setup : Setup) (image : List ℕ) (k : Bytes) (at : Option ℕ) (records : List Record) (fault : Fault)
    → log_in setup image ≡ Ok records → value_told records k at ≡ Err fault → value_in setup k at image ≡ Err fault
refused_in setup image k at records fault is told =
    ap (λ (r : Result (List Record) Fault). and_then r (λ rs. found_by rs k at)) is
    ∙ ap (λ (r : Result (Option Bytes) Fault). and_then r (λ v. Ok (as_found (is_settled records k at) v))) told

pub history_found : (setup : Setup) (image : List ℕ) (k : Bytes) (records shown : List Record) (from : Option ℕ) (told : List Told)
    → log_in setup image ≡ Ok records → shown ≡ records → from ≡ whole_from records → told ≡ history shown k
    → history_in setup k image ≡ Ok (from, told)
history_found setup image k records shown from told is same begun found =
    ap (λ (r : Result (List Record) Fault). and_then r (λ rs. Ok (whole_from rs, history rs k))) is
    ∙ ap (λ (f : Option ℕ). Ok (f, history records k)) (sym begun)
    ∙ ap (λ (rs : List Record). Ok (from, history rs k)) (sym same) ∙ ap (λ (t : List Told). Ok (from, t)) (sym found)
