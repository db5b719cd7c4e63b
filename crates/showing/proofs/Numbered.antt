-- The numbers of a log, by what was learnt of it.
use Rattle.std.proofs.Common.{◌≡◌, ◌∙◌, [], ℕ, List, length, ap, sym, Result, Ok, Err}
use Rattle.units.specs.declared.fault.Fault.{Fault}
use Rattle.std.proofs.lemmas.List.{length-map}
use Rattle.record.specs.Facts.{Facts, facts_of}
use Rattle.record.specs.declared.record.Record.{Record}
use Rattle.frames.specs.Placed.{Placed}
use Rattle.inspection.specs.Files.{records_behind}
use Rattle.recovery.specs.Recovered.{items}
use Rattle.texts.specs.Numbers.{and_then}
use Rattle.showing.specs.Counting.{kinds_of}
use Rattle.showing.specs.Stats.{doubts_in, keys_of, numbers_of, shard_told, stats_by}
use Rattle.showing.specs.declared.kinds.Kinds.{Kinds}
use Rattle.showing.specs.declared.stats.FileNumbers.{FileNumbers}
use Rattle.showing.specs.declared.stats.InDoubt.{InDoubt}
use Rattle.showing.specs.declared.stats.Numbers.{Numbers}

-- what is told of records that follow one another
told : FileNumbers → List Record → Result (Numbers × List InDoubt) Fault
told file rs = Ok (numbers_of file rs, doubts_in rs)

pub stats_refused : (file : FileNumbers) (es : List Placed) (shard : ℕ) (fault : Fault) → shard ≡ shard_told (items es)
    → records_behind shard [] es ≡ Err fault → stats_by file es ≡ Err fault
unfolding told
stats_refused file es shard fault whose refused =
    ap (λ (r : Result (List Record) Fault). and_then r (told file)) (ap (λ s. records_behind s [] es) (sym whose) ∙ refused)

pub stats_found : (file : FileNumbers) (es : List Placed) (shard : ℕ) (numbers : Numbers) (doubts : List InDoubt) → shard ≡ shard_told (items es)
    → records_behind shard [] es ≡ Ok (items es) → numbers ≡ numbers_of file (items es) → doubts ≡ doubts_in (items es)
    → stats_by file es ≡ Ok (numbers, doubts)
unfolding told
stats_found file es shard numbers doubts whose found same_numbers same_doubts =
    ap (λ (r : Result (List Record) Fault). and_then r (told file)) (ap (λ s. records_behind s [] es) (sym whose) ∙ found)
    ∙ (λ i. Ok (sym same_numbers i, sym same_doubts i))

-- the numbers, one by one
pub numbers_are : (file : FileNumbers) (records : ℕ) (kinds : Kinds) (keys versions epoch floor doubts : ℕ) (es : List Placed) (facts : Facts)
    → facts ≡ facts_of (items es) → records ≡ length es → kinds ≡ kinds_of (items es) → keys ≡ length (keys_of facts.installs)
    → versions ≡ length facts.installs → epoch ≡ facts.epoch → floor ≡ facts.floor → doubts ≡ length (doubts_in (items es))
    → record { file = file; records = records; kinds = kinds; keys = keys; versions = versions; epoch = epoch; floor = floor; in_doubt = doubts }
    ≡ numbers_of file (items es)
unfolding facts_of
numbers_are file records kinds keys versions epoch floor doubts es facts known all of_kinds of_keys of_versions of_epoch of_floor of_doubts =
    let all_records : records ≡ length (items es) = all ∙ sym (length-map es (λ (e : Placed). e.item)) in
    let its_keys : keys ≡ length (keys_of (facts_of (items es)).installs) = of_keys ∙ ap (λ (f : Facts). length (keys_of f.installs)) known in
    let its_versions : versions ≡ length (facts_of (items es)).installs = of_versions ∙ ap (λ (f : Facts). length f.installs) known in
    let its_epoch : epoch ≡ (facts_of (items es)).epoch = of_epoch ∙ ap (λ (f : Facts). f.epoch) known in
    let its_floor : floor ≡ (facts_of (items es)).floor = of_floor ∙ ap (λ (f : Facts). f.floor) known in
    λ i. record {
      file = file;
      records = all_records i;
      kinds = of_kinds i;
      keys = its_keys i;
      versions = its_versions i;
      epoch = its_epoch i;
      floor = its_floor i;
      in_doubt = of_doubts i;
    }
