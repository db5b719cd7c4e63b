-- The records of a renewed log name keys of the shard alone, where the log did.
use Rattle.std.specs.List.{AllByRecursion, list_all}
use Rattle.std.specs.Prelude.{IsTrue, nat_eq}
use Rattle.std.proofs.Common.{◌≡◌, true, List, [], ◌∷◌, ◌++◌, map, Option, Some, None, refl, ◌∙◌}
use Rattle.std.proofs.lemmas.Bool.{and_from}
use Rattle.std.proofs.lemmas.List.Folds.{list_all-append}
use Rattle.units.specs.Ids.{Id}
use Rattle.units.specs.Keys.{shard_of}
use Rattle.units.specs.Lists.{gather}
use Rattle.units.specs.declared.setup.Setup.{Setup}
use Rattle.units.specs.declared.writes.Install.{Install}
use Rattle.units.proofs.ListLaws.{all-keep}
use Rattle.record.specs.Accepted.{belongs}
use Rattle.record.specs.Facts.{Facts, TxnStatus}
use Rattle.record.specs.Records.{Status, Unrecorded, StandsPrepared, StandsDecided}
use Rattle.record.specs.declared.record.Record.TheVariants.{Version}
use Rattle.versions.specs.Pruned.{pruned}
use Rattle.ledger.specs.Keeps.{NamesOwn}
use Rattle.ledger.specs.Laws.{TurnedBelongs}
use Rattle.ledger.specs.Turned.{turned, versions_held, ended_item, retired_item, standing_item}
use Rattle.ledger.proofs.Entries.{entry}
use Rattle.ledger.proofs.Said.{all-in_order}

-- a version of a key of the shard
abbrev IsOwn : Setup → Install → Type 0
IsOwn setup i = IsTrue (nat_eq (shard_of setup.splits i.key) setup.shard)

own-held : (setup : Setup) (facts : Facts) → AllByRecursion (IsOwn setup) facts.installs → AllByRecursion (IsOwn setup) (versions_held facts)
unfolding pruned
own-held setup facts all = all-in_order (IsOwn setup) [] (pruned facts.horizon facts.installs) tt (all-keep _ _ facts.installs all)

versions-own : (setup : Setup) (vs : List Install) → AllByRecursion (IsOwn setup) vs → list_all (belongs setup) (map Version vs) ≡ true
unfolding belongs
versions-own setup [] all = refl
versions-own setup (v ∷ vs) all = and_from _ _ all.0 (versions-own setup vs all.1)

ended-own : (setup : Setup) (es : List TxnStatus) → list_all (belongs setup) (gather ended_item es) ≡ true
unfolding belongs
ended-own setup [] = refl
ended-own setup (x ∷ es) = by_status x.txn x.status (ended-own setup es)
  where
    by_status : (t : Id) (s : Status) → list_all (belongs setup) (gather ended_item es) ≡ true
        → list_all (belongs setup) (gather ended_item (entry t s ∷ es)) ≡ true
    by_status t Unrecorded rest = rest
    by_status t _ rest = rest

standing-own : (setup : Setup) (es : List TxnStatus) → AllByRecursion (NamesOwn setup) es → list_all (belongs setup) (gather standing_item es) ≡ true
unfolding belongs
standing-own setup [] all = refl
standing-own setup (x ∷ es) all = by_status x.txn x.status all.0 (standing-own setup es all.1)
  where
    by_status : (t : Id) (s : Status) → NamesOwn setup (entry t s) → list_all (belongs setup) (gather standing_item es) ≡ true
        → list_all (belongs setup) (gather standing_item (entry t s ∷ es)) ≡ true
    by_status t (StandsPrepared p) own rest = and_from _ _ own rest
    by_status t (StandsDecided c) own rest = and_from _ _ own rest
    by_status t _ own rest = rest

retired-own : (setup : Setup) (below : Option Id) → list_all (belongs setup) (retired_item below) ≡ true
unfolding belongs
retired-own setup None = refl
retired-own setup (Some below) = refl

pub turned-belongs : TurnedBelongs
unfolding turned belongs
turned-belongs setup facts versions entries =
    let es = facts.entries in
    list_all-append (belongs setup) (map Version (versions_held facts)) (retired_item facts.retired ++ (gather ended_item es ++ gather standing_item es))
    ∙ and_from _ _ (versions-own setup (versions_held facts) (own-held setup facts versions))
    (list_all-append (belongs setup) (retired_item facts.retired) (gather ended_item es ++ gather standing_item es)
    ∙ and_from _ _ (retired-own setup facts.retired)
    (list_all-append (belongs setup) (gather ended_item es) (gather standing_item es)
    ∙ and_from _ _ (ended-own setup es) (standing-own setup es entries)))
