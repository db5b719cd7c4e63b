-- The records of a renewed log, as they are handed on.
use Rattle.std.proofs.Common.{◌≡◌, ℕ, ◌+◌, ◌<◌, ◌++◌, true, false, List, [], ◌∷◌, map, length, drop, get_or, Option, Some, None, Result, Ok, Err}
use Rattle.std.proofs.Common.{OnOk, refl, sym, ap, ◌∙◌}
use Rattle.std.specs.List.{AllByRecursion, list_all}
use Rattle.std.proofs.lemmas.Bool.{and_from, and_parts}
use Rattle.std.proofs.lemmas.List.{append_assoc, drop_more}
use Rattle.units.specs.Lists.{gather}
use Rattle.units.specs.Ids.{Id, older, same_id}
use Rattle.units.specs.ById.{IsById, find_member}
use Rattle.units.proofs.IdLaws.{same_id-refl, older_not_same}
use Rattle.units.proofs.ByIdLaws.{AllYounger, later_are_younger}
use Rattle.record.specs.Records.{Status, Unrecorded, StandsPrepared, StandsDecided, HasAborted, HasSettled, HasClosed}
use Rattle.record.specs.Facts.{Facts, TxnStatus, or_unrecorded, recorded}
use Rattle.record.specs.declared.record.Record.{Record}
use Rattle.record.specs.declared.record.Record.TheVariants.{Base, Version}
use Rattle.ledger.specs.Turned.{ended_item, retired_item, standing_item, turned, versions_held}

abbrev id_of : TxnStatus → Id
id_of e = e.txn

-- what is known of an id, as an entry
abbrev pub known_of : Facts → Id → TxnStatus
known_of facts t = record { txn = t; status = recorded facts t }

-- each entry is found by its id
each_found : (es : List TxnStatus) → IsById id_of es → AllByRecursion (λ e. find_member id_of es e.txn ≡ Some e) es
each_found [] up = tt
each_found (x ∷ xs) up = (rw (same_id-refl x.txn) refl, behind xs (later_are_younger id_of x xs up) (each_found xs up.1))
  where
    behind : (ys : List TxnStatus) → AllYounger id_of x.txn ys → AllByRecursion (λ e. find_member id_of xs e.txn ≡ Some e) ys
        → AllByRecursion (λ e. find_member id_of (x ∷ xs) e.txn ≡ Some e) ys
    behind [] young all = tt
    behind (y ∷ ys) young all =
        let other : same_id x.txn y.txn ≡ false = older_not_same x.txn y.txn young.0 in (rw other (all.0), behind ys young.1 all.1)

-- entries ascend by id where their ids do
pub by_ids : (es : List TxnStatus) → IsById (λ t. t) (map (λ e. e.txn) es) → IsById (λ e. e.txn) es
by_ids [] up = tt
by_ids (e ∷ es) up = (each es up.0, by_ids es up.1)
  where
    each : (ys : List TxnStatus) → list_all (older e.txn) (map (λ e. e.txn) ys) ≡ true → list_all (λ y. older e.txn y.txn) ys ≡ true
    each [] h = refl
    each (y ∷ ys) h = let both = and_parts _ _ h in and_from _ _ both.0 (each ys both.1)

-- what is made of each entry is made of what is known of its id
pub made_of_ids : (item : TxnStatus → Option Record) (facts : Facts) → IsById (λ e. e.txn) facts.entries
    → gather (λ t. item (known_of facts t)) (map (λ e. e.txn) facts.entries) ≡ gather item facts.entries
made_of_ids item facts up = of_each facts.entries (each_found facts.entries up)
  where
    of_each : (es : List TxnStatus) → AllByRecursion (λ e. find_member id_of facts.entries e.txn ≡ Some e) es
        → gather (λ t. item (known_of facts t)) (map (λ e. e.txn) es) ≡ gather item es
    of_each [] all = refl
    of_each (e ∷ es) all =
        let same : known_of facts e.txn ≡ e = ap (λ (o : Option TxnStatus). record { txn = e.txn; status = or_unrecorded o }) all.0 in
        ap (λ (o : Option Record). elim o [
          | None ↦ gather (λ t. item (known_of facts t)) (map (λ e. e.txn) es)
          | Some r ↦
              r ∷ gather (λ t. item (known_of facts t)) (map (λ e. e.txn) es)
        ]) (ap item same)
        ∙ ap (λ (rest : List Record). elim (item e) [ None ↦ rest | Some r ↦ r ∷ rest ]) (of_each es all.1)

-- ---- one by one

-- one record more was taken, and the others are left
pub handed_one : (taken new : List Record) (r : Record) (rest left all : List Record) → new ≡ taken ++ r ∷ [] → r ∷ left ≡ rest → taken ++ rest ≡ all
    → new ++ left ≡ all
handed_one taken new r rest left all e f h = ap (λ l. l ++ left) e ∙ append_assoc taken (r ∷ []) left ∙ ap (λ l. taken ++ l) f ∙ h

-- none was
pub handed_none : (taken new rest left all : List Record) → new ≡ taken → left ≡ rest → taken ++ rest ≡ all → new ++ left ≡ all
handed_none taken new rest left all e f h = ap (λ l. l ++ left) e ∙ ap (λ l. taken ++ l) f ∙ h

-- what is made of the ids from a place on
module _ (make : Id → Option Record) (ids : List Id) (k : ℕ) (t : Id) (lt : k < length ids) (here : t ≡ get_or ids k t) where
  one_more : gather make (drop k ids) ≡ elim (make t) [ None ↦ gather make (drop (k + 1) ids) | Some r ↦ r ∷ gather make (drop (k + 1) ids) ]
  one_more =
      ap (gather make) (drop_more ids k t lt)
      ∙ ap (λ (u : Id). elim (make u) [ None ↦ gather make (drop (k + 1) ids) | Some r ↦ r ∷ gather make (drop (k + 1) ids) ]) (sym here)

  pub made_one : (r : Record) → make t ≡ Some r → r ∷ gather make (drop (k + 1) ids) ≡ gather make (drop k ids)
  made_one r is =
      sym (one_more ∙ ap (λ (o : Option Record). elim o [ None ↦ gather make (drop (k + 1) ids) | Some r ↦ r ∷ gather make (drop (k + 1) ids) ]) is)

  pub made_none : make t ≡ None → gather make (drop (k + 1) ids) ≡ gather make (drop k ids)
  made_none is =
      sym (one_more ∙ ap (λ (o : Option Record). elim o [ None ↦ gather make (drop (k + 1) ids) | Some r ↦ r ∷ gather make (drop (k + 1) ids) ]) is)

-- all of it, part by part
pub handed_all : {E : Type 0} (r : Result (Unit {0}) E) (facts : Facts) (before based listed gone_by ended now : List Record)
    → based ≡ before ++ Base facts.epoch facts.floor facts.horizon ∷ [] → listed ≡ based ++ map Version (versions_held facts)
    → gone_by ≡ listed ++ retired_item facts.retired → ended ≡ gone_by ++ gather ended_item facts.entries → OnOk r (now ≡ ended ++ gather standing_item facts.entries)
    → OnOk r (now ≡ before ++ turned facts)
unfolding turned
handed_all (Err fault) facts before based listed gone_by ended now e f k g h = h
handed_all (Ok done) facts before based listed gone_by ended now e f k g h =
    let base = Base facts.epoch facts.floor facts.horizon in
    let versions = map Version (versions_held facts) in
    let gone = gather ended_item facts.entries in
    let stands = gather standing_item facts.entries in
    let retired = retired_item facts.retired in
    h ∙ (λ i. g i ++ stands) ∙ append_assoc gone_by gone stands ∙ (λ i. k i ++ (gone ++ stands)) ∙ append_assoc listed retired (gone ++ stands)
    ∙ (λ i. f i ++ (retired ++ (gone ++ stands))) ∙ append_assoc based versions (retired ++ (gone ++ stands))
    ∙ (λ i. e i ++ (versions ++ (retired ++ (gone ++ stands)))) ∙ append_assoc before (base ∷ []) (versions ++ (retired ++ (gone ++ stands)))

-- one that ended does not stand
pub ended_not_standing : (e : TxnStatus) (r : Record) → ended_item e ≡ Some r → standing_item e ≡ None
ended_not_standing e r is = by_status e.status is
  where
    by_status : (s : Status) → ended_item (record { txn = e.txn; status = s }) ≡ Some r → standing_item (record { txn = e.txn; status = s }) ≡ None
    by_status Unrecorded is = refl
    by_status (StandsPrepared p) is = let clash : ◌≡◌ {A = Option Record} None (Some r) = is in cc
    by_status (StandsDecided c) is = let clash : ◌≡◌ {A = Option Record} None (Some r) = is in cc
    by_status HasAborted is = refl
    by_status (HasSettled at parts) is = refl
    by_status (HasClosed coordinator outcome) is = refl

abbrev made_once : Option Record → List Record
made_once None = []
made_once (Some r) = r ∷ []

-- ids, and one more
gather_one : (make : Id → Option Record) (ids : List Id) (t : Id) → gather make (ids ++ t ∷ []) ≡ gather make ids ++ gather make (t ∷ [])
gather_one make [] t = refl
gather_one make (u ∷ ids) t =
    by_made (make u) (gather_one make ids t)
  where
    by_made : (o : Option Record) → gather make (ids ++ t ∷ []) ≡ gather make ids ++ gather make (t ∷ [])
        → elim o [ None ↦ gather make (ids ++ t ∷ []) | Some r ↦ r ∷ gather make (ids ++ t ∷ []) ]
        ≡ (elim o [ None ↦ gather make ids | Some r ↦ r ∷ gather make ids ]) ++ gather make (t ∷ [])
    by_made None rest = rest
    by_made (Some r) rest = ap (λ (l : List Record). r ∷ l) rest

-- what is made of some ids, and of the others from a place on
module _ (make : Id → Option Record) (ids : List Id) (k : ℕ) (t : Id) (lt : k < length ids) (here : t ≡ get_or ids k t) where
  one_left : gather make (drop k ids) ≡ made_once (make t) ++ gather make (drop (k + 1) ids)
  one_left = ap (gather make) (drop_more ids k t lt ∙ ap (λ (u : Id). u ∷ drop (k + 1) ids) (sym here)) ∙ by_made (make t)
    where
      by_made : (o : Option Record) → elim o [ None ↦ gather make (drop (k + 1) ids) | Some r ↦ r ∷ gather make (drop (k + 1) ids) ]
          ≡ made_once o ++ gather make (drop (k + 1) ids)
      by_made None = refl
      by_made (Some r) = refl

  one_made : gather make (t ∷ []) ≡ made_once (make t)
  one_made = by_made (make t)
    where
      by_made : (o : Option Record) → elim o [ None ↦ [] | Some r ↦ r ∷ [] ] ≡ made_once o
      by_made None = refl
      by_made (Some r) = refl

  -- one is listed
  pub listed_one : (some : List Id) (all : List Record) → gather make some ++ gather make (drop k ids) ≡ all
      → gather make (some ++ t ∷ []) ++ gather make (drop (k + 1) ids) ≡ all
  listed_one some all is =
      ap (λ (l : List Record). l ++ gather make (drop (k + 1) ids)) (gather_one make some t)
      ∙ append_assoc (gather make some) (gather make (t ∷ [])) (gather make (drop (k + 1) ids))
      ∙ ap (λ (l : List Record). gather make some ++ l)
      (ap (λ (l : List Record). l ++ gather make (drop (k + 1) ids)) one_made ∙ sym one_left) ∙ is

  -- one is not, of which nothing is made
  pub listed_none : (some : List Id) (all : List Record) → make t ≡ None → gather make some ++ gather make (drop k ids) ≡ all
      → gather make some ++ gather make (drop (k + 1) ids) ≡ all
  listed_none some all none is =
      ap (λ (l : List Record). gather make some ++ l)
      (sym (one_left ∙ ap (λ (o : Option Record). made_once o ++ gather make (drop (k + 1) ids)) none)) ∙ is
