-- The records of a renewed log each have their place beside what stands by those before them.
use Rattle.std.specs.List.{AllByRecursion, list_all, list_any}
use Rattle.std.proofs.Common.{◌≡◌, ℕ, ◌<◌, ◌≤◌, ◌-◌, true, false, not, max, List, [], ◌∷◌, ◌++◌, length, map, filter, Option, Some, None, refl, sym}
use Rattle.std.proofs.Common.{ap, subst, ◌∙◌, arith}
use Rattle.std.proofs.lemmas.Bool.{and_from, lt-ltb, not_from_false}
use Rattle.units.specs.Limits.{most_rows}
use Rattle.units.specs.Lists.{follow, gather}
use Rattle.units.specs.Ids.{Id, older, same_id}
use Rattle.units.specs.ById.{IsById, find_member, with_member}
use Rattle.units.specs.Keys.{Bytes}
use Rattle.units.specs.Locks.{clash, locks_of}
use Rattle.units.specs.Versions.{above_versions}
use Rattle.units.specs.declared.lock.Lock.{Lock}
use Rattle.units.specs.declared.writes.Install.{Install}
use Rattle.units.specs.declared.writes.Write.{Write}
use Rattle.units.proofs.ByIdLaws.{AllYounger, all-with, by_id-with, first_none, found_all, found_has, has-without_other, later_are_younger}
use Rattle.units.proofs.IdLaws.{same_id_comm}
use Rattle.units.proofs.ListLaws.{all-keep, all_gives}
use Rattle.record.specs.Records.{Status, Unrecorded, StandsPrepared, StandsDecided, HasAborted, HasSettled, HasClosed}
use Rattle.record.specs.FactLaws.{learnt}
use Rattle.record.specs.Facts.{Facts, TxnStatus, facts_with, learn, or_unrecorded, with_status}
use Rattle.record.specs.declared.record.Record.{Record}
use Rattle.record.specs.declared.record.Record.TheVariants.{Version}
use Rattle.record.specs.declared.record.Committed.{Committed}
use Rattle.record.specs.declared.record.Prepared.{Prepared}
use Rattle.protocol.specs.Rows.{Memory, Row, IsDecided, IsPrepared, find_row, held_stamp, safe, standing_row, without_row}
use Rattle.protocol.specs.Sound.{Agrees, IsSound}
use Rattle.protocol.proofs.AboveVersions.{rows_apart}
use Rattle.protocol.proofs.FitsBeside.{few_opened, log_rows}
use Rattle.protocol.proofs.OpenedRows.{IsOwn, all-gather, by_id-gather, find-gather}
use Rattle.protocol.proofs.OpeningSound.{entries_own, opened_lawful, opened_over}
use Rattle.protocol.proofs.RowChanges.{find_members}
use Rattle.protocol.proofs.RowCounts.{has_row, no_more, shorter-without_row}
use Rattle.protocol.proofs.Serves.{Over}
use Rattle.ledger.specs.Keeps.{Alike, IsPlaced, IsRegular}
use Rattle.ledger.specs.Laws.{TurnedFits}
use Rattle.protocol.specs.Beside.{stands_in}
use Rattle.ledger.specs.Rules.{AllFit}
use Rattle.ledger.specs.Turned.{turned, versions_held, ended_item, retired_item, standing_item}
use Rattle.ledger.proofs.Come.{Fresh, not-among, still-fresh}
use Rattle.ledger.proofs.Entries.{entry, id_of, is_ended, put_all, with_status-is}
use Rattle.ledger.proofs.Said.{based, covered-held, ended-all, max-covers, retired-one, turned-keeps, turned-says, versions-all}
use Rattle.ledger.proofs.Takes.{above-alike}

-- ---- one that stands, beside others of the shard

-- the entry is that of the shard's facts
abbrev IsIn : Facts → TxnStatus → Type 0
IsIn facts e = find_member id_of facts.entries e.txn ≡ Some e

none-clashes : (ls : List Lock) (rows : List Row) → AllByRecursion (λ r. clash ls r.held ≡ false) rows
    → list_any (clash ls) (map (λ r. r.held) rows) ≡ false
none-clashes ls [] free = refl
none-clashes ls (r ∷ rs) free = rw free.0 (none-clashes ls rs free.1)

both-of : (P Q : TxnStatus → Type 0) (es : List TxnStatus) → AllByRecursion P es → AllByRecursion Q es → AllByRecursion (λ e. P e × Q e) es
both-of P Q [] p q = tt
both-of P Q (e ∷ es) p q = ((p.0, q.0), both-of P Q es p.1 q.1)

module _ (shard : ℕ) (facts : Facts) (memory : Memory) (sound : IsSound shard facts memory) where
  -- what the row of an entry is
  row-of : (e : TxnStatus) (r : Row) → IsIn facts e → standing_row e ≡ Some r → find_row (log_rows facts) e.txn ≡ Some r
  row-of e r there k =
      find-gather facts.entries e.txn sound.entries (entries_own shard facts memory sound) ∙ ap (λ o. follow o standing_row) there ∙ k

  own-of : (e : TxnStatus) → IsIn facts e → IsOwn e
  own-of e there = found_all IsOwn id_of facts.entries e.txn e (entries_own shard facts memory sound) there

  module _ (acc : List TxnStatus) (up : IsById id_of acc) (mine : AllByRecursion (IsIn facts) acc) (x : TxnStatus) (new : Row)
      (here : IsIn facts x) (row : standing_row x ≡ Some new) (fresh : find_member id_of acc x.txn ≡ None) where
    -- each of the rows is one of the shard's, and another's
    Old : Row → Type 0
    Old r = (find_row (log_rows facts) r.txn ≡ Some r) × (same_id r.txn x.txn ≡ false)

    old : AllByRecursion Old (gather standing_row acc)
    unfolding Old
    old =
        all-gather (λ e. IsIn facts e × (same_id e.txn x.txn ≡ false)) Old
        (λ e r k p.
        let own : r.txn ≡ e.txn = own-of e p.0 r k in
        (ap (find_row (log_rows facts)) own ∙ row-of e r p.0 k, ap (λ t. same_id t x.txn) own ∙ p.1))
        acc (both-of (IsIn facts) (λ e. same_id e.txn x.txn ≡ false) acc mine (first_none (λ (e : TxnStatus). same_id e.txn x.txn) acc fresh))

    clear : AllByRecursion (λ (r : Row). clash new.held r.held ≡ false) (gather standing_row acc)
    unfolding Old
    clear =
        all_gives Old (λ (r : Row). clash new.held r.held ≡ false)
        (λ r o. rows_apart (log_rows facts) x.txn r.txn new r (opened_lawful shard facts memory sound) (row-of x new here row) o.0 o.1)
        (gather standing_row acc) old

    few : length memory.rows ≤ most_rows → length (gather standing_row acc) < most_rows
    unfolding Old
    few room =
        let others : length (gather standing_row acc) ≤ length (without_row (log_rows facts) x.txn) =
        no_more (gather standing_row acc) (without_row (log_rows facts) x.txn)
        (by_id-gather acc up (all_gives (IsIn facts) IsOwn (λ e p. own-of e p) acc mine))
        (all_gives Old (λ (r : Row). has_row (without_row (log_rows facts) x.txn) r.txn ≡ true)
        (λ r o. has-without_other (λ (q : Row). q.txn) (log_rows facts) r.txn x.txn (same_id_comm x.txn r.txn ∙ o.1)
        ∙ found_has (λ (q : Row). q.txn) (log_rows facts) r.txn r o.0) (gather standing_row acc) old) in
        let fewer : length (without_row (log_rows facts) x.txn) < length (log_rows facts) =
        shorter-without_row (log_rows facts) x.txn (found_has (λ (q : Row). q.txn) (log_rows facts) x.txn new (row-of x new here row)) in
        let all : length (log_rows facts) ≤ length memory.rows = few_opened shard facts memory sound in
        omega (arith, others, fewer, all, room)

    -- so it has its place
    has-place : (e f : ℕ) (rt : Option Id) (vs : List Install) (at : ℕ) (rs : List Bytes) (ws : List Write) → length memory.rows ≤ most_rows
        → new.held ≡ locks_of rs ws → facts.horizon < at → above_versions vs at ws ≡ true
        → stands_in (facts_with e f acc vs facts.horizon rt) at rs ws ≡ true
    has-place e f rt vs at rs ws room locks high above =
        and_from _ _ (and_from _ _ (and_from _ _ (lt-ltb _ _ (few room))
        (not_from_false _ (ap (λ ls. list_any (clash ls) (map (λ r. r.held) (gather standing_row acc))) (sym locks)
        ∙ none-clashes new.held (gather standing_row acc) clear)))
        (lt-ltb _ _ high)) above

-- ---- the timestamps of what stands

record Stands (installs : List Install) (at : ℕ) (ws : List Write) : Type 0 where
  above_zero : 0 < at
  above : above_versions installs at ws ≡ true

promised : (installs : List Install) (last : ℕ) (p : Prepared) (o : Option Row) → Agrees installs last (StandsPrepared p) o
    → Stands installs p.at p.writes
promised installs last p None a = absurd a
promised installs last p (Some r) a = record { above_zero = a.above_zero; above = a.above }

decided : (installs : List Install) (last : ℕ) (c : Committed) (o : Option Row) → Agrees installs last (StandsDecided c) o
    → Stands installs c.at c.writes
decided installs last c None a = absurd a
decided installs last c (Some r) a = record { above_zero = a.above_zero; above = a.above }

over-horizon : (n m at : ℕ) → n ≤ m → m ≤ at - 1 → 0 < at → n < at
over-horizon n m at low over up = omega (arith, low, over, up)

module _ (shard : ℕ) (facts : Facts) (memory : Memory) (sound : IsSound shard facts memory) (room : length memory.rows ≤ most_rows)
    (regular : IsRegular facts) where
  over : (x : TxnStatus) (r : Row) → IsIn facts x → standing_row x ≡ Some r → Over (safe memory) (held_stamp r.phase)
  over x r here k =
      found_all (λ (q : Row). Over (safe memory) (held_stamp q.phase)) (λ (q : Row). q.txn) (log_rows facts) x.txn r
      (opened_over shard facts memory sound (safe memory) (omega arith)) (row-of shard facts memory sound x r here k)

  agrees : (t : Id) (s : Status) → IsIn facts (entry t s) → Agrees facts.installs memory.last s (find_row memory.rows t)
  agrees t s here = subst (λ q. Agrees facts.installs memory.last q (find_row memory.rows t)) (ap or_unrecorded here) (sound.agrees t)

  above-held : (at : ℕ) (ws : List Write) → above_versions facts.installs at ws ≡ true → above_versions (versions_held facts) at ws ≡ true
  above-held at ws above =
      sym (above-alike facts.horizon facts.installs (versions_held facts) at ws
      (subst (Alike facts) (turned-says facts regular) (turned-keeps facts regular)).versions) ∙ above

  prepared-fits : (e f : ℕ) (rt : Option Id) (acc : List TxnStatus) (t : Id) (p : Prepared) → IsById id_of acc → AllByRecursion (IsIn facts) acc
      → IsIn facts (entry t (StandsPrepared p)) → find_member id_of acc t ≡ None
      → stands_in (facts_with e f acc (versions_held facts) facts.horizon rt) p.at p.reads p.writes ≡ true
  prepared-fits e f rt acc t p up mine here fresh =
      let row : Row = record { txn = p.txn; held = locks_of p.reads p.writes; phase = IsPrepared p.coordinator p.at } in
      let stands = promised facts.installs memory.last p (find_row memory.rows t) (agrees t (StandsPrepared p) here) in
      has-place shard facts memory sound acc up mine (entry t (StandsPrepared p)) row here refl fresh e f rt (versions_held facts) p.at p.reads p.writes room
      refl (over-horizon facts.horizon (safe memory) p.at sound.horizon (over (entry t (StandsPrepared p)) row here refl) stands.above_zero)
      (above-held p.at p.writes stands.above)

  decided-fits : (e f : ℕ) (rt : Option Id) (acc : List TxnStatus) (t : Id) (c : Committed) → IsById id_of acc → AllByRecursion (IsIn facts) acc
      → IsIn facts (entry t (StandsDecided c)) → find_member id_of acc t ≡ None
      → stands_in (facts_with e f acc (versions_held facts) facts.horizon rt) c.at c.reads c.writes ≡ true
  decided-fits e f rt acc t c up mine here fresh =
      let row : Row = record { txn = c.txn; held = locks_of c.reads c.writes; phase = IsDecided c.at c.parts } in
      let stands = decided facts.installs memory.last c (find_row memory.rows t) (agrees t (StandsDecided c) here) in
      has-place shard facts memory sound acc up mine (entry t (StandsDecided c)) row here refl fresh e f rt (versions_held facts) c.at c.reads c.writes room
      refl (over-horizon facts.horizon (safe memory) c.at sound.horizon (over (entry t (StandsDecided c)) row here refl) stands.above_zero)
      (above-held c.at c.writes stands.above)

-- ---- the walk

fit-append : (x : Facts) (a b : List Record) → AllFit x a → AllFit (learnt x a) b → AllFit x (a ++ b)
fit-append x [] b h k = k
fit-append x (i ∷ a) b h k = (h.0, fit-append (learn x i) a b h.1 k)

versions-fit : (x : Facts) (vs : List Install) → AllFit x (map Version vs)
versions-fit x [] = tt
versions-fit x (v ∷ vs) = (refl, versions-fit (learn x (Version v)) vs)

retired-fit : (x : Facts) (rt : Option Id) → gather standing_row x.entries ≡ [] → AllFit x (retired_item rt)
retired-fit x None none = tt
retired-fit x (Some below) none = (ap (list_all (λ r. not (older r.txn below))) none, tt)

ended-fit : (x : Facts) (es : List TxnStatus) → AllFit x (gather ended_item es)
ended-fit x [] = tt
ended-fit x (e ∷ es) = by_status e.txn e.status (λ y. ended-fit y es)
  where
    by_status : (t : Id) (s : Status) → ((y : Facts) → AllFit y (gather ended_item es)) → AllFit x (gather ended_item (entry t s ∷ es))
    by_status t HasAborted rest = (refl, rest _)
    by_status t (HasSettled at ps) rest = (refl, rest _)
    by_status t (HasClosed c o) rest = (refl, rest _)
    by_status t _ rest = rest x

put-parts : (e f : ℕ) (acc : List TxnStatus) (vs : List Install) (h : ℕ) (rt : Option Id) (t u : Id) (s : Status) (at : ℕ) → u ≡ t → at ≤ f
    → facts_with e f (with_member id_of acc (entry t s)) vs h rt ≡ facts_with e (max f at) (with_status acc u s) vs h rt
put-parts e f acc vs h rt t u s at same le =
    λ i. facts_with e (sym (max-covers f at le) i) (sym (ap (λ v. with_status acc v s) same ∙ with_status-is acc t s) i) vs h rt

standing-fit : (shard : ℕ) (facts : Facts) (memory : Memory) → IsSound shard facts memory → length memory.rows ≤ most_rows → IsRegular facts
    → (es acc : List TxnStatus) → AllByRecursion (IsIn facts) es → AllByRecursion (IsPlaced facts.floor) es → IsById id_of es
    → IsById id_of acc → AllByRecursion (IsIn facts) acc → Fresh acc (filter (λ x. not (is_ended x)) es)
    → AllFit (facts_with facts.epoch facts.floor acc (versions_held facts) facts.horizon facts.retired) (gather standing_item es)
unfolding learn
standing-fit shard facts memory sound room regular [] acc here placed order up mine fresh = tt
standing-fit shard facts memory sound room regular (x ∷ es) acc here placed order up mine fresh =
    by_status x.txn x.status here.0 placed.0 (later_are_younger id_of x es order) fresh
    (λ more up mine fresh. standing-fit shard facts memory sound room regular es more here.1 placed.1 order.1 up mine fresh)
  where
    by_status : (t : Id) (s : Status) → IsIn facts (entry t s) → IsPlaced facts.floor (entry t s) → AllYounger id_of t es
        → Fresh acc (filter (λ x. not (is_ended x)) (entry t s ∷ es))
        → ((more : List TxnStatus) → IsById id_of more → AllByRecursion (IsIn facts) more → Fresh more (filter (λ x. not (is_ended x)) es)
        → AllFit (facts_with facts.epoch facts.floor more (versions_held facts) facts.horizon facts.retired) (gather standing_item es))
        → AllFit (facts_with facts.epoch facts.floor acc (versions_held facts) facts.horizon facts.retired) (gather standing_item (entry t s ∷ es))
    by_status t Unrecorded there p young fr rest = absurd p
    by_status t (StandsPrepared q) there p young fr rest = (
      prepared-fits shard facts memory sound room regular facts.epoch facts.floor facts.retired acc t q up mine there fr.0,
      subst (λ y. AllFit y (gather standing_item es))
          (put-parts facts.epoch facts.floor acc (versions_held facts) facts.horizon facts.retired t q.txn (StandsPrepared q) q.at p.0 p.1)
          (rest (with_member id_of acc (entry t (StandsPrepared q))) (by_id-with id_of acc (entry t (StandsPrepared q)) up)
          (all-with (IsIn facts) id_of acc (entry t (StandsPrepared q)) there mine)
          (still-fresh acc (filter (λ x. not (is_ended x)) es) t (StandsPrepared q) (all-keep _ (λ x. not (is_ended x)) es young) fr.1)),
    )
    by_status t (StandsDecided c) there p young fr rest = (
      decided-fits shard facts memory sound room regular facts.epoch facts.floor facts.retired acc t c up mine there fr.0,
      subst (λ y. AllFit y (gather standing_item es))
          (put-parts facts.epoch facts.floor acc (versions_held facts) facts.horizon facts.retired t c.txn (StandsDecided c) c.at p.0 p.1)
          (rest (with_member id_of acc (entry t (StandsDecided c))) (by_id-with id_of acc (entry t (StandsDecided c)) up)
          (all-with (IsIn facts) id_of acc (entry t (StandsDecided c)) there mine)
          (still-fresh acc (filter (λ x. not (is_ended x)) es) t (StandsDecided c) (all-keep _ (λ x. not (is_ended x)) es young) fr.1)),
    )
    by_status t _ there p young fr rest = rest acc up mine fr

put-keeps : (P : TxnStatus → Type 0) (acc es : List TxnStatus) → IsById id_of acc → AllByRecursion P acc → AllByRecursion P es
    → IsById id_of (put_all acc es) × AllByRecursion P (put_all acc es)
put-keeps P acc [] up mine more = (up, mine)
put-keeps P acc (e ∷ es) up mine more =
    put-keeps P (with_member id_of acc e) es (by_id-with id_of acc e up) (all-with P id_of acc e more.0 mine) more.1

pub turned-fits : TurnedFits
unfolding turned
turned-fits shard facts memory sound room r =
    let e = facts.epoch in
    let f = facts.floor in
    let h = facts.horizon in
    let es = facts.entries in
    let vs = versions_held facts in
    let rt = facts.retired in
    let ids = gather ended_item es ++ gather standing_item es in
    let each : AllByRecursion (IsIn facts) es = find_members id_of es r.order in
    let ended = put-keeps (IsIn facts) [] (filter is_ended es) tt tt (all-keep (IsIn facts) is_ended es each) in (
      refl,
      subst (λ x. AllFit x (map Version vs ++ (retired_item rt ++ ids))) (sym (based e f h))
          (fit-append (facts_with e f [] [] h None) (map Version vs) (retired_item rt ++ ids)
          (versions-fit (facts_with e f [] [] h None) vs)
          (subst (λ x. AllFit x (retired_item rt ++ ids)) (sym (versions-all e f [] [] h None vs (covered-held facts r)))
          (fit-append (facts_with e f [] vs h None) (retired_item rt) ids (retired-fit (facts_with e f [] vs h None) rt refl)
          (subst (λ x. AllFit x ids) (sym (retired-one e f vs h rt))
          (fit-append (facts_with e f [] vs h rt) (gather ended_item es) (gather standing_item es) (ended-fit (facts_with e f [] vs h rt) es)
          (subst (λ x. AllFit x (gather standing_item es)) (sym (ended-all e f [] vs h rt es r.placed))
          (standing-fit shard facts memory sound room r es (put_all [] (filter is_ended es)) each r.placed r.order ended.0 ended.1
          (not-among es r.order)))))))),
    )
