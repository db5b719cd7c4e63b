-- The rows that some facts hold, where the status of one id is given anew.
use Rattle.std.proofs.Common.{◌≡◌, Bool, true, false, cond, List, [], ◌∷◌, Option, Some, None, refl, sym, ap, subst, ◌∙◌}
use Rattle.std.specs.List.{AllByRecursion}
use Rattle.units.specs.Lists.{follow, gather}
use Rattle.units.specs.Ids.{Id, same_id, older}
use Rattle.units.specs.ById.{IsById, find_member}
use Rattle.units.proofs.IdLaws.{same_id-is}
use Rattle.units.proofs.ByIdLaws.{same_members}
use Rattle.units.proofs.ListLaws.{all_gives}
use Rattle.record.specs.Facts.{TxnStatus, with_status}
use Rattle.record.specs.Records.{Status, Unrecorded, StandsPrepared, StandsDecided, HasAborted, HasSettled, HasClosed}
use Rattle.protocol.specs.Rows.{Row, find_row, standing_row, with_row, without_row}
use Rattle.protocol.proofs.OpenedRows as opened
use Rattle.protocol.proofs.RowChanges.{by_id-with_row, by_id-without_rows, find-with_row_same, find-with_row_other, find-without_row_same}
use Rattle.protocol.proofs.RowChanges.{find-without_row_other}
use Rattle.protocol.proofs.StatusChanges.{by_id-status, entry_other, entry_same}
use Rattle.recovery.specs.Recovered.{IsOwn}

-- the row of an entry has its id
some_txn : (e : TxnStatus) (r : Row) (o : Option Row) → (elim o [ Some q ↦ q.txn | None ↦ e.txn ]) ≡ e.txn → o ≡ Some r → r.txn ≡ e.txn
some_txn e r o own k = sym (ap (λ o. elim o [ Some q ↦ q.txn | None ↦ e.txn ]) k) ∙ own

own_row : (e : TxnStatus) → IsOwn e → opened.IsOwn e
own_row e own = λ r k. some_txn e r (standing_row e) (by_status e.status own) k
  where
    by_status : (s : Status) → IsOwn (record { txn = e.txn; status = s }) →
        (elim (standing_row (record { txn = e.txn; status = s })) [ Some q ↦ q.txn | None ↦ e.txn ]) ≡ e.txn
    by_status (StandsPrepared p) h = h
    by_status (StandsDecided c) h = h
    by_status Unrecorded h = refl
    by_status HasAborted h = refl
    by_status (HasSettled at ps) h = refl
    by_status (HasClosed c o) h = refl

pub own_rows : (es : List TxnStatus) → AllByRecursion IsOwn es → AllByRecursion opened.IsOwn es
own_rows es own = all_gives IsOwn opened.IsOwn own_row es own

pub own-status : (es : List TxnStatus) (t : Id) (s : Status) → IsOwn (record { txn = t; status = s }) → AllByRecursion IsOwn es →
    AllByRecursion IsOwn (with_status es t s)
own-status [] t s new own = (new, tt)
own-status (e ∷ es) t s new own = by_place (same_id e.txn t) (older e.txn t) (own-status es t s new own.1)
  where
    by_place : (a b : Bool) → AllByRecursion IsOwn (with_status es t s)
        → AllByRecursion IsOwn (cond a (record { txn = t; status = s } ∷ es) (cond b (e ∷ with_status es t s) (record { txn = t; status = s } ∷ e ∷ es)))
    by_place true b rest = (new, own.1)
    by_place false true rest = (own.0, rest)
    by_place false false rest = (new, own)

-- the row of an id, by its entry
pub found : (es : List TxnStatus) (t : Id) → IsById (λ e. e.txn) es → AllByRecursion IsOwn es →
    find_row (gather standing_row es) t ≡ follow (find_member (λ e. e.txn) es t) standing_row
found es t up own = opened.find-gather es t up (own_rows es own)

-- an id of which nothing stands has no row
pub no_row : (es : List TxnStatus) (t : Id) → IsById (λ e. e.txn) es → AllByRecursion IsOwn es
    → ((e : TxnStatus) → find_member (λ e. e.txn) es t ≡ Some e → standing_row e ≡ None) → find_row (gather standing_row es) t ≡ None
no_row es t up own none = found es t up own ∙ by_entry (find_member (λ (e : TxnStatus). e.txn) es t) refl
  where
    by_entry : (o : Option TxnStatus) → find_member (λ (e : TxnStatus). e.txn) es t ≡ o → follow o standing_row ≡ None
    by_entry None k = refl
    by_entry (Some e) k = none e k

module _ (es : List TxnStatus) (t : Id) (s : Status) (up : IsById (λ e. e.txn) es) (own : AllByRecursion IsOwn es)
    (new : IsOwn (record { txn = t; status = s })) where
  up_after : IsById (λ e. e.txn) (with_status es t s)
  up_after = by_id-status es t s up

  own_after : AllByRecursion IsOwn (with_status es t s)
  own_after = own-status es t s new own

  -- rows stand after it that are as before for every other id, and for this one what the status says
  rows_after : (rows : List Row) → IsById (λ q. q.txn) rows → find_row rows t ≡ standing_row (record { txn = t; status = s })
      → ((u : Id) → same_id t u ≡ false → find_row rows u ≡ find_row (gather standing_row es) u) → rows ≡ gather standing_row (with_status es t s)
  rows_after rows ascend here others =
      same_members (λ (q : Row). q.txn) rows (gather standing_row (with_status es t s)) ascend
      (opened.by_id-gather (with_status es t s) up_after (own_rows (with_status es t s) own_after)) (λ u. by_id u (same_id t u) refl)
    where
      by_id : (u : Id) (b : Bool) → same_id t u ≡ b → find_row rows u ≡ find_row (gather standing_row (with_status es t s)) u
      by_id u true k =
          subst (λ v. find_row rows v ≡ find_row (gather standing_row (with_status es t s)) v) (same_id-is t u k)
          (here ∙ sym (found (with_status es t s) t up_after own_after ∙ ap (λ o. follow o standing_row) (entry_same es t s)))
      by_id u false k =
          others u k ∙ found es u up own ∙ ap (λ o. follow o standing_row) (sym (entry_other es t u s k))
          ∙ sym (found (with_status es t s) u up_after own_after)

-- with a status under which a row stands, the row is put
pub row_put : (es : List TxnStatus) (t : Id) (s : Status) (r : Row) → IsById (λ e. e.txn) es → AllByRecursion IsOwn es → IsOwn (record { txn = t; status = s })
    → standing_row (record { txn = t; status = s }) ≡ Some r → r.txn ≡ t → with_row (gather standing_row es) r ≡ gather standing_row (with_status es t s)
row_put es t s r up own new stands its =
    rows_after es t s up own new (with_row (gather standing_row es) r)
    (by_id-with_row (gather standing_row es) r (opened.by_id-gather es up (own_rows es own)))
    (subst (λ v. find_row (with_row (gather standing_row es) r) v ≡ Some r) its (find-with_row_same (gather standing_row es) r) ∙ sym stands)
    (λ u k. find-with_row_other (gather standing_row es) r u (ap (λ v. same_id v u) its ∙ k))

-- with any other, the row goes
pub row_gone : (es : List TxnStatus) (t : Id) (s : Status) → IsById (λ e. e.txn) es → AllByRecursion IsOwn es → IsOwn (record { txn = t; status = s })
    → standing_row (record { txn = t; status = s }) ≡ None → without_row (gather standing_row es) t ≡ gather standing_row (with_status es t s)
row_gone es t s up own new stands =
    rows_after es t s up own new (without_row (gather standing_row es) t)
    (by_id-without_rows (gather standing_row es) (t ∷ []) (opened.by_id-gather es up (own_rows es own)))
    (find-without_row_same (gather standing_row es) t ∙ sym stands)
    (λ u k. find-without_row_other (gather standing_row es) u t k)
