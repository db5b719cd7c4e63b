-- The entries that are left of those below an id.
use Rattle.std.proofs.Common.{◌≡◌, ◌∙◌, Bool, true, false, not, cond, List, [], ◌∷◌, map, filter, refl, sym, ap, arith}
use Rattle.std.proofs.lemmas.Bool.Decides.{nat_tests}
use Rattle.std.specs.Prelude.{Some}
use Rattle.units.specs.Ids.{Id, same_id, older}
use Rattle.units.specs.ById.{with_member}
use Rattle.units.proofs.IdLaws.{same_id-is}
use Rattle.record.specs.Facts.{TxnStatus, kept_entries}
use Rattle.facts.specs.Shown.{meaning, shown_entries, by_id}
use Rattle.facts.specs.declared.entry.Status.{Status}

module _ (below : Id) where
  abbrev pub keeps : Id × Status → Bool
  keeps e = not (older e.0 below)

  -- one that is kept comes behind those that are not
  behind : (e t : Id) → older e below ≡ true → older t below ≡ false → (same_id e t ≡ false) × (older e t ≡ true)
  behind e t under above = (grind (arith, nat_tests), grind (arith, nat_tests))

  kept_member : (xs : List (Id × Status)) (e : Id × Status) → older e.0 below ≡ false
      → filter keeps (with_member (λ x. x.0) xs e) ≡ with_member (λ x. x.0) (filter keeps xs) e
  kept_member [] e kept = ap (λ b. cond (not b) (e ∷ []) []) kept
  kept_member (x ∷ xs) e kept = by_tests (older x.0 below) refl (kept_member xs e kept)
    where
      rest : List (Id × Status)
      rest = filter keeps xs

      more : List (Id × Status)
      more = filter keeps (with_member (λ y. y.0) xs e)

      by_place : (a b : Bool) → older x.0 below ≡ false → more ≡ with_member (λ y. y.0) rest e
          → filter keeps (cond a (e ∷ xs) (cond b (x ∷ with_member (λ y. y.0) xs e) (e ∷ x ∷ xs)))
          ≡ cond a (e ∷ rest) (cond b (x ∷ with_member (λ y. y.0) rest e) (e ∷ x ∷ rest))
      by_place true b p step = ap (λ k. cond (not k) (e ∷ rest) rest) kept
      by_place false true p step = ap (λ k. cond (not k) (x ∷ more) more) p ∙ ap (λ l. x ∷ l) step
      by_place false false p step =
          ap (λ k. cond (not k) (e ∷ filter keeps (x ∷ xs)) (filter keeps (x ∷ xs))) kept
          ∙ ap (λ k. e ∷ cond (not k) (x ∷ rest) rest) p

      by_tests : (k : Bool) → older x.0 below ≡ k → more ≡ with_member (λ y. y.0) rest e
          → filter keeps (with_member (λ y. y.0) (x ∷ xs) e) ≡ with_member (λ y. y.0) (cond (not k) (x ∷ rest) rest) e
      by_tests true p step =
          let apart = behind x.0 e.0 p kept in
          ap (λ b. filter keeps (cond b (e ∷ xs) (cond (older x.0 e.0) (x ∷ with_member (λ y. y.0) xs e) (e ∷ x ∷ xs)))) apart.0
          ∙ ap (λ b. filter keeps (cond b (x ∷ with_member (λ y. y.0) xs e) (e ∷ x ∷ xs))) apart.1
          ∙ ap (λ b. cond (not b) (x ∷ more) more) p
          ∙ step
      by_tests false p step = by_place (same_id x.0 e.0) (older x.0 e.0) p step

  gone_member : (xs : List (Id × Status)) (e : Id × Status) → older e.0 below ≡ true
      → filter keeps (with_member (λ x. x.0) xs e) ≡ filter keeps xs
  gone_member [] e gone = ap (λ b. cond (not b) (e ∷ []) []) gone
  gone_member (x ∷ xs) e gone = by_place (same_id x.0 e.0) (older x.0 e.0) refl (gone_member xs e gone)
    where
      by_place : (a b : Bool) → same_id x.0 e.0 ≡ a → filter keeps (with_member (λ y. y.0) xs e) ≡ filter keeps xs
          → filter keeps (cond a (e ∷ xs) (cond b (x ∷ with_member (λ y. y.0) xs e) (e ∷ x ∷ xs))) ≡ filter keeps (x ∷ xs)
      by_place true b same step =
          ap (λ k. cond (not k) (e ∷ filter keeps xs) (filter keeps xs)) gone
          ∙ sym (ap (λ k. cond (not k) (x ∷ filter keeps xs) (filter keeps xs)) (ap (λ (t : Id). older t below) (same_id-is x.0 e.0 same) ∙ gone))
      by_place false true same step = ap (λ l. cond (not (older x.0 below)) (x ∷ l) l) step
      by_place false false same step = ap (λ k. cond (not k) (e ∷ filter keeps (x ∷ xs)) (filter keeps (x ∷ xs))) gone

  kept_by_id : (es : List (Id × Status)) → by_id (filter keeps es) ≡ filter keeps (by_id es)
  kept_by_id [] = refl
  kept_by_id (e ∷ es) = by_test (older e.0 below) refl (kept_by_id es)
    where
      by_test : (b : Bool) → older e.0 below ≡ b → by_id (filter keeps es) ≡ filter keeps (by_id es)
          → by_id (cond (not b) (e ∷ filter keeps es) (filter keeps es)) ≡ filter keeps (with_member (λ x. x.0) (by_id es) e)
      by_test true p rest = rest ∙ sym (gone_member (by_id es) e p)
      by_test false p rest = ap (λ l. with_member (λ x. x.0) l e) rest ∙ sym (kept_member (by_id es) e p)

  shown_kept : (es : List (Id × Status)) → shown_entries (filter keeps es) ≡ kept_entries (Some below) (shown_entries es)
  shown_kept [] = refl
  shown_kept (e ∷ es) = by_test (older e.0 below) (shown_kept es)
    where
      shown : TxnStatus
      shown = record { txn = e.0; status = meaning e.1 }

      by_test : (b : Bool) → shown_entries (filter keeps es) ≡ kept_entries (Some below) (shown_entries es)
          → shown_entries (cond (not b) (e ∷ filter keeps es) (filter keeps es))
          ≡ cond (not b) (shown ∷ kept_entries (Some below) (shown_entries es)) (kept_entries (Some below) (shown_entries es))
      by_test true rest = rest
      by_test false rest = ap (λ l. shown ∷ l) rest

  -- so by id too
  pub entries_kept : (es : List (Id × Status)) → shown_entries (by_id (filter keeps es)) ≡ kept_entries (Some below) (shown_entries (by_id es))
  entries_kept es = ap shown_entries (kept_by_id es) ∙ shown_kept (by_id es)
