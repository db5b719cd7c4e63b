-- The rows as a lock table: what a step does to the rows, the calls of a table do to its claims.
use Rattle.std.proofs.Common.{◌≡◌, cond, List, [], ◌∷◌, Some, refl, sym, ap, ◌∙◌, option_map}
use Rattle.units.specs.Ids.{Id, same_id, older}
use Rattle.units.specs.ById.{IsById, find_member, without_member, with_member, change_member}
use Rattle.units.specs.Locks.{Claim}
use Rattle.units.proofs.ByIdLaws.{find-map, without-map, with-map, by_id-map, change_is_with}
use Rattle.protocol.specs.Rows.{Row, claim_of, claims, find_row, without_row, with_row}

-- a row is put where its id comes
pub with_row-is : (rows : List Row) (r : Row) → with_row rows r ≡ with_member (λ q. q.txn) rows r
with_row-is [] r = refl
with_row-is (q ∷ qs) r =
    ap (λ rest. cond (same_id q.txn r.txn) (r ∷ qs) (cond (older q.txn r.txn) (q ∷ rest) (r ∷ q ∷ qs))) (with_row-is qs r)

-- the claims ascend by id where the rows do
pub claims-by_id : (rows : List Row) → IsById (λ q. q.txn) rows → IsById (λ c. c.txn) (claims rows)
claims-by_id rows up = by_id-map (λ (q : Row). q.txn) (λ (c : Claim). c.txn) claim_of (λ q. refl) rows up

-- the claim of an id is that of its row
pub claims-find_row : (rows : List Row) (t : Id) → find_member (λ c. c.txn) (claims rows) t ≡ option_map claim_of (find_row rows t)
claims-find_row rows t = find-map (λ (q : Row). q.txn) (λ (c : Claim). c.txn) claim_of (λ q. refl) rows t

-- a row is dropped with its claim
pub claims-without_row : (rows : List Row) (t : Id) → claims (without_row rows t) ≡ without_member (λ c. c.txn) (claims rows) t
claims-without_row rows t = sym (without-map (λ (q : Row). q.txn) (λ (c : Claim). c.txn) claim_of (λ q. refl) rows t)

-- a row is put in with its claim
pub claims-with_row : (rows : List Row) (r : Row) → claims (with_row rows r) ≡ with_member (λ c. c.txn) (claims rows) (claim_of r)
claims-with_row rows r =
    ap claims (with_row-is rows r) ∙ sym (with-map (λ (q : Row). q.txn) (λ (c : Claim). c.txn) claim_of (λ q. refl) rows r)

-- a row that is there is given anew by a change of its claim
pub claims-changed_row : (rows : List Row) (q r : Row) (f : Claim → Claim) → IsById (λ q. q.txn) rows → find_row rows r.txn ≡ Some q → q.txn ≡ r.txn
    → claim_of r ≡ f (claim_of q) → claims (with_row rows r) ≡ change_member (λ c. c.txn) (claims rows) r.txn f
claims-changed_row rows q r f up found same changed =
    let there : find_member (λ c. c.txn) (claims rows) r.txn ≡ Some (claim_of q) = claims-find_row rows r.txn ∙ ap (option_map claim_of) found in
    let kept : (f (claim_of q)).txn ≡ (claim_of q).txn = ap (λ (c : Claim). c.txn) (sym changed) ∙ sym same in
    claims-with_row rows r
    ∙ ap (with_member (λ (c : Claim). c.txn) (claims rows)) changed
    ∙ sym (change_is_with (λ (c : Claim). c.txn) (claims rows) r.txn f (claim_of q) (claims-by_id rows up) there kept)
