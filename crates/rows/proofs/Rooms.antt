-- The room of a transaction is that of the token in its row.
use Rattle.std.proofs.Common.{◌≡◌, ◌+◌, ◌≤◌, List, length, Option, Some, refl, sym, ap, ◌∙◌, arith, option_map}
use Rattle.units.specs.Ids.{Id}
use Rattle.units.specs.Locks.{Claim}
use Rattle.units.specs.declared.lock.Lock.{Lock}
use Rattle.units.proofs.ByIdLaws.{find-map, find-with_same}
use Rattle.protocol.specs.Rows.{claims, held_in}
use Rattle.locks.specs.Table.{Token, held_in_table, most_held}
use Rattle.rows.specs.States.{ReadingState}
use Rattle.rows.specs.CodeRows.{token_of, txn_of, row_of, put_in, IsOut}
use Rattle.rows.specs.RowTable.{RowTable, paired, table_of, room, room_by}
use Rattle.rows.specs.declared.row.Row.{Row as CodeRow}
use Rattle.rows.specs.declared.row.Row.TheVariants.{Reading}
use Rattle.rows.proofs.Ties.{held_is}
use Rattle.rows.proofs.Steps.{out_txn}

-- the token of a transaction is in its row
token_found : (rows : List CodeRow) (table : List Claim) (t : Id) → room (table_of rows table) t ≡ room_by (option_map token_of (row_of rows t))
token_found rows table t = ap room_by (find-map txn_of (λ (k : Token). k.txn) token_of (λ r. refl) rows t)

pub room_found : (rows : List CodeRow) (table : List Claim) (t : Id) (y : CodeRow) → row_of rows t ≡ Some y → room (table_of rows table) t ≡ (token_of y).room
room_found rows table t y found = token_found rows table t ∙ ap (λ (o : Option CodeRow). room_by (option_map token_of o)) found

-- and of one that was put in
pub room_put : (mid new : List CodeRow) (table : List Claim) (t : Id) (z : CodeRow) → new ≡ put_in mid z → txn_of z ≡ t →
    room (table_of new table) t ≡ (token_of z).room
room_put mid new table t z is same =
    room_found new table t z (ap (row_of new) (sym same) ∙ ap (λ l. row_of l (txn_of z)) is ∙ find-with_same txn_of mid z)

-- as many locks are held as a contract sees
pub held_seen : {rows mid : List CodeRow} {t : Id} {y : CodeRow} {seen : RowTable} (table : List Claim)
    → IsOut rows mid t y → claims (paired rows table) ≡ table → table_of rows table ≡ seen
    → length (held_in_table table (txn_of y)) ≡ length (held_in seen.rows t)
held_seen {rows = rows} {t = t} table out tied view =
    ap (λ i. length (held_in_table table i)) (out_txn out) ∙ ap length (held_is rows table t tied) ∙ ap (λ (r : RowTable). length (held_in r.rows t)) view

-- the room is that of the token, and enough for a request
pub room_fits : {rows mid : List CodeRow} {t : Id} {s : ReadingState} {seen : RowTable} (table : List Claim) (needs : List Lock)
    → IsOut rows mid t (Reading s) → claims (paired rows table) ≡ table → table_of rows table ≡ seen
    → length (held_in seen.rows t) + length needs ≤ room seen t → most_held table s.token.txn needs ≤ s.token.room
room_fits {rows = rows} {t = t} {s = s} {seen = seen} table needs out tied view fits =
    let held : length (held_in_table table s.token.txn) ≡ length (held_in seen.rows t) = held_seen table out tied view in
    let spare : room seen t ≡ s.token.room = ap (λ (r : RowTable). room r t) (sym view) ∙ room_found rows table t (Reading s) out.row in
    omega (arith, held, spare, fits)
