-- What a contract sees of the rows and of their lock table.
use Rattle.std.specs.Prelude.{◌≡◌, ◌≤◌, ℕ, nat_le, cond, Bool, true, List, [], ◌∷◌, map, slice_get, All, Option, None, Some, MatchOption}
use Rattle.std.specs.List.{Contains}
use Rattle.units.specs.Lists.{when, tail, gather}
use Rattle.units.specs.Ids.{Id}
use Rattle.units.specs.ById.{find_member, without_member}
use Rattle.units.specs.Locks.{Claim}
use Rattle.units.specs.declared.lock.Lock.{Lock}
use Rattle.record.specs.declared.record.Record.{Record}
use Rattle.protocol.specs.Rows.{Row, Phase, Idle, Collecting, IsPrepared, IsDecided, find_row, with_row, without_row, needs_of}
use Rattle.protocol.specs.Rows.{with_vote}
use Rattle.locks.specs.Table.{Token}
use Rattle.rows.specs.CodeRows.{token_of, txn_of, phase_of, is_reading}
use Rattle.rows.specs.declared.row.Row.{Row as CodeRow}

-- the rows, and the tokens of their transactions, by ascending id
pub record RowTable : Type 0 where
  pub rows : List Row
  pub tokens : List Token

-- what the first claim holds
abbrev pub held_first : List Claim → List Lock
held_first [] = []
held_first (c ∷ cs) = c.held

-- each row of the code with the claim of its place
abbrev pub paired : List CodeRow → List Claim → List Row
paired [] table = []
paired (r ∷ rs) table = record { txn = txn_of r; held = held_first table; phase = phase_of r } ∷ paired rs (tail table)

-- the rows of the code and their lock table, as a contract sees them
abbrev pub table_of : List CodeRow → List Claim → RowTable
table_of rows table = record { rows = paired rows table; tokens = map token_of rows }

-- for how many locks a token has room, none where there is no token
abbrev pub room_by : Option Token → ℕ
room_by None = 0
room_by (Some k) = k.room

-- for how many locks a transaction has room
abbrev pub room : RowTable → Id → ℕ
room table t = room_by (find_member (λ k. k.txn) table.tokens t)

-- the tokens without that of a transaction
abbrev pub without_token : List Token → Id → List Token
without_token tokens t = without_member (λ k. k.txn) tokens t

-- the row of a transaction given anew
abbrev pub put_row : List Row → Id → List Lock → Phase → List Row
put_row rows t held phase = with_row rows (record { txn = t; held = held; phase = phase })

-- the locks that a row wants, none where there is no row
abbrev pub needs_by : Option Row → List Lock
needs_by None = []
needs_by (Some r) = needs_of r.phase

-- the locks that a transaction waits for
abbrev pub needs_in : List Row → Id → List Lock
needs_in rows t = needs_by (find_row rows t)

-- the tokens without those of several transactions
abbrev pub without_tokens : List Token → List Id → List Token
without_tokens tokens [] = tokens
without_tokens tokens (t ∷ ts) = without_tokens (without_token tokens t) ts

-- a transaction has a row whose phase passes a test
abbrev pub has_phase : (Phase → Bool) → List Row → Id → Bool
has_phase test rows t = when (λ r. test r.phase) (find_row rows t)

-- the phase of a transaction, idle where it has no row
abbrev pub phase_of_row : Option Row → Phase
phase_of_row None = Idle
phase_of_row (Some r) = r.phase

abbrev pub phase_in : List Row → Id → Phase
phase_in rows t = phase_of_row (find_row rows t)

-- a phase with a yes of a shard, where it collects votes
abbrev pub with_yes : ℕ → ℕ → Phase → Phase
with_yes n p (Collecting latest parts reads writes votes) = Collecting latest parts reads writes (with_vote n p votes)
with_yes n p phase = phase

-- several transactions may be ended, one by one: each has a row that is not firm
abbrev pub MayEnd : List Row → List Id → Type 0
MayEnd rows [] = Unit {0}
MayEnd rows (t ∷ ts) = (has_phase is_reading rows t ≡ true) × MayEnd (without_row rows t) ts

-- the phase that a logged promise or decision leads to
abbrev pub phase_by : Record → Phase
phase_by (Record.Prepare p) = IsPrepared p.coordinator p.at
phase_by (Record.Commit c) = IsDecided c.at c.parts
phase_by _ = Idle

-- the timestamp of a row that is prepared, and of one that is decided
abbrev pub prepared_row : Row → Option (Id × ℕ)
prepared_row r = elim r.phase [ IsPrepared coordinator at ↦ Some (r.txn, at) | _ ↦ None ]

abbrev pub decided_row : Row → Option (Id × ℕ)
decided_row r = elim r.phase [ IsDecided at parts ↦ Some (r.txn, at) | _ ↦ None ]

-- the n-th row that is prepared or decided, by ascending id, with its timestamp
abbrev pub nth_prepared : List Row → ℕ → Option (Id × ℕ)
nth_prepared rows n = slice_get (gather prepared_row rows) n

abbrev pub nth_decided : List Row → ℕ → Option (Id × ℕ)
nth_decided rows n = slice_get (gather decided_row rows) n

-- the one of the lower timestamp, where both are there
abbrev pub earlier : Option (Id × ℕ) → Option (Id × ℕ) → Option (Id × ℕ)
earlier None other = other
earlier (Some first) None = Some first
earlier (Some first) (Some second) = cond (nat_le first.1 second.1) (Some first) (Some second)

-- of some transactions with their timestamps one of the least, none where there are none
abbrev pub IsEarliest : List (Id × ℕ) → Option (Id × ℕ) → Type 0
IsEarliest stamps found = MatchOption found (stamps ≡ [])
    (λ first. Contains stamps first × All (λ stamp. first.1 ≤ stamp.1) stamps)
