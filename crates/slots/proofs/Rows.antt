-- Worked rows, computed.
use Rattle.std.proofs.Common.{◌≡◌, ℕ, zero, suc, ◌+◌, List, [], ◌∷◌, ◌++◌, length, take, drop, replicate, Some, Ok, Err, refl, arith}
use Rattle.std.specs.Int.{w64, from_be_bytes, to_be_bytes}
use Rattle.units.specs.declared.fault.Fault.TheVariants.{Damaged, NotALog}
use Rattle.units.specs.Ids.{Id}
use Rattle.record.specs.declared.record.Record.{Record}
use Rattle.spelling.specs.Grammar.{parts_spelling}
use Rattle.spelling.specs.Reading.{stamp_at, epoch_at, key_at, value_at, write_at, many_at, keys_at, writes_at, id_at, parts_at, shard_at, outcome_at}
use Rattle.spelling.specs.Reading.{prepare_at, commit_at, ended_at, record_at, read_record}
use Rattle.disk.specs.declared.plan.FailurePlan.TheVariants.{AfterWrite}
use Rattle.disk.specs.declared.plan.Fate.TheVariants.{Old, New}
use Rattle.disk.specs.File.{File, surface, crash_leaves}
use Rattle.frames.specs.Gate.{open_gate}
use Rattle.gatelog.specs.First.{first_header, first_log, first_scan, moved}
use Rattle.gatelog.specs.Frames.{header}
use Rattle.gatelog.specs.Areas.{fresh_with, area_bytes, placed_from}
use Rattle.frames.specs.Entries.{framed, entries_at}
use Rattle.gatelog.specs.Log.{log, scan}
use Rattle.gatelog.specs.Slots.{named, open_slots, begins_in}
use Rattle.gatelog.specs.Turns.{named_new}
use Rattle.gatelog.specs.ArmedTurn.{turned}
use Rattle.slots.specs.Laws.{FreshHasNext}

-- what scans of files with records compute through
unfoldable computing : Unit {0}
unfolding scan first_scan named entries_at framed stamp_at epoch_at key_at value_at write_at many_at keys_at writes_at id_at parts_at shard_at outcome_at
    prepare_at commit_at ended_at record_at read_record parts_spelling
computing = tt

-- ---- a fresh file

abbrev fresh : List ℕ
fresh = fresh_with []

-- its 9,225 bytes are the header, 1,024 closed slots and a closed gate
fresh-length : length fresh ≡ 9225
fresh-length = refl

-- it has no record, and its gate is at 9,224
fresh-log : scan fresh ≡ Ok ([], 9224)
unfolding scan named entries_at
fresh-log = refl

-- it begins there, with no slot open
fresh-begins : begins_in fresh ≡ record { at = 9224; slots = 0 }
unfolding named open_slots
fresh-begins = refl

pub fresh-has-next : FreshHasNext
fresh-has-next = (fresh-log, record { within = omega arith; former = λ i lt. absurd (omega (arith, lt)); shut = λ e. absurd (omega (arith, e)) })

-- a file of version 1 is none of these, nor is an empty one, and a fresh file is none of version 1
first-version : scan (first_header ++ 0 ∷ []) ≡ Err NotALog
unfolding scan
first-version = refl

no-bytes : scan [] ≡ Err NotALog
unfolding scan
no-bytes = refl

not-first-version : first_scan fresh ≡ Err NotALog
unfolding first_scan
not-first-version = refl

-- ---- one settled commit

abbrev txn : Id
txn = record { run = 1; number = 1 }

-- one key is set to one byte, and its outcome is logged
settled : List Record
settled =
    Record.Opened 1
    ∷ Record.Commit (record { txn = txn; at = 111; parts = 0 ∷ []; reads = []; writes = (record { key = 97 ∷ []; value = Some (49 ∷ []) }) ∷ [] })
    ∷ Record.Outcome txn (Some 111)
    ∷ []

-- the records of a new area; here of kinds that logs have today
kept : List Record
kept = Record.Opened 1 ∷ Record.Outcome txn (Some 111) ∷ []

-- a synced file
at_rest : List ℕ → File
at_rest bytes = record { durable = bytes; changes = [] }

-- the file with these records behind the slots
first_file : List ℕ
first_file = take 9224 fresh ++ area_bytes settled

-- its closed gate is its last byte
first-length : length first_file ≡ 9312
unfolding first_file settled parts_spelling
first-length = refl

first-log : scan first_file ≡ Ok (placed_from 9224 settled)
unfolding computing first_file settled
first-log = refl

first-gate : (placed_from 9224 settled).1 ≡ 9311
unfolding settled parts_spelling
first-gate = refl

-- ---- the same records in a file of version 1, and in a copy of it

old_file : List ℕ
old_file = first_header ++ area_bytes settled

old-length : length old_file ≡ 96
unfolding old_file settled parts_spelling
old-length = refl

old-log : first_log old_file ≡ Ok (placed_from 8 settled).0
unfolding computing old_file settled
old-log = refl

-- the copy is the file above: 9,312 bytes, with the same three records 9,216 bytes further behind
copy-is : fresh_with settled ≡ first_file
unfolding first_file
copy-is = refl

copy-log : log (fresh_with settled) ≡ Ok (moved (placed_from 8 settled).0)
unfolding computing settled
copy-log = refl

copy-places : moved (placed_from 8 settled).0 ≡ (placed_from 9224 settled).0
unfolding settled parts_spelling
copy-places = refl

-- ---- turned over

turned_file : List ℕ
turned_file = (named_new 0 9311 kept (surface (at_rest first_file))).seen

-- the first slot is open, and names the area behind the closed gate; the next slot is closed
turned-slots : take 18 (drop 8 turned_file) ≡ 0xa5 ∷ 0 ∷ 0 ∷ 0 ∷ 0 ∷ 0 ∷ 0 ∷ 0x24 ∷ 0x60 ∷ replicate 9 0
unfolding turned_file kept at_rest first_file settled parts_spelling
turned-slots = refl

turned-area : from_be_bytes w64 (0 ∷ 0 ∷ 0 ∷ 0 ∷ 0 ∷ 0 ∷ 0x24 ∷ 0x60 ∷ []) ≡ 9312
turned-area = refl

-- its log is that of the new area
turned-log : scan turned_file ≡ Ok (
  (record { offset = 9312; item = Record.Opened 1 }) ∷ (record { offset = 9326; item = Record.Outcome txn (Some 111) }) ∷ [],
  9357,
)
unfolding computing turned_file kept at_rest first_file settled
turned-log = refl

turned-begins : begins_in turned_file ≡ record { at = 9312; slots = 1 }
unfolding turned_file kept at_rest first_file settled named open_slots parts_spelling
turned-begins = refl

-- turned over once more, into no record: the next slot is open too
twice : List ℕ
twice = (named_new 1 9357 [] (surface (at_rest turned_file))).seen

twice-slots : take 18 (drop 8 twice) ≡ 0xa5 ∷ 0 ∷ 0 ∷ 0 ∷ 0 ∷ 0 ∷ 0 ∷ 0x24 ∷ 0x60 ∷ 0xa5 ∷ 0 ∷ 0 ∷ 0 ∷ 0 ∷ 0 ∷ 0 ∷ 0x24 ∷ 0x8e ∷ []
unfolding twice turned_file kept at_rest first_file settled parts_spelling
twice-slots = refl

twice-log : scan twice ≡ Ok ([], 9358)
unfolding twice turned_file kept at_rest first_file settled scan named entries_at parts_spelling
twice-log = refl

twice-begins : begins_in twice ≡ record { at = 9358; slots = 2 }
unfolding twice turned_file kept at_rest first_file settled named open_slots parts_spelling
twice-begins = refl

-- ---- a turnover whose call fails

-- the file behind it, where the call of this number fails
failed : ℕ → File
failed call = turned (AfterWrite call) 0 9311 kept (at_rest first_file)

-- the write of the slot's gate fails: a read gives the old log, and a crash leaves by that change's fate the old one or the new one
gate-fails : scan (surface (failed 3)).seen ≡ Ok (placed_from 9224 settled)
unfolding computing failed kept at_rest first_file settled
gate-fails = refl

gate-is-not-left : scan (crash_leaves [] (failed 3)) ≡ Ok (placed_from 9224 settled)
unfolding computing failed kept at_rest first_file settled
gate-is-not-left = refl

gate-is-left : scan (crash_leaves (New ∷ []) (failed 3)) ≡ Ok (placed_from 9312 kept)
unfolding computing failed kept at_rest first_file settled
gate-is-left = refl

gate-is-not-left-begins : begins_in (crash_leaves [] (failed 3)) ≡ record { at = 9224; slots = 0 }
unfolding failed kept at_rest first_file settled named open_slots parts_spelling
gate-is-not-left-begins = refl

gate-is-left-begins : begins_in (crash_leaves (New ∷ []) (failed 3)) ≡ record { at = 9312; slots = 1 }
unfolding failed kept at_rest first_file settled named open_slots parts_spelling
gate-is-left-begins = refl

-- the sync before it fails: a crash that leaves all that was written leaves the old log
sync-fails : scan (crash_leaves (New ∷ New ∷ []) (failed 2)) ≡ Ok (placed_from 9224 settled)
unfolding computing failed kept at_rest first_file settled
sync-fails = refl

-- the last sync fails: a read gives the new log, and a crash may leave the old one
last-sync-fails : scan (surface (failed 4)).seen ≡ Ok (placed_from 9312 kept)
unfolding computing failed kept at_rest first_file settled
last-sync-fails = refl

last-sync-leaves : scan (crash_leaves (Old ∷ []) (failed 4)) ≡ Ok (placed_from 9224 settled)
unfolding computing failed kept at_rest first_file settled
last-sync-leaves = refl

-- ---- slots that are damaged

-- an open slot, and a closed one
open_slot : ℕ → List ℕ
open_slot offset = open_gate ∷ to_be_bytes w64 offset

closed_slot : List ℕ
closed_slot = replicate 9 0

-- a file of 9,241 bytes that begins with these slots; the others are closed, and so is each gate
file_with : List ℕ → List ℕ
file_with slots = header ++ slots ++ drop (8 + length slots) fresh ++ replicate 16 0

with-length : length (file_with (open_slot 9232)) ≡ 9241
unfolding file_with open_slot
with-length = refl

-- two slots whose offsets ascend
two-slots : scan (file_with (open_slot 9232 ++ open_slot 9233)) ≡ Ok ([], 9233)
unfolding file_with open_slot scan named entries_at
two-slots = refl

two-begin : begins_in (file_with (open_slot 9232 ++ open_slot 9233)) ≡ record { at = 9233; slots = 2 }
unfolding file_with open_slot named open_slots
two-begin = refl

-- an open slot behind a closed one is damaged
behind-closed : scan (file_with (closed_slot ++ open_slot 9232)) ≡ Err (Damaged 17)
unfolding file_with open_slot closed_slot scan named
behind-closed = refl

behind-closed-too : scan (file_with (open_slot 9232 ++ closed_slot ++ open_slot 9233)) ≡ Err (Damaged 26)
unfolding file_with open_slot closed_slot scan named
behind-closed-too = refl

-- it is not counted, and a file whose slots are damaged begins at its first area
behind-closed-begins : begins_in (file_with (open_slot 9232 ++ closed_slot ++ open_slot 9233)) ≡ record { at = 9224; slots = 1 }
unfolding file_with open_slot closed_slot named open_slots
behind-closed-begins = refl

-- so is one whose offset does not ascend
not-above : scan (file_with (open_slot 9232 ++ open_slot 9232)) ≡ Err (Damaged 17)
unfolding file_with open_slot scan named
not-above = refl

-- the least offset is that behind the first area's first byte
least-offset : scan (file_with (open_slot 9225)) ≡ Ok ([], 9225)
unfolding file_with open_slot scan named entries_at
least-offset = refl

too-low : scan (file_with (open_slot 9224)) ≡ Err (Damaged 8)
unfolding file_with open_slot scan named
too-low = refl

-- the greatest is that of the last byte
greatest-offset : scan (file_with (open_slot 9240)) ≡ Ok ([], 9240)
unfolding file_with open_slot scan named entries_at
greatest-offset = refl

too-high : scan (file_with (open_slot 9241)) ≡ Err (Damaged 8)
unfolding file_with open_slot scan named
too-high = refl

-- all slots are open: the log is that of the last one, and no slot is left
all_slots : ℕ → ℕ → List ℕ
all_slots zero offset = []
all_slots (suc left) offset = open_slot offset ++ all_slots left (offset + 1)

all-open : scan (header ++ all_slots 1024 9225 ++ replicate 1040 0) ≡ Ok ([], 10248)
unfolding all_slots open_slot scan named entries_at
all-open = refl

all-begin : begins_in (header ++ all_slots 1024 9225 ++ replicate 1040 0) ≡ record { at = 10248; slots = 1024 }
unfolding all_slots open_slot named open_slots
all-begin = refl

-- a gate with any other byte is closed, as in a log
other-byte : scan (file_with (0x5a ∷ to_be_bytes w64 9232)) ≡ Ok ([], 9224)
unfolding file_with scan named entries_at
other-byte = refl

-- a file that ends within the slots is damaged at the first that it does not hold whole
header-alone : scan header ≡ Err (Damaged 8)
unfolding scan named
header-alone = refl

ends-early : scan (take 100 fresh) ≡ Err (Damaged 98)
unfolding scan named
ends-early = refl

ends-late : scan (take 9223 fresh) ≡ Err (Damaged 9215)
unfolding scan named
ends-late = refl

-- and one that ends behind them, where the first gate is due
no-area : scan (take 9224 fresh) ≡ Err (Damaged 9224)
unfolding scan named entries_at
no-area = refl
