-- What `once` prints, and its status.
use Rattle.std.specs.Prelude.{ℕ, List, ◌++◌, ◌+◌, ◌^◌, codes, Result, Ok, Err, if◌then◌else◌, nat_lt}
use Rattle.std.specs.Fmt.{decimal}
use Rattle.truetime.specs.Interval.{Interval}
use Rattle.truetime.specs.Reading.{surely_after}
use Rattle.units.specs.Ids.{Id}
use Rattle.units.specs.Texts.{txn_text}
use Rattle.units.specs.declared.fault.Fault.{Fault}
use Rattle.units.specs.declared.fault.Fault.TheVariants.{TimeSpent}
use Rattle.output.specs.Replies.{Reply}
use Rattle.texts.specs.Numbers.{and_then}

-- the one transaction of `once`
abbrev pub only_txn : Id
only_txn = record { run = 1; number = 1 }

-- its commit decision
abbrev pub commit_line : ℕ → List ℕ
commit_line s = codes "commit " ++ (txn_text only_txn ++ (codes " at " ++ (decimal s ++ codes "\n")))

-- its end
abbrev pub done_line : ℕ → List ℕ
done_line s = codes "done " ++ (txn_text only_txn ++ (codes " committed " ++ (decimal s ++ codes "\n")))

-- it could not be settled yet
abbrev pub early_line : List ℕ
early_line = codes "early\n"

-- the timestamp of a first commit: one above the latest of its reading
abbrev pub first_stamp : Interval → Result ℕ Fault
first_stamp first = if nat_lt (first.latest + 1) (2 ^ 62) then Ok (first.latest + 1) else Err TimeSpent

-- how the commit at s ends at a reading: done once s has surely passed
abbrev pub settled_reply : ℕ → Interval → Reply
settled_reply s second = if surely_after second s then (commit_line s ++ done_line s, 0) else (commit_line s ++ early_line, 1)

-- one shard with a fresh log
abbrev pub once_reply : Interval → Interval → Result Reply Fault
once_reply first second = and_then (first_stamp first) (λ s. Ok (settled_reply s second))
