-- What lines are answered.
use Rattle.std.specs.Prelude.{◌++◌, ℕ, List, [], ◌∷◌, Option, Some, None, codes, flat_map, string_bytes}
use Rattle.std.specs.Fmt.{decimal}
use Rattle.units.specs.Ids.{Id}
use Rattle.units.specs.Keys.{Bytes}
use Rattle.units.specs.Texts.{txn_text}
use Rattle.units.specs.Faults.{fault_text}
use Rattle.units.specs.declared.fault.Fault.{Fault}
use Rattle.requests.specs.Spelling.{spelled}
use Rattle.requests.specs.declared.answered.Answer.{Answer}
use Rattle.requests.specs.declared.answered.Answer.TheVariants.{Begun, Values, Done, Committed, Aborted, Unknown, At, Page, Ended, Found, Text, Help, Closed, Refused, Misplaced, Over}
use Rattle.requests.specs.declared.answered.Found.{Found as HowFound}
use Rattle.requests.specs.declared.answered.Found.TheVariants as found
use Rattle.requests.specs.declared.answered.TheConstants.{VERBS}

-- a blank, and a value or what stands for none
abbrev pub behind_blank : Option Bytes → List ℕ
behind_blank (Some bytes) = codes " =" ++ spelled bytes
behind_blank None = codes " none"

-- how a transaction ended
abbrev pub found_text : HowFound → List ℕ
found_text (found.Committed s) = codes " outcome committed " ++ decimal s
found_text found.Aborted = codes " outcome aborted"
found_text found.Open = codes " outcome open"
found_text found.Unknown = codes " outcome unknown"

-- what stands behind the client's number
abbrev pub answer_text : Answer → List ℕ
answer_text (Begun t) = codes " begun " ++ txn_text t
answer_text (Values all) = flat_map behind_blank all.items
answer_text Done = codes " ok"
answer_text (Committed s t) = codes " committed " ++ (decimal s ++ (codes " " ++ txn_text t))
answer_text Aborted = codes " aborted"
answer_text (Unknown t) = codes " unknown " ++ txn_text t
answer_text (At s) = codes " at " ++ decimal s
answer_text (Page keys next) = codes " page" ++ (behind_blank next ++ flat_map (λ key. behind_blank (Some key)) keys.items)
answer_text Ended = codes " ended"
answer_text (Found how) = found_text how
answer_text (Text text) = behind_blank (Some (string_bytes text))
answer_text Help = codes " help: " ++ VERBS.now
answer_text Closed = codes " closed"
answer_text (Refused fault) = codes " fault: " ++ fault_text fault
answer_text Misplaced = codes " fault: 7 BadRequest(state)"
answer_text (Over fault) = codes " ended: fault: " ++ fault_text fault

-- the line of a client's answer
abbrev pub answer_line : ℕ → Answer → List ℕ
answer_line client answer = decimal client ++ (answer_text answer ++ codes "\n")
