-- The keys that were read stand behind the line.
use Rattle.std.proofs.Common.{◌≡◌, ◌++◌, Some, take, flat_map, string_bytes}
use Rattle.requests.specs.Answers.{behind_blank}
use Rattle.requests.proofs.answered.push_keys.Given as goal

abbrev pub invariant-loop-key : goal.invariant-loop-key
invariant-loop-key l = string_bytes l.line ≡ string_bytes l.initial.line ++ flat_map (λ key. behind_blank (Some key)) (take l.key-index l.keys)
