-- A blank for each step stands behind the text.
use Rattle.std.proofs.Common.{◌≡◌, ◌++◌, string_bytes}
use Rattle.std.specs.Prelude.{replicate}
use Rattle.progress.proofs.table.push_blanks.Given as goal

abbrev pub invariant-loop-blank : goal.invariant-loop-blank
invariant-loop-blank l = string_bytes l.text ≡ string_bytes l.initial.text ++ replicate l._blank 32
