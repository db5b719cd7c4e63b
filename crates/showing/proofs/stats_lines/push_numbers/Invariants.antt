-- A line for each number that was read stands behind the text.
use Rattle.std.proofs.Common.{◌≡◌, ◌++◌, take, flat_map, string_bytes}
use Rattle.showing.specs.StatsTexts.{number_line, number_of}
use Rattle.showing.proofs.stats_lines.push_numbers.Given as goal

abbrev pub invariant-loop-figure : goal.invariant-loop-figure
invariant-loop-figure l =
    string_bytes l.text ≡ string_bytes l.initial.text ++ flat_map (λ f. number_line f (number_of f l.numbers)) (take l.figure-index l.figures)
