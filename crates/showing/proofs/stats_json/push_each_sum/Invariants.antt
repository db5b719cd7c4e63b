-- A member for each sum that was read stands after the text.
use Rattle.std.proofs.Common.{◌≡◌, ◌++◌, take, flat_map, string_bytes}
use Rattle.showing.specs.StatsTexts.{field_json, sum_of}
use Rattle.showing.proofs.stats_json.push_each_sum.Given as goal

abbrev pub invariant-loop-figure : goal.invariant-loop-figure
invariant-loop-figure l =
    string_bytes l.text ≡ string_bytes l.initial.text ++ flat_map (λ f. field_json f (sum_of f l.logs)) (take l.figure-index l.figures)
