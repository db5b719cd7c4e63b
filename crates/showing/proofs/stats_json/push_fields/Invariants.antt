-- A member for each number that was read stands after the text.
use Rattle.std.proofs.Common.{◌≡◌, ◌++◌, take, flat_map, string_bytes}
use Rattle.showing.specs.StatsTexts.{field_json, number_of}
use Rattle.showing.proofs.stats_json.push_fields.Given as goal

abbrev pub invariant-loop-figure : goal.invariant-loop-figure
invariant-loop-figure l =
    string_bytes l.text ≡ string_bytes l.initial.text ++ flat_map (λ f. field_json f (number_of f l.numbers)) (take l.figure-index l.figures)
