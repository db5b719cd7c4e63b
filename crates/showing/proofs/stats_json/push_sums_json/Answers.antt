use Rattle.std.proofs.Common.{rules, ◌++◌, codes, flat_map, length, string_bytes}
use Rattle.std.specs.Fmt.{decimal}
use Rattle.showing.specs.StatsTexts.{field_json, sum_of, summed}
use Rattle.showing.proofs.Summing.{log_told}
use Rattle.showing.proofs.stats_json.push_sums_json.Goals as goal

pub returns-clause-sums : goal.returns-clause-sums
returns-clause-sums c =
    log_told (string_bytes c.args.text.now) (string_bytes c.push_str.new.self) (string_bytes c.push_each_sum.new.text) (string_bytes c.write.new.self)
    (codes ",\"sums\":{") (flat_map (λ f. field_json f (sum_of f c.args.logs.now)) summed)
    (codes "\"logs\":" ++ (decimal (length c.args.logs.now) ++ codes "}")) (search rules) c.in_ok-push_each_sum.ensures.fields (search rules)
