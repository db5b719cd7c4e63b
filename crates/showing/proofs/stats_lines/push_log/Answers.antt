use Rattle.std.proofs.Common.{rules, ◌∙◌, ◌++◌, ap, codes, flat_map, string_bytes}
use Rattle.std.proofs.lemmas.Result.{on_ok_weaker}
use Rattle.showing.specs.StatsTexts.{doubt_line, figures, number_line, number_of}
use Rattle.showing.proofs.Summing.{log_told}
use Rattle.showing.proofs.stats_lines.push_log.Goals as goal

pub returns-clause-text : goal.returns-clause-text
returns-clause-text c =
    on_ok_weaker c.push_doubts.result
    (λ told. log_told (string_bytes c.args.text.now) (string_bytes c.write.new.self) (string_bytes c.push_numbers.new.text)
    (string_bytes c.push_doubts.new.text) (codes "log " ++ (c.args.name.now ++ codes "\n"))
    (flat_map (λ f. number_line f (number_of f c.args.stats.now.numbers)) figures) (flat_map doubt_line c.args.stats.now.in_doubt.items)
    (search rules) c.in_ok-push_numbers.ensures.lines
    (told ∙ ap (λ doubts. string_bytes c.push_numbers.new.text ++ flat_map doubt_line doubts) c.deref.ensures.value))
    c.push_doubts.ensures.lines
