use Rattle.std.proofs.Common.{refl, rules, subst, ◌++◌, codes, flat_map, string_bytes}
use Rattle.std.proofs.lemmas.Result.{on_ok_weaker}
use Rattle.showing.specs.Json.{quoted}
use Rattle.showing.specs.JsonTexts.{AreDoubts}
use Rattle.showing.specs.StatsTexts.{field_json, figures, log_json, number_of}
use Rattle.showing.proofs.Summing.{log_told}
use Rattle.showing.proofs.stats_json.push_log_json.Goals as goal

pub returns-clause-text : goal.returns-clause-text
returns-clause-text c =
    on_ok_weaker c.push_doubts.result
    (λ told. (
      log_json c.args.name.now c.args.stats.now.numbers (codes "\"doubts\":[" ++ (told.0 ++ codes "]}")),
      (told.0, subst (λ doubts. AreDoubts doubts told.0) c.deref.ensures.value told.1, refl),
      log_told (string_bytes c.args.text.now) (string_bytes c.write.new.self) (string_bytes c.push_fields.new.text) (string_bytes c.push_doubts.new.text)
          (codes "{\"log\":" ++ (quoted c.args.name.now ++ codes ",")) (flat_map (λ f. field_json f (number_of f c.args.stats.now.numbers)) figures)
          (codes "\"doubts\":[" ++ (told.0 ++ codes "]}")) (search rules) c.in_ok-push_fields.ensures.fields told.2,
    ))
    c.push_doubts.ensures.rest
