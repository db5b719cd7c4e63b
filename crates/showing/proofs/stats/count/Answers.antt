use Rattle.std.proofs.Common.{◌≡◌, ◌∙◌, ap, length, rules, vec_len, inl, inr}
use Rattle.inspection.proofs.Reading.{only_damage, refuses}
use Rattle.showing.specs.Stats.{keys_of}
use Rattle.showing.proofs.Numbered.{numbers_are, stats_found, stats_refused}
use Rattle.showing.proofs.stats.count.Goals as goal

pub returns-in_err-facts-clause-refused : goal.returns-in_err-facts-clause-refused
returns-in_err-facts-clause-refused c =
    refuses c.from_residual.result c.in_err-facts.field-0.0 _ (search rules) (elim c.in_err-facts.ensures.refused [
      | inl memory ↦ inl memory
      | inr refused ↦ inr (
        only_damage _ _ _ _ refused,
        stats_refused c.args.file c.args.entries.now c.shard_told.result c.in_err-facts.field-0.0 c.shard_told.ensures refused,
      )
    ])

pub returns-clause-stats : goal.returns-clause-stats
returns-clause-stats c =
    let all : vec_len c.in_ok-in_doubt.in_doubt ≡ length c.in_ok-in_doubt.in_doubt.items = search rules in
    stats_found c.args.file c.args.entries.now c.shard_told.result _ _ c.shard_told.ensures c.in_ok-facts.ensures.behind
    (numbers_are c.args.file _ _ _ _ _ _ _ c.args.entries.now c.in_ok-facts.facts.facts c.in_ok-facts.ensures.facts (search rules) c.kinds_of.ensures
    (c.in_ok-keys.ensures.keys ∙ ap (λ is. length (keys_of is)) c.installs.ensures) (ap length c.installs-2.ensures) c.epoch.ensures.value
    c.floor.ensures (c.len.ensures ∙ all ∙ ap length c.in_ok-in_doubt.ensures.doubts))
    c.in_ok-in_doubt.ensures.doubts
