use Rattle.std.proofs.Common.{◌≡◌, ◌<◌, ℕ, true, [], ◌∷◌, refl, sym, ap, subst, ◌∙◌, arith}
use Rattle.std.proofs.lemmas.Result.{IfOk-weaker}
use Rattle.record.specs.declared.record.Record.{Record}
use Rattle.record.specs.Facts.{facts_of, learn}
use Rattle.record.specs.Installs.{installs_of}
use Rattle.facts.specs.Rules.{follows_facts}
use Rattle.facts.specs.Stages.{follows_next, follows_head, stage_of}
use Rattle.memory.proofs.state.State.fresh.Goals as goal

-- an opening is the first record
first_follows : (shard : ℕ) → follows_next shard (stage_of []) (facts_of []) (Record.Opened 1) ≡ true
unfolding facts_of follows_facts follows_next follows_head
first_follows shard = refl

-- one opening is learnt as an opening finds it
first_learnt : learn (facts_of []) (Record.Opened 1) ≡ facts_of (Record.Opened 1 ∷ [])
unfolding facts_of installs_of learn
first_learnt = refl

first_epoch : (learn (facts_of []) (Record.Opened 1)).epoch ≡ 1
unfolding learn
first_epoch = refl

pub begun-requires-clause-begins : goal.begun-requires-clause-begins
begun-requires-clause-begins c =
    subst (λ (n : ℕ). follows_next c.args.setup.shard (stage_of []) (facts_of []) (Record.Opened n) ≡ true) (sym c.first.ensures)
    (first_follows c.args.setup.shard)

pub begun-requires-clause-opened : goal.begun-requires-clause-opened
begun-requires-clause-opened c =
    subst (λ (n : ℕ). 0 < (learn (facts_of []) (Record.Opened n)).epoch) (sym c.first.ensures)
    (subst (λ n. 0 < n) (sym first_epoch) (omega arith))

pub returns-clause-facts : goal.returns-clause-facts
returns-clause-facts c =
    IfOk-weaker c.begun.result _ _
    (λ s same. same ∙ ap (λ (n : ℕ). learn (facts_of []) (Record.Opened n)) c.first.ensures ∙ first_learnt)
    c.begun.ensures.facts
