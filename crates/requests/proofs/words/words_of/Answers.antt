use Rattle.std.proofs.Common.{arith, map, rules}
use Rattle.std.proofs.lemmas.Grind.{common_steps}
use Rattle.requests.proofs.Lines.{last_one, one_more}
use Rattle.requests.proofs.words.words_of.Goals as goal

pub loop-word-preserved : goal.loop-word-preserved
loop-word-preserved c =
    let cut = c.in-Some.ensures.byte (omega arith) (λ w o f. f) in record {
      words =
          one_more (map (λ w. w.now) c.loop-word.words.items) _ c.in-Some.word.now c.in-Some.behind.now c.loop-word.rest.now _ (grind (arith, common_steps)) cut.0 cut.1
          cut.2 c.loop-word.invariant.words;
      text = search rules;
    }

pub returns : goal.returns
returns c =
    let none = c.in_default.ensures.byte (omega arith) (λ w o f. f) in
    last_one (map (λ w. w.now) c.loop-word.words.items) _ c.loop-word.rest.now _ (grind (arith, common_steps)) none c.loop-word.invariant.words
