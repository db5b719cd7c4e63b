use Rattle.std.proofs.Common.{◌≡◌, ◌∙◌, ap, map, Bor, List, Some, None}
use Rattle.std.proofs.lemmas.Result.{IfOk-weaker}
use Rattle.clap.specs.Words.{found_of}
use Rattle.clap.proofs.WalkLemmas.{raw_values-rows}
use Rattle.command_line.specs.Lines.{Word}
use Rattle.command_line.proofs.words.words_of.Goals as goal

same_words : (found texts : List Word) → Some found ≡ Some texts → found ≡ texts
same_words found texts e = cc

pub returns-in-Some : goal.returns-in-Some
returns-in-Some c texts e =
    let given = same_words _ texts (c.in-Some.ensures ∙ raw_values-rows (found_of c.args.matches.now) c.args.id.now ∙ e) in
    IfOk-weaker c.to_vec.result _ _ (λ v h. ap (λ (ws : List (Bor Word)). map (λ w. w.now) ws) (h (λ x y same. same)) ∙ given)
    c.to_vec.ensures.items_if_clones_equal

none_is_some : (texts : List Word) → None ≡ Some texts → ⊥
none_is_some texts e = cc

pub returns-in-None : goal.returns-in-None
returns-in-None c texts e =
    absurd (none_is_some texts (c.in-None.ensures ∙ raw_values-rows (found_of c.args.matches.now) c.args.id.now ∙ e))
