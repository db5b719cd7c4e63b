-- Lists of viewers that are dealt from the end of all.
use Rattle.std.proofs.Common.{◌≡◌, ◌∙◌, ◌++◌, ◌∷◌, [], List, ap, append_assoc, subst, sym}
use Rattle.std.specs.Prelude.{Contains}
use Rattle.std.proofs.lemmas.List.Elements.{Contains-append_left, Contains-push}
use Rattle.board.specs.Views.{Viewing}

-- one list less is left, and it is dealt
pub still_dealt : (all before left dealt : List (List Viewing)) (viewers : List Viewing) → before ++ dealt ≡ all → before ≡ left ++ viewers ∷ []
    → left ++ viewers ∷ dealt ≡ all
still_dealt all before left dealt viewers whole more =
    sym (append_assoc left (viewers ∷ []) dealt) ∙ ap (λ (l : List (List Viewing)). l ++ dealt) (sym more) ∙ whole

pub was_dealt : (all before left dealt : List (List Viewing)) (viewers : List Viewing) → before ++ dealt ≡ all → before ≡ left ++ viewers ∷ []
    → Contains all viewers
was_dealt all before left dealt viewers whole more =
    subst (λ (l : List (List Viewing)). Contains l viewers) whole
    (Contains-append_left before dealt viewers (subst (λ (l : List (List Viewing)). Contains l viewers) (sym more) (Contains-push left viewers)))
