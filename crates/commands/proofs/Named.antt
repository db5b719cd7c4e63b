-- The names of a store's logs, one log at a time.
use Rattle.std.proofs.Common.{◌≡◌, ◌∙◌, ◌++◌, ◌∷◌, ◌+◌, [], ℕ, suc, List, map, ap, ap₂, arith, refl}
use Rattle.std.proofs.lemmas.List.{map-append}
use Rattle.command_line.specs.Lines.{Word}
use Rattle.commands.specs.Replies.{log_name, log_names}

pub none_named : (folder : Word) → [] ≡ log_names folder 0
unfolding log_names
none_named folder = refl

pub names_more : {X : Type 0} (bytes : X → Word) (folder : Word) (i : ℕ) (old new : List X) (name : X) → new ≡ old ++ name ∷ []
    → bytes name ≡ log_name folder i → map bytes old ≡ log_names folder i → map bytes new ≡ log_names folder (i + 1)
unfolding log_names
names_more bytes folder i old new name more is so_far =
    let next : suc i ≡ i + 1 = omega arith in
    ap (map bytes) more ∙ map-append bytes old (name ∷ []) ∙ ap₂ (λ (a : List Word) (b : Word). a ++ b ∷ []) so_far is
    ∙ ap (log_names folder) next
