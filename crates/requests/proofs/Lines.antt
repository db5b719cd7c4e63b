-- A line is one word, or a word, a blank and a line.
use Rattle.std.proofs.Common.{◌≡◌, refl, sym, ap, ◌∙◌, arith, ℕ, ◌==◌, ◌<◌, List, [], ◌∷◌, ◌++◌, false, length}
use Rattle.std.proofs.Common.{append_assoc}
use Rattle.std.specs.List.{All, after_first, before_first, position_or_len, slice_split}
use Rattle.std.proofs.lemmas.List.Sums.{fails_before_first}
use Rattle.std.proofs.lemmas.List.Splits.{slice_split_first, slice_split_none}
use Rattle.std.proofs.lemmas.Grind.{common_steps}
use Rattle.requests.specs.Requests.{Word, words_of}

pub one_more : (done : List Word) (all : List Word) (word behind rest : List ℕ) (line : List Word) → all ≡ done ++ word ∷ [] → word ≡ before_first (λ c. c == 32) rest
    → behind ≡ after_first (λ c. c == 32) rest → position_or_len (λ c. c == 32) rest < length rest → done ++ words_of rest ≡ line
    → all ++ words_of behind ≡ line
one_more done all word behind rest line whole front back here is =
    ap (λ ws. ws ++ words_of behind) whole ∙ (append_assoc done (word ∷ []) (words_of behind)
    ∙ (ap (λ ws. done ++ ws) (rw (front, back) (sym (slice_split_first (λ c. c == 32) rest 0 here))) ∙ is))

none_passes : (rest : List ℕ) → position_or_len (λ c. c == 32) rest ≡ length rest → All (λ c. (c == 32) ≡ false) rest
none_passes rest none = λ k e m. let at = fails_before_first (λ c. c == 32) rest k e (grind (arith, common_steps)) in grind (arith, common_steps)

pub last_one : (done all : List Word) (rest : List ℕ) (line : List Word) → all ≡ done ++ rest ∷ [] → position_or_len (λ c. c == 32) rest ≡ length rest
    → done ++ words_of rest ≡ line → all ≡ line
last_one done all rest line whole none is = whole ∙ (ap (λ ws. done ++ ws) (sym (slice_split_none (λ c. c == 32) rest (none_passes rest none))) ∙ is)
