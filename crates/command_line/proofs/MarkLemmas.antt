-- Options among words, one word after the other.
use Rattle.std.proofs.Common.{◌≡◌, ◌∙◌, ◌||◌, ◌≤◌, ◌++◌, append-nil, append_assoc, ℕ, ◌+◌, ◌<◌, suc, arith, Bool, true, false, not, refl, sym, ap, ap₂, List, [], ◌∷◌, length, map, drop, slice_index_or}
use Rattle.std.proofs.Common.{codes, Bor, cond, true≢false}
use Rattle.std.specs.List.{list_any, take_while}
use Rattle.std.specs.Str.{bytes_eq}
use Rattle.std.proofs.lemmas.List.Sums.{take_while-cons}
use Rattle.std.proofs.Math.ListN.{drop_of_length-le}
use Rattle.std.proofs.Math.Seq.{drop-cons}
use Rattle.std.proofs.lemmas.List.{map-append}
use Rattle.std.specs.Prelude.{if◌then◌else◌}
use Rattle.command_line.specs.Lines.{Word, has_mark, is_ahead, is_mark, unmarked_from}

-- ---- an option

-- a word that does not end the options
one_word : (mark word : Word) (words : List Word) → bytes_eq word (codes "--") ≡ false
    → has_mark mark (word ∷ words) ≡ (bytes_eq word mark || has_mark mark words)
one_word mark word words ahead =
    ap (list_any (λ w. bytes_eq w mark)) (take_while-cons is_ahead word words)
    ∙ ap (λ b. list_any (λ w. bytes_eq w mark) (cond (not b) (word ∷ take_while is_ahead words) [])) ahead

-- the words from a place on
abbrev pub has_from : Word → List (Bor Word) → ℕ → Bool
has_from mark words i = has_mark mark (map (λ w. w.now) (drop i words))

-- the word there and those behind it
from_word : (mark : Word) (words : List (Bor Word)) (i : ℕ) (d : Bor Word) → i < length words
    → bytes_eq (slice_index_or words i d).now (codes "--") ≡ false
    → has_from mark words i ≡ (bytes_eq (slice_index_or words i d).now mark || has_from mark words (i + 1))
from_word mark words i d small ahead =
    let next : suc i ≡ i + 1 = omega arith in
    ap (λ ws. has_mark mark (map (λ w. w.now) ws)) (drop-cons words i d small)
    ∙ one_word mark (slice_index_or words i d).now (map (λ w. w.now) (drop (suc i) words)) ahead
    ∙ ap (λ n. bytes_eq (slice_index_or words i d).now mark || has_from mark words n) next

-- a word that is the option, and one that is not
pub mark_here : (mark : Word) (words : List (Bor Word)) (i : ℕ) (d : Bor Word) → i < length words
    → bytes_eq (slice_index_or words i d).now (codes "--") ≡ false
    → bytes_eq (slice_index_or words i d).now mark ≡ true → has_from mark words i ≡ true
mark_here mark words i d small ahead is = from_word mark words i d small ahead ∙ ap (λ b. b || has_from mark words (i + 1)) is

pub mark_behind : (mark : Word) (words : List (Bor Word)) (i : ℕ) (d : Bor Word) → i < length words
    → bytes_eq (slice_index_or words i d).now (codes "--") ≡ false
    → bytes_eq (slice_index_or words i d).now mark ≡ false → has_from mark words i ≡ has_from mark words (i + 1)
mark_behind mark words i d small ahead other = from_word mark words i d small ahead ∙ ap (λ b. b || has_from mark words (i + 1)) other

-- ---- the other words

-- those from a place on, where an end was read or not
abbrev pub left_from : Bool → List (Bor Word) → ℕ → List Word
left_from ended words i = unmarked_from ended (map (λ w. w.now) (drop i words))

-- one word, by whether the options have ended with it and whether it is one
abbrev by_word : (ended mark : Bool) (word : Word) (words : List Word) → List Word
by_word ended mark word words =
    if ended then word ∷ unmarked_from true words else (if mark then unmarked_from false words else word ∷ unmarked_from false words)

kept : (ended mark : Bool) (word : Word) (words : List Word) → (ended || not mark) ≡ true
    → by_word ended mark word words ≡ word ∷ unmarked_from ended words
kept true mark word words e = refl
kept false true word words e = absurd (true≢false (sym e))
kept false false word words e = refl

left_out : (ended mark : Bool) (word : Word) (words : List Word) → (ended || not mark) ≡ false
    → by_word ended mark word words ≡ unmarked_from ended words
left_out true mark word words e = absurd (true≢false e)
left_out false true word words e = refl
left_out false false word words e = absurd (true≢false e)

module _ (ended now : Bool) (words : List (Bor Word)) (i : ℕ) (d : Bor Word) (small : i < length words)
    (ends : now ≡ (ended || bytes_eq (slice_index_or words i d).now (codes "--")))
  where
    abbrev here : Word
    here = (slice_index_or words i d).now

    split : left_from ended words i ≡ by_word now (is_mark here) here (map (λ w. w.now) (drop (i + 1) words))
    unfolding unmarked_from
    split =
        let next : suc i ≡ i + 1 = omega arith in
        ap (λ ws. unmarked_from ended (map (λ w. w.now) ws)) (drop-cons words i d small)
        ∙ ap₂ (λ b n. by_word b (is_mark here) here (map (λ w. w.now) (drop n words))) (sym ends) next

    pub word_kept : (now || not (is_mark here)) ≡ true → left_from ended words i ≡ here ∷ left_from now words (i + 1)
    word_kept is = split ∙ kept now (is_mark here) here (map (λ w. w.now) (drop (i + 1) words)) is

    pub word_left : (now || not (is_mark here)) ≡ false → left_from ended words i ≡ left_from now words (i + 1)
    word_left is = split ∙ left_out now (is_mark here) here (map (λ w. w.now) (drop (i + 1) words)) is

-- one word more was kept
pub one_more_kept : (old new : List (Bor Word)) (w : Bor Word) (rest all : List Word) → new ≡ old ++ w ∷ []
    → map (λ w. w.now) old ++ w.now ∷ rest ≡ all → map (λ w. w.now) new ++ rest ≡ all
one_more_kept old new w rest all is e =
    ap (λ (ws : List (Bor Word)). map (λ w. w.now) ws ++ rest) is
    ∙ ap (λ (xs : List Word). xs ++ rest) (map-append (λ (w : Bor Word). w.now) old (w ∷ []))
    ∙ append_assoc (map (λ w. w.now) old) (w.now ∷ []) rest
    ∙ e

-- and no word is left
pub none_is_left : (ended : Bool) (words : List (Bor Word)) (i : ℕ) (plain all : List Word) → length words ≤ i
    → plain ++ left_from ended words i ≡ all → plain ≡ all
unfolding unmarked_from
none_is_left ended words i plain all over e =
    sym (append-nil plain)
    ∙ ap (λ (ws : List (Bor Word)). plain ++ unmarked_from ended (map (λ w. w.now) ws)) (sym (drop_of_length-le words over))
    ∙ e
