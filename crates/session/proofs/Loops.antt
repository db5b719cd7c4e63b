-- Loops that add one for each member.
use Rattle.std.proofs.Common.{◌≡◌, ℕ, ◌+◌, ◌<◌, List, [], ◌∷◌, ◌++◌, length, map, drop, get_or, Option, None, Some, option_to_list, ap, sym, ◌∙◌, append_assoc}
use Rattle.std.proofs.Common.{add-one, drop-cons}
use Rattle.std.proofs.lemmas.List.{map-append}
use Rattle.std.specs.Prelude.{MatchOption}
use Rattle.units.specs.Keys.{Bytes}

-- with one more, the rest is that behind it
pub added : {A B : Type 0} (f : A → B) (xs : List A) (i : ℕ) (x : A) (ys zs : List B) → i < length xs → x ≡ get_or xs i x → zs ≡ ys ++ f x ∷ []
    → zs ++ map f (drop (i + 1) xs) ≡ ys ++ map f (drop i xs)
added f xs i x ys zs here is more =
    let rest : f x ∷ map f (drop (i + 1) xs) ≡ map f (drop i xs) =
    (λ j. f (is j) ∷ map f (drop (add-one i j) xs)) ∙ sym (ap (map f) (drop-cons xs i x here)) in
    ap (λ l. l ++ map f (drop (i + 1) xs)) more ∙ append_assoc ys (f x ∷ []) (map f (drop (i + 1) xs)) ∙ ap (λ l. ys ++ l) rest

one_or_none : {A : Type 0} (o : Option A) (xs : List A) → MatchOption o (xs ≡ []) (λ x. xs ≡ x ∷ []) → xs ≡ option_to_list o
one_or_none None xs h = h
one_or_none (Some x) xs h = h

-- the shards of some answers, of a doom and of keys, one behind the other
pub asked_in : (of : Bytes → ℕ) (answered : List ℕ) (doom : Option Bytes) (awaited dooms : List Bytes) (xs ys zs : List ℕ) → xs ≡ answered
    → MatchOption doom (dooms ≡ []) (λ k. dooms ≡ k ∷ []) → ys ≡ xs ++ map of dooms → zs ≡ ys ++ map of awaited
    → zs ≡ answered ++ map of (option_to_list doom ++ awaited)
asked_in of answered doom awaited dooms xs ys zs first one second third =
    third ∙ ap (λ l. l ++ map of awaited) (second ∙ (λ i. first i ++ map of (one_or_none doom dooms one i)))
    ∙ append_assoc answered (map of (option_to_list doom)) (map of awaited)
    ∙ ap (λ l. answered ++ l) (sym (map-append of (option_to_list doom) awaited))
