-- Steps of a loop that puts in what each member of a list gives.
use Rattle.std.specs.Prelude.{option_to_list}
use Rattle.std.proofs.Common.{◌≡◌, ◌∙◌, ◌++◌, ◌+◌, ◌<◌, ℕ, Bool, false, List, [], ◌∷◌, Option, Some, None, add-one, ap, append-nil, append_assoc, drop, get_or}
use Rattle.std.proofs.Common.{length, refl, sym}
use Rattle.std.proofs.lemmas.List.{at_drop_more}
use Rattle.units.specs.Lists.{first, gather, numbered}

-- the next member, as it is read
pub at_member : {A B : Type 0} (f : List A → B) (xs : List A) (i : ℕ) (x : A) → i < length xs → x ≡ get_or xs i x
    → f (drop i xs) ≡ f (x ∷ drop (i + 1) xs)
at_member f xs i x lt is = at_drop_more f xs i x lt ∙ ap (λ y. f (y ∷ drop (i + 1) xs)) (sym is)

-- what the next member gives is put in
pub put_more : {B : Type 0} (found more next rest left all : List B) → next ≡ found ++ more → rest ≡ more ++ left → found ++ rest ≡ all
    → next ++ left ≡ all
put_more found more next rest left all puts gives known =
    ap (λ l. l ++ left) puts ∙ append_assoc found more left ∙ ap (λ l. found ++ l) (sym gives) ∙ known

-- no member is left
pub put_all : {B : Type 0} (found rest all : List B) → rest ≡ [] → found ++ rest ≡ all → found ≡ all
put_all found rest all none known = sym (append-nil found) ∙ ap (λ l. found ++ l) (sym none) ∙ known

pub gather_step : {A B : Type 0} (f : A → Option B) (x : A) (xs : List A) (o : Option B) → f x ≡ o → gather f (x ∷ xs) ≡ option_to_list o ++ gather f xs
gather_step f x xs None e = rw (e, gather) refl
gather_step f x xs (Some y) e = rw (e, gather) refl

-- what is made of the next member is put in, where there is one
pub put_made : {A B : Type 0} (f : A → Option B) (xs : List A) (i : ℕ) (x : A) (o : Option B) (found next all : List B) → i < length xs
    → x ≡ get_or xs i x → f x ≡ o → next ≡ found ++ option_to_list o → found ++ gather f (drop i xs) ≡ all → next ++ gather f (drop (i + 1) xs) ≡ all
put_made f xs i x o found next all lt is made puts known =
    put_more found (option_to_list o) next (gather f (drop i xs)) (gather f (drop (i + 1) xs)) all puts
    (at_member (gather f) xs i x lt is ∙ gather_step f x (drop (i + 1) xs) o made) known

-- a member that fails the test is not the first, and of one of which nothing is made nothing is gathered
pub not_first : {A : Type 0} (test : ℕ × A → Bool) (n : ℕ) (x : A) (xs : List A) → test (n, x) ≡ false
    → first test (numbered n (x ∷ xs)) ≡ first test (numbered (n + 1) xs)
not_first test n x xs fails = rw fails (ap (λ k. first test (numbered k xs)) (sym (add-one n)))

pub not_gathered : {A B : Type 0} (f : ℕ × A → Option B) (n : ℕ) (x : A) (xs : List A) → f (n, x) ≡ None
    → gather f (numbered n (x ∷ xs)) ≡ gather f (numbered (n + 1) xs)
not_gathered f n x xs none = rw none (ap (λ k. gather f (numbered k xs)) (sym (add-one n)))
