-- Numbers and lists put, and five things put behind one another.
use Rattle.std.proofs.Common.{◌≡◌, ◌++◌, ◌∷◌, [], ℕ, ◌+◌, ◌<◌, List, length, take, get_or, refl, sym, ap, subst, ◌∙◌, append_assoc}
use Rattle.std.specs.List.{AllByRecursion, flat_map}
use Rattle.std.proofs.lemmas.List.{take_more, append-nil}
use Rattle.std.proofs.lemmas.Grind.{flat_map-append}
use Rattle.record.specs.declared.record.Record.{Record}
use Rattle.record.specs.declared.record.Record.TheVariants as records
use Rattle.spelling.specs.Grammar.{spelling, kind, fields_spelling}

regroup : (out a b c d e : List ℕ) → ((((out ++ a) ++ b) ++ c) ++ d) ++ e ≡ out ++ ((((a ++ b) ++ c) ++ d) ++ e)
regroup out a b c d e = simp append_assoc

pub five_put : (out a b c d e o1 o2 o3 o4 o5 : List ℕ) → o1 ≡ out ++ a → o2 ≡ o1 ++ b → o3 ≡ o2 ++ c → o4 ≡ o3 ++ d → o5 ≡ o4 ++ e →
    o5 ≡ out ++ ((((a ++ b) ++ c) ++ d) ++ e)
five_put out a b c d e o1 o2 o3 o4 o5 h1 h2 h3 h4 h5 =
    h5 ∙ ap (λ (l : List ℕ). l ++ e) (h4 ∙ ap (λ (l : List ℕ). l ++ d) (h3 ∙ ap (λ (l : List ℕ). l ++ c) (h2 ∙ ap (λ (l : List ℕ). l ++ b) h1)))
    ∙ regroup out a b c d e

-- a number that is another
pub put_same : (spell : ℕ → List ℕ) (out new : List ℕ) (m n : ℕ) → m ≡ n → new ≡ out ++ spell m → new ≡ out ++ spell n
put_same spell out new m n same put = put ∙ ap (λ (k : ℕ). out ++ spell k) same

-- a thing behind its kind's byte
pub tagged : (tag : ℕ) (out kind new thing : List ℕ) → kind ≡ out ++ tag ∷ [] → new ≡ kind ++ thing → new ≡ out ++ tag ∷ thing
tagged tag out kind new thing first then =
    then ∙ ap (λ (l : List ℕ). l ++ thing) first ∙ append_assoc out (tag ∷ []) thing

pub kind_first : (r : Record) → kind r ∷ fields_spelling r ≡ spelling r
kind_first (records.Opened epoch) = refl
kind_first (records.Ceiling at) = refl
kind_first (records.Prepare p) = refl
kind_first (records.Commit c) = refl
kind_first (records.Abort txn) = refl
kind_first (records.Outcome txn outcome) = refl
kind_first (records.Horizon at) = refl
kind_first (records.Base epoch floor horizon) = refl
kind_first (records.Version install) = refl
kind_first (records.Settled txn at parts) = refl
kind_first (records.Closed txn coordinator outcome) = refl
kind_first (records.Retired below) = refl

three_regroup : (out a b c : List ℕ) → ((out ++ a) ++ b) ++ c ≡ out ++ ((a ++ b) ++ c)
three_regroup out a b c = simp append_assoc

pub three_put : (out a b c o1 o2 o3 : List ℕ) → o1 ≡ out ++ a → o2 ≡ o1 ++ b → o3 ≡ o2 ++ c → o3 ≡ out ++ ((a ++ b) ++ c)
three_put out a b c o1 o2 o3 h1 h2 h3 =
    h3 ∙ ap (λ (l : List ℕ). l ++ c) (h2 ∙ ap (λ (l : List ℕ). l ++ b) h1) ∙ three_regroup out a b c

-- one more of a list, behind its number
next : {A : Type 0} (xs : List A) (i : ℕ) (x : A) → i < length xs → x ≡ get_or xs i x → take (i + 1) xs ≡ take i xs ++ x ∷ []
next xs i x here is = take_more xs i x here ∙ ap (λ y. take i xs ++ y ∷ []) (sym is)

pub list_more : {A : Type 0} (spell : A → List ℕ) (front : List ℕ) (xs : List A) (i : ℕ) (x : A) (out old new : List ℕ) → i < length xs
    → x ≡ get_or xs i x → old ≡ out ++ (front ++ flat_map spell (take i xs)) → new ≡ old ++ spell x
    → new ≡ out ++ (front ++ flat_map spell (take (i + 1) xs))
list_more spell front xs i x out old new here is so_far more =
    let before = flat_map spell (take i xs) in
    let flat = ap (flat_map spell) (next xs i x here is) ∙ flat_map-append spell (take i xs) (x ∷ []) ∙ ap (λ b. before ++ b) (append-nil (spell x)) in
    more ∙ ap (λ l. l ++ spell x) so_far ∙ append_assoc out (front ++ before) (spell x)
    ∙ ap (λ l. out ++ l) (append_assoc front before (spell x) ∙ ap (λ l. front ++ l) (sym flat))

all_push : {A : Type 0} (P : A → Type 0) (ys : List A) (x : A) → AllByRecursion P ys → P x → AllByRecursion P (ys ++ x ∷ [])
all_push P [] x all one = (one, tt)
all_push P (y ∷ ys) x all one = (all.0, all_push P ys x all.1 one)

pub all_more : {A : Type 0} (P : A → Type 0) (xs : List A) (i : ℕ) (x : A) → i < length xs → x ≡ get_or xs i x → AllByRecursion P (take i xs) → P x
    → AllByRecursion P (take (i + 1) xs)
all_more P xs i x here is all one = subst (AllByRecursion P) (sym (next xs i x here is)) (all_push P (take i xs) x all one)
