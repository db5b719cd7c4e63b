-- What stands in pieces is looked up, put in and cut off.
use Rattle.std.proofs.Common.{◌≡◌, ℕ, zero, suc, ◌+◌, ◌-◌, ◌*◌, ◌<◌, ◌≤◌, Bool, true, false, nat_lt, List, [], ◌∷◌, ◌++◌, length, take, drop, get_or, set}
use Rattle.std.proofs.Common.{refl, sym, ap, subst, ◌∙◌, arith}
use Rattle.std.specs.List.{insert}
use Rattle.std.proofs.lemmas.Bool.Decides.{nat_tests}
use Rattle.std.proofs.lemmas.List.{append_assoc, length-append, length-take, length-drop, length-set, get_or_append_left, get_or-append_right, get_or-map}
use Rattle.std.proofs.lemmas.List.{set-append_left, set-append_right, take-append-drop}
use Rattle.std.proofs.lemmas.List.Edits.{insert-append_left, insert-append_right}
use Rattle.versions.specs.declared.chunk.Spot.{Spot}
use Rattle.versions.specs.Pieces.{heads_of, last_head, joined, ends_from, start_by, raised, divided, IsFilled, IsLaid, IsWithin}

-- ---- where a piece starts

abbrev pub start : List (List Spot) → ℕ → ℕ
start [] n = 0
start (p ∷ ps) zero = 0
start (p ∷ ps) (suc n) = length p + start ps n

start-none : (ps : List (List Spot)) → start ps 0 ≡ 0
start-none [] = refl
start-none (p ∷ ps) = refl

pub start-all : (ps : List (List Spot)) → start ps (length ps) ≡ length (joined ps)
start-all [] = refl
start-all (p ∷ ps) = omega (arith, start-all ps, length-append p (joined ps))

pub start-next : (ps : List (List Spot)) (n : ℕ) (e : List Spot) → n < length ps → start ps (suc n) ≡ start ps n + length (get_or ps n e)
start-next [] n e lt = absurd (omega (arith, lt))
start-next (p ∷ ps) zero e lt = omega (arith, start-none ps)
start-next (p ∷ ps) (suc n) e lt = omega (arith, start-next ps n e (omega (arith, lt)))

pub start-within : (ps : List (List Spot)) (n : ℕ) (e : List Spot) → n < length ps → start ps n + length (get_or ps n e) ≤ length (joined ps)
start-within [] n e lt = absurd (omega (arith, lt))
start-within (p ∷ ps) zero e lt = omega (arith, length-append p (joined ps))
start-within (p ∷ ps) (suc n) e lt = omega (arith, start-within ps n e (omega (arith, lt)), length-append p (joined ps))

pub length-ends : (ps : List (List Spot)) (k : ℕ) → length (ends_from k ps) ≡ length ps
length-ends [] k = refl
length-ends (p ∷ ps) k = ap suc (length-ends ps (length p + k))

end-is : (ps : List (List Spot)) (n k : ℕ) → n < length ps → get_or (ends_from k ps) n 0 ≡ start ps (suc n) + k
end-is [] n k lt = absurd (omega (arith, lt))
end-is (p ∷ ps) zero k lt = omega (arith, start-none ps)
end-is (p ∷ ps) (suc n) k lt = omega (arith, end-is ps n (length p + k) (omega (arith, lt)))

pub start-is : (ps : List (List Spot)) (n : ℕ) → n ≤ length ps → start_by (ends_from 0 ps) n ≡ start ps n
start-is ps zero le = sym (start-none ps)
start-is ps (suc n) le = omega (arith, end-is ps n 0 (omega (arith, le)))

-- where all of some pieces end
pub start-end : (ps : List (List Spot)) (es : List ℕ) → es ≡ ends_from 0 ps → start_by es (length ps) ≡ length (joined ps)
start-end ps es is = ap (λ (e : List ℕ). start_by e (length ps)) is ∙ start-is ps (length ps) (omega arith) ∙ start-all ps

pub end-within : (ps : List (List Spot)) (n : ℕ) → n < length ps → get_or (ends_from 0 ps) n 0 ≤ length (joined ps)
end-within ps n lt = omega (arith, end-is ps n 0 lt, start-next ps n [] lt, start-within ps n [] lt)

-- what a search by the ends finds
pub record Found (ps : List (List Spot)) (at number : ℕ) : Type 0 where
  pub there : number < length ps
  pub from : start ps number ≤ at
  pub less : 0 < at → start ps number < at
  pub to : at ≤ start ps number + length (get_or ps number [])

pub found : (ps : List (List Spot)) (at number : ℕ) → 0 < length ps → at ≤ length (joined ps) → number ≤ length ps
    → (0 < number → get_or (ends_from 0 ps) (number - 1) 0 < at) → (number < length ps → at ≤ get_or (ends_from 0 ps) number 0) → Found ps at number
found ps at zero some le within below first = record {
  there = some;
  from = omega (arith, start-none ps);
  less = λ more. omega (arith, start-none ps, more);
  to = omega (arith, first some, end-is ps 0 0 some, start-next ps 0 [] some);
}
found ps at (suc n) some le within below first =
    let less : suc n - 1 ≡ n = omega arith in
    let under : start ps (suc n) < at =
    omega (arith, below (omega arith), ap (λ m. get_or (ends_from 0 ps) m 0) less, end-is ps n 0 (omega (arith, within))) in
    let there = by_test (nat_lt (suc n) (length ps)) refl under in
    record {
      there = there;
      from = omega (arith, under);
      less = λ more. under;
      to = omega (arith, first there, end-is ps (suc n) 0 there, start-next ps (suc n) [] there);
    }
  where
    by_test : (b : Bool) → nat_lt (suc n) (length ps) ≡ b → start ps (suc n) < at → suc n < length ps
    by_test true e under = grind (arith, nat_tests)
    by_test false e under =
        let more : length ps ≤ suc n = grind (arith, nat_tests) in
        let same : suc n ≡ length ps = omega (arith, more, within) in
        absurd (omega (arith, under, le, ap (start ps) same, start-all ps))

pub some_pieces : (ps : List (List Spot)) → 0 < length (joined ps) → 0 < length ps
some_pieces [] some = absurd (omega (arith, some))
some_pieces (p ∷ ps) some = omega arith

-- so the piece of a place that is there, and the place in it
pub record IsAt (ps : List (List Spot)) (es : List ℕ) (at number : ℕ) : Type 0 where
  pub there : number < length ps
  pub begins : start_by es number ≡ start ps number
  pub from : start ps number ≤ at
  pub to : at < start ps number + length (get_or ps number [])

pub found_at : (ps : List (List Spot)) (es : List ℕ) (at number : ℕ) → es ≡ ends_from 0 ps → at < length (joined ps) → number ≤ length es
    → (0 < number → get_or es (number - 1) 0 < at + 1) → (number < length es → at + 1 ≤ get_or es number 0) → IsAt ps es at number
found_at ps es at number is lt within below first =
    let long : length es ≡ length ps = ap length is ∙ length-ends ps 0 in
    let f = found ps (at + 1) number (some_pieces ps (omega (arith, lt))) (omega (arith, lt)) (omega (arith, within, long))
    (subst (λ (e : List ℕ). 0 < number → get_or e (number - 1) 0 < at + 1) is below)
    (λ there. subst (λ (e : List ℕ). at + 1 ≤ get_or e number 0) is (first (omega (arith, there, long)))) in
    record {
      there = f.there;
      begins = ap (λ (e : List ℕ). start_by e number) is ∙ start-is ps number (omega (arith, f.there));
      from = omega (arith, f.less (omega arith));
      to = omega (arith, f.to);
    }

-- where one more goes
pub found_for : (ps : List (List Spot)) (es : List ℕ) (at number : ℕ) → es ≡ ends_from 0 ps → 0 < length ps → at ≤ length (joined ps) → number ≤ length es
    → (0 < number → get_or es (number - 1) 0 < at) → (number < length es → at ≤ get_or es number 0) → (number < length ps) × IsWithin ps number at
found_for ps es at number is some le within below first =
    let long : length es ≡ length ps = ap length is ∙ length-ends ps 0 in
    let f = found ps at number some le (omega (arith, within, long)) (subst (λ (e : List ℕ). 0 < number → get_or e (number - 1) 0 < at) is below)
    (λ there. subst (λ (e : List ℕ). at ≤ get_or e number 0) is (first (omega (arith, there, long)))) in
    let begins = start-is ps number (omega (arith, f.there)) in
    (f.there, record { from = omega (arith, begins, f.from); to = omega (arith, begins, f.to) })

-- a search finds no piece only where there is none
pub none_found : (ps : List (List Spot)) (es : List ℕ) (at number : ℕ) → es ≡ ends_from 0 ps → at ≤ length (joined ps) → number ≤ length es
    → (0 < number → get_or es (number - 1) 0 < at) → (number < length es → at ≤ get_or es number 0) → length ps ≤ number → length ps ≡ 0
none_found [] es at number is le within below first more = refl
none_found (p ∷ ps) es at number is le within below first more =
    absurd (omega (arith, (found_for (p ∷ ps) es at number is (omega arith) le within below first).0, more))

-- the piece that a look-up gives
pub any_default : (ps : List (List Spot)) (n : ℕ) (p q : List Spot) → n < length ps → get_or ps n p ≡ get_or ps n q
any_default [] n p q there = absurd (omega (arith, there))
any_default (r ∷ ps) zero p q there = refl
any_default (r ∷ ps) (suc n) p q there = any_default ps n p q (omega (arith, there))

pub piece_is : (ps : List (List Spot)) (n : ℕ) (p : List Spot) → n < length ps → p ≡ get_or ps n p → p ≡ get_or ps n []
piece_is ps n p there is = is ∙ any_default ps n p [] there

-- ---- one is read, or written over

pub get_there : (ps : List (List Spot)) (n j : ℕ) (d : Spot) → n < length ps → j < length (get_or ps n [])
    → get_or (joined ps) (start ps n + j) d ≡ get_or (get_or ps n []) j d
get_there [] n j d there lt = absurd (omega (arith, there))
get_there (p ∷ ps) zero j d there lt =
    let same : 0 + j ≡ j = omega arith in
    ap (λ m. get_or (p ++ joined ps) m d) same ∙ get_or_append_left p (joined ps) d j lt
get_there (p ∷ ps) (suc n) j d there lt =
    let same : length p + start ps n + j - length p ≡ start ps n + j = omega arith in
    get_or-append_right p (joined ps) (length p) (length p + start ps n + j) d refl (omega arith)
    ∙ ap (λ m. get_or (joined ps) m d) same
    ∙ get_there ps n j d (omega (arith, there)) lt

pub set_there : (ps : List (List Spot)) (n j : ℕ) (x : Spot) → n < length ps → j < length (get_or ps n [])
    → joined (set ps n (set (get_or ps n []) j x)) ≡ set (joined ps) (start ps n + j) x
set_there [] n j x there lt = absurd (omega (arith, there))
set_there (p ∷ ps) zero j x there lt =
    let same : j ≡ 0 + j = omega arith in
    sym (set-append_left p (joined ps) j x lt) ∙ ap (λ m. set (p ++ joined ps) m x) same
set_there (p ∷ ps) (suc n) j x there lt =
    let same : start ps n + j ≡ length p + start ps n + j - length p = omega arith in
    ap (λ l. p ++ l) (set_there ps n j x (omega (arith, there)) lt ∙ ap (λ m. set (joined ps) m x) same)
    ∙ sym (set-append_right p (joined ps) (length p) (length p + start ps n + j) x refl (omega arith))

-- a piece that is as long as before
filled_by : (p q rest more : List Spot) → length q ≡ length p → length more ≡ length rest → IsFilled p rest → IsFilled q more
filled_by p q rest more same still is = record {
  some = omega (arith, same, is.some);
  few = omega (arith, same, is.few);
  half = λ later. omega (arith, same, is.half (omega (arith, still, later)));
}

length-joined : (ps : List (List Spot)) (n : ℕ) (q : List Spot) → n < length ps
    → length (joined (set ps n q)) + length (get_or ps n []) ≡ length (joined ps) + length q
length-joined [] n q there = absurd (omega (arith, there))
length-joined (p ∷ ps) zero q there = omega (arith, length-append p (joined ps), length-append q (joined ps))
length-joined (p ∷ ps) (suc n) q there =
    omega (arith, length-append p (joined ps), length-append p (joined (set ps n q)), length-joined ps n q (omega (arith, there)))

pub laid_set : (ps : List (List Spot)) (n : ℕ) (q : List Spot) → n < length ps → length q ≡ length (get_or ps n []) → IsLaid ps → IsLaid (set ps n q)
laid_set [] n q there same laid = absurd (omega (arith, there))
laid_set (p ∷ ps) zero q there same laid = (filled_by p q (joined ps) (joined ps) same refl laid.0, laid.1)
laid_set (p ∷ ps) (suc n) q there same laid =
    let still : length (joined (set ps n q)) ≡ length (joined ps) = omega (arith, length-joined ps n q (omega (arith, there)), same) in
    (filled_by p p (joined ps) (joined (set ps n q)) refl still laid.0, laid_set ps n q (omega (arith, there)) same laid.1)

pub ends_set : (ps : List (List Spot)) (n k : ℕ) (q : List Spot) → length q ≡ length (get_or ps n []) → n < length ps
    → ends_from k (set ps n q) ≡ ends_from k ps
ends_set [] n k q same there = absurd (omega (arith, there))
ends_set (p ∷ ps) zero k q same there = ap (λ m. (m + k) ∷ ends_from (m + k) ps) same
ends_set (p ∷ ps) (suc n) k q same there = ap (λ l. (length p + k) ∷ l) (ends_set ps n (length p + k) q same (omega (arith, there)))

-- a place is written over in its piece
pub record IsSet (ps qs : List (List Spot)) (at : ℕ) (spot : Spot) : Type 0 where
  pub spots : joined qs ≡ set (joined ps) at spot
  pub laid : IsLaid qs
  pub ends : ends_from 0 ps ≡ ends_from 0 qs
  pub long : length (joined ps) ≡ length (joined qs)

pub set_at : (ps : List (List Spot)) (es : List ℕ) (at number s : ℕ) (p q : List Spot) (spot : Spot) → IsLaid ps → IsAt ps es at number
    → s ≡ start ps number → p ≡ get_or ps number [] → q ≡ set p (at - s) spot → IsSet ps (set ps number q) at spot
set_at ps es at number s p q spot laid f begins is made =
    let written : q ≡ set (get_or ps number []) (at - s) spot = made ∙ ap (λ (r : List Spot). set r (at - s) spot) is in
    let there : start ps number + (at - s) ≡ at = omega (arith, begins, f.from) in
    let spots : joined (set ps number q) ≡ set (joined ps) at spot =
    ap (λ (r : List Spot). joined (set ps number r)) written
    ∙ set_there ps number (at - s) spot f.there (omega (arith, begins, f.from, f.to))
    ∙ ap (λ (m : ℕ). set (joined ps) m spot) there in
    let same : length q ≡ length (get_or ps number []) = ap length written ∙ length-set (get_or ps number []) (at - s) spot in
    record {
      spots = spots;
      laid = laid_set ps number q f.there same laid;
      ends = sym (ends_set ps number 0 q same f.there);
      long = sym (ap length spots ∙ length-set (joined ps) at spot);
    }

-- ---- heads

no_spot : Spot
no_spot = record { place = 0; head = 0 }

pub head_there : (ps : List (List Spot)) (n j : ℕ) → n < length ps → j < length (get_or ps n [])
    → get_or (heads_of (joined ps)) (start ps n + j) 0 ≡ get_or (heads_of (get_or ps n [])) j 0
head_there ps n j there lt =
    get_or-map (λ s. s.head) (joined ps) (start ps n + j) no_spot 0 (omega (arith, start-within ps n [] there, lt))
    ∙ ap (λ (s : Spot). s.head) (get_there ps n j no_spot there lt)
    ∙ sym (get_or-map (λ s. s.head) (get_or ps n []) j no_spot 0 lt)

pub some_there : (ps : List (List Spot)) (n : ℕ) → IsLaid ps → n < length ps → 0 < length (get_or ps n [])
some_there [] n laid there = absurd (omega (arith, there))
some_there (p ∷ ps) zero laid there = laid.0.some
some_there (p ∷ ps) (suc n) laid there = some_there ps n laid.1 (omega (arith, there))

-- before the place where a piece begins stands the last of the former
pub last_before : (ps : List (List Spot)) (n : ℕ) → IsLaid ps → n < length ps
    → get_or (heads_of (joined ps)) (start ps (suc n) - 1) 0 ≡ last_head (get_or ps n [])
last_before ps n laid there =
    let some = some_there ps n laid there in
    let same : start ps (suc n) - 1 ≡ start ps n + (length (get_or ps n []) - 1) = omega (arith, start-next ps n [] there, some) in
    ap (λ m. get_or (heads_of (joined ps)) m 0) same ∙ head_there ps n (length (get_or ps n []) - 1) there (omega (arith, some))

-- a search for a head by pieces, and then in one
module _ (ps : List (List Spot)) (n head : ℕ) (laid : IsLaid ps) (below : 0 < n → last_head (get_or ps (n - 1) []) < head) where
  pub head_before : n ≤ length ps → 0 < start ps n → get_or (heads_of (joined ps)) (start ps n - 1) 0 < head
  head_before = by n below
    where
      by : (n : ℕ) → (0 < n → last_head (get_or ps (n - 1) []) < head) → n ≤ length ps → 0 < start ps n
          → get_or (heads_of (joined ps)) (start ps n - 1) 0 < head
      by zero below le some = absurd (omega (arith, some, start-none ps))
      by (suc m) below le some =
          let less : suc m - 1 ≡ m = omega arith in
          omega (
            arith,
            last_before ps m laid (omega (arith, le)),
            ap (λ k. last_head (get_or ps k [])) less,
            below (omega arith),
          )

  pub head_below : (j : ℕ) → n < length ps → j ≤ length (get_or ps n []) → (0 < j → get_or (heads_of (get_or ps n [])) (j - 1) 0 < head)
      → 0 < start ps n + j → get_or (heads_of (joined ps)) (start ps n + j - 1) 0 < head
  head_below zero there le here some =
      let same : start ps n + zero - 1 ≡ start ps n - 1 = omega arith in
      omega (arith, ap (λ m. get_or (heads_of (joined ps)) m 0) same, head_before (omega (arith, there)) (omega (arith, some)))
  head_below (suc j) there le here some =
      let same : start ps n + suc j - 1 ≡ start ps n + j = omega arith in
      let less : suc j - 1 ≡ j = omega arith in
      omega (
        arith,
        ap (λ m. get_or (heads_of (joined ps)) m 0) same,
        head_there ps n j there (omega (arith, le)),
        ap (λ m. get_or (heads_of (get_or ps n [])) m 0) less,
        here (omega arith),
      )

pub head_first : (ps : List (List Spot)) (n j head : ℕ) → IsLaid ps → n < length ps → head ≤ last_head (get_or ps n []) → j ≤ length (get_or ps n [])
    → (0 < j → get_or (heads_of (get_or ps n [])) (j - 1) 0 < head)
    → (j < length (get_or ps n []) → head ≤ get_or (heads_of (get_or ps n [])) j 0)
    → head ≤ get_or (heads_of (joined ps)) (start ps n + j) 0
head_first ps n j head laid there last le before here = by_test (nat_lt j (length (get_or ps n []))) refl
  where
    by_test : (b : Bool) → nat_lt j (length (get_or ps n [])) ≡ b → head ≤ get_or (heads_of (joined ps)) (start ps n + j) 0
    by_test true e =
        let lt : j < length (get_or ps n []) = grind (arith, nat_tests) in
        omega (arith, head_there ps n j there lt, here lt)
    by_test false e =
        let more : length (get_or ps n []) ≤ j = grind (arith, nat_tests) in
        let same : j ≡ length (get_or ps n []) = omega (arith, more, le) in
        absurd (omega (
          arith,
          last,
          before (omega (arith, some_there ps n laid there, same)),
          ap (λ m. get_or (heads_of (get_or ps n [])) (m - 1) 0) same,
        ))

-- ---- one more in a piece that is not full

pub insert_there : (ps : List (List Spot)) (n j : ℕ) (x : Spot) → n < length ps → j ≤ length (get_or ps n [])
    → joined (set ps n (insert (get_or ps n []) j x)) ≡ insert (joined ps) (start ps n + j) x
insert_there [] n j x there le = absurd (omega (arith, there))
insert_there (p ∷ ps) zero j x there le =
    let same : j ≡ 0 + j = omega arith in
    sym (insert-append_left p (joined ps) j x le) ∙ ap (λ m. insert (p ++ joined ps) m x) same
insert_there (p ∷ ps) (suc n) j x there le =
    let same : start ps n + j ≡ length p + start ps n + j - length p = omega arith in
    ap (λ l. p ++ l) (insert_there ps n j x (omega (arith, there)) le ∙ ap (λ m. insert (joined ps) m x) same)
    ∙ sym (insert-append_right p (joined ps) (length p) (length p + start ps n + j) x refl (omega arith))

pub laid_more : (ps : List (List Spot)) (n : ℕ) (q : List Spot) → n < length ps → length q ≡ suc (length (get_or ps n [])) → length q ≤ 1024 → IsLaid ps
    → IsLaid (set ps n q)
laid_more [] n q there more few laid = absurd (omega (arith, there))
laid_more (p ∷ ps) zero q there more few laid =
    (record { some = omega (arith, more); few = few; half = λ later. omega (arith, more, laid.0.half later) }, laid.1)
laid_more (p ∷ ps) (suc n) q there more few laid =
    let lt : n < length ps = omega (arith, there) in
    let later : 0 < length (joined ps) = omega (arith, start-within ps n [] lt, some_there ps n laid.1 lt) in (
      record { some = laid.0.some; few = laid.0.few; half = λ rest. laid.0.half later },
      laid_more ps n q lt more few laid.1,
    )

raised-all : (ps : List (List Spot)) (k : ℕ) → ends_from (suc k) ps ≡ raised 0 (length ps) (ends_from k ps)
raised-all [] k = refl
raised-all (p ∷ ps) k =
    let same : length p + suc k ≡ suc (length p + k) = omega arith in
    ap (λ m. m ∷ ends_from m ps) same ∙ ap (λ l. suc (length p + k) ∷ l) (raised-all ps (length p + k))

pub ends_more : (ps : List (List Spot)) (n k : ℕ) (q : List Spot) → n < length ps → length q ≡ suc (length (get_or ps n []))
    → ends_from k (set ps n q) ≡ raised n (length ps) (ends_from k ps)
ends_more [] n k q there more = absurd (omega (arith, there))
ends_more (p ∷ ps) zero k q there more =
    let same : length q + k ≡ suc (length p + k) = omega (arith, more) in
    ap (λ m. m ∷ ends_from m ps) same ∙ ap (λ l. suc (length p + k) ∷ l) (raised-all ps (length p + k))
ends_more (p ∷ ps) (suc n) k q there more = ap (λ l. (length p + k) ∷ l) (ends_more ps n (length p + k) q (omega (arith, there)) more)

-- a loop that raises one end after another
pub raised-none : (n : ℕ) (es : List ℕ) → raised n n es ≡ es
raised-none n [] = refl
raised-none zero (e ∷ es) = refl
raised-none (suc n) (e ∷ es) = ap (λ l. e ∷ l) (raised-none n es)

pub length-raised : (from to : ℕ) (es : List ℕ) → length (raised from to es) ≡ length es
length-raised from to [] = refl
length-raised zero zero (e ∷ es) = refl
length-raised (suc from) zero (e ∷ es) = refl
length-raised zero (suc to) (e ∷ es) = ap suc (length-raised zero to es)
length-raised (suc from) (suc to) (e ∷ es) = ap suc (length-raised from to es)

pub not_raised : (from to : ℕ) (es : List ℕ) → from ≤ to → get_or (raised from to es) to 0 ≡ get_or es to 0
not_raised from to [] le = refl
not_raised zero zero (e ∷ es) le = refl
not_raised (suc from) zero (e ∷ es) le = absurd (omega (arith, le))
not_raised zero (suc to) (e ∷ es) le = not_raised zero to es (omega arith)
not_raised (suc from) (suc to) (e ∷ es) le = not_raised from to es (omega (arith, le))

pub raised-more : (from to x : ℕ) (es : List ℕ) → from ≤ to → to < length es → x ≡ suc (get_or es to 0)
    → set (raised from to es) to x ≡ raised from (suc to) es
raised-more from to x [] le lt is = absurd (omega (arith, lt))
raised-more zero zero x (e ∷ es) le lt is = ap (λ n. n ∷ es) is ∙ ap (λ l. suc e ∷ l) (sym (raised-none 0 es))
raised-more (suc from) zero x (e ∷ es) le lt is = absurd (omega (arith, le))
raised-more zero (suc to) x (e ∷ es) le lt is = ap (λ l. suc e ∷ l) (raised-more zero to x es (omega arith) (omega (arith, lt)) is)
raised-more (suc from) (suc to) x (e ∷ es) le lt is = ap (λ l. e ∷ l) (raised-more from to x es (omega (arith, le)) (omega (arith, lt)) is)

-- ---- a piece in two

pub joined_divided : (ps : List (List Spot)) (n : ℕ) → joined (divided n ps) ≡ joined ps
joined_divided [] n = refl
joined_divided (p ∷ ps) zero = sym (append_assoc (take 512 p) (drop 512 p) (joined ps)) ∙ ap (λ l. l ++ joined ps) (take-append-drop 512 p)
joined_divided (p ∷ ps) (suc n) = ap (λ l. p ++ l) (joined_divided ps n)

pub divided_is : (ps : List (List Spot)) (n : ℕ) → n < length ps
    → insert (set ps n (take 512 (get_or ps n []))) (suc n) (drop 512 (get_or ps n [])) ≡ divided n ps
divided_is [] n there = absurd (omega (arith, there))
divided_is (p ∷ []) zero there = refl
divided_is (p ∷ q ∷ ps) zero there = refl
divided_is (p ∷ ps) (suc n) there = ap (λ l. p ∷ l) (divided_is ps n (omega (arith, there)))

pub laid_divided : (ps : List (List Spot)) (n : ℕ) → n < length ps → 1024 ≤ length (get_or ps n []) → IsLaid ps → IsLaid (divided n ps)
laid_divided [] n there full laid = absurd (omega (arith, there))
laid_divided (p ∷ ps) zero there full laid =
    let lower : length (take 512 p) ≡ 512 = omega (arith, length-take 512 p, full) in
    let upper : length (drop 512 p) ≡ 512 = omega (arith, length-drop 512 p, full, laid.0.few) in (
      record { some = omega (arith, lower); few = omega (arith, lower); half = λ later. omega (arith, lower) },
      (record { some = omega (arith, upper); few = omega (arith, upper); half = λ later. omega (arith, upper) }, laid.1),
    )
laid_divided (p ∷ ps) (suc n) there full laid =
    (filled_by p p (joined ps) (joined (divided n ps)) refl (ap length (joined_divided ps n)) laid.0, laid_divided ps n (omega (arith, there)) full laid.1)

pub ends_divided : (ps : List (List Spot)) (n k : ℕ) → n < length ps → 1024 ≤ length (get_or ps n [])
    → ends_from k (divided n ps) ≡ insert (ends_from k ps) n (512 + (start ps n + k))
ends_divided [] n k there full = absurd (omega (arith, there))
ends_divided (p ∷ ps) zero k there full =
    let lower : length (take 512 p) + k ≡ 512 + (0 + k) = omega (arith, length-take 512 p, full) in
    let both : length (drop 512 p) + (length (take 512 p) + k) ≡ length p + k = omega (arith, length-take 512 p, length-drop 512 p, full) in
    ap (λ m. m ∷ (length (drop 512 p) + (length (take 512 p) + k)) ∷ ends_from (length (drop 512 p) + (length (take 512 p) + k)) ps) lower
    ∙ ap (λ m. (512 + (0 + k)) ∷ m ∷ ends_from m ps) both
ends_divided (p ∷ ps) (suc n) k there full =
    let same : 512 + (start ps n + (length p + k)) ≡ 512 + (length p + start ps n + k) = omega arith in
    ap (λ l. (length p + k) ∷ l)
    (ends_divided ps n (length p + k) (omega (arith, there)) full ∙ ap (λ m. insert (ends_from (length p + k) ps) n m) same)

pub halves_there : (ps : List (List Spot)) (n : ℕ) → n < length ps
    → (get_or (divided n ps) n [] ≡ take 512 (get_or ps n [])) × (get_or (divided n ps) (suc n) [] ≡ drop 512 (get_or ps n []))
halves_there [] n there = absurd (omega (arith, there))
halves_there (p ∷ ps) zero there = (refl, refl)
halves_there (p ∷ ps) (suc n) there = halves_there ps n (omega (arith, there))

pub length-divided : (ps : List (List Spot)) (n : ℕ) → n < length ps → length (divided n ps) ≡ suc (length ps)
length-divided [] n there = absurd (omega (arith, there))
length-divided (p ∷ ps) zero there = refl
length-divided (p ∷ ps) (suc n) there = ap suc (length-divided ps n (omega (arith, there)))

pub start-divided : (ps : List (List Spot)) (n : ℕ) → start (divided n ps) n ≡ start ps n
start-divided [] n = refl
start-divided (p ∷ ps) zero = refl
start-divided (p ∷ ps) (suc n) = ap (λ m. length p + m) (start-divided ps n)

few_there : (ps : List (List Spot)) (n : ℕ) → IsLaid ps → n < length ps → length (get_or ps n []) ≤ 1024
few_there [] n laid there = absurd (omega (arith, there))
few_there (p ∷ ps) zero laid there = laid.0.few
few_there (p ∷ ps) (suc n) laid there = few_there ps n laid.1 (omega (arith, there))

-- what is known of both halves
pub record AreHalves (ps : List (List Spot)) (n : ℕ) : Type 0 where
  pub lower : length (get_or (divided n ps) n []) ≡ 512
  pub upper : length (get_or (divided n ps) (n + 1) []) ≡ 512
  pub begins : start_by (ends_from 0 (divided n ps)) n ≡ start_by (ends_from 0 ps) n
  pub middle : start_by (ends_from 0 (divided n ps)) (n + 1) ≡ start_by (ends_from 0 ps) n + 512
  pub whole : length (get_or ps n []) ≡ 1024

pub are_halves : (ps : List (List Spot)) (n : ℕ) → IsLaid ps → n < length ps → 1024 ≤ length (get_or ps n []) → AreHalves ps n
are_halves ps n laid there full =
    let both = halves_there ps n there in
    let p = get_or ps n [] in
    let whole : length p ≡ 1024 = omega (arith, full, few_there ps n laid there) in
    let next : n + 1 ≡ suc n = omega arith in
    let lower : length (get_or (divided n ps) n []) ≡ 512 = omega (arith, ap length both.0, length-take 512 p, whole) in
    let upper : length (get_or (divided n ps) (suc n) []) ≡ 512 = omega (arith, ap length both.1, length-drop 512 p, whole) in
    let count = length-divided ps n there in
    let first = start-is ps n (omega (arith, there)) in
    let begins = start-is (divided n ps) n (omega (arith, there, count)) in
    let middle = start-is (divided n ps) (suc n) (omega (arith, there, count)) in
    let same = start-divided ps n in
    record {
      lower = lower;
      upper = ap (λ (m : ℕ). length (get_or (divided n ps) m [])) next ∙ upper;
      begins = begins ∙ same ∙ sym first;
      middle =
          ap (start_by (ends_from 0 (divided n ps))) next
          ∙ omega (arith, middle, start-next (divided n ps) n [] (omega (arith, there, count)), lower, same, first);
      whole = whole;
    }

-- ---- a piece more or less at the end

pub joined_end : (ps : List (List Spot)) (q : List Spot) → joined (ps ++ q ∷ []) ≡ joined ps ++ q
joined_end [] q = append-none q
  where
    append-none : (l : List Spot) → l ++ [] ≡ l
    append-none [] = refl
    append-none (x ∷ l) = ap (λ m. x ∷ m) (append-none l)
joined_end (p ∷ ps) q = ap (λ l. p ++ l) (joined_end ps q) ∙ sym (append_assoc p (joined ps) q)

pub laid_front : (ps : List (List Spot)) (q : List Spot) → IsLaid (ps ++ q ∷ []) → IsLaid ps
laid_front [] q laid = tt
laid_front (p ∷ ps) q laid = (
  record {
    some = laid.0.some;
    few = laid.0.few;
    half = λ later. laid.0.half (omega (arith, later, ap length (joined_end ps q), length-append (joined ps) q));
  },
  laid_front ps q laid.1,
)

pub last_some : (ps : List (List Spot)) (q : List Spot) → IsLaid (ps ++ q ∷ []) → 0 < length q
last_some [] q laid = laid.0.some
last_some (p ∷ ps) q laid = last_some ps q laid.1

-- the last is cut
pub laid_cut : (ps : List (List Spot)) (q r : List Spot) → 0 < length r → length r ≤ length q → IsLaid (ps ++ q ∷ []) → IsLaid (ps ++ r ∷ [])
laid_cut [] q r some less laid = (record { some = some; few = omega (arith, less, laid.0.few); half = λ later. absurd (omega (arith, later)) }, tt)
laid_cut (p ∷ ps) q r some less laid = (
  record {
    some = laid.0.some;
    few = laid.0.few;
    half = λ later. laid.0.half (omega (arith, some, less, ap length (joined_end ps q), length-append (joined ps) q));
  },
  laid_cut ps q r some less laid.1,
)

-- another comes behind the last, which is half full
pub laid_end : (ps : List (List Spot)) (q : List Spot) → 0 < length q → length q ≤ 1024 → (0 < length ps → 512 ≤ length (get_or ps (length ps - 1) []))
    → IsLaid ps → IsLaid (ps ++ q ∷ [])
laid_end [] q some few last laid = (record { some = some; few = few; half = λ later. absurd (omega (arith, later)) }, tt)
laid_end (p ∷ []) q some few last laid =
    let none : 1 - 1 ≡ 0 = omega arith in (
      record {
        some = laid.0.some;
        few = laid.0.few;
        half = λ later. omega (arith, last (omega arith), ap (λ (m : ℕ). length (get_or (p ∷ []) m [])) none);
      },
      (record { some = some; few = few; half = λ later. absurd (omega (arith, later)) }, tt),
    )
laid_end (p ∷ r ∷ ps) q some few last laid =
    let here : suc (suc (length ps)) - 1 ≡ suc (suc (length ps) - 1) = omega arith in (
      record {
        some = laid.0.some;
        few = laid.0.few;
        half = λ later. laid.0.half (omega (arith, laid.1.0.some, length-append r (joined ps)));
      },
      laid_end (r ∷ ps) q some few (λ more. omega (arith, last (omega arith), ap (λ (m : ℕ). length (get_or (p ∷ r ∷ ps) m [])) here)) laid.1,
    )

pub ends_end : (ps : List (List Spot)) (q : List Spot) (k : ℕ) → ends_from k (ps ++ q ∷ []) ≡ ends_from k ps ++ (length q + (length (joined ps) + k)) ∷ []
ends_end [] q k =
    let same : length q + k ≡ length q + (0 + k) = omega arith in
    ap (λ m. m ∷ []) same
ends_end (p ∷ ps) q k =
    let same : length q + (length (joined ps) + (length p + k)) ≡ length q + (length (p ++ joined ps) + k) = omega (arith, length-append p (joined ps)) in
    ap (λ l. (length p + k) ∷ l) (ends_end ps q (length p + k) ∙ ap (λ m. ends_from (length p + k) ps ++ m ∷ []) same)

pub ends_front : (ps qs : List (List Spot)) (k : ℕ) → take (length ps) (ends_from k (ps ++ qs)) ≡ ends_from k ps
ends_front [] [] k = refl
ends_front [] (q ∷ qs) k = refl
ends_front (p ∷ ps) qs k = ap (λ l. (length p + k) ∷ l) (ends_front ps qs (length p + k))

-- ---- how many pieces there are

-- all but the last are half full
pub many_held : (ps : List (List Spot)) → IsLaid ps → 512 * length ps < length (joined ps) + 512
many_held [] laid = omega arith
many_held (p ∷ []) laid = omega (arith, laid.0.some, length-append p [])
many_held (p ∷ q ∷ ps) laid =
    let later : 0 < length (joined (q ∷ ps)) = omega (arith, laid.1.0.some, length-append q (joined ps)) in
    omega (arith, laid.0.half later, many_held (q ∷ ps) laid.1, length-append p (joined (q ∷ ps)))

-- and if one is full, they hold more than half of what they may
pub many_full : (ps : List (List Spot)) (n : ℕ) → n < length ps → 1024 ≤ length (get_or ps n []) → IsLaid ps → 512 * length ps < length (joined ps)
many_full [] n there full laid = absurd (omega (arith, there))
many_full (p ∷ ps) zero there full laid = omega (arith, full, many_held ps laid.1, length-append p (joined ps))
many_full (p ∷ ps) (suc n) there full laid =
    let lt : n < length ps = omega (arith, there) in
    let later : 0 < length (joined ps) = omega (arith, start-within ps n [] lt, some_there ps n laid.1 lt) in
    omega (arith, laid.0.half later, many_full ps n lt full laid.1, length-append p (joined ps))

-- a piece behind which nothing stands is the last
pub is_last : (ps : List (List Spot)) (n : ℕ) → n < length ps → length (joined ps) ≤ start ps n + length (get_or ps n []) → IsLaid ps → n ≡ length ps - 1
is_last [] n there all laid = absurd (omega (arith, there))
is_last (p ∷ []) zero there all laid = refl
is_last (p ∷ q ∷ ps) zero there all laid = absurd (omega (arith, all, laid.1.0.some, length-append p (joined (q ∷ ps)), length-append q (joined ps)))
is_last (p ∷ ps) (suc n) there all laid =
    let lt : n < length ps = omega (arith, there) in
    let last = is_last ps n lt (omega (arith, all, length-append p (joined ps))) laid.1 in
    omega (arith, last, lt)
