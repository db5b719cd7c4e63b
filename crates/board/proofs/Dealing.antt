-- Workers that get a viewer each, in order.
use Rattle.std.proofs.Common.{◌≡◌, ◌≢◌, ◌∙◌, ◌<◌, ◌≤◌, ◌+◌, ◌++◌, ◌∷◌, [], ℕ, List, All, Some, length, map, sym, ap, ap₂, subst, slice_index_or, slice_set}
use Rattle.std.proofs.Common.{Option, None, arith, below_more, get_or-set_other, get_or-set_same, refl}
use Rattle.std.specs.Prelude.{IsSome}
use Rattle.std.proofs.lemmas.Bool.{false≢true}
use Rattle.std.proofs.lemmas.List.{get_or-map, length-append, length-map, length-set}
use Rattle.std.proofs.lemmas.List.Elements.{All-map, All-pop}
use Rattle.board.specs.Dealing.{AreDealt}
use Rattle.board.specs.Views.{AreViewers, Viewing}

-- so many in front have the new one behind what they had, and as many are left as there are others
pub record AreGiven {X : Type 0} (of : X → List Viewing) (all : List Viewing) (one : Viewing) (items : List X) (at : ℕ) (left : List Viewing) : Type 0 where
  pub front : (k : ℕ) (d : X) → k < at → of (slice_index_or items k d) ≡ all ++ one ∷ []
  pub rest : (k : ℕ) (d : X) → at ≤ k → k < length items → of (slice_index_or items k d) ≡ all
  pub alike : All (λ v. v ≡ one) left
  pub enough : length left + at ≡ length items

module _ {X : Type 0} (of : X → List Viewing) (all : List Viewing) (one : Viewing) where
  pub none_given : (items : List X) (left : List Viewing) → AreDealt all (map of items) → AreViewers (length items) one left
      → AreGiven of all one items 0 left
  none_given items left dealt are = record {
    front = λ k d less. absurd (omega (arith, less));
    rest = λ k d _ less.
        sym (get_or-map of items k d all less) ∙ dealt k all (subst (λ (n : ℕ). k < n) (sym (length-map items of)) less);
    alike = are.1;
    enough = omega (arith, are.0);
  }

  pub one_given : (items : List X) (at : ℕ) (left more : List Viewing) (own : X) (d : X) (v : Viewing) → AreGiven of all one items at left
      → at < length items → left ≡ more ++ v ∷ [] → of own ≡ of (slice_index_or items at d) ++ v ∷ []
      → AreGiven of all one (slice_set items at own) (at + 1) more
  one_given items at left more own d v so_far less popped pushed =
      let parted = All-pop (λ w. w ≡ one) left more (Some v) popped so_far.alike in
      let given : of own ≡ all ++ one ∷ [] =
      pushed ∙ ap₂ (λ (l : List Viewing) (w : Viewing). l ++ w ∷ []) (so_far.rest at d (omega arith) less) parted.1 in
      let P : ℕ → Type 0 = λ k. (e : X) → of (slice_index_or (slice_set items at own) k e) ≡ all ++ one ∷ [] in
      record {
        front = λ k e before.
            below_more P at
            (λ j under d. let other : j ≢ at = omega (arith, under) in ap of (get_or-set_other items at j own d other) ∙ so_far.front j d under)
            (λ d. ap of (get_or-set_same items at own d less) ∙ given) k before e;
        rest = λ k e after within.
            let other : k ≢ at = omega (arith, after) in
            ap of (get_or-set_other items at k own e other)
            ∙ so_far.rest k e (omega (arith, after)) (subst (λ (n : ℕ). k < n) (length-set items at own) within);
        alike = parted.0;
        enough = omega (arith, so_far.enough, ap (λ (l : List Viewing). length l) popped, length-append more (v ∷ []), length-set items at own);
      }

  pub all_given : (items : List X) (at : ℕ) (left : List Viewing) → AreGiven of all one items at left → length items ≤ at
      → AreDealt (all ++ one ∷ []) (map of items)
  all_given items at left so_far none =
      All-map (λ own. own ≡ all ++ one ∷ []) of items (λ k d less. so_far.front k d (omega (arith, less, none)))

pub is_none : {A : Type 0} (r : Option A) → ((a : A) → r ≡ Some a → ⊥) → IsSome r → ⊥
is_none None never is = false≢true is
is_none (Some a) never is = never a refl
