-- A step that only adds to the board's list keeps its rule.
use Rattle.std.proofs.Common.{◌≡◌, ℕ, ◌≢◌, List, [], ◌∷◌, ◌++◌, set, get_or, zero, suc, true, refl, ap, sym, ◌∙◌, subst, ⊎_elim, arith, append_assoc}
use Rattle.std.proofs.Common.{fold, drop, length, Result, Ok, Err}
use Rattle.std.proofs.lemmas.List.{append-nil}
use mathlib.Core.List.{IsPrefix}
use mathlib.Core.Option.{some, some-injective, some-ne-none}
use lib.ListN.{get_elem?}
use Rattle.crossbeam_utils.specs.Register.{Admits, TurnsAt, Forks, Merges}
use Rattle.atomic_table.proofs.Lists.{at_set, at_snoc}
use Rattle.board.specs.declared.entry.BoardEntry.{BoardEntry}
use Rattle.board.specs.Board.{is_board, has_safe}
use Rattle.board.proofs.Longer.{has_safe-more}
use Rattle.growing.proofs.Prefixes.{prefix_self, prefix_trans}
use Rattle.board.specs.State.{BoardId, Page, BoardState, board_state, IsLater, after_board_change, is_quiet, newly_prepared, pending_of}
use Rattle.board.specs.declared.change.BoardChange.{BoardChange}
use Rattle.board.specs.declared.change.BoardChange.TheVariants.{Prepare, Commit}
use mathlib.Core.Bool.{true≢false}
use Rattle.board.specs.OneList.{SeenStates, IsLaterThanAll, IsFair, KeepsOneList, Sees}
use Rattle.board.specs.Showing.{MayShow, ShowingGives}

-- the board's state follows itself
pub one_agrees : (s : BoardState) → IsLaterThanAll s (s ∷ [])
one_agrees s zero d in_it = (prefix_self s.0, refl)
one_agrees s (suc k) d in_it = absurd (omega arith)

pub agrees_more : (known : SeenStates) (s t : BoardState) → IsLater t s → IsLaterThanAll s known → IsLaterThanAll t known
agrees_more known s t p h k d in_it = let q = h k d in_it in (prefix_trans (get_or known k d).0 s.0 t.0 q.0 p.0, q.1 ∙ p.1)

-- what all know agrees with a longer list too, where one thread knows of that list
known_more : (s t : BoardState) (views : List SeenStates) (seat : ℕ) → IsLater t s →
    ((j : ℕ) (known : SeenStates) → get_elem? views j ≡ some known → IsLaterThanAll s known)
    → (j : ℕ) (known : SeenStates) → get_elem? (set views seat (t ∷ [])) j ≡ some known → IsLaterThanAll t known
known_more s t views seat p h j known at =
    ⊎_elim
    (λ (u : (j ≡ seat) × (t ∷ [] ≡ known)). subst (IsLaterThanAll t) u.1 (one_agrees t))
    (λ (u : (j ≢ seat) × (get_elem? views j ≡ some known)). agrees_more known s t p (h j known u.1))
    (at_set views seat j (t ∷ []) known at)

-- the board goes from x to y, whose list goes on that of x
pub goes_on : (seat : ℕ) (known : SeenStates) (x y : Page) → IsLater (board_state y) (board_state x) →
    (IsFair x → (is_board y.list ≡ true) × (is_board y.ahead ≡ true)) → TurnsAt KeepsOneList seat known x y Sees
goes_on seat known x y p lawful views kept at =
    let has : has_safe y.list ≡ true = ap has_safe (sym p.0.1) ∙ has_safe-more x.list p.0.0 kept.0.safe in
    let new = lawful kept.0 in
    let fair : IsFair y = record { list = new.0; ahead = new.1; safe = has } in (
      board_state y ∷ [],
      (fair, known_more (board_state x) (board_state y) views seat p kept.1),
      (agrees_more known (board_state x) (board_state y) p (kept.1 seat known at), refl, fair),
    )

-- a look leaves the list as it is
pub stays_so : (seat : ℕ) (known : SeenStates) (x : Page) → TurnsAt KeepsOneList seat known x x Sees
stays_so seat known x = goes_on seat known x x (prefix_self x.list, refl) (λ fair. (fair.list, fair.ahead))

agrees_none : (s : BoardState) → IsLaterThanAll s []
agrees_none s k d in_it = absurd (omega arith)

-- a new reader knows of nothing
pub admits : Admits KeepsOneList []
admits x views kept = (
  kept.0,
  λ j known at. ⊎_elim (λ (e : get_elem? views j ≡ some known). kept.1 j known e)
      (λ (e : [] ≡ known). subst (IsLaterThanAll (board_state x)) e (agrees_none (board_state x))) (at_snoc views [] known j at),
)

set_agrees : (s : BoardState) (views : List SeenStates) (seat : ℕ) (mine : SeenStates) → IsLaterThanAll s mine →
    ((j : ℕ) (known : SeenStates) → get_elem? views j ≡ some known → IsLaterThanAll s known)
    → (j : ℕ) (known : SeenStates) → get_elem? (set views seat mine) j ≡ some known → IsLaterThanAll s known
set_agrees s views seat mine a h j known at =
    ⊎_elim (λ (u : (j ≡ seat) × (mine ≡ known)). subst (IsLaterThanAll s) u.1 a)
    (λ (u : (j ≢ seat) × (get_elem? views j ≡ some known)). h j known u.1) (at_set views seat j mine known at)

-- what one knows another may know too
pub forks : (seat : ℕ) (known : SeenStates) → Forks KeepsOneList seat known known known
forks seat known x views kept at = (
  kept.0,
  λ j mine there.
      let a = kept.1 seat known at in
      ⊎_elim (set_agrees (board_state x) views seat known a kept.1 j mine) (λ (e : known ≡ mine). subst (IsLaterThanAll (board_state x)) e a)
      (at_snoc (set views seat known) known mine j there),
)

agrees_both : (s : BoardState) (xs ys : SeenStates) → IsLaterThanAll s xs → IsLaterThanAll s ys → IsLaterThanAll s (xs ++ ys)
agrees_both s [] ys h k j d in_it = k j d in_it
agrees_both s (x ∷ xs) ys h k zero d in_it = h zero d (omega arith)
agrees_both s (x ∷ xs) ys h k (suc j) d in_it = agrees_both s xs ys (λ i e at. h (suc i) e (omega arith)) k j d (omega arith)

pub merges : (seat : ℕ) (known : SeenStates) (other : ℕ) (told : SeenStates) → Merges KeepsOneList seat known other told (known ++ told) []
merges seat known other told x views kept at apart there =
    let s : BoardState = board_state x in
    let a : IsLaterThanAll s known = kept.1 seat known at in
    let b : IsLaterThanAll s told = ⊎_elim (λ (u : (other ≡ seat) × (known ++ told ≡ told)). absurd (apart u.0))
    (λ (u : (other ≢ seat) × (get_elem? views other ≡ some told)). kept.1 other told u.1) (at_set views seat other (known ++ told) told there) in (
      kept.0,
      set_agrees s (set views seat (known ++ told)) other [] (agrees_none s) (set_agrees s views seat (known ++ told) (agrees_both s known told a b) kept.1),
    )

-- where nothing is shown, the entries are prepared one after the other
pub fold_quiet : (list ahead : List BoardEntry) (board : BoardId) (changes : List BoardChange) → is_quiet changes ≡ true → fold after_board_change
    (list, ahead, board) changes ≡ (list, ahead ++ newly_prepared changes, board)
fold_quiet list ahead board [] quiet = ap (λ (l : List BoardEntry). (list, l, board)) (sym (append-nil ahead))
fold_quiet list ahead board (Prepare e ∷ changes) quiet = fold_quiet list (ahead ++ e ∷ []) board changes quiet ∙ ap
    (λ (l : List BoardEntry). (list, l, board)) (append_assoc ahead (e ∷ []) (newly_prepared changes))
fold_quiet list ahead board (Commit ∷ changes) quiet = absurd (true≢false (sym quiet))

-- where one thread knows of nothing
pub knows_nothing : (s : BoardState) (seat : ℕ) (known : SeenStates) → get_elem? {A = SeenStates} ([] ∷ []) seat ≡ some known → IsLaterThanAll s known
knows_nothing s zero known at = subst (IsLaterThanAll s) (some-injective [] known at) (agrees_none s)
knows_nothing s (suc seat) known at = absurd (some-ne-none known (sym at))

-- a state that is all that is known
pub followed : (now s : BoardState) (known : SeenStates) → known ≡ s ∷ [] → IsLaterThanAll now known → IsLater now s
followed now s known is a = subst (IsLaterThanAll now) is a zero s (omega arith)

-- entries are prepared, and the list stays
pub prepares_on : (x : Page) (changes : List BoardChange) → is_quiet changes ≡ true → is_board (x.ahead ++ newly_prepared changes) ≡ true → MayShow x changes
prepares_on x changes quiet lawful next is =
    let all = is ∙ fold_quiet x.list x.ahead x.board changes quiet in
    let list : next.list ≡ x.list = ap (λ (s : BoardState). s.0) all in
    let ahead : next.ahead ≡ x.ahead ++ newly_prepared changes = ap (λ (s : BoardState). s.1) all in (
      (subst (IsPrefix x.list) (sym list) (prefix_self x.list), sym (ap (λ (s : BoardState). s.2) all)),
      λ fair. (ap is_board list ∙ fair.list, ap is_board ahead ∙ lawful),
    )

-- nothing changes
pub settles_on : (x : Page) (changes : List BoardChange) → changes ≡ [] → MayShow x changes
settles_on x changes none next is =
    let all : board_state next ≡ board_state x = is ∙ ap (fold after_board_change (board_state x)) none in
    let list : next.list ≡ x.list = ap (λ (s : BoardState). s.0) all in
    let ahead : next.ahead ≡ x.ahead = ap (λ (s : BoardState). s.1) all in (
      (subst (IsPrefix x.list) (sym list) (prefix_self x.list), sym (ap (λ (s : BoardState). s.2) all)),
      λ fair. (ap is_board list ∙ fair.list, ap is_board ahead ∙ fair.ahead),
    )

-- what is prepared is shown
pub commits_on : (x : Page) (changes : List BoardChange) → changes ≡ Commit ∷ [] → IsPrefix x.list x.ahead → MayShow x changes
commits_on x changes commit longer next is =
    let all : board_state next ≡ (x.ahead, x.ahead, x.board) = is ∙ ap (fold after_board_change (board_state x)) commit in
    let list : next.list ≡ x.ahead = ap (λ (s : BoardState). s.0) all in
    let ahead : next.ahead ≡ x.ahead = ap (λ (s : BoardState). s.1) all in (
      (subst (IsPrefix x.list) (sym list) longer, sym (ap (λ (s : BoardState). s.2) all)),
      λ fair. (ap is_board list ∙ fair.ahead, ap is_board ahead ∙ fair.ahead),
    )

drop_front : (xs ys : List BoardEntry) → drop (length xs) (xs ++ ys) ≡ ys
drop_front [] ys = refl
drop_front (x ∷ xs) ys = drop_front xs ys

-- the list with what is pending is the list with all that is or will be prepared
pub all_ahead : (x : Page) (changes : List BoardChange) → IsPrefix x.list x.ahead → x.list ++ pending_of x changes ≡ x.ahead ++ newly_prepared changes
all_ahead x changes p =
    let rest : drop (length x.list) x.ahead ≡ p.0 = ap (drop (length x.list)) (sym p.1) ∙ drop_front x.list p.0 in
    ap (λ r. x.list ++ (r ++ newly_prepared changes)) rest ∙ (sym (append_assoc x.list p.0 (newly_prepared changes))
    ∙ ap (λ l. l ++ newly_prepared changes) p.1)

pub same_pending : (x y : Page) (changes changes' : List BoardChange) → IsPrefix x.list x.ahead → IsPrefix y.list y.ahead → y.list ≡ x.list
    → y.ahead ++ newly_prepared changes' ≡ x.ahead ++ newly_prepared changes → pending_of y changes' ≡ pending_of x changes
same_pending x y changes changes' p q list ahead =
    let all : y.list ++ pending_of y changes' ≡ x.list ++ pending_of x changes = all_ahead y changes' q ∙ (ahead ∙ sym (all_ahead x changes p)) in
    sym (drop_front y.list (pending_of y changes')) ∙
    (ap (drop (length y.list)) all ∙ (ap (λ l. drop (length l) (x.list ++ pending_of x changes)) list ∙ drop_front x.list (pending_of x changes)))

module _ {A B : Type 0} (x y : Page) (changes changes' : List BoardChange) where
  pub prepared_list : (result : Result A B) → is_quiet changes ≡ true → ShowingGives x y changes changes' result → (y.list ≡ x.list) × (y.board ≡ x.board)
  prepared_list (Ok u) quiet v = let all = v.0 ∙ fold_quiet x.list x.ahead x.board changes quiet in
      (ap (λ (s : BoardState). s.0) all, ap (λ (s : BoardState). s.2) all)
  prepared_list (Err u) quiet v = (ap (λ (p : Page). p.list) v.0, ap (λ (p : Page). p.board) v.0)

  pub prepared_ahead : (result : Result A B) → is_quiet changes ≡ true → ShowingGives x y changes changes' result →
      (y.ahead ++ newly_prepared changes' ≡ x.ahead ++ newly_prepared changes) × IsPrefix x.ahead y.ahead
  prepared_ahead (Ok u) quiet v =
      let ahead : y.ahead ≡ x.ahead ++ newly_prepared changes = ap (λ (s : BoardState). s.1) (v.0 ∙ fold_quiet x.list x.ahead x.board changes quiet) in
      ((λ i. ahead i ++ newly_prepared (v.1 i)) ∙ append-nil (x.ahead ++ newly_prepared changes), (newly_prepared changes, sym ahead))
  prepared_ahead (Err u) quiet v = (
    (λ i. (v.0 i).ahead ++ newly_prepared (v.1 i)),
    subst (λ (p : Page). IsPrefix x.ahead p.ahead) (sym v.0) (prefix_self x.ahead),
  )
