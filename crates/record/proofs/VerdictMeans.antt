-- A yes of the inspector means what it should: what was acknowledged is in the history, every value is that of the serial
-- run, and who began after an acknowledgement has the larger timestamp.
use Rattle.std.proofs.Common.{refl, sym, ◌∙◌, ap, subst}
use Rattle.std.proofs.lemmas.Bool.{eqb-true, leb-false, lt-ltb, and_parts}
use Rattle.std.specs.Prelude.{ℕ, zero, suc, ◌≡◌, Bool, true, false, not, cond, ◌&&◌, ◌||◌, nat_eq, nat_lt, nat_le, IsTrue, IsFalse, List, [], ◌∷◌, slice_get, Option}
use Rattle.std.specs.Prelude.{Some, None, filter, option_map}
use Rattle.units.specs.Lists.{gather, head, follow, numbered, when, same_numbers}
use Rattle.units.specs.Ids.{Id, same_id, older, with_id, ids_once}
use Rattle.units.specs.Keys.{Bytes}
use Rattle.record.specs.History.{Txn, history, before}
use Rattle.record.specs.Verdict.{verdict, first_fault, first_lost, first_wrong_read, first_wrong_order, lost_by, line_reads_right, late_acks}
use Rattle.record.specs.Accepted.{is_kept}
use Rattle.record.specs.Verdict.{are_renewed, is_late_ack, retired_in, same_value, wrong_read}
use Rattle.record.specs.Lines.{is_in_at, IsLine}
use Rattle.record.specs.Serially.{LooksSerially, ReadsSerially, OrderedByTime}
use Rattle.record.specs.declared.record.Record.{Record}
use Rattle.units.specs.declared.line.Line.{Line}
use Rattle.units.specs.declared.line.Verdict.TheVariants.{Yes}

-- no fault is there
pub no_fault : (a b : Option Id) (c : Option ℕ) (d : Option (ℕ × ℕ)) → first_fault a b c d ≡ Yes → (a ≡ None) × (b ≡ None) × (c ≡ None) × (d ≡ None)
no_fault (Some t) b c d e = cc
no_fault None (Some t) c d e = cc
no_fault None None (Some i) d e = cc
no_fault None None None (Some p) e = cc
no_fault None None None None e = (refl, refl, refl, refl)

not_some : {A : Type 0} (x : A) → ¬ (None ≡ Some x)
not_some x e = cc

pub not_false : (b : Bool) → not b ≡ false → b ≡ true
not_false true e = refl
not_false false e = cc

pub head_none : {A : Type 0} (xs : List A) → head xs ≡ None → xs ≡ []
head_none [] e = refl
head_none (x ∷ xs) e = cc

mapped_none : {A B : Type 0} (f : A → B) (o : Option A) → option_map f o ≡ None → o ≡ None
mapped_none f None e = refl
mapped_none f (Some x) e = cc

-- ---- where a filter gives nothing, each member fails

pub kept_step : {A : Type 0} (b : Bool) (x : A) (rest : List A) → cond b (x ∷ rest) rest ≡ [] → (b ≡ false) × (rest ≡ [])
kept_step true x rest e = cc
kept_step false x rest e = (refl, e)

each_fails : {A : Type 0} (test : A → Bool) (n : ℕ) (xs : List A) (i : ℕ) (x : A) → filter (λ l. test l.1) (numbered n xs) ≡ [] →
    slice_get xs i ≡ Some x → test x ≡ false
each_fails test n [] i x e at = absurd (not_some x at)
each_fails test n (y ∷ ys) zero x e at =
    sym (ap (λ o. when test o) at) ∙ (kept_step (test y) (n, y) (filter (λ l. test l.1) (numbered (suc n) ys)) e).0
each_fails test n (y ∷ ys) (suc i) x e at =
    each_fails test (suc n) ys i x ((kept_step (test y) (n, y) (filter (λ l. test l.1) (numbered (suc n) ys)) e).1) at

gathered_step : {B : Type 0} (o : Option B) (rest : List B) → (elim o as (λ x. List B) [ None ↦ rest | Some y ↦ y ∷ rest ]) ≡ [] → (o ≡ None) × (rest ≡ [])
gathered_step None rest e = (refl, e)
gathered_step (Some y) rest e = cc

none_given : {A B : Type 0} (f : A → Option B) (xs : List A) (i : ℕ) (x : A) → gather f xs ≡ [] → slice_get xs i ≡ Some x → f x ≡ None
none_given f [] i x e at = absurd (not_some x at)
none_given f (y ∷ ys) zero x e at =
    sym (ap (λ o. follow o f) at) ∙ (gathered_step (f y) (gather f ys) e).0
none_given f (y ∷ ys) (suc i) x e at = none_given f ys i x ((gathered_step (f y) (gather f ys) e).1) at

-- a member of a list has a place in the numbered list
has_place : {A : Type 0} (n : ℕ) (xs : List A) (i : ℕ) (x : A) → slice_get xs i ≡ Some x → (m : ℕ) × (slice_get (numbered n xs) i ≡ Some (m, x))
has_place n [] i x at = absurd (not_some x at)
has_place n (y ∷ ys) zero x at = (n, ap (λ o. option_map (λ z. (n, z)) o) at)
has_place n (y ∷ ys) (suc i) x at = has_place (suc n) ys i x at

-- ---- the four clauses

same_list : (xs ys : List ℕ) → same_numbers xs ys ≡ true → xs ≡ ys
same_list [] [] e = refl
same_list [] (y ∷ ys) e = cc
same_list (x ∷ xs) [] e = cc
same_list (x ∷ xs) (y ∷ ys) e =
    let two : (nat_eq x y ≡ true) × (same_numbers xs ys ≡ true) = and_parts (nat_eq x y) (same_numbers xs ys) e in
    ap (λ z. z ∷ xs) (eqb-true x y two.0) ∙ ap (λ zs. y ∷ zs) (same_list xs ys two.1)

same_option : (x y : Option Bytes) → same_value x y ≡ true → x ≡ y
same_option None None e = refl
same_option None (Some y) e = cc
same_option (Some x) None e = cc
same_option (Some x) (Some y) e = ap (λ z. Some z) (same_list x y e)

reads_right : (h : List Txn) (lines : List Line) (l : Line) → first_wrong_read h lines ≡ None → IsLine lines l → line_reads_right h l ≡ true
reads_right h lines l e at =
    not_false (line_reads_right h l)
    (each_fails (λ q. not (line_reads_right h q)) 0 lines at.0 l (head_none _ (mapped_none (λ (q : ℕ × Line). q.0) _ e)) at.1)

with_some : (us : List Id) (t : Id) → ¬ (with_id us t ≡ [])
with_some [] t e = cc
with_some (u ∷ us) t e = placed (same_id u t) (older u t) e
  where
    placed : (a b : Bool) → ¬ (cond a (u ∷ us) (cond b (u ∷ with_id us t) (t ∷ u ∷ us)) ≡ [])
    placed true b f = cc
    placed false true f = cc
    placed false false f = cc

once_none : (ts : List Id) → ids_once ts ≡ [] → ts ≡ []
once_none [] e = refl
once_none (t ∷ ts) e = absurd (with_some (ids_once ts) t e)

in_history : (retired b : Bool) (t : Id) → cond (retired || b) None (Some t) ≡ None → not retired ≡ true → b ≡ true
in_history true b t e kept = cc
in_history false true t e kept = refl
in_history false false t e kept = cc

pub acknowledged : (logs : List (List Record)) (lines : List Line) → verdict logs lines ≡ Yes → (t : Id) (at m : ℕ) →
    IsLine lines (Line.Ack t at m) → IsTrue (is_kept (retired_in logs) t) → IsTrue (is_in_at (history logs) t at)
unfolding verdict
acknowledged logs lines told t at m line kept =
    let none : first_lost (retired_in logs) (history logs) lines ≡ None = (no_fault _ _ _ _ told).1 in
    in_history _ _ t (none_given (lost_by (retired_in logs) (history logs)) lines line.0 (Line.Ack t at m) (once_none _ (head_none _ none)) line.1) kept

-- where no log was renewed, no line has a wrong value
none_wrong : (logs : List (List Record)) (lines : List Line) → verdict logs lines ≡ Yes → IsFalse (are_renewed logs)
    → first_wrong_read (history logs) lines ≡ None
unfolding verdict
none_wrong logs lines told whole = sym (ap (λ b. wrong_read b (history logs) lines) whole) ∙ (no_fault _ _ _ _ told).2

pub looks : (logs : List (List Record)) (lines : List Line) → verdict logs lines ≡ Yes → IsFalse (are_renewed logs) → LooksSerially logs lines
looks logs lines told whole k at x line =
    same_option _ x (reads_right (history logs) lines (Line.Look k at x) (none_wrong logs lines told whole) line)

pub reads : (logs : List (List Record)) (lines : List Line) → verdict logs lines ≡ Yes → IsFalse (are_renewed logs) → ReadsSerially logs lines
reads logs lines told whole t k x u line found =
    let right : line_reads_right (history logs) (Line.Read t k x) ≡ true =
    reads_right (history logs) lines (Line.Read t k x) (none_wrong logs lines told whole) line in
    let shown : when (λ v. same_value (before (history logs) v k) x) (Some u) ≡ true =
    subst (λ o. when (λ v. same_value (before (history logs) v k) x) o ≡ true) found right in
    same_option _ x shown

not_late : (b c : Bool) → b ≡ true → (b && c) ≡ false → c ≡ false
not_late true c e f = f
not_late false c e f = cc

chosen_none : {B : Type 0} (b : Bool) (x : B) → cond b (Some x) None ≡ None → b ≡ false
chosen_none true x e = cc
chosen_none false x e = refl

pub order : (logs : List (List Record)) (lines : List Line) → verdict logs lines ≡ Yes → OrderedByTime logs lines
unfolding verdict
order logs lines told t u at m n x acked begun before found =
    let h : List Txn = history logs in
    let begin_place : (q : ℕ) × (slice_get (numbered 0 lines) begun.0 ≡ Some (q, Line.Begin u n)) = has_place 0 lines begun.0 (Line.Begin u n) begun.1 in
    let ack_place : (q : ℕ) × (slice_get (numbered 0 lines) acked.0 ≡ Some (q, Line.Ack t at m)) = has_place 0 lines acked.0 (Line.Ack t at m) acked.1 in
    let none : first_wrong_order h lines ≡ None = (no_fault _ _ _ _ told).3 in
    let no_pair : option_map (λ j. (begin_place.0, j)) (head (late_acks h (numbered 0 lines) (Line.Begin u n))) ≡ None =
    none_given (λ l. option_map (λ j. (l.0, j)) (head (late_acks h (numbered 0 lines) l.1))) (numbered 0 lines) begun.0
    (begin_place.0, Line.Begin u n) (head_none _ none) begin_place.1 in
    let no_ack : late_acks h (numbered 0 lines) (Line.Begin u n) ≡ [] = head_none _ (mapped_none _ _ no_pair) in
    let no_ack_of : gather (λ l. cond (is_late_ack n x.at l.1) (Some (l.0)) None) (numbered 0 lines) ≡ [] =
    subst (λ o. (elim o as (λ v. List ℕ) [ None ↦ [] | Some v ↦ gather (λ l. cond (is_late_ack n v.at l.1) (Some (l.0)) None) (numbered 0 lines) ]) ≡
    []) found no_ack in
    let not_this : is_late_ack n x.at (Line.Ack t at m) ≡ false =
    chosen_none _ ack_place.0
    (none_given (λ l. cond (is_late_ack n x.at l.1) (Some (l.0)) None) (numbered 0 lines) acked.0 (ack_place.0, Line.Ack t at m) no_ack_of ack_place.1) in
    lt-ltb at x.at (leb-false x.at at (not_late (nat_lt m n) (nat_le x.at at) before not_this))
