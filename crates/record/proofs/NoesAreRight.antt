-- Each no of the inspector is right.
use Rattle.std.specs.List.{list_any}
use Rattle.std.specs.Prelude.{option_map}
use Rattle.std.proofs.Common.{◌≡◌, ◌∙◌, refl, sym, ap, subst, arith}
use Rattle.std.specs.Prelude.{ℕ, suc, ◌+◌, Bool, true, false, not, cond, IsTrue, ◌&&◌, ◌||◌, nat_lt, nat_le, List, [], ◌∷◌, slice_get, Option, Some, None, unwrap_or}
use Rattle.std.specs.List.{AllByRecursion}
use Rattle.std.proofs.lemmas.Bool.{and_parts}
use Rattle.units.specs.Lists.{gather, head, first, numbered, when}
use Rattle.units.specs.Ids.{Id, same_id, ids_once}
use Rattle.units.specs.Keys.{Bytes}
use Rattle.units.proofs.ByIdLaws.{first_passes, first_all}
use Rattle.units.proofs.IdLaws.{same_id-refl, same_id-is}
use Rattle.units.proofs.IdOrder.{any_once}
use Rattle.units.proofs.KeyLaws.{same_key-refl}
use Rattle.units.specs.declared.line.Line.{Line}
use Rattle.units.specs.declared.line.Line.TheVariants.{Begin, Ack, Read, Look}
use Rattle.record.specs.History.{Txn, history, before, upto, find_txn}
use Rattle.record.specs.Verdict.{verdict, first_fault, first_torn, first_lost, first_wrong_read, first_wrong_order, lost_by, line_reads_right}
use Rattle.record.specs.Accepted.{is_kept}
use Rattle.record.specs.Records.{is_below}
use Rattle.record.specs.Verdict.{are_renewed, late_acks, is_late_ack, retired_in, same_value, wrong_read}
use Rattle.record.specs.Lines.{is_in_at, IsLine}
use Rattle.record.specs.Whole.{is_whole, all_ids}
use Rattle.record.specs.declared.record.Record.{Record}
use Rattle.record.specs.VerdictLaws.{IsWrong, IsLost, IsLate, IsRight, EachNoIsRight}

some_is : {A : Type 0} (x y : A) → Some x ≡ Some y → x ≡ y
some_is x y e = ap (λ o. unwrap_or o x) e

not_true : (b : Bool) → not b ≡ true → b ≡ false
not_true true e = cc
not_true false e = refl

-- ---- what a filter gives

-- a member of what a list gives
pub record IsGiven {A B : Type 0} (P : A → Type 0) (f : A → Option B) (y : B) : Type 0 where
  pub from : A
  pub kept : P from
  pub gives : f from ≡ Some y

first_given : {A B : Type 0} (P : A → Type 0) (f : A → Option B) (xs : List A) (y : B) → AllByRecursion P xs → head (gather f xs) ≡ Some y → IsGiven P f y
first_given P f [] y all e = cc
first_given {B = B} P f (x ∷ xs) y all e = by_first (first_given P f xs y all.1) (f x) refl e
  where
    by_first : (head (gather f xs) ≡ Some y → IsGiven P f y) → (o : Option B) → o ≡ f x
        → head (elim o as (λ z. List B) [ None ↦ gather f xs | Some z ↦ z ∷ gather f xs ]) ≡ Some y → IsGiven P f y
    by_first rest None is e = rest e
    by_first rest (Some z) is e = record { from = x; kept = all.0; gives = sym is ∙ e }

any_given : {A B : Type 0} (P : A → Type 0) (f : A → Option B) (test : B → Bool) (xs : List A) → AllByRecursion P xs → list_any test (gather f xs) ≡ true
    → (y : B) × (test y ≡ true) × IsGiven P f y
any_given P f test [] all e = cc
any_given {B = B} P f test (x ∷ xs) all e = by_first (any_given P f test xs all.1) (f x) refl e
  where
    by_test : (list_any test (gather f xs) ≡ true → (y : B) × (test y ≡ true) × IsGiven P f y) → (z : B) → f x ≡ Some z → (b : Bool) → b ≡ test z
        → (b || list_any test (gather f xs)) ≡ true → (y : B) × (test y ≡ true) × IsGiven P f y
    by_test rest z is true passes e = (z, sym passes, record { from = x; kept = all.0; gives = is })
    by_test rest z is false passes e = rest e

    by_first : (list_any test (gather f xs) ≡ true → (y : B) × (test y ≡ true) × IsGiven P f y) → (o : Option B) → o ≡ f x
        → list_any test (elim o as (λ z. List B) [ None ↦ gather f xs | Some z ↦ z ∷ gather f xs ]) ≡ true → (y : B) × (test y ≡ true) × IsGiven P f y
    by_first rest None is e = rest e
    by_first rest (Some z) is e = by_test rest z (sym is) (test z) refl e

-- ---- places

abbrev AtPlace : {A : Type 0} → List A → ℕ × A → Type 0
AtPlace all q = slice_get all q.0 ≡ Some q.1

places_from : {A : Type 0} (all xs : List A) (n : ℕ) → ((k : ℕ) → slice_get all (n + k) ≡ slice_get xs k) → AllByRecursion (AtPlace all) (numbered n xs)
places_from all [] n at = tt
places_from all (x ∷ xs) n at =
    let here : n ≡ n + 0 = omega arith in
    (ap (slice_get all) here ∙ at 0, places_from all xs (suc n) (λ k. let next : suc n + k ≡ n + suc k = omega arith in ap (slice_get all) next ∙ at (suc k)))

places : {A : Type 0} (xs : List A) → AllByRecursion (AtPlace xs) (numbered 0 xs)
places xs = places_from xs xs 0 (λ k. let same : 0 + k ≡ k = omega arith in ap (slice_get xs) same)

lines_from : (all xs : List Line) (n : ℕ) → ((k : ℕ) → slice_get all (n + k) ≡ slice_get xs k) → AllByRecursion (IsLine all) xs
lines_from all [] n at = tt
lines_from all (x ∷ xs) n at = (
  (n + 0, at 0),
  lines_from all xs (suc n)
      (λ k. let next : suc n + k ≡ n + suc k = omega arith in ap (slice_get all) next ∙ at (suc k)),
)

all_lines : (lines : List Line) → AllByRecursion (IsLine lines) lines
all_lines lines = lines_from lines lines 0 (λ k. let same : 0 + k ≡ k = omega arith in ap (slice_get lines) same)

-- ---- the four

torn_right : (logs : List (List Record)) (t : Id) → first_torn logs ≡ Some t → IsTrue (is_kept (retired_in logs) t) × (is_whole t logs ≡ false)
torn_right logs t e =
    let both = and_parts _ _ (first_passes (λ u. is_kept (retired_in logs) u && not (is_whole u logs)) (all_ids logs) t e) in
    (both.0, not_true (is_whole t logs) both.1)

head_is_any : (ts : List Id) (t : Id) → head ts ≡ Some t → list_any (same_id t) ts ≡ true
head_is_any [] t e = cc
head_is_any (u ∷ us) t e = ap (λ b. b || list_any (same_id t) us) (ap (same_id t) (some_is u t e) ∙ same_id-refl t)

lost_line : (retired : Option Id) (h : List Txn) (lines : List Line) (t u : Id) (l : Line) → u ≡ t → IsLine lines l → lost_by retired h l ≡ Some u
    → IsLost retired h lines t
lost_line retired h lines t u (Begin v m) same line e = cc
lost_line retired h lines t u (Read v k x) same line e = cc
lost_line retired h lines t u (Look k at x) same line e = cc
lost_line retired h lines t u (Ack v at m) same line e = by_test (is_below retired v) (is_in_at h v at) refl refl e
  where
    by_test : (a b : Bool) → a ≡ is_below retired v → b ≡ is_in_at h v at → cond (a || b) None (Some v) ≡ Some u → IsLost retired h lines t
    by_test true b below is e = cc
    by_test false true below is e = cc
    by_test false false below is e =
        let one : v ≡ t = some_is v u e ∙ same in
        record {
          at = at;
          moment = m;
          line = subst (λ w. IsLine lines (Ack w at m)) one line;
          kept = ap not (ap (is_below retired) (sym one) ∙ sym below);
          missing = ap (λ w. is_in_at h w at) (sym one) ∙ sym is;
        }

lost_right : (retired : Option Id) (h : List Txn) (lines : List Line) (t : Id) → first_lost retired h lines ≡ Some t → IsLost retired h lines t
lost_right retired h lines t e =
    let given = any_given (IsLine lines) (lost_by retired h) (same_id t) lines (all_lines lines)
    (sym (any_once t (gather (lost_by retired h) lines)) ∙ head_is_any (ids_once (gather (lost_by retired h) lines)) t e) in
    lost_line retired h lines t given.0 given.2.from (sym (same_id-is t given.0 given.1)) given.2.kept given.2.gives

same_value-refl : (x : Option Bytes) → same_value x x ≡ true
same_value-refl None = refl
same_value-refl (Some v) = same_key-refl v

pub not_both : (b : Bool) → b ≡ true → b ≡ false → ⊥
not_both true e f = cc
not_both false e f = cc

wrong_line : (h : List Txn) (l : Line) → line_reads_right h l ≡ false → IsWrong h l
wrong_line h (Begin t m) e = cc
wrong_line h (Ack t at m) e = cc
wrong_line h (Look k at x) e = λ same. not_both (same_value (upto h at k) x) (ap (λ y. same_value y x) same ∙ same_value-refl x) e
wrong_line h (Read t k x) e = λ u found same.
    not_both (same_value (before h u k) x) (ap (λ y. same_value y x) same ∙ same_value-refl x) (sym (ap (when (λ v. same_value (before h v k) x)) found) ∙ e)

wrong_right : (h : List Txn) (lines : List Line) (i : ℕ) → first_wrong_read h lines ≡ Some i → (l : Line) × (slice_get lines i ≡ Some l) × IsWrong h l
wrong_right h lines i e = by_first (first (λ q. not (line_reads_right h q.1)) (numbered 0 lines)) refl e
  where
    by_first : (o : Option (ℕ × Line)) → first (λ q. not (line_reads_right h q.1)) (numbered 0 lines) ≡ o → option_map (λ q. q.0) o ≡ Some i
        → (l : Line) × (slice_get lines i ≡ Some l) × IsWrong h l
    by_first None is e = cc
    by_first (Some q) is e = (
      q.1,
      ap (slice_get lines) (sym (some_is q.0 i e)) ∙ first_all (AtPlace lines) (λ q. not (line_reads_right h q.1)) (numbered 0 lines) q (places lines) is,
      wrong_line h q.1 (not_true (line_reads_right h q.1) (first_passes (λ q. not (line_reads_right h q.1)) (numbered 0 lines) q is)),
    )

-- so only where no log was renewed
judged_right : (renewed : Bool) (h : List Txn) (lines : List Line) (i : ℕ) → wrong_read renewed h lines ≡ Some i
    → (renewed ≡ false) × (l : Line) × (slice_get lines i ≡ Some l) × IsWrong h l
judged_right true h lines i e = cc
judged_right false h lines i e = let w = wrong_right h lines i e in (refl, w.0, w.1, w.2)

-- a late acknowledgement, by its place
late_line : (h : List Txn) (lines : List Line) (i j : ℕ) (u : Id) (n : ℕ) (x : Txn) (q : ℕ × Line) → slice_get lines i ≡ Some (Begin u n)
    → find_txn h u ≡ Some x
    → AtPlace lines q → cond (is_late_ack n x.at q.1) (Some (q.0)) None ≡ Some j → IsLate h lines i j
late_line h lines i j u n x (k, Begin v m) begun found at e = cc
late_line h lines i j u n x (k, Read v key y) begun found at e = cc
late_line h lines i j u n x (k, Look key s y) begun found at e = cc
late_line h lines i j u n x (k, Ack t s m) begun found at e = by_test (nat_lt m n && nat_le x.at s) refl e
  where
    by_test : (b : Bool) → (nat_lt m n && nat_le x.at s) ≡ b → cond b (Some k) None ≡ Some j → IsLate h lines i j
    by_test false is e = cc
    by_test true is e =
        record {
          begun = u;
          told = t;
          at = s;
          begun_at = n;
          told_at = m;
          txn = x;
          begin = begun;
          ack = ap (slice_get lines) (sym (some_is k j e)) ∙ at;
          found = found;
          before = (and_parts (nat_lt m n) (nat_le x.at s) is).0;
          not_below = (and_parts (nat_lt m n) (nat_le x.at s) is).1;
        }

late_begin : (h : List Txn) (lines : List Line) (i j : ℕ) (l : Line) → slice_get lines i ≡ Some l → head (late_acks h (numbered 0 lines) l) ≡ Some j
    → IsLate h lines i j
late_begin h lines i j (Ack t s m) at e = cc
late_begin h lines i j (Read t k x) at e = cc
late_begin h lines i j (Look k s x) at e = cc
late_begin h lines i j (Begin u n) at e = by_found (find_txn h u) refl e
  where
    by_found : (o : Option Txn) → find_txn h u ≡ o
        → head (elim o as (λ z. List ℕ) [ None ↦ [] | Some x ↦ gather (λ l. cond (is_late_ack n x.at l.1) (Some (l.0)) None) (numbered 0 lines) ]) ≡ Some j
        → IsLate h lines i j
    by_found None is e = cc
    by_found (Some x) is e =
        let given = first_given (AtPlace lines) (λ l. cond (is_late_ack n x.at l.1) (Some (l.0)) None) (numbered 0 lines) j (places lines) e in
        late_line h lines i j u n x given.from at is given.kept given.gives

late_right : (h : List Txn) (lines : List Line) (i j : ℕ) → first_wrong_order h lines ≡ Some (i, j) → IsLate h lines i j
late_right h lines i j e =
    let given = first_given (AtPlace lines) (λ l. option_map {U = ℕ × ℕ} (λ j. (l.0, j)) (head (late_acks h (numbered 0 lines) l.1))) (numbered 0 lines) (i, j)
    (places lines) e in
    by_ack given.from given.kept (head (late_acks h (numbered 0 lines) given.from.1)) refl given.gives
  where
    by_ack : (q : ℕ × Line) → AtPlace lines q → (o : Option ℕ) → head (late_acks h (numbered 0 lines) q.1) ≡ o
        → option_map {U = ℕ × ℕ} (λ j. (q.0, j)) o ≡ Some (i, j) → IsLate h lines i j
    by_ack q at None is e = cc
    by_ack q at (Some k) is e =
        let one : (q.0, k) ≡ (i, j) = some_is (q.0, k) (i, j) e in
        late_begin h lines i j q.1 (ap (slice_get lines) (sym (ap (λ (p : ℕ × ℕ). p.0) one)) ∙ at) (is ∙ ap (λ (p : ℕ × ℕ). Some (p.1)) one)

right_by : (logs : List (List Record)) (lines : List Line) (a b : Option Id) (c : Option ℕ) (d : Option (ℕ × ℕ))
    → first_torn logs ≡ a → first_lost (retired_in logs) (history logs) lines ≡ b → wrong_read (are_renewed logs) (history logs) lines ≡ c
    → first_wrong_order (history logs) lines ≡ d
    → IsRight logs lines (first_fault a b c d)
right_by logs lines (Some t) b c d torn lost wrong late = torn_right logs t torn
right_by logs lines None (Some t) c d torn lost wrong late = lost_right (retired_in logs) (history logs) lines t lost
right_by logs lines None None (Some i) d torn lost wrong late = judged_right (are_renewed logs) (history logs) lines i wrong
right_by logs lines None None None (Some p) torn lost wrong late = late_right (history logs) lines p.0 p.1 late
right_by logs lines None None None None torn lost wrong late = tt

pub each_no_is_right : EachNoIsRight
unfolding verdict
each_no_is_right logs lines =
    right_by logs lines (first_torn logs) (first_lost (retired_in logs) (history logs) lines) (wrong_read (are_renewed logs) (history logs) lines)
    (first_wrong_order (history logs) lines) refl refl refl refl
