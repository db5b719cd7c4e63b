-- What is told of a history is told of any list that has the same transactions of each id.
use Rattle.std.specs.List.{list_any}
use Rattle.std.specs.List.Sorted.{ties}
use Rattle.std.specs.Prelude.{option_map}
use Rattle.std.proofs.Common.{◌≡◌, ◌∙◌, ℕ, Bool, true, false, not, cond, ◌&&◌, ◌||◌, List, [], ◌∷◌, Option, Some, None, filter, nat_eq, nat_le, refl}
use Rattle.std.proofs.Common.{sym, ap, arith}
use Rattle.std.proofs.lemmas.Bool.Decides.{nat_tests}
use Rattle.units.specs.Ids.{Id, ids_once, same_id}
use Rattle.units.specs.Keys.{Bytes}
use Rattle.units.specs.Lists.{first, gather, head, numbered, when}
use Rattle.units.specs.declared.line.Line.{Line}
use Rattle.units.specs.declared.line.Line.TheVariants.{Ack, Begin, Look, Read}
use Rattle.record.specs.History.{Txn, before, find_txn, serial, serial_before, upto}
use Rattle.record.specs.Verdict.{first_fault, first_lost, first_wrong_order, first_wrong_read, is_late_ack, late_acks, line_reads_right}
use Rattle.record.specs.Lines.{is_in_at}
use Rattle.record.specs.Records.{is_below}
use Rattle.record.specs.Verdict.{lost_by, same_value}
use Rattle.inspector.specs.Versions.{shown}
use Rattle.inspector.specs.Known.{HaveSame, of_id}
use Rattle.inspector.specs.Faults.{line_fault}
use Rattle.inspector.proofs.FoldLaws.{before_is, upto_is}
use Rattle.inspector.proofs.FoundLaws.{any_of_id}
use Rattle.inspector.proofs.SerialOrder.{serial_ascends, serial_order}
use Rattle.inspector.proofs.SortedLists.{one_ascends, stable_sorted}

same_find : (us vs : List Txn) → HaveSame us vs → (t : Id) → find_txn us t ≡ find_txn vs t
same_find us vs same t = ap (λ (l : List Txn). head l) (same t)

same_in_at : (us vs : List Txn) → HaveSame us vs → (t : Id) (at : ℕ) → is_in_at us t at ≡ is_in_at vs t at
same_in_at us vs same t at = any_of_id us t at ∙ ap (λ l. list_any (λ u. nat_eq u.at at) l) (same t) ∙ sym (any_of_id vs t at)

same_lost_by : (us vs : List Txn) → HaveSame us vs → (retired : Option Id) (l : Line) → lost_by retired us l ≡ lost_by retired vs l
same_lost_by us vs same retired (Ack t at m) = ap (λ b. cond (is_below retired t || b) None (Some t)) (same_in_at us vs same t at)
same_lost_by us vs same retired _ = refl

same_lost : (us vs : List Txn) → HaveSame us vs → (retired : Option Id) (lines : List Line) → first_lost retired us lines ≡ first_lost retired vs lines
same_lost us vs same retired lines = ap (λ (lost : Line → Option Id). head (ids_once (gather lost lines))) (λ i l. same_lost_by us vs same retired l i)

-- those that tie in the serial order are of one id
ties_of_id : (q : Txn) (us : List Txn) → filter (ties serial_before q) us ≡ filter (λ u. nat_eq u.at q.at) (of_id q.txn us)
ties_of_id q [] = refl
ties_of_id q (u ∷ us) =
    ap (λ b. cond b (u ∷ filter (ties serial_before q) us) (filter (ties serial_before q) us)) (tie_is u)
    ∙ by_test (same_id u.txn q.txn) (ties_of_id q us)
  where
    tie_is : (u : Txn) → ties serial_before q u ≡ (same_id u.txn q.txn && nat_eq u.at q.at)
    tie_is u = grind (arith, nat_tests)

    by_test : (b : Bool) → filter (ties serial_before q) us ≡ filter (λ v. nat_eq v.at q.at) (of_id q.txn us)
        → cond (b && nat_eq u.at q.at) (u ∷ filter (ties serial_before q) us) (filter (ties serial_before q) us)
        ≡ filter (λ v. nat_eq v.at q.at) (cond b (u ∷ of_id q.txn us) (of_id q.txn us))
    by_test true rest = ap (λ l. cond (nat_eq u.at q.at) (u ∷ l) l) rest
    by_test false rest = rest

pub same_serial : (us vs : List Txn) → HaveSame us vs → serial us ≡ serial vs
same_serial us vs same =
    one_ascends serial_before serial_order (serial us) (serial vs) (serial_ascends us) (serial_ascends vs)
    (λ q. stable_sorted serial_before serial_order q us
    ∙ ties_of_id q us
    ∙ ap (λ l. filter (λ u. nat_eq u.at q.at) l) (same q.txn)
    ∙ sym (ties_of_id q vs)
    ∙ sym (stable_sorted serial_before serial_order q vs))

same_before : (us vs : List Txn) → HaveSame us vs → (u : Txn) (k : Bytes) → before us u k ≡ before vs u k
same_before us vs same u k =
    before_is us u k ∙ ap (λ (l : List Txn). shown (λ v. serial_before v u) l k None) (same_serial us vs same) ∙ sym (before_is vs u k)

same_upto : (us vs : List Txn) → HaveSame us vs → (at : ℕ) (k : Bytes) → upto us at k ≡ upto vs at k
same_upto us vs same at k =
    upto_is us at k ∙ ap (λ (l : List Txn). shown (λ v. nat_le v.at at) l k None) (same_serial us vs same) ∙ sym (upto_is vs at k)

same_reads_right : (us vs : List Txn) → HaveSame us vs → (l : Line) → line_reads_right us l ≡ line_reads_right vs l
same_reads_right us vs same (Read t k x) =
    ap (λ o. when (λ u. same_value (before us u k) x) o) (same_find us vs same t)
    ∙ ap (λ (test : Txn → Bool). when test (find_txn vs t)) (λ i u. same_value (same_before us vs same u k i) x)
same_reads_right us vs same (Look k at x) = ap (λ o. same_value o x) (same_upto us vs same at k)
same_reads_right us vs same (Begin t m) = refl
same_reads_right us vs same (Ack t at m) = refl

same_wrong_read : (us vs : List Txn) → HaveSame us vs → (lines : List Line) → first_wrong_read us lines ≡ first_wrong_read vs lines
same_wrong_read us vs same lines =
    ap (λ (right : Line → Bool). option_map (λ (l : ℕ × Line). l.0) (first (λ l. not (right l.1)) (numbered 0 lines))) (λ i l. same_reads_right us vs same l i)

same_late_acks : (us vs : List Txn) → HaveSame us vs → (ls : List (ℕ × Line)) (l : Line) → late_acks us ls l ≡ late_acks vs ls l
same_late_acks us vs same ls (Begin t m) =
    ap (λ (o : Option Txn). elim o as (λ x. List ℕ) [ None ↦ [] | Some u ↦ gather (λ l. cond (is_late_ack m u.at l.1) (Some (l.0)) None) ls ])
    (same_find us vs same t)
same_late_acks us vs same ls _ = refl

same_wrong_order : (us vs : List Txn) → HaveSame us vs → (lines : List Line) → first_wrong_order us lines ≡ first_wrong_order vs lines
same_wrong_order us vs same lines =
    ap (λ (late : Line → List ℕ). head (gather (λ (l : ℕ × Line). option_map (λ (j : ℕ). (l.0, j)) (head (late l.1))) (numbered 0 lines)))
    (λ i l. same_late_acks us vs same (numbered 0 lines) l i)

pub same_fault : (retired : Option Id) (renewed : Bool) (us vs : List Txn) → HaveSame us vs → (lines : List Line) →
    line_fault retired renewed us lines ≡ line_fault retired renewed vs lines
same_fault retired renewed us vs same lines =
    λ i. first_fault None (same_lost us vs same retired lines i) (cond renewed None (same_wrong_read us vs same lines i)) (same_wrong_order us vs same lines i)
