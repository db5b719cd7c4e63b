-- The inspector's verdict on logs and report lines. `VerdictLaws` says what a yes means.
use Rattle.std.specs.List.{list_any}
use Rattle.std.specs.Prelude.{ℕ, Bool, true, false, not, cond, ◌&&◌, ◌||◌, nat_lt, nat_le, List, [], ◌∷◌, Option, Some, None, option_map}
use Rattle.units.specs.Lists.{gather, first, head, when, numbered, same_numbers}
use Rattle.units.specs.Ids.{Id, ids_once, older}
use Rattle.units.specs.Keys.{Bytes}
use Rattle.record.specs.Accepted.{is_base, is_kept}
use Rattle.record.specs.History.{Txn, history, before, upto, find_txn}
use Rattle.record.specs.Lines.{is_in_at}
use Rattle.record.specs.Records.{is_below, retired_of}
use Rattle.record.specs.Whole.{is_whole, all_ids}
use Rattle.record.specs.declared.record.Record.{Record}
use Rattle.units.specs.declared.line.Verdict.{Verdict}
use Rattle.units.specs.declared.line.Verdict.TheVariants.{Yes, Torn, Lost, WrongRead, WrongOrder}
use Rattle.units.specs.declared.line.Line.{Line}
use Rattle.units.specs.declared.line.Line.TheVariants.{Begin, Ack, Read, Look}

-- the two optional values are one
abbrev pub same_value : Option Bytes → Option Bytes → Bool
same_value None None = true
same_value (Some v) (Some w) = same_numbers v w
same_value _ _ = false

-- the later of two ids, as far as they are there
abbrev pub later_id : Option Id → Option Id → Option Id
later_id None b = b
later_id (Some a) None = Some a
later_id (Some a) (Some b) = cond (older a b) (Some b) (Some a)

-- the greatest id below which one of the logs retired all, or this one
abbrev pub latest_retired : Option Id → List (List Record) → Option Id
latest_retired found [] = found
latest_retired found (log ∷ logs) = latest_retired (later_id found (retired_of log)) logs

-- the greatest id below which one of the logs retired all
abbrev pub retired_in : List (List Record) → Option Id
retired_in logs = latest_retired None logs

-- the least id that is not whole, of those that no log retired
abbrev pub first_torn : List (List Record) → Option Id
first_torn logs = first (λ t. is_kept (retired_in logs) t && not (is_whole t logs)) (all_ids logs)

-- the id of an acknowledgement that the history lacks, unless it is retired
abbrev pub lost_by : Option Id → List Txn → Line → Option Id
lost_by retired h (Ack t at m) = cond (is_below retired t || is_in_at h t at) None (Some t)
lost_by retired h _ = None

-- the least id that is lost
abbrev pub first_lost : Option Id → List Txn → List Line → Option Id
first_lost retired h lines = head (ids_once (gather (lost_by retired h) lines))

-- the line's value is that of the serial run; other lines have none
abbrev pub line_reads_right : List Txn → Line → Bool
line_reads_right h (Read t k x) = when (λ u. same_value (before h u k) x) (find_txn h t)
line_reads_right h (Look k at x) = same_value (upto h at k) x
line_reads_right h _ = true

-- the place of the first line with a wrong value
abbrev pub first_wrong_read : List Txn → List Line → Option ℕ
first_wrong_read h lines = option_map (λ l. l.0) (first (λ l. not (line_reads_right h l.1)) (numbered 0 lines))

-- a log has a base, so that it was renewed, and does not hold all that was written
abbrev pub has_base : List Record → Bool
has_base log = list_any is_base log

-- one of the logs was renewed
abbrev pub are_renewed : List (List Record) → Bool
are_renewed logs = list_any has_base logs

-- the place of the first line with a wrong value; over renewed logs such lines are passed over
abbrev pub wrong_read : Bool → List Txn → List Line → Option ℕ
wrong_read renewed h lines = cond renewed None (first_wrong_read h lines)

-- the line acknowledges a transaction before this moment, at a timestamp that is not below this one
abbrev pub is_late_ack : ℕ → ℕ → Line → Bool
is_late_ack moment at (Ack t s m) = nat_lt m moment && nat_le at s
is_late_ack moment at _ = false

-- the places of the lines that acknowledge, before a begin line of a committed id, a timestamp not below its own
abbrev pub late_acks : List Txn → List (ℕ × Line) → Line → List ℕ
late_acks h lines (Begin t m) =
    elim (find_txn h t) [ None ↦ [] | Some u ↦ gather (λ l. cond (is_late_ack m u.at l.1) (Some (l.0)) None) lines ]
late_acks h lines _ = []

-- the first begin line with such a line, and the first of those
abbrev pub first_wrong_order : List Txn → List Line → Option (ℕ × ℕ)
first_wrong_order h lines =
    head (gather (λ l. option_map (λ j. (l.0, j)) (head (late_acks h (numbered 0 lines) l.1))) (numbered 0 lines))

-- the first fault that there is
abbrev pub first_fault : Option Id → Option Id → Option ℕ → Option (ℕ × ℕ) → Verdict
first_fault (Some t) lost wrong late = Torn t
first_fault None (Some t) wrong late = Lost t
first_fault None None (Some i) late = WrongRead i
first_fault None None None (Some p) = WrongOrder p.0 p.1
first_fault None None None None = Yes

-- the verdict
unfoldable pub verdict : List (List Record) → List Line → Verdict
verdict logs lines =
    first_fault (first_torn logs) (first_lost (retired_in logs) (history logs) lines) (wrong_read (are_renewed logs) (history logs) lines)
    (first_wrong_order (history logs) lines)
