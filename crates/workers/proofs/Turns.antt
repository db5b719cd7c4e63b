-- The lines of turns, and how many there are.
use Rattle.std.proofs.Common.{◌≡◌, ◌<◌, ◌≤◌, ◌+◌, ℕ, suc, Bool, true, false, true≢false, List, [], ◌∷◌, ◌++◌, length, map, Option, refl}
use Rattle.std.proofs.Common.{ap, sym, ◌∙◌, subst, arith, add-one, append_assoc, length-append, if◌then◌else◌}
use Rattle.std.specs.List.{filter}
use Rattle.std.proofs.Common.{Result, Ok, Err, IsOk, MatchResult, OnOk}
use Rattle.std.proofs.lemmas.List.Elements.{filter-append}
use Rattle.std.proofs.lemmas.List.{length-map}
use Rattle.units.specs.Ids.{Id}
use Rattle.units.specs.Keys.{Bytes}
use Rattle.units.specs.declared.fault.Fault.{Fault}
use Rattle.units.specs.declared.line.Line.{Line}
use Rattle.units.specs.declared.line.Line.TheVariants.{Begin, Ack, Read}
use Rattle.progress.specs.declared.turn.Ended.{Ended}
use Rattle.progress.specs.declared.turn.Ended.TheVariants as ended
use Rattle.client.specs.declared.ended.Ended.{Ended as Finish}
use Rattle.client.specs.declared.ended.Ended.TheVariants as finish
use Rattle.client.specs.declared.ended.Halt.{Halt}
use Rattle.workers.specs.declared.reads.Asked.{Asked}
use Rattle.workers.specs.declared.summary.Counts.{Counts}
use Rattle.workers.specs.Keys.{turn_keys}
use Rattle.workers.specs.Refusals.{IsCutShort}
use Rattle.workers.specs.Reports.{IsTally}
use Rattle.workers.specs.Summaries.{one_if, one_if_committed, tried}
use Rattle.workers.specs.Turns.{count, is_begin, is_ack, is_read, is_look, asked_keys, read_lines}
use Rattle.workers.specs.Turns.{IsEnd, IsReported, IsTransaction, IsLooked, IsTurn, AreTurns}

pub count-append : (kind : Line → Bool) (xs ys : List Line) → count kind (xs ++ ys) ≡ count kind xs + count kind ys
count-append kind xs ys = ap length (filter-append kind xs ys) ∙ length-append (filter kind xs) (filter kind ys)

-- the lines of some answers
abbrev reads_of : Id → List (Bytes × Option Bytes) → List Line
reads_of txn answers = map (λ a. Read txn (a.0) (a.1)) answers

no_begins : (txn : Id) (answers : List (Bytes × Option Bytes)) → count is_begin (reads_of txn answers) ≡ 0
no_begins txn [] = refl
no_begins txn (a ∷ rest) = no_begins txn rest

no_acks : (txn : Id) (answers : List (Bytes × Option Bytes)) → count is_ack (reads_of txn answers) ≡ 0
no_acks txn [] = refl
no_acks txn (a ∷ rest) = no_acks txn rest

no_looks : (txn : Id) (answers : List (Bytes × Option Bytes)) → count is_look (reads_of txn answers) ≡ 0
no_looks txn [] = refl
no_looks txn (a ∷ rest) = no_looks txn rest

all_reads : (txn : Id) (answers : List (Bytes × Option Bytes)) → count is_read (reads_of txn answers) ≡ length answers
all_reads txn [] = refl
all_reads txn (a ∷ rest) = ap suc (all_reads txn rest)

-- the answers as keys with their values
abbrev shown : List Asked → List (Bytes × Option Bytes)
shown asked = map (λ a. (a.key, a.value)) asked

keys_shown : (asked : List Asked) → map (λ a. a.0) (shown asked) ≡ asked_keys asked
keys_shown [] = refl
keys_shown (a ∷ rest) = ap (λ (ks : List Bytes). a.key ∷ ks) (keys_shown rest)

lines_shown : (txn : Id) (asked : List Asked) → read_lines txn asked ≡ reads_of txn (shown asked)
lines_shown txn [] = refl
lines_shown txn (a ∷ rest) = ap (λ (ls : List Line). Read txn a.key a.value ∷ ls) (lines_shown txn rest)

-- the lines of an end, as they were reported of a transaction that commits only with all its answers
pub reported_end : (how : Finish) (txn : Id) (keys : List Bytes) (asked : List Asked) (end : Ended) (told : List Line)
    → IsReported how txn asked end told
    → ((at : ℕ) → how ≡ finish.Committed at → asked_keys asked ≡ keys) → IsEnd end txn keys told
reported_end (finish.Committed at) txn keys asked end told is all =
    subst (λ (e : Ended). IsEnd e txn keys told) (sym is.0) (record {
      at = at;
      moment = is.1.0;
      answers = shown asked;
      same = keys_shown asked ∙ all at refl;
      whole = is.1.1 ∙ ap (λ (ls : List Line). Ack txn at is.1.0 ∷ ls) (lines_shown txn asked);
    })
reported_end finish.Aborted txn keys asked end told is all = subst (λ (e : Ended). IsEnd e txn keys told) (sym is.0) is.1
reported_end (finish.Unknown t) txn keys asked end told is all = subst (λ (e : Ended). IsEnd e txn keys told) (sym is.0) is.1

pub on_ok : {X : Type 0} (r : Result X Halt) (P : Type 0) → OnOk r P → IsOk r → P
on_ok (Ok x) P is ok = is
on_ok (Err halt) P is ok = absurd (true≢false (sym ok))

-- a transaction's lines, where its begin was reported, and then its end
pub reported_turn : (result : Result Ended Fault) (how : Finish) (was txn : Id) (moment : ℕ) (keys : List Bytes)
    (asked : List Asked) (old between new : List Line) → txn ≡ was → between ≡ old ++ Begin was moment ∷ []
    → ((at : ℕ) → how ≡ finish.Committed at → asked_keys asked ≡ keys)
    → MatchResult result (λ end. (told : List Line) × IsReported how txn asked end told × (new ≡ between ++ told)) IsCutShort
    → MatchResult result (λ end. (told : List Line) × IsTransaction keys end told × (new ≡ old ++ told)) IsCutShort
reported_turn (Err fault) how was txn moment keys asked old between new same begins all is = is
reported_turn (Ok end) how was txn moment keys asked old between new same begins all is = (
  Begin txn moment ∷ is.0,
  record { txn = txn; moment = moment; behind = is.0; whole = refl; ends = reported_end how txn keys asked end is.0 is.1 all },
  is.2 ∙ (ap (λ (ls : List Line). ls ++ is.0) (begins ∙ ap (λ (t : Id). old ++ Begin t moment ∷ []) (sym same))
      ∙ append_assoc old (Begin txn moment ∷ []) is.0),
)

-- how many lines of each kind an end has
record EndCounts (end : Ended) (lines : List Line) : Type 0 where
  begins : count is_begin lines ≡ 0
  acks : count is_ack lines ≡ one_if_committed end
  reads : one_if_committed end ≤ count is_read lines
  looks : count is_look lines ≡ 0

end_counts : (keys : List Bytes) (txn : Id) (end : Ended) (lines : List Line) → 0 < length keys → IsEnd end txn keys lines → EndCounts end lines
end_counts keys txn ended.Committed lines some is =
    let many : length is.answers ≡ length keys =
    omega (arith, length-map is.answers (λ (a : Bytes × Option Bytes). a.0), ap length is.same) in
    record {
      begins = ap (count is_begin) is.whole ∙ no_begins txn is.answers;
      acks = ap (count is_ack) is.whole ∙ ap suc (no_acks txn is.answers);
      reads = omega (arith, ap (count is_read) is.whole, all_reads txn is.answers, many, some);
      looks = ap (count is_look) is.whole ∙ no_looks txn is.answers;
    }
end_counts keys txn ended.Aborted lines some is =
    record { begins = ap (count is_begin) is; acks = ap (count is_ack) is; reads = omega arith; looks = ap (count is_look) is }
end_counts keys txn ended.Unknown lines some is =
    record { begins = ap (count is_begin) is; acks = ap (count is_ack) is; reads = omega arith; looks = ap (count is_look) is }

-- and a look
record LookCounts (answered : Bool) (lines : List Line) : Type 0 where
  begins : count is_begin lines ≡ 0
  acks : count is_ack lines ≡ 0
  looks : count is_look lines ≡ one_if answered

look_counts : (answered : Bool) (keys : List Bytes) (lines : List Line) → IsLooked answered keys lines → LookCounts answered lines
look_counts true keys lines is =
    record { begins = ap (count is_begin) is.whole; acks = ap (count is_ack) is.whole; looks = ap (count is_look) is.whole }
look_counts false keys lines is = record { begins = ap (count is_begin) is; acks = ap (count is_ack) is; looks = ap (count is_look) is }

one_at_most : (b : Bool) → one_if b ≤ 1
one_at_most true = omega arith
one_at_most false = omega arith

-- nothing was done
pub none_tallied : (counts : Counts) (lines : List Line) → tried counts ≡ 0 → counts.committed ≡ 0 → counts.looks ≡ 0 → lines ≡ []
    → IsTally 0 counts lines
none_tallied counts lines none no_commit no_look empty = record {
  tried = none;
  looks = omega (arith, no_look);
  begin_lines = ap (count is_begin) empty;
  ack_lines = ap (count is_ack) empty ∙ sym no_commit;
  read_lines = omega (arith, no_commit);
  look_lines = ap (count is_look) empty ∙ sym no_look;
}

-- one more turn
pub next_tally : (turn : ℕ) (old new : Counts) (keys : List Bytes) (lines own all : List Line) (end : Ended) (answered : Bool) → 0 < length keys
    → IsTally turn old lines → IsTurn keys end answered own → all ≡ lines ++ own → tried new ≡ tried old + 1
    → new.committed ≡ old.committed + one_if_committed end → new.looks ≡ old.looks + one_if answered → IsTally (turn + 1) new all
next_tally turn old new keys lines own all end answered some is one whole more committed looks =
    let t = one.transacted in
    let e = end_counts keys t.txn end t.behind some t.ends in
    let l = look_counts answered keys one.look one.looked in
    let each : (kind : Line → Bool) → count kind all ≡ count kind lines + (count kind one.transaction + count kind one.look) =
    λ kind. ap (count kind) whole ∙ count-append kind lines own
    ∙ ap (λ n. count kind lines + n) (ap (count kind) one.whole ∙ count-append kind one.transaction one.look) in
    let begin : count is_begin one.transaction ≡ suc (count is_begin t.behind) = ap (count is_begin) t.whole in
    let ack : count is_ack one.transaction ≡ count is_ack t.behind = ap (count is_ack) t.whole in
    let read : count is_read one.transaction ≡ count is_read t.behind = ap (count is_read) t.whole in
    let look : count is_look one.transaction ≡ count is_look t.behind = ap (count is_look) t.whole in
    record {
      tried = omega (arith, more, is.tried);
      looks = omega (arith, looks, is.looks, one_at_most answered);
      begin_lines = omega (arith, each is_begin, begin, e.begins, l.begins, is.begin_lines);
      ack_lines = omega (arith, each is_ack, ack, e.acks, l.acks, is.ack_lines, committed);
      read_lines = omega (arith, each is_read, read, e.reads, is.read_lines, committed);
      look_lines = omega (arith, each is_look, look, e.looks, l.looks, is.look_lines, looks);
    }

-- two that follow each other
pub both_tallied : (n m : ℕ) (old other new : Counts) (lines own all : List Line) → IsTally n old lines → IsTally m other own → all ≡ lines ++ own
    → tried new ≡ tried old + tried other → new.committed ≡ old.committed + other.committed → new.looks ≡ old.looks + other.looks
    → IsTally (n + m) new all
both_tallied n m old other new lines own all is one whole more committed looks =
    let each : (kind : Line → Bool) → count kind all ≡ count kind lines + count kind own =
    λ kind. ap (count kind) whole ∙ count-append kind lines own in
    record {
      tried = omega (arith, more, is.tried, one.tried);
      looks = omega (arith, looks, is.looks, one.looks);
      begin_lines = omega (arith, each is_begin, is.begin_lines, one.begin_lines);
      ack_lines = omega (arith, each is_ack, is.ack_lines, one.ack_lines, committed);
      read_lines = omega (arith, each is_read, is.read_lines, one.read_lines, committed);
      look_lines = omega (arith, each is_look, is.look_lines, one.look_lines, looks);
    }

-- a turn has a key
some_once : (b : Bool) (k j : Bytes) → 0 < length (if b then k ∷ [] else k ∷ j ∷ [])
some_once true k j = omega arith
some_once false k j = omega arith

pub some_keys : (keys worker turn : ℕ) → 0 < length (turn_keys keys worker turn)
some_keys keys worker turn = some_once _ _ _

pub next_turns : (keys worker turn : ℕ) (before own lines : List Line) (end : Ended) (answered : Bool) → AreTurns keys worker turn before
    → IsTurn (turn_keys keys worker turn) end answered own → lines ≡ before ++ own → AreTurns keys worker (turn + 1) lines
next_turns keys worker turn before own lines end answered turns one whole =
    subst (λ (n : ℕ). AreTurns keys worker n lines) (sym (add-one turn)) (before, own, end, answered, whole, turns, one)

-- one more line, of the next answer
pub next_read : (txn : Id) (asked : List Asked) (a : Asked) → read_lines txn (asked ++ a ∷ []) ≡ read_lines txn asked ++ Read txn a.key a.value ∷ []
next_read txn [] a = refl
next_read txn (b ∷ rest) a = ap (λ (ls : List Line). Read txn b.key b.value ∷ ls) (next_read txn rest a)
