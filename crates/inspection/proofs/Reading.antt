-- Records behind others, and logs behind others, one at a time.
use Rattle.std.proofs.Common.{◌≡◌, ◌∙◌, ◌++◌, ◌∷◌, [], ℕ, Bool, true, false, List, map, ap, refl, sym, subst, rules, Result, Ok, Err}
use Rattle.std.specs.Prelude.{MatchResult, IfErr, IfOk, IsFalse, if◌then◌else◌, Contains}
use Rattle.std.proofs.lemmas.List.Elements.{Contains-append_right}
use Rattle.units.specs.declared.fault.Fault.{Fault}
use Rattle.units.specs.declared.fault.Fault.TheVariants.{Damaged}
use Rattle.record.specs.Accepted.{followed}
use Rattle.record.specs.declared.record.Record.{Record}
use Rattle.gatelog.specs.Log.{is_no_log, log}
use Rattle.frames.specs.Placed.{Placed}
use Rattle.texts.specs.Numbers.{and_then}
use Rattle.inspection.specs.Files.{logs_behind, records_behind, shard_log}

-- the next record does not follow
pub stopped_at : (shard : ℕ) (before : List Record) (e : Placed) (rest : List Placed) → IsFalse (followed shard (before ++ e.item ∷ []))
    → records_behind shard before (e ∷ rest) ≡ Err (Damaged e.offset)
stopped_at shard before e rest strange =
    ap (λ (b : Bool). if b then records_behind shard (before ++ e.item ∷ []) rest else Err (Damaged e.offset)) strange

-- a fault that is answered is the one that was met
pub refused_with : {A : Type 0} (r : Result A Fault) (fault : Fault) (Reads : A → Type 0) (Refused : Fault → Type 0) → r ≡ Err fault → Refused fault
    → MatchResult r Reads Refused
refused_with r fault Reads Refused is refused = subst (λ x. MatchResult x Reads Refused) (sym is) refused

pub refuses : {A : Type 0} (r : Result A Fault) (fault : Fault) (Refused : Fault → Type 0) → r ≡ Err fault → Refused fault → IfErr r Refused
refuses r fault Refused is refused = subst (λ x. IfErr x Refused) (sym is) refused

-- damage is all that records are refused for
abbrev Found : Type 0
Found = Result (List Record) Fault

abbrev refusal : Fault → Found
refusal fault = Err fault

abbrev found : List Record → Found
found records = Ok records

is_damage : (offset : ℕ) (fault : Fault) → refusal (Damaged offset) ≡ refusal fault → is_no_log fault ≡ true
is_damage offset fault is =
    let same : Damaged offset ≡ fault = cc in
    subst (λ f. is_no_log f ≡ true) same refl

all_read : (records : List Record) (fault : Fault) → found records ≡ refusal fault → ⊥
all_read records fault is = cc

pub only_damage : (shard : ℕ) (before : List Record) (entries : List Placed) (fault : Fault) → records_behind shard before entries ≡ Err fault
    → is_no_log fault ≡ true
only_damage shard before [] fault is = absurd (all_read before fault is)
only_damage shard before (e ∷ es) fault is = by (followed shard (before ++ e.item ∷ [])) (only_damage shard (before ++ e.item ∷ []) es fault) is
  where
    by : (b : Bool) → (records_behind shard (before ++ e.item ∷ []) es ≡ Err fault → is_no_log fault ≡ true)
        → (if b then records_behind shard (before ++ e.item ∷ []) es else Err (Damaged e.offset)) ≡ Err fault → is_no_log fault ≡ true
    by true later is = later is
    by false later is = is_damage e.offset fault is

-- a log that was found is refused for a record of it
pub refused_records : (shard : ℕ) (image : List ℕ) (entries shown : List Placed) (fault : Fault) → log image ≡ Ok entries → shown ≡ entries
    → records_behind shard [] shown ≡ Err fault → shard_log shard image ≡ Err fault
refused_records shard image entries shown fault found same refused =
    ap (λ (r : Result (List Placed) Fault). and_then r (records_behind shard [])) found
    ∙ ap (records_behind shard []) (sym same) ∙ refused

-- an element with others before and behind it
pub among : {X : Type 0} (front : List X) (x : X) (back whole : List X) → front ++ (x ∷ back) ≡ whole → Contains whole x
among front x back whole is = subst (λ xs. Contains xs x) is (Contains-append_right front (x ∷ back) x (search rules))

-- the next disk's log is read
pub at_turn : {X : Type 0} (seen : X → List ℕ) (before : List (List Record)) (whole last : Result (List (List Record)) Fault) (left : List X) (x : X)
    (rest : List X) → whole ≡ logs_behind before (map seen left) → left ≡ x ∷ rest → logs_behind before (seen x ∷ map seen rest) ≡ last → whole ≡ last
at_turn seen before whole last left x rest so_far steps next = so_far ∙ ap (λ xs. logs_behind before (map seen xs)) steps ∙ next

-- a verdict on some lines
pub on-some-lines : {L T E : Type 0} (P : L → T → Type 0) (lines : L) (r : Result T E) → IfOk r (P lines) → IfOk r (λ t. (ls : L) × P ls t)
on-some-lines P lines (Ok t) is = (lines, is)
on-some-lines P lines (Err e) is = tt
