-- The parser's walk over the words of `inspect LINES LOG..` and `stats LOG..`, by induction on them.
use Rattle.std.proofs.Common.{◌≡◌, ◌∙◌, ℕ, Bool, true, false, refl, sym, ap, ap₂, List, [], ◌∷◌, ◌++◌, length, Option, Some, None, codes}
use Rattle.std.proofs.Common.{append-nil, append_assoc, suc, arith, ne_eqb}
use Rattle.std.specs.Prelude.{fold, if◌then◌else◌, nat_lt, ◌==◌}
use Rattle.std.specs.Option.{option_map_or}
use Rattle.std.proofs.lemmas.Bool.{le-ltb}
use Rattle.clap.specs.Lexer.{long_of}
use Rattle.clap.proofs.WalkLemmas.{both}
use Rattle.clap.specs.Words.{Row, Rule, Shape, Text, Kinds}
use Rattle.clap.specs.Kinds.{or_else, values_kinds}
use Rattle.clap.specs.declared.builder.value_parser.ValueParser.TheVariants.{String as any_text}
use Rattle.clap.specs.declared.error.kind.ErrorKind.TheVariants.{TooManyValues}
use Rattle.clap.specs.Walk.{Held, Step, Walk, value, positional, trailing, after_step, long_or_other, short_or_plain, word_met, finished}
use Rattle.clap.specs.Walk.{nothing_held, walk_from, walked, is_empty}
use Rattle.clap.specs.Simple.{rows_at}
use Rattle.clap.specs.Faults.{bundle_fault, defaults_fault, flag_word_fault, level_fault, step_fault, walk_fault, word_fault}
use Rattle.command_line.specs.Lines.{Word, are_plain, inspect, inspect_of, is_plain, stats, stats_of}
use Rattle.command_line.specs.Parser.{entry_of, inspect_app, row, stats_app}
use Rattle.command_line.proofs.LineLemmas.{Agrees, Reaches, end_fault, fault_step, leaf, no_dashes, no_long, no_short, placed, reach_end}
use Rattle.command_line.proofs.LineLemmas.{reach_more, walk_step}

abbrev pub inspect_leaf : Shape
inspect_leaf = leaf inspect_app.top

abbrev pub stats_leaf : Shape
stats_leaf = leaf stats_app.top

-- within several words, of which the first stood at this position
abbrev pub mid : ℕ → Held → Walk
mid p h = record { held = h; waiting = positional; position = p; is_trailing = false; stopped = None }

word_is_value_mid : (c : List Rule) (p : ℕ) (word : Word) (h : Held) → is_plain word ≡ true → word_met c [] false positional p word h ≡ (h, value)
word_is_value_mid c p word h e =
    ap (λ b. if b then (h, trailing p) else long_or_other c positional word (long_of word) h) (no_dashes word e)
    ∙ ap (λ o. long_or_other c positional word o h) (no_long word e)
    ∙ ap (λ o. short_or_plain c positional word o h) (no_short word e)

word_is_fine_mid : (s : Shape) (word : Word) (h : Held) → is_plain word ≡ true → word_fault s [] false positional word h ≡ []
word_is_fine_mid s word h e =
    ap (λ b. if b then [] else flag_word_fault s.rules s.args_override_self (long_of word) word h) (no_dashes word e)
    ∙ ap (λ o. flag_word_fault s.rules s.args_override_self o word h) (no_long word e)
    ∙ ap (λ o. option_map_or (λ flags. bundle_fault s.rules s.args_override_self flags h) o []) (no_short word e)

-- where each further word only joins those that wait
module _ (s : Shape) (p : ℕ) (held : List Word → Held)
    (joins : (before : List Word) (x : Word) → after_step s.rules x (mid p (held before)) (held before) value ≡ mid p (held (before ++ x ∷ [])))
    (fine : (before : List Word) → step_fault s p (held before) value ≡ [])
  where
    many_walk : (before words : List Word) → are_plain words ≡ true
        → fold (walked s.rules []) (mid p (held before)) words ≡ mid p (held (before ++ words))
    unfolding walked
    many_walk before [] e = ap (λ (ws : List Word). mid p (held ws)) (sym (append-nil before))
    many_walk before (x ∷ xs) e =
        let plain = both (is_plain x) (are_plain xs) e in
        ap (λ (m : Held × Step). fold (walked s.rules []) (after_step s.rules x (mid p (held before)) m.0 m.1) xs)
        (word_is_value_mid s.rules p x (held before) plain.0)
        ∙ ap (λ w. fold (walked s.rules []) w xs) (joins before x)
        ∙ many_walk (before ++ x ∷ []) xs plain.1
        ∙ ap (λ (ws : List Word). mid p (held ws)) (append_assoc before (x ∷ []) xs)

    many_quiet : (before words : List Word) → are_plain words ≡ true → walk_fault s [] (mid p (held before)) words ≡ []
    unfolding walked walk_fault
    many_quiet before [] e = refl
    many_quiet before (x ∷ xs) e =
        let plain = both (is_plain x) (are_plain xs) e in
        ap₂ (λ (m : Held × Step) (k : Kinds). or_else (or_else k (step_fault s p m.0 m.1))
        (walk_fault s [] (after_step s.rules x (mid p (held before)) m.0 m.1) xs))
        (word_is_value_mid s.rules p x (held before) plain.0) (word_is_fine_mid s x (held before) plain.0)
        ∙ ap₂ (λ (k : Kinds) (w : Walk). or_else k (walk_fault s [] w xs)) (fine before) (joins before x)
        ∙ many_quiet (before ++ x ∷ []) xs plain.1

-- LINES is there, and some LOGs wait
abbrev pub logs_held : Word → List Word → Held
logs_held lines logs = record { rows = row (codes "lines") lines ∷ []; pending = Some (codes "logs", logs); skip = 0 }

logs_walk : (lines : Word) (before logs : List Word) → are_plain logs ≡ true
    → fold (walked inspect_leaf.rules []) (mid 2 (logs_held lines before)) logs ≡ mid 2 (logs_held lines (before ++ logs))
logs_walk lines = many_walk inspect_leaf 2 (logs_held lines) (λ before x. refl) (λ before. refl)

logs_quiet : (lines : Word) (before logs : List Word) → are_plain logs ≡ true → walk_fault inspect_leaf [] (mid 2 (logs_held lines before)) logs ≡ []
logs_quiet lines = many_quiet inspect_leaf 2 (logs_held lines) (λ before x. refl) (λ before. refl)

values_fine : (texts : List Word) → values_kinds false any_text texts ≡ []
values_fine [] = refl
values_fine (x ∷ xs) = values_fine xs

abbrev lines_held : Word → Held
lines_held lines = (placed inspect_leaf.rules nothing_held 1 lines).held

-- up to the first LOG
first_log : (lines log : Word) (rest : List Word) → is_plain lines ≡ true → is_plain log ≡ true
    → (walk_fault inspect_leaf [] (walk_from nothing_held) (lines ∷ log ∷ rest) ≡ walk_fault inspect_leaf [] (mid 2 (logs_held lines (log ∷ []))) rest)
    × (fold (walked inspect_leaf.rules []) (walk_from nothing_held) (lines ∷ log ∷ rest)
    ≡ fold (walked inspect_leaf.rules []) (mid 2 (logs_held lines (log ∷ []))) rest)
first_log lines log rest a b =
    let one : Reaches inspect_leaf (lines ∷ log ∷ rest) (lines_held lines) 2 (log ∷ rest) =
    reach_more inspect_leaf (lines ∷ log ∷ rest) nothing_held (lines_held lines) 1 2 lines (log ∷ rest) a refl refl (refl, refl) in
    (one.0 ∙ fault_step inspect_leaf (lines_held lines) 2 log rest b, one.1 ∙ walk_step inspect_leaf.rules (lines_held lines) 2 log rest b)

-- LINES and some LOGs are refused exactly where there are more than 16
pub inspect_faults : (lines log : Word) (rest : List Word) → are_plain (lines ∷ log ∷ rest) ≡ true
    → level_fault inspect_leaf [] nothing_held (lines ∷ log ∷ rest) false [] ≡ (if nat_lt 16 (length (log ∷ rest)) then TooManyValues ∷ [] else [])
unfolding defaults_fault
inspect_faults lines log rest e =
    let p = both (is_plain lines) (are_plain (log ∷ rest)) e in
    let q = both (is_plain log) (are_plain rest) p.1 in
    let so_far = first_log lines log rest p.0 q.0 in
    let none_fewer : nat_lt (suc (length rest)) 1 ≡ false = le-ltb _ _ (omega arith) in
    ap₂ (λ (k : Kinds) (w : Walk). or_else k (end_fault inspect_leaf w.held)) (so_far.0 ∙ logs_quiet lines (log ∷ []) rest q.1)
    (so_far.1 ∙ logs_walk lines (log ∷ []) rest q.1)
    ∙ ends (nat_lt 16 (suc (length rest))) refl none_fewer (ne_eqb _ _ (λ none. omega arith))
  where
    ends : (b : Bool) → nat_lt 16 (suc (length rest)) ≡ b → nat_lt (suc (length rest)) 1 ≡ false → (suc (length rest) == 0) ≡ false
        → end_fault inspect_leaf (logs_held lines (log ∷ rest)) ≡ (if nat_lt 16 (suc (length rest)) then TooManyValues ∷ [] else [])
    ends true many few some = rw (few, many, some) refl
    ends false many few some = rw (few, many, some, values_fine rest) refl

-- LINES alone
lines_reached : (lines : Word) (rest : List Word) → is_plain lines ≡ true → Reaches inspect_leaf (lines ∷ rest) (lines_held lines) 2 rest
lines_reached lines rest e =
    reach_more inspect_leaf (lines ∷ rest) nothing_held (lines_held lines) 1 2 lines rest e refl refl (refl, refl)

-- what is found of LINES and some LOGs
inspect_rows : (lines log : Word) (rest : List Word) → are_plain (lines ∷ log ∷ rest) ≡ true
    → rows_at inspect_leaf (lines ∷ log ∷ rest) ≡ entry_of (inspect lines (log ∷ rest))
inspect_rows lines log rest e =
    let p = both (is_plain lines) (are_plain (log ∷ rest)) e in
    let q = both (is_plain log) (are_plain rest) p.1 in
    ap (λ (w : Walk). (codes "inspect", finished inspect_leaf.rules w.held)) ((first_log lines log rest p.0 q.0).1 ∙ logs_walk lines (log ∷ []) rest q.1)

pub inspect_agrees : (words : List Word) → are_plain words ≡ true
    → Agrees (inspect_of words) (level_fault inspect_leaf [] nothing_held words false []) (Some (rows_at inspect_leaf words))
unfolding defaults_fault
inspect_agrees [] e = ap is_empty (reach_end inspect_leaf [] nothing_held 1 (refl, refl))
inspect_agrees (lines ∷ []) e = ap is_empty (reach_end inspect_leaf (lines ∷ []) (lines_held lines) 2 (lines_reached lines [] (both _ _ e).0))
inspect_agrees (lines ∷ log ∷ rest) e =
    by (nat_lt 16 (length (log ∷ rest))) (inspect_faults lines log rest e) (ap (λ (r : Text × List Row). Some r) (inspect_rows lines log rest e))
  where
    by : (many : Bool) {faults : Kinds} {found : Option (Text × List Row)} → faults ≡ (if many then TooManyValues ∷ [] else [])
        → found ≡ Some (entry_of (inspect lines (log ∷ rest)))
        → Agrees (if many then None else Some (inspect lines (log ∷ rest))) faults found
    by true refused found = ap is_empty refused
    by false quiet found = (quiet, found)

-- ---- 1 to 16 LOGs

-- some LOGs wait
abbrev pub all_held : List Word → Held
all_held logs = record { rows = []; pending = Some (codes "logs", logs); skip = 0 }

all_walk : (before logs : List Word) → are_plain logs ≡ true
    → fold (walked stats_leaf.rules []) (mid 1 (all_held before)) logs ≡ mid 1 (all_held (before ++ logs))
all_walk = many_walk stats_leaf 1 all_held (λ before x. refl) (λ before. refl)

all_quiet : (before logs : List Word) → are_plain logs ≡ true → walk_fault stats_leaf [] (mid 1 (all_held before)) logs ≡ []
all_quiet = many_quiet stats_leaf 1 all_held (λ before x. refl) (λ before. refl)

-- some LOGs are refused exactly where there are more than 16
stats_faults : (log : Word) (rest : List Word) → are_plain (log ∷ rest) ≡ true
    → level_fault stats_leaf [] nothing_held (log ∷ rest) false [] ≡ (if nat_lt 16 (length (log ∷ rest)) then TooManyValues ∷ [] else [])
unfolding defaults_fault
stats_faults log rest e =
    let p = both (is_plain log) (are_plain rest) e in
    let none_fewer : nat_lt (suc (length rest)) 1 ≡ false = le-ltb _ _ (omega arith) in
    ap₂ (λ (k : Kinds) (w : Walk). or_else k (end_fault stats_leaf w.held))
    (fault_step stats_leaf nothing_held 1 log rest p.0 ∙ all_quiet (log ∷ []) rest p.1)
    (walk_step stats_leaf.rules nothing_held 1 log rest p.0 ∙ all_walk (log ∷ []) rest p.1)
    ∙ ends (nat_lt 16 (suc (length rest))) refl none_fewer (ne_eqb _ _ (λ none. omega arith))
  where
    ends : (b : Bool) → nat_lt 16 (suc (length rest)) ≡ b → nat_lt (suc (length rest)) 1 ≡ false → (suc (length rest) == 0) ≡ false
        → end_fault stats_leaf (all_held (log ∷ rest)) ≡ (if nat_lt 16 (suc (length rest)) then TooManyValues ∷ [] else [])
    ends true many few some = rw (few, many, some) refl
    ends false many few some = rw (few, many, some, values_fine rest) refl

-- what is found of some LOGs
stats_rows : (log : Word) (rest : List Word) → are_plain (log ∷ rest) ≡ true → rows_at stats_leaf (log ∷ rest) ≡ entry_of (stats (log ∷ rest))
stats_rows log rest e =
    let p = both (is_plain log) (are_plain rest) e in
    ap (λ (w : Walk). (codes "stats", finished stats_leaf.rules w.held))
    (walk_step stats_leaf.rules nothing_held 1 log rest p.0 ∙ all_walk (log ∷ []) rest p.1)

pub stats_agrees : (words : List Word) → are_plain words ≡ true
    → Agrees (stats_of words) (level_fault stats_leaf [] nothing_held words false []) (Some (rows_at stats_leaf words))
unfolding defaults_fault
stats_agrees [] e = ap is_empty (reach_end stats_leaf [] nothing_held 1 (refl, refl))
stats_agrees (log ∷ rest) e =
    by (nat_lt 16 (length (log ∷ rest))) (stats_faults log rest e) (ap (λ (r : Text × List Row). Some r) (stats_rows log rest e))
  where
    by : (many : Bool) {faults : Kinds} {found : Option (Text × List Row)} → faults ≡ (if many then TooManyValues ∷ [] else [])
        → found ≡ Some (entry_of (stats (log ∷ rest)))
        → Agrees (if many then None else Some (stats (log ∷ rest))) faults found
    by true refused found = ap is_empty refused
    by false quiet found = (quiet, found)
