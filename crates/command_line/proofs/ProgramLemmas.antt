-- The parser's walk over a command line of the program: its first word names a command.
use Rattle.std.proofs.Common.{◌≡◌, ◌∙◌, ◌||◌, Bool, true, false, refl, sym, ap, ap₂, subst, List, [], ◌∷◌, Option, Some, None, codes}
use Rattle.std.proofs.Common.{true≢false}
use Rattle.std.specs.Prelude.{find, option_map, cond, fold, is_some, if◌then◌else◌}
use Rattle.std.specs.Option.{option_map_or}
use Rattle.std.specs.Str.{bytes_eq}
use Rattle.std.proofs.lemmas.Slice.Eq.{bytes_eq-Decides}
use Rattle.clap.proofs.WalkLemmas.{both}
use Rattle.clap.proofs.FaultLemmas.{stopped_fault}
use Rattle.clap.specs.Words.{App, Row, Shape, Text, Kinds, built, fault_of, subcommand_of}
use Rattle.clap.specs.Kinds.{or_else}
use Rattle.clap.specs.Walk.{answers_to, subcommand_met, Step}
use Rattle.clap.specs.Walk.{Held, Names, Walk, idle, value, finished, is_empty, nothing_held, settled, walk, walk_from}
use Rattle.clap.specs.Walk.{walked}
use Rattle.clap.specs.Simple.{entered, label_of, rows_at, names_of}
use Rattle.clap.specs.Faults.{entered_fault, turn_fault, check_fault, defaults_fault}
use Rattle.clap.specs.Faults.{level_fault, settle_fault, step_fault, walk_fault}
use Rattle.command_line.specs.Lines.{CommandLine, Word, are_plain, one_file, is_plain, line_of, once_of, inspect_of, history_of, get_of, put_of}
use Rattle.command_line.specs.Lines.{stats_of, two_files, format, play, drive, dump, migrate, compact}
use Rattle.command_line.specs.Parser.{entry_of, shards_app}
use Rattle.command_line.proofs.LineLemmas.{Agrees, agrees_as, file_agrees, file_leaf, get_agrees, get_leaf, history_agrees, history_leaf}
use Rattle.command_line.proofs.LineLemmas.{once_agrees, once_leaf, pair_agrees, pair_leaf, put_agrees, put_leaf, refused_first, stopped_walk}
use Rattle.command_line.proofs.LineLemmas.{word_is_fine, word_is_value}
use Rattle.command_line.proofs.ManyLemmas.{inspect_agrees, inspect_leaf, stats_agrees, stats_leaf}

-- ---- the level above

abbrev pub program : App
program = built shards_app

abbrev pub program_names : Names
program_names = names_of program

abbrev pub stopped_at : Word → List Word → Walk
stopped_at name words = record (walk_from nothing_held) { stopped = Some (name, words) }

abbrev pub top_end : Held → Bool → Kinds
top_end h has = or_else (settle_fault program.top.rules program.top.args_override_self h)
    (or_else (defaults_fault (settled program.top.rules h).rows program.top.rules)
    (check_fault program.top (finished program.top.rules h) has))

or_else-nil : (a : Kinds) → or_else a [] ≡ a
or_else-nil [] = refl
or_else-nil (k ∷ ks) = refl

stops : (name : Word) (rest : List Word) → walked program.top.rules program_names (walk_from nothing_held) name ≡ stopped_at name []
    → walk program.top.rules program_names nothing_held (name ∷ rest) ≡ stopped_at name rest
stops name rest starts =
    ap (λ w. fold (walked program.top.rules program_names) w rest) starts
    ∙ stopped_walk program.top.rules program_names (walk_from nothing_held) name [] rest

-- a command by its name
pub enters : (name : Word) (s : Shape) (rest : List Word)
    → walked program.top.rules program_names (walk_from nothing_held) name ≡ stopped_at name []
    → turn_fault program.top program_names (walk_from nothing_held) name ≡ []
    → find (λ x. answers_to name (label_of x)) program.subs ≡ Some s
    → fault_of shards_app (name ∷ rest) ≡ level_fault s [] nothing_held rest false []
unfolding walk_fault defaults_fault
enters name s rest starts fine found =
    let quiet : walk_fault program.top program_names (walk_from nothing_held) (name ∷ rest) ≡ [] =
    ap₂ (λ k w. or_else k (walk_fault program.top program_names w rest)) fine starts
    ∙ stopped_fault program.top program_names (walk_from nothing_held) (name, []) rest in
    ap₂ (λ (k : Kinds) (w : Walk). or_else k (or_else (entered_fault program w.stopped) (top_end w.held (is_some (entered program w.stopped)))))
    quiet (stops name rest starts)
    ∙ ap (λ (o : Option Shape). or_else (option_map_or (λ x. level_fault x [] nothing_held rest false []) o [])
    (top_end nothing_held (is_some (option_map (λ x. rows_at x rest) o)))) found
    ∙ or_else-nil (level_fault s [] nothing_held rest false [])

-- and what it is given
pub enters_with : (name : Word) (s : Shape) (rest : List Word)
    → walked program.top.rules program_names (walk_from nothing_held) name ≡ stopped_at name []
    → find (λ x. answers_to name (label_of x)) program.subs ≡ Some s
    → subcommand_of shards_app (name ∷ rest) ≡ Some (rows_at s rest)
enters_with name s rest starts found =
    ap (λ (w : Walk). entered program w.stopped) (stops name rest starts)
    ∙ ap (λ (o : Option Shape). option_map (λ x. rows_at x rest) o) found

-- ---- a first word that names no command

abbrev pub chosen : Bool → Bool → Bool → Bool → Bool → Bool → Bool → Bool → Bool → Bool → Bool → Bool → List Word → Option CommandLine
chosen a b c d f h p q r s t u rest =
    if a then once_of rest else (if b then one_file format rest else (if c then one_file play rest
    else (if d then inspect_of rest else (if f then one_file drive rest
    else (if h then one_file dump rest else (if p then history_of rest else (if q then get_of rest
    else (if r then put_of rest else (if s then stats_of rest else (if t then two_files migrate rest
    else (if u then two_files compact rest else None)))))))))))

abbrev pub met : Bool → Bool → Bool → Bool → Bool → Bool → Bool → Bool → Bool → Bool → Bool → Bool → Option Text
met a b c d f h p q r s t u = option_map (λ (x : Text × List Text). x.0)
    (cond (a || false) (Some (codes "once", [])) (cond (b || false) (Some (codes "format", []))
    (cond (c || false) (Some (codes "play", [])) (cond (d || false) (Some (codes "inspect", []))
    (cond (f || false) (Some (codes "drive", [])) (cond (h || false) (Some (codes "dump", []))
    (cond (p || false) (Some (codes "history", [])) (cond (q || false) (Some (codes "get", []))
    (cond (r || false) (Some (codes "put", [])) (cond (s || false) (Some (codes "stats", []))
    (cond (t || false) (Some (codes "migrate", [])) (cond (u || false) (Some (codes "compact", [])) None))))))))))))

other_agrees : (name : Word) (rest : List Word) → is_plain name ≡ true
    → bytes_eq (codes "once") name ≡ false → bytes_eq (codes "format") name ≡ false → bytes_eq (codes "play") name ≡ false
    → bytes_eq (codes "inspect") name ≡ false → bytes_eq (codes "drive") name ≡ false → bytes_eq (codes "dump") name ≡ false
    → bytes_eq (codes "history") name ≡ false → bytes_eq (codes "get") name ≡ false → bytes_eq (codes "put") name ≡ false
    → bytes_eq (codes "stats") name ≡ false → bytes_eq (codes "migrate") name ≡ false → bytes_eq (codes "compact") name ≡ false
    → Agrees (line_of (name ∷ rest)) (fault_of shards_app (name ∷ rest)) (subcommand_of shards_app (name ∷ rest))
unfolding walk_fault walked
other_agrees name rest e a b c d f h p q r s t u =
    let not_a_line : line_of (name ∷ rest) ≡ None = λ i. chosen (a i) (b i) (c i) (d i) (f i) (h i) (p i) (q i) (r i) (s i) (t i) (u i) rest in
    let no_command : subcommand_met program_names idle name ≡ None = λ i. met (a i) (b i) (c i) (d i) (f i) (h i) (p i) (q i) (r i) (s i) (t i) (u i) in
    let turns : turn_fault program.top program_names (walk_from nothing_held) name ≡ or_else [] (step_fault program.top 1 nothing_held value) =
    ap₂ (λ (k : Kinds) (m : Held × Step). or_else k (step_fault program.top 1 m.0 m.1))
    (word_is_fine program.top program_names name nothing_held e no_command)
    (word_is_value program.top.rules program_names 1 name nothing_held e no_command) in
    let refused : is_empty (turn_fault program.top program_names (walk_from nothing_held) name) ≡ false = ap is_empty turns in
    let walks : is_empty (walk_fault program.top program_names (walk_from nothing_held) (name ∷ rest)) ≡ false = refused_first _ _ refused in
    subst (λ o. Agrees o (fault_of shards_app (name ∷ rest)) (subcommand_of shards_app (name ∷ rest))) (sym not_a_line)
    (refused_first _ _ walks)

-- ---- any plain words

-- by a test
choose : {A : Type 0} (b : Bool) → (b ≡ true → A) → (b ≡ false → A) → A
choose true is_true is_false = is_true refl
choose false is_true is_false = is_false refl

abbrev pub AgreesAt : List Word → Type 0
AgreesAt words = Agrees (line_of words) (fault_of shards_app words) (subcommand_of shards_app words)

-- where the first word is a command's name, by the walk over the others
named : (name known : Word) (s : Shape) (rest : List Word) → bytes_eq known name ≡ true
    → walked program.top.rules program_names (walk_from nothing_held) known ≡ stopped_at known []
    → turn_fault program.top program_names (walk_from nothing_held) known ≡ []
    → find (λ x. answers_to known (label_of x)) program.subs ≡ Some s
    → Agrees (line_of (known ∷ rest)) (level_fault s [] nothing_held rest false []) (Some (rows_at s rest)) → AgreesAt (name ∷ rest)
named name known s rest same starts fine found agrees =
    subst (λ n. AgreesAt (n ∷ rest)) ((bytes_eq-Decides known name).0 same)
    (agrees_as (line_of (known ∷ rest)) _ _ _ _ (enters known s rest starts fine found) (enters_with known s rest starts found) agrees)

pub words_agree : (words : List Word) → are_plain words ≡ true → AgreesAt words
unfolding walk_fault walked defaults_fault
words_agree [] e = refl
words_agree (name ∷ rest) e =
    let plain = both (is_plain name) (are_plain rest) e in
    choose (bytes_eq (codes "once") name) (λ a. named name (codes "once") once_leaf rest a refl refl refl (once_agrees rest plain.1)) (λ a.
    choose (bytes_eq (codes "format") name)
    (λ b. named name (codes "format") (file_leaf (codes "format")) rest b refl refl refl (file_agrees (codes "format") format (λ _. refl) rest plain.1)) (λ b.
    choose (bytes_eq (codes "play") name)
    (λ c. named name (codes "play") (file_leaf (codes "play")) rest c refl refl refl (file_agrees (codes "play") play (λ _. refl) rest plain.1)) (λ c.
    choose (bytes_eq (codes "inspect") name) (λ d. named name (codes "inspect") inspect_leaf rest d refl refl refl (inspect_agrees rest plain.1)) (λ d.
    choose (bytes_eq (codes "drive") name)
    (λ f. named name (codes "drive") (file_leaf (codes "drive")) rest f refl refl refl (file_agrees (codes "drive") drive (λ _. refl) rest plain.1)) (λ f.
    choose (bytes_eq (codes "dump") name)
    (λ h. named name (codes "dump") (file_leaf (codes "dump")) rest h refl refl refl (file_agrees (codes "dump") dump (λ _. refl) rest plain.1)) (λ h.
    choose (bytes_eq (codes "history") name) (λ p. named name (codes "history") history_leaf rest p refl refl refl (history_agrees rest plain.1)) (λ p.
    choose (bytes_eq (codes "get") name) (λ q. named name (codes "get") get_leaf rest q refl refl refl (get_agrees rest plain.1)) (λ q.
    choose (bytes_eq (codes "put") name) (λ r. named name (codes "put") put_leaf rest r refl refl refl (put_agrees rest plain.1)) (λ r.
    choose (bytes_eq (codes "stats") name) (λ s. named name (codes "stats") stats_leaf rest s refl refl refl (stats_agrees rest plain.1)) (λ s.
    choose (bytes_eq (codes "migrate") name) (λ t. named name (codes "migrate") (pair_leaf (codes "migrate")) rest t refl refl refl
    (pair_agrees (codes "migrate") migrate (λ _ _. refl) rest plain.1)) (λ t.
    choose (bytes_eq (codes "compact") name) (λ u. named name (codes "compact") (pair_leaf (codes "compact")) rest u refl refl refl
    (pair_agrees (codes "compact") compact (λ _ _. refl) rest plain.1)) (λ u.
    other_agrees name rest plain.0 a b c d f h p q r s t u))))))))))))

-- ---- what the parse answers

-- where the parse finds what it should, so does the reading of its matches
pub line_found : (words : List Word) → are_plain words ≡ true → fault_of shards_app words ≡ []
    → (line : CommandLine) × (line_of words ≡ Some line) × (subcommand_of shards_app words ≡ Some (entry_of line))
line_found words e none = go (line_of words) (fault_of shards_app words) (subcommand_of shards_app words) refl none (words_agree words e)
  where
    go : (o : Option CommandLine) (faults : Kinds) (found : Option (Text × List Row)) → line_of words ≡ o → faults ≡ [] → Agrees o faults found
        → (line : CommandLine) × (line_of words ≡ Some line) × (found ≡ Some (entry_of line))
    go None faults found is quiet agrees = absurd (true≢false (sym (ap is_empty quiet) ∙ agrees))
    go (Some line) faults found is quiet agrees = (line, is, agrees.1)

-- where it fails for no want of memory, the words are no line
pub line_refused : (words : List Word) → are_plain words ≡ true → (fault_of shards_app words ≡ [] → ⊥) → line_of words ≡ None
line_refused words e fails = go (line_of words) (fault_of shards_app words) (subcommand_of shards_app words) refl fails (words_agree words e)
  where
    go : (o : Option CommandLine) (faults : Kinds) (found : Option (Text × List Row)) → line_of words ≡ o → (faults ≡ [] → ⊥) → Agrees o faults found
        → line_of words ≡ None
    go None faults found is some agrees = is
    go (Some line) faults found is some agrees = absurd (some agrees.0)
