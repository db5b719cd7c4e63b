-- The parser's walk over the words of one command.
use Rattle.std.proofs.Common.{◌≡◌, ◌∙◌, ◌&&◌, ℕ, suc, true, false, refl, sym, ap, ap₂, subst, List, [], ◌∷◌, ◌++◌, Option, Some, None, codes}
use Rattle.std.proofs.Common.{true≢false, append-nil, append_assoc}
use Rattle.std.specs.Prelude.{◌==◌, Bool, fold, if◌then◌else◌, option_and_then}
use Rattle.std.specs.Option.{option_map_or}
use Rattle.std.specs.Str.{bytes_eq}
use Rattle.clap.specs.Lexer.{long_of, long_of_rest, short_of, short_of_rest, strip_byte}
use Rattle.clap.proofs.WalkLemmas.{both}
use Rattle.clap.proofs.SimpleLemmas.{is_false}
use Rattle.clap.specs.Words.{Row, Rule, Shape, Text, Kinds}
use Rattle.clap.specs.Kinds.{or_else}
use Rattle.clap.specs.Walk.{subcommand_met, subcommand_or_other, Step, trailing, after_step, long_or_other, short_or_plain, word_met}
use Rattle.clap.specs.Walk.{Held, Names, Walk, idle, value, arg_by_index, finished, is_empty, nothing_held, settled, to_positional, walk_from}
use Rattle.clap.specs.Walk.{walked}
use Rattle.clap.specs.Simple.{rows_at, built_leaf, inherited}
use Rattle.clap.specs.Faults.{other_fault, bundle_fault, flag_word_fault, word_fault, check_fault, defaults_fault}
use Rattle.clap.specs.Faults.{level_fault, settle_fault, step_fault, walk_fault}
use Rattle.command_line.specs.Lines.{CommandLine, Word, are_plain, get, get_of, history, history_of, is_plain, once, once_of, one_file, put, put_of, two_files}
use Rattle.command_line.specs.Parser.{bare_app, entry_of, file_app, get_app, history_app, once_app, pair_app, put_app, row}

-- ---- one word that is no flag

-- what a hyphen alone, or another byte, has behind it
one_long : (b : Bool) → option_and_then long_of_rest (option_and_then (strip_byte 45) (if b then Some [] else None)) ≡ None
one_long true = refl
one_long false = refl

one_short : (b : Bool) → option_and_then short_of_rest (if b then Some [] else None) ≡ None
one_short true = refl
one_short false = refl

one_dash : (b : Bool) → (b && false) ≡ false
one_dash true = refl
one_dash false = refl

pub no_long : (word : Word) → is_plain word ≡ true → long_of word ≡ None
no_long [] e = refl
no_long (c ∷ []) e = one_long (c == 45)
no_long (c ∷ d ∷ cs) e =
    ap (λ b. option_and_then long_of_rest (option_and_then (strip_byte 45) (if b then Some (d ∷ cs) else None))) (is_false _ e)

pub no_short : (word : Word) → is_plain word ≡ true → short_of word ≡ None
no_short [] e = refl
no_short (c ∷ []) e = one_short (c == 45)
no_short (c ∷ d ∷ cs) e = ap (λ b. option_and_then short_of_rest (if b then Some (d ∷ cs) else None)) (is_false _ e)

pub no_dashes : (word : Word) → is_plain word ≡ true → bytes_eq word (45 ∷ 45 ∷ []) ≡ false
no_dashes [] e = refl
no_dashes (c ∷ []) e = one_dash (c == 45)
no_dashes (c ∷ d ∷ cs) e = ap (λ b. b && bytes_eq (d ∷ cs) (45 ∷ [])) (is_false _ e)

-- such a word goes to a positional
pub word_is_value : (c : List Rule) (names : Names) (p : ℕ) (word : Word) (h : Held) → is_plain word ≡ true
    → subcommand_met names idle word ≡ None → word_met c names false idle p word h ≡ (h, value)
word_is_value c names p word h e none =
    ap (λ o. subcommand_or_other c o idle p word h) none
    ∙ ap (λ b. if b then (h, trailing p) else long_or_other c idle word (long_of word) h) (no_dashes word e)
    ∙ ap (λ o. long_or_other c idle word o h) (no_long word e)
    ∙ ap (λ o. short_or_plain c idle word o h) (no_short word e)

-- and is no fault of its own
pub word_is_fine : (s : Shape) (names : Names) (word : Word) (h : Held) → is_plain word ≡ true
    → subcommand_met names idle word ≡ None → word_fault s names false idle word h ≡ []
word_is_fine s names word h e none =
    ap (λ o. other_fault s o word h) none
    ∙ ap (λ b. if b then [] else flag_word_fault s.rules s.args_override_self (long_of word) word h) (no_dashes word e)
    ∙ ap (λ o. flag_word_fault s.rules s.args_override_self o word h) (no_long word e)
    ∙ ap (λ o. option_map_or (λ flags. bundle_fault s.rules s.args_override_self flags h) o []) (no_short word e)

-- a walk that is about to read the word for a position
abbrev pub at : Held → ℕ → Walk
at h p = record { held = h; waiting = idle; position = p; is_trailing = false; stopped = None }

-- where a plain word takes it
abbrev pub placed : List Rule → Held → ℕ → Word → Walk
placed c h p word = to_positional c (arg_by_index c p) word (at h p) h

pub walk_step : (c : List Rule) (h : Held) (p : ℕ) (word : Word) (rest : List Word) → is_plain word ≡ true
    → fold (walked c []) (at h p) (word ∷ rest) ≡ fold (walked c []) (placed c h p word) rest
unfolding walked
walk_step c h p word rest e =
    ap (λ (m : Held × Step). fold (walked c []) (after_step c word (at h p) m.0 m.1) rest) (word_is_value c [] p word h e refl)

pub fault_step : (s : Shape) (h : Held) (p : ℕ) (word : Word) (rest : List Word) → is_plain word ≡ true
    → walk_fault s [] (at h p) (word ∷ rest)
    ≡ or_else (step_fault s p h value) (walk_fault s [] (placed s.rules h p word) rest)
unfolding walked walk_fault
fault_step s h p word rest e =
    ap₂ (λ (m : Held × Step) (k : Kinds). or_else (or_else k (step_fault s p m.0 m.1)) (walk_fault s [] (after_step s.rules word (at h p) m.0 m.1) rest))
    (word_is_value s.rules [] p word h e refl) (word_is_fine s [] word h e refl)

-- ---- after the command's name

pub stopped_walk : (c : List Rule) (names : Names) (w : Walk) (name : Word) (before words : List Word)
    → fold (walked c names) (record w { stopped = Some (name, before) }) words ≡ record w { stopped = Some (name, before ++ words) }
unfolding walked
stopped_walk c names w name before [] = ap (λ (xs : List Word). record w { stopped = Some (name, xs) }) (sym (append-nil before))
stopped_walk c names w name before (x ∷ xs) =
    stopped_walk c names w name (before ++ x ∷ []) xs
    ∙ ap (λ (ys : List Word). record w { stopped = Some (name, ys) }) (append_assoc before (x ∷ []) xs)

-- ---- the commands as they are built

abbrev pub leaf : Shape → Shape
leaf s = built_leaf (inherited bare_app.top s)

abbrev pub once_leaf : Shape
once_leaf = leaf once_app.top

abbrev pub file_leaf : Word → Shape
file_leaf name = leaf (file_app name).top

-- what the end of a walk leaves to refuse
abbrev pub end_fault : Shape → Held → Kinds
end_fault s end = or_else (settle_fault s.rules s.args_override_self end)
    (or_else (defaults_fault (settled s.rules end).rows s.rules) (check_fault s (finished s.rules end) false))

-- a level of which the walk meets no fault
pub level_ends : (s : Shape) (words : List Word) (h : Held) (p : ℕ)
    → walk_fault s [] (walk_from nothing_held) words ≡ []
    → fold (walked s.rules []) (walk_from nothing_held) words ≡ at h p
    → level_fault s [] nothing_held words false [] ≡ end_fault s h
level_ends s words h p quiet there =
    ap₂ (λ (k : Kinds) (w : Walk). or_else k (end_fault s w.held)) quiet there

-- where the walk stands after some words, and that it met no fault so far
abbrev pub Reaches : Shape → List Word → Held → ℕ → List Word → Type 0
Reaches s words h p rest =
    (walk_fault s [] (walk_from nothing_held) words ≡ walk_fault s [] (at h p) rest)
    × (fold (walked s.rules []) (walk_from nothing_held) words ≡ fold (walked s.rules []) (at h p) rest)

-- one word more
pub reach_more : (s : Shape) (words : List Word) (h after : Held) (p q : ℕ) (word : Word) (rest : List Word) → is_plain word ≡ true
    → step_fault s p h value ≡ [] → placed s.rules h p word ≡ at after q
    → Reaches s words h p (word ∷ rest) → Reaches s words after q rest
reach_more s words h after p q word rest e fine there so_far = (
  so_far.0 ∙ fault_step s h p word rest e ∙ ap₂ (λ k w. or_else k (walk_fault s [] w rest)) fine there,
  so_far.1 ∙ walk_step s.rules h p word rest e ∙ ap (λ w. fold (walked s.rules []) w rest) there,
)

pub reach_end : (s : Shape) (words : List Word) (h : Held) (p : ℕ) → Reaches s words h p []
    → level_fault s [] nothing_held words false [] ≡ end_fault s h
unfolding walk_fault
reach_end s words h p there = level_ends s words h p there.0 there.1

-- the faults are none exactly where the words are a line, and then it is found
abbrev pub Agrees : Option CommandLine → Kinds → Option (Text × List Row) → Type 0
Agrees None faults found = is_empty faults ≡ false
Agrees (Some line) faults found = (faults ≡ []) × (found ≡ Some (entry_of line))

pub agrees_as : (o : Option CommandLine) (a b : Kinds) (x y : Option (Text × List Row)) → a ≡ b → x ≡ y → Agrees o b y → Agrees o a x
agrees_as o a b x y e f h = subst (λ k. Agrees o k x) (sym e) (subst (Agrees o b) (sym f) h)

pub refused_first : (a b : Kinds) → is_empty a ≡ false → is_empty (or_else a b) ≡ false
refused_first [] b e = absurd (true≢false e)
refused_first (k ∷ ks) b e = e

-- a word more than the command has places for
pub reach_stray : (s : Shape) (words : List Word) (h : Held) (p : ℕ) (word : Word) (rest : List Word) → is_plain word ≡ true
    → is_empty (step_fault s p h value) ≡ false → Reaches s words h p (word ∷ rest)
    → is_empty (level_fault s [] nothing_held words false []) ≡ false
reach_stray s words h p word rest e stray there =
    let walks : is_empty (walk_fault s [] (walk_from nothing_held) words) ≡ false =
    ap is_empty (there.0 ∙ fault_step s h p word rest e) ∙ refused_first (step_fault s p h value) _ stray in
    refused_first (walk_fault s [] (walk_from nothing_held) words) _ walks

-- ---- words of which each takes a place of its own

-- where they leave a walk, and at which place
abbrev pub held_after : Shape → Held → ℕ → List Word → Held
held_after s h p [] = h
held_after s h p (word ∷ words) = held_after s (placed s.rules h p word).held (suc p) words

abbrev pub place_after : ℕ → List Word → ℕ
place_after p [] = p
place_after p (word ∷ words) = place_after (suc p) words

-- none is a fault, and each takes the next place
abbrev pub TakePlaces : Shape → Held → ℕ → List Word → Type 0
TakePlaces s h p [] = Unit {0}
TakePlaces s h p (word ∷ words) =
    ((step_fault s p h value ≡ []) × (placed s.rules h p word ≡ at (placed s.rules h p word).held (suc p)))
    × TakePlaces s (placed s.rules h p word).held (suc p) words

reach_all : (s : Shape) (all : List Word) (h : Held) (p : ℕ) (words rest : List Word) → TakePlaces s h p words → are_plain words ≡ true
    → Reaches s all h p (words ++ rest) → Reaches s all (held_after s h p words) (place_after p words) rest
reach_all s all h p [] rest takes e so_far = so_far
reach_all s all h p (word ∷ words) rest takes e so_far =
    let plain = both (is_plain word) (are_plain words) e in
    reach_all s all (placed s.rules h p word).held (suc p) words rest takes.1 plain.1
    (reach_more s all h (placed s.rules h p word).held p (suc p) word (words ++ rest) plain.0 takes.0.0 takes.0.1 so_far)

plain_parts : (words rest : List Word) → are_plain (words ++ rest) ≡ true → (are_plain words ≡ true) × (are_plain rest ≡ true)
plain_parts [] rest e = (refl, e)
plain_parts (word ∷ words) rest e =
    let first = both (is_plain word) (are_plain (words ++ rest)) e in
    let others = plain_parts words rest first.1 in
    (ap₂ (λ a b. a && b) first.0 others.0, others.1)

module _ (s : Shape) (words : List Word) (takes : TakePlaces s nothing_held 1 words) where
  abbrev end_held : Held
  end_held = held_after s nothing_held 1 words

  reached : are_plain words ≡ true → Reaches s words end_held (place_after 1 words) []
  reached e = reach_all s words nothing_held 1 words [] takes e (subst (λ ws. Reaches s words nothing_held 1 ws) (sym (append-nil words)) (refl, refl))

  -- fewer words than the command wants
  pub too_few : are_plain words ≡ true → is_empty (end_fault s end_held) ≡ false → is_empty (level_fault s [] nothing_held words false []) ≡ false
  too_few e left = ap is_empty (reach_end s words end_held (place_after 1 words) (reached e)) ∙ left

  -- the words of a line
  pub all_taken : (line : CommandLine) → are_plain words ≡ true → end_fault s end_held ≡ [] → (s.name, finished s.rules end_held) ≡ entry_of line
      → Agrees (Some line) (level_fault s [] nothing_held words false []) (Some (rows_at s words))
  all_taken line e quiet is = (
    reach_end s words end_held (place_after 1 words) (reached e) ∙ quiet,
    ap (λ (w : Walk). Some (s.name, finished s.rules w.held)) (reached e).1 ∙ ap (λ (r : Text × List Row). Some r) is,
  )

  -- and one that it has no place for
  pub too_many : (word : Word) (rest : List Word) → are_plain (words ++ word ∷ rest) ≡ true
      → is_empty (step_fault s (place_after 1 words) end_held value) ≡ false
      → is_empty (level_fault s [] nothing_held (words ++ word ∷ rest) false []) ≡ false
  too_many word rest e stray =
      let plain = plain_parts words (word ∷ rest) e in
      reach_stray s (words ++ word ∷ rest) end_held (place_after 1 words) word rest (both (is_plain word) (are_plain rest) plain.1).0 stray
      (reach_all s (words ++ word ∷ rest) nothing_held 1 words (word ∷ rest) takes plain.0 (refl, refl))

-- ---- FILE

pub file_agrees : (name : Word) (make : Word → CommandLine) → ((file : Word) → (name, row (codes "file") file ∷ []) ≡ entry_of (make file))
    → (words : List Word) → are_plain words ≡ true
    → Agrees (one_file make words) (level_fault (file_leaf name) [] nothing_held words false []) (Some (rows_at (file_leaf name) words))
unfolding defaults_fault
file_agrees name make is [] e = too_few (file_leaf name) [] tt e refl
file_agrees name make is (file ∷ []) e = all_taken (file_leaf name) (file ∷ []) ((refl, refl), tt) (make file) e refl (is file)
file_agrees name make is (file ∷ word ∷ rest) e = too_many (file_leaf name) (file ∷ []) ((refl, refl), tt) word rest e refl

-- ---- OLD NEW

abbrev pub pair_leaf : Word → Shape
pair_leaf name = leaf (pair_app name).top

pub pair_agrees : (name : Word) (make : Word → Word → CommandLine)
    → ((old new : Word) → (name, row (codes "old") old ∷ row (codes "new") new ∷ []) ≡ entry_of (make old new))
    → (words : List Word) → are_plain words ≡ true
    → Agrees (two_files make words) (level_fault (pair_leaf name) [] nothing_held words false []) (Some (rows_at (pair_leaf name) words))
unfolding defaults_fault
pair_agrees name make is [] e = too_few (pair_leaf name) [] tt e refl
pair_agrees name make is (old ∷ []) e = too_few (pair_leaf name) (old ∷ []) ((refl, refl), tt) e refl
pair_agrees name make is (old ∷ new ∷ []) e =
    all_taken (pair_leaf name) (old ∷ new ∷ []) ((refl, refl), ((refl, refl), tt)) (make old new) e refl (is old new)
pair_agrees name make is (old ∷ new ∷ word ∷ rest) e =
    too_many (pair_leaf name) (old ∷ new ∷ []) ((refl, refl), ((refl, refl), tt)) word rest e refl

-- ---- KEY VALUE E1 L1 E2 L2

pub once_agrees : (words : List Word) → are_plain words ≡ true
    → Agrees (once_of words) (level_fault once_leaf [] nothing_held words false []) (Some (rows_at once_leaf words))
unfolding defaults_fault
once_agrees [] e = too_few once_leaf [] tt e refl
once_agrees (key ∷ []) e = too_few once_leaf (key ∷ []) ((refl, refl), tt) e refl
once_agrees (key ∷ text ∷ []) e = too_few once_leaf (key ∷ text ∷ []) ((refl, refl), ((refl, refl), tt)) e refl
once_agrees (key ∷ text ∷ e1 ∷ []) e = too_few once_leaf (key ∷ text ∷ e1 ∷ []) ((refl, refl), ((refl, refl), ((refl, refl), tt))) e refl
once_agrees (key ∷ text ∷ e1 ∷ l1 ∷ []) e =
    too_few once_leaf (key ∷ text ∷ e1 ∷ l1 ∷ []) ((refl, refl), ((refl, refl), ((refl, refl), ((refl, refl), tt)))) e refl
once_agrees (key ∷ text ∷ e1 ∷ l1 ∷ e2 ∷ []) e =
    too_few once_leaf (key ∷ text ∷ e1 ∷ l1 ∷ e2 ∷ []) ((refl, refl), ((refl, refl), ((refl, refl), ((refl, refl), ((refl, refl), tt))))) e refl
once_agrees (key ∷ text ∷ e1 ∷ l1 ∷ e2 ∷ l2 ∷ []) e =
    all_taken once_leaf (key ∷ text ∷ e1 ∷ l1 ∷ e2 ∷ l2 ∷ []) ((refl, refl), ((refl, refl), ((refl, refl), ((refl, refl), ((refl, refl), ((refl, refl), tt))))))
    (once key text e1 l1 e2 l2) e refl refl
once_agrees (key ∷ text ∷ e1 ∷ l1 ∷ e2 ∷ l2 ∷ word ∷ rest) e =
    too_many once_leaf (key ∷ text ∷ e1 ∷ l1 ∷ e2 ∷ l2 ∷ []) ((refl, refl), ((refl, refl), ((refl, refl), ((refl, refl), ((refl, refl), ((refl, refl), tt))))))
    word rest e refl

-- ---- DIR KEY

abbrev pub history_leaf : Shape
history_leaf = leaf history_app.top

pub history_agrees : (words : List Word) → are_plain words ≡ true
    → Agrees (history_of words) (level_fault history_leaf [] nothing_held words false []) (Some (rows_at history_leaf words))
unfolding defaults_fault
history_agrees [] e = too_few history_leaf [] tt e refl
history_agrees (dir ∷ []) e = too_few history_leaf (dir ∷ []) ((refl, refl), tt) e refl
history_agrees (dir ∷ key ∷ []) e = all_taken history_leaf (dir ∷ key ∷ []) ((refl, refl), ((refl, refl), tt)) (history dir key) e refl refl
history_agrees (dir ∷ key ∷ word ∷ rest) e = too_many history_leaf (dir ∷ key ∷ []) ((refl, refl), ((refl, refl), tt)) word rest e refl

-- ---- DIR KEY, and AT or nothing

abbrev pub get_leaf : Shape
get_leaf = leaf get_app.top

pub get_agrees : (words : List Word) → are_plain words ≡ true
    → Agrees (get_of words) (level_fault get_leaf [] nothing_held words false []) (Some (rows_at get_leaf words))
unfolding defaults_fault
get_agrees [] e = too_few get_leaf [] tt e refl
get_agrees (dir ∷ []) e = too_few get_leaf (dir ∷ []) ((refl, refl), tt) e refl
get_agrees (dir ∷ key ∷ []) e = all_taken get_leaf (dir ∷ key ∷ []) ((refl, refl), ((refl, refl), tt)) (get dir key None) e refl refl
get_agrees (dir ∷ key ∷ time ∷ []) e =
    all_taken get_leaf (dir ∷ key ∷ time ∷ []) ((refl, refl), ((refl, refl), ((refl, refl), tt))) (get dir key (Some time)) e refl refl
get_agrees (dir ∷ key ∷ time ∷ word ∷ rest) e = too_many get_leaf (dir ∷ key ∷ time ∷ []) ((refl, refl), ((refl, refl), ((refl, refl), tt))) word rest e refl

-- ---- DIR KEY VALUE

abbrev pub put_leaf : Shape
put_leaf = leaf put_app.top

pub put_agrees : (words : List Word) → are_plain words ≡ true
    → Agrees (put_of words) (level_fault put_leaf [] nothing_held words false []) (Some (rows_at put_leaf words))
unfolding defaults_fault
put_agrees [] e = too_few put_leaf [] tt e refl
put_agrees (dir ∷ []) e = too_few put_leaf (dir ∷ []) ((refl, refl), tt) e refl
put_agrees (dir ∷ key ∷ []) e = too_few put_leaf (dir ∷ key ∷ []) ((refl, refl), ((refl, refl), tt)) e refl
put_agrees (dir ∷ key ∷ text ∷ []) e =
    all_taken put_leaf (dir ∷ key ∷ text ∷ []) ((refl, refl), ((refl, refl), ((refl, refl), tt))) (put dir key text) e refl refl
put_agrees (dir ∷ key ∷ text ∷ word ∷ rest) e = too_many put_leaf (dir ∷ key ∷ text ∷ []) ((refl, refl), ((refl, refl), ((refl, refl), tt))) word rest e refl
