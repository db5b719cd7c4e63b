-- What the parser found is the words of the line.
use Rattle.std.proofs.Common.{◌≡◌, ◌∙◌, refl, sym, ap, subst, List, Option, Some, None, codes}
use Rattle.std.specs.Prelude.{Box, Result, option_map, if◌then◌else◌}
use Rattle.std.specs.Box.{box_value}
use Rattle.std.specs.Str.{bytes_eq}
use Rattle.clap.proofs.WalkLemmas.{first_value-rows}
use Rattle.clap.specs.Words.{Row, Text, all_of, first_of, first_value, rows_of, subcommand_rows, subcommand_rows_of}
use Rattle.clap.specs.Matches.{subcommand_name_of}
use Rattle.clap.specs.declared.parser.matches.ArgMatches.{ArgMatches}
use Rattle.clap.specs.declared.parser.matches.ArgMatches.TheViews.{out-ArgMatches, out-SubCommand}
use Rattle.clap.specs.declared.parser.matches.Found.{Found}
use Rattle.clap.specs.declared.parser.matches.SubCommand.{SubCommand}
use Rattle.units.specs.declared.fault.Fault.{Fault}
use Rattle.command_line.specs.Commands.{Asked, command_of_line}
use Rattle.command_line.specs.Lines.{CommandLine, Word, once, format, play, inspect, drive, dump, history, get, put, stats, migrate, compact}
use Rattle.command_line.specs.Parser.{entry_of}
use Rattle.command_line.specs.Views.{Answers}
use Rattle.command_line.specs.declared.commands.Command.{Command}
use Rattle.command_line.specs.declared.marks.Marks.{Marks}

-- the name beside the rows is the name
names_same : {Z : Type 0} (o : Option (Box SubCommand Z))
    → option_map (λ (p : Text × List Row). p.0) (subcommand_rows o) ≡ option_map (λ b. (out-SubCommand (box_value b)).name.now) o
names_same None = refl
names_same (Some b) = refl

pub named_as : (m : ArgMatches) (line : CommandLine) (name : Word) → subcommand_rows_of m ≡ Some (entry_of line)
    → Some name ≡ subcommand_name_of m → (entry_of line).0 ≡ name
named_as m line name e n =
    let both : Some (entry_of line).0 ≡ Some name =
    sym (ap (option_map (λ (p : Text × List Row). p.0)) e) ∙ names_same (out-ArgMatches m).subcommand ∙ sym n in
    cc

pub rows_are : (m : ArgMatches) (line : CommandLine) (inner : Found) → subcommand_rows_of m ≡ Some (entry_of line)
    → Some (rows_of inner) ≡ option_map (λ (p : Text × List Row). p.1) (subcommand_rows_of m) → rows_of inner ≡ (entry_of line).1
rows_are m line inner e r =
    let both : Some (rows_of inner) ≡ Some (entry_of line).1 = r ∙ ap (option_map (λ (p : Text × List Row). p.1)) e in
    cc

-- what comes of what is there
unfoldable pub with_it : {A : Type 0} → Option A → (A → Option CommandLine) → Option CommandLine
with_it None make = None
with_it (Some a) make = make a

-- the line that rows have under a name
abbrev pub line_from : Word → List Row → Option CommandLine
line_from name rows =
    if bytes_eq (codes "once") name then with_it (first_of (codes "key") rows) (λ key. with_it (first_of (codes "value") rows) (λ value.
    with_it (first_of (codes "e1") rows) (λ e1. with_it (first_of (codes "l1") rows) (λ l1. with_it (first_of (codes "e2") rows) (λ e2.
    with_it (first_of (codes "l2") rows) (λ l2. Some (once key value e1 l1 e2 l2)))))))
    else (if bytes_eq (codes "format") name then with_it (first_of (codes "file") rows) (λ file. Some (format file))
    else (if bytes_eq (codes "play") name then with_it (first_of (codes "file") rows) (λ file. Some (play file))
    else (if bytes_eq (codes "inspect") name then with_it (first_of (codes "lines") rows) (λ lines.
    with_it (all_of (codes "logs") rows) (λ logs. Some (inspect lines logs)))
    else (if bytes_eq (codes "drive") name then with_it (first_of (codes "file") rows) (λ file. Some (drive file))
    else (if bytes_eq (codes "dump") name then with_it (first_of (codes "file") rows) (λ file. Some (dump file))
    else (if bytes_eq (codes "history") name then with_it (first_of (codes "dir") rows) (λ dir.
    with_it (first_of (codes "key") rows) (λ key. Some (history dir key)))
    else (if bytes_eq (codes "get") name then with_it (first_of (codes "dir") rows) (λ dir.
    with_it (first_of (codes "key") rows) (λ key. Some (get dir key (first_of (codes "at") rows))))
    else (if bytes_eq (codes "put") name then with_it (first_of (codes "dir") rows) (λ dir. with_it (first_of (codes "key") rows) (λ key.
    with_it (first_of (codes "value") rows) (λ value. Some (put dir key value))))
    else (if bytes_eq (codes "stats") name then with_it (all_of (codes "logs") rows) (λ logs. Some (stats logs))
    else (if bytes_eq (codes "migrate") name then with_it (first_of (codes "old") rows) (λ old.
    with_it (first_of (codes "new") rows) (λ new. Some (migrate old new)))
    else (if bytes_eq (codes "compact") name then with_it (first_of (codes "old") rows) (λ old.
    with_it (first_of (codes "new") rows) (λ new. Some (compact old new)))
    else None)))))))))))

-- a line's own name and rows have it
read_back : (line : CommandLine) → line_from (entry_of line).0 (entry_of line).1 ≡ Some line
unfolding with_it
read_back (once key value e1 l1 e2 l2) = refl
read_back (format file) = refl
read_back (play file) = refl
read_back (inspect lines logs) = refl
read_back (drive file) = refl
read_back (dump file) = refl
read_back (history dir key) = refl
read_back (get dir key None) = refl
read_back (get dir key (Some at)) = refl
read_back (put dir key value) = refl
read_back (stats logs) = refl
read_back (migrate old new) = refl
read_back (compact old new) = refl

-- what is there is the one that was read
next : {A : Type 0} (o : Option A) (a : A) (make : A → Option CommandLine) (line : CommandLine) → ((b : A) → o ≡ Some b → a ≡ b)
    → with_it o make ≡ Some line → make a ≡ Some line
unfolding with_it
next None a make line reads e = absurd (cc)
next (Some b) a make line reads e = ap make (reads b refl) ∙ e

-- the word is the one that the argument was given
abbrev pub Reads : Found → Word → Word → Type 0
Reads inner id word = (text : Word) → first_value inner id ≡ Some text → word ≡ text

-- the words are those that the argument was given
abbrev pub ReadsAll : Found → Word → List Word → Type 0
ReadsAll inner id words = (texts : List Word) → all_of id (rows_of inner) ≡ Some texts → words ≡ texts

-- what the argument was given, or nothing
abbrev pub MayRead : Found → Word → Option Word → Type 0
MayRead inner id word = word ≡ first_value inner id

-- what a line's name and rows have is the line
from_rows : (line : CommandLine) (inner : Found) (name : Word) → (entry_of line).0 ≡ name → rows_of inner ≡ (entry_of line).1
    → line_from name (rows_of inner) ≡ Some line
from_rows line inner name is rows = ap (line_from name) rows ∙ ap (λ n. line_from n (entry_of line).1) (sym is) ∙ read_back line

module _ (line : CommandLine) (inner : Found) where
  word : (id text : Word) (make : Word → Option CommandLine) → Reads inner id text → with_it (first_of id (rows_of inner)) make ≡ Some line
      → make text ≡ Some line
  word id text make reads = next (first_of id (rows_of inner)) text make line (λ t e. reads t (first_value-rows inner id ∙ e))

  words : (id : Word) (texts : List Word) (make : List Word → Option CommandLine) → ReadsAll inner id texts
      → with_it (all_of id (rows_of inner)) make ≡ Some line → make texts ≡ Some line
  words id texts make reads = next (all_of id (rows_of inner)) texts make line reads

  -- a command of one word
  pub one_found : (name id : Word) (make : Word → CommandLine) (a : Word)
      → ((rows : List Row) → line_from name rows ≡ with_it (first_of id rows) (λ x. Some (make x)))
      → (entry_of line).0 ≡ name → rows_of inner ≡ (entry_of line).1 → Reads inner id a → make a ≡ line
  one_found name id make a takes is rows ra =
      let found : Some (make a) ≡ Some line =
      word id a (λ x. Some (make x)) ra (sym (takes (rows_of inner)) ∙ from_rows line inner name is rows) in
      cc

  -- and of two
  pub two_found : (name first second : Word) (make : Word → Word → CommandLine) (a b : Word)
      → ((rows : List Row) → line_from name rows ≡ with_it (first_of first rows) (λ x. with_it (first_of second rows) (λ y. Some (make x y))))
      → (entry_of line).0 ≡ name → rows_of inner ≡ (entry_of line).1 → Reads inner first a → Reads inner second b → make a b ≡ line
  two_found name first second make a b takes is rows ra rb =
      let found : Some (make a b) ≡ Some line =
      word second b (λ y. Some (make a y)) rb (word first a (λ x. with_it (first_of second (rows_of inner)) (λ y. Some (make x y))) ra
      (sym (takes (rows_of inner)) ∙ from_rows line inner name is rows)) in
      cc

  pub once_found : (key value e1 l1 e2 l2 : Word) → (entry_of line).0 ≡ codes "once" → rows_of inner ≡ (entry_of line).1
      → Reads inner (codes "key") key → Reads inner (codes "value") value → Reads inner (codes "e1") e1 → Reads inner (codes "l1") l1
      → Reads inner (codes "e2") e2 → Reads inner (codes "l2") l2 → once key value e1 l1 e2 l2 ≡ line
  once_found key value e1 l1 e2 l2 is rows rk rv ra rb rc rd =
      let found : Some (once key value e1 l1 e2 l2) ≡ Some line =
      word (codes "l2") l2 _ rd (word (codes "e2") e2 _ rc (word (codes "l1") l1 _ rb (word (codes "e1") e1 _ ra (word (codes "value") value _ rv
      (word (codes "key") key _ rk (from_rows line inner (codes "once") is rows)))))) in
      cc

  pub inspect_found : (lines : Word) (logs : List Word) → (entry_of line).0 ≡ codes "inspect" → rows_of inner ≡ (entry_of line).1
      → Reads inner (codes "lines") lines → ReadsAll inner (codes "logs") logs → inspect lines logs ≡ line
  inspect_found lines logs is rows rl rs =
      let found : Some (inspect lines logs) ≡ Some line =
      words (codes "logs") logs _ rs (word (codes "lines") lines _ rl (from_rows line inner (codes "inspect") is rows)) in
      cc

  pub get_found : (dir key : Word) (at : Option Word) → (entry_of line).0 ≡ codes "get" → rows_of inner ≡ (entry_of line).1
      → Reads inner (codes "dir") dir → Reads inner (codes "key") key → MayRead inner (codes "at") at → get dir key at ≡ line
  get_found dir key at is rows rd rk ra =
      let found : Some (get dir key (first_of (codes "at") (rows_of inner))) ≡ Some line =
      word (codes "key") key _ rk (word (codes "dir") dir _ rd (from_rows line inner (codes "get") is rows)) in
      let same : get dir key at ≡ get dir key (first_of (codes "at") (rows_of inner)) = ap (get dir key) (ra ∙ first_value-rows inner (codes "at")) in
      cc

  pub put_found : (dir key value : Word) → (entry_of line).0 ≡ codes "put" → rows_of inner ≡ (entry_of line).1
      → Reads inner (codes "dir") dir → Reads inner (codes "key") key → Reads inner (codes "value") value → put dir key value ≡ line
  put_found dir key value is rows rd rk rv =
      let found : Some (put dir key value) ≡ Some line =
      word (codes "value") value _ rv (word (codes "key") key _ rk (word (codes "dir") dir _ rd (from_rows line inner (codes "put") is rows))) in
      cc

  pub stats_found : (logs : List Word) → (entry_of line).0 ≡ codes "stats" → rows_of inner ≡ (entry_of line).1
      → ReadsAll inner (codes "logs") logs → stats logs ≡ line
  stats_found logs is rows rs =
      let found : Some (stats logs) ≡ Some line = words (codes "logs") logs _ rs (from_rows line inner (codes "stats") is rows) in
      cc

-- a line that is another one is answered as that one
pub answered_as : {answer : Result Asked Fault} (marks : Marks) (line other : CommandLine) → other ≡ line → command_of_line marks other ≡ answer
    → command_of_line marks line ≡ answer
answered_as marks line other same is = sym (ap (command_of_line marks) same) ∙ is

pub refused_as : (answer : Result Command Fault) (marks : Marks) (line other : CommandLine) → other ≡ line → Answers marks other answer
    → Answers marks line answer
refused_as answer marks line other same so = subst (λ l. Answers marks l answer) same so
