-- What the parser is made of, as its commands and arguments are added.
use Rattle.std.proofs.Common.{◌≡◌, ◌∙◌, ℕ, ◌+◌, ◌<◌, arith, true, false, sym, ap, ap₂, Bor, List, [], ◌∷◌, length, map, suc, take, slice_index_or}
use Rattle.std.specs.Prelude.{fold, max, nat_lt, IsSomeAnd, Option, Some, None}
use Rattle.std.specs.List.{list_all}
use Rattle.std.proofs.lemmas.List.{map-append}
use Rattle.std.proofs.lemmas.List.Sums.{fold-append}
use Rattle.std.proofs.Math.Seq.{take-suc}
use Rattle.clap.proofs.SimpleLemmas.{is_false}
use Rattle.clap.proofs.WalkLemmas.{both}
use Rattle.clap.specs.Words.{AddsInTurn, AddsSubcommand, Rule, Shape, Text, app_of, new_app, new_rule, rule_of, shape_of, with_rule, with_subcommand}
use Rattle.clap.specs.declared.builder.arg.Arg.{Arg}
use Rattle.clap.specs.declared.builder.command.Command.{Command}
use Rattle.clap.specs.declared.builder.command.Command.TheViews.{out-Command as fields_of}
use Rattle.clap.specs.declared.builder.range.ValueRange.{ValueRange}
use Rattle.command_line.specs.Lines.{Word}
use Rattle.command_line.specs.Parser.{command_app, needed}

-- the words of an argument, through a reference
abbrev pub seen : Bor Word × ℕ → Text × ℕ
seen word = (word.0.now, word.1)

-- one argument more
pub one_more : (name : Text) (words : List (Bor Word × ℕ)) (i : ℕ) (d : Bor Word × ℕ) → i < length words
    → command_app name (map seen (take (i + 1) words))
    ≡ with_rule (command_app name (map seen (take i words))) (needed (seen (slice_index_or words i d)))
one_more name words i d small =
    let next : i + 1 ≡ suc i = omega arith in
    ap (λ n. command_app name (map seen (take n words))) next
    ∙ ap (λ ws. command_app name (map seen ws)) (take-suc words i d small)
    ∙ ap (command_app name) (map-append seen (take i words) (slice_index_or words i d ∷ []))
    ∙ fold-append (λ app word. with_rule app (needed word)) (new_app name) (map seen (take i words)) (seen (slice_index_or words i d) ∷ [])

-- an argument with its settings
pub argument : (made must new : Arg) (id : Text) (most least greatest : ℕ) → rule_of made ≡ new_rule id → must ≡ record made { required = nat_lt 0 most }
    → new ≡ record must { num_vals = new.num_vals }
    → IsSomeAnd new.num_vals (λ r. r ≡ record { start_inclusive = least; end_inclusive = max greatest least }) → least ≡ 1 → greatest ≡ most
    → rule_of new ≡ needed (id, most)
argument made must new id most least greatest is required ranged range one several =
    ap rule_of ranged
    ∙ ap (λ (a : Arg). record (rule_of a) { range = new.num_vals }) required
    ∙ ap (λ (r : Rule). record r { required = nat_lt 0 most; range = new.num_vals }) is
    ∙ ap (λ (o : Option ValueRange). record (new_rule id) { required = nat_lt 0 most; range = o }) (given new.num_vals range)
    ∙ ap₂ (λ (l g : ℕ). record (new_rule id) { required = nat_lt 0 most; range = Some (record { start_inclusive = l; end_inclusive = max g l }) }) one several
  where
    given : (o : Option ValueRange) {v : ValueRange} → IsSomeAnd o (λ r. r ≡ v) → o ≡ Some v
    given None none = absurd none
    given (Some r) same = ap (λ (x : ValueRange). Some x) same

-- a command like those of the program has no global argument
no_globals : (c : Command) → (shape_of c).is_plain ≡ true → (fields_of c).has_globals ≡ false
no_globals c plain = is_false _ (both _ _ (both _ _ (both _ _ plain).1).1).0

-- the commands, added in turn
pub added_in_turn : (old new : Command) (subs : List Command) → AddsInTurn AddsSubcommand old subs new
    → list_all (λ (s : Shape). s.is_plain) (map shape_of subs) ≡ true
    → app_of new ≡ fold with_subcommand (app_of old) (map shape_of subs)
added_in_turn old new [] same plain = ap app_of (sym same)
added_in_turn old new (sub ∷ rest) adds plain =
    let plains = both (shape_of sub).is_plain _ plain in
    added_in_turn adds.0 new rest adds.2 plains.1
    ∙ ap (λ app. fold with_subcommand app (map shape_of rest)) (adds.1.shape (no_globals sub plains.0))
