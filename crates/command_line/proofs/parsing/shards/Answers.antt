-- The program's settings, one by one, and then its commands.
use Rattle.std.proofs.Common.{◌≡◌, ◌∙◌, ap, ap₂, true, List, ◌++◌, map}
use Rattle.std.specs.Prelude.{fold}
use Rattle.std.specs.List.{list_all}
use Rattle.std.proofs.lemmas.Result.{IfOk-weaker}
use Rattle.clap.specs.Simple.{app_of_fields, on_top}
use Rattle.clap.specs.Words.{Shape, app_of, shape_of, with_subcommand}
use Rattle.clap.specs.declared.builder.command.Command.{Command}
use Rattle.command_line.specs.Parser.{bare_app, shapes}
use Rattle.command_line.proofs.ParserLemmas.{added_in_turn}
use Rattle.command_line.proofs.parsing.shards.Goals as goal

pub returns : goal.returns
returns c =
    let bare : app_of c.subcommand_required.result ≡ bare_app =
    ap app_of_fields c.subcommand_required.ensures
    ∙ ap (on_top (λ s. record s { subcommand_required = true })) (ap app_of_fields c.disable_help_subcommand.ensures
    ∙ ap (on_top (λ s. record s { disable_help_subcommand = true })) (ap app_of_fields c.no_binary_name.ensures
    ∙ ap (on_top (λ s. record s { no_binary_name = true })) c.new.ensures.app)) in
    let added : map shape_of c.add_commands.new.commands.items ≡ shapes =
    c.in_ok-add_commands.ensures ∙ ap (λ (cs : List Command). map shape_of cs ++ shapes) c.new-commands.ensures.items in
    IfOk-weaker c.subcommands.result _ _ (λ r adds. added_in_turn c.subcommand_required.result r _ adds (ap (list_all (λ (s : Shape). s.is_plain)) added)
    ∙ ap₂ (fold with_subcommand) bare added) c.subcommands.ensures
