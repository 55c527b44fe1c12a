use Rattle.std.proofs.Common.{true, ap, ◌∙◌}
use Rattle.clap.specs.Words.{App}
use Rattle.clap.specs.Simple.{app_of_fields}
use Rattle.program_words.proofs.found.own_words.Goals as goal

abbrev without_name : App → App
without_name a = record a { top = record a.top { no_binary_name = true } }

abbrev without_help : App → App
without_help a = record a { top = record a.top { disable_help_flag = true } }

abbrev without_topic : App → App
without_topic a = record a { top = record a.top { disable_help_subcommand = true } }

pub returns : goal.returns
returns c =
    ap app_of_fields c.disable_help_subcommand.ensures ∙ ap without_topic
    (ap app_of_fields c.disable_help_flag.ensures ∙ ap without_help
    (ap app_of_fields c.no_binary_name.ensures ∙ ap without_name c.new.ensures.app))
