use Rattle.std.proofs.Common.{true, ap, ◌∙◌}
use Rattle.clap.specs.Words.{App}
use Rattle.clap.specs.Simple.{app_of_fields}
use Rattle.program_words.proofs.found.one_of_several.Goals as goal

abbrev wanting_one : App → App
wanting_one a = record a { top = record a.top { subcommand_required = true } }

pub returns : goal.returns
returns c = ap app_of_fields c.subcommand_required.ensures ∙ ap wanting_one c.own_words.ensures
