use Rattle.std.proofs.Common.{ap, ap₂, sym, ◌∙◌}
use Rattle.clap.specs.Words.{found_of, rows_of}
use Rattle.clap.proofs.WalkLemmas.{first_value-rows}
use Rattle.program_words.specs.Commands as commands
use Rattle.program_words.proofs.local_mode.mode_by.Goals as goal

pub returns-in-gen : goal.returns-in-gen
returns-in-gen c =
    c.made_by.ensures
    ∙ ap₂ commands.made_at (c.get_str.ensures ∙ first_value-rows (found_of c.args.values.now) _) (c.get_str-in-gen.ensures ∙ first_value-rows (found_of c.args.values.now) _)
    ∙ ap (λ name. commands.local_mode_by name (rows_of (found_of c.args.values.now))) (sym c.in-gen.is)
