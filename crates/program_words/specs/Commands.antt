-- The programs' commands, as clap reads them, and what is picked of what it finds. No crate above has to name any of this.
use Rattle.std.specs.Prelude.{ℕ, ◌-◌, ◌^◌, true, Option, None, Some, List, codes, bytes_eq, if◌then◌else◌, option_and_then}
use Rattle.clap.specs.Words.{App, Row, Rule, Text, first_of, new_app, new_rule, with_rule, with_subcommand}
use Rattle.program_words.specs.Modes.{DiskMode, LocalMode, RunOn, More, Script, Twin, made_by}
use Rattle.program_words.specs.Numbers.{number_within}

-- words alone: no name of a program in front of them, no `help`
abbrev pub own_words : Text → App
own_words name =
    let a = new_app name in
    record a { top = record a.top { no_binary_name = true; disable_help_flag = true; disable_help_subcommand = true } }

-- the same, and one of the subcommands is wanted
abbrev pub one_of_several : Text → App
one_of_several name =
    let a = own_words name in
    record a { top = record a.top { subcommand_required = true } }

-- a value by its place, which has to be there
abbrev pub required : Text → Rule
required id = record (new_rule id) { required = true }

-- `gen SEED N`
abbrev pub made_app : App
made_app = with_rule (with_rule (new_app (codes "gen")) (required (codes "seed"))) (required (codes "documents"))

abbrev pub disk_app : App
disk_app = with_subcommand (with_subcommand (one_of_several (codes "sse_net")) (new_app (codes "run")).top) (new_app (codes "more")).top

abbrev pub local_app : App
local_app =
    with_subcommand (with_subcommand (with_subcommand (with_subcommand (one_of_several (codes "sse_local"))
    (new_app (codes "run")).top) (new_app (codes "more")).top) (new_app (codes "twin")).top) made_app.top

abbrev pub count_app : App
count_app = with_rule (own_words (codes "sse_served")) (new_rule (codes "count"))

-- the mode of a subcommand by its name
abbrev pub disk_mode_by : Text → Option DiskMode
disk_mode_by name = if bytes_eq name (codes "run") then Some RunOn else (if bytes_eq name (codes "more") then Some More else None)

abbrev pub disk_mode_at : Option (Text × List Row) → Option DiskMode
disk_mode_at found = option_and_then (λ p. disk_mode_by p.0) found

-- the made script of the two values, where both are given
abbrev pub made_at : (seed documents : Option Text) → Option LocalMode
made_at seed documents = made_by (option_and_then (number_within 0 999999) seed) (option_and_then (number_within 1 10000) documents)

-- the mode of a subcommand by its name and its values
abbrev pub local_mode_by : Text → List Row → Option LocalMode
local_mode_by name rows = if bytes_eq name (codes "run") then Some (Script RunOn)
    else (if bytes_eq name (codes "more") then Some (Script More)
    else (if bytes_eq name (codes "twin") then Some Twin
    else (if bytes_eq name (codes "gen") then made_at (first_of (codes "seed") rows) (first_of (codes "documents") rows) else None)))

abbrev pub local_mode_at : Option (Text × List Row) → Option LocalMode
local_mode_at found = option_and_then (λ p. local_mode_by p.0 p.1) found

-- the count of the value, where there is one
abbrev pub count_at : Option Text → Option ℕ
count_at (Some word) = number_within 1 (2 ^ 32 - 1) word
count_at None = Some (2 ^ 32 - 1)
