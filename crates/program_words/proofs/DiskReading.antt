-- What clap makes of words without a hyphen in front, by the client's command.
use Rattle.std.proofs.Common.{◌≡◌, ◌≢◌, ◌⊎◌, false, List, [], ◌∷◌, refl, inl, inr, ap, sym, subst, ◌∙◌}
use Rattle.std.specs.Prelude.{None, codes, find}
use Rattle.std.proofs.lemmas.Bool.{or_parts}
use Rattle.clap.specs.Faults.{fault_of}
use Rattle.clap.specs.Walk.{Text, answers_to}
use Rattle.clap.specs.Simple.{App, HasMatchesOf, built, names_of, subcommand_of, subcommand_rows_of}
use Rattle.clap.specs.declared.parser.matches.ArgMatches.{ArgMatches}
use Rattle.clap.specs.declared.error.kind.ErrorKind.TheVariants as kind
use Rattle.clap.proofs.OnLiterals.{clap_on_literals}
use Rattle.program_words.specs.Commands.{disk_app, disk_mode_at}
use Rattle.program_words.specs.Hyphens.{begins_with_hyphen, has_hyphen}
use Rattle.program_words.specs.Modes.{DiskMode, RunOn, More, disk_mode_of}
use Rattle.program_words.proofs.HyphenLaws.{IsNoFlag, no_flag}
use Rattle.program_words.proofs.Readings.{IsLone, IsNot, SubReading, decide, fault_at, lone_reading, read_right, read_wrong, stopped_at}

abbrev own : (words : List Text) → words ≡ words
own words = refl

abbrev IsMode : Text → DiskMode → Type 0
IsMode name mode = IsLone disk_app own disk_mode_at disk_mode_of name mode

abbrev DiskReading : List Text → Type 0
DiskReading words = SubReading disk_app own disk_mode_at disk_mode_of words

run_stray : (a : Text) (rest : List Text) → IsNoFlag a → fault_at disk_app own (stopped_at disk_app own (codes "run") (a ∷ rest)) [] ≡ kind.UnknownArgument ∷ []
unfolding clap_on_literals
run_stray a rest bare = rw (bare.0, bare.1) (rw bare.1 refl)

more_stray : (a : Text) (rest : List Text) → IsNoFlag a → fault_at disk_app own (stopped_at disk_app own (codes "more") (a ∷ rest)) [] ≡ kind.UnknownArgument ∷ []
unfolding clap_on_literals
more_stray a rest bare = rw (bare.0, bare.1) (rw bare.1 refl)

run_mode : IsMode (codes "run") RunOn
unfolding clap_on_literals
run_mode = record { found = refl; no_help = refl; alone = refl; followed = λ a rest. refl; free = refl; is_picked = refl; stray = run_stray }

more_mode : IsMode (codes "more") More
unfolding clap_on_literals
more_mode = record { found = refl; no_help = refl; alone = refl; followed = λ a rest. refl; free = refl; is_picked = refl; stray = more_stray }

no_word : fault_of disk_app [] ≡ kind.MissingSubcommand ∷ []
unfolding clap_on_literals
no_word = refl

no_answer : (w : Text) → IsNot (codes "run") w → IsNot (codes "more") w → find (answers_to w) (names_of (built disk_app)) ≡ None
no_answer w run more = rw run.1 (rw more.1 refl)

other_fault : (w : Text) (rest : List Text) → find (answers_to w) (names_of (built disk_app)) ≡ None → IsNoFlag w
    → fault_of disk_app (w ∷ rest) ≡ kind.UnknownArgument ∷ kind.InvalidSubcommand ∷ []
unfolding clap_on_literals
other_fault w rest n bare = rw n (rw (bare.0, bare.1) (rw bare.1 refl))

none_asked : (w : Text) (rest : List Text) → IsNot (codes "run") w → IsNot (codes "more") w → disk_mode_of (w ∷ rest) ≡ None
none_asked w [] run more = rw run.0 (rw more.0 refl)
none_asked w (a ∷ rest) run more = refl

by_word : (w : Text) (rest : List Text) → (w ≡ codes "run") ⊎ IsNot (codes "run") w → (w ≡ codes "more") ⊎ IsNot (codes "more") w
    → has_hyphen (w ∷ rest) ≡ false → DiskReading (w ∷ rest)
by_word w rest (inl e) more plain =
    subst (λ (name : Text). DiskReading (name ∷ rest)) (sym e) (lone_reading disk_app own disk_mode_at disk_mode_of (codes "run") RunOn run_mode rest (or_parts (begins_with_hyphen w) (has_hyphen rest) plain).1)
by_word w rest (inr run) (inl e) plain =
    subst (λ (name : Text). DiskReading (name ∷ rest)) (sym e) (lone_reading disk_app own disk_mode_at disk_mode_of (codes "more") More more_mode rest (or_parts (begins_with_hyphen w) (has_hyphen rest) plain).1)
by_word w rest (inr run) (inr more) plain =
    inr (
      none_asked w rest run more,
      (
        kind.UnknownArgument,
        kind.InvalidSubcommand ∷ [],
        other_fault w rest (no_answer w run more) (no_flag w (or_parts (begins_with_hyphen w) (has_hyphen rest) plain).0),
      ),
    )

pub disk_reading : (words : List Text) → has_hyphen words ≡ false → DiskReading words
disk_reading [] plain = inr (refl, (kind.MissingSubcommand, [], no_word))
disk_reading (w ∷ rest) plain = by_word w rest (decide (codes "run") w) (decide (codes "more") w) plain

-- ---- the same of clap's answer

pub disk_right : (a : App) (words : List Text) (m : ArgMatches) → a ≡ disk_app → has_hyphen words ≡ false → fault_of a words ≡ [] → HasMatchesOf a words m
    → disk_mode_at (subcommand_rows_of m) ≡ disk_mode_of words
disk_right a words m same plain none has =
    let none' : fault_of disk_app words ≡ [] = subst (λ (x : App). fault_of x words ≡ []) same none in
    let has' : HasMatchesOf disk_app words m = subst (λ (x : App). HasMatchesOf x words m) same has in
    ap disk_mode_at (has' refl).1 ∙ read_right disk_app (λ ws. disk_mode_at (subcommand_of disk_app ws)) disk_mode_of words (disk_reading words plain) none'

pub disk_wrong : (a : App) (words : List Text) → a ≡ disk_app → has_hyphen words ≡ false → fault_of a words ≢ [] → None ≡ disk_mode_of words
disk_wrong a words same plain some =
    read_wrong disk_app (λ ws. disk_mode_at (subcommand_of disk_app ws)) disk_mode_of words (disk_reading words plain) (subst (λ (x : App). fault_of x words ≢ []) same some)
