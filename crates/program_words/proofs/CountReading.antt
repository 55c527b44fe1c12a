-- What clap makes of words without a hyphen in front, by the server's command.
use Rattle.std.proofs.Common.{◌≡◌, ◌≢◌, false, ℕ, List, [], ◌∷◌, refl, inl, inr, ap, subst, ◌∙◌}
use Rattle.std.specs.Prelude.{Option, Some, None, codes}
use Rattle.std.proofs.lemmas.Bool.{or_parts}
use Rattle.clap.specs.Faults.{fault_of}
use Rattle.clap.specs.Walk.{Row, Text, first_of, rows_of}
use Rattle.clap.specs.Matches.{found_of}
use Rattle.clap.specs.Simple.{App, HasMatchesOf, matches_of}
use Rattle.clap.specs.declared.parser.matches.ArgMatches.{ArgMatches}
use Rattle.clap.specs.declared.error.kind.ErrorKind.TheVariants as kind
use Rattle.clap.proofs.OnLiterals.{clap_on_literals}
use Rattle.program_words.specs.Commands.{count_app, count_at}
use Rattle.program_words.specs.Hyphens.{begins_with_hyphen, has_hyphen}
use Rattle.program_words.specs.Modes.{count_of}
use Rattle.program_words.proofs.HyphenLaws.{IsNoFlag, no_flag}
use Rattle.program_words.proofs.Readings.{Reading, read_right, read_wrong}

abbrev pub count_taken : List Text → Option ℕ
count_taken words = count_at (first_of (codes "count") (matches_of count_app words))

no_word : fault_of count_app [] ≡ []
unfolding clap_on_literals
no_word = refl

none_found : first_of (codes "count") (matches_of count_app []) ≡ None
unfolding clap_on_literals
none_found = refl

one_word : (w : Text) → IsNoFlag w → fault_of count_app (w ∷ []) ≡ []
unfolding clap_on_literals
one_word w bare = rw (bare.0, bare.1) (rw bare.1 refl)

one_found : (w : Text) → IsNoFlag w → first_of (codes "count") (matches_of count_app (w ∷ [])) ≡ Some w
unfolding clap_on_literals
one_found w bare = rw (bare.0, bare.1) (rw bare.1 refl)

more_words : (w next : Text) (rest : List Text) → IsNoFlag w → IsNoFlag next → fault_of count_app (w ∷ next ∷ rest) ≡ kind.UnknownArgument ∷ []
unfolding clap_on_literals
more_words w next rest bare two = rw (bare.0, bare.1) (rw bare.1 (rw (two.0, two.1) (rw two.1 refl)))

pub count_reading : (words : List Text) → has_hyphen words ≡ false → Reading count_app count_taken count_of words
count_reading [] plain = inl (no_word, ap count_at none_found)
count_reading (w ∷ []) plain =
    let bare = no_flag w (or_parts (begins_with_hyphen w) (has_hyphen []) plain).0 in
    inl (one_word w bare, ap count_at (one_found w bare))
count_reading (w ∷ next ∷ rest) plain =
    let parts = or_parts (begins_with_hyphen w) (has_hyphen (next ∷ rest)) plain in
    inr (refl, (kind.UnknownArgument, [], more_words w next rest (no_flag w parts.0) (no_flag next (or_parts (begins_with_hyphen next) (has_hyphen rest) parts.1).0)))

-- the same of clap's answer

pub count_right : (a : App) (words : List Text) (m : ArgMatches) → a ≡ count_app → has_hyphen words ≡ false → fault_of a words ≡ [] → HasMatchesOf a words m
    → count_at (first_of (codes "count") (rows_of (found_of m))) ≡ count_of words
count_right a words m same plain none has =
    let none' : fault_of count_app words ≡ [] = subst (λ (x : App). fault_of x words ≡ []) same none in
    let has' : HasMatchesOf count_app words m = subst (λ (x : App). HasMatchesOf x words m) same has in
    ap (λ (rows : List Row). count_at (first_of (codes "count") rows)) (has' refl).0 ∙ read_right count_app count_taken count_of words (count_reading words plain) none'

pub count_wrong : (a : App) (words : List Text) → a ≡ count_app → has_hyphen words ≡ false → fault_of a words ≢ [] → None ≡ count_of words
count_wrong a words same plain some = read_wrong count_app count_taken count_of words (count_reading words plain) (subst (λ (x : App). fault_of x words ≢ []) same some)
