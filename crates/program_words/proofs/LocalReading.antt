-- What clap makes of words without a hyphen in front, by the command of the program with client and server in it.
use Rattle.std.proofs.Common.{◌≡◌, ◌≢◌, ◌⊎◌, false, List, [], ◌∷◌, refl, inl, inr, ap, sym, subst, ◌∙◌}
use Rattle.std.specs.Prelude.{Some, None, codes, bytes_eq, find}
use Rattle.std.proofs.lemmas.Bool.{or_parts}
use Rattle.clap.specs.Faults.{fault_of}
use Rattle.clap.specs.Walk.{Text, answers_to}
use Rattle.clap.specs.Simple.{App, HasMatchesOf, built, entered, names_of, subcommand_of, subcommand_rows_of}
use Rattle.clap.specs.declared.parser.matches.ArgMatches.{ArgMatches}
use Rattle.clap.specs.declared.error.kind.ErrorKind.TheVariants as kind
use Rattle.clap.proofs.OnLiterals.{clap_on_literals}
use Rattle.program_words.specs.Commands.{local_app, local_mode_at, made_at}
use Rattle.program_words.specs.Hyphens.{begins_with_hyphen, has_hyphen}
use Rattle.program_words.specs.Modes.{LocalMode, RunOn, More, Script, Twin, local_mode_of}
use Rattle.program_words.proofs.HyphenLaws.{IsNoFlag, no_flag}
use Rattle.program_words.proofs.Readings.{IsLone, IsNot, SubReading, decide, fault_at, fault_found, lone_reading, read_right, read_wrong, stopped_at, sub_found}

abbrev own : (words : List Text) → words ≡ words
own words = refl

abbrev IsMode : Text → LocalMode → Type 0
IsMode name mode = IsLone local_app own local_mode_at local_mode_of name mode

abbrev LocalReading : List Text → Type 0
LocalReading words = SubReading local_app own local_mode_at local_mode_of words

-- ---- a word alone

run_stray : (a : Text) (rest : List Text) → IsNoFlag a → fault_at local_app own (stopped_at local_app own (codes "run") (a ∷ rest)) [] ≡ kind.UnknownArgument ∷ []
unfolding clap_on_literals
run_stray a rest bare = rw (bare.0, bare.1) (rw bare.1 refl)

more_stray : (a : Text) (rest : List Text) → IsNoFlag a → fault_at local_app own (stopped_at local_app own (codes "more") (a ∷ rest)) [] ≡ kind.UnknownArgument ∷ []
unfolding clap_on_literals
more_stray a rest bare = rw (bare.0, bare.1) (rw bare.1 refl)

twin_stray : (a : Text) (rest : List Text) → IsNoFlag a → fault_at local_app own (stopped_at local_app own (codes "twin") (a ∷ rest)) [] ≡ kind.UnknownArgument ∷ []
unfolding clap_on_literals
twin_stray a rest bare = rw (bare.0, bare.1) (rw bare.1 refl)

-- it asks for nothing where another follows, since two others would have to follow `gen`
not_followed : (name a : Text) (rest : List Text) → bytes_eq name (codes "gen") ≡ false → local_mode_of (name ∷ a ∷ rest) ≡ None
not_followed name a [] e = refl
not_followed name a (b ∷ []) e = rw e refl
not_followed name a (b ∷ c ∷ rest) e = refl

run_mode : IsMode (codes "run") (Script RunOn)
unfolding clap_on_literals
run_mode = record { found = refl; no_help = refl; alone = refl; followed = λ a rest. not_followed (codes "run") a rest refl; free = refl; is_picked = refl; stray = run_stray }

more_mode : IsMode (codes "more") (Script More)
unfolding clap_on_literals
more_mode = record { found = refl; no_help = refl; alone = refl; followed = λ a rest. not_followed (codes "more") a rest refl; free = refl; is_picked = refl; stray = more_stray }

twin_mode : IsMode (codes "twin") Twin
unfolding clap_on_literals
twin_mode = record { found = refl; no_help = refl; alone = refl; followed = λ a rest. not_followed (codes "twin") a rest refl; free = refl; is_picked = refl; stray = twin_stray }

-- ---- a made script

gen_none : fault_at local_app own (stopped_at local_app own (codes "gen") []) [] ≡ kind.MissingRequiredArgument ∷ []
unfolding clap_on_literals
gen_none = refl

gen_one : (a : Text) → IsNoFlag a → fault_at local_app own (stopped_at local_app own (codes "gen") (a ∷ [])) [] ≡ kind.MissingRequiredArgument ∷ []
unfolding clap_on_literals
gen_one a bare = rw (bare.0, bare.1) (rw bare.1 refl)

gen_two : (a b : Text) → IsNoFlag a → IsNoFlag b → fault_at local_app own (stopped_at local_app own (codes "gen") (a ∷ b ∷ [])) [] ≡ []
unfolding clap_on_literals
gen_two a b one two = rw (one.0, one.1) (rw one.1 (rw (two.0, two.1) (rw two.1 refl)))

gen_found : (a b : Text) → IsNoFlag a → IsNoFlag b → local_mode_at (entered (built local_app) (Some (codes "gen", a ∷ b ∷ []))) ≡ made_at (Some a) (Some b)
unfolding clap_on_literals
gen_found a b one two = rw (one.0, one.1) (rw one.1 (rw (two.0, two.1) (rw two.1 refl)))

gen_stray : (a b c : Text) (rest : List Text) → IsNoFlag a → IsNoFlag b → IsNoFlag c
    → fault_at local_app own (stopped_at local_app own (codes "gen") (a ∷ b ∷ c ∷ rest)) [] ≡ kind.UnknownArgument ∷ []
unfolding clap_on_literals
gen_stray a b c rest one two three = rw (one.0, one.1) (rw one.1 (rw (two.0, two.1) (rw two.1 (rw (three.0, three.1) (rw three.1 refl)))))

-- ---- no word, and another one

no_word : fault_of local_app [] ≡ kind.MissingSubcommand ∷ []
unfolding clap_on_literals
no_word = refl

abbrev IsOther : Text → Type 0
IsOther w = IsNot (codes "run") w × IsNot (codes "more") w × IsNot (codes "twin") w × IsNot (codes "gen") w

no_answer : (w : Text) → IsOther w → find (answers_to w) (names_of (built local_app)) ≡ None
no_answer w is = rw is.0.1 (rw is.1.1 (rw is.2.1 (rw is.3.1 refl)))

other_fault : (w : Text) (rest : List Text) → find (answers_to w) (names_of (built local_app)) ≡ None → IsNoFlag w
    → fault_of local_app (w ∷ rest) ≡ kind.UnknownArgument ∷ kind.InvalidSubcommand ∷ []
unfolding clap_on_literals
other_fault w rest n bare = rw n (rw (bare.0, bare.1) (rw bare.1 refl))

-- ---- all of it

gen_reading : (rest : List Text) → has_hyphen rest ≡ false → LocalReading (codes "gen" ∷ rest)
gen_reading [] plain = inr (refl, (kind.MissingRequiredArgument, [], fault_found local_app own (codes "gen") (codes "gen") [] refl refl ∙ gen_none))
gen_reading (a ∷ []) plain =
    inr (
      refl,
      (
        kind.MissingRequiredArgument,
        [],
        fault_found local_app own (codes "gen") (codes "gen") (a ∷ []) refl refl ∙ gen_one a (no_flag a (or_parts (begins_with_hyphen a) (has_hyphen []) plain).0),
      ),
    )
gen_reading (a ∷ b ∷ []) plain =
    let e = or_parts (begins_with_hyphen a) (has_hyphen (b ∷ [])) plain in
    let one = no_flag a e.0 in
    let two = no_flag b (or_parts (begins_with_hyphen b) (has_hyphen []) e.1).0 in
    inl (
      fault_found local_app own (codes "gen") (codes "gen") (a ∷ b ∷ []) refl refl ∙ gen_two a b one two,
      ap local_mode_at (sub_found local_app own (codes "gen") (codes "gen") (a ∷ b ∷ []) refl) ∙ gen_found a b one two,
    )
gen_reading (a ∷ b ∷ c ∷ rest) plain =
    let e = or_parts (begins_with_hyphen a) (has_hyphen (b ∷ c ∷ rest)) plain in
    let e2 = or_parts (begins_with_hyphen b) (has_hyphen (c ∷ rest)) e.1 in
    let three = no_flag c (or_parts (begins_with_hyphen c) (has_hyphen rest) e2.1).0 in
    inr (
      refl,
      (
        kind.UnknownArgument,
        [],
        fault_found local_app own (codes "gen") (codes "gen") (a ∷ b ∷ c ∷ rest) refl refl ∙ gen_stray a b c rest (no_flag a e.0) (no_flag b e2.0) three,
      ),
    )

none_asked : (w : Text) (rest : List Text) → IsOther w → local_mode_of (w ∷ rest) ≡ None
none_asked w [] is = rw is.0.0 (rw is.1.0 (rw is.2.0 refl))
none_asked w (a ∷ rest) is = not_followed w a rest is.3.0

other_reading : (w : Text) (rest : List Text) → IsOther w → has_hyphen (w ∷ rest) ≡ false → LocalReading (w ∷ rest)
other_reading w rest is plain =
    inr (
      none_asked w rest is,
      (
        kind.UnknownArgument,
        kind.InvalidSubcommand ∷ [],
        other_fault w rest (no_answer w is) (no_flag w (or_parts (begins_with_hyphen w) (has_hyphen rest) plain).0),
      ),
    )

lone : (w name : Text) (mode : LocalMode) (rest : List Text) → w ≡ name → IsMode name mode → has_hyphen (w ∷ rest) ≡ false → LocalReading (w ∷ rest)
lone w name mode rest e is plain =
    subst (λ (v : Text). LocalReading (v ∷ rest)) (sym e) (lone_reading local_app own local_mode_at local_mode_of name mode is rest (or_parts (begins_with_hyphen w) (has_hyphen rest) plain).1)

by_word : (w : Text) (rest : List Text) → (w ≡ codes "run") ⊎ IsNot (codes "run") w → (w ≡ codes "more") ⊎ IsNot (codes "more") w
    → (w ≡ codes "twin") ⊎ IsNot (codes "twin") w → (w ≡ codes "gen") ⊎ IsNot (codes "gen") w
    → has_hyphen (w ∷ rest) ≡ false → LocalReading (w ∷ rest)
by_word w rest (inl e) more twin gen plain = lone w (codes "run") (Script RunOn) rest e run_mode plain
by_word w rest (inr run) (inl e) twin gen plain = lone w (codes "more") (Script More) rest e more_mode plain
by_word w rest (inr run) (inr more) (inl e) gen plain = lone w (codes "twin") Twin rest e twin_mode plain
by_word w rest (inr run) (inr more) (inr twin) (inl e) plain =
    subst (λ (v : Text). LocalReading (v ∷ rest)) (sym e) (gen_reading rest (or_parts (begins_with_hyphen w) (has_hyphen rest) plain).1)
by_word w rest (inr run) (inr more) (inr twin) (inr gen) plain = other_reading w rest (run, more, twin, gen) plain

pub local_reading : (words : List Text) → has_hyphen words ≡ false → LocalReading words
local_reading [] plain = inr (refl, (kind.MissingSubcommand, [], no_word))
local_reading (w ∷ rest) plain = by_word w rest (decide (codes "run") w) (decide (codes "more") w) (decide (codes "twin") w) (decide (codes "gen") w) plain

-- ---- the same of clap's answer

pub local_right : (a : App) (words : List Text) (m : ArgMatches) → a ≡ local_app → has_hyphen words ≡ false → fault_of a words ≡ [] → HasMatchesOf a words m
    → local_mode_at (subcommand_rows_of m) ≡ local_mode_of words
local_right a words m same plain none has =
    let none' : fault_of local_app words ≡ [] = subst (λ (x : App). fault_of x words ≡ []) same none in
    let has' : HasMatchesOf local_app words m = subst (λ (x : App). HasMatchesOf x words m) same has in
    ap local_mode_at (has' refl).1 ∙ read_right local_app (λ ws. local_mode_at (subcommand_of local_app ws)) local_mode_of words (local_reading words plain) none'

pub local_wrong : (a : App) (words : List Text) → a ≡ local_app → has_hyphen words ≡ false → fault_of a words ≢ [] → None ≡ local_mode_of words
local_wrong a words same plain some =
    read_wrong local_app (λ ws. local_mode_at (subcommand_of local_app ws)) local_mode_of words (local_reading words plain) (subst (λ (x : App). fault_of x words ≢ []) same some)
