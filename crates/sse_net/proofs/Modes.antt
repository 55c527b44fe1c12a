-- The run that the words of a command line ask for is the one that `run_on_disk` reads in them.
use Rattle.std.proofs.Common.{◌≡◌, refl, ℕ, List, [], ◌∷◌, Bool, true, false, None, Some}
use Rattle.std.specs.Prelude.{bytes_eq, codes, if◌then◌else◌}
use Rattle.program_words.specs.Modes.{RunOn, More, disk_mode_of}
use Rattle.script_run_texts.specs.Words as reads

-- by whether a word is `run`, and whether it is `more`

run_by : (is_run is_more : Bool) → (if is_run then Some RunOn else (if is_more then Some More else None)) ≡ Some RunOn
    → (if is_run then Some reads.RunOn else (if is_more then Some reads.More else None)) ≡ Some reads.RunOn
run_by true is_more e = refl
run_by false true e = absurd (cc)
run_by false false e = absurd (cc)

more_by : (is_run is_more : Bool) → (if is_run then Some RunOn else (if is_more then Some More else None)) ≡ Some More
    → (if is_run then Some reads.RunOn else (if is_more then Some reads.More else None)) ≡ Some reads.More
more_by true is_more e = absurd (cc)
more_by false true e = refl
more_by false false e = absurd (cc)

pub run_of : (words : List (List ℕ)) → disk_mode_of words ≡ Some RunOn → reads.disk_mode_of words ≡ Some reads.RunOn
run_of [] e = absurd (cc)
run_of (word ∷ []) e = run_by (bytes_eq word (codes "run")) (bytes_eq word (codes "more")) e
run_of (word ∷ next ∷ words) e = absurd (cc)

pub more_of : (words : List (List ℕ)) → disk_mode_of words ≡ Some More → reads.disk_mode_of words ≡ Some reads.More
more_of [] e = absurd (cc)
more_of (word ∷ []) e = more_by (bytes_eq word (codes "run")) (bytes_eq word (codes "more")) e
more_of (word ∷ next ∷ words) e = absurd (cc)
