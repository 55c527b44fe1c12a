-- Worked cases of the words that ask for a made script, computed by the checker.
use Rattle.std.proofs.Common.{◌≡◌, ◌∷◌, [], codes, Some, None, refl}
use Rattle.program_words.specs.Modes.{Made, local_mode_of}
use Rattle.program_words.specs.Numbers.{number_within}

asked : local_mode_of (codes "gen" ∷ codes "999999" ∷ codes "10000" ∷ []) ≡ Some (Made 999999 10000)
unfolding number_within
asked = refl

none_asked : local_mode_of (codes "gen" ∷ codes "1" ∷ codes "0" ∷ []) ≡ None
unfolding number_within
none_asked = refl

too_many_asked : local_mode_of (codes "gen" ∷ codes "1" ∷ codes "10001" ∷ []) ≡ None
unfolding number_within
too_many_asked = refl

leading_zero : local_mode_of (codes "gen" ∷ codes "01" ∷ codes "1" ∷ []) ≡ None
unfolding number_within
leading_zero = refl

large_seed : local_mode_of (codes "gen" ∷ codes "1000000" ∷ codes "1" ∷ []) ≡ None
unfolding number_within
large_seed = refl

two_words : local_mode_of (codes "gen" ∷ codes "1" ∷ []) ≡ None
two_words = refl

another_word : local_mode_of (codes "run" ∷ codes "1" ∷ codes "1" ∷ []) ≡ None
another_word = refl
