-- From std's relations between told bytes to equations, where a reader or a writer tells always or never.
use Rattle.std.proofs.Common.{◌≡◌, ℕ, List, ◌++◌, take, None, Some, refl, ap, ◌∙◌, is_some, append-nil}
use Rattle.std.specs.declared.option.Option.{Option}
use Rattle.std.proofs.lemmas.Bool.{false≢true}
use Rattle.std.specs.Io.KnownBytes.{prepend_known, append_known, Keeps, Appends, Consumes}

-- bytes that are kept
pub kept-told : (old new : Option (List ℕ)) → is_some old ≡ is_some new → Keeps old new → new ≡ old
kept-told None None same kept = refl
kept-told None (Some ys) same kept = absurd (false≢true same)
kept-told (Some xs) None same kept = absurd kept
kept-told (Some xs) (Some ys) same kept = ap Some kept

-- bytes that were taken from the front
pub consumed-told : (old new : Option (List ℕ)) (bytes : List ℕ) → is_some old ≡ is_some new → Consumes old new bytes → old ≡ prepend_known bytes new
consumed-told None None bytes same taken = refl
consumed-told None (Some ys) bytes same taken = absurd (false≢true same)
consumed-told (Some xs) None bytes same taken = absurd taken
consumed-told (Some xs) (Some ys) bytes same taken = ap Some taken

-- bytes that were put after
pub appended-told : (old new : Option (List ℕ)) (bytes : List ℕ) → is_some old ≡ is_some new → Appends old new bytes → new ≡ append_known old bytes
appended-told None None bytes same added = refl
appended-told None (Some ys) bytes same added = absurd (false≢true same)
appended-told (Some xs) None bytes same added = absurd added
appended-told (Some xs) (Some ys) bytes same added = ap Some added

-- no byte was put after
pub nothing_appended-told : (old new : Option (List ℕ)) (bytes : List ℕ) (n : ℕ) → is_some old ≡ is_some new → n ≡ 0 → Appends old new (take n bytes) → new ≡ old
nothing_appended-told None None bytes n same zero added = refl
nothing_appended-told None (Some ys) bytes n same zero added = absurd (false≢true same)
nothing_appended-told (Some xs) None bytes n same zero added = absurd added
nothing_appended-told (Some xs) (Some ys) bytes n same zero added = ap Some (added ∙ ap (λ k. xs ++ take k bytes) zero ∙ append-nil xs)
