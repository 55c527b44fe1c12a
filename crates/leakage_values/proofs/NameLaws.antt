-- The names of drawings, by the numbers of words.
use Rattle.std.proofs.Common.{◌≡◌, ℕ, ◌+◌, ◌<◌, List, [], ◌∷◌, ◌++◌, length, map, take, get_or, refl, sym, ap, ◌∙◌}
use Rattle.std.specs.Prelude.{flat_map}
use Rattle.std.proofs.lemmas.List.{append-nil, map-append, take_more}
use Rattle.std.proofs.lemmas.List.Concat.{flat_map-append}
use Rattle.leakage_values.specs.DrawnNames.{names_in_code}
use Rattle.leakage_values.specs.Numbered.{numbered, numbered_drawing}
use Rattle.def_leakage.specs.DrawnValues.{Drawing, ForEntry, ForBlock, ForNumber, ForToken, names_in}

-- the pieces of a front with one item more
pub one_front : {A X : Type 0} (f : A → List X) (xs : List A) (i : ℕ) (d : A) (now then : List X) → i < length xs
    → now ≡ flat_map f (take i xs) → then ≡ now ++ f (get_or xs i d) → then ≡ flat_map f (take (i + 1) xs)
one_front f xs i d now then within are more =
    more
    ∙ ap (λ ys. ys ++ f (get_or xs i d)) are
    ∙ ap (λ ys. flat_map f (take i xs) ++ ys) (sym (append-nil (f (get_or xs i d))))
    ∙ sym (flat_map-append f (take i xs) (get_or xs i d ∷ []))
    ∙ ap (flat_map f) (sym (take_more xs i d within))

of_one : (words : List (List ℕ)) (d : Drawing) → names_in_code (numbered_drawing words d) ≡ map (numbered words) (names_in d)
of_one words (ForEntry p) = refl
of_one words (ForBlock p) = refl
of_one words (ForNumber n) = refl
of_one words (ForToken n) = refl

of_all : (words : List (List ℕ)) (ds : List Drawing) → flat_map names_in_code (map (numbered_drawing words) ds) ≡ map (numbered words) (flat_map names_in ds)
of_all words [] = refl
of_all words (d ∷ ds) = (λ i. of_one words d i ++ of_all words ds i) ∙ sym (map-append (numbered words) (names_in d) (flat_map names_in ds))

-- command by command
pub names-drawings : (words : List (List ℕ)) (all : List (List Drawing)) → map (flat_map names_in_code) (map (map (numbered_drawing words)) all) ≡ map (map (numbered words)) (map (flat_map names_in) all)
names-drawings words [] = refl
names-drawings words (ds ∷ all) = λ i. of_all words ds i ∷ names-drawings words all i
