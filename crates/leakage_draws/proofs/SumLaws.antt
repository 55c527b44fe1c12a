-- Sums modulo 2^64, and what is counted of a session.
use Rattle.std.proofs.Common.{◌≡◌, ℕ, ◌+◌, ◌<◌, ◌%◌, ◌^◌, List, [], ◌∷◌, ◌++◌, length, map, take, get_or, refl, sym, ap, ◌∙◌, arith}
use Rattle.std.specs.Prelude.{flat_map, sum, sum_by, unwrap_or}
use Rattle.std.proofs.lemmas.List.{append-nil, length-map, take_more}
use Rattle.std.proofs.lemmas.List.Concat.{flat_map-append}
use Rattle.std.proofs.lemmas.List.Sums.{sum_by-append, sum_by-cons, sum_by_more}
use Rattle.client_registry.specs.Run.{Epochs}
use Rattle.leakage_values.specs.Numbered.{numbered}
use Rattle.leakage_names.specs.Sheets.{Values}
use Rattle.leakage_names.specs.declared.name.Name as codes
use Rattle.def_comparison.specs.Sums.{value_sum}
use Rattle.def_relabelling.specs.Comparison.{frames_under, names_in, sums_in}
use Rattle.sse_frames.specs.Frames.{FrameText, frame_bytes}
use Rattle.sse_model.proofs.Members.{Contains-cons, Contains-head}
use Rattle.sse_model.specs.Names.{Name, Table}
use Rattle.leakage_draws.specs.Given.{given}
use Rattle.leakage_values.specs.SheetOf.{IsSheetOf}

wrapped : (a b : ℕ) → (a % 2 ^ 64 + b) % 2 ^ 64 ≡ (a + b) % 2 ^ 64
wrapped a b = omega arith

-- one byte more
pub one_byte : (start : ℕ) (bytes : List ℕ) (i d now then : ℕ) → i < length bytes → now ≡ (start + sum (take i bytes)) % 2 ^ 64 → then ≡ (now + get_or bytes i d) % 2 ^ 64
    → then ≡ (start + sum (take (i + 1) bytes)) % 2 ^ 64
one_byte start bytes i d now then within is more =
    more
    ∙ ap (λ n. (n + get_or bytes i d) % 2 ^ 64) is
    ∙ wrapped (start + sum (take i bytes)) (get_or bytes i d)
    ∙ ap (λ n. n % 2 ^ 64) (let next = sum_by_more (λ x. x) bytes i d within in omega (arith, next))

-- one value more
pub one_value : (value : codes.Name → List ℕ) (names : List codes.Name) (start i : ℕ) (d : codes.Name) (now then : ℕ) → i < length names
    → now ≡ (start + sum (flat_map value (take i names))) % 2 ^ 64 → then ≡ (now + sum (value (get_or names i d))) % 2 ^ 64 → then ≡ (start + sum (flat_map value (take (i + 1) names))) % 2 ^ 64
one_value value names start i d now then within is more =
    let front = flat_map value (take i names) in
    let here = value (get_or names i d) in
    let all : sum front + sum here ≡ sum (flat_map value (take (i + 1) names)) =
    sym (sum_by-append (λ x. x) front here)
    ∙ ap sum (ap (λ xs. front ++ xs) (sym (append-nil here)) ∙ sym (flat_map-append value (take i names) (get_or names i d ∷ [])) ∙ ap (flat_map value) (sym (take_more names i d within))) in
    more
    ∙ ap (λ n. (n + sum here) % 2 ^ 64) is
    ∙ wrapped (start + sum front) (sum here)
    ∙ ap (λ n. n % 2 ^ 64) (let next : start + sum front + sum here ≡ start + sum (flat_map value (take (i + 1) names)) = omega (arith, all) in next)

-- values of names in a sheet that has those of a table
same_values : (values : Values) (words : List (List ℕ)) (ns : List Name) (t : Table) → IsSheetOf values words ns t → flat_map (given values) (map (numbered words) ns) ≡ flat_map t ns
same_values values words [] t is = refl
same_values values words (n ∷ ns) t is =
    λ i. unwrap_or (is n (Contains-head n ns) i) [] ++ same_values values words ns t (λ m within. is m (Contains-cons n ns m within)) i

lengths : (frames : List FrameText) → sum_by length (map frame_bytes frames) ≡ sum_by (λ frame. length (frame_bytes frame)) frames
lengths [] = refl
lengths (f ∷ fs) =
    sum_by-cons length (frame_bytes f) (map frame_bytes fs) ∙ ap (λ n. length (frame_bytes f) + n) (lengths fs) ∙ sym (sum_by-cons (λ frame. length (frame_bytes frame)) f fs)

-- the values of an epoch's names behind those of others, where the sheet of the epoch has the values of a table
pub values-more : (sheet : Values) (words : List (List ℕ)) (before ns : List Name) (used : List codes.Name) (t : Table) (now then : ℕ) → IsSheetOf sheet words ns t → used ≡ map (numbered words) ns
    → now ≡ value_sum t before → then ≡ (now + sum (flat_map (given sheet) used)) % 2 ^ 64 → then ≡ value_sum t (before ++ ns)
values-more sheet words before ns used t now then has used_are is more =
    more
    ∙ (λ i. (is i + sum ((ap (flat_map (given sheet)) used_are ∙ same_values sheet words ns t has) i)) % 2 ^ 64)
    ∙ wrapped (sum (flat_map t before)) (sum (flat_map t ns))
    ∙ ap (λ n. n % 2 ^ 64) (sym (sum_by-append (λ x. x) (flat_map t before) (flat_map t ns)) ∙ ap sum (sym (flat_map-append t before ns)))

-- what is counted of the frames of a session
pub counted_are : (es : Epochs) (t : Table) (texts : List (List ℕ)) (frames bytes values : ℕ) → texts ≡ map frame_bytes (frames_under t es)
    → frames ≡ length texts → bytes ≡ sum_by length texts → values ≡ value_sum t (names_in es)
    → record { frames = frames; bytes = bytes; values = values } ≡ sums_in t es
counted_are es t texts frames bytes values texts_are frames_are bytes_are values_are = λ i. record {
  frames = (frames_are ∙ ap length texts_are ∙ length-map (frames_under t es) frame_bytes) i;
  bytes = (bytes_are ∙ ap (sum_by length) texts_are ∙ lengths (frames_under t es)) i;
  values = values_are i;
}
