-- How many update frames are left after the first.
use Rattle.std.proofs.Common.{◌≡◌, ℕ, ◌+◌, ◌-◌, ◌≤◌, Bool, true, false, suc, List, [], ◌∷◌, length, filter, take, drop, sym, ap, ◌∙◌, arith, length-append}
use Rattle.std.specs.Prelude.{if◌then◌else◌}
use Rattle.std.proofs.lemmas.List.{take-append-drop, drop-drop}
use Rattle.std.proofs.lemmas.List.Elements.{filter-append}
use Rattle.sse_frames.specs.Frames.{FrameText}
use Rattle.sse_model.proofs.Updates.{is_no_search}
use Rattle.def_script_meaning.specs.Goes.{updates_count}

fewer : {A : Type 0} (p : A → Bool) (xs : List A) → length (filter p xs) ≤ length xs
fewer p [] = omega arith
fewer p (x ∷ xs) = by (p x) (fewer p xs)
  where
    by : (b : Bool) → length (filter p xs) ≤ length xs → length (if b then x ∷ filter p xs else filter p xs) ≤ suc (length xs)
    by true rest = omega (arith, rest)
    by false rest = omega (arith, rest)

pub updates_fewer : (frames : List FrameText) → updates_count frames ≤ length frames
updates_fewer frames = fewer is_no_search frames

-- those of a front and those after it
pub updates_parts : (n : ℕ) (frames : List FrameText) → updates_count frames ≡ updates_count (take n frames) + updates_count (drop n frames)
updates_parts n frames =
    ap updates_count (sym (take-append-drop n frames))
    ∙ ap length (filter-append is_no_search (take n frames) (drop n frames))
    ∙ length-append (filter is_no_search (take n frames)) (filter is_no_search (drop n frames))

pub updates_behind : (n : ℕ) (frames : List FrameText) → updates_count (drop n frames) ≤ updates_count frames
updates_behind n frames = omega (arith, updates_parts n frames)

-- the farther the front, the fewer
pub updates_farther : (n k : ℕ) (frames : List FrameText) → n ≤ k → updates_count (drop k frames) ≤ updates_count (drop n frames)
updates_farther n k frames le =
    let fewer_left : updates_count (drop (k - n) (drop n frames)) ≤ updates_count (drop n frames) = updates_behind (k - n) (drop n frames) in
    let sum : n + (k - n) ≡ k = omega (arith, le) in
    let same : drop (k - n) (drop n frames) ≡ drop k frames = drop-drop (k - n) n frames ∙ ap (λ j. drop j frames) sum in
    omega (arith, fewer_left, ap updates_count same)
