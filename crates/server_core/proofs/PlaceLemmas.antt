-- A search that hands out its list piece by piece: its cell, its groups of pointers, its places.
use Rattle.std.proofs.Common.{set, ◌≡◌, ℕ, ◌+◌, ◌-◌, ◌<◌, ◌≤◌, List, [], ◌∷◌, ◌++◌, length, drop, take, Option, Some, None, refl, ap, ◌∙◌, arith}
use Rattle.std.specs.Prelude.{option_and_then, slice_index, IfSome}
use Rattle.std.proofs.Math.Seq.{drop-append-add}
use Rattle.two_level.specs.Plan.{CellKind}
use Rattle.two_level.specs.Opened.{numbers_of, leading, kind_of, joined}
use Rattle.server_core.specs.SearchState.{pointers_in, pointers_behind}
use Rattle.server_core.specs.OpenedStep.{IsRead}

-- a cell's first byte and the bytes after it
pub cell_parts : (clear : List ℕ) → 0 < length clear → clear ≡ slice_index clear 0 ∷ drop 1 clear
cell_parts [] some = absurd (omega arith)
cell_parts (kind ∷ rest) some = refl

pub IsRead-by : (clear numbers : List ℕ) → 0 < length clear → slice_index clear 0 ≤ 2 → leading (numbers_of (drop 1 clear)) ≡ Some numbers → IsRead clear (slice_index clear 0) numbers
IsRead-by clear numbers some known front = record { bytes = drop 1 clear; text = cell_parts clear some; known = known; front = front }

none_in : (block : ℕ → ℕ → Option (List ℕ)) (top : ℕ) (kind : Option CellKind) → option_and_then (λ k. option_and_then (pointers_in block k top) None) kind ≡ None
none_in block top None = refl
none_in block top (Some k) = refl

-- a cell whose numbers are no list's front
pub pointers_behind-none : (block : ℕ → ℕ → Option (List ℕ)) (clear : List ℕ) (top : ℕ) → 0 < length clear → leading (numbers_of (drop 1 clear)) ≡ None → pointers_behind block clear top ≡ None
pointers_behind-none block [] top some none = refl
pointers_behind-none block (kind ∷ rest) top some none = ap (λ o. option_and_then (λ k. option_and_then (pointers_in block k top) o) (kind_of kind)) none ∙ none_in block top (kind_of kind)

pub nothing_there : (o : Option (List ℕ)) → IfSome o (λ _. ⊥) → o ≡ None
nothing_there None h = refl
nothing_there (Some x) h = absurd h

-- one number written to the front
pub front_of_one : (xs : List ℕ) (n : ℕ) → 0 < length xs → take 1 (set xs 0 n) ≡ n ∷ []
front_of_one [] n some = absurd (omega arith)
front_of_one (x ∷ xs) n some = refl

-- after a group's last pointer come those of the next one
pub next_group : (g : List ℕ → Option (List ℕ)) (xs : List ℕ) (o later : Option (List ℕ)) (at : ℕ) → o ≡ joined (Some xs) later → length xs ≤ at → option_and_then (λ ps. g (drop at ps)) o ≡ option_and_then (λ ps. g (drop (at - length xs) ps)) later
next_group g xs o None at is past = ap (option_and_then (λ ps. g (drop at ps))) is
next_group g xs o (Some ys) at is past =
    let sum : at ≡ length xs + (at - length xs) = omega arith in
    ap (option_and_then (λ ps. g (drop at ps))) is ∙ ap g (ap (λ n. drop n (xs ++ ys)) sum ∙ drop-append-add xs ys (at - length xs))
