-- A word with a hyphen in front is part of no mode, and one without it is no flag.
use Rattle.std.proofs.Common.{◌≡◌, ◌⊎◌, ◌||◌, ℕ, Bool, true, false, List, [], ◌∷◌, refl, inl, inr, ap, sym, subst, ◌∙◌, Option, None, Some, nat_lt, if◌then◌else◌, length, ◌==◌, map, string_bytes, String, Global}
use Rattle.std.specs.Prelude.{codes, bytes_eq, slice_index, IfSome}
use Rattle.std.specs.List.{list_any, list_all}
use Rattle.std.specs.Char.{is_ascii_digit}
use Rattle.std.proofs.lemmas.Bool.{and_right, eqb-true}
use Rattle.clap.proofs.WalkLemmas.{list_any-map}
use Rattle.clap.specs.Lexer.{strip_byte}
use Rattle.program_words.specs.Hyphens.{begins_with_hyphen, has_hyphen}
use Rattle.program_words.specs.Modes.{LocalMode, count_of, disk_mode_of, local_mode_of, made_by}
use Rattle.program_words.specs.Numbers.{is_numeral, number_within}

-- neither `--` nor an option
abbrev pub IsNoFlag : List ℕ → Type 0
IsNoFlag w = (bytes_eq w (45 ∷ 45 ∷ []) ≡ false) × (strip_byte 45 w ≡ None)

pub no_flag : (w : List ℕ) → begins_with_hyphen w ≡ false → IsNoFlag w
no_flag [] e = (refl, refl)
no_flag (x ∷ xs) e = (rw e refl, rw e refl)

begun : (w : List ℕ) → begins_with_hyphen w ≡ true → (rest : List ℕ) × (w ≡ 45 ∷ rest)
begun [] e = absurd (cc)
begun (x ∷ xs) e = (xs, ap (λ (y : ℕ). y ∷ xs) (eqb-true x 45 e))

one_of : (a b : Bool) → (a || b) ≡ true → (a ≡ true) ⊎ (b ≡ true)
one_of true b e = inl refl
one_of false b e = inr e

-- it is no name

no_name_begun : (name rest : List ℕ) (c : ℕ) → (45 == c) ≡ false → bytes_eq (45 ∷ rest) (c ∷ name) ≡ false
no_name_begun name rest c e = rw e refl

no_name : (w : List ℕ) (c : ℕ) (name : List ℕ) → (45 == c) ≡ false → begins_with_hyphen w ≡ true → bytes_eq w (c ∷ name) ≡ false
no_name w c name other e = subst (λ (v : List ℕ). bytes_eq v (c ∷ name) ≡ false) (sym (begun w e).1) (no_name_begun name (begun w e).0 c other)

-- it is no number

number_if : Bool → ℕ → Option ℕ
number_if test n = if test then Some n else None

no_numeral : (rest : List ℕ) → is_numeral (45 ∷ rest) ≡ false
no_numeral rest = and_right (length (45 ∷ rest) == 1 || nat_lt 48 (slice_index (45 ∷ rest) 0)) (list_all is_ascii_digit (45 ∷ rest)) refl

no_number_begun : (low high : ℕ) (rest : List ℕ) → number_within low high (45 ∷ rest) ≡ None
unfolding number_within
no_number_begun low high rest = rw (no_numeral rest) refl

no_number : (low high : ℕ) (w : List ℕ) → begins_with_hyphen w ≡ true → number_within low high w ≡ None
no_number low high w e = subst (λ (v : List ℕ). number_within low high v ≡ None) (sym (begun w e).1) (no_number_begun low high (begun w e).0)

-- so it is part of no mode

pub disk_mode_of-hyphen : (words : List (List ℕ)) → has_hyphen words ≡ true → None ≡ disk_mode_of words
disk_mode_of-hyphen [] e = refl
disk_mode_of-hyphen (w ∷ []) e = by (one_of (begins_with_hyphen w) false e)
  where
    by : (begins_with_hyphen w ≡ true) ⊎ (false ≡ true) → None ≡ disk_mode_of (w ∷ [])
    by (inl h) = rw (no_name w 114 (codes "un") refl h) (rw (no_name w 109 (codes "ore") refl h) refl)
    by (inr h) = absurd (cc)
disk_mode_of-hyphen (w ∷ next ∷ words) e = refl

made_without : (seed : Option ℕ) → None ≡ made_by seed None
made_without None = refl
made_without (Some n) = refl

either_none : (b : Bool) (mode : Option LocalMode) → None ≡ mode → None ≡ (if b then mode else None)
either_none true mode e = e
either_none false mode e = refl

pub local_mode_of-hyphen : (words : List (List ℕ)) → has_hyphen words ≡ true → None ≡ local_mode_of words
local_mode_of-hyphen [] e = refl
local_mode_of-hyphen (w ∷ []) e = by (one_of (begins_with_hyphen w) false e)
  where
    by : (begins_with_hyphen w ≡ true) ⊎ (false ≡ true) → None ≡ local_mode_of (w ∷ [])
    by (inl h) = rw (no_name w 114 (codes "un") refl h) (rw (no_name w 109 (codes "ore") refl h) (rw (no_name w 116 (codes "win") refl h) refl))
    by (inr h) = absurd (cc)
local_mode_of-hyphen (w ∷ a ∷ []) e = refl
local_mode_of-hyphen (w ∷ a ∷ b ∷ []) e = by (one_of (begins_with_hyphen w) (has_hyphen (a ∷ b ∷ [])) e)
  where
    by_values : (begins_with_hyphen a ≡ true) ⊎ (has_hyphen (b ∷ []) ≡ true) → None ≡ made_by (number_within 0 999999 a) (number_within 1 10000 b)
    by_values (inl h) = rw (no_number 0 999999 a h) refl
    by_values (inr h) = by_last (one_of (begins_with_hyphen b) false h)
      where
        by_last : (begins_with_hyphen b ≡ true) ⊎ (false ≡ true) → None ≡ made_by (number_within 0 999999 a) (number_within 1 10000 b)
        by_last (inl k) = rw (no_number 1 10000 b k) (made_without (number_within 0 999999 a))
        by_last (inr k) = absurd (cc)

    by : (begins_with_hyphen w ≡ true) ⊎ (has_hyphen (a ∷ b ∷ []) ≡ true) → None ≡ local_mode_of (w ∷ a ∷ b ∷ [])
    by (inl h) = rw (no_name w 103 (codes "en") refl h) refl
    by (inr h) = either_none (bytes_eq w (codes "gen")) (made_by (number_within 0 999999 a) (number_within 1 10000 b)) (by_values (one_of (begins_with_hyphen a) (has_hyphen (b ∷ [])) h))
local_mode_of-hyphen (w ∷ a ∷ b ∷ c ∷ words) e = refl

pub count_of-hyphen : (words : List (List ℕ)) → has_hyphen words ≡ true → None ≡ count_of words
count_of-hyphen [] e = absurd (cc)
count_of-hyphen (w ∷ []) e = by (one_of (begins_with_hyphen w) false e)
  where
    by : (begins_with_hyphen w ≡ true) ⊎ (false ≡ true) → None ≡ count_of (w ∷ [])
    by (inl h) = sym (no_number 1 4294967295 w h)
    by (inr h) = absurd (cc)
count_of-hyphen (w ∷ next ∷ words) e = refl

-- whether one of a text's words has it, for the code's own words
pub has_hyphen-texts : (words : List (String Global)) → has_hyphen (map (λ word. string_bytes word) words) ≡ list_any (λ word. begins_with_hyphen (string_bytes word)) words
has_hyphen-texts words = sym (list_any-map begins_with_hyphen (λ word. string_bytes word) words)

pub never : {P : Type 0} (b : Bool) → b ≡ false → b ≡ true → P
never b e f = absurd (let bad : true ≡ false = sym f ∙ e in cc)

-- what is so of a value, where it is there
pub some_of : {A : Type 0} (o : Option A) (a : A) (P : A → Type 0) → o ≡ Some a → IfSome o P → P a
some_of None a P e p = absurd (cc)
some_of (Some b) a P e p = let same : b ≡ a = cc in subst P same p
