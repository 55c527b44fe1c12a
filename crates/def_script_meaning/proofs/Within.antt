-- The identifiers of a script's lines are below 2^64, so what a script means is a history.
use Rattle.std.proofs.Common.{◌≡◌, ℕ, ◌+◌, ◌^◌, ◌<◌, ◌≤◌, Bool, true, false, ◌&&◌, List, [], ◌∷◌, length, nat_lt, refl, arith, ◌*◌}
use Rattle.std.specs.Prelude.{Option, None, Some, IfSome, bytes_eq, codes, if◌then◌else◌}
use Rattle.std.specs.List.{AllByRecursion}
use Rattle.std.specs.Option.{option_map}
use Rattle.std.specs.Str.Parse.{digits_value}
use Rattle.std.proofs.lemmas.Bool.{and_parts, ltb-true}
use Rattle.std.proofs.lemmas.List.{length-map}
use Rattle.client_registry.proofs.HistoryLaws.{IsHistory-last}
use Rattle.client_registry.specs.Histories.{IsKept, commands_in}
use Rattle.client_registry.specs.Run.{History, last_run}
use Rattle.client_registry.specs.Sized.{IsSized, run_words}
use Rattle.sse_script.specs.Fields.{fields_of}
use Rattle.sse_script.specs.Numbers.{number_of, is_numeral}
use Rattle.sse_script.specs.Lines.{Line, Key, Doc, AddLine, Del, Query, Rebuild, key_alone, document_line, setup_numbers, setup_line, delete_line, find_line, line_by_kind}
use Rattle.sse_script.specs.TextLines.{lines_of}
use Rattle.def_script_meaning.specs.Lines.{line_read, line_in, lines_in, script_lines}
use Rattle.def_script_meaning.specs.Meaning.{meant}
use Rattle.def_script_meaning.proofs.Kept.{IsWithinItem, kept_meant}

-- what was read of a line has such identifiers
abbrev IsWithinRead : Line → Type 0
IsWithinRead line = IsWithinItem (Some (line_read line))

number-within : (field : List ℕ) → IfSome (number_of field) (λ n. n < 2 ^ 64)
number-within field = by (is_numeral field && nat_lt (digits_value 10 field) (2 ^ 64)) refl
  where
    by : (b : Bool) → (is_numeral field && nat_lt (digits_value 10 field) (2 ^ 64)) ≡ b → IfSome (if b then Some (digits_value 10 field) else None) (λ n. n < 2 ^ 64)
    by true e = ltb-true (digits_value 10 field) (2 ^ 64) (and_parts (is_numeral field) (nat_lt (digits_value 10 field) (2 ^ 64)) e).1
    by false e = tt

key-within : (line : List ℕ → Line) → ((key : List ℕ) → IsWithinRead (line key)) → (fields : List (List ℕ)) → IfSome (option_map line (key_alone fields)) IsWithinRead
key-within line rule fields = by (key_alone fields)
  where
    by : (k : Option (List ℕ)) → IfSome (option_map line k) IsWithinRead
    by None = tt
    by (Some key) = rule key

document-within : (make : ℕ → List (List ℕ) → Line) → ((n : ℕ) (words : List (List ℕ)) → n < 2 ^ 64 → IsWithinRead (make n words)) → (fields : List (List ℕ)) → IfSome (document_line make fields) IsWithinRead
document-within make rule [] = tt
document-within make rule (id ∷ words) = by (number_of id) (number-within id)
  where
    by : (n : Option ℕ) → IfSome n (λ n. n < 2 ^ 64) → IfSome (option_map (λ n. make n words) n) IsWithinRead
    by None h = tt
    by (Some n) h = rule n words h

numbers-within : (b big pad : Option ℕ) → IfSome (setup_numbers b big pad) IsWithinRead
numbers-within (Some b) (Some big) (Some pad) = tt
numbers-within (Some b) (Some big) None = tt
numbers-within (Some b) None pad = tt
numbers-within None big pad = tt

setup-within : (fields : List (List ℕ)) → IfSome (setup_line fields) IsWithinRead
setup-within [] = tt
setup-within (b ∷ []) = tt
setup-within (b ∷ big ∷ []) = numbers-within (number_of b) (number_of big) (Some 1)
setup-within (b ∷ big ∷ pad ∷ []) = numbers-within (number_of b) (number_of big) (number_of pad)
setup-within (b ∷ big ∷ pad ∷ other ∷ fields) = tt

delete-within : (fields : List (List ℕ)) → IfSome (delete_line fields) IsWithinRead
delete-within [] = tt
delete-within (id ∷ []) = by (number_of id) (number-within id)
  where
    by : (n : Option ℕ) → IfSome n (λ n. n < 2 ^ 64) → IfSome (option_map Del n) IsWithinRead
    by None h = tt
    by (Some n) h = h
delete-within (id ∷ other ∷ fields) = tt

find-within : (fields : List (List ℕ)) → IfSome (find_line fields) IsWithinRead
find-within [] = tt
find-within (word ∷ []) = tt
find-within (word ∷ other ∷ fields) = tt

kind-within : (fields : List (List ℕ)) → IfSome (line_by_kind fields) IsWithinRead
kind-within [] = tt
kind-within (kind ∷ fields) =
    by (bytes_eq kind (codes "key")) (bytes_eq kind (codes "doc")) (bytes_eq kind (codes "setup")) (bytes_eq kind (codes "add")) (bytes_eq kind (codes "del")) (bytes_eq kind (codes "find")) (bytes_eq kind (codes "query")) (bytes_eq kind (codes "rebuild"))
  where
    by : (a b c d e g h k : Bool) →
        IfSome (if a then option_map Key (key_alone fields) else if b then document_line Doc fields else if c then setup_line fields else if d then document_line AddLine fields else if e then delete_line fields else if g then find_line fields else if h then Some (Query fields) else if k then option_map Rebuild (key_alone fields) else None) IsWithinRead
    by true b c d e g h k = key-within Key (λ key. tt) fields
    by false true c d e g h k = document-within Doc (λ n words h. h) fields
    by false false true d e g h k = setup-within fields
    by false false false true e g h k = document-within AddLine (λ n words h. h) fields
    by false false false false true g h k = delete-within fields
    by false false false false false true h k = find-within fields
    by false false false false false false true k = tt
    by false false false false false false false true = key-within Rebuild (λ key. tt) fields
    by false false false false false false false false = tt

IsWithin-line_in : (bytes : List ℕ) → IsWithinItem (line_in bytes)
IsWithin-line_in bytes = by (nat_lt (2 ^ 19) (length bytes))
  where
    of : (o : Option Line) → IfSome o IsWithinRead → IsWithinItem (option_map line_read o)
    of None h = tt
    of (Some line) h = h

    by : (b : Bool) → IsWithinItem (option_map line_read (if b then None else line_by_kind (fields_of bytes)))
    by true = tt
    by false = of (line_by_kind (fields_of bytes)) (kind-within (fields_of bytes))

pub IsWithin-lines_in : (texts : List (List ℕ)) → AllByRecursion IsWithinItem (lines_in texts)
IsWithin-lines_in [] = tt
IsWithin-lines_in (text ∷ texts) = (IsWithin-line_in text, IsWithin-lines_in texts)

-- Promise P162 (inside): A run sends and prints a prefix of its script's meaning with the answers received; ending with 0, 1 or 2, all of it.
--   assumes: keyed function, honest link, no collision
-- what a script means keeps the rules of every history, and has at most 32 commands for each line
pub meaning_is_kept : (mark : Option (List ℕ → List ℕ)) (bytes : List ℕ) → IsKept (meant mark (script_lines bytes)).history × (commands_in (meant mark (script_lines bytes)).history ≤ 32 * length (lines_of bytes))
meaning_is_kept mark bytes =
    let kept = kept_meant mark 1 (script_lines bytes) (IsWithin-lines_in (lines_of bytes)) in
    (kept.0, omega (arith, kept.1, length-map (lines_of bytes) line_in))

-- and is sized, where its lines and its words can be numbered in 32 bits
pub meaning_is_sized : (mark : Option (List ℕ → List ℕ)) (bytes : List ℕ) → 32 * length (lines_of bytes) + 1 < 2 ^ 32 → IfSome (meant mark (script_lines bytes)).history (λ es. length (run_words (last_run es)) < 2 ^ 32)
    → IfSome (meant mark (script_lines bytes)).history (λ es. IsSized (last_run es))
meaning_is_sized mark bytes few words =
    let kept = meaning_is_kept mark bytes in
    sized (meant mark (script_lines bytes)).history kept.0 (omega (arith, few, kept.1)) words
  where
    sized : (h : History) → IsKept h → commands_in h + 1 < 2 ^ 32 → IfSome h (λ es. length (run_words (last_run es)) < 2 ^ 32) → IfSome h (λ es. IsSized (last_run es))
    sized None kept commands words = tt
    sized (Some es) kept commands words = record { history = IsHistory-last es kept.0; commands = omega (arith, commands); frames = omega (arith, kept.1); words = words }
