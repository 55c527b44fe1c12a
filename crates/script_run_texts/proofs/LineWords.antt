-- A line of a script has few words.
use Rattle.std.proofs.Common.{◌≡◌, ℕ, ◌+◌, ◌^◌, ◌≤◌, Bool, true, false, List, [], ◌∷◌, length, nat_lt, refl, sym, subst, arith}
use Rattle.std.specs.Prelude.{Option, None, Some, IfSome, option_map, codes, if◌then◌else◌}
use Rattle.std.specs.Str.{bytes_eq}
use Rattle.std.proofs.lemmas.Bool.{ltb-false}
use Rattle.std.proofs.lemmas.List.Sums.{length-filter, count_by-le-length}
use Rattle.std.proofs.lemmas.List.Splits.{length-slice_split}
use Rattle.std.specs.List.{slice_split}
use Rattle.sse_script.specs.Fields.{is_space, is_field, fields_of}
use Rattle.sse_script.specs.Numbers.{number_of, key_of}
use Rattle.sse_script.specs.Lines.{Line, Key, Doc, AddLine, Del, Query, Rebuild, line_of, line_by_kind, key_alone, document_line, setup_numbers, setup_line, delete_line, find_line}
use Rattle.script_run_texts.specs.LineWords.{words_in}

-- a line has at most one field more than bytes
fields_few : (bytes : List ℕ) → length (fields_of bytes) ≤ length bytes + 1
fields_few bytes =
    omega (arith, length-filter is_field (slice_split is_space bytes), count_by-le-length is_field (slice_split is_space bytes), length-slice_split is_space bytes, count_by-le-length is_space bytes)

mapped : {A : Type 0} (P : Line → Type 0) (o : Option A) (line : A → Line) → ((x : A) → P (line x)) → IfSome (option_map line o) P
mapped P None line h = tt
mapped P (Some x) line h = h x

module _ (n : ℕ) where
  abbrev HasFew : Line → Type 0
  HasFew line = words_in line ≤ n

  few_key : (line : List ℕ → Line) → ((key : List ℕ) → words_in (line key) ≡ 0) → (fields : List (List ℕ)) → IfSome (option_map line (key_alone fields)) HasFew
  few_key line same [] = tt
  few_key line same (key ∷ []) = mapped HasFew (key_of key) line (λ x. omega (arith, same x))
  few_key line same (key ∷ other ∷ more) = tt

  few_document : (line : ℕ → List (List ℕ) → Line) → ((id : ℕ) (words : List (List ℕ)) → words_in (line id words) ≡ length words) →
      (fields : List (List ℕ)) → length fields ≤ n → IfSome (document_line line fields) HasFew
  few_document line same [] few = tt
  few_document line same (id ∷ words) few = mapped HasFew (number_of id) (λ m. line m words) (λ m. omega (arith, few, same m words))

  few_numbers : (b big pad : Option ℕ) → IfSome (setup_numbers b big pad) HasFew
  few_numbers (Some b) (Some big) (Some pad) = let few : 0 ≤ n = omega arith in few
  few_numbers (Some b) (Some big) None = tt
  few_numbers (Some b) None pad = tt
  few_numbers None big pad = tt

  few_setup : (fields : List (List ℕ)) → IfSome (setup_line fields) HasFew
  few_setup [] = tt
  few_setup (b ∷ []) = tt
  few_setup (b ∷ big ∷ []) = few_numbers (number_of b) (number_of big) (Some 1)
  few_setup (b ∷ big ∷ pad ∷ []) = few_numbers (number_of b) (number_of big) (number_of pad)
  few_setup (b ∷ big ∷ pad ∷ other ∷ more) = tt

  few_delete : (fields : List (List ℕ)) → IfSome (delete_line fields) HasFew
  few_delete [] = tt
  few_delete (id ∷ []) = mapped HasFew (number_of id) Del (λ x. omega arith)
  few_delete (id ∷ other ∷ more) = tt

  few_find : (fields : List (List ℕ)) → IfSome (find_line fields) HasFew
  few_find [] = tt
  few_find (word ∷ []) = let few : 0 ≤ n = omega arith in few
  few_find (word ∷ other ∷ more) = tt

  chosen : (t : Bool) (a b : Option Line) → IfSome a HasFew → IfSome b HasFew → IfSome (if t then a else b) HasFew
  chosen true a b p q = p
  chosen false a b p q = q

  few_by_kind : (fields : List (List ℕ)) → length fields ≤ n + 1 → IfSome (line_by_kind fields) HasFew
  few_by_kind [] few = let few : 0 ≤ n = omega arith in few
  few_by_kind (kind ∷ fields) few =
      let less : length fields ≤ n = omega (arith, few) in
      chosen (bytes_eq kind (codes "key")) (option_map Key (key_alone fields)) _ (few_key Key (λ key. refl) fields) (
      chosen (bytes_eq kind (codes "doc")) (document_line Doc fields) _ (few_document Doc (λ id words. refl) fields less) (
      chosen (bytes_eq kind (codes "setup")) (setup_line fields) _ (few_setup fields) (
      chosen (bytes_eq kind (codes "add")) (document_line AddLine fields) _ (few_document AddLine (λ id words. refl) fields less) (
      chosen (bytes_eq kind (codes "del")) (delete_line fields) _ (few_delete fields) (
      chosen (bytes_eq kind (codes "find")) (find_line fields) _ (few_find fields) (
      chosen (bytes_eq kind (codes "query")) (Some (Query fields)) _ (let few : 0 ≤ n = omega arith in few) (
      chosen (bytes_eq kind (codes "rebuild")) (option_map Rebuild (key_alone fields)) None (few_key Rebuild (λ key. refl) fields) tt)))))))

few_of : (bytes : List ℕ) → IfSome (line_of bytes) (λ line. words_in line ≤ 2 ^ 19)
few_of bytes = by (nat_lt (2 ^ 19) (length bytes)) refl
  where
    by : (t : Bool) → nat_lt (2 ^ 19) (length bytes) ≡ t → IfSome (if t then None else line_by_kind (fields_of bytes)) (λ line. words_in line ≤ 2 ^ 19)
    by true e = tt
    by false e =
        let short : length bytes ≤ 2 ^ 19 = ltb-false _ _ e in
        few_by_kind (2 ^ 19) (fields_of bytes) (omega (arith, fields_few bytes, short))

-- a line has at most 2^19 words
pub words_few : (line : Line) (bytes : List ℕ) → Some line ≡ line_of bytes → words_in line ≤ 2 ^ 19
words_few line bytes e = subst (λ (found : Option Line). IfSome found (λ line. words_in line ≤ 2 ^ 19)) (sym e) (few_of bytes)
