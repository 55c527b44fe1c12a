-- What taking the next field of a line leaves.
use Rattle.std.proofs.Common.{◌≡◌, ℕ, ◌+◌, ◌<◌, Bool, true, false, cond, not, List, [], ◌∷◌, length, take, drop, refl, ap, sym, ◌∙◌, suc, arith}
use Rattle.std.specs.List.{filter, slice_split, onto_first, prefix_len}
use Rattle.std.proofs.lemmas.List.Folds.{length-prefix_len}
use Rattle.std.proofs.lemmas.List.Splits.{slice_split-cons_yes, slice_split-cons_no}
use Rattle.sse_script.specs.Fields.{is_space, is_field, fields_of}

-- the count of spaces that the bytes begin with
abbrev pub spaces : List ℕ → ℕ
spaces bytes = prefix_len is_space bytes

-- the length of the run of bytes other than a space that the bytes begin with
abbrev pub field_len : List ℕ → ℕ
field_len bytes = prefix_len (λ byte. not (is_space byte)) bytes

drop_one_more : (n b : ℕ) (bytes : List ℕ) → drop (1 + n) (b ∷ bytes) ≡ drop n bytes
drop_one_more n b bytes = let e : 1 + n ≡ suc n = omega arith in rw e refl

take_one_more : (n b : ℕ) (bytes : List ℕ) → take (1 + n) (b ∷ bytes) ≡ b ∷ take n bytes
take_one_more n b bytes = let e : 1 + n ≡ suc n = omega arith in rw e refl

fields_of-space : (b : ℕ) (bytes : List ℕ) → is_space b ≡ true → fields_of (b ∷ bytes) ≡ fields_of bytes
fields_of-space b bytes e = ap (λ parts. filter is_field parts) (slice_split-cons_yes is_space b bytes e)

spaces_step : (b : ℕ) (bytes : List ℕ) (t : Bool) → is_space b ≡ t → fields_of (drop (spaces bytes) bytes) ≡ fields_of bytes
    → fields_of (drop (cond t (1 + spaces bytes) 0) (b ∷ bytes)) ≡ fields_of (b ∷ bytes)
spaces_step b bytes true e h = ap (λ rest. fields_of rest) (drop_one_more (spaces bytes) b bytes) ∙ (h ∙ sym (fields_of-space b bytes e))
spaces_step b bytes false e h = refl

-- the spaces in front don't count
pub fields_of-spaces : (bytes : List ℕ) → fields_of (drop (spaces bytes) bytes) ≡ fields_of bytes
fields_of-spaces [] = refl
fields_of-spaces (b ∷ bytes) = spaces_step b bytes (is_space b) refl (fields_of-spaces bytes)

-- the first text of a line, and the fields after it, which are those of the bytes after
pub record StartsWith (bytes first behind : List ℕ) : Type 0 where
  pub rest : List (List ℕ)
  pub parts : slice_split is_space bytes ≡ first ∷ rest
  pub fields : filter is_field rest ≡ fields_of behind

run_step : (b : ℕ) (bytes : List ℕ) (t : Bool) → is_space b ≡ t → StartsWith bytes (take (field_len bytes) bytes) (drop (field_len bytes) bytes)
    → StartsWith (b ∷ bytes) (take (cond (not t) (1 + field_len bytes) 0) (b ∷ bytes)) (drop (cond (not t) (1 + field_len bytes) 0) (b ∷ bytes))
run_step b bytes true e h = record {
  rest = slice_split is_space bytes;
  parts = slice_split-cons_yes is_space b bytes e;
  fields = sym (fields_of-space b bytes e);
}
run_step b bytes false e h = record {
  rest = h.rest;
  parts = slice_split-cons_no is_space b bytes e ∙ (ap (λ parts. onto_first b parts) h.parts ∙ ap (λ (first : List ℕ). first ∷ h.rest) (sym (take_one_more (field_len bytes) b bytes)));
  fields = h.fields ∙ ap (λ rest. fields_of rest) (sym (drop_one_more (field_len bytes) b bytes));
}

-- the first text of a line is the run that it begins with
pub first_run : (bytes : List ℕ) → StartsWith bytes (take (field_len bytes) bytes) (drop (field_len bytes) bytes)
first_run [] = record { rest = []; parts = refl; fields = refl }
first_run (b ∷ bytes) = run_step b bytes (is_space b) refl (first_run bytes)

no_field_step : (b : ℕ) (bytes : List ℕ) (t : Bool) → is_space b ≡ t → (field_len (drop (spaces bytes) bytes) ≡ 0 → fields_of bytes ≡ [])
    → field_len (drop (cond t (1 + spaces bytes) 0) (b ∷ bytes)) ≡ 0 → fields_of (b ∷ bytes) ≡ []
no_field_step b bytes true e h none = fields_of-space b bytes e ∙ h (ap (λ rest. field_len rest) (sym (drop_one_more (spaces bytes) b bytes)) ∙ none)
no_field_step b bytes false e h none =
    let more : field_len (b ∷ bytes) ≡ 1 + field_len bytes = ap (λ (v : Bool). cond (not v) (1 + field_len bytes) 0) e in
    absurd (omega (arith, more, none))

no_field : (bytes : List ℕ) → field_len (drop (spaces bytes) bytes) ≡ 0 → fields_of bytes ≡ []
no_field [] none = refl
no_field (b ∷ bytes) none = no_field_step b bytes (is_space b) refl (no_field bytes) none

filter_field : (first : List ℕ) (rest : List (List ℕ)) → 0 < length first → filter is_field (first ∷ rest) ≡ first ∷ filter is_field rest
filter_field [] rest h = absurd (omega arith)
filter_field (b ∷ bytes) rest h = grind arith

run_is_field : (bytes : List ℕ) → 0 < length (take (field_len bytes) bytes) → fields_of bytes ≡ take (field_len bytes) bytes ∷ fields_of (drop (field_len bytes) bytes)
run_is_field bytes some =
    let run = first_run bytes in
    ap (λ parts. filter is_field parts) run.parts ∙ (filter_field (take (field_len bytes) bytes) run.rest some ∙ ap (λ (fields : List (List ℕ)). take (field_len bytes) bytes ∷ fields) run.fields)

-- what one cut after the spaces and one after the run of other bytes give
pub record Cut (bytes fields field rest : List ℕ) : Type 0 where
  pub behind : fields ≡ drop (spaces bytes) bytes
  pub front : field ≡ take (field_len fields) fields
  pub back : rest ≡ drop (field_len fields) fields

-- an empty run after the spaces: there is no field
pub fields_of_none : (bytes fields field rest : List ℕ) → Cut bytes fields field rest → length field ≡ 0 → fields_of bytes ≡ []
fields_of_none bytes fields field rest cut none =
    let short : field_len fields ≡ 0 = sym (length-prefix_len (λ byte. not (is_space byte)) fields) ∙ (ap length (sym cut.front) ∙ none) in
    no_field bytes (ap field_len (sym cut.behind) ∙ short)

-- the run after the spaces is the first field
pub fields_of_some : (bytes fields field rest : List ℕ) → Cut bytes fields field rest → 0 < length field → fields_of bytes ≡ field ∷ fields_of rest
fields_of_some bytes fields field rest cut some =
    let first : fields_of fields ≡ take (field_len fields) fields ∷ fields_of (drop (field_len fields) fields) = run_is_field fields (rw (← cut.front) some) in
    sym (fields_of-spaces bytes) ∙ (ap fields_of (sym cut.behind) ∙ (first ∙ rw (← cut.front, ← cut.back) refl))
