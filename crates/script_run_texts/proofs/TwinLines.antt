-- The line between two scripts is no line of a script.
use Rattle.std.proofs.Common.{◌≡◌, ℕ, ◌^◌, Bool, true, false, List, [], ◌∷◌, length, nat_lt, refl, subst, sym}
use Rattle.std.specs.Prelude.{None, codes, if◌then◌else◌}
use Rattle.std.proofs.lemmas.Slice.Eq.{bytes_eq-Decides}
use Rattle.sse_script.specs.Fields.{fields_of}
use Rattle.sse_script.specs.Lines.{line_of, line_by_kind}
use Rattle.script_run_texts.specs.Twins.{is_twin, is_twin_line}

no_kind : (fields : List (List ℕ)) → is_twin fields ≡ true → line_by_kind fields ≡ None
no_kind [] e = absurd (cc)
no_kind (word ∷ []) e = subst (λ w. line_by_kind (w ∷ []) ≡ None) (sym ((bytes_eq-Decides word (codes "twin")).0 e)) refl
no_kind (word ∷ next ∷ words) e = absurd (cc)

pub line_of-twin : (bytes : List ℕ) → is_twin_line bytes ≡ true → line_of bytes ≡ None
line_of-twin bytes e = by (nat_lt (2 ^ 19) (length bytes)) e
  where
    by : (b : Bool) → (if b then false else is_twin (fields_of bytes)) ≡ true → (if b then None else line_by_kind (fields_of bytes)) ≡ None
    by true e = refl
    by false e = no_kind (fields_of bytes) e

-- a line that is too long parts nothing
pub is_twin_line-long : (bytes : List ℕ) → nat_lt (2 ^ 19) (length bytes) ≡ true → is_twin_line bytes ≡ false
is_twin_line-long bytes e = by (nat_lt (2 ^ 19) (length bytes)) e
  where
    by : (b : Bool) → b ≡ true → (if b then false else is_twin (fields_of bytes)) ≡ false
    by true e = refl
    by false e = absurd (cc)
