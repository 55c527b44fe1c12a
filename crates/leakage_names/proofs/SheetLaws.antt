-- What a table of values gives, by what its tree gives.
use Rattle.std.proofs.Common.{◌≡◌, ◌≢◌, ℕ, Bool, true, false, List, [], ◌∷◌, refl, sym, ap, ◌∙◌, Some}
use Rattle.std.specs.Prelude.{option_map, bytes_eq, cond, slice_index, ◌==◌, if◌then◌else◌}
use Rattle.std.specs.Map.{lookup}
use Rattle.std.specs.BTreeMap.{get, is_at}
use Rattle.std.specs.Ordering.{nat_cmp}
use Rattle.std.specs.Cmp.Lexicographic.{slice_cmp, same_text}
use Rattle.std.proofs.lemmas.Map.Made.{lookup-map_values}
use Rattle.std.proofs.lemmas.Map.Text.{is_eq-slice_cmp}
use Rattle.leakage_names.specs.Keys.{key_of, kind_number}
use Rattle.leakage_names.specs.Sheets.{value_at, values_of}
use Rattle.leakage_names.specs.declared.name.Name.{Name}
use Rattle.leakage_names.specs.declared.name.NameKind.{NameKind}
use Rattle.leakage_names.specs.declared.name.NameKind.TheVariants.{Token, ListLabel, ListPad, PlusLabel, PlusPad, Revocation, PlaceTag, DummyLabel, DummyCell, DummyTag, DummyBlock}
use Rattle.leakage_names.specs.declared.sheet.Sheet.TheInside.{Inside}

lookup-same : {K X : Type 0} (f g : K → Bool) → ((k : K) → f k ≡ g k) → (es : List (K × X)) → lookup f es ≡ lookup g es
lookup-same f g same [] = refl
lookup-same f g same (e ∷ es) = λ i. cond (same e.0 i) (Some e.1) (lookup-same f g same es i)

-- the value of a name is what the tree has at the name's numbers
pub value_at-get : (sheet : Inside) (name : Name) → value_at (values_of sheet) name ≡ option_map (λ v. v.items) (get (slice_cmp nat_cmp) sheet.values (key_of name))
value_at-get sheet name =
    lookup-map_values (λ v. v.items) (bytes_eq (key_of name)) sheet.values.entries
    ∙ ap (option_map (λ v. v.items)) (lookup-same (bytes_eq (key_of name)) (is_at (slice_cmp nat_cmp (key_of name))) (λ k. sym (is_eq-slice_cmp (key_of name) k)) sheet.values.entries)

-- the kind of a number
abbrev kind_of : ℕ → NameKind
kind_of n =
    if n == 0 then Token
    else if n == 1 then ListLabel
    else if n == 2 then ListPad
    else if n == 3 then PlusLabel
    else if n == 4 then PlusPad
    else if n == 5 then Revocation
    else if n == 6 then PlaceTag
    else if n == 7 then DummyLabel
    else if n == 8 then DummyCell
    else if n == 9 then DummyTag
    else DummyBlock

kind_back : (kind : NameKind) → kind_of (kind_number kind) ≡ kind
kind_back Token = refl
kind_back ListLabel = refl
kind_back ListPad = refl
kind_back PlusLabel = refl
kind_back PlusPad = refl
kind_back Revocation = refl
kind_back PlaceTag = refl
kind_back DummyLabel = refl
kind_back DummyCell = refl
kind_back DummyTag = refl
kind_back DummyBlock = refl

-- a name is made of its numbers
abbrev name_of : List ℕ → Name
name_of key = record { epoch = slice_index key 0; word = slice_index key 1; kind = kind_of (slice_index key 2); number = slice_index key 3 }

name_back : (name : Name) → name_of (key_of name) ≡ name
name_back name = λ i. record { epoch = name.epoch; word = name.word; kind = kind_back name.kind i; number = name.number }

pub same_key : (one other : Name) → key_of one ≡ key_of other → one ≡ other
same_key one other same = sym (name_back one) ∙ ap name_of same ∙ name_back other

-- the numbers of another name are other numbers
pub other_key : (name other : Name) → other ≢ name → is_at (slice_cmp nat_cmp (key_of name)) (key_of other) ≡ false
other_key name other differ = by (bytes_eq (key_of name) (key_of other)) refl
  where
    by : (b : Bool) → bytes_eq (key_of name) (key_of other) ≡ b → is_at (slice_cmp nat_cmp (key_of name)) (key_of other) ≡ false
    by true same = absurd (differ (sym (same_key name other (same_text (key_of name) (key_of other) (sym same)))))
    by false apart = is_eq-slice_cmp (key_of name) (key_of other) ∙ apart
