-- The first search of a word is a search of it, and stays the first; so words with one first search are one.
use Rattle.std.proofs.Common.{◌≡◌, ℕ, ◌+◌, Bool, true, false, List, [], ◌∷◌, ◌++◌, length, refl, sym, ap, ◌∙◌, arith, Some, None}
use Rattle.std.specs.Prelude.{Option, bytes_eq, if◌then◌else◌, option_map, unwrap_or}
use Rattle.std.specs.List.{slice_get}
use Rattle.std.specs.Option.{option_or}
use Rattle.std.specs.Cmp.Lexicographic.{same_text}
use Rattle.std.proofs.lemmas.Slice.Eq.{bytes_eq-Decides}
use Rattle.client_registry.specs.Command.{Command, Add, Delete, Search}
use Rattle.client_registry.specs.Run.{Offsets}
use Rattle.def_leakage.proofs.Places.{none_is_some, earliest-push}
use Rattle.def_leakage.specs.Firsts.{origin, earliest, searched_at, first_search}
use Rattle.sse_model.specs.Drawn.{searches_for}
use Rattle.def_relabelling.proofs.SamePlaces.{earliest-more}
use Rattle.def_relabelling.proofs.FirstPlaces.{some_inside, at-middle, FoundFrom, found_from}
use Rattle.sse_simulator.specs.Leaks.{Origin}

record SearchStands (o : Offsets) (past : List Command) (w : List ℕ) (k : ℕ) : Type 0 where
  pub n : ℕ
  pub there : slice_get past n ≡ Some (Search w)
  pub number : o.command + 1 + n ≡ k

search_stands : (o : Offsets) (past : List Command) (w : List ℕ) (k : ℕ) → first_search o past w ≡ Some k → SearchStands o past w k
search_stands o past w k e = by (earliest o (searched_at w) past) refl e
  where
    is_search : (c : Command) (place : ℕ) → (if searches_for w c then Some 0 else None) ≡ Some place → c ≡ Search w
    is_search (Add d) place e = none_is_some place e
    is_search (Delete id) place e = none_is_some place e
    is_search (Search other) place e = go (bytes_eq w other) refl e
      where
        go : (b : Bool) → bytes_eq w other ≡ b → (if b then Some 0 else None) ≡ Some place → Search other ≡ Search w
        go true is e = ap (λ x. Search x) (sym (same_text w other (sym is)))
        go false is e = none_is_some place e

    by : (m : Option Origin) → earliest o (searched_at w) past ≡ m → option_map (λ found. found.command) m ≡ Some k → SearchStands o past w k
    by None is e = none_is_some k e
    by (Some first) is e =
        let f : FoundFrom (searched_at w) (o.command + 1) [] past first = found_from (searched_at w) (o.command + 1) [] past first is in
        record {
          n = length f.front;
          there = ap (λ xs. slice_get xs (length f.front)) f.parts ∙ at-middle f.front f.c f.rest ∙ ap (λ x. Some x) (is_search f.c first.place f.passes);
          number = f.number ∙ some_inside first.command k e;
        }

word_in : Command → List ℕ
word_in (Add d) = []
word_in (Delete id) = []
word_in (Search word) = word

pub searched_once : (o : Offsets) (past : List Command) (w v : List ℕ) (k : ℕ) → first_search o past w ≡ Some k → first_search o past v ≡ Some k → w ≡ v
unfolding word_in
searched_once o past w v k e f =
    let a = search_stands o past w k e in
    let b = search_stands o past v k f in
    let n : a.n ≡ b.n = (let x = a.number in let y = b.number in omega (arith, x, y)) in
    ap word_in (some_inside (Search w) (Search v) (sym a.there ∙ ap (slice_get past) n ∙ b.there))

-- after a search of the word
pub first_search-push : (o : Offsets) (past : List Command) (w : List ℕ) → first_search o (past ++ Search w ∷ []) w ≡ Some (unwrap_or (first_search o past w) (o.command + 1 + length past))
first_search-push o past w =
    ap (option_map (λ (found : Origin). found.command)) (earliest-push o (searched_at w) past (Search w))
    ∙ ap (λ b. option_map (λ (found : Origin). found.command) (option_or (earliest o (searched_at w) past) (option_map (origin (o.command + 1 + length past)) (if b then Some 0 else None))))
    ((bytes_eq-Decides w w).1 refl)
    ∙ by (earliest o (searched_at w) past)
  where
    by : (m : Option Origin) → option_map (λ (found : Origin). found.command) (option_or m (Some (origin (o.command + 1 + length past) 0)))
        ≡ Some (unwrap_or (option_map (λ (found : Origin). found.command) m) (o.command + 1 + length past))
    by None = refl
    by (Some first) = refl

pub first_search-more : (o : Offsets) (past more : List Command) (w : List ℕ) (k : ℕ) → first_search o past w ≡ Some k → first_search o (past ++ more) w ≡ Some k
first_search-more o past more w k e = by (earliest o (searched_at w) past) refl e
  where
    by : (m : Option Origin) → earliest o (searched_at w) past ≡ m → option_map (λ (found : Origin). found.command) m ≡ Some k → first_search o (past ++ more) w ≡ Some k
    by None is e = none_is_some k e
    by (Some first) is e = ap (option_map (λ (found : Origin). found.command)) (earliest-more o (searched_at w) past more first is) ∙ e
