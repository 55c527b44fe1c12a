-- What a command after a setup draws is what its words draw, one after another.
use Rattle.std.proofs.Common.{◌≡◌, ℕ, ◌+◌, Bool, true, false, not, ◌||◌, cond, List, [], ◌∷◌, ◌++◌, map, filter, Some, None, refl, sym, ap, ◌∙◌, append_assoc}
use Rattle.std.specs.Prelude.{flat_map, if◌then◌else◌, unwrap_or, is_some, Option, option_map}
use Rattle.std.specs.List.{list_any}
use Rattle.std.proofs.lemmas.List.{append-nil, map-append}
use Rattle.std.proofs.lemmas.List.Concat.{flat_map-append}
use Rattle.client_registry.proofs.OrderLaws.{AreApart}
use Rattle.client_registry.specs.Command.{Command, Add, Delete, Search}
use Rattle.client_registry.specs.Document.{Document}
use Rattle.client_registry.specs.Facts.{facts_of}
use Rattle.client_registry.specs.Live.{live, is_listed, counter}
use Rattle.client_registry.specs.Over.{over}
use Rattle.client_registry.specs.Run.{Offsets}
use Rattle.client_registry.specs.Setup.{Setup}
use Rattle.def_leakage.proofs.Law.{unsent, sent}
use Rattle.def_leakage.specs.DrawnValues.{ForEntry, ForNumber, ForToken, draw, drawings_by}
use Rattle.def_leakage.specs.Firsts.{first_place, first_search, number_origin, searched_at}
use Rattle.keyed_fn.specs.KeyFormulas.{part_key, revocation}
use Rattle.keyed_fn.specs.KeyedFn.{KeyedFn}
use Rattle.sse_frames.specs.Frames.{be64}
use Rattle.sse_model.proofs.LiveWords.{words_live-apart}
use Rattle.sse_model.specs.Drawn.{was_sent, searches_for}
use Rattle.sse_model.specs.Names.{Table, name, table, PlusLabel, PlusPad, Revocation, Token}
use Rattle.sse_model.specs.Positions.{Position}
use Rattle.sse_model.specs.Wire.{words_live}
use Rattle.sse_simulator.specs.Leaks.{Draw, NumberDraw, Origin}
use Rattle.sse_game.specs.Drawn.{added_piece, deleted_piece, entry_drawn, searched_piece}

-- A loop over words.

pub pushed : {A B : Type 0} (view : A → B) (old new : List A) (x : A) (piece : List B) → new ≡ old ++ x ∷ [] → view x ∷ [] ≡ piece → map view new ≡ map view old ++ piece
pushed view old new x piece is same = ap (map view) is ∙ map-append view old (x ∷ []) ∙ ap (λ ys. map view old ++ ys) same

pub fresh : {B : Type 0} (listed known : Bool) (y : B) → listed ≡ known → listed ≡ false → y ∷ [] ≡ (if known then [] else y ∷ [])
fresh listed known y is new = ap (λ b. if b then [] else y ∷ []) (sym new ∙ is)

-- the same where the front is longer by the item
pub more-front : {A X : Type 0} (f : A → List X) (front longer : List A) (x : A) (old now after : List X) → longer ≡ front ++ x ∷ []
    → now ≡ old ++ flat_map f front → after ≡ now ++ f x → after ≡ old ++ flat_map f longer
more-front f front longer x old now after is are more =
    more
    ∙ ap (λ ys. ys ++ f x) are
    ∙ append_assoc old (flat_map f front) (f x)
    ∙ ap (λ ys. old ++ ys) (ap (λ ys. flat_map f front ++ ys) (sym (append-nil (f x))) ∙ sym (flat_map-append f front (x ∷ [])) ∙ ap (flat_map f) (sym is))

-- What is known of the commands before.

number_known : (o : Offsets) (s : Setup) (past : List Command) (word : List ℕ) (id : ℕ) (t : Table) → is_some (number_origin o s past word id) ≡ was_sent s past word id
number_known o s past word id t = by (number_origin o s past word id) refl
  where
    by : (m : Option Origin) → number_origin o s past word id ≡ m → is_some (number_origin o s past word id) ≡ was_sent s past word id
    by None is = ap is_some is ∙ sym (unsent t o s past word id is)
    by (Some first) is = ap is_some is ∙ sym (sent t o s past word id first is)

place_known : (word : List ℕ) (k : ℕ) (before past : List Command) → is_some (first_place k (over (searched_at word) before past)) ≡ list_any (searches_for word) past
place_known word k before [] = refl
place_known word k before (c ∷ cs) = by (searches_for word c) (place_known word (k + 1) (before ++ c ∷ []) cs)
  where
    by : (b : Bool) → is_some (first_place (k + 1) (over (searched_at word) (before ++ c ∷ []) cs)) ≡ list_any (searches_for word) cs
        → is_some (first_place k ((if b then Some 0 else None) ∷ over (searched_at word) (before ++ c ∷ []) cs)) ≡ (b || list_any (searches_for word) cs)
    by true had = refl
    by false had = had

some-mapped : {A B : Type 0} (f : A → B) (o : Option A) → is_some (option_map f o) ≡ is_some o
some-mapped f None = refl
some-mapped f (Some a) = refl

search_known : (o : Offsets) (past : List Command) (word : List ℕ) → is_some (first_search o past word) ≡ list_any (searches_for word) past
search_known o past word =
    some-mapped (λ (first : Origin). first.command) (first_place (o.command + 1) (over (searched_at word) [] past)) ∙ place_known word (o.command + 1) [] past

module _ (f : KeyedFn) (key : List ℕ) (o : Offsets) (s : Setup) (past : List Command) (ranks : List ℕ) where
  abbrev t : Table
  t = table f s.shape (λ epoch. key)

  -- An addition.

  abbrev position_at : ℕ → List ℕ → Position
  position_at id word = record { label = name o.epoch word PlusLabel (counter s past word); pad = name o.epoch word PlusPad (counter s past word); clear = λ ranks. be64 id }

  added : (id : ℕ) (ws : List (List ℕ)) → flat_map (added_piece f key (facts_of s past) id) ws
      ≡ map (draw t ranks) (map ForEntry (map (position_at id) (filter (λ word. not (is_listed s past word id)) ws)))
  added id [] = refl
  added id (w ∷ ws) = by (is_listed s past w id) (added id ws)
    where
      rest : List (List ℕ)
      rest = filter (λ word. not (is_listed s past word id)) ws

      all : List Draw
      all = flat_map (added_piece f key (facts_of s past) id) ws

      by : (b : Bool) → all ≡ map (draw t ranks) (map ForEntry (map (position_at id) rest))
          → (if b then [] else entry_drawn f key (counter s past w) id w ∷ []) ++ all ≡ map (draw t ranks) (map ForEntry (map (position_at id) (cond (not b) (w ∷ rest) rest)))
      by true had = had
      by false had = ap (λ more. entry_drawn f key (counter s past w) id w ∷ more) had

  pub drawn-add : (d : Document) → flat_map (added_piece f key (facts_of s past) d.id) d.words ≡ map (draw t ranks) (drawings_by o.epoch s past (Add d))
  drawn-add d = added d.id d.words

  -- A deletion.

  deleted : (test : List ℕ → Bool) (id : ℕ) (ws : List (List ℕ)) → flat_map (deleted_piece f key test id) ws
      ≡ map (draw t ranks) (map (λ word. ForNumber (name o.epoch word Revocation id)) (filter (λ word. not (test word)) ws))
  deleted test id [] = refl
  deleted test id (w ∷ ws) = by (test w) (deleted test id ws)
    where
      rest : List (List ℕ)
      rest = filter (λ word. not (test word)) ws

      all : List Draw
      all = flat_map (deleted_piece f key test id) ws

      one : Draw
      one = NumberDraw (revocation f (part_key f key 5 w) id)

      by : (b : Bool) → all ≡ map (draw t ranks) (map (λ word. ForNumber (name o.epoch word Revocation id)) rest)
          → (if b then [] else one ∷ []) ++ all ≡ map (draw t ranks) (map (λ word. ForNumber (name o.epoch word Revocation id)) (cond (not b) (w ∷ rest) rest))
      by true had = had
      by false had = ap (λ more. one ∷ more) had

  pub drawn-delete : (id : ℕ) → AreApart (map (λ d. d.id) (live s.documents past))
      → flat_map (deleted_piece f key (λ word. is_some (number_origin o s past word id)) id) (unwrap_or ((facts_of s past).live id) [])
      ≡ map (draw t ranks) (drawings_by o.epoch s past (Delete id))
  drawn-delete id apart =
      (λ i. flat_map (λ word. if number_known o s past word id t i then [] else NumberDraw (revocation f (part_key f key 5 word) id) ∷ []) (sym (words_live-apart (live s.documents past) id apart) i))
      ∙ deleted (λ word. was_sent s past word id) id (words_live (live s.documents past) id)

  -- A search.

  pub drawn-search : (word : List ℕ) → searched_piece f key (is_some (first_search o past word)) word ≡ map (draw t ranks) (drawings_by o.epoch s past (Search word))
  drawn-search word = ap (λ b. searched_piece f key b word) (search_known o past word) ∙ by (list_any (searches_for word) past)
    where
      by : (b : Bool) → searched_piece f key b word ≡ map (draw t ranks) (if b then [] else ForToken (name o.epoch word Token 0) ∷ [])
      by true = refl
      by false = refl
