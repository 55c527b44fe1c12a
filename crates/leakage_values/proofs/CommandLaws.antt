-- What commands draw for, by the numbers of words, and which values they send.
use Rattle.std.proofs.Common.{◌≡◌, ℕ, Bool, true, false, not, ◌&&◌, ◌||◌, cond, List, [], ◌∷◌, ◌++◌, map, filter, refl, sym, ap, ◌∙◌, eqb-true}
use Rattle.std.specs.Prelude.{flat_map, bytes_eq, ◌==◌, if◌then◌else◌, unwrap_or}
use Rattle.std.specs.List.{list_any}
use Rattle.std.proofs.lemmas.Cmp.{nat_eq_equiv}
use Rattle.std.proofs.lemmas.List.Folds.{list_any-append}
use Rattle.client_registry.proofs.OverLaws.{over-append}
use Rattle.client_registry.specs.Command.{Command, Add, Delete, Search}
use Rattle.client_registry.specs.Document.{Document}
use Rattle.client_registry.specs.Facts.{Facts, facts_of}
use Rattle.client_registry.specs.Live.{live, is_listed, is_live_with, holds_pair, counter}
use Rattle.client_registry.specs.Over.{over}
use Rattle.client_registry.specs.Setup.{Setup}
use Rattle.client_registry.specs.declared.doc_id.DocId.{DocId}
use Rattle.client_registry.specs.declared.word.Word.{Word}
use Rattle.leakage_values.specs.CommandDrawings.{addition_by_number, number_by_number, token_by_number, addition_piece, deletion_piece, search_piece}
use Rattle.leakage_values.specs.Numbered.{number_of_word, numbered_drawing}
use Rattle.leakage_values.specs.Replayed.{HasApart, has_pair, has_search}
use Rattle.leakage_values.specs.declared.drawn.Drawing.{Drawing}
use Rattle.def_leakage.specs.DrawnValues.{ForEntry, ForNumber, ForToken, drawings_by}
use Rattle.sse_model.proofs.LiveWords.{words_live-apart}
use Rattle.sse_model.specs.Drawn.{sends_number, was_sent, searches_for}
use Rattle.sse_model.specs.Names.{name, PlusLabel, PlusPad, Revocation, Token}
use Rattle.sse_model.specs.Positions.{Position}
use Rattle.sse_frames.specs.Frames.{be64}
use Rattle.sse_model.specs.Wire.{words_live}

-- An addition.

abbrev position_at : ℕ → Setup → List Command → ℕ → List ℕ → Position
position_at epoch s past id word = record { label = name epoch word PlusLabel (counter s past word); pad = name epoch word PlusPad (counter s past word); clear = λ ranks. be64 id }

added_words : (epoch : ℕ) (words : List (List ℕ)) (s : Setup) (past : List Command) (id : ℕ) (ws : List (List ℕ))
    → map (numbered_drawing words) (map ForEntry (map (position_at epoch s past id) (filter (λ word. not (is_listed s past word id)) ws)))
    ≡ flat_map (addition_piece epoch words (facts_of s past) id) ws
added_words epoch words s past id [] = refl
added_words epoch words s past id (w ∷ ws) = by (is_listed s past w id) (added_words epoch words s past id ws)
  where
    rest : List (List ℕ)
    rest = filter (λ word. not (is_listed s past word id)) ws

    all : List Drawing
    all = flat_map (addition_piece epoch words (facts_of s past) id) ws

    one : Drawing
    one = addition_by_number epoch (number_of_word words w) (counter s past w)

    by : (b : Bool) → map (numbered_drawing words) (map ForEntry (map (position_at epoch s past id) rest)) ≡ all
        → map (numbered_drawing words) (map ForEntry (map (position_at epoch s past id) (cond (not b) (w ∷ rest) rest))) ≡ (if b then [] else one ∷ []) ++ all
    by true had = had
    by false had = ap (λ more. one ∷ more) had

pub drawings-add : (epoch : ℕ) (words : List (List ℕ)) (s : Setup) (past : List Command) (d : Document)
    → flat_map (addition_piece epoch words (facts_of s past) d.id) d.words ≡ map (numbered_drawing words) (drawings_by epoch s past (Add d))
drawings-add epoch words s past d = sym (added_words epoch words s past d.id d.words)

-- A deletion.

deleted_words : (epoch : ℕ) (words : List (List ℕ)) (test : List ℕ → Bool) (id : ℕ) (ws : List (List ℕ))
    → map (numbered_drawing words) (map (λ word. ForNumber (name epoch word Revocation id)) (filter (λ word. not (test word)) ws))
    ≡ flat_map (λ word. if test word then [] else number_by_number epoch (number_of_word words word) id ∷ []) ws
deleted_words epoch words test id [] = refl
deleted_words epoch words test id (w ∷ ws) = by (test w) (deleted_words epoch words test id ws)
  where
    rest : List (List ℕ)
    rest = filter (λ word. not (test word)) ws

    all : List Drawing
    all = flat_map (λ word. if test word then [] else number_by_number epoch (number_of_word words word) id ∷ []) ws

    by : (b : Bool) → map (numbered_drawing words) (map (λ word. ForNumber (name epoch word Revocation id)) rest) ≡ all
        → map (numbered_drawing words) (map (λ word. ForNumber (name epoch word Revocation id)) (cond (not b) (w ∷ rest) rest)) ≡ (if b then [] else number_by_number epoch (number_of_word words w) id ∷ []) ++ all
    by true had = had
    by false had = ap (λ more. number_by_number epoch (number_of_word words w) id ∷ more) had

pub drawings-delete : (epoch : ℕ) (words : List (List ℕ)) (s : Setup) (past : List Command) (id : ℕ) (sent : List (Word × DocId)) → HasApart s past
    → ((word : List ℕ) (n : ℕ) → has_pair word n sent ≡ was_sent s past word n)
    → flat_map (deletion_piece epoch words sent id) (unwrap_or ((facts_of s past).live id) []) ≡ map (numbered_drawing words) (drawings_by epoch s past (Delete id))
drawings-delete epoch words s past id sent apart same =
    (λ i. flat_map (λ word. if same word id i then [] else number_by_number epoch (number_of_word words word) id ∷ []) (sym (words_live-apart (live s.documents past) id apart) i))
    ∙ sym (deleted_words epoch words (λ word. was_sent s past word id) id (words_live (live s.documents past) id))

-- A search.

pub drawings-search : (epoch : ℕ) (words : List (List ℕ)) (s : Setup) (past : List Command) (word : List ℕ) (searched : List Word) → has_search word searched ≡ list_any (searches_for word) past
    → search_piece epoch words searched word ≡ map (numbered_drawing words) (drawings_by epoch s past (Search word))
drawings-search epoch words s past word searched same = ap (λ b. if b then [] else token_by_number epoch (number_of_word words word) ∷ []) same ∙ by (list_any (searches_for word) past)
  where
    by : (b : Bool) → (if b then [] else token_by_number epoch (number_of_word words word) ∷ []) ≡ map (numbered_drawing words) (if b then [] else ForToken (name epoch word Token 0) ∷ [])
    by true = refl
    by false = refl

-- Which numbers were sent, and which words searched.

or_false : (b : Bool) → (b || false) ≡ b
or_false true = refl
or_false false = refl

pub was_sent-push : (s : Setup) (past : List Command) (c : Command) (w : List ℕ) (n : ℕ) → was_sent s (past ++ c ∷ []) w n ≡ (was_sent s past w n || sends_number s w n past c)
was_sent-push s past c w n =
    ap (list_any (λ sent. sent)) (over-append (sends_number s w n) [] past (c ∷ []))
    ∙ list_any-append (λ sent. sent) (over (sends_number s w n) [] past) (sends_number s w n past c ∷ [])
    ∙ ap (λ b. was_sent s past w n || b) (or_false (sends_number s w n past c))

pub was_searched-push : (past : List Command) (c : Command) (w : List ℕ) → list_any (searches_for w) (past ++ c ∷ []) ≡ (list_any (searches_for w) past || searches_for w c)
was_searched-push past c w = list_any-append (searches_for w) past (c ∷ []) ∙ ap (λ b. list_any (searches_for w) past || b) (or_false (searches_for w c))

and_turned : (a b : Bool) → (a && b) ≡ (b && a)
and_turned true true = refl
and_turned true false = refl
and_turned false true = refl
and_turned false false = refl

pub sends-add : (s : Setup) (past : List Command) (d : Document) (f : Facts) (before : Bool) (w : List ℕ) (n : ℕ) → f ≡ facts_of s past
    → (before || (list_any (bytes_eq w) d.words && n == d.id) && f.listed w n) ≡ (before || sends_number s w n past (Add d))
sends-add s past d f before w n same =
    λ i. before || (and_turned (list_any (bytes_eq w) d.words) (n == d.id) ∙ ap (λ b. b && list_any (bytes_eq w) d.words) (nat_eq_equiv.symm n d.id)) i && (same i).listed w n

live_words : (docs : List Document) (w : List ℕ) (id : ℕ) → list_any (bytes_eq w) (words_live docs id) ≡ holds_pair docs w id
live_words [] w id = refl
live_words (d ∷ docs) w id =
    list_any-append (bytes_eq w) (if d.id == id then d.words else []) (words_live docs id)
    ∙ (λ i. by (d.id == id) i || live_words docs w id i)
  where
    by : (b : Bool) → list_any (bytes_eq w) (if b then d.words else []) ≡ (b && list_any (bytes_eq w) d.words)
    by true = refl
    by false = refl

pub sends-delete : (s : Setup) (past : List Command) (id : ℕ) (f : Facts) (before : Bool) (w : List ℕ) (n : ℕ) → f ≡ facts_of s past → HasApart s past
    → (before || list_any (bytes_eq w) (unwrap_or (f.live id) []) && n == id) ≡ (before || sends_number s w n past (Delete id))
sends-delete s past id f before w n same apart =
    ap (λ b. before || b)
    ((λ i. list_any (bytes_eq w) (unwrap_or ((same i).live id) []) && n == id)
    ∙ ap (λ ws. list_any (bytes_eq w) ws && n == id) (sym (words_live-apart (live s.documents past) id apart))
    ∙ ap (λ b. b && n == id) (live_words (live s.documents past) w id)
    ∙ and_turned (holds_pair (live s.documents past) w id) (n == id)
    ∙ here (n == id) refl)
  where
    here : (b : Bool) → (n == id) ≡ b → (b && holds_pair (live s.documents past) w id) ≡ (id == n && is_live_with s past w n)
    here true is = λ i. (sym is ∙ nat_eq_equiv.symm n id) i && holds_pair (live s.documents past) w (sym (eqb-true n id is) i)
    here false is = ap (λ b. b && is_live_with s past w n) (sym is ∙ nat_eq_equiv.symm n id)
