-- What a table has listed of each word, after one word more, one document more, one command more.
use Rattle.std.proofs.Common.{◌≡◌, ℕ, ◌+◌, ◌<◌, Bool, true, false, ◌&&◌, ◌||◌, cond, List, [], ◌∷◌, ◌++◌, length, map, filter, take, get_or, refl, sym, ap, ◌∙◌, append_assoc}
use Rattle.std.specs.Prelude.{bytes_eq, unwrap_or, if◌then◌else◌}
use Rattle.std.specs.List.{list_any, IsDistinct, AllByRecursion}
use Rattle.std.specs.Map.{lookup}
use Rattle.std.specs.Cmp.Lexicographic.{same_text}
use Rattle.std.proofs.lemmas.Bool.{true≢false}
use Rattle.std.proofs.lemmas.Cmp.{nat_list_eq_equiv}
use Rattle.std.proofs.lemmas.List.{append-nil, map-append}
use Rattle.std.proofs.lemmas.List.Elements.{filter_more}
use Rattle.client_registry.proofs.LiveLaws.{added_list-push}
use Rattle.client_registry.specs.Command.{Command}
use Rattle.client_registry.specs.Document.{Document}
use Rattle.client_registry.specs.Documents.{has_word, ids_with}
use Rattle.client_registry.specs.IdNumber.{id_number}
use Rattle.client_registry.specs.Live.{added_list, newly_listed}
use Rattle.client_registry.specs.Setup.{Setup, setup_list}
use Rattle.client_registry.specs.WordBytes.{word_bytes}
use Rattle.client_registry.specs.declared.doc_id.DocId.{DocId}
use Rattle.client_registry.specs.declared.word.Word.{Word}
use Rattle.leakage_values.specs.Listed.{ids_in, Lists, ListsFor}

-- the identifiers of one word
ids_in-same : (es : List (Word × List DocId)) (v w : Word) → word_bytes v ≡ word_bytes w → ids_in es v ≡ ids_in es w
ids_in-same es v w same = ap (λ bytes. map id_number (unwrap_or (lookup (λ k. bytes_eq bytes (word_bytes k)) es) [])) same

-- one identifier goes behind those of a word
pub lists-one : (old mid new : List (Word × List DocId)) (word : Word) (id : ℕ) (ids : List ℕ) → ids ≡ ids_in old word
    → ((w : Word) → bytes_eq (word_bytes word) (word_bytes w) ≡ false → ids_in mid w ≡ ids_in old w)
    → ids_in new word ≡ ids ++ id ∷ []
    → ((w : Word) → bytes_eq (word_bytes word) (word_bytes w) ≡ false → ids_in new w ≡ ids_in mid w)
    → ListsFor old new id (λ w. bytes_eq w (word_bytes word))
lists-one old mid new word id ids had before put after w = by (bytes_eq (word_bytes word) (word_bytes w)) refl
  where
    turned : bytes_eq (word_bytes w) (word_bytes word) ≡ bytes_eq (word_bytes word) (word_bytes w)
    turned = nat_list_eq_equiv.symm (word_bytes w) (word_bytes word)

    by : (b : Bool) → bytes_eq (word_bytes word) (word_bytes w) ≡ b → ids_in new w ≡ ids_in old w ++ (if bytes_eq (word_bytes w) (word_bytes word) then id ∷ [] else [])
    by true is =
        let same : word_bytes word ≡ word_bytes w = same_text (word_bytes word) (word_bytes w) (sym is) in
        sym (ids_in-same new word w same) ∙ put ∙ ap (λ xs. xs ++ id ∷ []) (had ∙ ids_in-same old word w same)
        ∙ ap (λ b. ids_in old w ++ (if b then id ∷ [] else [])) (sym (turned ∙ is))
    by false is =
        after w is ∙ before w is ∙ sym (append-nil (ids_in old w))
        ∙ ap (λ b. ids_in old w ++ (if b then id ∷ [] else [])) (sym (turned ∙ is))

-- One word more.

module _ (id : ℕ) where
  abbrev one : Bool → List ℕ
  one b = if b then id ∷ [] else []

  either : (a b l : Bool) (x y z : List ℕ) → (b ≡ true → a ≡ false) → y ≡ x ++ one (a && l) → z ≡ y ++ one (b && l) → z ≡ x ++ one ((a || b) && l)
  either true true l x y z apart first second = absurd (true≢false (apart refl))
  either true false l x y z apart first second = second ∙ append-nil y ∙ first
  either false b l x y z apart first second = second ∙ ap (λ ys. ys ++ one (b && l)) (first ∙ append-nil x)

-- a word that none of those before it is
pub lists-more : (old now new : List (Word × List DocId)) (id : ℕ) (front longer : List (List ℕ)) (word : List ℕ) (pass : List ℕ → Bool)
    → ((w : List ℕ) → list_any (bytes_eq w) longer ≡ (list_any (bytes_eq w) front || bytes_eq w word)) → list_any (bytes_eq word) front ≡ false
    → ListsFor old now id (λ w. list_any (bytes_eq w) front && pass w) → ListsFor now new id (λ w. bytes_eq w word && pass w)
    → ListsFor old new id (λ w. list_any (bytes_eq w) longer && pass w)
lists-more old now new id front longer word pass is fresh had has w =
    either id (list_any (bytes_eq (word_bytes w)) front) (bytes_eq (word_bytes w) word) (pass (word_bytes w)) (ids_in old w) (ids_in now w) (ids_in new w)
    (λ same. ap (λ v. list_any (bytes_eq v) front) (same_text (word_bytes w) word (sym same)) ∙ fresh) (had w) (has w)
    ∙ ap (λ b. ids_in old w ++ (if b && pass (word_bytes w) then id ∷ [] else [])) (sym (is (word_bytes w)))

and_true : (b : Bool) → (b && true) ≡ b
and_true true = refl
and_true false = refl

-- words of which all pass
pub lists-all : (old new : List (Word × List DocId)) (id : ℕ) (p : List ℕ → Bool) → ListsFor old new id p → ListsFor old new id (λ w. p w && true)
lists-all old new id p lists w = lists w ∙ ap (λ b. ids_in old w ++ (if b then id ∷ [] else [])) (sym (and_true (p (word_bytes w))))

-- among words that differ, none before a word is that word
pub none_before : (front : List (List ℕ)) (word : List ℕ) (rest : List (List ℕ)) → IsDistinct bytes_eq (front ++ (word ∷ rest)) → list_any (bytes_eq word) front ≡ false
unfolding IsDistinct
none_before [] word rest differ = refl
none_before (v ∷ front) word rest differ =
    (λ i. (nat_list_eq_equiv.symm word v ∙ at front differ.0) i || none_before front word rest differ.1 i)
  where
    at : (ws : List (List ℕ)) → AllByRecursion (λ y. bytes_eq v y ≡ false) (ws ++ (word ∷ rest)) → bytes_eq v word ≡ false
    at [] all = all.0
    at (w ∷ ws) all = at ws all.1

-- One document more, and one command more.

pub lists-document : (old new : List (Word × List DocId)) (docs : List Document) (i : ℕ) (d : Document) (w : Word) → i < length docs → get_or docs i d ≡ d
    → ids_in old w ≡ ids_with (take i docs) (word_bytes w) → ListsFor old new d.id (λ v. list_any (bytes_eq v) d.words)
    → ids_in new w ≡ ids_with (take (i + 1) docs) (word_bytes w)
lists-document old new docs i d w within is had lists =
    lists w
    ∙ ap (λ ids. ids ++ (if has_word word d then d.id ∷ [] else [])) had
    ∙ ap (λ more. map (λ x. x.id) (filter (has_word word) (take i docs)) ++ more) (by (has_word word d))
    ∙ sym (map-append (λ x. x.id) (filter (has_word word) (take i docs)) (cond (has_word word d) (d ∷ []) []))
    ∙ ap (map (λ x. x.id)) (ap (λ x. filter (has_word word) (take i docs) ++ cond (has_word word x) (x ∷ []) []) (sym is) ∙ sym (filter_more (has_word word) docs i d within))
  where
    word : List ℕ
    word = word_bytes w

    by : (b : Bool) → (if b then d.id ∷ [] else []) ≡ map (λ (x : Document). x.id) (cond b (d ∷ []) [])
    by true = refl
    by false = refl

pub lists-command : (old new : List (Word × List DocId)) (s : Setup) (past : List Command) (c : Command) → Lists old s past
    → ((w : Word) → ids_in new w ≡ ids_in old w ++ newly_listed s (word_bytes w) past c) → Lists new s (past ++ c ∷ [])
lists-command old new s past c had more w =
    let word = word_bytes w in
    more w
    ∙ ap (λ ids. ids ++ newly_listed s word past c) (had w)
    ∙ append_assoc (setup_list s word) (added_list s past word) (newly_listed s word past c)
    ∙ ap (λ ids. setup_list s word ++ ids) (sym (added_list-push s past c word))
