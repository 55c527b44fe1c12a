-- Words by first appearance, one word more at a time.
use Rattle.std.proofs.Common.{◌≡◌, ℕ, ◌+◌, ◌||◌, Bool, true, false, List, [], ◌∷◌, ◌++◌, map, refl, sym, ap, ◌∙◌, append_assoc}
use Rattle.std.specs.Prelude.{bytes_eq, if◌then◌else◌}
use Rattle.std.specs.List.{list_any}
use Rattle.std.specs.Map.{keys_of}
use Rattle.std.proofs.lemmas.List.{append-nil, map-append}
use Rattle.indexmap.specs.IndexSet.{insert_key}
use Rattle.client_registry.proofs.FromEnd.{from_end}
use Rattle.client_registry.proofs.PushLaws.{list_any-map}
use Rattle.client_registry.proofs.TallyLaws.{fold-counted_up-push}
use Rattle.client_registry.proofs.WordsLaws.{keys-tally}
use Rattle.client_registry.specs.Documents.{first_seen}
use Rattle.client_registry.specs.Tally.{counted_up, tally}
use Rattle.client_registry.specs.WordBytes.{word_bytes}
use Rattle.client_registry.specs.declared.word.Word.{Word}

-- these words and one more, which goes last where it is new
abbrev pub with_word : List (List ℕ) → List ℕ → List (List ℕ)
with_word ws w = if list_any (bytes_eq w) ws then ws else ws ++ w ∷ []

keys-counted_up : (es : List (List ℕ × ℕ)) (w : List ℕ) → keys_of (counted_up es w) ≡ with_word (keys_of es) w
keys-counted_up [] w = refl
keys-counted_up (e ∷ es) w = by (bytes_eq w e.0) (list_any (bytes_eq w) (keys_of es)) (keys-counted_up es w)
  where
    by : (b c : Bool) → keys_of (counted_up es w) ≡ (if c then keys_of es else keys_of es ++ w ∷ [])
        → keys_of (if b then (e.0, e.1 + 1) ∷ es else e ∷ counted_up es w) ≡ (if b || c then e.0 ∷ keys_of es else e.0 ∷ keys_of es ++ w ∷ [])
    by true c h = refl
    by false true h = ap (λ ks. e.0 ∷ ks) h
    by false false h = ap (λ ks. e.0 ∷ ks) h

pub first_seen-push : (ws : List (List ℕ)) (w : List ℕ) → first_seen (ws ++ w ∷ []) ≡ with_word (first_seen ws) w
first_seen-push ws w =
    sym (keys-tally (ws ++ w ∷ []))
    ∙ ap keys_of (fold-counted_up-push [] ws w)
    ∙ keys-counted_up (tally ws) w
    ∙ ap (λ ks. with_word ks w) (keys-tally ws)

-- words that were taken by first appearance give the same as all of them
pub first_seen-again : (ws more : List (List ℕ)) → first_seen (first_seen ws ++ more) ≡ first_seen (ws ++ more)
first_seen-again ws more = from_end (λ more. first_seen (first_seen ws ++ more) ≡ first_seen (ws ++ more)) (ap first_seen (append-nil (first_seen ws)) ∙ alone ws ∙ ap first_seen (sym (append-nil ws))) step more
  where
    step : (xs : List (List ℕ)) (x : List ℕ) → first_seen (first_seen ws ++ xs) ≡ first_seen (ws ++ xs) → first_seen (first_seen ws ++ (xs ++ x ∷ [])) ≡ first_seen (ws ++ (xs ++ x ∷ []))
    step xs x h =
        ap first_seen (sym (append_assoc (first_seen ws) xs (x ∷ [])))
        ∙ first_seen-push (first_seen ws ++ xs) x
        ∙ ap (λ ks. with_word ks x) h
        ∙ sym (first_seen-push (ws ++ xs) x)
        ∙ ap first_seen (append_assoc ws xs (x ∷ []))

    alone : (xs : List (List ℕ)) → first_seen (first_seen xs) ≡ first_seen xs
    alone xs = from_end (λ xs. first_seen (first_seen xs) ≡ first_seen xs) refl more_alone xs
      where
        more_alone : (xs : List (List ℕ)) (x : List ℕ) → first_seen (first_seen xs) ≡ first_seen xs → first_seen (first_seen (xs ++ x ∷ [])) ≡ first_seen (xs ++ x ∷ [])
        more_alone xs x h = ap first_seen (first_seen-push xs x) ∙ by (list_any (bytes_eq x) (first_seen xs)) refl ∙ sym (first_seen-push xs x)
          where
            by : (b : Bool) → list_any (bytes_eq x) (first_seen xs) ≡ b → first_seen (if b then first_seen xs else first_seen xs ++ x ∷ []) ≡ with_word (first_seen xs) x
            by true e = h ∙ sym (ap (λ b. if b then first_seen xs else first_seen xs ++ x ∷ []) e)
            by false e = first_seen-push (first_seen xs) x ∙ ap (λ ks. with_word ks x) h

-- the words of a set after one is inserted
pub inserted : (keys : List Word) (w : Word) → map word_bytes (insert_key (λ a b. bytes_eq (word_bytes a) (word_bytes b)) keys w) ≡ with_word (map word_bytes keys) (word_bytes w)
inserted keys w = by (list_any (λ k. bytes_eq (word_bytes w) (word_bytes k)) keys) ∙ ap (λ b. if b then map word_bytes keys else map word_bytes keys ++ word_bytes w ∷ []) (sym (list_any-map (bytes_eq (word_bytes w)) word_bytes keys))
  where
    by : (b : Bool) → map word_bytes (if b then keys else keys ++ w ∷ []) ≡ (if b then map word_bytes keys else map word_bytes keys ++ word_bytes w ∷ [])
    by true = refl
    by false = map-append word_bytes keys (w ∷ [])

-- inserted after the words of a list by first appearance, it gives those of the list with it
pub inserted_after : (keys : List Word) (w : Word) (ws : List (List ℕ)) → map word_bytes keys ≡ first_seen ws
    → map word_bytes (insert_key (λ a b. bytes_eq (word_bytes a) (word_bytes b)) keys w) ≡ first_seen (ws ++ word_bytes w ∷ [])
inserted_after keys w ws h = inserted keys w ∙ ap (λ ks. with_word ks (word_bytes w)) h ∙ sym (first_seen-push ws (word_bytes w))
