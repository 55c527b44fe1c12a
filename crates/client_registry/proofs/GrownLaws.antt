-- A registry in which more words have numbers tells the same facts.
use Rattle.std.proofs.Common.{◌≡◌, ℕ, ◌<◌, ◌^◌, Bool, true, false, cond, List, [], ◌∷◌, ◌++◌, length, map, take, Option, None, Some, nat_eq, unwrap_or, refl, sym, ap, ◌∙◌, subst, arith}
use Rattle.std.specs.Prelude.{All, option_map, option_and_then}
use Rattle.std.specs.List.{list_any, IsDistinct}
use Rattle.std.specs.Map.{lookup}
use Rattle.std.specs.Option.{option_map_or}
use Rattle.std.specs.Str.{bytes_eq}
use Rattle.std.proofs.Math.Seq.{take-append_seam}
use Rattle.std.proofs.lemmas.List.{length-append}
use Rattle.std.proofs.lemmas.List.Elements.{All-take, All-weaker}
use Rattle.indexmap.specs.IndexMap.{IndexMap, hasher_of}
use Rattle.client_registry.specs.DocumentRule.{IsDocument}
use Rattle.client_registry.specs.IdNumber.{id_number}
use Rattle.client_registry.specs.Numbered.{words_by_number}
use Rattle.client_registry.specs.Registered.{facts, known_words, Kept}
use Rattle.client_registry.specs.RegistryView.{kept_entry, registered_of, IsKept, IsSound}
use Rattle.client_registry.specs.Tally.{counts_of}
use Rattle.client_registry.specs.WordBytes.{word_bytes}
use Rattle.client_registry.specs.WordTable.{table_words, GivesNumbers}
use Rattle.client_registry.specs.declared.hash_keys.HashKeys.{HashKeys}
use Rattle.client_registry.specs.declared.listed.Listed.{Listed}
use Rattle.client_registry.specs.declared.registry.Registry.TheInside.{Inside}
use Rattle.client_registry.specs.declared.word.Word.{Word}
use Rattle.client_registry.proofs.BoundLaws.{AtMost, bound-grown}
use Rattle.client_registry.proofs.NumberLaws.{words_by_number-grown}
use Rattle.client_registry.proofs.RegistryLaws.{kept_sound, known_table, listed_found, live_found}
use Rattle.client_registry.proofs.TableLaws.{table_given}

-- a count among those of more words, where it is 0 if it isn't there
counter-given : (es : List (List ℕ × ℕ)) (ws : List (List ℕ)) (word : List ℕ) → unwrap_or (lookup (bytes_eq word) (es ++ map (λ w. (w, 0)) ws)) 0 ≡ unwrap_or (lookup (bytes_eq word) es) 0
counter-given [] [] word = refl
counter-given [] (w ∷ ws) word = by (bytes_eq word w) (counter-given [] ws word)
  where
    given : List (List ℕ × ℕ)
    given = map (λ v. (v, 0)) ws

    by : (b : Bool) → unwrap_or (lookup (bytes_eq word) given) 0 ≡ 0 → unwrap_or (cond b (Some 0) (lookup (bytes_eq word) given)) 0 ≡ 0
    by true h = refl
    by false h = h
counter-given (e ∷ es) ws word = by (bytes_eq word e.0) (counter-given es ws word)
  where
    by : (b : Bool) → unwrap_or (lookup (bytes_eq word) (es ++ map (λ w. (w, 0)) ws)) 0 ≡ unwrap_or (lookup (bytes_eq word) es) 0
        → unwrap_or (cond b (Some e.1) (lookup (bytes_eq word) (es ++ map (λ w. (w, 0)) ws))) 0 ≡ unwrap_or (cond b (Some e.1) (lookup (bytes_eq word) es)) 0
    by true h = refl
    by false h = h

module _ (r : Inside) (sound : IsSound r) (words : IndexMap Word ℕ HashKeys) (given : GivesNumbers (counts_of r.words.entries) (counts_of words.entries)) where
  abbrev grown : Inside
  grown = record r { words = words }

  table_grown : table_words words.entries ≡ table_words r.words.entries ++ given.0
  table_grown = table_given word_bytes r.words.entries words.entries given

  stays : take (length (table_words r.words.entries)) (table_words words.entries) ≡ table_words r.words.entries
  stays = ap (take (length (table_words r.words.entries))) table_grown ∙ take-append_seam (table_words r.words.entries) given.0

  -- numbers that are kept stand for the same words
  same_words : (ns : List ℕ) → All (λ n. n < length (table_words r.words.entries)) ns → words_by_number (known_words (registered_of grown)) ns ≡ words_by_number (known_words (registered_of r)) ns
  same_words ns all =
      ap (λ ws. words_by_number ws ns) (known_table grown)
      ∙ words_by_number-grown (table_words r.words.entries) (table_words words.entries) stays ns all
      ∙ ap (λ ws. words_by_number ws ns) (sym (known_table r))

  -- the facts are the same
  pub facts-grown : facts (registered_of grown) ≡ facts (registered_of r)
  facts-grown = λ i. record {
    live = λ id. (live_found grown id (lookup (λ k. nat_eq id (id_number k)) r.documents.entries) refl ∙ alive id (lookup (λ k. nat_eq id (id_number k)) r.documents.entries) refl ∙ sym (live_found r id (lookup (λ k. nat_eq id (id_number k)) r.documents.entries) refl)) i;
    listed = λ word id. (listed_found grown id (lookup (λ k. nat_eq id (id_number k)) r.documents.entries) refl word ∙ among word id (lookup (λ k. nat_eq id (id_number k)) r.documents.entries) refl ∙ sym (listed_found r id (lookup (λ k. nat_eq id (id_number k)) r.documents.entries) refl word)) i;
    counter = λ word. (ap (λ es. unwrap_or (lookup (bytes_eq word) es) 0) given.1 ∙ counter-given (counts_of r.words.entries) given.0 word) i;
  }
    where
      alive : (id : ℕ) (o : Option Listed) → o ≡ lookup (λ k. nat_eq id (id_number k)) r.documents.entries
          → option_and_then (λ l. option_map (λ n. words_by_number (known_words (registered_of grown)) (take n l.numbers.items)) l.live) o
          ≡ option_and_then (λ l. option_map (λ n. words_by_number (known_words (registered_of r)) (take n l.numbers.items)) l.live) o
      alive id None at = refl
      alive id (Some l) at =
          let numbered = (kept_sound r sound id l at).numbered in
          λ i. option_map (λ n. same_words (take n l.numbers.items) (All-take (λ m. m < length (table_words r.words.entries)) n l.numbers.items numbered) i) l.live

      among : (word : List ℕ) (id : ℕ) (o : Option Listed) → o ≡ lookup (λ k. nat_eq id (id_number k)) r.documents.entries
          → option_map_or (λ l. list_any (bytes_eq word) (words_by_number (known_words (registered_of grown)) l.numbers.items)) o false
          ≡ option_map_or (λ l. list_any (bytes_eq word) (words_by_number (known_words (registered_of r)) l.numbers.items)) o false
      among word id None at = refl
      among word id (Some l) at = ap (list_any (bytes_eq word)) (same_words l.numbers.items (kept_sound r sound id l at).numbered)

  IsKept-grown : (k : Kept) → IsKept (table_words r.words.entries) k → IsKept (table_words words.entries) k
  IsKept-grown k had = record {
    numbered = All-weaker (λ n. n < length (table_words r.words.entries)) (λ n. n < length (table_words words.entries)) (λ n lt. omega (arith, lt, ap length table_grown, length-append (table_words r.words.entries) given.0)) k.numbers had.numbered;
    within = had.within;
    in_order = had.in_order;
    valid = λ n live.
        subst (λ ws. IsDocument (record { id = k.id; words = ws }))
        (sym (words_by_number-grown (table_words r.words.entries) (table_words words.entries) stays (take n k.numbers) (All-take (λ m. m < length (table_words r.words.entries)) n k.numbers had.numbered)))
        (had.valid n live);
  }

  -- and it is sound
  pub sound-grown : IsDistinct bytes_eq (table_words words.entries) → length words.entries < 2 ^ 32 → hasher_of words ≡ hasher_of r.words → IsSound grown
  sound-grown differ few same = record {
    words_differ = differ;
    kept = All-weaker (λ e. IsKept (table_words r.words.entries) (kept_entry e)) (λ e. IsKept (table_words words.entries) (kept_entry e)) (λ e. IsKept-grown (kept_entry e)) r.documents.entries sound.kept;
    few = few;
    next = sound.next;
    again = sound.again;
    hashers = sound.hashers ∙ sym same;
    bound = λ free. subst (λ es. AtMost es r.most) (sym given.1) (bound-grown (counts_of r.words.entries) given.0 r.most (sound.bound free));
  }
