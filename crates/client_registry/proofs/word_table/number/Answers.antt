use Rattle.std.proofs.Common.{◌≡◌, ◌++◌, ◌∷◌, [], false, sym, ap, ◌∙◌}
use Rattle.std.specs.Prelude.{slice_get}
use Rattle.std.specs.List.{list_any}
use Rattle.std.specs.Str.{bytes_eq}
use Rattle.std.proofs.lemmas.Bool.{true≢false}
use Rattle.std.proofs.lemmas.List.{map-append}
use Rattle.client_registry.specs.Tally.{counts_of}
use Rattle.client_registry.specs.WordBytes.{word_bytes}
use Rattle.client_registry.specs.WordTable.{table_words}
use Rattle.client_registry.proofs.Positions.{position-map}
use Rattle.client_registry.proofs.TableLaws.{found_at, is_some-words, insert_entry-words, words_differ-push, last_numbered, last_word}
use Rattle.client_registry.proofs.word_table.number.Goals as goal

pub returns-in-Some-clause-numbered : goal.returns-in-Some-clause-numbered
returns-in-Some-clause-numbered c =
    sym (is_some-words word_bytes (word_bytes c.args.word.now) c.args.words.now.entries) ∙ sym c.in-Some.ensures.found

pub returns-in-Some-clause-number : goal.returns-in-Some-clause-number
returns-in-Some-clause-number c =
    let bs = word_bytes c.args.word.now in
    let es = c.args.words.now.entries in
    found_at (table_words es) bs c.in-Some.number
    (position-map (bytes_eq bs) (λ e. word_bytes e.0) es
    ∙ sym (position-map (λ k. bytes_eq bs (word_bytes k)) (λ e. e.0) es)
    ∙ sym c.in-Some.ensures.index)

pub returns-then-next-clause-succeeds : goal.returns-then-next-clause-succeeds
returns-then-next-clause-succeeds c =
    λ there.
    absurd (true≢false (sym there ∙ sym (is_some-words word_bytes (word_bytes c.args.word.now) c.args.words.now.entries) ∙ sym c.in_default.ensures.found))

pub returns-in_err-insert-clause-succeeds : goal.returns-in_err-insert-clause-succeeds
returns-in_err-insert-clause-succeeds c =
    λ there.
    absurd (true≢false (sym there ∙ sym (is_some-words word_bytes (word_bytes c.args.word.now) c.args.words.now.entries) ∙ sym c.in_default.ensures.found))

absent : (c : goal.In_ok-insert) → list_any (bytes_eq (word_bytes c.args.word.now)) (table_words c.args.words.now.entries) ≡ false
absent c = sym (is_some-words word_bytes (word_bytes c.args.word.now) c.args.words.now.entries) ∙ sym c.in_default.ensures.found

entries : (c : goal.In_ok-insert) → c.insert.new.self.entries ≡ c.args.words.now.entries ++ (c.args.word.now, 0) ∷ []
entries c = c.in_ok-insert.ensures.entries ∙ insert_entry-words word_bytes c.args.word.now 0 c.args.words.now.entries (absent c)

pub returns-clause-more : goal.returns-clause-more
returns-clause-more c =
    (word_bytes c.args.word.now ∷ [], ap counts_of (entries c) ∙ map-append (λ e. (word_bytes e.0, e.1)) c.args.words.now.entries ((c.args.word.now, 0) ∷ []))

pub returns-clause-differ : goal.returns-clause-differ
returns-clause-differ c =
    λ differ. rw (entries c) (words_differ-push word_bytes c.args.word.now 0 c.args.words.now.entries (absent c) differ)

pub returns-clause-numbered : goal.returns-clause-numbered
returns-clause-numbered c = ap (λ es. list_any (bytes_eq (word_bytes c.args.word.now)) (table_words es)) (entries c) ∙ last_numbered word_bytes c.args.word.now 0 c.args.words.now.entries

pub returns-clause-number : goal.returns-clause-number
returns-clause-number c =
    ap (λ es. slice_get (table_words es) c.len-next.result) (entries c)
    ∙ ap (slice_get (table_words (c.args.words.now.entries ++ (c.args.word.now, 0) ∷ []))) c.len-next.ensures.len
    ∙ last_word word_bytes c.args.word.now 0 c.args.words.now.entries
