use Rattle.std.proofs.Common.{◌≡◌, ◌+◌, ◌<◌, ◌≤◌, ◌^◌, ◌++◌, ◌∷◌, [], false, map, length, vec_len, sym, ap, subst, ◌∙◌, arith, Some}
use Rattle.std.specs.Prelude.{All, fold, nat_eq}
use Rattle.std.proofs.lemmas.List.{length-map}
use Rattle.indexmap.specs.IndexMap.{hasher_of, insert_entry}
use Rattle.client_registry.specs.Documents.{all_words, is_live, pairs_of, IsCollected}
use Rattle.client_registry.specs.DocsView.{documents_of, kept_document}
use Rattle.client_registry.specs.HashNumbers.{hash_numbers}
use Rattle.client_registry.specs.IdNumber.{id_number}
use Rattle.client_registry.specs.Numbered.{words_by_number}
use Rattle.client_registry.specs.Tally.{counts_of, counted_up}
use Rattle.client_registry.specs.WordBytes.{word_bytes}
use Rattle.client_registry.specs.WordTable.{table_words}
use Rattle.client_registry.specs.declared.listed.Listed.{Listed}
use Rattle.client_registry.proofs.IndexedLaws.{words_within}
use Rattle.client_registry.proofs.KeptLaws.{counts_pushed, documents_pushed, numbered_pushed, whole_pushed}
use Rattle.client_registry.proofs.PushLaws.{pairs_of-push, IsCollected-push, tally-room}
use Rattle.client_registry.proofs.collected.Docs.push.Goals as goal

pub count_all-requires-clause-few : goal.count_all-requires-clause-few
count_all-requires-clause-few c =
    omega (arith, ap length c.in_ok-reserve.ensures.entries, words_within c.self.inside c.self.invariant, c.into_words-words.ensures.few)

pub count_all-requires-clause-small : goal.count_all-requires-clause-small
count_all-requires-clause-small c =
    let docs = documents_of c.self.inside in
    let n = vec_len c.into_words-words.result in
    let room : pairs_of docs + n ≤ 2 ^ 20 = omega (arith, c.self.invariant.pairs, c.len.ensures) in
    subst (All (λ e. e.1 + n < 2 ^ 32)) (sym (ap counts_of c.in_ok-reserve.ensures.entries ∙ c.self.invariant.counts)) (tally-room (all_words docs) n room)

-- what is kept of the document
abbrev kept : goal.After-self-1 → Listed
kept c = record { numbers = c.count_all.new.numbers; live = Some c.len-4.result }

new_id : (c : goal.After-self-1) → is_live (documents_of c.self.inside) c.args.doc.id ≡ false
new_id c =
    ap (λ docs. is_live docs c.args.doc.id) (ap (λ v. v.documents) c.self.view_is)
    ∙ ap (is_live c.args.self.now.documents) (sym c.id-id.ensures)
    ∙ sym c.is_live.ensures
    ∙ c.if-is_live.false

inserted : (c : goal.After-self-1) → c.insert.new.self.entries ≡ insert_entry (λ a b. nat_eq (id_number a) (id_number b)) c.self.inside.documents.entries c.id-id.result (kept c)
inserted c =
    let entries = rw c.unwrap.ensures at c.insert.ensures.entries in
    entries ∙ ap (λ es. insert_entry (λ a b. nat_eq (id_number a) (id_number b)) es c.id-id.result (kept c)) c.in_ok-reserve-2.ensures.entries

counted : (c : goal.After-self-1) → counts_of c.count_all.new.words.entries ≡ fold counted_up (counts_of c.self.inside.words.entries) c.args.doc.words
counted c =
    c.count_all.ensures.counted
    ∙ ap (λ es. fold counted_up (counts_of es) (map word_bytes c.into_words-words.result.items)) c.in_ok-reserve.ensures.entries
    ∙ ap (fold counted_up (counts_of c.self.inside.words.entries)) c.into_words-words.ensures.words

numbers : (c : goal.After-self-1) → words_by_number (table_words c.count_all.new.words.entries) c.count_all.new.numbers.items ≡ c.args.doc.words
numbers c = c.count_all.ensures.numbers ∙ c.into_words-words.ensures.words

documents : (c : goal.After-self-1) → map (kept_document (table_words c.count_all.new.words.entries)) c.insert.new.self.entries ≡ documents_of c.self.inside ++ c.args.doc ∷ []
documents c = documents_pushed c.self.inside c.self.invariant c.args.doc c.id-id.result (kept c) c.insert.new.self.entries c.count_all.new.words.entries c.id-id.ensures (new_id c) (inserted c) (counted c) (numbers c)

same_hasher : (c : goal.After-self-1) → hasher_of c.insert.new.self ≡ hasher_of c.self.inside.documents
same_hasher c = c.insert.ensures.hasher ∙ c.in_ok-reserve-2.ensures.room.1

same_words_hasher : (c : goal.After-self-1) → hasher_of c.count_all.new.words ≡ hasher_of c.self.inside.words
same_words_hasher c = c.count_all.ensures.hasher ∙ c.in_ok-reserve.ensures.room.1

pub invariant_of-self-2 : goal.invariant_of-self-2
invariant_of-self-2 c =
    let docs = documents_of c.self.inside in
    let doc = c.args.doc in
    let had = c.self.invariant in
    let fs = c.count_all.new.words.entries in
    let es = c.insert.new.self.entries in
    let id = c.id-id.result in
    let count : c.len.result ≡ length doc.words = c.len.ensures ∙ c.into_words-words.result.ok.0 ∙ sym (length-map c.into_words-words.result.items word_bytes) ∙ ap length c.into_words-words.ensures.words in
    record {
      numbered = numbered_pushed c.self.inside had doc id (kept c) es fs c.id-id.ensures (new_id c) (inserted c) (counted c) (numbers c) c.count_all.ensures.within;
      whole = whole_pushed c.self.inside had doc id (kept c) es fs c.id-id.ensures (new_id c) (inserted c) (counted c) (numbers c) (ap (λ n. Some n) (c.len-4.ensures ∙ c.count_all.new.numbers.ok.0));
      counts = counts_pushed c.self.inside had doc id (kept c) es fs c.id-id.ensures (new_id c) (inserted c) (counted c) (numbers c);
      pairs = ap (λ n. n + c.len.result) had.pairs ∙ ap (λ n. pairs_of docs + n) count ∙ sym (pairs_of-push docs doc) ∙ ap pairs_of (sym (documents c));
      collected =
          subst IsCollected (sym (documents c))
          (IsCollected-push docs doc had.collected c.into_words-words.ensures.valid (new_id c)
          (omega (arith, c.len-documents.ensures.len, ap length (ap (λ v. v.documents) c.self.view_is)))
          (omega (arith, had.pairs, count)));
      hashers = same_hasher c ∙ had.hashers ∙ sym (same_words_hasher c);
    }

pub returns-clause-ok : goal.returns-clause-ok
returns-clause-ok c = documents c ∙ ap (λ docs. docs ++ c.args.doc ∷ []) (ap (λ v. v.documents) c.self.view_is)

pub returns-clause-keys : goal.returns-clause-keys
returns-clause-keys c = ap hash_numbers (same_words_hasher c) ∙ ap (λ v. v.keys) c.self.view_is
