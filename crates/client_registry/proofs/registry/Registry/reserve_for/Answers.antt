use Rattle.std.proofs.Common.{◌≡◌, ◌<◌, true, find, length, map, nat_eq, sym, ap, subst, ◌∙◌, arith}
use Rattle.std.specs.Prelude.{All, is_ok}
use Rattle.std.specs.List.{list_any}
use Rattle.std.specs.Str.{bytes_eq}
use Rattle.std.proofs.lemmas.Bool.{true≢false}
use Rattle.std.proofs.lemmas.List.{length-map}
use Rattle.std.proofs.lemmas.Result.{on_ok_weaker}
use Rattle.client_registry.specs.IdNumber.{id_number}
use Rattle.client_registry.specs.Numbered.{words_by_number}
use Rattle.client_registry.specs.Registered.{kept_of, known_words}
use Rattle.client_registry.specs.WordBytes.{word_bytes}
use Rattle.client_registry.proofs.RegistryLaws.{facts_by}
use Rattle.client_registry.proofs.registry.Registry.reserve_for.Goals as goal

pub returns-in_err-number_words-clause-succeeds : goal.returns-in_err-number_words-clause-succeeds
returns-in_err-number_words-clause-succeeds g c =
    λ room.
    let numbered = subst (All (λ word. list_any (bytes_eq word) (known_words c.args.self.now) ≡ true)) (sym c.words.ensures.words) room.numbered in
    let ok : is_ok c.number_words.result ≡ true = c.number_words.ensures.succeeds numbered in
    absurd (true≢false (sym ok ∙ ap is_ok c.in_err-number_words.was))

pub returns-clause-facts : goal.returns-clause-facts
returns-clause-facts g c =
    facts_by c.make_room.new.self c.make_entry.new.self c.make_room.ensures.counts c.make_room.ensures.kept ∙ c.make_entry.ensures.facts ∙ c.number_words.ensures.facts

pub returns-clause-room : goal.returns-clause-room
returns-clause-room g c =
    let doc = c.args.doc.now in
    let id = id_number c.id.result in
    let entry = c.in_ok-kept.ensures.entry in
    let counts = c.make_room.ensures.counts ∙ c.make_entry.ensures.counts in
    let numbered = subst (All (λ word. list_any (bytes_eq word) (known_words c.number_words.new.self) ≡ true)) c.words.ensures.words c.in_ok-number_words.ensures.numbered in
    let words = sym (length-map c.words-2.result.now word_bytes) ∙ ap length c.words-2.ensures.words in
    on_ok_weaker c.make_room.result (λ room. record {
      numbered = subst (λ cs. All (λ word. list_any (bytes_eq word) (map (λ e. e.0) cs) ≡ true) doc.words) (sym counts) numbered;
      entry = (entry.0, ap (kept_of c.make_room.new.self) (sym c.id.ensures) ∙ ap (find (λ k. nat_eq id k.id)) c.make_room.ensures.kept ∙ entry.1, omega (arith, room, entry.2, words));
    }) c.make_room.ensures.room

pub returns-clause-numbers : goal.returns-clause-numbers
returns-clause-numbers g c =
    let ns = c.number_words.new.numbers.items in
    let counts = c.make_room.ensures.counts ∙ c.make_entry.ensures.counts in
    on_ok_weaker c.make_room.result
    (λ room. ap (λ cs. words_by_number (map (λ e. e.0) cs) ns) counts ∙ c.in_ok-number_words.ensures.numbers ∙ c.words.ensures.words)
    c.make_room.ensures.room

pub returns-clause-within : goal.returns-clause-within
returns-clause-within g c =
    let ns = c.number_words.new.numbers.items in
    let counts = c.make_room.ensures.counts ∙ c.make_entry.ensures.counts in
    on_ok_weaker c.make_room.result
    (λ room. subst (λ cs. All (λ n. n < length (map (λ e. e.0) cs)) ns) (sym counts) c.in_ok-number_words.ensures.within)
    c.make_room.ensures.room
