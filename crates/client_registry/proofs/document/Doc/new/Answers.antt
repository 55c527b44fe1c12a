use Rattle.std.proofs.Common.{◌≡◌, ◌≤◌, None, length, map, arith, ap, sym, ◌∙◌, get_or}
use Rattle.std.proofs.lemmas.List.{length-map}
use Rattle.std.proofs.lemmas.List.Elements.{All-map}
use Rattle.client_registry.proofs.DocumentLaws.{doc_refusal-none}
use Rattle.client_registry.specs.DocumentRule.{first_repeat as least_repeat}
use Rattle.client_registry.specs.WordRule.{word_refusal}
use Rattle.client_registry.specs.WordBytes.{word_bytes as bytes_of}
use Rattle.client_registry.proofs.document.Doc.new.Goals as goal

pub invariant_of-result : goal.invariant_of-result
invariant_of-result c =
    let items = c.args.words.items in
    let few : length (map bytes_of items) ≤ 4096 = omega (arith, length-map items bytes_of) in
    let clear : least_repeat (map bytes_of items) ≡ None = ap (λ ws. least_repeat (map bytes_of ws)) (sym c.as_slice.ensures.value) ∙ sym c.in_ok-position.ensures ∙ c.in-None.is in
    record {
      some = c.args.id.some;
      fits = c.args.id.fits;
      accepted = doc_refusal-none (map bytes_of items) few clear;
      are_words = All-map (λ word. word_refusal word ≡ None) bytes_of items (λ k d h. (get_or items k d).is_word);
    }
