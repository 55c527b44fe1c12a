use Rattle.std.proofs.Common.{◌∙◌, sym, ap}
use Rattle.std.specs.Prelude.{map, bytes_eq}
use Rattle.std.specs.List.{list_any}
use Rattle.client_registry.specs.WordBytes.{word_bytes}
use Rattle.bool_search.proofs.FieldLaws.{kept_in, added_in}
use Rattle.bool_search.proofs.fields.push_if_new_word.Goals as goal

pub returns-in_ok-push : goal.returns-in_ok-push
returns-in_ok-push c =
    ap (map word_bytes) c.in_ok-push.ensures.items
    ∙ added_in word_bytes c.args.words.now.items c.args.word
    (ap (list_any (λ other. bytes_eq (word_bytes c.args.word) (word_bytes other))) (sym c.deref.ensures.value) ∙ sym c.if-not-is_among.ensures)

pub returns-else-not-is_among : goal.returns-else-not-is_among
returns-else-not-is_among c =
    kept_in word_bytes c.args.words.now.items (word_bytes c.args.word)
    (ap (list_any (λ other. bytes_eq (word_bytes c.args.word) (word_bytes other))) (sym c.deref.ensures.value) ∙ sym c.if-not-is_among.ensures)
