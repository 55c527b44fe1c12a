use Rattle.std.proofs.Common.{map, drop, inl, sym, ap, ◌∙◌}
use Rattle.std.specs.Prelude.{string_bytes, option_map}
use Rattle.sse_vault.specs.Asked as asks
use Rattle.sse_vault.specs.Asked.{asked_view, right_words}
use Rattle.sse_vault.proofs.asked.asked_by.Goals as goal

pub returns-in-Ok-Some-clause-right : goal.returns-in-Ok-Some-clause-right
returns-in-Ok-Some-clause-right c =
    ap asks.asked_by c.in-Words.is
    ∙ ap (λ words. right_words (asks.asked_of (map (λ word. string_bytes word) words))) (sym (c.behind_name.ensures ∙ ap (drop 1) c.deref.ensures.value))
    ∙ ap right_words (sym c.in-Ok-Some.ensures ∙ ap (option_map asked_view) c.in-Ok-Some.field-0-is)

pub returns-in-Ok-None-clause-wrong : goal.returns-in-Ok-None-clause-wrong
returns-in-Ok-None-clause-wrong c =
    inl (ap asks.asked_by c.in-Words.is
    ∙ ap (λ words. right_words (asks.asked_of (map (λ word. string_bytes word) words))) (sym (c.behind_name.ensures ∙ ap (drop 1) c.deref.ensures.value))
    ∙ ap right_words (sym c.in-Ok-None.ensures ∙ ap (option_map asked_view) c.in-Ok-None.field-0-is))
