use Rattle.std.proofs.Common.{◌∙◌, sym, ap}
use Rattle.std.specs.Prelude.{bytes_eq, unwrap_or}
use Rattle.client_registry.proofs.Positions.{position-map}
use Rattle.bool_search.proofs.fields.number.Goals as goal

pub returns : goal.returns
returns c =
    c.unwrap_or.ensures ∙ ap (λ o. unwrap_or o 0) (c.place_of.ensures.place ∙ sym (position-map (bytes_eq c.args.word.now) (λ word. word.now) c.args.words.now))
