use Rattle.std.proofs.Common.{position, sym, ap, ◌∙◌}
use Rattle.std.specs.Str.{bytes_eq}
use Rattle.client_registry.specs.WordBytes.{word_bytes}
use Rattle.client_registry.proofs.Positions.{position-map}
use Rattle.leakage_history.proofs.run_words.RunWords.number_of.Goals as goal

pub returns : goal.returns
returns c =
    let bytes = word_bytes c.args.word.now in
    c.get_index_of.ensures.index ∙ sym (position-map (bytes_eq bytes) word_bytes c.self.inside.words.keys) ∙ ap (position (bytes_eq bytes)) c.self.view_is
