use Rattle.std.proofs.Common.{map, take}
use Rattle.client_registry.specs.IdNumber.{id_number}
use Rattle.client_registry.specs.WordBytes.{word_bytes}
use Rattle.def_leakage.specs.Firsts.{origin}
use Rattle.leakage_model.specs.TrailFacts.{ChangesEach}
use Rattle.leakage_model.specs.WordFacts.{added_at}
use Rattle.leakage_model.proofs.trail_table.add_words.Given as goal

abbrev pub invariant-loop-place : goal.invariant-loop-place
invariant-loop-place l =
    ChangesEach l.fn.words.entries l.words.entries (map word_bytes (take l.place l.of)) (λ place. added_at (id_number l.id) (origin l.command place))
