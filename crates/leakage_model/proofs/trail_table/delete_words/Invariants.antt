use Rattle.std.proofs.Common.{take}
use Rattle.client_registry.specs.IdNumber.{id_number}
use Rattle.client_registry.specs.Numbered.{words_by_number}
use Rattle.client_registry.specs.Registered.{known_words}
use Rattle.def_leakage.specs.Firsts.{origin}
use Rattle.leakage_model.specs.TrailFacts.{ChangesEach}
use Rattle.leakage_model.specs.WordFacts.{deleted_at}
use Rattle.leakage_model.proofs.trail_table.delete_words.Given as goal

abbrev pub invariant-loop-place : goal.invariant-loop-place
invariant-loop-place l =
    ChangesEach l.fn.words.entries l.words.entries (words_by_number (known_words l.registry) (take l.place l.numbers)) (λ place. deleted_at (id_number l.id) (origin l.command place))
