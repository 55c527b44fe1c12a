use Rattle.std.proofs.Common.{◌≡◌, List, map, take}
use Rattle.client_registry.specs.Command.{Command}
use Rattle.client_registry.specs.IdNumber.{id_number}
use Rattle.client_registry.specs.Numbered.{words_by_number}
use Rattle.client_registry.specs.Registered.{known_words}
use Rattle.client_registry.specs.Run.{Offsets}
use Rattle.client_registry.specs.Setup.{Setup}
use Rattle.leakage_frames.specs.Views.{word_view}
use Rattle.def_leakage.specs.CommandLeaks.{word_deleted}
use Rattle.leakage_model.specs.TrailFacts.{Follows}
use Rattle.leakage_model.proofs.trail.Trail.words_deleted.Given as goal

abbrev pub invariant-loop-number : goal.invariant-loop-number
invariant-loop-number l =
    (o : Offsets) (s : Setup) (past : List Command) → Follows l.self o s past
    → map word_view l.leaks ≡ map (word_deleted o s past (id_number l.id)) (words_by_number (known_words l.self.registry) (take l.number-index l.numbers))
