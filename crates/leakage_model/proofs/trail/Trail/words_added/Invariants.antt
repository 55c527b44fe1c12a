use Rattle.std.proofs.Common.{◌≡◌, List, map, take}
use Rattle.client_registry.specs.Command.{Command}
use Rattle.client_registry.specs.IdNumber.{id_number}
use Rattle.client_registry.specs.Run.{Offsets}
use Rattle.client_registry.specs.Setup.{Setup}
use Rattle.client_registry.specs.WordBytes.{word_bytes}
use Rattle.leakage_frames.specs.Views.{word_view}
use Rattle.def_leakage.specs.CommandLeaks.{word_added}
use Rattle.leakage_model.specs.TrailFacts.{Follows}
use Rattle.leakage_model.proofs.trail.Trail.words_added.Given as goal

abbrev pub invariant-loop-word : goal.invariant-loop-word
invariant-loop-word l =
    (o : Offsets) (s : Setup) (past : List Command) → Follows l.self o s past → map word_view l.leaks ≡ map (word_added o s past (id_number l.id)) (map word_bytes (take l.word-index l.words))
