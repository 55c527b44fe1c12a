use Rattle.std.proofs.Common.{◌≡◌, List, ◌++◌, map, take}
use Rattle.std.specs.Prelude.{flat_map, is_some}
use Rattle.client_registry.specs.Command.{Command}
use Rattle.client_registry.specs.IdNumber.{id_number}
use Rattle.client_registry.specs.Numbered.{words_by_number}
use Rattle.client_registry.specs.Registered.{known_words}
use Rattle.client_registry.specs.Run.{Offsets}
use Rattle.client_registry.specs.Setup.{Setup}
use Rattle.def_leakage.specs.Firsts.{number_origin}
use Rattle.keyed_fn.specs.KeyedFn.{keyed_fn}
use Rattle.leakage_frames.specs.Views.{draw_view}
use Rattle.leakage_model.specs.TrailFacts.{Follows}
use Rattle.sse_game.specs.Drawn.{deleted_piece}
use Rattle.sse_game.proofs.drawn.push_deletion.Given as goal

abbrev pub invariant-loop-number : goal.invariant-loop-number
invariant-loop-number g l = (o : Offsets) (s : Setup) (past : List Command) → Follows l.trail o s past → map draw_view l.drawn ≡ map draw_view l.initial.drawn
    ++ flat_map (deleted_piece (keyed_fn g.K.Keyed.prf g.K.Keyed.pad) l.master (λ w. is_some (number_origin o s past w (id_number l.id))) (id_number l.id)) (words_by_number (known_words l.registry) (take l.number-index l.numbers))
