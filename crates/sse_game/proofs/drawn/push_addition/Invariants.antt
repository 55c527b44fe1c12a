use Rattle.std.proofs.Common.{◌≡◌, ◌++◌, map, take}
use Rattle.std.specs.Prelude.{flat_map}
use Rattle.client_registry.specs.IdNumber.{id_number}
use Rattle.client_registry.specs.Registered.{facts}
use Rattle.client_registry.specs.WordBytes.{word_bytes}
use Rattle.keyed_fn.specs.KeyedFn.{keyed_fn}
use Rattle.leakage_frames.specs.Views.{draw_view}
use Rattle.sse_game.specs.Drawn.{added_piece}
use Rattle.sse_game.proofs.drawn.push_addition.Given as goal

abbrev pub invariant-loop-word : goal.invariant-loop-word
invariant-loop-word g l = map draw_view l.drawn ≡ map draw_view l.initial.drawn ++ flat_map (added_piece (keyed_fn g.K.Keyed.prf g.K.Keyed.pad) l.master (facts l.registry) (id_number l.id)) (map word_bytes (take l.word-index l.of))
