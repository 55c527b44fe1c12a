-- A history with a renewal under the toy function: the bytes are those of the request.
use Rattle.std.proofs.Common.{◌≡◌, ℕ, List, [], ◌∷◌, map, get_or, length, Some, refl}
use Rattle.std.specs.Prelude.{codes, replicate}
use Rattle.client_registry.specs.Command.{Add, Delete, Search}
use Rattle.client_registry.specs.Epochs.{setup_renewed, with_commands, with_renewal}
use Rattle.client_registry.specs.Histories.{shown_in_turn, found_in_turn}
use Rattle.client_registry.specs.Run.{Epochs, From, at_first}
use Rattle.client_registry.specs.Setup.{setup_of}
use Rattle.keyed_fn.specs.KeyedFn.{keyed_fn}
use Rattle.keyed_fn.specs.Toy.{toy_prf, toy_pad}
use Rattle.sse_frames.specs.Frames.{frame_bytes}
use Rattle.sse_model.specs.Histories.{frames_sent}
use Rattle.sse_model.proofs.ToyBytes.{hex, document}

abbrev a : List ℕ
a = 0x61 ∷ []

-- documents 1 and 2 have the word; 1 is deleted, and 3 added; then the key is renewed, and the word searched
abbrev history : Epochs
history =
    with_commands (Search a ∷ []) (with_renewal (replicate 32 1)
    (From at_first (record { setup = setup_of (document 1 (a ∷ []) ∷ document 2 (a ∷ []) ∷ []) 1 2; later = Delete 1 ∷ Add (document 3 (a ∷ [])) ∷ [] })))

-- frame 7 is that of the renewed setup's dictionary
seventh : get_or (map frame_bytes (frames_sent (keyed_fn toy_prf toy_pad) (replicate 32 0) (Some history))) 7 [] ≡ hex (codes "00000022030000000700090001c4c6c8caccced0d2d4d6d8dadcdee0e2c4c6c7c8c9cacbcccc")
seventh = refl

found : found_in_turn (Some history) ≡ (2 ∷ 3 ∷ []) ∷ []
found = refl
