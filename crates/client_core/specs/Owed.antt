-- The frames that a client still has to send, by the fields in which it keeps them.
use Rattle.std.specs.Prelude.{ℕ, List, [], ◌∷◌, map, drop}
use Rattle.sse_frames.specs.Frames.{frame_bytes}
use Rattle.sse_frames.specs.SentParts.{numbered}
use Rattle.client_core.specs.Setup.{index_frames}
use Rattle.client_core.specs.declared.behind.Owed.{Owed}
use Rattle.client_core.specs.declared.behind.Owed.TheVariants as owes
use Rattle.client_core.specs.declared.owed_setup.OwedSetup.{OwedSetup}

-- the frames of a setup that the server may lack
abbrev pub setup_left : OwedSetup → List (List ℕ)
setup_left setup = map frame_bytes (numbered setup.next (drop setup.place (index_frames setup.index)))

-- the frames that the server may lack, in the order in which they are sent
abbrev pub owed_frames : Owed → List (List ℕ)
owed_frames (owes.Setup setup) = setup_left setup
owed_frames (owes.Update update) = update.frame.items ∷ []

-- the number of the first
abbrev pub number_of_first : Owed → ℕ
number_of_first (owes.Setup setup) = setup.next
number_of_first (owes.Update update) = update.number
