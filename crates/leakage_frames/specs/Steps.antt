-- The results of the simulator's calls: the bytes that pass for one item of leakage, and for items in a row.
use Rattle.std.specs.Prelude.{◌≡◌, ℕ, ◌+◌, ◌<◌, true, List, length, map, take, None, Option, option_map, is_some}
use Rattle.sse_frames.specs.Exchange.{Passed, Sent, Received, exchange}
use Rattle.sse_frames.specs.Frames.{FrameText, frame_bytes}
use Rattle.sse_frames.specs.Replies.{reply_bytes}
use Rattle.sse_simulator.specs.Leaks.{Leak, Draw}
use Rattle.sse_simulator.specs.Simulator.{Sim, answer_of, frames_simulated, sim_after, simulated}

-- the bytes of a frame or a reply
abbrev pub passed_bytes : Passed → List ℕ
passed_bytes (Sent frame) = frame_bytes frame
passed_bytes (Received reply) = reply_bytes reply

-- the bytes of frames with their replies, those to searches being pages of these answers
abbrev pub bytes_of : List (List ℕ) → List FrameText → List (List ℕ)
bytes_of answers frames = map passed_bytes (exchange answers frames)

-- the bytes that pass for an item of leakage and its draws, and the simulator after it; none where the item names a command, a
-- place or a draw that isn't there
abbrev pub step : Sim → Leak → List Draw → Option (List (List ℕ) × Sim)
step sim leak draws =
    option_map (λ frames. (bytes_of (answer_of leak) frames, sim_after sim leak draws frames)) (frames_simulated sim.kept sim.next leak draws)

-- the bytes of all that passes for items in a row
abbrev pub bytes_simulated : List Leak → List (List Draw) → Option (List (List ℕ))
bytes_simulated leaks drawn = option_map (map passed_bytes) (simulated leaks drawn)

-- the first item that names what isn't there: something is made of the items before it, and nothing of them and it
pub record IsFirstBad (command : ℕ) (leaks : List Leak) (drawn : List (List Draw)) : Type 0 where
  pub within : command < length leaks
  pub made : is_some (simulated (take command leaks) drawn) ≡ true
  pub here : simulated (take (command + 1) leaks) drawn ≡ None
