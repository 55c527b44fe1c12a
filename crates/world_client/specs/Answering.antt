-- What a client sends, and what it makes of an answer.
use Rattle.std.specs.Prelude.{◌≡◌, ◌≢◌, ◌+◌, ◌^◌, ◌<◌, ℕ, List, map, slice_get, None, Option, Result, Ok, Err, Some}
use Rattle.client_registry.specs.Run.{Epochs, History}
use Rattle.keyed_fn.specs.KeyFormulas.{token_of}
use Rattle.keyed_fn.specs.KeyedFn.{KeyedFn}
use Rattle.sse_frames.specs.Frames.{Hello, SearchFrame, frame_bytes}
use Rattle.sse_frames.specs.Replies.{ReplyText, Next, Took, reply_bytes}
use Rattle.sse_model.specs.Epochs.{key_in}
use Rattle.sse_model.specs.Histories.{frames_sent}
use Rattle.world_model.specs.World.{Phase, Greets, Rests, Sends, Asks}
use Rattle.world_client.specs.Clients.{IsClientIn}
use Rattle.world_client.specs.Histories.{CanExpect, phase_at}
use Rattle.world_client.specs.declared.state.Gone.{Gone}
use Rattle.world_client.specs.declared.state.Gone.TheVariants as gone
use Rattle.world_client.specs.declared.state.State.{State}

-- what a client sends in a phase after a history
abbrev pub frame_in : KeyedFn → List ℕ → History → Phase (List ℕ) → Option (List ℕ)
frame_in f first h Greets = Some (frame_bytes Hello)
frame_in f first h Rests = None
frame_in f first h (Sends next) = slice_get (map frame_bytes (frames_sent f first h)) next
frame_in f first h (Asks word) = Some (frame_bytes (SearchFrame (token_of f (key_in first h) word)))

-- the number in a Next reply
abbrev pub next_told : ReplyText → Option ℕ
next_told (Next q) = Some q
next_told _ = None

-- a client that expects this of a server goes on from that number, where it can; else it is gone
abbrev pub GoesOnAt : KeyedFn → List ℕ → History → (next : ℕ) → Result State Gone → Type 0
GoesOnAt f first h next (Ok state) = CanExpect f first h next × IsClientIn f first h (phase_at h next) state
GoesOnAt f first h next (Err gone.Unwanted) = CanExpect f first h next → ⊥
GoesOnAt f first h next (Err gone.NoMemory) = CanExpect f first h next

-- a client that greets, and is answered: it goes on from the number that the server expects, where it can; else it is gone
abbrev pub GoesOnFrom : KeyedFn → List ℕ → History → (reply : List ℕ) → Result State Gone → Type 0
GoesOnFrom f first h reply (Ok state) = (next : ℕ) × (reply ≡ reply_bytes (Next next)) × CanExpect f first h next × IsClientIn f first h (phase_at h next) state
GoesOnFrom f first h reply (Err gone.Unwanted) = (next : ℕ) → next < 2 ^ 32 → reply ≡ reply_bytes (Next next) → CanExpect f first h next → ⊥
GoesOnFrom f first h reply (Err gone.NoMemory) = (next : ℕ) × (reply ≡ reply_bytes (Next next)) × CanExpect f first h next

-- a client that sent the frame of this number, and is answered: it goes on from the next one where that was taken, else it is gone
abbrev pub GoesOnBehind : KeyedFn → List ℕ → Epochs → (next : ℕ) (reply : List ℕ) → Result State Gone → Type 0
GoesOnBehind f first es next reply (Ok state) = (reply ≡ reply_bytes (Took next)) × IsClientIn f first (Some es) (phase_at (Some es) (next + 1)) state
GoesOnBehind f first es next reply (Err gone.Unwanted) = reply ≢ reply_bytes (Took next)
GoesOnBehind f first es next reply (Err gone.NoMemory) = ⊥

-- the same by what the reply says, in each phase: any other ends the client, pages too, which it takes in another way
abbrev pub GoesOn : KeyedFn → List ℕ → History → Phase (List ℕ) → ReplyText → Result State Gone → Type 0
GoesOn f first h Greets (Next n) result = GoesOnAt f first h n result
GoesOn f first h (Sends next) (Took n) (Ok state) = (n ≡ next) × IsClientIn f first h (phase_at h (next + 1)) state
GoesOn f first h (Sends next) (Took n) (Err gone.Unwanted) = n ≢ next
GoesOn f first h (Sends next) (Took n) (Err gone.NoMemory) = ⊥
GoesOn f first h phase text result = result ≡ Err gone.Unwanted
