-- The frame or the reply that a body is, or the first fault from the left.
use Rattle.std.specs.Prelude.{ℕ, ◌+◌, ◌==◌, Bool, ◌&&◌, nat_le, nat_lt, List, [], ◌∷◌, length, take, drop, Result, Ok, Err, if◌then◌else◌}
use Rattle.std.specs.Int.{w32, from_be_bytes}
use Rattle.sse_frames.specs.declared.fault.FrameFault.{FrameFault}
use Rattle.sse_frames.specs.declared.fault.FrameFault.TheVariants.{BadLength, BadKind, BadBody}
use Rattle.vault_server.specs.VaultFrames.{VaultFrameText, PutFrame, DropFrame, FetchFrame, AskFrame, VaultReplyText, Took, BodyReply, Absent, Next, Clash, NoMemory, StoreFault, BadFrame}

-- the number in front
abbrev pub number_in : List ℕ → ℕ
number_in bytes = from_be_bytes w32 (take 4 bytes)

-- whether the number of an update stands in front: four bytes, below 2^32 - 1
abbrev pub has_number : List ℕ → Bool
has_number rest = nat_le 4 (length rest) && nat_lt (number_in rest) 0xffffffff

-- By the kind byte: the fields after it, each at its place in the body.

abbrev pub put_in : List ℕ → Result VaultFrameText FrameFault
put_in rest =
    if has_number rest then (
    if nat_le 20 (length rest) then (
    if nat_le 52 (length rest) then Ok (PutFrame (number_in rest) (take 16 (drop 4 rest)) (take 32 (drop 16 (drop 4 rest))) (drop 32 (drop 16 (drop 4 rest))))
    else Err (BadBody 21))
    else Err (BadBody 5))
    else Err (BadBody 1)

abbrev pub drop_in : List ℕ → Result VaultFrameText FrameFault
drop_in rest =
    if has_number rest then (
    if nat_le 20 (length rest) then (
    if length rest == 20 then Ok (DropFrame (number_in rest) (take 16 (drop 4 rest)))
    else Err (BadBody 21))
    else Err (BadBody 5))
    else Err (BadBody 1)

abbrev pub fetch_in : List ℕ → Result VaultFrameText FrameFault
fetch_in rest =
    if nat_le 16 (length rest) then (if length rest == 16 then Ok (FetchFrame (take 16 rest)) else Err (BadBody 17))
    else Err (BadBody 1)

-- a kind that has no fields
abbrev pub bare_in : {T : Type 0} → T → List ℕ → Result T FrameFault
bare_in value rest = if length rest == 0 then Ok value else Err (BadBody 1)

abbrev pub frame_of_kind : ℕ → List ℕ → Result VaultFrameText FrameFault
frame_of_kind kind rest =
    if kind == 0x41 then put_in rest
    else if kind == 0x42 then drop_in rest
    else if kind == 0x43 then fetch_in rest
    else if kind == 0x44 then bare_in AskFrame rest
    else Err (BadKind kind)

abbrev pub frame_in : List ℕ → Result VaultFrameText FrameFault
frame_in [] = Err (BadLength 0)
frame_in (kind ∷ rest) = if nat_le (length rest) 65599 then frame_of_kind kind rest else Err (BadLength (length rest + 1))

abbrev pub took_in : List ℕ → Result VaultReplyText FrameFault
took_in rest =
    if has_number rest then (if length rest == 4 then Ok (Took (number_in rest)) else Err (BadBody 5))
    else Err (BadBody 1)

abbrev pub next_in : List ℕ → Result VaultReplyText FrameFault
next_in rest =
    if nat_le 4 (length rest) then (if length rest == 4 then Ok (Next (number_in rest)) else Err (BadBody 5))
    else Err (BadBody 1)

abbrev pub body_in : List ℕ → Result VaultReplyText FrameFault
body_in rest = if nat_le 32 (length rest) then Ok (BodyReply (take 32 rest) (drop 32 rest)) else Err (BadBody 1)

abbrev pub reply_of_kind : ℕ → List ℕ → Result VaultReplyText FrameFault
reply_of_kind kind rest =
    if kind == 0xc1 then took_in rest
    else if kind == 0xc2 then body_in rest
    else if kind == 0xc3 then bare_in Absent rest
    else if kind == 0xc4 then next_in rest
    else if kind == 0xc5 then bare_in Clash rest
    else if kind == 0xc6 then bare_in NoMemory rest
    else if kind == 0xc7 then bare_in StoreFault rest
    else if kind == 0xc8 then bare_in BadFrame rest
    else Err (BadKind kind)

abbrev pub reply_in : List ℕ → Result VaultReplyText FrameFault
reply_in [] = Err (BadLength 0)
reply_in (kind ∷ rest) = if nat_le (length rest) 65599 then reply_of_kind kind rest else Err (BadLength (length rest + 1))
