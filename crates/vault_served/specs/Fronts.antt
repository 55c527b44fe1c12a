-- The frame in front of bytes.
use Rattle.std.specs.Prelude.{◌≡◌, ℕ, ◌+◌, Bool, ◌&&◌, nat_le, List, ◌++◌, length, take, drop, if◌then◌else◌}
use Rattle.vault_server.specs.VaultReading.{number_in}
use Rattle.vault_served.specs.Turns.{IsBody, frame_of}
use Rattle.vault_served.specs.declared.front.Front.{Front}
use Rattle.vault_served.specs.declared.front.Front.TheVariants as fronts

pub data FrontText : Type 0 where
  -- no whole frame yet
  Unfinished : FrontText
  -- four bytes that are the length of no body
  OutOfRange : FrontText
  -- a frame with this body
  Framed : (body : List ℕ) → FrontText

-- the length of a body
abbrev pub is_size : ℕ → Bool
is_size n = nat_le 1 n && nat_le n 65600

-- the body of so many bytes in front
abbrev pub body_of : ℕ → List ℕ → FrontText
body_of size bytes = if nat_le size (length bytes) then Framed (take size bytes) else Unfinished

-- what stands in front of bytes
abbrev pub front_of : List ℕ → FrontText
front_of bytes =
    if nat_le 4 (length bytes) then (if is_size (number_in bytes) then body_of (number_in bytes) (drop 4 bytes) else OutOfRange)
    else Unfinished

-- the code's own value
abbrev pub front_view : Front → FrontText
front_view fronts.Unfinished = Unfinished
front_view fronts.OutOfRange = OutOfRange
front_view (fronts.Framed body) = Framed body.now

-- the frame stands there
pub record IsFramed (body bytes : List ℕ) : Type 0 where
  pub sized : IsBody body
  pub spelled : bytes ≡ frame_of body ++ drop (4 + length body) bytes

-- so it is with what was found, if it is a frame
abbrev pub IfFramed : Front → List ℕ → Type 0
IfFramed fronts.Unfinished bytes = Unit {0}
IfFramed fronts.OutOfRange bytes = Unit {0}
IfFramed (fronts.Framed body) bytes = IsFramed body.now bytes
