-- Frames and replies of the vault as values: the bytes of each, and which there are.
use Rattle.std.specs.Prelude.{◌≡◌, ℕ, ◌<◌, ◌≤◌, ◌^◌, List, [], ◌∷◌, ◌++◌, length, slice_index, Option, None, Some}
use Rattle.sse_frames.specs.Frames.{be32, IsBytes, IsNumber}

-- what a client sends: an update, which has its number, or a question
pub data VaultFrameText : Type 0 where
  PutFrame : (n : ℕ) (slot tag sealed : List ℕ) → VaultFrameText
  DropFrame : (n : ℕ) (slot : List ℕ) → VaultFrameText
  FetchFrame : (slot : List ℕ) → VaultFrameText
  AskFrame : VaultFrameText

-- the body of a frame: its kind byte, then its fields from left to right
abbrev pub vault_body : VaultFrameText → List ℕ
vault_body (PutFrame n slot tag sealed) = 0x41 ∷ be32 n ++ slot ++ tag ++ sealed
vault_body (DropFrame n slot) = 0x42 ∷ be32 n ++ slot
vault_body (FetchFrame slot) = 0x43 ∷ slot
vault_body AskFrame = 0x44 ∷ []

-- a frame: the length of its body, and the body
abbrev pub vault_bytes : VaultFrameText → List ℕ
vault_bytes frame = be32 (length (vault_body frame)) ++ vault_body frame

-- the number of an update; none for a question
abbrev pub vault_number : VaultFrameText → Option ℕ
vault_number (PutFrame n slot tag sealed) = Some n
vault_number (DropFrame n slot) = Some n
vault_number (FetchFrame slot) = None
vault_number AskFrame = None

-- what the server sends
pub data VaultReplyText : Type 0 where
  Took : (n : ℕ) → VaultReplyText
  BodyReply : (tag sealed : List ℕ) → VaultReplyText
  Absent : VaultReplyText
  Next : (n : ℕ) → VaultReplyText
  Clash : VaultReplyText
  NoMemory : VaultReplyText
  StoreFault : VaultReplyText
  BadFrame : VaultReplyText

-- the body of a reply: its kind byte, then its fields from left to right
abbrev pub vault_reply_body : VaultReplyText → List ℕ
vault_reply_body (Took n) = 0xc1 ∷ be32 n
vault_reply_body (BodyReply tag sealed) = 0xc2 ∷ tag ++ sealed
vault_reply_body Absent = 0xc3 ∷ []
vault_reply_body (Next n) = 0xc4 ∷ be32 n
vault_reply_body Clash = 0xc5 ∷ []
vault_reply_body NoMemory = 0xc6 ∷ []
vault_reply_body StoreFault = 0xc7 ∷ []
vault_reply_body BadFrame = 0xc8 ∷ []

-- a reply: the length of its body, and the body
abbrev pub vault_reply_bytes : VaultReplyText → List ℕ
vault_reply_bytes reply = be32 (length (vault_reply_body reply)) ++ vault_reply_body reply

-- Which there are: a body has 1 to 65,600 bytes.

-- at most so many bytes, each below 256
pub record IsShort (most : ℕ) (bytes : List ℕ) : Type 0 where
  pub size : length bytes ≤ most
  pub each : (i : ℕ) → slice_index bytes i < 256

pub record IsPut (n : ℕ) (slot tag sealed : List ℕ) : Type 0 where
  pub number : IsNumber n
  pub slot_is : IsBytes 16 slot
  pub tag_is : IsBytes 32 tag
  pub sealed_is : IsShort 65547 sealed

pub record IsDrop (n : ℕ) (slot : List ℕ) : Type 0 where
  pub number : IsNumber n
  pub slot_is : IsBytes 16 slot

-- the frames that there are
abbrev pub InVault : VaultFrameText → Type 0
InVault (PutFrame n slot tag sealed) = IsPut n slot tag sealed
InVault (DropFrame n slot) = IsDrop n slot
InVault (FetchFrame slot) = IsBytes 16 slot
InVault AskFrame = Unit {0}

pub record IsBodyReply (tag sealed : List ℕ) : Type 0 where
  pub tag_is : IsBytes 32 tag
  pub sealed_is : IsShort 65567 sealed

-- the replies that there are
abbrev pub InVaultReplies : VaultReplyText → Type 0
InVaultReplies (Took n) = IsNumber n
InVaultReplies (BodyReply tag sealed) = IsBodyReply tag sealed
InVaultReplies Absent = Unit {0}
InVaultReplies (Next n) = n < 2 ^ 32
InVaultReplies Clash = Unit {0}
InVaultReplies NoMemory = Unit {0}
InVaultReplies StoreFault = Unit {0}
InVaultReplies BadFrame = Unit {0}

-- a reply of no more than 65,600 bytes; every other limit is one of its fields' types
abbrev pub IsShortReply : VaultReplyText → Type 0
IsShortReply (BodyReply tag sealed) = length sealed ≤ 65567
IsShortReply (Took n) = Unit {0}
IsShortReply Absent = Unit {0}
IsShortReply (Next n) = Unit {0}
IsShortReply Clash = Unit {0}
IsShortReply NoMemory = Unit {0}
IsShortReply StoreFault = Unit {0}
IsShortReply BadFrame = Unit {0}

-- these bytes are the body of this frame of the grammar
pub record IsVaultBody (frame : VaultFrameText) (body : List ℕ) : Type 0 where
  pub grammar : InVault frame
  pub spelled : body ≡ vault_body frame

-- these bytes are the body of this reply of the grammar
pub record IsVaultReplyBody (reply : VaultReplyText) (body : List ℕ) : Type 0 where
  pub grammar : InVaultReplies reply
  pub spelled : body ≡ vault_reply_body reply
