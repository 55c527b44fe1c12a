-- When bytes are a frame, or a reply as a link hands it over.
use Rattle.std.specs.Prelude.{◌≡◌, ℕ, ◌≤◌, List, Some}
use Rattle.sized_replies.specs.Sizes.{size_in_front}
use Rattle.vault_server.specs.VaultFrames.{InVault, InVaultReplies, VaultFrameText, VaultReplyText, vault_bytes, vault_reply_bytes}

-- one reply of n bytes, with its length: 4 bytes if that length is out of its range, which is 1 to 65,600
pub record IsOneReply (n : ℕ) (bytes : List ℕ) : Type 0 where
  pub size : size_in_front 65600 bytes ≡ Some n
  pub least : 4 ≤ n
  pub most : n ≤ 65604

-- these bytes are a frame of the grammar, with its length
pub record IsVaultFrame (bytes : List ℕ) : Type 0 where
  pub frame : VaultFrameText
  pub grammar : InVault frame
  pub spelled : bytes ≡ vault_bytes frame

-- these bytes are this reply of the grammar, with its length
pub record IsVaultReply (reply : VaultReplyText) (bytes : List ℕ) : Type 0 where
  pub grammar : InVaultReplies reply
  pub spelled : bytes ≡ vault_reply_bytes reply
