-- What a reply comes to that isn't the one expected.
use Rattle.std.proofs.Common.{◌≡◌, ℕ, List, None, Some, refl}
use Rattle.std.specs.Prelude.{Option, option_map}
use Rattle.vault_link.specs.ReplySizes.{IsVaultReply}
use Rattle.vault_server.specs.VaultFrames.{VaultReplyText}
use Rattle.vault_server.specs.VaultViews.{reply_view}
use Rattle.vault_server.specs.declared.vault_reply.VaultReply.{VaultReply}
use Rattle.vault_server.specs.declared.vault_reply.VaultReply.TheVariants as replies
use Rattle.vault_script.specs.VaultShown.{VaultShownText}
use Rattle.doc_vault.specs.Outcomes.{IsRead, Stops, unexpected, update_outcome}

-- bytes that no reply was read of are none of the grammar
pub none_read : (bytes : List ℕ) (read : Option VaultReply) → read ≡ None → ((reply : VaultReplyText) → IsVaultReply reply bytes → option_map reply_view read ≡ Some reply) → IsRead bytes None
none_read bytes None e only reply is = let no : None ≡ Some reply = only reply is in cc
none_read bytes (Some r) e only reply is = cc

-- any reply to an update but an acknowledgement
pub not_took : (reply : VaultReply) → ((n : ℕ) → reply ≡ replies.Took n → ⊥) → (n : ℕ) (shown : VaultShownText) (bytes : List ℕ)
    → update_outcome n shown bytes (Some (reply_view reply)) ≡ Stops (unexpected bytes (Some (reply_view reply)))
not_took (replies.Took m) never n shown bytes = absurd (never m refl)
not_took (replies.Body tag sealed) never n shown bytes = refl
not_took replies.Absent never n shown bytes = refl
not_took (replies.Next m) never n shown bytes = refl
not_took replies.Clash never n shown bytes = refl
not_took replies.NoMemory never n shown bytes = refl
not_took replies.StoreFault never n shown bytes = refl
not_took replies.BadFrame never n shown bytes = refl
