-- The text of each line that a vault's run prints, in ASCII: pieces that are joined, numbers in decimal, texts in hexadecimal digits.
use Rattle.std.specs.Prelude.{ℕ, List, [], ◌∷◌, ◌++◌, codes, decimal}
use Rattle.std.specs.List.{concat}
use Rattle.hex.specs.Hex.{encode_lower}
use Rattle.vault_script.specs.declared.vault_refusal.VaultRefusal.{VaultRefusal}
use Rattle.vault_script.specs.declared.vault_refusal.VaultRefusal.TheVariants as refusals
use Rattle.vault_script.specs.VaultShown.{VaultShownText, Stored, Dropped, Fetched, Forged, NoBody, Refused, Resumed}

-- after `refused: `
abbrev pub vault_refusal_text : VaultRefusal → List (List ℕ)
vault_refusal_text refusals.Zero = codes "identifier zero" ∷ []
vault_refusal_text (refusals.BodyThere id) = codes "body " ∷ decimal id ∷ codes " is there" ∷ []
vault_refusal_text (refusals.NoBody id) = codes "no body " ∷ decimal id ∷ []
vault_refusal_text (refusals.TooLong n) = codes "body is too long: " ∷ decimal n ∷ []
vault_refusal_text refusals.VaultFull = codes "vault is full" ∷ []

-- a line without its end; a text that was fetched is shown in lower-case hexadecimal digits
abbrev pub vault_line_text : VaultShownText → List (List ℕ)
vault_line_text (Stored id) = codes "stored " ∷ decimal id ∷ []
vault_line_text (Dropped id) = codes "dropped " ∷ decimal id ∷ []
vault_line_text (Fetched id body) = codes "body " ∷ decimal id ∷ codes ": " ∷ encode_lower body ∷ []
vault_line_text (Forged id) = codes "forged " ∷ decimal id ∷ []
vault_line_text (NoBody id) = codes "no body " ∷ decimal id ∷ []
vault_line_text (Refused refusal) = codes "refused: " ∷ vault_refusal_text refusal
vault_line_text (Resumed frames) = codes "resumed " ∷ decimal frames ∷ codes " frames" ∷ []

-- a line as it is printed: its pieces and the end, byte 0a
abbrev pub vault_text : VaultShownText → List ℕ
vault_text shown = concat (vault_line_text shown ++ (10 ∷ []) ∷ [])
