-- A contract's view of what a received text is.
use Rattle.std.specs.Prelude.{List, ℕ, drop}
use Rattle.vault_shelf.specs.VaultTexts.{Fetched}
use Rattle.vault_shelf.specs.VaultTexts as meant
use Rattle.vault_shelf.specs.declared.text_buffer.Opened.{Opened}
use Rattle.vault_shelf.specs.declared.text_buffer.Opened.TheVariants as opened

-- the text of a buffer, after its put's number and its identifier, 8 bytes each
abbrev pub text_in : List ℕ → List ℕ
text_in bytes = drop 16 bytes

-- what was received, where a buffer has this text
abbrev pub opened_view : Opened → List ℕ → Fetched
opened_view opened.Text text = meant.Opened text
opened_view opened.TooLong text = meant.Oversized
opened_view opened.Forged text = meant.Forged
