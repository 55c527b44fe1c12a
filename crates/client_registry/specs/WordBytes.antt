-- The bytes that a word of the code is.
use Rattle.std.specs.Prelude.{ℕ, List}
use Rattle.client_registry.specs.declared.word.Word.{Word}

-- the bytes of a word
abbrev pub word_bytes : Word → List ℕ
word_bytes word = word.text.bytes
