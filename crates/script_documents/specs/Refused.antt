-- Why the fields of a line make no word and no document, and why a document isn't collected: the first cause that applies (docs/FORMATS.md).
use Rattle.std.specs.Prelude.{ℕ, ◌+◌, ◌==◌, List, [], ◌∷◌, Option, None, Some, if◌then◌else◌}
use Rattle.std.specs.Option.{option_and_then, option_or}
use Rattle.client_registry.specs.declared.faults.WordFault.{WordFault}
use Rattle.client_registry.specs.declared.faults.WordFault.TheVariants as words
use Rattle.client_registry.specs.declared.faults.DocFault.{DocFault}
use Rattle.client_registry.specs.declared.faults.DocFault.TheVariants as documents
use Rattle.client_registry.specs.declared.faults.DocsFault.{DocsFault}
use Rattle.client_registry.specs.declared.faults.DocsFault.TheVariants as collected
use Rattle.client_registry.specs.WordRule.{word_refusal}
use Rattle.client_registry.specs.DocumentRule.{doc_refusal}
use Rattle.client_registry.specs.Document.{Document}
use Rattle.client_registry.specs.Documents.{docs_refusal}
use Rattle.sse_script.specs.declared.refusal.Refusal.{Refusal}
use Rattle.sse_script.specs.declared.refusal.Refusal.TheVariants.{Zero, TooLong, BadByte, TooManyWords, RepeatedWord, AlreadyLive, TooManyDocuments, TooManyPairs}

-- The faults of words and documents as refusals; being out of memory refuses nothing.

-- of the word at this position of its line; a field has at least one byte, so the first case never comes
abbrev pub word_refused : ℕ → WordFault → Option Refusal
word_refused position words.Empty = Some (BadByte position 0)
word_refused position (words.TooLong n) = Some (TooLong position n)
word_refused position (words.BadByte place) = Some (BadByte position place)

abbrev pub doc_refused : DocFault → Option Refusal
doc_refused (documents.TooManyWords n) = Some (TooManyWords n)
doc_refused (documents.RepeatedWord position) = Some (RepeatedWord position)
doc_refused documents.NoMemory = None

abbrev pub docs_refused : DocsFault → Option Refusal
docs_refused (collected.AlreadyLive id) = Some (AlreadyLive id)
docs_refused (collected.TooManyDocuments n) = Some (TooManyDocuments n)
docs_refused (collected.TooManyPairs n) = Some (TooManyPairs n)
docs_refused collected.NoMemory = None

-- the first of these fields that is no word, their positions counted from this one
abbrev pub bad_word : ℕ → List (List ℕ) → Option Refusal
bad_word position [] = None
bad_word position (word ∷ later) = option_or (option_and_then (word_refused position) (word_refusal word)) (bad_word (position + 1) later)

-- an identifier and fields make no document: the identifier 0, the first bad word, too many words, a repeated one
abbrev pub document_refusal : ℕ → List (List ℕ) → Option Refusal
document_refusal id fields =
    if id == 0 then Some Zero
    else option_or (bad_word 0 fields) (option_and_then doc_refused (doc_refusal fields))

-- a document isn't collected
abbrev pub collect_refusal : List Document → Document → Option Refusal
collect_refusal docs d = option_or (document_refusal d.id d.words) (option_and_then docs_refused (docs_refusal docs d))
