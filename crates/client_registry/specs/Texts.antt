-- The text printed for each fault of a word, a document, the documents, and the size of their index.
use Rattle.std.specs.Prelude.{ℕ, List, ◌++◌, codes, decimal, ◌==◌, if◌then◌else◌}
use Rattle.client_registry.specs.declared.faults.WordFault.{WordFault}
use Rattle.client_registry.specs.declared.faults.WordFault.TheVariants.{Empty, TooLong, BadByte}
use Rattle.client_registry.specs.declared.faults.DocFault.{DocFault}
use Rattle.client_registry.specs.declared.faults.DocFault.TheVariants as doc
use Rattle.client_registry.specs.declared.faults.DocsFault.{DocsFault}
use Rattle.client_registry.specs.declared.faults.DocsFault.TheVariants as docs
use Rattle.client_registry.specs.declared.faults.AddFault.{AddFault}
use Rattle.client_registry.specs.declared.faults.AddFault.TheVariants as adding
use Rattle.client_registry.specs.declared.faults.SizeFault.{SizeFault}
use Rattle.client_registry.specs.declared.faults.SizeFault.TheVariants.{BadParameter, ListTooLong, TooManyBytes}

abbrev pub word_fault_text : WordFault → List ℕ
word_fault_text Empty = codes "a word has at least 1 byte"
word_fault_text (TooLong n) = codes "a word has at most 64 bytes, not " ++ decimal n
word_fault_text (BadByte place) = codes "no word has the byte at place " ++ decimal place ++ codes " from 0"

abbrev pub doc_fault_text : DocFault → List ℕ
doc_fault_text (doc.TooManyWords n) = codes "a document has at most 4096 words, not " ++ decimal n
doc_fault_text (doc.RepeatedWord position) = codes "word " ++ decimal position ++ codes " from 0 stands earlier too"
doc_fault_text doc.NoMemory = codes "out of memory"

abbrev pub docs_fault_text : DocsFault → List ℕ
docs_fault_text (docs.AlreadyLive id) = codes "document " ++ decimal id ++ codes " is there already"
docs_fault_text (docs.TooManyDocuments n) = codes "at most 262144 documents fit, not " ++ decimal n
docs_fault_text (docs.TooManyPairs n) = codes "at most 1048576 pairs fit, not " ++ decimal n
docs_fault_text docs.NoMemory = codes "out of memory"

abbrev pub add_fault_text : AddFault → List ℕ
add_fault_text (adding.AlreadyLive id) = codes "document " ++ decimal id ++ codes " is there already"
add_fault_text adding.NoMemory = codes "out of memory"

-- of the identifier that no document has
abbrev pub unknown_text : ℕ → List ℕ
unknown_text id = codes "there is no document " ++ decimal id

abbrev pub size_fault_text : SizeFault → List ℕ
size_fault_text (BadParameter which value) =
    if which == 0 then codes "b is 1 to 64, not " ++ decimal value
    else if which == 1 then codes "B is 1 to 256, not " ++ decimal value
    else codes "Q is a power of two from 1 to 4096, not " ++ decimal value
size_fault_text (ListTooLong word n) =
    codes "the list of word " ++ (decimal word ++ (codes " has " ++ (decimal n ++ codes " identifiers, over b*B*B")))
size_fault_text (TooManyBytes n) = codes "at most 268435456 bytes fit, not " ++ decimal n
