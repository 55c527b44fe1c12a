-- The text of each printed line, in ASCII: pieces that are joined, numbers in decimal (docs/FORMATS.md).
use Rattle.std.specs.Prelude.{ℕ, List, [], ◌∷◌, ◌++◌, length, take, flat_map, codes, decimal, ◌==◌, if◌then◌else◌}
use Rattle.std.specs.List.{concat}
use Rattle.hex.specs.Hex.{encode_lower}
use Rattle.sse_script.specs.declared.refusal.Refusal.{Refusal}
use Rattle.sse_script.specs.declared.refusal.Refusal.TheVariants.{NotSetUp, SetUpAlready, Zero, TooLong, BadByte, TooManyWords, RepeatedWord, AlreadyLive, UnknownDocument, TooManyDocuments, TooManyPairs, TooManyBytes, BadParameter, ListTooLong, CounterFull, HistoryFull, TooManyFields, BadQuery, KeyUsed}
use Rattle.sse_script.specs.Shown.{Cause, BadWords, BadLine, SourceFault, LinkFault, DiskFault, NoMemory, LabelClash, PlaceClash, NumberClash, Clash, PeerElsewhere, BadReply, NoJournal, HasRecords, BadRecord, WrongKey}
use Rattle.sse_script.specs.Shown.{Shown, SetUp, Rebuilt, Added, Deleted, Found, Matched, Resumed, Refused, Stopped}

-- a parameter of a setup by its number
abbrev pub parameter_name : ℕ → List ℕ
parameter_name which = if which == 0 then codes "b" else if which == 1 then codes "B" else codes "Q"

-- after `refused: `
abbrev pub refusal_text : Refusal → List (List ℕ)
refusal_text NotSetUp = codes "not set up" ∷ []
refusal_text SetUpAlready = codes "set up already" ∷ []
refusal_text Zero = codes "identifier zero" ∷ []
refusal_text (TooLong position n) = codes "word " ∷ decimal position ∷ codes " is too long: " ∷ decimal n ∷ []
refusal_text (BadByte position place) = codes "word " ∷ decimal position ∷ codes " has a bad byte at " ∷ decimal place ∷ []
refusal_text (TooManyWords n) = codes "too many words: " ∷ decimal n ∷ []
refusal_text (RepeatedWord position) = codes "word " ∷ decimal position ∷ codes " is repeated" ∷ []
refusal_text (AlreadyLive id) = codes "document " ∷ decimal id ∷ codes " is live" ∷ []
refusal_text (UnknownDocument id) = codes "unknown document " ∷ decimal id ∷ []
refusal_text (TooManyDocuments n) = codes "too many documents: " ∷ decimal n ∷ []
refusal_text (TooManyPairs n) = codes "too many pairs: " ∷ decimal n ∷ []
refusal_text (TooManyBytes n) = codes "too many bytes: " ∷ decimal n ∷ []
refusal_text (BadParameter which value) = parameter_name which ∷ codes " is " ∷ decimal value ∷ []
refusal_text (ListTooLong word n) = codes "list of word " ∷ decimal word ∷ codes " has " ∷ decimal n ∷ codes " identifiers" ∷ []
refusal_text (CounterFull position) = codes "counter of word " ∷ decimal position ∷ codes " is full" ∷ []
refusal_text HistoryFull = codes "history is full" ∷ []
refusal_text (TooManyFields n) = codes "query has " ∷ decimal n ∷ codes " fields" ∷ []
refusal_text (BadQuery place) = codes "query is wrong at " ∷ decimal place ∷ []
refusal_text (KeyUsed epoch) = codes "key of epoch " ∷ decimal epoch ∷ []

-- two of a kind that are equal
abbrev pub equal_text : List ℕ → ℕ → ℕ → List (List ℕ)
equal_text things first second = things ∷ decimal first ∷ codes " and " ∷ decimal second ∷ codes " are equal" ∷ []

-- after `stopped: `; of a reply the first 16 bytes are shown, in lower-case hexadecimal digits
abbrev pub cause_text : Cause → List (List ℕ)
cause_text BadWords = codes "words" ∷ []
cause_text (BadLine number) = codes "line " ∷ decimal number ∷ []
cause_text SourceFault = codes "source" ∷ []
cause_text LinkFault = codes "link" ∷ []
cause_text DiskFault = codes "disk" ∷ []
cause_text NoMemory = codes "memory" ∷ []
cause_text (LabelClash first second) = equal_text (codes "labels of words ") first second
cause_text (PlaceClash first second) = equal_text (codes "places of blocks ") first second
cause_text (NumberClash first second) = equal_text (codes "numbers of words ") first second
cause_text (Clash what place) = codes "clash " ∷ decimal what ∷ codes " at " ∷ decimal place ∷ []
cause_text (PeerElsewhere low high got) =
    codes "server is at " ∷ decimal got ∷ codes ", wanted " ∷ decimal low ∷ codes " to " ∷ decimal high ∷ []
cause_text (BadReply reply) = codes "reply " ∷ encode_lower (take 16 reply) ∷ []
cause_text NoJournal = codes "no journal" ∷ []
cause_text HasRecords = codes "journal has records" ∷ []
cause_text (BadRecord number) = codes "record " ∷ decimal number ∷ []
cause_text WrongKey = codes "key" ∷ []

-- each identifier after a space
abbrev pub ids_text : List ℕ → List ℕ
ids_text ids = flat_map (λ id. 32 ∷ decimal id) ids

-- a line without its end
abbrev pub line_text : Shown → List (List ℕ)
line_text (SetUp words blocks) = codes "set up " ∷ decimal words ∷ codes " words " ∷ decimal blocks ∷ codes " blocks" ∷ []
line_text (Rebuilt words blocks) = codes "rebuilt " ∷ decimal words ∷ codes " words " ∷ decimal blocks ∷ codes " blocks" ∷ []
line_text (Added id) = codes "added " ∷ decimal id ∷ []
line_text (Deleted id) = codes "deleted " ∷ decimal id ∷ []
line_text (Found ids) = codes "found " ∷ decimal (length ids) ∷ codes ":" ∷ ids_text ids ∷ []
line_text (Matched ids) = codes "matched " ∷ decimal (length ids) ∷ codes ":" ∷ ids_text ids ∷ []
line_text (Resumed frames) = codes "resumed " ∷ decimal frames ∷ codes " frames" ∷ []
line_text (Refused refusal) = codes "refused: " ∷ refusal_text refusal
line_text (Stopped cause) = codes "stopped: " ∷ cause_text cause

-- a line as it is printed: its pieces and the end, byte 0a
abbrev pub text_of : Shown → List ℕ
text_of shown = concat (line_text shown ++ (10 ∷ []) ∷ [])
