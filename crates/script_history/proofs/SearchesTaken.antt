-- Several searches that are taken one after the other.
use Rattle.std.proofs.Common.{◌≡◌, ℕ, ◌+◌, ◌<◌, ◌≤◌, ◌^◌, Bool, true, false, List, [], ◌∷◌, ◌++◌, length, map, take, get_or, nat_lt, refl, sym, ap, ◌∙◌, append_assoc, ◌-◌, ◌||◌, length-take, arith}
use Rattle.std.specs.Prelude.{None, Some, if◌then◌else◌}
use Rattle.std.proofs.lemmas.Bool.{lt-ltb}
use Rattle.std.proofs.lemmas.List.{length-map, map-append}
use Rattle.std.proofs.lemmas.Option.{none-some}
use Rattle.client_registry.proofs.SeenWords.{front_more}
use Rattle.client_registry.specs.Command.{Command, Search}
use Rattle.client_registry.specs.Histories.{commands_in}
use Rattle.client_registry.specs.Epochs.{with_commands}
use Rattle.client_registry.specs.Run.{Epochs, From, Renewed}
use Rattle.client_registry.specs.WordBytes.{word_bytes}
use Rattle.client_registry.specs.declared.word.Word.{Word}
use Rattle.sse_script.specs.declared.refusal.Refusal.TheVariants.{HistoryFull}
use Rattle.script_history.specs.Reads.{is_full, number_refusal, words_in}
use Rattle.script_history.proofs.CommandRefused.{commands_more}

abbrev pub searching : List Word → List Command
searching words = map (λ word. Search word) (map word_bytes words)

-- what isn't refused as full isn't full
pub not_full : (es : Epochs) (c : Command) → number_refusal (Some es) (c ∷ []) ≡ None → is_full (Some (with_commands (c ∷ []) es)) ≡ false
not_full es c none = by (is_full (Some (with_commands (c ∷ []) es))) none
  where
    by : (b : Bool) → (if b then Some HistoryFull else None) ≡ None → b ≡ false
    by true e = absurd (none-some _ (sym e))
    by false e = refl

-- one after the other
with_commands-join : (cs ds : List Command) (es : Epochs) → with_commands ds (with_commands cs es) ≡ with_commands (cs ++ ds) es
with_commands-join cs ds (From o run) = ap (λ later. From o (record { setup = run.setup; later = later })) (append_assoc run.later cs ds)
with_commands-join cs ds (Renewed before key run) = ap (λ later. Renewed before key (record { setup = run.setup; later = later })) (append_assoc run.later cs ds)

pub taken_more : (es now next : Epochs) (words : List Word) (i : ℕ) (word : Word) → i < length words → word ≡ get_or words i word → now ≡ with_commands (searching (take i words)) es → next ≡ with_commands (Search (word_bytes word) ∷ []) now
    → next ≡ with_commands (searching (take (i + 1) words)) es
taken_more es now next words i word within at before is =
    is
    ∙ ap (with_commands (Search (word_bytes word) ∷ [])) before
    ∙ with_commands-join (searching (take i words)) (Search (word_bytes word) ∷ []) es
    ∙ ap (λ cs. with_commands cs es) (sym (ap (map (λ word. Search word)) (front_more word_bytes words i word (word_bytes word) within at refl) ∙ map-append (λ word. Search word) (map word_bytes (take i words)) (word_bytes word ∷ [])))

-- so many searches can't be numbered
pub searches_full : (es : Epochs) (words : List Word) → 2 ^ 32 ≤ commands_in (Some es) + length words + 1 → number_refusal (Some es) (searching words) ≡ Some HistoryFull
searches_full es words many =
    ap (λ b. if b || nat_lt (2 ^ 32 - 1) (length (words_in (Some (with_commands (searching words) es)))) then Some HistoryFull else None)
    (lt-ltb (2 ^ 32 - 1) (commands_in (Some (with_commands (searching words) es)) + 1)
    (omega (arith, many, commands_more es (searching words), length-map (map word_bytes words) (λ word. Search word), length-map words word_bytes)))

-- or they are
pub searches_numbered : (es next : Epochs) (words : List Word) → next ≡ with_commands (searching words) es → is_full (Some next) ≡ false → number_refusal (Some es) (searching words) ≡ None
searches_numbered es next words same fits = ap (λ b. if b then Some HistoryFull else None) (ap (λ xs. is_full (Some xs)) (sym same) ∙ fits)

-- fewer are left to be numbered
pub still_few : (es now : Epochs) (words : List Word) (i : ℕ) → i < length words → commands_in (Some es) + length words + 1 < 2 ^ 32 → now ≡ with_commands (searching (take i words)) es → commands_in (Some now) + 2 < 2 ^ 32
still_few es now words i within few same =
    omega (arith, within, few, ap (λ xs. commands_in (Some xs)) same, commands_more es (searching (take i words)), length-map (map word_bytes (take i words)) (λ word. Search word), length-map (take i words) word_bytes, length-take i words)
