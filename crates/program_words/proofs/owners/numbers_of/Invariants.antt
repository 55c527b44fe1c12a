use Rattle.std.proofs.Common.{◌≡◌, length, map, drop}
use Rattle.std.specs.Prelude.{string_bytes}
use Rattle.program_words.specs.Owners as owners
use Rattle.program_words.proofs.OwnerLaws.{with_more}
use Rattle.program_words.proofs.owners.numbers_of.Given as goal

abbrev pub invariant-loop-word : goal.invariant-loop-word
invariant-loop-word l =
    (length l.numbers.items ≡ l.word-index)
    × (owners.numbers_of (map (λ word. string_bytes word) l.words) ≡ with_more l.numbers.items (map (λ word. string_bytes word) (drop l.word-index l.words)))
