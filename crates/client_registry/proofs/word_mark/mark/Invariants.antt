use Rattle.std.proofs.Common.{◌≡◌, take}
use Rattle.client_registry.specs.WordMark.{word_mark}
use Rattle.client_registry.proofs.word_mark.mark.Given as goal

abbrev pub invariant-loop-byte : goal.invariant-loop-byte
invariant-loop-byte l = l.mark ≡ word_mark (take l.byte-index l.bytes)
