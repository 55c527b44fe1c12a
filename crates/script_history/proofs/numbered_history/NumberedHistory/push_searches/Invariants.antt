use Rattle.std.proofs.Common.{◌≡◌, ◌≤◌, false, map, take}
use Rattle.std.specs.Prelude.{Some}
use Rattle.client_registry.specs.Command.{Search}
use Rattle.client_registry.specs.Epochs.{with_commands}
use Rattle.client_registry.specs.WordBytes.{word_bytes}
use Rattle.leakage_history.specs.HashedEpochs.{epochs_in}
use Rattle.script_history.specs.Reads.{is_full}
use Rattle.script_history.proofs.numbered_history.NumberedHistory.push_searches.Given as goal

abbrev pub invariant-loop-word : goal.invariant-loop-word
invariant-loop-word l = record {
  taken : epochs_in l.self ≡ with_commands (map (λ word. Search word) (map word_bytes (take l.word-index l.words))) (epochs_in l.initial.self);
  keys : l.self.last.keys ≡ l.initial.self.last.keys;
  numbered : 1 ≤ l.word-index → is_full (Some (epochs_in l.self)) ≡ false;
}
