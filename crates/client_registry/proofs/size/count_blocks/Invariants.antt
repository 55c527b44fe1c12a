use Rattle.std.proofs.Common.{◌≡◌, ◌≤◌, ◌<◌, ◌*◌, ◌^◌, ℕ, false, take}
use Rattle.std.specs.Prelude.{is_none, slice_index, sum_by}
use Rattle.two_level.specs.Plan.{plan, block_count}
use Rattle.client_registry.specs.Documents.{list_lengths}
use Rattle.client_registry.proofs.size.count_blocks.Given as goal

abbrev pub invariant-loop-word : goal.invariant-loop-word
invariant-loop-word l = record {
  short : (k : ℕ) → k < l.word → is_none (plan l.shape (slice_index (list_lengths l.docs.documents) k)) ≡ false;
  counted : l.blocks ≡ sum_by (λ n. block_count (plan l.shape n)) (take l.word (list_lengths l.docs.documents));
  within : l.blocks ≤ l.word * 2 ^ 20;
}
