use Rattle.std.proofs.Common.{rules}
use Rattle.std.proofs.lemmas.Fn.{always_returns_same}
use Rattle.sse_frames.proofs.Sorted.{sorted_is-by_bytes}
use Rattle.sse_frames.specs.Frames.{Entry}
use Rattle.leakage_frames.proofs.entry.by_label.Goals as goal

pub returns : goal.returns
returns c =
    sorted_is-by_bytes (λ (entry : Entry). entry.label) _ _
    (c.in_ok-sort_by_key.ensures.sorted (λ entry. entry.label) (always_returns_same _ _ _ (λ a r f k. search rules)))
    (c.in_ok-sort_by_key.ensures.stable (λ entry. entry.label) (always_returns_same _ _ _ (λ a r f k. search rules)))
