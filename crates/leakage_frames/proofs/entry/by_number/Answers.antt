use Rattle.std.proofs.Common.{rules, ℕ, List}
use Rattle.std.proofs.lemmas.Fn.{always_returns_same}
use Rattle.sse_frames.proofs.Sorted.{sorted_is-by_bytes}
use Rattle.leakage_frames.proofs.entry.by_number.Goals as goal

pub returns : goal.returns
returns c =
    sorted_is-by_bytes (λ (number : List ℕ). number) _ _
    (c.in_ok-sort_by_key.ensures.sorted (λ number. number) (always_returns_same _ _ _ (λ a r f k. search rules)))
    (c.in_ok-sort_by_key.ensures.stable (λ number. number) (always_returns_same _ _ _ (λ a r f k. search rules)))
