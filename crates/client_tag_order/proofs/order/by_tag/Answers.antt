use Rattle.std.proofs.Common.{rules, map, ap, ◌∙◌}
use Rattle.std.proofs.lemmas.Fn.{always_returns_same}
use Rattle.sse_frames.proofs.Sorted.{sorted_is-by_bytes}
use Rattle.sse_frames.specs.Order.{by_bytes}
use Rattle.client_tag_order.proofs.InOrder.{tags-sorted}
use Rattle.client_tag_order.proofs.order.by_tag.Goals as goal

-- a stable sort by tag is by_bytes
pub returns-clause-sorted : goal.returns-clause-sorted
returns-clause-sorted c =
    sorted_is-by_bytes (λ e. e.tag) c.args.tagged.items c.sort_by_key.new.self.items
    (c.in_ok-sort_by_key.ensures.sorted (λ e. e.tag) (always_returns_same _ _ _ (λ a r f k. search rules)))
    (c.in_ok-sort_by_key.ensures.stable (λ e. e.tag) (always_returns_same _ _ _ (λ a r f k. search rules)))

pub returns-clause-order : goal.returns-clause-order
returns-clause-order c = λ tags is. returns-clause-sorted c ∙ ap (by_bytes (λ e. e.tag)) is

pub returns-clause-tags : goal.returns-clause-tags
returns-clause-tags c = λ tags is. ap (map (λ e. e.tag)) (returns-clause-order c tags is) ∙ tags-sorted tags
