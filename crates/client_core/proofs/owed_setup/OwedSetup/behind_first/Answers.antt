use Rattle.std.proofs.Common.{ℕ, ◌≤◌, ◌+◌, map, drop, sym, subst, ◌∙◌, arith}
use Rattle.sse_frames.specs.Frames.{frame_bytes}
use Rattle.sse_frames.specs.SentParts.{numbered}
use Rattle.client_core.proofs.Frames.{one_less, none_left}
use Rattle.client_core.proofs.OwesLaws.{some_left}
use Rattle.client_core.specs.Setup.{frames_in, index_frames}
use Rattle.client_core.proofs.owed_setup.OwedSetup.behind_first.Goals as goal

pub returns-then-place-frame_count-clause-left : goal.returns-then-place-frame_count-clause-left
returns-then-place-frame_count-clause-left c =
    let setup = c.args.self in
    (λ i. map frame_bytes (numbered (c.at.ensures.next i) (drop (c.at.ensures.place i) (index_frames (c.at.ensures.index i)))))
    ∙ one_less setup.next setup.place (index_frames setup.index)

pub returns-then-place-frame_count-clause-some : goal.returns-then-place-frame_count-clause-some
returns-then-place-frame_count-clause-some c = some_left c.at.result

pub returns-else-place-frame_count-clause-last : goal.returns-else-place-frame_count-clause-last
returns-else-place-frame_count-clause-last c =
    λ none.
    let setup = c.args.self in
    let most : frames_in setup.index ≤ setup.place + 1 = omega (arith, c.frame_count.ensures.count, c.if-place-frame_count.false) in
    none_left setup.next setup.place (index_frames setup.index) (subst (λ (n : ℕ). n ≤ setup.place + 1) (sym setup.counted) most)
