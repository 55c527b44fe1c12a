use Rattle.std.proofs.Common.{◌≡◌, ◌++◌, Ok, length, take, drop, sym, ap, subst, ◌∙◌, arith}
use Rattle.std.proofs.lemmas.List.{take-append-drop, length-drop}
use Rattle.sse_frames.specs.Frames.{frame_bytes}
use Rattle.sse_frames.specs.ReadOutcomes.{IfRead, IsFront}
use Rattle.sse_frames.specs.FrameViews.{frame_view}
use Rattle.server_connections.proofs.front_frame.take_front.Goals as goal

-- the frame stands in front of what is left
pub returns-clause-fronted : goal.returns-clause-fronted
returns-clause-fronted g c =
    let held = c.args.incoming.now in
    let size = c.in-Ok-Some.size in
    let frame = frame_view c.in-Ok-Some.frame in
    let found = subst (λ k. IfRead (Ok k) (λ frame n. IsFront frame n c.pending.result.now)) c.in-Ok-Some.field-0-is c.in-Ok-Some.ensures.found in
    let spelled : take size held ≡ frame_bytes frame = ap (take size) (sym c.pending.ensures) ∙ found.spelled in (
      frame,
      found.grammar,
      sym (take-append-drop size held)
          ∙ ap (λ l. l ++ drop size held) spelled
          ∙ ap (λ l. frame_bytes frame ++ l) (sym c.consume.ensures),
      c.keep.ensures.handled,
      c.keep.ensures.lasts,
    )

-- a frame has bytes
pub returns-clause-less : goal.returns-clause-less
returns-clause-less g c =
    let held = c.args.incoming.now in
    let size = c.in-Ok-Some.size in
    let found = subst (λ k. IfRead (Ok k) (λ frame n. IsFront frame n c.pending.result.now)) c.in-Ok-Some.field-0-is c.in-Ok-Some.ensures.found in
    omega (arith, ap length c.consume.ensures, length-drop size held, found.some, found.inside, ap length c.pending.ensures)
