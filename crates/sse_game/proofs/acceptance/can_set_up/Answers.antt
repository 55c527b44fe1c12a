use Rattle.std.proofs.Common.{◌≡◌, ◌&&◌, ◌+◌, None, nat_le, nat_lt, ◌-◌, ◌^◌, sym, ap, ◌∙◌}
use Rattle.std.specs.Prelude.{is_none}
use Rattle.client_registry.specs.Acceptance.{frames_needed, size_refusal}
use Rattle.client_registry.specs.Run.{last_run, Run}
use Rattle.client_registry.specs.Setup.{setup_with}
use Rattle.client_registry.specs.declared.size.Size.{Size}
use Rattle.std.specs.Int.{div_ceil}
use Rattle.leakage_history.proofs.LiveFaults.{by_parts, size_accepted}
use Rattle.sse_game.specs.Side.{epochs_at, set_up_like}
use Rattle.sse_game.proofs.Accepting.{refused_size}
use Rattle.sse_game.proofs.acceptance.can_set_up.Goals as goal

pub returns-in-Ok : goal.returns-in-Ok
returns-in-Ok c =
    let side = c.args.side.now in
    let last = c.last-history.result.now.setup in
    let docs = c.args.docs.now.documents in
    let like : last ≡ (last_run (epochs_at side)).setup = ap (λ (r : Run). r.setup) c.last-history.ensures.run in
    let same : setup_with docs c.from-b.result c.from-big.result c.from-pad.result ≡ set_up_like docs (last_run (epochs_at side)).setup =
    by_parts docs last c.from-b.result c.from-big.result c.from-pad.result (c.from-b.ensures ∙ c.b.ensures) (c.from-big.ensures ∙ c.big.ensures) (c.from-pad.ensures ∙ c.pad.ensures) ∙ ap (set_up_like docs) like in
    let none : size_refusal (set_up_like docs (last_run (epochs_at side)).setup) ≡ None = ap size_refusal (sym same) ∙ size_accepted Size c.in-Ok.size (size_refusal (setup_with docs c.from-b.result c.from-big.result c.from-pad.result)) c.in-Ok.ensures.refused in
    let frames : c.setup_frames.result ≡ frames_needed (set_up_like docs (last_run (epochs_at side)).setup) =
    c.setup_frames.ensures ∙ (λ i. 2 + div_ceil (c.in-Ok.ensures.padded_words i) 1024 + div_ceil (c.in-Ok.ensures.padded_blocks i) 256) ∙ ap frames_needed same in
    c.has_numbers.ensures
    ∙ ap (λ n. nat_lt side.commands (2 ^ 32 - 1) && nat_le n (2 ^ 32 - 1 - side.frames)) frames
    ∙ ap (λ o. is_none o && (nat_lt side.commands (2 ^ 32 - 1) && nat_le (frames_needed (set_up_like docs (last_run (epochs_at side)).setup)) (2 ^ 32 - 1 - side.frames))) (sym none)

pub returns-in-Err : goal.returns-in-Err
returns-in-Err c =
    let side = c.args.side.now in
    let last = c.last-history.result.now.setup in
    let docs = c.args.docs.now.documents in
    let like : last ≡ (last_run (epochs_at side)).setup = ap (λ (r : Run). r.setup) c.last-history.ensures.run in
    let same : setup_with docs c.from-b.result c.from-big.result c.from-pad.result ≡ set_up_like docs (last_run (epochs_at side)).setup =
    by_parts docs last c.from-b.result c.from-big.result c.from-pad.result (c.from-b.ensures ∙ c.b.ensures) (c.from-big.ensures ∙ c.big.ensures) (c.from-pad.ensures ∙ c.pad.ensures) ∙ ap (set_up_like docs) like in
    ap (λ b. b && (nat_lt side.commands (2 ^ 32 - 1) && nat_le (frames_needed (set_up_like docs (last_run (epochs_at side)).setup)) (2 ^ 32 - 1 - side.frames)))
    (sym (ap (λ s. is_none (size_refusal s)) (sym same) ∙ refused_size Size (size_refusal (setup_with docs c.from-b.result c.from-big.result c.from-pad.result)) c.in-Err.field-0 c.in-Err.ensures.accepted))
