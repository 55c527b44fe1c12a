use Rattle.std.proofs.Common.{◌∙◌, sym}
use Rattle.client_registry.specs.Acceptance.{size_refusal}
use Rattle.client_registry.specs.declared.size.Size.{Size}
use Rattle.sse_game.specs.Views.{setup_view}
use Rattle.sse_game.proofs.Accepting.{refused_size, takes-setup}
use Rattle.sse_game.proofs.side.begin.Goals as goal

pub returns-in-Err-clause-taken : goal.returns-in-Err-clause-taken
returns-in-Err-clause-taken c =
    let s = setup_view c.args.new in
    sym (takes-setup s c.words-limits.ensures.valid ∙ refused_size Size (size_refusal s) c.in-Err.field-0 c.in-Err.ensures.accepted)
