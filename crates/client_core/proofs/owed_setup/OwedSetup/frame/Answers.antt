use Rattle.std.proofs.Common.{List, ℕ, ◌<◌, ◌∷◌, [], ap, take, sym, subst, ◌∙◌}
use Rattle.sse_frames.specs.Frames.{SetupEnd}
use Rattle.client_core.proofs.Frames.{first_left}
use Rattle.client_core.specs.Setup.{index_frames}
use Rattle.client_core.proofs.owed_setup.OwedSetup.frame.Goals as goal

pub returns : goal.returns
returns c =
    let setup = c.args.self.now in
    let index = setup.index in
    first_left setup.next setup.place (index_frames index) (λ n. SetupEnd n) (subst (λ (n : ℕ). setup.place < n) (sym setup.counted) setup.left)
    ∙ ap (λ (bytes : List ℕ). bytes ∷ []) (sym setup.written ∙ ap (take setup.size) (sym c.deref.ensures.value))
