use Rattle.std.proofs.Common.{◌≡◌, [], ◌∷◌, None, ap, ◌∙◌, sym}
use Rattle.std.specs.Prelude.{is_none}
use Rattle.client_registry.specs.Setup.{Setup, setup_with}
use Rattle.def_duel.specs.Choices.{SetsUp, grown}
use Rattle.def_leakage.specs.CommandLeaks.{leak_of_setup}
use Rattle.leakage_history.specs.HashedRun.{HashedRun}
use Rattle.sse_game.proofs.Accepting.{takes-setup}
use Rattle.sse_game.proofs.side.begun.Goals as goal

pub returns-clause-taken : goal.returns-clause-taken
returns-clause-taken c = takes-setup (setup_with c.args.docs.documents c.args.size.now.shape.b c.args.size.now.shape.big c.args.size.now.pad) c.words-limits.ensures.valid ∙ ap is_none c.requires.accepted

pub returns-clause-begun : goal.returns-clause-begun
returns-clause-begun c =
    let s : Setup = setup_with c.args.docs.documents c.args.size.now.shape.b c.args.size.now.shape.big c.args.size.now.pad in
    let is : c.in_ok-history.history.setup ≡ s =
    ap (λ (h : HashedRun). h.setup) c.in_ok-history.ensures ∙ (λ i. setup_with c.args.docs.documents (c.b-b.ensures.b i) (c.big-big.ensures.big i) c.args.size.now.pad) in
    record {
      side = c.in_ok-side.ensures.0;
      after = c.in_ok-side.ensures.1 ∙ ap (λ x. grown None (SetsUp x)) is;
      leaks = ap (λ leak. leak ∷ []) (sym (c.setup_leak-leak.ensures 0 ∙ ap (leak_of_setup 0) is));
    }
