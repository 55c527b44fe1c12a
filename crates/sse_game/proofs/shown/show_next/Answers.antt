use Rattle.std.proofs.Common.{map, Some, subst}
use Rattle.std.proofs.lemmas.Result.{on_ok_weaker}
use Rattle.keyed_fn.specs.KeyedFn.{keyed_fn}
use Rattle.leakage_frames.specs.Views.{draw_view, leak_view}
use Rattle.leakage_history.specs.HashedEpochs.{epochs_in}
use Rattle.sse_game.specs.Passing.{DrawsLast}
use Rattle.sse_game.proofs.Passing.{passed-more, passed-some}
use Rattle.sse_game.proofs.shown.show_next.Goals as goal

pub show-ended-requires : goal.show-ended-requires
show-ended-requires g c =
    let f = keyed_fn g.K.Keyed.prf g.K.Keyed.pad in
    let es = epochs_in c.args.epochs.now in
    let next = c.requires.next in
    let drawn = subst (DrawsLast f c.args.key.now next.0 (Some es)) c.in-Some.is next.2 in
    passed-some f c.args.key.now next.0 (Some es) c.args.shown.now (leak_view c.args.leak.now) (map draw_view c.in-Some.own) next.1.passed next.1.leaks drawn c.requires.kept.0 c.requires.kept.1

pub returns-in-Some : goal.returns-in-Some
returns-in-Some g c =
    let f = keyed_fn g.K.Keyed.prf g.K.Keyed.pad in
    let es = epochs_in c.args.epochs.now in
    let next = c.requires.next in
    let drawn = subst (DrawsLast f c.args.key.now next.0 (Some es)) c.in-Some.is next.2 in
    on_ok_weaker c.show-ended.result
    (λ has. passed-more f c.args.key.now next.0 (Some es) c.args.shown.now (leak_view c.args.leak.now) (map draw_view c.in-Some.own) next.1.passed next.1.leaks drawn c.show-ended.new.shown has)
    c.show-ended.ensures
