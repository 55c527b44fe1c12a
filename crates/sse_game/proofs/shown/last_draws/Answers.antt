use Rattle.std.proofs.Common.{◌≡◌, ◌-◌, map, sym, ap, ◌∙◌, arith}
use Rattle.std.proofs.lemmas.Result.{IfOk-weaker}
use Rattle.client_registry.proofs.HistoryLaws.{IsHistory-last}
use Rattle.client_registry.specs.Acceptance.{size_refusal}
use Rattle.client_registry.specs.Epochs.{begins, key_now}
use Rattle.client_registry.specs.Run.{Run, last_run}
use Rattle.def_leakage.specs.DrawnValues as model
use Rattle.keyed_fn.specs.KeyedFn.{keyed_fn}
use Rattle.leakage_frames.specs.Views.{draw_view}
use Rattle.leakage_history.proofs.EpochLists.{epochs_within}
use Rattle.leakage_history.specs.HashedEpochs.{epochs_in}
use Rattle.sse_model.specs.Histories.{table_at}
use Rattle.sse_game.proofs.LastEpoch.{epoch_number, key_first, key_last}
use Rattle.sse_game.proofs.shown.last_draws.Goals as goal

pub draws_under-requires : goal.draws_under-requires
draws_under-requires g c = ap (λ (r : Run). size_refusal r.setup) c.last.ensures.run ∙ (IsHistory-last (epochs_in c.args.epochs.now) c.len-number.ensures.valid).setup

pub draws_under-requires-2 : goal.draws_under-requires-2
draws_under-requires-2 g c = ap (λ (r : Run). size_refusal r.setup) c.last-2.ensures.run ∙ (IsHistory-last (epochs_in c.args.epochs.now) c.len-number.ensures.valid).setup

pub overflow_cast-number : goal.overflow_cast-number
overflow_cast-number g c = omega (arith, epochs_within (epochs_in c.args.epochs.now), c.requires, c.len-number.ensures.len)

pub returns-then-number-eq0 : goal.returns-then-number-eq0
returns-then-number-eq0 g c =
    let f = keyed_fn g.K.Keyed.prf g.K.Keyed.pad in
    let es = epochs_in c.args.epochs.now in
    let key = c.args.key.now in
    let own = key_first key es (omega (arith, c.len-number.ensures.renewals, c.if-number-eq0.true)) in
    IfOk-weaker c.draws_under.result _ (λ all. map (map draw_view) all ≡ model.draws (table_at f (key_now key es) (last_run es)) (begins es) (last_run es))
    (λ all has.
    has (begins es) (omega (arith, epoch_number es c.len-number.ensures.whole, c.len-number.ensures.renewals, c.if-number-eq0.true))
    ∙ (λ i. model.draws (table_at f (sym own i) (c.last.ensures.run i)) (begins es) (c.last.ensures.run i)))
    c.draws_under.ensures

pub returns : goal.returns
returns g c =
    let f = keyed_fn g.K.Keyed.prf g.K.Keyed.pad in
    let es = epochs_in c.args.epochs.now in
    let key = c.args.key.now in
    let own : key_now key es ≡ c.new-own.result =
    key_last key es (c.len-number.result - 1 - 1) c.renewal_key.result.now (omega (arith, c.len-number.ensures.renewals, c.if-number-eq0.false)) c.renewal_key.ensures ∙ sym c.new-own.ensures in
    IfOk-weaker c.draws_under-2.result _ (λ all. map (map draw_view) all ≡ model.draws (table_at f (key_now key es) (last_run es)) (begins es) (last_run es))
    (λ all has.
    has (begins es) (omega (arith, epoch_number es c.len-number.ensures.whole, c.len-number.ensures.renewals))
    ∙ (λ i. model.draws (table_at f (sym own i) (c.last-2.ensures.run i)) (begins es) (c.last-2.ensures.run i)))
    c.draws_under-2.ensures
