use Rattle.std.proofs.Common.{◌≡◌, Err, filter, map, ap, ◌∙◌}
use Rattle.std.proofs.lemmas.Result.{IfOk-weaker}
use Rattle.leakage_history.specs.HashedEpochs.{epochs_in}
use Rattle.leakage_history.proofs.EpochLists.{listed}
use Rattle.leakage_values.specs.SheetOf.{AreSheetsIn}
use Rattle.def_relabelling.specs.Comparison.{frames_under}
use Rattle.sse_frames.specs.Frames.{frame_bytes}
use Rattle.sse_model.specs.Names.{Table}
use Rattle.leakage_frames.specs.Views.{draw_view, leak_view}
use Rattle.leakage_draws.proofs.SentLaws.{none_refused, sent_session}
use Rattle.leakage_draws.specs.SheetsTable.{sheets_table}
use Rattle.leakage_draws.specs.Sides.{is_sent}
use Rattle.leakage_draws.proofs.frames.wire_frames.Goals as goal

pub returns-in-Ok-clause-own : goal.returns-in-Ok-clause-own
returns-in-Ok-clause-own c =
    let es = epochs_in c.args.epochs.now in
    let t : Table = sheets_table c.args.sheets.now (listed es) in
    let valid = c.len-epochs.ensures in
    let are = sent_session t es valid.whole valid.valid (map leak_view c.in_ok-leaks.leaks) (map (map draw_view) c.in_ok-draws.draws) c.in-Ok.passing c.in_ok-leaks.ensures c.in_ok-draws.ensures.own c.in-Ok.ensures.made in
    IfOk-weaker c.sent_texts.result _ (λ frames. frames ≡ map frame_bytes (frames_under t es)) (λ frames is. is ∙ ap (filter is_sent) c.as_slice.ensures ∙ are) c.sent_texts.ensures

pub returns-in-Ok-clause-agreed : goal.returns-in-Ok-clause-agreed
returns-in-Ok-clause-agreed c =
    let es = epochs_in c.args.epochs.now in
    let valid = c.len-epochs.ensures in
    IfOk-weaker c.sent_texts.result _ (λ frames. (t : Table) → AreSheetsIn c.args.sheets.now es t → frames ≡ map frame_bytes (frames_under t es))
    (λ frames is t are.
    is
    ∙ ap (filter is_sent) c.as_slice.ensures
    ∙ sent_session t es valid.whole valid.valid (map leak_view c.in_ok-leaks.leaks) (map (map draw_view) c.in_ok-draws.draws) c.in-Ok.passing c.in_ok-leaks.ensures (c.in_ok-draws.ensures.agreed t are) c.in-Ok.ensures.made)
    c.sent_texts.ensures

pub unreachable-requires : goal.unreachable-requires
unreachable-requires c =
    let es = epochs_in c.args.epochs.now in
    let t : Table = sheets_table c.args.sheets.now (listed es) in
    let valid = c.len-epochs.ensures in
    none_refused t es valid.whole valid.valid (map leak_view c.in_ok-leaks.leaks) (map (map draw_view) c.in_ok-draws.draws) c.in-Err-BadLeak.field-0-0 c.in_ok-leaks.ensures c.in_ok-draws.ensures.own
    ((c.simulate.ensures.bad c.in-Err-BadLeak.field-0-0).0 (c.in-Err-BadLeak.is ∙ ap Err c.in-Err-BadLeak.field-0-is))
