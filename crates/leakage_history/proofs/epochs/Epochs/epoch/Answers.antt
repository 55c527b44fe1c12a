use Rattle.std.proofs.Common.{◌<◌, ◌∷◌, [], length, map, refl, sym, ap, ◌∙◌, arith}
use Rattle.std.specs.Prelude.{option_map, slice_get}
use Rattle.std.proofs.lemmas.List.{length-append, length-map}
use Rattle.std.proofs.lemmas.Option.{slice_get-map, slice_get_read}
use Rattle.leakage_history.proofs.EpochLaws.{run_ended, runs_of-with, slice_get-before, slice_get-behind}
use Rattle.leakage_history.specs.HashedEpochs.{epochs_in, runs_of}
use Rattle.leakage_history.specs.HashedRun.{run_of}
use Rattle.leakage_history.proofs.epochs.Epochs.epoch.Goals as goal

pub returns-then-number-len : goal.returns-then-number-len
returns-then-number-len c =
    let before = c.self.inside.before.items in
    let run = run_of c.self.inside.last in
    ap (λ h. slice_get (runs_of (epochs_in h)) c.args.number) (sym c.self.view_is)
    ∙ ap (λ runs. slice_get runs c.args.number) (runs_of-with before run)
    ∙ slice_get-behind (map run_ended before) run c.args.number (omega (arith, c.if-number-len.true, c.len.ensures, length-map before run_ended))

pub index-requires : goal.index-requires
index-requires c =
    let before = c.self.inside.before.items in
    let run = run_of c.self.inside.last in
    let all = ap (λ h. length (runs_of (epochs_in h))) (sym c.self.view_is) ∙ ap length (runs_of-with before run) in
    omega (arith, c.requires, all, length-append (map run_ended before) (run ∷ []), length-map before run_ended, c.len.ensures, c.if-number-len.false)

pub returns : goal.returns
returns c =
    let before = c.self.inside.before.items in
    let run = run_of c.self.inside.last in
    let ended = c.index.result.now in
    let all = ap (λ h. length (runs_of (epochs_in h))) (sym c.self.view_is) ∙ ap length (runs_of-with before run) in
    let within : c.args.number < length before =
    omega (arith, c.requires, all, length-append (map run_ended before) (run ∷ []), length-map before run_ended, c.len.ensures, c.if-number-len.false) in
    ap (λ h. slice_get (runs_of (epochs_in h)) c.args.number) (sym c.self.view_is)
    ∙ ap (λ runs. slice_get runs c.args.number) (runs_of-with before run)
    ∙ slice_get-before (map run_ended before) (run ∷ []) c.args.number (run_ended ended)
    (slice_get-map run_ended before c.args.number ∙ ap (option_map run_ended) (slice_get_read before (length before) c.args.number ended refl within c.index.ensures))
