use Rattle.std.proofs.Common.{◌≡◌, ◌-◌, [], suc, sym, ap, ◌∙◌, arith}
use Rattle.std.proofs.lemmas.Option.{get_or_from_slice_get}
use Rattle.std.proofs.lemmas.Result.{IfOk-weaker}
use Rattle.keyed_fn.specs.KeyedFn.{keyed_fn}
use Rattle.leakage_history.specs.HashedEpochs.{epochs_in, renewal_keys}
use Rattle.leakage_history.specs.HashedRun.{run_of}
use Rattle.leakage_sheets.proofs.EpochSheets.{gives_there, marks_there}
use Rattle.leakage_sheets.proofs.EpochTables.{accepted-at, key_at, length-keys}
use Rattle.leakage_sheets.proofs.epoch_sheets.sheet_at.Goals as goal

pub sheet_of-requires : goal.sheet_of-requires
sheet_of-requires g c = accepted-at (epochs_in c.args.epochs.now) c.args.number (run_of c.epoch.result.now) c.requires.kept c.epoch.ensures

pub sheet_of-requires-2 : goal.sheet_of-requires-2
sheet_of-requires-2 g c = accepted-at (epochs_in c.args.epochs.now) c.args.number (run_of c.epoch-2.result.now) c.requires.kept c.epoch-2.ensures

pub renewal_key-requires : goal.renewal_key-requires
renewal_key-requires g c = omega (arith, c.requires.within, c.if-number-eq0.false, length-keys (epochs_in c.args.epochs.now))

pub returns-then-number-eq0-clause-values : goal.returns-then-number-eq0-clause-values
returns-then-number-eq0-clause-values g c =
    let es = epochs_in c.args.epochs.now in
    let key = c.args.key.now in
    IfOk-weaker c.sheet_of.result _ _
    (λ sheet values.
    gives_there (keyed_fn g.K.Keyed.prf g.K.Keyed.pad) key es c.args.number sheet (run_of c.epoch.result.now) c.requires.whole c.epoch.ensures key
    (ap (λ n. key_at key es n) c.if-number-eq0.true) (λ o is. values o (is ∙ c.if-number-eq0.true)))
    c.sheet_of.ensures.values

pub returns-then-number-eq0-clause-names : goal.returns-then-number-eq0-clause-names
returns-then-number-eq0-clause-names g c =
    IfOk-weaker c.sheet_of.result _ _
    (λ sheet marks.
    marks_there (keyed_fn g.K.Keyed.prf g.K.Keyed.pad) c.args.key.now (epochs_in c.args.epochs.now) c.args.number sheet (run_of c.epoch.result.now) c.requires.whole c.epoch.ensures
    (λ o is. marks o (is ∙ c.if-number-eq0.true)))
    c.sheet_of.ensures.names

pub returns-clause-values : goal.returns-clause-values
returns-clause-values g c =
    let es = epochs_in c.args.epochs.now in
    let key = c.args.key.now in
    let number = c.args.number in
    let above : number ≡ suc (number - 1) = omega (arith, c.if-number-eq0.false) in
    IfOk-weaker c.sheet_of-2.result _ _
    (λ sheet values.
    gives_there (keyed_fn g.K.Keyed.prf g.K.Keyed.pad) key es number sheet (run_of c.epoch-2.result.now) c.requires.whole c.epoch-2.ensures c.new-own.result
    (ap (λ n. key_at key es n) above ∙ get_or_from_slice_get (renewal_keys es) (number - 1) c.renewal_key.result.now [] c.renewal_key.ensures ∙ sym c.new-own.ensures)
    values)
    c.sheet_of-2.ensures.values

pub returns-clause-names : goal.returns-clause-names
returns-clause-names g c =
    IfOk-weaker c.sheet_of-2.result _ _
    (λ sheet marks.
    marks_there (keyed_fn g.K.Keyed.prf g.K.Keyed.pad) c.args.key.now (epochs_in c.args.epochs.now) c.args.number sheet (run_of c.epoch-2.result.now) c.requires.whole c.epoch-2.ensures marks)
    c.sheet_of-2.ensures.names
