use Rattle.std.proofs.Common.{◌≡◌, ◌+◌, Some, length, sym, ap, ◌∙◌, arith, length-append}
use Rattle.std.specs.Prelude.{slice_get}
use Rattle.std.proofs.lemmas.Option.{slice_get-get_or}
use Rattle.client_registry.specs.Run.{Epochs}
use Rattle.leakage_history.specs.HashedEpochs.{epochs_in}
use Rattle.leakage_history.proofs.EpochLists.{length-listed}
use Rattle.def_relabelling.proofs.AlikeEpochs.{alike}
use Rattle.leakage_draws.proofs.MovedLaws.{moved-more, moved-none, moved_in, names_in, sheets_whole}
use Rattle.leakage_draws.proofs.moved_tables.moved_sheets.Goals as goal

pub moved_epoch-requires-clause-within : goal.moved_epoch-requires-clause-within
moved_epoch-requires-clause-within c =
    omega (arith, c.loop-i-test.true, c.if-sheets-len.false, c.len.ensures.len, length-listed (epochs_in c.args.epochs.now))

pub loop-i-init : goal.loop-i-init
loop-i-init c = record {
  many = ap length c.new-all.ensures;
  moved = moved-none c.args.sheets.now (epochs_in c.args.epochs.now) (epochs_in c.args.other.now) c.new-all.result c.new-all.ensures;
}

pub loop-i-preserved : goal.loop-i-preserved
loop-i-preserved c =
    let sheets = c.args.sheets.now in
    let sheet = c.index-sheets-i.result in
    let here : slice_get sheets c.loop-i.i ≡ Some sheet = slice_get-get_or sheets c.loop-i.i sheet c.loop-i-test.true ∙ ap (λ v. Some v) (sym c.index-sheets-i.is) in record {
      many = ap length c.in_ok-push.ensures.ok ∙ length-append c.loop-i.all _ ∙ ap (λ n. n + 1) c.loop-i.invariant.many;
      moved =
          moved-more sheets (epochs_in c.args.epochs.now) (epochs_in c.args.other.now) c.loop-i.all c.push.new.self c.loop-i.i sheet c.in_ok-moved_epoch.field-0
          c.loop-i.invariant.many here c.in_ok-push.ensures.ok c.in_ok-moved_epoch.ensures c.loop-i.invariant.moved;
    }

pub returns-clause-values : goal.returns-clause-values
returns-clause-values c =
    let es : Epochs = epochs_in c.args.epochs.now in
    let other : Epochs = epochs_in c.args.other.now in
    let are = alike es other (c.len.ensures.whole ∙ sym c.len-second.ensures.whole) c.requires.same in
    let many = c.if-sheets-len.false ∙ c.len.ensures.len ∙ sym (length-listed es) in
    let many2 : length c.loop-i.all ≡ length c.args.sheets.now = omega (arith, c.loop-i.invariant.many, c.loop-i-test.false, c.loop-i.auto.i-end) in
    moved_in c.args.sheets.now es other c.loop-i.all c.len.ensures.whole are many many2 c.loop-i.invariant.moved

pub returns-clause-names : goal.returns-clause-names
returns-clause-names c =
    let es : Epochs = epochs_in c.args.epochs.now in
    let other : Epochs = epochs_in c.args.other.now in
    let are = alike es other (c.len.ensures.whole ∙ sym c.len-second.ensures.whole) c.requires.same in
    let many = c.if-sheets-len.false ∙ c.len.ensures.len ∙ sym (length-listed es) in
    let many2 : length c.loop-i.all ≡ length c.args.sheets.now = omega (arith, c.loop-i.invariant.many, c.loop-i-test.false, c.loop-i.auto.i-end) in
    names_in c.args.sheets.now es other c.loop-i.all c.len.ensures.whole are many many2 c.loop-i.invariant.moved

pub returns-clause-whole : goal.returns-clause-whole
returns-clause-whole c =
    let es : Epochs = epochs_in c.args.epochs.now in
    let other : Epochs = epochs_in c.args.other.now in
    let are = alike es other (c.len.ensures.whole ∙ sym c.len-second.ensures.whole) c.requires.same in
    let many = c.if-sheets-len.false ∙ c.len.ensures.len ∙ sym (length-listed es) in
    let many2 : length c.loop-i.all ≡ length c.args.sheets.now = omega (arith, c.loop-i.invariant.many, c.loop-i-test.false, c.loop-i.auto.i-end) in
    sheets_whole c.args.sheets.now es other c.loop-i.all c.len.ensures.whole are many many2 c.loop-i.invariant.moved
