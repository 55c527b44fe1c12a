use Rattle.std.proofs.Common.{◌++◌, List, map, take, sym, ap, ◌∙◌, arith}
use Rattle.std.specs.Prelude.{flat_map}
use Rattle.std.proofs.lemmas.List.{append-nil, flat_map_more, take_all}
use Rattle.client_registry.specs.Run.{Run, Offsets}
use Rattle.leakage_frames.specs.Views.{leak_view}
use Rattle.def_leakage.specs.CommandLeaks.{leak}
use Rattle.leakage_history.specs.HashedEpochs.{epochs_in}
use Rattle.leakage_history.specs.HashedRun.{run_of}
use Rattle.sse_simulator.specs.Leaks.{Leak}
use Rattle.leakage_history.proofs.EpochLists.{IsHistory-epoch, begins_at, begins_at-more, commands_within, joined-listed, length-listed, listed, listed-more}
use Rattle.leakage_model.proofs.leaks.leak_each.Goals as goal

-- what an epoch leaks
abbrev leaks_of : Offsets × Run → List Leak
leaks_of e = leak e.0 e.1

pub loop-number-init : goal.loop-number-init
loop-number-init c = record {
  leaks = sym (append-nil (map leak_view c.args.leaks.now));
  first = sym (ap (λ (o : Offsets). o.command) c.len-number-end.ensures.whole);
}

pub epoch-history-requires : goal.epoch-history-requires
epoch-history-requires c = omega (arith, c.loop-number-test.true, c.len-number-end.ensures.len)

pub leak_into-requires-clause-sized : goal.leak_into-requires-clause-sized
leak_into-requires-clause-sized c =
    (IsHistory-epoch (epochs_in c.args.epochs.now) c.loop-number.number (run_of c.epoch-history.result.now) c.len-number-end.ensures.valid c.epoch-history.ensures).setup

pub leak_into-requires-clause-numbered : goal.leak_into-requires-clause-numbered
leak_into-requires-clause-numbered c =
    omega (arith, c.loop-number.invariant.first, commands_within (epochs_in c.args.epochs.now) c.loop-number.number (run_of c.epoch-history.result.now) c.epoch-history.ensures, c.requires)

pub overflow_cast-first : goal.overflow_cast-first
overflow_cast-first c =
    omega (
      arith,
      commands_within (epochs_in c.args.epochs.now) c.loop-number.number (run_of c.epoch-history.result.now) c.epoch-history.ensures,
      c.requires,
      c.len.ensures.len,
    )

pub overflow_add-first : goal.overflow_add-first
overflow_add-first c =
    omega (
      arith,
      c.loop-number.invariant.first,
      commands_within (epochs_in c.args.epochs.now) c.loop-number.number (run_of c.epoch-history.result.now) c.epoch-history.ensures,
      c.requires,
      c.len.ensures.len,
    )

pub loop-number-preserved : goal.loop-number-preserved
loop-number-preserved c =
    let es = epochs_in c.args.epochs.now in
    let i = c.loop-number.number in
    let run : Run = run_of c.epoch-history.result.now in
    let o = begins_at es i in
    let had = c.loop-number.invariant in
    let before = map leak_view c.args.leaks.now in
    record {
      leaks =
          c.in_ok-leak_into.ensures o (sym had.first)
          ∙ ap (λ leaks. leaks ++ leak o run) had.leaks
          ∙ flat_map_more leaks_of before (take i (listed es)) (o, run)
          ∙ ap (λ front. before ++ flat_map leaks_of front) (sym (listed-more es i run c.epoch-history.ensures));
      first = omega (arith, had.first, c.len.ensures.len, ap (λ (o : Offsets). o.command) (begins_at-more es i run c.epoch-history.ensures));
    }

pub returns : goal.returns
returns c =
    let es = epochs_in c.args.epochs.now in
    let n = c.loop-number.number in
    let before = map leak_view c.args.leaks.now in
    c.loop-number.invariant.leaks
    ∙ ap (λ front. before ++ flat_map leaks_of front) (take_all n (listed es) (omega (arith, c.loop-number-test.false, c.len-number-end.ensures.len, length-listed es)))
    ∙ ap (λ leaks. before ++ leaks) (sym (joined-listed leak es))
