use Rattle.std.proofs.Common.{ap, ◌∙◌}
use Rattle.client_registry.specs.Run.{Run}
use Rattle.client_registry.specs.Sized.{IsHistory, run_words}
use Rattle.leakage_history.specs.HashedRun.{run_of}
use Rattle.def_comparison.specs.UsedNames.{all_names}
use Rattle.def_relabelling.specs.ByTexts.{drawn_names, texts_of}
use Rattle.leakage_draws.proofs.PlacedLaws.{even_drawn, even_numbered, even_used, has_values, moved_names, moved_values, unshifted_draws}
use Rattle.leakage_draws.proofs.moved_tables.moved.Goals as goal

pub placed-requires : goal.placed-requires
placed-requires c =
    let run : Run = run_of c.args.history.now in
    let other : Run = run_of c.args.other.now in
    let valid = c.commands-first.ensures.valid in
    let valid2 = c.commands-second.ensures.valid in
    let history : IsHistory run = record { collected = valid.collected; setup = c.requires.accepted; each = valid.each; accepted = valid.accepted } in
    let history2 : IsHistory other = record { collected = valid2.collected; setup = c.requires.accepted_too; each = valid2.each; accepted = valid2.accepted } in
    let o = c.requires.same.0 in
    let own = c.requires.same.1 in
    even_numbered (run_words run) (run_words other) (drawn_names o run) (drawn_names o other) c.as_slice.result.now c.as_slice-2.result.now
    (even_drawn c.args.sheet.now o run other history history2 c.requires.same.2) (c.as_slice.ensures ∙ c.in_ok-from.ensures o own) (c.as_slice-2.ensures ∙ c.in_ok-to.ensures o own)

pub placed-requires-2 : goal.placed-requires-2
placed-requires-2 c =
    let run : Run = run_of c.args.history.now in
    let other : Run = run_of c.args.other.now in
    let valid = c.commands-first.ensures.valid in
    let valid2 = c.commands-second.ensures.valid in
    let history : IsHistory run = record { collected = valid.collected; setup = c.requires.accepted; each = valid.each; accepted = valid.accepted } in
    let history2 : IsHistory other = record { collected = valid2.collected; setup = c.requires.accepted_too; each = valid2.each; accepted = valid2.accepted } in
    let o = c.requires.same.0 in
    let own = c.requires.same.1 in
    even_numbered (run_words run) (run_words other) (all_names o run) (all_names o other) c.as_slice-3.result.now c.as_slice-4.result.now
    (even_used c.args.sheet.now o run other history history2 c.requires.same.2) (c.as_slice-3.ensures ∙ c.in_ok-from-2.ensures o own) (c.as_slice-4.ensures ∙ c.in_ok-to-2.ensures o own)

pub returns : goal.returns
returns c = λ o own leaks.
    let run : Run = run_of c.args.history.now in
    let other : Run = run_of c.args.other.now in
    let valid = c.commands-first.ensures.valid in
    let valid2 = c.commands-second.ensures.valid in
    let history : IsHistory run = record { collected = valid.collected; setup = c.requires.accepted; each = valid.each; accepted = valid.accepted } in
    let history2 : IsHistory other = record { collected = valid2.collected; setup = c.requires.accepted_too; each = valid2.each; accepted = valid2.accepted } in
    let from_is = c.as_slice-3.ensures ∙ c.in_ok-from-2.ensures o own in
    let to_is = c.as_slice-4.ensures ∙ c.in_ok-to-2.ensures o own in
    let ones = c.as_slice-5.ensures ∙ c.in_ok-ones.ensures o own in
    let others = c.as_slice-6.ensures ∙ c.in_ok-others.ensures o own
    ∙ ap texts_of (unshifted_draws c.args.sheet.now o run other history history2 leaks c.in_ok-unshifted.unshifted c.as_slice.result.now c.as_slice-2.result.now
    (c.as_slice.ensures ∙ c.in_ok-from.ensures o own) (c.as_slice-2.ensures ∙ c.in_ok-to.ensures o own) c.in_ok-unshifted.ensures.held) in record {
      values =
          moved_values c.args.sheet.now o run other history history2 leaks c.in_ok-moved.moved c.as_slice-3.result.now c.as_slice-4.result.now c.as_slice-5.result.now c.as_slice-6.result.now
          from_is to_is ones others c.in_ok-moved.ensures.held;
      names =
          moved_names c.args.sheet.now o run other history history2 leaks c.in_ok-moved.moved c.as_slice-3.result.now c.as_slice-4.result.now c.as_slice-5.result.now c.as_slice-6.result.now
          from_is to_is ones others c.in_ok-moved.ensures.held;
      whole = has_values c.args.sheet.now (run_words run) o run c.as_slice-3.result.now from_is c.in_ok-moved.ensures.valued;
    }
