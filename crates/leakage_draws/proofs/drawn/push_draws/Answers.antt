use Rattle.std.proofs.Common.{ℕ, length, map, refl, ap, ◌∙◌, arith}
use Rattle.std.proofs.lemmas.List.{length-map, map-append}
use Rattle.std.proofs.lemmas.Result.{on_ok_weaker}
use Rattle.client_registry.specs.Run.{Run, Offsets}
use Rattle.leakage_history.specs.Commands.{command_of}
use Rattle.leakage_history.specs.HashedRun.{run_of}
use Rattle.leakage_draws.proofs.GivenLaws.{draws_joined, first_drawings, later_drawings, some_drawings}
use Rattle.leakage_frames.specs.Views.{draw_view}
use Rattle.leakage_draws.proofs.drawn.push_draws.Goals as goal

-- an epoch of this number
abbrev begun : ℕ → Offsets
begun epoch = record { epoch = epoch; command = 0; frame = 0 }

pub split_at-requires : goal.split_at-requires
split_at-requires c =
    let o = begun c.args.epoch in
    omega (arith, some_drawings c.args.sheet.now o (run_of c.args.history.now) c.as_slice.result.now (c.as_slice.ensures ∙ c.in_ok-drawings.ensures o refl))

pub setup_draws-requires-clause-drawings : goal.setup_draws-requires-clause-drawings
setup_draws-requires-clause-drawings c =
    let o = begun c.args.epoch in (
      c.args.epoch,
      c.as_slice-2.ensures
          ∙ c.index-first-0.is
          ∙ first_drawings c.args.sheet.now o (run_of c.args.history.now) c.as_slice.result.now c.split_at.result.0.now _ (c.as_slice.ensures ∙ c.in_ok-drawings.ensures o refl) c.split_at.ensures.front,
    )

pub push_later-requires : goal.push_later-requires
push_later-requires c =
    let o = begun c.args.epoch in
    let commands = c.commands.result.now in
    omega (
      arith,
      some_drawings c.args.sheet.now o (run_of c.args.history.now) c.as_slice.result.now (c.as_slice.ensures ∙ c.in_ok-drawings.ensures o refl),
      c.split_at.ensures.back_len,
      ap length c.commands.ensures.commands,
      length-map commands command_of,
    )

pub returns : goal.returns
returns c =
    let run : Run = run_of c.args.history.now in
    on_ok_weaker c.push_later.result
    (λ pushed o own.
    let all = c.as_slice.ensures ∙ c.in_ok-drawings.ensures o own in
    draws_joined c.args.sheet.now o run (map draw_view c.in_ok-setup_draws.field-0) (map (map draw_view) c.args.all.now) (map (map draw_view) c.push.new.self) (map (map draw_view) c.push_later.new.all)
    c.split_at.result.1.now (map command_of c.commands.result.now)
    (c.in_ok-setup_draws.ensures o.epoch
    (c.as_slice-2.ensures ∙ c.index-first-0.is ∙ first_drawings c.args.sheet.now o run c.as_slice.result.now c.split_at.result.0.now _ all c.split_at.ensures.front))
    (ap (map (map draw_view)) c.in_ok-push.ensures.ok ∙ map-append (map draw_view) c.args.all.now _)
    (later_drawings c.args.sheet.now o run c.as_slice.result.now c.split_at.result.1.now all c.split_at.ensures.back)
    c.commands.ensures.commands pushed)
    c.push_later.ensures
