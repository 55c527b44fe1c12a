use Rattle.std.proofs.Common.{map, ap, sym, ◌∙◌}
use Rattle.std.specs.Prelude.{is_some, option_copied}
use Rattle.std.specs.Option.{option_and_then}
use Rattle.sse_simulator.specs.Leaks.{Leak}
use Rattle.sse_simulator.specs.Simulator.{token_of, kept_of}
use Rattle.leakage_frames.proofs.AbsentLaws.{kept_past, kept_there, kept_undrawn, viewed_at, viewed_past}
use Rattle.leakage_frames.specs.Views.{draw_view, leak_view}
use Rattle.leakage_frames.proofs.earlier.has_token_given.Goals as goal

pub returns-in-Some-Some : goal.returns-in-Some-Some
returns-in-Some-Some c =
    let leak : Leak = leak_view c.in-Some-Some.leak.now in
    c.draws_token.ensures
    ∙ ap (λ draws. is_some (token_of (kept_of leak (map draw_view draws)))) c.as_slice.ensures
    ∙ ap (λ o. is_some (option_and_then token_of o))
    (sym (kept_there (map leak_view c.args.leaks.now) (map (map draw_view) c.args.draws.now) c.args.command leak (map draw_view c.in-Some-Some.own.now)
    (viewed_at leak_view c.args.leaks.now c.args.command c.in-Some-Some.leak.now (sym c.item_at.ensures ∙ ap option_copied c.in-Some-Some.is-0))
    (viewed_at (map draw_view) c.args.draws.now c.args.command c.in-Some-Some.own.now (sym c.item_at-2.ensures ∙ ap option_copied c.in-Some-Some.is-1))))

pub returns-in_default : goal.returns-in_default
returns-in_default c =
    ap (λ o. is_some (option_and_then token_of o))
    (sym (kept_undrawn (map leak_view c.args.leaks.now) (map (map draw_view) c.args.draws.now) c.args.command
    (viewed_past (map draw_view) c.args.draws.now c.args.command (sym c.item_at-2.ensures ∙ ap option_copied c.in_default.is-1))))

pub returns-in_default-2 : goal.returns-in_default-2
returns-in_default-2 c =
    ap (λ o. is_some (option_and_then token_of o))
    (sym (kept_past (map leak_view c.args.leaks.now) (map (map draw_view) c.args.draws.now) c.args.command
    (viewed_past leak_view c.args.leaks.now c.args.command (sym c.item_at.ensures ∙ ap option_copied c.in_default.is-0))))
