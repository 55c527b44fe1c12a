use Rattle.std.proofs.Common.{◌≡◌, ◌++◌, ◌∷◌, [], map, ap, ◌∙◌, append_assoc}
use Rattle.std.proofs.lemmas.List.{map-append}
use Rattle.std.proofs.lemmas.Result.{on_ok_weaker}
use Rattle.client_registry.specs.Over.{over}
use Rattle.leakage_frames.specs.Views.{leak_view}
use Rattle.def_leakage.specs.CommandLeaks.{leak_by, leak_of_setup}
use Rattle.leakage_model.proofs.leaks.leak_into.Goals as goal

pub returns : goal.returns
returns c =
    on_ok_weaker c.leak_commands-leaked.result
    (λ leaked. λ o first.
    let s = c.args.history.now.setup in
    let before = map leak_view c.args.leaks.now in
    let rest = over (leak_by o s) [] c.args.history.now.later in
    let of_setup : map leak_view c.push.new.self ≡ before ++ leak_of_setup o.epoch s ∷ [] =
    ap (map leak_view) c.in_ok-push.ensures.ok ∙ map-append leak_view c.args.leaks.now (c.setup_leak.result ∷ []) ∙ ap (λ leak. before ++ leak ∷ []) (c.setup_leak.ensures o.epoch) in
    leaked o first ∙ ap (λ leaks. leaks ++ rest) of_setup ∙ append_assoc before (leak_of_setup o.epoch s ∷ []) rest)
    c.leak_commands-leaked.ensures
