use Rattle.std.proofs.Common.{sym, ◌∙◌}
use Rattle.client_core.proofs.UpdateBytes.{clash_within}
use Rattle.client_core.proofs.equal_values.equal_positions.Goals as goal

pub bounds-places-first : goal.bounds-places-first
bounds-places-first c =
    (clash_within c.requires.0 c.in-Some.first c.in-Some.second _ (sym (c.first_clash.ensures c.requires.0 c.requires.1) ∙ c.in-Some.is) c.requires.2).0

pub bounds-places-second : goal.bounds-places-second
bounds-places-second c =
    (clash_within c.requires.0 c.in-Some.first c.in-Some.second _ (sym (c.first_clash.ensures c.requires.0 c.requires.1) ∙ c.in-Some.is) c.requires.2).1
