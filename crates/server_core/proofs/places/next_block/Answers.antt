use Rattle.std.proofs.lemmas.Grind.{common_steps}
use Rattle.std.proofs.Common.{◌≡◌, ◌+◌, ◌-◌, ◌≤◌, length, take, drop, sym, ap, ◌∙◌, arith}
use Rattle.std.specs.Prelude.{option_and_then}
use Rattle.std.proofs.lemmas.List.{length-take-le}
use Rattle.keyed_fn.specs.KeyedFn.{keyed_fn}
use Rattle.two_level.specs.Opened.{joined, followed}
use Rattle.server_core.specs.Search.{block_at}
use Rattle.server_core.specs.SearchState.{pointers_from, additions_from}
use Rattle.server_core.proofs.SearchLemmas.{joined-nothing}
use Rattle.server_core.proofs.PlaceLemmas.{next_group}
use Rattle.server_core.proofs.places.next_block.Goals as goal

-- after the last pointer of a group that isn't the last
pub returns-clause-place : goal.returns-clause-place
returns-clause-place g c =
    let f = keyed_fn g.K.Keyed.prf g.K.Keyed.pad in
    let keys = c.args.token.now in
    let held = g.T.Tables.contents c.args.tables.now in
    let group = c.open.new.self in
    let xs = take group.count group.pointers in
    let few = c.in_ok-open.ensures.open.2 in
    let long : length xs ≡ group.count = length-take-le group.count group.pointers (omega (arith, few, c.open.ensures.wide)) in
    let past : length xs ≤ c.args.at = omega (arith, long, c.if-place-group.false) in
    let is = c.in_ok-open.ensures.group in
    let follow = followed (block_at f keys held.array) c.args.number in
    let step = next_group follow xs (pointers_from f keys held c.args.top) (pointers_from f keys held (c.args.top + 1)) c.args.at is.these past in
    let more = is.more search in
    record {
      ids_then =
          ap (λ o. joined o (additions_from f keys held 0)) (step ∙ ap (λ n. option_and_then (λ ps. follow (drop (c.args.at - n) ps)) (pointers_from f keys held (c.args.top + 1))) long)
          ∙ sym (joined-nothing _);
      in_range = (more, omega (arith, c.requires.range.1), omega (arith, c.requires.range.2, c.requires.range.1, past, long));
      nearer = omega (arith, more, c.requires.range.1, past, long);
    }

pub returns-then-group-clause-place : goal.returns-then-group-clause-place
returns-then-group-clause-place g c = grind (arith, common_steps)
