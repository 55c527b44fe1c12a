use Rattle.std.proofs.Common.{map}
use Rattle.bool_search.specs.Grammar.{tree_of}
use Rattle.bool_search.proofs.Rising.{chosen_is}
use Rattle.bool_search.proofs.answering.answer.Goals as goal

pub returns : goal.returns
returns c = chosen_is (tree_of c.args.query.now) (map (λ list. list.items) c.args.lists.now) c.in_ok-ids.ids.items c.in_ok-ids.ensures
