use Rattle.bool_search.proofs.Rising.{chooses_by}
use Rattle.bool_search.proofs.answering.both.Goals as goal

pub returns : goal.returns
returns c s t lists a b = chooses_by c.args.join s t lists c.args.left.now c.args.right.now c.in_ok-ids.ids.items a b c.in_ok-ids.ensures.rising c.in_ok-ids.ensures.members
