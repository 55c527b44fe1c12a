use Rattle.bool_search.proofs.Rising.{word_chooses}
use Rattle.bool_search.proofs.answering.of_word.Goals as goal

pub returns : goal.returns
returns c = word_chooses _ c.args.number _ _ c.in_ok-ids.ensures.rising c.in_ok-ids.ensures.members c.list_of-list.ensures.list
