use Rattle.sse_owners.proofs.RisingLaws.{contained, searched_ok, searched_err}
use Rattle.sse_owners.proofs.rising.place_of.Goals as goal

pub returns-in-Ok-clause-found : goal.returns-in-Ok-clause-found
returns-in-Ok-clause-found c = searched_ok c.args.numbers.now c.args.owner c.in-Ok.place c.binary_search.result c.requires c.binary_search.ensures.position c.in-Ok.is

pub returns-in-Ok-clause-known : goal.returns-in-Ok-clause-known
returns-in-Ok-clause-known c =
    let found = searched_ok c.args.numbers.now c.args.owner c.in-Ok.place c.binary_search.result c.requires c.binary_search.ensures.position c.in-Ok.is in
    contained c.args.numbers.now c.args.owner c.in-Ok.place found.0 found.1

pub returns-in-Err-clause-none : goal.returns-in-Err-clause-none
returns-in-Err-clause-none c = searched_err c.args.numbers.now c.args.owner _ c.binary_search.result c.requires c.binary_search.ensures.position c.in-Err.is
