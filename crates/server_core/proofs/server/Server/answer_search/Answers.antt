use Rattle.std.proofs.Common.{[], ◌∷◌, Err, sym, ap, ◌∙◌, arith}
use Rattle.std.specs.Option.{option_map_or}
use Rattle.std.proofs.lemmas.List.{take_all}
use Rattle.sse_frames.specs.Replies.{BadList}
use Rattle.keyed_fn.specs.KeyedFn.{keyed_fn}
use Rattle.search_token.specs.TokenKeys.{keys_of_bytes}
use Rattle.sse_frames.specs.SentParts.{pages}
use Rattle.server_core.specs.Search.{search_result}
use Rattle.server_core.proofs.server.Server.answer_search.Goals as goal

-- the token's bytes are all of the field
pub returns-in-Ok-clause-ready : goal.returns-in-Ok-clause-ready
returns-in-Ok-clause-ready g c ready =
    let f = keyed_fn g.K.Keyed.prf g.K.Keyed.pad in
    let whole = take_all 160 c.args.token.now (omega arith) in
    let keys = c.from_bytes.ensures ∙ ap keys_of_bytes (c.in-Some.ensures.cases.0 ∙ whole) in
    sym (ap (λ r. option_map_or pages r (BadList ∷ [])) (ap (search_result f c.args.self.now.state) (sym keys) ∙ c.in-Ok.ensures.first))

pub returns-in-Err-BadList-clause-ready : goal.returns-in-Err-BadList-clause-ready
returns-in-Err-BadList-clause-ready g c ready =
    let f = keyed_fn g.K.Keyed.prf g.K.Keyed.pad in
    let whole = take_all 160 c.args.token.now (omega arith) in
    let keys = c.from_bytes.ensures ∙ ap keys_of_bytes (c.in-Some.ensures.cases.0 ∙ whole) in
    sym (ap (λ r. option_map_or pages r (BadList ∷ [])) (ap (search_result f c.args.self.now.state) (sym keys) ∙ c.walk.ensures.bad_list (c.in-Err-BadList.is ∙ ap (λ e. Err e) c.in-Err-BadList.field-0-is)))
