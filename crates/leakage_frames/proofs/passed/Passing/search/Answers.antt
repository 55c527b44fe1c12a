use Rattle.std.proofs.Common.{◌∷◌, ◌++◌, [], List, ℕ, length, map, sym, ap, ◌∙◌, append_assoc}
use Rattle.std.proofs.lemmas.Result.{on_ok_weaker}
use Rattle.sse_frames.specs.Frames.{be32}
use Rattle.sse_frames.specs.Replies.{reply_bytes}
use Rattle.sse_frames.specs.SentParts as sending
use Rattle.leakage_frames.proofs.PageLaws.{bytes_of-search}
use Rattle.leakage_frames.proofs.passed.Passing.search.Goals as goal

pub returns-clause-texts : goal.returns-clause-texts
returns-clause-texts c =
    let old : List (List ℕ) = c.args.self.now.texts in
    let replies : List (List ℕ) = map reply_bytes (sending.pages c.args.found.now) in
    on_ok_weaker c.pages.result
    (λ same.
    same
    ∙ ap (λ texts. texts ++ replies) c.in_ok-pass.ensures.texts
    ∙ append_assoc old ((be32 (length c.as_slice.result.now) ++ c.as_slice.result.now) ∷ []) replies
    ∙ ap (λ (body : List ℕ). old ++ (be32 (length body) ++ body) ∷ replies) (c.as_slice.ensures ∙ c.in_ok-body.ensures)
    ∙ ap (λ texts. old ++ texts) (sym (bytes_of-search c.args.token.now c.args.found.now)))
    c.pages.ensures.texts
