use Rattle.std.proofs.Common.{◌≡◌, ◌≢◌, ℕ, ◌+◌, ◌<◌, ◌≤◌, ◌==◌, List, [], ◌∷◌, ◌++◌, length, map, drop, get_or, sym, ap, ◌∙◌, arith, append_assoc}
use Rattle.std.proofs.lemmas.Bool.{eqb-false}
use Rattle.std.proofs.lemmas.Grind.{div_ceil_times}
use Rattle.std.proofs.lemmas.List.{append-nil, at_drop_all, drop_more}
use Rattle.list_packing.proofs.PartsLemmas.{length-parts}
use Rattle.list_packing.specs.Parts.{parts}
use Rattle.sse_frames.specs.Replies.{ReplyText, Page, reply_bytes}
use Rattle.leakage_frames.proofs.PageLaws.{paged, is_none, paged-cons, paged-pages, is_none-drop}
use Rattle.leakage_frames.proofs.passed.Passing.pages.Goals as goal

pub loop-i-preserved : goal.loop-i-preserved
loop-i-preserved c =
    let i = c.loop-i.i in
    let ps : List (List ℕ) = parts 8192 c.args.ids.now in
    let all = length-parts 8192 c.args.ids.now in
    let within : i < length ps = omega (arith, c.loop-i-test.true, c.div_ceil-count.ensures, all) in
    let left : List (List ℕ) = drop (i + 1) ps in
    let texts : List (List ℕ) = c.loop-i.self.texts in
    let last : (i + 1 == c.div_ceil-count.result) ≡ is_none left = is_none-drop ps (i + 1) c.div_ceil-count.result (omega (arith, within)) (c.div_ceil-count.ensures ∙ sym all) in
    record {
      texts =
          ap (λ (ts : List (List ℕ)). ts ++ map reply_bytes (paged left)) c.in_ok-page.ensures.texts
          ∙ append_assoc texts (reply_bytes (Page (i + 1 == c.div_ceil-count.result) c.part.result.now) ∷ []) (map reply_bytes (paged left))
          ∙ (λ j. texts ++ reply_bytes (Page (last j) (c.part.ensures j)) ∷ map reply_bytes (paged left))
          ∙ ap (λ (replies : List ReplyText). texts ++ map reply_bytes replies) (sym (paged-cons (get_or ps i []) left))
          ∙ ap (λ (later : List (List ℕ)). texts ++ map reply_bytes (paged later)) (sym (drop_more ps i [] within))
          ∙ c.loop-i.invariant.texts;
      next = c.in_ok-page.ensures.next ∙ c.loop-i.invariant.next;
    }

pub returns-clause-texts : goal.returns-clause-texts
returns-clause-texts c =
    let ids = c.args.ids.now in
    let ps : List (List ℕ) = parts 8192 ids in
    let all = length-parts 8192 ids in
    let texts : List (List ℕ) = c.loop-i.self.texts in
    let end : length ps ≤ c.loop-i.i = omega (arith, c.loop-i-test.false, c.div_ceil-count.ensures, all) in
    let some : length ids ≢ 0 = eqb-false (length ids) 0 (sym c.is_empty.ensures ∙ c.if-is_empty.false) in
    let one : 0 < length ps = omega (arith, some, all, (div_ceil_times (length ids) 8192 (omega arith)).0) in
    sym (append-nil texts)
    ∙ sym (at_drop_all (λ left. texts ++ map reply_bytes (paged left)) ps c.loop-i.i end)
    ∙ c.loop-i.invariant.texts
    ∙ ap (λ (replies : List ReplyText). c.args.self.now.texts ++ map reply_bytes replies) (sym (paged-pages ps one))
