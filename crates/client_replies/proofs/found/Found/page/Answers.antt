use Rattle.std.proofs.Common.{◌≡◌, ◌/◌, Bool, true, ℕ, List, [], length, refl, sym, ap, subst, ◌∙◌, arith}
use Rattle.std.specs.Prelude.{is_ok}
use Rattle.std.proofs.lemmas.Bool.{eqb-false, true≢false}
use Rattle.std.proofs.lemmas.List.{length-map}
use Rattle.std.specs.Int.{w64, from_be_bytes}
use Rattle.sse_frames.specs.ReadOutcomes.{IsReply}
use Rattle.sse_frames.specs.Replies.{ReplyText, Page}
use Rattle.sse_frames.specs.FrameViews.{items_in, numbers_in}
use Rattle.sse_frames.specs.Sizes.{AreIds}
use Rattle.sse_frames.proofs.Chunks.{length-items_in}
use Rattle.client_replies.specs.Pages.{IsPageIn}
use Rattle.client_replies.proofs.Replied.{same_reply}
use Rattle.client_replies.proofs.found.Found.page.Goals as goal
use Rattle.client_replies.proofs.found.Found.page.Goals.{then-self-gt0, else-self-gt0}

-- the identifiers of a page
ids_of : ReplyText → List ℕ
ids_of (Page last ids) = ids
ids_of _ = []

-- how many identifiers the bytes of a page have
counted : (last : Bool) (bytes : List ℕ) (sizes : AreIds last bytes) → length (numbers_in bytes) ≡ sizes.count
counted last bytes sizes = length-map (items_in 8 bytes) (from_be_bytes w64) ∙ length-items_in 8 sizes.count bytes (omega arith) sizes.whole

-- a page of these bytes has as many identifiers as an eighth of them
eighth : (reply bytes ids : List ℕ) (first last : Bool) → IsPageIn reply first bytes → IsReply (Page last ids) reply → length bytes / 8 ≡ length ids
unfolding ids_of
eighth reply bytes ids first last found is =
    let same : ids ≡ numbers_in bytes = ap ids_of (same_reply (Page last ids) (Page first (numbers_in bytes)) reply is found.reply) in
    omega (arith, counted first bytes found.sizes, found.sizes.whole, ap length same)

pub returns-in_err-append_ids-clause-taken : goal.returns-in_err-append_ids-clause-taken
returns-in_err-append_ids-clause-taken c =
    λ last ids is room e.
    let size = eighth c.args.reply.now c.in-Some.ids.now ids c.in-Some.last last c.in-Some.ensures.found is in
    let ok : is_ok c.append_ids.result ≡ true = c.append_ids.ensures.succeeds (omega (arith, size, room, ap (λ found. found.room) c.self.view_is)) in
    absurd (true≢false (sym ok ∙ ap is_ok c.in_err-append_ids.was))

pub returns-clause-after : goal.returns-clause-after
returns-clause-after c =
    let bytes = c.in-Some.ids.now in
    let found = c.in-Some.ensures.found in
    let count = counted c.in-Some.last bytes found.sizes in
    rw (← c.self.view_is) (
      numbers_in bytes,
      record {
        reply = subst (λ last. IsReply (Page last (numbers_in bytes)) c.args.reply.now) (sym c.progress_of.ensures) found.reply;
        within = omega (arith, c.if-self-eq-MAX_PAGES.false, c.self.invariant);
        some = λ more.
            elim c.if-self-gt0.branch [
              | then-self-gt0 w ↦
                  let nonempty = eqb-false _ _ (sym w.is_empty.ensures ∙ sym w.value-is ∙ c.if-is_empty.false) in
                  omega (arith, count, found.sizes.whole, nonempty)
              | else-self-gt0 w ↦ absurd (omega (arith, more, w.if-self-gt0.false))
            ];
      },
      c.in_ok-append_ids.ensures.ok,
      refl,
    )
