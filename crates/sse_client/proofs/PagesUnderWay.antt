-- How far the reading of a search's pages is.
use Rattle.std.proofs.Common.{◌≡◌, ℕ, ◌+◌, ◌≤◌, true, false, List, [], ◌∷◌, ◌++◌, length, map, sym, ap, subst, ◌∙◌, length-append, arith}
use Rattle.std.specs.List.{AllByRecursion}
use Rattle.std.proofs.lemmas.List.{map-append}
use Rattle.sse_frames.specs.ReadOutcomes.{IsReply}
use Rattle.client_replies.specs.Pages.{IsNextPage}
use Rattle.sse_frames.specs.Frames.{SearchFrame, frame_bytes}
use Rattle.sse_frames.specs.Replies.{Page, IsPage, IsIdentifier, InReplies, reply_bytes}
use Rattle.sse_frames.specs.SentParts.{pages}
use Rattle.def_link_events.specs.Events.{Sent, Received}
use Rattle.def_link_events.specs.declared.mark.Mark.{Mark}
use Rattle.sse_model.proofs.Counts.{AllByRecursion-append}
use Rattle.def_script_meaning.specs.Exchange.{Told, Adds}
use Rattle.sse_client.proofs.PagesRead.{joined, joined-push, full_pages, pages-full}
use Rattle.sse_client.proofs.TranscriptsJoined.{Adds-joined}

-- the replies of these full pages
abbrev pub page_replies : List (List ℕ) → List (List ℕ)
page_replies took = map reply_bytes (full_pages took)

-- this search was sent, and so many full pages received, which hold these identifiers
pub record IsReading (old now : Told) (token items : List ℕ) (count : ℕ) : Type 0 where
  pub mark : Mark
  pub took : List (List ℕ)
  pub adds : Adds old now (Sent (frame_bytes (SearchFrame token)) mark ∷ map Received (page_replies took))
  pub each : AllByRecursion (IsPage false) took
  pub items_are : items ≡ joined took
  pub counted : count ≡ length took

pub page_replies-push : (took : List (List ℕ)) (ids : List ℕ) → page_replies (took ++ ids ∷ []) ≡ page_replies took ++ reply_bytes (Page false ids) ∷ []
page_replies-push took ids =
    ap (map reply_bytes) (map-append (λ x. Page false x) took (ids ∷ [])) ∙ map-append reply_bytes (full_pages took) (Page false ids ∷ [])

-- one more reply
pub adds_reply : (old now new : Told) (token items : List ℕ) (count : ℕ) (reading : IsReading old now token items count) (reply : List ℕ) → Adds now new (Received reply ∷ [])
    → Adds old new (Sent (frame_bytes (SearchFrame token)) reading.mark ∷ map Received (page_replies reading.took ++ reply ∷ []))
adds_reply old now new token items count reading reply one =
    subst (λ events. Adds old new (Sent (frame_bytes (SearchFrame token)) reading.mark ∷ events)) (sym (map-append Received (page_replies reading.took) (reply ∷ [])))
    (Adds-joined old now new (Sent (frame_bytes (SearchFrame token)) reading.mark ∷ map Received (page_replies reading.took)) (Received reply ∷ []) reading.adds one)

-- one more full page
pub IsReading-next : (old now new : Told) (token items items' : List ℕ) (count count' : ℕ) (reply ids : List ℕ) → IsReading old now token items count → Adds now new (Received reply ∷ [])
    → IsNextPage count reply false ids → items' ≡ items ++ ids → count' ≡ count + 1 → IsReading old new token items' count'
IsReading-next old now new token items items' count count' reply ids reading one page more counted = record {
  mark = reading.mark;
  took = reading.took ++ ids ∷ [];
  adds =
      subst (λ replies. Adds old new (Sent (frame_bytes (SearchFrame token)) reading.mark ∷ map Received replies)) (ap (λ x. page_replies reading.took ++ x ∷ []) page.reply.spelled ∙ sym (page_replies-push reading.took ids))
      (adds_reply old now new token items count reading reply one);
  each = AllByRecursion-append (IsPage false) reading.took (ids ∷ []) reading.each (page.reply.grammar, tt);
  items_are = more ∙ ap (λ x. x ++ ids) reading.items_are ∙ sym (joined-push reading.took ids);
  counted = omega (arith, counted, reading.counted, length-append reading.took (ids ∷ []));
}

-- The last page.

pub joined_ids : (took : List (List ℕ)) → AllByRecursion (IsPage false) took → AllByRecursion IsIdentifier (joined took)
joined_ids [] each = tt
joined_ids (ids ∷ took) each = AllByRecursion-append IsIdentifier ids (joined took) each.0.each (joined_ids took each.1)

pub all_received : (took : List (List ℕ)) (reply ids : List ℕ) → AllByRecursion (IsPage false) took → IsReply (Page true ids) reply → (1 ≤ length took → 1 ≤ length ids)
    → page_replies took ++ reply ∷ [] ≡ map reply_bytes (pages (joined took ++ ids))
all_received took reply ids each page some =
    ap (λ x. page_replies took ++ x ∷ []) page.spelled
    ∙ sym (map-append reply_bytes (full_pages took) (Page true ids ∷ []))
    ∙ ap (map reply_bytes) (sym (pages-full took ids each page.grammar.most some))

-- Where it is cut short.

pub full_in_replies : (took : List (List ℕ)) → AllByRecursion (IsPage false) took → AllByRecursion InReplies (full_pages took)
full_in_replies [] each = tt
full_in_replies (ids ∷ took) each = (each.0, full_in_replies took each.1)
