-- A search whose pages came, all of them or not.
use Rattle.std.proofs.Common.{◌≡◌, ℕ, ◌+◌, ◌≤◌, ◌^◌, Bool, true, false, List, [], ◌∷◌, ◌++◌, length, map, refl, sym, ap, subst, ◌∙◌, append_assoc, length-append, arith, ◌⊎◌, inl, inr}
use Rattle.std.specs.Prelude.{All}
use Rattle.std.specs.List.{AllByRecursion}
use Rattle.std.proofs.lemmas.List.{append-nil, map-append, length-map}
use Rattle.std.proofs.lemmas.List.Elements.{All-from_recursion, recursion_from_All, All-nil, All-cons}
use Rattle.client_replies.specs.Pages.{IsNextPage, IsNoPage, IsRefused}
use Rattle.client_replies.specs.declared.reply_fault.ReplyFault.{ReplyFault}
use Rattle.client_replies.specs.declared.reply_fault.ReplyFault.TheVariants as faults
use Rattle.client_registry.specs.Live.{in_order}
use Rattle.sse_frames.specs.Exchange as texts
use Rattle.sse_frames.specs.Exchange.{ForAnswer}
use Rattle.sse_frames.specs.Frames.{SearchFrame, frame_bytes}
use Rattle.sse_frames.specs.Replies.{ReplyText, Page, IsPage, IsIdentifier, InReplies, reply_bytes}
use Rattle.sse_frames.specs.SentParts.{pages}
use Rattle.sse_frames.proofs.AnswerPages.{replies_back}
use Rattle.sse_frames.proofs.Replied.{InReplies-pages}
use Rattle.def_link_events.specs.Events.{Sent, Received}
use Rattle.def_link_events.specs.declared.mark.Mark.TheVariants.{Unknown}
use Rattle.sse_model.proofs.Counts.{AllByRecursion-append}
use Rattle.sse_script.specs.Shown as cause
use Rattle.sse_script.specs.Shown.{Cause}
use Rattle.def_script_meaning.specs.Exchange.{Told, Adds, IsAllowed, IsAwaiting, ShowsInReplies, as_event}
use Rattle.sse_client.specs.Exchanges.{HasSearched, HasCut}
use Rattle.sse_client.specs.Stops.{cause_of_fault}
use Rattle.def_script_meaning.proofs.Honest.{bare_received, events_received}
use Rattle.sse_client.proofs.PagesRead.{joined, full_pages, pages-full, page-pages, at_place}
use Rattle.sse_client.proofs.PartOfExchange.{AreCut-first, no_notice-answer, shows_fault}
use Rattle.sse_client.proofs.PagesUnderWay.{IsReading, page_replies, page_replies-push, adds_reply, joined_ids, all_received, full_in_replies}

-- Where it is cut short.

-- full pages are the first of an answer of one identifier more
one_more : (took : List (List ℕ)) → AllByRecursion (IsPage false) took → length took ≤ 2 ^ 20 → IsAwaiting ForAnswer (page_replies took)
one_more took each few =
    let ids : List ℕ = joined took ++ 1 ∷ [] in
    record {
      allowed = record {
        ids = ids;
        each = All-from_recursion IsIdentifier ids (AllByRecursion-append IsIdentifier (joined took) (1 ∷ []) (joined_ids took each) (omega arith, tt));
        few = omega (arith, few, length-map (full_pages took) reply_bytes, length-map took (λ x. Page false x));
        rest = reply_bytes (Page true (1 ∷ [])) ∷ [];
        first = sym (map-append reply_bytes (full_pages took) (Page true (1 ∷ []) ∷ [])) ∙ ap (map reply_bytes) (sym (pages-full took (1 ∷ []) each (omega arith) (λ before. omega arith)));
      };
      more = λ e. absurd (cc);
    }

-- no further reply came
pub HasCut-reading : (old now new : Told) (token items : List ℕ) (count : ℕ) (c : Cause) → IsReading old now token items count → count ≤ 2 ^ 20 → new ≡ now
    → (c ≡ cause.LinkFault) ⊎ (c ≡ cause.NoMemory) → HasCut old new (SearchFrame token ∷ []) c
HasCut-reading old now new token items count c reading few same outside = record {
  events = Sent (frame_bytes (SearchFrame token)) reading.mark ∷ map Received (page_replies reading.took);
  adds = same ∙ reading.adds;
  cut = AreCut-first (SearchFrame token) [] _ c (refl, (page_replies reading.took, refl, by outside));
}
  where
    awaiting : IsAwaiting ForAnswer (page_replies reading.took)
    awaiting = one_more reading.took reading.each (omega (arith, few, reading.counted))

    by : (c ≡ cause.LinkFault) ⊎ (c ≡ cause.NoMemory) → ShowsInReplies ForAnswer (page_replies reading.took) c
    by (inl e) = subst (ShowsInReplies ForAnswer (page_replies reading.took)) (sym e) (inl awaiting)
    by (inr e) = subst (ShowsInReplies ForAnswer (page_replies reading.took)) (sym e) (inl awaiting.allowed)

-- a reply that is no page that may follow isn't one of an answer
not_allowed : (took : List (List ℕ)) (reply : List ℕ) → AllByRecursion (IsPage false) took → ((last : Bool) (ids : List ℕ) → IsNextPage (length took) reply last ids → ⊥)
    → IsAllowed ForAnswer (page_replies took ++ reply ∷ []) → ⊥
not_allowed took reply each none allowed =
    let in_pages = InReplies-pages allowed.ids (recursion_from_All IsIdentifier allowed.ids allowed.each) in
    let apart : page_replies took ++ (reply ∷ allowed.rest) ≡ map reply_bytes (pages allowed.ids) = sym (append_assoc (page_replies took) (reply ∷ []) allowed.rest) ∙ allowed.first in
    let read = replies_back (full_pages took) (pages allowed.ids) (reply ∷ allowed.rest) (full_in_replies took each) in_pages apart in
    among allowed.ids allowed.rest read.0 in_pages (omega (arith, allowed.few, length-append (page_replies took) (reply ∷ []), length-map (full_pages took) reply_bytes, length-map took (λ x. Page false x))) read.1 read.2
  where
    among : (ids : List ℕ) (rest : List (List ℕ)) (more : List ReplyText) → AllByRecursion InReplies (pages ids) → length took + 1 ≤ 2 ^ 20 → full_pages took ++ more ≡ pages ids → reply ∷ rest ≡ map reply_bytes more → ⊥
    among ids rest [] in_pages few e spelled = absurd (cc)
    among ids rest (r ∷ more) in_pages few e spelled =
        let long : length (full_pages took) ≡ length took = length-map took (λ x. Page false x) in
        let page = page-pages ids (full_pages took) r more e in
        let same : reply ≡ reply_bytes r = cc in
        none page.0 page.1
        (record {
          reply = record {
            grammar = subst InReplies page.2 (at_place InReplies (full_pages took) r more (subst (AllByRecursion InReplies) (sym e) in_pages));
            spelled = same ∙ ap reply_bytes page.2;
          };
          within = omega (arith, few);
          some = λ before. page.3 (omega (arith, before, long));
        })

-- a page that may follow is one of an answer
page_allowed : (took : List (List ℕ)) (reply : List ℕ) (last : Bool) (ids : List ℕ) → AllByRecursion (IsPage false) took → IsNextPage (length took) reply last ids → IsAllowed ForAnswer (page_replies took ++ reply ∷ [])
page_allowed took reply true ids each page =
    let answer : List ℕ = joined took ++ ids in
    record {
      ids = answer;
      each = All-from_recursion IsIdentifier answer (AllByRecursion-append IsIdentifier (joined took) ids (joined_ids took each) page.reply.grammar.each);
      few = omega (arith, page.within, length-append (page_replies took) (reply ∷ []), length-map (full_pages took) reply_bytes, length-map took (λ x. Page false x));
      rest = [];
      first = append-nil (page_replies took ++ reply ∷ []) ∙ all_received took reply ids each page.reply page.some;
    }
page_allowed took reply false ids each page =
    subst (IsAllowed ForAnswer) (page_replies-push took ids ∙ ap (λ x. page_replies took ++ x ∷ []) (sym page.reply.spelled))
    (one_more (took ++ ids ∷ []) (AllByRecursion-append (IsPage false) took (ids ∷ []) each (page.reply.grammar, tt)) (omega (arith, page.within, length-append took (ids ∷ [])))).allowed

module _ (took : List (List ℕ)) (count : ℕ) (reply : List ℕ) (each : AllByRecursion (IsPage false) took) (few : count ≤ 2 ^ 20) (counted : count ≡ length took) where
  shows_no_page : (fault : ReplyFault) → IsNoPage count reply fault → ShowsInReplies ForAnswer (page_replies took ++ reply ∷ []) (cause_of_fault fault reply)
  shows_no_page fault refused =
      shows_fault ForAnswer (page_replies took) reply fault (one_more took each (omega (arith, few, counted)))
      (not_allowed took reply each (subst (λ n. (last : Bool) (ids : List ℕ) → IsNextPage n reply last ids → ⊥) counted refused.none))
      (λ r below notice tells e. no_notice-answer r notice tells) refused.fault_is

  shows_refused : (fault : ReplyFault) → IsRefused count reply fault → ShowsInReplies ForAnswer (page_replies took ++ reply ∷ []) (cause_of_fault fault reply)
  shows_refused (faults.Clash what place) refused = shows_no_page (faults.Clash what place) refused
  shows_refused faults.NoMemory refused = shows_no_page faults.NoMemory refused
  shows_refused faults.StoreFault refused = shows_no_page faults.StoreFault refused
  shows_refused faults.BadReply refused = shows_no_page faults.BadReply refused
  shows_refused faults.OutOfMemory refused = inl (page_allowed took reply refused.0 refused.1 each (subst (λ n. IsNextPage n reply refused.0 refused.1) counted refused.2))

-- a reply that is no page that may follow, or for which there is no memory, cuts the search short
pub HasCut-refused : (old now new : Told) (token items : List ℕ) (count : ℕ) (reply : List ℕ) (fault : ReplyFault) → IsReading old now token items count → count ≤ 2 ^ 20
    → Adds now new (Received reply ∷ []) → IsRefused count reply fault → HasCut old new (SearchFrame token ∷ []) (cause_of_fault fault reply)
HasCut-refused old now new token items count reply fault reading few one refused = record {
  events = Sent (frame_bytes (SearchFrame token)) reading.mark ∷ map Received (page_replies reading.took ++ reply ∷ []);
  adds = adds_reply old now new token items count reading reply one;
  cut =
      AreCut-first (SearchFrame token) [] _ (cause_of_fault fault reply)
      (refl, (page_replies reading.took ++ reply ∷ [], refl, shows_refused reading.took count reply reading.each few reading.counted fault refused));
}

-- the last page ends the search
pub HasSearched-last : (old now new : Told) (token items items' found : List ℕ) (count : ℕ) (reply ids : List ℕ) → IsReading old now token items count
    → Adds now new (Received reply ∷ []) → IsNextPage count reply true ids → items' ≡ items ++ ids → found ≡ in_order items' → HasSearched old new (SearchFrame token) found
HasSearched-last old now new token items items' found count reply ids reading one page more rising =
    let answer : List ℕ = joined reading.took ++ ids in
    let replies : List (List ℕ) = page_replies reading.took ++ reply ∷ [] in
    let some : 1 ≤ length reading.took → 1 ≤ length ids = λ before. page.some (omega (arith, before, reading.counted)) in
    record {
      answer = answer;
      exchanged = record {
        events = Sent (frame_bytes (SearchFrame token)) reading.mark ∷ map Received replies;
        adds = adds_reply old now new token items count reading reply one;
        exchanged = record {
          ids =
              All-cons (All IsIdentifier) answer []
              (All-from_recursion IsIdentifier answer (AllByRecursion-append IsIdentifier (joined reading.took) ids (joined_ids reading.took reading.each) page.reply.grammar.each))
              (All-nil _);
          count = refl;
          each =
              ap (λ x. Sent (frame_bytes (SearchFrame token)) Unknown ∷ x) (bare_received replies ∙ ap (map Received) (all_received reading.took reply ids reading.each page.reply some) ∙ sym (events_received (pages answer)) ∙ ap (map as_event) (sym (append-nil (map texts.Received (pages answer)))));
        };
      };
      rising = rising ∙ ap in_order (more ∙ ap (λ x. x ++ ids) reading.items_are);
      out_of_memory = record {
        events = Sent (frame_bytes (SearchFrame token)) reading.mark ∷ map Received replies;
        adds = adds_reply old now new token items count reading reply one;
        cut = AreCut-first (SearchFrame token) [] _ cause.NoMemory (refl, (replies, refl, inl (page_allowed reading.took reply true ids reading.each (subst (λ n. IsNextPage n reply true ids) reading.counted page))));
      };
    }
