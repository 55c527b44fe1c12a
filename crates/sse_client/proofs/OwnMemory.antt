-- Over an honest link a search is never answered out of memory.
use Rattle.std.proofs.Common.{◌≡◌, ◌≢◌, ◌⊎◌, inl, inr, ℕ, zero, suc, Bool, true, false, List, [], ◌∷◌, ◌++◌, map, take, drop, slice_index, Option, Some, None, Err, Result, refl, sym, ap, ◌∙◌, subst, arith}
use Rattle.std.specs.Prelude.{if◌then◌else◌, IfErr}
use Rattle.std.specs.List.{AllByRecursion}
use Rattle.std.specs.Option.{option_map_or}
use Rattle.std.proofs.lemmas.Bool.{true≢false}
use Rattle.keyed_fn.specs.KeyFormulas.{token_of}
use Rattle.keyed_fn.specs.KeyedFn.{KeyedFn, IsKeyedFn}
use Rattle.list_packing.specs.Parts.{parts}
use Rattle.search_token.specs.TokenKeys.{keys_of_bytes}
use Rattle.sse_frames.specs.Exchange as texts
use Rattle.sse_frames.specs.Exchange.{asked, expected, first_answer, answers_behind, exchange}
use Rattle.sse_frames.specs.Frames.{FrameText, SearchFrame, IsBytes, frame_bytes}
use Rattle.sse_frames.specs.Replies.{ReplyText, Page, BadList, NoMemory, OutOfPlace, reply_bytes}
use Rattle.sse_frames.specs.SentParts.{page_each, pages_of, pages}
use Rattle.server_core.specs.Refusal.{in_place}
use Rattle.server_core.specs.Search.{search_result}
use Rattle.server_core.specs.State.{ServerState}
use Rattle.server_core.specs.Step.{step, taken, answers}
use Rattle.def_link_events.proofs.Honest.{Serves-frame, Answers-either}
use Rattle.def_link_events.specs.declared.mark.Mark.{Mark}
use Rattle.def_link_events.specs.Events.{Event, Sent, Received}
use Rattle.def_link_events.specs.Served.{Served, idle, Serves, Answers, IsServed}
use Rattle.sse_model.proofs.KeyValues.{IsValue-table}
use Rattle.sse_model.specs.Names.{name, Token}
use Rattle.sse_script.specs.Shown.{Cause}
use Rattle.def_script_meaning.specs.Exchange.{Told, IsCut, AreCut, as_event, bare, sent_in}
use Rattle.sse_client.specs.Exchanges.{HasCut, NoneLacks, HasOwnMemory}
use Rattle.script_run_texts.specs.declared.peer_stop.PeerStop.{PeerStop}

-- Replies that don't say that the server lacked memory.

abbrev IsOther : List ℕ → Type 0
IsOther reply = reply ≢ reply_bytes NoMemory

kind_apart : (kind : ℕ) → kind ≡ 0x85 ⊎ kind ≡ 0x86 ⊎ kind ≡ 0x8a → kind ≢ 0x87
kind_apart kind (inl page) same = omega (arith, page, same)
kind_apart kind (inr (inl list)) same = omega (arith, list, same)
kind_apart kind (inr (inr place)) same = omega (arith, place, same)

other : (reply : List ℕ) → slice_index reply 4 ≡ 0x85 ⊎ slice_index reply 4 ≡ 0x86 ⊎ slice_index reply 4 ≡ 0x8a → IsOther reply
other reply kind same = kind_apart (slice_index reply 4) kind (ap (λ r. slice_index r 4) same)

other_each : (ids : List ℕ) (others : List (List ℕ)) → AllByRecursion IsOther (map reply_bytes (page_each ids others))
other_each ids [] = (other (reply_bytes (Page true ids)) (inl refl), tt)
other_each ids (more ∷ others) = (other (reply_bytes (Page false ids)) (inl refl), other_each more others)

other_pages : (list : List (List ℕ)) → AllByRecursion IsOther (map reply_bytes (pages_of list))
other_pages [] = (other (reply_bytes (Page true [])) (inl refl), tt)
other_pages (ids ∷ others) = other_each ids others

other_found : (o : Option (List ℕ)) → AllByRecursion IsOther (map reply_bytes (option_map_or pages o (BadList ∷ [])))
other_found None = (other (reply_bytes BadList) (inr (inl refl)), tt)
other_found (Some ids) = other_pages (parts 8192 ids)

-- the step of a search that is in place or isn't
abbrev stepped : KeyedFn → ServerState → List ℕ → (placed : Bool) → ServerState × List ReplyText
stepped f s token placed = option_map_or (λ reply. (s, reply ∷ [])) (if placed then None else Some OutOfPlace) (taken s (SearchFrame token), answers f s (SearchFrame token))

-- a search's step has such replies alone
other_step : (f : KeyedFn) (s : ServerState) (token : List ℕ) → AllByRecursion IsOther (map reply_bytes (step f s (SearchFrame token)).1)
other_step f s token = by (in_place s (SearchFrame token))
  where
    by : (placed : Bool) → AllByRecursion IsOther (map reply_bytes (stepped f s token placed).1)
    by true = other_found (search_result f s (keys_of_bytes token))
    by false = (other (reply_bytes OutOfPlace) (inr (inr refl)), tt)

other_answered : (f : KeyedFn) (s : ServerState) (token : List ℕ) (mark : Mark) (after : ServerState) (replies : List (List ℕ)) → Answers f s (SearchFrame token) mark after replies → AllByRecursion IsOther replies
other_answered f s token mark after replies answered =
    elim (Answers-either f s (SearchFrame token) mark after replies answered) [
      | inl stepped ↦ subst (AllByRecursion IsOther) (sym stepped.replies_are) (other_step f s token)
      | inr kept ↦ elim kept [ inl lacked ↦ absurd (true≢false (sym lacked.update)) | inr failed ↦ absurd (true≢false (sym failed.update)) ]
    ]

-- so where nothing else is sent, none is received
none_lacks : (f : KeyedFn) (token : List ℕ) → IsBytes 160 token → (start end : Served) (events : List Event) → AllByRecursion IsOther start.due → AllByRecursion (λ bytes. bytes ≡ frame_bytes (SearchFrame token)) (sent_in events) → IsServed f start events end → NoneLacks events
none_lacks f token size start end [] due sends served = tt
none_lacks f token size start end (Sent bytes mark ∷ events) due sends served =
    let now = served.0 in
    let serves = Serves-frame f start.state (SearchFrame token) mark now size (subst (λ b. Serves f start.state b mark now) sends.0 served.1) in
    none_lacks f token size now end events (other_answered f start.state token mark now.state now.due serves) sends.1 served.2
none_lacks f token size start end (Received bytes ∷ events) due sends served =
    let both = subst (AllByRecursion IsOther) served.1 due in
    (both.0, none_lacks f token size (record { state = start.state; due = served.0 }) end events both.1 sends served.2)

-- What a search that was cut short sent.

sent_in-append : (xs ys : List Event) → sent_in (xs ++ ys) ≡ sent_in xs ++ sent_in ys
sent_in-append [] ys = refl
sent_in-append (Sent bytes mark ∷ xs) ys = ap (λ frames. bytes ∷ frames) (sent_in-append xs ys)
sent_in-append (Received bytes ∷ xs) ys = sent_in-append xs ys

sent_in-bare : (events : List Event) → sent_in (map bare events) ≡ sent_in events
sent_in-bare [] = refl
sent_in-bare (Sent bytes mark ∷ events) = ap (λ frames. bytes ∷ frames) (sent_in-bare events)
sent_in-bare (Received bytes ∷ events) = sent_in-bare events

sent_in-received : (replies : List (List ℕ)) → sent_in (map Received replies) ≡ []
sent_in-received [] = refl
sent_in-received (reply ∷ replies) = sent_in-received replies

sent_in-replies : (rs : List ReplyText) (later : List texts.Passed) → sent_in (map as_event (map texts.Received rs ++ later)) ≡ sent_in (map as_event later)
sent_in-replies [] later = refl
sent_in-replies (r ∷ rs) later = sent_in-replies rs later

sent_in-exchange : (answers : List (List ℕ)) (frames : List FrameText) → sent_in (map as_event (exchange answers frames)) ≡ map frame_bytes frames
sent_in-exchange answers [] = refl
sent_in-exchange answers (frame ∷ frames) =
    ap (λ rest. frame_bytes frame ∷ rest) (sent_in-replies (expected (first_answer answers) (asked frame)) _ ∙ sent_in-exchange (answers_behind (asked frame) answers) frames)

module _ (frame : FrameText) where
  abbrev IsThis : List ℕ → Type 0
  IsThis bytes = bytes ≡ frame_bytes frame

  these : (n : ℕ) → AllByRecursion IsThis (map frame_bytes (take n (frame ∷ [])))
  these zero = tt
  these (suc zero) = (refl, tt)
  these (suc (suc n)) = (refl, tt)

  this_cut : (n : ℕ) (cut : List Event) (cause : Cause) → IsCut (drop n (frame ∷ [])) cut cause → AllByRecursion IsThis (sent_in cut)
  this_cut zero [] cause is = tt
  this_cut zero (Sent bytes mark ∷ cut) cause is = (is.0, subst (AllByRecursion IsThis) (sym (ap sent_in is.1.1 ∙ sent_in-received is.1.0)) tt)
  this_cut zero (Received bytes ∷ cut) cause is = absurd is
  this_cut (suc zero) cut cause is = absurd is
  this_cut (suc (suc n)) cut cause is = absurd is

  both : (xs ys : List (List ℕ)) → AllByRecursion IsThis xs → AllByRecursion IsThis ys → AllByRecursion IsThis (xs ++ ys)
  both [] ys first later = later
  both (x ∷ xs) ys first later = (first.0, both xs ys first.1 later)

  this_sent : (events : List Event) (cause : Cause) → AreCut (frame ∷ []) events cause → AllByRecursion IsThis (sent_in events)
  this_sent events cause cut =
      subst (AllByRecursion IsThis) (sym (ap sent_in cut.parts ∙ sent_in-append cut.before cut.cut))
      (both (sent_in cut.before) (sent_in cut.cut)
      (subst (AllByRecursion IsThis) (sym (sent_in-exchange cut.answers (take cut.n (frame ∷ []))) ∙ ap sent_in (sym cut.exchanged.each) ∙ sent_in-bare cut.before) (these cut.n))
      (this_cut cut.n cut.cut cause cut.one_more))

-- a search that was cut short
pub own_cut : (f : KeyedFn) (old new : Told) (token : List ℕ) (cause : Cause) → IsBytes 160 token → HasCut old new (SearchFrame token ∷ []) cause → HasOwnMemory f old new
own_cut f old new token cause size cut = record {
  events = cut.events;
  adds = cut.adds;
  none = λ start end served. none_lacks f token size (idle start) end cut.events tt (this_sent (SearchFrame token) cut.events cause cut.cut) served;
}

-- what holds at an error holds at this one
pub at_error : {T : Type 0} (r : Result T PeerStop) (stop : PeerStop) (P : PeerStop → Type 0) → IfErr r P → r ≡ Err stop → P stop
at_error r stop P holds is = subst (λ x. IfErr x P) is holds

-- a token has 160 bytes
pub token_size : (f : KeyedFn) → IsKeyedFn f → (key word : List ℕ) → IsBytes 160 (token_of f key word)
token_size f laws key word = IsValue-table f laws (record { b = 1; big = 1 }) (λ epoch. key) (name 0 word Token 0)
