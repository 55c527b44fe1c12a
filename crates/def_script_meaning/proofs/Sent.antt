-- The frames that a run sent, with the command in hand, are the first of those of its script, Hello first.
use Rattle.std.proofs.Common.{◌≡◌, ◌⊎◌, ℕ, suc, ◌+◌, inl, inr, List, [], ◌∷◌, ◌++◌, map, take, drop, None, Some, refl, sym, ap, ◌∙◌}
use Rattle.std.specs.Prelude.{Option}
use Rattle.std.proofs.Math.Seq.{take-add}
use Rattle.std.proofs.lemmas.List.{map-append}
use Rattle.client_registry.specs.Histories.{IsFirstOf}
use Rattle.client_registry.specs.Run.{History}
use Rattle.keyed_fn.specs.KeyedFn.{KeyedFn}
use Rattle.sse_frames.specs.Exchange as texts
use Rattle.sse_frames.specs.Exchange.{asked, expected, first_answer, answers_behind, exchange}
use Rattle.sse_frames.specs.Frames.{FrameText, Hello, frame_bytes}
use Rattle.sse_frames.specs.Replies.{ReplyText}
use Rattle.def_link_events.specs.Events.{Event, Sent, Received}
use Rattle.sse_model.proofs.HistoryLaws.{frames_sent-first}
use Rattle.sse_script.specs.Shown.{Cause}
use Rattle.def_script_meaning.specs.Carries.{Outside}
use Rattle.def_script_meaning.specs.Exchange.{Told, Adds, IsCut, as_event, bare, sent_in}
use Rattle.def_script_meaning.specs.Goes.{IsLeft, Passes, GoesFirst}
use Rattle.def_script_meaning.specs.HelloExchange.{IsTurned}
use Rattle.def_script_meaning.specs.Meaning.{Meaning}
use Rattle.def_script_meaning.specs.Runs.{Ended}
use Rattle.def_script_meaning.specs.Session.{frames_with}
use Rattle.def_script_meaning.proofs.GoneAsMeant.{Adds-nothing, Adds-joined, front_more}

pub sent_in-append : (xs ys : List Event) → sent_in (xs ++ ys) ≡ sent_in xs ++ sent_in ys
sent_in-append [] ys = refl
sent_in-append (Sent bytes mark ∷ xs) ys = ap (λ frames. bytes ∷ frames) (sent_in-append xs ys)
sent_in-append (Received bytes ∷ xs) ys = sent_in-append xs ys

pub sent_in-bare : (events : List Event) → sent_in (map bare events) ≡ sent_in events
sent_in-bare [] = refl
sent_in-bare (Sent bytes mark ∷ events) = ap (λ frames. bytes ∷ frames) (sent_in-bare events)
sent_in-bare (Received bytes ∷ events) = sent_in-bare events

sent_in-received : (replies : List (List ℕ)) → sent_in (map Received replies) ≡ []
sent_in-received [] = refl
sent_in-received (reply ∷ replies) = sent_in-received replies

sent_in-replies : (rs : List ReplyText) (later : List texts.Passed) → sent_in (map as_event (map texts.Received rs ++ later)) ≡ sent_in (map as_event later)
sent_in-replies [] later = refl
sent_in-replies (r ∷ rs) later = sent_in-replies rs later

pub sent_in-exchange : (answers : List (List ℕ)) (frames : List FrameText) → sent_in (map as_event (exchange answers frames)) ≡ map frame_bytes frames
sent_in-exchange answers [] = refl
sent_in-exchange answers (frame ∷ frames) =
    ap (λ rest. frame_bytes frame ∷ rest) (sent_in-replies (expected (first_answer answers) (asked frame)) _ ∙ sent_in-exchange (answers_behind (asked frame) answers) frames)

pub sent_in-cut : (left : List FrameText) (cut : List Event) (cause : Cause) → IsCut left cut cause → (k : ℕ) × (sent_in cut ≡ map frame_bytes (take k left))
sent_in-cut [] cut cause is = absurd is
sent_in-cut (frame ∷ left) [] cause is = (0, refl)
sent_in-cut (frame ∷ left) (Sent bytes mark ∷ cut) cause is = (1, λ i. is.0 i ∷ (ap sent_in is.1.1 ∙ sent_in-received is.1.0) i)
sent_in-cut (frame ∷ left) (Received bytes ∷ cut) cause is = absurd is

-- after the greeting
module _ (f : KeyedFn) (frames : List FrameText) (answers : List (List ℕ)) (now : Told) (end : Ended) (p : Passes f frames answers now end) where
  sent_behind : (k : ℕ) × (sent_in p.events ≡ map frame_bytes (take k frames))
  sent_behind = (
    p.n + last.0,
    ap sent_in p.parts
        ∙ sent_in-append p.before p.cut
        ∙ (λ i. (sym (sent_in-bare p.before) ∙ ap sent_in p.exchanged.each ∙ sent_in-exchange answers (take p.n frames)) i ++ last.1 i)
        ∙ sym (map-append frame_bytes (take p.n frames) (take last.0 (drop p.n frames)))
        ∙ ap (map frame_bytes) (sym (take-add p.n last.0 frames)),
  )
    where
      cut : IsLeft f end (drop p.n frames) p.cut → (k : ℕ) × (sent_in p.cut ≡ map frame_bytes (take k (drop p.n frames)))
      cut (inl whole) = (0, ap sent_in whole.1)
      cut (inr (inl stopped)) = sent_in-cut (drop p.n frames) p.cut stopped.0 stopped.2
      cut (inr (inr (inl disk))) = (0, ap sent_in disk.0)
      cut (inr (inr (inr collision))) = (0, ap sent_in collision.0)

      last : (k : ℕ) × (sent_in p.cut ≡ map frame_bytes (take k (drop p.n frames)))
      last = cut p.left

-- Hello, or nothing, was sent of a greeting that was cut
pub sent_in-turned : (low high : ℕ) (events : List Event) (cause : Cause) → IsTurned low high events cause → (k : ℕ) × (sent_in events ≡ map frame_bytes (take k (Hello ∷ [])))
sent_in-turned low high [] cause is = (0, refl)
sent_in-turned low high (Sent bytes mark ∷ []) cause is = (1, ap (λ b. b ∷ []) is.0)
sent_in-turned low high (Sent bytes mark ∷ Received reply ∷ []) cause is = (1, ap (λ b. b ∷ []) is.0)
sent_in-turned low high (Received bytes ∷ events) cause is = absurd is
sent_in-turned low high (Sent bytes mark ∷ Sent more other ∷ events) cause is = absurd is
sent_in-turned low high (Sent bytes mark ∷ Received reply ∷ event ∷ events) cause is = absurd is

-- the frames of a script, Hello first
abbrev pub frames_with_hello : KeyedFn → Option (List ℕ) → History → List FrameText
frames_with_hello f None h = []
frames_with_hello f (Some key) h = Hello ∷ frames_with f (Some key) h

-- what passed, of which the first of these frames were sent
pub record SendsFirst (now end : Told) (frames : List FrameText) : Type 0 where
  pub events : List Event
  pub adds : Adds now end events
  pub count : ℕ
  pub sent : sent_in events ≡ map frame_bytes (take count frames)

module _ (f : KeyedFn) (m : Meaning) (now : Outside) (end : Ended) (g : GoesFirst f m now end) where
  -- of the history up to where it stopped
  pub sent_first : SendsFirst now.told end.outside.told (frames_with_hello f end.key end.history)
  sent_first = elim g.passes [
    | inl u ↦ record { events = []; adds = u.nothing ∙ Adds-nothing now.told; count = 0; sent = refl }
    | inr (inl u) ↦
        let turned = sent_in-turned 0 0 u.away.events u.cause u.away.turned in record {
          events = u.away.events;
          adds = u.away.adds;
          count = (front_more turned.0 (Hello ∷ []) (frames_with f (Some u.key) end.history)).0;
          sent = turned.1 ∙ ap (map frame_bytes) (sym (front_more turned.0 (Hello ∷ []) (frames_with f (Some u.key) end.history)).1
              ∙ ap (λ k. take (front_more turned.0 (Hello ∷ []) (frames_with f (Some u.key) end.history)).0 (frames_with_hello f k end.history)) (sym u.same_key));
        }
    | inr (inr o) ↦
        let p = o.passes in
        let rest = sent_behind f (frames_with f end.key end.history) g.answers o.greeted end p in record {
          events = o.greets.events ++ p.events;
          adds = Adds-joined now.told o.greeted end.outside.told o.greets.events p.events o.greets.adds p.adds;
          count = suc rest.0;
          sent =
              sent_in-append o.greets.events p.events
              ∙ (λ i. (sym (sent_in-bare o.greets.events) ∙ ap sent_in o.greets.each) i ++ rest.1 i)
              ∙ ap (λ k. map frame_bytes (Hello ∷ take rest.0 (frames_with f k end.history))) o.same_key
              ∙ ap (λ k. map frame_bytes (take (suc rest.0) (frames_with_hello f k end.history))) (sym o.same_key);
        }
  ]

  first_of : (key whole_key : Option (List ℕ)) (part whole : History) → (key ≡ None) ⊎ (key ≡ whole_key) → IsFirstOf part whole
      → (more : List FrameText) × (frames_with_hello f whole_key whole ≡ frames_with_hello f key part ++ more)
  first_of key whole_key part whole (inl none) first = (frames_with_hello f whole_key whole, ap (λ k. frames_with_hello f k part ++ frames_with_hello f whole_key whole) (sym none))
  first_of key None part whole (inr same) first = ([], ap (λ k. frames_with_hello f k part ++ []) (sym same))
  first_of key (Some k) part whole (inr same) first =
      let rest = frames_sent-first f k part whole first in
      (rest.0, ap (λ frames. Hello ∷ frames) rest.1 ∙ ap (λ x. frames_with_hello f x part ++ rest.0) (sym same))

  -- Promise P162, also here
  -- and so of the history that the script means
  pub sent_front : SendsFirst now.told end.outside.told (frames_with_hello f m.key m.history)
  sent_front =
      let first = sent_first in
      let more = first_of end.key m.key end.history m.history g.key g.history in
      let front = front_more first.count (frames_with_hello f end.key end.history) more.0 in
      record { events = first.events; adds = first.adds; count = front.0; sent = first.sent ∙ ap (map frame_bytes) (sym (ap (take front.0) more.1 ∙ front.1)) }
