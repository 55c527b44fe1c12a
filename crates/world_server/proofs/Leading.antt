-- The events of a server lead from one world to the next, by the model's rules.
use Rattle.std.proofs.Common.{◌≡◌, ℕ, zero, suc, ◌+◌, ◌==◌, Bool, true, false, List, [], ◌∷◌, length, slice_get, inl, inr, refl, sym, ap, ◌∙◌, subst}
use Rattle.std.specs.Prelude.{Option, Some, None, is_some, IfSome, IsSome, ◌<◌, unwrap_or, if◌then◌else◌, Result}
use Rattle.std.specs.Option.{option_map_or}
use Rattle.keyed_fn.specs.KeyedFn.{KeyedFn}
use Rattle.sse_frames.specs.Frames.{FrameText, InGrammar, update_number}
use Rattle.sse_frames.specs.Replies.{ReplyText}
use Rattle.sse_frames.specs.Replies as replies
use Rattle.server_core.specs.State.{at_first}
use Rattle.server_core.specs.Step.{step}
use Rattle.sse_server.specs.Taken.{IsTaken, AreTaken, taken_all}
use Rattle.world_disks.specs.declared.started.Unstarted.{Unstarted}
use Rattle.world_model.specs.Rules.{Rules}
use Rattle.world_model.specs.World.{Message, Hello, Update, Search, Reply, Next, Took, Shown, Refused, World}
use Rattle.world_model.specs.Events as model
use Rattle.world_model.specs.Events.{Deliver, StartServer, StopServer, End, Made, Crashes, Lacks, Breaks, Leads, happens, delivered, handled, kept, calls_disk, takes_message, EndsAs, EndsCalling, CanEnd, waiting_with, stop_behind, stop_before}
use Rattle.world_server.proofs.Handling.{refused_replies}
use Rattle.world_server.proofs.Refusals.{refusal_is, untaken_refused, expected_first, of_search}
use Rattle.world_server.proofs.Sides.{later_none}
use Rattle.world_server.specs.Replies.{replies_in}
use Rattle.world_server.specs.Sides.{ServerPart, Delivers, Takes, Stays, Starts, IsAnsweredBy, IsUntaken, IsEndOf, taking, starting, stopping}
use Rattle.world_server.specs.Waiting.{frame_of, IsOfKind, IsKept, IsOfSearch, AreServerRules, Waits, outcome_of, outcome_of_start, server_part, with_server}
use Rattle.world_server.specs.declared.replies.Replies.{Replies}
use Rattle.world_server.specs.declared.server_side.Delivered.{Delivered}
use Rattle.world_server.specs.declared.server_side.Delivered.TheVariants.{Nothing, Replied, NoMemory}

module _ {C W : Type 0} (f : KeyedFn) (rules : Rules C FrameText W (List ReplyText)) (laws : AreServerRules f rules) where
  abbrev StoreWorld : Type 0
  StoreWorld = World C FrameText W (List ReplyText)

  -- a frame came to the server at this place, and the world is this one then
  abbrev pub Leaves : StoreWorld → (place : ℕ) → Delivered → ServerPart → Type 0
  Leaves w place d new = (waiting : Option (Reply (List ReplyText))) × Waits f rules w place d waiting × Leads rules w (Deliver place) (outcome_of d) (with_server w new waiting)

  abbrev outcome_by : Option StoreWorld → model.Outcome
  outcome_by o = if is_some o then model.Happened else model.Nothing

  -- Nothing comes to a server that doesn't run.

  pub leaves_nothing : (w : StoreWorld) (place : ℕ) → w.server ≡ None → Leaves w place Nothing (server_part w)
  leaves_nothing w place none =
      let same : happens rules w (Deliver place) 0 (Made false) ≡ None =
      ap (λ s. delivered rules (record w { server_stop = stop_behind 0 (Made false) w.server_stop }) place s (slice_get w.sent place) (Made false)) none in
      let quiet : calls_disk rules w (Deliver place) ≡ false =
      ap (λ s. option_map_or (λ taken. option_map_or (takes_message rules taken) (slice_get w.sent place) false) s false) none in (
        w.waiting,
        refl,
        record {
          calls = 0;
          end = Made false;
          possible = subst (λ b. EndsAs rules b false 0 (Made false) w.server_stop) (sym quiet) (refl, tt);
          comes_to = sym (ap outcome_by same);
          is = sym (ap (λ o. unwrap_or o w) same);
        },
      )

  -- A message comes to a server that runs.

  module _ (w : StoreWorld) (place : ℕ) (taken : List FrameText) (message : Message FrameText) (server : w.server ≡ Some taken) (sent : slice_get w.sent place ≡ Some message) where
    came : (calls : ℕ) (end : End) → happens rules w (Deliver place) calls end ≡ Some (handled rules (record w { server_stop = stop_behind calls end w.server_stop }) place taken message end)
    came calls end = λ i. delivered rules (record w { server_stop = stop_behind calls end w.server_stop }) place (server i) (sent i) end

    calling : calls_disk rules w (Deliver place) ≡ takes_message rules taken message
    calling = λ i. option_map_or (λ frames. option_map_or (takes_message rules frames) (sent i) false) (server i) false

    -- it takes the frame

    module _ (frame : FrameText) (is_message : message ≡ Update frame) (takes : rules.takes taken frame ≡ true) where
      calling_true : calls_disk rules w (Deliver place) ≡ true
      calling_true = calling ∙ ap (takes_message rules taken) is_message ∙ takes

      came_kept : (calls : ℕ) (end : End) → happens rules w (Deliver place) calls end ≡ Some (kept rules (record w { server_stop = stop_behind calls end w.server_stop }) place taken frame end)
      came_kept calls end =
          let old : StoreWorld = record w { server_stop = stop_behind calls end w.server_stop } in
          came calls end ∙ ap (λ m. Some (handled rules old place taken m end)) is_message
          ∙ ap (λ b. Some (if b then kept rules old place taken frame end else model.replied rules old place Refused)) takes

      can_end : (calls : ℕ) (end : End) → EndsCalling calls end w.server_stop → CanEnd rules w (Deliver place) calls end
      can_end calls end ends = subst (λ b. EndsAs rules b false calls end w.server_stop) (sym calling_true) ends

      taken_by : (calls : ℕ) (end : End) (d : Delivered) → IsAnsweredBy end frame d → EndsCalling calls end w.server_stop → Leaves w place d (taking (server_part w) taken frame calls end)
      taken_by calls (Made there) d answered ends =
          let reply = Took (rules.number frame) in
          let waiting = waiting_with rules reply (place + 1 == length w.sent) w.client w.waiting in
          let is_kept : IsKept reply answered.0 = answered.4 ∙ ap (λ n. replies.Took n ∷ []) (sym (laws.number frame answered.1 answered.3)) in
          subst (λ x. Leaves w place x (taking (server_part w) taken frame calls (Made there))) (sym answered.2) (
            waiting,
            (reply, is_kept, refl),
            record {
              calls = calls;
              end = Made there;
              possible = can_end calls (Made there) ends;
              comes_to = sym (ap outcome_by (came_kept calls (Made there)));
              is = sym (ap (λ o. unwrap_or o w) (came_kept calls (Made there)));
            },
          )
      taken_by calls (Crashes there) d answered ends =
          subst (λ x. Leaves w place x (taking (server_part w) taken frame calls (Crashes there))) (sym answered) (
            w.waiting,
            refl,
            record {
              calls = calls;
              end = Crashes there;
              possible = can_end calls (Crashes there) ends;
              comes_to = sym (ap outcome_by (came_kept calls (Crashes there)));
              is = sym (ap (λ o. unwrap_or o w) (came_kept calls (Crashes there)));
            },
          )
      taken_by calls Lacks d answered ends =
          subst (λ x. Leaves w place x (server_part w)) (sym answered) (w.waiting, refl, record { calls = calls; end = Lacks; possible = can_end calls Lacks ends; comes_to = refl; is = refl })
      taken_by calls Breaks d answered ends =
          subst (λ x. Leaves w place x (taking (server_part w) taken frame calls Breaks)) (sym answered) (
            w.waiting,
            refl,
            record {
              calls = calls;
              end = Breaks;
              possible = can_end calls Breaks ends;
              comes_to = refl;
              is = sym (ap (λ o. unwrap_or o w) (came_kept calls Breaks));
            },
          )

    -- it takes none

    module _ (untaken : takes_message rules taken message ≡ false) where
      quiet : (end : End) → EndsAs rules false false 0 end w.server_stop → CanEnd rules w (Deliver place) 0 end
      quiet end ends = subst (λ b. EndsAs rules b false 0 end w.server_stop) (sym (calling ∙ untaken)) ends

      stays_lacking : Leaves w place NoMemory (server_part w)
      stays_lacking = (w.waiting, refl, record { calls = 0; end = Lacks; possible = quiet Lacks (refl, tt); comes_to = refl; is = refl })

      -- and replies this
      stays_replied : (reply : Reply (List ReplyText)) (all : Replies) → IsKept reply all → IfSome w.server_stop (λ s. 0 < s.call)
          → ((old : StoreWorld) → handled rules old place taken message (Made true) ≡ model.replied rules old place reply) → Leaves w place (Replied all) (server_part w)
      stays_replied reply all is_kept to_come is =
          let old : StoreWorld = record w { server_stop = stop_behind 0 (Made true) w.server_stop } in
          let same : happens rules w (Deliver place) 0 (Made true) ≡ Some (model.replied rules w place reply) =
          came 0 (Made true) ∙ ap (λ o. Some o) (is old) ∙ ap (λ s. Some (model.replied rules (record w { server_stop = s }) place reply)) (later_none w.server_stop to_come) in (
            waiting_with rules reply (place + 1 == length w.sent) w.client w.waiting,
            (reply, is_kept, refl),
            record {
              calls = 0;
              end = Made true;
              possible = quiet (Made true) (refl, tt);
              comes_to = sym (ap outcome_by same);
              is = sym (ap (λ o. unwrap_or o w) same);
            },
          )

  -- A message that isn't taken, by its kind.

  untaken_kind : (taken : List FrameText) (message : Message FrameText) → InGrammar (frame_of message) → (IsTaken (taken_all at_first taken) (frame_of message) → ⊥) → takes_message rules taken message ≡ false
  untaken_kind taken Hello grammar not = refl
  untaken_kind taken (Update frame) grammar not = laws.refuses taken frame grammar not
  untaken_kind taken (Search frame) grammar not = refl

  replied_to : (w : StoreWorld) (place : ℕ) (taken : List FrameText) (message : Message FrameText) → w.server ≡ Some taken → slice_get w.sent place ≡ Some message → AreTaken at_first taken
      → IfSome w.server_stop (λ s. 0 < s.call) → IsOfKind message → InGrammar (frame_of message) → (IsTaken (taken_all at_first taken) (frame_of message) → ⊥)
      → (all : Replies) → replies_in all ≡ (step f (taken_all at_first taken) (frame_of message)).1 → Leaves w place (Replied all) (server_part w)
  replied_to w place taken Hello server sent are comes kind grammar not all replied =
      stays_replied w place taken Hello server sent refl (Next (length taken)) all (replied ∙ ap (λ n. replies.Next n ∷ []) (expected_first taken are)) comes (λ old. refl)
  replied_to w place taken (Update frame) server sent are comes kind grammar not all replied =
      let refused = untaken_refused (taken_all at_first taken) frame kind grammar not in
      let takes = laws.refuses taken frame grammar not in
      stays_replied w place taken (Update frame) server sent takes Refused all
      (refused.0, replied ∙ sym (refused_replies f (taken_all at_first taken) frame refused.0 refused.1), refusal_is (taken_all at_first taken) frame refused.0 refused.1) comes
      (λ old. ap (λ b. if b then model.kept rules old place taken frame (Made true) else model.replied rules old place Refused) takes)
  replied_to w place taken (Search frame) server sent are comes kind grammar not all replied =
      let answer = laws.answer taken frame in
      let of = subst (λ x. IsOfSearch (step f (taken_all at_first taken) x).1) (sym kind.1) (of_search f (taken_all at_first taken) kind.0) in
      stays_replied w place taken (Search frame) server sent refl (Shown (rules.answer taken frame)) all (replied ∙ sym answer, subst IsOfSearch (sym answer) of) comes (λ old. refl)

  took_message : (w : StoreWorld) (place : ℕ) (taken : List FrameText) (message : Message FrameText) (d : Delivered) (new : ServerPart) → w.server ≡ Some taken → slice_get w.sent place ≡ Some message
      → IsOfKind message → Takes (server_part w) taken (frame_of message) d new → Leaves w place d new
  took_message w place taken Hello d new server sent kind t = let none : IsSome {T = ℕ} None = t.is_taken.update in cc
  took_message w place taken (Update frame) d new server sent kind t =
      subst (λ part. Leaves w place d part) (sym t.is) (taken_by w place taken (Update frame) server sent frame refl (laws.takes taken frame t.is_taken) t.calls t.end d t.answered t.ends)
  took_message w place taken (Search frame) d new server sent kind t =
      let none : IsSome {T = ℕ} None = subst (λ x. IsSome (update_number x)) kind.1 t.is_taken.update in cc

  stayed_message : (w : StoreWorld) (place : ℕ) (taken : List FrameText) (message : Message FrameText) (d : Delivered) (new : ServerPart) → w.server ≡ Some taken → slice_get w.sent place ≡ Some message
      → AreTaken at_first taken → IfSome w.server_stop (λ s. 0 < s.call) → IsOfKind message → InGrammar (frame_of message) → Stays f (server_part w) taken (frame_of message) d new → Leaves w place d new
  stayed_message w place taken message d new server sent are comes kind grammar s = subst (λ part. Leaves w place d part) (sym s.is) (by s.answered)
    where
      by : IsUntaken f taken (frame_of message) d → Leaves w place d (server_part w)
      by (inl lacking) = subst (λ x. Leaves w place x (server_part w)) (sym lacking) (stays_lacking w place taken message server sent (untaken_kind taken message grammar s.not_taken))
      by (inr answer) = subst (λ x. Leaves w place x (server_part w)) (sym answer.1) (replied_to w place taken message server sent are comes kind grammar s.not_taken answer.0 answer.2)

  -- what a message at a place makes of the server leads to the world with that server, and with the reply that waits
  pub delivered_leads : (w : StoreWorld) (place : ℕ) (message : Message FrameText) (d : Delivered) (new : ServerPart) → slice_get w.sent place ≡ Some message → IsOfKind message → InGrammar (frame_of message)
      → IfSome w.server (λ taken. AreTaken at_first taken) → IfSome w.server_stop (λ s. 0 < s.call) → Delivers f (server_part w) w.server (frame_of message) d new → Leaves w place d new
  delivered_leads w place message d new sent kind grammar are comes delivers = by w.server refl are delivers
    where
      by : (server : Option (List FrameText)) → w.server ≡ server → IfSome server (λ taken. AreTaken at_first taken) → Delivers f (server_part w) server (frame_of message) d new → Leaves w place d new
      by None e none delivers = subst (λ x. Leaves w place x new) (sym delivers.0) (subst (λ part. Leaves w place Nothing part) (sym delivers.1) (leaves_nothing w place e))
      by (Some taken) e are (inl t) = took_message w place taken message d new e sent kind t
      by (Some taken) e are (inr s) = stayed_message w place taken message d new e sent are comes kind grammar s

  -- Starts and stops.

  pub started_leads : (w : StoreWorld) (result : Result (Unit {0}) Unstarted) (new : ServerPart) → Starts (server_part w) result new → Leads rules w StartServer (outcome_of_start result) (with_server w new w.waiting)
  started_leads w result new s = subst (λ part. Leads rules w StartServer (outcome_of_start result) (with_server w part w.waiting)) (sym s.is) (by s.calls s.end s.ends s.result_is)
    where
      by : (calls : ℕ) (end : End) → EndsCalling calls end (stop_before w.server w.server_stop) → IsEndOf end result → Leads rules w StartServer (outcome_of_start result) (with_server w (starting (server_part w) calls end) w.waiting)
      by calls (Made there) ends is = record { calls = calls; end = Made there; possible = ends; comes_to = ap outcome_of_start is; is = refl }
      by calls (Crashes there) ends is = record { calls = calls; end = Crashes there; possible = ends; comes_to = ap outcome_of_start is; is = refl }
      by calls Lacks ends is = absurd is
      by calls Breaks ends is = record { calls = calls; end = Breaks; possible = ends; comes_to = ap outcome_of_start is; is = refl }

  pub stopped_leads : (w : StoreWorld) (call pick : ℕ) (there : Bool) → Leads rules w (StopServer call pick) model.Happened (with_server w (stopping (server_part w) call pick there) w.waiting)
  stopped_leads w zero pick there = record { calls = 0; end = Made there; possible = (refl, tt); comes_to = refl; is = refl }
  stopped_leads w (suc call) pick there = record { calls = 0; end = Made there; possible = (refl, tt); comes_to = refl; is = refl }

  pub lacking_leads : (w : StoreWorld) (call pick : ℕ) → Leads rules w (StopServer call pick) model.NoMemory w
  lacking_leads w call pick = record { calls = 0; end = Lacks; possible = (refl, tt); comes_to = refl; is = refl }

  -- nothing comes from a place where nothing was sent
  pub missing_leads : (w : StoreWorld) (place : ℕ) → slice_get w.sent place ≡ None → Leads rules w (Deliver place) model.Nothing w
  missing_leads w place none =
      let same : happens rules w (Deliver place) 0 (Made false) ≡ None =
      ap (λ m. delivered rules (record w { server_stop = stop_behind 0 (Made false) w.server_stop }) place w.server m (Made false)) none ∙ never (record w { server_stop = stop_behind 0 (Made false) w.server_stop }) w.server in
      let quiet : calls_disk rules w (Deliver place) ≡ false =
      ap (λ m. option_map_or (λ taken. option_map_or (takes_message rules taken) m false) w.server false) none ∙ idle w.server in
      record {
        calls = 0;
        end = Made false;
        possible = subst (λ b. EndsAs rules b false 0 (Made false) w.server_stop) (sym quiet) (refl, tt);
        comes_to = sym (ap outcome_by same);
        is = sym (ap (λ o. unwrap_or o w) same);
      }
    where
      never : (old : StoreWorld) (server : Option (List FrameText)) → delivered rules old place server None (Made false) ≡ None
      never old None = refl
      never old (Some taken) = refl

      idle : (server : Option (List FrameText)) → option_map_or (λ taken. option_map_or (takes_message rules taken) None false) server false ≡ false
      idle None = refl
      idle (Some taken) = refl
