-- What a client is given, sends and is answered keeps what holds.
use Rattle.std.proofs.Common.{◌≡◌, ℕ, ◌+◌, ◌-◌, ◌<◌, ◌≤◌, ◌==◌, ◌&&◌, not, Bool, true, false, List, [], ◌∷◌, ◌++◌, length, take, slice_get, Option, None, Some, refl, sym, ap, ◌∙◌, subst, arith}
use Rattle.std.specs.Prelude.{unwrap_or}
use Rattle.world_model.specs.Rules.{Rules, AreNumbered}
use Rattle.world_model.specs.World.{Phase, Greets, Rests, Sends, Asks, Client, Message, Hello, Update, Search, Reply, Next, Took, Shown, Refused, Asked, Done, Updated, Found, World}
use Rattle.world_model.specs.Events.{End, Made, Crashes, Lacks, Breaks, client_gone, rests, is_free, planned, commanded, asking, asked_for, going_on, sending, sending_frame, sends_on, phase_from, is_within, reported, acknowledged, answered, acting, sent_on, lost}
use Rattle.world_model.specs.Promises.{IsFrameOf, IsDone}
use Rattle.world_model.proofs.Base.{grown, asked_more}
use Rattle.world_model.proofs.Held.{IsLastOf, IsClient, IsRunning, IsAnswerTo, IsGood, IsHeld, IsPhase, IsOut, next_grown}
use Rattle.world_model.proofs.Lists.{by_test, all_push, last_push, take_whole}
use Rattle.world_model.proofs.Stops.{client_gone_held, client_doubts_held, client_crash_held}

module _ {C F W A : Type 0} (rules : Rules C F W A) (laws : AreNumbered rules) where
  -- nothing waits for a client that waits for nothing
  good_free : (h h' : List C) (s s' : List F) (r r' : Client C W) (waiting : Option (Reply A)) → r.waits ≡ false → IsGood rules h s (Some r) waiting → IsGood rules h' s' (Some r') waiting
  good_free h h' s s' r r' None e good = tt
  good_free h h' s s' r r' (Some reply) e good = grind (arith, good.0, e)

  waits_not : (r : Client C W) (accepts : Bool) → (is_free rules r && accepts) ≡ true → r.waits ≡ false
  waits_not r accepts e = by_parts (rests rules r.phase) r.waits e
    where
      by_parts : (a b : Bool) → ((a && not b) && accepts) ≡ true → b ≡ false
      by_parts true true e = grind (arith, e)
      by_parts true false e = refl
      by_parts false b e = grind (arith, e)

  whole_free : (h : List C) (s : List F) (searches : List (Asked W)) (r : Client C W) (accepts : Bool) → (is_free rules r && accepts) ≡ true → IsPhase rules h s searches r.phase → length (rules.frames h) ≤ length s
  whole_free h s searches r accepts e p = by_phase r.phase (not r.waits) e p
    where
      by_phase : (phase : Phase W) (b : Bool) → ((rests rules phase && b) && accepts) ≡ true → IsPhase rules h s searches phase → length (rules.frames h) ≤ length s
      by_phase Greets b e p = grind (arith, e)
      by_phase Rests b e p = p
      by_phase (Sends k) b e p = grind (arith, e)
      by_phase (Asks word) b e p = grind (arith, e)

  second : (a b : Bool) → (a && b) ≡ true → b ≡ true
  second true b e = e
  second false b e = grind (arith, e)

  planned_held : (w : World C F W A) (r : Client C W) (c : C) (end : End) → IsHeld rules w → IsRunning rules w.client_disk.records w.client_disk.doubt w.server_disk.records w.sent w.searches r
      → IsGood rules w.client_disk.records w.server_disk.records (Some r) w.waiting → (is_free rules r && rules.accepts r.commands c) ≡ true → IsHeld rules (planned rules w r c end)
  planned_held w r c end i runs good free = by_end end
    where
      all : length (rules.frames w.client_disk.records) ≤ length w.server_disk.records
      all = whole_free w.client_disk.records w.server_disk.records w.searches r (rules.accepts r.commands c) free runs.phase

      accepts : rules.accepts w.client_disk.records c ≡ true
      accepts = subst (λ commands. rules.accepts commands c ≡ true) runs.commands (second (is_free rules r) (rules.accepts r.commands c) free)

      by_end : (end : End) → IsHeld rules (planned rules w r c end)
      by_end (Made there) =
          let h = w.client_disk.records in
          let s = w.server_disk.records in
          let first : length (rules.frames r.commands) ≡ length (rules.frames w.client_disk.records) = ap (λ commands. length (rules.frames commands)) runs.commands in
          record {
            base = grown rules laws h c s w.sent w.searches w.done i.base all accepts;
            is_next = next_grown rules laws h c s w.server_disk.doubt (i.base).accepted accepts i.is_next;
            whole = tt;
            serves = i.serves;
            runs = record {
              commands = ap (λ commands. commands ++ c ∷ []) runs.commands;
              settled = refl;
              phase = (omega (arith, first, all), omega (arith, first, laws.some w.client_disk.records c (i.base).accepted accepts));
              out = tt;
            };
            good = good_free h (h ++ c ∷ []) s s r (record { commands = r.commands ++ c ∷ []; phase = Sends (length (rules.frames r.commands)); waits = false }) w.waiting (waits_not r (rules.accepts r.commands c) free) good;
          }
      by_end (Crashes there) = client_crash_held rules laws w c there i (all, accepts)
      by_end Lacks = i
      by_end Breaks = client_doubts_held rules laws w c i (all, accepts)

  pub commanded_held : (w old : World C F W A) (client : Option (Client C W)) (c : C) (end : End) → IsHeld rules w → IsHeld rules old
      → IsClient rules w.client_disk.records w.client_disk.doubt w.server_disk.records w.sent w.searches client → IsGood rules w.client_disk.records w.server_disk.records client w.waiting
      → IsHeld rules (unwrap_or (commanded rules w client c end) old)
  commanded_held w old None c end i i' runs good = i'
  commanded_held w old (Some r) c end i i' runs good =
      by_test (λ new. IsHeld rules (unwrap_or new old)) (is_free rules r && rules.accepts r.commands c) (Some (planned rules w r c end)) None (λ free. planned_held w r c end i runs good free) (λ _. i')

  pub asked_held : (w : World C F W A) (client : Option (Client C W)) (word : W) → IsHeld rules w
      → IsClient rules w.client_disk.records w.client_disk.doubt w.server_disk.records w.sent w.searches client → IsGood rules w.client_disk.records w.server_disk.records client w.waiting
      → IsHeld rules (unwrap_or (asked_for rules w client word) w)
  asked_held w None word i runs good = i
  asked_held w (Some r) word i runs good =
      by_test (λ new. IsHeld rules (unwrap_or new w)) (is_free rules r && rules.may_search r.commands word) (Some (asking rules w r word)) None made (λ _. i)
    where
      made : (is_free rules r && rules.may_search r.commands word) ≡ true → IsHeld rules (asking rules w r word)
      made free =
          let h = w.client_disk.records in
          let s = w.server_disk.records in
          let q : Asked W = record { word = word; before = length r.commands } in
          record {
            base = asked_more rules laws h s w.sent w.searches q w.done i.base;
            is_next = i.is_next;
            whole = i.whole;
            serves = i.serves;
            runs = record {
              commands = runs.commands;
              settled = runs.settled;
              phase = (whole_free h s w.searches r (rules.may_search r.commands word) free runs.phase, subst (λ commands. IsLastOf (record { word = word; before = length commands }) (w.searches ++ q ∷ [])) runs.commands (last_push w.searches q));
              out = tt;
            };
            good = good_free h h s s r (record { commands = r.commands; phase = Asks word; waits = false }) w.waiting (waits_not r (rules.may_search r.commands word) free) good;
          }

  -- Send.

  pub lost_held : (w : World C F W A) (waiting : Option (Reply A)) → IsHeld rules w → IsHeld rules (unwrap_or (lost rules w waiting) w)
  lost_held w None i = i
  lost_held w (Some reply) i = client_gone_held rules laws w i

  -- all but the client is as it should be
  abbrev IsReady : World C F W A → Type 0
  IsReady w = IsHeld rules (client_gone rules w w.client_disk) × (w.client_disk.doubt ≡ None)

  sending_held : (w : World C F W A) (phase : Phase W) (m : Message F) → IsReady w → IsPhase rules w.client_disk.records w.server_disk.records w.searches phase → IsFrameOf rules (rules.frames w.client_disk.records) m
      → IsOut rules w.client_disk.records phase true (w.sent ++ m ∷ []) → IsHeld rules (sending rules w w.client_disk.records phase m)
  sending_held w phase m i p frame out =
      let b = (i.0).base in
      record {
        base = record { accepted = b.accepted; taken = b.taken; front = b.front; most = b.most; done_are = b.done_are; sent_are = all_push (IsFrameOf rules (rules.frames w.client_disk.records)) w.sent m b.sent_are frame };
        is_next = (i.0).is_next;
        whole = (i.0).whole;
        serves = (i.0).serves;
        runs = record { commands = refl; settled = i.1; phase = p; out = out };
        good = tt;
      }

  going_held : (w : World C F W A) (phase : Phase W) → IsReady w → IsPhase rules w.client_disk.records w.server_disk.records w.searches phase → IsOut rules w.client_disk.records phase false w.sent
      → IsHeld rules (going_on rules w w.client_disk.records phase)
  going_held w phase i p out = record {
    base = (i.0).base;
    is_next = (i.0).is_next;
    whole = (i.0).whole;
    serves = (i.0).serves;
    runs = record { commands = refl; settled = i.1; phase = p; out = out };
    good = tt;
  }

  frame_held : (w : World C F W A) (k : ℕ) (f : Option F) → IsReady w → IsPhase rules w.client_disk.records w.server_disk.records w.searches (Sends k) → slice_get (rules.frames w.client_disk.records) k ≡ f
      → IsHeld rules (sending_frame rules w w.client_disk.records k f)
  frame_held w k None i p e = going_held w (Sends k) i p tt
  frame_held w k (Some f) i p e =
      let number : rules.number f ≡ k = laws.numbered w.client_disk.records k f ((i.0).base).accepted e in
      sending_held w (Sends k) (Update f) i p (subst (λ n. slice_get (rules.frames w.client_disk.records) n ≡ Some f) (sym number) e) tt

  sends_on_held : (w : World C F W A) (phase : Phase W) → IsReady w → IsPhase rules w.client_disk.records w.server_disk.records w.searches phase → IsHeld rules (sends_on rules w w.client_disk.records phase)
  sends_on_held w Greets i p = sending_held w Greets Hello i p tt tt
  sends_on_held w Rests i p = going_held w Rests i p tt
  sends_on_held w (Sends k) i p = frame_held w k (slice_get (rules.frames w.client_disk.records) k) i p refl
  sends_on_held w (Asks word) i p = sending_held w (Asks word) (Search (rules.asks w.client_disk.records word)) i p tt (last_push w.sent (Search (rules.asks w.client_disk.records word)))

  reported_ready : (w : World C F W A) (d : Done A) → IsReady w → IsDone rules w.client_disk.records (length w.server_disk.records) w.searches d → IsReady (reported rules w d)
  reported_ready w d i done =
      let b = (i.0).base in
      let h = w.client_disk.records in
      let s = w.server_disk.records in (
        record {
          base = record { accepted = b.accepted; taken = b.taken; front = b.front; most = b.most; done_are = all_push (IsDone rules h (length s) w.searches) w.done d b.done_are done; sent_are = b.sent_are };
          is_next = (i.0).is_next;
          whole = (i.0).whole;
          serves = (i.0).serves;
          runs = tt;
          good = tt;
        },
        i.1,
      )

  -- a client with a frame has a command
  some_command : (h : List C) (k : ℕ) → k < length (rules.frames h) → 1 ≤ length h
  some_command [] k l = let e : length (rules.frames []) ≡ 0 = ap length laws.none in omega (arith, l, e)
  some_command (c ∷ cs) k l = omega arith

  acknowledged_held : (w : World C F W A) (k : ℕ) → IsReady w → k + 1 ≤ length w.server_disk.records → k < length (rules.frames w.client_disk.records) → IsHeld rules (acknowledged rules w w.client_disk.records k)
  acknowledged_held w k i took l =
      by_test (λ new. IsHeld rules new) (k + 1 == length (rules.frames h)) (sends_on rules (reported rules w (Updated (length h - 1))) h Rests) (sends_on rules w h (Sends (k + 1)))
      whole more
    where
      h : List C
      h = w.client_disk.records

      whole : (k + 1 == length (rules.frames w.client_disk.records)) ≡ true → IsHeld rules (sends_on rules (reported rules w (Updated (length w.client_disk.records - 1))) w.client_disk.records Rests)
      whole t =
          let commands = w.client_disk.records in
          let n : k + 1 ≡ length (rules.frames commands) = grind (arith, t) in
          let some : 1 ≤ length commands = some_command commands k l in
          let all : take (length commands - 1 + 1) commands ≡ commands = take_whole commands (length commands - 1 + 1) (omega (arith, some)) in
          let d : IsDone rules commands (length w.server_disk.records) w.searches (Updated (length commands - 1)) =
          (omega (arith, some), subst (λ first. length (rules.frames first) ≤ length w.server_disk.records) (sym all) (omega (arith, n, took)))
          in
          sends_on_held (reported rules w (Updated (length commands - 1))) Rests (reported_ready w (Updated (length commands - 1)) i d) (omega (arith, n, took))

      more : (k + 1 == length (rules.frames w.client_disk.records)) ≡ false → IsHeld rules (sends_on rules w w.client_disk.records (Sends (k + 1)))
      more t = sends_on_held w (Sends (k + 1)) i (took, grind (arith, t, l))

  answered_held : (w : World C F W A) (phase : Phase W) (reply : Reply A) → IsReady w → IsPhase rules w.client_disk.records w.server_disk.records w.searches phase
      → IsAnswerTo rules w.client_disk.records w.server_disk.records phase reply → IsHeld rules (answered rules w w.client_disk.records phase reply)
  answered_held w Greets (Next n) i p answer =
      by_test (λ new. IsHeld rules new) (is_within rules h n) (sends_on rules w h (phase_from rules h n)) (client_gone rules w w.client_disk) within (λ _. i.0)
    where
      h : List C
      h = w.client_disk.records

      within : is_within rules w.client_disk.records n ≡ true → IsHeld rules (sends_on rules w w.client_disk.records (phase_from rules w.client_disk.records n))
      within t =
          let commands = w.client_disk.records in
          by_test (λ phase. IsHeld rules (sends_on rules w commands phase)) (n == length (rules.frames commands)) Rests (Sends n)
          (λ e. sends_on_held w Rests i (grind (arith, e, answer.1)))
          (λ e. sends_on_held w (Sends n) i (answer.1, grind (arith, e, t)))
  answered_held w Greets (Took n) i p answer = i.0
  answered_held w Greets (Shown a) i p answer = i.0
  answered_held w Greets Refused i p answer = i.0
  answered_held w Rests reply i p answer = i.0
  answered_held w (Sends k) (Next n) i p answer = i.0
  answered_held w (Sends k) (Took n) i p answer =
      by_test (λ new. IsHeld rules new) (n == k) (acknowledged rules w w.client_disk.records k) (client_gone rules w w.client_disk) (λ t. acknowledged_held w k i (grind (arith, t, answer)) p.1) (λ _. i.0)
  answered_held w (Sends k) (Shown a) i p answer = i.0
  answered_held w (Sends k) Refused i p answer = i.0
  answered_held w (Asks word) (Next n) i p answer = i.0
  answered_held w (Asks word) (Took n) i p answer = i.0
  answered_held w (Asks word) (Shown a) i p answer =
      by_test (λ new. IsHeld rules new) (rules.shows a) (sends_on rules (reported rules w (Found (length w.searches - 1) a)) w.client_disk.records Rests) (client_gone rules w w.client_disk) shown (λ _. i.0)
    where
      shown : rules.shows a ≡ true → IsHeld rules (sends_on rules (reported rules w (Found (length w.searches - 1) a)) w.client_disk.records Rests)
      shown whole =
          let h = w.client_disk.records in
          let all : take (length h) h ≡ h = take_whole h (length h) refl in
          let d : IsDone rules h (length w.server_disk.records) w.searches (Found (length w.searches - 1) a) = record {
            asked = record { word = word; before = length h };
            made = p.1;
            before = omega arith;
            answer = answer ∙ ap (λ first. rules.answer (rules.frames first) (rules.asks first word)) (sym all);
            shown = whole;
          } in
          sends_on_held (reported rules w (Found (length w.searches - 1) a)) Rests (reported_ready w (Found (length w.searches - 1) a) i d) p.0
  answered_held w (Asks word) Refused i p answer = i.0

  acting_held : (w : World C F W A) (r : Client C W) (waits : Bool) (waiting : Option (Reply A)) → IsHeld rules w → r.commands ≡ w.client_disk.records → w.client_disk.doubt ≡ None
      → IsPhase rules w.client_disk.records w.server_disk.records w.searches r.phase → IsGood rules w.client_disk.records w.server_disk.records (Some r) waiting → IsHeld rules (unwrap_or (acting rules w r waits waiting) w)
  acting_held w r true None i e doubt p good = i
  acting_held w r true (Some reply) i e doubt p good =
      subst (λ commands. IsHeld rules (answered rules w commands r.phase reply)) (sym e) (answered_held w r.phase reply (client_gone_held rules laws w i, doubt) p good.1)
  acting_held w r false waiting i e doubt p good =
      by_test (λ new. IsHeld rules (unwrap_or new w)) (rests rules r.phase) None (Some (sends_on rules w r.commands r.phase)) (λ _. i)
      (λ _. subst (λ commands. IsHeld rules (sends_on rules w commands r.phase)) (sym e) (sends_on_held w r.phase (client_gone_held rules laws w i, doubt) p))

  pub sent_on_held : (w : World C F W A) (client : Option (Client C W)) (end : End) → IsHeld rules w
      → IsClient rules w.client_disk.records w.client_disk.doubt w.server_disk.records w.sent w.searches client → IsGood rules w.client_disk.records w.server_disk.records client w.waiting
      → IsHeld rules (unwrap_or (sent_on rules w client end) w)
  sent_on_held w None end i runs good = i
  sent_on_held w (Some r) (Made there) i runs good = acting_held w r r.waits w.waiting i runs.commands runs.settled runs.phase good
  sent_on_held w (Some r) (Crashes there) i runs good = acting_held w r r.waits w.waiting i runs.commands runs.settled runs.phase good
  sent_on_held w (Some r) Lacks i runs good = i
  sent_on_held w (Some r) Breaks i runs good = client_gone_held rules laws w i
