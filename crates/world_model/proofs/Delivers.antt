-- A frame that comes to the server keeps what holds.
use Rattle.std.proofs.Common.{◌≡◌, ℕ, ◌+◌, ◌-◌, ◌≤◌, ◌==◌, Bool, true, false, List, [], ◌∷◌, ◌++◌, length, slice_get, Option, None, Some, IfSome, refl, sym, ◌∙◌, subst, arith}
use Rattle.std.specs.Prelude.{unwrap_or}
use Rattle.world_model.specs.Rules.{Rules, AreNumbered, IsFront}
use Rattle.world_model.specs.World.{Phase, Greets, Rests, Sends, Asks, Client, Message, Hello, Update, Search, Reply, Next, Took, Shown, Refused, World}
use Rattle.world_model.specs.Events.{End, Made, Crashes, Lacks, Breaks, settled, waiting_with, replied, kept, handled, delivered}
use Rattle.world_model.specs.Promises.{IsFrameOf}
use Rattle.world_model.proofs.Base.{taken_more}
use Rattle.world_model.proofs.Held.{IsLastOf, IsServer, IsClient, IsAnswerTo, IsGood, IsHeld, IsPhase, IsOut, whole_later, client_later, good_later}
use Rattle.world_model.proofs.Lists.{by_test, all_get, front_next, front_whole, length-push}
use Rattle.world_model.proofs.Stops.{server_doubts_held, server_crash_held}

module _ {C F W A : Type 0} (rules : Rules C F W A) (laws : AreNumbered rules) where
  good_with : (h : List C) (s : List F) (reply : Reply A) (is_last : Bool) (client : Option (Client C W)) (waiting : Option (Reply A))
      → IsGood rules h s client waiting
      → (is_last ≡ true → IfSome client (λ r. r.waits ≡ true → IsAnswerTo rules h s r.phase reply))
      → IsGood rules h s client (waiting_with rules reply is_last client waiting)
  good_with h s reply true (Some r) None good fits = by_test (λ waiting. IsGood rules h s (Some r) waiting) r.waits (Some reply) None (λ e. (e, fits refl e)) (λ e. tt)
  good_with h s reply true (Some r) (Some other) good fits = good
  good_with h s reply true None waiting good fits = good
  good_with h s reply false client waiting good fits = good

  replied_held : (w : World C F W A) (place : ℕ) (reply : Reply A) → IsHeld rules w
      → ((place + 1 == length w.sent) ≡ true → IfSome w.client (λ r. r.waits ≡ true → IsAnswerTo rules w.client_disk.records w.server_disk.records r.phase reply))
      → IsHeld rules (replied rules w place reply)
  replied_held w place reply i fits = record {
    base = i.base;
    is_next = i.is_next;
    whole = i.whole;
    serves = i.serves;
    runs = i.runs;
    good = good_with w.client_disk.records w.server_disk.records reply (place + 1 == length w.sent) w.client w.waiting i.good fits;
  }

  is_last : {X : Type 0} (xs : List X) (place : ℕ) (x : X) → slice_get xs place ≡ Some x → (place + 1 == length xs) ≡ true → IsLastOf x xs
  is_last xs place x e t =
      let n : place + 1 ≡ length xs = grind (arith, t) in
      let p : place ≡ length xs - 1 = omega (arith, n) in
      subst (λ k. slice_get xs k ≡ Some x) p e

  -- what is so of any client
  of_any : (client : Option (Client C W)) (P : Client C W → Type 0) → ((r : Client C W) → P r) → IfSome client P
  of_any None P p = tt
  of_any (Some r) P p = p r

  search_fits : (w : World C F W A) (f : F) → IsHeld rules w → IsLastOf (Search f) w.sent
      → IfSome w.client (λ r. r.waits ≡ true → IsAnswerTo rules w.client_disk.records w.server_disk.records r.phase (Shown (rules.answer w.server_disk.records f)))
  search_fits w f i last = of_client w.client i.runs
    where
      h : List C
      h = w.client_disk.records

      s : List F
      s = w.server_disk.records

      frame_is : (other : F) → IsLastOf (Search other) w.sent → other ≡ f
      frame_is other out = let e : one_search other ≡ one_search f = sym out ∙ last in cc
        where
          one_search : F → Option (Message F)
          one_search v = Some (Search v)

      of_phase : (phase : Phase W) (waits : Bool) → waits ≡ true → IsPhase rules w.client_disk.records w.server_disk.records w.searches phase → IsOut rules w.client_disk.records phase waits w.sent
          → IsAnswerTo rules w.client_disk.records w.server_disk.records phase (Shown (rules.answer w.server_disk.records f))
      of_phase Greets waits e p out = tt
      of_phase Rests waits e p out = tt
      of_phase (Sends k) waits e p out = tt
      of_phase (Asks word) false e p out = grind (arith, e)
      of_phase (Asks word) true e p out =
          let all : w.server_disk.records ≡ rules.frames w.client_disk.records = front_whole w.server_disk.records (rules.frames w.client_disk.records) i.base.front p.0 in
          let same : rules.asks w.client_disk.records word ≡ f = frame_is (rules.asks w.client_disk.records word) out in
          λ j. rules.answer (all j) (sym same j)

      of_client : (client : Option (Client C W)) → IsClient rules w.client_disk.records w.client_disk.doubt w.server_disk.records w.sent w.searches client
          → IfSome client (λ r. r.waits ≡ true → IsAnswerTo rules w.client_disk.records w.server_disk.records r.phase (Shown (rules.answer w.server_disk.records f)))
      of_client None p = tt
      of_client (Some r) p = λ e. of_phase r.phase r.waits e p.phase p.out

  -- the server keeps the next frame
  kept_held : (w : World C F W A) (place : ℕ) (f : F) (end : End) → IsHeld rules w → slice_get w.sent place ≡ Some (Update f) → rules.takes w.server_disk.records f ≡ true
      → IsHeld rules (kept rules w place w.server_disk.records f end)
  kept_held w place f end i there takes = by_end end
    where
      number : rules.number f ≡ length w.server_disk.records
      number = laws.next w.server_disk.records f (i.base).taken takes

      front : IsFront (w.server_disk.records ++ f ∷ []) (rules.frames w.client_disk.records)
      front =
          let sent : slice_get (rules.frames w.client_disk.records) (rules.number f) ≡ Some f = all_get (IsFrameOf rules (rules.frames w.client_disk.records)) w.sent place (Update f) i.base.sent_are there in
          front_next w.server_disk.records (rules.frames w.client_disk.records) f i.base.front (subst (λ n. slice_get (rules.frames w.client_disk.records) n ≡ Some f) number sent)

      longer : length w.server_disk.records ≤ length (w.server_disk.records ++ f ∷ [])
      longer = omega (arith, length-push w.server_disk.records f)

      made : IsHeld rules (record w { server_disk = settled (w.server_disk.records ++ f ∷ []); server = Some (w.server_disk.records ++ f ∷ []) })
      made =
          let h = w.client_disk.records in
          let s = w.server_disk.records in
          record {
            base = taken_more rules laws h s f w.sent w.searches w.done i.base front takes;
            is_next = tt;
            whole = whole_later rules laws h w.client_disk.doubt s (s ++ f ∷ []) longer i.whole;
            serves = (refl, refl);
            runs = client_later rules laws h w.client_disk.doubt s (s ++ f ∷ []) w.sent w.searches w.client longer i.runs;
            good = good_later rules laws h s (s ++ f ∷ []) w.client w.waiting longer i.good;
          }

      by_end : (end : End) → IsHeld rules (kept rules w place w.server_disk.records f end)
      by_end (Made t) =
          replied_held (record w { server_disk = settled (w.server_disk.records ++ f ∷ []); server = Some (w.server_disk.records ++ f ∷ []) }) place (Took (rules.number f)) made
          (λ e. of_any w.client (λ r. r.waits ≡ true → rules.number f + 1 ≤ length (w.server_disk.records ++ f ∷ [])) (λ r waits. omega (arith, number, length-push w.server_disk.records f)))
      by_end (Crashes t) = server_crash_held rules laws w f t i (front, takes)
      by_end Lacks = i
      by_end Breaks = server_doubts_held rules laws w f i (front, takes)

  handled_held : (w : World C F W A) (place : ℕ) (m : Message F) (end : End) → IsHeld rules w → slice_get w.sent place ≡ Some m → IsHeld rules (handled rules w place w.server_disk.records m end)
  handled_held w place Hello end i there =
      let h = w.client_disk.records in
      let s = w.server_disk.records in
      replied_held w place (Next (length s)) i (λ e. of_any w.client (λ r. r.waits ≡ true → IsAnswerTo rules h s r.phase (Next (length s))) (λ r waits. (i.base.most, omega arith)))
  handled_held w place (Update f) end i there =
      let s = w.server_disk.records in
      by_test (λ new. IsHeld rules new) (rules.takes s f) (kept rules w place s f end) (replied rules w place Refused) (λ takes. kept_held w place f end i there takes)
      (λ refuses. replied_held w place Refused i (λ e. of_any w.client (λ r. r.waits ≡ true → IsAnswerTo rules w.client_disk.records s r.phase Refused) (λ r waits. tt)))
  handled_held w place (Search f) end i there =
      replied_held w place (Shown (rules.answer w.server_disk.records f)) i (λ e. search_fits w f i (is_last w.sent place (Search f) there e))

  pub delivered_held : (w old : World C F W A) (place : ℕ) (end : End) (server : Option (List F)) (message : Option (Message F)) → IsHeld rules w → IsHeld rules old
      → IsServer rules w.server_disk.records w.server_disk.doubt server → slice_get w.sent place ≡ message → IsHeld rules (unwrap_or (delivered rules w place server message end) old)
  delivered_held w old place end None message i i' serves there = i'
  delivered_held w old place end (Some taken) None i i' serves there = i'
  delivered_held w old place end (Some taken) (Some m) i i' serves there =
      subst (λ records. IsHeld rules (handled rules w place records m end)) (sym serves.0) (handled_held w place m end i there)
