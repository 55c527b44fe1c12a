-- After any events a world keeps what is promised.
use Rattle.std.specs.Prelude.{unwrap_or}
use Rattle.std.proofs.Common.{ℕ, zero, suc, ◌≤◌, List, [], ◌∷◌, length, slice_get, Option, None, Some, refl, sym, subst, arith}
use Rattle.world_model.specs.Rules.{Rules, AreNumbered, IsFront}
use Rattle.world_model.specs.World.{Client, Message, Asked, Reply, Next, Took, Shown, Refused, World, at_first}
use Rattle.world_model.specs.Events.{Event, Command, Find, Send, Deliver, LoseReply, StopClient, StopServer, StartClient, StartServer, End, Made, Crashes, Lacks, Breaks, left, is_there, client_stops, server_stops, stop_behind, stop_before, happens, lacking, behind, but_last, Outcome, Leads, Led}
use Rattle.world_model.specs.Promises.{KeepsAll, CanGoOn, IsPromised}
use Rattle.world_model.proofs.Held.{IsHeld, IsClient, IsGood, held_first, base_left, next_left, base_left_server}
use Rattle.world_model.proofs.Lists.{front_length}
use Rattle.world_model.proofs.Stops.{client_gone_held, server_gone_held, client_left_held, server_left_held, client_started_held, server_started_held}
use Rattle.world_model.proofs.Delivers.{delivered_held}
use Rattle.world_model.proofs.Sends.{commanded_held, asked_held, sent_on_held, lost_held}

module _ {C F W A : Type 0} (rules : Rules C F W A) (laws : AreNumbered rules) where
  client_stops_held : (w : World C F W A) (call pick : ℕ) (end : End) → IsHeld rules w → IsHeld rules (client_stops rules w call pick end)
  client_stops_held w zero pick end i = client_left_held rules laws (record w { client_stop = None }) (is_there rules end) (same i)
    where
      same : IsHeld rules w → IsHeld rules (record w { client_stop = None })
      same i = i
  client_stops_held w (suc call) pick end i = i

  server_stops_held : (w : World C F W A) (call pick : ℕ) (end : End) → IsHeld rules w → IsHeld rules (server_stops rules w call pick end)
  server_stops_held w zero pick end i = server_left_held rules laws (record w { server_stop = None }) (is_there rules end) i
  server_stops_held w (suc call) pick end i = i

  happens_held : (w : World C F W A) (e : Event C W) (calls : ℕ) (end : End) → IsHeld rules w → IsHeld rules (unwrap_or (happens rules w e calls end) w)
  happens_held w (Command c) calls end i = commanded_held rules laws (record w { client_stop = stop_behind calls end w.client_stop }) w w.client c end i i i.runs i.good
  happens_held w (Find word) calls end i = asked_held rules laws w w.client word i i.runs i.good
  happens_held w Send calls end i = sent_on_held rules laws w w.client end i i.runs i.good
  happens_held w (Deliver place) calls end i = delivered_held rules laws (record w { server_stop = stop_behind calls end w.server_stop }) w place end w.server (slice_get w.sent place) i i i.serves refl
  happens_held w LoseReply calls end i = lost_held rules laws w w.waiting i
  happens_held w (StopClient call pick) calls end i = client_stops_held w call pick end i
  happens_held w (StopServer call pick) calls end i = server_stops_held w call pick end i
  happens_held w StartClient calls end i = client_started_held rules laws (record w { client_stop = stop_behind calls end (stop_before w.client w.client_stop) }) end i
  happens_held w StartServer calls end i = server_started_held rules laws (record w { server_stop = stop_behind calls end (stop_before w.server w.server_stop) }) end i

  lacking_held : (w : World C F W A) (e : Event C W) → IsHeld rules w → IsHeld rules (lacking rules w e)
  lacking_held w (Command c) i = i
  lacking_held w (Find word) i = i
  lacking_held w Send i = i
  lacking_held w (Deliver place) i = i
  lacking_held w LoseReply i = i
  lacking_held w (StopClient call pick) i = i
  lacking_held w (StopServer call pick) i = i
  lacking_held w StartClient i = client_gone_held rules laws (record w { client_stop = stop_before w.client w.client_stop }) i
  lacking_held w StartServer i = server_gone_held rules laws (record w { server_stop = stop_before w.server w.server_stop }) i

  pub behind_held : (w : World C F W A) (e : Event C W) (calls : ℕ) (end : End) → IsHeld rules w → IsHeld rules (behind rules w e calls end)
  behind_held w e calls (Made there) i = happens_held w e calls (Made there) i
  behind_held w e calls (Crashes there) i = happens_held w e calls (Crashes there) i
  behind_held w e calls Lacks i = lacking_held w e i
  behind_held w e calls Breaks i = happens_held w e calls Breaks i

  pub leads_held : (old : World C F W A) (e : Event C W) (out : Outcome) (new : World C F W A) → Leads rules old e out new → IsHeld rules old → IsHeld rules new
  leads_held old e out new leads i = subst (λ w. IsHeld rules w) (sym leads.is) (behind_held old e leads.calls leads.end i)

  pub led_held : (old : World C F W A) (es : List (Event C W × Outcome)) (new : World C F W A) → Led rules old es new → IsHeld rules old → IsHeld rules new
  led_held old [] new led i = subst (λ w. IsHeld rules w) (sym led) i
  led_held old (e ∷ es) new led i = led_held led.0 es new led.2 (leads_held old e.0 e.1 led.0 led.1 i)

  can_go_on : (h : List C) (doubt : Option C) (s : List F) (sent : List (Message F)) (searches : List (Asked W)) (client : Option (Client C W)) (waiting : Option (Reply A))
      → IsFront s (rules.frames h) → IsClient rules h doubt s sent searches client → IsGood rules h s client waiting → CanGoOn rules client waiting
  can_go_on h doubt s sent searches None waiting front runs good = tt
  can_go_on h doubt s sent searches (Some r) None front runs good = tt
  can_go_on h doubt s sent searches (Some r) (Some (Next n)) front runs good =
      subst (λ commands. (length (rules.frames (but_last commands)) ≤ n) × (n ≤ length (rules.frames commands))) (sym runs.commands) ((good.1).0, omega (arith, (good.1).1, front_length s (rules.frames h) front))
  can_go_on h doubt s sent searches (Some r) (Some (Took n)) front runs good = tt
  can_go_on h doubt s sent searches (Some r) (Some (Shown a)) front runs good = tt
  can_go_on h doubt s sent searches (Some r) (Some Refused) front runs good = tt

  keeps : (w : World C F W A) → IsHeld rules w → KeepsAll rules w
  keeps w i there there' =
      let h = w.client_disk.records in
      let s = w.server_disk.records in
      let one = base_left rules laws h w.client_disk.doubt s there w.sent w.searches w.done i.base i.whole in
      let next = next_left rules laws h w.client_disk.doubt s there w.server_disk.doubt (i.base).accepted i.whole i.is_next in
      let b = base_left_server rules laws (left there w.client_disk).records s w.server_disk.doubt there' w.sent w.searches w.done one next in
      record {
        accepted = b.accepted;
        served = b.taken;
        front = b.front;
        most = b.most;
        done = b.done_are;
        sent = b.sent_are;
        goes_on = can_go_on h w.client_disk.doubt s w.sent w.searches w.client w.waiting i.base.front i.runs i.good;
      }

  -- Promise P301 (inside): After any stops, losses and repeats the server's frames are the history's first, with all that was reported, and no other update was ever sent.
  --   not: That a side is started again, or a frame comes at all. That a store keeps these rules is P303, and that its disks do is P305.
  -- after every list of events
  pub promised : IsPromised rules
  promised es w led = keeps w (led_held at_first es w led (held_first rules laws))
