-- Each command of a client's history is that of an event.
use Rattle.std.specs.Option.{unwrap_or}
use Rattle.std.proofs.Common.{ℕ, zero, suc, ◌+◌, ◌-◌, ◌==◌, ◌&&◌, Bool, true, false, List, [], ◌∷◌, length, slice_get, Option, None, Some, IfSome, sym, subst}
use Rattle.std.specs.List.{AllByRecursion}
use Rattle.std.proofs.lemmas.List.{append-nil}
use Rattle.world_model.specs.Rules.{Rules}
use Rattle.world_model.specs.World.{Disk, Phase, Greets, Rests, Sends, Asks, Client, Message, Hello, Update, Search, Reply, Next, Took, Shown, Refused, Updated, Found, World, at_first}
use Rattle.world_model.specs.Events.{Event, Command, Find, Send, Deliver, LoseReply, StopClient, StopServer, StartClient, StartServer, End, Made, Crashes, Lacks, Breaks, Outcome, Led, left, in_doubt, client_gone, rests, takes_command, planned, commanded, is_free, asking, asked_for, sending_frame, sends_on, phase_from, is_within, reported, acknowledged, answered, acting, sent_on, replied, kept, handled, delivered, lost, is_there, client_stops, server_stops, client_started, server_started, stop_behind, stop_before, happens, lacking, behind}
use Rattle.world_model.specs.Promises.{IsOfCommand, AreOfEvents}
use Rattle.world_model.proofs.Lists.{by_test, all_push}

module _ {C F W A : Type 0} (rules : Rules C F W A) (P : C → Type 0) where
  -- it is so of all commands of a disk, and of the one in doubt
  abbrev AreAll : Disk C → Type 0
  AreAll d = AllByRecursion P d.records × IfSome d.doubt P

  abbrev AreGiven : World C F W A → Type 0
  AreGiven w = AreAll w.client_disk

  all_left : (there : Bool) (records : List C) (doubt : Option C) → AllByRecursion P records → IfSome doubt P → AllByRecursion P (left there (record { records = records; doubt = doubt })).records
  all_left false records doubt all last = all
  all_left true records None all last = subst (AllByRecursion P) (sym (append-nil records)) all
  all_left true records (Some c) all last = all_push P records c all last

  none_left : (there : Bool) (d : Disk C) → IfSome (left there d).doubt P
  none_left true d = tt
  none_left false d = tt

  are_left : (there : Bool) (d : Disk C) → AreAll d → AreAll (left there d)
  are_left there d all = (all_left there d.records d.doubt all.0 all.1, none_left there d)

  planned_given : (w : World C F W A) (r : Client C W) (c : C) (end : End) → AreGiven w → P c → AreGiven (planned rules w r c end)
  planned_given w r c (Made there) all p = (all_push P w.client_disk.records c all.0 p, tt)
  planned_given w r c (Crashes there) all p = are_left there (in_doubt w.client_disk c) (all.0, p)
  planned_given w r c Lacks all p = all
  planned_given w r c Breaks all p = (all.0, p)

  commanded_given : (w old : World C F W A) (client : Option (Client C W)) (c : C) (end : End) → AreGiven w → AreGiven old → P c → AreGiven (unwrap_or (commanded rules w client c end) old)
  commanded_given w old None c end all all' p = all'
  commanded_given w old (Some r) c end all all' p =
      by_test (λ new. AreGiven (unwrap_or new old)) (takes_command rules r c) (Some (planned rules w r c end)) None (λ _. planned_given w r c end all p) (λ _. all')

  asked_given : (w : World C F W A) (client : Option (Client C W)) (word : W) → AreGiven w → AreGiven (unwrap_or (asked_for rules w client word) w)
  asked_given w None word all = all
  asked_given w (Some r) word all =
      by_test (λ new. AreGiven (unwrap_or new w)) (is_free rules r && rules.may_search r.commands word) (Some (asking rules w r word)) None (λ _. all) (λ _. all)

  frame_given : (w : World C F W A) (commands : List C) (k : ℕ) (f : Option F) → AreGiven w → AreGiven (sending_frame rules w commands k f)
  frame_given w commands k None all = all
  frame_given w commands k (Some f) all = all

  sends_given : (w : World C F W A) (commands : List C) (phase : Phase W) → AreGiven w → AreGiven (sends_on rules w commands phase)
  sends_given w commands Greets all = all
  sends_given w commands Rests all = all
  sends_given w commands (Sends k) all = frame_given w commands k (slice_get (rules.frames commands) k) all
  sends_given w commands (Asks word) all = all

  answered_given : (w : World C F W A) (commands : List C) (phase : Phase W) (reply : Reply A) → AreGiven w → AreGiven (answered rules w commands phase reply)
  answered_given w commands Greets (Next n) all =
      by_test AreGiven (is_within rules commands n) (sends_on rules w commands (phase_from rules commands n)) (client_gone rules w w.client_disk) (λ _. sends_given w commands (phase_from rules commands n) all) (λ _. all)
  answered_given w commands Greets (Took n) all = all
  answered_given w commands Greets (Shown a) all = all
  answered_given w commands Greets Refused all = all
  answered_given w commands Rests reply all = all
  answered_given w commands (Sends k) (Next n) all = all
  answered_given w commands (Sends k) (Took n) all =
      by_test AreGiven (n == k) (acknowledged rules w commands k) (client_gone rules w w.client_disk)
      (λ _. by_test AreGiven (k + 1 == length (rules.frames commands)) (sends_on rules (reported rules w (Updated (length commands - 1))) commands Rests) (sends_on rules w commands (Sends (k + 1)))
      (λ _. all) (λ _. sends_given w commands (Sends (k + 1)) all))
      (λ _. all)
  answered_given w commands (Sends k) (Shown a) all = all
  answered_given w commands (Sends k) Refused all = all
  answered_given w commands (Asks word) (Next n) all = all
  answered_given w commands (Asks word) (Took n) all = all
  answered_given w commands (Asks word) (Shown a) all =
      by_test AreGiven (rules.shows a) (sends_on rules (reported rules w (Found (length w.searches - 1) a)) commands Rests) (client_gone rules w w.client_disk) (λ _. all) (λ _. all)
  answered_given w commands (Asks word) Refused all = all

  acting_given : (w : World C F W A) (r : Client C W) (waits : Bool) (waiting : Option (Reply A)) → AreGiven w → AreGiven (unwrap_or (acting rules w r waits waiting) w)
  acting_given w r true None all = all
  acting_given w r true (Some reply) all = answered_given w r.commands r.phase reply all
  acting_given w r false waiting all =
      by_test (λ new. AreGiven (unwrap_or new w)) (rests rules r.phase) None (Some (sends_on rules w r.commands r.phase)) (λ _. all) (λ _. sends_given w r.commands r.phase all)

  sent_given : (w : World C F W A) (client : Option (Client C W)) (end : End) → AreGiven w → AreGiven (unwrap_or (sent_on rules w client end) w)
  sent_given w None end all = all
  sent_given w (Some r) (Made there) all = acting_given w r r.waits w.waiting all
  sent_given w (Some r) (Crashes there) all = acting_given w r r.waits w.waiting all
  sent_given w (Some r) Lacks all = all
  sent_given w (Some r) Breaks all = all

  kept_given : (w : World C F W A) (place : ℕ) (taken : List F) (f : F) (end : End) → AreGiven w → AreGiven (kept rules w place taken f end)
  kept_given w place taken f (Made there) all = all
  kept_given w place taken f (Crashes there) all = all
  kept_given w place taken f Lacks all = all
  kept_given w place taken f Breaks all = all

  handled_given : (w : World C F W A) (place : ℕ) (taken : List F) (m : Message F) (end : End) → AreGiven w → AreGiven (handled rules w place taken m end)
  handled_given w place taken Hello end all = all
  handled_given w place taken (Update f) end all = by_test AreGiven (rules.takes taken f) (kept rules w place taken f end) (replied rules w place Refused) (λ _. kept_given w place taken f end all) (λ _. all)
  handled_given w place taken (Search f) end all = all

  delivered_given : (w old : World C F W A) (place : ℕ) (server : Option (List F)) (message : Option (Message F)) (end : End) → AreGiven w → AreGiven old
      → AreGiven (unwrap_or (delivered rules w place server message end) old)
  delivered_given w old place None message end all all' = all'
  delivered_given w old place (Some taken) None end all all' = all'
  delivered_given w old place (Some taken) (Some m) end all all' = handled_given w place taken m end all

  lost_given : (w : World C F W A) (waiting : Option (Reply A)) → AreGiven w → AreGiven (unwrap_or (lost rules w waiting) w)
  lost_given w None all = all
  lost_given w (Some reply) all = all

  client_stops_given : (w : World C F W A) (call pick : ℕ) (end : End) → AreGiven w → AreGiven (client_stops rules w call pick end)
  client_stops_given w zero pick end all = are_left (is_there rules end) w.client_disk all
  client_stops_given w (suc call) pick end all = all

  server_stops_given : (w : World C F W A) (call pick : ℕ) (end : End) → AreGiven w → AreGiven (server_stops rules w call pick end)
  server_stops_given w zero pick end all = all
  server_stops_given w (suc call) pick end all = all

  client_started_given : (w : World C F W A) (end : End) → AreGiven w → AreGiven (client_started rules w end)
  client_started_given w (Made there) all = are_left there w.client_disk all
  client_started_given w (Crashes there) all = are_left there w.client_disk all
  client_started_given w Lacks all = all
  client_started_given w Breaks all = all

  server_started_given : (w : World C F W A) (end : End) → AreGiven w → AreGiven (server_started rules w end)
  server_started_given w (Made there) all = all
  server_started_given w (Crashes there) all = all
  server_started_given w Lacks all = all
  server_started_given w Breaks all = all

  happens_given : (w : World C F W A) (e : Event C W) (calls : ℕ) (end : End) → AreGiven w → IsOfCommand P e → AreGiven (unwrap_or (happens rules w e calls end) w)
  happens_given w (Command c) calls end all p = commanded_given (record w { client_stop = stop_behind calls end w.client_stop }) w w.client c end all all p
  happens_given w (Find word) calls end all p = asked_given w w.client word all
  happens_given w Send calls end all p = sent_given w w.client end all
  happens_given w (Deliver place) calls end all p = delivered_given (record w { server_stop = stop_behind calls end w.server_stop }) w place w.server (slice_get w.sent place) end all all
  happens_given w LoseReply calls end all p = lost_given w w.waiting all
  happens_given w (StopClient call pick) calls end all p = client_stops_given w call pick end all
  happens_given w (StopServer call pick) calls end all p = server_stops_given w call pick end all
  happens_given w StartClient calls end all p = client_started_given (record w { client_stop = stop_behind calls end (stop_before w.client w.client_stop) }) end all
  happens_given w StartServer calls end all p = server_started_given (record w { server_stop = stop_behind calls end (stop_before w.server w.server_stop) }) end all

  lacking_given : (w : World C F W A) (e : Event C W) → AreGiven w → AreGiven (lacking rules w e)
  lacking_given w (Command c) all = all
  lacking_given w (Find word) all = all
  lacking_given w Send all = all
  lacking_given w (Deliver place) all = all
  lacking_given w LoseReply all = all
  lacking_given w (StopClient call pick) all = all
  lacking_given w (StopServer call pick) all = all
  lacking_given w StartClient all = all
  lacking_given w StartServer all = all

  behind_given : (w : World C F W A) (e : Event C W) (calls : ℕ) (end : End) → AreGiven w → IsOfCommand P e → AreGiven (behind rules w e calls end)
  behind_given w e calls (Made there) all p = happens_given w e calls (Made there) all p
  behind_given w e calls (Crashes there) all p = happens_given w e calls (Crashes there) all p
  behind_given w e calls Lacks all p = lacking_given w e all
  behind_given w e calls Breaks all p = happens_given w e calls Breaks all p

  pub led_given : (old : World C F W A) (es : List (Event C W × Outcome)) (new : World C F W A) → AllByRecursion (λ e. IsOfCommand P e.0) es → Led rules old es new → AreGiven old → AreGiven new
  led_given old [] new are led all = subst AreGiven (sym led) all
  led_given old (e ∷ es) new are led all =
      led_given led.0 es new are.1 led.2 (subst AreGiven (sym (led.1).is) (behind_given old e.0 (led.1).calls (led.1).end all are.0))

-- Promise P301, also here
-- each command of the history is that of an event
pub are_of_events : {C F W A : Type 0} (rules : Rules C F W A) → AreOfEvents rules
are_of_events rules P events w are led there =
    let all = led_given rules P at_first events w are led (tt, tt) in all_left rules P there w.client_disk.records w.client_disk.doubt all.0 all.1
