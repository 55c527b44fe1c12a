-- The events of a client lead from one world to the next, by the model's rules.
use Rattle.std.proofs.Common.{◌≡◌, ℕ, Bool, true, false, refl, sym, ap, ◌∙◌, subst}
use Rattle.std.specs.Prelude.{Option, Some, None, is_some, ◌&&◌, if◌then◌else◌}
use Rattle.std.specs.Option.{option_map_or, unwrap_or}
use Rattle.world_model.specs.Rules.{Rules}
use Rattle.world_model.specs.World.{Client, Reply, World}
use Rattle.world_model.specs.Events.{Command, Find, Send, LoseReply, StopClient, StartClient, End, Made, Crashes, Lacks, Breaks, Outcome, Happened, Nothing, NoMemory, Leads, happens, commanded, planned, takes_command, is_free, rests, greets, asked_for, asking, sent_on, acting, lost, answered, sends_on, client_gone, calls_disk, client_started, client_stops, EndsAs, EndsCalling, stop_behind, stop_before}

-- what an event that makes calls of its disk comes to, by its end
abbrev pub outcome_of : End → Outcome
outcome_of (Made there) = Happened
outcome_of (Crashes there) = Happened
outcome_of Lacks = NoMemory
outcome_of Breaks = NoMemory

module _ {C F W A : Type 0} (rules : Rules C F W A) (w : World C F W A) where
  abbrev outcome_by : Option (World C F W A) → Outcome
  outcome_by o = if is_some o then Happened else Nothing

  -- A client that runs is given a command.

  module _ (r : Client C W) (c : C) (client : w.client ≡ Some r) where
    -- the world with what is left of its stop
    abbrev old : (calls : ℕ) → End → World C F W A
    old calls end = record w { client_stop = stop_behind calls end w.client_stop }

    came : (calls : ℕ) (end : End) (b : Bool) → takes_command rules r c ≡ b → happens rules w (Command c) calls end ≡ (if b then Some (planned rules (old calls end) r c end) else None)
    came calls end b takes = ap (λ x. commanded rules (old calls end) x c end) client ∙ ap (λ x. if x then Some (planned rules (old calls end) r c end) else None) takes

    calling : (b : Bool) → takes_command rules r c ≡ b → calls_disk rules w (Command c) ≡ b
    calling b takes = ap (λ x. option_map_or (λ s. takes_command rules s c) x false) client ∙ takes

    -- nothing happens where it isn't taken
    pub command_refused : takes_command rules r c ≡ false → Leads rules w (Command c) Nothing w
    command_refused takes = record {
      calls = 0;
      end = Made false;
      possible = subst (λ b. EndsAs rules b false 0 (Made false) w.client_stop) (sym (calling false takes)) (refl, tt);
      comes_to = sym (ap outcome_by (came 0 (Made false) false takes));
      is = sym (ap (λ o. unwrap_or o w) (came 0 (Made false) false takes));
    }

    -- and so it is without memory
    pub command_lacking : Leads rules w (Command c) NoMemory w
    command_lacking = record {
      calls = 0;
      end = Lacks;
      possible = by (calls_disk rules w (Command c));
      comes_to = refl;
      is = refl;
    }
      where
        by : (b : Bool) → EndsAs rules b false 0 Lacks w.client_stop
        by true = tt
        by false = (refl, tt)

    -- one that is taken ends so
    pub command_taken : takes_command rules r c ≡ true → (calls : ℕ) (end : End) → EndsCalling calls end w.client_stop → Leads rules w (Command c) (outcome_of end) (planned rules (old calls end) r c end)
    command_taken takes calls (Made there) ends = record {
      calls = calls;
      end = Made there;
      possible = subst (λ b. EndsAs rules b false calls (Made there) w.client_stop) (sym (calling true takes)) ends;
      comes_to = sym (ap outcome_by (came calls (Made there) true takes));
      is = sym (ap (λ o. unwrap_or o w) (came calls (Made there) true takes));
    }
    command_taken takes calls (Crashes there) ends = record {
      calls = calls;
      end = Crashes there;
      possible = subst (λ b. EndsAs rules b false calls (Crashes there) w.client_stop) (sym (calling true takes)) ends;
      comes_to = sym (ap outcome_by (came calls (Crashes there) true takes));
      is = sym (ap (λ o. unwrap_or o w) (came calls (Crashes there) true takes));
    }
    command_taken takes calls Lacks ends = command_lacking
    command_taken takes calls Breaks ends = record {
      calls = calls;
      end = Breaks;
      possible = subst (λ b. EndsAs rules b false calls Breaks w.client_stop) (sym (calling true takes)) ends;
      comes_to = refl;
      is = sym (ap (λ o. unwrap_or o w) (came calls Breaks true takes));
    }

    -- A client that runs is given a word to look for.

    looked : (word : W) (b : Bool) → (is_free rules r && rules.may_search r.commands word) ≡ b → happens rules w (Find word) 0 (Made true) ≡ (if b then Some (asking rules w r word) else None)
    looked word b takes = ap (λ x. asked_for rules w x word) client ∙ ap (λ x. if x then Some (asking rules w r word) else None) takes

    pub find_taken : (word : W) → (is_free rules r && rules.may_search r.commands word) ≡ true → Leads rules w (Find word) Happened (asking rules w r word)
    find_taken word takes = record {
      calls = 0;
      end = Made true;
      possible = (refl, tt);
      comes_to = sym (ap outcome_by (looked word true takes));
      is = sym (ap (λ o. unwrap_or o w) (looked word true takes));
    }

    pub find_refused : (word : W) → (is_free rules r && rules.may_search r.commands word) ≡ false → Leads rules w (Find word) Nothing w
    find_refused word takes = record {
      calls = 0;
      end = Made true;
      possible = (refl, tt);
      comes_to = sym (ap outcome_by (looked word false takes));
      is = sym (ap (λ o. unwrap_or o w) (looked word false takes));
    }

    -- It takes the answer that waits, and sends.

    sends_so : (o : Option (World C F W A)) → happens rules w Send 0 (Made true) ≡ o → Leads rules w Send (outcome_by o) (unwrap_or o w)
    sends_so o same = record { calls = 0; end = Made true; possible = (refl, tt); comes_to = sym (ap outcome_by same); is = sym (ap (λ x. unwrap_or x w) same) }

    acts : (waits : Bool) → r.waits ≡ waits → happens rules w Send 0 (Made true) ≡ acting rules w r waits w.waiting
    acts waits is = ap (λ x. sent_on rules w x (Made true)) client ∙ ap (λ b. acting rules w r b w.waiting) is

    -- one that waits for nothing sends what it has to send
    pub send_first : r.waits ≡ false → rests rules r.phase ≡ false → Leads rules w Send Happened (sends_on rules w r.commands r.phase)
    send_first waits left = sends_so (Some (sends_on rules w r.commands r.phase)) (acts false waits ∙ ap (λ b. if b then None else Some (sends_on rules w r.commands r.phase)) left)

    pub send_none : r.waits ≡ false → rests rules r.phase ≡ true → Leads rules w Send Nothing w
    send_none waits left = sends_so None (acts false waits ∙ ap (λ b. if b then None else Some (sends_on rules w r.commands r.phase)) left)

    -- one that waits takes the answer, if there is one
    pub send_answered : (reply : Reply A) → r.waits ≡ true → w.waiting ≡ Some reply → Leads rules w Send Happened (answered rules w r.commands r.phase reply)
    send_answered reply waits waiting = sends_so (Some (answered rules w r.commands r.phase reply)) (acts true waits ∙ ap (acting rules w r true) waiting)

    pub send_waiting : r.waits ≡ true → w.waiting ≡ None → Leads rules w Send Nothing w
    send_waiting waits waiting = sends_so None (acts true waits ∙ ap (acting rules w r true) waiting)

    -- without memory the world is as it was, but that a client that was to go on is there no more
    pub send_lacking : Leads rules w Send NoMemory w
    send_lacking = record { calls = 0; end = Lacks; possible = (refl, tt); comes_to = refl; is = refl }

    pub send_broken : (reply : Reply A) → greets rules r.phase ≡ true → r.waits ≡ true → w.waiting ≡ Some reply → Leads rules w Send NoMemory (client_gone rules w w.client_disk)
    send_broken reply greeting waits waiting = record {
      calls = 0;
      end = Breaks;
      possible = (refl, (λ i. option_map_or (λ s. greets rules s.phase && s.waits) (client i) false && is_some (waiting i)) ∙ (λ i. (greeting i && waits i) && true));
      comes_to = refl;
      is = sym (ap (λ x. unwrap_or (sent_on rules w x Breaks) w) client);
    }

  -- The answer that waits is lost, and the client stops; nothing happens if none waits.

  loses : (waiting : Option (Reply A)) → w.waiting ≡ waiting → happens rules w LoseReply 0 (Made true) ≡ lost rules w waiting
  loses waiting same = ap (lost rules w) same

  pub lose_leads : (reply : Reply A) → w.waiting ≡ Some reply → Leads rules w LoseReply Happened (client_gone rules w w.client_disk)
  lose_leads reply waiting = record {
    calls = 0;
    end = Made true;
    possible = (refl, tt);
    comes_to = sym (ap outcome_by (loses (Some reply) waiting));
    is = sym (ap (λ o. unwrap_or o w) (loses (Some reply) waiting));
  }

  pub lose_none : w.waiting ≡ None → Leads rules w LoseReply Nothing w
  lose_none waiting = record { calls = 0; end = Made true; possible = (refl, tt); comes_to = sym (ap outcome_by (loses None waiting)); is = sym (ap (λ o. unwrap_or o w) (loses None waiting)) }

  -- Starts and stops.

  pub start_leads : (calls : ℕ) (end : End) → EndsCalling calls end (stop_before w.client w.client_stop)
      → Leads rules w StartClient (outcome_of end) (client_started rules (record w { client_stop = stop_behind calls end (stop_before w.client w.client_stop) }) end)
  start_leads calls (Made there) ends = record { calls = calls; end = Made there; possible = ends; comes_to = refl; is = refl }
  start_leads calls (Crashes there) ends = record { calls = calls; end = Crashes there; possible = ends; comes_to = refl; is = refl }
  start_leads calls Lacks ends = record { calls = calls; end = Lacks; possible = ends; comes_to = refl; is = refl }
  start_leads calls Breaks ends = record { calls = calls; end = Breaks; possible = ends; comes_to = refl; is = refl }

  pub stop_leads : (call pick : ℕ) (there : Bool) → Leads rules w (StopClient call pick) Happened (client_stops rules w call pick (Made there))
  stop_leads call pick there = record { calls = 0; end = Made there; possible = (refl, tt); comes_to = refl; is = refl }
