-- What holds of a world after any events.
use Rattle.std.proofs.Common.{◌≡◌, ◌+◌, ◌-◌, ◌<◌, ◌≤◌, Bool, true, false, List, [], ◌∷◌, ◌++◌, length, slice_get, Option, None, Some, IfSome, refl, sym, ap, subst, arith, append-nil}
use Rattle.world_model.specs.Rules.{Rules, AreNumbered, AreAccepted, IsFront}
use Rattle.world_model.specs.World.{Phase, Greets, Rests, Sends, Asks, Client, Message, Search, Reply, Next, Took, Shown, Refused, Asked, Done, World, at_first}
use Rattle.world_model.specs.Events.{left, but_last}
use Rattle.world_model.proofs.Lists.{front_trans, length-push}
use Rattle.world_model.proofs.Base.{Base, grown, taken_more}

-- the last of a list
abbrev pub IsLastOf : {X : Type 0} → X → List X → Type 0
IsLastOf x xs = slice_get xs (length xs - 1) ≡ Some x

module _ {C F W A : Type 0} (rules : Rules C F W A) where
  -- the frame that a server may have in doubt is the next one
  abbrev pub IsNext : List C → List F → Option F → Type 0
  IsNext h s doubt = IfSome doubt (λ f. IsFront (s ++ f ∷ []) (rules.frames h) × (rules.takes s f ≡ true))

  -- a command is in doubt only where it was accepted, and the server has the frames of all before it
  abbrev pub IsWhole : List C → List F → Option C → Type 0
  IsWhole h s doubt = IfSome doubt (λ c. (length (rules.frames h) ≤ length s) × (rules.accepts h c ≡ true))

  -- a server that runs has taken the frames of its disk
  abbrev pub IsServer : List F → (doubt : Option F) → Option (List F) → Type 0
  IsServer s doubt None = Unit {0}
  IsServer s doubt (Some taken) = (taken ≡ s) × (doubt ≡ None)

  abbrev pub IsPhase : List C → List F → List (Asked W) → Phase W → Type 0
  IsPhase h s searches Greets = Unit {0}
  IsPhase h s searches Rests = length (rules.frames h) ≤ length s
  IsPhase h s searches (Sends k) = (k ≤ length s) × (k < length (rules.frames h))
  IsPhase h s searches (Asks word) = (length (rules.frames h) ≤ length s) × IsLastOf (record { word = word; before = length h }) searches

  -- the search of a client that waits for its answer is the last message
  abbrev pub IsOut : List C → Phase W → (waits : Bool) → List (Message F) → Type 0
  IsOut h (Asks word) true sent = IsLastOf (Search (rules.asks h word)) sent
  IsOut h _ _ sent = Unit {0}

  pub record IsRunning (h : List C) (doubt : Option C) (s : List F) (sent : List (Message F)) (searches : List (Asked W)) (r : Client C W) : Type 0 where
    pub commands : r.commands ≡ h
    pub settled : doubt ≡ None
    pub phase : IsPhase h s searches r.phase
    pub out : IsOut h r.phase r.waits sent

  abbrev pub IsClient : List C → (doubt : Option C) → List F → List (Message F) → List (Asked W) → Option (Client C W) → Type 0
  IsClient h doubt s sent searches client = IfSome client (IsRunning h doubt s sent searches)

  abbrev pub IsAnswerTo : List C → List F → Phase W → Reply A → Type 0
  IsAnswerTo h s phase (Next n) = (length (rules.frames (but_last h)) ≤ n) × (n ≤ length s)
  IsAnswerTo h s phase (Took n) = n + 1 ≤ length s
  IsAnswerTo h s (Asks word) (Shown a) = a ≡ rules.answer (rules.frames h) (rules.asks h word)
  IsAnswerTo h s _ (Shown a) = Unit {0}
  IsAnswerTo h s phase Refused = Unit {0}

  -- an answer waits for a client that waits for it, and is one to its phase
  abbrev pub IsGood : List C → List F → Option (Client C W) → Option (Reply A) → Type 0
  IsGood h s client None = Unit {0}
  IsGood h s None (Some reply) = ⊥
  IsGood h s (Some r) (Some reply) = (r.waits ≡ true) × IsAnswerTo h s r.phase reply

  -- the same of a world by its parts
  pub record AreHeld (h : List C) (doubt : Option C) (s : List F) (next : Option F) (client : Option (Client C W)) (server : Option (List F)) (sent : List (Message F)) (searches : List (Asked W)) (waiting : Option (Reply A)) (done : List (Done A)) : Type 0 where
    pub base : Base rules h s sent searches done
    pub is_next : IsNext h s next
    pub whole : IsWhole h s doubt
    pub serves : IsServer s next server
    pub runs : IsClient h doubt s sent searches client
    pub good : IsGood h s client waiting

  abbrev pub IsHeld : World C F W A → Type 0
  IsHeld w = AreHeld w.client_disk.records w.client_disk.doubt w.server_disk.records w.server_disk.doubt w.client w.server w.sent w.searches w.waiting w.done

  module _ (laws : AreNumbered rules) where
    -- a frame that is the next one, where there are more commands
    pub next_grown : (h : List C) (c : C) (s : List F) (next : Option F) → AreAccepted rules h → rules.accepts h c ≡ true → IsNext h s next → IsNext (h ++ c ∷ []) s next
    next_grown h c s None accepted accepts p = tt
    next_grown h c s (Some f) accepted accepts p = (front_trans (s ++ f ∷ []) (rules.frames h) (rules.frames (h ++ c ∷ [])) p.0 (laws.grows h c accepted accepts), p.1)

    -- where the server has more frames
    pub whole_later : (h : List C) (doubt : Option C) (s s' : List F) → length s ≤ length s' → IsWhole h s doubt → IsWhole h s' doubt
    whole_later h None s s' l p = tt
    whole_later h (Some c) s s' l p = (omega (arith, p.0, l), p.1)

    phase_later : (h : List C) (s s' : List F) (searches : List (Asked W)) (phase : Phase W) → length s ≤ length s' → IsPhase h s searches phase → IsPhase h s' searches phase
    phase_later h s s' searches Greets l p = tt
    phase_later h s s' searches Rests l p = omega (arith, p, l)
    phase_later h s s' searches (Sends k) l p = (omega (arith, p.0, l), p.1)
    phase_later h s s' searches (Asks word) l p = (omega (arith, p.0, l), p.1)

    pub client_later : (h : List C) (doubt : Option C) (s s' : List F) (sent : List (Message F)) (searches : List (Asked W)) (client : Option (Client C W))
        → length s ≤ length s' → IsClient h doubt s sent searches client → IsClient h doubt s' sent searches client
    client_later h doubt s s' sent searches None l p = tt
    client_later h doubt s s' sent searches (Some r) l p = record { commands = p.commands; settled = p.settled; phase = phase_later h s s' searches r.phase l p.phase; out = p.out }

    answer_later : (h : List C) (s s' : List F) (phase : Phase W) (reply : Reply A) → length s ≤ length s' → IsAnswerTo h s phase reply → IsAnswerTo h s' phase reply
    answer_later h s s' phase (Next n) l p = (p.0, omega (arith, p.1, l))
    answer_later h s s' phase (Took n) l p = omega (arith, p, l)
    answer_later h s s' Greets (Shown a) l p = tt
    answer_later h s s' Rests (Shown a) l p = tt
    answer_later h s s' (Sends k) (Shown a) l p = tt
    answer_later h s s' (Asks word) (Shown a) l p = p
    answer_later h s s' phase Refused l p = tt

    pub good_later : (h : List C) (s s' : List F) (client : Option (Client C W)) (waiting : Option (Reply A)) → length s ≤ length s' → IsGood h s client waiting → IsGood h s' client waiting
    good_later h s s' client None l p = tt
    good_later h s s' None (Some reply) l p = p
    good_later h s s' (Some r) (Some reply) l p = (p.0, answer_later h s s' r.phase reply l p.1)

    -- what a crash leaves of the client's disk, or starting reads
    pub base_left : (h : List C) (doubt : Option C) (s : List F) (there : Bool) (sent : List (Message F)) (searches : List (Asked W)) (done : List (Done A))
        → Base rules h s sent searches done → IsWhole h s doubt → Base rules (left there (record { records = h; doubt = doubt })).records s sent searches done
    base_left h doubt s false sent searches done b p = b
    base_left h None s true sent searches done b p = subst (λ all. Base rules all s sent searches done) (sym (append-nil h)) b
    base_left h (Some c) s true sent searches done b p = grown rules laws h c s sent searches done b p.0 p.1

    pub next_left : (h : List C) (doubt : Option C) (s : List F) (there : Bool) (next : Option F) → AreAccepted rules h → IsWhole h s doubt → IsNext h s next → IsNext (left there (record { records = h; doubt = doubt })).records s next
    next_left h doubt s false next accepted whole p = p
    next_left h None s true next accepted whole p = subst (λ all. IsNext all s next) (sym (append-nil h)) p
    next_left h (Some c) s true next accepted whole p = next_grown h c s next accepted whole.1 p

    -- and of the server's
    pub base_left_server : (h : List C) (s : List F) (next : Option F) (there : Bool) (sent : List (Message F)) (searches : List (Asked W)) (done : List (Done A))
        → Base rules h s sent searches done → IsNext h s next → Base rules h (left there (record { records = s; doubt = next })).records sent searches done
    base_left_server h s next false sent searches done b p = b
    base_left_server h s None true sent searches done b p = subst (λ all. Base rules h all sent searches done) (sym (append-nil s)) b
    base_left_server h s (Some f) true sent searches done b p = taken_more rules laws h s f sent searches done b p.0 p.1

    pub length_left : {X : Type 0} (s : List X) (next : Option X) (there : Bool) → length s ≤ length (left there (record { records = s; doubt = next })).records
    length_left s next false = omega arith
    length_left s None true = let e : length (s ++ []) ≡ length s = ap length (append-nil s) in omega (arith, e)
    length_left s (Some x) true = omega (arith, length-push s x)

    -- the world at the beginning
    pub held_first : IsHeld at_first
    held_first = record {
      base = record { accepted = tt; taken = tt; front = (rules.frames [], refl); most = let e : length (rules.frames []) ≡ 0 = ap length laws.none in omega (arith, e); done_are = tt; sent_are = tt };
      is_next = tt;
      whole = tt;
      serves = tt;
      runs = tt;
      good = tt;
    }
