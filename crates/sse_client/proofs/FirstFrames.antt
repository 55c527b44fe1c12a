-- What passes in a run begins with a frame, where anything passes.
use Rattle.std.proofs.Common.{◌≡◌, ℕ, ◌+◌, false, inl, inr, List, [], ◌∷◌, ◌++◌, map, Option, None, Some, sym, ap, ◌∙◌, subst}
use Rattle.keyed_fn.specs.KeyFormulas.{mark_of}
use Rattle.keyed_fn.specs.KeyedFn.{KeyedFn}
use Rattle.def_link_events.specs.Events.{Event, Sent, Received, BeginsWithFrame}
use Rattle.def_script_meaning.proofs.GoneAsMeant.{Adds-joined, Adds-nothing}
use Rattle.def_script_meaning.proofs.Recorded.{kept_since}
use Rattle.def_script_meaning.specs.Carries.{Outside}
use Rattle.def_script_meaning.specs.Exchange.{Told, Adds, as_event, bare}
use Rattle.def_script_meaning.specs.HelloExchange.{Greets, IsTurned, TurnsAway}
use Rattle.def_script_meaning.specs.Lines.{Line, Empty, Key, Command, script_lines}
use Rattle.def_script_meaning.specs.Outcome.{opened}
use Rattle.def_script_meaning.specs.Runs.{Ended, Opens, StopsReading}
use Rattle.sse_frames.specs.Exchange.{greeting}
use Rattle.sse_script.specs.Shown.{Cause}
use Rattle.sse_client.specs.Known.{Known, place_known}
use Rattle.sse_client.specs.ResumedRun.{AtKeyLine, GoesOnFrom, GoesOnOver, HasResent, IsHeldUp}
use Rattle.sse_client.specs.KeyLines.{KeyLine, Keyed, Missing, key_line}
use Rattle.sse_client.specs.OnDisk.{HasGoneOn}
use Rattle.client_journal.specs.Shows.{SinkShows}
use Rattle.sse_client.specs.WholeRuns.{IsRun}

-- these events were added, and they begin with a frame where there are any
pub record AddsFrames (old new : Told) : Type 0 where
  pub events : List Event
  pub adds : Adds old new events
  pub begins : BeginsWithFrame events

-- a frame was sent, and what was added begins with it
record Sends (old new : Told) : Type 0 where
  pub first : Event
  pub others : List Event
  pub adds : Adds old new (first ∷ others)
  pub begins : BeginsWithFrame (first ∷ others)

begins_so : (first : Event) (others more : List Event) → BeginsWithFrame (first ∷ others) → BeginsWithFrame (first ∷ (others ++ more))
begins_so (Sent bytes mark) others more begins = tt
begins_so (Received bytes) others more begins = begins

-- what is added behind it
then : (old mid new : Told) (more : List Event) → Sends old mid → Adds mid new more → AddsFrames old new
then old mid new more sends adds = record {
  events = sends.first ∷ (sends.others ++ more);
  adds = Adds-joined old mid new (sends.first ∷ sends.others) more sends.adds adds;
  begins = begins_so sends.first sends.others more sends.begins;
}

pub nothing : (old new : Told) → new ≡ old → AddsFrames old new
nothing old new same = record { events = []; adds = same ∙ Adds-nothing old; begins = tt }

greets : (low high : ℕ) (old new : Told) → Greets low high old new → Sends old new
greets low high old new g = by g.events g.adds g.each
  where
    by : (events : List Event) → Adds old new events → map bare events ≡ map as_event (greeting g.next) → Sends old new
    by [] adds each = absurd (cc)
    by (Sent bytes mark ∷ events) adds each = record { first = Sent bytes mark; others = events; adds = adds; begins = tt }
    by (Received bytes ∷ events) adds each = absurd (cc)

away : (low high : ℕ) (old new : Told) (cause : Cause) → TurnsAway low high old new cause → AddsFrames old new
away low high old new cause a = record { events = a.events; adds = a.adds; begins = by a.events a.turned }
  where
    by : (events : List Event) → IsTurned low high events cause → BeginsWithFrame events
    by [] turned = tt
    by (Sent bytes mark ∷ events) turned = tt
    by (Received bytes ∷ events) turned = absurd turned

unread : (now : Outside) (end : Ended) (key : Option (List ℕ)) (h : _) → StopsReading now key h end → AddsFrames now.told end.outside.told
unread now end key h (inl e) = nothing now.told end.outside.told (ap (λ (s : Ended). s.outside.told) e)
unread now end key h (inr e) = nothing now.told end.outside.told (ap (λ (s : Ended). s.outside.told) e)

-- A run from the start of its script.

opens : (f : KeyedFn) (number : ℕ) (lines : List (Option Line)) (now : Outside) (end : Ended) → Opens f number lines now end → AddsFrames now.told end.outside.told
opens f number [] now end (inl e) = nothing now.told end.outside.told (ap (λ (s : Ended). s.outside.told) e)
opens f number [] now end (inr reading) = unread now end None _ reading
opens f number (None ∷ lines) now end (inl e) = nothing now.told end.outside.told (ap (λ (s : Ended). s.outside.told) e)
opens f number (None ∷ lines) now end (inr reading) = unread now end None _ reading
opens f number (Some (Command line) ∷ lines) now end (inl e) = nothing now.told end.outside.told (ap (λ (s : Ended). s.outside.told) e)
opens f number (Some (Command line) ∷ lines) now end (inr reading) = unread now end None _ reading
opens f number (Some Empty ∷ lines) now end (inl reading) = unread now end None _ reading
opens f number (Some Empty ∷ lines) now end (inr o) = opens f (number + 1) lines now end o
opens f number (Some (Key key) ∷ lines) now end (inl reading) = unread now end None _ reading
opens f number (Some (Key key) ∷ lines) now end (inr (inl a)) = away 0 0 now.told end.outside.told a.cause a.away
opens f number (Some (Key key) ∷ lines) now end (inr (inr (next, g, runs))) =
    let k = kept_since f (opened (Some (mark_of f)) key) (number + 1) lines false next end runs in
    then now.told next.told end.outside.told k.events (greets 0 0 now.told next.told g.greets) k.adds

pub run_adds : (f : KeyedFn) (bytes : List ℕ) (now last : Outside) (sink sink' : SinkShows) (status : ℕ) → IsRun f bytes now last sink sink' status → AddsFrames now.told last.told
run_adds f bytes now last sink sink' status run = subst (AddsFrames now.told) (sym run.told) (opens f 1 (script_lines bytes) now run.end run.opens)

-- One that goes on.

module _ (f : KeyedFn) (key : List ℕ) (known : Known) where
  resent : (old new end : Told) (frames : ℕ) (more : List Event) → HasResent f key known old new frames → Adds new end more → AddsFrames old end
  resent old new end frames more r adds =
      then old r.greeted end (r.sent.events ++ more) (greets r.next r.next old r.greeted r.found.greets) (Adds-joined r.greeted new end r.sent.events more r.sent.adds adds)

  held : (now : Outside) (end : Ended) → IsHeldUp f key known now end → AddsFrames now.told end.outside.told
  held now end h = elim h.why [
    | inl a ↦ away _ _ now.told end.outside.told h.cause a
    | inr (next, told, found, inl behind) ↦ then now.told told end.outside.told [] (greets next next now.told told found.greets) (behind.0 ∙ Adds-nothing told)
    | inr (next, told, found, inr (inl behind)) ↦ then now.told told end.outside.told [] (greets next next now.told told found.greets) (behind.0 ∙ Adds-nothing told)
    | inr (next, told, found, inr (inr behind)) ↦ then now.told told end.outside.told behind.2.events (greets next next now.told told found.greets) behind.2.adds
  ]

  goes : (number : ℕ) (lines : List (Option Line)) (now : Outside) (end : Ended) → GoesOnFrom f key known number lines now end → AddsFrames now.told end.outside.told
  goes number lines now end (inl h) = held now end h
  goes number lines now end (inr (inl u)) = resent now.told end.outside.told end.outside.told u.frames [] u.resent (Adds-nothing end.outside.told)
  goes number lines now end (inr (inr (next, resumed, runs))) =
      let k = kept_since f (place_known f key known) number lines false next end runs in
      resent now.told next.told end.outside.told resumed.frames k.events resumed.resent k.adds

behind_key : (f : KeyedFn) (at : KeyLine) (now : Outside) (end : Ended) → AtKeyLine f at now end → AddsFrames now.told end.outside.told
behind_key f (Missing number) now end e = nothing now.told end.outside.told (ap (λ (s : Ended). s.outside.told) e)
behind_key f (Keyed key number lines) now end (inl (cause, why, e)) = nothing now.told end.outside.told (ap (λ (s : Ended). s.outside.told) e)
behind_key f (Keyed key number lines) now end (inr (known, restores, on)) = goes f key known number lines now end on

pub gone_on_adds : (f : KeyedFn) (bytes : List ℕ) (now last : Outside) (status f0 f2 s0 s2 : ℕ) → HasGoneOn f bytes now last status f0 f2 s0 s2 → AddsFrames now.told last.told
gone_on_adds f bytes now last status f0 f2 s0 s2 has = subst (AddsFrames now.told) (sym has.told) (by has.goes_on)
  where
    by : GoesOnOver f (script_lines bytes) now has.end → AddsFrames now.told has.end.outside.told
    by (inl reading) = unread now has.end None _ reading
    by (inr at) = behind_key f (key_line 1 (script_lines bytes)) now has.end at
