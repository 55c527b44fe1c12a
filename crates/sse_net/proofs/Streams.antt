-- The streams, and the command line, of a program that ended before it read.
use Rattle.std.proofs.Common.{◌≡◌, ◌⊎◌, inl, inr, refl, ℕ, ◌≤◌, List, arith, ap, subst, ◌∙◌, Option, Some, Result, Ok, Err, sym}
use Rattle.std.specs.Prelude.{IfErr, IfOk}
use Rattle.script_run_texts.specs.Stops.{last_line, stop_status}
use Rattle.script_run_texts.specs.declared.stop_cause.StopCause.{StopCause}
use Rattle.script_run_texts.specs.declared.stop_cause.StopCause.TheVariants as stops
use Rattle.sse_net.specs.Asked.{Asked}
use Rattle.client_journal.specs.Shows.{prints}
use Rattle.client_journal.specs.Unread.{EndsUnopened, no_server}
use Rattle.def_link_events.specs.Events.{Remote}
use Rattle.def_script_meaning.specs.Exchange.{Told}
use Rattle.sse_client.specs.Calls.{shows}
use Rattle.sse_net.specs.Runs.{HasNotBegun, HasRunAfterNumber, RunsAs, TellsStreams}
use Rattle.sse_outside.specs.Fronts.{TookOrRose}

-- none of these statuses tells a fault of a stream, or that the script was read
pub unread_at : (status source sink sink' : ℕ) (read : Type 0) → (status ≡ 2) ⊎ ((5 ≤ status) × (status ≤ 7)) → TellsStreams source source sink sink' read status
unread_at status source sink sink' read (inl is) = record {
  known = omega (arith, is);
  at_end = λ le. absurd (omega (arith, is, le));
  source_failed = λ e. absurd (omega (arith, is, e));
  source_steady = λ _. refl;
  sink_failed = λ e. absurd (omega (arith, is, e));
  sink_steady = λ le. absurd (omega (arith, is, le));
}
unread_at status source sink sink' read (inr is) = record {
  known = omega (arith, is.1);
  at_end = λ le. absurd (omega (arith, is.0, le));
  source_failed = λ e. absurd (omega (arith, is.0, e));
  source_steady = λ _. refl;
  sink_failed = λ e. absurd (omega (arith, is.0, e));
  sink_steady = λ le. absurd (omega (arith, is.0, le));
}

-- a command line is wrong for one of two causes
pub unread_for : (stop : StopCause) (status source sink sink' : ℕ) (read : Type 0) → (stop ≡ stops.Words) ⊎ (stop ≡ stops.Memory) → status ≡ stop_status stop
    → TellsStreams source source sink sink' read status
unread_for stop status source sink sink' read (inl is) told = unread_at status source sink sink' read (inl (told ∙ ap stop_status is))
unread_for stop status source sink sink' read (inr is) told =
    let seven : status ≡ 7 = told ∙ ap stop_status is in
    unread_at status source sink sink' read (inr (omega (arith, seven), omega (arith, seven)))

-- a program that reaches no server ends with 5, and has read nothing
pub unreached_at : (status source sink sink' : ℕ) (read : Type 0) → status ≡ stop_status no_server → TellsStreams source source sink sink' read status
unreached_at status source sink sink' read told = unread_at status source sink sink' read (inr (omega (arith, told), omega (arith, told)))

-- a link of which nothing has changed that it shows
pub same_shows : (told told' : Told) (faults faults' : ℕ) (began began' : Option Remote) → told' ≡ told → faults' ≡ faults → began' ≡ began → shows told' faults' began' ≡ shows told faults began
same_shows told told' faults faults' began began' a b c = cc

-- what is so of the cause that was found is so of the cause that the words have, or of out of memory

module _ {P S : Type 0} (asked : Result Asked StopCause) (stop : StopCause) (places : P) (source : S) (written written' : Option (List ℕ)) (faults faults' shortages shortages' status : ℕ) where
  abbrev ends : (cause : StopCause) → Type 0
  ends cause = EndsUnopened cause places places source source (prints written faults shortages) (prints written' faults' shortages') status

  ends_so : (cause : StopCause) → stop ≡ cause → status ≡ stop_status stop → TookOrRose written written' (last_line stop) faults faults' shortages shortages' → ends cause
  ends_so cause same told line = subst ends same (record { unopened = refl; end = record { unread = refl; status_is = told; line = line } })

  pub if_wrong : (asked ≡ Err stop) ⊎ (stop ≡ stops.Memory) → status ≡ stop_status stop → TookOrRose written written' (last_line stop) faults faults' shortages shortages'
      → IfErr asked (λ cause. ends cause ⊎ ends stops.Memory)
  if_wrong is told line = by asked is where
    by : (a : Result Asked StopCause) → (a ≡ Err stop) ⊎ (stop ≡ stops.Memory) → IfErr a (λ cause. ends cause ⊎ ends stops.Memory)
    by (Ok x) e = tt
    by (Err s) (inl e) = let same : stop ≡ s = cc in inl (ends_so s same told line)
    by (Err s) (inr e) = inr (ends_so stops.Memory e told line)

  pub if_right : (R : Asked → Type 0) → (asked ≡ Err stop) ⊎ (stop ≡ stops.Memory) → status ≡ stop_status stop → TookOrRose written written' (last_line stop) faults faults' shortages shortages'
      → IfOk asked (λ a. ends stops.Memory ⊎ R a)
  if_right R is told line = by asked is where
    by : (a : Result Asked StopCause) → (a ≡ Err stop) ⊎ (stop ≡ stops.Memory) → IfOk a (λ x. ends stops.Memory ⊎ R x)
    by (Ok x) (inl e) = absurd (cc)
    by (Ok x) (inr e) = inl (ends_so stops.Memory e told line)
    by (Err s) e = tt

-- what is so of what right words ask for, where they were read so
pub of_right : (asked : Result Asked StopCause) (a : Asked) (P : Type 0) (R : Asked → Type 0) → asked ≡ Ok a → R a → IfOk asked (λ b. P ⊎ R b)
of_right (Ok b) a P R is r = let same : a ≡ b = cc in inr (subst R same r)
of_right (Err s) a P R is r = tt

-- a run as an owner is a run after the owner's number, or none
pub as_owner : {D L : Type 0} (sent : L → Option (List ℕ)) (transcript : L → Told) (link_faults : L → ℕ) (began : L → Option Remote) (owner : Option ℕ) (n : ℕ) (WithoutServer : Type 0)
    (Ran : D → L → D → L → Type 0) (disk : D) (link : L) (disk2 : D) (link2 : L) → owner ≡ Some n
    → HasRunAfterNumber sent transcript link_faults began n Ran disk link disk2 link2 ⊎ HasNotBegun sent transcript link_faults began n WithoutServer disk link disk2 link2
    → RunsAs sent transcript link_faults began owner WithoutServer Ran disk link disk2 link2
as_owner sent transcript link_faults began owner n WithoutServer Ran disk link disk2 link2 is ran =
    subst (λ o. RunsAs sent transcript link_faults began o WithoutServer Ran disk link disk2 link2) (sym is) ran
