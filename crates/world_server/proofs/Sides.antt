-- The side that runs a server's part, after each of its events.
use Rattle.std.proofs.Common.{◌≡◌, ◌⊎◌, ℕ, zero, suc, Bool, true, false, List, [], ◌∷◌, ◌++◌, inl, inr, refl, sym, ap, ◌∙◌, subst, arith}
use Rattle.std.specs.Prelude.{Option, Some, None, is_some, IsSome, IfSome, ◌<◌, ◌-◌, nat_lt, if◌then◌else◌, not, Result, Ok, Err, OnOk, OnErr}
use Rattle.std.proofs.lemmas.List.{append-nil}
use Rattle.keyed_fn.specs.KeyedFn.{KeyedFn}
use Rattle.outside_memory_disk.specs.MemDisk.{next_call_of}
use Rattle.outside_memory_disk.specs.declared.mem_disk.MemDisk.{MemDisk}
use Rattle.sse_frames.specs.Frames.{FrameText, InGrammar, update_number}
use Rattle.sse_frames.specs.Replies.{ReplyText}
use Rattle.sse_journal.specs.declared.journal.Journal.{Journal}
use Rattle.server_core.specs.Refusal.{refusal}
use Rattle.server_core.specs.State.{ServerState, at_first}
use Rattle.sse_server.proofs.TakenFrames.{AreTaken-push}
use Rattle.sse_server.specs.StoreView.{StoreView}
use Rattle.sse_server.specs.Taken.{IsTaken, AreTaken, taken_all, bodies}
use Rattle.world_disks.proofs.Left.{holds_disk}
use Rattle.world_disks.specs.Disks.{IsDiskOf, Holds, IsMet, IsUnmet}
use Rattle.world_disks.specs.declared.started.Unstarted.{Unstarted}
use Rattle.world_disks.specs.declared.started.Unstarted.TheVariants as unstarted
use Rattle.world_disks.specs.declared.stop.Stop as code
use Rattle.world_model.specs.World.{Disk, Stop}
use Rattle.world_model.specs.Events.{Made, Crashes, Lacks, Breaks, left, in_doubt, settled, later, stop_before, EndsCalling}
use Rattle.world_server.proofs.Serving.{left_frames}
use Rattle.world_server.proofs.Steps.{refused_untaken}
use Rattle.world_server.specs.Handling.{IsHandled}
use Rattle.world_server.specs.Opening.{IsOpened}
use Rattle.world_server.specs.Serving.{Serves, IsDiskOfFrames, spelled}
use Rattle.world_server.specs.Sides.{ServerPart, IsServer, Runs, Delivers, Starts, IsAnsweredBy, IsLeftOf, IsUntaken, taking, starting, halted, stopping, stop_in}
use Rattle.world_server.specs.declared.handled.Handled.TheVariants as handled
use Rattle.world_server.specs.declared.server_side.Delivered.{Delivered}
use Rattle.world_server.specs.declared.server_side.Delivered.TheVariants.{Stopped, NoMemory, Broken}

-- What a crash leaves where nothing is in doubt.

pub same_settled : (taken : List FrameText) (there : Bool) → left there (settled taken) ≡ settled taken
same_settled taken true = ap settled (append-nil taken)
same_settled taken false = refl

left_settled : (model : Disk FrameText) (there : Bool) → left there model ≡ settled (left there model).records
left_settled model true = refl
left_settled model false = refl

left_left : (model : Disk FrameText) (there there' : Bool) → left there' (left there model) ≡ left there model
left_left model there there' = ap (left there') (left_settled model there) ∙ same_settled (left there model).records there' ∙ sym (left_settled model there)

left_taken : (model : Disk FrameText) → ((there : Bool) → AreTaken at_first (left there model).records) → (there there' : Bool) → AreTaken at_first (left there' (left there model)).records
left_taken model are there there' = subst (λ d. AreTaken at_first d.records) (sym (left_left model there there')) (are there)

doubt_taken : (taken : List FrameText) (frame : FrameText) → AreTaken at_first taken → IsTaken (taken_all at_first taken) frame → (there : Bool) → AreTaken at_first (left there (in_doubt (settled taken) frame)).records
doubt_taken taken frame are is true = AreTaken-push at_first taken frame are is
doubt_taken taken frame are is false = are

-- A side that runs, and one that doesn't.

abbrev part_of : Disk FrameText → Option (List FrameText) → Option Stop → ServerPart
part_of model taken stop = record { disk = model; taken = taken; stop = stop }

abbrev running_part : List FrameText → Option Stop → ServerPart
running_part taken stop = record { disk = settled taken; taken = Some taken; stop = stop }

pub serves_server : (taken : List FrameText) (store : StoreView) (disk : MemDisk) (stop : Option code.Stop) (m : Option Stop) → Serves taken store disk → m ≡ stop_in stop → IfSome m (λ s. 0 < s.call) → IsServer (running_part taken m) (Some store) disk stop
serves_server taken store disk stop m s e comes = record {
  disk_is = holds_disk (bodies taken) store.journal disk (record { whole = s.whole; is = s.is.journal_is });
  are_taken = λ there. subst (λ d. AreTaken at_first d.records) (sym (same_settled taken there)) s.is.are_taken;
  runs = (refl, s);
  stop_is = e;
  to_come = comes;
}

pub gone_server : (model : Disk FrameText) (disk : MemDisk) (stop : Option code.Stop) (m : Option Stop) → IsDiskOfFrames model disk → ((there : Bool) → AreTaken at_first (left there model).records) → m ≡ stop_in stop → IfSome m (λ s. 0 < s.call)
    → IsServer (record { disk = model; taken = None; stop = m }) None disk stop
gone_server model disk stop m is are e comes = record { disk_is = is; are_taken = are; runs = tt; stop_is = e; to_come = comes }

-- the part that such a side runs
pub record IsRunning (part : ServerPart) (store : StoreView) (disk : MemDisk) (stop : Option code.Stop) : Type 0 where
  pub frames : List FrameText
  pub part_is : part ≡ running_part frames (stop_in stop)
  pub serves : Serves frames store disk
  pub to_come : IfSome (stop_in stop) (λ s. 0 < s.call)

pub running : (part : ServerPart) (store : StoreView) (disk : MemDisk) (stop : Option code.Stop) → IsServer part (Some store) disk stop → IsRunning part store disk stop
running part store disk stop is = by part.disk part.taken part.stop is.runs is.stop_is is.to_come
  where
    by : (model : Disk FrameText) (taken : Option (List FrameText)) (m : Option Stop) → Runs model taken (Some store) disk → m ≡ stop_in stop → IfSome m (λ s. 0 < s.call) → IsRunning (record { disk = model; taken = taken; stop = m }) store disk stop
    by model None m runs e comes = absurd runs
    by model (Some taken) m runs e comes = record {
      frames = taken;
      part_is = λ i. record { disk = (runs.0) i; taken = Some taken; stop = e i };
      serves = runs.1;
      to_come = subst (λ o. IfSome o (λ s. 0 < s.call)) e comes;
    }

pub resting : (part : ServerPart) (disk : MemDisk) (stop : Option code.Stop) → IsServer part None disk stop → part ≡ part_of part.disk None (stop_in stop)
resting part disk stop is = by part.disk part.taken part.stop is.runs is.stop_is
  where
    by : (model : Disk FrameText) (taken : Option (List FrameText)) (m : Option Stop) → Runs model taken None disk → m ≡ stop_in stop
        → part_of model taken m ≡ part_of model None (stop_in stop)
    by model None m runs e = ap (part_of model None) e
    by model (Some taken) m runs e = absurd runs

-- Stops.

pub unmet_in : (stop : Option code.Stop) (calls : ℕ) (there : Bool) → IsUnmet stop calls → EndsCalling calls (Made there) (stop_in stop)
unmet_in None calls there u = tt
unmet_in (Some s) calls there u = u

pub met_in : (stop : Option code.Stop) (calls : ℕ) (there : Bool) → IsMet stop calls → EndsCalling calls (Crashes there) (stop_in stop)
met_in stop calls there met = (record { call = (met.0).call; pick = (met.0).pick }, ap stop_in met.1, met.2)

pub later_comes : (calls : ℕ) (stop : Option Stop) → IfSome (later calls stop) (λ s. 0 < s.call)
later_comes calls None = tt
later_comes calls (Some s) = by (nat_lt calls s.call) refl
  where
    by : (b : Bool) → nat_lt calls s.call ≡ b → IfSome {T = Stop} (if b then Some (record { call = s.call - calls; pick = s.pick }) else None) (λ s. 0 < s.call)
    by true e = grind (arith, e)
    by false e = tt

abbrev stop_at : (call pick : ℕ) → Stop
stop_at call pick = record { call = call; pick = pick }

-- a stop that is to come is the same after no calls
pub later_none : (stop : Option Stop) → IfSome stop (λ s. 0 < s.call) → later 0 stop ≡ stop
later_none None comes = refl
later_none (Some s) comes = by s.call s.pick comes
  where
    kept : (call pick : ℕ) (b : Bool) → b ≡ true → (if b then Some (stop_at (call - 0) pick) else None) ≡ Some (stop_at call pick)
    kept call pick true e = let same : call - 0 ≡ call = omega arith in ap (λ n. Some (stop_at n pick)) same
    kept call pick false e = cc

    by : (call pick : ℕ) → 0 < call → later 0 (Some (record { call = call; pick = pick })) ≡ Some (record { call = call; pick = pick })
    by call pick some = kept call pick (nat_lt 0 call) (let e : nat_lt 0 call ≡ true = grind (arith, some) in e)

-- what is left of a stop that is to come, after no call of the disk, and after calls that were counted
pub left_same : (before after : MemDisk) (stop : Option code.Stop) → after ≡ before → IfSome (stop_in stop) (λ s. 0 < s.call) → IsLeftOf before stop after stop
left_same before after stop same comes =
    let count = ap next_call_of same in
    let none : next_call_of after - next_call_of before ≡ 0 = omega (arith, count) in
    sym (later_none (stop_in stop) comes) ∙ sym (ap (λ n. later n (stop_in stop)) none)

pub left_counted : (before after : MemDisk) (stop now : Option code.Stop) (calls : ℕ) → calls ≡ next_call_of after - next_call_of before → stop_in now ≡ later calls (stop_in stop) → IsLeftOf before stop after now
left_counted before after stop now calls counted is = is ∙ ap (λ n. later n (stop_in stop)) counted

-- Frames.

module _ (f : KeyedFn) (taken : List FrameText) (frame : FrameText) (stop stop' : Option code.Stop) (calls : ℕ) (store' : StoreView) (disk' : MemDisk) where
  abbrev old : ServerPart
  old = running_part taken (stop_in stop)

  abbrev IsDone : Delivered → Option StoreView → Type 0
  IsDone delivered store = (new : ServerPart) × Delivers f old (Some taken) frame delivered new × IsServer new store disk' stop'

  pub took : (q : ℕ) (delivered : Delivered) → IsHandled f taken frame stop (handled.Took q) calls store' disk' → IsAnsweredBy (Made true) frame delivered → stop_in stop' ≡ later calls (stop_in stop) → IsDone delivered (Some store')
  took q delivered h answered e = (
    taking old taken frame calls (Made true),
    inl (record { is_taken = h.1; calls = calls; end = Made true; ends = unmet_in stop calls true h.0; answered = answered; is = refl }),
    serves_server (taken ++ frame ∷ []) store' disk' stop' (later calls (stop_in stop)) h.3 (sym e) (later_comes calls (stop_in stop)),
  )

  pub stopped : AreTaken at_first taken → IsHandled f taken frame stop handled.Stopped calls store' disk' → stop' ≡ None → IsDone Stopped None
  stopped are h e = (
    taking old taken frame calls (Crashes h.2),
    inl (record { is_taken = h.1; calls = calls; end = Crashes h.2; ends = met_in stop calls h.2 h.0; answered = refl; is = refl }),
    gone_server (left h.2 (in_doubt (settled taken) frame)) disk' stop' None h.3 (left_taken (in_doubt (settled taken) frame) (doubt_taken taken frame are h.1) h.2) (sym (ap stop_in e)) tt,
  )

  pub broken : AreTaken at_first taken → IsHandled f taken frame stop handled.Broken calls store' disk' → stop_in stop' ≡ later calls (stop_in stop) → IsDone Broken None
  broken are h e = (
    taking old taken frame calls Breaks,
    inl (record { is_taken = h.1; calls = calls; end = Breaks; ends = tt; answered = refl; is = refl }),
    gone_server (in_doubt (settled taken) frame) disk' stop' (later calls (stop_in stop)) h.2 (doubt_taken taken frame are h.1) (sym e) (later_comes calls (stop_in stop)),
  )

  pub replied : IfSome (stop_in stop) (λ s. 0 < s.call) → (delivered : Delivered) → (IsTaken (taken_all at_first taken) frame → ⊥) → IsUntaken f taken frame delivered → Serves taken store' disk' → stop' ≡ stop → IsDone delivered (Some store')
  replied comes delivered not answered s e =
      (old, inr (record { not_taken = not; answered = answered; is = refl }), serves_server taken store' disk' stop' (stop_in stop) s (sym (ap stop_in e)) comes)

  -- without memory, whether the frame is taken or not
  pub no_memory : IfSome (stop_in stop) (λ s. 0 < s.call) → (taken_or_not : IsTaken (taken_all at_first taken) frame ⊎ (IsTaken (taken_all at_first taken) frame → ⊥)) → Serves taken store' disk' → stop' ≡ stop → IsDone NoMemory (Some store')
  no_memory comes (inl is) s e = (
    old,
    inl (record { is_taken = is; calls = 0; end = Lacks; ends = tt; answered = refl; is = refl }),
    serves_server taken store' disk' stop' (stop_in stop) s (sym (ap stop_in e)) comes,
  )
  no_memory comes (inr not) s e =
      (old, inr (record { not_taken = not; answered = inl refl; is = refl }), serves_server taken store' disk' stop' (stop_in stop) s (sym (ap stop_in e)) comes)

-- Halts and starts.

-- a server that runs, of which a crash leaves the same
pub halts_running : (part : ServerPart) (store : StoreView) (disk disk' : MemDisk) (stop : Option code.Stop) → IsServer part (Some store) disk stop
    → ((disk' ≡ disk) ⊎ ((m : Disk (List ℕ)) → IsDiskOf m disk → (there : Bool) × IsDiskOf (left there m) disk')) → IsServer (halted part) None disk' None
halts_running part store disk disk' stop is left_or_same =
    let r = running part store disk stop is in
    subst (λ p. IsServer (halted p) None disk' None) (sym r.part_is)
    (gone_server (settled r.frames) disk' None None (by left_or_same (serves_server r.frames store disk stop (stop_in stop) r.serves refl r.to_come).disk_is) (serves_server r.frames store disk stop (stop_in stop) r.serves refl r.to_come).are_taken refl tt)
  where
    frames : List FrameText
    frames = (running part store disk stop is).frames

    by : ((disk' ≡ disk) ⊎ ((m : Disk (List ℕ)) → IsDiskOf m disk → (there : Bool) × IsDiskOf (left there m) disk')) → IsDiskOfFrames (settled frames) disk → IsDiskOfFrames (settled frames) disk'
    by (inl same) now = subst (λ d. IsDiskOfFrames (settled frames) d) (sym same) now
    by (inr leaves) now = let one = left_frames (settled frames) disk disk' leaves now in subst (λ m. IsDiskOfFrames m disk') (same_settled frames one.0) one.1

pub halts_resting : (part : ServerPart) (disk : MemDisk) (stop : Option code.Stop) → IsServer part None disk stop → IsServer (halted part) None disk stop
halts_resting part disk stop is =
    subst (λ p. IsServer (halted p) None disk stop) (sym (resting part disk stop is)) (gone_server part.disk disk stop (stop_in stop) is.disk_is is.are_taken refl (subst (λ o. IfSome o (λ s. 0 < s.call)) is.stop_is is.to_come))

-- a start of a server that was halted
module _ (part : ServerPart) (stop stop' : Option code.Stop) (calls : ℕ) (disk disk' : MemDisk) (is : IsServer (halted part) None disk stop) where
  pub opened_server : (store : StoreView) → IsOpened part.disk stop (Ok store) calls disk' → stop_in stop' ≡ later calls (stop_in stop) → (new : ServerPart) × Starts part (Ok tt) new × IsServer new (Some store) disk' stop'
  opened_server store o e =
      let there = (o.1).0 in (
        starting part calls (Made there),
        record { calls = calls; end = Made there; ends = subst (EndsCalling calls (Made there)) (sym is.stop_is) (unmet_in stop calls there o.0); result_is = refl; is = refl },
        subst (λ d. IsServer (record { disk = d; taken = Some (left there part.disk).records; stop = later calls (stop_before part.taken part.stop) }) (Some store) disk' stop') (sym (left_settled part.disk there))
            (serves_server (left there part.disk).records store disk' stop' (later calls (stop_before part.taken part.stop)) (o.1).1 (ap (later calls) is.stop_is ∙ sym e) (later_comes calls (stop_before part.taken part.stop))),
      )

  stopped_server : IsOpened part.disk stop (Err unstarted.Stopped) calls disk' → stop' ≡ None → (new : ServerPart) × Starts part (Err unstarted.Stopped) new × IsServer new None disk' stop'
  stopped_server o e =
      let there = (o.1).0 in (
        starting part calls (Crashes there),
        record { calls = calls; end = Crashes there; ends = subst (EndsCalling calls (Crashes there)) (sym is.stop_is) (met_in stop calls there o.0); result_is = refl; is = refl },
        gone_server (left there part.disk) disk' stop' None (o.1).1 (left_taken part.disk is.are_taken there) (sym (ap stop_in e)) tt,
      )

  broken_server : IsDiskOfFrames part.disk disk' → stop_in stop' ≡ later calls (stop_in stop) → (new : ServerPart) × Starts part (Err unstarted.Broken) new × IsServer new None disk' stop'
  broken_server on e = (
    starting part calls Breaks,
    record { calls = calls; end = Breaks; ends = tt; result_is = refl; is = refl },
    gone_server part.disk disk' stop' (later calls (stop_before part.taken part.stop)) on is.are_taken (ap (later calls) is.stop_is ∙ sym e) (later_comes calls (stop_before part.taken part.stop)),
  )

  pub unstarted_server : (why : Unstarted) → IsOpened part.disk stop (Err why) calls disk' → (why ≡ unstarted.Stopped → stop' ≡ None) → (why ≡ unstarted.Broken → stop_in stop' ≡ later calls (stop_in stop))
      → (new : ServerPart) × Starts part (Err why) new × IsServer new None disk' stop'
  unstarted_server unstarted.Stopped o gone later_on = stopped_server o (gone refl)
  unstarted_server unstarted.Broken o gone later_on = broken_server o (later_on refl)

-- Stop events.

pub stops_now : (part : ServerPart) (store : Option StoreView) (disk disk' : MemDisk) (stop : Option code.Stop) (call pick : ℕ) → call ≡ 0 → IsServer part store disk stop
    → ((m : Disk (List ℕ)) → IsDiskOf m disk → (there : Bool) × IsDiskOf (left there m) disk') → (there : Bool) × IsServer (stopping part call pick there) None disk' None
stops_now part store disk disk' stop call pick now is leaves =
    let one = left_frames part.disk disk disk' leaves is.disk_is in
    (one.0, subst (λ n. IsServer (stopping part n pick one.0) None disk' None) (sym now) (gone_server (left one.0 part.disk) disk' None None one.1 (left_taken part.disk is.are_taken one.0) refl tt))

runs_same : (model : Disk FrameText) (taken : Option (List FrameText)) (store : Option StoreView) (disk disk' : MemDisk)
    → ((payloads : List (List ℕ)) (journal : Journal) → Holds payloads journal disk → Holds payloads journal disk') → Runs model taken store disk → Runs model taken store disk'
runs_same model None None disk disk' holds runs = runs
runs_same model None (Some s) disk disk' holds runs = runs
runs_same model (Some taken) None disk disk' holds runs = runs
runs_same model (Some taken) (Some s) disk disk' holds runs =
    let now = holds (bodies taken) s.journal (record { whole = runs.1.whole; is = runs.1.is.journal_is }) in
    (runs.0, record { whole = now.whole; is = record { are_taken = runs.1.is.are_taken; state_is = runs.1.is.state_is; journal_is = now.is } })

pub stops_later : (part : ServerPart) (store : Option StoreView) (disk disk' : MemDisk) (stop : Option code.Stop) (call pick : ℕ) → (call ≡ 0 → ⊥) → IsServer part store disk stop
    → ((m : Disk (List ℕ)) → IsDiskOf m disk → IsDiskOf m disk') → ((payloads : List (List ℕ)) (journal : Journal) → Holds payloads journal disk → Holds payloads journal disk')
    → (there : Bool) × IsServer (stopping part call pick there) store disk' (Some (record { call = call; pick = pick }))
stops_later part store disk disk' stop zero pick some is same holds = absurd (some refl)
stops_later part store disk disk' stop (suc call) pick some is same holds = (
  true,
  record {
    disk_is = same (spelled part.disk) is.disk_is;
    are_taken = is.are_taken;
    runs = runs_same part.disk part.taken store disk disk' holds is.runs;
    stop_is = refl;
    to_come = omega arith;
  },
)

pub either : {T E P Q : Type 0} (r : Result T E) → OnOk r P → OnErr r Q → Q ⊎ P
either (Ok x) p q = inr p
either (Err e) p q = inl q

pub halts : (part : ServerPart) (store : Option StoreView) (disk disk' : MemDisk) (stop : Option code.Stop) (b : Bool) → is_some store ≡ not b → b ≡ false → IsServer part store disk stop
    → ((disk' ≡ disk) ⊎ ((m : Disk (List ℕ)) → IsDiskOf m disk → (there : Bool) × IsDiskOf (left there m) disk')) → IsServer (halted part) None disk' None
halts part None disk disk' stop b some e is left_or_same = let clash : false ≡ true = some ∙ ap not e in cc
halts part (Some s) disk disk' stop b some e is left_or_same = halts_running part s disk disk' stop is left_or_same

-- whether a server takes a frame
pub taken_or_not : (s : ServerState) (frame : FrameText) → InGrammar frame → IsTaken s frame ⊎ (IsTaken s frame → ⊥)
taken_or_not s frame grammar = by (update_number frame) (refusal s frame) refl refl
  where
    by : (number : Option ℕ) (refused : Option ReplyText) → update_number frame ≡ number → refusal s frame ≡ refused → IsTaken s frame ⊎ (IsTaken s frame → ⊥)
    by None refused e r = inr (λ is. let some : IsSome {T = ℕ} None = subst (λ (o : Option ℕ). IsSome o) e is.update in cc)
    by (Some q) (Some reply) e r = inr (refused_untaken s frame reply r)
    by (Some q) None e r = inl (record { update = subst (λ (o : Option ℕ). IsSome o) (sym e) refl; grammar = grammar; accepted = r })
