-- What an answer makes of a client.
use Rattle.std.proofs.Common.{◌≡◌, ◌≢◌, ℕ, ◌+◌, ◌-◌, ◌<◌, ◌==◌, Bool, true, false, List, length, Option, None, Some, Result, Ok, Err, inl, inr, sym, ap, ◌∙◌, subst, arith}
use Rattle.std.specs.Prelude.{◌^◌, IfSome, if◌then◌else◌, option_map}
use Rattle.client_core.specs.Owes.{Owes, last_frames}
use Rattle.client_core.specs.ResumeFaults.{collision_fault}
use Rattle.client_core.specs.Resumes.{IsWithin, Resumes, first_of_last, last_collision}
use Rattle.client_core.specs.StandsFor.{StandsFor}
use Rattle.client_core.specs.States.{BehindState, ClientOf, ReadyState, RecordedState}
use Rattle.client_core.specs.TakenViews.{AfterReply, first_number}
use Rattle.client_core.specs.declared.fresh.Fresh.{Fresh}
use Rattle.client_core.specs.declared.restored.Restored.TheVariants as restored
use Rattle.client_core.specs.declared.resume_fault.ResumeFault.{ResumeFault}
use Rattle.client_core.specs.declared.resume_fault.ResumeFault.TheVariants as faults
use Rattle.client_core.specs.declared.resumed.Resumed.TheVariants as resumed
use Rattle.client_core.specs.declared.taken.Taken.TheVariants as taken
use Rattle.client_registry.specs.Epochs.{begins, key_now}
use Rattle.client_registry.specs.Histories.{frames_in}
use Rattle.client_registry.specs.Run.{Epochs, History, Offsets, Run, last_run}
use Rattle.keyed_fn.specs.KeyedFn.{KeyedFn}
use Rattle.sse_frames.specs.Replies.{ReplyText, Next, Took, Number, Clash, Page, BadList, NoMemory, StoreFault, BadFrame, OutOfPlace, reply_bytes}
use Rattle.world_model.specs.World.{Phase, Rests, Sends}
use Rattle.world_client.proofs.Histories.{last_within}
use Rattle.world_client.specs.Answering.{GoesOnAt, GoesOnBehind, GoesOnFrom, next_told}
use Rattle.world_client.specs.Clients.{IsClientIn, IsGreeting, IsResting, IsRestoredOf, IsSending}
use Rattle.world_client.specs.Histories.{CanExpect, IsOfClient, key_marks, phase_at}
use Rattle.world_client.specs.declared.state.Gone.{Gone}
use Rattle.world_client.specs.declared.state.Gone.TheVariants as gone
use Rattle.world_client.specs.declared.state.State.{State}
use Rattle.world_client.specs.declared.state.State.TheVariants as states

is_equal : (n m : ℕ) → n ≡ m → (n == m) ≡ true
is_equal n m e = grind (arith, e)

is_other : (n m : ℕ) → n < m → (n == m) ≡ false
is_other n m l = grind (arith, l)

abbrev phase_by : ℕ → Bool → Phase (List ℕ)
phase_by n b = if b then Rests else Sends n

module _ (f : KeyedFn) (first : List ℕ) (es : Epochs) where
  abbrev key : List ℕ
  key = key_now first es

  abbrev keys : ℕ → List ℕ
  keys epoch = key_now first es

  abbrev o : Offsets
  o = begins es

  abbrev run : Run
  run = last_run es

  abbrev low : ℕ
  low = first_of_last f key o run

  abbrev frames : ℕ
  frames = length (last_frames f keys o run)

  -- a client whose server lacks no frame rests, and one whose server lacks some sends them
  rests_at : (next : ℕ) (client : ClientOf ReadyState) → next ≡ frames_in (Some es) → IsResting f first es client → IsClientIn f first (Some es) (phase_at (Some es) next) (states.Resting client)
  rests_at next client whole is = subst (λ (b : Bool). IsClientIn f first (Some es) (phase_by next b) (states.Resting client)) (sym (is_equal next (frames_in (Some es)) whole)) is

  sends_at : (next : ℕ) (client : ClientOf BehindState) → next < frames_in (Some es) → IsSending f first es next client → IsClientIn f first (Some es) (phase_at (Some es) next) (states.Sending client)
  sends_at next client left is = subst (λ (b : Bool). IsClientIn f first (Some es) (phase_by next b) (states.Sending client)) (sym (is_other next (frames_in (Some es)) left)) is

  -- A client that was rebuilt.

  module _ (next : ℕ) where
    pub resumed_ready : (client : ClientOf ReadyState) → Resumes f key o run next (Ok (resumed.Ready client)) → client.state.past.marks.items ≡ key_marks f first es → GoesOnAt f first (Some es) next (Ok (states.Resting client))
    resumed_ready client is marks = (
      (omega (arith, is.1), omega (arith, is.1)),
      rests_at next client is.1 (record { key = is.0; stands = is.2; marks = marks }),
    )

    pub resumed_behind : (client : ClientOf BehindState) → Resumes f key o run next (Ok (resumed.Behind client)) → client.state.ready.past.marks.items ≡ key_marks f first es → GoesOnAt f first (Some es) next (Ok (states.Sending client))
    resumed_behind client is marks = (is.0, sends_at next client is.1 (record { key = is.2.0; low = is.0.0; owes = is.2.2; number = is.2.1; marks = marks }))

    pub resumed_without_memory : (fault : ResumeFault) → Resumes f key o run next (Err fault) → fault ≡ faults.NoMemory → IsWithin f key o run next
    resumed_without_memory fault (inl elsewhere) is = absurd (cc)
    resumed_without_memory fault (inr (inl clash)) is = clash.0
    resumed_without_memory fault (inr (inr memory)) is = memory.0

    pub resumed_elsewhere : (fault : ResumeFault) → last_collision f keys o run ≡ None → Resumes f key o run next (Err fault) → fault ≢ faults.NoMemory → IsWithin f key o run next → ⊥
    resumed_elsewhere fault clear (inl elsewhere) other within = elsewhere.1 within
    resumed_elsewhere fault clear (inr (inl clash)) other within =
        let none : None ≡ Some fault = sym (ap (λ c. option_map collision_fault c) clear) ∙ clash.2 in
        cc
    resumed_elsewhere fault clear (inr (inr memory)) other within = other memory.1

  -- A client that sends.

  module _ (next : ℕ) (client : ClientOf BehindState) (is : IsSending f first es next client) (reply : List ℕ) where
    pub taken_behind : (after : ClientOf BehindState) → AfterReply client reply (taken.Behind after) → Owes f keys o run (next - low + 1) after.state → GoesOnBehind f first es next reply (Ok (states.Sending after))
    taken_behind after comes owes =
        let place : next - low + 1 ≡ next + 1 - low = omega (arith, is.low) in (
          comes.0 ∙ ap (λ n. reply_bytes (Took n)) is.number,
          sends_at (next + 1) after (omega (arith, owes.some, is.low, last_within f keys o run)) (record {
            key = comes.1 ∙ is.key;
            low = omega (arith, is.low);
            owes = subst (λ k. Owes f keys o run k after.state) place owes;
            number = comes.3 ∙ ap (λ n. n + 1) is.number;
            marks = ap (λ (r : ReadyState). r.past.marks.items) comes.2 ∙ is.marks;
          }),
        )

    pub taken_ready : (after : ClientOf ReadyState) → AfterReply client reply (taken.Ready after) → (next - low + 1 ≡ frames) × StandsFor f keys o run after.state → GoesOnBehind f first es next reply (Ok (states.Resting after))
    taken_ready after comes owes = (
      comes.0 ∙ ap (λ n. reply_bytes (Took n)) is.number,
      rests_at (next + 1) after (omega (arith, owes.0, is.low, last_within f keys o run))
          (record { key = comes.1 ∙ is.key; stands = owes.1; marks = ap (λ (r : ReadyState). r.past.marks.items) comes.2 ∙ is.marks }),
    )

    pub taken_stopped : reply ≢ reply_bytes (Took (first_number client.state)) → GoesOnBehind f first es next reply (Err gone.Unwanted)
    taken_stopped other e = other (e ∙ ap (λ n. reply_bytes (Took n)) (sym is.number))

-- the bytes of a Next reply are those of its number
pub next_spelled : (r : ReplyText) (bytes : List ℕ) → bytes ≡ reply_bytes r → IfSome (next_told r) (λ q. bytes ≡ reply_bytes (Next q))
next_spelled (Next q) bytes e = e
next_spelled (Took q) bytes e = tt
next_spelled (Number q) bytes e = tt
next_spelled (Clash what place) bytes e = tt
next_spelled (Page last ids) bytes e = tt
next_spelled BadList bytes e = tt
next_spelled NoMemory bytes e = tt
next_spelled StoreFault bytes e = tt
next_spelled (BadFrame reason) bytes e = tt
next_spelled OutOfPlace bytes e = tt

-- a client that greets goes on at the number that it was told
module _ (f : KeyedFn) (first : List ℕ) (h : History) (reply : List ℕ) (told : Option ℕ) (found : IfSome told (λ q. reply ≡ reply_bytes (Next q))) (only : (q : ℕ) → q < 2 ^ 32 → reply ≡ reply_bytes (Next q) → told ≡ Some q) where
  pub goes_on_at : (next : ℕ) (result : Result State Gone) → told ≡ Some next → GoesOnAt f first h next result → GoesOnFrom f first h reply result
  goes_on_at next (Ok state) is at = (next, subst (λ (x : Option ℕ). IfSome x (λ q. reply ≡ reply_bytes (Next q))) is found, at.0, at.1)
  goes_on_at next (Err gone.Unwanted) is at = λ q below spelled within. at (subst (CanExpect f first h) (same q (sym (only q below spelled) ∙ is)) within)
    where
      same : (q : ℕ) → Some q ≡ Some next → q ≡ next
      same q e = cc
  goes_on_at next (Err gone.NoMemory) is at = (next, subst (λ (x : Option ℕ). IfSome x (λ q. reply ≡ reply_bytes (Next q))) is found, at)

  pub unwanted : told ≡ None → GoesOnFrom f first h reply (Err gone.Unwanted)
  unwanted none q below spelled within = let some : None ≡ Some q = sym none ∙ only q below spelled in cc

-- A client that greets, by what it was made of.
module _ (f : KeyedFn) (first : List ℕ) (next : ℕ) where
  pub fresh_at : (h : History) (client : ClientOf Fresh) → IsGreeting f first h (restored.Fresh client) → next ≡ 0 → GoesOnAt f first h next (Ok (states.Fresh client))
  fresh_at None client is zero = (zero, subst (λ (b : Bool). IsClientIn f first None (phase_by next b) (states.Fresh client)) (sym (is_equal next 0 zero)) is)
  fresh_at (Some es) client is zero = absurd is

  pub fresh_elsewhere : (h : History) (client : ClientOf Fresh) → IsGreeting f first h (restored.Fresh client) → (next ≡ 0 → ⊥) → GoesOnAt f first h next (Err gone.Unwanted)
  fresh_elsewhere None client is other = other
  fresh_elsewhere (Some es) client is other = absurd is

  pub recorded_at : (h : History) (client : ClientOf RecordedState) (result : Result State Gone) → IsOfClient f first h → IsGreeting f first h (restored.Recorded client)
      → ((es : Epochs) → IsOfClient f first (Some es) → IsRestoredOf f first es client → GoesOnAt f first (Some es) next result) → GoesOnAt f first h next result
  recorded_at None client result of is goes = absurd is
  recorded_at (Some es) client result of is goes = goes es of is
