-- What a store holds with one event more, and what that says of its file.
use Rattle.std.proofs.Common.{◌≡◌, inr, ℕ, List, [], ◌∷◌, ◌++◌, refl, sym, ap, ◌∙◌, subst, append_assoc}
use Rattle.std.specs.Prelude.{Option, Some, None, IfSome, All}
use Rattle.std.proofs.lemmas.List.{append-nil, map-append}
use Rattle.std.proofs.lemmas.List.Elements.{All-nil}
use Rattle.keyed_fn.specs.KeyedFn.{KeyedFn}
use Rattle.sse_frames.specs.Frames.{FrameText, IsFrame, body_of}
use Rattle.sse_journal.specs.Files.{IsPayload, Gives, file}
use Rattle.sse_journal.proofs.Once.{gives_once}
use Rattle.server_core.specs.State.{ServerState, at_first}
use Rattle.server_core.specs.Step.{taken, step, steps}
use Rattle.sse_server.specs.StoreView.{StoreView, IsStoreOf}
use Rattle.sse_server.specs.Taken.{taken_all, bodies}
use Rattle.def_link_events.specs.Events.{Event, Sent, Received, IsStepped, AreStepped}
use Rattle.def_link_events.specs.Taken.{AreSent, taken_one, frames_taken, bodies_taken, NoneRefused, updates_among}
use Rattle.def_link_events.specs.declared.mark.Mark.{Mark}
use Rattle.def_link_events.proofs.Taken.{AreSent-sent, AreSent-received, AreSent-once, AreStepped-sent, AreStepped-received, frames_taken-push, frames_taken-updates}
use Rattle.sse_link.specs.Stored.{HasTaken, HasStored, IsStored}
use Rattle.sse_link.specs.LinkStates.{LinkState}
use Rattle.sse_link.proofs.StoreSteps.{IsStepOf, Takes, Leaves, step_of}

-- States.

taken_all-append : (s : ServerState) (xs ys : List FrameText) → taken_all s (xs ++ ys) ≡ taken_all (taken_all s xs) ys
taken_all-append s [] ys = refl
taken_all-append s (x ∷ xs) ys = taken_all-append (taken s x) xs ys

-- the frames that are taken lead where the steps lead
taken_all-frames_taken : (f : KeyedFn) (s : ServerState) (frames : List FrameText) → taken_all s (frames_taken f s frames) ≡ (steps f s frames).0
taken_all-frames_taken f s [] = refl
taken_all-frames_taken f s (frame ∷ frames) = by (frames_taken f (step f s frame).0 frames) (step_of f s frame) ∙ taken_all-frames_taken f (step f s frame).0 frames
  where
    by : (rest : List FrameText) → IsStepOf f s frame → taken_all s (taken_one s frame ++ rest) ≡ taken_all (step f s frame).0 rest
    by rest (Takes q some accepted one after took) = ap (λ more. taken_all s (more ++ rest)) one ∙ ap (λ t. taken_all t rest) (sym after)
    by rest (Leaves untaken none after) = ap (λ more. taken_all s (more ++ rest)) none ∙ ap (λ t. taken_all t rest) (sym after)

-- Events.

-- nothing passed yet
pub stored_first : (f : KeyedFn) (content : Option (List ℕ)) (store : StoreView) (images : List ℕ → Type 0) → IfSome content (λ _. HasTaken store content images)
    → IfSome content (λ bytes. HasStored f [] store.state bytes store content images)
stored_first f None store images has = tt
stored_first f (Some bytes) store images has = record {
  before = has.frames;
  began_is = has.is.state_is;
  bytes_are = some_bytes has.is.journal_is.settled.reads;
  payloads_are = has.is.journal_is.payloads_are;
  frames = [];
  sent = refl;
  now_is = λ stepped. subst (λ fs. IsStoreOf fs store (Some bytes) images) (sym (append-nil has.frames)) has.is;
}
  where
    some_bytes : {x y : List ℕ} → Some x ≡ Some y → x ≡ y
    some_bytes e = cc

-- a frame that was sent
pub stored_sent : (f : KeyedFn) (events : List Event) (began : ServerState) (bytes : List ℕ) (store store' : StoreView) (content content' : Option (List ℕ)) (images images' : List ℕ → Type 0) (frame : List ℕ) (mark : Mark) (sent : IsFrame frame)
    → (IsStepped mark → (frames : List FrameText) → IsStoreOf frames store content images → IsStoreOf (frames ++ taken_one store.state sent.frame) store' content' images')
    → HasStored f events began bytes store content images → HasStored f (events ++ Sent frame mark ∷ []) began bytes store' content' images'
stored_sent f events began bytes store store' content content' images images' frame mark sent step has = record {
  before = has.before;
  began_is = has.began_is;
  bytes_are = has.bytes_are;
  payloads_are = has.payloads_are;
  frames = has.frames ++ sent.frame ∷ [];
  sent = AreSent-sent has.frames events sent.frame frame mark has.sent sent.grammar sent.spelled;
  now_is = λ stepped.
      let both = AreStepped-sent events frame mark stepped in
      let is = has.now_is both.0 in
      let some = frames_taken f began has.frames in
      let state : store.state ≡ (steps f began has.frames).0 =
      is.state_is ∙ taken_all-append at_first has.before some ∙ ap (λ s. taken_all s some) (sym has.began_is) ∙ taken_all-frames_taken f began has.frames in
      subst (λ fs. IsStoreOf fs store' content' images')
      (append_assoc has.before some (taken_one store.state sent.frame)
      ∙ ap (λ s. has.before ++ (some ++ taken_one s sent.frame)) state
      ∙ ap (λ fs. has.before ++ fs) (sym (frames_taken-push f began has.frames sent.frame)))
      (step both.1 (has.before ++ some) is);
}

-- a reply that was received
pub stored_received : (f : KeyedFn) (events : List Event) (began : ServerState) (bytes : List ℕ) (store : StoreView) (content : Option (List ℕ)) (images : List ℕ → Type 0) (reply : List ℕ)
    → HasStored f events began bytes store content images → HasStored f (events ++ Received reply ∷ []) began bytes store content images
stored_received f events began bytes store content images reply has = record {
  before = has.before;
  began_is = has.began_is;
  bytes_are = has.bytes_are;
  payloads_are = has.payloads_are;
  frames = has.frames;
  sent = AreSent-received has.frames events reply has.sent;
  now_is = λ stepped. has.now_is (AreStepped-received events reply stepped);
}

-- The file.

pub map_some : {A : Type 0} (o : Option A) (P Q : A → Type 0) → ((x : A) → P x → Q x) → IfSome o P → IfSome o Q
map_some None P Q more has = tt
map_some (Some x) P Q more has = more x has

-- a journal's file gives its records
gives_file : (payloads : List (List ℕ)) → All IsPayload payloads → Gives payloads (file payloads)
gives_file payloads are = inr (record { payloads_are = are; commit = 0; tail = []; are = refl; unset = λ e. refl })

pub IsStored-has : (f : KeyedFn) (told : LinkState) (store : StoreView) (images : List ℕ → Type 0) → IfSome told.began_file (λ bytes. HasStored f told.events told.began bytes store told.file images) → IsStored f told
IsStored-has f told store images has payloads frames are began sent stepped =
    let here : HasStored f told.events told.began (file payloads) store told.file images = subst (λ o. IfSome o (λ bytes. HasStored f told.events told.began bytes store told.file images)) began has in
    let is = here.now_is stepped in
    let same : payloads ≡ bodies here.before =
    gives_once payloads (bodies here.before) (file payloads) (gives_file payloads are) (subst (λ b. Gives (bodies here.before) b) (sym here.bytes_are) (gives_file (bodies here.before) here.payloads_are)) in
    let one : here.frames ≡ frames = AreSent-once here.frames frames told.events here.sent sent in
    is.journal_is.settled.reads
    ∙ ap (λ ps. Some (file ps)) (map-append body_of here.before (frames_taken f told.began here.frames))
    ∙ (λ i. Some (file (sym same i ++ bodies_taken f told.began (one i))))

-- Promise P82, also here
-- from a server that has taken nothing, with the journal of nothing, and where no frame is refused: it is the journal of the updates
pub IsStored-updates : (f : KeyedFn) (told : LinkState) (frames : List FrameText) → IsStored f told → told.began ≡ at_first → told.began_file ≡ Some (file []) → AreSent frames told.events → AreStepped told.events → NoneRefused at_first frames
    → told.file ≡ Some (file (bodies (updates_among frames)))
IsStored-updates f told frames stored began empty sent stepped accepted =
    stored [] frames (All-nil IsPayload) empty sent stepped
    ∙ ap (λ s. Some (file (bodies_taken f s frames))) began
    ∙ ap (λ fs. Some (file (bodies fs))) (frames_taken-updates f at_first frames accepted)
