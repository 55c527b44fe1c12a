-- What a client sends: of its history's frames the one of its number.
use Rattle.std.proofs.Common.{◌≡◌, ℕ, zero, suc, ◌+◌, ◌-◌, List, [], ◌∷◌, ◌++◌, take, drop, length, map, filter, None, Some, refl, sym, ap, ◌∙◌, arith, append_assoc}
use Rattle.std.specs.Prelude.{flat_map, slice_get, slice_index_or}
use Rattle.std.proofs.lemmas.List.{length-append, length-map, map-append}
use Rattle.client_core.specs.Owes.{last_frames}
use Rattle.client_core.specs.Resumes.{first_of_last}
use Rattle.client_core.specs.States.{BehindState, ClientOf, ReadyState}
use Rattle.client_core.specs.TakenViews.{to_send}
use Rattle.client_core.specs.declared.fresh.Fresh.{Fresh}
use Rattle.client_core.specs.declared.restored.Restored.{Restored}
use Rattle.client_registry.proofs.OverLaws.{length-over}
use Rattle.client_registry.specs.Command.{Command, Add, Delete, Search, is_update}
use Rattle.client_registry.specs.Epochs.{begins, first_begins, key_now, next_begins}
use Rattle.client_registry.specs.Histories.{frames_in}
use Rattle.client_registry.specs.Over.{over}
use Rattle.client_registry.specs.Run.{Epochs, History, From, Renewed, Offsets, Run, at_first, last_run}
use Rattle.client_registry.specs.Sized.{update_frames}
use Rattle.client_registry.specs.WordBytes.{word_bytes}
use Rattle.client_registry.specs.declared.word.Word.{Word}
use Rattle.keyed_fn.specs.KeyFormulas.{token_of}
use Rattle.keyed_fn.specs.KeyedFn.{KeyedFn}
use Rattle.sse_frames.specs.Frames.{FrameText, Hello, SearchFrame, frame_bytes}
use Rattle.sse_model.proofs.Counts.{length-frames_of_setup}
use Rattle.sse_model.specs.Histories.{frames_sent, table_at}
use Rattle.sse_model.specs.Names.{Table}
use Rattle.sse_model.specs.Wire.{frames_of, frames_of_setup, next_number, wire}
use Rattle.world_model.specs.World.{Phase, Greets, Rests, Sends, Asks}
use Rattle.world_client.specs.Answering.{frame_in}
use Rattle.world_client.specs.Clients.{IsClientIn, IsSending}
use Rattle.world_client.specs.Histories.{HasNoSearch, IsOfClient}
use Rattle.world_client.specs.declared.state.State.TheVariants as states

-- the first of the items from a place on is the item at that place
first_from : {A : Type 0} (xs : List A) (k : ℕ) (x : A) → take 1 (drop k xs) ≡ x ∷ [] → slice_get xs k ≡ Some x
first_from [] zero x e = absurd (cc)
first_from [] (suc k) x e = absurd (cc)
first_from (y ∷ ys) zero x e = cc
first_from (y ∷ ys) (suc k) x e = first_from ys k x e

-- an item behind others
seam : {A : Type 0} (xs ys : List A) (n : ℕ) → slice_get (xs ++ ys) (n + length xs) ≡ slice_get ys n
seam [] ys n = let same : n + 0 ≡ n = omega arith in ap (λ k. slice_get ys k) same
seam (x ∷ xs) ys n = let more : n + suc (length xs) ≡ suc (n + length xs) = omega arith in ap (λ k. slice_get (x ∷ xs ++ ys) k) more ∙ seam xs ys n

-- the last list of some, behind the others
last_split : {A : Type 0} (lists : List (List A)) (n : ℕ) → length lists ≡ suc n → flat_map (λ list. list) lists ≡ flat_map (λ list. list) (take n lists) ++ slice_index_or lists n []
last_split [] n e = absurd (omega (arith, e))
last_split (one ∷ []) zero e = append_nil one
  where
    append_nil : {A : Type 0} (xs : List A) → xs ++ [] ≡ xs
    append_nil [] = refl
    append_nil (x ∷ xs) = ap (λ rest. x ∷ rest) (append_nil xs)
last_split (one ∷ two ∷ more) zero e = absurd (omega (arith, e))
last_split (one ∷ more) (suc n) e = ap (λ rest. one ++ rest) (last_split more n (omega (arith, e))) ∙ sym (append_assoc one (flat_map (λ list. list) (take n more)) (slice_index_or more n []))

module _ (t : Table) (o : Offsets) (run : Run) where
  abbrev sends : List Command → Command → List FrameText
  sends past c = frames_of t o.epoch run.setup (next_number o run.setup past) past c

  one_each : (past cs : List Command) → length (flat_map (λ frames. frames) (over sends past cs)) ≡ length cs
  one_each past [] = refl
  one_each past (Add d ∷ cs) = ap (λ (n : ℕ). suc n) (one_each (past ++ Add d ∷ []) cs)
  one_each past (Delete id ∷ cs) = ap (λ (n : ℕ). suc n) (one_each (past ++ Delete id ∷ []) cs)
  one_each past (Search word ∷ cs) = ap (λ (n : ℕ). suc n) (one_each (past ++ Search word ∷ []) cs)

  -- a run without searches sends as many frames as it counts
  length-wire : filter is_update run.later ≡ run.later → length (flat_map (λ frames. frames) (wire t o run)) ≡ update_frames run
  length-wire all =
      let setup = frames_of_setup t o run.setup in
      omega (arith, length-append setup (flat_map (λ frames. frames) (over sends [] run.later)), length-frames_of_setup t o run.setup, one_each [] run.later, ap length all)

  wire_size : length (wire t o run) ≡ suc (length run.later)
  wire_size = omega (arith, length-over sends [] run.later)

module _ (f : KeyedFn) (first : List ℕ) where
  abbrev keys : Epochs → ℕ → List ℕ
  keys es epoch = key_now first es

  -- and so does a history
  length-sent : (es : Epochs) → first_begins es ≡ at_first → HasNoSearch first (Some es) → length (frames_sent f first (Some es)) ≡ frames_in (Some es)
  length-sent (From o run) whole all = omega (arith, length-wire (table_at f first run) o run all, ap (λ (begin : Offsets). begin.frame) whole)
  length-sent (Renewed before own run) whole all =
      omega (arith, length-append (frames_sent f first (Some before)) (flat_map (λ frames. frames) (wire (table_at f own run) (next_begins before) run)), length-sent before whole all.0, length-wire (table_at f own run) (next_begins before) run all.1)

  -- the last command's frames are its last
  split-sent : (es : Epochs) → (front : List FrameText) × (frames_sent f first (Some es) ≡ front ++ last_frames f (keys es) (begins es) (last_run es))
  split-sent (From o run) = (
    flat_map (λ frames. frames) (take (length run.later) (wire (table_at f first run) o run)),
    last_split (wire (table_at f first run) o run) (length run.later) (wire_size (table_at f first run) o run),
  )
  split-sent (Renewed before own run) =
      let sent = wire (table_at f own run) (next_begins before) run in
      let front = flat_map (λ frames. frames) (take (length run.later) sent) in (
        frames_sent f first (Some before) ++ front,
        ap (λ rest. frames_sent f first (Some before) ++ rest) (last_split sent (length run.later) (wire_size (table_at f own run) (next_begins before) run))
            ∙ sym (append_assoc (frames_sent f first (Some before)) front (last_frames f (λ epoch. own) (next_begins before) run)),
      )

  -- the first frame that a client owes is the history's of its number
  pub sent_frame : (es : Epochs) (next : ℕ) (client : ClientOf BehindState) (frame : List ℕ) → IsOfClient f first (Some es) → IsSending f first es next client → take 1 (to_send client.state) ≡ frame ∷ []
      → Some frame ≡ slice_get (map frame_bytes (frames_sent f first (Some es))) next
  sent_frame es next client frame of is first_is =
      let last = last_frames f (keys es) (begins es) (last_run es) in
      let low = first_of_last f (key_now first es) (begins es) (last_run es) in
      let split = split-sent es in
      let found : slice_get (map frame_bytes last) (next - low) ≡ Some frame = first_from (map frame_bytes last) (next - low) frame (sym (ap (take 1) is.owes.owed) ∙ first_is) in
      let whole : map frame_bytes (frames_sent f first (Some es)) ≡ map frame_bytes split.0 ++ map frame_bytes last = ap (map frame_bytes) split.1 ∙ map-append frame_bytes split.0 last in
      let place : next ≡ next - low + length (map frame_bytes split.0) =
      omega (arith, is.low, length-sent es of.whole of.updates, ap length split.1, length-append split.0 last, length-map split.0 frame_bytes) in
      sym ((λ i. slice_get (whole i) (place i)) ∙ seam (map frame_bytes split.0) (map frame_bytes last) (next - low) ∙ found)

  -- In each state.

  pub sent_greeting : (h : History) (phase : Phase (List ℕ)) (client : Restored) → IsClientIn f first h phase (states.Greeting client) → Some (frame_bytes Hello) ≡ frame_in f first h phase
  sent_greeting None Greets client is = refl
  sent_greeting (Some es) Greets client is = refl
  sent_greeting None Rests client is = absurd is
  sent_greeting (Some es) Rests client is = absurd is
  sent_greeting None (Sends next) client is = absurd is
  sent_greeting (Some es) (Sends next) client is = absurd is
  sent_greeting None (Asks word) client is = absurd is
  sent_greeting (Some es) (Asks word) client is = absurd is

  pub none_fresh : (h : History) (phase : Phase (List ℕ)) (client : ClientOf Fresh) → IsClientIn f first h phase (states.Fresh client) → None ≡ frame_in f first h phase
  none_fresh None Greets client is = absurd is
  none_fresh (Some es) Greets client is = absurd is
  none_fresh None Rests client is = refl
  none_fresh (Some es) Rests client is = absurd is
  none_fresh None (Sends next) client is = absurd is
  none_fresh (Some es) (Sends next) client is = absurd is
  none_fresh None (Asks word) client is = absurd is
  none_fresh (Some es) (Asks word) client is = absurd is

  pub none_resting : (h : History) (phase : Phase (List ℕ)) (client : ClientOf ReadyState) → IsClientIn f first h phase (states.Resting client) → None ≡ frame_in f first h phase
  none_resting None Greets client is = absurd is
  none_resting (Some es) Greets client is = absurd is
  none_resting None Rests client is = absurd is
  none_resting (Some es) Rests client is = refl
  none_resting None (Sends next) client is = absurd is
  none_resting (Some es) (Sends next) client is = absurd is
  none_resting None (Asks word) client is = absurd is
  none_resting (Some es) (Asks word) client is = absurd is

  pub sent_sending : (h : History) (phase : Phase (List ℕ)) (client : ClientOf BehindState) (frame : List ℕ) → IsOfClient f first h → IsClientIn f first h phase (states.Sending client) → take 1 (to_send client.state) ≡ frame ∷ []
      → Some frame ≡ frame_in f first h phase
  sent_sending None Greets client frame of is first_is = absurd is
  sent_sending (Some es) Greets client frame of is first_is = absurd is
  sent_sending None Rests client frame of is first_is = absurd is
  sent_sending (Some es) Rests client frame of is first_is = absurd is
  sent_sending None (Sends next) client frame of is first_is = absurd is
  sent_sending (Some es) (Sends next) client frame of is first_is = sent_frame es next client frame of is first_is
  sent_sending None (Asks word) client frame of is first_is = absurd is
  sent_sending (Some es) (Asks word) client frame of is first_is = absurd is

  pub sent_asking : (h : History) (phase : Phase (List ℕ)) (client : ClientOf ReadyState) (asked : Word) (frame : List ℕ) → IsClientIn f first h phase (states.Asking client asked)
      → frame ≡ frame_bytes (SearchFrame (token_of f client.key (word_bytes asked))) → Some frame ≡ frame_in f first h phase
  sent_asking None Greets client asked frame is same = absurd is
  sent_asking (Some es) Greets client asked frame is same = absurd is
  sent_asking None Rests client asked frame is same = absurd is
  sent_asking (Some es) Rests client asked frame is same = absurd is
  sent_asking None (Sends next) client asked frame is same = absurd is
  sent_asking (Some es) (Sends next) client asked frame is same = absurd is
  sent_asking None (Asks word) client asked frame is same = absurd is
  sent_asking (Some es) (Asks word) client asked frame is same = ap (λ bytes. Some bytes) (same ∙ (λ i. frame_bytes (SearchFrame (token_of f (is.0.key i) (is.1 i)))))
