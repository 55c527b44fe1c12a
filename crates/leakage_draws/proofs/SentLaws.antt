-- Of all that passes for a history the texts of a client are its frames.
use Rattle.std.proofs.Common.{◌≡◌, ℕ, true, false, cond, List, [], ◌∷◌, ◌++◌, length, drop, filter, map, Some, refl, sym, ap, ◌∙◌}
use Rattle.std.specs.Prelude.{flat_map, option_map}
use Rattle.std.proofs.lemmas.List.Concat.{flat_map-append}
use Rattle.std.proofs.lemmas.List.{drop_at}
use Rattle.std.proofs.lemmas.Option.{none-some}
use Rattle.client_registry.specs.Epochs.{AreEpochs, joined, next_begins}
use Rattle.client_registry.specs.Histories.{IsWhole}
use Rattle.client_registry.specs.Run.{Offsets, Epochs, From, Renewed}
use Rattle.sse_frames.specs.Exchange.{Passed, Sent, Received, answers_behind, asked, exchange, expected, first_answer, greeting, sent_among}
use Rattle.sse_frames.specs.Frames.{FrameText, Hello, SetupBegin, SetupDict, SetupArray, SetupEnd, AddFrame, DeleteFrame, SearchFrame, body_of, be32, frame_bytes}
use Rattle.sse_frames.specs.Replies.{ReplyText, Next, Took, Number, Clash, Page, BadList, NoMemory, StoreFault, BadFrame, OutOfPlace, reply_body, reply_bytes}
use Rattle.def_leakage.proofs.Epochs.{simulated_from-epochs}
use Rattle.def_leakage.specs.DrawnValues.{draws}
use Rattle.def_leakage.specs.Histories.{leak_in}
use Rattle.def_relabelling.specs.Comparison.{frames_under}
use Rattle.sse_model.proofs.HistoryLaws.{sent_among-append}
use Rattle.sse_model.specs.Names.{Table}
use Rattle.sse_model.specs.Wire.{wire}
use Rattle.sse_simulator.specs.Leaks.{Draw, Leak}
use Rattle.sse_simulator.specs.Simulator.{answer_of, sim_at_first, simulated_from}
use Rattle.leakage_frames.proofs.BadLaws.{bad_none}
use Rattle.leakage_frames.specs.Steps.{IsFirstBad, bytes_simulated, passed_bytes}
use Rattle.leakage_draws.specs.Sides.{is_frame_body, is_sent}

-- A client's texts are its frames.

frame_body : (frame : FrameText) → is_frame_body (body_of frame) ≡ true
frame_body Hello = refl
frame_body (SetupBegin q b big m a) = refl
frame_body (SetupDict q width entries) = refl
frame_body (SetupArray q width blocks) = refl
frame_body (SetupEnd q) = refl
frame_body (AddFrame q entries numbers) = refl
frame_body (DeleteFrame q numbers) = refl
frame_body (SearchFrame token) = refl

no_frame_body : (reply : ReplyText) → is_frame_body (reply_body reply) ≡ false
no_frame_body (Next q) = refl
no_frame_body (Took q) = refl
no_frame_body (Number q) = refl
no_frame_body (Clash what place) = refl
no_frame_body (Page last ids) = refl
no_frame_body BadList = refl
no_frame_body NoMemory = refl
no_frame_body StoreFault = refl
no_frame_body (BadFrame reason) = refl
no_frame_body OutOfPlace = refl

behind : (n : ℕ) (body : List ℕ) → drop 4 (be32 n ++ body) ≡ body
behind n body = drop_at (be32 n) body 4 (length-be32 n)
  where
    length-be32 : (n : ℕ) → length (be32 n) ≡ 4
    length-be32 n = refl

frame_sent : (frame : FrameText) → is_sent (frame_bytes frame) ≡ true
frame_sent frame = ap is_frame_body (behind (length (body_of frame)) (body_of frame)) ∙ frame_body frame

reply_not_sent : (reply : ReplyText) → is_sent (reply_bytes reply) ≡ false
reply_not_sent reply = ap is_frame_body (behind (length (reply_body reply)) (reply_body reply)) ∙ no_frame_body reply

sent_only : (ps : List Passed) → filter is_sent (map passed_bytes ps) ≡ map frame_bytes (sent_among ps)
sent_only [] = refl
sent_only (Sent frame ∷ ps) =
    let rest = filter is_sent (map passed_bytes ps) in
    ap (λ b. cond b (frame_bytes frame ∷ rest) rest) (frame_sent frame) ∙ ap (λ texts. frame_bytes frame ∷ texts) (sent_only ps)
sent_only (Received reply ∷ ps) =
    let rest = filter is_sent (map passed_bytes ps) in
    ap (λ b. cond b (reply_bytes reply ∷ rest) rest) (reply_not_sent reply) ∙ sent_only ps

none_sent : (rs : List ReplyText) → sent_among (map Received rs) ≡ []
none_sent [] = refl
none_sent (r ∷ rs) = none_sent rs

sent_exchange : (answers : List (List ℕ)) (frames : List FrameText) → sent_among (exchange answers frames) ≡ frames
sent_exchange answers [] = refl
sent_exchange answers (frame ∷ frames) =
    let replies = expected (first_answer answers) (asked frame) in
    let later = answers_behind (asked frame) answers in
    ap (λ sent. frame ∷ sent)
    (sent_among-append (map Received replies) (exchange later frames) ∙ (λ i. none_sent replies i ++ sent_exchange later frames i))

-- All is simulated.

-- the frames of the epochs, command by command
abbrev frames_of : Table → Epochs → List (List FrameText)
frames_of t es = joined (λ key o run. wire t o run) [] es

-- one after another they are those of the session
in_turn : (t : Table) (es : Epochs) → Hello ∷ flat_map (λ fs. fs) (frames_of t es) ≡ frames_under t es
in_turn t es = ap (λ frames. Hello ∷ frames) (by es)
  where
    by : (es : Epochs) → flat_map (λ fs. fs) (frames_of t es) ≡ joined (λ key o run. flat_map (λ fs. fs) (wire t o run)) [] es
    by (From o run) = refl
    by (Renewed before key run) =
        flat_map-append (λ fs. fs) (frames_of t before) (wire t (next_begins before) run) ∙ ap (λ front. front ++ flat_map (λ fs. fs) (wire t (next_begins before) run)) (by before)

abbrev all_passed : List Leak → List (List FrameText) → List Passed
all_passed leaks frames = greeting sim_at_first.next ++ exchange (flat_map answer_of leaks) (flat_map (λ fs. fs) frames)

module _ (t : Table) (es : Epochs) (whole : IsWhole (Some es)) (are : AreEpochs es) where
  -- what the epochs leak, and what they draw
  abbrev leaked : List Leak
  leaked = leak_in (Some es)

  abbrev pub drawn_under : List (List Draw)
  drawn_under = joined (λ key o run. draws t o run) [] es

  made : simulated_from sim_at_first leaked drawn_under ≡ Some (frames_of t es)
  made =
      ap (λ (n : ℕ). simulated_from (record { kept = []; next = n }) leaked drawn_under) (sym (ap (λ (o : Offsets). o.frame) whole))
      ∙ simulated_from-epochs (λ key run. t) [] es [] (sym (ap (λ (o : Offsets). o.command) whole)) are

  some_same : {X : Type 0} (x y : X) → Some x ≡ Some y → y ≡ x
  some_same x y is = cc

  -- what is simulated of their leakage and draws has the frames of the session for a client's texts
  pub sent_session : (leaks : List Leak) (drawn : List (List Draw)) (texts : List (List ℕ)) → leaks ≡ leaked → drawn ≡ drawn_under
      → bytes_simulated leaks drawn ≡ Some texts → filter is_sent texts ≡ map frame_bytes (frames_under t es)
  sent_session leaks drawn texts leaks_are drawn_are is =
      let frames = frames_of t es in
      let all = all_passed leaked frames in
      let same : Some (map passed_bytes all) ≡ Some texts =
      sym (ap (λ fs. option_map (map passed_bytes) (option_map (all_passed leaked) fs)) made)
      ∙ (λ i. bytes_simulated (sym leaks_are i) (sym drawn_are i))
      ∙ is in
      ap (filter is_sent) (some_same (map passed_bytes all) texts same)
      ∙ sent_only all
      ∙ ap (λ fs. map frame_bytes (Hello ∷ fs)) (sent_exchange (flat_map answer_of leaked) (flat_map (λ fs. fs) frames))
      ∙ ap (map frame_bytes) (in_turn t es)

  -- Promise P38, also here
  -- and none of its items names what isn't there
  pub none_refused : (leaks : List Leak) (drawn : List (List Draw)) (command : ℕ) → leaks ≡ leaked → drawn ≡ drawn_under → IsFirstBad command leaks drawn → ⊥
  none_refused leaks drawn command leaks_are drawn_are bad =
      none-some (map passed_bytes (all_passed leaked (frames_of t es)))
      (sym (bad_none command leaks drawn bad)
      ∙ (λ i. bytes_simulated (leaks_are i) (drawn_are i))
      ∙ ap (λ fs. option_map (map passed_bytes) (option_map (all_passed leaked) fs)) made)
