-- What a run sends is what the simulator makes of its history: all that passes, and over every link the first of what is sent.
use Rattle.std.proofs.Common.{◌≡◌, ℕ, List, Some, None, map, take, refl, sym, ap, ◌∙◌}
use Rattle.std.specs.Prelude.{Option}
use Rattle.std.proofs.lemmas.List.{take-map}
use Rattle.client_registry.proofs.HistoryLaws.{IsKept-first}
use Rattle.client_registry.specs.Histories.{IsKept, IsWhole}
use Rattle.client_registry.specs.Run.{History}
use Rattle.keyed_fn.specs.KeyedFn.{KeyedFn}
use Rattle.sse_frames.specs.Exchange.{sent_among}
use Rattle.sse_frames.specs.Frames.{FrameText, frame_bytes}
use Rattle.sse_model.proofs.HistoryLaws.{sent_among-session}
use Rattle.def_script_meaning.proofs.Whole.{IsWhole-first}
use Rattle.def_script_meaning.proofs.Sent.{frames_with_hello, sent_first}
use Rattle.def_script_meaning.specs.Carries.{Outside}
use Rattle.def_script_meaning.specs.Goes.{GoesFirst}
use Rattle.def_script_meaning.specs.Headline.{SendsSimulated}
use Rattle.def_script_meaning.specs.Meaning.{Meaning}
use Rattle.def_script_meaning.specs.Runs.{Ended}
use Rattle.def_script_meaning.specs.Session.{session_with, simulated_with}
use Rattle.def_leakage.proofs.Sessions.{session_is_simulated}

-- all that passes under a key is what the simulator makes
pub session_with-simulated : (f : KeyedFn) (key : Option (List ℕ)) (h : History) → IsWhole h → IsKept h → simulated_with f key h ≡ Some (session_with f key h)
session_with-simulated f None h whole kept = refl
session_with-simulated f (Some key) h whole kept = session_is_simulated f key h whole kept

-- the frames of a session
pub frames_among : (f : KeyedFn) (key : Option (List ℕ)) (h : History) → frames_with_hello f key h ≡ sent_among (session_with f key h)
frames_among f None h = refl
frames_among f (Some key) h = sym (sent_among-session f key h)

-- of the history up to where it stopped, the command in hand included, and whatever the link replies
pub sends_simulated : (f : KeyedFn) (m : Meaning) (now : Outside) (end : Ended) → GoesFirst f m now end → IsWhole m.history → IsKept m.history → SendsSimulated f end.key end.history now.told end.outside.told
sends_simulated f m now end g whole kept =
    let first = sent_first f m now end g in record {
      events = first.events;
      adds = first.adds;
      passed = session_with f end.key end.history;
      made = session_with-simulated f end.key end.history (IsWhole-first end.history m.history g.history whole) (IsKept-first end.history m.history g.history kept);
      n = first.count;
      sent =
          first.sent
          ∙ commuted first.count (frames_with_hello f end.key end.history)
          ∙ ap (λ frames. take first.count (map frame_bytes frames)) (frames_among f end.key end.history);
    }
  where
    commuted : (n : ℕ) (frames : List FrameText) → map frame_bytes (take n frames) ≡ take n (map frame_bytes frames)
    commuted n frames = sym (take-map frame_bytes n frames)
