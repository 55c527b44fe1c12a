-- The wire, the replies, the transcript, the drawn and the probed names of a run's first commands are the first of the run's.
use Rattle.std.proofs.Common.{◌≡◌, ℕ, suc, List, [], ◌∷◌, ◌++◌, take, ap}
use Rattle.client_registry.proofs.OverLaws.{over-append, take-over}
use Rattle.client_registry.specs.Acceptance.{frames_needed}
use Rattle.client_registry.specs.Command.{Command}
use Rattle.client_registry.specs.Over.{over}
use Rattle.client_registry.specs.Run.{Run, Offsets}
use Rattle.client_registry.specs.Setup.{Setup}
use Rattle.sse_frames.specs.Exchange.{Passed, exchanged}
use Rattle.sse_frames.specs.Frames.{FrameText}
use Rattle.sse_model.specs.Drawn.{names_of, drawn_by, drawn, probed_by, probed}
use Rattle.sse_model.specs.Names.{Name, Table}
use Rattle.sse_model.specs.Positions.{entry_positions, block_positions}
use Rattle.sse_model.specs.Transcript.{transcript}
use Rattle.sse_model.specs.Wire.{frames_of_setup, frames_of, next_number, wire, acknowledgements, replies_of, replies}

-- the run of a setup and these commands
abbrev pub run_of : Setup → List Command → Run
run_of s later = record { setup = s; later = later }

-- the run of the first commands
abbrev pub first : ℕ → Run → Run
first n run = run_of run.setup (take n run.later)

-- the frames of a command after these others, by its number among the updates
abbrev pub frames_by : Table → Offsets → Setup → List Command → Command → List FrameText
frames_by t o s past c = frames_of t o.epoch s (next_number o s past) past c

-- these frames, each with its replies
abbrev pub exchanged_by : Table → Offsets → Setup → List Command → Command → List Passed
exchanged_by t o s past c = exchanged (frames_by t o s past c) (replies_of o s past c)

-- the frames of a setup, each with its replies
abbrev pub exchanged_setup : Table → Offsets → Setup → List Passed
exchanged_setup t o s = exchanged (frames_of_setup t o s) (acknowledgements o.frame (frames_needed s))

-- the names that a setup draws
abbrev pub names_of_setup : ℕ → Setup → List Name
names_of_setup epoch s = names_of (entry_positions epoch s) ++ names_of (block_positions epoch s)

module _ (t : Table) (o : Offsets) (s : Setup) (xs ys : List Command) where
  -- the wire of commands and others after them is that of the commands, and then the frames of the others
  pub wire-append : wire t o (run_of s (xs ++ ys)) ≡ wire t o (run_of s xs) ++ over (frames_by t o s) xs ys
  wire-append = ap (λ rest. frames_of_setup t o s ∷ rest) (over-append (frames_by t o s) [] xs ys)

  -- the same of the transcript
  pub transcript-append : transcript t o (run_of s (xs ++ ys)) ≡ transcript t o (run_of s xs) ++ over (exchanged_by t o s) xs ys
  transcript-append = ap (λ rest. exchanged_setup t o s ∷ rest) (over-append (exchanged_by t o s) [] xs ys)

module _ (o : Offsets) (s : Setup) (xs ys : List Command) where
  -- the same of the replies
  pub replies-append : replies o (run_of s (xs ++ ys)) ≡ replies o (run_of s xs) ++ over (replies_of o s) xs ys
  replies-append = ap (λ rest. acknowledgements o.frame (frames_needed s) ∷ rest) (over-append (replies_of o s) [] xs ys)

  -- the same of the drawn names
  pub drawn-append : drawn o (run_of s (xs ++ ys)) ≡ drawn o (run_of s xs) ++ over (drawn_by o.epoch s) xs ys
  drawn-append = ap (λ rest. names_of_setup o.epoch s ∷ rest) (over-append (drawn_by o.epoch s) [] xs ys)

  -- the same of the names that are looked up
  pub probed-append : probed o (run_of s (xs ++ ys)) ≡ probed o (run_of s xs) ++ over (probed_by o.epoch s) xs ys
  probed-append = ap (λ rest. [] ∷ rest) (over-append (probed_by o.epoch s) [] xs ys)

-- Promise P160, also here
-- the frames of the setup and of the first n commands are the wire of these commands
pub take-wire : (t : Table) (o : Offsets) (n : ℕ) (run : Run) → take (suc n) (wire t o run) ≡ wire t o (first n run)
take-wire t o n run = ap (λ rest. frames_of_setup t o run.setup ∷ rest) (take-over (frames_by t o run.setup) n [] run.later)

-- the same of the transcript
pub take-transcript : (t : Table) (o : Offsets) (n : ℕ) (run : Run) → take (suc n) (transcript t o run) ≡ transcript t o (first n run)
take-transcript t o n run = ap (λ rest. exchanged_setup t o run.setup ∷ rest) (take-over (exchanged_by t o run.setup) n [] run.later)

-- Promise P160, also here
-- the same of the replies
pub take-replies : (o : Offsets) (n : ℕ) (run : Run) → take (suc n) (replies o run) ≡ replies o (first n run)
take-replies o n run = ap (λ rest. acknowledgements o.frame (frames_needed run.setup) ∷ rest) (take-over (replies_of o run.setup) n [] run.later)

-- Promise P160, also here
-- the same of the drawn names
pub take-drawn : (o : Offsets) (n : ℕ) (run : Run) → take (suc n) (drawn o run) ≡ drawn o (first n run)
take-drawn o n run = ap (λ rest. names_of_setup o.epoch run.setup ∷ rest) (take-over (drawn_by o.epoch run.setup) n [] run.later)

-- the same of the names that are looked up
pub take-probed : (o : Offsets) (n : ℕ) (run : Run) → take (suc n) (probed o run) ≡ probed o (first n run)
take-probed o n run = ap (λ rest. [] ∷ rest) (take-over (probed_by o.epoch run.setup) n [] run.later)
