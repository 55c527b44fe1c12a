-- The pads of which a history's frames are made, and the text under each.
use Rattle.std.specs.Prelude.{◌≡◌, Contains, ℕ, List, [], ◌++◌, map, flat_map, slice_get, None, Some}
use Rattle.std.specs.List.{AllByRecursion}
use Rattle.client_registry.specs.Command.{Command, Add, Delete, Search as Searches}
use Rattle.client_registry.specs.Epochs.{joined}
use Rattle.client_registry.specs.Over.{over}
use Rattle.client_registry.specs.Run.{Run, Offsets, History}
use Rattle.client_registry.specs.Setup.{Setup}
use Rattle.keyed_fn.specs.KeyedFn.{KeyedFn}
use Rattle.keyed_fn.specs.Xored.{xored}
use Rattle.sse_frames.specs.Frames.{FrameText, SetupDict, SetupArray, AddFrame}
use Rattle.sse_model.specs.Histories.{table_at}
use Rattle.sse_model.specs.Inputs.{Input, input_at, value_at}
use Rattle.sse_model.specs.Names.{Name, Table, size_at}
use Rattle.sse_model.specs.Positions.{Position, ranks_of, entry_positions, block_positions, addition_positions}
use Rattle.sse_model.specs.Wire.{labels_in}
use Rattle.two_level.specs.Shape.{Shape}
use Rattle.world_model.specs.World.{Message, Hello, Update, Search}

-- the name of a pad, and the text under it
abbrev pub PadText : Type 0
PadText = Name × List ℕ

-- those of these encrypted texts, under these ranks
abbrev pub pad_texts_of : List ℕ → List Position → List PadText
pad_texts_of ranks positions = map (λ p. (p.pad, p.clear ranks)) positions

-- those of a setup in this epoch
abbrev pub first_pad_texts : Table → (epoch : ℕ) → Setup → List PadText
first_pad_texts t epoch s =
    let ranks = ranks_of (labels_in t (block_positions epoch s)) in
    pad_texts_of ranks (entry_positions epoch s) ++ pad_texts_of ranks (block_positions epoch s)

-- those of a command after these others
abbrev pub next_pad_texts : (epoch : ℕ) → Setup → List Command → Command → List PadText
next_pad_texts epoch s past (Add d) = pad_texts_of [] (addition_positions epoch s past d)
next_pad_texts epoch s past (Delete id) = []
next_pad_texts epoch s past (Searches word) = []

-- those of a run: its setup's, and then command by command
abbrev pub pad_texts_in : Table → Offsets → Run → List PadText
pad_texts_in t o run = first_pad_texts t o.epoch run.setup ++ flat_map (λ text. text) (over (next_pad_texts o.epoch run.setup) [] run.later)

-- a text under a pad, which is the keyed function's at an input, under a key
pub record Cover : Type 0 where
  pub key : List ℕ
  pub input : Input
  pub size : ℕ
  pub text : List ℕ

abbrev pub cover_under : (key : List ℕ) → Shape → PadText → Cover
cover_under key shape p =
    let n = p.0 in
    record { key = key; input = input_at n.word n.kind n.number; size = size_at shape n.kind n.number; text = p.1 }

-- all those of a history, epoch by epoch, where the key of the first is this
abbrev pub covers_in : KeyedFn → (key : List ℕ) → History → List Cover
covers_in f key None = []
covers_in f key (Some es) = joined (λ own o run. map (cover_under own run.setup.shape) (pad_texts_in (table_at f own run) o run)) key es

-- the encrypted texts of a frame
abbrev pub texts_in : FrameText → List (List ℕ)
texts_in (SetupDict q width entries) = map (λ e. e.text) entries
texts_in (SetupArray q width blocks) = blocks
texts_in (AddFrame q entries numbers) = map (λ e. e.text) entries
texts_in _ = []

-- an encrypted text is one of these under its pad
abbrev pub IsCovered : KeyedFn → List Cover → (encrypted : List ℕ) → Type 0
IsCovered f covers encrypted = (c : Cover) × Contains covers c × (encrypted ≡ xored c.text (value_at f c.key c.size c.input))

-- each encrypted text of a frame that was sent is
abbrev pub IsCoveredMessage : KeyedFn → List Cover → Message FrameText → Type 0
IsCoveredMessage f covers Hello = Unit {0}
IsCoveredMessage f covers (Update frame) = AllByRecursion (IsCovered f covers) (texts_in frame)
IsCoveredMessage f covers (Search frame) = Unit {0}

-- no two of these texts have one pad: the pad at one input under one key
abbrev pub HaveOwnPads : List Cover → Type 0
HaveOwnPads covers = (i j : ℕ) (a b : Cover) → slice_get covers i ≡ Some a → slice_get covers j ≡ Some b → a.key ≡ b.key → a.input ≡ b.input → i ≡ j
