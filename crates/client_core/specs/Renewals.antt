-- The renewal of a client's key after a run: the setup that it makes, its plan, and why it isn't planned.
use Rattle.std.specs.Prelude.{◌≡◌, ℕ, List, [], ◌∷◌, ◌++◌, length, map, Option, None, Some, option_map}
use Rattle.std.specs.List.{AllByRecursion}
use Rattle.std.specs.Option.{option_or}
use Rattle.client_records.specs.Records.{renewal_record}
use Rattle.client_registry.specs.Acceptance.{blocks_of}
use Rattle.client_registry.specs.Collected.{Collected}
use Rattle.client_registry.specs.Documents.{words_of}
use Rattle.client_registry.specs.Epochs.{behind, setup_renewed}
use Rattle.client_registry.specs.Run.{Offsets, Run}
use Rattle.client_registry.specs.Setup.{Setup, setup_with}
use Rattle.client_renewal.specs.Refusals.{renewal_refusal}
use Rattle.client_renewal.specs.declared.renewal_fault.RenewalFault.{RenewalFault}
use Rattle.client_renewal.specs.declared.renewal_fault.RenewalFault.TheVariants as faults
use Rattle.keyed_fn.specs.KeyedFn.{KeyedFn}
use Rattle.keyed_fn.specs.KeyFormulas.{mark_of, plain_key}
use Rattle.sse_frames.specs.Frames.{IsFrame, frame_bytes}
use Rattle.index_setup.specs.Entries.{key_table}
use Rattle.index_setup.specs.declared.fault.BuildFault.{BuildFault}
use Rattle.index_setup.specs.declared.fault.BuildFault.TheVariants as builds
use Rattle.sse_model.specs.Compared.{Collision, Labels, Places, Numbers, collision_of_setup}
use Rattle.sse_model.specs.Wire.{frames_of_setup}
use Rattle.word_keys.specs.HashNumbers.{numbers_of_key}
use Rattle.client_core.specs.Payloads.{renewal_payload}
use Rattle.client_core.specs.Plans.{RenewalPlan}
use Rattle.client_core.specs.States.{BehindState, ReadyState}
use Rattle.client_core.specs.TakenViews.{first_number, to_send}

-- a setup alone
abbrev pub alone : Setup → Run
alone s = record { setup = s; later = [] }

-- how two equal values of a renewal's setup are named; a setup has no revocation numbers
abbrev pub renewal_clash : Collision → RenewalFault
renewal_clash (Labels first second) = faults.LabelClash first second
renewal_clash (Places first second) = faults.PlaceClash first second
renewal_clash (Numbers first second) = faults.NoMemory

-- the fault of a setup that isn't built; an accepted size isn't refused
abbrev pub fault_of_build : BuildFault → Option RenewalFault
fault_of_build (builds.LabelClash first second) = Some (faults.LabelClash first second)
fault_of_build (builds.PlaceClash first second) = Some (faults.PlaceClash first second)
fault_of_build builds.NoMemory = Some faults.NoMemory
fault_of_build (builds.BadParameter which value) = None
fault_of_build (builds.ListTooLong word n) = None
fault_of_build (builds.TooManyBytes n) = None

-- why a setup's values under a key, in this epoch, can't be sent: two of them that have to differ are equal
abbrev pub values_refusal : KeyedFn → List ℕ → ℕ → Setup → Option RenewalFault
values_refusal f key epoch s = option_map renewal_clash (collision_of_setup (key_table f key s) epoch s)

-- why a key isn't renewed after a run and epochs whose keys have these marks: the first cause that applies
abbrev pub renewal_fault : KeyedFn → List ℕ → List (List ℕ) → Offsets → Run → Option RenewalFault
renewal_fault f key marks o run =
    option_or (renewal_refusal marks (mark_of f key) (behind o run).frame (setup_renewed run)) (values_refusal f key (behind o run).epoch (setup_renewed run))

-- the setup that a plan of a renewal makes
abbrev pub planned_setup : RenewalPlan → Setup
planned_setup planned = setup_with planned.docs.documents planned.b planned.big planned.pad

-- a plan with these marks of this setup, of these documents, its first frame under the number n
pub record IsOfDocs (own : List ℕ) (all : List (List ℕ)) (collected : Collected) (s : Setup) (n : ℕ) (planned : RenewalPlan) : Type 0 where
  pub mark : planned.mark ≡ own
  pub marks : planned.marks ≡ all
  pub docs : planned.docs ≡ collected
  pub b : planned.b ≡ s.shape.b
  pub big : planned.big ≡ s.shape.big
  pub pad : planned.pad ≡ s.pad
  pub number : planned.number ≡ n
  pub own_words : planned.own_words ≡ length (words_of collected.documents)
  pub own_blocks : planned.own_blocks ≡ blocks_of s
  pub grammar : AllByRecursion IsFrame planned.frames

-- a plan of a renewal by this key, made by a client in this state: the key's mark is the last one, the parameters are those of the
-- epochs before, the first frame has the number of the client's next one, words are hashed under the key, and the counts are those
-- of the documents
pub record IsRenewalPlan (f : KeyedFn) (key : List ℕ) (state : ReadyState) (planned : RenewalPlan) : Type 0 where
  pub mark : planned.mark ≡ mark_of f key
  pub payload : renewal_payload planned ≡ renewal_record (mark_of f key)
  pub marks : planned.marks ≡ state.past.marks.items ++ mark_of f key ∷ []
  pub number : planned.number ≡ state.frames
  pub b : planned.b ≡ state.past.b
  pub big : planned.big ≡ state.past.big
  pub pad : planned.pad ≡ state.past.pad
  pub hash_keys : planned.docs.keys ≡ numbers_of_key (plain_key f key 13)
  pub own_words : planned.own_words ≡ length (words_of planned.docs.documents)
  pub own_blocks : planned.own_blocks ≡ blocks_of (planned_setup planned)
  pub grammar : AllByRecursion IsFrame planned.frames

-- it renews the key after this run: its setup is that of what is live, and its frames are those of the definitions
pub record Renews (f : KeyedFn) (key : List ℕ) (o : Offsets) (run : Run) (planned : RenewalPlan) : Type 0 where
  pub setup : planned_setup planned ≡ setup_renewed run
  pub frames : planned.frames ≡ map frame_bytes (frames_of_setup (key_table f key (setup_renewed run)) (behind o run) (setup_renewed run))

-- what the plan leaves of a client, once it is taken as done: the next renewal takes over its marks and parameters, and all its frames
-- are owed to the server
pub record IsRenewed (planned : RenewalPlan) (behind : BehindState) : Type 0 where
  pub hash_keys : behind.ready.registry.keys ≡ planned.docs.keys
  pub marks : behind.ready.past.marks.items ≡ planned.marks
  pub b : behind.ready.past.b ≡ planned.b
  pub big : behind.ready.past.big ≡ planned.big
  pub pad : behind.ready.past.pad ≡ planned.pad
  pub owed : to_send behind ≡ planned.frames
  pub first : first_number behind ≡ planned.number
