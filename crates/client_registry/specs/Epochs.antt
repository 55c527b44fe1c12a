-- The epochs of a history: where each begins, what each makes, and how a renewal of the key begins one.
use Rattle.std.specs.Prelude.{◌≡◌, ℕ, ◌+◌, nat_le, List, [], ◌∷◌, ◌++◌, length, if◌then◌else◌}
use Rattle.client_registry.specs.Command.{Command}
use Rattle.client_registry.specs.Document.{Document}
use Rattle.client_registry.specs.Live.{live}
use Rattle.client_registry.specs.Run.{Run, Offsets, Epochs, From, Renewed, last_run}
use Rattle.client_registry.specs.Setup.{Setup}
use Rattle.client_registry.specs.Sized.{IsHistory, update_frames}

-- where the run behind this one begins
abbrev pub behind : Offsets → Run → Offsets
behind o run = record { epoch = o.epoch + 1; command = o.command + 1 + length run.later; frame = o.frame + update_frames run }

-- where the last epoch begins, and where the next one would
abbrev pub begins : Epochs → Offsets
begins (From o run) = o
begins (Renewed before key run) = behind (begins before) (last_run before)

abbrev pub next_begins : Epochs → Offsets
next_begins es = behind (begins es) (last_run es)

-- where the first one begins
abbrev pub first_begins : Epochs → Offsets
first_begins (From o run) = o
first_begins (Renewed before key run) = first_begins before

-- the key of the last epoch, where the first has this one
abbrev pub key_now : List ℕ → Epochs → List ℕ
key_now key (From o run) = key
key_now key (Renewed before own run) = own

-- what g makes of each epoch by its key, its offsets and its run, joined
abbrev pub joined : {A : Type 0} → (List ℕ → Offsets → Run → List A) → (key : List ℕ) → Epochs → List A
joined g key (From o run) = g key o run
joined g key (Renewed before own run) = joined g key before ++ g own (next_begins before) run

-- what holds of each of them
abbrev pub Each : (List ℕ → Offsets → Run → Type 0) → (key : List ℕ) → Epochs → Type 0
Each P key (From o run) = P key o run
Each P key (Renewed before own run) = Each P key before × P own (next_begins before) run

-- a document among others by rising identifiers
abbrev pub insert_by_id : Document → List Document → List Document
insert_by_id d [] = d ∷ []
insert_by_id d (e ∷ es) = if nat_le d.id e.id then d ∷ e ∷ es else e ∷ insert_by_id d es

-- documents by rising identifier
abbrev pub by_id : List Document → List Document
by_id [] = []
by_id (d ∷ ds) = insert_by_id d (by_id ds)

-- the setup that a renewal makes after a run: of the documents that are live, by rising identifier
abbrev pub setup_renewed : Run → Setup
setup_renewed run = record { documents = by_id (live run.setup.documents run.later); shape = run.setup.shape; pad = run.setup.pad }

-- each epoch keeps the rules of a history, and each but the first begins with the setup that a renewal makes after the one before
abbrev pub AreEpochs : Epochs → Type 0
AreEpochs (From o run) = IsHistory run
AreEpochs (Renewed before key run) = AreEpochs before × (run.setup ≡ setup_renewed (last_run before)) × IsHistory run

-- The same with more.

-- with these commands
abbrev pub with_commands : List Command → Epochs → Epochs
with_commands cs (From o run) = From o (record run { later = run.later ++ cs })
with_commands cs (Renewed before key run) = Renewed before key (record run { later = run.later ++ cs })

-- with a renewal under this key
abbrev pub with_renewal : (key : List ℕ) → Epochs → Epochs
with_renewal key es = Renewed es key (record { setup = setup_renewed (last_run es); later = [] })

-- one step more: a command, or a renewal
pub data Step : Type 0 where
  Does : Command → Step
  Renews : (key : List ℕ) → Step

abbrev pub step_after : Epochs → Step → Epochs
step_after es (Does c) = with_commands (c ∷ []) es
step_after es (Renews key) = with_renewal key es
