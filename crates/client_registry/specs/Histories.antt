-- A history, whatever it is made of: the demands of a script on it, and how it grows.
use Rattle.std.specs.Prelude.{◌≡◌, ℕ, ◌+◌, ◌^◌, ◌<◌, Bool, true, false, List, [], ◌∷◌, fold, flat_map, length, None, Some}
use Rattle.client_registry.specs.Command.{Command, Add, Delete, Search}
use Rattle.client_registry.specs.Documents.{is_live}
use Rattle.client_registry.specs.Live.{live_of, is_listed, counter, shown, matching_ids}
use Rattle.client_registry.specs.Over.{over}
use Rattle.client_registry.specs.Run.{History, From, Renewed, last_run, at_first}
use Rattle.client_registry.specs.Epochs.{AreEpochs, begins, first_begins, next_begins, joined, with_commands, with_renewal, Step, step_after}
use Rattle.client_registry.specs.Setup.{Setup}
use Rattle.client_registry.specs.Sized.{is_accepted}

-- before any setup
abbrev pub empty : History
empty = None

-- whether a setup was accepted
abbrev pub is_set_up : History → Bool
is_set_up None = false
is_set_up (Some es) = true

-- a setup alone
abbrev pub begun_by : Setup → History
begun_by s = Some (From at_first (record { setup = s; later = [] }))

-- the same with these commands after it; before a setup there are none
abbrev pub longer : List Command → History → History
longer commands None = None
longer commands (Some es) = Some (with_commands commands es)

-- the same with a renewal under this key
abbrev pub renewed : (key : List ℕ) → History → History
renewed key None = None
renewed key (Some es) = Some (with_renewal key es)

-- how many commands stand behind the setup, renewals included
abbrev pub commands_in : History → ℕ
commands_in None = 0
commands_in (Some es) = (begins es).command + length (last_run es).later

-- its first epoch is number 0, its setup command 0, and its first frame has number 0
abbrev pub IsWhole : History → Type 0
IsWhole None = Unit {0}
IsWhole (Some es) = first_begins es ≡ at_first

-- whether the document of this identifier is live
abbrev pub is_live_in : History → ℕ → Bool
is_live_in h id = is_live (live_of h) id

-- whether the pair of a word and an identifier is listed in the last epoch
abbrev pub is_listed_in : History → List ℕ → ℕ → Bool
is_listed_in None word id = false
is_listed_in (Some es) word id = is_listed (last_run es).setup (last_run es).later word id

-- the number of a word's next addition
abbrev pub counter_in : History → List ℕ → ℕ
counter_in None word = 0
counter_in (Some es) word = counter (last_run es).setup (last_run es).later word

-- how many update frames it takes
abbrev pub frames_in : History → ℕ
frames_in None = 0
frames_in (Some es) = (next_begins es).frame

-- whether a command is accepted after it; before a setup none is
abbrev pub accepts : History → Command → Bool
accepts None c = false
accepts (Some es) c = is_accepted (last_run es).setup (last_run es).later c

-- it keeps the rules of every history, and its update frames can be numbered
abbrev pub IsKept : History → Type 0
IsKept None = Unit {0}
IsKept (Some es) = AreEpochs es × (frames_in (Some es) < 2 ^ 32)

-- the other is this one with more commands and renewals; a history before its setup is the first of any
abbrev pub IsFirstOf : History → History → Type 0
IsFirstOf None whole = Unit {0}
IsFirstOf (Some es) None = ⊥
IsFirstOf (Some es) (Some whole) = (steps : List Step) × (whole ≡ fold step_after es steps)

-- what a command after these others shows, and what it finds: a search alone does
abbrev pub shown_by : Setup → List Command → Command → List (List ℕ)
shown_by s past (Add d) = []
shown_by s past (Delete id) = []
shown_by s past (Search word) = shown s past word ∷ []

abbrev pub found_by : Setup → List Command → Command → List (List ℕ)
found_by s past (Add d) = []
found_by s past (Delete id) = []
found_by s past (Search word) = matching_ids s past word ∷ []

-- what its searches show, in turn, and what they find
abbrev pub shown_in_turn : History → List (List ℕ)
shown_in_turn None = []
shown_in_turn (Some es) = joined (λ key o run. flat_map (λ r. r) (over (shown_by run.setup) [] run.later)) [] es

abbrev pub found_in_turn : History → List (List ℕ)
found_in_turn None = []
found_in_turn (Some es) = joined (λ key o run. flat_map (λ r. r) (over (found_by run.setup) [] run.later)) [] es
