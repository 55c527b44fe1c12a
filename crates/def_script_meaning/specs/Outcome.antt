-- The outcome of a line of the script.
use Rattle.std.specs.Prelude.{ℕ, Bool, true, false, List, [], ◌∷◌, ◌++◌, length, map, Option, None, Some, if◌then◌else◌}
use Rattle.std.specs.Option.{option_or}
use Rattle.bool_search.specs.Chosen.{chosen_by}
use Rattle.bool_search.specs.Fields.{words_of}
use Rattle.bool_search.specs.LineRefusals.{fields_refusal}
use Rattle.client_registry.specs.Document.{Document}
use Rattle.client_registry.specs.Acceptance.{blocks_of}
use Rattle.client_registry.specs.Setup.{Setup, setup_with, setup_words}
use Rattle.client_registry.specs.Command.{Command, Add, Delete, Search}
use Rattle.client_registry.specs.Run.{History, last_run}
use Rattle.client_registry.specs.Histories.{empty, is_set_up, begun_by, longer, renewed}
use Rattle.client_registry.specs.Epochs.{joined, setup_renewed}
use Rattle.client_registry.specs.Live.{matching_in}
use Rattle.sse_script.specs.declared.refusal.Refusal.{Refusal}
use Rattle.sse_script.specs.declared.refusal.Refusal.TheVariants.{NotSetUp, SetUpAlready}
use Rattle.sse_script.specs.Shown.{Shown, SetUp, Rebuilt, Added, Deleted, Found, Matched, Refused}
use Rattle.script_documents.specs.LineDocument.{document}
use Rattle.script_documents.specs.Refused.{bad_word, collect_refusal}
use Rattle.def_script_meaning.specs.Lines.{Request, Doc, SetupLine, AddLine, Del, Find, Query, RebuildLine}
use Rattle.def_script_meaning.specs.Refused.{index_refusal, add_refusal, delete_refusal, key_refusal, renewal_refusal}

-- where a script stands after its key line: the key of the history's first epoch; the mark that each key has, or nothing where a new key isn't
-- compared with those before; the marks of epochs before the history's; the documents that were collected; and the history
pub record Place : Type 0 where
  pub key : List ℕ
  pub mark : Option (List ℕ → List ℕ)
  pub used : List (List ℕ)
  pub documents : List Document
  pub history : History

-- after the line of this key
abbrev pub opened : Option (List ℕ → List ℕ) → List ℕ → Place
opened mark key = record { key = key; mark = mark; used = []; documents = []; history = empty }

-- the marks of a history's epochs; before the setup, that of the first
abbrev pub marks_in : (mark : List ℕ → List ℕ) → List ℕ → History → List (List ℕ)
marks_in mark key None = mark key ∷ []
marks_in mark key (Some es) = joined (λ own o run. mark own ∷ []) key es

-- the marks of all epochs up to a place
abbrev pub marks_so_far : (mark : List ℕ → List ℕ) → Place → List (List ℕ)
marks_so_far mark place = place.used ++ marks_in mark place.key place.history

-- a key was used before this place
abbrev pub used_refusal : Option (List ℕ → List ℕ) → Place → List ℕ → Option Refusal
used_refusal None place key = None
used_refusal (Some mark) place key = key_refusal (marks_so_far mark place) (mark key)

-- a line that is printed: as it stands, with the identifiers that a search finds, or with those that a query chooses of what the
-- searches of its words find, in order
pub data Printed : Type 0 where
  Says : Shown → Printed
  Finds : (ids : List ℕ) → Printed
  Matches : (fields lists : List (List ℕ)) → Printed

-- how it reads where the searches are answered as they should be
abbrev pub said : Printed → Shown
said (Says line) = line
said (Finds ids) = Found ids
said (Matches fields lists) = Matched (chosen_by fields lists)

pub data Outcome : Type 0 where
  -- one document more for the setup
  Collects : Document → Outcome
  Refuses : Refusal → Outcome
  SetsUp : Setup → Outcome
  -- commands after the setup, and the line that says they are done
  Does : List Command → Printed → Outcome
  -- this setup under a new key
  Renews : (key : List ℕ) (setup : Setup) → Outcome

-- refused where there is a cause, else this
abbrev pub unless : Option Refusal → Outcome → Outcome
unless None outcome = outcome
unless (Some refusal) outcome = Refuses refusal

-- a line of a script that isn't set up
abbrev pub before_setup : List Document → Request → Outcome
before_setup docs (Doc id words) = unless (collect_refusal docs (document id words)) (Collects (document id words))
before_setup docs (SetupLine b big pad) = unless (index_refusal docs b big pad) (SetsUp (setup_with docs b big pad))
before_setup docs (AddLine id words) = Refuses NotSetUp
before_setup docs (Del id) = Refuses NotSetUp
before_setup docs (Find word) = Refuses NotSetUp
before_setup docs (Query fields) = Refuses NotSetUp
before_setup docs (RebuildLine key) = Refuses NotSetUp

-- the setup that a renewal makes after a history
abbrev pub setup_after : History → Setup
setup_after None = setup_with [] 0 0 1
setup_after (Some es) = setup_renewed (last_run es)

-- why the key isn't renewed: this one was used, or there is no index of the live documents
abbrev pub rebuild_refusal : Place → History → (key : List ℕ) → Option Refusal
rebuild_refusal place h key = option_or (used_refusal place.mark place key) (renewal_refusal h (setup_after h))

-- a line of a script that is set up
abbrev pub after_setup : Place → History → Request → Outcome
after_setup place h (Doc id words) = Refuses SetUpAlready
after_setup place h (SetupLine b big pad) = Refuses SetUpAlready
after_setup place h (AddLine id words) = unless (add_refusal h (document id words)) (Does (Add (document id words) ∷ []) (Says (Added id)))
after_setup place h (Del id) = unless (delete_refusal h id) (Does (Delete id ∷ []) (Says (Deleted id)))
after_setup place h (Find word) = unless (bad_word 0 (word ∷ [])) (Does (Search word ∷ []) (Finds (matching_in h word)))
after_setup place h (Query fields) =
    unless (fields_refusal fields) (Does (map (λ word. Search word) (words_of fields)) (Matches fields (map (matching_in h) (words_of fields))))
after_setup place h (RebuildLine key) = unless (rebuild_refusal place h key) (Renews key (setup_after h))

-- what a line comes to at a place of the script
abbrev pub outcome : Place → Request → Outcome
outcome place line = if is_set_up place.history then after_setup place place.history line else before_setup place.documents line

-- the place after a line that came to this
abbrev pub after : Outcome → Place → Place
after (Collects d) place = record place { documents = place.documents ++ d ∷ [] }
after (Refuses refusal) place = place
after (SetsUp s) place = record place { history = begun_by s }
after (Does commands shown) place = record place { history = longer commands place.history }
after (Renews key s) place = record place { history = renewed key place.history }

-- the lines that it prints
abbrev pub shown_by : Outcome → List Printed
shown_by (Collects d) = []
shown_by (Refuses refusal) = Says (Refused refusal) ∷ []
shown_by (SetsUp s) = Says (SetUp (length (setup_words s)) (blocks_of s)) ∷ []
shown_by (Does commands shown) = shown ∷ []
shown_by (Renews key s) = Says (Rebuilt (length (setup_words s)) (blocks_of s)) ∷ []

abbrev pub is_refusal : Outcome → Bool
is_refusal (Collects d) = false
is_refusal (Refuses refusal) = true
is_refusal (SetsUp s) = false
is_refusal (Does commands shown) = false
is_refusal (Renews key s) = false
