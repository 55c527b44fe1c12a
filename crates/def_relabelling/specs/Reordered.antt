-- Two runs that differ in nothing but the order of the words inside their documents, and histories of such runs.
use Rattle.std.specs.Prelude.{◌≡◌, ℕ, List}
use Rattle.client_registry.specs.Command.{Command, Add, Delete, Search}
use Rattle.client_registry.specs.Document.{Document}
use Rattle.client_registry.specs.Documents.{has_word}
use Rattle.client_registry.specs.Run.{Run, Epochs, From, Renewed}
use Rattle.def_relabelling.specs.Paired.{Paired}

-- the same identifier and the same words, in whatever order: no document has a word twice
abbrev pub HasSameWords : Document → Document → Type 0
HasSameWords d d2 = (d.id ≡ d2.id) × ((word : List ℕ) → has_word word d ≡ has_word word d2)

abbrev pub IsSameCommand : Command → Command → Type 0
IsSameCommand (Add d) (Add d2) = HasSameWords d d2
IsSameCommand (Delete id) (Delete id2) = id ≡ id2
IsSameCommand (Search word) (Search word2) = word ≡ word2
IsSameCommand _ _ = ⊥

pub record IsReordered (run other : Run) : Type 0 where
  pub shape : run.setup.shape ≡ other.setup.shape
  pub pad : run.setup.pad ≡ other.setup.pad
  pub documents : Paired HasSameWords run.setup.documents other.setup.documents
  pub later : Paired IsSameCommand run.later other.later

-- epoch by epoch, under the same keys
abbrev pub AreReordered : Epochs → Epochs → Type 0
AreReordered (From o run) (From o2 other) = (o ≡ o2) × IsReordered run other
AreReordered (Renewed before key run) (Renewed before2 key2 other) = AreReordered before before2 × (key ≡ key2) × IsReordered run other
AreReordered _ _ = ⊥
