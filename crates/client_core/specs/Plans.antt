-- A contract's view of a plan.
use Rattle.std.specs.Prelude.{ℕ, List, Result, Ok, Err}
use Rattle.client_registry.specs.Collected.{Collected}
use Rattle.client_core.specs.declared.update.Update.{Update}

-- of a setup: the mark of its key, its documents, the numbers per cell and per block, Q, how many words it has
-- and how many blocks their lists take, and the bytes of its frames in the order in which they are sent, numbered from 0
pub record SetupPlan : Type 0 where
  pub mark : List ℕ
  pub docs : Collected
  pub b : ℕ
  pub big : ℕ
  pub pad : ℕ
  pub own_words : ℕ
  pub own_blocks : ℕ
  pub frames : List (List ℕ)

-- of an update: the numbers of an added document's words in the client's registry, the bytes of the one frame that carries the
-- update to the server, and the number that is in it
pub record UpdatePlan : Type 0 where
  pub update : Update
  pub words : List ℕ
  pub frame : List ℕ
  pub number : ℕ

-- of a renewal: the mark of the new key, and the marks of all epochs' keys with it last; the documents that are set up again, with the
-- numbers per cell and per block and Q, how many words they have and how many blocks their lists take; the bytes of its frames in the
-- order in which they are sent, and the number of the first
pub record RenewalPlan : Type 0 where
  pub mark : List ℕ
  pub marks : List (List ℕ)
  pub docs : Collected
  pub b : ℕ
  pub big : ℕ
  pub pad : ℕ
  pub own_words : ℕ
  pub own_blocks : ℕ
  pub frames : List (List ℕ)
  pub number : ℕ

-- the same result without the documents that a refusal gives back
abbrev pub without_docs : {X E D : Type 0} → Result X (E × D) → Result X E
without_docs (Ok x) = Ok x
without_docs (Err refused) = Err refused.0
