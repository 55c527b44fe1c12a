-- What a client of the toy function takes: computed.
use Rattle.std.proofs.Common.{◌≡◌, ℕ, false, List, [], ◌∷◌, ◌++◌, refl}
use Rattle.std.specs.Prelude.{replicate}
use Rattle.client_registry.specs.Document.{Document}
use Rattle.client_registry.specs.Setup.{setup_of}
use Rattle.keyed_fn.specs.KeyedFn.{KeyedFn, keyed_fn}
use Rattle.keyed_fn.specs.Toy.{toy_prf, toy_pad}
use Rattle.world_model.specs.Rules.{AreAccepted}
use Rattle.world_rules.specs.Changes.{Change, SetsUp, Adds, Deletes, Renews, history_of}
use Rattle.world_rules.specs.Rules.{accepts, store_rules}

abbrev toy : KeyedFn
toy = keyed_fn toy_prf toy_pad

abbrev key : List ℕ
key = replicate 32 0

abbrev a : List ℕ
a = 0x61 ∷ []

abbrev document : ℕ → Document
document id = record { id = id; words = a ∷ [] }

-- documents 1 and 2 have the word; 1 is deleted, and 3 added
abbrev changes : List Change
changes = SetsUp (setup_of (document 1 ∷ document 2 ∷ []) 1 2) ∷ Deletes 1 ∷ Adds (document 3) ∷ []

-- all is accepted, and so are a renewal under another key and a deletion behind it
accepted : AreAccepted (store_rules toy key) (changes ++ Renews (replicate 32 1) ∷ Deletes 2 ∷ [])
accepted = (refl, (refl, (refl, (refl, (refl, tt)))))

-- but no renewal under the first key, no second setup, and no deletion of what isn't live
used : accepts toy key (history_of changes) (Renews key) ≡ false
used = refl

again : accepts toy key (history_of changes) (SetsUp (setup_of [] 1 2)) ≡ false
again = refl

dead : accepts toy key (history_of (changes ++ Renews (replicate 32 1) ∷ [])) (Deletes 1) ≡ false
dead = refl
