-- Collisions in hand under the toy function, by which the words `da` and `ac` have equal values; each was found by another
-- program.
use Rattle.std.proofs.Common.{◌≡◌, ℕ, List, [], ◌∷◌, Some, None, refl}
use Rattle.std.specs.Prelude.{replicate}
use Rattle.client_registry.specs.Command.{Command, Add, Delete}
use Rattle.client_registry.specs.Run.{From, at_first}
use Rattle.client_registry.specs.Setup.{setup_of}
use Rattle.keyed_fn.specs.KeyFormulas.{mark_of}
use Rattle.keyed_fn.specs.KeyedFn.{KeyedFn, keyed_fn}
use Rattle.keyed_fn.specs.Toy.{toy_prf, toy_pad}
use Rattle.sse_script.specs.Shown.{LabelClash, PlaceClash, NumberClash}
use Rattle.sse_script.specs.Shown.{Added, Deleted}
use Rattle.script_documents.specs.LineDocument.{document}
use Rattle.def_script_meaning.specs.Carries.{clash_in_hand}
use Rattle.def_script_meaning.specs.Outcome.{Place, Says, opened, SetsUp, Does}

abbrev toy : KeyedFn
toy = keyed_fn toy_prf toy_pad

abbrev key : List ℕ
key = replicate 32 0

abbrev a : List ℕ
a = 0x61 ∷ []

abbrev b : List ℕ
b = 0x62 ∷ []

abbrev e : List ℕ
e = 0x65 ∷ []

abbrev da : List ℕ
da = 0x64 ∷ 0x61 ∷ []

abbrev ac : List ℕ
ac = 0x61 ∷ 0x63 ∷ []

-- after a setup of one document, and these commands
abbrev behind : List Command → Place
behind commands = record { key = key; mark = Some (mark_of toy); used = []; documents = []; history = Some (From at_first (record { setup = setup_of (document 1 (a ∷ []) ∷ []) 1 1; later = commands })) }

labels_of_a_setup : clash_in_hand toy (opened (Some (mark_of toy)) key) (SetsUp (setup_of (document 1 (da ∷ ac ∷ []) ∷ []) 1 1)) ≡ Some (LabelClash 0 1)
labels_of_a_setup = refl

places_of_a_setup : clash_in_hand toy (opened (Some (mark_of toy)) key) (SetsUp (setup_of (document 1 (a ∷ e ∷ []) ∷ document 2 (a ∷ e ∷ []) ∷ document 3 (a ∷ e ∷ []) ∷ []) 2 2)) ≡ Some (PlaceClash 1 2)
places_of_a_setup = refl

-- the first of its words has another label
labels_of_an_addition : clash_in_hand toy (behind []) (Does (Add (document 5 (b ∷ da ∷ ac ∷ [])) ∷ []) (Says (Added 5))) ≡ Some (LabelClash 1 2)
labels_of_an_addition = refl

-- one of the words has an addition more
no_collision_of_an_addition : clash_in_hand toy (behind (Add (document 7 (da ∷ [])) ∷ [])) (Does (Add (document 5 (b ∷ da ∷ ac ∷ [])) ∷ []) (Says (Added 5))) ≡ None
no_collision_of_an_addition = refl

numbers_of_a_deletion :
    clash_in_hand toy (behind (Add (document 7 (da ∷ [])) ∷ Add (document 5 (b ∷ da ∷ ac ∷ [])) ∷ [])) (Does (Delete 5 ∷ []) (Says (Deleted 5))) ≡ Some (NumberClash 1 2)
numbers_of_a_deletion = refl
