-- The fault that names two equal values of an update.
use Rattle.std.specs.Prelude.{ℕ, List, map, slice_index, Option, option_map}
use Rattle.client_registry.specs.FirstClash.{first_clash}
use Rattle.revocation_ids.specs.declared.numbered_word.NumberedWord.{NumberedWord}
use Rattle.sse_model.specs.Compared.{Collision, Labels, Numbers, Places}
use Rattle.client_core.specs.declared.command_fault.CommandFault.{CommandFault}
use Rattle.client_core.specs.declared.command_fault.CommandFault.TheVariants as faults

-- the fault that names two equal values; an update has no places
abbrev pub clash_fault : Collision → CommandFault
clash_fault (Labels first second) = faults.LabelClash first second
clash_fault (Numbers first second) = faults.NumberClash first second
clash_fault (Places first second) = faults.NoMemory

-- the positions of words with equal values among these: of the first two
abbrev pub equal_at : List NumberedWord → List (List ℕ) → Option (ℕ × ℕ)
equal_at places values =
    option_map (λ two. (slice_index (map (λ p. p.position) places) two.0, slice_index (map (λ p. p.position) places) two.1)) (first_clash values)

-- the fault that names them, of labels and of revocation numbers
abbrev pub label_fault : List NumberedWord → List (List ℕ) → Option CommandFault
label_fault places labels = option_map (λ two. faults.LabelClash two.0 two.1) (equal_at places labels)

abbrev pub number_fault : List NumberedWord → List (List ℕ) → Option CommandFault
number_fault places numbers = option_map (λ two. faults.NumberClash two.0 two.1) (equal_at places numbers)
