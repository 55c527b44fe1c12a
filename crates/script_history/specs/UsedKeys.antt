-- The keys of a reading's epochs so far, by their marks, with which a new key is compared or not.
use Rattle.std.specs.Prelude.{◌≡◌, ℕ, Bool, true, false, List, [], ◌∷◌, ◌++◌, Option, None, Some, option_map}
use Rattle.keyed_fn.specs.KeyFormulas.{mark_of}
use Rattle.keyed_fn.specs.KeyedFn.{KeyedFn}
use Rattle.def_script_meaning.specs.Outcome.{Place, marks_so_far}
use Rattle.def_script_meaning.specs.Refused.{key_refusal}
use Rattle.sse_script.specs.declared.refusal.Refusal.{Refusal}
use Rattle.script_history.specs.declared.used_keys.UsedKeys.{UsedKeys}
use Rattle.script_history.specs.declared.used_keys.UsedKeys.TheVariants.{Marked, Unmarked}

-- the mark of each key where new keys are compared with those before, or nothing
abbrev pub mark_when : (compared : Bool) → KeyedFn → Option (List ℕ → List ℕ)
mark_when true f = Some (mark_of f)
mark_when false f = None

-- the marks that are known
abbrev pub marks_known : UsedKeys → Option (List (List ℕ))
marks_known (Marked marks) = Some marks.items
marks_known Unmarked = None

-- they are those of all keys up to a place, where a new key is compared with them
abbrev pub Knows : KeyedFn → (known : Option (List (List ℕ))) → Place → Type 0
Knows f (Some marks) place = (place.mark ≡ Some (mark_of f)) × (marks ≡ marks_so_far (mark_of f) place)
Knows f None place = place.mark ≡ None

-- why a key of this mark is refused by them
abbrev pub known_refusal : (known : Option (List (List ℕ))) → (mark : List ℕ) → Option Refusal
known_refusal (Some marks) mark = key_refusal marks mark
known_refusal None mark = None

-- those known after a renewal under a key of this mark that was refused or taken
abbrev pub known_after : Option Refusal → (mark : List ℕ) → (known : Option (List (List ℕ))) → Option (List (List ℕ))
known_after None mark known = option_map (λ marks. marks ++ mark ∷ []) known
known_after (Some refusal) mark known = known
