-- Frames that are sent are those of an update whose record is the last that was taken.
use Rattle.std.proofs.Common.{◌≡◌, ℕ, List, [], ◌∷◌, ◌++◌, Some, None, ap}
use Rattle.std.specs.Prelude.{Option, option_map, IfSome}
use Rattle.client_core.specs.declared.behind.Behind.{Behind}
use Rattle.client_core.specs.declared.client.Client.{Client}
use Rattle.def_script_meaning.specs.Carries.{Keeps}
use Rattle.keyed_fn.specs.KeyedFn.{KeyedFn}
use Rattle.sse_outside.specs.Kept.{Kept}
use Rattle.sse_client.specs.RecordKept.{EndsWith, OwesLast}

-- a client owes frames of the update whose record was just taken
pub owes-taken : (f : KeyedFn) (old new : Kept) (payload : List ℕ) (client : Client Behind) → Keeps old new (payload ∷ []) → ((records : List (List ℕ)) → EndsWith records payload → OwesLast f records client)
    → IfSome new.records (λ records. OwesLast f records client)
owes-taken f old new payload client kept then = by old.records new.records (ap (λ (k : Kept). k.records) kept)
  where
    inside : (a b : List (List ℕ)) → Some a ≡ Some b → a ≡ b
    inside a b e = cc

    by : (before after : Option (List (List ℕ))) → after ≡ option_map (λ all. all ++ payload ∷ []) before → IfSome after (λ records. OwesLast f records client)
    by before None is = tt
    by None (Some records) is = absurd (cc)
    by (Some earlier) (Some records) is = then records (earlier, inside records (earlier ++ payload ∷ []) is)
