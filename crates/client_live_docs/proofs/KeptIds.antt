-- An identifier with no entry has no live document.
use Rattle.std.proofs.Common.{◌≡◌, ℕ, false, cond, List, [], ◌∷◌, map, find, None, Some, refl, ap, ◌∙◌}
use Rattle.std.specs.Prelude.{◌==◌, take, option_map, option_and_then}
use Rattle.std.proofs.lemmas.Bool.{or_parts}
use Rattle.std.proofs.lemmas.Cmp.{nat_eq_equiv}
use Rattle.client_registry.proofs.LiveLaws.{among}
use Rattle.client_registry.specs.Numbered.{words_by_number}
use Rattle.client_registry.specs.Registered.{Registered, Kept, facts, known_words}

abbrev pub kept_ids : Registered → List ℕ
kept_ids r = map (λ k. k.id) r.kept

none_found : (id : ℕ) (kept : List Kept) → among id (map (λ (k : Kept). k.id) kept) ≡ false → find (λ (k : Kept). id == k.id) kept ≡ None
none_found id [] out = refl
none_found id (k ∷ kept) out =
    let parts = or_parts (k.id == id) (among id (map (λ (x : Kept). x.id) kept)) out in
    ap (λ b. cond b (Some k) (find (λ (x : Kept). id == x.id) kept)) (nat_eq_equiv.symm id k.id ∙ parts.0)
    ∙ none_found id kept parts.1

pub dead_outside : (r : Registered) (id : ℕ) → among id (kept_ids r) ≡ false → (facts r).live id ≡ None
dead_outside r id out = ap (option_and_then (λ (k : Kept). option_map (λ n. words_by_number (known_words r) (take n k.numbers)) k.live)) (none_found id r.kept out)
