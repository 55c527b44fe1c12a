-- A run whose names don't collide has no prefix whose names do.
use Rattle.std.proofs.Common.{ℕ, suc, inl, inr, List, ◌++◌, take, drop, sym, ap, ◌∙◌, subst}
use Rattle.std.specs.Prelude.{flat_map, Contains}
use Rattle.std.proofs.lemmas.List.{take-append-drop}
use Rattle.std.proofs.lemmas.List.Concat.{flat_map-append}
use Rattle.std.proofs.lemmas.List.Elements.{Contains-append_left, Contains-append_right, Contains-append_cases}
use Rattle.client_registry.specs.Run.{Run, Offsets}
use Rattle.sse_model.proofs.Prefixes.{first, take-drawn, take-probed}
use Rattle.sse_model.specs.Drawn.{drawn, probed, IsCollisionFree}
use Rattle.sse_model.specs.Names.{Name, Table}

-- the names in these lists
abbrev pub joined : List (List Name) → List Name
joined lists = flat_map (λ n. n) lists

-- a name of the first lists is one of all lists
Contains-take : (n : ℕ) (lists : List (List Name)) (x : Name) → Contains (joined (take n lists)) x → Contains (joined lists) x
Contains-take n lists x within =
    subst (λ names. Contains names x) (sym (flat_map-append (λ n. n) (take n lists) (drop n lists)) ∙ ap joined (take-append-drop n lists))
    (Contains-append_left (joined (take n lists)) (joined (drop n lists)) x within)

-- a name that is drawn or looked up by the first commands of a run is drawn or looked up by the run
pub Contains-first : (o : Offsets) (n : ℕ) (run : Run) (x : Name)
    → Contains (joined (drawn o (first n run) ++ probed o (first n run))) x → Contains (joined (drawn o run ++ probed o run)) x
Contains-first o n run x within =
    subst (λ names. Contains names x) (sym (flat_map-append (λ n. n) (drawn o run) (probed o run)))
    (elim (Contains-append_cases (joined (drawn o (first n run))) (joined (probed o (first n run))) x parts) [
      | inl d ↦ Contains-append_left (joined (drawn o run)) (joined (probed o run)) x
          (Contains-take (suc n) (drawn o run) x (subst (λ lists. Contains (joined lists) x) (sym (take-drawn o n run)) d))
      | inr p ↦ Contains-append_right (joined (drawn o run)) (joined (probed o run)) x
          (Contains-take (suc n) (probed o run) x (subst (λ lists. Contains (joined lists) x) (sym (take-probed o n run)) p))
    ])
  where
    parts : Contains (joined (drawn o (first n run)) ++ joined (probed o (first n run))) x
    parts = subst (λ names. Contains names x) (flat_map-append (λ n. n) (drawn o (first n run)) (probed o (first n run))) within

-- Promise P160, also here
-- where no names of a run collide, none of its first commands do
pub IsCollisionFree-first : (t : Table) (o : Offsets) (n : ℕ) (run : Run) → IsCollisionFree t o run → IsCollisionFree t o (first n run)
IsCollisionFree-first t o n run free =
    λ x y first_x first_y. free x y (Contains-first o n run x first_x) (Contains-first o n run y first_y)
