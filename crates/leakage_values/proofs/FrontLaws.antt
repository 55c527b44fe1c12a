-- The commands before one of a history, and what is so of them.
use Rattle.std.proofs.Common.{◌≡◌, ℕ, ◌+◌, ◌<◌, true, not, ◌&&◌, List, [], ◌∷◌, ◌++◌, length, map, take, drop, get_or, sym, ap, ◌∙◌, append_assoc}
use Rattle.std.specs.Prelude.{is_some}
use Rattle.std.specs.List.{list_all}
use Rattle.std.proofs.lemmas.Bool.{and_parts}
use Rattle.std.proofs.lemmas.List.{map_more, map-append, take-append-drop}
use Rattle.std.proofs.lemmas.List.Folds.{list_all-append}
use Rattle.client_registry.proofs.FactsLaws.{accepted-add, accepted-delete}
use Rattle.client_registry.proofs.OrderLaws.{AreApart-from_IsDistinct}
use Rattle.client_registry.proofs.OverLaws.{over-append}
use Rattle.client_registry.proofs.ShownLaws.{live_apart}
use Rattle.client_registry.specs.Command.{Command, Add, Delete, Search}
use Rattle.client_registry.specs.Documents.{IsCollected}
use Rattle.client_registry.specs.Facts.{has_counters}
use Rattle.client_registry.specs.Over.{over}
use Rattle.client_registry.specs.Registered.{Registered, Represents, facts}
use Rattle.client_registry.specs.Setup.{Setup}
use Rattle.client_registry.specs.Sized.{is_accepted}
use Rattle.leakage_history.proofs.Refusals.{accepted_after}
use Rattle.leakage_history.specs.Refusal.{is_accepted_by}
use Rattle.leakage_values.specs.Replayed.{HasApart}

module _ {X Y : Type 0} (f : X → Y) (xs : List X) (i : ℕ) (x : X) (within : i < length xs) (at : x ≡ get_or xs i x) where
  -- the one at i after those before it
  pub front_then : map f (take (i + 1) xs) ≡ map f (take i xs) ++ f x ∷ []
  front_then = map_more f xs i x within ∙ ap (λ y. map f (take i xs) ++ f y ∷ []) (sym at)

  -- and all of them
  pub front_rest : map f xs ≡ map f (take i xs) ++ (f x ∷ map f (drop (i + 1) xs))
  front_rest =
      ap (map f) (sym (take-append-drop (i + 1) xs))
      ∙ map-append f (take (i + 1) xs) (drop (i + 1) xs)
      ∙ ap (λ front. front ++ map f (drop (i + 1) xs)) front_then
      ∙ append_assoc (map f (take i xs)) (f x ∷ []) (map f (drop (i + 1) xs))

abbrev are_accepted : Setup → List Command → Type 0
are_accepted s past = list_all (λ accepted. accepted) (over (is_accepted s) [] past) ≡ true

-- whether a command is accepted a registry tells
pub accepted_by : (r : Registered) (s : Setup) (past : List Command) (c : Command) → Represents r s past → is_accepted s past c ≡ true → is_accepted_by (facts r) c ≡ true
accepted_by r s past (Add d) tells ok = ap (λ f. not (is_some (f.live d.id)) && has_counters f d) tells ∙ sym (accepted-add s past d) ∙ ok
accepted_by r s past (Delete id) tells ok = ap (λ f. is_some (f.live id)) tells ∙ sym (accepted-delete s past id) ∙ ok
accepted_by r s past (Search word) tells ok = ok

-- each command is accepted after those before it
pub accepted_here : (s : Setup) (all front : List Command) (c : Command) (rest : List Command) → all ≡ front ++ (c ∷ rest) → are_accepted s all → is_accepted s front c ≡ true
accepted_here s all front c rest is ok = accepted_after s front c rest (ap (λ cs. list_all (λ accepted. accepted) (over (is_accepted s) [] cs)) (sym is) ∙ ok)

-- and before it no two live documents have one identifier
pub apart_here : (s : Setup) (all front rest : List Command) → IsCollected s.documents → all ≡ front ++ rest → are_accepted s all → HasApart s front
apart_here s all front rest collected is ok =
    live_apart s (AreApart-from_IsDistinct (map (λ d. d.id) s.documents) collected.different) front
    (and_parts (list_all (λ accepted. accepted) (over (is_accepted s) [] front)) (list_all (λ accepted. accepted) (over (is_accepted s) front rest))
    (sym (ap (list_all (λ accepted. accepted)) (over-append (is_accepted s) [] front rest) ∙ list_all-append (λ accepted. accepted) (over (is_accepted s) [] front) (over (is_accepted s) front rest))
    ∙ ap (λ cs. list_all (λ accepted. accepted) (over (is_accepted s) [] cs)) (sym is) ∙ ok)).0
