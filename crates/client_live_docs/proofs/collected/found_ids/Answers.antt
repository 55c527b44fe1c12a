use Rattle.std.proofs.Common.{◌≡◌, ◌++◌, ◌∷◌, [], Option, None, Some, is_some, map, take, refl, sym, ap, ◌∙◌}
use Rattle.std.specs.Prelude.{option_map}
use Rattle.std.proofs.lemmas.List.{map-append}
use Rattle.client_registry.specs.IdNumber.{id_number}
use Rattle.client_registry.specs.Registered.{facts}
use Rattle.client_live_docs.proofs.KeptIds.{kept_ids}
use Rattle.client_live_docs.proofs.LiveIds.{ids_among-none, ids_among-some}
use Rattle.client_live_docs.proofs.Pushing.{take-one_more}
use Rattle.client_live_docs.specs.LiveAfter.{ids_among, command_in}
use Rattle.client_live_docs.proofs.collected.found_ids.Goals as goal
use Rattle.client_live_docs.proofs.collected.found_ids.Goals.{then-is_some+in_ok-push-2, else-is_some}

is_some-mapped : {A B : Type 0} (f : A → B) (o : Option A) → is_some (option_map f o) ≡ is_some o
is_some-mapped f None = refl
is_some-mapped f (Some x) = refl

pub loop-place-preserved : goal.loop-place-preserved
loop-place-preserved c =
    let f = facts c.args.registry.now in
    let command = command_in c.args.pending in
    let kept = kept_ids c.args.registry.now in
    let i = c.loop-place.place in
    let id = id_number c.id_at-id.result in
    let live = ap is_some (sym c.other_live.ensures.live) ∙ is_some-mapped _ c.other_live.result ∙ sym c.is_some.ensures in
    elim c.if-is_some.branch [
      | then-is_some+in_ok-push-2 w ↦
          ap (λ ids. map id_number ids.items) w.ids-is
          ∙ ap (map id_number) w.in_ok-push-2.ensures.items
          ∙ map-append id_number c.loop-place.ids.items (c.id_at-id.result ∷ [])
          ∙ ap (λ ids. ids ++ id ∷ []) c.loop-place.invariant
          ∙ sym (ids_among-some f command (take i kept) id (live ∙ w.if-is_some.true))
          ∙ ap (ids_among f command) (sym (take-one_more kept i id c.id_at-id.ensures))
      | else-is_some w ↦
          ap (λ ids. map id_number ids.items) w.ids-is
          ∙ c.loop-place.invariant
          ∙ sym (ids_among-none f command (take i kept) id (live ∙ w.if-is_some.false))
          ∙ ap (ids_among f command) (sym (take-one_more kept i id c.id_at-id.ensures))
    ]
