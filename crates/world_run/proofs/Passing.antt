-- One event more, behind others, leads on.
use Rattle.std.proofs.Common.{◌≡◌, suc, length, List, ℕ, [], ◌∷◌, ◌++◌, ◌∙◌, ap, refl, subst, sym}
use Rattle.std.proofs.lemmas.List.{append-nil, append_assoc}
use Rattle.keyed_fn.specs.KeyedFn.{KeyedFn}
use Rattle.world_rules.specs.Promises.{StoreWorld}
use Rattle.sse_frames.specs.Replies.{ReplyText}
use Rattle.world_model.specs.World as model
use Rattle.world_run.specs.Sending.{AreReported}
use Rattle.world_run.specs.Worlds.{LeadsTo, Passes, Stands, WorldView, event_in}
use Rattle.world_run.specs.declared.done.Done.{Done}
use Rattle.world_run.specs.declared.behind.Behind.{Behind}
use Rattle.world_run.specs.declared.event.Event.{Event}

as_many : (ds : List (model.Done (List ReplyText))) (dones : List Done) → AreReported ds dones → length ds ≡ length dones
as_many [] [] are = refl
as_many [] (told ∷ dones) are = absurd are
as_many (d ∷ ds) [] are = absurd are
as_many (d ∷ ds) (told ∷ dones) are = ap suc (as_many ds dones are.1)

module _ (f : KeyedFn) (first : List ℕ) where
  pub passes_push : (a : StoreWorld) (events : List Event) (behinds : List Behind) (w v : StoreWorld) (e : Event) (b : Behind) → Passes f first a events behinds w → Passes f first w (e ∷ []) (b ∷ []) v
      → Passes f first a (events ++ e ∷ []) (behinds ++ b ∷ []) v
  passes_push a [] [] w v e b none one = subst (λ x. Passes f first x (e ∷ []) (b ∷ []) v) none one
  passes_push a [] (c ∷ behinds) w v e b none one = absurd none
  passes_push a (d ∷ events) [] w v e b none one = absurd none
  passes_push a (d ∷ events) (c ∷ behinds) w v e b more one = (more.0, more.1, more.2, passes_push more.0 events behinds w v e b more.3 one)

  -- an event leads from one world to the next, and as many were reported there
  pub passes_one : (w : StoreWorld) (e : Event) (b : Behind) (world : WorldView) → LeadsTo f first w (event_in e) b.outcome world → b.reports ≡ length world.dones
      → (v : StoreWorld) × Passes f first w (e ∷ []) (b ∷ []) v × Stands f first v world
  passes_one w e b world leads reports = (leads.0, (leads.0, leads.1, reports ∙ sym (as_many (leads.0).done world.dones (leads.2).dones_are), refl), leads.2)

  pub passes_none : (a : StoreWorld) (behinds : List Behind) → behinds ≡ [] → Passes f first a [] behinds a
  passes_none a behinds none = subst (λ bs. Passes f first a [] bs a) (sym none) refl

-- what comes next is moved behind what came
pub behind_others : {X : Type 0} (all xs rest rest' : List X) (x : X) → all ≡ xs ++ rest → rest ≡ x ∷ rest' → all ≡ (xs ++ x ∷ []) ++ rest'
behind_others all xs rest rest' x split next = split ∙ ap (λ r. xs ++ r) next ∙ sym (append_assoc xs (x ∷ []) rest')

-- and when nothing comes any more, all came
pub all_came : {X : Type 0} (all xs rest : List X) → all ≡ xs ++ rest → length rest ≡ 0 → xs ≡ all
all_came all xs [] split none = sym (split ∙ append-nil xs)
all_came all xs (x ∷ rest) split none = cc
