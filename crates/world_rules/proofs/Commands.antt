-- A history that changes make has no searches, and no two values of its last change that have to differ are equal.
use Rattle.std.proofs.Common.{◌≡◌, ℕ, ◌&&◌, Bool, true, false, cond, List, [], ◌∷◌, ◌++◌, length, filter, is_none, Option, None, Some, refl, sym, ap, ◌∙◌, subst, arith, length-append}
use Rattle.std.specs.Prelude.{slice_index_or}
use Rattle.std.specs.Option.{option_or}
use Rattle.std.proofs.Math.Seq.{get_or-append_seam}
use Rattle.std.proofs.lemmas.Bool.{true≢false}
use Rattle.std.proofs.lemmas.List.Elements.{filter-append}
use Rattle.keyed_fn.specs.KeyedFn.{KeyedFn}
use Rattle.client_registry.proofs.FromEnd.{from_end}
use Rattle.client_registry.proofs.OverLaws.{over-append, length-over}
use Rattle.client_registry.specs.Command.{Command, Add, Delete, is_update}
use Rattle.client_registry.specs.Epochs.{Each, begins, next_begins, key_now}
use Rattle.client_registry.specs.Histories.{longer}
use Rattle.client_registry.specs.Over.{over}
use Rattle.client_registry.specs.Run.{History, From, Renewed, Run, Offsets, last_run}
use Rattle.sse_model.specs.Compared.{Collision, collision_of_setup, collision_of}
use Rattle.sse_model.specs.Histories.{table_at}
use Rattle.sse_model.specs.Names.{Table}
use Rattle.world_model.specs.Rules.{AreAccepted}
use Rattle.world_rules.proofs.Numbered.{history_of-push, accepted-push}
use Rattle.world_rules.specs.Changes.{Change, SetsUp, Adds, Deletes, Renews, with_change, history_of}
use Rattle.world_rules.specs.Rules.{accepts, store_rules}

-- No searches.

abbrev pub HasNoSearch : List ℕ → History → Type 0
HasNoSearch key None = Unit {0}
HasNoSearch key (Some es) = Each (λ own o run. filter is_update run.later ≡ run.later) key es

one_more : (xs : List Command) (c : Command) → is_update c ≡ true → filter is_update xs ≡ xs → filter is_update (xs ++ c ∷ []) ≡ xs ++ c ∷ []
one_more xs c e none = filter-append is_update xs (c ∷ []) ∙ (λ i. none i ++ cond (e i) (c ∷ []) [])

no_search-longer : (key : List ℕ) (h : History) (c : Command) → is_update c ≡ true → HasNoSearch key h → HasNoSearch key (longer (c ∷ []) h)
no_search-longer key None c e none = tt
no_search-longer key (Some (From o run)) c e none = one_more run.later c e none
no_search-longer key (Some (Renewed before own run)) c e none = (none.0, one_more run.later c e none.1)

no_search-with : (key : List ℕ) (h : History) (c : Change) → HasNoSearch key h → HasNoSearch key (with_change h c)
no_search-with key h (SetsUp s) none = refl
no_search-with key h (Adds d) none = no_search-longer key h (Add d) refl none
no_search-with key h (Deletes id) none = no_search-longer key h (Delete id) refl none
no_search-with key None (Renews own) none = tt
no_search-with key (Some es) (Renews own) none = (none, refl)

pub no_search : (key : List ℕ) (changes : List Change) → HasNoSearch key (history_of changes)
no_search key = from_end (λ changes. HasNoSearch key (history_of changes)) tt (λ xs c none. subst (HasNoSearch key) (sym (history_of-push xs c)) (no_search-with key (history_of xs) c none))

-- The last change.

-- two values of the last command of a history's last epoch that have to differ and are equal
abbrev pub last_collision_in : KeyedFn → (key : List ℕ) → History → Option Collision
last_collision_in f key None = None
last_collision_in f key (Some es) =
    let t = table_at f (key_now key es) (last_run es) in
    slice_index_or (collision_of_setup t (begins es).epoch (last_run es).setup ∷ over (collision_of t (begins es).epoch (last_run es).setup) [] (last_run es).later) (length (last_run es).later) None

last_of_run : (t : Table) (o : Offsets) (run : Run) (c : Command)
    → slice_index_or (collision_of_setup t o.epoch run.setup ∷ over (collision_of t o.epoch run.setup) [] (run.later ++ c ∷ [])) (length (run.later ++ c ∷ [])) None ≡ collision_of t o.epoch run.setup run.later c
last_of_run t o run c =
    let by = collision_of t o.epoch run.setup in
    let first = collision_of_setup t o.epoch run.setup in
    let all : (first ∷ over by [] (run.later ++ c ∷ [])) ≡ (first ∷ over by [] run.later) ++ by run.later c ∷ [] = ap (λ rest. first ∷ rest) (over-append by [] run.later (c ∷ [])) in
    let place : length (run.later ++ c ∷ []) ≡ length (first ∷ over by [] run.later) = omega (arith, length-append run.later (c ∷ []), length-over by [] run.later) in
    (λ i. slice_index_or (all i) (place i) None) ∙ get_or-append_seam (first ∷ over by [] run.later) (by run.later c) [] None

module _ (f : KeyedFn) (key : List ℕ) where
  none_of : {X : Type 0} (o : Option X) → is_none o ≡ true → o ≡ None
  none_of None e = refl
  none_of (Some x) e = absurd (true≢false (sym e))

  right_of : (a b : Bool) → (a && b) ≡ true → b ≡ true
  right_of true b e = e
  right_of false b e = absurd (true≢false (sym e))

  -- the one command has the first collision
  alone : {X : Type 0} (o : Option X) → option_or o None ≡ o
  alone None = refl
  alone (Some x) = refl

  no_collision-with : (h : History) (c : Change) → accepts f key h c ≡ true → last_collision_in f key (with_change h c) ≡ None
  no_collision-with h (SetsUp s) ok = none_of _ (right_of _ _ ok)
  no_collision-with None (Adds d) ok = absurd (true≢false (sym ok))
  no_collision-with (Some (From o run)) (Adds d) ok =
      last_of_run (table_at f key run) o run (Add d) ∙ sym (alone (collision_of (table_at f key run) o.epoch run.setup run.later (Add d))) ∙ none_of _ (right_of _ _ ok)
  no_collision-with (Some (Renewed before own run)) (Adds d) ok =
      last_of_run (table_at f own run) (next_begins before) run (Add d)
      ∙ sym (alone (collision_of (table_at f own run) (next_begins before).epoch run.setup run.later (Add d)))
      ∙ none_of _ (right_of _ _ ok)
  no_collision-with None (Deletes id) ok = absurd (true≢false (sym ok))
  no_collision-with (Some (From o run)) (Deletes id) ok =
      last_of_run (table_at f key run) o run (Delete id) ∙ sym (alone (collision_of (table_at f key run) o.epoch run.setup run.later (Delete id))) ∙ none_of _ (right_of _ _ ok)
  no_collision-with (Some (Renewed before own run)) (Deletes id) ok =
      last_of_run (table_at f own run) (next_begins before) run (Delete id)
      ∙ sym (alone (collision_of (table_at f own run) (next_begins before).epoch run.setup run.later (Delete id)))
      ∙ none_of _ (right_of _ _ ok)
  no_collision-with None (Renews own) ok = absurd (true≢false (sym ok))
  no_collision-with (Some es) (Renews own) ok = none_of _ (right_of _ _ ok)

  pub no_last_collision : (changes : List Change) → AreAccepted (store_rules f key) changes → last_collision_in f key (history_of changes) ≡ None
  no_last_collision = from_end (λ changes. AreAccepted (store_rules f key) changes → last_collision_in f key (history_of changes) ≡ None) (λ are. refl) push
    where
      push : (xs : List Change) (c : Change) → (AreAccepted (store_rules f key) xs → last_collision_in f key (history_of xs) ≡ None)
          → AreAccepted (store_rules f key) (xs ++ c ∷ []) → last_collision_in f key (history_of (xs ++ c ∷ [])) ≡ None
      push xs c had are = ap (last_collision_in f key) (history_of-push xs c) ∙ no_collision-with (history_of xs) c (accepted-push (store_rules f key) [] xs c are).1
