-- The last epoch of a history, and what it draws.
use Rattle.std.proofs.Common.{◌≡◌, ◌≢◌, ℕ, ◌+◌, ◌-◌, List, [], ◌∷◌, ◌++◌, length, map, None, Some, refl, sym, ap, ◌∙◌, arith, length-append}
use Rattle.std.specs.Prelude.{option_map, slice_get}
use Rattle.std.proofs.lemmas.List.{length-map}
use Rattle.std.proofs.lemmas.Option.{none-some, slice_get-map}
use Rattle.client_registry.specs.Epochs.{begins, key_now}
use Rattle.client_registry.specs.Histories.{IsKept, IsWhole}
use Rattle.client_registry.specs.Run.{Epochs, From, History, Offsets, Renewed, Run, last_run}
use Rattle.def_leakage.specs.DrawnValues.{draws}
use Rattle.def_leakage.specs.Histories.{draws_in}
use Rattle.keyed_fn.specs.KeyedFn.{KeyedFn}
use Rattle.leakage_history.proofs.EpochLaws.{slice_get-behind}
use Rattle.leakage_history.specs.HashedEpochs.{renewal_keys}
use Rattle.sse_model.specs.Histories.{table_at}
use Rattle.sse_model.specs.Names.{Table}
use Rattle.sse_simulator.specs.Leaks.{Draw, Leak}
use Rattle.sse_game.specs.Passing.{HasPassed, HasShown, IsNext, MakesLast}
use Rattle.sse_game.specs.declared.shown.Shown.{Shown}
use Rattle.sse_game.proofs.Growing.{draws-last, ends_with}
use Rattle.sse_game.proofs.Passing.{passed-more, passed-some}

inside : {A : Type 0} (x y : A) → Some x ≡ Some y → x ≡ y
inside x y e = cc

pub epoch_number : (es : Epochs) → IsWhole (Some es) → (begins es).epoch ≡ length (renewal_keys es)
epoch_number (From o run) whole = ap (λ (b : Offsets). b.epoch) whole
epoch_number (Renewed before key run) whole = omega (arith, epoch_number before whole, length-append (renewal_keys before) (key ∷ []))

pub key_first : (key : List ℕ) (es : Epochs) → length (renewal_keys es) ≡ 0 → key_now key es ≡ key
key_first key (From o run) none = refl
key_first key (Renewed before own run) none = absurd (omega (arith, none, length-append (renewal_keys before) (own ∷ [])))

pub key_last : (key : List ℕ) (es : Epochs) (n : ℕ) (own : List ℕ) → length (renewal_keys es) ≡ n + 1 → slice_get (renewal_keys es) n ≡ Some own → key_now key es ≡ own
key_last key (From o run) n own count at = absurd (omega (arith, count))
key_last key (Renewed before k run) n own count at =
    inside k own (sym (slice_get-behind (renewal_keys before) k n (omega (arith, count, length-append (renewal_keys before) (k ∷ [])))) ∙ at)

-- the last item of a list
module _ {A B : Type 0} (view : A → B) (xs : List A) where
  pub last_same : (x : A) (front : List B) (own : B) → Some x ≡ slice_get xs (length xs - 1) → map view xs ≡ front ++ own ∷ [] → view x ≡ own
  last_same x front own at is =
      let n = length xs - 1 in
      let count : n ≡ length front = omega (arith, ap length is, length-map xs view, length-append front (own ∷ [])) in
      inside (view x) own (ap (option_map view) at ∙ sym (slice_get-map view xs n) ∙ ap (λ ys. slice_get ys n) is ∙ slice_get-behind front own n count)

  pub last_none : (front : List B) (own : B) → None ≡ slice_get xs (length xs - 1) → map view xs ≡ front ++ own ∷ [] → ⊥
  last_none front own at is =
      let n = length xs - 1 in
      let count : n ≡ length front = omega (arith, ap length is, length-map xs view, length-append front (own ∷ [])) in
      none-some own (ap (option_map view) at ∙ sym (slice_get-map view xs n) ∙ ap (λ ys. slice_get ys n) is ∙ slice_get-behind front own n count)

draws_some : (t : Table) (o : Offsets) (run : Run) → draws t o run ≢ []
draws_some t o run e = absurd (cc)

module _ (f : KeyedFn) (key : List ℕ) (before : History) (es : Epochs) (leak : Leak) (shown : Shown) (next : IsNext f key before es leak shown) (all : List (List Draw))
    (are : all ≡ draws (table_at f (key_now key es) (last_run es)) (begins es) (last_run es)) where
  ending : (front : List (List Draw)) × (all ≡ front ++ next.drawn.0 ∷ [])
  ending =
      let last = draws-last f key es in
      ends_with last.0 all (draws_in f key before) next.drawn.0 (ap (λ ds. last.0 ++ ds) are ∙ sym last.1 ∙ next.drawn.1) (λ none. draws_some (table_at f (key_now key es) (last_run es)) (begins es) (last_run es) (sym are ∙ none))

  pub makes_last : IsWhole (Some es) → IsKept (Some es) → MakesLast leak all shown
  makes_last whole kept = (ending.0, next.drawn.0, ending.1, passed-some f key before (Some es) shown leak next.drawn.0 next.passed next.leaks next.drawn.1 whole kept)

  pub shown_last : (new : Shown) → ((front : List (List Draw)) (own : List Draw) → all ≡ front ++ own ∷ [] → HasShown leak own shown new) → HasPassed f key (Some es) new
  shown_last new has = passed-more f key before (Some es) shown leak next.drawn.0 next.passed next.leaks next.drawn.1 new (has ending.0 next.drawn.0 ending.1)
