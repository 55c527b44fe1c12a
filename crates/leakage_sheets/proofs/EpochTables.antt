-- The epochs of a history by number: where each begins, its run, and the values of its names in the table of all keys.
use Rattle.std.proofs.Common.{◌≡◌, ◌⊎◌, ℕ, zero, suc, ◌+◌, ◌<◌, Bool, true, false, List, [], ◌∷◌, ◌++◌, length, get_or, None, Some, refl, sym, ap, subst, ◌∙◌, arith, inl, inr, ⊎_elim, eqb-true}
use Rattle.std.specs.Prelude.{◌==◌, slice_get, if◌then◌else◌}
use Rattle.std.proofs.lemmas.Cmp.{nat_eq_equiv}
use Rattle.std.proofs.lemmas.List.{get_or_append_left, length_push}
use Rattle.std.proofs.lemmas.Option.{slice_get_within}
use Rattle.std.proofs.Math.Seq.{get_or-append_seam}
use Rattle.client_registry.specs.Acceptance.{size_refusal}
use Rattle.client_registry.specs.Epochs.{AreEpochs, first_begins, next_begins}
use Rattle.client_registry.specs.Run.{Run, Offsets, Epochs, From, Renewed}
use Rattle.keyed_fn.specs.KeyedFn.{KeyedFn}
use Rattle.leakage_history.proofs.EpochLists.{IsHistory-epoch, length-listed}
use Rattle.leakage_history.proofs.EpochLaws.{slice_get-behind, slice_get-before}
use Rattle.leakage_history.specs.HashedEpochs.{renewal_keys, runs_of}
use Rattle.leakage_values.specs.SheetOf.{listed_epochs}
use Rattle.def_relabelling.specs.Histories.{table_in}
use Rattle.sse_model.specs.Histories.{table_at}
use Rattle.sse_model.specs.Names.{Name}

-- the key of the epoch of this number, where the first has this one
abbrev pub key_at : List ℕ → Epochs → ℕ → List ℕ
key_at key es i = get_or (key ∷ renewal_keys es) i []

-- an item of a list with one more is one of the list, or that one
same_there : {A : Type 0} (x y : A) → Some x ≡ Some y → x ≡ y
same_there x y e = cc

either_of : {A : Type 0} (xs : List A) (y x : A) (n : ℕ) → slice_get (xs ++ y ∷ []) n ≡ Some x → (slice_get xs n ≡ Some x) ⊎ ((n ≡ length xs) × (y ≡ x))
either_of [] y x zero at = inr (refl, same_there y x at)
either_of [] y x (suc n) at = absurd (cc)
either_of (z ∷ xs) y x zero at = inl at
either_of (z ∷ xs) y x (suc n) at = ⊎_elim (λ had. inl had) (λ here. inr (ap suc here.0, here.1)) (either_of xs y x n at)

-- How many they are.

pub length-runs : (es : Epochs) → length (runs_of es) ≡ length (listed_epochs es)
length-runs es = sym (length-listed es)

pub length-keys : (es : Epochs) → length (renewal_keys es) + 1 ≡ length (runs_of es)
length-keys (From o run) = omega arith
length-keys (Renewed before key run) = omega (arith, length_push (renewal_keys before) key, length_push (runs_of before) run, length-keys before)

next-epoch : (es : Epochs) → (next_begins es).epoch ≡ (first_begins es).epoch + length (listed_epochs es)
next-epoch (From o run) = omega arith
next-epoch (Renewed before key run) = omega (arith, next-epoch before, length_push (listed_epochs before) (next_begins before, run))

-- The setup of each is accepted.

pub accepted-at : (es : Epochs) (i : ℕ) (run : Run) → AreEpochs es → slice_get (runs_of es) i ≡ Some run → size_refusal run.setup ≡ None
accepted-at es i run are at = (IsHistory-epoch es i run are at).setup

-- The table of all keys.

module _ (f : KeyedFn) (key : List ℕ) where
  -- at the names of the last epoch, and at others
  module _ (before : Epochs) (own : List ℕ) (run : Run) (n : Name) where
    at_last : n.epoch ≡ (next_begins before).epoch → table_in f key (Renewed before own run) n ≡ table_at f own run n
    at_last e =
        ap (λ b. if b then table_at f own run n else table_in f key before n) (ap (λ k. k == (next_begins before).epoch) e ∙ nat_eq_equiv.refl (next_begins before).epoch)

    at_others : n.epoch < (next_begins before).epoch → table_in f key (Renewed before own run) n ≡ table_in f key before n
    at_others lt = by (n.epoch == (next_begins before).epoch) refl
      where
        by : (b : Bool) → (n.epoch == (next_begins before).epoch) ≡ b → (if b then table_at f own run n else table_in f key before n) ≡ table_in f key before n
        by true e = let same : n.epoch ≡ (next_begins before).epoch = eqb-true n.epoch (next_begins before).epoch e in absurd (omega (arith, same, lt))
        by false e = refl

  -- the epoch of this number begins there, and has this run; the table gives its names their values by its key
  abbrev pub IsThere : Epochs → ℕ → Offsets × Run → Type 0
  IsThere es i e =
      (e.0.epoch ≡ (first_begins es).epoch + i) × (slice_get (runs_of es) i ≡ Some e.1)
      × ((n : Name) → n.epoch ≡ e.0.epoch → table_in f key es n ≡ table_at f (key_at key es i) e.1 n)

  pub epoch_there : (es : Epochs) (i : ℕ) (e : Offsets × Run) → slice_get (listed_epochs es) i ≡ Some e → IsThere es i e
  epoch_there (From o run) zero e at = subst (IsThere (From o run) zero) (same_there (o, run) e at) (omega arith, refl, λ n own. refl)
  epoch_there (From o run) (suc i) e at = absurd (cc)
  epoch_there (Renewed before own run) i e at = ⊎_elim (λ had. earlier had (epoch_there before i e had)) last (either_of (listed_epochs before) (next_begins before, run) e i at)
    where
      earlier : slice_get (listed_epochs before) i ≡ Some e → IsThere before i e → IsThere (Renewed before own run) i e
      earlier had here =
          let within : i < length (listed_epochs before) = slice_get_within (listed_epochs before) i e had in
          let less : i < length (key ∷ renewal_keys before) = omega (arith, within, length-keys before, length-runs before) in (
            here.0,
            slice_get-before (runs_of before) (run ∷ []) i e.1 here.1,
            λ n its.
                at_others before own run n (omega (arith, its, here.0, next-epoch before, within)) ∙ here.2 n its
                ∙ ap (λ k. table_at f k e.1 n) (sym (get_or_append_left (key ∷ renewal_keys before) (own ∷ []) [] i less)),
          )

      last : (i ≡ length (listed_epochs before)) × ((next_begins before, run) ≡ e) → IsThere (Renewed before own run) i e
      last here =
          let long : i ≡ length (key ∷ renewal_keys before) = omega (arith, here.0, length-keys before, length-runs before) in
          subst (IsThere (Renewed before own run) i) here.1 (
            omega (arith, here.0, next-epoch before),
            slice_get-behind (runs_of before) run i (here.0 ∙ sym (length-runs before)),
            λ n its.
                at_last before own run n its
                ∙ ap (λ k. table_at f k run n) (sym (ap (λ k. get_or ((key ∷ renewal_keys before) ++ own ∷ []) k []) long ∙ get_or-append_seam (key ∷ renewal_keys before) own [] [])),
          )
