-- The epochs of a run after those that ended: what is so of them, with more commands or with an epoch more.
use Rattle.std.proofs.Common.{◌≡◌, ℕ, zero, suc, List, [], ◌∷◌, ◌++◌, length, map, Some, refl, sym, ap, subst, ◌∙◌, arith}
use Rattle.std.specs.Prelude.{slice_get}
use Rattle.std.proofs.lemmas.List.{map-append}
use Rattle.std.proofs.lemmas.List.Sums.{fold_push}
use Rattle.client_registry.proofs.FromEnd.{from_end}
use Rattle.client_registry.specs.Command.{Command}
use Rattle.client_registry.specs.Epochs.{AreEpochs, first_begins, setup_renewed, with_commands}
use Rattle.client_registry.specs.Run.{Run, Epochs, From, Renewed, at_first, last_run}
use Rattle.client_registry.specs.Sized.{IsHistory}
use Rattle.leakage_history.specs.HashedEpochs.{epochs_with, renewal_keys, renewed_after, runs_of}
use Rattle.leakage_history.specs.HashedRun.{run_of}
use Rattle.leakage_history.specs.declared.epochs.Ended.{Ended}

-- with an epoch more that ended
pub epochs_with-push : (before : List Ended) (e : Ended) (run : Run) → epochs_with (before ++ e ∷ []) run ≡ Renewed (epochs_with before (run_of e.history)) e.key run
epochs_with-push before e run = ap (λ (front : Run → Epochs). front run) (fold_push renewed_after (λ run. From at_first run) before e)

-- the last epoch is that of the run
pub last_run-with : (before : List Ended) (run : Run) → last_run (epochs_with before run) ≡ run
last_run-with = from_end (λ before. (run : Run) → last_run (epochs_with before run) ≡ run) (λ run. refl) (λ before e had run. ap last_run (epochs_with-push before e run))

-- with more commands
pub with_commands-with : (cs : List Command) (before : List Ended) (run : Run) → with_commands cs (epochs_with before run) ≡ epochs_with before (record { setup = run.setup; later = run.later ++ cs })
with_commands-with cs =
    from_end (λ before. (run : Run) → with_commands cs (epochs_with before run) ≡ epochs_with before (record { setup = run.setup; later = run.later ++ cs }))
    (λ run. refl)
    (λ before e had run. ap (with_commands cs) (epochs_with-push before e run) ∙ sym (epochs_with-push before e (record { setup = run.setup; later = run.later ++ cs })))

-- the first one begins a history
pub first_begins-with : (before : List Ended) (run : Run) → first_begins (epochs_with before run) ≡ at_first
first_begins-with =
    from_end (λ before. (run : Run) → first_begins (epochs_with before run) ≡ at_first)
    (λ run. refl)
    (λ before e had run. ap first_begins (epochs_with-push before e run) ∙ had (run_of e.history))

-- the run of an epoch that ended
abbrev pub run_ended : Ended → Run
run_ended e = run_of e.history

-- all runs in turn
pub runs_of-with : (before : List Ended) (run : Run) → runs_of (epochs_with before run) ≡ map run_ended before ++ run ∷ []
runs_of-with =
    from_end (λ before. (run : Run) → runs_of (epochs_with before run) ≡ map run_ended before ++ run ∷ [])
    (λ run. refl)
    (λ before e had run.
    ap runs_of (epochs_with-push before e run) ∙ ap (λ runs. runs ++ run ∷ []) (had (run_of e.history)) ∙ ap (λ runs. runs ++ run ∷ []) (sym (map-append run_ended before (e ∷ []))))

-- and all keys of renewals
pub renewal_keys-with : (before : List Ended) (run : Run) → renewal_keys (epochs_with before run) ≡ map (λ (e : Ended). e.key) before
renewal_keys-with =
    from_end (λ before. (run : Run) → renewal_keys (epochs_with before run) ≡ map (λ (e : Ended). e.key) before)
    (λ run. refl)
    (λ before e had run.
    ap renewal_keys (epochs_with-push before e run) ∙ ap (λ keys. keys ++ e.key ∷ []) (had (run_of e.history)) ∙ sym (map-append (λ (e : Ended). e.key) before (e ∷ [])))

-- The rules of epochs.

-- the last one keeps those of a history
pub last-is_history : (before : List Ended) (run : Run) → AreEpochs (epochs_with before run) → IsHistory run
last-is_history =
    from_end (λ before. (run : Run) → AreEpochs (epochs_with before run) → IsHistory run)
    (λ run are. are)
    (λ before e had run are. (subst AreEpochs (epochs_with-push before e run) are).2)

-- another run of the same setup may be in its place
pub last-again : (before : List Ended) (run next : Run) → AreEpochs (epochs_with before run) → next.setup ≡ run.setup → IsHistory next → AreEpochs (epochs_with before next)
last-again =
    from_end (λ before. (run next : Run) → AreEpochs (epochs_with before run) → next.setup ≡ run.setup → IsHistory next → AreEpochs (epochs_with before next))
    (λ run next are same is. is)
    (λ before e had run next are same is.
    let parts = subst AreEpochs (epochs_with-push before e run) are in subst AreEpochs (sym (epochs_with-push before e next)) (parts.0, same ∙ parts.1, is))

-- and an epoch more of what is live after it
pub renewed-are_epochs : (before : List Ended) (e : Ended) (next : Run) → AreEpochs (epochs_with before (run_of e.history)) → next.setup ≡ setup_renewed (run_of e.history) → IsHistory next
    → AreEpochs (epochs_with (before ++ e ∷ []) next)
renewed-are_epochs before e next are same is =
    subst AreEpochs (sym (epochs_with-push before e next)) (are, same ∙ ap setup_renewed (sym (last_run-with before (run_of e.history))), is)

-- Items of a list with one more.

pub slice_get-behind : {A : Type 0} (xs : List A) (y : A) (n : ℕ) → n ≡ length xs → slice_get (xs ++ y ∷ []) n ≡ Some y
slice_get-behind [] y zero e = refl
slice_get-behind [] y (suc n) e = absurd (omega (arith, e))
slice_get-behind (x ∷ xs) y zero e = absurd (omega (arith, e))
slice_get-behind (x ∷ xs) y (suc n) e = slice_get-behind xs y n (omega (arith, e))

pub slice_get-before : {A : Type 0} (xs ys : List A) (n : ℕ) (x : A) → slice_get xs n ≡ Some x → slice_get (xs ++ ys) n ≡ Some x
slice_get-before [] ys n x at = absurd (cc)
slice_get-before (y ∷ xs) ys zero x at = at
slice_get-before (y ∷ xs) ys (suc n) x at = slice_get-before xs ys n x at
