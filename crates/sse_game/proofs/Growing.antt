-- A history with a command more: what it leaks, draws and numbers.
use Rattle.std.proofs.Common.{◌≡◌, ◌≢◌, ℕ, ◌+◌, true, List, [], ◌∷◌, ◌++◌, length, map, filter, Some, None, refl, sym, ap, ◌∙◌, arith, length-append}
use Rattle.std.proofs.lemmas.Bool.{true≢false}
use Rattle.std.proofs.lemmas.List.{append-nil}
use Rattle.std.proofs.lemmas.List.Elements.{filter-append}
use Rattle.client_registry.proofs.HistoryLaws.{joined-longer}
use Rattle.client_registry.proofs.OverLaws.{length-over}
use Rattle.client_registry.specs.Acceptance.{frames_needed}
use Rattle.client_registry.specs.Command.{Command, is_update}
use Rattle.client_registry.specs.Epochs.{Does, Renews, begins, key_now, next_begins, setup_renewed, with_commands, with_renewal}
use Rattle.client_registry.specs.Histories.{IsWhole}
use Rattle.client_registry.specs.Over.{over}
use Rattle.client_registry.specs.Run.{Offsets, Epochs, From, Renewed, History, last_run}
use Rattle.def_duel.specs.Choices.{Choice, SetsUp, Goes, accepts_choice, grown}
use Rattle.def_leakage.proofs.Draws.{ranks_in}
use Rattle.def_leakage.proofs.Fronts.{leak-append, draws-append}
use Rattle.def_leakage.specs.CommandLeaks.{leak, leak_by}
use Rattle.def_leakage.specs.DrawnValues.{draw, drawings_by, draws}
use Rattle.def_leakage.specs.Histories.{leak_in, draws_in}
use Rattle.def_relabelling.proofs.Pairs.{tails}
use Rattle.keyed_fn.specs.KeyedFn.{KeyedFn}
use Rattle.sse_model.specs.Histories.{table_at}
use Rattle.sse_simulator.specs.Leaks.{Draw}
use Rattle.sse_game.specs.Passing.{marks_by, marks_in}

inside : {A : Type 0} (x y : A) → Some x ≡ Some y → x ≡ y
inside x y e = cc

-- What it leaks.

pub leaks-does : (es : Epochs) (c : Command) → leak_in (Some (with_commands (c ∷ []) es)) ≡ leak_in (Some es) ++ leak_by (begins es) (last_run es).setup (last_run es).later c ∷ []
leaks-does es c = joined-longer (λ key o run. leak o run) (λ key o run cs. over (leak_by o run.setup) run.later cs) (λ key o run cs. leak-append o run cs) [] es (c ∷ [])

-- so many items as commands
pub leaks-count : (es : Epochs) → IsWhole (Some es) → length (leak_in (Some es)) ≡ (next_begins es).command
leaks-count (From o run) whole = omega (arith, length-over (leak_by o run.setup) [] run.later, ap (λ (b : Offsets). b.command) whole)
leaks-count (Renewed before key run) whole =
    omega (arith, leaks-count before whole, length-append (leak_in (Some before)) (leak (next_begins before) run), length-over (leak_by (next_begins before) run.setup) [] run.later)

-- Its numbers.

pub next-does : (es : Epochs) (c : Command) → ((next_begins (with_commands (c ∷ []) es)).command ≡ (next_begins es).command + 1)
    × ((next_begins (with_commands (c ∷ []) es)).frame ≡ (next_begins es).frame + length (filter is_update (c ∷ [])))
next-does (From o run) c = (
  omega (arith, length-append run.later (c ∷ [])),
  omega (arith, ap length (filter-append is_update run.later (c ∷ [])), length-append (filter is_update run.later) (filter is_update (c ∷ []))),
)
next-does (Renewed before key run) c = (
  omega (arith, length-append run.later (c ∷ [])),
  omega (arith, ap length (filter-append is_update run.later (c ∷ [])), length-append (filter is_update run.later) (filter is_update (c ∷ []))),
)

pub next-renews : (es : Epochs) (key : List ℕ) → ((next_begins (with_renewal key es)).command ≡ (next_begins es).command + 1)
    × ((next_begins (with_renewal key es)).frame ≡ (next_begins es).frame + frames_needed (setup_renewed (last_run es)))
next-renews es key = (omega arith, omega arith)

-- What it draws.

module _ (f : KeyedFn) (key : List ℕ) where
  -- by a command after the setup, under the key of the last epoch
  pub draws-next : (es : Epochs) (c : Command) → draws_in f key (Some (with_commands (c ∷ []) es))
      ≡ draws_in f key (Some es)
      ++ map (draw (table_at f (key_now key es) (last_run es)) (ranks_in (table_at f (key_now key es) (last_run es)) (begins es).epoch (last_run es).setup)) (drawings_by (begins es).epoch (last_run es).setup (last_run es).later c) ∷ []
  draws-next es c =
      joined-longer (λ own o run. draws (table_at f own run) o run)
      (λ own o run cs. map (map (draw (table_at f own run) (ranks_in (table_at f own run) o.epoch run.setup))) (over (drawings_by o.epoch run.setup) run.later cs))
      (λ own o run cs. draws-append (table_at f own run) o run cs) key es (c ∷ [])

  pub draws-grown : (h : History) (c : Choice) → accepts_choice h c ≡ true → (own : List Draw) × (draws_in f key (grown h c) ≡ draws_in f key h ++ own ∷ [])
  draws-grown None (SetsUp s) ok = (_, refl)
  draws-grown None (Goes step) ok = absurd (true≢false (sym ok))
  draws-grown (Some es) (SetsUp s) ok = absurd (true≢false (sym ok))
  draws-grown (Some es) (Goes (Does c)) ok = (_, draws-next es c)
  draws-grown (Some es) (Goes (Renews own)) ok = (_, refl)

  -- those of the last epoch come last
  pub draws-last : (es : Epochs) → (front : List (List Draw)) × (draws_in f key (Some es) ≡ front ++ draws (table_at f (key_now key es) (last_run es)) (begins es) (last_run es))
  draws-last (From o run) = ([], refl)
  draws-last (Renewed before own run) = (draws_in f key (Some before), refl)

  -- and the marks of its keys
  pub marks-grown : (es after : Epochs) (c : Choice) → accepts_choice (Some es) c ≡ true → Some after ≡ grown (Some es) c → marks_in f key after ≡ marks_in f key es ++ marks_by f c
  marks-grown es after (SetsUp s) ok is = absurd (true≢false (sym ok))
  marks-grown es after (Goes (Does c)) ok is = ap (marks_in f key) (inside after (with_commands (c ∷ []) es) is) ∙ same es
    where
      same : (es : Epochs) → marks_in f key (with_commands (c ∷ []) es) ≡ marks_in f key es ++ []
      same (From o run) = refl
      same (Renewed before own run) = sym (append-nil (marks_in f key (Renewed before own run)))
  marks-grown es after (Goes (Renews own)) ok is = ap (marks_in f key) (inside after (with_renewal own es) is)

-- the last of joined lists
pub ends_with : {A : Type 0} (before all front : List A) (x : A) → before ++ all ≡ front ++ x ∷ [] → all ≢ [] → (own : List A) × (all ≡ own ++ x ∷ [])
ends_with [] all front x e some = (front, e)
ends_with (a ∷ before) all [] x e some = absurd (some (none before all (tails a x (before ++ all) [] e)))
  where
    none : {A : Type 0} (xs ys : List A) → xs ++ ys ≡ [] → ys ≡ []
    none [] ys e = e
    none (x ∷ xs) ys e = absurd (cc)
ends_with (a ∷ before) all (b ∷ front) x e some = ends_with before all front x (tails a b (before ++ all) (front ++ x ∷ []) e) some
