-- Two runs whose leakages differ first at one command can't be told apart before it.
use Rattle.std.proofs.Common.{◌≡◌, ℕ, suc, List, [], ◌∷◌, take, drop, sym, ap, ◌∙◌, subst}
use Rattle.std.specs.Prelude.{Contains, flat_map}
use Rattle.std.proofs.lemmas.List.{take-append-drop}
use Rattle.std.proofs.lemmas.List.Concat.{flat_map-append}
use Rattle.std.proofs.lemmas.List.Elements.{Contains-append_left}
use Rattle.client_registry.proofs.OverLaws.{take-over}
use Rattle.client_registry.proofs.SizedLaws.{IsHistory-front}
use Rattle.client_registry.specs.Run.{Run, Offsets}
use Rattle.client_registry.specs.Sized.{IsHistory}
use Rattle.def_comparison.specs.FirstDifference.{IsFirstDifference}
use Rattle.def_leakage.specs.CommandLeaks.{leak_of_setup, leak_by, leak}
use Rattle.def_leakage.specs.Relabelled.{relabelled}
use Rattle.sse_model.proofs.Prefixes.{first, run_of, take-drawn, take-transcript}
use Rattle.sse_model.specs.Drawn.{drawn}
use Rattle.sse_model.specs.Names.{Name, Table}
use Rattle.sse_model.specs.Transcript.{transcript}
use Rattle.sse_model.specs.Values.{IsValue}
use Rattle.def_relabelling.proofs.SameDraws.{transcript_relabelled}

-- the leakage of the first commands is the first of the leakage
pub take-leak : (o : Offsets) (n : ℕ) (run : Run) → take (suc n) (leak o run) ≡ leak o (first n run)
take-leak o n run = ap (λ rest. leak_of_setup o.epoch run.setup ∷ rest) (take-over (leak_by o run.setup) n [] run.later)

first_is_history : (n : ℕ) (run : Run) → IsHistory run → IsHistory (first n run)
first_is_history n run history = IsHistory-front run.setup (take n run.later) (drop n run.later) (subst (λ later. IsHistory (run_of run.setup later)) (sym (take-append-drop n run.later)) history)

first_draws : (o : Offsets) (k : ℕ) (run : Run) (n : Name) → Contains (flat_map (λ ns. ns) (drawn o (first k run))) n → Contains (flat_map (λ ns. ns) (drawn o run)) n
first_draws o k run n within =
    let front = take (suc k) (drawn o run) in
    let back = drop (suc k) (drawn o run) in
    subst (λ (ns : List (List Name)). Contains (flat_map (λ ns. ns) ns) n) (take-append-drop (suc k) (drawn o run))
    (subst (λ ns. Contains ns n) (sym (flat_map-append (λ ns. ns) front back))
    (Contains-append_left (flat_map (λ ns. ns) front) (flat_map (λ ns. ns) back) n
    (subst (λ (ns : List (List Name)). Contains (flat_map (λ ns. ns) ns) n) (sym (take-drawn o k run)) within)))

module _ (o : Offsets) (run other : Run) (t : Table) (history : IsHistory run) (history2 : IsHistory other) (k : ℕ)
    (values : (n : Name) → Contains (flat_map (λ ns. ns) (drawn o run)) n → IsValue run.setup.shape t n) where
  -- Promise P47, also here
  -- Where the first place at which the leakages differ isn't the setup, all that passes before it is the same: that of the other run under the
  -- table relabelled for the commands before.
  pub alike_before : IsFirstDifference (suc k) (leak o run) (leak o other)
      → take (suc k) (transcript (relabelled o (first k run) (first k other) t) o other) ≡ take (suc k) (transcript t o run)
  alike_before differ =
      let leaks : leak o (first k run) ≡ leak o (first k other) = sym (take-leak o k run) ∙ differ.before ∙ take-leak o k other in
      take-transcript (relabelled o (first k run) (first k other) t) o k other
      ∙ transcript_relabelled o (first k run) (first k other) t (first_is_history k other history2) leaks (first_is_history k run history) (λ n within. values n (first_draws o k run n within))
      ∙ sym (take-transcript t o k run)
