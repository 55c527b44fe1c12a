-- The table relabelled for the first steps of two histories is a restriction of the one relabelled for more of them, whatever their epochs.
use Rattle.std.proofs.Common.{◌≡◌, ℕ, ◌≤◌, Bool, true, false, List, [], ◌∷◌, ◌++◌, refl, sym, ap, ◌∙◌, subst, arith, append_assoc, eqb-true, ⊎_elim, inl, inr, Some, None}
use Rattle.std.specs.Prelude.{◌⊎◌, ◌==◌, Contains, fold, if◌then◌else◌}
use Rattle.std.proofs.lemmas.Cmp.{nat_eq_equiv}
use Rattle.std.proofs.lemmas.List.Elements.{Contains-append_cases}
use Rattle.client_registry.proofs.HistoryLaws.{begins-with_commands, with_commands-none}
use Rattle.client_registry.specs.Command.{Command}
use Rattle.client_registry.specs.Epochs.{AreEpochs, Step, Does, Renews, begins, next_begins, step_after, with_commands}
use Rattle.client_registry.specs.Histories.{IsFirstOf, IsKept, IsWhole}
use Rattle.client_registry.specs.Run.{Run, Offsets, Epochs, From, Renewed, History}
use Rattle.client_registry.specs.Sized.{IsHistory}
use Rattle.def_comparison.specs.UsedNames.{all_names}
use Rattle.def_leakage.specs.CommandLeaks.{leak}
use Rattle.def_leakage.specs.Histories.{leak_in}
use Rattle.def_leakage.specs.Relabelled.{relabelled}
use Rattle.def_relabelling.proofs.AlikeEpochs.{LeakAlike, alike, leaks_some, next-same}
use Rattle.def_relabelling.proofs.OneToOne.{relabelled-agree}
use Rattle.def_relabelling.proofs.OwnEpoch.{own_names}
use Rattle.def_relabelling.proofs.RelabelledEpochs.{relabelled-before}
use Rattle.def_relabelling.specs.Histories.{all_names_in, relabelled_epochs, relabelled_from, table_in}
use Rattle.keyed_fn.specs.KeyedFn.{KeyedFn}
use Rattle.sse_model.proofs.Members.{Contains-nil}
use Rattle.sse_model.proofs.Prefixes.{run_of}
use Rattle.sse_model.specs.Histories.{table_at}
use Rattle.sse_model.specs.Names.{Name, Table}
use Rattle.def_duel.proofs.Grown.{relabelled-first}
use Rattle.def_duel.specs.Telling.{AgreeAtNames}

-- The first epochs of a history.

with_commands-join : (cs ds : List Command) (es : Epochs) → with_commands ds (with_commands cs es) ≡ with_commands (cs ++ ds) es
with_commands-join cs ds (From o run) = λ i. From o (record { setup = run.setup; later = append_assoc run.later cs ds i })
with_commands-join cs ds (Renewed before key run) = λ i. Renewed before key (record { setup = run.setup; later = append_assoc run.later cs ds i })

-- the same epochs, with more commands in the last one
abbrev HasCommands : Epochs → Epochs → Type 0
HasCommands es whole = (cs : List Command) × (whole ≡ with_commands cs es)

-- those, or those with later epochs
abbrev IsFront : Epochs → Epochs → Type 0
IsFront es (From o run) = HasCommands es (From o run)
IsFront es (Renewed before key run) = HasCommands es (Renewed before key run) ⊎ IsFront es before

IsFront-same : (es : Epochs) → IsFront es es
IsFront-same (From o run) = ([], sym (with_commands-none (From o run)))
IsFront-same (Renewed before key run) = inl ([], sym (with_commands-none (Renewed before key run)))

one_more : (es whole : Epochs) (c : Command) → HasCommands es whole → HasCommands es (with_commands (c ∷ []) whole)
one_more es whole c has = (has.0 ++ c ∷ [], ap (with_commands (c ∷ [])) has.1 ∙ with_commands-join has.0 (c ∷ []) es)

IsFront-step : (es whole : Epochs) (step : Step) → IsFront es whole → IsFront es (step_after whole step)
IsFront-step es (From o run) (Does c) front = one_more es (From o run) c front
IsFront-step es (Renewed before key run) (Does c) front = ⊎_elim (λ has. inl (one_more es (Renewed before key run) c has)) (λ earlier. inr earlier) front
IsFront-step es whole (Renews key) front = inr front

IsFront-steps : (es whole : Epochs) (steps : List Step) → IsFront es whole → IsFront es (fold step_after whole steps)
IsFront-steps es whole [] front = front
IsFront-steps es whole (step ∷ steps) front = IsFront-steps es (step_after whole step) steps (IsFront-step es whole step front)

same_epoch : (es whole : Epochs) → HasCommands es whole → (begins whole).epoch ≡ (begins es).epoch
same_epoch es whole has = ap (λ (xs : Epochs). (begins xs).epoch) has.1 ∙ ap (λ (o : Offsets). o.epoch) (begins-with_commands has.0 es)

front_epoch : (es whole : Epochs) → IsFront es whole → (begins es).epoch ≤ (begins whole).epoch
front_epoch es (From o run) front = omega (arith, same_epoch es (From o run) front)
front_epoch es (Renewed before key run) front =
    ⊎_elim (λ has. omega (arith, same_epoch es (Renewed before key run) has)) (λ earlier. omega (arith, front_epoch es before earlier)) front

-- Names and their epochs.

names_below : (es : Epochs) (n : Name) → Contains (all_names_in es) n → n.epoch ≤ (begins es).epoch
names_below (From o run) n within = omega (arith, own_names o run n within)
names_below (Renewed before key run) n within =
    let o = next_begins before in
    ⊎_elim (λ one. omega (arith, names_below before n one)) (λ other. omega (arith, own_names o run n other)) (Contains-append_cases (all_names_in before) (all_names o run) n within)

-- the relabelled table depends on no values but those at the names of the first history
epochs-agree : (es other : Epochs) (t u : Table) → ((n : Name) → n.epoch ≤ (begins es).epoch → t n ≡ u n) → (n : Name) → relabelled_epochs es other t n ≡ relabelled_epochs es other u n
epochs-agree (From o run) (From o2 other) t u agree n = relabelled-agree o run other t u (λ x within. agree x (omega (arith, own_names o run x within))) n
epochs-agree (From o run) (Renewed before2 key2 other) t u agree n = refl
epochs-agree (Renewed before key run) (From o2 other) t u agree n = refl
epochs-agree (Renewed before key run) (Renewed before2 key2 other) t u agree n =
    let o = next_begins before in
    λ i. if n.epoch == o.epoch then relabelled-agree o run other t u (λ x within. agree x (omega (arith, own_names o run x within))) n i
    else epochs-agree before before2 t u (λ x le. agree x (omega (arith, le))) n i

-- One epoch, with more commands on both sides.

in_epoch : (o o2 : Offsets) (run run2 : Run) (cs ds : List Command) (t : Table) → o ≡ o2 → IsHistory (run_of run.setup (run.later ++ cs)) → IsHistory (run_of run2.setup (run2.later ++ ds))
    → leak o run ≡ leak o2 run2 → leak o (run_of run.setup (run.later ++ cs)) ≡ leak o2 (run_of run2.setup (run2.later ++ ds))
    → (n : Name) → Contains (all_names o2 run2) n
    → relabelled o run run2 t n ≡ relabelled o (run_of run.setup (run.later ++ cs)) (run_of run2.setup (run2.later ++ ds)) t n
in_epoch o o2 run run2 cs ds t same history history2 leaks longer n within =
    relabelled-first o run.setup run2.setup run.later run2.later cs ds t history history2
    (leaks ∙ ap (λ (p : Offsets). leak p run2) (sym same)) (longer ∙ ap (λ (p : Offsets). leak p (run_of run2.setup (run2.later ++ ds))) (sym same))
    n (subst (λ (p : Offsets). Contains (all_names p run2) n) (sym same) within)

-- the last epochs of both have more commands
more_commands : (es es2 : Epochs) (cs ds : List Command) (t : Table) → LeakAlike es es2 → LeakAlike (with_commands cs es) (with_commands ds es2)
    → AreEpochs (with_commands cs es) → AreEpochs (with_commands ds es2) → (n : Name) → Contains (all_names_in es2) n
    → relabelled_epochs es es2 t n ≡ relabelled_epochs (with_commands cs es) (with_commands ds es2) t n
more_commands (From o run) (From o2 run2) cs ds t leaks longer are are2 n within = in_epoch o o2 run run2 cs ds t leaks.0 are are2 leaks.1 longer.1 n within
more_commands (From o run) (Renewed before2 key2 run2) cs ds t leaks longer are are2 n within = absurd leaks
more_commands (Renewed before key run) (From o2 run2) cs ds t leaks longer are are2 n within = absurd leaks
more_commands (Renewed before key run) (Renewed before2 key2 run2) cs ds t leaks longer are are2 n within =
    by (n.epoch == o.epoch) refl
  where
    o : Offsets
    o = next_begins before

    same : o ≡ next_begins before2
    same = next-same before before2 leaks.0

    -- a name of this epoch is no name of those before
    here : n.epoch ≡ o.epoch → Contains (all_names (next_begins before2) run2) n
    here e =
        ⊎_elim (λ earlier. absurd (omega (arith, e, names_below before2 n earlier, ap (λ (p : Offsets). p.epoch) same))) (λ now. now)
        (Contains-append_cases (all_names_in before2) (all_names (next_begins before2) run2) n within)

    by : (b : Bool) → (n.epoch == o.epoch) ≡ b
        → (if b then relabelled o run run2 t n else relabelled_epochs before before2 t n)
        ≡ (if b then relabelled o (run_of run.setup (run.later ++ cs)) (run_of run2.setup (run2.later ++ ds)) t n else relabelled_epochs before before2 t n)
    by true e = in_epoch o (next_begins before2) run run2 cs ds t same are.2 are2.2 leaks.1 longer.1 n (here (eqb-true n.epoch o.epoch e))
    by false e = refl

-- All epochs.

module _ (es es2 : Epochs) (t : Table) (leaks : LeakAlike es es2) where
  one_epoch : (begins es).epoch ≡ (begins es2).epoch
  one_epoch = omega (arith, ap (λ (o : Offsets). o.epoch) (next-same es es2 leaks))

  with_more : (whole whole2 : Epochs) → HasCommands es whole → HasCommands es2 whole2 → LeakAlike whole whole2 → AreEpochs whole → AreEpochs whole2
      → (n : Name) → Contains (all_names_in es2) n → relabelled_epochs es es2 t n ≡ relabelled_epochs whole whole2 t n
  with_more whole whole2 has has2 longer are are2 n within =
      let now = subst (λ xs. LeakAlike xs (with_commands has2.0 es2)) has.1 (subst (λ xs. LeakAlike whole xs) has2.1 longer) in
      more_commands es es2 has.0 has2.0 t leaks now (subst AreEpochs has.1 are) (subst AreEpochs has2.1 are2) n within
      ∙ (λ i. relabelled_epochs (sym has.1 i) (sym has2.1 i) t n)

  -- Promise P315 (inside): A table relabelled for the first steps of two histories agrees, on their names, with the one relabelled for more steps.
  --   assumes: equal leakage, kept limits
  pub relabelled_epochs-first : (whole whole2 : Epochs) → IsFront es whole → IsFront es2 whole2 → LeakAlike whole whole2 → AreEpochs whole → AreEpochs whole2
      → (n : Name) → Contains (all_names_in es2) n → relabelled_epochs es es2 t n ≡ relabelled_epochs whole whole2 t n
  relabelled_epochs-first (From p r) (From p2 r2) front front2 longer are are2 n within = with_more (From p r) (From p2 r2) front front2 longer are are2 n within
  relabelled_epochs-first (From p r) (Renewed b2 k2 r2) front front2 longer are are2 n within = absurd longer
  relabelled_epochs-first (Renewed b k r) (From p2 r2) front front2 longer are are2 n within = absurd longer
  relabelled_epochs-first (Renewed b k r) (Renewed b2 k2 r2) front front2 longer are are2 n within =
      let whole = Renewed b k r in
      let whole2 = Renewed b2 k2 r2 in
      let level = ap (λ (o : Offsets). o.epoch) (next-same b b2 longer.0) in
      ⊎_elim
      (λ (has : HasCommands es whole).
      ⊎_elim (λ (has2 : HasCommands es2 whole2). with_more whole whole2 has has2 longer are are2 n within)
      (λ (earlier2 : IsFront es2 b2). absurd (omega (arith, same_epoch es whole has, front_epoch es2 b2 earlier2, one_epoch, level))) front2)
      (λ (earlier : IsFront es b).
      ⊎_elim (λ (has2 : HasCommands es2 whole2). absurd (omega (arith, same_epoch es2 whole2 has2, front_epoch es b earlier, one_epoch, level)))
      (λ (earlier2 : IsFront es2 b2).
      relabelled_epochs-first b b2 earlier earlier2 longer.0 are.0 are2.0 n within
      ∙ sym (relabelled-before b b2 k k2 r r2 t n (omega (arith, names_below es2 n within, one_epoch, front_epoch es b earlier)))) front2) front

-- The table of keys.

module _ (f : KeyedFn) (key : List ℕ) where
  -- more commands have the same values
  table_in-commands : (es : Epochs) (cs : List Command) (n : Name) → table_in f key (with_commands cs es) n ≡ table_in f key es n
  table_in-commands (From o run) cs n = refl
  table_in-commands (Renewed before own run) cs n = refl

  -- the last epoch has those of its own key
  pub table_in-now : (before : Epochs) (own : List ℕ) (run : Run) (n : Name) → n.epoch ≡ (next_begins before).epoch → table_in f key (Renewed before own run) n ≡ table_at f own run n
  table_in-now before own run n e =
      ap (λ b. if b then table_at f own run n else table_in f key before n) (ap (λ k. k == (next_begins before).epoch) e ∙ nat_eq_equiv.refl (next_begins before).epoch)

  -- and later epochs leave those of the epochs before
  pub table_in-before : (before : Epochs) (own : List ℕ) (run : Run) (n : Name) → n.epoch ≤ (begins before).epoch → table_in f key (Renewed before own run) n ≡ table_in f key before n
  table_in-before before own run n le = by (n.epoch == (next_begins before).epoch) refl
    where
      by : (b : Bool) → (n.epoch == (next_begins before).epoch) ≡ b → (if b then table_at f own run n else table_in f key before n) ≡ table_in f key before n
      by true e = let same : n.epoch ≡ (next_begins before).epoch = eqb-true n.epoch (next_begins before).epoch e in absurd (omega (arith, same, le))
      by false e = refl

  table_in-first : (es whole : Epochs) → IsFront es whole → (n : Name) → n.epoch ≤ (begins es).epoch → table_in f key es n ≡ table_in f key whole n
  table_in-first es (From o run) front n le = sym (ap (λ (xs : Epochs). table_in f key xs n) front.1 ∙ table_in-commands es front.0 n)
  table_in-first es (Renewed before own run) front n le =
      ⊎_elim (λ (has : HasCommands es (Renewed before own run)). sym (ap (λ (xs : Epochs). table_in f key xs n) has.1 ∙ table_in-commands es has.0 n))
      (λ (earlier : IsFront es before). table_in-first es before earlier n le ∙ sym (table_in-before before own run n (omega (arith, le, front_epoch es before earlier))))
      front

  -- Promise P315, also here
  -- the table relabelled from that of the keys
  pub relabelled_from-first : (part part2 whole whole2 : History) → IsFirstOf part whole → IsFirstOf part2 whole2 → IsWhole whole → IsWhole whole2 → IsWhole part → IsWhole part2
      → IsKept whole → IsKept whole2 → leak_in part ≡ leak_in part2 → leak_in whole ≡ leak_in whole2
      → AgreeAtNames part2 (relabelled_from f key part part2) (relabelled_from f key whole whole2)
  relabelled_from-first None None whole whole2 p p2 w w2 v v2 kept kept2 leaks longer n within = absurd (Contains-nil n within)
  relabelled_from-first None (Some es2) whole whole2 p p2 w w2 v v2 kept kept2 leaks longer n within = leaks_some es2 (sym leaks)
  relabelled_from-first (Some es) None whole whole2 p p2 w w2 v v2 kept kept2 leaks longer n within = absurd (Contains-nil n within)
  relabelled_from-first (Some es) (Some es2) None whole2 p p2 w w2 v v2 kept kept2 leaks longer n within = absurd p
  relabelled_from-first (Some es) (Some es2) (Some all) None p p2 w w2 v v2 kept kept2 leaks longer n within = absurd p2
  relabelled_from-first (Some es) (Some es2) (Some all) (Some all2) p p2 w w2 v v2 kept kept2 leaks longer n within =
      let front : IsFront es all = subst (IsFront es) (sym p.1) (IsFront-steps es es p.0 (IsFront-same es)) in
      let front2 : IsFront es2 all2 = subst (IsFront es2) (sym p2.1) (IsFront-steps es2 es2 p2.0 (IsFront-same es2)) in
      epochs-agree es es2 (table_in f key es) (table_in f key all) (λ x le. table_in-first es all front x le) n
      ∙ relabelled_epochs-first es es2 (table_in f key all) (alike es es2 (v ∙ sym v2) leaks) all all2 front front2 (alike all all2 (w ∙ sym w2) longer) kept.0 kept2.0 n within
