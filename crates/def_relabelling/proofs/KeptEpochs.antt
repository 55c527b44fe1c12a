-- Of two histories of equal leakage, whatever their epochs: which values the relabelled table keeps, and that searches open the same.
use Rattle.std.proofs.Common.{◌≡◌, ◌⊎◌, ℕ, ◌≤◌, true, List, refl, sym, ap, subst, ◌∙◌, arith, None}
use Rattle.std.specs.Prelude.{Contains}
use Rattle.client_registry.specs.Epochs.{begins, next_begins, AreEpochs}
use Rattle.client_registry.specs.Run.{Run, Offsets, Epochs, From, Renewed}
use Rattle.client_registry.specs.Sized.{IsHistory}
use Rattle.def_leakage.specs.CommandLeaks.{leak}
use Rattle.def_leakage.specs.Relabelled.{Use, uses, relabelled}
use Rattle.sse_model.proofs.Members.{Contains-map, AllByRecursion-from_members}
use Rattle.sse_model.specs.Names.{Name, Table}
use Rattle.sse_model.specs.Positions.{block_positions, ranks_of}
use Rattle.sse_model.specs.Wire.{labels_in}
use Rattle.std.specs.List.{AllByRecursion}
use Rattle.def_relabelling.proofs.AlikeEpochs.{LeakAlike, next-same}
use Rattle.def_relabelling.proofs.EpochDraws.{AgreeAt}
use Rattle.def_relabelling.proofs.KeptValues.{is_searched, names_used, values_kept}
use Rattle.def_relabelling.proofs.OpenedAlike.{opened_alike}
use Rattle.def_relabelling.proofs.OwnEpoch.{own_names}
use Rattle.def_relabelling.proofs.Pairs.{paired-weaker}
use Rattle.def_relabelling.proofs.RelabelledEpochs.{relabelled-now, relabelled-before}
use Rattle.def_relabelling.specs.Histories.{relabelled_epochs}
use Rattle.def_relabelling.specs.OpenedAlike.{AreOpenedAlike}
use Rattle.def_relabelling.specs.Paired.{Paired}

-- the blocks of a run have these ranks under a table
abbrev ranks_under : Table → Offsets → Run → List ℕ
ranks_under t o run = ranks_of (labels_in t (block_positions o.epoch run.setup))

-- at each place of what two runs use, where blocks are ordered by the table of the first
abbrev pub AreBeside : (Use → Use → Type 0) → Table → Offsets → (run other : Run) → Type 0
AreBeside R t o run other = Paired R (uses o run (ranks_under t o run)) (uses o other (ranks_under t o run))

-- and so in each epoch of two histories
abbrev pub BesideIn : (Table → Table → Run → Use → Use → Type 0) → (t m : Table) → (es other : Epochs) → Type 0
BesideIn R t m (From o run) (From o2 other) = AreBeside (R t m run) t o run other
BesideIn R t m (Renewed before key run) (Renewed before2 key2 other) = BesideIn R t m before before2 × AreBeside (R t m run) t (next_begins before) run other
BesideIn R t m _ _ = ⊥

-- the second name has the value of the first, where that is of a word that its run searches, or is no pad
abbrev pub IsKept : Table → Table → Run → Use → Use → Type 0
IsKept t m run a b = (is_searched run a.name ≡ true) ⊎ (a.text ≡ None) → m b.name ≡ t a.name

-- a search opens the same of both
abbrev pub IsOpened : Table → Table → Run → Use → Use → Type 0
IsOpened t m run a b = is_searched run a.name ≡ true → AreOpenedAlike t m a b

-- An epoch, under any table that is the relabelled one at the names of the epoch.
module _ (o o2 : Offsets) (run other : Run) (t m : Table) (same : o ≡ o2) (history : IsHistory run) (history2 : IsHistory other) (leaks : leak o run ≡ leak o2 other)
    (agree : AgreeAt o.epoch m (relabelled o run other t)) where
  leaks_now : leak o run ≡ leak o other
  leaks_now = leaks ∙ ap (λ (p : Offsets). leak p other) (sym same)

  -- what the other run uses is of its epoch
  own_uses : AllByRecursion (λ (b : Use). b.name.epoch ≡ o.epoch) (uses o other (ranks_under t o run))
  own_uses =
      let ranks = ranks_under t o run in
      AllByRecursion-from_members (λ (b : Use). b.name.epoch ≡ o.epoch) (uses o other ranks)
      (λ b within. own_names o other b.name (subst (λ ns. Contains ns b.name) (names_used o other ranks) (Contains-map (λ (x : Use). x.name) (uses o other ranks) b within)))

  any_uses : AllByRecursion (λ (a : Use). Unit {0}) (uses o run (ranks_under t o run))
  any_uses = AllByRecursion-from_members (λ (a : Use). Unit {0}) (uses o run (ranks_under t o run)) (λ a within. tt)

  kept_epoch : AreBeside (IsKept t m run) t o run other
  kept_epoch =
      paired-weaker (IsKept t (relabelled o run other t) run) (IsKept t m run) (λ (a : Use). Unit {0}) (λ (b : Use). b.name.epoch ≡ o.epoch)
      (uses o run (ranks_under t o run)) (uses o other (ranks_under t o run)) any_uses own_uses (values_kept o run other t history history2 leaks_now)
      (λ a b unit its kept either. agree b.name its ∙ kept either)

  opened_epoch : AreBeside (IsOpened t m run) t o run other
  opened_epoch =
      paired-weaker (IsOpened t (relabelled o run other t) run) (IsOpened t m run) (λ (a : Use). Unit {0}) (λ (b : Use). b.name.epoch ≡ o.epoch)
      (uses o run (ranks_under t o run)) (uses o other (ranks_under t o run)) any_uses own_uses (opened_alike o run other t history history2 leaks_now)
      (λ a b unit its alike searched.
      let both = alike searched in record {
        epoch = both.epoch;
        kind = both.kind;
        number = both.number;
        value = both.value ∙ sym (agree b.name its);
        text = both.text;
      })

-- Epoch by epoch, what is so of each.
module _ (R : Table → Table → Run → Use → Use → Type 0)
    (each : (o o2 : Offsets) (run other : Run) (t m : Table) → o ≡ o2 → IsHistory run → IsHistory other → leak o run ≡ leak o2 other → AgreeAt o.epoch m (relabelled o run other t)
    → AreBeside (R t m run) t o run other) where
  all_epochs : (es other : Epochs) (t m : Table) → LeakAlike es other → AreEpochs es → AreEpochs other
      → ((n : Name) → n.epoch ≤ (begins es).epoch → m n ≡ relabelled_epochs es other t n) → BesideIn R t m es other
  all_epochs (From o run) (From o2 other) t m alike are are2 agree = each o o2 run other t m alike.0 are are2 alike.1 (λ n e. agree n (omega (arith, e)))
  all_epochs (From o run) (Renewed before2 key2 other) t m alike are are2 agree = absurd alike
  all_epochs (Renewed before key run) (From o2 other) t m alike are are2 agree = absurd alike
  all_epochs (Renewed before key run) (Renewed before2 key2 other) t m alike are are2 agree = (
    all_epochs before before2 t m alike.0 are.0 are2.0 (λ n le. agree n (omega (arith, le)) ∙ relabelled-before before before2 key key2 run other t n le),
    each (next_begins before) (next_begins before2) run other t m (next-same before before2 alike.0) are.2 are2.2 alike.1
        (λ n e. agree n (omega (arith, e)) ∙ relabelled-now before before2 key key2 run other t n e),
  )

-- Promise P150, also here
-- In each epoch the relabelled table gives the other history's names the values of the first's, at each place where the name is of a word that
-- the first history searches in that epoch, or is no pad.
pub values_kept-epochs : (es other : Epochs) (t : Table) → LeakAlike es other → AreEpochs es → AreEpochs other → BesideIn IsKept t (relabelled_epochs es other t) es other
values_kept-epochs es other t alike are are2 = all_epochs IsKept kept_epoch es other t (relabelled_epochs es other t) alike are are2 (λ n le. refl)

-- Promise P153, also here
-- and what a search opens is the same in each
pub opened_alike-epochs : (es other : Epochs) (t : Table) → LeakAlike es other → AreEpochs es → AreEpochs other → BesideIn IsOpened t (relabelled_epochs es other t) es other
opened_alike-epochs es other t alike are are2 = all_epochs IsOpened opened_epoch es other t (relabelled_epochs es other t) alike are are2 (λ n le. refl)
