-- Of two histories of equal leakage, whatever their epochs, the other draws, sends and receives under the relabelled table what the first does
-- under its own.
use Rattle.std.proofs.Common.{◌≡◌, ℕ, ◌≤◌, Bool, true, false, List, [], ◌++◌, refl, sym, ap, ◌∙◌, arith, eqb-true}
use Rattle.std.specs.Prelude.{◌==◌, flat_map, if◌then◌else◌}
use Rattle.std.proofs.lemmas.Cmp.{nat_eq_equiv}
use Rattle.client_registry.specs.Epochs.{begins, next_begins, joined, AreEpochs}
use Rattle.client_registry.specs.Run.{Run, Offsets, Epochs, From, Renewed}
use Rattle.client_registry.specs.Sized.{IsHistory}
use Rattle.def_leakage.specs.CommandLeaks.{leak}
use Rattle.def_leakage.specs.DrawnValues.{draws}
use Rattle.def_leakage.specs.Relabelled.{relabelled}
use Rattle.sse_model.specs.Names.{Name, Table}
use Rattle.sse_model.specs.Transcript.{transcript}
use Rattle.sse_model.specs.Wire.{wire}
use Rattle.def_relabelling.proofs.AlikeEpochs.{LeakAlike, next-same}
use Rattle.def_relabelling.proofs.EpochDraws.{AgreeAt, draws-own_epoch}
use Rattle.def_relabelling.proofs.SameDraws.{draws_relabelled, wire_drawn, transcript_drawn}
use Rattle.def_relabelling.specs.Histories.{passed_under, relabelled_epochs, IsTableIn}
use Rattle.def_relabelling.specs.Tables.{IsTableFor}

-- the relabelled table at the names of the last epoch, and of those before
module _ (before before2 : Epochs) (key key2 : List ℕ) (run other : Run) (t : Table) where
  abbrev pub now : Offsets
  now = next_begins before

  abbrev both : Table
  both = relabelled_epochs (Renewed before key run) (Renewed before2 key2 other) t

  pub relabelled-now : AgreeAt now.epoch both (relabelled now run other t)
  relabelled-now n e = ap (λ b. if b then relabelled now run other t n else relabelled_epochs before before2 t n) (ap (λ k. k == now.epoch) e ∙ nat_eq_equiv.refl now.epoch)

  pub relabelled-before : (n : Name) → n.epoch ≤ (begins before).epoch → both n ≡ relabelled_epochs before before2 t n
  relabelled-before n le = by (n.epoch == now.epoch) refl
    where
      by : (b : Bool) → (n.epoch == now.epoch) ≡ b → (if b then relabelled now run other t n else relabelled_epochs before before2 t n) ≡ relabelled_epochs before before2 t n
      by true e = let same : n.epoch ≡ now.epoch = eqb-true n.epoch now.epoch e in absurd (omega (arith, same, le))
      by false e = refl

-- under the one table the first history shows what the other shows under the other
pub record HasSameTraffic (es other : Epochs) (t m : Table) : Type 0 where
  pub drawn : joined (λ key o run. draws m o run) [] other ≡ joined (λ key o run. draws t o run) [] es
  pub sent : joined (λ key o run. wire m o run) [] other ≡ joined (λ key o run. wire t o run) [] es
  pub passed : passed_under m other ≡ passed_under t es

-- an epoch, under any table that is the relabelled one at the names of the epoch
one_epoch : (o o2 : Offsets) (run other : Run) (t m : Table) → o ≡ o2 → IsHistory run → IsHistory other → leak o run ≡ leak o2 other → IsTableFor t o run
    → AgreeAt o.epoch m (relabelled o run other t)
    → (draws m o2 other ≡ draws t o run) × (wire m o2 other ≡ wire t o run) × (transcript m o2 other ≡ transcript t o run)
one_epoch o o2 run other t m same history history2 leaks values agree = (
  ap (λ (p : Offsets). draws m p other) (sym same) ∙ drawn,
  ap (λ (p : Offsets). wire m p other) (sym same) ∙ wire_drawn o run other t m history history2 leaks_now drawn,
  ap (λ (p : Offsets). transcript m p other) (sym same) ∙ transcript_drawn o run other t m history history2 leaks_now drawn,
)
  where
    leaks_now : leak o run ≡ leak o other
    leaks_now = leaks ∙ ap (λ (p : Offsets). leak p other) (sym same)

    drawn : draws m o other ≡ draws t o run
    drawn = draws-own_epoch m (relabelled o run other t) o other agree ∙ draws_relabelled o run other t history2 leaks_now history values

-- epoch by epoch
all_epochs : (es other : Epochs) (t m : Table) → LeakAlike es other → AreEpochs es → AreEpochs other → IsTableIn t es
    → ((n : Name) → n.epoch ≤ (begins es).epoch → m n ≡ relabelled_epochs es other t n) → HasSameTraffic es other t m
all_epochs (From o run) (From o2 other) t m alike are are2 values agree =
    let one = one_epoch o o2 run other t m alike.0 are are2 alike.1 values (λ n e. agree n (omega (arith, e))) in record {
      drawn = one.0;
      sent = one.1;
      passed = ap (flat_map (λ exchanged. exchanged)) one.2;
    }
all_epochs (From o run) (Renewed before2 key2 other) t m alike are are2 values agree = absurd alike
all_epochs (Renewed before key run) (From o2 other) t m alike are are2 values agree = absurd alike
all_epochs (Renewed before key run) (Renewed before2 key2 other) t m alike are are2 values agree =
    let o = next_begins before in
    let at_last : AgreeAt o.epoch m (relabelled o run other t) = λ n e. agree n (omega (arith, e)) ∙ relabelled-now before before2 key key2 run other t n e in
    let earlier = λ (n : Name) (le : n.epoch ≤ (begins before).epoch). agree n (omega (arith, le)) ∙ relabelled-before before before2 key key2 run other t n le in
    let first = all_epochs before before2 t m alike.0 are.0 are2.0 values.0 earlier in
    let last = one_epoch o (next_begins before2) run other t m (next-same before before2 alike.0) are.2 are2.2 alike.1 values.1 at_last in record {
      drawn = λ i. first.drawn i ++ last.0 i;
      sent = λ i. first.sent i ++ last.1 i;
      passed = λ i. first.passed i ++ flat_map (λ exchanged. exchanged) (last.2 i);
    }

-- Promise P150, also here
-- epoch by epoch the other history draws, sends and receives under the relabelled table what the first does
pub traffic_relabelled : (es other : Epochs) (t : Table) → LeakAlike es other → AreEpochs es → AreEpochs other → IsTableIn t es
    → HasSameTraffic es other t (relabelled_epochs es other t)
traffic_relabelled es other t alike are are2 values = all_epochs es other t (relabelled_epochs es other t) alike are are2 values (λ n le. refl)
