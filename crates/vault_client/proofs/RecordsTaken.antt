-- The records of a journal are taken one after another.
use Rattle.std.proofs.Common.{◌≡◌, ◌≢◌, ℕ, ◌+◌, ◌<◌, List, [], ◌∷◌, ◌++◌, length, take, get_or, refl, sym, ap, subst, ◌∙◌, None, Some, Ok, Err, arith, length-append}
use Rattle.std.specs.Prelude.{Option}
use Rattle.std.proofs.lemmas.List.{take_more, take_all}
use Rattle.client_journal.specs.Faults.{stop_of_read}
use Rattle.client_journal.specs.Recordings.{AreFirst}
use Rattle.vault_shelf.specs.ClientRecords.{IsBadVaultRecord, VaultOpensElsewhere, VaultOpensNowhere}
use Rattle.script_run_texts.specs.declared.journal_stop.JournalStop.{JournalStop}
use Rattle.script_run_texts.specs.declared.journal_stop.JournalStop.TheVariants.{NoJournal, HasRecords, BadRecord, WrongKey, Disk, Memory}
use Rattle.sse_journal.specs.Reads.{IsRead, place_of}
use Rattle.sse_journal.specs.declared.read_fault.ReadFault.{ReadFault}
use Rattle.sse_journal.specs.declared.read_fault.ReadFault.TheVariants as reads
use Rattle.vault_shelf.specs.Rebuilds.{Rebuilds}
use Rattle.vault_shelf.specs.declared.rebuild.ShelfRebuild.{ShelfRebuild}
use Rattle.vault_shelf.specs.declared.record_fault.RecordFault.{RecordFault}
use Rattle.vault_shelf.specs.declared.record_fault.RecordFault.TheVariants as faults
use Rattle.vault_client.specs.declared.recovery.Step.TheVariants.{All, Next}
use Rattle.vault_client.specs.Recoveries.{IsRebuiltFrom, OpensUnder, Recovers, TakesNext, stop_of_take}
use Rattle.vault_client.proofs.RecordsOpened.{elsewhere_first, opens_taken}

one_longer : (payloads : List (List ℕ)) (payload : List ℕ) → length (payloads ++ payload ∷ []) ≡ length payloads + 1
one_longer payloads payload = length-append payloads (payload ∷ [])

-- the first records with the one after them
with_next : (all payloads : List (List ℕ)) (at : ℕ) (payload : List ℕ) → AreFirst all payloads at → length payloads < length all → payload ≡ get_or all (length payloads) [] → payloads ++ payload ∷ [] ≡ take (length payloads + 1) all
with_next all payloads at payload first lt is =
    ap (λ (p : List ℕ). payloads ++ p ∷ []) is ∙ ap (λ (ps : List (List ℕ)). ps ++ get_or all (length payloads) [] ∷ []) first.are ∙ sym (take_more all (length payloads) [] lt)

-- what reading at a place gives of all records that are told, after their first ones
module _ (told : List (List ℕ) → Type 0) (mark : List ℕ) (payloads : List (List ℕ)) (at : ℕ) where
  abbrev Gives : Option ℕ → List ℕ → Type 0
  Gives next out = (all : List (List ℕ)) → told all → AreFirst all payloads at → IsRead all (length payloads) next out

  pub next_none : (out : List ℕ) → Gives None out → (r : ShelfRebuild) → Rebuilds payloads r → TakesNext told mark payloads at (Ok (All r))
  next_none out read r taken = (taken, λ all is first. read all is first)

  pub next_taken : (next : ℕ) (out : List ℕ) → Gives (Some next) out → (r : ShelfRebuild) → Rebuilds (payloads ++ out ∷ []) r → TakesNext told mark payloads at (Ok (Next r next))
  next_taken next out read r taken = (
    out,
    taken,
    λ all is first.
        let known = read all is first in
        let longer = one_longer payloads out in
        record {
          within = omega (arith, longer, known.0);
          are = with_next all payloads at out first known.0 known.1 ∙ ap (λ (n : ℕ). take n all) (sym longer);
          place = known.2 ∙ ap (λ (n : ℕ). place_of all n) (sym longer);
        },
  )

  pub next_refused : (next : ℕ) (out : List ℕ) → Gives (Some next) out → (fault : RecordFault)
      → ((n : ℕ) → fault ≡ faults.BadRecord n → (n ≡ length payloads) × IsBadVaultRecord (payloads ++ out ∷ []) n)
      → (fault ≡ faults.WrongKey → VaultOpensElsewhere mark (payloads ++ out ∷ []))
      → TakesNext told mark payloads at (Err (stop_of_take fault))
  next_refused next out read (faults.BadRecord n) bad wrong = λ all is first.
      let here = bad n refl in
      let known = read all is first in
      (here.0, omega (arith, here.0, known.0), subst VaultOpensNowhere (take_all (n + 1) (payloads ++ out ∷ []) (omega (arith, here.0, one_longer payloads out)) ∙ with_next all payloads at out first known.0 known.1) here.1.refused)
  next_refused next out read faults.WrongKey bad wrong = λ all is first.
      let known = read all is first in
      subst (VaultOpensElsewhere mark) (with_next all payloads at out first known.0 known.1) (wrong refl)
  next_refused next out read faults.NoMemory bad wrong = tt

  pub next_unread : (fault : ReadFault) → ((all : List (List ℕ)) → told all → AreFirst all payloads at → fault ≢ reads.NotAJournal at) → ((place : ℕ) → fault ≡ reads.NotAJournal place → place ≡ at)
      → TakesNext told mark payloads at (Err (stop_of_read fault))
  next_unread reads.DiskFault never place = tt
  next_unread (reads.NotAJournal n) never place = λ all is first. never all is first (ap (λ (m : ℕ). reads.NotAJournal m) (place n refl))
  next_unread reads.NoMemory never place = tt

-- a rebuild took the first records that are told, and the next begins at this place
pub record IsHere (told : List (List ℕ) → Type 0) (at : ℕ) (r : ShelfRebuild) : Type 0 where
  pub payloads : List (List ℕ)
  pub taken : Rebuilds payloads r
  pub first : (all : List (List ℕ)) → told all → AreFirst all payloads at

pub here_first : (told : List (List ℕ) → Type 0) (at : ℕ) (r : ShelfRebuild) → Rebuilds [] r → ((all : List (List ℕ)) → at ≡ place_of all 0) → IsHere told at r
here_first told at r none place = record { payloads = []; taken = none; first = λ all is. record { within = omega arith; are = refl; place = place all } }

module _ (told now : List (List ℕ) → Type 0) (same : (all : List (List ℕ)) → told all → now all) (mark : List ℕ) (at : ℕ) (r : ShelfRebuild) (here : IsHere told at r) where
  pub here_next : (after : ShelfRebuild) (next : ℕ) → TakesNext now r.mark here.payloads at (Ok (Next after next)) → IsHere told next after
  here_next after next one = record { payloads = here.payloads ++ one.0 ∷ []; taken = one.1; first = λ all is. one.2 all (same all is) (here.first all is) }

  pub here_last : (after : ShelfRebuild) → TakesNext now r.mark here.payloads at (Ok (All after)) → IsRebuiltFrom told after
  here_last after one = record {
    payloads = here.payloads;
    taken = one.0;
    all = λ all is.
        let first = here.first all is in
        first.are ∙ take_all (length here.payloads) all (omega (arith, one.1 all (same all is) first));
  }

  pub here_refused : r.mark ≡ mark → (stop : JournalStop) → TakesNext now r.mark here.payloads at (Err stop) → Recovers told mark (Err stop)
  here_refused marks (BadRecord n) one = λ all is.
      let first = here.first all is in
      let known = one all (same all is) first in
      record {
        within = known.1;
        before =
            subst (λ (m : List ℕ). OpensUnder m (take n all)) marks
            (subst (OpensUnder r.mark) (first.are ∙ ap (λ (k : ℕ). take k all) (sym known.0)) (opens_taken here.payloads r here.taken));
        refused = subst (λ (k : ℕ). VaultOpensNowhere (take (k + 1) all)) (sym known.0) known.2;
      }
  here_refused marks WrongKey one = λ all is.
      elsewhere_first mark all (length here.payloads) (subst (λ (m : List ℕ). VaultOpensElsewhere m (take (length here.payloads + 1) all)) marks (one all (same all is) (here.first all is)))
  here_refused marks NoJournal one = λ all is. one all (same all is) (here.first all is)
  here_refused marks HasRecords one = absurd one
  here_refused marks Disk one = tt
  here_refused marks Memory one = tt
