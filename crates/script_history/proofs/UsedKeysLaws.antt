-- The marks of a reading's keys: every line but a renewal leaves them, and a renewal brings its own.
use Rattle.std.proofs.Common.{◌≡◌, ℕ, Bool, true, false, List, [], ◌∷◌, ◌++◌, Option, None, Some, refl, sym, ap, subst, ◌∙◌, append_assoc}
use Rattle.std.specs.Prelude.{if◌then◌else◌}
use Rattle.std.specs.Option.{option_or}
use Rattle.client_registry.specs.Command.{Command as Meant}
use Rattle.client_registry.specs.Collected.{Collected}
use Rattle.client_registry.specs.Document.{Document}
use Rattle.client_registry.specs.Epochs.{with_renewal}
use Rattle.client_registry.specs.Histories.{is_set_up, longer, renewed}
use Rattle.client_registry.specs.Run.{History, Epochs}
use Rattle.client_registry.specs.Setup.{Setup}
use Rattle.keyed_fn.specs.KeyFormulas.{mark_of}
use Rattle.keyed_fn.specs.KeyedFn.{KeyedFn}
use Rattle.leakage_history.specs.HashedEpochs.{HashedEpochs, epochs_in}
use Rattle.def_script_meaning.proofs.MarksApart.{marks-longer}
use Rattle.def_script_meaning.specs.Lines.{Request, Command, line_read, Doc, SetupLine, AddLine, Del, Find, Query, RebuildLine}
use Rattle.def_script_meaning.specs.Outcome.{Place, Outcome, Printed, Collects, Refuses, SetsUp, Does, Renews, after, after_setup, before_setup, marks_in, marks_so_far, setup_after, unless, used_refusal}
use Rattle.def_script_meaning.specs.Refused.{key_refusal, renewal_refusal}
use Rattle.sse_script.specs.declared.refusal.Refusal.{Refusal}
use Rattle.sse_script.specs.declared.refusal.Refusal.TheVariants.{HistoryFull, NotSetUp}
use Rattle.sse_script.specs.declared.line.Line.{Line as ReadLine}
use Rattle.sse_script.specs.declared.line.Line.TheVariants as reads
use Rattle.sse_script.specs.Lines as line
use Rattle.sse_script.specs.Views.{line_view}
use Rattle.script_history.specs.Numbered.{epochs_renewed, renew_refusal}
use Rattle.script_history.specs.Reads.{is_full, numbered, read_outcome}
use Rattle.script_history.specs.Stages.{CarriesOut, IsAt, KeepsKey, LeadsFrom, MayStop, MayStopHere, Takes}
use Rattle.script_history.specs.UsedKeys.{Knows, known_after, known_refusal, marks_known}
use Rattle.script_history.specs.declared.stage.Stage.{Stage}
use Rattle.script_history.specs.declared.stage.Stage.TheVariants.{Built, Collecting}
use Rattle.script_history.specs.declared.stage.Standing.{Standing}
use Rattle.script_history.specs.declared.used_keys.UsedKeys.{UsedKeys}
use Rattle.script_history.proofs.LinesTaken.{before, behind, of_own}

-- Lines that leave the key.

-- what was read of one doesn't ask for a renewal
abbrev pub LeavesKey : Request → Type 0
LeavesKey (RebuildLine key) = ⊥
LeavesKey _ = Unit {0}

pub not_rebuild : (line : ReadLine) → ((key : List ℕ) → line ≡ reads.Rebuild key → ⊥) → KeepsKey (line_view line)
not_rebuild reads.Empty not = tt
not_rebuild (reads.Key key) not = tt
not_rebuild (reads.Doc id words) not = tt
not_rebuild (reads.Setup b big pad) not = tt
not_rebuild (reads.Add id words) not = tt
not_rebuild (reads.Del id) not = tt
not_rebuild (reads.Find word) not = tt
not_rebuild (reads.Query fields) not = tt
not_rebuild (reads.Rebuild key) not = absurd (not key refl)

pub leaves_key : (l : line.Line) → KeepsKey l → (request : Request) → line_read l ≡ Command request → LeavesKey request
leaves_key line.Empty keeps request e = absurd (cc)
leaves_key (line.Key key) keeps request e = absurd (cc)
leaves_key (line.Doc id words) keeps request e = of_own LeavesKey (Command (Doc id words)) (Doc id words) refl tt request e
leaves_key (line.SetupLine b big pad) keeps request e = of_own LeavesKey (Command (SetupLine b big pad)) (SetupLine b big pad) refl tt request e
leaves_key (line.AddLine id words) keeps request e = of_own LeavesKey (Command (AddLine id words)) (AddLine id words) refl tt request e
leaves_key (line.Del id) keeps request e = of_own LeavesKey (Command (Del id)) (Del id) refl tt request e
leaves_key (line.Find word) keeps request e = of_own LeavesKey (Command (Find word)) (Find word) refl tt request e
leaves_key (line.Query fields) keeps request e = of_own LeavesKey (Command (Query fields)) (Query fields) refl tt request e
leaves_key (line.Rebuild key) keeps request e = absurd keeps

-- no line changes how marks are made
after-mark : (result : Outcome) (place : Place) → (after result place).mark ≡ place.mark
after-mark (Collects d) place = refl
after-mark (Refuses refusal) place = refl
after-mark (SetsUp s) place = refl
after-mark (Does commands shown) place = refl
after-mark (Renews key s) place = refl

module _ (mark : List ℕ → List ℕ) (place : Place) where
  marks-collected : (r : Option Refusal) (d : Document) → marks_so_far mark (after (numbered None (unless r (Collects d))) place) ≡ marks_so_far mark place
  marks-collected None d = refl
  marks-collected (Some refusal) d = refl

  marks-begun : place.history ≡ None → (r : Option Refusal) (s : Setup) → marks_so_far mark (after (numbered None (unless r (SetsUp s))) place) ≡ marks_so_far mark place
  marks-begun e None s = ap (λ h. place.used ++ marks_in mark place.key h) (sym e)
  marks-begun e (Some refusal) s = refl

  marks-done : (h : History) (r : Option Refusal) (cs : List Meant) (shown : Printed) → marks_so_far mark (after (numbered h (unless r (Does cs shown))) place) ≡ marks_so_far mark place
  marks-done h (Some refusal) cs shown = refl
  marks-done h None cs shown = by (is_full (longer cs h))
    where
      by : (b : Bool) → marks_so_far mark (after (if b then Refuses HistoryFull else Does cs shown) place) ≡ marks_so_far mark place
      by true = refl
      by false = ap (λ marks. place.used ++ marks) (marks-longer mark place.key place.history cs)

  marks-kept : (request : Request) → LeavesKey request → marks_so_far mark (after (read_outcome place request) place) ≡ marks_so_far mark place
  marks-kept request leaves = by place.history refl request leaves
    where
      by : (h : History) → place.history ≡ h → (q : Request) → LeavesKey q
          → marks_so_far mark (after (numbered h (if is_set_up h then after_setup place h q else before_setup place.documents q)) place) ≡ marks_so_far mark place
      by None e (Doc id words) leaves = marks-collected _ _
      by None e (SetupLine b big pad) leaves = marks-begun e _ _
      by None e (AddLine id words) leaves = refl
      by None e (Del id) leaves = refl
      by None e (Find word) leaves = refl
      by None e (Query fields) leaves = refl
      by None e (RebuildLine key) leaves = absurd leaves
      by (Some es) e (Doc id words) leaves = refl
      by (Some es) e (SetupLine b big pad) leaves = refl
      by (Some es) e (AddLine id words) leaves = marks-done (Some es) _ _ _
      by (Some es) e (Del id) leaves = marks-done (Some es) _ _ _
      by (Some es) e (Find word) leaves = marks-done (Some es) _ _ _
      by (Some es) e (Query fields) leaves = marks-done (Some es) _ _ _
      by (Some es) e (RebuildLine key) leaves = absurd leaves

-- so the marks that are known are those of the place after it
knows-kept : (f : KeyedFn) (known : Option (List (List ℕ))) (place : Place) (request : Request) → LeavesKey request → Knows f known place → Knows f known (after (read_outcome place request) place)
knows-kept f None place request leaves knows = after-mark (read_outcome place request) place ∙ knows
knows-kept f (Some marks) place request leaves knows = (after-mark (read_outcome place request) place ∙ knows.0, knows.1 ∙ sym (marks-kept (mark_of f) place request leaves))

pub carried-out : (f : KeyedFn) (standing : Standing) (request : Request) (next : Stage) (found : Option Refusal) → LeavesKey request → Takes standing.stage request next found
    → CarriesOut f standing request (record { stage = next; used = standing.used }) found
carried-out f standing request next found leaves takes place stands =
    let comes = takes place stands.at in
    record { refusal = comes.refusal; stands = record { at = comes.stands; knows = knows-kept f (marks_known standing.used) place request leaves stands.knows } }

-- and memory may be wanting where it may
pub may_stop-here : (f : KeyedFn) (standing : Standing) (l : line.Line) → KeepsKey l → MayStopHere standing.stage l → MayStop f standing l
may_stop-here f standing line.Empty keeps may = may
may_stop-here f standing (line.Key key) keeps may = may
may_stop-here f standing (line.Doc id words) keeps may = may
may_stop-here f standing (line.SetupLine b big pad) keeps may = may
may_stop-here f standing (line.AddLine id words) keeps may = may
may_stop-here f standing (line.Del id) keeps may = may
may_stop-here f standing (line.Find word) keeps may = may
may_stop-here f standing (line.Query fields) keeps may = may
may_stop-here f standing (line.Rebuild key) keeps may = absurd keeps

-- A renewal.

-- before the setup
pub rebuild-before : (f : KeyedFn) (standing : Standing) (docs : Collected) → standing.stage ≡ Collecting docs → (key : List ℕ)
    → CarriesOut f standing (RebuildLine key) (record { stage = Collecting docs; used = standing.used }) (Some NotSetUp)
rebuild-before f standing docs is key place stands =
    let at : IsAt (Collecting docs) place = subst (λ s. IsAt s place) is stands.at in
    subst (λ o. LeadsFrom f place o (record { stage = Collecting docs; used = standing.used }) (Some NotSetUp)) (sym (before place at.1 (RebuildLine key))) (record { refusal = refl; stands = record { at = at; knows = stands.knows } })

-- after it
module _ (f : KeyedFn) (key : List ℕ) (place : Place) (es : Epochs) (e : place.history ≡ Some es) where
  -- a key is refused by the marks that are known as it is by those of the place
  used_same : (known : Option (List (List ℕ))) → Knows f known place → used_refusal place.mark place key ≡ known_refusal known (mark_of f key)
  used_same None knows = ap (λ m. used_refusal m place key) knows
  used_same (Some marks) knows = ap (λ m. used_refusal m place key) knows.0 ∙ ap (λ marks. key_refusal marks (mark_of f key)) (sym knows.1)

  numbered-renewal : (r : Option Refusal) → numbered (Some es) (unless r (Renews key (setup_after (Some es)))) ≡ unless (option_or r (if is_full (Some (with_renewal key es)) then Some HistoryFull else None)) (Renews key (setup_after (Some es)))
  numbered-renewal (Some refusal) = refl
  numbered-renewal None = by (is_full (Some (with_renewal key es)))
    where
      by : (b : Bool) → (if b then Refuses HistoryFull else Renews key (setup_after (Some es))) ≡ unless (if b then Some HistoryFull else None) (Renews key (setup_after (Some es)))
      by true = refl
      by false = refl

  or_assoc : (a b c : Option Refusal) → option_or (option_or a b) c ≡ option_or a (option_or b c)
  or_assoc None b c = refl
  or_assoc (Some x) b c = refl

  module _ (known : Option (List (List ℕ))) (knows : Knows f known place) where
    abbrev why : Option Refusal
    why = option_or (known_refusal known (mark_of f key)) (renew_refusal es key)

    rebuilt : read_outcome place (RebuildLine key) ≡ unless why (Renews key (setup_after (Some es)))
    rebuilt =
        let full : Option Refusal = if is_full (Some (with_renewal key es)) then Some HistoryFull else None in
        let live = renewal_refusal (Some es) (setup_after (Some es)) in
        behind place es e (RebuildLine key)
        ∙ numbered-renewal (option_or (used_refusal place.mark place key) live)
        ∙ ap (λ r. unless r (Renews key (setup_after (Some es)))) (or_assoc (used_refusal place.mark place key) live full ∙ ap (λ r. option_or r (option_or live full)) (used_same known knows))

    marks-more : marks_in (mark_of f) place.key place.history ++ mark_of f key ∷ [] ≡ marks_in (mark_of f) place.key (renewed key place.history)
    marks-more = ap (λ h. marks_in (mark_of f) place.key h ++ mark_of f key ∷ []) e ∙ sym (ap (λ h. marks_in (mark_of f) place.key (renewed key h)) e)

    knows-more : Knows f (known_after None (mark_of f key) known) (after (Renews key (setup_after (Some es))) place)
    knows-more = by known knows
      where
        by : (k : Option (List (List ℕ))) → Knows f k place → Knows f (known_after None (mark_of f key) k) (after (Renews key (setup_after (Some es))) place)
        by None knows = knows
        by (Some marks) knows = (
          knows.0,
          ap (λ marks. marks ++ mark_of f key ∷ []) knows.1
              ∙ append_assoc place.used (marks_in (mark_of f) place.key place.history) (mark_of f key ∷ [])
              ∙ ap (λ marks. place.used ++ marks) marks-more,
        )

    pub rebuild-behind : (found : Option Refusal) (history : HashedEpochs) (used : UsedKeys) → found ≡ why → epochs_in history ≡ epochs_renewed found es key → marks_known used ≡ known_after found (mark_of f key) known
        → LeadsFrom f place (read_outcome place (RebuildLine key)) (record { stage = Built history; used = used }) found
    rebuild-behind found history used is went marks =
        subst (λ o. LeadsFrom f place o (record { stage = Built history; used = used }) found) (sym (rebuilt ∙ ap (λ r. unless r (Renews key (setup_after (Some es)))) (sym is))) (by found went marks)
      where
        by : (r : Option Refusal) → epochs_in history ≡ epochs_renewed r es key → marks_known used ≡ known_after r (mark_of f key) known
            → LeadsFrom f place (unless r (Renews key (setup_after (Some es)))) (record { stage = Built history; used = used }) r
        by None went marks = record {
          refusal = refl;
          stands = record {
            at = ap (renewed key) e ∙ ap (λ xs. Some xs) (sym went);
            knows = subst (λ k. Knows f k (after (Renews key (setup_after (Some es))) place)) (sym marks) knows-more;
          };
        }
        by (Some refusal) went marks = record {
          refusal = refl;
          stands = record { at = e ∙ ap (λ xs. Some xs) (sym went); knows = subst (λ k. Knows f k place) (sym marks) knows };
        }
