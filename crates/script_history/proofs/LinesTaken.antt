-- What a line comes to where a script is read: before a setup as in a run, and after it also refused where the history with it
-- can't be numbered.
use Rattle.std.proofs.Common.{◌≡◌, ◌≢◌, ℕ, Bool, true, false, List, [], ◌∷◌, ◌++◌, Option, None, Some, refl, sym, ap, subst, ◌∙◌}
use Rattle.std.specs.Prelude.{if◌then◌else◌, Result, Ok, Err, IfOk, IfSome, IsOk, OnErr, is_some}
use Rattle.std.specs.Option.{option_and_then, option_or}
use Rattle.bool_search.specs.LineRefusals.{query_refused, fields_refusal}
use Rattle.bool_search.specs.Refused.{query_refusal}
use Rattle.bool_search.specs.declared.fault.QueryFault.{QueryFault}
use Rattle.bool_search.specs.declared.fault.QueryFault.TheVariants as queries
use Rattle.client_registry.specs.Command.{Command as Meant}
use Rattle.client_registry.specs.Document.{Document}
use Rattle.client_registry.specs.Histories.{is_set_up, longer}
use Rattle.client_registry.specs.Run.{History, Epochs}
use Rattle.script_documents.specs.LineDocument.{document}
use Rattle.script_documents.specs.LineFaults.{SaysRefusal, fault_refusal}
use Rattle.script_documents.specs.declared.line_fault.LineFault.{LineFault}
use Rattle.script_documents.specs.declared.line_fault.LineFault.TheVariants as faults
use Rattle.script_documents.specs.Refused.{collect_refusal}
use Rattle.def_script_meaning.specs.Lines.{Line, Empty, Key, Command, Request, Doc, SetupLine}
use Rattle.def_script_meaning.specs.Outcome.{Place, Printed, Outcome, Collects, Refuses, SetsUp, Does, Renews, unless, before_setup, after_setup, after, is_refusal}
use Rattle.def_script_meaning.specs.Refused.{index_refusal}
use Rattle.client_registry.specs.Setup.{setup_with}
use Rattle.sse_script.specs.declared.refusal.Refusal.{Refusal}
use Rattle.sse_script.specs.declared.refusal.Refusal.TheVariants.{HistoryFull}
use Rattle.script_history.specs.Numbered.{epochs_after, epochs_after_all}
use Rattle.script_history.specs.Reads.{is_full, number_refusal, numbered, read_outcome, refusal_in}
use Rattle.script_history.specs.Stages.{IsAt, ComesTo, IsSetUp, collected_after, keys_at}
use Rattle.script_history.specs.Turns.{hashed_at}
use Rattle.script_history.specs.declared.stage.Stage.{Stage}
use Rattle.script_history.specs.declared.stage.Stage.TheVariants.{Collecting, Built}

-- Lines.

abbrev asked : Request → Line → Request
asked other Empty = other
asked other (Key key) = other
asked other (Command request) = request

-- what holds of a line's own request holds of the one that it is
pub of_own : (P : Request → Type 0) (read : Line) (own : Request) → read ≡ Command own → P own → (request : Request) → read ≡ Command request → P request
of_own P read own is holds request e = subst P (ap (asked own) (sym is ∙ e)) holds

-- Outcomes.

-- a line is refused where its outcome has a refusal
pub is_refusal-found : (o : Outcome) → is_refusal o ≡ is_some (refusal_in o)
is_refusal-found (Collects d) = refl
is_refusal-found (Refuses refusal) = refl
is_refusal-found (SetsUp s) = refl
is_refusal-found (Does commands shown) = refl
is_refusal-found (Renews key s) = refl

-- before a setup nothing is numbered
pub numbered-none : (o : Outcome) → numbered None o ≡ o
numbered-none (Collects d) = refl
numbered-none (Refuses refusal) = refl
numbered-none (SetsUp s) = refl
numbered-none (Does commands shown) = refl
numbered-none (Renews key s) = refl

-- a command is refused where it is in a run, and then where the history with it can't be numbered
pub numbered-command : (h : History) (r : Option Refusal) (commands : List Meant) (shown : Printed)
    → numbered h (unless r (Does commands shown)) ≡ unless (option_or r (number_refusal h commands)) (Does commands shown)
numbered-command h (Some refusal) commands shown = refl
numbered-command h None commands shown = by (is_full (longer commands h))
  where
    by : (b : Bool) → (if b then Refuses HistoryFull else Does commands shown) ≡ unless (if b then Some HistoryFull else None) (Does commands shown)
    by true = refl
    by false = refl

-- After the setup.

module _ (place : Place) (es : Epochs) (e : place.history ≡ Some es) where
  pub behind : (request : Request) → read_outcome place request ≡ numbered (Some es) (after_setup place (Some es) request)
  behind request = ap (λ h. numbered h (if is_set_up h then after_setup place h request else before_setup place.documents request)) e

  -- a line that is refused
  pub refused-behind : (request : Request) (refusal : Refusal) → after_setup place (Some es) request ≡ Refuses refusal
      → (Some refusal ≡ refusal_in (read_outcome place request)) × ((after (read_outcome place request) place).history ≡ Some es)
  refused-behind request refusal is =
      let whole = behind request ∙ ap (numbered (Some es)) is in
      subst (λ o. (Some refusal ≡ refusal_in o) × ((after o place).history ≡ Some es)) (sym whole) (refl, e)

  -- a command
  pub command-behind : (request : Request) (r found : Option Refusal) (c : Meant) (shown : Printed) (next : Epochs) → after_setup place (Some es) request ≡ unless r (Does (c ∷ []) shown)
      → found ≡ option_or r (number_refusal (Some es) (c ∷ [])) → next ≡ epochs_after found es c
      → (found ≡ refusal_in (read_outcome place request)) × ((after (read_outcome place request) place).history ≡ Some next)
  command-behind request r found c shown next is same went =
      let whole = behind request ∙ ap (numbered (Some es)) is ∙ numbered-command (Some es) r (c ∷ []) shown ∙ ap (λ q. unless q (Does (c ∷ []) shown)) (sym same) in
      subst (λ o. (found ≡ refusal_in o) × ((after o place).history ≡ Some next)) (sym whole) (by found went)
    where
      by : (q : Option Refusal) → next ≡ epochs_after q es c → (q ≡ refusal_in (unless q (Does (c ∷ []) shown))) × ((after (unless q (Does (c ∷ []) shown)) place).history ≡ Some next)
      by None went = (refl, ap (longer (c ∷ [])) e ∙ ap (λ xs. Some xs) (sym went))
      by (Some refusal) went = (refl, e ∙ ap (λ xs. Some xs) (sym went))

  -- several commands of one line
  pub commands-behind : (request : Request) (r found : Option Refusal) (cs : List Meant) (shown : Printed) (next : Epochs) → after_setup place (Some es) request ≡ unless r (Does cs shown)
      → found ≡ option_or r (number_refusal (Some es) cs) → next ≡ epochs_after_all found es cs
      → (found ≡ refusal_in (read_outcome place request)) × ((after (read_outcome place request) place).history ≡ Some next)
  commands-behind request r found cs shown next is same went =
      let whole = behind request ∙ ap (numbered (Some es)) is ∙ numbered-command (Some es) r cs shown ∙ ap (λ q. unless q (Does cs shown)) (sym same) in
      subst (λ o. (found ≡ refusal_in o) × ((after o place).history ≡ Some next)) (sym whole) (by found went)
    where
      by : (q : Option Refusal) → next ≡ epochs_after_all q es cs → (q ≡ refusal_in (unless q (Does cs shown))) × ((after (unless q (Does cs shown)) place).history ≡ Some next)
      by None went = (refl, ap (longer cs) e ∙ ap (λ xs. Some xs) (sym went))
      by (Some refusal) went = (refl, e ∙ ap (λ xs. Some xs) (sym went))

-- the fault of a query says why its line is refused, before anything else does
pub query_says : (line : LineFault) (fault : QueryFault) (fields : List (List ℕ)) (other : Option Refusal) → fault_refusal line ≡ query_refused fault → (fault ≢ queries.NoMemory → query_refusal fields ≡ Some fault)
    → SaysRefusal line (option_or (fields_refusal fields) other)
query_says (faults.Refused refusal) fault fields other same bad =
    let some : fault ≢ queries.NoMemory = λ memory. absurd (let none : Some refusal ≡ None = same ∙ ap query_refused memory in cc) in
    sym (ap (λ first. option_or first other) (ap (option_and_then query_refused) (bad some) ∙ sym same))
query_says faults.NoMemory fault fields other same bad = tt

-- a line that may stop for want of memory whatever it is
pub stops_any : {T E : Type 0} (r : Result T E) → OnErr r (Unit {0})
stops_any (Ok x) = tt
stops_any (Err e) = tt

-- Before the setup.

module _ (place : Place) (e : place.history ≡ None) where
  pub before : (request : Request) → read_outcome place request ≡ before_setup place.documents request
  before request =
      ap (λ h. numbered h (if is_set_up h then after_setup place h request else before_setup place.documents request)) e ∙ numbered-none (before_setup place.documents request)

  -- a line that is refused
  pub refused-before : (request : Request) (refusal : Refusal) (stage : Stage) → before_setup place.documents request ≡ Refuses refusal → IsAt stage place → ComesTo place (read_outcome place request) stage (Some refusal)
  refused-before request refusal stage is at =
      subst (λ o. ComesTo place o stage (Some refusal)) (sym (before request ∙ is)) (record { refusal = refl; stands = at })

-- Hash numbers.

-- the history of a stage hashes as the stage does
pub hashed_at-keys : (stage : Stage) (numbers : ℕ × ℕ) → keys_at stage ≡ numbers → IfSome (hashed_at stage) (λ h. h.last.keys ≡ numbers)
hashed_at-keys (Collecting docs) numbers same = tt
hashed_at-keys (Built history) numbers same = same

-- Good answers.

-- what follows of two facts of each
pub IfOk-both : {T E : Type 0} (r : Result T E) (P Q R : T → Type 0) → ((x : T) → P x → Q x → R x) → IfOk r P → IfOk r Q → IfOk r R
IfOk-both (Ok x) P Q R follows p q = follows x p q
IfOk-both (Err e) P Q R follows p q = tt

-- a fault that a call answers is the one that stands, where it answers one exactly then
pub fault_said : {T E : Type 0} (r : Result T E) (first : Option E) (fault : E) → r ≡ Err fault → IfSome first (λ said. r ≡ Err said) → (first ≡ None → IsOk r) → first ≡ Some fault
fault_said r None fault is told accepted = absurd (let no = subst IsOk is (accepted refl) in cc)
fault_said r (Some said) fault is told accepted = let same : Err fault ≡ Err said = sym is ∙ told in cc

-- a document that is collected or refused, where the reading stood before the setup
pub collected-before : (place : Place) (docs new : List Document) (stage : Stage) (id : ℕ) (words : List (List ℕ)) (found : Option Refusal) → docs ≡ place.documents → place.history ≡ None
    → found ≡ collect_refusal docs (document id words) → new ≡ collected_after found docs (document id words)
    → ((p : Place) → new ≡ p.documents → p.history ≡ None → IsAt stage p)
    → ComesTo place (read_outcome place (Doc id words)) stage found
collected-before place docs new stage id words found same none is went at =
    let whole = before place none (Doc id words) ∙ ap (λ ds. unless (collect_refusal ds (document id words)) (Collects (document id words))) (sym same) ∙ ap (λ r. unless r (Collects (document id words))) (sym is) in
    subst (λ o. ComesTo place o stage found) (sym whole) (by found went)
  where
    by : (q : Option Refusal) → new ≡ collected_after q docs (document id words) → ComesTo place (unless q (Collects (document id words))) stage q
    by None went = record { refusal = refl; stands = at (after (Collects (document id words)) place) (went ∙ ap (λ ds. ds ++ document id words ∷ []) same) none }
    by (Some refusal) went = record { refusal = refl; stands = at place (went ∙ same) none }

-- a setup that is accepted or refused there
pub set_up-before : (place : Place) (docs : List Document) (stage : Stage) (b big pad : ℕ) (found : Option Refusal) → docs ≡ place.documents → place.history ≡ None
    → found ≡ index_refusal docs b big pad → IsSetUp found docs (setup_with docs b big pad) stage → ComesTo place (read_outcome place (SetupLine b big pad)) stage found
set_up-before place docs stage b big pad found same none is went =
    let whole = before place none (SetupLine b big pad) ∙ ap (λ ds. unless (index_refusal ds b big pad) (SetsUp (setup_with ds b big pad))) (sym same) ∙ ap (λ r. unless r (SetsUp (setup_with docs b big pad))) (sym is) in
    subst (λ o. ComesTo place o stage found) (sym whole) (by found stage went)
  where
    by : (q : Option Refusal) (s : Stage) → IsSetUp q docs (setup_with docs b big pad) s → ComesTo place (unless q (SetsUp (setup_with docs b big pad))) s q
    by None (Built history) went = record { refusal = refl; stands = ap (λ xs. Some xs) (sym went) }
    by None (Collecting collected) went = absurd went
    by (Some refusal) (Collecting collected) went = record { refusal = refl; stands = (went ∙ same, none) }
    by (Some refusal) (Built history) went = absurd went
