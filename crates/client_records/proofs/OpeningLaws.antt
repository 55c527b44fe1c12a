-- What records open to is one history, and what one record more makes of it.
use Rattle.std.proofs.Common.{◌≡◌, ℕ, ◌+◌, Bool, true, false, ◌&&◌, List, [], ◌∷◌, ◌++◌, length, filter, refl, sym, ap, subst, ◌∙◌, None, Some, inl, arith}
use Rattle.std.specs.List.{list_all}
use Rattle.std.proofs.lemmas.Bool.{and_parts, true≢false}
use Rattle.std.proofs.Math.Seq.{take-append_seam}
use Rattle.std.proofs.lemmas.List.{length-append, take_all}
use Rattle.std.proofs.lemmas.List.Folds.{list_all-append}
use Rattle.std.proofs.lemmas.List.Sums.{fold-append}
use Rattle.client_registry.proofs.HistoryLaws.{IsKept-begun, IsKept-longer, IsKept-renewed}
use Rattle.client_registry.proofs.OverLaws.{over-append}
use Rattle.client_registry.proofs.SizedLaws.{update_frames-push}
use Rattle.client_registry.specs.Acceptance.{size_refusal}
use Rattle.client_registry.specs.Command.{Command, Add, Delete, Search, is_update}
use Rattle.client_registry.specs.Epochs.{key_now, Step, Does, Renews, step_after}
use Rattle.client_registry.specs.Histories.{IsKept, accepts}
use Rattle.client_registry.specs.Over.{over}
use Rattle.client_registry.specs.Run.{History, Run, Epochs, From, Renewed, at_first}
use Rattle.client_registry.specs.Setup.{Setup}
use Rattle.client_registry.specs.Sized.{IsSizedCommand, is_accepted, IsHistory}
use Rattle.client_records.specs.Records.{RecordText, SetsUp, Adds, Deletes, Rekeys, IsNoRecord, IsRecordOf, IsSetupText, setup_record, renewal_record, update_record}
use Rattle.client_records.specs.Openings.{IsStepRecord, AreStepRecords, AreRecordsOf, epochs_by, AreApart, AcceptsStep, Opens, OpensTo, OpensNowhere, OpensElsewhere, IsBadRecord}
use Rattle.client_records.proofs.RecordOnce.{record_once}

-- One history.

-- what a record says of a step, a setup or none
said : Step → RecordText → Step
said step (SetsUp mark s) = step
said step (Adds d) = Does (Add d)
said step (Deletes id) = Does (Delete id)
said step (Rekeys mark) = Renews mark

-- what a step's record says
text_of : Step → RecordText
text_of (Does (Add d)) = Adds d
text_of (Does (Delete id)) = Deletes id
text_of (Does (Search word)) = Deletes 0
text_of (Renews mark) = Rekeys mark

of_text : (payload : List ℕ) (step : Step) → IsStepRecord payload step → IsRecordOf payload (text_of step) × (said step (text_of step) ≡ step)
unfolding said text_of
of_text payload (Does (Add d)) is = (is, refl)
of_text payload (Does (Delete id)) is = (is, refl)
of_text payload (Does (Search word)) is = absurd is
of_text payload (Renews mark) is = (is, refl)

-- which step it says doesn't depend on the other
said_alike : (payload : List ℕ) (x y : Step) → IsStepRecord payload y → said x (text_of y) ≡ said y (text_of y)
unfolding said text_of
said_alike payload x (Does (Add d)) is = refl
said_alike payload x (Does (Delete id)) is = refl
said_alike payload x (Does (Search word)) is = absurd is
said_alike payload x (Renews mark) is = refl

-- a record is of one step
pub step_once : (payload : List ℕ) (x y : Step) → IsStepRecord payload x → IsStepRecord payload y → x ≡ y
step_once payload x y is_x is_y =
    let a = of_text payload x is_x in
    let b = of_text payload y is_y in
    sym a.1 ∙ ap (said x) (record_once payload (text_of x) (text_of y) a.0 b.0) ∙ said_alike payload x y is_y ∙ b.1

pub steps_once : (payloads : List (List ℕ)) (xs ys : List Step) → AreStepRecords payloads xs → AreStepRecords payloads ys → xs ≡ ys
steps_once [] [] [] x y = refl
steps_once [] [] (d ∷ ds) x y = absurd y
steps_once [] (c ∷ cs) ds x y = absurd x
steps_once (payload ∷ payloads) [] ds x y = absurd x
steps_once (payload ∷ payloads) (c ∷ cs) [] x y = absurd y
steps_once (payload ∷ payloads) (c ∷ cs) (d ∷ ds) x y =
    λ i. step_once payload c d x.0 y.0 i ∷ steps_once payloads cs ds x.1 y.1 i

marked : List ℕ → RecordText → List ℕ
marked m (SetsUp mark s) = mark
marked m (Adds d) = m
marked m (Deletes id) = m
marked m (Rekeys mark) = m

set_up : Setup → RecordText → Setup
set_up t (SetsUp mark s) = s
set_up t (Adds d) = t
set_up t (Deletes id) = t
set_up t (Rekeys mark) = t

records_once : (m n : List ℕ) (payloads : List (List ℕ)) (es other : Epochs) → AreRecordsOf m payloads es → AreRecordsOf n payloads other → (m ≡ n) × (es ≡ other)
unfolding marked set_up
records_once m n [] es other x y = absurd x
records_once m n (first ∷ others) es other x y =
    let one = record_once first (SetsUp m x.setup) (SetsUp n y.setup) x.of_setup y.of_setup in
    let steps = steps_once others x.steps y.steps x.of_steps y.of_steps in
    (ap (marked m) one, x.are ∙ (λ i. epochs_by (ap (set_up x.setup) one i) (steps i)) ∙ sym y.are)

-- Promise P119, also here
-- records open to one history, under one mark
pub opens_once : (m n : List ℕ) (payloads : List (List ℕ)) (es other : Epochs) → Opens m payloads es → Opens n payloads other → (m ≡ n) × (es ≡ other)
opens_once m n payloads es other x y = records_once m n payloads es other x.say y.say

-- One record more.

-- a record's update keeps the limits of words, documents and identifiers
pub IsSizedCommand-record : (payload : List ℕ) (c : Command) → IsStepRecord payload (Does c) → IsSizedCommand c
IsSizedCommand-record payload (Add d) is = is.limits
IsSizedCommand-record payload (Delete id) is = is.limits
IsSizedCommand-record payload (Search word) is = absurd is

-- and is an update, with one frame
pub one_frame-record : (payload : List ℕ) (c : Command) → IsStepRecord payload (Does c) → length (filter is_update (c ∷ [])) ≡ 1
one_frame-record payload (Add d) is = refl
one_frame-record payload (Delete id) is = refl
one_frame-record payload (Search word) is = absurd is

steps_more : (payloads : List (List ℕ)) (payload : List ℕ) (xs : List Step) (x : Step) → AreStepRecords payloads xs → IsStepRecord payload x → AreStepRecords (payloads ++ payload ∷ []) (xs ++ x ∷ [])
steps_more [] payload [] c x is = (is, tt)
steps_more [] payload (d ∷ cs) c x is = absurd x
steps_more (p ∷ payloads) payload [] c x is = absurd x
steps_more (p ∷ payloads) payload (d ∷ cs) c x is = (x.0, steps_more payloads payload cs c x.1 is)

records_more : (mark : List ℕ) (payloads : List (List ℕ)) (payload : List ℕ) (es : Epochs) (step : Step) → AreRecordsOf mark payloads es → IsStepRecord payload step → AreRecordsOf mark (payloads ++ payload ∷ []) (step_after es step)
records_more mark [] payload es step x is = absurd x
records_more mark (first ∷ others) payload es step x is = record {
  setup = x.setup;
  steps = x.steps ++ step ∷ [];
  are = ap (λ front. step_after front step) x.are ∙ sym (fold-append step_after (From at_first (record { setup = x.setup; later = [] })) x.steps (step ∷ []));
  of_setup = x.of_setup;
  of_steps = steps_more others payload x.steps step x.of_steps is;
}

-- a step that is accepted keeps all limits, and the marks apart
kept_more : (payload mark : List ℕ) (es : Epochs) (step : Step) → IsKept (Some es) → IsStepRecord payload step → AcceptsStep mark es step → IsKept (Some (step_after es step))
kept_more payload mark es (Does c) kept is accepts = IsKept-longer (Some es) c kept (IsSizedCommand-record payload c is) accepts.0 (omega (arith, accepts.1, one_frame-record payload c is))
kept_more payload mark es (Renews own) kept is accepts = IsKept-renewed es own kept accepts.0 accepts.1 accepts.3

apart_more : (mark : List ℕ) (es : Epochs) (step : Step) → AreApart mark es → AcceptsStep mark es step → AreApart mark (step_after es step)
apart_more mark (From o run) (Does c) apart accepts = tt
apart_more mark (Renewed before own run) (Does c) apart accepts = apart
apart_more mark es (Renews own) apart accepts = (apart, accepts.2)

-- records open to one step more with the record of one that is accepted
pub opens_more : (mark : List ℕ) (payloads : List (List ℕ)) (payload : List ℕ) (es : Epochs) (step : Step) → Opens mark payloads es → IsStepRecord payload step
    → AcceptsStep mark es step → Opens mark (payloads ++ payload ∷ []) (step_after es step)
opens_more mark payloads payload es step was is accepts = record {
  say = records_more mark payloads payload es step was.say is;
  kept = kept_more payload mark es step was.kept is accepts;
  apart = apart_more mark es step was.apart accepts;
}

-- what stands before the last of such records, and the last
record LastStep (payloads : List (List ℕ)) (payload : List ℕ) (steps : List Step) : Type 0 where
  before : List Step
  last : Step
  are : steps ≡ before ++ last ∷ []
  records : AreStepRecords payloads before
  record_of : IsStepRecord payload last

steps_less : (payloads : List (List ℕ)) (payload : List ℕ) (steps : List Step) → AreStepRecords (payloads ++ payload ∷ []) steps → LastStep payloads payload steps
steps_less [] payload [] x = absurd x
steps_less [] payload (c ∷ []) x = record { before = []; last = c; are = refl; records = tt; record_of = x.0 }
steps_less [] payload (c ∷ d ∷ cs) x = absurd x.1
steps_less (p ∷ payloads) payload [] x = absurd x
steps_less (p ∷ payloads) payload (c ∷ cs) x =
    let rest = steps_less payloads payload cs x.1 in
    record {
      before = c ∷ rest.before;
      last = rest.last;
      are = ap (λ (ds : List Step). c ∷ ds) rest.are;
      records = (x.0, rest.records);
      record_of = rest.record_of;
    }

records_less : (mark : List ℕ) (payloads : List (List ℕ)) (payload : List ℕ) (es : Epochs) (n : List ℕ) (other : Epochs) → AreRecordsOf mark (payloads ++ payload ∷ []) es → AreRecordsOf n payloads other
    → (step : Step) × (es ≡ step_after other step) × IsStepRecord payload step × (mark ≡ n)
records_less mark [] payload es n other x y = absurd y
records_less mark (first ∷ others) payload es n other x y =
    let last = steps_less others payload x.steps x.of_steps in
    let front = records_once mark n (first ∷ others) (epochs_by x.setup last.before) other (record { setup = x.setup; steps = last.before; are = refl; of_setup = x.of_setup; of_steps = last.records }) y in
    let whole : es ≡ step_after (epochs_by x.setup last.before) last.last =
    x.are ∙ ap (epochs_by x.setup) last.are ∙ fold-append step_after (From at_first (record { setup = x.setup; later = [] })) last.before (last.last ∷ []) in
    (last.last, whole ∙ ap (λ front. step_after front last.last) front.1, last.record_of, front.0)

-- what is so of the last record where records open, and those before it did: it is a step's that is accepted after them
pub record IsMore (mark n : List ℕ) (payload : List ℕ) (es before : Epochs) : Type 0 where
  pub last : Step
  pub whole : es ≡ step_after before last
  pub record_of : IsStepRecord payload last
  pub accepted : AcceptsStep n before last
  pub same : mark ≡ n

-- the last command of a history is accepted after those before it
pub accepted_push : (run : Run) (c : Command) → IsHistory (record { setup = run.setup; later = run.later ++ c ∷ [] }) → is_accepted run.setup run.later c ≡ true
accepted_push run c history =
    let each : list_all (λ (b : Bool). b) (over (is_accepted run.setup) [] run.later) && (is_accepted run.setup run.later c && true) ≡ true =
    sym (ap (list_all (λ (b : Bool). b)) (over-append (is_accepted run.setup) [] run.later (c ∷ []))
    ∙ list_all-append (λ (b : Bool). b) (over (is_accepted run.setup) [] run.later) (is_accepted run.setup run.later c ∷ []))
    ∙ history.accepted in
    (and_parts (is_accepted run.setup run.later c) true
    (and_parts (list_all (λ (b : Bool). b) (over (is_accepted run.setup) [] run.later)) (is_accepted run.setup run.later c && true) each).1).0

pub accepted_last : (payload n : List ℕ) (before : Epochs) (step : Step) → IsKept (Some (step_after before step)) → AreApart n (step_after before step) → IsStepRecord payload step → AcceptsStep n before step
accepted_last payload n (From o run) (Does c) kept apart is = (accepted_push run c kept.0, omega (arith, kept.1, update_frames-push run c, one_frame-record payload c is))
accepted_last payload n (Renewed before own run) (Does c) kept apart is = (accepted_push run c kept.0.2, omega (arith, kept.1, update_frames-push run c, one_frame-record payload c is))
accepted_last payload n before (Renews own) kept apart is = (kept.0.2.collected, kept.0.2.setup, apart.1, omega (arith, kept.1))

pub opens_less : (mark : List ℕ) (payloads : List (List ℕ)) (payload : List ℕ) (es : Epochs) (n : List ℕ) (before : Epochs) → Opens mark (payloads ++ payload ∷ []) es → Opens n payloads before → IsMore mark n payload es before
opens_less mark payloads payload es n before x y =
    let parts = records_less mark payloads payload es n before x.say y.say in
    let step = parts.0 in
    record {
      last = step;
      whole = parts.1;
      record_of = parts.2;
      accepted = accepted_last payload n before step (subst (λ r. IsKept (Some r)) parts.1 x.kept) (subst (λ (p : List ℕ × Epochs). AreApart p.0 p.1) (λ i. (parts.3 i, parts.1 i)) x.apart) parts.2;
      same = parts.3;
    }

-- Records that open nowhere.

is_setup : RecordText → Bool
is_setup (SetsUp mark s) = true
is_setup (Adds d) = false
is_setup (Deletes id) = false
is_setup (Rekeys mark) = false

-- a step's record is no setup's
step_is_no_setup : (payload mark : List ℕ) (s : Setup) (step : Step) → IsRecordOf payload (SetsUp mark s) → IsStepRecord payload step → ⊥
unfolding is_setup
step_is_no_setup payload mark s (Does (Add d)) x y = true≢false (ap is_setup (record_once payload (SetsUp mark s) (Adds d) x y))
step_is_no_setup payload mark s (Does (Delete id)) x y = true≢false (ap is_setup (record_once payload (SetsUp mark s) (Deletes id) x y))
step_is_no_setup payload mark s (Does (Search word)) x y = y
step_is_no_setup payload mark s (Renews own) x y = true≢false (ap is_setup (record_once payload (SetsUp mark s) (Rekeys own) x y))

text_of_step : (payload : List ℕ) (step : Step) → IsStepRecord payload step → (text : RecordText) × IsRecordOf payload text
text_of_step payload step is = (text_of step, (of_text payload step is).0)

last_is_record : (mark : List ℕ) (payloads : List (List ℕ)) (payload : List ℕ) (es : Epochs) → AreRecordsOf mark (payloads ++ payload ∷ []) es → (text : RecordText) × IsRecordOf payload text
last_is_record mark [] payload es x = (SetsUp mark x.setup, x.of_setup)
last_is_record mark (first ∷ others) payload es x =
    let last = steps_less others payload x.steps x.of_steps in
    text_of_step payload last.last last.record_of

one_more_is_some : (payloads : List (List ℕ)) (payload : List ℕ) → payloads ++ payload ∷ [] ≡ [] → ⊥
one_more_is_some [] payload e = cc
one_more_is_some (p ∷ payloads) payload e = cc

-- with bytes that are no record
pub nowhere-no_record : (payloads : List (List ℕ)) (payload : List ℕ) → IsNoRecord payload → OpensNowhere (payloads ++ payload ∷ [])
nowhere-no_record payloads payload none mark None e = one_more_is_some payloads payload e
nowhere-no_record payloads payload none mark (Some es) x = let last = last_is_record mark payloads payload es x.say in none last.0 last.1

-- an update or a renewal first
pub nowhere-first_step : (payload : List ℕ) (step : Step) → IsStepRecord payload step → OpensNowhere (payload ∷ [])
nowhere-first_step payload step is mark None e = one_more_is_some [] payload e
nowhere-first_step payload step is mark (Some es) x = step_is_no_setup payload mark x.say.setup step x.say.of_setup is

no_steps : (steps : List Step) → AreStepRecords [] steps → steps ≡ []
no_steps [] none = refl
no_steps (step ∷ steps) none = absurd none

-- a setup first whose size is refused
pub nowhere-first_setup : (payload n : List ℕ) (s : Setup) → IsRecordOf payload (SetsUp n s) → (size_refusal s ≡ None → ⊥) → OpensNowhere (payload ∷ [])
unfolding set_up
nowhere-first_setup payload n s is refused mark None e = one_more_is_some [] payload e
nowhere-first_setup payload n s is refused mark (Some es) x =
    refused (subst (λ (t : Setup). size_refusal t ≡ None) (ap (set_up s) (record_once payload (SetsUp mark x.say.setup) (SetsUp n s) x.say.of_setup is))
    (subst (λ xs. IsKept (Some xs)) (x.say.are ∙ ap (epochs_by x.say.setup) (no_steps x.say.steps x.say.of_steps)) x.kept).0.setup)

module _ (n : List ℕ) (payloads : List (List ℕ)) (payload : List ℕ) (before : Epochs) (was : Opens n payloads before) where
  -- a setup after others
  pub nowhere-setup : (m : List ℕ) (s : Setup) → IsRecordOf payload (SetsUp m s) → OpensNowhere (payloads ++ payload ∷ [])
  nowhere-setup m s is mark None e = one_more_is_some payloads payload e
  nowhere-setup m s is mark (Some es) x = let more = opens_less mark payloads payload es n before x was in step_is_no_setup payload m s more.last is more.record_of

  -- a step that isn't accepted after the others
  pub nowhere-step : (step : Step) → IsStepRecord payload step → (AcceptsStep n before step → ⊥) → OpensNowhere (payloads ++ payload ∷ [])
  nowhere-step step is refused mark None e = one_more_is_some payloads payload e
  nowhere-step step is refused mark (Some es) x =
      let more = opens_less mark payloads payload es n before x was in
      refused (subst (λ (s : Step). AcceptsStep n before s) (step_once payload more.last step more.record_of is) more.accepted)

-- a setup's record alone opens to it, where its size is accepted
pub opens_setup : (payload mark : List ℕ) (s : Setup) → IsRecordOf payload (SetsUp mark s) → size_refusal s ≡ None → Opens mark (payload ∷ []) (epochs_by s [])
opens_setup payload mark s is accepted = record {
  say = record { setup = s; steps = []; are = refl; of_setup = is; of_steps = tt };
  kept = IsKept-begun s is.limits.collected accepted;
  apart = tt;
}

-- the last record is the first that is bad, where those before it open
pub bad_last : (mark : List ℕ) (payloads : List (List ℕ)) (payload : List ℕ) (h : History) → OpensTo mark payloads h → OpensNowhere (payloads ++ payload ∷ []) → IsBadRecord (payloads ++ payload ∷ []) (length payloads)
bad_last mark payloads payload h opened nowhere = record {
  mark = mark;
  before = h;
  opened = subst (λ (ps : List (List ℕ)). OpensTo mark ps h) (sym (take-append_seam payloads (payload ∷ []))) opened;
  refused = subst OpensNowhere (sym (take_all (length payloads + 1) (payloads ++ payload ∷ []) (omega (arith, length-append payloads (payload ∷ []))))) nowhere;
}

-- What is so of records is so of one result.

-- records that open don't open nowhere, nor to epochs whose last has another mark
pub not_nowhere : (mark : List ℕ) (payloads : List (List ℕ)) (es : Epochs) → Opens mark payloads es → OpensNowhere payloads → ⊥
not_nowhere mark payloads es opened nowhere = nowhere mark (Some es) opened

pub not_elsewhere : (first mark : List ℕ) (payloads : List (List ℕ)) (es : Epochs) → Opens first payloads es → key_now first es ≡ mark → OpensElsewhere mark payloads → ⊥
not_elsewhere first mark payloads es opened is other =
    let one = opens_once other.first first payloads other.es es other.opened opened in
    other.differs ((λ i. key_now (one.0 i) (one.1 i)) ∙ is)

pub nowhere_or_elsewhere : (mark : List ℕ) (payloads : List (List ℕ)) → OpensNowhere payloads → OpensElsewhere mark payloads → ⊥
nowhere_or_elsewhere mark payloads nowhere other = nowhere other.first (Some other.es) other.opened

-- The records that are written.

-- the record of a setup opens to it, under its mark
pub opens-setup_record : (mark : List ℕ) (s : Setup) → IsSetupText mark s → size_refusal s ≡ None → Opens mark (setup_record mark s ∷ []) (epochs_by s [])
opens-setup_record mark s limits accepted = opens_setup (setup_record mark s) mark s (record { limits = limits; spelled = inl refl }) accepted

pub is_update_record : (c : Command) → IsSizedCommand c → is_update c ≡ true → IsStepRecord (update_record c) (Does c)
is_update_record (Add d) sized update = record { limits = sized; spelled = refl }
is_update_record (Delete id) sized update = record { limits = sized; spelled = refl }
is_update_record (Search word) sized update = absurd (true≢false (sym update))

pub is_renewal_record : (own : List ℕ) → length own ≡ 16 → IsStepRecord (renewal_record own) (Renews own)
is_renewal_record own size = record { limits = size; spelled = refl }

-- and that of an update or of a renewal, behind records that open, to the history with it
pub opens-step_record : (mark : List ℕ) (payloads : List (List ℕ)) (payload : List ℕ) (es : Epochs) (step : Step) → Opens mark payloads es → IsStepRecord payload step → IsKept (Some (step_after es step))
    → AreApart mark (step_after es step) → Opens mark (payloads ++ payload ∷ []) (step_after es step)
opens-step_record mark payloads payload es step was is kept apart = record { say = records_more mark payloads payload es step was.say is; kept = kept; apart = apart }
