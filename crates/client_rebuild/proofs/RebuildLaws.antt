-- What a record makes of the history that those before it open to.
use Rattle.std.proofs.Common.{◌≡◌, ◌≢◌, ℕ, ◌+◌, ◌^◌, ◌<◌, true, List, [], ◌∷◌, ◌++◌, length, Option, None, Some, refl, sym, ap, subst, ◌∙◌, inl, inr, arith}
use Rattle.std.specs.Prelude.{Result, Ok, Err, IfSome, IsOkUnless, OnErr, OnOk, bytes_eq}
use Rattle.std.specs.List.{list_any}
use Rattle.std.proofs.lemmas.List.{length-append}
use Rattle.client_registry.proofs.HistoryLaws.{IsHistory-last, IsKept-begun, begins-with_commands, last_run-with_commands}
use Rattle.client_registry.specs.Acceptance.{frames_needed, size_refusal}
use Rattle.client_registry.specs.Command.{Add, Delete}
use Rattle.client_registry.specs.Documents.{IsCollected}
use Rattle.client_registry.specs.Epochs.{Step, Does, Renews, begins, step_after}
use Rattle.client_registry.specs.HashNumbers.{hash_numbers}
use Rattle.client_registry.specs.declared.hash_keys.HashKeys.{HashKeys}
use Rattle.client_registry.specs.Run.{Epochs, History, Offsets, Run, From, Renewed, last_run}
use Rattle.client_registry.specs.Setup.{Setup}
use Rattle.client_registry.specs.Sized.{IsHistory}
use Rattle.client_records.proofs.OpeningLaws.{bad_last, not_nowhere, nowhere-first_setup, nowhere-first_step, nowhere-no_record, nowhere-setup, nowhere-step, opens_more, opens_setup}
use Rattle.client_records.specs.Openings.{AcceptsStep, IsBadRecord, IsStepRecord, Opens, OpensNowhere, OpensTo, epochs_by, marks_of}
use Rattle.client_records.specs.Records.{RecordText, Adds, Deletes, Rekeys, SetsUp, IsNoRecord, IsRecordOf}
use Rattle.client_rebuild.proofs.RenewalLaws.{accepted-renewal, renewal-accepted}
use Rattle.client_rebuild.proofs.LastLaws.{accepts-after, accepts-recalled}
use Rattle.client_rebuild.specs.Rebuilds.{AcceptsAfter, IsAcceptedSetup, IsStepped, IsTaken, Rebuilds, Takes, TakesFirst, TakesLater, TakesMemoryAfter, TakesMemoryFor, marks_in, marks_with, records_in, said}
use Rattle.client_rebuild.specs.Recalls.{IsSameLast, Recalls, RecallsIn, accepts_after, hash_keys_of, records_of_last}
use Rattle.client_rebuild.specs.declared.fault.RebuildFault.{RebuildFault}
use Rattle.client_rebuild.specs.declared.fault.RebuildFault.TheVariants.{BadRecord, NoMemory}
use Rattle.client_rebuild.specs.declared.last.Last.{Last}
use Rattle.client_rebuild.specs.declared.rebuild.Rebuild.{Rebuild}

-- Setups.

-- a size is refused where there is an error, and accepted where there is none
pub none_if_ok : {X Y : Type 0} (o : Option X) (y : Y) → IfSome o (λ x. ◌≡◌ {A = Result Y X} (Ok y) (Err x)) → o ≡ None
none_if_ok None y h = refl
none_if_ok (Some x) y h = absurd (cc)

-- the frames of the first setup can be numbered, where its size is accepted
pub first_numbered : (s : Setup) → IsCollected s.documents → size_refusal s ≡ None → 0 + frames_needed s < 2 ^ 32
first_numbered s collected accepted = let kept = IsKept-begun s collected accepted in omega (arith, kept.1)

set_up_by : Setup → RecordText → Setup
set_up_by t (SetsUp mark s) = s
set_up_by t (Adds d) = t
set_up_by t (Deletes id) = t
set_up_by t (Rekeys own) = t

-- a first setup that isn't accepted
pub first_faulty : (keys : ℕ × ℕ) (text : RecordText) (mark : List ℕ) (s : Setup) (fault : RebuildFault) → text ≡ SetsUp mark s → IsCollected s.documents → fault ≡ BadRecord 0
    → (size_refusal s ≡ None → 0 + frames_needed s < 2 ^ 32 → ⊥) → TakesFirst keys text (Err fault)
unfolding set_up_by
first_faulty keys text mark s fault says collected is refused = subst (λ (f : RebuildFault). TakesFirst keys text (Err f)) (sym is) (refl, none)
  where
    none : (m : List ℕ) (t : Setup) → IsAcceptedSetup text m t → ⊥
    none m t ok =
        let same : s ≡ t = ap (set_up_by s) (sym says ∙ ok.says) in
        let accepted : size_refusal s ≡ None = ap size_refusal same ∙ ok.accepted in
        refused accepted (first_numbered s collected accepted)

-- One record more.

-- the record of a step
pub is_step_record : (payload : List ℕ) (text : RecordText) (step : Step) → IsRecordOf payload text → said text ≡ Some step → IsStepRecord payload step
is_step_record payload (SetsUp mark s) step is says = absurd (cc)
is_step_record payload (Adds d) step is says = subst (IsStepRecord payload) (some_is says) is
  where
    some_is : Some (Does (Add d)) ≡ Some step → Does (Add d) ≡ step
    some_is e = cc
is_step_record payload (Deletes id) step is says = subst (IsStepRecord payload) (some_is says) is
  where
    some_is : Some (Does (Delete id)) ≡ Some step → Does (Delete id) ≡ step
    some_is e = cc
is_step_record payload (Rekeys own) step is says = subst (IsStepRecord payload) (some_is says) is
  where
    some_is : Some (Renews own) ≡ Some step → Renews own ≡ step
    some_is e = cc

-- before the first record none was taken, and there are no marks
record IsUntaken (marks : List (List ℕ)) (payloads : List (List ℕ)) : Type 0 where
  none : payloads ≡ []
  unmarked : marks ≡ []

none_taken : (keys : ℕ × ℕ) (marks : List (List ℕ)) (payloads : List (List ℕ)) → IsTaken keys marks payloads None → IsUntaken marks payloads
none_taken keys marks payloads was = by was.history was.opened was.marked was.recalls
  where
    by : (h : History) → OpensTo was.first payloads h → marks ≡ marks_in was.first h → RecallsIn h None → IsUntaken marks payloads
    by None opened marked recalls = record { none = opened; unmarked = marked }
    by (Some es) opened marked recalls = absurd recalls

-- and behind one the history is set up
record IsSetUp (marks : List (List ℕ)) (payloads : List (List ℕ)) (l : Last) : Type 0 where
  first : List ℕ
  es : Epochs
  opened : Opens first payloads es
  marked : marks ≡ marks_of first es
  recalls : Recalls (begins es) (last_run es) l

set_up : (keys : ℕ × ℕ) (marks : List (List ℕ)) (payloads : List (List ℕ)) (l : Last) → IsTaken keys marks payloads (Some l) → IsSetUp marks payloads l
set_up keys marks payloads l was = by was.history was.opened was.marked was.recalls
  where
    by : (h : History) → OpensTo was.first payloads h → marks ≡ marks_in was.first h → RecallsIn h (Some l) → IsSetUp marks payloads l
    by None opened marked recalls = absurd recalls
    by (Some es) opened marked recalls = record { first = was.first; es = es; opened = opened; marked = marked; recalls = recalls }

-- the marks with a step more
marks-stepped : (first : List ℕ) (es : Epochs) (step : Step) → marks_of first (step_after es step) ≡ marks_with (marks_of first es) step
marks-stepped first (From o run) (Does c) = refl
marks-stepped first (Renewed before own run) (Does c) = refl
marks-stepped first es (Renews own) = refl

module _ (keys : ℕ × ℕ) (payloads : List (List ℕ)) (payload : List ℕ) (text : RecordText) (is : IsRecordOf payload text) where
  -- the first record is taken
  module _ (marks : List (List ℕ)) (was : IsTaken keys marks payloads None) where
    first_alone : payloads ++ payload ∷ [] ≡ payload ∷ []
    first_alone = ap (λ (ps : List (List ℕ)). ps ++ payload ∷ []) (none_taken keys marks payloads was).none

    says_setup : (m : List ℕ) (s : Setup) → text ≡ SetsUp m s → IsRecordOf payload (SetsUp m s)
    says_setup m s e = subst (IsRecordOf payload) e is

    alone_opens : (m : List ℕ) (s : Setup) → IsAcceptedSetup text m s → Opens m (payloads ++ payload ∷ []) (epochs_by s [])
    alone_opens m s ok = subst (λ (ps : List (List ℕ)). Opens m ps (epochs_by s [])) (sym first_alone) (opens_setup payload m s (says_setup m s ok.says) ok.accepted)

    first_taken : (mark : List ℕ) (next : Last) (marked : List (List ℕ)) → marked ≡ marks ++ mark ∷ [] → TakesFirst keys text (Ok (mark, next)) → IsTaken keys marked (payloads ++ payload ∷ []) (Some next)
    first_taken mark next marked with_mark takes = record {
      first = mark;
      history = Some (epochs_by takes.0 []);
      opened = alone_opens mark takes.0 takes.1;
      marked = with_mark ∙ ap (λ (ms : List (List ℕ)). ms ++ mark ∷ []) (none_taken keys marks payloads was).unmarked;
      recalls = takes.2;
      records = takes.3 ∙ ap (λ (ps : List (List ℕ)). length ps) (sym first_alone);
      hashed = takes.4;
    }

    -- there is no memory for its mark
    first_unmarked : (A : Type 0) (mark : List ℕ) (next : Last) → TakesFirst keys text (Ok (mark, next)) → Takes {A = A} keys payloads payload marks None (Err NoMemory)
    first_unmarked A mark next takes = (inr (inl (mark, Some (epochs_by takes.0 []), alone_opens mark takes.0 takes.1)), was)

    -- or refused
    first_nowhere : (t : RecordText) → text ≡ t → ((m : List ℕ) (s : Setup) → IsAcceptedSetup text m s → ⊥) → OpensNowhere (payload ∷ [])
    first_nowhere (SetsUp m s) e none =
        nowhere-first_setup payload m s (says_setup m s e) (λ accepted. none m s (record { says = e; accepted = accepted }))
    first_nowhere (Adds d) e none = nowhere-first_step payload (Does (Add d)) (subst (IsRecordOf payload) e is)
    first_nowhere (Deletes id) e none = nowhere-first_step payload (Does (Delete id)) (subst (IsRecordOf payload) e is)
    first_nowhere (Rekeys own) e none = nowhere-first_step payload (Renews own) (subst (IsRecordOf payload) e is)

    first_refused : (A : Type 0) (fault : RebuildFault) → TakesFirst keys text (Err fault) → Takes {A = A} keys payloads payload marks None (Err fault)
    first_refused A (BadRecord n) takes = (
      takes.0 ∙ ap (λ (ps : List (List ℕ)). length ps) (sym (none_taken keys marks payloads was).none),
      subst OpensNowhere (sym first_alone) (first_nowhere text refl takes.1),
      was,
    )
    first_refused A NoMemory takes = absurd takes

  -- the same where it's known of a last record that there is none
  module _ (marks : List (List ℕ)) (last : Option Last) (none : last ≡ None) (was : IsTaken keys marks payloads last) where
    before : IsTaken keys marks payloads None
    before = subst (IsTaken keys marks payloads) none was

    pub taken_at : (mark : List ℕ) (next : Last) (marked : List (List ℕ)) (new : Option Last) → new ≡ Some next → marked ≡ marks ++ mark ∷ [] → TakesFirst keys text (Ok (mark, next))
        → IsTaken keys marked (payloads ++ payload ∷ []) new
    taken_at mark next marked new is_new with_mark takes = subst (IsTaken keys marked (payloads ++ payload ∷ [])) (sym is_new) (first_taken marks before mark next marked with_mark takes)

    pub unmarked_at : (A : Type 0) (mark : List ℕ) (next : Last) (marked : List (List ℕ)) → marked ≡ marks → TakesFirst keys text (Ok (mark, next)) → Takes {A = A} keys payloads payload marked last (Err NoMemory)
    unmarked_at A mark next marked same takes =
        subst (λ (ms : List (List ℕ)). Takes {A = A} keys payloads payload ms last (Err NoMemory)) (sym same)
        (subst (λ (l : Option Last). Takes {A = A} keys payloads payload marks l (Err NoMemory)) (sym none) (first_unmarked marks before A mark next takes))

    pub refused_at : {A : Type 0} (r : Result A RebuildFault) (fault : RebuildFault) → r ≡ Err fault → TakesFirst keys text (Err fault) → Takes keys payloads payload marks last r
    refused_at {A = A} r fault err takes =
        subst (λ (q : Result A RebuildFault). Takes keys payloads payload marks last q) (sym err)
        (subst (λ (l : Option Last). Takes {A = A} keys payloads payload marks l (Err fault)) (sym none) (first_refused marks before A fault takes))

  -- a later one
  module _ (marks : List (List ℕ)) (l : Last) (was : IsTaken keys marks payloads (Some l)) where
    at : IsSetUp marks payloads l
    at = set_up keys marks payloads l was

    same_taken : (next : Last) (marks_next : List (List ℕ)) → IsSameLast l next → marks_next ≡ marks → IsTaken keys marks_next payloads (Some next)
    same_taken next marks_next same unmarked = record {
      first = at.first;
      history = Some at.es;
      opened = at.opened;
      marked = unmarked ∙ at.marked;
      recalls = same.recalls (begins at.es) (last_run at.es) at.recalls;
      records = same.records ∙ was.records;
      hashed = same.hashed ∙ was.hashed;
    }

    history : IsHistory (last_run at.es)
    history = IsHistory-last at.es at.opened.kept.0

    -- a step is accepted behind the last record where it is after the history, and nowhere else
    accepted_there : (step : Step) → AcceptsAfter marks l step → AcceptsStep at.first at.es step
    accepted_there (Does c) ok = accepts-recalled l (begins at.es) (last_run at.es) c at.recalls ok
    accepted_there (Renews own) ok =
        let there = accepted-renewal l (begins at.es) (last_run at.es) history at.recalls marks own ok in
        (there.0, there.1, ap (list_any (bytes_eq own)) (sym at.marked) ∙ there.2, there.3)

    accepted_here : (step : Step) → IsStepRecord payload step → AcceptsStep at.first at.es step → AcceptsAfter marks l step
    accepted_here (Does c) of_step ok = accepts-after l (begins at.es) (last_run at.es) c at.recalls ok.0 ok.1
    accepted_here (Renews own) of_step ok =
        renewal-accepted l (begins at.es) (last_run at.es) history at.recalls marks own ok.0 ok.1 (ap (list_any (bytes_eq own)) at.marked ∙ ok.2) ok.3

    opened_with : (step : Step) → said text ≡ Some step → AcceptsAfter marks l step → Opens at.first (payloads ++ payload ∷ []) (step_after at.es step)
    opened_with step says ok = opens_more at.first payloads payload at.es step at.opened (is_step_record payload text step is says) (accepted_there step ok)

    -- what is kept of it
    stepped : (step : Step) (next : Last) → IsStepped keys l step next → Recalls (begins (step_after at.es step)) (last_run (step_after at.es step)) next
    stepped (Does c) next more =
        subst (λ (p : Offsets × Run). Recalls p.0 p.1 next) (λ i. (sym (begins-with_commands (c ∷ []) at.es) i, sym (last_run-with_commands (c ∷ []) at.es) i))
        (more.recalls (begins at.es) (last_run at.es) at.recalls)
    stepped (Renews own) next more = more.recalls (begins at.es) (last_run at.es) history at.recalls

    counted : (step : Step) (next : Last) → IsStepped keys l step next → records_of_last next ≡ records_of_last l + 1
    counted (Does c) next more = more.records
    counted (Renews own) next more = more.records

    hashed_with : (step : Step) (next : Last) → IsStepped keys l step next → hash_keys_of next ≡ keys
    hashed_with (Does c) next more = more.hashed ∙ was.hashed
    hashed_with (Renews own) next more = more.hashed

    followed : (step : Step) (next : Last) (marks_next : List (List ℕ)) → said text ≡ Some step → AcceptsAfter marks l step → IsStepped keys l step next → marks_next ≡ marks_with marks step
        → IsTaken keys marks_next (payloads ++ payload ∷ []) (Some next)
    followed step next marks_next says ok more with_mark = record {
      first = at.first;
      history = Some (step_after at.es step);
      opened = opened_with step says ok;
      marked = with_mark ∙ ap (λ (ms : List (List ℕ)). marks_with ms step) at.marked ∙ sym (marks-stepped at.first at.es step);
      recalls = stepped step next more;
      records = omega (arith, counted step next more, was.records, length-append payloads (payload ∷ []));
      hashed = hashed_with step next more;
    }

    refused_step : (step : Step) → said text ≡ Some step → ((other : Step) → said text ≡ Some other → AcceptsAfter marks l other → ⊥) → OpensNowhere (payloads ++ payload ∷ [])
    refused_step step says none =
        let of_step = is_step_record payload text step is says in
        nowhere-step at.first payloads payload at.es at.opened step of_step (λ ok. none step says (accepted_here step of_step ok))

    later_nowhere : (t : RecordText) → text ≡ t → ((step : Step) → said text ≡ Some step → AcceptsAfter marks l step → ⊥) → OpensNowhere (payloads ++ payload ∷ [])
    later_nowhere (SetsUp m s) e none = nowhere-setup at.first payloads payload at.es at.opened m s (subst (IsRecordOf payload) e is)
    later_nowhere (Adds d) e none = refused_step (Does (Add d)) (ap said e) none
    later_nowhere (Deletes id) e none = refused_step (Does (Delete id)) (ap said e) none
    later_nowhere (Rekeys own) e none = refused_step (Renews own) (ap said e) none

    -- memory is taken for it
    memory_for : (t : RecordText) → text ≡ t → (step : Step) → said t ≡ Some step → TakesMemoryFor marks l step → TakesMemoryAfter payloads payload
    memory_for (SetsUp m s) e step says takes = absurd (cc)
    memory_for (Adds d) e step says takes = inr (inl (at.first, Some (step_after at.es (Does (Add d))), opened_with (Does (Add d)) (ap said e) (accepts says takes)))
      where
        accepts : Some (Does (Add d)) ≡ Some step → TakesMemoryFor marks l step → accepts_after l (Add d) ≡ true
        accepts same takes = subst (TakesMemoryFor marks l) (sym (step_is same)) takes
          where
            step_is : Some (Does (Add d)) ≡ Some step → Does (Add d) ≡ step
            step_is e = cc
    memory_for (Deletes id) e step says takes = inr (inl (at.first, Some (step_after at.es (Does (Delete id))), opened_with (Does (Delete id)) (ap said e) (accepts says takes)))
      where
        accepts : Some (Does (Delete id)) ≡ Some step → TakesMemoryFor marks l step → accepts_after l (Delete id) ≡ true
        accepts same takes = subst (TakesMemoryFor marks l) (sym (step_is same)) takes
          where
            step_is : Some (Does (Delete id)) ≡ Some step → Does (Delete id) ≡ step
            step_is e = cc
    memory_for (Rekeys own) e step says takes = inr (inr (own, subst (IsRecordOf payload) e is))

    pub later_taken : {A : Type 0} (next : Last) (marks_next : List (List ℕ)) (r : Result A RebuildFault) → TakesLater keys marks l text marks_next next r → Takes keys payloads payload marks_next (Some next) r
    later_taken next marks_next (Ok done) takes = followed takes.0 next marks_next takes.1 takes.2 takes.3 takes.4
    later_taken next marks_next (Err (BadRecord n)) takes = (takes.0 ∙ was.records, later_nowhere text refl takes.1, same_taken next marks_next takes.2 takes.3)
    later_taken next marks_next (Err NoMemory) takes = (memory_for text refl takes.0 takes.1 takes.2, same_taken next marks_next takes.3 takes.4)

-- What is answered.

-- bytes that are no record
pub no_record_taken : (A : Type 0) (keys : ℕ × ℕ) (marks : List (List ℕ)) (payloads : List (List ℕ)) (payload : List ℕ) (last : Option Last) → IsTaken keys marks payloads last
    → (n : ℕ) → n ≡ records_in last → IsNoRecord payload → Takes {A = A} keys payloads payload marks last (Err (BadRecord n))
no_record_taken A keys marks payloads payload last was n counted none = (counted ∙ was.records, nowhere-no_record payloads payload none, was)

module _ {A : Type 0} (keys : ℕ × ℕ) (payloads : List (List ℕ)) (payload : List ℕ) (marks : List (List ℕ)) (next : Option Last) (r : Result A RebuildFault) (takes : Takes keys payloads payload marks next r) where
  module _ (P : List (List ℕ) → Type 0) (to : (ps : List (List ℕ)) → IsTaken keys marks ps next → P ps) where
    pub takes_taken : OnOk r (P (payloads ++ payload ∷ []))
    takes_taken = by r takes
      where
        by : (q : Result A RebuildFault) → Takes keys payloads payload marks next q → OnOk q (P (payloads ++ payload ∷ []))
        by (Ok done) t = to (payloads ++ payload ∷ []) t
        by (Err fault) t = tt

    pub takes_before : OnErr r (P payloads)
    takes_before = by r takes
      where
        by : (q : Result A RebuildFault) → Takes keys payloads payload marks next q → OnErr q (P payloads)
        by (Ok done) t = tt
        by (Err (BadRecord n)) t = to payloads t.2
        by (Err NoMemory) t = to payloads t.1

  pub takes_memory : r ≡ Err NoMemory → TakesMemoryAfter payloads payload
  takes_memory is =
      let memory : Takes {A = A} keys payloads payload marks next (Err NoMemory) = subst (λ (q : Result A RebuildFault). Takes keys payloads payload marks next q) is takes in memory.0

  pub takes_bad : (old : List (List ℕ)) (last : Option Last) → IsTaken keys old payloads last → (n : ℕ) → r ≡ Err (BadRecord n) → (n ≡ length payloads) × IsBadRecord (payloads ++ payload ∷ []) n
  takes_bad old last was n is =
      let bad : Takes {A = A} keys payloads payload marks next (Err (BadRecord n)) = subst (λ (q : Result A RebuildFault). Takes keys payloads payload marks next q) is takes in
      (bad.0, subst (IsBadRecord (payloads ++ payload ∷ [])) (sym bad.0) (bad_last was.first payloads payload was.history was.opened bad.1))

  pub takes_opens : (first : List ℕ) (es : Epochs) → Opens first (payloads ++ payload ∷ []) es → IsOkUnless r NoMemory
  takes_opens first es opened = by r takes
    where
      by : (q : Result A RebuildFault) → Takes keys payloads payload marks next q → IsOkUnless q NoMemory
      by (Ok done) t = tt
      by (Err (BadRecord n)) t = absurd (not_nowhere first _ es opened t.1)
      by (Err NoMemory) t = refl

  pub takes_nowhere : OpensNowhere (payloads ++ payload ∷ []) → r ≢ Err NoMemory → r ≡ Err (BadRecord (length payloads))
  takes_nowhere nowhere memory = by r takes memory
    where
      by : (q : Result A RebuildFault) → Takes keys payloads payload marks next q → q ≢ Err NoMemory → q ≡ Err (BadRecord (length payloads))
      by (Ok done) t memory = absurd (nowhere t.first t.history t.opened)
      by (Err (BadRecord n)) t memory = ap (λ (m : ℕ). Err (BadRecord m)) t.0
      by (Err NoMemory) t memory = absurd (memory refl)

-- what is so of the fields is so of the rebuild
pub rebuilds_with : (old new : Rebuild) → new.hash_keys ≡ old.hash_keys → (payloads : List (List ℕ)) → IsTaken (hash_numbers old.hash_keys) new.marks.items payloads new.last → Rebuilds payloads new
rebuilds_with old new keys payloads taken = subst (λ (k : HashKeys). IsTaken (hash_numbers k) new.marks.items payloads new.last) (sym keys) taken
