-- What commands and renewals leave in a journal behind those before them, and to which history it opens.
use Rattle.std.proofs.Common.{◌≡◌, ℕ, ◌+◌, ◌^◌, true, not, ◌&&◌, ◌||◌, ◌-◌, nat_lt, List, [], ◌∷◌, ◌++◌, length, map, filter, refl, sym, ap, subst, ◌∙◌, None, Some, append_assoc, arith}
use Rattle.std.specs.Prelude.{All}
use Rattle.std.specs.List.{list_all}
use Rattle.std.proofs.lemmas.Bool.{true≢false}
use Rattle.std.proofs.lemmas.List.{append-nil, length-append, map-append}
use Rattle.std.proofs.lemmas.List.Elements.{All-head, All-tail, filter-append}
use Rattle.client_registry.proofs.FromEnd.{from_end}
use Rattle.client_registry.proofs.HistoryLaws.{IsKept-first, IsKept-longer}
use Rattle.client_registry.proofs.LiveLaws.{live-updates, is_listed-updates, counter-updates}
use Rattle.client_registry.proofs.PaddedLaws.{pad_bounds}
use Rattle.client_registry.proofs.SizedLaws.{accepted_pad, accepted_shape, update_frames-push}
use Rattle.client_registry.specs.Command.{Command, Add, Delete, Search, is_update}
use Rattle.client_registry.specs.Documents.{is_live}
use Rattle.client_registry.specs.Epochs.{by_id, first_begins, setup_renewed, Step, Does, Renews, step_after, with_commands}
use Rattle.client_registry.specs.Histories.{IsKept, accepts, frames_in, is_set_up, longer, renewed, IsWhole}
use Rattle.client_registry.specs.Run.{History, Run, Offsets, Epochs, From, Renewed, at_first, last_run}
use Rattle.client_registry.specs.Setup.{Setup}
use Rattle.client_registry.specs.Sized.{IsSizedCommand, IsHistory, is_accepted, update_frames}
use Rattle.client_records.specs.Openings.{AreApart, MarksDiffer, Opens, OpensTo, IsStepRecord}
use Rattle.client_records.specs.Recorded.{recorded, records_of_epochs, records_of_history, as_recorded, without_searches}
use Rattle.client_records.specs.Records.{IsSetupText, setup_record, renewal_record, update_record}
use Rattle.client_records.proofs.OpeningLaws.{accepted_push, opens-setup_record, opens-step_record, opens_once, is_update_record, is_renewal_record}

-- Step by step.

-- what holds of a setup alone, and with each step that keeps all limits, holds of all epochs that keep them
module _ (P : Epochs → Type 0) (alone : (o : Offsets) (s : Setup) → IsKept (Some (From o (record { setup = s; later = [] }))) → P (From o (record { setup = s; later = [] })))
    (more : (es : Epochs) (step : Step) → IsKept (Some (step_after es step)) → IsKept (Some es) → P es → P (step_after es step)) where
  back : (es : Epochs) (step : Step) → IsKept (Some (step_after es step)) → IsKept (Some es)
  back es step = IsKept-first (Some es) (Some (step_after es step)) (step ∷ [], refl)

  -- behind epochs of which it holds
  behind : (before : Epochs) (own : List ℕ) → (IsKept (Some before) → P before) → (cs : List Command) → IsKept (Some (Renewed before own (record { setup = setup_renewed (last_run before); later = cs })))
      → P (Renewed before own (record { setup = setup_renewed (last_run before); later = cs }))
  behind before own known = from_end (λ cs. IsKept (Some (this cs)) → P (this cs))
      (λ k. let b = back before (Renews own) k in more before (Renews own) k b (known b))
      (λ past c front k. let b = back (this past) (Does c) k in more (this past) (Does c) k b (front b))
    where
      this : List Command → Epochs
      this cs = Renewed before own (record { setup = setup_renewed (last_run before); later = cs })

  pub by_kept_steps : (es : Epochs) → IsKept (Some es) → P es
  by_kept_steps (From o run) =
      from_end (λ cs. IsKept (Some (From o (record { setup = run.setup; later = cs }))) → P (From o (record { setup = run.setup; later = cs }))) (alone o run.setup)
      (λ past c front kept. let b = back (From o (record { setup = run.setup; later = past })) (Does c) kept in more (From o (record { setup = run.setup; later = past })) (Does c) kept b (front b)) run.later
  by_kept_steps (Renewed before own run) =
      λ kept.
      subst (λ (s : Setup). IsKept (Some (Renewed before own (record { setup = s; later = run.later }))) → P (Renewed before own (record { setup = s; later = run.later }))) (sym kept.0.1)
      (behind before own (λ b. by_kept_steps before b) run.later) kept

-- One step more.

recorded-append : (front back : List Command) → recorded (front ++ back) ≡ recorded front ++ recorded back
recorded-append front back = ap (map update_record) (filter-append is_update front back) ∙ map-append update_record (filter is_update front) (filter is_update back)

records-commands : (mark : List ℕ → List ℕ) (key : List ℕ) (es : Epochs) (cs : List Command) → records_of_epochs mark key (with_commands cs es) ≡ records_of_epochs mark key es ++ recorded cs
records-commands mark key (From o run) cs = ap (λ (later : List (List ℕ)). setup_record (mark key) run.setup ∷ later) (recorded-append run.later cs)
records-commands mark key (Renewed before own run) cs =
    ap (λ (later : List (List ℕ)). records_of_epochs mark key before ++ renewal_record (mark own) ∷ later) (recorded-append run.later cs)
    ∙ sym (append_assoc (records_of_epochs mark key before) (renewal_record (mark own) ∷ recorded run.later) (recorded cs))

-- Promise P68, also here
-- commands behind a history leave their records behind its
pub records-longer : (mark : List ℕ → List ℕ) (key : List ℕ) (h : History) (commands : List Command) → is_set_up h ≡ true → records_of_history mark key (longer commands h) ≡ records_of_history mark key h ++ recorded commands
records-longer mark key None commands up = absurd (true≢false (sym up))
records-longer mark key (Some es) commands up = records-commands mark key es commands

-- Promise P68, also here
-- and a renewal its own
pub records-renewed : (mark : List ℕ → List ℕ) (key own : List ℕ) (h : History) → is_set_up h ≡ true → records_of_history mark key (renewed own h) ≡ records_of_history mark key h ++ renewal_record (mark own) ∷ []
records-renewed mark key own None up = absurd (true≢false (sym up))
records-renewed mark key own (Some es) up = refl

-- What the records open to.

-- a command is accepted where it is after the same commands without their searches
accepted-updates : (s : Setup) (past : List Command) (c : Command) → is_accepted s (filter is_update past) c ≡ is_accepted s past c
accepted-updates s past (Add d) = λ i.
    not (is_live (live-updates s.documents past i) d.id)
    && list_all (λ word. is_listed-updates s past word d.id i || nat_lt (counter-updates s past word i) (2 ^ 32 - 1)) d.words
accepted-updates s past (Delete id) = λ i. is_live (live-updates s.documents past i) id
accepted-updates s past (Search word) = refl

updates-again : (past : List Command) → filter is_update (filter is_update past) ≡ filter is_update past
updates-again [] = refl
updates-again (Add d ∷ cs) = ap (λ rest. Add d ∷ rest) (updates-again cs)
updates-again (Delete id ∷ cs) = ap (λ rest. Delete id ∷ rest) (updates-again cs)
updates-again (Search word ∷ cs) = updates-again cs

sized_last : (past : List Command) (c : Command) → All IsSizedCommand (past ++ c ∷ []) → IsSizedCommand c
sized_last [] c all = All-head IsSizedCommand c [] all
sized_last (d ∷ past) c all = sized_last past c (All-tail IsSizedCommand d (past ++ c ∷ []) all)

sized_step : (es : Epochs) (c : Command) → IsKept (Some (step_after es (Does c))) → IsSizedCommand c
sized_step (From o run) c kept = sized_last run.later c kept.0.each
sized_step (Renewed before own run) c kept = sized_last run.later c kept.0.2.each

frames_step : (es : Epochs) (c : Command) → frames_in (Some (step_after es (Does c))) ≡ frames_in (Some es) + length (filter is_update (c ∷ []))
frames_step (From o run) c = omega (arith, update_frames-push run c)
frames_step (Renewed before own run) c = omega (arith, update_frames-push run c)

accepted_step : (es : Epochs) (c : Command) → IsKept (Some (step_after es (Does c))) → accepts (Some es) c ≡ true
accepted_step (From o run) c kept = accepted_push run c kept.0
accepted_step (Renewed before own run) c kept = accepted_push run c kept.0.2

module _ (mark : List ℕ → List ℕ) where
  -- the last run without its searches
  last-recorded : (es : Epochs) → last_run (as_recorded mark es) ≡ record { setup = (last_run es).setup; later = filter is_update (last_run es).later }
  last-recorded (From o run) = refl
  last-recorded (Renewed before own run) = refl

  frames-run : (run : Run) → update_frames (record { setup = run.setup; later = filter is_update run.later }) ≡ update_frames run
  frames-run run = omega (arith, ap length (updates-again run.later))

  -- as many frames are numbered
  frames_in-recorded : (es : Epochs) → frames_in (Some (as_recorded mark es)) ≡ frames_in (Some es)
  frames_in-recorded (From o run) = omega (arith, frames-run run)
  frames_in-recorded (Renewed before own run) = omega (arith, frames-run run, frames_in-recorded before)

  -- the same commands are accepted, and the same setup is made by a renewal
  accepts-recorded : (es : Epochs) (c : Command) → accepts (Some (as_recorded mark es)) c ≡ accepts (Some es) c
  accepts-recorded (From o run) c = accepted-updates run.setup run.later c
  accepts-recorded (Renewed before own run) c = accepted-updates run.setup run.later c

  renewed-recorded : (es : Epochs) → setup_renewed (last_run (as_recorded mark es)) ≡ setup_renewed (last_run es)
  renewed-recorded (From o run) = λ i. record { documents = by_id (live-updates run.setup.documents run.later i); shape = run.setup.shape; pad = run.setup.pad }
  renewed-recorded (Renewed before own run) = λ i. record { documents = by_id (live-updates run.setup.documents run.later i); shape = run.setup.shape; pad = run.setup.pad }

  -- a step more is one step more of what the records tell, or none where it's a search
  recorded-update : (es : Epochs) (c : Command) → filter is_update (c ∷ []) ≡ c ∷ [] → as_recorded mark (step_after es (Does c)) ≡ step_after (as_recorded mark es) (Does c)
  recorded-update (From o run) c one = λ i. From o (record { setup = run.setup; later = (filter-append is_update run.later (c ∷ []) ∙ ap (λ last. filter is_update run.later ++ last) one) i })
  recorded-update (Renewed before own run) c one = λ i. Renewed (as_recorded mark before) (mark own) (record { setup = run.setup; later = (filter-append is_update run.later (c ∷ []) ∙ ap (λ last. filter is_update run.later ++ last) one) i })

  recorded-search : (es : Epochs) (word : List ℕ) → as_recorded mark (step_after es (Does (Search word))) ≡ as_recorded mark es
  recorded-search (From o run) word = λ i. From o (record { setup = run.setup; later = (filter-append is_update run.later (Search word ∷ []) ∙ append-nil (filter is_update run.later)) i })
  recorded-search (Renewed before own run) word = λ i. Renewed (as_recorded mark before) (mark own) (record { setup = run.setup; later = (filter-append is_update run.later (Search word ∷ []) ∙ append-nil (filter is_update run.later)) i })

  recorded-renewal : (es : Epochs) (own : List ℕ) → as_recorded mark (step_after es (Renews own)) ≡ step_after (as_recorded mark es) (Renews (mark own))
  recorded-renewal es own = λ i. Renewed (as_recorded mark es) (mark own) (record { setup = sym (renewed-recorded es) i; later = [] })

  -- what keeps all limits keeps them without its searches
  pub IsKept-recorded : (es : Epochs) → IsKept (Some es) → IsKept (Some (as_recorded mark es))
  IsKept-recorded = by_kept_steps (λ es. IsKept (Some (as_recorded mark es))) (λ o s kept. kept) step
    where
      update : (es : Epochs) (c : Command) → filter is_update (c ∷ []) ≡ c ∷ [] → IsKept (Some (step_after es (Does c))) → IsKept (Some (as_recorded mark es)) → IsKept (Some (as_recorded mark (step_after es (Does c))))
      update es c one kept front =
          subst (λ xs. IsKept (Some xs)) (sym (recorded-update es c one))
          (IsKept-longer (Some (as_recorded mark es)) c front (sized_step es c kept) (accepts-recorded es c ∙ accepted_step es c kept)
          (omega (arith, kept.1, frames_in-recorded es, frames_step es c)))

      step : (es : Epochs) (s : Step) → IsKept (Some (step_after es s)) → IsKept (Some es) → IsKept (Some (as_recorded mark es)) → IsKept (Some (as_recorded mark (step_after es s)))
      step es (Does (Add d)) kept was front = update es (Add d) refl kept front
      step es (Does (Delete id)) kept was front = update es (Delete id) refl kept front
      step es (Does (Search word)) kept was front = subst (λ xs. IsKept (Some xs)) (sym (recorded-search es word)) front
      step es (Renews own) kept was front =
          subst (λ xs. IsKept (Some xs)) (sym (recorded-renewal es own)) (
            (front.0, refl, subst (λ (s : Setup). IsHistory (record { setup = s; later = [] })) (sym (renewed-recorded es)) kept.0.2),
            omega (arith, kept.1, frames_in-recorded es, ap (λ (s : Setup). update_frames (record { setup = s; later = [] })) (renewed-recorded es)),
          )

  module _ (size : (key : List ℕ) → length (mark key) ≡ 16) (key : List ℕ) where
    -- the records of epochs open to them without their searches, where they are whole and their marks differ
    pub opens-epochs : (es : Epochs) → IsKept (Some es) → first_begins es ≡ at_first → AreApart (mark key) (as_recorded mark es) → Opens (mark key) (records_of_epochs mark key es) (as_recorded mark es)
    opens-epochs = by_kept_steps (λ es. first_begins es ≡ at_first → AreApart (mark key) (as_recorded mark es) → Opens (mark key) (records_of_epochs mark key es) (as_recorded mark es)) alone step
      where
        alone : (o : Offsets) (s : Setup) → IsKept (Some (From o (record { setup = s; later = [] }))) → o ≡ at_first → AreApart (mark key) (From o (record { setup = s; later = [] }))
            → Opens (mark key) (setup_record (mark key) s ∷ []) (From o (record { setup = s; later = [] }))
        alone o s kept first apart =
            let shape = accepted_shape s kept.0.setup in
            let pad = pad_bounds s.pad (accepted_pad s kept.0.setup) in
            let limits : IsSetupText (mark key) s = record {
              mark_size = size key;
              b_fits = omega (arith, shape.0.1);
              big_fits = omega (arith, shape.1.1);
              pad_fits = omega (arith, pad.1);
              collected = kept.0.collected;
            } in
            subst (λ (at : Offsets). Opens (mark key) (setup_record (mark key) s ∷ []) (From at (record { setup = s; later = [] }))) (sym first)
            (opens-setup_record (mark key) s limits kept.0.setup)

        -- a record more
        taken : (es : Epochs) (real told : Step) (payload : List ℕ) → IsKept (Some (step_after es real)) → IsStepRecord payload told
            → records_of_epochs mark key (step_after es real) ≡ records_of_epochs mark key es ++ payload ∷ [] → as_recorded mark (step_after es real) ≡ step_after (as_recorded mark es) told
            → Opens (mark key) (records_of_epochs mark key es) (as_recorded mark es) → AreApart (mark key) (as_recorded mark (step_after es real))
            → Opens (mark key) (records_of_epochs mark key (step_after es real)) (as_recorded mark (step_after es real))
        taken es real told payload kept is records alike front apart =
            subst (λ (p : List (List ℕ) × Epochs). Opens (mark key) p.0 p.1) (λ i. (sym records i, sym alike i))
            (opens-step_record (mark key) (records_of_epochs mark key es) payload (as_recorded mark es) told front is
            (subst (λ xs. IsKept (Some xs)) alike (IsKept-recorded (step_after es real) kept)) (subst (AreApart (mark key)) alike apart))

        apart_before : (es : Epochs) (c : Command) → AreApart (mark key) (as_recorded mark (step_after es (Does c))) → AreApart (mark key) (as_recorded mark es)
        apart_before (From o run) c apart = tt
        apart_before (Renewed before own run) c apart = apart

        first_before : (es : Epochs) (c : Command) → first_begins (step_after es (Does c)) ≡ at_first → first_begins es ≡ at_first
        first_before (From o run) c first = first
        first_before (Renewed before own run) c first = first

        step : (es : Epochs) (s : Step) → IsKept (Some (step_after es s)) → IsKept (Some es)
            → (first_begins es ≡ at_first → AreApart (mark key) (as_recorded mark es) → Opens (mark key) (records_of_epochs mark key es) (as_recorded mark es))
            → first_begins (step_after es s) ≡ at_first → AreApart (mark key) (as_recorded mark (step_after es s)) → Opens (mark key) (records_of_epochs mark key (step_after es s)) (as_recorded mark (step_after es s))
        step es (Does (Add d)) kept was front first apart =
            taken es (Does (Add d)) (Does (Add d)) (update_record (Add d)) kept (is_update_record (Add d) (sized_step es (Add d) kept) refl) (records-commands mark key es (Add d ∷ [])) (recorded-update es (Add d) refl)
            (front (first_before es (Add d) first) (apart_before es (Add d) apart)) apart
        step es (Does (Delete id)) kept was front first apart =
            taken es (Does (Delete id)) (Does (Delete id)) (update_record (Delete id)) kept (is_update_record (Delete id) (sized_step es (Delete id) kept) refl) (records-commands mark key es (Delete id ∷ [])) (recorded-update es (Delete id) refl)
            (front (first_before es (Delete id) first) (apart_before es (Delete id) apart)) apart
        step es (Does (Search word)) kept was front first apart =
            subst (λ (p : List (List ℕ) × Epochs). Opens (mark key) p.0 p.1)
            (λ i. (sym (records-commands mark key es (Search word ∷ []) ∙ append-nil (records_of_epochs mark key es)) i, sym (recorded-search es word) i))
            (front (first_before es (Search word) first) (apart_before es (Search word) apart))
        step es (Renews own) kept was front first apart =
            taken es (Renews own) (Renews (mark own)) (renewal_record (mark own)) kept (is_renewal_record (mark own) (size own)) refl (recorded-renewal es own) (front first apart.0) apart

    -- and to nothing else
    opens_only-epochs : (n : List ℕ) (es other : Epochs) → IsKept (Some es) → first_begins es ≡ at_first → AreApart (mark key) (as_recorded mark es) → Opens n (records_of_epochs mark key es) other
        → (n ≡ mark key) × (other ≡ as_recorded mark es)
    opens_only-epochs n es other kept first apart opened = opens_once n (mark key) (records_of_epochs mark key es) other (as_recorded mark es) opened (opens-epochs es kept first apart)

    -- Promise P68, also here
    -- the records of a history open to it without its searches, where its keys have different marks
    pub opens-records : (h : History) → IsWhole h → IsKept h → MarksDiffer mark key h → OpensTo (mark key) (records_of_history mark key h) (without_searches mark h)
    opens-records None whole kept apart = refl
    opens-records (Some es) whole kept apart = opens-epochs es kept whole apart

    -- epochs leave a record at least
    some_record : (es : Epochs) → records_of_epochs mark key es ≡ [] → ⊥
    some_record (From o run) e = cc
    some_record (Renewed before own run) e = omega (arith, ap length e, length-append (records_of_epochs mark key before) (renewal_record (mark own) ∷ recorded run.later))

    -- Promise P68, also here
    -- and to no other
    pub opens_only : (n : List ℕ) (h other : History) → IsWhole h → IsKept h → MarksDiffer mark key h → OpensTo n (records_of_history mark key h) other → other ≡ without_searches mark h
    opens_only n None None whole kept apart opened = refl
    opens_only n None (Some other) whole kept apart opened = absurd opened.say
    opens_only n (Some es) None whole kept apart opened = absurd (some_record es opened)
    opens_only n (Some es) (Some other) whole kept apart opened = ap (λ (xs : Epochs). Some xs) (opens_only-epochs n es other kept whole apart opened).1
