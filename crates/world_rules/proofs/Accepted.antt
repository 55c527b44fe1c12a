-- Accepted changes make a whole history that keeps all limits, and whose keys have different marks.
use Rattle.std.proofs.Common.{◌≡◌, ℕ, ◌+◌, ◌<◌, ◌≤◌, ◌^◌, ◌&&◌, Bool, true, false, not, List, [], ◌∷◌, ◌++◌, map, filter, length, is_none, nat_lt, Option, None, Some, refl, sym, ap, ◌∙◌, subst, arith, ltb-false, leb-false}
use Rattle.std.specs.Prelude.{All, nat_le, nat_eq, is_some, position, bytes_eq, slice_index, if◌then◌else◌, option_map}
use Rattle.std.specs.List.{AllByRecursion, IsDistinct, list_any}
use Rattle.std.specs.Option.{option_and_then, option_or}
use Rattle.std.proofs.lemmas.Bool.{true≢false, ne_eqb, ltb-true}
use Rattle.std.proofs.lemmas.List.Elements.{All-cons, All-head, All-tail}
use Rattle.keyed_fn.specs.KeyedFn.{KeyedFn}
use Rattle.keyed_fn.specs.KeyFormulas.{mark_of}
use Rattle.client_records.specs.Openings.{marks_of, MarksDiffer}
use Rattle.client_records.specs.Recorded.{as_recorded}
use Rattle.client_registry.proofs.FromEnd.{from_end}
use Rattle.client_registry.proofs.HistoryLaws.{IsHistory-last, IsKept-begun, IsKept-longer, IsKept-renewed}
use Rattle.client_registry.proofs.LiveOnce.{AllAbove, Rising, by_id-rising}
use Rattle.client_registry.proofs.OrderLaws.{AreApart-from_IsDistinct}
use Rattle.client_registry.proofs.Positions.{is_some-position}
use Rattle.client_registry.proofs.ShownLaws.{live_apart}
use Rattle.client_registry.specs.Acceptance.{frames_needed, size_refusal, parameter_refusal, list_refusal, bytes_refusal, index_bytes}
use Rattle.client_registry.specs.Command.{Command, Add, Delete, is_update}
use Rattle.client_registry.specs.Document.{Document}
use Rattle.client_registry.specs.DocumentRule.{IsDocument}
use Rattle.client_registry.specs.Documents.{IsCollected, pairs_of, list_lengths}
use Rattle.client_registry.specs.Epochs.{insert_by_id, by_id, next_begins, setup_renewed}
use Rattle.client_registry.specs.Histories as histories
use Rattle.client_registry.specs.Histories.{empty, is_set_up, frames_in, longer, renewed, IsKept, IsWhole}
use Rattle.client_registry.specs.Live.{live}
use Rattle.client_registry.specs.Run.{History, From, Renewed, Run, last_run}
use Rattle.client_registry.specs.Sized.{IsHistory, IsSizedCommand}
use Rattle.client_registry.specs.declared.faults.DocsFault.TheVariants as documents
use Rattle.client_registry.specs.declared.faults.SizeFault.{SizeFault}
use Rattle.client_registry.specs.declared.faults.SizeFault.TheVariants as sizes
use Rattle.client_renewal.specs.Refusals.{key_refusal, fault_of_docs, live_refusal, fault_of_size, full_refusal, renewal_refusal}
use Rattle.client_renewal.specs.declared.renewal_fault.RenewalFault.TheVariants as faults
use Rattle.sse_model.proofs.DrawnOnce.{live_are_documents}
use Rattle.two_level.specs.Plan.{plan}
use Rattle.world_model.specs.Rules.{AreAccepted}
use Rattle.world_rules.proofs.Numbered.{history_of-push, accepted-push}
use Rattle.world_rules.specs.Changes.{Change, SetsUp, Adds, Deletes, Renews, with_change, history_of}
use Rattle.world_rules.specs.Promises.{IsSizedChange}
use Rattle.world_rules.specs.Rules.{accepts, store_rules}

-- Tests.

none_of : {X : Type 0} (o : Option X) → is_none o ≡ true → o ≡ None
none_of None e = refl
none_of (Some x) e = absurd (true≢false (sym e))

some_none : {X : Type 0} (x : X) → Some x ≡ None → ⊥
some_none x e = cc

left_of : (a b : Bool) → (a && b) ≡ true → a ≡ true
left_of true b e = refl
left_of false b e = e

right_of : (a b : Bool) → (a && b) ≡ true → b ≡ true
right_of true b e = e
right_of false b e = absurd (true≢false (sym e))

neither : {X : Type 0} (a b : Option X) → option_or a b ≡ None → (a ≡ None) × (b ≡ None)
neither None b e = (refl, e)
neither (Some x) b e = absurd (some_none x e)

-- The setup of a renewal.

-- documents by rising identifier have different ones
distinct : (docs : List Document) → Rising docs → IsDistinct nat_eq (map (λ d. d.id) docs)
unfolding IsDistinct
distinct [] rising = tt
distinct (d ∷ docs) rising = (none docs rising.0, distinct docs rising.1)
  where
    none : (es : List Document) → AllAbove d.id es → AllByRecursion (λ y. nat_eq d.id y ≡ false) (map (λ e. e.id) es)
    none [] above = tt
    none (e ∷ es) above = (ne_eqb d.id e.id (λ same. omega (arith, above.0, same)), none es above.1)

valid-insert : (d : Document) (es : List Document) → IsDocument d → All IsDocument es → All IsDocument (insert_by_id d es)
valid-insert d [] one all = All-cons IsDocument d [] one all
valid-insert d (e ∷ es) one all = by (nat_le d.id e.id) (valid-insert d es one (All-tail IsDocument e es all))
  where
    by : (b : Bool) → All IsDocument (insert_by_id d es) → All IsDocument (if b then d ∷ e ∷ es else e ∷ insert_by_id d es)
    by true h = All-cons IsDocument d (e ∷ es) one all
    by false h = All-cons IsDocument e (insert_by_id d es) (All-head IsDocument e es all) h

valid-by_id : (docs : List Document) → All IsDocument docs → All IsDocument (by_id docs)
valid-by_id [] all = all
valid-by_id (d ∷ docs) all = valid-insert d (by_id docs) (All-head IsDocument d docs all) (valid-by_id docs (All-tail IsDocument d docs all))

few : (docs : List Document) → live_refusal docs ≡ None → (length docs ≤ 2 ^ 18) × (pairs_of docs ≤ 2 ^ 20)
few docs e = by (nat_lt (2 ^ 18) (length docs)) refl (nat_lt (2 ^ 20) (pairs_of docs)) refl e
  where
    by : (a : Bool) → nat_lt (2 ^ 18) (length docs) ≡ a → (b : Bool) → nat_lt (2 ^ 20) (pairs_of docs) ≡ b
        → option_and_then fault_of_docs (if a then Some (documents.TooManyDocuments (length docs)) else if b then Some (documents.TooManyPairs (pairs_of docs)) else None) ≡ None
        → (length docs ≤ 2 ^ 18) × (pairs_of docs ≤ 2 ^ 20)
    by true e b g h = absurd (some_none _ h)
    by false e true g h = absurd (some_none _ h)
    by false e false g h = (ltb-false (2 ^ 18) (length docs) e, ltb-false (2 ^ 20) (pairs_of docs) g)

-- what is live is collected again, unless it is refused
collected : (run : Run) → IsHistory run → live_refusal (setup_renewed run).documents ≡ None → IsCollected (setup_renewed run).documents
collected run history none =
    let docs = live run.setup.documents run.later in
    let limits = few (by_id docs) none in record {
      documents = limits.0;
      pairs = limits.1;
      different = distinct (by_id docs) (by_id-rising docs (live_apart run.setup (AreApart-from_IsDistinct (map (λ d. d.id) run.setup.documents) history.collected.different) run.later history.accepted));
      are_documents = valid-by_id docs (live_are_documents run.setup.documents run.later history.collected.are_documents history.each);
    }

-- its parameters are those of the run's setup, so its size is accepted where it isn't too large
sized : (run : Run) → size_refusal run.setup ≡ None → option_and_then fault_of_size (size_refusal (setup_renewed run)) ≡ None → size_refusal (setup_renewed run) ≡ None
sized run setup none =
    let s = setup_renewed run in
    let parameters : parameter_refusal s ≡ None = (neither (parameter_refusal run.setup) _ setup).0 in
    let rest : size_refusal s ≡ option_or (list_refusal s) (bytes_refusal s) = ap (λ o. option_or o (option_or (list_refusal s) (bytes_refusal s))) parameters in
    let too_long : ℕ → SizeFault = λ word. sizes.ListTooLong word (slice_index (list_lengths s.documents) word) in
    let lists = by_list (position (λ n. is_none (plan s.shape n)) (list_lengths s.documents)) too_long (λ n e. some_none _ e) (bytes_refusal s) (ap (option_and_then fault_of_size) (sym rest) ∙ none) in
    rest ∙ (λ i. option_or (option_map too_long (lists.0 i)) (by_bytes (nat_lt (2 ^ 28) (index_bytes s)) (index_bytes s) lists.1 i))
  where
    by_list : (o : Option ℕ) (g : ℕ → SizeFault) → ((n : ℕ) → fault_of_size (g n) ≡ None → ⊥) → (rest : Option SizeFault) → option_and_then fault_of_size (option_or (option_map g o) rest) ≡ None
        → (o ≡ None) × (option_and_then fault_of_size rest ≡ None)
    by_list None g never rest e = (refl, e)
    by_list (Some n) g never rest e = absurd (never n e)

    by_bytes : (b : Bool) (n : ℕ) → option_and_then fault_of_size (if b then Some (sizes.TooManyBytes n) else None) ≡ None → (if b then Some (sizes.TooManyBytes n) else None) ≡ None
    by_bytes true n e = absurd (some_none _ e)
    by_bytes false n e = refl

-- there is a number for each of its frames
numbered : (n more : ℕ) → full_refusal n more ≡ None → n + more < 2 ^ 32
numbered n more e = by (nat_le (2 ^ 32) (n + more)) refl e
  where
    by : (b : Bool) → nat_le (2 ^ 32) (n + more) ≡ b → (if b then Some faults.HistoryFull else None) ≡ None → n + more < 2 ^ 32
    by true is h = absurd (some_none _ h)
    by false is h = leb-false (2 ^ 32) (n + more) is

-- its key's mark is none of these
unused : (marks : List (List ℕ)) (mark : List ℕ) → key_refusal marks mark ≡ None → list_any (bytes_eq mark) marks ≡ false
unused marks mark e = sym (is_some-position (bytes_eq mark) marks) ∙ by (position (bytes_eq mark) marks) e
  where
    by : (o : Option ℕ) → option_map (λ epoch. faults.KeyUsed epoch) o ≡ None → is_some o ≡ false
    by None h = refl
    by (Some n) h = absurd (some_none _ h)

-- One change more.

whole-longer : (h : History) (cs : List Command) → IsWhole h → IsWhole (longer cs h)
whole-longer None cs whole = whole
whole-longer (Some (From o run)) cs whole = whole
whole-longer (Some (Renewed before own run)) cs whole = whole

module _ (f : KeyedFn) (key : List ℕ) where
  marks-longer : (h : History) (cs : List Command) → MarksDiffer (mark_of f) key h → MarksDiffer (mark_of f) key (longer cs h)
  marks-longer None cs differ = differ
  marks-longer (Some (From o run)) cs differ = differ
  marks-longer (Some (Renewed before own run)) cs differ = differ

  abbrev IsProper : History → Type 0
  IsProper h = IsKept h × IsWhole h × MarksDiffer (mark_of f) key h

  with_update : (h : History) (c : Command) → IsProper h → IsSizedCommand c → histories.accepts h c ≡ true → frames_in h + length (filter is_update (c ∷ [])) < 2 ^ 32 → IsProper (longer (c ∷ []) h)
  with_update h c is within ok frames = (IsKept-longer h c is.0 within ok frames, whole-longer h (c ∷ []) is.1, marks-longer h (c ∷ []) is.2)

  with_accepted : (h : History) (c : Change) → IsProper h → IsSizedChange c → accepts f key h c ≡ true → IsProper (with_change h c)
  with_accepted h (SetsUp s) is within ok =
      let size : is_none (size_refusal s) ≡ true = right_of (not (is_set_up h)) (is_none (size_refusal s)) (left_of (not (is_set_up h) && is_none (size_refusal s)) _ ok) in
      (IsKept-begun s within (none_of (size_refusal s) size), refl, tt)
  with_accepted h (Adds d) is within ok =
      let first = left_of (histories.accepts h (Add d) && nat_lt (frames_in h + 1) (2 ^ 32)) _ ok in
      with_update h (Add d) is within (left_of (histories.accepts h (Add d)) _ first) (omega (arith, ltb-true (frames_in h + 1) (2 ^ 32) (right_of (histories.accepts h (Add d)) _ first)))
  with_accepted h (Deletes id) is within ok =
      let first = left_of (histories.accepts h (Delete id) && nat_lt (frames_in h + 1) (2 ^ 32)) _ ok in
      with_update h (Delete id) is within (left_of (histories.accepts h (Delete id)) _ first) (omega (arith, ltb-true (frames_in h + 1) (2 ^ 32) (right_of (histories.accepts h (Delete id)) _ first)))
  with_accepted None (Renews own) is within ok = absurd (true≢false (sym ok))
  with_accepted (Some es) (Renews own) is within ok =
      let run = last_run es in
      let s = setup_renewed run in
      let marks = marks_of (mark_of f key) (as_recorded (mark_of f) es) in
      let refusal = renewal_refusal marks (mark_of f own) (next_begins es).frame s in
      let first = neither (key_refusal marks (mark_of f own)) _ (none_of refusal (left_of (is_none refusal) _ ok)) in
      let second = neither (live_refusal s.documents) _ first.1 in
      let third = neither (option_and_then fault_of_size (size_refusal s)) _ second.1 in
      let history = IsHistory-last es is.0.0 in (
        IsKept-renewed es own is.0 (collected run history second.0) (sized run history.setup third.0) (numbered (next_begins es).frame (frames_needed s) third.1),
        is.1,
        (is.2, unused marks (mark_of f own) first.0),
      )

  pub accepted_history : (changes : List Change) → AllByRecursion IsSizedChange changes → AreAccepted (store_rules f key) changes → IsProper (history_of changes)
  accepted_history = from_end (λ changes. AllByRecursion IsSizedChange changes → AreAccepted (store_rules f key) changes → IsProper (history_of changes)) (λ all are. (tt, tt, tt)) push
    where
      split : (xs : List Change) (c : Change) → AllByRecursion IsSizedChange (xs ++ c ∷ []) → AllByRecursion IsSizedChange xs × IsSizedChange c
      split [] c all = (tt, all.0)
      split (x ∷ xs) c all = let rest = split xs c all.1 in ((all.0, rest.0), rest.1)

      push : (xs : List Change) (c : Change) → (AllByRecursion IsSizedChange xs → AreAccepted (store_rules f key) xs → IsProper (history_of xs))
          → AllByRecursion IsSizedChange (xs ++ c ∷ []) → AreAccepted (store_rules f key) (xs ++ c ∷ []) → IsProper (history_of (xs ++ c ∷ []))
      push xs c had all are =
          let within = split xs c all in
          let accepted = accepted-push (store_rules f key) [] xs c are in
          subst IsProper (sym (history_of-push xs c)) (with_accepted (history_of xs) c (had within.0 accepted.0) within.1 accepted.1)
