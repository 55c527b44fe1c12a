-- A command is accepted after a history if and only if its plan has no fault.
use Rattle.std.proofs.Common.{◌≡◌, ℕ, ◌+◌, ◌-◌, ◌^◌, ◌&&◌, ◌||◌, not, Bool, true, false, List, [], ◌∷◌, is_none, nat_lt, Option, None, Some, refl, sym, ap, ◌∙◌, arith, leb-true, leb-false}
use Rattle.std.specs.Prelude.{nat_le, is_some, position, option_map, if◌then◌else◌}
use Rattle.std.specs.List.{list_all, list_any}
use Rattle.std.specs.Option.{option_or}
use Rattle.std.proofs.lemmas.Bool.{le-ltb, lt-ltb}
use Rattle.keyed_fn.specs.KeyedFn.{KeyedFn}
use Rattle.keyed_fn.specs.KeyFormulas.{mark_of}
use Rattle.client_core.specs.Renewals.{renewal_clash, renewal_fault}
use Rattle.client_core.specs.StandsFor.{full_refusal, refusal_to_add, refusal_to_delete, add_fault, delete_fault}
use Rattle.client_core.specs.UpdateFaults.{clash_fault}
use Rattle.client_core.specs.declared.command_fault.CommandFault.{CommandFault}
use Rattle.client_core.specs.declared.command_fault.CommandFault.TheVariants as faults
use Rattle.client_records.specs.Openings.{marks_of}
use Rattle.client_records.specs.Recorded.{as_recorded}
use Rattle.client_registry.proofs.FactsLaws.{accepted-add, accepted-delete}
use Rattle.client_registry.proofs.Positions.{is_some-position}
use Rattle.client_registry.specs.Acceptance.{size_refusal}
use Rattle.client_registry.specs.Command.{Add, Delete}
use Rattle.client_registry.specs.Document.{Document}
use Rattle.client_registry.specs.Epochs.{begins, next_begins, key_now, setup_renewed}
use Rattle.client_registry.specs.Facts.{Facts, facts_of, has_counter, has_counters}
use Rattle.client_registry.specs.Histories.{frames_in}
use Rattle.client_registry.specs.Run.{Epochs, last_run}
use Rattle.client_registry.specs.Setup.{Setup}
use Rattle.client_renewal.specs.Refusals.{renewal_refusal}
use Rattle.index_setup.specs.Entries.{label_clash, place_clash}
use Rattle.index_setup.specs.Refused.{refused_by_size, clash_refusal, build_refusal}
use Rattle.index_setup.specs.declared.fault.BuildFault.TheVariants as builds
use Rattle.sse_model.specs.Compared.{Labels, Places, collision_of}
use Rattle.sse_model.specs.Histories.{table_at, collision_of_renewal}
use Rattle.sse_model.specs.Wire.{next_number}
use Rattle.world_rules.specs.Changes.{SetsUp, Adds, Deletes, Renews}
use Rattle.world_rules.specs.Rules.{accepts}

-- Tests.

is_none-map : {X Y : Type 0} (g : X → Y) (o : Option X) → is_none (option_map g o) ≡ is_none o
is_none-map g None = refl
is_none-map g (Some x) = refl

is_none-or : {X : Type 0} (a b : Option X) → is_none (option_or a b) ≡ (is_none a && is_none b)
is_none-or None b = refl
is_none-or (Some x) b = refl

is_none-alone : {X : Type 0} (o : Option X) → is_none (option_or o None) ≡ is_none o
is_none-alone None = refl
is_none-alone (Some x) = refl

and-assoc : (a b c : Bool) → ((a && b) && c) ≡ (a && (b && c))
and-assoc true b c = refl
and-assoc false b c = refl

-- no element fails a test where all pass it
is_none-position : {X : Type 0} (p : X → Bool) (xs : List X) → is_none (position (λ x. not (p x)) xs) ≡ list_all p xs
is_none-position {X} p xs = not_some (position (λ x. not (p x)) xs) ∙ ap not (is_some-position (λ x. not (p x)) xs) ∙ none xs
  where
    not_some : (o : Option ℕ) → is_none o ≡ not (is_some o)
    not_some None = refl
    not_some (Some n) = refl

    of_both : (b rest all : Bool) → not rest ≡ all → not (not b || rest) ≡ (b && all)
    of_both true rest all e = e
    of_both false rest all e = refl

    none : (xs : List X) → not (list_any (λ x. not (p x)) xs) ≡ list_all p xs
    none [] = refl
    none (x ∷ xs) = of_both (p x) (list_any (λ x. not (p x)) xs) (list_all p xs) (none xs)

-- there is a number for one frame more
numbered : (n m : ℕ) → n ≡ m → nat_lt (m + 1) (2 ^ 32) ≡ is_none (full_refusal n)
numbered n m same = by (nat_le (2 ^ 32 - 1) n) refl
  where
    by : (b : Bool) → nat_le (2 ^ 32 - 1) n ≡ b → nat_lt (m + 1) (2 ^ 32) ≡ is_none (if b then Some faults.HistoryFull else None)
    by true e = le-ltb (m + 1) (2 ^ 32) (omega (arith, leb-true (2 ^ 32 - 1) n e, same))
    by false e = lt-ltb (m + 1) (2 ^ 32) (omega (arith, leb-false (2 ^ 32 - 1) n e, same))

-- Updates.

module _ (f : KeyedFn) (key : List ℕ) where
  number_is : (es : Epochs) → next_number (begins es) (last_run es).setup (last_run es).later ≡ frames_in (Some es)
  number_is es = omega arith

  -- a document
  pub accepts-add : (es : Epochs) (d : Document) → accepts f key (Some es) (Adds d) ≡ is_none (add_fault f (λ epoch. key_now key es) (begins es) (last_run es) d)
  accepts-add es d =
      let s = (last_run es).setup in
      let past = (last_run es).later in
      let facts = facts_of s past in
      let n = next_number (begins es) s past in
      let collision = collision_of (table_at f (key_now key es) (last_run es)) (begins es).epoch s past (Add d) in
      let room = has_counters facts d in
      let full = full_refusal n in
      let live = is_some (facts.live d.id) in
      (λ i. (accepted-add s past d i && numbered n (frames_in (Some es)) (number_is es) i) && is_none-alone collision i)
      ∙ ap (λ b. b && is_none collision) (and-assoc (not live) room (is_none full) ∙ sym (refused facts n))
      ∙ ap (λ b. is_none (refusal_to_add facts n d) && b) (sym (is_none-map clash_fault collision))
      ∙ sym (is_none-or (refusal_to_add facts n d) (option_map clash_fault collision))
    where
      by : (live : Bool) (counters full : Option CommandFault) (fault : CommandFault) → is_none (if live then Some fault else option_or counters full) ≡ (not live && (is_none counters && is_none full))
      by true counters full fault = refl
      by false counters full fault = is_none-or counters full

      refused : (facts : Facts) (n : ℕ) → is_none (refusal_to_add facts n d) ≡ (not (is_some (facts.live d.id)) && (has_counters facts d && is_none (full_refusal n)))
      refused facts n =
          let first = position (λ word. not (has_counter facts d.id word)) d.words in
          by (is_some (facts.live d.id)) (option_map (λ p. faults.CounterFull p) first) (full_refusal n) (faults.AlreadyLive d.id)
          ∙ ap (λ b. not (is_some (facts.live d.id)) && (b && is_none (full_refusal n))) (is_none-map (λ p. faults.CounterFull p) first ∙ is_none-position (has_counter facts d.id) d.words)

  -- a deletion
  pub accepts-delete : (es : Epochs) (id : ℕ) → accepts f key (Some es) (Deletes id) ≡ is_none (delete_fault f (λ epoch. key_now key es) (begins es) (last_run es) id)
  accepts-delete es id =
      let s = (last_run es).setup in
      let past = (last_run es).later in
      let facts = facts_of s past in
      let n = next_number (begins es) s past in
      let collision = collision_of (table_at f (key_now key es) (last_run es)) (begins es).epoch s past (Delete id) in
      (λ i. (accepted-delete s past id i && numbered n (frames_in (Some es)) (number_is es) i) && is_none-alone collision i)
      ∙ ap (λ b. b && is_none collision) (sym (by (is_some (facts.live id)) (full_refusal n)))
      ∙ ap (λ b. is_none (refusal_to_delete facts n id) && b) (sym (is_none-map clash_fault collision))
      ∙ sym (is_none-or (refusal_to_delete facts n id) (option_map clash_fault collision))
    where
      by : (live : Bool) (full : Option CommandFault) → is_none (if live then full else Some (faults.UnknownDocument id)) ≡ (live && is_none full)
      by true full = refl
      by false full = refl

  -- a renewal of the key
  pub accepts-renewal : (es : Epochs) (own : List ℕ) → accepts f key (Some es) (Renews own) ≡ is_none (renewal_fault f own (marks_of (mark_of f key) (as_recorded (mark_of f) es)) (begins es) (last_run es))
  accepts-renewal es own =
      let refusal = renewal_refusal (marks_of (mark_of f key) (as_recorded (mark_of f) es)) (mark_of f own) (next_begins es).frame (setup_renewed (last_run es)) in
      let collision = collision_of_renewal f own (Some es) in
      ap (λ b. is_none refusal && b) (sym (is_none-map renewal_clash collision)) ∙ sym (is_none-or refusal (option_map renewal_clash collision))

  -- a setup
  pub accepts-setup : (s : Setup) → accepts f key None (SetsUp s) ≡ is_none (build_refusal f key s)
  accepts-setup s =
      ap (λ b. is_none (size_refusal s) && b) (clashes (label_clash f key s) (place_clash f key s))
      ∙ ap (λ b. b && is_none (clash_refusal f key s)) (sym (is_none-map refused_by_size (size_refusal s)))
      ∙ sym (is_none-or (option_map refused_by_size (size_refusal s)) (clash_refusal f key s))
    where
      clashes : (labels places : Option (ℕ × ℕ))
          → is_none (option_or (option_map (λ two. Labels two.0 two.1) labels) (option_map (λ two. Places two.0 two.1) places))
          ≡ is_none (option_or (option_map (λ entries. builds.LabelClash entries.0 entries.1) labels) (option_map (λ blocks. builds.PlaceClash blocks.0 blocks.1) places))
      clashes (Some two) places = refl
      clashes None (Some two) = refl
      clashes None None = refl
