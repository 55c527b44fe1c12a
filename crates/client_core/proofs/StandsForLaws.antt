-- A client that stands for a history still does after its registry has numbered more words, and after a command.
use Rattle.std.proofs.Common.{◌≡◌, ◌≢◌, ◌<◌, ◌+◌, ◌-◌, ◌^◌, ℕ, Bool, true, false, not, ◌&&◌, List, [], ◌∷◌, ◌++◌, Option, None, Some, is_some, filter, length, map, take, get_or, refl, sym, ap, ◌∙◌, subst, arith, Ok, Err}
use Rattle.std.specs.Prelude.{IfErr, Result, if◌then◌else◌, IfSome, nat_le, option_map, position, slice_index_or, unwrap_or}
use Rattle.std.specs.Option.{option_or}
use Rattle.std.specs.Result.{result_err}
use Rattle.std.proofs.lemmas.Bool.{leb-false}
use Rattle.std.proofs.lemmas.List.{get_or-take, length-take}
use Rattle.std.proofs.lemmas.Simd.{map-map}
use Rattle.client_registry.proofs.FactsLaws.{accepted-add, accepted-delete}
use Rattle.client_registry.proofs.HistoryLaws.{IsKept-longer}
use Rattle.client_registry.proofs.OrderLaws.{AreApart-from_IsDistinct}
use Rattle.client_registry.proofs.Positions.{all_pass}
use Rattle.client_registry.proofs.ShownLaws.{live_apart}
use Rattle.client_registry.proofs.SizedLaws.{update_frames-push}
use Rattle.client_registry.specs.Collected.{Collected}
use Rattle.client_registry.specs.Command.{Add, Delete, is_update}
use Rattle.client_registry.specs.Document.{Document}
use Rattle.client_registry.specs.Facts.{Facts, facts_of, has_counter, has_counters}
use Rattle.client_registry.specs.Histories.{IsKept}
use Rattle.client_registry.specs.IdNumber.{id_number}
use Rattle.client_registry.specs.Live.{live}
use Rattle.client_registry.specs.Registered.{Registered, Represents, facts, known_words}
use Rattle.client_registry.specs.Run.{From, Offsets, Run}
use Rattle.client_registry.specs.Sized.{IsSizedCommand, is_accepted}
use Rattle.client_renewal.specs.declared.past.Past.{Past}
use Rattle.index_setup.specs.declared.index.Index.{Index}
use Rattle.keyed_fn.specs.KeyedFn.{KeyedFn}
use Rattle.keyed_fn.specs.KeyFormulas.{part_key}
use Rattle.sse_frames.specs.Frames.{AddFrame, be64}
use Rattle.sse_frames.specs.Order.{by_bytes}
use Rattle.sse_model.specs.Compared.{Collision, Labels, Places, Numbers, equal_among}
use Rattle.sse_model.specs.Names.{name, PlusLabel, PlusPad, Revocation, table}
use Rattle.sse_model.specs.Positions.{fresh_words, sealed}
use Rattle.sse_model.specs.Wire.{next_number, words_live}
use Rattle.word_keys.specs.KeyPair.{plus_keys}
use Rattle.sse_model.proofs.LiveWords.{words_live-apart}
use Rattle.client_core.specs.Keys.{Keeps, WordKeys}
use Rattle.client_core.specs.PlanView.{setup_in}
use Rattle.client_core.specs.StandsFor.{Fits, IsPastOf, StandsFor, add_fault, add_refusal, collision_next, comes_of_add, comes_of_delete, delete_fault, delete_refusal, frames_next, full_refusal, refusal_to_add, refusal_to_delete, with_command}
use Rattle.client_core.specs.States.{ReadyState}
use Rattle.client_core.specs.UpdateFaults.{clash_fault}
use Rattle.client_core.specs.Updates.{command_of_update}
use Rattle.client_core.specs.UpdateTexts.{add_collision, add_text, delete_collision, delete_text, numbers_added}
use Rattle.client_core.specs.declared.command_fault.CommandFault.{CommandFault}
use Rattle.client_core.specs.declared.command_fault.CommandFault.TheVariants as faults
use Rattle.client_core.specs.declared.update.Update.{Update}
use Rattle.client_core.specs.declared.update.Update.TheVariants as updates

-- Keys.

-- words that had a number keep it, so the keys that are kept are still theirs
pub Keeps-more : (f : KeyedFn) (master : List ℕ) (old new : List (List ℕ)) (keys : WordKeys) → take (length old) new ≡ old → Keeps f master old keys → Keeps f master new keys
Keeps-more f master old new keys same had = record {
  plus = λ n pair is.
      let here = had.plus n pair is in
      (within n here.0, here.1 ∙ ap (plus_keys f master) (word n here.0));
  revocations = λ n key is.
      let here = had.revocations n key is in
      (within n here.0, here.1 ∙ ap (part_key f master 5) (word n here.0));
}
  where
    within : (n : ℕ) → n < length old → n < length new
    within n lt = omega (arith, lt, ap length same, length-take (length old) new)

    word : (n : ℕ) → n < length old → slice_index_or old n [] ≡ slice_index_or new n []
    word n lt = ap (λ ws. get_or ws n []) (sym same) ∙ get_or-take (length old) new n [] lt

-- Refusals.

-- nothing was refused
pub not_refused : {X : Type 0} (P : X → Type 0) (o : Option X) → o ≡ None → IfSome o P
not_refused P o none = subst (λ x. IfSome x P) (sym none) tt

pub is_refused : {X : Type 0} (P : X → Type 0) (o : Option X) (x : X) → o ≡ Some x → P x → IfSome o P
is_refused P o x some p = subst (λ y. IfSome y P) (sym some) p

-- a document that isn't live is refused for a counter, else for want of a number
pub refused_new : (x : Facts) (n id : ℕ) (d : Document) (o : Option ℕ) → id ≡ d.id → is_some (x.live id) ≡ false → position (λ word. not (has_counter x d.id word)) d.words ≡ o
    → refusal_to_add x n d ≡ option_or (option_map (λ p. faults.CounterFull p) o) (full_refusal n)
refused_new x n id d o same dead is =
    ap (λ b. if b then Some (faults.AlreadyLive d.id) else option_or (option_map (λ p. faults.CounterFull p) (position (λ word. not (has_counter x d.id word)) d.words)) (full_refusal n))
    (ap (λ k. is_some (x.live k)) (sym same) ∙ dead)
    ∙ ap (λ p. option_or (option_map (λ p. faults.CounterFull p) p) (full_refusal n)) is

not_full : (n : ℕ) → full_refusal n ≡ None → n + 1 < 2 ^ 32
not_full n none = by (nat_le (2 ^ 32 - 1) n) refl none
  where
    by : (b : Bool) → nat_le (2 ^ 32 - 1) n ≡ b → (if b then Some faults.HistoryFull else None) ≡ None → n + 1 < 2 ^ 32
    by true is h = absurd (cc)
    by false is h = omega (arith, leb-false _ _ is)

-- what is so of an addition that nothing refuses, and of a deletion
pub record IsFree (x : Facts) (n : ℕ) (d : Document) : Type 0 where
  pub new : x.live d.id ≡ None
  pub counters : has_counters x d ≡ true
  pub number : n + 1 < 2 ^ 32

pub IsFree-accepted : (x : Facts) (n : ℕ) (d : Document) → refusal_to_add x n d ≡ None → IsFree x n d
IsFree-accepted x n d none = by (x.live d.id) refl none
  where
    rest : (o : Option ℕ) → position (λ word. not (has_counter x d.id word)) d.words ≡ o → x.live d.id ≡ None → option_or (option_map (λ p. faults.CounterFull p) o) (full_refusal n) ≡ None → IsFree x n d
    rest None is new h = record { new = new; counters = all_pass (has_counter x d.id) d.words is; number = not_full n h }
    rest (Some p) is new h = absurd (cc)

    by : (o : Option (List (List ℕ))) → x.live d.id ≡ o
        → (if is_some o then Some (faults.AlreadyLive d.id) else option_or (option_map (λ p. faults.CounterFull p) (position (λ word. not (has_counter x d.id word)) d.words)) (full_refusal n)) ≡ None → IsFree x n d
    by (Some words) is h = absurd (cc)
    by None is h = rest (position (λ word. not (has_counter x d.id word)) d.words) refl is h

-- Which faults can come.

add_faults : (f : KeyedFn) (keys : ℕ → List ℕ) (o : Offsets) (run : Run) (d : Document) → IfSome (add_fault f keys o run d) (λ x. comes_of_add x ≡ true)
add_faults f keys o run d =
    by ((facts_of run.setup run.later).live d.id) (position (λ word. not (has_counter (facts_of run.setup run.later) d.id word)) d.words) (nat_le (2 ^ 32 - 1) (next_number o run.setup run.later)) (collision_next f keys o run (Add d))
  where
    by : (o : Option (List (List ℕ))) (p : Option ℕ) (b : Bool) (clash : Option Collision)
        → IfSome (option_or (if is_some o then Some (faults.AlreadyLive d.id) else option_or (option_map (λ p. faults.CounterFull p) p) (if b then Some faults.HistoryFull else None)) (option_map clash_fault clash)) (λ x. comes_of_add x ≡ true)
    by (Some words) p b clash = refl
    by None (Some p) b clash = refl
    by None None true clash = refl
    by None None false None = tt
    by None None false (Some (Labels i j)) = refl
    by None None false (Some (Places i j)) = refl
    by None None false (Some (Numbers i j)) = refl

delete_faults : (f : KeyedFn) (keys : ℕ → List ℕ) (o : Offsets) (run : Run) (id : ℕ) → IfSome (delete_fault f keys o run id) (λ x. comes_of_delete x ≡ true)
delete_faults f keys o run id =
    by ((facts_of run.setup run.later).live id) (nat_le (2 ^ 32 - 1) (next_number o run.setup run.later))
    (equal_among (λ word. true) (λ word. table f run.setup.shape keys (name o.epoch word Revocation id)) (words_live (live run.setup.documents run.later) id))
  where
    by : (o : Option (List (List ℕ))) (b : Bool) (two : Option (ℕ × ℕ))
        → IfSome (option_or (if is_some o then (if b then Some faults.HistoryFull else None) else Some (faults.UnknownDocument id)) (option_map clash_fault (option_map (λ places. Numbers places.0 places.1) two))) (λ x. comes_of_delete x ≡ true)
    by None b two = refl
    by (Some words) true two = refl
    by (Some words) false None = tt
    by (Some words) false (Some places) = refl

only_by : {X : Type 0} (p : CommandFault → Bool) (r : Result X CommandFault) (o : Option CommandFault) → p faults.NoMemory ≡ true → (r ≢ Err faults.NoMemory → result_err r ≡ o)
    → IfSome o (λ x. p x ≡ true) → IfErr r (λ x. p x ≡ true)
only_by p (Ok v) o memory is all = tt
only_by {X} p (Err e) o memory is all = by e is
  where
    told : (x : CommandFault) → Some x ≡ o → p x ≡ true
    told x same = subst (λ y. IfSome y (λ z. p z ≡ true)) (sym same) all

    by : (x : CommandFault) → (◌≢◌ {A = Result X CommandFault} (Err x) (Err faults.NoMemory) → Some x ≡ o) → p x ≡ true
    by (faults.AlreadyLive id) h = told _ (h (λ w. cc))
    by (faults.UnknownDocument id) h = told _ (h (λ w. cc))
    by (faults.CounterFull place) h = told _ (h (λ w. cc))
    by faults.HistoryFull h = told _ (h (λ w. cc))
    by (faults.LabelClash first second) h = told _ (h (λ w. cc))
    by (faults.NumberClash first second) h = told _ (h (λ w. cc))
    by faults.NoMemory h = memory

pub only_add : {X : Type 0} (f : KeyedFn) (keys : ℕ → List ℕ) (o : Offsets) (run : Run) (d : Document) (r : Result X CommandFault)
    → (r ≢ Err faults.NoMemory → result_err r ≡ add_fault f keys o run d) → IfErr r (λ x. comes_of_add x ≡ true)
only_add f keys o run d r is = only_by comes_of_add r (add_fault f keys o run d) refl is (add_faults f keys o run d)

pub only_delete : {X : Type 0} (f : KeyedFn) (keys : ℕ → List ℕ) (o : Offsets) (run : Run) (id : ℕ) (r : Result X CommandFault)
    → (r ≢ Err faults.NoMemory → result_err r ≡ delete_fault f keys o run id) → IfErr r (λ x. comes_of_delete x ≡ true)
only_delete f keys o run id r is = only_by comes_of_delete r (delete_fault f keys o run id) refl is (delete_faults f keys o run id)

-- A plan.

module _ (o : Offsets) (run : Run) (state : ReadyState) (registry : Represents state.registry run.setup run.later) (number : state.frames ≡ next_number o run.setup run.later) where
  pub refusal_is : (d : Document) → refusal_to_add (facts state.registry) state.frames d ≡ add_refusal o run d
  refusal_is d = ap (λ x. refusal_to_add x state.frames d) registry ∙ ap (λ n. refusal_to_add (facts_of run.setup run.later) n d) number

  pub refusal_is-delete : (id : ℕ) → refusal_to_delete (facts state.registry) state.frames id ≡ delete_refusal o run id
  refusal_is-delete id = ap (λ x. refusal_to_delete x state.frames id) registry ∙ ap (λ n. refusal_to_delete (facts_of run.setup run.later) n id) number

-- what a client plans that stands for a history, under the key of the epoch
module _ (f : KeyedFn) (keys : ℕ → List ℕ) (o : Offsets) (run : Run) (key : List ℕ) (under : keys o.epoch ≡ key) (state : ReadyState) (s : StandsFor f keys o run state) where
  pub keeps : Keeps f key (known_words state.registry) state.keys
  keeps = subst (λ k. Keeps f k (known_words state.registry) state.keys) under s.word_keys

  module _ (d : Document) where
    pub refusal : refusal_to_add (facts state.registry) state.frames d ≡ add_refusal o run d
    refusal = refusal_is o run state s.registry s.number d

    pub collision_is : option_map clash_fault (add_collision f key (facts state.registry) d) ≡ option_map clash_fault (collision_next f keys o run (Add d))
    collision_is =
        ap (λ x. option_map clash_fault (add_collision f key x d)) s.registry
        ∙ ap (λ k. option_map clash_fault (add_collision f k (facts_of run.setup run.later) d)) (sym under)

    pub fault_is : (x : Option CommandFault) → refusal_to_add (facts state.registry) state.frames d ≡ None → x ≡ option_map clash_fault (add_collision f key (facts state.registry) d) → x ≡ add_fault f keys o run d
    fault_is x none is = is ∙ collision_is ∙ ap (λ r. option_or r (option_map clash_fault (collision_next f keys o run (Add d)))) (sym none ∙ refusal)

    pub fault_refused : (x : CommandFault) → refusal_to_add (facts state.registry) state.frames d ≡ Some x → Some x ≡ add_fault f keys o run d
    fault_refused x is = ap (λ r. option_or r (option_map clash_fault (collision_next f keys o run (Add d)))) (sym is ∙ refusal)

    pub frames_are : add_text f key (facts state.registry) state.frames d ∷ [] ≡ frames_next f keys o run (Add d)
    frames_are =
        ap (λ x. add_text f key x state.frames d ∷ []) s.registry
        ∙ ap (λ n. add_text f key (facts_of run.setup run.later) n d ∷ []) s.number
        ∙ ap (λ k. add_text f k (facts_of run.setup run.later) (next_number o run.setup run.later) d ∷ []) (sym under)
        ∙ ap (λ es. AddFrame (next_number o run.setup run.later) (by_bytes (λ entry. entry.label) es) (by_bytes (λ number. number) (numbers_added f (keys o.epoch) (facts_of run.setup run.later) d)) ∷ [])
        (sym (map-map (sealed (table f run.setup.shape keys) []) (λ word. record {
          label = name o.epoch word PlusLabel ((facts_of run.setup run.later).counter word);
          pad = name o.epoch word PlusPad ((facts_of run.setup run.later).counter word);
          clear = λ ranks. be64 d.id;
        }) (fresh_words run.setup run.later d)))

  module _ (id : ℕ) where
    pub refusal-delete : refusal_to_delete (facts state.registry) state.frames id ≡ delete_refusal o run id
    refusal-delete = refusal_is-delete o run state s.registry s.number id

    live_words : unwrap_or ((facts state.registry).live id) [] ≡ words_live (live run.setup.documents run.later) id
    live_words =
        ap (λ x. unwrap_or (x.live id) []) s.registry
        ∙ sym (words_live-apart (live run.setup.documents run.later) id
        (live_apart run.setup (AreApart-from_IsDistinct (map (λ (d : Document). d.id) run.setup.documents) s.kept.0.collected.different) run.later s.kept.0.accepted))

    pub collision_is-delete : option_map clash_fault (delete_collision f key id (unwrap_or ((facts state.registry).live id) [])) ≡ option_map clash_fault (collision_next f keys o run (Delete id))
    collision_is-delete =
        ap (λ words. option_map clash_fault (delete_collision f key id words)) live_words
        ∙ ap (λ k. option_map clash_fault (delete_collision f k id (words_live (live run.setup.documents run.later) id))) (sym under)

    pub fault_is-delete : (x : Option CommandFault) → refusal_to_delete (facts state.registry) state.frames id ≡ None
        → x ≡ option_map clash_fault (delete_collision f key id (unwrap_or ((facts state.registry).live id) [])) → x ≡ delete_fault f keys o run id
    fault_is-delete x none is =
        is
        ∙ collision_is-delete
        ∙ ap (λ r. option_or r (option_map clash_fault (collision_next f keys o run (Delete id)))) (sym none ∙ refusal-delete)

    pub fault_refused-delete : (x : CommandFault) → refusal_to_delete (facts state.registry) state.frames id ≡ Some x → Some x ≡ delete_fault f keys o run id
    fault_refused-delete x is = ap (λ r. option_or r (option_map clash_fault (collision_next f keys o run (Delete id)))) (sym is ∙ refusal-delete)

    pub frames_are-delete : delete_text f key state.frames id (unwrap_or ((facts state.registry).live id) []) ∷ [] ≡ frames_next f keys o run (Delete id)
    frames_are-delete =
        ap (λ n. delete_text f key n id (unwrap_or ((facts state.registry).live id) []) ∷ []) s.number
        ∙ ap (λ words. delete_text f key (next_number o run.setup run.later) id words ∷ []) live_words
        ∙ ap (λ k. delete_text f k (next_number o run.setup run.later) id (words_live (live run.setup.documents run.later) id) ∷ []) (sym under)

-- A plan taken as done.

-- a run of the same setup has the same parameters
pub same_past : (old new : Past) (run next : Run) → new ≡ old → next.setup ≡ run.setup → IsPastOf old run → IsPastOf new next
same_past old new run next same setup of = record {
  shape = ap (λ s. s.shape) setup ∙ of.shape ∙ ap (λ (p : Past). record { b = p.b; big = p.big }) (sym same);
  pad = ap (λ s. s.pad) setup ∙ of.pad ∙ ap (λ (p : Past). p.pad) (sym same);
}

-- a history that a registry stands for keeps all limits with one command more that fits
kept_next : (r : Registered) (n : ℕ) (o : Offsets) (run : Run) (u : Update) (numbers : List ℕ) → IsKept (Some (From o run)) → Represents r run.setup run.later → n ≡ next_number o run.setup run.later
    → n + 1 < 2 ^ 32 → IsSizedCommand (command_of_update u) → Fits r u numbers → IsKept (Some (From o (with_command run (command_of_update u))))
kept_next r n o run (updates.Add d) numbers kept is number within sized fits =
    IsKept-longer (Some (From o run)) (Add d) kept sized accepted (omega (arith, number, within))
  where
    accepted : is_accepted run.setup run.later (Add d) ≡ true
    accepted =
        accepted-add run.setup run.later d
        ∙ ap (λ x. not (is_some (x.live d.id)) && has_counters x d) (sym is)
        ∙ ap (λ o. not (is_some o) && has_counters (facts r) d) fits.0
        ∙ fits.1
kept_next r n o run (updates.Delete id) numbers kept is number within sized fits =
    IsKept-longer (Some (From o run)) (Delete (id_number id)) kept sized accepted (omega (arith, number, within))
  where
    accepted : is_accepted run.setup run.later (Delete (id_number id)) ≡ true
    accepted = accepted-delete run.setup run.later (id_number id) ∙ ap (λ x. is_some (x.live (id_number id))) (sym is) ∙ fits

-- what is taken over of an index is that of its setup
pub index_past : (past : Past) (index : Index) (docs : Collected) → past.b ≡ index.b → past.big ≡ index.big → past.pad ≡ index.pad → IsPastOf past (record { setup = setup_in index docs; later = [] })
index_past past index docs b big pad = record { shape = λ i. record { b = sym b i; big = sym big i }; pad = sym pad }

pub one_update : (u : Update) → length (filter is_update (command_of_update u ∷ [])) ≡ 1
one_update (updates.Add d) = refl
one_update (updates.Delete id) = refl

pub StandsFor-committed : (f : KeyedFn) (keys : ℕ → List ℕ) (o : Offsets) (run : Run) (u : Update) (numbers : List ℕ) (old new : ReadyState) → old.frames + 1 < 2 ^ 32 → IsSizedCommand (command_of_update u) → Fits old.registry u numbers
    → (Represents old.registry run.setup run.later → Represents new.registry run.setup (run.later ++ command_of_update u ∷ []))
    → take (length (known_words old.registry)) (known_words new.registry) ≡ known_words old.registry
    → new.keys ≡ old.keys → new.frames ≡ old.frames + 1 → new.past ≡ old.past → StandsFor f keys o run old → StandsFor f keys o (with_command run (command_of_update u)) new
StandsFor-committed f keys o run u numbers old new within sized fits history words kept frames taken s = record {
  kept = kept_next old.registry old.frames o run u numbers s.kept s.registry s.number within sized fits;
  registry = history s.registry;
  number = omega (arith, frames, s.number, update_frames-push run (command_of_update u), one_update u);
  word_keys = subst (Keeps f (keys o.epoch) (known_words new.registry)) (sym kept) (Keeps-more f (keys o.epoch) (known_words old.registry) (known_words new.registry) old.keys words s.word_keys);
  past = same_past old.past new.past run (with_command run (command_of_update u)) taken refl s.past;
}
