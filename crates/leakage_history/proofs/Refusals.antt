-- What is accepted after a history, by the facts of it, and what is so of the commands that were.
use Rattle.std.proofs.Common.{◌≡◌, ℕ, suc, ◌-◌, ◌^◌, Bool, cond, true, false, not, ◌&&◌, ◌||◌, List, [], ◌∷◌, ◌++◌, length, Option, None, Some, is_some, nat_lt, position, refl, sym, ap, ◌∙◌}
use Rattle.std.specs.Prelude.{option_map, if◌then◌else◌}
use Rattle.std.specs.List.{list_all, list_any}
use Rattle.std.proofs.lemmas.Bool.{and_from, and_parts}
use Rattle.std.proofs.lemmas.List.{append-nil}
use Rattle.std.proofs.lemmas.List.Elements.{All-nil, All-push}
use Rattle.std.proofs.lemmas.List.Folds.{list_all-append, list_any-append}
use Rattle.client_registry.proofs.FactsLaws.{accepted-add, accepted-delete, is_some-words_with_id}
use Rattle.client_registry.proofs.LiveLaws.{added_list-push, live-push}
use Rattle.client_registry.proofs.OverLaws.{over-append}
use Rattle.client_registry.proofs.Positions.{all_pass, position-cons}
use Rattle.client_registry.specs.Acceptance.{size_refusal}
use Rattle.client_registry.specs.Command.{Command, Add, Delete, Search}
use Rattle.client_registry.specs.Document.{Document}
use Rattle.client_registry.specs.Documents.{is_live, IsCollected}
use Rattle.client_registry.specs.Facts.{facts_of, has_counter, has_counters, words_with_id}
use Rattle.client_registry.specs.Live.{added_list, adds_pair, counter, holds_pair, is_listed, live}
use Rattle.client_registry.specs.Over.{over}
use Rattle.client_registry.specs.Registered.{Registered, Represents, facts}
use Rattle.client_registry.specs.Run.{Run}
use Rattle.client_registry.specs.Setup.{Setup}
use Rattle.client_registry.specs.Sized.{IsHistory, IsSizedCommand, is_accepted}
use Rattle.leakage_history.specs.Refusal.{AreAccepted, full_position, is_accepted_by, push_refusal}
use Rattle.leakage_history.specs.declared.fault.HistoryFault.TheVariants.{AlreadyLive, UnknownDocument, CounterFull}

-- A registry that represents the history tells what is accepted after it, and why a command isn't.
module _ (r : Registered) (run : Run) (stands : Represents r run.setup run.later) where
  pub accepted_by : (c : Command) → is_accepted_by (facts r) c ≡ is_accepted run.setup run.later c
  accepted_by (Add d) = ap (λ f. not (is_some (f.live d.id)) && has_counters f d) stands ∙ sym (accepted-add run.setup run.later d)
  accepted_by (Delete id) = ap (λ f. is_some (f.live id)) stands ∙ sym (accepted-delete run.setup run.later id)
  accepted_by (Search word) = refl

  pub push_refusal-add : (d : Document)
      → push_refusal run (Add d) ≡ (if is_some ((facts r).live d.id) then Some (AlreadyLive d.id) else option_map (λ p. CounterFull p) (position (λ word. not (has_counter (facts r) d.id word)) d.words))
  push_refusal-add d =
      ap (λ b. if b then Some (AlreadyLive d.id) else option_map (λ p. CounterFull p) (full_position run d)) (sym (is_some-words_with_id (live run.setup.documents run.later) d.id))
      ∙ ap (λ f. if is_some (f.live d.id) then Some (AlreadyLive d.id) else option_map (λ p. CounterFull p) (position (λ word. not (has_counter f d.id word)) d.words)) (sym stands)

  pub push_refusal-delete : (id : ℕ) → push_refusal run (Delete id) ≡ (if is_some ((facts r).live id) then None else Some (UnknownDocument id))
  push_refusal-delete id =
      ap (λ b. if b then None else Some (UnknownDocument id)) (sym (is_some-words_with_id (live run.setup.documents run.later) id))
      ∙ ap (λ f. if is_some (f.live id) then None else Some (UnknownDocument id)) (sym stands)

-- behind a setup alone an addition is refused for a live document only, since each word has all of its counter left
pub first-add : (run : Run) (d : Document) → run.later ≡ [] → is_live run.setup.documents d.id ≡ false → push_refusal run (Add d) ≡ None
first-add run d none free =
    ap (λ later. push_refusal (record { setup = run.setup; later = later }) (Add d)) none
    ∙ ap (λ b. if b then Some (AlreadyLive d.id) else option_map (λ p. CounterFull p) (position full d.words)) free
    ∙ ap (option_map (λ p. CounterFull p)) (none_full d.words)
  where
    full : List ℕ → Bool
    full word = not (is_listed run.setup [] word d.id || nat_lt (counter run.setup [] word) (2 ^ 32 - 1))

    left : (b : Bool) → not (b || true) ≡ false
    left true = refl
    left false = refl

    none_full : (words : List (List ℕ)) → position full words ≡ None
    none_full [] = refl
    none_full (word ∷ words) =
        position-cons full word words
        ∙ ap (λ b. cond b (Some 0) (option_map (λ n. suc n) (position full words))) (left (is_listed run.setup [] word d.id))
        ∙ ap (option_map (λ n. suc n)) (none_full words)

-- what nothing refuses is accepted
pub no_refusal : (run : Run) (c : Command) → push_refusal run c ≡ None → is_accepted run.setup run.later c ≡ true
no_refusal run (Add d) none = by (is_live (live run.setup.documents run.later) d.id) (full_position run d) refl none
  where
    has : List ℕ → Bool
    has word = is_listed run.setup run.later word d.id || nat_lt (counter run.setup run.later word) (2 ^ 32 - 1)

    by : (b : Bool) (o : Option ℕ) → position (λ word. not (has word)) d.words ≡ o → (if b then Some (AlreadyLive d.id) else option_map (λ p. CounterFull p) o) ≡ None → (not b && list_all has d.words) ≡ true
    by true o e h = absurd (cc)
    by false None e h = all_pass has d.words e
    by false (Some p) e h = absurd (cc)
no_refusal run (Delete id) none = by (is_live (live run.setup.documents run.later) id) none
  where
    by : (b : Bool) → (if b then None else Some (UnknownDocument id)) ≡ None → b ≡ true
    by true h = refl
    by false h = absurd (cc)
no_refusal run (Search word) none = refl

-- The commands that were accepted.

-- none
pub AreAccepted-setup : (s : Setup) → IsCollected s.documents → AreAccepted (record { setup = s; later = [] })
AreAccepted-setup s collected = record { collected = collected; each = All-nil IsSizedCommand; accepted = refl }

-- one more
pub AreAccepted-push : (run : Run) (c : Command) → AreAccepted run → IsSizedCommand c → is_accepted run.setup run.later c ≡ true → AreAccepted (record { setup = run.setup; later = run.later ++ c ∷ [] })
AreAccepted-push run c was one ok = record {
  collected = was.collected;
  each = All-push IsSizedCommand run.later c was.each one;
  accepted =
      ap (list_all (λ accepted. accepted)) (over-append (is_accepted run.setup) [] run.later (c ∷ []))
      ∙ list_all-append (λ accepted. accepted) (over (is_accepted run.setup) [] run.later) (is_accepted run.setup run.later c ∷ [])
      ∙ and_from (list_all (λ accepted. accepted) (over (is_accepted run.setup) [] run.later)) (is_accepted run.setup run.later c && true) was.accepted (ap (λ b. b && true) ok);
}

-- each of them after those before it
pub accepted_after : (s : Setup) (front : List Command) (c : Command) (rest : List Command) → list_all (λ accepted. accepted) (over (is_accepted s) [] (front ++ c ∷ rest)) ≡ true → is_accepted s front c ≡ true
accepted_after s front c rest all =
    let each : List Command → List Command → Bool = λ past xs. list_all (λ accepted. accepted) (over (is_accepted s) past xs) in
    let parts =
    and_parts (each [] front) (each front (c ∷ rest))
    (sym (ap (list_all (λ accepted. accepted)) (over-append (is_accepted s) [] front (c ∷ rest)) ∙ list_all-append (λ accepted. accepted) (over (is_accepted s) [] front) (over (is_accepted s) front (c ∷ rest))) ∙ all) in
    (and_parts (is_accepted s front c) (each (front ++ c ∷ []) rest) parts.1).0

-- with a setup that is accepted they are a history
pub IsHistory-accepted : (run : Run) → AreAccepted run → size_refusal run.setup ≡ None → IsHistory run
IsHistory-accepted run were sized = record { collected = were.collected; setup = sized; each = were.each; accepted = were.accepted }

-- A search changes no fact.
pub facts-search : (s : Setup) (past : List Command) (word : List ℕ) → facts_of s past ≡ facts_of s (past ++ Search word ∷ [])
facts-search s past word = λ i. record {
  live = λ id. ap (λ docs. words_with_id docs id) (sym (live-push s.documents past (Search word))) i;
  listed = λ other id. (ap (λ b. holds_pair s.documents other id || b) (none (list_any (adds_pair other id) past) ∙ sym (list_any-append (adds_pair other id) past (Search word ∷ [])))) i;
  counter = λ other. (sym (ap length (added_list-push s past (Search word) other ∙ append-nil (added_list s past other)))) i;
}
  where
    none : (b : Bool) → b ≡ (b || (false || false))
    none true = refl
    none false = refl
