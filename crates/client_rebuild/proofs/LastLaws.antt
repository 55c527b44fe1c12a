-- What the last record taken tells of its epoch.
use Rattle.std.proofs.Common.{◌≡◌, ℕ, ◌+◌, ◌-◌, ◌^◌, ◌<◌, ◌≤◌, Bool, true, false, not, ◌&&◌, ◌||◌, nat_lt, List, [], ◌∷◌, ◌++◌, Option, None, Some, is_some, refl, sym, ap, ◌∙◌, arith}
use Rattle.std.specs.Prelude.{if◌then◌else◌}
use Rattle.std.specs.List.{list_all}
use Rattle.std.specs.Option.{option_or}
use Rattle.std.proofs.lemmas.Bool.{and_from, and_parts, lt-ltb, ltb-true, true≢false}
use Rattle.client_registry.proofs.FactsLaws.{accepted-add, accepted-delete, facts-add, facts-delete}
use Rattle.client_registry.proofs.LiveLaws.{counter-below}
use Rattle.client_registry.proofs.SizedLaws.{update_frames-push}
use Rattle.client_registry.specs.Acceptance.{bytes_refusal, list_refusal, parameter_refusal, size_refusal}
use Rattle.client_registry.specs.Command.{Command, Add, Delete, Search}
use Rattle.client_registry.specs.Document.{Document}
use Rattle.client_registry.specs.Documents.{has_word}
use Rattle.client_registry.specs.Facts.{Facts, facts_of, facts_after, has_counter, has_counters}
use Rattle.client_registry.specs.Registered.{facts}
use Rattle.client_registry.specs.Run.{Offsets, Run}
use Rattle.client_registry.specs.Setup.{Setup}
use Rattle.client_registry.specs.declared.faults.SizeFault.{SizeFault}
use Rattle.client_registry.specs.Sized.{is_accepted, update_frames}
use Rattle.client_rebuild.specs.Recalls.{IsFollowed, Recalls, accepts_after, facts_of_last, frames_of_last, hash_keys_of, pad_of_last, records_of_last, setup_in, shape_of_last}
use Rattle.client_rebuild.specs.Updates.{AreCounted, command_of, fits, with_update}
use Rattle.client_rebuild.specs.declared.last.Last.{Last}
use Rattle.client_rebuild.specs.declared.last.Last.TheVariants as last
use Rattle.client_rebuild.specs.declared.recorded_update.RecordedUpdate.{RecordedUpdate}
use Rattle.client_rebuild.specs.declared.update.Update.{Update}
use Rattle.client_rebuild.specs.declared.update.Update.TheVariants as updates

-- Counters.

-- where each counter is below the last one, each word has one
pub has_counters-counted : (x : Facts) (d : Document) → AreCounted x (2 ^ 32 - 1) → has_counters x d ≡ true
has_counters-counted x d counted = all d.words
  where
    either : (a : Bool) (word : List ℕ) → (a || nat_lt (x.counter word) (2 ^ 32 - 1)) ≡ true
    either true word = refl
    either false word = lt-ltb (x.counter word) (2 ^ 32 - 1) (counted word)

    all : (words : List (List ℕ)) → list_all (has_counter x d.id) words ≡ true
    all [] = refl
    all (word ∷ words) = and_from (has_counter x d.id word) (list_all (has_counter x d.id) words) (either (x.listed word d.id) word) (all words)

-- no counter of a history is as high as its number of update frames
pub AreCounted-history : (run : Run) → AreCounted (facts_of run.setup run.later) (update_frames run)
AreCounted-history run word = omega (arith, counter-below run.setup word run.later)

-- Acceptance.

-- an accepted command fits what is live
pub fits-accepted : (s : Setup) (past : List Command) (c : Command) → is_accepted s past c ≡ true → fits (facts_of s past) c ≡ true
fits-accepted s past (Add d) ok = (and_parts (not (is_some ((facts_of s past).live d.id))) (has_counters (facts_of s past) d) (sym (accepted-add s past d) ∙ ok)).0
fits-accepted s past (Delete id) ok = sym (accepted-delete s past id) ∙ ok
fits-accepted s past (Search word) ok = refl

-- and one that fits is accepted, where there is a number for its frame
pub accepted-fits : (run : Run) (c : Command) → update_frames run < 2 ^ 32 - 1 → fits (facts_of run.setup run.later) c ≡ true → is_accepted run.setup run.later c ≡ true
accepted-fits run (Add d) number ok =
    accepted-add run.setup run.later d
    ∙ and_from (not (is_some ((facts_of run.setup run.later).live d.id))) (has_counters (facts_of run.setup run.later) d) ok
    (has_counters-counted (facts_of run.setup run.later) d (λ word. omega (arith, number, AreCounted-history run word)))
accepted-fits run (Delete id) number ok = accepted-delete run.setup run.later id ∙ ok
accepted-fits run (Search word) number ok = refl

not_some : {X : Type 0} (o : Option X) → not (is_some o) ≡ true → o ≡ None
not_some None e = refl
not_some (Some x) e = absurd (true≢false (sym e))

-- the facts after an update that fits are those of the history with it
pub facts-fit : (s : Setup) (past : List Command) (u : Update) → fits (facts_of s past) (command_of u) ≡ true → facts_after (facts_of s past) (command_of u) ≡ facts_of s (past ++ command_of u ∷ [])
facts-fit s past (updates.Add d) ok = facts-add s past d (not_some ((facts_of s past).live d.id) ok)
facts-fit s past (updates.Delete id) ok = facts-delete s past _

-- it has one update frame more
pub one_more : (run : Run) (u : Update) → update_frames (with_update run (command_of u)) ≡ update_frames run + 1
one_more run (updates.Add d) = update_frames-push run (Add d)
one_more run (updates.Delete id) = update_frames-push run (command_of (updates.Delete id))

-- What the last record tells.

pub facts-recalled : (l : Last) (o : Offsets) (run : Run) → Recalls o run l → facts_of_last l ≡ facts_of run.setup run.later
facts-recalled (last.Setup s) o run is = ap (λ (r : Run). facts_of r.setup r.later) (sym is.0)
facts-recalled (last.Update u) o run is =
    let before = is.0 in
    let ok : fits (facts_of before.setup before.later) (command_of u.update) ≡ true = ap (λ (x : Facts). fits x (command_of u.update)) (sym is.2) ∙ u.accepted in
    ap (λ (x : Facts). facts_after x (command_of u.update)) is.2
    ∙ facts-fit before.setup before.later u.update ok
    ∙ ap (λ (r : Run). facts_of r.setup r.later) (sym is.1)

pub frames-recalled : (l : Last) (o : Offsets) (run : Run) → Recalls o run l → frames_of_last l ≡ o.frame + update_frames run
frames-recalled (last.Setup s) o run is = omega (arith, s.needed, ap update_frames is.0, is.1)
frames-recalled (last.Update u) o run is = omega (arith, is.3, one_more is.0 u.update, ap update_frames is.1)

pub shape-recalled : (l : Last) (o : Offsets) (run : Run) → Recalls o run l → shape_of_last l ≡ run.setup.shape
shape-recalled (last.Setup s) o run is = ap (λ (r : Run). r.setup.shape) (sym is.0)
shape-recalled (last.Update u) o run is = sym is.4 ∙ ap (λ (r : Run). r.setup.shape) (sym is.1)

pub pad-recalled : (l : Last) (o : Offsets) (run : Run) → Recalls o run l → pad_of_last l ≡ run.setup.pad
pad-recalled (last.Setup s) o run is = ap (λ (r : Run). r.setup.pad) (sym is.0)
pad-recalled (last.Update u) o run is = sym is.5 ∙ ap (λ (r : Run). r.setup.pad) (sym is.1)

-- a command is accepted after it exactly where it is after the history
pub accepts-recalled : (l : Last) (o : Offsets) (run : Run) (c : Command) → Recalls o run l → accepts_after l c ≡ true → (is_accepted run.setup run.later c ≡ true) × (o.frame + update_frames run + 1 < 2 ^ 32)
accepts-recalled l o run c is ok =
    let parts = and_parts (fits (facts_of_last l) c) (nat_lt (frames_of_last l) (2 ^ 32 - 1)) ok in
    let number : frames_of_last l < 2 ^ 32 - 1 = ltb-true (frames_of_last l) (2 ^ 32 - 1) parts.1 in
    let frames = frames-recalled l o run is in
    (accepted-fits run c (omega (arith, number, frames)) (ap (λ (x : Facts). fits x c) (sym (facts-recalled l o run is)) ∙ parts.0), omega (arith, number, frames))

pub accepts-after : (l : Last) (o : Offsets) (run : Run) (c : Command) → Recalls o run l → is_accepted run.setup run.later c ≡ true → o.frame + update_frames run + 1 < 2 ^ 32 → accepts_after l c ≡ true
accepts-after l o run c is ok number =
    let frames = frames-recalled l o run is in
    and_from (fits (facts_of_last l) c) (nat_lt (frames_of_last l) (2 ^ 32 - 1))
    (ap (λ (x : Facts). fits x c) (facts-recalled l o run is) ∙ fits-accepted run.setup run.later c ok)
    (lt-ltb (frames_of_last l) (2 ^ 32 - 1) (omega (arith, number, frames)))

-- A command more.

-- what is so where a command is accepted
pub free_after : (l : Last) (c : Command) → accepts_after l c ≡ true → (fits (facts_of_last l) c ≡ true) × (frames_of_last l + 1 < 2 ^ 32)
free_after l c ok =
    let parts = and_parts (fits (facts_of_last l) c) (nat_lt (frames_of_last l) (2 ^ 32 - 1)) ok in
    (parts.0, omega (arith, ltb-true (frames_of_last l) (2 ^ 32 - 1) parts.1))

-- no counter is as high as the number of update frames
pub counted_last : (l : Last) → AreCounted (facts_of_last l) (frames_of_last l)
counted_last (last.Setup s) word = omega (arith, s.needed, AreCounted-history (record { setup = setup_in s; later = [] }) word)
counted_last (last.Update u) word = by u.update
  where
    one : (b : Bool) → (if b then 1 else 0) ≤ 1
    one true = omega arith
    one false = omega arith

    by : (v : Update) → (facts_after (facts u.registry) (command_of v)).counter word < u.frames + 1
    by (updates.Add d) = omega (arith, u.counted word, one (has_word word d && not ((facts u.registry).listed word d.id)))
    by (updates.Delete id) = omega (arith, u.counted word)

-- there are no more records than update frames
pub fewer_last : (l : Last) → records_of_last l ≤ frames_of_last l
fewer_last (last.Setup s) = omega (arith, s.fewer, s.needed)
fewer_last (last.Update u) = omega (arith, u.fewer)

-- an update recorded where the registry tells the facts with the last record's command
pub is_followed : (l : Last) (u : RecordedUpdate) → facts u.registry ≡ facts_of_last l → u.frames ≡ frames_of_last l → u.records ≡ records_of_last l → u.registry.keys ≡ hash_keys_of l
    → record { b = u.b; big = u.big } ≡ shape_of_last l → u.pad ≡ pad_of_last l → IsFollowed l (command_of u.update) (last.Update u)
is_followed l u tells frames records keys shape pad = record {
  recalls = λ o run is.
      (run, refl, tells ∙ facts-recalled l o run is, frames ∙ frames-recalled l o run is, sym (shape-recalled l o run is) ∙ sym shape, sym (pad-recalled l o run is) ∙ sym pad);
  records = ap (λ (n : ℕ). n + 1) records;
  hashed = keys;
}

-- a setup of accepted size has accepted parameters
pub parameters_accepted : (s : Setup) → size_refusal s ≡ None → parameter_refusal s ≡ None
parameters_accepted s accepted = by (parameter_refusal s) accepted
  where
    by : (o : Option SizeFault) → option_or o (option_or (list_refusal s) (bytes_refusal s)) ≡ None → o ≡ None
    by None e = refl
    by (Some fault) e = absurd (cc)
