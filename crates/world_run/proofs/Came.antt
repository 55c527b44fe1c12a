-- How a command ends, by the client's own call for it.
use Rattle.std.proofs.Common.{◌≡◌, ℕ, ◌&&◌, ◌||◌, Bool, true, false, Option, List, [], ◌∷◌, ◌++◌, is_none, None, Some, inr, refl, sym, ap, ◌∙◌, subst}
use Rattle.std.specs.Prelude.{IsSome, is_some, unwrap_or, bytes_eq, position}
use Rattle.std.specs.List.{list_any}
use Rattle.std.proofs.lemmas.Cmp.{nat_list_eq_equiv}
use Rattle.std.proofs.lemmas.Bool.{true≢false}
use Rattle.client_core.specs.States.{BehindState, ClientOf, ReadyState}
use Rattle.client_core.specs.declared.fresh.Fresh.{Fresh}
use Rattle.client_records.proofs.RecordedLaws.{records-longer, records-renewed}
use Rattle.client_records.specs.Openings.{marks_of}
use Rattle.client_records.specs.Recorded.{as_recorded}
use Rattle.client_registry.proofs.Positions.{is_some-position}
use Rattle.client_registry.specs.Command.{Add, Delete}
use Rattle.client_registry.specs.Epochs.{key_now}
use Rattle.client_registry.specs.Histories.{frames_in}
use Rattle.client_registry.specs.Run.{Epochs, From, Renewed, History}
use Rattle.client_core.specs.declared.restored.Restored.{Restored}
use Rattle.client_registry.specs.declared.word.Word.{Word}
use Rattle.client_renewal.specs.Refusals.{key_refusal}
use Rattle.client_renewal.specs.declared.renewal_fault.RenewalFault.TheVariants as faults
use Rattle.keyed_fn.specs.KeyFormulas.{mark_of}
use Rattle.keyed_fn.specs.KeyedFn.{KeyedFn}
use Rattle.outside_memory_disk.specs.declared.mem_disk.MemDisk.{MemDisk}
use Rattle.sse_journal.specs.declared.journal.Journal.{Journal}
use Rattle.sse_model.specs.Epochs.{key_in}
use Rattle.world_disks.specs.Disks.{IsDiskOf, Holds}
use Rattle.world_model.specs.Events.{left, in_doubt, settled}
use Rattle.world_disks.specs.declared.stop.Stop as code
use Rattle.world_model.specs.World.{Phase, Greets, Rests, Sends, Asks}
use Rattle.world_rules.specs.Changes.{Change, SetsUp, Adds, Deletes, Renews, with_change}
use Rattle.world_rules.specs.Rules.{accepts}
use Rattle.world_client.specs.Clients.{IsClientIn, IsResting}
use Rattle.world_client.specs.Commanding.{IsCommanded, IsDone}
use Rattle.world_client.specs.Histories.{records_under}
use Rattle.world_client.specs.Starting.{HasKey}
use Rattle.world_grammar.proofs.Apart.{both_none, map_none}
use Rattle.world_run.proofs.Sides.{has_key}
use Rattle.world_client.specs.declared.commanded.Commanded.{Commanded}
use Rattle.world_client.specs.declared.commanded.Commanded.TheVariants as commanded
use Rattle.world_client.specs.declared.state.State.{State}
use Rattle.world_client.specs.declared.state.State.TheVariants as states
use Rattle.world_run.specs.Commands.{IsCame, key_of, record_of, takes_change, wrapped}

-- a command that is done was done
pub done_of : {B : Type 0} (wrap : B → State) (x : Commanded B) → IsDone (wrapped wrap x) → IsDone x
done_of wrap (commanded.Done client) is = is
done_of wrap (commanded.Refused client) is = is
done_of wrap (commanded.NoMemory client) is = is
done_of wrap commanded.Stopped is = is
done_of wrap commanded.Broken is = is

module _ (f : KeyedFn) (first : List ℕ) where
  -- an accepted change leaves its record behind the others
  pub records_with : (h : History) (c : Change) → accepts f first h c ≡ true → records_under f first (with_change h c) ≡ records_under f first h ++ record_of f first h c ∷ []
  records_with (Some es) (SetsUp s) ok = absurd (true≢false (sym ok))
  records_with None (SetsUp s) ok = refl
  records_with None (Adds d) ok = absurd (true≢false (sym ok))
  records_with (Some es) (Adds d) ok = records-longer (mark_of f) first (Some es) (Add d ∷ []) refl
  records_with None (Deletes id) ok = absurd (true≢false (sym ok))
  records_with (Some es) (Deletes id) ok = records-longer (mark_of f) first (Some es) (Delete id ∷ []) refl
  records_with None (Renews own) ok = absurd (true≢false (sym ok))
  records_with (Some es) (Renews own) ok = records-renewed (mark_of f) first own (Some es) refl

  -- and its key is the last
  pub key_with : (h : History) (c : Change) (key : List ℕ) → accepts f first h c ≡ true → key ≡ key_in first h → unwrap_or (key_of c) key ≡ key_in first (with_change h c)
  key_with (Some es) (SetsUp s) key ok e = absurd (true≢false (sym ok))
  key_with None (SetsUp s) key ok e = e
  key_with None (Adds d) key ok e = absurd (true≢false (sym ok))
  key_with (Some (From o run)) (Adds d) key ok e = e
  key_with (Some (Renewed before own run)) (Adds d) key ok e = e
  key_with None (Deletes id) key ok e = absurd (true≢false (sym ok))
  key_with (Some (From o run)) (Deletes id) key ok e = e
  key_with (Some (Renewed before own run)) (Deletes id) key ok e = e
  key_with None (Renews own) key ok e = absurd (true≢false (sym ok))
  key_with (Some es) (Renews own) key ok e = refl

  none_of : {X : Type 0} (o : Option X) → is_none o ≡ true → o ≡ None
  none_of None e = refl
  none_of (Some x) e = absurd (true≢false (sym e))

  left_of : (a b : Bool) → (a && b) ≡ true → a ≡ true
  left_of true b e = refl
  left_of false b e = absurd (true≢false (sym e))

  some_none : {X : Type 0} (o : Option X) → IsSome o → is_none o ≡ false
  some_none None some = cc
  some_none (Some x) some = refl

  -- a command of a client that has nothing to send, by the call for it
  module _ (h : History) (c : Change) (stop : Option code.Stop) {B E : Type 0} (wrap : B → State) (Before : B → Type 0) (After : ClientOf BehindState → Type 0) (fault : Option E) (payload : List ℕ)
      (accepted : accepts f first h c ≡ is_none fault) (record_is : record_of f first h c ≡ payload) (before : (client : B) → Before client → IsClientIn f first h Rests (wrap client))
      (after : (client : ClientOf BehindState) → After client → IsClientIn f first (with_change h c) (Sends (frames_in h)) (states.Sending client)) where
    pub came_by : (x : Commanded B) (calls : ℕ) (journal : Journal) (disk : MemDisk) → IsCommanded Before After fault (records_under f first h) payload stop x calls journal disk → IsCame f first h Rests c stop (wrapped wrap x) calls journal disk
    came_by (commanded.Done client) calls journal disk is =
        let ok : accepts f first h c ≡ true = accepted ∙ ap is_none is.1 in (
          ok,
          after client is.0,
          is.2,
          subst (λ payloads. Holds payloads journal disk) (sym (records_with h c ok ∙ ap (λ r. records_under f first h ++ r ∷ []) record_is)) is.3,
        )
    came_by (commanded.Refused client) calls journal disk is = (accepted ∙ some_none fault is.1, before client is.0, is.2)
    came_by (commanded.NoMemory client) calls journal disk is = (before client is.0, is.1)
    came_by commanded.Stopped calls journal disk is = (accepted ∙ ap is_none is.0, is.1, subst (λ r. (there : Bool) × IsDiskOf (left there (in_doubt (settled (records_under f first h)) r)) disk) (sym record_is) is.2)
    came_by commanded.Broken calls journal disk is = (accepted ∙ ap is_none is.0, subst (λ r. IsDiskOf (in_doubt (settled (records_under f first h)) r) disk) (sym record_is) is.2)

  -- In each state.

  module _ (c : Change) (stop : Option code.Stop) (calls : ℕ) (journal : Journal) (disk : MemDisk) where
    -- what a client in this state comes to, if it has nothing to send
    pub fresh_came : (h : History) (phase : Phase (List ℕ)) (client : ClientOf Fresh) (x : Commanded State) → IsClientIn f first h phase (states.Fresh client) → (h ≡ None → client.key ≡ first → IsCame f first None Rests c stop x calls journal disk)
        → IsCame f first h phase c stop x calls journal disk
    fresh_came None Greets client x is came = absurd is
    fresh_came (Some es) Greets client x is came = absurd is
    fresh_came None Rests client x is came = came refl is
    fresh_came (Some es) Rests client x is came = absurd is
    fresh_came None (Sends next) client x is came = absurd is
    fresh_came (Some es) (Sends next) client x is came = absurd is
    fresh_came None (Asks word) client x is came = absurd is
    fresh_came (Some es) (Asks word) client x is came = absurd is

    pub resting_came : (h : History) (phase : Phase (List ℕ)) (client : ClientOf ReadyState) (x : Commanded State) → IsClientIn f first h phase (states.Resting client)
        → ((es : Epochs) → h ≡ Some es → IsResting f first es client → IsCame f first (Some es) Rests c stop x calls journal disk) → IsCame f first h phase c stop x calls journal disk
    resting_came None Greets client x is came = absurd is
    resting_came (Some es) Greets client x is came = absurd is
    resting_came None Rests client x is came = absurd is
    resting_came (Some es) Rests client x is came = came es refl is
    resting_came None (Sends next) client x is came = absurd is
    resting_came (Some es) (Sends next) client x is came = absurd is
    resting_came None (Asks word) client x is came = absurd is
    resting_came (Some es) (Asks word) client x is came = absurd is

  -- A client in another state takes no command.

  pub greeting_refuses : (h : History) (phase : Phase (List ℕ)) (c : Change) (client : Restored) → IsClientIn f first h phase (states.Greeting client) → takes_change f first h phase c ≡ false
  greeting_refuses None Greets c client is = refl
  greeting_refuses (Some es) Greets c client is = refl
  greeting_refuses None Rests c client is = absurd is
  greeting_refuses (Some es) Rests c client is = absurd is
  greeting_refuses None (Sends next) c client is = refl
  greeting_refuses (Some es) (Sends next) c client is = refl
  greeting_refuses None (Asks word) c client is = refl
  greeting_refuses (Some es) (Asks word) c client is = refl

  pub sending_refuses : (h : History) (phase : Phase (List ℕ)) (c : Change) (client : ClientOf BehindState) → IsClientIn f first h phase (states.Sending client) → takes_change f first h phase c ≡ false
  sending_refuses None Greets c client is = refl
  sending_refuses (Some es) Greets c client is = refl
  sending_refuses None Rests c client is = absurd is
  sending_refuses (Some es) Rests c client is = absurd is
  sending_refuses None (Sends next) c client is = refl
  sending_refuses (Some es) (Sends next) c client is = refl
  sending_refuses None (Asks word) c client is = refl
  sending_refuses (Some es) (Asks word) c client is = refl

  pub asking_refuses : (h : History) (phase : Phase (List ℕ)) (c : Change) (client : ClientOf ReadyState) (word : Word) → IsClientIn f first h phase (states.Asking client word) → takes_change f first h phase c ≡ false
  asking_refuses None Greets c client word is = refl
  asking_refuses (Some es) Greets c client word is = refl
  asking_refuses None Rests c client word is = absurd is
  asking_refuses (Some es) Rests c client word is = absurd is
  asking_refuses None (Sends next) c client word is = refl
  asking_refuses (Some es) (Sends next) c client word is = refl
  asking_refuses None (Asks asked) c client word is = refl
  asking_refuses (Some es) (Asks asked) c client word is = refl

  -- While the record of a command is in doubt, the key that it brings is the other one.

  any_last : (p : List ℕ → Bool) (xs : List (List ℕ)) (x : List ℕ) → p x ≡ true → list_any p (xs ++ x ∷ []) ≡ true
  any_last p [] x e = λ i. e i || false
  any_last p (y ∷ ys) x e = or_right (p y) (list_any p (ys ++ x ∷ [])) (any_last p ys x e)
    where
      or_right : (a b : Bool) → b ≡ true → (a || b) ≡ true
      or_right true b e = refl
      or_right false b e = e

  -- the mark of the last key is one of its history's
  has_last : (es : Epochs) → list_any (bytes_eq (mark_of f (key_now first es))) (marks_of (mark_of f first) (as_recorded (mark_of f) es)) ≡ true
  has_last (From o run) = any_last (bytes_eq (mark_of f first)) [] (mark_of f first) (nat_list_eq_equiv.refl (mark_of f first))
  has_last (Renewed before own run) = any_last (bytes_eq (mark_of f own)) (marks_of (mark_of f first) (as_recorded (mark_of f) before)) (mark_of f own) (nat_list_eq_equiv.refl (mark_of f own))

  -- so the key of an accepted renewal has another
  renewed_differs : (es : Epochs) (own : List ℕ) → accepts f first (Some es) (Renews own) ≡ true → mark_of f own ≡ mark_of f (key_now first es) → ⊥
  renewed_differs es own ok same =
      let marks = marks_of (mark_of f first) (as_recorded (mark_of f) es) in
      let refused = both_none (key_refusal marks (mark_of f own)) _ (none_of _ (left_of _ _ ok)) in
      let none = map_none (λ epoch. faults.KeyUsed epoch) (position (bytes_eq (mark_of f own)) marks) refused.0 in
      true≢false (sym (ap (λ m. list_any (bytes_eq m) marks) same ∙ has_last es) ∙ sym (is_some-position (bytes_eq (mark_of f own)) marks) ∙ ap is_some none)

  pub doubt_key : (h : History) (c : Change) (key : List ℕ) → accepts f first h c ≡ true → key ≡ key_in first h → HasKey f first (with_change h c) key (key_of c)
  doubt_key h (SetsUp s) key ok e = has_key f first (with_change h (SetsUp s)) key None (key_with h (SetsUp s) key ok e)
  doubt_key h (Adds d) key ok e = has_key f first (with_change h (Adds d)) key None (key_with h (Adds d) key ok e)
  doubt_key h (Deletes id) key ok e = has_key f first (with_change h (Deletes id)) key None (key_with h (Deletes id) key ok e)
  doubt_key None (Renews own) key ok e = absurd (true≢false (sym ok))
  doubt_key (Some es) (Renews own) key ok e = (inr refl, λ same. absurd (renewed_differs es own ok (same ∙ ap (mark_of f) e)))

  -- the key of a client that has nothing to send
  pub resting_key : (h : History) (phase : Phase (List ℕ)) (client : ClientOf ReadyState) (key : List ℕ) → IsClientIn f first h phase (states.Resting client) → key ≡ key_in first h → key ≡ client.key
  resting_key None Greets client key is e = absurd is
  resting_key (Some es) Greets client key is e = absurd is
  resting_key None Rests client key is e = absurd is
  resting_key (Some es) Rests client key is e = e ∙ sym is.key
  resting_key None (Sends next) client key is e = absurd is
  resting_key (Some es) (Sends next) client key is e = absurd is
  resting_key None (Asks word) client key is e = absurd is
  resting_key (Some es) (Asks word) client key is e = absurd is
