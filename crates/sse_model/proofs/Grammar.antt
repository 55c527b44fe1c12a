-- All frames of a history under a collision-free table are in the grammar.
use Rattle.std.proofs.Common.{◌≡◌, ℕ, ◌+◌, ◌^◌, ◌<◌, List, [], ◌∷◌, ◌++◌, length, filter, refl, sym, ap, ◌∙◌, subst, arith, append_assoc, true, cond, map}
use Rattle.std.specs.Prelude.{All, Contains, flat_map}
use Rattle.std.specs.List.{AllByRecursion}
use Rattle.std.proofs.lemmas.List.{length-append}
use Rattle.std.proofs.lemmas.List.Concat.{flat_map-append}
use Rattle.std.proofs.lemmas.List.Elements.{All-nil, All-append, All-contains, All-from_recursion, Contains-append_left, Contains-push, filter-append}
use Rattle.client_registry.proofs.OrderLaws.{AreApart, AreApart-from_IsDistinct}
use Rattle.client_registry.proofs.ShownLaws.{live_apart}
use Rattle.client_registry.proofs.SizedLaws.{IsHistory-front}
use Rattle.client_registry.specs.Command.{Command, Add, Delete, Search, is_update}
use Rattle.client_registry.specs.DocumentRule.{IsDocument}
use Rattle.client_registry.specs.Live.{live}
use Rattle.client_registry.specs.Over.{over}
use Rattle.client_registry.specs.Run.{Run, Offsets}
use Rattle.client_registry.specs.Setup.{Setup}
use Rattle.client_registry.specs.Sized.{update_frames, IsHistory, IsSizedCommand, is_accepted}
use Rattle.keyed_fn.specs.KeyedFn.{KeyedFn, IsKeyedFn}
use Rattle.sse_frames.specs.Frames.{IsNumber, InGrammar}
use Rattle.sse_model.proofs.Collisions.{joined}
use Rattle.sse_model.proofs.DrawnOnce.{live_are_documents, IsDistinct-words_live}
use Rattle.sse_model.proofs.KeyValues.{IsValue-table}
use Rattle.sse_model.proofs.Prefixes.{run_of, frames_by, drawn-append}
use Rattle.sse_model.proofs.SealedEntries.{IsTold, IsNamed, IsTold-drawn}
use Rattle.sse_model.proofs.SentNumbers.{are_accepted-push, drawn_before, deleted_is_drawn, relisted_is_drawn, added_is_drawn, set_up_is_drawn, token_is_drawn}
use Rattle.sse_model.proofs.SetupGrammar.{setup_in_grammar}
use Rattle.sse_model.proofs.UpdateGrammar.{add_in_grammar, delete_in_grammar, few_words_live}
use Rattle.sse_model.specs.Drawn.{drawn_by, drawn, IsCollisionFree}
use Rattle.sse_model.specs.Names.{Name, name, Token, Revocation, Table, table}
use Rattle.sse_model.specs.Positions.{Position, addition_positions, listed_words}
use Rattle.sse_model.specs.Values.{IsValue}
use Rattle.sse_model.specs.Wire.{words_live, frames_of_setup, next_number, wire}

-- what holds of each result of an item after those before it holds of all results
over_all : {A B : Type 0} (f : List A → A → List B) (P : B → Type 0) (past xs : List A)
    → ((front : List A) (x : A) (back : List A) → front ++ x ∷ back ≡ past ++ xs → All P (f front x)) → All P (flat_map (λ r. r) (over f past xs))
over_all f P past [] each = All-nil P
over_all f P past (x ∷ xs) each =
    All-append P (f past x) (flat_map (λ r. r) (over f (past ++ x ∷ []) xs)) (each past x xs refl)
    (over_all f P (past ++ x ∷ []) xs (λ front y back e. each front y back (e ∙ append_assoc past (x ∷ []) xs)))

module _ (t : Table) (o : Offsets) (s : Setup) (names : List Name) (told : IsTold s.shape t names) (past : List Command) where
  -- the run up to a command that is accepted after the past
  record IsNext (c : Command) : Type 0 where
    inside : (n : Name) → Contains (joined (drawn o (run_of s (past ++ c ∷ [])))) n → Contains names n
    history : IsHistory (run_of s (past ++ c ∷ []))
    fits : o.frame + update_frames (run_of s (past ++ c ∷ [])) < 2 ^ 32

  number_of : (c : Command) → IsNext c → is_update c ≡ true → IsNumber (next_number o s past)
  number_of c next update =
      let count = ap length (filter-append is_update past (c ∷ [])) ∙ length-append (filter is_update past) (filter is_update (c ∷ [])) in
      let one : length (filter is_update (c ∷ [])) ≡ 1 = ap (λ b. length (cond b (c ∷ []) [])) update in
      omega (arith, next.fits, count, one)

  history_past : (c : Command) → IsNext c → IsHistory (run_of s past)
  history_past c next = IsHistory-front s past (c ∷ []) next.history

  of_command : (c : Command) → IsNext c → IsSizedCommand c
  of_command c next = All-contains IsSizedCommand (past ++ c ∷ []) c next.history.each (Contains-push past c)

  ok : (c : Command) → IsNext c → is_accepted s past c ≡ true
  ok c next = (are_accepted-push s past c next.history.accepted).1

  apart : (c : Command) → IsNext c → AreApart (map (λ d. d.id) (live s.documents past))
  apart c next =
      live_apart s (AreApart-from_IsDistinct (map (λ d. d.id) s.documents) next.history.collected.different) past (history_past c next).accepted

  documents : (c : Command) → IsNext c → All IsDocument (live s.documents past)
  documents c next = live_are_documents s.documents past next.history.collected.are_documents (history_past c next).each

  -- its frames are in the grammar, where its names are told
  command_in_grammar : (c : Command) → IsNext c → AllByRecursion InGrammar (frames_by t o s past c)
  command_in_grammar (Add d) next =
      let named : (p : Position) → Contains (addition_positions o.epoch s past d) p → IsNamed names p =
      λ p within. let both = added_is_drawn o s past d p within in (next.inside p.label both.0, next.inside p.pad both.1) in
      let sent = λ (w : List ℕ) (within : Contains (listed_words s past d) w).
      let number = name o.epoch w Revocation d.id in
      next.inside number (drawn_before o s past (Add d) number (relisted_is_drawn o s past d w (history_past (Add d) next).accepted (ok (Add d) next) within)) in
      (add_in_grammar t o.epoch s names told past d (of_command (Add d) next) named sent (next_number o s past) (number_of (Add d) next refl), tt)
  command_in_grammar (Delete id) next =
      let words = words_live (live s.documents past) id in
      let named = λ (w : List ℕ) (within : Contains words w).
      next.inside (name o.epoch w Revocation id) (deleted_is_drawn o s past id w (history_past (Delete id) next).accepted within) in (
        delete_in_grammar t o.epoch s names told id words (IsDistinct-words_live (live s.documents past) id (apart (Delete id) next) (documents (Delete id) next))
            named (next_number o s past) (number_of (Delete id) next refl) (few_words_live (live s.documents past) id (apart (Delete id) next) (documents (Delete id) next)),
        tt,
      )
  command_in_grammar (Search word) next = (told.values (name o.epoch word Token 0) (next.inside (name o.epoch word Token 0) (token_is_drawn o s past word)), tt)

module _ (t : Table) (o : Offsets) (s : Setup) (later : List Command) (history : IsHistory (run_of s later)) (fits : o.frame + update_frames (run_of s later) < 2 ^ 32) where
  abbrev names : List Name
  names = joined (drawn o (run_of s later))

  -- the run up to each command of a history is one
  next_is : (told : IsTold s.shape t names) (front : List Command) (c : Command) (back : List Command) → front ++ c ∷ back ≡ later → IsNext t o s names told front c
  next_is told front c back e =
      let all : (front ++ c ∷ []) ++ back ≡ later = append_assoc front (c ∷ []) back ∙ e in
      let history' : IsHistory (run_of s ((front ++ c ∷ []) ++ back)) = subst (λ cs. IsHistory (run_of s cs)) (sym all) history in
      let fits' : o.frame + update_frames (run_of s ((front ++ c ∷ []) ++ back)) < 2 ^ 32 = subst (λ cs. o.frame + update_frames (run_of s cs) < 2 ^ 32) (sym all) fits in
      record {
        inside =
            λ n within.
            subst (λ cs. Contains (joined (drawn o (run_of s cs))) n) all
            (subst (λ names. Contains names n)
            (sym (ap joined (drawn-append o s (front ++ c ∷ []) back) ∙ flat_map-append (λ n. n) (drawn o (run_of s (front ++ c ∷ []))) (over (drawn_by o.epoch s) (front ++ c ∷ []) back)))
            (Contains-append_left (joined (drawn o (run_of s (front ++ c ∷ [])))) (joined (over (drawn_by o.epoch s) (front ++ c ∷ []) back)) n within));
        history = IsHistory-front s (front ++ c ∷ []) back history';
        fits = omega (
          arith,
          fits',
          ap length (filter-append is_update (front ++ c ∷ []) back),
          length-append (filter is_update (front ++ c ∷ [])) (filter is_update back),
        );
      }

  in_grammar : IsTold s.shape t names → All InGrammar (flat_map (λ fs. fs) (wire t o (run_of s later)))
  in_grammar told =
      All-append InGrammar (frames_of_setup t o s) (flat_map (λ fs. fs) (over (frames_by t o s) [] later))
      (All-from_recursion InGrammar (frames_of_setup t o s)
      (setup_in_grammar t o s names told (set_up_is_drawn o s later) history.collected history.setup (omega (arith, fits))))
      (over_all (frames_by t o s) InGrammar [] later
      (λ front c back e. All-from_recursion InGrammar (frames_by t o s front c) (command_in_grammar t o s names told front c (next_is told front c back e))))

-- Promise P160, also here
-- the frames of a history are in the grammar, where the numbers of its update frames fit, and the table is collision-free
-- and gives each drawn name a value of its size
pub wire_in_grammar : (t : Table) (o : Offsets) (run : Run) → IsHistory run → o.frame + update_frames run < 2 ^ 32 → IsCollisionFree t o run
    → ((n : Name) → Contains (flat_map (λ n. n) (drawn o run)) n → IsValue run.setup.shape t n)
    → All InGrammar (flat_map (λ fs. fs) (wire t o run))
wire_in_grammar t o run history fits free values = in_grammar t o run.setup run.later history fits (IsTold-drawn t o run free values)

-- Promise P160, also here
-- so are those of the table of a keyed function
pub wire_of_keys_in_grammar : (f : KeyedFn) → IsKeyedFn f → (keys : ℕ → List ℕ) (o : Offsets) (run : Run) → IsHistory run → o.frame + update_frames run < 2 ^ 32
    → IsCollisionFree (table f run.setup.shape keys) o run → All InGrammar (flat_map (λ fs. fs) (wire (table f run.setup.shape keys) o run))
wire_of_keys_in_grammar f laws keys o run history fits free =
    wire_in_grammar (table f run.setup.shape keys) o run history fits free (λ n within. IsValue-table f laws run.setup.shape keys n)
