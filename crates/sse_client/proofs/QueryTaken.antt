-- How a session takes a query line: refused, or a search for each of its words, and it shows what it chooses of the answers.
use Rattle.std.proofs.Common.{◌≡◌, inl, inr, ℕ, ◌≤◌, true, List, [], ◌∷◌, ◌++◌, length, map, refl, sym, ap, subst, ◌∙◌, append_assoc, arith}
use Rattle.std.specs.Prelude.{Option, None, Some, option_map}
use Rattle.std.specs.List.{AllByRecursion}
use Rattle.std.proofs.lemmas.List.{append-nil, length-map, take_all}
use Rattle.bool_search.specs.Chosen.{chosen_by}
use Rattle.bool_search.specs.Fields.{words_of}
use Rattle.bool_search.specs.LineRefusals.{fields_refusal}
use Rattle.client_core.specs.StandsFor.{StandsFor, with_command}
use Rattle.client_core.specs.declared.client.Client.{Client}
use Rattle.client_core.specs.declared.ready.Ready.{Ready}
use Rattle.client_records.specs.Records.{update_record}
use Rattle.client_registry.specs.Command.{Search}
use Rattle.client_registry.specs.Histories.{is_set_up, longer}
use Rattle.client_registry.specs.Live.{in_order, matching_in}
use Rattle.client_registry.specs.Epochs.{begins, with_commands}
use Rattle.client_registry.specs.Run.{History, Run, Offsets, last_run}
use Rattle.keyed_fn.specs.KeyFormulas.{mark_of}
use Rattle.keyed_fn.specs.KeyedFn.{KeyedFn}
use Rattle.sse_model.specs.Epochs.{key_in}
use Rattle.sse_model.specs.Histories.{frames_of_next}
use Rattle.sse_script.specs.Shown as says
use Rattle.sse_script.specs.declared.refusal.Refusal.{Refusal}
use Rattle.def_script_meaning.proofs.GoneAsMeant.{Keeps-nothing}
use Rattle.def_script_meaning.proofs.QueryLaws.{searching, no_updates, frames-searches, collision-searches}
use Rattle.def_script_meaning.proofs.QueryWords.{IsWord, words_are_words}
use Rattle.def_script_meaning.specs.Carries.{Keeps, keys_at, frames_by, records_by, collision_cause, clash_in_hand, StopsIn}
use Rattle.def_script_meaning.specs.Exchange.{Told, AreExchanged, AreCut}
use Rattle.def_script_meaning.specs.Lines.{Query}
use Rattle.def_script_meaning.specs.Outcome.{Place, Matches, Outcome, Does, unless, outcome, after}
use Rattle.def_script_meaning.specs.Stops.{At}
use Rattle.sse_outside.specs.Kept.{Kept}
use Rattle.script_run_texts.specs.LineResultViews.{line_result_view, refuses}
use Rattle.script_run_texts.specs.declared.line_result.LineResult.{LineResult}
use Rattle.sse_client.proofs.CommandTaken.{behind, goes-refused, stops-memory}
use Rattle.sse_client.proofs.PlansOfUpdates.{StandsFor-longer, key_in-longer, marks_in-longer, StandsFor-search}
use Rattle.sse_client.specs.Exchanges.{search_frames}
use Rattle.sse_client.specs.Queried.{QueriedFor, HasQueried, StopsQuery}
use Rattle.sse_client.specs.Stages.{hash_keys_under}
use Rattle.sse_client.specs.Stands.{IsAt, seen, GoesOn, outside_of}
use Rattle.sse_client.specs.declared.session.Stage.{Stage}
use Rattle.sse_client.specs.declared.session.Stage.TheVariants.{Searching}

-- several words are searched for with one frame each, in order, under the key of the last epoch
frames-query : (f : KeyedFn) (key : List ℕ) (h : History) (words : List (List ℕ)) → is_set_up h ≡ true → frames_of_next f key h (searching words) ≡ search_frames f (key_in key h) words
frames-query f key None words up = absurd (cc)
frames-query f key (Some es) words up = frames-searches f key es words

module _ (f : KeyedFn) (place : Place) (fields : List (List ℕ)) where
  abbrev querying : Outcome
  querying = Does (searching (words_of fields)) (Matches fields (map (matching_in place.history) (words_of fields)))

  comes-query : (r : Option Refusal) → is_set_up place.history ≡ true → fields_refusal fields ≡ r → outcome place (Query fields) ≡ unless r querying
  comes-query r up e = behind place (Query fields) up ∙ ap (λ r. unless r querying) e

  frames_at : (key : List ℕ) → key ≡ key_in place.key place.history → is_set_up place.history ≡ true → search_frames f key (words_of fields) ≡ frames_by f place querying
  frames_at key same up = ap (λ k. search_frames f k (words_of fields)) same ∙ sym (frames-query f place.key place.history (words_of fields) up)

  no_clash : clash_in_hand f place querying ≡ None
  no_clash = ap (option_map collision_cause) (collision-searches f place.key place.history (words_of fields))

  keeps_none : (kept : Kept) → Keeps kept kept (records_by f place querying)
  keeps_none kept = subst (λ updates. Keeps kept kept (map update_record updates)) (sym (no_updates (words_of fields))) (Keeps-nothing kept)

  module _ (old new : Told) (kept : Kept) (up : is_set_up place.history ≡ true) (key : List ℕ) (same : key ≡ key_in place.key place.history) where
    pub takes-query : (next : Stage) (came : LineResult) → HasQueried f key fields old new came → IsAt f next place → (fields_refusal fields ≡ None → IsAt f next (after querying place))
        → GoesOn f (seen old kept) (seen new kept) next came place (outcome place (Query fields))
    takes-query next came queried at still = by (fields_refusal fields) refl queried
      where
        by : (r : Option Refusal) → fields_refusal fields ≡ r → QueriedFor r f key fields old new came → GoesOn f (seen old kept) (seen new kept) next came place (outcome place (Query fields))
        by (Some refusal) e q =
            subst (λ told. GoesOn f (seen old kept) (seen told kept) next came place (outcome place (Query fields))) (sym q.1)
            (subst (GoesOn f (seen old kept) (seen old kept) next came place) (sym (comes-query (Some refusal) up e))
            (goes-refused f (seen old kept) next came place refusal (ap line_result_view q.0) (ap refuses q.0) at))
        by None e q =
            let had = q.3 in
            let count : length (map in_order had.answers) ≤ length (map (matching_in place.history) (words_of fields)) = omega (arith, length-map had.answers in_order, length-map (words_of fields) (matching_in place.history), had.each) in
            subst (GoesOn f (seen old kept) (seen new kept) next came place) (sym (comes-query None up e))
            (record {
              kept = keeps_none kept;
              answers = had.answers;
              sent = record {
                events = had.exchanged.events;
                adds = had.exchanged.adds;
                exchanged = subst (λ fs. AreExchanged had.answers fs had.exchanged.events) (frames_at key same up) had.exchanged.exchanged;
                no_clash = no_clash;
              };
              shown = q.1 ∙ ap (λ ids. says.Matched ids ∷ []) (had.chosen ∙ ap (chosen_by fields) (sym (take_all _ _ count)));
              refuses = q.2;
              stands = still e;
            })

    pub stops-query : (c : says.Cause) → StopsQuery f key fields old new c → (written : Option (List ℕ))
        → StopsIn f place (outcome place (Query fields)) (outside_of (seen old kept) written) (outside_of (seen new kept) written) (At c)
    stops-query c (inl early) written =
        subst (λ told. StopsIn f place (outcome place (Query fields)) (outside_of (seen old kept) written) (outside_of (seen told kept) written) (At c)) (sym early.1)
        (subst (λ c. StopsIn f place (outcome place (Query fields)) (outside_of (seen old kept) written) (outside_of (seen old kept) written) (At c)) (sym early.0)
        (stops-memory f (seen old kept) place (outcome place (Query fields)) written))
    stops-query c (inr cut) written =
        subst (λ result. StopsIn f place result (outside_of (seen old kept) written) (outside_of (seen new kept) written) (At c)) (sym (comes-query None up cut.0))
        (inr (inr (inr (record {
          cause = c;
          stops = refl;
          kept = keeps_none kept;
          events = cut.1.events;
          adds = cut.1.adds;
          cut = subst (λ fs. AreCut fs cut.1.events c) (frames_at key same up) cut.1.cut;
          no_clash = λ _. no_clash;
          unprinted = refl;
        }))))

-- a session that searched several words stands after them
StandsFor-searches : (f : KeyedFn) (keys : ℕ → List ℕ) (o : Offsets) (run : Run) (words : List (List ℕ)) (state : Ready) → AllByRecursion IsWord words → StandsFor f keys o run state
    → StandsFor f keys o (record run { later = run.later ++ searching words }) state
StandsFor-searches f keys o run [] state each s = subst (λ later. StandsFor f keys o (record run { later = later }) state) (sym (append-nil run.later)) s
StandsFor-searches f keys o run (word ∷ words) state each s =
    subst (λ later. StandsFor f keys o (record run { later = later }) state) (append_assoc run.later (Search word ∷ []) (searching words))
    (StandsFor-searches f keys o (with_command run (Search word)) words state each.1 (StandsFor-search f keys o run word state each.0 s))

pub querying_still : (f : KeyedFn) (client : Client Ready) (place : Place) (fields : List (List ℕ)) → fields_refusal fields ≡ None → IsAt f (Searching client) place
    → IsAt f (Searching client) (after (querying f place fields) place)
querying_still f client place fields good at = record {
  key = at.key ∙ key_in-longer place.key place.history (searching (words_of fields));
  stands = (
    with_commands (searching (words_of fields)) at.stands.0,
    ap (longer (searching (words_of fields))) at.stands.1,
    StandsFor-longer f place.key place.history (searching (words_of fields)) at.stands.0 client.state at.stands.1
        (StandsFor-searches f (keys_at place) (begins at.stands.0) (last_run at.stands.0) (words_of fields) client.state (words_are_words fields good) at.stands.2),
  );
  hashed = at.hashed ∙ ap (hash_keys_under f) (key_in-longer place.key place.history (searching (words_of fields)));
  mark = at.mark;
  marks = at.marks ∙ ap (λ marks. place.used ++ marks) (marks_in-longer (mark_of f) place.key place.history (searching (words_of fields)));
}
