-- What a query that was read comes to: what it chooses of the answers to its searches, or the refusal that its fault is.
use Rattle.std.proofs.Common.{◌≡◌, ◌≢◌, inl, inr, ℕ, false, List, [], ◌∷◌, length, map, refl, sym, ap, subst, ◌∙◌}
use Rattle.std.specs.Prelude.{None, Some, Result, Ok, Err}
use Rattle.std.specs.Option.{option_and_then}
use Rattle.bool_search.specs.Asked.{tree_in, words_in}
use Rattle.bool_search.specs.Chosen.{chosen, chosen_if}
use Rattle.bool_search.specs.Fields.{signs_of, words_of}
use Rattle.bool_search.specs.LineRefusals.{query_refused, fields_refusal}
use Rattle.bool_search.specs.Parsing.{query_of}
use Rattle.bool_search.specs.Refused.{query_refusal}
use Rattle.bool_search.specs.declared.fault.QueryFault.{QueryFault}
use Rattle.bool_search.specs.declared.fault.QueryFault.TheVariants as queries
use Rattle.bool_search.specs.declared.query.Query.{Query}
use Rattle.client_registry.specs.Live.{in_order}
use Rattle.keyed_fn.specs.KeyedFn.{KeyedFn}
use Rattle.script_documents.specs.LineFaults.{fault_refusal}
use Rattle.script_documents.specs.declared.line_fault.LineFault.{LineFault}
use Rattle.script_documents.specs.declared.line_fault.LineFault.TheVariants as faults
use Rattle.script_run_texts.specs.LineResultViews.{line_result_view, refuses}
use Rattle.script_run_texts.specs.Stops.{command_cause}
use Rattle.script_run_texts.specs.declared.command_stop.CommandStop.{CommandStop}
use Rattle.script_run_texts.specs.declared.command_stop.CommandStop.TheVariants as commands
use Rattle.script_run_texts.specs.declared.line_result.LineResult.{LineResult}
use Rattle.script_run_texts.specs.declared.line_result.LineResult.TheVariants as line_results
use Rattle.sse_script.specs.Shown as says
use Rattle.def_script_meaning.specs.Exchange.{Told}
use Rattle.sse_client.proofs.DocumentCollected.{IsAnswer, inside}
use Rattle.sse_client.specs.Exchanges.{HasCut, HasExchanged, search_frames}
use Rattle.sse_client.specs.Queried.{HasChosen, QueriedFor, HasQueried, StopsQuery}

pub none_refused : (fields : List (List ℕ)) → query_refusal fields ≡ None → fields_refusal fields ≡ None
none_refused fields good = ap (option_and_then query_refused) good

module _ (f : KeyedFn) (key : List ℕ) (fields : List (List ℕ)) (old new : Told) where
  -- a query that was read, and what it chose
  pub queried-chosen : (query : Query) (came : LineResult) (ids : List ℕ) → query_of (signs_of fields) ≡ Some (tree_in query) → words_in query ≡ words_of fields → query_refusal fields ≡ None
      → HasChosen old new (search_frames f key (words_in query)) (length (words_in query)) (chosen (tree_in query)) ids → line_result_view came ≡ says.Matched ids ∷ [] → refuses came ≡ false → HasQueried f key fields old new came
  queried-chosen query came ids tree words good h view fine =
      subst (λ r. QueriedFor r f key fields old new came) (sym (none_refused fields good)) (
        ids,
        view,
        fine,
        record {
          answers = h.answers;
          exchanged = subst (λ ws. HasExchanged old new h.answers (search_frames f key ws)) words h.exchanged;
          each = h.each ∙ ap length words;
          chosen = h.chosen ∙ ap (λ q. chosen_if q (map in_order h.answers)) (sym tree);
        },
      )

  -- or was cut in its searches
  pub query-cut : (query : Query) (c : says.Cause) → words_in query ≡ words_of fields → query_refusal fields ≡ None → HasCut old new (search_frames f key (words_in query)) c → StopsQuery f key fields old new c
  query-cut query c words good cut = inr (none_refused fields good, subst (λ ws. HasCut old new (search_frames f key ws) c) words cut)

module _ (f : KeyedFn) (key : List ℕ) (fields : List (List ℕ)) (now : Told) (fault : QueryFault) (bad : fault ≢ queries.NoMemory → query_refusal fields ≡ Some fault) where
  -- fields that are no query
  pub queried-refused : {T : Type 0} (line : LineFault) (answer : Result LineResult CommandStop) (came : LineResult) → fault_refusal line ≡ query_refused fault → IsAnswer {T = T} (Err line) answer → answer ≡ Ok came
      → HasQueried f key fields now now came
  queried-refused (faults.Refused refusal) answer came same a ok =
      let is : came ≡ line_results.Refused refusal = inside came (line_results.Refused refusal) answer ok (a.refused refusal refl) in
      let no : fault ≢ queries.NoMemory = λ memory. absurd (let none : Some refusal ≡ None = same ∙ ap query_refused memory in cc) in
      let for : fields_refusal fields ≡ Some refusal = ap (option_and_then query_refused) (bad no) ∙ sym same in
      subst (λ r. QueriedFor r f key fields now now came) (sym for) (is, refl)
  queried-refused faults.NoMemory answer came same a ok = absurd (let no : Ok came ≡ Err commands.Memory = sym ok ∙ a.memory refl in cc)

  pub query-unread : {T : Type 0} (line : LineFault) (answer : Result LineResult CommandStop) (stop : CommandStop) → IsAnswer {T = T} (Err line) answer → answer ≡ Err stop → StopsQuery f key fields now now (command_cause stop)
  query-unread (faults.Refused refusal) answer stop a err = absurd (let no : Err stop ≡ Ok (line_results.Refused refusal) = sym err ∙ a.refused refusal refl in cc)
  query-unread faults.NoMemory answer stop a err =
      let is : commands.Memory ≡ stop = cc (a.memory refl, err) in
      inl (ap command_cause (sym is), refl)
