use Rattle.std.proofs.Common.{true, false, [], ◌∷◌, Err, sym, ap, subst, arith, ◌∙◌}
use Rattle.client_replies.specs.Pages.{IsNextPage, is_done}
use Rattle.client_registry.specs.WordBytes.{word_bytes}
use Rattle.keyed_fn.specs.KeyFormulas.{token_of}
use Rattle.keyed_fn.specs.KeyedFn.{IsKeyedFn, keyed_fn}
use Rattle.sse_frames.specs.Frames.{SearchFrame}
use Rattle.sse_frames.specs.ReadOutcomes.{IsReply}
use Rattle.sse_frames.specs.Replies.{Page}
use Rattle.def_link_events.specs.Events.{Received}
use Rattle.sse_model.proofs.KeyValues.{IsValue-table}
use Rattle.sse_model.specs.Names.{name, Token}
use Rattle.script_run_texts.specs.Causes.{PeerCause}
use Rattle.script_run_texts.specs.Stops.{peer_cause}
use Rattle.script_run_texts.specs.declared.peer_stop.PeerStop.TheVariants.{Memory}
use Rattle.def_script_meaning.specs.Exchange.{Adds}
use Rattle.sse_client.specs.Exchanges.{HasCut}
use Rattle.sse_client.proofs.CountsAtStop.{PeerCause-fault, page_no_store, store_refused}
use Rattle.sse_client.proofs.OwnMemory.{own_cut, at_error, token_size}
use Rattle.sse_client.proofs.PagesPassed.{HasSearched-last, HasCut-reading, HasCut-refused}
use Rattle.sse_client.proofs.PartOfExchange.{IsBegun-unanswered, HasCut-begun}
use Rattle.sse_client.proofs.TranscriptsJoined.{IfErr-from, Adds-same}
use Rattle.sse_client.proofs.PagesUnderWay.{IsReading-next}
use Rattle.sse_client.proofs.search_run.search.Goals as goal

-- the token of a word has 160 bytes
pub send-requires : goal.send-requires
send-requires g c =
    let f = keyed_fn g.K.Keyed.prf g.K.Keyed.pad in
    let laws : IsKeyedFn f = record {
      prf_length = g.met.K.Keyed.prf_length;
      prf_bytes = g.met.K.Keyed.prf_bytes;
      pad_length = g.met.K.Keyed.pad_length;
      pad_bytes = g.met.K.Keyed.pad_bytes;
      pad_prefix = g.met.K.Keyed.pad_prefix;
    } in
    let key = c.args.client.now.key in
    let word = word_bytes c.args.word.now in
    record {
      frame = record {
        frame = SearchFrame (token_of f key word);
        grammar = IsValue-table f laws (record { b = 1; big = 1 }) (λ epoch. key) (name 0 word Token 0);
        spelled = c.search_frame.ensures;
      };
    }

pub pages-preserved : goal.pages-preserved
pages-preserved g c =
    let old = g.L.Link.transcript c.args.link.now in
    let now = g.L.Link.transcript c.pages.link in
    let new = g.L.Link.transcript c.receive.new.link in
    let token = token_of (keyed_fn g.K.Keyed.prf g.K.Keyed.pad) c.args.client.now.key (word_bytes c.args.word.now) in
    let reply = c.reply-reply.result.now in
    let one : Adds now new (Received reply ∷ []) = Adds-same now new c.receive.new.self reply c.reply-reply.ensures c.in_ok-receive.ensures.told in
    let after = c.in-Ok-More.ensures.after in
    let page : IsNextPage c.pages.found.pages reply false after.0 = subst (λ last. IsNextPage c.pages.found.pages reply last after.0) (ap is_done c.in-Ok-More.field-0-is) after.1 in
    record {
      due = c.in_ok-receive.ensures.due.1 (record { ids = after.0; is = subst (IsReply (Page false after.0)) c.reply-reply.ensures page.reply });
      began = c.receive.ensures.began ∙ c.pages.invariant.began;
      steady = c.in_ok-receive.ensures.steady (λ e. page_no_store c.pages.found.pages reply false after.0 page (c.reply-reply.ensures ∙ e)) ∙ c.pages.invariant.steady;
      few = omega (arith, page.within, after.3);
      reading =
          IsReading-next old now new token c.pages.found.ids c.page.new.self.ids c.pages.found.pages c.page.new.self.pages reply after.0 c.pages.invariant.reading one page after.2 after.3;
    }

pub returns-in_err-send-clause-stopped : goal.returns-in_err-send-clause-stopped
returns-in_err-send-clause-stopped g c =
    let old = g.L.Link.transcript c.args.link.now in
    let new = g.L.Link.transcript c.send.new.link in
    let frame = SearchFrame (token_of (keyed_fn g.K.Keyed.prf g.K.Keyed.pad) c.args.client.now.key (word_bytes c.args.word.now)) in
    let stop = c.in_err-send.field-0.0 in
    IfErr-from c.from_residual.result stop (λ e. HasCut old new (frame ∷ []) (peer_cause e)) c.from_residual.ensures.1
    (HasCut-begun old new frame [] (peer_cause stop) (IsBegun-unanswered old new c.search_frame.result frame (peer_cause stop) tt c.search_frame.ensures c.in_err-send.ensures.unanswered))

pub returns-in_err-receive-clause-stopped : goal.returns-in_err-receive-clause-stopped
returns-in_err-receive-clause-stopped g c =
    let old = g.L.Link.transcript c.args.link.now in
    let now = g.L.Link.transcript c.pages.link in
    let new = g.L.Link.transcript c.receive.new.link in
    let token = token_of (keyed_fn g.K.Keyed.prf g.K.Keyed.pad) c.args.client.now.key (word_bytes c.args.word.now) in
    let stop = c.in_err-receive.field-0.0 in
    IfErr-from c.from_residual-in_err-receive.result stop (λ e. HasCut old new (SearchFrame token ∷ []) (peer_cause e)) c.from_residual-in_err-receive.ensures.1
    (HasCut-reading old now new token c.pages.found.ids c.pages.found.pages (peer_cause stop) c.pages.invariant.reading c.pages.invariant.few c.in_err-receive.ensures.untold c.in_err-receive.ensures.outside)

pub returns-in-Ok-Done-clause-found : goal.returns-in-Ok-Done-clause-found
returns-in-Ok-Done-clause-found g c =
    let old = g.L.Link.transcript c.args.link.now in
    let now = g.L.Link.transcript c.pages.link in
    let new = g.L.Link.transcript c.receive.new.link in
    let token = token_of (keyed_fn g.K.Keyed.prf g.K.Keyed.pad) c.args.client.now.key (word_bytes c.args.word.now) in
    let reply = c.reply-reply.result.now in
    let one : Adds now new (Received reply ∷ []) = Adds-same now new c.receive.new.self reply c.reply-reply.ensures c.in_ok-receive.ensures.told in
    let after = c.in-Ok-Done.ensures.after in
    let page : IsNextPage c.pages.found.pages reply true after.0 = subst (λ last. IsNextPage c.pages.found.pages reply last after.0) (ap is_done c.in-Ok-Done.field-0-is) after.1 in
    HasSearched-last old now new token c.pages.found.ids c.page.new.self.ids c.finish.result.items c.pages.found.pages reply after.0 c.pages.invariant.reading
    one page after.2 c.finish.ensures

pub returns-in-Err-clause-stopped : goal.returns-in-Err-clause-stopped
returns-in-Err-clause-stopped g c =
    let old = g.L.Link.transcript c.args.link.now in
    let now = g.L.Link.transcript c.pages.link in
    let new = g.L.Link.transcript c.receive.new.link in
    let token = token_of (keyed_fn g.K.Keyed.prf g.K.Keyed.pad) c.args.client.now.key (word_bytes c.args.word.now) in
    let reply = c.reply-reply.result.now in
    let one : Adds now new (Received reply ∷ []) = Adds-same now new c.receive.new.self reply c.reply-reply.ensures c.in_ok-receive.ensures.told in
    subst (HasCut old new (SearchFrame token ∷ [])) (sym c.stop_of_reply.ensures.cause)
    (HasCut-refused old now new token c.pages.found.ids c.pages.found.pages reply c.in-Err.fault c.pages.invariant.reading c.pages.invariant.few one c.in-Err.ensures.after.0)

pub returns-in-Ok-Done-clause-keeps : goal.returns-in-Ok-Done-clause-keeps
returns-in-Ok-Done-clause-keeps g c =
    let reply = c.reply-reply.result.now in
    let after = c.in-Ok-Done.ensures.after in
    let page : IsNextPage c.pages.found.pages reply true after.0 = subst (λ last. IsNextPage c.pages.found.pages reply last after.0) (ap is_done c.in-Ok-Done.field-0-is) after.1 in
    record {
      began = c.receive.ensures.began ∙ c.pages.invariant.began;
      steady = c.in_ok-receive.ensures.steady (λ e. page_no_store c.pages.found.pages reply true after.0 page (c.reply-reply.ensures ∙ e)) ∙ c.pages.invariant.steady;
      cause = tt;
    }

pub returns-in-Err-clause-keeps : goal.returns-in-Err-clause-keeps
returns-in-Err-clause-keeps g c =
    let reply = c.reply-reply.result.now in
    let new = g.L.Link.faults c.receive.new.link in
    record {
      began = c.receive.ensures.began ∙ c.pages.invariant.began;
      steady = tt;
      cause = subst (λ before. PeerCause before new c.stop_of_reply.result) c.pages.invariant.steady
          (PeerCause-fault (g.L.Link.faults c.pages.link) new reply c.in-Err.fault (λ e. c.in-Err.ensures.store (ap Err e)) (store_refused c.pages.found.pages reply c.in-Err.fault c.in-Err.ensures.after.0)
          (λ e. c.in_ok-receive.ensures.store_fault (sym c.reply-reply.ensures ∙ e)) (λ other. c.in_ok-receive.ensures.steady (λ e. other (c.reply-reply.ensures ∙ e)))
          c.stop_of_reply.result c.stop_of_reply.ensures.link c.stop_of_reply.ensures.store);
    }

pub returns-in_err-send-clause-own_memory : goal.returns-in_err-send-clause-own_memory
returns-in_err-send-clause-own_memory g c is =
    let f = keyed_fn g.K.Keyed.prf g.K.Keyed.pad in
    let laws : IsKeyedFn f = record {
      prf_length = g.met.K.Keyed.prf_length;
      prf_bytes = g.met.K.Keyed.prf_bytes;
      pad_length = g.met.K.Keyed.pad_length;
      pad_bytes = g.met.K.Keyed.pad_bytes;
      pad_prefix = g.met.K.Keyed.pad_prefix;
    } in
    let key = c.args.client.now.key in
    let word = word_bytes c.args.word.now in
    let old = g.L.Link.transcript c.args.link.now in
    let new = g.L.Link.transcript c.send.new.link in
    let token = token_of f key word in
    own_cut f old new token (peer_cause Memory) (token_size f laws key word) (at_error _ Memory (λ stop. HasCut old new (SearchFrame token ∷ []) (peer_cause stop)) (returns-in_err-send-clause-stopped g c) is)

pub returns-in_err-receive-clause-own_memory : goal.returns-in_err-receive-clause-own_memory
returns-in_err-receive-clause-own_memory g c is =
    let f = keyed_fn g.K.Keyed.prf g.K.Keyed.pad in
    let laws : IsKeyedFn f = record {
      prf_length = g.met.K.Keyed.prf_length;
      prf_bytes = g.met.K.Keyed.prf_bytes;
      pad_length = g.met.K.Keyed.pad_length;
      pad_bytes = g.met.K.Keyed.pad_bytes;
      pad_prefix = g.met.K.Keyed.pad_prefix;
    } in
    let key = c.args.client.now.key in
    let word = word_bytes c.args.word.now in
    let old = g.L.Link.transcript c.args.link.now in
    let new = g.L.Link.transcript c.receive.new.link in
    let token = token_of f key word in
    own_cut f old new token (peer_cause Memory) (token_size f laws key word) (at_error _ Memory (λ stop. HasCut old new (SearchFrame token ∷ []) (peer_cause stop)) (returns-in_err-receive-clause-stopped g c) is)

pub returns-in-Err-clause-own_memory : goal.returns-in-Err-clause-own_memory
returns-in-Err-clause-own_memory g c is =
    let f = keyed_fn g.K.Keyed.prf g.K.Keyed.pad in
    let laws : IsKeyedFn f = record {
      prf_length = g.met.K.Keyed.prf_length;
      prf_bytes = g.met.K.Keyed.prf_bytes;
      pad_length = g.met.K.Keyed.pad_length;
      pad_bytes = g.met.K.Keyed.pad_bytes;
      pad_prefix = g.met.K.Keyed.pad_prefix;
    } in
    let key = c.args.client.now.key in
    let word = word_bytes c.args.word.now in
    let old = g.L.Link.transcript c.args.link.now in
    let new = g.L.Link.transcript c.receive.new.link in
    let token = token_of f key word in
    own_cut f old new token (peer_cause c.stop_of_reply.result) (token_size f laws key word) (returns-in-Err-clause-stopped g c)
