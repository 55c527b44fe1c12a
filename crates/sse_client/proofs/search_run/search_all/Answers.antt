use Rattle.std.proofs.Common.{[], ◌∷◌, ◌+◌, List, ℕ, Vec, Global, map, rules, take, refl, sym, ap, subst, ◌∙◌, arith}
use Rattle.std.proofs.lemmas.List.{map-append}
use Rattle.client_registry.specs.WordBytes.{word_bytes}
use Rattle.def_script_meaning.proofs.GoneAsMeant.{Adds-nothing, AreExchanged-none}
use Rattle.keyed_fn.specs.KeyedFn.{keyed_fn}
use Rattle.script_run_texts.specs.Stops.{peer_cause}
use Rattle.script_run_texts.specs.declared.peer_stop.PeerStop.TheVariants as peers
use Rattle.sse_client.proofs.TranscriptsJoined.{IfErr-from}
use Rattle.sse_client.proofs.WordsSearched.{HasCut-none, searched_more, cut_here, frames_of_some, some_of}
use Rattle.sse_client.specs.Exchanges.{HasCut, HaveSearched, search_frames}
use Rattle.sse_script.specs.Shown as says
use Rattle.sse_client.proofs.search_run.search_all.Goals as goal

pub loop-word-init : goal.loop-word-init
loop-word-init g c = record {
  began = refl;
  steady = refl;
  count = search rules;
  room = search rules;
  searched = record {
    answers = [];
    exchanged = record { events = []; adds = Adds-nothing (g.L.Link.transcript c.args.link.now); exchanged = AreExchanged-none };
    rising = search rules;
  };
  spent = λ some. absurd (omega (arith, some));
}

pub returns-in_err-lists-clause-stopped : goal.returns-in_err-lists-clause-stopped
returns-in_err-lists-clause-stopped g c =
    let f = keyed_fn g.K.Keyed.prf g.K.Keyed.pad in
    let key = c.args.client.now.key in
    let told = g.L.Link.transcript c.args.link.now in
    let frames = search_frames f key (map word_bytes c.args.words.now) in
    IfErr-from c.from_residual.result peers.Memory (λ stop. HasCut told told frames (peer_cause stop)) c.from_residual.ensures.1
    (HasCut-none told frames (frames_of_some f key c.args.words.now c.requires.some))

pub returns-in_err-search-clause-stopped : goal.returns-in_err-search-clause-stopped
returns-in_err-search-clause-stopped g c =
    let f = keyed_fn g.K.Keyed.prf g.K.Keyed.pad in
    let key = c.args.client.now.key in
    let old = g.L.Link.transcript c.args.link.now in
    let now = g.L.Link.transcript c.loop-word.link in
    let new = g.L.Link.transcript c.search.new.link in
    let words = c.args.words.now in
    let stop = c.in_err-search.field-0.0 in
    IfErr-from c.from_residual-in_err-search.result stop (λ e. HasCut old new (search_frames f key (map word_bytes words)) (peer_cause e)) c.from_residual-in_err-search.ensures.1
    (cut_here f key words c.loop-word.word-index c.word-item.result c.loop-word-test.true c.word-item.is old now new _ (peer_cause stop) c.loop-word.invariant.searched c.in_err-search.ensures.stopped)

pub loop-word-preserved : goal.loop-word-preserved
loop-word-preserved g c =
    let f = keyed_fn g.K.Keyed.prf g.K.Keyed.pad in
    let key = c.args.client.now.key in
    let old = g.L.Link.transcript c.args.link.now in
    let now = g.L.Link.transcript c.loop-word.link in
    let new = g.L.Link.transcript c.search.new.link in
    let words = c.args.words.now in
    let i = c.loop-word.word-index in
    let word = c.word-item.result in
    let items : Vec ℕ Global → List ℕ = λ list. list.items in
    let lists = c.loop-word.lists.items in
    let found = c.in_ok-search.field-0 in
    record {
      began = c.in_ok-search.ensures.keeps.began ∙ c.loop-word.invariant.began;
      steady = c.in_ok-search.ensures.keeps.steady ∙ c.loop-word.invariant.steady;
      count = omega (arith, c.push_reserved.ensures.len, c.loop-word.invariant.count);
      room = omega (arith, c.push_reserved.ensures.capacity, c.loop-word.invariant.room);
      searched =
          subst (λ ls. HaveSearched old new (search_frames f key (map word_bytes (take (i + 1) words))) ls) (sym (ap (map items) c.push_reserved.ensures.items ∙ map-append items lists (found ∷ [])))
          (searched_more f key words i word c.loop-word-test.true c.word-item.is old now new (map items lists) found.items c.loop-word.invariant.searched c.in_ok-search.ensures.found);
      spent = λ some. cut_here f key words i word c.loop-word-test.true c.word-item.is old now new (map items lists) says.NoMemory c.loop-word.invariant.searched c.in_ok-search.ensures.found.out_of_memory;
    }

pub returns-clause-spent : goal.returns-clause-spent
returns-clause-spent g c = c.loop-word.invariant.spent (omega (arith, some_of c.args.words.now c.requires.some, c.loop-word-test.false))
