use Rattle.std.proofs.Common.{◌≡◌, ◌≤◌, length, map, take, vec_capacity, vec_len}
use Rattle.client_registry.specs.WordBytes.{word_bytes}
use Rattle.keyed_fn.specs.KeyedFn.{keyed_fn}
use Rattle.sse_client.specs.Exchanges.{HasCut, HaveSearched, search_frames}
use Rattle.sse_script.specs.Shown as says
use Rattle.sse_client.proofs.search_run.search_all.Given as goal

abbrev pub invariant-loop-word : goal.invariant-loop-word
invariant-loop-word g l = record {
  began : g.L.Link.began l.link ≡ g.L.Link.began l.fn.link;
  steady : g.L.Link.faults l.link ≡ g.L.Link.faults l.fn.link;
  count : vec_len l.lists ≡ l.word-index;
  room : length l.words ≤ vec_capacity l.lists;
  searched : HaveSearched (g.L.Link.transcript l.fn.link) (g.L.Link.transcript l.link)
      (search_frames (keyed_fn g.K.Keyed.prf g.K.Keyed.pad) l.fn.client.key (map word_bytes (take l.word-index l.words))) (map (λ list. list.items) l.lists.items);
  spent : 1 ≤ l.word-index → HasCut (g.L.Link.transcript l.fn.link) (g.L.Link.transcript l.link)
      (search_frames (keyed_fn g.K.Keyed.prf g.K.Keyed.pad) l.fn.client.key (map word_bytes l.words)) says.NoMemory;
}
