use Rattle.std.proofs.Common.{◌≡◌, ◌-◌, ◌≤◌, ◌^◌, true}
use Rattle.client_registry.specs.WordBytes.{word_bytes}
use Rattle.keyed_fn.specs.KeyFormulas.{token_of}
use Rattle.keyed_fn.specs.KeyedFn.{keyed_fn}
use Rattle.sse_client.proofs.PagesUnderWay.{IsReading}
use Rattle.sse_client.proofs.search_run.search.Given as goal

abbrev pub invariant-pages : goal.invariant-pages
invariant-pages g l = record {
  due : g.L.Link.reply_due l.link ≡ true;
  began : g.L.Link.began l.link ≡ g.L.Link.began l.fn.link;
  steady : g.L.Link.faults l.link ≡ g.L.Link.faults l.fn.link;
  few : l.found.pages ≤ 2 ^ 20;
  reading : IsReading (g.L.Link.transcript l.fn.link) (g.L.Link.transcript l.link)
      (token_of (keyed_fn g.K.Keyed.prf g.K.Keyed.pad) l.fn.client.key (word_bytes l.fn.word)) l.found.ids l.found.pages;
}

abbrev pub decreases-pages : goal.decreases-pages
decreases-pages g l = 2 ^ 20 - l.found.pages
