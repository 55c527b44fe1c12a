use Rattle.std.proofs.Common.{subst, sym}
use Rattle.keyed_fn.specs.KeyedFn.{keyed_fn}
use Rattle.sse_served.specs.Asked.{mode_view}
use Rattle.sse_served.specs.Program.{ServesMode}
use Rattle.sse_served.proofs.program.serve_mode.Goals as goal

pub returns-in-OneArchive : goal.returns-in-OneArchive
returns-in-OneArchive g c =
    subst (λ mode. ServesMode (keyed_fn g.K.Keyed.prf g.K.Keyed.pad) g.D.Disk.content g.D.Disk.images g.D.Disk.faults g.C.In.Source.remaining g.C.Out.Sink.written g.C.Conns.offered g.C.Conns.returned
    g.C.Conns.given g.C.Conns.lent g.C.Conns.faults g.C.Conns.ended (mode_view mode) c.serve_all.result c.args.disk.now c.args.conns.now c.serve_all.new.disk c.serve_all.new.conns)
    (sym c.in-OneArchive.is)
    (record {
      served = c.serve_all.ensures.served;
      all = c.serve_all.ensures.all;
      few = c.serve_all.ensures.few;
      none_lent = c.serve_all.ensures.none_lent;
      link = c.serve_all.ensures.link;
      link_served = c.serve_all.ensures.link_served;
      memory = c.serve_all.ensures.memory;
      disk_failed = c.serve_all.ensures.disk;
      disk_served = c.serve_all.ensures.disk_served;
      no_journal = c.serve_all.ensures.no_journal;
      no_journal_untouched = c.serve_all.ensures.no_journal_untouched;
      no_journal_refused = c.serve_all.ensures.no_journal_refused;
      journal_taken = c.serve_all.ensures.journal_taken;
    })

pub returns-in-Owners : goal.returns-in-Owners
returns-in-Owners g c =
    subst (λ mode. ServesMode (keyed_fn g.K.Keyed.prf g.K.Keyed.pad) g.D.Disk.content g.D.Disk.images g.D.Disk.faults g.C.In.Source.remaining g.C.Out.Sink.written g.C.Conns.offered g.C.Conns.returned
    g.C.Conns.given g.C.Conns.lent g.C.Conns.faults g.C.Conns.ended (mode_view mode) c.serve_all_owners.result c.args.disk.now c.args.conns.now c.serve_all_owners.new.disk c.serve_all_owners.new.conns)
    (sym c.in-Owners.is)
    (record {
      served = c.serve_all_owners.ensures.served;
      all = c.serve_all_owners.ensures.all;
      few = c.serve_all_owners.ensures.few;
      none_lent = c.serve_all_owners.ensures.none_lent;
      link = c.serve_all_owners.ensures.link;
      link_served = c.serve_all_owners.ensures.link_served;
      memory = c.serve_all_owners.ensures.memory;
      disk_failed = c.serve_all_owners.ensures.disk;
      disk_served = c.serve_all_owners.ensures.disk_served;
      no_journal = c.serve_all_owners.ensures.no_journal;
      no_journal_untouched = c.serve_all_owners.ensures.no_journal_untouched;
      no_journal_refused = c.serve_all_owners.ensures.no_journal_refused;
      journal_taken = c.serve_all_owners.ensures.journal_taken;
    })
