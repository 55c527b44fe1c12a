use Rattle.std.proofs.Common.{◌≡◌, Some, inl, map, refl, sym, ap, ◌∙◌}
use Rattle.std.specs.Prelude.{string_bytes}
use Rattle.script_run_texts.specs.Words.{More, RunOn, disk_mode_of, disk_mode_view}
use Rattle.client_journal.proofs.Counts.{devices-idle}
use Rattle.client_journal.proofs.Counts.{counts-took}
use Rattle.sse_client.proofs.NoRecord.{refused_ten}
use Rattle.sse_client.proofs.WholeRun.{IfSome-then}
use Rattle.sse_client.proofs.on_disk.run_on_disk.Goals as goal

pub returns-in-Some-Run-clause-begun : goal.returns-in-Some-Run-clause-begun
returns-in-Some-Run-clause-begun g c = λ asked. record { begun = c.begin_run.ensures.begun; refused = c.begin_run.ensures.refused; exact = c.begin_run.ensures.exact }

pub returns-in-Some-More-clause-more : goal.returns-in-Some-More-clause-more
returns-in-Some-More-clause-more g c = λ asked. record {
  gone_on = c.more.ensures.more;
  accepted = c.more.ensures.accepted;
  refused = refused_ten c.args.source.now c.more.new.source (g.L.Link.transcript c.args.link.now) (g.L.Link.transcript c.more.new.link) (g.D.Disk.content c.args.disk) (g.D.Disk.content c.more.result.1) _ _ c.more.result.0 c.more.ensures.refused;
  exact = c.more.ensures.exact;
}

pub returns-in-None-clause-other : goal.returns-in-None-clause-other
returns-in-None-clause-other g c = λ asked. record { says = record { unread = refl; status_is = c.finish.ensures.status; line = c.finish.ensures.line }; unsent = refl; unkept = refl }

pub returns-in-None-clause-devices : goal.returns-in-None-clause-devices
returns-in-None-clause-devices g c = record {
  tells = devices-idle _ _ _ _ _ _ c.finish.result c.finish.ensures.status;
  began = refl;
  line = counts-took _ _ _ c.finish.result _ _ _ _ c.finish.ensures.line;
}

pub returns-in-Some-Run-clause-no_record : goal.returns-in-Some-Run-clause-no_record
returns-in-Some-Run-clause-no_record g c =
    let mode : Some RunOn ≡ disk_mode_of (map (λ word. string_bytes word) c.args.words.now) = ap (λ m. Some (disk_mode_view m)) (sym c.in-Some-Run.field-0-is) ∙ c.in-Some-Run.ensures.mode in
    IfSome-then (g.D.Disk.content c.args.disk) _ _ (λ file low none. record { begun = λ asked. low none; refused = λ asked. absurd (let no : Some RunOn ≡ Some More = mode ∙ asked in cc) }) c.begin_run.ensures.no_record

pub returns-in-Some-More-clause-no_record : goal.returns-in-Some-More-clause-no_record
returns-in-Some-More-clause-no_record g c =
    let mode : Some More ≡ disk_mode_of (map (λ word. string_bytes word) c.args.words.now) = ap (λ m. Some (disk_mode_view m)) (sym c.in-Some-More.field-0-is) ∙ c.in-Some-More.ensures.mode in
    IfSome-then (g.D.Disk.content c.args.disk) _ _ (λ file refused none. record { begun = λ asked. absurd (let no : Some More ≡ Some RunOn = mode ∙ asked in cc); refused = λ asked. refused (inl none) }) c.more.ensures.refused
