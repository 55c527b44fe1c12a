use Rattle.std.proofs.Common.{[], ◌+◌, Bool, Err, refl, ◌∙◌, arith}
use Rattle.keyed_fn.specs.KeyedFn.{keyed_fn}
use Rattle.vault_shelf.specs.OpenedView.{text_in}
use Rattle.doc_vault.proofs.CountLaws.{counts-stopped, counts-then, shows-none}
use Rattle.vault_restore.specs.Restores.{number_stop}
use Rattle.vault_restore.specs.Slots.{line_of}
use Rattle.vault_restore.proofs.ScanLaws.{few_lines, last_within, scan-begins, scan-finished, scan-more, scan-stopped, scan-unfit}
use Rattle.vault_restore.proofs.scan.scan.Goals as goal

pub loop-v-init : goal.loop-v-init
loop-v-init g c = record {
  room = c.requires;
  bound = omega arith;
  few = omega arith;
  most = omega arith;
  scanned = scan-begins (keyed_fn g.K.Keyed.prf g.K.Keyed.pad) c.args.tools.now.keys _;
  counts = λ others. refl;
}

pub returns-in_err-slot-clause-scans : goal.returns-in_err-slot-clause-scans
returns-in_err-slot-clause-scans g c =
    scan-stopped (keyed_fn g.K.Keyed.prf g.K.Keyed.pad) c.args.tools.now.keys c.args.n c.loop-v.v c.loop-v.texts c.loop-v.last _ _ _ c.loop-v.forged c.from_residual.result c.in_err-slot.field-0.0 c.from_residual.ensures.1 c.loop-v.invariant.scanned c.loop-v-test.true
    c.in_err-slot.ensures.visits

pub loop-v-preserved : goal.loop-v-preserved
loop-v-preserved g c =
    let text = text_in c.visit.new.text in
    let id = c.loop-v.v + 1 in record {
      room = omega (arith, c.visit.auto.reply, c.loop-v.invariant.room);
      bound = omega (arith, c.loop-v-test.true);
      few = omega (arith, c.texts-texts.ensures 0 [], few_lines (line_of c.in_ok-slot.slot 0 []), c.loop-v.invariant.few);
      most = omega (
        arith,
        c.last-last.ensures 0 [],
        last_within (line_of c.in_ok-slot.slot 0 []) c.loop-v.last c.loop-v.v c.loop-v.invariant.most,
      );
      scanned = scan-more (keyed_fn g.K.Keyed.prf g.K.Keyed.pad) c.args.tools.now.keys c.loop-v.v c.loop-v.texts c.loop-v.last _ _ _ c.in_ok-slot.slot text _ _ _ c.loop-v.forged c.either-forged.result c.is_forged.result c.texts-texts.result c.loop-v.invariant.scanned
          c.in_ok-slot.ensures.visits c.loop-v.invariant.most refl (c.texts-texts.ensures id text) refl (c.last-last.ensures id text) (c.is_forged.ensures id text) c.either-forged.ensures;
      counts = λ others. c.in_ok-slot.ensures.counts others ∙ c.loop-v.invariant.counts others;
    }

pub returns-in_err-slot-clause-counts : goal.returns-in_err-slot-clause-counts
returns-in_err-slot-clause-counts g c others =
    counts-then _ _ _ c.from_residual.result (c.loop-v.invariant.counts others) (counts-stopped _ _ c.from_residual.result c.in_err-slot.field-0.0 c.from_residual.ensures.1 (c.in_err-slot.ensures.counts others))

pub returns-then-not-adds_up-clause-counts : goal.returns-then-not-adds_up-clause-counts
returns-then-not-adds_up-clause-counts g c others =
    counts-then {T = Bool} _ _ _ (Err c.wrong_number.result) (c.loop-v.invariant.counts others)
    (counts-stopped {T = Bool} _ _ (Err c.wrong_number.result) (number_stop c.args.n) c.wrong_number.ensures (shows-none _ (number_stop c.args.n) (λ e. cc) (λ e. cc) (λ e. cc) (λ e. cc)))

pub returns-then-not-adds_up-clause-scans : goal.returns-then-not-adds_up-clause-scans
returns-then-not-adds_up-clause-scans g c =
    scan-unfit (keyed_fn g.K.Keyed.prf g.K.Keyed.pad) c.args.tools.now.keys c.args.n c.loop-v.v c.loop-v.texts c.loop-v.last _ _ c.loop-v.forged c.loop-v.invariant.scanned (omega (arith, c.loop-v-test.false, c.loop-v.invariant.bound))
    (c.adds_up.ensures.no c.if-not-adds_up.true) c.wrong_number.result c.wrong_number.ensures

pub returns-clause-scans : goal.returns-clause-scans
returns-clause-scans g c =
    scan-finished (keyed_fn g.K.Keyed.prf g.K.Keyed.pad) c.args.tools.now.keys c.args.n c.loop-v.v c.loop-v.texts c.loop-v.last _ _ c.loop-v.forged c.loop-v.invariant.scanned (omega (arith, c.loop-v-test.false, c.loop-v.invariant.bound))
    (c.adds_up.ensures.yes c.if-not-adds_up.false)
