use Rattle.std.proofs.Common.{List, ℕ, sym, ap, ◌∙◌}
use Rattle.client_rebuild.proofs.Finished.{ends_elsewhere, ends_nowhere_else, ends_under}
use Rattle.client_rebuild.specs.Rebuilds.{ends_otherwise}
use Rattle.client_rebuild.proofs.rebuild.Rebuild.finish.Goals as goal

pub returns-then-is_another-clause-wrong : goal.returns-then-is_another-clause-wrong
returns-then-is_another-clause-wrong c = λ payloads took err.
    ends_elsewhere _ c.args.self.mark c.args.self.marks.items payloads c.args.self.last took
    (ap (λ (ms : List (List ℕ)). ends_otherwise ms c.args.self.mark) (sym c.as_slice.ensures.value) ∙ sym c.is_another.ensures ∙ c.if-is_another.true)

pub returns-clause-finished : goal.returns-clause-finished
returns-clause-finished c = λ payloads took.
    record {
      taken = took;
      under = ends_under _ c.args.self.mark c.args.self.marks.items payloads c.args.self.last took
          (ap (λ (ms : List (List ℕ)). ends_otherwise ms c.args.self.mark) (sym c.as_slice.ensures.value) ∙ sym c.is_another.ensures ∙ c.if-is_another.false);
    }

pub returns-clause-elsewhere : goal.returns-clause-elsewhere
returns-clause-elsewhere c = λ payloads took other.
    absurd (ends_nowhere_else _ c.args.self.mark c.args.self.marks.items payloads c.args.self.last took
    (ap (λ (ms : List (List ℕ)). ends_otherwise ms c.args.self.mark) (sym c.as_slice.ensures.value) ∙ sym c.is_another.ensures ∙ c.if-is_another.false) other)
