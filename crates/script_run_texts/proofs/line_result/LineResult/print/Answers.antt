use Rattle.std.proofs.Common.{◌≡◌, ℕ, List, [], ◌∷◌, flat_map, sym, ap, subst, ◌∙◌}
use Rattle.std.specs.Prelude.{OnOk, OnErr}
use Rattle.sse_outside.specs.Fronts.{TookFront}
use Rattle.std.specs.Io.KnownBytes.{append_known}
use Rattle.std.proofs.lemmas.List.{append-nil}
use Rattle.sse_script.specs.Shown as says
use Rattle.sse_script.specs.Texts.{text_of}
use Rattle.script_run_texts.specs.LineResultViews.{line_result_view}
use Rattle.script_run_texts.specs.declared.line_result.LineResult.{LineResult}
use Rattle.script_run_texts.proofs.line_result.LineResult.print.Goals as goal

-- the text of an outcome that is one line of identifiers
ids_text : (line : List ℕ → says.Shown) (shown found : List ℕ) (came : LineResult) → shown ≡ found
    → flat_map text_of (line_result_view came) ≡ flat_map text_of (line found ∷ [])
    → text_of (line shown) ≡ flat_map text_of (line_result_view came)
ids_text line shown found came same is = ap (λ (ids : List ℕ). text_of (line ids)) same ∙ sym (append-nil (text_of (line found))) ∙ sym is

pub returns-in-Found-clause-all : goal.returns-in-Found-clause-all
returns-in-Found-clause-all g c =
    subst
    (λ (text : List ℕ). OnOk c.print-in-Found.result (g.W.Sink.written c.print-in-Found.new.sink ≡ append_known (g.W.Sink.written c.args.sink.now) text))
    (ids_text says.Found _ _ _ c.as_slice.ensures.value (ap (λ (came : LineResult). flat_map text_of (line_result_view came)) c.in-Found.is))
    c.print-in-Found.ensures.all

pub returns-in-Found-clause-front : goal.returns-in-Found-clause-front
returns-in-Found-clause-front g c =
    subst (λ (text : List ℕ). OnErr c.print-in-Found.result (TookFront (g.W.Sink.written c.args.sink.now) (g.W.Sink.written c.print-in-Found.new.sink) text))
    (ids_text says.Found _ _ _ c.as_slice.ensures.value (ap (λ (came : LineResult). flat_map text_of (line_result_view came)) c.in-Found.is))
    c.print-in-Found.ensures.front

pub returns-in-Matched-clause-all : goal.returns-in-Matched-clause-all
returns-in-Matched-clause-all g c =
    subst
    (λ (text : List ℕ). OnOk c.print-in-Matched.result (g.W.Sink.written c.print-in-Matched.new.sink ≡ append_known (g.W.Sink.written c.args.sink.now) text))
    (ids_text says.Matched _ _ _ c.as_slice-in-Matched.ensures.value (ap (λ (came : LineResult). flat_map text_of (line_result_view came)) c.in-Matched.is))
    c.print-in-Matched.ensures.all

pub returns-in-Matched-clause-front : goal.returns-in-Matched-clause-front
returns-in-Matched-clause-front g c =
    subst (λ (text : List ℕ). OnErr c.print-in-Matched.result (TookFront (g.W.Sink.written c.args.sink.now) (g.W.Sink.written c.print-in-Matched.new.sink) text))
    (ids_text says.Matched _ _ _ c.as_slice-in-Matched.ensures.value (ap (λ (came : LineResult). flat_map text_of (line_result_view came)) c.in-Matched.is))
    c.print-in-Matched.ensures.front
