-- A line that adds a document to those collected does what it is to do.
use Rattle.std.proofs.Common.{◌≡◌, List, [], ◌∷◌, ◌++◌}
use Rattle.std.specs.Prelude.{Option, None, Result, Ok, Err, OnOk, OnErr, IfErr}
use Rattle.client_registry.specs.Document.{Document}
use Rattle.sse_script.specs.declared.refusal.Refusal.{Refusal}
use Rattle.script_documents.specs.declared.line_fault.LineFault.{LineFault}
use Rattle.script_documents.specs.declared.line_fault.LineFault.TheVariants as faults
use Rattle.script_documents.specs.LineFaults.{SaysRefusal}
use Rattle.script_run_texts.specs.declared.line_result.LineResult.{LineResult}
use Rattle.script_run_texts.specs.declared.line_result.LineResult.TheVariants as line_results
use Rattle.script_run_texts.specs.declared.command_stop.CommandStop.{CommandStop}
use Rattle.script_run_texts.specs.declared.command_stop.CommandStop.TheVariants as stops

-- the outcome of a line without a line of its own, by what was done
pub record IsAnswer {T : Type 0} (done : Result T LineFault) (answer : Result LineResult CommandStop) : Type 0 where
  pub nothing : OnOk done (answer ≡ Ok line_results.Nothing)
  pub refused : (refusal : Refusal) → done ≡ Err (faults.Refused refusal) → answer ≡ Ok (line_results.Refused refusal)
  pub memory : done ≡ Err faults.NoMemory → answer ≡ Err stops.Memory

-- a document was added, or its refusal was found, which is this one
pub record IsAdded {T : Type 0} (done : Result T LineFault) (docs new : List Document) (d : Document) (refusal : Option Refusal) : Type 0 where
  pub added : OnOk done (new ≡ docs ++ d ∷ [])
  pub accepted : OnOk done (refusal ≡ None)
  pub refused : IfErr done (λ fault. SaysRefusal fault refusal)
  pub kept : OnErr done (new ≡ docs)

-- an answer is one outcome
pub inside : (x y : LineResult) (answer : Result LineResult CommandStop) → answer ≡ Ok x → answer ≡ Ok y → x ≡ y
inside x y answer d e = cc
