-- The replies that the answers of the vault stand for, and what it answers to the bytes of a body.
use Rattle.std.specs.Prelude.{ℕ, List, Result, Ok, Err}
use Rattle.std.specs.FinMap as finmap
use Rattle.sse_frames.specs.Frames.{IsNumber}
use Rattle.sse_frames.specs.declared.fault.FrameFault.{FrameFault}
use Rattle.sse_outside.specs.declared.device_fault.DeviceFault.{DeviceFault}
use Rattle.sse_outside.specs.declared.device_fault.DeviceFault.TheVariants as device
use Rattle.vault_server.specs.declared.vault_answer.VaultAnswer.{VaultAnswer}
use Rattle.vault_server.specs.declared.vault_answer.VaultAnswer.TheVariants as answers
use Rattle.vault_server.specs.VaultFrames.{VaultFrameText, VaultReplyText, Took, Next, Clash, NoMemory, StoreFault, BadFrame}
use Rattle.vault_server.specs.VaultReading.{frame_in}
use Rattle.vault_server.specs.VaultState.{VaultState, handed, vault_step}

-- the reply that an answer stands for, where the vault holds this
abbrev pub answer_reply : VaultState → VaultAnswer → VaultReplyText
answer_reply s (answers.Took n) = Took n
answer_reply s (answers.Holds slot) = handed (finmap.get s.slots slot)
answer_reply s (answers.Next n) = Next n
answer_reply s answers.Clash = Clash
answer_reply s answers.NoMemory = NoMemory
answer_reply s answers.StoreFault = StoreFault
answer_reply s answers.BadFrame = BadFrame

-- an answer that stands for a reply of the grammar: what is taken has the number of an update
abbrev pub InAnswers : VaultAnswer → Type 0
InAnswers (answers.Took n) = IsNumber n
InAnswers (answers.Holds slot) = Unit {0}
InAnswers (answers.Next n) = Unit {0}
InAnswers answers.Clash = Unit {0}
InAnswers answers.NoMemory = Unit {0}
InAnswers answers.StoreFault = Unit {0}
InAnswers answers.BadFrame = Unit {0}

-- the answer to an update that the disk keeps from being taken
abbrev pub fault_answer : DeviceFault → VaultAnswer
fault_answer device.Failed = answers.StoreFault
fault_answer device.NoMemory = answers.NoMemory

-- the state and the reply after what was read: what is no frame changes nothing
abbrev pub step_of : VaultState → Result VaultFrameText FrameFault → VaultState × VaultReplyText
step_of s (Ok frame) = vault_step s frame
step_of s (Err fault) = (s, BadFrame)

-- the state and the reply after the bytes of a body
abbrev pub vault_answered : VaultState → List ℕ → VaultState × VaultReplyText
vault_answered s body = step_of s (frame_in body)
