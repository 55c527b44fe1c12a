-- A contract's view of the answers of a store.
use Rattle.std.specs.Prelude.{ℕ, List, [], ◌∷◌}
use Rattle.search_token.specs.KeyedFn.{KeyedFn}
use Rattle.sse_frames.specs.Replies as replies
use Rattle.sse_frames.specs.Replies.{ReplyText}
use Rattle.sse_outside.specs.declared.device_fault.DeviceFault.{DeviceFault}
use Rattle.sse_outside.specs.declared.device_fault.DeviceFault.TheVariants as device
use Rattle.server_core.specs.State.{ServerState}
use Rattle.server_core.specs.Views.{answer_replies}
use Rattle.server_core.specs.declared.answer.Answer.{Answer}
use Rattle.server_core.specs.declared.answer.Answer.TheVariants as answers
use Rattle.sse_server.specs.declared.store_answer.StoreAnswer.{StoreAnswer}
use Rattle.sse_server.specs.declared.store_answer.StoreAnswer.TheVariants.{Answered, StoreFault}

-- a fact of the server's answer, where the store has one
abbrev pub IfAnswered : StoreAnswer → (Answer → Type 0) → Type 0
IfAnswered (Answered answer) P = P answer
IfAnswered StoreFault P = Unit {0}

-- the replies that an answer stands for
abbrev pub store_replies : KeyedFn → ServerState → StoreAnswer → (page : List ℕ) → List ReplyText
store_replies f s (Answered answer) page = answer_replies f s answer page
store_replies f s StoreFault page = replies.StoreFault ∷ []

-- the answer to an update frame that the disk keeps from being taken
abbrev pub fault_answer : DeviceFault → StoreAnswer
fault_answer device.Failed = StoreFault
fault_answer device.NoMemory = Answered answers.NoMemory
