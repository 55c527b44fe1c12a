-- The server's step: the new state after each frame, and its replies.
use Rattle.std.specs.Prelude.{ℕ, ◌+◌, List, [], ◌∷◌, ◌++◌}
use Rattle.std.specs.Option.{option_map_or}
use Rattle.std.specs.FinMap as map
use Rattle.std.specs.FinSet as set
use Rattle.sse_frames.specs.Frames.{Entry, FrameText, Hello, SetupBegin, SetupDict, SetupArray, SetupEnd, AddFrame, DeleteFrame, SearchFrame}
use Rattle.sse_frames.specs.Replies.{ReplyText, Next, Took, BadList}
use Rattle.sse_frames.specs.SentParts.{pages}
use Rattle.search_token.specs.KeyedFn.{KeyedFn}
use Rattle.search_token.specs.TokenKeys.{keys_of_bytes}
use Rattle.server_core.specs.declared.stage.Stage.TheVariants.{Filling, Ready}
use Rattle.server_tables.specs.Contents.{CellMap, NumberSet}
use Rattle.server_core.specs.Refusal.{refusal}
use Rattle.server_core.specs.Search.{search_result}
use Rattle.server_core.specs.State.{ServerState}

-- the map with these entries too
abbrev pub with_entries : CellMap → List Entry → CellMap
with_entries m [] = m
with_entries m (e ∷ es) = with_entries (map.insert m e.label e.text) es

abbrev pub with_numbers : NumberSet → List (List ℕ) → NumberSet
with_numbers s [] = s
with_numbers s (n ∷ ns) = with_numbers (set.insert s n) ns

abbrev pub without_numbers : NumberSet → List (List ℕ) → NumberSet
without_numbers s [] = s
without_numbers s (n ∷ ns) = without_numbers (set.remove s n) ns

-- the state after an update frame that is taken
abbrev pub taken : ServerState → FrameText → ServerState
taken s Hello = s
taken s (SetupBegin q b big m a) = record {
  stage = Filling;
  next = s.next + 1;
  words = m;
  blocks = a;
  shape = record { b = b; big = big };
  dictionary = map.empty;
  array = [];
  additions = map.empty;
  revoked = set.empty;
}
taken s (SetupDict q width entries) = record s { next = s.next + 1; dictionary = with_entries s.dictionary entries }
taken s (SetupArray q width blocks) = record s { next = s.next + 1; array = s.array ++ blocks }
taken s (SetupEnd q) = record s { next = s.next + 1; stage = Ready }
taken s (AddFrame q entries numbers) = record s { next = s.next + 1; additions = with_entries s.additions entries; revoked = without_numbers s.revoked numbers }
taken s (DeleteFrame q numbers) = record s { next = s.next + 1; revoked = with_numbers s.revoked numbers }
taken s (SearchFrame token) = s

-- the replies to a frame that isn't refused
abbrev pub answers : KeyedFn → ServerState → FrameText → List ReplyText
answers f s Hello = Next s.next ∷ []
answers f s (SetupBegin q b big m a) = Took q ∷ []
answers f s (SetupDict q width entries) = Took q ∷ []
answers f s (SetupArray q width blocks) = Took q ∷ []
answers f s (SetupEnd q) = Took q ∷ []
answers f s (AddFrame q entries numbers) = Took q ∷ []
answers f s (DeleteFrame q numbers) = Took q ∷ []
answers f s (SearchFrame token) = option_map_or pages (search_result f s (keys_of_bytes token)) (BadList ∷ [])

-- the server's step: a frame that is refused changes nothing
abbrev pub step : KeyedFn → ServerState → FrameText → ServerState × List ReplyText
step f s frame = option_map_or (λ reply. (s, reply ∷ [])) (refusal s frame) (taken s frame, answers f s frame)

-- the steps of several frames, in order: the state after them, and the replies to each
abbrev pub steps : KeyedFn → ServerState → List FrameText → ServerState × List (List ReplyText)
steps f s [] = (s, [])
steps f s (frame ∷ frames) =
    let now = step f s frame in
    let later = steps f now.0 frames in
    (later.0, now.1 ∷ later.1)
