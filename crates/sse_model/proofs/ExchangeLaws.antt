-- Laws of frames with their replies: of some frames and then others, of a setup's and of commands'; and all that passes for
-- a history is the greeting and the exchange of its frames, with what its searches show for answers.
use Rattle.std.proofs.Common.{◌≡◌, ℕ, ◌+◌, ◌*◌, ◌≤◌, List, [], ◌∷◌, ◌++◌, length, map, true, Some, None, refl, sym, ap, ◌∙◌, arith, append_assoc, length-append}
use Rattle.std.specs.Prelude.{flat_map}
use Rattle.std.specs.List.{AllByRecursion, range_with_len}
use Rattle.keyed_fn.specs.KeyedFn.{KeyedFn}
use Rattle.std.proofs.lemmas.Bool.{true≢false}
use Rattle.client_registry.specs.Acceptance.{frames_needed}
use Rattle.client_registry.specs.Command.{Command, Add, Delete, Search, is_update}
use Rattle.client_registry.specs.Histories.{shown_by, shown_in_turn}
use Rattle.client_registry.specs.Over.{over}
use Rattle.client_registry.specs.Epochs.{next_begins, joined, setup_renewed}
use Rattle.client_registry.specs.Run.{Run, Offsets, Epochs, From, Renewed, last_run, History}
use Rattle.client_registry.specs.Setup.{Setup}
use Rattle.list_packing.specs.Parts.{parts}
use Rattle.two_level.specs.Shape.{Shape}
use Rattle.sse_frames.specs.Exchange.{Asked, ForNext, ForTook, ForAnswer, asked, expected, first_answer, answers_behind, replied, exchange, answers_to, searches, Sent, Received, exchanged, greeting}
use Rattle.sse_frames.specs.Frames.{Entry, FrameText, SetupBegin, SetupDict, SetupArray, SetupEnd}
use Rattle.sse_frames.specs.Order.{by_bytes}
use Rattle.sse_frames.specs.Replies.{Took}
use Rattle.sse_frames.specs.SentParts.{numbered, dict_frames, array_frames}
use Rattle.sse_model.proofs.Counts.{AllByRecursion-append, AllByRecursion-each, length-frames_of_setup, length-numbered}
use Rattle.sse_model.proofs.Prefixes.{frames_by, exchanged_by, exchanged_setup}
use Rattle.sse_model.specs.Histories.{table_at, frames_sent, frames_of_next, frames_of_renewal}
use Rattle.sse_model.specs.Names.{Table, table}
use Rattle.sse_model.specs.Positions.{entry_positions, block_positions, sealed, ranks_of}
use Rattle.sse_model.specs.Transcript.{transcript, session}
use Rattle.sse_model.specs.Wire.{labels_in, frames_of_setup, wire, acknowledgements, replies_of}

-- Some frames and then others.

first_of_more : (asks : Asked) (xs ys : List (List ℕ)) → answers_to asks ≤ length xs → expected (first_answer (xs ++ ys)) asks ≡ expected (first_answer xs) asks
first_of_more ForNext xs ys enough = refl
first_of_more (ForTook q) xs ys enough = refl
first_of_more ForAnswer [] ys enough = absurd (omega (arith, enough))
first_of_more ForAnswer (ids ∷ xs) ys enough = refl

behind_of_more : (asks : Asked) (xs ys : List (List ℕ)) → answers_to asks ≤ length xs → answers_behind asks (xs ++ ys) ≡ answers_behind asks xs ++ ys
behind_of_more ForNext xs ys enough = refl
behind_of_more (ForTook q) xs ys enough = refl
behind_of_more ForAnswer [] ys enough = absurd (omega (arith, enough))
behind_of_more ForAnswer (ids ∷ xs) ys enough = refl

pub length-answers_behind : (asks : Asked) (xs : List (List ℕ)) → answers_to asks ≤ length xs → length (answers_behind asks xs) + answers_to asks ≡ length xs
length-answers_behind ForNext xs enough = omega arith
length-answers_behind (ForTook q) xs enough = omega arith
length-answers_behind ForAnswer [] enough = absurd (omega (arith, enough))
length-answers_behind ForAnswer (ids ∷ xs) enough = omega arith

-- the first frames take the first answers, and the others those after
pub exchange-append : (frames more : List FrameText) (xs ys : List (List ℕ)) → length xs ≡ searches frames → exchange (xs ++ ys) (frames ++ more) ≡ exchange xs frames ++ exchange ys more
exchange-append [] more [] ys count = refl
exchange-append [] more (ids ∷ xs) ys count = absurd (omega (arith, count))
exchange-append (frame ∷ frames) more xs ys count =
    let asks = asked frame in
    let here : answers_to asks ≤ length xs = omega (arith, count) in
    let left : length (answers_behind asks xs) ≡ searches frames = omega (arith, count, length-answers_behind asks xs here) in
    (λ i. Sent frame ∷ map Received (first_of_more asks xs ys here i) ++ exchange (behind_of_more asks xs ys here i) (frames ++ more))
    ∙ (λ i. Sent frame ∷ map Received (expected (first_answer xs) asks) ++ exchange-append frames more (answers_behind asks xs) ys left i)
    ∙ ap (λ rest. Sent frame ∷ rest) (sym (append_assoc (map Received (expected (first_answer xs) asks)) (exchange (answers_behind asks xs) frames) (exchange ys more)))

pub searches-append : (xs ys : List FrameText) → searches (xs ++ ys) ≡ searches xs + searches ys
searches-append [] ys = omega arith
searches-append (frame ∷ xs) ys = omega (arith, searches-append xs ys)

-- Setup.

-- a frame that is still to be numbered, and is to be acknowledged
IsUpdate : (ℕ → FrameText) → Type 0
IsUpdate make = (q : ℕ) → asked (make q) ≡ ForTook q

-- the frames of a setup, still to be numbered
abbrev makers : Shape → List Entry → List Entry → List (ℕ → FrameText)
makers shape entries blocks = (λ q. SetupBegin q shape.b shape.big (length entries) (length blocks)) ∷ dict_frames shape entries ++ array_frames shape blocks ++ (λ q. SetupEnd q) ∷ []

are_updates : (shape : Shape) (entries blocks : List Entry) → AllByRecursion IsUpdate (makers shape entries blocks)
unfolding IsUpdate
are_updates shape entries blocks = (
  λ q. refl,
  AllByRecursion-append IsUpdate (dict_frames shape entries ++ array_frames shape blocks) ((λ q. SetupEnd q) ∷ [])
      (AllByRecursion-append IsUpdate (dict_frames shape entries) (array_frames shape blocks)
      (AllByRecursion-each IsUpdate (λ part q. SetupDict q (1 + 8 * shape.b) part) (λ part q. refl) (parts 1024 (by_bytes (λ entry. entry.label) entries)))
      (AllByRecursion-each IsUpdate (λ part q. SetupArray q (8 * shape.big) (map (λ block. block.text) part)) (λ part q. refl) (parts 256 (by_bytes (λ block. block.label) blocks))))
      (λ q. refl, tt),
)

-- update frames in a row are each acknowledged, and take no answer
exchange-numbered : (fs : List (ℕ → FrameText)) (q : ℕ) (answers : List (List ℕ)) (ys : List FrameText) → AllByRecursion IsUpdate fs
    → exchange answers (numbered q fs ++ ys) ≡ exchanged (numbered q fs) (map Took (range_with_len q (length fs))) ++ exchange answers ys
unfolding IsUpdate
exchange-numbered [] q answers ys all = refl
exchange-numbered (make ∷ []) q answers ys all =
    λ i. Sent (make q) ∷ map Received (expected (first_answer answers) (all.0 q i)) ++ exchange (answers_behind (all.0 q i) answers) ys
exchange-numbered (make ∷ next ∷ fs) q answers ys all =
    (λ i. Sent (make q) ∷ map Received (expected (first_answer answers) (all.0 q i)) ++ exchange (answers_behind (all.0 q i) answers) (numbered (q + 1) (next ∷ fs) ++ ys))
    ∙ ap (λ rest. Sent (make q) ∷ Received (Took q) ∷ rest) (exchange-numbered (next ∷ fs) (q + 1) answers ys all.1)

replied-numbered : (fs : List (ℕ → FrameText)) (q : ℕ) (answers : List (List ℕ)) (ys : List FrameText) → AllByRecursion IsUpdate fs
    → replied answers (numbered q fs ++ ys) ≡ map (λ reply. reply ∷ []) (map Took (range_with_len q (length fs))) ++ replied answers ys
unfolding IsUpdate
replied-numbered [] q answers ys all = refl
replied-numbered (make ∷ fs) q answers ys all =
    (λ i. expected (first_answer answers) (all.0 q i) ∷ replied (answers_behind (all.0 q i) answers) (numbered (q + 1) fs ++ ys))
    ∙ ap (λ rest. (Took q ∷ []) ∷ rest) (replied-numbered fs (q + 1) answers ys all.1)

searches-numbered : (fs : List (ℕ → FrameText)) (q : ℕ) → AllByRecursion IsUpdate fs → searches (numbered q fs) ≡ 0
unfolding IsUpdate
searches-numbered [] q all = refl
searches-numbered (make ∷ fs) q all = omega (arith, ap answers_to (all.0 q), searches-numbered fs (q + 1) all.1)

module _ (t : Table) (o : Offsets) (s : Setup) where
  abbrev ranks : List ℕ
  ranks = ranks_of (labels_in t (block_positions o.epoch s))

  abbrev made : List (ℕ → FrameText)
  made = makers s.shape (map (sealed t ranks) (entry_positions o.epoch s)) (map (sealed t ranks) (block_positions o.epoch s))

  all_made : AllByRecursion IsUpdate made
  all_made = are_updates s.shape (map (sealed t ranks) (entry_positions o.epoch s)) (map (sealed t ranks) (block_positions o.epoch s))

  count : length made ≡ frames_needed s
  count = sym (length-numbered o.frame made) ∙ length-frames_of_setup t o s

  -- the frames of a setup are exchanged as all that passes for it
  pub exchange-setup : (answers : List (List ℕ)) (ys : List FrameText) → exchange answers (frames_of_setup t o s ++ ys) ≡ exchanged_setup t o s ++ exchange answers ys
  exchange-setup answers ys =
      exchange-numbered made o.frame answers ys all_made
      ∙ ap (λ n. exchanged (frames_of_setup t o s) (map Took (range_with_len o.frame n)) ++ exchange answers ys) count

  -- each is acknowledged
  pub replied-setup : (answers : List (List ℕ)) (ys : List FrameText) → replied answers (frames_of_setup t o s ++ ys) ≡ map (λ reply. reply ∷ []) (acknowledgements o.frame (frames_needed s)) ++ replied answers ys
  replied-setup answers ys =
      replied-numbered made o.frame answers ys all_made
      ∙ ap (λ n. map (λ reply. reply ∷ []) (map Took (range_with_len o.frame n)) ++ replied answers ys) count

  -- none is a search
  pub searches-setup : searches (frames_of_setup t o s) ≡ 0
  searches-setup = searches-numbered made o.frame all_made

  -- Commands.

  abbrev answers_shown : List Command → List Command → List (List ℕ)
  answers_shown past later = flat_map (λ r. r) (over (shown_by s) past later)

  abbrev frames_sent_by : List Command → List Command → List FrameText
  frames_sent_by past later = flat_map (λ frames. frames) (over (frames_by t o s) past later)

  -- the frames of commands, with what the searches among them show, are exchanged as all that passes for them
  pub exchange-commands : (past later : List Command) → exchange (answers_shown past later) (frames_sent_by past later) ≡ flat_map (λ passed. passed) (over (exchanged_by t o s) past later)
  exchange-commands past [] = refl
  exchange-commands past (Add d ∷ later) = ap (λ rest. exchanged_by t o s past (Add d) ++ rest) (exchange-commands (past ++ Add d ∷ []) later)
  exchange-commands past (Delete id ∷ later) = ap (λ rest. exchanged_by t o s past (Delete id) ++ rest) (exchange-commands (past ++ Delete id ∷ []) later)
  exchange-commands past (Search word ∷ later) = ap (λ rest. exchanged_by t o s past (Search word) ++ rest) (exchange-commands (past ++ Search word ∷ []) later)

  -- the same of their replies
  pub replied-commands : (past later : List Command) → replied (answers_shown past later) (frames_sent_by past later) ≡ over (replies_of o s) past later
  replied-commands past [] = refl
  replied-commands past (Add d ∷ later) = ap (λ rest. replies_of o s past (Add d) ∷ rest) (replied-commands (past ++ Add d ∷ []) later)
  replied-commands past (Delete id ∷ later) = ap (λ rest. replies_of o s past (Delete id) ∷ rest) (replied-commands (past ++ Delete id ∷ []) later)
  replied-commands past (Search word ∷ later) = ap (λ rest. replies_of o s past (Search word) ∷ rest) (replied-commands (past ++ Search word ∷ []) later)

  searches-commands : (past later : List Command) → searches (frames_sent_by past later) ≡ length (answers_shown past later)
  searches-commands past [] = refl
  searches-commands past (Add d ∷ later) = omega (arith, searches-commands (past ++ Add d ∷ []) later)
  searches-commands past (Delete id ∷ later) = omega (arith, searches-commands (past ++ Delete id ∷ []) later)
  searches-commands past (Search word ∷ later) = omega (arith, searches-commands (past ++ Search word ∷ []) later)

-- Runs.

module _ (t : Table) (o : Offsets) (run : Run) where
  abbrev shown_of : List (List ℕ)
  shown_of = flat_map (λ r. r) (over (shown_by run.setup) [] run.later)

  -- the frames of a run, with what its searches show, are exchanged as all that passes for it
  pub exchange-run : exchange shown_of (flat_map (λ frames. frames) (wire t o run)) ≡ flat_map (λ passed. passed) (transcript t o run)
  exchange-run =
      exchange-setup t o run.setup shown_of (frames_sent_by t o run.setup [] run.later)
      ∙ ap (λ passed. exchanged_setup t o run.setup ++ passed) (exchange-commands t o run.setup [] run.later)

  pub searches-run : searches (flat_map (λ frames. frames) (wire t o run)) ≡ length shown_of
  searches-run =
      omega (
        arith,
        searches-append (frames_of_setup t o run.setup) (frames_sent_by t o run.setup [] run.later),
        searches-setup t o run.setup,
        searches-commands t o run.setup [] run.later,
      )

-- Histories.

module _ (f : KeyedFn) (key : List ℕ) where
  abbrev frames_in_epochs : Epochs → List FrameText
  frames_in_epochs es = frames_sent f key (Some es)

  -- there is an answer for each search among them
  pub searches-sent : (h : History) → searches (frames_sent f key h) ≡ length (shown_in_turn h)
  searches-sent None = refl
  searches-sent (Some es) = by es
    where
      by : (es : Epochs) → searches (frames_sent f key (Some es)) ≡ length (shown_in_turn (Some es))
      by (From o run) = searches-run (table_at f key run) o run
      by (Renewed before own run) =
          let o = next_begins before in
          let t = table_at f own run in
          omega (arith, searches-append (frames_in_epochs before) (flat_map (λ frames. frames) (wire t o run)), by before, searches-run t o run, length-append (shown_in_turn (Some before)) (shown_of t o run))

  -- all that passes for a history is the greeting, and then the exchange of its frames, with what its searches show
  pub session-exchange : (h : History) → session f key h ≡ greeting 0 ++ exchange (shown_in_turn h) (frames_sent f key h)
  session-exchange None = refl
  session-exchange (Some es) = ap (λ passed. greeting 0 ++ passed) (sym (by es))
    where
      by : (es : Epochs) → exchange (shown_in_turn (Some es)) (frames_sent f key (Some es)) ≡ joined (λ own o run. flat_map (λ passed. passed) (transcript (table_at f own run) o run)) key es
      by (From o run) = exchange-run (table_at f key run) o run
      by (Renewed before own run) =
          let o = next_begins before in
          let t = table_at f own run in
          exchange-append (frames_in_epochs before) (flat_map (λ frames. frames) (wire t o run)) (shown_in_turn (Some before)) (shown_of t o run) (sym (searches-sent (Some before)))
          ∙ (λ i. by before i ++ exchange-run t o run i)

  -- none among the frames of an update after a history, whose one search is a search's
  pub searches_behind-update : (h : History) (c : Command) → is_update c ≡ true → searches (frames_of_next f key h (c ∷ [])) ≡ 0
  searches_behind-update None c update = refl
  searches_behind-update (Some es) (Add d) update = refl
  searches_behind-update (Some es) (Delete id) update = refl
  searches_behind-update (Some es) (Search word) update = absurd (true≢false (sym update))

  -- and none among those of a renewal
  pub searches_behind-renewal : (h : History) (own : List ℕ) → searches (frames_of_renewal f own h) ≡ 0
  searches_behind-renewal None own = refl
  searches_behind-renewal (Some es) own = let s = setup_renewed (last_run es) in searches-setup (table f s.shape (λ epoch. own)) (next_begins es) s
