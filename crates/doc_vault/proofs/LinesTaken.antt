-- The turn of a line, and the turns of a run with one more.
use Rattle.std.proofs.Common.{◌≡◌, ℕ, Bool, true, false, ◌||◌, List, [], ◌∷◌, ◌++◌, append_assoc, None, Some, Ok, Err, map, flat_map, refl, sym, ap, ◌∙◌, subst, ◌+◌, arith}
use Rattle.std.specs.Prelude.{Option, Result}
use Rattle.std.specs.Option.{option_and_then, option_map}
use Rattle.std.specs.Result.{IsErrAnd}
use Rattle.std.specs.Io.KnownBytes.{append_known}
use Rattle.std.proofs.lemmas.List.{append-nil, length-append, map-append}
use Rattle.std.proofs.lemmas.Grind.{flat_map-append}
use Rattle.keyed_fn.specs.KeyedFn.{KeyedFn}
use Rattle.keyed_fn.specs.VaultFormulas.{VaultSecrets}
use Rattle.sse_outside.specs.Kept.{with_records}
use Rattle.sse_outside.proofs.Known.{append_known-twice}
use Rattle.sse_script.specs.TextLines.{TakesLine}
use Rattle.vault_link.specs.Exchanges.{Exchange}
use Rattle.vault_link.specs.Served.{VaultRemote}
use Rattle.vault_shelf.specs.ClientRecords.{command_record}
use Rattle.vault_shelf.specs.Shelves.{Shelf, VaultCommand, Put, Drop, Get, shelf_of, without_gets}
use Rattle.vault_shelf.proofs.Fronts.{shelf_of-append}
use Rattle.vault_script.specs.VaultLines.{VaultLineText, EmptyLine, KeyLine, PutLine, DropLine, GetLine, vault_line_of}
use Rattle.vault_script.specs.VaultLineViews.{vault_line_view}
use Rattle.vault_script.specs.VaultTexts.{vault_text}
use Rattle.vault_script.specs.declared.vault_line.VaultLine.{VaultLine}
use Rattle.vault_script.specs.declared.vault_stop.VaultStop.{VaultStop}
use Rattle.vault_script.specs.declared.vault_stop.VaultStop.TheVariants as stops
use Rattle.script_run_texts.specs.declared.input_stop.InputStop.{InputStop}
use Rattle.script_run_texts.specs.declared.input_stop.InputStop.TheVariants as inputs
use Rattle.script_run_texts.specs.declared.stop_cause.StopCause.TheVariants as runs
use Rattle.doc_vault.specs.NextLines.{ReadsAs, ReadsNext}
use Rattle.vault_shelf.specs.ShelfView.{Keeps, ShelfView}
use Rattle.doc_vault.specs.LineRuns.{TakesOrStops, is_refusal}
use Rattle.doc_vault.specs.ScriptRuns.{AtBadLine, AtCommand, FinishesRun, HasRun, HasTurned, InLine, IsBadLine, RunsOrStops, StopsAfter, StopsLine, StopsRun, TurnsOrStops, Unread, any_refusal, bad_line}
use Rattle.doc_vault.specs.CommandViews.{command_said}
use Rattle.doc_vault.specs.Sights.{Moves, ServesAll, Sight}
use Rattle.doc_vault.specs.VaultRuns.{AreTurns, TakesCommand, TakesSaid, TakesTurn, Turn, commands_in, lines_in, passed_in, records_of_commands, shown_in, silent_turn, text_of_shown}
use Rattle.doc_vault.proofs.Exchanged.{with_records-none}
use Rattle.doc_vault.proofs.FairRun.{stops-fairly}
use Rattle.doc_vault.proofs.HonestRun.{turns-honest}
use Rattle.doc_vault.proofs.HonestTexts.{turns-texts}
use Rattle.doc_vault.proofs.TurnsTaken.{passed-none}

-- One line.

-- nothing moves
moves-none : (sight : Sight) → Moves [] [] [] sight sight
moves-none sight = record { link = passed-none sight.link; kept = with_records-none sight.kept; written = nothing sight.written }
  where
    nothing : (written : Option (List ℕ)) → written ≡ append_known written []
    nothing None = refl
    nothing (Some bytes) = ap Some (sym (append-nil bytes))

module _ (f : KeyedFn) (keys : VaultSecrets) (s : Shelf) where
  -- the command of what a line says
  said_takes : (said : VaultLineText) (c : VaultCommand) (turn : Turn) → command_said said ≡ Some c → TakesCommand f keys s c turn → TakesSaid f keys s (Some said) turn
  said_takes EmptyLine c turn e takes = absurd (let no : None ≡ Some c = e in cc)
  said_takes (KeyLine key) c turn e takes = let no : None ≡ Some c = e in cc
  said_takes (PutLine id body) c turn e takes = subst (λ (d : VaultCommand). TakesCommand f keys s d turn) (let same : c ≡ Put id body = cc in same) takes
  said_takes (DropLine id) c turn e takes = subst (λ (d : VaultCommand). TakesCommand f keys s d turn) (let same : c ≡ Drop id = cc in same) takes
  said_takes (GetLine id) c turn e takes = subst (λ (d : VaultCommand). TakesCommand f keys s d turn) (let same : c ≡ Get id = cc in same) takes

  -- a line that is a command
  pub turns-command : (number : ℕ) (line : List ℕ) (said : VaultLineText) (c : VaultCommand) → vault_line_of line ≡ Some said → command_said said ≡ Some c → (old new : Sight) (view : ShelfView) (result : Result Bool VaultStop)
      → TakesOrStops f keys s c line old new view result → TurnsOrStops f keys s number line old new view result
  turns-command number line said c reads is old new view (Ok refused) taken = record {
    turn = taken.turn;
    line_is = taken.line_is;
    taken = subst (λ (l : Option VaultLineText). TakesSaid f keys s l taken.turn) (sym (ap vault_line_of taken.line_is ∙ reads)) (said_takes said c taken.turn is taken.taken);
    moves = taken.moves;
    keeps = taken.keeps;
    refuses = taken.refuses;
  }
  turns-command number line said c reads is old new view (Err stop) stopped = AtCommand c (ap (option_and_then command_said) reads ∙ is) stopped

  -- an empty line
  pub turns-empty : (line : List ℕ) → vault_line_of line ≡ Some EmptyLine → (sight : Sight) (view : ShelfView) → Keeps view s → HasTurned f keys s line sight sight view false
  turns-empty line reads sight view keeps = record {
    turn = silent_turn line;
    line_is = refl;
    taken = subst (λ (l : Option VaultLineText). TakesSaid f keys s l (silent_turn line)) (sym reads) refl;
    moves = moves-none sight;
    keeps = keeps;
    refuses = refl;
  }

-- One line more.

serves-both : (xs ys : List Exchange) (old mid new : Option VaultRemote) → ServesAll xs old mid → ServesAll ys mid new → ServesAll (xs ++ ys) old new
serves-both [] ys old mid new a b = subst (λ (r : Option VaultRemote). ServesAll ys r new) a b
serves-both (x ∷ xs) ys old mid new a b = (a.0, a.1, serves-both xs ys a.0 mid new a.2 b)

told-both : {A : Type 0} (known : Option (List A)) (xs ys : List A) → option_map (λ all. all ++ ys) (option_map (λ all. all ++ xs) known) ≡ option_map (λ all. all ++ (xs ++ ys)) known
told-both None xs ys = refl
told-both (Some all) xs ys = ap Some (append_assoc all xs ys)

pub moves-both : (p q : List Exchange) (r t : List (List ℕ)) (a b : List ℕ) (old mid new : Sight) → Moves p r a old mid → Moves q t b mid new → Moves (p ++ q) (r ++ t) (a ++ b) old new
moves-both p q r t a b old mid new first second = record {
  link = record {
    told = second.link.told ∙ ap (λ known. option_map (λ all. all ++ q) known) first.link.told ∙ told-both old.link.told p q;
    served = serves-both p q old.link.remote mid.link.remote new.link.remote first.link.served second.link.served;
  };
  kept =
      second.kept ∙ ap (with_records t) first.kept
      ∙ ap (λ records. record { records = records; refused = old.kept.refused }) (told-both old.kept.records r t);
  written = second.written ∙ ap (λ known. append_known known b) first.written ∙ append_known-twice old.written a b;
}

without_gets-append : (cs ds : List VaultCommand) → without_gets (cs ++ ds) ≡ without_gets cs ++ without_gets ds
without_gets-append [] ds = refl
without_gets-append (Put id body ∷ cs) ds = ap (λ l. Put id body ∷ l) (without_gets-append cs ds)
without_gets-append (Drop id ∷ cs) ds = ap (λ l. Drop id ∷ l) (without_gets-append cs ds)
without_gets-append (Get id ∷ cs) ds = without_gets-append cs ds

records-append : (cs ds : List VaultCommand) → records_of_commands (cs ++ ds) ≡ records_of_commands cs ++ records_of_commands ds
records-append cs ds = ap (map command_record) (without_gets-append cs ds) ∙ map-append command_record (without_gets cs) (without_gets ds)

lines-more : (turns : List Turn) (turn : Turn) (left mid left' : Option (List (List ℕ))) (line : List ℕ) → turn.line ≡ line → left ≡ option_map (λ rest. lines_in turns ++ rest) mid → TakesLine mid left' line
    → left ≡ option_map (λ rest. lines_in (turns ++ turn ∷ []) ++ rest) left'
lines-more turns turn left mid left' line is before takes = before ∙ ap (option_map (λ rest. lines_in turns ++ rest)) takes ∙ by left'
  where
    by : (l : Option (List (List ℕ))) → option_map (λ rest. lines_in turns ++ rest) (option_map (λ lines. line ∷ lines) l) ≡ option_map (λ rest. lines_in (turns ++ turn ∷ []) ++ rest) l
    by None = refl
    by (Some rest) =
        ap Some (ap (λ x. lines_in turns ++ (x ∷ rest)) (sym is)
        ∙ sym (append_assoc (lines_in turns) (turn.line ∷ []) rest)
        ∙ ap (λ l. l ++ rest) (sym (map-append (λ (t : Turn). t.line) turns (turn ∷ []))))

or-false : (b : Bool) → (b || false) ≡ b
or-false true = refl
or-false false = refl

or_assoc : (a b c : Bool) → ((a || b) || c) ≡ (a || (b || c))
or_assoc true b c = refl
or_assoc false b c = refl

any-more : (turns : List Turn) (turn : Turn) → any_refusal (turns ++ turn ∷ []) ≡ (any_refusal turns || is_refusal turn.shown)
any-more [] turn = or-false (is_refusal turn.shown)
any-more (t ∷ turns) turn = ap (λ b. is_refusal t.shown || b) (any-more turns turn) ∙ sym (or_assoc (is_refusal t.shown) (any_refusal turns) (is_refusal turn.shown))

-- the last of all turns
last_of : {A : Type 0} (part : Turn → List A) (turns : List Turn) (turn : Turn) → flat_map part (turns ++ turn ∷ []) ≡ flat_map part turns ++ part turn
last_of part turns turn = flat_map-append part turns (turn ∷ []) ∙ ap (λ l. flat_map part turns ++ l) (append-nil (part turn))

module _ (f : KeyedFn) (keys : VaultSecrets) where
  turns-more : (s : Shelf) (turns : List Turn) (turn : Turn) → AreTurns f keys s turns → TakesTurn f keys (shelf_of s (commands_in turns)) turn → AreTurns f keys s (turns ++ turn ∷ [])
  turns-more s [] turn are takes = (takes, tt)
  turns-more s (t ∷ turns) turn are takes =
      (are.0, turns-more (shelf_of s t.commands) turns turn are.1 (subst (λ (known : Shelf). TakesTurn f keys known turn) (shelf_of-append s t.commands (commands_in turns)) takes))

  -- no line was taken yet
  pub run-begins : (s : Shelf) (number : ℕ) (left : Option (List (List ℕ))) (sight : Sight) (view : ShelfView) → Keeps view s → HasRun f keys s number number left left sight sight view false
  run-begins s number left sight view keeps = record {
    turns = [];
    counted = omega arith;
    are = tt;
    lines = same left;
    moves = moves-none sight;
    keeps = keeps;
    refuses = refl;
    texts = turns-texts f keys s [] sight.link sight.link tt (passed-none sight.link);
  }
    where
      same : (l : Option (List (List ℕ))) → l ≡ option_map (λ rest. [] ++ rest) l
      same None = refl
      same (Some rest) = refl

  pub run-more : (s : Shelf) (number m n : ℕ) (left mid left' : Option (List (List ℕ))) (old between new : Sight) (view view' : ShelfView) (refused now after : Bool) (line : List ℕ) → (run : HasRun f keys s number m left mid old between view refused) → n ≡ m + 1 → after ≡ (refused || now)
      → TakesLine mid left' line → HasTurned f keys (shelf_of s (commands_in run.turns)) line between new view' now → HasRun f keys s number n left left' old new view' after
  run-more s number m n left mid left' old between new view view' refused now after line run next is takes turned =
      let turns = run.turns in
      let turn = turned.turn in
      let are : AreTurns f keys s (turns ++ turn ∷ []) = turns-more s turns turn run.are turned.taken in
      let moves : Moves (passed_in (turns ++ turn ∷ [])) (records_of_commands (commands_in (turns ++ turn ∷ []))) (text_of_shown (shown_in (turns ++ turn ∷ []))) old new =
      let both = moves-both (passed_in turns) turn.passed (records_of_commands (commands_in turns)) (records_of_commands turn.commands) (text_of_shown (shown_in turns)) (text_of_shown turn.shown) old between new run.moves turned.moves in
      subst (λ (p : List Exchange). Moves p (records_of_commands (commands_in (turns ++ turn ∷ []))) (text_of_shown (shown_in (turns ++ turn ∷ []))) old new) (sym (last_of (λ t. t.passed) turns turn))
      (subst (λ (r : List (List ℕ)). Moves (passed_in turns ++ turn.passed) r (text_of_shown (shown_in (turns ++ turn ∷ []))) old new)
      (sym (records-append (commands_in turns) turn.commands) ∙ ap records_of_commands (sym (last_of (λ t. t.commands) turns turn)))
      (subst (λ (a : List ℕ). Moves (passed_in turns ++ turn.passed) (records_of_commands (commands_in turns) ++ records_of_commands turn.commands) a old new)
      (sym (flat_map-append vault_text (shown_in turns) turn.shown) ∙ ap text_of_shown (sym (last_of (λ t. t.shown) turns turn))) both)) in
      record {
        turns = turns ++ turn ∷ [];
        counted = omega (arith, next, run.counted, length-append turns (turn ∷ []));
        are = are;
        lines = lines-more turns turn left mid left' line turned.line_is run.lines takes;
        moves = moves;
        keeps =
            subst (λ (known : Shelf). Keeps view' known)
            (sym (shelf_of-append s (commands_in turns) turn.commands) ∙ ap (shelf_of s) (sym (last_of (λ t. t.commands) turns turn))) turned.keeps;
        refuses = is ∙ ap (λ b. b || now) run.refuses ∙ ap (λ b. any_refusal turns || b) turned.refuses ∙ sym (any-more turns turn);
        texts = turns-texts f keys s (turns ++ turn ∷ []) old.link new.link are moves.link;
      }

  -- no further line is taken
  pub run-unread : (s : Shelf) (number m : ℕ) (left mid left' : Option (List (List ℕ))) (old between : Sight) (view : ShelfView) (refused : Bool) (run : HasRun f keys s number m left mid old between view refused)
      → (why : InputStop) (stop : VaultStop) → stop ≡ stops.Run (runs.Input why) → ReadsNext m mid left' (Err why) → StopsRun f keys s number left old between stop
  run-unread s number m left mid left' old between view refused run why stop is reads = record {
    last = m;
    left_over = mid;
    between = between;
    view = view;
    refused = refused;
    run = run;
    stops = by why is reads;
    honest = turns-honest f keys s run.turns old.link between.link run.are run.moves.link;
    fair = stops-fairly f keys s run.turns (m + 1) mid old between between stop run.are run.moves.link (by why is reads);
  }
    where
      by : (why : InputStop) → stop ≡ stops.Run (runs.Input why) → ReadsNext m mid left' (Err why) → StopsAfter f keys (shelf_of s (commands_in run.turns)) (m + 1) mid between between stop
      by (inputs.Line n) is reads =
          InLine reads.1.line left' reads.1.takes (AtBadLine (is ∙ ap bad_line reads.0) (subst IsBadLine (sym reads.1.reads) tt) refl)
      by inputs.Source is reads = Unread inputs.Source tt is refl
      by inputs.Memory is reads = Unread inputs.Memory tt is refl

  pub run-stopped : (s : Shelf) (number m n : ℕ) (left mid left' : Option (List (List ℕ))) (old between new : Sight) (view view' : ShelfView) (refused : Bool) (run : HasRun f keys s number m left mid old between view refused)
      → (result : Result Bool VaultStop) (at : VaultStop) → IsErrAnd result (λ stop. stop ≡ at) → (line : List ℕ) → TakesLine mid left' line → n ≡ m + 1
      → StopsLine f keys (shelf_of s (commands_in run.turns)) n line between new at → RunsOrStops f keys s number left old new view' result
  run-stopped s number m n left mid left' old between new view view' refused run (Ok done) at is line takes next stopped = absurd is
  run-stopped s number m n left mid left' old between new view view' refused run (Err stop) at is line takes next stopped = record {
    last = m;
    left_over = mid;
    between = between;
    view = view;
    refused = refused;
    run = run;
    stops = halts;
    honest = turns-honest f keys s run.turns old.link between.link run.are run.moves.link;
    fair = stops-fairly f keys s run.turns (m + 1) mid old between new stop run.are run.moves.link halts;
  }
    where
      halts : StopsAfter f keys (shelf_of s (commands_in run.turns)) (m + 1) mid between new stop
      halts =
          InLine line left' takes
          (subst (λ (st : VaultStop). StopsLine f keys (shelf_of s (commands_in run.turns)) (m + 1) line between new st) (sym is)
          (subst (λ (k : ℕ). StopsLine f keys (shelf_of s (commands_in run.turns)) k line between new at) next stopped))

-- a line that was read
pub reads-some : (number : ℕ) (left left' : Option (List (List ℕ))) (found : Option VaultLine) (line : VaultLine) → found ≡ Some line → ReadsNext number left left' (Ok found) → ReadsAs left left' (Some (vault_line_view line))
reads-some number left left' found line is reads = subst (λ (l : Option VaultLine). ReadsNext number left left' (Ok l)) is reads

-- the run is through
pub run-finished : (f : KeyedFn) (keys : VaultSecrets) (s : Shelf) (number m : ℕ) (left mid left' : Option (List (List ℕ))) (old new : Sight) (view : ShelfView) (refused : Bool) → HasRun f keys s number m left mid old new view refused
    → (found : Option VaultLine) → found ≡ None → ReadsNext m mid left' (Ok found) → FinishesRun f keys s number left old new view refused
run-finished f keys s number m left mid left' old new view refused run found is reads = record {
  last = m;
  left_over = mid;
  run = run;
  end = subst (λ (l : Option VaultLine). ReadsNext m mid left' (Ok l)) is reads;
  honest = turns-honest f keys s run.turns old.link new.link run.are run.moves.link;
}
