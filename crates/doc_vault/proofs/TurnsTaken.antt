-- The turn of a line's command, by what was done for it.
use Rattle.std.proofs.Common.{◌≡◌, ℕ, Bool, true, false, List, [], ◌∷◌, ◌++◌, None, Some, Ok, Err, refl, sym, ap, subst}
use Rattle.std.specs.Prelude.{Option, Result, IsSome}
use Rattle.std.specs.Option.{option_map}
use Rattle.std.specs.Result.{IsErrAnd}
use Rattle.std.proofs.lemmas.List.{append-nil}
use Rattle.keyed_fn.specs.KeyedFn.{KeyedFn}
use Rattle.keyed_fn.specs.VaultFormulas.{VaultSecrets}
use Rattle.sse_outside.specs.Kept.{Kept, with_records}
use Rattle.vault_link.specs.Exchanges.{Exchange}
use Rattle.vault_shelf.specs.ShelfFaults.{shelf_fault}
use Rattle.vault_shelf.specs.Shelves.{Shelf, VaultCommand, Put, Drop, Get, shelf_after}
use Rattle.vault_shelf.specs.declared.shelf_fault.ShelfFault.{ShelfFault}
use Rattle.vault_script.specs.VaultShown.{VaultShownText, NoBody, Refused}
use Rattle.vault_script.specs.declared.vault_stop.VaultStop.{VaultStop}
use Rattle.vault_shelf.specs.ShelfView.{Keeps, ShelfView}
use Rattle.doc_vault.specs.CommandRuns.{HasFrame, IsExchanged, ShowsText, records_of}
use Rattle.doc_vault.specs.CommandViews.{refusal_of, shown_of}
use Rattle.doc_vault.specs.LineRuns.{HasPrinted, HasTaken, StopsPrinting, StopsTurn, TakesOrStops, Unprinted, is_refusal}
use Rattle.doc_vault.specs.Sights.{HasPassed, LinkSight, Sight}
use Rattle.doc_vault.specs.VaultRuns.{IsAccepted, IsCarriedOut, IsGotten, IsJudged, TakesCommand, Turn}
use Rattle.doc_vault.proofs.Exchanged.{with_records-none}

-- no exchange passed
pub passed-none : (link : LinkSight) → HasPassed [] link link
passed-none link = record { told = told link.told; served = refl }
  where
    told : (known : Option (List Exchange)) → known ≡ option_map (λ all. all ++ []) known
    told None = refl
    told (Some all) = ap Some (sym (append-nil all))

module _ (f : KeyedFn) (keys : VaultSecrets) (s : Shelf) (c : VaultCommand) (line : List ℕ) where
  -- a call that stopped
  pub takes-stopped : (result : Result Bool VaultStop) (at : VaultStop) (old new : Sight) (view : ShelfView) → IsErrAnd result (λ stop. stop ≡ at) → StopsTurn f keys s c line old new at → TakesOrStops f keys s c line old new view result
  takes-stopped (Ok done) at old new view is stopped = absurd is
  takes-stopped (Err stop) at old new view is stopped = subst (λ (st : VaultStop). StopsTurn f keys s c line old new st) (sym is) stopped

  abbrev pub turn_of : List VaultCommand → List Exchange → VaultShownText → Turn
  turn_of commands passed shown = record { line = line; commands = commands; passed = passed; shown = shown ∷ [] }

  judged_as : (fault : Option ShelfFault) (turn : Turn) → shelf_fault s c ≡ fault → IsJudged f keys fault s c turn → TakesCommand f keys s c turn
  judged_as fault turn e is = subst (λ (why : Option ShelfFault). IsJudged f keys why s c turn) (sym e) is

  -- a refusal
  refused_turn : (fault : ShelfFault) → shelf_fault s c ≡ Some fault → TakesCommand f keys s c (turn_of [] [] (Refused (refusal_of fault)))
  refused_turn fault e = judged_as (Some fault) (turn_of [] [] (Refused (refusal_of fault))) e (record { unsent = refl; commands_are = refl; shown_is = refl })

  pub refused_printed : (fault : ShelfFault) → shelf_fault s c ≡ Some fault → (link : LinkSight) (kept : Kept) (written written' : Option (List ℕ)) (view : ShelfView) → Keeps view s → HasPrinted (Refused (refusal_of fault) ∷ []) written written'
      → HasTaken f keys s c line (record { link = link; kept = kept; written = written }) (record { link = link; kept = kept; written = written' }) view true
  refused_printed fault e link kept written written' view keeps printed = record {
    turn = turn_of [] [] (Refused (refusal_of fault));
    line_is = refl;
    taken = refused_turn fault e;
    moves = record { link = passed-none link; kept = with_records-none kept; written = printed };
    keeps = keeps;
    refuses = refl;
  }

  pub refused_unprinted : (fault : ShelfFault) → shelf_fault s c ≡ Some fault → (link : LinkSight) (kept : Kept) (written written' : Option (List ℕ)) (stop : VaultStop) → StopsPrinting (Refused (refusal_of fault) ∷ []) written written' stop
      → StopsTurn f keys s c line (record { link = link; kept = kept; written = written }) (record { link = link; kept = kept; written = written' }) stop
  refused_unprinted fault e link kept written written' stop stops = Unprinted (turn_of [] [] (Refused (refusal_of fault))) refl (refused_turn fault e) (passed-none link) (with_records-none kept) stops

  -- a command with a frame, after its exchange
  exchanged_turn : (passed : List Exchange) (text : List ℕ) → shelf_fault s c ≡ None → HasFrame s c → IsExchanged f keys s c passed (shown_of c text) → TakesCommand f keys s c (turn_of (c ∷ []) passed (shown_of c text))
  exchanged_turn passed text fine has is = judged_as None turn fine (by c refl)
    where
      turn : Turn
      turn = turn_of (c ∷ []) passed (shown_of c text)

      out : IsCarriedOut f keys s c turn
      out = record { shown = shown_of c text; exchanged = is; commands_are = refl; shown_is = refl }

      gotten : (id : ℕ) (put : Option ℕ) → IsSome put → IsCarriedOut f keys s (Get id) turn → IsGotten f keys put s id turn
      gotten id None some done = cc
      gotten id (Some put) some done = done

      by : (d : VaultCommand) → c ≡ d → IsAccepted f keys s d turn
      by (Put id body) e = subst (λ (d : VaultCommand). IsCarriedOut f keys s d turn) e out
      by (Drop id) e = subst (λ (d : VaultCommand). IsCarriedOut f keys s d turn) e out
      by (Get id) e = gotten id (s.there id) (subst (HasFrame s) e has) (subst (λ (d : VaultCommand). IsCarriedOut f keys s d turn) e out)

  no_refusal : (d : VaultCommand) (text : List ℕ) → false ≡ is_refusal (shown_of d text ∷ [])
  no_refusal (Put id body) text = refl
  no_refusal (Drop id) text = refl
  no_refusal (Get id) text = refl

  pub exchanged_printed : (link link' : LinkSight) (kept kept' : Kept) (written written' : Option (List ℕ)) (text : List ℕ) (view : ShelfView) → shelf_fault s c ≡ None → HasFrame s c → ShowsText f keys s c link link' text
      → kept' ≡ with_records (records_of c) kept → HasPrinted (shown_of c text ∷ []) written written' → Keeps view (shelf_after s c)
      → HasTaken f keys s c line (record { link = link; kept = kept; written = written }) (record { link = link'; kept = kept'; written = written' }) view false
  exchanged_printed link link' kept kept' written written' text view fine has shows keeps printed knows = record {
    turn = turn_of (c ∷ []) shows.passed (shown_of c text);
    line_is = refl;
    taken = exchanged_turn shows.passed text fine has shows.exchanged;
    moves = record { link = shows.seen; kept = keeps; written = printed };
    keeps = knows;
    refuses = no_refusal c text;
  }

  pub exchanged_unprinted : (link link' : LinkSight) (kept kept' : Kept) (written written' : Option (List ℕ)) (text : List ℕ) (stop : VaultStop) → shelf_fault s c ≡ None → HasFrame s c → ShowsText f keys s c link link' text
      → kept' ≡ with_records (records_of c) kept → StopsPrinting (shown_of c text ∷ []) written written' stop
      → StopsTurn f keys s c line (record { link = link; kept = kept; written = written }) (record { link = link'; kept = kept'; written = written' }) stop
  exchanged_unprinted link link' kept kept' written written' text stop fine has shows keeps stops =
      Unprinted (turn_of (c ∷ []) shows.passed (shown_of c text)) refl (exchanged_turn shows.passed text fine has shows.exchanged) shows.seen keeps stops

-- the get of a text that isn't there
module _ (f : KeyedFn) (keys : VaultSecrets) (s : Shelf) (id : ℕ) (line : List ℕ) (none : s.there id ≡ None) (fine : shelf_fault s (Get id) ≡ None) where
  abbrev absent : Turn
  absent = turn_of f keys s (Get id) line (Get id ∷ []) [] (NoBody id)

  absent_turn : TakesCommand f keys s (Get id) absent
  absent_turn =
      judged_as f keys s (Get id) line None absent fine
      (subst (λ (put : Option ℕ). IsGotten f keys put s id absent) (sym none) (record { unsent = refl; commands_are = refl; shown_is = refl }))

  absent_printed : (link : LinkSight) (kept : Kept) (written written' : Option (List ℕ)) (view : ShelfView) → Keeps view s → HasPrinted (NoBody id ∷ []) written written'
      → HasTaken f keys s (Get id) line (record { link = link; kept = kept; written = written }) (record { link = link; kept = kept; written = written' }) view false
  absent_printed link kept written written' view keeps printed = record {
    turn = absent;
    line_is = refl;
    taken = absent_turn;
    moves = record { link = passed-none link; kept = with_records-none kept; written = printed };
    keeps = keeps;
    refuses = refl;
  }

  absent_unprinted : (link : LinkSight) (kept : Kept) (written written' : Option (List ℕ)) (stop : VaultStop) → StopsPrinting (NoBody id ∷ []) written written' stop
      → StopsTurn f keys s (Get id) line (record { link = link; kept = kept; written = written }) (record { link = link; kept = kept; written = written' }) stop
  absent_unprinted link kept written written' stop stops = Unprinted absent refl absent_turn (passed-none link) (with_records-none kept) stops

-- the same where the command is that get
pub get_printed : (f : KeyedFn) (keys : VaultSecrets) (s : Shelf) (c : VaultCommand) (line : List ℕ) (id : ℕ) → c ≡ Get id → s.there id ≡ None → shelf_fault s c ≡ None
    → (link : LinkSight) (kept : Kept) (written written' : Option (List ℕ)) (view : ShelfView) → Keeps view s → HasPrinted (NoBody id ∷ []) written written'
    → HasTaken f keys s c line (record { link = link; kept = kept; written = written }) (record { link = link; kept = kept; written = written' }) view false
get_printed f keys s c line id is none fine link kept written written' view keeps printed =
    subst (λ (d : VaultCommand). HasTaken f keys s d line (record { link = link; kept = kept; written = written }) (record { link = link; kept = kept; written = written' }) view false) (sym is)
    (absent_printed f keys s id line none (subst (λ (d : VaultCommand). shelf_fault s d ≡ None) is fine) link kept written written' view keeps printed)

pub get_unprinted : (f : KeyedFn) (keys : VaultSecrets) (s : Shelf) (c : VaultCommand) (line : List ℕ) (id : ℕ) → c ≡ Get id → s.there id ≡ None → shelf_fault s c ≡ None
    → (link : LinkSight) (kept : Kept) (written written' : Option (List ℕ)) (stop : VaultStop) → StopsPrinting (NoBody id ∷ []) written written' stop
    → StopsTurn f keys s c line (record { link = link; kept = kept; written = written }) (record { link = link; kept = kept; written = written' }) stop
get_unprinted f keys s c line id is none fine link kept written written' stop stops =
    subst (λ (d : VaultCommand). StopsTurn f keys s d line (record { link = link; kept = kept; written = written }) (record { link = link; kept = kept; written = written' }) stop) (sym is)
    (absent_unprinted f keys s id line none (subst (λ (d : VaultCommand). shelf_fault s d ≡ None) is fine) link kept written written' stop stops)
