-- One step of a run over the lines that are left: the reading stops, no line is left, a bad line, an empty one, a line that
-- is carried out, and one in which the run stops. A loop over the lines keeps that whatever runs from here runs from its
-- start, so each way out of it is one of these.
use Rattle.keyed_fn.specs.KeyFormulas.{mark_of}
use Rattle.std.proofs.Common.{◌≡◌, ℕ, ◌+◌, inl, inr, Bool, false, ◌||◌, List, [], ◌∷◌, refl, sym, ap, ◌∙◌, subst}
use Rattle.std.specs.Prelude.{Option, Some, None, option_map, IfSome}
use Rattle.client_registry.specs.Histories.{empty}
use Rattle.keyed_fn.specs.KeyedFn.{KeyedFn}
use Rattle.sse_script.specs.Shown.{BadLine}
use Rattle.sse_script.specs.TextLines.{TakesLine}
use Rattle.def_script_meaning.specs.Carries.{Outside, Carries}
use Rattle.def_script_meaning.specs.Lines.{Line, Empty, Key, Command, Request, line_in, lines_in}
use Rattle.def_script_meaning.specs.Outcome.{Place, Outcome, opened, outcome, after, is_refusal}
use Rattle.def_script_meaning.specs.Runs.{Ended, StopsReading, StopsHere, Stops, Runs, Opens, IsGreeted, IsTurnedAway, Moment, moment, RunsFrom, OpensFrom, OpensAtKey}
use Rattle.def_script_meaning.specs.Stops.{AtEnd, At}

-- a line that ends a script
abbrev pub IsBad : Option Line → Type 0
IsBad None = Unit {0}
IsBad (Some Empty) = ⊥
IsBad (Some (Key key)) = Unit {0}
IsBad (Some (Command line)) = ⊥

-- the same where a key line must be
abbrev pub IsBadFirst : Option Line → Type 0
IsBadFirst None = Unit {0}
IsBadFirst (Some Empty) = ⊥
IsBadFirst (Some (Key key)) = ⊥
IsBadFirst (Some (Command line)) = Unit {0}

-- whatever runs from here runs from the start
pub record Continues (f : KeyedFn) (start here : Moment) : Type 0 where
  pub rest : (end : Ended) → RunsFrom f here end → RunsFrom f start end

-- a loop at its start
pub Continues-start : (f : KeyedFn) (start : Moment) → Continues f start start
Continues-start f start = record { rest = λ end runs. runs }

-- what runs over the line that is read and those after it runs over what is left
over_left : (R : List (Option Line) → Type 0) (left behind : Option (List (List ℕ))) (text : List ℕ) → TakesLine left behind text
    → ((texts : List (List ℕ)) → behind ≡ Some texts → R (line_in text ∷ lines_in texts)) → IfSome left (λ texts. R (lines_in texts))
over_left R left behind text taken runs = subst (λ l. IfSome l (λ texts. R (lines_in texts))) (sym taken) (by behind refl)
  where
    by : (b : Option (List (List ℕ))) → behind ≡ b → IfSome (option_map (λ texts. text ∷ texts) b) (λ texts. R (lines_in texts))
    by None e = tt
    by (Some texts) e = runs texts e

module _ (f : KeyedFn) (start : Moment) (place : Place) (number : ℕ) (left : Option (List (List ℕ))) (refused : Bool) (now : Outside) (c : Continues f start (moment place number left refused now)) where
  -- the reading stops
  pub runs-reading : (end : Ended) → StopsReading now (Some place.key) place.history end → RunsFrom f start end
  runs-reading end stops = c.rest end (by left)
    where
      of : (lines : List (Option Line)) → Runs f place number lines refused now end
      of [] = inr stops
      of (None ∷ lines) = inr stops
      of (Some Empty ∷ lines) = inl stops
      of (Some (Key key) ∷ lines) = inr stops
      of (Some (Command line) ∷ lines) = inl stops

      by : (l : Option (List (List ℕ))) → IfSome l (λ texts. Runs f place number (lines_in texts) refused now end)
      by None = tt
      by (Some texts) = of (lines_in texts)

  -- no line is left
  pub runs-end : (end : Ended) → IfSome left (λ texts. texts ≡ []) → StopsHere now (Some place.key) place.history (AtEnd refused) end → RunsFrom f start end
  runs-end end none stops = c.rest end (by left none)
    where
      by : (l : Option (List (List ℕ))) → IfSome l (λ texts. texts ≡ []) → IfSome l (λ texts. Runs f place number (lines_in texts) refused now end)
      by None none = tt
      by (Some texts) none = subst (λ texts. Runs f place number (lines_in texts) refused now end) (sym none) stops

  module _ (behind : Option (List (List ℕ))) (text : List ℕ) (taken : TakesLine left behind text) where
    over_line : (end : Ended) → ((texts : List (List ℕ)) → behind ≡ Some texts → Runs f place number (line_in text ∷ lines_in texts) refused now end) → RunsFrom f start end
    over_line end runs = c.rest end (over_left (λ lines. Runs f place number lines refused now end) left behind text taken runs)

    -- a line that isn't in the grammar, or one more key line
    pub runs-bad : (end : Ended) → IsBad (line_in text) → StopsHere now (Some place.key) place.history (At (BadLine number)) end → RunsFrom f start end
    runs-bad end bad stops = over_line end (λ texts e. of (line_in text) bad (lines_in texts))
      where
        of : (item : Option Line) → IsBad item → (lines : List (Option Line)) → Runs f place number (item ∷ lines) refused now end
        of None bad lines = stops
        of (Some Empty) bad lines = absurd bad
        of (Some (Key key)) bad lines = stops
        of (Some (Command line)) bad lines = absurd bad

    -- an empty line
    pub continues-empty : (next : Moment) → line_in text ≡ Some Empty → next ≡ moment place (number + 1) behind refused now → Continues f start next
    continues-empty next reads is = record {
      rest = λ end runs. over_line end (λ texts e.
          subst (λ item. Runs f place number (item ∷ lines_in texts) refused now end) (sym reads)
          (inr (subst (λ m. RunsFrom f m end) (is ∙ ap (λ l. moment place (number + 1) l refused now) e) runs)));
    }

    module _ (line : Request) (reads : line_in text ≡ Some (Command line)) where
      abbrev result : Outcome
      result = outcome place line

      over_command : (end : Ended) → ((texts : List (List ℕ)) → behind ≡ Some texts → Runs f place number (Some (Command line) ∷ lines_in texts) refused now end) → RunsFrom f start end
      over_command end runs = over_line end (λ texts e. subst (λ item. Runs f place number (item ∷ lines_in texts) refused now end) (sym reads) (runs texts e))

      -- a line in which the run stops
      pub runs-stopped : (end : Ended) → Stops f place result now end → RunsFrom f start end
      runs-stopped end stops = over_command end (λ texts e. inr (inl stops))

      -- a line that is carried out
      pub continues-next : (next : Moment) (between : Outside) → Carries f place result now between
          → next ≡ moment (after result place) (number + 1) behind (refused || is_refusal result) between → Continues f start next
      continues-next next between carries is = record {
        rest = λ end runs. over_command end (λ texts e.
            inr (inr (between, carries, subst (λ m. RunsFrom f m end) (is ∙ ap (λ l. moment (after result place) (number + 1) l (refused || is_refusal result) between) e) runs)));
      }

-- Before the key line.

-- whatever opens from here opens from the start
pub record ContinuesOpening (f : KeyedFn) (first : ℕ) (all : Option (List (List ℕ))) (now : Outside) (number : ℕ) (left : Option (List (List ℕ))) : Type 0 where
  pub rest : (end : Ended) → OpensFrom f number left now end → OpensFrom f first all now end

-- a loop at its start
pub ContinuesOpening-start : (f : KeyedFn) (first : ℕ) (all : Option (List (List ℕ))) (now : Outside) → ContinuesOpening f first all now first all
ContinuesOpening-start f first all now = record { rest = λ end opens. opens }

module _ (f : KeyedFn) (first : ℕ) (all : Option (List (List ℕ))) (now : Outside) (number : ℕ) (left : Option (List (List ℕ))) (c : ContinuesOpening f first all now number left) where
  -- the reading stops
  pub opens-reading : (end : Ended) → StopsReading now None empty end → OpensFrom f first all now end
  opens-reading end stops = c.rest end (by left)
    where
      of : (lines : List (Option Line)) → Opens f number lines now end
      of [] = inr stops
      of (None ∷ lines) = inr stops
      of (Some Empty ∷ lines) = inl stops
      of (Some (Key key) ∷ lines) = inl stops
      of (Some (Command line) ∷ lines) = inr stops

      by : (l : Option (List (List ℕ))) → IfSome l (λ texts. Opens f number (lines_in texts) now end)
      by None = tt
      by (Some texts) = of (lines_in texts)

  -- no key line is left
  pub opens-end : (end : Ended) → IfSome left (λ texts. texts ≡ []) → StopsHere now None empty (At (BadLine number)) end → OpensFrom f first all now end
  opens-end end none stops = c.rest end (by left none)
    where
      by : (l : Option (List (List ℕ))) → IfSome l (λ texts. texts ≡ []) → IfSome l (λ texts. Opens f number (lines_in texts) now end)
      by None none = tt
      by (Some texts) none = subst (λ texts. Opens f number (lines_in texts) now end) (sym none) stops

  module _ (behind : Option (List (List ℕ))) (text : List ℕ) (taken : TakesLine left behind text) where
    over_first : (end : Ended) → ((texts : List (List ℕ)) → behind ≡ Some texts → Opens f number (line_in text ∷ lines_in texts) now end) → OpensFrom f first all now end
    over_first end opens = c.rest end (over_left (λ lines. Opens f number lines now end) left behind text taken opens)

    -- a line that isn't in the grammar, or a command before the key line
    pub opens-bad : (end : Ended) → IsBadFirst (line_in text) → StopsHere now None empty (At (BadLine number)) end → OpensFrom f first all now end
    opens-bad end bad stops = over_first end (λ texts e. of (line_in text) bad (lines_in texts))
      where
        of : (item : Option Line) → IsBadFirst item → (lines : List (Option Line)) → Opens f number (item ∷ lines) now end
        of None bad lines = stops
        of (Some Empty) bad lines = absurd bad
        of (Some (Key key)) bad lines = absurd bad
        of (Some (Command line)) bad lines = stops

    -- an empty line
    pub opening-empty : line_in text ≡ Some Empty → ContinuesOpening f first all now (number + 1) behind
    opening-empty reads = record {
      rest = λ end opens. over_first end (λ texts e.
          subst (λ item. Opens f number (item ∷ lines_in texts) now end) (sym reads) (inr (subst (λ l. OpensFrom f (number + 1) l now end) e opens)));
    }

    -- the key line
    pub opens-key : (key : List ℕ) → line_in text ≡ Some (Key key) → (end : Ended) → OpensAtKey f key number behind now end → OpensFrom f first all now end
    opens-key key reads end opens = c.rest end (subst (λ l. OpensFrom f number l now end) (sym taken) (by behind opens))
      where
        by : (b : Option (List (List ℕ))) → OpensAtKey f key number b now end → OpensFrom f number (option_map (λ texts. text ∷ texts) b) now end
        by None opens = tt
        by (Some texts) opens = subst (λ item. Opens f number (item ∷ lines_in texts) now end) (sym reads) opens

-- At the key line.

module _ (f : KeyedFn) (key : List ℕ) (number : ℕ) (behind : Option (List (List ℕ))) (now : Outside) (end : Ended) where
  at_key : ((texts : List (List ℕ)) → behind ≡ Some texts → Opens f number (Some (Key key) ∷ lines_in texts) now end) → OpensAtKey f key number behind now end
  at_key opens = by behind refl
    where
      by : (b : Option (List (List ℕ))) → behind ≡ b → OpensAtKey f key number b now end
      by None e = tt
      by (Some texts) e = opens texts e

  -- the greeting is cut, also before anything of it is sent
  pub at_key-away : IsTurnedAway 0 0 key empty now end → OpensAtKey f key number behind now end
  at_key-away away = at_key (λ texts e. inr (inl away))

  -- the session is opened, and what follows runs from there
  pub at_key-greeted : (next : Outside) → IsGreeted 0 0 now next → RunsFrom f (moment (opened (Some (mark_of f)) key) (number + 1) behind false next) end → OpensAtKey f key number behind now end
  at_key-greeted next greeted runs = at_key (λ texts e. inr (inr (next, greeted, subst (λ l. RunsFrom f (moment (opened (Some (mark_of f)) key) (number + 1) l false next) end) e runs)))
