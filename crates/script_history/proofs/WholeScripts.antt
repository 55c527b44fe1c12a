-- A script that is read whole, by what is read of it up to a line `twin`: at such a line it stops.
use Rattle.std.proofs.Common.{◌≡◌, inl, inr, ℕ, ◌+◌, Bool, true, false, ◌||◌, List, [], ◌∷◌, refl, sym, ap, subst}
use Rattle.std.specs.Prelude.{Option, None, Some, IfSome, option_map, if◌then◌else◌}
use Rattle.std.specs.Io.KnownBytes.{append_known}
use Rattle.script_run_texts.proofs.TwinLines.{line_of-twin}
use Rattle.script_run_texts.specs.Twins.{is_twin_line}
use Rattle.def_script_meaning.specs.Lines.{Line, Empty, Key, Command, line_in, lines_in}
use Rattle.def_script_meaning.specs.Outcome.{Place, after, is_refusal, opened}
use Rattle.sse_script.specs.Shown.{BadLine}
use Rattle.script_history.specs.Reads.{ReadEnd, Whole, Stopped, EndsSo, StopsUnread, StopsPrinting, Reads, ReadsFirst, ReadsFirstFrom, read_outcome, refusal_in, refused_text}
use Rattle.script_history.specs.TwoScripts.{EndsPart, before_twin, behind_twin, first_left, behind_left}
use Rattle.script_history.proofs.ReadingGoesOn.{line_in-none}

-- how a whole reading ends where the first script's ended at a line `twin`
abbrev pub at_line : ReadEnd → ReadEnd
at_line (Whole key history refused next) = Stopped (Some (BadLine next))
at_line (Stopped cause) = Stopped cause

-- with no such line the first script is all
before-whole : (texts : List (List ℕ)) → behind_twin texts ≡ None → before_twin texts ≡ texts
before-whole [] none = refl
before-whole (text ∷ texts) none = by (is_twin_line text) none (before-whole texts)
  where
    by : (b : Bool) → (if b then Some texts else behind_twin texts) ≡ None → (behind_twin texts ≡ None → before_twin texts ≡ texts) → (if b then [] else text ∷ before_twin texts) ≡ text ∷ texts
    by true none rest = absurd (cc)
    by false none rest = ap (λ ts. text ∷ ts) (rest none)

module _ (now last : Option (List ℕ)) (end : ReadEnd) where
  unread-at : StopsUnread now last end → StopsUnread now last (at_line end)
  unread-at unread = record { printed = unread.printed; stops = elim unread.stops [ inl e ↦ inl (ap at_line e) | inr e ↦ inr (ap at_line e) ] }

  printing-at : (text : List ℕ) → StopsPrinting text now last end → StopsPrinting text now last (at_line end)
  printing-at text stops = record { printed = stops.printed; stops = elim stops.stops [ inl e ↦ inl (ap at_line e) | inr e ↦ inr (ap at_line e) ] }

  so-at : (so : ReadEnd) → EndsSo so now last end → EndsSo (at_line so) now last (at_line end)
  so-at so ends = elim ends [ inl p ↦ inl (p.0, ap at_line p.1) | inr unread ↦ inr (unread-at unread) ]

-- one line, where this is so of those behind it
module _ (last : Option (List ℕ)) (end : ReadEnd) (before whole : List (Option Line)) where
  step : ((place : Place) (number : ℕ) (refused : Bool) (now : Option (List ℕ)) → Reads place number before refused now last end → Reads place number whole refused now last (at_line end))
      → (item : Option Line) (place : Place) (number : ℕ) (refused : Bool) (now : Option (List ℕ)) → Reads place number (item ∷ before) refused now last end → Reads place number (item ∷ whole) refused now last (at_line end)
  step rest None place number refused now reads = so-at now last end (Stopped (Some (BadLine number))) reads
  step rest (Some Empty) place number refused now reads = elim reads [ inl unread ↦ inl (unread-at now last end unread) | inr more ↦ inr (rest place (number + 1) refused now more) ]
  step rest (Some (Key key)) place number refused now reads = so-at now last end (Stopped (Some (BadLine number))) reads
  step rest (Some (Command line)) place number refused now reads =
      let o = read_outcome place line in
      elim reads [
        | inl unread ↦ inl (unread-at now last end unread)
        | inr others ↦ elim others [
          | inl stops ↦ inr (inl (printing-at now last end (refused_text (refusal_in o)) stops))
          | inr more ↦ inr (inr (rest (after o place) (number + 1) (refused || is_refusal o) (append_known now (refused_text (refusal_in o))) more))
        ]
      ]

  step_first : (mark : Option (List ℕ → List ℕ)) → ((number : ℕ) (now : Option (List ℕ)) → ReadsFirst mark number before now last end → ReadsFirst mark number whole now last (at_line end))
      → ((place : Place) (number : ℕ) (refused : Bool) (now : Option (List ℕ)) → Reads place number before refused now last end → Reads place number whole refused now last (at_line end))
      → (item : Option Line) (number : ℕ) (now : Option (List ℕ)) → ReadsFirst mark number (item ∷ before) now last end → ReadsFirst mark number (item ∷ whole) now last (at_line end)
  step_first mark first rest None number now reads = so-at now last end (Stopped (Some (BadLine number))) reads
  step_first mark first rest (Some Empty) number now reads = elim reads [ inl unread ↦ inl (unread-at now last end unread) | inr more ↦ inr (first (number + 1) now more) ]
  step_first mark first rest (Some (Key key)) number now reads = elim reads [ inl unread ↦ inl (unread-at now last end unread) | inr more ↦ inr (rest (opened mark key) (number + 1) false now more) ]
  step_first mark first rest (Some (Command line)) number now reads = so-at now last end (Stopped (Some (BadLine number))) reads

module _ (last : Option (List ℕ)) (end : ReadEnd) where
  abbrev IsReadOn : List (List ℕ) → Type 0
  IsReadOn texts =
      (place : Place) (number : ℕ) (refused : Bool) (now : Option (List ℕ)) → Reads place number (lines_in (before_twin texts)) refused now last end → Reads place number (lines_in texts) refused now last (at_line end)

  abbrev IsReadFirst : (mark : Option (List ℕ → List ℕ)) → List (List ℕ) → Type 0
  IsReadFirst mark texts = (number : ℕ) (now : Option (List ℕ)) → ReadsFirst mark number (lines_in (before_twin texts)) now last end → ReadsFirst mark number (lines_in texts) now last (at_line end)

  -- a text that has such a line, from a place
  reads-twin : (texts behind : List (List ℕ)) → behind_twin texts ≡ Some behind → IsReadOn texts
  reads-twin [] behind some place number refused now reads = absurd (cc)
  reads-twin (text ∷ texts) behind some place number refused now reads = by (is_twin_line text) refl some (reads-twin texts behind) reads
    where
      by : (b : Bool) → is_twin_line text ≡ b → (if b then Some texts else behind_twin texts) ≡ Some behind → (behind_twin texts ≡ Some behind → IsReadOn texts) → Reads place number (lines_in (if b then [] else text ∷ before_twin texts)) refused now last end
          → Reads place number (lines_in (text ∷ texts)) refused now last (at_line end)
      by true is some rest reads =
          subst (λ item. Reads place number (item ∷ lines_in texts) refused now last (at_line end)) (sym (line_in-none text (line_of-twin text is)))
          (so-at now last end (Whole place.key place.history refused number) reads)
      by false is some rest reads = step last end (lines_in (before_twin texts)) (lines_in texts) (rest some) (line_in text) place number refused now reads

  -- from before its key line
  first-twin : (mark : Option (List ℕ → List ℕ)) (texts behind : List (List ℕ)) → behind_twin texts ≡ Some behind → IsReadFirst mark texts
  first-twin mark [] behind some number now reads = absurd (cc)
  first-twin mark (text ∷ texts) behind some number now reads = by (is_twin_line text) refl some (first-twin mark texts behind) (reads-twin texts behind) reads
    where
      by : (b : Bool) → is_twin_line text ≡ b → (if b then Some texts else behind_twin texts) ≡ Some behind → (behind_twin texts ≡ Some behind → IsReadFirst mark texts) → (behind_twin texts ≡ Some behind → IsReadOn texts)
          → ReadsFirst mark number (lines_in (if b then [] else text ∷ before_twin texts)) now last end → ReadsFirst mark number (lines_in (text ∷ texts)) now last (at_line end)
      by true is some first rest reads =
          subst (λ item. ReadsFirst mark number (item ∷ lines_in texts) now last (at_line end)) (sym (line_in-none text (line_of-twin text is)))
          (so-at now last end (Stopped (Some (BadLine number))) reads)
      by false is some first rest reads = step_first last end (lines_in (before_twin texts)) (lines_in texts) mark (first some) (rest some) (line_in text) number now reads

-- Where lines are taken from a source.

module _ (mark : Option (List ℕ → List ℕ)) (left : Option (List (List ℕ))) (number : ℕ) (now last : Option (List ℕ)) where
  -- with no line `twin`
  pub whole-alone : (end : ReadEnd) → IfSome left (λ lines. behind_twin lines ≡ None) → ReadsFirstFrom mark number (first_left left) now last end → ReadsFirstFrom mark number left now last end
  whole-alone end none reads = of left none reads
    where
      of : (l : Option (List (List ℕ))) → IfSome l (λ lines. behind_twin lines ≡ None) → ReadsFirstFrom mark number (first_left l) now last end → ReadsFirstFrom mark number l now last end
      of None none reads = tt
      of (Some texts) none reads = subst (λ ts. ReadsFirst mark number (lines_in ts) now last end) (before-whole texts none) reads

  -- with one
  pub whole-twin : (end : ReadEnd) (new : Option (List (List ℕ))) → behind_left left ≡ option_map (λ lines. Some lines) new → ReadsFirstFrom mark number (first_left left) now last end → ReadsFirstFrom mark number left now last (at_line end)
  whole-twin end new parts reads = of left new parts reads
    where
      of : (l new : Option (List (List ℕ))) → behind_left l ≡ option_map (λ lines. Some lines) new → ReadsFirstFrom mark number (first_left l) now last end → ReadsFirstFrom mark number l now last (at_line end)
      of None new parts reads = tt
      of (Some texts) None parts reads = absurd (cc)
      of (Some texts) (Some behind) parts reads = first-twin last end mark texts behind (by (behind_twin texts) parts) number now reads
        where
          by : (o : Option (List (List ℕ))) → Some o ≡ Some (Some behind) → o ≡ Some behind
          by o e = cc

  -- where it stopped, either way
  pub whole-stopped : (end : ReadEnd) → at_line end ≡ end → ReadsFirstFrom mark number (first_left left) now last end → ReadsFirstFrom mark number left now last end
  whole-stopped end same reads = of left reads
    where
      of : (l : Option (List (List ℕ))) → ReadsFirstFrom mark number (first_left l) now last end → ReadsFirstFrom mark number l now last end
      of None reads = tt
      of (Some texts) reads = by (behind_twin texts) refl
        where
          by : (o : Option (List (List ℕ))) → behind_twin texts ≡ o → ReadsFirst mark number (lines_in texts) now last end
          by None none = subst (λ ts. ReadsFirst mark number (lines_in ts) now last end) (before-whole texts none) reads
          by (Some behind) some = subst (ReadsFirst mark number (lines_in texts) now last) same (first-twin last end mark texts behind some number now reads)

  -- by where the lines ended
  pub whole-ended : (at_twin : Bool) (end : ReadEnd) (new : Option (List (List ℕ))) (remaining : Option (List ℕ)) (few : Type 0) → EndsPart at_twin left new remaining few → ReadsFirstFrom mark number (first_left left) now last end
      → ReadsFirstFrom mark number left now last (if at_twin then at_line end else end)
  whole-ended true end new remaining few parts reads = whole-twin end new parts.0 reads
  whole-ended false end new remaining few parts reads = whole-alone end parts.0 reads
