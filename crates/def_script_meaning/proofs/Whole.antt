-- The history that a script means is whole: its first epoch has number 0. So is each first part of it.
use Rattle.std.proofs.Common.{◌≡◌, ℕ, ◌+◌, false, ◌||◌, Bool, List, [], ◌∷◌, None, Some, refl, sym, ap, ◌∙◌, subst}
use Rattle.std.specs.Prelude.{Option}
use Rattle.client_registry.proofs.HistoryLaws.{before_steps}
use Rattle.client_registry.specs.Command.{Command}
use Rattle.client_registry.specs.Epochs.{Step, Does, Renews, first_begins, step_after}
use Rattle.client_registry.specs.Histories.{IsFirstOf, IsWhole, longer, renewed}
use Rattle.client_registry.specs.Run.{History, Offsets, Epochs, From, Renewed, at_first}
use Rattle.def_agreement.proofs.Histories.{ExpectsFirst}
use Rattle.def_agreement.specs.TakenFrames.{Expects}
use Rattle.server_core.specs.State.{ServerState}
use Rattle.def_script_meaning.specs.Lines as script
use Rattle.def_script_meaning.specs.Lines.{Line, Empty, Key, Request, script_lines}
use Rattle.def_script_meaning.specs.Meaning.{follow, meant_from, meaning}
use Rattle.def_script_meaning.specs.Outcome.{Place, opened, outcome, after, is_refusal}
use Rattle.def_script_meaning.proofs.Outcomes.{by_cases}

-- one step more leaves where the first epoch begins
pub first_begins-step : (es : Epochs) (step : Step) → first_begins (step_after es step) ≡ first_begins es
first_begins-step (From o run) (Does c) = refl
first_begins-step (Renewed before key run) (Does c) = refl
first_begins-step es (Renews key) = refl

pub IsWhole-first : (part whole : History) → IsFirstOf part whole → IsWhole whole → IsWhole part
IsWhole-first None whole first is = tt
IsWhole-first (Some es) None first is = absurd first
IsWhole-first (Some es) (Some whole) first is =
    before_steps (λ xs. first_begins xs ≡ at_first) (λ xs step e. sym (first_begins-step xs step) ∙ e) es first.0 (ap first_begins (sym first.1) ∙ is)

-- and so is a whole history with more
pub IsWhole-longer : (h : History) (commands : List Command) → IsWhole h → IsWhole (longer commands h)
IsWhole-longer None commands is = tt
IsWhole-longer (Some (From o run)) commands is = is
IsWhole-longer (Some (Renewed before key run)) commands is = is

pub IsWhole-renewed : (h : History) (key : List ℕ) → IsWhole h → IsWhole (renewed key h)
IsWhole-renewed None key is = tt
IsWhole-renewed (Some es) key is = is

-- a server that expects the first frame of all expects that of a whole history
pub expects_first : (h : History) (start : ServerState) → IsWhole h → Expects 0 start → ExpectsFirst h start
expects_first None start whole expects = tt
expects_first (Some es) start whole expects = subst (λ (o : Offsets). Expects o.frame start) (sym whole) expects

-- The lines of a script.

whole_next : (place : Place) (line : Request) → IsWhole place.history → IsWhole (after (outcome place line) place).history
whole_next place line whole = by_cases place line (λ r. IsWhole (after r place).history) (record {
  refuses = λ refusal. whole;
  collects = λ id words is none e. whole;
  sets_up = λ b big pad none e. refl;
  adds = λ id words is up e. IsWhole-longer place.history _ whole;
  deletes = λ id is up e. IsWhole-longer place.history _ whole;
  finds = λ word up e. IsWhole-longer place.history _ whole;
  queries = λ fields up e. IsWhole-longer place.history _ whole;
  renews = λ key up e. IsWhole-renewed place.history key whole;
})

pub whole_follow : (place : Place) (number : ℕ) (lines : List (Option Line)) (refused : Bool) → IsWhole place.history → IsWhole (follow place number lines refused).history
whole_follow place number [] refused whole = whole
whole_follow place number (None ∷ lines) refused whole = whole
whole_follow place number (Some Empty ∷ lines) refused whole = whole_follow place (number + 1) lines refused whole
whole_follow place number (Some (Key key) ∷ lines) refused whole = whole
whole_follow place number (Some (script.Command line) ∷ lines) refused whole =
    whole_follow (after (outcome place line) place) (number + 1) lines (refused || is_refusal (outcome place line)) (whole_next place line whole)

whole_meant : (mark : Option (List ℕ → List ℕ)) (number : ℕ) (lines : List (Option Line)) → IsWhole (meant_from mark number lines).history
whole_meant mark number [] = tt
whole_meant mark number (None ∷ lines) = tt
whole_meant mark number (Some Empty ∷ lines) = whole_meant mark (number + 1) lines
whole_meant mark number (Some (Key key) ∷ lines) = whole_follow (opened mark key) (number + 1) lines false tt
whole_meant mark number (Some (script.Command line) ∷ lines) = tt

pub meaning_is_whole : (mark : Option (List ℕ → List ℕ)) (bytes : List ℕ) → IsWhole (meaning mark bytes).history
meaning_is_whole mark bytes = whole_meant mark 1 (script_lines bytes)
