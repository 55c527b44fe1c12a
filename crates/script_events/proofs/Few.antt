-- A line of a world has few words.
use Rattle.std.proofs.Common.{◌≡◌, ℕ, ◌^◌, Bool, true, false, List, [], ◌∷◌, length, nat_lt, refl, sym, ap, subst, arith}
use Rattle.std.specs.Prelude.{Option, None, Some, IfSome, option_map, codes, if◌then◌else◌}
use Rattle.std.specs.Str.{bytes_eq}
use Rattle.script_run_texts.proofs.LineWords.{words_few}
use Rattle.script_world.specs.WorldLines.{WorldLineText, ScriptLine, NextWorld, SendLine, DeliverLine, LoseLine, StartLine, alone, deliver_line, side_of, start_line, stop_line, stop_parts, world_line_by_kind, world_line_of}
use Rattle.script_world.specs.declared.world_line.Side.{Side}
use Rattle.sse_script.specs.Fields.{fields_of}
use Rattle.sse_script.specs.Lines.{Line, line_by_kind, line_of}
use Rattle.sse_script.specs.Numbers.{number_of}
use Rattle.script_events.specs.Events.{few_words}

abbrev HasFew : Option WorldLineText → Type 0
HasFew found = IfSome found few_words

chosen : (t : Bool) (a b : Option WorldLineText) → HasFew a → HasFew b → HasFew (if t then a else b)
chosen true a b first second = first
chosen false a b first second = second

mapped : {A : Type 0} (o : Option A) (line : A → WorldLineText) → ((x : A) → few_words (line x)) → HasFew (option_map line o)
mapped None line few = tt
mapped (Some x) line few = few x

few_alone : (line : WorldLineText) → few_words line → (fields : List (List ℕ)) → HasFew (alone line fields)
few_alone line few [] = few
few_alone line few (field ∷ fields) = tt

few_deliver : (fields : List (List ℕ)) → HasFew (deliver_line fields)
few_deliver [] = tt
few_deliver (place ∷ []) = mapped (number_of place) DeliverLine (λ x. tt)
few_deliver (place ∷ other ∷ more) = tt

few_start : (fields : List (List ℕ)) → HasFew (start_line fields)
few_start [] = tt
few_start (side ∷ []) = mapped (side_of side) StartLine (λ x. tt)
few_start (side ∷ other ∷ more) = tt

few_parts : (side : Option Side) (call pick : Option ℕ) → HasFew (stop_parts side call pick)
few_parts (Some side) (Some call) (Some pick) = tt
few_parts (Some side) (Some call) None = tt
few_parts (Some side) None pick = tt
few_parts None call pick = tt

few_stop : (fields : List (List ℕ)) → HasFew (stop_line fields)
few_stop [] = tt
few_stop (side ∷ []) = tt
few_stop (side ∷ call ∷ []) = tt
few_stop (side ∷ call ∷ pick ∷ []) = few_parts (side_of side) (number_of call) (number_of pick)
few_stop (side ∷ call ∷ pick ∷ other ∷ more) = tt

module _ (bytes : List ℕ) where
  few_script : (o : Option Line) → line_of bytes ≡ o → HasFew (option_map ScriptLine o)
  few_script None e = tt
  few_script (Some line) e = words_few line bytes (sym e)

  few_kind : (kind : List ℕ) (fields : List (List ℕ)) → line_of bytes ≡ line_by_kind (kind ∷ fields) → HasFew (world_line_by_kind (kind ∷ fields))
  few_kind kind fields e =
      chosen (bytes_eq kind (codes "world")) _ _ (few_alone NextWorld tt fields)
      (chosen (bytes_eq kind (codes "send")) _ _ (few_alone SendLine tt fields)
      (chosen (bytes_eq kind (codes "deliver")) _ _ (few_deliver fields)
      (chosen (bytes_eq kind (codes "lose")) _ _ (few_alone LoseLine tt fields)
      (chosen (bytes_eq kind (codes "stop")) _ _ (few_stop fields)
      (chosen (bytes_eq kind (codes "start")) _ _ (few_start fields)
      (chosen (bytes_eq kind (codes "query")) None _ tt (few_script (line_by_kind (kind ∷ fields)) e)))))))

  few_fields : (fields : List (List ℕ)) → line_of bytes ≡ line_by_kind fields → HasFew (world_line_by_kind fields)
  few_fields [] e = omega arith
  few_fields (kind ∷ fields) e = few_kind kind fields e

  few_of : HasFew (world_line_of bytes)
  few_of = by (nat_lt (2 ^ 19) (length bytes)) refl
    where
      by : (t : Bool) → nat_lt (2 ^ 19) (length bytes) ≡ t → HasFew (if t then None else world_line_by_kind (fields_of bytes))
      by true e = tt
      by false e = few_fields (fields_of bytes) (ap (λ b. if b then None else line_by_kind (fields_of bytes)) e)

  -- a line that these bytes are
  pub few : (line : WorldLineText) → Some line ≡ world_line_of bytes → few_words line
  few line e = subst HasFew (sym e) few_of
