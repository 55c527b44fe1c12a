-- What clap makes of words without a hyphen in front, by a command whose words are either subcommands or values by their places.
use Rattle.std.proofs.Common.{◌≡◌, ◌≢◌, ◌⊎◌, Bool, true, false, List, [], ◌∷◌, ◌++◌, refl, inl, inr, ap, ap₂, sym, ◌∙◌}
use Rattle.std.specs.Prelude.{Option, Some, None, codes, bytes_eq, find, is_some, fold}
use Rattle.std.proofs.lemmas.Bool.{or_parts}
use Rattle.std.proofs.lemmas.Slice.Eq.{bytes_eq-Decides}
use Rattle.clap.specs.Kinds.{Kinds, or_else}
use Rattle.clap.specs.Faults.{built_fault, check_fault, defaults_fault, entered_fault, fault_of, settle_fault, walk_fault}
use Rattle.clap.specs.Walk.{Names, Row, Rule, Text, Walk, answers_to, finished, nothing_held, settled, walk, walk_from, walked}
use Rattle.clap.specs.Simple.{App, argument_words, built, entered, names_of, subcommand_of}
use Rattle.clap.specs.declared.error.kind.ErrorKind.{ErrorKind}
use Rattle.clap.specs.declared.error.kind.ErrorKind.TheVariants as kind
use Rattle.clap.proofs.FaultLemmas.{stopped_fault}
use Rattle.program_words.specs.Hyphens.{has_hyphen}
use Rattle.program_words.proofs.HyphenLaws.{IsNoFlag, no_flag}

append_nil : {X : Type 0} (xs : List X) → xs ++ [] ≡ xs
append_nil [] = refl
append_nil (x ∷ xs) = ap (λ r. x ∷ r) (append_nil xs)

append_one : {X : Type 0} (xs : List X) (y : X) (ys : List X) → (xs ++ y ∷ []) ++ ys ≡ xs ++ y ∷ ys
append_one [] y ys = refl
append_one (x ∷ xs) y ys = ap (λ r. x ∷ r) (append_one xs y ys)

-- words behind a subcommand go to it
walked_on : (c : List Rule) (names : Names) (w : Walk) (name : Text) (seen words : List Text)
    → fold (walked c names) (record w { stopped = Some (name, seen) }) words ≡ record w { stopped = Some (name, seen ++ words) }
unfolding walked
walked_on c names w name seen [] = ap (λ (s : List Text). record w { stopped = Some (name, s) }) (sym (append_nil seen))
walked_on c names w name seen (word ∷ words) =
    walked_on c names w name (seen ++ word ∷ []) words ∙ ap (λ (s : List Text). record w { stopped = Some (name, s) }) (append_one seen word words)

-- what a list of words comes to: clap takes it, and what is taken of it is what the definition says; or the definition says that nothing
-- is, and clap refuses it
abbrev pub Reading : {M : Type 0} → App → (taken asked : List Text → Option M) → List Text → Type 0
Reading app taken asked words = ((fault_of app words ≡ []) × (taken words ≡ asked words))
    ⊎ ((asked words ≡ None) × ((k : ErrorKind) × (ks : Kinds) × (fault_of app words ≡ k ∷ ks)))

-- the same for whoever has clap's answer

pub read_right : {M : Type 0} (app : App) (taken asked : List Text → Option M) (words : List Text) → Reading app taken asked words → fault_of app words ≡ [] → taken words ≡ asked words
read_right app taken asked words (inl is) none = is.1
read_right app taken asked words (inr is) none = absurd (let e : [] ≡ is.1.0 ∷ is.1.1 = sym none ∙ is.1.2 in cc)

pub read_wrong : {M : Type 0} (app : App) (taken asked : List Text → Option M) (words : List Text) → Reading app taken asked words → fault_of app words ≢ [] → None ≡ asked words
read_wrong app taken asked words (inl is) some = absurd (some is.0)
read_wrong app taken asked words (inr is) some = sym is.0

-- a word is another than a name
abbrev pub IsNot : (name w : Text) → Type 0
IsNot name w = (bytes_eq w name ≡ false) × (bytes_eq name w ≡ false)

decide_by : (name w : Text) (b c : Bool) → bytes_eq w name ≡ b → bytes_eq name w ≡ c → (w ≡ name) ⊎ IsNot name w
decide_by name w true c e f = inl ((bytes_eq-Decides w name).0 e)
decide_by name w false true e f = inl (sym ((bytes_eq-Decides name w).0 f))
decide_by name w false false e f = inr (e, f)

-- whether a word is a name
pub decide : (name w : Text) → (w ≡ name) ⊎ IsNot name w
decide name w = decide_by name w (bytes_eq w name) (bytes_eq name w) refl refl

-- where a command has words of its own, without the program's name in front
module _ (app : App) (own : (words : List Text) → argument_words app words ≡ words) where
  abbrev whole : App
  whole = built app

  abbrev names : Names
  names = names_of whole

  -- the fault, of where the walk ended and of the fault in it
  abbrev pub fault_at : Walk → Kinds → Kinds
  fault_at end faults = or_else faults
      (or_else (entered_fault whole end.stopped)
      (or_else (settle_fault whole.top.rules whole.top.args_override_self end.held)
      (or_else (defaults_fault (settled whole.top.rules end.held).rows whole.top.rules)
      (check_fault whole.top (finished whole.top.rules end.held) (is_some (entered whole end.stopped))))))

  fault_is : (words : List Text) → fault_of app words ≡ fault_at (walk whole.top.rules names nothing_held words) (walk_fault whole.top names (walk_from nothing_held) words)
  fault_is words = ap (built_fault whole nothing_held) (own words)

  abbrev pub stopped_at : Text → List Text → Walk
  stopped_at name words = record (walk_from nothing_held) { stopped = Some (name, words) }

  -- the first word names a subcommand
  walk_found : (name w : Text) (rest : List Text) → find (answers_to w) names ≡ Some (name, [])
      → walk whole.top.rules names nothing_held (w ∷ rest) ≡ stopped_at name rest
  unfolding walked
  walk_found name w rest found = rw found (walked_on whole.top.rules names (walk_from nothing_held) name [] rest)

  faults_found : (name w : Text) (rest : List Text) → find (answers_to w) names ≡ Some (name, []) → bytes_eq name (codes "help") ≡ false
      → walk_fault whole.top names (walk_from nothing_held) (w ∷ rest) ≡ []
  unfolding walked walk_fault
  faults_found name w rest found other = rw found (rw other (stopped_fault whole.top names (walk_from nothing_held) (name, []) rest))

  pub fault_found : (name w : Text) (rest : List Text) → find (answers_to w) names ≡ Some (name, []) → bytes_eq name (codes "help") ≡ false
      → fault_of app (w ∷ rest) ≡ fault_at (stopped_at name rest) []
  fault_found name w rest found other = fault_is (w ∷ rest) ∙ ap₂ fault_at (walk_found name w rest found) (faults_found name w rest found other)

  pub sub_found : (name w : Text) (rest : List Text) → find (answers_to w) names ≡ Some (name, [])
      → subcommand_of app (w ∷ rest) ≡ entered whole (Some (name, rest))
  sub_found name w rest found =
      ap (λ (ws : List Text). entered whole (walk whole.top.rules names nothing_held ws).stopped) (own (w ∷ rest))
      ∙ ap (λ (end : Walk). entered whole end.stopped) (walk_found name w rest found)

  module _ {M : Type 0} (picked : Option (Text × List Row) → Option M) (asked : List Text → Option M) where
    abbrev pub SubReading : List Text → Type 0
    SubReading words = Reading app (λ ws. picked (subcommand_of app ws)) asked words

    -- a subcommand without values
    pub record IsLone (name : Text) (mode : M) : Type 0 where
      pub found : find (answers_to name) names ≡ Some (name, [])
      pub no_help : bytes_eq name (codes "help") ≡ false
      pub alone : asked (name ∷ []) ≡ Some mode
      pub followed : (a : Text) (rest : List Text) → asked (name ∷ a ∷ rest) ≡ None
      pub free : fault_at (stopped_at name []) [] ≡ []
      pub is_picked : picked (entered whole (Some (name, []))) ≡ Some mode
      pub stray : (a : Text) (rest : List Text) → IsNoFlag a → fault_at (stopped_at name (a ∷ rest)) [] ≡ kind.UnknownArgument ∷ []

    pub lone_reading : (name : Text) (mode : M) → IsLone name mode → (rest : List Text) → has_hyphen rest ≡ false → SubReading (name ∷ rest)
    lone_reading name mode is [] plain =
        inl (fault_found name name [] is.found is.no_help ∙ is.free, ap picked (sub_found name name [] is.found) ∙ is.is_picked ∙ sym is.alone)
    lone_reading name mode is (a ∷ rest) plain =
        inr (is.followed a rest, (kind.UnknownArgument, [], fault_found name name (a ∷ rest) is.found is.no_help ∙ is.stray a rest (no_flag a (or_parts _ _ plain).0)))
