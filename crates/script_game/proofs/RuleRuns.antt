-- What is live on a side after one choice more, and that the choice is accepted.
use Rattle.std.proofs.Common.{◌≡◌, ℕ, ◌+◌, ◌-◌, ◌<◌, ◌≤◌, ◌^◌, ◌||◌, Bool, true, false, not, List, [], ◌∷◌, ◌++◌, length, map, filter, nat_lt, None, refl, sym, ap, subst, ◌∙◌, arith}
use Rattle.std.specs.Prelude.{codes}
use Rattle.std.proofs.lemmas.Bool.{and_from, lt-ltb, ne_eqb, eq-eqb}
use Rattle.std.proofs.lemmas.List.{length-append}
use Rattle.client_registry.proofs.LiveLaws.{counter-below, live-push}
use Rattle.client_registry.specs.Acceptance.{frames_needed, size_refusal}
use Rattle.client_registry.specs.Command.{Command, Add, Delete, Search, is_update}
use Rattle.client_registry.specs.Documents.{is_live, pairs_of}
use Rattle.client_registry.specs.Live.{after, counter, is_listed}
use Rattle.client_registry.specs.Sized.{is_accepted, update_frames}
use Rattle.script_game.proofs.RisingLaws.{either_right, is_live-first, is_live-upper, lower, one_more, wider, without-lower}
use Rattle.script_game.specs.GameDocuments.{game_document, game_documents, game_setup, own_word}
use Rattle.script_game.specs.RuleRuns.{IsRisingWithin, IsRuleRun, live_with}
use Rattle.script_game.specs.declared.game_side.GameSide.{GameSide}
use Rattle.script_game.specs.declared.game_side.GameSide.TheVariants.{Left, Right}

-- one command more is one number more
pub length-push : {A : Type 0} (xs : List A) (x : A) → length (xs ++ x ∷ []) ≡ length xs + 1
length-push xs x = length-append xs (x ∷ [])

length-filter-most : {A : Type 0} (p : A → Bool) (xs : List A) → length (filter p xs) ≤ length xs
length-filter-most p [] = omega arith
length-filter-most p (x ∷ xs) = by (p x) refl (length-filter-most p xs)
  where
    by : (b : Bool) → p x ≡ b → length (filter p xs) ≤ length xs → length (filter p (x ∷ xs)) ≤ length (x ∷ xs)
    by true e rest = rw e (omega (arith, rest))
    by false e rest = rw e (omega (arith, rest))

module _ (side : GameSide) where
  map-more : (ns : List ℕ) (n : ℕ) → map (game_document side) ns ++ game_document side n ∷ [] ≡ map (game_document side) (ns ++ n ∷ [])
  map-more [] n = refl
  map-more (m ∷ ms) n = ap (λ rest. game_document side m ∷ rest) (map-more ms n)

  pub after-setup : IsRuleRun side [] []
  after-setup = record { live = refl; rising = tt }

  module _ (added : List ℕ) (later : List Command) (run : IsRuleRun side added later) where
    risen : (c : Command) → IsRisingWithin 100 (101 + length (later ++ c ∷ [])) added
    risen c = wider 100 (101 + length later) _ added (let more = length-push later c in omega (arith, more)) run.rising

    pub after-search : IsRuleRun side added (later ++ Search (codes "s") ∷ [])
    after-search = record { live = live-push (game_documents side) later (Search (codes "s")) ∙ run.live; rising = risen (Search (codes "s")) }

    module _ (n : ℕ) (is : n ≡ 101 + length later) where
      abbrev grown : Command
      grown = Add (game_document side n)

      pub after-add : IsRuleRun side (added ++ n ∷ []) (later ++ Add (game_document side n) ∷ [])
      after-add = record {
        live = live-push (game_documents side) later grown ∙ ap (λ docs. docs ++ game_document side n ∷ []) run.live ∙ map-more (live_with added) n;
        rising = wider 100 (n + 1) _ (added ++ n ∷ []) (let more = length-push later grown in omega (arith, more, is))
            (one_more 100 n added (omega (arith, is)) (subst (λ b. IsRisingWithin 100 b added) (sym is) run.rising));
      }

      all_rise : IsRisingWithin 0 n (live_with added)
      all_rise = (
        omega arith,
        omega (arith, is),
        (
          omega arith,
          omega (arith, is),
          (
            omega arith,
            omega (arith, is),
            (
              omega arith,
              omega (arith, is),
              lower 4 100 n added (omega arith) (subst (λ b. IsRisingWithin 100 b added) (sym is) run.rising),
            ),
          ),
        ),
      )

      has_counter : (word : List ℕ) → length later < 2 ^ 31 → (is_listed (game_setup side) later word n || nat_lt (counter (game_setup side) later word) (2 ^ 32 - 1)) ≡ true
      has_counter word few =
          either_right side (is_listed (game_setup side) later word n) _ (lt-ltb _ _ (omega (arith, few, counter-below (game_setup side) word later, length-filter-most is_update later)))

      pub accepts-add : length later < 2 ^ 31 → is_accepted (game_setup side) later (Add (game_document side n)) ≡ true
      accepts-add few =
          and_from _ _ (ap (λ docs. not (is_live docs n)) run.live ∙ ap not (is_live-upper side n 0 n (live_with added) (omega arith) all_rise))
          (and_from _ _ (has_counter (codes "s") few) (and_from _ _ (has_counter (own_word side) few) refl))

  module _ (n : ℕ) (rest : List ℕ) (later : List Command) (run : IsRuleRun side (n ∷ rest) later) where
    pub accepts-delete : is_accepted (game_setup side) later (Delete n) ≡ true
    accepts-delete = ap (λ docs. is_live docs n) run.live ∙ is_live-first side n rest

    pub after-delete : IsRuleRun side rest (later ++ Delete n ∷ [])
    after-delete = record {
      live = live-push (game_documents side) later (Delete n) ∙ ap (λ docs. after docs (Delete n)) run.live
          ∙ rw (ne_eqb 1 n (λ e. omega (arith, e, above)), ne_eqb 2 n (λ e. omega (arith, e, above)), ne_eqb 3 n (λ e. omega (arith, e, above)), ne_eqb 4 n (λ e. omega (arith, e, above)), eq-eqb n n refl)
          (ap (λ docs. game_document side 1 ∷ game_document side 2 ∷ game_document side 3 ∷ game_document side 4 ∷ docs) (without-lower side n n _ rest (omega arith) run.rising.2));
      rising = wider 100 (101 + length later) _ rest (let more = length-push later (Delete n) in omega (arith, more)) (lower 100 n _ rest (omega (arith, above)) run.rising.2);
    }
      where
        above : 100 < n
        above = run.rising.0

  -- the setup is accepted, and takes three update frames
  pub size_refusal-game : size_refusal (game_setup side) ≡ None
  size_refusal-game = by side
    where
      by : (side : GameSide) → size_refusal (game_setup side) ≡ None
      by Left = refl
      by Right = refl

  pub pairs_of-game : pairs_of (game_documents side) ≡ 8
  pairs_of-game = refl

  pub frames_needed-game : frames_needed (game_setup side) ≡ 3
  frames_needed-game = by side
    where
      by : (side : GameSide) → frames_needed (game_setup side) ≡ 3
      by Left = refl
      by Right = refl

  pub update_frames-game : (later : List Command) → update_frames (record { setup = game_setup side; later = later }) ≤ 3 + length later
  update_frames-game later = omega (arith, frames_needed-game, length-filter-most is_update later)
