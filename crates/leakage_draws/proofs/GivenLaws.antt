-- What is drawn of the values of a sheet is what is drawn under its table.
use Rattle.std.proofs.Common.{◌≡◌, ℕ, suc, ◌+◌, Bool, true, false, not, List, [], ◌∷◌, ◌++◌, length, map, filter, take, drop, get_or, refl, sym, ap, ◌∙◌, arith, append_assoc}
use Rattle.std.specs.Prelude.{flat_map, if◌then◌else◌}
use Rattle.std.specs.List.{list_any}
use Rattle.std.proofs.lemmas.List.{length-append, length-map, map-append}
use Rattle.std.proofs.lemmas.List.Concat.{flat_map-append}
use Rattle.client_registry.proofs.OverLaws.{length-over}
use Rattle.client_registry.specs.Command.{Command, Add, Delete, Search}
use Rattle.client_registry.specs.Document.{Document}
use Rattle.client_registry.specs.Live.{live, counter}
use Rattle.client_registry.specs.Over.{over}
use Rattle.client_registry.specs.Run.{Run, Offsets}
use Rattle.client_registry.specs.Setup.{Setup}
use Rattle.client_registry.specs.Sized.{run_words}
use Rattle.leakage_values.specs.Numbered.{numbered_drawing}
use Rattle.leakage_values.specs.declared.drawn.Drawing as codes
use Rattle.leakage_names.specs.Sheets.{Values}
use Rattle.sse_frames.specs.Frames.{be64}
use Rattle.def_leakage.specs.DrawnValues.{Drawing, ForEntry, ForBlock, ForNumber, ForToken, draw, drawings, drawings_by, drawings_of_setup, draws}
use Rattle.sse_model.specs.Drawn.{was_sent, searches_for}
use Rattle.sse_model.specs.Names.{Table, name, PlusLabel, PlusPad, Revocation, Token}
use Rattle.sse_model.specs.Positions.{Position, block_positions, entry_positions, fresh_words, ranks_of}
use Rattle.sse_model.specs.Wire.{labels_in, words_live}
use Rattle.sse_simulator.specs.Leaks.{Draw}
use Rattle.leakage_plaintexts.specs.Clears.{clears}
use Rattle.leakage_draws.specs.Clears.{clear_by}
use Rattle.leakage_draws.specs.Given.{draw_given, sheet_table, tags_given}
use Rattle.leakage_draws.specs.Beside.{beside}

module _ (values : Values) (words : List (List ℕ)) (epoch : ℕ) where
  abbrev t : Table
  t = sheet_table values words

  abbrev numbers : List Drawing → List codes.Drawing
  numbers ds = map (numbered_drawing words) ds

  -- the tags of the setup's blocks

  no_tags : (ps : List Position) → flat_map (tags_given values) (numbers (map ForEntry ps)) ≡ []
  no_tags [] = refl
  no_tags (p ∷ ps) = no_tags ps

  block_tags : (ps : List Position) → flat_map (tags_given values) (numbers (map ForBlock ps)) ≡ labels_in t ps
  block_tags [] = refl
  block_tags (p ∷ ps) = ap (λ tags. t p.label ∷ tags) (block_tags ps)

  numbers-setup : (s : Setup) → numbers (drawings_of_setup epoch s) ≡ numbers (map ForEntry (entry_positions epoch s)) ++ numbers (map ForBlock (block_positions epoch s))
  numbers-setup s = map-append (numbered_drawing words) (map ForEntry (entry_positions epoch s)) (map ForBlock (block_positions epoch s))

  pub setup_tags : (s : Setup) → flat_map (tags_given values) (numbers (drawings_of_setup epoch s)) ≡ labels_in t (block_positions epoch s)
  setup_tags s =
      let entries = numbers (map ForEntry (entry_positions epoch s)) in
      let blocks = numbers (map ForBlock (block_positions epoch s)) in
      ap (flat_map (tags_given values)) (numbers-setup s)
      ∙ flat_map-append (tags_given values) entries blocks
      ∙ (λ i. no_tags (entry_positions epoch s) i ++ block_tags (block_positions epoch s) i)

  -- the setup's draws, each with its plaintext

  module _ (ranks : List ℕ) where
    block_draws : (ps : List Position) → beside (draw_given values) (numbers (map ForBlock ps)) (clears ranks ps) ≡ map (draw t ranks) (map ForBlock ps)
    block_draws [] = refl
    block_draws (p ∷ ps) = ap (λ ds. draw t ranks (ForBlock p) ∷ ds) (block_draws ps)

    entry_draws : (ps qs : List Position)
        → beside (draw_given values) (numbers (map ForEntry ps) ++ numbers (map ForBlock qs)) (clears ranks ps ++ clears ranks qs)
        ≡ map (draw t ranks) (map ForEntry ps) ++ map (draw t ranks) (map ForBlock qs)
    entry_draws [] qs = block_draws qs
    entry_draws (p ∷ ps) qs = ap (λ ds. draw t ranks (ForEntry p) ∷ ds) (entry_draws ps qs)

    pub setup_drawn : (s : Setup) (drawings : List codes.Drawing) (texts : List (List ℕ)) → drawings ≡ numbers (drawings_of_setup epoch s)
        → texts ≡ clears ranks (entry_positions epoch s ++ block_positions epoch s)
        → beside (draw_given values) drawings texts ≡ map (draw t ranks) (drawings_of_setup epoch s)
    setup_drawn s drawings texts drawings_are texts_are =
        (λ i. beside (draw_given values) ((drawings_are ∙ numbers-setup s) i) ((texts_are ∙ map-append (λ (p : Position). p.clear ranks) (entry_positions epoch s) (block_positions epoch s)) i))
        ∙ entry_draws (entry_positions epoch s) (block_positions epoch s)
        ∙ sym (map-append (draw t ranks) (map ForEntry (entry_positions epoch s)) (map ForBlock (block_positions epoch s)))

    -- those of a command, all with one plaintext

    abbrev under : List ℕ → List Drawing → List Draw
    under clear ds = map (λ d. draw_given values d clear) (numbers ds)

    abbrev position : Setup → List Command → Document → List ℕ → Position
    position s past d word = record {
      label = name epoch word PlusLabel (counter s past word);
      pad = name epoch word PlusPad (counter s past word);
      clear = λ ranks. be64 d.id;
    }

    addition_draws : (s : Setup) (past : List Command) (d : Document) (ws : List (List ℕ))
        → under (be64 d.id) (map ForEntry (map (position s past d) ws)) ≡ map (draw t ranks) (map ForEntry (map (position s past d) ws))
    addition_draws s past d [] = refl
    addition_draws s past d (w ∷ ws) = ap (λ ds. draw t ranks (ForEntry (position s past d w)) ∷ ds) (addition_draws s past d ws)

    deletion_draws : (id : ℕ) (ws : List (List ℕ))
        → under [] (map (λ word. ForNumber (name epoch word Revocation id)) ws) ≡ map (draw t ranks) (map (λ word. ForNumber (name epoch word Revocation id)) ws)
    deletion_draws id [] = refl
    deletion_draws id (w ∷ ws) = ap (λ ds. draw t ranks (ForNumber (name epoch w Revocation id)) ∷ ds) (deletion_draws id ws)

    search_draws : (word : List ℕ) (searched : Bool)
        → under [] (if searched then [] else ForToken (name epoch word Token 0) ∷ []) ≡ map (draw t ranks) (if searched then [] else ForToken (name epoch word Token 0) ∷ [])
    search_draws word true = refl
    search_draws word false = refl

    command_drawn : (s : Setup) (past : List Command) (c : Command) → under (clear_by c) (drawings_by epoch s past c) ≡ map (draw t ranks) (drawings_by epoch s past c)
    command_drawn s past (Add d) = addition_draws s past d (fresh_words s past d)
    command_drawn s past (Delete id) = deletion_draws id (filter (λ word. not (was_sent s past word id)) (words_live (live s.documents past) id))
    command_drawn s past (Search word) = search_draws word (list_any (searches_for word) past)

    pub later_drawn : (s : Setup) (past later : List Command)
        → beside (λ ds c. map (λ d. draw_given values d (clear_by c)) ds) (map (map (numbered_drawing words)) (over (drawings_by epoch s) past later)) later
        ≡ map (map (draw t ranks)) (over (drawings_by epoch s) past later)
    later_drawn s past [] = refl
    later_drawn s past (c ∷ later) = λ i. command_drawn s past c i ∷ later_drawn s (past ++ c ∷ []) later i

module _ (values : Values) (o : Offsets) (run : Run) where
  abbrev named : List (List ℕ)
  named = run_words run

  abbrev own_table : Table
  own_table = sheet_table values named

  abbrev own_ranks : List ℕ
  own_ranks = ranks_of (labels_in own_table (block_positions o.epoch run.setup))

  abbrev by_number : List (List codes.Drawing)
  by_number = map (map (numbered_drawing named)) (over (drawings_by o.epoch run.setup) [] run.later)

  -- the setup's draws and those of the commands, one after the other behind others
  pub draws_joined : (own : List Draw) (old first all : List (List Draw)) (later : List (List codes.Drawing)) (commands : List Command)
      → own ≡ map (draw own_table own_ranks) (drawings_of_setup o.epoch run.setup) → first ≡ old ++ own ∷ [] → later ≡ by_number → commands ≡ run.later
      → all ≡ first ++ beside (λ ds c. map (λ d. draw_given values d (clear_by c)) ds) later commands
      → all ≡ old ++ draws own_table o run
  draws_joined own old first all later commands own_is first_is later_are commands_are all_are =
      let rest = beside (λ ds c. map (λ d. draw_given values d (clear_by c)) ds) by_number run.later in
      all_are
      ∙ (λ i. first_is i ++ beside (λ ds c. map (λ d. draw_given values d (clear_by c)) ds) (later_are i) (commands_are i))
      ∙ append_assoc old (own ∷ []) rest
      ∙ (λ i. old ++ own_is i ∷ later_drawn values named o.epoch own_ranks run.setup [] run.later i)

  -- what is drawn for the setup stands first among all
  pub first_drawings : (all first : List (List codes.Drawing)) (d : List codes.Drawing) → all ≡ map (map (numbered_drawing named)) (drawings o run) → first ≡ take 1 all
      → get_or first 0 d ≡ map (numbered_drawing named) (drawings_of_setup o.epoch run.setup)
  first_drawings all first d are is = ap (λ xs. get_or xs 0 d) (is ∙ ap (take 1) are)

  pub later_drawings : (all later : List (List codes.Drawing)) → all ≡ map (map (numbered_drawing named)) (drawings o run) → later ≡ drop 1 all → later ≡ by_number
  later_drawings all later are is = is ∙ ap (drop 1) are

  pub some_drawings : (all : List (List codes.Drawing)) → all ≡ map (map (numbered_drawing named)) (drawings o run) → length all ≡ 1 + length run.later
  some_drawings all are =
      ap length are
      ∙ ap suc (length-map (over (drawings_by o.epoch run.setup) [] run.later) (map (numbered_drawing named)) ∙ length-over (drawings_by o.epoch run.setup) [] run.later)
      ∙ one_more (length run.later)
    where
      one_more : (n : ℕ) → suc n ≡ 1 + n
      one_more n = omega arith

-- a setup has as many plaintexts as drawings
pub length-setup : (words : List (List ℕ)) (epoch : ℕ) (s : Setup) (ranks : List ℕ) (drawings : List codes.Drawing) (texts : List (List ℕ)) → drawings ≡ map (numbered_drawing words) (drawings_of_setup epoch s)
    → texts ≡ clears ranks (entry_positions epoch s ++ block_positions epoch s) → length drawings ≡ length texts
length-setup words epoch s ranks drawings texts drawings_are texts_are =
    let entries = entry_positions epoch s in
    let blocks = block_positions epoch s in
    ap length drawings_are
    ∙ length-map (drawings_of_setup epoch s) (numbered_drawing words)
    ∙ length-append (map ForEntry entries) (map ForBlock blocks)
    ∙ (λ i. length-map entries ForEntry i + length-map blocks ForBlock i)
    ∙ sym (length-append entries blocks)
    ∙ sym (length-map (entries ++ blocks) (λ (p : Position). p.clear ranks))
    ∙ ap length (sym texts_are)
