-- A run's draws command by command, as the entries, blocks, numbers and tokens that are sent.
use Rattle.std.proofs.Common.{◌≡◌, ℕ, Bool, true, false, not, List, [], ◌∷◌, ◌++◌, map, filter, refl, sym, ap, ◌∙◌}
use Rattle.std.specs.Prelude.{if◌then◌else◌}
use Rattle.std.specs.List.{list_any}
use Rattle.std.proofs.lemmas.List.{map-append}
use Rattle.std.proofs.lemmas.Simd.{map-map}
use Rattle.client_registry.specs.Command.{Command, Add, Delete, Search}
use Rattle.client_registry.specs.Document.{Document}
use Rattle.client_registry.specs.Live.{live, counter}
use Rattle.client_registry.specs.Over.{over}
use Rattle.client_registry.specs.Run.{Run, Offsets}
use Rattle.client_registry.specs.Setup.{Setup}
use Rattle.sse_frames.specs.Frames.{be64}
use Rattle.def_leakage.specs.DrawnValues.{ForEntry, ForBlock, ForNumber, ForToken, draw, drawings_of_setup, drawings_by, draws}
use Rattle.sse_model.specs.Drawn.{was_sent, searches_for}
use Rattle.sse_model.specs.Names.{Table, name, PlusLabel, PlusPad, Revocation, Token}
use Rattle.sse_model.specs.Positions.{Position, entry_positions, block_positions, addition_positions, fresh_words, sealed, ranks_of}
use Rattle.sse_model.specs.Wire.{labels_in, words_live}
use Rattle.sse_simulator.specs.Leaks.{Draw, EntryDraw, BlockDraw, NumberDraw, TokenDraw}

-- the ranks of a setup's blocks
abbrev pub ranks_in : Table → ℕ → Setup → List ℕ
ranks_in t epoch s = ranks_of (labels_in t (block_positions epoch s))

-- a setup draws its entries and its blocks
abbrev pub draws_of_setup : Table → ℕ → Setup → List Draw
draws_of_setup t epoch s =
    map EntryDraw (map (sealed t (ranks_in t epoch s)) (entry_positions epoch s)) ++ map BlockDraw (map (sealed t (ranks_in t epoch s)) (block_positions epoch s))

-- a command draws its new entries, its new numbers, or its token
abbrev pub draws_by : Table → ℕ → Setup → List Command → Command → List Draw
draws_by t epoch s past (Add d) = map EntryDraw (map (sealed t []) (addition_positions epoch s past d))
draws_by t epoch s past (Delete id) =
    map (λ word. NumberDraw (t (name epoch word Revocation id))) (filter (λ word. not (was_sent s past word id)) (words_live (live s.documents past) id))
draws_by t epoch s past (Search word) = if list_any (searches_for word) past then [] else TokenDraw (t (name epoch word Token 0)) ∷ []

module _ (t : Table) (epoch : ℕ) (s : Setup) (ranks : List ℕ) where
  of_setup : map (draw t ranks) (drawings_of_setup epoch s) ≡ map EntryDraw (map (sealed t ranks) (entry_positions epoch s)) ++ map BlockDraw (map (sealed t ranks) (block_positions epoch s))
  of_setup =
      map-append (draw t ranks) (map ForEntry (entry_positions epoch s)) (map ForBlock (block_positions epoch s))
      ∙ (λ i. entries (entry_positions epoch s) i ++ blocks (block_positions epoch s) i)
    where
      entries : (ps : List Position) → map (draw t ranks) (map ForEntry ps) ≡ map EntryDraw (map (sealed t ranks) ps)
      entries ps = map-map (draw t ranks) ForEntry ps ∙ sym (map-map EntryDraw (sealed t ranks) ps)

      blocks : (ps : List Position) → map (draw t ranks) (map ForBlock ps) ≡ map BlockDraw (map (sealed t ranks) ps)
      blocks ps = map-map (draw t ranks) ForBlock ps ∙ sym (map-map BlockDraw (sealed t ranks) ps)

  abbrev position : List Command → Document → List ℕ → Position
  position past d word = record {
    label = name epoch word PlusLabel (counter s past word);
    pad = name epoch word PlusPad (counter s past word);
    clear = λ ranks. be64 d.id;
  }

  -- the plaintext of an addition's entry is its identifier, whatever the ranks
  of_addition : (past : List Command) (d : Document) (words : List (List ℕ)) → map (draw t ranks) (map ForEntry (map (position past d) words)) ≡ map EntryDraw (map (sealed t []) (map (position past d) words))
  of_addition past d [] = refl
  of_addition past d (w ∷ ws) = ap (λ rest. EntryDraw (sealed t [] (position past d w)) ∷ rest) (of_addition past d ws)

  of_command : (past : List Command) (c : Command) → map (draw t ranks) (drawings_by epoch s past c) ≡ draws_by t epoch s past c
  of_command past (Add d) = of_addition past d (fresh_words s past d)
  of_command past (Delete id) =
      map-map (draw t ranks) (λ word. ForNumber (name epoch word Revocation id)) (filter (λ word. not (was_sent s past word id)) (words_live (live s.documents past) id))
  of_command past (Search word) = by (list_any (searches_for word) past)
    where
      by : (searched : Bool) → map (draw t ranks) (if searched then [] else ForToken (name epoch word Token 0) ∷ []) ≡ (if searched then [] else TokenDraw (t (name epoch word Token 0)) ∷ [])
      by true = refl
      by false = refl

  of_commands : (past later : List Command) → map (map (draw t ranks)) (over (drawings_by epoch s) past later) ≡ over (draws_by t epoch s) past later
  of_commands past [] = refl
  of_commands past (c ∷ later) = λ i. of_command past c i ∷ of_commands (past ++ c ∷ []) later i

-- for each command of a run, setup first, what it draws
pub draws-by_command : (t : Table) (o : Offsets) (run : Run) → draws t o run ≡ draws_of_setup t o.epoch run.setup ∷ over (draws_by t o.epoch run.setup) [] run.later
draws-by_command t o run =
    let ranks = ranks_in t o.epoch run.setup in
    λ i. of_setup t o.epoch run.setup ranks i ∷ of_commands t o.epoch run.setup ranks [] run.later i
