-- The names whose values a run draws are those that the run is said to draw, in their order, and each is drawn once.
use Rattle.std.proofs.Common.{◌≡◌, ℕ, Bool, true, false, not, List, [], ◌∷◌, ◌++◌, map, filter, refl, sym, ap, ◌∙◌, subst}
use Rattle.std.specs.Prelude.{flat_map, if◌then◌else◌}
use Rattle.std.specs.List.{list_any, slice_index_or, IsDistinct}
use Rattle.std.proofs.lemmas.List.Concat.{flat_map-append, flat_map_single}
use Rattle.std.proofs.lemmas.List.Folds.{flat_map-map}
use Rattle.client_registry.specs.Command.{Command, Add, Delete, Search}
use Rattle.client_registry.specs.Live.{live}
use Rattle.client_registry.specs.Over.{over}
use Rattle.client_registry.specs.Run.{Run, Offsets}
use Rattle.client_registry.specs.Setup.{Setup}
use Rattle.client_registry.specs.Sized.{IsHistory}
use Rattle.keyed_fn.specs.Xored.{xored}
use Rattle.def_leakage.specs.DrawnValues.{Drawing, ForEntry, ForBlock, ForNumber, ForToken, names_in, draw, drawings_by, drawings}
use Rattle.sse_model.proofs.DrawnOnce.{drawn_once-history}
use Rattle.sse_model.specs.Drawn.{was_sent, searches_for, drawn_by, drawn}
use Rattle.sse_model.specs.Names.{Table, name, Revocation, Token, same_name}
use Rattle.sse_model.specs.Positions.{entry_positions, block_positions, addition_positions}
use Rattle.sse_model.specs.Wire.{words_live}
use Rattle.sse_simulator.specs.Leaks.{EntryDraw, BlockDraw, NumberDraw, TokenDraw}

names_by : (epoch : ℕ) (s : Setup) (past : List Command) (c : Command) → flat_map names_in (drawings_by epoch s past c) ≡ drawn_by epoch s past c
names_by epoch s past (Add d) = flat_map-map names_in ForEntry (addition_positions epoch s past d)
names_by epoch s past (Delete id) =
    let words = filter (λ word. not (was_sent s past word id)) (words_live (live s.documents past) id) in
    flat_map-map names_in (λ word. ForNumber (name epoch word Revocation id)) words ∙ flat_map_single (λ word. name epoch word Revocation id) words
names_by epoch s past (Search word) = by (list_any (searches_for word) past)
  where
    by : (searched : Bool) → flat_map names_in (if searched then [] else ForToken (name epoch word Token 0) ∷ []) ≡ (if searched then [] else name epoch word Token 0 ∷ [])
    by true = refl
    by false = refl

names_over : (epoch : ℕ) (s : Setup) (past later : List Command) → map (flat_map names_in) (over (drawings_by epoch s) past later) ≡ over (drawn_by epoch s) past later
names_over epoch s past [] = refl
names_over epoch s past (c ∷ later) = λ i. names_by epoch s past c i ∷ names_over epoch s (past ++ c ∷ []) later i

-- Promise P148 (inside): Each history draws every name once; a draw depends on its own names and the blocks' order, and XORs a plaintext with its pad.
--   assumes: kept limits; not: The same of two histories under one key: after a restored backup, pads may repeat.
-- command by command, the names of what is drawn are the names that the command draws
pub names_drawn : (o : Offsets) (run : Run) → map (flat_map names_in) (drawings o run) ≡ drawn o run
names_drawn o run =
    let entries = entry_positions o.epoch run.setup in
    let blocks = block_positions o.epoch run.setup in
    λ i. (flat_map-append names_in (map ForEntry entries) (map ForBlock blocks) ∙ (λ j. flat_map-map names_in ForEntry entries j ++ flat_map-map names_in ForBlock blocks j)) i
    ∷ names_over o.epoch run.setup [] run.later i

-- Promise P148, also here
-- no two draws of a history take the value of one name: each is at an input of its own
pub drawings_once : (o : Offsets) (run : Run) → IsHistory run → IsDistinct same_name (flat_map (λ ns. ns) (map (flat_map names_in) (drawings o run)))
drawings_once o run history = subst (λ names. IsDistinct same_name (flat_map (λ ns. ns) names)) (sym (names_drawn o run)) (drawn_once-history o run history)

-- Promise P148, also here
-- a draw depends on the values of its own names, and on no other value of the table but by the ranks
pub draw-values : (t u : Table) (ranks : List ℕ) (d : Drawing) → map t (names_in d) ≡ map u (names_in d) → draw t ranks d ≡ draw u ranks d
draw-values t u ranks (ForEntry p) same = ap (λ values. EntryDraw (record { label = slice_index_or values 0 []; text = xored (p.clear ranks) (slice_index_or values 1 []) })) same
draw-values t u ranks (ForBlock p) same = ap (λ values. BlockDraw (record { label = slice_index_or values 0 []; text = xored (p.clear ranks) (slice_index_or values 1 []) })) same
draw-values t u ranks (ForNumber n) same = ap (λ values. NumberDraw (slice_index_or values 0 [])) same
draw-values t u ranks (ForToken n) same = ap (λ values. TokenDraw (slice_index_or values 0 [])) same
