-- A search, piece by piece: lists joined, blocks, additions, and that each identifier is above 0.
use Rattle.std.proofs.Common.{◌≡◌, ℕ, zero, suc, ◌+◌, ◌-◌, ◌<◌, ◌==◌, Bool, true, false, cond, not, List, [], ◌∷◌, ◌++◌, length, drop, Option, Some, None, refl, sym, ap, subst, ◌∙◌, arith}
use Rattle.std.specs.Prelude.{option_and_then, All}
use Rattle.std.specs.Int.{w64, from_be_bytes}
use Rattle.std.specs.List.{slice_get, list_all, filter}
use Rattle.std.specs.Option.{option_map, option_map_or}
use Rattle.std.specs.FinMap as map
use Rattle.std.specs.FinSet as set
use Rattle.std.proofs.lemmas.List.{append_assoc}
use Rattle.std.proofs.lemmas.List.Elements.{All-nil, All-cons, All-append, All-filter, All-tail, All-take}
use Rattle.std.proofs.Math.Seq.{take-append_seam}
use Rattle.keyed_fn.specs.KeyedFn.{KeyedFn}
use Rattle.keyed_fn.specs.KeyFormulas.{list_label, cell_pad, plus_label, plus_pad, block_pad, revocation}
use Rattle.keyed_fn.specs.Xored.{xored}
use Rattle.search_token.specs.TokenKeys.{TokenKeys}
use Rattle.server_tables.specs.Contents.{Contents}
use Rattle.server_core.specs.declared.spot.Spot.{Spot}
use Rattle.server_core.specs.declared.spot.Spot.TheVariants.{Cell, Blocks, Added}
use Rattle.two_level.specs.Plan.{CellKind, Identifiers, DataPointers, BlockPointers}
use Rattle.two_level.specs.Opened.{numbers_of, leading, kind_of, joined, followed, opened, cell_list}
use Rattle.server_core.specs.Search.{block_at, setup_ids, added_at, added_from}
use Rattle.server_core.specs.SearchState.{pointers_from, additions_from, ids_from, coming}

-- Lists joined.

pub joined-joined : (xs ys : List ℕ) (o : Option (List ℕ)) → joined (Some xs) (joined (Some ys) o) ≡ joined (Some (xs ++ ys)) o
joined-joined xs ys None = refl
joined-joined xs ys (Some zs) = ap (λ l. Some l) (sym (append_assoc xs ys zs))

-- nothing is found, and nothing else is to come
pub joined-nothing : (o : Option (List ℕ)) → joined (Some []) o ≡ o
joined-nothing None = refl
joined-nothing (Some xs) = refl

-- the numbers of a block that is there
pub block_at-there : (f : KeyedFn) (keys : TokenKeys) (array : List (List ℕ)) (number pointer place : ℕ) (block : List ℕ) → pointer ≡ suc place → Some block ≡ slice_get array place → block_at f keys array number pointer ≡ Some (numbers_of (xored block (block_pad f keys.pad_key number (length block))))
block_at-there f keys array number pointer place block is there = ap (block_at f keys array number) is ∙ ap (option_map (λ text. numbers_of (xored text (block_pad f keys.pad_key number (length text))))) (sym there)

-- Additions.

-- an addition more
pub added-more : (f : KeyedFn) (keys : TokenKeys) (plus : List ℕ → Option (List ℕ)) (c n : ℕ) (xs text : List ℕ) (id : ℕ) → plus (plus_label f keys.plus_label_key c) ≡ Some text → id ≡ from_be_bytes w64 (xored text (plus_pad f keys.plus_pad_key c)) → (id == 0) ≡ false → joined (Some xs) (added_from f keys plus c (suc n)) ≡ joined (Some (xs ++ id ∷ [])) (added_from f keys plus (c + 1) n)
added-more f keys plus c n xs text id there is some =
    let later = added_from f keys plus (c + 1) n in
    ap (λ o. joined (Some xs) (added_at f keys c o later)) there
    ∙ ap (λ m. joined (Some xs) (cond (m == 0) None (option_map (λ ids. m ∷ ids) later))) (sym is)
    ∙ ap (λ b. joined (Some xs) (cond b None (option_map (λ ids. id ∷ ids) later))) some
    ∙ joined-joined xs (id ∷ []) later

-- no list where it is 0
pub added-zero : (f : KeyedFn) (keys : TokenKeys) (plus : List ℕ → Option (List ℕ)) (c n : ℕ) (text : List ℕ) → plus (plus_label f keys.plus_label_key c) ≡ Some text → from_be_bytes w64 (xored text (plus_pad f keys.plus_pad_key c)) ≡ 0 → added_from f keys plus c (suc n) ≡ None
added-zero f keys plus c n text there zero_is =
    let later = added_from f keys plus (c + 1) n in
    ap (λ o. added_at f keys c o later) there
    ∙ ap (λ m. cond (m == 0) None (option_map (λ ids. m ∷ ids) later)) zero_is

-- Each identifier that is found is above 0.

abbrev IsPositive : ℕ → Type 0
IsPositive n = 0 < n

abbrev AllFound : Option (List ℕ) → Type 0
AllFound None = Unit {0}
AllFound (Some ids) = All IsPositive ids

AllFound-cond : (b : Bool) (x y : Option (List ℕ)) → AllFound x → AllFound y → AllFound (cond b x y)
AllFound-cond true x y hx hy = hx
AllFound-cond false x y hx hy = hy

AllFound-joined : (a b : Option (List ℕ)) → AllFound a → AllFound b → AllFound (joined a b)
AllFound-joined None b ha hb = tt
AllFound-joined (Some xs) None ha hb = tt
AllFound-joined (Some xs) (Some ys) ha hb = All-append IsPositive xs ys ha hb

above : (n : ℕ) → (n == 0) ≡ false → 0 < n
above zero is = cc
above (suc n) is = omega arith

AllFound-by : (n : ℕ) (x o : Option (List ℕ)) (b : Bool) → (n == 0) ≡ b → AllFound x → AllFound o → AllFound (cond b x (option_map (λ ids. n ∷ ids) o))
AllFound-by n x o true is hx h = hx
AllFound-by n x None false is hx h = tt
AllFound-by n x (Some ids) false is hx h = All-cons IsPositive n ids (above n is) h

AllFound-more : (n : ℕ) (x o : Option (List ℕ)) → AllFound x → AllFound o → AllFound (cond (n == 0) x (option_map (λ ids. n ∷ ids) o))
AllFound-more n x o hx h = AllFound-by n x o (n == 0) refl hx h

AllFound-leading : (ns : List ℕ) → AllFound (leading ns)
AllFound-leading [] = All-nil IsPositive
AllFound-leading (n ∷ ns) = AllFound-more n (cond (list_all (λ m. m == 0) ns) (Some []) None) (leading ns) (AllFound-cond (list_all (λ m. m == 0) ns) (Some []) None (All-nil IsPositive) tt) (AllFound-leading ns)

AllFound-block : (o : Option (List ℕ)) → AllFound (option_and_then leading o)
AllFound-block None = tt
AllFound-block (Some ns) = AllFound-leading ns

module _ (block : ℕ → ℕ → Option (List ℕ)) where
  AllFound-followed : (first : ℕ) (ps : List ℕ) → AllFound (followed block first ps)
  AllFound-followed first [] = All-nil IsPositive
  AllFound-followed first (p ∷ ps) = AllFound-joined (option_and_then leading (block first p)) (followed block (first + 1) ps) (AllFound-block (block first p)) (AllFound-followed (first + 1) ps)

  AllFound-then : (first : ℕ) (o : Option (List ℕ)) → AllFound (option_and_then (followed block first) o)
  AllFound-then first None = tt
  AllFound-then first (Some ps) = AllFound-followed first ps

  AllFound-twice : (o : Option (List ℕ)) → AllFound (option_and_then (λ tops. option_and_then (followed block (length tops)) (followed block 0 tops)) o)
  AllFound-twice None = tt
  AllFound-twice (Some tops) = AllFound-then (length tops) (followed block 0 tops)

  AllFound-opened : (kind : CellKind) (ns : List ℕ) → AllFound (opened block kind ns)
  AllFound-opened Identifiers ns = AllFound-leading ns
  AllFound-opened DataPointers ns = AllFound-then 0 (leading ns)
  AllFound-opened BlockPointers ns = AllFound-twice (leading ns)

  AllFound-kind : (kind : Option CellKind) (ns : List ℕ) → AllFound (option_and_then (λ k. opened block k ns) kind)
  AllFound-kind None ns = tt
  AllFound-kind (Some k) ns = AllFound-opened k ns

  AllFound-cell_list : (clear : List ℕ) → AllFound (cell_list block clear)
  AllFound-cell_list [] = tt
  AllFound-cell_list (kind ∷ ns) = AllFound-kind (kind_of kind) (numbers_of ns)

AllFound-setup : (f : KeyedFn) (keys : TokenKeys) (array : List (List ℕ)) (cell : Option (List ℕ)) → AllFound (option_map_or (λ text. cell_list (block_at f keys array) (xored text (cell_pad f keys.pad_key (length text)))) cell (Some []))
AllFound-setup f keys array None = All-nil IsPositive
AllFound-setup f keys array (Some text) = AllFound-cell_list (block_at f keys array) (xored text (cell_pad f keys.pad_key (length text)))

AllFound-added_at : (f : KeyedFn) (keys : TokenKeys) (c : ℕ) (text later : Option (List ℕ)) → AllFound later → AllFound (added_at f keys c text later)
AllFound-added_at f keys c None later h = All-nil IsPositive
AllFound-added_at f keys c (Some text) later h = AllFound-more _ None later tt h

AllFound-added : (f : KeyedFn) (keys : TokenKeys) (plus : List ℕ → Option (List ℕ)) (c n : ℕ) → AllFound (added_from f keys plus c n)
AllFound-added f keys plus c zero = All-nil IsPositive
AllFound-added f keys plus c (suc n) = AllFound-added_at f keys c (plus (plus_label f keys.plus_label_key c)) (added_from f keys plus (c + 1) n) (AllFound-added f keys plus (c + 1) n)

AllFound-some : (o : Option (List ℕ)) (ids : List ℕ) → o ≡ Some ids → AllFound o → All IsPositive ids
AllFound-some None ids is h = cc
AllFound-some (Some xs) ids is h = let same : xs ≡ ids = cc in subst (All IsPositive) same h

AllFound-dropped : (block : ℕ → ℕ → Option (List ℕ)) (number at : ℕ) (o : Option (List ℕ)) → AllFound (option_and_then (λ pointers. followed block number (drop at pointers)) o)
AllFound-dropped block number at None = tt
AllFound-dropped block number at (Some ps) = AllFound-followed block number (drop at ps)

AllFound-from : (f : KeyedFn) (keys : TokenKeys) (c : Contents) (spot : Spot) → AllFound (ids_from f keys c spot)
AllFound-from f keys c Cell =
    AllFound-joined (setup_ids f keys (map.get c.dictionary) c.array) (additions_from f keys c 0) (AllFound-setup f keys c.array (map.get c.dictionary (list_label f keys.label_key))) (AllFound-added f keys (map.get c.additions) 0 (map.len c.additions - 0))
AllFound-from f keys c (Blocks top at number) =
    AllFound-joined (option_and_then (λ pointers. followed (block_at f keys c.array) number (drop at pointers)) (pointers_from f keys c top)) (additions_from f keys c 0) (AllFound-dropped (block_at f keys c.array) number at (pointers_from f keys c top)) (AllFound-added f keys (map.get c.additions) 0 (map.len c.additions - 0))
AllFound-from f keys c (Added n) = AllFound-added f keys (map.get c.additions) n (map.len c.additions - n)

All-drop : (n : ℕ) (xs : List ℕ) → All IsPositive xs → All IsPositive (drop n xs)
All-drop zero xs h = h
All-drop (suc n) [] h = h
All-drop (suc n) (x ∷ xs) h = All-drop n xs (All-tail IsPositive x xs h)

AllFound-coming : (p : ℕ → Bool) (within : ℕ) (o : Option (List ℕ)) → AllFound o → AllFound (option_map (λ ids. filter p (drop within ids)) o)
AllFound-coming p within None h = tt
AllFound-coming p within (Some ids) h = All-filter p IsPositive (drop within ids) (All-drop within ids h)

-- each identifier that a walk still gives is above 0
pub All-coming : (f : KeyedFn) (keys : TokenKeys) (c : Contents) (spot : Spot) (within : ℕ) (rest : List ℕ) → coming f keys c spot within ≡ Some rest → All (λ id. 0 < id) rest
All-coming f keys c spot within rest is =
    AllFound-some _ rest is (AllFound-coming (λ id. not (set.contains c.revoked (revocation f keys.revocation_key id))) within (ids_from f keys c spot) (AllFound-from f keys c spot))

pub All-front : (xs ys : List ℕ) → All (λ id. 0 < id) (xs ++ ys) → All (λ id. 0 < id) xs
All-front xs ys h = subst (All (λ id. 0 < id)) (take-append_seam xs ys) (All-take (λ id. 0 < id) (length xs) (xs ++ ys) h)
