-- Under the relabelled table the other run of equal leakage draws what the first one draws, and so sends the same.
use Rattle.std.proofs.Common.{◌≡◌, ℕ, List, [], ◌∷◌, ◌++◌, length, map, replicate, refl, sym, ap, ◌∙◌, subst, arith, Some}
use Rattle.std.specs.Prelude.{Contains, flat_map, filter_map, zip}
use Rattle.std.specs.List.{AllByRecursion, IsDistinct, range_with_len}
use Rattle.std.proofs.lemmas.List.{length-map, length-replicate}
use Rattle.std.proofs.lemmas.List.Concat.{flat_map-append}
use Rattle.std.proofs.lemmas.List.Elements.{Contains-append_left, Contains-append_right}
use Rattle.std.proofs.lemmas.List.FromFn.{length-map-range_with_len}
use Rattle.client_registry.proofs.OverLaws.{over-append}
use Rattle.client_registry.specs.Acceptance.{frames_needed}
use Rattle.client_registry.specs.Command.{Command, Add, Delete, Search}
use Rattle.client_registry.specs.Document.{Document}
use Rattle.client_registry.specs.Over.{over}
use Rattle.client_registry.specs.Run.{Run, Offsets}
use Rattle.client_registry.specs.Setup.{Setup}
use Rattle.client_registry.specs.Sized.{IsHistory}
use Rattle.sse_frames.specs.Exchange.{Passed, exchanged}
use Rattle.sse_frames.specs.Frames.{FrameText, update_number}
use Rattle.sse_frames.specs.Replies.{ReplyText, Took}
use Rattle.sse_frames.specs.SentParts.{pages}
use Rattle.def_leakage.proofs.Law.{simulate_is_wire}
use Rattle.def_leakage.proofs.Names.{drawings_once}
use Rattle.def_leakage.specs.DrawnValues.{Drawing, ForEntry, ForBlock, ForNumber, ForToken, names_in, draw, drawings_by, drawings, draws}
use Rattle.def_leakage.specs.CommandLeaks.{leak_of_setup, leak_by, leak}
use Rattle.def_leakage.specs.Relabelled.{Use, bare, uses_in, value_among, relabelled}
use Rattle.sse_model.proofs.Counts.{AllByRecursion-each, length-frames_of_setup, numbers-setup_frames}
use Rattle.sse_model.proofs.Members.{AllByRecursion-from_members}
use Rattle.sse_model.proofs.SealedEntries.{HasNames, cells_have_names, blocks_have_names}
use Rattle.sse_model.proofs.Texts.{HasText, IsBytes-be64, cells_have_texts, blocks_have_texts}
use Rattle.sse_model.specs.Drawn.{names_of, drawn_by, drawn, probed}
use Rattle.sse_model.specs.Names.{Name, Table, same_name, cell_size, block_size}
use Rattle.sse_model.specs.Positions.{Position, entry_positions, block_positions, addition_positions, fresh_words, sealed, ranks_of}
use Rattle.sse_model.specs.Transcript.{transcript}
use Rattle.sse_model.specs.Values.{IsValue}
use Rattle.sse_model.specs.Wire.{labels_in, frames_of_setup, frames_of, next_number, wire, acknowledgements, replies_of}
use Rattle.def_relabelling.proofs.Beside.{Beside, paired-over}
use Rattle.def_relabelling.proofs.OwnValues.{IsOwn, names_in_uses, own_values}
use Rattle.def_relabelling.proofs.Pairs.{heads, fewer, paired-append, paired-map, paired-parts, zip-append}
use Rattle.def_relabelling.proofs.SameDrawings.{IsSameDrawing, by_drawings, even_additions, paired-command, setups, same_drawings, AreAlike, uses_of_one, uses_of_all, uses_of_lists}
use Rattle.def_relabelling.proofs.Shifts.{xored_shifted}
use Rattle.def_relabelling.specs.Paired.{Paired}
use Rattle.sse_simulator.specs.Leaks.{Leak, SetupLeak, AddLeak, DeleteLeak, SearchLeak, Draw, EntryDraw, BlockDraw, NumberDraw, TokenDraw}
use Rattle.sse_simulator.specs.Simulator.{Kept, Nothing, simulated_from}

-- Sizes.

-- a pad of the one is as long as the plaintexts at both places
pub record Fits (t : Table) (ranks : List ℕ) (p q : Position) : Type 0 where
  pub own : length (t p.pad) ≡ length (p.clear ranks)
  pub other : length (q.clear ranks) ≡ length (p.clear ranks)

abbrev pub AreFitting : Table → List ℕ → Drawing → Drawing → Type 0
AreFitting t ranks (ForEntry p) (ForEntry q) = Fits t ranks p q
AreFitting t ranks (ForBlock p) (ForBlock q) = Fits t ranks p q
AreFitting t ranks _ _ = Unit {0}

fits : (t : Table) (s : Setup) (size : ℕ) (ranks : List ℕ) (ps qs : List Position) → length ps ≡ length qs → AllByRecursion (HasText size ranks) ps → AllByRecursion (HasText size ranks) qs
    → AllByRecursion (HasNames s.shape size) ps → AllByRecursion (IsValue s.shape t) (names_of ps) → Paired (Fits t ranks) ps qs
fits t s size ranks [] [] even texts others sizes values = tt
fits t s size ranks [] (q ∷ qs) even texts others sizes values = absurd (omega (arith, even))
fits t s size ranks (p ∷ ps) [] even texts others sizes values = absurd (omega (arith, even))
fits t s size ranks (p ∷ ps) (q ∷ qs) even texts others sizes values = (
  record { own = values.1.0.size_is ∙ sizes.0.1 ∙ sym texts.0.size_is; other = others.0.size_is ∙ sym texts.0.size_is },
  fits t s size ranks ps qs (fewer (length ps) (length qs) even) texts.1 others.1 sizes.1 values.1.1,
)

-- Draws.

module _ (m t : Table) (ranks : List ℕ) where
  draw_relabelled : (d d2 : Drawing) → IsSameDrawing d d2 → AreFitting t ranks d d2 → Paired (IsOwn m t) (uses_in ranks d) (uses_in ranks d2) → draw m ranks d2 ≡ draw t ranks d
  draw_relabelled =
      by_drawings (λ d d2. AreFitting t ranks d d2 → Paired (IsOwn m t) (uses_in ranks d) (uses_in ranks d2) → draw m ranks d2 ≡ draw t ranks d)
      (λ p q fit own. λ i. EntryDraw (record { label = own.0 i; text = (ap (xored_by q) own.1.0 ∙ xored_shifted (p.clear ranks) (t p.pad) (q.clear ranks) fit.own fit.other) i }))
      (λ p q fit own. λ i. BlockDraw (record { label = own.0 i; text = (ap (xored_by q) own.1.0 ∙ xored_shifted (p.clear ranks) (t p.pad) (q.clear ranks) fit.own fit.other) i }))
      (λ n k fit own. ap NumberDraw own.0)
      (λ n k fit own. ap TokenDraw own.0)
    where
      xored_by : Position → List ℕ → List ℕ
      xored_by q pad = (sealed (λ n. pad) ranks q).text

  drawn_relabelled : (ds ds2 : List Drawing) → Paired IsSameDrawing ds ds2 → Paired (AreFitting t ranks) ds ds2
      → Paired (IsOwn m t) (flat_map (uses_in ranks) ds) (flat_map (uses_in ranks) ds2) → map (draw m ranks) ds2 ≡ map (draw t ranks) ds
  drawn_relabelled [] [] same fit own = refl
  drawn_relabelled [] (y ∷ ys) same fit own = absurd same
  drawn_relabelled (x ∷ xs) [] same fit own = absurd same
  drawn_relabelled (x ∷ xs) (y ∷ ys) same fit own =
      let parts = paired-parts (IsOwn m t) AreAlike (uses_in ranks x) (flat_map (uses_in ranks) xs) (uses_in ranks y) (flat_map (uses_in ranks) ys) (uses_of_one ranks ranks x y same.0) own in
      λ i. draw_relabelled x y same.0 fit.0 parts.0 i ∷ drawn_relabelled xs ys same.1 fit.1 parts.1 i

  lists_relabelled : (dss dss2 : List (List Drawing)) → Paired (Paired IsSameDrawing) dss dss2 → Paired (Paired (AreFitting t ranks)) dss dss2
      → Paired (IsOwn m t) (flat_map (flat_map (uses_in ranks)) dss) (flat_map (flat_map (uses_in ranks)) dss2) → map (map (draw m ranks)) dss2 ≡ map (map (draw t ranks)) dss
  lists_relabelled [] [] same fit own = refl
  lists_relabelled [] (y ∷ ys) same fit own = absurd same
  lists_relabelled (x ∷ xs) [] same fit own = absurd same
  lists_relabelled (x ∷ xs) (y ∷ ys) same fit own =
      let parts = paired-parts (IsOwn m t) AreAlike (flat_map (uses_in ranks) x) (flat_map (flat_map (uses_in ranks)) xs) (flat_map (uses_in ranks) y) (flat_map (flat_map (uses_in ranks)) ys) (uses_of_all ranks ranks x y same.0) own in
      λ i. drawn_relabelled x y same.0 fit.0 parts.0 i ∷ lists_relabelled xs ys same.1 fit.1 parts.1 i

-- the tags among draws
abbrev tags_among : List Draw → List (List ℕ)
tags_among [] = []
tags_among (EntryDraw entry ∷ ds) = tags_among ds
tags_among (BlockDraw block ∷ ds) = block.label ∷ tags_among ds
tags_among (NumberDraw number ∷ ds) = tags_among ds
tags_among (TokenDraw token ∷ ds) = tags_among ds

tags_drawn : (t : Table) (ranks : List ℕ) (es bs : List Position) → tags_among (map (draw t ranks) (map ForEntry es ++ map ForBlock bs)) ≡ labels_in t bs
tags_drawn t ranks [] [] = refl
tags_drawn t ranks [] (b ∷ bs) = ap (λ rest. t b.label ∷ rest) (tags_drawn t ranks [] bs)
tags_drawn t ranks (e ∷ es) bs = tags_drawn t ranks es bs

-- Names.

-- all that a run draws
abbrev pub drawn_uses : Offsets → Run → List ℕ → List Use
drawn_uses o run ranks = flat_map (flat_map (uses_in ranks)) (drawings o run)

abbrev pub probed_uses : Offsets → Run → List Use
probed_uses o run = map bare (flat_map (λ ns. ns) (probed o run))

pub names_in-append : (us vs : List Use) → names_in_uses (us ++ vs) ≡ names_in_uses us ++ names_in_uses vs
names_in-append [] vs = refl
names_in-append (u ∷ us) vs = ap (λ rest. u.name ∷ rest) (names_in-append us vs)

names_in_one : (ranks : List ℕ) (d : Drawing) → names_in_uses (uses_in ranks d) ≡ names_in d
names_in_one ranks (ForEntry p) = refl
names_in_one ranks (ForBlock p) = refl
names_in_one ranks (ForNumber n) = refl
names_in_one ranks (ForToken n) = refl

names_in_all : (ranks : List ℕ) (ds : List Drawing) → names_in_uses (flat_map (uses_in ranks) ds) ≡ flat_map names_in ds
names_in_all ranks [] = refl
names_in_all ranks (d ∷ ds) = names_in-append (uses_in ranks d) (flat_map (uses_in ranks) ds) ∙ (λ i. names_in_one ranks d i ++ names_in_all ranks ds i)

pub names_in_lists : (ranks : List ℕ) (dss : List (List Drawing)) → names_in_uses (flat_map (flat_map (uses_in ranks)) dss) ≡ flat_map (λ ns. ns) (map (flat_map names_in) dss)
names_in_lists ranks [] = refl
names_in_lists ranks (ds ∷ dss) = names_in-append (flat_map (uses_in ranks) ds) (flat_map (flat_map (uses_in ranks)) dss) ∙ (λ i. names_in_all ranks ds i ++ names_in_lists ranks dss i)

-- what a command adds is among all that is added
contains_over : {A : Type 0} (f : List Command → Command → List A) (later past : List Command) (c : Command) (rest : List Command) (x : A) → later ≡ past ++ c ∷ rest → Contains (f past c) x
    → Contains (flat_map (λ xs. xs) (over f [] later)) x
contains_over {A} f later past c rest x parts within =
    subst (λ cs. Contains (flat_map (λ (xs : List A). xs) (over f [] cs)) x) (sym parts)
    (subst (λ (xss : List (List A)). Contains (flat_map (λ (xs : List A). xs) xss) x) (sym (over-append f [] past (c ∷ rest)))
    (subst (λ (xs : List A). Contains xs x) (sym (flat_map-append (λ (xs : List A). xs) (over f [] past) (over f past (c ∷ rest))))
    (Contains-append_right (flat_map (λ (xs : List A). xs) (over f [] past)) (flat_map (λ (xs : List A). xs) (over f past (c ∷ rest))) x
    (Contains-append_left (f past c) (flat_map (λ (xs : List A). xs) (over f (past ++ c ∷ []) rest)) x within))))

-- what passes by a command's frames: an update's are taken, a search gets the pages of what it is told to find
abbrev replies_to : Leak → List FrameText → List ReplyText
replies_to (SetupLeak shape words blocks) frames = map Took (filter_map update_number frames)
replies_to (AddLeak words) frames = map Took (filter_map update_number frames)
replies_to (DeleteLeak words) frames = map Took (filter_map update_number frames)
replies_to (SearchLeak earlier home listed found) frames = pages found

abbrev passed_by : Leak × List FrameText → List Passed
passed_by pair = exchanged pair.1 (replies_to pair.0 pair.1)

-- what passes for a run follows from its leakage and its wire
transcript_told : (t : Table) (o : Offsets) (run : Run) → transcript t o run ≡ map passed_by (zip (leak o run) (wire t o run))
transcript_told t o run = λ i. setup i ∷ later [] run.later i
  where
    s : Setup
    s = run.setup

    numbers : filter_map update_number (frames_of_setup t o s) ≡ range_with_len o.frame (length (frames_of_setup t o s))
    numbers =
        let ranks = ranks_of (labels_in t (block_positions o.epoch s)) in
        numbers-setup_frames o.frame s.shape (map (sealed t ranks) (entry_positions o.epoch s)) (map (sealed t ranks) (block_positions o.epoch s))

    setup : exchanged (frames_of_setup t o s) (acknowledgements o.frame (frames_needed s)) ≡ passed_by (leak_of_setup o.epoch s, frames_of_setup t o s)
    setup = ap (λ ns. exchanged (frames_of_setup t o s) (map Took ns)) (ap (range_with_len o.frame) (sym (length-frames_of_setup t o s)) ∙ sym numbers)

    one : (past : List Command) (c : Command) → replies_of o s past c ≡ replies_to (leak_by o s past c) (frames_of t o.epoch s (next_number o s past) past c)
    one past (Add d) = refl
    one past (Delete id) = refl
    one past (Search word) = refl

    later : (past cs : List Command) → over (λ past c. exchanged (frames_of t o.epoch s (next_number o s past) past c) (replies_of o s past c)) past cs
        ≡ map passed_by (zip (over (leak_by o s) past cs) (over (λ past c. frames_of t o.epoch s (next_number o s past) past c) past cs))
    later past [] = refl
    later past (c ∷ cs) = λ i. exchanged (frames_of t o.epoch s (next_number o s past) past c) (one past c i) ∷ later (past ++ c ∷ []) cs i

some_inside : {A : Type 0} (a b : A) → Some a ≡ Some b → a ≡ b
some_inside a b e = cc

-- Two runs of equal leakage that draw the same, each under a table.

module _ (o : Offsets) (run other : Run) (t m : Table) (history : IsHistory run) (history2 : IsHistory other) (leaks : leak o run ≡ leak o other)
    (same : draws m o other ≡ draws t o run) where
  pub wire_drawn : wire m o other ≡ wire t o run
  wire_drawn =
      let earlier : List Kept = replicate o.command Nothing in
      let is : length earlier ≡ o.command = length-replicate o.command Nothing in
      some_inside (wire m o other) (wire t o run)
      (sym (simulate_is_wire m o other earlier is history2)
      ∙ (λ i. simulated_from (record { kept = earlier; next = o.frame }) (sym leaks i) (same i))
      ∙ simulate_is_wire t o run earlier is history)

  pub transcript_drawn : transcript m o other ≡ transcript t o run
  transcript_drawn = transcript_told m o other ∙ (λ i. map passed_by (zip (sym leaks i) (wire_drawn i))) ∙ sym (transcript_told t o run)

-- Two runs of equal leakage.

module _ (o : Offsets) (run other : Run) (t : Table) (history2 : IsHistory other) (leaks : leak o run ≡ leak o other) where
  abbrev pub ranks : List ℕ
  ranks = ranks_of (labels_in t (block_positions o.epoch run.setup))

  -- the relabelled table
  abbrev pub m : Table
  m = relabelled o run other t

  -- equally many uses are drawn, with a plaintext at the same places
  pub alike_drawn : (ranks ranks2 : List ℕ) → Paired AreAlike (drawn_uses o run ranks) (drawn_uses o other ranks2)
  alike_drawn ranks ranks2 = uses_of_lists ranks ranks2 (drawings o run) (drawings o other) (same_drawings o run other leaks)

  -- each has its own value, since no name is drawn twice
  pub own_drawn : Paired (IsOwn (relabelled o run other t) t) (drawn_uses o run ranks) (drawn_uses o other ranks)
  own_drawn =
      let us = drawn_uses o run ranks in
      let vs = drawn_uses o other ranks in
      subst (λ pairs. Paired (IsOwn (value_among t pairs) t) us vs) (sym (zip-append AreAlike us (probed_uses o run) vs (probed_uses o other) (alike_drawn ranks ranks)))
      (own_values t AreAlike us vs (zip (probed_uses o run) (probed_uses o other)) (alike_drawn ranks ranks)
      (subst (IsDistinct same_name) (sym (names_in_lists ranks (drawings o other))) (drawings_once o other history2)))

  -- where the table gives each drawn name of the first run a value of its size
  module _ (history : IsHistory run) (values : (n : Name) → Contains (flat_map (λ ns. ns) (drawn o run)) n → IsValue run.setup.shape t n) where
    abbrev names_of_setup : List Name
    names_of_setup = names_of (entry_positions o.epoch run.setup) ++ names_of (block_positions o.epoch run.setup)

    abbrev names_later : List Name
    names_later = flat_map (λ ns. ns) (over (drawn_by o.epoch run.setup) [] run.later)

    length-ranks : length ranks ≡ length (block_positions o.epoch run.setup)
    length-ranks = length-map-range_with_len _ 0 (length (labels_in t (block_positions o.epoch run.setup))) ∙ length-map (block_positions o.epoch run.setup) (λ p. t p.label)

    fitting_entries : Paired (Fits t ranks) (entry_positions o.epoch run.setup) (entry_positions o.epoch other.setup)
    fitting_entries =
        let alike = setups o run other leaks in
        fits t run.setup (cell_size run.setup.shape) ranks (entry_positions o.epoch run.setup) (entry_positions o.epoch other.setup) alike.entries
        (cells_have_texts o.epoch run.setup history.setup ranks length-ranks)
        (subst (λ shape. AllByRecursion (HasText (cell_size shape) ranks) (entry_positions o.epoch other.setup)) (sym alike.shape) (cells_have_texts o.epoch other.setup history2.setup ranks (length-ranks ∙ alike.blocks)))
        (cells_have_names o.epoch run.setup)
        (AllByRecursion-from_members (IsValue run.setup.shape t) (names_of (entry_positions o.epoch run.setup))
        (λ n within. values n (Contains-append_left names_of_setup names_later n (Contains-append_left (names_of (entry_positions o.epoch run.setup)) (names_of (block_positions o.epoch run.setup)) n within))))

    fitting_blocks : Paired (Fits t ranks) (block_positions o.epoch run.setup) (block_positions o.epoch other.setup)
    fitting_blocks =
        let alike = setups o run other leaks in
        fits t run.setup (block_size run.setup.shape) ranks (block_positions o.epoch run.setup) (block_positions o.epoch other.setup) alike.blocks
        (blocks_have_texts o.epoch run.setup history.setup ranks length-ranks)
        (subst (λ shape. AllByRecursion (HasText (block_size shape) ranks) (block_positions o.epoch other.setup)) (sym alike.shape) (blocks_have_texts o.epoch other.setup history2.setup ranks (length-ranks ∙ alike.blocks)))
        (blocks_have_names o.epoch run.setup)
        (AllByRecursion-from_members (IsValue run.setup.shape t) (names_of (block_positions o.epoch run.setup))
        (λ n within. values n (Contains-append_left names_of_setup names_later n (Contains-append_right (names_of (entry_positions o.epoch run.setup)) (names_of (block_positions o.epoch run.setup)) n within))))

    fitting_additions : (past past2 : List Command) (d d2 : Document) → Beside o run other past past2 (Add d) (Add d2)
        → Paired (Fits t ranks) (addition_positions o.epoch run.setup past d) (addition_positions o.epoch other.setup past2 d2)
    fitting_additions past past2 d d2 beside =
        let names = names_of (addition_positions o.epoch run.setup past d) in
        fits t run.setup 8 ranks (addition_positions o.epoch run.setup past d) (addition_positions o.epoch other.setup past2 d2)
        (length-map (fresh_words run.setup past d) _ ∙ even_additions o run.setup other.setup past past2 d d2 beside.same ∙ sym (length-map (fresh_words other.setup past2 d2) _))
        (AllByRecursion-each (HasText 8 ranks) _ (λ w. IsBytes-be64 d.id) (fresh_words run.setup past d))
        (AllByRecursion-each (HasText 8 ranks) _ (λ w. IsBytes-be64 d2.id) (fresh_words other.setup past2 d2))
        (AllByRecursion-each (HasNames run.setup.shape 8) _ (λ w. (refl, refl)) (fresh_words run.setup past d))
        (AllByRecursion-from_members (IsValue run.setup.shape t) names
        (λ n within. values n (Contains-append_right names_of_setup names_later n (contains_over (drawn_by o.epoch run.setup) run.later past (Add d) beside.rest n beside.parts within))))

    pub fitting : Paired (Paired (AreFitting t ranks)) (drawings o run) (drawings o other)
    fitting =
        let e = entry_positions o.epoch run.setup in
        let e2 = entry_positions o.epoch other.setup in
        let b = block_positions o.epoch run.setup in
        let b2 = block_positions o.epoch other.setup in (
          paired-append (AreFitting t ranks) (map ForEntry e) (map ForBlock b) (map ForEntry e2) (map ForBlock b2)
              (paired-map (AreFitting t ranks) ForEntry ForEntry e e2 fitting_entries) (paired-map (AreFitting t ranks) ForBlock ForBlock b b2 fitting_blocks),
          paired-over o run other leaks (Paired (AreFitting t ranks)) (drawings_by o.epoch run.setup) (drawings_by o.epoch other.setup)
              (λ past past2 c c2 beside. paired-command o run.setup other.setup (AreFitting t ranks) (λ w w2 id id2. tt) (λ w w2. tt) past past2 c c2 beside.same
              (λ d d2 is is2. fitting_additions past past2 d d2 (record {
                rest = beside.rest;
                rest2 = beside.rest2;
                even = beside.even;
                parts = beside.parts ∙ ap (λ x. past ++ x ∷ beside.rest) is;
                parts2 = beside.parts2 ∙ ap (λ x. past2 ++ x ∷ beside.rest2) is2;
                same = ap (leak_by o run.setup past) (sym is) ∙ beside.same ∙ ap (leak_by o other.setup past2) is2;
                rests = ap (λ x. over (leak_by o run.setup) (past ++ x ∷ []) beside.rest) (sym is) ∙ beside.rests ∙ ap (λ x. over (leak_by o other.setup) (past2 ++ x ∷ []) beside.rest2) is2;
              }))),
        )

    under_ranks : map (map (draw (relabelled o run other t) ranks)) (drawings o other) ≡ map (map (draw t ranks)) (drawings o run)
    under_ranks = lists_relabelled (relabelled o run other t) t ranks (drawings o run) (drawings o other) (same_drawings o run other leaks) fitting own_drawn

    -- the tags of both are the same, and so are their ranks
    pub ranks_relabelled : ranks_of (labels_in (relabelled o run other t) (block_positions o.epoch other.setup)) ≡ ranks
    ranks_relabelled =
        ap ranks_of
        (sym (tags_drawn (relabelled o run other t) ranks (entry_positions o.epoch other.setup) (block_positions o.epoch other.setup))
        ∙ ap tags_among (heads _ _ _ _ under_ranks)
        ∙ tags_drawn t ranks (entry_positions o.epoch run.setup) (block_positions o.epoch run.setup))

    -- Promise P150 (inside): Two histories of equal leakage draw, send and receive the same bytes, each under a table relabelled from the other's.
    --   assumes: equal leakage, kept limits, sized table; not: How the values of a key are distributed. The relabelled table is in general the table of no key. That real values look
    --     random is assumed.
    -- under the relabelled table the other run draws, command by command, what the first run draws
    pub draws_relabelled : draws (relabelled o run other t) o other ≡ draws t o run
    draws_relabelled = ap (λ rs. map (map (draw (relabelled o run other t) rs)) (drawings o other)) ranks_relabelled ∙ under_ranks

    -- Promise P150, also here
    -- so the same frames are sent
    pub wire_relabelled : wire (relabelled o run other t) o other ≡ wire t o run
    wire_relabelled = wire_drawn o run other t (relabelled o run other t) history history2 leaks draws_relabelled

    -- Promise P150, also here
    -- and all that passes is the same
    pub transcript_relabelled : transcript (relabelled o run other t) o other ≡ transcript t o run
    transcript_relabelled = transcript_drawn o run other t (relabelled o run other t) history history2 leaks draws_relabelled
