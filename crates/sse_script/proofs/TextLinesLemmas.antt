-- Laws of the lines of a text, and of texts that are read piece by piece.
use Rattle.std.proofs.Common.{suc, ◌≡◌, ℕ, ◌+◌, ◌-◌, ◌<◌, ◌≤◌, ◌==◌, Bool, true, false, not, cond, List, [], ◌∷◌, ◌++◌, length, take, drop, None, Some, refl, sym, ap, ◌∙◌, subst, arith, append_assoc, append-nil, length-append, length-take}
use Rattle.std.specs.declared.option.Option.{Option}
use Rattle.std.specs.Option.{option_map}
use Rattle.std.specs.List.{onto_first, position_or_len, before_first, after_first}
use Rattle.std.specs.Io.KnownBytes.{prepend_known, IsAtEnd}
use Rattle.std.proofs.lemmas.Bool.{eq-eqb, ne_eqb}
use Rattle.std.proofs.lemmas.List.{take-append-drop, drop-take, drop-drop, take-append-le, drop-append-le, take_all}
use Rattle.std.proofs.lemmas.List.Folds.{prefix_len-append, length-prefix_len}
use Rattle.std.proofs.lemmas.List.Sums.{prefix_len-le-length}
use Rattle.std.proofs.Math.Seq.{take-append-add, drop-append-add, take-length}
use Rattle.sse_script.specs.declared.line_reader.TheConstants.{MAX_LINE}
use Rattle.sse_script.specs.TextLines.{lines_of, TakesLine, SkipsLine}

-- ---- the first line of a text

-- one byte more before a line that it doesn't end
longer : (b c : ℕ) (cs : List ℕ) (n : ℕ) → lines_of (c ∷ cs) ≡ take n (c ∷ cs) ∷ lines_of (drop (n + 1) (c ∷ cs))
    → onto_first b (lines_of (c ∷ cs)) ≡ take (1 + n) (b ∷ c ∷ cs) ∷ lines_of (drop (1 + n + 1) (b ∷ c ∷ cs))
longer b c cs n e =
    let front : 1 + n ≡ suc n = omega arith in
    let rest : 1 + n + 1 ≡ suc (n + 1) = omega arith in
    ap (onto_first b) e
    ∙ ap (λ k. take k (b ∷ c ∷ cs) ∷ lines_of (drop (n + 1) (c ∷ cs))) (sym front)
    ∙ ap (λ k. take (1 + n) (b ∷ c ∷ cs) ∷ lines_of (drop k (b ∷ c ∷ cs))) (sym rest)

-- the first line of a text and the lines after it, where the first byte is an ending or isn't
either : (t : Bool) (b : ℕ) (bs : List ℕ) (n : ℕ) → (0 < length bs → lines_of bs ≡ take n bs ∷ lines_of (drop (n + 1) bs))
    → (length bs ≡ 0 → n ≡ 0)
    → cond t ([] ∷ lines_of bs) (onto_first b (lines_of bs))
    ≡ take (cond (not t) (1 + n) 0) (b ∷ bs) ∷ lines_of (drop (cond (not t) (1 + n) 0 + 1) (b ∷ bs))
either true b bs n others none = refl
either false b [] n others none = rw (none refl) refl
either false b (c ∷ cs) n others none = longer b c cs n (others (omega arith))

-- a text that has bytes is its first line, and the lines of what stands after that
pub lines_of-first : (text : List ℕ) → 0 < length text → lines_of text ≡ before_first (λ b. b == 10) text ∷ lines_of (after_first (λ b. b == 10) text)
lines_of-first [] some = absurd (omega arith)
lines_of-first (b ∷ bs) some =
    either (b == 10) b bs (position_or_len (λ c. c == 10) bs) (lines_of-first bs) (none bs)
  where
    none : (cs : List ℕ) → length cs ≡ 0 → position_or_len (λ c. c == 10) cs ≡ 0
    none [] e = refl
    none (c ∷ cs) e = absurd (omega arith)

-- ---- where the first line of a text ends that comes in pieces

-- after a piece with no ending
pub position_or_len-unended : (xs ys : List ℕ) → position_or_len (λ b. b == 10) xs ≡ length xs
    → position_or_len (λ b. b == 10) (xs ++ ys) ≡ length xs + position_or_len (λ b. b == 10) ys
position_or_len-unended xs ys all =
    prefix_len-append (λ b. not (b == 10)) xs ys
    ∙ ap (λ t. cond t (length xs + position_or_len (λ b. b == 10) ys) (position_or_len (λ b. b == 10) xs)) (eq-eqb _ _ all)

-- in a piece with an ending
pub position_or_len-ended : (xs ys : List ℕ) → position_or_len (λ b. b == 10) xs < length xs
    → position_or_len (λ b. b == 10) (xs ++ ys) ≡ position_or_len (λ b. b == 10) xs
position_or_len-ended xs ys less =
    let differ : position_or_len (λ b. b == 10) xs ≡ length xs → ⊥ = λ e. omega (arith, e) in
    prefix_len-append (λ b. not (b == 10)) xs ys
    ∙ ap (λ t. cond t (length xs + position_or_len (λ b. b == 10) ys) (position_or_len (λ b. b == 10) xs)) (ne_eqb _ _ differ)

-- never before where the first piece alone has it
pub position_or_len-more : (xs ys : List ℕ) → position_or_len (λ b. b == 10) xs ≤ position_or_len (λ b. b == 10) (xs ++ ys)
position_or_len-more xs ys = grind (arith, prefix_len-append (λ b. not (b == 10)) xs ys, prefix_len-le-length (λ b. not (b == 10)) xs)

pub after_first-past : (xs ys : List ℕ) → position_or_len (λ b. b == 10) xs ≡ length xs
    → after_first (λ b. b == 10) (xs ++ ys) ≡ after_first (λ b. b == 10) ys
after_first-past xs ys all =
    let n = position_or_len (λ b. b == 10) ys in
    let place : length xs + n + 1 ≡ length xs + (n + 1) = omega arith in
    ap (λ k. drop (k + 1) (xs ++ ys)) (position_or_len-unended xs ys all)
    ∙ ap (λ k. drop k (xs ++ ys)) place
    ∙ drop-append-add xs ys (n + 1)

-- ---- the same where the rest of the text may not be told

pub after_first-unended : (xs : List ℕ) (known : Option (List ℕ)) → position_or_len (λ b. b == 10) xs ≡ length xs
    → option_map (after_first (λ b. b == 10)) (prepend_known xs known) ≡ option_map (after_first (λ b. b == 10)) known
after_first-unended xs None all = refl
after_first-unended xs (Some ys) all = ap Some (after_first-past xs ys all)

pub after_first-ended : (xs : List ℕ) (known : Option (List ℕ)) (n : ℕ) → n ≡ position_or_len (λ b. b == 10) xs → n < length xs
    → prepend_known (drop (n + 1) xs) known ≡ option_map (after_first (λ b. b == 10)) (prepend_known xs known)
after_first-ended xs None n is less = refl
after_first-ended xs (Some ys) n is less =
    ap Some (
    sym (drop-append-le (n + 1) xs ys (omega arith))
    ∙ ap (λ k. drop (k + 1) (xs ++ ys)) (is ∙ sym (position_or_len-ended xs ys (omega arith))))

pub prepend_known-append : (xs ys : List ℕ) (known : Option (List ℕ)) → prepend_known xs (prepend_known ys known) ≡ prepend_known (xs ++ ys) known
prepend_known-append xs ys None = refl
prepend_known-append xs ys (Some zs) = ap Some (sym (append_assoc xs ys zs))

-- what stands before the ending has none
unended_front : (xs : List ℕ) → position_or_len (λ b. b == 10) (take (position_or_len (λ b. b == 10) xs) xs) ≡ length (take (position_or_len (λ b. b == 10) xs) xs)
unended_front xs =
    let n = position_or_len (λ b. b == 10) xs in
    let sooner : position_or_len (λ b. b == 10) (take n xs) < length (take n xs) → n ≡ position_or_len (λ b. b == 10) (take n xs) =
    λ less. ap (position_or_len (λ b. b == 10)) (sym (take-append-drop n xs)) ∙ position_or_len-ended (take n xs) (drop n xs) less in
    grind (arith, sooner, prefix_len-le-length (λ b. not (b == 10)) (take n xs), length-prefix_len (λ b. not (b == 10)) xs)

pub after_first-front : (xs : List ℕ) (known : Option (List ℕ)) (n : ℕ) → n ≡ position_or_len (λ b. b == 10) xs
    → option_map (after_first (λ b. b == 10)) (prepend_known (drop n xs) known) ≡ option_map (after_first (λ b. b == 10)) (prepend_known xs known)
after_first-front xs known n is =
    subst (λ k. option_map (after_first (λ b. b == 10)) (prepend_known (drop k xs) known) ≡ option_map (after_first (λ b. b == 10)) (prepend_known xs known)) (sym is) (
    sym (after_first-unended (take (position_or_len (λ b. b == 10) xs) xs) (prepend_known (drop (position_or_len (λ b. b == 10) xs) xs) known) (unended_front xs))
    ∙ ap (option_map (after_first (λ b. b == 10))) (
    prepend_known-append (take (position_or_len (λ b. b == 10) xs) xs) (drop (position_or_len (λ b. b == 10) xs) xs) known
    ∙ ap (λ l. prepend_known l known) (take-append-drop (position_or_len (λ b. b == 10) xs) xs)))

pub IsAtEnd-prepend_known : (xs : List ℕ) (known : Option (List ℕ)) → length xs ≡ 0 → IsAtEnd known → IsAtEnd (prepend_known xs known)
IsAtEnd-prepend_known xs None none end = tt
IsAtEnd-prepend_known [] (Some ys) none end = end
IsAtEnd-prepend_known (x ∷ xs) (Some ys) none end = absurd (omega arith)

-- ---- what a reader of lines takes: `line` is what it has of a line, `pending` what it has read after that

-- where the line ends in what is pending
ended : (line pending more : List ℕ) (n : ℕ) → position_or_len (λ b. b == 10) line ≡ length line → n ≡ position_or_len (λ b. b == 10) pending → n < length pending
    → lines_of (line ++ (pending ++ more)) ≡ (line ++ take n pending) ∷ lines_of (drop (n + 1) pending ++ more)
ended line pending more n unended is less =
    let text = line ++ (pending ++ more) in
    let place : position_or_len (λ b. b == 10) text ≡ length line + n =
    position_or_len-unended line (pending ++ more) unended
    ∙ ap (λ k. length line + k) (position_or_len-ended pending more (omega arith) ∙ sym is) in
    let front : before_first (λ b. b == 10) text ≡ line ++ take n pending =
    ap (λ k. take k text) place
    ∙ take-append-add line (pending ++ more) n
    ∙ ap (λ l. line ++ l) (take-append-le n pending more (omega arith)) in
    let behind : after_first (λ b. b == 10) text ≡ drop (n + 1) pending ++ more =
    after_first-past line (pending ++ more) unended
    ∙ ap (λ k. drop (k + 1) (pending ++ more)) (position_or_len-ended pending more (omega arith) ∙ sym is)
    ∙ drop-append-le (n + 1) pending more (omega arith) in
    lines_of-first text (omega (arith, length-append line (pending ++ more), length-append pending more))
    ∙ ap (λ l. l ∷ lines_of (after_first (λ b. b == 10) text)) front
    ∙ ap (λ l. (line ++ take n pending) ∷ lines_of l) behind

-- the rest of the line stands in what is pending
pub TakesLine-ended : (line pending : List ℕ) (known old : Option (List ℕ)) (n : ℕ) (piece whole rest : List ℕ)
    → prepend_known line (prepend_known pending known) ≡ old → position_or_len (λ b. b == 10) line ≡ length line
    → n ≡ position_or_len (λ b. b == 10) pending → n < length pending
    → piece ≡ take n pending → whole ≡ line ++ piece → rest ≡ drop (n + 1) pending
    → TakesLine (option_map lines_of old) (option_map lines_of (prepend_known rest known)) whole
TakesLine-ended line pending None old n piece whole rest same unended is less front line_is rest_is = ap (option_map lines_of) (sym same)
TakesLine-ended line pending (Some more) old n piece whole rest same unended is less front line_is rest_is =
    ap (option_map lines_of) (sym same)
    ∙ ap Some (
    ended line pending more n unended is less
    ∙ ap (λ l. l ∷ lines_of (drop (n + 1) pending ++ more)) (ap (λ l. line ++ l) (sym front) ∙ sym line_is)
    ∙ ap (λ l. whole ∷ lines_of (l ++ more)) (sym rest_is))

-- all that is pending is of the line
pub prepend_known-moved : (line pending : List ℕ) (known old : Option (List ℕ)) (n : ℕ) (piece whole rest : List ℕ) (now : Option (List ℕ))
    → prepend_known line (prepend_known pending known) ≡ old → length pending ≤ n
    → piece ≡ take n pending → whole ≡ line ++ piece → prepend_known rest now ≡ known
    → prepend_known whole (prepend_known rest now) ≡ old
prepend_known-moved line pending known old n piece whole rest now same all front line_is kept =
    ap (prepend_known whole) kept
    ∙ ap (λ l. prepend_known l known) (line_is ∙ ap (λ l. line ++ l) (front ∙ take_all n pending all))
    ∙ sym (prepend_known-append line pending known)
    ∙ same

pub position_or_len-moved : (line pending : List ℕ) (n : ℕ) (piece whole : List ℕ)
    → position_or_len (λ b. b == 10) line ≡ length line → n ≡ position_or_len (λ b. b == 10) pending → length pending ≤ n
    → piece ≡ take n pending → whole ≡ line ++ piece
    → position_or_len (λ b. b == 10) whole ≡ length whole
position_or_len-moved line pending n piece whole unended is all front line_is =
    let moved : whole ≡ line ++ pending = line_is ∙ ap (λ l. line ++ l) (front ∙ take_all n pending all) in
    let place : position_or_len (λ b. b == 10) pending ≡ length pending = omega (arith, prefix_len-le-length (λ b. not (b == 10)) pending) in
    ap (position_or_len (λ b. b == 10)) moved
    ∙ position_or_len-unended line pending unended
    ∙ ap (λ k. length line + k) place
    ∙ sym (length-append line pending)
    ∙ ap length (sym moved)

pub length-moved : (line pending : List ℕ) (n : ℕ) (piece whole : List ℕ) → n ≤ length pending → piece ≡ take n pending → whole ≡ line ++ piece
    → length whole ≡ length line + n
length-moved line pending n piece whole within front line_is =
    omega (arith, ap length line_is, length-append line piece, ap length front, length-take n pending)

-- nothing more comes
pub TakesLine-last : (line : List ℕ) (known old : Option (List ℕ)) → prepend_known line known ≡ old
    → position_or_len (λ b. b == 10) line ≡ length line → IsAtEnd known → 0 < length line
    → TakesLine (option_map lines_of old) (option_map lines_of known) line
TakesLine-last line None old same unended end some = ap (option_map lines_of) (sym same)
TakesLine-last line (Some more) old same unended end some =
    let front : before_first (λ b. b == 10) line ≡ line = ap (λ k. take k line) unended ∙ take-length line in
    let behind : after_first (λ b. b == 10) line ≡ [] ++ more =
    sym (ap (after_first (λ b. b == 10)) (append-nil line)) ∙ after_first-past line [] unended ∙ sym end in
    ap (option_map lines_of) (sym same)
    ∙ ap Some (
    ap lines_of (ap (λ l. line ++ l) end ∙ append-nil line)
    ∙ lines_of-first line some
    ∙ ap (λ l. l ∷ lines_of (after_first (λ b. b == 10) line)) front
    ∙ ap (λ l. line ∷ lines_of l) behind)

-- the line is longer than a line may be
too_long : (line pending : List ℕ) (known : Option (List ℕ)) → position_or_len (λ b. b == 10) line ≡ length line
    → MAX_LINE < length line + position_or_len (λ b. b == 10) pending
    → SkipsLine (option_map lines_of (prepend_known line (prepend_known pending known)))
    (option_map lines_of (option_map (after_first (λ b. b == 10)) (prepend_known pending known)))
too_long line pending None unended above = record {
  long = line ++ before_first (λ b. b == 10) pending;
  above = omega (arith, length-append line (before_first (λ b. b == 10) pending), length-prefix_len (λ b. not (b == 10)) pending);
  skipped = refl;
}
too_long line pending (Some more) unended above =
    let text = line ++ (pending ++ more) in
    let place = position_or_len-unended line (pending ++ more) unended in
    let within = prefix_len-le-length (λ b. not (b == 10)) text in
    record {
      long = before_first (λ b. b == 10) text;
      above = omega (arith, place, position_or_len-more pending more, length-prefix_len (λ b. not (b == 10)) text);
      skipped = ap Some (
          lines_of-first text (omega (arith, place, within, position_or_len-more pending more))
          ∙ ap (λ l. before_first (λ b. b == 10) text ∷ lines_of l) (after_first-past line (pending ++ more) unended));
    }

-- the line so far and what is pending of it are already too long, and the rest of the line is passed over
pub SkipsLine-after : (line pending : List ℕ) (known old new : Option (List ℕ)) (n : ℕ) (rest : List ℕ)
    → prepend_known line (prepend_known pending known) ≡ old → position_or_len (λ b. b == 10) line ≡ length line
    → n ≡ position_or_len (λ b. b == 10) pending → MAX_LINE < length line + n
    → rest ≡ drop n pending → new ≡ option_map (after_first (λ b. b == 10)) (prepend_known rest known)
    → SkipsLine (option_map lines_of old) (option_map lines_of new)
SkipsLine-after line pending known old new n rest same unended is above rest_is new_is =
    let behind : new ≡ option_map (after_first (λ b. b == 10)) (prepend_known pending known) =
    new_is ∙ ap (λ l. option_map (after_first (λ b. b == 10)) (prepend_known l known)) rest_is ∙ after_first-front pending known n is in
    subst (λ k. SkipsLine (option_map lines_of k) (option_map lines_of new)) same
    (subst (λ k. SkipsLine (option_map lines_of (prepend_known line (prepend_known pending known))) (option_map lines_of k)) (sym behind)
    (too_long line pending known unended (omega arith)))

-- ---- the chunk

-- a range without its first n elements
pub slice_range-consumed : (xs seen : List ℕ) (from to n : ℕ) → take (to - from) (drop from xs) ≡ seen → n ≤ length seen
    → take (to - (from + n)) (drop (from + n) xs) ≡ drop n seen
slice_range-consumed xs seen from to n is within =
    let few : n ≤ to - from = omega (arith, ap length is, length-take (to - from) (drop from xs)) in
    let parts : to - from ≡ n + (to - (from + n)) = omega arith in
    sym (ap (drop n) (sym is)
    ∙ ap (λ k. drop n (take k (drop from xs))) parts
    ∙ drop-take n (to - (from + n)) (drop from xs)
    ∙ ap (take (to - (from + n))) (drop-drop n from xs))
