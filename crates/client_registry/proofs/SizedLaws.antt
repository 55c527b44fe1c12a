-- What is accepted is sized.
use Rattle.std.proofs.Common.{◌≡◌, ℕ, ◌+◌, ◌*◌, ◌<◌, ◌≤◌, ◌^◌, Bool, true, false, not, ◌&&◌, List, [], ◌∷◌, ◌++◌, length, filter, Option, None, Some, nat_lt, nat_le, option_map, refl, sym, ap, subst, append_assoc, ◌∙◌, arith}
use Rattle.std.specs.Prelude.{All, flat_map, bytes_eq, if◌then◌else◌}
use Rattle.std.specs.List.{list_all}
use Rattle.std.specs.Option.{option_or}
use Rattle.std.proofs.lemmas.Bool.{and_parts, and_from, leb-true, ltb-false}
use Rattle.std.proofs.lemmas.List.{append-nil, get_or_append_left, length-append, length_push}
use Rattle.std.proofs.lemmas.List.Concat.{flat_map-append}
use Rattle.std.proofs.lemmas.List.Elements.{All-nil, All-push, filter-append}
use Rattle.std.proofs.lemmas.List.Folds.{list_all-append}
use Rattle.std.proofs.Math.Nat.{mul-le-mul_left, div-le_self}
use Rattle.client_registry.proofs.OverLaws.{over-append}
use Rattle.client_registry.proofs.PaddedLaws.{padded_words_are, pad_bounds, padded_within}
use Rattle.client_registry.proofs.WordsLaws.{length-first_seen}
use Rattle.client_registry.specs.Acceptance.{index_bytes, frames_needed, parameter_refusal, refused_shape, list_refusal, bytes_refusal, padded_blocks, padded_words, is_pad, size_refusal}
use Rattle.client_registry.specs.Command.{Command, is_update}
use Rattle.client_registry.specs.Documents.{all_words, first_seen, IsCollected}
use Rattle.client_registry.specs.Over.{over}
use Rattle.client_registry.specs.Run.{Run}
use Rattle.client_registry.specs.Setup.{Setup, setup_words}
use Rattle.client_registry.specs.Sized.{IsHistory, is_accepted, update_frames, words_named, run_words, IsSizedCommand, IsSized}
use Rattle.client_registry.specs.declared.faults.SizeFault.TheVariants.{BadParameter, TooManyBytes}
use Rattle.two_level.specs.ShapeFault.{is_within, shape_fault}
use Rattle.two_level.specs.declared.shape_fault.ShapeFault.TheVariants.{BadCell, BadBlock}

-- nothing is refused where no cause stands
no_cause : {A : Type 0} (o p : Option A) → option_or o p ≡ None → (o ≡ None) × (p ≡ None)
no_cause None p h = (refl, h)
no_cause (Some x) p h = absurd (cc)

is_within-true : (low high n : ℕ) → is_within low high n ≡ true → (low ≤ n) × (n ≤ high)
is_within-true low high n h =
    let parts = and_parts (nat_le low n) (nat_le n high) h in
    (leb-true low n parts.0, leb-true n high parts.1)

module _ (s : Setup) (h : size_refusal s ≡ None) where
  parameters : (option_map refused_shape (shape_fault s.shape) ≡ None) × ((if is_pad s.pad then None else Some (BadParameter 2 s.pad)) ≡ None)
  parameters =
      no_cause (option_map refused_shape (shape_fault s.shape)) (if is_pad s.pad then None else Some (BadParameter 2 s.pad))
      (no_cause (parameter_refusal s) (option_or (list_refusal s) (bytes_refusal s)) h).0

  -- the parameters of an accepted setup are within their limits
  pub accepted_shape : ((1 ≤ s.shape.b) × (s.shape.b ≤ 64)) × ((1 ≤ s.shape.big) × (s.shape.big ≤ 256))
  accepted_shape = by (is_within 1 64 s.shape.b) (is_within 1 256 s.shape.big) refl refl parameters.0
    where
      by : (x y : Bool) → is_within 1 64 s.shape.b ≡ x → is_within 1 256 s.shape.big ≡ y
          → option_map refused_shape (if not x then Some (BadCell s.shape.b) else if not y then Some (BadBlock s.shape.big) else None) ≡ None
          → ((1 ≤ s.shape.b) × (s.shape.b ≤ 64)) × ((1 ≤ s.shape.big) × (s.shape.big ≤ 256))
      by true true a b e = (is_within-true 1 64 s.shape.b a, is_within-true 1 256 s.shape.big b)
      by false y a b e = absurd (cc)
      by true false a b e = absurd (cc)

  -- so is its Q
  pub accepted_pad : is_pad s.pad ≡ true
  accepted_pad = by (is_pad s.pad) refl parameters.1
    where
      by : (x : Bool) → is_pad s.pad ≡ x → (if x then None else Some (BadParameter 2 s.pad)) ≡ None → is_pad s.pad ≡ true
      by true a e = a
      by false a e = absurd (cc)

  pub one_pad : 1 ≤ s.pad
  one_pad = (pad_bounds s.pad accepted_pad).0

  -- none of its lists is too long
  pub accepted_lists : list_refusal s ≡ None
  accepted_lists = (no_cause (list_refusal s) (bytes_refusal s) (no_cause (parameter_refusal s) (option_or (list_refusal s) (bytes_refusal s)) h).1).0

  -- and its index has at most 2^28 bytes
  pub accepted_bytes : index_bytes s ≤ 2 ^ 28
  accepted_bytes = by (nat_lt (2 ^ 28) (index_bytes s)) refl (no_cause (list_refusal s) (bytes_refusal s) (no_cause (parameter_refusal s) (option_or (list_refusal s) (bytes_refusal s)) h).1).1
    where
      by : (x : Bool) → nat_lt (2 ^ 28) (index_bytes s) ≡ x → (if x then Some (TooManyBytes (index_bytes s)) else None) ≡ None → index_bytes s ≤ 2 ^ 28
      by true a e = absurd (cc)
      by false a e = ltb-false (2 ^ 28) (index_bytes s) a

  -- so it has at most 2^25 blocks, dummies included, as each has 8 bytes at least
  pub accepted_padded : padded_blocks s ≤ 2 ^ 25
  accepted_padded =
      let one : 1 ≤ s.shape.big = accepted_shape.1.0 in
      let more : padded_blocks s * 8 ≤ padded_blocks s * (8 * s.shape.big) = mul-le-mul_left (padded_blocks s) (omega (arith, one)) in
      omega (arith, more, accepted_bytes)

  -- and at most 2^20 entries, dummies included
  pub accepted_entries : IsCollected s.documents → padded_words s ≤ 2 ^ 20
  accepted_entries collected =
      let few : length (setup_words s) ≤ 2 ^ 20 = omega (arith, length-first_seen (all_words s.documents), collected.pairs) in
      omega (arith, padded_words_are s one_pad, padded_within s.pad accepted_pad (length (setup_words s)) few)

  -- and its frames leave most numbers for the commands
  pub accepted_frames : IsCollected s.documents → frames_needed s < 2 ^ 27
  accepted_frames collected =
      omega (arith, accepted_padded, accepted_entries collected, div-le_self (padded_words s) 1024, div-le_self (padded_blocks s) 256)

-- an accepted setup alone is a history
pub IsHistory-setup : (s : Setup) → IsCollected s.documents → size_refusal s ≡ None → IsHistory (record { setup = s; later = [] })
IsHistory-setup s collected h = record { collected = collected; setup = h; each = All-nil IsSizedCommand; accepted = refl }

-- and is sized
pub IsSized-setup : (s : Setup) → IsCollected s.documents → size_refusal s ≡ None → IsSized (record { setup = s; later = [] })
IsSized-setup s collected h = record {
  history = IsHistory-setup s collected h;
  commands = omega arith;
  frames = omega (arith, accepted_frames s h collected);
  words = omega (arith, ap (λ words. length (first_seen words)) (append-nil (all_words s.documents)), length-first_seen (all_words s.documents), collected.pairs);
}

-- the same run with one command more
abbrev pub then_command : Run → Command → Run
then_command run c = record { setup = run.setup; later = run.later ++ c ∷ [] }

-- a history stays one with one accepted command more
pub IsHistory-push : (run : Run) (c : Command) → IsHistory run → IsSizedCommand c → is_accepted run.setup run.later c ≡ true → IsHistory (then_command run c)
IsHistory-push run c was one ok = record {
  collected = was.collected;
  setup = was.setup;
  each = All-push IsSizedCommand run.later c was.each one;
  accepted =
      ap (list_all (λ accepted. accepted)) (over-append (is_accepted run.setup) [] run.later (c ∷ []))
      ∙ list_all-append (λ accepted. accepted) (over (is_accepted run.setup) [] run.later) (is_accepted run.setup run.later c ∷ [])
      ∙ and_from (list_all (λ accepted. accepted) (over (is_accepted run.setup) [] run.later)) (is_accepted run.setup run.later c && true) was.accepted (ap (λ b. b && true) ok);
}

-- it has so many update frames more
pub update_frames-push : (run : Run) (c : Command) → update_frames (then_command run c) ≡ update_frames run + length (filter is_update (c ∷ []))
update_frames-push run c =
    omega (arith, ap length (filter-append is_update run.later (c ∷ [])), length-append (filter is_update run.later) (filter is_update (c ∷ [])))

-- a sized run stays so with one accepted command more, where its numbers don't run out
pub IsSized-push : (run : Run) (c : Command) → IsSized run → IsSizedCommand c → is_accepted run.setup run.later c ≡ true → length run.later + 2 < 2 ^ 32 → update_frames run + length (filter is_update (c ∷ [])) < 2 ^ 32
    → length (run_words (then_command run c)) < 2 ^ 32 → IsSized (then_command run c)
IsSized-push run c sized one ok commands frames words = record {
  history = IsHistory-push run c sized.history one ok;
  commands = omega (arith, commands, length_push run.later c);
  frames = omega (arith, frames, update_frames-push run c);
  words = words;
}

All-front : (P : Command → Type 0) (xs ys : List Command) → All P (xs ++ ys) → All P xs
All-front P xs ys all = λ k d lt. subst P (get_or_append_left xs ys d k lt) (all k d (omega (arith, lt, length-append xs ys)))

-- the front of a history is one
pub IsHistory-front : (s : Setup) (xs ys : List Command) → IsHistory (record { setup = s; later = xs ++ ys }) → IsHistory (record { setup = s; later = xs })
IsHistory-front s xs ys was = record {
  collected = was.collected;
  setup = was.setup;
  each = All-front IsSizedCommand xs ys was.each;
  accepted =
      (and_parts (list_all (λ accepted. accepted) (over (is_accepted s) [] xs)) (list_all (λ accepted. accepted) (over (is_accepted s) xs ys))
      (sym (ap (list_all (λ accepted. accepted)) (over-append (is_accepted s) [] xs ys) ∙ list_all-append (λ accepted. accepted) (over (is_accepted s) [] xs) (over (is_accepted s) xs ys)) ∙ was.accepted)).0;
}

-- the words of a front come first
first_seen-front : (xs ys : List (List ℕ)) → (more : List (List ℕ)) × (first_seen (xs ++ ys) ≡ first_seen xs ++ more)
first_seen-front [] ys = (first_seen ys, refl)
first_seen-front (x ∷ xs) ys =
    let rest = first_seen-front xs ys in
    let other : List ℕ → Bool = λ w. not (bytes_eq x w) in
    (filter other rest.0, ap (λ words. x ∷ filter other words) rest.1 ∙ ap (λ words. x ∷ words) (filter-append other (first_seen xs) rest.0))

-- a front has no more of them
fewer_words : (s : Setup) (xs ys : List Command) → length (run_words (record { setup = s; later = xs })) ≤ length (run_words (record { setup = s; later = xs ++ ys }))
fewer_words s xs ys =
    let known = all_words s.documents ++ flat_map words_named xs in
    let rest = first_seen-front known (flat_map words_named ys) in
    let same : all_words s.documents ++ flat_map words_named (xs ++ ys) ≡ known ++ flat_map words_named ys =
    ap (λ words. all_words s.documents ++ words) (flat_map-append words_named xs ys) ∙ sym (append_assoc (all_words s.documents) (flat_map words_named xs) (flat_map words_named ys)) in
    omega (arith, ap (λ words. length (first_seen words)) same, ap length rest.1, length-append (first_seen known) rest.0)

-- the front of a sized run is sized
pub IsSized-front : (s : Setup) (xs ys : List Command) → IsSized (record { setup = s; later = xs ++ ys }) → IsSized (record { setup = s; later = xs })
IsSized-front s xs ys sized = record {
  history = IsHistory-front s xs ys sized.history;
  commands = omega (arith, sized.commands, length-append xs ys);
  frames = omega (arith, sized.frames, ap length (filter-append is_update xs ys), length-append (filter is_update xs) (filter is_update ys));
  words = omega (arith, sized.words, fewer_words s xs ys);
}
