-- What is so of the lists of an accepted setup, and of its size.
use Rattle.std.proofs.Common.{◌≡◌, ℕ, ◌+◌, ◌-◌, ◌*◌, ◌<◌, ◌≤◌, ◌^◌, false, List, [], length, get_or, Option, None, Some, Ok, Err, refl, sym, ap, subst, ◌∙◌, arith}
use Rattle.std.specs.Prelude.{IsSome, IfSome, Result, is_none, slice_get}
use Rattle.std.proofs.Math.Nat.{mul-le-mul_left}
use Rattle.std.proofs.lemmas.List.{get_or-map}
use Rattle.std.proofs.lemmas.List.Elements.{All-from_recursion}
use Rattle.std.proofs.lemmas.Option.{get_or_from_slice_get}
use Rattle.two_level.specs.Plan.{plan}
use Rattle.client_registry.proofs.SizedLaws.{accepted_bytes}
use Rattle.client_registry.specs.Acceptance.{blocks_of, dummy_blocks, dummy_entries, padded_blocks, padded_words, size_refusal}
use Rattle.client_registry.specs.Document.{Document}
use Rattle.client_registry.specs.Documents.{ids_with, list_lengths, words_of}
use Rattle.client_registry.specs.Setup.{Setup, setup_with, setup_words}
use Rattle.client_registry.specs.declared.faults.SizeFault.{SizeFault}
use Rattle.client_registry.specs.declared.size.Size.{Size}
use Rattle.sse_model.proofs.Texts.{HasPlan, lists_have_plans}
use Rattle.index_setup.specs.SizeOf.{setup_sized, IsSizeOf}

abbrev pub success : {X E : Type 0} → X → Result X E
success x = Ok x

some_of : {X : Type 0} (o : Option X) → is_none o ≡ false → IsSome o
some_of None is = absurd (cc)
some_of (Some x) is = refl

-- no fault is told where there is a result
pub none_of_ok : {X E : Type 0} (o : Option E) (x : X) → IfSome o (λ fault. success {X = X} {E = E} x ≡ Err fault) → o ≡ None
none_of_ok None x told = refl
none_of_ok (Some fault) x told = absurd (cc)

-- the list of the word at w is as long as its length says
pub list_at : (docs : List Document) (w n : ℕ) → w < length (words_of docs) → slice_get (list_lengths docs) w ≡ Some n
    → n ≡ length (ids_with docs (get_or (words_of docs) w []))
list_at docs w n within at =
    sym (get_or_from_slice_get (list_lengths docs) w n 0 at) ∙ get_or-map (λ word. length (ids_with docs word)) (words_of docs) w [] 0 within

-- and isn't too long
pub planned_at : (s : Setup) (w n : ℕ) → size_refusal s ≡ None → w < length (setup_words s) → slice_get (list_lengths s.documents) w ≡ Some n → IsSome (plan s.shape n)
planned_at s w n accepted within at =
    let own = All-from_recursion (HasPlan s) (setup_words s) (lists_have_plans s accepted) w [] within in
    subst (λ k. IsSome (plan s.shape k)) (sym (list_at s.documents w n within at))
    (some_of (plan s.shape (length (ids_with s.documents (get_or (setup_words s) w [])))) own)

-- an accepted setup has at most 2^25 entries, as each has 17 bytes at least
pub few_entries : (s : Setup) → size_refusal s ≡ None → padded_words s ≤ 2 ^ 25
few_entries s accepted =
    let more : padded_words s * 17 ≤ padded_words s * (17 + 8 * s.shape.b) = mul-le-mul_left (padded_words s) (omega arith) in
    omega (arith, more, accepted_bytes s accepted)

module _ (docs : List Document) (b big pad : ℕ) (size : Size) (shape_is : size.shape ≡ record { b = b; big = big }) (pad_is : size.pad ≡ pad) where
  -- the setup of a size is the one whose size it is
  pub sized_as : setup_sized docs size ≡ setup_with docs b big pad
  sized_as = λ i. setup_with docs (shape_is i).b (shape_is i).big (pad_is i)

  -- a size that is told is that of an accepted setup
  pub IsSizeOf-told : IfSome (size_refusal (setup_with docs b big pad)) (λ fault. success {X = Size} {E = SizeFault} size ≡ Err fault)
      → size.words ≡ length (setup_words (setup_with docs b big pad)) → size.blocks ≡ blocks_of (setup_with docs b big pad)
      → size.padded_words ≡ padded_words (setup_with docs b big pad) → size.padded_blocks ≡ padded_blocks (setup_with docs b big pad) → IsSizeOf docs size
  IsSizeOf-told told words blocks all_words all_blocks = record {
    accepted = ap size_refusal sized_as ∙ none_of_ok (size_refusal (setup_with docs b big pad)) size told;
    own_words = words;
    own_blocks = blocks ∙ ap blocks_of (sym sized_as);
    padded_words = all_words ∙ ap padded_words (sym sized_as);
    padded_blocks = all_blocks ∙ ap padded_blocks (sym sized_as);
  }

module _ (docs : List Document) (size : Size) (is : IsSizeOf docs size) where
  -- what the counts differ by are the dummies
  pub dummy_entries-counted : size.padded_words - size.words ≡ dummy_entries (setup_sized docs size)
  dummy_entries-counted = omega (arith, is.own_words, is.padded_words)

  pub dummy_blocks-counted : size.padded_blocks - size.blocks ≡ dummy_blocks (setup_sized docs size)
  dummy_blocks-counted = omega (arith, is.own_blocks, is.padded_blocks)
