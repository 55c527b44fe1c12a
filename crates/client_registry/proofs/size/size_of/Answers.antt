use Rattle.std.proofs.Common.{◌≡◌, ◌≤◌, ◌+◌, ◌*◌, Some, Err, refl, sym, ap, subst, ◌∙◌, arith}
use Rattle.std.specs.Prelude.{IfSome}
use Rattle.std.proofs.Math.Nat.{mul-le-mul_left}
use Rattle.std.proofs.lemmas.Result.{err_from_is_err_and}
use Rattle.two_level.specs.Shape.{Shape}
use Rattle.client_registry.proofs.PaddedLaws.{index_bytes-padded, pad_bounds}
use Rattle.client_registry.proofs.SizeRefusal.{not_refused, refused_by_bytes, refused_by_list}
use Rattle.client_registry.specs.Acceptance.{blocks_of, list_refusal, padded, size_refusal}
use Rattle.client_registry.specs.Setup.{setup_of, setup_with}
use Rattle.client_registry.specs.declared.faults.SizeFault.TheVariants.{TooManyBytes}
use Rattle.client_registry.proofs.size.size_of.Goals as goal

-- the first list that is too long is named
list_named : (c : goal.After-from_residual-in_err-blocks) → size_refusal (setup_with c.args.docs.now.documents c.args.sizes.b c.args.sizes.big c.args.sizes.pad) ≡ Some c.in_err-blocks.field-0.0
list_named c =
    let docs = c.args.docs.now.documents in
    refused_by_list (setup_with docs c.args.sizes.b c.args.sizes.big c.args.sizes.pad) (sym c.in_ok-shape.ensures.refused) c.in_err-blocks.field-0.0
    (ap (λ (shape : Shape). list_refusal (setup_of docs shape.b shape.big)) (sym c.in_ok-shape.ensures.shape) ∙ c.in_err-blocks.ensures.too_long)

pub returns-in_err-blocks-clause-refused : goal.returns-in_err-blocks-clause-refused
returns-in_err-blocks-clause-refused c =
    let told = err_from_is_err_and c.from_residual-in_err-blocks.result c.from_residual-in_err-blocks.ensures.1 in
    subst (λ o. IfSome o (λ fault. c.from_residual-in_err-blocks.result ≡ Err fault)) (sym (list_named c)) (told.1 ∙ ap (λ e. Err e) told.2)

pub returns-in_err-blocks-clause-accepted : goal.returns-in_err-blocks-clause-accepted
returns-in_err-blocks-clause-accepted c = λ none. absurd (cc (list_named c, none))

pub overflow_add-bytes-2 : goal.overflow_add-bytes-2
overflow_add-bytes-2 c =
    let limits = c.in_ok-shape.ensures.limits in
    let entries : c.padded-padded_words.result * (17 + 8 * c.args.sizes.b) ≤ c.padded-padded_words.result * 529 = mul-le-mul_left c.padded-padded_words.result (omega (arith, limits)) in
    let array : c.padded-padded_blocks.result * (8 * c.args.sizes.big) ≤ c.padded-padded_blocks.result * 2048 = mul-le-mul_left c.padded-padded_blocks.result (omega (arith, limits)) in
    omega (arith, entries, array, pad_bounds c.args.sizes.pad c.in_ok-shape.ensures.pad, c.padded-padded_words.ensures.within, c.padded-padded_blocks.ensures.within, c.words-words.ensures.within, c.in_ok-blocks.ensures.within)

-- too many bytes are named
bytes_named : (c : goal.Then-bytes-gt-MAX_INDEX_BYTES)
    → size_refusal (setup_with c.args.docs.now.documents c.args.sizes.b c.args.sizes.big c.args.sizes.pad) ≡ Some (TooManyBytes (c.padded-padded_words.result * (17 + 8 * c.args.sizes.b) + c.padded-padded_blocks.result * (8 * c.args.sizes.big)))
bytes_named c =
    let docs = c.args.docs.now.documents in
    let s = setup_with docs c.args.sizes.b c.args.sizes.big c.args.sizes.pad in
    let fit = ap (λ (shape : Shape). list_refusal (setup_of docs shape.b shape.big)) (sym c.in_ok-shape.ensures.shape) ∙ c.in_ok-blocks.ensures.fit in
    let blocks = c.in_ok-blocks.ensures.blocks ∙ ap (λ (shape : Shape). blocks_of (setup_of docs shape.b shape.big)) c.in_ok-shape.ensures.shape in
    let bytes = index_bytes-padded s (pad_bounds c.args.sizes.pad c.in_ok-shape.ensures.pad).0 c.padded-padded_words.result c.padded-padded_blocks.result
    (c.padded-padded_words.ensures.multiple ∙ ap (padded c.args.sizes.pad) c.words-words.ensures.words)
    (c.padded-padded_blocks.ensures.multiple ∙ ap (padded c.args.sizes.pad) blocks) in
    refused_by_bytes s (sym c.in_ok-shape.ensures.refused) fit (omega (arith, c.if-bytes-gt-MAX_INDEX_BYTES.true, bytes)) ∙ ap (λ n. Some (TooManyBytes n)) (sym bytes)

pub returns-then-bytes-gt-MAX_INDEX_BYTES-clause-refused : goal.returns-then-bytes-gt-MAX_INDEX_BYTES-clause-refused
returns-then-bytes-gt-MAX_INDEX_BYTES-clause-refused c = rw (bytes_named c) refl

pub returns-then-bytes-gt-MAX_INDEX_BYTES-clause-accepted : goal.returns-then-bytes-gt-MAX_INDEX_BYTES-clause-accepted
returns-then-bytes-gt-MAX_INDEX_BYTES-clause-accepted c = λ none. absurd (cc (bytes_named c, none))

-- with no cause it is accepted
pub returns-clause-refused : goal.returns-clause-refused
returns-clause-refused c =
    let docs = c.args.docs.now.documents in
    let s = setup_with docs c.args.sizes.b c.args.sizes.big c.args.sizes.pad in
    let fit = ap (λ (shape : Shape). list_refusal (setup_of docs shape.b shape.big)) (sym c.in_ok-shape.ensures.shape) ∙ c.in_ok-blocks.ensures.fit in
    let blocks = c.in_ok-blocks.ensures.blocks ∙ ap (λ (shape : Shape). blocks_of (setup_of docs shape.b shape.big)) c.in_ok-shape.ensures.shape in
    let bytes = index_bytes-padded s (pad_bounds c.args.sizes.pad c.in_ok-shape.ensures.pad).0 c.padded-padded_words.result c.padded-padded_blocks.result
    (c.padded-padded_words.ensures.multiple ∙ ap (padded c.args.sizes.pad) c.words-words.ensures.words)
    (c.padded-padded_blocks.ensures.multiple ∙ ap (padded c.args.sizes.pad) blocks) in
    rw (not_refused s (sym c.in_ok-shape.ensures.refused) fit (omega (arith, c.if-bytes-gt-MAX_INDEX_BYTES.false, bytes))) tt
