-- The words of a side are words, and its documents aren't refused.
use Rattle.std.proofs.Common.{◌≡◌, ℕ, ◌<◌, ◌≤◌, false, [], ◌∷◌, None, refl, arith}
use Rattle.std.specs.Prelude.{codes}
use Rattle.std.specs.Str.Lossy.{utf8_valid_len}
use Rattle.std.proofs.lemmas.Bool.{ne_eqb}
use Rattle.std.proofs.lemmas.Bool.Decides.{nat_tests}
use Rattle.std.proofs.lemmas.Str.{IsUtf8-from_ascii, utf8_valid_len-IsUtf8}
use Rattle.std.proofs.lemmas.Str.Ascii.{IsAscii-nil, IsAscii-cons}
use Rattle.client_registry.specs.WordRule.{is_forbidden, word_refusal}
use Rattle.script_documents.specs.Refused.{document_refusal}
use Rattle.script_game.specs.GameDocuments.{game_words}
use Rattle.script_game.specs.declared.game_side.GameSide.{GameSide}
use Rattle.script_game.specs.declared.game_side.GameSide.TheVariants.{Left, Right}

word_refusal-letter : (b : ℕ) → is_forbidden b ≡ false → b < 128 → word_refusal (b ∷ []) ≡ None
word_refusal-letter b fair small =
    let whole : utf8_valid_len (b ∷ []) ≡ 1 = utf8_valid_len-IsUtf8 (b ∷ []) (IsUtf8-from_ascii (b ∷ []) (IsAscii-cons b [] small IsAscii-nil)) in
    grind (arith, nat_tests, fair, whole)

pub word_refusal-s : word_refusal (codes "s") ≡ None
word_refusal-s = word_refusal-letter 115 refl (omega arith)

pub document_refusal-game : (side : GameSide) (id : ℕ) → 1 ≤ id → document_refusal id (game_words side) ≡ None
document_refusal-game Left id some = rw (ne_eqb id 0 (λ e. omega (arith, e, some)), word_refusal-s, word_refusal-letter 108 refl (omega arith)) refl
document_refusal-game Right id some = rw (ne_eqb id 0 (λ e. omega (arith, e, some)), word_refusal-s, word_refusal-letter 114 refl (omega arith)) refl
