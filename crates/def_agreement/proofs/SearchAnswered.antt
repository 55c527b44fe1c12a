-- The cell of a word's label, as a search finds it.
use Rattle.std.proofs.Common.{◌≡◌, ℕ, List, [], length, Option, None, Some, ap, ◌∙◌}
use Rattle.std.specs.Option.{option_map_or}
use Rattle.chacha_stream.proofs.Laws.{length-xored, xored-xored}
use Rattle.keyed_fn.specs.KeyedFn.{KeyedFn}
use Rattle.keyed_fn.specs.KeyFormulas.{list_label, cell_pad}
use Rattle.keyed_fn.specs.Xored.{xored}
use Rattle.search_token.specs.TokenKeys.{TokenKeys}
use Rattle.server_core.specs.Search.{block_at, cell_list, setup_ids}

-- a missing label has no list
pub setup_ids-missing : (f : KeyedFn) (keys : TokenKeys) (cell : List ℕ → Option (List ℕ)) (array : List (List ℕ)) → cell (list_label f keys.label_key) ≡ None → setup_ids f keys cell array ≡ Some []
setup_ids-missing f keys cell array none =
    ap (λ o. option_map_or (λ text. cell_list (block_at f keys array) (xored text (cell_pad f keys.pad_key (length text)))) o (Some [])) none

-- a cell is decrypted by the pad that encrypted it
pub setup_ids-cell : (f : KeyedFn) (keys : TokenKeys) (cell : List ℕ → Option (List ℕ)) (array : List (List ℕ)) (clear : List ℕ) (size : ℕ) → length clear ≡ size
    → cell (list_label f keys.label_key) ≡ Some (xored clear (cell_pad f keys.pad_key size)) → setup_ids f keys cell array ≡ cell_list (block_at f keys array) clear
setup_ids-cell f keys cell array clear size long there =
    let pad = cell_pad f keys.pad_key size in
    let same : length (xored clear pad) ≡ size = length-xored clear pad ∙ long in
    ap (λ o. option_map_or (λ text. cell_list (block_at f keys array) (xored text (cell_pad f keys.pad_key (length text)))) o (Some [])) there
    ∙ ap (λ n. cell_list (block_at f keys array) (xored (xored clear pad) (cell_pad f keys.pad_key n))) same
    ∙ ap (cell_list (block_at f keys array)) (xored-xored clear pad)
