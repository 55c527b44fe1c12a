use Rattle.std.proofs.Common.{◌≡◌, ℕ, ◌+◌, List, ◌++◌, ◌∷◌, [], Some, map, take, sym, ap, ◌∙◌}
use Rattle.std.specs.Prelude.{slice_get}
use Rattle.std.proofs.lemmas.List.{map-append}
use Rattle.client_registry.specs.WordBytes.{word_bytes}
use Rattle.client_live_docs.proofs.Pushing.{take-one_more}
use Rattle.keyed_fn.specs.KeyedFn.{keyed_fn}
use Rattle.leakage_sheets.specs.OwnKeys.{OwnKeys, own_keys}
use Rattle.leakage_sheets.proofs.words.keys_of.Goals as goal

-- the keys of one word more
pushed : (own : List ℕ → OwnKeys) (words : List (List ℕ)) (n : ℕ) (word : List ℕ) (keys more : List OwnKeys) (key : OwnKeys) → more ≡ keys ++ key ∷ []
    → keys ≡ map own (take n words) → key ≡ own word → slice_get words n ≡ Some word → more ≡ map own (take (n + 1) words)
pushed own words n word keys more key is front one at =
    is ∙ (λ i. front i ++ one i ∷ []) ∙ sym (map-append own (take n words) (word ∷ [])) ∙ ap (map own) (sym (take-one_more words n word at))

pub loop-number-preserved : goal.loop-number-preserved
loop-number-preserved g c =
    pushed (own_keys (keyed_fn g.K.Keyed.prf g.K.Keyed.pad) c.args.master.now) c.args.words.now c.loop-number.number (word_bytes c.word.result.now) c.loop-number.keys c.push.new.self c.of.result
    c.in_ok-push.ensures.ok c.loop-number.invariant c.of.ensures c.word.ensures
