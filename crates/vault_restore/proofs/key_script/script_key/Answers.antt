use Rattle.vault_restore.specs.KeyScripts.{BadLineAt, KeyAlone}
use Rattle.vault_restore.proofs.KeyScriptRead.{finds-first, found_makes, missed_makes, misses-first, stops_for}
use Rattle.vault_restore.proofs.key_script.script_key.Goals as goal

pub returns-in_err-key-clause-bad : goal.returns-in_err-key-clause-bad
returns-in_err-key-clause-bad g c number e =
    missed_makes _ number
    (misses-first _ _ _ number c.in_ok-input.ensures.number c.in_ok-input.ensures.pending (c.in_err-key.ensures.missing number (stops_for c.from_residual-in_err-key.result c.in_err-key.field-0.0 _ c.from_residual-in_err-key.ensures.1 e)))

pub returns-in_err-only_empty-clause-bad : goal.returns-in_err-only_empty-clause-bad
returns-in_err-only_empty-clause-bad g c number e =
    let finds = finds-first _ _ _ _ _ _ c.in_ok-input.ensures.number c.in_ok-input.ensures.pending c.in_ok-key.ensures.found in
    found_makes _ _ c.in_ok-key.key _ (BadLineAt number) finds
    (c.in_err-only_empty.ensures.bad c.in_ok-key.key number (stops_for c.from_residual-in_err-only_empty.result c.in_err-only_empty.field-0.0 _ c.from_residual-in_err-only_empty.ensures.1 e))

pub returns-clause-alone : goal.returns-clause-alone
returns-clause-alone g c =
    let finds = finds-first _ _ _ _ _ _ c.in_ok-input.ensures.number c.in_ok-input.ensures.pending c.in_ok-key.ensures.found in
    found_makes _ _ c.in_ok-key.key _ (KeyAlone c.in_ok-key.key) finds (c.in_ok-only_empty.ensures.alone c.in_ok-key.key)
