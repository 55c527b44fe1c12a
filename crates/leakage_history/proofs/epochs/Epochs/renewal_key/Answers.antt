use Rattle.std.proofs.Common.{◌<◌, ℕ, List, length, refl, sym, ap, ◌∙◌, arith}
use Rattle.std.specs.Prelude.{option_map, slice_get}
use Rattle.std.proofs.lemmas.List.{length-map}
use Rattle.std.proofs.lemmas.Option.{slice_get-map, slice_get_read}
use Rattle.leakage_history.proofs.EpochLaws.{renewal_keys-with}
use Rattle.leakage_history.specs.HashedEpochs.{epochs_in, renewal_keys}
use Rattle.leakage_history.specs.HashedRun.{run_of}
use Rattle.leakage_history.specs.declared.epochs.Ended.{Ended}
use Rattle.leakage_history.proofs.epochs.Epochs.renewal_key.Goals as goal

-- the key of the epoch after one that ended
abbrev key_after : Ended → List ℕ
key_after e = e.key

pub index-requires : goal.index-requires
index-requires c =
    let before = c.self.inside.before.items in
    let all = ap (λ h. length (renewal_keys (epochs_in h))) (sym c.self.view_is) ∙ ap length (renewal_keys-with before (run_of c.self.inside.last)) in
    omega (arith, c.requires, all, length-map before key_after)

pub returns : goal.returns
returns c =
    let before = c.self.inside.before.items in
    let ended = c.index.result.now in
    let all = ap (λ h. length (renewal_keys (epochs_in h))) (sym c.self.view_is) ∙ ap length (renewal_keys-with before (run_of c.self.inside.last)) in
    let within : c.args.number < length before = omega (arith, c.requires, all, length-map before key_after) in
    ap (λ h. slice_get (renewal_keys (epochs_in h)) c.args.number) (sym c.self.view_is)
    ∙ ap (λ keys. slice_get keys c.args.number) (renewal_keys-with before (run_of c.self.inside.last))
    ∙ slice_get-map key_after before c.args.number
    ∙ ap (option_map key_after) (slice_get_read before (length before) c.args.number ended refl within c.index.ensures)
