use Rattle.std.proofs.Common.{rules, ◌≡◌, ◌++◌, ◌∙◌, subst, arith}
use Rattle.std.specs.Prelude.{OnOk}
use Rattle.keyed_fn.specs.KeyedFn.{IsKeyedFn, keyed_fn}
use Rattle.vault_server.specs.VaultFrames.{InVault, vault_bytes}
use Rattle.vault_shelf.proofs.PutFrames.{is_put, on_ok, put_frames}
use Rattle.vault_shelf.proofs.write_frame.write_put.Goals as goal

pub write_vault_frame-requires : goal.write_vault_frame-requires
write_vault_frame-requires g c =
    let laws : IsKeyedFn (keyed_fn g.K.Keyed.prf g.K.Keyed.pad) = record {
      prf_length = g.met.K.Keyed.prf_length;
      prf_bytes = g.met.K.Keyed.prf_bytes;
      pad_length = g.met.K.Keyed.pad_length;
      pad_bytes = g.met.K.Keyed.pad_bytes;
      pad_prefix = g.met.K.Keyed.pad_prefix;
    } in
    is_put (keyed_fn g.K.Keyed.prf g.K.Keyed.pad) laws c.args.keys.now c.sent.result c.puts-v.result c.args.body.now c.slot.result c.in_ok-tag.tag c.text.result.now (search rules) (search rules) (search rules) c.requires.short
    (λ i. omega (arith, c.type_inv.body i)) (c.text.ensures ∙ c.in_ok-tag.ensures.text)

pub returns-clause-bytes : goal.returns-clause-bytes
returns-clause-bytes g c =
    λ s keeps.
    subst (λ frame. OnOk c.write_vault_frame.result (c.write_vault_frame.new.out.items ≡ c.args.out.now.items ++ vault_bytes frame))
    (put_frames (keyed_fn g.K.Keyed.prf g.K.Keyed.pad) c.args.keys.now s c.sent.result c.puts-v.result c.args.id c.args.body.now c.slot.result c.in_ok-tag.tag c.text.result.now
    (c.sent.ensures ∙ keeps.sent) (c.puts-v.ensures ∙ keeps.puts) c.slot.ensures c.in_ok-tag.ensures.tag (c.text.ensures ∙ c.in_ok-tag.ensures.text))
    c.write_vault_frame.ensures.bytes

pub returns-clause-grammar : goal.returns-clause-grammar
returns-clause-grammar g c =
    λ s keeps.
    let laws : IsKeyedFn (keyed_fn g.K.Keyed.prf g.K.Keyed.pad) = record {
      prf_length = g.met.K.Keyed.prf_length;
      prf_bytes = g.met.K.Keyed.prf_bytes;
      pad_length = g.met.K.Keyed.pad_length;
      pad_bytes = g.met.K.Keyed.pad_bytes;
      pad_prefix = g.met.K.Keyed.pad_prefix;
    } in
    on_ok c.write_vault_frame.result
    (subst InVault
    (put_frames (keyed_fn g.K.Keyed.prf g.K.Keyed.pad) c.args.keys.now s c.sent.result c.puts-v.result c.args.id c.args.body.now c.slot.result c.in_ok-tag.tag c.text.result.now
    (c.sent.ensures ∙ keeps.sent) (c.puts-v.ensures ∙ keeps.puts) c.slot.ensures c.in_ok-tag.ensures.tag (c.text.ensures ∙ c.in_ok-tag.ensures.text))
    (is_put (keyed_fn g.K.Keyed.prf g.K.Keyed.pad) laws c.args.keys.now c.sent.result c.puts-v.result c.args.body.now c.slot.result c.in_ok-tag.tag c.text.result.now (search rules) (search rules) (search rules) c.requires.short
    (λ i. omega (arith, c.type_inv.body i)) (c.text.ensures ∙ c.in_ok-tag.ensures.text)))
