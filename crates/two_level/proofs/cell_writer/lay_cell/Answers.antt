use Rattle.std.proofs.Common.{◌≡◌, ◌≢◌, ℕ, ◌*◌, ◌+◌, ◌-◌, ◌∙◌, List, ◌++◌, replicate, length, take, drop, set, Some, arith, sym, ap}
use Rattle.std.proofs.lemmas.List.{take_rest, length-drop, length-set, length-take}
use Rattle.list_packing.specs.Numbers.{number_bytes}
use Rattle.two_level.specs.Laid.{pointers}
use Rattle.two_level.specs.Shape.{Shape}
use Rattle.two_level.proofs.LaidLemmas.{length-pointers}
use Rattle.two_level.proofs.LayLemmas.{cell_written, identifiers_cell, data_cell, data_fit, tops_cell, tops_fit}
use Rattle.two_level.proofs.cell_writer.lay_cell.Goals as goal

-- the bytes after the kind of a cell of b numbers
room : (b kind : ℕ) (out : List ℕ) → length out ≡ 1 + 8 * b → length (take (length (set out 0 kind) - 1) (drop 1 (set out 0 kind))) ≡ 8 * b
room b kind out size =
    ap length (take_rest (set out 0 kind) 1)
    ∙ omega (arith, length-drop 1 (set out 0 kind), length-set out 0 kind, size)

-- so many zeros after the pointers
filled_behind : (ranks : List ℕ) (m : ℕ)
    → number_bytes (pointers ranks) ++ replicate (m - 8 * length ranks) 0 ≡ number_bytes (pointers ranks) ++ replicate (m - 8 * length (pointers ranks)) 0
filled_behind ranks m = ap (λ n. number_bytes (pointers ranks) ++ replicate (m - 8 * n) 0) (sym (length-pointers ranks))

pub write_pointers-requires : goal.write_pointers-requires
write_pointers-requires c =
    let s : Shape = c.args.shape in
    let fit = data_fit s c.args.ranks.now c.args.ids.now c.in-Ok.plan c.in-Ok.ensures.limits.block_some c.in-Ok.ensures.plan c.requires.ranks c.in-1.is in
    omega (arith, room c.args.shape.b c.in-Ok.plan.kind c.args.out.now c.requires.size, fit)

pub write_pointers-requires-in_default-kind : goal.write_pointers-requires-in_default-kind
write_pointers-requires-in_default-kind c =
    let s : Shape = c.args.shape in
    let not_zero : c.in-Ok.plan.kind ≢ 0 = λ e. omega (arith, e) in
    let not_one : c.in-Ok.plan.kind ≢ 1 = λ e. omega (arith, e) in
    let fit = tops_fit s c.args.ranks.now c.args.ids.now c.in-Ok.plan c.in-Ok.ensures.limits.block_some c.in-Ok.ensures.plan c.requires.ranks not_zero not_one in
    omega (arith, room c.args.shape.b c.in-Ok.plan.kind c.args.out.now c.requires.size, fit, length-take c.in-Ok.plan.pointer_blocks c.args.ranks.now)

pub returns-in-0 : goal.returns-in-0
returns-in-0 c =
    let s : Shape = c.args.shape in
    identifiers_cell s c.args.ranks.now c.args.ids.now c.in-Ok.plan c.in-Ok.ensures.limits.block_some c.in-Ok.ensures.plan c.requires.ranks c.in-0.is
    ∙ ap (λ bytes. Some bytes) (sym (cell_written c.in-Ok.plan.kind c.args.shape.b _ c.args.out.now c.write_numbers.new.out c.args.ids.now c.requires.size
    (room c.args.shape.b c.in-Ok.plan.kind c.args.out.now c.requires.size) c.write_numbers.ensures))

pub returns-in-1 : goal.returns-in-1
returns-in-1 c =
    let s : Shape = c.args.shape in
    let ranks = c.args.ranks.now in
    data_cell s ranks c.args.ids.now c.in-Ok.plan c.in-Ok.ensures.limits.block_some c.in-Ok.ensures.plan c.requires.ranks c.in-1.is
    ∙ ap (λ bytes. Some bytes) (sym (cell_written c.in-Ok.plan.kind c.args.shape.b _ c.args.out.now c.write_pointers.new.out (pointers ranks) c.requires.size
    (room c.args.shape.b c.in-Ok.plan.kind c.args.out.now c.requires.size) (c.write_pointers.ensures ∙ filled_behind ranks _)))

pub returns-in_default-kind : goal.returns-in_default-kind
returns-in_default-kind c =
    let s : Shape = c.args.shape in
    let ranks = take c.in-Ok.plan.pointer_blocks c.args.ranks.now in
    let not_zero : c.in-Ok.plan.kind ≢ 0 = λ e. omega (arith, e) in
    let not_one : c.in-Ok.plan.kind ≢ 1 = λ e. omega (arith, e) in
    tops_cell s c.args.ranks.now c.args.ids.now c.in-Ok.plan c.in-Ok.ensures.limits.block_some c.in-Ok.ensures.plan c.requires.ranks not_zero not_one
    ∙ ap (λ bytes. Some bytes) (sym (cell_written c.in-Ok.plan.kind c.args.shape.b _ c.args.out.now c.write_pointers-in_default-kind.new.out (pointers ranks) c.requires.size
    (room c.args.shape.b c.in-Ok.plan.kind c.args.out.now c.requires.size) (c.write_pointers-in_default-kind.ensures ∙ filled_behind ranks _)))
