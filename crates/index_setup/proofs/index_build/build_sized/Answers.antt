use Rattle.std.proofs.Common.{sym, subst, ◌∙◌}
use Rattle.keyed_fn.specs.KeyedFn.{keyed_fn}
use Rattle.client_tag_order.specs.Tagged.{IsOrderOf}
use Rattle.index_setup.specs.Entries.{index_labels, label_clash, place_clash}
use Rattle.index_setup.specs.SizeOf.{setup_sized}
use Rattle.index_setup.specs.declared.fault.BuildFault.TheVariants.{LabelClash, NoMemory, PlaceClash}
use Rattle.index_setup.proofs.BuildErrors.{first_of, labels_named, other_kind, places_named, unmapped}
use Rattle.index_setup.proofs.index_build.build_sized.Goals as goal

pub returns-in-Err-clause-clash : goal.returns-in-Err-clause-clash
returns-in-Err-clause-clash g c = λ some.
    let f = keyed_fn g.K.Keyed.prf g.K.Keyed.pad in
    let s = setup_sized c.args.docs.now.documents c.args.size.now in
    sym (labels_named c.in-Err.fault (label_clash f c.args.master.now s) (place_clash f c.args.master.now s) (c.in-Err.ensures.clash (other_kind _ _ c.in-Err.fault NoMemory some)))

pub write_index-requires-clause-labels : goal.write_index-requires-clause-labels
write_index-requires-clause-labels g c =
    subst (IsOrderOf (index_labels (keyed_fn g.K.Keyed.prf g.K.Keyed.pad) c.args.master.now (setup_sized c.args.docs.now.documents c.args.size.now))) (sym c.deref.ensures.value) c.in-Ok.ensures.order

pub write_index-requires-clause-block_ranks : goal.write_index-requires-clause-block_ranks
write_index-requires-clause-block_ranks g c = c.deref-in-Ok-distinct_ranks.ensures.value ∙ c.in-Ok-distinct_ranks.ensures.ranks

pub returns-in-Ok-distinct_ranks-clause-clash : goal.returns-in-Ok-distinct_ranks-clause-clash
returns-in-Ok-distinct_ranks-clause-clash g c = λ _.
    let f = keyed_fn g.K.Keyed.prf g.K.Keyed.pad in
    let s = setup_sized c.args.docs.now.documents c.args.size.now in
    let labels = label_clash f c.args.master.now s in
    let places = place_clash f c.args.master.now s in
    let no_labels = unmapped (λ entries. LabelClash entries.0 entries.1) labels (sym (c.in-Ok.ensures.clash (λ e. cc))) in
    let no_places = unmapped (λ blocks. PlaceClash blocks.0 blocks.1) places (sym (c.in-Ok-distinct_ranks.ensures.clash (λ e. cc))) in
    sym (λ i. first_of (no_labels i) (no_places i))

pub returns-clause-clash : goal.returns-clause-clash
returns-clause-clash g c = λ some.
    let f = keyed_fn g.K.Keyed.prf g.K.Keyed.pad in
    let s = setup_sized c.args.docs.now.documents c.args.size.now in
    let labels = label_clash f c.args.master.now s in
    let no_labels = unmapped (λ entries. LabelClash entries.0 entries.1) labels (sym (c.in-Ok.ensures.clash (λ e. cc))) in
    sym (places_named c.in-Err-distinct_ranks.fault labels (place_clash f c.args.master.now s) no_labels (c.in-Err-distinct_ranks.ensures.clash (other_kind _ _ c.in-Err-distinct_ranks.fault NoMemory some)))
