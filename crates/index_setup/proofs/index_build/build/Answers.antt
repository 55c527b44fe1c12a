use Rattle.std.proofs.Common.{◌≡◌, sym, subst, ◌∙◌}
use Rattle.std.specs.Prelude.{Err, IfOk, IfSome, option_map}
use Rattle.keyed_fn.specs.KeyedFn.{keyed_fn}
use Rattle.client_registry.specs.Acceptance.{size_refusal}
use Rattle.client_registry.specs.Setup.{setup_with}
use Rattle.index_setup.specs.Entries.{array_bytes, dictionary_bytes}
use Rattle.index_setup.specs.Refused.{clash_refusal, refused_by_size}
use Rattle.index_setup.proofs.AcceptedLaws.{none_of_ok, sized_as, IsSizeOf-told}
use Rattle.index_setup.proofs.BuildErrors.{accepted_by, built_unless, fails_by, second_none}
use Rattle.index_setup.proofs.index_build.build.Goals as goal

pub build_sized-requires : goal.build_sized-requires
build_sized-requires g c =
    let told = c.in_ok-size.ensures in
    IsSizeOf-told c.args.docs.now.documents c.args.sizes.b c.args.sizes.big c.args.sizes.pad c.in_ok-size.size told.shape told.pad told.refused told.words told.blocks told.padded_words told.padded_blocks

pub returns-clause-refused : goal.returns-clause-refused
returns-clause-refused g c =
    let none = none_of_ok (size_refusal (setup_with c.args.docs.now.documents c.args.sizes.b c.args.sizes.big c.args.sizes.pad)) c.in_ok-size.size c.in_ok-size.ensures.refused in
    subst (λ o. IfSome o (λ fault. c.build_sized.result ≡ Err (refused_by_size fault))) (sym none) tt

pub returns-clause-clash : goal.returns-clause-clash
returns-clause-clash g c = λ _ some.
    let f = keyed_fn g.K.Keyed.prf g.K.Keyed.pad in
    let s = setup_with c.args.docs.now.documents c.args.sizes.b c.args.sizes.big c.args.sizes.pad in
    let same = sized_as c.args.docs.now.documents c.args.sizes.b c.args.sizes.big c.args.sizes.pad c.in_ok-size.size c.in_ok-size.ensures.shape c.in_ok-size.ensures.pad in
    fails_by c.build_sized.result (clash_refusal f c.args.key.now s) (c.build_sized.ensures.clash some ∙ (λ i. clash_refusal f (c.prepare-master.ensures i) (same i)))

pub returns-clause-built : goal.returns-clause-built
returns-clause-built g c = λ clear.
    let f = keyed_fn g.K.Keyed.prf g.K.Keyed.pad in
    let s = setup_with c.args.docs.now.documents c.args.sizes.b c.args.sizes.big c.args.sizes.pad in
    let same = sized_as c.args.docs.now.documents c.args.sizes.b c.args.sizes.big c.args.sizes.pad c.in_ok-size.size c.in_ok-size.ensures.shape c.in_ok-size.ensures.pad in
    built_unless c.build_sized.result (λ some.
    c.build_sized.ensures.clash some ∙ (λ i. clash_refusal f (c.prepare-master.ensures i) (same i)) ∙ second_none (option_map refused_by_size (size_refusal s)) (clash_refusal f c.args.key.now s) clear)

-- nothing refuses an index that is built
pub returns-clause-accepted : goal.returns-clause-accepted
returns-clause-accepted g c =
    let f = keyed_fn g.K.Keyed.prf g.K.Keyed.pad in
    let s = setup_with c.args.docs.now.documents c.args.sizes.b c.args.sizes.big c.args.sizes.pad in
    let same = sized_as c.args.docs.now.documents c.args.sizes.b c.args.sizes.big c.args.sizes.pad c.in_ok-size.size c.in_ok-size.ensures.shape c.in_ok-size.ensures.pad in
    accepted_by f c.args.key.now s c.build_sized.result (none_of_ok (size_refusal s) c.in_ok-size.size c.in_ok-size.ensures.refused)
    (λ some. c.build_sized.ensures.clash some ∙ (λ i. clash_refusal f (c.prepare-master.ensures i) (same i)))

pub returns-clause-entries : goal.returns-clause-entries
returns-clause-entries g c =
    let f = keyed_fn g.K.Keyed.prf g.K.Keyed.pad in
    let same = sized_as c.args.docs.now.documents c.args.sizes.b c.args.sizes.big c.args.sizes.pad c.in_ok-size.size c.in_ok-size.ensures.shape c.in_ok-size.ensures.pad in
    subst (λ bytes. IfOk c.build_sized.result (λ index. index.entries ≡ bytes)) (λ i. dictionary_bytes f (c.prepare-master.ensures i) (same i)) c.build_sized.ensures.entries

pub returns-clause-array : goal.returns-clause-array
returns-clause-array g c =
    let f = keyed_fn g.K.Keyed.prf g.K.Keyed.pad in
    let same = sized_as c.args.docs.now.documents c.args.sizes.b c.args.sizes.big c.args.sizes.pad c.in_ok-size.size c.in_ok-size.ensures.shape c.in_ok-size.ensures.pad in
    subst (λ bytes. IfOk c.build_sized.result (λ index. index.array ≡ bytes)) (λ i. array_bytes f (c.prepare-master.ensures i) (same i)) c.build_sized.ensures.array
