-- Tables for the epochs of two histories of equal leakage go together one to one: a table relabelled there and back has its own values, and
-- values that have to differ do in both or in neither.
use Rattle.std.proofs.Common.{◌≡◌, ◌≤◌, ⊎_elim, refl, sym, ap, subst, ◌∙◌, arith}
use Rattle.std.specs.Prelude.{Contains, flat_map, ◌==◌, if◌then◌else◌}
use Rattle.std.proofs.lemmas.List.Elements.{All-contains, Contains-append_cases}
use Rattle.client_registry.specs.Epochs.{begins, next_begins, AreEpochs}
use Rattle.client_registry.specs.Run.{Run, Offsets, Epochs, From, Renewed}
use Rattle.def_comparison.specs.UsedNames.{all_names}
use Rattle.def_leakage.specs.CommandLeaks.{leak}
use Rattle.def_leakage.specs.Relabelled.{relabelled}
use Rattle.sse_frames.specs.Frames.{IsBytes}
use Rattle.sse_model.specs.Drawn.{drawn, IsCollisionFree}
use Rattle.sse_model.specs.Names.{Name, Table, size_at}
use Rattle.def_relabelling.proofs.AlikeEpochs.{LeakAlike, next-same}
use Rattle.def_relabelling.proofs.CollisionFree.{collision_free_there, collision_free_back}
use Rattle.def_relabelling.proofs.EpochDraws.{AgreeAt}
use Rattle.def_relabelling.proofs.KeptValues.{relabelled_back}
use Rattle.def_relabelling.proofs.OneToOne.{relabelled-agree}
use Rattle.def_relabelling.proofs.OwnEpoch.{IsOwn, drawn_own, own_names}
use Rattle.def_relabelling.proofs.RelabelledEpochs.{relabelled-now, relabelled-before}
use Rattle.def_relabelling.proofs.SizedValues.{sized_there}
use Rattle.def_relabelling.specs.Histories.{relabelled_epochs, all_names_in, IsTableIn, IsFreeIn}
use Rattle.def_relabelling.specs.Tables.{IsTableFor}

own_epochs : (es : Epochs) (n : Name) → Contains (all_names_in es) n → n.epoch ≤ (begins es).epoch
own_epochs (From o run) n within = omega (arith, own_names o run n within)
own_epochs (Renewed before key run) n within =
    let o = next_begins before in
    ⊎_elim (λ one. omega (arith, own_epochs before n one)) (λ other. omega (arith, own_names o run n other)) (Contains-append_cases (all_names_in before) (all_names o run) n within)

-- a table without collisions stays so where it has the same values
same_free : (o : Offsets) (run : Run) (t u : Table) → ((n : Name) → n.epoch ≡ o.epoch → t n ≡ u n) → IsCollisionFree u o run → IsCollisionFree t o run
same_free o run t u agree free x y one other epoch class compared same =
    free x y one other epoch class compared (sym (agree x (own_names o run x one)) ∙ same ∙ agree y (own_names o run y other))

-- and so does one whose values have the sizes of their names
pub same_sizes : (o : Offsets) (run : Run) (t u : Table) → AgreeAt o.epoch t u → IsTableFor u o run → IsTableFor t o run
same_sizes o run t u agree values n within =
    subst (IsBytes (size_at run.setup.shape n.kind n.number)) (sym (agree n (All-contains (IsOwn o.epoch) (flat_map (λ ns. ns) (drawn o run)) n (drawn_own o run) within))) (values n within)

-- the relabelled table depends on no values but those at the names of the first history
relabelled_epochs-agree : (es other : Epochs) (t u : Table) → ((n : Name) → n.epoch ≤ (begins es).epoch → t n ≡ u n) → (n : Name)
    → relabelled_epochs es other t n ≡ relabelled_epochs es other u n
relabelled_epochs-agree (From o run) (From o2 other) t u agree n = relabelled-agree o run other t u (λ x within. agree x (omega (arith, own_names o run x within))) n
relabelled_epochs-agree (From o run) (Renewed before2 key2 other) t u agree n = refl
relabelled_epochs-agree (Renewed before key run) (From o2 other) t u agree n = refl
relabelled_epochs-agree (Renewed before key run) (Renewed before2 key2 other) t u agree n =
    let o = next_begins before in
    λ i. if n.epoch == o.epoch then relabelled-agree o run other t u (λ x within. agree x (omega (arith, own_names o run x within))) n i
    else relabelled_epochs-agree before before2 t u (λ x le. agree x (omega (arith, le))) n i

-- Promise P150, also here
-- relabelled there and back
pub relabelled_back-epochs : (es other : Epochs) (t : Table) → LeakAlike es other → AreEpochs es → AreEpochs other → IsTableIn t es → (n : Name)
    → Contains (all_names_in es) n → relabelled_epochs other es (relabelled_epochs es other t) n ≡ t n
relabelled_back-epochs (From o run) (From o2 other) t alike are are2 values n within =
    ap (λ (p : Offsets). relabelled p other run (relabelled o run other t) n) (sym alike.0)
    ∙ relabelled_back o run other t are are2 (alike.1 ∙ ap (λ (p : Offsets). leak p other) (sym alike.0)) values n within
relabelled_back-epochs (From o run) (Renewed before2 key2 other) t alike are are2 values n within = absurd alike
relabelled_back-epochs (Renewed before key run) (From o2 other) t alike are are2 values n within = absurd alike
relabelled_back-epochs (Renewed before key run) (Renewed before2 key2 other) t alike are are2 values n within =
    ⊎_elim (λ here. earlier here (relabelled_back-epochs before before2 t alike.0 are.0 are2.0 values.0 n here)) now (Contains-append_cases (all_names_in before) (all_names o run) n within)
  where
    o : Offsets
    o = next_begins before

    o2 : Offsets
    o2 = next_begins before2

    same : o ≡ o2
    same = next-same before before2 alike.0

    same_epoch : o.epoch ≡ o2.epoch
    same_epoch = ap (λ (p : Offsets). p.epoch) same

    m : Table
    m = relabelled_epochs (Renewed before key run) (Renewed before2 key2 other) t

    now : Contains (all_names o run) n → relabelled_epochs (Renewed before2 key2 other) (Renewed before key run) m n ≡ t n
    now here =
        relabelled-now before2 before key2 key other run m n (own_names o run n here ∙ same_epoch)
        ∙ ap (λ (p : Offsets). relabelled p other run m n) (sym same)
        ∙ relabelled-agree o other run m (relabelled o run other t) (λ x in_names. relabelled-now before before2 key key2 run other t x (own_names o other x in_names)) n
        ∙ relabelled_back o run other t are.2 are2.2 (alike.1 ∙ ap (λ (p : Offsets). leak p other) (sym same)) values.1 n here

    earlier : Contains (all_names_in before) n → relabelled_epochs before2 before (relabelled_epochs before before2 t) n ≡ t n
        → relabelled_epochs (Renewed before2 key2 other) (Renewed before key run) m n ≡ t n
    earlier here had =
        let e : o.epoch ≡ o2.epoch = same_epoch in
        let below : n.epoch ≤ (begins before).epoch = own_epochs before n here in
        relabelled-before before2 before key2 key other run m n (omega (arith, below, e))
        ∙ relabelled_epochs-agree before2 before m (relabelled_epochs before before2 t) (λ x le. relabelled-before before before2 key key2 run other t x (omega (arith, le, e))) n
        ∙ had

free_before : (es : Epochs) (u v : Table) → ((n : Name) → n.epoch ≤ (begins es).epoch → u n ≡ v n) → IsFreeIn v es → IsFreeIn u es
free_before (From o run) u v agree is = same_free o run u v (λ n e. agree n (omega (arith, e))) is
free_before (Renewed before key run) u v agree is =
    (free_before before u v (λ n le. agree n (omega (arith, le))) is.0, same_free (next_begins before) run u v (λ n e. agree n (omega (arith, e))) is.1)

sized_before : (es : Epochs) (u v : Table) → ((n : Name) → n.epoch ≤ (begins es).epoch → u n ≡ v n) → IsTableIn v es → IsTableIn u es
sized_before (From o run) u v agree is = same_sizes o run u v (λ n e. agree n (omega (arith, e))) is
sized_before (Renewed before key run) u v agree is =
    (sized_before before u v (λ n le. agree n (omega (arith, le))) is.0, same_sizes (next_begins before) run u v (λ n e. agree n (omega (arith, e))) is.1)

-- Promise P152, also here
-- the relabelled table gives each drawn name of the other history a value of its size
pub sized_there-epochs : (es other : Epochs) (t : Table) → LeakAlike es other → AreEpochs es → AreEpochs other → IsTableIn t es
    → IsTableIn (relabelled_epochs es other t) other
sized_there-epochs (From o run) (From o2 other) t alike are are2 values =
    subst (λ (p : Offsets). IsTableFor (relabelled o run other t) p other) alike.0
    (sized_there o run other t are are2 (alike.1 ∙ ap (λ (p : Offsets). leak p other) (sym alike.0)) values)
sized_there-epochs (From o run) (Renewed before2 key2 other) t alike are are2 values = absurd alike
sized_there-epochs (Renewed before key run) (From o2 other) t alike are are2 values = absurd alike
sized_there-epochs (Renewed before key run) (Renewed before2 key2 other) t alike are are2 values =
    let o = next_begins before in
    let m = relabelled_epochs (Renewed before key run) (Renewed before2 key2 other) t in
    let same : o ≡ next_begins before2 = next-same before before2 alike.0 in
    let e : o.epoch ≡ (next_begins before2).epoch = ap (λ (p : Offsets). p.epoch) same in (
      sized_before before2 m (relabelled_epochs before before2 t) (λ n le. relabelled-before before before2 key key2 run other t n (omega (arith, le, e)))
          (sized_there-epochs before before2 t alike.0 are.0 are2.0 values.0),
      subst (λ (p : Offsets). IsTableFor m p other) same
          (same_sizes o other m (relabelled o run other t) (relabelled-now before before2 key key2 run other t)
          (sized_there o run other t are.2 are2.2 (alike.1 ∙ ap (λ (p : Offsets). leak p other) (sym same)) values.1)),
    )

-- Promise P150, also here
-- without collisions for the first, and so for the other under the relabelled table
pub free_there-epochs : (es other : Epochs) (t : Table) → LeakAlike es other → AreEpochs es → AreEpochs other → IsFreeIn t es
    → IsFreeIn (relabelled_epochs es other t) other
free_there-epochs (From o run) (From o2 other) t alike are are2 free =
    subst (λ (p : Offsets). IsCollisionFree (relabelled o run other t) p other) alike.0
    (collision_free_there o run other t are are2 (alike.1 ∙ ap (λ (p : Offsets). leak p other) (sym alike.0)) free)
free_there-epochs (From o run) (Renewed before2 key2 other) t alike are are2 free = absurd alike
free_there-epochs (Renewed before key run) (From o2 other) t alike are are2 free = absurd alike
free_there-epochs (Renewed before key run) (Renewed before2 key2 other) t alike are are2 free =
    let o = next_begins before in
    let m = relabelled_epochs (Renewed before key run) (Renewed before2 key2 other) t in
    let same : o ≡ next_begins before2 = next-same before before2 alike.0 in
    let e : o.epoch ≡ (next_begins before2).epoch = ap (λ (p : Offsets). p.epoch) same in (
      free_before before2 m (relabelled_epochs before before2 t) (λ n le. relabelled-before before before2 key key2 run other t n (omega (arith, le, e)))
          (free_there-epochs before before2 t alike.0 are.0 are2.0 free.0),
      subst (λ (p : Offsets). IsCollisionFree m p other) same
          (same_free o other m (relabelled o run other t) (relabelled-now before before2 key key2 run other t)
          (collision_free_there o run other t are.2 are2.2 (alike.1 ∙ ap (λ (p : Offsets). leak p other) (sym same)) free.1)),
    )

-- Promise P150, also here
-- and back
pub free_back-epochs : (es other : Epochs) (t : Table) → LeakAlike es other → AreEpochs es → AreEpochs other → IsTableIn t es
    → IsFreeIn (relabelled_epochs es other t) other → IsFreeIn t es
free_back-epochs (From o run) (From o2 other) t alike are are2 values free =
    collision_free_back o run other t are are2 (alike.1 ∙ ap (λ (p : Offsets). leak p other) (sym alike.0)) values
    (subst (λ (p : Offsets). IsCollisionFree (relabelled o run other t) p other) (sym alike.0) free)
free_back-epochs (From o run) (Renewed before2 key2 other) t alike are are2 values free = absurd alike
free_back-epochs (Renewed before key run) (From o2 other) t alike are are2 values free = absurd alike
free_back-epochs (Renewed before key run) (Renewed before2 key2 other) t alike are are2 values free =
    let o = next_begins before in
    let m = relabelled_epochs (Renewed before key run) (Renewed before2 key2 other) t in
    let same : o ≡ next_begins before2 = next-same before before2 alike.0 in
    let e : o.epoch ≡ (next_begins before2).epoch = ap (λ (p : Offsets). p.epoch) same in (
      free_back-epochs before before2 t alike.0 are.0 are2.0 values.0
          (free_before before2 (relabelled_epochs before before2 t) m (λ n le. sym (relabelled-before before before2 key key2 run other t n (omega (arith, le, e)))) free.0),
      collision_free_back o run other t are.2 are2.2 (alike.1 ∙ ap (λ (p : Offsets). leak p other) (sym same)) values.1
          (same_free o other (relabelled o run other t) m (λ n is. sym (relabelled-now before before2 key key2 run other t n is))
          (subst (λ (p : Offsets). IsCollisionFree m p other) (sym same) free.1)),
    )
