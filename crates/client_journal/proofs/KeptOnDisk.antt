-- What a run over a journal's records leaves on the disk: the records of the journal's file are those that its recorder took, and what a
-- crash leaves of the recorder it leaves of the disk.
use Rattle.std.proofs.Common.{◌≡◌, ◌≢◌, ◌⊎◌, inl, ℕ, List, [], ◌++◌, Some, None, refl, sym, ap, ◌∙◌, subst}
use Rattle.std.specs.Prelude.{Option, option_map, IfSome}
use Rattle.std.proofs.lemmas.List.{append-nil}
use Rattle.sse_journal.proofs.FileRecords.{counted_all, gives_records, records_of_journal, settled_gives}
use Rattle.sse_journal.proofs.Moments.{goes_on_to, weakened}
use Rattle.sse_journal.specs.AnyMoment.{HasSynced, LeavesOnly}
use Rattle.sse_journal.specs.FileRecords.{records_counted, records_in_file, TakesRecords}
use Rattle.sse_journal.specs.Files.{Gives, GivesAs}
use Rattle.sse_journal.specs.declared.journal.Journal.{Journal}
use Rattle.client_journal.specs.Openings.{IsOfRecords}
use Rattle.sse_outside.specs.Kept.{Kept}
use Rattle.client_recorder.proofs.GrownRecords.{front-none}
use Rattle.client_recorder.specs.KeepsOn.{GivesFront, KeepsOn, LeavesKept}
use Rattle.client_journal.proofs.HoldsExact.{holds_exact}
use Rattle.client_journal.specs.DiskRuns.{IsExact, KeepsOnDisk, KeepsOnStarted, kept_on, records_on}

inside : {A : Type 0} (a b : A) → Some a ≡ Some b → a ≡ b
inside a b e = cc

-- a recorder that begins with a journal that takes records has those of the disk's file
pub kept_at_start : (j : Journal) (content : Option (List ℕ)) (images : List ℕ → Type 0) → TakesRecords j content images → record { records = records_counted j content; refused = [] } ≡ kept_on content
kept_at_start j content images takes = ap (λ records. record { records = records; refused = [] }) (counted_all j images content takes)

module _ {D : Type 0} (content : D → Option (List ℕ)) (images : D → List ℕ → Type 0) (moment : D → ℕ) (left_since : D → ℕ → List ℕ → Type 0) where
  -- what a recorder that holds the disk kept, is kept on the disk
  pub kept_on_disk : {R : Type 0} (disk : R → D) (kept : R → Kept) (old new : R) (first last : D) (status : ℕ) (P : Kept → Type 0) → disk old ≡ first → last ≡ disk new → kept old ≡ kept_on (content first)
      → ((image : List ℕ) → images (disk new) image → left_since (disk new) (moment (disk new)) image) → KeepsOn kept (λ r. moment (disk r)) (λ r. left_since (disk r)) old new
      → (status ≢ 6 → status ≢ 7 → (kept new ≡ kept_on (content (disk new))) × IsExact (content (disk new)) (images (disk new))) → P (kept new) → KeepsOnStarted content images moment left_since first last status P
  kept_on_disk disk kept old new first last status P is_first is_last begins counts on exact has =
      subst (λ d. KeepsOnStarted content images moment left_since d last status P) is_first
      (subst (λ d. KeepsOnStarted content images moment left_since (disk old) d status P) (sym is_last) (record {
        kept = kept new;
        has = has;
        more = on.more;
        grows = on.grows ∙ ap (λ (k : Kept). option_map (λ all. all ++ on.more) k.records) here;
        meanwhile = by (content (disk old)) (subst (λ (k : Kept). IfSome k.records (λ before. LeavesOnly (λ r. moment (disk r)) (λ r. left_since (disk r)) old new (GivesFront before (on.more ++ (kept new).refused)))) here on.meanwhile);
        leaves = now (kept new).records on.leaves;
        exact = exact;
      }))
    where
      here : kept old ≡ kept_on (content (disk old))
      here = begins ∙ ap (λ d. kept_on (content d)) (sym is_first)

      by : (held : Option (List ℕ)) → IfSome (records_on held) (λ before. LeavesOnly (λ r. moment (disk r)) (λ r. left_since (disk r)) old new (GivesFront before (on.more ++ (kept new).refused)))
          → IfSome held (λ file. LeavesOnly moment left_since (disk old) (disk new) (GivesFront (records_in_file file) (on.more ++ (kept new).refused)))
      by None leaves = tt
      by (Some file) leaves = record { begins = leaves.begins; later = leaves.later; since = leaves.since }

      now : (records : Option (List (List ℕ))) → IfSome records (λ all. (image : List ℕ) → left_since (disk new) (moment (disk new)) image → Gives all image ⊎ Gives (all ++ (kept new).refused) image)
          → IfSome records (λ all. (image : List ℕ) → images (disk new) image → Gives all image ⊎ Gives (all ++ (kept new).refused) image)
      now None leaves = tt
      now (Some all) leaves = λ image is. leaves image (counts image is)

  -- a disk of a journal that was only read keeps what it had
  pub kept_still : (first second : D) (status : ℕ) (P : Kept → Type 0) (j : Journal) → IfSome (content first) (λ file. IsOfRecords j (content first) (images first)) → IfSome (content second) (λ file. IsOfRecords j (content second) (images second))
      → content second ≡ content first → LeavesOnly moment left_since first second (images first) → P (kept_on (content first)) → KeepsOnStarted content images moment left_since first second status P
  kept_still first second status P j holds still same quiet has = record {
    kept = kept_on (content first);
    has = has;
    more = [];
    grows = nothing (records_on (content first));
    meanwhile = by (content first) refl holds;
    leaves = now (content first) (content second) refl same still;
    exact = λ disk memory. (ap kept_on (sym same), holds_exact j (content second) (images second) still);
  }
    where
      nothing : (records : Option (List (List ℕ))) → records ≡ option_map (λ all. all ++ []) records
      nothing None = refl
      nothing (Some all) = ap (λ a. Some a) (sym (append-nil all))

      by : (held : Option (List ℕ)) → content first ≡ held → IfSome held (λ file. IsOfRecords j (content first) (images first)) → IfSome held (λ file. LeavesOnly moment left_since first second (GivesFront (records_in_file file) ([] ++ [])))
      by None is of = tt
      by (Some file) is of =
          let records : records_in_file file ≡ of.0 = inside (records_in_file file) of.0 (sym (ap records_on is) ∙ records_of_journal of.0 j (content first) (images first) of.1) in
          weakened moment left_since first second (images first) (GivesFront (records_in_file file) []) (λ image left. front-none (records_in_file file) [] image (subst (λ all. Gives all image) (sym records) (settled_gives of.0 j (content first) (images first) of.1 image left))) quiet

      now : (held held' : Option (List ℕ)) → content first ≡ held → held' ≡ held → IfSome held' (λ file. IsOfRecords j (content second) (images second)) → LeavesKept (kept_on held) (images second)
      now None held' is same' of = tt
      now (Some file) None is same' of = absurd (cc)
      now (Some file) (Some file') is same' of = λ image left.
          let records : records_in_file file ≡ of.0 = inside (records_in_file file) of.0 (sym (ap records_on (same ∙ is)) ∙ records_of_journal of.0 j (content second) (images second) of.1) in
          inl (subst (λ all. Gives all image) (sym records) (settled_gives of.0 j (content second) (images second) of.1 image left))

  module _ (first second third : D) (status : ℕ) (P : Kept → Type 0) where
    -- over a disk that was only read before
    pub behind_reading : (j : Journal) → IfSome (content first) (λ file. IsOfRecords j (content first) (images first)) → content second ≡ content first → LeavesOnly moment left_since first second (images first)
        → KeepsOnStarted content images moment left_since second third status P → KeepsOnStarted content images moment left_since first third status P
    behind_reading j holds same quiet on = record {
      kept = on.kept;
      has = on.has;
      more = on.more;
      grows = on.grows ∙ ap (λ c. option_map (λ all. all ++ on.more) (records_on c)) same;
      meanwhile = by (content first) refl holds (subst (λ c. IfSome c (λ file. LeavesOnly moment left_since second third (GivesFront (records_in_file file) (on.more ++ on.kept.refused)))) same on.meanwhile);
      leaves = on.leaves;
      exact = on.exact;
    }
      where
        by : (held : Option (List ℕ)) → content first ≡ held → IfSome held (λ file. IsOfRecords j (content first) (images first))
            → IfSome held (λ file. LeavesOnly moment left_since second third (GivesFront (records_in_file file) (on.more ++ on.kept.refused)))
            → IfSome held (λ file. LeavesOnly moment left_since first third (GivesFront (records_in_file file) (on.more ++ on.kept.refused)))
        by None is of leaves = tt
        by (Some file) is of leaves =
            let records : records_in_file file ≡ of.0 = inside (records_in_file file) of.0 (sym (ap records_on is) ∙ records_of_journal of.0 j (content first) (images first) of.1) in
            let P' = GivesFront (records_in_file file) (on.more ++ on.kept.refused) in
            goes_on_to moment left_since first second third P'
            (weakened moment left_since first second (images first) P' (λ image left. front-none (records_in_file file) (on.more ++ on.kept.refused) image
            (subst (λ all. Gives all image) (sym records) (settled_gives of.0 j (content first) (images first) of.1 image left))) quiet) leaves

    -- over one whose journal was started before
    pub behind_start : (Q : Kept → Type 0) → ((kept : Kept) → P kept → Q kept) → IfSome (content first) (λ file. Gives (records_in_file file) file) → records_on (content second) ≡ records_on (content first)
        → HasSynced content images moment left_since first second GivesAs → KeepsOnStarted content images moment left_since second third status P → KeepsOnDisk content images moment left_since first third status Q
    behind_start Q then gives same started on = record {
      kept = on.kept;
      has = then on.kept on.has;
      more = on.more;
      grows = on.grows ∙ ap (option_map (λ all. all ++ on.more)) same;
      meanwhile = record { synced = started.synced; reads = started.reads; durable = started.durable; before = started.before; after = by (content first) (content second) same gives started.after on.meanwhile };
      leaves = on.leaves;
      exact = on.exact;
    }
      where
        by : (held held' : Option (List ℕ)) → records_on held' ≡ records_on held → IfSome held (λ file. Gives (records_in_file file) file)
            → IfSome held (λ file. LeavesOnly moment left_since started.synced second (GivesAs file))
            → IfSome held' (λ file. LeavesOnly moment left_since second third (GivesFront (records_in_file file) (on.more ++ on.kept.refused)))
            → IfSome held (λ file. LeavesOnly moment left_since started.synced third (GivesFront (records_in_file file) (on.more ++ on.kept.refused)))
        by None held' is of one two = tt
        by (Some file) None is of one two = absurd (cc)
        by (Some file) (Some file') is of one two =
            let records : records_in_file file' ≡ records_in_file file = inside (records_in_file file') (records_in_file file) is in
            let P' = GivesFront (records_in_file file) (on.more ++ on.kept.refused) in
            goes_on_to moment left_since started.synced second third P'
            (weakened moment left_since started.synced second (GivesAs file) P' (λ image gives_as. front-none (records_in_file file) (on.more ++ on.kept.refused) image (gives_as (records_in_file file) of)) one)
            (weakened moment left_since second third (GivesFront (records_in_file file') (on.more ++ on.kept.refused)) P' (λ image g. subst (λ all. GivesFront all (on.more ++ on.kept.refused) image) records g) two)

-- the records of a file that gives some are those
pub gives_own : (content : Option (List ℕ)) (P : List ℕ → Type 0) → ((file : List ℕ) → P file → (payloads : List (List ℕ)) × Gives payloads file) → IfSome content P → IfSome content (λ file. Gives (records_in_file file) file)
gives_own None P given holds = tt
gives_own (Some file) P given holds =
    let g = given file holds in
    subst (λ all. Gives all file) (sym (gives_records g.0 file g.1)) g.1
