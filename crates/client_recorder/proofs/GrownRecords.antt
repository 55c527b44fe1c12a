-- What is kept goes on: from a moment at rest nothing changes of itself, and what was kept between two moments and then on to a third.
use Rattle.std.proofs.Common.{◌≡◌, ◌⊎◌, inl, ℕ, List, [], ◌++◌, Some, None, refl, sym, ap, ◌∙◌, subst, append_assoc}
use Rattle.std.specs.Prelude.{Option, option_map, IfSome}
use Rattle.std.proofs.lemmas.List.{append-nil}
use Rattle.sse_journal.proofs.Moments.{goes_on_to, started, weakened}
use Rattle.sse_journal.specs.AnyMoment.{LeavesOnly}
use Rattle.sse_journal.specs.Files.{Gives}
use Rattle.sse_outside.specs.Kept.{Kept}
use Rattle.client_recorder.specs.KeepsOn.{GivesFront, IsAtRest, KeepsOn}

inside : (a b : List (List ℕ)) → Some a ≡ Some b → a ≡ b
inside a b e = cc

-- the records and the first of some are the records, where none of these is there
pub front-none : (before more : List (List ℕ)) (image : List ℕ) → Gives before image → GivesFront before more image
front-none before more image gives = record { front = []; back = more; parts = refl; gives = subst (λ all. Gives all image) (sym (append-nil before)) gives }

module _ {R : Type 0} (kept : R → Kept) (moment : R → ℕ) (left_since : R → ℕ → List ℕ → Type 0) where
  -- at rest
  pub keeps-same : (r : R) → IsAtRest (kept r) (left_since r (moment r)) → KeepsOn kept moment left_since r r
  keeps-same r rest = record {
    more = [];
    grows = nothing (kept r).records;
    meanwhile = stays (kept r).records rest.leaves;
    leaves = now (kept r).records rest.leaves;
  }
    where
      nothing : (records : Option (List (List ℕ))) → records ≡ option_map (λ all. all ++ []) records
      nothing None = refl
      nothing (Some all) = ap (λ a. Some a) (sym (append-nil all))

      stays : (records : Option (List (List ℕ))) → IfSome records (λ all. (image : List ℕ) → left_since r (moment r) image → Gives all image)
          → IfSome records (λ before. LeavesOnly moment left_since r r (GivesFront before ([] ++ (kept r).refused)))
      stays None leaves = tt
      stays (Some all) leaves = started moment left_since r (GivesFront all (kept r).refused) (λ image left. front-none all (kept r).refused image (leaves image left))

      now : (records : Option (List (List ℕ))) → IfSome records (λ all. (image : List ℕ) → left_since r (moment r) image → Gives all image)
          → IfSome records (λ all. (image : List ℕ) → left_since r (moment r) image → Gives all image ⊎ Gives (all ++ (kept r).refused) image)
      now None leaves = tt
      now (Some all) leaves = λ image left. inl (leaves image left)

  -- a call, or none
  pub keeps-still : (a b : R) → b ≡ a → IsAtRest (kept a) (left_since a (moment a)) → KeepsOn kept moment left_since a b
  keeps-still a b same rest = subst (KeepsOn kept moment left_since a) (sym same) (keeps-same a rest)

  -- one call behind another
  pub keeps-then : (a b c : R) → KeepsOn kept moment left_since a b → (kept b).refused ≡ [] → KeepsOn kept moment left_since b c → KeepsOn kept moment left_since a c
  keeps-then a b c first none second = record {
    more = first.more ++ second.more;
    grows = second.grows ∙ ap (option_map (λ all. all ++ second.more)) first.grows ∙ twice (kept a).records;
    meanwhile = by (kept a).records (kept b).records first.grows first.meanwhile second.meanwhile;
    leaves = second.leaves;
  }
    where
      twice : (records : Option (List (List ℕ))) → option_map (λ all. all ++ second.more) (option_map (λ all. all ++ first.more) records) ≡ option_map (λ all. all ++ (first.more ++ second.more)) records
      twice None = refl
      twice (Some all) = ap (λ a. Some a) (append_assoc all first.more second.more)

      earlier : (before : List (List ℕ)) (image : List ℕ) → GivesFront before (first.more ++ (kept b).refused) image → GivesFront before ((first.more ++ second.more) ++ (kept c).refused) image
      earlier before image g = record {
        front = g.front;
        back = g.back ++ (second.more ++ (kept c).refused);
        parts =
            append_assoc first.more second.more (kept c).refused
            ∙ ap (λ records. records ++ (second.more ++ (kept c).refused)) (sym (append-nil first.more) ∙ ap (λ r. first.more ++ r) (sym none) ∙ g.parts)
            ∙ append_assoc g.front g.back (second.more ++ (kept c).refused);
        gives = g.gives;
      }

      later : (before : List (List ℕ)) (image : List ℕ) → GivesFront (before ++ first.more) (second.more ++ (kept c).refused) image → GivesFront before ((first.more ++ second.more) ++ (kept c).refused) image
      later before image g = record {
        front = first.more ++ g.front;
        back = g.back;
        parts =
            append_assoc first.more second.more (kept c).refused
            ∙ ap (λ records. first.more ++ records) g.parts
            ∙ sym (append_assoc first.more g.front g.back);
        gives = subst (λ all. Gives all image) (append_assoc before first.more g.front) g.gives;
      }

      by : (old mid : Option (List (List ℕ))) → mid ≡ option_map (λ all. all ++ first.more) old
          → IfSome old (λ before. LeavesOnly moment left_since a b (GivesFront before (first.more ++ (kept b).refused)))
          → IfSome mid (λ before. LeavesOnly moment left_since b c (GivesFront before (second.more ++ (kept c).refused)))
          → IfSome old (λ before. LeavesOnly moment left_since a c (GivesFront before ((first.more ++ second.more) ++ (kept c).refused)))
      by None mid grows one two = tt
      by (Some before) None grows one two = absurd (cc)
      by (Some before) (Some between) grows one two =
          let same : between ≡ before ++ first.more = inside between (before ++ first.more) grows in
          goes_on_to moment left_since a b c (GivesFront before ((first.more ++ second.more) ++ (kept c).refused))
          (weakened moment left_since a b (GivesFront before (first.more ++ (kept b).refused)) (GivesFront before ((first.more ++ second.more) ++ (kept c).refused)) (earlier before) one)
          (weakened moment left_since b c (GivesFront between (second.more ++ (kept c).refused)) (GivesFront before ((first.more ++ second.more) ++ (kept c).refused))
          (λ image g. later before image (subst (λ records. GivesFront records (second.more ++ (kept c).refused) image) same g)) two)
