-- What each of the two writes of an append may leave.
use Rattle.std.proofs.Common.{◌≡◌, ◌≢◌, inl, inr, ℕ, ◌+◌, ◌<◌, ◌≤◌, List, [], ◌∷◌, ◌++◌, length, get_or, take, drop, refl, sym, ◌∙◌, ap, arith, append_assoc, length-append, take-append-drop}
use Rattle.std.specs.Prelude.{All, flat_map}
use Rattle.std.proofs.lemmas.List.{take_at, drop_at, drop_more, take_all, drop_all, append-nil, ext_get_or, length-take, length-drop, get_or-take, get_or-drop}
use Rattle.std.proofs.lemmas.Bool.{cases_eq}
use Rattle.std.proofs.lemmas.List.Elements.{All-push as all_push}
use Rattle.std.proofs.lemmas.Grind.{flat_map-append}
use Rattle.sse_outside.specs.Images.{Torn, Shortened}
use Rattle.sse_journal.specs.Files.{magic, framed, record_bytes, front, file, IsPayload, Gives, GivesWithOrWithout}

pub length-around : (xs : List ℕ) (x : ℕ) (ys : List ℕ) → length (xs ++ x ∷ ys) ≡ length xs + (1 + length ys)
length-around xs x ys = omega (arith, length-append xs (x ∷ ys))

-- the same in front of a torn range
pub torn_front : (at n : ℕ) (d c : List ℕ) → Torn at n d c → at ≤ length d → take at c ≡ take at d
torn_front at n d c torn le =
    ext_get_or 0 (take at c) (take at d) (omega (arith, length-take at c, length-take at d, torn.no_shorter)) (λ i lt.
    get_or-take at c i 0 (omega (arith, lt, length-take at c)) ∙ torn.same i (omega (arith, lt, le, length-take at c)) (inl (omega (arith, lt, length-take at c))) ∙ sym (get_or-take at d i 0 (omega (arith, lt, length-take at c))))

-- the same after it, where it lies within
pub torn_behind : (at n : ℕ) (d c : List ℕ) → Torn at n d c → at + n ≤ length d → drop (at + n) c ≡ drop (at + n) d
torn_behind at n d c torn le =
    ext_get_or 0 (drop (at + n) c) (drop (at + n) d) (omega (arith, length-drop (at + n) c, length-drop (at + n) d, torn.no_shorter, torn.no_longer, le)) (λ i lt.
    get_or-drop (at + n) c i 0 ∙ torn.same (at + n + i) (omega (arith, lt, length-drop (at + n) c, torn.no_longer, le)) (inr (omega arith)) ∙ sym (get_or-drop (at + n) d i 0))

-- the front of a file with one record more
pub front_push : (payloads : List (List ℕ)) (payload : List ℕ) → front payloads ++ record_bytes payload ≡ front (payloads ++ payload ∷ [])
unfolding front
front_push payloads payload =
    append_assoc magic (flat_map record_bytes payloads) (record_bytes payload)
    ∙ ap (λ (l : List ℕ). magic ++ l) (ap (λ (l : List ℕ). flat_map record_bytes payloads ++ l) (sym (append-nil (record_bytes payload))) ∙ sym (flat_map-append record_bytes payloads (payload ∷ [])))

-- the file with a record after its closed commit
abbrev pub staged : List (List ℕ) → List ℕ → List ℕ
staged payloads payload = front payloads ++ 0 ∷ (framed payload ++ 0 ∷ [])

pub length-staged : (payloads : List (List ℕ)) (payload : List ℕ) → length (staged payloads payload) ≡ length (front payloads) + (1 + length (framed payload ++ 0 ∷ []))
length-staged payloads payload = length-around (front payloads) 0 (framed payload ++ 0 ∷ [])

module _ (payloads : List (List ℕ)) (are : All IsPayload payloads) (payload : List ℕ) (is : IsPayload payload) where
  -- a torn write after the closed commit leaves the records
  pub behind_commit : (n : ℕ) (c : List ℕ) → Torn (length (front payloads) + 1) n (file payloads) c → Gives payloads c
  behind_commit n c torn = inr (record {
    payloads_are = are;
    commit = 0;
    tail = drop (length (front payloads) + 1) c;
    are = whole;
    unset = λ is_set. absurd (omega (arith, is_set));
  })
    where
      size : length (file payloads) ≡ length (front payloads) + 1
      size = length-append (front payloads) (0 ∷ [])

      whole : c ≡ front payloads ++ 0 ∷ drop (length (front payloads) + 1) c
      whole =
          sym (take-append-drop (length (front payloads) + 1) c)
          ∙ ap (λ (l : List ℕ). l ++ drop (length (front payloads) + 1) c) (torn_front _ n (file payloads) c torn (omega (arith, size)) ∙ take_all _ (file payloads) (omega (arith, size)))
          ∙ append_assoc (front payloads) (0 ∷ []) (drop (length (front payloads) + 1) c)

  -- the record stands whole after its commit, whatever a torn write leaves there
  pub at_commit : (c : List ℕ) → Torn (length (front payloads)) 1 (staged payloads payload) c → GivesWithOrWithout payloads payload c
  at_commit c torn = elim (cases_eq commit 1) [
    | inl is_set ↦ inr (inr (record {
      payloads_are = All-push;
      commit = 0;
      tail = [];
      are = whole ∙ ap (λ (g : ℕ). front payloads ++ g ∷ (framed payload ++ 0 ∷ [])) is_set ∙ one_more;
      unset = λ is_set_too. absurd (omega (arith, is_set_too));
    }))
    | inr not_set ↦ inl (inr (record {
      payloads_are = are;
      commit = commit;
      tail = framed payload ++ 0 ∷ [];
      are = whole;
      unset = λ is_set. absurd (not_set is_set);
    }))
  ]
    where
      commit : ℕ
      commit = get_or c (length (front payloads)) 0

      long : length (staged payloads payload) ≡ length (front payloads) + (1 + length (framed payload ++ 0 ∷ []))
      long = length-staged payloads payload

      back : drop (length (front payloads) + 1) (staged payloads payload) ≡ framed payload ++ 0 ∷ []
      back = ap (λ (l : List ℕ). drop (length (front payloads) + 1) l) (sym (append_assoc (front payloads) (0 ∷ []) (framed payload ++ 0 ∷ [])))
          ∙ drop_at (front payloads ++ 0 ∷ []) (framed payload ++ 0 ∷ []) (length (front payloads) + 1) (length-append (front payloads) (0 ∷ []))

      whole : c ≡ front payloads ++ commit ∷ (framed payload ++ 0 ∷ [])
      whole =
          sym (take-append-drop (length (front payloads)) c)
          ∙ ap (λ (l : List ℕ). l ++ drop (length (front payloads)) c) (torn_front _ 1 (staged payloads payload) c torn (omega (arith, long)) ∙ take_at (front payloads) _ (length (front payloads)) refl)
          ∙ ap (λ (l : List ℕ). front payloads ++ l) (drop_more c (length (front payloads)) 0 (omega (arith, long, torn.no_shorter)) ∙ ap (λ (l : List ℕ). commit ∷ l) (torn_behind (length (front payloads)) 1 (staged payloads payload) c torn (omega (arith, long)) ∙ back))

      one_more : front payloads ++ 1 ∷ (framed payload ++ 0 ∷ []) ≡ front (payloads ++ payload ∷ []) ++ 0 ∷ []
      one_more =
          sym (append_assoc (front payloads) (record_bytes payload) (0 ∷ []))
          ∙ ap (λ (l : List ℕ). l ++ 0 ∷ []) (front_push payloads payload)

      All-push : All IsPayload (payloads ++ payload ∷ [])
      All-push = all_push IsPayload payloads payload are is

-- a cut after a closed commit that bytes follow leaves the records: the commit keeps its byte
pub cut_behind : (payloads : List (List ℕ)) (commit : ℕ) (tail c : List ℕ) → All IsPayload payloads → commit ≢ 1 → Shortened (length (front payloads) + 1) (front payloads ++ commit ∷ tail) c → Gives payloads c
cut_behind payloads commit tail c are not_set cut = inr (record {
  payloads_are = are;
  commit = commit;
  tail = drop (length (front payloads) + 1) c;
  are = whole;
  unset = λ is_set. absurd (not_set is_set);
})
  where
    at : ℕ
    at = length (front payloads) + 1

    size : length (front payloads ++ commit ∷ tail) ≡ length (front payloads) + (1 + length tail)
    size = length-around (front payloads) commit tail

    same : take at c ≡ take at (front payloads ++ commit ∷ tail)
    same = ext_get_or 0 (take at c) (take at (front payloads ++ commit ∷ tail)) (omega (arith, length-take at c, length-take at (front payloads ++ commit ∷ tail), cut.no_shorter, cut.no_longer, size)) (λ i lt.
        get_or-take at c i 0 (omega (arith, lt, length-take at c)) ∙ cut.same i (omega (arith, lt, length-take at c)) (omega (arith, lt, length-take at c)) ∙ sym (get_or-take at (front payloads ++ commit ∷ tail) i 0 (omega (arith, lt, length-take at c))))

    fronts : take at (front payloads ++ commit ∷ tail) ≡ front payloads ++ commit ∷ []
    fronts = ap (λ (l : List ℕ). take at l) (sym (append_assoc (front payloads) (commit ∷ []) tail)) ∙ take_at (front payloads ++ commit ∷ []) tail at (length-append (front payloads) (commit ∷ []))

    whole : c ≡ front payloads ++ commit ∷ drop at c
    whole = sym (take-append-drop at c) ∙ ap (λ (l : List ℕ). l ++ drop at c) (same ∙ fronts) ∙ append_assoc (front payloads) (commit ∷ []) (drop at c)

-- a torn write of a commit that is the last byte leaves the records
pub last_commit : (payloads : List (List ℕ)) (commit : ℕ) (c : List ℕ) → All IsPayload payloads → Torn (length (front payloads)) 1 (front payloads ++ commit ∷ []) c → Gives payloads c
last_commit payloads commit c are torn = inr (record {
  payloads_are = are;
  commit = get_or c (length (front payloads)) 0;
  tail = [];
  are = whole;
  unset = λ _. refl;
})
  where
    size : length (front payloads ++ commit ∷ []) ≡ length (front payloads) + 1
    size = length-append (front payloads) (commit ∷ [])

    whole : c ≡ front payloads ++ get_or c (length (front payloads)) 0 ∷ []
    whole =
        sym (take-append-drop (length (front payloads)) c)
        ∙ ap (λ (l : List ℕ). l ++ drop (length (front payloads)) c) (torn_front _ 1 _ c torn (omega (arith, size)) ∙ take_at (front payloads) (commit ∷ []) (length (front payloads)) refl)
        ∙ ap (λ (l : List ℕ). front payloads ++ l) (drop_more c (length (front payloads)) 0 (omega (arith, size, torn.no_shorter)) ∙ ap (λ (l : List ℕ). get_or c (length (front payloads)) 0 ∷ l) (drop_all (length (front payloads) + 1) c (omega (arith, size, torn.no_longer))))

pub front_nil : front [] ≡ magic
unfolding front
front_nil = refl

-- a torn write of the first eight bytes of a file that is too short leaves none
pub torn_magic : (d c : List ℕ) → length d < 9 → Torn 0 8 d c → Gives [] c
torn_magic d c short torn = inl (omega (arith, short, torn.no_longer), refl)

-- and so does a torn write of the first commit after them
pub torn_first_commit : (d c : List ℕ) → take 8 d ≡ magic → length d ≡ 8 → Torn 8 1 d c → Gives [] c
torn_first_commit d c is size torn = elim (cases_eq (length c) 8) [
  | inl eight ↦ inl (omega (arith, eight), refl)
  | inr more ↦ inr (record {
    payloads_are = all_nil;
    commit = get_or c 8 0;
    tail = [];
    are = whole (omega (arith, size, torn.no_shorter, torn.no_longer, more));
    unset = λ _. refl;
  })
]
  where
    all_nil : All IsPayload []
    all_nil = λ k p lt. absurd (omega (arith, lt))

    whole : length c ≡ 9 → c ≡ front [] ++ get_or c 8 0 ∷ []
    whole nine =
        sym (take-append-drop 8 c)
        ∙ ap (λ (l : List ℕ). l ++ drop 8 c) (torn_front 8 1 d c torn (omega (arith, size)) ∙ is ∙ sym front_nil)
        ∙ ap (λ (l : List ℕ). front [] ++ l) (drop_more c 8 0 (omega (arith, nine)) ∙ ap (λ (l : List ℕ). get_or c 8 0 ∷ l) (drop_all 9 c (omega (arith, nine))))
