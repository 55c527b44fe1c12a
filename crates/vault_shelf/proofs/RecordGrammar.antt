-- Reading a record gives its command or its mark, and what is read of bytes has that record.
use Rattle.std.proofs.Common.{◌≡◌, ⊎_elim, ℕ, suc, ◌<◌, ◌≤◌, ◌^◌, ◌==◌, Bool, true, false, List, [], ◌∷◌, ◌++◌, length, take, drop, refl, sym, ap, ◌∙◌, subst, arith, Some, None}
use Rattle.std.specs.Prelude.{get_or, nat_le, Option, IfSome, option_map, if◌then◌else◌}
use Rattle.std.specs.Int.{w64, from_be_bytes}
use Rattle.std.proofs.Math.Dec.{leb}
use Rattle.std.proofs.Math.Seq.{take-append_seam, drop-append_seam}
use Rattle.std.proofs.lemmas.Bool.{le-leb, leb-true}
use Rattle.std.proofs.lemmas.Bool.Decides.{Decides-eqb, leb_tells}
use Rattle.std.proofs.lemmas.List.{append-nil, get_or-take, get_or_past, length-append, length-take, length-take-le, take-append-drop}
use Rattle.std.proofs.lemmas.Nat.{from_be_bytes-to_be_bytes_8, be_bytes_8}
use Rattle.sse_frames.specs.Frames.{be64}
use Rattle.vault_shelf.specs.ClientRecords.{IsRecorded, command_record, mark_record}
use Rattle.vault_shelf.specs.Shelves.{VaultCommand, Put, Drop, Get}
use Rattle.vault_shelf.specs.CommandView.{command_view}
use Rattle.vault_shelf.specs.declared.vault_command.VaultCommand as code
use Rattle.vault_shelf.specs.RecordReading.{command_in, drop_in, mark_in, put_in}

abbrev pub AreBytes : List ℕ → Type 0
AreBytes bytes = (i : ℕ) → get_or bytes i 0 < 256

first_8 : (xs ys : List ℕ) → length xs ≡ 8 → take 8 (xs ++ ys) ≡ xs
first_8 xs ys e = subst (λ n. take n (xs ++ ys) ≡ xs) e (take-append_seam xs ys)

after_8 : (xs ys : List ℕ) → length xs ≡ 8 → drop 8 (xs ++ ys) ≡ ys
after_8 xs ys e = subst (λ n. drop n (xs ++ ys) ≡ ys) e (drop-append_seam xs ys)

bytes_before : (k : ℕ) (xs : List ℕ) → AreBytes xs → AreBytes (take k xs)
bytes_before k xs are i =
    ⊎_elim (λ (le : (leb k i ≡ true) × (k ≤ i)).
    subst (λ b. b < 256) (sym (get_or_past (take k xs) i 0 (omega (arith, length-take k xs, le.1)))) (omega arith))
    (λ gt. subst (λ b. b < 256) (sym (get_or-take k xs i 0 gt.1)) (are i)) (leb_tells k i)

-- an identifier of eight bytes
fits_8 : (bytes : List ℕ) (n : ℕ) → AreBytes bytes → n ≡ from_be_bytes w64 bytes → n < 2 ^ 64
fits_8 bytes n small is = omega (arith, is, small 0, small 1, small 2, small 3, small 4, small 5, small 6, small 7)

pub some_inside : {A : Type 0} (x y : A) → Some x ≡ Some y → x ≡ y
some_inside x y e = cc

pub no_some : {A B : Type 0} (x : A) → None ≡ Some x → B
no_some x e = absurd (let no : None ≡ Some x = e in cc)

-- Each record is read back.

pub command_back : (c : VaultCommand) → IsRecorded c → command_in (command_record c) ≡ Some c
command_back (Put id body) fits =
    let long : nat_le 8 (length (be64 id ++ body)) ≡ true = le-leb 8 (length (be64 id ++ body)) (omega (arith, length-append (be64 id) body)) in
    (λ i. if long i then Some (Put (from_be_bytes w64 (take 8 (be64 id ++ body))) (drop 8 (be64 id ++ body))) else None)
    ∙ (λ i. Some (Put (from_be_bytes w64 (first_8 (be64 id) body refl i)) (after_8 (be64 id) body refl i)))
    ∙ ap (λ n. Some (Put n body)) (from_be_bytes-to_be_bytes_8 id fits)
command_back (Drop id) fits = ap (λ n. Some (Drop n)) (from_be_bytes-to_be_bytes_8 id fits)
command_back (Get id) fits = absurd fits

whole_16 : (mark : List ℕ) → length mark ≡ 16 → take 16 mark ≡ mark
whole_16 mark size = subst (λ n. take n mark ≡ mark) size (ap (take (length mark)) (sym (append-nil mark)) ∙ take-append_seam mark [])

pub mark_back : (mark : List ℕ) → length mark ≡ 16 → mark_in (mark_record mark) ≡ Some mark
mark_back mark size = (λ i. if (Decides-eqb (length mark) 16).1 size i then Some (take 16 mark) else None) ∙ ap Some (whole_16 mark size)

-- What is read has the record.

record Reads (payload : List ℕ) (c : VaultCommand) : Type 0 where
  recorded : IsRecorded c
  record_is : payload ≡ command_record c

put_reads : (rest : List ℕ) (c : VaultCommand) → AreBytes (0x21 ∷ rest) → put_in rest ≡ Some c → Reads (0x21 ∷ rest) c
put_reads rest c are e = by (nat_le 8 (length rest)) refl e
  where
    its : AreBytes rest
    its i = are (suc i)

    by : (long : Bool) → nat_le 8 (length rest) ≡ long → (if long then Some (Put (from_be_bytes w64 (take 8 rest)) (drop 8 rest)) else None) ≡ Some c → Reads (0x21 ∷ rest) c
    by false l e2 = no_some c e2
    by true l e2 = subst (Reads (0x21 ∷ rest)) (some_inside (Put (from_be_bytes w64 (take 8 rest)) (drop 8 rest)) c e2) (record {
      recorded = fits_8 (take 8 rest) (from_be_bytes w64 (take 8 rest)) (bytes_before 8 rest its) refl;
      record_is = ap (λ r. 0x21 ∷ r) (sym (take-append-drop 8 rest)
          ∙ ap (λ r. r ++ drop 8 rest) (sym (be_bytes_8 (take 8 rest) (from_be_bytes w64 (take 8 rest)) (length-take-le 8 rest (leb-true 8 (length rest) l)) (bytes_before 8 rest its) refl)));
    })

drop_reads : (rest : List ℕ) (c : VaultCommand) → AreBytes (0x22 ∷ rest) → drop_in rest ≡ Some c → Reads (0x22 ∷ rest) c
drop_reads rest c are e = by (length rest == 8) refl e
  where
    its : AreBytes rest
    its i = are (suc i)

    by : (exact : Bool) → (length rest == 8) ≡ exact → (if exact then Some (Drop (from_be_bytes w64 (take 8 rest))) else None) ≡ Some c → Reads (0x22 ∷ rest) c
    by false l e2 = no_some c e2
    by true l e2 =
        let size : length rest ≡ 8 = (Decides-eqb (length rest) 8).0 l in
        let whole : take 8 rest ≡ rest = ap (take 8) (sym (append-nil rest)) ∙ first_8 rest [] size in
        subst (Reads (0x22 ∷ rest)) (some_inside (Drop (from_be_bytes w64 (take 8 rest))) c e2) (record {
          recorded = fits_8 (take 8 rest) (from_be_bytes w64 (take 8 rest)) (bytes_before 8 rest its) refl;
          record_is = ap (λ r. 0x22 ∷ r) (sym whole
              ∙ sym (be_bytes_8 (take 8 rest) (from_be_bytes w64 (take 8 rest)) (length-take-le 8 rest (omega (arith, size))) (bytes_before 8 rest its) refl));
        })

reads : (payload : List ℕ) (c : VaultCommand) → AreBytes payload → command_in payload ≡ Some c → Reads payload c
reads [] c are e = no_some c e
reads (kind ∷ rest) c are e = by (kind == 0x21) refl (kind == 0x22) refl e
  where
    by : (put : Bool) → (kind == 0x21) ≡ put → (drop : Bool) → (kind == 0x22) ≡ drop → (if put then put_in rest else if drop then drop_in rest else None) ≡ Some c → Reads (kind ∷ rest) c
    by true p drop d e2 =
        let at : kind ≡ 0x21 = (Decides-eqb kind 0x21).0 p in
        subst (λ k. Reads (k ∷ rest) c) (sym at) (put_reads rest c (subst (λ k. AreBytes (k ∷ rest)) at are) e2)
    by false p true d e2 =
        let at : kind ≡ 0x22 = (Decides-eqb kind 0x22).0 d in
        subst (λ k. Reads (k ∷ rest) c) (sym at) (drop_reads rest c (subst (λ k. AreBytes (k ∷ rest)) at are) e2)
    by false p false d e2 = no_some c e2

pub read_found : (payload : List ℕ) (found : Option code.VaultCommand) → AreBytes payload → option_map command_view found ≡ command_in payload → IfSome found (λ c. payload ≡ command_record (command_view c))
read_found payload None are e = tt
read_found payload (Some c) are e = (reads payload (command_view c) are (sym e)).record_is

-- of a mark of 16 bytes
pub record HasMark (payload mark : List ℕ) : Type 0 where
  pub record_is : payload ≡ mark_record mark
  pub size : length mark ≡ 16

pub mark_found : (payload mark : List ℕ) → Some mark ≡ mark_in payload → HasMark payload mark
mark_found [] mark e = no_some mark (sym e)
mark_found (kind ∷ rest) mark e = by (kind == 0x23) refl (length rest == 16) refl e
  where
    by : (is : Bool) → (kind == 0x23) ≡ is → (sized : Bool) → (length rest == 16) ≡ sized → Some mark ≡ (if is then (if sized then Some (take 16 rest) else None) else None) → HasMark (kind ∷ rest) mark
    by false k sized s e2 = no_some mark (sym e2)
    by true k false s e2 = no_some mark (sym e2)
    by true k true s e2 =
        let size : length rest ≡ 16 = (Decides-eqb (length rest) 16).0 s in
        let same : rest ≡ mark = sym (whole_16 rest size) ∙ some_inside (take 16 rest) mark (sym e2) in
        record { record_is = (λ i. (Decides-eqb kind 0x23).0 k i ∷ same i); size = sym (ap length same) ∙ size }

-- So bytes are the record of one command alone.
pub one_command : (c d : VaultCommand) → IsRecorded c → IsRecorded d → command_record c ≡ command_record d → c ≡ d
one_command c d fits fits2 e = some_inside c d (sym (command_back c fits) ∙ ap command_in e ∙ command_back d fits2)

pub one_mark : (m n : List ℕ) → length m ≡ 16 → length n ≡ 16 → mark_record m ≡ mark_record n → m ≡ n
one_mark m n size size2 e = some_inside m n (sym (mark_back m size) ∙ ap mark_in e ∙ mark_back n size2)
