-- Reading a frame's body gives the frame, and what is read as a frame has that body.
use Rattle.std.proofs.Common.{◌≡◌, ℕ, suc, ◌+◌, ◌<◌, ◌≤◌, ◌==◌, Bool, true, false, ◌&&◌, List, [], ◌∷◌, ◌++◌, length, take, drop, refl, sym, ap, ◌∙◌, subst, arith}
use Rattle.std.specs.Prelude.{◌≢◌, nat_lt, nat_le, if◌then◌else◌, Result, Ok, Err, IfOk, OnErr}
use Rattle.std.proofs.lemmas.Bool.{ltb-true, lt-ltb, leb-true}
use Rattle.std.proofs.lemmas.Bool.Decides.{Decides-eqb}
use Rattle.std.proofs.lemmas.List.{length-append, append_assoc, append-nil, take-append-drop, length-drop}
use Rattle.sse_frames.specs.declared.fault.FrameFault.{FrameFault}
use Rattle.sse_frames.specs.declared.fault.FrameFault.TheVariants.{BadLength, BadKind, BadBody}
use Rattle.sse_frames.specs.Frames.{be32, IsBytes}
use Rattle.vault_server.specs.declared.vault_frame.VaultFrame.{VaultFrame}
use Rattle.vault_server.specs.VaultFrames.{VaultFrameText, PutFrame, DropFrame, FetchFrame, AskFrame, vault_body, IsPut, IsDrop, InVault, IsVaultBody}
use Rattle.vault_server.specs.VaultReading.{number_in, put_in, drop_in, fetch_in, bare_in, frame_of_kind, frame_in}
use Rattle.vault_server.specs.VaultViews.{frame_view, frame_read}
use Rattle.vault_server.proofs.Fronts.{front_is, back_is, length-be32, number_front, is_le, AreBytes, bytes_behind, number_bytes, first_bytes, ok_inside, no_value, no_bytes}

read_put : (n : ℕ) (slot tag sealed : List ℕ) → IsPut n slot tag sealed → frame_in (vault_body (PutFrame n slot tag sealed)) ≡ Ok (PutFrame n slot tag sealed)
read_put n slot tag sealed is =
    let rest = be32 n ++ slot ++ tag ++ sealed in
    let parted : rest ≡ be32 n ++ (slot ++ (tag ++ sealed)) = append_assoc (be32 n ++ slot) tag sealed ∙ append_assoc (be32 n) slot (tag ++ sealed) in
    let size : length rest ≡ 52 + length sealed = ap length parted
    ∙ omega (arith, length-append (be32 n) (slot ++ (tag ++ sealed)), length-be32 n, length-append slot (tag ++ sealed), is.slot_is.size_is, length-append tag sealed, is.tag_is.size_is) in
    let few : nat_le (length rest) 65599 ≡ true = is_le (length rest) 65599 (omega (arith, size, is.sealed_is.size)) in
    let four : nat_le 4 (length rest) ≡ true = is_le 4 (length rest) (omega (arith, size)) in
    let twenty : nat_le 20 (length rest) ≡ true = is_le 20 (length rest) (omega (arith, size)) in
    let many : nat_le 52 (length rest) ≡ true = is_le 52 (length rest) (omega (arith, size)) in
    let number : number_in rest ≡ n = ap number_in parted ∙ number_front n (slot ++ (tag ++ sealed)) (omega (arith, is.number)) in
    let small : nat_lt (number_in rest) 0xffffffff ≡ true = ap (λ k. nat_lt k 0xffffffff) number ∙ lt-ltb n 0xffffffff is.number in
    let behind : drop 4 rest ≡ slot ++ (tag ++ sealed) = ap (drop 4) parted ∙ back_is 4 (be32 n) (slot ++ (tag ++ sealed)) (length-be32 n) in
    let behind2 : drop 16 (drop 4 rest) ≡ tag ++ sealed = ap (drop 16) behind ∙ back_is 16 slot (tag ++ sealed) is.slot_is.size_is in
    (λ i. if few i then frame_of_kind 0x41 rest else Err (BadLength (length rest + 1)))
    ∙ (λ i. if four i && small i then (if twenty i then (if many i then Ok (PutFrame (number_in rest) (take 16 (drop 4 rest)) (take 32 (drop 16 (drop 4 rest))) (drop 32 (drop 16 (drop 4 rest)))) else Err (BadBody 21)) else Err (BadBody 5)) else Err (BadBody 1))
    ∙ (λ i. Ok (PutFrame (number i) ((ap (take 16) behind ∙ front_is 16 slot (tag ++ sealed) is.slot_is.size_is) i)
    ((ap (take 32) behind2 ∙ front_is 32 tag sealed is.tag_is.size_is) i) ((ap (drop 32) behind2 ∙ back_is 32 tag sealed is.tag_is.size_is) i)))

read_drop : (n : ℕ) (slot : List ℕ) → IsDrop n slot → frame_in (vault_body (DropFrame n slot)) ≡ Ok (DropFrame n slot)
read_drop n slot is =
    let rest = be32 n ++ slot in
    let size : length rest ≡ 20 = omega (arith, length-append (be32 n) slot, length-be32 n, is.slot_is.size_is) in
    let few : nat_le (length rest) 65599 ≡ true = is_le (length rest) 65599 (omega (arith, size)) in
    let four : nat_le 4 (length rest) ≡ true = is_le 4 (length rest) (omega (arith, size)) in
    let twenty : nat_le 20 (length rest) ≡ true = is_le 20 (length rest) (omega (arith, size)) in
    let exact : (length rest == 20) ≡ true = (Decides-eqb (length rest) 20).1 size in
    let number : number_in rest ≡ n = number_front n slot (omega (arith, is.number)) in
    let small : nat_lt (number_in rest) 0xffffffff ≡ true = ap (λ k. nat_lt k 0xffffffff) number ∙ lt-ltb n 0xffffffff is.number in
    let behind : take 16 (drop 4 rest) ≡ slot = ap (take 16) (back_is 4 (be32 n) slot (length-be32 n) ∙ sym (append-nil slot)) ∙ front_is 16 slot [] is.slot_is.size_is in
    (λ i. if few i then frame_of_kind 0x42 rest else Err (BadLength (length rest + 1)))
    ∙ (λ i. if four i && small i then (if twenty i then (if exact i then Ok (DropFrame (number_in rest) (take 16 (drop 4 rest))) else Err (BadBody 21)) else Err (BadBody 5)) else Err (BadBody 1))
    ∙ (λ i. Ok (DropFrame (number i) (behind i)))

read_fetch : (slot : List ℕ) → IsBytes 16 slot → frame_in (vault_body (FetchFrame slot)) ≡ Ok (FetchFrame slot)
read_fetch slot is =
    let few : nat_le (length slot) 65599 ≡ true = is_le (length slot) 65599 (omega (arith, is.size_is)) in
    let long : nat_le 16 (length slot) ≡ true = is_le 16 (length slot) (omega (arith, is.size_is)) in
    let exact : (length slot == 16) ≡ true = (Decides-eqb (length slot) 16).1 is.size_is in
    let whole : take 16 slot ≡ slot = ap (take 16) (sym (append-nil slot)) ∙ front_is 16 slot [] is.size_is in
    (λ i. if few i then frame_of_kind 0x43 slot else Err (BadLength (length slot + 1)))
    ∙ (λ i. if long i then (if exact i then Ok (FetchFrame (take 16 slot)) else Err (BadBody 17)) else Err (BadBody 1))
    ∙ ap (λ s. Ok (FetchFrame s)) whole

-- each frame of the grammar is read back from its body, so that a body is that of one frame alone
pub read_back : (frame : VaultFrameText) → InVault frame → frame_in (vault_body frame) ≡ Ok frame
read_back (PutFrame n slot tag sealed) is = read_put n slot tag sealed is
read_back (DropFrame n slot) is = read_drop n slot is
read_back (FetchFrame slot) is = read_fetch slot is
read_back AskFrame is = refl

-- What is read as a frame is one of the grammar, with that body.

put_is : (rest : List ℕ) → AreBytes rest → length rest ≤ 65599 → (frame : VaultFrameText) → put_in rest ≡ Ok frame → IsVaultBody frame (0x41 ∷ rest)
put_is rest are few frame e = by (nat_le 4 (length rest)) (nat_lt (number_in rest) 0xffffffff) (nat_le 20 (length rest)) (nat_le 52 (length rest)) refl refl refl refl e
  where
    here : 52 ≤ length rest → number_in rest < 0xffffffff → IsVaultBody (PutFrame (number_in rest) (take 16 (drop 4 rest)) (take 32 (drop 16 (drop 4 rest))) (drop 32 (drop 16 (drop 4 rest)))) (0x41 ∷ rest)
    here long small =
        let one = length-drop 4 rest in
        let two = length-drop 16 (drop 4 rest) in
        let three = length-drop 32 (drop 16 (drop 4 rest)) in
        let are1 = bytes_behind 4 rest are in
        let are2 = bytes_behind 16 (drop 4 rest) are1 in record {
          grammar = record {
            number = small;
            slot_is = first_bytes 16 (drop 4 rest) are1 (omega (arith, long, one));
            tag_is = first_bytes 32 (drop 16 (drop 4 rest)) are2 (omega (arith, long, one, two));
            sealed_is = record { size = omega (arith, few, one, two, three); each = bytes_behind 32 (drop 16 (drop 4 rest)) are2 };
          };
          spelled = ap (λ r. 0x41 ∷ r) (
              sym (take-append-drop 4 rest)
              ∙ (λ i. sym (number_bytes rest are (omega (arith, long))) i ++ sym (take-append-drop 16 (drop 4 rest)) i)
              ∙ ap (λ r. be32 (number_in rest) ++ (take 16 (drop 4 rest) ++ r)) (sym (take-append-drop 32 (drop 16 (drop 4 rest))))
              ∙ sym (append_assoc (be32 (number_in rest)) (take 16 (drop 4 rest)) (take 32 (drop 16 (drop 4 rest)) ++ drop 32 (drop 16 (drop 4 rest))))
              ∙ sym (append_assoc (be32 (number_in rest) ++ take 16 (drop 4 rest)) (take 32 (drop 16 (drop 4 rest))) (drop 32 (drop 16 (drop 4 rest)))));
        }

    by : (a b c d : Bool) → nat_le 4 (length rest) ≡ a → nat_lt (number_in rest) 0xffffffff ≡ b → nat_le 20 (length rest) ≡ c → nat_le 52 (length rest) ≡ d
        → (if a && b then (if c then (if d then Ok (PutFrame (number_in rest) (take 16 (drop 4 rest)) (take 32 (drop 16 (drop 4 rest))) (drop 32 (drop 16 (drop 4 rest)))) else Err (BadBody 21)) else Err (BadBody 5)) else Err (BadBody 1)) ≡ Ok frame → IsVaultBody frame (0x41 ∷ rest)
    by true true true true four small twenty long e =
        subst (λ fr. IsVaultBody fr (0x41 ∷ rest)) (ok_inside (PutFrame (number_in rest) (take 16 (drop 4 rest)) (take 32 (drop 16 (drop 4 rest))) (drop 32 (drop 16 (drop 4 rest)))) frame e)
        (here (leb-true 52 (length rest) long) (ltb-true (number_in rest) 0xffffffff small))
    by true true true false four small twenty long e = no_value (BadBody 21) frame e
    by true true false d four small twenty long e = no_value (BadBody 5) frame e
    by true false c d four small twenty long e = no_value (BadBody 1) frame e
    by false b c d four small twenty long e = no_value (BadBody 1) frame e

drop_is : (rest : List ℕ) → AreBytes rest → (frame : VaultFrameText) → drop_in rest ≡ Ok frame → IsVaultBody frame (0x42 ∷ rest)
drop_is rest are frame e = by (nat_le 4 (length rest)) (nat_lt (number_in rest) 0xffffffff) (nat_le 20 (length rest)) (length rest == 20) refl refl refl refl e
  where
    here : length rest ≡ 20 → number_in rest < 0xffffffff → IsVaultBody (DropFrame (number_in rest) (take 16 (drop 4 rest))) (0x42 ∷ rest)
    here long small =
        let one = length-drop 4 rest in
        let whole : take 16 (drop 4 rest) ≡ drop 4 rest = ap (take 16) (sym (append-nil (drop 4 rest))) ∙ front_is 16 (drop 4 rest) [] (omega (arith, long, one)) in record {
          grammar = record { number = small; slot_is = first_bytes 16 (drop 4 rest) (bytes_behind 4 rest are) (omega (arith, long, one)) };
          spelled = ap (λ r. 0x42 ∷ r) (sym (take-append-drop 4 rest) ∙ (λ i. sym (number_bytes rest are (omega (arith, long))) i ++ sym whole i));
        }

    by : (a b c d : Bool) → nat_le 4 (length rest) ≡ a → nat_lt (number_in rest) 0xffffffff ≡ b → nat_le 20 (length rest) ≡ c → (length rest == 20) ≡ d
        → (if a && b then (if c then (if d then Ok (DropFrame (number_in rest) (take 16 (drop 4 rest))) else Err (BadBody 21)) else Err (BadBody 5)) else Err (BadBody 1)) ≡ Ok frame → IsVaultBody frame (0x42 ∷ rest)
    by true true true true four small twenty long e =
        subst (λ fr. IsVaultBody fr (0x42 ∷ rest)) (ok_inside (DropFrame (number_in rest) (take 16 (drop 4 rest))) frame e)
        (here ((Decides-eqb (length rest) 20).0 long) (ltb-true (number_in rest) 0xffffffff small))
    by true true true false four small twenty long e = no_value (BadBody 21) frame e
    by true true false d four small twenty long e = no_value (BadBody 5) frame e
    by true false c d four small twenty long e = no_value (BadBody 1) frame e
    by false b c d four small twenty long e = no_value (BadBody 1) frame e

fetch_is : (rest : List ℕ) → AreBytes rest → (frame : VaultFrameText) → fetch_in rest ≡ Ok frame → IsVaultBody frame (0x43 ∷ rest)
fetch_is rest are frame e = by (nat_le 16 (length rest)) (length rest == 16) refl refl e
  where
    by : (a b : Bool) → nat_le 16 (length rest) ≡ a → (length rest == 16) ≡ b → (if a then (if b then Ok (FetchFrame (take 16 rest)) else Err (BadBody 17)) else Err (BadBody 1)) ≡ Ok frame → IsVaultBody frame (0x43 ∷ rest)
    by true true some long e =
        let size : length rest ≡ 16 = (Decides-eqb (length rest) 16).0 long in
        let whole : take 16 rest ≡ rest = ap (take 16) (sym (append-nil rest)) ∙ front_is 16 rest [] size in
        subst (λ fr. IsVaultBody fr (0x43 ∷ rest)) (ok_inside (FetchFrame (take 16 rest)) frame e)
        (record { grammar = first_bytes 16 rest are (omega (arith, size)); spelled = ap (λ r. 0x43 ∷ r) (sym whole) })
    by true false some long e = no_value (BadBody 17) frame e
    by false b some long e = no_value (BadBody 1) frame e

ask_is : (rest : List ℕ) (frame : VaultFrameText) → bare_in AskFrame rest ≡ Ok frame → IsVaultBody frame (0x44 ∷ rest)
ask_is rest frame e = by (length rest == 0) refl e
  where
    by : (a : Bool) → (length rest == 0) ≡ a → (if a then Ok AskFrame else Err (BadBody 1)) ≡ Ok frame → IsVaultBody frame (0x44 ∷ rest)
    by true long e =
        subst (λ fr. IsVaultBody fr (0x44 ∷ rest)) (ok_inside AskFrame frame e) (record { grammar = tt; spelled = ap (λ r. 0x44 ∷ r) (no_bytes rest ((Decides-eqb (length rest) 0).0 long)) })
    by false long e = no_value (BadBody 1) frame e

-- a body that is read as a frame is that frame's
pub read_is : (body : List ℕ) → AreBytes body → (frame : VaultFrameText) → frame_in body ≡ Ok frame → IsVaultBody frame body
read_is [] are frame e = no_value (BadLength 0) frame e
read_is (kind ∷ rest) are frame e = by (nat_le (length rest) 65599) (kind == 0x41) (kind == 0x42) (kind == 0x43) (kind == 0x44) refl refl refl refl refl e
  where
    behind : AreBytes rest
    behind i = are (suc i)

    kind_is : (k : ℕ) → (kind == k) ≡ true → IsVaultBody frame (k ∷ rest) → IsVaultBody frame (kind ∷ rest)
    kind_is k same is = subst (λ b. IsVaultBody frame (b ∷ rest)) (sym ((Decides-eqb kind k).0 same)) is

    by : (few a b c d : Bool) → nat_le (length rest) 65599 ≡ few → (kind == 0x41) ≡ a → (kind == 0x42) ≡ b → (kind == 0x43) ≡ c → (kind == 0x44) ≡ d
        → (if few then (if a then put_in rest else if b then drop_in rest else if c then fetch_in rest else if d then bare_in AskFrame rest else Err (BadKind kind)) else Err (BadLength (length rest + 1))) ≡ Ok frame → IsVaultBody frame (kind ∷ rest)
    by true true b c d few same b_is c_is d_is e = kind_is 0x41 same (put_is rest behind (leb-true (length rest) 65599 few) frame e)
    by true false true c d few a_is same c_is d_is e = kind_is 0x42 same (drop_is rest behind frame e)
    by true false false true d few a_is b_is same d_is e = kind_is 0x43 same (fetch_is rest behind frame e)
    by true false false false true few a_is b_is c_is same e = kind_is 0x44 same (ask_is rest frame e)
    by true false false false false few a_is b_is c_is d_is e = no_value (BadKind kind) frame e
    by false a b c d few a_is b_is c_is d_is e = no_value (BadLength (length rest + 1)) frame e

-- so two frames of the grammar with one body are one
pub one_body : (f g : VaultFrameText) → InVault f → InVault g → vault_body f ≡ vault_body g → f ≡ g
one_body f g is is2 same = ok_inside {E = FrameFault} f g (sym (read_back f is) ∙ ap frame_in same ∙ read_back g is2)

-- What a reader found, and where it found nothing.

pub found_frame : (r : Result VaultFrame FrameFault) (body : List ℕ) → AreBytes body → frame_read r ≡ frame_in body → IfOk r (λ frame. IsVaultBody (frame_view frame) body)
found_frame (Ok x) body are e = read_is body are (frame_view x) (sym e)
found_frame (Err fault) body are e = tt

pub no_other_frame : (r : Result VaultFrame FrameFault) (body : List ℕ) → frame_read r ≡ frame_in body → OnErr r ((frame : VaultFrameText) → InVault frame → body ≢ vault_body frame)
no_other_frame (Ok x) body e = tt
no_other_frame (Err fault) body e = λ frame is same. no_value fault frame (e ∙ ap frame_in same ∙ read_back frame is)
