-- Reading a reply's body gives the reply, and what is read as a reply has that body.
use Rattle.std.proofs.Common.{◌≡◌, ℕ, suc, ◌+◌, ◌<◌, ◌≤◌, ◌^◌, ◌==◌, Bool, true, false, ◌&&◌, List, [], ◌∷◌, ◌++◌, length, take, drop, refl, sym, ap, ◌∙◌, subst, arith}
use Rattle.std.specs.Prelude.{◌≢◌, nat_lt, nat_le, if◌then◌else◌, Result, Ok, Err, IfOk, OnErr}
use Rattle.std.proofs.lemmas.Bool.{ltb-true, lt-ltb, leb-true}
use Rattle.std.proofs.lemmas.Bool.Decides.{Decides-eqb}
use Rattle.std.proofs.lemmas.List.{length-append, append-nil, take-append-drop, take_all, length-drop}
use Rattle.sse_frames.specs.declared.fault.FrameFault.{FrameFault}
use Rattle.sse_frames.specs.declared.fault.FrameFault.TheVariants.{BadLength, BadKind, BadBody}
use Rattle.sse_frames.specs.Frames.{be32, IsNumber}
use Rattle.vault_server.specs.declared.vault_reply.VaultReply.{VaultReply}
use Rattle.vault_server.specs.VaultFrames.{VaultReplyText, Took, BodyReply, Absent, Next, Clash, NoMemory, StoreFault, BadFrame, vault_reply_body, IsBodyReply, InVaultReplies, IsVaultReplyBody}
use Rattle.vault_server.specs.VaultReading.{number_in, took_in, next_in, body_in, bare_in, reply_of_kind, reply_in}
use Rattle.vault_server.specs.VaultViews.{reply_view, reply_read}
use Rattle.vault_server.proofs.Fronts.{front_is, back_is, number_front, is_le, AreBytes, bytes_behind, number_bytes, first_bytes, ok_inside, no_value, no_bytes, number_fits}

whole_number : (n : ℕ) → n < 2 ^ 32 → number_in (be32 n) ≡ n
whole_number n small = ap number_in (sym (append-nil (be32 n))) ∙ number_front n [] small

read_took : (n : ℕ) → IsNumber n → reply_in (vault_reply_body (Took n)) ≡ Ok (Took n)
read_took n is =
    let rest = be32 n in
    let number : number_in rest ≡ n = whole_number n (omega (arith, is)) in
    let few : nat_le (length rest) 65599 ≡ true = refl in
    let four : nat_le 4 (length rest) ≡ true = refl in
    let exact : (length rest == 4) ≡ true = refl in
    let small : nat_lt (number_in rest) 0xffffffff ≡ true = ap (λ k. nat_lt k 0xffffffff) number ∙ lt-ltb n 0xffffffff is in
    (λ i. if few i then reply_of_kind 0xc1 rest else Err (BadLength (length rest + 1)))
    ∙ (λ i. if four i && small i then (if exact i then Ok (Took (number_in rest)) else Err (BadBody 5)) else Err (BadBody 1))
    ∙ ap (λ k. Ok (Took k)) number

read_next : (n : ℕ) → n < 2 ^ 32 → reply_in (vault_reply_body (Next n)) ≡ Ok (Next n)
read_next n is =
    let rest = be32 n in
    let few : nat_le (length rest) 65599 ≡ true = refl in
    let four : nat_le 4 (length rest) ≡ true = refl in
    let exact : (length rest == 4) ≡ true = refl in
    (λ i. if few i then reply_of_kind 0xc4 rest else Err (BadLength (length rest + 1)))
    ∙ (λ i. if four i then (if exact i then Ok (Next (number_in rest)) else Err (BadBody 5)) else Err (BadBody 1))
    ∙ ap (λ k. Ok (Next k)) (whole_number n is)

read_body : (tag sealed : List ℕ) → IsBodyReply tag sealed → reply_in (vault_reply_body (BodyReply tag sealed)) ≡ Ok (BodyReply tag sealed)
read_body tag sealed is =
    let rest = tag ++ sealed in
    let size : length rest ≡ 32 + length sealed = omega (arith, length-append tag sealed, is.tag_is.size_is) in
    let few : nat_le (length rest) 65599 ≡ true = is_le (length rest) 65599 (omega (arith, size, is.sealed_is.size)) in
    let long : nat_le 32 (length rest) ≡ true = is_le 32 (length rest) (omega (arith, size)) in
    (λ i. if few i then reply_of_kind 0xc2 rest else Err (BadLength (length rest + 1)))
    ∙ (λ i. if long i then Ok (BodyReply (take 32 rest) (drop 32 rest)) else Err (BadBody 1))
    ∙ (λ i. Ok (BodyReply (front_is 32 tag sealed is.tag_is.size_is i) (back_is 32 tag sealed is.tag_is.size_is i)))

-- each reply of the grammar is read back from its body
pub read_back : (reply : VaultReplyText) → InVaultReplies reply → reply_in (vault_reply_body reply) ≡ Ok reply
read_back (Took n) is = read_took n is
read_back (BodyReply tag sealed) is = read_body tag sealed is
read_back Absent is = refl
read_back (Next n) is = read_next n is
read_back Clash is = refl
read_back NoMemory is = refl
read_back StoreFault is = refl
read_back BadFrame is = refl

-- What is read as a reply is one of the grammar, with that body.

-- four bytes are their number's
four_bytes : (rest : List ℕ) → AreBytes rest → length rest ≡ 4 → rest ≡ be32 (number_in rest)
four_bytes rest are four = sym (number_bytes rest are (omega (arith, four)) ∙ take_all 4 rest (omega (arith, four)))

took_is : (rest : List ℕ) → AreBytes rest → (reply : VaultReplyText) → took_in rest ≡ Ok reply → IsVaultReplyBody reply (0xc1 ∷ rest)
took_is rest are reply e = by (nat_le 4 (length rest)) (nat_lt (number_in rest) 0xffffffff) (length rest == 4) refl refl refl e
  where
    by : (a b c : Bool) → nat_le 4 (length rest) ≡ a → nat_lt (number_in rest) 0xffffffff ≡ b → (length rest == 4) ≡ c
        → (if a && b then (if c then Ok (Took (number_in rest)) else Err (BadBody 5)) else Err (BadBody 1)) ≡ Ok reply → IsVaultReplyBody reply (0xc1 ∷ rest)
    by true true true four small exact e =
        subst (λ r. IsVaultReplyBody r (0xc1 ∷ rest)) (ok_inside (Took (number_in rest)) reply e)
        (record { grammar = ltb-true (number_in rest) 0xffffffff small; spelled = ap (λ r. 0xc1 ∷ r) (four_bytes rest are ((Decides-eqb (length rest) 4).0 exact)) })
    by true true false four small exact e = no_value (BadBody 5) reply e
    by true false c four small exact e = no_value (BadBody 1) reply e
    by false b c four small exact e = no_value (BadBody 1) reply e

next_is : (rest : List ℕ) → AreBytes rest → (reply : VaultReplyText) → next_in rest ≡ Ok reply → IsVaultReplyBody reply (0xc4 ∷ rest)
next_is rest are reply e = by (nat_le 4 (length rest)) (length rest == 4) refl refl e
  where
    by : (a b : Bool) → nat_le 4 (length rest) ≡ a → (length rest == 4) ≡ b → (if a then (if b then Ok (Next (number_in rest)) else Err (BadBody 5)) else Err (BadBody 1)) ≡ Ok reply → IsVaultReplyBody reply (0xc4 ∷ rest)
    by true true four exact e =
        subst (λ r. IsVaultReplyBody r (0xc4 ∷ rest)) (ok_inside (Next (number_in rest)) reply e)
        (record { grammar = number_fits rest are; spelled = ap (λ r. 0xc4 ∷ r) (four_bytes rest are ((Decides-eqb (length rest) 4).0 exact)) })
    by true false four exact e = no_value (BadBody 5) reply e
    by false b four exact e = no_value (BadBody 1) reply e

body_is : (rest : List ℕ) → AreBytes rest → length rest ≤ 65599 → (reply : VaultReplyText) → body_in rest ≡ Ok reply → IsVaultReplyBody reply (0xc2 ∷ rest)
body_is rest are few reply e = by (nat_le 32 (length rest)) refl e
  where
    by : (a : Bool) → nat_le 32 (length rest) ≡ a → (if a then Ok (BodyReply (take 32 rest) (drop 32 rest)) else Err (BadBody 1)) ≡ Ok reply → IsVaultReplyBody reply (0xc2 ∷ rest)
    by true long e =
        subst (λ r. IsVaultReplyBody r (0xc2 ∷ rest)) (ok_inside (BodyReply (take 32 rest) (drop 32 rest)) reply e)
        (record {
          grammar = record {
            tag_is = first_bytes 32 rest are (leb-true 32 (length rest) long);
            sealed_is = record { size = omega (arith, few, length-drop 32 rest); each = bytes_behind 32 rest are };
          };
          spelled = ap (λ r. 0xc2 ∷ r) (sym (take-append-drop 32 rest));
        })
    by false long e = no_value (BadBody 1) reply e

bare_is : (kind : ℕ) (value : VaultReplyText) → InVaultReplies value → kind ∷ [] ≡ vault_reply_body value → (rest : List ℕ) (reply : VaultReplyText) → bare_in value rest ≡ Ok reply → IsVaultReplyBody reply (kind ∷ rest)
bare_is kind value is spelled rest reply e = by (length rest == 0) refl e
  where
    by : (a : Bool) → (length rest == 0) ≡ a → (if a then Ok value else Err (BadBody 1)) ≡ Ok reply → IsVaultReplyBody reply (kind ∷ rest)
    by true long e =
        subst (λ r. IsVaultReplyBody r (kind ∷ rest)) (ok_inside value reply e)
        (record { grammar = is; spelled = ap (λ r. kind ∷ r) (no_bytes rest ((Decides-eqb (length rest) 0).0 long)) ∙ spelled })
    by false long e = no_value (BadBody 1) reply e

-- a body that is read as a reply is that reply's
pub read_is : (body : List ℕ) → AreBytes body → (reply : VaultReplyText) → reply_in body ≡ Ok reply → IsVaultReplyBody reply body
read_is [] are reply e = no_value (BadLength 0) reply e
read_is (kind ∷ rest) are reply e =
    by (nat_le (length rest) 65599) (kind == 0xc1) (kind == 0xc2) (kind == 0xc3) (kind == 0xc4) (kind == 0xc5) (kind == 0xc6) (kind == 0xc7) (kind == 0xc8) refl refl refl refl refl refl refl refl refl e
  where
    behind : AreBytes rest
    behind i = are (suc i)

    kind_is : (k : ℕ) → (kind == k) ≡ true → IsVaultReplyBody reply (k ∷ rest) → IsVaultReplyBody reply (kind ∷ rest)
    kind_is k same is = subst (λ b. IsVaultReplyBody reply (b ∷ rest)) (sym ((Decides-eqb kind k).0 same)) is

    by : (few t b a n c m s f : Bool) → nat_le (length rest) 65599 ≡ few → (kind == 0xc1) ≡ t → (kind == 0xc2) ≡ b → (kind == 0xc3) ≡ a → (kind == 0xc4) ≡ n → (kind == 0xc5) ≡ c → (kind == 0xc6) ≡ m → (kind == 0xc7) ≡ s → (kind == 0xc8) ≡ f
        → (if few then (if t then took_in rest else if b then body_in rest else if a then bare_in Absent rest else if n then next_in rest else if c then bare_in Clash rest else if m then bare_in NoMemory rest else if s then bare_in StoreFault rest else if f then bare_in BadFrame rest else Err (BadKind kind)) else Err (BadLength (length rest + 1))) ≡ Ok reply → IsVaultReplyBody reply (kind ∷ rest)
    by true true b a n c m s f few k1 k2 k3 k4 k5 k6 k7 k8 e = kind_is 0xc1 k1 (took_is rest behind reply e)
    by true false true a n c m s f few k1 k2 k3 k4 k5 k6 k7 k8 e = kind_is 0xc2 k2 (body_is rest behind (leb-true (length rest) 65599 few) reply e)
    by true false false true n c m s f few k1 k2 k3 k4 k5 k6 k7 k8 e = kind_is 0xc3 k3 (bare_is 0xc3 Absent tt refl rest reply e)
    by true false false false true c m s f few k1 k2 k3 k4 k5 k6 k7 k8 e = kind_is 0xc4 k4 (next_is rest behind reply e)
    by true false false false false true m s f few k1 k2 k3 k4 k5 k6 k7 k8 e = kind_is 0xc5 k5 (bare_is 0xc5 Clash tt refl rest reply e)
    by true false false false false false true s f few k1 k2 k3 k4 k5 k6 k7 k8 e = kind_is 0xc6 k6 (bare_is 0xc6 NoMemory tt refl rest reply e)
    by true false false false false false false true f few k1 k2 k3 k4 k5 k6 k7 k8 e = kind_is 0xc7 k7 (bare_is 0xc7 StoreFault tt refl rest reply e)
    by true false false false false false false false true few k1 k2 k3 k4 k5 k6 k7 k8 e = kind_is 0xc8 k8 (bare_is 0xc8 BadFrame tt refl rest reply e)
    by true false false false false false false false false few k1 k2 k3 k4 k5 k6 k7 k8 e = no_value (BadKind kind) reply e
    by false t b a n c m s f few k1 k2 k3 k4 k5 k6 k7 k8 e = no_value (BadLength (length rest + 1)) reply e

-- What a reader found, and where it found nothing.

pub found_reply : (r : Result VaultReply FrameFault) (body : List ℕ) → AreBytes body → reply_read r ≡ reply_in body → IfOk r (λ reply. IsVaultReplyBody (reply_view reply) body)
found_reply (Ok x) body are e = read_is body are (reply_view x) (sym e)
found_reply (Err fault) body are e = tt

pub no_other_reply : (r : Result VaultReply FrameFault) (body : List ℕ) → reply_read r ≡ reply_in body → OnErr r ((reply : VaultReplyText) → InVaultReplies reply → body ≢ vault_reply_body reply)
no_other_reply (Ok x) body e = tt
no_other_reply (Err fault) body e = λ reply is same. no_value fault reply (e ∙ ap reply_in same ∙ read_back reply is)
