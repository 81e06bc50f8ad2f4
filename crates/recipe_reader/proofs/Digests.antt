-- A text is one digest at most.
use Rattle.std.proofs.Common.{◌≡◌, ℕ, ◌+◌, ◌-◌, ◌*◌, ◌/◌, ◌%◌, Bool, true, false, cond, eqb, List, length, replicate, Ok, Err, Result, inl, inr, ap, sym, ◌∙◌}
use Rattle.std.proofs.Common.{refl, length-append, eqb-true}
use Rattle.std.proofs.lemmas.List.{length-replicate}
use Rattle.hex.specs.Hex.{decode_sized, decode_pairs}
use Rattle.hex.specs.declared.error.FromHexError.{FromHexError}
use Rattle.hex.specs.declared.error.FromHexError.TheVariants.{OddLength, InvalidStringLength}
use Rattle.base64.specs.GeneralPurpose.{encode_of}
use Rattle.base64.specs.Engines.{standard}
use Rattle.base64.proofs.EngineFacts.{decode_of-encode_of}
use Rattle.base64.proofs.RoundTrip.{length-encode_symbols}
use Rattle.recipe_reader.specs.Artifacts.{IsBase64, IsDigest}

sized_at : (odd fits : Bool) (pairs : Result (List ℕ) FromHexError) (d : List ℕ) → (cond odd (Err OddLength) (cond fits pairs (Err InvalidStringLength)))
    ≡ Ok d → fits ≡ true
sized_at true fits pairs d h = cc h
sized_at false true pairs d h = refl
sized_at false false pairs d h = cc h

-- a text in hexadecimal digits is longer than one in base64
hex_length : (s d : List ℕ) → decode_sized s 32 ≡ Ok d → length s / 2 ≡ 32
hex_length s d h = eqb-true (length s / 2) 32 (sized_at (eqb (length s % 2) 1) (eqb (length s / 2) 32) (decode_pairs 0 s) d h)

base64_length : (d : List ℕ) → length d ≡ 32 → length (encode_of standard d) ≡ 44
base64_length d h =
    length-append _ _ ∙ ap (λ n. n + length {A = ℕ} (replicate ((3 - length d % 3) % 3) 61)) (length-encode_symbols _ d)
    ∙ ap (λ n. (4 * length d + 2) / 3 + n) (length-replicate _ 61)
    ∙ ap (λ n. (4 * n + 2) / 3 + (3 - n % 3) % 3) h

not_both : (s d e : List ℕ) → decode_sized s 32 ≡ Ok d → IsBase64 s e → ⊥
not_both s d e h k =
    let hex = hex_length s d h in
    let base = ap length k.text ∙ base64_length e k.whole in
    let off : 44 / 2 ≡ 32 = ap (λ n. n / 2) (sym base) ∙ hex in
    (cc off)

pub digest_one : (s d e : List ℕ) → IsDigest s d → IsDigest s e → d ≡ e
digest_one s d e (inl h) (inl k) = cc (h, k)
digest_one s d e (inl h) (inr k) = absurd (not_both s d e h k)
digest_one s d e (inr h) (inl k) = absurd (not_both s e d k h)
digest_one s d e (inr h) (inr k) =
    let a = decode_of-encode_of standard d refl h.bytes in
    let b = decode_of-encode_of standard e refl k.bytes in
    cc (a, b, h.text, k.text)
