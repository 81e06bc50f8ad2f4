-- What the first bytes of a slot say.
use Rattle.std.proofs.Common.{◌≡◌, ◌≢◌, ◌⊎◌, inl, inr, ℕ, zero, suc, ◌+◌, ◌-◌, ◌<◌, ◌≤◌, ◌%◌, min, List, [], ◌∷◌, ◌++◌, length, get_or, take, drop, refl, sym}
use Rattle.std.proofs.Common.{◌∙◌, ap, subst, arith, append_assoc, length-append, length-drop}
use Rattle.std.proofs.lemmas.Bool.{cases_eq, cases_lt}
use Rattle.std.proofs.lemmas.List.{take_at, drop_at, length-take-le, get_or-take, get_or-drop, get_or-replicate, get_or_past, get_or-append_right}
use Rattle.std.proofs.Math.ListN.{get_or-append}
use Rattle.std.proofs.Math.Seq.{drop-cons, take-append-add}
use Rattle.std.proofs.lemmas.Nat.{be_bytes_8, from_be_bytes-to_be_bytes_4, from_be_bytes-to_be_bytes_8}
use Rattle.std.specs.Int.{w32, w64, to_be_bytes, from_be_bytes}
use Rattle.gate_log.specs.Entries.{most_payload, entry, IsGood, HoldsNone}
use Rattle.gate_log.specs.Laws.{length-entry}
use Rattle.gate_log.proofs.Walk.{whole_entry}
use Rattle.checkpoint_log.specs.Beginnings.{named, slot, HasNumber, HasFirstEntry}
use Rattle.checkpoint_log.specs.Laws.{two_names}
use Rattle.checkpoint_log.specs.Look.{IsHead}

-- the byte of a file at a place
abbrev byte : List ℕ → ℕ → ℕ
byte file i = get_or file i 0

-- from this place on
onward : (file more : List ℕ) (i : ℕ) → i < length file → drop (suc i) file ≡ more → drop i file ≡ byte file i ∷ more
onward file more i within is = drop-cons file i 0 within ∙ ap (λ (l : List ℕ). byte file i ∷ l) is

-- the gate and the length
pub first_five : (file : List ℕ) → 5 ≤ length file → file ≡ byte file 0 ∷ byte file 1 ∷ byte file 2 ∷ byte file 3 ∷ byte file 4 ∷ drop 5 file
first_five file long =
    onward file _ 0 (omega arith) (onward file _ 1 (omega arith)
    (onward file _ 2 (omega arith) (onward file _ 3 (omega arith) (onward file _ 4 (omega arith) refl))))

-- eight bytes behind the first one of the payload
abbrev eight : List ℕ → List ℕ
eight file = byte file 6 ∷ byte file 7 ∷ byte file 8 ∷ byte file 9 ∷ byte file 10 ∷ byte file 11 ∷ byte file 12 ∷ byte file 13 ∷ []

-- the payload's first nine bytes
pub next_nine : (file : List ℕ) → 14 ≤ length file → drop 5 file ≡ byte file 5 ∷ eight file ++ drop 14 file
next_nine file long =
    onward file _ 5 (omega arith) (onward file _ 6 (omega arith) (onward file _ 7 (omega arith) (onward file _ 8 (omega arith) (onward file _ 9 (omega arith)
    (onward file _ 10 (omega arith) (onward file _ 11 (omega arith) (onward file _ 12 (omega arith) (onward file _ 13 (omega arith) refl))))))))

-- the length's four bytes
abbrev four : List ℕ → List ℕ
four file = byte file 1 ∷ byte file 2 ∷ byte file 3 ∷ byte file 4 ∷ []

-- the slice before the read
pub fourteen : (i : ℕ) → byte (0 ∷ 0 ∷ 0 ∷ 0 ∷ 0 ∷ 0 ∷ 0 ∷ 0 ∷ 0 ∷ 0 ∷ 0 ∷ 0 ∷ 0 ∷ 0 ∷ []) i ≡ 0
fourteen i = elim (cases_lt i 14) [
  | inl here ↦ get_or-replicate 14 i 0 0 here
  | inr past ↦ get_or_past (0 ∷ 0 ∷ 0 ∷ 0 ∷ 0 ∷ 0 ∷ 0 ∷ 0 ∷ 0 ∷ 0 ∷ 0 ∷ 0 ∷ 0 ∷ 0 ∷ []) i 0 past
]

-- what was read at the beginning of a file
pub head_is : (file into zeros : List ℕ) (n : ℕ) → n ≡ min 14 (length file) → into ≡ take n file ++ drop n zeros → ((i : ℕ) → byte zeros i ≡ 0) →
    IsHead into file
head_is file into zeros n n_is is zero_is i within =
    let read : byte into i ≡ byte (take n file ++ drop n zeros) i = ap (λ (l : List ℕ). byte l i) is in
    let size : length (take n file) ≡ n = length-take-le n file (omega arith) in
    elim (cases_lt i (length file)) [
      | inl here ↦ read ∙ get_or-append (take n file) (drop n zeros) 0 i (omega (arith, size, n_is, here, within)) ∙ get_or-take n file i 0
          (omega (arith, n_is, here, within))
      | inr past ↦
          read ∙ get_or-append_right (take n file) (drop n zeros) n i 0 size (omega (arith, n_is, past, within))
          ∙ get_or-drop n zeros (i - n) 0 ∙ zero_is (n + (i - n)) ∙ sym (get_or_past file i 0 past)
    ]

four_same : (into file : List ℕ) → IsHead into file → four into ≡ four file
four_same into file head = λ j. head 1 (omega arith) j ∷ head 2 (omega arith) j ∷ head 3 (omega arith) j ∷ head 4 (omega arith) j ∷ []

eight_same : (into file : List ℕ) → IsHead into file → eight into ≡ eight file
eight_same into file head = λ j.
    head 6 (omega arith) j ∷ head 7 (omega arith) j ∷ head 8 (omega arith) j ∷ head 9 (omega arith) j
    ∷ head 10 (omega arith) j ∷ head 11 (omega arith) j ∷ head 12 (omega arith) j ∷ head 13 (omega arith) j ∷ []

-- behind gate and length stands the payload
body_of : (file : List ℕ) (e : ℕ × List ℕ) (more : List ℕ) → file ≡ entry e ++ more → drop 5 file ≡ e.1 ++ more
body_of file e more is =
    let head : List ℕ = e.0 ∷ to_be_bytes w32 (length e.1) in
    ap (λ (l : List ℕ). drop 5 l) (is ∙ append_assoc head e.1 more) ∙ drop_at head (e.1 ++ more) 5 refl

entry_long : (file : List ℕ) (e : ℕ × List ℕ) (more : List ℕ) → file ≡ entry e ++ more → length file ≡ 5 + length e.1 + length more
entry_long file e more is = omega (arith, ap length is, length-append (entry e) more, length-entry e)

-- the length that a slot with a beginning has there
pub len_of : (file : List ℕ) (m : ℕ) (begins : HasFirstEntry file m) → from_be_bytes w32 (four file) ≡ length begins.first.1
len_of file m begins =
    let e = begins.first in
    let h = to_be_bytes w32 (length e.1) in
    let long : 5 ≤ length file = omega (arith, entry_long file e begins.more begins.file_is) in
    let same : byte file 1 ∷ byte file 2 ∷ byte file 3 ∷ byte file 4 ∷ drop 5 file ≡ h ++ (e.1 ++ begins.more) =
    ap (λ (l : List ℕ). drop 1 l) (sym (first_five file long) ∙ begins.file_is) ∙ append_assoc h e.1 begins.more in
    let heads : four file ≡ h = ap (λ (l : List ℕ). take 4 l) same ∙ take_at h (e.1 ++ begins.more) 4 refl in
    ap (from_be_bytes w32) heads ∙ from_be_bytes-to_be_bytes_4 (length e.1) (omega (arith, begins.good.fits))

-- the first byte of the payload
first_byte : (file tail : List ℕ) (b : ℕ) → drop 5 file ≡ b ∷ tail → byte file 5 ≡ b
first_byte file tail b is = sym (get_or-drop 5 file 0 0) ∙ ap (λ (l : List ℕ). byte l 0) is

-- and what it says
says_of : (file : List ℕ) (m : ℕ) (begins : HasFirstEntry file m) → HasNumber begins.first.1 m
    → ((byte file 5 ≡ 17) × (m ≡ 0)) ⊎ ((byte file 5 ≡ 25) × (9 ≤ length begins.first.1) × (1 ≤ m) × (from_be_bytes w64 (eight file) ≡ m))
says_of file m begins (inl store) =
    inl (
      first_byte file (store.0.rest ++ begins.more) 17 (body_of file begins.first begins.more begins.file_is ∙ ap (λ (l : List ℕ). l ++ begins.more)
          store.0.is),
      store.1,
    )
says_of file m begins (inr turn) =
    let k = to_be_bytes w64 m in
    let body : drop 5 file ≡ 25 ∷ (k ++ turn.rest) ++ begins.more = body_of file begins.first begins.more begins.file_is ∙ ap
    (λ (l : List ℕ). l ++ begins.more) turn.is in
    let size : length begins.first.1 ≡ 9 + length turn.rest = ap length turn.is ∙ omega (arith, length-append k turn.rest) in
    let long : 14 ≤ length file = omega (arith, size, entry_long file begins.first begins.more begins.file_is) in
    let same : eight file ++ drop 14 file ≡ k ++ (turn.rest ++ begins.more) = ap (λ (l : List ℕ). drop 1 l) (sym (next_nine file long) ∙ body) ∙ append_assoc
    k turn.rest begins.more in
    let heads : eight file ≡ k = ap (λ (l : List ℕ). take 8 l) same ∙ take_at k (turn.rest ++ begins.more) 8 refl in
    inr (first_byte file _ 25 body, omega (arith, size), turn.some, ap (from_be_bytes w64) heads ∙ from_be_bytes-to_be_bytes_8 m (omega (arith, turn.small)))

parity_of : (m odd : ℕ) → odd < 2 → slot m ≡ slot odd → m % 2 ≡ odd
parity_of m odd lt same = elim (cases_eq (m % 2) 0) [
  | inl even ↦ elim (cases_eq odd 0) [
    | inl none ↦ even ∙ sym none
    | inr one ↦ absurd (let is : odd % 2 ≡ 1 = omega (arith, lt, one) in two_names (sym (ap named even) ∙ same ∙ ap named is))
  ]
  | inr odd_m ↦ elim (cases_eq odd 0) [
    | inl none ↦ absurd (
        let is : odd % 2 ≡ 0 = omega (arith, none) in
        let one : m % 2 ≡ 1 = omega (arith, odd_m) in
        two_names (sym (ap named is) ∙ sym same ∙ ap named one))
    | inr one ↦ omega (arith, odd_m, one, lt)
  ]
]

-- a slot whose first entry is cut begins with no number
pub cut_begins : (into file : List ℕ) (len m : ℕ) → IsHead into file → len ≡ from_be_bytes w32 (four into) →
    (1 ≤ len → len ≤ most_payload → 5 + len ≤ length file → ⊥) → HasFirstEntry file m → ⊥
cut_begins into file len m head len_is wrong begins =
    let size : len ≡ length begins.first.1 = len_is ∙ ap (from_be_bytes w32) (four_same into file head) ∙ len_of file m begins in
    wrong (omega (arith, size, begins.good.some)) (omega (arith, size, begins.good.fits))
    (omega (arith, size, entry_long file begins.first begins.more begins.file_is))

-- nor does one whose payload has none of the two beginnings
pub none_begins : (into file : List ℕ) (odd len number m : ℕ) → odd < 2 → IsHead into file → len ≡ from_be_bytes w32 (four into) →
    number ≡ from_be_bytes w64 (eight into)
    → (odd ≡ 0 → byte into 5 ≡ 17 → ⊥) → (9 ≤ len → byte into 5 ≡ 25 → 1 ≤ number → number % 2 ≡ odd → ⊥) → slot m ≡ slot odd → HasFirstEntry file m → ⊥
none_begins into file odd len number m lt head len_is number_is no_store no_turn same begins =
    let size : len ≡ length begins.first.1 = len_is ∙ ap (from_be_bytes w32) (four_same into file head) ∙ len_of file m begins in
    let fifth : byte into 5 ≡ byte file 5 = head 5 (omega arith) in
    let parity : m % 2 ≡ odd = parity_of m odd lt same in
    elim (says_of file m begins begins.says) [
      | inl store ↦ no_store (omega (arith, parity, store.1)) (fifth ∙ store.0)
      | inr turn ↦
          let is : number ≡ m = number_is ∙ ap (from_be_bytes w64) (eight_same into file head) ∙ turn.3 in
          no_turn (omega (arith, size, turn.1)) (fifth ∙ turn.0) (omega (arith, is, turn.2)) (ap (λ (n : ℕ). n % 2) is ∙ parity)
    ]

-- the first entry, where it is whole
record IsWhole (file : List ℕ) (len : ℕ) : Type 0 where
  e : ℕ × List ℕ
  more : List ℕ
  good : IsGood e
  is : file ≡ entry e ++ more
  size : len ≡ length e.1

whole : (into file : List ℕ) (len : ℕ) → IsHead into file → ((i : ℕ) → byte into i < 256) → byte into 0 ≢ 0 → len ≡ from_be_bytes w32 (four into) → 1 ≤ len →
    len ≤ most_payload → 5 + len ≤ length file → IsWhole file len
whole into file len head small is_open len_is some fits within =
    let small_at : (i : ℕ) → i < 14 → byte file i < 256 = λ i lt. subst (λ (n : ℕ). n < 256) (head i lt) (small i) in
    let found = whole_entry file (byte file 0) (byte file 1) (byte file 2) (byte file 3) (byte file 4) len (drop 5 file)
    (first_five file (omega (arith, some, within)))
    (small_at 1 (omega arith)) (small_at 2 (omega arith)) (small_at 3 (omega arith)) (small_at 4 (omega arith))
    (λ shut. is_open (head 0 (omega arith) ∙ shut)) (len_is ∙ ap (from_be_bytes w32) (four_same into file head)) some fits
    (omega (arith, within, length-drop 5 file)) in
    record { e = found.0; more = found.1; good = found.2; is = found.3; size = found.4 }

not_nothing : (payload more tail : List ℕ) (b : ℕ) → 1 ≤ length payload → payload ++ more ≡ b ∷ tail → (rest : List ℕ) × (payload ≡ b ∷ rest)
not_nothing [] more tail b some is = absurd (omega (arith, some))
not_nothing (x ∷ rest) more tail b some is = (rest, ap (λ (n : ℕ). n ∷ rest) (ap (λ (l : List ℕ). byte l 0) is))

-- it begins a store
pub begins_store : (into file : List ℕ) (len : ℕ) → IsHead into file → ((i : ℕ) → byte into i < 256) → byte into 0 ≢ 0 → len ≡ from_be_bytes w32 (four into) →
    1 ≤ len → len ≤ most_payload → 5 + len ≤ length file
    → byte into 5 ≡ 17 → HasFirstEntry file 0
begins_store into file len head small is_open len_is some fits within fifth =
    let w = whole into file len head small is_open len_is some fits within in
    let at : drop 5 file ≡ 17 ∷ drop 6 file = drop-cons file 5 0 (omega (arith, some, within)) ∙ ap (λ (n : ℕ). n ∷ drop 6 file)
    (sym (head 5 (omega arith)) ∙ fifth) in
    let first = not_nothing w.e.1 w.more (drop 6 file) 17 w.good.some (sym (body_of file w.e w.more w.is) ∙ at) in
    record { first = w.e; more = w.more; good = w.good; file_is = w.is; says = inl (record { rest = first.0; is = first.1 }, refl) }

-- it begins a turn
pub begins_turn : (into file : List ℕ) (len number : ℕ) → IsHead into file → ((i : ℕ) → byte into i < 256) → byte into 0 ≢ 0 →
    len ≡ from_be_bytes w32 (four into) → 9 ≤ len → len ≤ most_payload → 5 + len ≤ length file
    → byte into 5 ≡ 25 → number ≡ from_be_bytes w64 (eight into) → 1 ≤ number → number < 18446744073709551616 → HasFirstEntry file number
begins_turn into file len number head small is_open len_is nine fits within fifth number_is some below =
    let w = whole into file len head small is_open len_is (omega (arith, nine)) fits within in
    let k = to_be_bytes w64 number in
    let heads : k ≡ eight file = be_bytes_8 (eight into) number refl (eight_small into small) number_is ∙ eight_same into file head in
    let rest = take (length w.e.1 - 9) (drop 14 file) in
    let at : w.e.1 ++ w.more ≡ 25 ∷ eight file ++ drop 14 file =
    sym (body_of file w.e w.more w.is) ∙ next_nine file (omega (arith, nine, within)) ∙ ap (λ (n : ℕ). n ∷ eight file ++ drop 14 file)
    (sym (head 5 (omega arith)) ∙ fifth) in
    let nine_more : length w.e.1 ≡ 9 + (length w.e.1 - 9) = omega (arith, nine, w.size) in
    let is : w.e.1 ≡ 25 ∷ eight file ++ rest =
    sym (take_at w.e.1 w.more (length w.e.1) refl) ∙ ap (λ (l : List ℕ). take (length w.e.1) l) at
    ∙ ap (λ (n : ℕ). take n (25 ∷ eight file ++ drop 14 file)) nine_more ∙ take-append-add (25 ∷ eight file) (drop 14 file) (length w.e.1 - 9) in
    record {
      first = w.e;
      more = w.more;
      good = w.good;
      file_is = w.is;
      says = inr (record { some = some; small = below; rest = rest; is = is ∙ ap (λ (l : List ℕ). 25 ∷ l ++ rest) (sym heads) });
    }
  where
    eight_small : (l : List ℕ) → ((i : ℕ) → byte l i < 256) → (i : ℕ) → get_or (eight l) i 0 < 256
    eight_small l small zero = small 6
    eight_small l small (suc zero) = small 7
    eight_small l small (suc (suc zero)) = small 8
    eight_small l small (suc (suc (suc zero))) = small 9
    eight_small l small (suc (suc (suc (suc zero)))) = small 10
    eight_small l small (suc (suc (suc (suc (suc zero))))) = small 11
    eight_small l small (suc (suc (suc (suc (suc (suc zero)))))) = small 12
    eight_small l small (suc (suc (suc (suc (suc (suc (suc zero))))))) = small 13
    eight_small l small (suc (suc (suc (suc (suc (suc (suc (suc i)))))))) = omega arith

-- the slot of a number with this parity
pub slot_same : (number odd : ℕ) → odd < 2 → number % 2 ≡ odd → slot number ≡ slot odd
slot_same number odd lt is = ap named (let same : number % 2 ≡ odd % 2 = omega (arith, is, lt) in same)

-- a slot with two bytes whose first one is not 0 holds an entry
pub holds_some : (into file : List ℕ) (size : ℕ) → IsHead into file → size ≡ length file → 1 < size → byte into 0 ≢ 0 → HoldsNone file → ⊥
holds_some into file size head size_is long is_open (inl short) = omega (arith, size_is, long, short)
holds_some into file size head size_is long is_open (inr shut) = is_open (head 0 (omega arith) ∙ shut)
