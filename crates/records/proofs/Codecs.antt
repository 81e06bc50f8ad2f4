-- Each codec: what is read is spelled so, and what is spelled so is read.
use Rattle.std.proofs.Common.{◌≡◌, ℕ, zero, suc, ◌+◌, ◌^◌, ◌<◌, ◌≤◌, Bool, true, false, List, [], ◌∷◌, ◌++◌, length, get_or, take, drop, Option, Some, refl}
use Rattle.std.proofs.Common.{sym, ap, subst, ◌∙◌, append_assoc, arith, inl, inr}
use Rattle.std.specs.Prelude.{nat_lt, ⊤}
use Rattle.std.specs.List.{flat_map, AllByRecursion}
use Rattle.std.specs.Int.{Width, w32, w64, byte_len, from_be_bytes, to_be_bytes}
use Rattle.std.proofs.lemmas.Bool.{cases_lt, ltb-false, le-ltb}
use Rattle.std.proofs.lemmas.List.{take_at, drop_at, take-append-drop, length-append, length-take, get_or-drop, get_or-take, get_or_past}
use Rattle.std.proofs.lemmas.List.Concat.{flat_map-cons}
use Rattle.std.proofs.lemmas.Nat.{be_bytes_4, be_bytes_8, from_be_bytes-to_be_bytes_4, from_be_bytes-to_be_bytes_8}
use Rattle.records.specs.Codec.{Codec, ◌>>=◌, ◌&◌, only_if, wide_at, wide, number_at, number, long, those, prefix_at, fixed, string_at, string, texts, as_a}
use Rattle.records.specs.Codec.{nothing, byte_at, byte, items_at, list_of}
use Rattle.records.proofs.Leaves.{bind_some, some_is, if_some, unless_some}

abbrev pub IsBytes : List ℕ → Type 0
IsBytes bytes = (i : ℕ) → get_or bytes i 0 < 256

IsBytes-drop : (n : ℕ) (bytes : List ℕ) → IsBytes bytes → IsBytes (drop n bytes)
IsBytes-drop n bytes h i = rw get_or-drop (h (n + i))

IsBytes-take : (n : ℕ) (bytes : List ℕ) → IsBytes bytes → IsBytes (take n bytes)
IsBytes-take n bytes h i =
    elim (cases_lt i n) [
      | inl lt ↦ rw (get_or-take n bytes i 0 lt) (h i)
      | inr le ↦ rw (get_or_past (take n bytes) i 0 (omega (arith, length-take n bytes))) (omega arith)
    ]

pub IsBytes-rest : (b : ℕ) (bytes : List ℕ) → IsBytes (b ∷ bytes) → IsBytes bytes
IsBytes-rest b bytes h i = h (suc i)

-- what a reader took from the beginning
pub record Takes (bytes text rest : List ℕ) : Type 0 where
  pub parts : bytes ≡ text ++ rest
  pub rest_fits : IsBytes rest

Takes-then : (a x b y c : List ℕ) → Takes a x b → Takes b y c → Takes a (x ++ y) c
Takes-then a x b y c p q = record { parts = p.parts ∙ ap (λ (t : List ℕ). x ++ t) q.parts ∙ sym (append_assoc x y c); rest_fits = q.rest_fits }

pub record IsCodec {A : Type 0} (c : Codec A) : Type 0 where
  pub takes : (bytes : List ℕ) (p : A × List ℕ) → IsBytes bytes → c.at bytes ≡ Some p → Takes bytes (c.spell p.0) p.1 × c.Fits p.0
  pub again : (x : A) (rest : List ℕ) → c.Fits x → c.at (c.spell x ++ rest) ≡ Some (x, rest)
  pub asks : (x : A) → c.Fits x → c.Asks x

record IsWide (w : Width) (limit : ℕ) : Type 0 where
  pub len : (n : ℕ) → length (to_be_bytes w n) ≡ byte_len w
  pub back : (bytes : List ℕ) → length bytes ≡ byte_len w → IsBytes bytes → to_be_bytes w (from_be_bytes w bytes) ≡ bytes
  pub again : (n : ℕ) → n < limit → from_be_bytes w (to_be_bytes w n) ≡ n
  pub below : (bytes : List ℕ) → IsBytes bytes → from_be_bytes w bytes < limit

wide32 : IsWide w32 (2 ^ 32)
wide32 = record {
  len = λ n. refl;
  back = λ bytes len fits. be_bytes_4 bytes _ len fits refl;
  again = λ n lt. from_be_bytes-to_be_bytes_4 n lt;
  below = λ bytes fits. omega (arith, fits 0, fits 1, fits 2, fits 3);
}

wide_takes : (w : Width) (limit : ℕ) (wide : IsWide w limit) (bytes : List ℕ) (p : ℕ × List ℕ) → IsBytes bytes → wide_at w bytes ≡ Some p →
    Takes bytes (to_be_bytes w p.0) p.1 × (p.0 < limit)
wide_takes w limit wide bytes p fits e =
    let g = unless_some (nat_lt (length bytes) (byte_len w)) (Some (from_be_bytes w (take (byte_len w) bytes), drop (byte_len w) bytes)) p e in
    let long : byte_len w ≤ length bytes = ltb-false _ _ g.0 in
    let prefix_fits = IsBytes-take (byte_len w) bytes fits in
    let prefix : to_be_bytes w (from_be_bytes w (take (byte_len w) bytes)) ≡ take (byte_len w) bytes =
    wide.back (take (byte_len w) bytes) (omega (arith, length-take (byte_len w) bytes)) prefix_fits in
    subst (λ (q : ℕ × List ℕ). Takes bytes (to_be_bytes w q.0) q.1 × (q.0 < limit)) (some_is _ p g.1)
    (record { parts = rw prefix (sym (take-append-drop (byte_len w) bytes)); rest_fits = IsBytes-drop (byte_len w) bytes fits }, wide.below _ prefix_fits)

wide_again : (w : Width) (limit : ℕ) (wide : IsWide w limit) (n : ℕ) (rest : List ℕ) → n < limit → wide_at w (to_be_bytes w n ++ rest) ≡ Some (n, rest)
wide_again w limit wide n rest lt =
    let len = wide.len n in
    let long : nat_lt (length (to_be_bytes w n ++ rest)) (byte_len w) ≡ false = le-ltb _ _ (omega (arith, length-append (to_be_bytes w n) rest)) in
    rw (long, take_at (to_be_bytes w n) rest (byte_len w) len, drop_at (to_be_bytes w n) rest (byte_len w) len, wide.again n lt) refl

wide64 : IsWide w64 (2 ^ 64)
wide64 = record {
  len = λ n. refl;
  back = λ bytes len fits. be_bytes_8 bytes _ len fits refl;
  again = λ n lt. from_be_bytes-to_be_bytes_8 n lt;
  below = λ bytes fits. omega (arith, fits 0, fits 1, fits 2, fits 3, fits 4, fits 5, fits 6, fits 7);
}

number_takes : (bytes : List ℕ) (p : ℕ × List ℕ) → IsBytes bytes → number_at bytes ≡ Some p → Takes bytes (to_be_bytes w32 p.0) p.1 × (p.0 < 2 ^ 32)
number_takes = wide_takes w32 (2 ^ 32) wide32

number_again : (n : ℕ) (rest : List ℕ) → n < 2 ^ 32 → number_at (to_be_bytes w32 n ++ rest) ≡ Some (n, rest)
number_again = wide_again w32 (2 ^ 32) wide32

wide_is : (w : Width) (limit : ℕ) → IsWide w limit → IsCodec (wide w limit)
wide_is w limit is = record { takes = wide_takes w limit is; again = wide_again w limit is; asks = λ x h. tt }

pub number_is : IsCodec number
number_is = wide_is w32 (2 ^ 32) wide32

pub long_is : IsCodec long
long_is = wide_is w64 (2 ^ 64) wide64

prefix_takes : (n : ℕ) (bytes : List ℕ) (p : List ℕ × List ℕ) → IsBytes bytes → prefix_at n bytes ≡ Some p → Takes bytes p.0 p.1 × (length p.0 ≡ n)
prefix_takes n bytes p fits e =
    let g = unless_some (nat_lt (length bytes) n) (Some (take n bytes, drop n bytes)) p e in
    let long : n ≤ length bytes = ltb-false _ _ g.0 in
    subst (λ (q : List ℕ × List ℕ). Takes bytes q.0 q.1 × (length q.0 ≡ n)) (some_is _ p g.1)
    (record { parts = sym (take-append-drop n bytes); rest_fits = IsBytes-drop n bytes fits }, omega (arith, length-take n bytes))

prefix_again : (n : ℕ) (x rest : List ℕ) → length x ≡ n → prefix_at n (x ++ rest) ≡ Some (x, rest)
prefix_again n x rest len =
    let long : nat_lt (length (x ++ rest)) n ≡ false = le-ltb _ _ (omega (arith, length-append x rest)) in
    rw (long, take_at x rest n len, drop_at x rest n len) refl

pub fixed_is : (n : ℕ) → IsCodec (fixed n)
fixed_is n = record { takes = prefix_takes n; again = prefix_again n; asks = λ x h. tt }

string_takes : (bytes : List ℕ) (p : List ℕ × List ℕ) → IsBytes bytes → string_at bytes ≡ Some p → Takes bytes (string.spell p.0) p.1 × (length p.0 < 2 ^ 32)
unfolding string_at
string_takes bytes p fits e =
    let b = bind_some (number_at bytes) (λ n. prefix_at n.0 n.1) p e in
    let t = number_takes bytes b.0 fits b.1 in
    let f = prefix_takes b.0.0 b.0.1 p t.0.rest_fits b.2 in
    let both = Takes-then bytes (to_be_bytes w32 b.0.0) b.0.1 p.0 p.1 t.0 f.0 in
    (subst (λ (k : ℕ). Takes bytes (to_be_bytes w32 k ++ p.0) p.1) (sym f.1) both, subst (λ (k : ℕ). k < 2 ^ 32) (sym f.1) t.1)

string_again : (x rest : List ℕ) → length x < 2 ^ 32 → string_at (string.spell x ++ rest) ≡ Some (x, rest)
unfolding string_at
string_again x rest lt = rw (number_again (length x) (x ++ rest) lt, prefix_again (length x) x rest refl) refl

pub string_is : IsCodec string
string_is = record { takes = string_takes; again = string_again; asks = λ x h. h }

pub texts_is : {A : Type 0} (text : A → List ℕ) (of : List ℕ → Option A) (Fits Asks : A → Type 0)
    → ((t : List ℕ) (x : A) → of t ≡ Some x → (text x ≡ t) × Fits x) → ((x : A) → Fits x → of (text x) ≡ Some x) →
    ((x : A) → Fits x → length (text x) < 2 ^ 32 → Asks x) → IsCodec (texts text of Fits Asks)
texts_is text of Fits Asks says found asks = record {
  takes = λ bytes p fits e.
      let a = bind_some (string_at bytes) (λ t. of t.0 >>= λ x. Some (x, t.1)) p e in
      let b = bind_some (of a.0.0) (λ x. Some (x, a.0.1)) p a.2 in
      let t = string_takes bytes a.0 fits a.1 in
      let s = says a.0.0 b.0 b.1 in
      let one : Takes bytes (string.spell (text b.0)) a.0.1 × (Fits b.0 × (length (text b.0) < 2 ^ 32)) = (rw s.0 t.0, (s.1, rw s.0 t.1)) in
      subst (λ q. Takes bytes (string.spell (text q.0)) q.1 × (Fits q.0 × (length (text q.0) < 2 ^ 32))) (some_is (b.0, a.0.1) p b.2) one;
  again = λ x rest fits. rw (string_again (text x) rest fits.1, found x fits.0) refl;
  asks = λ x fits. asks x fits.0 fits.1;
}

pub both : {A B : Type 0} (a : Codec A) (b : Codec B) → IsCodec a → IsCodec b → IsCodec (a & b)
both {A} {B} a b p q = record {
  takes = λ bytes y fits e.
      let f = bind_some (a.at bytes) (λ x. b.at x.1 >>= λ y. Some ((x.0, y.0), y.1)) y e in
      let g = bind_some (b.at f.0.1) (λ y. Some ((f.0.0, y.0), y.1)) y f.2 in
      let first = p.takes bytes f.0 fits f.1 in
      let second = q.takes f.0.1 g.0 first.0.rest_fits g.1 in
      let made : (A × B) × List ℕ = ((f.0.0, g.0.0), g.0.1) in
      subst (λ (z : (A × B) × List ℕ). Takes bytes (a.spell z.0.0 ++ b.spell z.0.1) z.1 × (a.Fits z.0.0 × b.Fits z.0.1)) (some_is made y g.2)
      (Takes-then bytes (a.spell f.0.0) f.0.1 (b.spell g.0.0) g.0.1 first.0 second.0, (first.1, second.1));
  again = λ x rest fits. ap (a & b).at (append_assoc (a.spell x.0) (b.spell x.1) rest) ∙ rw (
    p.again x.0 (b.spell x.1 ++ rest) fits.0,
    q.again x.1 rest fits.1,
  ) refl;
  asks = λ x fits. (p.asks x.0 fits.0, q.asks x.1 fits.1);
}

pub as_a_is : {A B : Type 0} (to : A → B) (from : B → A) (a : Codec A) → ((x : A) → from (to x) ≡ x) → ((y : B) → to (from y) ≡ y) → IsCodec a →
    IsCodec (as_a to from a)
as_a_is {A} {B} to from a back forth p = record {
  takes = λ bytes y fits e.
      let f = bind_some (a.at bytes) (λ x. Some (to x.0, x.1)) y e in
      let t = p.takes bytes f.0 fits f.1 in
      let made : B × List ℕ = (to f.0.0, f.0.1) in
      let one : Takes bytes (a.spell (from (to f.0.0))) f.0.1 × a.Fits (from (to f.0.0)) = rw (back f.0.0) t in
      subst (λ (z : B × List ℕ). Takes bytes (a.spell (from z.0)) z.1 × a.Fits (from z.0)) (some_is made y f.2) one;
  again = λ y rest fits. rw (p.again (from y) rest fits, forth y) refl;
  asks = λ y fits. p.asks (from y) fits;
}

-- a test that stands for its rule
pub those_is : {A : Type 0} (test : A → Bool) (Rule : A → Type 0) (c : Codec A) → ((x : A) → test x ≡ true → Rule x) → ((x : A) → Rule x → test x ≡ true) →
    IsCodec c → IsCodec (those test Rule c)
those_is {A} test Rule c says found law = record {
  takes = λ bytes p fits e.
      let a = bind_some (c.at bytes) (λ x. only_if (test x.0) x) p e in
      let b = if_some (test a.0.0) (Some a.0) p a.2 in
      let t = law.takes bytes a.0 fits a.1 in
      let one : Takes bytes (c.spell a.0.0) a.0.1 × (Rule a.0.0 × c.Fits a.0.0) = (t.0, (says a.0.0 b.0, t.1)) in
      subst (λ (q : A × List ℕ). Takes bytes (c.spell q.0) q.1 × (Rule q.0 × c.Fits q.0)) (some_is a.0 p b.1) one;
  again = λ x rest fits. rw (law.again x rest fits.1, found x fits.0) refl;
  asks = λ x fits. (fits.0, law.asks x fits.1);
}

pub byte_is : {A : Type 0} (tag : A → ℕ) (of : ℕ → Option A) → ((b : ℕ) (x : A) → of b ≡ Some x → tag x ≡ b) → ((x : A) → of (tag x) ≡ Some x) →
    IsCodec (byte tag of)
byte_is {A} tag of says found = record {
  takes = λ bytes p fits e. byte_takes bytes p fits e;
  again = λ x rest fits. rw (found x) refl;
  asks = λ x fits. tt;
} where
  byte_takes : (bytes : List ℕ) (p : A × List ℕ) → IsBytes bytes → byte_at of bytes ≡ Some p → Takes bytes (tag p.0 ∷ []) p.1 × ⊤
  byte_takes [] p fits e = absurd cc
  byte_takes (b ∷ rest) p fits e =
      let f = bind_some (of b) (λ x. Some (x, rest)) p e in
      let made : A × List ℕ = (f.0, rest) in
      let one : Takes (b ∷ rest) (tag f.0 ∷ []) rest × ⊤ = (
        record {
          parts = ap (λ k. k ∷ rest) (sym (says b f.0 f.1));
          rest_fits =
              IsBytes-rest b rest fits;
        },
        tt,
      ) in
      subst (λ (z : A × List ℕ). Takes (b ∷ rest) (tag z.0 ∷ []) z.1 × ⊤) (some_is made p f.2) one

items_take : {A : Type 0} (c : Codec A) → IsCodec c → (n : ℕ) (bytes : List ℕ) (p : List A × List ℕ) → IsBytes bytes → items_at c.at n bytes ≡ Some p
    → Takes bytes (flat_map c.spell p.0) p.1 × (length p.0 ≡ n) × AllByRecursion c.Fits p.0
unfolding items_at
items_take {A} c law zero bytes p fits e =
    subst (λ (y : List A × List ℕ). Takes bytes (flat_map c.spell y.0) y.1 × (length y.0 ≡ 0) ×
    AllByRecursion c.Fits y.0) (some_is ([], bytes) p e) (record { parts = refl; rest_fits = fits }, refl, tt)
items_take {A} c law (suc n) bytes p fits e =
    let a = bind_some (c.at bytes) (λ first. items_at c.at n first.1 >>= λ others. Some (first.0 ∷ others.0, others.1)) p e in
    let b = bind_some (items_at c.at n a.0.1) (λ others. Some (a.0.0 ∷ others.0, others.1)) p a.2 in
    let first = law.takes bytes a.0 fits a.1 in
    let second = items_take c law n a.0.1 b.0 first.0.rest_fits b.1 in
    let joined = Takes-then bytes (c.spell a.0.0) a.0.1 (flat_map c.spell b.0.0) b.0.1 first.0 second.0 in
    let made : List A × List ℕ = (a.0.0 ∷ b.0.0, b.0.1) in
    subst (λ (y : List A × List ℕ). Takes bytes (flat_map c.spell y.0) y.1 × (length y.0 ≡ suc n) ×
    AllByRecursion c.Fits y.0) (some_is made p b.2) (rw flat_map-cons joined, ap suc second.1, (first.1, second.2))

items_again : {A : Type 0} (c : Codec A) → IsCodec c → (xs : List A) (rest : List ℕ) → AllByRecursion c.Fits xs →
    items_at c.at (length xs) (flat_map c.spell xs ++ rest) ≡ Some (xs, rest)
unfolding items_at
items_again c law [] rest fits = refl
items_again c law (x ∷ xs) rest fits =
    let regrouped : flat_map c.spell (x ∷ xs) ++ rest ≡ c.spell x ++ (flat_map c.spell xs ++ rest) =
    ap (λ (t : List ℕ). t ++ rest) (flat_map-cons c.spell x xs) ∙ append_assoc (c.spell x) (flat_map c.spell xs) rest in
    ap (items_at c.at (suc (length xs))) regrouped ∙ rw (law.again x (flat_map c.spell xs ++ rest) fits.0, items_again c law xs rest fits.1) refl

all_ask : {A : Type 0} (c : Codec A) → IsCodec c → (xs : List A) → AllByRecursion c.Fits xs → AllByRecursion c.Asks xs
all_ask c law [] fits = tt
all_ask c law (x ∷ xs) fits = (law.asks x fits.0, all_ask c law xs fits.1)

pub list_is : {A : Type 0} (c : Codec A) → IsCodec c → IsCodec (list_of c)
list_is {A} c law = record {
  takes = λ bytes p fits e.
      let a = bind_some (number_at bytes) (λ n. items_at c.at n.0 n.1) p e in
      let t = number_takes bytes a.0 fits a.1 in
      let s = items_take c law a.0.0 a.0.1 p t.0.rest_fits a.2 in
      let joined = Takes-then bytes (to_be_bytes w32 a.0.0) a.0.1 (flat_map c.spell p.0) p.1 t.0 s.0 in
      (subst (λ (k : ℕ). Takes bytes (to_be_bytes w32 k ++ flat_map c.spell p.0) p.1) (sym s.1) joined, (subst (λ (k : ℕ). k < 2 ^ 32) (sym s.1) t.1, s.2));
  again = λ xs rest fits. ap (list_of c).at (append_assoc (to_be_bytes w32 (length xs)) (flat_map c.spell xs) rest)
      ∙ rw (number_again (length xs) (flat_map c.spell xs ++ rest) fits.0, items_again c law xs rest fits.1) refl;
  asks = λ xs fits. (fits.0, all_ask c law xs fits.1);
}

pub nothing_is : IsCodec nothing
nothing_is = record {
  takes = λ bytes p fits e. subst (λ (z : ⊤ × List ℕ). Takes bytes [] z.1 × ⊤) (some_is (tt, bytes) p e) (record { parts = refl; rest_fits = fits }, tt);
  again = λ x rest fits. refl;
  asks = λ x fits. tt;
}
