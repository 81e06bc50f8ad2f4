-- Sets of numbers, by what they contain.
use Rattle.std.proofs.Common.{◌≡◌, ℕ, ◌<◌, ◌⊎◌, List, [], ◌∷◌, length, Option, None, Some, IsSome, IfSome, MatchOption, refl, sym, subst, inl, inr, arith}
use Rattle.std.specs.List.{All, Contains}
use Rattle.std.specs.declared.cmp.Ordering.{Ordering}
use Rattle.std.specs.declared.cmp.Ordering.TheVariants.{Less, Equal, Greater}
use Rattle.std.specs.Ordering.{nat_cmp, match_ordering}
use Rattle.std.specs.BTreeSet.{insert_key}
use Rattle.std.proofs.lemmas.Map.Lookups.{exact_unsigned}
use Rattle.std.proofs.lemmas.List.Elements.{All-contains}
use Rattle.std.proofs.lemmas.Bool.{false≢true}
use Rattle.std.proofs.lemmas.Cmp.{ranked}
use Rattle.dep_order.specs.Counts.{TakesLeast}
use Rattle.nuc_base.proofs.Lists.{in_nil, in_one, in_cons, in_here, in_there}

insert_case : (o : Ordering) (k x q : ℕ) (xs ys : List ℕ) → (Contains ys q → Contains xs q ⊎ (q ≡ k)) →
    Contains (match_ordering o (k ∷ x ∷ xs) (x ∷ xs) (x ∷ ys)) q → Contains (x ∷ xs) q ⊎ (q ≡ k)
insert_case Less k x q xs ys h i = elim (in_cons k (x ∷ xs) q i) [ inl e ↦ inr (sym e) | inr j ↦ inl j ]
insert_case Equal k x q xs ys h i = inl i
insert_case Greater k x q xs ys h i = elim (in_cons x ys q i) [
  | inl e ↦ inl (subst (Contains (x ∷ xs)) e (in_here x xs))
  | inr j ↦ elim (h j) [ inl m ↦ inl (in_there x xs q m) | inr e ↦ inr e ]
]

pub in_insert : (ks : List ℕ) (k q : ℕ) → Contains (insert_key nat_cmp ks k) q → Contains ks q ⊎ (q ≡ k)
in_insert [] k q i = inr (sym (in_one k q i))
in_insert (x ∷ xs) k q i = insert_case (nat_cmp k x) k x q xs (insert_key nat_cmp xs k) (in_insert xs k q) i

kept_case : (o : Ordering) (k x q : ℕ) (xs ys : List ℕ) → (Contains xs q → Contains ys q) → Contains (x ∷ xs) q →
    Contains (match_ordering o (k ∷ x ∷ xs) (x ∷ xs) (x ∷ ys)) q
kept_case Less k x q xs ys h i = in_there k (x ∷ xs) q i
kept_case Equal k x q xs ys h i = i
kept_case Greater k x q xs ys h i = elim (in_cons x xs q i) [ inl e ↦ subst (Contains (x ∷ ys)) e (in_here x ys) | inr j ↦ in_there x ys q (h j) ]

pub insert_keeps : (ks : List ℕ) (k q : ℕ) → Contains ks q → Contains (insert_key nat_cmp ks k) q
insert_keeps [] k q i = absurd (in_nil q i)
insert_keeps (x ∷ xs) k q i = kept_case (nat_cmp k x) k x q xs (insert_key nat_cmp xs k) (insert_keeps xs k q) i

new_case : (o : Ordering) (k x : ℕ) (xs ys : List ℕ) → nat_cmp k x ≡ o → Contains ys k → Contains (match_ordering o (k ∷ x ∷ xs) (x ∷ xs) (x ∷ ys)) k
new_case Less k x xs ys e h = in_here k (x ∷ xs)
new_case Equal k x xs ys e h = subst (Contains (x ∷ xs)) (sym (exact_unsigned k x e)) (in_here x xs)
new_case Greater k x xs ys e h = in_there x ys k h

pub insert_has : (ks : List ℕ) (k : ℕ) → Contains (insert_key nat_cmp ks k) k
insert_has [] k = in_here k []
insert_has (x ∷ xs) k = new_case (nat_cmp k x) k x xs (insert_key nat_cmp xs k) refl (insert_has xs k)

after : (p : ℕ) (new : List ℕ) (q : ℕ) → All (λ q. nat_cmp p q ≡ Less) new → Contains new q → p < q
after p new q above i = ranked p q Less (sym (All-contains (λ q. nat_cmp p q ≡ Less) new q above i))

-- what taking the first of keys that ascend says
pub least_taken : (r : Option ℕ) (old new : List ℕ) → (0 < length old → IsSome r) → IfSome r (λ k. old ≡ k ∷ new) →
    IfSome r (λ k. All (λ q. nat_cmp k q ≡ Less) new) → MatchOption r ((q : ℕ) → Contains old q → ⊥) (TakesLeast old new)
least_taken None old new some e above = λ q i. absurd (false≢true (some (omega (arith, i.1))))
least_taken (Some p) old new some e above = record {
  taken = subst (λ l. Contains l p) (sym e) (in_here p new);
  least = λ q i. elim (in_cons p new q (subst (λ l. Contains l q) e i)) [
    | inl s ↦ omega (arith, s)
    | inr j ↦ (let lt = after p new q above j in omega (arith, lt))
  ];
  others = λ q. (
    λ i. (subst (λ l. Contains l q) (sym e) (in_there p new q i), λ s. (let lt = after p new q above i in omega (arith, lt, s))),
    λ both. elim (in_cons p new q (subst (λ l. Contains l q) e both.0)) [ inl s ↦ absurd (both.1 (sym s)) | inr j ↦ j ],
  );
}
