-- Two lists of variables in name order, put together.
use Rattle.std.proofs.Common.{◌≡◌, ℕ, ◌≤◌, List, [], ◌∷◌, ◌++◌, length, drop, Option, Some, None, Ordering, Less, Equal, Greater, nat_cmp, refl, sym, ap, ◌∙◌}
use Rattle.std.proofs.Common.{subst}
use Rattle.std.specs.Option.{option_or}
use Rattle.std.proofs.lemmas.Cmp.{tied_itself}
use Rattle.std.proofs.lemmas.Map.Lookups.{exact_bytes}
use Rattle.std.proofs.lemmas.Option.{same_Some, none-some}
use Rattle.std.proofs.lemmas.List.{drop_all, append-nil}
use Rattle.std.specs.List.{AllZip}
use Rattle.std.specs.Ordering.{match_ordering, ordering_reverse}
use Rattle.std.specs.Cmp.Lexicographic.{slice_cmp, nat_list_cmp_total}
use Rattle.serde_json.specs.Data.{Members, no_members, member}
use Rattle.tree_core.specs.Regular.{IsBelowAll, MembersAreOrderly}
use Rattle.tree_core.specs.Parts.{pairs_of}
use Rattle.recipe_reader.specs.Environment.{Variable, IsVariable, IsBelow, HaveRisingNames, find_in, IsJoined}

abbrev pub cmp : List ℕ → List ℕ → Ordering
cmp k l = slice_cmp nat_cmp k l

-- x and what goes with it, among the others
abbrev pub before_in : Variable → (List Variable → List Variable) → List Variable → List Variable
before_in x more [] = x ∷ more []
before_in x more (y ∷ ys) = match_ordering (cmp x.0 y.0) (x ∷ more (y ∷ ys)) (x ∷ more ys) (y ∷ before_in x more ys)

abbrev pub merged : List Variable → List Variable → List Variable
merged [] ys = ys
merged (x ∷ xs) ys = before_in x (merged xs) ys

-- ---- order

same_from : (k l m : List ℕ) → cmp k l ≡ Equal → cmp m k ≡ cmp m l
same_from k l m e = nat_list_cmp_total.antisymm m k ∙ ap ordering_reverse (nat_list_cmp_total.congr k l m e) ∙ sym (nat_list_cmp_total.antisymm m l)

swapped : (k l : List ℕ) → cmp k l ≡ Greater → cmp l k ≡ Less
swapped k l e = nat_list_cmp_total.antisymm l k ∙ ap ordering_reverse e

below_later : (k l : List ℕ) (xs : List Variable) → cmp k l ≡ Less → IsBelow l xs → IsBelow k xs
below_later k l [] first h = tt
below_later k l (x ∷ xs) first h = (nat_list_cmp_total.trans k l x.0 first h.0, below_later k l xs first h.1)

below_same : (k l : List ℕ) (xs : List Variable) → cmp k l ≡ Equal → IsBelow l xs → IsBelow k xs
below_same k l [] same h = tt
below_same k l (x ∷ xs) same h = (nat_list_cmp_total.congr k l x.0 same ∙ h.0, below_same k l xs same h.1)

absent : (n k : List ℕ) (xs : List Variable) → cmp n k ≡ Equal → IsBelow k xs → find_in n xs ≡ None
absent n k [] same h = refl
absent n k (x ∷ xs) same h =
    let less : cmp n x.0 ≡ Less = nat_list_cmp_total.congr n k x.0 same ∙ h.0 in
    ap (λ o. match_ordering o (find_in n xs) (Some x.1) (find_in n xs)) less ∙ absent n k xs same h.1

-- ---- what comes before both comes before what they become

below_at : (k : List ℕ) (o : Ordering) (a b c : List Variable) → IsBelow k a → IsBelow k b → IsBelow k c → IsBelow k (match_ordering o a b c)
below_at k Less a b c ha hb hc = ha
below_at k Equal a b c ha hb hc = hb
below_at k Greater a b c ha hb hc = hc

below_in : (k : List ℕ) (x : Variable) (more : List Variable → List Variable) → cmp k x.0 ≡ Less →
    ((ys : List Variable) → IsBelow k ys → IsBelow k (more ys)) → (ys : List Variable) → IsBelow k ys → IsBelow k (before_in x more ys)
below_in k x more first later [] h = (first, later [] tt)
below_in k x more first later (y ∷ ys) h =
    below_at k (cmp x.0 y.0) (x ∷ more (y ∷ ys)) (x ∷ more ys) (y ∷ before_in x more ys) (first, later (y ∷ ys) h) (first, later ys h.1) (
      h.0,
      below_in k x more first later ys h.1,
    )

below_merged : (k : List ℕ) (xs ys : List Variable) → IsBelow k xs → IsBelow k ys → IsBelow k (merged xs ys)
below_merged k [] ys h later = later
below_merged k (x ∷ xs) ys h later = below_in k x (merged xs) h.0 (λ zs. below_merged k xs zs h.1) ys later

-- ---- what they become rises

rises_at : (x y : Variable) (more : List Variable → List Variable) (ys : List Variable) (o : Ordering) → cmp x.0 y.0 ≡ o
    → ((zs : List Variable) → HaveRisingNames zs → HaveRisingNames (more zs))
    → ((zs : List Variable) → IsBelow x.0 zs → IsBelow x.0 (more zs))
    → ((k : List ℕ) → cmp k x.0 ≡ Less → (zs : List Variable) → IsBelow k zs → IsBelow k (more zs))
    → HaveRisingNames (y ∷ ys) → HaveRisingNames (before_in x more ys)
    → HaveRisingNames (match_ordering o (x ∷ more (y ∷ ys)) (x ∷ more ys) (y ∷ before_in x more ys))
rises_at x y more ys Less is rises own under h rest = (own (y ∷ ys) (is, below_later x.0 y.0 ys is h.0), rises (y ∷ ys) h)
rises_at x y more ys Equal is rises own under h rest = (own ys (below_same x.0 y.0 ys is h.0), rises ys h.1)
rises_at x y more ys Greater is rises own under h rest =
    let before : cmp y.0 x.0 ≡ Less = swapped x.0 y.0 is in
    (below_in y.0 x more before (under y.0 before) ys h.0, rest)

rises_in : (x : Variable) (more : List Variable → List Variable)
    → ((zs : List Variable) → HaveRisingNames zs → HaveRisingNames (more zs))
    → ((zs : List Variable) → IsBelow x.0 zs → IsBelow x.0 (more zs))
    → ((k : List ℕ) → cmp k x.0 ≡ Less → (zs : List Variable) → IsBelow k zs → IsBelow k (more zs))
    → (ys : List Variable) → HaveRisingNames ys → HaveRisingNames (before_in x more ys)
rises_in x more rises own under [] h = (own [] tt, rises [] tt)
rises_in x more rises own under (y ∷ ys) h = rises_at x y more ys (cmp x.0 y.0) refl rises own under h (rises_in x more rises own under ys h.1)

rises_merged : (xs ys : List Variable) → HaveRisingNames xs → HaveRisingNames ys → HaveRisingNames (merged xs ys)
rises_merged [] ys h later = later
rises_merged (x ∷ xs) ys h later =
    rises_in x (merged xs) (λ zs. rises_merged xs zs h.1) (λ zs. below_merged x.0 xs zs h.0)
    (λ k first zs. below_merged k xs zs (below_later k x.0 xs first h.0)) ys later

-- ---- each name has the own value, or else the other

own_first : (o : Ordering) (v : List ℕ) (f g k : Option (List ℕ)) → f ≡ option_or g k → match_ordering o f (Some v) f ≡ option_or (match_ordering o g
    (Some v) g) k
own_first Less v f g k h = h
own_first Equal v f g k h = refl
own_first Greater v f g k h = h

own_for_both : (o : Ordering) (v w : List ℕ) (f g k : Option (List ℕ)) → f ≡ option_or g k →
    match_ordering o f (Some v) f ≡ option_or (match_ordering o g (Some v) g) (match_ordering o k (Some w) k)
own_for_both Less v w f g k h = h
own_for_both Equal v w f g k h = refl
own_for_both Greater v w f g k h = h

other_first : (o p : Ordering) → p ≡ o → (w : List ℕ) (f g k : Option (List ℕ)) → (p ≡ Equal → g ≡ None) → f ≡ option_or g k →
    match_ordering o f (Some w) f ≡ option_or g (match_ordering o k (Some w) k)
other_first Less p e w f g k none h = h
other_first Equal p e w f g k none h = ap (λ z. option_or z (Some w)) (sym (none e))
other_first Greater p e w f g k none h = h

values_at : (n : List ℕ) (x y : Variable) (xs : List Variable) (more : List Variable → List Variable) (ys : List Variable) (o : Ordering) → cmp x.0 y.0 ≡ o
    → ((zs : List Variable) → HaveRisingNames zs → find_in n (more zs) ≡ option_or (find_in n xs) (find_in n zs))
    → HaveRisingNames (x ∷ xs) → HaveRisingNames (y ∷ ys) → find_in n (before_in x more ys) ≡ option_or (find_in n (x ∷ xs)) (find_in n ys)
    → find_in n (match_ordering o (x ∷ more (y ∷ ys)) (x ∷ more ys) (y ∷ before_in x more ys)) ≡ option_or (find_in n (x ∷ xs)) (find_in n (y ∷ ys))
values_at n x y xs more ys Less is later own h rest =
    own_first (cmp n x.0) x.1 (find_in n (more (y ∷ ys))) (find_in n xs) (find_in n (y ∷ ys)) (later (y ∷ ys) h)
values_at n x y xs more ys Equal is later own h rest =
    own_for_both (cmp n x.0) x.1 y.1 (find_in n (more ys)) (find_in n xs) (find_in n ys) (later ys h.1)
    ∙ ap (λ o. option_or (find_in n (x ∷ xs)) (match_ordering o (find_in n ys) (Some y.1) (find_in n ys))) (same_from x.0 y.0 n is)
values_at n x y xs more ys Greater is later own h rest =
    let before : cmp y.0 x.0 ≡ Less = swapped x.0 y.0 is in
    other_first (cmp n y.0) (cmp n y.0) refl y.1 (find_in n (before_in x more ys)) (find_in n (x ∷ xs)) (find_in n ys)
    (λ same. absent n y.0 (x ∷ xs) same (before, below_later y.0 x.0 xs before own.0)) rest

or_none : (o : Option (List ℕ)) → o ≡ option_or o None
or_none None = refl
or_none (Some v) = refl

values_in : (n : List ℕ) (x : Variable) (xs : List Variable) (more : List Variable → List Variable)
    → ((zs : List Variable) → HaveRisingNames zs → find_in n (more zs) ≡ option_or (find_in n xs) (find_in n zs))
    → HaveRisingNames (x ∷ xs) → (ys : List Variable) → HaveRisingNames ys → find_in n (before_in x more ys) ≡ option_or (find_in n (x ∷ xs)) (find_in n ys)
values_in n x xs more later own [] h = own_first (cmp n x.0) x.1 (find_in n (more [])) (find_in n xs) None (later [] tt)
values_in n x xs more later own (y ∷ ys) h = values_at n x y xs more ys (cmp x.0 y.0) refl later own h (values_in n x xs more later own ys h.1)

values_merged : (n : List ℕ) (xs ys : List Variable) → HaveRisingNames xs → HaveRisingNames ys
    → find_in n (merged xs ys) ≡ option_or (find_in n xs) (find_in n ys)
values_merged n [] ys h later = refl
values_merged n (x ∷ xs) ys h later = values_in n x xs (merged xs) (λ zs. values_merged n xs zs h.1) h ys later

pub merged_joins : (xs ys : List Variable) → HaveRisingNames xs → HaveRisingNames ys → IsJoined xs ys (merged xs ys)
merged_joins xs ys h later = record { rises = rises_merged xs ys h later; values = λ n. values_merged n xs ys h later }

-- ---- the end: one of both is through

merged_alone : (xs : List Variable) → merged xs [] ≡ xs
merged_alone [] = refl
merged_alone (x ∷ xs) = ap (λ zs. x ∷ zs) (merged_alone xs)

pub end_own : (xs ys : List Variable) (i j : ℕ) (done : List Variable) → length xs ≤ i → merged xs ys ≡ done ++ merged (drop i xs) (drop j ys) →
    merged xs ys ≡ (done ++ drop i xs) ++ drop j ys
end_own xs ys i j done past goes =
    let none : drop i xs ≡ [] = drop_all i xs past in
    goes ∙ ap (λ zs. done ++ merged zs (drop j ys)) none ∙ ap (λ zs. zs ++ drop j ys) (sym (ap (λ zs. done ++ zs) none ∙ append-nil done))

pub end_other : (xs ys : List Variable) (i j : ℕ) (done : List Variable) → length ys ≤ j → merged xs ys ≡ done ++ merged (drop i xs) (drop j ys) →
    merged xs ys ≡ (done ++ drop i xs) ++ drop j ys
end_other xs ys i j done past goes =
    let none : drop j ys ≡ [] = drop_all j ys past in
    goes ∙ ap (λ zs. done ++ merged (drop i xs) zs) none ∙ ap (λ zs. done ++ zs) (merged_alone (drop i xs))
    ∙ sym (ap (λ zs. (done ++ drop i xs) ++ zs) none ∙ append-nil (done ++ drop i xs))

-- ---- the variables of an object in order rise

pub below_variables : (k : List ℕ) (ms : Members) (xs : List Variable) → IsBelowAll k ms → AllZip IsVariable (pairs_of ms) xs → IsBelow k xs
below_variables k no_members [] h is = tt
below_variables k no_members (x ∷ xs) h is = absurd is
below_variables k (member l d ms) [] h is = tt
below_variables k (member l d ms) (x ∷ xs) h is = (ap (cmp k) is.0.0 ∙ h.0, below_variables k ms xs h.1 is.1)

pub variables_rise : (ms : Members) (xs : List Variable) → MembersAreOrderly ms → AllZip IsVariable (pairs_of ms) xs → HaveRisingNames xs
variables_rise no_members [] h is = tt
variables_rise no_members (x ∷ xs) h is = absurd is
variables_rise (member l d ms) [] h is = tt
variables_rise (member l d ms) (x ∷ xs) h is =
    (below_variables x.0 ms xs (subst (λ n. IsBelowAll n ms) (sym is.0.0) h.0) is.1, variables_rise ms xs h.2 is.1)

-- ---- two lists that rise and have the same values are one

here : (x : Variable) (xs : List Variable) → find_in x.0 (x ∷ xs) ≡ Some x.1
here x xs = ap (λ o. match_ordering o (find_in x.0 xs) (Some x.1) (find_in x.0 xs)) (tied_itself nat_list_cmp_total x.0)

absent_before : (n : List ℕ) (y : Variable) (ys : List Variable) → cmp n y.0 ≡ Less → IsBelow y.0 ys → find_in n (y ∷ ys) ≡ None
absent_before n y ys e h = absent n n (y ∷ ys) (tied_itself nat_list_cmp_total n) (e, below_later n y.0 ys e h)

no_value : (n : List ℕ) (v : List ℕ) (xs ys : List Variable) → find_in n xs ≡ Some v → find_in n ys ≡ None → find_in n xs ≡ find_in n ys → ⊥
no_value n v xs ys a b e = none-some v (sym b ∙ sym e ∙ a)

first_names : (x y : Variable) (xs ys : List Variable) (o : Ordering) → cmp x.0 y.0 ≡ o → HaveRisingNames (x ∷ xs) → HaveRisingNames (y ∷ ys) →
    ((n : List ℕ) → find_in n (x ∷ xs) ≡ find_in n (y ∷ ys)) → x.0 ≡ y.0
first_names x y xs ys Less is h k same = absurd (no_value x.0 x.1 (x ∷ xs) (y ∷ ys) (here x xs) (absent_before x.0 y ys is k.0) (same x.0))
first_names x y xs ys Equal is h k same = exact_bytes x.0 y.0 is
first_names x y xs ys Greater is h k same =
    absurd (no_value y.0 y.1 (y ∷ ys) (x ∷ xs) (here y ys) (absent_before y.0 x xs (swapped x.0 y.0 is) h.0) (sym (same y.0)))

abbrev named : List ℕ → List ℕ → Variable
named n v = (n, v)

later_values : (n k a b : List ℕ) (xs ys : List Variable) (o : Ordering) → cmp n k ≡ o → IsBelow k xs → IsBelow k ys
    → match_ordering o (find_in n xs) (Some a) (find_in n xs) ≡ match_ordering o (find_in n ys) (Some b) (find_in n ys) → find_in n xs ≡ find_in n ys
later_values n k a b xs ys Less is h j same = same
later_values n k a b xs ys Equal is h j same = absent n k xs is h ∙ sym (absent n k ys is j)
later_values n k a b xs ys Greater is h j same = same

rising_one : (xs ys : List Variable) → HaveRisingNames xs → HaveRisingNames ys → ((n : List ℕ) → find_in n xs ≡ find_in n ys) → xs ≡ ys
rising_one [] [] h k same = refl
rising_one [] (y ∷ ys) h k same = absurd (no_value y.0 y.1 (y ∷ ys) [] (here y ys) refl (sym (same y.0)))
rising_one (x ∷ xs) [] h k same = absurd (no_value x.0 x.1 (x ∷ xs) [] (here x xs) refl (same x.0))
rising_one (x ∷ xs) (y ∷ ys) h k same =
    let name = first_names x y xs ys (cmp x.0 y.0) refl h k same in
    let moved : (n : List ℕ) → find_in n (x ∷ xs) ≡ find_in n (named x.0 y.1 ∷ ys) = λ n. same n ∙ ap (λ m. find_in n (named m y.1 ∷ ys)) (sym name) in
    let below : IsBelow x.0 ys = subst (λ m. IsBelow m ys) (sym name) k.0 in
    let value = same_Some x.1 y.1 (sym (here x xs) ∙ moved x.0 ∙ here (named x.0 y.1) ys) in
    let rest = rising_one xs ys h.1 k.1 (λ n. later_values n x.0 x.1 y.1 xs ys (cmp n x.0) refl h.0 below (moved n)) in
    ap (λ zs. x ∷ zs) rest ∙ ap (λ v. named x.0 v ∷ ys) value ∙ ap (λ n. named n y.1 ∷ ys) name

pub joined_one : (own outer a b : List Variable) → IsJoined own outer a → IsJoined own outer b → a ≡ b
joined_one own outer a b h k = rising_one a b h.rises k.rises (λ n. h.values n ∙ sym (k.values n))
