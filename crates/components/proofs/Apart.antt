-- Numbers of children that stand once, and deadlines that are near.
use Rattle.std.proofs.Common.{◌≡◌, ◌<◌, ◌≤◌, ◌+◌, ◌==◌, ℕ, suc, zero, List, [], ◌∷◌, ◌++◌, length, Bool, true, false, Option, Some, None, refl, sym, ap, ◌∙◌}
use Rattle.std.proofs.Common.{arith, subst, filter, ◌⊎◌, inl, inr, append_assoc}
use Rattle.std.specs.Prelude.{◌||◌, not, if◌then◌else◌, IfSome}
use Rattle.std.specs.List.{list_any, AllByRecursion}
use Rattle.std.proofs.lemmas.Bool.{eqb-true, eq-eqb}
use Rattle.nuc_base.specs.declared.kinds.Step.{Step}
use Rattle.components.specs.Answers.{living_numbers, child_numbers}
use Rattle.components.specs.Deadlines.{deadline_after}
use Rattle.components.specs.Components.{ComponentState, Child, At, changed_at, without_child, owner_from, child_of}
use Rattle.components.specs.Readied.{AreApart, IsNear, AreNear}
use Rattle.components.specs.Runs.{IsShort}
use Rattle.components.proofs.Kids.{kids}

abbrev pub among : ℕ → List ℕ → Bool
among n ns = list_any (λ m. m == n) ns

numbers_kids : (ps qs : List ComponentState) → kids ps ≡ kids qs → living_numbers ps ≡ living_numbers qs
numbers_kids [] [] e = refl
numbers_kids [] (q ∷ qs) e = absurd (cc)
numbers_kids (p ∷ ps) [] e = absurd (cc)
numbers_kids (p ∷ ps) (q ∷ qs) e =
    let a : p.children ≡ q.children = cc in
    let b : kids ps ≡ kids qs = cc in
    ap (λ (cs : List Child). child_numbers cs ++ living_numbers ps) a ∙ ap (λ (ns : List ℕ). child_numbers q.children ++ ns) (numbers_kids ps qs b)

pub apart_kids : (ps qs : List ComponentState) → kids ps ≡ kids qs → AreApart (living_numbers qs) → AreApart (living_numbers ps)
apart_kids ps qs e a = subst AreApart (sym (numbers_kids ps qs e)) a

pub near_kids : (m : ℕ) (ps qs : List ComponentState) → kids ps ≡ kids qs → AreNear m qs → AreNear m ps
near_kids m [] [] e a = tt
near_kids m [] (q ∷ qs) e a = absurd (cc)
near_kids m (p ∷ ps) [] e a = absurd (cc)
near_kids m (p ∷ ps) (q ∷ qs) e a =
    let b : p.children ≡ q.children = cc in
    let c : kids ps ≡ kids qs = cc in
    (subst (λ (cs : List Child). AllByRecursion (IsNear m) cs) (sym b) a.0, near_kids m ps qs c a.1)

-- ---- a later moment

later_child : (m n : ℕ) (c : Child) (o : Option ℕ) → m ≤ n → IfSome o (λ d. d ≤ m + 1000000000) → IfSome o (λ d. d ≤ n + 1000000000)
later_child m n c None l h = tt
later_child m n c (Some d) l h = omega (arith, l, h)

later_children : (m n : ℕ) (cs : List Child) → m ≤ n → AllByRecursion (IsNear m) cs → AllByRecursion (IsNear n) cs
later_children m n [] l h = tt
later_children m n (c ∷ cs) l h = (later_child m n c c.deadline l h.0, later_children m n cs l h.1)

pub near_later : (m n : ℕ) (ps : List ComponentState) → m ≤ n → AreNear m ps → AreNear n ps
near_later m n [] l h = tt
near_later m n (p ∷ ps) l h = (later_children m n p.children l h.0, near_later m n ps l h.1)

-- ---- a child more

pub near_deadline : (m : ℕ) (limit : Option ℕ) → IsShort limit → IfSome (deadline_after limit m) (λ d. d ≤ m + 1000000000)
near_deadline m None s = tt
near_deadline m (Some l) s = omega (arith, s)

pub near_started : (m : ℕ) (f : ComponentState → ComponentState) (c : ComponentState → Child) (P : ComponentState → Type 0) →
    ((p : ComponentState) → (f p).children ≡ c p ∷ p.children) → ((p : ComponentState) → P p → IsNear m (c p)) → (k : ℕ) (ps : List ComponentState) →
    At k P ps → AreNear m ps → AreNear m (changed_at k f ps)
near_started m f c P e g k [] h a = absurd h
near_started m f c P e g zero (p ∷ ps) h a = (subst (λ (cs : List Child). AllByRecursion (IsNear m) cs) (sym (e p)) (g p h, a.0), a.1)
near_started m f c P e g (suc k) (p ∷ ps) h a = (a.0, near_started m f c P e g k ps h a.1)

or_false_left : (a b : Bool) → (a || b) ≡ false → a ≡ false
or_false_left true b e = absurd (cc)
or_false_left false b e = refl

or_false_right : (a b : Bool) → (a || b) ≡ false → b ≡ false
or_false_right true b e = absurd (cc)
or_false_right false b e = e

or_false : (a b : Bool) → a ≡ false → b ≡ false → (a || b) ≡ false
or_false a b e f = rw e f

among_append : (n : ℕ) (xs ys : List ℕ) → among n xs ≡ false → among n ys ≡ false → among n (xs ++ ys) ≡ false
among_append n [] ys e f = f
among_append n (x ∷ xs) ys e f = or_false (x == n) (among n (xs ++ ys)) (or_false_left (x == n) (among n xs) e)
    (among_append n xs ys (or_false_right (x == n) (among n xs) e) f)

among_first : (n : ℕ) (xs ys : List ℕ) → among n (xs ++ ys) ≡ false → among n xs ≡ false
among_first n [] ys e = refl
among_first n (x ∷ xs) ys e = or_false (x == n) (among n xs) (or_false_left (x == n) (among n (xs ++ ys)) e)
    (among_first n xs ys (or_false_right (x == n) (among n (xs ++ ys)) e))

among_last : (n : ℕ) (xs ys : List ℕ) → among n (xs ++ ys) ≡ false → among n ys ≡ false
among_last n [] ys e = e
among_last n (x ∷ xs) ys e = among_last n xs ys (or_false_right (x == n) (among n (xs ++ ys)) e)

bool_is : (b : Bool) → (b ≡ true) ⊎ (b ≡ false)
bool_is true = inl refl
bool_is false = inr refl

no_flip : (x n : ℕ) → (x == n) ≡ false → (n == x) ≡ false
no_flip x n e = elim (bool_is (n == x)) [
  | inl h ↦ (let q : n ≡ x = eqb-true n x h in let r = eq-eqb x n (sym q) in absurd (cc))
  | inr h ↦ h
]

apart_insert : (n : ℕ) (xs ys : List ℕ) → AreApart (xs ++ ys) → among n (xs ++ ys) ≡ false → AreApart (xs ++ n ∷ ys)
apart_insert n [] ys a e = (e, a)
apart_insert n (x ∷ xs) ys a e =
    let l = or_false_left (x == n) (among n (xs ++ ys)) e in
    let r = or_false_right (x == n) (among n (xs ++ ys)) e in
    (among_append x xs (n ∷ ys) (among_first x xs ys a.0) (or_false (n == x) (among x ys) (no_flip x n l) (among_last x xs ys a.0)), apart_insert n xs ys a.1 r)

pub apart_started : (n : ℕ) (f : ComponentState → ComponentState) → ((p : ComponentState) → child_numbers (f p).children ≡ n ∷ child_numbers p.children) →
    (k : ℕ) (ps : List ComponentState) (pre : List ℕ) → k < length ps
    → AreApart (pre ++ living_numbers ps) → among n (pre ++ living_numbers ps) ≡ false → AreApart (pre ++ living_numbers (changed_at k f ps))
apart_started n f e k [] pre l a h = absurd (omega (arith, l))
apart_started n f e zero (p ∷ ps) pre l a h =
    subst (λ (ns : List ℕ). AreApart (pre ++ (ns ++ living_numbers ps))) (sym (e p)) (apart_insert n pre (child_numbers p.children ++ living_numbers ps) a h)
apart_started n f e (suc k) (p ∷ ps) pre l a h =
    let q : (pre ++ child_numbers p.children) ++ living_numbers ps ≡ pre ++ (child_numbers p.children ++ living_numbers ps) =
    append_assoc pre (child_numbers p.children) (living_numbers ps) in
    let r : (pre ++ child_numbers p.children) ++ living_numbers (changed_at k f ps) ≡ pre
    ++ (child_numbers p.children ++ living_numbers (changed_at k f ps)) = append_assoc pre (child_numbers p.children) (living_numbers (changed_at k f ps))
    in
    subst AreApart r (apart_started n f e k ps (pre ++ child_numbers p.children) (omega (arith, l)) (subst AreApart (sym q) a)
    (subst (λ (ns : List ℕ). among n ns ≡ false) (sym q) h))

-- ---- a child less

apart_without : (n : ℕ) (xs ys : List ℕ) → AreApart (xs ++ n ∷ ys) → AreApart (xs ++ ys)
apart_without n [] ys a = a.1
apart_without n (x ∷ xs) ys a =
    (among_append x xs ys (among_first x xs (n ∷ ys) a.0) (or_false_right (n == x) (among x ys) (among_last x xs (n ∷ ys) a.0)), apart_without n xs ys a.1)

-- whatever stands before them, these numbers stand once where those do
abbrev Thinner : List ℕ → List ℕ → Type 0
Thinner xs ys = (pre : List ℕ) → AreApart (pre ++ ys) → AreApart (pre ++ xs)

thin_cons : (x : ℕ) (xs ys : List ℕ) → Thinner xs ys → Thinner (x ∷ xs) (x ∷ ys)
thin_cons x xs ys t = λ pre a.
    subst AreApart (append_assoc pre (x ∷ []) xs) (t (pre ++ x ∷ []) (subst AreApart (sym (append_assoc pre (x ∷ []) ys)) a))

thin_skip : (x : ℕ) (xs ys : List ℕ) → Thinner xs ys → Thinner xs (x ∷ ys)
thin_skip x xs ys t = λ pre a. t pre (apart_without x pre ys a)

thin_prefix : (ps xs ys : List ℕ) → Thinner xs ys → Thinner (ps ++ xs) (ps ++ ys)
thin_prefix [] xs ys t = t
thin_prefix (p ∷ ps) xs ys t = thin_cons p (ps ++ xs) (ps ++ ys) (thin_prefix ps xs ys t)

thin_at : (b : Bool) (c : Child) (ds cs : List Child) (zs : List ℕ) → Thinner (child_numbers ds ++ zs) (child_numbers cs ++ zs) →
    Thinner (child_numbers (if b then c ∷ ds else ds) ++ zs) (child_numbers (c ∷ cs) ++ zs)
thin_at true c ds cs zs t = thin_cons c.number (child_numbers ds ++ zs) (child_numbers cs ++ zs) t
thin_at false c ds cs zs t = thin_skip c.number (child_numbers ds ++ zs) (child_numbers cs ++ zs) t

thin_filter : (p : Child → Bool) (cs : List Child) (zs : List ℕ) → Thinner (child_numbers (filter p cs) ++ zs) (child_numbers cs ++ zs)
thin_filter p [] zs = λ pre a. a
thin_filter p (c ∷ cs) zs = thin_at (p c) c (filter p cs) cs zs (thin_filter p cs zs)

thin_removed : (n k : ℕ) (ps : List ComponentState) → Thinner (living_numbers (changed_at k (without_child n) ps)) (living_numbers ps)
thin_removed n k [] = λ pre a. a
thin_removed n zero (p ∷ ps) = thin_filter (λ (c : Child). not (c.number == n)) p.children (living_numbers ps)
thin_removed n (suc k) (p ∷ ps) = thin_prefix (child_numbers p.children) (living_numbers (changed_at k (without_child n) ps)) (living_numbers ps)
    (thin_removed n k ps)

pub apart_removed : (n k : ℕ) (ps : List ComponentState) → AreApart (living_numbers ps) → AreApart (living_numbers (changed_at k (without_child n) ps))
apart_removed n k ps a = thin_removed n k ps [] a

near_at : (m : ℕ) (b : Bool) (c : Child) (ds : List Child) → IsNear m c → AllByRecursion (IsNear m) ds → AllByRecursion (IsNear m) (if b then c ∷ ds else ds)
near_at m true c ds h a = (h, a)
near_at m false c ds h a = a

near_filter : (m : ℕ) (p : Child → Bool) (cs : List Child) → AllByRecursion (IsNear m) cs → AllByRecursion (IsNear m) (filter p cs)
near_filter m p [] a = tt
near_filter m p (c ∷ cs) a = near_at m (p c) c (filter p cs) a.0 (near_filter m p cs a.1)

pub near_removed : (m n k : ℕ) (ps : List ComponentState) → AreNear m ps → AreNear m (changed_at k (without_child n) ps)
near_removed m n k [] a = tt
near_removed m n zero (p ∷ ps) a = (near_filter m (λ (c : Child). not (c.number == n)) p.children a.0, a.1)
near_removed m n (suc k) (p ∷ ps) a = (a.0, near_removed m n k ps a.1)

-- ---- whose child it is

no_child_at : (b r : Bool) (c : Child) (o : Option Child) → (if b then Some c else o) ≡ None → (o ≡ None → r ≡ false) → (b || r) ≡ false
no_child_at true r c o e f = absurd (cc)
no_child_at false r c o e f = f e

pub no_child : (n : ℕ) (cs : List Child) → child_of n cs ≡ None → among n (child_numbers cs) ≡ false
no_child n [] e = refl
no_child n (c ∷ cs) e = no_child_at (c.number == n) (among n (child_numbers cs)) c (child_of n cs) e (no_child n cs)

not_owned_at : (k n : ℕ) (p : ComponentState) (ps : List ComponentState) (o : Option Child) → child_of n p.children ≡ o →
    ◌≡◌ {A = Option (ℕ × Step)} (elim o [ None ↦ owner_from (k + 1) n ps | Some c ↦ Some (k, c.of) ]) None
    → (owner_from (k + 1) n ps ≡ None → among n (living_numbers ps) ≡ false) → among n (child_numbers p.children ++ living_numbers ps) ≡ false
not_owned_at k n p ps None h e f = among_append n (child_numbers p.children) (living_numbers ps) (no_child n p.children h) (f e)
not_owned_at k n p ps (Some c) h e f = absurd (cc)

pub not_owned : (k n : ℕ) (ps : List ComponentState) → owner_from k n ps ≡ None → among n (living_numbers ps) ≡ false
not_owned k n [] e = refl
not_owned k n (p ∷ ps) e = not_owned_at k n p ps (child_of n p.children) refl e (not_owned (k + 1) n ps)
