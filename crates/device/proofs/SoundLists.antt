-- Groups and closed deployments stay apart, and revisions rise.
use Rattle.std.proofs.Common.{◌≡◌, ◌⊎◌, inl, inr, ℕ, ◌+◌, ◌<◌, ◌≤◌, Bool, true, false, cond, List, [], ◌∷◌, ◌++◌, length, Option, Some, None, refl, sym, ap}
use Rattle.std.proofs.Common.{subst, ◌∙◌, arith, IsTrue}
use Rattle.std.specs.Prelude.{if◌then◌else◌, nat_eq, ◌||◌}
use Rattle.std.specs.Option.{option_map_or}
use Rattle.std.specs.List.{AllByRecursion, IsDistinct}
use Rattle.std.specs.Str.{bytes_eq}
use Rattle.std.specs.Map.{lookup}
use Rattle.std.proofs.lemmas.Bool.{false≢true}
use Rattle.std.proofs.lemmas.List.{length-append}
use Rattle.std.proofs.lemmas.Slice.Eq.{bytes_eq-Decides}
use Rattle.nuc_base.specs.declared.kinds.Outcome.{Outcome}
use Rattle.records.specs.Stored.{Plan}
use Rattle.device.specs.Limits.{most_groups, most_closed}
use Rattle.device.specs.Grouped.{has_group, find_group, revision_of, revision_after, put_group, group_after, with_group}
use Rattle.device.specs.Devices.{Group}
use Rattle.device.specs.Lawful.{IsNotOlder}
use Rattle.device.specs.Plans.{AreRequirements}
use Rattle.device.specs.Sound.{arns, ids, AreGroups, AreClosed}

pub not_same : (x y : List ℕ) → bytes_eq x y ≡ false → bytes_eq y x ≡ false
not_same x y other = by (bytes_eq y x) refl
  where
    by : (b : Bool) → bytes_eq y x ≡ b → b ≡ false
    by false is = refl
    by true is = absurd (false≢true (sym other ∙ (bytes_eq-Decides x y).1 (sym ((bytes_eq-Decides y x).0 is))))

pub all_more : {A : Type 0} (P : A → Type 0) (xs : List A) (x : A) → AllByRecursion P xs → P x → AllByRecursion P (xs ++ x ∷ [])
all_more P [] x h p = (p, tt)
all_more P (y ∷ xs) x h p = (h.0, all_more P xs x h.1 p)

-- ---- closed deployments

abbrev Entry : Type 0
Entry = List ℕ × Outcome

ids_more : (es : List Entry) (x : Entry) → ids (es ++ x ∷ []) ≡ ids es ++ x.0 ∷ []
ids_more [] x = refl
ids_more (e ∷ es) x = ap (λ l. e.0 ∷ l) (ids_more es x)

apart : (es : List Entry) (id : List ℕ) → lookup (bytes_eq id) es ≡ None → AllByRecursion (λ y. bytes_eq y id ≡ false) (ids es)
apart [] id none = tt
apart (e ∷ es) id none = by (bytes_eq id e.0) refl none (apart es id)
  where
    by : (b : Bool) → bytes_eq id e.0 ≡ b → cond b (Some e.1) (lookup (bytes_eq id) es) ≡ None
        → (lookup (bytes_eq id) es ≡ None → AllByRecursion (λ y. bytes_eq y id ≡ false) (ids es)) → (bytes_eq e.0 id ≡ false) ×
        AllByRecursion (λ y. bytes_eq y id ≡ false) (ids es)
    by true is h rest = absurd cc
    by false is h rest = (not_same id e.0 is, rest h)

pub distinct_more : (xs : List (List ℕ)) (id : List ℕ) → AllByRecursion (λ y. bytes_eq y id ≡ false) xs → IsDistinct bytes_eq xs →
    IsDistinct bytes_eq (xs ++ id ∷ [])
unfolding IsDistinct
distinct_more [] id h d = (tt, tt)
distinct_more (x ∷ xs) id h d = (all_more (λ y. bytes_eq x y ≡ false) xs id d.0 h.0, distinct_more xs id h.1 d.1)

pub closed_more : (closed : List Entry) (id : List ℕ) (o : Outcome) → length closed < most_closed → lookup (bytes_eq id) closed ≡ None → AreClosed closed →
    AreClosed (closed ++ (id, o) ∷ [])
closed_more closed id o lt fresh are =
    let one = length-append closed ((id, o) ∷ []) in
    record {
      few = omega (arith, one, lt);
      differ = subst (IsDistinct bytes_eq) (sym (ids_more closed (id, o))) (distinct_more (ids closed) id (apart closed id fresh) are.differ);
    }

-- ---- groups

module _ (g : Group) where
  one_more : (gs : List Group) → length (put_group gs g) ≤ length gs + 1
  one_more [] = omega arith
  one_more (h ∷ gs) = by (bytes_eq g.arn h.arn) (one_more gs)
    where
      by : (b : Bool) → length (put_group gs g) ≤ length gs + 1 → length (if b then g ∷ gs else h ∷ put_group gs g) ≤ length (h ∷ gs) + 1
      by true rest = omega arith
      by false rest = omega (arith, rest)

  no_more : (gs : List Group) → has_group g.arn gs ≡ true → length (put_group gs g) ≡ length gs
  no_more [] has = absurd cc
  no_more (h ∷ gs) has = by (bytes_eq g.arn h.arn) has (no_more gs)
    where
      by : (b : Bool) → (b || has_group g.arn gs) ≡ true → (has_group g.arn gs ≡ true → length (put_group gs g) ≡ length gs) →
          length (if b then g ∷ gs else h ∷ put_group gs g) ≡ length (h ∷ gs)
      by true is rest = refl
      by false is rest = let same = rest is in omega (arith, same)

  all_put : (P : Group → Type 0) (gs : List Group) → AllByRecursion P gs → P g → AllByRecursion P (put_group gs g)
  all_put P [] h p = (p, tt)
  all_put P (x ∷ gs) h p = by (bytes_eq g.arn x.arn) (all_put P gs h.1 p)
    where
      by : (b : Bool) → AllByRecursion P (put_group gs g) → AllByRecursion P (if b then g ∷ gs else x ∷ put_group gs g)
      by true rest = (p, h.1)
      by false rest = (h.0, rest)

  names_put : (P : List ℕ → Type 0) (gs : List Group) → AllByRecursion P (arns gs) → P g.arn → AllByRecursion P (arns (put_group gs g))
  names_put P [] h p = (p, tt)
  names_put P (x ∷ gs) h p = by (bytes_eq g.arn x.arn) (names_put P gs h.1 p)
    where
      by : (b : Bool) → AllByRecursion P (arns (put_group gs g)) → AllByRecursion P (arns (if b then g ∷ gs else x ∷ put_group gs g))
      by true rest = (p, h.1)
      by false rest = (h.0, rest)

  apart_put : (gs : List Group) → IsDistinct bytes_eq (arns gs) → IsDistinct bytes_eq (arns (put_group gs g))
  unfolding IsDistinct
  apart_put [] d = (tt, tt)
  apart_put (x ∷ gs) d = by (bytes_eq g.arn x.arn) refl (apart_put gs d.1)
    where
      by : (b : Bool) → bytes_eq g.arn x.arn ≡ b → IsDistinct bytes_eq (arns (put_group gs g)) →
          IsDistinct bytes_eq (arns (if b then g ∷ gs else x ∷ put_group gs g))
      by true is rest = (subst (λ (n : List ℕ). AllByRecursion (λ y. bytes_eq n y ≡ false) (arns gs)) (sym ((bytes_eq-Decides g.arn x.arn).0 is)) d.0, d.1)
      by false is rest = (names_put (λ y. bytes_eq x.arn y ≡ false) gs d.0 (not_same g.arn x.arn is), rest)

  find_put : (arn : List ℕ) (gs : List Group) → find_group arn (put_group gs g) ≡ (if bytes_eq arn g.arn then Some g else find_group arn gs)
  find_put arn [] = refl
  find_put arn (x ∷ gs) = by (bytes_eq g.arn x.arn) refl (find_put arn gs)
    where
      other : (b : Bool) → bytes_eq arn g.arn ≡ b → bytes_eq g.arn x.arn ≡ false
          → (if bytes_eq arn x.arn then Some x else (if b then Some g else find_group arn gs))
          ≡ (if b then Some g else (if bytes_eq arn x.arn then Some x else find_group arn gs))
      other true same away =
          let is : bytes_eq arn x.arn ≡ false = subst (λ (n : List ℕ). bytes_eq n x.arn ≡ false) (sym ((bytes_eq-Decides arn g.arn).0 same)) away in
          ap (λ (c : Bool). if c then Some x else Some g) is
      other false same away = refl

      hidden : (b : Bool) → bytes_eq arn g.arn ≡ b → g.arn ≡ x.arn → (if b then Some g else find_group arn gs)
          ≡ (if b then Some g else (if bytes_eq arn x.arn then Some x else find_group arn gs))
      hidden true at same = refl
      hidden false at same =
          let away : bytes_eq arn x.arn ≡ false = subst (λ (n : List ℕ). bytes_eq arn n ≡ false) same at in
          sym (ap (λ (c : Bool). if c then Some x else find_group arn gs) away)

      by : (b : Bool) → bytes_eq g.arn x.arn ≡ b → find_group arn (put_group gs g) ≡ (if bytes_eq arn g.arn then Some g else find_group arn gs)
          → find_group arn (if b then g ∷ gs else x ∷ put_group gs g)
          ≡ (if bytes_eq arn g.arn then Some g else (if bytes_eq arn x.arn then Some x else find_group arn gs))
      by true is rest = hidden (bytes_eq arn g.arn) refl ((bytes_eq-Decides g.arn x.arn).0 is)
      by false is rest = ap (λ (o : Option Group). if bytes_eq arn x.arn then Some x else o) rest ∙ other (bytes_eq arn g.arn) refl is

pub groups_with : (gs : List Group) (p : Plan) → IsTrue (has_group p.group gs) ⊎ (length gs < most_groups) → AreRequirements p.requirements → AreGroups gs →
    AreGroups (with_group gs p)
groups_with gs p joins requirements are =
    let g = group_after gs p in
    record {
      few = elim joins [
        | inl has ↦ (let same = no_more g gs has in let few = are.few in omega (arith, same, few))
        | inr lt ↦ (let one = one_more g gs in omega (arith, one, lt))
      ];
      differ = apart_put g gs are.differ;
      requirements = all_put g (λ x. AreRequirements x.requirements) gs are.requirements requirements;
    }

-- ---- revisions

pub no_older : (gs : List Group) (p : Plan) → IsNotOlder gs p → revision_of p.group gs ≤ revision_after gs p
no_older gs p young = by (nat_eq p.revision 0) refl young
  where
    by : (b : Bool) → nat_eq p.revision 0 ≡ b → IsNotOlder gs p → revision_of p.group gs ≤ (if b then revision_of p.group gs else p.revision)
    by true is h = omega arith
    by false is h = elim h [ inl none ↦ absurd (let same : nat_eq p.revision 0 ≡ true = rw none refl in false≢true (sym is ∙ same)) | inr le ↦ le ]

pub revision_rises : (gs : List Group) (p : Plan) (arn : List ℕ) → IsNotOlder gs p → revision_of arn gs ≤ revision_of arn (with_group gs p)
revision_rises gs p arn young =
    subst (λ (o : Option Group). revision_of arn gs ≤ option_map_or (λ g. g.revision) o 0) (sym (find_put (group_after gs p) arn gs))
    (by (bytes_eq arn p.group) refl)
  where
    by : (b : Bool) → bytes_eq arn p.group ≡ b → revision_of arn gs ≤ option_map_or (λ (g : Group). g.revision)
        (if b then Some (group_after gs p) else find_group arn gs) 0
    by true is = subst (λ (n : List ℕ). revision_of n gs ≤ revision_after gs p) (sym ((bytes_eq-Decides arn p.group).0 is)) (no_older gs p young)
    by false is = omega arith
