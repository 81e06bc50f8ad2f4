-- Those that are gone, and of which no child lives, count for nothing in what is kept.
use Rattle.std.specs.Prelude.{ℕ, suc, zero, Bool, true, false, not, ◌&&◌, ◌||◌, List, [], ◌∷◌, Option, Some, if◌then◌else◌, slice_get}
use Rattle.std.specs.List.{AllByRecursion, list_all}
use Rattle.std.specs.Str.{bytes_eq}
use Rattle.std.proofs.Common.{◌≡◌, ◌∙◌, refl, sym, ap, arith}
use Rattle.std.proofs.lemmas.Bool.{and_parts}
use Rattle.components.specs.Changes.{changed_to, counted, standing, with_items}
use Rattle.components.specs.Components.{ComponentState, Components, component_name, is_leaving, is_over}
use Rattle.components.specs.Fitted.{Fitted}
use Rattle.components.specs.Turns.{hard_needs, is_met}
use Rattle.law_supervisor.specs.Sound.{HaveOwnNames}
use Rattle.law_termination.specs.Kept.{IsKeptPart, IsOrderedPart, are_there, newest}
use Rattle.law_termination.specs.Drives.{AreDriven, IsBelow, IsDriven, is_ending}

abbrev pub standing_of : Components → Components
standing_of w = record w { parts = standing w.parts }

-- ---- a test that none passes that is over

drop : (x r : Bool) → ((x && false) || r) ≡ r
drop true r = refl
drop false r = refl

module _ (test : ComponentState → Bool) (none : (p : ComponentState) → is_over p ≡ true → test p ≡ false) where
  met_standing : (ps : List ComponentState) (n : List ℕ) → is_met test (standing ps) n ≡ is_met test ps n
  met_standing [] n = refl
  met_standing (p ∷ ps) n = by (is_over p) refl (met_standing ps n)
    where
      by : (b : Bool) → is_over p ≡ b → is_met test (standing ps) n ≡ is_met test ps n →
          is_met test (if not b then p ∷ standing ps else standing ps) n ≡ is_met test (p ∷ ps) n
      by true is rest = rest ∙ sym (ap (λ (t : Bool). (bytes_eq (component_name p) n && t) || is_met test ps n) (none p is) ∙ drop
          (bytes_eq (component_name p) n) (is_met test ps n))
      by false is rest = ap (λ (r : Bool). (bytes_eq (component_name p) n && test p) || r) rest

  all_standing : (ps : List ComponentState) (ns : List (List ℕ)) → list_all (is_met test (standing ps)) ns ≡ list_all (is_met test ps) ns
  all_standing ps [] = refl
  all_standing ps (n ∷ ns) = ap (λ (b : Bool). b && list_all (is_met test (standing ps)) ns) (met_standing ps n) ∙ ap (λ (b : Bool). is_met test ps n && b)
      (all_standing ps ns)

gone_of : (a b : Bool) → (a && b) ≡ true → a ≡ true
gone_of a b e = (and_parts a b e).0

over_leaves : (p : ComponentState) → is_over p ≡ true → not (is_leaving p) ≡ false
over_leaves p over = let gone = gone_of p.life.gone _ over in rw gone refl

over_ends : (p : ComponentState) → is_over p ≡ true → not (is_ending p) ≡ false
over_ends p over = let gone = gone_of p.life.gone _ over in rw gone refl

there_standing : (ps : List ComponentState) (ns : List (List ℕ)) → are_there ps ns ≡ true → are_there (standing ps) ns ≡ true
there_standing ps ns there = all_standing (λ p. not (is_leaving p)) over_leaves ps ns ∙ there

-- ---- what is kept of each

all_of : (P : ComponentState → Type 0) (ps : List ComponentState) → AllByRecursion P ps → AllByRecursion P (standing ps)
all_of P [] a = tt
all_of P (p ∷ ps) a = by (not (is_over p)) (all_of P ps a.1)
  where
    by : (b : Bool) → AllByRecursion P (standing ps) → AllByRecursion P (if b then p ∷ standing ps else standing ps)
    by true rest = (a.0, rest)
    by false rest = rest

each : {A : Type 0} (P Q : A → Type 0) → ((x : A) → P x → Q x) → (xs : List A) → AllByRecursion P xs → AllByRecursion Q xs
each P Q f [] a = tt
each P Q f (x ∷ xs) a = (f x a.0, each P Q f xs a.1)

module _ (r s : List ℕ → ℕ) (all : List ComponentState) where
  ordered_one : (p : ComponentState) → IsOrderedPart r s all p → IsOrderedPart r s (standing all) p
  ordered_one p o = record {
    stands = o.stands;
    hard = o.hard;
    soft = o.soft;
    hard_there = λ stays. there_standing all (newest p).hard (o.hard_there stays);
    soft_there = λ stays. there_standing all (newest p).soft (o.soft_there stays);
  }

  driven_one : (p : ComponentState) → IsDriven r all p → IsDriven r (standing all) p
  driven_one p d = record {
    needs = λ there. each (IsBelow r all (component_name p)) (IsBelow r (standing all) (component_name p))
        (λ n below. (below.0, met_standing (λ q. not (is_ending q)) over_ends all n ∙ below.1)) (hard_needs p) (d.needs there);
    takes = d.takes;
    apart = d.apart;
    in_time = d.in_time;
  }

-- ---- names

-- where one that stands is
place_of : (ps : List ComponentState) (k : ℕ) (q : ComponentState) → slice_get (standing ps) k ≡ Some q → (j : ℕ) × (slice_get ps j ≡ Some q)
place_of [] k q is = absurd cc
place_of (p ∷ ps) k q is = by (not (is_over p)) k is (λ i there. place_of ps i q there)
  where
    by : (b : Bool) (k : ℕ) → slice_get (if b then p ∷ standing ps else standing ps) k ≡ Some q →
        ((i : ℕ) → slice_get (standing ps) i ≡ Some q → (j : ℕ) × (slice_get ps j ≡ Some q)) → (j : ℕ) × (slice_get (p ∷ ps) j ≡ Some q)
    by true zero is rest = (zero, is)
    by true (suc k) is rest = let o = rest k is in (suc o.0, o.1)
    by false k is rest = let o = rest k is in (suc o.0, o.1)

-- one before those of which each has another name
one_more : (x : ComponentState) (ps : List ComponentState) → HaveOwnNames (x ∷ ps) → HaveOwnNames (standing ps) → (j k : ℕ) (p q : ComponentState) →
    slice_get (x ∷ standing ps) j ≡ Some p → slice_get (x ∷ standing ps) k ≡ Some q → component_name p ≡ component_name q → j ≡ k
one_more x ps own rest zero zero p q a b same = refl
one_more x ps own rest zero (suc k) p q a b same = let o = place_of ps k q b in let e = own zero (suc o.0) p q a o.1 same in omega (arith, e)
one_more x ps own rest (suc j) zero p q a b same = let o = place_of ps j p a in let e = own zero (suc o.0) q p b o.1 (sym same) in omega (arith, e)
one_more x ps own rest (suc j) (suc k) p q a b same = ap (λ (n : ℕ). suc n) (rest j k p q a b same)

others : (x : ComponentState) (ps : List ComponentState) → HaveOwnNames (x ∷ ps) → HaveOwnNames ps
others x ps own = λ j k p q a b same. let e = own (suc j) (suc k) p q a b same in omega (arith, e)

names_standing : (ps : List ComponentState) → HaveOwnNames ps → HaveOwnNames (standing ps)
names_standing [] own = λ j k p q a b same. absurd cc
names_standing (x ∷ ps) own = by (not (is_over x)) (names_standing ps (others x ps own))
  where
    by : (b : Bool) → HaveOwnNames (standing ps) → HaveOwnNames (if b then x ∷ standing ps else standing ps)
    by true rest = one_more x ps own rest
    by false rest = rest

-- ---- all of them, and a change

pub drives_standing : (w : Components) → AreDriven w → AreDriven (standing_of w)
drives_standing w d = record {
  alone = all_of IsKeptPart w.parts d.alone;
  names = names_standing w.parts d.names;
  r = d.r;
  s = d.s;
  ordered = all_of (IsOrderedPart d.r d.s (standing w.parts)) w.parts
      (each (IsOrderedPart d.r d.s w.parts) (IsOrderedPart d.r d.s (standing w.parts)) (ordered_one d.r d.s w.parts) w.parts d.ordered);
  each = all_of (IsDriven d.r (standing w.parts)) w.parts
      (each (IsDriven d.r w.parts) (IsDriven d.r (standing w.parts)) (driven_one d.r d.s w.parts) w.parts d.each);
}

standing_twice : (ps : List ComponentState) → standing (standing ps) ≡ standing ps
standing_twice [] = refl
standing_twice (p ∷ ps) = by (is_over p) refl (standing_twice ps)
  where
    by : (b : Bool) → is_over p ≡ b → standing (standing ps) ≡ standing ps →
        standing (if not b then p ∷ standing ps else standing ps) ≡ (if not b then p ∷ standing ps else standing ps)
    by true is rest = rest
    by false is rest = rw is (ap (λ (qs : List ComponentState). p ∷ qs) rest)

pub change_standing : (items : List Fitted) (counts : List ℕ) (steady : Bool) (w : Components) → changed_to items counts steady (standing_of w)
    ≡ changed_to items counts steady w
change_standing items counts steady w = ap (λ (ps : List ComponentState). record w { parts = with_items (counted 0 counts items) ps; steady = steady })
    (standing_twice w.parts)
