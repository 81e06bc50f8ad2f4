-- Requirements as roots, of which one has an update.
use Rattle.std.proofs.Common.{◌≡◌, ℕ, zero, suc, ◌<◌, ◌+◌, List, [], ◌∷◌, ◌++◌, Bool, true, false, ◌||◌, length, map, take, drop, get_or}
use Rattle.std.proofs.Common.{refl, sym, ap, subst, ◌∙◌}
use Rattle.std.proofs.Common.{arith, append_assoc}
use Rattle.std.specs.Prelude.{Option, Some, None, IfSome, if◌then◌else◌}
use Rattle.std.specs.List.{All, list_any}
use Rattle.std.specs.Ordering.{nat_cmp, is_eq}
use Rattle.std.specs.Cmp.Lexicographic.{slice_cmp}
use Rattle.std.specs.Str.{bytes_eq}
use Rattle.std.specs.declared.cmp.Ordering.TheVariants.{Less}
use Rattle.std.proofs.lemmas.List.{drop_more, length-map}
use Rattle.std.proofs.lemmas.List.Elements.{All-nil, All-cons, All-contains, All-from_recursion}
use Rattle.std.proofs.lemmas.List.Folds.{list_any_more}
use Rattle.std.proofs.lemmas.Map.Keys.{sorted_head, sorted_tail}
use Rattle.std.proofs.lemmas.Map.Text.{is_eq-slice_cmp}
use Rattle.std.proofs.lemmas.Slice.Eq.{bytes_eq-Decides}
use Rattle.nuc_base.proofs.Lists.{in_map}
use Rattle.config_ops.specs.declared.update.Update.{Update}
use Rattle.records.specs.declared.record.Requirement.{Requirement}
use Rattle.deployment_doc.specs.Sound.{AreSound, MergesObject, UpdatesByObject, root_name}
use Rattle.deployment_doc.specs.declared.document.Root.{Root}
use Rattle.device.specs.Plans.{AreRequirements, AreRising, requirement_name}
use Rattle.config_cmd.specs.Documents.{root_for}

-- ---- names that rise are not found twice

module _ (n : List ℕ) where
  abbrev named : Requirement → Bool
  named r = bytes_eq n r.name

  apart : (x r : List ℕ) → slice_cmp nat_cmp x r ≡ Less → bytes_eq n r ≡ true → bytes_eq n x ≡ false
  apart x r less same = by (bytes_eq n x) (λ is. (bytes_eq-Decides n x).0 is)
    where
      by : (b : Bool) → (b ≡ true → n ≡ x) → b ≡ false
      by false is = refl
      by true is =
          let here : n ≡ r = (bytes_eq-Decides n r).0 same in
          let equal : bytes_eq x r ≡ true = (bytes_eq-Decides x r).1 (sym (is refl) ∙ here) in
          let other : bytes_eq x r ≡ false = sym (is_eq-slice_cmp x r) ∙ ap is_eq less in
          absurd (let both : true ≡ false = sym equal ∙ other in cc)

  pub not_before : (rs : List Requirement) (i : ℕ) (r : Requirement) → AreRising (map requirement_name rs) → i < length rs → r ≡ get_or rs i r
      → bytes_eq n r.name ≡ true → list_any named (take i rs) ≡ false
  not_before [] i r rise below at same = absurd (omega arith)
  not_before (x ∷ rs) zero r rise below at same = refl
  not_before (x ∷ rs) (suc i) r rise below at same =
      let less : slice_cmp nat_cmp x.name r.name ≡ Less = All-contains (λ (y : List ℕ). slice_cmp nat_cmp x.name y ≡ Less) (map requirement_name rs) r.name
      (All-from_recursion (λ (y : List ℕ). slice_cmp nat_cmp x.name y ≡ Less) (map requirement_name rs)
      (sorted_head (slice_cmp nat_cmp) x.name (map requirement_name rs) rise))
      (in_map requirement_name rs r (i, omega arith, sym at)) in
      ap (λ (b : Bool). b || list_any named (take i rs)) (apart x.name r.name less same)
      ∙ not_before rs i r (sorted_tail (slice_cmp nat_cmp) x.name (map requirement_name rs) rise) (omega arith) at same

  -- ---- one more root

  or_left : (a b : Bool) → (a || b) ≡ false → a ≡ false
  or_left false b is = refl
  or_left true b is = absurd cc

  or_right : (a b : Bool) → (a || b) ≡ false → b ≡ false
  or_right false b is = is
  or_right true b is = absurd cc

  module _ (u : Update) (rs : List Requirement) where
    pub gives : (i : ℕ) (r : Requirement) (left : Option Update) → AreRising (map requirement_name rs) → i < length rs → r ≡ get_or rs i r
        → (list_any named (take i rs) ≡ false → left ≡ Some u) → (b : Bool) → b ≡ bytes_eq n r.name
        → (if b then left else None) ≡ (if bytes_eq n r.name then Some u else None)
    gives i r left rise below at held true is =
        held (not_before rs i r rise below at (sym is)) ∙ ap (λ (b : Bool). if b then Some u else None) is
    gives i r left rise below at held false is = ap (λ (b : Bool). if b then Some u else None) is

    pub keeps : (i : ℕ) (r : Requirement) (left : Option Update) → i < length rs → r ≡ get_or rs i r
        → (list_any named (take i rs) ≡ false → left ≡ Some u) → (b : Bool) → b ≡ bytes_eq n r.name
        → list_any named (take (i + 1) rs) ≡ false → (if b then None else left) ≡ Some u
    keeps i r left below at held b is none = by b (is ∙ ap named at ∙ or_right (list_any named (take i rs)) (named (get_or rs i r)) split)
      where
        split : (list_any named (take i rs) || named (get_or rs i r)) ≡ false
        split = sym (list_any_more named rs i r below) ∙ none

        by : (b : Bool) → b ≡ false → (if b then None else left) ≡ Some u
        by false other = held (or_left (list_any named (take i rs)) (named (get_or rs i r)) split)
        by true other = absurd cc

    pub root_is : (x : Root) (r : Requirement) → x.name ≡ r.name → x.range ≡ r.range → x.update ≡ (if bytes_eq n r.name then Some u else None)
        → x ≡ root_for n u r
    root_is x r name range update =
        ap (λ (a : List ℕ). record { name = a; range = x.range; update = x.update }) name
        ∙ ap (λ (a : List ℕ). record { name = r.name; range = a; update = x.update }) range
        ∙ ap (λ (a : Option Update). record { name = r.name; range = r.range; update = a }) update

    pub pushes : (done : List Root) (i : ℕ) (r : Requirement) (root : Root) → i < length rs → r ≡ get_or rs i r → root ≡ root_for n u r
        → done ++ map (root_for n u) (drop i rs) ≡ map (root_for n u) rs
        → (done ++ root ∷ []) ++ map (root_for n u) (drop (i + 1) rs) ≡ map (root_for n u) rs
    pushes done i r root below at is made =
        append_assoc done (root ∷ []) (map (root_for n u) (drop (i + 1) rs))
        ∙ ap (λ (l : List Root). done ++ l) (ap (λ (x : Root). x ∷ map (root_for n u) (drop (i + 1) rs)) (is ∙ ap (root_for n u) at)
        ∙ sym (ap (map (root_for n u)) (drop_more rs i r below)))
        ∙ made

-- ---- the roots are sound

names_same : (n : List ℕ) (u : Update) (rs : List Requirement) → map root_name (map (root_for n u) rs) ≡ map requirement_name rs
names_same n u [] = refl
names_same n u (r ∷ rs) = ap (λ (l : List (List ℕ)). r.name ∷ l) (names_same n u rs)

one_merges : (u : Update) (b : Bool) → MergesObject u → IfSome (if b then Some u else None) MergesObject
one_merges u true h = h
one_merges u false h = tt

all_merge : (n : List ℕ) (u : Update) (rs : List Requirement) → MergesObject u → All UpdatesByObject (map (root_for n u) rs)
all_merge n u [] h = All-nil UpdatesByObject
all_merge n u (r ∷ rs) h = All-cons UpdatesByObject (root_for n u r) (map (root_for n u) rs) (one_merges u (bytes_eq n r.name) h) (all_merge n u rs h)

pub roots_sound : (n : List ℕ) (u : Update) (rs : List Requirement) → AreRequirements rs → MergesObject u → AreSound (map (root_for n u) rs)
roots_sound n u rs are h = record {
  few = let long = length-map rs (root_for n u) in omega (arith, long, are.few);
  rising = subst AreRising (sym (names_same n u rs)) are.rise;
  merges = all_merge n u rs h;
}
