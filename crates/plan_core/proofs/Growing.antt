-- Lists that grow by one element at a time.
use Rattle.std.proofs.Common.{◌≡◌, ℕ, zero, suc, ◌<◌, ◌+◌, List, [], ◌∷◌, ◌++◌, length, map, drop, get_or, refl, sym, ap, subst, ◌∙◌, append_assoc, arith}
use Rattle.std.specs.Prelude.{Option, Some, None, Result, Ok, Err, MatchResult, slice_get}
use Rattle.std.specs.Result.{IsErrAnd}
use Rattle.std.specs.List.{All, Contains, remove}
use Rattle.std.proofs.lemmas.List.{drop_more, map-append}
use Rattle.std.proofs.lemmas.List.Elements.{All-tail, All-head, All-push, All-contains, All-get_or}
use Rattle.std.proofs.lemmas.Option.{slice_get_within, get_or_from_slice_get, slice_get_read}
use Rattle.nuc_base.specs.Tables.{AllHold, IsFirst, IsFaultBy, each}
use Rattle.nuc_base.proofs.Lists.{in_map}
use Rattle.nuc_base.proofs.Tables.{first_after, all_both, fault_along, fault_before}
use Rattle.recipe_reader.specs.declared.candidate.Candidate.{Candidate}
use Rattle.tree_core.specs.View.{view}
use Rattle.tree_core.specs.Regular.{IsRegular}
use Rattle.records.specs.Stored.{Item, item_view}
use Rattle.records.specs.declared.record.Item as code
use Rattle.device.specs.Plans.{AreRegularItems}
use Rattle.plan_core.specs.Plans.{config_lines}
use Rattle.plan_core.specs.Set.{chosen, with_candidate}
use Rattle.plan_core.specs.declared.fault.PlanFault.{PlanFault}
use Rattle.plan_core.specs.declared.fault.PlanFault.TheVariants as fault

-- the next element comes first of those that are left
pub next : {X : Type 0} (xs : List X) (i : ℕ) (x : X) → i < length xs → x ≡ get_or xs i x → drop i xs ≡ x ∷ drop (i + 1) xs
next xs i x below is = drop_more xs i x below ∙ ap (λ y. y ∷ drop (i + 1) xs) (sym is)

-- one more is made of what is left
pub pushed : {Y Z : Type 0} (v : Y → Z) (old : List Y) (new : Y) (left rest all : List Z) → map v old ++ left ≡ all → left ≡ v new ∷ rest →
    map v (old ++ new ∷ []) ++ rest ≡ all
pushed v old new left rest all so_far is =
    ap (λ l. l ++ rest) (map-append v old (new ∷ [])) ∙ append_assoc (map v old) (v new ∷ []) rest ∙ ap (λ l. map v old ++ l) (sym is) ∙ so_far

pub element : {X : Type 0} (xs : List X) (i : ℕ) (x : X) → slice_get xs i ≡ Some x → Contains xs x
element xs i x there = (i, slice_get_within xs i x there, get_or_from_slice_get xs i x x there)

-- ---- the lines of configurations

-- where the lines of those that are left hold, or one of them is the first that fails, so it is of all
pub record Checked (all rest : List Item) : Type 0 where
  pub faults : (f : PlanFault) → IsFirst (each config_lines rest) f → IsFirst (each config_lines all) f
  pub holds : AllHold (each config_lines rest) → AllHold (each config_lines all)

pub checked_start : (all : List Item) → Checked all all
checked_start all = record { faults = λ f h. h; holds = λ h. h }

pub checked_more : (all rest : List Item) (x : Item) → Checked all (x ∷ rest) → AllHold (config_lines x) → Checked all rest
checked_more all rest x c holds = record {
  faults = λ f h. c.faults f (first_after (config_lines x) (each config_lines rest) f holds h);
  holds = λ h. c.holds (all_both (config_lines x) (each config_lines rest) holds h);
}

pub checked_fault : (all rest : List Item) (x : Item) (f : PlanFault) → Checked all (x ∷ rest) → IsFaultBy fault.NoMemory (config_lines x) f →
    IsFaultBy fault.NoMemory (each config_lines all) f
checked_fault all rest x f c h = fault_along fault.NoMemory (each config_lines (x ∷ rest)) (each config_lines all) f c.faults
    (fault_before fault.NoMemory (config_lines x) (each config_lines rest) f h)

-- ---- chosen candidates

-- what stands at a place of the choice stands at the place that was chosen
pub record IsChosenAt (cs : List Candidate) (set : List ℕ) (a : ℕ) (c : Candidate) : Type 0 where
  pub place : ℕ
  pub listed : slice_get set a ≡ Some place
  pub there : slice_get cs place ≡ Some c

pub some_below : {X : Type 0} (xs : List X) (p : ℕ) → p < length xs → slice_get xs p ≡ None → ⊥
some_below [] p below none = absurd (omega (arith, below))
some_below (x ∷ xs) zero below none = absurd (cc)
some_below (x ∷ xs) (suc p) below none = some_below xs p (omega (arith, below)) none

at_step : (cs : List Candidate) (p : ℕ) (ps : List ℕ) (o : Option Candidate) → slice_get cs p ≡ o → p < length cs
    → ((a : ℕ) (c : Candidate) → slice_get (chosen cs ps) a ≡ Some c → IsChosenAt cs ps a c)
    → (a : ℕ) (c : Candidate) → slice_get (with_candidate o (chosen cs ps)) a ≡ Some c → IsChosenAt cs (p ∷ ps) a c
at_step cs p ps None is below more a c there = absurd (some_below cs p below is)
at_step cs p ps (Some x) is below more zero c there = record { place = p; listed = refl; there = is ∙ there }
at_step cs p ps (Some x) is below more (suc a) c there =
    let m = more a c there in
    record { place = m.place; listed = m.listed; there = m.there }

pub chosen_at : (cs : List Candidate) (set : List ℕ) → All (λ p. p < length cs) set → (a : ℕ) (c : Candidate) → slice_get (chosen cs set) a ≡ Some c →
    IsChosenAt cs set a c
chosen_at cs [] below a c there = absurd (cc)
chosen_at cs (p ∷ ps) below a c there =
    at_step cs p ps (slice_get cs p) refl (All-head (λ q. q < length cs) p ps below) (chosen_at cs ps (All-tail (λ q. q < length cs) p ps below)) a c there

long_step : (cs : List Candidate) (p : ℕ) (rest : List Candidate) (n : ℕ) (o : Option Candidate) → slice_get cs p ≡ o → p < length cs → length rest ≡ n →
    length (with_candidate o rest) ≡ n + 1
long_step cs p rest n None is below same = absurd (some_below cs p below is)
long_step cs p rest n (Some x) is below same = omega (arith, same)

-- as many as there are places
pub chosen_long : (cs : List Candidate) (set : List ℕ) → All (λ p. p < length cs) set → length (chosen cs set) ≡ length set
chosen_long cs [] below = refl
chosen_long cs (p ∷ ps) below =
    let l = long_step cs p (chosen cs ps) (length ps) (slice_get cs p) refl (All-head (λ q. q < length cs) p ps below)
    (chosen_long cs ps (All-tail (λ q. q < length cs) p ps below)) in
    omega (arith, l)

pub chosen_next : (cs : List Candidate) (set : List ℕ) (i : ℕ) (c : Candidate) → i < length set → All (λ p. p < length cs) set →
    c ≡ get_or cs (get_or set i 0) c
    → chosen cs (drop i set) ≡ c ∷ chosen cs (drop (i + 1) set)
chosen_next cs set i c below all is =
    let there : slice_get cs (get_or set i 0) ≡ Some c = slice_get_read cs (length cs) (get_or set i 0) c refl
    (All-get_or (λ p. p < length cs) set i 0 below all) is in
    ap (chosen cs) (drop_more set i 0 below) ∙ ap (λ (o : Option Candidate). with_candidate o (chosen cs (drop (i + 1) set))) there

-- ---- regular trees

pub regular_push : (items : List code.Item) (item : code.Item) → AreRegularItems (map item_view items) → IsRegular (view item.config) →
    AreRegularItems (map item_view (items ++ item ∷ []))
regular_push items item all one =
    subst AreRegularItems (sym (map-append item_view items (item ∷ [])))
    (All-push (λ (i : Item). IsRegular i.config) (map item_view items) (item_view item) all one)

pub regular_at : (items : List code.Item) (i : ℕ) (x : code.Item) → i < length items → x ≡ get_or items i x → AreRegularItems (map item_view items) →
    IsRegular (view x.config)
regular_at items i x below is all =
    All-contains (λ (item : Item). IsRegular item.config) (map item_view items) (item_view x) all (in_map item_view items x (i, below, sym is))

-- ---- answers

-- a fault that `?` hands on
pub handed : {A F : Type 0} (P : A → Type 0) (Q : F → Type 0) (result : Result A F) (f : F) → IsErrAnd result (λ e. e ≡ f) → Q f → MatchResult result P Q
handed P Q (Ok v) f h q = absurd h
handed P Q (Err e) f h q = subst Q (sym h) q

-- ---- a list that is taken from its beginning

pub first_removed : {X : Type 0} (xs : List X) (x : X) (ys : List X) → 0 < length xs → x ≡ get_or xs 0 x → ys ≡ remove xs 0 → xs ≡ x ∷ ys
first_removed [] x ys some is left = absurd (omega (arith, some))
first_removed (z ∷ xs) x ys some is left =
    let head : z ≡ x = sym is in
    let tail : xs ≡ ys = sym left in
    ap (λ y. y ∷ xs) head ∙ ap (λ l. x ∷ l) tail

pub heads : {X : Type 0} (x y : X) (xs ys : List X) → x ∷ xs ≡ y ∷ ys → x ≡ y
heads x y xs ys e = cc

pub tails : {X : Type 0} (x y : X) (xs ys : List X) → x ∷ xs ≡ y ∷ ys → xs ≡ ys
tails x y xs ys e = cc
