-- Items beside their candidates, and what a set has already.
use Rattle.std.proofs.Common.{◌≡◌, ℕ, zero, suc, ◌<◌, ◌+◌, Bool, true, false, not, List, [], ◌∷◌, length, map, get_or, refl, sym, ap, subst, ◌∙◌, arith, inl}
use Rattle.std.proofs.Common.{inr}
use Rattle.std.specs.Prelude.{◌≢◌, ◌↔◌, IsTrue, Some, None, IsSome, slice_get, option_map, if◌then◌else◌}
use Rattle.std.specs.Str.{bytes_eq}
use Rattle.std.proofs.lemmas.Bool.{false≢true}
use Rattle.std.proofs.lemmas.Slice.Eq.{bytes_eq-Decides}
use Rattle.std.proofs.lemmas.List.{length-map}
use Rattle.std.proofs.lemmas.Option.{slice_get_within, slice_get-map, slice_get_read}
use Rattle.nuc_base.proofs.Lists.{in_here}
use Rattle.library_core.specs.Gathered.{KeepBytes}
use Rattle.recipe_reader.specs.Candidates.{IsReadFor}
use Rattle.recipe_reader.specs.OneRecipe.{IsRecipeFor}
use Rattle.recipe_reader.specs.declared.candidate.Candidate.{Candidate}
use Rattle.recipe_reader.specs.declared.recipe.StepDef.{StepDef}
use Rattle.records.specs.Stored.{Item, item_view}
use Rattle.records.specs.declared.record.Item as code
use Rattle.records.specs.declared.record.Origin.{Origin}
use Rattle.device.specs.Lawful.{place, place_from}
use Rattle.plan_core.specs.Boots.{IsChanged, IsOtherVersion, ScriptsDiffer, IsDue}
use denote.Bor.{Bor}
use Rattle.plan_core.specs.Looks.{IsOf, AreOf, candidates_of}
use Rattle.plan_core.proofs.Growing.{element}

differ_by : (a b : List ℕ) (r e : Bool) → r ≡ not e → bytes_eq a b ≡ e → IsTrue r ↔ (a ≢ b)
differ_by a b r true is same = (λ t. absurd (false≢true (sym is ∙ t)), λ d. absurd (d ((bytes_eq-Decides a b).0 same)))
differ_by a b r false is other = (λ t e. false≢true (sym other ∙ (bytes_eq-Decides a b).1 e), λ d. is)

-- whether two texts are two
pub differs : (a b : List ℕ) (r : Bool) → r ≡ not (bytes_eq a b) → IsTrue r ↔ (a ≢ b)
differs a b r is = differ_by a b r (bytes_eq a b) is refl

-- ---- places of a set

item_step : (k : ℕ) (n : List ℕ) (i : Item) (items : List Item) (p : ℕ) (b : Bool) → bytes_eq n i.name ≡ b
    → (place_from (k + 1) n items ≡ Some p → (at : ℕ) × (p ≡ (k + 1) + at) × (j : Item) × (slice_get items at ≡ Some j) × (j.name ≡ n))
    → (if b then Some k else place_from (k + 1) n items) ≡ Some p → (at : ℕ) × (p ≡ k + at) × (j : Item) × (slice_get (i ∷ items) at ≡ Some j) × (j.name ≡ n)
item_step k n i items p true e more is =
    let same : k ≡ p = cc in
    (0, omega (arith, same), i, refl, sym ((bytes_eq-Decides n i.name).0 e))
item_step k n i items p false e more is =
    let m = more is in
    let far = m.1 in
    (suc m.0, omega (arith, far), m.2, m.3, m.4)

item_found : (k : ℕ) (n : List ℕ) (items : List Item) (p : ℕ) → place_from k n items ≡ Some p → (at : ℕ) × (p ≡ k + at) × (j : Item) ×
    (slice_get items at ≡ Some j) × (j.name ≡ n)
item_found k n [] p is = absurd (cc)
item_found k n (i ∷ items) p is = item_step k n i items p (bytes_eq n i.name) refl (item_found (k + 1) n items p) is

item_at : (n : List ℕ) (items : List Item) (p : ℕ) → place n items ≡ Some p → (j : Item) × (slice_get items p ≡ Some j) × (j.name ≡ n)
item_at n items p is =
    let f = item_found 0 n items p is in
    let same = f.1 in
    (f.2, subst (λ q. slice_get items q ≡ Some f.2) (omega (arith, same)) f.3, f.4)

pub placed : (n : List ℕ) (set : List code.Item) (p : ℕ) → Some p ≡ place n (map item_view set) → p < length set
placed n set p is =
    let a = item_at n (map item_view set) p (sym is) in
    let below = slice_get_within (map item_view set) p a.0 a.1 in
    let long = length-map set item_view in
    omega (arith, below, long)

pub placed_there : (set : List code.Item) (p : ℕ) (x : code.Item) → p < length set → x ≡ get_or set p x → slice_get (map item_view set) p ≡ Some (item_view x)
placed_there set p x below is = slice_get-map item_view set p ∙ ap (option_map item_view) (slice_get_read set (length set) p x refl below is)

pub placed_name : (n : List ℕ) (set : List code.Item) (p : ℕ) (x : code.Item) → Some p ≡ place n (map item_view set) → x ≡ get_or set p x → x.name ≡ n
placed_name n set p x is at =
    let a = item_at n (map item_view set) p (sym is) in
    let both : Some a.0 ≡ Some (item_view x) = sym a.1 ∙ placed_there set p x (placed n set p is) at in
    let same : a.0 ≡ item_view x = cc in
    ap (λ (i : Item). i.name) (sym same) ∙ a.2

-- ---- what is changed

pub changed_version : (origin : Origin) (set items : List Item) (at before : ℕ) (version : List ℕ) (i : Item) → slice_get set before ≡ Some i →
    i.version ≢ version
    → IsChanged origin set items at version (Some before)
changed_version origin set items at before version i there other = inl (subst (λ o. IsOtherVersion o version) (sym there) other)

pub changed_script : (origin : Origin) (set items : List Item) (at before : ℕ) (version : List ℕ) (i : Item) (b : Bool) → slice_get set before ≡ Some i →
    i.version ≡ version
    → IsTrue b ↔ ScriptsDiffer origin set items before at → IsTrue b ↔ IsChanged origin set items at version (Some before)
changed_script origin set items at before version i b there same tells = (
  λ t. inr (tells.0 t),
  λ changed. elim changed [
    | inl other ↦ absurd ((subst (λ o. IsOtherVersion o version) there other) same)
    | inr differ ↦ tells.1 differ
  ],
)

-- the set's item in that version has the candidate's recipe
pub kept_reads : (origin : Origin) (set : List Item) (before : ℕ) (c : Candidate) (i : Item) → slice_get set before ≡ Some i → i.name ≡ c.recipe.name →
    i.version ≡ c.recipe.version
    → KeepBytes set (c ∷ []) → IsReadFor origin.platform c → IsRecipeFor i.recipe origin.platform c.recipe
kept_reads origin set before c i there name version kept read =
    subst (λ (bytes : List ℕ). IsRecipeFor bytes origin.platform c.recipe) (kept i c (element set before i there) (in_here c []) (sym name) (sym version)) read

-- ---- beside one another

pub beside : (cs : List Candidate) (items : List Item) → AreOf cs items → (at : ℕ) (c : Candidate) → slice_get cs at ≡ Some c → (i : Item) ×
    (slice_get items at ≡ Some i) × IsOf c i
beside [] items of at c there = absurd (cc)
beside (x ∷ cs) [] of at c there = absurd of
beside (x ∷ cs) (i ∷ items) of zero c there =
    let same : x ≡ c = cc in
    (i, refl, subst (λ (y : Candidate). IsOf y i) same of.0)
beside (x ∷ cs) (i ∷ items) of (suc at) c there = beside cs items of.1 at c there

pub reads_beside : (origin : Origin) (cs : List Candidate) (items : List Item) (at : ℕ) (c : Candidate) → AreOf cs items → slice_get cs at ≡ Some c →
    IsReadFor origin.platform c
    → (i : Item) × (slice_get items at ≡ Some i) × IsRecipeFor i.recipe origin.platform c.recipe
reads_beside origin cs items at c of there read =
    let b = beside cs items of at c there in
    (b.0, b.1, subst (λ (bytes : List ℕ). IsRecipeFor bytes origin.platform c.recipe) (sym b.2.2) read)

pub due : (origin : Origin) (set : List Item) (cs : List Candidate) (items : List Item) (at : ℕ) (c : Candidate) (step : StepDef) (b : Bool) →
    slice_get cs at ≡ Some c
    → c.recipe.bootstrap ≡ Some step → IsTrue b ↔ IsChanged origin set items at c.recipe.version (place c.recipe.name set) → IsTrue b ↔ IsDue origin
    set cs items at
due origin set cs items at c step b there has tells = (
  λ t. record { candidate = c; there = there; step = subst IsSome (sym has) refl; changed = tells.0 t },
  λ d. let both : Some d.candidate ≡ Some c = sym d.there ∙ there in
      let same : d.candidate ≡ c = cc in
      tells.1 (subst (λ (x : Candidate). IsChanged origin set items at x.recipe.version (place x.recipe.name set)) same d.changed),
)

pub not_due : (origin : Origin) (set : List Item) (cs : List Candidate) (items : List Item) (at : ℕ) (c : Candidate) → slice_get cs at ≡ Some c
    → c.recipe.bootstrap ≡ None → IsTrue false ↔ IsDue origin set cs items at
not_due origin set cs items at c there none = (
  λ t. absurd (false≢true t),
  λ d. let both : Some d.candidate ≡ Some c = sym d.there ∙ there in
      let same : d.candidate ≡ c = cc in
      absurd (false≢true (subst IsSome none (subst (λ (x : Candidate). IsSome x.recipe.bootstrap) same d.step))),
)

same_by : (a b : List ℕ) (e : Bool) → false ≡ not e → bytes_eq a b ≡ e → a ≡ b
same_by a b true is same = (bytes_eq-Decides a b).0 same
same_by a b false is other = absurd (false≢true is)

pub same_text : (a b : List ℕ) → false ≡ not (bytes_eq a b) → a ≡ b
same_text a b is = same_by a b (bytes_eq a b) is refl

-- the candidate behind a reference
pub chosen_there : (choice : List (Bor Candidate)) (at : ℕ) (b : Bor Candidate) → at < length choice → b ≡ get_or choice at b →
    slice_get (candidates_of choice) at ≡ Some b.now
chosen_there choice at b below is =
    slice_get-map (λ (x : Bor Candidate). x.now) choice at ∙ ap (option_map (λ (x : Bor Candidate). x.now))
    (slice_get_read choice (length choice) at b refl below is)
