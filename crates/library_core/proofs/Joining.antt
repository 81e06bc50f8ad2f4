-- From the candidates so far to those with one more source.
use Rattle.std.proofs.Common.{◌≡◌, ◌≢◌, ℕ, ◌⊎◌, ◌↔◌, List, [], ◌∷◌, ◌++◌, map, Ok, refl, sym, ap, subst, ◌∙◌, inl, inr, append_assoc}
use Rattle.std.specs.List.{All, Contains}
use Rattle.std.proofs.lemmas.List.Elements.{All-cons, All-nil, Contains-append_left, Contains-push, Contains-push_cases}
use Rattle.nuc_base.proofs.Lists.{in_nil, in_cons, in_there, from_map, in_map}
use Rattle.nuc_base.specs.declared.platform.Platform.{Platform}
use Rattle.records.specs.declared.record.Origin.{Origin}
use Rattle.records.specs.Stored.{Item}
use Rattle.tree_core.specs.Laws.{IsOneTree}
use Rattle.recipe_reader.specs.Recipes.{ReadsRecipe}
use Rattle.recipe_reader.specs.Members.{members, IsRising}
use Rattle.recipe_reader.specs.Candidates.{IsReadFor, IsAlike, IsAdded, HasClash, IsNucleus, nucleus_name}
use Rattle.recipe_reader.specs.declared.candidate.Candidate.{Candidate}
use Rattle.library_core.specs.Sources.{Source, source, nucleus, kept_source, own, IsTaken, IsSkipped, IsSource, HasNoClash, IsAgainst}
use Rattle.library_core.specs.Gathered.{AreGathered, IsFirstClash}
use Rattle.library_core.specs.Faults.{IsClash}
use Rattle.library_core.specs.SoFar.{IsOther, IsAmongKept, IsClashFault}
use Rattle.library_core.specs.declared.fault.CandidatesFault.{CandidatesFault}
use Rattle.library_core.specs.declared.fault.CandidatesFault.TheVariants.{Library, TooManyRecipes, Recipe, RecipeDiffers, TwoRecipes, NoMemory}
use Rattle.library_core.proofs.Elements.{alike_one, source_added, source_still, now_in, all_added}
use Rattle.library_core.proofs.Readings.{never_both, one_source}

-- candidates whose sources are those of which P holds
pub record AreOf (P : Source → Type 0) (p : Platform) (cs : List Candidate) : Type 0 where
  pub rising : IsRising (members cs)
  pub read : All (IsReadFor p) cs
  pub whole : (s : Source) → Contains (map source cs) s ↔ P s

-- the sources of candidates in order agree
pub sources_agree : (P : Source → Type 0) (p : Platform) (cs : List Candidate) → AreOf P p cs → HasNoClash P
sources_agree P p cs are a b at_a at_b clash =
    let x = from_map source cs a ((are.whole a).1 at_a) in
    let y = from_map source cs b ((are.whole b).1 at_b) in
    let alike : IsAlike x.0 y.0 = record {
      name = ap (λ (s : Source). s.name) x.2 ∙ clash.name ∙ sym (ap (λ (s : Source). s.name) y.2);
      version = ap (λ (s : Source). s.version) x.2 ∙ clash.version ∙ sym (ap (λ (s : Source). s.version) y.2);
    } in
    let one = alike_one cs x.0 y.0 are.rising x.1 y.1 alike in
    clash.differs (sym (ap (λ (s : Source). s.bytes) x.2) ∙ ap (λ (c : Candidate). c.bytes) one ∙ ap (λ (s : Source). s.bytes) y.2)

pub grown : (P : Source → Type 0) (p : Platform) (cs new : List Candidate) (c : Candidate) → AreOf P p cs → IsAdded cs c new → IsRising (members new) →
    IsReadFor p c → AreOf (λ s. P s ⊎ (source c ≡ s)) p new
grown P p cs new c are added rising read = record {
  rising = rising;
  read = all_added (IsReadFor p) cs new c added are.read read;
  whole = λ s. (
    λ i. elim (source_added cs new c s added i) [ inl old ↦ inl ((are.whole s).0 old) | inr e ↦ inr e ],
    λ i. elim i [
      | inl old ↦ source_still cs new c s added ((are.whole s).1 old)
      | inr e ↦ subst (λ (x : Source). Contains (map source new) x) e (now_in cs new c added)
    ],
  );
}

pub same_sources : (P Q : Source → Type 0) (p : Platform) (cs : List Candidate) → ((s : Source) → P s ↔ Q s) → AreOf P p cs → AreOf Q p cs
same_sources P Q p cs same are = record {
  rising = are.rising;
  read = are.read;
  whole =
      λ s. (λ i. (same s).0 ((are.whole s).0 i), λ q. (are.whole s).1 ((same s).1 q));
}

pub of_gathered : (mine : List Source) (p : Platform) (recipes : List (List ℕ)) (cs : List Candidate) → AreGathered mine p recipes cs →
    AreOf (IsSource mine p recipes) p cs
of_gathered mine p recipes cs g = record { rising = g.rising; read = g.read; whole = g.whole }

pub gathered_of : (mine : List Source) (p : Platform) (recipes : List (List ℕ)) (cs : List Candidate) → AreOf (IsSource mine p recipes) p cs →
    AreGathered mine p recipes cs
gathered_of mine p recipes cs g = record { rising = g.rising; read = g.read; whole = g.whole }

-- what clashes with a candidate clashes with a source
pub against : (P : Source → Type 0) (p : Platform) (cs : List Candidate) (c : Candidate) → AreOf P p cs → HasClash cs c → IsAgainst P (source c)
against P p cs c are clash = (
  source clash.with,
  (are.whole (source clash.with)).0 (in_map source cs clash.with clash.there),
  record { name = clash.alike.name; version = clash.alike.version; differs = clash.differs },
)

-- ---- the device's own

pub only_nucleus : (version : List ℕ) (p : Platform) (cs : List Candidate) (c : Candidate) → cs ≡ c ∷ [] → IsRising (members cs) → IsNucleus version c →
    AreOf (Contains (nucleus version ∷ [])) p cs
only_nucleus version p cs c is rising n =
    let e : source c ≡ nucleus version = λ i. record { name = n.name i; version = n.version i; bytes = n.bytes i } in record {
      rising = rising;
      read = subst (λ (l : List Candidate). All (IsReadFor p) l) (sym is) (λ k d below. first_of_one k d below);
      whole = λ s. (
        λ i. subst (λ (l : List Source). Contains l s) (ap (map source) is ∙ ap (λ (x : Source). x ∷ []) e) i,
        λ i. subst (λ (l : List Source). Contains l s) (sym (ap (map source) is ∙ ap (λ (x : Source). x ∷ []) e)) i,
      );
    }
  where
    first_of_one : All (IsReadFor p) (c ∷ [])
    first_of_one = All-cons (IsReadFor p) c [] (n.read p) (All-nil (IsReadFor p))

pub own_more : (mine : List Source) (p : Platform) (cs new : List Candidate) (c : Candidate) (s : Source) → AreOf (Contains mine) p cs → IsAdded cs c new →
    IsRising (members new) → IsReadFor p c → source c ≡ s
    → AreOf (Contains (mine ++ s ∷ [])) p new
own_more mine p cs new c s are added rising read is =
    same_sources (λ x. Contains mine x ⊎ (source c ≡ x)) (Contains (mine ++ s ∷ [])) p new
    (λ x. (
      λ i. elim i [
        | inl old ↦ Contains-append_left mine (s ∷ []) x old
        | inr e ↦ subst (λ (y : Source). Contains (mine ++ s ∷ []) y) (sym is ∙ e) (Contains-push mine s)
      ],
      λ i. elim (Contains-push_cases mine s x i) [ inl old ↦ inl old | inr e ↦ inr (is ∙ e) ],
    ))
    (grown (Contains mine) p cs new c are added rising read)

-- no recipe yet
pub own_gathered : (mine : List Source) (p : Platform) (cs : List Candidate) → AreOf (Contains mine) p cs → AreGathered mine p [] cs
own_gathered mine p cs are = gathered_of mine p [] cs (same_sources (Contains mine) (IsSource mine p []) p cs
    (λ s. (λ i. inl i, λ i. elim i [ inl old ↦ old | inr r ↦ absurd (in_nil r.0 r.1) ])) are)

-- ---- a recipe

reads_of : (p : Platform) (b : List ℕ) (c : Candidate) → IsOther p b c → ReadsRecipe b p (Ok c.recipe)
reads_of p b c o = subst (λ (s : List ℕ). ReadsRecipe s p (Ok c.recipe)) o.bytes o.read

source_of : (p : Platform) (b : List ℕ) (c : Candidate) → IsOther p b c → source c ≡ record { name = c.recipe.name; version = c.recipe.version; bytes = b }
source_of p b c o = λ i. record { name = c.recipe.name; version = c.recipe.version; bytes = o.bytes i }

pub taken_of : (p : Platform) (b : List ℕ) (c : Candidate) → IsOther p b c → IsTaken p b (source c)
taken_of p b c o = record {
  recipe = c.recipe;
  reads = reads_of p b c o;
  other = o.other;
  is = source_of p b c o;
}

pub recipe_more : IsOneTree → (mine : List Source) (p : Platform) (before : List (List ℕ)) (b : List ℕ) (cs new : List Candidate) (c : Candidate)
    → AreGathered mine p before cs → IsAdded cs c new → IsRising (members new) → IsOther p b c → AreGathered mine p (before ++ b ∷ []) new
recipe_more one mine p before b cs new c g added rising o =
    let t = taken_of p b c o in
    gathered_of mine p (before ++ b ∷ []) new (same_sources (λ s. IsSource mine p before s ⊎ (source c ≡ s)) (IsSource mine p (before ++ b ∷ [])) p new
    (λ s. (
      λ i. elim i [
        | inl old ↦ wider s old
        | inr e ↦ inr (b, Contains-push before b, subst (λ (x : Source). IsTaken p b x) e t)
      ],
      λ i. elim i [
        | inl m ↦ inl (inl m)
        | inr r ↦ elim (Contains-push_cases before b r.0 r.1) [
          | inl old ↦ inl (inr (r.0, old, r.2))
          | inr e ↦ inr (source_of p b c o ∙ one_source one p b s c.recipe (subst (λ (x : List ℕ). IsTaken p x s) (sym e) r.2) (reads_of p b c o))
        ]
      ],
    ))
    (grown (IsSource mine p before) p cs new c (of_gathered mine p before cs g) added rising o.read))
  where
    wider : (s : Source) → IsSource mine p before s → IsSource mine p (before ++ b ∷ []) s
    wider s (inl m) = inl m
    wider s (inr r) = inr (r.0, Contains-append_left before (b ∷ []) r.0 r.1, r.2)

pub recipe_skipped : IsOneTree → (mine : List Source) (p : Platform) (before : List (List ℕ)) (b : List ℕ) (cs : List Candidate)
    → AreGathered mine p before cs → IsSkipped p b → AreGathered mine p (before ++ b ∷ []) cs
recipe_skipped one mine p before b cs g skipped =
    gathered_of mine p (before ++ b ∷ []) cs (same_sources (IsSource mine p before) (IsSource mine p (before ++ b ∷ [])) p cs
    (λ s. (
      λ i. elim i [ inl m ↦ inl m | inr r ↦ inr (r.0, Contains-append_left before (b ∷ []) r.0 r.1, r.2) ],
      λ i. elim i [
        | inl m ↦ inl m
        | inr r ↦ elim (Contains-push_cases before b r.0 r.1) [
          | inl old ↦ inr (r.0, old, r.2)
          | inr e ↦ absurd (never_both one p b s (subst (λ (x : List ℕ). IsTaken p x s) (sym e) r.2) skipped)
        ]
      ],
    ))
    (of_gathered mine p before cs g))

-- ---- clashes

first_clash : (mine : List Source) (p : Platform) (before : List (List ℕ)) (b : List ℕ) (cs : List Candidate) (c : Candidate)
    → AreGathered mine p before cs → HasClash cs c → IsOther p b c → IsFirstClash mine p (before ++ b ∷ []) (source c)
first_clash mine p before b cs c g clash o =
    let are = of_gathered mine p before cs g in record {
      before = before;
      bytes = b;
      after = [];
      is = refl;
      taken = taken_of p b c o;
      agree = sources_agree (IsSource mine p before) p cs are;
      against = against (IsSource mine p before) p cs c are clash;
    }

-- a kept item of its name and version clashes with it
kept_against : (origin : Origin) (kept : List Item) (p : Platform) (before : List (List ℕ)) (cs : List Candidate) (c : Candidate)
    → AreGathered (own origin kept) p before cs → HasClash cs c → IsAmongKept kept c → IsAgainst (Contains (own origin kept)) (source c)
kept_against origin kept p before cs c g clash k =
    let s = kept_source k.0 in
    let there : Contains (own origin kept) s = in_there (nucleus origin.nucleus) (map kept_source kept) s (in_map kept_source kept k.0 k.1) in
    let x = from_map source cs s ((g.whole s).1 (inl there)) in
    let alike : IsAlike x.0 clash.with = record {
      name = ap (λ (y : Source). y.name) x.2 ∙ k.2.0 ∙ sym clash.alike.name;
      version = ap (λ (y : Source). y.version) x.2 ∙ k.2.1 ∙ sym clash.alike.version;
    } in
    let one = alike_one cs x.0 clash.with g.rising x.1 clash.there alike in
    let same : s.bytes ≡ clash.with.bytes = sym (ap (λ (y : Source). y.bytes) x.2) ∙ ap (λ (d : Candidate). d.bytes) one in
    (s, there, record { name = k.2.0; version = k.2.1; differs = λ e. clash.differs (sym same ∙ e) })

-- and none of the device's own does where there is no such item
never_against : (origin : Origin) (kept : List Item) (c : Candidate) → c.recipe.name ≢ nucleus_name → (IsAmongKept kept c → ⊥) →
    IsAgainst (Contains (own origin kept)) (source c) → ⊥
never_against origin kept c other none a =
    elim (in_cons (nucleus origin.nucleus) (map kept_source kept) a.0 a.1) [
      | inl e ↦ other (sym (ap (λ (s : Source). s.name) e ∙ a.2.name))
      | inr i ↦
          let r = from_map kept_source kept a.0 i in
          none (r.0, r.1, (ap (λ (s : Source). s.name) r.2 ∙ a.2.name, ap (λ (s : Source). s.version) r.2 ∙ a.2.version))
    ]

pub clash_found : (origin : Origin) (kept : List Item) (p : Platform) (before : List (List ℕ)) (b : List ℕ) (cs : List Candidate) (c : Candidate)
    (f : CandidatesFault)
    → AreGathered (own origin kept) p before cs → HasClash cs c → IsOther p b c → IsClashFault kept c f → IsClash (own origin kept) p (before ++ b ∷ []) f
clash_found origin kept p before b cs c f g clash o (inl h) =
    subst (λ (x : CandidatesFault). IsClash (own origin kept) p (before ++ b ∷ []) x) (sym h.1)
    (source c, refl, refl, inr (first_clash (own origin kept) p before b cs c g clash o, kept_against origin kept p before cs c g clash h.0))
clash_found origin kept p before b cs c f g clash o (inr h) =
    subst (λ (x : CandidatesFault). IsClash (own origin kept) p (before ++ b ∷ []) x) (sym h.1)
    (source c, refl, refl, (first_clash (own origin kept) p before b cs c g clash o, never_against origin kept c o.other h.0))

-- the first clash stays the first
first_stays : (mine : List Source) (p : Platform) (before : List (List ℕ)) (b : List ℕ) (s : Source) → IsFirstClash mine p before s →
    IsFirstClash mine p (before ++ b ∷ []) s
first_stays mine p before b s h = record {
  before = h.before;
  bytes = h.bytes;
  after = h.after ++ b ∷ [];
  is = ap (λ (l : List (List ℕ)). l ++ b ∷ []) h.is ∙ append_assoc h.before (h.bytes ∷ h.after) (b ∷ []);
  taken = h.taken;
  agree = h.agree;
  against = h.against;
}

pub clash_stays : (mine : List Source) (p : Platform) (before : List (List ℕ)) (b : List ℕ) (f : CandidatesFault) → IsClash mine p before f →
    IsClash mine p (before ++ b ∷ []) f
clash_stays mine p before b Library h = h
clash_stays mine p before b (TooManyRecipes n) h = h
clash_stays mine p before b (Recipe at f) h = h
clash_stays mine p before b (RecipeDiffers name version) h = (
  h.0,
  h.1,
  h.2,
  elim h.3 [
    | inl mine_first ↦ inl mine_first
    | inr later ↦ inr (first_stays mine p before b h.0 later.0, later.1)
  ],
)
clash_stays mine p before b (TwoRecipes name version) h = (h.0, h.1, h.2, (first_stays mine p before b h.0 h.3.0, h.3.1))
clash_stays mine p before b NoMemory h = h
