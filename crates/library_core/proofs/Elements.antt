-- Elements of mapped lists, and of lists with one more candidate.
use Rattle.std.proofs.Common.{◌≡◌, ◌+◌, ◌≤◌, ◌⊎◌, List, ◌∷◌, ◌++◌, length, map, get_or, refl, sym, ap, subst, ◌∙◌, inl, inr, arith, length-append}
use Rattle.std.specs.List.{All, Contains}
use Rattle.std.proofs.lemmas.List.{get_or_default}
use Rattle.std.proofs.lemmas.List.Elements.{All-contains, Contains-append_left, Contains-append_right, Contains-append_cases}
use Rattle.nuc_base.proofs.Lists.{in_cons, in_there, in_here, in_map, from_map, all_from_in}
use Rattle.recipe_reader.specs.Members.{members, IsRising}
use Rattle.recipe_reader.specs.Candidates.{IsAlike, IsAdded}
use Rattle.recipe_reader.specs.declared.candidate.Candidate.{Candidate}
use Rattle.recipe_reader.proofs.Orders.{one_alike}
use Rattle.library_core.specs.Sources.{Source, source}

-- two of a rising list that are alike are one
pub alike_one : (cs : List Candidate) (a b : Candidate) → IsRising (members cs) → Contains cs a → Contains cs b → IsAlike a b → a ≡ b
alike_one cs a b rising i j alike =
    let here : (d : Candidate) → get_or cs i.0 d ≡ a = λ d. get_or_default cs i.0 d a i.1 ∙ i.2 in
    let one : get_or cs i.0 b ≡ b = one_alike cs b b i.0 rising i.1 (λ d. subst (λ (c : Candidate). IsAlike c b) (sym (here d)) alike) j
    (record { name = refl; version = refl }) in
    sym (here b) ∙ one

-- ---- one more candidate

pub in_added : (cs new : List Candidate) (c d : Candidate) → IsAdded cs c new → Contains new d → Contains cs d ⊎ (c ≡ d)
in_added cs new c d (inl h) i = inl (subst (λ (l : List Candidate). Contains l d) h.1 i)
in_added cs new c d (inr put) i =
    let there : Contains (put.before ++ c ∷ put.after) d = subst (λ (l : List Candidate). Contains l d) put.is i in
    let back : Contains (put.before ++ put.after) d → Contains cs d = subst (λ (l : List Candidate). Contains l d) (sym put.was) in
    elim (Contains-append_cases put.before (c ∷ put.after) d there) [
      | inl b ↦ inl (back (Contains-append_left put.before put.after d b))
      | inr a ↦ elim (in_cons c put.after d a) [
        | inl e ↦ inr e
        | inr r ↦ inl (back (Contains-append_right put.before put.after d r))
      ]
    ]

pub still_in : (cs new : List Candidate) (c d : Candidate) → IsAdded cs c new → Contains cs d → Contains new d
still_in cs new c d (inl h) i = subst (λ (l : List Candidate). Contains l d) (sym h.1) i
still_in cs new c d (inr put) i =
    let there : Contains (put.before ++ put.after) d = subst (λ (l : List Candidate). Contains l d) put.was i in
    subst (λ (l : List Candidate). Contains l d) (sym put.is) (elim (Contains-append_cases put.before put.after d there) [
      | inl b ↦ Contains-append_left put.before (c ∷ put.after) d b
      | inr a ↦ Contains-append_right put.before (c ∷ put.after) d (in_there c put.after d a)
    ])

source_of_alike : (d c : Candidate) → IsAlike d c → d.bytes ≡ c.bytes → source d ≡ source c
source_of_alike d c alike same = λ i. record { name = alike.name i; version = alike.version i; bytes = same i }

pub now_in : (cs new : List Candidate) (c : Candidate) → IsAdded cs c new → Contains (map source new) (source c)
now_in cs new c (inl h) =
    let s = h.0 in
    subst (λ (l : List Candidate). Contains (map source l) (source c)) (sym h.1)
    (subst (λ (x : Source). Contains (map source cs) x) (source_of_alike s.as_one c s.alike s.same) (in_map source cs s.as_one s.there))
now_in cs new c (inr put) =
    subst (λ (l : List Candidate). Contains (map source l) (source c)) (sym put.is)
    (in_map source (put.before ++ c ∷ put.after) c (Contains-append_right put.before (c ∷ put.after) c (in_here c put.after)))

-- the same of their sources
pub source_added : (cs new : List Candidate) (c : Candidate) (s : Source) → IsAdded cs c new → Contains (map source new) s → Contains (map source cs) s ⊎
    (source c ≡ s)
source_added cs new c s h i =
    let r = from_map source new s i in
    elim (in_added cs new c r.0 h r.1) [
      | inl old ↦ inl (subst (λ (x : Source). Contains (map source cs) x) r.2 (in_map source cs r.0 old))
      | inr e ↦ inr (ap source e ∙ r.2)
    ]

pub source_still : (cs new : List Candidate) (c : Candidate) (s : Source) → IsAdded cs c new → Contains (map source cs) s → Contains (map source new) s
source_still cs new c s h i =
    let r = from_map source cs s i in
    subst (λ (x : Source). Contains (map source new) x) r.2 (in_map source new r.0 (still_in cs new c r.0 h r.1))

pub all_added : (P : Candidate → Type 0) (cs new : List Candidate) (c : Candidate) → IsAdded cs c new → All P cs → P c → All P new
all_added P cs new c h all one = all_from_in P new (λ d i. elim (in_added cs new c d h i) [
  | inl old ↦ All-contains P cs d all old
  | inr e ↦ subst P e one
])

pub length_added : (cs new : List Candidate) (c : Candidate) → IsAdded cs c new → length new ≤ length cs + 1
length_added cs new c (inl h) = subst (λ (l : List Candidate). length l ≤ length cs + 1) (sym h.1) (omega arith)
length_added cs new c (inr put) =
    omega (arith, ap length put.is, ap length put.was, length-append put.before (c ∷ put.after), length-append put.before put.after)
