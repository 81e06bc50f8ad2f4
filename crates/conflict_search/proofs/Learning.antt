-- Nogoods are joined, domains shrink, and the walk goes on.
use Rattle.std.proofs.Common.{◌≡◌, ◌≢◌, ℕ, ◌+◌, ◌-◌, ◌*◌, ◌/◌, ◌<◌, ◌≤◌, ◌⊎◌, length, get_or, List, [], ◌∷◌, ◌++◌, Some, refl, sym, ap, ◌∙◌, subst, inl, inr, arith}
use Rattle.std.specs.List.{Contains}
use Rattle.std.proofs.Common.{append_assoc, append-nil}
use Rattle.std.proofs.lemmas.Bool.{cases_eq}
use Rattle.std.proofs.lemmas.List.Elements.{Contains-push_cases}
use Rattle.std.proofs.lemmas.Option.{same_Some}
use Rattle.std.proofs.lemmas.List.{get_or_default}
use Rattle.nuc_base.proofs.Lists.{in_nil}
use Rattle.recipe_reader.specs.Members.{Need, Member, members, IsRising}
use Rattle.recipe_reader.specs.Sets.{name_of, IsTaken, IsWalk}
use Rattle.recipe_reader.specs.Searches.{HasNone}
use Rattle.recipe_reader.proofs.Required.{taken_or_not}
use Rattle.recipe_reader.proofs.ValidSets.{IsSingle}
use Rattle.conflict_search.specs.Numbers.{IsFirstPlace}
use Rattle.conflict_search.specs.Terms.{Has, IsValue, IsTerm, Stands, Meets, IsNogood, MeetsRow, IsNogoodRow, IsWithin, AreOthersWithin}
use Rattle.conflict_search.specs.declared.terms.Term.{Term}
use Rattle.recipe_reader.specs.declared.candidate.Candidate.{Candidate}
use Rattle.conflict_search.proofs.Words.{has_below}
use Rattle.conflict_search.proofs.Finding.{named_between, within_there}

-- the places of a name stand together
abbrev pub AreTogether : List Member → Type 0
AreTogether ms = (n : List ℕ) (first p last : ℕ) → name_of ms first ≡ Some n → name_of ms last ≡ Some n → first ≤ p → p ≤ last → name_of ms p ≡ Some n

-- no two places of a walk have one name
single_push : (ms : List Member) (taken : List ℕ) (p : ℕ) (n : List ℕ) → IsSingle ms taken → name_of ms p ≡ Some n → (IsTaken ms taken n → ⊥) →
    IsSingle ms (taken ++ p ∷ [])
single_push ms taken p n h e free = λ x y i j same. elim (Contains-push_cases taken p x i) [
  | inl a ↦ elim (Contains-push_cases taken p y j) [
    | inl b ↦ h x y a b same
    | inr f ↦ absurd (free (x, a, same ∙ ap (name_of ms) (sym f) ∙ e))
  ]
  | inr d ↦ elim (Contains-push_cases taken p y j) [
    | inl b ↦ absurd (free (y, b, sym same ∙ ap (name_of ms) (sym d) ∙ e))
    | inr f ↦ sym d ∙ f
  ]
]

single_along : (ms : List Member) (wanted : List Need) (taken walk : List ℕ) → IsSingle ms taken → IsWalk ms wanted taken walk → IsSingle ms (taken ++ walk)
single_along ms wanted taken [] h w = subst (IsSingle ms) (sym (append-nil taken)) h
single_along ms wanted taken (p ∷ ps) h w =
    let next = w.0.2 in
    subst (IsSingle ms) (append_assoc taken (p ∷ []) ps)
    (single_along ms wanted (taken ++ p ∷ []) ps (single_push ms taken p w.0.0 h w.0.1 next.untaken) w.1)

pub walk_single : (ms : List Member) (wanted : List Need) (walk : List ℕ) → IsWalk ms wanted [] walk → IsSingle ms walk
walk_single ms wanted walk w = single_along ms wanted [] walk (λ p q i j e. absurd (in_nil p i)) w

pub first_same : (ms : List Member) (n : List ℕ) (f g : ℕ) → IsFirstPlace ms n f → IsFirstPlace ms n g → f ≡ g
first_same ms n f g a b = let x = a.least g b.named in let y = b.least f a.named in omega (arith, x, y)

pub name_same : (ms : List Member) (n m : List ℕ) (f : ℕ) → IsFirstPlace ms n f → IsFirstPlace ms m f → n ≡ m
name_same ms n m f a b = same_Some n m (sym a.named ∙ b.named)

-- ---- values

module _ (ms : List Member) where
  -- a walk has a value of each name
  pub value_of : (walk : List ℕ) (n : List ℕ) (f : ℕ) → IsFirstPlace ms n f → (v : ℕ) × IsValue ms walk f v
  value_of walk n f is = elim (taken_or_not ms walk n) [
    | inl t ↦ (t.0 + 1 - f, record { name = n; is = is; choice = inr (t.0, t.1, t.2, refl) })
    | inr out ↦ (0, record { name = n; is = is; choice = inl (refl, out) })
  ]

  -- and no other
  pub value_same : (wanted : List Need) (walk : List ℕ) (f v w : ℕ) → Stands ms wanted walk → IsValue ms walk f v → IsValue ms walk f w → v ≡ w
  value_same wanted walk f v w s a b =
      let e : a.name ≡ b.name = name_same ms a.name b.name f a.is b.is in
      elim a.choice [
        | inl x ↦ elim b.choice [
          | inl y ↦ x.0 ∙ sym y.0
          | inr y ↦ absurd (x.1 (y.0, y.1, y.2 ∙ ap Some (sym e)))
        ]
        | inr x ↦ elim b.choice [
          | inl y ↦ absurd (y.1 (x.0, x.1, x.2 ∙ ap Some e))
          | inr y ↦ (let same : x.0 ≡ y.0 = walk_single ms wanted walk s.is_walk x.0 y.0 x.1 y.1 (x.2 ∙ ap Some e ∙ sym y.2) in
              x.3 ∙ ap (λ z. z + 1 - f) same ∙ sym y.3)
        ]
      ]

  -- its word stands at a place of the name
  pub value_word : AreTogether ms → (walk : List ℕ) (f v : ℕ) → (h : IsValue ms walk f v) → name_of ms (f + v / 64) ≡ Some h.name
  value_word together walk f v h =
      let is = h.is in
      elim h.choice [
        | inl x ↦ (let e : f + v / 64 ≡ f = (let z = x.0 in omega (arith, z)) in ap (name_of ms) e ∙ is.named)
        | inr x ↦ (let low = is.least x.0 x.2 in
            let z = x.3 in
            let le : f + v / 64 ≤ x.0 = omega (arith, low, z) in
            together h.name f (f + v / 64) x.0 is.named x.2 (omega arith) le)
      ]

  -- a value in the words of a term is of the term's name
  pub value_within : AreTogether ms → (walk : List ℕ) (f v : ℕ) (t : Term) → IsValue ms walk f v → IsTerm ms t → 64 * t.from ≤ 64 * f + v →
      64 * f + v - 64 * t.from < 64 * length t.set.items → f ≡ t.from
  value_within together walk f v t h term low below =
      let j : ℕ = f + v / 64 - t.from in
      let e : t.from + j ≡ f + v / 64 = omega (arith, low) in
      let small : j < length t.set.items = omega (arith, low, below) in
      let there : name_of ms (f + v / 64) ≡ Some term.name = ap (name_of ms) (sym e) ∙ term.inside j small in
      let here = value_word together walk f v h in
      let same : h.name ≡ term.name = same_Some h.name term.name (sym here ∙ there) in
      first_same ms term.name f t.from (subst (λ n. IsFirstPlace ms n f) same h.is) term.is

  pub value_there : AreTogether ms → (walk : List ℕ) (f v : ℕ) (t : Term) → IsValue ms walk f v → IsTerm ms t → 64 * t.from ≤ 64 * f + v →
      Has t.set.items (64 * f + v - 64 * t.from) → f ≡ t.from
  value_there together walk f v t h term low has =
      value_within together walk f v t h term low (has_below t.set.items (64 * f + v - 64 * t.from) has)

  -- a term has a bit for each value of its name
  pub value_covered : (walk : List ℕ) (v : ℕ) (t : Term) → IsValue ms walk t.from v → IsTerm ms t → v < 64 * length t.set.items
  value_covered walk v t h term =
      let is = term.is in
      let same : h.name ≡ term.name = name_same ms h.name term.name t.from h.is term.is in
      elim h.choice [
        | inl x ↦ (let c = term.covers t.from is.named in let z = x.0 in omega (arith, c, z))
        | inr x ↦ (let c = term.covers x.0 (x.2 ∙ ap Some same) in let z = x.3 in omega (arith, c, z))
      ]

  -- the value of a place is its own
  pub value_place : (walk : List ℕ) (n : List ℕ) (f v p : ℕ) → IsValue ms walk f v → IsFirstPlace ms n f → name_of ms p ≡ Some n → v ≡ p + 1 - f → Contains walk p
  value_place walk n f v p h is e same =
      let low = is.least p e in
      let at = h.is in
      elim h.choice [
        | inl x ↦ (let z = x.0 in absurd (omega (arith, low, z, same)))
        | inr x ↦ (let z = x.3 in
            let low' = at.least x.0 x.2 in
            let q : x.0 ≡ p = omega (arith, low, low', z, same) in
            subst (Contains walk) q x.1)
      ]

  -- ---- nogoods

  pub nogood_row : (wanted : List Need) (terms : List Term) (row : List ℕ) → length row ≡ length ms → IsNogood ms wanted terms →
      ((t : Term) → Contains terms t → IsWithin row t) → IsNogoodRow ms wanted row
  nogood_row wanted terms row count h within = record {
    count = count;
    none = λ walk s met. h.none walk s (λ t i.
        (let term = h.sets t i in
        let m = met term.name t.from term.is in
        (m.0, m.1, within t i m.0 (value_covered walk m.0 t m.1 term) m.2)));
  }

  pub joined_row : (wanted : List Need) (old new : List ℕ) (terms : List Term) (at : ℕ) (t : Term) → AreTogether ms → IsNogoodRow ms wanted old →
      IsNogood ms wanted terms → at < length terms → get_or terms at t ≡ t → length new ≡ length old →
      ((v : ℕ) → Has new v → Has old v ⊎ ((64 * t.from ≤ v) × Has t.set.items (v - 64 * t.from))) → AreOthersWithin new terms at → IsNogoodRow ms wanted new
  joined_row wanted old new terms at t together a b lt is count only others = record {
    count = count ∙ a.count;
    none = λ walk s met.
        (let here : Contains terms t = (at, lt, is) in
        let term = b.sets t here in
        let m = met term.name t.from term.is in
        elim (only (64 * t.from + m.0) m.2) [
          | inl by_old ↦ a.none walk s (λ n f first. (let o = met n f first in elim (only (64 * f + o.0) o.2) [
            | inl kept ↦ (o.0, o.1, kept)
            | inr given ↦ (let e = value_there together walk f o.0 t o.1 term given.0 given.1 in
                subst (MeetsRow ms walk old) (sym e) (m.0, m.1, by_old))
          ]))
          | inr by_new ↦ b.none walk s (λ u i. elim (cases_eq i.0 at) [
            | inl e ↦ (let same : t ≡ u = sym (subst (λ k. get_or terms k t ≡ t) (sym e) is) ∙ get_or_default terms i.0 t u i.1 ∙ i.2 in
                let v : 64 * t.from + m.0 - 64 * t.from ≡ m.0 = omega arith in
                subst (Meets ms walk) same (m.0, m.1, subst (Has t.set.items) v by_new.1))
            | inr ne ↦ (let other = b.sets u i in
                let o = met other.name u.from other.is in
                (o.0, o.1, subst (IsWithin new) i.2 (others i.0 u i.1 ne) o.0 (value_covered walk o.0 u o.1 other) o.2))
          ])
        ]);
  }

-- a nogood without a term leaves no walk
pub empty_none : (ms : List Member) (wanted : List Need) → IsNogood ms wanted [] → HasNone ms wanted []
empty_none ms wanted h = record { none = λ walk w c. h.none walk (record { is_walk = w; consistent = c }) (λ t i. absurd (in_nil t i)) }

-- the places of a name stand together among candidates
pub together_of : (cs : List Candidate) → IsRising (members cs) → AreTogether (members cs)
together_of cs up = λ n first p last a b low high. named_between cs n first p last up a b low high

-- the words of a term are among those of a row
pub term_room : (cs : List Candidate) (t : Term) → IsTerm (members cs) t → t.from + length t.set.items ≤ length cs
term_room cs t term = elim (cases_eq (length t.set.items) 0) [
  | inl e ↦ (let is = term.is in let lt = within_there cs t.from term.name is.named in omega (arith, e, lt))
  | inr ne ↦ (let last : length t.set.items - 1 < length t.set.items = omega (arith, ne) in
      let lt = within_there cs (t.from + (length t.set.items - 1)) term.name (term.inside (length t.set.items - 1) last) in
      omega (arith, ne, lt))
]

-- the term that is read at a place
pub term_at : (ms : List Member) (wanted : List Need) (terms : List Term) (at : ℕ) (t : Term) → IsNogood ms wanted terms → at < length terms →
    t ≡ get_or terms at t → IsTerm ms t
term_at ms wanted terms at t h lt is = h.sets t (at, lt, sym is)
