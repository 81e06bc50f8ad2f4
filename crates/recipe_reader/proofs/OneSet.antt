-- At most one set is preferred, one is where one is valid, and sets depend on the elements of what is wanted alone.
use Rattle.std.proofs.Common.{◌≡◌, ◌⊎◌, ℕ, zero, suc, ◌+◌, ◌<◌, ◌≤◌, List, [], ◌∷◌, ◌++◌, length, Option, Some, None, sym, ap, ◌∙◌, subst, inl, inr, arith}
use Rattle.std.specs.Prelude.{slice_index}
use Rattle.std.specs.List.{All, Contains}
use Rattle.std.specs.List.Sorted.{IsStrictlyIncreasing}
use Rattle.std.specs.Ordering.{ordering_reverse}
use Rattle.std.specs.declared.cmp.Ordering.TheVariants.{Less}
use Rattle.std.proofs.lemmas.Bool.{cases_order}
use Rattle.std.proofs.lemmas.List.Elements.{All-contains, All-contains_itself, All-weaker}
use Rattle.std.proofs.lemmas.Option.{same_Some}
use Rattle.nuc_base.proofs.Lists.{in_nil, in_cons, in_here, in_there}
use Rattle.npm_ranges.specs.OrderLaws.{version_total}
use Rattle.npm_ranges.specs.Versions.{version_order}
use Rattle.recipe_reader.specs.Members.{Need, Member, IsRising}
use Rattle.recipe_reader.specs.Sets.{name_of, required_names, IsReached, by_wanted, by_need, IsMet, IsNext, IsWalk, IsWalkOf, IsOlder, IsAhead, IsValid}
use Rattle.recipe_reader.specs.Sets.{IsPreferred}
use Rattle.recipe_reader.specs.Searches.{IsFirstUntaken, IsConsistent, HasNone, IsBest}
use Rattle.recipe_reader.specs.SetLaws.{AreAmong}
use Rattle.recipe_reader.proofs.NameOrder.{same_or_not}
use Rattle.recipe_reader.proofs.Preferring.{ahead_of, no_valid, rise_head, rise_tail}
use Rattle.recipe_reader.proofs.Required.{first_of_names, named_or_not, required_from, required_by_wanted, required_by_need}
use Rattle.recipe_reader.proofs.Room.{room, room_falls}
use Rattle.recipe_reader.proofs.Searching.{AreTried, best_found, best_here, next_same, none_here, none_tried, tried_here, tried_none, walk_ends}
use Rattle.recipe_reader.proofs.ValidSets.{AreWithin, valid_of}

-- ---- a valid set has one walk

abbrev IsSingle : List Member → List ℕ → Type 0
IsSingle ms s = (p q : ℕ) → Contains s p → Contains s q → name_of ms p ≡ name_of ms q → p ≡ q

walks_one : (ms : List Member) (wanted : List Need) (s : List ℕ) → IsSingle ms s → (taken a b : List ℕ) → AreWithin a s → AreWithin b s →
    IsWalk ms wanted taken a → IsWalk ms wanted taken b → a ≡ b
walks_one ms wanted s one taken [] b within other w v = sym (walk_ends ms wanted taken b w v)
walks_one ms wanted s one taken (p ∷ a) [] within other w v = walk_ends ms wanted taken (p ∷ a) v w
walks_one ms wanted s one taken (p ∷ a) (q ∷ b) within other w v =
    let named = next_same ms wanted taken w.0.0 v.0.0 w.0.2 v.0.2 in
    let same : p ≡ q = one p q (within p (in_here p a)) (other q (in_here q b)) (w.0.1 ∙ ap Some named ∙ sym v.0.1) in
    let rest = walks_one ms wanted s one (taken ++ p ∷ []) a b (λ x i. within x (in_there p a x i)) (λ x i. other x (in_there q b x i)) w.1
    (subst (λ x. IsWalk ms wanted (taken ++ x ∷ []) b) (sym same) v.1) in
    ap (λ xs. p ∷ xs) rest ∙ ap (λ x. x ∷ b) same

walk_one : (ms : List Member) (wanted : List Need) (s a b : List ℕ) → IsValid ms wanted s → IsWalkOf ms wanted s a → IsWalkOf ms wanted s b → a ≡ b
walk_one ms wanted s a b v h k =
    walks_one ms wanted s v.one_version [] a b (λ x i. All-contains (Contains s) a x h.1 i) (λ x i. All-contains (Contains s) b x k.1 i) h.0 k.0

-- ---- of two walks one is ahead at most

both_less : (a b : List ℕ) → version_order a b ≡ Less → version_order b a ≡ Less → ⊥
both_less a b h k = cc (sym k ∙ version_total.antisymm b a ∙ ap ordering_reverse h)

not_older_both : (ms : List Member) (p q : ℕ) → IsOlder ms q p → IsOlder ms p q → ⊥
not_older_both ms p q h k =
    let a = same_Some h.1 k.2 (sym h.5 ∙ k.6) in
    let b = same_Some h.2 k.1 (sym h.6 ∙ k.5) in
    both_less h.1 h.2 h.7 (subst (λ x. version_order h.2 x ≡ Less) (sym a) (subst (λ x. version_order x k.2 ≡ Less) (sym b) k.7))

ahead_both : (ms : List Member) (walk other : List ℕ) → IsAhead ms walk other → IsAhead ms other walk → ⊥
ahead_both ms [] other h k = h
ahead_both ms (p ∷ walk) [] h k = h
ahead_both ms (p ∷ walk) (q ∷ other) (inl h) (inl k) = ahead_both ms walk other h.1 k.1
ahead_both ms (p ∷ walk) (q ∷ other) (inl h) (inr k) = let k' = subst (λ x. IsOlder ms x q) h.0 k in not_older_both ms q q k' k'
ahead_both ms (p ∷ walk) (q ∷ other) (inr h) (inl k) = let h' = subst (λ x. IsOlder ms x p) k.0 h in not_older_both ms p p h' h'
ahead_both ms (p ∷ walk) (q ∷ other) (inr h) (inr k) = not_older_both ms p q h k

pub one_preferred : (ms : List Member) (wanted : List Need) (s t : List ℕ) → IsPreferred ms wanted s → IsPreferred ms wanted t → s ≡ t
one_preferred ms wanted s t h k = elim (same_or_not s t) [
  | inl e ↦ e
  | inr differs ↦ (let behind = h.ahead t k.valid (λ e. differs (sym e)) in
      let before = k.ahead s h.valid differs in
      let second : behind.0 ≡ k.walk = walk_one ms wanted t behind.0 k.walk k.valid behind.1 k.is_walk in
      let first : before.0 ≡ h.walk = walk_one ms wanted s before.0 h.walk h.valid before.1 h.is_walk in
      absurd (ahead_both ms h.walk k.walk (subst (IsAhead ms h.walk) second behind.2) (subst (IsAhead ms k.walk) first before.2)))
]

-- ---- the places of a walk in rising order

pub cons_rises : (x : ℕ) (xs : List ℕ) → ((z : ℕ) → Contains xs z → x < z) → IsStrictlyIncreasing xs → IsStrictlyIncreasing (x ∷ xs)
cons_rises x [] h up k lt = absurd (omega (arith, lt))
cons_rises x (y ∷ ys) h up zero lt = h y (in_here y ys)
cons_rises x (y ∷ ys) h up (suc k) lt =
    let e : suc k + 1 ≡ suc (k + 1) = omega arith in
    let below : k + 1 < length (y ∷ ys) = omega (arith, lt) in
    subst (λ m. slice_index (y ∷ ys) k < slice_index (x ∷ y ∷ ys) m) (sym e) (up k below)

-- a rising list of the same numbers
pub record Rising (xs : List ℕ) : Type 0 where
  pub list : List ℕ
  pub rises : IsStrictlyIncreasing list
  pub has : AreWithin xs list
  pub only : AreWithin list xs

pub put : (x : ℕ) (ys : List ℕ) → IsStrictlyIncreasing ys → Rising (x ∷ ys)
put x [] h = record { list = x ∷ []; rises = cons_rises x [] (λ z i. absurd (in_nil z i)) h; has = λ z i. i; only = λ z i. i }
put x (y ∷ ys) h = elim (cases_order x y) [
  | inl same ↦ record {
    list = y ∷ ys;
    rises = h;
    has = λ z i. elim (in_cons x (y ∷ ys) z i) [ inl e ↦ subst (Contains (y ∷ ys)) (sym same ∙ e) (in_here y ys) | inr j ↦ j ];
    only = λ z i. in_there x (y ∷ ys) z i;
  }
  | inr (inl less) ↦ record {
    list = x ∷ y ∷ ys;
    rises = cons_rises x (y ∷ ys) (λ z i. elim (in_cons y ys z i) [
      | inl e ↦ omega (arith, less, e)
      | inr j ↦ (let more = rise_head y ys z h j in omega (arith, less, more))
    ]) h;
    has = λ z i. i;
    only = λ z i. i;
  }
  | inr (inr more) ↦ (let r = put x ys (rise_tail y ys h) in record {
    list = y ∷ r.list;
    rises = cons_rises y r.list (λ z i. elim (in_cons x ys z (r.only z i)) [
      | inl e ↦ omega (arith, more, e)
      | inr j ↦ rise_head y ys z h j
    ]) r.rises;
    has = λ z i. elim (in_cons x (y ∷ ys) z i) [
      | inl e ↦ in_there y r.list z (r.has z (subst (Contains (x ∷ ys)) e (in_here x ys)))
      | inr j ↦ elim (in_cons y ys z j) [
        | inl e ↦ subst (Contains (y ∷ r.list)) e (in_here y r.list)
        | inr k ↦ in_there y r.list z (r.has z (in_there x ys z k))
      ]
    ];
    only = λ z i. elim (in_cons y r.list z i) [
      | inl e ↦ in_there x (y ∷ ys) z (subst (Contains (y ∷ ys)) e (in_here y ys))
      | inr j ↦ elim (in_cons x ys z (r.only z j)) [
        | inl e ↦ subst (Contains (x ∷ y ∷ ys)) e (in_here x (y ∷ ys))
        | inr k ↦ in_there x (y ∷ ys) z (in_there y ys z k)
      ]
    ];
  })
]

pub rising_of : (xs : List ℕ) → Rising xs
rising_of [] = record { list = []; rises = λ k lt. absurd (omega (arith, lt)); has = λ z i. i; only = λ z i. i }
rising_of (x ∷ xs) =
    let r = rising_of xs in
    let p = put x r.list r.rises in
    record {
      list = p.list;
      rises = p.rises;
      has = λ z i. elim (in_cons x xs z i) [
        | inl e ↦ p.has z (subst (Contains (x ∷ r.list)) e (in_here x r.list))
        | inr j ↦ p.has z (in_there x r.list z (r.has z j))
      ];
      only = λ z i. elim (in_cons x r.list z (p.only z i)) [
        | inl e ↦ subst (Contains (x ∷ xs)) e (in_here x xs)
        | inr j ↦ in_there x xs z (r.only z j)
      ];
    }

-- ---- it cannot be that a walk is neither the best nor none is consistent

abbrev Denied : Type 0 → Type 0
Denied P = P → ⊥

abbrev IsSearched : List Member → List Need → List ℕ → Type 0
IsSearched ms wanted taken = HasNone ms wanted taken ⊎ ((all : List ℕ) × IsBest ms wanted taken all)

either_way : {P : Type 0} → Denied (P ⊎ Denied P) → ⊥
either_way k = k (inr (λ p. k (inl p)))

module _ (ms : List Member) (wanted : List Need) (up : IsRising ms) where
  -- the places of a name, from the last one on
  tries : (taken : List ℕ) (n : List ℕ) → IsNext ms wanted taken n
      → ((p : ℕ) → name_of ms p ≡ Some n → Denied (Denied (IsSearched ms wanted (taken ++ p ∷ []))))
      → (i : ℕ) → AreTried ms wanted taken n i → Denied (Denied (IsSearched ms wanted taken))
  tries taken n next found zero tried k = k (inl (none_tried ms wanted taken n next tried))
  tries taken n next found (suc j) tried k =
      let e : suc j ≡ j + 1 = omega arith in
      let later : AreTried ms wanted taken n (j + 1) = subst (AreTried ms wanted taken n) e tried in
      elim (named_or_not (name_of ms j) n) [
        | inr other ↦ tries taken n next found j (tried_here ms wanted taken n j (λ named. absurd (other named)) later) k
        | inl named ↦ found j named (λ r. elim r [
          | inl none ↦ tries taken n next found j (tried_here ms wanted taken n j (λ _. none) later) k
          | inr best ↦ k (inr (best.0, best_found ms wanted taken best.0 n j up next named later best.1))
        ])
      ]

  -- where the places taken are consistent, by the next name
  goes_on : (taken : List ℕ) → IsConsistent ms wanted taken → (first : Option (List ℕ)) → IsFirstUntaken ms taken (required_names ms wanted taken) first
      → ((n : List ℕ) → IsNext ms wanted taken n → (p : ℕ) → name_of ms p ≡ Some n → Denied (Denied (IsSearched ms wanted (taken ++ p ∷ []))))
      → Denied (Denied (IsSearched ms wanted taken))
  goes_on taken good None done found k = k (inr (taken, best_here ms wanted taken good done))
  goes_on taken good (Some n) next found k = tries taken n next (found n next) (length ms) (tried_none ms wanted taken n) k

  searched : (fuel : ℕ) (taken : List ℕ) → room ms taken ≤ fuel → Denied (Denied (IsSearched ms wanted taken))
  searched zero taken le k = either_way {P = IsConsistent ms wanted taken} (λ d. elim d [
    | inr bad ↦ k (inl (none_here ms wanted taken bad))
    | inl good ↦ (let first = first_of_names ms taken (required_names ms wanted taken) in
        goes_on taken good first.0 first.1 (λ n next p named. absurd (let less = room_falls ms taken p n named next.untaken in omega (arith, le, less))) k)
  ])
  searched (suc fuel) taken le k = either_way {P = IsConsistent ms wanted taken} (λ d. elim d [
    | inr bad ↦ k (inl (none_here ms wanted taken bad))
    | inl good ↦ (let first = first_of_names ms taken (required_names ms wanted taken) in
        goes_on taken good first.0 first.1
        (λ n next p named. (let less = room_falls ms taken p n named next.untaken in
        let more : room ms (taken ++ p ∷ []) ≤ fuel = omega (arith, le, less) in
        searched fuel (taken ++ p ∷ []) more)) k)
  ])

  best_preferred : (all : List ℕ) → IsBest ms wanted [] all → (t : List ℕ) × IsPreferred ms wanted t
  best_preferred all best =
      let r = rising_of best.walk in
      let good = subst (IsConsistent ms wanted) best.is best.consistent in (
        r.list,
        record {
          valid = valid_of ms wanted best.walk r.list best.is_walk good r.rises r.has r.only;
          walk = best.walk;
          is_walk = (best.is_walk, All-weaker (Contains best.walk) (Contains r.list) r.has best.walk (All-contains_itself best.walk));
          ahead = λ t v other. ahead_of ms wanted all r.list best r.rises r.only r.has t v other;
        },
      )

  pub has_preferred : (s : List ℕ) → IsValid ms wanted s → ((t : List ℕ) → IsPreferred ms wanted t → ⊥) → ⊥
  has_preferred s v none = searched (room ms []) [] (omega arith) (λ r. elim r [
    | inl nothing ↦ no_valid ms wanted nothing s v
    | inr best ↦ (let p = best_preferred best.0 best.1 in none p.0 p.1)
  ])

-- ---- the elements of what is wanted alone count

module _ (ms : List Member) (v w : List Need) (to : AreAmong v w) (from : AreAmong w v) where
  required_of : (a b : List Need) → AreAmong a b → (taken : List ℕ) (n : List ℕ) → Contains (required_names ms a taken) n →
      Contains (required_names ms b taken) n
  required_of a b among taken n i = elim (required_from ms a taken n i) [
    | inl r ↦ subst (Contains (required_names ms b taken)) r.2 (required_by_wanted ms b taken r.0 (among r.0 r.1))
    | inr r ↦ subst (Contains (required_names ms b taken)) r.4 (required_by_need ms b taken r.0 r.1 r.2 r.3)
  ]

  next_of : (taken : List ℕ) (n : List ℕ) → IsNext ms v taken n → IsNext ms w taken n
  next_of taken n h = record {
    listed = required_of v w to taken n h.listed;
    untaken = h.untaken;
    least = λ m i out. h.least m (required_of w v from taken m i) out;
  }

  walk_of_same : (taken walk : List ℕ) → IsWalk ms v taken walk → IsWalk ms w taken walk
  walk_of_same taken [] h = λ n i. h n (required_of w v from taken n i)
  walk_of_same taken (p ∷ ps) h = ((h.0.0, h.0.1, next_of taken h.0.0 h.0.2), walk_of_same (taken ++ p ∷ []) ps h.1)

  reached_of : (s : List ℕ) {p : ℕ} → IsReached ms v s p → IsReached ms w s p
  reached_of s (by_wanted {p} n i j e) = by_wanted n i (to n j) e
  reached_of s (by_need {p} {q} r n) = by_need (reached_of s r) n

  pub valid_of_same : (s : List ℕ) → IsValid ms v s → IsValid ms w s
  valid_of_same s h = record {
    rising = h.rising;
    inside = h.inside;
    one_version = h.one_version;
    wanted_met = All-weaker (Contains w) (λ (n : Need). IsMet ms s n.name n.range) (λ n i. All-contains (λ (n : Need). IsMet ms s n.name n.range) v n
        h.wanted_met (from n i)) w (All-contains_itself w);
    needs_met = h.needs_met;
    reached = All-weaker (λ p. IsReached ms v s p) (λ p. IsReached ms w s p) (λ p r. reached_of s r) s h.reached;
    acyclic = h.acyclic;
  }

module _ (ms : List Member) (v w : List Need) (to : AreAmong v w) (from : AreAmong w v) where
  pub preferred_of_same : (s : List ℕ) → IsPreferred ms v s → IsPreferred ms w s
  preferred_of_same s h = record {
    valid = valid_of_same ms v w to from s h.valid;
    walk = h.walk;
    is_walk = (walk_of_same ms v w to from [] h.walk h.is_walk.0, h.is_walk.1);
    ahead = λ t valid other. (let r = h.ahead t (valid_of_same ms w v from to t valid) other in
        (r.0, (walk_of_same ms v w to from [] r.0 r.1.0, r.1.1), r.2));
  }
