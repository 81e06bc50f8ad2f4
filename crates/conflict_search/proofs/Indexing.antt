-- What a board looks things up by stays that of its places and of what is asked.
use Rattle.std.proofs.Common.{◌≡◌, ◌≢◌, ◌↔◌, ℕ, ◌+◌, ◌-◌, ◌<◌, ◌≤◌, ◌⊎◌, true, false, cond, eqb, List, [], ◌∷◌, ◌++◌, length, get_or, take, Option, Some}
use Rattle.std.proofs.Common.{None, sym, ap, ◌∙◌, subst, inl, inr, refl, arith, append-nil, length-append}
use Rattle.std.specs.Prelude.{slice_set}
use Rattle.std.specs.List.{All, Contains, filter}
use Rattle.std.specs.declared.vec.Vec.{Vec}
use Rattle.std.specs.declared.alloc.Global.{Global}
use Rattle.std.proofs.lemmas.Bool.{cases_eq, eqb-true, eq-eqb, ne_eqb}
use Rattle.std.proofs.lemmas.Option.{none-some}
use Rattle.std.proofs.lemmas.List.{get_or-set_same, get_or-set_other, length-set}
use Rattle.std.proofs.lemmas.List.Elements.{All-push, All-contains, Contains-append_left, Contains-push, Contains-push_cases, filter-append}
use Rattle.std.proofs.Math.Seq.{take-append_seam}
use Rattle.nuc_base.proofs.Lists.{in_here, all_from_in}
use Rattle.dep_order.proofs.Filtered.{in_filter, filter_has}
use Rattle.conflict_search.specs.Boards.{IsAsked, IsIndexed}
use Rattle.conflict_search.specs.declared.demands.Demand.{Demand}
use Rattle.conflict_search.specs.declared.board.Board.{Board}

-- what is asked of the name with that number
abbrev pub row : ℕ → List Demand → List Demand
row k asked = filter (λ (e : Demand). eqb e.number k) asked

row_push_same : (k : ℕ) (asked : List Demand) (a : Demand) → a.number ≡ k → row k (asked ++ a ∷ []) ≡ row k asked ++ a ∷ []
row_push_same k asked a e =
    filter-append (λ (e : Demand). eqb e.number k) asked (a ∷ [])
    ∙ ap (λ b. row k asked ++ cond b (a ∷ []) []) (eq-eqb a.number k e)

row_push_other : (k : ℕ) (asked : List Demand) (a : Demand) → a.number ≢ k → row k (asked ++ a ∷ []) ≡ row k asked
row_push_other k asked a ne =
    filter-append (λ (e : Demand). eqb e.number k) asked (a ∷ [])
    ∙ ap (λ b. row k asked ++ cond b (a ∷ []) []) (ne_eqb a.number k ne)
    ∙ append-nil (row k asked)

pub asked_in_row : (k : ℕ) (asked : List Demand) → IsAsked asked k → length (row k asked) ≡ 0 → ⊥
asked_in_row k asked h e =
    let i = filter_has (λ (e : Demand). eqb e.number k) asked h.0 h.1 (eq-eqb h.0.number k h.2) in
    absurd (omega (arith, i.1, e))

head_asked : (k : ℕ) (asked l : List Demand) → ((d : Demand) → Contains l d → Contains (row k asked) d) → (length l ≡ 0 → ⊥) → IsAsked asked k
head_asked k asked [] f some = absurd (some refl)
head_asked k asked (d ∷ l) f some =
    let r = in_filter (λ (e : Demand). eqb e.number k) asked d (f d (in_here d l)) in
    (d, r.0, eqb-true d.number k r.1)

pub row_asked : (k : ℕ) (asked : List Demand) → (length (row k asked) ≡ 0 → ⊥) → IsAsked asked k
row_asked k asked some = head_asked k asked (row k asked) (λ d i. i) some

asked_more : (asked : List Demand) (a : Demand) (k : ℕ) → IsAsked asked k → IsAsked (asked ++ a ∷ []) k
asked_more asked a k h = (h.0, Contains-append_left asked (a ∷ []) h.0 h.1, h.2)

asked_last : (asked : List Demand) (a : Demand) → IsAsked (asked ++ a ∷ []) a.number
asked_last asked a = (a, Contains-push asked a, refl)

asked_cases : (asked : List Demand) (a : Demand) (k : ℕ) → IsAsked (asked ++ a ∷ []) k → IsAsked asked k ⊎ (a.number ≡ k)
asked_cases asked a k h = elim (Contains-push_cases asked a h.0 h.1) [
  | inl i ↦ inl (h.0, i, h.2)
  | inr e ↦ inr (ap (λ (d : Demand). d.number) e ∙ h.2)
]

pub indexed_same : (count : ℕ) (old new : Board) → IsIndexed count old → new.asked.items ≡ old.asked.items → new.chosen.items ≡ old.chosen.items →
    new.rows.items ≡ old.rows.items → new.waiting.keys ≡ old.waiting.keys → IsIndexed count new
indexed_same count old new h asked chosen rows waiting = record {
  below = subst (All (λ (d : Demand). d.number < count)) (sym asked) h.below;
  chosen_count = ap length chosen ∙ h.chosen_count;
  rows_count = ap length rows ∙ h.rows_count;
  rows = λ j d below. ap (λ l. (get_or l j d).items) rows ∙ h.rows j d below ∙ ap (row j) (sym asked);
  waiting = λ k. (
    λ i. (let w = (h.waiting k).0 (subst (λ l. Contains l k) waiting i) in (
      w.0,
      subst (λ l. IsAsked l k) (sym asked) w.1,
      ap (λ l. get_or l k None) chosen
          ∙ w.2,
    )),
    λ w. subst (λ l. Contains l k) (sym waiting) ((h.waiting k).1 (w.0, subst (λ l. IsAsked l k) asked w.1, ap (λ l. get_or l k None) (sym chosen) ∙ w.2)),
  );
}

-- ---- one demand more

rows_ask : (count : ℕ) (rows : List (Vec Demand Global)) (asked : List Demand) (a : Demand) (v : Vec Demand Global) → length rows ≡ count → a.number < count
    → v.items ≡ row a.number asked ++ a ∷ []
    → ((k : ℕ) (d : Vec Demand Global) → k < count → (get_or rows k d).items ≡ row k asked)
    → (k : ℕ) (d : Vec Demand Global) → k < count → (get_or (slice_set rows a.number v) k d).items ≡ row k (asked ++ a ∷ [])
rows_ask count rows asked a v len lt e h k d below = elim (cases_eq a.number k) [
  | inl same ↦ (let inside : a.number < length rows = omega (arith, len, lt) in
      let there = ap (λ (w : Vec Demand Global). w.items) (get_or-set_same rows a.number v d inside) in
      let now = subst (λ z. (get_or (slice_set rows a.number v) z d).items ≡ row z asked ++ a ∷ []) same (there ∙ e) in
      now ∙ sym (row_push_same k asked a same))
  | inr ne ↦ ap (λ (w : Vec Demand Global). w.items) (get_or-set_other rows a.number k v d (λ f. ne (sym f)))
      ∙ h k d below ∙ sym (row_push_other k asked a ne)
]

pub indexed_ask : (count : ℕ) (old new : Board) (a : Demand) (v : Vec Demand Global) → IsIndexed count old → a.number < count
    → new.asked.items ≡ old.asked.items ++ a ∷ [] → new.chosen.items ≡ old.chosen.items
    → v.items ≡ (get_or old.rows.items a.number v).items ++ a ∷ [] → new.rows.items ≡ slice_set old.rows.items a.number v
    → ((q : ℕ) → Contains new.waiting.keys q ↔ Contains old.waiting.keys q ⊎ ((q ≡ a.number) × (get_or old.chosen.items a.number None ≡ None)))
    → IsIndexed count new
indexed_ask count old new a v h lt asked chosen pushed rows more =
    let here : v.items ≡ row a.number old.asked.items ++ a ∷ [] = pushed ∙ ap (λ l. l ++ a ∷ []) (h.rows a.number v lt) in
    record {
      below = subst (All (λ (d : Demand). d.number < count)) (sym asked) (All-push (λ (d : Demand). d.number < count) old.asked.items a h.below lt);
      chosen_count = ap length chosen ∙ h.chosen_count;
      rows_count = ap length rows ∙ length-set old.rows.items a.number v ∙ h.rows_count;
      rows = λ k d below. ap (λ l. (get_or l k d).items) rows
          ∙ rows_ask count old.rows.items old.asked.items a v h.rows_count lt here h.rows k d below
          ∙ ap (row k) (sym asked);
      waiting = λ k. (
        λ i. elim ((more k).0 i) [
          | inl j ↦ (let w = (h.waiting k).0 j in (
            w.0,
            subst (λ l. IsAsked l k) (sym asked) (asked_more old.asked.items a k w.1),
            ap (λ l. get_or l k None) chosen ∙ w.2,
          ))
          | inr e ↦ (
            subst (λ z. z < count) (sym e.0) lt,
            subst (λ l. IsAsked l k) (sym asked) (subst (IsAsked (old.asked.items ++ a ∷ [])) (sym e.0) (asked_last old.asked.items a)),
            ap (λ l. get_or l k None) chosen ∙ subst (λ z. get_or old.chosen.items z None ≡ None) (sym e.0) e.1,
          )
        ],
        λ w. (let free : get_or old.chosen.items k None ≡ None = ap (λ l. get_or l k None) (sym chosen) ∙ w.2 in
            elim (asked_cases old.asked.items a k (subst (λ l. IsAsked l k) asked w.1)) [
              | inl i ↦ (more k).1 (inl ((h.waiting k).1 (w.0, i, free)))
              | inr e ↦ (more k).1 (inr (sym e, subst (λ z. get_or old.chosen.items z None ≡ None) (sym e) free))
            ]),
      );
    }

-- ---- one demand less

rows_unask : (count : ℕ) (rows : List (Vec Demand Global)) (asked : List Demand) (a : Demand) (v : Vec Demand Global) → length rows ≡ count → a.number < count
    → v.items ≡ row a.number asked
    → ((k : ℕ) (d : Vec Demand Global) → k < count → (get_or rows k d).items ≡ row k (asked ++ a ∷ []))
    → (k : ℕ) (d : Vec Demand Global) → k < count → (get_or (slice_set rows a.number v) k d).items ≡ row k asked
rows_unask count rows asked a v len lt e h k d below = elim (cases_eq a.number k) [
  | inl same ↦ (let inside : a.number < length rows = omega (arith, len, lt) in
      let there = ap (λ (w : Vec Demand Global). w.items) (get_or-set_same rows a.number v d inside) in
      subst (λ z. (get_or (slice_set rows a.number v) z d).items ≡ row z asked) same (there ∙ e))
  | inr ne ↦ ap (λ (w : Vec Demand Global). w.items) (get_or-set_other rows a.number k v d (λ f. ne (sym f)))
      ∙ h k d below ∙ row_push_other k asked a ne
]

popped_row : (k : ℕ) (asked l m : List Demand) (a : Demand) → a.number ≡ k → l ≡ row k (asked ++ a ∷ []) → m ≡ take (length l - 1) l → m ≡ row k asked
popped_row k asked l m a e f g =
    let whole : l ≡ row k asked ++ a ∷ [] = f ∙ row_push_same k asked a e in
    let n : length l - 1 ≡ length (row k asked) = omega (arith, ap length whole, length-append (row k asked) (a ∷ [])) in
    g ∙ ap (λ z. take z l) n ∙ ap (take (length (row k asked))) whole ∙ take-append_seam (row k asked) (a ∷ [])

pub indexed_unask : (count : ℕ) (old new : Board) (a : Demand) (v : Vec Demand Global) → IsIndexed count old
    → old.asked.items ≡ new.asked.items ++ a ∷ [] → new.chosen.items ≡ old.chosen.items
    → v.items ≡ take (length (get_or old.rows.items a.number v).items - 1) (get_or old.rows.items a.number v).items →
    new.rows.items ≡ slice_set old.rows.items a.number v
    → ((q : ℕ) → Contains new.waiting.keys q ↔ Contains old.waiting.keys q × (length v.items ≡ 0 → q ≢ a.number))
    → IsIndexed count new
indexed_unask count old new a v h asked chosen popped rows fewer =
    let rest = new.asked.items in
    let below_all = subst (All (λ (d : Demand). d.number < count)) asked h.below in
    let lt : a.number < count = All-contains (λ (d : Demand). d.number < count) (rest ++ a ∷ []) a below_all (Contains-push rest a) in
    let was : (k : ℕ) (d : Vec Demand Global) → k < count → (get_or old.rows.items k d).items ≡ row k (rest ++ a ∷ []) = λ k d below. h.rows k d below
    ∙ ap (row k) asked in
    let here : v.items ≡ row a.number rest = popped_row a.number rest (get_or old.rows.items a.number v).items v.items a refl (was a.number v lt) popped in
    record {
      below = all_from_in (λ (d : Demand). d.number < count) rest (λ d i. All-contains (λ (d : Demand). d.number < count) (rest ++ a
          ∷ []) d below_all (Contains-append_left rest (a ∷ []) d i));
      chosen_count = ap length chosen ∙ h.chosen_count;
      rows_count = ap length rows ∙ length-set old.rows.items a.number v ∙ h.rows_count;
      rows = λ k d below. ap (λ l. (get_or l k d).items) rows ∙ rows_unask count old.rows.items rest a v h.rows_count lt here was k d below;
      waiting = λ k. (
        λ i. (let j = (fewer k).0 i in
            let w = (h.waiting k).0 j.0 in
            let free : get_or new.chosen.items k None ≡ None = ap (λ l. get_or l k None) chosen ∙ w.2 in
            elim (asked_cases rest a k (subst (λ l. IsAsked l k) asked w.1)) [
              | inl m ↦ (w.0, m, free)
              | inr e ↦ elim (cases_eq (length v.items) 0) [
                | inl none ↦ absurd (j.1 none (sym e))
                | inr some ↦ (w.0, subst (IsAsked rest) e (row_asked a.number rest (λ z. some (ap length here ∙ z))), free)
              ]
            ]),
        λ w. (fewer k).1 (
          (h.waiting k).1 (w.0, subst (λ l. IsAsked l k) (sym asked) (asked_more rest a k w.1), ap (λ l. get_or l k None) (sym chosen) ∙ w.2),
          λ none e. asked_in_row a.number rest (subst (IsAsked rest) e w.1) (sym (ap length here) ∙ none),
        ),
      );
    }

-- ---- choosing

pub indexed_choose : (count : ℕ) (old new : Board) (k p : ℕ) → IsIndexed count old → k < count
    → new.asked.items ≡ old.asked.items → new.chosen.items ≡ slice_set old.chosen.items k (Some p) → new.rows.items ≡ old.rows.items
    → ((q : ℕ) → Contains new.waiting.keys q ↔ Contains old.waiting.keys q × (q ≢ k))
    → IsIndexed count new
indexed_choose count old new k p h lt asked chosen rows fewer =
    let inside : k < length old.chosen.items = omega (arith, h.chosen_count, lt) in
    record {
      below = subst (All (λ (d : Demand). d.number < count)) (sym asked) h.below;
      chosen_count = ap length chosen ∙ length-set old.chosen.items k (Some p) ∙ h.chosen_count;
      rows_count = ap length rows ∙ h.rows_count;
      rows = λ j d below. ap (λ l. (get_or l j d).items) rows ∙ h.rows j d below ∙ ap (row j) (sym asked);
      waiting = λ j. (
        λ i. (let f = (fewer j).0 i in
            let w = (h.waiting j).0 f.0 in
            (w.0, subst (λ l. IsAsked l j) (sym asked) w.1, ap (λ l. get_or l j None) chosen ∙ get_or-set_other old.chosen.items k j (Some p) None f.1 ∙ w.2)),
        λ w. elim (cases_eq j k) [
          | inl e ↦ absurd (none-some p (sym w.2 ∙ ap (λ l. get_or l j None) chosen ∙ subst (λ z. get_or (slice_set old.chosen.items k (Some p)) z None
              ≡ Some p) (sym e) (get_or-set_same old.chosen.items k (Some p) None inside)))
          | inr ne ↦ (fewer j).1 (
            (h.waiting j).1 (
              w.0,
              subst (λ l. IsAsked l j) asked w.1,
              sym (get_or-set_other old.chosen.items k j (Some p) None ne)
                  ∙ ap (λ l. get_or l j None) (sym chosen) ∙ w.2,
            ),
            ne,
          )
        ],
      );
    }

pub indexed_unchoose : (count : ℕ) (old new : Board) (k : ℕ) → IsIndexed count old → k < count → IsAsked old.asked.items k
    → new.asked.items ≡ old.asked.items → new.chosen.items ≡ slice_set old.chosen.items k None → new.rows.items ≡ old.rows.items
    → ((q : ℕ) → Contains new.waiting.keys q ↔ Contains old.waiting.keys q ⊎ (q ≡ k))
    → IsIndexed count new
indexed_unchoose count old new k h lt is_asked asked chosen rows more =
    let inside : k < length old.chosen.items = omega (arith, h.chosen_count, lt) in
    let other : (j : ℕ) → j ≢ k → get_or new.chosen.items j None ≡ get_or old.chosen.items j None =
    λ j ne. ap (λ l. get_or l j None) chosen ∙ get_or-set_other old.chosen.items k j None None ne in
    let here : get_or new.chosen.items k None ≡ None = ap (λ l. get_or l k None) chosen ∙ get_or-set_same old.chosen.items k None None inside in
    record {
      below = subst (All (λ (d : Demand). d.number < count)) (sym asked) h.below;
      chosen_count = ap length chosen ∙ length-set old.chosen.items k None ∙ h.chosen_count;
      rows_count = ap length rows ∙ h.rows_count;
      rows = λ j d below. ap (λ l. (get_or l j d).items) rows ∙ h.rows j d below ∙ ap (row j) (sym asked);
      waiting = λ j. (
        λ i. elim (cases_eq j k) [
          | inl e ↦ (
            subst (λ z. z < count) (sym e) lt,
            subst (λ l. IsAsked l j) (sym asked) (subst (IsAsked old.asked.items) (sym e) is_asked),
            subst (λ z. get_or new.chosen.items z None ≡ None) (sym e) here,
          )
          | inr ne ↦ elim ((more j).0 i) [
            | inl m ↦ (let w = (h.waiting j).0 m in (w.0, subst (λ l. IsAsked l j) (sym asked) w.1, other j ne ∙ w.2))
            | inr e ↦ absurd (ne e)
          ]
        ],
        λ w. elim (cases_eq j k) [
          | inl e ↦ (more j).1 (inr e)
          | inr ne ↦ (more j).1 (inl ((h.waiting j).1 (w.0, subst (λ l. IsAsked l j) asked w.1, sym (other j ne) ∙ w.2)))
        ],
      );
    }
