-- The orders of needs are kept where no item is taken.
use Rattle.std.proofs.Common.{◌≡◌, ℕ, List, [], ◌∷◌, map, Some, Bool, true, false, refl, sym, ap, ◌∙◌, inl, inr, arith, subst}
use Rattle.std.specs.Prelude.{◌&&◌, ◌||◌, not, if◌then◌else◌}
use Rattle.std.specs.List.{list_any, list_all, AllByRecursion}
use Rattle.std.specs.Str.{bytes_eq}
use Rattle.lifecycle.specs.declared.kinds.After.TheVariants as after
use Rattle.components.specs.Changes.{leaving}
use Rattle.components.specs.Components.{ComponentState, component_name, is_leaving, under_way, is_gone}
use Rattle.components.specs.Fitted.{Fitted, name_of}
use Rattle.components.specs.Marks.{Flagged, marked, may_restart}
use Rattle.components.specs.Turns.{is_met}
use Rattle.law_supervisor.proofs.Lists.{either, clash}
use Rattle.components.proofs.Whole.{firsts}
use Rattle.law_termination.specs.Kept.{IsOrderedPart, AllBelow, newest, are_there}

abbrev pub View : Type 0
View = List ℕ × Bool × Fitted

abbrev pub view : ComponentState → View
view p = (component_name p, is_leaving p, newest p)

abbrev there_in : List View → List (List ℕ) → Bool
there_in vs ns = list_all (λ n. list_any (λ (v : View). bytes_eq v.0 n && not v.1) vs) ns

met_same : (ps : List ComponentState) (n : List ℕ) → is_met (λ q. not (is_leaving q)) ps n ≡ list_any (λ (v : View). bytes_eq v.0 n && not v.1) (map view ps)
met_same [] n = refl
met_same (p ∷ ps) n = ap (λ b. (bytes_eq (component_name p) n && not (is_leaving p)) || b) (met_same ps n)

there_same : (ps : List ComponentState) (ns : List (List ℕ)) → are_there ps ns ≡ there_in (map view ps) ns
there_same ps [] = refl
there_same ps (n ∷ ns) = rw (met_same ps n) (ap (λ b. list_any (λ (v : View). bytes_eq v.0 n && not v.1) (map view ps) && b) (there_same ps ns))

record IsIn (s : List ℕ → ℕ) (vs : List View) (v : View) : Type 0 where
  hard : v.1 ≡ false → AllBelow s (s v.0) v.2.hard
  soft : v.1 ≡ false → AllBelow s (s v.0) v.2.soft
  hard_there : v.1 ≡ false → there_in vs v.2.hard ≡ true
  soft_there : v.1 ≡ false → there_in vs v.2.soft ≡ true

abbrev pub Stands : (List ℕ → ℕ) → ComponentState → Type 0
Stands r p = p.life.gone ≡ false → AllBelow r (r (component_name p)) p.fitted.hard

module _ (r s : List ℕ → ℕ) where
  into : (all ps : List ComponentState) → AllByRecursion (IsOrderedPart r s all) ps → AllByRecursion (IsIn s (map view all)) (map view ps)
  into all [] a = tt
  into all (p ∷ ps) a = (
    record {
      hard = a.0.hard;
      soft = a.0.soft;
      hard_there = λ l. sym (there_same all (newest p).hard) ∙ a.0.hard_there l;
      soft_there = λ l. sym (there_same all (newest p).soft) ∙ a.0.soft_there l;
    },
    into all ps a.1,
  )

  out_of : (all ps : List ComponentState) → AllByRecursion (Stands r) ps → AllByRecursion (IsIn s (map view all)) (map view ps) →
      AllByRecursion (IsOrderedPart r s all) ps
  out_of all [] t a = tt
  out_of all (p ∷ ps) t a = (
    record {
      stands = t.0;
      hard = a.0.hard;
      soft = a.0.soft;
      hard_there = λ l. there_same all (newest p).hard ∙ a.0.hard_there l;
      soft_there = λ l. there_same all (newest p).soft ∙ a.0.soft_there l;
    },
    out_of all ps t.1 a.1,
  )

  pub still_ordered : (ps qs : List ComponentState) → map view qs ≡ map view ps → AllByRecursion (Stands r) qs → AllByRecursion (IsOrderedPart r s ps) ps →
      AllByRecursion (IsOrderedPart r s qs) qs
  still_ordered ps qs e t a = out_of qs qs t (subst (λ (vs : List View). AllByRecursion (IsIn s vs) vs) (sym e) (into ps ps a))

  pub stands_all : (all ps : List ComponentState) → AllByRecursion (IsOrderedPart r s all) ps → AllByRecursion (Stands r) ps
  stands_all all [] a = tt
  stands_all all (p ∷ ps) a = (a.0.stands, stands_all all ps a.1)

  pub marked_stands : (fs : Flagged) → AllByRecursion (Stands r) (firsts fs) → AllByRecursion (Stands r) (marked may_restart fs)
  marked_stands [] a = tt
  marked_stands (f ∷ fs) a = elim (f.1 && may_restart f.0) as (λ (y : Bool). AllByRecursion (Stands r)
      ((if y then record f.0 { stop = Some after.Restart } else f.0) ∷ marked may_restart fs))
      [ true ↦ (a.0, marked_stands fs a.1) | false ↦ (a.0, marked_stands fs a.1) ]

  -- whoever leaves has no order to keep among those that stay
  pub left_ordered : (all ps : List ComponentState) → AllByRecursion (IsOrderedPart r s all) ps → (others : List ComponentState) →
      AllByRecursion (IsOrderedPart r s others) (map leaving ps)
  left_ordered all [] a others = tt
  left_ordered all (p ∷ ps) a others = (left_one p a.0, left_ordered all ps a.1 others)
    where
      left_leaves : (p : ComponentState) → is_leaving (leaving p) ≡ true
      left_leaves p = grind arith

      left_same : (p : ComponentState) → ((leaving p).life ≡ p.life) × ((leaving p).fitted ≡ p.fitted)
      left_same p = elim (either p.life.gone) [
        | inl g ↦ rw g (refl, refl)
        | inr g ↦ elim (either (is_gone (under_way p.life))) [
          | inl u ↦ rw g
              (rw u (refl, refl))
          | inr u ↦ rw g (rw u (refl, refl))
        ]
      ]

      left_one : (p : ComponentState) → IsOrderedPart r s all p → IsOrderedPart r s others (leaving p)
      left_one p o = record {
        stands = λ g. let x = left_same p in subst (λ (f : Fitted). AllBelow r (r (name_of f)) f.hard) (sym x.1) (o.stands (sym (ap (λ c. c.gone) x.0) ∙ g));
        hard = λ l. clash (is_leaving (leaving p)) (left_leaves p) l;
        soft = λ l. clash (is_leaving (leaving p)) (left_leaves p) l;
        hard_there = λ l. clash (is_leaving (leaving p)) (left_leaves p) l;
        soft_there = λ l. clash (is_leaving (leaving p)) (left_leaves p) l;
      }
